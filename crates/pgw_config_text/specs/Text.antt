-- The parts of a connection text.
use Rattle.std.specs.Prelude.{ℕ, List, codes, Option, Some, None}
use Rattle.std.specs.Str.{chars}
use Rattle.pgw_config_text.specs.declared.part.Cut.{Cut}
use Rattle.pgw_types.specs.Marks.{behind_word}
use Rattle.pgw_config_text.specs.KeyValue.{IsCut}
use Rattle.pgw_config_text.specs.Url.{IsUrl}

abbrev pub url_or : Option (List ℕ) → Option (List ℕ) → Option (List ℕ)
url_or (Some rest) other = Some rest
url_or None other = other

-- what stands behind the scheme of a URL
abbrev pub url_in : List ℕ → Option (List ℕ)
url_in text =
    url_or (behind_word (codes "postgres://") text) (behind_word (codes "postgresql://") text)

abbrev pub HasCutBy : Option (List ℕ) → List ℕ → Cut → Type 0
HasCutBy (Some rest) text cut = IsUrl rest cut
HasCutBy None text cut = IsCut (chars text) cut.parts cut.fault

-- these are the text's parts, up to its end or up to the first fault of form
abbrev pub HasCut : List ℕ → Cut → Type 0
HasCut text cut = HasCutBy (url_in text) text cut
