-- How a reader finds the pairs of a URL, behind the parts before them.
use Rattle.std.specs.Prelude.{◌≡◌, ◌<◌, ℕ, List, [], length, Option, Some, None, Result, Ok, Err}
use Rattle.pgw_types.specs.Marks.{before_mark, behind_mark, or_empty}
use Rattle.pgw_config_text.specs.Part.{next_cut}
use Rattle.pgw_config_text.specs.Url.{url_text, pair_of}
use Rattle.pgw_config_text.specs.declared.part.Cut.{Cut}
use Rattle.pgw_config_text.specs.declared.part.Fault.TheVariants as fault

abbrev pub with_pair : Cut → List ℕ → List ℕ → Cut
with_pair cut key value = next_cut cut (pair_of (url_text key) (url_text value))

-- behind these parts stand pairs, and with them the parts are those of the whole text
pub data AddsPairs : Cut → List ℕ → Cut → Type 0 where
  ended : {cut : Cut} → AddsPairs cut [] cut
  no_pair : {cut : Cut} {text : List ℕ} → 0 < length text → behind_mark 61 text ≡ None
      → AddsPairs cut text (next_cut cut (Err fault.Syntax))
  paired : {cut whole : Cut} {text written : List ℕ} → behind_mark 61 text ≡ Some written
      → AddsPairs (with_pair cut (before_mark 61 text) (before_mark 38 written))
      (or_empty (behind_mark 38 written)) whole
      → AddsPairs cut text whole
