-- A connection text is cut in one way.
use Rattle.std.proofs.Common.{◌≡◌, ℕ, List, Option, Some, None, Result, Ok, Err, refl, subst}
use Rattle.std.specs.Result.{IfOk}
use Rattle.std.specs.Str.{chars}
use Rattle.pgw_types.specs.declared.memory.OutOfMemory.{OutOfMemory}
use Rattle.pgw_config_text.specs.declared.part.Cut.{Cut}
use Rattle.pgw_config_text.specs.KeyValue.{IsCut}
use Rattle.pgw_config_text.specs.Url.{IsUrl}
use Rattle.pgw_config_text.specs.Text.{url_in, HasCutBy, HasCut}
use Rattle.pgw_config_text.proofs.CutLaws.{same_cut}
use Rattle.pgw_config_text.proofs.UrlLaws as url

same_record : (one two : Cut) → (one.parts ≡ two.parts) × (one.fault ≡ two.fault) → one ≡ two
same_record one two (p, e) = rw (p, e) refl

same_by : (url : Option (List ℕ)) (text : List ℕ) (one two : Cut) → HasCutBy url text one → HasCutBy url text two
    → one ≡ two
same_by None text one two a b =
    same_record one two (same_cut (chars text) one.parts two.parts one.fault two.fault a b)
same_by (Some rest) text one two a b = url.same_cut rest one two a b

pub same_text : (text : List ℕ) (one two : Cut) → HasCut text one → HasCut text two → one ≡ two
same_text text one two a b = same_by (url_in text) text one two a b

pub only_by : (text : List ℕ) (r : Result Cut OutOfMemory) → IfOk r (HasCut text)
    → IfOk r (λ cut. (other : Cut) → HasCut text other → other ≡ cut)
only_by text (Ok cut) has = λ other is. same_text text other cut is has
only_by text (Err e) has = tt

pub url_only : (text rest : List ℕ) (r : Result Cut OutOfMemory) → Some rest ≡ url_in text → IfOk r (IsUrl rest)
    → IfOk r (λ cut. (other : Cut) → HasCut text other → other ≡ cut)
url_only text rest r is h = only_by text r (subst (λ (o : Option (List ℕ)). IfOk r (HasCutBy o text)) is h)

pub pairs_only : (text : List ℕ) (r : Result Cut OutOfMemory) → None ≡ url_in text
    → IfOk r (λ cut. IsCut (chars text) cut.parts cut.fault)
    → IfOk r (λ cut. (other : Cut) → HasCut text other → other ≡ cut)
pairs_only text r is h = only_by text r (subst (λ (o : Option (List ℕ)). IfOk r (HasCutBy o text)) is h)
