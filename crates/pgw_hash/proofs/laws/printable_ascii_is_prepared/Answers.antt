use Rattle.std.proofs.Common.{◌≡◌, ℕ, ◌<◌, false, refl, arith}
use Rattle.std.specs.List.{All, list_any}
use Rattle.std.specs.Str.{IsAscii}
use Rattle.std.specs.Char.{is_ascii_control}
use Rattle.std.proofs.lemmas.Bool.Decides.{nat_tests}
use Rattle.std.proofs.lemmas.List.Folds.{list_any_none}
use Rattle.std.proofs.lemmas.Str.{chars-IsAscii, encodes-IsAscii}
use Rattle.std.proofs.lemmas.Str.Ascii.{IsAscii-from_all}
use Rattle.unicode_normalization.specs.Forms.{Nfkc}
use Rattle.unicode_normalization.proofs.FormsLemmas.{normalize-ascii}
use Rattle.pgw_hash.specs.Saslprep.{saslprep}
use Rattle.pgw_hash.proofs.laws.printable_ascii_is_prepared.Goals as goal

printable : (b : ℕ) → (31 < b) × (b < 127) → is_ascii_control b ≡ false
printable b h = grind (arith, nat_tests)

pub returns : goal.returns
unfolding saslprep
returns c text all =
    let low : All (λ b. b < 128) text = λ k d below. let h = all k d below in omega arith in
    let ascii : IsAscii text = IsAscii-from_all text low in
    let clean : list_any is_ascii_control text ≡ false =
    list_any_none is_ascii_control text (λ k d below. printable _ (all k d below)) in
    rw (chars-IsAscii text ascii, clean, normalize-ascii Nfkc text low, encodes-IsAscii text ascii) refl
