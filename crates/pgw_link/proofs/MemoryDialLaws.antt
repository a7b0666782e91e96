-- What a link that is closed makes of what the last one told.
use Rattle.std.proofs.Common.{◌≡◌, List, [], ◌∷◌, ◌++◌, Some, refl}
use Rattle.pgw_link.specs.Tape.{Tape}
use Rattle.pgw_link.specs.MemoryLinks.{last_shut}

pub last_is : (before : List Tape) (link : Tape) → last_shut (before ++ link ∷ []) ≡ Some link
last_is [] link = refl
last_is (one ∷ []) link = refl
last_is (one ∷ next ∷ more) link = last_is (next ∷ more) link
