-- What becomes of bytes that come in pieces.
use Rattle.std.specs.Prelude.{◌≡◌, ℕ, List, [], ◌∷◌}
use Rattle.pgw_machine.specs.Course.{Course}
use Rattle.pgw_machine.specs.Play.{Continues}
use Rattle.pgw_login_server.specs.Server.{Stage, ServerEnding, serving}
use Rattle.pgw_login_server.specs.Taken.{Acts}

-- one piece after the other leads from this place to that one
abbrev pub LeadOn : Acts → Course Stage ServerEnding → List (List ℕ) → Course Stage ServerEnding
    → Type 0
LeadOn means course [] there = there ≡ course
LeadOn means course (piece ∷ pieces) there =
    (mid : Course Stage ServerEnding) × Continues (serving means) course piece mid
    × LeadOn means mid pieces there
