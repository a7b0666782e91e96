-- What a link tells of the bytes that are still to come, where it knows them.
use Rattle.std.specs.Prelude.{◌≡◌, ◌<◌, ℕ, List, ◌++◌, length, Option}
use Rattle.std.specs.Io.KnownBytes.{Consumes, IsAtEnd}
use Rattle.pgw_link.specs.Tape.{Tape}

-- what was taken is the front of what was to come
pub record Foreseen (was is : Option (List ℕ)) (old new : Tape) : Type 0 where
  pub taken : List ℕ
  pub took : new.took ≡ old.took ++ taken
  pub consumes : Consumes was is taken

-- where the end was answered, nothing is to come any more
pub record TapeEnds (is : Option (List ℕ)) (old new : Tape) : Type 0 where
  pub answers : List ℕ
  pub ended : new.ended ≡ old.ended ++ answers
  pub at_end : 0 < length answers → IsAtEnd is
