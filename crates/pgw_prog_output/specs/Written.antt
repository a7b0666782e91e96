-- What is written of a text.
use Rattle.std.specs.Prelude.{◌≡◌, ℕ, List, ◌++◌, take}
use Rattle.pgw_link.specs.Stream.{SinkTape}

-- a front of the text was appended
pub record WroteFront (old new : SinkTape) (text : List ℕ) : Type 0 where
  pub count : ℕ
  pub wrote : new.wrote ≡ old.wrote ++ take count text
