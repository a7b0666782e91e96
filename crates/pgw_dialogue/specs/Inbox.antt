-- Which of the bytes that were read pass to the front of an inbox. The proofs carry it, and no
-- public clause cites it.
use Rattle.std.specs.Prelude.{◌≡◌, ◌<◌, ◌+◌, ℕ, List, ◌++◌, drop}
use Rattle.pgw_wire.specs.Header.{IsWhole, typed_end}
use Rattle.pgw_query.specs.declared.run.Span.{Span}
use Rattle.pgw_query.specs.Runs.{HasNoRow, IsSpan}

-- messages stand whole in a row from the front to there: none, or one more behind others
pub data InboxRow (bytes : List ℕ) : ℕ → Type 0 where
  nothing : InboxRow bytes 0
  one_more : (n : ℕ) → InboxRow bytes n → IsWhole (drop n bytes)
      → InboxRow bytes (n + typed_end (drop n bytes))

-- and no message stands whole behind them
abbrev pub EndsRow : List ℕ → ℕ → Type 0
EndsRow bytes n = InboxRow bytes n × (¬ IsWhole (drop n bytes))

-- the message at the front is whole, and large
abbrev pub IsLarge : List ℕ → Type 0
IsLarge bytes = IsWhole bytes × (16384 < typed_end bytes)

-- So many bytes pass: those of all messages that stand whole in a row at the front, or of a large
-- first one alone.
pub record InboxPasses (bytes : List ℕ) (n : ℕ) : Type 0 where
  pub large : IsLarge bytes → n ≡ typed_end bytes
  pub others : ¬ IsLarge bytes → EndsRow bytes n

-- the rows that stand whole at the front of the bytes are these, and they stand in the front alone
abbrev pub HasSpan : List ℕ → List ℕ → Span → Type 0
HasSpan front tail span = IsSpan front span × HasNoRow (drop span.end front ++ tail)
