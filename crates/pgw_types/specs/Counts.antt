-- Counts of calls that failed, which stay at the greatest u64.
use Rattle.std.specs.Prelude.{ℕ, ◌+◌, ◌-◌, ◌^◌, ◌≤◌, min}

-- one call more
abbrev pub next_count : ℕ → ℕ
next_count n = min (n + 1) (2 ^ 64 - 1)

-- one call more has failed
abbrev pub Rose : ℕ → ℕ → Type 0
Rose before now = next_count before ≤ now
