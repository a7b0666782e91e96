-- What a seat has after each answer.
use Rattle.std.specs.Prelude.{◌≡◌, ◌⊎◌, ℕ, ◌<◌, ◌≤◌, ℤ, pos, max, List, [], ◌∷◌, ◌++◌, Result, Ok, Err}
use Rattle.atomic_table.specs.Seated.{TableId}
use Rattle.pgw_types.specs.declared.context.ProtocolVersion.{ProtocolVersion}
use Rattle.pgw_types.specs.declared.context.ProtocolVersion.TheVariants.{PROTOCOL3_0}
use Rattle.pgw_wire.specs.declared.secret_key.SecretKey.{SecretKey}
use Rattle.pgw_registry.specs.Shares.{everything, half, together}
use Rattle.pgw_registry.specs.Key.{process_key}
use Rattle.pgw_registry.specs.Numbers.{IsDistinct, NoneBelow, DrewAll}
use Rattle.pgw_registry.specs.Seats.{Numbers}
use Rattle.pgw_registry.specs.declared.error.PidError.{PidError}
use Rattle.pgw_registry.specs.declared.error.PidError.TheVariants.{PidsExhausted, OutOfMemory}

-- the first seat of a generator, which has drawn nothing
abbrev pub unused : TableId → ℕ → Numbers
unused t begins = record { of = t; begins = begins; drawn = []; seen = 0; share = everything }

-- a seat that was made of another
abbrev pub cut_from : Numbers → Numbers
cut_from v = record { of = v.of; begins = v.begins; drawn = []; seen = 0; share = half v.share }

-- this number was seen, so with the whole share it is the next one after its own
abbrev pub IsNext : Numbers → ℕ → Type 0
IsNext v n = DrewAll v.begins v.drawn v.share n

-- Where the numbers are spent, at most one was drawn, which is the one seen, and the whole share has drawn all before it:
-- so a seat with the whole share that has drawn few is never refused so. Without memory none was drawn
abbrev pub NoNumber : PidError → Numbers → Numbers → Type 0
NoNumber PidsExhausted v w =
    (2147483647 < w.seen) × ((w.drawn ≡ v.drawn) ⊎ (w.drawn ≡ v.drawn ++ w.seen ∷ []))
    × IsNext v w.seen
NoNumber OutOfMemory v w = (w.seen ≤ 2147483647) × (w.drawn ≡ v.drawn)

-- a seat of the same numbers, which has seen as much
abbrev pub ContinuesSeat : Numbers → Numbers → Type 0
ContinuesSeat v w =
    (w.of ≡ v.of) × (w.begins ≡ v.begins) × (w.share ≡ v.share) × (v.seen ≤ w.seen)
    × IsDistinct w.drawn × NoneBelow w.begins w.drawn

-- the number that was drawn, with the key that the words give
abbrev pub DrawsCancelKey : Numbers → ProtocolVersion → List ℕ → Numbers → ℤ × SecretKey → Type 0
DrawsCancelKey v version words w r =
    (w.drawn ≡ v.drawn ++ w.seen ∷ []) × (v.begins ≤ w.seen) × (w.seen ≤ 2147483647)
    × (r.0 ≡ pos w.seen) × (r.1 ≡ process_key version words) × IsNext v w.seen

-- what the answer says. At 3.0 memory is never wanting
abbrev pub TellsProcessId : Numbers → ProtocolVersion → List ℕ → Numbers
    → Result (ℤ × SecretKey) PidError → Type 0
TellsProcessId v version words w (Ok r) = DrawsCancelKey v version words w r
TellsProcessId v version words w (Err e) =
    NoNumber e v w × (version ≡ PROTOCOL3_0 → e ≡ PidsExhausted) × IsNext v w.seen

-- what a call of a generator comes to
abbrev pub Generates : Numbers → ProtocolVersion → List ℕ → Numbers
    → Result (ℤ × SecretKey) PidError → Type 0
Generates v version words w answer = ContinuesSeat v w × TellsProcessId v version words w answer

-- where the numbers are spent, at most the one seen was drawn
abbrev pub NoSeat : PidError → Numbers → Numbers → Type 0
NoSeat PidsExhausted v w =
    (2147483647 < w.seen) × (w.share ≡ v.share) × IsNext v w.seen
    × ((w.drawn ≡ v.drawn) ⊎ (w.drawn ≡ v.drawn ++ w.seen ∷ []))
NoSeat OutOfMemory v w = ⊥

-- the numbers of both
abbrev pub joint_numbers : Numbers → Numbers → Numbers
joint_numbers v w =
    record {
      of = v.of;
      begins = v.begins;
      drawn = v.drawn ++ w.drawn;
      seen = max v.seen w.seen;
      share = together v.share w.share;
    }
