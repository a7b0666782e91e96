-- An engine that waits has room.
use Rattle.std.specs.Prelude.{◌<◌, ℕ, Option, Some, None, IsSomeAnd}
use Rattle.std.proofs.Common.{sym, subst}
use Rattle.pgw_dialogue.specs.declared.dialogue.Dialogue.{Dialogue}
use Rattle.pgw_tokio_moving.specs.declared.engine.Turn.TheVariants.{More}
use Rattle.pgw_tokio.specs.declared.engine.SessionEngine.{SessionEngine}
use Rattle.pgw_tokio.specs.Engine.{StandsAs, Waits}

room_by : (o : Option Dialogue) (room : ℕ) → IsSomeAnd o (Waits room) → 0 < room
room_by None room waits = absurd waits
room_by (Some d) room waits = subst (λ n. 0 < n) (sym waits.room_is) (waits.awaits).1

pub room_is_there : (e : SessionEngine) → StandsAs e More → 0 < e.room
room_is_there e stands = room_by e.dialogue e.room stands.1
