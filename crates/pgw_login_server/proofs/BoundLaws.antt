-- A bound holds until the client may ask.
use Rattle.std.proofs.Common.{◌≡◌, ℕ, ◌<◌, ◌≤◌, max, true, List, length, Option, Some, Ok, Err, refl, sym, ap, ◌∙◌}
use Rattle.std.specs.Prelude.{◌≢◌, Bool}
use Rattle.pgw_types.specs.declared.error.PgWireError.{PgWireError}
use Rattle.pgw_types.specs.declared.error.PgWireError.TheVariants.{MessageTooLarge}
use Rattle.pgw_wire.specs.Framing.{stated_length}
use Rattle.pgw_frontend.specs.declared.frontend.PgWireFrontendMessage.{PgWireFrontendMessage as Message}
use Rattle.pgw_machine.specs.Course.{More, Bad}
use Rattle.pgw_login.specs.declared.client_info.PgWireConnectionState.{PgWireConnectionState}
use Rattle.pgw_login.specs.declared.client_info.PgWireConnectionState.TheVariants.{ReadyForQuery}
use Rattle.pgw_login_server.specs.Front.{client_front, server_front}
use Rattle.pgw_login_server.specs.Bound.{IsBounded, header_front}
use Rattle.pgw_login_server.specs.Server.{Stage, bound_in, bound_at, stage_front}
use Rattle.pgw_login_server.proofs.ClientFront.{front_waits, beyond_refused, header_refused}

still_bound : (state : PgWireConnectionState) (bound : Option ℕ) → state ≢ ReadyForQuery
    → bound_in state bound ≡ bound
still_bound ReadyForQuery bound ne = absurd (ne refl)
still_bound state bound ne = refl

bound_is : (stage : Stage) (bound : ℕ) → IsBounded stage bound → bound_at stage ≡ Some bound
bound_is stage bound is = still_bound stage.client.state stage.bound is.1 ∙ is.0

reads_so : (stage : Stage) (bound : ℕ) (bytes : List ℕ) → IsBounded stage bound
    → stage_front stage bytes ≡ server_front bytes
    (client_front stage.started (Some bound) stage.client.protocol_version bytes)
reads_so stage bound bytes is = ap (λ (b : Option ℕ). server_front bytes
    (client_front stage.started b stage.client.protocol_version bytes)) (bound_is stage bound is)

pub little_waits : (stage : Stage) (bound : ℕ) (bytes : List ℕ) → IsBounded stage bound
    → stage_front stage bytes ≡ More
    → length bytes ≤ max 10000 bound
little_waits stage bound bytes is more = front_waits stage.started bound stage.client.protocol_version bytes
    (sym (reads_so stage bound bytes is) ∙ more)

reads_typed : (stage : Stage) (bound : ℕ) (bytes : List ℕ) → IsBounded stage bound → stage.started ≡ true
    → stage_front stage bytes ≡ server_front bytes
    (client_front true (Some bound) stage.client.protocol_version bytes)
reads_typed stage bound bytes is on = reads_so stage bound bytes is
    ∙ ap (λ (b : Bool). server_front bytes (client_front b (Some bound) stage.client.protocol_version bytes)) on

pub long_refused : (stage : Stage) (bound : ℕ) (bytes : List ℕ) (found : Option (Message × List ℕ))
    → IsBounded stage bound → stage.started ≡ true → 5 ≤ length bytes → bound < stated_length 1 bytes
    → header_front stage bytes ≡ Ok found
    → stage_front stage bytes ≡ Bad (MessageTooLarge bound (stated_length 1 bytes))
long_refused stage bound bytes found is on long more header = reads_typed stage bound bytes is on
    ∙ beyond_refused bound stage.client.protocol_version bytes found long more header

pub header_first : (stage : Stage) (bound : ℕ) (bytes : List ℕ) (why : PgWireError) → IsBounded stage bound
    → stage.started ≡ true → header_front stage bytes ≡ Err why → stage_front stage bytes ≡ Bad why
header_first stage bound bytes why is on header = reads_typed stage bound bytes is on
    ∙ header_refused bound stage.client.protocol_version bytes why header
