-- A client over a stream.
use Rattle.std.specs.Prelude.{◌≡◌, ℕ, List, Option, None}
use Rattle.std.specs.declared.io.Error.{Error}
use Rattle.pgw_session.specs.Input.{Input}
use Rattle.pgw_client_push.specs.declared.client.PushClient.{PushClient}
use Rattle.pgw_client_push.specs.Standing.{IsIdle, StandsFor}
use Rattle.pgw_tokio.specs.declared.client.AsyncClient.{AsyncClient}

-- its stream; the client that it moves the bytes of; and the error of the call that failed, if one did
abbrev pub stream_in : {S : Type 0} → AsyncClient S → S
stream_in c = c.exchange.value.stream

abbrev pub push_in : {S : Type 0} → AsyncClient S → PushClient
push_in c = c.exchange.value.engine.client

abbrev pub fault_in : {S : Type 0} → AsyncClient S → Option Error
fault_in c = c.exchange.value.engine.fault

-- it can be asked: its last segment has closed, and no call of its stream failed
abbrev pub IsUsable : {S : Type 0} → AsyncClient S → Type 0
IsUsable c = IsIdle (push_in c) × (fault_in c ≡ None)

-- It stands for these bytes, given by its stream and written to it; of a client that failed also those put out and not
-- written.
abbrev pub AsyncStands : {S : Type 0} → Input → ℕ → AsyncClient S → List ℕ → List ℕ → Type 0
AsyncStands input limit c given wrote = StandsFor input limit (push_in c) given wrote
