-- Two parties to a login, and the bytes between them.
use Rattle.std.specs.Prelude.{◌≡◌, ◌≤◌, ℕ, ◌+◌, pos, false, List, [], ◌∷◌, length, take, drop}
use Rattle.std.specs.Prelude.{Some, None, Result, Ok, Err}
use Rattle.std.specs.FinMap as map
use Rattle.atomic_table.specs.Seated.{TableId}
use Rattle.pgw_types.specs.declared.context.ProtocolVersion.TheVariants.{PROTOCOL3_2}
use Rattle.pgw_wire.specs.declared.secret_key.SecretKey.TheVariants.{I32}
use Rattle.pgw_query.specs.declared.response.TransactionStatus.TheVariants.{Idle}
use Rattle.pgw_config.specs.Config.{no_config}
use Rattle.pgw_config.specs.declared.config.Config.{Config}
use Rattle.pgw_machine.specs.Course.{Course, Waits, Over, sent_of}
use Rattle.pgw_machine.specs.Play.{Leads, Continues}
use Rattle.pgw_registry.specs.Generator.{unused}
use Rattle.pgw_registry.specs.Seats.{Numbers}
use Rattle.pgw_login.specs.Client.{LoginClient}
use Rattle.pgw_login.specs.declared.client_info.PgWireConnectionState.TheVariants.{
  AwaitingSslRequest,
}
use Rattle.pgw_login.specs.declared.state.LoginState.{LoginState}
use Rattle.pgw_login.specs.declared.state.SASLState.TheVariants.{Initial}
use Rattle.pgw_login_server.specs.Server.{Stage, ServerEnding, begins, serving}
use Rattle.pgw_scram.specs.declared.exchange.ClientLogin.{ClientLogin}
use Rattle.pgw_session.specs.Input.{Input}
use Rattle.pgw_session.specs.Logins.{scram_login}
use Rattle.pgw_session.specs.Talk.{Talk, Ending, conversation}
use Rattle.pgw_dialogue.specs.Answers.{taken_of, answer_to}
use Rattle.pgw_machine.specs.declared.event.Event.{Event}
use Rattle.pgw_machine.specs.declared.event.Event.TheVariants.{ToServer, ToClient}
use Rattle.pgw_login_pair.specs.declared.parties.PairInput.{PairInput}
use Rattle.pgw_login_pair.specs.Server.{Means, methods}

-- ---- the client

abbrev pub client_config : PairInput → Config
client_config input = record no_config {
  user = Some input.user;
  password = Some input.password;
  certificate_hash = input.client_hash;
}

-- it asks nothing
abbrev pub client_input : PairInput → Input
client_input input = record {
  config = client_config input;
  requests = [];
  nonce = input.client_nonce;
}

-- who logs in, by the methods that the server offers
abbrev pub client_login : PairInput → ClientLogin
client_login input = scram_login (client_input input) (methods input)

-- so many bytes it takes
abbrev pub most : ℕ
most = 18446744073709551615

-- the conversation of the bytes given
abbrev pub talk : PairInput → List ℕ → Course Talk Ending
talk input given = conversation (client_input input) (taken_of most given)

-- ---- the server

abbrev pub unknown : LoginClient
unknown = record {
  host = [];
  is_secure = false;
  protocol_version = PROTOCOL3_2;
  pid = pos 0;
  secret_key = I32 (pos 0);
  state = AwaitingSslRequest;
  transaction_status = Idle;
  metadata = map.empty;
}

-- a login that has not begun, by this seat
abbrev pub party_login : Numbers → PairInput → LoginState
party_login seat input = record {
  nonce = input.server_nonce;
  words = input.words;
  seat = seat;
  pass = None;
  started = false;
  sasl = Initial;
  kept = None;
  registered = None;
}

-- a login at the first seat of this generator
abbrev pub first_login : TableId → PairInput → LoginState
first_login generator input = party_login (unused generator 100000) input

abbrev pub first_stage : TableId → PairInput → Stage
first_stage generator input = begins unknown (first_login generator input)

-- the bytes lead it there
abbrev pub PartyServes : TableId → PairInput → List ℕ → Course Stage ServerEnding → Type 0
PartyServes generator input = Leads (serving (Means input)) (first_stage generator input)

-- ---- the world

-- what each has written and where the server is; how many bytes each has taken of the other's
pub record World : Type 0 where
  pub to_server : List ℕ
  pub to_client : List ℕ
  pub by_server : ℕ
  pub by_client : ℕ
  pub server : Course Stage ServerEnding

abbrev pub first_world : TableId → PairInput → World
first_world generator input = record {
  to_server = sent_of (talk input []);
  to_client = [];
  by_server = 0;
  by_client = 0;
  server = Waits (first_stage generator input) [] [];
}

-- the next bytes not yet taken, or all that there are
abbrev pub party_bytes : ℕ → ℕ → List ℕ → List ℕ
party_bytes count from bytes = take count (drop from bytes)

-- an end that has refused is handed nothing
abbrev pub handed : {A E : Type 0} → Result A E → List ℕ → List ℕ
handed (Ok a) piece = piece
handed (Err e) piece = []

abbrev pub unless_over : Course Stage ServerEnding → List ℕ → List ℕ
unless_over (Waits stage out pending) piece = piece
unless_over (Over ending out) piece = []

-- what is handed to each of so many bytes
abbrev pub to_client_next : PairInput → World → ℕ → List ℕ
to_client_next input w count =
    handed (answer_to (client_input input) most (take w.by_client w.to_client))
    (party_bytes count w.by_client w.to_client)

abbrev pub to_server_next : World → ℕ → List ℕ
to_server_next w count = unless_over w.server (party_bytes count w.by_server w.to_server)

-- how many the client has taken then
abbrev pub taken_then : PairInput → World → ℕ → ℕ
taken_then input w count = w.by_client + length (to_client_next input w count)

-- the world where an end has taken so many
abbrev pub client_at : PairInput → World → ℕ → World
client_at input w taken = record w {
  by_client = taken;
  to_server = sent_of (talk input (take taken w.to_client));
}

abbrev pub server_at : World → ℕ → Course Stage ServerEnding → World
server_at w taken there =
    record w { by_server = taken; server = there; to_client = sent_of there }

-- One event. The client is a function of the bytes; where the server comes to hangs on what it
-- draws from, and on memory.
pub data Happens (input : PairInput) (w : World) : Event → World → Type 0 where
  to_the_client : (count : ℕ) → Happens input w (ToClient count)
      (client_at input w (taken_then input w count))
  to_the_server : (count : ℕ) → (there : Course Stage ServerEnding)
      → Continues (serving (Means input)) w.server (to_server_next w count) there
      → Happens input w (ToServer count)
      (server_at w (w.by_server + length (to_server_next w count)) there)

-- some events, one after the other
abbrev pub Runs : PairInput → List Event → World → World → Type 0
Runs input [] w end = w ≡ end
Runs input (e ∷ es) w end = (mid : World) × Happens input w e mid × Runs input es mid end

-- ---- what holds of each world that events lead to

-- Each end is a function, or a relation, of the bytes that it has taken, and these are a front of
-- what the other wrote.
pub record PartiesMeet (generator : TableId) (input : PairInput) (w : World) : Type 0 where
  pub wrote : w.to_server ≡ sent_of (talk input (take w.by_client w.to_client))
  pub serves : PartyServes generator input (take w.by_server w.to_server) w.server
  pub served : w.to_client ≡ sent_of w.server
  pub by_server : w.by_server ≤ length w.to_server
  pub by_client : w.by_client ≤ length w.to_client
