-- Where both parties are, as code has it. The proofs carry it, and no public clause cites it.
use Rattle.std.specs.Prelude.{◌≡◌, ◌≢◌, ℕ, ◌+◌, List, length, take, Result, Ok, Err}
use Rattle.atomic_table.specs.Seated.{TableId}
use Rattle.pgw_types.specs.declared.error.PgWireError.{PgWireError}
use Rattle.pgw_types.specs.declared.error.PgWireError.TheVariants.{OutOfMemory}
use Rattle.pgw_frontend.specs.declared.frontend.PgWireFrontendMessage.{
  PgWireFrontendMessage as Frontend,
}
use Rattle.pgw_backend.specs.declared.backend.PgWireBackendMessage.{PgWireBackendMessage as Backend}
use Rattle.pgw_backend.specs.declared.client_error.PgWireClientError.{
  PgWireClientError as ClientError,
}
use Rattle.pgw_backend.specs.declared.client_error.PgWireClientError.TheVariants as client
use Rattle.pgw_machine.specs.Course.{Course, sent_of}
use Rattle.pgw_machine.specs.Play.{Continues}
use Rattle.pgw_login.specs.Acts.{Standing, Answer}
use Rattle.pgw_login_server.specs.Server.{Stage, ServerEnding, serving}
use Rattle.pgw_login_server.specs.Stands.{IsAt, ServerStands as CoreStands, server_answer_at}
use Rattle.pgw_login_server.specs.Taken.{Acts}
use Rattle.pgw_login_server.specs.declared.connection.ServerCore.{ServerCore}
use Rattle.pgw_login_server.specs.declared.connection.ServerPhase.{ServerPhase}
use Rattle.pgw_login_server.specs.declared.connection.ServerPhase.TheVariants.{
  Waiting,
  Finished,
  CancelAsked,
}
use Rattle.pgw_dialogue.specs.Answers.{answer_to, Tells}
use Rattle.pgw_dialogue.specs.Dialogue.{Stands, IsBehind}
use Rattle.pgw_dialogue.specs.declared.dialogue.Dialogue.{Dialogue}
use Rattle.pgw_dialogue.specs.declared.phase.DialoguePhase.{DialoguePhase}
use Rattle.pgw_login_pair.specs.declared.parties.PairInput.{PairInput}
use Rattle.pgw_login_pair.specs.declared.parties.ServerEnd.{ServerEnd}
use Rattle.pgw_login_pair.specs.declared.parties.ServerEnd.TheVariants as of_server
use Rattle.pgw_login_pair.specs.declared.client_side.ClientSide.{ClientSide}
use Rattle.pgw_login_pair.specs.declared.server_side.ServerSide.{ServerSide}
use Rattle.pgw_login_pair.specs.World.{World, client_input, handed, PartiesMeet, most, party_bytes, talk, unless_over}

-- ---- what a server does with a message

-- each act of the one is an act of the other
abbrev pub AreActs : Acts → Acts → Type 0
AreActs means others = (m : Frontend) (before after : Standing) (sent : List Backend)
    (answer : Answer) → means m before after sent answer → others m before after sent answer

-- ---- the client

-- it is behind its last answer
abbrev pub IsGoing : Result Dialogue ClientError → DialoguePhase → Type 0
IsGoing (Ok d) phase = IsBehind d (Ok phase)
IsGoing (Err e) phase = Unit {0}

-- it stands for the bytes taken and put out, or these tell why it refused
abbrev pub PartyStands : PairInput → Result Dialogue ClientError → DialoguePhase
    → (taken put : List ℕ)
    → Type 0
PartyStands input (Ok d) phase taken put = Stands (client_input input) most d taken put
    × (answer_to (client_input input) most taken ≡ Ok phase)
PartyStands input (Err e) phase taken put =
    (answer_to (client_input input) most taken ≡ Err e) × (e ≢ client.OutOfMemory)

pub record ClientAt (input : PairInput) (side : ClientSide) (taken : List ℕ) : Type 0 where
  pub sent : (side.out).items ≡ sent_of (talk input taken)
  pub tells : Tells (client_input input) most taken (side.out).items
      (answer_to (client_input input) most taken)
  pub keeps : PartyStands input side.dialogue side.phase taken (side.out).items

-- what it did with the next bytes of these
pub record ClientTook (input : PairInput) (old new : ClientSide) (bytes : List ℕ) (count : ℕ)
    : Type 0 where
  pub taken : new.taken ≡ old.taken + length (handed
      (answer_to (client_input input) most (take old.taken bytes))
      (party_bytes count old.taken bytes))
  pub is_at : ClientAt input new (take new.taken bytes)

-- ---- the server

-- some bytes led there
abbrev pub IsFrom : {H : Type 0} → Acts → Stage → ServerCore H → Type 0
IsFrom means begin core =
    (given : List ℕ) × (put : List ℕ) × CoreStands means begin core given put

-- where some bytes led to the one, some lead to the other
abbrev pub StaysFrom : {H : Type 0} → Acts → (old new : ServerCore H) → Type 0
StaysFrom means old new = (begin : Stage) → IsFrom means begin old → IsFrom means begin new

pub record ServerAt {H : Type 0} (side : ServerSide H) (course : Course Stage ServerEnding) : Type
    0
  where
    pub is_at : IsAt side.core (side.out).items course
    pub answer : side.answer ≡ server_answer_at course
    pub ample : side.answer ≢ Err OutOfMemory

-- where it is by its last answer
abbrev pub end_in : Result ServerPhase PgWireError → ServerEnd
end_in (Ok Waiting) = of_server.Waiting
end_in (Ok Finished) = of_server.Finished
end_in (Ok (CancelAsked request)) = of_server.Waiting
end_in (Err e) = of_server.Refused e

-- the next of these bytes lead it there
pub record ServerTook {H : Type 0} (means : Acts) (old new : ServerSide H) (bytes : List ℕ)
    (count : ℕ) (course : Course Stage ServerEnding) : Type 0 where
  pub there : Course Stage ServerEnding
  pub goes : Continues (serving means) course
      (unless_over course (party_bytes count old.taken bytes))
      there
  pub taken : new.taken ≡ old.taken + length
      (unless_over course (party_bytes count old.taken bytes))
  pub is_at : ServerAt new there

-- ---- both

pub record AreIn {H : Type 0} (generator : TableId) (input : PairInput) (client : ClientSide)
    (server : ServerSide H) (w : World) : Type 0 where
  pub meets : PartiesMeet generator input w
  pub to_server : (client.out).items ≡ w.to_server
  pub to_client : (server.out).items ≡ w.to_client
  pub by_client : client.taken ≡ w.by_client
  pub by_server : server.taken ≡ w.by_server
  pub client_at : ClientAt input client (take w.by_client w.to_client)
  pub server_at : ServerAt server w.server
