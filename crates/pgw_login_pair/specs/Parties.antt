-- What holds of every two parties, whatever the schedule.
use Rattle.std.specs.Prelude.{◌≡◌, ◌≢◌, ◌≤◌, ℕ, true, List, [], ◌∷◌, ◌++◌, length, map, take, codes}
use Rattle.std.specs.Prelude.{Option, Some, None, Result, Ok, Err}
use Rattle.std.specs.Str.{is_utf8}
use Rattle.atomic_table.specs.Seated.{TableId}
use Rattle.pgw_types.specs.declared.error.PgWireError.{PgWireError}
use Rattle.pgw_types.specs.declared.error.PgWireError.TheVariants.{InvalidPassword, OutOfMemory}
use Rattle.pgw_types.specs.declared.error.PgWireError.TheVariants.{InvalidScramMessage}
use Rattle.pgw_types.specs.declared.error.PgWireError.TheVariants.{SaltRequired, MessageTooLarge}
use Rattle.pgw_types.specs.declared.error.ScramMessageFault.{ScramMessageFault}
use Rattle.pgw_types.specs.declared.error.ScramMessageFault.TheVariants as fault
use Rattle.pgw_startup.specs.Password.{initial_response_of}
use Rattle.pgw_startup.specs.declared.startup.Startup.{Startup}
use Rattle.pgw_startup.specs.declared.authentication.Authentication.TheVariants as auth
use Rattle.pgw_startup.specs.declared.password.PasswordMessageFamily.TheVariants as family
use Rattle.pgw_backend.specs.Backend.{backend_encoding}
use Rattle.pgw_backend.specs.declared.client_error.PgWireClientError.{
  PgWireClientError as ClientError,
}
use Rattle.pgw_backend.specs.declared.client_error.PgWireClientError.TheVariants as client_error
use Rattle.pgw_backend.specs.declared.backend.PgWireBackendMessage.{PgWireBackendMessage as Backend}
use Rattle.pgw_backend.specs.declared.backend.PgWireBackendMessage.TheVariants as backend
use Rattle.pgw_frontend.specs.Frontend.{encodings as client_encodings}
use Rattle.pgw_frontend.specs.FrontendSpells.{as_read}
use Rattle.pgw_frontend.specs.declared.frontend.PgWireFrontendMessage.{
  PgWireFrontendMessage as Frontend,
}
use Rattle.pgw_frontend.specs.declared.frontend.PgWireFrontendMessage.TheVariants as frontend
use Rattle.pgw_hash.specs.Saslprep.{saslprep}
use Rattle.pgw_hash.specs.Pbkdf2.{salted_password}
use Rattle.pgw_scram.specs.Attributes.{IsValue}
use Rattle.pgw_scram.specs.Base64.{base64}
use Rattle.pgw_scram.specs.Binding.{gs2_header, binding_text}
use Rattle.pgw_scram.specs.declared.binding.ClientBinding.{ClientBinding}
use Rattle.pgw_scram.specs.declared.binding.ClientBinding.TheVariants as binding
use Rattle.pgw_scram.specs.Exchange.{client_first, client_final, signature}
use Rattle.pgw_scram.specs.Formulas.{auth_message, client_proof, server_signature}
use Rattle.pgw_scram.specs.Readers.{read_client_first, read_client_final}
use Rattle.pgw_scram.specs.Offers.{server_first, whole_nonce}
use Rattle.pgw_scram.specs.Server.{scram_offer, accepted}
use Rattle.pgw_scram.specs.declared.server.ScramServerAuthWaitingForClientFinal.{
  ScramServerAuthWaitingForClientFinal as WaitingForClientFinal,
}
use Rattle.pgw_scram.specs.declared.messages.ClientFirst.{ClientFirst}
use Rattle.pgw_scram.specs.declared.messages.ClientFinal.{ClientFinal}
use Rattle.pgw_machine.specs.Course.{Course, Waits, Over, Move, sent_of}
use Rattle.pgw_machine.specs.Play.{Play}
use Rattle.pgw_machine.specs.Fronts.{Deed, deeds_in}
use Rattle.pgw_login.specs.Acts.{Standing, Answer}
use Rattle.pgw_login.specs.declared.client_info.PgWireConnectionState.{PgWireConnectionState}
use Rattle.pgw_login.specs.declared.client_info.PgWireConnectionState.TheVariants.{ReadyForQuery}
use Rattle.pgw_login_server.specs.Server.{Stage, Cause, ServerEnding, Refused as IsRefused}
use Rattle.pgw_login_server.specs.Server.{Asked, Steps, server_encodings, serving}
use Rattle.pgw_session.specs.Events.{Event as Said, Sent, Got, sents}
use Rattle.pgw_session.specs.Segments.{startup_message}
use Rattle.pgw_session.specs.Standings.{standing_of}
use Rattle.pgw_session.specs.Logins.{method_of, first_message, first_refusal, final_message}
use Rattle.pgw_session.specs.Talk.{Talk, Ending, heard_of}
use Rattle.pgw_session.specs.Transcript.{EncodesSent}
use Rattle.pgw_session.specs.declared.standing.Standing.{Standing as Told}
use Rattle.pgw_dialogue.specs.Answers.{answer_to, Tells}
use Rattle.pgw_dialogue.specs.declared.phase.DialoguePhase.{DialoguePhase}
use Rattle.pgw_dialogue.specs.declared.phase.DialoguePhase.TheVariants as phase
use Rattle.pgw_handlers.specs.declared.client_info.ServerInformation.{ServerInformation}
use Rattle.pgw_login_pair.specs.declared.parties.PairInput.{PairInput}
use Rattle.pgw_login_pair.specs.declared.parties.PairOutcome.{PairOutcome}
use Rattle.pgw_login_pair.specs.declared.parties.ClientEnd.{ClientEnd}
use Rattle.pgw_login_pair.specs.declared.parties.ClientEnd.TheVariants as of_client
use Rattle.pgw_login_pair.specs.declared.parties.ServerEnd.{ServerEnd}
use Rattle.pgw_login_pair.specs.declared.parties.ServerEnd.TheVariants as of_server
use Rattle.pgw_login_pair.specs.Server.{methods, scram_end, Means}
use Rattle.pgw_login_pair.specs.World.{World, first_world, first_stage, Runs, PartyServes, most, talk}
use Rattle.pgw_login_pair.specs.World.{client_config, client_input, client_login}

abbrev pub IsFrontOf : {A : Type 0} → List A → List A → Type 0
IsFrontOf {A = A} front all = (rest : List A) × (all ≡ front ++ rest)

-- ---- the ends

-- what the client sent and got
abbrev pub events_in : Course Talk Ending → List Said
events_in (Waits t sent pending) = heard_of t
events_in (Over ending sent) = heard_of ending.notes

-- the messages got
abbrev pub gots : List Said → List Backend
gots [] = []
gots (Sent m ∷ es) = gots es
gots (Got m ∷ es) = m ∷ gots es

abbrev pub information_of : Told → ServerInformation
information_of s = record {
  parameters = s.parameters;
  process_id = s.process_id;
  secret_key = s.secret_key;
}

abbrev pub client_by : Told → Result DialoguePhase ClientError → ClientEnd
client_by told (Ok phase.Waiting) = of_client.Waiting
client_by told (Ok phase.Ready) = of_client.Waiting
client_by told (Ok phase.Done) = of_client.Ready (information_of told)
client_by told (Err e) = of_client.Refused e

-- what the client was told by these bytes, and its end
abbrev pub party_told_by : PairInput → List ℕ → Told
party_told_by input taken = standing_of (client_config input) (events_in (talk input taken))

abbrev pub client_end : PairInput → List ℕ → ClientEnd
client_end input taken =
    client_by (party_told_by input taken) (answer_to (client_input input) most taken)

abbrev pub server_in : PgWireConnectionState → ServerEnd
server_in ReadyForQuery = of_server.Finished
server_in state = of_server.Waiting

-- a request to cancel never comes here
abbrev pub server_over : Cause → ServerEnd
server_over (IsRefused e) = of_server.Refused e
server_over (Asked request) = of_server.Waiting

abbrev pub server_end : Course Stage ServerEnding → ServerEnd
server_end (Waits stage out pending) = server_in stage.client.state
server_end (Over ending out) = server_over ending.cause

-- ---- what a server took and said on its way to a place

abbrev pub PartyAct : Type 1
PartyAct = Frontend → Standing → Standing → List Backend → Answer → Type 0

-- what it said to a message; that no encryption is to be had is no message
abbrev pub party_reply : (means : PartyAct) (stage : Stage) (m : Frontend)
    (move : Move Stage ServerEnding)
    → Steps means stage m move → List Backend
party_reply means stage (frontend.SslNegotiation m) move step = []
party_reply means stage (frontend.CancelRequest m) move step = []
party_reply means stage (frontend.Startup m) move step = step.1
party_reply means stage (frontend.PasswordMessageFamily m) move step = step.1
party_reply means stage (frontend.PortalSuspended m) move step = step.1
party_reply means stage (frontend.Query m) move step = step.1
party_reply means stage (frontend.Parse m) move step = step.1
party_reply means stage (frontend.Bind m) move step = step.1
party_reply means stage (frontend.Close m) move step = step.1
party_reply means stage (frontend.Describe m) move step = step.1
party_reply means stage (frontend.Execute m) move step = step.1
party_reply means stage (frontend.Flush m) move step = step.1
party_reply means stage (frontend.Sync m) move step = step.1
party_reply means stage (frontend.Terminate m) move step = step.1
party_reply means stage (frontend.CopyData m) move step = step.1
party_reply means stage (frontend.CopyDone m) move step = step.1
party_reply means stage (frontend.CopyFail m) move step = step.1

abbrev pub party_messages : (means : PartyAct) → List (Deed (serving means)) → List Backend
party_messages means [] = []
party_messages means (d ∷ ds) =
    party_reply means d.state d.message d.move d.step ++ party_messages means ds

-- the messages taken, that which ended it too
abbrev pub heard_by : {S R M E : Type 0} (play : Play S R M E) → List (Deed play) → List M
heard_by play [] = []
heard_by play (d ∷ ds) = d.message ∷ heard_by play ds

-- ---- what is bound, and the proof

-- What their login is bound to: to the hash that the client has, where both have one; else to
-- nothing, and a client that has one says that this was not offered.
abbrev pub binding_between : Option (List ℕ) → Option (List ℕ) → ClientBinding
binding_between None own = binding.None
binding_between (Some hash) None = binding.NotOffered
binding_between (Some hash) (Some own) = binding.EndPoint hash

abbrev pub bound_to : PairInput → ClientBinding
bound_to input = binding_between input.client_hash input.server_hash

-- both have a hash, and these differ
abbrev pub HaveDifferentHashes : PairInput → Type 0
HaveDifferentHashes input =
    (hash : List ℕ) × (own : List ℕ)
    × (input.client_hash ≡ Some hash) × (input.server_hash ≡ Some own) × (hash ≢ own)

abbrev pub raw : List ℕ → Frontend
raw body = frontend.PasswordMessageFamily (family.Raw body)

-- the texts exchanged: the messages that a finished server took, and what it offered
pub record PartyTexts (input : PairInput) (heard : List Frontend) (said : List Backend)
    : Type 0 where
  pub startup : Startup
  pub first_body : List ℕ
  pub final : List ℕ
  pub first : List ℕ
  pub offer : List ℕ
  pub opening : ClientFirst
  pub closing : ClientFinal
  pub later : List Backend
  pub heard_are : heard ≡ frontend.Startup startup ∷ raw first_body ∷ raw final ∷ []
  pub said_are : said
      ≡ backend.Authentication (auth.SASL (methods input))
      ∷ backend.Authentication (auth.SASLContinue offer) ∷ later
  -- the method that binds is taken just where the login is bound
  pub initial : initial_response_of first_body
      ≡ Ok (record { auth_method = method_of (bound_to input); payload = Some first })
  pub opens : read_client_first first ≡ Ok opening
  pub closes : read_client_final final ≡ Ok closing
  -- the header and the text of what is bound
  pub header_is : opening.header ≡ gs2_header (bound_to input)
  pub binding_is : closing.binding ≡ binding_text (bound_to input)

-- AuthMessage of RFC 5802: the texts that both ends prove themselves over
abbrev pub auth_text : {input : PairInput} {heard : List Frontend} {said : List Backend}
    → PartyTexts input heard said → List ℕ
auth_text x = auth_message (x.opening).bare x.offer (x.closing).without_proof

-- what its proof is to be, by the stored password
abbrev pub proof_due : {input : PairInput} {heard : List Frontend} {said : List Backend}
    → PartyTexts input heard said → List ℕ
proof_due {input = input} x =
    base64 (client_proof (input.stored).password (auth_text x))

-- the server's proof, by the same password over the same texts
abbrev pub verifier_due : {input : PairInput} {heard : List Frontend} {said : List Backend}
    → PartyTexts input heard said → List ℕ
verifier_due {input = input} x =
    base64 (server_signature (input.stored).password (auth_text x))

-- what the server said first behind client-final is server-final with it
abbrev pub SaysVerifier : {input : PairInput} {heard : List Frontend} {said : List Backend}
    → PartyTexts input heard said → Type 0
SaysVerifier x = (more : List Backend)
    × (x.later ≡ backend.Authentication (auth.SASLFinal (codes "v=" ++ verifier_due x)) ∷ more)

-- client-final binds to this hash of the server's certificate (RFC 5929, section 4)
abbrev pub IsBoundTo : List ℕ → {input : PairInput} {heard : List Frontend} {said : List Backend}
    → PartyTexts input heard said → Type 0
IsBoundTo hash x = (x.closing).binding ≡ base64 (codes "p=tls-server-end-point,," ++ hash)

-- ---- why the server refuses

-- what it makes of client-first: its offer, and what it keeps; or a refusal
abbrev pub offer_made : PairInput → Result (List ℕ × WaitingForClientFinal) PgWireError
offer_made input =
    scram_offer (scram_end input) (client_first (client_login input)) input.stored
    input.server_nonce

-- client-first is refused, or the offer has no encoding, or client-final is refused
pub data ServerCause (input : PairInput) : PgWireError → Type 0 where
  declined : (why : PgWireError) → offer_made input ≡ Err why → ServerCause input why
  unoffered : (why : PgWireError) → (first : List ℕ) → (waiting : WaitingForClientFinal)
      → offer_made input ≡ Ok (first, waiting)
      → backend_encoding (backend.Authentication (auth.SASLContinue first)) ≡ Err why
      → ServerCause input why
  unproved : (why : PgWireError) → (first : List ℕ) → (waiting : WaitingForClientFinal)
      → offer_made input ≡ Ok (first, waiting)
      → first_refusal (client_login input) first ≡ None
      → accepted waiting (client_final (client_login input) first) ≡ Err why
      → ServerCause input why

-- the errors of such a server: a message outside SCRAM, another proof, no salt, too long an offer
pub data LoginRefusal : PgWireError → Type 0 where
  of_message : (why : ScramMessageFault) → LoginRefusal (InvalidScramMessage why)
  of_proof : (user : List ℕ) → LoginRefusal (InvalidPassword user)
  of_salt : LoginRefusal SaltRequired
  of_length : (limit : ℕ) → (length : ℕ) → LoginRefusal (MessageTooLarge limit length)

-- ---- honest parties

-- what the server offers where it keeps this salt
abbrev pub offer_by : PairInput → List ℕ → List ℕ
offer_by input salt =
    server_first (whole_nonce (client_login input).nonce input.server_nonce) salt input.count

abbrev pub IsWritten : Frontend → Type 0
IsWritten m = (g : List ℕ) × (client_encodings (m ∷ []) ≡ Ok g)

-- The server keeps the SaltedPassword of the client's, and each message that falls due has an
-- encoding: none of them is longer than its kind may be.
pub record ShareAPassword (input : PairInput) : Type 0 where
  pub user : List ℕ
  pub salt : List ℕ
  pub password_utf8 : is_utf8 input.password ≡ true
  pub is_prepared : saslprep input.user ≡ Some user
  pub user_value : IsValue user
  pub has_salt : (input.stored).salt ≡ Some salt
  pub is_salted : (input.stored).password ≡ salted_password input.password salt input.count
  pub startup : IsWritten (startup_message (client_input input))
  pub client_first : IsWritten (first_message (client_login input))
  pub client_final : IsWritten (final_message (client_login input) (offer_by input salt))
  pub server_first : (g : List ℕ)
      × (server_encodings (backend.Authentication (auth.SASLContinue (offer_by input salt)) ∷ [])
      ≡ Ok g)

abbrev pub AreHonestParties : PairInput → Type 0
AreHonestParties input = ShareAPassword input × (HaveDifferentHashes input → ⊥)

-- ---- the clauses

abbrev pub is_refused_client : ClientEnd → Type 0
is_refused_client (of_client.Refused e) = Unit {0}
is_refused_client end = ⊥

abbrev pub is_refused_server : ServerEnd → Type 0
is_refused_server (of_server.Refused e) = Unit {0}
is_refused_server end = ⊥

-- all bytes were taken
abbrev pub HasTakenAll : PairOutcome → Type 0
HasTakenAll o =
    (o.taken_by_server ≡ length o.to_server) × (o.taken_by_client ≡ length o.to_client)

-- what `two_party` answers
pub record Pairs (input : PairInput) (o : PairOutcome) : Type 0 where
  -- a world to which the events lead
  pub generator : TableId
  pub world : World
  pub ran : Runs input (input.schedule) (first_world generator input) world
  pub to_server : o.to_server ≡ world.to_server
  pub to_client : o.to_client ≡ world.to_client
  pub taken_by_server : o.taken_by_server ≡ world.by_server
  pub taken_by_client : o.taken_by_client ≡ world.by_client
  pub within_server : world.by_server ≤ length world.to_server
  pub within_client : world.by_client ≤ length world.to_client
  -- the ends are those of a dialogue, and of a server's core, over the bytes taken
  pub wrote : o.to_server ≡ sent_of (talk input (take o.taken_by_client o.to_client))
  pub client : o.client ≡ client_end input (take o.taken_by_client o.to_client)
  pub tells : Tells (client_input input) most (take o.taken_by_client o.to_client) o.to_server
      (answer_to (client_input input) most (take o.taken_by_client o.to_client))
  pub serves : PartyServes generator input (take o.taken_by_server o.to_server) world.server
  pub served : o.to_client ≡ sent_of world.server
  pub server : o.server ≡ server_end world.server
  pub no_memory_client : (o.client ≡ of_client.Refused client_error.OutOfMemory) → ⊥
  pub no_memory_server : (o.server ≡ of_server.Refused OutOfMemory) → ⊥

-- the steps of the server, and the messages that it took and said in them
module _ (generator : TableId) (input : PairInput) where
  abbrev pub deeds : (taken : List ℕ) (server : Course Stage ServerEnding)
      → PartyServes generator input taken server → List (Deed (serving (Means input)))
  deeds = deeds_in (serving (Means input)) (first_stage generator input)

  abbrev pub heard_in : (taken : List ℕ) (server : Course Stage ServerEnding)
      → PartyServes generator input taken server → List Frontend
  heard_in taken server serves = heard_by (serving (Means input)) (deeds taken server serves)

  abbrev pub said_in : (taken : List ℕ) (server : Course Stage ServerEnding)
      → PartyServes generator input taken server → List Backend
  said_in taken server serves = party_messages (Means input) (deeds taken server serves)

pub record PartiesAgree (input : PairInput) (o : PairOutcome)
    (events : List Said) (heard : List Frontend) (said : List Backend) : Type 0 where
  -- each end got a front of what the other sent
  pub sent : EncodesSent events o.to_server
  pub spoke : server_encodings said ≡ Ok o.to_client
  pub got_by_server : IsFrontOf heard (map as_read (sents events))
  pub got_by_client : IsFrontOf (gots events) said
  -- a ready client: each end proved itself, and the client awaited just this verifier
  pub ready : (information : ServerInformation) → o.client ≡ of_client.Ready information
      → (o.server ≡ of_server.Finished)
      × (information ≡ information_of (standing_of (client_config input) (map Got said)))
      × (x : PartyTexts input heard said) × ((x.closing).proof ≡ proof_due x) × SaysVerifier x
      × (signature (client_login input) x.offer ≡ verifier_due x)
  -- a finished server: the client proved itself, and was sent the verifier
  pub finished : o.server ≡ of_server.Finished
      → (x : PartyTexts input heard said) × ((x.closing).proof ≡ proof_due x) × SaysVerifier x
  -- one that has a hash, as the client does: these are equal, and the login is bound to it
  pub bound : (hash own : List ℕ) → input.client_hash ≡ Some hash → input.server_hash ≡ Some own
      → o.server ≡ of_server.Finished
      → (hash ≡ own) × ((x : PartyTexts input heard said) × IsBoundTo own x)
  -- it refuses what is bound for another hash alone
  pub misbound : o.server ≡ of_server.Refused (InvalidScramMessage fault.ChannelBinding)
      → HaveDifferentHashes input
  -- a client that refuses never wants memory, not as a server's error either
  pub no_memory : (o.client ≡ of_client.Refused (client_error.PgWireError OutOfMemory)) → ⊥
  -- a server that refuses
  pub cause : (why : PgWireError) → o.server ≡ of_server.Refused why → ServerCause input why
  -- a proof that is another
  pub password : (user : List ℕ) → o.server ≡ of_server.Refused (InvalidPassword user)
      → (x : PartyTexts input heard said) × ((x.closing).proof ≢ proof_due x)
  -- honest parties
  pub honest : AreHonestParties input
      → (is_refused_client o.client → ⊥) × (is_refused_server o.server → ⊥)
  pub all_taken : AreHonestParties input → HasTakenAll o
      → ((information : ServerInformation) × (o.client ≡ of_client.Ready information))
      × (o.server ≡ of_server.Finished)
  -- honest but for different hashes: the server refuses, once it has the client's
  pub different_hashes : ShareAPassword input → HaveDifferentHashes input
      → (is_refused_client o.client → ⊥)
      × (HasTakenAll o → o.server ≡ of_server.Refused (InvalidScramMessage fault.ChannelBinding))

abbrev pub TwoParty : PairInput → PairOutcome → Type 0
TwoParty input o =
    (p : Pairs input o)
    × PartiesAgree input o (events_in (talk input (take o.taken_by_client o.to_client)))
    (heard_in p.generator input (take o.taken_by_server o.to_server) p.world.server p.serves)
    (said_in p.generator input (take o.taken_by_server o.to_server) p.world.server p.serves)
