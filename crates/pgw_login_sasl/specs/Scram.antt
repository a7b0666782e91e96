-- A login by SCRAM, message by message (RFC 5802, section 5; SASL Authentication, "SCRAM-SHA-256").
use Rattle.std.specs.Prelude.{◌≡◌, ◌⊎◌, ℕ, Bool, not, List, codes, Option, Some, None, Result, Ok, Err, if◌then◌else◌}
use Rattle.pgw_types.specs.declared.error.PgWireError.{PgWireError}
use Rattle.pgw_types.specs.declared.error.PgWireError.TheVariants.{InvalidSASLState, InvalidScramMessage, OutOfMemory}
use Rattle.pgw_types.specs.declared.error.ScramMessageFault.{ScramMessageFault}
use Rattle.pgw_types.specs.declared.error.ScramMessageFault.TheVariants.{Empty, ChannelBinding}
use Rattle.pgw_startup.specs.Password.{as_initial_response, as_response}
use Rattle.pgw_startup.specs.declared.authentication.Authentication.{Authentication}
use Rattle.pgw_startup.specs.declared.authentication.Authentication.TheVariants as auth
use Rattle.pgw_startup.specs.declared.password.PasswordMessageFamily.{PasswordMessageFamily}
use Rattle.pgw_startup.specs.declared.sasl.SASLInitialResponse.{SASLInitialResponse}
use Rattle.pgw_startup.specs.declared.sasl.SASLResponse.{SASLResponse}
use Rattle.std.specs.Str.{bytes_eq}
use Rattle.pgw_scram.specs.Offers.{is_bound}
use Rattle.pgw_scram.specs.Readers.{read_client_first}
use Rattle.pgw_scram.specs.Server.{offered_to, accepted}
use Rattle.pgw_scram.specs.declared.messages.ClientFirst.{ClientFirst}
use Rattle.pgw_scram.specs.declared.password.Password.{Password as Kept}
use Rattle.pgw_scram.specs.declared.server.ScramServerAuth.{ScramServerAuth}
use Rattle.pgw_scram.specs.declared.server.ScramServerAuthWaitingForClientFinal.{ScramServerAuthWaitingForClientFinal as WaitingForClientFinal}
use Rattle.pgw_login.specs.Login.{Login}
use Rattle.pgw_login.specs.declared.state.SASLState.{SASLState}
use Rattle.pgw_login_sasl.specs.declared.scram.ScramAuth.{ScramAuth}
use Rattle.pgw_login_sasl.specs.Replies.{Reply, RefusesMethod}
use Rattle.pgw_login.specs.declared.state.SASLState.TheVariants.{Initial, ScramClientFirstReceived, ScramServerFirstSent, StoredServerFirstSent, OauthStateInit, OauthStateError, Finished, Failed}

-- ---- the method's name

-- a method of this name binds the login
abbrev pub binds : List ℕ → Bool
binds name = bytes_eq name (codes "SCRAM-SHA-256-PLUS")

-- one of the method's name and the header names a binding, and the other none
abbrev pub is_misnamed : List ℕ → List ℕ → Bool
is_misnamed name header = if binds name then not (is_bound header) else is_bound header

abbrev pub offered_by : List ℕ → ScramServerAuth → Result ClientFirst ScramMessageFault → Kept
    → List ℕ → Result (List ℕ × WaitingForClientFinal) PgWireError
offered_by name server (Err why) kept nonce = Err (InvalidScramMessage why)
offered_by name server (Ok parts) kept nonce =
    if is_misnamed name parts.header then Err (InvalidScramMessage ChannelBinding) else offered_to
    server parts kept nonce

-- the step of a method of this name: client-first's grammar, its header, and the server's step
abbrev pub offered_under : List ℕ → ScramServerAuth → List ℕ → Kept → List ℕ
    → Result (List ℕ × WaitingForClientFinal) PgWireError
offered_under name server payload kept nonce =
    offered_by name server (read_client_first payload) kept nonce

-- ---- the server's first message

abbrev pub first_reply : Result (List ℕ × WaitingForClientFinal) PgWireError
    → Result (Authentication × SASLState) PgWireError
first_reply (Err e) = Err e
first_reply (Ok (text, server)) = Ok (auth.SASLContinue text, ScramServerFirstSent server)

-- a refusal of the source is passed on
abbrev pub FirstWith : Result Kept PgWireError → ScramServerAuth → List ℕ → List ℕ → List ℕ
    → Result (Authentication × SASLState) PgWireError → Type 0
FirstWith (Err e) server name payload nonce answer = answer ≡ Err e
FirstWith (Ok kept) server name payload nonce answer =
    answer ≡ first_reply (offered_under name server payload kept nonce)

-- the source is asked for the login
abbrev pub FirstOn : (Login → Result Kept PgWireError → Type 0) → ScramServerAuth → Login → List ℕ
    → Option (List ℕ) → List ℕ → Result (Authentication × SASLState) PgWireError → Type 0
FirstOn A server login name None nonce answer = answer ≡ Err (InvalidScramMessage Empty)
FirstOn A server login name (Some payload) nonce answer =
    (given : Result Kept PgWireError) × A login given
    × FirstWith given server name payload nonce answer

abbrev pub FirstBy : (Login → Result Kept PgWireError → Type 0) → ScramServerAuth → Login
    → Result SASLInitialResponse PgWireError → List ℕ
    → Result (Authentication × SASLState) PgWireError → Type 0
FirstBy A server login (Err e) nonce answer = answer ≡ Err e
FirstBy A server login (Ok m) nonce answer =
    FirstOn A server login m.auth_method m.payload nonce answer

-- the message is read as the first one; or memory runs out
abbrev pub FirstReplies : (Login → Result Kept PgWireError → Type 0) → ScramServerAuth → Login
    → PasswordMessageFamily → List ℕ → Result (Authentication × SASLState) PgWireError → Type 0
FirstReplies A server login message nonce answer =
    (answer ≡ Err OutOfMemory) ⊎ FirstBy A server login (as_initial_response message) nonce answer

-- ---- the server's last message

abbrev pub final_reply : Result (List ℕ) PgWireError
    → Result (Authentication × SASLState) PgWireError
final_reply (Err e) = Err e
final_reply (Ok text) = Ok (auth.SASLFinal text, Finished)

abbrev pub final_by : WaitingForClientFinal → Result SASLResponse PgWireError
    → Result (Authentication × SASLState) PgWireError
final_by server (Err e) = Err e
final_by server (Ok m) = final_reply (accepted server m.payload)

-- the message is read as a further one; or memory runs out
abbrev pub FinalReplies : WaitingForClientFinal → PasswordMessageFamily
    → Result (Authentication × SASLState) PgWireError → Type 0
FinalReplies server message answer =
    (answer ≡ Err OutOfMemory) ⊎ (answer ≡ final_by server (as_response message))

-- ---- both

abbrev pub ScramReplies : (Login → Result Kept PgWireError → Type 0) → ScramServerAuth → Login
    → PasswordMessageFamily → List ℕ → SASLState → Result (Authentication × SASLState) PgWireError
    → Type 0
ScramReplies A server login message nonce Initial answer = answer ≡ Err InvalidSASLState
ScramReplies A server login message nonce ScramClientFirstReceived answer =
    FirstReplies A server login message nonce answer
ScramReplies A server login message nonce (ScramServerFirstSent waiting) answer =
    FinalReplies waiting message answer
ScramReplies A server login message nonce (StoredServerFirstSent waiting) answer =
    answer ≡ Err InvalidSASLState
ScramReplies A server login message nonce OauthStateInit answer = answer ≡ Err InvalidSASLState
ScramReplies A server login message nonce OauthStateError answer = answer ≡ Err InvalidSASLState
ScramReplies A server login message nonce Finished answer = answer ≡ Err InvalidSASLState
ScramReplies A server login message nonce Failed answer = answer ≡ Err InvalidSASLState

-- ---- whatever the source keeps

-- what is replied for a login to a message, by the server's nonce and how far the exchange is
abbrev pub Exchanges : Type 1
Exchanges = Login → PasswordMessageFamily → List ℕ → SASLState
    → Result (Authentication × SASLState) PgWireError → Type 0

-- of a source of passwords
abbrev pub by_passwords : {S : Type 0} → (S → Login → Result Kept PgWireError → Type 0) → S
    → ScramServerAuth → Exchanges
by_passwords A source server = ScramReplies (A source) server

-- ---- if it is set

abbrev pub and_some : Result (Authentication × SASLState) PgWireError → Reply
and_some (Err e) = Err e
and_some (Ok (message, next)) = Ok (Some message, next)

abbrev pub ByScram : {S : Type 0} → (S → ScramServerAuth → Exchanges) → Option (ScramAuth S)
    → Login
    → PasswordMessageFamily → List ℕ → SASLState → Reply → Type 0
ByScram R None login message nonce state reply = RefusesMethod (codes "SCRAM") reply
ByScram R (Some scram) login message nonce state reply =
    (replied : Result (Authentication × SASLState) PgWireError)
    × R scram.auth_db scram.authenticator login message nonce state replied
    × (reply ≡ and_some replied)
