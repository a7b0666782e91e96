-- A login by SCRAM over a stored secret, message by message (RFC 5802, section 5; SASL Authentication,
-- "SCRAM-SHA-256").
use Rattle.std.specs.Prelude.{◌≡◌, ◌⊎◌, ℕ, List, Option, Some, None, Result, Ok, Err, if◌then◌else◌}
use Rattle.pgw_types.specs.declared.error.PgWireError.{PgWireError}
use Rattle.pgw_types.specs.declared.error.PgWireError.TheVariants.{InvalidSASLState, InvalidScramMessage, OutOfMemory}
use Rattle.pgw_types.specs.declared.error.ScramMessageFault.{ScramMessageFault}
use Rattle.pgw_types.specs.declared.error.ScramMessageFault.TheVariants.{Empty, ChannelBinding}
use Rattle.pgw_startup.specs.Password.{as_initial_response, as_response}
use Rattle.pgw_startup.specs.declared.authentication.Authentication.{Authentication}
use Rattle.pgw_startup.specs.declared.authentication.Authentication.TheVariants as auth
use Rattle.pgw_startup.specs.declared.password.PasswordMessageFamily.{PasswordMessageFamily}
use Rattle.pgw_startup.specs.declared.sasl.SASLInitialResponse.{SASLInitialResponse}
use Rattle.pgw_startup.specs.declared.sasl.SASLResponse.{SASLResponse}
use Rattle.pgw_scram.specs.Readers.{read_client_first}
use Rattle.pgw_scram.specs.declared.messages.ClientFirst.{ClientFirst}
use Rattle.pgw_scram.specs.declared.server.ScramServerAuth.{ScramServerAuth}
use Rattle.pgw_secrets.specs.Server.{stored_offer_to, AcceptsStored}
use Rattle.pgw_secrets.specs.declared.secret.StoredSecret.{StoredSecret}
use Rattle.pgw_secrets.specs.declared.server.StoredScramAuth.{StoredScramAuth}
use Rattle.pgw_secrets.specs.declared.server.StoredScramWaiting.{StoredScramWaiting}
use Rattle.pgw_login.specs.Login.{Login}
use Rattle.pgw_login.specs.declared.state.SASLState.{SASLState}
use Rattle.pgw_login.specs.declared.state.SASLState.TheVariants.{Initial, ScramClientFirstReceived, ScramServerFirstSent, StoredServerFirstSent, OauthStateInit, OauthStateError, Finished, Failed}
use Rattle.pgw_login_sasl.specs.Scram.{is_misnamed, final_reply, Exchanges}
use Rattle.pgw_login_sasl.specs.declared.stored.Secrets.{Secrets}

-- what a source of secrets may answer for a login
abbrev pub SecretSource : Type 1
SecretSource = Login → Result StoredSecret PgWireError → Type 0

-- a server with the certificate of this one, and a secret
abbrev pub over : ScramServerAuth → StoredSecret → StoredScramAuth
over server secret = record { secret = secret; certificate_hash = server.certificate_hash }

abbrev pub offered_by : List ℕ → StoredScramAuth → Result ClientFirst ScramMessageFault → List ℕ
    → Result (List ℕ × StoredScramWaiting) PgWireError
offered_by name server (Err why) nonce = Err (InvalidScramMessage why)
offered_by name server (Ok parts) nonce =
    if is_misnamed name parts.header then Err (InvalidScramMessage ChannelBinding)
    else stored_offer_to server parts nonce

-- the step of a method of this name: client-first's grammar, its header, and the server's step
abbrev pub offered_under : List ℕ → StoredScramAuth → List ℕ → List ℕ
    → Result (List ℕ × StoredScramWaiting) PgWireError
offered_under name server payload nonce = offered_by name server (read_client_first payload) nonce

-- ---- the server's first message

abbrev pub first_reply : Result (List ℕ × StoredScramWaiting) PgWireError
    → Result (Authentication × SASLState) PgWireError
first_reply (Err e) = Err e
first_reply (Ok (text, server)) = Ok (auth.SASLContinue text, StoredServerFirstSent server)

-- a refusal of the source is passed on
abbrev pub FirstWith : Result StoredSecret PgWireError → ScramServerAuth
    → (name payload nonce : List ℕ)
    → Result (Authentication × SASLState) PgWireError → Type 0
FirstWith (Err e) server name payload nonce answer = answer ≡ Err e
FirstWith (Ok secret) server name payload nonce answer =
    answer ≡ first_reply (offered_under name (over server secret) payload nonce)

-- the source is asked for the login
abbrev pub FirstOn : SecretSource → ScramServerAuth → Login
    → List ℕ → Option (List ℕ) → List ℕ → Result (Authentication × SASLState) PgWireError → Type 0
FirstOn S server login name None nonce answer = answer ≡ Err (InvalidScramMessage Empty)
FirstOn S server login name (Some payload) nonce answer =
    (given : Result StoredSecret PgWireError) × S login given
    × FirstWith given server name payload nonce answer

abbrev pub FirstBy : SecretSource → ScramServerAuth → Login
    → Result SASLInitialResponse PgWireError → List ℕ
    → Result (Authentication × SASLState) PgWireError → Type 0
FirstBy S server login (Err e) nonce answer = answer ≡ Err e
FirstBy S server login (Ok m) nonce answer =
    FirstOn S server login m.auth_method m.payload nonce answer

-- the message is read as the first one; or memory runs out
abbrev pub FirstReplies : SecretSource → ScramServerAuth
    → Login → PasswordMessageFamily → List ℕ → Result (Authentication × SASLState) PgWireError
    → Type 0
FirstReplies S server login message nonce answer =
    (answer ≡ Err OutOfMemory) ⊎ FirstBy S server login (as_initial_response message) nonce answer

-- ---- the server's last message

-- what the server that waits answers to client-final
abbrev pub FinalBy : StoredScramWaiting → Result SASLResponse PgWireError
    → Result (Authentication × SASLState) PgWireError → Type 0
FinalBy server (Err e) answer = answer ≡ Err e
FinalBy server (Ok m) answer =
    (judged : Result (List ℕ) PgWireError) × AcceptsStored server m.payload judged
    × (answer ≡ final_reply judged)

-- the message is read as a further one; or memory runs out
abbrev pub FinalReplies : StoredScramWaiting → PasswordMessageFamily
    → Result (Authentication × SASLState) PgWireError → Type 0
FinalReplies server message answer =
    (answer ≡ Err OutOfMemory) ⊎ FinalBy server (as_response message) answer

-- ---- both

abbrev pub StoredReplies : SecretSource → ScramServerAuth
    → Login → PasswordMessageFamily → List ℕ → SASLState
    → Result (Authentication × SASLState) PgWireError → Type 0
StoredReplies S server login message nonce Initial answer = answer ≡ Err InvalidSASLState
StoredReplies S server login message nonce ScramClientFirstReceived answer =
    FirstReplies S server login message nonce answer
StoredReplies S server login message nonce (ScramServerFirstSent waiting) answer =
    answer ≡ Err InvalidSASLState
StoredReplies S server login message nonce (StoredServerFirstSent waiting) answer =
    FinalReplies waiting message answer
StoredReplies S server login message nonce OauthStateInit answer = answer ≡ Err InvalidSASLState
StoredReplies S server login message nonce OauthStateError answer = answer ≡ Err InvalidSASLState
StoredReplies S server login message nonce Finished answer = answer ≡ Err InvalidSASLState
StoredReplies S server login message nonce Failed answer = answer ≡ Err InvalidSASLState

-- of a source of stored secrets
abbrev pub by_secrets : {S : Type 0} → (S → SecretSource)
    → Secrets S → ScramServerAuth → Exchanges
by_secrets S secrets server = StoredReplies (S secrets.source) server
