-- A login by a bearer token (RFC 7628, sections 3.1 and 3.2).
use Rattle.std.specs.Prelude.{◌≡◌, ◌⊎◌, ℕ, List, [], ◌∷◌, Option, Some, None, Result, Ok, Err, if◌then◌else◌}
use Rattle.pgw_types.specs.declared.error.PgWireError.{PgWireError}
use Rattle.pgw_types.specs.declared.error.PgWireError.TheVariants.{InvalidOauthMessage, OAuthAuthenticationFailed, UserNameRequired, InvalidSASLState, OutOfMemory}
use Rattle.pgw_types.specs.declared.error.OauthFault.{OauthFault}
use Rattle.pgw_types.specs.declared.error.OauthFault.TheVariants.{NotOneByte}
use Rattle.pgw_types.specs.declared.error.OauthRefusal.TheVariants as refusal
use Rattle.pgw_login_sasl.specs.Data.{auth_in}
use Rattle.pgw_login_sasl.specs.Token.{token_in}
use Rattle.std.specs.Str.{bytes_eq}
use Rattle.pgw_wire.specs.Reading.{lossy}
use Rattle.pgw_startup.specs.Password.{as_initial_response, as_response}
use Rattle.pgw_startup.specs.declared.authentication.Authentication.TheVariants as auth
use Rattle.pgw_startup.specs.declared.password.PasswordMessageFamily.{PasswordMessageFamily}
use Rattle.pgw_startup.specs.declared.password.PasswordMessageFamily.TheVariants as family
use Rattle.pgw_startup.specs.declared.sasl.SASLInitialResponse.{SASLInitialResponse}
use Rattle.pgw_startup.specs.declared.sasl.SASLResponse.{SASLResponse}
use Rattle.pgw_login.specs.declared.state.SASLState.{SASLState}
use Rattle.pgw_login.specs.declared.state.SASLState.TheVariants.{Initial, ScramClientFirstReceived, ScramServerFirstSent, StoredServerFirstSent, OauthStateInit, OauthStateError, Finished, Failed}
use Rattle.pgw_login_sasl.specs.Replies.{Reply}
use Rattle.pgw_login_sasl.specs.ErrorText.{IsErrorText}
use Rattle.pgw_login_sasl.specs.declared.validator.ValidatorModuleResult.{ValidatorModuleResult}

-- ---- the token

abbrev pub well_formed : Option (List ℕ) → Result (Option (List ℕ)) PgWireError
well_formed None = Err (OAuthAuthenticationFailed refusal.Malformed)
well_formed (Some token) = Ok (Some token)

abbrev pub token_of_auth : Result (Option (List ℕ)) OauthFault
    → Result (Option (List ℕ)) PgWireError
token_of_auth (Err why) = Err (InvalidOauthMessage why)
token_of_auth (Ok None) = Ok None
token_of_auth (Ok (Some auth)) = well_formed (token_in auth)

-- the token in the text of a message, none where there is no value of `auth`, or the refusal
abbrev pub token_of : List ℕ → Result (Option (List ℕ)) PgWireError
token_of text = token_of_auth (auth_in text)

-- ---- the validator

abbrev pub judged : Result ValidatorModuleResult PgWireError → Result (Unit {0}) PgWireError
judged (Err e) = Err e
judged (Ok found) =
    if found.authorized then Ok tt else Err (OAuthAuthenticationFailed refusal.Refused)

-- the login has a user, and the validator says that the token gives it access
abbrev pub Judged : (List ℕ → List ℕ → List ℕ → List ℕ
    → Result ValidatorModuleResult PgWireError → Type 0)
    → List ℕ → List ℕ → List ℕ → Option (List ℕ) → Result (Unit {0}) PgWireError → Type 0
Judged V issuer scope token None answer = answer ≡ Err UserNameRequired
Judged V issuer scope token (Some user) answer =
    (found : Result ValidatorModuleResult PgWireError) × V token user issuer scope found
    × (answer ≡ judged found)

-- ---- the client's data

abbrev pub payload_of : Result SASLInitialResponse PgWireError
    → Result (Option (List ℕ)) PgWireError
payload_of (Err e) = Err e
payload_of (Ok m) = Ok m.payload

-- the data of the first message, if it has some, or the whole of a further one
abbrev pub data_of : PasswordMessageFamily → Result (Option (List ℕ)) PgWireError
data_of (family.Raw body) = payload_of (as_initial_response (family.Raw body))
data_of (family.Password m) = payload_of (as_initial_response (family.Password m))
data_of (family.SASLInitialResponse m) = Ok m.payload
data_of (family.SASLResponse m) = Ok (Some m.payload)

abbrev pub oauth_reply : Result (Unit {0}) PgWireError → Reply
oauth_reply (Err e) = Err e
oauth_reply (Ok done) = Ok (None, Finished)

-- without a token the client is told where to get one
abbrev pub ByToken : (List ℕ → List ℕ → List ℕ → List ℕ
    → Result ValidatorModuleResult PgWireError → Type 0)
    → List ℕ → List ℕ → Option (List ℕ) → Result (Option (List ℕ)) PgWireError → Reply → Type 0
ByToken V issuer scope user (Err e) reply = reply ≡ Err e
ByToken V issuer scope user (Ok None) reply =
    (text : List ℕ) × IsErrorText issuer scope text
    × (reply ≡ Ok (Some (auth.SASLContinue text), OauthStateError))
ByToken V issuer scope user (Ok (Some token)) reply =
    (verdict : Result (Unit {0}) PgWireError) × Judged V issuer scope token user verdict
    × (reply ≡ oauth_reply verdict)

-- without data the client is asked for it
abbrev pub ByData : (List ℕ → List ℕ → List ℕ → List ℕ
    → Result ValidatorModuleResult PgWireError → Type 0)
    → List ℕ → List ℕ → Option (List ℕ) → Result (Option (List ℕ)) PgWireError → Reply → Type 0
ByData V issuer scope user (Err e) reply = reply ≡ Err e
ByData V issuer scope user (Ok None) reply =
    reply ≡ Ok (Some (auth.SASLContinue []), OauthStateInit)
ByData V issuer scope user (Ok (Some payload)) reply =
    ByToken V issuer scope user (token_of (lossy payload)) reply

-- ---- the end of a login without a token: the client sends one byte 1

abbrev pub oauth_end : Result SASLResponse PgWireError → Reply
oauth_end (Err e) = Err e
oauth_end (Ok m) =
    if bytes_eq m.payload (1 ∷ []) then Err (OAuthAuthenticationFailed refusal.Ended) else Err
    (InvalidOauthMessage NotOneByte)

-- ---- both; or memory runs out

abbrev pub OauthReplies :
    (List ℕ → List ℕ → List ℕ → List ℕ → Result ValidatorModuleResult PgWireError → Type 0)
    → List ℕ → List ℕ → Option (List ℕ) → PasswordMessageFamily → SASLState → Reply → Type 0
OauthReplies V issuer scope user message Initial reply = reply ≡ Err InvalidSASLState
OauthReplies V issuer scope user message ScramClientFirstReceived reply =
    reply ≡ Err InvalidSASLState
OauthReplies V issuer scope user message (ScramServerFirstSent server) reply =
    reply ≡ Err InvalidSASLState
OauthReplies V issuer scope user message (StoredServerFirstSent server) reply =
    reply ≡ Err InvalidSASLState
OauthReplies V issuer scope user message OauthStateInit reply =
    (reply ≡ Err OutOfMemory) ⊎ ByData V issuer scope user (data_of message) reply
OauthReplies V issuer scope user message OauthStateError reply =
    (reply ≡ Err OutOfMemory) ⊎ (reply ≡ oauth_end (as_response message))
OauthReplies V issuer scope user message Finished reply = reply ≡ Err InvalidSASLState
OauthReplies V issuer scope user message Failed reply = reply ≡ Err InvalidSASLState
