-- Logins that are bound to a hash. Not part of the claim: words of the laws on bound logins.
use Rattle.std.specs.Prelude.{◌≡◌, ◌⊎◌, ℕ, Bool, true, false, List, [], ◌∷◌, ◌++◌, codes, Some, Ok, is_some}
use Rattle.std.specs.Str.{is_utf8}
use Rattle.pgw_startup.specs.declared.authentication.Authentication.TheVariants as authentication
use Rattle.pgw_startup.specs.declared.password.PasswordMessageFamily.TheVariants as family
use Rattle.pgw_backend.specs.declared.backend.PgWireBackendMessage.TheVariants as backend
use Rattle.pgw_frontend.specs.declared.frontend.PgWireFrontendMessage.{PgWireFrontendMessage as Frontend}
use Rattle.pgw_frontend.specs.declared.frontend.PgWireFrontendMessage.TheVariants as frontend
use Rattle.pgw_hash.specs.Saslprep.{saslprep}
use Rattle.pgw_scram.specs.Base64.{base64}
use Rattle.pgw_scram.specs.Readers.{read_server_first}
use Rattle.pgw_scram.specs.declared.messages.ServerFirst.{ServerFirst}
use Rattle.pgw_session.specs.Events.{Event, Sent, Got, sents}
use Rattle.pgw_session.specs.Input.{Input}
use Rattle.pgw_session.specs.Logins.{must_bind, user_of, password_of}
use Rattle.pgw_session.specs.Segments.{startup_message}

-- ---- texts

-- client-first names the certificate of the server's end (RFC 5929, section 4)
abbrev pub NamesEndPoint : List ℕ → Type 0
NamesEndPoint opening = (bare : List ℕ) × (opening ≡ codes "p=tls-server-end-point,," ++ bare)

-- client-final has the binding text of this hash, and this nonce (RFC 5802, section 7)
abbrev pub BindsTo : List ℕ → List ℕ → List ℕ → Type 0
BindsTo hash nonce text = (proof : List ℕ)
    × (text ≡ codes "c=" ++ base64 (codes "p=tls-server-end-point,," ++ hash)
    ++ codes ",r=" ++ nonce ++ codes ",p=" ++ proof)

-- ---- events

-- client-first by the method that binds, and client-final
abbrev pub binding_first : List ℕ → Frontend
binding_first opening = frontend.PasswordMessageFamily (family.SASLInitialResponse (record {
  auth_method = codes "SCRAM-SHA-256-PLUS";
  payload = Some opening;
}))

abbrev pub binding_last : List ℕ → Frontend
binding_last last =
    frontend.PasswordMessageFamily (family.SASLResponse (record { payload = last }))

-- server and client exchange these texts, by the method that binds
abbrev pub bound_exchange : List (List ℕ) → List ℕ → List ℕ → List ℕ → List ℕ → List Event
bound_exchange methods opening first last final =
    Got (backend.Authentication (authentication.SASL methods)) ∷ Sent (binding_first opening)
    ∷ Got (backend.Authentication (authentication.SASLContinue first)) ∷ Sent (binding_last last)
    ∷ Got (backend.Authentication (authentication.SASLFinal final)) ∷ []

-- Such an exchange stands in the events behind these. The client's first text names the server's
-- end, the last has the binding text of the hash and the nonce of server-first; and nothing else is
-- sent but the startup message.
pub record LogsInBound (input : Input) (hash : List ℕ) (before es : List Event) : Type 0 where
  pub methods : List (List ℕ)
  pub opening : List ℕ
  pub first : List ℕ
  pub last : List ℕ
  pub final : List ℕ
  pub parts : ServerFirst
  pub behind : List Event
  pub are : es ≡ before ++ (bound_exchange methods opening first last final ++ behind)
  pub begins : NamesEndPoint opening
  pub read : read_server_first first ≡ Ok parts
  pub bound : BindsTo hash parts.nonce last
  pub sends : sents es ≡ startup_message input ∷ binding_first opening ∷ binding_last last ∷ []

-- nothing of it lets the client in
abbrev pub LetsNoneIn : List Event → Type 0
LetsNoneIn [] = Unit {0}
LetsNoneIn (Got (backend.Authentication authentication.Ok) ∷ es) = ⊥
LetsNoneIn (Got (backend.ReadyForQuery m) ∷ es) = ⊥
LetsNoneIn (e ∷ es) = LetsNoneIn es

-- ---- whether a login can end

-- it need not be bound; or a hash to bind it to is given, the password is UTF-8, and the user name
-- has a prepared form
abbrev pub CanEnd : Input → Type 0
CanEnd input = (must_bind input ≡ false)
    ⊎ ((is_some (input.config).certificate_hash ≡ true) × (is_utf8 (password_of input) ≡ true)
    × (is_some (saslprep (user_of input)) ≡ true))
