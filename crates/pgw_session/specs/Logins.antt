-- How a client logs in.
use Rattle.std.specs.Prelude.{◌≡◌, ℕ, Bool, true, false, ◌||◌, ◌&&◌, List, [], ◌∷◌, ◌++◌, codes, Option, Some, None, is_some, option_map, unwrap_or}
use Rattle.std.specs.List.{list_any}
use Rattle.std.specs.Str.{bytes_eq, is_utf8}
use Rattle.pgw_wire.specs.Reading.{lossy}
use Rattle.pgw_startup.specs.declared.authentication.Authentication.TheVariants as authentication
use Rattle.pgw_startup.specs.declared.password.PasswordMessageFamily.TheVariants as family
use Rattle.pgw_backend.specs.declared.backend.PgWireBackendMessage.TheVariants as backend
use Rattle.pgw_frontend.specs.declared.frontend.PgWireFrontendMessage.{PgWireFrontendMessage as Frontend}
use Rattle.pgw_frontend.specs.declared.frontend.PgWireFrontendMessage.TheVariants as frontend
use Rattle.pgw_backend.specs.declared.client_error.PgWireClientError.{PgWireClientError as ClientError}
use Rattle.pgw_backend.specs.declared.client_error.PgWireClientError.TheVariants as client
use Rattle.pgw_backend.specs.ClientError.{of_scram}
use Rattle.pgw_types.specs.declared.scram_error.ScramFault.TheVariants as scram_fault
use Rattle.pgw_hash.specs.Md5Password.{md5_password}
use Rattle.pgw_hash.specs.Saslprep.{saslprep}
use Rattle.pgw_config.specs.declared.config.ChannelBinding.{ChannelBinding}
use Rattle.pgw_config.specs.declared.config.ChannelBinding.TheVariants as channel_binding
use Rattle.pgw_scram.specs.declared.binding.ClientBinding.{ClientBinding}
use Rattle.pgw_scram.specs.declared.binding.ClientBinding.TheVariants as binding
use Rattle.pgw_scram.specs.declared.exchange.ClientLogin.{ClientLogin}
use Rattle.pgw_scram.specs.Base64.{nonce_text}
use Rattle.pgw_scram.specs.Refusals as scram
use Rattle.pgw_scram.specs.Answers.{unless_so, first_of}
use Rattle.pgw_scram.specs.Refusals.{user_refusal}
use Rattle.pgw_scram.specs.Exchange.{client_first, client_final, signature}
use Rattle.pgw_session.specs.Input.{Input}
use Rattle.pgw_session.specs.Events.{Event, Sent, Got}

-- ---- what is sent

-- user name and password are the empty text where none is set
abbrev pub user_of : Input → List ℕ
user_of input = unwrap_or (input.config).user []

abbrev pub password_of : Input → List ℕ
password_of input = unwrap_or (input.config).password []

-- the user name as SCRAM has it
abbrev pub scram_user : Input → List ℕ
scram_user input = unwrap_or (saslprep (user_of input)) []

abbrev pub password_message : List ℕ → Frontend
password_message text =
    frontend.PasswordMessageFamily (family.Password (record { password = text }))

-- the password in clear text, read as UTF-8, lossily
abbrev pub cleartext_message : Input → Frontend
cleartext_message input = password_message (lossy (password_of input))

abbrev pub md5_message : Input → List ℕ → Frontend
md5_message input salt =
    password_message (md5_password (user_of input) (lossy (password_of input)) salt)

-- the server offers a method of this name
abbrev pub offers : List ℕ → List (List ℕ) → Bool
offers name methods = list_any (bytes_eq name) methods

-- What a SCRAM login is bound to: to nothing where that is forbidden, or no hash of the server's certificate is given; to
-- the hash where the server offers to bind; else to nothing, and the client says that this was not offered.
abbrev pub binding_by : ChannelBinding → Option (List ℕ) → Bool → ClientBinding
binding_by channel_binding.Disable hash binds = binding.None
binding_by mode None binds = binding.None
binding_by mode (Some hash) true = binding.EndPoint hash
binding_by mode (Some hash) false = binding.NotOffered

abbrev pub binding_of : Input → List (List ℕ) → ClientBinding
binding_of input methods =
    binding_by (input.config).channel_binding (input.config).certificate_hash
    (offers (codes "SCRAM-SHA-256-PLUS") methods)

-- a login is required to be bound
abbrev pub is_required : ChannelBinding → Bool
is_required channel_binding.Require = true
is_required mode = false

abbrev pub must_bind : Input → Bool
must_bind input = is_required (input.config).channel_binding

-- A method is taken: the one that binds, where a hash is given and to bind is not forbidden; or the plain one, where to
-- bind is not required.
abbrev pub takes_by : ChannelBinding → Bool → Bool → Bool → Bool
takes_by channel_binding.Disable has_hash binds plain = plain
takes_by channel_binding.Prefer has_hash binds plain = (has_hash && binds) || plain
takes_by channel_binding.Require has_hash binds plain = has_hash && binds

abbrev pub takes_method : Input → List (List ℕ) → Bool
takes_method input methods =
    takes_by (input.config).channel_binding (is_some (input.config).certificate_hash)
    (offers (codes "SCRAM-SHA-256-PLUS") methods) (offers (codes "SCRAM-SHA-256") methods)

-- who logs in by SCRAM, where the server offers these methods
abbrev pub scram_login : Input → List (List ℕ) → ClientLogin
scram_login input methods =
    record {
      binding = binding_of input methods;
      user = scram_user input;
      password = password_of
          input;
      nonce = nonce_text input.nonce;
    }

-- the method that binds, where the login is bound
abbrev pub method_of : ClientBinding → List ℕ
method_of (binding.EndPoint hash) = codes "SCRAM-SHA-256-PLUS"
method_of b = codes "SCRAM-SHA-256"

abbrev pub first_message : ClientLogin → Frontend
first_message login =
    frontend.PasswordMessageFamily
    (family.SASLInitialResponse
    (record {
      auth_method = method_of login.binding;
      payload = Some (client_first login);
    }))

abbrev pub final_message : ClientLogin → List ℕ → Frontend
final_message login first =
    frontend.PasswordMessageFamily
    (family.SASLResponse (record { payload = client_final login first }))

-- ---- what of the server's is refused

-- a list of methods of which none is taken; or the password is not UTF-8; or the user name has no prepared form
abbrev pub methods_refusal : Input → List (List ℕ) → Option ClientError
methods_refusal input methods =
    first_of (unless_so (takes_method input methods) (client.UnsupportedSASLAuthMethods methods))
    (first_of (unless_so (is_utf8 (password_of input))
    (client.ScramError scram_fault.PasswordNotUtf8))
    (option_map of_scram (user_refusal (saslprep (user_of input)))))

-- server-first outside its grammar; or its nonce does not begin with the client's; or its salt is none
abbrev pub first_refusal : ClientLogin → List ℕ → Option ClientError
first_refusal login first = option_map of_scram (scram.scram_first_refusal login.nonce first)

-- the signature that server-final should have behind server-first
abbrev pub expected_of : ClientLogin → List ℕ → List ℕ
expected_of login first = signature login first

-- server-final outside its grammar; or it tells a failure; or its signature is another
abbrev pub final_refusal : List ℕ → List ℕ → Option ClientError
final_refusal expected final = option_map of_scram (scram.scram_refusal expected final)

-- ---- login blocks

pub data SessionLogin : Type 0 where
  Unasked : SessionLogin
  Cleartext : SessionLogin
  Md5 : (salt : List ℕ) → SessionLogin
  Scram : (methods : List (List ℕ)) → (first : List ℕ) → (final : List ℕ) → SessionLogin

abbrev pub login_events : Input → SessionLogin → List Event
login_events input Unasked = []
login_events input Cleartext =
    Got (backend.Authentication authentication.CleartextPassword) ∷ Sent (cleartext_message input)
    ∷ []
login_events input (Md5 salt) =
    Got (backend.Authentication (authentication.MD5Password salt)) ∷ Sent (md5_message input salt)
    ∷ []
login_events input (Scram methods first final) =
    Got (backend.Authentication (authentication.SASL methods)) ∷ Sent
    (first_message (scram_login input methods))
    ∷ Got (backend.Authentication (authentication.SASLContinue first)) ∷ Sent
    (final_message (scram_login input methods) first)
    ∷ Got (backend.Authentication (authentication.SASLFinal final)) ∷ []

-- nothing of the server's is refused; and a login is by SCRAM where it must be bound
abbrev pub IsAccepted : Input → SessionLogin → Type 0
IsAccepted input (Scram methods first final) =
    (methods_refusal input methods ≡ None)
    × (first_refusal (scram_login input methods) first ≡ None)
    × (final_refusal (expected_of (scram_login input methods) first) final ≡ None)
IsAccepted input login = must_bind input ≡ false
