-- Input of which each message can be sent.
use Rattle.std.specs.Prelude.{◌≡◌, ◌≢◌, ◌<◌, ◌≤◌, ℕ, true, ◌+◌, List, [], ◌∷◌, ◌++◌, length, codes, Option, Some, None, is_some, IfSome}
use Rattle.std.specs.List.{All}
use Rattle.pgw_wire.specs.Writing.{text, i32}
use Rattle.pgw_ext.specs.Kinds.{name}
use Rattle.pgw_ext.specs.Rows.{parse, bind}
use Rattle.pgw_startup.specs.Password.{initial_response}
use Rattle.pgw_startup.specs.declared.password.PasswordMessageFamily.TheVariants as family
use Rattle.pgw_frontend.specs.declared.frontend.PgWireFrontendMessage.{PgWireFrontendMessage as Frontend}
use Rattle.pgw_frontend.specs.declared.frontend.PgWireFrontendMessage.TheVariants as frontend
use Rattle.pgw_config.specs.declared.config.SslMode.TheVariants as ssl_mode
use Rattle.pgw_config.specs.declared.config.ChannelBinding.TheVariants as channel_binding
use Rattle.pgw_session.specs.declared.types.Request.{Request}
use Rattle.pgw_session.specs.Input.{Input}
use Rattle.pgw_session.specs.Requests.{sends_of}
use Rattle.pgw_wire.specs.declared.limits.TheConstants.{LARGE_LIMIT, SMALL_LIMIT}

-- no byte of a text is zero: on the wire a zero byte ends it (Message Data Types, String)
abbrev pub HasNoZero : List ℕ → Type 0
HasNoZero text = All (λ b. b ≢ 0) text

-- the bytes of a parameter, where it is set: its name and its value, with a zero byte behind each
abbrev pub parameter_size : List ℕ → Option (List ℕ) → ℕ
parameter_size name None = 0
parameter_size name (Some value) = length name + length value + 2

-- The bytes of the startup message: its length and the version, 4 bytes each; the parameters; and a zero byte (StartupMessage).
abbrev pub startup_size : Input → ℕ
startup_size input =
    parameter_size (codes "application_name") (input.config).application_name + parameter_size
    (codes "user") (input.config).user + parameter_size (codes "database")
    (input.config).dbname + 9

-- so many bytes and the length field, which is 4 bytes, are within the limit
abbrev pub FitsLimit : ℕ → List ℕ → Type 0
FitsLimit limit body = length body + 4 ≤ limit

abbrev pub IsValidName : Option (List ℕ) → Type 0
IsValidName n = IfSome n HasNoZero

-- no text has a zero byte, nothing is counted above 65535, and the message is within its limit
abbrev pub IsValidMessage : Frontend → Type 0
IsValidMessage (frontend.PasswordMessageFamily (family.Password m)) =
    HasNoZero m.password × FitsLimit SMALL_LIMIT (text m.password)
IsValidMessage (frontend.PasswordMessageFamily (family.SASLInitialResponse m)) =
    (0 < length m.auth_method) × HasNoZero m.auth_method
    × FitsLimit SMALL_LIMIT (initial_response m)
IsValidMessage (frontend.PasswordMessageFamily (family.SASLResponse m)) =
    FitsLimit SMALL_LIMIT m.payload
IsValidMessage (frontend.Query m) = HasNoZero m.query × FitsLimit LARGE_LIMIT (text m.query)
IsValidMessage (frontend.Parse m) =
    IsValidName m.name × HasNoZero m.query × (length m.type_oids ≤ 65535)
    × FitsLimit LARGE_LIMIT (parse m)
IsValidMessage (frontend.Bind m) =
    IsValidName m.portal_name × IsValidName m.statement_name
    × (length m.parameter_format_codes ≤ 65535) × (length m.parameters ≤ 65535)
    × (length m.result_column_format_codes ≤ 65535) × FitsLimit LARGE_LIMIT (bind m)
IsValidMessage (frontend.Execute m) =
    IsValidName m.name × FitsLimit SMALL_LIMIT (name m.name ++ i32 m.max_rows)
IsValidMessage (frontend.Describe m) =
    IsValidName m.name × FitsLimit SMALL_LIMIT (m.target_type ∷ name m.name)
IsValidMessage (frontend.Close m) =
    IsValidName m.name × FitsLimit SMALL_LIMIT (m.target_type ∷ name m.name)
IsValidMessage (frontend.Flush m) = Unit {0}
IsValidMessage (frontend.Sync m) = Unit {0}
IsValidMessage m = ⊥

abbrev pub AreValid : List Frontend → Type 0
AreValid [] = Unit {0}
AreValid (m ∷ ms) = IsValidMessage m × AreValid ms

abbrev pub IsValidRequest : Request → Type 0
IsValidRequest q = AreValid (sends_of q)

-- nothing is demanded that this client can't do, no text has a zero byte, and neither the startup message nor a request's
-- is above its limit
pub record IsValidInput (input : Input) : Type 0 where
  pub encryption : (input.config).ssl_mode ≢ ssl_mode.Require
  pub binding : (input.config).channel_binding ≡ channel_binding.Require
      → is_some (input.config).certificate_hash ≡ true
  pub application_name : IfSome (input.config).application_name HasNoZero
  pub user : IfSome (input.config).user HasNoZero
  pub database : IfSome (input.config).dbname HasNoZero
  pub startup : startup_size input ≤ SMALL_LIMIT
  pub requests : All IsValidRequest input.requests

-- How a client logs in is as the server asks: with nothing, with the password as text, with its MD5, or with SCRAM, whose
-- last text is as long as the server makes it. What it logs in with can be sent.
abbrev pub IsLoginValid : Frontend → Type 0
IsLoginValid (frontend.PasswordMessageFamily m) =
    IsValidMessage (frontend.PasswordMessageFamily m)
IsLoginValid m = Unit {0}

abbrev pub CanLogIn : List Frontend → Type 0
CanLogIn [] = Unit {0}
CanLogIn (m ∷ ms) = IsLoginValid m × CanLogIn ms
