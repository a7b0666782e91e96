-- What a client answers to an authentication request.
use Rattle.std.specs.Prelude.{◌≡◌, ℕ, ℤ, pos, negsuc, List, ◌++◌, length, Option, Some, None, Result, Ok, Err, if◌then◌else◌}
use Rattle.std.specs.Ordering.{int_eq}
use Rattle.std.specs.Int.{w32}
use Rattle.pgw_types.specs.declared.error.PgWireError.{PgWireError}
use Rattle.pgw_types.specs.declared.error.PgWireError.TheVariants.{InvalidMessageBody, FailedToCoercePasswordMessage}
use Rattle.pgw_types.specs.declared.context.DecodeContext.{DecodeContext}
use Rattle.pgw_wire.specs.Reading.{◌>>=◌, int_at, text_at, octets_at, rest_at, all_of}
use Rattle.pgw_wire.specs.Formats.{pair_at, Pair, made_at, SpellsText, SpellsInt}
use Rattle.pgw_wire.specs.Writing.{text, i32, u32, has_zero, refused_if}
use Rattle.pgw_startup.specs.Login.{is_method_refused}
use Rattle.pgw_startup.specs.declared.password.Password.{Password}
use Rattle.pgw_startup.specs.declared.sasl.SASLInitialResponse.{SASLInitialResponse}
use Rattle.pgw_startup.specs.declared.sasl.SASLResponse.{SASLResponse}
use Rattle.pgw_startup.specs.declared.password.PasswordMessageFamily.{PasswordMessageFamily}
use Rattle.pgw_startup.specs.declared.password.PasswordMessageFamily.TheVariants as family

-- ---- PasswordMessage

unfoldable pub password_payload : List ℕ → Result Password PgWireError
password_payload bytes = all_of (made_at (λ t. record { password = t }) text_at bytes)

abbrev pub SpellsPassword : Password → List ℕ → Type 0
SpellsPassword m = SpellsText m.password

-- ---- SASLInitialResponse, SASLResponse

-- so many bytes; -1 is no data, and no other number is negative
abbrev pub octets_counted : ℤ → List ℕ → Result (Option (List ℕ) × List ℕ) PgWireError
octets_counted (pos n) bytes = made_at Some (octets_at n) bytes
octets_counted (negsuc n) bytes = Err InvalidMessageBody

abbrev pub octets_or_none : ℤ → List ℕ → Result (Option (List ℕ) × List ℕ) PgWireError
octets_or_none z bytes = if int_eq z (negsuc 0) then Ok (None, bytes) else octets_counted z bytes

unfoldable pub data_at : List ℕ → Result (Option (List ℕ) × List ℕ) PgWireError
data_at bytes = do
  len ← int_at w32 bytes
  octets_or_none len.0 len.1

-- a length and as many bytes, or the length -1 for no data
abbrev pub SpellsData : Option (List ℕ) → List ℕ → Type 0
SpellsData None bytes = SpellsInt w32 (negsuc 0) bytes
SpellsData (Some payload) bytes =
    (len : List ℕ) × (bytes ≡ len ++ payload) × SpellsInt w32 (pos (length payload)) len

-- a length that is too great for 32 bits stands in no message
unfoldable pub data_written : Option (List ℕ) → List ℕ
data_written None = i32 (negsuc 0)
data_written (Some bytes) = u32 (length bytes) ++ bytes

unfoldable pub initial_response_of : List ℕ → Result SASLInitialResponse PgWireError
initial_response_of bytes =
    all_of (made_at (λ p. record { auth_method = p.0; payload = p.1 }) (pair_at text_at data_at)
    bytes)

abbrev pub SpellsInitialResponse : SASLInitialResponse → List ℕ → Type 0
SpellsInitialResponse m = Pair SpellsText SpellsData (m.auth_method, m.payload)

abbrev pub initial_response : SASLInitialResponse → List ℕ
initial_response m = text m.auth_method ++ data_written m.payload

unfoldable pub sasl_response_in : List ℕ → Result SASLResponse PgWireError
sasl_response_in bytes = all_of (made_at (λ b. record { payload = b }) rest_at bytes)

abbrev pub SpellsResponse : SASLResponse → List ℕ → Type 0
SpellsResponse m bytes = bytes ≡ m.payload

-- ---- the family

-- which message it is cannot be told from the bytes
unfoldable pub family_of : DecodeContext → List ℕ → Result PasswordMessageFamily PgWireError
family_of ctx bytes = all_of (made_at family.Raw rest_at bytes)

abbrev pub SpellsRaw : PasswordMessageFamily → List ℕ → Type 0
SpellsRaw m bytes = m ≡ family.Raw bytes

abbrev pub password_body : PasswordMessageFamily → List ℕ
password_body (family.Raw body) = body
password_body (family.Password m) = text m.password
password_body (family.SASLInitialResponse m) = initial_response m
password_body (family.SASLResponse m) = m.payload

abbrev pub password_fault : PasswordMessageFamily → Option PgWireError
password_fault (family.Raw body) = None
password_fault (family.Password m) = refused_if (has_zero m.password)
password_fault (family.SASLInitialResponse m) = refused_if (is_method_refused m.auth_method)
password_fault (family.SASLResponse m) = None

-- a body is read as what it is taken for, and what is another message already is refused
abbrev pub as_password : PasswordMessageFamily → Result Password PgWireError
as_password (family.Raw body) = password_payload body
as_password (family.Password m) = Ok m
as_password (family.SASLInitialResponse m) = Err FailedToCoercePasswordMessage
as_password (family.SASLResponse m) = Err FailedToCoercePasswordMessage

abbrev pub as_initial_response : PasswordMessageFamily → Result SASLInitialResponse PgWireError
as_initial_response (family.Raw body) = initial_response_of body
as_initial_response (family.Password m) = Err FailedToCoercePasswordMessage
as_initial_response (family.SASLInitialResponse m) = Ok m
as_initial_response (family.SASLResponse m) = Err FailedToCoercePasswordMessage

abbrev pub as_response : PasswordMessageFamily → Result SASLResponse PgWireError
as_response (family.Raw body) = sasl_response_in body
as_response (family.Password m) = Err FailedToCoercePasswordMessage
as_response (family.SASLInitialResponse m) = Err FailedToCoercePasswordMessage
as_response (family.SASLResponse m) = Ok m
