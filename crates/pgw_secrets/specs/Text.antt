-- The text of a stored secret, as a relation between a whole text and its parts.
use Rattle.std.specs.Prelude.{◌≡◌, ◌<◌, ◌⊎◌, ℕ, List, ◌∷◌, ◌++◌, codes, Some, Result, Ok, Err}
use Rattle.base64.specs.GeneralPurpose.{IsBytes}
use Rattle.pgw_types.specs.Numbers.{number_in}
use Rattle.pgw_scram.specs.Base64.{base64}
use Rattle.pgw_secrets.specs.declared.secret.StoredSecret.{StoredSecret}
use Rattle.pgw_secrets.specs.declared.secret.SecretFault.{SecretFault}
use Rattle.pgw_secrets.specs.declared.secret.SecretFault.TheVariants as fault
use Rattle.pgw_secrets.specs.Secret.{IsScramKey}

-- ---- one part, and what stands behind it

-- a whole number from 1 to 4294967295, and a colon
pub record IsCounted (text : List ℕ) (count : ℕ) (behind : List ℕ) : Type 0 where
  pub written : List ℕ
  pub cut : text ≡ written ++ 58 ∷ behind
  pub counts : number_in 32 written ≡ Some count
  pub positive : 0 < count

-- bytes in base64, and a dollar sign
abbrev pub IsSalted : List ℕ → List ℕ → List ℕ → Type 0
IsSalted text salt behind = (text ≡ base64 salt ++ 36 ∷ behind) × IsBytes salt

-- 32 bytes in base64, and a colon
abbrev pub IsKeyed : List ℕ → List ℕ → List ℕ → Type 0
IsKeyed text key behind = (text ≡ base64 key ++ 58 ∷ behind) × IsScramKey key

-- 32 bytes in base64, up to the end
abbrev pub IsLastKey : List ℕ → List ℕ → Type 0
IsLastKey text key = (text ≡ base64 key) × IsScramKey key

-- ---- a whole text, up to a part

-- behind the name
abbrev pub HasSecretName : List ℕ → List ℕ → Type 0
HasSecretName text behind = text ≡ codes "SCRAM-SHA-256$" ++ behind

-- behind the count
pub record Counted (text : List ℕ) (count : ℕ) (behind : List ℕ) : Type 0 where
  pub from : List ℕ
  pub before : HasSecretName text from
  pub part : IsCounted from count behind

-- behind the salt
pub record ReadsSalt (text : List ℕ) (count : ℕ) (salt behind : List ℕ) : Type 0 where
  pub from : List ℕ
  pub before : Counted text count from
  pub part : IsSalted from salt behind

-- behind StoredKey
pub record Keyed (text : List ℕ) (count : ℕ) (salt key behind : List ℕ) : Type 0 where
  pub from : List ℕ
  pub before : ReadsSalt text count salt from
  pub part : IsKeyed from key behind

-- the whole of it, ServerKey to the end
pub record IsSecretText (text : List ℕ) (secret : StoredSecret) : Type 0 where
  pub from : List ℕ
  pub before : Keyed text secret.count secret.salt secret.stored_key from
  pub part : IsLastKey from secret.server_key

-- ---- what a reader answers

-- a text has a part where all parts up to it are well formed
abbrev pub HasName : List ℕ → Type 0
HasName text = (behind : List ℕ) × HasSecretName text behind

abbrev pub HasCount : List ℕ → Type 0
HasCount text = (count : ℕ) × (behind : List ℕ) × Counted text count behind

abbrev pub HasSalt : List ℕ → Type 0
HasSalt text =
    (count : ℕ) × (salt : List ℕ) × (behind : List ℕ) × ReadsSalt text count salt behind

abbrev pub HasStoredKey : List ℕ → Type 0
HasStoredKey text =
    (count : ℕ) × (salt : List ℕ) × (key : List ℕ) × (behind : List ℕ)
    × Keyed text count salt key behind

abbrev pub HasServerKey : List ℕ → Type 0
HasServerKey text = (secret : StoredSecret) × IsSecretText text secret

-- the secret, or the first faulty part from the left
abbrev pub IsSecretReading : List ℕ → Result StoredSecret SecretFault → Type 0
IsSecretReading text (Ok secret) = IsSecretText text secret
IsSecretReading text (Err fault.Prefix) = HasName text → ⊥
IsSecretReading text (Err fault.Count) = HasName text × (HasCount text → ⊥)
IsSecretReading text (Err fault.Salt) = HasCount text × (HasSalt text → ⊥)
IsSecretReading text (Err fault.StoredKey) = HasSalt text × (HasStoredKey text → ⊥)
IsSecretReading text (Err fault.ServerKey) = HasStoredKey text × (HasServerKey text → ⊥)
IsSecretReading text (Err fault.OutOfMemory) = ⊥

-- this, or memory ran out
abbrev pub ReadsSecret : List ℕ → Result StoredSecret SecretFault → Type 0
ReadsSecret text reading = (reading ≡ Err fault.OutOfMemory) ⊎ IsSecretReading text reading
