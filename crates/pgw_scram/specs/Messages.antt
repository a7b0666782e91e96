-- The messages of SCRAM (RFC 5802, section 7), each as a relation between a whole text and its parts.
-- What is optional in front may be left out, and extensions behind the known attributes mean nothing.
use Rattle.std.specs.Prelude.{◌≡◌, ℕ, List, [], ◌∷◌, ◌++◌, ◌<◌, codes, IsUtf8, Option, Some, Result, Ok, Err}
use Rattle.pgw_types.specs.declared.error.ScramMessageFault.{ScramMessageFault}
use Rattle.pgw_types.specs.declared.error.ScramMessageFault.TheVariants as fault
use Rattle.pgw_types.specs.Numbers.{number_in}
use Rattle.pgw_scram.specs.Attributes.{IsValue, attribute}
use Rattle.pgw_scram.specs.declared.messages.ClientFirst.{ClientFirst}
use Rattle.pgw_scram.specs.declared.messages.ServerFirst.{ServerFirst}
use Rattle.pgw_scram.specs.declared.messages.ClientFinal.{ClientFinal}
use Rattle.pgw_scram.specs.declared.messages.ServerFinal.{ServerFinal}
use Rattle.pgw_scram.specs.declared.messages.ServerFinal.TheVariants.{Signature, Failed}

-- [reserved-mext ","]: what a text is behind one, if it has one
pub data SkipsMext : List ℕ → List ℕ → Type 0 where
  without : {text : List ℕ} → SkipsMext text text
  with : {text rest : List ℕ} (value : List ℕ) → text ≡ attribute (codes "m=") value (Some rest)
      → IsValue value → SkipsMext text rest

-- ---- client-first-message

-- gs2-cbind-flag: the client does not support channel binding, or thinks that the server does not, or names one
pub data IsFlag : List ℕ → Type 0 where
  not_supported : IsFlag (codes "n")
  not_offered : IsFlag (codes "y")
  named : {flag : List ℕ} (name : List ℕ) → flag ≡ codes "p=" ++ name → IsValue name → IsFlag flag

-- [ authzid ]
pub data IsAuthzid : List ℕ → Type 0 where
  without_id : IsAuthzid []
  with_id : {text : List ℕ} (name : List ℕ) → text ≡ codes "a=" ++ name → IsValue name
      → IsAuthzid text

-- gs2-header = gs2-cbind-flag "," [ authzid ] ","
pub record IsHeader (header : List ℕ) : Type 0 where
  pub flag : List ℕ
  pub authzid : List ℕ
  pub written : header ≡ flag ++ 44 ∷ (authzid ++ 44 ∷ [])
  pub is_flag : IsFlag flag
  pub is_authzid : IsAuthzid authzid

-- client-first-message-bare = [reserved-mext ","] username "," nonce ["," extensions]
pub record IsBareFirst (bare user nonce : List ℕ) : Type 0 where
  pub body : List ℕ
  pub more : Option (List ℕ)
  pub skips : SkipsMext bare body
  pub written : body ≡ attribute (codes "n=") user (Some (attribute (codes "r=") nonce more))
  pub user_value : IsValue user
  pub nonce_value : IsValue nonce

-- client-first-message = gs2-header client-first-message-bare
pub record IsClientFirst (message : List ℕ) (parts : ClientFirst) : Type 0 where
  pub utf8 : IsUtf8 message
  pub written : message ≡ parts.header ++ parts.bare
  pub header : IsHeader parts.header
  pub bare : IsBareFirst parts.bare parts.user parts.nonce

-- ---- server-first-message

-- [reserved-mext ","] nonce "," salt "," iteration-count ["," extensions]
pub record HasServerFirst (message nonce salt count : List ℕ) : Type 0 where
  pub body : List ℕ
  pub more : Option (List ℕ)
  pub skips : SkipsMext message body
  pub written : body ≡ attribute (codes "r=") nonce
      (Some (attribute (codes "s=") salt (Some (attribute (codes "i=") count more))))
  pub nonce_value : IsValue nonce
  pub salt_value : IsValue salt
  pub count_value : IsValue count

pub record IsServerFirst (message : List ℕ) (parts : ServerFirst) : Type 0 where
  pub utf8 : IsUtf8 message
  pub count : List ℕ
  pub written : HasServerFirst message parts.nonce parts.salt count
  -- posit-number: here a whole number from 1 to 4294967295
  pub counts : number_in 32 count ≡ Some parts.count
  pub positive : 0 < parts.count

-- the form is right, and the count is none
pub record HasNoCount (message : List ℕ) : Type 0 where
  pub utf8 : IsUtf8 message
  pub nonce : List ℕ
  pub salt : List ℕ
  pub count : List ℕ
  pub written : HasServerFirst message nonce salt count
  pub no_count : (n : ℕ) → number_in 32 count ≡ Some n → 0 < n → ⊥

-- ---- client-final-message

-- client-final-message-without-proof = channel-binding "," nonce ["," extensions]
pub record IsWithoutProof (text binding nonce : List ℕ) : Type 0 where
  pub more : Option (List ℕ)
  pub written : text ≡ attribute (codes "c=") binding (Some (attribute (codes "r=") nonce more))
  pub binding_value : IsValue binding
  pub nonce_value : IsValue nonce

-- client-final-message = client-final-message-without-proof "," proof
pub record IsClientFinal (message : List ℕ) (parts : ClientFinal) : Type 0 where
  pub utf8 : IsUtf8 message
  pub written : message ≡ parts.without_proof ++ 44 ∷ (codes "p=" ++ parts.proof)
  pub without_proof : IsWithoutProof parts.without_proof parts.binding parts.nonce
  pub proof_value : IsValue parts.proof

-- ---- server-final-message

-- (server-error / verifier) ["," extensions]
pub data IsServerFinal : List ℕ → ServerFinal → Type 0 where
  verifier : {message value : List ℕ} (more : Option (List ℕ)) → IsUtf8 message
      → message ≡ attribute (codes "v=") value more → IsValue value
      → IsServerFinal message (Signature value)
  server_error : {message value : List ℕ} (more : Option (List ℕ)) → IsUtf8 message
      → message ≡ attribute (codes "e=") value more → IsValue value
      → IsServerFinal message (Failed value)

-- ---- what a reader answers

-- the parts, or why there are none
abbrev pub IsScramReading : {A : Type 0} → (List ℕ → A → Type 0) → List ℕ
    → Result A ScramMessageFault → Type 0
IsScramReading Is message (Ok parts) = Is message parts
IsScramReading Is message (Err fault.NotUtf8) = IsUtf8 message → ⊥
IsScramReading {A} Is message (Err fault.Grammar) =
    IsUtf8 message × ((parts : A) → Is message parts → ⊥)
IsScramReading Is message (Err other) = ⊥

-- as IsScramReading, of server-first, where the form may be right and the count none
abbrev pub IsServerFirstReading : List ℕ → Result ServerFirst ScramMessageFault → Type 0
IsServerFirstReading message (Err fault.Count) = HasNoCount message
IsServerFirstReading message (Err fault.Grammar) =
    IsUtf8 message × ((nonce salt count : List ℕ) → HasServerFirst message nonce salt count → ⊥)
IsServerFirstReading message reading = IsScramReading IsServerFirst message reading
