-- What is true of every input of the program: its texts are UTF-8, its bytes are bytes, its nonces
-- have 18, and the key of its words is a number of 32 bits.
use Rattle.std.specs.Prelude.{◌≡◌, ◌<◌, ◌≤◌, ◌^◌, ℕ, List, length, Some, IsUtf8}
use Rattle.base64.specs.GeneralPurpose.{IsBytes}
use Rattle.pgw_types.specs.declared.context.ProtocolVersion.TheVariants.{PROTOCOL3_0}
use Rattle.pgw_wire.specs.Keys.{IsKey}
use Rattle.pgw_registry.specs.Key.{process_key}
use Rattle.pgw_login_pair.specs.declared.parties.PairInput.{PairInput}

pub record IsSoundInput (input : PairInput) : Type 0 where
  pub user_utf8 : IsUtf8 input.user
  pub salt_bytes : (salt : List ℕ) → (input.stored).salt ≡ Some salt → IsBytes salt
  pub client_nonce : length input.client_nonce ≡ 18
  pub server_nonce : length input.server_nonce ≡ 18
  pub key : IsKey (process_key PROTOCOL3_0 input.words)
  pub least : 1 ≤ input.count
  pub most : input.count < 2 ^ 32
  pub client_bytes : (hash : List ℕ) → input.client_hash ≡ Some hash → IsBytes hash
  pub server_bytes : (hash : List ℕ) → input.server_hash ≡ Some hash → IsBytes hash
