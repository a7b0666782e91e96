-- What is seen of a client.
use Rattle.std.specs.Prelude.{ℕ, ℤ, Bool, List}
use Rattle.pgw_types.specs.declared.context.ProtocolVersion.{ProtocolVersion}
use Rattle.pgw_wire.specs.declared.secret_key.SecretKey.{SecretKey}
use Rattle.pgw_wire.specs.Pairs.{Held}
use Rattle.pgw_query.specs.declared.response.TransactionStatus.{TransactionStatus}
use Rattle.pgw_login.specs.declared.client_info.PgWireConnectionState.{PgWireConnectionState}

-- where it calls from and how, what was settled with it, how far it is, and the parameters that it gave
pub record LoginClient : Type 0 where
  pub host : List ℕ
  pub is_secure : Bool
  pub protocol_version : ProtocolVersion
  pub pid : ℤ
  pub secret_key : SecretKey
  pub state : PgWireConnectionState
  pub transaction_status : TransactionStatus
  pub metadata : Held

-- each part set, and the others as they were
abbrev pub with_version : ProtocolVersion → LoginClient → LoginClient
with_version version c = record c { protocol_version = version }

abbrev pub with_key : ℤ → SecretKey → LoginClient → LoginClient
with_key pid key c = record c { pid = pid; secret_key = key }

abbrev pub with_state : PgWireConnectionState → LoginClient → LoginClient
with_state state c = record c { state = state }

abbrev pub with_status : TransactionStatus → LoginClient → LoginClient
with_status status c = record c { transaction_status = status }

abbrev pub with_metadata : Held → LoginClient → LoginClient
with_metadata metadata c = record c { metadata = metadata }
