-- What a handler sees of a client.
use Rattle.std.specs.Prelude.{ℕ, ℤ, Bool, List}
use Rattle.std.specs.FinMap as map
use Rattle.pgw_types.specs.declared.context.ProtocolVersion.{ProtocolVersion}
use Rattle.pgw_wire.specs.declared.secret_key.SecretKey.{SecretKey}
use Rattle.pgw_wire.specs.Pairs.{Held}
use Rattle.pgw_query.specs.declared.response.TransactionStatus.{TransactionStatus}
use Rattle.pgw_config.specs.declared.config.Config.{Config}

-- what it knows of its connection
pub record Client : Type 0 where
  pub config : Config
  pub parameters : Held
  pub process_id : ℤ
  pub secret_key : SecretKey
  pub protocol_version : ProtocolVersion
  pub transaction_status : TransactionStatus

-- as Client, the bytes that it sent, how many of them were flushed, and whether an error has left it unusable
pub record Sight : Type 0 where
  pub client : Client
  pub wrote : List ℕ
  pub flushed : ℕ
  pub broken : Bool

-- each part set, and the others as they were
abbrev pub with_parameter : List ℕ → List ℕ → Sight → Sight
with_parameter name value s =
    record s {
      client = record s.client { parameters = map.insert s.client.parameters name value };
    }

abbrev pub with_sight_version : ProtocolVersion → Sight → Sight
with_sight_version version s =
    record s { client = record s.client { protocol_version = version } }

abbrev pub with_sight_status : TransactionStatus → Sight → Sight
with_sight_status status s = record s { client = record s.client { transaction_status = status } }
