-- What a client lays before its handlers.
use Rattle.std.specs.Prelude.{ℕ, Bool, true, false, negsuc, pos, List, [], ◌∷◌, length}
use Rattle.pgw_wire.specs.Pairs.{Held}
use Rattle.pgw_handlers.specs.declared.client_info.ServerInformation.{ServerInformation}
use Rattle.pgw_backend.specs.declared.client_error.PgWireClientError.{PgWireClientError as ClientError}
use Rattle.pgw_backend.specs.declared.client_error.PgWireClientError.TheVariants as client
use Rattle.std.specs.FinMap as map
use Rattle.pgw_wire.specs.declared.secret_key.SecretKey.TheVariants.{I32}
use Rattle.pgw_query.specs.declared.response.TransactionStatus.TheVariants.{Idle}
use Rattle.pgw_config.specs.declared.config.Config.{Config}
use Rattle.pgw_handlers.specs.Client.{Client, Sight}
use Rattle.pgw_client_calls.specs.declared.desk.Desk.{Desk}

-- what it knows of its connection
abbrev pub client_of : Desk → Client
client_of d = record {
  config = d.config;
  parameters = d.parameters;
  process_id = d.process_id;
  secret_key = d.secret_key;
  protocol_version = d.protocol_version;
  transaction_status = d.transaction_status;
}

-- what a handler sees of it: what it sent counts as flushed
abbrev pub sight_of : Desk → Sight
sight_of d =
    record {
      client = client_of d;
      wrote = d.out.items;
      flushed = length d.out.items;
      broken =
          d.broken;
    }

-- before a server told anything
abbrev pub first_client : Config → Client
first_client config = record {
  config = config;
  parameters = map.empty;
  process_id = negsuc 0;
  secret_key = I32 (pos 0);
  protocol_version = config.protocol_version;
  transaction_status = Idle;
}

-- memory was wanting
abbrev pub is_wanting : ClientError → Bool
is_wanting client.OutOfMemory = true
is_wanting e = false

-- each parameter set, in order
abbrev pub insert_all : Held → List (List ℕ × List ℕ) → Held
insert_all m [] = m
insert_all m (p ∷ ps) = insert_all (map.insert m p.0 p.1) ps

-- what the server told of itself as a client logged in: its parameters are set over those that there are, and its process
-- number and key replace the client's
abbrev pub with_information : ServerInformation → Client → Client
with_information told c =
    record c {
      parameters = insert_all c.parameters (map.entries told.parameters);
      process_id =
          told.process_id;
      secret_key = told.secret_key;
    }
