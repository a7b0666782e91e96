-- What is seen of the client that servers keep.
use Rattle.pgw_login.specs.Client.{LoginClient}
use Rattle.pgw_login.specs.declared.client_info.DefaultClient.{DefaultClient}

abbrev pub login_client : {E : Type 0} → DefaultClient E → LoginClient
login_client c =
    record {
      host = c.host;
      is_secure = c.is_secure;
      protocol_version = c.protocol_version;
      pid =
          c.pid_secret_key.0;
      secret_key =
          c.pid_secret_key.1;
      state =
          c.state;
      transaction_status = c.transaction_status;
      metadata = c.metadata;
    }
