-- Who logs in.
use Rattle.std.specs.Prelude.{ℕ, List, Option, codes}
use Rattle.std.specs.FinMap as map
use Rattle.pgw_login.specs.Client.{LoginClient}

pub record Login : Type 0 where
  pub user : Option (List ℕ)
  pub database : Option (List ℕ)
  pub host : List ℕ

-- as the client's parameters name it
abbrev pub login_seen : LoginClient → Login
login_seen c =
    record {
      user = map.get c.metadata (codes "user");
      database = map.get c.metadata
          (codes "database");
      host = c.host;
    }
