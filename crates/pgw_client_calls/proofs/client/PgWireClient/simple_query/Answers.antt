use Rattle.std.proofs.Common.{refl}
use Rattle.pgw_client_calls.proofs.client.PgWireClient.simple_query.Goals as goal

pub returns : goal.returns
returns g c =
    let s = c.simple_query.ensures in
    rw (← c.self.view_is) record {
      broken = λ was. let b = s.broken was in (b.0, rw b.1 refl);
      asked = s.asked;
      cause = s.cause;
      foretold = s.foretold;
      usable = s.usable;
      within = s.within;
      limit = s.limit;
      config = s.config;
    }
