use Rattle.std.proofs.Common.{refl, [], Ok, Err}
use Rattle.std.proofs.Math.Nat.{le_refl}
use Rattle.std.proofs.lemmas.Result.{err_from_is_err_and}
use Rattle.pgw_login_sasl.proofs.handler.SASLAuthStartupHandler.respond.Goals as goal

pub returns-in_err-reply-clause-responded : goal.returns-in_err-reply-clause-responded
returns-in_err-reply-clause-responded g c =
    let p = err_from_is_err_and c.from_residual.result c.from_residual.ensures.1 in
    rw (p.1, p.2) (record {
      sent = [];
      told = refl;
      later = le_refl _;
      done = (
        Err c.in_err-reply.field-0.0,
        rw c.from_client_info.ensures at c.in_err-reply.ensures,
        (refl, refl, refl),
      );
    })

pub returns-clause-responded : goal.returns-clause-responded
returns-clause-responded g c =
    let d = c.go_on.ensures.done in
    record {
      sent = d.sent;
      told = d.told;
      later = d.later;
      done = (
        Ok (c.in_ok-reply.reply, c.in_ok-reply.next),
        rw c.from_client_info.ensures at c.in_ok-reply.ensures,
        d.done,
      );
    }
