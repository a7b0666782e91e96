use Rattle.std.proofs.Common.{rules, refl}
use Rattle.std.proofs.lemmas.Result.{err_from_is_err_and}
use Rattle.pgw_prog_sessions.specs.Summary.{gen_input}
use Rattle.pgw_prog.proofs.OverLaws.{nothing_held, wanting}
use Rattle.pgw_prog.proofs.RowCounts.{rows_counted}
use Rattle.pgw_prog.proofs.gen_session.gen_session.Goals as goal

pub returns-in_err-config : goal.returns-in_err-config
returns-in_err-config g c =
    let p = err_from_is_err_and c.from_residual.result c.from_residual.ensures.1 in
    let link = c.args.link.now in
    record {
      session = record {
        outcome = wanting;
        session =
            nothing_held (gen_input c.args.nonce.now) c.args.limit g.L.Link.foretells (g.L.Link.tape link)
            (g.L.Link.left link) (g.L.Link.faults link) refl;
        told = rw (p.1, p.2) refl;
      };
      kept = refl;
    }

pub returns-in_err-request : goal.returns-in_err-request
returns-in_err-request g c =
    let p = err_from_is_err_and c.from_residual-in_err-request.result c.from_residual-in_err-request.ensures.1 in
    let link = c.args.link.now in
    record {
      session = record {
        outcome = wanting;
        session =
            nothing_held (gen_input c.args.nonce.now) c.args.limit g.L.Link.foretells (g.L.Link.tape link)
            (g.L.Link.left link) (g.L.Link.faults link) refl;
        told = rw (p.1, p.2) refl;
      };
      kept = refl;
    }

pub returns : goal.returns
returns g c =
    let e = rw (c.in_ok-config.ensures, c.in_ok-request.ensures) at c.run_session-outcome.ensures in
    record {
      session = record { outcome = c.run_session-outcome.result; session = e.session; told = c.summed.ensures };
      kept = e.kept;
    }

pub summed-requires : goal.summed-requires
summed-requires g c =
    let e = rw (c.in_ok-config.ensures, c.in_ok-request.ensures) at c.run_session-outcome.ensures in
    let link = e.session in
    rows_counted (gen_input c.args.nonce.now) c.args.limit _ _ c.run_session-outcome.result (search rules)
    link.completed link.paced
