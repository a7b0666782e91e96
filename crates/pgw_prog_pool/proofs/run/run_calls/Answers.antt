use Rattle.pgw_prog_pool.proofs.OutcomeLaws.{comes}
use Rattle.pgw_prog_pool.proofs.run.run_calls.Goals as goal

pub returns-in-Ok : goal.returns-in-Ok
returns-in-Ok c =
    comes _ _ _ c.args.calls.now c.args.lines c.make_calls-made.new.text c.in-Ok.stop c.outcome_of.result
    (rw (c.new-out.ensures.items, c.new-text.ensures.items) at c.in-Ok.ensures.made)
    c.give_all_back-wanting.ensures c.outcome_of.ensures
