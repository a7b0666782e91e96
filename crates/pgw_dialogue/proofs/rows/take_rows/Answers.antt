use Rattle.std.specs.Prelude.{nat_lt}
use Rattle.std.proofs.Common.{arith, refl}
use Rattle.std.proofs.lemmas.Bool.{ltb-false, ltb-true}
use Rattle.pgw_dialogue.proofs.RowLaws.{rows_taken}
use Rattle.pgw_dialogue.proofs.rows.take_rows.Goals as goal

pub returns-clause-taken : goal.returns-clause-taken
returns-clause-taken c =
    let count = c.in_ok-count.count in
    rows_taken c.args.notes.now _ c.add_rows.new.tally c.args.inbox.now c.add_rows.new.inbox count
    (nat_lt 0 count) c.requires c.in_ok-count.ensures.rows refl (λ e. ltb-true 0 count e)
    (λ e. omega (arith, ltb-false 0 count e))
