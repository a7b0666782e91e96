use Rattle.pgw_query.specs.Runs.{lent_row}
use Rattle.pgw_query.proofs.RunLaws.{Opened, begins, next_of_run, opened}
use Rattle.pgw_query.proofs.row_iter.DataRowsIterIterator.next.Goals as goal

pub first_row-requires : goal.first_row-requires
first_row-requires c =
    (begins c.self.inside.left c.self.inside.rest.now c.if-self-gt0.true c.self.invariant.0).head

pub invariant_of-self : goal.invariant_of-self
invariant_of-self c =
    let b = begins c.self.inside.left c.self.inside.rest.now c.if-self-gt0.true c.self.invariant.0 in
    (rw c.first_row.ensures.rest b.others, c.self.invariant.1)

of_run : (c : goal.After-as_slice-in-Messages)
    → Opened c.in-Messages.count c.in-Messages.bytes c.in_ok-first.others.now
of_run c =
    opened c.self.inside.runs.now c.in_ok-first.others.now c.in_ok-first.first.now c.in-Messages.count
    c.in-Messages.bytes c.in_ok-first.ensures.cases.0 c.in-Messages.is c.self.invariant.1

pub first_row-requires-in-Messages : goal.first_row-requires-in-Messages
first_row-requires-in-Messages c =
    let o =
    of_run c in rw c.as_slice-in-Messages.ensures
    (begins c.in-Messages.count c.in-Messages.bytes o.some o.spelled).head

pub invariant_of-self-in-Messages : goal.invariant_of-self-in-Messages
invariant_of-self-in-Messages c =
    let o =
    opened c.self.inside.runs.now c.in_ok-first.others.now c.in_ok-first.first.now c.in-Messages.count
    c.in-Messages.bytes c.in_ok-first.ensures.cases.0 c.in-Messages.is c.self.invariant.1 in (
      rw (c.first_row-in-Messages.ensures.rest, c.as_slice-in-Messages.ensures)
          (begins c.in-Messages.count c.in-Messages.bytes o.some o.spelled).others,
      o.others_are,
    )

pub returns-in-Messages-clause-steps : goal.returns-in-Messages-clause-steps
returns-in-Messages-clause-steps c =
    next_of_run c.args.self.now c.self.inside.left c.in-Messages.count c.self.inside.rest.now c.in-Messages.bytes
    c.as_slice-in-Messages.result.now c.first_row-in-Messages.result.1.now c.self.inside.runs.now
    c.in_ok-first.others.now c.in_ok-first.first.now (lent_row c.first_row-in-Messages.result.0)
    c.self.view_is c.if-self-gt0.false c.in_ok-first.ensures.cases.0 c.in-Messages.is c.self.invariant.1
    c.as_slice-in-Messages.ensures c.first_row-in-Messages.ensures.row c.first_row-in-Messages.ensures.rest
