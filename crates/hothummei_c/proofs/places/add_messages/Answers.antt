use Rattle.std.proofs.Common.{◌+◌, ◌-◌, ℕ, List, arith, rules, sym, subst, ap, ◌∙◌}
use Rattle.pgw_query.specs.Runs.{HasHead, row_end}
use Rattle.pgw_query.proofs.RunLaws.{rest_of}
use Rattle.hothummei_c.proofs.PlaceLaws.{Adding, adds}
use Rattle.hothummei_c.proofs.places.add_messages.Goals as goal

pub head_of-at-requires : goal.head_of-at-requires
head_of-at-requires c =
    let n =
    adds c.args.run c.args.count c.args.bytes.now c.args.places.now.items c.rows.places.items c.rows.left
    c.rows.at (omega (arith, c.rows-test.true)) c.rows.invariant in
    subst (λ (l : List ℕ). HasHead l) (sym (rest_of c.args.bytes.now c.rows.at)) n.head

pub overflow_add-at : goal.overflow_add-at
overflow_add-at c =
    let n =
    adds c.args.run c.args.count c.args.bytes.now c.args.places.now.items c.rows.places.items c.rows.left
    c.rows.at (omega (arith, c.rows-test.true)) c.rows.invariant in
    let ends = c.head_of-at.ensures.1 ∙ ap row_end (rest_of c.args.bytes.now c.rows.at) in
    let room = n.room in
    rw ends (search rules)

pub rows-preserved : goal.rows-preserved
rows-preserved c =
    let n =
    adds c.args.run c.args.count c.args.bytes.now c.args.places.now.items c.rows.places.items c.rows.left
    c.rows.at (omega (arith, c.rows-test.true)) c.rows.invariant in
    let ends = c.head_of-at.ensures.1 ∙ ap row_end (rest_of c.args.bytes.now c.rows.at) in
    subst (λ (k : ℕ). Adding c.args.run c.args.count c.args.bytes.now c.args.places.now.items
    c.push.new.self.items (c.rows.left - 1) (c.rows.at + k)) (sym ends)
    (n.next c.push.new.self.items c.in_ok-push.ensures.items)
