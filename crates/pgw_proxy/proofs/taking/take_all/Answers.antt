use Rattle.std.proofs.Common.{sym, subst, List, ℕ}
use Rattle.pgw_proxy.specs.Taking.{RelaysUpTo}
use Rattle.pgw_proxy.proofs.TakingLaws.{runs_start, runs_then}
use Rattle.pgw_proxy.proofs.taking.take_all.Goals as goal

pub messages-init : goal.messages-init
messages-init g c = record {
  runs = subst (λ (l : List ℕ). RelaysUpTo c.args.side c.args.context.now c.args.bytes.now c.args.context.now l
      c.args.out.now.items c.args.out.now.items c.args.tape.now.items c.args.tape.now.items) (sym c.requires)
      (runs_start c.args.side c.args.context.now c.args.bytes.now c.args.out.now.items c.args.tape.now.items);
}

pub messages-preserved : goal.messages-preserved
messages-preserved g c =
    let step = rw c.in-Ok-true.field-0-test at c.in-Ok-true.ensures in
    record {
      runs = runs_then c.args.side c.args.context.now c.messages.context c.take_next.new.context c.args.bytes.now
          (g.B.Buffer.held c.messages.left) (g.B.Buffer.held c.take_next.new.left)
          c.args.out.now.items c.messages.out.items c.take_next.new.out.items c.args.tape.now.items
          c.messages.tape.items c.take_next.new.tape.items c.messages.invariant.runs step.0;
    }
