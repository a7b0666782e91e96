use Rattle.std.proofs.Common.{take, refl, sym, ap, ◌∙◌, take_at, []}
use Rattle.pgw_proxy.specs.Record.{record_of}
use Rattle.pgw_proxy.proofs.PassingLaws.{tapes_run}
use Rattle.pgw_proxy.proofs.passing.pass_plain.Goals as goal

pub returns-in-Ok-clause-ok : goal.returns-in-Ok-clause-ok
returns-in-Ok-clause-ok c =
    let bytes = c.args.bytes.now in
    let n = c.in_ok-taken.taken in
    tapes_run c.args.side c.args.context.now c.args.context.now.ready bytes (take n bytes) n c.args.out.now.items
    c.extend_from_slice.new.self.items c.args.tape.now.items c.record_plain.new.tape.items
    c.if-not-is_settled.ensures refl c.in_ok-taken.ensures.ok refl c.in-Ok.ensures.ok

pub returns-in-Err-clause-err : goal.returns-in-Err-clause-err
returns-in-Err-clause-err c =
    let runs = c.in_ok-taken.ensures.ok c.args.context.now c.if-not-is_settled.ensures refl [] in (
      c.in-Err.ensures.err,
      c.truncate.ensures.items ∙ ap (take c.len-start.result) runs.tape
          ∙ take_at c.args.tape.now.items (record_of runs.messages) c.len-start.result
          (sym c.len-start.ensures.value),
    )
