use Rattle.std.proofs.Common.{refl, subst}
use Rattle.pgw_prog.specs.declared.program.Stop.{Stop}
use Rattle.pgw_prog.specs.Connected.{DialSpan, dial_span}
use Rattle.pgw_prog.specs.Transfer.{SourceSpan, SinkSpan, source_span, sink_span}
use Rattle.pgw_prog.specs.Program.{CountsStop}
use Rattle.pgw_prog.proofs.ProgramLaws.{ran_written, ran_unwritten, ran_unread, ran_short}
use Rattle.pgw_prog.proofs.program.run_command_with.Goals as goal

pub returns-in-Ok-write_whole-clause-run : goal.returns-in-Ok-write_whole-clause-run
returns-in-Ok-write_whole-clause-run g c =
    let e = c.in-Ok.ensures in
    let I = g.I.Source in
    let O = g.O.Sink in
    let D = g.D.Dialer in
    let source : SourceSpan = source_span I.tape I.left I.faults c.args.input.now c.answer.new.input in
    let sink : SinkSpan = sink_span O.tape O.faults c.args.output.now c.write_whole.new.output in
    let dialer : DialSpan =
    dial_span D.tape D.foretells D.offers D.faults c.args.dialer.now c.answer.new.dialer in
    ran_written _ _ _ _ _ source sink dialer c.in-Ok.printed e.answers e.no_fault e.took e.unread e.later e.leaves
    (rw c.deref.ensures.value at c.in-Ok-write_whole.ensures.wrote) c.in-Ok-write_whole.ensures.no_fault

pub returns-in-Ok-clause-run : goal.returns-in-Ok-clause-run
returns-in-Ok-clause-run g c =
    let e = c.in-Ok.ensures in
    let I = g.I.Source in
    let O = g.O.Sink in
    let D = g.D.Dialer in
    let source : SourceSpan = source_span I.tape I.left I.faults c.args.input.now c.answer.new.input in
    let sink : SinkSpan = sink_span O.tape O.faults c.args.output.now c.write_whole.new.output in
    let dialer : DialSpan =
    dial_span D.tape D.foretells D.offers D.faults c.args.dialer.now c.answer.new.dialer in
    ran_unwritten _ _ _ _ _ source sink dialer c.in-Ok.printed e.answers e.no_fault e.took e.unread e.later
    e.leaves (rw c.deref.ensures.value at c.in-Err.ensures.failed) c.in-Err.ensures.cause.failed

pub returns-in-Err-Source-clause-run : goal.returns-in-Err-Source-clause-run
returns-in-Err-Source-clause-run g c =
    let e = c.in-Err-Source.ensures in
    let is = c.in-Err-Source.field-0-is in
    let I = g.I.Source in
    let O = g.O.Sink in
    let D = g.D.Dialer in
    let source : SourceSpan = source_span I.tape I.left I.faults c.args.input.now c.answer.new.input in
    let sink : SinkSpan = sink_span O.tape O.faults c.args.output.now c.args.output.now in
    let dialer : DialSpan =
    dial_span D.tape D.foretells D.offers D.faults c.args.dialer.now c.answer.new.dialer in
    ran_unread _ _ _ _ _ source sink dialer (e.source is) (subst (λ (s : Stop). CountsStop s source) is e.cause)
    e.took e.unread e.later e.leaves refl refl refl

pub returns-clause-run : goal.returns-clause-run
returns-clause-run g c =
    let e = c.in-Err-OutOfMemory.ensures in
    let is = c.in-Err-OutOfMemory.field-0-is in
    let I = g.I.Source in
    let O = g.O.Sink in
    let D = g.D.Dialer in
    let source : SourceSpan = source_span I.tape I.left I.faults c.args.input.now c.answer.new.input in
    let sink : SinkSpan = sink_span O.tape O.faults c.args.output.now c.args.output.now in
    let dialer : DialSpan =
    dial_span D.tape D.foretells D.offers D.faults c.args.dialer.now c.answer.new.dialer in
    ran_short _ _ _ _ _ source sink dialer (subst (λ (s : Stop). CountsStop s source) is e.cause) e.took e.unread
    e.later e.leaves refl refl refl
