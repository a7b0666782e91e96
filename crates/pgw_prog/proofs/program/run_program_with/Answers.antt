use Rattle.std.proofs.Common.{map, refl, arith}
use Rattle.std.specs.Prelude.{string_bytes}
use Rattle.pgw_prog.specs.Command.{command_for}
use Rattle.pgw_prog.specs.Connected.{dial_span}
use Rattle.pgw_prog.specs.Transfer.{source_span, sink_span}
use Rattle.pgw_prog.proofs.ProgramLaws.{leaves_same, ran_short}
use Rattle.pgw_prog.proofs.TransferLaws.{untouched}
use Rattle.pgw_prog.proofs.program.run_program_with.Goals as goal

pub returns-in-Ok-clause-run : goal.returns-in-Ok-clause-run
returns-in-Ok-clause-run g c = rw c.in-Ok.ensures.named at c.run_command_with.ensures.run

pub returns-in-Err-clause-run : goal.returns-in-Err-clause-run
returns-in-Err-clause-run g c =
    let I = g.I.Source in
    let O = g.O.Sink in
    let D = g.D.Dialer in
    let source = source_span I.tape I.left I.faults c.args.input.now c.args.input.now in
    let sink = sink_span O.tape O.faults c.args.output.now c.args.output.now in
    let dialer = dial_span D.tape D.foretells D.offers D.faults c.args.dialer.now c.args.dialer.now in
    ran_short _ _ _ _ (command_for (map string_bytes c.args.words.now)) source sink dialer refl
    (untouched source refl refl) (λ unread. refl) (omega arith) (leaves_same _ _ dialer refl) refl refl refl
