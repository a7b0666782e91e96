use Rattle.std.proofs.Common.{◌++◌, refl}
use Rattle.pgw_query.proofs.RunLaws.{rest_of}
use Rattle.pgw_proxy.proofs.PassingLaws.{front_runs, front_then, breaks_behind, breaks_first, on_err}
use Rattle.pgw_proxy.proofs.passing.pass_front.Goals as goal

pub returns-in_err-append-clause-err : goal.returns-in_err-append-clause-err
returns-in_err-append-clause-err c =
    on_err c.from_residual.result _
    (breaks_first c.args.side c.args.context.now (c.args.waiting.now.items ++ c.args.piece.now)
    c.args.out.now.items c.args.out.now.items c.args.tape.now.items c.args.tape.now.items refl refl)

pub returns-in_err-pass_waiting-clause-err : goal.returns-in_err-pass_waiting-clause-err
returns-in_err-pass_waiting-clause-err c =
    on_err c.from_residual-in_err-pass_waiting.result _
    (breaks_first c.args.side c.args.context.now (c.args.waiting.now.items ++ c.args.piece.now)
    c.args.out.now.items c.pass_waiting.new.out.items c.args.tape.now.items c.pass_waiting.new.tape.items
    c.in_err-pass_waiting.ensures.err.0 c.in_err-pass_waiting.ensures.err.1)

pub returns-in_err-taken-clause-err : goal.returns-in_err-taken-clause-err
returns-in_err-taken-clause-err c =
    let piece = c.args.piece.now in
    let waiting = c.args.waiting.now.items in
    let k = c.wanted-wanted.result in
    let one =
    front_runs c.args.side c.args.context.now waiting piece c.append.new.waiting.items
    c.pass_waiting.new.waiting.items k c.args.out.now.items c.pass_waiting.new.out.items
    c.args.tape.now.items c.pass_waiting.new.tape.items
    c.in_ok-append.ensures.ok c.in_ok-pass_waiting.ensures.ok in
    on_err c.from_residual-in_err-taken.result _
    (breaks_behind c.args.side c.args.context.now (waiting ++ piece) _ c.args.out.now.items
    c.pass_waiting.new.out.items c.pass_piece.new.out.items c.args.tape.now.items
    c.pass_waiting.new.tape.items c.pass_piece.new.tape.items one c.in_err-taken.ensures.err.0
    c.in_err-taken.ensures.err.1)

pub returns-clause-ok : goal.returns-clause-ok
returns-clause-ok c =
    let piece = c.args.piece.now in
    let waiting = c.args.waiting.now.items in
    let k = c.wanted-wanted.result in
    let one =
    front_runs c.args.side c.args.context.now waiting piece c.append.new.waiting.items
    c.pass_waiting.new.waiting.items k c.args.out.now.items c.pass_waiting.new.out.items
    c.args.tape.now.items c.pass_waiting.new.tape.items
    c.in_ok-append.ensures.ok c.in_ok-pass_waiting.ensures.ok in
    front_then c.args.side c.args.context.now waiting piece _ c.pass_waiting.new.waiting.items k
    c.in_ok-taken.taken c.args.out.now.items c.pass_waiting.new.out.items c.pass_piece.new.out.items
    c.args.tape.now.items c.pass_waiting.new.tape.items c.pass_piece.new.tape.items
    (rest_of piece k) one c.in_ok-taken.ensures.ok
