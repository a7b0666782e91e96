use Rattle.std.proofs.Common.{sym, ◌∙◌, length}
use Rattle.std.proofs.lemmas.Bool.{eqb-true}
use Rattle.pgw_proxy.proofs.PassingLaws.{piece_runs}
use Rattle.pgw_proxy.proofs.passing.pass_piece.Goals as goal

pub returns-then-is_empty-clause-ok : goal.returns-then-is_empty-clause-ok
returns-then-is_empty-clause-ok c =
    piece_runs c.args.side c.args.context.now c.args.waiting.now.items c.args.piece.now c.args.out.now.items
    c.pass_plain.new.out.items c.args.tape.now.items c.pass_plain.new.tape.items c.pass_plain.result
    (eqb-true (length c.args.waiting.now.items) 0 (sym c.is_empty.ensures
    ∙ c.if-is_empty.true)) c.pass_plain.ensures.ok
