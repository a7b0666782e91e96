use Rattle.std.proofs.Common.{◌+◌, List, ℕ, Ok, Err, take, drop, sym, subst}
use Rattle.std.proofs.lemmas.Result.{err_from_is_err_and}
use Rattle.std.specs.List.{concat}
use Rattle.pgw_session.specs.Input.{input_with}
use Rattle.pgw_dialogue.specs.Dialogue.{IsBehind}
use Rattle.pgw_session.specs.Demands.{refused_config}
use Rattle.pgw_session.specs.declared.types.SessionReport.{SessionReport}
use Rattle.example_dialogue.proofs.PieceLaws.{SoFar, all_of, awaits_behind, begins, done, done_held, ended, goes_on, not_begun, not_demanded, refused, with_next, with_rest}
use Rattle.example_dialogue.proofs.push.over_pieces.Goals as goal

pub loop-piece-init : goal.loop-piece-init
loop-piece-init c = begins _ _ _ _ _ c.requires c.in_ok-dialogue.ensures.starts

pub loop-piece-preserved : goal.loop-piece-preserved
loop-piece-preserved c =
    let input = input_with c.args.config.now c.args.requests.now c.args.nonce.now in
    let pieces = c.args.pieces.now in
    let i = c.loop-piece.piece-index in
    subst (λ (b : List ℕ). SoFar input c.args.limit c.take.new.self b c.args.out.now.items c.take.new.out.items)
    (sym (with_next pieces i c.as_slice.result.now c.piece-item.result c.loop-piece-test.true c.piece-item.is
    c.as_slice.ensures))
    (goes_on input c.args.limit c.loop-piece.dialogue c.take.new.self (concat (take i pieces))
    c.as_slice.result.now c.args.out.now.items c.loop-piece.out.items c.take.new.out.items _
    c.loop-piece.invariant c.in_ok-take.ensures.takes
    (awaits_behind c.take.new.self c.in_ok-take.field-0 c.in-Waiting.is c.in_ok-take.ensures.after))

pub report-requires : goal.report-requires
report-requires c = subst (λ x. IsBehind c.take.new.self (Ok x)) c.in-Done.is c.in_ok-take.ensures.after

pub at_end-requires : goal.at_end-requires
at_end-requires c = c.loop-piece.invariant.awaits

pub returns-in_err-dialogue-clause-held : goal.returns-in_err-dialogue-clause-held
returns-in_err-dialogue-clause-held c =
    let p = err_from_is_err_and c.from_residual.result c.from_residual.ensures.1 in
    rw (p.1, p.2) (not_begun _ _ _ _ _ _ c.in_err-dialogue.ensures.starts)

pub returns-in_err-take-clause-held : goal.returns-in_err-take-clause-held
returns-in_err-take-clause-held c =
    let pieces = c.args.pieces.now in
    let i = c.loop-piece.piece-index in
    let p = err_from_is_err_and c.from_residual-in_err-take.result c.from_residual-in_err-take.ensures.1 in
    rw (p.1, p.2)
    (refused _ _ c.loop-piece.dialogue c.take.new.self _ (concat (take i pieces)) c.as_slice.result.now
    (concat (drop (i + 1) pieces)) _ c.loop-piece.out.items _ _
    (with_rest pieces i c.as_slice.result.now c.piece-item.result c.loop-piece-test.true c.piece-item.is
    c.as_slice.ensures) c.loop-piece.invariant c.in_err-take.ensures.takes c.in_err-take.ensures.after
    c.in_err-take.ensures.starved)

pub returns-in-Done-clause-held : goal.returns-in-Done-clause-held
returns-in-Done-clause-held c =
    let pieces = c.args.pieces.now in
    let i = c.loop-piece.piece-index in
    done_held _ _ c.loop-piece.dialogue c.take.new.self _ (concat (take i pieces)) c.as_slice.result.now
    (concat (drop (i + 1) pieces)) _ c.loop-piece.out.items _ _ _
    (with_rest pieces i c.as_slice.result.now c.piece-item.result c.loop-piece-test.true c.piece-item.is
    c.as_slice.ensures) c.loop-piece.invariant c.in_ok-take.ensures.takes
    (subst (λ x. IsBehind c.take.new.self (Ok x)) c.in-Done.is c.in_ok-take.ensures.after)
    c.report.ensures.reported

pub returns-in-Done-clause-completed : goal.returns-in-Done-clause-completed
returns-in-Done-clause-completed c =
    let input = input_with c.args.config.now c.args.requests.now c.args.nonce.now in
    let pieces = c.args.pieces.now in
    let i = c.loop-piece.piece-index in
    let x =
    done input c.args.limit c.loop-piece.dialogue c.take.new.self (concat pieces) (concat (take i pieces))
    c.as_slice.result.now (concat (drop (i + 1) pieces)) c.args.out.now.items c.loop-piece.out.items
    c.take.new.out.items _
    (with_rest pieces i c.as_slice.result.now c.piece-item.result c.loop-piece-test.true c.piece-item.is
    c.as_slice.ensures) c.loop-piece.invariant c.in_ok-take.ensures.takes
    (subst (λ y. IsBehind c.take.new.self (Ok y)) c.in-Done.is c.in_ok-take.ensures.after) in
    (x.0, x.1, c.report.ensures.completed input c.args.limit (concat pieces) x.0 x.2)

pub returns-clause-held : goal.returns-clause-held
returns-clause-held c =
    let pieces = c.args.pieces.now in
    let i = c.loop-piece.piece-index in
    ended _ _ c.loop-piece.dialogue _ (concat (take i pieces)) _ _ _ (all_of pieces i c.loop-piece-test.false)
    c.loop-piece.invariant c.at_end.ensures.is

pub returns-in_err-take-clause-refused : goal.returns-in_err-take-clause-refused
returns-in_err-take-clause-refused c =
    not_demanded {T = SessionReport} (refused_config c.args.config.now) c.from_residual-in_err-take.result
    c.in_ok-dialogue.ensures.refused

pub returns-clause-refused : goal.returns-clause-refused
returns-clause-refused c =
    not_demanded {T = SessionReport} (refused_config c.args.config.now) (Err c.at_end.result)
    c.in_ok-dialogue.ensures.refused
