use Rattle.std.proofs.Common.{◌∙◌}
use Rattle.pgw_link.proofs.LogLaws.{foreseen_kept, foreseen_on}
use Rattle.pgw_dialogue.specs.Input.{input_of}
use Rattle.pgw_client.proofs.MachineTalkLaws.{lift_err, lift_ok, unstarted, unsent_start}
use Rattle.pgw_client.proofs.session.hold_session.Goals as goal

pub returns-in-Ok-converse-clause-kept : goal.returns-in-Ok-converse-clause-kept
returns-in-Ok-converse-clause-kept g c = c.converse.ensures.kept ∙ c.send.ensures.kept

pub returns-clause-kept : goal.returns-clause-kept
returns-clause-kept g c = c.converse.ensures.kept ∙ c.send.ensures.kept

pub returns-in-Err-clause-session : goal.returns-in-Err-clause-session
returns-in-Err-clause-session g c =
    unstarted (input_of c.args.input.now) c.args.limit _ c.start.new.out.items c.in-Err.e c.in-Err.ensures.start

pub returns-in-Err-send-clause-session : goal.returns-in-Err-send-clause-session
returns-in-Err-send-clause-session g c =
    unsent_start (input_of c.args.input.now) c.in-Ok.notes c.args.limit c.as_slice.result.now
    (g.met.L.Link.flushed_in c.args.link.now) (rw c.as_slice.ensures c.in-Ok.ensures.start)
    c.in-Err-send.ensures.failed

pub returns-in-Ok-converse-clause-session : goal.returns-in-Ok-converse-clause-session
returns-in-Ok-converse-clause-session g c =
    let sent = c.in-Ok-send.ensures.sent in
    lift_ok (input_of c.args.input.now) c.in-Ok.notes c.args.limit c.as_slice.result.now _ c.into_report.result
    (rw c.as_slice.ensures c.in-Ok.ensures.start) sent (c.in-Ok-converse.ensures.talks sent.flushed)
    c.into_report.ensures

pub returns-clause-session : goal.returns-clause-session
returns-clause-session g c =
    let sent = c.in-Ok-send.ensures.sent in
    lift_err (input_of c.args.input.now) c.in-Ok.notes c.args.limit c.as_slice.result.now c.in-Err-converse.e
    (rw c.as_slice.ensures c.in-Ok.ensures.start) sent (c.in-Err-converse.ensures.talks sent.flushed)

pub returns-in-Ok-converse-clause-foreseen : goal.returns-in-Ok-converse-clause-foreseen
returns-in-Ok-converse-clause-foreseen g c t =
    foreseen_on _ _ _ _ _ _
    (foreseen_kept _ _ _ _ c.in-Ok-send.ensures.sent.reads_nothing.took (c.send.ensures.left t))
    (c.converse.ensures.foreseen t)

pub returns-clause-foreseen : goal.returns-clause-foreseen
returns-clause-foreseen g c t =
    foreseen_on _ _ _ _ _ _
    (foreseen_kept _ _ _ _ c.in-Ok-send.ensures.sent.reads_nothing.took (c.send.ensures.left t))
    (c.converse.ensures.foreseen t)
