use Rattle.std.proofs.Common.{◌≡◌, ◌+◌, suc, arith, refl}
use Rattle.std.proofs.lemmas.Option.{slice_get_past, slice_get_read}
use Rattle.pgw_dialogue.proofs.MachineLaws.{none_opened, some_opened, unopened}
use Rattle.pgw_dialogue.proofs.machine.open_next.Goals as goal

pub returns-in-None-clause-moved : goal.returns-in-None-clause-moved
returns-in-None-clause-moved c =
    none_opened c.args.notes.now _ c.args.out.now.items (slice_get_past _ _ c.in-None.ensures.lookup.3)

pub returns-in-Err-clause-moved : goal.returns-in-Err-clause-moved
returns-in-Err-clause-moved c =
    let l = c.in-Some.ensures.lookup in
    unopened c.args.notes.now c.args.notes.now _ c.in-Some.request.now c.args.out.now.items
    c.put_request.new.out.items c.in-Err.e (slice_get_read _ _ _ _ refl l.3.0 l.1) c.in-Err.ensures.put

pub returns-in-Ok-clause-moved : goal.returns-in-Ok-clause-moved
returns-in-Ok-clause-moved c =
    let l = c.in-Some.ensures.lookup in
    let kind = c.kind_of.ensures in
    let more : c.args.notes.now.closed + 1 ≡ suc c.args.notes.now.closed = omega arith in
    some_opened c.args.notes.now _ _ c.in-Some.request.now c.args.out.now.items c.put_request.new.out.items
    c.in-Ok.field-0 (slice_get_read _ _ _ _ refl l.3.0 l.1) c.in-Ok.ensures.put (cc)
