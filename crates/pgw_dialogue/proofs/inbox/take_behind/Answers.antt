use Rattle.std.proofs.Common.{◌++◌, Some, Ok, Err, refl}
use Rattle.pgw_dialogue.proofs.InboxLaws.{decoded_of, found_more, refused_more}
use Rattle.pgw_dialogue.proofs.inbox.take_behind.Goals as goal

pub returns-in-Ok-Some-clause-decoded : goal.returns-in-Ok-Some-clause-decoded
returns-in-Ok-Some-clause-decoded c =
    let front = c.freeze.new.front in
    let tail = c.freeze.new.tail.items in
    let left = c.decode.new.buffer in
    let m = c.in-Ok-Some.message in
    let found =
    found_more c.args.version front left tail m (rw c.in-Ok-Some.field-0-is at c.in-Ok-Some.ensures.decoded)
    in
    decoded_of c.args.version (front ++ tail) (left ++ tail) (c.args.front.now ++ c.args.tail.now.items)
    (left ++ tail) (Ok (Some m)) c.freeze.ensures.same refl found

pub returns-in-Err-decode-clause-decoded : goal.returns-in-Err-decode-clause-decoded
returns-in-Err-decode-clause-decoded c =
    let front = c.freeze.new.front in
    let tail = c.freeze.new.tail.items in
    let left = c.decode.new.buffer in
    let e = c.in-Err-decode.e in
    let refused = refused_more c.args.version front left tail e c.in-Err-decode.ensures.decoded in
    decoded_of c.args.version (front ++ tail) (left ++ tail) (c.args.front.now ++ c.args.tail.now.items)
    (left ++ tail) (Err e) c.freeze.ensures.same refl refused
