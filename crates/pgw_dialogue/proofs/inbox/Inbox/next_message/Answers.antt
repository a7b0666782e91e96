use Rattle.std.proofs.Common.{◌++◌, None, Some, Ok, Err, refl, sym, ◌∙◌}
use Rattle.pgw_dialogue.proofs.InboxLaws.{decoded_of, found_more, none_alone, refused_more}
use Rattle.pgw_dialogue.proofs.inbox.Inbox.next_message.Goals as goal

pub returns-in-Ok-Some-clause-decoded : goal.returns-in-Ok-Some-clause-decoded
returns-in-Ok-Some-clause-decoded c =
    let front = c.self.inside.front in
    let tail = c.self.inside.tail.items in
    let left = c.decode.new.buffer in
    let m = c.in-Ok-Some.message in
    let found =
    found_more c.args.version front left tail m (rw c.in-Ok-Some.field-0-is at c.in-Ok-Some.ensures.decoded)
    in
    decoded_of c.args.version (front ++ tail) (left ++ tail) c.args.self.now (left ++ tail) (Ok (Some m))
    c.self.view_is refl found

pub returns-in-Err-clause-decoded : goal.returns-in-Err-clause-decoded
returns-in-Err-clause-decoded c =
    let front = c.self.inside.front in
    let tail = c.self.inside.tail.items in
    let left = c.decode.new.buffer in
    let e = c.in-Err.e in
    decoded_of c.args.version (front ++ tail) (left ++ tail) c.args.self.now (left ++ tail) (Err e) c.self.view_is
    refl (refused_more c.args.version front left tail e c.in-Err.ensures.decoded)

pub returns-else-len-eq0-clause-decoded : goal.returns-else-len-eq0-clause-decoded
returns-else-len-eq0-clause-decoded c =
    let none = rw c.in-Ok-None.field-0-is at c.in-Ok-None.ensures.decoded in
    decoded_of c.args.version (c.decode.new.buffer ++ c.self.inside.tail.items)
    (c.take_behind.new.front ++ c.take_behind.new.tail.items) c.args.self.now
    (c.take_behind.new.front ++ c.take_behind.new.tail.items) c.take_behind.result
    (rw none.0 c.self.view_is) refl c.take_behind.ensures.decoded

pub returns-then-len-eq0-clause-decoded : goal.returns-then-len-eq0-clause-decoded
returns-then-len-eq0-clause-decoded c =
    let front = c.self.inside.front in
    let tail = c.self.inside.tail.items in
    let left = c.decode.new.buffer in
    let none =
    none_alone c.args.version front left tail (sym c.len.ensures.value
    ∙ c.if-len-eq0.true) (rw c.in-Ok-None.field-0-is at c.in-Ok-None.ensures.decoded) in
    decoded_of c.args.version (front ++ tail) (left ++ tail) c.args.self.now (left ++ tail) (Ok None)
    c.self.view_is refl none
