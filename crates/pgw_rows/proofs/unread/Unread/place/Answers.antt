use Rattle.std.proofs.Common.{rules, ap, ◌∙◌, refl, drop, ◌+◌}
use Rattle.std.specs.Int.{w16}
use Rattle.std.proofs.lemmas.Int.{to_z-of_z}
use mir.Val.{SFits}
use Rattle.pgw_query.specs.Runs.{IsHead}
use Rattle.pgw_query.proofs.RunLaws.{rest_of}
use Rattle.pgw_rows.proofs.UnreadLaws.{ends_within, first_of, is_place}
use Rattle.pgw_rows.proofs.unread.Unread.place.Goals as goal

pub head_of-head-requires : goal.head_of-head-requires
head_of-head-requires c =
    let u =
    c.args.self.now in rw (c.as_slice.ensures, rest_of u.bytes u.at)
    (first_of u c.requires.are c.requires.some).head

pub overflow_add-result-2 : goal.overflow_add-result-2
overflow_add-result-2 c =
    let u = c.args.self.now in
    let head : IsHead (drop u.at u.bytes) c.head_of-head.result =
    rw (c.as_slice.ensures, rest_of u.bytes u.at) at c.head_of-head.ensures in
    let within = ends_within u c.requires.are c.requires.some in
    rw head.1 (search rules)

pub returns : goal.returns
returns c =
    let u = c.args.self.now in
    let head : IsHead (drop u.at u.bytes) c.head_of-head.result =
    rw (c.as_slice.ensures, rest_of u.bytes u.at) at c.head_of-head.ensures in
    let fits : SFits w16 c.head_of-head.result.field_count = search rules in
    is_place u _ c.requires.are c.requires.some (to_z-of_z w16 c.head_of-head.result.field_count fits
    ∙ head.0) refl (ap (λ n. u.at + n) head.1)
