use Rattle.std.proofs.Common.{◌≡◌, true, Some, refl, rules, ◌∙◌}
use Rattle.pgw_scram.specs.Base64.{salt_of}
use Rattle.pgw_scram.specs.Refusals.{begins_with}
use Rattle.pgw_scram.proofs.RefusalLaws.{replied_is}
use Rattle.pgw_scram.proofs.exchange.reply_to.Goals as goal

pub returns : goal.returns
returns c =
    let parts = c.args.parts.now in
    let first = c.args.server_first.now in
    let begins : begins_with parts.nonce c.args.login.now.nonce ≡ true = search rules in
    let is_salt : salt_of parts.salt ≡ Some c.in-Some.salt.items = search rules in
    replied_is c.args.login.now first c.in-Some.salt.items parts c.in_ok-reply.field-0
    c.requires begins is_salt
    (c.in_ok-reply.ensures.message
    ∙ rw (c.as_str-5.ensures.value, c.in_ok-salted.ensures, c.as_str-4.ensures.value, c.deref.ensures.value)
    refl)
    (c.in_ok-reply.ensures.signature
    ∙ rw (c.as_str-5.ensures.value, c.in_ok-salted.ensures, c.as_str-4.ensures.value, c.deref.ensures.value)
    refl)
