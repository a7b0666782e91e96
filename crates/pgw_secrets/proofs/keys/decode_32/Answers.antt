use Rattle.std.proofs.Common.{option_map, refl}
use Rattle.pgw_secrets.proofs.Parts.{key_in}
use Rattle.pgw_secrets.proofs.keys.decode_32.Goals as goal

pub returns-in-Some : goal.returns-in-Some
returns-in-Some c =
    key_in c.args.text.now c.deref.result.now (option_map (λ v. v.items) c.in_ok-bytes.field-0) c.key_of.result
    (rw (c.in-Some.is, c.deref.ensures.value) refl) c.in_ok-bytes.ensures c.key_of.ensures.some
    c.key_of.ensures.none
