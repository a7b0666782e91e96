use Rattle.std.proofs.Common.{◌≡◌, ℕ, List, length, Some, ap, sym, ◌∙◌, arith}
use Rattle.pgw_config.proofs.DigitLaws.{eight, exactly_is}
use Rattle.pgw_config.proofs.host_addr.all_eight.Goals as goal

pub returns-in-len8 : goal.returns-in-len8
returns-in-len8 c =
    let e : length c.args.groups.now ≡ 8 = omega (arith, c.in-len8.len_at_least, c.in-len8.len_below) in
    ap (λ (x : List ℕ). Some x) (sym (eight c.args.groups.now e)) ∙ sym (exactly_is 8 c.args.groups.now e)
