use Rattle.std.proofs.Common.{◌≡◌, ℕ, ◌+◌, ◌-◌, List, ◌++◌, ap, sym, ◌∙◌, arith}
use Rattle.pgw_hash.specs.Hmac.{hmac_sha256}
use Rattle.pgw_hash.specs.Pbkdf2.{hi, terms, xor_all}
use Rattle.pgw_hash.proofs.Rounds.{begins, goes_on, ends}
use Rattle.pgw_hash.proofs.pbkdf2.hi.Goals as goal

pub loop-init : goal.loop-init
unfolding hi
loop-init c =
    begins (hmac_sha256 c.args.password.now) c.code_of_parts-term.result (c.args.count - 1) c.args.count
    (omega arith)
    ∙ ap (λ (u : List ℕ). xor_all (terms (hmac_sha256 c.args.password.now) u c.args.count))
    (c.code_of_parts-term.ensures c.args.password.now c.new-key.ensures
    ∙ ap (λ (number : List ℕ). hmac_sha256 c.args.password.now (c.args.salt.now ++ number)) c.to_be_bytes.ensures)

pub loop-preserved : goal.loop-preserved
loop-preserved c =
    let next : c.code-term.result ≡ hmac_sha256 c.args.password.now c.loop.term =
    c.code-term.ensures c.args.password.now c.new-key.ensures in
    rw (c.xor_into.ensures, next)
    (goes_on (hmac_sha256 c.args.password.now) c.loop.total c.loop.term (c.args.count - c.loop.counter)
    (c.args.count - (c.loop.counter + 1)) (omega arith)
    ∙ c.loop.invariant)

pub returns : goal.returns
returns c =
    sym (ends (hmac_sha256 c.args.password.now) c.loop.total c.loop.term (c.args.count - c.loop.counter)
    (omega arith))
    ∙ c.loop.invariant
