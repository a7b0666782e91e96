use Rattle.std.proofs.Common.{◌≡◌, ◌-◌}
use Rattle.std.specs.List.{fold}
use Rattle.pgw_hash.specs.Xor.{xor}
use Rattle.pgw_hash.specs.Hmac.{hmac_sha256}
use Rattle.pgw_hash.specs.Pbkdf2.{hi, terms}
use Rattle.pgw_hash.proofs.pbkdf2.hi.Given as goal

abbrev pub invariant-loop : goal.invariant-loop
invariant-loop l =
    fold xor l.total (terms (hmac_sha256 l.fn.password) (hmac_sha256 l.fn.password l.term) (l.count - l.counter))
    ≡ hi l.fn.password l.fn.salt l.count
