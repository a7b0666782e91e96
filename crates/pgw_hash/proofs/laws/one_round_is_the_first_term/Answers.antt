use Rattle.std.proofs.Common.{refl}
use Rattle.pgw_hash.specs.Pbkdf2.{hi, terms, xor_all}
use Rattle.pgw_hash.proofs.laws.one_round_is_the_first_term.Goals as goal

pub returns : goal.returns
unfolding hi terms xor_all
returns c password salt = refl
