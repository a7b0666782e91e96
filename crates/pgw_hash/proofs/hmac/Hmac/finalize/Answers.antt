use Rattle.std.proofs.Common.{ℕ, List, ◌++◌, ap, ◌∙◌}
use Rattle.sha2.specs.Sha256.{sha256}
use Rattle.pgw_hash.specs.Xor.{xor}
use Rattle.pgw_hash.specs.Hmac.{hmac_sha256, block_key, opad}
use Rattle.pgw_hash.proofs.hmac.Hmac.finalize.Goals as goal

pub returns : goal.returns
unfolding hmac_sha256
returns c key text taken =
    c.finalize-2.ensures _ (c.update.ensures _ taken.outer)
    ∙ ap (λ (d : List ℕ). sha256 (xor (block_key key) opad ++ d)) (c.finalize.ensures _ taken.inner)
