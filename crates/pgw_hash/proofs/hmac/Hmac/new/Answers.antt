use Rattle.std.proofs.Common.{ℕ, List, sym, subst}
use Rattle.std.proofs.lemmas.List.{append-nil}
use Rattle.sha2.specs.Hashers.{Holds256}
use Rattle.pgw_hash.specs.Xor.{xor}
use Rattle.pgw_hash.specs.Hmac.{block_key, ipad, opad}
use Rattle.pgw_hash.proofs.hmac.Hmac.new.Goals as goal

pub returns : goal.returns
unfolding ipad opad
returns c = record {
  inner =
      subst (λ (held : List ℕ). Holds256 c.padded.result held)
      (sym (append-nil (xor (block_key c.args.key.now) ipad)))
      (subst (λ (k : List ℕ). Holds256 c.padded.result (xor k ipad)) c.block_key-block.ensures c.padded.ensures);
  outer =
      subst (λ (k : List ℕ). Holds256 c.padded-2.result (xor k opad)) c.block_key-block.ensures
      c.padded-2.ensures;
}
