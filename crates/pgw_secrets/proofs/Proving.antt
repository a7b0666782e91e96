-- A proof, and what it hashes to.
use Rattle.std.proofs.Common.{◌≡◌, ◌↔◌, ℕ, List, Option, Some, None, sym, ap, subst, ◌∙◌, Bool, IsTrue}
use Rattle.sha2.specs.Sha256.{sha256}
use Rattle.pgw_hash.specs.Xor.{xor}
use Rattle.pgw_scram.specs.Base64.{base64}
use Rattle.pgw_scram.specs.Formulas.{client_signature}
use Rattle.pgw_secrets.specs.Secret.{IsScramKey}
use Rattle.pgw_secrets.specs.Proof.{IsProof}
use Rattle.pgw_secrets.specs.Found.{KeyIn}
use Rattle.pgw_secrets.proofs.Encodings.{base64_same}

pub proves_by : (stored exchanged text bytes signature : List ℕ) (found : Option (List ℕ)) (answer : Bool)
    → found ≡ Some bytes → KeyIn text found → signature ≡ client_signature stored exchanged
    → (IsTrue answer ↔ (sha256 (xor bytes signature) ≡ stored)) → IsTrue answer ↔ IsProof stored exchanged text
proves_by stored exchanged text bytes signature None answer e h s tests = cc
proves_by stored exchanged text bytes signature (Some key) answer e h s tests =
    let same : key ≡ bytes = cc in (
      λ y. record {
        proof = bytes;
        written = h.0
            ∙ ap base64 same;
        is_key =
            subst IsScramKey same h.1;
        hashes = ap (λ (l : List ℕ). sha256 (xor bytes l)) (sym s) ∙ tests.0 y;
      },
      λ p.
          let is : p.proof ≡ bytes = base64_same p.proof key p.is_key.1 h.1.1 (sym p.written ∙ h.0) ∙ same in
          tests.1 (ap (λ (l : List ℕ). sha256 (xor l signature)) (sym is)
          ∙ ap (λ (l : List ℕ). sha256 (xor p.proof l)) s ∙ p.hashes),
    )
