-- A secret's text is read back.
use Rattle.std.proofs.Common.{◌≡◌, ◌<◌, ◌^◌, ℕ, List, ◌∷◌, ◌++◌, codes, refl, arith}
use Rattle.std.specs.Fmt.{decimal}
use Rattle.std.proofs.lemmas.List.{append_assoc}
use Rattle.pgw_types.proofs.NumberLaws.{number_in-decimal}
use Rattle.pgw_scram.specs.Base64.{base64}
use Rattle.pgw_secrets.specs.declared.secret.StoredSecret.{StoredSecret}
use Rattle.pgw_secrets.specs.Secret.{IsStoredSecret, stored_secret_text}
use Rattle.pgw_secrets.specs.Text.{IsSecretText}

cut_at_parts : (count salt stored server : List ℕ)
    → codes "SCRAM-SHA-256$" ++ count ++ codes ":" ++ salt ++ codes "$" ++ stored ++ codes ":" ++ server ≡ codes
    "SCRAM-SHA-256$" ++ (count ++ 58 ∷ (salt ++ 36 ∷ (stored ++ 58 ∷ server)))
cut_at_parts count salt stored server = simp (append_assoc) refl

pub read_back : (s : StoredSecret) → IsStoredSecret s → IsSecretText (stored_secret_text s) s
read_back s kept =
    let server : List ℕ = base64 s.server_key in
    let stored : List ℕ = base64 s.stored_key ++ 58 ∷ server in
    let salt : List ℕ = base64 s.salt ++ 36 ∷ stored in
    let fits : s.count < 2 ^ 64 = omega (arith, kept.in_32_bits) in
    record {
      from = server;
      before = record {
        from = stored;
        before = record {
          from = salt;
          before = record {
            from = decimal s.count ++ 58 ∷ salt;
            before = cut_at_parts (decimal s.count) (base64 s.salt) (base64 s.stored_key) server;
            part = record {
              written = decimal s.count;
              cut = refl;
              counts = number_in-decimal s.count 32 fits kept.in_32_bits;
              positive = omega (arith, kept.at_least_one);
            };
          };
          part = (refl, kept.salt_bytes);
        };
        part = (refl, kept.stored_bytes);
      };
      part = (refl, kept.server_bytes);
    }
