-- The one byte of an answer: what is read is what is spelled.
use Rattle.std.proofs.Common.{◌≡◌, inl, inr, ℕ, false, eqb, List, [], ◌∷◌, ◌++◌, length, Some, Result, Ok, refl, sym, ap, subst, ◌∙◌, arith, lit<}
use Rattle.std.specs.Int.{w8}
use Rattle.std.proofs.lemmas.Bool.{eqb-true, eq-eqb, ne_eqb}
use Rattle.pgw_types.specs.declared.error.PgWireError.{PgWireError}
use Rattle.pgw_types.specs.declared.context.DecodeContext.{DecodeContext}
use Rattle.pgw_wire.specs.declared.framing.Framing.TheVariants.{OneByte}
use Rattle.pgw_wire.specs.Reading.{◌>>=◌, nat_at, all_of}
use Rattle.pgw_wire.specs.Formats.{tried_at, SpellsNat, ReadsLast}
use Rattle.pgw_wire.specs.Framing.{frame, wire_front}
use Rattle.pgw_wire.proofs.Laws.{bind_ok, ok_is, chosen, tried_reads}
use Rattle.pgw_wire.proofs.FieldLaws.{nat_reads}
use Rattle.pgw_wire.proofs.FrameLaws.{reads_last, all_found, all_again}
use Rattle.pgw_wire.proofs.MessageLaws.{some_is}
use Rattle.pgw_startup.specs.declared.response.EncryptionResponse.{EncryptionResponse}
use Rattle.pgw_startup.specs.declared.response.EncryptionResponse.TheVariants as answer
use Rattle.pgw_startup.specs.Response.{answer_byte, answer_of_byte, encryption_response_of, SpellsEncryptionResponse, IsReply}

-- ---- one byte

front_byte : {M : Type 0} (read : List ℕ → Result M PgWireError) (b : ℕ) (r : List ℕ)
    → wire_front OneByte 10000 read (b ∷ r) ≡ (read (b ∷ []) >>= λ x. Ok (Some (x, r)))
unfolding wire_front frame
front_byte read b r =
    let some : eqb (length (b ∷ r)) 0 ≡ false = ne_eqb (length (b ∷ r)) 0 (λ is. omega (arith, is)) in
    rw some refl

module _ {M : Type 0} (p : List ℕ → Result (M × List ℕ) PgWireError) (P : M → List ℕ → Type 0)
    (law : ReadsLast p P) (one : (m : M) (g : List ℕ) → P m g → length g ≡ 1) where
  reply_found : (bytes : List ℕ) (m : M) (rest : List ℕ)
      → wire_front OneByte 10000 (λ body. all_of (p body)) bytes ≡ Ok (Some (m, rest))
      → (g : List ℕ) × (bytes ≡ g ++ rest) × P m g
  unfolding wire_front frame
  reply_found [] m rest e = absurd cc
  reply_found (b ∷ r) m rest e =
      let whole : (all_of (p (b ∷ [])) >>= λ x. Ok (Some (x, r))) ≡ Ok (Some (m, rest)) =
      sym (front_byte (λ body. all_of (p body)) b r) ∙ e in
      let a = bind_ok (all_of (p (b ∷ []))) (λ x. Ok (Some (x, r))) (Some (m, rest)) whole in
      let made : M × List ℕ = (a.0, r) in
      subst (λ (y : M × List ℕ). (g : List ℕ) × (b ∷ r ≡ g ++ y.1) × P y.0 g) (some_is made (m, rest) a.2)
      (b ∷ [], refl, all_found p P law (b ∷ []) a.0 (lit< tt) a.1)

  reply_again : (m : M) (g rest : List ℕ) → length g ≡ 1 → P m g
      → wire_front OneByte 10000 (λ body. all_of (p body)) (g ++ rest) ≡ Ok (Some (m, rest))
  reply_again m [] rest size h = absurd (omega (arith, size))
  reply_again m (b ∷ []) rest size h =
      let read : all_of (p (b ∷ [])) ≡ Ok m = all_again p P law (b ∷ []) m h in
      front_byte (λ body. all_of (p body)) b rest
      ∙ ap (λ (x : Result M PgWireError). x >>= λ y. Ok (Some (y, rest))) read
  reply_again m (b ∷ (c ∷ g)) rest size h = absurd (omega (arith, size))

  is_reply : IsReply (λ body. all_of (p body)) P
  is_reply = record { found = reply_found; only = λ m g rest h. reply_again m g rest (one m g h) h }

-- the byte of an answer, where acceptance has another byte than refusal
module _ (accept : ℕ) (differs : eqb 78 accept ≡ false) where
  answer_back : (b : ℕ) (m : EncryptionResponse accept) → answer_of_byte accept b ≡ Ok m
      → answer_byte accept m ≡ b
  unfolding answer_of_byte
  answer_back b m e =
      elim (chosen (eqb b accept) _ _ _ e) [
        | inl h ↦ subst (λ (n : EncryptionResponse accept). answer_byte accept n ≡ b)
            (ok_is answer.Accept m h.1) (sym (eqb-true _ _ h.0))
        | inr h ↦ elim (chosen (eqb b 78) _ _ _ h.1) [
          | inl h ↦ subst (λ (n : EncryptionResponse accept). answer_byte accept n ≡ b)
              (ok_is answer.Refuse m h.1) (sym (eqb-true _ _ h.0))
          | inr h ↦ absurd cc
        ]
      ]

  answer_again : (m : EncryptionResponse accept) → answer_of_byte accept (answer_byte accept m) ≡ Ok m
  unfolding answer_of_byte
  answer_again answer.Accept = rw (eq-eqb accept accept refl) refl
  answer_again answer.Refuse = rw differs refl

  answer_reads : ReadsLast (tried_at (answer_of_byte accept) (nat_at w8))
      (λ (m : EncryptionResponse accept). SpellsNat w8 (answer_byte accept m))
  answer_reads =
      reads_last _ _ (tried_reads (answer_of_byte accept) (answer_byte accept) (nat_at w8) (SpellsNat w8)
      answer_back answer_again (nat_reads w8))

  pub encryption_response : (ctx : DecodeContext)
      → IsReply (encryption_response_of accept ctx) SpellsEncryptionResponse
  unfolding encryption_response_of
  encryption_response ctx =
      is_reply (tried_at (answer_of_byte accept) (nat_at w8))
      (λ (m : EncryptionResponse accept). SpellsNat w8 (answer_byte accept m)) answer_reads (λ m g h. h.0)

pub ssl_response : (ctx : DecodeContext) → IsReply (encryption_response_of 83 ctx) SpellsEncryptionResponse
ssl_response = encryption_response 83 refl

pub gss_enc_response : (ctx : DecodeContext) → IsReply (encryption_response_of 71 ctx) SpellsEncryptionResponse
gss_enc_response = encryption_response 71 refl

pub ssl_written : (m : EncryptionResponse 83) → SpellsNat w8 (answer_byte 83 m) (answer_byte 83 m ∷ [])
ssl_written answer.Accept = (refl, refl)
ssl_written answer.Refuse = (refl, refl)

pub gss_written : (m : EncryptionResponse 71) → SpellsNat w8 (answer_byte 71 m) (answer_byte 71 m ∷ [])
gss_written answer.Accept = (refl, refl)
gss_written answer.Refuse = (refl, refl)
