-- What a client sends before its Startup: what is read is what is spelled.
use Rattle.std.proofs.Common.{◌≡◌, inl, inr, ℕ, ◌<◌, ◌≤◌, ◌^◌, true, false, ltb, eqb, List, ◌++◌, length, take, drop, Option, Some, None, Result, Ok, Err, refl, sym, ap, subst, ◌∙◌, append_assoc, arith, lit<, length-append}
use Rattle.std.specs.Int.{w32, from_be_bytes}
use Rattle.std.proofs.lemmas.Bool.{ltb-false, le-ltb, eqb-true, eq-eqb}
use Rattle.std.proofs.lemmas.List.{take_at, drop_at, take-append-drop, length-take, length-drop, drop-drop}
use Rattle.pgw_types.specs.declared.error.PgWireError.{PgWireError}
use Rattle.pgw_types.specs.declared.error.PgWireError.TheVariants.{InvalidSSLRequestMessage, InvalidGssEncRequestMessage, InvalidCancelRequest}
use Rattle.pgw_types.specs.declared.context.DecodeContext.{DecodeContext}
use Rattle.pgw_types.specs.declared.context.ProtocolVersion.{ProtocolVersion}
use Rattle.pgw_types.specs.declared.context.ProtocolVersion.TheVariants.{PROTOCOL3_0, PROTOCOL3_2, PROTOCOL3_9999}
use Rattle.pgw_wire.specs.declared.secret_key.SecretKey.{SecretKey}
use Rattle.pgw_wire.specs.declared.secret_key.SecretKey.TheVariants.{I32, Bytes}
use Rattle.pgw_wire.specs.declared.framing.Framing.TheVariants.{Untyped, Opening, Code}
use Rattle.pgw_wire.specs.Reading.{nat_at, int_at, rest_at, all_of}
use Rattle.pgw_wire.specs.Framing.{code_in, frame, framed, wire_front}
use Rattle.pgw_wire.specs.Formats.{pair_at, Pair, made_at, tried_at, SpellsNat, SpellsInt, ReadsLast, SpellsUntyped}
use Rattle.pgw_wire.specs.Keys.{key_of, SpellsKey}
use Rattle.pgw_wire.proofs.Laws.{bind_ok, chosen, which, tried_some}
use Rattle.pgw_wire.proofs.FieldLaws.{nat_reads, int_reads}
use Rattle.pgw_wire.proofs.FrameLaws.{reads_last, pair_last, made_last, all_found, all_again}
use Rattle.pgw_wire.proofs.MarkLaws.{key_reads}
use Rattle.pgw_wire.proofs.MessageLaws.{some_is}
use Rattle.pgw_control.specs.declared.ssl_request.SslRequest.{SslRequest}
use Rattle.pgw_control.specs.declared.gss_enc_request.GssEncRequest.{GssEncRequest}
use Rattle.pgw_control.specs.declared.cancel.CancelRequest.{CancelRequest}
use Rattle.pgw_control.specs.Openings.{has_code, only_code, ssl_request_of, gss_enc_request_of, cancel_from, cancel_request_of, SpellsCancelRequest, SpellsCoded}
use Rattle.pgw_wire.proofs.UntypedLaws.{untyped_found, untyped_again}

-- ---- which code stands there

-- a code that stands after four bytes
pub code_at : (head field more bytes : List ℕ) → bytes ≡ head ++ (field ++ more) → length head ≡ 4
    → length field ≡ 4 → code_in bytes ≡ from_be_bytes w32 field
code_at head field more bytes is four size =
    ap (λ (b : List ℕ). from_be_bytes w32 (take 4 (drop 4 b))) is
    ∙ ap (λ (b : List ℕ). from_be_bytes w32 (take 4 b)) (drop_at head (field ++ more) 4 four)
    ∙ ap (from_be_bytes w32) (take_at field more 4 size)

pub stands : (code : ℕ) (head field more bytes : List ℕ) → bytes ≡ head ++ (field ++ more) → length head ≡ 4
    → length field ≡ 4 → has_code code bytes ≡ eqb (from_be_bytes w32 field) code
stands code head field more bytes is four size =
    let long : ltb (length bytes) 8 ≡ false =
    le-ltb _ _ (omega (
      arith,
      ap length is,
      length-append head (field ++ more),
      length-append field more,
      four,
      size,
    )) in
    rw (long, code_at head field more bytes is four size) refl

-- what spells a code has it, and no other
pub coded_has : (code other : ℕ) (g rest : List ℕ) → SpellsCoded code g
    → has_code other (g ++ rest) ≡ eqb code other
coded_has code other g rest h =
    stands other h.0 h.1 rest (g ++ rest) (ap (λ (f : List ℕ). f ++ rest) h.2
    ∙ append_assoc h.0 h.1 rest) h.3 h.4.0
    ∙ ap (λ (n : ℕ). eqb n other) h.4.1

cancel_whole : (v : ProtocolVersion) (m : CancelRequest) (g rest : List ℕ)
    (h : SpellsUntyped 10000 (SpellsCancelRequest v) m g)
    → g ++ rest ≡ h.0 ++ (h.5.0 ++ (h.5.1 ++ rest))
cancel_whole v m g rest h =
    let body = h.5 in
    ap (λ (f : List ℕ). f ++ rest) (h.2 ∙ ap (λ (b : List ℕ). h.0 ++ b) body.2)
    ∙ append_assoc h.0 (body.0 ++ body.1) rest
    ∙ ap (λ (b : List ℕ). h.0 ++ b) (append_assoc body.0 body.1 rest)

cancel_code : (v : ProtocolVersion) (m : CancelRequest) (g rest : List ℕ)
    → SpellsUntyped 10000 (SpellsCancelRequest v) m g → eqb (code_in (g ++ rest)) 80877102 ≡ true
cancel_code v m g rest h =
    eq-eqb _ _ (code_at h.0 h.5.0 (h.5.1 ++ rest) (g ++ rest) (cancel_whole v m g rest h) h.3.0 h.5.3.0 ∙ h.5.3.1)

pub cancel_has : (v : ProtocolVersion) (m : CancelRequest) (g rest : List ℕ)
    → SpellsUntyped 10000 (SpellsCancelRequest v) m g → has_code 80877102 (g ++ rest) ≡ true
cancel_has v m g rest h =
    stands 80877102 h.0 h.5.0 (h.5.1 ++ rest) (g ++ rest) (cancel_whole v m g rest h) h.3.0 h.5.3.0
    ∙ eq-eqb _ _ h.5.3.1

-- ---- CancelRequest

code_is : {A : Type 0} (code : ℕ) (x : A) (why : PgWireError) (n : ℕ) (y : A) → only_code code x why n ≡ Ok y
    → n ≡ code
unfolding only_code
code_is code x why n y e = elim (chosen (eqb n code) _ _ _ e) [
  | inl h ↦ eqb-true _ _ h.0
  | inr h ↦ absurd cc
]

code_passes : {A : Type 0} (code : ℕ) (x : A) (why : PgWireError) → only_code code x why code ≡ Ok x
unfolding only_code
code_passes code x why = let is : eqb code code ≡ true = eq-eqb _ _ refl in rw is refl

Cancel : ProtocolVersion → CancelRequest → List ℕ → Type 0
Cancel v m =
    Pair (λ (u : Unit {0}) bytes. (x : ℕ) × (only_code 80877102 (record {}) InvalidCancelRequest x ≡ Ok u) ×
    SpellsNat w32 x bytes) (Pair (SpellsInt w32) (SpellsKey v)) (record {}, (m.pid, m.secret_key))

cancel_reads : (v : ProtocolVersion)
    → ReadsLast (made_at cancel_from (pair_at (tried_at (only_code 80877102 (record {}) InvalidCancelRequest)
    (nat_at w32)) (pair_at (int_at w32) (tried_at (key_of v) rest_at)))) (Cancel v)
unfolding Cancel
cancel_reads v = made_last cancel_from (λ m. (record {}, (m.pid, m.secret_key))) _ _ (λ x. refl) (λ y. refl)
    (pair_last (tried_at (only_code 80877102 (record {}) InvalidCancelRequest) (nat_at w32))
    (λ (u : Unit {0}) bytes. (x : ℕ) × (only_code 80877102 (record {}) InvalidCancelRequest x ≡ Ok u) ×
    SpellsNat w32 x bytes) _ _
    (tried_some (only_code 80877102 (record {}) InvalidCancelRequest) (nat_at w32) (SpellsNat w32)
    (nat_reads w32))
    (pair_last (int_at w32) (SpellsInt w32) (tried_at (key_of v) rest_at) (SpellsKey v) (int_reads w32)
    (key_reads v)))

cancel_body : (ctx : DecodeContext) (body : List ℕ) (m : CancelRequest) → length body < 2 ^ 31
    → cancel_request_of ctx body ≡ Ok m → SpellsCancelRequest ctx.protocol_version m body
unfolding cancel_request_of Cancel
cancel_body ctx body m short e = elim (chosen (ltb (length body) 12) _ _ _ e) [
  | inl h ↦ absurd cc
  | inr h ↦
      let p = all_found _ (Cancel ctx.protocol_version) (cancel_reads ctx.protocol_version) body m short h.1 in
      let code = code_is 80877102 (record {}) InvalidCancelRequest p.3.0 (record {}) p.3.1 in
      (p.0, p.1, p.2, subst (λ (n : ℕ). SpellsNat w32 n p.0) code p.3.2, p.4)
]

key_least : (v : ProtocolVersion) (key : SecretKey) (bytes : List ℕ) → SpellsKey v key bytes → 4 ≤ length bytes
key_least PROTOCOL3_0 (I32 n) bytes h = omega (arith, h.0)
key_least PROTOCOL3_0 (Bytes key) bytes h = absurd h
key_least PROTOCOL3_2 (I32 n) bytes h = absurd h
key_least PROTOCOL3_2 (Bytes key) bytes h = omega (arith, ap length h.0, h.1)
key_least PROTOCOL3_9999 (I32 n) bytes h = absurd h
key_least PROTOCOL3_9999 (Bytes key) bytes h = omega (arith, ap length h.0, h.1)

cancel_least : (v : ProtocolVersion) (m : CancelRequest) (body : List ℕ) → SpellsCancelRequest v m body
    → 12 ≤ length body
cancel_least v m body h =
    let tail = h.4 in
    omega (
      arith,
      ap length h.2,
      length-append h.0 h.1,
      h.3.0,
      ap length tail.2,
      length-append tail.0 tail.1,
      tail.3.0,
      key_least v m.secret_key tail.1 tail.4,
    )

cancel_body_again : (ctx : DecodeContext) (body : List ℕ) (m : CancelRequest)
    → SpellsCancelRequest ctx.protocol_version m body → cancel_request_of ctx body ≡ Ok m
unfolding cancel_request_of Cancel
cancel_body_again ctx body m h =
    let long : ltb (length body) 12 ≡ false = le-ltb _ _ (cancel_least ctx.protocol_version m body h) in
    rw long (all_again _ (Cancel ctx.protocol_version) (cancel_reads ctx.protocol_version) body m
    (h.0, h.1, h.2, (80877102, code_passes 80877102 (record {}) InvalidCancelRequest, h.3), h.4))

-- a request with its code is as any message without a type byte
module _ {M : Type 0} (code limit : ℕ) (read : List ℕ → Result M PgWireError) (bytes : List ℕ) where
  fewer : ltb (length bytes) 8 ≡ true → wire_front (Opening code) limit read bytes ≡ Ok None
  unfolding wire_front frame
  fewer h = rw h refl

  eight : ltb (length bytes) 8 ≡ false → eqb (code_in bytes) code ≡ true
      → wire_front (Opening code) limit read bytes ≡ wire_front Untyped limit read bytes
  unfolding wire_front frame
  eight h k = rw (h, k) refl

  other_code : ltb (length bytes) 8 ≡ false → eqb (code_in bytes) code ≡ false
      → wire_front (Opening code) limit read bytes ≡ Err InvalidCancelRequest
  unfolding wire_front frame
  other_code h k = rw (h, k) refl

pub cancel_found : (ctx : DecodeContext) (bytes : List ℕ) (m : CancelRequest) (rest : List ℕ)
    → wire_front (Opening 80877102) 10000 (cancel_request_of ctx) bytes ≡ Ok (Some (m, rest))
    → (g : List ℕ) × (bytes ≡ g ++ rest) × SpellsUntyped 10000 (SpellsCancelRequest ctx.protocol_version) m g
cancel_found ctx bytes m rest e = elim (which (ltb (length bytes) 8)) [
  | inl h ↦ absurd (nothing m rest (sym (fewer 80877102 10000 (cancel_request_of ctx) bytes h) ∙ e))
  | inr h ↦ elim (which (eqb (code_in bytes) 80877102)) [
    | inl k ↦ untyped_found 10000 (cancel_request_of ctx) (lit< tt) (SpellsCancelRequest ctx.protocol_version)
        (cancel_body ctx) bytes m rest (sym (eight 80877102 10000 (cancel_request_of ctx) bytes h k) ∙ e)
    | inr k ↦ absurd (refused m rest (sym (other_code 80877102 10000 (cancel_request_of ctx) bytes h k) ∙ e))
  ]
]
  where
    nothing : (m : CancelRequest) (rest : List ℕ)
        → ◌≡◌ {A = Result (Option (CancelRequest × List ℕ)) PgWireError} (Ok None) (Ok (Some (m, rest))) → ⊥
    nothing m rest e = cc

    refused : (m : CancelRequest) (rest : List ℕ)
        → ◌≡◌ {A = Result (Option (CancelRequest × List ℕ)) PgWireError} (Err InvalidCancelRequest)
        (Ok (Some (m, rest))) → ⊥
    refused m rest e = cc

pub cancel_again : (ctx : DecodeContext) (m : CancelRequest) (g rest : List ℕ)
    → SpellsUntyped 10000 (SpellsCancelRequest ctx.protocol_version) m g
    → wire_front (Opening 80877102) 10000 (cancel_request_of ctx) (g ++ rest) ≡ Ok (Some (m, rest))
cancel_again ctx m g rest h =
    let least = cancel_least ctx.protocol_version m h.1 h.5 in
    let long : ltb (length (g ++ rest)) 8 ≡ false =
    le-ltb _ _ (omega (arith, length-append g rest, ap length h.2, length-append h.0 h.1, least)) in
    eight 80877102 10000 (cancel_request_of ctx) (g ++ rest) long (cancel_code ctx.protocol_version m g rest h)
    ∙ untyped_again 10000 (cancel_request_of ctx) (lit< tt) (SpellsCancelRequest ctx.protocol_version)
    (cancel_body_again ctx) m g rest h

-- ---- requests of eight bytes

module _ {M : Type 0} (code : ℕ) (one : M) (why : PgWireError) where
  abbrev read_code : List ℕ → Result M PgWireError
  read_code bytes = all_of (tried_at (only_code code one why) (nat_at w32) bytes)

  code_reads : ReadsLast (tried_at (only_code code one why) (nat_at w32))
      (λ y bytes. (x : ℕ) × (only_code code one why x ≡ Ok y) × SpellsNat w32 x bytes)
  code_reads = reads_last _ _ (tried_some (only_code code one why) (nat_at w32) (SpellsNat w32) (nat_reads w32))

  many : (bytes : List ℕ) → ltb (length bytes) 8 ≡ false
      → wire_front Code 10000 read_code bytes ≡ framed read_code bytes (Some (4, 8))
  unfolding wire_front frame
  many bytes h = rw h refl

  few : (bytes : List ℕ) → ltb (length bytes) 8 ≡ true → wire_front Code 10000 read_code bytes ≡ Ok None
  unfolding wire_front frame
  few bytes h = rw h refl

  pub coded_found : (bytes : List ℕ) (m : M) (rest : List ℕ)
      → wire_front Code 10000 read_code bytes ≡ Ok (Some (m, rest))
      → (g : List ℕ) × (bytes ≡ g ++ rest) × SpellsCoded code g
  coded_found bytes m rest e = elim (which (ltb (length bytes) 8)) [
    | inl h ↦ absurd (nothing m rest (sym (few bytes h) ∙ e))
    | inr h ↦
        let long : 8 ≤ length bytes = ltb-false _ _ h in
        let a =
        bind_ok (read_code (take 4 (drop 4 bytes))) (λ m. Ok (Some (m, drop 8 bytes))) (Some (m, rest))
        (sym (many bytes h) ∙ e) in
        let same : ◌≡◌ {A = M × List ℕ} (a.0, drop 8 bytes) (m, rest) =
        some_is (a.0, drop 8 bytes) (m, rest) a.2 in
        let left : drop 8 bytes ≡ rest = ap (λ (p : M × List ℕ). p.1) same in
        let short : length (take 4 (drop 4 bytes)) < 2 ^ 31 =
        omega (arith, length-take 4 (drop 4 bytes), length-drop 4 bytes, long) in
        let p = all_found _ _ code_reads (take 4 (drop 4 bytes)) a.0 short a.1 in
        let spelled : SpellsNat w32 code (take 4 (drop 4 bytes)) =
        subst (λ (n : ℕ). SpellsNat w32 n (take 4 (drop 4 bytes))) (code_is code one why p.0 a.0 p.1) p.2 in (
          take 4 bytes ++ take 4 (drop 4 bytes),
          sym (cut bytes)
              ∙ ap (λ (r : List ℕ). (take 4 bytes ++ take 4 (drop 4 bytes)) ++ r) left,
          (take 4 bytes, take 4 (drop 4 bytes), refl, omega (arith, length-take 4 bytes, long), spelled),
        )
  ]
    where
      nothing : (m : M) (rest : List ℕ)
          → ◌≡◌ {A = Result (Option (M × List ℕ)) PgWireError} (Ok None) (Ok (Some (m, rest))) → ⊥
      nothing m rest e = cc

      cut : (bytes : List ℕ) → (take 4 bytes ++ take 4 (drop 4 bytes)) ++ drop 8 bytes ≡ bytes
      cut bytes = append_assoc (take 4 bytes) (take 4 (drop 4 bytes)) (drop 8 bytes)
          ∙ ap (λ (r : List ℕ). take 4 bytes ++ (take 4 (drop 4 bytes) ++ r)) (sym (drop-drop 4 4 bytes))
          ∙ ap (λ (r : List ℕ). take 4 bytes ++ r) (take-append-drop 4 (drop 4 bytes))
          ∙ take-append-drop 4 bytes

  pub coded_again : (g rest : List ℕ) → SpellsCoded code g
      → wire_front Code 10000 read_code (g ++ rest) ≡ Ok (Some (one, rest))
  coded_again g rest h =
      let regrouped : g ++ rest ≡ h.0 ++ (h.1 ++ rest) =
      ap (λ (f : List ℕ). f ++ rest) h.2 ∙ append_assoc h.0 h.1 rest in
      let long : ltb (length (g ++ rest)) 8 ≡ false =
      le-ltb _ _ (omega (
        arith,
        ap length regrouped,
        length-append h.0 (h.1 ++ rest),
        length-append h.1 rest,
        h.3,
        h.4.0,
      )) in
      let cut : take 4 (drop 4 (g ++ rest)) ≡ h.1 =
      ap (λ (b : List ℕ). take 4 (drop 4 b)) regrouped ∙ ap (take 4) (drop_at h.0 (h.1 ++ rest) 4 h.3)
      ∙ take_at h.1 rest 4 h.4.0 in
      let left : drop 8 (g ++ rest) ≡ rest =
      ap (λ (b : List ℕ). drop 8 (b ++ rest)) h.2
      ∙ drop_at (h.0 ++ h.1) rest 8 (omega (arith, length-append h.0 h.1, h.3, h.4.0)) in
      let read : read_code h.1 ≡ Ok one =
      all_again _ _ code_reads h.1 one (code, code_passes code one why, h.4) in
      many (g ++ rest) long ∙ rw (cut, left, read) refl

pub ssl_found : (ctx : DecodeContext) (bytes : List ℕ) (m : SslRequest) (rest : List ℕ)
    → wire_front Code 10000 (ssl_request_of ctx) bytes ≡ Ok (Some (m, rest))
    → (g : List ℕ) × (bytes ≡ g ++ rest) × SpellsCoded 80877103 g
unfolding ssl_request_of
ssl_found ctx = coded_found 80877103 (record {}) InvalidSSLRequestMessage

pub ssl_again : (ctx : DecodeContext) (m : SslRequest) (g rest : List ℕ) → SpellsCoded 80877103 g
    → wire_front Code 10000 (ssl_request_of ctx) (g ++ rest) ≡ Ok (Some (m, rest))
unfolding ssl_request_of
ssl_again ctx m = coded_again 80877103 (record {}) InvalidSSLRequestMessage

pub gss_found : (ctx : DecodeContext) (bytes : List ℕ) (m : GssEncRequest) (rest : List ℕ)
    → wire_front Code 10000 (gss_enc_request_of ctx) bytes ≡ Ok (Some (m, rest))
    → (g : List ℕ) × (bytes ≡ g ++ rest) × SpellsCoded 80877104 g
unfolding gss_enc_request_of
gss_found ctx = coded_found 80877104 (record {}) InvalidGssEncRequestMessage

pub gss_again : (ctx : DecodeContext) (m : GssEncRequest) (g rest : List ℕ) → SpellsCoded 80877104 g
    → wire_front Code 10000 (gss_enc_request_of ctx) (g ++ rest) ≡ Ok (Some (m, rest))
unfolding gss_enc_request_of
gss_again ctx m = coded_again 80877104 (record {}) InvalidGssEncRequestMessage
