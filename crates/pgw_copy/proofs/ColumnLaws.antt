-- Columns and their formats: what is read is what is spelled.
use Rattle.std.proofs.Common.{◌≡◌, ℕ, ℤ, pos, ◌<◌, ◌^◌, List, ◌++◌, length, Result, Ok, refl, sym, ap, subst, ◌∙◌, append_assoc, arith, lit<}
use Rattle.std.specs.Int.{w8, w16}
use Rattle.pgw_types.specs.declared.error.PgWireError.{PgWireError}
use Rattle.pgw_wire.specs.Reading.{◌>>=◌, int_at, list_at, extended_count}
use Rattle.pgw_wire.specs.Formats.{counted_at, SpellsInt, SpellsCounted, ReadsFormat}
use Rattle.pgw_wire.proofs.Laws.{bind_ok, ok_is, shorter_after}
use Rattle.pgw_wire.proofs.FieldLaws.{int_reads}
use Rattle.pgw_wire.proofs.FrameLaws.{counted_reads, count16}
use Rattle.pgw_copy.specs.Rows.{columns_at, SpellsColumns}

codes_reads : ReadsFormat (counted_at w16 2 (int_at w16)) (SpellsCounted w16 (SpellsInt w16))
codes_reads =
    counted_reads w16 count16 (int_at w16) (SpellsInt w16) 2 (lit< tt) (λ x f h. omega (arith, h.0))
    (int_reads w16)

-- what follows the format
abbrev after_format : ℤ → List ℕ → Result ((ℤ × ℤ × List ℤ) × List ℕ) PgWireError
after_format format bytes =
    int_at w16 bytes >>= λ columns. list_at (int_at w16) 2 (extended_count columns.0) columns.1 >>= λ codes. Ok
    ((format, columns.0, codes.0), codes.1)

columns_found : (bytes : List ℕ) (p : ℤ × ℤ × List ℤ) (rest : List ℕ) → length bytes < 2 ^ 31
    → columns_at bytes ≡ Ok (p, rest) → (front : List ℕ) × (bytes ≡ front ++ rest) × SpellsColumns p front
unfolding columns_at
columns_found bytes p rest short e =
    let a = bind_ok (int_at w8 bytes) (λ format. after_format format.0 format.1) (p, rest) e in
    let b =
    bind_ok (int_at w16 a.0.1)
    (λ columns. list_at (int_at w16) 2 (extended_count columns.0) columns.1 >>= λ codes. Ok
    ((a.0.0, columns.0, codes.0), codes.1)) (p, rest) a.2 in
    let c =
    bind_ok (list_at (int_at w16) 2 (extended_count b.0.0) b.0.1)
    (λ codes. Ok ((a.0.0, b.0.0, codes.0), codes.1)) (p, rest) b.2 in
    let s = (int_reads w8).found bytes a.0.0 a.0.1 short a.1 in
    let counted : counted_at w16 2 (int_at w16) a.0.1 ≡ Ok (c.0.0, c.0.1) =
    ap (λ (x : Result (ℤ × List ℕ) PgWireError). x >>= λ count. list_at (int_at w16) 2
    (extended_count count.0) count.1) b.1 ∙ c.1 in
    let t = codes_reads.found a.0.1 c.0.0 c.0.1 (shorter_after s.0 a.0.1 bytes (2 ^ 31) s.1 short) counted in
    let there : a.0.1 ≡ t.2.0 ++ (t.2.1 ++ c.0.1) =
    t.1 ∙ ap (λ (f : List ℕ). f ++ c.0.1) t.2.2 ∙ append_assoc t.2.0 t.2.1 c.0.1 in
    let again : int_at w16 a.0.1 ≡ Ok (pos (length c.0.0), t.2.1 ++ c.0.1) =
    ap (int_at w16) there ∙ (int_reads w16).only (pos (length c.0.0)) t.2.0 (t.2.1 ++ c.0.1) t.2.3 in
    let same : b.0.0 ≡ pos (length c.0.0) =
    ap (λ (y : ℤ × List ℕ). y.0) (ok_is b.0 (pos (length c.0.0), t.2.1 ++ c.0.1) (sym b.1 ∙ again)) in
    let whole : bytes ≡ (s.0 ++ t.0) ++ c.0.1 =
    s.1 ∙ ap (λ (r : List ℕ). s.0 ++ r) t.1 ∙ sym (append_assoc s.0 t.0 c.0.1) in
    let made : (ℤ × ℤ × List ℤ) × List ℕ = ((a.0.0, b.0.0, c.0.0), c.0.1) in
    subst (λ (y : (ℤ × ℤ × List ℤ) × List ℕ). (front : List ℕ) × (bytes ≡ front ++ y.1) × SpellsColumns y.0 front)
    (ok_is made (p, rest) c.2)
    (s.0 ++ t.0, whole, (same, (s.0, t.0, refl, s.2, t.2)))

columns_again : (p : ℤ × ℤ × List ℤ) (front rest : List ℕ) → SpellsColumns p front
    → columns_at (front ++ rest) ≡ Ok (p, rest)
unfolding columns_at
columns_again p front rest h =
    let q = h.1 in
    let r = q.4 in
    let first : front ++ rest ≡ q.0 ++ (q.1 ++ rest) =
    ap (λ (f : List ℕ). f ++ rest) q.2 ∙ append_assoc q.0 q.1 rest in
    let second : q.1 ++ rest ≡ r.0 ++ (r.1 ++ rest) =
    ap (λ (f : List ℕ). f ++ rest) r.2 ∙ append_assoc r.0 r.1 rest in
    let one : int_at w8 (q.0 ++ (q.1 ++ rest)) ≡ Ok (p.0, q.1 ++ rest) =
    (int_reads w8).only p.0 q.0 (q.1 ++ rest) q.3 in
    let two : int_at w16 (q.1 ++ rest) ≡ Ok (pos (length p.2), r.1 ++ rest) =
    ap (int_at w16) second ∙ (int_reads w16).only (pos (length p.2)) r.0 (r.1 ++ rest) r.3 in
    let step : counted_at w16 2 (int_at w16) (q.1 ++ rest) ≡ list_at (int_at w16) 2 (length p.2) (r.1 ++ rest) =
    ap (λ (x : Result (ℤ × List ℕ) PgWireError). x >>= λ count. list_at (int_at w16) 2
    (extended_count count.0) count.1) two in
    let three : list_at (int_at w16) 2 (length p.2) (r.1 ++ rest) ≡ Ok (p.2, rest) =
    sym step ∙ codes_reads.only p.2 q.1 rest q.4 in
    let made : Result ((ℤ × ℤ × List ℤ) × List ℕ) PgWireError = Ok ((p.0, pos (length p.2), p.2), rest) in
    let last : made ≡ Ok (p, rest) = ap (λ (n : ℤ). Ok ((p.0, n, p.2), rest)) (sym h.0) in
    ap (λ (bytes : List ℕ). int_at w8 bytes >>= λ format. after_format format.0 format.1) first
    ∙ ap (λ (x : Result (ℤ × List ℕ) PgWireError). x >>= λ format. after_format format.0 format.1) one
    ∙ ap (λ (x : Result (ℤ × List ℕ) PgWireError). x >>= λ columns. list_at (int_at w16) 2
    (extended_count columns.0) columns.1 >>= λ codes. Ok ((p.0, columns.0, codes.0), codes.1)) two
    ∙ ap (λ (x : Result (List ℤ × List ℕ) PgWireError). x >>= λ codes. Ok
    ((p.0, pos (length p.2), codes.0), codes.1)) three
    ∙ last

pub columns_reads : ReadsFormat columns_at SpellsColumns
columns_reads = record { found = columns_found; only = columns_again }
