-- What a client finds at the front of the bytes that came.
use Rattle.std.proofs.Common.{◌≡◌, ℕ, ◌-◌, ◌<◌, ◌≤◌, List, [], ◌++◌, length, take, drop, Option, Some, None, Result, Ok, Err, refl, sym, ap, subst, ◌∙◌, arith, length-append}
use Rattle.std.proofs.lemmas.List.{take-take, take-append-le, take_at, length-take, length-drop}
use Rattle.pgw_types.specs.declared.error.PgWireError.{PgWireError}
use Rattle.pgw_types.specs.declared.context.ProtocolVersion.{ProtocolVersion}
use Rattle.pgw_backend.specs.declared.backend.PgWireBackendMessage.{PgWireBackendMessage}
use Rattle.pgw_backend.specs.Backend.{backend_front}
use Rattle.pgw_backend.specs.Front.{More, Bad, Whole, typed_phase, front_of, front, Spells}
use Rattle.pgw_backend.proofs.BackendStable.{backend_stable}
use Rattle.pgw_backend.proofs.BackendLaws.{backend_found, backend_again}

-- ---- the three outcomes

whole_parts : (bytes : List ℕ) (r : Result (Option (PgWireBackendMessage × List ℕ)) PgWireError)
    (m : PgWireBackendMessage) (n : ℕ)
    → front_of bytes r ≡ Whole m n
    → (rest : List ℕ) × (r ≡ Ok (Some (m, rest))) × (length bytes - length rest ≡ n)
whole_parts bytes (Err e) m n is = absurd cc
whole_parts bytes (Ok None) m n is = absurd cc
whole_parts bytes (Ok (Some x)) m n is =
    let one : x.0 ≡ m = cc in
    let two : length bytes - length x.1 ≡ n = cc in
    (x.1, ap (λ (k : PgWireBackendMessage). Ok (Some (k, x.1))) one, two)

bad_part : (bytes : List ℕ) (r : Result (Option (PgWireBackendMessage × List ℕ)) PgWireError) (why : PgWireError)
    → front_of bytes r ≡ Bad why → r ≡ Err why
bad_part bytes (Err e) why is = cc
bad_part bytes (Ok None) why is = absurd cc
bad_part bytes (Ok (Some x)) why is = absurd cc

-- ---- a message

-- the message at the front takes n bytes, and is read wherever these bytes stand
record Taken (v : ProtocolVersion) (bytes : List ℕ) (m : PgWireBackendMessage) (n : ℕ) : Type 0 where
  some : 1 ≤ n
  within : n ≤ length bytes
  again : (b : List ℕ) → take n b ≡ take n bytes → n ≤ length b → front v b ≡ Whole m n

whole_again : (v : ProtocolVersion) (m : PgWireBackendMessage) (b : List ℕ) (n : ℕ) → n ≤ length b
    → backend_front (typed_phase v) b ≡ Ok (Some (m, drop n b)) → front v b ≡ Whole m n
unfolding front
whole_again v m b n long is =
    let size : length b - length (drop n b) ≡ n = omega (arith, length-drop n b, long) in
    rw is (ap (λ (k : ℕ). Whole m k) size)

taken : (v : ProtocolVersion) (bytes : List ℕ) (m : PgWireBackendMessage) (rest : List ℕ)
    → backend_front (typed_phase v) bytes ≡ Ok (Some (m, rest))
    → (n : ℕ) × (rest ≡ drop n bytes) × Taken v bytes m n
taken v bytes m rest is =
    let ends = (backend_stable (typed_phase v)).whole bytes m rest is in (
      ends.len,
      ends.left,
      record {
        some = ends.some;
        within = ends.within;
        again = λ b same long. whole_again v m b ends.len long
            (ends.again b same long);
      },
    )

whole_taken : (v : ProtocolVersion) (bytes : List ℕ) (m : PgWireBackendMessage) (n : ℕ)
    → front v bytes ≡ Whole m n → Taken v bytes m n
unfolding front
whole_taken v bytes m n is =
    let p = whole_parts bytes (backend_front (typed_phase v) bytes) m n is in
    let t = taken v bytes m p.0 p.1 in
    let size : t.0 ≡ n = omega (arith, p.2, ap length t.1, length-drop t.0 bytes, t.2.within) in
    subst (λ (k : ℕ). Taken v bytes m k) size t.2

-- ---- the laws

pub front_nil : (v : ProtocolVersion) → front v [] ≡ More
unfolding front backend_front
front_nil v = refl

pub front_whole : (v : ProtocolVersion) (bytes : List ℕ) (m : PgWireBackendMessage) (n : ℕ)
    → front v bytes ≡ Whole m n → (0 < n) × (n ≤ length bytes)
front_whole v bytes m n is = let t = whole_taken v bytes m n is in (omega (arith, t.some), t.within)

pub front_take : (v : ProtocolVersion) (bytes : List ℕ) (m : PgWireBackendMessage) (n : ℕ)
    → front v bytes ≡ Whole m n → front v (take n bytes) ≡ Whole m n
front_take v bytes m n is =
    let t =
    whole_taken v bytes m n is in t.again (take n bytes) (take-take n n bytes (omega arith))
    (omega (arith, length-take n bytes, t.within))

pub front_whole_more : (v : ProtocolVersion) (bytes more : List ℕ) (m : PgWireBackendMessage) (n : ℕ)
    → front v bytes ≡ Whole m n → front v (bytes ++ more) ≡ Whole m n
front_whole_more v bytes more m n is =
    let t =
    whole_taken v bytes m n is in t.again (bytes ++ more) (take-append-le n bytes more t.within)
    (omega (arith, length-append bytes more, t.within))

pub front_bad_more : (v : ProtocolVersion) (bytes more : List ℕ) (why : PgWireError) → front v bytes ≡ Bad why
    → front v (bytes ++ more) ≡ Bad why
unfolding front
front_bad_more v bytes more why is =
    rw ((backend_stable (typed_phase v)).bad bytes more why
    (bad_part bytes (backend_front (typed_phase v) bytes) why is)) refl

pub front_spells : (v : ProtocolVersion) (bytes : List ℕ) (m : PgWireBackendMessage) (n : ℕ)
    → front v bytes ≡ Whole m n → Spells v m (take n bytes)
unfolding front
front_spells v bytes m n is =
    let p = whole_parts bytes (backend_front (typed_phase v) bytes) m n is in
    let f = backend_found (typed_phase v) bytes m p.0 p.1 in
    let size : n ≡ length f.0 = omega (arith, p.2, ap length f.1, length-append f.0 p.0) in
    let cut : take n bytes ≡ f.0 = ap (take n) f.1 ∙ take_at f.0 p.0 n (sym size) in
    subst (λ (g : List ℕ). Spells v m g) (sym cut) f.2

pub spells_front : (v : ProtocolVersion) (m : PgWireBackendMessage) (g rest : List ℕ) → Spells v m g
    → front v (g ++ rest) ≡ Whole m (length g)
unfolding front
spells_front v m g rest h =
    let size : length (g ++ rest) - length rest ≡ length g = omega (arith, length-append g rest) in
    rw (backend_again (typed_phase v) m g rest h) (ap (λ (k : ℕ). Whole m k) size)

-- ---- what a decoder gave

pub front_taken : (v : ProtocolVersion) (bytes rest : List ℕ) (m : PgWireBackendMessage)
    → backend_front (typed_phase v) bytes ≡ Ok (Some (m, rest))
    → (n : ℕ) × (front v bytes ≡ Whole m n) × (rest ≡ drop n bytes)
front_taken v bytes rest m is =
    let t = taken v bytes m rest is in
    (t.0, t.2.again bytes refl t.2.within, t.1)

pub front_none : (v : ProtocolVersion) (bytes : List ℕ) → backend_front (typed_phase v) bytes ≡ Ok None
    → front v bytes ≡ More
unfolding front
front_none v bytes is = rw is refl

pub front_refused : (v : ProtocolVersion) (bytes : List ℕ) (e : PgWireError)
    → backend_front (typed_phase v) bytes ≡ Err e → front v bytes ≡ Bad e
unfolding front
front_refused v bytes e is = rw is refl
