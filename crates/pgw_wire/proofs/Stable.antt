-- What follows a message, or a refusal, at the front of some bytes changes nothing.
use Rattle.std.proofs.Common.{◌≡◌, ◌⊎◌, inl, inr, ℕ, ◌+◌, ◌-◌, ◌≤◌, Bool, true, false, cond, ltb, eqb, List, ◌++◌, length, take, drop, slice_range, Option, Some, None, Result, Ok, Err, refl, sym, ap, subst, ◌∙◌, arith, length-append}
use Rattle.std.specs.Int.{w32, from_be_bytes}
use Rattle.std.proofs.lemmas.Bool.{ltb-false, le-ltb, eqb-false, ne_eqb}
use Rattle.std.proofs.lemmas.List.{take-take, take-append-le, drop-take}
use Rattle.pgw_types.specs.declared.error.PgWireError.{PgWireError}
use Rattle.pgw_wire.specs.declared.framing.Framing.{Framing}
use Rattle.pgw_wire.specs.declared.framing.Framing.TheVariants.{Typed, Untyped, Opening, Code, OneByte}
use Rattle.pgw_wire.specs.Reading.{◌>>=◌}
use Rattle.pgw_wire.specs.Framing.{sign_extended, stated_length, length_frame, code_in, frame, framed, wire_front}
use Rattle.pgw_wire.proofs.Laws.{bind_ok, chosen}
use Rattle.pgw_wire.proofs.MessageLaws.{some_is, framed_found}

-- a message that ends within the bytes, and is read wherever these bytes stand up to its end
pub record Ends {M : Type 0} (least : ℕ) (at : List ℕ → Result (Option (M × List ℕ)) PgWireError) (a : List ℕ)
    (m : M) (rest : List ℕ) : Type 0 where
  pub len : ℕ
  pub some : least ≤ len
  pub within : len ≤ length a
  pub left : rest ≡ drop len a
  pub again : (b : List ℕ) → take len b ≡ take len a → len ≤ length b → at b ≡ Ok (Some (m, drop len b))

-- a message at the front takes this many bytes or more, and is the same whatever follows it, as is a refusal
pub record Stable {M : Type 0} (least : ℕ) (at : List ℕ → Result (Option (M × List ℕ)) PgWireError) : Type 0 where
  pub whole : (a : List ℕ) (m : M) (rest : List ℕ) → at a ≡ Ok (Some (m, rest)) → Ends least at a m rest
  pub bad : (a more : List ℕ) (e : PgWireError) → at a ≡ Err e → at (a ++ more) ≡ Err e

pub bind_err : {A B : Type 0} (r : Result A PgWireError) (f : A → Result B PgWireError) (e : PgWireError)
    → (r >>= f) ≡ Err e → (r ≡ Err e) ⊎ ((x : A) × (r ≡ Ok x) × (f x ≡ Err e))
bind_err (Ok x) f e is = inr (x, refl, is)
bind_err (Err d) f e is = inl cc

-- ---- frames

shorter : (k n : ℕ) (a b : List ℕ) → k ≤ n → take n b ≡ take n a → take k b ≡ take k a
shorter k n a b le same = sym (take-take k n b le) ∙ ap (λ (x : List ℕ). take k x) same ∙ take-take k n a le

cut_local : (i j n : ℕ) (a b : List ℕ) → i + j ≤ n → take n b ≡ take n a → take j (drop i b) ≡ take j (drop i a)
cut_local i j n a b le same =
    sym (drop-take i j b) ∙ ap (λ (x : List ℕ). drop i x) (shorter (i + j) n a b le same) ∙ drop-take i j a

stated_local : (at n : ℕ) (a b : List ℕ) → at + 4 ≤ n → take n b ≡ take n a
    → stated_length at b ≡ stated_length at a
stated_local at n a b le same =
    ap (λ (f : List ℕ). sign_extended (from_be_bytes w32 f)) (cut_local at 4 n a b le same)

-- a frame that ends within the bytes
record FrameEnds (find : List ℕ → Result (Option (ℕ × ℕ)) PgWireError) (least : ℕ) (a : List ℕ) (f : ℕ × ℕ) : Type
    0 where
  some : least ≤ f.1
  ordered : f.0 ≤ f.1
  within : f.1 ≤ length a
  again : (b : List ℕ) → take f.1 b ≡ take f.1 a → f.1 ≤ length b → find b ≡ Ok (Some f)

length_frame_ends : (at limit : ℕ) (a : List ℕ) (f : ℕ × ℕ) → length_frame at limit a ≡ Ok (Some f)
    → FrameEnds (length_frame at limit) (at + 4) a f
unfolding length_frame
length_frame_ends at limit a f e =
    elim (chosen (ltb (length a) (at + 4)) _ _ _ e) [
      | inl h ↦ absurd cc
      | inr g ↦ elim (chosen (ltb limit (stated_length at a)) _ _ _ g.1) [
        | inl h ↦ absurd cc
        | inr k ↦ elim (chosen (ltb (stated_length at a) 4) _ _ _ k.1) [
          | inl h ↦ absurd cc
          | inr m ↦ elim (chosen (ltb (length a) (at + stated_length at a)) _ _ _ m.1) [
            | inl h ↦ absurd cc
            | inr n ↦
                let least : 4 ≤ stated_length at a = ltb-false _ _ m.0 in
                let whole : at + stated_length at a ≤ length a = ltb-false _ _ n.0 in
                subst (λ (f : ℕ × ℕ). FrameEnds (length_frame at limit) (at + 4) a f)
                (some_is (at + 4, at + stated_length at a) f n.1)
                (record {
                  some = omega (arith, least);
                  ordered = omega (arith, least);
                  within = whole;
                  again = λ b same long.
                      let stated : stated_length at b ≡ stated_length at a =
                      stated_local at (at + stated_length at a) a b (omega (arith, least)) same in
                      let one : ltb (length b) (at + 4) ≡ false = le-ltb _ _ (omega (arith, least, long)) in
                      let two : ltb (length b) (at + stated_length at a) ≡ false = le-ltb _ _ long in
                      rw (stated, one, k.0, m.0, two) refl;
                })
          ]
        ]
      ]
    ]

length_frame_bad : (at limit : ℕ) (a more : List ℕ) (e : PgWireError) → length_frame at limit a ≡ Err e
    → length_frame at limit (a ++ more) ≡ Err e
unfolding length_frame
length_frame_bad at limit a more e is =
    elim (chosen (ltb (length a) (at + 4)) _ _ _ is) [
      | inl h ↦ absurd cc
      | inr g ↦
          let some : at + 4 ≤ length a = ltb-false _ _ g.0 in
          let stated : stated_length at (a ++ more) ≡ stated_length at a =
          stated_local at (at + 4) a (a ++ more) (omega arith) (take-append-le (at + 4) a more some) in
          let one : ltb (length (a ++ more)) (at + 4) ≡ false =
          le-ltb _ _ (omega (arith, some, length-append a more)) in
          elim (chosen (ltb limit (stated_length at a)) _ _ _ g.1) [
            | inl h ↦ rw (one, stated, h.0) h.1
            | inr k ↦ elim (chosen (ltb (stated_length at a) 4) _ _ _ k.1) [
              | inl h ↦ rw (one, stated, k.0, h.0) h.1
              | inr m ↦ elim (chosen (ltb (length a) (at + stated_length at a)) _ _ _ m.1) [
                | inl h ↦ absurd cc
                | inr n ↦ absurd cc
              ]
            ]
          ]
    ]

-- the fewest bytes of a message
abbrev pub fewest : Framing → ℕ
fewest (Typed byte) = 5
fewest Untyped = 4
fewest (Opening code) = 8
fewest Code = 8
fewest OneByte = 1

-- a length of four to seven bytes ends before the eight bytes that are awaited, and no message of that framing has one
abbrev pub IsWhole : Framing → Type 0
IsWhole (Typed byte) = Unit {0}
IsWhole Untyped = Unit {0}
IsWhole (Opening code) = ⊥
IsWhole Code = Unit {0}
IsWhole OneByte = Unit {0}

frame_ends : (framing : Framing) (limit : ℕ) (a : List ℕ) (f : ℕ × ℕ) → IsWhole framing
    → frame framing limit a ≡ Ok (Some f) → FrameEnds (frame framing limit) (fewest framing) a f
unfolding frame
frame_ends (Typed byte) limit a f is e =
    let h =
    length_frame_ends 1 limit a f e in record
    { some = h.some; ordered = h.ordered; within = h.within; again = h.again }
frame_ends Untyped limit a f is e =
    let h =
    length_frame_ends 0 limit a f e in record
    { some = h.some; ordered = h.ordered; within = h.within; again = h.again }
frame_ends (Opening code) limit a f is e = absurd is
frame_ends Code limit a f is e =
    elim (chosen (ltb (length a) 8) _ _ _ e) [
      | inl h ↦ absurd cc
      | inr h ↦ subst (λ (f : ℕ × ℕ). FrameEnds (frame Code limit) 8 a f) (some_is (4, 8) f h.1)
          (record {
            some = omega arith;
            ordered = omega arith;
            within = ltb-false _ _ h.0;
            again = λ b same long.
                let one : ltb (length b) 8 ≡ false = le-ltb _ _ long in rw one refl;
          })
    ]
frame_ends OneByte limit a f is e =
    elim (chosen (eqb (length a) 0) _ _ _ e) [
      | inl h ↦ absurd cc
      | inr h ↦
          let some : 1 ≤ length a = omega (arith, eqb-false (length a) 0 h.0) in
          subst (λ (f : ℕ × ℕ). FrameEnds (frame OneByte limit) 1 a f) (some_is (0, 1) f h.1)
          (record {
            some = omega arith;
            ordered = omega arith;
            within = some;
            again = λ b same long. let one : eqb
                (length b) 0 ≡ false = not_zero (length b) long in rw one refl;
          })
    ]
  where
    not_zero : (n : ℕ) → 1 ≤ n → eqb n 0 ≡ false
    not_zero n le = ne_eqb n 0 (λ is. omega (arith, is, le))

frame_bad : (framing : Framing) (limit : ℕ) (a more : List ℕ) (e : PgWireError) → frame framing limit a ≡ Err e
    → frame framing limit (a ++ more) ≡ Err e
unfolding frame
frame_bad (Typed byte) limit a more e is = length_frame_bad 1 limit a more e is
frame_bad Untyped limit a more e is = length_frame_bad 0 limit a more e is
frame_bad (Opening code) limit a more e is = elim (chosen (ltb (length a) 8) _ _ _ is) [
  | inl h ↦ absurd cc
  | inr h ↦
      let some : 8 ≤ length a = ltb-false _ _ h.0 in
      let long : ltb (length (a ++ more)) 8 ≡ false = le-ltb _ _ (omega (arith, some, length-append a more)) in
      let same : code_in (a ++ more) ≡ code_in a =
      ap (λ (f : List ℕ). from_be_bytes w32 f)
      (cut_local 4 4 8 a (a ++ more) (omega arith) (take-append-le 8 a more some)) in
      elim (chosen (eqb (code_in a) code) _ _ _ h.1) [
        | inl k ↦ rw (long, same, k.0) (length_frame_bad 0 limit a more e k.1)
        | inr k ↦ rw (long, same, k.0) k.1
      ]
]
frame_bad Code limit a more e is =
    elim (chosen (ltb (length a) 8) _ _ _ is) [ inl h ↦ absurd cc | inr h ↦ absurd cc ]
frame_bad OneByte limit a more e is =
    elim (chosen (eqb (length a) 0) _ _ _ is) [ inl h ↦ absurd cc | inr h ↦ absurd cc ]

-- ---- a message at the front

framed_bad : {M : Type 0} (read : List ℕ → Result M PgWireError) (a : List ℕ) (e : PgWireError)
    (o : Option (ℕ × ℕ))
    → framed read a o ≡ Err e → (f : ℕ × ℕ) × (o ≡ Some f) × (read (slice_range a f.0 f.1) ≡ Err e)
framed_bad read a e None is = absurd cc
framed_bad read a e (Some f) is =
    elim (bind_err (read (slice_range a f.0 f.1)) (λ m. Ok (Some (m, drop f.1 a))) e is) [
      | inl h ↦ (f, refl, h)
      | inr h ↦ absurd cc
    ]

body_local : (f : ℕ × ℕ) (a b : List ℕ) → f.0 ≤ f.1 → take f.1 b ≡ take f.1 a
    → slice_range b f.0 f.1 ≡ slice_range a f.0 f.1
body_local f a b ordered same = cut_local f.0 (f.1 - f.0) f.1 a b (omega (arith, ordered)) same

front_again : {M : Type 0} (framing : Framing) (limit : ℕ) (read : List ℕ → Result M PgWireError) (b : List ℕ)
    (f : ℕ × ℕ) (m : M)
    → frame framing limit b ≡ Ok (Some f) → read (slice_range b f.0 f.1) ≡ Ok m
    → wire_front framing limit read b ≡ Ok (Some (m, drop f.1 b))
unfolding wire_front
front_again framing limit read b f m one two = rw (one, two) refl

front_bad : {M : Type 0} (framing : Framing) (limit : ℕ) (read : List ℕ → Result M PgWireError) (a more : List ℕ)
    (e : PgWireError)
    → IsWhole framing → wire_front framing limit read a ≡ Err e
    → wire_front framing limit read (a ++ more) ≡ Err e
unfolding wire_front
front_bad framing limit read a more e plain is = elim (bind_err (frame framing limit a) (framed read a) e is) [
  | inl h ↦ rw (frame_bad framing limit a more e h) refl
  | inr h ↦
      let f = framed_bad read a e h.0 h.2 in
      let ends = frame_ends framing limit a f.0 plain (h.1 ∙ ap (λ (o : Option (ℕ × ℕ)). Ok o) f.1) in
      let same : take f.0.1 (a ++ more) ≡ take f.0.1 a = take-append-le f.0.1 a more ends.within in
      rw (
        ends.again (a ++ more) same (omega (arith, ends.within, length-append a more)),
        body_local f.0 a
            (a ++ more) ends.ordered same,
        f.2,
      ) refl
]

pub front_stable : {M : Type 0} (framing : Framing) (limit : ℕ) (read : List ℕ → Result M PgWireError)
    → IsWhole framing → Stable (fewest framing) (wire_front framing limit read)
unfolding wire_front
front_stable framing limit read plain = record {
  whole = λ a m rest e.
      let h = bind_ok (frame framing limit a) (framed read a) (Some (m, rest)) e in
      let f = framed_found read a m rest h.0 h.2 in
      let ends = frame_ends framing limit a f.0 plain (h.1 ∙ ap (λ (o : Option (ℕ × ℕ)). Ok o) f.1) in
      record {
        len = f.0.1;
        some = ends.some;
        within = ends.within;
        left = sym f.3;
        again =
            λ b same long. front_again framing limit read b f.0 m (ends.again b same long)
            (ap read (body_local f.0 a b ends.ordered same) ∙ f.2);
      };
  bad = λ a more e is. front_bad framing limit read a more e plain is;
}

-- ---- one of several readings

pub stable_choice : {M : Type 0} (least : ℕ) (b : Bool) (p q : List ℕ → Result (Option (M × List ℕ)) PgWireError)
    → Stable least p → Stable least q → Stable least (λ bytes. cond b (p bytes) (q bytes))
stable_choice least true p q hp hq =
    record {
      whole = λ a m rest e. let h = hp.whole a m rest e in record
          { len = h.len; some = h.some; within = h.within; left = h.left; again = h.again };
      bad = hp.bad;
    }
stable_choice least false p q hp hq =
    record {
      whole = λ a m rest e. let h = hq.whole a m rest e in record
          { len = h.len; some = h.some; within = h.within; left = h.left; again = h.again };
      bad = hq.bad;
    }

pub stable_refusal : {M : Type 0} (least : ℕ) (why : PgWireError) → Stable {M = M} least (λ bytes. Err why)
stable_refusal least why = record { whole = λ a m rest e. absurd cc; bad = λ a more e is. is }
