-- What a log tells of one call more, and known bytes over several calls.
use Rattle.std.proofs.Common.{◌≡◌, ◌<◌, ◌≤◌, ◌+◌, ◌-◌, ◌*◌, min, drop, length-append, length-drop, append_assoc, ℕ, zero, suc, List, [], ◌∷◌, ◌++◌, length, take, Option, Some, None, IsSome, Result, Ok, Err, refl, sym, subst, ap, ◌∙◌, arith}
use Rattle.std.proofs.lemmas.List.{append-nil, take-append-drop, drop-drop, nil_from_length, take_all}
use Rattle.std.proofs.Math.Seq.{take-add}
use Rattle.std.specs.Io.KnownBytes.{Consumes, IsAtEnd, Keeps, Appends, ReadConsumes, WriteAppends}
use Rattle.pgw_link.specs.Tape.{Tape, Took, Put, LinkFails}
use Rattle.pgw_link.specs.Log.{after_read}
use Rattle.pgw_link.specs.Foresight.{TapeEnds, Foreseen}

-- ---- what a note of a read tells, whatever the buffer is

pub after_reads : (t : Tape) (buf : List ℕ) (n : ℕ) → (after_read t buf n).reads ≡ t.reads + 1
after_reads t [] n = refl
after_reads t (b ∷ bs) n = refl

pub after_wrote : (t : Tape) (buf : List ℕ) (n : ℕ) → (after_read t buf n).wrote ≡ t.wrote
after_wrote t [] n = refl
after_wrote t (b ∷ bs) n = refl

pub after_flushed : (t : Tape) (buf : List ℕ) (n : ℕ) → (after_read t buf n).flushed ≡ t.flushed
after_flushed t [] n = refl
after_flushed t (b ∷ bs) n = refl

-- so many calls moved so many bytes, each at most cut
pub in_cuts : (at n cut calls : ℕ) → at ≤ cut * calls → n ≤ cut → at + n ≤ cut * (calls + 1)
in_cuts at n cut calls so_far more = omega (arith, so_far, more)

pub read_took : (t : Tape) (buf : List ℕ) (n : ℕ) → n ≤ length buf → 0 < length buf
    → Took t (after_read t buf n) (take n buf)
read_took t [] n le some = absurd (omega (arith, some))
read_took t (b ∷ bs) zero le some =
    record {
      took = refl;
      wrote = refl;
      flushed = refl;
      ended = λ e. refl;
      goes_on = λ lt. absurd
          (omega (arith, lt));
      reads = refl;
      writes = refl;
    }
read_took t (b ∷ bs) (suc n) le some =
    record {
      took = refl;
      wrote = refl;
      flushed = refl;
      ended = λ e. absurd (omega (arith, e));
      goes_on = λ lt.
          refl;
      reads = refl;
      writes = refl;
    }

pub read_idle : (t : Tape) (buf : List ℕ) (n : ℕ) → length buf ≡ 0
    → LinkFails t (after_read t buf n) (t.reads + 1) t.writes
read_idle t [] n none =
    record { took = refl; wrote = refl; flushed = refl; ended = refl; reads = refl; writes = refl }
read_idle t (b ∷ bs) n none = absurd (omega (arith, none))

pub keeps_refl : (a : Option (List ℕ)) → Keeps a a
keeps_refl None = tt
keeps_refl (Some xs) = refl

pub keeps_read : {E : Type 0} (a b c : Option (List ℕ)) (r : Result ℕ E) (buf : List ℕ) → Keeps a b
    → ReadConsumes b c r buf → ReadConsumes a c r buf
keeps_read None b c (Ok n) buf k r = (tt, r.1)
keeps_read None b c (Err e) buf k r = tt
keeps_read (Some xs) None c r buf k h = absurd k
keeps_read (Some xs) (Some ys) c r buf k h = subst (λ zs. ReadConsumes (Some zs) c r buf) k h

pub keeps_write : {E : Type 0} (a b c : Option (List ℕ)) (r : Result ℕ E) (buf : List ℕ) → Keeps a b
    → WriteAppends b c r buf → WriteAppends a c r buf
keeps_write None b c (Ok n) buf k h = tt
keeps_write None b c (Err e) buf k h = tt
keeps_write (Some xs) None c r buf k h = absurd k
keeps_write (Some xs) (Some ys) c r buf k h = subst (λ zs. WriteAppends (Some zs) c r buf) k h

-- a write of no bytes
pub keeps_none : (a b c : Option (List ℕ)) (buf : List ℕ) → Keeps a b → Appends b c (take 0 buf) → Keeps a c
keeps_none None b c buf k h = tt
keeps_none (Some xs) None c buf k h = absurd k
keeps_none (Some xs) (Some ys) None buf k h = absurd h
keeps_none (Some xs) (Some ys) (Some zs) buf k h = h ∙ append_nil ys ∙ k where
  append_nil : (xs : List ℕ) → xs ++ [] ≡ xs
  append_nil [] = refl
  append_nil (x ∷ xs) = ap (λ ys. x ∷ ys) (append_nil xs)

pub keeps_on : (a b c : Option (List ℕ)) → Keeps a b → Keeps b c → Keeps a c
keeps_on None b c k h = tt
keeps_on (Some xs) None c k h = absurd k
keeps_on (Some xs) (Some ys) None k h = absurd h
keeps_on (Some xs) (Some ys) (Some zs) k h = h ∙ k

-- ---- what was copied from the front of what was left

pub taken : (bytes piece : List ℕ) (at n : ℕ) → piece ≡ take n (drop at bytes)
    → drop at bytes ≡ piece ++ drop (at + n) bytes
taken bytes piece at n is =
    sym (ap (λ (b : List ℕ). b ++ drop (at + n) bytes) is
    ∙ ap (λ (b : List ℕ). take n (drop at bytes) ++ b) (sym (drop-drop n at bytes))
    ∙ take-append-drop n (drop at bytes))

pub nothing_left : (bytes : List ℕ) (at n room cut : ℕ) → n ≡ min (min room cut) (length bytes - at) → 0 < room
    → 0 < cut → n ≡ 0 → drop (at + n) bytes ≡ []
nothing_left bytes at n room cut is some moves none =
    nil_from_length (drop (at + n) bytes) (omega (arith, length-drop (at + n) bytes))

-- ---- a write puts the next of some bytes behind those that were written

rest_is : (bytes : List ℕ) (at : ℕ) → take (length bytes - at) (drop at bytes) ≡ drop at bytes
rest_is bytes at = take_all (length bytes - at) (drop at bytes) (omega (arith, length-drop at bytes))

pub take_on : (bytes : List ℕ) (at n : ℕ)
    → take (at + n) bytes ≡ take at bytes ++ take n (take (length bytes - at) (drop at bytes))
take_on bytes at n = take-add at n bytes ∙ ap (λ (r : List ℕ). take at bytes ++ take n r) (sym (rest_is bytes at))

pub put_on : {mid new : Tape} (old : Tape) (bytes : List ℕ) (at n : ℕ)
    → Put mid new (take n (take (length bytes - at) (drop at bytes))) → mid.wrote ≡ old.wrote ++ take at bytes
    → new.wrote ≡ old.wrote ++ take (at + n) bytes
put_on old bytes at n put was =
    let part = take n (take (length bytes - at) (drop at bytes)) in
    put.wrote ∙ ap (λ (w : List ℕ). w ++ part) was ∙ append_assoc old.wrote (take at bytes) part
    ∙ ap (λ (w : List ℕ). old.wrote ++ w) (sym (take_on bytes at n))

-- ---- what was foreseen over several calls

pub consumes_on : (a b c : Option (List ℕ)) (xs ys : List ℕ) → Consumes a b xs → Consumes b c ys
    → Consumes a c (xs ++ ys)
consumes_on None b c xs ys h k = tt
consumes_on (Some p) None c xs ys h k = absurd h
consumes_on (Some p) (Some q) None xs ys h k = absurd k
consumes_on (Some p) (Some q) (Some r) xs ys h k = h ∙ ap (λ (z : List ℕ). xs ++ z) k ∙ sym (append_assoc xs ys r)

pub keeps_consumes : (a b c : Option (List ℕ)) (xs : List ℕ) → Keeps a b → Consumes b c xs → Consumes a c xs
keeps_consumes None b c xs h k = tt
keeps_consumes (Some p) None c xs h k = absurd h
keeps_consumes (Some p) (Some q) c xs h k = subst (λ z. Consumes (Some z) c xs) h k

pub foreseen_on : (a b c : Option (List ℕ)) (t u v : Tape) → Foreseen a b t u → Foreseen b c u v
    → Foreseen a c t v
foreseen_on a b c t u v f g = record {
  taken = f.taken ++ g.taken;
  took = g.took ∙ ap (λ (z : List ℕ). z ++ g.taken) f.took ∙ append_assoc t.took f.taken g.taken;
  consumes = consumes_on a b c f.taken g.taken f.consumes g.consumes;
}

-- no call was made of the link
pub foreseen_still : (a : Option (List ℕ)) (t : Tape) → Foreseen a a t t
foreseen_still None t = record { taken = []; took = sym (append-nil t.took); consumes = tt }
foreseen_still (Some xs) t = record { taken = []; took = sym (append-nil t.took); consumes = refl }

-- calls that took nothing
pub foreseen_kept : (a b : Option (List ℕ)) (t u : Tape) → u.took ≡ t.took → Keeps a b → Foreseen a b t u
foreseen_kept None b t u same k = record { taken = []; took = same ∙ sym (append-nil t.took); consumes = tt }
foreseen_kept (Some xs) None t u same k = absurd k
foreseen_kept (Some xs) (Some ys) t u same k =
    record { taken = []; took = same ∙ sym (append-nil t.took); consumes = sym k }

-- ---- the end over several calls

pub ends_still : (a : Option (List ℕ)) (t : Tape) → TapeEnds a t t
ends_still a t =
    record { answers = []; ended = sym (append-nil t.ended); at_end = λ some. absurd (omega (arith, some)) }

-- calls that did not meet the end
pub ends_on : (a : Option (List ℕ)) (t u : Tape) → u.ended ≡ t.ended → TapeEnds a t u
ends_on a t u same =
    record {
      answers = [];
      ended = same
          ∙ sym (append-nil t.ended);
      at_end = λ some. absurd (omega (arith, some));
    }

-- where nothing was to come, nothing is
at_end_on : (a b : Option (List ℕ)) (xs : List ℕ) → IsSome a → Consumes a b xs → IsAtEnd a → IsAtEnd b
at_end_on None b xs some c at = absurd (cc)
at_end_on (Some p) None xs some c at = absurd c
at_end_on (Some p) (Some q) xs some c at =
    nil_from_length q (omega (arith, length-append xs q, ap length c, ap length at))

either : {P : Type 0} (xs ys : List ℕ) → 0 < length (xs ++ ys) → (0 < length xs → P) → (0 < length ys → P) → P
either [] ys any first second = second any
either (x ∷ xs) ys any first second = first (omega arith)

pub ends_further : (a b : Option (List ℕ)) (t u v : Tape) → IsSome a → TapeEnds a t u → Foreseen a b u v
    → TapeEnds b u v → TapeEnds b t v
ends_further a b t u v some e f g = record {
  answers = e.answers ++ g.answers;
  ended = g.ended ∙ ap (λ (z : List ℕ). z ++ g.answers) e.ended ∙ append_assoc t.ended e.answers g.answers;
  at_end =
      λ any. either e.answers g.answers any (λ early. at_end_on a b f.taken some f.consumes (e.at_end early))
      g.at_end;
}
