-- A record is read as the messages that it holds, and in one way.
use Rattle.std.proofs.Common.{◌≡◌, ◌⊎◌, inl, inr, ℕ, ◌+◌, ◌-◌, ◌<◌, ◌≤◌, ◌^◌, false, ltb, eqb, List, [], ◌∷◌, ◌++◌, length, map, take, drop, slice_range, Some, Result, Ok, Err, refl, sym, ap, subst, ◌∙◌, arith, append_assoc, length-append, length-drop}
use Rattle.std.specs.Prelude.{◌≢◌}
use Rattle.std.specs.Int.{w32, to_be_bytes, from_be_bytes}
use Rattle.std.proofs.lemmas.Nat.{from_be_bytes-to_be_bytes_4}
use Rattle.std.proofs.lemmas.Bool.{le-ltb}
use Rattle.std.proofs.lemmas.List.{append-nil, nil_from_length, append_cancel_right, take_at, drop_at}
use Rattle.pgw_wire.specs.Header.{length_at}
use Rattle.pgw_wire.specs.Writing.{u32}
use Rattle.pgw_wire.proofs.Laws.{chosen}
use Rattle.pgw_proxy.specs.declared.context.Context.{Context}
use Rattle.pgw_proxy.specs.declared.recorded.Side.{Side}
use Rattle.pgw_proxy.specs.declared.recorded.Side.TheVariants.{Client, Server}
use Rattle.pgw_proxy.specs.declared.recorded.Recorded.{Recorded}
use Rattle.pgw_proxy.specs.declared.fault.RecordFault.{RecordFault}
use Rattle.pgw_proxy.specs.declared.fault.RecordFault.TheVariants as fault
use Rattle.pgw_proxy.specs.Context.{first}
use Rattle.pgw_proxy.specs.Fronts.{side_front}
use Rattle.pgw_proxy.specs.Record.{RelayMessage, passed, side_of, relay_entry, record_of}
use Rattle.pgw_proxy.specs.Proxied.{SideEvent, SideEnding, Waits, Fails, SideTakes, waits, fails, breaks, passes, ProxyPlace, RelayCourse, Going, Stopped, side_course, Proxied, begins, goes, stays}
use Rattle.pgw_proxy.specs.Reading.{Holds, held_by, entry_at, one_of, message_in, message_first, ReadsRelayRecord, ends, missing, astray, garbled, reads, IsRelayReadAs}
use Rattle.pgw_proxy.specs.ReadingSteps.{Finds, Becomes, all_before, ReadOn}
use Rattle.pgw_proxy.proofs.MetLaws.{met}

-- ---- one record

-- what is left is shorter
held_shorter : (side : Side) (bytes : List ℕ) (s : Side) (g rest : List ℕ) → held_by side bytes ≡ Holds s g rest
    → length rest ≤ length bytes
held_shorter side bytes s g rest is = elim (chosen (ltb (length bytes) 4) _ _ _ is) [
  | inl h ↦ absurd cc
  | inr h ↦ elim (chosen (ltb (length bytes) (4 + length_at 0 bytes)) _ _ _ h.1) [
    | inl k ↦ absurd cc
    | inr k ↦
        let e = k.1 in
        let same : drop (4 + length_at 0 bytes) bytes ≡ rest = cc in
        omega (arith, ap length same, length-drop (4 + length_at 0 bytes) bytes)
  ]
]

pub entry_shorter : (bytes : List ℕ) (side : Side) (g rest : List ℕ) → entry_at bytes ≡ Holds side g rest
    → length rest < length bytes
unfolding entry_at
entry_shorter [] side g rest is = absurd cc
entry_shorter (d ∷ bytes) side g rest is = elim (chosen (eqb d 0) _ _ _ is) [
  | inl h ↦ let le = held_shorter Client bytes side g rest h.1 in omega (arith, le)
  | inr h ↦ elim (chosen (eqb d 1) _ _ _ h.1) [
    | inl k ↦ let le = held_shorter Server bytes side g rest k.1 in omega (arith, le)
    | inr k ↦ absurd cc
  ]
]

-- a record that was written holds its message
held_written : (side : Side) (g rest : List ℕ) → length g < 2 ^ 32
    → held_by side ((u32 (length g) ++ g) ++ rest) ≡ Holds side g rest
unfolding u32
held_written side g rest short =
    let head = to_be_bytes w32 (length g) in
    let bytes = (head ++ g) ++ rest in
    let four : length head ≡ 4 = refl in
    let flat : bytes ≡ head ++ (g ++ rest) = append_assoc head g rest in
    let size : length bytes ≡ 4 + (length g + length rest) =
    ap length flat ∙ length-append head (g ++ rest) ∙ ap (λ (n : ℕ). 4 + n) (length-append g rest) in
    let field : length_at 0 bytes ≡ length g =
    ap (from_be_bytes w32) (ap (take 4) flat ∙ take_at head (g ++ rest) 4 four)
    ∙ from_be_bytes-to_be_bytes_4 (length g) short in
    let one : ltb (length bytes) 4 ≡ false = le-ltb _ _ (omega (arith, size)) in
    let two : ltb (length bytes) (4 + length g) ≡ false = le-ltb _ _ (omega (arith, size)) in
    let count : 4 + length g - 4 ≡ length g = omega arith in
    let body : slice_range bytes 4 (4 + length g) ≡ g =
    ap (λ (k : ℕ). take k (drop 4 bytes)) count
    ∙ ap (λ (l : List ℕ). take (length g) l) (ap (drop 4) flat ∙ drop_at head (g ++ rest) 4 four)
    ∙ take_at g rest (length g) refl in
    let left : drop (4 + length g) bytes ≡ rest =
    drop_at (head ++ g) rest (4 + length g) (length-append head g) in
    rw (one, field, two) (ap (λ (l : List ℕ). Holds side l (drop (4 + length g) bytes)) body
    ∙ ap (Holds side g) left)

pub entry_written : (side : Side) (g rest : List ℕ) → length g < 2 ^ 32
    → entry_at (relay_entry side g ++ rest) ≡ Holds side g rest
unfolding entry_at relay_entry
entry_written Client g rest short = held_written Client g rest short
entry_written Server g rest short = held_written Server g rest short

-- ---- in one way

abbrev pair_of : Recorded → Context → Recorded × Context
pair_of m c = (m, c)

pub reads_once : (c : Context) (n : ℕ) (bytes : List ℕ) (a b : Result (List Recorded) RecordFault)
    → ReadsRelayRecord c n bytes a → ReadsRelayRecord c n bytes b → a ≡ b
unfolding entry_at
reads_once c n bytes a b (ends x k) (ends y j) = refl
reads_once c n bytes a b (ends x k) (missing y j bs ne none) = absurd (ne refl)
reads_once c n bytes a b (ends x k) (astray y j bs d is) = absurd cc
reads_once c n bytes a b (ends x k) (garbled y j bs g rest side is none) = absurd cc
reads_once c n bytes a b (ends x k) (reads y next j bs g rest side m others is some on) = absurd cc
reads_once c n bytes a b (missing x k bs ne none) (ends y j) = absurd (ne refl)
reads_once c n bytes a b (missing x k bs ne none) (missing y j ds other is) = refl
reads_once c n bytes a b (missing x k bs ne none) (astray y j ds d is) = absurd cc
reads_once c n bytes a b (missing x k bs ne none) (garbled y j ds g rest side is no_one) = absurd cc
reads_once c n bytes a b (missing x k bs ne none) (reads y next j ds g rest side m others is some on) = absurd cc
reads_once c n bytes a b (astray x k bs d at) (ends y j) = absurd cc
reads_once c n bytes a b (astray x k bs d at) (missing y j ds ne none) = absurd cc
reads_once c n bytes a b (astray x k bs d at) (astray y j ds e is) =
    let same : d ≡ e = cc in ap (λ (z : ℕ). Err (fault.BadDirection n z)) same
reads_once c n bytes a b (astray x k bs d at) (garbled y j ds g rest side is none) = absurd cc
reads_once c n bytes a b (astray x k bs d at) (reads y next j ds g rest side m others is some on) = absurd cc
reads_once c n bytes a b (garbled x k bs g rest side at none) (ends y j) = absurd cc
reads_once c n bytes a b (garbled x k bs g rest side at none) (missing y j ds ne is) = absurd cc
reads_once c n bytes a b (garbled x k bs g rest side at none) (astray y j ds d is) = absurd cc
reads_once c n bytes a b (garbled x k bs g rest side at none) (garbled y j ds h left s is no_one) = refl
reads_once c n bytes a b (garbled x k bs g rest side at none) (reads y next j ds h left s m others is some on) =
    let sides : side ≡ s = cc in
    let same : g ≡ h = cc in
    let e = rw (sides, same) at none in
    absurd cc
reads_once c n bytes a b (reads x next k bs g rest side m others at some on) (ends y j) = absurd cc
reads_once c n bytes a b (reads x next k bs g rest side m others at some on) (missing y j ds ne is) = absurd cc
reads_once c n bytes a b (reads x next k bs g rest side m others at some on) (astray y j ds d is) = absurd cc
reads_once c n bytes a b (reads x next k bs g rest side m others at some on) (garbled y j ds h left s is none) =
    let sides : side ≡ s = cc in
    let same : g ≡ h = cc in
    let e = rw (sides, same) at some in
    absurd cc
reads_once c n bytes a b (reads x next k bs g rest side m others at some on)
    (reads y next2 j ds h left s m2 others2 is some2 on2) =
    let sides : side ≡ s = cc in
    let same : g ≡ h = cc in
    let behind : rest ≡ left = cc in
    let e = rw (sides, same) at some in
    let both : pair_of m next ≡ pair_of m2 next2 = cc in
    let one : m ≡ m2 = ap (λ (x : Recorded × Context). x.0) both in
    let contexts : next ≡ next2 = ap (λ (x : Recorded × Context). x.1) both in
    let moved_on : ReadsRelayRecord next (n + 1) rest others2 =
    subst (λ (d : Context). ReadsRelayRecord d (n + 1) rest others2) (sym contexts)
    (subst (λ (l : List ℕ). ReadsRelayRecord next2 (n + 1) l others2) (sym behind) on2) in
    ap (message_first m) (reads_once next (n + 1) rest others others2 on moved_on)
    ∙ ap (λ (z : Recorded). message_first z others2) one

-- ---- what was recorded

-- in these contexts, one behind the other, each message stands alone
data Follow : Context → List RelayMessage → Context → Type 0 where
  none : (c : Context) → Follow c [] c
  one : (c mid next : Context) (m : Recorded) (g : List ℕ) (more : List RelayMessage) → length g < 2 ^ 32
      → side_front (side_of m) c g ≡ Ok (Some (m, ([], mid))) → Follow mid more next
      → Follow c (passed m g ∷ more) next

follow_append : (a b c : Context) (xs ys : List RelayMessage) → Follow a xs b → Follow b ys c
    → Follow a (xs ++ ys) c
follow_append a b c xs ys (none x) on = on
follow_append a b c xs ys (one x mid next m g more short found f) on =
    one a mid c m g (more ++ ys) short found (follow_append mid b c more ys f on)

abbrev IsThere : Context → SideEnding → Type 0
IsThere c (Waits d rest) = c ≡ d
IsThere c (Fails why) = Unit {0}

takes_follow : (side : Side) (c : Context) (bytes : List ℕ) (ms : List RelayMessage) (there : SideEnding)
    → SideTakes side c bytes ms there → (next : Context) × Follow c ms next × IsThere next there
takes_follow side c bytes ms there (waits x y is) = (c, none c, refl)
takes_follow side c bytes ms there (fails x y why bad) = (c, none c, tt)
takes_follow side c bytes ms there (breaks x y) = (c, none c, tt)
takes_follow side c bytes ms there (passes x mid y g rest m more z cut found takes) =
    let on = takes_follow side mid rest more there takes in
    let h = met side c bytes rest m mid found in
    let same : g ≡ h.g = append_cancel_right g h.g rest (sym cut ∙ h.cut) in
    let alone : side_front side c g ≡ Ok (Some (m, ([], mid))) =
    ap (side_front side c) (same ∙ sym (append-nil h.g)) ∙ h.again [] in (
      on.0,
      one c mid on.0 m g more (omega (arith, h.short, ap length same))
          (ap (λ (s : Side). side_front s c g) h.owner
          ∙ alone) on.1,
      on.2,
    )

abbrev IsIn : Context → RelayCourse → Type 0
IsIn c (Going p) = c ≡ p.context
IsIn c (Stopped why) = Unit {0}

moved_in : (side : Side) (p : ProxyPlace) (there : SideEnding) (c : Context) → IsThere c there
    → IsIn c (side_course side p there)
moved_in Client p (Waits d rest) c is = is
moved_in Server p (Waits d rest) c is = is
moved_in Client p (Fails why) c is = tt
moved_in Server p (Fails why) c is = tt

proxied_follow : (events : List SideEvent) (ms : List RelayMessage) (course : RelayCourse)
    → Proxied events ms course → (next : Context) × Follow first ms next × IsIn next course
proxied_follow events ms course begins = (first, none first, refl)
proxied_follow events ms course (goes es xs more p side piece there proxied takes) =
    let so_far = proxied_follow es xs (Going p) proxied in
    let on = takes_follow side p.context _ more there takes in
    let from : Follow so_far.0 more on.0 = subst (λ (c : Context). Follow c more on.0) (sym so_far.2) on.1 in
    (on.0, follow_append first so_far.0 on.0 xs more so_far.1 from, moved_in side p there on.0 on.2)
proxied_follow events ms course (stays es xs why side piece proxied) =
    let so_far = proxied_follow es xs (Stopped why) proxied in
    (so_far.0, so_far.1, tt)

one_alone : (side : Side) (c next : Context) (g : List ℕ) (m : Recorded)
    → side_front side c g ≡ Ok (Some (m, ([], next))) → message_in side c g ≡ Some (m, next)
one_alone side c next g m found = ap one_of found

follow_reads : (c next : Context) (n : ℕ) (ms : List RelayMessage) → Follow c ms next
    → ReadsRelayRecord c n (record_of ms) (Ok (map (λ x. x.message) ms))
follow_reads c next n ms (none x) = ends c n
follow_reads c next n ms (one x mid y m g more short found f) =
    reads c mid n (relay_entry (side_of m) g ++ record_of more) g (record_of more) (side_of m) m
    (Ok (map (λ x. x.message) more)) (entry_written (side_of m) g (record_of more) short)
    (one_alone (side_of m) c mid g m found) (follow_reads mid next (n + 1) more f)

pub record_reads : (events : List SideEvent) (ms : List RelayMessage) (course : RelayCourse)
    → Proxied events ms course → ReadsRelayRecord first 0 (record_of ms) (Ok (map (λ x. x.message) ms))
record_reads events ms course proxied =
    let f = proxied_follow events ms course proxied in
    follow_reads first f.0 0 ms f.1

-- ---- one step after the other

pub read_as : (bytes : List ℕ) (f : RecordFault)
    → (f ≡ fault.OutOfMemory) ⊎ ReadsRelayRecord first 0 bytes (Err f) → IsRelayReadAs bytes (Err f)
read_as bytes fault.OutOfMemory h = tt
read_as bytes (fault.Truncated k) (inl is) = absurd cc
read_as bytes (fault.Truncated k) (inr h) = h
read_as bytes (fault.BadDirection k d) (inl is) = absurd cc
read_as bytes (fault.BadDirection k d) (inr h) = h
read_as bytes (fault.BadMessage k) (inl is) = absurd cc
read_as bytes (fault.BadMessage k) (inr h) = h

-- what the rest is refused for, all is
pub faulty : (bytes rest : List ℕ) (ms : List Recorded) (c : Context) (n : ℕ) (f : RecordFault)
    → ReadOn first 0 bytes ms c n rest → (f ≡ fault.OutOfMemory) ⊎ ReadsRelayRecord c n rest (Err f)
    → IsRelayReadAs bytes (Err f)
faulty bytes rest ms c n f on (inl is) = read_as bytes f (inl is)
faulty bytes rest ms c n f on (inr h) = read_as bytes f (inr (on (Err f) h))

pub entry_fault : (c : Context) (n : ℕ) (bytes : List ℕ) (f : RecordFault) → 0 < length bytes
    → Finds n (entry_at bytes) (Err f) → (f ≡ fault.OutOfMemory) ⊎ ReadsRelayRecord c n bytes (Err f)
entry_fault c n bytes (fault.Truncated k) some (same, is) =
    let ne : bytes ≢ [] = λ empty. absurd (omega (arith, some, ap length empty)) in
    inr (subst (λ (j : ℕ). ReadsRelayRecord c n bytes (Err (fault.Truncated j))) (sym same)
    (missing c n bytes ne is))
entry_fault c n bytes (fault.BadDirection k d) some (same, is) =
    inr (subst (λ (j : ℕ). ReadsRelayRecord c n bytes (Err (fault.BadDirection j d))) (sym same)
    (astray c n bytes d is))
entry_fault c n bytes (fault.BadMessage k) some h = absurd h
entry_fault c n bytes fault.OutOfMemory some h = absurd h

pub message_fault : (c next : Context) (n : ℕ) (bytes g rest : List ℕ) (side : Side) (f : RecordFault)
    → entry_at bytes ≡ Holds side g rest → Becomes side c g next n (Err f)
    → (f ≡ fault.OutOfMemory) ⊎ ReadsRelayRecord c n bytes (Err f)
message_fault c next n bytes g rest side fault.OutOfMemory is h = inl refl
message_fault c next n bytes g rest side (fault.BadMessage k) is (same, nothing) =
    inr (subst (λ (j : ℕ). ReadsRelayRecord c n bytes (Err (fault.BadMessage j))) (sym same)
    (garbled c n bytes g rest side is nothing))
message_fault c next n bytes g rest side (fault.Truncated k) is h = absurd h
message_fault c next n bytes g rest side (fault.BadDirection k d) is h = absurd h

one_behind : (ms : List Recorded) (m : Recorded) (others : Result (List Recorded) RecordFault)
    → all_before ms (message_first m others) ≡ all_before (ms ++ m ∷ []) others
one_behind ms m (Ok xs) = ap (λ (l : List Recorded). Ok l) (sym (append_assoc ms (m ∷ []) xs))
one_behind ms m (Err f) = refl

pub read_start : (c : Context) (n : ℕ) (bytes : List ℕ) → ReadOn c n bytes [] c n bytes
read_start c n bytes (Ok xs) reads_on = reads_on
read_start c n bytes (Err f) reads_on = reads_on

pub read_one_more : (bytes rest g left : List ℕ) (ms ms2 : List Recorded) (c next : Context) (n : ℕ) (side : Side)
    (m : Recorded)
    → ReadOn first 0 bytes ms c n rest → entry_at rest ≡ Holds side g left → message_in side c g ≡ Some (m, next)
    → ms2 ≡ ms ++ m ∷ [] → ReadOn first 0 bytes ms2 next (n + 1) left
read_one_more bytes rest g left ms ms2 c next n side m on is some more others reads_on =
    subst (λ (l : List Recorded). ReadsRelayRecord first 0 bytes (all_before l others)) (sym more)
    (subst (λ (r : Result (List Recorded) RecordFault). ReadsRelayRecord first 0 bytes r) (one_behind ms m others)
    (on (message_first m others) (reads c next n rest g left side m others is some reads_on)))

pub read_all : (bytes rest : List ℕ) (ms : List Recorded) (c : Context) (n : ℕ) → ReadOn first 0 bytes ms c n rest
    → length rest ≤ 0 → ReadsRelayRecord first 0 bytes (Ok ms)
read_all bytes rest ms c n on over =
    let empty : rest ≡ [] = nil_from_length rest (omega (arith, over)) in
    subst (λ (l : List Recorded). ReadsRelayRecord first 0 bytes (Ok l)) (append-nil ms)
    (on (Ok []) (subst (λ (l : List ℕ). ReadsRelayRecord c n l (Ok [])) (sym empty) (ends c n)))

-- ---- what was recorded is read back

back : (bytes : List ℕ) (answer : Result (List Recorded) RecordFault) → ReadsRelayRecord first 0 bytes answer
    → (events : List SideEvent) (ms : List RelayMessage) (course : RelayCourse) → Proxied events ms course
    → bytes ≡ record_of ms → answer ≡ Ok (map (λ x. x.message) ms)
back bytes answer is events ms course proxied same =
    reads_once first 0 bytes answer (Ok (map (λ x. x.message) ms)) is
    (subst (λ (b : List ℕ). ReadsRelayRecord first 0 b (Ok (map (λ x. x.message) ms))) (sym same)
    (record_reads events ms course proxied))

pub back_of : (bytes : List ℕ) (answer : Result (List Recorded) RecordFault) → IsRelayReadAs bytes answer
    → (events : List SideEvent) (ms : List RelayMessage) (course : RelayCourse) → Proxied events ms course
    → bytes ≡ record_of ms
    → (answer ≡ Ok (map (λ x. x.message) ms)) ⊎ (answer ≡ Err fault.OutOfMemory)
back_of bytes (Err fault.OutOfMemory) is events ms course proxied same = inr refl
back_of bytes (Ok xs) is events ms course proxied same = inl (back bytes (Ok xs) is events ms course proxied same)
back_of bytes (Err (fault.Truncated k)) is events ms course proxied same =
    inl (back bytes (Err (fault.Truncated k)) is events ms course proxied same)
back_of bytes (Err (fault.BadDirection k d)) is events ms course proxied same =
    inl (back bytes (Err (fault.BadDirection k d)) is events ms course proxied same)
back_of bytes (Err (fault.BadMessage k)) is events ms course proxied same =
    inl (back bytes (Err (fault.BadMessage k)) is events ms course proxied same)
