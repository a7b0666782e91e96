-- What the bytes of a side come to, from one message to the next.
use Rattle.std.proofs.Common.{◌≡◌, ◌⊎◌, inl, inr, ℕ, ◌+◌, ◌-◌, ◌<◌, ◌≤◌, List, [], ◌∷◌, ◌++◌, length, slice_range, drop, Some, None, Result, Ok, Err, refl, sym, ap, subst, ◌∙◌, arith, append_assoc, length-append}
use Rattle.std.specs.Prelude.{◌≢◌}
use Rattle.std.proofs.lemmas.List.{append-nil, append_cancel_right, drop_at}
use Rattle.std.proofs.lemmas.List.Folds.{drop_split}
use Rattle.std.proofs.lemmas.Grind.{flat_map-append}
use Rattle.pgw_proxy.specs.declared.context.Context.{Context}
use Rattle.pgw_proxy.specs.declared.recorded.Side.{Side}
use Rattle.pgw_proxy.specs.declared.recorded.Recorded.{Recorded}
use Rattle.pgw_proxy.specs.declared.recorded.Recorded.TheVariants as recorded
use Rattle.pgw_proxy.specs.declared.fault.ProxyFault.{ProxyFault}
use Rattle.pgw_proxy.specs.declared.fault.ProxyFault.TheVariants as fault
use Rattle.pgw_proxy.specs.Fronts.{side_front}
use Rattle.pgw_proxy.specs.Record.{RelayMessage, passed, side_of, of_side, side_bytes, relay_entry, record_of}
use Rattle.pgw_proxy.specs.Proxied.{SideEnding, Waits, Fails, SideTakes, waits, fails, breaks, passes, relay_answer}
use Rattle.pgw_proxy.specs.Taking.{IsCutOf, RelayLeaves, SideRelayed, RelaysUpTo}
use Rattle.pgw_proxy.proofs.MetLaws.{Met}

pub memory_or : (f : ProxyFault) → (f ≡ fault.OutOfMemory) ⊎ (f ≢ fault.OutOfMemory)
memory_or fault.OutOfMemory = inl refl
memory_or f = inr (λ is. cc)

-- ---- lists of messages

pub joined_append : (side : Side) (xs ys : List RelayMessage)
    → side_bytes side (xs ++ ys) ≡ side_bytes side xs ++ side_bytes side ys
joined_append side xs ys = flat_map-append (λ m. of_side side m.message m.bytes) xs ys

pub record_append : (xs ys : List RelayMessage) → record_of (xs ++ ys) ≡ record_of xs ++ record_of ys
record_append xs ys = flat_map-append (λ m. relay_entry (side_of m.message) m.bytes) xs ys

own_bytes : (m : Recorded) (g : List ℕ) → of_side (side_of m) m g ≡ g
own_bytes (recorded.Frontend m) g = refl
own_bytes (recorded.Backend m) g = refl

pub joined_one : (side : Side) (m : Recorded) (g : List ℕ) → side_of m ≡ side
    → side_bytes side (passed m g ∷ []) ≡ g
joined_one side m g owner =
    append-nil (of_side side m g) ∙ ap (λ (s : Side). of_side s m g) (sym owner) ∙ own_bytes m g

pub record_one : (side : Side) (m : Recorded) (g : List ℕ) → side_of m ≡ side
    → record_of (passed m g ∷ []) ≡ relay_entry side g
record_one side m g owner = append-nil (relay_entry (side_of m) g) ∙ ap (λ (s : Side). relay_entry s g) owner

-- behind what was put out before, what is put out now
out_on : (old mid new a b both : List ℕ) → both ≡ a ++ b → mid ≡ old ++ a → new ≡ mid ++ b → new ≡ old ++ both
out_on old mid new a b both is one two =
    two ∙ ap (λ (l : List ℕ). l ++ b) one ∙ append_assoc old a b ∙ ap (λ (l : List ℕ). old ++ l) (sym is)

-- ---- where it ends

module _ (side : Side) where
  pub ran_none : (c next : Context) (bytes left out tape : List ℕ) → next ≡ c → left ≡ bytes
      → side_front side c bytes ≡ Ok None → SideRelayed side c bytes next left out out tape tape (Ok tt)
  ran_none c next bytes left out tape same stays none = record {
    messages = [];
    there = Waits c bytes;
    takes = waits c bytes none;
    leaves = (same, stays);
    out = sym (append-nil out);
    tape = sym (append-nil tape);
    says = refl;
  }

  pub ran_broken_at : (c next : Context) (bytes left out_old out_new tape_old tape_new : List ℕ)
      → out_new ≡ out_old → tape_new ≡ tape_old
      → SideRelayed side c bytes next left out_old out_new tape_old tape_new (Err fault.OutOfMemory)
  ran_broken_at c next bytes left out_old out_new tape_old tape_new one two = record {
    messages = [];
    there = Fails fault.OutOfMemory;
    takes = breaks c bytes;
    leaves = tt;
    out = one ∙ sym (append-nil out_old);
    tape = two ∙ sym (append-nil tape_old);
    says = refl;
  }

  pub ran_broken : (c next : Context) (bytes left out tape : List ℕ)
      → SideRelayed side c bytes next left out out tape tape (Err fault.OutOfMemory)
  ran_broken c next bytes left out tape = ran_broken_at c next bytes left out out tape tape refl refl

  pub ran_fault : (c next : Context) (bytes left out tape : List ℕ) (f : ProxyFault)
      → (f ≢ fault.OutOfMemory → side_front side c bytes ≡ Err f)
      → SideRelayed side c bytes next left out out tape tape (Err f)
  ran_fault c next bytes left out tape f bad = elim (memory_or f) [
    | inl is ↦ subst (λ (g : ProxyFault). SideRelayed side c bytes next left out out tape tape (Err g)) (sym is)
        (ran_broken c next bytes left out tape)
    | inr ne ↦ record {
      messages = [];
      there = Fails f;
      takes = fails c bytes f (bad ne);
      leaves = tt;
      out = sym (append-nil out);
      tape = sym (append-nil tape);
      says = refl;
    }
  ]

  -- ---- one message after the other

  pub runs_start : (c : Context) (bytes out tape : List ℕ) → RelaysUpTo side c bytes c bytes out out tape tape
  runs_start c bytes out tape = record {
    messages = [];
    cut = ([], refl);
    on = λ more there takes. takes;
    out = sym (append-nil out);
    tape = sym (append-nil tape);
  }

  -- one message
  pub runs_one : (c next : Context) (bytes rest out_old out_new tape_old tape_new : List ℕ) (m : Recorded)
      (h : Met side c bytes rest m next)
      → side_front side c bytes ≡ Ok (Some (m, (rest, next)))
      → out_new ≡ out_old ++ h.g → tape_new ≡ tape_old ++ relay_entry side h.g
      → RelaysUpTo side c bytes next rest out_old out_new tape_old tape_new × (length rest < length bytes)
  runs_one c next bytes rest out_old out_new tape_old tape_new m h found out tape = (
    record {
      messages = passed m h.g ∷ [];
      cut = (h.g, h.cut);
      on = λ more there takes. passes c next bytes h.g rest m more there h.cut found takes;
      out = out ∙ ap (λ (l : List ℕ). out_old ++ l) (sym (joined_one side m h.g h.owner));
      tape = tape ∙ ap (λ (l : List ℕ). tape_old ++ l) (sym (record_one side m h.g h.owner));
    },
    omega (arith, ap length h.cut, length-append h.g rest, h.some),
  )

  -- one run after the other
  pub runs_then : (c mid next : Context)
      (bytes left rest out_old out_mid out_new tape_old tape_mid tape_new : List ℕ)
      → RelaysUpTo side c bytes mid left out_old out_mid tape_old tape_mid
      → RelaysUpTo side mid left next rest out_mid out_new tape_mid tape_new
      → RelaysUpTo side c bytes next rest out_old out_new tape_old tape_new
  runs_then c mid next bytes left rest out_old out_mid out_new tape_old tape_mid tape_new a b = record {
    messages = a.messages ++ b.messages;
    cut = (
      a.cut.0 ++ b.cut.0,
      a.cut.1 ∙ ap (λ (l : List ℕ). a.cut.0 ++ l) b.cut.1
          ∙ sym (append_assoc a.cut.0 b.cut.0 rest),
    );
    on = λ more there takes. subst (λ (ms : List RelayMessage). SideTakes side c bytes ms there)
        (sym (append_assoc a.messages b.messages more)) (a.on (b.messages ++ more) there (b.on more there takes));
    out = out_on out_old out_mid out_new (side_bytes side a.messages) (side_bytes side b.messages)
        (side_bytes side (a.messages ++ b.messages)) (joined_append side a.messages b.messages) a.out b.out;
    tape = out_on tape_old tape_mid tape_new (record_of a.messages) (record_of b.messages)
        (record_of (a.messages ++ b.messages)) (record_append a.messages b.messages) a.tape b.tape;
  }

  pub ran_behind : (c mid next : Context)
      (bytes left rest out_old out_mid out_new tape_old tape_mid tape_new : List ℕ)
      (answer : Result (Unit {0}) ProxyFault)
      → RelaysUpTo side c bytes mid left out_old out_mid tape_old tape_mid
      → SideRelayed side mid left next rest out_mid out_new tape_mid tape_new answer
      → SideRelayed side c bytes next rest out_old out_new tape_old tape_new answer
  ran_behind c mid next bytes left rest out_old out_mid out_new tape_old tape_mid tape_new answer runs ran =
      record {
        messages = runs.messages ++ ran.messages;
        there = ran.there;
        takes = runs.on ran.messages ran.there ran.takes;
        leaves = ran.leaves;
        out = out_on out_old out_mid out_new (side_bytes side runs.messages) (side_bytes side ran.messages)
            (side_bytes side (runs.messages ++ ran.messages)) (joined_append side runs.messages ran.messages) runs.out
            ran.out;
        tape = out_on tape_old tape_mid tape_new (record_of runs.messages) (record_of ran.messages)
            (record_of (runs.messages ++ ran.messages)) (record_append runs.messages ran.messages) runs.tape ran.tape;
        says = ran.says;
      }

  -- memory may run out behind the last message
  takes_broken : (c : Context) (bytes : List ℕ) (ms : List RelayMessage) (there : SideEnding)
      → SideTakes side c bytes ms there → SideTakes side c bytes ms (Fails fault.OutOfMemory)
  takes_broken c bytes ms there (waits x y none) = breaks c bytes
  takes_broken c bytes ms there (fails x y why bad) = breaks c bytes
  takes_broken c bytes ms there (breaks x y) = breaks c bytes
  takes_broken c bytes ms there (passes x next y g rest m more z cut found takes) =
      passes c next bytes g rest m more (Fails fault.OutOfMemory) cut found
      (takes_broken next rest more there takes)

  pub ran_then_broken : (c next other : Context) (bytes left rest out_old out_new tape_old tape_new : List ℕ)
      (answer : Result (Unit {0}) ProxyFault)
      → SideRelayed side c bytes next left out_old out_new tape_old tape_new answer
      → SideRelayed side c bytes other rest out_old out_new tape_old tape_new (Err fault.OutOfMemory)
  ran_then_broken c next other bytes left rest out_old out_new tape_old tape_new answer ran = record {
    messages = ran.messages;
    there = Fails fault.OutOfMemory;
    takes = takes_broken c bytes ran.messages ran.there ran.takes;
    leaves = tt;
    out = ran.out;
    tape = ran.tape;
    says = refl;
  }

  -- after a fault it does not matter what is left
  pub ran_failed : (c next other : Context) (bytes left rest out_old out_new tape_old tape_new : List ℕ)
      (f : ProxyFault)
      → SideRelayed side c bytes next left out_old out_new tape_old tape_new (Err f)
      → SideRelayed side c bytes other rest out_old out_new tape_old tape_new (Err f)
  ran_failed c next other bytes left rest out_old out_new tape_old tape_new f ran = record {
    messages = ran.messages;
    there = ran.there;
    takes = ran.takes;
    leaves = leaves_any ran.there ran.says;
    out = ran.out;
    tape = ran.tape;
    says = ran.says;
  }
    where
      leaves_any : (there : SideEnding) → Err f ≡ relay_answer there → RelayLeaves other rest there
      leaves_any (Waits x y) is = absurd cc
      leaves_any (Fails why) is = tt

pub ran_same : (side : Side) (c next : Context)
    (bytes bytes2 left left2 out_old out_new tape_old tape_new : List ℕ) (answer : Result (Unit {0}) ProxyFault)
    → bytes ≡ bytes2 → left ≡ left2
    → SideRelayed side c bytes next left out_old out_new tape_old tape_new answer
    → SideRelayed side c bytes2 next left2 out_old out_new tape_old tape_new answer
ran_same side c next bytes bytes2 left left2 out_old out_new tape_old tape_new answer one two ran =
    subst (λ (b : List ℕ). SideRelayed side c b next left2 out_old out_new tape_old tape_new answer) one
    (subst (λ (l : List ℕ). SideRelayed side c bytes next l out_old out_new tape_old tape_new answer) two ran)

-- ---- places

-- what is left where it waits is the end of the bytes
takes_cut : (side : Side) (c next : Context) (bytes rest : List ℕ) (ms : List RelayMessage) (there : SideEnding)
    → there ≡ Waits next rest → SideTakes side c bytes ms there → IsCutOf bytes rest
takes_cut side c next bytes rest ms there is (waits x y none) = let same : bytes ≡ rest = cc in ([], same)
takes_cut side c next bytes rest ms there is (fails x y why bad) = absurd cc
takes_cut side c next bytes rest ms there is (breaks x y) = absurd cc
takes_cut side c next bytes rest ms there is (passes x mid y g left m more z cut found takes) =
    let on = takes_cut side mid next left rest more there is takes in
    (g ++ on.0, cut ∙ ap (λ (l : List ℕ). g ++ l) on.1 ∙ sym (append_assoc g on.0 rest))

waits_at : (next : Context) (left : List ℕ) (there : SideEnding) → Ok tt ≡ relay_answer there
    → RelayLeaves next left there → there ≡ Waits next left
waits_at next left (Waits c rest) is leaves =
    ap (λ (d : Context). Waits d rest) (sym leaves.0) ∙ ap (Waits next) (sym leaves.1)
waits_at next left (Fails why) is leaves = absurd cc

pub ran_cut : (side : Side) (c next : Context) (bytes left out_old out_new tape_old tape_new : List ℕ)
    → SideRelayed side c bytes next left out_old out_new tape_old tape_new (Ok tt) → IsCutOf bytes left
ran_cut side c next bytes left out_old out_new tape_old tape_new ran =
    takes_cut side c next bytes left ran.messages ran.there (waits_at next left ran.there ran.says ran.leaves)
    ran.takes

-- the bytes of the message that was taken
pub piece_is : (bytes taken g rest : List ℕ) → bytes ≡ taken ++ (g ++ rest)
    → slice_range bytes (length bytes - length (g ++ rest)) (length bytes - length rest) ≡ g
piece_is bytes taken g rest is =
    let size : length bytes ≡ length taken + (length g + length rest) =
    ap length is ∙ length-append taken (g ++ rest)
    ∙ ap (λ (n : ℕ). length taken + n) (length-append g rest) in
    let start : length bytes - length (g ++ rest) ≡ length taken = omega (arith, size, length-append g rest) in
    let end : length bytes - length rest ≡ length (taken ++ g) = omega (arith, size, length-append taken g) in
    let split =
    drop_split bytes (length bytes - length (g ++ rest)) (length bytes - length rest)
    (omega (arith, start, end, length-append taken g)) in
    let left : drop (length bytes - length (g ++ rest)) bytes ≡ g ++ rest =
    ap (drop (length bytes - length (g ++ rest))) is
    ∙ drop_at taken (g ++ rest) (length bytes - length (g ++ rest)) (sym start) in
    let behind : drop (length bytes - length rest) bytes ≡ rest =
    ap (drop (length bytes - length rest)) (is ∙ sym (append_assoc taken g rest))
    ∙ drop_at (taken ++ g) rest (length bytes - length rest) (sym end) in
    let piece = slice_range bytes (length bytes - length (g ++ rest)) (length bytes - length rest) in
    append_cancel_right piece g rest (ap (λ (l : List ℕ). piece ++ l) (sym behind) ∙ sym split ∙ left)

pub bytes_are : (bytes left rest a b g : List ℕ) → IsCutOf bytes left → left ≡ g ++ rest → a ≡ left → b ≡ rest
    → slice_range bytes (length bytes - length a) (length bytes - length b) ≡ g
bytes_are bytes left rest a b g cut is one two =
    ap (λ (l : List ℕ). slice_range bytes (length bytes - length l) (length bytes - length b)) (one ∙ is)
    ∙ ap (λ (l : List ℕ). slice_range bytes (length bytes - length (g ++ rest)) (length bytes - length l)) two
    ∙ piece_is bytes cut.0 g rest (cut.1 ∙ ap (λ (l : List ℕ). cut.0 ++ l) is)

-- what is left, once the bytes before it are passed
pub left_is : (bytes left : List ℕ) (n : ℕ) → IsCutOf bytes left → n ≡ length bytes
    → drop (n - length left) bytes ≡ left
left_is bytes left n cut is =
    let k : length cut.0 ≡ n - length left = omega (arith, is, ap length cut.1, length-append cut.0 left) in
    ap (drop (n - length left)) cut.1 ∙ drop_at cut.0 left (n - length left) k

pub left_within : (bytes left : List ℕ) (n : ℕ) → IsCutOf bytes left → n ≡ length bytes → length left ≤ n
left_within bytes left n cut is = omega (arith, is, ap length cut.1, length-append cut.0 left)
