-- A front of a message is no message yet.
use Rattle.std.proofs.Common.{◌≡◌, ◌⊎◌, inl, inr, ◌<◌, ◌≤◌, ℕ, zero, suc, ◌-◌, List, [], ◌∷◌, ◌++◌, length, take, drop, refl, sym, ap, subst, ◌∙◌, arith, append_assoc, length-drop}
use Rattle.std.proofs.lemmas.List.{append-nil, take-append-le, take-append-drop, length-take-le, drop-append-le, nil_from_length}
use Rattle.std.proofs.Math.Seq.{take-append-add}
use Rattle.std.proofs.lemmas.Bool.{cases_lt}
use Rattle.pgw_machine.specs.Course.{Front, More, Bad, Whole, IsReading, Move, On, Ends, Course, Waits, Over, Rules, IsSteady, onto, eat, feed, run}
use Rattle.pgw_machine.specs.Play.{Play, ReadsSteadily, Leads, waits, stops, breaks, ends, goes, course_behind, play_of}
use Rattle.pgw_machine.proofs.CourseLaws.{known, is_more, is_bad, is_whole, read_more}
use Rattle.pgw_machine.proofs.PlayLaws.{leads_run}
use Rattle.pgw_machine.specs.Fronts.{IsReadAs, Deed, deed, deeds_in, TakesFront, awaits, breaks_off, ends_by, goes_by}

len_of : {M E : Type 0} → Front M E → ℕ
len_of More = 0
len_of (Bad why) = 0
len_of (Whole m n) = n

pub fronts_wait : {M E : Type 0} (read : List ℕ → Front M E) (g front more : List ℕ) (m : M) → IsReading read
    → IsReadAs read g m → g ≡ front ++ more → length front < length g → read front ≡ More
unfolding len_of
fronts_wait read g front more m is reads cut short =
    let all : read (front ++ more) ≡ Whole m (length g) = ap read (sym cut ∙ sym (append-nil g)) ∙ reads [] in
    elim (known (read front)) [
      | is_more k ↦ k
      | is_bad why k ↦ let h = is.bad front more why k in absurd cc
      | is_whole n len k ↦
          let h = read_more read is front more n len k in
          let same : length g ≡ len = ap len_of (sym all ∙ h) in
          let within = is.within front n len k in
          absurd (omega (arith, same, within, short))
    ]

-- ---- some bytes of a message and of others behind it

-- not all of it
taken_short : (g rest : List ℕ) (count : ℕ) → count < length g → take count (g ++ rest) ≡ take count g
taken_short g rest count short = take-append-le count g rest (omega (arith, short))

taken_long : (g rest : List ℕ) (count : ℕ) → length g ≤ count
    → take count (g ++ rest) ≡ g ++ take (count - length g) rest
taken_long g rest count long =
    ap (λ n. take n (g ++ rest)) (omega (arith, long)) ∙ take-append-add g rest (count - length g)

short_read : {M E : Type 0} (read : List ℕ → Front M E) (g : List ℕ) (m : M) (count : ℕ) → IsReading read
    → IsReadAs read g m → count < length g → read (take count g) ≡ More
short_read read g m count is reads short =
    fronts_wait read g (take count g) (drop count g) m is reads (sym (take-append-drop count g))
    (omega (arith, length-take-le count g (omega (arith, short)), short))

long_read : {M E : Type 0} (read : List ℕ → Front M E) (g rest : List ℕ) (m : M) (count : ℕ) → IsReadAs read g m
    → length g ≤ count → read (take count (g ++ rest)) ≡ Whole m (length g)
long_read read g rest m count reads long =
    ap read (taken_long g rest count long) ∙ reads (take (count - length g) rest)

left_behind : (g rest : List ℕ) (count : ℕ) → length g ≤ count
    → drop (length g) (take count (g ++ rest)) ≡ take (count - length g) rest
left_behind g rest count long =
    ap (drop (length g)) (taken_long g rest count long)
    ∙ drop-append-le (length g) g (take (count - length g) rest) (omega arith)
    ∙ ap (λ (l : List ℕ). l ++ take (count - length g) rest) (drop_whole g)
  where
    drop_whole : (l : List ℕ) → drop (length l) l ≡ []
    drop_whole [] = refl
    drop_whole (x ∷ l) = drop_whole l

abbrev Shorter : {M E : Type 0} → Front M E → M → ℕ → Type 0
Shorter More m len = ⊥
Shorter (Bad why) m len = ⊥
Shorter (Whole n size) m len = (n ≡ m) × (size ≡ len)

whole_is : {M E : Type 0} (f : Front M E) (n m : M) (size len : ℕ) → f ≡ Whole n size → f ≡ Whole m len
    → (n ≡ m) × (size ≡ len)
whole_is f n m size len a b = subst (λ g. Shorter g m len) a (subst (λ g. Shorter g m len) (sym b) (refl, refl))

-- what is read there, of the bytes taken
read_there : {M E : Type 0} (read : List ℕ → Front M E) (g rest : List ℕ) (m : M) (count : ℕ) → IsReading read
    → IsReadAs read g m
    → ((count < length g) × (take count (g ++ rest) ≡ take count g) × (read (take count (g ++ rest)) ≡ More))
    ⊎ ((length g ≤ count) × (read (take count (g ++ rest)) ≡ Whole m (length g)))
read_there read g rest m count is reads = elim (cases_lt count (length g)) [
  | inl short ↦ inl (
    short,
    taken_short g rest count short,
    ap read (taken_short g rest count short)
        ∙ short_read read g m count is reads short,
  )
  | inr long ↦ inr (long, long_read read g rest m count reads long)
]

no_whole : {M E : Type 0} (f : Front M E) (m : M) (len : ℕ) → f ≡ More → f ≡ Whole m len → ⊥
no_whole f m len a b = let h = sym a ∙ b in absurd cc

no_bad : {M E : Type 0} (f : Front M E) (why : E) → f ≡ More → f ≡ Bad why → ⊥
no_bad f why a b = let h = sym a ∙ b in absurd cc

not_both : {M E : Type 0} (f : Front M E) (m : M) (len : ℕ) (why : E) → f ≡ Whole m len → f ≡ Bad why → ⊥
not_both f m len why a b = let h = sym a ∙ b in absurd cc

module _ {S R M E : Type 0} (play : Play S R M E) where
  -- the same step, of the same message
  deed_same : (s : S) (move : Move S R) (n m : M) (p : n ≡ m) (step : play.Steps s n move)
      → deed play s n move step ≡ deed play s m move (subst (λ x. play.Steps s x move) p step)
  deed_same s move n m p step = λ j. deed play s (p j) move (coe 0 j (i. play.Steps s (p i) move) step)

  -- the same way, of the same bytes
  pub deeds_same : (s : S) (course : Course S R) (a b : List ℕ) (p : a ≡ b) (leads : Leads play s a course)
      → deeds_in play s a course leads ≡ deeds_in play s b course
      (subst (λ (l : List ℕ). Leads play s l course) p leads)
  deeds_same s course a b p leads =
      λ j. deeds_in play s (p j) course (coe 0 j (i. Leads play s (p i) course) leads)

  -- from any bytes that are those
  pub taken_from : (steady : ReadsSteadily play) (s : S) (g : List ℕ) (m : M) (count : ℕ) (rest bytes : List ℕ)
      (course : Course S R)
      → IsReadAs (play.read s) g m → bytes ≡ take count (g ++ rest) → (leads : Leads play s bytes course)
      → TakesFront play s g m count rest course (deeds_in play s bytes course leads)
  taken_from steady s g m count rest bytes course reads are (waits state bs more) =
      elim (read_there (play.read s) g rest m count (steady s) reads) [
        | inl h ↦ subst (λ (l : List ℕ). TakesFront play s g m count rest (Waits s [] l) []) (sym (are
            ∙ h.1)) (awaits h.0)
        | inr h ↦ absurd (no_whole (play.read s bs) m (length g) more (ap (play.read s) are ∙ h.1))
      ]
  taken_from steady s g m count rest bytes course reads are (stops state bs why ending bad refuses) =
      elim (read_there (play.read s) g rest m count (steady s) reads) [
        | inl h ↦ absurd (no_bad (play.read s bs) why (ap (play.read s) are ∙ h.2) bad)
        | inr h ↦ absurd (not_both (play.read s bs) m (length g) why (ap (play.read s) are ∙ h.1) bad)
      ]
  taken_from steady s g m count rest bytes course reads are (breaks state bs ending b) = breaks_off ending b
  taken_from steady s g m count rest bytes course reads are (ends state bs n len ending out whole step) =
      elim (read_there (play.read s) g rest m count (steady s) reads) [
        | inl h ↦ absurd (no_whole (play.read s bs) n len (ap (play.read s) are ∙ h.2) whole)
        | inr h ↦
            let same = whole_is (play.read s bs) n m len (length g) whole (ap (play.read s) are ∙ h.1) in
            let step' : play.Steps s m (Ends ending out) =
            subst (λ x. play.Steps s x (Ends ending out)) same.0 step in
            subst (λ (d : Deed play). TakesFront play s g m count rest (Over ending out) (d ∷ []))
            (sym (deed_same s (Ends ending out) n m same.0 step)) (ends_by ending out h.0 step')
      ]
  taken_from steady s g m count rest bytes course reads are (goes state next bs n len out c whole step on) =
      elim (read_there (play.read s) g rest m count (steady s) reads) [
        | inl h ↦ absurd (no_whole (play.read s bs) n len (ap (play.read s) are ∙ h.2) whole)
        | inr h ↦
            let same = whole_is (play.read s bs) n m len (length g) whole (ap (play.read s) are ∙ h.1) in
            let left : drop len bs ≡ take (count - length g) rest =
            ap (λ k. drop k bs) same.1 ∙ ap (drop (length g)) are ∙ left_behind g rest count h.0 in
            let step' : play.Steps s m (On next out) = subst (λ x. play.Steps s x (On next out)) same.0 step in
            let on' : Leads play next (take (count - length g) rest) c =
            subst (λ (l : List ℕ). Leads play next l c) left on in
            let deeds = deeds_same next c (drop len bs) (take (count - length g) rest) left on in
            subst (λ (d : Deed play). TakesFront play s g m count rest (course_behind out c)
            (d ∷ deeds_in play next (drop len bs) c on)) (sym (deed_same s (On next out) n m same.0 step))
            (subst (λ (l : List (Deed play)). TakesFront play s g m count rest (course_behind out c)
            (deed play s m (On next out) step' ∷ l)) (sym deeds) (goes_by next out c h.0 step' on'))
      ]

  pub front_taken : (steady : ReadsSteadily play) (s : S) (g : List ℕ) (m : M) (count : ℕ) (rest : List ℕ)
      (course : Course S R)
      → IsReadAs (play.read s) g m → (leads : Leads play s (take count (g ++ rest)) course)
      → TakesFront play s g m count rest course (deeds_in play s (take count (g ++ rest)) course leads)
  front_taken steady s g m count rest course reads leads =
      taken_from steady s g m count rest (take count (g ++ rest)) course reads refl leads

-- ---- a function's machine leads where it runs

has_byte : {M E : Type 0} (read : List ℕ → Front M E) (bytes : List ℕ) (m : M) (len : ℕ) → IsReading read
    → read bytes ≡ Whole m len → 0 < len
has_byte read bytes m zero is e = absurd (no_whole (read []) m zero is.none (is.whole bytes [] m zero e))
has_byte read bytes m (suc len) is e = omega arith

onto_behind : {S R : Type 0} (out : List ℕ) (move : Move S R)
    → onto (out ++ []) move ≡ course_behind out (onto [] move)
onto_behind out (On state o) = ap (λ (l : List ℕ). Waits state (l ++ o) []) (append-nil out)
onto_behind out (Ends ending o) = ap (λ (l : List ℕ). Over ending (l ++ o)) (append-nil out)

module _ {S R M E : Type 0} (rules : Rules S R M E) (steady : IsSteady rules) where
  abbrev Led : S → List ℕ → Type 0
  Led s bytes = (course : Course S R) × Leads (play_of rules) s bytes course

  by_move : (fuel : ℕ) → ((next : S) (l : List ℕ) → length l ≤ fuel → Led next l) → (s : S) (bytes : List ℕ)
      → length bytes ≤ suc fuel → (m : M) (len : ℕ) → rules.read s bytes ≡ Whole m len → (move : Move S R)
      → move ≡ rules.step s m → Led s bytes
  by_move fuel on s bytes short m len k (Ends ending out) is =
      (Over ending out, ends s bytes m len ending out k is)
  by_move fuel on s bytes short m len k (On next out) is =
      let byte = has_byte (rules.read s) bytes m len (steady s) k in
      let rest = on next (drop len bytes) (omega (arith, byte, short, length-drop len bytes)) in
      (course_behind out rest.0, goes s next bytes m len out rest.0 k is rest.1)

  led : (fuel : ℕ) (s : S) (bytes : List ℕ) → length bytes ≤ fuel → Led s bytes
  led zero s bytes short =
      let none = nil_from_length bytes (omega (arith, short)) in
      (Waits s [] bytes, waits s bytes (ap (rules.read s) none ∙ (steady s).none))
  led (suc fuel) s bytes short = elim (known (rules.read s bytes)) [
    | is_more k ↦ (Waits s [] bytes, waits s bytes k)
    | is_bad why k ↦ (Over (rules.bad s why) [], stops s bytes why (rules.bad s why) k refl)
    | is_whole m len k ↦ by_move fuel (led fuel) s bytes short m len k (rules.step s m) refl
  ]

  -- where it runs, it is led
  pub run_leads : (s : S) (bytes : List ℕ) → Leads (play_of rules) s bytes (run rules (Waits s [] []) bytes)
  run_leads s bytes =
      let l = led (length bytes) s bytes (omega arith) in
      subst (Leads (play_of rules) s bytes) (sym (leads_run rules steady s bytes l.0 l.1)) l.1

-- ---- bytes put out before

onto_after : {S R : Type 0} (out sent : List ℕ) (move : Move S R)
    → onto (out ++ sent) move ≡ course_behind out (onto sent move)
onto_after out sent (On state o) = ap (λ (l : List ℕ). Waits state l []) (append_assoc out sent o)
onto_after out sent (Ends ending o) = ap (λ (l : List ℕ). Over ending l) (append_assoc out sent o)

eat_behind : {S R M E : Type 0} (rules : Rules S R M E) (out : List ℕ) (state : S) (sent pending : List ℕ)
    (f : Front M E)
    → eat rules state (out ++ sent) pending f ≡ course_behind out (eat rules state sent pending f)
eat_behind rules out state sent pending More = refl
eat_behind rules out state sent pending (Bad why) = refl
eat_behind rules out state sent pending (Whole m n) = onto_after out sent (rules.step state m)

feed_behind : {S R M E : Type 0} (rules : Rules S R M E) (out : List ℕ) (c : Course S R) (byte : ℕ)
    → feed rules (course_behind out c) byte ≡ course_behind out (feed rules c byte)
feed_behind rules out (Waits state sent pending) byte =
    eat_behind rules out state sent (pending ++ byte ∷ []) (rules.read state (pending ++ byte ∷ []))
feed_behind rules out (Over ending sent) byte = refl

pub run_behind : {S R M E : Type 0} (rules : Rules S R M E) (out : List ℕ) (c : Course S R) (bytes : List ℕ)
    → run rules (course_behind out c) bytes ≡ course_behind out (run rules c bytes)
unfolding run
run_behind rules out c [] = refl
run_behind rules out c (b ∷ bytes) =
    ap (λ d. run rules d bytes) (feed_behind rules out c b) ∙ run_behind rules out (feed rules c b) bytes
