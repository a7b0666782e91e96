-- What a run does at the front of its bytes.
use Rattle.std.proofs.Common.{◌≡◌, ℕ, List, [], ◌∷◌, ◌++◌, length, take, drop, refl, sym, ◌∙◌, ap, arith, append_assoc, length-append}
use Rattle.std.proofs.lemmas.List.{take-append-drop, length-take-le, append-nil, nil_from_length}
use Rattle.std.proofs.lemmas.List.Sums.{fold-append}
use Rattle.pgw_machine.specs.Course.{Front, More, Bad, Whole, IsReading, Move, On, Ends, Course, Waits, Over, Rules, IsSteady, onto, eat, feed, run, sent_of, WantsMore, map_course, map_move, IsView}

pub run_append : {S R M E : Type 0} (rules : Rules S R M E) (c : Course S R) (xs ys : List ℕ)
    → run rules c (xs ++ ys) ≡ run rules (run rules c xs) ys
unfolding run
run_append rules c xs ys = fold-append (feed rules) c xs ys

pub run_over : {S R M E : Type 0} (rules : Rules S R M E) (ending : R) (sent bytes : List ℕ)
    → run rules (Over ending sent) bytes ≡ Over ending sent
unfolding run
run_over rules ending sent [] = refl
run_over rules ending sent (b ∷ bytes) = run_over rules ending sent bytes

-- ---- a reading

-- what a front is known to be, kept with the equation
pub data Known {M E : Type 0} (f : Front M E) : Type 0 where
  is_more : f ≡ More → Known f
  is_bad : (why : E) → f ≡ Bad why → Known f
  is_whole : (m : M) → (n : ℕ) → f ≡ Whole m n → Known f

pub known : {M E : Type 0} (f : Front M E) → Known f
known More = is_more refl
known (Bad why) = is_bad why refl
known (Whole m n) = is_whole m n refl

-- a message alone
read_alone : {M E : Type 0} (read : List ℕ → Front M E) (is : IsReading read) (bytes : List ℕ) (m : M) (n : ℕ)
    → read bytes ≡ Whole m n → read (take n bytes) ≡ Whole m n
read_alone read is bytes m n e = ap read (sym (append-nil (take n bytes))) ∙ is.whole bytes [] m n e

-- a message stays whole
pub read_more : {M E : Type 0} (read : List ℕ → Front M E) (is : IsReading read) (bytes more : List ℕ) (m : M)
    (n : ℕ)
    → read bytes ≡ Whole m n → read (bytes ++ more) ≡ Whole m n
read_more read is bytes more m n e =
    ap read (ap (λ (l : List ℕ). l ++ more) (sym (take-append-drop n bytes))
    ∙ append_assoc (take n bytes) (drop n bytes) more)
    ∙ is.whole bytes (drop n bytes ++ more) m n e

-- the front of fewer bytes is not whole where more bytes are needed
read_before : {M E : Type 0} (read : List ℕ → Front M E) (is : IsReading read) (xs ys : List ℕ)
    → read (xs ++ ys) ≡ More → read xs ≡ More
read_before read is xs ys e =
    elim (known (read xs)) [
      | is_more k ↦ k
      | is_bad why k ↦ let h = is.bad xs ys why k in cc
      | is_whole m n k ↦ let h = read_more read is xs ys m n k in cc
    ]

-- ---- byte by byte

fed : {S R M E : Type 0} (rules : Rules S R M E) (state : S) (sent pending : List ℕ) (byte : ℕ) (bytes : List ℕ)
    (f : Front M E)
    → rules.read state (pending ++ byte ∷ []) ≡ f
    → run rules (Waits state sent pending) (byte ∷ bytes) ≡ run rules
    (eat rules state sent (pending ++ byte ∷ []) f) bytes
unfolding run
fed rules state sent pending byte bytes f e =
    ap (λ g. run rules (eat rules state sent (pending ++ byte ∷ []) g) bytes) e

more_from : {S R M E : Type 0} (rules : Rules S R M E) (steady : IsSteady rules) (state : S)
    (sent pending bytes : List ℕ)
    → rules.read state (pending ++ bytes) ≡ More
    → run rules (Waits state sent pending) bytes ≡ Waits state sent (pending ++ bytes)
unfolding run
more_from rules steady state sent pending [] e = ap (Waits state sent) (sym (append-nil pending))
more_from rules steady state sent pending (b ∷ bytes) e =
    let e' : rules.read state ((pending ++ b ∷ []) ++ bytes) ≡ More =
    ap (rules.read state) (append_assoc pending (b ∷ []) bytes) ∙ e in
    fed rules state sent pending b bytes More
    (read_before (rules.read state) (steady state) (pending ++ b ∷ []) bytes e')
    ∙ more_from rules steady state sent (pending ++ b ∷ []) bytes e'
    ∙ ap (Waits state sent) (append_assoc pending (b ∷ []) bytes)

bad_from : {S R M E : Type 0} (rules : Rules S R M E) (steady : IsSteady rules) (state : S)
    (sent pending bytes : List ℕ) (why : E)
    → rules.read state pending ≡ More → rules.read state (pending ++ bytes) ≡ Bad why
    → run rules (Waits state sent pending) bytes ≡ Over (rules.bad state why) sent
bad_from rules steady state sent pending [] why more e = let n = ap (rules.read state) (append-nil pending) in cc
bad_from rules steady state sent pending (b ∷ bytes) why more e =
    let e' : rules.read state ((pending ++ b ∷ []) ++ bytes) ≡ Bad why =
    ap (rules.read state) (append_assoc pending (b ∷ []) bytes) ∙ e in
    elim (known (rules.read state (pending ++ b ∷ []))) [
      | is_more k ↦ fed rules state sent pending b bytes More k
          ∙ bad_from rules steady state sent (pending ++ b ∷ []) bytes why k e'
      | is_bad other k ↦
          let h = (steady state).bad (pending ++ b ∷ []) bytes other k in
          let same : other ≡ why = cc in
          fed rules state sent pending b bytes (Bad other) k ∙ run_over rules (rules.bad state other) sent bytes
          ∙ ap (λ w. Over (rules.bad state w) sent) same
      | is_whole m n k ↦ let h = read_more (rules.read state) (steady state) (pending ++ b ∷ []) bytes m n k in cc
    ]

pub whole_from : {S R M E : Type 0} (rules : Rules S R M E) (steady : IsSteady rules) (state : S)
    (sent pending bytes : List ℕ) (m : M)
    → rules.read state pending ≡ More → rules.read state (pending ++ bytes) ≡ Whole m (length (pending ++ bytes))
    → run rules (Waits state sent pending) bytes ≡ onto sent (rules.step state m)
unfolding run
whole_from rules steady state sent pending [] m more e = let n = ap (rules.read state) (append-nil pending) in cc
whole_from rules steady state sent pending (b ∷ bytes) m more e =
    let a = append_assoc pending (b ∷ []) bytes in
    let e' : rules.read state ((pending ++ b ∷ []) ++ bytes) ≡ Whole m (length ((pending ++ b ∷ []) ++ bytes)) =
    ap (rules.read state) a ∙ e ∙ ap (λ (q : List ℕ). Whole m (length q)) (sym a) in
    elim (known (rules.read state (pending ++ b ∷ []))) [
      | is_more k ↦ fed rules state sent pending b bytes More k
          ∙ whole_from rules steady state sent (pending ++ b ∷ []) bytes m k e'
      | is_bad other k ↦ let h = (steady state).bad (pending ++ b ∷ []) bytes other k in cc
      | is_whole m' n k ↦
          let h = read_more (rules.read state) (steady state) (pending ++ b ∷ []) bytes m' n k in
          let same : m' ≡ m = cc in
          let len : n ≡ length ((pending ++ b ∷ []) ++ bytes) = cc in
          let within = (steady state).within (pending ++ b ∷ []) m' n k in
          let none : bytes ≡ [] =
          nil_from_length bytes (omega (arith, within, len, length-append (pending ++ b ∷ []) bytes)) in
          fed rules state sent pending b bytes (Whole m' n) k
          ∙ ap (λ (bs : List ℕ). run rules (onto sent (rules.step state m')) bs) none
          ∙ ap (λ x. onto sent (rules.step state x)) same
    ]

-- ---- at the front

pub run_more : {S R M E : Type 0} (rules : Rules S R M E) (steady : IsSteady rules) (state : S)
    (sent bytes : List ℕ)
    → rules.read state bytes ≡ More → run rules (Waits state sent []) bytes ≡ Waits state sent bytes
run_more rules steady state sent bytes e = more_from rules steady state sent [] bytes e

pub run_bad : {S R M E : Type 0} (rules : Rules S R M E) (steady : IsSteady rules) (state : S)
    (sent bytes : List ℕ) (why : E)
    → rules.read state bytes ≡ Bad why → run rules (Waits state sent []) bytes ≡ Over (rules.bad state why) sent
run_bad rules steady state sent bytes why e =
    bad_from rules steady state sent [] bytes why ((steady state).none) e

-- a message at the front is taken
pub run_whole : {S R M E : Type 0} (rules : Rules S R M E) (steady : IsSteady rules) (state : S)
    (sent bytes : List ℕ) (m : M) (n : ℕ)
    → rules.read state bytes ≡ Whole m n
    → run rules (Waits state sent []) bytes ≡ run rules (onto sent (rules.step state m)) (drop n bytes)
run_whole rules steady state sent bytes m n e =
    let within = (steady state).within bytes m n e in
    let len : length (take n bytes) ≡ n = length-take-le n bytes within in
    let is : rules.read state (take n bytes) ≡ Whole m (length (take n bytes)) =
    read_alone (rules.read state) (steady state) bytes m n e ∙ ap (Whole m) (sym len) in
    ap (run rules (Waits state sent [])) (sym (take-append-drop n bytes))
    ∙ run_append rules (Waits state sent []) (take n bytes) (drop n bytes)
    ∙ ap (λ c. run rules c (drop n bytes))
    (whole_from rules steady state sent [] (take n bytes) m ((steady state).none) is)

-- a message at the front ends the run
pub run_ends : {S R M E : Type 0} (rules : Rules S R M E) (steady : IsSteady rules) (state : S)
    (sent bytes : List ℕ) (m : M) (n : ℕ) (ending : R)
    → rules.read state bytes ≡ Whole m n → rules.step state m ≡ Ends ending []
    → run rules (Waits state sent []) bytes ≡ Over ending sent
run_ends rules steady state sent bytes m n ending e is =
    run_whole rules steady state sent bytes m n e
    ∙ ap (λ move. run rules (onto sent move) (drop n bytes)) is
    ∙ run_over rules ending (sent ++ []) (drop n bytes)
    ∙ ap (Over ending) (append-nil sent)

-- or the run goes on behind it
pub run_goes : {S R M E : Type 0} (rules : Rules S R M E) (steady : IsSteady rules) (state : S)
    (sent bytes : List ℕ) (m : M) (n : ℕ) (next : S) (out : List ℕ)
    → rules.read state bytes ≡ Whole m n → rules.step state m ≡ On next out
    → run rules (Waits state sent []) bytes ≡ run rules (Waits next (sent ++ out) []) (drop n bytes)
run_goes rules steady state sent bytes m n next out e is =
    run_whole rules steady state sent bytes m n e ∙ ap (λ move. run rules (onto sent move) (drop n bytes)) is

-- ---- what it waits for

onto_wants : {S R M E : Type 0} (rules : Rules S R M E) (steady : IsSteady rules) (sent : List ℕ)
    (move : Move S R)
    → WantsMore rules (onto sent move)
onto_wants rules steady sent (On state out) = (steady state).none
onto_wants rules steady sent (Ends ending out) = tt

eat_wants : {S R M E : Type 0} (rules : Rules S R M E) (steady : IsSteady rules) (state : S)
    (sent pending : List ℕ) (f : Front M E)
    → rules.read state pending ≡ f → WantsMore rules (eat rules state sent pending f)
eat_wants rules steady state sent pending More is = is
eat_wants rules steady state sent pending (Bad why) is = tt
eat_wants rules steady state sent pending (Whole m len) is = onto_wants rules steady sent (rules.step state m)

feed_wants : {S R M E : Type 0} (rules : Rules S R M E) (steady : IsSteady rules) (c : Course S R) (b : ℕ)
    → WantsMore rules (feed rules c b)
feed_wants rules steady (Waits state sent pending) b =
    eat_wants rules steady state sent (pending ++ b ∷ []) (rules.read state (pending ++ b ∷ [])) refl
feed_wants rules steady (Over ending sent) b = tt

-- all that is whole has been taken
pub run_wants : {S R M E : Type 0} (rules : Rules S R M E) (steady : IsSteady rules) (c : Course S R)
    (bytes : List ℕ)
    → WantsMore rules c → WantsMore rules (run rules c bytes)
unfolding run
run_wants rules steady c [] wants = wants
run_wants rules steady c (b ∷ bytes) wants =
    run_wants rules steady (feed rules c b) bytes (feed_wants rules steady c b)

-- ---- what is put out

onto_grows : {S R : Type 0} (sent : List ℕ) (move : Move S R)
    → (more : List ℕ) × (sent_of (onto sent move) ≡ sent ++ more)
onto_grows sent (On state out) = (out, refl)
onto_grows sent (Ends ending out) = (out, refl)

eat_grows : {S R M E : Type 0} (rules : Rules S R M E) (state : S) (sent pending : List ℕ) (f : Front M E)
    → (more : List ℕ) × (sent_of (eat rules state sent pending f) ≡ sent ++ more)
eat_grows rules state sent pending More = ([], sym (append-nil sent))
eat_grows rules state sent pending (Bad why) = ([], sym (append-nil sent))
eat_grows rules state sent pending (Whole m n) = onto_grows sent (rules.step state m)

feed_grows : {S R M E : Type 0} (rules : Rules S R M E) (c : Course S R) (b : ℕ)
    → (more : List ℕ) × (sent_of (feed rules c b) ≡ sent_of c ++ more)
feed_grows rules (Waits state sent pending) b =
    eat_grows rules state sent (pending ++ b ∷ []) (rules.read state (pending ++ b ∷ []))
feed_grows rules (Over ending sent) b = ([], sym (append-nil sent))

-- what was put out stays put out
pub sent_grows : {S R M E : Type 0} (rules : Rules S R M E) (c : Course S R) (bytes : List ℕ)
    → (more : List ℕ) × (sent_of (run rules c bytes) ≡ sent_of c ++ more)
unfolding run
sent_grows rules c [] = ([], sym (append-nil (sent_of c)))
sent_grows rules c (b ∷ bytes) =
    let one = feed_grows rules c b in
    let rest = sent_grows rules (feed rules c b) bytes in
    (one.0 ++ rest.0, rest.1 ∙ ap (λ (s : List ℕ). s ++ rest.0) one.1 ∙ append_assoc (sent_of c) one.0 rest.0)

-- ---- one machine seen as another

pub onto_seen : {S T Q R : Type 0} (f : S → T) (g : Q → R) (sent : List ℕ) (move : Move S Q)
    → onto sent (map_move f g move) ≡ map_course f g (onto sent move)
onto_seen f g sent (On state out) = refl
onto_seen f g sent (Ends ending out) = refl

eat_seen : {S T Q R M E : Type 0} (f : S → T) (g : Q → R) (first : Rules S Q M E) (second : Rules T R M E)
    (v : IsView f g first second) (state : S) (sent pending : List ℕ) (x : Front M E)
    → eat second (f state) sent pending x ≡ map_course f g (eat first state sent pending x)
eat_seen f g first second v state sent pending More = refl
eat_seen f g first second v state sent pending (Bad why) = ap (λ r. Over r sent) (v.bad state why)
eat_seen f g first second v state sent pending (Whole m len) =
    ap (onto sent) (v.step state m) ∙ onto_seen f g sent (first.step state m)

feed_seen : {S T Q R M E : Type 0} (f : S → T) (g : Q → R) (first : Rules S Q M E) (second : Rules T R M E)
    (v : IsView f g first second) (c : Course S Q) (byte : ℕ)
    → feed second (map_course f g c) byte ≡ map_course f g (feed first c byte)
feed_seen f g first second v (Waits state sent pending) byte =
    ap (eat second (f state) sent (pending ++ byte ∷ [])) (v.read state (pending ++ byte ∷ []))
    ∙ eat_seen f g first second v state sent (pending ++ byte ∷ []) (first.read state (pending ++ byte ∷ []))
feed_seen f g first second v (Over ending sent) byte = refl

-- a machine that is a view of another runs alike
pub run_seen : {S T Q R M E : Type 0} (f : S → T) (g : Q → R) (first : Rules S Q M E) (second : Rules T R M E)
    (v : IsView f g first second) (c : Course S Q) (bytes : List ℕ)
    → run second (map_course f g c) bytes ≡ map_course f g (run first c bytes)
unfolding run
run_seen f g first second v c [] = refl
run_seen f g first second v c (byte ∷ bytes) =
    ap (λ d. run second d bytes) (feed_seen f g first second v c byte)
    ∙ run_seen f g first second v (feed first c byte) bytes
