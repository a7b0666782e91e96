-- Where one machine is a view of another in some of its states alone, they run alike from these.
use Rattle.std.proofs.Common.{◌≡◌, ℕ, List, [], ◌∷◌, ◌++◌, refl, ◌∙◌, ap}
use Rattle.pgw_machine.specs.Course.{Front, More, Bad, Whole, Move, On, Ends, Course, Waits, Over, Rules, onto, eat, feed, run, map_course, map_move}
use Rattle.pgw_machine.proofs.CourseLaws.{onto_seen}

-- In these states the second machine reads and does what the first does, and the first stays in them.
pub record IsViewWhere {S T Q R M E : Type 0} (p : S → Type 0) (f : S → T) (g : Q → R) (first : Rules S Q M E)
    (second : Rules T R M E) : Type 0 where
  pub read : (state : S) (bytes : List ℕ) → second.read (f state) bytes ≡ first.read state bytes
  pub step : (state : S) (m : M) → p state → second.step (f state) m ≡ map_move f g (first.step state m)
  pub keeps : (state next : S) (m : M) (out : List ℕ) → p state → first.step state m ≡ On next out → p next
  pub bad : (state : S) (why : E) → second.bad (f state) why ≡ g (first.bad state why)

-- it waits in one of these states, or has ended
abbrev pub Within : {S R : Type 0} → (S → Type 0) → Course S R → Type 0
Within p (Waits state sent pending) = p state
Within p (Over ending sent) = Unit {0}

within_onto : {S R : Type 0} (p : S → Type 0) (sent : List ℕ) (move : Move S R)
    → ((next : S) (out : List ℕ) → move ≡ On next out → p next) → Within p (onto sent move)
within_onto p sent (On next out) keeps = keeps next out refl
within_onto p sent (Ends ending out) keeps = tt

eat_where : {S T Q R M E : Type 0} (p : S → Type 0) (f : S → T) (g : Q → R) (first : Rules S Q M E)
    (second : Rules T R M E) (v : IsViewWhere p f g first second) (state : S) (sent pending : List ℕ)
    (x : Front M E) → p state
    → (eat second (f state) sent pending x ≡ map_course f g (eat first state sent pending x))
    × Within p (eat first state sent pending x)
eat_where p f g first second v state sent pending More here = (refl, here)
eat_where p f g first second v state sent pending (Bad why) here = (ap (λ r. Over r sent) (v.bad state why), tt)
eat_where p f g first second v state sent pending (Whole m len) here = (
  ap (onto sent) (v.step state m here)
      ∙ onto_seen f g sent (first.step state m),
  within_onto p sent (first.step state m)
      (λ next out. v.keeps state next m out here),
)

feed_where : {S T Q R M E : Type 0} (p : S → Type 0) (f : S → T) (g : Q → R) (first : Rules S Q M E)
    (second : Rules T R M E) (v : IsViewWhere p f g first second) (c : Course S Q) (byte : ℕ)
    → Within p c
    → (feed second (map_course f g c) byte ≡ map_course f g (feed first c byte)) × Within p (feed first c byte)
feed_where p f g first second v (Waits state sent pending) byte here =
    let all = pending ++ byte ∷ [] in
    let e = eat_where p f g first second v state sent all (first.read state all) here in
    (ap (eat second (f state) sent all) (v.read state all) ∙ e.0, e.1)
feed_where p f g first second v (Over ending sent) byte here = (refl, tt)

pub run_where : {S T Q R M E : Type 0} (p : S → Type 0) (f : S → T) (g : Q → R) (first : Rules S Q M E)
    (second : Rules T R M E) (v : IsViewWhere p f g first second) (c : Course S Q) (bytes : List ℕ)
    → Within p c
    → (run second (map_course f g c) bytes ≡ map_course f g (run first c bytes)) × Within p (run first c bytes)
unfolding run
run_where p f g first second v c [] here = (refl, here)
run_where p f g first second v c (byte ∷ bytes) here =
    let one = feed_where p f g first second v c byte here in
    let rest = run_where p f g first second v (feed first c byte) bytes one.1 in
    (ap (λ d. run second d bytes) one.0 ∙ rest.0, rest.1)
