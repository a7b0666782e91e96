-- What holds of machines whose steps are a relation.
use Rattle.std.proofs.Common.{◌≡◌, ℕ, List, [], ◌∷◌, ◌++◌, drop, refl, sym, ◌∙◌, ap, subst, append_assoc}
use Rattle.std.proofs.lemmas.List.{append-nil, drop-append-le}
use Rattle.pgw_machine.specs.Course.{Front, More, Bad, Whole, Move, On, Ends, Course, Waits, Over, Rules, IsSteady, onto, eat, feed, run}
use Rattle.pgw_machine.specs.Play.{Play, ReadsSteadily, course_behind, Leads, waits, stops, breaks, ends, goes, play_of, Continues, WaitsForMore}
use Rattle.pgw_machine.proofs.CourseLaws.{run_more, run_bad, run_whole, run_over, read_more}

behind_behind : {S R : Type 0} (a b : List ℕ) (c : Course S R)
    → course_behind a (course_behind b c) ≡ course_behind (a ++ b) c
behind_behind a b (Waits state sent pending) =
    ap (λ (l : List ℕ). Waits state l pending) (sym (append_assoc a b sent))
behind_behind a b (Over ending sent) = ap (Over ending) (sym (append_assoc a b sent))

behind_none : {S R : Type 0} (c : Course S R) → course_behind [] c ≡ c
behind_none (Waits state sent pending) = refl
behind_none (Over ending sent) = refl

-- ---- a piece more

split : {S R M E : Type 0} (play : Play S R M E) (out : List ℕ) (course : Course S R) (piece : List ℕ)
    (there : Course S R) →
    Continues play (course_behind out course) piece there
    → (f : Course S R) × Continues play course piece f × (there ≡ course_behind out f)
split play out (Waits state sent pending) piece there (c, leads, is) =
    (course_behind sent c, (c, leads, refl), is ∙ sym (behind_behind out sent c))
split play out (Over ending sent) piece there is = (Over ending sent, refl, is)

pub leads_on : {S R M E : Type 0} (play : Play S R M E) (steady : ReadsSteadily play) (state : S) (bytes : List ℕ)
    (course : Course S R) (piece : List ℕ) (there : Course S R) →
    Leads play state bytes course → Continues play course piece there → Leads play state (bytes ++ piece) there
leads_on play steady state bytes course piece there (waits s bs more) (c, leads, is) =
    subst (Leads play s (bs ++ piece)) (sym (is ∙ behind_none c)) leads
leads_on play steady state bytes course piece there (stops s bs why ending read refuses) is =
    subst (Leads play s (bs ++ piece)) (sym is)
    (stops s (bs ++ piece) why ending ((steady s).bad bs piece why read) refuses)
leads_on play steady state bytes course piece there (breaks s bs ending b) is =
    subst (Leads play s (bs ++ piece)) (sym is) (breaks s (bs ++ piece) ending b)
leads_on play steady state bytes course piece there (ends s bs m len ending out read step) is =
    subst (Leads play s (bs ++ piece)) (sym is)
    (ends s (bs ++ piece) m len ending out (read_more (play.read s) (steady s) bs piece m len read) step)
leads_on {S = S} {R = R} play steady state bytes course piece there (goes s next bs m len out c read step rest) h =
    let two = split play out c piece there h in
    let on : Leads play next (drop len bs ++ piece) two.0 =
    leads_on play steady next (drop len bs) c piece two.0 rest two.1 in
    let on' : Leads play next (drop len (bs ++ piece)) two.0 =
    subst (λ (l : List ℕ). Leads play next l two.0)
    (sym (drop-append-le len bs piece ((steady s).within bs m len read))) on in
    subst (Leads play s (bs ++ piece)) (sym two.2)
    (goes s next (bs ++ piece) m len out two.0 (read_more (play.read s) (steady s) bs piece m len read) step
    on')

-- ---- what it waits for

behind_waits : {S R M E : Type 0} (play : Play S R M E) (out : List ℕ) (course : Course S R)
    → WaitsForMore play course → WaitsForMore play (course_behind out course)
behind_waits play out (Waits state sent pending) h = h
behind_waits play out (Over ending sent) h = tt

pub leads_waits : {S R M E : Type 0} (play : Play S R M E) (state : S) (bytes : List ℕ) (course : Course S R)
    → Leads play state bytes course → WaitsForMore play course
leads_waits play state bytes course (waits s bs more) = more
leads_waits play state bytes course (stops s bs why ending read refuses) = tt
leads_waits play state bytes course (breaks s bs ending b) = tt
leads_waits play state bytes course (ends s bs m len ending out read step) = tt
leads_waits play state bytes course (goes s next bs m len out c read step rest) =
    behind_waits play out c (leads_waits play next (drop len bs) c rest)

-- ---- where the steps are a function

onto_behind : {S R : Type 0} (out sent : List ℕ) (move : Move S R)
    → onto (out ++ sent) move ≡ course_behind out (onto sent move)
onto_behind out sent (On state o) = ap (λ (l : List ℕ). Waits state l []) (append_assoc out sent o)
onto_behind out sent (Ends ending o) = ap (Over ending) (append_assoc out sent o)

eat_behind : {S R M E : Type 0} (rules : Rules S R M E) (state : S) (out sent pending : List ℕ) (f : Front M E)
    → eat rules state (out ++ sent) pending f ≡ course_behind out (eat rules state sent pending f)
eat_behind rules state out sent pending More = refl
eat_behind rules state out sent pending (Bad why) = refl
eat_behind rules state out sent pending (Whole m len) = onto_behind out sent (rules.step state m)

feed_behind : {S R M E : Type 0} (rules : Rules S R M E) (out : List ℕ) (c : Course S R) (b : ℕ)
    → feed rules (course_behind out c) b ≡ course_behind out (feed rules c b)
feed_behind rules out (Waits state sent pending) b =
    eat_behind rules state out sent (pending ++ b ∷ []) (rules.read state (pending ++ b ∷ []))
feed_behind rules out (Over ending sent) b = refl

run_behind : {S R M E : Type 0} (rules : Rules S R M E) (out : List ℕ) (c : Course S R) (bytes : List ℕ)
    → run rules (course_behind out c) bytes ≡ course_behind out (run rules c bytes)
unfolding run
run_behind rules out c [] = refl
run_behind rules out c (b ∷ bytes) =
    ap (λ d. run rules d bytes) (feed_behind rules out c b) ∙ run_behind rules out (feed rules c b) bytes

pub leads_run : {S R M E : Type 0} (rules : Rules S R M E) (steady : IsSteady rules) (state : S) (bytes : List ℕ)
    (course : Course S R) →
    Leads (play_of rules) state bytes course → run rules (Waits state [] []) bytes ≡ course
leads_run rules steady state bytes course (waits s bs more) = run_more rules steady s [] bs more
leads_run rules steady state bytes course (stops s bs why ending read refuses) =
    run_bad rules steady s [] bs why read ∙ ap (λ r. Over r []) (sym refuses)
leads_run rules steady state bytes course (breaks s bs ending b) = absurd b
leads_run rules steady state bytes course (ends s bs m len ending out read step) =
    run_whole rules steady s [] bs m len read ∙ ap (λ move. run rules (onto [] move) (drop len bs)) (sym step)
    ∙ run_over rules ending out (drop len bs)
leads_run {S = S} {R = R} rules steady state bytes course (goes s next bs m len out c read step rest) =
    let start : Course S R = Waits next [] [] in
    run_whole rules steady s [] bs m len read ∙ ap (λ move. run rules (onto [] move) (drop len bs)) (sym step)
    ∙ ap (λ (l : List ℕ). run rules (Waits next l []) (drop len bs)) (sym (append-nil out))
    ∙ run_behind rules out start (drop len bs)
    ∙ ap (course_behind out) (leads_run rules steady next (drop len bs) c rest)
