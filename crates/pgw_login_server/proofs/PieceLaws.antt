-- It does not matter how the bytes are cut.
use Rattle.std.proofs.Common.{◌≡◌, ℕ, List, [], ◌∷◌, ◌++◌, drop, refl, sym, ◌∙◌, ap, subst, append_assoc}
use Rattle.std.specs.List.{concat}
use Rattle.std.proofs.lemmas.List.{append-nil, drop-append-le}
use Rattle.pgw_machine.specs.Course.{Front, More, Whole, Course, Waits, Over}
use Rattle.pgw_machine.specs.Play.{Play, ReadsSteadily, course_behind, Leads, waits, stops, breaks, ends, goes, Continues}
use Rattle.pgw_machine.proofs.CourseLaws.{is_more, is_bad, is_whole, known, read_more}
use Rattle.pgw_machine.proofs.PlayLaws.{leads_on}
use Rattle.pgw_login_server.specs.Server.{Stage, ServerEnding, serving}
use Rattle.pgw_login_server.specs.Taken.{Acts}
use Rattle.pgw_login_server.specs.Pieces.{LeadOn}
use Rattle.pgw_login_server.proofs.ServerLaws.{steady_at}

behind_behind : {S R : Type 0} (a b : List ℕ) (c : Course S R)
    → course_behind a (course_behind b c) ≡ course_behind (a ++ b) c
behind_behind a b (Waits state sent pending) =
    ap (λ (l : List ℕ). Waits state l pending) (sym (append_assoc a b sent))
behind_behind a b (Over ending sent) = ap (Over ending) (sym (append_assoc a b sent))

behind_none : {S R : Type 0} (c : Course S R) → course_behind [] c ≡ c
behind_none (Waits state sent pending) = refl
behind_none (Over ending sent) = refl

module _ {S R M E : Type 0} (play : Play S R M E) (steady : ReadsSteadily play) where
  -- bytes were put out before
  continues_behind : (out piece : List ℕ) (course there : Course S R) → Continues play course piece there
      → Continues play (course_behind out course) piece (course_behind out there)
  continues_behind out piece (Waits state sent pending) there (c, leads, is) =
      (c, leads, ap (course_behind out) is ∙ behind_behind out sent c)
  continues_behind out piece (Over ending sent) there is = ap (course_behind out) is

  -- the bytes before a piece lead to a place, from which the piece leads on
  abbrev Cut : S → List ℕ → List ℕ → Course S R → Type 0
  Cut state bytes piece there = (course : Course S R) × Leads play state bytes course
      × Continues play course piece there

  -- it waits for the piece
  waits_for : (state : S) (bytes piece : List ℕ) (there : Course S R) → play.read state bytes ≡ More
      → Leads play state (bytes ++ piece) there → Cut state bytes piece there
  waits_for state bytes piece there more leads = (
    Waits state [] bytes,
    waits state bytes more,
    (there, leads, sym (behind_none there)),
  )

  -- what the front of the bytes is where that of all is known
  data Fronts (state : S) (bytes : List ℕ) (all : Front M E) : Type 0 where
    none_yet : play.read state bytes ≡ More → Fronts state bytes all
    same_now : play.read state bytes ≡ all → Fronts state bytes all

  fronts : (state : S) (bytes piece : List ℕ) → Fronts state bytes (play.read state (bytes ++ piece))
  fronts state bytes piece = elim (known (play.read state bytes)) [
    | is_more k ↦ none_yet k
    | is_bad why k ↦ same_now (k ∙ sym ((steady state).bad bytes piece why k))
    | is_whole m len k ↦ same_now (k ∙ sym (read_more (play.read state) (steady state) bytes piece m len k))
  ]

  pub cut_at : (state : S) (bytes piece all : List ℕ) (there : Course S R) → all ≡ bytes ++ piece
      → Leads play state all there → Cut state bytes piece there
  cut_at state bytes piece all there is (waits s bs more) = elim (fronts s bytes piece) [
    | none_yet k ↦ waits_for s bytes piece _ k (subst (λ (l : List ℕ). Leads play s l (Waits s [] bs)) is
        (waits s bs more))
    | same_now k ↦ waits_for s bytes piece _ (k ∙ ap (play.read s) (sym is) ∙ more)
        (subst (λ (l : List ℕ). Leads play s l (Waits s [] bs)) is (waits s bs more))
  ]
  cut_at state bytes piece all there is (stops s bs why ending bad refuses) = elim (fronts s bytes piece) [
    | none_yet k ↦ waits_for s bytes piece _ k (subst (λ (l : List ℕ). Leads play s l (Over ending [])) is
        (stops s bs why ending bad refuses))
    | same_now k ↦ (Over ending [], stops s bytes why ending (k ∙ ap (play.read s) (sym is) ∙ bad) refuses, refl)
  ]
  cut_at state bytes piece all there is (breaks s bs ending b) = (Over ending [], breaks s bytes ending b, refl)
  cut_at state bytes piece all there is (ends s bs m len ending out whole step) = elim (fronts s bytes piece) [
    | none_yet k ↦ waits_for s bytes piece _ k (subst (λ (l : List ℕ). Leads play s l (Over ending out)) is
        (ends s bs m len ending out whole step))
    | same_now k ↦ (
      Over ending out,
      ends s bytes m len ending out (k ∙ ap (play.read s) (sym is)
          ∙ whole) step,
      refl,
    )
  ]
  cut_at state bytes piece all there is (goes s next bs m len out c whole step on) = elim (fronts s bytes piece) [
    | none_yet k ↦ waits_for s bytes piece _ k (subst (λ (l : List ℕ). Leads play s l (course_behind out c)) is
        (goes s next bs m len out c whole step on))
    | same_now k ↦
        let here : play.read s bytes ≡ Whole m len = k ∙ ap (play.read s) (sym is) ∙ whole in
        let rest : drop len bs ≡ drop len bytes ++ piece = ap (drop len) is
        ∙ drop-append-le len bytes piece ((steady s).within bytes m len here) in
        let cut = cut_at next (drop len bytes) piece (drop len bs) c rest on in (
          course_behind out cut.0,
          goes s next bytes m len out cut.0 here step cut.1,
          continues_behind out piece
              cut.0 c cut.2,
        )
  ]

-- ---- a server

module _ (means : Acts) where
  pub cut : (begin : Stage) (given piece : List ℕ) (there : Course Stage ServerEnding)
      → Leads (serving means) begin (given ++ piece) there → (course : Course Stage ServerEnding)
      × Leads (serving means) begin given course × Continues (serving means) course piece there
  cut begin given piece there leads =
      cut_at (serving means) steady_at begin given piece (given ++ piece) there refl
      leads

  pub joined : (begin : Stage) (given : List ℕ) (course : Course Stage ServerEnding) (pieces : List (List ℕ))
      (there : Course Stage ServerEnding) → Leads (serving means) begin given course
      → LeadOn means course pieces there
      → Leads (serving means) begin (given ++ concat pieces) there
  joined begin given course [] there leads is = subst
      (λ (c : Course Stage ServerEnding). Leads (serving means) begin (given ++ []) c) (sym is)
      (subst (λ (l : List ℕ). Leads (serving means) begin l course) (sym (append-nil given)) leads)
  joined begin given course (piece ∷ pieces) there leads (mid, on, rest) =
      subst (λ (l : List ℕ). Leads (serving means) begin l there) (append_assoc given piece (concat pieces))
      (joined begin (given ++ piece) mid pieces there
      (leads_on (serving means) steady_at begin given course piece mid leads on) rest)

  pub cuts : (begin : Stage) (given : List ℕ) (pieces : List (List ℕ)) (there : Course Stage ServerEnding)
      → Leads (serving means) begin (given ++ concat pieces) there → (course : Course Stage ServerEnding)
      × Leads (serving means) begin given course × LeadOn means course pieces there
  cuts begin given [] there leads = (
    there,
    subst (λ (l : List ℕ). Leads (serving means) begin l there)
        (append-nil given) leads,
    refl,
  )
  cuts begin given (piece ∷ pieces) there leads =
      let rest = cuts begin (given ++ piece) pieces there
      (subst (λ (l : List ℕ). Leads (serving means) begin l there)
      (sym (append_assoc given piece (concat pieces)))
      leads) in
      let here = cut begin given piece rest.0 rest.1 in
      (here.0, here.1, (rest.0, here.2, rest.2))

  -- from the beginning
  pub joined_from_none : (begin : Stage) (piece : List ℕ) (pieces : List (List ℕ))
      (there : Course Stage ServerEnding)
      → LeadOn means (Waits begin [] []) (piece ∷ pieces) there
      → Leads (serving means) begin (concat (piece ∷ pieces)) there
  joined_from_none begin piece pieces there (mid, (course, leads, is), rest) =
      joined begin piece mid pieces there (subst (Leads (serving means) begin piece) (sym (is
      ∙ behind_none course))
      leads) rest

  pub cuts_from_none : (begin : Stage) (piece : List ℕ) (pieces : List (List ℕ))
      (there : Course Stage ServerEnding)
      → Leads (serving means) begin (concat (piece ∷ pieces)) there
      → LeadOn means (Waits begin [] []) (piece ∷ pieces) there
  cuts_from_none begin piece pieces there leads =
      let c = cuts begin piece pieces there leads in
      (c.0, (c.0, c.1, sym (behind_none c.0)), c.2)
