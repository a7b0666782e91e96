-- Where events lead two parties.
use Rattle.std.proofs.Common.{◌≡◌, inl, inr, ◌≤◌, ℕ, zero, suc, ◌-◌, ◌+◌, List, [], ◌∷◌, ◌++◌, length, take, drop, Result, Ok, Err, refl, sym, ap, subst, ◌∙◌, arith, length-append, length-drop}
use Rattle.std.proofs.lemmas.List.{append-nil, take-append-le, take-append-drop, length-take-le, take_all}
use Rattle.std.proofs.Math.Seq.{take-append-add}
use Rattle.std.proofs.lemmas.Bool.{cases_lt}
use Rattle.atomic_table.specs.Seated.{TableId}
use Rattle.pgw_machine.specs.Course.{IsReading, Course, Waits, Over, run, sent_of}
use Rattle.pgw_machine.specs.Play.{Play, Leads, waits, Continues, course_behind}
use Rattle.pgw_machine.proofs.CourseLaws.{run_append, sent_grows}
use Rattle.pgw_machine.proofs.PlayLaws.{leads_on}
use Rattle.pgw_session.specs.Talk.{conversation, talk_rules, beginning}
use Rattle.pgw_dialogue.specs.Answers.{answer_to}
use Rattle.pgw_login_server.specs.Server.{Stage, ServerEnding, bound_at, stage_front, serving}
use Rattle.pgw_login_server.proofs.ClientFront.{steady}
use Rattle.pgw_machine.specs.declared.event.Event.{Event}
use Rattle.pgw_login_pair.specs.declared.parties.PairInput.{PairInput}
use Rattle.pgw_login_pair.specs.Server.{Means}
use Rattle.pgw_login_pair.specs.World.{World, first_world, first_stage, client_input, most, talk, party_bytes, handed, unless_over, taken_then, Happens, to_the_client, to_the_server, Runs, PartiesMeet}

pub steady_at : (stage : Stage) → IsReading (stage_front stage)
steady_at stage = steady stage.started (bound_at stage) stage.client.protocol_version

-- ---- fronts

abbrev pub Grows : List ℕ → List ℕ → Type 0
Grows old new = (more : List ℕ) × (new ≡ old ++ more)

grown_length : (old new : List ℕ) → Grows old new → length old ≤ length new
grown_length old new (more, is) = omega (arith, ap length is, length-append old more)

pub same_front : (n : ℕ) (old new : List ℕ) → Grows old new → n ≤ length old → take n new ≡ take n old
same_front n old new (more, is) within = ap (take n) is ∙ take-append-le n old more within

-- a piece of what is not yet taken
abbrev pub Piece : ℕ → List ℕ → List ℕ → Type 0
Piece n all piece = (count : ℕ) × (piece ≡ party_bytes count n all)

pub handed_piece : {A E : Type 0} (r : Result A E) (count n : ℕ) (all : List ℕ)
    → Piece n all (handed r (party_bytes count n all))
handed_piece (Ok a) count n all = (count, refl)
handed_piece (Err e) count n all = (0, refl)

pub over_piece : (c : Course Stage ServerEnding) (count n : ℕ) (all : List ℕ)
    → Piece n all (unless_over c (party_bytes count n all))
over_piece (Waits stage out pending) count n all = (count, refl)
over_piece (Over ending out) count n all = (0, refl)

pub short : (count : ℕ) (l : List ℕ) → length (take count l) ≤ length l
short count l =
    let cut =
    ap length (sym (take-append-drop count l)) in omega
    (arith, cut, length-append (take count l) (drop count l))

again : (count : ℕ) (l : List ℕ) → take (length (take count l)) l ≡ take count l
again zero l = refl
again (suc count) [] = refl
again (suc count) (x ∷ l) = ap (λ (k : List ℕ). x ∷ k) (again count l)

pub piece_within : (n : ℕ) (all piece : List ℕ) → n ≤ length all → Piece n all piece
    → n + length piece ≤ length all
piece_within n all piece within (count, is) =
    let s = short count (drop n all) in
    omega (arith, within, ap length is, s, length-drop n all)

pub piece_taken : (n : ℕ) (all piece : List ℕ) → n ≤ length all → Piece n all piece
    → take (n + length piece) all ≡ take n all ++ piece
piece_taken n all piece within (count, is) =
    let front = take n all in
    let len : length front ≡ n = length-take-le n all within in
    ap (take (n + length piece)) (sym (take-append-drop n all))
    ∙ ap (λ k. take (k + length piece) (front ++ drop n all)) (sym len)
    ∙ take-append-add front (drop n all) (length piece)
    ∙ ap (λ (l : List ℕ). front ++ l) (ap (λ (p : List ℕ). take (length p) (drop n all)) is
    ∙ again count (drop n all) ∙ sym is)

-- ---- what is written only grows

run_grows : (input : PairInput) (a piece : List ℕ)
    → Grows (sent_of (conversation (client_input input) a))
    (sent_of (conversation (client_input input) (a ++ piece)))
unfolding conversation
run_grows input a piece =
    let rules = talk_rules (client_input input) in
    let g = sent_grows rules (run rules (beginning (client_input input)) a) piece in
    (g.0, ap sent_of (run_append rules (beginning (client_input input)) a piece) ∙ g.1)

cut_grows : (limit : ℕ) (a piece : List ℕ) → (more : List ℕ) × (take limit (a ++ piece) ≡ take limit a ++ more)
cut_grows limit a piece = elim (cases_lt limit (length a)) [
  | inl short ↦ ([], take-append-le limit a piece (omega (arith, short)) ∙ sym (append-nil (take limit a)))
  | inr long ↦ (
    take (limit - length a) piece,
    ap (λ n. take n (a ++ piece)) (omega (arith, long))
        ∙ take-append-add a piece (limit - length a)
        ∙ ap (λ (l : List ℕ). l ++ take (limit - length a) piece) (sym (take_all limit a long)),
  )
]

talk_grows : (input : PairInput) (a b : List ℕ) → Grows a b
    → Grows (sent_of (talk input a)) (sent_of (talk input b))
talk_grows input a b (piece, is) =
    let c = cut_grows most a piece in
    let g = run_grows input (take most a) c.0 in (
      g.0,
      ap (λ (l : List ℕ). sent_of (conversation (client_input input) (take most l))) is
          ∙ ap (λ (l : List ℕ). sent_of (conversation (client_input input) l)) c.1 ∙ g.1,
    )

pub behind_grows : {S R : Type 0} (out : List ℕ) (c : Course S R)
    → sent_of (course_behind out c) ≡ out ++ sent_of c
behind_grows out (Waits s o p) = refl
behind_grows out (Over e o) = refl

pub goes_grows : {S R M E : Type 0} (play : Play S R M E) (here : Course S R) (piece : List ℕ)
    (there : Course S R)
    → Continues play here piece there → Grows (sent_of here) (sent_of there)
goes_grows play (Waits s out pending) piece there (c, leads, is) = (sent_of c, ap sent_of is ∙ behind_grows out c)
goes_grows play (Over e out) piece there is = ([], ap sent_of is ∙ sym (append-nil out))

-- ---- the events

module _ (generator : TableId) (input : PairInput) where
  pub first_meets : PartiesMeet generator input (first_world generator input)
  first_meets = record {
    wrote = refl;
    serves = waits (first_stage generator input) [] ((steady_at (first_stage generator input)).none);
    served = refl;
    by_server = omega arith;
    by_client = omega arith;
  }

  client_meets : (w : World) (count : ℕ) → PartiesMeet generator input w
      → PartiesMeet generator input
      (record w {
        by_client = taken_then input w count;
        to_server = sent_of
            (talk input (take (taken_then input w count) w.to_client));
      })
  client_meets w count meets =
      let r = answer_to (client_input input) most (take w.by_client w.to_client) in
      let piece = handed r (party_bytes count w.by_client w.to_client) in
      let is = handed_piece r count w.by_client w.to_client in
      let there = piece_taken w.by_client w.to_client piece meets.by_client is in
      let grows =
      talk_grows input (take w.by_client w.to_client) (take (taken_then input w count) w.to_client)
      (piece, there) in
      let grown : Grows w.to_server (sent_of (talk input (take (taken_then input w count) w.to_client))) =
      (grows.0, grows.1 ∙ ap (λ (l : List ℕ). l ++ grows.0) (sym meets.wrote)) in
      let same =
      same_front w.by_server w.to_server (sent_of (talk input (take (taken_then input w count) w.to_client)))
      grown meets.by_server in
      record {
        wrote = refl;
        serves =
            subst (λ (l : List ℕ). Leads (serving (Means input)) (first_stage generator input) l w.server)
            (sym same) meets.serves;
        served = meets.served;
        by_server =
            omega (
              arith,
              meets.by_server,
              grown_length w.to_server
                  (sent_of (talk input (take (taken_then input w count) w.to_client))) grown,
            );
        by_client = piece_within w.by_client w.to_client piece meets.by_client is;
      }

  server_meets : (w : World) (count : ℕ) (there : Course Stage ServerEnding)
      → Continues (serving (Means input)) w.server
      (unless_over w.server (party_bytes count w.by_server w.to_server)) there
      → PartiesMeet generator input w
      → PartiesMeet generator input
      (record w {
        by_server = w.by_server + length
            (unless_over w.server (party_bytes count w.by_server w.to_server));
        server =
            there;
        to_client = sent_of there;
      })
  server_meets w count there goes meets =
      let piece = unless_over w.server (party_bytes count w.by_server w.to_server) in
      let is = over_piece w.server count w.by_server w.to_server in
      let taken = piece_taken w.by_server w.to_server piece meets.by_server is in
      let on =
      leads_on (serving (Means input)) steady_at (first_stage generator input) (take w.by_server w.to_server)
      w.server piece there meets.serves goes in
      let grows = goes_grows (serving (Means input)) w.server piece there goes in
      let grown : Grows w.to_client (sent_of there) =
      (grows.0, grows.1 ∙ ap (λ (l : List ℕ). l ++ grows.0) (sym meets.served)) in
      let same = same_front w.by_client w.to_client (sent_of there) grown meets.by_client in
      record {
        wrote = meets.wrote ∙ ap (λ (l : List ℕ). sent_of (talk input l)) (sym same);
        serves =
            subst (λ (l : List ℕ). Leads (serving (Means input)) (first_stage generator input) l there)
            (sym taken) on;
        served = refl;
        by_server = piece_within w.by_server w.to_server piece meets.by_server is;
        by_client = omega (arith, meets.by_client, grown_length w.to_client (sent_of there) grown);
      }

  happens_meet : (w : World) (e : Event) (end : World) → Happens input w e end → PartiesMeet generator input w
      → PartiesMeet generator input end
  happens_meet w e end (to_the_client count) meets = client_meets w count meets
  happens_meet w e end (to_the_server count there goes) meets = server_meets w count there goes meets

  pub runs_meet : (events : List Event) (w end : World) → Runs input events w end → PartiesMeet generator input w
      → PartiesMeet generator input end
  runs_meet [] w end same meets = subst (PartiesMeet generator input) same meets
  runs_meet (e ∷ es) w end (mid, one, rest) meets = runs_meet es mid end rest (happens_meet w e mid one meets)
