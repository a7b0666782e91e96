-- Where one notebook is a view of another, the machines over them run alike.
use Rattle.std.proofs.Common.{◌≡◌, ℕ, List, [], ◌∷◌, slice_get, Option, Some, None, Result, Ok, Err, Bool, true, false, refl, ◌∙◌, ap}
use Rattle.pgw_types.specs.declared.error.PgWireError.{PgWireError}
use Rattle.pgw_frontend.specs.Frontend.{encodings}
use Rattle.pgw_backend.specs.declared.backend.PgWireBackendMessage.{PgWireBackendMessage as Backend}
use Rattle.pgw_frontend.specs.declared.frontend.PgWireFrontendMessage.{PgWireFrontendMessage as Frontend}
use Rattle.pgw_session.specs.declared.types.Request.{Request}
use Rattle.pgw_session.specs.declared.stage.Stage.{Stage}
use Rattle.pgw_session.specs.declared.stage.Stage.TheVariants.{Starting}
use Rattle.pgw_session.specs.declared.stage.Next.{Next}
use Rattle.pgw_session.specs.declared.stage.Next.TheVariants.{Goes, Closes, Wrong, Refuses, PassesOver}
use Rattle.pgw_session.specs.declared.standing.Standing.{Standing}
use Rattle.pgw_session.specs.Input.{Input}
use Rattle.pgw_session.specs.Requests.{sends_of}
use Rattle.pgw_session.specs.Segments.{startup_message, is_ready, sends}
use Rattle.pgw_session.specs.Table.{next_after, stage_for}
use Rattle.pgw_machine.specs.Course.{On, Course, onto, run, map_course, map_move, IsView}
use Rattle.pgw_machine.proofs.CourseLaws.{run_seen, onto_seen}
use Rattle.pgw_session.specs.Reading.{version_front}
use Rattle.pgw_session.specs.Machine.{Notebook, End, map_end, open_request, sending, opens_next, moves_by, passes_by, turn_by, rules_by, beginning_by}

-- each note of the second is the view of the first's
pub record IsBookView {N M : Type 0} (input : Input) (a : Notebook N) (b : Notebook M) (f : N → M) : Type 0 where
  pub stage : (n : N) → b.stage (f n) ≡ a.stage n
  pub closed : (n : N) → b.closed (f n) ≡ a.closed n
  pub first_passed : (n : N) → b.first_passed (f n) ≡ a.first_passed n
  pub standing : (n : N) → b.standing (f n) ≡ a.standing n
  pub opens : (n : N) (fs : List Frontend) (s : Stage) → b.opens (f n) fs s ≡ f (a.opens n fs s)
  pub takes : (n : N) (m : Backend) (fs : List Frontend) (s : Stage) → a.first_passed n ≡ None
      → b.takes (f n) m fs s ≡ f (a.takes n m fs s)
  pub closes : (n : N) (m : Backend) → a.first_passed n ≡ None
      → b.closes (f n) m (open_request input (a.closed n)) ≡ f (a.closes n m (open_request input (a.closed n)))
  pub passes : (n : N) (m : Backend) → b.passes (f n) m ≡ f (a.passes n m)

sending_view : {N M : Type 0} (f : N → M) (x y : N) (x' y' : M) (o : Result (List ℕ) PgWireError) → x' ≡ f x
    → y' ≡ f y → sending x' y' o ≡ map_move f (map_end f) (sending x y o)
sending_view f x y x' y' (Err e) p q = cc
sending_view f x y x' y' (Ok bytes) p q = cc

next_view : {N M : Type 0} (input : Input) (a : Notebook N) (b : Notebook M) (f : N → M) → IsBookView input a b f
    → (n : N) (n' : M) (q : Option Request) → n' ≡ f n
    → opens_next b n' q ≡ map_move f (map_end f) (opens_next a n q)
next_view input a b f v n n' None is = cc
next_view input a b f v n n' (Some q) is =
    sending_view f n (a.opens n (sends_of q) (stage_for q)) n' (b.opens n' (sends_of q) (stage_for q))
    (encodings (sends_of q)) is (ap (λ x. b.opens x (sends_of q) (stage_for q)) is
    ∙ v.opens n (sends_of q) (stage_for q))

moves_view : {N M : Type 0} (input : Input) (a : Notebook N) (b : Notebook M) (f : N → M) → IsBookView input a b f
    → (n : N) (m : Backend) (x : Next) → a.first_passed n ≡ None
    → moves_by b input (f n) m x ≡ map_move f (map_end f) (moves_by a input n m x)
moves_view input a b f v n m (Goes s reply) clean =
    sending_view f (a.takes n m [] s) (a.takes n m (sends reply) s) _ _ (encodings (sends reply))
    (v.takes n m [] s clean) (v.takes n m (sends reply) s clean)
moves_view input a b f v n m Closes clean =
    ap (λ k. opens_next b (b.closes (f n) m (open_request input k)) (slice_get input.requests k)) (v.closed n)
    ∙ next_view input a b f v (a.closes n m (open_request input (a.closed n))) _
    (slice_get input.requests (a.closed n)) (v.closes n m clean)
moves_view input a b f v n m Wrong clean = refl
moves_view input a b f v n m (Refuses e) clean = refl
moves_view input a b f v n m PassesOver clean = ap (λ x. On x []) (v.passes n m)

passing_view : {N M : Type 0} (input : Input) (a : Notebook N) (b : Notebook M) (f : N → M)
    → IsBookView input a b f → (n : N) (m first : Backend) (x : Bool)
    → passes_by b (f n) first m x ≡ map_move f (map_end f) (passes_by a n first m x)
passing_view input a b f v n m first true = refl
passing_view input a b f v n m first false = ap (λ x. On x []) (v.passes n m)

turn_view : {N M : Type 0} (input : Input) (a : Notebook N) (b : Notebook M) (f : N → M) → IsBookView input a b f
    → (n : N) (m : Backend) (o : Option Backend) → a.first_passed n ≡ o
    → turn_by b input (f n) m o ≡ map_move f (map_end f) (turn_by a input n m o)
turn_view input a b f v n m None clean =
    ap (λ s. moves_by b input (f n) m (next_after input s m)) (v.stage n)
    ∙ moves_view input a b f v n m (next_after input (a.stage n) m) clean
turn_view input a b f v n m (Some first) is = passing_view input a b f v n m first (is_ready m)

turn_from : {N M : Type 0} (input : Input) (a : Notebook N) (b : Notebook M) (f : N → M) → IsBookView input a b f
    → (n : N) (m : Backend)
    → turn_by b input (f n) m (b.first_passed (f n)) ≡ map_move f (map_end f)
    (turn_by a input n m (a.first_passed n))
turn_from input a b f v n m =
    ap (turn_by b input (f n) m) (v.first_passed n) ∙ turn_view input a b f v n m (a.first_passed n) refl

book_view : {N M : Type 0} (input : Input) (a : Notebook N) (b : Notebook M) (f : N → M) → IsBookView input a b f
    → IsView f (map_end f) (rules_by a input) (rules_by b input)
book_view input a b f v = record {
  read = λ n bytes. ap (λ (s : Standing). version_front s.version bytes) (v.standing n);
  step = turn_from input a b f v;
  bad = λ n why. refl;
}

pub run_view : {N M : Type 0} (input : Input) (a : Notebook N) (b : Notebook M) (f : N → M)
    → IsBookView input a b f → (c : Course N (End N)) (bytes : List ℕ)
    → run (rules_by b input) (map_course f (map_end f) c) bytes ≡ map_course f (map_end f)
    (run (rules_by a input) c bytes)
run_view input a b f v c bytes =
    run_seen f (map_end f) (rules_by a input) (rules_by b input) (book_view input a b f v) c bytes

pub start_view : {N M : Type 0} (input : Input) (a : Notebook N) (b : Notebook M) (f : N → M)
    → IsBookView input a b f → (n : N)
    → beginning_by b input (f n) ≡ map_course f (map_end f) (beginning_by a input n)
start_view input a b f v n =
    ap (onto []) (sending_view f n (a.opens n (startup_message input ∷ []) Starting) (f n) _
    (encodings (startup_message input ∷ [])) refl (v.opens n (startup_message input ∷ []) Starting))
    ∙ onto_seen f (map_end f) []
    (sending n (a.opens n (startup_message input ∷ []) Starting) (encodings (startup_message input ∷ [])))
