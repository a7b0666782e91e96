-- A machine that goes by the last request alone, seen as that of the whole session.
use Rattle.std.proofs.Common.{◌≡◌, ℕ, suc, ◌+◌, List, [], ◌∷◌, ◌++◌, length, slice_get, Option, Some, None, Result, Ok, Err, Bool, true, false, arith, refl, ◌∙◌, ap, sym, subst, append_assoc}
use Rattle.pgw_types.specs.declared.error.PgWireError.{PgWireError}
use Rattle.pgw_frontend.specs.Frontend.{encodings}
use Rattle.pgw_backend.specs.declared.backend.PgWireBackendMessage.{PgWireBackendMessage as Backend}
use Rattle.pgw_config.specs.declared.config.Config.{Config}
use Rattle.pgw_machine.specs.Course.{On, Ends, map_move}
use Rattle.pgw_session.specs.declared.notes.Notes.{Notes}
use Rattle.pgw_session.specs.declared.stage.Kind.{Kind}
use Rattle.pgw_session.specs.declared.stage.Next.{Next}
use Rattle.pgw_session.specs.declared.stage.Next.TheVariants.{Goes, Closes, Wrong, Refuses, PassesOver}
use Rattle.pgw_session.specs.declared.stage.Role.{Role}
use Rattle.pgw_session.specs.declared.stage.Role.TheVariants.{Taken, Closing, Completing, Failing, Misplaced}
use Rattle.pgw_session.specs.declared.stage.Stage.{Stage}
use Rattle.pgw_session.specs.declared.stage.Stage.TheVariants.{Answering, PassingOver}
use Rattle.pgw_session.specs.declared.types.Answer.{Answer}
use Rattle.pgw_session.specs.declared.types.Request.{Request}
use Rattle.pgw_session.specs.Answers.{tally_after}
use Rattle.pgw_session.specs.Input.{Input, input_with}
use Rattle.pgw_session.specs.Machine.{Complete, End, open_request, map_end, moves_by, opens_next, passes_by, rules_by, sending, turn_by}
use Rattle.pgw_session.specs.Notes.{answer_for, notes_book}
use Rattle.pgw_session.specs.Requests.{passes_over, role}
use Rattle.pgw_session.specs.Segments.{is_ready, sends}
use Rattle.pgw_session.specs.Table.{next_after, by_ready, by_role, misplaced}
use Rattle.pgw_client_push.specs.Behind.{notes_behind}
use Rattle.pgw_client_push.specs.Standing.{IsRequests}
use Rattle.pgw_client_push.proofs.ViewLaws.{IsViewWhere}

-- the notes of a request's open segment
abbrev pub IsOfRequest : Notes → Type 0
IsOfRequest n = IsRequests n.stage × (n.closed ≡ 1) × (n.answers ≡ [])

-- ---- the requests

get_last : (before : List Request) (q : Request) → slice_get (before ++ q ∷ []) (length before) ≡ Some q
get_last [] q = refl
get_last (x ∷ before) q = get_last before q

get_past : (before : List Request) (q : Request) → slice_get (before ++ q ∷ []) (suc (length before)) ≡ None
get_past [] q = refl
get_past (x ∷ before) q = get_past before q

-- ---- the stage stays that of a request's segment

misplaced_goes : (b : Bool) (stage : Stage) (reply : _) → misplaced b ≡ Goes stage reply → IsRequests stage
misplaced_goes true stage reply is = absurd (cc)
misplaced_goes false stage reply is = absurd (cc)

role_goes : (k : Kind) (r : Role) (stage : Stage) (reply : _) → by_role k r ≡ Goes stage reply → IsRequests stage
role_goes k (Taken rows) stage reply is = let same : Answering k rows ≡ stage = cc in subst IsRequests same tt
role_goes k Closing stage reply is = absurd (cc)
role_goes k Completing stage reply is = let same : PassingOver ≡ stage = cc in subst IsRequests same tt
role_goes k Failing stage reply is = let same : PassingOver ≡ stage = cc in subst IsRequests same tt
role_goes k Misplaced stage reply is = misplaced_goes (passes_over k) stage reply is

ready_goes : (b : Bool) (stage : Stage) (reply : _) → by_ready b ≡ Goes stage reply → IsRequests stage
ready_goes true stage reply is = absurd (cc)
ready_goes false stage reply is = let same : PassingOver ≡ stage = cc in subst IsRequests same tt

after_goes : (input : Input) (s : Stage) (m : Backend) (stage : Stage) (reply : _) → IsRequests s
    → next_after input s m ≡ Goes stage reply → IsRequests stage
after_goes input (Answering k rows) m stage reply here is = role_goes k (role k rows m) stage reply is
after_goes input PassingOver m stage reply here is = ready_goes (is_ready m) stage reply is
after_goes input s m stage reply here is = absurd here

sending_goes : (first second next : Notes) (o : Result (List ℕ) PgWireError) (out : List ℕ)
    → sending first second o ≡ On next out → second ≡ next
sending_goes first second next (Err e) out is = absurd (cc)
sending_goes first second next (Ok bytes) out is = cc

-- no request stands behind the last
none_next : (q : Request) (n : Notes) → n.closed ≡ 1 → slice_get (q ∷ []) n.closed ≡ None
none_next q n one = ap (slice_get (q ∷ [])) one

module _ (config : Config) (nonce : List ℕ) (q : Request) where
  abbrev one : Input
  one = input_with config (q ∷ []) nonce

  moves_keep : (n next : Notes) (m : Backend) (out : List ℕ) (x : Next) → IsOfRequest n
      → ((stage : Stage) (reply : _) → x ≡ Goes stage reply → IsRequests stage)
      → moves_by notes_book one n m x ≡ On next out → IsOfRequest next
  moves_keep n next m out (Goes stage reply) here goes is =
      let same =
      sending_goes (notes_book.takes n m [] stage) (notes_book.takes n m (sends reply) stage) next
      (encodings (sends reply)) out is in
      subst IsOfRequest same (goes stage reply refl, here.1, here.2)
  moves_keep n next m out Closes here goes is =
      let ends =
      ap (opens_next notes_book (notes_book.closes n m (open_request one n.closed))) (none_next q n here.1) in
      absurd (cc)
  moves_keep n next m out Wrong here goes is = absurd (cc)
  moves_keep n next m out (Refuses e) here goes is = absurd (cc)
  moves_keep n next m out PassesOver here goes is =
      let same : notes_book.passes n m ≡ next = cc in
      subst IsOfRequest same here

  passes_keep : (n next : Notes) (m first : Backend) (out : List ℕ) (b : Bool) → IsOfRequest n
      → passes_by notes_book n first m b ≡ On next out → IsOfRequest next
  passes_keep n next m first out true here is = absurd (cc)
  passes_keep n next m first out false here is =
      let same : notes_book.passes n m ≡ next = cc in
      subst IsOfRequest same here

  turn_keeps : (n next : Notes) (m : Backend) (out : List ℕ) (o : Option Backend) → IsOfRequest n
      → turn_by notes_book one n m o ≡ On next out → IsOfRequest next
  turn_keeps n next m out None here is =
      moves_keep n next m out (next_after one n.stage m) here
      (λ stage reply. after_goes one n.stage m stage reply here.0) is
  turn_keeps n next m out (Some first) here is = passes_keep n next m first out (is_ready m) here is

  -- ---- the whole session

  module _ (before : List Request) (earlier : List Answer) where
    abbrev all : Input
    all = input_with config (before ++ q ∷ []) nonce

    abbrev f : Notes → Notes
    f = notes_behind (length before) earlier

    same_after : (s : Stage) (m : Backend) → IsRequests s → next_after all s m ≡ next_after one s m
    same_after (Answering k rows) m here = refl
    same_after PassingOver m here = refl
    same_after s m here = absurd here

    sending_seen : (first second : Notes) (o : Result (List ℕ) PgWireError)
        → sending (f first) (f second) o ≡ map_move f (map_end f) (sending first second o)
    sending_seen first second (Err e) = refl
    sending_seen first second (Ok bytes) = refl

    closes_seen : (n : Notes) (m : Backend) → IsOfRequest n
        → opens_next notes_book (notes_book.closes (f n) m (open_request all (n.closed + length before)))
        (slice_get (before ++ q ∷ []) (n.closed + length before)) ≡ map_move f (map_end f)
        (opens_next notes_book (notes_book.closes n m (open_request one n.closed)) (slice_get (q ∷ []) n.closed))
    closes_seen n m here =
        let k = length before in
        let count : n.closed + k ≡ suc k = omega (arith, here.1) in
        let here_closed = here.1 in
        let was : open_request all (n.closed + k) ≡ Some q = ap (open_request all) count ∙ get_last before q in
        let is : open_request one n.closed ≡ Some q = ap (open_request one) here.1 in
        let none : slice_get (before ++ q ∷ []) (n.closed + k) ≡ None =
        ap (slice_get (before ++ q ∷ [])) count ∙ get_past before q in
        let tally = tally_after n.tally m in
        let answers : (earlier ++ n.answers) ++ answer_for (Some q) tally ≡ earlier ++
        (n.answers ++ answer_for (Some q) tally) =
        append_assoc earlier n.answers (answer_for (Some q) tally) in
        let closed : suc (n.closed + k) ≡ suc n.closed + k = omega arith in
        let notes : notes_book.closes (f n) m (Some q) ≡ f (notes_book.closes n m (Some q)) = cc in
        ap (λ o. opens_next notes_book (notes_book.closes (f n) m o)
        (slice_get (before ++ q ∷ []) (n.closed + k))) was
        ∙ ap (opens_next notes_book (notes_book.closes (f n) m (Some q))) none
        ∙ ap (λ (x : Notes). opens_next notes_book x None) notes
        ∙ ap (λ o. map_move f (map_end f) (opens_next notes_book (notes_book.closes n m o) None)) (sym is)
        ∙ ap (λ o. map_move f (map_end f)
        (opens_next notes_book (notes_book.closes n m (open_request one n.closed)) o))
        (sym (none_next q n here.1))

    moves_seen : (n : Notes) (m : Backend) (x : Next) → IsOfRequest n
        → moves_by notes_book all (f n) m x ≡ map_move f (map_end f) (moves_by notes_book one n m x)
    moves_seen n m (Goes stage reply) here =
        sending_seen (notes_book.takes n m [] stage) (notes_book.takes n m (sends reply) stage)
        (encodings (sends reply))
    moves_seen n m Closes here = closes_seen n m here
    moves_seen n m Wrong here = refl
    moves_seen n m (Refuses e) here = refl
    moves_seen n m PassesOver here = refl

    passes_seen : (n : Notes) (m first : Backend) (b : Bool)
        → passes_by notes_book (f n) first m b ≡ map_move f (map_end f) (passes_by notes_book n first m b)
    passes_seen n m first true = refl
    passes_seen n m first false = refl

    turn_seen : (n : Notes) (m : Backend) (o : Option Backend) → IsOfRequest n
        → turn_by notes_book all (f n) m o ≡ map_move f (map_end f) (turn_by notes_book one n m o)
    turn_seen n m None here =
        ap (moves_by notes_book all (f n) m) (same_after n.stage m here.0)
        ∙ moves_seen n m (next_after one n.stage m) here
    turn_seen n m (Some first) here = passes_seen n m first (is_ready m)

    pub last_view : IsViewWhere IsOfRequest f (map_end f) (rules_by notes_book one) (rules_by notes_book all)
    last_view = record {
      read = λ n bytes. refl;
      step = λ n m. turn_seen n m n.first_passed;
      keeps = λ n next m out. turn_keeps n next m out n.first_passed;
      bad = λ n why. refl;
    }

-- ---- the answer

-- the message that closes the segment gives the request's answer
module _ (config : Config) (nonce : List ℕ) (q : Request) where
  abbrev input : Input
  input = input_with config (q ∷ []) nonce

  abbrev Gives : Notes → Type 0
  Gives new = (answer : Answer) × (new.answers ≡ answer ∷ [])

  sending_ends : (first second : Notes) (end : End Notes) (o : Result (List ℕ) PgWireError)
      → end.outcome ≡ Complete → sending first second o ≡ Ends end [] → Gives end.notes
  sending_ends first second end (Err e) whole is = absurd (cc)
  sending_ends first second end (Ok bytes) whole is = absurd (cc)

  closes_gives : (n : Notes) (end : End Notes) (m : Backend) → IsOfRequest n
      → opens_next notes_book (notes_book.closes n m (open_request input n.closed)) (slice_get (q ∷ []) n.closed)
      ≡
      Ends end []
      → Gives end.notes
  closes_gives n end m here is =
      let asked : open_request input n.closed ≡ Some q = ap (open_request input) here.1 in
      let ends =
      ap (opens_next notes_book (notes_book.closes n m (open_request input n.closed))) (none_next q n here.1) in
      let same : end.notes ≡ notes_book.closes n m (open_request input n.closed) = cc in (
        _,
        ap (λ (x : Notes). x.answers) same
            ∙ ap (λ (l : List Answer). l ++ answer_for (open_request input n.closed) (tally_after n.tally m))
            here.2
            ∙ ap (λ o. answer_for o (tally_after n.tally m)) asked,
      )

  moves_give : (n : Notes) (end : End Notes) (m : Backend) (x : Next) → IsOfRequest n → end.outcome ≡ Complete
      → moves_by notes_book input n m x ≡ Ends end [] → Gives end.notes
  moves_give n end m (Goes stage reply) here whole is =
      sending_ends (notes_book.takes n m [] stage) (notes_book.takes n m (sends reply) stage) end
      (encodings (sends reply)) whole is
  moves_give n end m Closes here whole is = closes_gives n end m here is
  moves_give n end m Wrong here whole is = absurd (cc)
  moves_give n end m (Refuses e) here whole is = absurd (cc)
  moves_give n end m PassesOver here whole is = absurd (cc)

  passes_give : (n : Notes) (end : End Notes) (m first : Backend) (b : Bool) → end.outcome ≡ Complete
      → passes_by notes_book n first m b ≡ Ends end [] → Gives end.notes
  passes_give n end m first true whole is = absurd (cc)
  passes_give n end m first false whole is = absurd (cc)

  pub turn_gives : (n : Notes) (end : End Notes) (m : Backend) (o : Option Backend) → IsOfRequest n
      → end.outcome ≡ Complete → turn_by notes_book input n m o ≡ Ends end [] → Gives end.notes
  turn_gives n end m None here whole is = moves_give n end m (next_after input n.stage m) here whole is
  turn_gives n end m (Some first) here whole is = passes_give n end m first (is_ready m) whole is
