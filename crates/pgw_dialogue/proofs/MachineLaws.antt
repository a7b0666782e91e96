-- What the client's steps do, by the machine of a session.
use Rattle.std.proofs.Common.{◌≡◌, ◌<◌, ◌-◌, ℕ, zero, suc, List, [], ◌∷◌, ◌++◌, Bool, true, false, Option, Some, None, Result, Ok, Err, arith, refl, ap, sym, subst, ◌∙◌, slice_get}
use Rattle.std.proofs.lemmas.List.{append-nil}
use Rattle.std.specs.Option.{is_some}
use Rattle.pgw_types.specs.declared.error.PgWireError.{PgWireError}
use Rattle.pgw_backend.specs.ClientError.{IsUnexpected}
use Rattle.pgw_frontend.specs.Frontend.{encodings}
use Rattle.pgw_backend.specs.declared.backend.PgWireBackendMessage.{PgWireBackendMessage as Backend}
use Rattle.pgw_backend.specs.declared.client_error.PgWireClientError.{PgWireClientError as ClientError}
use Rattle.pgw_backend.specs.declared.client_error.PgWireClientError.TheVariants as client
use Rattle.pgw_machine.specs.Course.{Begins, On, Waits, onto, sent_of}
use Rattle.pgw_machine.proofs.CourseLaws.{sent_grows}
use Rattle.pgw_session.specs.declared.types.Request.{Request}
use Rattle.pgw_session.specs.declared.notes.Notes.{Notes}
use Rattle.pgw_session.specs.declared.stage.Stage.TheVariants.{Starting}
use Rattle.pgw_session.specs.declared.stage.Next.{Next}
use Rattle.pgw_session.specs.declared.stage.Next.TheVariants.{Wrong, Refuses, PassesOver}
use Rattle.pgw_session.specs.Input.{Input}
use Rattle.pgw_session.specs.Requests.{sends_of}
use Rattle.pgw_session.specs.Segments.{startup_message}
use Rattle.pgw_session.specs.Standings.{standing_by}
use Rattle.pgw_session.specs.Table.{next_after, stage_for}
use Rattle.pgw_session.specs.Machine.{Unencoded, Unexpected, Refused, open_request, moves_by, opens_next, passes_by, rules_by, sending, turn_by}
use Rattle.pgw_session.specs.declared.tally.Tally.{Tally}
use Rattle.pgw_session.specs.declared.types.Answer.{Answer}
use Rattle.pgw_session.specs.Notes.{answer_for, first_notes, first_or, notes_book}
use Rattle.pgw_dialogue.specs.Machine.{AnswersMove, NotesCourse, DialoguePasses, StartsRun, runs}
use Rattle.pgw_dialogue.specs.Wire.{PutOut}

-- what was written before the rest of a run is the beginning of what it puts out
pub begins_at : (input : Input) (notes : Notes) (wrote rest : List ℕ) (course : NotesCourse)
    → course ≡ runs input notes wrote rest → Begins course wrote
begins_at input notes wrote rest course is =
    let grows = sent_grows (rules_by notes_book input) (Waits notes wrote []) rest in
    (grows.0, ap (λ c. sent_of c) is ∙ grows.1)

-- the request whose segment is open
pub answered_at : (input : Input) (n : ℕ) → 0 < n → open_request input n ≡ slice_get input.requests (n - 1)
answered_at input zero some = absurd (omega (arith, some))
answered_at input (suc k) some = ap (slice_get input.requests) (omega arith)

-- messages that are due have no encoding
pub unsent : (before behind new : Notes) (o : Result (List ℕ) PgWireError) (old_out new_out : List ℕ)
    (e : ClientError)
    → PutOut o old_out new_out (Err e) → AnswersMove (sending before behind o) new old_out new_out (Err e)
unsent before behind new o old_out new_out e put = (
  put.0,
  λ ne. let p =
      put.1 ne in (
        record { notes = before; outcome = Unencoded p.0 },
        ap (sending before behind) p.1,
        ap Some (sym p.2),
      ),
)

-- they were put out
pub sent : (before behind new : Notes) (o : Result (List ℕ) PgWireError) (old_out new_out : List ℕ)
    (done : Unit {0})
    → PutOut o old_out new_out (Ok done) → new ≡ behind
    → AnswersMove (sending before behind o) new old_out new_out (Ok false)
sent before behind new o old_out new_out done put is =
    (put.0, ap (sending before behind) put.1 ∙ ap (λ (n : Notes). On n put.0) (sym is), put.2)

-- ---- the next request

abbrev one_more : Notes → Notes
one_more n = record n { closed = suc n.closed }

pub none_opened : (n : Notes) (q : Option Request) (out : List ℕ) → q ≡ None
    → AnswersMove (opens_next notes_book (record n { closed = suc n.closed }) q) n out out (Ok true)
none_opened n q out is = (ap (opens_next notes_book (one_more n)) is, refl)

pub some_opened : (n new : Notes) (q : Option Request) (request : Request) (old_out new_out : List ℕ)
    (done : Unit {0})
    → q ≡ Some request → PutOut (encodings (sends_of request)) old_out new_out (Ok done)
    → new ≡ record n { stage = stage_for request; closed = suc n.closed }
    → AnswersMove (opens_next notes_book (record n { closed = suc n.closed }) q) new old_out new_out
    (Ok false)
some_opened n new q request old_out new_out done is put are =
    let m =
    sent (one_more n) (record n { stage = stage_for request; closed = suc n.closed }) new
    (encodings (sends_of request)) old_out new_out done put are in
    (m.0, ap (opens_next notes_book (one_more n)) is ∙ m.1, m.2)

pub unopened : (n new : Notes) (q : Option Request) (request : Request) (old_out new_out : List ℕ)
    (e : ClientError)
    → q ≡ Some request → PutOut (encodings (sends_of request)) old_out new_out (Err e)
    → AnswersMove (opens_next notes_book (record n { closed = suc n.closed }) q) new old_out new_out (Err e)
unopened n new q request old_out new_out e is put =
    let m =
    unsent (one_more n) (record n { stage = stage_for request; closed = suc n.closed }) new
    (encodings (sends_of request)) old_out new_out e put in
    (m.0, λ ne. let s = m.1 ne in (s.0, ap (opens_next notes_book (one_more n)) is ∙ s.1, s.2))

-- ---- answers

pub no_answer : (input : Input) (n : ℕ) (tally : Tally) (answers : List Answer) → 0 < n
    → slice_get input.requests (n - 1) ≡ None → answers ≡ answers ++ answer_for (open_request input n) tally
no_answer input n tally answers some none =
    sym (ap (λ q. answers ++ answer_for q tally) (answered_at input n some ∙ none) ∙ append-nil answers)

-- ---- what the table says of a message

pub wrong_moved : (input : Input) (n new : Notes) (m : Backend) (x : Next) (out : List ℕ) (e : ClientError)
    → x ≡ Wrong → IsUnexpected m e → AnswersMove (moves_by notes_book input n m x) new out out (Err e)
wrong_moved input n new m x out (client.UnexpectedMessage other) is same = (
  refl,
  λ ne. (
    record { notes = n; outcome = Unexpected m },
    ap (moves_by notes_book input n m) is,
    ap (λ y. Some (client.UnexpectedMessage y)) (sym same),
  ),
)
wrong_moved input n new m x out client.OutOfMemory is same = (refl, λ ne. absurd (ne refl))
wrong_moved input n new m x out e is same = absurd same

pub refuses_moved : (input : Input) (n new : Notes) (m : Backend) (x : Next) (out : List ℕ) (e : ClientError)
    → x ≡ Refuses e → AnswersMove (moves_by notes_book input n m x) new out out (Err e)
refuses_moved input n new m x out e is =
    (refl, λ ne. (record { notes = n; outcome = Refused e }, ap (moves_by notes_book input n m) is, refl))

pub first_moved : (input : Input) (n new : Notes) (m : Backend) (x : Next) (out : List ℕ) → x ≡ PassesOver
    → n.first_passed ≡ None → new ≡ record n { standing = standing_by n.standing m; first_passed = Some m }
    → AnswersMove (moves_by notes_book input n m x) new out out (Ok false)
first_moved input n new m x out is clean are =
    let same : notes_book.passes n m ≡ new =
    ap (λ f. record n { standing = standing_by n.standing m; first_passed = first_or f m }) clean ∙ sym are in
    ([], ap (moves_by notes_book input n m) is ∙ ap (λ (y : Notes). On y []) same, sym (append-nil out))

-- ---- messages passed over

pub passed_moved : (input : Input) (n new : Notes) (m first : Backend) (out : List ℕ)
    (r : Result Bool ClientError)
    → n.first_passed ≡ Some first → DialoguePasses (record n { first_passed = None }) new first m r
    → AnswersMove (turn_by notes_book input n m n.first_passed) new out out r
passed_moved input n new m first out (Ok true) is p = absurd (cc)
passed_moved input n new m first out (Ok false) is p =
    let same : notes_book.passes n m ≡ new =
    ap (λ f. record n { standing = standing_by n.standing m; first_passed = first_or f m }) is ∙ sym p.2 in (
      [],
      ap (turn_by notes_book input n m) is ∙ ap (passes_by notes_book n first m) p.1
          ∙ ap (λ (y : Notes). On y []) same,
      sym (append-nil out),
    )
passed_moved input n new m first out (Err e) is p = (
  refl,
  λ ne.
      let q = p ne in (
        record { notes = n; outcome = Unexpected first },
        ap (turn_by notes_book input n m) is
            ∙ ap (passes_by notes_book n first m) q.0,
        ap Some (sym q.1),
      ),
)

-- none was passed over
pub clean_moved : (input : Input) (n new : Notes) (m : Backend) (old_out new_out : List ℕ)
    (r : Result Bool ClientError)
    → is_some n.first_passed ≡ false
    → AnswersMove (moves_by notes_book input n m (next_after input n.stage m)) new old_out new_out r
    → AnswersMove (turn_by notes_book input n m n.first_passed) new old_out new_out r
clean_moved input n new m old_out new_out r clean moved = go n.first_passed clean
  where
    go : (passed : Option Backend) → is_some passed ≡ false
        → AnswersMove (turn_by notes_book input n m passed) new old_out new_out r
    go None is = moved
    go (Some first) is = absurd cc

-- ---- the startup message

-- it has no encoding
pub not_started : (input : Input) (old_out new_out : List ℕ) (e : ClientError) → old_out ≡ []
    → PutOut (encodings (startup_message input ∷ [])) old_out new_out (Err e) → StartsRun input new_out (Err e)
not_started input old_out new_out e none put = (
  put.0 ∙ none,
  λ ne.
      let p = put.1 ne in (
        record { notes = first_notes input; outcome = Unencoded p.0 },
        ap (λ o. onto [] (sending (first_notes input)
            (notes_book.opens (first_notes input) (startup_message input ∷ []) Starting) o)) p.1,
        ap Some (sym p.2),
      ),
)
