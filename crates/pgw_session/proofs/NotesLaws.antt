-- A client's notes are a view of the conversation.
use Rattle.std.proofs.Common.{◌≡◌, ℕ, suc, ◌+◌, List, [], ◌∷◌, ◌++◌, length, drop, map, fold, slice_get, None, arith, refl, ◌∙◌, ap, sym, append_assoc}
use Rattle.std.proofs.lemmas.List.Sums.{fold-append}
use Rattle.std.proofs.lemmas.List.{append-nil, length_push, map-append}
use Rattle.pgw_backend.specs.declared.backend.PgWireBackendMessage.{PgWireBackendMessage as Backend}
use Rattle.pgw_frontend.specs.declared.frontend.PgWireFrontendMessage.{PgWireFrontendMessage as Frontend}
use Rattle.pgw_session.specs.declared.types.Request.{Request}
use Rattle.pgw_session.specs.declared.stage.Stage.{Stage}
use Rattle.pgw_session.specs.declared.stage.Stage.TheVariants.{Starting}
use Rattle.pgw_session.specs.Input.{Input}
use Rattle.pgw_session.specs.Events.{Event, Sent, Got, all_events}
use Rattle.pgw_session.specs.Standings.{standing_of, standing_at, standing_by, first_standing}
use Rattle.pgw_session.specs.Answers.{tally_of, tally_at, tally_after, no_tally, answer_of, answers_of}
use Rattle.pgw_session.specs.Machine.{open_request, map_end, rules_by, beginning_by}
use Rattle.pgw_machine.specs.Course.{run, map_course}
use Rattle.pgw_session.specs.declared.types.Answer.{Answer}
use Rattle.pgw_session.specs.declared.tally.Tally.{Tally}
use Rattle.pgw_config.specs.declared.config.Config.{Config}
use Rattle.pgw_session.specs.Talk.{Talk, said, heard_of, first_passed, between, talk_book, beginning, conversation}
use Rattle.pgw_session.specs.Notes.{notes_book, first_notes, first_or, answer_for, noted_of, view}
use Rattle.pgw_session.proofs.Events.{clean_heard, joined_more, standing_one, standing_more, standing_plus}
use Rattle.pgw_session.proofs.Views.{IsBookView, run_view, start_view}

tally_none : (t : Tally) (fs : List Frontend) → fold tally_at t (map Sent fs) ≡ t
tally_none t [] = refl
tally_none t (f ∷ fs) = tally_none t fs

tally_sends : (es : List Event) (fs : List Frontend) → tally_of (es ++ map Sent fs) ≡ tally_of es
unfolding tally_of
tally_sends es fs = fold-append tally_at no_tally es (map Sent fs) ∙ tally_none (fold tally_at no_tally es) fs

tally_more : (es : List Event) (m : Backend) (fs : List Frontend)
    → tally_of (es ++ Got m ∷ map Sent fs) ≡ tally_after (tally_of es) m
unfolding tally_of
tally_more es m fs = fold-append tally_at no_tally es (Got m ∷ map Sent fs) ∙ tally_none _ fs

tally_nil : tally_of [] ≡ no_tally
unfolding tally_of
tally_nil = refl

standing_inside : (config : Config) (es more : List Event) (fs : List Frontend)
    → standing_of config ((es ++ map Sent fs) ++ more) ≡ standing_of config (es ++ more)
unfolding standing_of
standing_inside config es more fs =
    fold-append standing_at (first_standing config) (es ++ map Sent fs) more
    ∙ ap (λ r. fold standing_at r more) (standing_plus config es fs)
    ∙ sym (fold-append standing_at (first_standing config) es more)

none_passed : (ms : List Backend) → first_passed ms ≡ None → ms ≡ []
none_passed [] is = refl
none_passed (m ∷ ms) is = cc

first_more : (ms : List Backend) (m : Backend) → first_passed (ms ++ m ∷ []) ≡ first_or (first_passed ms) m
first_more [] m = refl
first_more (x ∷ ms) m = refl

-- one segment more, of the next request
answers_more : (qs : List Request) (closed : List (List Event)) (es : List Event)
    → answers_of qs (closed ++ es ∷ []) ≡ answers_of qs closed ++ answer_for (slice_get qs (length closed))
    (tally_of es)
answers_more [] [] es = refl
answers_more [] (first ∷ closed) es = refl
answers_more (q ∷ qs) [] es = refl
answers_more (q ∷ qs) (first ∷ closed) es =
    ap (λ (l : List Answer). answer_of q first ∷ l) (answers_more qs closed es)

answers_on : (input : Input) (closed : List (List Event)) (es : List Event)
    → answers_of input.requests (drop 1 (closed ++ es ∷ [])) ≡ answers_of input.requests (drop 1 closed) ++
    answer_for (open_request input (length closed)) (tally_of es)
answers_on input [] es = sym (append-nil (answers_of input.requests []))
answers_on input (first ∷ closed) es = answers_more input.requests closed es

-- ---- the notes, one by one

takes_view : (input : Input) (t : Talk) (m : Backend) (fs : List Frontend) (s : Stage)
    → first_passed t.passed ≡ None
    → notes_book.takes (view input t) m fs s ≡ view input ((talk_book input).takes t m fs s)
takes_view input t m fs s none =
    let clean = none_passed t.passed none in
    let tally = tally_more t.open_events m fs in
    let standing : standing_of input.config
    ((all_events t.closed ++ (t.open_events ++ Got m ∷ map Sent fs)) ++ []) ≡ standing_by
    (standing_of input.config (heard_of t)) m =
    ap (standing_of input.config) (append-nil _
    ∙ sym (append_assoc (all_events t.closed) t.open_events (Got m ∷ map Sent fs))
    ∙ sym (append_assoc (said t) (Got m ∷ []) (map Sent fs))
    ∙ ap (λ (l : List Event). (l ++ Got m ∷ []) ++ map Sent fs) (clean_heard t clean))
    ∙ standing_more input.config (heard_of t) m fs in
    cc

closes_view : (input : Input) (t : Talk) (m : Backend) → first_passed t.passed ≡ None
    → notes_book.closes (view input t) m (open_request input (length t.closed)) ≡ view input
    ((talk_book input).closes t m (open_request input (length t.closed)))
closes_view input t m none =
    let clean = none_passed t.passed none in
    let es = t.open_events ++ Got m ∷ [] in
    let tally = tally_more t.open_events m [] in
    let empty = tally_nil in
    let answers = answers_on input t.closed es in
    let count = length_push t.closed es in
    let one : length t.closed + 1 ≡ suc (length t.closed) = omega arith in
    let standing : standing_of input.config ((all_events (t.closed ++ es ∷ []) ++ []) ++ []) ≡ standing_by
    (standing_of input.config (heard_of t)) m =
    ap (standing_of input.config) (append-nil _ ∙ append-nil _ ∙ joined_more t.closed es
    ∙ sym (append_assoc (all_events t.closed) t.open_events (Got m ∷ []))
    ∙ ap (λ (l : List Event). l ++ Got m ∷ []) (clean_heard t clean))
    ∙ standing_one input.config (heard_of t) m in
    cc

passes_view : (input : Input) (t : Talk) (m : Backend)
    → notes_book.passes (view input t) m ≡ view input ((talk_book input).passes t m)
passes_view input t m =
    let first = first_more t.passed m in
    let standing : standing_of input.config (said t ++ map Got (t.passed ++ m ∷ [])) ≡ standing_by
    (standing_of input.config (heard_of t)) m =
    ap (λ (l : List Event). standing_of input.config (said t ++ l)) (map-append Got t.passed (m ∷ []))
    ∙ ap (standing_of input.config) (sym (append_assoc (said t) (map Got t.passed) (Got m ∷ [])))
    ∙ standing_one input.config (heard_of t) m in
    cc

opens_view : (input : Input) (t : Talk) (fs : List Frontend) (s : Stage)
    → notes_book.opens (view input t) fs s ≡ view input ((talk_book input).opens t fs s)
opens_view input t fs s =
    let tally = tally_sends t.open_events fs in
    let standing : standing_of input.config
    ((all_events t.closed ++ (t.open_events ++ map Sent fs)) ++ map Got t.passed) ≡ standing_of input.config
    (heard_of t) =
    ap (λ (l : List Event). standing_of input.config (l ++ map Got t.passed))
    (sym (append_assoc (all_events t.closed) t.open_events (map Sent fs)))
    ∙ standing_inside input.config (said t) (map Got t.passed) fs in
    cc

notes_view : (input : Input) → IsBookView input (talk_book input) notes_book (view input)
notes_view input = record {
  stage = λ t. refl;
  closed = λ t. refl;
  first_passed = λ t. refl;
  standing = λ t. refl;
  opens = opens_view input;
  takes = takes_view input;
  closes = closes_view input;
  passes = passes_view input;
}

first_view : (input : Input) → first_notes input ≡ view input (between [])
unfolding tally_of standing_of
first_view input = go input.requests
  where
    go : (qs : List Request)
        → first_notes input ≡ record {
          stage = Starting;
          standing = first_standing input.config;
          tally = no_tally;
          answers = answers_of qs
              [];
          closed = 0;
          first_passed = None;
        }
    go [] = refl
    go (q ∷ qs) = refl

-- what a client notes of the bytes is a view of their conversation
pub notes_tell : (input : Input) (bytes : List ℕ)
    → noted_of input bytes ≡ map_course (view input) (map_end (view input)) (conversation input bytes)
unfolding noted_of conversation
notes_tell input bytes =
    ap (λ n. run (rules_by notes_book input) (beginning_by notes_book input n) bytes) (first_view input)
    ∙ ap (λ c. run (rules_by notes_book input) c bytes)
    (start_view input (talk_book input) notes_book (view input) (notes_view input) (between []))
    ∙ run_view input (talk_book input) notes_book (view input) (notes_view input) (beginning input) bytes
