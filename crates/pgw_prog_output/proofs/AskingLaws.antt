-- How an answer ends.
use Rattle.std.proofs.Common.{◌≡◌, ◌∙◌, ◌<◌, ◌≤◌, ◌+◌, ℕ, suc, List, [], ◌∷◌, ◌++◌, length, drop, get_or, Bool}
use Rattle.std.proofs.Common.{true, false, Some, None, refl, sym, ap, subst, arith, add-one, length-drop}
use Rattle.std.proofs.Common.{drop-cons}
use Rattle.std.proofs.lemmas.List.{append-nil, nil_from_length}
use Rattle.pgw_prog_output.specs.declared.printer.RowFormat.{RowFormat}
use Rattle.pgw_backend.specs.declared.backend.PgWireBackendMessage.{PgWireBackendMessage as Backend}
use Rattle.pgw_backend.specs.declared.client_error.PgWireClientError.{PgWireClientError as ClientError}
use Rattle.pgw_backend.specs.declared.client_error.PgWireClientError.TheVariants as client
use Rattle.pgw_prog_output.specs.declared.said.Said.{Said}
use Rattle.pgw_prog_output.specs.declared.answer.Answer.{Answer}
use Rattle.pgw_prog_output.specs.declared.page.Stop.{Stop}
use Rattle.pgw_prog_output.specs.declared.page.Stop.TheVariants as stop
use Rattle.pgw_prog_output.specs.declared.asking.Halt.{Halt}
use Rattle.pgw_prog_output.specs.declared.asking.Halt.TheVariants as halt
use Rattle.pgw_prog_output.specs.declared.asking.AnswerEnd.{AnswerEnd}
use Rattle.pgw_prog_output.specs.declared.asking.AnswerEnd.TheVariants as ends
use Rattle.pgw_prog_output.specs.Said.{said_all}
use Rattle.pgw_prog_output.specs.Answers.{answer_text, columns_open, rest_text}
use Rattle.pgw_prog_output.specs.Lines.{ServerLine, QueryNotAsked}
use Rattle.pgw_prog_output.specs.Pages.{Sheet, PrintsHeard, IsFront, HasStopped, whole_text, failed_behind}
use Rattle.pgw_prog_output.specs.Asking.{WritesAnswer, AsksAndPrints, unsent, starved, CountsEnd}
use Rattle.pgw_prog_output.specs.Asking.{CountsHalt, IsAnswerEnd, AnswerLeaves, WrittenAt, HearsAnswers}
use Rattle.pgw_prog_output.specs.Asking.{PrintsAtHalt, has_failed, said_at}
use Rattle.pgw_prog_output.specs.Halting.{ClosesSheet, stopped, whole, part, end_at, end_behind, end_ready, halt_behind}
use Rattle.pgw_prog_output.specs.Halting.{stop_in}

-- the text of an answer that nothing was printed of
text_is : (f : RowFormat) (a : Sheet) (saids : List Said)
    → a.answer ≡ record { format = f; printer = None; columns = 0 }
    → a.waits ≡ [] → whole_text a saids ≡ a.wrote ++ answer_text f saids
text_is f a saids answer waits =
    ap (λ (t : List ℕ). (a.wrote ++ t) ++ rest_text a.answer saids) waits
    ∙ ap (λ (t : List ℕ). t ++ rest_text a.answer saids) (append-nil a.wrote)
    ∙ ap (λ (x : Answer). a.wrote ++ rest_text x saids) answer

-- a part of a text that stopped
written_stopped : (by : Stop) (wrote text : List ℕ) → ((rest : List ℕ) × (wrote ++ rest ≡ text))
    → WrittenAt (end_behind by) wrote text
written_stopped stop.Output wrote text f = f
written_stopped stop.Memory wrote text f = f

ends_stopped : (by : Stop) (saids : List Said) → IsAnswerEnd (end_behind by) saids
ends_stopped stop.Output saids = tt
ends_stopped stop.Memory saids = tt

leaves_stopped : (by : Stop) (old new : ServerLine) (rest : List ℕ) → AnswerLeaves (end_behind by) old new rest
leaves_stopped stop.Output old new rest = tt
leaves_stopped stop.Memory old new rest = tt

-- what messages are where no result is open yet
said_first : (f : RowFormat) (a : Sheet) (ms : List Backend)
    → a.answer ≡ record { format = f; printer = None; columns = 0 } → said_at a ms ≡ said_all None ms
said_first f a ms answer = ap (λ (x : Answer). said_all (columns_open x) ms) answer

made : (f : RowFormat) (old new : ServerLine) (a b : Sheet) (after : List ℕ) (why : Halt) (how : AnswerEnd)
    → a.answer ≡ record { format = f; printer = None; columns = 0 } → (h : HearsAnswers old new a b why)
    → AnswerLeaves how old new h.rest → IsAnswerEnd how (said_at a h.messages)
    → WrittenAt how after (a.wrote ++ answer_text f (said_at a h.messages))
    → WritesAnswer f old new a.wrote after how
made f old new a b after why how answer h leaves ends written = record {
  messages = h.messages;
  bytes = h.bytes;
  rest = h.rest;
  came = h.came;
  stand = h.stand;
  leaves = leaves;
  ends = subst (λ (t : List Said). IsAnswerEnd how t) (said_first f a h.messages answer) ends;
  written = subst (λ (t : List Said). WrittenAt how after (a.wrote ++ answer_text f t)) (said_first f a h.messages
      answer) written;
}

stopped_by : (f : RowFormat) (old new : ServerLine) (a b : Sheet) (after : List ℕ) (why : Halt) (by : Stop)
    → a.answer ≡ record { format = f; printer = None; columns = 0 } → (h : HearsAnswers old new a b why)
    → ((rest : List ℕ) × (after ++ rest ≡ a.wrote ++ answer_text f (said_at a h.messages)))
    → WritesAnswer f old new a.wrote after (end_behind by)
stopped_by f old new a b after why by answer h front =
    made f old new a b after why (end_behind by) answer h (leaves_stopped by old new h.rest) (ends_stopped by
    (said_at a h.messages))
    (written_stopped by after (a.wrote ++ answer_text f (said_at a h.messages)) front)

front_at : (f : RowFormat) (a : Sheet) (saids : List Said) (wrote : List ℕ)
    → a.answer ≡ record { format = f; printer = None; columns = 0 } → a.waits ≡ [] → IsFront saids a wrote
    → (rest : List ℕ) × (wrote ++ rest ≡ a.wrote ++ answer_text f saids)
front_at f a saids wrote answer waits p = (p.0, p.1 ∙ text_is f a saids answer waits)

-- printing stopped while messages were heard
while_heard : (f : RowFormat) (old new : ServerLine) (a b : Sheet) (why : Halt) (by : Stop)
    → a.answer ≡ record { format = f; printer = None; columns = 0 } → a.waits ≡ [] → stop_in why ≡ Some by
    → HearsAnswers old new a b why → WritesAnswer f old new a.wrote b.wrote (end_behind by)
while_heard f old new a b (halt.Stopped it) by answer waits is h =
    stopped_by f old new a b b.wrote (halt.Stopped it) by answer h
    (front_at f a (said_at a h.messages) b.wrote answer
    waits h.prints)
while_heard f old new a b halt.GoesOn by answer waits is h = absurd (cc)
while_heard f old new a b halt.Ready by answer waits is h = absurd (cc)
while_heard f old new a b halt.Misplaced by answer waits is h = absurd (cc)
while_heard f old new a b halt.Lost by answer waits is h = absurd (cc)

all_heard : (why : Halt) (ms : List Said) (a b : Sheet) → stop_in why ≡ None → PrintsAtHalt why ms a b
    → PrintsHeard ms a b
all_heard halt.GoesOn ms a b is p = p
all_heard halt.Ready ms a b is p = p
all_heard halt.Misplaced ms a b is p = p
all_heard halt.Lost ms a b is p = p
all_heard (halt.Stopped by) ms a b is p = absurd (cc)

whole_is : (f : RowFormat) (a b : Sheet) (saids : List Said)
    → a.answer ≡ record { format = f; printer = None; columns = 0 }
    → a.waits ≡ [] → PrintsHeard saids a b → whole_text b [] ≡ a.wrote ++ answer_text f saids
whole_is f a b saids answer waits p = p.text [] ∙ ap (whole_text a) (append-nil saids)
    ∙ text_is f a saids answer waits

-- printing stopped at its end
behind_heard : (f : RowFormat) (old new : ServerLine) (a b : Sheet) (after : List ℕ) (why : Halt) (by : Stop)
    → a.answer ≡ record { format = f; printer = None; columns = 0 } → a.waits ≡ [] → stop_in why ≡ None
    → HearsAnswers old new a b why → IsFront [] b after → WritesAnswer f old new a.wrote after (end_behind by)
behind_heard f old new a b after why by answer waits is h p =
    stopped_by f old new a b after why by answer h (
      p.0,
      p.1 ∙ whole_is f a b (said_at a h.messages) answer waits
          (all_heard why (said_at a h.messages) a b is h.prints),
    )

-- all was printed
ready_heard : (f : RowFormat) (old new : ServerLine) (a b : Sheet) (after : List ℕ) (failed : Bool)
    → a.answer ≡ record { format = f; printer = None; columns = 0 } → (h : HearsAnswers old new a b halt.Ready)
    → has_failed (said_at a h.messages) ≡ failed → after ≡ a.wrote ++ answer_text f (said_at a h.messages)
    → WritesAnswer f old new a.wrote after (end_ready failed)
ready_heard f old new a b after true answer h failed text =
    made f old new a b after halt.Ready ends.Failed answer h
    h.leaves
    (h.halts, failed) text
ready_heard f old new a b after false answer h failed text =
    made f old new a b after halt.Ready ends.Well answer h
    h.leaves
    (h.halts, failed) text

whole_heard : (f : RowFormat) (old new : ServerLine) (a b : Sheet) (after : List ℕ) (why : Halt)
    → a.answer ≡ record { format = f; printer = None; columns = 0 } → a.waits ≡ [] → a.failed ≡ false
    → (why ≡ halt.GoesOn → ⊥)
    → stop_in why ≡ None → HearsAnswers old new a b why → after ≡ whole_text b []
    → WritesAnswer f old new a.wrote after (end_at why b.failed)
whole_heard f old new a b after halt.GoesOn answer waits failed over is h text = absurd (over refl)
whole_heard f old new a b after (halt.Stopped by) answer waits failed over is h text = absurd (cc)
whole_heard f old new a b after halt.Ready answer waits failed over is h text =
    let p = h.prints in
    let flag : has_failed (said_at a h.messages) ≡ b.failed = sym (p.failed
    ∙ ap (λ (x : Bool). failed_behind x (said_at a h.messages)) failed) in
    ready_heard f old new a b after b.failed answer h flag (text
    ∙ whole_is f a b (said_at a h.messages) answer waits p)
whole_heard f old new a b after halt.Misplaced answer waits failed over is h text =
    made f old new a b after halt.Misplaced ends.Misplaced answer h h.leaves h.halts (text
    ∙ whole_is f a b (said_at a h.messages) answer waits h.prints)
whole_heard f old new a b after halt.Lost answer waits failed over is h text =
    made f old new a b after halt.Lost ends.Lost answer h h.leaves h.halts (text
    ∙ whole_is f a b (said_at a h.messages) answer waits h.prints)

-- an answer is its messages, and the end of its page
pub answered : (f : RowFormat) (old new : ServerLine) (a b : Sheet) (before now : ℕ) (after : List ℕ) (why : Halt)
    (how :
    AnswerEnd) → a.answer ≡ record { format = f; printer = None; columns = 0 } → a.waits ≡ [] → a.failed ≡ false
    → (why ≡ halt.GoesOn → ⊥) → HearsAnswers old new a b why → ClosesSheet why b before now after how
    → WritesAnswer f old new a.wrote after how
answered f old new a b before now after why how answer waits failed over h (stopped by is text same end) =
    rw end (rw text (while_heard f old new a b why by answer waits is h))
answered f old new a b before now after why how answer waits failed over h (whole is text same end) =
    rw end (whole_heard f old new a b after why answer waits failed over is h text)
answered f old new a b before now after why how answer waits failed over h (part by is text stops end) =
    rw end (behind_heard f old new a b after why by answer waits is h text)

-- ---- counts

counts_stopped : (by : Stop) (before now : ℕ) → HasStopped before now by → CountsEnd before now (end_behind by)
counts_stopped stop.Output before now h = h
counts_stopped stop.Memory before now h = h

calm_ready : (failed : Bool) (n : ℕ) → CountsEnd n n (end_ready failed)
calm_ready true n = refl
calm_ready false n = refl

calm_end : (why : Halt) (failed : Bool) (n : ℕ) → stop_in why ≡ None → CountsEnd n n (end_at why failed)
calm_end halt.GoesOn failed n is = refl
calm_end halt.Ready failed n is = calm_ready failed n
calm_end halt.Misplaced failed n is = refl
calm_end halt.Lost failed n is = refl
calm_end (halt.Stopped by) failed n is = absurd (cc)

calm_halt : (why : Halt) (before now : ℕ) → stop_in why ≡ None → CountsHalt before now why → now ≡ before
calm_halt halt.GoesOn before now is c = c
calm_halt halt.Ready before now is c = c
calm_halt halt.Misplaced before now is c = c
calm_halt halt.Lost before now is c = c
calm_halt (halt.Stopped by) before now is c = absurd (cc)

stops_halt : (why : Halt) (by : Stop) (before now : ℕ) → stop_in why ≡ Some by → CountsHalt before now why
    → HasStopped before now by
stops_halt (halt.Stopped it) by before now is c = let e : it ≡ by = cc in subst (HasStopped before now) e c
stops_halt halt.GoesOn by before now is c = absurd (cc)
stops_halt halt.Ready by before now is c = absurd (cc)
stops_halt halt.Misplaced by before now is c = absurd (cc)
stops_halt halt.Lost by before now is c = absurd (cc)

pub counted : (why : Halt) (s : Sheet) (first before now : ℕ) (after : List ℕ) (how : AnswerEnd)
    → CountsHalt first before why → ClosesSheet why s before now after how → CountsEnd first now how
counted why s first before now after how c (stopped by is text same end) =
    rw end (rw same (counts_stopped by first before (stops_halt why by first before is c)))
counted why s first before now after how c (whole is text same end) =
    rw end (rw same (rw (calm_halt why first before is c) (calm_end why s.failed first is)))
counted why s first before now after how c (part by is text stops end) =
    rw end (counts_stopped by first now (subst (λ (n : ℕ). HasStopped n now by) (calm_halt why first before is c)
    stops))

-- ---- a query that could not be sent

pub unasked : (e : ClientError) (f : RowFormat) (query : List ℕ) (old new : ServerLine) (wrote : List ℕ)
    → QueryNotAsked query old new e → AsksAndPrints f query old new wrote wrote (end_at (halt_behind e) false)
unasked client.OutOfMemory f query old new wrote n = starved n refl
unasked e f query old new wrote n = unsent e n (λ is. absurd (cc)) refl

pub unasked_counts : (e : ClientError) (n : ℕ) → CountsEnd n n (end_at (halt_behind e) false)
unasked_counts client.OutOfMemory n = refl
unasked_counts e n = refl

pub lost_counts : (e : ClientError) (n : ℕ) → CountsHalt n n (halt_behind e)
lost_counts client.OutOfMemory n = refl
lost_counts e n = refl

-- ---- queries in turn

pub query_at : (queries : List (List ℕ)) (i : ℕ) (q : List ℕ) → i < length queries → q ≡ get_or queries i q
    → drop i queries ≡ q ∷ drop (i + 1) queries
query_at queries i q h is = rw add-one (drop-cons queries i q h
    ∙ ap (λ (x : List ℕ). x ∷ drop (suc i) queries) (sym is))

pub all_asked : (queries : List (List ℕ)) (i : ℕ) → length queries ≤ i → drop i queries ≡ []
all_asked queries i h = nil_from_length (drop i queries) (omega (arith, h, length-drop i queries))
