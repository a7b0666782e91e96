-- The table of requests against what a server may answer.
use Rattle.std.proofs.Common.{◌≡◌, ◌⊎◌, ℕ, ◌+◌, Bool, true, false, List, [], ◌∷◌, ◌++◌, map, inl, inr, arith, refl, ◌∙◌, ap, sym, subst, append_assoc}
use Rattle.pgw_backend.specs.declared.backend.PgWireBackendMessage.{PgWireBackendMessage as Backend}
use Rattle.pgw_backend.specs.declared.backend.PgWireBackendMessage.TheVariants as backend
use Rattle.pgw_frontend.specs.declared.frontend.PgWireFrontendMessage.{PgWireFrontendMessage as Frontend}
use Rattle.pgw_frontend.specs.declared.frontend.PgWireFrontendMessage.TheVariants as frontend
use Rattle.pgw_query.specs.declared.data.DataRow.{DataRow}
use Rattle.pgw_query.specs.declared.response.ReadyForQuery.{ReadyForQuery}
use Rattle.pgw_session.specs.declared.types.Target.TheVariants.{Statement, Portal}
use Rattle.pgw_session.specs.declared.types.Request.{Request}
use Rattle.pgw_session.specs.declared.types.Request.TheVariants.{Simple, Prepare, Bind, Execute, Describe, Close, Query}
use Rattle.pgw_session.specs.declared.stage.Kind.{Kind}
use Rattle.pgw_session.specs.declared.stage.Kind.TheVariants as kind
use Rattle.pgw_session.specs.declared.stage.Role.{Role}
use Rattle.pgw_session.specs.declared.stage.Role.TheVariants.{Taken, Closing, Completing, Failing, Misplaced}
use Rattle.pgw_session.specs.Events.{Event, Sent, Got}
use Rattle.pgw_session.specs.Requests.{kind_of, sends_of, sync, behind_error, role}
use Rattle.pgw_session.specs.Segments.{AreAll, is_other, IsPassedOver, AreTaken, IsEnd, IsRequestSegment, sends}
use Rattle.pgw_session.specs.Stays.{IsUnready}
use Rattle.pgw_session.specs.Flow.{may_come, is_placed, ends_answer, completes_portal, is_error, is_described_behind, sync_behind_error, is_closing, is_completing, is_failing}
use Rattle.pgw_session.specs.Flow.{HasNoError, CompletesNone, EndsDescribed, IsLast, EndsIn, rounds_asked, rounds_ended, DescribesPortal}

-- ---- which messages

pub placed_as_answers : (q : Request) (described : Bool) (m : Backend)
    → is_placed (role (kind_of q) described m) ≡ may_come q described m
placed_as_answers (Simple query) true (backend.NoticeResponse m) = refl
placed_as_answers (Simple query) true m = refl
placed_as_answers (Simple query) false (backend.NoticeResponse m) = refl
placed_as_answers (Simple query) false m = refl
placed_as_answers (Prepare name query types) described (backend.NoticeResponse m) = refl
placed_as_answers (Prepare name query types) described m = refl
placed_as_answers (Bind portal statement parameters formats) described (backend.NoticeResponse m) = refl
placed_as_answers (Bind portal statement parameters formats) described m = refl
placed_as_answers (Execute portal max_rows) described (backend.NoticeResponse m) = refl
placed_as_answers (Execute portal max_rows) described m = refl
placed_as_answers (Describe (Statement name)) described (backend.NoticeResponse m) = refl
placed_as_answers (Describe (Statement name)) described m = refl
placed_as_answers (Describe (Portal name)) described (backend.NoticeResponse m) = refl
placed_as_answers (Describe (Portal name)) described m = refl
placed_as_answers (Close (Statement name)) described (backend.NoticeResponse m) = refl
placed_as_answers (Close (Statement name)) described m = refl
placed_as_answers (Close (Portal name)) described (backend.NoticeResponse m) = refl
placed_as_answers (Close (Portal name)) described m = refl
placed_as_answers (Query query types parameters) described (backend.NoticeResponse m) = refl
placed_as_answers (Query query types parameters) described m = refl

-- ---- what a message does to the answer

pub closing_as_ends : (q : Request) (described : Bool) (m : Backend)
    → is_closing (role (kind_of q) described m) ≡ ends_answer q m
closing_as_ends (Simple query) true (backend.NoticeResponse m) = refl
closing_as_ends (Simple query) true m = refl
closing_as_ends (Simple query) false (backend.NoticeResponse m) = refl
closing_as_ends (Simple query) false m = refl
closing_as_ends (Prepare name query types) described (backend.NoticeResponse m) = refl
closing_as_ends (Prepare name query types) described m = refl
closing_as_ends (Bind portal statement parameters formats) described (backend.NoticeResponse m) = refl
closing_as_ends (Bind portal statement parameters formats) described m = refl
closing_as_ends (Execute portal max_rows) described (backend.NoticeResponse m) = refl
closing_as_ends (Execute portal max_rows) described m = refl
closing_as_ends (Describe (Statement name)) described (backend.NoticeResponse m) = refl
closing_as_ends (Describe (Statement name)) described m = refl
closing_as_ends (Describe (Portal name)) described (backend.NoticeResponse m) = refl
closing_as_ends (Describe (Portal name)) described m = refl
closing_as_ends (Close (Statement name)) described (backend.NoticeResponse m) = refl
closing_as_ends (Close (Statement name)) described m = refl
closing_as_ends (Close (Portal name)) described (backend.NoticeResponse m) = refl
closing_as_ends (Close (Portal name)) described m = refl
closing_as_ends (Query query types parameters) described (backend.NoticeResponse m) = refl
closing_as_ends (Query query types parameters) described m = refl

pub completing_as_completes : (q : Request) (described : Bool) (m : Backend)
    → is_completing (role (kind_of q) described m) ≡ completes_portal q m
completing_as_completes (Simple query) true (backend.NoticeResponse m) = refl
completing_as_completes (Simple query) true m = refl
completing_as_completes (Simple query) false (backend.NoticeResponse m) = refl
completing_as_completes (Simple query) false m = refl
completing_as_completes (Prepare name query types) described (backend.NoticeResponse m) = refl
completing_as_completes (Prepare name query types) described m = refl
completing_as_completes (Bind portal statement parameters formats) described (backend.NoticeResponse m) = refl
completing_as_completes (Bind portal statement parameters formats) described m = refl
completing_as_completes (Execute portal max_rows) described (backend.NoticeResponse m) = refl
completing_as_completes (Execute portal max_rows) described m = refl
completing_as_completes (Describe (Statement name)) described (backend.NoticeResponse m) = refl
completing_as_completes (Describe (Statement name)) described m = refl
completing_as_completes (Describe (Portal name)) described (backend.NoticeResponse m) = refl
completing_as_completes (Describe (Portal name)) described m = refl
completing_as_completes (Close (Statement name)) described (backend.NoticeResponse m) = refl
completing_as_completes (Close (Statement name)) described m = refl
completing_as_completes (Close (Portal name)) described (backend.NoticeResponse m) = refl
completing_as_completes (Close (Portal name)) described m = refl
completing_as_completes (Query query types parameters) described (backend.NoticeResponse m) = refl
completing_as_completes (Query query types parameters) described m = refl

pub failing_as_errors : (q : Request) (described : Bool) (m : Backend)
    → is_failing (role (kind_of q) described m) ≡ is_error m
failing_as_errors (Simple query) true (backend.NoticeResponse m) = refl
failing_as_errors (Simple query) true m = refl
failing_as_errors (Simple query) false (backend.NoticeResponse m) = refl
failing_as_errors (Simple query) false m = refl
failing_as_errors (Prepare name query types) described (backend.NoticeResponse m) = refl
failing_as_errors (Prepare name query types) described m = refl
failing_as_errors (Bind portal statement parameters formats) described (backend.NoticeResponse m) = refl
failing_as_errors (Bind portal statement parameters formats) described m = refl
failing_as_errors (Execute portal max_rows) described (backend.NoticeResponse m) = refl
failing_as_errors (Execute portal max_rows) described m = refl
failing_as_errors (Describe (Statement name)) described (backend.NoticeResponse m) = refl
failing_as_errors (Describe (Statement name)) described m = refl
failing_as_errors (Describe (Portal name)) described (backend.NoticeResponse m) = refl
failing_as_errors (Describe (Portal name)) described m = refl
failing_as_errors (Close (Statement name)) described (backend.NoticeResponse m) = refl
failing_as_errors (Close (Statement name)) described m = refl
failing_as_errors (Close (Portal name)) described (backend.NoticeResponse m) = refl
failing_as_errors (Close (Portal name)) described m = refl
failing_as_errors (Query query types parameters) described (backend.NoticeResponse m) = refl
failing_as_errors (Query query types parameters) described m = refl

-- whether rows may come behind a message that is taken
abbrev rows_behind : Role → Bool → Bool
rows_behind (Taken rows) other = rows
rows_behind r other = other

rows_as_described : (q : Request) (described : Bool) (m : Backend)
    → rows_behind (role (kind_of q) described m) (is_described_behind q described m) ≡ is_described_behind q
    described m
rows_as_described (Simple query) true (backend.NoticeResponse m) = refl
rows_as_described (Simple query) true m = refl
rows_as_described (Simple query) false (backend.NoticeResponse m) = refl
rows_as_described (Simple query) false m = refl
rows_as_described (Prepare name query types) described (backend.NoticeResponse m) = refl
rows_as_described (Prepare name query types) described m = refl
rows_as_described (Bind portal statement parameters formats) described (backend.NoticeResponse m) = refl
rows_as_described (Bind portal statement parameters formats) described m = refl
rows_as_described (Execute portal max_rows) described (backend.NoticeResponse m) = refl
rows_as_described (Execute portal max_rows) described m = refl
rows_as_described (Describe (Statement name)) described (backend.NoticeResponse m) = refl
rows_as_described (Describe (Statement name)) described m = refl
rows_as_described (Describe (Portal name)) described (backend.NoticeResponse m) = refl
rows_as_described (Describe (Portal name)) described m = refl
rows_as_described (Close (Statement name)) described (backend.NoticeResponse m) = refl
rows_as_described (Close (Statement name)) described m = refl
rows_as_described (Close (Portal name)) described (backend.NoticeResponse m) = refl
rows_as_described (Close (Portal name)) described m = refl
rows_as_described (Query query types parameters) described (backend.NoticeResponse m) = refl
rows_as_described (Query query types parameters) described m = refl

pub taken_as_described : (q : Request) (described behind : Bool) (m : Backend)
    → role (kind_of q) described m ≡ Taken behind → behind ≡ is_described_behind q described m
taken_as_described q described behind m is =
    subst (λ r. rows_behind r (is_described_behind q described m) ≡ is_described_behind q described m) is
    (rows_as_described q described m)

pub sync_behind_errors : (q : Request) → behind_error (kind_of q) ≡ sync_behind_error q
sync_behind_errors (Simple query) = refl
sync_behind_errors (Prepare name query types) = refl
sync_behind_errors (Bind portal statement parameters formats) = refl
sync_behind_errors (Execute portal max_rows) = refl
sync_behind_errors (Describe (Statement name)) = refl
sync_behind_errors (Describe (Portal name)) = refl
sync_behind_errors (Close (Statement name)) = refl
sync_behind_errors (Close (Portal name)) = refl
sync_behind_errors (Query query types parameters) = refl

-- ---- rows of a simple query

-- rows may come behind these events: some description is open from before, or one is among them
abbrev Described : Bool → List Event → Type 0
Described rows es = ((rows ≡ true) × CompletesNone es) ⊎ EndsDescribed es

-- one event more before them
described_behind : (e : Event) (es : List Event) → EndsDescribed es → EndsDescribed (e ∷ es)
described_behind e es d = (e ∷ d.0, d.1, d.2, ap (λ (l : List Event). e ∷ l) d.3, d.4)

described_on : (rows next : Bool) (m : Backend) (es : List Event) → role kind.Simple rows m ≡ Taken next
    → Described next es → Described rows (Got m ∷ es)
described_on rows next m es takes (inr d) = inr (described_behind (Got m) es d)
described_on rows next m es takes (inl d) = go rows m takes
  where
    go : (r : Bool) (x : Backend) → role kind.Simple r x ≡ Taken next → Described r (Got x ∷ es)
    go r (backend.RowDescription x) takes = inr ([], x, es, refl, d.1)
    go true (backend.DataRow x) takes = inl (refl, d.1)
    go false (backend.DataRow x) takes = absurd cc
    go r (backend.CommandComplete x) takes = let no : next ≡ false = cc in let yes = d.0 in absurd cc
    go r (backend.EmptyQueryResponse x) takes = let same : next ≡ r = cc in inl (sym same ∙ d.0, d.1)
    go r (backend.NoticeResponse x) takes = let same : next ≡ r = cc in inl (sym same ∙ d.0, d.1)
    go r (backend.ParameterStatus x) takes = let same : next ≡ r = cc in inl (sym same ∙ d.0, d.1)
    go r x takes = absurd cc

-- a row is not the message that ends an answer
row_ends_none : (rows : Bool) (row : DataRow) (rest : List Event)
    → IsEnd kind.Simple (role kind.Simple rows (backend.DataRow row)) rest → ⊥
row_ends_none true row rest ends = ends
row_ends_none false row rest ends = ends

-- nor does one stand behind it, but behind an error
last_is_last : (rows : Bool) (last : Backend) (rest before behind : List Event) (row : DataRow)
    → IsEnd kind.Simple (role kind.Simple rows last) rest → HasNoError (Got last ∷ before)
    → rest ≡ before ++ Got (backend.DataRow row) ∷ behind → ⊥
last_is_last rows (backend.ErrorResponse x) rest before behind row ends none is = none
last_is_last rows (backend.ReadyForQuery x) rest [] behind row ends none is =
    let nil : rest ≡ [] = ends in absurd cc
last_is_last rows (backend.ReadyForQuery x) rest (e ∷ before) behind row ends none is =
    let nil : rest ≡ [] = ends in absurd cc
last_is_last true (backend.DataRow x) rest before behind row ends none is = ends
last_is_last false (backend.DataRow x) rest before behind row ends none is = ends
last_is_last rows last rest before behind row ends none is = ends

no_error_behind : (m : Backend) (es : List Event) → HasNoError (Got m ∷ es) → HasNoError es
no_error_behind (backend.ErrorResponse m) es none = absurd none
no_error_behind m es none = none

row_described : (rows behind : Bool) (ms : List Backend) (last : Backend) (rest before after : List Event)
    (row : DataRow)
    → AreTaken kind.Simple rows ms behind → IsEnd kind.Simple (role kind.Simple behind last) rest
    → map Got ms ++ Got last ∷ rest ≡ before ++ Got (backend.DataRow row) ∷ after → HasNoError before
    → Described rows before
row_described rows behind [] last rest [] after row taken ends is none =
    let same : last ≡ backend.DataRow row =
    cc in absurd (row_ends_none behind row rest
    (subst (λ x. IsEnd kind.Simple (role kind.Simple behind x) rest) same ends))
row_described rows behind [] last rest (e ∷ before) after row taken ends is none =
    let same : e ≡ Got last = cc in
    let more : rest ≡ before ++ Got (backend.DataRow row) ∷ after = cc in
    absurd (last_is_last behind last rest before after row ends (subst (λ x. HasNoError (x ∷ before)) same none)
    more)
row_described rows behind (m ∷ ms) last rest [] after row taken ends is none =
    let same : m ≡ backend.DataRow row = cc in
    go rows (subst (λ x. role kind.Simple rows x ≡ Taken taken.0) same taken.1)
  where
    go : (r : Bool) → role kind.Simple r (backend.DataRow row) ≡ Taken taken.0 → Described r []
    go true takes = inl (refl, tt)
    go false takes = absurd cc
row_described rows behind (m ∷ ms) last rest (e ∷ before) after row taken ends is none =
    let same : e ≡ Got m = cc in
    let more : map Got ms ++ Got last ∷ rest ≡ before ++ Got (backend.DataRow row) ∷ after = cc in
    let clean : HasNoError (Got m ∷ before) = subst (λ x. HasNoError (x ∷ before)) same none in
    subst (λ x. Described rows (x ∷ before)) (sym same)
    (described_on rows taken.0 m before taken.1
    (row_described taken.0 behind ms last rest before after row taken.2 ends more
    (no_error_behind m before clean)))

described_from : (es : List Event) → Described false es → EndsDescribed es
described_from es (inl d) = let no = d.0 in absurd cc
described_from es (inr d) = d

-- each row of a simple query stands behind a description, with no command completed since
pub rows_are_described : (query : List ℕ) (es before behind : List Event) (row : DataRow)
    → IsRequestSegment (Simple query) es → es ≡ before ++ Got (backend.DataRow row) ∷ behind → HasNoError before
    → EndsDescribed before
rows_are_described query es [] behind row seg is none = let first = seg.1 in absurd cc
rows_are_described query es (e ∷ before) behind row seg is none =
    let opening = frontend.Query (record { query = query }) in
    let same : Sent opening ≡ e = let first = seg.1 in cc in
    let answer = seg.2 in
    let more : map Got answer.ms ++ Got answer.last ∷ answer.rest ≡ before ++ Got (backend.DataRow row) ∷ behind =
    let first = seg.1 in let all = answer.are in cc in
    let clean : HasNoError before = subst (λ x. HasNoError (x ∷ before)) (sym same) none in
    described_behind e before
    (described_from before
    (row_described false answer.behind answer.ms answer.last answer.rest before behind row answer.taken
    answer.ends more clean))

-- ---- how a segment ends

unready_append : (xs ys : List Event) → IsUnready xs → IsUnready ys → IsUnready (xs ++ ys)
unready_append [] ys x y = y
unready_append (Sent f ∷ xs) ys x y = unready_append xs ys x y
unready_append (Got (backend.ReadyForQuery m) ∷ xs) ys x y = absurd x
unready_append (Got m ∷ xs) ys x y = unready_append xs ys x y

unready_sends : (fs : List Frontend) → IsUnready (map Sent fs)
unready_sends [] = tt
unready_sends (f ∷ fs) = unready_sends fs

unready_one : (m : Backend) (es : List Event) → is_other m ≡ true → IsUnready es → IsUnready (Got m ∷ es)
unready_one (backend.ReadyForQuery m) es other rest = absurd cc
unready_one m es other rest = rest

unready_quiet : (ms : List Backend) → AreAll is_other ms → IsUnready (map Got ms)
unready_quiet [] quiet = tt
unready_quiet (m ∷ ms) quiet = unready_one m (map Got ms) quiet.0 (unready_quiet ms quiet.1)

-- ReadyForQuery closes, or has no place
ready_role : (k : Kind) (rows : Bool) (m : ReadyForQuery)
    → (role k rows (backend.ReadyForQuery m) ≡ Closing) ⊎ (role k rows (backend.ReadyForQuery m) ≡ Misplaced)
ready_role kind.Simple rows m = inl refl
ready_role kind.Prepare rows m = inl refl
ready_role kind.Bind rows m = inr refl
ready_role kind.Execute rows m = inr refl
ready_role kind.DescribeStatement rows m = inl refl
ready_role kind.DescribePortal rows m = inl refl
ready_role kind.Close rows m = inl refl
ready_role kind.Query rows m = inl refl

abbrev GoesOn : Role → Type 0
GoesOn Closing = ⊥
GoesOn Misplaced = ⊥
GoesOn x = Unit {0}

goes_on_other : (k : Kind) (rows : Bool) (m : Backend) → GoesOn (role k rows m) → is_other m ≡ true
goes_on_other k rows (backend.ReadyForQuery m) goes =
    elim (ready_role k rows m) [
      | inl is ↦ absurd (subst GoesOn is goes)
      | inr is ↦ absurd (subst GoesOn is goes)
    ]
goes_on_other k rows m goes = refl

role_other : (k : Kind) (rows : Bool) (m : Backend) (x : Role) → role k rows m ≡ x → GoesOn x → is_other m ≡ true
role_other k rows m x is goes = goes_on_other k rows m (subst GoesOn (sym is) goes)

taken_quiet : (k : Kind) (rows behind : Bool) (ms : List Backend) → AreTaken k rows ms behind → AreAll is_other ms
taken_quiet k rows behind [] taken = tt
taken_quiet k rows behind (m ∷ ms) taken =
    (role_other k rows m (Taken taken.0) taken.1 tt, taken_quiet k taken.0 behind ms taken.2)

-- a message that closes is the last
closing_last : (q : Request) (rows : Bool) (m : Backend) → role (kind_of q) rows m ≡ Closing → IsLast q m
closing_last q rows (backend.ReadyForQuery m) is = tt
closing_last (Bind portal statement parameters formats) rows (backend.BindComplete m) is = tt
closing_last (Execute portal max_rows) rows (backend.PortalSuspended m) is = tt
closing_last (Describe (Portal name)) rows (backend.RowDescription m) is = tt
closing_last (Describe (Portal name)) rows (backend.NoData m) is = tt
closing_last (Simple query) true m is = absurd cc
closing_last (Simple query) false m is = absurd cc
closing_last (Prepare name query types) rows m is = absurd cc
closing_last (Bind portal statement parameters formats) rows m is = absurd cc
closing_last (Execute portal max_rows) rows m is = absurd cc
closing_last (Describe (Statement name)) rows m is = absurd cc
closing_last (Describe (Portal name)) rows m is = absurd cc
closing_last (Close target) rows m is = absurd cc
closing_last (Query query types parameters) rows m is = absurd cc

ends_at_once : (q : Request) (ms : List Backend) (last : Backend) → AreAll is_other ms → IsLast q last
    → EndsIn q (map Sent (sends_of q) ++ (map Got ms ++ Got last ∷ []))
ends_at_once q ms last quiet is = (
  map Sent (sends_of q) ++ map Got ms,
  last,
  sym (append_assoc (map Sent (sends_of q)) (map Got ms) (Got last ∷ [])),
  unready_append (map Sent (sends_of q)) (map Got ms) (unready_sends (sends_of q)) (unready_quiet ms quiet),
  is,
)

ends_ready : (q : Request) (ms : List Backend) (last : Backend) (gs : List Frontend) (rest : List Event)
    → AreAll is_other ms → is_other last ≡ true → IsPassedOver rest
    → EndsIn q (map Sent (sends_of q) ++ (map Got ms ++ Got last ∷ (map Sent gs ++ rest)))
ends_ready q ms last gs rest quiet other up =
    let ready : List Event = Got (backend.ReadyForQuery up.ready) ∷ [] in
    let over : List Event = map Sent gs ++ map Got up.ms in
    let inner : map Sent gs ++ rest ≡ over ++ ready =
    ap (λ (l : List Event). map Sent gs ++ l) up.are
    ∙ sym (append_assoc (map Sent gs) (map Got up.ms) ready) in
    let middle : map Got ms ++ Got last ∷ (map Sent gs ++ rest) ≡ (map Got ms ++ Got last ∷ over) ++ ready =
    ap (λ (l : List Event). map Got ms ++ Got last ∷ l) inner
    ∙ sym (append_assoc (map Got ms) (Got last ∷ over) ready) in (
      map Sent (sends_of q) ++ (map Got ms ++ Got last ∷ over),
      backend.ReadyForQuery up.ready,
      ap (λ (l : List Event). map Sent (sends_of q) ++ l) middle
          ∙ sym (append_assoc (map Sent (sends_of q)) (map Got ms ++ Got last ∷ over) ready),
      unready_append (map Sent (sends_of q)) _ (unready_sends (sends_of q))
          (unready_append (map Got ms) _ (unready_quiet ms quiet)
          (unready_one last over other
          (unready_append (map Sent gs) (map Got up.ms) (unready_sends gs)
          (unready_quiet up.ms up.all)))),
      tt,
    )

ends_by : (q : Request) (behind : Bool) (ms : List Backend) (last : Backend) (rest : List Event) (x : Role)
    → role (kind_of q) behind last ≡ x → AreAll is_other ms → IsEnd (kind_of q) x rest
    → EndsIn q (map Sent (sends_of q) ++ (map Got ms ++ Got last ∷ rest))
ends_by q behind ms last rest (Taken rows) is quiet ends = absurd ends
ends_by q behind ms last rest Misplaced is quiet ends = absurd ends
ends_by q behind ms last rest Closing is quiet ends =
    subst (λ (l : List Event). EndsIn q (map Sent (sends_of q) ++ (map Got ms ++ Got last ∷ l))) (sym ends)
    (ends_at_once q ms last quiet (closing_last q behind last is))
ends_by q behind ms last rest Completing is quiet ends =
    subst (λ (l : List Event). EndsIn q (map Sent (sends_of q) ++ (map Got ms ++ Got last ∷ l))) (sym ends.1)
    (ends_ready q ms last (sync ∷ []) ends.0 quiet (role_other (kind_of q) behind last Completing is tt)
    ends.2)
ends_by q behind ms last rest Failing is quiet ends =
    subst (λ (l : List Event). EndsIn q (map Sent (sends_of q) ++ (map Got ms ++ Got last ∷ l))) (sym ends.1)
    (ends_ready q ms last (sends (behind_error (kind_of q))) ends.0 quiet
    (role_other (kind_of q) behind last Failing is tt) ends.2)

pub segment_ends : (q : Request) (es : List Event) → IsRequestSegment q es → EndsIn q es
segment_ends q es seg =
    let a = seg.2 in
    subst (EndsIn q) (sym (seg.1 ∙ ap (λ (l : List Event). map Sent (sends_of q) ++ l) a.are))
    (ends_by q a.behind a.ms a.last a.rest (role (kind_of q) a.behind a.last) refl
    (taken_quiet (kind_of q) false a.behind a.ms a.taken) a.ends)

-- ---- one ReadyForQuery for each Query and Sync

asked_append : (xs ys : List Event) → rounds_asked (xs ++ ys) ≡ rounds_asked xs + rounds_asked ys
asked_append [] ys = omega arith
asked_append (Got m ∷ xs) ys = asked_append xs ys
asked_append (Sent (frontend.Query f) ∷ xs) ys = omega (arith, asked_append xs ys)
asked_append (Sent (frontend.Sync f) ∷ xs) ys = omega (arith, asked_append xs ys)
asked_append (Sent f ∷ xs) ys = asked_append xs ys

ended_append : (xs ys : List Event) → rounds_ended (xs ++ ys) ≡ rounds_ended xs + rounds_ended ys
ended_append [] ys = omega arith
ended_append (Sent f ∷ xs) ys = ended_append xs ys
ended_append (Got (backend.ReadyForQuery m) ∷ xs) ys = omega (arith, ended_append xs ys)
ended_append (Got m ∷ xs) ys = ended_append xs ys

asked_gots : (ms : List Backend) → rounds_asked (map Got ms) ≡ 0
asked_gots [] = refl
asked_gots (m ∷ ms) = asked_gots ms

ended_sends : (fs : List Frontend) → rounds_ended (map Sent fs) ≡ 0
ended_sends [] = refl
ended_sends (f ∷ fs) = ended_sends fs

ended_none : (es : List Event) → IsUnready es → rounds_ended es ≡ 0
ended_none [] unready = refl
ended_none (Sent f ∷ es) unready = ended_none es unready
ended_none (Got (backend.ReadyForQuery m) ∷ es) unready = absurd unready
ended_none (Got m ∷ es) unready = ended_none es unready

-- an answer that closes at once
closing_round : (q : Request) (rows : Bool) (m : Backend) → (DescribesPortal q → ⊥)
    → role (kind_of q) rows m ≡ Closing → rounds_asked (map Sent (sends_of q)) ≡ rounds_ended (Got m ∷ [])
closing_round (Simple query) rows (backend.ReadyForQuery m) other is = refl
closing_round (Prepare name query types) rows (backend.ReadyForQuery m) other is = refl
closing_round (Describe (Statement name)) rows (backend.ReadyForQuery m) other is = refl
closing_round (Close (Statement name)) rows (backend.ReadyForQuery m) other is = refl
closing_round (Close (Portal name)) rows (backend.ReadyForQuery m) other is = refl
closing_round (Query query types parameters) rows (backend.ReadyForQuery m) other is = refl
closing_round (Bind portal statement parameters formats) rows (backend.BindComplete m) other is = refl
closing_round (Execute portal max_rows) rows (backend.PortalSuspended m) other is = refl
closing_round (Simple query) true m other is = absurd cc
closing_round (Simple query) false m other is = absurd cc
closing_round (Prepare name query types) rows m other is = absurd cc
closing_round (Bind portal statement parameters formats) rows m other is = absurd cc
closing_round (Execute portal max_rows) rows m other is = absurd cc
closing_round (Describe (Statement name)) rows m other is = absurd cc
closing_round (Describe (Portal name)) rows m other is = absurd (other tt)
closing_round (Close target) rows m other is = absurd cc
closing_round (Query query types parameters) rows m other is = absurd cc

-- a message that completes comes where no Sync was sent
completing_round : (q : Request) (rows : Bool) (m : Backend) → role (kind_of q) rows m ≡ Completing
    → rounds_asked (map Sent (sends_of q)) ≡ 0
completing_round q rows (backend.NoticeResponse m) is = absurd cc
completing_round (Simple query) true m is = absurd cc
completing_round (Simple query) false m is = absurd cc
completing_round (Prepare name query types) rows m is = absurd cc
completing_round (Bind portal statement parameters formats) rows m is = refl
completing_round (Execute portal max_rows) rows m is = refl
completing_round (Describe (Statement name)) rows m is = absurd cc
completing_round (Describe (Portal name)) rows m is = refl
completing_round (Close target) rows m is = absurd cc
completing_round (Query query types parameters) rows m is = absurd cc

-- behind an error, one was sent
failing_round : (q : Request)
    → rounds_asked (map Sent (sends_of q)) + rounds_asked (map Sent (sends (behind_error (kind_of q)))) ≡ 1
failing_round (Simple query) = refl
failing_round (Prepare name query types) = refl
failing_round (Bind portal statement parameters formats) = refl
failing_round (Execute portal max_rows) = refl
failing_round (Describe (Statement name)) = refl
failing_round (Describe (Portal name)) = refl
failing_round (Close (Statement name)) = refl
failing_round (Close (Portal name)) = refl
failing_round (Query query types parameters) = refl

SameRounds : List Event → Type 0
SameRounds es = rounds_asked es ≡ rounds_ended es

round_at_once : (q : Request) (ms : List Backend) (last : Backend) → AreAll is_other ms
    → rounds_asked (map Sent (sends_of q)) ≡ rounds_ended (Got last ∷ [])
    → SameRounds (map Sent (sends_of q) ++ (map Got ms ++ Got last ∷ []))
unfolding SameRounds
round_at_once q ms last quiet same =
    let fs : List Event = map Sent (sends_of q) in
    let gs : List Event = map Got ms in
    let end : List Event = Got last ∷ [] in
    let a = asked_append fs (gs ++ end) in
    let b = asked_append gs end in
    let c = ended_append fs (gs ++ end) in
    let d = ended_append gs end in
    let e = asked_gots ms in
    let f = ended_sends (sends_of q) in
    let g = ended_none gs (unready_quiet ms quiet) in
    let h : rounds_asked end ≡ 0 = refl in
    omega arith

round_through : (q : Request) (ms : List Backend) (last : Backend) (gs : List Frontend) (rest : List Event)
    → AreAll is_other ms → is_other last ≡ true → IsPassedOver rest
    → rounds_asked (map Sent (sends_of q)) + rounds_asked (map Sent gs) ≡ 1
    → SameRounds (map Sent (sends_of q) ++ (map Got ms ++ Got last ∷ (map Sent gs ++ rest)))
unfolding SameRounds
round_through q ms last gs rest quiet other up one =
    let fs : List Event = map Sent (sends_of q) in
    let taken : List Event = map Got ms in
    let sent : List Event = map Sent gs in
    let passed : List Event = map Got up.ms in
    let end : List Event = Got (backend.ReadyForQuery up.ready) ∷ [] in
    let behind : List Event = Got last ∷ (sent ++ rest) in
    let a1 = asked_append fs (taken ++ behind) in
    let a2 = asked_append taken behind in
    let a3 : rounds_asked behind ≡ rounds_asked (sent ++ rest) = refl in
    let a4 = asked_append sent rest in
    let a5 : rounds_asked rest ≡ rounds_asked (passed ++ end) = ap rounds_asked up.are in
    let a6 = asked_append passed end in
    let a7 = asked_gots ms in
    let a8 = asked_gots up.ms in
    let a9 : rounds_asked end ≡ 0 = refl in
    let e1 = ended_append fs (taken ++ behind) in
    let e2 = ended_append taken behind in
    let e3 : rounds_ended (Got last ∷ []) ≡ 0 = ended_none (Got last ∷ []) (unready_one last [] other tt) in
    let e4 = ended_append (Got last ∷ []) (sent ++ rest) in
    let e5 = ended_append sent rest in
    let e6 : rounds_ended rest ≡ rounds_ended (passed ++ end) = ap rounds_ended up.are in
    let e7 = ended_append passed end in
    let e8 = ended_sends (sends_of q) in
    let e9 = ended_none taken (unready_quiet ms quiet) in
    let e10 = ended_sends gs in
    let e11 = ended_none passed (unready_quiet up.ms up.all) in
    let e12 : rounds_ended end ≡ 1 = refl in
    omega arith

rounds_by : (q : Request) (behind : Bool) (ms : List Backend) (last : Backend) (rest : List Event) (x : Role)
    → (DescribesPortal q → ⊥) → role (kind_of q) behind last ≡ x → AreAll is_other ms → IsEnd (kind_of q) x rest
    → SameRounds (map Sent (sends_of q) ++ (map Got ms ++ Got last ∷ rest))
rounds_by q behind ms last rest (Taken rows) other is quiet ends = absurd ends
rounds_by q behind ms last rest Misplaced other is quiet ends = absurd ends
rounds_by q behind ms last rest Closing other is quiet ends =
    subst (λ (l : List Event). SameRounds (map Sent (sends_of q) ++ (map Got ms ++ Got last ∷ l))) (sym ends)
    (round_at_once q ms last quiet (closing_round q behind last other is))
rounds_by q behind ms last rest Completing other is quiet ends =
    subst (λ (l : List Event). SameRounds (map Sent (sends_of q) ++ (map Got ms ++ Got last ∷ l))) (sym ends.1)
    (round_through q ms last (sync ∷ []) ends.0 quiet (role_other (kind_of q) behind last Completing is tt) ends.2
    (ap (λ n. n + 1) (completing_round q behind last is)))
rounds_by q behind ms last rest Failing other is quiet ends =
    subst (λ (l : List Event). SameRounds (map Sent (sends_of q) ++ (map Got ms ++ Got last ∷ l))) (sym ends.1)
    (round_through q ms last (sends (behind_error (kind_of q))) ends.0 quiet
    (role_other (kind_of q) behind last Failing is tt) ends.2 (failing_round q))

pub rounds_are_answered : (q : Request) (es : List Event) → (DescribesPortal q → ⊥) → IsRequestSegment q es
    → rounds_asked es ≡ rounds_ended es
unfolding SameRounds
rounds_are_answered q es other seg =
    let a = seg.2 in
    subst SameRounds (sym (seg.1 ∙ ap (λ (l : List Event). map Sent (sends_of q) ++ l) a.are))
    (rounds_by q a.behind a.ms a.last a.rest (role (kind_of q) a.behind a.last) other refl
    (taken_quiet (kind_of q) false a.behind a.ms a.taken) a.ends)
