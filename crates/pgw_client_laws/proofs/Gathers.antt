-- What the messages of an extended query give, by the tally.
use Rattle.std.proofs.Common.{◌≡◌, Bool, true, false, List, [], ◌∷◌, ◌++◌, map, Option, Some, None, Ok, refl, sym, ◌∙◌, ap, subst, append_assoc}
use Rattle.std.proofs.lemmas.List.{append-nil}
use Rattle.pgw_backend.specs.declared.backend.PgWireBackendMessage.{PgWireBackendMessage as Backend}
use Rattle.pgw_backend.specs.declared.backend.PgWireBackendMessage.TheVariants as backend
use Rattle.pgw_query.specs.Fields.{field_info_of, type_of}
use Rattle.pgw_query.specs.declared.data.DataRow.{DataRow}
use Rattle.pgw_query.specs.declared.data.RowDescription.{RowDescription}
use Rattle.pgw_query.specs.declared.description.ParameterDescription.{ParameterDescription}
use Rattle.pgw_query.specs.declared.response.CommandComplete.{CommandComplete}
use Rattle.pgw_query.specs.Rows.{ErrorResponse}
use Rattle.pgw_query.specs.declared.response.ReadyForQuery.{ReadyForQuery}
use Rattle.pgw_query.specs.declared.notification.NotificationResponse.{NotificationResponse}
use Rattle.pgw_session.specs.declared.types.ExecuteResult.{ExecuteResult}
use Rattle.pgw_session.specs.declared.types.ExecuteResult.TheVariants as execute
use Rattle.pgw_session.specs.declared.types.Response.TheVariants as response_kind
use Rattle.pgw_session.specs.declared.types.Request.{Request}
use Rattle.pgw_session.specs.declared.types.Request.TheVariants as request
use Rattle.pgw_session.specs.declared.types.Target.TheVariants as target
use Rattle.pgw_session.specs.declared.types.Answer.TheVariants as answer
use Rattle.pgw_session.specs.declared.tally.Tally.{Tally}
use Rattle.pgw_session.specs.declared.tally.Opened.{Opened}
use Rattle.pgw_session.specs.declared.stage.Kind.{Kind}
use Rattle.pgw_session.specs.declared.stage.Kind.TheVariants as kind
use Rattle.pgw_session.specs.declared.stage.Role.{Role}
use Rattle.pgw_session.specs.declared.stage.Role.TheVariants.{Taken, Closing, Completing, Misplaced}
use Rattle.pgw_session.specs.Requests.{kind_of, role}
use Rattle.pgw_session.specs.Answers.{tally_after, with_end, response_of, answer_with, noted_unless, answer_by, result_of, last_columns, rows_until, no_tally}
use Rattle.pgw_handlers.specs.Client.{Client}
use Rattle.pgw_handlers_default.specs.declared.extended.DefaultExtendedQueryHandler.{DefaultExtendedQueryHandler}
use Rattle.pgw_handlers_default.specs.Extended.{ExtendedMeans}
use Rattle.pgw_client_calls.specs.declared.gathered.Gathered.{Gathered}
use Rattle.pgw_client_calls.specs.Extended.{none_gathered, with_gift, Heeds, is_suspended, call_role}
use Rattle.pgw_handlers.specs.Extended.{Gift, Given, response, nothing}
use Rattle.pgw_client_laws.specs.Extended.{IsExtended, call_answer}
use Rattle.pgw_wire.specs.declared.empty.EmptyResponse.{EmptyResponse}

-- a row of the table of extended queries
abbrev pub IsAsked : Kind → Type 0
IsAsked kind.Simple = ⊥
IsAsked k = Unit {0}

pub asked : (q : Request) → IsExtended q → IsAsked (kind_of q)
asked (request.Simple query) is = absurd is
asked (request.Prepare name query types) is = tt
asked (request.Bind portal statement parameters formats) is = tt
asked (request.Execute portal max_rows) is = tt
asked (request.Describe (target.Statement name)) is = tt
asked (request.Describe (target.Portal name)) is = tt
asked (request.Close target) is = tt
asked (request.Query query types parameters) is = tt

-- rows come in these, and in the last a portal may end more than once
abbrev has_rows : Kind → Bool
has_rows kind.Execute = true
has_rows kind.Query = true
has_rows k = false

abbrev ends_often : Kind → Bool
ends_often kind.Query = true
ends_often k = false

-- what was gathered is what the tally says
pub record Gathers (k : Kind) (g : Gathered (List DataRow)) (t : Tally) : Type 0 where
  pub types : g.types ≡ t.param_types
  pub columns : g.columns ≡ last_columns t.opened
  pub rows : g.responses ≡ rows_until t.executed ++ t.rows
  pub remote : t.remote ≡ None
  pub unopened : has_rows k ≡ true → t.opened ≡ None
  pub unended : ends_often k ≡ false → t.executed ≡ None

pub gathers_none : (k : Kind) → Gathers k none_gathered no_tally
gathers_none k =
    record {
      types = refl;
      columns = refl;
      rows = refl;
      remote = refl;
      unopened = λ is. refl;
      unended = λ is. refl;
    }

row_kind : (k : Kind) (row : DataRow) (r : Bool) → IsAsked k → role k false (backend.DataRow row) ≡ Taken r
    → has_rows k ≡ true
row_kind kind.Simple row r a is = absurd a
row_kind kind.Execute row r a is = refl
row_kind kind.Query row r a is = refl
row_kind k row r a is = absurd (cc)

description_kind : (k : Kind) (m : RowDescription) (r : Bool) → IsAsked k
    → role k false (backend.RowDescription m) ≡ Taken r → has_rows k ≡ false
description_kind kind.Simple m r a is = absurd a
description_kind kind.Execute m r a is = absurd (cc)
description_kind kind.Query m r a is = absurd (cc)
description_kind k m r a is = refl

complete_kind : (k : Kind) (m : CommandComplete) (r : Bool) → IsAsked k
    → role k false (backend.CommandComplete m) ≡ Taken r → k ≡ kind.Query
complete_kind kind.Simple m r a is = absurd a
complete_kind kind.Query m r a is = refl
complete_kind k m r a is = absurd (cc)

empty_kind : (k : Kind) (m : EmptyResponse 73) (r : Bool) → IsAsked k
    → role k false (backend.EmptyQueryResponse m) ≡ Taken r → k ≡ kind.Query
empty_kind kind.Simple m r a is = absurd a
empty_kind kind.Query m r a is = refl
empty_kind k m r a is = absurd (cc)

suspended_kind : (k : Kind) (m : EmptyResponse 115) (r : Bool) → role k false (backend.PortalSuspended m) ≡ Taken r
    → ⊥
suspended_kind kind.Execute m r is = cc
suspended_kind k m r is = cc

abbrev ok : Gift DataRow → Given DataRow
ok gift = Ok gift

-- a notification is refused, so the place of a message that is heeded is that of the table
pub by_table : (k : Kind) (h after : DefaultExtendedQueryHandler) (c : Client) (g more : Gathered (List DataRow))
    (m : Backend) (r : Role)
    → call_role k m ≡ r → Heeds ExtendedMeans h c g m after more → role k false m ≡ r
by_table k h after c g more (backend.NotificationResponse m) r is heeds = absurd (heeds.1)
by_table k h after c g more m r is heeds = is

pub stray : (k : Kind) (m : NotificationResponse) → role k false (backend.NotificationResponse m) ≡ Misplaced
stray kind.Simple m = refl
stray kind.Prepare m = refl
stray kind.Bind m = refl
stray kind.Execute m = refl
stray kind.DescribeStatement m = refl
stray kind.DescribePortal m = refl
stray kind.Close m = refl
stray kind.Query m = refl

-- ---- one message more

module _ (k : Kind) (h after : DefaultExtendedQueryHandler) (c : Client) (g more : Gathered (List DataRow))
    (t : Tally) (a : IsAsked k) (s : Gathers k g t) where
  same : (m : Backend) → tally_after t m ≡ t → more ≡ g → Gathers k more (tally_after t m)
  same m is are =
      subst (Gathers k more) (sym is) (subst (λ (x : Gathered (List DataRow)). Gathers k x t) (sym are) s)

  pub row_gathers : (row : DataRow) → has_rows k ≡ true → more ≡ record g { responses = g.responses ++ row ∷ [] }
      → Gathers k more (tally_after t (backend.DataRow row))
  row_gathers row has is =
      let tally : tally_after t (backend.DataRow row) ≡ record t { rows = t.rows ++ row ∷ [] } =
      rw (s.remote, s.unopened has) refl in
      subst (Gathers k more) (sym tally)
      (subst (λ (x : Gathered (List DataRow)). Gathers k x (record t { rows = t.rows ++ row ∷ [] })) (sym is)
      (record {
        types = s.types;
        columns = s.columns;
        rows = ap (λ (l : List DataRow). l ++ row ∷ []) s.rows
            ∙ append_assoc (rows_until t.executed) t.rows (row ∷ []);
        remote = s.remote;
        unopened = s.unopened;
        unended = s.unended;
      }))

  pub description_gathers : (m : RowDescription) → has_rows k ≡ false
      → more ≡ record g { columns = map field_info_of m.fields }
      → Gathers k more (tally_after t (backend.RowDescription m))
  description_gathers m has is =
      let opened : Opened = record { fields = map field_info_of m.fields; rows = [] } in
      let tally : tally_after t (backend.RowDescription m) ≡ record t { opened = Some opened } =
      rw s.remote refl in
      subst (Gathers k more) (sym tally)
      (subst (λ (x : Gathered (List DataRow)). Gathers k x (record t { opened = Some opened })) (sym is)
      (record {
        types = s.types;
        columns = refl;
        rows = s.rows;
        remote = s.remote;
        unopened = λ yes. absurd (cc);
        unended = s.unended;
      }))

  pub parameters_gather : (m : ParameterDescription) → more ≡ record g { types = map type_of m.types }
      → Gathers k more (tally_after t (backend.ParameterDescription m))
  parameters_gather m is =
      let tally : tally_after t (backend.ParameterDescription m) ≡ record t { param_types = map type_of m.types } =
      rw s.remote refl in
      subst (Gathers k more) (sym tally)
      (subst (λ (x : Gathered (List DataRow)). Gathers k x (record t { param_types = map type_of m.types }))
      (sym is) (record {
        types = refl;
        columns = s.columns;
        rows = s.rows;
        remote = s.remote;
        unopened = s.unopened;
        unended = s.unended;
      }))

  -- a portal's end, in a query
  ended_gathers : (u : Tally) (x : Option (ExecuteResult (List DataRow))) → k ≡ kind.Query → t.executed ≡ x
      → u.param_types ≡ t.param_types → u.opened ≡ None → u.rows ≡ t.rows → u.remote ≡ None
      → u.executed ≡ t.executed →
      Gathers k g (with_end t.executed u (execute.Complete t.rows))
  ended_gathers u None query is types opened rows remote ended = rw is (record {
    types = s.types ∙ sym types;
    columns = s.columns ∙ ap last_columns (s.unopened (ap has_rows query)) ∙ sym (ap last_columns opened);
    rows = s.rows ∙ ap (λ (o : Option (ExecuteResult (List DataRow))). rows_until o ++ t.rows) is
        ∙ sym (append-nil t.rows);
    remote = remote;
    unopened = λ yes. opened;
    unended = λ not. absurd (let often : ends_often k ≡ true = ap ends_often query in cc);
  })
  ended_gathers u (Some x) query is types opened rows remote ended = rw is (record {
    types = s.types ∙ sym types;
    columns = s.columns ∙ ap last_columns (s.unopened (ap has_rows query)) ∙ sym (ap last_columns opened);
    rows = s.rows ∙ ap (λ (o : Option (ExecuteResult (List DataRow))). rows_until o ++ t.rows) (sym ended)
        ∙ ap (λ (l : List DataRow). rows_until u.executed ++ l) (sym rows);
    remote = remote;
    unopened = λ yes. opened;
    unended = λ not. absurd (let often : ends_often k ≡ true = ap ends_often query in cc);
  })

  complete_gathers : (m : CommandComplete) → k ≡ kind.Query → more ≡ g
      → Gathers k more (tally_after t (backend.CommandComplete m))
  complete_gathers m query is =
      let u : Tally = record t { responses = t.responses ++ response_of t.opened m.tag ∷ []; opened = None } in
      subst (Gathers k more)
      (sym (ap (λ (o : Option ErrorResponse). noted_unless o t (backend.CommandComplete m)) s.remote))
      (subst (λ (x : Gathered (List DataRow)). Gathers k x (with_end t.executed u (execute.Complete t.rows)))
      (sym is) (ended_gathers u t.executed query refl refl refl refl s.remote refl))

  empty_gathers : (m : EmptyResponse 73) → k ≡ kind.Query → more ≡ g
      → Gathers k more (tally_after t (backend.EmptyQueryResponse m))
  empty_gathers m query is =
      let u : Tally = record t { responses = t.responses ++ response_kind.EmptyQuery ∷ [] } in
      subst (Gathers k more)
      (sym (ap (λ (o : Option ErrorResponse). noted_unless o t (backend.EmptyQueryResponse m)) s.remote))
      (subst (λ (x : Gathered (List DataRow)). Gathers k x (with_end t.executed u (execute.Complete t.rows)))
      (sym is) (ended_gathers u t.executed query refl refl (s.unopened (ap has_rows query)) refl s.remote
      refl))

  response_is : {x : Gift DataRow} {row : DataRow} → ok x ≡ ok (response row) → x ≡ response row
  response_is {x} {row} e = cc

  nothing_given : {x : Gift DataRow} → ok x ≡ ok nothing → x ≡ nothing
  nothing_given {x} e = cc

  -- a message that is taken
  pub gathers : (m : Backend) (r : Bool) → role k false m ≡ Taken r → Heeds ExtendedMeans h c g m after more
      → Gathers k more (tally_after t m)
  gathers (backend.ParameterDescription m) r is heeds =
      parameters_gather m (heeds.2 ∙ ap (with_gift g) (heeds.1).1)
  gathers (backend.RowDescription m) r is heeds =
      description_gathers m (description_kind k m r a is) (heeds.2 ∙ ap (with_gift g) (heeds.1).1)
  gathers (backend.DataRow m) r is heeds =
      row_gathers m (row_kind k m r a is) (heeds.2 ∙ ap (with_gift g) (response_is (heeds.1).1))
  gathers (backend.CommandComplete m) r is heeds =
      complete_gathers m (complete_kind k m r a is) (heeds.2 ∙ ap (with_gift g) (heeds.1).1)
  gathers (backend.EmptyQueryResponse m) r is heeds = empty_gathers m (empty_kind k m r a is) heeds.1
  gathers (backend.PortalSuspended m) r is heeds = absurd (suspended_kind k m r is)
  gathers (backend.NoticeResponse m) r is heeds =
      same (backend.NoticeResponse m) (rw s.remote refl) (heeds.2 ∙ ap (with_gift g) (nothing_given (heeds.1).1))
  gathers (backend.NotificationResponse m) r is heeds = absurd (heeds.1)
  gathers (backend.ErrorResponse m) r is heeds = absurd (cc)
  gathers m r is heeds = same m (rw s.remote refl) heeds.1

-- ---- the answer

-- where nothing but the execution of a portal tells it
abbrev IsPlain : Request → Type 0
IsPlain (request.Execute portal max_rows) = ⊥
IsPlain q = Unit {0}

plain_answer : (q : Request) (g : Gathered (List DataRow)) (t : Tally) → IsExtended q → IsPlain q
    → Gathers (kind_of q) g t → answer_by q t ≡ call_answer q (g, false)
plain_answer (request.Simple query) g t e p s = absurd e
plain_answer (request.Prepare name query types) g t e p s =
    ap (λ o. answer_with o (result_of (request.Prepare name query types) t)) s.remote
    ∙ ap (λ ts. answer.Prepared (record { name = name; param_types = ts })) (sym s.types)
plain_answer (request.Bind portal statement parameters formats) g t e p s =
    ap (λ o. answer_with o answer.Bound) s.remote
plain_answer (request.Execute portal max_rows) g t e p s = absurd p
plain_answer (request.Describe target) g t e p s =
    ap (λ o. answer_with o (result_of (request.Describe target) t)) s.remote
    ∙ ap (λ ts. answer.Described (record { param_types = ts; fields = last_columns t.opened })) (sym s.types)
    ∙ ap (λ fs. answer.Described (record { param_types = g.types; fields = fs })) (sym s.columns)
plain_answer (request.Close target) g t e p s = ap (λ o. answer_with o answer.Closed) s.remote
plain_answer (request.Query query types parameters) g t e p s =
    ap (λ o. answer_with o (result_of (request.Query query types parameters) t)) s.remote
    ∙ ap answer.Rows (sym s.rows)

ready_plain : (q : Request) (m : ReadyForQuery) → role (kind_of q) false (backend.ReadyForQuery m) ≡ Closing
    → IsPlain q
ready_plain (request.Execute portal max_rows) m is = cc
ready_plain q m is = tt

bind_plain : (q : Request) (m : EmptyResponse 50) → role (kind_of q) false (backend.BindComplete m) ≡ Closing
    → IsPlain q
bind_plain (request.Execute portal max_rows) m is = cc
bind_plain q m is = tt

none_plain : (q : Request) (m : EmptyResponse 110) → role (kind_of q) false (backend.NoData m) ≡ Closing → IsPlain q
none_plain (request.Execute portal max_rows) m is = cc
none_plain q m is = tt

described_plain : (q : Request) (m : RowDescription) → role (kind_of q) false (backend.RowDescription m) ≡ Closing
    → IsPlain q
described_plain (request.Execute portal max_rows) m is = cc
described_plain q m is = tt

described_kind : (k : Kind) (m : RowDescription) → role k false (backend.RowDescription m) ≡ Closing
    → has_rows k ≡ false
described_kind kind.Execute m is = cc
described_kind kind.Query m is = cc
described_kind k m is = refl

-- ---- the roles

abbrev pub IsCloser : Backend → Type 0
IsCloser (backend.ReadyForQuery m) = Unit {0}
IsCloser (backend.BindComplete m) = Unit {0}
IsCloser (backend.NoData m) = Unit {0}
IsCloser (backend.RowDescription m) = Unit {0}
IsCloser (backend.PortalSuspended m) = Unit {0}
IsCloser m = ⊥

abbrev pub IsCompleter : Backend → Type 0
IsCompleter (backend.CommandComplete m) = Unit {0}
IsCompleter (backend.EmptyQueryResponse m) = Unit {0}
IsCompleter m = ⊥

abbrev pub Fits : Kind → Role → Backend → Type 0
Fits k Closing m = IsCloser m
Fits k Completing m = IsCompleter m × (k ≡ kind.Execute)
Fits k r m = Unit {0}

pub fits : (k : Kind) (m : Backend) → Fits k (role k false m) m
fits kind.Simple (backend.NoticeResponse m) = tt
fits kind.Simple m = tt
fits kind.Prepare (backend.NoticeResponse m) = tt
fits kind.Prepare m = tt
fits kind.Bind (backend.NoticeResponse m) = tt
fits kind.Bind m = tt
fits kind.Execute (backend.CommandComplete m) = (tt, refl)
fits kind.Execute (backend.EmptyQueryResponse m) = (tt, refl)
fits kind.Execute m = tt
fits kind.DescribeStatement (backend.NoticeResponse m) = tt
fits kind.DescribeStatement m = tt
fits kind.DescribePortal (backend.NoticeResponse m) = tt
fits kind.DescribePortal m = tt
fits kind.Close (backend.NoticeResponse m) = tt
fits kind.Close m = tt
fits kind.Query (backend.NoticeResponse m) = tt
fits kind.Query m = tt

-- rows are never described on the way
abbrev Undescribed : Role → Type 0
Undescribed (Taken rows) = rows ≡ false
Undescribed r = Unit {0}

undescribed : (k : Kind) (m : Backend) → IsAsked k → Undescribed (role k false m)
undescribed kind.Simple m a = absurd a
undescribed kind.Prepare (backend.CopyData m) a = tt
undescribed kind.Prepare (backend.NoticeResponse m) a = refl
undescribed kind.Prepare (backend.ParameterStatus m) a = refl
undescribed kind.Prepare (backend.ParseComplete m) a = refl
undescribed kind.Prepare (backend.ParameterDescription m) a = refl
undescribed kind.Prepare (backend.RowDescription m) a = refl
undescribed kind.Prepare (backend.NoData m) a = refl
undescribed kind.Prepare m a = tt
undescribed kind.Bind (backend.NoticeResponse m) a = refl
undescribed kind.Bind (backend.ParameterStatus m) a = refl
undescribed kind.Bind m a = tt
undescribed kind.Execute (backend.NoticeResponse m) a = refl
undescribed kind.Execute (backend.ParameterStatus m) a = refl
undescribed kind.Execute (backend.DataRow m) a = refl
undescribed kind.Execute m a = tt
undescribed kind.DescribeStatement (backend.NoticeResponse m) a = refl
undescribed kind.DescribeStatement (backend.ParameterStatus m) a = refl
undescribed kind.DescribeStatement (backend.ParameterDescription m) a = refl
undescribed kind.DescribeStatement (backend.RowDescription m) a = refl
undescribed kind.DescribeStatement (backend.NoData m) a = refl
undescribed kind.DescribeStatement m a = tt
undescribed kind.DescribePortal (backend.NoticeResponse m) a = refl
undescribed kind.DescribePortal (backend.ParameterStatus m) a = refl
undescribed kind.DescribePortal (backend.ParameterDescription m) a = refl
undescribed kind.DescribePortal m a = tt
undescribed kind.Close (backend.NoticeResponse m) a = refl
undescribed kind.Close (backend.ParameterStatus m) a = refl
undescribed kind.Close (backend.CloseComplete m) a = refl
undescribed kind.Close m a = tt
undescribed kind.Query (backend.NoticeResponse m) a = refl
undescribed kind.Query (backend.ParameterStatus m) a = refl
undescribed kind.Query (backend.ParseComplete m) a = refl
undescribed kind.Query (backend.BindComplete m) a = refl
undescribed kind.Query (backend.DataRow m) a = refl
undescribed kind.Query (backend.CommandComplete m) a = refl
undescribed kind.Query (backend.EmptyQueryResponse m) a = refl
undescribed kind.Query m a = tt

pub taken_false : (k : Kind) (m : Backend) (rows : Bool) → IsAsked k → role k false m ≡ Taken rows → rows ≡ false
taken_false k m rows a is = subst Undescribed is (undescribed k m a)

-- ---- the closing message

suspended_answer : (q : Request) (m : EmptyResponse 115) (g : Gathered (List DataRow)) (t : Tally) → IsExtended q
    → role (kind_of q) false (backend.PortalSuspended m) ≡ Closing → Gathers (kind_of q) g t
    → answer_by q (tally_after t (backend.PortalSuspended m)) ≡ call_answer q (g, true)
suspended_answer (request.Simple query) m g t e is s = absurd e
suspended_answer (request.Execute portal max_rows) m g t e is s =
    let unended : t.executed ≡ None = s.unended refl in
    let rows : g.responses ≡ t.rows =
    s.rows ∙ ap (λ (o : Option (ExecuteResult (List DataRow))). rows_until o ++ t.rows) unended in
    rw (s.remote, unended, rows) refl
suspended_answer (request.Prepare name query types) m g t e is s = absurd (cc)
suspended_answer (request.Bind portal statement parameters formats) m g t e is s = absurd (cc)
suspended_answer (request.Describe (target.Statement name)) m g t e is s = absurd (cc)
suspended_answer (request.Describe (target.Portal name)) m g t e is s = absurd (cc)
suspended_answer (request.Close target) m g t e is s = absurd (cc)
suspended_answer (request.Query query types parameters) m g t e is s = absurd (cc)

module _ (q : Request) (e : IsExtended q) (h after : DefaultExtendedQueryHandler) (c : Client)
    (g more : Gathered (List DataRow)) (t : Tally) (s : Gathers (kind_of q) g t) where
  silent : (m : Backend) → tally_after t m ≡ t → more ≡ g → IsPlain q
      → answer_by q (tally_after t m) ≡ call_answer q (more, false)
  silent m is are plain =
      ap (answer_by q) is ∙ plain_answer q g t e plain s
      ∙ ap (λ (x : Gathered (List DataRow)). call_answer q (x, false)) (sym are)

  nothing_is : {x : Gift DataRow} → ok x ≡ ok nothing → x ≡ nothing
  nothing_is {x} is = cc

  pub closing_answer : (m : Backend) → role (kind_of q) false m ≡ Closing → Heeds ExtendedMeans h c g m after more
      → answer_by q (tally_after t m) ≡ call_answer q (more, is_suspended m)
  closing_answer (backend.ReadyForQuery m) is heeds =
      silent (backend.ReadyForQuery m) (rw s.remote refl) heeds.1 (ready_plain q m is)
  closing_answer (backend.BindComplete m) is heeds =
      silent (backend.BindComplete m) (rw s.remote refl) heeds.1 (bind_plain q m is)
  closing_answer (backend.NoData m) is heeds =
      silent (backend.NoData m) (rw s.remote refl) heeds.1 (none_plain q m is)
  closing_answer (backend.RowDescription m) is heeds =
      plain_answer q more (tally_after t (backend.RowDescription m)) e (described_plain q m is)
      (description_gathers (kind_of q) h after c g more t (asked q e) s m (described_kind (kind_of q) m is)
      (heeds.2
      ∙ ap (with_gift g) (heeds.1).1))
  closing_answer (backend.PortalSuspended m) is heeds =
      suspended_answer q m g t e is s
      ∙ ap (λ (x : Gathered (List DataRow)). call_answer q (x, true)) (sym (heeds.2
      ∙ ap (with_gift g) (nothing_is (heeds.1).1)))
  closing_answer m is heeds = absurd (subst (λ (r : Role). Fits (kind_of q) r m) is (fits (kind_of q) m))
