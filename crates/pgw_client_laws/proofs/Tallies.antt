-- What stays of a tally behind an error, or behind a portal's end.
use Rattle.std.proofs.Common.{◌≡◌, List, [], ◌∷◌, ◌++◌, map, fold, Option, Some, None, refl, sym, ◌∙◌, ap}
use Rattle.std.proofs.lemmas.List.Sums.{fold-append}
use Rattle.pgw_backend.specs.declared.backend.PgWireBackendMessage.{PgWireBackendMessage as Backend}
use Rattle.pgw_backend.specs.declared.backend.PgWireBackendMessage.TheVariants as backend
use Rattle.pgw_backend.specs.declared.client_error.PgWireClientError.{PgWireClientError as ClientError}
use Rattle.pgw_backend.specs.declared.client_error.PgWireClientError.TheVariants as client
use Rattle.pgw_query.specs.declared.data.DataRow.{DataRow}
use Rattle.pgw_query.specs.Rows.{ErrorResponse}
use Rattle.pgw_query.specs.declared.response.ReadyForQuery.{ReadyForQuery}
use Rattle.pgw_session.specs.declared.types.ExecuteResult.{ExecuteResult}
use Rattle.pgw_session.specs.declared.types.ExecuteResult.TheVariants as execute
use Rattle.pgw_session.specs.declared.tally.Tally.{Tally}
use Rattle.pgw_session.specs.declared.tally.Opened.{Opened}
use Rattle.pgw_session.specs.Events.{Event, Sent, Got}
use Rattle.pgw_session.specs.Answers.{tally_after, tally_at, tally_with, noted_unless, with_end, with_row, first_error}
use Rattle.pgw_session.specs.Machine.{end_with}
use Rattle.pgw_client_calls.specs.Talk.{first_error_of}
use Rattle.pgw_client_laws.proofs.Came.{kept, kept_stays}

pub fold_remote : (t : Tally) (e : ErrorResponse) (es : List Event) → t.remote ≡ Some e
    → (fold tally_at t es).remote ≡ Some e
fold_remote t e [] is = is
fold_remote t e (Sent m ∷ es) is = fold_remote t e es is
fold_remote t e (Got m ∷ es) is = fold_remote (tally_after t m) e es (rw is refl)

pub error_remote : (t : Tally) (e : ErrorResponse) → t.remote ≡ None
    → (tally_after t (backend.ErrorResponse e)).remote ≡ Some e
error_remote t e none = rw none refl

-- ---- a portal's end

row_executed : (t : Tally) (row : DataRow) (o : Option Opened) → (with_row o t row).executed ≡ t.executed
row_executed t row None = refl
row_executed t row (Some opened) = refl

noted_executed : (t : Tally) (m : Backend) (x : ExecuteResult (List DataRow)) → t.executed ≡ Some x
    → (tally_with t m).executed ≡ Some x
noted_executed t (backend.DataRow row) x is = row_executed t row t.opened ∙ is
noted_executed t (backend.CommandComplete m) x is = rw is refl
noted_executed t (backend.EmptyQueryResponse m) x is = rw is refl
noted_executed t (backend.PortalSuspended m) x is = rw is refl
noted_executed t m x is = is

unless_executed : (o : Option ErrorResponse) (t : Tally) (m : Backend) (x : ExecuteResult (List DataRow))
    → t.executed ≡ Some x → (noted_unless o t m).executed ≡ Some x
unless_executed None t m x is = noted_executed t m x is
unless_executed (Some e) t m x is = is

pub fold_executed : (t : Tally) (x : ExecuteResult (List DataRow)) (es : List Event) → t.executed ≡ Some x
    → (fold tally_at t es).executed ≡ Some x
fold_executed t x [] is = is
fold_executed t x (Sent m ∷ es) is = fold_executed t x es is
fold_executed t x (Got m ∷ es) is = fold_executed (tally_after t m) x es (unless_executed t.remote t m x is)

-- ---- the first error

row_remote : (t : Tally) (row : DataRow) (o : Option Opened) → (with_row o t row).remote ≡ t.remote
row_remote t row None = refl
row_remote t row (Some opened) = refl

end_remote : (o : Option (ExecuteResult (List DataRow))) (t : Tally) (x : ExecuteResult (List DataRow))
    → (with_end o t x).remote ≡ t.remote
end_remote None t x = refl
end_remote (Some y) t x = refl

noted_error : (t : Tally) (m : Backend) → t.remote ≡ None
    → first_error_of client.UnexpectedEOF m ≡ end_with None (tally_with t m).remote
noted_error t (backend.ErrorResponse e) none = refl
noted_error t (backend.DataRow row) none = ap (end_with None) (sym (row_remote t row t.opened ∙ none))
noted_error t (backend.CommandComplete m) none =
    ap (end_with None) (sym (end_remote t.executed _ (execute.Complete t.rows) ∙ none))
noted_error t (backend.EmptyQueryResponse m) none =
    ap (end_with None) (sym (end_remote t.executed _ (execute.Complete t.rows) ∙ none))
noted_error t (backend.PortalSuspended m) none =
    ap (end_with None) (sym (end_remote t.executed _ (execute.Suspended t.rows) ∙ none))
noted_error t m none = ap (end_with None) (sym none)

error_on : (o : Option ErrorResponse) (t : Tally) (m : Backend) → t.remote ≡ o
    → first_error_of (end_with None o) m ≡ end_with None (noted_unless o t m).remote
error_on None t m is = noted_error t m is
error_on (Some e) t m is = ap (end_with None) (sym is)

-- the error that is kept is the tally's
pub fold_kept : (t : Tally) (ms : List Backend)
    → kept (end_with None t.remote) ms ≡ end_with None (fold tally_at t (map Got ms)).remote
fold_kept t [] = refl
fold_kept t (m ∷ ms) =
    ap (λ (e : ClientError). kept e ms) (error_on t.remote t m refl) ∙ fold_kept (tally_after t m) ms

unless_ready : (o : Option ErrorResponse) (t : Tally) (ready : ReadyForQuery)
    → noted_unless o t (backend.ReadyForQuery ready) ≡ t
unless_ready None t ready = refl
unless_ready (Some e) t ready = refl

-- ReadyForQuery adds nothing
pub fold_ready : (t : Tally) (ms : List Backend) (ready : ReadyForQuery)
    → fold tally_at t (map Got ms ++ Got (backend.ReadyForQuery ready) ∷ []) ≡ fold tally_at t (map Got ms)
fold_ready t ms ready =
    fold-append tally_at t (map Got ms) (Got (backend.ReadyForQuery ready) ∷ [])
    ∙ unless_ready _ (fold tally_at t (map Got ms)) ready

-- and the events'
pub kept_first : (ms : List Backend) → end_with None (first_error (map Got ms)) ≡ kept client.UnexpectedEOF ms
kept_first [] = refl
kept_first (backend.ErrorResponse e ∷ ms) = sym (kept_stays (client.RemoteError e) ms refl)
kept_first (m ∷ ms) = kept_first ms
