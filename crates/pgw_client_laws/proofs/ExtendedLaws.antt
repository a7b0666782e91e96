-- A call of extended queries with the default handler is one segment.
use Rattle.std.proofs.Common.{◌≡◌, ◌⊎◌, ℕ, Bool, true, false, List, [], ◌∷◌, ◌++◌, map, fold, Option, Some, None, Result, Ok, Err, inl, inr, refl, sym, ◌∙◌, ap, subst, append_assoc}
use Rattle.std.proofs.lemmas.List.{append-nil}
use Rattle.pgw_backend.specs.ClientError.{IsUnexpected}
use Rattle.pgw_backend.specs.declared.backend.PgWireBackendMessage.{PgWireBackendMessage as Backend}
use Rattle.pgw_backend.specs.declared.backend.PgWireBackendMessage.TheVariants as backend
use Rattle.pgw_backend.specs.declared.client_error.PgWireClientError.{PgWireClientError as ClientError}
use Rattle.pgw_backend.specs.declared.client_error.PgWireClientError.TheVariants as client
use Rattle.pgw_query.specs.declared.data.DataRow.{DataRow}
use Rattle.pgw_query.specs.Rows.{ErrorResponse}
use Rattle.pgw_wire.specs.Framing.{encoded}
use Rattle.pgw_frontend.specs.declared.frontend.PgWireFrontendMessage.{PgWireFrontendMessage as Frontend}
use Rattle.pgw_frontend.specs.declared.frontend.PgWireFrontendMessage.TheVariants as frontend
use Rattle.pgw_frontend.specs.Frontend.{encoding, encodings, both}
use Rattle.pgw_session.specs.declared.types.ExecuteResult.{ExecuteResult}
use Rattle.pgw_session.specs.declared.types.ExecuteResult.TheVariants as execute
use Rattle.pgw_session.specs.declared.types.Request.{Request}
use Rattle.pgw_session.specs.declared.types.Request.TheVariants as request
use Rattle.pgw_session.specs.declared.types.Target.TheVariants as target
use Rattle.pgw_session.specs.declared.types.Answer.TheVariants as answer
use Rattle.pgw_session.specs.declared.tally.Tally.{Tally}
use Rattle.pgw_session.specs.declared.stage.Kind.{Kind}
use Rattle.pgw_session.specs.declared.stage.Kind.TheVariants as kind
use Rattle.pgw_session.specs.declared.stage.Role.{Role}
use Rattle.pgw_session.specs.declared.stage.Role.TheVariants.{Taken, Closing, Completing, Misplaced}
use Rattle.pgw_session.specs.Events.{Event, Sent, Got}
use Rattle.pgw_session.specs.Requests.{kind_of, sends_of, sync, behind_error, passes_over, role}
use Rattle.pgw_session.specs.Segments.{IsAnswer, IsEnd, IsQuiet, IsPassedOver, sends}
use Rattle.pgw_session.specs.Answers.{tally_after, tally_at, no_tally, answer_by, answer_with, executed_of, rows_until, first_error, result_of}
use Rattle.pgw_session.specs.Machine.{end_with}
use Rattle.pgw_handlers.specs.Client.{Client, Sight}
use Rattle.pgw_handlers.specs.Sending.{Sent as IsSent, NotSent}
use Rattle.pgw_handlers.specs.Handling.{HandlerView, standing, IsCaused}
use Rattle.pgw_handlers.specs.Extended as call
use Rattle.pgw_handlers.specs.Extended.{ExtendedCall as Call, nothing}
use Rattle.pgw_handlers_default.specs.declared.extended.DefaultExtendedQueryHandler.{DefaultExtendedQueryHandler}
use Rattle.pgw_handlers_default.specs.Extended.{ExtendedMeans}
use Rattle.pgw_client_calls.specs.Talk.{fresh, Next, client_after, is_refusal, IsCutPiece}
use Rattle.pgw_client_calls.specs.Line.{Line, Reasons, Pause}
use Rattle.pgw_client_calls.specs.declared.gathered.Gathered.{Gathered}
use Rattle.pgw_client_calls.specs.Extended.{none_gathered, with_gift, Heeds, RefusesBy, call_for, Finish, finish, is_suspended, call_role, Syncs, outcome_behind, EndsAnswer, Exchange, calls_for, CallsInOrder, Requested}
use Rattle.pgw_client_laws.specs.Turns.{standing_of_client, AreExchanged, Does, IsPassing, error_behind}
use Rattle.pgw_client_laws.specs.Extended.{IsExtended, call_answer, EndsExtendedCall}
use Rattle.pgw_client_laws.proofs.Openings.{IsLinkEnd, one_encoding, never_rose, paused_ends}
use Rattle.pgw_client_laws.proofs.Exchanges.{exchanged_none, exchanged_sent, got_one, got_last}
use Rattle.pgw_client_laws.proofs.Came.{in_place_of_none, Shape, Meets, Came, within, taken_onto, came_onto, lacking, lacked, Lacking, IsOpenEnd, PassingTo, passing_to, kept, kept_stays}
use Rattle.pgw_client_laws.proofs.Called.{tally_opened, called, cut_opening}
use Rattle.pgw_client_laws.proofs.Tallies.{fold_remote, error_remote, fold_executed, fold_kept, fold_ready, kept_first}
use Rattle.pgw_client_laws.proofs.Gathers.{asked, Gathers, gathers_none, gathers, by_table, stray, taken_false, closing_answer, fits, Fits, IsCompleter}

abbrev Handler : Type 0
Handler = DefaultExtendedQueryHandler

-- where a call stands, and what it comes to from there
abbrev from : Request → Tally → Shape
from q t = within q false t

abbrev To : Request → Reasons → Tally → Client → List ℕ → List ℕ → Finish Handler DataRow → Type 0
To q P t c bytes sent end = Came (from q t) (call_answer q) P c bytes sent end.info end.rest end.answer end.broken

pub extended_breaks : (q : Request) → IsExtended q → passes_over (kind_of q) ≡ false
extended_breaks (request.Simple query) e = absurd e
extended_breaks (request.Prepare name query types) e = refl
extended_breaks (request.Bind portal statement parameters formats) e = refl
extended_breaks (request.Execute portal max_rows) e = refl
extended_breaks (request.Describe (target.Statement name)) e = refl
extended_breaks (request.Describe (target.Portal name)) e = refl
extended_breaks (request.Close target) e = refl
extended_breaks (request.Query query types parameters) e = refl

-- ---- a message that ends the answer

pub record Ending (q : Request) (c : Client) (t : Tally) (m : Backend) (due : Option Frontend) (e : ClientError)
    (more : Gathered (List DataRow)) : Type 0 where
  pub tells : client_after m c ≡ c
  pub ends : (rest : List Event) → IsPassedOver rest
      → IsEnd (kind_of q) (role (kind_of q) false m) (map Sent (sends due) ++ rest)
  pub passing : (ms : List Backend) → IsQuiet ms
      → IsPassing (kind_of q) (role (kind_of q) false m) (map Sent (sends due) ++ map Got ms)
  pub error : (ms : List Backend)
      → kept e ms ≡ error_behind (role (kind_of q) false m) m (map Sent (sends due) ++ map Got ms)
  pub so_far : e ≡ end_with None (tally_after t m).remote
  pub answers : (es : List Event) → (fold tally_at (tally_after t m) es).remote ≡ None
      → answer_by q (fold tally_at (tally_after t m) es) ≡ call_answer q (more, false)
  pub syncs : (f : Frontend) → due ≡ Some f → f ≡ sync
  pub behind : due ≡ behind_error (kind_of q)

some_is : {x y : Frontend} → Some x ≡ Some y → x ≡ y
some_is {x} {y} is = cc

-- the execution of a portal is the one answer that is completed
executed_answer : (q : Request) (g : Gathered (List DataRow)) (t u : Tally) → IsExtended q
    → kind_of q ≡ kind.Execute → Gathers (kind_of q) g t → u.executed ≡ Some (execute.Complete t.rows)
    → u.remote ≡ None → answer_by q u ≡ call_answer q (g, false)
executed_answer (request.Simple query) g t u e is s ended none = absurd e
executed_answer (request.Execute portal max_rows) g t u e is s ended none =
    let rows : g.responses ≡ t.rows =
    s.rows ∙ ap (λ (o : Option (ExecuteResult (List DataRow))). rows_until o ++ t.rows) (s.unended refl) in
    ap (λ o. answer_with o (answer.Executed (executed_of u.executed))) none
    ∙ ap (λ o. answer.Executed (executed_of o)) ended
    ∙ ap (λ (l : List DataRow). answer.Executed (execute.Complete l)) (sym rows)
executed_answer (request.Prepare name query types) g t u e is s ended none = absurd (cc)
executed_answer (request.Bind portal statement parameters formats) g t u e is s ended none = absurd (cc)
executed_answer (request.Describe (target.Statement name)) g t u e is s ended none = absurd (cc)
executed_answer (request.Describe (target.Portal name)) g t u e is s ended none = absurd (cc)
executed_answer (request.Close target) g t u e is s ended none = absurd (cc)
executed_answer (request.Query query types parameters) g t u e is s ended none = absurd (cc)

unended_of : (k : Kind) (g : Gathered (List DataRow)) (t : Tally) → k ≡ kind.Execute → Gathers k g t
    → t.executed ≡ None
unended_of k g t is s = s.unended (rw is refl)

module _ (q : Request) (e : IsExtended q) (h : Handler) (c : Client) (g : Gathered (List DataRow)) (t : Tally)
    (s : Gathers (kind_of q) g t) where
  completing : (m : Backend) (more : Gathered (List DataRow)) → role (kind_of q) false m ≡ Completing
      → IsCompleter m → kind_of q ≡ kind.Execute → more ≡ g → client_after m c ≡ c
      → (tally_after t m).remote ≡ None → (tally_after t m).executed ≡ Some (execute.Complete t.rows) →
      ((ms : List Backend) → error_behind Completing m (Sent sync ∷ map Got ms) ≡ end_with None
      (first_error (map Got ms)))
      → Ending q c t m (Some sync) client.UnexpectedEOF more
  completing m more is completer execution are tells none ended first = record {
    tells = tells;
    ends = λ rest passed. subst (λ (r : Role). IsEnd (kind_of q) r (Sent sync ∷ rest)) (sym is)
        (rest, refl, passed);
    passing =
        λ ms quiet. subst (λ (r : Role). IsPassing (kind_of q) r (Sent sync ∷ map Got ms)) (sym is)
        (ms, refl, quiet);
    error =
        λ ms. sym (ap (λ (r : Role). error_behind r m (Sent sync ∷ map Got ms)) is ∙ first ms ∙ kept_first ms);
    so_far = ap (end_with None) (sym none);
    answers =
        λ es none_behind. executed_answer q g t (fold tally_at (tally_after t m) es) e execution s
        (fold_executed (tally_after t m) (execute.Complete t.rows) es ended) none_behind
        ∙ ap (λ (x : Gathered (List DataRow)). call_answer q (x, false)) (sym are);
    syncs = λ f due. sym (some_is due);
    behind = sym (ap behind_error execution);
  }

  completed : (m : Backend) (after : Handler) (more : Gathered (List DataRow))
      → role (kind_of q) false m ≡ Completing → Heeds ExtendedMeans h c g m after more
      → Fits (kind_of q) Completing m → Ending q c t m (Some sync) client.UnexpectedEOF more
  completed (backend.CommandComplete m) after more is heeds f =
      let unended = unended_of (kind_of q) g t f.1 s in
      completing (backend.CommandComplete m) more is tt f.1 (heeds.2
      ∙ ap (with_gift g) (heeds.1).1) refl (rw (s.remote, unended) refl) (rw (s.remote, unended) refl)
      (λ ms. refl)
  completed (backend.EmptyQueryResponse m) after more is heeds f =
      let unended = unended_of (kind_of q) g t f.1 s in
      completing (backend.EmptyQueryResponse m) more is tt f.1 heeds.1 refl (rw (s.remote, unended) refl)
      (rw (s.remote, unended) refl) (λ ms. refl)
  completed m after more is heeds f = absurd f.0

  due_syncs : (k : Kind) (f : Frontend) → behind_error k ≡ Some f → f ≡ sync
  due_syncs kind.Bind f is = sym (some_is is)
  due_syncs kind.Execute f is = sym (some_is is)
  due_syncs kind.DescribePortal f is = sym (some_is is)
  due_syncs k f is = absurd (cc)

  failing : (x : ErrorResponse)
      → Ending q c t (backend.ErrorResponse x) (behind_error (kind_of q)) (client.RemoteError x) g
  failing x =
      let remote = error_remote t x s.remote in
      record {
        tells = refl;
        ends = λ rest passed. (rest, refl, passed);
        passing = λ ms quiet. (ms, refl, quiet);
        error = λ ms. kept_stays (client.RemoteError x) ms refl;
        so_far = ap (end_with None) (sym remote);
        answers =
            λ es none. absurd (let some = fold_remote (tally_after t (backend.ErrorResponse x)) x es remote in cc);
        syncs = due_syncs (kind_of q);
        behind = refl;
      }

  pub ending : (m : Backend) (due : Option Frontend) (before : HandlerView Handler) (x : ClientError)
      (more : Gathered (List DataRow))
      → EndsAnswer ExtendedMeans (kind_of q) h c g m due before x more
      → Ending q c t m due x more × (before.sight ≡ fresh c)
  ending _ _ _ _ _ (EndsAnswer.completing m after more is heeds) =
      let placed = by_table (kind_of q) h after c g more m Completing is heeds in (
        completed m after more placed heeds
            (subst (λ (r : Role). Fits (kind_of q) r m) placed (fits (kind_of q) m)),
        refl,
      )
  ending _ _ _ _ _ (EndsAnswer.failing m) = (failing m, refl)

-- ---- behind it

sync_bytes : (out : List ℕ) × (encoding sync ≡ Ok out)
unfolding encoding encoded
sync_bytes = (_, refl)

-- what was sent behind it
pub record Synced (due : Option Frontend) (c : Client) (s : HandlerView Handler) : Type 0 where
  pub encodes : encodings (sends due) ≡ Ok s.sight.wrote
  pub client : s.sight.client ≡ c

synced_by : (f : Frontend) (c : Client) (before s : HandlerView Handler)
    → ((x : Frontend) → Some f ≡ Some x → x ≡ sync) → before.sight ≡ fresh c
    → ExtendedMeans before call.sync s (Ok nothing) → Synced (Some f) c s
synced_by f c before s is same means =
    let sent = means.0 in
    let wrote : s.sight.wrote ≡ sent.bytes =
    ap (λ (x : Sight). x.wrote) sent.after ∙ ap (λ (x : Sight). x.wrote ++ sent.bytes) same in
    record {
      encodes =
          ap (λ (m : Frontend). encodings (m ∷ [])) (is f refl) ∙ one_encoding sync sent.bytes sent.spells
          ∙ ap Ok (sym wrote);
      client = ap (λ (x : Sight). x.client) sent.after ∙ ap (λ (x : Sight). x.client) same;
    }

synced : (due : Option Frontend) (c : Client) (before s : HandlerView Handler)
    → ((f : Frontend) → due ≡ Some f → f ≡ sync) → before.sight ≡ fresh c → Syncs ExtendedMeans due before s
    → Synced due c s
synced None c before s is same syncs = record {
  encodes =
      ap Ok (sym (ap (λ (x : HandlerView Handler). x.sight.wrote) syncs ∙ ap (λ (x : Sight). x.wrote) same));
  client = ap (λ (x : HandlerView Handler). x.sight.client) syncs ∙ ap (λ (x : Sight). x.client) same;
}
synced (Some f) c before s is same syncs = synced_by f c before s is same syncs.0

outcome_broken : (more : Gathered (List DataRow)) (x : ClientError) → outcome_behind more x true ≡ Err x
outcome_broken more client.UnexpectedEOF = refl
outcome_broken more x = refl

open_end : (S : Shape) (r : Option ErrorResponse) → IsOpenEnd S (end_with None r)
open_end S None = tt
open_end S (Some e) = tt

module _ (q : Request) (P : Reasons) (ends : (x : ClientError) → P.halts x → IsLinkEnd x) (c : Client) (t : Tally)
    (bytes : List ℕ) (m : Backend) (rest : List ℕ) (next : Next c bytes m rest) (due : Option Frontend)
    (e : ClientError) (more : Gathered (List DataRow)) (n : Ending q c t m due e more) where
  -- the events behind m, with what was sent between
  behind : (s : HandlerView Handler) (es : List Event) (last : Client) (left : List ℕ) → Synced due c s
      → AreExchanged (s.sight.client).config (standing_of_client s.sight.client) rest [] es last left →
      AreExchanged c.config (standing_of_client c) bytes s.sight.wrote (Got m ∷ (map Sent (sends due) ++ es)) last
      left
  behind s es last left y x =
      got_one c c m bytes rest s.sight.wrote (map Sent (sends due) ++ es) last left next (sym n.tells)
      (subst (λ (w : List ℕ). AreExchanged c.config (standing_of_client c) rest w (map Sent (sends due) ++ es)
      last left) (append-nil s.sight.wrote)
      (exchanged_sent c.config (standing_of_client c) (sends due) s.sight.wrote rest [] es last left y.encodes
      (subst (λ (d : Client). AreExchanged d.config (standing_of_client d) rest [] es last left) y.client x)))

  stops : (ms : List Backend) (es : List Event) → es ≡ map Got ms → IsQuiet ms
      → (from q t).stops (kept e ms) (Got m ∷ (map Sent (sends due) ++ es))
  stops ms es are quiet =
      subst (λ (l : List Event). (from q t).stops (kept e ms) (Got m ∷ (map Sent (sends due) ++ l))) (sym are)
      (record {
        ms = [];
        behind = false;
        rest = Got m ∷ (map Sent (sends due) ++ map Got ms);
        are = refl;
        taken =
            refl;
        ends = inr (m, map Sent (sends due) ++ map Got ms, refl, n.passing ms quiet, n.error ms);
      })

  ends_answer : (es : List Event) → IsPassedOver es
      → IsAnswer (kind_of q) false (Got m ∷ (map Sent (sends due) ++ es))
  ends_answer es passed =
      record {
        ms = [];
        behind = false;
        last = m;
        rest = map Sent (sends due) ++ es;
        are = refl;
        taken = refl;
        ends = n.ends es passed;
      }

  tally_is : (es : List Event)
      → fold tally_at t (Got m ∷ (map Sent (sends due) ++ es)) ≡ fold tally_at (tally_after t m) es
  tally_is es = tally_opened (tally_after t m) (sends due) es

  -- the error of what was passed over, if there is one
  answers_on : (s : HandlerView Handler) (y : Synced due c s) (last : Client) (left : List ℕ) (x : ClientError)
      (d : Does IsPassedOver s.sight.client rest [] last left) (r : Option ErrorResponse)
      → (fold tally_at (tally_after t m) d.0).remote ≡ r → x ≡ end_with None r →
      To q P t c bytes s.sight.wrote (finish (outcome_behind more x false) s.handler last false left)
  answers_on s y last left x d None none is =
      subst (λ (z : ClientError). To q P t c bytes s.sight.wrote
      (finish (outcome_behind more z false) s.handler last false left)) (sym is) (
        Got m ∷ (map Sent (sends due) ++ d.0),
        (
          ends_answer d.0 d.1,
          ap (answer_by q) (tally_is d.0)
              ∙ n.answers d.0 none,
        ),
        behind s d.0 last left y d.2,
      )
  answers_on s y last left x d (Some r) some is =
      subst (λ (z : ClientError). To q P t c bytes s.sight.wrote
      (finish (outcome_behind more z false) s.handler last false left)) (sym is) (
        Got m ∷ (map Sent (sends due) ++ d.0),
        (
          ends_answer d.0 d.1,
          ap (answer_by q) (tally_is d.0)
              ∙ ap (λ o. answer_with o (result_of q (fold tally_at (tally_after t m) d.0))) some,
        ),
        behind s d.0 last
            left y d.2,
      )

  pub ends_on : (s : HandlerView Handler) (y : Synced due c s) (x : ClientError) (last : Client) (left : List ℕ)
      (broken : Bool)
      → PassingTo P e s.sight.client rest x last left broken →
      To q P t c bytes s.sight.wrote (finish (outcome_behind more x broken) s.handler last broken left)
  ends_on s y x last left false d =
      let passed = (d.0).1 in
      let told_by : kept e passed.ms ≡ end_with None (fold tally_at (tally_after t m) (map Got passed.ms)).remote =
      ap (λ (z : ClientError). kept z passed.ms) n.so_far ∙ fold_kept (tally_after t m) passed.ms in
      let all : (fold tally_at (tally_after t m) (map Got passed.ms)).remote ≡
      (fold tally_at (tally_after t m) (d.0).0).remote =
      sym (ap (λ (l : List Event). (fold tally_at (tally_after t m) l).remote) passed.are
      ∙ ap (λ (u : Tally). u.remote) (fold_ready (tally_after t m) passed.ms passed.ready)) in
      answers_on s y last left x d.0 (fold tally_at (tally_after t m) (d.0).0).remote refl (d.1 ∙ told_by
      ∙ ap (end_with None) all)
  ends_on s y x last left true (inl starved) =
      subst (λ (r : Result (Gathered (List DataRow) × Bool) ClientError). To q P t c bytes s.sight.wrote
      (finish r s.handler last true left)) (sym (outcome_broken more x))
      (subst (λ (z : ClientError). To q P t c bytes s.sight.wrote (finish (Err z) s.handler last true left))
      (sym starved) (inr (ap (λ (d : Option Frontend). encodings (sends d)) (sym n.behind)
      ∙ y.encodes)))
  ends_on s y x last left true (inr d) =
      let quiet = (d.0).1 in
      let open_at : IsOpenEnd (from q t) (kept e quiet.0) =
      subst (IsOpenEnd (from q t)) (sym (ap (λ (z : ClientError). kept z quiet.0) n.so_far
      ∙ fold_kept (tally_after t m) quiet.0))
      (open_end (from q t) (fold tally_at (tally_after t m) (map Got quiet.0)).remote) in
      subst (λ (r : Result (Gathered (List DataRow) × Bool) ClientError). To q P t c bytes s.sight.wrote
      (finish r s.handler last true left)) (sym (outcome_broken more x))
      (subst (λ (z : ClientError). To q P t c bytes s.sight.wrote (finish (Err z) s.handler last true left))
      (sym d.2)
      (lacked (Gathered (List DataRow) × Bool) (from q t) P ends c bytes s.sight.wrote last left (kept e quiet.0)
      d.1 open_at d.3 (
        Got m ∷ (map Sent (sends due) ++ (d.0).0),
        stops quiet.0 (d.0).0 quiet.1 quiet.2,
        behind s (d.0).0 last
            left y (d.0).2,
      )))

  pub unwritten_on : (s : HandlerView Handler) (y : Synced due c s) (part : List ℕ)
      → IsCutPiece P s.sight.wrote part
      → To q P t c bytes part (finish (Err client.IoError) s.handler s.sight.client true rest)
  unwritten_on s y part cut =
      inr (
        cut.1,
        cut.3,
        kept e [],
        (
          Got m ∷ (map Sent (sends due) ++ []),
          stops [] [] refl tt,
          subst (λ (w : List ℕ). AreExchanged c.config (standing_of_client c) bytes w
              (Got m ∷ (map Sent (sends due) ++ [])) s.sight.client rest) cut.2
              (behind s [] s.sight.client rest y
              (exchanged_none (s.sight.client).config (standing_of_client s.sight.client) rest)),
        ),
      )

-- ---- the messages of a call

not_synced : (q : Request) (P : Reasons) (t : Tally) (c : Client) (bytes : List ℕ)
    (before after : HandlerView Handler) (x : ClientError) (rest : List ℕ)
    → before.sight ≡ fresh c → ExtendedMeans before call.sync after (Err x) → IsCaused x 0 0 after.sight.broken →
    To q P t c bytes [] (finish (Err x) after.handler after.sight.client true rest)
not_synced q P t c bytes before after client.OutOfMemory rest same n caused = inl refl
not_synced q P t c bytes before after client.Broken rest same n caused =
    absurd (let broken = (n.0).0 in let whole : before.sight.broken ≡ false = ap (λ (s : Sight). s.broken) same in
    cc)
not_synced q P t c bytes before after client.IoError rest same n caused = absurd (never_rose caused)
not_synced q P t c bytes before after (client.PgWireError why) rest same n caused =
    absurd (let bad = (n.0).1 in let good = sync_bytes.1 in cc)
not_synced q P t c bytes before after x rest same n caused = absurd n.0

-- what has no place for any handler has none by the table
lost : (k : Kind) (m : Backend) → call_role k m ≡ Misplaced → role k false m ≡ Misplaced
lost k (backend.NotificationResponse m) is = absurd cc
lost k m is = is

misplaced_on : (q : Request) (e : IsExtended q) (P : Reasons) (t : Tally) (h : Handler) (c : Client)
    (bytes : List ℕ) (m : Backend) (rest : List ℕ) (x : ClientError)
    → Next c bytes m rest → role (kind_of q) false m ≡ Misplaced → IsUnexpected m x →
    To q P t c bytes [] (finish (Err x) h c true rest)
misplaced_on q e P t h c bytes m rest client.OutOfMemory next is u = inl refl
misplaced_on q e P t h c bytes m rest (client.UnexpectedMessage y) next is u =
    subst (λ (b : Bool). Meets b (from q t) P c bytes [] y c rest) (sym (extended_breaks q e))
    (subst (λ (z : Backend). Meets false (from q t) P c bytes [] z c rest) (sym u) (
      bytes,
      (
        [],
        record { ms = []; behind = false; are = refl; taken = refl; misplaced = is },
        exchanged_none
            c.config (standing_of_client c) bytes,
      ),
      next,
    ))
misplaced_on q e P t h c bytes m rest x next is u = absurd u

-- the handler refuses a message: memory was wanting, or it is a notification, which has no place
module _ (q : Request) (e : IsExtended q) (P : Reasons) (t : Tally) (h after : Handler) (c : Client)
    (bytes rest : List ℕ) where
  starved_on : (x : ClientError) → x ≡ client.OutOfMemory → To q P t c bytes [] (finish (Err x) after c true rest)
  starved_on x is =
      subst (λ (z : ClientError). To q P t c bytes [] (finish (Err z) after c true rest)) (sym is) (inl refl)

  refused_on : (m : Backend) (x : ClientError) → Next c bytes m rest
      → RefusesBy ExtendedMeans (call_for m) h c after x → To q P t c bytes [] (finish (Err x) after c true rest)
  refused_on (backend.ParameterDescription m) x next r = starved_on x r.1
  refused_on (backend.RowDescription m) x next r = starved_on x r.1
  refused_on (backend.DataRow m) x next r = absurd (let is = r.1 in cc)
  refused_on (backend.CommandComplete m) x next r = starved_on x r.1
  refused_on (backend.PortalSuspended m) x next r = absurd (let is = r.1 in cc)
  refused_on (backend.NoticeResponse m) x next r = absurd (let is = r.1 in cc)
  refused_on (backend.NotificationResponse m) x next r =
      misplaced_on q e P t after c bytes (backend.NotificationResponse m) rest x next (stray (kind_of q) m) r.1
  refused_on m x next r = absurd r

takes_on : (q : Request) (P : Reasons) (t : Tally) (c : Client) (bytes : List ℕ) (m : Backend)
    (rest sent : List ℕ) (last : Finish Handler DataRow)
    → Next c bytes m rest → role (kind_of q) false m ≡ Taken false
    → To q P (tally_after t m) (client_after m c) rest sent last →
    To q P t c bytes sent last
takes_on q P t c bytes m rest sent last next is x =
    came_onto (from q (tally_after t m)) (from q t) (client_after m c) c rest bytes [] sent last.info last.rest
    (taken_onto q false false t c (client_after m c) m bytes rest is next refl) (call_answer q) P last.answer
    last.broken x

closes_on : (q : Request) (P : Reasons) (t : Tally) (h : Handler) (c : Client) (bytes : List ℕ) (m : Backend)
    (rest : List ℕ) (more : Gathered (List DataRow))
    → Next c bytes m rest → role (kind_of q) false m ≡ Closing
    → answer_by q (tally_after t m) ≡ call_answer q (more, is_suspended m) →
    To q P t c bytes [] (finish (Ok (more, is_suspended m)) h (client_after m c) false rest)
closes_on q P t h c bytes m rest more next is given_is = (
  Got m ∷ [],
  (
    record {
      ms = [];
      behind = false;
      last = m;
      rest = [];
      are = refl;
      taken = refl;
      ends = subst (λ (r : Role). IsEnd (kind_of q) r []) (sym is) refl;
    },
    given_is,
  ),
  got_last c m bytes rest next,
)

lacks_on : (q : Request) (P : Reasons) (ends : (x : ClientError) → P.halts x → IsLinkEnd x) (t : Tally)
    (h : Handler) (c : Client) (bytes rest : List ℕ) (e : ClientError)
    → (e ≡ client.OutOfMemory) ⊎ (Lacking P c rest e × (rest ≡ bytes)) →
    To q P t c bytes [] (finish (Err e) h c true rest)
lacks_on q P ends t h c bytes rest e (inl starved) =
    subst (λ (z : ClientError). To q P t c bytes [] (finish (Err z) h c true rest)) (sym starved) (inl refl)
lacks_on q P ends t h c bytes rest e (inr l) =
    subst (λ (z : ClientError). To q P t c bytes [] (finish (Err z) h c true rest)) (in_place_of_none e)
    (lacked (Gathered (List DataRow) × Bool) (from q t) P ends c bytes [] c rest client.UnexpectedEOF e tt l.0 (
      [],
      record { ms = []; behind = false; rest = []; are = refl; taken = refl; ends = inl (refl, refl) },
      subst
          (λ (b : List ℕ). AreExchanged c.config (standing_of_client c) b [] [] c rest) l.1
          (exchanged_none c.config (standing_of_client c) rest),
    ))

pub exchange_to : (q : Request) (e : IsExtended q) (P : Reasons)
    (ends : (x : ClientError) → P.halts x → IsLinkEnd x) (h : Handler) (c : Client) (g : Gathered (List DataRow))
    (bytes sent : List ℕ) (last : Finish Handler DataRow)
    → Exchange ExtendedMeans P (kind_of q) h c g bytes sent last →
    (t : Tally) → Gathers (kind_of q) g t → To q P t c bytes sent last
exchange_to q e P ends _ _ _ _ _ _ (Exchange.lacks h c g bytes rest x l) t s =
    lacks_on q P ends t h c bytes rest x (lacking P c bytes rest x l)
exchange_to q e P ends _ _ _ _ _ _
    (Exchange.takes h c g bytes m rest rows after more sent last next is heeds exchange) t s =
    let placed = by_table (kind_of q) h after c g more m (Taken rows) is heeds in
    let taken : role (kind_of q) false m ≡ Taken false =
    placed ∙ ap Taken (taken_false (kind_of q) m rows (asked q e) placed) in
    takes_on q P t c bytes m rest sent last next taken
    (exchange_to q e P ends after (client_after m c) more rest sent last exchange (tally_after t m)
    (gathers (kind_of q) h after c g more t (asked q e) s m rows placed heeds))
exchange_to q e P ends _ _ _ _ _ _ (Exchange.closes h c g bytes m rest after more next is heeds) t s =
    let placed = by_table (kind_of q) h after c g more m Closing is heeds in
    closes_on q P t after c bytes m rest more next placed (closing_answer q e h after c g more t s m placed heeds)
exchange_to q e P ends _ _ _ _ _ _
    (Exchange.ends h c g bytes m rest due before s1 x more y last left broken next answer syncs passing) t s =
    let n = ending q e h c g t s m due before x more answer in
    ends_on q P ends c t bytes m rest next due x more n.0 s1 (synced due c before s1 (n.0).syncs n.1 syncs) y last
    left broken (passing_to P x s1.sight.client rest y last left broken passing)
exchange_to q e P ends _ _ _ _ _ _
    (Exchange.unsynced h c g bytes m rest due before after x y more next answer means caused usable) t s =
    not_synced q P t c bytes before after y rest (ending q e h c g t s m (Some due) before x more answer).1 means
    caused
exchange_to q e P ends _ _ _ _ _ _
    (Exchange.unwritten h c g bytes m rest due before after x more part next answer means usable cut) t s =
    let n = ending q e h c g t s m (Some due) before x more answer in
    unwritten_on q P ends c t bytes m rest next (Some due) x more n.0 after
    (synced_by due c before after (n.0).syncs n.1 means) part cut
exchange_to q e P ends _ _ _ _ _ _ (Exchange.refuses h c g bytes m rest after x next placed refuses caused) t s =
    refused_on q e P t h after c bytes rest m x next refuses
exchange_to q e P ends _ _ _ _ _ _ (Exchange.misplaced h c g bytes m rest x next is u) t s =
    misplaced_on q e P t h c bytes m rest x next (lost (kind_of q) m is) u
exchange_to q e P ends _ _ _ _ _ _ (Exchange.starves h after c last g bytes rest) t s = inl refl

-- ---- the opening

-- the messages that a handler has a function for
abbrev AreCalls : List Frontend → Type 0
AreCalls [] = Unit {0}
AreCalls (frontend.Parse m ∷ fs) = AreCalls fs
AreCalls (frontend.Bind m ∷ fs) = AreCalls fs
AreCalls (frontend.Execute m ∷ fs) = AreCalls fs
AreCalls (frontend.Describe m ∷ fs) = AreCalls fs
AreCalls (frontend.Close m ∷ fs) = AreCalls fs
AreCalls (frontend.Sync m ∷ fs) = AreCalls fs
AreCalls (frontend.Flush m ∷ fs) = AreCalls fs
AreCalls (f ∷ fs) = ⊥

are_calls : (q : Request) → IsExtended q → AreCalls (sends_of q)
are_calls (request.Simple query) e = absurd e
are_calls (request.Prepare name query types) e = tt
are_calls (request.Bind portal statement parameters formats) e = tt
are_calls (request.Execute portal max_rows) e = tt
are_calls (request.Describe (target.Statement name)) e = tt
are_calls (request.Describe (target.Portal name)) e = tt
are_calls (request.Close (target.Statement name)) e = tt
are_calls (request.Close (target.Portal name)) e = tt
are_calls (request.Query query types parameters) e = tt

-- one call, and the others; or the call fails
abbrev OpensTo : List Call → HandlerView Handler → HandlerView Handler → Result (Unit {0}) ClientError → Type 0
OpensTo [] s last (Ok done) = last ≡ s
OpensTo [] s last (Err e) = ⊥
OpensTo (f ∷ calls) s last result =
    ((next : HandlerView Handler) × ExtendedMeans s f next (Ok nothing) × OpensTo calls next last result)
    ⊎ ((e : ClientError) × (result ≡ Err e) × ExtendedMeans s f last (Err e))

opens_to : (calls : List Call) (s last : HandlerView Handler) (result : Result (Unit {0}) ClientError)
    → CallsInOrder ExtendedMeans calls s last result → OpensTo calls s last result
opens_to _ _ _ _ (CallsInOrder.opened s) = refl
opens_to _ _ _ _ (CallsInOrder.goes f calls s next last result means opens) =
    inl (next, means, opens_to calls next last result opens)
opens_to _ _ _ _ (CallsInOrder.stops f calls s last e means) = inr (e, refl, means)

-- what was sent, one message after the other
pub record Put (fs : List Frontend) (s last : Sight) : Type 0 where
  pub out : List ℕ
  pub encodes : encodings fs ≡ Ok out
  pub wrote : last.wrote ≡ s.wrote ++ out
  pub client : last.client ≡ s.client

-- or why not
abbrev NotPut : List Frontend → Sight → Sight → ClientError → Type 0
NotPut fs s last client.OutOfMemory = Unit {0}
NotPut fs s last client.IoError = Unit {0}
NotPut fs s last (client.PgWireError why) =
    (encodings fs ≡ Err why) × (last.client ≡ s.client) × (last.broken ≡ false)
NotPut fs s last e = ⊥

abbrev PutBy : List Frontend → Sight → Sight → Result (Unit {0}) ClientError → Type 0
PutBy fs s last (Ok done) = Put fs s last
PutBy fs s last (Err e) = NotPut fs s last e

put_more : (f : Frontend) (fs : List Frontend) (s next last : Sight) → IsSent (encoding f) s next
    → Put fs next last → Put (f ∷ fs) s last
put_more f fs s next last sent p = record {
  out = sent.bytes ++ p.out;
  encodes = ap (λ o. both o (encodings fs)) sent.spells ∙ ap (both (Ok sent.bytes)) p.encodes;
  wrote = p.wrote ∙ ap (λ (x : Sight). x.wrote ++ p.out) sent.after ∙ append_assoc s.wrote sent.bytes p.out;
  client = p.client ∙ ap (λ (x : Sight). x.client) sent.after;
}

not_more : (f : Frontend) (fs : List Frontend) (s next last : Sight) (e : ClientError)
    → IsSent (encoding f) s next → NotPut fs next last e → NotPut (f ∷ fs) s last e
not_more f fs s next last client.OutOfMemory sent n = tt
not_more f fs s next last client.IoError sent n = tt
not_more f fs s next last (client.PgWireError why) sent n = (
  ap (λ o. both o (encodings fs)) sent.spells ∙ ap (both (Ok sent.bytes)) n.0,
  n.1
      ∙ ap (λ (x : Sight). x.client) sent.after,
  n.2,
)
not_more f fs s next last e sent n = absurd n

by_more : (f : Frontend) (fs : List Frontend) (s next last : Sight) (result : Result (Unit {0}) ClientError)
    → IsSent (encoding f) s next → PutBy fs next last result → PutBy (f ∷ fs) s last result
by_more f fs s next last (Ok done) sent p = put_more f fs s next last sent p
by_more f fs s next last (Err e) sent p = not_more f fs s next last e sent p

not_put : (f : Frontend) (fs : List Frontend) (s last : Sight) (e : ClientError) → s.broken ≡ false
    → NotSent (encoding f) s last e → NotPut (f ∷ fs) s last e
not_put f fs s last client.OutOfMemory whole n = tt
not_put f fs s last client.IoError whole n = tt
not_put f fs s last client.Broken whole n = absurd (let broken = n.0 in cc)
not_put f fs s last (client.PgWireError why) whole n = (
  ap (λ o. both o (encodings fs)) n.1,
  ap (λ (x : Sight). x.client) n.2,
  ap (λ (x : Sight). x.broken) n.2
      ∙ whole,
)
not_put f fs s last e whole n = absurd n

one_put : (f : Frontend) (fs : List Frontend) (s last : HandlerView Handler)
    (result : Result (Unit {0}) ClientError)
    → s.sight.broken ≡ false →
    ((next : HandlerView Handler) → next.sight.broken ≡ false → OpensTo (calls_for fs) next last result → PutBy fs
    next.sight last.sight result) →
    ((next : HandlerView Handler) × IsSent (encoding f) s.sight next.sight × OpensTo (calls_for fs) next last result)
    ⊎ ((e : ClientError) × (result ≡ Err e) × NotSent (encoding f) s.sight last.sight e)
    → PutBy (f ∷ fs) s.sight last.sight result
one_put f fs s last result whole rest (inl x) =
    by_more f fs s.sight (x.0).sight last.sight result x.1 (rest x.0 (ap (λ (y : Sight). y.broken) (x.1).after
    ∙ whole) x.2)
one_put f fs s last result whole rest (inr x) =
    subst (PutBy (f ∷ fs) s.sight last.sight) (sym x.1) (not_put f fs s.sight last.sight x.0 whole x.2)

-- a call sends its message
sends_one : (f : Frontend) (x : Call) (fs : List Frontend) (s last : HandlerView Handler)
    (result : Result (Unit {0}) ClientError)
    → ((next : HandlerView Handler) → ExtendedMeans s x next (Ok nothing) → IsSent (encoding f) s.sight
    next.sight)
    → ((e : ClientError) → ExtendedMeans s x last (Err e) → NotSent (encoding f) s.sight last.sight e) →
    OpensTo (x ∷ calls_for fs) s last result
    → ((next : HandlerView Handler) × IsSent (encoding f) s.sight next.sight × OpensTo (calls_for fs) next
    last result)
    ⊎ ((e : ClientError) × (result ≡ Err e) × NotSent (encoding f) s.sight last.sight e)
sends_one f x fs s last result is not (inl y) = inl (y.0, is y.0 y.1, y.2)
sends_one f x fs s last result is not (inr y) = inr (y.0, y.1, not y.0 y.2)

puts : (fs : List Frontend) (s last : HandlerView Handler) (result : Result (Unit {0}) ClientError) → AreCalls fs
    → s.sight.broken ≡ false → OpensTo (calls_for fs) s last result → PutBy fs s.sight last.sight result
puts [] s last (Ok done) a whole o =
    record {
      out = [];
      encodes = refl;
      wrote = ap (λ (x : HandlerView Handler). x.sight.wrote) o
          ∙ sym (append-nil s.sight.wrote);
      client = ap (λ (x : HandlerView Handler). x.sight.client) o;
    }
puts [] s last (Err e) a whole o = absurd o
puts (frontend.Parse m ∷ fs) s last result a whole o =
    one_put (frontend.Parse m) fs s last result whole (λ next w x. puts fs next last result a w x)
    (sends_one (frontend.Parse m) (call.parse m) fs s last result (λ next x. x.0) (λ e x. x.0) o)
puts (frontend.Bind m ∷ fs) s last result a whole o =
    one_put (frontend.Bind m) fs s last result whole (λ next w x. puts fs next last result a w x)
    (sends_one (frontend.Bind m) (call.bind m) fs s last result (λ next x. x.0) (λ e x. x.0) o)
puts (frontend.Execute m ∷ fs) s last result a whole o =
    one_put (frontend.Execute m) fs s last result whole (λ next w x. puts fs next last result a w x)
    (sends_one (frontend.Execute m) (call.execute m) fs s last result (λ next x. x.0) (λ e x. x.0) o)
puts (frontend.Describe m ∷ fs) s last result a whole o =
    one_put (frontend.Describe m) fs s last result whole (λ next w x. puts fs next last result a w x)
    (sends_one (frontend.Describe m) (call.describe m) fs s last result (λ next x. x.0) (λ e x. x.0) o)
puts (frontend.Close m ∷ fs) s last result a whole o =
    one_put (frontend.Close m) fs s last result whole (λ next w x. puts fs next last result a w x)
    (sends_one (frontend.Close m) (call.close m) fs s last result (λ next x. x.0) (λ e x. x.0) o)
puts (frontend.Sync m ∷ fs) s last result a whole o =
    one_put (frontend.Sync m) fs s last result whole (λ next w x. puts fs next last result a w x)
    (sends_one (frontend.Sync m) call.sync fs s last result (λ next x. x.0) (λ e x. x.0) o)
puts (frontend.Flush m ∷ fs) s last result a whole o =
    one_put (frontend.Flush m) fs s last result whole (λ next w x. puts fs next last result a w x)
    (sends_one (frontend.Flush m) call.flush fs s last result (λ next x. x.0) (λ e x. x.0) o)
puts (f ∷ fs) s last result a whole o = absurd a

-- ---- a call

module _ (q : Request) (e : IsExtended q) (P : Reasons) (ends : (x : ClientError) → P.halts x → IsLinkEnd x)
    (h : Handler) (c : Client) (bytes : List ℕ) where
  put : (after : HandlerView Handler) (result : Result (Unit {0}) ClientError)
      → CallsInOrder ExtendedMeans (calls_for (sends_of q)) (standing h (fresh c)) after result
      → PutBy (sends_of q) (fresh c) after.sight result
  put after result opens =
      puts (sends_of q) (standing h (fresh c)) after result (are_calls q e) refl
      (opens_to (calls_for (sends_of q)) (standing h (fresh c)) after result opens)

  refused_to : (after : HandlerView Handler) (x : ClientError) → NotPut (sends_of q) (fresh c) after.sight x
      → is_refusal x ≡ true
      → EndsExtendedCall q c bytes [] P (finish (Err x) after.handler after.sight.client false bytes)
  refused_to after (client.PgWireError why) n is = (n.0, refl, n.1, refl)
  refused_to after x n is = let not_one : false ≡ true = is in absurd (cc)

  breaks_to : (after : HandlerView Handler) (x : ClientError) → NotPut (sends_of q) (fresh c) after.sight x
      → is_refusal x ≡ false → IsCaused x 0 0 after.sight.broken
      → EndsExtendedCall q c bytes [] P (finish (Err x) after.handler after.sight.client true bytes)
  breaks_to after client.OutOfMemory n is caused = inl refl
  breaks_to after client.IoError n is caused = absurd (never_rose caused)
  breaks_to after (client.PgWireError why) n is caused = let refusal : true ≡ false = is in absurd (cc)
  breaks_to after x n is caused = absurd n

  opened_to : (after : HandlerView Handler) (sent : List ℕ) (last : Finish Handler DataRow)
      → Put (sends_of q) (fresh c) after.sight
      → Exchange ExtendedMeans P (kind_of q) after.handler after.sight.client none_gathered bytes sent last
      → EndsExtendedCall q c bytes (after.sight.wrote ++ sent) P last
  opened_to after sent last p exchange =
      let x =
      exchange_to q e P ends after.handler after.sight.client none_gathered bytes sent last exchange no_tally
      (gathers_none (kind_of q)) in
      let y : To q P no_tally c bytes sent last =
      subst (λ (d : Client). To q P no_tally d bytes sent last) p.client x in
      subst (λ (w : List ℕ). EndsExtendedCall q c bytes (w ++ sent) P last) (sym p.wrote)
      (called (call_answer q) P q c p.out bytes sent last.info last.rest last.answer last.broken p.encodes y)

  pub requested_to : (sent : List ℕ) (last : Finish Handler DataRow)
      → Requested ExtendedMeans P q h c bytes sent last → EndsExtendedCall q c bytes sent P last
  requested_to _ _ (Requested.opened after sent last opens usable exchange) =
      opened_to after sent last (put after (Ok tt) opens) exchange
  requested_to _ _ (Requested.unwritten after part opens usable cut) =
      let x = put after (Ok tt) opens in
      inr (cut_opening P q c bytes part cut.1 after.sight.client cut.3 (x.encodes
      ∙ ap Ok (sym x.wrote ∙ cut.2)) x.client)
  requested_to _ _ (Requested.refused after x opens is usable) = refused_to after x (put after (Err x) opens) is
  requested_to _ _ (Requested.breaks after x opens is caused usable) =
      breaks_to after x (put after (Err x) opens) is caused
  requested_to _ _ (Requested.starves after last rest) = inl refl

pub extended_call : (q : Request) (before now : Line) (h : Handler) (c : Client) (bytes sent : List ℕ)
    (last : Finish Handler DataRow)
    → IsExtended q → Requested ExtendedMeans (Pause before now) q h c bytes sent last
    → EndsExtendedCall q c bytes sent (Pause before now) last
extended_call q before now h c bytes sent last e r =
    requested_to q e (Pause before now) (paused_ends before now) h c bytes sent last r
