-- The messages of a call of extended queries.
use Rattle.std.proofs.Common.{◌≡◌, ◌⊎◌, inl, inr, ℕ, Bool, true, false, List, [], ◌++◌, length, Option, Some, None, is_some, Result, Ok, Err, refl, sym, ap, subst, ◌∙◌, append_assoc}
use Rattle.std.proofs.lemmas.List.{append-nil}
use Rattle.pgw_frontend.specs.declared.frontend.PgWireFrontendMessage.{PgWireFrontendMessage as Frontend}
use Rattle.pgw_backend.specs.declared.client_error.PgWireClientError.{PgWireClientError as ClientError}
use Rattle.pgw_backend.specs.declared.client_error.PgWireClientError.TheVariants as client
use Rattle.pgw_backend.specs.declared.backend.PgWireBackendMessage.{PgWireBackendMessage as Backend}
use Rattle.pgw_backend.specs.declared.backend.PgWireBackendMessage.TheVariants as backend
use Rattle.pgw_query.specs.Rows.{ErrorResponse}
use Rattle.pgw_session.specs.declared.stage.Kind.{Kind}
use Rattle.pgw_session.specs.declared.stage.Kind.TheVariants as kind
use Rattle.pgw_session.specs.declared.stage.Role.{Role}
use Rattle.pgw_session.specs.declared.stage.Role.TheVariants.{Taken, Closing, Completing, Failing}
use Rattle.pgw_session.specs.Requests.{behind_error, sync as sync_message}
use Rattle.pgw_handlers.specs.Client.{Client}
use Rattle.pgw_handlers.specs.Handling.{HandlerView, standing, CallAnswer, IsCaused}
use Rattle.pgw_handlers.specs.Extended.{sync, nothing}
use Rattle.pgw_handlers.specs.declared.client_info.ReadyState.TheVariants.{Pending, Ready}
use Rattle.pgw_client_calls.specs.declared.gathered.Gathered.{Gathered}
use Rattle.pgw_client_calls.specs.Talk.{fresh, client_after, Next, Passing, first_error_of, is_remote}
use Rattle.pgw_client_calls.specs.Line.{Line, Reasons, Pause, IsFlushed, WentWell, EndedWell, MovesLine}
use Rattle.pgw_client_calls.specs.Reading.{LineGoesOn, MessageCame, PassedOver}
use Rattle.pgw_client_calls.specs.Calls.{IsHalted, PutAll, PutSome}
use Rattle.pgw_client_calls.specs.Extended.{Meaning, call_for, Heeds, RefusesBy, Finish, finish, is_suspended, outcome_behind, call_role, IsPlaced, Syncs, EndsAnswer, Exchange}
use Rattle.pgw_client_calls.specs.Extended as extended
use Rattle.pgw_client_calls.specs.ExtendedSteps as steps
use Rattle.pgw_client_calls.specs.ExtendedSteps.{TookMessage, Synced, SettlesSync, passed_answer, is_sync_due, state_or_error, HeededOne, TookOne, LineExchange, HeededNext}
use Rattle.pgw_client_calls.proofs.ReadingLaws.{next_more, not_halted, not_at_end, halts_on, at_end_on, at_end_so, pause_on, passing_as, PassedEnd, failed as failed_by, still_flushed, end_well, ended_on, io_of, io_answer}
use Rattle.pgw_client_calls.proofs.CallLaws.{put_none, moved_by, moved_none, moved_on, flushed_at, cut_from}

-- ---- the table

failing_error : (k : Kind) (m : Backend) → call_role k m ≡ Failing
    → (e : ErrorResponse) × (m ≡ backend.ErrorResponse e)
failing_error k (backend.ErrorResponse e) is = (e, refl)
failing_error kind.Simple m is = absurd cc
failing_error kind.Prepare m is = absurd cc
failing_error kind.Bind m is = absurd cc
failing_error kind.Execute m is = absurd cc
failing_error kind.DescribeStatement m is = absurd cc
failing_error kind.DescribePortal m is = absurd cc
failing_error kind.Close m is = absurd cc
failing_error kind.Query m is = absurd cc

-- what completes a portal tells nothing of the connection
completing_told : (k : Kind) (m : Backend) (c : Client) → call_role k m ≡ Completing → client_after m c ≡ c
completing_told k (backend.ParameterStatus x) c is = absurd cc
completing_told kind.Simple (backend.ReadyForQuery x) c is = absurd cc
completing_told kind.Prepare (backend.ReadyForQuery x) c is = absurd cc
completing_told kind.Bind (backend.ReadyForQuery x) c is = absurd cc
completing_told kind.Execute (backend.ReadyForQuery x) c is = absurd cc
completing_told kind.DescribeStatement (backend.ReadyForQuery x) c is = absurd cc
completing_told kind.DescribePortal (backend.ReadyForQuery x) c is = absurd cc
completing_told kind.Close (backend.ReadyForQuery x) c is = absurd cc
completing_told kind.Query (backend.ReadyForQuery x) c is = absurd cc
completing_told k m c is = refl

placed : (r role : Role) → r ≡ role → IsPlaced role → IsPlaced r
placed r role is p = subst IsPlaced (sym is) p

by_outcome : {H R : Type 0} (M : Meaning H R) (k : Kind) (h : H) (c : Client) (g : Gathered (List R))
    (old new : Line) (handler : H) (info : Client) (more : Gathered (List R)) (x : ClientError) (broken : Bool)
    → LineExchange M k h c g old new (finish (outcome_behind more x broken) handler info broken new.buffer)
    → HeededNext M k h c g old new handler info more broken (passed_answer x broken)
by_outcome M k h c g old new handler info more client.UnexpectedEOF false e = e
by_outcome M k h c g old new handler info more x broken e = e

no_more : (f : true ≡ false) (A : Type 0) → A
no_more f A = absurd (let no : true ≡ false = f in cc)

-- ---- the link's end

-- it is the answer, or the server's error is
halted_by : (A : Type 0) (x : ClientError) (broken : Bool) → broken ≡ true
    → (x ≡ client.UnexpectedEOF) ⊎ (is_remote x ≡ true) → IsHalted {A = A} is_remote (Err x) broken
halted_by A client.UnexpectedEOF broken ends why = ends
halted_by A (client.RemoteError m) broken ends why = (refl, ends)
halted_by A x broken ends (inl is) = absurd cc
halted_by A x broken ends (inr is) = absurd (let no : false ≡ true = is in cc)

halted_outcome : {R : Type 0} (more : Gathered (List R)) (x : ClientError) (broken : Bool) → broken ≡ true
    → (x ≡ client.UnexpectedEOF) ⊎ (is_remote x ≡ true) → IsHalted is_remote (outcome_behind more x broken) broken
halted_outcome more client.UnexpectedEOF true ends why = refl
halted_outcome more (client.RemoteError m) true ends why = (refl, refl)
halted_outcome more x false ends why = absurd (let no : false ≡ true = ends in cc)
halted_outcome more x true ends (inl is) = absurd cc
halted_outcome more x true ends (inr is) = absurd (let no : false ≡ true = is in cc)

ends_error : {H R : Type 0} (M : Meaning H R) (k : Kind) (h : H) (c : Client) (g : Gathered (List R))
    (m : Backend) (due : Option Frontend) (s : HandlerView H) (e : ClientError) (more : Gathered (List R))
    → EndsAnswer M k h c g m due s e more → (e ≡ client.UnexpectedEOF) ⊎ (is_remote e ≡ true)
ends_error M k h c g m due s e more (extended.completing m2 after more2 is x) = inl refl
ends_error M k h c g m due s e more (extended.failing x) = inr refl

ends_with : (e x : ClientError) → (x ≡ e) ⊎ ((e ≡ client.UnexpectedEOF) × (is_remote x ≡ true))
    → (e ≡ client.UnexpectedEOF) ⊎ (is_remote e ≡ true) → (x ≡ client.UnexpectedEOF) ⊎ (is_remote x ≡ true)
ends_with e x (inl same) (inl none) = inl (same ∙ none)
ends_with e x (inl same) (inr some) = inr (ap is_remote same ∙ some)
ends_with e x (inr other) why = inr other.1

io_outcome : {R : Type 0} (more : Gathered (List R)) (x : ClientError) (broken : Bool) (W : Type 0)
    → W ⊎ (x ≡ client.IoError) → W ⊎ (outcome_behind more x broken ≡ Err client.IoError)
io_outcome more x broken W (inl w) = inl w
io_outcome more x broken W (inr is) = inr (ap (λ (y : ClientError). outcome_behind more y broken) is)

-- ---- one message

module _ {H R : Type 0} (M : Meaning H R) (k : Kind) (h : H) (c : Client) (g : Gathered (List R)) (old : Line)
    (f : IsFlushed old) where
  -- no message came
  pub heeded_nothing : (info : Client) (new : Line) (e : ClientError) → info ≡ c → MessageCame c old new (Err e)
      → LineExchange M k h c g old new (finish (Err e) h info true new.buffer)
  heeded_nothing info new e same came =
      subst (λ (x : Client). LineExchange M k h c g old new (finish (Err e) h x true new.buffer)) (sym same)
      record {
        taken = came.taken;
        sent = [];
        moved = moved_none old new came.taken came.drew;
        exchange = extended.lacks h c g (old.buffer ++ came.taken) new.buffer e came.found;
        flushed = λ usable. no_more usable (IsFlushed new);
        halts = flushed_at c old new came.taken came.drew f came.halts;
        at_end =
            at_end_so _ _ old new
            (λ (same : failed_by Backend e ≡ Err client.UnexpectedEOF). halted_by (Gathered (List R) × Bool) e
            true refl (inl (cc))) came.at_end;
        well = end_well _ old new f
            (io_answer (Gathered (List R) × Bool) (WentWell old new) e
            (io_of Backend (WentWell old new) e came.well));
      }

  module _ (mid : Line) (m : Backend) (came : MessageCame c old mid (Ok m)) where
    abbrev bytes : List ℕ
    bytes = old.buffer ++ came.taken

    came_well : EndedWell old mid
    came_well = (came.goes_on.1, still_flushed old mid came.taken came.drew f)

    -- the call has ended with this message, and nothing was written
    ended : (last : Finish H R) → last.rest ≡ mid.buffer → Exchange M (Pause old mid) k h c g bytes [] last
        → LineExchange M k h c g old mid last
    ended last same x = record {
      taken = came.taken;
      sent = [];
      moved = moved_none old mid came.taken came.drew;
      exchange = x;
      flushed = λ _. came_well.1;
      halts = not_halted last.info (length mid.tape.wrote) old mid came.goes_on.0;
      at_end = not_at_end _ old mid came.goes_on.0;
      well = inl came_well;
    }

    ended_starved : (handler : H) (info : Client)
        → LineExchange M k h c g old mid (finish (Err client.OutOfMemory) handler info true mid.buffer)
    ended_starved handler info =
        ended (finish (Err client.OutOfMemory) handler info true mid.buffer) refl
        (extended.starves h handler c info g bytes mid.buffer)

    -- a message that has a place was refused, or memory was wanting for it
    took_none : (handler : H) (info : Client) (more : Gathered (List R)) (r : Result (Unit {0}) ClientError)
        (e : ClientError) (broken : Bool)
        → IsPlaced (call_role k m) → TookMessage M h c g m handler info more r broken → r ≡ Err e
        → LineExchange M k h c g old mid (finish (Err e) handler info broken mid.buffer)
    took_none handler info more r e broken call_role (steps.takes x same) is = absurd cc
    took_none handler info more r e broken call_role (steps.refuses e2 x caused same) is =
        let i : e2 ≡ e = cc in
        subst (λ (y : ClientError). LineExchange M k h c g old mid (finish (Err y) handler info true mid.buffer))
        i
        (subst (λ (y : Client). LineExchange M k h c g old mid (finish (Err e2) handler y true mid.buffer))
        (sym same)
        (ended (finish (Err e2) handler c true mid.buffer) refl
        (extended.refuses h c g bytes m mid.buffer handler e2 came.found call_role x caused)))
    took_none handler info more r e broken call_role steps.wants is =
        let i : client.OutOfMemory ≡ e = cc in
        subst (λ (y : ClientError). LineExchange M k h c g old mid (finish (Err y) handler info true mid.buffer))
        i (ended_starved handler info)

    -- a message was taken
    took_one : (handler : H) (info : Client) (more : Gathered (List R)) (r : Result (Unit {0}) ClientError)
        (rows broken : Bool)
        → call_role k m ≡ Taken rows → TookMessage M h c g m handler info more r broken → r ≡ Ok tt
        → TookOne M k h c g old mid handler info more × (broken ≡ false)
    took_one handler info more r rows broken is (steps.takes x same) well = (
      record {
        taken = came.taken;
        message = m;
        rows = rows;
        drew = came.drew;
        next = came.found;
        takes = is;
        heeds = x;
        info_is = same;
        goes_on = came.goes_on;
      },
      refl,
    )
    took_one handler info more r rows broken is (steps.refuses e x caused same) well = absurd cc
    took_one handler info more r rows broken is steps.wants well = absurd cc

    -- it closed the call
    took_last : (handler : H) (info : Client) (more : Gathered (List R)) (r : Result (Unit {0}) ClientError)
        (broken : Bool)
        → call_role k m ≡ Closing → TookMessage M h c g m handler info more r broken → r ≡ Ok tt
        → LineExchange M k h c g old mid (finish (Ok (more, is_suspended m)) handler info broken mid.buffer)
    took_last handler info more r broken is (steps.takes x same) well =
        subst (λ (y : Client). LineExchange M k h c g old mid
        (finish (Ok (more, is_suspended m)) handler y false mid.buffer)) (sym same)
        (ended (finish (Ok (more, is_suspended m)) handler (client_after m c) false mid.buffer) refl
        (extended.closes h c g bytes m mid.buffer handler more came.found is x))
    took_last handler info more r broken is (steps.refuses e x caused same) well = absurd cc
    took_last handler info more r broken is steps.wants well = absurd cc

    took_next : (handler : H) (info : Client) (more : Gathered (List R)) (r : Result (Unit {0}) ClientError)
        (rows broken : Bool)
        → call_role k m ≡ Taken rows → TookMessage M h c g m handler info more r broken
        → HeededNext M k h c g old mid handler info more broken (state_or_error Pending r)
    took_next handler info more (Ok x) rows broken is took =
        took_one handler info more (Ok x) rows broken is took refl
    took_next handler info more (Err e) rows broken is took =
        took_none handler info more (Err e) e broken (placed (call_role k m) (Taken rows) is tt) took refl

    took_close : (handler : H) (info : Client) (more : Gathered (List R)) (r : Result (Unit {0}) ClientError)
        (broken : Bool)
        → call_role k m ≡ Closing → TookMessage M h c g m handler info more r broken
        → HeededNext M k h c g old mid handler info more broken (state_or_error (Ready (is_suspended m)) r)
    took_close handler info more (Ok x) broken is took = took_last handler info more (Ok x) broken is took refl
    took_close handler info more (Err e) broken is took =
        took_none handler info more (Err e) e broken (placed (call_role k m) Closing is tt) took refl

    -- the answer is over, Sync was sent, and messages were passed over
    ended_passed : (high new : Line) (due : Option Frontend) (after : H) (s : HandlerView H)
        (between info : Client) (more : Gathered (List R)) (e x : ClientError) (broken : Bool)
        → EndsAnswer M k h c g m due (standing after (fresh c)) e more → Syncs M due (standing after (fresh c)) s
        → PutAll s.sight.wrote mid high → between ≡ s.sight.client → PassedOver e between high new x info broken
        → LineExchange M k h c g old new
        (finish (outcome_behind more x broken) s.handler info broken new.buffer)
    ended_passed high new due after s between info more e x broken ending syncs put same p =
        let sent = s.sight.wrote in
        let high_flushed = put.flushed came_well.1 in
        let whole =
        moved_on old high new came.taken p.taken sent []
        (moved_by old mid high came.taken sent came.drew put.moved) (moved_none high new p.taken p.drew)
        in
        let next =
        subst (λ (b : List ℕ). Next c b m (mid.buffer ++ p.taken))
        (append_assoc old.buffer came.taken p.taken) (next_more c bytes mid.buffer p.taken m came.found)
        in
        let calm : LineGoesOn old high = (put.goes_on.0 ∙ came.goes_on.0, put.goes_on.1 ∙ came.goes_on.1) in
        let rest =
        subst (λ (b : List ℕ). Passing (Pause high new) e between (b ++ p.taken) x info new.buffer broken)
        put.buffer p.passing in
        let passing =
        passing_as (Pause high new) (Pause old new) e x s.sight.client info (mid.buffer ++ p.taken) new.buffer
        broken (pause_on old high new calm)
        (subst (λ (y : Client). Passing (Pause high new) e y (mid.buffer ++ p.taken) x info new.buffer broken)
        same rest) in
        record {
          taken = came.taken ++ p.taken;
          sent = sent;
          moved = subst (λ (l : List ℕ). MovesLine old new (came.taken ++ p.taken) l) (append-nil sent) whole;
          exchange =
              extended.ends h c g (old.buffer ++ (came.taken ++ p.taken)) m (mid.buffer ++ p.taken) due
              (standing after (fresh c)) s e more x info new.buffer broken next ending syncs passing;
          flushed = λ _. still_flushed high new p.taken p.drew high_flushed;
          halts =
              halts_on info high.tape.flushed (length new.tape.wrote) old high new calm.0 (high_flushed
              ∙ ap length (sym p.drew.wrote)) p.halts;
          at_end = at_end_on _ _ old high new calm.0
              (λ (at : PassedEnd e x broken). halted_outcome more x broken at.0
              (ends_with e x at.1 (ends_error M k h c g m due (standing after (fresh c)) e more ending)))
              p.at_end;
          well = ended_on (outcome_behind more x broken ≡ Err client.IoError) old high new calm.1
              (end_well _ high new high_flushed (io_outcome more x broken (WentWell high new) p.well));
        }

    -- Sync was not sent
    unsynced : (due : Frontend) (after : H) (s : HandlerView H) (more : Gathered (List R)) (e x : ClientError)
        → EndsAnswer M k h c g m (Some due) (standing after (fresh c)) e more
        → M (standing after (fresh c)) sync s (Err x) → IsCaused x 0 0 s.sight.broken → s.sight.broken ≡ false
        → LineExchange M k h c g old mid (finish (Err x) s.handler s.sight.client true mid.buffer)
    unsynced due after s more e x ending heard caused usable =
        ended (finish (Err x) s.handler s.sight.client true mid.buffer) refl
        (extended.unsynced h c g bytes m mid.buffer due (standing after (fresh c)) s e x more came.found
        ending heard caused usable)

    unwritten : (new : Line) (due : Frontend) (after : H) (s : HandlerView H) (more : Gathered (List R))
        (e : ClientError)
        → EndsAnswer M k h c g m (Some due) (standing after (fresh c)) e more
        → M (standing after (fresh c)) sync s (Ok nothing) → s.sight.broken ≡ false
        → PutSome s.sight.wrote mid new
        → LineExchange M k h c g old new (finish (Err client.IoError) s.handler s.sight.client true new.buffer)
    unwritten new due after s more e ending heard usable put = record {
      taken = came.taken;
      sent = put.part;
      moved = moved_by old mid new came.taken put.part came.drew put.moved;
      exchange =
          subst (λ (b : List ℕ). Exchange M (Pause old new) k h c g bytes put.part
          (finish (Err client.IoError) s.handler s.sight.client true b)) (sym put.buffer)
          (extended.unwritten h c g bytes m mid.buffer due (standing after (fresh c)) s e more put.part came.found
          ending heard usable (cut_from old mid new s.sight.wrote put.part came.goes_on put.cut));
      flushed = λ good. no_more good (IsFlushed new);
      halts = not_halted s.sight.client (length new.tape.wrote) old new (put.ended ∙ came.goes_on.0);
      at_end = not_at_end _ old new (put.ended ∙ came.goes_on.0);
      well = inr refl;
    }

    -- Sync was due, and not sent
    unsent : (new : Line) (due : Frontend) (after handler : H) (info : Client) (more : Gathered (List R))
        (e x : ClientError) (r : Result (Unit {0}) ClientError) (asked broken : Bool)
        → EndsAnswer M k h c g m (Some due) (standing after (fresh c)) e more
        → Synced M after c mid new handler info asked r broken → r ≡ Err x
        → LineExchange M k h c g old new (finish (Err x) handler info true new.buffer)
    unsent new due after handler info more e x r asked broken ending (steps.spares same stays info_is) is = absurd
        cc
    unsent new due after handler info more e x r asked broken ending (steps.sends s heard usable put info_is) is =
        absurd cc
    unsent new due after handler info more e x r asked broken ending (steps.cuts s heard usable put info_is) is =
        let i : client.IoError ≡ x = cc in
        subst (λ (y : ClientError). LineExchange M k h c g old new (finish (Err y) handler info true new.buffer))
        i
        (subst (λ (y : Client). LineExchange M k h c g old new
        (finish (Err client.IoError) handler y true new.buffer)) (sym info_is)
        (unwritten new due after (standing handler s) more e ending heard usable put))
    unsent new due after handler info more e x r asked broken ending
        (steps.refuses s e2 heard caused usable same info_is) is =
        let i : e2 ≡ x = cc in
        subst (λ (y : ClientError). LineExchange M k h c g old new (finish (Err y) handler info true new.buffer))
        i
        (subst (λ (y : Client). LineExchange M k h c g old new (finish (Err e2) handler y true new.buffer))
        (sym info_is)
        (subst (λ (l : Line). LineExchange M k h c g old l (finish (Err e2) handler s.client true l.buffer))
        (sym same) (unsynced due after (standing handler s) more e e2 ending heard caused usable)))
    unsent new due after handler info more e x r asked broken ending (steps.wants same) is =
        let i : client.OutOfMemory ≡ x = cc in
        subst (λ (y : ClientError). LineExchange M k h c g old new (finish (Err y) handler info true new.buffer))
        i
        (subst (λ (l : Line). LineExchange M k h c g old l
        (finish (Err client.OutOfMemory) handler info true l.buffer)) (sym same) (ended_starved handler info))

    -- Sync was sent, where it was due
    synced_passed : (high new : Line) (due : Option Frontend) (after handler : H) (between info : Client)
        (more : Gathered (List R)) (e x : ClientError) (r : Result (Unit {0}) ClientError)
        (asked was broken : Bool)
        → asked ≡ is_some due → EndsAnswer M k h c g m due (standing after (fresh c)) e more
        → Synced M after c mid high handler between asked r was → r ≡ Ok tt
        → PassedOver e between high new x info broken
        → LineExchange M k h c g old new
        (finish (outcome_behind more x broken) handler info broken new.buffer)
    synced_passed high new None after handler between info more e x r asked was broken due_is ending
        (steps.spares same stays info_is) is p =
        let q = subst (λ (l : Line). PassedOver e between l new x info broken) same p in
        subst (λ (y : H). LineExchange M k h c g old new
        (finish (outcome_behind more x broken) y info broken new.buffer)) (sym stays)
        (ended_passed mid new None after (standing after (fresh c)) between info more e x broken ending refl
        (put_none mid) info_is q)
    synced_passed high new (Some due) after handler between info more e x r asked was broken due_is ending
        (steps.spares same stays info_is) is p = absurd cc
    synced_passed high new (Some due) after handler between info more e x r asked was broken due_is ending
        (steps.sends s heard usable put info_is) is p =
        ended_passed high new (Some due) after (standing handler s) between info more e x broken ending
        (heard, usable) put info_is p
    synced_passed high new None after handler between info more e x r asked was broken due_is ending
        (steps.sends s heard usable put info_is) is p = absurd cc
    synced_passed high new due after handler between info more e x r asked was broken due_is ending
        (steps.cuts s heard usable put info_is) is p = absurd cc
    synced_passed high new due after handler between info more e x r asked was broken due_is ending
        (steps.refuses s e2 heard caused usable same info_is) is p = absurd cc
    synced_passed high new due after handler between info more e x r asked was broken due_is ending
        (steps.wants same) is p = absurd cc

    -- Sync not being due is no error
    unsent_any : (new : Line) (due : Option Frontend) (after handler : H) (info : Client)
        (more : Gathered (List R)) (e x : ClientError) (r : Result (Unit {0}) ClientError) (asked broken : Bool)
        → asked ≡ is_some due → EndsAnswer M k h c g m due (standing after (fresh c)) e more
        → Synced M after c mid new handler info asked r broken → r ≡ Err x
        → LineExchange M k h c g old new (finish (Err x) handler info true new.buffer)
    unsent_any new (Some due) after handler info more e x r asked broken due_is ending synced is =
        unsent new due after handler info more e x r asked broken ending synced is
    unsent_any new None after handler info more e x r asked broken due_is ending (steps.spares same stays info_is)
        is = absurd cc
    unsent_any new None after handler info more e x r asked broken due_is ending
        (steps.sends s heard usable put info_is) is = absurd cc
    unsent_any new None after handler info more e x r asked broken due_is ending
        (steps.cuts s heard usable put info_is) is = absurd cc
    unsent_any new None after handler info more e x r asked broken due_is ending
        (steps.refuses s e2 heard caused usable same info_is) is = absurd cc
    unsent_any new None after handler info more e x r asked broken due_is ending (steps.wants same) is = absurd cc

    settled : (new : Line) (due : Option Frontend) (after handler : H) (info : Client) (more : Gathered (List R))
        (e : ClientError) (asked : Bool) (answer : CallAnswer Bool) (broken : Bool)
        → asked ≡ is_some due → EndsAnswer M k h c g m due (standing after (fresh c)) e more
        → SettlesSync M asked after c mid new e handler info answer broken
        → HeededNext M k h c g old new handler info more broken answer
    settled new due after handler info more e asked answer broken due_is ending (steps.stops x synced) =
        unsent_any new due after handler info more e x (Err x) asked true due_is ending synced refl
    settled new due after handler info more e asked answer broken due_is ending
        (steps.passes high between x broken2 was synced p) =
        by_outcome M k h c g old new handler info more x broken2
        (synced_passed high new due after handler between info more e x (Ok tt) asked was broken2 due_is
        ending synced refl p)

    -- what completes a portal was taken
    completed : (new : Line) (after handler : H) (between info : Client) (more : Gathered (List R))
        (r : Result (Unit {0}) ClientError) (was : Bool) (answer : CallAnswer Bool) (broken : Bool)
        → call_role k m ≡ Completing → TookMessage M h c g m after between more r was → r ≡ Ok tt
        → SettlesSync M true after between mid new client.UnexpectedEOF handler info answer broken
        → HeededNext M k h c g old new handler info more broken answer
    completed new after handler between info more r was answer broken is (steps.takes x same) well s =
        settled new (Some sync_message) after handler info more client.UnexpectedEOF true answer broken refl
        (extended.completing m after more is x)
        (subst (λ (y : Client). SettlesSync M true after y mid new client.UnexpectedEOF handler info answer
        broken) (same
        ∙ completing_told k m c is) s)
    completed new after handler between info more r was answer broken is (steps.refuses e x caused same) well s =
        absurd cc
    completed new after handler between info more r was answer broken is steps.wants well s = absurd cc

  failed : (mid new : Line) (m : Backend) (e : ErrorResponse) (handler : H) (info : Client)
      (more : Gathered (List R)) (answer : CallAnswer Bool) (broken : Bool)
      → MessageCame c old mid (Ok m) → m ≡ backend.ErrorResponse e
      → SettlesSync M (is_sync_due k) h c mid new (first_error_of client.UnexpectedEOF m) handler info answer
      broken
      → more ≡ g → HeededNext M k h c g old new handler info more broken answer
  failed mid new m e handler info more answer broken came is s same =
      let came2 = subst (λ (x : Backend). MessageCame c old mid (Ok x)) is came in
      let s2 =
      subst (λ (x : Backend). SettlesSync M (is_sync_due k) h c mid new
      (first_error_of client.UnexpectedEOF x) handler info answer broken) is s in
      subst (λ (x : Gathered (List R)). HeededNext M k h c g old new handler info x broken answer) (sym same)
      (settled mid (backend.ErrorResponse e) came2 new (behind_error k) h handler info g (client.RemoteError e)
      (is_sync_due k) answer broken refl (extended.failing e) s2)

  pub heeded_by : (mid new : Line) (m : Backend) (handler : H) (info : Client) (more : Gathered (List R))
      (answer : CallAnswer Bool) (broken : Bool)
      → MessageCame c old mid (Ok m) → HeededOne M k h c g m mid new handler info more answer broken
      → HeededNext M k h c g old new handler info more broken answer
  heeded_by mid new m handler info more answer broken came (steps.takes rows r broken2 is took same) =
      subst (λ (l : Line). HeededNext M k h c g old l handler info more broken2 (state_or_error Pending r))
      (sym same) (took_next mid m came handler info more r rows broken2 is took)
  heeded_by mid new m handler info more answer broken came (steps.closes r broken2 is took same) =
      subst (λ (l : Line). HeededNext M k h c g old l handler info more broken2
      (state_or_error (Ready (is_suspended m)) r)) (sym same)
      (took_close mid m came handler info more r broken2 is took)
  heeded_by mid new m handler info more answer broken came (steps.stops e broken2 is took same) =
      subst (λ (l : Line). HeededNext M k h c g old l handler info more broken2 (Err e)) (sym same)
      (took_none mid m came handler info more (Err e) e broken2 (placed (call_role k m) Completing is tt) took
      refl)
  heeded_by mid new m handler info more answer broken came
      (steps.completes after between answer2 was broken2 is took s) =
      completed mid m came new after handler between info more (Ok tt) was answer2 broken2 is took refl s
  heeded_by mid new m handler info more answer broken came (steps.fails answer2 broken2 is s same) =
      let e = failing_error k m is in
      failed mid new m e.0 handler info more answer2 broken2 came e.1 s same
  heeded_by mid new m handler info more answer broken came (steps.misplaced e is un stays info_is same) =
      subst (λ (l : Line). LineExchange M k h c g old l (finish (Err e) handler info true l.buffer)) (sym same)
      (subst (λ (y : H). LineExchange M k h c g old mid (finish (Err e) y info true mid.buffer)) (sym stays)
      (subst (λ (y : Client). LineExchange M k h c g old mid (finish (Err e) h y true mid.buffer)) (sym info_is)
      (ended mid m came (finish (Err e) h c true mid.buffer) refl
      (extended.misplaced h c g (old.buffer ++ came.taken) m mid.buffer e came.found is un))))

-- ---- one message, and then the others

module _ {H R : Type 0} (M : Meaning H R) (k : Kind) where
  pub exchange_as : (old mid new : Line) (h : H) (c also : Client) (g : Gathered (List R)) (bytes sent : List ℕ)
      (last : Finish H R)
      → LineGoesOn old mid → c ≡ also → Exchange M (Pause mid new) k h c g bytes sent last
      → Exchange M (Pause old new) k h also g bytes sent last
  exchange_as old mid new h c also g bytes sent last so same x =
      subst (λ (p : Reasons). Exchange M p k h also g bytes sent last) (pause_on old mid new so)
      (subst (λ (y : Client). Exchange M (Pause mid new) k h y g bytes sent last) same x)

  pub exchanged_on : (h handler : H) (c info : Client) (g more : Gathered (List R)) (old mid new : Line)
      (last : Finish H R)
      → TookOne M k h c g old mid handler info more → LineExchange M k handler info more mid new last
      → LineExchange M k h c g old new last
  exchanged_on h handler c info g more old mid new last one t =
      let next =
      subst (λ (b : List ℕ). Next c b one.message (mid.buffer ++ t.taken))
      (append_assoc old.buffer one.taken t.taken)
      (next_more c (old.buffer ++ one.taken) mid.buffer t.taken one.message one.next) in
      record {
        taken = one.taken ++ t.taken;
        sent = t.sent;
        moved = moved_on old mid new one.taken t.taken [] t.sent (moved_none old mid one.taken one.drew) t.moved;
        exchange =
            extended.takes h c g (old.buffer ++ (one.taken ++ t.taken)) one.message (mid.buffer ++ t.taken)
            one.rows handler more t.sent last next one.takes one.heeds
            (exchange_as old mid new handler info (client_after one.message c) more (mid.buffer ++ t.taken) t.sent
            last one.goes_on one.info_is t.exchange);
        flushed = t.flushed;
        halts =
            halts_on last.info (length new.tape.wrote) (length new.tape.wrote) old mid new one.goes_on.0 refl
            t.halts;
        at_end = at_end_on _ _ old mid new one.goes_on.0 (λ is. is) t.at_end;
        well = ended_on (last.answer ≡ Err client.IoError) old mid new one.goes_on.1 t.well;
      }

-- a message came, and what became of it followed
pub heeded_from : {H R : Type 0} (M : Meaning H R) (k : Kind) (h : H) (c also : Client) (g : Gathered (List R))
    (old mid new : Line) (m : Backend) (handler : H) (info : Client) (more : Gathered (List R))
    (answer : CallAnswer Bool) (broken : Bool)
    → also ≡ c → IsFlushed old → MessageCame c old mid (Ok m)
    → HeededOne M k h also g m mid new handler info more answer broken
    → HeededNext M k h c g old new handler info more broken answer
heeded_from M k h c also g old mid new m handler info more answer broken same f came one =
    heeded_by M k h c g old f mid new m handler info more answer broken came
    (subst (λ (x : Client). HeededOne M k h x g m mid new handler info more answer broken) same one)
