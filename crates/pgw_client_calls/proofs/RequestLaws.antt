-- A request of extended queries, and its answer.
use Rattle.std.proofs.Common.{◌≡◌, ℕ, Bool, true, false, not, List, [], ◌++◌, length, Result, Ok, Err, refl, sym, subst, arith, inl, inr}
use Rattle.std.proofs.lemmas.List.{append-nil}
use Rattle.pgw_frontend.specs.declared.frontend.PgWireFrontendMessage.{PgWireFrontendMessage as Frontend}
use Rattle.pgw_backend.specs.declared.client_error.PgWireClientError.{PgWireClientError as ClientError}
use Rattle.pgw_backend.specs.declared.client_error.PgWireClientError.TheVariants as client
use Rattle.pgw_session.specs.declared.stage.Kind.{Kind}
use Rattle.pgw_session.specs.declared.types.Request.{Request}
use Rattle.pgw_session.specs.Requests.{kind_of, sends_of}
use Rattle.pgw_handlers.specs.Client.{Client, Sight}
use Rattle.pgw_handlers.specs.Handling.{standing, IsCaused, OfError}
use Rattle.pgw_client_calls.specs.Talk.{fresh, is_refusal}
use Rattle.pgw_client_calls.specs.Line.{Line, Reasons, Pause, IsFlushed, MovesLine}
use Rattle.pgw_client_calls.specs.Calls.{PutAll, PutSome, HandlerOpens as Begins, starved, wrote, cut, refused}
use Rattle.pgw_client_calls.specs.Extended.{Meaning, calls_for, CallsInOrder, none_gathered, Finish, finish, Exchange, Requested}
use Rattle.pgw_client_calls.specs.Extended as extended
use Rattle.pgw_client_calls.specs.ExtendedSteps.{LineExchange, MakesCall}
use Rattle.pgw_client_calls.proofs.ReadingLaws.{not_halted, not_at_end, halts_on, at_end_on, ended_on}
use Rattle.pgw_client_calls.proofs.CallLaws.{moved_on, opened_well}
use Rattle.pgw_client_calls.proofs.ExchangeLaws.{exchange_as}

moved_still : (old : Line) → MovesLine old old [] []
moved_still old =
    record {
      took = sym (append-nil old.tape.took);
      wrote = sym (append-nil old.tape.wrote);
      read = omega arith;
      limit = refl;
    }

-- memory was wanting
pub called_starved : {H R : Type 0} (M : Meaning H R) (q : Request) (h handler : H) (c info : Client) (old : Line)
    → IsFlushed old → MakesCall M q h c old old (finish (Err client.OutOfMemory) handler info true old.buffer)
called_starved M q h handler c info old f = record {
  taken = [];
  sent = [];
  moved = moved_still old;
  requested = extended.starves handler info old.buffer;
  flushed = λ good. f;
  halts = not_halted info (length old.tape.wrote) old old refl;
  at_end = not_at_end _ old old refl;
  well = inl (refl, f);
}

module _ {H R : Type 0} (M : Meaning H R) (q : Request) (h handler : H) (c : Client) (s : Sight) (old : Line)
    (f : IsFlushed old) where
  -- the opening was written, and messages were exchanged
  called_exchanged : (info : Client) (mid new : Line) (last : Finish H R)
      → CallsInOrder M (calls_for (sends_of q)) (standing h (fresh c)) (standing handler s) (Ok tt)
      → s.broken ≡ false → PutAll s.wrote old mid → info ≡ s.client
      → LineExchange M (kind_of q) handler info none_gathered mid new last → MakesCall M q h c old new last
  called_exchanged info mid new last o usable put same t =
      let bytes =
      subst (λ (b : List ℕ). Exchange M (Pause mid new) (kind_of q) handler info none_gathered (b ++ t.taken)
      t.sent last) put.buffer t.exchange in
      record {
        taken = t.taken;
        sent = s.wrote ++ t.sent;
        moved = moved_on old mid new [] t.taken s.wrote t.sent put.moved t.moved;
        requested =
            extended.opened (standing handler s) t.sent last o usable
            (exchange_as M (kind_of q) old mid new handler info s.client none_gathered (old.buffer ++ t.taken)
            t.sent last put.goes_on same bytes);
        flushed = t.flushed;
        halts =
            halts_on last.info (length new.tape.wrote) (length new.tape.wrote) old mid new put.goes_on.0 refl
            t.halts;
        at_end = at_end_on _ _ old mid new put.goes_on.0 (λ is. is) t.at_end;
        well = ended_on (last.answer ≡ Err client.IoError) old mid new put.goes_on.1 t.well;
      }

  bytes_are : (sent : List ℕ) (P : Reasons) (e : ClientError) (info : Client) (broken : Bool) (rest : List ℕ)
      → rest ≡ old.buffer
      → Requested M P q h c old.buffer sent (finish (Err e) handler info broken old.buffer)
      → Requested M P q h c (old.buffer ++ []) sent (finish (Err e) handler info broken rest)
  bytes_are sent P e info broken rest same a =
      subst (λ (b : List ℕ). Requested M P q h c b sent (finish (Err e) handler info broken rest))
      (sym (append-nil old.buffer))
      (subst (λ (b : List ℕ). Requested M P q h c old.buffer sent (finish (Err e) handler info broken b))
      (sym same) a)

  called_cut : (new : Line)
      → CallsInOrder M (calls_for (sends_of q)) (standing h (fresh c)) (standing handler s) (Ok tt)
      → s.broken ≡ false → PutSome s.wrote old new
      → MakesCall M q h c old new (finish (Err client.IoError) handler s.client true new.buffer)
  called_cut new o usable put = record {
    taken = [];
    sent = put.part;
    moved = put.moved;
    requested =
        bytes_are put.part (Pause old new) client.IoError s.client true new.buffer put.buffer
        (extended.unwritten (standing handler s) put.part o usable put.cut);
    flushed = λ good. absurd (let no : true ≡ false = good in cc);
    halts = not_halted s.client (length new.tape.wrote) old new put.ended;
    at_end = not_at_end _ old new put.ended;
    well = inr refl;
  }

  called_refused : (e : ClientError)
      → CallsInOrder M (calls_for (sends_of q)) (standing h (fresh c)) (standing handler s) (Err e)
      → s.broken ≡ false → IsCaused e 0 0 s.broken → (b : Bool) → is_refusal e ≡ b
      → MakesCall M q h c old old (finish (Err e) handler s.client (not b) old.buffer)
  called_refused e o usable caused true is = record {
    taken = [];
    sent = [];
    moved = moved_still old;
    requested =
        bytes_are [] (Pause old old) e s.client false old.buffer refl
        (extended.refused (standing handler s) e o is usable);
    flushed = λ good. f;
    halts = not_halted s.client (length old.tape.wrote) old old refl;
    at_end = not_at_end _ old old refl;
    well = inl (refl, f);
  }
  called_refused e o usable caused false is = record {
    taken = [];
    sent = [];
    moved = moved_still old;
    requested =
        bytes_are [] (Pause old old) e s.client true old.buffer refl
        (extended.breaks (standing handler s) e o is caused usable);
    flushed = λ good. f;
    halts = not_halted s.client (length old.tape.wrote) old old refl;
    at_end = not_at_end _ old old refl;
    well = inl (refl, f);
  }

  called_ended : (new : Line) (opened result : Result (Unit {0}) ClientError) (e : ClientError) (broken : Bool)
      → CallsInOrder M (calls_for (sends_of q)) (standing h (fresh c)) (standing handler s) opened
      → OfError opened 0 0 s.broken
      → Begins s.broken s.wrote old new opened result broken → result ≡ Err e
      → MakesCall M q h c old new (finish (Err e) handler s.client broken new.buffer)
  called_ended new opened result e broken o caused (starved opened2 wanting same) is =
      let x : client.OutOfMemory ≡ e = cc in
      subst (λ (y : ClientError). MakesCall M q h c old new (finish (Err y) handler s.client true new.buffer)) x
      (subst (λ (l : Line). MakesCall M q h c old l
      (finish (Err client.OutOfMemory) handler s.client true l.buffer)) (sym same)
      (called_starved M q h handler c s.client old f))
  called_ended new opened result e broken o caused (wrote usable put) is = absurd cc
  called_ended new opened result e broken o caused (cut usable put) is =
      let x : client.IoError ≡ e = cc in
      subst (λ (y : ClientError). MakesCall M q h c old new (finish (Err y) handler s.client true new.buffer)) x
      (called_cut new o usable put)
  called_ended new opened result e broken o caused (refused e2 usable same) is =
      let x : e2 ≡ e = cc in
      subst (λ (y : ClientError). MakesCall M q h c old new
      (finish (Err y) handler s.client (not (is_refusal e2)) new.buffer)) x
      (subst (λ (l : Line). MakesCall M q h c old l
      (finish (Err e2) handler s.client (not (is_refusal e2)) l.buffer)) (sym same)
      (called_refused e2 o usable caused (is_refusal e2) refl))

module _ {H R : Type 0} (M : Meaning H R) (q : Request) (h handler : H) (c : Client) (s0 s : Sight)
    (old mid : Line) (f : IsFlushed old) (ms : List Frontend) (handed : Result (Unit {0}) ClientError)
    (all : ms ≡ sends_of q) (cleared : s0 ≡ fresh c)
    (opens : CallsInOrder M (calls_for ms) (standing h s0) (standing handler s) handed) where
  opens_so : CallsInOrder M (calls_for (sends_of q)) (standing h (fresh c)) (standing handler s) handed
  opens_so =
      subst (λ (l : List Frontend). CallsInOrder M (calls_for l) (standing h (fresh c)) (standing handler s)
      handed) all (subst (λ (x : Sight). CallsInOrder M (calls_for ms) (standing h x) (standing handler s) handed)
      cleared opens)

  -- a request that was opened from a desk that was cleared
  pub called_opened : (new : Line) (info : Client) (broken : Bool) (k : Kind) (last : Finish H R)
      → Begins s.broken s.wrote old mid handed (Ok tt) broken → info ≡ s.client → k ≡ kind_of q
      → LineExchange M k handler info none_gathered mid new last → MakesCall M q h c old new last
  called_opened new info broken k last begun same kind_is t =
      let well = opened_well s.broken broken s.wrote old mid handed begun in
      called_exchanged M q h handler c s old f info mid new last
      (subst (λ (r : Result (Unit {0}) ClientError). CallsInOrder M (calls_for (sends_of q))
      (standing h (fresh c)) (standing handler s) r) well.0 opens_so) well.1 well.2 same
      (subst (λ (x : Kind). LineExchange M x handler info none_gathered mid new last) kind_is t)

  -- and one that was not
  pub called_closed : (e : ClientError) (info : Client) (broken : Bool) → OfError handed 0 0 s.broken
      → Begins s.broken s.wrote old mid handed (Err e) broken → info ≡ s.client
      → MakesCall M q h c old mid (finish (Err e) handler info broken mid.buffer)
  called_closed e info broken caused begun same =
      subst (λ (y : Client). MakesCall M q h c old mid (finish (Err e) handler y broken mid.buffer)) (sym same)
      (called_ended M q h handler c s old f mid handed (Err e) e broken opens_so caused begun refl)

-- the same request
pub called_as : {H R : Type 0} (M : Meaning H R) (q asked : Request) (h : H) (c : Client) (old new : Line)
    (last : Finish H R)
    → asked ≡ q → MakesCall M asked h c old new last → MakesCall M q h c old new last
called_as M q asked h c old new last same called =
    subst (λ (x : Request). MakesCall M x h c old new last) same called
