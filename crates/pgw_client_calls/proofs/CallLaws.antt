-- What a client's calls leave.
use Rattle.std.proofs.Common.{◌≡◌, ◌≢◌, ℕ, Bool, true, false, not, List, [], ◌++◌, ◌+◌, ◌≤◌, length, take, drop, Result, Ok, Err, refl, sym, ap, subst, ◌∙◌, arith, inl, append_assoc, length-append, ◌⊎◌, inr}
use Rattle.std.proofs.lemmas.List.{append-nil, take-append-drop, nil_from_length}
use Rattle.pgw_backend.specs.declared.backend.PgWireBackendMessage.{PgWireBackendMessage as Backend}
use Rattle.pgw_backend.specs.declared.backend.PgWireBackendMessage.TheVariants as backend
use Rattle.pgw_backend.specs.declared.client_error.PgWireClientError.{PgWireClientError as ClientError}
use Rattle.pgw_backend.specs.declared.client_error.PgWireClientError.TheVariants as client
use Rattle.pgw_types.specs.Counts.{Rose}
use Rattle.pgw_link.specs.Tape.{Tape}
use Rattle.pgw_link.specs.Sending.{Wrote, WroteSome}
use Rattle.pgw_session.specs.Segments.{is_ready}
use Rattle.pgw_handlers.specs.Client.{Client, Sight}
use Rattle.pgw_handlers.specs.Handling.{HandlerView, standing, CallAnswer, pending, IsCaused, OfError, EndsAtReady}
use Rattle.pgw_handlers.specs.Sending.{Sent, NotSent, IsSpelled, bytes_or_none, WritesFront as SentSome}
use Rattle.pgw_types.specs.declared.error.PgWireError.{PgWireError}
use Rattle.std.specs.Result.{OnOk, OnErr, IfOk, IfErr}
use Rattle.pgw_handlers.specs.declared.client_info.ReadyState.{ReadyState}
use Rattle.pgw_handlers.specs.declared.client_info.ReadyState.TheVariants.{Pending, Ready}
use Rattle.pgw_client_calls.specs.Talk as talk
use Rattle.pgw_client_calls.specs.Talk.{fresh, Next, Lack, CallEnd, end, Hearing, CallTalk, Passing, IsCutPiece, OpensTalk, passes, is_remote, is_refusal}
use Rattle.pgw_client_calls.specs.Line.{Line, Reasons, Pause, IsFlushed, WentWell, EndedWell, Halts, Drew, MovesLine}
use Rattle.pgw_client_calls.specs.Reading.{LineGoesOn, MessageCame, PassedOver}
use Rattle.pgw_client_calls.specs.Calls.{link_sight, PutAll, PutSome, PutsOnLine, HandlerOpens, starved, wrote, cut, refused, GivesUp, breaks, fails, passes_over, Follows, starves, writes, cuts, gives_up, HeardOne, TalksToCallEnd, HeardNext, HeardOn, IsHalted, LineCall}
use Rattle.pgw_client_calls.proofs.ReadingLaws.{next_more, drew_on, not_halted, not_at_end, halts_on, at_end_on, at_end_so, pause_on, passing_as, PassedEnd, still_flushed, end_well, ended_on, failed, io_of, io_answer}

-- ---- writing

pub put_none : (old : Line) → PutAll [] old old
put_none old = record {
  moved =
      record {
        took = sym (append-nil old.tape.took);
        wrote = sym (append-nil old.tape.wrote);
        read = omega arith;
        limit = refl;
      };
  buffer = refl;
  flushed = λ f. f;
  goes_on = (refl, refl);
}

pub put_all : (old new : Line) (bytes : List ℕ) → Wrote old.tape new.tape bytes → new.faults ≡ old.faults
    → new.buffer ≡ old.buffer → new.read ≡ old.read → new.limit ≡ old.limit → PutAll bytes old new
put_all old new bytes w faults buffer read limit = record {
  moved =
      record {
        took = w.reads_nothing.took
            ∙ sym (append-nil old.tape.took);
        wrote = w.wrote;
        read = omega (arith, read);
        limit = limit;
      };
  buffer = buffer;
  flushed = λ f. w.flushed;
  goes_on = (w.reads_nothing.ended, faults);
}

-- a piece that was written whole and not flushed
unflushed : (old new : Line) (bytes : List ℕ) → bytes ≢ [] → (w : WroteSome old.tape new.tape bytes)
    → old.tape.flushed ≤ length old.tape.wrote → drop w.count bytes ≡ [] → IsFlushed new → ⊥
unflushed old new bytes some w within none flushed =
    let wrote : length new.tape.wrote ≡ length old.tape.wrote + length (take w.count bytes) =
    ap length w.wrote ∙ length-append old.tape.wrote (take w.count bytes) in
    let whole : length bytes ≡ length (take w.count bytes) + 0 =
    ap length (sym (take-append-drop w.count bytes)) ∙ length-append (take w.count bytes) (drop w.count bytes)
    ∙ ap (λ (l : List ℕ). length (take w.count bytes) + length l) none in
    some (nil_from_length bytes (omega (arith, wrote, whole, flushed, w.flushed, within)))

pub put_some : (old new : Line) (bytes : List ℕ) → bytes ≢ [] → WroteSome old.tape new.tape bytes
    → old.tape.flushed ≤ length old.tape.wrote → Rose old.faults new.faults → new.buffer ≡ old.buffer
    → new.read ≡ old.read → new.limit ≡ old.limit → PutSome bytes old new
put_some old new bytes some w within rose buffer read limit = record {
  part = take w.count bytes;
  cut = (
    some,
    drop w.count bytes,
    sym (take-append-drop w.count bytes),
    (rose, λ none flushed. unflushed old new bytes some w within none flushed),
  );
  moved =
      record {
        took = w.reads_nothing.took
            ∙ sym (append-nil old.tape.took);
        wrote = w.wrote;
        read = omega (arith, read);
        limit = limit;
      };
  buffer = buffer;
  ended = w.reads_nothing.ended;
}

-- what writing answered
pub puts_of : (old new : Line) (bytes : List ℕ) (r : Result (Unit {0}) ClientError) → bytes ≢ []
    → OnOk r (Wrote old.tape new.tape bytes) → OnErr r (WroteSome old.tape new.tape bytes)
    → old.tape.flushed ≤ length old.tape.wrote → OnOk r (new.faults ≡ old.faults)
    → IfErr r (λ e. e ≡ client.IoError) → OfError r old.faults new.faults false → new.buffer ≡ old.buffer
    → new.read ≡ old.read → new.limit ≡ old.limit → PutsOnLine bytes old new r
puts_of old new bytes (Ok done) some w f within clean io cause buffer read limit =
    put_all old new bytes w clean buffer read limit
puts_of old new bytes (Err e) some w f within clean io cause buffer read limit = (
  io,
  put_some old new bytes some f within
      (subst (λ (x : ClientError). IsCaused x old.faults new.faults false) io cause) buffer read limit,
)

-- ---- the opening of a call

pub began_starved : (was : Bool) (out : List ℕ) (old : Line) (opened : Result (Unit {0}) ClientError) → was ≡ true
    → HandlerOpens was out old old opened (Err client.OutOfMemory) was
began_starved was out old opened is =
    subst (λ (b : Bool). HandlerOpens was out old old opened (Err client.OutOfMemory) b) (sym is)
    (starved opened is refl)

pub began_put : (was broken : Bool) (out : List ℕ) (old new : Line) (opened r : Result (Unit {0}) ClientError)
    → was ≡ false → opened ≡ Ok tt → PutsOnLine out old new r → OnOk r (broken ≡ was) → OnErr r (broken ≡ true)
    → HandlerOpens was out old new opened r broken
began_put was broken out old new opened (Ok done) usable is put stays ends =
    subst (λ (b : Bool). HandlerOpens was out old new opened (Ok tt) b) (sym (stays
    ∙ usable)) (subst (λ (o : Result (Unit {0}) ClientError). HandlerOpens was out old new o (Ok tt) false)
    (sym is) (wrote usable put))
began_put was broken out old new opened (Err e) usable is put stays ends =
    subst (λ (b : Bool). HandlerOpens was out old new opened (Err e) b) (sym ends)
    (subst (λ (x : ClientError). HandlerOpens was out old new opened (Err x) true) (sym put.0)
    (subst (λ (o : Result (Unit {0}) ClientError). HandlerOpens was out old new o (Err client.IoError) true)
    (sym is) (cut usable put.1)))

pub began_refused : (was refusal : Bool) (out : List ℕ) (old : Line) (opened : Result (Unit {0}) ClientError)
    (e : ClientError)
    → was ≡ false → opened ≡ Err e → refusal ≡ is_refusal e
    → HandlerOpens was out old old opened (Err e) (not refusal)
began_refused was refusal out old opened e usable is tells =
    subst (λ (b : Bool). HandlerOpens was out old old opened (Err e) (not b)) (sym tells)
    (subst (λ (o : Result (Unit {0}) ClientError). HandlerOpens was out old old o (Err e)
    (not (is_refusal e))) (sym is) (refused e usable refl))

-- ---- a message of a caller's own

pub spelled_so : (spelled : Result (List ℕ) PgWireError) (r : Result (Unit {0}) ClientError)
    → IsSpelled spelled (Ok tt) → IfErr r (λ e. e ≡ client.IoError) → IsSpelled spelled r
spelled_so spelled (Ok done) is io = is
spelled_so spelled (Err e) is io = subst (λ (x : ClientError). IsSpelled spelled (Err x)) (sym io) is

-- it was not written whole
pub send_cut : (spelled : Result (List ℕ) PgWireError) (s0 s1 : Sight) (t0 t1 : Tape) (c0 c1 : Client)
    (was broken : Bool) (r : Result (Unit {0}) ClientError)
    → s0.wrote ≡ [] → Sent spelled s0 s1 → was ≡ false → c1 ≡ c0
    → OnErr r (WroteSome t0 t1 s1.wrote) → IfErr r (λ e. e ≡ client.IoError) → OnErr r (broken ≡ true)
    → IfErr r (λ e. NotSent spelled (link_sight c0 t0 was) (link_sight c1 t1 broken) e)
send_cut spelled s0 s1 t0 t1 c0 c1 was broken (Ok done) empty sent usable same w io ends = tt
send_cut spelled s0 s1 t0 t1 c0 c1 was broken (Err e) empty sent usable same w io ends =
    let put : s1.wrote ≡ sent.bytes =
    ap (λ (s : Sight). s.wrote) sent.after ∙ ap (λ (l : List ℕ). l ++ sent.bytes) empty in
    let after : link_sight c1 t1 broken ≡ record
    { client = c0; wrote = t0.wrote ++ take w.count s1.wrote; flushed = t0.flushed; broken = true } =
    rw (same, w.wrote, w.flushed, ends) refl in
    let some : SentSome spelled (link_sight c0 t0 was) (link_sight c1 t1 broken) = record {
      front = take w.count s1.wrote;
      behind = drop w.count s1.wrote;
      cut = ap bytes_or_none sent.spells ∙ sym put ∙ sym (take-append-drop w.count s1.wrote);
      usable = usable;
      after = after;
    } in
    subst (λ (x : ClientError). NotSent spelled (link_sight c0 t0 was) (link_sight c1 t1 broken) x) (sym io) some

-- ---- a handler's answer

-- it gives up
pub gave_up : (goes_on : ClientError → Bool) (closing may : Bool) (c : Client) (old : Line) (e : ClientError)
    → may ≡ goes_on e → may ≡ false → GivesUp goes_on closing c old old e e c true
gave_up goes_on closing may c old e is ends = breaks e (sym is ∙ ends) refl

pub gave_back : (goes_on : ClientError → Bool) (closing may broken : Bool) (c : Client) (old : Line)
    (e : ClientError)
    → may ≡ goes_on e → may ≡ true → closing ≡ true → broken ≡ false
    → GivesUp goes_on closing c old old e e c broken
gave_back goes_on closing may broken c old e is goes ready usable =
    subst (λ (b : Bool). GivesUp goes_on closing c old old e e c b) (sym usable) (fails e (sym is
    ∙ goes) ready refl)

pub passing : (goes_on : ClientError → Bool) (closing may broken : Bool) (c last : Client) (old new : Line)
    (e x : ClientError)
    → may ≡ goes_on e → may ≡ true → closing ≡ false → PassedOver e c old new x last broken
    → GivesUp goes_on closing c old new e x last broken
passing goes_on closing may broken c last old new e x is goes quiet p =
    passes_over e x last broken (sym is ∙ goes) quiet p

module _ {T : Type 0} (goes_on : ClientError → Bool) (closing was : Bool) (out : List ℕ) (c : Client) (old : Line)
    (answer : CallAnswer T) where
  pub followed_starved : was ≡ true
      → Follows goes_on closing was out c old old answer (Err client.OutOfMemory) c was
  followed_starved wanting =
      subst (λ (b : Bool). Follows goes_on closing was out c old old answer (Err client.OutOfMemory) c b)
      (sym wanting) (starves answer wanting refl)

  pub followed_put : (new : Line) (s : ReadyState T) (last : Client) (broken : Bool) → was ≡ false → answer ≡ Ok s
      → PutAll out old new → last ≡ c → broken ≡ was
      → Follows goes_on closing was out c old new answer (Ok s) last broken
  followed_put new s last broken usable is put same stays =
      subst (λ (a : CallAnswer T). Follows goes_on closing was out c old new a (Ok s) last broken) (sym is)
      (subst (λ (x : Client). Follows goes_on closing was out c old new (Ok s) (Ok s) x broken) (sym same)
      (subst (λ (b : Bool). Follows goes_on closing was out c old new (Ok s) (Ok s) c b) (sym (stays
      ∙ usable)) (writes s usable put)))

  pub followed_cut : (new : Line) (s : ReadyState T) (e : ClientError) (last : Client) (broken : Bool)
      → was ≡ false → answer ≡ Ok s → PutsOnLine out old new (Err e) → last ≡ c → broken ≡ true
      → Follows goes_on closing was out c old new answer (Err e) last broken
  followed_cut new s e last broken usable is put same ends =
      subst (λ (a : CallAnswer T). Follows goes_on closing was out c old new a (Err e) last broken) (sym is)
      (subst (λ (x : ClientError). Follows goes_on closing was out c old new (Ok s) (Err x) last broken)
      (sym put.0)
      (subst (λ (x : Client). Follows goes_on closing was out c old new (Ok s) (Err client.IoError) x broken)
      (sym same)
      (subst (λ (b : Bool). Follows goes_on closing was out c old new (Ok s) (Err client.IoError) c b) (sym ends)
      (cuts s usable put.1))))

  pub followed_error : (new : Line) (e x : ClientError) (last : Client) (broken : Bool) → was ≡ false
      → answer ≡ Err e → GivesUp goes_on closing c old new e x last broken
      → Follows goes_on closing was out c old new answer (Err x) last broken
  followed_error new e x last broken usable is g =
      subst (λ (a : CallAnswer T). Follows goes_on closing was out c old new a (Err x) last broken) (sym is)
      (gives_up e x last broken usable g)

-- ---- one message

-- a handler that goes on heard no ReadyForQuery
goes_quiet : (A : Type 0) (m : Backend) → EndsAtReady {A = A} m Pending → is_ready m ≡ false
goes_quiet A (backend.ReadyForQuery m) e = absurd e
goes_quiet A m e = refl

-- and one that ends heard it
ends_ready : {A : Type 0} (m : Backend) (x : A) → EndsAtReady m (Ready x) → is_ready m ≡ true
ends_ready (backend.ReadyForQuery m) x e = refl
ends_ready m x e = absurd e

-- bytes were read, and others written behind that
pub moved_by : (old mid new : Line) (taken sent : List ℕ) → Drew old mid taken → MovesLine mid new [] sent
    → MovesLine old new taken sent
moved_by old mid new taken sent d m = record {
  took = m.took ∙ append-nil mid.tape.took ∙ d.took;
  wrote = m.wrote ∙ ap (λ (w : List ℕ). w ++ sent) d.wrote;
  read = omega (arith, d.read, m.read);
  limit = m.limit ∙ d.limit;
}

-- bytes were read, and nothing written
pub moved_none : (old new : Line) (taken : List ℕ) → Drew old new taken → MovesLine old new taken []
moved_none old new taken d =
    record { took = d.took; wrote = d.wrote ∙ sym (append-nil old.tape.wrote); read = d.read; limit = d.limit }

-- where all was flushed, the end found all written flushed
pub flushed_at : (c : Client) (old new : Line) (taken : List ℕ) → Drew old new taken → IsFlushed old
    → Halts c old.tape.flushed old new → Halts c (length new.tape.wrote) old new
flushed_at c old new taken d f h =
    halts_on c old.tape.flushed (length new.tape.wrote) old old new refl (f ∙ ap length (sym d.wrote)) h

-- one thing behind another
pub moved_on : (old mid new : Line) (taken more sent also : List ℕ) → MovesLine old mid taken sent
    → MovesLine mid new more also → MovesLine old new (taken ++ more) (sent ++ also)
moved_on old mid new taken more sent also a b = record {
  took = b.took ∙ ap (λ (l : List ℕ). l ++ more) a.took ∙ append_assoc old.tape.took taken more;
  wrote = b.wrote ∙ ap (λ (w : List ℕ). w ++ also) a.wrote ∙ append_assoc old.tape.wrote sent also;
  read = omega (arith, a.read, b.read, length-append taken more);
  limit = b.limit ∙ a.limit;
}

pub cut_from : (old mid new : Line) (bytes part : List ℕ) → LineGoesOn old mid
    → IsCutPiece (Pause mid new) bytes part → IsCutPiece (Pause old new) bytes part
cut_from old mid new bytes part so is =
    subst (λ (p : Reasons). IsCutPiece p bytes part) (pause_on old mid new so) is

module _ {H A : Type 0} (M : Hearing H A) (goes_on : ClientError → Bool) where
  talk_as : (old mid new : Line) (h other : H) (c also : Client) (bytes sent : List ℕ) (last : CallEnd A)
      → LineGoesOn old mid → h ≡ other → c ≡ also
      → CallTalk M (Pause mid new) goes_on h c bytes sent last
      → CallTalk M (Pause old new) goes_on other also bytes sent last
  talk_as old mid new h other c also bytes sent last so e f t =
      subst (λ (p : Reasons). CallTalk M p goes_on other also bytes sent last) (pause_on old mid new so)
      (subst (λ (x : H). CallTalk M (Pause mid new) goes_on x also bytes sent last) e
      (subst (λ (x : Client). CallTalk M (Pause mid new) goes_on h x bytes sent last) f t))

  -- the error behind which messages were passed over
  halted : (x : ClientError) (broken : Bool) → goes_on x ≡ true → broken ≡ true
      → IsHalted {A = A} goes_on (Err x) broken
  halted client.UnexpectedEOF broken goes ends = ends
  halted x broken goes ends = (goes, ends)

  halted_behind : (e x : ClientError) (broken : Bool) → goes_on client.UnexpectedEOF ≡ false → goes_on e ≡ true
      → broken ≡ true → (x ≡ e) ⊎ ((e ≡ client.UnexpectedEOF) × (is_remote x ≡ true))
      → IsHalted {A = A} goes_on (Err x) broken
  halted_behind e x broken eof goes ends (inl same) = halted x broken (ap goes_on same ∙ goes) ends
  halted_behind e x broken eof goes ends (inr other) =
      absurd (let no : false ≡ true = sym eof ∙ ap goes_on (sym other.0) ∙ goes in cc)

  -- no message came
  pub heard_none : (h : H) (c : Client) (old new : Line) (e : ClientError) → IsFlushed old
      → MessageCame c old new (Err e) → TalksToCallEnd M goes_on h c old new (end (Err e) c true new.buffer)
  heard_none h c old new e f came = record {
    taken = came.taken;
    sent = [];
    moved = moved_none old new came.taken came.drew;
    talk = talk.lacks h c (old.buffer ++ came.taken) new.buffer e came.found;
    flushed = λ usable. absurd (let no : true ≡ false = usable in cc);
    halts = flushed_at c old new came.taken came.drew f came.halts;
    at_end = at_end_so _ _ old new (λ (same : failed Backend e ≡ Err client.UnexpectedEOF).
        let is : e ≡ client.UnexpectedEOF = (cc) in
        subst (λ (y : ClientError). IsHalted {A = A} goes_on (Err y) true) (sym is) refl) came.at_end;
    well = end_well _ old new f (io_answer A (WentWell old new) e (io_of Backend (WentWell old new) e came.well));
  }

  module _ (h handler : H) (c : Client) (s : Sight) (old mid : Line) (m : Backend) (f : IsFlushed old)
      (came : MessageCame c old mid (Ok m)) where
    came_well : EndedWell old mid
    came_well = (came.goes_on.1, still_flushed old mid came.taken came.drew f)

    -- memory was wanting
    heard_starved : (last : Client)
        → TalksToCallEnd M goes_on h c old mid (end (Err client.OutOfMemory) last true mid.buffer)
    heard_starved last = record {
      taken = came.taken;
      sent = [];
      moved = moved_none old mid came.taken came.drew;
      talk = talk.starves h c (old.buffer ++ came.taken) last mid.buffer;
      flushed = λ usable. absurd (let no : true ≡ false = usable in cc);
      halts = not_halted last (length mid.tape.wrote) old mid came.goes_on.0;
      at_end = not_at_end _ old mid came.goes_on.0;
      well = inl came_well;
    }

    next_in : (new : Line) → new.buffer ≡ mid.buffer → Next c (old.buffer ++ came.taken) m new.buffer
    next_in new same = subst (λ (b : List ℕ). Next c (old.buffer ++ came.taken) m b) (sym same) came.found

    heard_on : (new : Line) → M (standing h (fresh c)) m (standing handler s) (Ok Pending) → s.broken ≡ false
        → is_ready m ≡ false → PutAll s.wrote mid new → HeardOne M h c old new handler s.client
    heard_on new heard usable quiet put = record {
      taken = came.taken;
      message = m;
      after = standing handler s;
      moved = moved_by old mid new came.taken s.wrote came.drew put.moved;
      next = next_in new put.buffer;
      heard = heard;
      usable = usable;
      quiet = quiet;
      handler_is = refl;
      info_is = refl;
      goes_on = (put.goes_on.0 ∙ came.goes_on.0, put.goes_on.1 ∙ came.goes_on.1);
    }

    heard_last : (new : Line) (x : A) → M (standing h (fresh c)) m (standing handler s) (Ok (Ready x))
        → s.broken ≡ false → is_ready m ≡ true → PutAll s.wrote mid new
        → TalksToCallEnd M goes_on h c old new (end (Ok x) s.client false new.buffer)
    heard_last new x heard usable ready put = record {
      taken = came.taken;
      sent = s.wrote;
      moved = moved_by old mid new came.taken s.wrote came.drew put.moved;
      talk = talk.closes h c (old.buffer ++ came.taken) m new.buffer (standing handler s) x
          (next_in new put.buffer) heard usable ready;
      flushed = λ _. put.flushed came_well.1;
      halts = not_halted s.client (length new.tape.wrote) old new (put.goes_on.0 ∙ came.goes_on.0);
      at_end = not_at_end _ old new (put.goes_on.0 ∙ came.goes_on.0);
      well = inl (put.goes_on.1 ∙ came_well.0, put.flushed came_well.1);
    }

    heard_cut : (new : Line) (answer : ReadyState A) → M (standing h (fresh c)) m (standing handler s) (Ok answer)
        → s.broken ≡ false → PutSome s.wrote mid new
        → TalksToCallEnd M goes_on h c old new (end (Err client.IoError) s.client true new.buffer)
    heard_cut new answer heard usable put = record {
      taken = came.taken;
      sent = put.part;
      moved = moved_by old mid new came.taken put.part came.drew put.moved;
      talk = talk.unwritten h c (old.buffer ++ came.taken) m new.buffer (standing handler s) answer put.part
          (next_in new put.buffer) heard usable (cut_from old mid new s.wrote put.part came.goes_on put.cut);
      flushed = λ usable. absurd (let no : true ≡ false = usable in cc);
      halts = not_halted s.client (length new.tape.wrote) old new (put.ended ∙ came.goes_on.0);
      at_end = not_at_end _ old new (put.ended ∙ came.goes_on.0);
      well = inr refl;
    }

    heard_error : (e : ClientError) → M (standing h (fresh c)) m (standing handler s) (Err e)
        → IsCaused e 0 0 s.broken → goes_on e ≡ false → s.broken ≡ false
        → TalksToCallEnd M goes_on h c old mid (end (Err e) s.client true mid.buffer)
    heard_error e heard caused ends usable = record {
      taken = came.taken;
      sent = [];
      moved = moved_none old mid came.taken came.drew;
      talk = talk.breaks h c (old.buffer ++ came.taken) m mid.buffer (standing handler s) e came.found heard
          caused ends usable;
      flushed = λ good. absurd (let no : true ≡ false = good in cc);
      halts = not_halted s.client (length mid.tape.wrote) old mid came.goes_on.0;
      at_end = not_at_end _ old mid came.goes_on.0;
      well = inl came_well;
    }

    heard_failure : (e : ClientError) → M (standing h (fresh c)) m (standing handler s) (Err e) → s.broken ≡ false
        → goes_on e ≡ true → is_ready m ≡ true
        → TalksToCallEnd M goes_on h c old mid (end (Err e) s.client false mid.buffer)
    heard_failure e heard usable goes ready = record {
      taken = came.taken;
      sent = [];
      moved = moved_none old mid came.taken came.drew;
      talk = talk.fails h c (old.buffer ++ came.taken) m mid.buffer (standing handler s) e came.found heard goes
          usable ready;
      flushed = λ _. came_well.1;
      halts = not_halted s.client (length mid.tape.wrote) old mid came.goes_on.0;
      at_end = not_at_end _ old mid came.goes_on.0;
      well = inl came_well;
    }

    heard_passing : (eof : goes_on client.UnexpectedEOF ≡ false) (new : Line) (e x : ClientError) (last : Client)
        (broken : Bool)
        → M (standing h (fresh c)) m (standing handler s) (Err e) → s.broken ≡ false → goes_on e ≡ true
        → is_ready m ≡ false
        → PassedOver e s.client mid new x last broken
        → TalksToCallEnd M goes_on h c old new (end (Err x) last broken new.buffer)
    heard_passing eof new e x last broken heard usable goes quiet p =
        let drew = drew_on old mid new came.taken p.taken came.drew p.drew in
        let more = next_more c (old.buffer ++ came.taken) mid.buffer p.taken m came.found in
        let next =
        subst (λ (b : List ℕ). Next c b m (mid.buffer ++ p.taken))
        (append_assoc old.buffer came.taken p.taken) more in
        let passing =
        passing_as (Pause mid new) (Pause old new) e x s.client last (mid.buffer ++ p.taken) new.buffer broken
        (pause_on old mid new came.goes_on) p.passing in
        record {
          taken = came.taken ++ p.taken;
          sent = [];
          moved = moved_none old new (came.taken ++ p.taken) drew;
          talk = talk.passes_over h c (old.buffer ++ (came.taken ++ p.taken)) m (mid.buffer ++ p.taken)
              (standing handler s) e x last new.buffer broken next heard goes usable quiet passing;
          flushed = λ _. still_flushed old new (came.taken ++ p.taken) drew f;
          halts =
              halts_on last mid.tape.flushed (length new.tape.wrote) old mid new came.goes_on.0 (came.drew.flushed
              ∙ f ∙ ap length (sym drew.wrote)) p.halts;
          at_end =
              at_end_on _ _ old mid new came.goes_on.0
              (λ (h : PassedEnd e x broken). halted_behind e x broken eof goes h.0 h.1) p.at_end;
          well = ended_on (failed A x ≡ Err client.IoError) old mid new came_well.0
              (end_well _ mid new came_well.1 (io_answer A (WentWell mid new) x p.well));
        }

    given_up : (eof : goes_on client.UnexpectedEOF ≡ false) (new : Line) (e x : ClientError) (last : Client)
        (broken : Bool)
        → M (standing h (fresh c)) m (standing handler s) (Err e) → IsCaused e 0 0 s.broken → s.broken ≡ false
        → GivesUp goes_on (is_ready m) s.client mid new e x last broken
        → TalksToCallEnd M goes_on h c old new (end (Err x) last broken new.buffer)
    given_up eof new e x last broken heard caused usable (breaks e2 ends same) =
        subst (λ (l : Line). TalksToCallEnd M goes_on h c old l (end (Err e2) s.client true l.buffer)) (sym same)
        (heard_error e2 heard caused ends usable)
    given_up eof new e x last broken heard caused usable (fails e2 goes ready same) =
        subst (λ (l : Line). TalksToCallEnd M goes_on h c old l (end (Err e2) s.client false l.buffer)) (sym same)
        (heard_failure e2 heard usable goes ready)
    given_up eof new e x last broken heard caused usable (passes_over e2 x2 last2 broken2 goes quiet p) =
        heard_passing eof new e2 x2 last2 broken2 heard usable goes quiet p

    -- a message was heard, and its answer followed
    pub heard_next : (eof : goes_on client.UnexpectedEOF ≡ false) (new : Line) (answer result : CallAnswer A)
        (last : Client) (broken : Bool)
        → M (standing h (fresh c)) m (standing handler s) answer → OfError answer 0 0 s.broken
        → IfOk answer (EndsAtReady m)
        → Follows goes_on (is_ready m) s.broken s.wrote s.client mid new answer result last broken
        → HeardNext M goes_on h c old new handler last broken result
    heard_next eof new answer result last broken heard caused closes (starves answer2 wanting same) =
        subst (λ (l : Line). TalksToCallEnd M goes_on h c old l
        (end (Err client.OutOfMemory) s.client true l.buffer)) (sym same) (heard_starved s.client)
    heard_next eof new answer result last broken heard caused closes (writes Pending usable put) =
        (heard_on new heard usable (goes_quiet A m closes) put, refl)
    heard_next eof new answer result last broken heard caused closes (writes (Ready x) usable put) =
        heard_last new x heard usable (ends_ready m x closes) put
    heard_next eof new answer result last broken heard caused closes (cuts state usable put) =
        heard_cut new state heard usable put
    heard_next eof new answer result last broken heard caused closes (gives_up e x last2 broken2 usable g) =
        given_up eof new e x last2 broken2 heard caused usable g

  -- no message came, for a client that is as it was
  pub heard_nothing : (h : H) (c info : Client) (old new : Line) (e : ClientError) → info ≡ c → IsFlushed old
      → MessageCame c old new (Err e) → TalksToCallEnd M goes_on h c old new (end (Err e) info true new.buffer)
  heard_nothing h c info old new e same f came =
      subst (λ (x : Client). TalksToCallEnd M goes_on h c old new (end (Err e) x true new.buffer)) (sym same)
      (heard_none h c old new e f came)

  -- a message was heard from a desk that was cleared
  pub heard_so : (eof : goes_on client.UnexpectedEOF ≡ false) (h handler : H) (c : Client) (s0 s : Sight)
      (old mid new : Line) (m : Backend) (closing : Bool) (answer result : CallAnswer A) (last : Client)
      (broken : Bool)
      → IsFlushed old → MessageCame c old mid (Ok m) → s0 ≡ fresh c → closing ≡ is_ready m
      → M (standing h s0) m (standing handler s) answer → OfError answer 0 0 s.broken
      → IfOk answer (EndsAtReady m)
      → Follows goes_on closing s.broken s.wrote s.client mid new answer result last broken
      → HeardNext M goes_on h c old new handler last broken result
  heard_so eof h handler c s0 s old mid new m closing answer result last broken f came cleared ready heard caused
      closes follows =
      heard_next h handler c s old mid m f came eof new answer result last broken
      (subst (λ (x : Sight). M (standing h x) m (standing handler s) answer) cleared heard) caused closes
      (subst (λ (b : Bool). Follows goes_on b s.broken s.wrote s.client mid new answer result last broken) ready
      follows)

  -- one message was heard, and then the others
  pub talked_on : (h handler : H) (c info : Client) (old mid new : Line) (last : CallEnd A)
      → HeardOne M h c old mid handler info → TalksToCallEnd M goes_on handler info mid new last
      → TalksToCallEnd M goes_on h c old new last
  talked_on h handler c info old mid new last one t =
      let after = one.after in
      let more = next_more c (old.buffer ++ one.taken) mid.buffer t.taken one.message one.next in
      let next =
      subst (λ (b : List ℕ). Next c b one.message (mid.buffer ++ t.taken))
      (append_assoc old.buffer one.taken t.taken) more in
      record {
        taken = one.taken ++ t.taken;
        sent = after.sight.wrote ++ t.sent;
        moved = moved_on old mid new one.taken t.taken after.sight.wrote t.sent one.moved t.moved;
        talk = talk.hears h c (old.buffer ++ (one.taken ++ t.taken)) one.message (mid.buffer ++ t.taken) after
            t.sent last next one.heard one.usable one.quiet
            (talk_as old mid new handler after.handler info after.sight.client (mid.buffer ++ t.taken) t.sent last
            one.goes_on (sym one.handler_is) (sym one.info_is) t.talk);
        flushed = t.flushed;
        halts =
            halts_on last.info (length new.tape.wrote) (length new.tape.wrote) old mid new one.goes_on.0 refl
            t.halts;
        at_end = at_end_on _ _ old mid new one.goes_on.0 (λ is. is) t.at_end;
        well = ended_on (last.answer ≡ Err client.IoError) old mid new one.goes_on.1 t.well;
      }

  -- the call goes on from there as it does from the beginning, or has ended
  pub heard_further : (h handler : H) (c info : Client) (old new : Line) (broken : Bool) (answer : CallAnswer A)
      → HeardNext M goes_on h c old new handler info broken answer
      → HeardOn M goes_on h c old new handler info broken answer
  heard_further h handler c info old new broken (Ok Pending) x =
      (λ final last d. talked_on h handler c info old new final last x.0 d, x.1)
  heard_further h handler c info old new broken (Ok (Ready r)) x = x
  heard_further h handler c info old new broken (Err e) x = x

-- ---- a call

module _ {H A : Type 0} (opens : HandlerView H → HandlerView H → CallAnswer A → Type 0) (M : Hearing H A)
    (goes_on : ClientError → Bool) (h handler : H) (c : Client) (s : Sight) (old : Line) (f : IsFlushed old) where
  -- the opening was written, and messages were handed over
  pub call_talked : (info : Client) (mid new : Line) (last : CallEnd A)
      → opens (standing h (fresh c)) (standing handler s) (Ok Pending) → s.broken ≡ false → PutAll s.wrote old mid
      → info ≡ s.client
      → TalksToCallEnd M goes_on handler info mid new last → LineCall opens M goes_on h c old new last
  call_talked info mid new last opened usable put same t =
      let bytes =
      subst (λ (b : List ℕ). CallTalk M (Pause mid new) goes_on handler info (b ++ t.taken) t.sent last)
      put.buffer t.talk in
      record {
        taken = t.taken;
        sent = s.wrote ++ t.sent;
        moved = moved_on old mid new [] t.taken s.wrote t.sent put.moved t.moved;
        asked =
            talk.opened (standing handler s) t.sent last opened usable
            (talk_as M goes_on old mid new handler handler info s.client (old.buffer ++ t.taken) t.sent last
            put.goes_on refl same bytes);
        flushed = t.flushed;
        halts =
            halts_on last.info (length new.tape.wrote) (length new.tape.wrote) old mid new put.goes_on.0 refl
            t.halts;
        at_end = at_end_on _ _ old mid new put.goes_on.0 (λ is. is) t.at_end;
        well = ended_on (last.answer ≡ Err client.IoError) old mid new put.goes_on.1 t.well;
      }

  moved_still : MovesLine old old [] []
  moved_still =
      record {
        took = sym (append-nil old.tape.took);
        wrote = sym (append-nil old.tape.wrote);
        read = omega arith;
        limit = refl;
      }

  call_starved : (last : Client)
      → LineCall opens M goes_on h c old old (end (Err client.OutOfMemory) last true old.buffer)
  call_starved last = record {
    taken = [];
    sent = [];
    moved = moved_still;
    asked = talk.starves last old.buffer;
    flushed = λ good. f;
    halts = not_halted last (length old.tape.wrote) old old refl;
    at_end = not_at_end _ old old refl;
    well = inl (refl, f);
  }

  bytes_are : (sent : List ℕ) (P : Reasons) (answer : Result A ClientError) (info : Client) (broken : Bool)
      (rest : List ℕ)
      → rest ≡ old.buffer
      → OpensTalk opens M P goes_on h c old.buffer sent (end answer info broken old.buffer)
      → OpensTalk opens M P goes_on h c (old.buffer ++ []) sent (end answer info broken rest)
  bytes_are sent P answer info broken rest same a =
      subst (λ (b : List ℕ). OpensTalk opens M P goes_on h c b sent (end answer info broken rest))
      (sym (append-nil old.buffer))
      (subst (λ (b : List ℕ). OpensTalk opens M P goes_on h c old.buffer sent (end answer info broken b))
      (sym same) a)

  call_cut : (new : Line) → opens (standing h (fresh c)) (standing handler s) (Ok Pending) → s.broken ≡ false
      → PutSome s.wrote old new
      → LineCall opens M goes_on h c old new (end (Err client.IoError) s.client true new.buffer)
  call_cut new opened usable put = record {
    taken = [];
    sent = put.part;
    moved = put.moved;
    asked =
        bytes_are put.part (Pause old new) (Err client.IoError) s.client true new.buffer put.buffer
        (talk.unwritten (standing handler s) put.part opened usable put.cut);
    flushed = λ good. absurd (let no : true ≡ false = good in cc);
    halts = not_halted s.client (length new.tape.wrote) old new put.ended;
    at_end = not_at_end _ old new put.ended;
    well = inr refl;
  }

  call_refused : (e : ClientError) → opens (standing h (fresh c)) (standing handler s) (Err e) → s.broken ≡ false
      → IsCaused e 0 0 s.broken → (b : Bool) → is_refusal e ≡ b
      → LineCall opens M goes_on h c old old (end (Err e) s.client (not b) old.buffer)
  call_refused e opened usable caused true is = record {
    taken = [];
    sent = [];
    moved = moved_still;
    asked =
        bytes_are [] (Pause old old) (Err e) s.client false old.buffer refl
        (talk.refused (standing handler s) e opened is usable);
    flushed = λ good. f;
    halts = not_halted s.client (length old.tape.wrote) old old refl;
    at_end = not_at_end _ old old refl;
    well = inl (refl, f);
  }
  call_refused e opened usable caused false is = record {
    taken = [];
    sent = [];
    moved = moved_still;
    asked =
        bytes_are [] (Pause old old) (Err e) s.client true old.buffer refl
        (talk.breaks (standing handler s) e opened caused is usable);
    flushed = λ good. f;
    halts = not_halted s.client (length old.tape.wrote) old old refl;
    at_end = not_at_end _ old old refl;
    well = inl (refl, f);
  }

  -- what the handler answered as it opened the call, in one of its results
  abbrev OpensBy : Result (Unit {0}) ClientError → Type 0
  OpensBy (Ok done) = opens (standing h (fresh c)) (standing handler s) (Ok Pending)
  OpensBy (Err e) = opens (standing h (fresh c)) (standing handler s) (Err e)

  call_ended : (new : Line) (opened result : Result (Unit {0}) ClientError) (e : ClientError) (broken : Bool)
      → OpensBy opened → OfError opened 0 0 s.broken → HandlerOpens s.broken s.wrote old new opened result broken
      → result ≡ Err e
      → LineCall opens M goes_on h c old new (end (Err e) s.client broken new.buffer)
  call_ended new opened result e broken o caused (starved opened2 wanting same) is =
      let x : client.OutOfMemory ≡ e = cc in
      subst (λ (y : ClientError). LineCall opens M goes_on h c old new (end (Err y) s.client true new.buffer)) x
      (subst (λ (l : Line). LineCall opens M goes_on h c old l
      (end (Err client.OutOfMemory) s.client true l.buffer)) (sym same) (call_starved s.client))
  call_ended new opened result e broken o caused (wrote usable put) is = absurd cc
  call_ended new opened result e broken o caused (cut usable put) is =
      let x : client.IoError ≡ e = cc in
      subst (λ (y : ClientError). LineCall opens M goes_on h c old new (end (Err y) s.client true new.buffer)) x
      (call_cut new o usable put)
  call_ended new opened result e broken o caused (refused e2 usable same) is =
      let x : e2 ≡ e = cc in
      subst (λ (y : ClientError). LineCall opens M goes_on h c old new
      (end (Err y) s.client (not (is_refusal e2)) new.buffer)) x
      (subst (λ (l : Line). LineCall opens M goes_on h c old l
      (end (Err e2) s.client (not (is_refusal e2)) l.buffer)) (sym same)
      (call_refused e2 o usable caused (is_refusal e2) refl))

  -- the opening was refused or not written
  pub call_unopened : (new : Line) (opened : Result (Unit {0}) ClientError) (e : ClientError) (info : Client)
      (broken : Bool)
      → OpensBy opened → OfError opened 0 0 s.broken → HandlerOpens s.broken s.wrote old new opened (Err e) broken
      → info ≡ s.client
      → LineCall opens M goes_on h c old new (end (Err e) info broken new.buffer)
  call_unopened new opened e info broken o caused opens2 same =
      subst (λ (y : Client). LineCall opens M goes_on h c old new (end (Err e) y broken new.buffer)) (sym same)
      (call_ended new opened (Err e) e broken o caused opens2 refl)

opened_by : (was broken : Bool) (out : List ℕ) (old new : Line) (opened result : Result (Unit {0}) ClientError)
    → HandlerOpens was out old new opened result broken → result ≡ Ok tt
    → (opened ≡ Ok tt) × (was ≡ false) × PutAll out old new × (broken ≡ false)
opened_by was broken out old new opened result (starved opened2 wanting same) is = absurd cc
opened_by was broken out old new opened result (wrote usable put) is = (refl, usable, put, refl)
opened_by was broken out old new opened result (cut usable put) is = absurd cc
opened_by was broken out old new opened result (refused e usable same) is = absurd cc

-- what opened a call well
pub opened_well : (was broken : Bool) (out : List ℕ) (old new : Line) (opened : Result (Unit {0}) ClientError)
    → HandlerOpens was out old new opened (Ok tt) broken
    → (opened ≡ Ok tt) × (was ≡ false) × PutAll out old new × (broken ≡ false)
opened_well was broken out old new opened o = opened_by was broken out old new opened (Ok tt) o refl

module _ {H A : Type 0} (opens : HandlerView H → HandlerView H → CallAnswer A → Type 0) (M : Hearing H A)
    (goes_on : ClientError → Bool) (h handler : H) (c : Client) (s0 s : Sight) (old mid : Line)
    (f : IsFlushed old) (opened : Result (Unit {0}) ClientError) (cleared : s0 ≡ fresh c)
    (means : opens (standing h s0) (standing handler s) (pending opened)) where
  means_so : opens (standing h (fresh c)) (standing handler s) (pending opened)
  means_so = subst (λ (x : Sight). opens (standing h x) (standing handler s) (pending opened)) cleared means

  -- a call that was opened from a desk that was cleared
  pub call_opened : (new : Line) (info : Client) (broken : Bool) (last : CallEnd A)
      → HandlerOpens s.broken s.wrote old mid opened (Ok tt) broken → info ≡ s.client
      → TalksToCallEnd M goes_on handler info mid new last → LineCall opens M goes_on h c old new last
  call_opened new info broken last begun same t =
      let well = opened_well s.broken broken s.wrote old mid opened begun in
      call_talked opens M goes_on h handler c s old f info mid new last
      (subst (λ (r : Result (Unit {0}) ClientError). opens (standing h (fresh c)) (standing handler s)
      (pending r)) well.0 means_so) well.1 well.2 same t

  opens_by : (r : Result (Unit {0}) ClientError) → opens (standing h (fresh c)) (standing handler s) (pending r)
      → OpensBy opens M goes_on h handler c s old f r
  opens_by (Ok done) o = o
  opens_by (Err e) o = o

  -- and one that was not
  pub call_closed : (e : ClientError) (info : Client) (broken : Bool) → OfError opened 0 0 s.broken
      → HandlerOpens s.broken s.wrote old mid opened (Err e) broken → info ≡ s.client
      → LineCall opens M goes_on h c old mid (end (Err e) info broken mid.buffer)
  call_closed e info broken caused begun same =
      call_unopened opens M goes_on h handler c s old f mid opened e info broken (opens_by opened means_so) caused
      begun same
