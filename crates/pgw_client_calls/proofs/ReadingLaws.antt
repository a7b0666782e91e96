-- How a client comes by its messages.
use Rattle.std.proofs.Common.{◌≡◌, ◌⊎◌, ◌<◌, ℕ, Bool, true, false, List, [], ◌∷◌, ◌++◌, length, drop, length-drop, Some, Result, Ok, Err, refl, sym, ap, subst, ◌∙◌, arith, inl, inr, append_assoc, length-append}
use Rattle.std.proofs.lemmas.List.{append-nil, drop-append-le}
use Rattle.std.proofs.lemmas.Result.{on_ok_weaker}
use Rattle.pgw_types.specs.declared.context.ProtocolVersion.{ProtocolVersion}
use Rattle.pgw_backend.specs.Front.{front, More}
use Rattle.pgw_backend.proofs.FrontLaws.{front_nil, front_whole, front_whole_more}
use Rattle.pgw_backend.specs.declared.backend.PgWireBackendMessage.{PgWireBackendMessage as Backend}
use Rattle.pgw_backend.specs.declared.backend.PgWireBackendMessage.TheVariants as backend
use Rattle.pgw_backend.specs.declared.client_error.PgWireClientError.{PgWireClientError as ClientError}
use Rattle.pgw_backend.specs.declared.client_error.PgWireClientError.TheVariants as client
use Rattle.pgw_link.specs.Tape.{Tape}
use Rattle.pgw_dialogue.specs.Wire.{Decoded}
use Rattle.pgw_session.specs.Segments.{is_ready}
use Rattle.pgw_handlers.specs.Client.{Client}
use Rattle.pgw_handlers.specs.Handling.{IsCaused}
use Rattle.pgw_client_calls.specs.Talk.{Next, Lack, unread, halts, starves as lack_starves, passes, is_remote, client_after, in_place_of, first_error_of, Passing, lacks, closes, goes, starves}
use Rattle.pgw_client_calls.specs.Line.{Line, line, Reasons, Pause, IsFlushed, WentWell, EndedWell, NotEnded, Halts, AtEnd, Drew}
use Rattle.pgw_client_calls.specs.Reading.{LineGoesOn, LineGrows, MeetsLinkEnd, LinkReadFails, Lost, ReadOnce, NextOrLack, MessageCame, PassedOver}

-- ---- bytes behind others

-- a message at the front stays there, whatever follows
pub next_more : (c : Client) (bytes rest more : List ℕ) (m : Backend) → Next c bytes m rest
    → Next c (bytes ++ more) m (rest ++ more)
next_more c bytes rest more m n =
    let len = n.0 in (
      len,
      front_whole_more c.protocol_version bytes more m len n.1,
      ap (λ (r : List ℕ). r ++ more) n.2
          ∙ sym (drop-append-le len bytes more (front_whole c.protocol_version bytes m len n.1).1),
    )

pub drew_on : (old mid new : Line) (piece taken : List ℕ) → Drew old mid piece → Drew mid new taken
    → Drew old new (piece ++ taken)
drew_on old mid new piece taken a b = record {
  took = b.took ∙ ap (λ (l : List ℕ). l ++ taken) a.took ∙ append_assoc old.tape.took piece taken;
  wrote = b.wrote ∙ a.wrote;
  flushed = b.flushed ∙ a.flushed;
  read = omega (arith, a.read, b.read, length-append piece taken);
  limit = b.limit ∙ a.limit;
}

-- the bytes of a line, in whatever pieces they came
pub pieces : (was now piece taken : List ℕ) → now ≡ was ++ piece → now ++ taken ≡ was ++ (piece ++ taken)
pieces was now piece taken is = ap (λ (b : List ℕ). b ++ taken) is ∙ append_assoc was piece taken

-- nothing was read
pub drew_none : (t : Tape) (faults : ℕ) (was now : List ℕ) (read limit : ℕ)
    → Drew (line t faults was read limit) (line t faults now read limit) []
drew_none t faults was now read limit =
    record { took = sym (append-nil t.took); wrote = refl; flushed = refl; read = omega arith; limit = refl }

-- where the end was not answered, nothing is to be said
pub not_halted : (c : Client) (flushed : ℕ) (old new : Line) → NotEnded old new → Halts c flushed old new
not_halted c flushed old new same = inl same

-- so of any fact
pub not_at_end : (fact : Type 0) (old new : Line) → NotEnded old new → AtEnd old new fact
not_at_end fact old new same = inl same

-- the end was not answered up to there; what is said from there on is said from the beginning
pub halts_on : (c : Client) (flushed was : ℕ) (old mid new : Line) → NotEnded old mid → flushed ≡ was →
    Halts c flushed mid new → Halts c was old new
halts_on c flushed was old mid new before same (inl none) = inl (none ∙ before)
halts_on c flushed was old mid new before same (inr h) =
    inr (h.0 ∙ ap (λ (e : List ℕ). e ++ flushed ∷ []) before ∙ ap (λ (n : ℕ). old.tape.ended ++ n ∷ []) same, h.1)

pub at_end_on : (fact also : Type 0) (old mid new : Line) → NotEnded old mid → (fact → also) →
    AtEnd mid new fact → AtEnd old new also
at_end_on fact also old mid new before so (inl none) = inl (none ∙ before)
at_end_on fact also old mid new before so (inr x) = inr (so x)

pub at_end_so : (fact also : Type 0) (old new : Line) → (fact → also) → AtEnd old new fact → AtEnd old new also
at_end_so fact also old new so (inl none) = inl none
at_end_so fact also old new so (inr x) = inr (so x)

-- ---- the link's calls went well

pub still_flushed : (old new : Line) (taken : List ℕ) → Drew old new taken → IsFlushed old → IsFlushed new
still_flushed old new taken d f = d.flushed ∙ f ∙ ap length (sym d.wrote)

pub drew_well : (old new : Line) (taken : List ℕ) → Drew old new taken → new.faults ≡ old.faults
    → WentWell old new
drew_well old new taken d calm = (calm, λ f. still_flushed old new taken d f)

pub well_still : (old : Line) → WentWell old old
well_still old = (refl, λ f. f)

pub well_on : (old mid new : Line) → WentWell old mid → WentWell mid new → WentWell old new
well_on old mid new a b = (b.0 ∙ a.0, λ f. b.1 (a.1 f))

-- up to there, and from there on, but for an answer
pub went_on : (A : Type 0) (old mid new : Line) → WentWell old mid → WentWell mid new ⊎ A → WentWell old new ⊎ A
went_on A old mid new a (inl b) = inl (well_on old mid new a b)
went_on A old mid new a (inr x) = inr x

-- a line whose writes were flushed ends so
pub end_well : (A : Type 0) (old new : Line) → IsFlushed old → WentWell old new ⊎ A → EndedWell old new ⊎ A
end_well A old new f (inl w) = inl (w.0, w.1 f)
end_well A old new f (inr x) = inr x

-- no call failed up to there, and from there on all went well
pub ended_on : (A : Type 0) (old mid new : Line) → mid.faults ≡ old.faults → EndedWell mid new ⊎ A
    → EndedWell old new ⊎ A
ended_on A old mid new calm (inl w) = inl (w.0 ∙ calm, w.1)
ended_on A old mid new calm (inr x) = inr x

-- an answer that is an error
abbrev pub failed : (A : Type 0) → ClientError → Result A ClientError
failed A e = Err e

-- it is IoError exactly where the error is
pub io_of : (A W : Type 0) (e : ClientError) → W ⊎ (failed A e ≡ Err client.IoError) → W ⊎ (e ≡ client.IoError)
io_of A W e (inl w) = inl w
io_of A W e (inr is) = inr cc

pub io_answer : (A W : Type 0) (e : ClientError) → W ⊎ (e ≡ client.IoError)
    → W ⊎ (failed A e ≡ Err client.IoError)
io_answer A W e (inl w) = inl w
io_answer A W e (inr is) = inr (ap (failed A) is)

-- ---- the message at the front

-- why a call does not go on, where all went well up to there
pub pause_on : (old mid new : Line) → LineGoesOn old mid → Pause mid new ≡ Pause old new
pause_on old mid new g = rw (g.0, g.1) refl

found_as : (c : Client) (P Q : Reasons) (bytes other rest : List ℕ) (r : Result Backend ClientError) → P ≡ Q
    → bytes ≡ other →
    NextOrLack P c bytes r rest → NextOrLack Q c other r rest
found_as c P Q bytes other rest r why same f =
    subst (λ (p : Reasons). NextOrLack p c other r rest) why
    (subst (λ (b : List ℕ). NextOrLack P c b r rest) same f)

-- more bytes came, and then a message
pub came_on : (c : Client) (old mid new : Line) (r : Result Backend ClientError) → LineGrows old mid
    → MessageCame c mid new r → MessageCame c old new r
came_on c old mid new r grew came = record {
  taken = grew.piece ++ came.taken;
  drew = drew_on old mid new grew.piece came.taken grew.drew came.drew;
  found =
      found_as c (Pause mid new) (Pause old new) (mid.buffer ++ came.taken)
      (old.buffer ++ (grew.piece ++ came.taken)) new.buffer r
      (pause_on old mid new grew.goes_on) (pieces old.buffer mid.buffer grew.piece came.taken grew.buffer)
      came.found;
  halts = halts_on c mid.tape.flushed old.tape.flushed old mid new grew.goes_on.0 grew.drew.flushed came.halts;
  at_end = at_end_on _ _ old mid new grew.goes_on.0 (λ is. is) came.at_end;
  goes_on =
      on_ok_weaker r (λ (g : LineGoesOn mid new). (g.0 ∙ grew.goes_on.0, g.1 ∙ grew.goes_on.1)) came.goes_on;
  well = went_on (r ≡ Err client.IoError) old mid new (drew_well old mid grew.piece grew.drew grew.goes_on.1)
      came.well;
}

-- it stands in the buffer
pub came_whole : (c : Client) (t : Tape) (faults : ℕ) (was now : List ℕ) (read limit : ℕ) (m : Backend)
    → Decoded c.protocol_version was now (Ok (Some m))
    → MessageCame c (line t faults was read limit) (line t faults now read limit) (Ok m)
came_whole c t faults was now read limit m d = record {
  taken = [];
  drew = drew_none t faults was now read limit;
  found = subst (λ (b : List ℕ). Next c b m now) (sym (append-nil was)) d;
  halts = not_halted c t.flushed (line t faults was read limit) (line t faults now read limit) refl;
  at_end =
      not_at_end (Ok m ≡ Err client.UnexpectedEOF) (line t faults was read limit) (line t faults now read limit)
      refl;
  goes_on = (refl, refl);
  well = inl (refl, λ f. f);
}

lack_of : (P : Reasons) (c : Client) (bytes rest : List ℕ) (e : ClientError)
    → Decoded c.protocol_version bytes rest (Err e) → Lack P c bytes rest e
lack_of P c bytes rest client.OutOfMemory d = lack_starves rest
lack_of P c bytes rest e d =
    let bad = d.1 (λ is. cc) in
    subst (λ (x : ClientError). Lack P c bytes rest x) (sym bad.2)
    (subst (λ (b : List ℕ). Lack P c bytes b (client.PgWireError bad.0)) (sym d.0) (unread bad.0 bad.1))

-- it cannot be read
pub came_refused : (c : Client) (t : Tape) (faults : ℕ) (was now : List ℕ) (read limit : ℕ) (e : ClientError)
    → Decoded c.protocol_version was now (Err e)
    → MessageCame c (line t faults was read limit) (line t faults now read limit) (Err e)
came_refused c t faults was now read limit e d =
    let new = line t faults now read limit in
    let P = Pause (line t faults was read limit) new in
    record {
      taken = [];
      drew = drew_none t faults was now read limit;
      found = subst (λ (b : List ℕ). Lack P c b now e) (sym (append-nil was)) (lack_of P c was now e d);
      halts = not_halted c t.flushed (line t faults was read limit) new refl;
      at_end = not_at_end (failed Backend e ≡ Err client.UnexpectedEOF) (line t faults was read limit) new refl;
      goes_on = tt;
      well = inl (refl, λ f. f);
    }

-- no more bytes came
lack_more : (P : Reasons) (c : Client) (was now : List ℕ) (e : ClientError) → front c.protocol_version was ≡ More
    → now ≡ was → P.halts e → Lack P c (was ++ []) now e
lack_more P c was now e more same why =
    subst (λ (b : List ℕ). Lack P c b now e) (sym (append-nil was))
    (subst (λ (b : List ℕ). Lack P c was b e) (sym same) (halts e more why))

pub came_ended : (c : Client) (old new : Line) → front c.protocol_version old.buffer ≡ More → MeetsLinkEnd old new
    → MessageCame c old new (Err client.UnexpectedEOF)
came_ended c old new more e = record {
  taken = [];
  drew = e.drew;
  found = lack_more (Pause old new) c old.buffer new.buffer client.UnexpectedEOF more e.buffer e.at_end;
  halts = inr (e.ended, subst (λ (b : List ℕ). front c.protocol_version b ≡ More) (sym e.buffer) more);
  at_end = inr refl;
  goes_on = tt;
  well = inl (drew_well old new [] e.drew e.faults);
}

came_lost : (c : Client) (old new : Line) → Lost old new → MessageCame c old new (Err client.OutOfMemory)
came_lost c old new l = record {
  taken = l.piece;
  drew = l.drew;
  found = lack_starves new.buffer;
  halts = not_halted c old.tape.flushed old new l.ended;
  at_end = not_at_end (failed Backend client.OutOfMemory ≡ Err client.UnexpectedEOF) old new l.ended;
  goes_on = tt;
  well = inl (drew_well old new l.piece l.drew l.faults);
}

came_failed : (c : Client) (old new : Line) → front c.protocol_version old.buffer ≡ More → LinkReadFails old new
    → MessageCame c old new (Err client.IoError)
came_failed c old new more f = record {
  taken = [];
  drew = f.drew;
  found = lack_more (Pause old new) c old.buffer new.buffer client.IoError more f.buffer f.rose;
  halts = not_halted c old.tape.flushed old new f.ended;
  at_end = not_at_end (failed Backend client.IoError ≡ Err client.UnexpectedEOF) old new f.ended;
  goes_on = tt;
  well = inr refl;
}

came_limited : (c : Client) (old : Line) → front c.protocol_version old.buffer ≡ More → old.read ≡ old.limit
    → MessageCame c old old (Err client.ReadLimit)
came_limited c old more at = record {
  taken = [];
  drew = drew_none old.tape old.faults old.buffer old.buffer old.read old.limit;
  found = lack_more (Pause old old) c old.buffer old.buffer client.ReadLimit more refl at;
  halts = not_halted c old.tape.flushed old old refl;
  at_end = not_at_end (failed Backend client.ReadLimit ≡ Err client.UnexpectedEOF) old old refl;
  goes_on = tt;
  well = inl (well_still old);
}

pub came_unread : (c : Client) (old new : Line) (e : ClientError) → front c.protocol_version old.buffer ≡ More
    → ReadOnce old new (Err e) → MessageCame c old new (Err e)
came_unread c old new client.OutOfMemory more r = came_lost c old new r
came_unread c old new client.IoError more r = came_failed c old new more r
came_unread c old new client.ReadLimit more r =
    subst (λ (l : Line). MessageCame c old l (Err client.ReadLimit)) (sym r.0) (came_limited c old more r.1)
came_unread c old new e more r = absurd r

-- ---- messages passed over

pub passing_as : (P Q : Reasons) (e x : ClientError) (c last : Client) (bytes left : List ℕ) (broken : Bool)
    → P ≡ Q →
    Passing P e c bytes x last left broken → Passing Q e c bytes x last left broken
passing_as P Q e x c last bytes left broken why d =
    subst (λ (p : Reasons). Passing p e c bytes x last left broken) why d

abbrev pub PassedEnd : ClientError → ClientError → Bool → Type 0
PassedEnd e x broken = (broken ≡ true) × ((x ≡ e) ⊎ ((e ≡ client.UnexpectedEOF) × (is_remote x ≡ true)))

-- the error behind a message is the one before it, or the server's first
first_cases : (e : ClientError) (m : Backend)
    → (first_error_of e m ≡ e)
    ⊎ ((e ≡ client.UnexpectedEOF) × (passes (first_error_of e m) ≡ true) × IsCaused (first_error_of e m) 0 0
    false)
first_cases client.UnexpectedEOF (backend.ErrorResponse m) = inr (refl, refl, tt)
first_cases client.UnexpectedEOF m = inl refl
first_cases e m = inl refl

remote_cases : (e : ClientError) (m : Backend)
    → (first_error_of e m ≡ e) ⊎ ((e ≡ client.UnexpectedEOF) × (is_remote (first_error_of e m) ≡ true))
remote_cases client.UnexpectedEOF (backend.ErrorResponse m) = inr (refl, refl)
remote_cases client.UnexpectedEOF m = inl refl
remote_cases e m = inl refl

first_stays : (e x : ClientError) (m : Backend)
    → (x ≡ first_error_of e m) ⊎ ((first_error_of e m ≡ client.UnexpectedEOF) × (is_remote x ≡ true))
    → (x ≡ e) ⊎ ((e ≡ client.UnexpectedEOF) × (is_remote x ≡ true))
first_stays e x m (inl is) = elim (remote_cases e m) [
  | inl same ↦ inl (is ∙ same)
  | inr other ↦ inr (other.0, ap is_remote is ∙ other.1)
]
first_stays e x m (inr none) = elim (remote_cases e m) [
  | inl same ↦ inr (sym same ∙ none.0, none.1)
  | inr other ↦ inr (other.0, none.1)
]

-- one message more is passed over
pub passed_on : (e x : ClientError) (c last : Client) (old mid new : Line) (m : Backend) (broken : Bool)
    → MessageCame c old mid (Ok m) → is_ready m ≡ false
    → PassedOver (first_error_of e m) (client_after m c) mid new x last broken
    → PassedOver e c old new x last broken
passed_on e x c last old mid new m broken came quiet p =
    let more = next_more c (old.buffer ++ came.taken) mid.buffer p.taken m came.found in
    let next =
    subst (λ (b : List ℕ). Next c b m (mid.buffer ++ p.taken)) (append_assoc old.buffer came.taken p.taken)
    more in
    record {
      taken = came.taken ++ p.taken;
      drew = drew_on old mid new came.taken p.taken came.drew p.drew;
      passing =
          goes e c (old.buffer ++ (came.taken ++ p.taken)) m (mid.buffer ++ p.taken) x last new.buffer broken next
          quiet
          (passing_as (Pause mid new) (Pause old new) (first_error_of e m) x (client_after m c) last
          (mid.buffer ++ p.taken) new.buffer broken
          (pause_on old mid new came.goes_on) p.passing);
      halts =
          halts_on last mid.tape.flushed old.tape.flushed old mid new came.goes_on.0 came.drew.flushed p.halts;
      at_end =
          at_end_on _ _ old mid new came.goes_on.0
          (λ (h : PassedEnd (first_error_of e m) x broken). (h.0, first_stays e x m h.1)) p.at_end;
      well = went_on (x ≡ client.IoError) old mid new (drew_well old mid came.taken came.drew came.goes_on.1)
          p.well;
    }

pub passed_all : (e : ClientError) (c : Client) (old new : Line) (m : Backend) → MessageCame c old new (Ok m)
    → is_ready m ≡ true → PassedOver e c old new e (client_after m c) false
passed_all e c old new m came ready = record {
  taken = came.taken;
  drew = came.drew;
  passing = closes e c (old.buffer ++ came.taken) m new.buffer came.found ready;
  halts = not_halted (client_after m c) old.tape.flushed old new came.goes_on.0;
  at_end = not_at_end (PassedEnd e e false) old new came.goes_on.0;
  well = inl (drew_well old new came.taken came.drew came.goes_on.1);
}

-- a failure that is answered in an error's place
io_in_place : (W : Type 0) (e x : ClientError) → W ⊎ (x ≡ client.IoError) → W ⊎ (in_place_of e x ≡ client.IoError)
io_in_place W e x (inl w) = inl w
io_in_place W e x (inr is) = inr (ap (in_place_of e) is)

pub passed_none : (e x : ClientError) (c : Client) (old new : Line) → MessageCame c old new (Err x)
    → PassedOver e c old new (in_place_of e x) c true
passed_none e x c old new came = record {
  taken = came.taken;
  drew = came.drew;
  passing = lacks e c (old.buffer ++ came.taken) new.buffer x came.found;
  halts = came.halts;
  at_end =
      at_end_so _ _ old new
      (λ (same : failed Backend x ≡ Err client.UnexpectedEOF).
      (refl, inl (let is : x ≡ client.UnexpectedEOF = (cc) in ap (in_place_of e) is))) came.at_end;
  well = io_in_place (WentWell old new) e x (io_of Backend (WentWell old new) x came.well);
}

pub passed_starved : (e : ClientError) (c : Client) (old new : Line) (m : Backend) → MessageCame c old new (Ok m)
    → PassedOver e c old new client.OutOfMemory c true
passed_starved e c old new m came = record {
  taken = came.taken;
  drew = came.drew;
  passing = starves e c (old.buffer ++ came.taken) new.buffer;
  halts = not_halted c old.tape.flushed old new came.goes_on.0;
  at_end = not_at_end (PassedEnd e client.OutOfMemory true) old new came.goes_on.0;
  well = inl (drew_well old new came.taken came.drew came.goes_on.1);
}

-- what is taken is gone from the buffer
pub taken_shrinks : (v : ProtocolVersion) (was now : List ℕ) (m : Backend) → Decoded v was now (Ok (Some m))
    → length now < length was
taken_shrinks v was now m d =
    let w = front_whole v was m d.0 d.1 in
    let size : length now ≡ length (drop d.0 was) = ap length d.2 in
    omega (arith, w.0, w.1, size, length-drop d.0 was)

pub ready_first : (e : ClientError) (m : Backend) → is_ready m ≡ true → first_error_of e m ≡ e
ready_first client.UnexpectedEOF (backend.ReadyForQuery m) is = refl
ready_first client.UnexpectedEOF m is = absurd cc
ready_first e m is = refl

-- no error makes IoError or Broken by itself
pub caused_from : (e : ClientError) (before now : ℕ) → IsCaused e 0 0 false → IsCaused e before now false
caused_from client.IoError before now c = absurd (omega (arith, c))
caused_from client.Broken before now c = absurd (let no : false ≡ true = c in cc)
caused_from e before now c = tt

-- as caused_from, behind a look at the buffer, which took nothing
pub came_after : (c also : Client) (t : Tape) (faults : ℕ) (was now : List ℕ) (read limit : ℕ) (mid final : Line)
    (r : Result Backend ClientError)
    → now ≡ was → also ≡ c
    → LineGrows (line t faults now read limit) mid → MessageCame also mid final r
    → MessageCame c (line t faults was read limit) final r
came_after c also t faults was now read limit mid final r same client grew came =
    subst (λ (x : Client). MessageCame x (line t faults was read limit) final r) client
    (subst (λ (b : List ℕ). MessageCame also (line t faults b read limit) final r) same
    (came_on also (line t faults now read limit) mid final r grew came))

pub ended_after : (c : Client) (t : Tape) (faults : ℕ) (was now : List ℕ) (read limit : ℕ) (new : Line)
    → now ≡ was → front c.protocol_version was ≡ More
    → MeetsLinkEnd (line t faults now read limit) new
    → MessageCame c (line t faults was read limit) new (Err client.UnexpectedEOF)
ended_after c t faults was now read limit new same more e =
    came_ended c (line t faults was read limit) new more
    (subst (λ (b : List ℕ). MeetsLinkEnd (line t faults b read limit) new) same e)

pub unread_after : (c : Client) (t : Tape) (faults : ℕ) (was now : List ℕ) (read limit : ℕ) (new : Line)
    (e : ClientError)
    → now ≡ was → front c.protocol_version was ≡ More
    → ReadOnce (line t faults now read limit) new (Err e)
    → MessageCame c (line t faults was read limit) new (Err e)
unread_after c t faults was now read limit new e same more r =
    came_unread c (line t faults was read limit) new e more
    (subst (λ (b : List ℕ). ReadOnce (line t faults b read limit) new (Err e)) same r)

-- ---- one turn of passing over

pub first_caused : (e r : ClientError) (m : Backend) → r ≡ first_error_of e m → IsCaused e 0 0 false
    → IsCaused r 0 0 false
first_caused e r m is own = subst (λ (x : ClientError). IsCaused x 0 0 false) (sym is) (elim (first_cases e m) [
  | inl same ↦ subst (λ (x : ClientError). IsCaused x 0 0 false) (sym same) own
  | inr other ↦ other.2
])

pub first_same : (e first r : ClientError) (m : Backend) → r ≡ first_error_of e m
    → (e ≡ first) ⊎ (passes e ≡ true) → (r ≡ first) ⊎ (passes r ≡ true)
first_same e first r m is (inl same) = elim (first_cases e m) [
  | inl stays ↦ inl (is ∙ stays ∙ same)
  | inr other ↦ inr (ap passes is ∙ other.1)
]
first_same e first r m is (inr good) = elim (first_cases e m) [
  | inl stays ↦ inr (ap passes (is ∙ stays) ∙ good)
  | inr other ↦ inr (ap passes is ∙ other.1)
]

pub first_remote : (e first r : ClientError) (m : Backend) → r ≡ first_error_of e m
    → (e ≡ first) ⊎ (is_remote e ≡ true) → (r ≡ first) ⊎ (is_remote r ≡ true)
first_remote e first r m is (inl same) = elim (remote_cases e m) [
  | inl stays ↦ inl (is ∙ stays ∙ same)
  | inr other ↦ inr (ap is_remote is ∙ other.1)
]
first_remote e first r m is (inr good) = elim (remote_cases e m) [
  | inl stays ↦ inr (ap is_remote (is ∙ stays) ∙ good)
  | inr other ↦ inr (ap is_remote is ∙ other.1)
]

pub passed_failed : (e x r : ClientError) (c also : Client) (old new : Line) → MessageCame c old new (Err x)
    → r ≡ in_place_of e x → also ≡ c → PassedOver e c old new r also true
passed_failed e x r c also old new came is same =
    subst (λ (y : ClientError). PassedOver e c old new y also true) (sym is)
    (subst (λ (y : Client). PassedOver e c old new (in_place_of e x) y true) (sym same)
    (passed_none e x c old new came))

pub passed_ready : (e r : ClientError) (m : Backend) (c also after : Client) (old new : Line) (broken : Bool)
    → MessageCame c old new (Ok m) → is_ready m ≡ true → r ≡ first_error_of e m → also ≡ c
    → after ≡ client_after m also → broken ≡ false → PassedOver e c old new r after broken
passed_ready e r m c also after old new broken came ready is same tells usable =
    subst (λ (y : ClientError). PassedOver e c old new y after broken) (sym (is ∙ ready_first e m ready))
    (subst (λ (y : Client). PassedOver e c old new e y broken) (sym (tells ∙ ap (client_after m) same))
    (subst (λ (b : Bool). PassedOver e c old new e (client_after m c) b) (sym usable)
    (passed_all e c old new m came ready)))

pub passed_wanting : (e : ClientError) (m : Backend) (c after : Client) (old new : Line)
    → MessageCame c old new (Ok m) → after ≡ c → PassedOver e c old new client.OutOfMemory after true
passed_wanting e m c after old new came same =
    subst (λ (y : Client). PassedOver e c old new client.OutOfMemory y true) (sym same)
    (passed_starved e c old new m came)

pub passed_after : (e r x : ClientError) (m : Backend) (c also after last : Client) (old mid new : Line)
    (broken : Bool)
    → MessageCame c old mid (Ok m) → is_ready m ≡ false → r ≡ first_error_of e m → also ≡ c
    → after ≡ client_after m also
    → PassedOver r after mid new x last broken → PassedOver e c old new x last broken
passed_after e r x m c also after last old mid new broken came quiet is same tells p =
    passed_on e x c last old mid new m broken came quiet
    (subst (λ (y : ClientError). PassedOver y (client_after m c) mid new x last broken) is
    (subst (λ (y : Client). PassedOver r y mid new x last broken) (tells
    ∙ ap (client_after m) same) p))

-- no bytes are no message
pub polled_empty : (v : ProtocolVersion) (bytes : List ℕ) → length bytes ≡ 0 → front v bytes ≡ More
polled_empty v [] none = front_nil v
polled_empty v (b ∷ bytes) none = absurd (omega (arith, none))
