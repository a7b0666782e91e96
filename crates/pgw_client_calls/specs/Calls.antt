-- What a client's calls leave.
use Rattle.std.specs.Prelude.{◌≡◌, ◌⊎◌, ℕ, Bool, true, false, not, ◌&&◌, ◌||◌, List, [], ◌++◌, length, drop, Result, Ok, Err}
use Rattle.pgw_types.specs.declared.error.PgWireError.{PgWireError}
use Rattle.pgw_types.specs.declared.context.ProtocolVersion.{ProtocolVersion}
use Rattle.pgw_backend.specs.Front.{front, More, Bad, Whole}
use Rattle.pgw_dialogue.specs.Wire.{Unless}
use Rattle.pgw_backend.specs.declared.client_error.PgWireClientError.{PgWireClientError as ClientError}
use Rattle.pgw_backend.specs.declared.client_error.PgWireClientError.TheVariants as client
use Rattle.pgw_backend.specs.declared.backend.PgWireBackendMessage.{PgWireBackendMessage as Backend}
use Rattle.pgw_config.specs.declared.config.Config.{Config}
use Rattle.pgw_link.specs.Tape.{Tape}
use Rattle.pgw_session.specs.Segments.{is_ready}
use Rattle.pgw_handlers.specs.Client.{Client, Sight}
use Rattle.pgw_handlers.specs.Handling.{HandlerView, standing, CallAnswer}
use Rattle.pgw_handlers.specs.declared.client_info.ReadyState.{ReadyState}
use Rattle.pgw_handlers.specs.declared.client_info.ReadyState.TheVariants.{Pending, Ready}
use Rattle.pgw_client_calls.specs.Talk.{fresh, Next, CallEnd, end, Hearing, CallTalk, OpensTalk, IsCutPiece, passes, is_refusal}
use Rattle.pgw_client_calls.specs.State.{ClientState}
use Rattle.pgw_client_calls.specs.Line.{Line, Pause, IsFlushed, EndedWell, NotEnded, Halts, AtEnd, MovesLine}
use Rattle.pgw_client_calls.specs.Reading.{LineGoesOn, PassedOver}

-- ---- what no handler changes

pub record CallFrame : Type 0 where
  pub config : Config
  pub buffer : List ℕ
  pub read : ℕ
  pub limit : ℕ

-- of the link
pub record KeptRest : Type 0 where
  pub took : List ℕ
  pub ended : List ℕ
  pub reads : ℕ

-- what is seen of a client over its link
abbrev pub link_sight : Client → Tape → Bool → Sight
link_sight c tape broken =
    record { client = c; wrote = tape.wrote; flushed = tape.flushed; broken = broken }

-- what a client tells of itself, by what its link tells
module _ {X : Type 0} where
  abbrev pub sight_in : (X → Tape) → ClientState X → Sight
  sight_in tape c = link_sight c.known (tape c.link) c.broken

  abbrev pub faults_in : (X → ℕ) → ClientState X → ℕ
  faults_in faults c = faults c.link

  abbrev pub own_in : ClientState X → CallFrame
  own_in c = record { config = c.known.config; buffer = c.buffer; read = c.read; limit = c.limit }

  abbrev pub rest_in : (X → Tape) → ClientState X → KeptRest
  rest_in tape c = record {
    took = (tape c.link).took;
    ended = (tape c.link).ended;
    reads = (tape c.link).reads;
  }

-- ---- whether a client can be used behind an answer, told or not

-- behind an error that none of these is, it cannot
abbrev pub IsUsableAfter : {T : Type 0} → (ClientError → Bool) → Result T ClientError → Bool
    → Type 0
IsUsableAfter allowed (Ok x) broken = broken ≡ false
IsUsableAfter allowed (Err e) broken = (broken ≡ true) ⊎ (allowed e ≡ true)

-- behind these it goes on, where it goes on at all
abbrev pub goes_on_if : Bool → ClientError → Bool
goes_on_if some e = some && passes e

-- of a call, a refused opening too
abbrev pub may_go_on : ClientError → Bool
may_go_on e = passes e || is_refusal e

-- ---- writing

-- what a handler sent was written as one piece and flushed; nothing is neither
pub record PutAll (bytes : List ℕ) (old new : Line) : Type 0 where
  pub moved : MovesLine old new [] bytes
  pub buffer : new.buffer ≡ old.buffer
  pub flushed : IsFlushed old → IsFlushed new
  pub goes_on : LineGoesOn old new

-- a part of it was written, or it was not flushed
pub record PutSome (bytes : List ℕ) (old new : Line) : Type 0 where
  pub part : List ℕ
  pub cut : IsCutPiece (Pause old new) bytes part
  pub moved : MovesLine old new [] part
  pub buffer : new.buffer ≡ old.buffer
  pub ended : NotEnded old new

abbrev pub PutsOnLine : List ℕ → Line → Line → Result (Unit {0}) ClientError → Type 0
PutsOnLine bytes old new (Ok done) = PutAll bytes old new
PutsOnLine bytes old new (Err e) = (e ≡ client.IoError) × PutSome bytes old new

-- ---- the opening of a call

-- What becomes of a handler's opening: `out` is what it sent, and `was` says that memory ran out in that.
pub data HandlerOpens (was : Bool) (out : List ℕ) (old new : Line) : Result (Unit {0}) ClientError
    → Result (Unit {0}) ClientError → Bool → Type 0 where
  starved : (opened : Result (Unit {0}) ClientError) → was ≡ true → new ≡ old
      → HandlerOpens was out old new opened (Err client.OutOfMemory) true
  wrote : was ≡ false → PutAll out old new → HandlerOpens was out old new (Ok tt) (Ok tt) false
  cut : was ≡ false → PutSome out old new
      → HandlerOpens was out old new (Ok tt) (Err client.IoError) true
  refused : (e : ClientError) → was ≡ false → new ≡ old
      → HandlerOpens was out old new (Err e) (Err e) (not (is_refusal e))

-- ---- a handler's answer

-- What becomes of a handler's error: `closing` says that it was behind ReadyForQuery.
pub data GivesUp (goes_on : ClientError → Bool) (closing : Bool) (c : Client) (old new : Line) :
    ClientError
    → ClientError → Client → Bool → Type 0 where
  breaks : (e : ClientError) → goes_on e ≡ false → new ≡ old
      → GivesUp goes_on closing c old new e e c true
  fails : (e : ClientError) → goes_on e ≡ true → closing ≡ true → new ≡ old
      → GivesUp goes_on closing c old new e e c false
  passes_over : (e x : ClientError) (last : Client) (broken : Bool) → goes_on e ≡ true
      → closing ≡ false → PassedOver e c old new x last broken
      → GivesUp goes_on closing c old new e x last broken

-- What becomes of its answer.
pub data Follows {T : Type 0} (goes_on : ClientError → Bool) (closing was : Bool) (out : List ℕ)
    (c : Client) (old new : Line) : CallAnswer T
    → CallAnswer T → Client → Bool → Type 0 where
  starves : (answer : CallAnswer T) → was ≡ true → new ≡ old
      → Follows goes_on closing was out c old new answer (Err client.OutOfMemory) c true
  writes : (s : ReadyState T) → was ≡ false → PutAll out old new
      → Follows goes_on closing was out c old new (Ok s) (Ok s) c false
  cuts : (s : ReadyState T) → was ≡ false → PutSome out old new
      → Follows goes_on closing was out c old new (Ok s) (Err client.IoError) c true
  gives_up : (e x : ClientError) (last : Client) (broken : Bool) → was ≡ false
      → GivesUp goes_on closing c old new e x last broken
      → Follows goes_on closing was out c old new (Err e) (Err x) last broken

-- ---- messages handed to a handler

-- what is answered where the link ended before the next message: that, or the error behind which messages were passed over
abbrev pub IsHalted : {A : Type 0} → (ClientError → Bool) → Result A ClientError → Bool → Type 0
IsHalted goes_on (Ok x) broken = ⊥
IsHalted goes_on (Err client.UnexpectedEOF) broken = broken ≡ true
IsHalted goes_on (Err e) broken = (goes_on e ≡ true) × (broken ≡ true)

-- a message was heard, what the handler sent was written, and the call goes on
pub record HeardOne {H A : Type 0} (M : Hearing H A) (h : H) (c : Client) (old new : Line)
    (handler : H) (info : Client) : Type 0 where
  pub taken : List ℕ
  pub message : Backend
  pub after : HandlerView H
  pub moved : MovesLine old new taken after.sight.wrote
  pub next : Next c (old.buffer ++ taken) message new.buffer
  pub heard : M (standing h (fresh c)) message after (Ok Pending)
  pub usable : after.sight.broken ≡ false
  pub quiet : is_ready message ≡ false
  pub handler_is : after.handler ≡ handler
  pub info_is : after.sight.client ≡ info
  pub goes_on : LineGoesOn old new

-- messages were handed over up to the call's end
pub record TalksToCallEnd {H A : Type 0} (M : Hearing H A) (goes_on : ClientError → Bool) (h : H)
    (c : Client) (old new : Line) (last : CallEnd A) : Type 0 where
  pub taken : List ℕ
  pub sent : List ℕ
  pub moved : MovesLine old new taken sent
  pub talk : CallTalk M (Pause old new) goes_on h c (old.buffer ++ taken) sent last
  pub flushed : last.broken ≡ false → IsFlushed new
  pub well : EndedWell old new ⊎ (last.answer ≡ Err client.IoError)
  pub halts : Halts last.info (length new.tape.wrote) old new
  pub at_end : AtEnd old new (IsHalted goes_on last.answer last.broken)

-- one message was handed over: the call goes on, or has ended
abbrev pub HeardNext : {H A : Type 0} → Hearing H A → (ClientError → Bool) → H → Client → Line
    → Line → H → Client → Bool → CallAnswer A → Type 0
HeardNext M goes_on h c old new handler info broken (Ok Pending) =
    HeardOne M h c old new handler info × (broken ≡ false)
HeardNext M goes_on h c old new handler info broken (Ok (Ready x)) =
    TalksToCallEnd M goes_on h c old new (end (Ok x) info broken new.buffer)
HeardNext M goes_on h c old new handler info broken (Err e) =
    TalksToCallEnd M goes_on h c old new (end (Err e) info broken new.buffer)

-- as HeardNext, behind some rows: the call goes on from there as it does from the beginning, or has ended
abbrev pub HeardOn : {H A : Type 0} → Hearing H A → (ClientError → Bool) → H → Client → Line
    → Line → H → Client → Bool → CallAnswer A → Type 0
HeardOn {A = A} M goes_on h c old new handler info broken (Ok Pending) =
    ((final : Line) (last : CallEnd A) → TalksToCallEnd M goes_on handler info new final last →
    TalksToCallEnd M goes_on h c old final last) × (broken ≡ false)
HeardOn M goes_on h c old new handler info broken (Ok (Ready x)) =
    TalksToCallEnd M goes_on h c old new (end (Ok x) info broken new.buffer)
HeardOn M goes_on h c old new handler info broken (Err e) =
    TalksToCallEnd M goes_on h c old new (end (Err e) info broken new.buffer)

-- ---- a call

-- A call of a client, as its handler means it: what it read and wrote, that what it read is counted, that a usable client
-- has flushed all that it wrote, that behind any answer but IoError no call of the link failed and all that was written is
-- flushed, and that the link's end was answered at most once in it: asked for a message that was
-- awaited, with all flushed, and it is what the call answers, or the error behind which it passed messages over.
pub record LineCall {H A : Type 0} (opens : HandlerView H → HandlerView H → CallAnswer A → Type 0)
    (M : Hearing H A) (goes_on : ClientError → Bool) (h : H) (c : Client) (old new : Line)
    (last : CallEnd A) : Type 0 where
  pub taken : List ℕ
  pub sent : List ℕ
  pub moved : MovesLine old new taken sent
  pub asked : OpensTalk opens M (Pause old new) goes_on h c (old.buffer ++ taken) sent last
  pub flushed : last.broken ≡ false → IsFlushed new
  pub well : EndedWell old new ⊎ (last.answer ≡ Err client.IoError)
  pub halts : Halts last.info (length new.tape.wrote) old new
  pub at_end : AtEnd old new (IsHalted goes_on last.answer last.broken)

-- ---- taking a message from the buffer

-- no message is whole yet, exactly where Pending comes; a message was taken; or the bytes cannot be read, and the client
-- cannot be used any more
abbrev pub Polled : ProtocolVersion → List ℕ → List ℕ → Bool
    → Result (ReadyState Backend) ClientError → Type 0
Polled version old new broken (Ok Pending) =
    (front version old ≡ More) × (new ≡ old) × (broken ≡ false)
Polled version old new broken (Ok (Ready m)) =
    (len : ℕ) × (front version old ≡ Whole m len) × (new ≡ drop len old) × (broken ≡ false)
Polled version old new broken (Err e) =
    Unless e ((why : PgWireError) × (front version old ≡ Bad why) × (e ≡ client.PgWireError why))
    × (new ≡ old) × (broken ≡ true)
