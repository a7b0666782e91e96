-- A call gives the answer of the segment that its link still has.
use Rattle.std.proofs.Common.{◌≡◌, inl, inr, ◌≤◌, ◌+◌, ℕ, Bool, true, false, List, [], ◌∷◌, ◌++◌, length, length-append, Option, Some, Result, Ok, Err, arith, refl, sym, ◌∙◌, ap, subst, append_assoc}
use Rattle.std.proofs.lemmas.List.{append-nil, append_cancel_left}
use Rattle.pgw_types.specs.declared.error.PgWireError.{PgWireError}
use Rattle.pgw_backend.specs.Front.{More, Bad}
use Rattle.pgw_backend.proofs.FrontLaws.{front_bad_more}
use Rattle.pgw_backend.specs.declared.backend.PgWireBackendMessage.{PgWireBackendMessage as Backend}
use Rattle.pgw_backend.specs.declared.client_error.PgWireClientError.{PgWireClientError as ClientError}
use Rattle.pgw_backend.specs.declared.client_error.PgWireClientError.TheVariants as client
use Rattle.pgw_frontend.specs.Frontend.{encodings}
use Rattle.pgw_types.specs.Counts.{Rose}
use Rattle.pgw_link.specs.Foresight.{TapeEnds}
use Rattle.pgw_session.specs.declared.types.Request.{Request}
use Rattle.pgw_session.specs.declared.types.Answer.{Answer}
use Rattle.pgw_session.specs.declared.types.Answer.TheVariants as answer
use Rattle.pgw_session.specs.Events.{Event}
use Rattle.pgw_session.specs.Requests.{kind_of, sends_of, passes_over}
use Rattle.pgw_session.specs.Segments.{IsRequestSegment}
use Rattle.pgw_session.specs.Answers.{answer_of}
use Rattle.pgw_session.specs.Transcript.{SpellsGot}
use Rattle.pgw_session.proofs.Complete.{prefix_split}
use Rattle.pgw_client.proofs.SessionLaws.{known_rest}
use Rattle.pgw_handlers.specs.Client.{Client}
use Rattle.pgw_client_calls.specs.Line.{Line, Reasons, HaltsBy, Pause, MovesLine, Foretold}
use Rattle.pgw_client_calls.proofs.ReadingLaws.{next_more}
use Rattle.pgw_client_laws.specs.Turns.{standing_of_client, Does, IsAnswered, IsPassedSegment, IsCallFront, IsOpenFor, Opened}
use Rattle.pgw_client_laws.specs.Calls.{AnswersCall, StopsCall, CallMisplaces, BreaksClient, Comes, StillHas, IsReported}
use Rattle.pgw_client_laws.proofs.StandLaws.{exchanged_more}
use Rattle.pgw_client_laws.proofs.UniqueLaws.{more_not, answered, stops, opens, passed}

-- A call over some bytes, behind which others are left: together they begin with the segment, and where the call found no
-- more bytes it had those of the whole segment.
module _ (P : Reasons) (q : Request) (c : Client) (bytes left sent : List ℕ) (info : Client) (rest : List ℕ)
    (es : List Event) (spelled more put : List ℕ) (segment : IsRequestSegment q es)
    (got : SpellsGot (standing_of_client c) es spelled) (are : bytes ++ left ≡ spelled ++ more)
    (valid : encodings (sends_of q) ≡ Ok put)
    (enough : (e : ClientError) → P.halts e → (extra : List ℕ) × (bytes ≡ spelled ++ extra))
    (calm : (lost : List ℕ) → P.unsent lost → ⊥) where
  -- the bytes left stand behind those that the call left
  further : (property : List Event → Type 0) (behind : List ℕ) → Does property c bytes sent info behind
      → Does property c (bytes ++ left) sent info (behind ++ left)
  further property behind x =
      (x.0, x.1, exchanged_more c.config (standing_of_client c) bytes sent left x.0 info behind x.2)

  halted : (e x : ClientError) → P.halts e → StopsCall q c bytes sent x info rest More → ⊥
  halted e x why s =
      let w = enough e why in stops P q c bytes sent info rest es spelled w.0 segment got w.1 x More more_not s

  unreadable : (x : ClientError) (why : PgWireError) → StopsCall q c bytes sent x info rest (Bad why) → ⊥
  unreadable x why s =
      stops P q c (bytes ++ left) sent info (rest ++ left) es spelled more segment got are x (Bad why)
      (λ m len is. cc)
      (further (IsCallFront q x) rest s.0, front_bad_more info.protocol_version rest left why s.1)

  misplaces : (m : Backend) (b : Bool) → CallMisplaces b P q c bytes sent m info rest → ⊥
  misplaces m true x = halted client.UnexpectedEOF (client.UnexpectedMessage m) x.0 x.1
  misplaces m false x =
      opens P q c (bytes ++ left) sent info (rest ++ left) es spelled more segment got are m (
        x.0 ++ left,
        further (Opened q (IsOpenFor (kind_of q) false m)) x.0 x.1,
        next_more info x.0 rest left m
            x.2,
      )

  answers : (a : Answer) → Does (IsAnswered q a) c bytes sent info rest → a ≡ answer_of q es
  answers a x =
      answered P q c (bytes ++ left) sent info (rest ++ left) es spelled more segment got are a
      (further (IsAnswered q a) rest x)

  module _ {A : Type 0} (give : A → Answer) where
    gives_usable : (result : Result A ClientError) → AnswersCall give q c bytes sent info rest result
        → IsReported give (answer_of q es) result false
    gives_usable (Ok x) y = (answers (give x) y, refl)
    gives_usable (Err (client.RemoteError e)) y = (answers (answer.Remote e) y, refl)
    gives_usable (Err (client.UnexpectedMessage m)) y =
        absurd (passed P q c (bytes ++ left) sent info (rest ++ left) es spelled more segment got are m
        (further (IsPassedSegment q m) rest y))
    gives_usable (Err (client.PgWireError why)) y = absurd (let e = sym y.0 ∙ valid in cc)
    gives_usable (Err e) y = absurd y

    gives_broken : (result : Result A ClientError) → BreaksClient P q c bytes sent info rest result
        → IsReported give (answer_of q es) result true
    gives_broken (Err client.OutOfMemory) y = tt
    gives_broken (Err (client.PgWireError why)) y = absurd (unreadable y.0 why y.1)
    gives_broken (Err client.ReadLimit) y = absurd (halted client.ReadLimit y.1 y.0 y.2)
    gives_broken (Err client.IoError) (inl y) = absurd (halted client.IoError y.1 y.0 y.2)
    gives_broken (Err client.IoError) (inr y) = absurd (calm y.0 y.1)
    gives_broken (Err client.UnexpectedEOF) y = absurd (halted client.UnexpectedEOF client.UnexpectedEOF y.0 y.1)
    gives_broken (Err (client.RemoteError e)) y =
        absurd (halted client.UnexpectedEOF (client.RemoteError e) y.0 y.1)
    gives_broken (Err (client.UnexpectedMessage m)) y = absurd (misplaces m (passes_over (kind_of q)) y)
    gives_broken result y = absurd y

    gives_by : (result : Result A ClientError) (broken : Bool)
        → Comes give P q c bytes sent info rest result broken → IsReported give (answer_of q es) result broken
    gives_by result false y = gives_usable result y
    gives_by result true y = gives_broken result y

-- a call that found no more bytes, over a line that did not fail, had those of the whole segment
pub had_enough : (old now : Line) (spelled more taken left sent : List ℕ)
    → old.read + length spelled ≤ old.limit + length old.buffer → (old.buffer ++ taken) ++ left ≡ spelled ++ more
    → MovesLine old now taken sent → TapeEnds (Some left) old.tape now.tape → (Rose old.faults now.faults → ⊥)
    → (e : ClientError) → HaltsBy old.faults old.tape.ended now e
    → (extra : List ℕ) × (old.buffer ++ taken ≡ spelled ++ extra)
had_enough old now spelled more taken left sent within are moved ends calm client.IoError rose =
    absurd (calm rose)
had_enough old now spelled more taken left sent within are moved ends calm client.ReadLimit at =
    let s =
    prefix_split spelled (old.buffer ++ taken) more left (sym are)
    (omega (arith, at, moved.read, moved.limit, within, length-append old.buffer taken)) in
    (s.0, s.1)
had_enough old now spelled more taken left sent within are moved ends calm client.UnexpectedEOF end =
    let same =
    append_cancel_left old.tape.ended ends.answers ((end.asked).0 ∷ []) (sym ends.ended ∙ (end.asked).1) in
    let none : left ≡ [] = ends.at_end (omega (arith, ap length same)) in (
      more,
      sym (append-nil (old.buffer ++ taken)) ∙ ap (λ (l : List ℕ). (old.buffer ++ taken) ++ l) (sym none)
          ∙ are,
    )
had_enough old now spelled more taken left sent within are moved ends calm e x = absurd x

pub gives : {A : Type 0} (give : A → Answer) (q : Request) (c info : Client) (old now : Line)
    (coming taken sent rest : List ℕ) (is : Option (List ℕ)) (es : List Event) (result : Result A ClientError)
    (broken : Bool)
    → Comes give (Pause old now) q c (old.buffer ++ taken) sent info rest result broken
    → MovesLine old now taken sent → Foretold (Some coming) is old.tape now.tape → StillHas q c old coming es
    → (Rose old.faults now.faults → ⊥) → IsReported give (answer_of q es) result broken
gives give q c info old now coming taken sent rest is es result broken comes moved f w calm =
    let k = known_rest coming taken f.foreseen moved.took in
    let are : (old.buffer ++ taken) ++ k.0 ≡ w.spelled ++ w.more =
    append_assoc old.buffer taken k.0 ∙ ap (λ (l : List ℕ). old.buffer ++ l) (sym k.2) ∙ w.begins in
    let ends : TapeEnds (Some k.0) old.tape now.tape =
    subst (λ (o : Option (List ℕ)). TapeEnds o old.tape now.tape) k.1 f.ends in
    gives_by (Pause old now) q c (old.buffer ++ taken) k.0 sent info rest es w.spelled w.more w.sent w.segment
    w.got are w.put
    (had_enough old now w.spelled w.more taken k.0 sent w.within are moved ends calm) (λ lost u. calm u.0) give
    result broken comes
