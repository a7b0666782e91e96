-- What a conversation's end, or its waiting, says in the terms of transcripts.
use Rattle.std.proofs.Common.{◌≡◌, ℕ, List, [], ◌∷◌, ◌++◌, map, Option, Some, None, refl, ◌∙◌, ap, sym, subst}
use Rattle.std.proofs.lemmas.List.{append-nil}
use Rattle.pgw_types.specs.declared.error.PgWireError.{PgWireError}
use Rattle.pgw_backend.specs.declared.backend.PgWireBackendMessage.{PgWireBackendMessage as Backend}
use Rattle.pgw_backend.specs.declared.client_error.PgWireClientError.{PgWireClientError as ClientError}
use Rattle.pgw_backend.specs.Front.{front}
use Rattle.pgw_frontend.specs.Frontend.{encodings}
use Rattle.pgw_query.specs.Rows.{ErrorResponse}
use Rattle.pgw_session.specs.Events.{Event, Got, all_events}
use Rattle.pgw_session.specs.Standings.{first_standing, standing_of}
use Rattle.pgw_session.specs.Answers.{tally_of}
use Rattle.pgw_session.specs.Transcript.{IsLegalPrefix, SpellsGot, EncodesSent, Completed, report_of}
use Rattle.pgw_session.specs.Failures.{IsServersTurn, RefusedAt, at_once, at_ready, at_the_end, HasNoPlace, NextAtStartup, WaitsAt, LeftWith, Unreadable, Unsendable, IsHopeless, IsUnfinished, FailsAtStartup, EndsAs, WaitsStill, BytesTell, complete, misplaced, unreadable, unsendable, refused, waiting}
use Rattle.pgw_machine.specs.Course.{Course, Waits, Over, run, sent_of}
use Rattle.pgw_session.specs.Machine.{Outcome, Complete, Unencoded, Unexpected, Unread, Refused, end_with}
use Rattle.pgw_session.specs.Talk.{Talk, Ending, said, heard_of, first_passed, talk_rules, beginning, conversation, whole_talk}
use Rattle.pgw_machine.proofs.CourseLaws.{run_append}
use Rattle.pgw_session.proofs.Events.{sents_gots, clean_heard}
use Rattle.pgw_session.proofs.Whole.{conversation_completes, lost_run, lost_not_ended}
use Rattle.pgw_session.proofs.Sound.{conversation_sound, SoundAt, Final, Open, OpenIf, Cause, FirstAtStartup, Misplaces, Passed, open_awaits}
use Rattle.pgw_session.proofs.StandingLaws.{remote_first}
use Rattle.pgw_session.proofs.Complete.{ends_agree, waits_before}
use Rattle.pgw_session.specs.Input.{Input}

-- ---- what was got and sent, without the messages passed over

put_said : (t : Talk) (sent : List ℕ) → EncodesSent (heard_of t) sent → EncodesSent (said t) sent
put_said t sent put = ap encodings (sym (sents_gots (said t) t.passed)) ∙ put

got_said : (input : Input) (t : Talk) (done : List ℕ) → t.passed ≡ []
    → SpellsGot (first_standing input.config) (heard_of t) done
    → SpellsGot (first_standing input.config) (said t) done
got_said input t done clean got =
    subst (λ (l : List Event). SpellsGot (first_standing input.config) l done) (sym (clean_heard t clean)) got

-- ---- the conversation ended

ended : (input : Input) (taken sent : List ℕ) (ending : Ending) → conversation input taken ≡ Over ending sent
    → Final input ending taken sent
ended input taken sent ending is = subst (SoundAt input taken) is (conversation_sound input taken)

cause_at : (input : Input) (taken sent : List ℕ) (ending : Ending) (outcome : Outcome)
    (final : Final input ending taken sent)
    → ending.outcome ≡ outcome → Cause input ending.notes final.rest outcome
cause_at input taken sent ending outcome final is = subst (Cause input ending.notes final.rest) is final.cause

open_at : (input : Input) (taken sent : List ℕ) (ending : Ending) (o : Outcome)
    (final : Final input ending taken sent)
    → ending.outcome ≡ o → OpenIf input ending.notes o
open_at input taken sent ending o final is = subst (OpenIf input ending.notes) is final.is_open

-- where it is whole, its segments are a transcript
pub complete_is_completed : (input : Input) (taken sent : List ℕ) (ending : Ending)
    → conversation input taken ≡ Over ending sent → ending.outcome ≡ Complete
    → Completed input taken sent (report_of input (ending.notes).closed)
complete_is_completed input taken sent ending is whole =
    let final = ended input taken sent ending is in
    let cause = cause_at input taken sent ending Complete final whole in
    let talk = ending.notes in
    let all : heard_of talk ≡ all_events talk.closed =
    sym (clean_heard talk cause.2) ∙ ap (λ (o : List Event). all_events talk.closed ++ o) cause.1
    ∙ append-nil (all_events talk.closed) in
    record {
      segments = talk.closed;
      transcript = cause.0;
      spelled = final.done;
      rest = final.rest;
      begins = final.begins;
      got = subst (λ (es : List Event). SpellsGot (first_standing input.config) es final.done) all final.got;
      put = subst (λ (es : List Event). EncodesSent es sent) all final.put;
      reported = refl;
    }

abbrev IsShort : Outcome → Type 0
IsShort Complete = ⊥
IsShort o = Unit {0}

-- where it is not, no transcript comes of what follows
hopeless : (input : Input) (taken sent : List ℕ) (ending : Ending) → conversation input taken ≡ Over ending sent
    → IsShort ending.outcome → IsHopeless input taken
hopeless input taken sent ending is short limit more segments c =
    let same =
    ends_agree input taken more c.bytes c.more ending (whole_talk segments) sent c.sent c.begins is
    (conversation_completes input segments c.bytes c.sent c.more c.transcript c.got c.put) in
    subst (λ (e : Ending). IsShort e.outcome) same short

-- messages were due of which one has no encoding
pub unencoded : (input : Input) (taken sent : List ℕ) (ending : Ending) (e : PgWireError)
    → conversation input taken ≡ Over ending sent → ending.outcome ≡ Unencoded e
    → Unsendable input taken sent e × IsHopeless input taken
unencoded input taken sent ending e is why =
    let final = ended input taken sent ending is in
    let cause = cause_at input taken sent ending (Unencoded e) final why in (
      record {
        es = said ending.notes;
        due = cause.0;
        spelled = final.done;
        rest = final.rest;
        begins = final.begins;
        got = got_said input ending.notes final.done cause.3 final.got;
        put = put_said ending.notes sent final.put;
        legal = cause.1;
        unencoded = cause.2;
      },
      hopeless input taken sent ending is (subst IsShort (sym why) tt),
    )

refused_how : (input : Input) (over : Type 0) (t : Talk) (done rest : List ℕ) (m : Backend)
    (passed : List Backend)
    → t.passed ≡ passed → SpellsGot (first_standing input.config) (heard_of t) done
    → Misplaces input t rest m passed
    → RefusedAt input over t.closed t.open_events m done rest
    × (IsLegalPrefix input (said t ++ Got m ∷ []) → ⊥)
refused_how input over t done rest m [] are got c = (
  at_once c.0 (got_said input t done are got)
      (ap (λ (l : List Event). front (standing_of input.config l).version rest) (clean_heard t are)
      ∙ c.1) c.3 c.4,
  c.2,
)
refused_how input over t done rest m (x ∷ ms) are got c =
    let all : heard_of t ≡ said t ++ map Got (m ∷ ms) =
    ap (λ (l : List Backend). said t ++ map Got l) are ∙ ap (λ y. said t ++ map Got (y ∷ ms)) c.0 in (
      at_ready ms c.2 c.3 (subst (λ (l : List Event). SpellsGot (first_standing input.config) l done) all got) c.4
          c.5 (ap (λ (l : List Event). front (standing_of input.config l).version rest) (sym all)
          ∙ c.6),
      c.1,
    )

misplaced_end : (input : Input) (over : Type 0) (taken sent : List ℕ) (ending : Ending)
    (final : Final input ending taken sent) (m : Backend)
    → Open input ending.notes → Misplaces input ending.notes final.rest m (ending.notes).passed
    → HasNoPlace input over taken sent m
misplaced_end input over taken sent ending final m is_open cause =
    let how =
    refused_how input over ending.notes final.done final.rest m (ending.notes).passed refl final.got cause in
    record {
      closed = (ending.notes).closed;
      part = (ending.notes).open_events;
      awaits = open_awaits input ending.notes is_open;
      spelled = final.done;
      rest = final.rest;
      begins = final.begins;
      put = put_said ending.notes sent final.put;
      misplaced = how.1;
      how = how.0;
    }

next_at_startup : (input : Input) (taken sent : List ℕ) (ending : Ending) (final : Final input ending taken sent)
    (m : Backend)
    → Open input ending.notes → FirstAtStartup input ending.notes final.rest m
    → NextAtStartup input taken sent (ending.notes).open_events m
next_at_startup input taken sent ending final m is_open cause =
    let t = ending.notes in
    let all : said t ≡ t.open_events = ap (λ (c : List (List Event)). all_events c ++ t.open_events) cause.2 in
    record {
      awaits =
          subst (λ (c : List (List Event)). IsServersTurn input c t.open_events) cause.2
          (open_awaits input t is_open);
      spelled = final.done;
      rest = final.rest;
      len = cause.0;
      begins = final.begins;
      got = subst (λ (l : List Event). SpellsGot (first_standing input.config) l final.done) all
          (got_said input t final.done cause.3 final.got);
      put = subst (λ (l : List Event). EncodesSent l sent) all (put_said t sent final.put);
      next = ap (λ (l : List Event). front (standing_of input.config l).version final.rest) (sym all
          ∙ clean_heard t cause.3)
          ∙ cause.1;
    }

unread_at : (input : Input) (taken sent : List ℕ) (ending : Ending) (final : Final input ending taken sent)
    (why : PgWireError)
    → Open input ending.notes × Passed input ending.notes (ending.notes).passed
    → Cause input ending.notes final.rest (Unread why) → Unreadable input taken sent why
unread_at input taken sent ending final why at cause = record {
  closed = (ending.notes).closed;
  part = (ending.notes).open_events;
  passed = (ending.notes).passed;
  awaits = open_awaits input ending.notes at.0;
  passes = at.1;
  spelled = final.done;
  rest = final.rest;
  begins = final.begins;
  got = final.got;
  put = put_said ending.notes sent final.put;
  next = cause;
}

-- what was got ended it
pub ended_misplaced : (input : Input) (over : Type 0) (taken sent : List ℕ) (ending : Ending) (m : Backend)
    → conversation input taken ≡ Over ending sent → ending.outcome ≡ Unexpected m
    → HasNoPlace input over taken sent m × IsHopeless input taken
ended_misplaced input over taken sent ending m is why =
    let final = ended input taken sent ending is in (
      misplaced_end input over taken sent ending final m
          (open_at input taken sent ending (Unexpected m) final why).0
          (cause_at input taken sent ending (Unexpected m) final why),
      hopeless input taken sent ending is
          (subst IsShort (sym why) tt),
    )

pub ended_unread : (input : Input) (taken sent : List ℕ) (ending : Ending) (e : PgWireError)
    → conversation input taken ≡ Over ending sent → ending.outcome ≡ Unread e
    → Unreadable input taken sent e × IsHopeless input taken
ended_unread input taken sent ending e is why =
    let final = ended input taken sent ending is in (
      unread_at input taken sent ending final e (open_at input taken sent ending (Unread e) final why)
          (cause_at input taken sent ending (Unread e) final why),
      hopeless input taken sent ending is
          (subst IsShort (sym why) tt),
    )

pub ended_refused : (input : Input) (taken sent : List ℕ) (ending : Ending) (e : ClientError)
    → conversation input taken ≡ Over ending sent → ending.outcome ≡ Refused e
    → FailsAtStartup input taken sent e × IsHopeless input taken
ended_refused input taken sent ending e is why =
    let final = ended input taken sent ending is in
    let cause = cause_at input taken sent ending (Refused e) final why in
    let opened = open_at input taken sent ending (Refused e) final why in (
      (
        (ending.notes).open_events,
        cause.0,
        cause.1,
        next_at_startup input taken sent ending final cause.0 opened.0
            cause.2,
      ),
      hopeless input taken sent ending is (subst IsShort (sym why) tt),
    )

-- ---- the conversation waits

waits_with : (input : Input) (taken sent pending : List ℕ) (t : Talk) (passed : List Backend) → t.passed ≡ passed
    → conversation input taken ≡ Waits t sent pending
    → WaitsAt input taken sent t.closed t.open_events passed
waits_with input taken sent pending t passed are is =
    let at = subst (SoundAt input taken) is (conversation_sound input taken) in
    let all : heard_of t ≡ said t ++ map Got passed = ap (λ (l : List Backend). said t ++ map Got l) are in
    record {
      awaits = open_awaits input t at.2.is_open;
      passes = subst (Passed input t) are at.2.passed;
      spelled = at.0;
      rest = pending;
      begins = at.1;
      got = subst (λ (l : List Event). SpellsGot (first_standing input.config) l at.0) all at.2.got;
      put = put_said t sent at.2.put;
      partial = ap (λ (l : List Event). front (standing_of input.config l).version pending) (sym all) ∙ at.3;
    }

-- it waits behind a legal prefix, and maybe messages passed over
pub waits_at : (input : Input) (taken sent pending : List ℕ) (t : Talk)
    → conversation input taken ≡ Waits t sent pending → WaitsAt input taken sent t.closed t.open_events t.passed
waits_at input taken sent pending t is = waits_with input taken sent pending t t.passed refl is

-- no transcript is whole yet
pub unfinished : (input : Input) (taken sent pending : List ℕ) (t : Talk)
    → conversation input taken ≡ Waits t sent pending → IsUnfinished input taken
unfinished input taken sent pending t is segments c =
    waits_before input taken [] c.bytes c.more sent pending t (whole_talk segments) c.sent (sym c.begins
    ∙ sym (append-nil taken)) c.within
    (λ rest. conversation_completes input segments c.bytes c.sent rest c.transcript c.got c.put) is

passed_first : (ms : List Backend) (m : Backend) → first_passed ms ≡ Some m
    → (rest : List Backend) × (ms ≡ m ∷ rest)
passed_first [] m is = cc
passed_first (x ∷ ms) m is = (ms, ap (λ y. y ∷ ms) (cc))

none_passed : (ms : List Backend) → first_passed ms ≡ None → ms ≡ []
none_passed [] is = refl
none_passed (m ∷ ms) is = cc

-- what passes over messages comes to no transcript
lost_hopeless : (input : Input) (taken sent pending : List ℕ) (t : Talk) (m : Backend) (ms : List Backend)
    → conversation input taken ≡ Waits t sent pending → t.passed ≡ m ∷ ms → IsHopeless input taken
unfolding conversation
lost_hopeless input taken sent pending t m ms is are limit more segments c =
    let rules = talk_rules input in
    let on : run rules (beginning input) (taken ++ more) ≡ run rules (Waits t sent pending) more =
    run_append rules (beginning input) taken more ∙ ap (λ x. run rules x more) is in
    let whole = conversation_completes input segments c.bytes c.sent c.more c.transcript c.got c.put in
    lost_not_ended _ (whole_talk segments) c.sent (lost_run input (Waits t sent pending) more (m, ms, are))
    (sym on
    ∙ ap (run rules (beginning input)) c.begins ∙ whole) tt

-- no more bytes come behind messages passed over
pub misplaced_left : (input : Input) (over : Type 0) (taken sent pending : List ℕ) (t : Talk) (m : Backend)
    → conversation input taken ≡ Waits t sent pending → first_passed t.passed ≡ Some m → over
    → HasNoPlace input over taken sent m × IsHopeless input taken
misplaced_left input over taken sent pending t m is first none =
    let at = subst (SoundAt input taken) is (conversation_sound input taken) in
    let f = passed_first t.passed m first in
    let passed : Passed input t (m ∷ f.0) = subst (Passed input t) f.1 at.2.passed in
    let all : heard_of t ≡ said t ++ map Got (m ∷ f.0) = ap (λ (l : List Backend). said t ++ map Got l) f.1 in (
      record {
        closed = t.closed;
        part = t.open_events;
        awaits = open_awaits input t at.2.is_open;
        spelled = at.0;
        rest = pending;
        begins = at.1;
        put = put_said t sent at.2.put;
        misplaced = passed.0;
        how = at_the_end f.0 passed.1 passed.2
            (subst (λ (l : List Event). SpellsGot (first_standing input.config) l at.0) all at.2.got)
            (ap (λ (l : List Event). front (standing_of input.config l).version pending) (sym all)
            ∙ at.3) none;
      },
      lost_hopeless input taken sent pending t m f.0 is f.1,
    )

-- or in an open segment, with or without an error
pub left_with : (input : Input) (taken sent pending : List ℕ) (t : Talk)
    → conversation input taken ≡ Waits t sent pending → first_passed t.passed ≡ None
    → LeftWith input taken sent (tally_of t.open_events).remote
left_with input taken sent pending t is first = (
  t.closed,
  t.open_events,
  waits_with input taken sent pending t [] (none_passed t.passed first) is,
  sym
      (remote_first t.open_events),
)

-- what the end of the bytes means
end_by : (input : Input) (taken sent pending : List ℕ) (t : Talk) (first : Option Backend)
    (error : Option ErrorResponse)
    → first_passed t.passed ≡ first → (tally_of t.open_events).remote ≡ error
    → conversation input taken ≡ Waits t sent pending → EndsAs input taken sent (end_with first error)
end_by input taken sent pending t (Some m) error first is waits =
    misplaced_left input (Unit {0}) taken sent pending t m waits first tt
end_by input taken sent pending t None (Some e) first is waits = (
  subst (LeftWith input taken sent) is (left_with input taken sent pending t waits first),
  unfinished input
      taken sent pending t waits,
)
end_by input taken sent pending t None None first is waits = (
  subst (LeftWith input taken sent) is (left_with input taken sent pending t waits first),
  unfinished input
      taken sent pending t waits,
)

pub ends_as : (input : Input) (taken sent pending : List ℕ) (t : Talk)
    → conversation input taken ≡ Waits t sent pending
    → EndsAs input taken sent (end_with (first_passed t.passed) (tally_of t.open_events).remote)
ends_as input taken sent pending t is =
    end_by input taken sent pending t (first_passed t.passed) (tally_of t.open_events).remote refl refl is

-- ---- whatever comes

pub waits_still : (input : Input) (taken sent pending : List ℕ) (t : Talk)
    → conversation input taken ≡ Waits t sent pending → WaitsStill input taken sent
waits_still input taken sent pending t is = (
  (t.closed, t.open_events, t.passed, waits_at input taken sent pending t is),
  unfinished input taken sent
      pending t is,
)

told_at_end : (input : Input) (taken sent : List ℕ) (ending : Ending) (o : Outcome)
    → conversation input taken ≡ Over ending sent → ending.outcome ≡ o → BytesTell input taken sent
told_at_end input taken sent ending Complete is why =
    complete (report_of input (ending.notes).closed) (complete_is_completed input taken sent ending is why)
told_at_end input taken sent ending (Unencoded e) is why =
    unsendable e (unencoded input taken sent ending e is why).0
told_at_end input taken sent ending (Unexpected m) is why =
    misplaced m (ended_misplaced input ⊥ taken sent ending m is why).0
told_at_end input taken sent ending (Unread e) is why =
    unreadable e (ended_unread input taken sent ending e is why).0
told_at_end input taken sent ending (Refused e) is why =
    refused e (ended_refused input taken sent ending e is why).0

told_by : (input : Input) (taken : List ℕ) (c : Course Talk Ending) → conversation input taken ≡ c
    → BytesTell input taken (sent_of c)
told_by input taken (Waits t sent pending) is = waiting (waits_still input taken sent pending t is)
told_by input taken (Over e sent) is = told_at_end input taken sent e e.outcome is refl

-- what the bytes taken tell
pub told : (input : Input) (taken : List ℕ) → BytesTell input taken (sent_of (conversation input taken))
told input taken = told_by input taken (conversation input taken) refl
