-- A dialogue agrees with a session over a link.
use Rattle.std.proofs.Common.{◌≡◌, ◌≤◌, ◌⊎◌, ℕ, ◌+◌, ◌-◌, List, [], ◌++◌, length, take, Option, Some, Result, Ok, Err, inl, inr, arith, refl, ◌∙◌, ap, sym, subst, length-append}
use Rattle.std.proofs.lemmas.List.{append-nil, take_at}
use Rattle.std.proofs.Math.Seq.{take-append-add}
use Rattle.std.specs.Prelude.{IsErrOf}
use Rattle.pgw_backend.specs.declared.client_error.PgWireClientError.{PgWireClientError as ClientError}
use Rattle.pgw_backend.specs.declared.client_error.PgWireClientError.TheVariants as client
use Rattle.pgw_link.specs.Tape.{Tape}
use Rattle.pgw_link.specs.Foresight.{TapeEnds, Foreseen}
use Rattle.pgw_machine.specs.Course.{Over, CourseWaits, sent_of}
use Rattle.pgw_session.specs.declared.types.SessionReport.{SessionReport}
use Rattle.pgw_session.specs.Input.{Input}
use Rattle.pgw_session.specs.Machine.{error_of}
use Rattle.pgw_session.specs.Talk.{Ending, conversation}
use Rattle.pgw_dialogue.specs.declared.dialogue.Dialogue.{Dialogue}
use Rattle.pgw_dialogue.specs.Answers.{answer_at, answer_to, ending_answer, taken_of}
use Rattle.pgw_dialogue.specs.Dialogue.{Agrees, IsStarved, Stands}
use Rattle.pgw_dialogue.specs.Machine.{talk_end}
use Rattle.pgw_dialogue.proofs.DialogueLaws.{taken_below}
use Rattle.pgw_dialogue.proofs.TalkLaws.{over_on}
use Rattle.pgw_dialogue.proofs.ToldLaws.{sent_is, waits_by, whole_by}
use Rattle.pgw_client.specs.Session.{HasEnded}
use Rattle.pgw_client.specs.SessionSteps.{LinkSession, Reason, memory, unsent, stopped, failed, unread, at_limit, at_end}
use Rattle.pgw_client.proofs.SessionLaws.{known_rest, nothing_left}

-- a front within the limit that ends the conversation
over_at : (input : Input) (limit : ℕ) (all taken rest sent : List ℕ) (e : Ending) → all ≡ taken ++ rest
    → length taken ≤ limit → conversation input taken ≡ Over e sent
    → conversation input (taken_of limit all) ≡ Over e sent
over_at input limit all taken rest sent e are within is =
    let size : length taken + (limit - length taken) ≡ limit = omega (arith, within) in
    let front : taken_of limit all ≡ taken ++ take (limit - length taken) rest =
    ap (take limit) are ∙ ap (λ n. take n (taken ++ rest)) (sym size)
    ∙ take-append-add taken rest (limit - length taken) in
    ap (conversation input) front ∙ over_on input taken (take (limit - length taken) rest) e sent is

stopped_agrees : (input : Input) (limit : ℕ) (all sent : List ℕ) (ending : Ending) (e : ClientError)
    → conversation input (taken_of limit all) ≡ Over ending sent → error_of ending.outcome ≡ Some e
    → answer_to input limit all ≡ Err e
stopped_agrees input limit all sent ending e is why =
    ap (answer_at (limit - length all)) is ∙ ap ending_answer why

limit_agrees : (input : Input) (limit : ℕ) (all taken rest sent : List ℕ) → all ≡ taken ++ rest
    → length taken ≡ limit → CourseWaits (conversation input taken) sent
    → answer_to input limit all ≡ Err client.ReadLimit
limit_agrees input limit all taken rest sent are at w =
    let front : taken_of limit all ≡ taken = ap (take limit) are ∙ take_at taken rest limit at in
    let none : limit - length all ≡ 0 = omega (arith, ap length are, length-append taken rest, at) in
    ap (λ n. answer_at n (conversation input (taken_of limit all))) none
    ∙ ap (λ (b : List ℕ). answer_at 0 (conversation input b)) front ∙ ap (answer_at 0) w.2

reason_agrees : (input : Input) (limit before : ℕ) (d : Dialogue) (all put taken rest sent : List ℕ)
    {old new : Tape} {e : ClientError}
    → Stands input limit d all put → (IsStarved d → ⊥) → all ≡ taken ++ rest → length taken ≤ limit
    → (HasEnded limit taken old new → rest ≡ [])
    → Reason talk_end (conversation input taken) sent before taken limit old new e → (e ≡ client.IoError → ⊥)
    → (e ≡ client.OutOfMemory → ⊥) → Agrees input limit d all (Err e)
reason_agrees input limit before d all put taken rest sent h not are within none (failed (memory is)) no_io
    no_lack =
    absurd (no_lack is)
reason_agrees input limit before d all put taken rest sent h not are within none (failed (unsent io short)) no_io
    no_lack = absurd (no_io io)
reason_agrees input limit before d all put taken rest sent {e = e} h not are within none
    (failed (stopped ending is why)) no_io no_lack =
    inl (stopped_agrees input limit all sent ending e
    (over_at input limit all taken rest sent ending are within is) why)
reason_agrees input limit before d all put taken rest sent h not are within none (unread io waiting) no_io no_lack
    = absurd (no_io io)
reason_agrees input limit before d all put taken rest sent h not are within none (at_limit is waiting at) no_io
    no_lack =
    inl (limit_agrees input limit all taken rest sent are at waiting
    ∙ ap Err (sym is))
reason_agrees input limit before d all put taken rest sent h not are within none (at_end t pending is end means)
    no_io no_lack =
    let same : all ≡ taken = are ∙ ap (λ (l : List ℕ). taken ++ l) (none end) ∙ append-nil taken in
    let w =
    waits_by d.state d input limit all put sent pending t h.stands not
    (omega (arith, ap length same, end.below)) (ap (conversation input) same ∙ is) in
    inr ((w.0, w.1), w.2 ∙ sym means)

-- the session took a front of the bytes given, and all of them where it met the link's end
rest_of : (input : Input) (limit : ℕ) (old new : Tape) (result : Result SessionReport ClientError)
    (given : List ℕ) (left : Option (List ℕ))
    → (s : LinkSession input limit old new result)
    → Foreseen (Some given) left old new → TapeEnds left old new
    → (rest : List ℕ) × (given ≡ s.taken ++ rest) × (HasEnded limit s.taken old new → rest ≡ [])
rest_of input limit old new result given left s f ends =
    let r = known_rest {old = old} {new = new} given s.taken f s.took in
    (r.0, r.2, nothing_left limit s.taken (subst (λ o. TapeEnds o old new) r.1 ends))

pub agrees : (input : Input) (limit : ℕ) (old new : Tape) (result : Result SessionReport ClientError)
    (d : Dialogue) (given put : List ℕ) (left : Option (List ℕ))
    → LinkSession input limit old new result
    → Foreseen (Some given) left old new → TapeEnds left old new → (IsErrOf result client.IoError → ⊥)
    → (IsErrOf result client.OutOfMemory → ⊥)
    → Stands input limit d given put → (IsStarved d → ⊥) → Agrees input limit d given result
agrees input limit old new (Ok report) d given put left s f ends no_io no_lack h not =
    let r = rest_of input limit old new (Ok report) given left s f ends in
    let held = s.held in
    let over = over_at input limit given s.taken r.0 s.sent _ r.1 s.within held.1 in
    let w = whole_by d.state d input limit given put s.sent held.0 h.stands not over in
    (w.0, w.1 ∙ sym held.2)
agrees input limit old new (Err e) d given put left s f ends no_io no_lack h not =
    let r = rest_of input limit old new (Err e) given left s f ends in
    reason_agrees input limit (length old.wrote) d given put s.taken r.0 s.sent h not r.1 s.within r.2
    (s.held).reason (λ is. no_io (ap Err is)) (λ is. no_lack (ap Err is))

-- what both have sent
sent_agrees_by : (input : Input) (limit before : ℕ) (all taken rest sent : List ℕ) {old new : Tape}
    {e : ClientError}
    → all ≡ taken ++ rest → length taken ≤ limit → (HasEnded limit taken old new → rest ≡ [])
    → Reason talk_end (conversation input taken) sent before taken limit old new e → (e ≡ client.IoError → ⊥)
    → (e ≡ client.OutOfMemory → ⊥) → sent_of (conversation input (taken_of limit all)) ≡ sent
sent_agrees_by input limit before all taken rest sent are within none (failed (memory is)) no_io no_lack =
    absurd (no_lack is)
sent_agrees_by input limit before all taken rest sent are within none (failed (unsent io short)) no_io no_lack =
    absurd (no_io io)
sent_agrees_by input limit before all taken rest sent are within none (failed (stopped ending is why)) no_io
    no_lack =
    ap sent_of (over_at input limit all taken rest sent ending are within is)
sent_agrees_by input limit before all taken rest sent are within none (unread io waiting) no_io no_lack = absurd
    (no_io io)
sent_agrees_by input limit before all taken rest sent are within none (at_limit is waiting at) no_io no_lack =
    ap (λ (b : List ℕ). sent_of (conversation input b)) (ap (take limit) are ∙ take_at taken rest limit at)
    ∙ ap sent_of waiting.2
sent_agrees_by input limit before all taken rest sent are within none (at_end t pending is end means) no_io
    no_lack =
    let same : all ≡ taken = are ∙ ap (λ (l : List ℕ). taken ++ l) (none end) ∙ append-nil taken in
    ap (λ (b : List ℕ). sent_of (conversation input b))
    (taken_below limit all (omega (arith, ap length same, end.below)) ∙ same)
    ∙ ap sent_of is

pub sent_agrees : (input : Input) (limit : ℕ) (old new : Tape) (result : Result SessionReport ClientError)
    (d : Dialogue) (given put : List ℕ) (left : Option (List ℕ))
    → LinkSession input limit old new result
    → Foreseen (Some given) left old new → TapeEnds left old new → (IsErrOf result client.IoError → ⊥)
    → (IsErrOf result client.OutOfMemory → ⊥)
    → Stands input limit d given put → (IsStarved d → ⊥) → new.wrote ≡ old.wrote ++ put
sent_agrees input limit old new (Ok report) d given put left s f ends no_io no_lack h not =
    let r = rest_of input limit old new (Ok report) given left s f ends in
    let over = over_at input limit given s.taken r.0 s.sent _ r.1 s.within (s.held).1 in
    s.wrote ∙ ap (λ (l : List ℕ). old.wrote ++ l) (sym (ap sent_of over) ∙ sent_is input limit d given put h not)
sent_agrees input limit old new (Err e) d given put left s f ends no_io no_lack h not =
    let r = rest_of input limit old new (Err e) given left s f ends in
    let all =
    sent_agrees_by input limit (length old.wrote) given s.taken r.0 s.sent r.1 s.within r.2 (s.held).reason
    (λ is. no_io (ap Err is)) (λ is. no_lack (ap Err is)) in
    s.wrote ∙ ap (λ (l : List ℕ). old.wrote ++ l) (sym all ∙ sent_is input limit d given put h not)
