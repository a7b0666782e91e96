-- What is printed of a session over a link in memory.
use Rattle.std.proofs.Common.{◌≡◌, ◌≢◌, ◌≤◌, ◌+◌, ◌*◌, ℕ, suc, List, [], ◌∷◌, ◌++◌, length, Bool, ◌||◌, ◌&&◌, nat_lt, nat_le, true, false, refl, ◌∙◌, sym, ap, subst, append_assoc, inl, inr, Option, Some, None, Result, Ok, Err, arith}
use Rattle.std.proofs.lemmas.Bool.Decides.{nat_tests}
use Rattle.std.proofs.lemmas.List.{length-append}
use Rattle.std.specs.Result.{IfOk, OnOk, IsErrOf}
use Rattle.pgw_link.specs.Tape.{Tape, MovedBy, new_tape}
use Rattle.pgw_link.specs.Foresight.{Foreseen}
use Rattle.pgw_link.specs.Calls.{is_reached, call_number}
use Rattle.pgw_link.specs.Memory.{Making}
use Rattle.pgw_types.specs.declared.memory.OutOfMemory.{OutOfMemory}
use Rattle.pgw_types.specs.declared.config_error.ConfigError.{ConfigError}
use Rattle.pgw_types.specs.declared.config_error.ConfigError.TheVariants as config_error
use Rattle.pgw_backend.specs.ClientError.{of_config}
use Rattle.pgw_backend.specs.declared.client_error.PgWireClientError.{PgWireClientError}
use Rattle.pgw_backend.specs.declared.client_error.PgWireClientError.TheVariants as client
use Rattle.pgw_config.specs.declared.config.Config.{Config}
use Rattle.pgw_config.specs.Answers.{IsConfigAnswer}
use Rattle.pgw_config.specs.Parse.{HasOutcome, IsParsed}
use Rattle.pgw_session.specs.declared.types.SessionReport.{SessionReport}
use Rattle.pgw_session.specs.Demands.{refused_config}
use Rattle.pgw_session.specs.Events.{Event}
use Rattle.pgw_session.specs.Input.{Input}
use Rattle.pgw_session.specs.Transcript.{Completed, Completes, report_of}
use Rattle.pgw_client.specs.Session.{AnswersReport}
use Rattle.pgw_prog.specs.declared.printed.Printed.{Printed}
use Rattle.pgw_machine.specs.Course.{Over}
use Rattle.pgw_session.specs.Talk.{conversation, whole_talk}
use Rattle.pgw_session.proofs.Whole.{conversation_completes}
use Rattle.pgw_prog_script.specs.declared.script.Script.{Script}
use Rattle.pgw_prog.specs.Held.{MemorySession, PrintsSession, Says, PrintsOutcome, Holds, NamesCall, IsNear, memory_span, exit_status}
use Rattle.pgw_client.specs.OverLink.{LinkSpan, OverLink}
use Rattle.pgw_prog_sessions.specs.SessionText.{session_text}
use Rattle.pgw_prog.proofs.OverLaws.{from_fresh}

-- which calls failed, of those made by then
abbrev pub FailsBy : Making → Tape → ℕ → Type 0
FailsBy made after faults =
    nat_lt 0 faults ≡ (is_reached made.reads (call_number after.reads) || is_reached made.writes
    (call_number after.writes))

-- a listed call that was made is among as many calls, or more
named_by : (n : ℕ) (ns : List ℕ) (made most : ℕ) (b : Bool) → (nat_lt 0 n && nat_le n made) ≡ b → made ≤ most
    → (is_reached ns made ≡ true → NamesCall ns most) → (b || is_reached ns made) ≡ true → NamesCall (n ∷ ns) most
named_by n ns made most true here le behind h =
    (0, n, omega arith, refl, (grind (arith, nat_tests, here), grind (arith, nat_tests, here, le)))
named_by n ns made most false here le behind h =
    let rest = behind h in
    (suc rest.0, rest.1, omega (arith, rest.2), rest.3, rest.4)

pub named : (ns : List ℕ) (made most : ℕ) → made ≤ most → is_reached ns made ≡ true → NamesCall ns most
named [] made most le h = cc
named (n ∷ ns) made most le h =
    named_by n ns made most (nat_lt 0 n && nat_le n made) refl le (named ns made most le) h

near : (made : Making) (after : Tape) (reads writes : Bool)
    → is_reached made.reads (call_number after.reads) ≡ reads
    → is_reached made.writes (call_number after.writes) ≡ writes
    → after.reads ≤ length after.took + 1 → after.writes ≤ length after.wrote + 1 → (reads || writes) ≡ true
    → IsNear made after.took after.wrote
near made after true writes is_read is_written few_reads few_writes h =
    inl (named made.reads (call_number after.reads) (length after.took + 1) (omega (arith, few_reads)) is_read)
near made after false true is_read is_written few_reads few_writes h =
    inr (named made.writes (call_number after.writes) (length after.wrote + 1) (omega (arith, few_writes))
    is_written)
near made after false false is_read is_written few_reads few_writes h = cc

-- what is said of a session over a link that was new
pub from_new : (input : Input) (limit : ℕ) (made : Making) (link : LinkSpan) (left : List ℕ)
    (outcome : Result SessionReport PgWireClientError)
    → link.old ≡ new_tape → link.was ≡ Some made.server → link.is ≡ Some left → link.before ≡ 0
    → OverLink input limit (Unit {0}) link outcome
    → OverLink input limit (Unit {0}) (memory_span made link.new left link.now) outcome
from_new input limit made link left outcome fresh was is none over =
    let of : LinkSpan → Type 0 = λ (l : LinkSpan). OverLink input limit (Unit {0}) l outcome in
    let one = from_fresh input limit (Unit {0}) link outcome fresh none over in
    let two =
    subst (λ (w : Option (List ℕ)). of
    (record { old = new_tape; new = link.new; was = w; is = link.is; before = 0; now = link.now })) was
    one in
    subst (λ (w : Option (List ℕ)). of
    (record { old = new_tape; new = link.new; was = Some made.server; is = w; before = 0; now = link.now }))
    is two

module _ (input : Input) (limit : ℕ) (made : Making) (after : Tape) (left : List ℕ)
    (outcome : Result SessionReport PgWireClientError) where
  pub session_of : (now : ℕ) → OverLink input limit (Unit {0}) (memory_span made after left now) outcome
      → FailsBy made after now → length made.server ≤ length left + made.cut * after.reads
      → length after.wrote ≤ made.cut * after.writes
      → MemorySession input limit made after left now outcome
  session_of now over fails taken_in sent_in =
      let paced = over.paced in
      let pace = paced.4 in
      let took : length after.took ≡ length paced.0 = ap length paced.2 in
      let wrote : length after.wrote ≡ length paced.1 = ap length paced.3 in
      let known = over.foreseen tt in
      let all : length made.server ≡ length after.took + length left =
      ap length known.consumes ∙ length-append known.taken left
      ∙ ap (λ (t : List ℕ). length t + length left) (sym known.took) in
      record {
        over = over;
        cut = record { reads = omega (arith, all, taken_in); writes = sent_in };
        fails = fails;
        io_near = λ e.
            let failed = over.cause.io e in
            let some : nat_lt 0 now ≡ true = grind (arith, nat_tests, failed) in
            near made after (is_reached made.reads (call_number after.reads))
            (is_reached made.writes (call_number after.writes)) refl refl (omega (arith, pace.reads, took))
            (omega (arith, pace.writes, wrote)) (sym fails ∙ some);
        no_io = λ reads writes e. let failed = over.cause.io e in
            let some : nat_lt 0 now ≡ false = fails ∙ rw (reads, writes) refl in
            absurd (grind (arith, nat_tests, some, failed));
      }

  pub printed : (faults : ℕ) → OverLink input limit (Unit {0}) (memory_span made after left faults) outcome
      → (r : Result Printed OutOfMemory)
      → IfOk r (λ p. p.text.items ≡ session_text after.wrote outcome)
      → IfOk r (λ p. p.status ≡ exit_status outcome) → OnOk r (IsErrOf outcome client.OutOfMemory → ⊥)
      → OnOk r (FailsBy made after faults)
      → OnOk r (length made.server ≤ length left + made.cut * after.reads)
      → OnOk r (length after.wrote ≤ made.cut * after.writes) → IfOk r (PrintsSession input limit made)
  printed faults over (Ok p) text status memory fails taken_in sent_in =
      record {
        after = after;
        left = left;
        faults = faults;
        outcome = outcome;
        session = session_of faults over
            fails taken_in sent_in;
        memory = memory;
        text = text;
        status = status;
      }
  printed faults over (Err e) text status memory fails taken_in sent_in = tt

-- what was written is what a transcript sends that the bytes to come complete
same_sent : (input : Input) (limit : ℕ) (segments : List (List Event)) (left taken more sent : List ℕ)
    (report : SessionReport)
    → left ≡ taken ++ more → Completed input taken sent report → (c : Completes input limit left segments)
    → sent ≡ c.sent
same_sent input limit segments left taken more sent report are d c =
    let one = conversation_completes input d.segments d.spelled sent (d.rest ++ more) d.transcript d.got d.put in
    let two = conversation_completes input segments c.bytes c.sent c.more c.transcript c.got c.put in
    let same : d.spelled ++ (d.rest ++ more) ≡ c.bytes ++ c.more =
    sym (append_assoc d.spelled d.rest more) ∙ ap (λ (l : List ℕ). l ++ more) (sym d.begins) ∙ sym are
    ∙ c.begins in
    let both : Over (whole_talk d.segments) sent ≡ Over (whole_talk segments) c.sent =
    sym one ∙ ap (conversation input) same ∙ two in
    cc

completed_by : (input : Input) (limit : ℕ) (segments : List (List Event)) (server left : List ℕ) (after : Tape)
    (text : List ℕ) (status : ℕ) (outcome : Result SessionReport PgWireClientError)
    → Foreseen (Some server) (Some left) new_tape after
    → (c : Completes input limit server segments)
    → IfOk outcome (λ report. MovedBy new_tape after (λ taken sent. Completed input taken sent report))
    → AnswersReport (report_of input segments) outcome
    → (IsErrOf outcome client.OutOfMemory → ⊥) → text ≡ session_text after.wrote outcome
    → status ≡ exit_status outcome
    → (text ≡ session_text c.sent (Ok (report_of input segments))) × (status ≡ 0)
completed_by input limit segments server left after text status (Ok report) known c completed reports memory is
    ends =
    let all : server ≡ completed.0 ++ left =
    known.consumes ∙ ap (λ (t : List ℕ). t ++ left) (sym known.took ∙ completed.2) in
    let wrote : after.wrote ≡ c.sent =
    completed.3
    ∙ same_sent input limit segments server completed.0 left completed.1 report all completed.4 c in (
      is ∙ ap (λ (w : List ℕ). session_text w (Ok report)) wrote
          ∙ ap (λ (r : SessionReport). session_text c.sent (Ok r)) reports,
      ends,
    )
completed_by input limit segments server left after text status (Err e) known c completed reports memory is ends =
    absurd (memory (ap Err reports))

-- where no call is listed, the whole text of a transcript that the bytes to come complete is printed
pub completed_text_printed : (input : Input) (limit : ℕ) (made : Making) (p : Printed)
    (segments : List (List Event))
    → refused_config input.config ≡ None → made.reads ≡ [] → made.writes ≡ []
    → (c : Completes input limit made.server segments) → PrintsSession input limit made p
    → (p.text.items ≡ session_text c.sent (Ok (report_of input segments))) × (p.status ≡ 0)
completed_text_printed input limit made p segments clear reads writes c prints =
    let s = prints.session in
    let none : nat_lt 0 prints.faults ≡ false = s.fails ∙ rw (reads, writes) refl in
    completed_by input limit segments made.server prints.left prints.after p.text.items p.status prints.outcome
    (s.over.foreseen tt) c s.over.completed
    (s.over.reports tt clear made.server refl segments c (λ rose. absurd (grind (arith, nat_tests, none, rose))))
    prints.memory prints.text prints.status

-- what is printed of a connection text that was read, and of one that was refused
pub held : (s : Script) (config : Config) (r : Result Printed OutOfMemory) → HasOutcome s.config (Ok config)
    → ((other : Result Config ConfigError) → HasOutcome s.config other → IsConfigAnswer (Ok config) other)
    → IfOk r (PrintsOutcome s (Ok config)) → IfOk r (Holds s)
held s config (Ok p) has only prints = record { outcome = Ok config; has = has; only = only; prints = prints }
held s config (Err e) has only prints = tt

pub refused : (s : Script) (why : ConfigError) (e : PgWireClientError) (r : Result Printed OutOfMemory)
    → e ≡ of_config why → IsParsed s.config (Err why)
    → ((other : Result Config ConfigError) → HasOutcome s.config other → IsConfigAnswer (Err why) other)
    → OnOk r (e ≢ client.OutOfMemory) → IfOk r (λ p. Says p (session_text [] (Err e)) 1) → IfOk r (Holds s)
refused s why e (Ok p) same parsed only memory says =
    let other : why ≢ config_error.OutOfMemory = λ short. memory (same ∙ ap of_config short) in
    let told : Says p (session_text [] (Err (of_config why))) 1 =
    subst (λ (x : PgWireClientError). Says p (session_text [] (Err x)) 1) same says in
    record {
      outcome = Err why;
      has = parsed other;
      only = λ outcome has. only outcome has other;
      prints =
          (other, told);
    }
refused s why e (Err none) same parsed only memory says = tt
