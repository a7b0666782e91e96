-- Taking the messages at a buffer's front: how it goes on, and how it breaks off.
use Rattle.std.proofs.Common.{◌⊎◌, inl, inr, ◌≡◌, ◌<◌, ℕ, ◌+◌, List, [], ◌++◌, length, take, drop, true, Some, arith, refl, ◌∙◌, ap, sym, subst, append_assoc, length-append}
use Rattle.std.proofs.lemmas.List.{append-nil, take-append-drop, length-take-le}
use Rattle.pgw_link.specs.Tape.{Tape}
use Rattle.pgw_backend.specs.declared.client_error.PgWireClientError.{PgWireClientError as ClientError}
use Rattle.pgw_backend.specs.declared.client_error.PgWireClientError.TheVariants as client
use Rattle.pgw_machine.specs.Course.{Waits, Over, sent_of}
use Rattle.pgw_machine.proofs.CourseLaws.{sent_grows}
use Rattle.pgw_session.specs.declared.notes.Notes.{Notes}
use Rattle.pgw_session.specs.Input.{Input}
use Rattle.pgw_session.specs.Machine.{End, error_of, rules_by}
use Rattle.pgw_session.specs.Notes.{notes_book}
use Rattle.pgw_dialogue.specs.Wire.{Unless}
use Rattle.pgw_dialogue.proofs.MachineLaws.{begins_at}
use Rattle.pgw_dialogue.proofs.WireLaws.{memory_or}
use Rattle.pgw_dialogue.specs.Machine.{IsWholeEnd, NotesCourse, report_at, runs}
use Rattle.pgw_client.specs.SessionSteps.{Broke, ClientGoesOn, ClientSettles, memory, stopped}
use Rattle.pgw_link.specs.Sending.{Wrote, WroteSome}
use Rattle.pgw_machine.specs.Course.{Begins}
use Rattle.pgw_client.specs.SessionSteps as outcomes

-- a message is refused
pub refused : {input : Input} {old_notes notes : Notes} {old new : Tape} {old_buffer buffer : List ℕ}
    (e : ClientError)
    → ClientGoesOn input old_notes notes old new old_buffer buffer
    → Unless e ((end : End Notes) × (error_of end.outcome ≡ Some e) ×
    ((sent : List ℕ) → runs input notes sent buffer ≡ Over end sent))
    → Broke (runs input old_notes old.wrote old_buffer) old new e
refused {input} {old_notes} {notes} {old} {new} {old_buffer} {buffer} e going step = record {
  reads_nothing = going.reads_nothing;
  begins = begins_at input notes new.wrote buffer _ going.course;
  stopping =
      elim (memory_or e) [
        | inl is ↦ memory is
        | inr ne ↦ let s = step ne in stopped s.0 (going.course
            ∙ s.2 new.wrote) s.1
      ];
  flushed = λ no. going.flushed;
  no_shorter = going.no_shorter;
  writes = omega (arith, going.writes);
}

-- a write or the flush failed
pub unsent : {input : Input} {old_notes notes : Notes} {old mid new : Tape} {old_buffer buffer : List ℕ}
    (rest : List ℕ) (next : Notes) (out : List ℕ)
    → ClientGoesOn input old_notes notes old mid old_buffer buffer
    → ((sent : List ℕ) → runs input notes sent buffer ≡ runs input next (sent ++ out) rest)
    → 0 < length out → WroteSome mid new out
    → Broke (runs input old_notes old.wrote old_buffer) old new client.IoError
unsent {input} {old_notes} {notes} {old} {mid} {new} {old_buffer} {buffer} rest next out going step some wrote =
    let k = wrote.count in
    let course = runs input old_notes old.wrote old_buffer in
    let is : course ≡ runs input next (mid.wrote ++ out) rest = going.course ∙ step mid.wrote in
    let all = begins_at input next (mid.wrote ++ out) rest course is in
    let split : (mid.wrote ++ out) ++ all.0 ≡ new.wrote ++ (drop k out ++ all.0) =
    ap (λ (o : List ℕ). (mid.wrote ++ o) ++ all.0) (sym (take-append-drop k out))
    ∙ ap (λ (o : List ℕ). o ++ all.0) (sym (append_assoc mid.wrote (take k out) (drop k out)))
    ∙ append_assoc (mid.wrote ++ take k out) (drop k out) all.0
    ∙ ap (λ (w : List ℕ). w ++ (drop k out ++ all.0)) (sym wrote.wrote) in
    let r = wrote.reads_nothing in
    let q = going.reads_nothing in
    let len_wrote : length new.wrote ≡ length mid.wrote + k =
    ap length wrote.wrote ∙ length-append mid.wrote (take k out)
    ∙ ap (λ n. length mid.wrote + n) (length-take-le k out wrote.count_in) in
    let len_sent : length (sent_of course) ≡ length mid.wrote + length out + length all.0 =
    ap length all.1 ∙ length-append (mid.wrote ++ out) all.0
    ∙ ap (λ n. n + length all.0) (length-append mid.wrote out) in
    record {
      reads_nothing = record { took = r.took ∙ q.took; ended = r.ended ∙ q.ended; reads = r.reads ∙ q.reads };
      begins = (drop k out ++ all.0, all.1 ∙ split);
      flushed = λ no. absurd (no refl);
      stopping = outcomes.unsent refl (omega (arith, len_sent, wrote.flushed, going.flushed, some));
      no_shorter = omega (arith, going.no_shorter, len_wrote);
      writes = omega (arith, going.writes, wrote.writes, len_wrote);
    }

-- what was put out was sent
pub sent_on : {input : Input} {old_notes notes : Notes} {old mid new : Tape} {old_buffer buffer : List ℕ}
    (rest : List ℕ) (next : Notes) (out : List ℕ)
    → ClientGoesOn input old_notes notes old mid old_buffer buffer
    → ((sent : List ℕ) → runs input notes sent buffer ≡ runs input next (sent ++ out) rest)
    → Wrote mid new out → ClientGoesOn input old_notes next old new old_buffer rest
sent_on {input} {old_notes} {notes} {old} {mid} {new} rest next out going step wrote =
    let r = wrote.reads_nothing in
    let q = going.reads_nothing in
    let len : length new.wrote ≡ length mid.wrote + length out =
    ap length wrote.wrote ∙ length-append mid.wrote out in
    record {
      reads_nothing = record { took = r.took ∙ q.took; ended = r.ended ∙ q.ended; reads = r.reads ∙ q.reads };
      course = going.course ∙ step mid.wrote ∙ ap (λ (w : List ℕ). runs input next w rest) (sym wrote.wrote);
      flushed = wrote.flushed;
      no_shorter = omega (arith, going.no_shorter, len);
      writes = omega (arith, going.writes, wrote.writes, len);
    }

-- nothing was put out
pub silent_on : {input : Input} {old_notes notes : Notes} {old mid : Tape} {old_buffer buffer : List ℕ}
    (rest : List ℕ) (next : Notes) (out : List ℕ)
    → ClientGoesOn input old_notes notes old mid old_buffer buffer
    → ((sent : List ℕ) → runs input notes sent buffer ≡ runs input next (sent ++ out) rest)
    → out ≡ [] → ClientGoesOn input old_notes next old mid old_buffer rest
silent_on {input} {old_notes} {notes} {old} {mid} rest next out going step none = record {
  reads_nothing = going.reads_nothing;
  course =
      going.course ∙ step mid.wrote ∙ ap (λ (w : List ℕ). runs input next (mid.wrote ++ w) rest) none
      ∙ ap (λ (w : List ℕ). runs input next w rest) (append-nil mid.wrote);
  flushed = going.flushed;
  no_shorter = going.no_shorter;
  writes = going.writes;
}

-- the session is whole
pub whole : {input : Input} {old_notes notes : Notes} {old new : Tape} {old_buffer buffer : List ℕ}
    (rest : List ℕ) (after : Notes) (end : End Notes)
    → ClientGoesOn input old_notes notes old new old_buffer buffer
    → IsWholeEnd end (report_at after) → ((sent : List ℕ) → runs input notes sent buffer ≡ Over end sent)
    → ClientSettles input (runs input old_notes old.wrote old_buffer) after old new rest true
whole {input} {old_notes} {notes} {old} {new} rest after end going is step = record {
  reads_nothing = going.reads_nothing;
  came = (end, going.course ∙ step new.wrote, is);
  flushed = going.flushed;
  no_shorter = going.no_shorter;
  writes = going.writes;
}
