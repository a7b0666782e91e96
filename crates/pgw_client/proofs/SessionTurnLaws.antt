-- How a session over a link goes on with a read, and how it ends.
use Rattle.std.proofs.Common.{◌≡◌, ◌<◌, ◌≤◌, ℕ, ◌+◌, List, [], ◌∷◌, ◌++◌, length, Option, Ok, Err, Bool, true, false, inl, inr, arith, refl, ◌∙◌, ap, sym, subst, append_assoc, length-append}
use Rattle.std.proofs.lemmas.List.{append-nil, nil_from_length}
use Rattle.std.specs.Io.KnownBytes.{Keeps}
use Rattle.std.specs.Prelude.{IsSome}
use Rattle.pgw_link.specs.Tape.{Tape, Took, LinkFails}
use Rattle.pgw_link.specs.Foresight.{TapeEnds, Foreseen}
use Rattle.pgw_link.proofs.LogLaws.{ends_further, ends_on, foreseen_kept, foreseen_on}
use Rattle.pgw_backend.specs.Front.{front, More}
use Rattle.pgw_backend.specs.declared.client_error.PgWireClientError.{PgWireClientError as ClientError}
use Rattle.pgw_backend.specs.declared.client_error.PgWireClientError.TheVariants as client
use Rattle.pgw_machine.specs.Course.{Waits, run, sent_of}
use Rattle.pgw_machine.proofs.CourseLaws.{run_append, run_more}
use Rattle.pgw_session.specs.declared.notes.Notes.{Notes}
use Rattle.pgw_session.specs.Input.{Input}
use Rattle.pgw_session.specs.Machine.{rules_by}
use Rattle.pgw_session.specs.Notes.{notes_book}
use Rattle.pgw_session.proofs.ReadingLaws.{reads_more, steady_by}
use Rattle.pgw_dialogue.specs.Wire.{Unless}
use Rattle.pgw_dialogue.specs.Machine.{NotesCourse, notes_end, runs}
use Rattle.pgw_client.specs.SessionSteps.{Broke, ClientSettles, SessionCameTo, Reading, Conversed, Paused, FillFails, failed, memory, at_limit, at_end}
use Rattle.pgw_link.specs.Sending.{ReadsNothing}
use Rattle.pgw_machine.specs.Course.{CourseWaits}
use Rattle.pgw_client.specs.SessionSteps as outcomes
use Rattle.pgw_dialogue.proofs.MachineLaws.{begins_at}
use Rattle.pgw_dialogue.proofs.WireLaws.{memory_or}

-- ---- the link's end

-- a read came to it where the course waits, or brought bytes
paused_at : (course : NotesCourse) (old mid new : Tape) (piece : List ℕ) → Took mid new piece
    → mid.ended ≡ old.ended → mid.flushed ≡ length mid.wrote → (length piece ≡ 0 → CourseWaits course new.wrote)
    → Paused course new.wrote old new
paused_at course old mid new [] moved not flushed waiting =
    let all = flushed ∙ ap length (sym moved.wrote) in
    inr (
      moved.ended refl ∙ ap (λ (e : List ℕ). e ++ mid.flushed ∷ []) not
          ∙ ap (λ (n : ℕ). old.ended ++ n ∷ []) all,
      waiting refl,
    )
paused_at course old mid new (b ∷ piece) moved not flushed waiting = inl (moved.goes_on (omega arith) ∙ not)

-- what a read took is taken behind what was taken before
took_on : {mid new : Tape} {piece : List ℕ} (old : Tape) (taken : List ℕ) → mid.took ≡ old.took ++ taken
    → Took mid new piece → new.took ≡ old.took ++ (taken ++ piece)
took_on {mid} {new} {piece} old taken was moved =
    moved.took ∙ ap (λ (t : List ℕ). t ++ piece) was ∙ append_assoc old.took taken piece

-- ---- what was foreseen

-- calls that read nothing
pub foreseen_quiet : (a b c : Option (List ℕ)) (t u v : Tape) → Foreseen a b t u → Keeps b c → ReadsNothing u v
    → Foreseen a c t v
foreseen_quiet a b c t u v f k r = foreseen_on a b c t u v f (foreseen_kept b c u v r.took k)

pub ends_quiet : (a b : Option (List ℕ)) (t u v : Tape) → IsSome a → TapeEnds a t u → Keeps a b → ReadsNothing u v
    → TapeEnds b t v
ends_quiet a b t u v some e k r =
    ends_further a b t u v some e (foreseen_kept a b u v r.took k) (ends_on b u v r.ended)

-- ---- between reads

-- the messages at the buffer's front were taken
pub settled : {input : Input} {old_notes notes next : Notes} {old mid new : Tape} {buffer rest : List ℕ}
    {count : ℕ} (done : Bool)
    → Reading input old_notes notes old mid buffer count → done ≡ false
    → ClientSettles input (runs input notes mid.wrote buffer) next mid new rest done
    → Reading input old_notes next old new rest count × (front next.standing.version rest ≡ More)
settled {input} {old_notes} {notes} {next} {old} {mid} {new} {buffer} {rest} {count} done reading not_done s =
    let came =
    subst (λ d. SessionCameTo input (runs input notes mid.wrote buffer) next new.wrote rest d) not_done s.came
    in
    let r = s.reads_nothing in (
      record {
        taken = reading.taken;
        counts = reading.counts;
        took = r.took ∙ reading.took;
        course = reading.course ∙ came.0;
        flushed = s.flushed;
        reads = omega (arith, reading.reads, r.reads);
        no_shorter = omega (arith, reading.no_shorter, s.no_shorter);
        writes = omega (arith, reading.writes, s.writes);
        not_ended = r.ended ∙ reading.not_ended;
      },
      came.1,
    )

-- the course waits
waits : {input : Input} {old_notes notes : Notes} {old new : Tape} {buffer : List ℕ} {count : ℕ}
    → (reading : Reading input old_notes notes old new buffer count) → front notes.standing.version buffer ≡ More
    → runs input old_notes old.wrote reading.taken ≡ Waits notes new.wrote buffer
waits {input} {old_notes} {notes} {old} {new} {buffer} reading more =
    reading.course
    ∙ run_more (rules_by notes_book input) (steady_by notes_book input) notes new.wrote buffer
    (reads_more notes.standing.version buffer more)

-- taking them broke off
pub broke : {input : Input} {old_notes notes : Notes} {old mid new : Tape} {buffer : List ℕ} {count : ℕ}
    (next : Notes) (limit : ℕ) (e : ClientError)
    → Reading input old_notes notes old mid buffer count → count ≤ limit
    → Broke (runs input notes mid.wrote buffer) mid new e
    → Conversed input old_notes next limit old new (Err e)
broke {input} {old_notes} {notes} {old} {mid} {new} {buffer} {count} next limit e reading within b =
    let r = b.reads_nothing in
    let all = subst (λ c. Broke c mid new e) (sym reading.course) b in
    record {
      taken = reading.taken;
      took = r.took ∙ reading.took;
      within = omega (arith, reading.counts);
      answered = record { begins = all.begins; reason = failed all.stopping };
      flushed = λ no. b.flushed (λ io. no (ap Err io));
      reads = omega (arith, reading.reads, r.reads);
      no_shorter = omega (arith, reading.no_shorter, b.no_shorter);
      writes = omega (arith, reading.writes, b.writes);
      paused = inl (r.ended ∙ reading.not_ended);
    }

-- the session was whole
pub finished : {input : Input} {old_notes notes next : Notes} {old mid new : Tape} {buffer rest : List ℕ}
    {count : ℕ} (limit : ℕ) (done : Bool) (answer : Unit {0})
    → Reading input old_notes notes old mid buffer count → count ≤ limit → done ≡ true
    → ClientSettles input (runs input notes mid.wrote buffer) next mid new rest done
    → Conversed input old_notes next limit old new (Ok answer)
finished {input} {old_notes} {notes} {next} {old} {mid} {new} {buffer} {rest} {count} limit done answer reading
    within is_done s =
    let came =
    subst (λ d. SessionCameTo input (runs input notes mid.wrote buffer) next new.wrote rest d) is_done s.came
    in
    let r = s.reads_nothing in
    record {
      taken = reading.taken;
      took = r.took ∙ reading.took;
      within = omega (arith, reading.counts);
      answered = (came.0, reading.course ∙ came.1, came.2);
      flushed = λ no. s.flushed;
      reads = omega (arith, reading.reads, r.reads);
      no_shorter = omega (arith, reading.no_shorter, s.no_shorter);
      writes = omega (arith, reading.writes, s.writes);
      paused = inl (r.ended ∙ reading.not_ended);
    }

-- an answer while the course waits, with nothing moved since
pub waited : {input : Input} {old_notes notes : Notes} {old new : Tape} {buffer : List ℕ} {count : ℕ}
    (next : Notes) (limit : ℕ)
    → Reading input old_notes notes old new buffer count → front notes.standing.version buffer ≡ More
    → count ≡ limit → Conversed input old_notes next limit old new (Err client.ReadLimit)
waited {input} {old_notes} {notes} {old} {new} {buffer} {count} next limit reading more at =
    let w = waits reading more in
    record {
      taken = reading.taken;
      took = reading.took;
      within = omega (arith, reading.counts, at);
      answered = record {
        begins = ([], ap sent_of w ∙ sym (append-nil new.wrote));
        reason = at_limit refl (notes, buffer, w) (reading.counts ∙ at);
      };
      flushed = λ no. reading.flushed;
      reads = omega (arith, reading.reads);
      no_shorter = reading.no_shorter;
      writes = omega (arith, reading.writes);
      paused = inl reading.not_ended;
    }

-- ---- a read

-- it brought bytes
took : {input : Input} {old_notes notes : Notes} {old mid new : Tape} {buffer : List ℕ} {count : ℕ}
    (piece : List ℕ)
    → (reading : Reading input old_notes notes old mid buffer count) → Took mid new piece
    → runs input old_notes old.wrote (reading.taken ++ piece) ≡ runs input notes new.wrote (buffer ++ piece)
took {input} {old_notes} {notes} {old} {mid} {new} {buffer} piece reading moved =
    let rules = rules_by notes_book input in
    run_append rules (Waits old_notes old.wrote []) reading.taken piece
    ∙ ap (λ c. run rules c piece) reading.course
    ∙ sym (run_append rules (Waits notes mid.wrote []) buffer piece)
    ∙ ap (λ (w : List ℕ). runs input notes w (buffer ++ piece)) (sym moved.wrote)

pub read_on : {input : Input} {old_notes notes : Notes} {old mid new : Tape} {buffer now : List ℕ} {count : ℕ}
    (piece : List ℕ) (n : ℕ)
    → Reading input old_notes notes old mid buffer count → Took mid new piece → length piece ≡ n → 0 < n
    → now ≡ buffer ++ piece
    → Reading input old_notes notes old new now (count + n)
read_on {input} {old_notes} {notes} {old} {mid} {new} {buffer} {now} {count} piece n reading moved len some now_is
    = record {
      taken = reading.taken ++ piece;
      counts = omega (arith, length-append reading.taken piece, reading.counts, len);
      took = took_on old reading.taken reading.took moved;
      course = took piece reading moved ∙ ap (λ (b : List ℕ). runs input notes new.wrote b) (sym now_is);
      flushed = moved.flushed ∙ reading.flushed ∙ ap length (sym moved.wrote);
      reads = omega (arith, reading.reads, moved.reads, length-append reading.taken piece, len, some);
      no_shorter = omega (arith, reading.no_shorter, ap length moved.wrote);
      writes = omega (arith, reading.writes, moved.writes, ap length moved.wrote);
      not_ended = moved.goes_on (omega (arith, len, some)) ∙ reading.not_ended;
    }

-- it failed
unread_io : {input : Input} {old_notes notes : Notes} {old mid new : Tape} {buffer : List ℕ} {count : ℕ}
    (next : Notes) (limit : ℕ) (e : ClientError)
    → Reading input old_notes notes old mid buffer count → front notes.standing.version buffer ≡ More
    → count ≤ limit → e ≡ client.IoError → LinkFails mid new (mid.reads + 1) mid.writes
    → Conversed input old_notes next limit old new (Err e)
unread_io {input} {old_notes} {notes} {old} {mid} {new} {buffer} {count} next limit e reading more within is_io
    fault =
    let w = waits reading more ∙ ap (λ (o : List ℕ). Waits notes o buffer) (sym fault.wrote) in
    record {
      taken = reading.taken;
      took = fault.took ∙ reading.took;
      within = omega (arith, reading.counts);
      answered = record {
        begins = ([], ap sent_of w ∙ sym (append-nil new.wrote));
        reason = outcomes.unread is_io (notes, buffer, w);
      };
      flushed = λ no. absurd (no (ap Err is_io));
      reads = omega (arith, reading.reads, fault.reads);
      no_shorter = omega (arith, reading.no_shorter, ap length fault.wrote);
      writes = omega (arith, reading.writes, fault.writes, ap length fault.wrote);
      paused = inl (fault.ended ∙ reading.not_ended);
    }

-- where it brought nothing, the course waits as before
still_waits : {input : Input} {old_notes notes : Notes} {old mid new : Tape} {buffer : List ℕ} {count : ℕ}
    (piece : List ℕ)
    → (reading : Reading input old_notes notes old mid buffer count) → front notes.standing.version buffer ≡ More
    → Took mid new piece → length piece ≡ 0
    → runs input old_notes old.wrote (reading.taken ++ piece) ≡ Waits notes new.wrote buffer
still_waits {input} {old_notes} {notes} {old} {mid} {new} {buffer} piece reading more moved none =
    ap (λ (p : List ℕ). runs input old_notes old.wrote (reading.taken ++ p)) (nil_from_length piece none)
    ∙ ap (runs input old_notes old.wrote) (append-nil reading.taken)
    ∙ waits reading more
    ∙ ap (λ (o : List ℕ). Waits notes o buffer) (sym moved.wrote)

-- its bytes could not be kept
unkept : {input : Input} {old_notes notes : Notes} {old mid new : Tape} {buffer : List ℕ} {count : ℕ}
    (next : Notes) (limit : ℕ) (e : ClientError) (piece : List ℕ)
    → Reading input old_notes notes old mid buffer count → front notes.standing.version buffer ≡ More
    → count + length piece ≤ limit → e ≡ client.OutOfMemory → Took mid new piece
    → Conversed input old_notes next limit old new (Err e)
unkept {input} {old_notes} {notes} {old} {mid} {new} {buffer} {count} next limit e piece reading more within is
    moved = record {
      taken = reading.taken ++ piece;
      took = took_on old reading.taken reading.took moved;
      within = omega (arith, length-append reading.taken piece, reading.counts);
      answered = record {
        begins = begins_at input notes new.wrote (buffer ++ piece) _ (took piece reading moved);
        reason = failed (memory is);
      };
      flushed = λ no. moved.flushed ∙ reading.flushed ∙ ap length (sym moved.wrote);
      reads = omega (arith, reading.reads, moved.reads, length-append reading.taken piece);
      no_shorter = omega (arith, reading.no_shorter, ap length moved.wrote);
      writes = omega (arith, reading.writes, moved.writes, ap length moved.wrote);
      paused =
          paused_at _ old mid new piece moved reading.not_ended reading.flushed
          (λ none. (notes, buffer, still_waits piece reading more moved none));
    }

-- it came to the link's end
pub ended : {input : Input} {old_notes notes : Notes} {old mid new : Tape} {buffer : List ℕ} {count : ℕ}
    (next : Notes) (limit : ℕ) (piece : List ℕ) (e : ClientError)
    → Reading input old_notes notes old mid buffer count → front notes.standing.version buffer ≡ More
    → count < limit → Took mid new piece → length piece ≡ 0 → Unless e (e ≡ notes_end notes)
    → Conversed input old_notes next limit old new (Err e)
ended {input} {old_notes} {notes} {old} {mid} {new} {buffer} {count} next limit piece e reading more within moved
    none is =
    let w = still_waits piece reading more moved none in
    record {
      taken = reading.taken ++ piece;
      took = took_on old reading.taken reading.took moved;
      within = omega (arith, length-append reading.taken piece, reading.counts, within, none);
      answered = record {
        begins = ([], ap sent_of w ∙ sym (append-nil new.wrote));
        reason = elim (memory_or e) [
          | inl lack ↦ failed (memory lack)
          | inr ne ↦
              at_end notes buffer w
              (record {
                below = omega (arith, length-append reading.taken piece, reading.counts, within, none);
                asked = (
                  mid.flushed,
                  moved.ended none
                      ∙ ap (λ (e : List ℕ). e ++ mid.flushed ∷ []) reading.not_ended,
                );
              })
              (is ne)
        ];
      };
      flushed = λ no. moved.flushed ∙ reading.flushed ∙ ap length (sym moved.wrote);
      reads = omega (arith, reading.reads, moved.reads, length-append reading.taken piece);
      no_shorter = omega (arith, reading.no_shorter, ap length moved.wrote);
      writes = omega (arith, reading.writes, moved.writes, ap length moved.wrote);
      paused = paused_at _ old mid new piece moved reading.not_ended reading.flushed (λ same. (notes, buffer, w));
    }

-- it failed, or its bytes could not be kept
pub unread : {input : Input} {old_notes notes : Notes} {old mid new : Tape} {buffer : List ℕ} {count : ℕ}
    (next : Notes) (limit room : ℕ) (e : ClientError)
    → Reading input old_notes notes old mid buffer count → front notes.standing.version buffer ≡ More
    → count + room ≤ limit → FillFails mid new room e
    → Conversed input old_notes next limit old new (Err e)
unread next limit room e reading more within (inl fault) =
    unread_io next limit e reading more (omega arith) fault.0 fault.1
unread next limit room e reading more within (inr kept) =
    unkept next limit e kept.1 reading more (omega (arith, kept.2)) kept.0 kept.3
