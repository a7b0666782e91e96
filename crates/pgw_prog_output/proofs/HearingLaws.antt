-- The messages of an answer, heard one after the other.
use Rattle.std.proofs.Common.{◌≡◌, ◌∙◌, ◌⊎◌, ◌<◌, ◌+◌, ℕ, List, [], ◌∷◌, ◌++◌, length, drop}
use Rattle.std.proofs.Common.{true, false, Option, Some, Result, Ok, Err, OnOk, OnErr, IfOk, IfErr, inl, inr}
use Rattle.std.proofs.Common.{refl, sym, ap, subst, append_assoc, arith, length-drop, length-append}
use Rattle.std.proofs.lemmas.List.{append-nil, drop-append-le}
use Rattle.std.proofs.lemmas.List.Elements.{All-append, All-nil, All-cons}
use Rattle.pgw_types.specs.declared.context.ProtocolVersion.{ProtocolVersion}
use Rattle.pgw_backend.specs.declared.backend.PgWireBackendMessage.{PgWireBackendMessage as Backend}
use Rattle.pgw_backend.specs.declared.client_error.PgWireClientError.{PgWireClientError as ClientError}
use Rattle.pgw_backend.specs.declared.client_error.PgWireClientError.TheVariants as client
use Rattle.pgw_types.specs.Counts.{Rose}
use Rattle.pgw_backend.specs.Front.{front, Whole}
use Rattle.pgw_backend.proofs.FrontLaws.{front_whole, front_whole_more}
use Rattle.pgw_prog_output.specs.declared.said.Said.{Said}
use Rattle.pgw_prog_output.specs.declared.said.Turn.{Turn}
use Rattle.pgw_prog_output.specs.declared.said.Turn.TheVariants as turn
use Rattle.pgw_prog_output.specs.declared.page.Stop.{Stop}
use Rattle.pgw_prog_output.specs.declared.page.Stop.TheVariants as stop
use Rattle.pgw_prog_output.specs.declared.asking.Halt.{Halt}
use Rattle.pgw_prog_output.specs.declared.asking.Halt.TheVariants as halt
use Rattle.pgw_prog_output.specs.Said.{said_all, said_rows_in, open_columns, opened_behind, said_turn}
use Rattle.pgw_prog_output.specs.Lines.{ServerLine, Stand, none, next, LineBytesCame, Calm, LineTakes, LineFills, NeedsBytes, IsDry, IsLost}
use Rattle.pgw_prog_output.specs.Lines.{unreadable, cut_off, unusable}
use Rattle.pgw_prog_output.specs.Answers.{columns_open, rest_text}
use Rattle.pgw_prog_output.specs.Pages.{Sheet, PrintsHeard, IsFront, HasStopped}
use Rattle.pgw_prog_output.specs.Asking.{AnswerGoesOn, AnswerEndsBy, CountsHalt, HearsAnswers, HaltsAt, LeavesAtHalt, PrintsAtHalt, Falls, hearing_weight}
use Rattle.pgw_prog_output.specs.Asking.{said_at}
use Rattle.pgw_prog_output.specs.Halting.{halt_of, halt_behind}
use Rattle.pgw_prog_output.proofs.PageLaws.{none_printed, prints_on, front_on}

-- ---- messages that stand one behind the other

-- more bytes behind them
stand_more : {v : ProtocolVersion} {bytes : List ℕ} {ms : List Backend} {rest : List ℕ} (more : List ℕ)
    → Stand v bytes ms rest → Stand v (bytes ++ more) ms (rest ++ more)
stand_more more (none b) = none (b ++ more)
stand_more {v} more (next b m len ms r f s) =
    let w = front_whole v b m len f in
    next (b ++ more) m len ms (r ++ more) (front_whole_more v b more m len f)
    (subst (λ (t : List ℕ). Stand v t ms (r ++ more)) (sym (drop-append-le len b more w.1)) (stand_more more s))

-- more messages behind them
stand_on : {v : ProtocolVersion} {a : List ℕ} {b : List ℕ} {c : List ℕ} {ms : List Backend} {ns : List Backend}
    → Stand v a ms b → Stand v b ns c → Stand v a (ms ++ ns) c
stand_on (none x) t = t
stand_on {v} {c = c} {ns = ns} (next x m len ms r f s) t = next x m len (ms ++ ns) c f (stand_on s t)

stand_between : {v : ProtocolVersion} (a first b second c : List ℕ) (ms ns : List Backend)
    → Stand v (a ++ first) ms b → Stand v (b ++ second) ns c → Stand v (a ++ (first ++ second)) (ms ++ ns) c
stand_between {v} a first b second c ms ns s t =
    subst (λ (x : List ℕ). Stand v x (ms ++ ns) c) (append_assoc a first second)
    (stand_on (stand_more second s) t)

came_on : (xs ys : List ℕ) (l m n : ServerLine) → LineBytesCame xs l m → LineBytesCame ys m n
    → LineBytesCame (xs ++ ys) l n
came_on xs ys l m n p q = record {
  came = q.came ∙ ap (λ (t : List ℕ). t ++ ys) p.came ∙ append_assoc l.came xs ys;
  sent = q.sent ∙ p.sent;
  version = q.version ∙ p.version;
}

-- ---- parts of an answer

ends_on : (t : Turn) (xs ys : List Said) → AnswerGoesOn xs → AnswerEndsBy t ys → AnswerEndsBy t (xs ++ ys)
ends_on t xs ys p q = record {
  front = xs ++ q.front;
  last = q.last;
  is = ap (λ (z : List Said). xs ++ z) q.is ∙ sym (append_assoc xs q.front (q.last ∷ []));
  goes_on = All-append (λ s. said_turn s ≡ turn.GoesOn) xs q.front p q.goes_on;
  ends = q.ends;
}

go_none : AnswerGoesOn []
go_none = All-nil (λ s. said_turn s ≡ turn.GoesOn)

halts_on : (why : Halt) (xs ys : List Said) → AnswerGoesOn xs → HaltsAt why ys → HaltsAt why (xs ++ ys)
halts_on halt.GoesOn xs ys p q = All-append (λ s. said_turn s ≡ turn.GoesOn) xs ys p q
halts_on halt.Lost xs ys p q = All-append (λ s. said_turn s ≡ turn.GoesOn) xs ys p q
halts_on halt.Ready xs ys p q = ends_on turn.Ready xs ys p q
halts_on halt.Misplaced xs ys p q = ends_on turn.Misplaced xs ys p q
halts_on (halt.Stopped why) xs ys p q = tt

printed_on : (why : Halt) (xs ys : List Said) (a b c : Sheet) → PrintsHeard xs a b → PrintsAtHalt why ys b c
    → PrintsAtHalt why (xs ++ ys) a c
printed_on halt.GoesOn xs ys a b c p q = prints_on xs ys a b c p q
printed_on halt.Lost xs ys a b c p q = prints_on xs ys a b c p q
printed_on halt.Ready xs ys a b c p q = prints_on xs ys a b c p q
printed_on halt.Misplaced xs ys a b c p q = prints_on xs ys a b c p q
printed_on (halt.Stopped why) xs ys a b c p q = front_on xs ys a b c.wrote p q

-- what messages are behind others
said_on : (o : Option ℕ) (xs ys : List Backend)
    → said_all o (xs ++ ys) ≡ said_all o xs ++ said_all (opened_behind o (said_all o xs)) ys
said_on o [] ys = refl
said_on o (x ∷ xs) ys = ap (λ (t : List Said). said_rows_in o x ∷ t) (said_on (open_columns o (said_rows_in o x)) xs ys)

said_behind : (a b : Sheet) (xs ys : List Backend) → PrintsHeard (said_at a xs) a b
    → said_at a (xs ++ ys) ≡ said_at a xs ++ said_at b ys
said_behind a b xs ys p = said_on (columns_open a.answer) xs ys
    ∙ ap (λ (o : Option ℕ). said_at a xs ++ said_all o ys) (sym p.open_is)

-- ---- what becomes of the line

calm : (l : ServerLine) → Calm l l
calm l = record { ended = refl; faults = refl; broken = refl }

calm_on : (l m n : ServerLine) → Calm l m → Calm m n → Calm l n
calm_on l m n p q = record {
  ended = q.ended ∙ p.ended;
  faults = q.faults ∙ p.faults;
  broken = q.broken ∙ p.broken;
}

dry_on : (e : ClientError) (l m n : ServerLine) → Calm l m → IsDry m n e → IsDry l n e
dry_on client.UnexpectedEOF l m n c d = d ∙ ap (λ (k : ℕ). k + 1) c.ended
dry_on client.IoError l m n c d = subst (λ (k : ℕ). Rose k n.faults) c.faults d
dry_on client.ReadLimit l m n c d = d
dry_on e l m n c d = absurd d

lost_on : (l m n : ServerLine) → Calm l m → IsLost m n → IsLost l n
lost_on l m n c (unreadable why is) = unreadable why is
lost_on l m n c (cut_off e awaits dry) = cut_off e awaits (dry_on e l m n c dry)
lost_on l m n c (unusable is) = unusable (sym c.broken ∙ is)

leaves_on : (why : Halt) (l m n : ServerLine) (rest : List ℕ) → Calm l m → LeavesAtHalt why m n rest
    → LeavesAtHalt why l n rest
leaves_on halt.GoesOn l m n rest c p = (p.0, calm_on l m n c p.1)
leaves_on halt.Ready l m n rest c p = (p.0, calm_on l m n c p.1)
leaves_on halt.Misplaced l m n rest c p = (p.0, calm_on l m n c p.1)
leaves_on halt.Lost l m n rest c p = (p.0, lost_on l m n c p.1)
leaves_on (halt.Stopped why) l m n rest c p = tt

-- one part behind another
pub hearing_on : (l m n : ServerLine) (a b c : Sheet) (why : Halt) → HearsAnswers l m a b halt.GoesOn
    → HearsAnswers m n b c why
    → HearsAnswers l n a c why
hearing_on l m n a b c why p q =
    let saids = said_behind a b p.messages q.messages p.prints in
    let one = said_at a p.messages in
    let two = said_at b q.messages in
    record {
      messages = p.messages ++ q.messages;
      bytes = p.bytes ++ q.bytes;
      rest = q.rest;
      came = came_on p.bytes q.bytes l m n p.came q.came;
      stand =
          let t : Stand m.version (p.rest ++ q.bytes) q.messages q.rest =
          subst (λ (x : List ℕ). Stand m.version (x
          ++ q.bytes) q.messages q.rest) (sym p.leaves.0) q.stand in
          let u : Stand l.version (p.rest ++ q.bytes) q.messages q.rest = subst (λ (v : ProtocolVersion). Stand v
          (p.rest ++ q.bytes) q.messages q.rest) p.came.version t in
          stand_between l.buffer p.bytes p.rest q.bytes q.rest p.messages q.messages p.stand u;
      leaves = leaves_on why l m n q.rest p.leaves.1 q.leaves;
      halts = subst (λ (t : List Said). HaltsAt why t) (sym saids) (halts_on why one two p.halts q.halts);
      prints =
          subst (λ (t : List Said). PrintsAtHalt why t a c) (sym saids) (printed_on why one two a b c p.prints
          q.prints);
    }

still : (l : ServerLine) → LineBytesCame [] l l
still l = record { came = sym (append-nil l.came); sent = refl; version = refl }

-- nothing was heard
pub heard_none : (l : ServerLine) (a : Sheet) → HearsAnswers l l a a halt.GoesOn
heard_none l a = record {
  messages = [];
  bytes = [];
  rest = l.buffer;
  came = still l;
  stand = subst (λ (t : List ℕ). Stand l.version t [] l.buffer) (sym (append-nil l.buffer)) (none l.buffer);
  leaves = (refl, calm l);
  halts = go_none;
  prints = none_printed a;
}

-- bytes came
pub waited : (old new : ServerLine) (a b : Sheet) → PrintsHeard [] a b → LineFills old new (Ok true)
    → HearsAnswers old new a b halt.GoesOn
waited old new a b p f = record {
  messages = [];
  bytes = f.bytes;
  rest = old.buffer ++ f.bytes;
  came = record {
    came = ap (λ (l : ServerLine). l.came) f.line;
    sent = ap (λ (l : ServerLine). l.sent) f.line;
    version = ap (λ (l : ServerLine). l.version) f.line;
  };
  stand = none (old.buffer ++ f.bytes);
  leaves = (
    sym (ap (λ (l : ServerLine). l.buffer) f.line),
    record {
      ended = ap (λ (l : ServerLine). l.ended) f.line;
      faults = ap (λ (l : ServerLine). l.faults) f.line;
      broken = ap (λ (l : ServerLine). l.broken) f.line;
    },
  );
  halts = go_none;
  prints = p;
}

pub waited_falls : (old new : ServerLine) → LineFills old new (Ok true) → hearing_weight new < hearing_weight old
waited_falls old new f =
    let size : length new.buffer ≡ length old.buffer + length f.bytes =
    ap (λ (l : ServerLine). length l.buffer) f.line
    ∙ length-append old.buffer f.bytes in
    omega (arith, f.some, f.left, size)

-- ---- nothing more is heard

-- nothing came, and what was not taken stays
stays : (old new x : ServerLine) → new ≡ x → x.came ≡ old.came → x.sent ≡ old.sent → x.version ≡ old.version
    → LineBytesCame [] old new
stays old new x is came sent version = record {
  came = ap (λ (l : ServerLine). l.came) is ∙ came ∙ sym (append-nil old.came);
  sent = ap (λ (l : ServerLine). l.sent) is ∙ sent;
  version = ap (λ (l : ServerLine). l.version) is ∙ version;
}

awaits_still : (old new : ServerLine) → new.version ≡ old.version → new.buffer ≡ old.buffer → NeedsBytes old
    → NeedsBytes new
awaits_still old new version buffer awaits = rw (version, buffer) awaits

lost_by : (old new : ServerLine) (a b : Sheet) → PrintsHeard [] a b → LineBytesCame [] old new
    → new.buffer ≡ old.buffer
    → IsLost old new → HearsAnswers old new a b halt.Lost
lost_by old new a b p came buffer lost = record {
  messages = [];
  bytes = [];
  rest = old.buffer ++ [];
  came = came;
  stand = none (old.buffer ++ []);
  leaves = (append-nil old.buffer ∙ sym buffer, lost);
  halts = go_none;
  prints = p;
}

-- no more bytes come
dry : (e : ClientError) (old new x : ServerLine) (a b : Sheet) → PrintsHeard [] a b → NeedsBytes old → new ≡ x
    → x.came ≡ old.came
    → x.sent ≡ old.sent → x.version ≡ old.version → x.buffer ≡ old.buffer → IsDry old new e
    → HearsAnswers old new a b halt.Lost
dry e old new x a b p awaits is came sent version buffer d =
    let same : new.buffer ≡ old.buffer = ap (λ (l : ServerLine). l.buffer) is ∙ buffer in
    let came = stays old new x is came sent version in
    lost_by old new a b p came same (cut_off e (awaits_still old new came.version same awaits) d)

pub ran_dry : (old new : ServerLine) (a b : Sheet) → PrintsHeard [] a b → NeedsBytes old
    → LineFills old new (Ok false)
    → HearsAnswers old new a b halt.Lost
ran_dry old new a b p awaits f =
    dry client.UnexpectedEOF old new (record old { ended = old.ended + 1 }) a b p awaits
    f refl refl refl refl (ap (λ (l : ServerLine). l.ended) f)

stopped_as : (why : Stop) (old new : ServerLine) (a b : Sheet) (bytes : List ℕ) → IsFront [] a b.wrote
    → LineBytesCame bytes old new → HearsAnswers old new a b (halt.Stopped why)
stopped_as why old new a b bytes f came = record {
  messages = [];
  bytes = bytes;
  rest = old.buffer ++ bytes;
  came = came;
  stand = none (old.buffer ++ bytes);
  leaves = tt;
  halts = tt;
  prints = f;
}

front_of : (a b : Sheet) → PrintsHeard [] a b → IsFront [] a b.wrote
front_of a b p = (
  b.waits ++ rest_text b.answer [],
  sym (append_assoc b.wrote b.waits (rest_text b.answer []))
      ∙ p.text [],
)

-- an error where more bytes were awaited
pub unfilled : (e : ClientError) (old new : ServerLine) (a b : Sheet) → PrintsHeard [] a b → NeedsBytes old
    → LineFills old new (Err e) → HearsAnswers old new a b (halt_behind e)
unfilled client.OutOfMemory old new a b p awaits f = stopped_as stop.Memory old new a b f.bytes (front_of a b p)
    (record {
      came = ap (λ (l : ServerLine). l.came) f.line;
      sent = ap (λ (l : ServerLine). l.sent) f.line;
      version = ap (λ (l : ServerLine). l.version) f.line;
    })
unfilled client.IoError old new a b p awaits f =
    dry client.IoError old new (record old { faults = new.faults; broken = true }) a b p awaits f.1 refl refl refl
    refl f.0
unfilled client.ReadLimit old new a b p awaits f =
    dry client.ReadLimit old new (record old { broken = true }) a b p awaits f.1 refl refl refl refl (ap (λ (l :
    ServerLine). l.left) f.1 ∙ f.0)
unfilled client.Broken old new a b p awaits f =
    lost_by old new a b p (stays old new old f.1 refl refl refl) (ap (λ (l : ServerLine). l.buffer) f.1)
    (unusable f.0)
unfilled e old new a b p awaits f = absurd f

-- an error where a message was looked for
pub untaken : (e : ClientError) (old new : ServerLine) (a b : Sheet) → PrintsHeard [] a b
    → LineTakes old new (Err e)
    → HearsAnswers old new a b (halt_behind e)
untaken client.OutOfMemory old new a b p t =
    stopped_as stop.Memory old new a b [] (front_of a b p) (stays old new (record old { broken = true }) t.1 refl
    refl refl)
untaken (client.PgWireError why) old new a b p t =
    let version : new.version ≡ old.version = ap (λ (l : ServerLine). l.version) t.1 in
    let buffer : new.buffer ≡ old.buffer = ap (λ (l : ServerLine). l.buffer) t.1 in
    lost_by old new a b p (stays old new (record old { broken = true }) t.1 refl refl refl) buffer
    (unreadable why (rw (version, buffer) t.0))
untaken client.Broken old new a b p t =
    lost_by old new a b p (stays old new (record old { broken = true }) t.1 refl refl refl)
    (ap (λ (l : ServerLine).
    l.buffer) t.1) (unusable t.0)
untaken e old new a b p t = absurd t.0

pub lost_falls : (e : ClientError) (old new : ServerLine) → Falls old new (halt_behind e)
lost_falls client.OutOfMemory old new is = absurd (cc)
lost_falls e old new is = absurd (cc)

-- printing stopped while nothing was heard
pub stopped_first : (why : Stop) (l : ServerLine) (a b : Sheet) → IsFront [] a b.wrote
    → HearsAnswers l l a b (halt.Stopped why)
stopped_first why l a b f = stopped_as why l l a b [] f (still l)

-- ---- a message

one_stands : (old : ServerLine) (m : Backend) (len : ℕ) → front old.version old.buffer ≡ Whole m len
    → Stand old.version (old.buffer ++ []) (m ∷ []) (drop len old.buffer)
one_stands old m len f =
    subst (λ (t : List ℕ). Stand old.version t (m ∷ []) (drop len old.buffer)) (sym (append-nil
    old.buffer))
    (next old.buffer m len [] (drop len old.buffer) f (none (drop len old.buffer)))

taken_came : (old new : ServerLine) (len : ℕ) → new ≡ record old { buffer = drop len old.buffer }
    → LineBytesCame [] old new
taken_came old new len e = record {
  came = ap (λ (l : ServerLine). l.came) e ∙ sym (append-nil old.came);
  sent = ap (λ (l : ServerLine). l.sent) e;
  version = ap (λ (l : ServerLine). l.version) e;
}

taken_calm : (old new : ServerLine) (len : ℕ) → new ≡ record old { buffer = drop len old.buffer } → Calm old new
taken_calm old new len e = record {
  ended = ap (λ (l : ServerLine). l.ended) e;
  faults = ap (λ (l : ServerLine). l.faults) e;
  broken = ap (λ (l : ServerLine). l.broken) e;
}

one_as : (why : Halt) (old new : ServerLine) (a b : Sheet) (m : Backend) → LineTakes old new (Ok (Some m))
    → ((rest : List ℕ) → rest ≡ new.buffer → Calm old new → LeavesAtHalt why old new rest)
    → HaltsAt why (said_at a (m ∷ [])) → PrintsAtHalt why (said_at a (m ∷ [])) a b → HearsAnswers old new a b why
one_as why old new a b m t leaves halts prints = record {
  messages = m ∷ [];
  bytes = [];
  rest = drop t.0 old.buffer;
  came = taken_came old new t.0 t.2;
  stand = one_stands old m t.0 t.1;
  leaves =
      leaves (drop t.0 old.buffer) (sym (ap (λ (l : ServerLine). l.buffer) t.2)) (taken_calm old new t.0 t.2);
  halts = halts;
  prints = prints;
}

ends_one : (t : Turn) (s : Said) → said_turn s ≡ t → AnswerEndsBy t (s ∷ [])
ends_one t s e = record { front = []; last = s; is = refl; goes_on = go_none; ends = e }

-- a message was taken, and printing stopped before it was heard, or behind it
stopped_at : (why : Stop) (old new : ServerLine) (a b : Sheet) (m : Backend) → LineTakes old new (Ok (Some m))
    → (IsFront [] a b.wrote ⊎ IsFront (said_at a (m ∷ [])) a b.wrote)
    → HearsAnswers old new a b (halt.Stopped why)
stopped_at why old new a b m t (inl f) = stopped_as why old new a b [] f (taken_came old new t.0 t.2)
stopped_at why old new a b m t (inr f) = one_as (halt.Stopped why) old new a b m t (λ rest e c. tt) tt f

-- what a message comes to
pub heard_one : (heard : Result Turn Stop) (old new : ServerLine) (a b : Sheet) (m : Backend)
    → LineTakes old new (Ok (Some m))
    → IfOk heard (λ t. t ≡ said_turn (said_rows_in (columns_open a.answer) m))
    → OnOk heard (PrintsHeard (said_rows_in (columns_open a.answer) m ∷ []) a b)
    → OnErr heard (IsFront [] a b.wrote ⊎ IsFront (said_rows_in (columns_open a.answer) m ∷ []) a b.wrote)
    → HearsAnswers old new a b (halt_of heard)
heard_one (Ok turn.GoesOn) old new a b m t is p f =
    one_as halt.GoesOn old new a b m t (λ rest e c. (e, c)) (All-cons
    (λ s. said_turn s ≡ turn.GoesOn) (said_rows_in (columns_open a.answer) m) [] (sym is) go_none) p
heard_one (Ok turn.Ready) old new a b m t is p f =
    one_as halt.Ready old new a b m t (λ rest e c. (e, c)) (ends_one
    turn.Ready (said_rows_in (columns_open a.answer) m) (sym is)) p
heard_one (Ok turn.Misplaced) old new a b m t is p f = one_as halt.Misplaced old new a b m t (λ rest e c. (e, c))
    (ends_one turn.Misplaced (said_rows_in (columns_open a.answer) m) (sym is)) p
heard_one (Err why) old new a b m t is p f = stopped_at why old new a b m t f

pub one_falls : (old new : ServerLine) (m : Backend) (why : Halt) → LineTakes old new (Ok (Some m))
    → Falls old new why
one_falls old new m why t is =
    let w = front_whole old.version old.buffer m t.0 t.1 in
    let left : new.left ≡ old.left = ap (λ (l : ServerLine). l.left) t.2 in
    let size : length new.buffer ≡ length (drop t.0 old.buffer) = ap (λ (l : ServerLine). length l.buffer) t.2 in
    omega (arith, w.0, w.1, left, size, length-drop t.0 old.buffer)

pub heard_counts : (heard : Result Turn Stop) (before now : ℕ) → OnOk heard (now ≡ before)
    → IfErr heard (HasStopped before now) → CountsHalt before now (halt_of heard)
heard_counts (Ok turn.GoesOn) before now same stops = same
heard_counts (Ok turn.Ready) before now same stops = same
heard_counts (Ok turn.Misplaced) before now same stops = same
heard_counts (Err why) before now same stops = stops
