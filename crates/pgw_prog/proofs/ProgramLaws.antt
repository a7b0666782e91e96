-- What the program prints of a script that completes its session.
use Rattle.std.proofs.Common.{◌≡◌, true, false, ◌≤◌, ℕ, ◌+◌, List, [], ◌++◌, Result, length, length-take, take, refl, sym, ap, subst, ◌∙◌, inl, inr, Ok, Err, arith}
use Rattle.std.specs.Result.{IfOk}
use Rattle.std.proofs.lemmas.List.{append-nil, append_cancel_left, length-append}
use Rattle.pgw_types.specs.declared.memory.OutOfMemory.{OutOfMemory}
use Rattle.pgw_session.specs.Events.{Event}
use Rattle.pgw_prog_script.specs.declared.script.Script.{Script}
use Rattle.pgw_prog.specs.declared.printed.Printed.{Printed}
use Rattle.pgw_prog_script.specs.Script.{session_form}
use Rattle.pgw_link.specs.Memory.{Making}
use Rattle.pgw_link.specs.Stream.{SinkTape}
use Rattle.pgw_types.specs.Counts.{Rose}
use Rattle.pgw_types.specs.declared.config_error.ConfigError.{ConfigError}
use Rattle.pgw_backend.specs.ClientError.{of_config}
use Rattle.pgw_backend.specs.declared.client_error.PgWireClientError.TheVariants as client
use Rattle.pgw_config.specs.declared.config.Config.{Config}
use Rattle.pgw_prog_sessions.specs.SessionText.{session_text}
use Rattle.pgw_prog.specs.Held.{PrintsSession, PrintsOutcome, Holds, CanComplete, NamesCall, IsNear, FailsNear, script_input, script_making, completed_text}
use Rattle.pgw_prog.specs.declared.command.Command.{Command}
use Rattle.pgw_prog.specs.declared.command.Command.TheVariants as kind
use Rattle.pgw_prog.specs.declared.program.ScriptKind.TheVariants as scripts_of
use Rattle.pgw_prog.specs.Command.{reads_source}
use Rattle.pgw_prog.specs.declared.program.Stop.TheVariants as stop
use Rattle.pgw_prog.specs.Connected.{DialSpan, LeavesDialer}
use Rattle.pgw_prog.specs.Transfer.{SourceSpan, SinkSpan, TookFront, TookWhole, WroteWhole, WroteSinkFront}
use Rattle.pgw_prog.specs.Program.{PrintsCommand, AnswersScript, Completing, CountsStop, ListsFailure, ProgramRan}
use Rattle.pgw_prog.proofs.ConnectLaws.{report_written, io_written}
use Rattle.pgw_prog.proofs.GenLaws.{generates}
use Rattle.pgw_prog.proofs.KindLaws.{script_prints}
use Rattle.pgw_prog.proofs.PairLaws.{pair_written}
use Rattle.pgw_prog.proofs.RelayLaws.{relay_written}
use Rattle.pgw_prog.proofs.PoolLaws.{pool_written}
use Rattle.pgw_prog.proofs.PassfileLaws.{passfile_written}
use Rattle.pgw_prog.proofs.SecretLaws.{secret_written}
use Rattle.pgw_prog.proofs.TextLaws.{io_text, not_io, not_sent, no_line}
use Rattle.pgw_prog.proofs.HeldLaws.{completed_text_printed}

-- the one outcome is the configuration whose session completes
outcome_completes : (s : Script) (segments : List (List Event)) (can : CanComplete s segments) (p : Printed)
    (outcome : Result Config ConfigError)
    → Ok can.config ≡ outcome → PrintsOutcome s outcome p
    → (p.text.items ≡ completed_text s segments can) × (p.status ≡ 0)
outcome_completes s segments can p (Ok config) same prints =
    let is : config ≡ can.config = cc in
    let prints_it =
    subst (λ (c : Config). PrintsSession (script_input s c) s.limit (script_making s) p) is prints in
    completed_text_printed (script_input s can.config) s.limit (script_making s) p segments can.clear can.no_reads
    can.no_writes can.completes prints_it
outcome_completes s segments can p (Err e) same prints = cc

pub completes : (source : SourceSpan) (text : List ℕ) (script : Script) (segments : List (List Event))
    (c : Completing text script segments) (p : Printed)
    → TookWhole source.old source.new text → AnswersScript scripts_of.Session source p
    → (p.text.items ≡ completed_text script segments c.can) × (p.status ≡ 0)
completes source text script segments c p whole answers =
    let holds =
    script_prints session_form Holds scripts_of.Session (λ t q h. h) source text script p whole c.is_script
    answers in
    outcome_completes script segments c.can p holds.outcome (holds.only (Ok c.can.config) c.can.means)
    holds.prints

-- a listed call is among as many calls, or more
named_more : (numbers : List ℕ) (few most : ℕ) → few ≤ most → NamesCall numbers few → NamesCall numbers most
named_more numbers few most more named =
    (named.0, named.1, named.2, named.3, (named.4.0, omega (arith, named.4.1, more)))

near_whole : (made : Making) (taken whole a b : List ℕ) → length taken ≤ length whole → length a ≡ length b
    → IsNear made taken a → IsNear made whole b
near_whole made taken whole a b more same (inl reads) =
    inl (named_more made.reads (length taken + 1) (length whole + 1) (omega (arith, more)) reads)
near_whole made taken whole a b more same (inr writes) =
    inr (named_more made.writes (length a + 1) (length b + 1) (omega (arith, same)) writes)

-- a refusal is no error of the link
held_listed : (s : Script) (sent : List ℕ) (p : Printed) (outcome : Result Config ConfigError)
    → PrintsOutcome s outcome p → p.text.items ≡ session_text sent (Err client.IoError) → FailsNear s sent
held_listed s sent p (Ok config) h is =
    let told = io_text h.after.wrote sent h.outcome (sym h.text ∙ is) in
    let known = h.session.over.foreseen tt in
    let all : s.server ≡ h.after.took ++ h.left =
    known.consumes ∙ ap (λ (t : List ℕ). t ++ h.left) (sym known.took) in
    let sizes = ap length all ∙ length-append h.after.took h.left in
    near_whole (script_making s) h.after.took s.server h.after.wrote sent (omega (arith, sizes)) told.0
    (h.session.io_near told.1)
held_listed s sent p (Err e) h is =
    let told = io_text [] sent (Err (of_config e)) (sym (h.1).0 ∙ is) in
    let both = told.1 in
    let io : of_config e ≡ client.IoError = cc in
    absurd (not_io e io)

-- the text of a session that the link failed is that of a script that lists a call near to it
pub listed : (source : SourceSpan) (sent : List ℕ) (p : Printed) → AnswersScript scripts_of.Session source p
    → p.text.items ≡ session_text sent (Err client.IoError) → ListsFailure source.old source.new sent
listed source sent p (inl long) is = absurd (not_sent sent client.IoError (sym (long.1).0 ∙ is))
listed source sent p (inr (text, whole, inl (script, in_grammar, holds))) is =
    (text, whole, script, in_grammar, held_listed script sent p holds.outcome holds.prints is)
listed source sent p (inr (text, whole, inr (n, fault, says))) is =
    absurd (no_line sent _ client.IoError (sym says.0 ∙ is))

-- ---- how a run ends

-- a dialer that is as it was
pub leaves_same : (nonce : List ℕ) (command : Command) (dialer : DialSpan) → dialer.same
    → LeavesDialer nonce command dialer
leaves_same nonce (kind.Connect asked) dialer same = inl same
leaves_same nonce kind.Help dialer same = same
leaves_same nonce kind.Version dialer same = same
leaves_same nonce kind.Script dialer same = same
leaves_same nonce kind.Pair dialer same = same
leaves_same nonce kind.Relay dialer same = same
leaves_same nonce kind.Pool dialer same = same
leaves_same nonce (kind.Gen rows start) dialer same = same
leaves_same nonce (kind.Secret asked) dialer same = same
leaves_same nonce (kind.Passfile asked) dialer same = same
leaves_same nonce kind.Usage dialer same = same

module _ (help version nonce words : List ℕ) (command : Command) (source : SourceSpan) (sink : SinkSpan)
    (dialer : DialSpan) where
  answers_at : (k : Command) (p : Printed) → command ≡ k
      → PrintsCommand help version nonce words source dialer command p
      → PrintsCommand help version nonce words source dialer k p
  answers_at k p is answers =
      subst (λ (c : Command). PrintsCommand help version nonce words source dialer c p) is answers

  -- a command of this kind reads nothing
  unread_by : (k : Command) → command ≡ k → reads_source k ≡ false → reads_source command ≡ true → ⊥
  unread_by k is off on =
      let same : reads_source command ≡ reads_source k = ap (λ (c : Command). reads_source c) is in
      cc

  -- the whole text was written
  pub ran_written : (p : Printed) → PrintsCommand help version nonce words source dialer command p
      → source.now ≡ source.before → TookFront source → (reads_source command ≡ false → source.same)
      → dialer.before ≤ dialer.now → LeavesDialer nonce command dialer
      → WroteWhole sink.old sink.new p.text.items → sink.now ≡ sink.before
      → ProgramRan help version nonce words command source sink dialer p.status
  ran_written p answers read took unread later leaves whole quiet = record {
    status_in = omega (arith, p.bound);
    prints = λ low. record { printed = p; answers = answers; wrote = whole.wrote; ends = refl };
    fault = λ three. absurd (omega (arith, three, p.bound));
    source_fault = λ more. absurd (omega (arith, more, read));
    sink_fault = λ more. absurd (omega (arith, more, quiet));
    silent = λ four. absurd (omega (arith, four, p.bound));
    completes = λ still is text got script segments c.
        let told = completes source text script segments c p got (answers_at kind.Script p is answers) in
        inr (told.1, whole.wrote ∙ ap (λ (t : List ℕ). sink.old.wrote ++ t) told.0);
    io = λ is one sent text. listed source sent p (answers_at kind.Script p is answers)
        (append_cancel_left sink.old.wrote p.text.items (session_text sent (Err client.IoError)) (sym whole.wrote
        ∙ text));
    reads = took;
    writes = record { sent = p.text.items; wrote = whole.wrote; writes = omega (arith, whole.writes) };
    unread = unread;
    dials = later;
    leaves = leaves;
    connects =
        λ t still hush asked is offer known segments can. report_written nonce dialer asked p offer segments can t
        still known (answers_at (kind.Connect asked) p is answers) sink.old.wrote sink.new.wrote whole.wrote;
    connect_io =
        λ asked is one text. io_written nonce dialer asked p (answers_at (kind.Connect asked) p is answers)
        sink.old.wrote sink.new.wrote whole.wrote text;
    generates =
        λ hush rows start is. generates rows start p sink.old.wrote sink.new.wrote
        (answers_at (kind.Gen rows start) p is answers) whole.wrote;
    pairs =
        λ hush is. pair_written source p sink.old.wrote sink.new.wrote (answers_at kind.Pair p is answers)
        whole.wrote;
    relays =
        λ hush is. relay_written source p sink.old.wrote sink.new.wrote (answers_at kind.Relay p is answers)
        whole.wrote;
    pools =
        λ hush is. pool_written source p sink.old.wrote sink.new.wrote (answers_at kind.Pool p is answers)
        whole.wrote;
    secrets =
        λ hush asked is. secret_written asked.password asked.count words p sink.old.wrote sink.new.wrote
        (answers_at (kind.Secret asked) p is answers) whole.wrote;
    finds =
        λ hush asked is. passfile_written asked source p sink.old.wrote sink.new.wrote
        (answers_at (kind.Passfile asked) p is answers) whole.wrote;
  }

  -- a write failed
  pub ran_unwritten : (p : Printed) → PrintsCommand help version nonce words source dialer command p
      → source.now ≡ source.before → TookFront source → (reads_source command ≡ false → source.same)
      → dialer.before ≤ dialer.now → LeavesDialer nonce command dialer
      → WroteSinkFront sink.old sink.new p.text.items → Rose sink.before sink.now
      → ProgramRan help version nonce words command source sink dialer 3
  ran_unwritten p answers read took unread later leaves front rose = record {
    status_in = omega arith;
    prints = λ low. absurd (omega (arith, low));
    fault =
        λ three. inr (
          rose,
          record {
            printed = p;
            answers = answers;
            count = front.count;
            count_in = front.count_in;
            wrote = front.wrote;
          },
        );
    source_fault = λ more. absurd (omega (arith, more, read));
    sink_fault = λ more. refl;
    silent = λ four. absurd (omega (arith, four));
    completes = λ still is text got script segments c. absurd (still rose);
    io = λ is one sent text. absurd (omega (arith, one));
    reads = took;
    writes =
        record {
          sent = take front.count p.text.items;
          wrote = front.wrote;
          writes = omega
              (arith, front.writes, length-take front.count p.text.items, front.count_in);
        };
    unread = unread;
    dials = later;
    leaves = leaves;
    connects = λ t still hush asked is offer known segments can. absurd (hush rose);
    connect_io = λ asked is one text. absurd (omega (arith, one));
    generates = λ hush rows start is. absurd (hush rose);
    pairs = λ hush is text got script of. absurd (hush rose);
    relays = λ hush is text got script of. absurd (hush rose);
    pools = λ hush is text got script of. absurd (hush rose);
    secrets = λ hush asked is. absurd (hush rose);
    finds = λ hush asked is file got. absurd (hush rose);
  }

  -- nothing was written, since a read of the source failed
  pub ran_unread : reads_source command ≡ true → CountsStop stop.Source source → TookFront source
      → (reads_source command ≡ false → source.same) → dialer.before ≤ dialer.now
      → LeavesDialer nonce command dialer
      → sink.same → sink.new ≡ sink.old → sink.now ≡ sink.before
      → ProgramRan help version nonce words command source sink dialer 3
  ran_unread script stopped took unread later leaves same kept quiet =
      let wrote : sink.new.wrote ≡ sink.old.wrote = ap (λ (t : SinkTape). t.wrote) kept in
      let writes : sink.new.writes ≡ sink.old.writes = ap (λ (t : SinkTape). t.writes) kept in
      record {
        status_in = omega arith;
        prints = λ low. absurd (omega (arith, low));
        fault = λ three. inl (script, stopped.0, same);
        source_fault = λ more. (refl, same);
        sink_fault = λ more. refl;
        silent = λ four. absurd (omega (arith, four));
        completes = λ still is text got script segments c. absurd (omega (arith, got.ended, stopped.1));
        io = λ is one sent text. absurd (omega (arith, one));
        reads = took;
        writes =
            record { sent = []; wrote = wrote ∙ sym (append-nil sink.old.wrote); writes = omega (arith, writes) };
        unread = unread;
        dials = later;
        leaves = leaves;
        connects =
            λ t still hush asked is offer known segments can. absurd
            (unread_by (kind.Connect asked) is refl script);
        connect_io = λ asked is one text. absurd (omega (arith, one));
        generates = λ hush rows start is. absurd (unread_by (kind.Gen rows start) is refl script);
        pairs = λ hush is text got pair of. absurd (omega (arith, got.ended, stopped.1));
        relays = λ hush is text got script of. absurd (omega (arith, got.ended, stopped.1));
        pools = λ hush is text got script of. absurd (omega (arith, got.ended, stopped.1));
        secrets = λ hush asked is. absurd (unread_by (kind.Secret asked) is refl script);
        finds = λ hush asked is file got. absurd (omega (arith, got.ended, stopped.1));
      }

  -- or since memory ran out
  pub ran_short : source.now ≡ source.before → TookFront source → (reads_source command ≡ false → source.same)
      → dialer.before ≤ dialer.now → LeavesDialer nonce command dialer
      → sink.same → sink.new ≡ sink.old → sink.now ≡ sink.before
      → ProgramRan help version nonce words command source sink dialer 4
  ran_short read took unread later leaves same kept quiet =
      let wrote : sink.new.wrote ≡ sink.old.wrote = ap (λ (t : SinkTape). t.wrote) kept in
      let writes : sink.new.writes ≡ sink.old.writes = ap (λ (t : SinkTape). t.writes) kept in
      record {
        status_in = omega arith;
        prints = λ low. absurd (omega (arith, low));
        fault = λ three. absurd (omega (arith, three));
        source_fault = λ more. absurd (omega (arith, more, read));
        sink_fault = λ more. absurd (omega (arith, more, quiet));
        silent = λ four. same;
        completes = λ still is text got script segments c. inl refl;
        io = λ is one sent text. absurd (omega (arith, one));
        reads = took;
        writes =
            record { sent = []; wrote = wrote ∙ sym (append-nil sink.old.wrote); writes = omega (arith, writes) };
        unread = unread;
        dials = later;
        leaves = leaves;
        connects = λ t still hush asked is offer known segments can. inl refl;
        connect_io = λ asked is one text. absurd (omega (arith, one));
        generates = λ hush rows start is. inl refl;
        pairs = λ hush is text got pair of. inl refl;
        relays = λ hush is text got script of. inl refl;
        pools = λ hush is text got script of. inl refl;
        secrets = λ hush asked is. inl refl;
        finds = λ hush asked is file got. inl refl;
      }
