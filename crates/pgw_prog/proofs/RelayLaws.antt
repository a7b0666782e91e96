-- What the program prints of a relay script.
use Rattle.std.proofs.Common.{◌≡◌, ◌≤◌, ◌+◌, ◌*◌, ℕ, List, ◌++◌, length, Option, Some, Result, Ok, Err, refl, sym, ap, subst, ◌∙◌, inr, arith}
use Rattle.std.specs.Result.{IfOk, OnOk}
use Rattle.std.proofs.lemmas.List.{length-append}
use Rattle.pgw_types.specs.declared.memory.OutOfMemory.{OutOfMemory}
use Rattle.pgw_link.specs.declared.memory.MemoryLink.{MemoryLink}
use Rattle.pgw_link.specs.Tape.{Tape, new_tape}
use Rattle.pgw_link.specs.Memory.{Making, memory_tape, memory_left, faults_of, making_of}
use Rattle.pgw_proxy.specs.declared.recorded.Side.{Side}
use Rattle.pgw_proxy.specs.declared.run.ProxyRun.{ProxyRun}
use Rattle.pgw_proxy.specs.Run.{IsRelayForetold, Relays, Span, span}
use Rattle.pgw_prog_script.specs.declared.relay_script.RelayScript.{RelayScript}
use Rattle.pgw_prog_script.specs.RelayScript.{IsRelayScript, relay_form}
use Rattle.pgw_prog.specs.declared.printed.Printed.{Printed}
use Rattle.pgw_prog.specs.declared.program.ScriptKind.TheVariants as scripts_of
use Rattle.pgw_prog.specs.Held.{InCuts, Says}
use Rattle.pgw_prog.specs.Program.{AnswersScript}
use Rattle.pgw_prog.specs.Relay.{IsNewLink, LinkWentWell, Relayed, PrintsRelayRun, PrintsRelay, PrintsRelayText, relay_status, relay_text, side_span}
use Rattle.pgw_prog.specs.Transfer.{SourceSpan, TookWhole}
use Rattle.pgw_prog.proofs.KindLaws.{script_prints}

-- ---- a run over links in memory

abbrev pub memory_span : MemoryLink → MemoryLink → Span
memory_span old new = span memory_tape (λ (m : MemoryLink). Some (memory_left m)) faults_of old new

-- what a new link tells behind its calls
span_is : (made : Making) (old new : MemoryLink) → making_of old ≡ made → IsNewLink old → LinkWentWell new
    → memory_span old new ≡ side_span made.server (memory_tape new) (memory_left new)
span_is made old new same fresh well =
    let server : memory_left old ≡ made.server = fresh.left ∙ ap (λ (m : Making). m.server) same in
    rw (fresh.fresh, server, fresh.calm, well.calm) refl

in_cuts : (made : Making) (new : MemoryLink) → making_of new ≡ made → LinkWentWell new
    → IsRelayForetold (side_span made.server (memory_tape new) (memory_left new)) → InCuts made (memory_tape new)
in_cuts made new same well told =
    let f = told.foreseen in
    let taken : length made.server ≤ length (memory_left new) + made.cut * (memory_tape new).reads =
    subst (λ (m : Making). length m.server ≤ length (memory_left new) + m.cut * (memory_tape new).reads) same
    well.taken in
    let written : length (memory_tape new).wrote ≤ made.cut * (memory_tape new).writes =
    subst (λ (m : Making). length (memory_tape new).wrote ≤ m.cut * (memory_tape new).writes) same
    well.written in
    record {
      reads =
          omega (arith, taken, ap length f.consumes, length-append f.taken (memory_left new), ap length f.took);
      writes = written;
    }

pub run_printed : (turns : List Side) (client server : Making) (c0 c1 s0 s1 : MemoryLink) (run : ProxyRun)
    (r : Result Printed OutOfMemory)
    → making_of c0 ≡ client → making_of c1 ≡ client → making_of s0 ≡ server → making_of s1 ≡ server → IsNewLink c0
    → IsNewLink s0
    → Relays turns (memory_span c0 c1) (memory_span s0 s1) (Unit {0}) (Unit {0}) run → OnOk r (LinkWentWell c1)
    → OnOk r (LinkWentWell s1)
    → IfOk r (λ p. Says p (relay_text (memory_tape s1).wrote (memory_tape c1).wrote run) (relay_status run.fault))
    → IfOk r (PrintsRelayRun turns client server)
run_printed turns client server c0 c1 s0 s1 run (Ok p) c0_made c1_made s0_made s1_made c_new s_new relays c_well
    s_well says =
    let one =
    subst (λ (c : Span). Relays turns c (memory_span s0 s1) (Unit {0}) (Unit {0}) run)
    (span_is client c0 c1 c0_made c_new c_well) relays in
    let both =
    subst (λ (s : Span). Relays turns (side_span client.server (memory_tape c1) (memory_left c1)) s (Unit {0})
    (Unit {0}) run) (span_is server s0 s1 s0_made s_new s_well) one in (
      (memory_tape s1).wrote,
      (memory_tape c1).wrote,
      run,
      record {
        client = memory_tape c1;
        client_left = memory_left c1;
        server = memory_tape s1;
        server_left = memory_left s1;
        relays = both;
        to_client_is = refl;
        to_server_is = refl;
        client_cut = in_cuts client c1 c1_made c_well (both.client_foretold tt);
        server_cut = in_cuts server s1 s1_made s_well (both.server_foretold tt);
      },
      says,
    )
run_printed turns client server c0 c1 s0 s1 run (Err e) c0_made c1_made s0_made s1_made c_new s_new relays c_well
    s_well says = tt

-- ---- a script

relay_prints : (script : RelayScript) (p : Printed) (before now : List ℕ) → PrintsRelay script p
    → now ≡ before ++ p.text.items → PrintsRelayText script before now p.status
relay_prints script p before now (to_server, to_client, run, relayed, says) wrote =
    inr (to_server, to_client, run, relayed, says.1, wrote ∙ ap (λ (t : List ℕ). before ++ t) says.0)

pub relay_written : (source : SourceSpan) (p : Printed) (before now : List ℕ)
    → AnswersScript scripts_of.Relay source p → now ≡ before ++ p.text.items
    → (text : List ℕ) → TookWhole source.old source.new text → (script : RelayScript) → IsRelayScript text script
    → PrintsRelayText script before now p.status
relay_written source p before now answers wrote text whole script is =
    relay_prints script p before now
    (script_prints relay_form PrintsRelay scripts_of.Relay (λ t q h. h) source text script p whole is answers)
    wrote
