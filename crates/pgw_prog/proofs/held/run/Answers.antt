use Rattle.std.proofs.Common.{ℕ, List, ap, refl, sym, subst, ◌∙◌, Some}
use Rattle.std.specs.Result.{IfOk}
use Rattle.pgw_session.specs.Input.{input_with}
use Rattle.pgw_link.specs.Memory.{Making, memory_tape, memory_left, faults_of, making_of}
use Rattle.pgw_link.specs.declared.memory.MemoryLink.{MemoryLink}
use Rattle.pgw_client.specs.OverLink.{LinkSpan, link_span}
use Rattle.pgw_prog.specs.Held.{PrintsSession}
use Rattle.pgw_prog.proofs.HeldLaws.{from_new, printed}
use Rattle.pgw_prog.proofs.held.run.Goals as goal

pub returns : goal.returns
returns c =
    let e = c.run_session-outcome.ensures in
    let p = c.print_outcome-printed.ensures in
    let input = input_with c.args.config.now c.args.requests.now c.args.nonce.now in
    let old = c.args.link.now in
    let link = c.run_session-outcome.new.link in
    let made = making_of link in
    let span : LinkSpan = link_span memory_tape (λ (m : MemoryLink). Some (memory_left m)) faults_of old link in
    let server = ap (λ (l : List ℕ). Some l) (c.requires.left ∙ ap (λ (m : Making). m.server) (sym e.kept)) in
    let over =
    from_new input c.args.limit made span (memory_left link) c.run_session-outcome.result c.requires.new
    server refl c.requires.faultless e.session in
    let told =
    printed input c.args.limit made (memory_tape link) (memory_left link) c.run_session-outcome.result
    (faults_of link) over c.print_outcome-printed.result p.text p.status p.memory p.fails p.taken p.sent
    in
    subst (λ (m : Making). IfOk c.print_outcome-printed.result (PrintsSession input c.args.limit m)) e.kept told
