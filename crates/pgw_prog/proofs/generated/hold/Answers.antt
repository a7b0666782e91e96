use Rattle.std.proofs.Common.{ap, ◌∙◌, Some}
use Rattle.pgw_link.specs.Calls.{call_number}
use Rattle.pgw_link.specs.Memory.{Making, memory_tape, memory_left, faults_of, making_of}
use Rattle.pgw_link.specs.declared.memory.MemoryLink.{MemoryLink}
use Rattle.pgw_client.specs.OverLink.{LinkSpan, link_span}
use Rattle.pgw_prog.proofs.GenLaws.{none_failed, stream_summed}
use Rattle.pgw_prog.proofs.generated.hold.Goals as goal

pub returns : goal.returns
returns c = λ count start small is.
    let old = c.new-link.result in
    let link = c.gen_session-held.new.link in
    let made = c.gen_session-held.ensures.kept ∙ c.new-link.ensures.making in
    let span : LinkSpan = link_span memory_tape (λ (m : MemoryLink). Some (memory_left m)) faults_of old link in
    let quiet =
    none_failed (making_of link) (call_number (memory_tape link).reads)
    (call_number (memory_tape link).writes) (faults_of link) c.was_short_of_memory.result
    (ap (λ (m : Making). m.reads) made ∙ c.new.ensures) (ap (λ (m : Making). m.writes) made
    ∙ c.new-2.ensures) c.if-was_short_of_memory.false c.was_short_of_memory.ensures.causes in
    stream_summed c.args.nonce.now c.args.server c.len-limit.result span c.gen_session-held.result
    c.gen_session-held.ensures.session
    c.len-limit.ensures.value (ap Some c.new-link.ensures.left) c.new-link.ensures.faults quiet count start small
    is
