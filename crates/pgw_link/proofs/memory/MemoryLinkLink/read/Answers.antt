use Rattle.std.proofs.Common.{◌≡◌, ◌<◌, ◌≤◌, ◌+◌, ◌*◌, ℕ, length, take, arith, sym, ap, subst, ◌∙◌}
use Rattle.pgw_link.specs.Tape.{Tape}
use Rattle.pgw_link.specs.Calls.{call_number}
use Rattle.pgw_link.proofs.CallLaws.{numbered}
use Rattle.pgw_link.proofs.LogLaws.{after_reads, in_cuts, nothing_left, taken}
use Rattle.pgw_link.proofs.memory.MemoryLinkLink.read.Goals as goal

pub invariant_of-self-2-clause-reads_counted : goal.invariant_of-self-2-clause-reads_counted
invariant_of-self-2-clause-reads_counted c =
    let s = c.args.self.now in
    let reads =
    ap (λ (t : Tape). t.reads) c.then-self-2.ensures
    ∙ after_reads _ c.copy_from-count.new.buf c.copy_from-count.result in
    numbered s.reads.made c.is_failing.new.self.made s.log.reads s.reads_counted c.is_failing.ensures.made
    ∙ ap call_number (sym reads)

pub invariant_of-self-2-clause-read_in_cuts : goal.invariant_of-self-2-clause-read_in_cuts
invariant_of-self-2-clause-read_in_cuts c =
    let s = c.args.self.now in
    let n = c.copy_from-count.result in
    let reads = ap (λ (t : Tape). t.reads) c.then-self-2.ensures ∙ after_reads _ c.copy_from-count.new.buf n in
    subst (λ (r : ℕ). s.at + n ≤ s.cut * r) (sym reads)
    (in_cuts s.at n s.cut s.log.reads s.read_in_cuts (omega (arith, c.copy_from-count.ensures.count)))

pub returns-clause-drawn : goal.returns-clause-drawn
returns-clause-drawn c =
    let bytes = c.args.self.now.server in
    let at = c.args.self.now.at in
    let n = c.copy_from-count.result in
    let is = rw c.as_slice.ensures at c.copy_from-count.ensures.piece in
    let count = rw c.as_slice.ensures at c.copy_from-count.ensures.count in (
      taken bytes (take n c.copy_from-count.new.buf) at n is,
      λ none room. nothing_left bytes at n (length c.args.buf.now) c.args.self.now.cut count
          (omega (arith, room, c.copy_from-count.auto.buf)) c.args.self.now.moves none,
    )
