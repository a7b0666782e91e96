use Rattle.std.proofs.Common.{Some, ap, ◌∙◌}
use Rattle.pgw_link.specs.Dials.{DialTape}
use Rattle.pgw_link.specs.Log.{tape_of}
use Rattle.pgw_link.specs.declared.log.Log.{Log}
use Rattle.pgw_link.specs.MemoryLinks.{last_shut}
use Rattle.pgw_link.proofs.MemoryDialLaws.{last_is}
use Rattle.pgw_link.proofs.memory_dialer.MemoryDialerDialer.close.Goals as goal

pub invariant_of-self-clause-last : goal.invariant_of-self-clause-last
invariant_of-self-clause-last c =
    ap (λ (t : DialTape). last_shut t.shut) c.then-self.ensures
    ∙ last_is c.args.self.now.log.shut (tape_of c.log.result.now)
    ∙ ap (λ (l : Log). Some (tape_of l)) c.log.ensures
