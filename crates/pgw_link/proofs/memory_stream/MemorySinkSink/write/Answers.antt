use Rattle.std.proofs.Common.{◌≡◌, true, arith, sym, ap, ◌∙◌, inl}
use Rattle.pgw_link.specs.Tape.{Tape}
use Rattle.pgw_link.specs.Calls.{is_listed}
use Rattle.pgw_link.proofs.CallLaws.{listed}
use Rattle.pgw_link.proofs.memory_stream.MemorySinkSink.write.Goals as goal

pub returns-then-is_failing-clause-fails : goal.returns-then-is_failing-clause-fails
returns-then-is_failing-clause-fails c =
    let s = c.args.self.now in
    inl (ap (λ (t : Tape). is_listed s.writes.numbers t.writes) c.then-self.ensures
    ∙ sym (listed s.writes.numbers s.writes.made c.is_failing.new.self.made s.log.writes c.is_failing.result
    c.is_failing.ensures.fails s.writes_counted c.is_failing.ensures.made)
    ∙ c.if-is_failing.true)
