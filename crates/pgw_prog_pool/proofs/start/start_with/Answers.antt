use Rattle.std.proofs.Common.{map}
use Rattle.pgw_link.specs.Memory.{memory_tape, memory_left, faults_of}
use Rattle.pgw_pool.specs.Views.{idle_in, lefts_in}
use Rattle.pgw_prog_pool.specs.Views.{to_come}
use Rattle.pgw_prog_pool.proofs.StartLaws.{dialer_is, started, unstarted}
use Rattle.pgw_prog_pool.proofs.start.start_with.Goals as goal

pub returns-clause-started : goal.returns-clause-started
returns-clause-started c =
    started c.start-started.result (λ pool. idle_in memory_tape faults_of pool) (λ pool. lefts_in to_come pool)
    c.args.config.now c.args.limit c.args.nonces.now (map memory_left c.args.links) _ _
    (dialer_is _ _ c.args.links _ c.new-dialer.ensures.tape c.new-dialer.ensures.faults
    c.new-dialer.ensures.links) (c.start-started.ensures.foretold tt)

pub returns-clause-refused : goal.returns-clause-refused
returns-clause-refused c =
    unstarted c.start-started.result c.args.config.now c.args.limit c.args.nonces.now
    (map memory_left c.args.links) _ _
    (dialer_is _ _ c.args.links _ c.new-dialer.ensures.tape c.new-dialer.ensures.faults
    c.new-dialer.ensures.links) c.start-started.ensures.refused
