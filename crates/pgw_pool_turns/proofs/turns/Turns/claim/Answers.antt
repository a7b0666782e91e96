use Rattle.std.proofs.Common.{◌≡◌, ◌+◌}
use Rattle.pgw_pool_turns.specs.Standings.{HasPlace, claimed}
use Rattle.pgw_pool_turns.specs.Desks.{desk_held}
use Rattle.pgw_pool_turns.proofs.DeskLaws.{but_behind}
use Rattle.pgw_pool_turns.proofs.turns.Turns.claim.Goals as goal

pub returns : goal.returns
returns g c =
    let old = c.deref_mut.result.now in
    let new = c.claim.new.self in
    let taken = new ≡ desk_held old.stock (claimed old.counts) in
    let full = old.counts.ready + old.counts.out ≡ old.counts.room in (
      old,
      c.claim.ensures.counted,
      but_behind (HasPlace old.counts) taken (new ≡ old) full c.claim.result c.claim.ensures.claimed,
    )
