use mir.Val.{to_z, of_z}
use Rattle.std.proofs.Common.{◌≡◌, refl, arith}
use Rattle.std.proofs.lemmas.Int.{to_z-of_z}
use Rattle.std.specs.Int.{w32}
use Rattle.pgw_query.proofs.notification.NotificationResponseDuplicate.duplicate.Goals as goal

pub returns : goal.returns
returns c =
    let pid : to_z w32 (of_z w32 c.args.self.now.pid) ≡ c.args.self.now.pid = grind (arith, to_z-of_z) in
    rw (pid, c.in_ok-duplicate.ensures, c.in_ok-duplicate-2.ensures) refl
