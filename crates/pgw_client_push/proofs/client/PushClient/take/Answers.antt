use Rattle.std.proofs.Common.{◌≡◌, ◌+◌, ◌-◌, length, refl, arith}
use Rattle.pgw_client_push.proofs.CallLaws.{takes, lacks}
use Rattle.pgw_client_push.proofs.client.PushClient.take.Goals as goal

pub returns-in-Ok-clause-takes : goal.returns-in-Ok-clause-takes
returns-in-Ok-clause-takes c =
    let old = c.args.self.now in
    let piece = c.args.piece.now in
    let room : old.room - length piece + length piece ≡ old.room = omega (arith, c.requires.fits) in
    takes old _ c.go_on.new.self piece c.args.out.now.items c.go_on.new.out.items c.go_on.result
    c.requires.waits.0 (refl, refl, refl, refl) c.in-Ok.ensures.ok room c.go_on.ensures.served

pub returns-in-Err-clause-takes : goal.returns-in-Err-clause-takes
returns-in-Err-clause-takes c =
    let old = c.args.self.now in
    let piece = c.args.piece.now in
    let room : old.room - length piece + length piece ≡ old.room = omega (arith, c.requires.fits) in
    lacks old _ piece c.args.out.now.items c.requires.waits.0 (refl, refl) room refl
