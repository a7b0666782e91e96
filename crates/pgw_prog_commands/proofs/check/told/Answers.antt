use Rattle.std.proofs.Common.{◌∙◌, refl, rules}
use Rattle.std.specs.Int.{w32}
use Rattle.std.proofs.lemmas.Int.{to_z-of_z}
use mir.Val.{SFits}
use Rattle.pgw_prog_commands.proofs.CheckLaws.{tells}
use Rattle.pgw_prog_commands.proofs.check.told.Goals as goal

pub returns : goal.returns
returns g c =
    let fits : SFits w32 c.process_id.result = search rules in
    tells c.args.notes.now c.args.client.now c.config-config.result.now _ _ c.put_report.new.out.items
    c.in_ok-put_report.ensures c.new-out.ensures.items c.config-config.ensures c.in-Ok.ensures refl refl
    c.protocol_version.ensures c.user_of.ensures c.database_of.ensures (to_z-of_z w32 c.process_id.result fits
    ∙ c.process_id.ensures) c.server_parameters.ensures
