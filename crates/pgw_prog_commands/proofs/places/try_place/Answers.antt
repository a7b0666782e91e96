use Rattle.pgw_prog_commands.specs.Places.{refused}
use Rattle.pgw_prog_commands.proofs.PlaceLaws.{kept}
use Rattle.pgw_prog_commands.proofs.places.try_place.Goals as goal

pub returns-in-Ok : goal.returns-in-Ok
returns-in-Ok g c =
    kept _ _ _ _ _ _ c.keep.result c.in-Ok.ensures
    (rw (c.wanted_of-wanted.ensures, c.get_target_session_attrs.ensures) at c.keep.ensures)

pub returns-in-Err : goal.returns-in-Err
returns-in-Err g c = rw c.ended_by-ended.ensures (refused c.in-Err.error c.in-Err.ensures)
