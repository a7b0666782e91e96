use Rattle.pgw_wire.proofs.buffer.OctetsBuffer.part.Goals as goal

pub returns : goal.returns
returns c = c.slice.ensures
