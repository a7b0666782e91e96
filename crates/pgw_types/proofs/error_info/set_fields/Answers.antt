use Rattle.std.proofs.Common.{◌∙◌, sym}
use Rattle.std.specs.List.{filter_map}
use Rattle.std.proofs.lemmas.List.{append-nil}
use Rattle.pgw_types.specs.Infos.{info_field}
use Rattle.pgw_types.proofs.InfoLaws.{filter_map_push}
use Rattle.pgw_types.proofs.error_info.set_fields.Goals as goal

pub loop-code-preserved : goal.loop-code-preserved
loop-code-preserved c =
    rw (filter_map_push info_field c.loop-code.yielded (c.in-Some.code, c.in-Some.text), c.in-None-text.is)
    (c.loop-code.invariant ∙ sym (append-nil (filter_map info_field c.loop-code.yielded)))
