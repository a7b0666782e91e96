use Rattle.std.proofs.Common.{refl, lit<}
use Rattle.pgw_wire.specs.declared.framing.Framing.TheVariants.{Opening}
use Rattle.pgw_wire.specs.Keys.{key_fault}
use Rattle.pgw_control.specs.Openings.{cancel_request, SpellsCancelRequest}
use Rattle.pgw_wire.proofs.UntypedLaws.{untyped_written}
use Rattle.pgw_control.proofs.OpeningWritten.{coded_written, cancel_written}
use Rattle.pgw_control.proofs.laws.what_is_written_is_spelled.Goals as goal

pub returns : goal.returns
returns c = record {
  coded = coded_written;
  cancel =
      λ v m g sound suits is. untyped_written (Opening 80877102) 10000 (SpellsCancelRequest v) m
      (key_fault m.secret_key) (cancel_request m) g refl (λ n. refl) (lit< tt) is
      (cancel_written v m sound suits);
}
