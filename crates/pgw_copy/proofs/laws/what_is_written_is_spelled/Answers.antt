use Rattle.std.proofs.Common.{None, refl, lit<}
use Rattle.pgw_wire.specs.Writing.{text, has_zero, refused_if}
use Rattle.pgw_wire.proofs.WrittenLaws.{text_written, typed_written, unrefused}
use Rattle.pgw_copy.specs.Rows.{SpellsCopyData, SpellsCopyFail}
use Rattle.pgw_copy.proofs.RowsWritten.{copy_response_written}
use Rattle.pgw_copy.proofs.laws.what_is_written_is_spelled.Goals as goal

pub returns : goal.returns
returns c = record {
  copy_data =
      λ m g is. typed_written 100 1073741822 SpellsCopyData m None m.payload g (lit< tt) is (λ fine. refl);
  copy_fail =
      λ m g sound is. typed_written 102 10000 SpellsCopyFail m (refused_if (has_zero m.message)) (text m.message)
      g (lit< tt) is (λ fine. text_written m.message (unrefused _ fine) sound);
  copy_response = copy_response_written;
}
