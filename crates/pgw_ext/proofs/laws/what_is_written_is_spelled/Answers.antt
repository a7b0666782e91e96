use Rattle.std.proofs.Common.{◌∷◌, ◌++◌, lit<}
use Rattle.pgw_wire.specs.Writing.{i32, refused_if}
use Rattle.pgw_ext.specs.Kinds.{name, is_name_refused}
use Rattle.pgw_ext.specs.Rows.{parse, is_parse_refused, SpellsParse, bind, is_bind_refused, SpellsBind, SpellsClose, SpellsDescribe, SpellsExecute}
use Rattle.pgw_ext.proofs.RowsWritten.{parse_written, bind_written, target_written, execute_written, typed_written}
use Rattle.pgw_ext.proofs.laws.what_is_written_is_spelled.Goals as goal

pub returns : goal.returns
returns c = record {
  parse =
      λ m g sound is. typed_written 80 1073741822 SpellsParse m (refused_if (is_parse_refused m)) (parse m) g
      (lit< tt) is (λ small fine. parse_written m sound fine);
  bind = λ m g sound is. typed_written 66 1073741822 SpellsBind m (refused_if (is_bind_refused m)) (bind m) g
      (lit< tt) is (λ small fine. bind_written m sound small fine);
  close =
      λ m g sound is. typed_written 67 10000 SpellsClose m (refused_if (is_name_refused m.name))
      (m.target_type ∷ name m.name) g (lit< tt) is
      (λ small fine. target_written m.target_type m.name sound.0 sound.1 fine);
  describe =
      λ m g sound is. typed_written 68 10000 SpellsDescribe m (refused_if (is_name_refused m.name))
      (m.target_type ∷ name m.name) g (lit< tt) is
      (λ small fine. target_written m.target_type m.name sound.0 sound.1 fine);
  execute =
      λ m g sound is. typed_written 69 10000 SpellsExecute m (refused_if (is_name_refused m.name))
      (name m.name ++ i32 m.max_rows) g (lit< tt) is (λ small fine. execute_written m sound fine);
}
