use Rattle.std.proofs.Common.{◌∷◌, [], None, lit<}
use Rattle.pgw_wire.specs.Counted.{counted16, is_too_long}
use Rattle.pgw_wire.specs.Writing.{text, u32, has_zero, refused_if}
use Rattle.pgw_wire.proofs.WrittenLaws.{text_written, typed_written, unrefused}
use Rattle.pgw_query.specs.Rows.{SpellsQuery, SpellsCommandComplete, SpellsReadyForQuery, SpellsNotificationResponse, SpellsParameterDescription, SpellsRowDescription, SpellsDataRow, status_byte, codes, codes_fault, is_refused, row_description, data_row, notification_response, is_notification_refused, SpellsInfoResponse}
use Rattle.pgw_query.proofs.RowsWritten.{status_written, codes_written, notification_response_written, parameter_description_written, row_description_written, data_row_written}
use Rattle.pgw_query.proofs.laws.what_is_written_is_spelled.Goals as goal

pub returns : goal.returns
returns c = record {
  query =
      λ m g sound is. typed_written 81 1073741822 SpellsQuery m (refused_if (has_zero m.query)) (text m.query) g
      (lit< tt) is (λ fine. text_written m.query (unrefused _ fine) sound);
  command_complete =
      λ m g sound is. typed_written 67 30000 SpellsCommandComplete m (refused_if (has_zero m.tag)) (text m.tag) g
      (lit< tt) is (λ fine. text_written m.tag (unrefused _ fine) sound);
  ready_for_query =
      λ m g is. typed_written 90 30000 SpellsReadyForQuery m None (status_byte m.status ∷ []) g (lit< tt) is
      (λ fine. status_written m.status);
  info_response =
      λ byte m g sound is. typed_written byte 2147483647 SpellsInfoResponse m (codes_fault m.fields)
      (codes m.fields) g (lit< tt) is (λ fine. codes_written m.fields sound fine);
  notification_response =
      λ m g sound is. typed_written 65 2147483647 SpellsNotificationResponse m
      (refused_if (is_notification_refused m)) (notification_response m) g (lit< tt) is
      (λ fine. notification_response_written m sound fine);
  parameter_description =
      λ m g sound is. typed_written 116 2147483647 SpellsParameterDescription m (refused_if (is_too_long m.types))
      (counted16 u32 m.types) g (lit< tt) is (λ fine. parameter_description_written m sound fine);
  row_description =
      λ m g sound is. typed_written 84 2147483647 SpellsRowDescription m (refused_if (is_refused m.fields))
      (row_description m) g (lit< tt) is (λ fine. row_description_written m sound (unrefused _ fine));
  data_row =
      λ m g sound is. typed_written 68 2147483647 SpellsDataRow m None (data_row m) g (lit< tt) is
      (λ fine. data_row_written m sound);
}
