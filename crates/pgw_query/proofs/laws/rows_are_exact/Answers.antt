use Rattle.pgw_query.proofs.RowLaws.{query, command_complete, ready_for_query, info_response, notification_response, parameter_description, row_description, data_row}
use Rattle.pgw_query.proofs.laws.rows_are_exact.Goals as goal

pub returns : goal.returns
returns c =
    record {
      query = query;
      command_complete = command_complete;
      ready_for_query =
          ready_for_query;
      info_response = info_response;
      notification_response =
          notification_response;
      parameter_description =
          parameter_description;
      row_description =
          row_description;
      data_row = data_row;
    }
