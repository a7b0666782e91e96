use Rattle.pgw_ext.proofs.RowLaws.{parse, bind, close, describe, execute}
use Rattle.pgw_ext.proofs.laws.rows_are_exact.Goals as goal

pub returns : goal.returns
returns c =
    record {
      parse = parse;
      bind = bind;
      close =
          close;
      describe =
          describe;
      execute = execute;
    }
