-- Making a table gives the number of the first condition that holds, by the cases of its answers. Assumes nothing.
use Rattle.file.proofs.Accepted.{accepted}
use Rattle.file.proofs.Sound.{number_0}
use Rattle.file_tables.specs.Order.{TableInOrder}
use Rattle.file_tables.proofs.Answers.{table-file, table_12, table_13}

pub table_in_order : TableInOrder
table_in_order s room len =
    record {
      file = λ n. table-file s room len (λ e. n (accepted s e));
      steps = λ a l. table_12 s room len (number_0 s a) l;
      cells = λ a h l. table_13 s room len (number_0 s a) h l;
    }
