-- Differencing and summing answer the number 0 exactly where the sizes and the cells keep their rules.
use Rattle.sizes.proofs.Judged.{number_of}
use Rattle.cells.specs.Taken.{CellsExactly}
use Rattle.cells.proofs.Answers.{cells-accepted, cells-taken}

pub cells_exactly : CellsExactly
cells_exactly z cells len = (cells-taken z cells len, λ t. number_of (cells-accepted z cells len t))
