-- `writing::put_byte` meets its contract. Assumes nothing.
use native.Mathlib.Omega.{arith}
use Rattle.text.proofs.Over.{put_one}
use Rattle.writing.proofs.put_byte.Goals as goal

pub returns : goal.returns
returns c = put_one _ _ _ (omega arith)
