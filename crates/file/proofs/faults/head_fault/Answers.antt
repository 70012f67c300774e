-- `file::faults::head_fault` finds no fault where each of the tests passes. Assumes nothing.
use borrow.Author.Rules.{rules}
use borrow.Author.Tests.{tests}
use Rattle.file.proofs.Cases.{head_opened}
use Rattle.file.proofs.faults.head_fault.Goals as goal

pub returns : goal.returns
returns c = rw head_opened (search (tests, rules))
