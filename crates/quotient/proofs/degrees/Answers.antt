-- `quotient::degrees` meets its contract: the literal of the code is the whole number of the definition. Assumes nothing.
use lib.Ieee.{div, of_int, of_bits}
use Rattle.layout.specs.Fields.{quotient, degrees}
use borrow.Author.Rules.{rules}
use Rattle.quotient.proofs.degrees.Goals as goal

pub returns : goal.returns
unfolding div degrees quotient of_int of_bits
returns c = search rules
