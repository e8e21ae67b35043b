-- `extinction::model_of` meets its contract: the literal of the code is the whole number of the definition. Assumes nothing.
use lib.Ieee.{div, of_int, of_bits}
use Rattle.layout.specs.Fields.{quotient}
use Rattle.extinction.specs.Extinction.{model_of}
use borrow.Author.Rules.{rules}
use Rattle.extinction.proofs.model_of.Goals as goal

pub returns : goal.returns
unfolding div model_of quotient of_int of_bits
returns c = search rules
