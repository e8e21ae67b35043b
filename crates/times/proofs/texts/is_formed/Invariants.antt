use mathlib.Core.Path.{◌≡◌}
use lib.Dec.{eqb}
use Rattle.times.proofs.Blocks.{none_outside}
use Rattle.times.proofs.texts.is_formed.Given as goal

abbrev pub invariant-loop-i : goal.invariant-loop-i
invariant-loop-i l = eqb l.short 0 ≡ none_outside l.text l.i
