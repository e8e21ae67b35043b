-- `layout::refuse` meets its contract. Assumes nothing.
use mathlib.Core.Path.{refl}
use Rattle.layout.specs.Answers.{verdict_is}
use Rattle.layout.proofs.refuse.Goals as goal

pub returns : goal.returns
unfolding verdict_is
returns g c = record { is = refl; judged = refl }
