-- What the verdict of a product says, from the promise of `judge` alone.
-- Assumes nothing.
use Rattle.std.specs.Prelude.{Result, Ok, Err}
use Prim.Native.Nat.{ℕ, ◌<◌}
use mathlib.Core.List.{List}
use mathlib.Core.Logic.{◌↔◌}
use mathlib.Core.Path.{◌≡◌, sym, ap, ◌∙◌}
use Rattle.layout.specs.Rules.{verdict}
use Rattle.layout.specs.Answers.{verdict_is}
use Rattle.layout.specs.declared.Refusal.{Refusal}
use Rattle.layout.specs.Faults.{Lowest, Fault}
use Rattle.layout.proofs.Exactly.{accepted-exactly, refused-exactly}
use Rattle.layout.proofs.Maps.{one-verdict}

module _ (b : List ℕ) (v : Result (Unit {0}) Refusal) (promise : verdict_is v ≡ verdict b) where
  -- accepted exactly when rules 1 to 16 hold
  pub judge_accepts : (v ≡ Ok tt) ↔ ((k p e : ℕ) → Fault b k p e → ⊥)
  unfolding verdict_is
  judge_accepts = (
    λ h. (accepted-exactly b).0 (sym promise ∙ ap verdict_is h),
    λ h. one-verdict v (Ok tt) (promise ∙ (accepted-exactly b).1 h),
  )

  -- refused exactly so when all rules before hold, and of this rule's faults the lowest entry, then the lowest place, is the refusal's
  pub judge_refuses : (r : Refusal) → (v ≡ Err r) ↔ (((j q d : ℕ) → j < r.number → Fault b j q d → ⊥) × Lowest (Fault b r.number) r.place r.entry)
  unfolding verdict_is
  judge_refuses r = (
    λ h. (refused-exactly b r.number r.place r.entry).0 (sym promise ∙ ap verdict_is h),
    λ h. one-verdict v (Err r) (promise ∙ (refused-exactly b r.number r.place r.entry).1 h),
  )
