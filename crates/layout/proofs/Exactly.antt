-- Demand 3, "exactly when", and demand 1's number, place and entry: the verdict accepts exactly where rules 1 to 16 have no fault, and refuses
-- with number, place and entry exactly where that is the lowest fault of the first rule that has one.
-- Assumes nothing.
use Prim.Native.Nat.{ℕ, zero, suc, ◌≤◌, ◌<◌}
use mathlib.Core.Logic.{◌↔◌, ◌⊎◌, inl, inr}
use mathlib.Core.List.{List}
use mathlib.Core.Path.{◌≡◌, refl, sym, subst}
use native.Mathlib.Omega.{arith}
use native.Mathlib.Nat.{le_of_suc-le-suc}
use lib.ListN.{length, get_or}
use Rattle.layout.specs.Answer.{Answer, accepted, refused}
use Rattle.layout.specs.Entries.{headers_end, directory}
use Rattle.layout.specs.Rules.{rule12, rule13, rule14, rules1to6, rules7to14, header_rules, state_rules, verdict_from, verdict}
use Rattle.layout.proofs.Laws.{lt-or-le, or_else_assoc}
use Rattle.layout.specs.Faults.{Upto, Lowest, Never, faults, Fault}
use Rattle.layout.proofs.Judges.{JudgesAll, one_more, last_rule}
use Rattle.layout.proofs.Faults.{judges1, judges2, judges3, judges4, judges5, judges6, judges7, judges8, judges9, judges10, judges11, judges12, judges13, judges14, judges15, judges16}

module _ (b : List ℕ) where
  judges_all : JudgesAll (verdict b) 1 (faults b)
  unfolding verdict verdict_from header_rules rules1to6 rules7to14 state_rules rule12 rule13 rule14
  judges_all =
      let n = length b in
      let ds = directory b in
      let h = headers_end b in
      simp or_else_assoc
      (one_more (judges1 b n) λ _.
      one_more (judges2 b n) λ _.
      one_more (judges3 b n) λ _.
      one_more (judges4 b n) λ _.
      one_more (judges5 b n) λ _.
      one_more (judges6 b n) λ _.
      one_more (judges7 b n) λ _.
      one_more (judges8 b n) λ _.
      one_more (judges9 b n) λ _.
      one_more (judges10 b n) λ _.
      one_more (judges11 b n) λ _.
      one_more (judges12 ds h n) λ _.
      one_more (judges13 ds h n) λ _.
      one_more (judges14 ds h n) λ _.
      one_more (judges15 b ds) λ states.
      last_rule (judges16 b ds states))

  -- what a refusal says
  abbrev First : ℕ → ℕ → ℕ → Type 0
  First k p e = ((j q d : ℕ) → j < k → Fault b j q d → ⊥) × Lowest (Fault b k) p e

  earlier : (i : ℕ) → ((j q d : ℕ) → j < i → get_or (faults b) j Never q d → ⊥) → (j q d : ℕ) → j < suc i → Fault b j q d → ⊥
  earlier i h zero q d l f = f
  earlier i h (suc j) q d l f = h j q d (le_of_suc-le-suc l) f

  refused-first : (k p e : ℕ) → verdict b ≡ refused k p e → First k p e
  refused-first k p e h =
      let r = judges_all.lowest k p e h in
      let q : k ≡ suc r.0 = omega (arith, r.1.0) in
      subst (λ (m : ℕ). First m p e) (sym q) (earlier r.0 r.1.1.0, r.1.1.1)

  accepted_clean : verdict b ≡ accepted → (k p e : ℕ) → Fault b k p e → ⊥
  accepted_clean h zero p e f = f
  accepted_clean h (suc k) p e f = judges_all.clean h k p e f

  -- two lowest faults are one
  one-lowest : (F : ℕ → ℕ → Type 0) (p e q d : ℕ) → Lowest F p e → Lowest F q d → (q ≡ p) × (d ≡ e)
  one-lowest F p e q d x y = go (x.1 q d y.0) (y.1 p e x.0)
    where
      go : Upto p e q d → Upto q d p e → (q ≡ p) × (d ≡ e)
      go (inl u) (inl v) = absurd (omega arith)
      go (inl u) (inr v) = absurd (omega (arith, v.0))
      go (inr u) (inl v) = absurd (omega (arith, u.0))
      go (inr u) (inr v) = (omega (arith, u.1, v.1), omega (arith, u.0))

  one-first : (k p e m q d : ℕ) → First k p e → First m q d → refused m q d ≡ refused k p e
  one-first k p e m q d x y = go (lt-or-le k m) (lt-or-le m k)
    where
      go : (k < m) ⊎ (m ≤ k) → (m < k) ⊎ (k ≤ m) → refused m q d ≡ refused k p e
      go (inl l) u = absurd (y.0 k p e l x.1.0)
      go (inr l) (inl u) = absurd (x.0 m q d u y.1.0)
      go (inr l) (inr u) =
          let s : m ≡ k = omega arith in
          let r = one-lowest (Fault b k) p e q d x.1 (subst (λ (j : ℕ). Lowest (Fault b j) q d) s y.1) in
          rw (s, r.0, r.1)

  -- accepted exactly when rules 1 to 16 hold: no rule has a fault
  pub accepted-exactly : (verdict b ≡ accepted) ↔ ((k p e : ℕ) → Fault b k p e → ⊥)
  accepted-exactly = (accepted_clean, go (verdict b) refl)
    where
      go : (a : Answer) → verdict b ≡ a → ((k p e : ℕ) → Fault b k p e → ⊥) → a ≡ accepted
      go accepted g h = refl
      go (refused k p e) g h = absurd (h k p e (refused-first k p e g).1.0)

  -- a refusal is the lowest: all rules before hold, and this rule fails at that place and entry, at no lower entry and no lower place
  pub refused-exactly : (k p e : ℕ) → (verdict b ≡ refused k p e) ↔ (((j q d : ℕ) → j < k → Fault b j q d → ⊥) × Lowest (Fault b k) p e)
  refused-exactly k p e = (refused-first k p e, go (verdict b) refl)
    where
      go : (a : Answer) → verdict b ≡ a → First k p e → a ≡ refused k p e
      go accepted g h = absurd (accepted_clean g k p e h.1.0)
      go (refused m q d) g h = one-first k p e m q d h (refused-first m q d g)
