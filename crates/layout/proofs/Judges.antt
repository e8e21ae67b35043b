-- What it is that an answer judges a rule: it accepts exactly where there is no fault, and else gives the rule's number and the lowest fault,
-- by entry and then by place. Each way of building a rule has its law.
-- Assumes nothing.
use Prim.Native.Nat.{ℕ, zero, suc, ◌+◌, ◌≤◌, ◌<◌}
use mathlib.Core.Bool.{Bool, true, false}
use mathlib.Core.Logic.{◌↔◌, ◌⊎◌, inl, inr, ⊎_elim}
use mathlib.Core.List.{List, [], ◌∷◌}
use mathlib.Core.Path.{◌≡◌, refl, sym, ◌∙◌, subst}
use native.Mathlib.Omega.{arith}
use native.Mathlib.Nat.{add-zero, le_of_suc-le-suc, not-suc-le-zero}
use lib.Dec.{T}
use lib.ListN.{length, get_or}
use Rattle.layout.specs.Text.{Class, fits}
use Rattle.layout.specs.Answer.{Answer, accepted, refused, need, where', ◌or_else◌}
use Rattle.layout.specs.Search.{first, laid_out}
use Rattle.layout.specs.Faults.{At, Upto, Lowest, Fits, LaidOut, Never}
use Rattle.layout.proofs.Laws.{lt-or-le, not_iff, accepted≢refused, or_else_accepts, or_else_accepted}
use Rattle.layout.proofs.Tests.{fits-T}

pub record Judges (a : Answer) (k : ℕ) (Fault : ℕ → ℕ → Type 0) : Type 0 where
  pub clean : a ≡ accepted → (p e : ℕ) → Fault p e → ⊥
  pub lowest : (n p e : ℕ) → a ≡ refused n p e → (n ≡ k) × Lowest Fault p e

-- faults in other words
pub same_faults : {a : Answer} {k : ℕ} (F G : ℕ → ℕ → Type 0) → ((p e : ℕ) → F p e ↔ G p e) → Judges a k F → Judges a k G
same_faults F G same j = record {
  clean = λ h p e g. j.clean h p e ((same p e).1 g);
  lowest = λ n p e h. let r = j.lowest n p e h in (r.0, ((same p e).0 r.1.0, λ q d g. r.1.1 q d ((same q d).1 g)));
}

-- one test
pub need_judges : {Q : Type 0} (t : Bool) (k p e : ℕ) → ((T t → ⊥) ↔ Q) → Judges (need t k p e) k (λ q d. Q × At q d p e)
need_judges true k p e same = record { clean = λ h q d f. same.1 f.0 tt; lowest = λ n q d h. absurd (accepted≢refused h) }
need_judges false k p e same = record {
  clean = λ h q d f. accepted≢refused (sym h);
  lowest = λ n q d h. let a : k ≡ n = cc in let b : p ≡ q = cc in let c : e ≡ d = cc in
      (sym a, ((same.0 (λ x. x), (sym b, sym c)), λ q' d' f. inr (sym c ∙ sym f.1.1, omega (arith, f.1.0))));
}

-- one test, and what counts only where it passes
pub need_then_judges : {P : Type 0} {b : Answer} {G : ℕ → ℕ → Type 0} (t : Bool) (k p e : ℕ) → (T t ↔ P) → Judges b k G → Judges (need t k p e or_else b) k (λ q d. ((P → ⊥) × At q d p e) ⊎ (P × G q d))
need_then_judges true k p e same j = record {
  clean = λ h q d f. ⊎_elim (λ x. x.0 (same.0 tt)) (λ x. j.clean h q d x.1) f;
  lowest = λ n q d h. let r = j.lowest n q d h in (r.0, (inr (same.0 tt, r.1.0), λ q' d' f. ⊎_elim (λ x. absurd (x.0 (same.0 tt))) (λ x. r.1.1 q' d' x.1) f));
}
need_then_judges {P} {b} {G} false k p e same j = record {
  clean = λ h q d f. accepted≢refused (sym h);
  lowest = λ n q d h.
      let r = (need_judges false k p e (not_iff same)).lowest n q d h in
      (r.0, (inl r.1.0, λ q' d' f. ⊎_elim (λ x. r.1.1 q' d' x) (λ x. absurd (same.1 x.0)) f));
}

-- two tests of which every fault of the first comes before every fault of the second
pub both_judges : {a b : Answer} {k : ℕ} {F G : ℕ → ℕ → Type 0} → ((p e q d : ℕ) → F p e → G q d → Upto p e q d) → Judges a k F → Judges b k G → Judges (a or_else b) k (λ p e. F p e ⊎ G p e)
both_judges {a} {b} {k} {F} {G} in_order j m = record { clean = clean; lowest = lowest a refl }
  where
    clean : (a or_else b) ≡ accepted → (p e : ℕ) → F p e ⊎ G p e → ⊥
    clean h p e f = let s = (or_else_accepts a b).0 h in ⊎_elim (j.clean s.0 p e) (m.clean s.1 p e) f

    lowest : (c : Answer) → a ≡ c → (n p e : ℕ) → (c or_else b) ≡ refused n p e → (n ≡ k) × Lowest (λ p e. F p e ⊎ G p e) p e
    lowest accepted g n p e h =
        let r = m.lowest n p e h in
        (r.0, (inr r.1.0, λ q d f. ⊎_elim (λ x. absurd (j.clean g q d x)) (r.1.1 q d) f))
    lowest (refused n' p' e') g n p e h =
        let r = j.lowest n p e (g ∙ h) in
        (r.0, (inl r.1.0, λ q d f. ⊎_elim (r.1.1 q d) (λ x. in_order p e q d r.1.0 x) f))

-- what is asked only where a test passes
pub where_judges : {Q : Type 0} {a : Answer} {k : ℕ} {F : ℕ → ℕ → Type 0} (t : Bool) → (T t ↔ Q) → (T t → Judges a k F) → Judges (where' t a) k (λ p e. Q × F p e)
where_judges true same j = record {
  clean = λ h p e f. (j tt).clean h p e f.1;
  lowest = λ n p e h. let r = (j tt).lowest n p e h in (r.0, ((same.0 tt, r.1.0), λ q d f. r.1.1 q d f.1));
}
where_judges false same j = record { clean = λ h p e f. absurd (same.1 f.0); lowest = λ n p e h. absurd (accepted≢refused h) }

-- a search
module _ (f : ℕ → Answer) (k : ℕ) (F : ℕ → ℕ → ℕ → Type 0) (each : (j : ℕ) → Judges (f j) k (F j)) (in_order : (i j p e q d : ℕ) → i < j → F i p e → F j q d → Upto p e q d) where
  -- a fault at one of the n numbers from i on
  abbrev From : ℕ → ℕ → ℕ → ℕ → Type 0
  From i n p e = (j : ℕ) × ((i ≤ j) × ((j < i + n) × F j p e))

  first_judges_from : (i n : ℕ) → Judges (first f i n) k (From i n)
  unfolding first
  first_judges_from i zero = record { clean = λ h p e g. omega (arith, g.1.0, g.1.1.0); lowest = λ n p e h. absurd (accepted≢refused h) }
  first_judges_from i (suc n) =
      same_faults (λ p e. F i p e ⊎ From (suc i) n p e) (From i (suc n)) same
      (both_judges (λ p e q d x y. in_order i y.0 p e q d y.1.0 x y.1.1.1) (each i) (first_judges_from (suc i) n))
    where
      to : (p e : ℕ) → F i p e ⊎ From (suc i) n p e → From i (suc n) p e
      to p e (inl x) = (i, (omega arith, (omega arith, x)))
      to p e (inr y) = (y.0, (omega (arith, y.1.0), (omega (arith, y.1.1.0), y.1.1.1)))

      from : (p e : ℕ) (j : ℕ) → i ≤ j → j < i + suc n → F j p e → (i < j) ⊎ (j ≤ i) → F i p e ⊎ From (suc i) n p e
      from p e j l u x (inl h) = inr (j, (h, (omega arith, x)))
      from p e j l u x (inr h) = let q : j ≡ i = omega arith in inl (subst (λ (m : ℕ). F m p e) q x)

      same : (p e : ℕ) → (F i p e ⊎ From (suc i) n p e) ↔ From i (suc n) p e
      same p e = (to p e, λ g. from p e g.0 g.1.0 g.1.1.0 g.1.1.1 (lt-or-le i g.0))

  first_judges : (i n : ℕ) → Judges (first f i n) k (λ p e. (j : ℕ) × ((i ≤ j) × ((j < i + n) × F j p e)))
  first_judges i n = first_judges_from i n

-- a search over entries, each of which refuses with its own number
pub entries_judge : (f : ℕ → Answer) (k n : ℕ) (G : ℕ → ℕ → Type 0) → ((j : ℕ) → Judges (f j) k (λ p e. G j p × (e ≡ j))) → Judges (first f 0 n) k (λ p e. (e < n) × G e p)
entries_judge f k n G each =
    same_faults (λ p e. (j : ℕ) × ((0 ≤ j) × ((j < 0 + n) × (G j p × (e ≡ j))))) (λ p e. (e < n) × G e p)
    (λ p e. (λ x. (omega (arith, x.1.1.0, x.1.1.1.1), subst (λ (j : ℕ). G j p) (sym x.1.1.1.1) x.1.1.1.0), λ x. (e, (omega arith, (omega (arith, x.0), (x.1, refl))))))
    (first_judges f k (λ j p e. G j p × (e ≡ j)) each (λ i j p e q d l x y. inl (omega (arith, x.1, y.1))) 0 n)

-- a search over places, each of which refuses with its own number and one entry
pub places_judge : (f : ℕ → Answer) (k m from n : ℕ) (G : ℕ → Type 0) (place : ℕ → ℕ) → ((i j : ℕ) → i < j → place i ≤ place j) → ((j : ℕ) → Judges (f j) k (λ p e. G j × At p e (place j) m)) → Judges (first f from n) k (λ p e. (j : ℕ) × ((from ≤ j) × ((j < from + n) × (G j × At p e (place j) m))))
places_judge f k m from n G place up each =
    first_judges f k (λ j p e. G j × At p e (place j) m) each
    (λ i j p e q d l x y. inr (x.1.1 ∙ sym y.1.1, let u = up i j l in omega (arith, x.1.0, y.1.0))) from n

-- one place and entry before another
pub in_order_lem : (P Q m p e q d : ℕ) → P ≤ Q → At p e P m → At q d Q m → Upto p e q d
in_order_lem P Q m p e q d l x y = inr (x.1 ∙ sym y.1, omega (arith, x.0, y.0))

-- ---- bytes against a layout

module _ (n e : ℕ) where
  abbrev Misplaced : ℕ → List Class → List ℕ → ℕ → ℕ → Type 0
  Misplaced p ks b q d = (i : ℕ) × ((i < length ks) × ((LaidOut ks b i → ⊥) × At q d (p + i) e))

  laid_out_judges_from : (ks : List Class) (b : List ℕ) (p : ℕ) → Judges (laid_out n e p ks b) n (Misplaced p ks b)
  unfolding laid_out
  laid_out_judges_from [] b p = record { clean = λ h q d f. not-suc-le-zero f.1.0; lowest = λ m q d h. absurd (accepted≢refused h) }
  laid_out_judges_from (k ∷ ks) [] p = record {
    clean = λ h q d f. accepted≢refused (sym h);
    lowest = λ m q d h. let x : n ≡ m = cc in let y : p ≡ q = cc in let z : e ≡ d = cc in
        (sym x, ((0, (omega arith, (λ l. not-suc-le-zero l.0, (sym y ∙ sym (add-zero p), sym z)))), λ q' d' f. inr (sym z ∙ sym f.1.1.1.1, omega (arith, f.1.1.1.0))));
  }
  laid_out_judges_from (k ∷ ks) (x ∷ b) p =
      same_faults (λ q d. ((Fits k x → ⊥) × At q d p e) ⊎ Misplaced (suc p) ks b q d) (Misplaced p (k ∷ ks) (x ∷ b)) (λ q d. (to q d, λ g. from q d g.0 g.1))
      (both_judges (λ q d q' d' u v. inr (u.1.1 ∙ sym v.1.1.1.1, omega (arith, u.1.0, v.1.1.1.0))) (need_judges (fits k x) n p e (not_iff (fits-T k x))) (laid_out_judges_from ks b (suc p)))
    where
      to : (q d : ℕ) → ((Fits k x → ⊥) × At q d p e) ⊎ Misplaced (suc p) ks b q d → Misplaced p (k ∷ ks) (x ∷ b) q d
      to q d (inl u) = (0, (omega arith, (λ l. u.0 l.1, (u.1.0 ∙ sym (add-zero p), u.1.1))))
      to q d (inr v) = (suc v.0, (omega (arith, v.1.0), (λ l. v.1.1.0 (omega (arith, l.0), l.1), (omega (arith, v.1.1.1.0), v.1.1.1.1))))

      from : (q d i : ℕ) → (i < length (k ∷ ks)) × ((LaidOut (k ∷ ks) (x ∷ b) i → ⊥) × At q d (p + i) e) → ((Fits k x → ⊥) × At q d p e) ⊎ Misplaced (suc p) ks b q d
      from q d zero g = inl (λ t. g.1.0 (omega arith, t), (g.1.1.0 ∙ add-zero p, g.1.1.1))
      from q d (suc i) g = inr (i, (omega (arith, g.0), (λ l. g.1.0 (omega (arith, l.0), l.1), (omega (arith, g.1.1.0), g.1.1.1))))

  pub laid_out_judges : (ks : List Class) (b : List ℕ) (p : ℕ) → Judges (laid_out n e p ks b) n (λ q d. (i : ℕ) × ((i < length ks) × ((LaidOut ks b i → ⊥) × At q d (p + i) e)))
  laid_out_judges ks b p = laid_out_judges_from ks b p

-- ---- rules one after the other

-- an answer judges rules k, k + 1 and so on, whose faults are these
pub record JudgesAll (a : Answer) (k : ℕ) (Fs : List (ℕ → ℕ → Type 0)) : Type 1 where
  pub clean : a ≡ accepted → (i p e : ℕ) → get_or Fs i Never p e → ⊥
  pub lowest : (n p e : ℕ) → a ≡ refused n p e → (i : ℕ) × ((n ≡ k + i) × (((j q d : ℕ) → j < i → get_or Fs j Never q d → ⊥) × Lowest (get_or Fs i Never) p e))

no_rules : (k : ℕ) → JudgesAll accepted k []
no_rules k = record { clean = λ h i p e f. f; lowest = λ n p e h. absurd (accepted≢refused h) }

-- a rule more in front; those behind it are looked at only where it has no fault
pub one_more : {a r : Answer} {k : ℕ} {F : ℕ → ℕ → Type 0} {Fs : List (ℕ → ℕ → Type 0)} → Judges r k F → (((p e : ℕ) → F p e → ⊥) → JudgesAll a (suc k) Fs) → JudgesAll (r or_else a) k (F ∷ Fs)
one_more {a} {r} {k} {F} {Fs} j m = record { clean = clean; lowest = lowest r refl }
  where
    behind : r ≡ accepted → JudgesAll a (suc k) Fs
    behind g = m (j.clean g)

    clean : (r or_else a) ≡ accepted → (i p e : ℕ) → get_or (F ∷ Fs) i Never p e → ⊥
    clean h zero p e f = j.clean ((or_else_accepts r a).0 h).0 p e f
    clean h (suc i) p e f = let s = (or_else_accepts r a).0 h in (behind s.0).clean s.1 i p e f

    earlier : r ≡ accepted → (i : ℕ) → ((j q d : ℕ) → j < i → get_or Fs j Never q d → ⊥) → (j q d : ℕ) → j < suc i → get_or (F ∷ Fs) j Never q d → ⊥
    earlier g i h zero q d l f = j.clean g q d f
    earlier g i h (suc j') q d l f = h j' q d (le_of_suc-le-suc l) f

    lowest : (c : Answer) → r ≡ c → (n p e : ℕ) → (c or_else a) ≡ refused n p e → (i : ℕ) × ((n ≡ k + i) × (((j q d : ℕ) → j < i → get_or (F ∷ Fs) j Never q d → ⊥) × Lowest (get_or (F ∷ Fs) i Never) p e))
    lowest accepted g n p e h = let s = (behind g).lowest n p e h in (suc s.0, (omega (arith, s.1.0), (earlier g s.0 s.1.1.0, s.1.1.1)))
    lowest (refused n' p' e') g n p e h = let s = j.lowest n p e (g ∙ h) in (0, (s.0 ∙ sym (add-zero k), (λ j q d l. absurd (not-suc-le-zero l), s.1)))

pub last_rule : {a : Answer} {k : ℕ} {F : ℕ → ℕ → Type 0} → Judges a k F → JudgesAll a k (F ∷ [])
last_rule {a} {k} {F} j = subst (λ (x : Answer). JudgesAll x k (F ∷ [])) (or_else_accepted a) (one_more j (λ clean. no_rules (suc k)))
