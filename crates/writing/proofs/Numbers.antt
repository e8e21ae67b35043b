-- The laws of numbers in digits: the last digit is put behind the others, and how many digits there are.
-- Assumes nothing.
use Prim.Native.Nat.{ℕ, zero, suc, ◌+◌, ◌^◌, ◌/◌, ◌%◌, ◌≤◌, ◌<◌}
use mathlib.Core.Bool.{Bool, true, false, cond}
use mathlib.Core.Logic.{◌⊎◌, inl, inr}
use mathlib.Core.Path.{◌≡◌, refl, sym, ap, ◌∙◌}
use mathlib.Core.List.{List, [], ◌∷◌, ◌++◌}
use native.Mathlib.Omega.{arith}
use lib.Dec.{ltb}
use lib.ListN.{length, length-append}
use lib.Seq.{append_snoc}
use borrow.Author.Tests.{lt-ltb, le-ltb, ltb-false}
use Rattle.layout.specs.Listing.{digits_before, decimal}
use Rattle.layout.proofs.Laws.{lt-or-le}
use Rattle.writing.specs.Put.{Put}
use Rattle.writing.proofs.Puts.{then, at_most}

-- enough turns all give the same digits, and those before what follows
enough : (t u n : ℕ) (rest : List ℕ) → n ≤ t → n ≤ u → digits_before t n rest ≡ digits_before u n [] ++ rest
unfolding digits_before
enough zero zero n rest h k = refl
enough zero (suc u) n rest h k = let e : n ≡ 0 = omega arith in rw e
enough (suc t) zero n rest h k = let e : n ≡ 0 = omega arith in rw e
enough (suc t) (suc u) n rest h k =
    go (ltb n 10) refl
    (λ l. enough t u (n / 10) ((48 + n % 10) ∷ rest) (omega arith) (omega arith))
    (λ l. enough u u (n / 10) ((48 + n % 10) ∷ []) (omega arith) (omega arith))
  where
    go : (c : Bool) → ltb n 10 ≡ c
        → (10 ≤ n → digits_before t (n / 10) ((48 + n % 10) ∷ rest) ≡ digits_before u (n / 10) [] ++ (48 + n % 10) ∷ rest)
        → (10 ≤ n → digits_before u (n / 10) ((48 + n % 10) ∷ []) ≡ digits_before u (n / 10) [] ++ (48 + n % 10) ∷ [])
        → cond c ((48 + n) ∷ rest) (digits_before t (n / 10) ((48 + n % 10) ∷ rest)) ≡ cond c ((48 + n) ∷ []) (digits_before u (n / 10) ((48 + n % 10) ∷ [])) ++ rest
    go true e f g = refl
    go false e f g = let l : 10 ≤ n = ltb-false n 10 e in f l ∙ sym (ap (λ (x : List ℕ). x ++ rest) (g l) ∙ append_snoc (digits_before u (n / 10) []) (48 + n % 10) rest)

pub one-digit : (n : ℕ) → n < 10 → decimal n ≡ (48 + n) ∷ []
unfolding decimal digits_before
one-digit n h = go n h
  where
    go : (k : ℕ) → k < 10 → digits_before k k [] ≡ (48 + k) ∷ []
    go zero l = refl
    go (suc k) l = rw (lt-ltb (suc k) 10 l)

pub last-digit : (n : ℕ) → 10 ≤ n → decimal n ≡ decimal (n / 10) ++ (48 + n % 10) ∷ []
unfolding decimal digits_before
last-digit n h = go n h refl
  where
    go : (k : ℕ) → 10 ≤ k → k ≡ n → digits_before k n [] ≡ digits_before (n / 10) (n / 10) [] ++ (48 + n % 10) ∷ []
    go zero l e = absurd (omega arith)
    go (suc k) l e =
        ap (λ (c : Bool). cond c ((48 + n) ∷ []) (digits_before k (n / 10) ((48 + n % 10) ∷ []))) (le-ltb n 10 h)
        ∙ enough k (n / 10) (n / 10) ((48 + n % 10) ∷ []) (omega arith) (omega arith)

-- a number below a power of ten has no more digits than the power has zeros
pub digits_below : (w n : ℕ) → n < 10 ^ suc w → length (decimal n) ≤ suc w
digits_below zero n h = rw (one-digit n (omega arith)) (omega arith)
digits_below (suc w) n h = go (lt-or-le n 10) (digits_below w (n / 10))
  where
    go : (n < 10) ⊎ (10 ≤ n) → (n / 10 < 10 ^ suc w → length (decimal (n / 10)) ≤ suc w) → length (decimal n) ≤ suc (suc w)
    go (inl l) below = rw (one-digit n l) (omega arith)
    go (inr l) below =
        let small : n / 10 < 10 ^ suc w = omega arith in
        rw (last-digit n l, length-append (decimal (n / 10)) ((48 + n % 10) ∷ [])) (omega (arith, below small))

-- 2^64 is below 10^20
pub digits_64 : (n : ℕ) → n < 18446744073709551616 → length (decimal n) ≤ 20
digits_64 n h = digits_below 19 n (omega arith)

-- ---- what the writer of digits puts

module _ (n : ℕ) {old new : List ℕ} {at r : ℕ} where
  pub put_one_digit : n < 10 → Put 1 ((48 + n) ∷ []) old new at r → Put 20 (decimal n) old new at r
  put_one_digit h p = rw (one-digit n h) (at_most 20 p (omega arith))

  pub put_last_digit : {mid : List ℕ} {m : ℕ} → 10 ≤ n → n < 18446744073709551616 → Put 20 (decimal (n / 10)) old mid at m → Put 1 ((48 + n % 10) ∷ []) mid new m r → Put 20 (decimal n) old new at r
  put_last_digit h l p q = at_most 20 (rw (← last-digit n h) at (then p q)) (digits_64 n l)
