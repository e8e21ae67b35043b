-- Replies one after the other: what it says that all give a value, and that one is refused.
-- Assumes nothing.
use Prim.Native.Nat.{ℕ, zero, suc, ◌+◌, ◌-◌, ◌≤◌, ◌<◌}
use mathlib.Core.List.{List, [], ◌∷◌, ◌++◌, map}
use mathlib.Core.Path.{◌≡◌, refl, sym, ap, ◌∙◌}
use native.Mathlib.Omega.{arith}
use native.Mathlib.Nat.{add-zero, zero-add, add-suc, suc-add, le_of_suc-le-suc}
use lib.ListN.{length, get_or}
use Rattle.layout.specs.Answer.{accepted, refused, Reply, refusal, is}
use Rattle.layout.specs.Search.{upto}
use Rattle.layout.proofs.Laws.{accepted≢refused}
use Rattle.layout.proofs.Replies.{refusal≢is}
use Rattle.column.specs.Column.{◌followed_by◌, together, refusal_of}

-- ---- a reply by its refusal

pub is-refused : (reply : Reply (List ℕ)) (n p e : ℕ) → refused n p e ≡ refusal_of reply → reply ≡ refusal n p e
unfolding refusal_of
is-refused (refusal m q d) n p e h = cc
is-refused (is xs) n p e h = absurd (accepted≢refused (sym h))

pub is_answered : (reply : Reply (List ℕ)) → accepted ≡ refusal_of reply → (xs : List ℕ) × (reply ≡ is xs)
unfolding refusal_of
is_answered (refusal n p e) h = absurd (accepted≢refused h)
is_answered (is xs) h = (xs, refl)

pub values_are : {xs ys : List ℕ} → ◌≡◌ {A = Reply (List ℕ)} (is xs) (is ys) → xs ≡ ys
values_are h = cc

-- ---- one after the other

-- a value before others
one_value : (r : Reply ℕ) (rs : List (Reply ℕ)) (xs : List ℕ) → together (r ∷ rs) ≡ is xs → (x : ℕ) × (ys : List ℕ) × ((r ≡ is x) × ((together rs ≡ is ys) × (xs ≡ x ∷ ys)))
unfolding together ◌followed_by◌
one_value (refusal n p e) rs xs h = absurd (refusal≢is n p e xs h)
one_value (is x) rs xs h = go (together rs) refl h
  where
    go : (r : Reply (List ℕ)) → together rs ≡ r → (x followed_by r) ≡ is xs → (y : ℕ) × (ys : List ℕ) × ((◌≡◌ {A = Reply ℕ} (is x) (is y)) × ((together rs ≡ is ys) × (xs ≡ y ∷ ys)))
    go (refusal n p e) q h = absurd (refusal≢is n p e xs h)
    go (is ys) q h = (x, ys, (refl, (q, cc)))

-- a refusal as that of another kind of reply
same : (p q d a b c : ℕ) → ◌≡◌ {A = Reply (List ℕ)} (refusal p q d) (refusal a b c) → ◌≡◌ {A = Reply ℕ} (refusal p q d) (refusal a b c)
same p q d a b c h =
    let x : p ≡ a = cc in
    let y : q ≡ b = cc in
    let z : d ≡ c = cc in
    rw (x, y, z)

-- a refusal behind a value is the rest's
tail_refused : (x : ℕ) (r : Reply (List ℕ)) (a b c : ℕ) → (x followed_by r) ≡ refusal a b c → r ≡ refusal a b c
unfolding ◌followed_by◌
tail_refused x (refusal p q d) a b c h = h
tail_refused x (is ys) a b c h = absurd (refusal≢is a b c (x ∷ ys) (sym h))

module _ (f : ℕ → Reply ℕ) where
  -- all give a value
  pub all-values : (g : ℕ → ℕ) (i k n : ℕ) → ((j : ℕ) → j < n → f (i + j) ≡ is (g (k + j))) → together (map f (upto i n)) ≡ is (map g (upto k n))
  unfolding together ◌followed_by◌
  all-values g i k zero h = refl
  all-values g i k (suc n) h =
      let e = rw (add-zero i, add-zero k) at (h 0 (omega arith)) in
      rw (e, all-values g (suc i) (suc k) n (λ j l. rw (add-suc i j, ← suc-add i j, add-suc k j, ← suc-add k j) at (h (suc j) (omega arith))))

  -- each value is the request's own, and they are as many
  pub each_value : (i n : ℕ) (xs : List ℕ) → together (map f (upto i n)) ≡ is xs → (length xs ≡ n) × ((k : ℕ) → k < n → f (i + k) ≡ is (get_or xs k 0))
  unfolding together
  each_value i zero xs h = let e : [] ≡ xs = cc in (rw (← e), λ k l. absurd (omega arith))
  each_value i (suc n) xs h =
      let v = one_value (f i) (map f (upto (suc i) n)) xs h in
      go v.0 v.1 v.2.0 v.2.1.1 (each_value (suc i) n v.1 v.2.1.0)
    where
      go : (x : ℕ) (ys : List ℕ) → f i ≡ is x → xs ≡ x ∷ ys → (length ys ≡ n) × ((k : ℕ) → k < n → f (suc i + k) ≡ is (get_or ys k 0))
          → (length xs ≡ suc n) × ((k : ℕ) → k < suc n → f (i + k) ≡ is (get_or xs k 0))
      go x ys e q below = rw q (ap suc below.0, at)
        where
          at : (k : ℕ) → k < suc n → f (i + k) ≡ is (get_or (x ∷ ys) k 0)
          at zero l = rw (add-zero i) e
          at (suc k) l = rw (add-suc i k, ← suc-add i k) (below.1 k (le_of_suc-le-suc l))

  -- what comes behind values that are there
  behind : List ℕ → Reply (List ℕ) → Reply (List ℕ)
  behind xs (refusal n p e) = refusal n p e
  behind xs (is ys) = is (xs ++ ys)

  behind-none : (r : Reply (List ℕ)) → r ≡ behind [] r
  unfolding behind
  behind-none (refusal n p e) = refl
  behind-none (is ys) = refl

  behind-one : (x : ℕ) (xs : List ℕ) (r : Reply (List ℕ)) → (x followed_by behind xs r) ≡ behind (x ∷ xs) r
  unfolding behind ◌followed_by◌
  behind-one x xs (refusal n p e) = refl
  behind-one x xs (is ys) = refl

  in_two : (d i m : ℕ) (xs : List ℕ) → together (map f (upto i d)) ≡ is xs → together (map f (upto i (d + m))) ≡ behind xs (together (map f (upto (i + d) m)))
  unfolding together
  in_two zero i m xs h = let e : [] ≡ xs = cc in rw (← e, zero-add m, add-zero i) (behind-none (together (map f (upto i m))))
  in_two (suc d) i m xs h =
      let v = one_value (f i) (map f (upto (suc i) d)) xs h in
      go v.0 v.1 v.2.0 v.2.1.1 (in_two d (suc i) m v.1 v.2.1.0)
    where
      go : (x : ℕ) (ys : List ℕ) → f i ≡ is x → xs ≡ x ∷ ys → together (map f (upto (suc i) (d + m))) ≡ behind ys (together (map f (upto (suc i + d) m)))
          → together (map f (upto i (suc d + m))) ≡ behind xs (together (map f (upto (i + suc d) m)))
      go x ys e q below = rw (suc-add d m, e, below, q, behind-one x ys (together (map f (upto (suc i + d) m))), add-suc i d, suc-add i d)

  -- a refusal, whatever comes behind
  stays_refused : (n i m a b c : ℕ) → together (map f (upto i n)) ≡ refusal a b c → together (map f (upto i (n + m))) ≡ refusal a b c
  unfolding together ◌followed_by◌
  stays_refused zero i m a b c h = absurd (refusal≢is a b c [] (sym h))
  stays_refused (suc n) i m a b c h = rw (suc-add n m) (go (f i) h (stays_refused n (suc i) m a b c))
    where
      go : (r : Reply ℕ) → together (r ∷ map f (upto (suc i) n)) ≡ refusal a b c
          → (together (map f (upto (suc i) n)) ≡ refusal a b c → together (map f (upto (suc i) (n + m))) ≡ refusal a b c) → together (r ∷ map f (upto (suc i) (n + m))) ≡ refusal a b c
      go (refusal p q d) h below = h
      go (is x) h below = rw (below (tail_refused x (together (map f (upto (suc i) n))) a b c h))

  module _ (i d : ℕ) (xs : List ℕ) (had : together (map f (upto i d)) ≡ is xs) where
    -- more values behind those
    pub more_values : (n : ℕ) (ys : List ℕ) → d ≤ n → together (map f (upto (i + d) (n - d))) ≡ is ys → together (map f (upto i n)) ≡ is (xs ++ ys)
    unfolding behind
    more_values n ys l h =
        let e : n ≡ d + (n - d) = omega arith in
        ap (λ (k : ℕ). together (map f (upto i k))) e ∙ in_two d i (n - d) xs had ∙ rw h

    -- a refusal behind those: of the next, or among the next `m`
    pub then_refused : (n a b c : ℕ) → d < n → f (i + d) ≡ refusal a b c → together (map f (upto i n)) ≡ refusal a b c
    unfolding behind together
    then_refused n a b c l h =
        let e : n ≡ d + suc (n - suc d) = omega arith in
        ap (λ (k : ℕ). together (map f (upto i k))) e ∙ in_two d i (suc (n - suc d)) xs had ∙ rw h

    pub some_refused : (m n a b c : ℕ) → d + m ≤ n → together (map f (upto (i + d) m)) ≡ refusal a b c → together (map f (upto i n)) ≡ refusal a b c
    unfolding behind
    some_refused m n a b c l h =
        let e : n ≡ d + (m + (n - d - m)) = omega arith in
        ap (λ (k : ℕ). together (map f (upto i k))) e ∙ in_two d i (m + (n - d - m)) xs had ∙ rw (stays_refused m (i + d) (n - d - m) a b c h)

  -- a refusal is the first refused request's own
  pub first-refusal : (i n a b c : ℕ) → together (map f (upto i n)) ≡ refusal a b c
      → (k : ℕ) × (k < n) × (f (i + k) ≡ refusal a b c) × ((j : ℕ) → j < k → (x : ℕ) × (f (i + j) ≡ is x))
  unfolding together ◌followed_by◌
  first-refusal i zero a b c h = absurd (refusal≢is a b c [] (sym h))
  first-refusal i (suc n) a b c h = go (f i) refl h (first-refusal (suc i) n a b c)
    where
      later : (x : ℕ) → f i ≡ is x → (k : ℕ) × (k < n) × (f (suc i + k) ≡ refusal a b c) × ((j : ℕ) → j < k → (x : ℕ) × (f (suc i + j) ≡ is x)) → (k : ℕ) × (k < suc n) × (f (i + k) ≡ refusal a b c) × ((j : ℕ) → j < k → (x : ℕ) × (f (i + j) ≡ is x))
      later x e (k, l, q, before) = (suc k, omega arith, rw (add-suc i k, ← suc-add i k) q, all)
        where
          all : (j : ℕ) → j < suc k → (x : ℕ) × (f (i + j) ≡ is x)
          all zero l = (x, rw (add-zero i) e)
          all (suc j) l = rw (add-suc i j, ← suc-add i j) (before j (le_of_suc-le-suc l))

      go : (r : Reply ℕ) → f i ≡ r → together (r ∷ map f (upto (suc i) n)) ≡ refusal a b c
          → (together (map f (upto (suc i) n)) ≡ refusal a b c → (k : ℕ) × (k < n) × (f (suc i + k) ≡ refusal a b c) × ((j : ℕ) → j < k → (x : ℕ) × (f (suc i + j) ≡ is x)))
          → (k : ℕ) × (k < suc n) × (f (i + k) ≡ refusal a b c) × ((j : ℕ) → j < k → (x : ℕ) × (f (i + j) ≡ is x))
      go (refusal p q d) e h below = (0, omega arith, rw (add-zero i) (e ∙ h'), λ j l. absurd (omega arith))
        where
          h' : ◌≡◌ {A = Reply ℕ} (refusal p q d) (refusal a b c)
          h' = same p q d a b c h
      go (is x) e h below = later x e (below (tail_refused x (together (map f (upto (suc i) n))) a b c h))
