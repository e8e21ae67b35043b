-- An SPH line as it is tested byte by byte, against what document 01 says it is: parts put one behind the other (specs/Faults, SphLine).
-- Assumes nothing.
use Prim.Native.Nat.{ℕ, zero, suc, ◌≤◌}
use mathlib.Core.Bool.{Bool, true, false, cond, ◌&&◌, ◌||◌}
use mathlib.Core.Logic.Iff
use mathlib.Core.Logic.{◌↔◌, ◌⊎◌, inl, inr}
use mathlib.Core.List.{List, [], ◌∷◌, ◌++◌, append_assoc}
use mathlib.Core.Path.{◌≡◌, refl, sym, ap, ◌∙◌, subst}
use native.Mathlib.Omega.{arith}
use lib.Dec.{T, eqb, leb}
use lib.ListN.{length, take, get_or, replicate}
use lib.Seq.{take-suc}
use borrow.Author.Tests.{eq-eqb, ne_eqb}
use Rattle.layout.specs.Bytes.{byte_at, within}
use Rattle.layout.specs.Text.{plain, fits}
use Rattle.layout.specs.Search.{All}
use Rattle.layout.specs.Sph.{ended, blanks, unquoted, quoted, value, keyword, line, line_begins}
use Rattle.layout.specs.Faults.{PlainByte, Letter, KeywordByte, Quoted, Unquoted, SphLine, LineBegins}
use Rattle.layout.proofs.Laws.{either_iff, and_T, or-T, leb-T, eqb-T}
use Rattle.layout.proofs.Tests.{fits-T}

nil≢append : (xs : List ℕ) (y : ℕ) (ys : List ℕ) → [] ≡ xs ++ y ∷ ys → ⊥
nil≢append [] y ys e = let z : ◌≡◌ {A = ℕ} 0 1 = cc in omega arith
nil≢append (x ∷ xs) y ys e = let z : ◌≡◌ {A = ℕ} 0 1 = cc in omega arith

-- ---- bytes that pass, up to a byte that ends them, and what is asked of the rest

module _ (good : ℕ → Bool) (stop : ℕ) (rest : List ℕ → Bool) where
  run : List ℕ → Bool
  run [] = false
  run (x ∷ xs) = let r = run xs in cond (eqb x stop) (rest xs) (good x && r)

  module _ (Good : ℕ → Type 0) (Rest : List ℕ → Type 0) (good-T : (x : ℕ) → T (good x) ↔ Good x) (rest-T : (l : List ℕ) → T (rest l) ↔ Rest l) (apart : Good stop → ⊥) where
    abbrev Run : List ℕ → Type 0
    Run l = (xs : List ℕ) × ((after : List ℕ) × ((l ≡ xs ++ stop ∷ after) × (All Good xs × Rest after)))

    run_T : (l : List ℕ) → T (run l) ↔ Run l
    unfolding run
    run_T [] = (λ h. absurd h, λ h. nil≢append h.0 stop h.1.0 h.1.1.0)
    run_T (x ∷ l) = (to (eqb x stop) refl (run_T l), λ h. from h.0 h.1.0 h.1.1.0 h.1.1.1 (run_T l))
      where
        to : (t : Bool) → eqb x stop ≡ t → T (run l) ↔ Run l → T (cond t (rest l) (good x && run l)) → Run (x ∷ l)
        to true e below h =
            let q : x ≡ stop = (eqb-T x stop).0 (rw e tt) in
            ([], (l, (rw q, (tt, (rest-T l).0 h))))
        to false e below h =
            let r = (and_T (good x) (run l)).0 h in
            let s = below.0 r.1 in
            (x ∷ s.0, (s.1.0, (ap (λ (m : List ℕ). x ∷ m) s.1.1.0, (((good-T x).0 r.0, s.1.1.1.0), s.1.1.1.1))))

        from : (xs after : List ℕ) → x ∷ l ≡ xs ++ stop ∷ after → All Good xs × Rest after → T (run l) ↔ Run l → T (cond (eqb x stop) (rest l) (good x && run l))
        from [] after e h below =
            let q : x ≡ stop = cc in
            let m : after ≡ l = cc in
            rw (eq-eqb x stop q) ((rest-T l).1 (subst Rest m h.1))
        from (y ∷ ys) after e h below =
            let q : y ≡ x = cc in
            let g : Good x = subst Good q h.0.0 in
            let n : eqb x stop ≡ false = ne_eqb x stop (λ z. apart (subst Good z g)) in
            rw n ((and_T (good x) (run l)).1 ((good-T x).1 g, below.1 (ys, (after, (cc, (h.0.1, h.1))))))

-- ---- the tests of specs/Sph are such runs

anything : List ℕ → Bool
anything l = true

is_blank : ℕ → Bool
is_blank x = eqb x 32

is-keyword : ℕ → Bool
is-keyword x = within 65 90 x || (within 48 57 x || eqb x 95)

either : (t u : Bool) → (t || u) ≡ cond t true u
either true u = refl
either false u = refl

blanks_run : (l : List ℕ) → blanks l ≡ run is_blank 10 anything l
unfolding blanks run anything is_blank
blanks_run [] = refl
blanks_run (x ∷ l) = rw (blanks_run l) (either (eqb x 10) (eqb x 32 && run is_blank 10 anything l))

unquoted_run : (l : List ℕ) → unquoted l ≡ run (fits plain) 10 anything l
unfolding unquoted run anything
unquoted_run [] = refl
unquoted_run (x ∷ l) = rw (unquoted_run l) (either (eqb x 10) (fits plain x && run (fits plain) 10 anything l))

quoted_run : (l : List ℕ) → quoted l ≡ run (fits plain) 34 ended l
unfolding quoted run
quoted_run [] = refl
quoted_run (x ∷ l) = rw (quoted_run l)

keyword_run : (l : List ℕ) → keyword l ≡ run is-keyword 61 value l
unfolding keyword run is-keyword
keyword_run [] = refl
keyword_run (x ∷ l) = rw (keyword_run l)

-- ---- what each says

abbrev Anything : List ℕ → Type 0
Anything l = Unit {0}

anything_T : (l : List ℕ) → T (anything l) ↔ Anything l
unfolding anything
anything_T l = (λ h. tt, λ h. tt)

blank_T : (x : ℕ) → T (is_blank x) ↔ (x ≡ 32)
unfolding is_blank
blank_T x = eqb-T x 32

all_blank : (xs : List ℕ) → All (λ x. x ≡ 32) xs → xs ≡ replicate (length xs) 32
all_blank [] h = refl
all_blank (x ∷ xs) h = let e = all_blank xs h.1 in let q = h.0 in λ i. q i ∷ e i

blank_all : (n : ℕ) → All (λ (x : ℕ). x ≡ 32) (replicate n 32)
blank_all zero = tt
blank_all (suc n) = (refl, blank_all n)

blanks-T : (l : List ℕ) → T (blanks l) ↔ ((n : ℕ) × ((after : List ℕ) × (l ≡ replicate n 32 ++ 10 ∷ after)))
blanks-T l = rw (blanks_run l)
    (Iff.trans (run_T is_blank 10 anything (λ x. x ≡ 32) Anything blank_T anything_T (λ e. omega arith) l) (
      λ h. (length h.0, (h.1.0, h.1.1.0 ∙ ap (λ (xs : List ℕ). xs ++ 10 ∷ h.1.0) (all_blank h.0 h.1.1.1.0))),
      λ h. (replicate h.0 32, (h.1.0, (h.1.1, (blank_all h.0, tt)))),
    ))

plain-T : (x : ℕ) → T (fits plain x) ↔ PlainByte x
plain-T x = fits-T plain x

unquoted-T : (l : List ℕ) → T (unquoted l) ↔ ((xs : List ℕ) × ((after : List ℕ) × ((l ≡ xs ++ 10 ∷ after) × (All PlainByte xs × Anything after))))
unquoted-T l = rw (unquoted_run l) (run_T (fits plain) 10 anything PlainByte Anything plain-T anything_T (λ h. omega (arith, h.0.0)) l)

abbrev Ended : List ℕ → Type 0
Ended l = (after : List ℕ) × (l ≡ 10 ∷ after)

ended-T : (l : List ℕ) → T (ended l) ↔ Ended l
unfolding ended
ended-T [] = (λ h. absurd h, λ h. nil≢append [] 10 h.0 h.1)
ended-T (x ∷ l) = Iff.trans (eqb-T x 10) (λ e. (l, rw e), λ h. let e = h.1 in cc)

quoted-T : (l : List ℕ) → T (quoted l) ↔ ((xs : List ℕ) × ((after : List ℕ) × ((l ≡ xs ++ 34 ∷ after) × (All PlainByte xs × Ended after))))
quoted-T l = rw (quoted_run l) (run_T (fits plain) 34 ended PlainByte Ended plain-T ended-T (λ h. h.1 refl) l)

-- a value, byte 10 and anything
abbrev Valued : List ℕ → Type 0
Valued l = (v : List ℕ) × ((after : List ℕ) × ((l ≡ v ++ 10 ∷ after) × (Quoted v ⊎ Unquoted v)))

quote_back : (xs after : List ℕ) → (xs ++ 34 ∷ []) ++ 10 ∷ after ≡ xs ++ 34 ∷ 10 ∷ after
quote_back xs after = append_assoc xs (34 ∷ []) (10 ∷ after)

value-T : (l : List ℕ) → T (value l) ↔ Valued l
unfolding value
value-T [] = (λ h. absurd h, λ h. nil≢append h.0 10 h.1.0 h.1.1.0)
value-T (x ∷ l) = (to (eqb x 34) refl, λ h. from h.0 h.1.0 h.1.1.0 h.1.1.1)
  where
    to : (t : Bool) → eqb x 34 ≡ t → T (cond t (quoted l) (fits plain x && unquoted l)) → Valued (x ∷ l)
    to true e h =
        let q : x ≡ 34 = (eqb-T x 34).0 (rw e tt) in
        let r = (quoted-T l).0 h in
        let xs = r.0 in
        let s = r.1.1.1.1 in
        let m : l ≡ (xs ++ 34 ∷ []) ++ 10 ∷ s.0 = r.1.1.0 ∙ ap (λ (a : List ℕ). xs ++ 34 ∷ a) s.1 ∙ sym (quote_back xs s.0) in
        (34 ∷ (xs ++ 34 ∷ []), (s.0, (λ i. q i ∷ m i, inl (xs, (refl, r.1.1.1.0)))))
    to false e h =
        let r = (and_T (fits plain x) (unquoted l)).0 h in
        let s = (unquoted-T l).0 r.1 in
        (x ∷ s.0, (s.1.0, (ap (λ (m : List ℕ). x ∷ m) s.1.1.0, inr (x, (s.0, (refl, ((plain-T x).0 r.0, s.1.1.1.0)))))))

    from : (v after : List ℕ) → x ∷ l ≡ v ++ 10 ∷ after → Quoted v ⊎ Unquoted v → T (cond (eqb x 34) (quoted l) (fits plain x && unquoted l))
    from v after e (inl h) =
        let xs = h.0 in
        let f : x ∷ l ≡ 34 ∷ ((xs ++ 34 ∷ []) ++ 10 ∷ after) = e ∙ ap (λ (w : List ℕ). w ++ 10 ∷ after) h.1.0 in
        let q : x ≡ 34 = cc in
        let m : l ≡ (xs ++ 34 ∷ []) ++ 10 ∷ after = cc in
        rw (eq-eqb x 34 q) ((quoted-T l).1 (xs, (10 ∷ after, (m ∙ quote_back xs after, (h.1.1, (after, refl))))))
    from v after e (inr h) =
        let y = h.0 in
        let ys = h.1.0 in
        let f : x ∷ l ≡ y ∷ (ys ++ 10 ∷ after) = e ∙ ap (λ (w : List ℕ). w ++ 10 ∷ after) h.1.1.0 in
        let q : y ≡ x = cc in
        let m : l ≡ ys ++ 10 ∷ after = cc in
        let g : PlainByte x = subst PlainByte q h.1.1.1.0 in
        rw (ne_eqb x 34 g.1) ((and_T (fits plain x) (unquoted l)).1 ((plain-T x).1 g, (unquoted-T l).1 (ys, (after, (m, (h.1.1.1.1, tt))))))

keyword_byte_T : (x : ℕ) → T (is-keyword x) ↔ KeywordByte x
unfolding is-keyword
keyword_byte_T x =
    Iff.trans (or-T (within 65 90 x) (within 48 57 x || eqb x 95))
    (either_iff (simp (and_T, leb-T) Iff.rfl) (Iff.trans (or-T (within 48 57 x) (eqb x 95)) (either_iff (simp (and_T, leb-T) Iff.rfl) (eqb-T x 95))))

not_61 : KeywordByte 61 → ⊥
not_61 (inl h) = omega (arith, h.0)
not_61 (inr (inl h)) = omega (arith, h.1)
not_61 (inr (inr h)) = omega (arith, h)

keyword-T : (l : List ℕ) → T (keyword l) ↔ ((xs : List ℕ) × ((after : List ℕ) × ((l ≡ xs ++ 61 ∷ after) × (All KeywordByte xs × Valued after))))
keyword-T l = rw (keyword_run l) (run_T is-keyword 61 value KeywordByte Valued keyword_byte_T value-T not_61 l)

-- ---- a line

-- a line, and anything behind it
abbrev Lined : List ℕ → Type 0
Lined l = (k : List ℕ) × ((after : List ℕ) × ((l ≡ k ++ after) × SphLine k))

named-line : (k v after : List ℕ) → k ++ 61 ∷ (v ++ 10 ∷ after) ≡ (k ++ 61 ∷ (v ++ 10 ∷ [])) ++ after
named-line k v after = sym (append_assoc k (61 ∷ (v ++ 10 ∷ [])) after ∙ ap (λ (w : List ℕ). k ++ 61 ∷ w) (append_assoc v (10 ∷ []) after))

pub line-T : (l : List ℕ) → T (line l) ↔ Lined l
unfolding line
line-T [] = (λ h. absurd h, λ h. none h.0 h.1.0 h.1.1.0 h.1.1.1)
  where
    none : (k after : List ℕ) → [] ≡ k ++ after → SphLine k → ⊥
    none k after e (inl h) = let f = e ∙ ap (λ (w : List ℕ). w ++ after) h.1 in nil≢append [] 32 ((replicate h.0 32 ++ 10 ∷ []) ++ after) f
    none k after e (inr h) =
        let f = e ∙ ap (λ (w : List ℕ). w ++ after) h.1.1.0 ∙ sym (named-line h.0 h.1.0 after) in
        nil≢append h.0 61 (h.1.0 ++ 10 ∷ after) f
line-T (x ∷ l) = (to (eqb x 32) refl, λ h. from h.0 h.1.0 h.1.1.0 h.1.1.1)
  where
    to : (t : Bool) → eqb x 32 ≡ t → T (cond t (blanks l) (within 65 90 x && keyword l)) → Lined (x ∷ l)
    to true e h =
        let q : x ≡ 32 = (eqb-T x 32).0 (rw e tt) in
        let r = (blanks-T l).0 h in
        let n = r.0 in
        let m : l ≡ (replicate n 32 ++ 10 ∷ []) ++ r.1.0 = r.1.1 ∙ sym (append_assoc (replicate n 32) (10 ∷ []) r.1.0) in
        (replicate (suc n) 32 ++ 10 ∷ [], (r.1.0, (λ i. q i ∷ m i, inl (n, refl))))
    to false e h =
        let r = (and_T (within 65 90 x) (keyword l)).0 h in
        let s = (keyword-T l).0 r.1 in
        let xs = s.0 in
        let w = s.1.1.1.1 in
        let v = w.0 in
        let m : l ≡ xs ++ 61 ∷ (v ++ 10 ∷ w.1.0) = s.1.1.0 ∙ ap (λ (a : List ℕ). xs ++ 61 ∷ a) w.1.1.0 in
        let u : Letter x = simp (and_T, leb-T) at r.0 in
        ((x ∷ xs) ++ 61 ∷ (v ++ 10 ∷ []), (w.1.0, (ap (λ (a : List ℕ). x ∷ a) m ∙ named-line (x ∷ xs) v w.1.0, inr (x ∷ xs, (v, (refl, ((x, (xs, (refl, (u, s.1.1.1.0)))), w.1.1.1)))))))

    from : (k after : List ℕ) → x ∷ l ≡ k ++ after → SphLine k → T (cond (eqb x 32) (blanks l) (within 65 90 x && keyword l))
    from k after e (inl h) =
        let n = h.0 in
        let f : x ∷ l ≡ 32 ∷ ((replicate n 32 ++ 10 ∷ []) ++ after) = e ∙ ap (λ (w : List ℕ). w ++ after) h.1 in
        let q : x ≡ 32 = cc in
        let m : l ≡ (replicate n 32 ++ 10 ∷ []) ++ after = cc in
        rw (eq-eqb x 32 q) ((blanks-T l).1 (n, (after, m ∙ append_assoc (replicate n 32) (10 ∷ []) after)))
    from k after e (inr h) =
        let v = h.1.0 in
        let word = h.1.1.1.0 in
        let y = word.0 in
        let ys = word.1.0 in
        let f : x ∷ l ≡ y ∷ (ys ++ 61 ∷ (v ++ 10 ∷ after)) = e ∙ ap (λ (w : List ℕ). w ++ after) h.1.1.0 ∙ sym (named-line h.0 v after) ∙ ap (λ (w : List ℕ). w ++ 61 ∷ (v ++ 10 ∷ after)) word.1.1.0 in
        let q : y ≡ x = cc in
        let m : l ≡ ys ++ 61 ∷ (v ++ 10 ∷ after) = cc in
        let u : Letter x = subst Letter q word.1.1.1.0 in
        rw (ne_eqb x 32 (λ z. omega (arith, u.0)))
        ((and_T (within 65 90 x) (keyword l)).1 ((and_T (leb 65 x) (leb x 90)).1 ((leb-T 65 x).1 u.0, (leb-T x 90).1 u.1), (keyword-T l).1 (ys, (v ++ 10 ∷ after, (m, (word.1.1.1.1, (v, (after, (refl, h.1.1.1.1)))))))))

-- ---- where a line begins

-- the last byte
last : ℕ → List ℕ → ℕ
last d [] = d
last d (x ∷ xs) = last x xs

last-is : (xs : List ℕ) (x d : ℕ) → last d (xs ++ x ∷ []) ≡ x
unfolding last
last-is [] x d = refl
last-is (y ∷ xs) x d = last-is xs x y

pub begins_T : (l : List ℕ) (i : ℕ) → i ≤ length l → T (line_begins l i) ↔ LineBegins (take i l)
unfolding line_begins byte_at
begins_T l zero h = (λ t. inl refl, λ b. tt)
begins_T l (suc i) h = Iff.trans (eqb-T (get_or l i 0) 10) (λ e. inr (take i l, taken ∙ ap (λ (x : ℕ). take i l ++ x ∷ []) e), from)
  where
    taken : take (suc i) l ≡ take i l ++ get_or l i 0 ∷ []
    taken = take-suc l i 0 h

    from : LineBegins (take (suc i) l) → get_or l i 0 ≡ 10
    from (inl b) = absurd (nil≢append (take i l) (get_or l i 0) [] (sym b ∙ taken))
    from (inr b) = sym (last-is (take i l) (get_or l i 0) 0) ∙ ap (last 0) (sym taken ∙ b.1) ∙ last-is b.0 10 0
