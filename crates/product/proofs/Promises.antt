-- Theorems over the calls' promises: two results that a promise allows are equal; the records handed out, in file order behind the headers, are the
-- product, and the directory's ranks are that order; a part is empty exactly where its place is refused or has no byte.
-- Assumes nothing.
use Rattle.std.specs.Prelude.{Result, Ok, Err}
use Prim.Native.Nat.{ℕ, ◌+◌, ◌-◌, ◌^◌, ◌≤◌, ◌<◌}
use mathlib.Core.Bool.{Bool, true, false, cond}
use mathlib.Core.List.{List, [], ◌∷◌, ◌++◌, map}
use mathlib.Core.Logic.{◌↔◌, ◌⊎◌, inl, inr}
use mathlib.Core.Path.{◌≡◌, refl, sym, ap, ◌∙◌}
use native.Mathlib.Omega.{arith}
use lib.ListN.{length, drop, get_or, replicate, length-drop, length-replicate}
use lib.Seq.{length-take-le}
use borrow.Author.Tests.{lt-ltb}
use Rattle.layout.specs.Bytes.{part}
use Rattle.layout.specs.Answer.{accepted, Reply, refusal, is, ◌else◌}
use Rattle.layout.specs.Search.{All, upto, join}
use Rattle.layout.specs.Entries.{Entry, headers_end, directory, at, kind_of, is_variable}
use Rattle.layout.specs.States.{states_of}
use Rattle.layout.specs.Rules.{verdict}
use Rattle.layout.specs.Faults.{NonEmpty}
use Rattle.layout.specs.Records.{Span, variable_lengths, lengths, record_part, records, record_refusal, record_place, sph_place, part_of}
use Rattle.layout.specs.Order.{file_order, by_rank, records_at, records_in_order}
use Rattle.layout.specs.Fields.{field_reply, point_reply}
use Rattle.layout.specs.Answers.{reply_is, reply, verdict_is, place_is, field_answer_is, point_answer_is, directory_of}
use Rattle.values.specs.Header.{header_of}
use Rattle.layout.specs.declared.Refusal.{Refusal}
use Rattle.layout.specs.declared.Span.{Span as SpanAnswered}
use Rattle.layout.specs.declared.Field.{Field}
use Rattle.layout.specs.declared.Point.{Point}
use Rattle.layout.specs.declared.Directory.{Directory}
use Rattle.values.specs.declared.MainHeader.{MainHeader}
use Rattle.layout.proofs.Agree.{map-upto_same}
use Rattle.layout.proofs.Maps.{one-verdict, one-reply, one_place, one_field_answer, one_point_answer}
use Rattle.layout.proofs.Replies.{else_is, else_refusal}
use Rattle.layout.proofs.Tests.{variable_T}
use Rattle.layout.proofs.Sound.{length-directory, accepted-entries, sound}
use Rattle.layout.proofs.Whole.{joins, only_sets_in_order}
use Rattle.layout.proofs.Ranks.{is_set, rank_of-set, set_of_rank, no_rank, by_rank_lem}
use Rattle.product.proofs.Calls.{sph_within, record-within}

module _ (b : List ℕ) where
  -- ---- two results that a promise allows are equal

  pub one_judgement : (v w : Result (Unit {0}) Refusal) → verdict_is v ≡ verdict b → verdict_is w ≡ verdict b → v ≡ w
  one_judgement v w h k = one-verdict v w (h ∙ sym k)

  pub one-directory : (x y : Result Directory Refusal) → reply x ≡ (verdict b else directory_of (directory b)) → reply y ≡ (verdict b else directory_of (directory b)) → x ≡ y
  one-directory x y h k = one-reply x y (h ∙ sym k)

  pub one_header : (x y : Result MainHeader Refusal) → reply x ≡ (verdict b else header_of b) → reply y ≡ (verdict b else header_of b) → x ≡ y
  one_header x y h k = one-reply x y (h ∙ sym k)

  -- and the verdict is in the answer: where nothing is refused the answer is a value, else the refusal
  pub judged : {A : Type 0} (x : A) (r : Result A Refusal) → reply r ≡ (verdict b else x) → verdict_is r ≡ verdict b
  unfolding reply_is verdict_is
  judged x (Ok y) h = sym (else_is (verdict b) x y (sym h)).0
  judged x (Err f) h = sym (else_refusal (verdict b) x f.number f.place f.entry (sym h))

  pub one_sph_place : (x y : Result SpanAnswered Refusal) → place_is x ≡ sph_place b → place_is y ≡ sph_place b → x ≡ y
  one_sph_place x y h k = one_place x y (h ∙ sym k)

  pub one-record-place : (i j : ℕ) (x y : Result SpanAnswered Refusal) → place_is x ≡ record_place b i j → place_is y ≡ record_place b i j → x ≡ y
  one-record-place i j x y h k = one_place x y (h ∙ sym k)

  pub one_field : (i j off kind : ℕ) (x y : Result Field Refusal) → field_answer_is x ≡ field_reply b i j off kind → field_answer_is y ≡ field_reply b i j off kind → x ≡ y
  one_field i j off kind x y h k = one_field_answer x y (h ∙ sym k)

  pub one_point : (i j lat lon alt : ℕ) (x y : Result Point Refusal) → point_answer_is x ≡ point_reply b i j lat lon alt → point_answer_is y ≡ point_reply b i j lat lon alt → x ≡ y
  one_point i j lat lon alt x y h k = one_point_answer x y (h ∙ sym k)

  -- ---- parts

  -- a part that lies in the product has its own length
  long : (s : Span) → s.place + s.length ≤ length b → length (part b s.place s.length) ≡ s.length
  unfolding part
  long s h = length-take-le s.length (drop s.place b) (omega (arith, length-drop s.place b))

  -- refused, or of no byte
  abbrev Nothing : Reply Span → Type 0
  Nothing a = ((n : ℕ) × (p : ℕ) × (e : ℕ) × (a ≡ refusal n p e)) ⊎ ((s : Span) × (a ≡ is s) × (s.length ≡ 0))

  empty-part : (a : Reply Span) → ((s : Span) → a ≡ is s → s.place + s.length ≤ length b) → (part_of b a ≡ []) ↔ Nothing a
  unfolding part_of
  empty-part (refusal n p e) w = (λ h. inl (n, p, e, refl), λ h. refl)
  empty-part (is s) w = (λ h. inr (s, refl, sym (long s (w s refl)) ∙ ap length h), from)
    where
      none : (l : List ℕ) → length l ≡ 0 → l ≡ []
      none [] h = refl
      none (x ∷ l) h = absurd (omega arith)

      from : Nothing (is s) → part b s.place s.length ≡ []
      from (inl h) = cc
      from (inr h) =
          let q : h.0 ≡ s = cc in
          none (part b s.place s.length) (long s (w s refl) ∙ ap (λ (x : Span). x.length) (sym q) ∙ h.2)

  pub empty_sph_part : (l : List ℕ) → l ≡ part_of b (sph_place b) → (l ≡ []) ↔ Nothing (sph_place b)
  empty_sph_part l h = rw h (empty-part (sph_place b) (sph_within b))

  pub empty-record-part : (i j : ℕ) (l : List ℕ) → l ≡ part_of b (record_place b i j) → (l ≡ []) ↔ Nothing (record_place b i j)
  empty-record-part i j l h = rw h (empty-part (record_place b i j) (record-within b i j))

  -- ---- the records handed out are the product

  -- an entry and a record can be asked for up to a usize
  abbrev usize : ℕ
  usize = 2 ^ 64

  module _ (accepts : verdict b ≡ accepted) where
    abbrev ds : List Entry
    ds = directory b

    -- an entry has NUM_DSR records, which are fewer
    as_many : (i : ℕ) → i < length ds → length (lengths (states_of b ds) (at ds i)) ≡ (at ds i).count.magnitude
    unfolding lengths
    as_many i l = go (is_variable (at ds i)) refl
      where
        go : (v : Bool) → is_variable (at ds i) ≡ v
            → length (cond v (variable_lengths (states_of b ds) (kind_of (at ds i))) (replicate (at ds i).count.magnitude (at ds i).record_size.magnitude)) ≡ (at ds i).count.magnitude
        go true q = ((sound b accepts).filled i l ((variable_T (at ds i)).0 (rw q tt))).0
        go false q = length-replicate (at ds i).count.magnitude (at ds i).record_size.magnitude

    few : (i : ℕ) → i < length ds → length (lengths (states_of b ds) (at ds i)) < usize
    few i l = omega (arith, as_many i l, (sound b accepts).headed.counts i l)

    module _ (call : ℕ → ℕ → List ℕ) (promise : (i j : ℕ) → i < usize → j < usize → call i j ≡ part_of b (record_place b i j)) where
      handed : (i : ℕ) → i < length ds → (j : ℕ) → j < length (lengths (states_of b ds) (at ds i)) → call i j ≡ record_part b (states_of b ds) (at ds i) j
      unfolding record_place record_refusal part_of record_part
      handed i l j h =
          promise i j (omega (arith, length-directory b, accepted-entries b accepts)) (omega (arith, few i l))
          ∙ rw (accepts, lt-ltb i (length ds) l, lt-ltb j (length (lengths (states_of b ds) (at ds i))) h)

      -- the records of entry i, each by a call
      abbrev records_by : ℕ → List (List ℕ)
      records_by i = map (call i) (upto 0 (length (lengths (states_of b ds) (at ds i))))

      of_entry : (i : ℕ) → i < length ds → records_by i ≡ records_at b (states_of b ds) ds i
      unfolding records_at records
      of_entry i l = map-upto_same (call i) (record_part b (states_of b ds) (at ds i)) 0 (length (lengths (states_of b ds) (at ds i))) (λ j g h. handed i l j (omega arith))

      map-all : (xs : List ℕ) → All (λ i. (i < length ds) × NonEmpty (at ds i)) xs → map records_by xs ≡ map (records_at b (states_of b ds) ds) xs
      map-all [] h = refl
      map-all (x ∷ xs) h = rw (of_entry x h.0.0, map-all xs h.1)

      -- headers, and the records by calls, sets in file order, each asked for by numbers that a usize holds, are the product
      pub calls_join : part b 0 1247 ++ (part b 1247 (headers_end b - 1247) ++ join (join (map records_by (file_order ds)))) ≡ b
      unfolding records_in_order
      calls_join = let m = sound b accepts in rw (map-all (file_order ds) (only_sets_in_order b m)) (joins b m)

    -- ---- the ranks that the directory answers

    -- a directory is answered
    pub directory_answered : (r : Result Directory Refusal) → reply r ≡ (verdict b else directory_of ds) → r ≡ Ok (directory_of ds)
    unfolding reply_is
    directory_answered r listed = one-reply r (Ok (directory_of ds)) (listed ∙ rw accepts)

    module _ (r : Result Directory Refusal) (listed : reply r ≡ (verdict b else directory_of ds)) (x : Directory) (is_answered : r ≡ Ok x) where
      answered : x ≡ directory_of ds
      answered = let e : Ok x ≡ Ok (directory_of ds) = sym is_answered ∙ directory_answered r listed in cc

      abbrev rank_answered : ℕ → ℕ
      rank_answered i = get_or x.ranks i 0

      -- how many sets there are: NUM_DATA_SETS says it (`sets_counted`)
      abbrev sets : ℕ
      sets = length (file_order ds)

      -- the sets by rank, 0 to the last, are file order
      abbrev sets_by_rank : List ℕ
      sets_by_rank = by_rank x.ranks x.entries sets

      pub ranks-are_file_order : sets_by_rank ≡ file_order ds
      unfolding directory_of
      ranks-are_file_order = rw answered (by_rank_lem b (sound b accepts))

      -- each of 0, 1 and so on is the rank of a non-empty set
      pub rank_each : (r : ℕ) → r < sets → (get_or sets_by_rank r 0 < x.entries) × NonEmpty (at ds (get_or sets_by_rank r 0)) × (rank_answered (get_or sets_by_rank r 0) ≡ r)
      unfolding directory_of
      rank_each r l =
          let set = is_set b (sound b accepts) r l in
          rw (ranks-are_file_order, answered) (set.0, set.1, rank_of-set b (sound b accepts) r l)

      -- and of that one alone: a non-empty set is the one of its rank
      pub rank_once : (i : ℕ) → i < x.entries → NonEmpty (at ds i) → (rank_answered i < sets) × (get_or sets_by_rank (rank_answered i) 0 ≡ i)
      unfolding directory_of
      rank_once i l h = rw (ranks-are_file_order, answered) (set_of_rank b (sound b accepts) i (rw answered at l) h)

      -- every other entry has 128
      pub rank-none : (i : ℕ) → i < x.entries → (NonEmpty (at ds i) → ⊥) → rank_answered i ≡ 128
      unfolding directory_of
      rank-none i l h = rw answered (no_rank b (sound b accepts) i (rw answered at l) h)

      -- headers, and the records by calls, sets by rank, are the product
      pub ranks-join : (call : ℕ → ℕ → List ℕ) (promise : (i j : ℕ) → i < usize → j < usize → call i j ≡ part_of b (record_place b i j))
          → part b 0 1247 ++ (part b 1247 (headers_end b - 1247) ++ join (join (map (records_by call promise) sets_by_rank))) ≡ b
      ranks-join call promise = rw ranks-are_file_order (calls_join call promise)
