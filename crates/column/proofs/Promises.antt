-- Theorems over the promise of `put_column`: two results are equal; each element is the single request's answer, converted; what stays as it was;
-- and which refusal is given.
-- Assumes nothing.
use Rattle.std.specs.Prelude.{Result, Ok, Err}
use Prim.Native.Nat.{ℕ, ◌+◌, ◌-◌, ◌≤◌, ◌<◌}
use mathlib.Core.Bool.{Bool, true, false, ◌&&◌}
use mathlib.Core.List.{List, ◌++◌, map}
use mathlib.Core.Logic.{◌↔◌, ◌⊎◌, inl, inr}
use mathlib.Core.Path.{◌≡◌, refl, sym, ap, ◌∙◌}
use native.Mathlib.Omega.{arith}
use lib.Dec.{leb, ltb}
use lib.ListN.{length, drop, get_or, get_or-append}
use lib.Seq.{drop_at}
use borrow.Author.Tests.{le-leb, lt-ltb}
use Rattle.layout.specs.Bytes.{within}
use Rattle.layout.specs.Answer.{Answer, accepted, refused, none, need, Reply, refusal, is, ◌or_else◌, ◌else◌, ◌before◌}
use Rattle.layout.specs.Search.{upto}
use Rattle.layout.specs.Entries.{directory, at}
use Rattle.layout.specs.States.{states_of}
use Rattle.layout.specs.Rules.{verdict}
use Rattle.layout.specs.Records.{lengths, record_refusal}
use Rattle.layout.specs.Fields.{Value, shape_of, bytes_of, value_at, record_of, ends_in, field_refusal, field_in, field_reply}
use Rattle.layout.specs.Answers.{field_answer_is}
use Rattle.layout.specs.declared.Field.{Field}
use Rattle.layout.specs.declared.Refusal.{Refusal}
use Rattle.layout.proofs.Laws.{or_else_accepts}
use Rattle.layout.proofs.Maps.{one-verdict}
use Rattle.layout.proofs.Replies.{refusal≢is, told-refused, told-accepted, before-is, Numbered, NumberedReply, UpTo, need_numbered, or_else_numbered}
use Rattle.product.proofs.Numbers.{verdict-number, field_number}
use Rattle.column.specs.Column.{converted, asked, together, request_refusal, column_reply, refusal_of, column_in, ColumnIs}
use Rattle.column.proofs.Together.{is-refused, is_answered, each_value, first-refusal}
use Rattle.column.proofs.Requests.{good-says}

-- two results that the promise allows are equal
pub one_column : {reply : Reply (List ℕ)} {old new other : List ℕ} {v w : Result (Unit {0}) Refusal} → ColumnIs reply old new v → ColumnIs reply old other w → (v ≡ w) × (new ≡ other)
one_column {reply} {old} {new} {other} {v} {w} x y = (one-verdict v w (x.told ∙ sym y.told), x.written ∙ sym y.written)

-- nothing is refused exactly where values are given
pub answered_exactly : (reply : Reply (List ℕ)) → (refusal_of reply ≡ accepted) ↔ ((xs : List ℕ) × (reply ≡ is xs))
unfolding refusal_of
answered_exactly reply = (λ h. is_answered reply (sym h), λ h. rw h.1)

-- ---- the reply

module _ (b : List ℕ) (i from to off kind room : ℕ) where
  abbrev reply : Reply (List ℕ)
  reply = column_reply b i from to off kind room

  abbrev own : Answer
  own = verdict b or_else request_refusal (length (directory b)) i from to kind room

  -- as many values as records are asked for, each the single request's, converted
  pub each_element : (xs : List ℕ) → reply ≡ is xs → (length xs ≡ to - from) × ((k : ℕ) → k < to - from → asked b i off kind (from + k) ≡ is (get_or xs k 0))
  unfolding column_reply
  each_element xs h = each_value (asked b i off kind) from (to - from) xs (before-is own (together (map (asked b i off kind) (upto from (to - from)))) xs h).1

  -- a refusal is the product's own, or the request's, or, where there is none of these, the first refused single request's
  pub refused_by : (n p e : ℕ) → reply ≡ refusal n p e
      → (own ≡ refused n p e) ⊎ ((own ≡ accepted) × ((k : ℕ) × (k < to - from) × (asked b i off kind (from + k) ≡ refusal n p e) × ((j : ℕ) → j < k → (x : ℕ) × (asked b i off kind (from + j) ≡ is x))))
  unfolding column_reply
  refused_by n p e h = go own refl h
    where
      go : (a : Answer) → own ≡ a → (a before together (map (asked b i off kind) (upto from (to - from)))) ≡ refusal n p e
          → (own ≡ refused n p e) ⊎ ((own ≡ accepted) × ((k : ℕ) × (k < to - from) × (asked b i off kind (from + k) ≡ refusal n p e) × ((j : ℕ) → j < k → (x : ℕ) × (asked b i off kind (from + j) ≡ is x))))
      go accepted q h = inr (q, first-refusal (asked b i off kind) from (to - from) n p e h)
      go (refused m r d) q h = inl (q ∙ cc)

  numbered : (entries : ℕ) → Numbered 33 (request_refusal entries i from to kind room)
  unfolding request_refusal
  numbered entries =
      or_else_numbered 33 33 _ _ (omega arith) (need_numbered 33 (ltb i entries) 17 0 none (omega arith) (omega arith))
      (or_else_numbered 33 33 _ _ (omega arith) (need_numbered 33 (within 1 9 kind) 19 0 i (omega arith) (omega arith))
      (or_else_numbered 33 33 _ _ (omega arith) (need_numbered 33 (leb kind 7 && (leb from to && leb (to - from) 512)) 32 0 none (omega arith) (omega arith))
      (need_numbered 33 (leb (to - from) room) 33 0 none (omega arith) (omega arith))))

  converted-refusal : (r : Reply Value) (n p e : ℕ) → converted r ≡ refusal n p e → r ≡ refusal n p e
  unfolding converted
  converted-refusal (refusal m q d) n p e h = cc
  converted-refusal (is v) n p e h = absurd (refusal≢is n p e _ (sym h))

  as_field : (j n p e : ℕ) → asked b i off kind j ≡ refusal n p e → field_reply b i j off kind ≡ refusal n p e
  unfolding asked
  as_field j n p e h = converted-refusal (field_reply b i j off kind) n p e h

  -- what is true of a request that is not refused
  well : own ≡ accepted → (verdict b ≡ accepted) × ((i < length (directory b)) × ((1 ≤ kind) × (kind ≤ 9)))
  well h =
      let r = (or_else_accepts (verdict b) (request_refusal (length (directory b)) i from to kind room)).0 h in
      let w = good-says (length (directory b)) i from to kind room r.1 in
      (r.0, (w.0, w.1.0))

  -- the single request's is 18 or 20, for the product and the request are good then
  pub single-number : own ≡ accepted → (j n p e : ℕ) → asked b i off kind j ≡ refusal n p e → (n ≡ 18) ⊎ (n ≡ 20)
  unfolding asked field_reply record_refusal field_in field_refusal ends_in
  single-number good j n p e h =
      let w = well good in
      go (ltb j (length (lengths (states_of b (directory b)) (at (directory b) i)))) (leb (off + bytes_of (shape_of kind)) (length (record_of b i j))) (value_at (record_of b i j) off (shape_of kind))
      (rw (w.0, lt-ltb i (length (directory b)) w.1.0, le-leb 1 kind w.1.1.0, le-leb kind 9 w.1.1.1) at (converted-refusal (field_reply b i j off kind) n p e h))
    where
      go : (t u : Bool) (v : Value) → (need t 18 0 i before (need u 20 off i else v)) ≡ refusal n p e → (n ≡ 18) ⊎ (n ≡ 20)
      go false u v q = inl cc
      go true false v q = inr cc
      go true true v q = absurd (refusal≢is n p e v (sym q))

  -- its number is from 1 to 33
  pub column_number : NumberedReply 33 reply
  column_number n p e h = go (refused_by n p e h)
    where
      request_number : Numbered 33 (request_refusal (length (directory b)) i from to kind room)
      request_number = numbered (length (directory b))

      go : (own ≡ refused n p e) ⊎ ((own ≡ accepted) × ((k : ℕ) × (k < to - from) × (asked b i off kind (from + k) ≡ refusal n p e) × ((j : ℕ) → j < k → (x : ℕ) × (asked b i off kind (from + j) ≡ is x)))) → UpTo 33 n
      go (inl q) = or_else_numbered 16 33 (verdict b) (request_refusal (length (directory b)) i from to kind room) (omega arith) (verdict-number b) request_number n p e q
      go (inr q) = let r = field_number b i (from + q.1.0) off kind n p e (as_field (from + q.1.0) n p e q.1.2) in (r.0, omega (arith, r.1))

  pub refusal-number : Numbered 33 (refusal_of reply)
  refusal-number n p e h = column_number n p e (is-refused reply n p e (sym h))

-- ---- the room

module _ (b : List ℕ) (i from to off kind : ℕ) (old new : List ℕ) (v : Result (Unit {0}) Refusal) (promise : ColumnIs (column_reply b i from to off kind (length old)) old new v) where
  abbrev said : Reply (List ℕ)
  said = column_reply b i from to off kind (length old)

  -- where nothing is refused
  module _ (x : Unit {0}) (e : v ≡ Ok x) where
    answered : (xs : List ℕ) × (said ≡ is xs)
    answered = is_answered said (sym (told-accepted v x _ e promise.told))

    as_many : (length answered.0 ≡ to - from) × ((k : ℕ) → k < to - from → asked b i off kind (from + k) ≡ is (get_or answered.0 k 0))
    as_many = each_element b i from to off kind (length old) answered.0 answered.1

    filled : new ≡ answered.0 ++ drop (to - from) old
    unfolding column_in
    filled = promise.written ∙ rw (answered.1, as_many.0)

    -- each element is what any answer that `field_at` may give for its record is, converted
    pub column_answers : (k : ℕ) → k < to - from → (f : Result Field Refusal) → field_answer_is f ≡ field_reply b i (from + k) off kind → converted (field_answer_is f) ≡ is (get_or new k 0)
    unfolding asked
    column_answers k l f h =
        ap converted h ∙ as_many.1 k l ∙ ap is (sym (ap (λ (n : List ℕ). get_or n k 0) filled ∙ get_or-append answered.0 (drop (to - from) old) 0 k (omega (arith, as_many.0))))

    -- places behind the last stay
    pub behind_stays : drop (to - from) new ≡ drop (to - from) old
    behind_stays = ap (drop (to - from)) filled ∙ drop_at answered.0 (drop (to - from) old) (to - from) as_many.0

  -- a refusal writes nothing
  pub nothing_written : (r : Refusal) → v ≡ Err r → new ≡ old
  unfolding column_in
  nothing_written r e = promise.written ∙ rw (is-refused said r.number r.place r.entry (sym (told-refused v r (refusal_of said) e promise.told)))

  -- where a is b nothing is written, whatever is answered
  pub nothing-asked : from ≡ to → new ≡ old
  nothing-asked e = go v refl
    where
      none_left : to - from ≡ 0
      none_left = omega arith

      go : (w : Result (Unit {0}) Refusal) → v ≡ w → new ≡ old
      go (Ok x) h = rw none_left at (behind_stays x h)
      go (Err r) h = nothing_written r h
