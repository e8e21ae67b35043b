-- A refusal's number: 1 to 16 of a product, up to 18 of a record, 20 of a field, 21 of a point.
-- Assumes nothing.
use Prim.Native.Nat.{ℕ, zero, suc, ◌+◌, ◌-◌, ◌≤◌, ◌<◌}
use mathlib.Core.List.{List}
use mathlib.Core.Logic.{⊎_elim}
use mathlib.Core.Path.{◌≡◌, subst}
use native.Mathlib.Omega.{arith}
use lib.Dec.{leb, ltb}
use lib.ListN.{length}
use Rattle.layout.specs.Bytes.{within, signed_at}
use Rattle.layout.specs.Answer.{none}
use Rattle.layout.specs.Entries.{directory, at}
use Rattle.layout.specs.States.{states_of}
use Rattle.layout.specs.Rules.{verdict}
use Rattle.layout.specs.Records.{lengths, record_refusal, record_place, sph_place}
use Rattle.layout.specs.Fields.{record_of, shape_of, bytes_of, in_limits, ends_in, field_refusal, field_in, field_reply, point_refusal, point_in, point_reply}
use Rattle.layout.proofs.Laws.{lt-or-le}
use Rattle.layout.proofs.Replies.{Numbered, NumberedReply, need_numbered, or_else_numbered, else_numbered, before_numbered}
use Rattle.layout.specs.Faults.{Fault}
use Rattle.layout.proofs.Exactly.{refused-exactly}

-- n + m, as a number that a list is searched by
abbrev after : ℕ → ℕ → ℕ
after zero m = m
after (suc n) m = suc (after n m)

module _ (b : List ℕ) where
  -- there is no rule 0, and none above 16
  fault_number : (k p e : ℕ) → Fault b k p e → (1 ≤ k) × (k ≤ 16)
  fault_number zero p e f = absurd f
  fault_number (suc k) p e f = (omega arith, ⊎_elim (λ l. absurd (past l)) (λ l. l) (lt-or-le 16 (suc k)))
    where
      past : 16 < suc k → ⊥
      past l = let q : suc k ≡ after 17 (k - 16) = omega arith in subst (λ (n : ℕ). Fault b n p e) q f

  -- a product is refused by rules 1 to 16
  pub verdict-number : Numbered 16 (verdict b)
  verdict-number n p e h = fault_number n p e ((refused-exactly b n p e).0 h).1.0

  -- and so are its SPH lines
  pub sph_number : NumberedReply 16 (sph_place b)
  unfolding sph_place
  sph_number = else_numbered 16 (verdict b) _ verdict-number

  module _ (i j : ℕ) where
    -- a record is refused by 17 and 18 too
    record-refusal-number : Numbered 18 (record_refusal b i j)
    unfolding record_refusal
    record-refusal-number =
        or_else_numbered 16 18 (verdict b) _ (omega arith) verdict-number
        (or_else_numbered 18 18 _ _ (omega arith) (need_numbered 18 (ltb i (length (directory b))) 17 0 none (omega arith) (omega arith))
        (need_numbered 18 (ltb j (length (lengths (states_of b (directory b)) (at (directory b) i)))) 18 0 i (omega arith) (omega arith)))

    -- and so is its place
    pub record-number : NumberedReply 18 (record_place b i j)
    unfolding record_place
    record-number = else_numbered 18 (record_refusal b i j) _ record-refusal-number

-- 20, whichever call goes as high
ends-number : (most : ℕ) → 20 ≤ most → (r : List ℕ) (i off w : ℕ) → Numbered most (ends_in r i off w)
unfolding ends_in
ends-number most l r i off w = need_numbered most (leb (off + w) (length r)) 20 off i (omega arith) l

module _ (b : List ℕ) (i j : ℕ) where
  -- a field is refused by 19 and 20 too
  pub field_number : (off kind : ℕ) → NumberedReply 20 (field_reply b i j off kind)
  unfolding field_reply field_in field_refusal
  field_number off kind =
      let r = record_of b i j in
      before_numbered 18 20 (record_refusal b i j) _ (omega arith) (record-refusal-number b i j)
      (else_numbered 20 _ _
      (or_else_numbered 20 20 _ _ (omega arith) (need_numbered 20 (within 1 9 kind) 19 0 i (omega arith) (omega arith))
      (ends-number 20 (omega arith) r i off (bytes_of (shape_of kind)))))

  -- a point is refused by 20 and 21 too
  pub point_number : (lat lon alt : ℕ) → NumberedReply 21 (point_reply b i j lat lon alt)
  unfolding point_reply point_in point_refusal
  point_number lat lon alt =
      let r = record_of b i j in
      before_numbered 18 21 (record_refusal b i j) _ (omega arith) (record-refusal-number b i j)
      (else_numbered 21 _ _
      (or_else_numbered 21 21 _ _ (omega arith) (ends-number 21 (omega arith) r i lat 4)
      (or_else_numbered 21 21 _ _ (omega arith) (ends-number 21 (omega arith) r i lon 4)
      (or_else_numbered 21 21 _ _ (omega arith) (ends-number 21 (omega arith) r i alt 4)
      (or_else_numbered 21 21 _ _ (omega arith) (need_numbered 21 (in_limits 90000000 (signed_at r lat 4)) 21 lat i (omega arith) (omega arith))
      (need_numbered 21 (in_limits 180000000 (signed_at r lon 4)) 21 lon i (omega arith) (omega arith)))))))
