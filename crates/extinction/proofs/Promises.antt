-- Theorems over the call, from its promise alone: whatever results it allows.
-- Assumes nothing.
use Prim.Native.Nat.{ℕ, ◌+◌, ◌*◌, ◌≤◌, ◌<◌}
use mathlib.Core.Bool.{Bool, false}
use mathlib.Core.List.{List}
use mathlib.Core.Logic.{◌⊎◌, inl, inr}
use mathlib.Core.Path.{◌≡◌, refl, sym, ap, ◌∙◌}
use native.Mathlib.Omega.{arith}
use lib.Dec.{T, ltb, eqb}
use lib.IntN.{pos}
use lib.Ieee.{binary64, of_int}
use lib.ListN.{length, get_or}
use borrow.Author.Tests.{le-leb, le-ltb}
use Rattle.std.specs.Prelude.{Result, Ok}
use Rattle.layout.specs.Bytes.{within}
use Rattle.layout.specs.Text.{whole}
use Rattle.layout.specs.Answer.{accepted, refused, none, need, refusal, is, ◌or_else◌}
use Rattle.layout.specs.Search.{count}
use Rattle.layout.specs.Entries.{Entry, eq_z, directory, at, non_empty}
use Rattle.layout.specs.States.{states_of}
use Rattle.layout.specs.Rules.{verdict}
use Rattle.layout.specs.Records.{lengths, record_refusal}
use Rattle.layout.specs.Fields.{integer, single, time, shape_of, bytes_of, value_at, record_of, ends_in, field_refusal, field_in, field_reply}
use Rattle.layout.specs.Answers.{time_at}
use Rattle.layout.specs.declared.Refusal.{Refusal}
use Rattle.layout.proofs.Laws.{or_else_accepts}
use Rattle.layout.proofs.Tests.{is_true}
use Rattle.layout.proofs.Replies.{Told, NumberedReply, need-told, or_else_told, before-is, before-refusal, refusal≢is}
use Rattle.layout.proofs.Sound.{sound, no_records}
use Rattle.layout.specs.Answers.{reply_is as reply_said}
use Rattle.layout.proofs.Maps.{one-reply}
use Rattle.fields.proofs.Distance.{unsigned_below}
use Rattle.product.proofs.Numbers.{verdict-number}
use Rattle.product.proofs.Points.{record-bytes}
use Rattle.extinction.specs.declared.Pixel.{Pixel}
use Rattle.extinction.specs.Extinction.{is_extinction_at, extinction_entry, set_refusal, single_at, model_of, pixel_of, pixel_in, measurement_refusal, pixel_reply, pixel_answer_is}
use Rattle.extinction.proofs.Pixels.{Answered, past, empty, given, answered}
use Rattle.extinction.proofs.Measured.{inside, only_18, record-long}
use Rattle.extinction.proofs.Model.{ModelClose, model_0, model_65535, model_close}

-- ---- two results are equal

pub one_pixel : (b : List ℕ) (j pixel : ℕ) (x y : Result Pixel Refusal) → pixel_answer_is x ≡ pixel_reply b j pixel → pixel_answer_is y ≡ pixel_reply b j pixel → x ≡ y
one_pixel b j pixel x y h k = one-reply x y (h ∙ sym k)

-- ---- which refusals arise

-- a product's own, 18, and 22 to 24: so 17, 19, 20 and 21 do not
abbrev pub Arises : ℕ → Type 0
Arises n = ((1 ≤ n) × (n ≤ 16)) ⊎ ((n ≡ 18) ⊎ ((22 ≤ n) × (n ≤ 24)))

two_told : (t u : Bool) (k p e m q d : ℕ) → Arises k → Arises m → Told Arises (need t k p e or_else need u m q d)
two_told t u k p e m q d a c = or_else_told Arises (need t k p e) (need u m q d) (need-told Arises t k p e a) (λ h. need-told Arises u m q d c)

from_22 : (n : ℕ) → 22 ≤ n → n ≤ 24 → Arises n
from_22 n l u = inr (inr (l, u))

set_arises : (ds : List Entry) → Told Arises (set_refusal ds)
unfolding set_refusal
set_arises ds =
    two_told (eqb (count (is_extinction_at ds) 0 (length ds)) 1) (eq_z (whole (at ds (extinction_entry ds)).record_size) (pos 25709)) 22 0 none 22 0 none
    (from_22 22 (omega arith) (omega arith)) (from_22 22 (omega arith) (omega arith))

pixel_arises : (r : List ℕ) (i pixel n p e : ℕ) → pixel_in r i pixel ≡ refusal n p e → Arises n
pixel_arises r i pixel n p e h = go (answered r i pixel)
  where
    go : Answered r i pixel → Arises n
    go (past l q) = let s : 23 ≡ n = cc in from_22 n (omega arith) (omega arith)
    go (empty l w q) = let s : 24 ≡ n = cc in from_22 n (omega arith) (omega arith)
    go (given l w q) = absurd (refusal≢is n p e (pixel_of r pixel) (sym h ∙ q))

module _ (b : List ℕ) (j pixel : ℕ) where
  measurement_arises : Told Arises (measurement_refusal b j)
  unfolding measurement_refusal
  measurement_arises =
      let ds = directory b in
      let i = extinction_entry ds in
      or_else_told Arises (verdict b) (set_refusal ds or_else record_refusal b i j) (λ n p e h. inl (verdict-number b n p e h))
      (λ a. or_else_told Arises (set_refusal ds) (record_refusal b i j) (set_arises ds)
      (λ s. rw (only_18 b a s j) (need-told Arises (ltb j (length (lengths (states_of b ds) (at ds i)))) 18 0 i (inr (inl refl)))))

  pub refused_so : (n p e : ℕ) → pixel_reply b j pixel ≡ refusal n p e → Arises n
  unfolding pixel_reply
  refused_so n p e h = go (before-refusal (measurement_refusal b j) (pixel_in (record_of b i j) i pixel) n p e h)
    where
      i : ℕ
      i = extinction_entry (directory b)

      go : (measurement_refusal b j ≡ refused n p e) ⊎ (pixel_in (record_of b i j) i pixel ≡ refusal n p e) → Arises n
      go (inl q) = measurement_arises n p e q
      go (inr q) = pixel_arises (record_of b i j) i pixel n p e q

  -- none is 0, and none above 24
  pub pixel_number : NumberedReply 24 (pixel_reply b j pixel)
  pixel_number n p e h = go (refused_so n p e h)
    where
      go : Arises n → (1 ≤ n) × (n ≤ 24)
      go (inl a) = (a.0, omega (arith, a.1))
      go (inr (inl a)) = (omega arith, omega arith)
      go (inr (inr a)) = (omega (arith, a.0), a.1)

-- ---- an empty set

-- where the set passes 22 and has no byte, every record is 18
pub empty-set : (b : List ℕ) (j pixel : ℕ) → verdict b ≡ accepted → set_refusal (directory b) ≡ accepted → non_empty (at (directory b) (extinction_entry (directory b))) ≡ false
    → pixel_reply b j pixel ≡ refusal 18 0 (extinction_entry (directory b))
unfolding pixel_reply measurement_refusal
empty-set b j pixel a s h =
    let i = extinction_entry (directory b) in
    let l = inside b a s in
    let m = (sound b a).headed in
    rw (a, s, only_18 b a s j, no_records (at (directory b) i) (m.numbers i l) (m.typed i l) h (states_of b (directory b)), le-ltb j 0 (omega arith))

-- ---- what is answered

-- a field whose bytes are there
field_there : (b : List ℕ) (i j off kind : ℕ) → record_refusal b i j ≡ accepted → T (within 1 9 kind) → off + bytes_of (shape_of kind) ≤ length (record_of b i j)
    → field_reply b i j off kind ≡ is (value_at (record_of b i j) off (shape_of kind))
unfolding field_reply field_in field_refusal ends_in
field_there b i j off kind h k l = rw (h, is_true (within 1 9 kind) k, le-leb (off + bytes_of (shape_of kind)) (length (record_of b i j)) l)

-- each value is what `field_at` answers at its place: the kinds are 9 mjd, 1 sc, 7 fl, 4 us and 2 uc
pub record AsFields (b : List ℕ) (i j pixel : ℕ) (x : Pixel) : Type 0 where
  pub timed : field_reply b i j 0 9 ≡ is (time x.time.days x.time.seconds x.time.microseconds)
  pub judged : field_reply b i j 12 1 ≡ is (integer x.quality)
  pub transmitted : field_reply b i j (13 + 4 * pixel) 7 ≡ is (single x.transmission.value x.transmission.bits)
  pub varied : field_reply b i j (9357 + 4 * pixel) 7 ≡ is (single x.covariance.value x.covariance.bits)
  pub coded : field_reply b i j (18701 + 2 * pixel) 4 ≡ is (integer (pos x.model_code))
  pub flagged : field_reply b i j (23373 + pixel) 2 ≡ is (integer (pos x.flag))
  pub modelled : x.model ≡ model_of x.model_code

module _ (b : List ℕ) (j pixel : ℕ) (answer : Result Pixel Refusal) (promise : pixel_answer_is answer ≡ pixel_reply b j pixel) (x : Pixel) (shown : answer ≡ Ok x) where
  abbrev i : ℕ
  i = extinction_entry (directory b)

  abbrev r : List ℕ
  r = record_of b i j

  reply_is : pixel_reply b j pixel ≡ is x
  unfolding reply_said
  reply_is = sym promise ∙ ap pixel_answer_is shown

  parts : (measurement_refusal b j ≡ accepted) × (pixel_in r i pixel ≡ is x)
  unfolding pixel_reply
  parts = before-is (measurement_refusal b j) (pixel_in r i pixel) x reply_is

  accepts : (verdict b ≡ accepted) × ((set_refusal (directory b) ≡ accepted) × (record_refusal b i j ≡ accepted))
  unfolding measurement_refusal
  accepts = simp or_else_accepts at parts.0

  read : (pixel < 2336) × (pixel_of r pixel ≡ x)
  read = go (answered r i pixel)
    where
      go : Answered r i pixel → (pixel < 2336) × (pixel_of r pixel ≡ x)
      go (past l q) = absurd (refusal≢is 23 pixel i x (sym q ∙ parts.1))
      go (empty l w q) = absurd (refusal≢is 24 12 i x (sym q ∙ parts.1))
      go (given l w q) = (l, cc parts.1)

  long : length r ≡ 25709
  long = record-long b accepts.0 accepts.1.0 j accepts.1.1

  of_record : AsFields b i j pixel (pixel_of r pixel)
  unfolding pixel_of time_at single_at shape_of bytes_of value_at
  of_record =
      let l = long in
      let u = read.0 in
      record {
        timed = field_there b i j 0 9 accepts.1.1 tt (omega arith);
        judged = field_there b i j 12 1 accepts.1.1 tt (omega arith);
        transmitted = field_there b i j (13 + 4 * pixel) 7 accepts.1.1 tt (omega arith);
        varied = field_there b i j (9357 + 4 * pixel) 7 accepts.1.1 tt (omega arith);
        coded = field_there b i j (18701 + 2 * pixel) 4 accepts.1.1 tt (omega arith);
        flagged = field_there b i j (23373 + pixel) 2 accepts.1.1 tt (omega arith);
        modelled = refl;
      }

  pub as_fields : AsFields b i j pixel x
  as_fields = rw read.1 at of_record

  -- code 0 gives 0, and 65535 gives 2
  pub code_0 : x.model_code ≡ 0 → x.model ≡ of_int binary64 (pos 0)
  code_0 h = as_fields.modelled ∙ ap model_of h ∙ model_0

  pub code_65535 : x.model_code ≡ 65535 → x.model ≡ of_int binary64 (pos 2)
  code_65535 h = as_fields.modelled ∙ ap model_of h ∙ model_65535

  -- of a product, whose elements are bytes: n is the model times 2^67, a whole number, and |65535 n - c 2^68| ≤ 65535 x 2^14
  module _ (bytes : (k : ℕ) → get_or b k 0 < 256) where
    code_below : x.model_code < 65536
    unfolding pixel_of
    code_below = rw (← read.1) (unsigned_below r (record-bytes b bytes i j) (18701 + 2 * pixel) 2)

    pub pixel_close : ModelClose x.model x.model_code
    pixel_close = rw as_fields.modelled (model_close x.model_code code_below)
