-- Texts of one width put one behind the other, and that so the names and FILENAMEs of a directory are put.
-- Assumes nothing.
use Prim.Native.Nat.{ℕ, zero, suc, ◌+◌, ◌*◌, ◌-◌, ◌≤◌, ◌<◌}
use mathlib.Core.List.{List, [], ◌∷◌, map, map-map}
use mathlib.Core.Path.{◌≡◌, refl, sym, ap, ◌∙◌}
use native.Mathlib.Omega.{arith}
use native.Mathlib.Nat.{mul-le-mul_left, mul-suc}
use lib.ListN.{length, take, drop, replicate, length-append, length-replicate, length-take}
use lib.Seq.{take_at}
use Rattle.layout.specs.Bytes.{part}
use Rattle.layout.specs.Search.{join, upto}
use Rattle.layout.specs.Entries.{Entry, entry_from, entries_from}
use Rattle.layout.specs.Answers.{padded, name_of, filename_of, directory_of}
use Rattle.layout.proofs.Laws.{join-one_more}
use Rattle.writing.specs.Put.{Put}
use Rattle.writing.proofs.Puts.{then, at_most, spelled, nothing, same_room, at_first, lent_part, lent_length}
use Rattle.dsd.proofs.Places.{entry_placed}
use Rattle.directory.specs.Texts.{text_at, texts_from}

-- a text lent and put first into an array
pub lent_first : (b : List ℕ) (start width : ℕ) {w r : ℕ} {old new : List ℕ} → start + width ≤ length b → width ≤ length old
    → Put w (take (start + width - start) (drop start b)) old new 0 r → take width new ≡ part b start width
lent_first b start width {old = old} h l put =
    let text = take (start + width - start) (drop start b) in
    let long : length text ≡ width = lent_length b start width h in
    ap (take width) (at_first put (omega arith)) ∙ take_at text (drop (length text) old) width long ∙ lent_part b start width

-- ---- texts of at most so many bytes, over any function of the number

-- those of so many DSDs are no longer than those of 128
few-fit : (w i : ℕ) → i ≤ 128 → w * i ≤ 128 * w
few-fit w i h = let m : w * i ≤ w * 128 = mul-le-mul_left w h in omega arith

module _ (f : ℕ → List ℕ) (w : ℕ) where
  abbrev PutFirst : (i : ℕ) (old new : List ℕ) (at next : ℕ) → Type 0
  PutFirst i = Put (w * i) (join (map f (upto 0 i)))

  pub none_put : (old : List ℕ) (at : ℕ) → PutFirst 0 old old at at
  none_put old at = at_most (w * 0) (nothing old at) (omega arith)

  pub one_put : (i : ℕ) {old mid new : List ℕ} {at next r : ℕ} → PutFirst i old mid at next → Put w (f i) mid new next r → PutFirst (i + 1) old new at r
  one_put i p q =
      let put = spelled (sym (join-one_more f i)) (then p q) in
      let e : w * i + w ≡ w * (i + 1) = omega arith in
      at_most (w * (i + 1)) put (omega (arith, put.narrow))

  -- where the next one goes, and that it has room
  pub next-within : (i : ℕ) {old new : List ℕ} {at next : ℕ} → i ≤ 128 → PutFirst i old new at next → next ≤ at + 128 * w
  next-within i h p = omega (arith, p.next, p.narrow, few-fit w i h)

  pub next_fits : (i : ℕ) {old new : List ℕ} {at next : ℕ} → i < 128 → at + 128 * w ≤ length old → PutFirst i old new at next → next + w ≤ length new
  next_fits i h room p = omega (arith, p.next, p.narrow, few-fit w (suc i) h, mul-suc w i, room, same_room p)

  pub all_put : (n : ℕ) {old mid new : List ℕ} {at next r : ℕ} → n ≤ 128 → PutFirst n old mid at next
      → Put (at + 128 * w - next) (replicate (at + 128 * w - next) 0) mid new next r → Put (128 * w) (padded (128 * w) 0 (join (map f (upto 0 n)))) old new at r
  unfolding padded
  all_put n {at = at} {next = next} h p q =
      let texts = join (map f (upto 0 n)) in
      let rest : at + 128 * w - next ≡ 128 * w - length texts = omega (arith, p.next) in
      let put = then p (rw rest at q) in
      at_most (128 * w) put (omega (arith, length-append texts (replicate (128 * w - length texts) 0), length-replicate {A = ℕ} (128 * w - length texts) 0, p.narrow, few-fit w n h))

-- ---- how long they are

pub padded-long : {A : Type 0} (n : ℕ) (z : A) (l : List A) → length l ≤ n → length (padded n z l) ≡ n
unfolding padded
padded-long n z l h = length-append l (replicate (n - length l) z) ∙ rw (length-replicate (n - length l) z) (omega arith)

joined_narrow : (f : ℕ → List ℕ) (w : ℕ) → ((i : ℕ) → length (f i) ≤ w) → (i n : ℕ) → length (join (map f (upto i n))) ≤ w * n
joined_narrow f w h i zero = omega arith
joined_narrow f w h i (suc n) = omega (arith, h i, joined_narrow f w h (suc i) n, length-append (f i) (join (map f (upto (suc i) n))), mul-suc w n)

pub part-narrow : (b : List ℕ) (at n : ℕ) → length (part b at n) ≤ n
unfolding part
part-narrow b at n = rw (length-take n (drop at b)) (omega arith)

texts_long : (b : List ℕ) (from n place width : ℕ) → n ≤ 128 → length (texts_from b from n place width) ≡ 128 * width
unfolding texts_from text_at
texts_long b from n place width h =
    let texts = map (text_at b from place width) (upto 0 n) in
    padded-long (128 * width) 0 (join texts) (omega (arith, joined_narrow (text_at b from place width) width (λ i. part-narrow b (from + 280 * i + place) width) 0 n, few-fit width n h))

-- ---- the names and FILENAMEs of a directory

module _ (b : List ℕ) (from n : ℕ) where
  texts : (g : Entry → List ℕ) (place width : ℕ) → ((i : ℕ) → text_at b from place width i ≡ g (entry_from b from i))
      → texts_from b from n place width ≡ padded (128 * width) 0 (join (map g (entries_from b from n)))
  unfolding texts_from entries_from
  texts g place width h =
      ap (λ (l : List (List ℕ)). padded (128 * width) 0 (join l)) (same (upto 0 n) ∙ sym (map-map g (entry_from b from) (upto 0 n)))
    where
      same : (l : List ℕ) → map (text_at b from place width) l ≡ map (λ i. g (entry_from b from i)) l
      same [] = refl
      same (i ∷ l) = rw (h i, same l)

  pub names-are : texts_from b from n 9 28 ≡ (directory_of (entries_from b from n)).names
  unfolding text_at entry_from directory_of
  names-are = texts name_of 9 28 (λ i. sym (ap name_of (entry_placed b (from + 280 * i))))

  pub filenames-are : texts_from b from n 59 62 ≡ (directory_of (entries_from b from n)).filenames
  unfolding text_at entry_from directory_of
  filenames-are = texts filename_of 59 62 (λ i. sym (ap filename_of (entry_placed b (from + 280 * i))))

  module _ (few : n ≤ 128) where
    pub names-long : length (directory_of (entries_from b from n)).names ≡ 3584
    names-long = ap length (sym names-are) ∙ texts_long b from n 9 28 few

    pub filenames-long : length (directory_of (entries_from b from n)).filenames ≡ 7936
    filenames-long = ap length (sym filenames-are) ∙ texts_long b from n 59 62 few
