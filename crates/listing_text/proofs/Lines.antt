-- The laws of the listing's lines: how the words that are put one after the other make a line.
-- Assumes nothing.
use Prim.Native.Nat.{ℕ, ◌+◌}
use mathlib.Core.Path.{◌≡◌, refl}
use mathlib.Core.List.{[], ◌∷◌, ◌++◌}
use lib.Seq.{append_snoc}
use Rattle.layout.specs.Bytes.{bytes}
use Rattle.layout.specs.Listing.{decimal, line_of}
use Rattle.layout.proofs.Laws.{join-one_more}
use Rattle.layout.specs.declared.Directory.{Directory}
use Rattle.listing_text.proofs.EntryLine.{word}
use Rattle.listing_text.specs.Listing.{entry_text_at, entry_texts, refusal_text, accepted_text}

-- ---- all entries

module _ (d : Directory) where
  pub texts_none : entry_texts d 0 ≡ []
  unfolding entry_texts
  texts_none = refl

  pub texts_more : (n : ℕ) → entry_texts d (n + 1) ≡ entry_texts d n ++ entry_text_at d n
  unfolding entry_texts
  texts_more n = join-one_more (entry_text_at d) n

-- ---- whole listings

pub refusal-line : (n p e : ℕ) → (bytes "refused" ++ 32 ∷ []) ++ (word (decimal n) ++ (word (decimal p) ++ (decimal e ++ 10 ∷ []))) ≡ refusal_text n p e
unfolding refusal_text line_of
refusal-line n p e = simp append_snoc

pub accepted-lines : (n : ℕ) (d : Directory) → (bytes "size" ++ 32 ∷ []) ++ ((decimal n ++ 10 ∷ []) ++ (entry_texts d d.entries ++ (bytes "accepted" ++ 10 ∷ []))) ≡ accepted_text n d
unfolding accepted_text line_of
accepted-lines n d = refl
