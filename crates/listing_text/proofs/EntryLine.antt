-- How the words that are put one after the other make an entry's line.
-- Assumes nothing.
use Prim.Native.Nat.{ℕ}
use mathlib.Core.Path.{◌≡◌}
use mathlib.Core.List.{List, [], ◌∷◌, ◌++◌}
use lib.IntN.{ℤ}
use lib.Seq.{append_snoc}
use borrow.Author.Tests.{eq-eqb, ne_eqb}
use Rattle.layout.specs.Bytes.{bytes}
use Rattle.layout.specs.Listing.{decimal, signed_decimal, trimmed, line_of}
use Rattle.layout.specs.Answers.{name_at}
use Rattle.listing_text.specs.declared.Listed.{Listed}
use Rattle.listing_text.specs.EntryLine.{entry_numbers, entry_words, entry_text}

-- what is put for a word and the byte behind it
abbrev pub word : List ℕ → List ℕ
word w = w ++ 32 ∷ []

module _ (names : List ℕ) (e : Listed) where
  pub numbers-line : (z : ℤ) → z ≡ e.record_size → word (decimal e.offset) ++ (word (decimal e.size) ++ (word (decimal e.count) ++ (word (signed_decimal z) ++ (decimal e.rank ++ 10 ∷ [])))) ≡ line_of (entry_numbers e)
  unfolding line_of entry_numbers
  numbers-line z h = rw h (simp append_snoc)

  pub values_line : (e.ds_type ∷ []) ++ ((32 ∷ []) ++ (word (trimmed (name_at names e.number)) ++ line_of (entry_numbers e))) ≡ line_of (entry_words names e)
  unfolding line_of entry_words entry_numbers
  values_line = simp append_snoc

  pub spare-line : e.ds_type ≡ 32 → (bytes "entry" ++ 32 ∷ []) ++ (word (decimal e.number) ++ (bytes "spare" ++ 10 ∷ [])) ≡ entry_text names e
  unfolding entry_text line_of
  spare-line h = rw (eq-eqb e.ds_type 32 h) (simp append_snoc)

  pub named-line : (e.ds_type ≡ 32 → ⊥) → (bytes "entry" ++ 32 ∷ []) ++ (word (decimal e.number) ++ line_of (entry_words names e)) ≡ entry_text names e
  unfolding entry_text line_of entry_words
  named-line h = rw (ne_eqb e.ds_type 32 h) (simp append_snoc)
