-- An entry's line of the listing, from what is listed of it and the names of the directory.
-- Assumes nothing.
use Rattle.std.specs.Prelude.{ℕ, cond, List, [], ◌∷◌, eqb}
use Rattle.layout.specs.Bytes.{bytes}
use Rattle.layout.specs.Listing.{decimal, signed_decimal, trimmed, line_of}
use Rattle.layout.specs.Answers.{name_at}
use Rattle.listing_text.specs.declared.Listed.{Listed}

-- offset, size, records, record size, rank
unfoldable pub entry_numbers : Listed → List (List ℕ)
entry_numbers e = decimal e.offset ∷ decimal e.size ∷ decimal e.count ∷ signed_decimal e.record_size ∷ decimal e.rank ∷ []

-- type, name without trailing blanks, numbers
unfoldable pub entry_words : List ℕ → Listed → List (List ℕ)
entry_words names e = (e.ds_type ∷ []) ∷ trimmed (name_at names e.number) ∷ entry_numbers e

unfoldable pub entry_text : List ℕ → Listed → List ℕ
entry_text names e =
    let is_spare = line_of (bytes "entry" ∷ decimal e.number ∷ bytes "spare" ∷ []) in
    let is_named = line_of (bytes "entry" ∷ decimal e.number ∷ entry_words names e) in
    cond (eqb e.ds_type 32) is_spare is_named
