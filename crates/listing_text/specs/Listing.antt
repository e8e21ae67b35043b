-- The listing (document 01, "The listing") as the layout's definition has it, but from a verdict, a length and a directory's arrays.
-- Assumes nothing.
use Rattle.std.specs.Prelude.{ℕ, List, [], ◌∷◌, ◌++◌, map, pos, get_or, Result, Ok, Err}
use Rattle.layout.specs.Bytes.{bytes}
use Rattle.layout.specs.Answer.{Answer, accepted, refused}
use Rattle.layout.specs.Search.{upto, join}
use Rattle.layout.specs.Listing.{decimal, line_of}
use Rattle.layout.specs.declared.Refusal.{Refusal}
use Rattle.layout.specs.declared.Directory.{Directory}
use Rattle.listing_text.specs.declared.Listed.{Listed}
use Rattle.listing_text.specs.EntryLine.{entry_text}

-- what a line says of entry i, but for its name
unfoldable pub listed_of : Directory → ℕ → Listed
listed_of d i =
    record {
      number = i;
      ds_type = get_or d.types i 0;
      offset = get_or d.offsets i 0;
      size = get_or d.sizes i 0;
      count = get_or d.counts i 0;
      record_size = get_or d.record_sizes i (pos 0);
      rank = get_or d.ranks i 0;
    }

unfoldable pub entry_text_at : Directory → ℕ → List ℕ
entry_text_at d i = entry_text d.names (listed_of d i)

-- the lines of the first n entries
unfoldable pub entry_texts : Directory → ℕ → List ℕ
entry_texts d n = join (map (entry_text_at d) (upto 0 n))

unfoldable pub refusal_text : ℕ → ℕ → ℕ → List ℕ
refusal_text n p e = line_of (bytes "refused" ∷ decimal n ∷ decimal p ∷ decimal e ∷ [])

unfoldable pub accepted_text : ℕ → Directory → List ℕ
accepted_text n d = line_of (bytes "size" ∷ decimal n ∷ []) ++ (entry_texts d d.entries ++ line_of (bytes "accepted" ∷ []))

unfoldable pub listing_of : Answer → ℕ → Directory → List ℕ
listing_of accepted n d = accepted_text n d
listing_of (refused number p e) n d = refusal_text number p e

-- of a directory or of a refusal
unfoldable pub answer_text : Result Directory Refusal → ℕ → List ℕ
answer_text (Ok d) n = accepted_text n d
answer_text (Err r) n = refusal_text r.number r.place r.entry

-- an input of more bytes than are read
unfoldable pub longer_text : List ℕ
longer_text = line_of (bytes "longer" ∷ bytes "than" ∷ bytes "65536" ∷ [])
