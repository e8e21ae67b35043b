-- What an answer of two kinds leaves in the two rooms lent for it, and what is returned.
-- Assumes nothing.
use Rattle.std.specs.Prelude.{ℕ, List, [], ◌∷◌, Float, length}
use Rattle.layout.specs.Answer.{Answer, Reply}
use Rattle.layout.specs.Fields.{Position}
use Rattle.layout.specs.declared.Directory.{Directory}
use Rattle.values.specs.declared.MainHeader.{MainHeader}
use Rattle.words.specs.Words.{point_words, point_doubles}
use Rattle.words.specs.Headers.{header_words, header_texts, directory_words, directory_texts}
use Rattle.words.specs.Lent.{TwoRooms}

-- words and texts of the directory
abbrev pub DirectoryRooms : Answer → Directory → (words words' texts texts' : List ℕ) (r : ℕ) → Type 0
DirectoryRooms v d words words' texts texts' r = TwoRooms (directory_words v d) words words' (directory_texts d) texts texts' r

-- words and texts of the main header
abbrev pub HeaderRooms : Answer → MainHeader → (words words' texts texts' : List ℕ) (r : ℕ) → Type 0
HeaderRooms v h words words' texts texts' r = TwoRooms (header_words v h) words words' (header_texts h) texts texts' r

-- the length of a part of the product, and its bytes
abbrev pub PartRooms : (part words words' bytes bytes' : List ℕ) (r : ℕ) → Type 0
PartRooms part words words' bytes bytes' r = TwoRooms (length part ∷ []) words words' part bytes bytes' r

-- words and doubles of a point
abbrev pub PointRooms : Reply Position → (words words' : List ℕ) (point point' : List Float) (r : ℕ) → Type 0
PointRooms a words words' point point' r = TwoRooms (point_words a) words words' (point_doubles a) point point' r
