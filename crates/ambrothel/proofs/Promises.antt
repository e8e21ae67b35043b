-- Theorems over the promises of the calls for C and Rust: word 0 is 0 exactly where nothing is refused, of the answer and, where a call returns 0,
-- of the room lent. That two results are equal is `one_result` and `two_results` of words, for each call but a column, which has its own.
-- Assumes nothing.
use Prim.Native.Nat.{ℕ, ◌<◌}
use mathlib.Core.List.{List, [], ◌++◌, append-nil}
use mathlib.Core.Logic.{◌↔◌}
use mathlib.Core.Path.{◌≡◌, refl, sym, ◌∙◌}
use native.Mathlib.Omega.{arith}
use lib.Dec.{T}
use lib.Ieee.{Float}
use lib.ListN.{length, get_or, length-append}
use Rattle.layout.specs.Answer.{Answer, accepted, refused, none, need, Reply, refusal, is}
use Rattle.layout.specs.Rules.{verdict}
use Rattle.layout.specs.Answers.{directory_for}
use Rattle.values.specs.Header.{header_for}
use Rattle.layout.specs.Records.{sph_place, record_place}
use Rattle.layout.specs.Fields.{field_reply, point_reply}
use Rattle.layout.specs.declared.Time.{Time}
use Rattle.layout.proofs.Laws.{accepted≢refused, need-accepts}
use Rattle.layout.proofs.Replies.{refusal≢is, Numbered, NumberedReply, need_numbered}
use Rattle.product.proofs.Numbers.{verdict-number, sph_number, record-number, field_number, point_number}
use Rattle.words.specs.Words.{verdict_words, place_words, field_words, point_words}
use Rattle.words.specs.Headers.{header_words, directory_words}
use Rattle.words.specs.Lent.{OneRoom, TwoRooms}
use Rattle.words.specs.Rooms.{PointRooms}
use Rattle.extinction.specs.Extinction.{pixel_reply}
use Rattle.extinction.proofs.Promises.{pixel_number}
use Rattle.extinction_words.specs.PixelWords.{pixel_words, PixelRooms}
use Rattle.extinction_words.proofs.Answers.{pixel_eleven}
use Rattle.times.specs.Times.{time_of_text, valid_time}
use Rattle.times.proofs.Promises.{refused_30}
use Rattle.time_words.specs.TimeWords.{time_words, TextRooms}
use Rattle.time_words.proofs.Answers.{time_seven}
use Rattle.column.specs.Column.{column_reply, refusal_of}
use Rattle.column.proofs.Promises.{refusal-number, answered_exactly}
use Rattle.ambrothel.specs.Calls.{DirectoryCall, HeaderCall, ColumnCall}
use Rattle.words.proofs.Lengths.{verdict_three, place_five, field_seven, point_three}
use Rattle.words.proofs.Results.{one_result, room_word, first-room-word}

-- ---- the first word of an answer, `d` where it has none

verdict-zero : {most : ℕ} (a : Answer) → Numbered most a → (rest : List ℕ) (d : ℕ) → (get_or (verdict_words a ++ rest) 0 d ≡ 0) ↔ (a ≡ accepted)
unfolding verdict_words
verdict-zero accepted f rest d = (λ h. refl, λ h. refl)
verdict-zero (refused n p e) f rest d = (λ h. absurd (omega (arith, (f n p e refl).0)), λ h. absurd (accepted≢refused (sym h)))

-- something is answered
abbrev pub Given : {A : Type 0} → Reply A → Type 0
Given {A} a = (x : A) × (a ≡ is x)

module _ {A : Type 0} {most : ℕ} (words : Reply A → List ℕ) (d : ℕ) (head : (n p e : ℕ) → get_or (words (refusal n p e)) 0 d ≡ n) (none : (x : A) → get_or (words (is x)) 0 d ≡ 0) where
  reply_zero : (a : Reply A) → NumberedReply most a → (get_or (words a) 0 d ≡ 0) ↔ Given a
  reply_zero (refusal n p e) f = (λ h. absurd (omega (arith, head n p e, (f n p e refl).0)), λ h. absurd (refusal≢is n p e h.0 h.1))
  reply_zero (is x) f = (λ h. (x, refl), λ h. none x)

module _ (b : List ℕ) (d : ℕ) where
  -- word 0 of the verdict is 0 exactly where the product is accepted
  pub judge_zero : (get_or (verdict_words (verdict b)) 0 d ≡ 0) ↔ (verdict b ≡ accepted)
  judge_zero = rw append-nil at (verdict-zero (verdict b) (verdict-number b) [] d)

  -- and so is word 0 of the directory
  pub directory-zero : (get_or (directory_words (verdict b) (directory_for (verdict b) b)) 0 d ≡ 0) ↔ (verdict b ≡ accepted)
  unfolding directory_words
  directory-zero = verdict-zero (verdict b) (verdict-number b) _ d

  -- and of the header values
  pub header_zero : (get_or (header_words (verdict b) (header_for (verdict b) b)) 0 d ≡ 0) ↔ (verdict b ≡ accepted)
  unfolding header_words
  header_zero = verdict-zero (verdict b) (verdict-number b) _ d

  -- word 0 of the place of the SPH lines is 0 exactly where there is one
  pub sph_zero : (get_or (place_words (sph_place b)) 0 d ≡ 0) ↔ Given (sph_place b)
  unfolding place_words
  sph_zero = reply_zero place_words d (λ n p e. refl) (λ x. refl) (sph_place b) (sph_number b)

  module _ (i j : ℕ) where
    -- of the place of a record
    pub record-zero : (get_or (place_words (record_place b i j)) 0 d ≡ 0) ↔ Given (record_place b i j)
    unfolding place_words
    record-zero = reply_zero place_words d (λ n p e. refl) (λ x. refl) (record_place b i j) (record-number b i j)

    -- of a field
    pub field_zero : (off kind : ℕ) → (get_or (field_words (field_reply b i j off kind)) 0 d ≡ 0) ↔ Given (field_reply b i j off kind)
    unfolding field_words
    field_zero off kind = reply_zero field_words d (λ n p e. refl) (λ x. refl) (field_reply b i j off kind) (field_number b i j off kind)

    -- of a point
    pub point_zero : (lat lon alt : ℕ) → (get_or (point_words (point_reply b i j lat lon alt)) 0 d ≡ 0) ↔ Given (point_reply b i j lat lon alt)
    unfolding point_words
    point_zero lat lon alt = reply_zero point_words d (λ n p e. refl) (λ x. refl) (point_reply b i j lat lon alt) (point_number b i j lat lon alt)

  -- of a pixel
  pub pixel_zero : (j pixel : ℕ) → (get_or (pixel_words (pixel_reply b j pixel)) 0 d ≡ 0) ↔ Given (pixel_reply b j pixel)
  unfolding pixel_words
  pixel_zero j pixel = reply_zero pixel_words d (λ n p e. refl) (λ x. refl) (pixel_reply b j pixel) (pixel_number b j pixel)

-- ---- the first word of a room, where the call returns 0

module _ {P : Type 0} (d : ℕ) (answer old new : List ℕ) (some : 0 < length answer) (zero : (get_or answer 0 d ≡ 0) ↔ P) where
  in_room : OneRoom answer old new 0 → (get_or new 0 d ≡ 0) ↔ P
  in_room x = rw (room_word answer old new x 0 d some) zero

  in_first : {B : Type 0} {answer' old' new' : List B} → TwoRooms answer old new answer' old' new' 0 → (get_or new 0 d ≡ 0) ↔ P
  in_first x = rw (first-room-word answer old new _ _ _ x 0 d some) zero

-- the verdict's three words come first
three_first : (a : Answer) (rest : List ℕ) → 0 < length (verdict_words a ++ rest)
three_first a rest = rw (length-append (verdict_words a) rest, verdict_three a) (omega arith)

module _ (b : List ℕ) (d : ℕ) (words words' : List ℕ) where
  -- a host reads 0 in word 0 exactly where the product is accepted
  pub judge_word : OneRoom (verdict_words (verdict b)) words words' 0 → (get_or words' 0 d ≡ 0) ↔ (verdict b ≡ accepted)
  judge_word = in_room d (verdict_words (verdict b)) words words' (rw (verdict_three (verdict b)) (omega arith)) (judge_zero b d)

  module _ (texts texts' : List ℕ) where
    -- the same of the room for the directory
    pub directory-word : DirectoryCall b words words' texts texts' 0 → (get_or words' 0 d ≡ 0) ↔ (verdict b ≡ accepted)
    unfolding directory_words
    directory-word = in_first d (directory_words (verdict b) (directory_for (verdict b) b)) words words' (three_first (verdict b) _) (directory-zero b d)

    -- and of the room for the header values
    pub header_word : HeaderCall b words words' texts texts' 0 → (get_or words' 0 d ≡ 0) ↔ (verdict b ≡ accepted)
    unfolding header_words
    header_word = in_first d (header_words (verdict b) (header_for (verdict b) b)) words words' (three_first (verdict b) _) (header_zero b d)

  -- a host reads 0 in word 0 exactly where the SPH lines have a place
  pub sph_word : OneRoom (place_words (sph_place b)) words words' 0 → (get_or words' 0 d ≡ 0) ↔ Given (sph_place b)
  sph_word = in_room d (place_words (sph_place b)) words words' (rw (place_five (sph_place b)) (omega arith)) (sph_zero b d)

  module _ (i j : ℕ) where
    -- where the record has one
    pub record-word : OneRoom (place_words (record_place b i j)) words words' 0 → (get_or words' 0 d ≡ 0) ↔ Given (record_place b i j)
    record-word = in_room d (place_words (record_place b i j)) words words' (rw (place_five (record_place b i j)) (omega arith)) (record-zero b d i j)

    -- where there is a field
    pub field_word : (off kind : ℕ) → OneRoom (field_words (field_reply b i j off kind)) words words' 0 → (get_or words' 0 d ≡ 0) ↔ Given (field_reply b i j off kind)
    field_word off kind = in_room d (field_words (field_reply b i j off kind)) words words' (rw (field_seven (field_reply b i j off kind)) (omega arith)) (field_zero b d i j off kind)

    -- where there is a point
    pub point_word : (lat lon alt : ℕ) (point point' : List Float) → PointRooms (point_reply b i j lat lon alt) words words' point point' 0 → (get_or words' 0 d ≡ 0) ↔ Given (point_reply b i j lat lon alt)
    point_word lat lon alt point point' = in_first d (point_words (point_reply b i j lat lon alt)) words words' (rw (point_three (point_reply b i j lat lon alt)) (omega arith)) (point_zero b d i j lat lon alt)

  -- where there is a pixel
  pub pixel_word : (j pixel : ℕ) (model model' : List Float) → PixelRooms (pixel_reply b j pixel) words words' model model' 0 → (get_or words' 0 d ≡ 0) ↔ Given (pixel_reply b j pixel)
  pixel_word j pixel model model' = in_first d (pixel_words (pixel_reply b j pixel)) words words' (rw (pixel_eleven (pixel_reply b j pixel)) (omega arith)) (pixel_zero b d j pixel)

-- ---- times and their texts

time-number : (t : List ℕ) → NumberedReply 31 (time_of_text t)
time-number t n p e h = let q = (refused_30 t n p e h).0 in (omega arith, omega arith)

module _ (d : ℕ) where
  pub time-zero : (t : List ℕ) → (get_or (time_words (time_of_text t)) 0 d ≡ 0) ↔ Given (time_of_text t)
  unfolding time_words
  time-zero t = reply_zero time_words d (λ n p e. refl) (λ x. refl) (time_of_text t) (time-number t)

  pub text-zero : (t : Time) → (get_or (verdict_words (need (valid_time t) 31 0 none)) 0 d ≡ 0) ↔ (need (valid_time t) 31 0 none ≡ accepted)
  text-zero t = rw append-nil at (verdict-zero (need (valid_time t) 31 0 none) (need_numbered 31 (valid_time t) 31 0 none (omega arith) (omega arith)) [] d)

  module _ (words words' : List ℕ) where
    -- a host reads 0 in word 0 exactly where the text has a time or is blank
    pub time-word : (t : List ℕ) → OneRoom (time_words (time_of_text t)) words words' 0 → (get_or words' 0 d ≡ 0) ↔ Given (time_of_text t)
    time-word t = in_room d (time_words (time_of_text t)) words words' (rw (time_seven (time_of_text t)) (omega arith)) (time-zero t)

    -- where the time is of the range
    pub text-word : (t : Time) (text text' : List ℕ) → TextRooms t words words' text text' 0 → (get_or words' 0 d ≡ 0) ↔ T (valid_time t)
    text-word t text text' x =
        let a = need (valid_time t) 31 0 none in
        let z = in_first d (verdict_words a) words words' (rw (verdict_three a) (omega arith)) (text-zero t) x.rooms in
        let v = need-accepts (valid_time t) 31 0 none in
        (λ h. v.0 (z.0 h), λ h. z.1 (v.1 h))

-- ---- a column

module _ (b : List ℕ) (i from to off kind room d : ℕ) where
  abbrev column : Reply (List ℕ)
  column = column_reply b i from to off kind room

  pub column_zero : (get_or (verdict_words (refusal_of column)) 0 d ≡ 0) ↔ Given column
  column_zero =
      let z = rw append-nil at (verdict-zero (refusal_of column) (refusal-number b i from to off kind room) [] d) in
      let a = answered_exactly column in
      (λ h. a.0 (z.0 h), λ h. z.1 (a.1 h))

  module _ (words words' values values' : List ℕ) where
    -- a host reads 0 in word 0 exactly where the values are given
    pub column_word : ColumnCall column words words' values values' 0 → (get_or words' 0 d ≡ 0) ↔ Given column
    column_word x = in_room d (verdict_words (refusal_of column)) words words' (rw (verdict_three (refusal_of column)) (omega arith)) column_zero x.refusal

    -- two results that the promise allows are equal
    pub one_column_call : (words'' values'' : List ℕ) (r s : ℕ) → ColumnCall column words words' values values' r → ColumnCall column words words'' values values'' s → (words' ≡ words'') × ((values' ≡ values'') × (r ≡ s))
    one_column_call words'' values'' r s x y = let w = one_result x.refusal y.refusal in (w.0, (x.written ∙ sym y.written, w.1))
