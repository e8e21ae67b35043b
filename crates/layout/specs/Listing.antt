-- The listing (document 01, "The listing"): the bytes that the program writes for an input. Every line ends in byte 10.
-- Assumes nothing.
use Rattle.std.specs.Prelude.{ℕ, zero, suc, ◌+◌, ◌/◌, ◌%◌, cond, List, [], ◌∷◌, ◌++◌, map, ltb, eqb, ℤ, pos, negsuc, length}
use Rattle.layout.specs.Bytes.{bytes}
use Rattle.layout.specs.Text.{whole}
use Rattle.layout.specs.Answer.{Answer, accepted, refused}
use Rattle.layout.specs.Search.{upto, join}
use Rattle.layout.specs.Entries.{Entry, directory, at}
use Rattle.layout.specs.Order.{rank_of}
use Rattle.layout.specs.Rules.{verdict}

-- ---- words

-- a number in digits, before what follows it; `turns` is enough turns
unfoldable pub digits_before : ℕ → ℕ → List ℕ → List ℕ
digits_before zero n rest = (48 + n % 10) ∷ rest
digits_before (suc turns) n rest =
    let more = digits_before turns (n / 10) ((48 + n % 10) ∷ rest) in
    cond (ltb n 10) ((48 + n) ∷ rest) more

unfoldable pub decimal : ℕ → List ℕ
decimal n = digits_before n n []

unfoldable pub signed_decimal : ℤ → List ℕ
signed_decimal (pos n) = decimal n
signed_decimal (negsuc n) = 45 ∷ decimal (suc n)

-- a byte put before a text; a blank before nothing is left out
unfoldable pub put_before : ℕ → List ℕ → List ℕ
put_before x [] = cond (eqb x 32) [] (x ∷ [])
put_before x (y ∷ ys) = x ∷ y ∷ ys

-- a text without its trailing blanks
unfoldable pub trimmed : List ℕ → List ℕ
trimmed [] = []
trimmed (x ∷ xs) = put_before x (trimmed xs)

-- words with a blank between them, and byte 10
unfoldable pub line_of : List (List ℕ) → List ℕ
line_of [] = 10 ∷ []
line_of (w ∷ []) = w ++ 10 ∷ []
line_of (w ∷ v ∷ vs) = w ++ 32 ∷ line_of (v ∷ vs)

-- ---- lines

unfoldable pub entry_line : List Entry → ℕ → List ℕ
entry_line ds i =
    let e = at ds i in
    let is_spare = line_of (bytes "entry" ∷ decimal i ∷ bytes "spare" ∷ []) in
    let is_named = line_of (bytes "entry" ∷ decimal i ∷ (e.type ∷ []) ∷ trimmed e.name ∷ signed_decimal (whole e.offset) ∷ signed_decimal (whole e.size) ∷ signed_decimal (whole e.count) ∷ signed_decimal (whole e.record_size) ∷ decimal (rank_of ds i) ∷ []) in
    cond (eqb e.type 32) is_spare is_named

unfoldable pub accepted_lines : List ℕ → List Entry → List ℕ
accepted_lines b ds =
    line_of (bytes "size" ∷ decimal (length b) ∷ [])
    ++ (join (map (entry_line ds) (upto 0 (length ds)))
    ++ line_of (bytes "accepted" ∷ []))

-- a refusal is only one line
unfoldable pub listing_for : Answer → List ℕ → List ℕ
listing_for accepted lines = lines
listing_for (refused n p e) lines = line_of (bytes "refused" ∷ decimal n ∷ decimal p ∷ decimal e ∷ [])

unfoldable pub listing : List ℕ → List ℕ
listing b =
    let lines = accepted_lines b (directory b) in
    let judged = listing_for (verdict b) lines in
    cond (ltb 65536 (length b)) (line_of (bytes "longer" ∷ bytes "than" ∷ bytes "65536" ∷ [])) judged
