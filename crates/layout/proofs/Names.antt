-- The names of a directory: of one width, one after the other, and what stands at the place of an entry.
-- Assumes nothing.
use Prim.Native.Nat.{ℕ, zero, suc, ◌+◌, ◌*◌, ◌-◌, ◌<◌}
use mathlib.Core.Path.{◌≡◌, ap, ◌∙◌}
use mathlib.Core.List.{List, [], ◌∷◌, ◌++◌, map, append_assoc}
use native.Mathlib.Omega.{arith}
use native.Mathlib.Nat.{not-suc-le-zero, le_of_suc-le-suc, mul-zero, mul-suc}
use lib.ListN.{length, take, drop, get_or, replicate, length-map, length-drop}
use lib.Seq.{take_at, drop-append-add, length-take-le}
use Rattle.layout.specs.Bytes.{part}
use Rattle.layout.specs.Text.{line_classes, value_classes, value_width, quote_width, place_of, width_of, value_of}
use Rattle.layout.specs.Lines.{dsd}
use Rattle.layout.specs.Search.{join}
use Rattle.layout.specs.Entries.{Entry, headers_end, entries, dsds_at, dsd_at, dsd_bytes, entry_of, directory, at}
use Rattle.layout.specs.Answers.{padded, name_of, name_at, directory_of}
use Rattle.layout.proofs.Padded.{get_d_map}
use Rattle.layout.proofs.Sound.{Sound, length-directory, at-directory, entry-at}

text_at_lem : (ls : List (List ℕ)) (w i : ℕ) (rest : List ℕ) → i < length ls → ((k : ℕ) → k < length ls → length (get_or ls k []) ≡ w)
    → take w (drop (w * i) (join ls ++ rest)) ≡ get_or ls i []
text_at_lem [] w i rest h all = absurd (not-suc-le-zero h)
text_at_lem (x ∷ ls) w zero rest h all = rw (mul-zero w, append_assoc) (take_at x (join ls ++ rest) w (all 0 h))
text_at_lem (x ∷ ls) w (suc i) rest h all =
    let wide : length x ≡ w = all 0 (omega arith) in
    let more : w * i + w ≡ length x + w * i = omega arith in
    let q : w * suc i ≡ length x + w * i = mul-suc w i ∙ more in
    rw (append_assoc, q, drop-append-add x (join ls ++ rest) (w * i)) (text_at_lem ls w i rest (le_of_suc-le-suc h) (λ k l. all (suc k) (omega arith)))

-- where the names are of 28 bytes, the one at the place of an entry is the entry's
pub name_same : (ds : List Entry) (i : ℕ) → i < length ds → ((k : ℕ) → k < length ds → length (at ds k).name ≡ 28) → name_at (directory_of ds).names i ≡ (at ds i).name
unfolding name_at part directory_of padded at
name_same ds i l wide =
    let none = entry_of (replicate 280 32) in
    text_at_lem (map name_of ds) 28 i (replicate (3584 - length (join (map name_of ds))) 0) (omega (arith, length-map ds name_of))
    (λ k h. let m : k < length ds = omega (arith, length-map ds name_of) in ap length (get_d_map name_of ds k [] none m) ∙ wide k m)
    ∙ get_d_map name_of ds i [] none l

module _ (b : List ℕ) (good : Sound b) where
  dsd-whole : (i : ℕ) → i < entries b → length (dsd_bytes b i) ≡ 280
  unfolding dsd_bytes part dsd_at dsds_at headers_end
  dsd-whole i h = length-take-le 280 (drop (dsd_at b i) b) (omega (arith, good.headed.headers, good.headed.dsds, length-drop (dsd_at b i) b))

  -- and they are, in an accepted product
  pub name_width : (i : ℕ) → i < length (directory b) → length (at (directory b) i).name ≡ 28
  unfolding entry_of value_of place_of width_of dsd line_classes value_classes quote_width value_width part
  name_width i l =
      let m : i < entries b = omega (arith, length-directory b) in
      rw (at-directory b i m, entry-at b i) (length-take-le 28 (drop 9 (dsd_bytes b i)) (omega (arith, dsd-whole i m, length-drop 9 (dsd_bytes b i))))
