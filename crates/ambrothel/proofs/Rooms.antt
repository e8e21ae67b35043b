-- How long the answer of `ambrothel_open_directory` is, whatever the product, and that what is put of an opened product is that answer.
-- Assumes nothing.
use Rattle.std.specs.Prelude.{Result, Ok, Err}
use Rattle.std.specs.Result.{result_unwrap_or}
use Prim.Native.Nat.{ℕ, ◌+◌, ◌*◌, ◌≤◌}
use mathlib.Core.List.{List, map}
use mathlib.Core.Path.{◌≡◌, refl, sym, ap}
use native.Mathlib.Omega.{arith}
use lib.IntN.{pos}
use lib.ListN.{length, length-map, length-replicate}
use Rattle.layout.specs.Answer.{Answer, accepted, refused, ◌else◌}
use Rattle.layout.specs.Search.{upto}
use Rattle.layout.specs.Entries.{Entry, dsds_at, entries, entries_from, directory, start, extent}
use Rattle.layout.specs.Order.{rank_of, ranks_of}
use Rattle.layout.specs.Rules.{verdict}
use Rattle.layout.specs.Answers.{reply_is, reply, verdict_is, padded, type_of, count_of, record_size_of, directory_of, no_directory, directory_for}
use Rattle.layout.specs.declared.Refusal.{Refusal}
use Rattle.layout.proofs.Replies.{else_is, else_refusal}
use Rattle.values.specs.Header.{header_of, no_header, header_for}
use Rattle.values.specs.declared.MainHeader.{MainHeader}
use Rattle.layout.proofs.Sound.{length-map-upto, length-directory, accepted-entries}
use Rattle.writing.specs.Put.{Put}
use Rattle.writing.proofs.Puts.{then, spelled}
use Rattle.ranks.specs.Ranks.{ranks_by}
use Rattle.directory.specs.Numbers.{directory_with}
use Rattle.directory.specs.declared.Sets.{Sets}
use Rattle.directory.proofs.Texts.{padded-long, names-long, filenames-long}
use Rattle.opening.specs.Opening.{OpenedInto}
use Rattle.product.proofs.Calls.{now_dsds, now_few, now_directory}
use Rattle.words.specs.Headers.{number_words, directory_words, directory_texts}
use Rattle.words.proofs.Lengths.{directory-words, directory-texts}
use Rattle.words.proofs.Lent.{both_written}
use Rattle.ambrothel.specs.Calls.{DirectoryCall}

-- ---- how long the answer is

module _ (b : List ℕ) where
  array : {A : Type 0} (f : Entry → A) (z : A) → verdict b ≡ accepted → length (padded 128 z (map f (directory b))) ≡ 128
  array f z h = padded-long 128 z (map f (directory b)) (omega (arith, length-map (directory b) f, length-directory b, accepted-entries b h))

  ranks-long : verdict b ≡ accepted → length (padded 128 0 (ranks_of (directory b))) ≡ 128
  unfolding ranks_of
  ranks-long h = padded-long 128 0 (map (rank_of (directory b)) (upto 0 (length (directory b)))) (omega (arith, length-map-upto (rank_of (directory b)) 0 (length (directory b)), length-directory b, accepted-entries b h))

  words_of : (a : Answer) → verdict b ≡ a → length (directory_words a (directory_for a b)) ≡ 772
  unfolding directory_of
  words_of accepted h = directory-words accepted (directory_of (directory b)) (array type_of 0 h) (array start 0 h) (array extent 0 h) (array count_of 0 h) (array record_size_of (pos 0) h) (ranks-long h)
  words_of (refused n p e) h = directory-words (refused n p e) no_directory refl refl refl refl refl refl

  texts_of : (a : Answer) → verdict b ≡ a → length (directory_texts (directory_for a b)) ≡ 11520
  unfolding directory
  texts_of accepted h =
      let few = accepted-entries b h in
      directory-texts (directory_of (directory b)) (names-long b (dsds_at b) (entries b) few) (filenames-long b (dsds_at b) (entries b) few)
  texts_of (refused n p e) h = directory-texts no_directory (length-replicate {A = ℕ} 3584 0) (length-replicate {A = ℕ} 7936 0)

  pub words_long : length (directory_words (verdict b) (directory_for (verdict b) b)) ≡ 772
  words_long = words_of (verdict b) refl

  pub texts_long : length (directory_texts (directory_for (verdict b) b)) ≡ 11520
  texts_long = texts_of (verdict b) refl

-- ---- what is put

-- of an accepted product, where its DSDs begin and the numbers of its directory
pub record Held (b : List ℕ) (dsds : ℕ) (sets : Sets) : Type 0 where
  pub accepts : verdict b ≡ accepted
  pub inside : dsds + 280 * sets.entries ≤ length b
  pub few : sets.entries ≤ 128
  pub listed : directory_with sets (entries_from b dsds sets.entries) ≡ directory_of (directory b)

-- an accepted product's opening holds them
pub opened_held : (b : List ℕ) (dsds : ℕ) (sets : Sets) → OpenedInto b (Ok dsds) sets → Held b dsds sets
unfolding verdict_is
opened_held b dsds sets opened =
    let a = sym opened.judged in
    let opens = opened.opens dsds refl in
    record { accepts = a; inside = (now_dsds b _ opens a).1; few = now_few b _ opens a; listed = now_directory b _ opens a }

module _ (b : List ℕ) (dsds : ℕ) (sets : Sets) (h : Held b dsds sets) where
  abbrev ds : List Entry
  ds = entries_from b dsds sets.entries

  -- the ranks by its numbers
  abbrev Ranks : List ℕ → Type 0
  Ranks ranks = ranks ≡ ranks_by sets.offsets sets.sizes sets.entries

  words_put : {ranks old new : List ℕ} {r : ℕ} → Ranks ranks
      → Put 772 (number_words accepted sets.entries sets.types sets.offsets sets.sizes sets.counts sets.record_sizes ranks) old new 0 r
      → Put 772 (directory_words accepted (directory_of (directory b))) old new 0 r
  unfolding directory_words directory_with
  words_put e p = spelled (ap (directory_words accepted) h.listed) (rw e at p)

  texts_put : {old mid new : List ℕ} {m r : ℕ} → Put 3584 (directory_of ds).names old mid 0 m → Put 7936 (directory_of ds).filenames mid new m r
      → Put 11520 (directory_texts (directory_of (directory b))) old new 0 r
  unfolding directory_texts directory_with directory_of
  texts_put p q = spelled (ap directory_texts h.listed) (then p q)

  pub all_put : {ranks words words' texts texts' texts'' : List ℕ} {r m s : ℕ} → Ranks ranks → 772 ≤ length words → 11520 ≤ length texts
      → Put 772 (number_words accepted sets.entries sets.types sets.offsets sets.sizes sets.counts sets.record_sizes ranks) words words' 0 r
      → Put 3584 (directory_of ds).names texts texts' 0 m → Put 7936 (directory_of ds).filenames texts' texts'' m s → DirectoryCall b words words' texts texts'' 0
  all_put e w t p q q' = rw h.accepts (both_written (words_put e p) (texts_put q q') (rw (words_of b accepted h.accepts) w) (rw (texts_of b accepted h.accepts) t))

-- ---- the main header

-- the answer's verdict and header, none beside a refusal, are the product's
pub header_told : (b : List ℕ) (r : Result MainHeader Refusal) → reply r ≡ (verdict b else header_of b) → (verdict_is r ≡ verdict b) × (result_unwrap_or r no_header ≡ header_for (verdict b) b)
unfolding reply_is verdict_is
header_told b (Ok h) e = let q = else_is (verdict b) (header_of b) h (sym e) in (sym q.0, rw q.0 (sym q.1))
header_told b (Err f) e = let q = else_refusal (verdict b) (header_of b) f.number f.place f.entry (sym e) in (sym q, rw q)
