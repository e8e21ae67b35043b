-- The listing of an input by its length, and what the directory of any answer holds.
-- Assumes nothing.
use Rattle.std.specs.Prelude.{Result, Ok, Err, IfOk}
use Prim.Native.Nat.{ℕ, ◌≤◌, ◌<◌}
use mathlib.Core.List.{List}
use mathlib.Core.Path.{◌≡◌, refl, sym, ◌∙◌}
use native.Mathlib.Omega.{arith}
use lib.ListN.{length}
use borrow.Author.Tests.{lt-ltb, le-ltb}
use Rattle.layout.specs.Answer.{accepted, ◌else◌}
use Rattle.layout.specs.Entries.{directory}
use Rattle.layout.specs.Rules.{verdict}
use Rattle.layout.specs.Answers.{reply_is, reply, directory_of, directory_for}
use Rattle.layout.specs.Listing.{listing}
use Rattle.layout.specs.declared.Refusal.{Refusal}
use Rattle.layout.specs.declared.Directory.{Directory}
use Rattle.layout.proofs.Replies.{else_is, else_refusal}
use Rattle.layout.proofs.Sound.{length-directory, accepted-entries}
use Rattle.listing_text.specs.Listing.{accepted_text, refusal_text, listing_of, answer_text, longer_text}
use Rattle.listing_text.proofs.Same.{listing_same}

module _ (b : List ℕ) where
  pub longer : 65536 < length b → listing b ≡ longer_text
  longer h = listing_same b ∙ rw (lt-ltb 65536 (length b) h)

  directory-few : verdict b ≡ accepted → (directory_of (directory b)).entries ≤ 128
  unfolding directory_of
  directory-few h = omega (arith, length-directory b, accepted-entries b h)

  text_of : (r : Result Directory Refusal) → reply r ≡ (verdict b else directory_of (directory b)) → listing_of (verdict b) (length b) (directory_for (verdict b) b) ≡ answer_text r (length b)
  unfolding reply_is listing_of answer_text
  text_of (Ok d) h = let q = else_is (verdict b) (directory_of (directory b)) d (sym h) in rw (q.0, q.1)
  text_of (Err f) h = let q = else_refusal (verdict b) (directory_of (directory b)) f.number f.place f.entry (sym h) in rw q

  few_of : (r : Result Directory Refusal) → reply r ≡ (verdict b else directory_of (directory b)) → IfOk r (λ d. d.entries ≤ 128)
  unfolding reply_is
  few_of (Ok d) h = let q = else_is (verdict b) (directory_of (directory b)) d (sym h) in rw q.1 at (directory-few q.0)
  few_of (Err f) h = tt

  module _ (r : Result Directory Refusal) (answered : reply r ≡ (verdict b else directory_of (directory b))) where
    pub listed : length b ≤ 65536 → listing b ≡ answer_text r (length b)
    listed h = listing_same b ∙ rw (le-ltb 65536 (length b) h) (text_of r answered)

    pub few-entries : IfOk r (λ d. d.entries ≤ 128)
    few-entries = few_of r answered

-- ---- the cases of an answer

pub listing-accepted : (r : Result Directory Refusal) (d : Directory) (n : ℕ) → r ≡ Ok d → accepted_text n d ≡ answer_text r n
unfolding answer_text
listing-accepted r d n h = rw h

pub listing-refused : (r : Result Directory Refusal) (f : Refusal) (n : ℕ) → r ≡ Err f → refusal_text f.number f.place f.entry ≡ answer_text r n
unfolding answer_text
listing-refused r f n h = rw h
