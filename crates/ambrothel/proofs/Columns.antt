-- What is written of a column, and where the room for the words is too short.
-- Assumes nothing.
use Rattle.std.specs.Prelude.{Result}
use Prim.Native.Nat.{ℕ, ◌≤◌, ◌<◌}
use mathlib.Core.List.{List}
use mathlib.Core.Path.{ap}
use lib.ListN.{length}
use borrow.Author.Tests.{le-leb, lt-leb}
use Rattle.layout.specs.Answer.{Reply}
use Rattle.layout.specs.Answers.{verdict_is}
use Rattle.layout.specs.declared.Refusal.{Refusal}
use Rattle.writing.specs.Put.{Put}
use Rattle.writing.proofs.Puts.{spelled}
use Rattle.words.specs.Words.{verdict_words}
use Rattle.words.specs.Lent.{long_enough}
use Rattle.words.proofs.Lent.{one_short, one_written}
use Rattle.words.proofs.Lengths.{verdict_three}
use Rattle.column.specs.Column.{refusal_of, ColumnIs}
use Rattle.ambrothel.specs.Calls.{ColumnCall}

module _ (reply : Reply (List ℕ)) (words values : List ℕ) where
  pub column_short : length words < 3 → ColumnCall reply words words values values 1
  unfolding long_enough
  column_short h = record { refusal = one_short (rw verdict_three h); written = rw (verdict_three (refusal_of reply), lt-leb 3 (length words) h) }

  pub column_written : {words' values' : List ℕ} {r : ℕ} {v : Result (Unit {0}) Refusal} → 3 ≤ length words → ColumnIs reply values values' v → Put 3 (verdict_words (verdict_is v)) words words' 0 r → ColumnCall reply words words' values values' 0
  unfolding long_enough
  column_written h c p = record {
    refusal = one_written (spelled (ap verdict_words c.told) p) (rw verdict_three h);
    written = rw (verdict_three (refusal_of reply), le-leb 3 (length words) h) c.written;
  }
