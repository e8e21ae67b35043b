-- A number and its blank are at most 21 bytes, and the room keeps its length.
use Rattle.std.proofs.Common.{◌≡◌, ◌+◌, ◌*◌, ◌≤◌, length}
use Rattle.vectors.proofs.printing.put_words.Given as goal

abbrev pub invariant-loop-word : goal.invariant-loop-word
invariant-loop-word l = record {
  begun : l.at ≤ l.next;
  narrow : l.next ≤ l.at + 21 * l.word-index;
  kept : length l.out ≡ length l.initial.out;
}
