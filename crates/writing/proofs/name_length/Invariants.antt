-- The name without its trailing blanks is that of its first `last` bytes.
-- Assumes nothing.
use mathlib.Core.Path.{◌≡◌}
use Rattle.layout.specs.Bytes.{part}
use Rattle.layout.specs.Listing.{trimmed}
use Rattle.writing.proofs.name_length.Given as goal

abbrev pub invariant-loop-last : goal.invariant-loop-last
invariant-loop-last l = trimmed (part l.names l.start 28) ≡ trimmed (part l.names l.start l.last)
