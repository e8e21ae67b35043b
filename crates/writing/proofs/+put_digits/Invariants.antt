-- The measure of `writing::put_digits` is the number, which falls to its tenth: the digits of that are put first, then the last one.
-- Assumes nothing.
use Rattle.writing.proofs.+put_digits.Given as goal

abbrev pub decreases-put_digits : goal.decreases-put_digits
decreases-put_digits l = l.number
