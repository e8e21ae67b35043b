-- Runs of records of one length in a set, and the part of a request that is theirs.
-- Assumes nothing.
use Prim.Native.Nat.{ℕ, ◌+◌, ◌*◌, ◌-◌, ◌≤◌, ◌<◌}
use Rattle.std.specs.Prelude.{min, max, Result, Ok, Err}
use mathlib.Core.Bool.{false}
use mathlib.Core.List.{List, [], ◌++◌, map}
use mathlib.Core.Path.{◌≡◌, refl, sym, ap, ◌∙◌}
use native.Mathlib.Omega.{arith}
use native.Mathlib.Nat.{zero-add, add_assoc, add-mul, mul-le-mul_right}
use lib.Dec.{leb}
use lib.ListN.{length, take, drop, get_or, replicate, length-append, length-drop}
use lib.Seq.{sets, length-take-le, take-append-add, get_or-append-add}
use borrow.Author.Tests.{lt-ltb, le-ltb, le-leb}
use Rattle.layout.specs.Bytes.{part}
use Rattle.layout.specs.Answer.{refusal, is}
use Rattle.layout.specs.Search.{upto, sum}
use Rattle.layout.specs.Fields.{bytes_of, ends_in, field_refusal, field_in}
use Rattle.layout.specs.Answers.{verdict_is}
use Rattle.layout.specs.declared.Refusal.{Refusal}
use Rattle.layout.proofs.Replies.{refusal≢is}
use Rattle.layout.proofs.Faults.{sum-append}
use Rattle.states.proofs.Laws.{sum_hit, at_hit, records-length}
use Rattle.fields.specs.Kinds.{narrow_number, narrow_shape}
use Rattle.fields.specs.declared.Kind.TheVariants.{Narrow}
use Rattle.fields.proofs.Laws.{known}
use Rattle.field_bits.specs.Bits.{field_bits}
use Rattle.field_bits.proofs.Stored.{turn_inside, field_on}
use Rattle.column.specs.Column.{converted, together, refusal_of}
use Rattle.column.specs.Gathering.{Fits, in_run, in_set, reached, run_reply, Gathered}
use Rattle.column.specs.declared.gathering.Run.{Run}
use Rattle.column.specs.declared.gathering.Request.{Request}
use Rattle.column.proofs.Together.{all-values, then_refused, values_are}

-- ---- a record of a run

pub part-long : (b : List ℕ) (at n : ℕ) → at + n ≤ length b → length (part b at n) ≡ n
unfolding part
part-long b at n h = length-take-le n (drop at b) (omega (arith, length-drop at b))

module _ (b : List ℕ) (q : Request) (run : Run) (inside : run.place + run.count * run.size ≤ length b) where
  module _ (j : ℕ) (begun : run.first ≤ j) (ends : j < run.first + run.count) where
    abbrev its : List ℕ
    its = part b (run.place + (j - run.first) * run.size) run.size

    its_long : length its ≡ run.size
    its_long = part-long b (run.place + (j - run.first) * run.size) run.size (turn_inside (j - run.first) run.count run.place run.size (length b) inside (omega arith))

    -- its field ends in it, or passes its end
    pub run_value : q.offset + bytes_of (narrow_shape q.kind) ≤ run.size → in_run b q run j ≡ is (field_bits b run.place run.size q.offset (narrow_number q.kind) (j - run.first))
    unfolding in_run field_bits converted field_in field_refusal ends_in
    run_value h = rw (known (Narrow q.kind), its_long, le-leb (q.offset + bytes_of (narrow_shape q.kind)) run.size h)

    pub run_cut : leb (q.offset + bytes_of (narrow_shape q.kind)) run.size ≡ false → in_run b q run j ≡ refusal 20 q.offset q.entry
    unfolding in_run converted field_in field_refusal ends_in
    run_cut h = rw (known (Narrow q.kind), its_long, h)

-- ---- a run of a set

module _ (b : List ℕ) (q : Request) (begin : ℕ) (pre : List ℕ) (m size : ℕ) (rest : List ℕ) where
  abbrev pub whole : List ℕ
  whole = pre ++ (replicate m size ++ rest)

  whole_long : length whole ≡ length pre + (m + length rest)
  whole_long = length-append pre (replicate m size ++ rest) ∙ rw (records-length size rest m)

  before-record : (k : ℕ) → k < m → sum (take (length pre + k) whole) ≡ sum pre + k * size
  before-record k h = rw (take-append-add pre (replicate m size ++ rest) k, sum-append pre (take k (replicate m size ++ rest)), sum_hit size rest m k (omega arith))

  that_record : (k : ℕ) → k < m → get_or whole (length pre + k) 0 ≡ size
  that_record k h = rw (get_or-append-add pre (replicate m size ++ rest) k 0) (at_hit size rest m k h)

  -- a request for one of its records is the run's
  pub in-run : (run : Run) → run.first ≡ length pre → run.place ≡ begin + sum pre → run.size ≡ size → (j : ℕ) → run.first ≤ j → j < run.first + m → in_set b q begin whole j ≡ in_run b q run j
  unfolding in_set in_run
  in-run run f p s j l u =
      let k : j ≡ length pre + (j - run.first) = omega arith in
      let t : sum (take j whole) ≡ sum pre + (j - run.first) * size = ap (λ (n : ℕ). sum (take n whole)) k ∙ before-record (j - run.first) (omega arith) in
      let g : get_or whole j 0 ≡ size = ap (λ (n : ℕ). get_or whole n 0) k ∙ that_record (j - run.first) (omega arith) in
      rw (lt-ltb j (length whole) (omega (arith, whole_long)), t, g, s, p, add_assoc begin (sum pre) ((j - run.first) * size))

-- a record behind the last
pub no_record : (b : List ℕ) (q : Request) (begin : ℕ) (ns : List ℕ) (j : ℕ) → length ns ≤ j → in_set b q begin ns j ≡ refusal 18 0 q.entry
unfolding in_set
no_record b q begin ns j h = rw (le-ltb j (length ns) h)

-- ---- what a request asks of a run, from the later of the two beginnings up to the earlier of the two ends

module _ (b : List ℕ) (q : Request) (run : Run) (old : List ℕ) (fits : Fits q (length old)) (inside : run.place + run.count * run.size ≤ length b)
    (low high : ℕ) (lows : low ≡ max run.first q.from) (highs : high ≡ min (run.first + run.count) q.to) where
  pub none_gathered : high ≤ low → (x : Unit {0}) → Gathered (run_reply b q run) (reached q run.first) old old (Ok x)
  unfolding run_reply together refusal_of verdict_is
  none_gathered h x =
      let none : reached q (run.first + run.count) - reached q run.first ≡ 0 = omega (arith, fits.some) in
      let all : run_reply b q run ≡ is [] = rw none in
      record { told = rw all; stored = λ xs e. rw (← values_are (sym all ∙ e)) }

  module _ (h : low < high) where
    begins : q.from + reached q run.first ≡ low
    begins = omega arith

    lasts : reached q (run.first + run.count) - reached q run.first ≡ high - low
    lasts = omega arith

    -- the records asked for are in the column, and in the product
    pub in_column : low - q.from + (high - low) ≤ length old
    in_column = omega (arith, fits.few)

    pub in_product : run.place + (low - run.first) * run.size + (high - low) * run.size ≤ length b
    in_product =
        let m : low - run.first + (high - low) ≤ run.count = omega arith in
        omega (arith, add-mul (low - run.first) (high - low) run.size, mul-le-mul_right run.size m, inside)

    -- the field passes their end
    pub cut_gathered : leb (q.offset + bytes_of (narrow_shape q.kind)) run.size ≡ false
        → (v : Result (Unit {0}) Refusal) → v ≡ Err (record { number = 20; place = q.offset; entry = q.entry }) → Gathered (run_reply b q run) (reached q run.first) old old v
    unfolding run_reply together refusal_of verdict_is
    cut_gathered e v is-it =
        let first : in_run b q run (low + 0) ≡ refusal 20 q.offset q.entry = run_cut b q run inside (low + 0) (omega arith) (omega arith) e in
        let all : run_reply b q run ≡ refusal 20 q.offset q.entry = rw (begins, lasts) (then_refused (in_run b q run) low 0 [] refl (high - low) 20 q.offset q.entry (omega arith) first) in
        record { told = rw (is-it, all); stored = λ xs s. absurd (refusal≢is 20 q.offset q.entry xs (sym all ∙ s)) }

    -- or they are stored
    abbrev bits : ℕ → ℕ
    bits = field_bits b (run.place + (low - run.first) * run.size) run.size q.offset (narrow_number q.kind)

    pub all_gathered : q.offset + bytes_of (narrow_shape q.kind) ≤ run.size → (new : List ℕ)
        → new ≡ sets old (low - q.from) (map bits (upto 0 (high - low)))
        → (x : Unit {0}) → Gathered (run_reply b q run) (reached q run.first) old new (Ok x)
    unfolding run_reply refusal_of verdict_is
    all_gathered ends new s x =
        record { told = rw all; stored = λ xs e. let same : map bits (upto 0 (high - low)) ≡ xs = values_are (sym all ∙ e) in s ∙ rw (same, placed) }
      where
        placed : low - q.from ≡ reached q run.first
        placed = omega arith

        each : (k : ℕ) → k < high - low → in_run b q run (low + k) ≡ is (bits (0 + k))
        each k l =
            let e : low + k - run.first ≡ low - run.first + k = omega arith in
            run_value b q run inside (low + k) (omega arith) (omega arith) ends
            ∙ ap (λ (n : ℕ). is (field_bits b run.place run.size q.offset (narrow_number q.kind) n)) e
            ∙ rw (field_on b run.place run.size q.offset (narrow_number q.kind) (low - run.first) k, zero-add k)

        all : together (map (in_run b q run) (upto (q.from + reached q run.first) (reached q (run.first + run.count) - reached q run.first))) ≡ is (map bits (upto 0 (high - low)))
        all = rw (begins, lasts) (all-values (in_run b q run) bits low 0 (high - low) each)
