-- The walk over a set's records, run by run: what is stored so far is what the request has so far.
-- Assumes nothing.
use Prim.Native.Nat.{ℕ, ◌+◌, ◌*◌, ◌-◌, ◌≤◌, ◌<◌}
use Rattle.std.specs.Prelude.{Result, Ok, Err, IsErr, IsErrAnd}
use mathlib.Core.List.{List, [], ◌++◌, map, append_assoc, append-nil}
use mathlib.Core.Path.{◌≡◌, refl, sym, ap, ◌∙◌}
use native.Mathlib.Omega.{arith}
use lib.ListN.{length, replicate, length-append, length-replicate}
use lib.Seq.{sets}
use Rattle.layout.specs.Answer.{refused, refusal, is}
use Rattle.layout.specs.Search.{upto, sum}
use Rattle.layout.specs.Answers.{verdict_is}
use Rattle.layout.specs.declared.Refusal.{Refusal}
use Rattle.layout.proofs.Agree.{map-upto_same}
use Rattle.layout.proofs.Replies.{refusal≢is, handed-verdict}
use Rattle.layout.proofs.Faults.{sum-append, sum-replicate}
use Rattle.column.specs.Column.{together, refusal_of}
use Rattle.column.specs.Gathering.{Fits, in_run, in_set, reached, run_reply, set_reply, Gathered}
use Rattle.column.specs.declared.gathering.Run.{Run}
use Rattle.column.specs.declared.gathering.Request.{Request}
use Rattle.field_bits.proofs.Stored.{stored-behind}
use Rattle.column.proofs.Together.{is-refused, is_answered, values_are, each_value, more_values, then_refused, some_refused}
use Rattle.column.proofs.Runs.{in-run, no_record}

module _ (b : List ℕ) (q : Request) (begin : ℕ) (ns old : List ℕ) where
  -- behind the records before `first`, the rest of which have the lengths `rest`
  pub record Walked (rest : List ℕ) (first place : ℕ) (column : List ℕ) : Type 0 where
    pub pre : List ℕ
    pub split : ns ≡ pre ++ rest
    pub passed : first ≡ length pre
    pub placed : place ≡ begin + sum pre
    pub values : List ℕ
    pub given : together (map (in_set b q begin ns) (upto q.from (reached q first))) ≡ is values
    pub stored : column ≡ sets old 0 values

  -- a run that is next lies where the set does
  pub run_inside : {rest column : List ℕ} {first place : ℕ} → Walked rest first place column → (m size : ℕ) (after : List ℕ) → rest ≡ replicate m size ++ after
      → (place + m * size ≤ begin + sum ns) × (first + m ≤ length ns)
  run_inside w m size after next =
      let s : sum ns ≡ sum w.pre + (m * size + sum after) = ap sum w.split ∙ rw (next, sum-append w.pre (replicate m size ++ after), sum-append (replicate m size) after, sum-replicate m size) in
      let l : length ns ≡ length w.pre + (m + length after) = ap length w.split ∙ rw (next, length-append w.pre (replicate m size ++ after), length-append (replicate m size) after, length-replicate m size) in
      (omega (arith, w.placed), omega (arith, w.passed))

  -- nothing is said of the column where it is refused
  refused_so : (f : Refusal) (v : Result (Unit {0}) Refusal) (column : List ℕ) → verdict_is v ≡ refused f.number f.place f.entry → set_reply b q begin ns ≡ refusal f.number f.place f.entry
      → Gathered (set_reply b q begin ns) 0 old column v
  unfolding refusal_of
  refused_so f v column h r = record { told = h ∙ rw r; stored = λ xs s. absurd (refusal≢is f.number f.place f.entry xs (sym r ∙ s)) }

  module _ {room : ℕ} (fits : Fits q room) where
    pub at-start : (place : ℕ) → place ≡ begin → Walked ns 0 place old
    unfolding together sum
    at-start place p =
        let none : reached q 0 ≡ 0 = omega (arith, fits.some) in
        record { pre = []; split = refl; passed = refl; placed = omega arith; values = []; given = rw none; stored = refl }

    module _ {rest column : List ℕ} {first place : ℕ} (w : Walked rest first place column) where
      -- a run that is next
      module _ (m size : ℕ) (after new : List ℕ) (next : rest ≡ replicate m size ++ after) where
        abbrev run : Run
        run = record { first = first; place = place; count = m; size = size }

        same : (j : ℕ) → first ≤ j → j < first + m → in_set b q begin ns j ≡ in_run b q run j
        same j l u = rw (w.split, next) (in-run b q begin w.pre m size after run w.passed w.placed refl j l u)

        its_values : together (map (in_set b q begin ns) (upto (q.from + reached q first) (reached q (first + m) - reached q first))) ≡ run_reply b q run
        unfolding run_reply
        its_values =
            ap together (map-upto_same (in_set b q begin ns) (in_run b q run) (q.from + reached q first) (reached q (first + m) - reached q first) (λ j l u. same j (omega (arith, fits.some)) (omega (arith, fits.some))))

        -- its values are stored too
        pub walked_on : (x : Unit {0}) → Gathered (run_reply b q run) (reached q first) column new (Ok x) → Walked after (first + m) (place + m * size) new
        unfolding verdict_is
        walked_on x g =
            let ys = is_answered (run_reply b q run) g.told in
            let long = (each_value (in_set b q begin ns) q.from (reached q first) w.values w.given).0 in
            record {
              pre = w.pre ++ replicate m size;
              split = w.split ∙ rw (next, append_assoc w.pre (replicate m size) after);
              passed = rw (length-append w.pre (replicate m size), length-replicate m size, w.passed);
              placed = rw (sum-append w.pre (replicate m size), sum-replicate m size) (omega (arith, w.placed));
              values = w.values ++ ys.0;
              given = more_values (in_set b q begin ns) q.from (reached q first) w.values w.given (reached q (first + m)) ys.0 (omega arith) (its_values ∙ ys.1);
              stored = stored-behind old column new w.values ys.0 0 (reached q first) (omega (arith, long)) w.stored (g.stored ys.0 ys.1);
            }

        -- or the field passes the end of its records, which is handed on
        pub cut_short : (f : Refusal) → Gathered (run_reply b q run) (reached q first) column new (Err f)
            → (v : Result (Unit {0}) Refusal) → IsErr v × IsErrAnd v (λ g. g ≡ f) → Gathered (set_reply b q begin ns) 0 old new v
        unfolding verdict_is set_reply
        cut_short f g v h =
            let r = is-refused (run_reply b q run) f.number f.place f.entry g.told in
            refused_so f v new (handed-verdict v f h)
            (some_refused (in_set b q begin ns) q.from (reached q first) w.values w.given (reached q (first + m) - reached q first) (q.to - q.from) f.number f.place f.entry (omega arith) (its_values ∙ r))

      -- all that is asked for is there
      pub all_there : q.to ≤ first → (x : Unit {0}) → Gathered (set_reply b q begin ns) 0 old column (Ok x)
      unfolding set_reply refusal_of verdict_is
      all_there l x =
          let all : reached q first ≡ q.to - q.from = omega arith in
          let e : set_reply b q begin ns ≡ is w.values = rw all at w.given in
          record { told = rw e; stored = λ xs s. w.stored ∙ rw (values_are (sym e ∙ s)) }

      -- the records end before that
      pub too_few : rest ≡ [] → first < q.to → (v : Result (Unit {0}) Refusal) → v ≡ Err (record { number = 18; place = 0; entry = q.entry }) → Gathered (set_reply b q begin ns) 0 old column v
      unfolding set_reply verdict_is
      too_few e l v h =
          let all : ns ≡ w.pre = w.split ∙ rw (e, append-nil w.pre) in
          let many : length ns ≡ first = rw all (sym w.passed) in
          refused_so (record { number = 18; place = 0; entry = q.entry }) v column (rw h)
          (then_refused (in_set b q begin ns) q.from (reached q first) w.values w.given (q.to - q.from) 18 0 q.entry (omega (arith, fits.some)) (no_record b q begin ns (q.from + reached q first) (omega (arith, many))))
