-- The rules in the order in which the code checks them, and what opening answers at each.
-- Assumes nothing.
use Rattle.std.specs.Prelude.{Result, Ok, Err}
use Prim.Native.Nat.{ℕ, ◌*◌, ◌-◌, ◌≤◌, min}
use mathlib.Core.List.{List}
use mathlib.Core.Path.{◌≡◌, refl, sym, ap, ◌∙◌, subst}
use native.Mathlib.Omega.{arith}
use lib.ListN.{length}
use Rattle.layout.specs.Answer.{accepted, refused, ◌or_else◌}
use Rattle.layout.specs.Answers.{verdict_is}
use Rattle.layout.specs.Entries.{Entry, headers_end, entries_from, directory}
use Rattle.layout.specs.States.{states_of, tally_of}
use Rattle.layout.specs.Rules.{rules1to6, header_rules, state_rules, verdict_from, verdict}
use Rattle.layout.specs.declared.Refusal.{Refusal}
use Rattle.layout.proofs.Laws.{accepted≢refused, or_else_accepts, or_else_assoc}
use Rattle.layout.proofs.Replies.{told-accepted, handed-verdict}
use Rattle.layout.proofs.Sound.{headed}
use Rattle.header.specs.Checks.{HeaderChecked}
use Rattle.header.specs.declared.HeaderCheck.{HeaderCheck}
use Rattle.directory.specs.Numbers.{sets_of, held_sets}
use Rattle.directory.specs.Checks.{Headers, SparesByFirst, Counted, text_rules, number_rules, place_rules, Placed}
use Rattle.directory.specs.declared.Reading.{Reading}
use Rattle.directory.specs.declared.Sets.{Sets}
use Rattle.directory.proofs.Rules.{dsds_of, spares_by_first, rules_split, the_directory, numbers-read, places_are}
use Rattle.states.specs.Laid.{Fitting, Laid, Every}
use Rattle.states.proofs.Fits.{fitting, laid}
use Rattle.opening.specs.Opening.{longest_headers, front_rules, set_rules, Fronted, FrontChecked, SetsRead, HeadersChecked, Opens, Opened, OpenedInto, OpenedWhole}
use Rattle.opening.specs.declared.Opening.{Opening}

-- ---- rules 1 to 8

module _ (b : List ℕ) (n : ℕ) where
  pub stays_front : (f : Refusal) (r : Result HeaderCheck Refusal) → r ≡ Err f → refused f.number f.place f.entry ≡ front_rules b n → FrontChecked b n r
  unfolding verdict_is
  stays_front f r e h = rw e (record { judged = h; good = λ x q. cc })

  pub six_refuse : (f : Refusal) → refused f.number f.place f.entry ≡ rules1to6 b n → refused f.number f.place f.entry ≡ front_rules b n
  unfolding front_rules
  six_refuse f h = rw (← h)

  module _ (header : HeaderCheck) (checked : HeaderChecked b n (Ok header)) where
    six : rules1to6 b n ≡ accepted
    unfolding verdict_is
    six = sym checked.verdict-is

    pub text_refuse : (f : Refusal) → refused f.number f.place f.entry ≡ text_rules b n → refused f.number f.place f.entry ≡ front_rules b n
    unfolding front_rules
    text_refuse f h = h ∙ sym (rw six)

    module _ (enough : min n longest_headers ≤ length b) where
      pub headers : Headers b header.headers_end header.entries
      headers =
          let fit = checked.headers header refl in
          record {
            ends = fit.end_is;
            all = fit.entries-are;
            most = fit.entries-most;
            room = fit.dsds-fit;
            inside = omega (arith, fit.inside, fit.end_most);
          }

      pub front_good : accepted ≡ text_rules b n → FrontChecked b n (Ok header)
      unfolding verdict_is front_rules
      front_good h =
          let all : front_rules b n ≡ accepted = rw (six, ← h) in
          record { judged = sym all; good = λ x q. let e : header ≡ x = cc in subst (λ (y : HeaderCheck). Fronted b n y) e (record { rules = all; headers = headers }) }

text : (b : List ℕ) (n : ℕ) (front : HeaderCheck) → Fronted b n front → text_rules b n ≡ accepted
unfolding front_rules
text b n front fronted = ((or_else_accepts (rules1to6 b n) (text_rules b n)).0 fronted.rules).1

-- ---- rules 9 to 14

module _ (b : List ℕ) (n : ℕ) (front : HeaderCheck) (fronted : Fronted b n front) (reading : Reading) (offsets sizes : List ℕ) (sets : SetsRead (directory b) reading offsets sizes) where
  pub numbers-refused : (f : Refusal) → refused f.number f.place f.entry ≡ number_rules b n → refused f.number f.place f.entry ≡ set_rules b n
  unfolding set_rules
  numbers-refused f h = rw (← h)

  pub places_last : accepted ≡ number_rules b n → (v : Result (Unit {0}) Refusal) → Placed offsets sizes front.entries front.headers_end n v → verdict_is v ≡ set_rules b n
  unfolding set_rules
  places_last numbers v placed =
      places_are b front.headers_end front.entries fronted.headers n (text b n front fronted) reading sets.read.counted (sym numbers) offsets sizes sets.read.held sets.extents v placed
      ∙ rw (← numbers)

-- ---- rules 1 to 14

module _ (b : List ℕ) (n : ℕ) where
  headers_split : header_rules b n ≡ (front_rules b n or_else set_rules b n)
  unfolding header_rules front_rules set_rules
  headers_split = rw (rules_split b n) (sym (simp or_else_assoc))

  -- the numbers are what they may be
  pub stays_refused : (sets : Sets) (f : Refusal) (r : Result HeaderCheck Refusal) → r ≡ Err f → refused f.number f.place f.entry ≡ header_rules b n → HeadersChecked b n r sets
  unfolding verdict_is
  stays_refused sets f r e h = rw e (record { judged = h; headers = λ x q. cc; held = λ q. absurd (accepted≢refused (sym q ∙ sym h)) })

  pub front_refuse : (f : Refusal) → refused f.number f.place f.entry ≡ front_rules b n → refused f.number f.place f.entry ≡ header_rules b n
  front_refuse f h = sym (headers_split ∙ rw (← h))

  module _ (front : HeaderCheck) (checked : FrontChecked b n (Ok front)) where
    pub fronted : Fronted b n front
    fronted = checked.good front refl

    -- what a reading of the numbers asks of the DSDs
    pub spares_told : SparesByFirst b (front.headers_end - 280 * front.entries) front.entries
    spares_told = spares_by_first b (front.headers_end - 280 * front.entries) front.entries (dsds_of fronted.headers) n (text b n front fronted)

    entries-are : entries_from b (front.headers_end - 280 * front.entries) front.entries ≡ directory b
    entries-are = the_directory b front.headers_end front.entries fronted.headers

    set-rules : header_rules b n ≡ set_rules b n
    set-rules = headers_split ∙ rw fronted.rules

    pub sets_refuse : (f : Refusal) → refused f.number f.place f.entry ≡ set_rules b n → refused f.number f.place f.entry ≡ header_rules b n
    sets_refuse f h = h ∙ sym set-rules

    -- what a reading of the numbers holds
    module _ (reading : Reading) (counted : Counted (entries_from b (front.headers_end - 280 * front.entries) front.entries) reading)
        (sets : Sets) (held : sets ≡ held_sets (entries_from b (front.headers_end - 280 * front.entries) front.entries)) where
      of_directory : Counted (directory b) reading
      of_directory = subst (λ (ds : List Entry). Counted ds reading) entries-are counted

      held-are : sets ≡ held_sets (directory b)
      held-are = held ∙ ap held_sets entries-are

      pub sets_read : SetsRead (directory b) reading sets.offsets sets.sizes
      sets_read = record { read = record { counted = of_directory; held = ap (λ (s : Sets). s.offsets) held-are }; extents = ap (λ (s : Sets). s.sizes) held-are }

      are : set_rules b n ≡ accepted → sets ≡ sets_of (directory b)
      unfolding set_rules
      are rules =
          held-are
          ∙ numbers-read b front.headers_end front.entries fronted.headers n (text b n front fronted) reading of_directory
          ((or_else_accepts (number_rules b n) (place_rules (directory b) (headers_end b) n)).0 rules).0

      pub sets_good : accepted ≡ set_rules b n → HeadersChecked b n (Ok front) sets
      unfolding verdict_is
      sets_good h = record {
        judged = h ∙ sym set-rules;
        headers = λ x q. let e : front ≡ x = cc in subst (λ (y : HeaderCheck). Headers b y.headers_end y.entries) e fronted.headers;
        held = λ e. are (sym h);
      }

-- ---- with the numbers

module _ (b : List ℕ) (n : ℕ) where
  pub stays_closed : (f : Refusal) (r : Result Opening Refusal) → r ≡ Err f → refused f.number f.place f.entry ≡ header_rules b n → Opened b n r
  unfolding verdict_is
  stays_closed f r e h = rw e (record { judged = h; opens = λ x q. cc })

  module _ (headers : HeaderCheck) (sets : Sets) (checked : HeadersChecked b n (Ok headers) sets) where
    pub fourteen : header_rules b n ≡ accepted
    unfolding verdict_is
    fourteen = sym checked.judged

    pub headers-are : Headers b headers.headers_end headers.entries
    headers-are = checked.headers headers refl

    pub opened : (dsds : ℕ) → dsds ≡ headers.headers_end - 280 * headers.entries → Opened b n (Ok (record { dsds = dsds; sets = sets }))
    unfolding verdict_is
    opened dsds d = record {
      judged = sym fourteen;
      opens = λ x q. let e : ◌≡◌ {A = Opening} (record { dsds = dsds; sets = sets }) x = cc in subst (Opens b) e (record { begin = d ∙ (dsds_of headers-are).begin; held = checked.held fourteen });
    }

-- ---- and rules 15 and 16

module _ (b : List ℕ) where
  pub headers-refused : (f : Refusal) → refused f.number f.place f.entry ≡ header_rules b (length b) → refused f.number f.place f.entry ≡ verdict b
  unfolding verdict verdict_from
  headers-refused f h = rw (← h)

  module _ (sets : Sets) (fourteen : header_rules b (length b) ≡ accepted) (held : sets ≡ sets_of (directory b)) where
    fits : Fitting (directory b) (length b)
    fits = fitting b (length b) (headed b (length b) fourteen)

    pub numbers-laid : Laid sets (length b)
    numbers-laid = laid b (length b) sets fourteen held

    pub by_states : (v : Result (Unit {0}) Refusal) → Every sets (λ ds. verdict_is v ≡ state_rules ds (tally_of (states_of b ds))) → verdict_is v ≡ verdict b
    unfolding verdict verdict_from
    by_states v every = every (directory b) (length b) held fits ∙ rw fourteen

  module _ (r : Result Opening Refusal) (opened : Opened b (length b) r) where
    pub opening_laid : (o : Opening) → r ≡ Ok o → (header_rules b (length b) ≡ accepted) × (o.sets ≡ sets_of (directory b))
    opening_laid o e = (told-accepted r o (header_rules b (length b)) e opened.judged, (opened.opens o e).held)

    pub whole_good : accepted ≡ verdict b → OpenedWhole b r
    unfolding verdict verdict_from
    whole_good h = record {
      judged = opened.judged ∙ ((or_else_accepts (header_rules b (length b)) _).0 (sym h)).0 ∙ h;
      opens = opened.opens;
    }

  pub stays_shut : (f : Refusal) (r : Result Opening Refusal) → r ≡ Err f → refused f.number f.place f.entry ≡ verdict b → OpenedWhole b r
  unfolding verdict_is
  stays_shut f r e h = rw e (record { judged = h; opens = λ x q. cc })

  -- by the numbers that were read of the headers
  module _ (sets : Sets) (good : accepted ≡ header_rules b (length b)) (held : header_rules b (length b) ≡ accepted → sets ≡ sets_of (directory b)) where
    pub read_laid : Laid sets (length b)
    read_laid = numbers-laid sets (sym good) (held (sym good))

    pub read_judged : (v : Result (Unit {0}) Refusal) → Every sets (λ ds. verdict_is v ≡ state_rules ds (tally_of (states_of b ds))) → verdict_is v ≡ verdict b
    read_judged = by_states sets (sym good) (held (sym good))

    pub read_refused : (f : Refusal) → Every sets (λ ds. refused f.number f.place f.entry ≡ state_rules ds (tally_of (states_of b ds))) → refused f.number f.place f.entry ≡ verdict b
    unfolding verdict_is
    read_refused f every = read_judged (Err f) every

    pub read_accepted : Every sets (λ ds. accepted ≡ state_rules ds (tally_of (states_of b ds))) → accepted ≡ verdict b
    unfolding verdict_is
    read_accepted every = read_judged (Ok tt) every

  -- with the numbers that the caller lent
  module _ (sets : Sets) where
    pub stays_unlent : (f : Refusal) (r : Result ℕ Refusal) → r ≡ Err f → refused f.number f.place f.entry ≡ verdict b → OpenedInto b r sets
    unfolding verdict_is
    stays_unlent f r e h = rw e (record { judged = h; opens = λ x q. cc })

    pub opened_into : (headers : HeaderCheck) → HeadersChecked b (length b) (Ok headers) sets → accepted ≡ verdict b
        → (dsds : ℕ) → dsds ≡ headers.headers_end - 280 * headers.entries → OpenedInto b (Ok dsds) sets
    unfolding verdict_is
    opened_into headers checked accepts dsds d = record {
      judged = accepts;
      opens = λ x q. let e : dsds ≡ x = cc in subst (λ (y : ℕ). Opens b (record { dsds = y; sets = sets })) e ((opened b (length b) headers sets checked dsds d).opens _ refl);
    }

    pub whole_into : (dsds : ℕ) → OpenedInto b (Ok dsds) sets → OpenedWhole b (Ok (record { dsds = dsds; sets = sets }))
    unfolding verdict_is
    whole_into dsds into = record {
      judged = into.judged;
      opens = λ x q. let e : ◌≡◌ {A = Opening} (record { dsds = dsds; sets = sets }) x = cc in subst (Opens b) e (into.opens dsds refl);
    }

-- what the judgement of a product needs of all this
pub ruleset judging = (handed-verdict, headers-refused, read_laid)
