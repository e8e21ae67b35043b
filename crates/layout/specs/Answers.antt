-- The answers of `src/` as document 01 has them: a refusal's number, place and entry, or what the value says.
-- Assumes nothing.
use Rattle.std.specs.Prelude.{ℕ, ◌+◌, ◌*◌, ◌-◌, List, ◌++◌, map, ℤ, pos, length, replicate, Result, Ok, Err}
use Rattle.layout.specs.Bytes.{part, unsigned_at, signed_at}
use Rattle.layout.specs.Text.{whole}
use Rattle.layout.specs.Answer.{Answer, accepted, refused, Reply, refusal, is}
use Rattle.layout.specs.Search.{join}
use Rattle.layout.specs.Entries.{Entry, directory, start, extent}
use Rattle.layout.specs.Order.{ranks_of}
use Rattle.layout.specs.Records.{Span}
use Rattle.layout.specs.Fields.{Value, integer, single, double, time, Position}
use Rattle.layout.specs.declared.Refusal.{Refusal}
use Rattle.layout.specs.declared.Span.{Span as SpanAnswered}
use Rattle.layout.specs.declared.Time.{Time}
use Rattle.layout.specs.declared.Field.{Field}
use Rattle.layout.specs.declared.Field.TheVariants as field-cases
use Rattle.layout.specs.declared.Point.{Point}
use Rattle.layout.specs.declared.Directory.{Directory}

-- ---- results

-- the refusal, or what the value says
unfoldable pub reply_is : {A B : Type 0} → (A → B) → Result A Refusal → Reply B
reply_is says (Ok x) = is (says x)
reply_is says (Err r) = refusal r.number r.place r.entry

abbrev pub reply : {A : Type 0} → Result A Refusal → Reply A
reply r = reply_is (λ x. x) r

-- the refusal alone
unfoldable pub verdict_is : {A : Type 0} → Result A Refusal → Answer
verdict_is (Ok x) = accepted
verdict_is (Err r) = refused r.number r.place r.entry

abbrev pub span_is : SpanAnswered → Span
span_is s = record { place = s.place; length = s.length }

abbrev pub place_is : Result SpanAnswered Refusal → Reply Span
place_is r = reply_is span_is r

unfoldable pub field_is : Field → Value
field_is (field-cases.Whole v) = integer v
field_is (field-cases.Single v bits) = single v bits
field_is (field-cases.Double v bits) = double v bits
field_is (field-cases.Time t) = time t.days t.seconds t.microseconds

abbrev pub field_answer_is : Result Field Refusal → Reply Value
field_answer_is r = reply_is field_is r

abbrev pub position_is : Point → Position
position_is p = record { latitude = p.latitude; longitude = p.longitude; altitude = p.altitude }

abbrev pub point_answer_is : Result Point Refusal → Reply Position
point_answer_is r = reply_is position_is r

-- ---- a time

-- mjd: days sl, seconds ul, microseconds ul
unfoldable pub time_at : List ℕ → ℕ → Time
time_at r off = record { days = signed_at r off 4; seconds = unsigned_at r (off + 4) 4; microseconds = unsigned_at r (off + 8) 4 }

-- ---- the directory, up to 128 entries held together, unused places zero

-- a list, and zeros up to so many places
unfoldable pub padded : {A : Type 0} → ℕ → A → List A → List A
padded places z l = l ++ replicate (places - length l) z

abbrev pub type_of : Entry → ℕ
type_of e = e.type

abbrev pub name_of : Entry → List ℕ
name_of e = e.name

abbrev pub filename_of : Entry → List ℕ
filename_of e = e.filename

abbrev pub count_of : Entry → ℕ
count_of e = e.count.magnitude

abbrev pub record_size_of : Entry → ℤ
record_size_of e = whole e.record_size

unfoldable pub directory_of : List Entry → Directory
directory_of ds =
    record {
      entries = length ds;
      types = padded 128 0 (map type_of ds);
      names = padded 3584 0 (join (map name_of ds));
      filenames = padded 7936 0 (join (map filename_of ds));
      offsets = padded 128 0 (map start ds);
      sizes = padded 128 0 (map extent ds);
      counts = padded 128 0 (map count_of ds);
      record_sizes = padded 128 (pos 0) (map record_size_of ds);
      ranks = padded 128 0 (ranks_of ds);
    }

-- the name of entry i, of 28 bytes, among the names of a directory
unfoldable pub name_at : List ℕ → ℕ → List ℕ
name_at names i = part names (28 * i) 28

abbrev pub no_directory : Directory
no_directory =
    record {
      entries = 0;
      types = replicate 128 0;
      names = replicate 3584 0;
      filenames = replicate 7936 0;
      offsets = replicate 128 0;
      sizes = replicate 128 0;
      counts = replicate 128 0;
      record_sizes = replicate 128 (pos 0);
      ranks = replicate 128 0;
    }

-- the directory where the answer accepts, else none
abbrev pub directory_for : Answer → List ℕ → Directory
directory_for accepted b = directory_of (directory b)
directory_for (refused n p e) b = no_directory
