-- How many words and doubles each answer takes: one number, whatever is answered.
-- Assumes nothing.
use mathlib.Core.Path.{◌≡◌, refl}
use lib.ListN.{length, length-append, length-map}
use Rattle.layout.specs.Answer.{Answer, accepted, refused, Reply, refusal, is}
use Rattle.layout.specs.Records.{Span}
use Rattle.layout.specs.Fields.{Value, integer, single, double, time, Position}
use Rattle.words.specs.Words.{verdict_words, place_words, value_words, field_words, point_words, point_doubles}
use Rattle.words.specs.Headers.{identity_words, sensing_words, orbit_words, clock_words, sizes_words, header_words, identity_texts, header_texts, directory_words, directory_texts}
use Rattle.values.specs.declared.MainHeader.{MainHeader}
use Rattle.layout.specs.declared.Directory.{Directory}

pub verdict_three : (a : Answer) → length (verdict_words a) ≡ 3
unfolding verdict_words
verdict_three accepted = refl
verdict_three (refused n p e) = refl

pub place_five : (a : Reply Span) → length (place_words a) ≡ 5
unfolding place_words
place_five (refusal n p e) = refl
place_five (is s) = refl

pub field_seven : (a : Reply Value) → length (field_words a) ≡ 7
unfolding field_words value_words
field_seven (refusal n p e) = refl
field_seven (is (integer v)) = refl
field_seven (is (single v bits)) = refl
field_seven (is (double v bits)) = refl
field_seven (is (time d s m)) = refl

pub point_three : (a : Reply Position) → length (point_words a) ≡ 3
unfolding point_words
point_three (refusal n p e) = refl
point_three (is x) = refl

pub doubles_three : (a : Reply Position) → length (point_doubles a) ≡ 3
unfolding point_doubles
doubles_three (refusal n p e) = refl
doubles_three (is x) = refl

pub directory-words : (v : Answer) (d : Directory) → length d.types ≡ 128 → length d.offsets ≡ 128 → length d.sizes ≡ 128 → length d.counts ≡ 128 → length d.record_sizes ≡ 128 → length d.ranks ≡ 128 → length (directory_words v d) ≡ 772
unfolding directory_words
directory-words v d types offsets sizes counts records ranks = simp (length-append, length-map, verdict_three, types, offsets, sizes, counts, records, ranks)

pub directory-texts : (d : Directory) → length d.names ≡ 3584 → length d.filenames ≡ 7936 → length (directory_texts d) ≡ 11520
unfolding directory_texts
directory-texts d names filenames = simp (length-append, names, filenames)

pub header-words : (v : Answer) (h : MainHeader) → length (header_words v h) ≡ 25
unfolding header_words identity_words sensing_words orbit_words clock_words sizes_words
header-words v h = simp (length-append, verdict_three)

module _ (h : MainHeader) where
  pub header-texts : length h.identity.product ≡ 62 → length h.identity.ref_doc ≡ 23 → length h.identity.acquisition_station ≡ 20 → length h.identity.proc_center ≡ 6 → length h.identity.proc_time ≡ 27 → length h.identity.software_ver ≡ 14 → length h.sensing.sensing_start ≡ 27 → length h.sensing.sensing_stop ≡ 27 → length h.orbit.state_vector_time ≡ 27 → length h.orbit.vector_source ≡ 2 → length h.clock.utc_sbt_time ≡ 27 → length h.clock.leap_utc ≡ 27 → length (header_texts h) ≡ 289
  unfolding header_texts identity_texts
  header-texts a b c d e f g i j k l m = simp (length-append, a, b, c, d, e, f, g, i, j, k, l, m)
