-- The main header and the directory as a host gets them: words of 64 bits and texts. Every list has one length, whatever is answered.
-- Assumes nothing.
use Rattle.std.specs.Prelude.{ℕ, ◌+◌, List, [], ◌∷◌, ◌++◌, map, ℤ, length}
use Rattle.layout.specs.Answer.{Answer}
use Rattle.values.specs.declared.Identity.{Identity}
use Rattle.values.specs.declared.Sensing.{Sensing}
use Rattle.values.specs.declared.Orbit.{Orbit}
use Rattle.values.specs.declared.Clock.{Clock}
use Rattle.values.specs.declared.Sizes.{Sizes}
use Rattle.values.specs.declared.MainHeader.{MainHeader}
use Rattle.layout.specs.declared.Directory.{Directory}
use Rattle.writing.specs.Put.{Put}
use Rattle.words.specs.Words.{word, verdict_words}

-- ---- the main header: its numbers and bytes, and its texts, in the order of the lines

unfoldable pub identity_words : Identity → List ℕ
identity_words h = h.proc_stage ∷ []

unfoldable pub sensing_words : Sensing → List ℕ
sensing_words h = h.phase ∷ word h.cycle ∷ word h.rel_orbit ∷ word h.abs_orbit ∷ []

unfoldable pub orbit_words : Orbit → List ℕ
orbit_words h = word h.delta_ut1 ∷ word h.x_position ∷ word h.y_position ∷ word h.z_position ∷ word h.x_velocity ∷ word h.y_velocity ∷ word h.z_velocity ∷ []

unfoldable pub clock_words : Clock → List ℕ
clock_words h = word h.sat_binary_time ∷ word h.clock_step ∷ word h.leap_sign ∷ h.leap_err ∷ []

unfoldable pub sizes_words : Sizes → List ℕ
sizes_words h = h.product_err ∷ word h.tot_size ∷ word h.sph_size ∷ word h.num_dsd ∷ word h.dsd_size ∷ word h.num_data_sets ∷ []

unfoldable pub header_words : Answer → MainHeader → List ℕ
header_words v h = verdict_words v ++ (identity_words h.identity ++ (sensing_words h.sensing ++ (orbit_words h.orbit ++ (clock_words h.clock ++ sizes_words h.sizes))))

unfoldable pub identity_texts : Identity → List ℕ
identity_texts h = (h.product ++ h.ref_doc) ++ ((h.acquisition_station ++ h.proc_center) ++ (h.proc_time ++ h.software_ver))

unfoldable pub header_texts : MainHeader → List ℕ
header_texts h = identity_texts h.identity ++ ((h.sensing.sensing_start ++ h.sensing.sensing_stop) ++ ((h.orbit.state_vector_time ++ h.orbit.vector_source) ++ (h.clock.utc_sbt_time ++ h.clock.leap_utc)))

-- ---- the directory: how many entries, then each number of all 128 places; its names, then its FILENAMEs

abbrev pub number_words : Answer → ℕ → (types offsets sizes counts : List ℕ) → List ℤ → (ranks : List ℕ) → List ℕ
number_words v n types offsets sizes counts record-sizes ranks = verdict_words v ++ ((n ∷ []) ++ (types ++ ((offsets ++ (sizes ++ counts)) ++ (map word record-sizes ++ ranks))))

unfoldable pub directory_words : Answer → Directory → List ℕ
directory_words v d = number_words v d.entries d.types d.offsets d.sizes d.counts d.record_sizes d.ranks

unfoldable pub directory_texts : Directory → List ℕ
directory_texts d = d.names ++ d.filenames

-- ---- put one behind the other

abbrev pub PutTwo : (first second old new : List ℕ) (at r : ℕ) → Type 0
PutTwo first second = Put (length first + length second) (first ++ second)

abbrev pub PutThree : (first second third old new : List ℕ) (at r : ℕ) → Type 0
PutThree first second third = Put (length first + (length second + length third)) (first ++ (second ++ third))
