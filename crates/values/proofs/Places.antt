-- Where the numbers stand that the rules go by.
-- Assumes nothing.
use Prim.Native.Nat.{ℕ, ◌+◌}
use mathlib.Core.List.{List}
use mathlib.Core.Path.{◌≡◌, refl, ap}
use Rattle.layout.specs.Bytes.{part}
use Rattle.layout.specs.Text.{Number, number_of, value_of, place_of, width_of, line_classes, value_classes, quote_width, value_width}
use Rattle.layout.specs.Lines.{mph}
use Rattle.layout.specs.Entries.{header_number, tot_size, sph_size, num_dsd, dsd_size, headers_end, entries}

module _ (b : List ℕ) where
  pub total_at : tot_size b ≡ number_of (part b 1075 21)
  unfolding tot_size header_number value_of place_of width_of mph line_classes value_classes quote_width value_width
  total_at = refl

  pub sph_at : sph_size b ≡ number_of (part b 1113 11)
  unfolding sph_size header_number value_of place_of width_of mph line_classes value_classes quote_width value_width
  sph_at = refl

  pub dsds-at : num_dsd b ≡ number_of (part b 1140 11)
  unfolding num_dsd header_number value_of place_of width_of mph line_classes value_classes quote_width value_width
  dsds-at = refl

  pub dsd-size-at : dsd_size b ≡ number_of (part b 1161 11)
  unfolding dsd_size header_number value_of place_of width_of mph line_classes value_classes quote_width value_width
  dsd-size-at = refl

  pub headers_end-at : headers_end b ≡ 1247 + (number_of (part b 1113 11)).magnitude
  unfolding headers_end
  headers_end-at = ap (λ (m : Number). 1247 + m.magnitude) sph_at

  pub entries_at : entries b ≡ (number_of (part b 1140 11)).magnitude
  unfolding entries
  entries_at = ap (λ (m : Number). m.magnitude) dsds-at
