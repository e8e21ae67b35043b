-- The set of residual extinction, looked for in the arrays of a directory, and its entry in a product.
-- Assumes nothing.
use Rattle.std.specs.Prelude.{ℕ, Bool, cond, ◌&&◌, List, ltb, eqb, pos, get_or}
use Rattle.layout.specs.Bytes.{bytes}
use Rattle.layout.specs.Answer.{Reply, ◌or_else◌, ◌else◌}
use Rattle.layout.specs.Search.{only}
use Rattle.layout.specs.Entries.{eq_z, directory, called}
use Rattle.layout.specs.Rules.{verdict}
use Rattle.layout.specs.Answers.{name_at}
use Rattle.layout.specs.declared.Directory.{Directory}
use Rattle.extinction.specs.Extinction.{extinction_entry, set_refusal}

-- entry i, by its type and name
unfoldable pub is_extinction_in : Directory → ℕ → Bool
is_extinction_in d i = eqb (get_or d.types i 0) 77 && called (name_at d.names i) (bytes "EXT_MDS")

-- the only one that is, if its record size is right; else 128
unfoldable pub extinction_in : Directory → ℕ
extinction_in d =
    let i = only (is_extinction_in d) d.entries in
    cond (ltb i d.entries && eq_z (get_or d.record_sizes i (pos 0)) (pos 25709)) i 128

-- the entry of the set in a product, or a product's own refusals and then 22
unfoldable pub entry_reply : List ℕ → Reply ℕ
entry_reply b = verdict b or_else set_refusal (directory b) else extinction_entry (directory b)
