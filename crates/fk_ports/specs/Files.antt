-- The files of a store, and what a fetch and a put do to them.
use Rattle.std.specs.Prelude.{◌≡◌, ℕ, ◌≤◌, ◌⊎◌, List, ◌++◌, length, take, Option, None, IfSome}
use Rattle.std.specs.Prelude.{IsSomeAnd}
use Rattle.std.specs.Option.{option_map}
use Rattle.std.specs.Ordering.{nat_cmp}
use Rattle.std.specs.Cmp.Lexicographic.{slice_cmp}
use Rattle.std.specs.FinMap as map
use Rattle.fk_ports.specs.Faults.{HasRisen}

-- A finite map from names to bytes.
abbrev pub Files : Type 0
Files = map.FinMap (slice_cmp nat_cmp) (List ℕ)

-- The bytes of the named file, if there is one.
abbrev pub file : Files → List ℕ → Option (List ℕ)
file files name = map.get files name

-- The files with these bytes for this name. Each other name has what it had.
abbrev pub with_file : Files → List ℕ → List ℕ → Files
with_file files name bytes = map.insert files name bytes

-- The same change, if the files are known.
abbrev pub with_file_known : Option Files → List ℕ → List ℕ → Option Files
with_file_known known name bytes = option_map (λ files. with_file files name bytes) known

-- The files are known, and none has the name.
abbrev pub LacksFile : Option Files → List ℕ → Type 0
LacksFile known name = IsSomeAnd known (λ files. file files name ≡ None)

-- If the files are known, `new` is `old` followed by the first bytes of the named file, `most` of
-- them or all.
abbrev pub AppendsFile : Option Files → List ℕ → ℕ → List ℕ → List ℕ → Type 0
AppendsFile known name most old new =
    IfSome known (λ files. IsSomeAnd (file files name) (λ bytes. new ≡ old ++ take most bytes))

-- `new` is `old` followed by at most `most` bytes.
abbrev pub AppendsAtMost : ℕ → List ℕ → List ℕ → Type 0
AppendsAtMost most old new = (bytes : List ℕ) × (length bytes ≤ most) × (new ≡ old ++ bytes)

-- Why a fetch fails: its count of faults rose, or the files are known and lack the name, which
-- isn't counted.
abbrev pub FetchFaults : Option Files → List ℕ → ℕ → ℕ → Type 0
FetchFaults known name old new = HasRisen old new ⊎ (LacksFile known name × (new ≡ old))
