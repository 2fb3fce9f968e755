-- Since which rounds processors could act and are absent.
use Rattle.std.specs.Prelude.{◌≡◌, ℕ, ◌+◌, ◌%◌, ◌<◌, ◌^◌, ◌==◌, Bool, false, List, length, set}
use Rattle.std.specs.Prelude.{slice_get, slice_index, count_by, Option, Some, None, is_some}
use Rattle.std.specs.Prelude.{if◌then◌else◌}

-- for each processor the round since which it could act and is absent, if there is one
abbrev pub Absences : Type 0
Absences = List (Option ℕ)

abbrev pub if_there : Option (Option ℕ) → Option ℕ
if_there None = None
if_there (Some since) = since

abbrev pub since : Absences → (processor : ℕ) → Option ℕ
since absences h = if_there (slice_get absences h)

abbrev pub begun : Absences → (processor round : ℕ) → Absences
begun absences h round =
    if is_some (since absences h) then absences else set absences h (Some round)

-- a processor could act before each of the 256 rounds that end with this one, and is absent from
-- them, but not for longer
pub record IsLateNow (absences : Absences) (round h : ℕ) : Type 0 where
  pub first : ℕ
  pub last : first + 255 ≡ round
  pub absent : since absences h ≡ Some first

-- the least processor for which a round is late
abbrev pub IsLeastLate : Absences → (round : ℕ) → Option ℕ → Type 0
IsLeastLate absences round None = (h : ℕ) → IsLateNow absences round h → ⊥
IsLeastLate absences round (Some h) =
    IsLateNow absences round h × ((g : ℕ) → g < h → IsLateNow absences round g → ⊥)

-- the rounds by their remainders
abbrev pub remainder : (round : ℕ) → ℕ
remainder round = round % 256

abbrev pub has_remainder : ℕ → Option ℕ → Bool
has_remainder k None = false
has_remainder k (Some round) = remainder round == k

-- what is counted about fewer than 2^32 processors
pub record IsCounted (absences : Absences) (parts : List ℕ) (able : ℕ) : Type 0 where
  pub few : length absences < 2 ^ 32
  pub parted : length parts ≡ 256
  pub part : (k : ℕ) → k < 256 → slice_index parts k ≡ count_by (has_remainder k) absences
  pub all : able ≡ count_by is_some absences
