-- What the readers of single tables give.
use Rattle.std.specs.Prelude.{◌≡◌, ℕ, ◌+◌, ◌*◌, ◌<◌, List, drop, length, slice_index_or, take}
use Rattle.fk_image.specs.declared.fault.ImageFault.{ImageFault}
use Rattle.fk_image.specs.declared.fault.ImageFault.TheVariants.{BadTable, Memory}
use Rattle.fk_image.specs.declared.reading.Header.{Header}
use Rattle.fk_image.specs.Limits.{IsSite}
use Rattle.fk_image.specs.Refusals.{HasHeader, IsFirstBad, IsNextCommit, code_words, commit_at}
use Rattle.fk_image.specs.Refusals.{commit_count, commits_place, global_words, site_at, site_count}
use Rattle.fk_image.specs.Refusals.{sites_place}

-- The header has what these bytes say.
pub record IsHeaderOf (bytes : List ℕ) (header : Header) : Type 0 where
  pub holds : HasHeader bytes
  pub code : header.code ≡ code_words bytes
  pub globals : header.globals ≡ global_words bytes
  pub sites : header.sites ≡ site_count bytes
  pub commits : header.commits ≡ commit_count bytes

-- The bytes of the code.
abbrev pub code_table : List ℕ → List ℕ
code_table bytes = take (4 * code_words bytes) (drop 24 bytes)

-- The bytes of the globals.
abbrev pub global_table : List ℕ → List ℕ
global_table bytes = take (4 * global_words bytes) (drop (24 + 4 * code_words bytes) bytes)

-- The bytes of the sites.
abbrev pub site_table : List ℕ → List ℕ
site_table bytes = take (12 * site_count bytes) (drop (4 * sites_place bytes) bytes)

-- The bytes of the commits, which come last.
abbrev pub commit_table : List ℕ → List ℕ
commit_table bytes = drop (4 * commits_place bytes) bytes

-- The fault is the first of a table's sites that isn't within its limits, or there isn't enough
-- memory.
abbrev pub IsSiteFault : List ℕ → ImageFault → Type 0
IsSiteFault table (BadTable k) = (12 * k < length table)
    × IsFirstBad 0 (λ j. IsSite (site_at table (3 * j))) k
IsSiteFault table (Memory e) = Unit {0}
IsSiteFault table fault = ⊥

-- The fault is the first of a table's commits that isn't within its limits, or there isn't enough
-- memory. Commits are counted on from the sites.
abbrev pub IsCommitFault : Header → List ℕ → ImageFault → Type 0
IsCommitFault header table (BadTable entry) =
    (k : ℕ) × (entry ≡ header.sites + k) × (8 * k < length table)
    × IsFirstBad 0 (IsNextCommit header.code (λ j. commit_at table (2 * j))) k
IsCommitFault header table (Memory e) = Unit {0}
IsCommitFault header table fault = ⊥

-- The address is above that of the last of these commits.
abbrev pub IsAboveLast : List (ℕ × ℕ) → ℕ → Type 0
IsAboveLast commits address =
    (k : ℕ) (d : ℕ × ℕ) → length commits ≡ k + 1 → (slice_index_or commits k d).0 < address
