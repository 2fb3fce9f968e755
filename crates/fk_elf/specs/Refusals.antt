-- Why bytes are no file of an image: the first refusal that applies.
use Rattle.std.specs.Prelude.{◌≡◌, ◌≢◌, ℕ, ◌+◌, ◌*◌, ◌/◌, ◌%◌, ◌<◌, ◌≤◌, ◌⊎◌, List, get_or, length}
use Rattle.fk_num.specs.Limits.{most_code_words, most_data_words}
use Rattle.fk_image.specs.Limits.{IsSite}
use Rattle.fk_image.specs.Refusals.{IsFirstBad, IsNextCommit, IsShort, commit_at, site_at, word_at}
use Rattle.fk_elf.specs.declared.fault.ElfFault.{ElfFault}
use Rattle.fk_elf.specs.declared.fault.ElfFault.TheVariants.{ElfHeader, ElfShort, ElfTail}
use Rattle.fk_elf.specs.declared.fault.ElfFault.TheVariants.{ElfSizes, ElfTable, Memory}
use Rattle.fk_elf.specs.Files.{header_bytes}

-- ---- what the bytes say of themselves

-- The number of bytes of code, at byte 68.
abbrev pub code_size : List ℕ → ℕ
code_size bytes = word_at bytes 17

-- The number of bytes of globals, at byte 100.
abbrev pub global_size : List ℕ → ℕ
global_size bytes = word_at bytes 25

-- The number of bytes of the counts and entries, at byte 132.
abbrev pub entry_size : List ℕ → ℕ
entry_size bytes = word_at bytes 33

-- The number of bytes for which the headers ask.
abbrev pub needed : List ℕ → ℕ
needed bytes = 148 + code_size bytes + global_size bytes + entry_size bytes

-- The number of words of code.
abbrev pub code_words : List ℕ → ℕ
code_words bytes = code_size bytes / 4

-- The place of the two counts, in words: behind the headers, the code and the globals.
abbrev pub counts_place : List ℕ → ℕ
counts_place bytes = 37 + code_words bytes + global_size bytes / 4

-- The number of sites.
abbrev pub site_count : List ℕ → ℕ
site_count bytes = word_at bytes (counts_place bytes)

-- The number of commits.
abbrev pub commit_count : List ℕ → ℕ
commit_count bytes = word_at bytes (counts_place bytes + 1)

-- Site k of the bytes. The sites follow the counts.
abbrev pub site_of : List ℕ → ℕ → ℕ × ℕ × ℕ
site_of bytes k = site_at bytes (counts_place bytes + 2 + 3 * k)

-- Commit k of the bytes. The commits follow the sites.
abbrev pub commit_of : List ℕ → ℕ → ℕ × ℕ
commit_of bytes k = commit_at bytes (counts_place bytes + 2 + 3 * site_count bytes + 2 * k)

-- ---- what the bytes should be

-- A size is in range: whole words, and within these limits.
pub record IsSize (low high size : ℕ) : Type 0 where
  pub aligned : size % 4 ≡ 0
  pub least : low ≤ size
  pub most : size ≤ high

-- If a size begins at this offset, it is in range.
pub record IsSizeAt (code globals entries offset : ℕ) : Type 0 where
  pub at_code : offset ≡ 68 → IsSize 4 (4 * most_code_words) code
  pub at_globals : offset ≡ 100 → IsSize 0 (4 * most_data_words) globals
  pub at_entries : offset ≡ 132 → IsSize 8 (8 + 12 * 16000 + 8 * most_code_words) entries

-- The byte at this offset is that of the headers which the three sizes demand, and a size that begins
-- here is in range.
pub record IsHeaderByte (bytes : List ℕ) (offset : ℕ) : Type 0 where
  pub same : get_or bytes offset 0
      ≡ get_or (header_bytes (code_size bytes) (global_size bytes) (entry_size bytes)) offset 0
  pub size : IsSizeAt (code_size bytes) (global_size bytes) (entry_size bytes) offset

-- The counts are too large, or the entries don't have the size for which the counts ask.
abbrev pub HasBadSizes : List ℕ → Type 0
HasBadSizes bytes =
    (16000 < site_count bytes) ⊎ ((code_words bytes < commit_count bytes)
    ⊎ (entry_size bytes ≢ 8 + 12 * site_count bytes + 8 * commit_count bytes))

-- An entry is within its limits. Entries are counted from 0, the sites first and the commits after
-- them.
pub record IsEntry (bytes : List ℕ) (entry : ℕ) : Type 0 where
  pub site : entry < site_count bytes → IsSite (site_of bytes entry)
  pub commit : (k : ℕ) → entry ≡ site_count bytes + k
      → IsNextCommit (code_words bytes) (commit_of bytes) k

-- ---- how far no refusal applies

-- The headers are those that their sizes demand, and the sizes are in range.
abbrev pub HasHeader : List ℕ → Type 0
HasHeader bytes = (148 ≤ length bytes)
    × ((offset : ℕ) → offset < 148 → IsHeaderByte bytes offset)

-- There are also as many bytes as the headers ask for.
abbrev pub HasLength : List ℕ → Type 0
HasLength bytes = HasHeader bytes × (length bytes ≡ needed bytes)

-- The counts are also within their limits, and the entries have the size for which they ask.
abbrev pub HasSizes : List ℕ → Type 0
HasSizes bytes = HasLength bytes × (site_count bytes ≤ 16000)
    × (commit_count bytes ≤ code_words bytes)
    × (entry_size bytes ≡ 8 + 12 * site_count bytes + 8 * commit_count bytes)

-- ---- the refusals

-- The bytes are refused: this refusal applies, and none before it. `Memory` is no refusal of the
-- bytes.
abbrev pub IsRefusedElf : List ℕ → ElfFault → Type 0
IsRefusedElf bytes (ElfShort size wanted) =
    IsShort bytes size wanted × ((wanted ≡ 148) ⊎ (HasHeader bytes × (wanted ≡ needed bytes)))
IsRefusedElf bytes (ElfHeader offset) =
    (148 ≤ length bytes) × (offset < 148) × IsFirstBad 0 (IsHeaderByte bytes) offset
IsRefusedElf bytes (ElfTail wanted) =
    HasHeader bytes × (wanted ≡ needed bytes) × (wanted < length bytes)
IsRefusedElf bytes ElfSizes = HasLength bytes × HasBadSizes bytes
IsRefusedElf bytes (ElfTable entry) =
    HasSizes bytes × (entry < site_count bytes + commit_count bytes)
    × IsFirstBad 0 (IsEntry bytes) entry
IsRefusedElf bytes (Memory e) = ⊥

-- The bytes are refused by this fault, unless it is `Memory`.
abbrev pub IsFault : List ℕ → ElfFault → Type 0
IsFault bytes (Memory e) = Unit {0}
IsFault bytes fault = IsRefusedElf bytes fault
