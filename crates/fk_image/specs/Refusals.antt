-- Why bytes are no image: the first refusal that applies.
use Rattle.std.specs.Prelude.{◌≡◌, ◌≢◌, ℕ, ◌+◌, ◌*◌, ◌<◌, ◌≤◌, ◌==◌, ◌⊎◌, List, length, take, drop}
use Rattle.std.specs.Prelude.{codes, if◌then◌else◌}
use Rattle.std.specs.Int.{w32, from_le_bytes}
use Rattle.fk_num.specs.Limits.{most_code_words, most_data_words}
use Rattle.fk_image.specs.declared.fault.ImageFault.{ImageFault}
use Rattle.fk_image.specs.declared.fault.ImageFault.TheVariants.{Magic, Version, Short, LongTail}
use Rattle.fk_image.specs.declared.fault.ImageFault.TheVariants.{BadTable, BadWord, Memory}
use Rattle.fk_image.specs.Limits.{IsSite, IsCommit}

-- The word at a place, counted in words.
unfoldable pub word_at : List ℕ → ℕ → ℕ
word_at bytes place = from_le_bytes w32 (take 4 (drop (4 * place) bytes))

-- The site at a place, counted in words.
abbrev pub site_at : List ℕ → ℕ → ℕ × ℕ × ℕ
site_at bytes place = (word_at bytes place, word_at bytes (place + 1), word_at bytes (place + 2))

-- The commit at a place, counted in words.
abbrev pub commit_at : List ℕ → ℕ → ℕ × ℕ
commit_at bytes place = (word_at bytes place, word_at bytes (place + 1))

-- Word 2: the number of words of code.
abbrev pub code_words : List ℕ → ℕ
code_words bytes = word_at bytes 2

-- Word 3: the number of words of globals.
abbrev pub global_words : List ℕ → ℕ
global_words bytes = word_at bytes 3

-- Word 4: the number of sites.
abbrev pub site_count : List ℕ → ℕ
site_count bytes = word_at bytes 4

-- Word 5: the number of commits.
abbrev pub commit_count : List ℕ → ℕ
commit_count bytes = word_at bytes 5

-- The number of bytes for which the header asks.
abbrev pub needed : List ℕ → ℕ
needed bytes = 24 + 4 * code_words bytes + 4 * global_words bytes + 12 * site_count bytes
    + 8 * commit_count bytes

-- The least value of a word of the header.
abbrev pub least : ℕ → ℕ
least index = if index == 2 then 1 else 0

-- The greatest value of a word of the header. For word 5 it is the number of words of code.
abbrev pub greatest : List ℕ → ℕ → ℕ
greatest bytes index =
    if index == 2 then most_code_words
    else (if index == 3 then most_data_words
    else (if index == 4 then 16000 else code_words bytes))

-- A word of the header is within its limits.
abbrev pub IsHeaderWord : List ℕ → ℕ → Type 0
IsHeaderWord bytes index = (least index ≤ word_at bytes index)
    × (word_at bytes index ≤ greatest bytes index)

-- n is the first number from `from` on that isn't good.
pub record IsFirstBad (from : ℕ) (IsGood : ℕ → Type 0) (n : ℕ) : Type 0 where
  pub behind : from ≤ n
  pub bad : IsGood n → ⊥
  pub good_before : (k : ℕ) → from ≤ k → k < n → IsGood k

-- The place where the sites begin, after the code and the globals.
abbrev pub sites_place : List ℕ → ℕ
sites_place bytes = 6 + code_words bytes + global_words bytes

-- The place where the commits begin, after the sites.
abbrev pub commits_place : List ℕ → ℕ
commits_place bytes = sites_place bytes + 3 * site_count bytes

-- Site k of the bytes.
abbrev pub site_of : List ℕ → ℕ → ℕ × ℕ × ℕ
site_of bytes k = site_at bytes (sites_place bytes + 3 * k)

-- Commit k of the bytes.
abbrev pub commit_of : List ℕ → ℕ → ℕ × ℕ
commit_of bytes k = commit_at bytes (commits_place bytes + 2 * k)

-- Commit k is one in code of this many words, above the address of the commit before it.
pub record IsNextCommit (words : ℕ) (commits : ℕ → ℕ × ℕ) (k : ℕ) : Type 0 where
  pub limits : IsCommit words (commits k)
  pub rises : (before : ℕ) → before + 1 ≡ k → (commits before).0 < (commits k).0

-- An entry of the tables is within its limits. Entries are counted from 0, the sites first and the
-- commits after them.
pub record IsEntry (bytes : List ℕ) (entry : ℕ) : Type 0 where
  pub site : entry < site_count bytes → IsSite (site_of bytes entry)
  pub commit : (k : ℕ) → entry ≡ site_count bytes + k
      → IsNextCommit (code_words bytes) (commit_of bytes) k

-- ---- each refusal

-- There are `size` bytes, fewer than wanted.
abbrev pub IsShort : List ℕ → ℕ → ℕ → Type 0
IsShort bytes size wanted = (size ≡ length bytes) × (size < wanted)

-- The first word isn't `FK95`.
abbrev pub IsOtherMagic : List ℕ → Type 0
IsOtherMagic bytes = take 4 bytes ≢ codes "FK95"

-- The version is this one, and not 1.
abbrev pub IsOtherVersion : List ℕ → ℕ → Type 0
IsOtherVersion bytes version = (version ≡ word_at bytes 1) × (version ≢ 1)

-- This word of the header is the first past its limits.
abbrev pub IsBadWord : List ℕ → ℕ → Type 0
IsBadWord bytes index = (index ≤ 5) × IsFirstBad 2 (IsHeaderWord bytes) index

-- There are more bytes than the header asks for.
abbrev pub IsLongTail : List ℕ → ℕ → Type 0
IsLongTail bytes wanted = (wanted ≡ needed bytes) × (wanted < length bytes)

-- This entry of the tables is the first past its limits.
abbrev pub IsBadTable : List ℕ → ℕ → Type 0
IsBadTable bytes entry = (entry < site_count bytes + commit_count bytes)
    × IsFirstBad 0 (IsEntry bytes) entry

-- ---- how far no refusal applies

-- There are as many bytes as a header has, and the first word is `FK95`.
abbrev pub HasMagic : List ℕ → Type 0
HasMagic bytes = (24 ≤ length bytes) × (take 4 bytes ≡ codes "FK95")

-- The bytes also have version 1.
abbrev pub HasVersion : List ℕ → Type 0
HasVersion bytes = HasMagic bytes × (word_at bytes 1 ≡ 1)

-- Each word of the header is also within its limits.
abbrev pub HasHeader : List ℕ → Type 0
HasHeader bytes = HasVersion bytes
    × ((index : ℕ) → 2 ≤ index → index ≤ 5 → IsHeaderWord bytes index)

-- There are also as many bytes as the header asks for.
abbrev pub HasLength : List ℕ → Type 0
HasLength bytes = HasHeader bytes × (length bytes ≡ needed bytes)

-- The bytes are refused: this refusal applies, and none before it. `Memory` is no refusal of the
-- bytes.
abbrev pub IsRefusedImage : List ℕ → ImageFault → Type 0
IsRefusedImage bytes (Short size wanted) =
    IsShort bytes size wanted × ((wanted ≡ 24) ⊎ (HasHeader bytes × (wanted ≡ needed bytes)))
IsRefusedImage bytes Magic = (24 ≤ length bytes) × IsOtherMagic bytes
IsRefusedImage bytes (Version version) = HasMagic bytes × IsOtherVersion bytes version
IsRefusedImage bytes (BadWord index) = HasVersion bytes × IsBadWord bytes index
IsRefusedImage bytes (LongTail wanted) = HasHeader bytes × IsLongTail bytes wanted
IsRefusedImage bytes (BadTable entry) = HasLength bytes × IsBadTable bytes entry
IsRefusedImage bytes (Memory e) = ⊥

-- The bytes are refused by this fault, unless it is `Memory`.
abbrev pub IsFault : List ℕ → ImageFault → Type 0
IsFault bytes (Memory e) = Unit {0}
IsFault bytes fault = IsRefusedImage bytes fault
