-- The ELF file of an image: words, all of them little-endian.
use Rattle.std.specs.Prelude.{◌≡◌, ℕ, ◌+◌, ◌*◌, ◌^◌, List, [], ◌∷◌, ◌++◌, All, vec_len, codes}
use Rattle.std.specs.Prelude.{flat_map}
use Rattle.std.specs.Int.{w32, from_le_bytes}
use Rattle.fk_image.specs.declared.Image.{Image}
use Rattle.fk_image.specs.Limits.{IsWithinLimits}
use Rattle.fk_image.specs.Spelling.{IsWord, commit_words, image_words, site_words, word_bytes}

-- The word of two fields of 16 bits, of which `low` comes first.
abbrev pub halves : ℕ → ℕ → ℕ
halves low high = low + 2 ^ 16 * high

-- The bytes 7f, `ELF`, 1, 1, 1, and nine zeros: 32 bits, little-endian, version 1.
abbrev pub identification : List ℕ
identification =
    from_le_bytes w32 (127 ∷ codes "ELF") ∷ from_le_bytes w32 (1 ∷ 1 ∷ 1 ∷ 0 ∷ []) ∷ 0 ∷ 0 ∷ []

-- The header of the file: type 2 and machine 243; version 1, entry 0, the program headers at 52, no
-- section headers, flags 0; this header has 52 bytes and a program header 32, of which there are 3;
-- three fields of section headers, which are 0.
abbrev pub file_header : List ℕ
file_header =
    identification ++ halves 2 243 ∷ 1 ∷ 0 ∷ 52 ∷ 0 ∷ 0 ∷ halves 52 32 ∷ halves 3 0 ∷ halves 0 0 ∷ []

-- A program header. Its two addresses are the same.
abbrev pub program_header : ℕ → ℕ → ℕ → ℕ → ℕ → ℕ → List ℕ
program_header kind offset address file_size memory_size flags =
    kind ∷ offset ∷ address ∷ address ∷ file_size ∷ memory_size ∷ flags ∷ 4 ∷ []

-- The address at which the globals begin: 0x10000000.
abbrev pub globals_address : ℕ
globals_address = 2 ^ 28

-- The kind of the part that isn't loaded, which has the entries: 0x60000095.
abbrev pub entries_kind : ℕ
entries_kind = 1610612885

-- The words of all headers, for these numbers of bytes of code, of globals, and of the counts and
-- entries behind them. Flags are 4 to read, 2 to write and 1 to execute.
unfoldable pub header_words : ℕ → ℕ → ℕ → List ℕ
header_words code globals entries =
    file_header ++ program_header 1 148 0 code code 5
    ++ program_header 1 (148 + code) globals_address globals 4194304 6
    ++ program_header entries_kind (148 + code + globals) 0 entries 0 4

-- The bytes of all headers.
abbrev pub header_bytes : ℕ → ℕ → ℕ → List ℕ
header_bytes code globals entries = flat_map word_bytes (header_words code globals entries)

-- The number of bytes of the counts and entries of an image.
abbrev pub entry_bytes : Image → ℕ
entry_bytes image = 8 + 12 * vec_len image.sites + 8 * vec_len image.commits

-- All words of the file of an image: the headers, the code, the globals, the numbers of sites and of
-- commits, the sites and the commits.
abbrev pub elf_words : Image → List ℕ
elf_words image =
    header_words (4 * vec_len image.code) (4 * vec_len image.globals) (entry_bytes image)
    ++ image.code.items ++ image.globals.items
    ++ vec_len image.sites ∷ vec_len image.commits ∷ []
    ++ flat_map site_words image.sites.items ++ flat_map commit_words image.commits.items

-- The file of an image.
abbrev pub elf_file : Image → List ℕ
elf_file image = flat_map word_bytes (elf_words image)

-- The bytes are the file of this image, which is within the limits and whose words have 32 bits.
pub record IsElfOf (bytes : List ℕ) (image : Image) : Type 0 where
  pub limits : IsWithinLimits image
  pub words : All IsWord (image_words image)
  pub spelling : bytes ≡ elf_file image
