-- The parts of a file, in the order of an image.
use Rattle.std.specs.Prelude.{◌≡◌, ℕ, ◌+◌, ◌/◌, List, [], ◌∷◌, ◌++◌, codes, drop, flat_map, take}
use Rattle.fk_image.specs.declared.fault.ImageFault.{ImageFault}
use Rattle.fk_image.specs.declared.fault.ImageFault.TheVariants as images
use Rattle.fk_image.specs.Spelling.{word_bytes}
use Rattle.fk_elf.specs.declared.fault.ElfFault.{ElfFault}
use Rattle.fk_elf.specs.declared.fault.ElfFault.TheVariants as files
use Rattle.fk_elf.specs.declared.header.Sizes.{Sizes}
use Rattle.fk_elf.specs.Refusals.{code_size, entry_size, global_size}

-- The sizes are those that these bytes say.
pub record IsSizesOf (bytes : List ℕ) (sizes : Sizes) : Type 0 where
  pub code : sizes.code ≡ code_size bytes
  pub globals : sizes.globals ≡ global_size bytes
  pub entries : sizes.entries ≡ entry_size bytes

-- The bytes of the code and the globals.
abbrev pub content_part : List ℕ → List ℕ
content_part bytes = take (code_size bytes + global_size bytes) (drop 148 bytes)

-- The bytes of the two counts.
abbrev pub count_part : List ℕ → List ℕ
count_part bytes = take 8 (drop (148 + (code_size bytes + global_size bytes)) bytes)

-- The bytes of the entries, which come last.
abbrev pub entry_part : List ℕ → List ℕ
entry_part bytes = drop (156 + (code_size bytes + global_size bytes)) bytes

-- The first four words of an image with code and globals of these sizes.
abbrev pub image_front : ℕ → ℕ → List ℕ
image_front code globals = codes "FK95" ++ flat_map word_bytes (1 ∷ code / 4 ∷ globals / 4 ∷ [])

-- The parts of a file in the order of an image: its header has the counts last.
abbrev pub image_bytes : List ℕ → List ℕ
image_bytes bytes =
    image_front (code_size bytes) (global_size bytes)
    ++ (count_part bytes ++ (content_part bytes ++ entry_part bytes))

-- The fault of a file, or that of an image, is a lack of memory.
abbrev pub IsMemory : ElfFault → Type 0
IsMemory (files.Memory e) = Unit {0}
IsMemory fault = ⊥

abbrev pub IsImageMemory : ImageFault → Type 0
IsImageMemory (images.Memory e) = Unit {0}
IsImageMemory fault = ⊥
