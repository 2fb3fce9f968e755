-- An image as bytes. All words are little-endian.
use Rattle.std.specs.Prelude.{◌≡◌, ℕ, ◌<◌, ◌^◌, List, [], ◌∷◌, ◌++◌, All, vec_len, codes, flat_map}
use Rattle.std.specs.Int.{w32, to_le_bytes}
use Rattle.fk_image.specs.declared.Image.{Image}
use Rattle.fk_image.specs.Limits.{IsWithinLimits}

-- A word has 32 bits.
abbrev pub IsWord : ℕ → Type 0
IsWord word = word < 2 ^ 32

-- The four bytes of a word, the lowest first.
unfoldable pub word_bytes : ℕ → List ℕ
word_bytes word = to_le_bytes w32 word

-- These words are spelled by these bytes.
pub record Spells (words bytes : List ℕ) : Type 0 where
  pub fit : All IsWord words
  pub spelling : flat_map word_bytes words ≡ bytes

-- A site's kind, line and column.
abbrev pub site_words : ℕ × ℕ × ℕ → List ℕ
site_words site = site.0 ∷ site.1 ∷ site.2 ∷ []

-- A commit's address, and its count and event.
abbrev pub commit_words : ℕ × ℕ → List ℕ
commit_words commit = commit.0 ∷ commit.1 ∷ []

-- The version, and the numbers of words of code, of words of globals, of sites and of commits.
abbrev pub header_words : Image → List ℕ
header_words image =
    1 ∷ vec_len image.code ∷ vec_len image.globals ∷ vec_len image.sites
    ∷ vec_len image.commits ∷ []

-- All words of an image after the bytes `FK95`: the rest of the header, the code, the globals, the
-- sites and the commits.
abbrev pub image_words : Image → List ℕ
image_words image =
    header_words image ++ image.code.items ++ image.globals.items
    ++ flat_map site_words image.sites.items ++ flat_map commit_words image.commits.items

-- The bytes of an image.
abbrev pub spelled : Image → List ℕ
spelled image = codes "FK95" ++ flat_map word_bytes (image_words image)

-- The bytes are those of this image, which is within the limits.
pub record IsImageOf (bytes : List ℕ) (image : Image) : Type 0 where
  pub limits : IsWithinLimits image
  pub words : All IsWord (image_words image)
  pub spelling : bytes ≡ spelled image

-- Two images are alike in their four tables.
pub record AreAlike (image other : Image) : Type 0 where
  pub code : image.code.items ≡ other.code.items
  pub globals : image.globals.items ≡ other.globals.items
  pub sites : image.sites.items ≡ other.sites.items
  pub commits : image.commits.items ≡ other.commits.items
