-- The limits of images.
use Rattle.std.specs.Prelude.{◌≡◌, ℕ, ◌*◌, ◌/◌, ◌%◌, ◌<◌, ◌≤◌, List, [], ◌∷◌, All, vec_len}
use Rattle.fk_num.specs.Limits.{most_code_words, most_data_words}
use Rattle.fk_image.specs.declared.Image.{Image}

-- The count and the event in a commit's second word.
abbrev pub count_of_word : ℕ → ℕ
count_of_word w = w % 256

abbrev pub event_of_word : ℕ → ℕ
event_of_word w = w / 256

-- A site has one of the 34 kinds of operations.
abbrev pub IsSite : ℕ × ℕ × ℕ → Type 0
IsSite site = (1 ≤ site.0) × (site.0 ≤ 34)

-- A commit in code of `code_words` words: its address is in the code, its count is 1 to 255, and
-- its event at most 6.
pub record IsCommit (code_words : ℕ) (commit : ℕ × ℕ) : Type 0 where
  pub aligned : commit.0 % 4 ≡ 0
  pub within : commit.0 < 4 * code_words
  pub counted : 1 ≤ count_of_word commit.1
  pub event : event_of_word commit.1 ≤ 6

-- The addresses of commits rise strictly.
abbrev pub Rise : List (ℕ × ℕ) → Type 0
Rise [] = Unit {0}
Rise (c ∷ []) = Unit {0}
Rise (c ∷ d ∷ rest) = (c.0 < d.0) × Rise (d ∷ rest)

pub record IsWithinLimits (image : Image) : Type 0 where
  pub some_code : 1 ≤ vec_len image.code
  pub code : vec_len image.code ≤ most_code_words
  pub globals : vec_len image.globals ≤ most_data_words
  pub few_sites : vec_len image.sites ≤ 16000
  pub sites : All IsSite image.sites.items
  pub commits : All (IsCommit (vec_len image.code)) image.commits.items
  pub rise : Rise image.commits.items
