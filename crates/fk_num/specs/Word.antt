-- Words of 32 bits, and memories of words.
use Rattle.std.specs.Prelude.{ℕ, ℤ, pos, negsuc, ◌+◌, ◌-◌, ◌%◌, ◌^◌, ◌==◌, List, [], ◌∷◌, ◌++◌}
use Rattle.std.specs.Prelude.{nat_lt, if◌then◌else◌}
use Rattle.std.specs.Fmt.{signed_decimal}

-- the word of a number
abbrev pub word : ℕ → ℕ
word n = n % 2 ^ 32

abbrev pub word_sum : ℕ → ℕ → ℕ
word_sum a b = (a + b) % 2 ^ 32

-- the signed value of a word: itself below 2^31, and itself minus 2^32 from there on
abbrev pub signed : ℕ → ℤ
signed w = if nat_lt w (2 ^ 31) then pos w else negsuc (2 ^ 32 - 1 - w)

-- the line that prints a word: the decimal of its signed value, and a newline
unfoldable pub signed_line : ℕ → List ℕ
signed_line w = signed_decimal (signed w) ++ 10 ∷ []

-- a memory: the word at each index
abbrev pub Memory : Type 0
Memory = ℕ → ℕ

-- the memory with the word at an index replaced
abbrev pub put : Memory → ℕ → ℕ → Memory
put memory i v = λ j. if j == i then v else memory j
