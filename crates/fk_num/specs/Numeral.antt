-- Numbers in decimal digits.
use Rattle.std.specs.Prelude.{ℕ, Bool, ◌+◌, ◌-◌, ◌*◌, ◌^◌, ◌&&◌, nat_lt, List, length, Option, Some}
use Rattle.std.specs.Prelude.{None, if◌then◌else◌}
use Rattle.std.specs.List.{list_all}
use Rattle.std.specs.Char.{is_ascii_digit}
use Rattle.std.specs.Str.Parse.{digits_value}

-- a number if it is a word
abbrev pub if_word : ℕ → Option ℕ
if_word n = if nat_lt n (2 ^ 32) then Some n else None

-- one or more decimal digits, and nothing else
abbrev pub is_numeral : List ℕ → Bool
is_numeral text = nat_lt 0 (length text) && list_all is_ascii_digit text

-- the word that a text denotes: the number of its decimal digits, if that is below 2^32
abbrev pub read_word : List ℕ → Option ℕ
read_word text = if is_numeral text then if_word (digits_value 10 text) else None

-- the word that results from adding one more decimal digit
abbrev pub one_more_digit : ℕ → ℕ → Option ℕ
one_more_digit n byte = if is_ascii_digit byte then if_word (n * 10 + (byte - 48)) else None
