-- Classes of bytes.
use Rattle.std.specs.Prelude.{ℕ, ◌+◌, ◌-◌, ◌==◌, ◌&&◌, ◌||◌, nat_le, not, Bool, Option, Some, None}
use Rattle.std.specs.Prelude.{if◌then◌else◌}

-- a space, a tab, a carriage return or a newline
abbrev pub is_blank : ℕ → Bool
is_blank c = (c == 32) || (c == 9) || (c == 13) || (c == 10)

abbrev pub is_digit : ℕ → Bool
is_digit c = nat_le 48 c && nat_le c 57

-- a letter or `_`
abbrev pub is_letter : ℕ → Bool
is_letter c = (nat_le 65 c && nat_le c 90) || (nat_le 97 c && nat_le c 122) || (c == 95)

-- a letter, a digit or `_`
abbrev pub is_word_byte : ℕ → Bool
is_word_byte c = is_letter c || is_digit c

-- the value of a hexadecimal digit; 16 for any other byte
abbrev pub digit_value : ℕ → ℕ
digit_value c =
    if is_digit c then c - 48
    else (if nat_le 97 c && nat_le c 102 then c - 97 + 10
    else (if nat_le 65 c && nat_le c 70 then c - 65 + 10 else 16))

-- `u` or `U`
abbrev pub is_suffix : ℕ → Bool
is_suffix c = (c == 117) || (c == 85)

-- `x` or `X`
abbrev pub is_x : ℕ → Bool
is_x c = (c == 120) || (c == 88)

-- a byte from 32 to 126 other than this quote and the backslash
abbrev pub is_plain : ℕ → ℕ → Bool
is_plain quote c = nat_le 32 c && nat_le c 126 && not (c == quote) && not (c == 92)

-- the byte that a backslash and one of n, t, 0, \, ' and " denote
abbrev pub escape_value : ℕ → Option ℕ
escape_value c =
    if c == 110 then Some 10
    else (if c == 116 then Some 9
    else (if c == 48 then Some 0
    else (if c == 92 then Some 92
    else (if c == 39 then Some 39
    else (if c == 34 then Some 34 else None)))))
