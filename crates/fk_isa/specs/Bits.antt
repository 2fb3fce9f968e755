-- The fields of a word of code, by ranges of its bits.
use Rattle.std.specs.Prelude.{ℕ, ◌+◌, ◌-◌, ◌*◌, ◌/◌, ◌%◌, ◌^◌, ◌==◌, nat_lt, Bool, if◌then◌else◌}

-- `count` bits of a word, from bit `low` on.
abbrev pub bits : ℕ → ℕ → ℕ → ℕ
bits w low count = w / 2 ^ low % 2 ^ count

-- Whether a bit of a word is set.
abbrev pub is_set : ℕ → ℕ → Bool
is_set w low = bits w low 1 == 1

-- A signed number of `count` bits, as a word.
abbrev pub extended : ℕ → ℕ → ℕ
extended count n = if nat_lt n (2 ^ (count - 1)) then n else n + (2 ^ 32 - 2 ^ count)

abbrev pub opcode : ℕ → ℕ
opcode w = bits w 0 7

abbrev pub funct3 : ℕ → ℕ
funct3 w = bits w 12 3

abbrev pub funct5 : ℕ → ℕ
funct5 w = bits w 27 5

abbrev pub funct7 : ℕ → ℕ
funct7 w = bits w 25 7

abbrev pub rd : ℕ → ℕ
rd w = bits w 7 5

abbrev pub rs1 : ℕ → ℕ
rs1 w = bits w 15 5

abbrev pub rs2 : ℕ → ℕ
rs2 w = bits w 20 5

-- The immediates of the formats I, S, B, U and J.
abbrev pub i_immediate : ℕ → ℕ
i_immediate w = extended 12 (bits w 20 12)

abbrev pub s_immediate : ℕ → ℕ
s_immediate w = extended 12 (bits w 25 7 * 2 ^ 5 + bits w 7 5)

abbrev pub b_immediate : ℕ → ℕ
b_immediate w =
    extended 13 (bits w 31 1 * 2 ^ 12 + bits w 7 1 * 2 ^ 11 + bits w 25 6 * 2 ^ 5 + bits w 8 4 * 2)

abbrev pub u_immediate : ℕ → ℕ
u_immediate w = bits w 12 20

abbrev pub j_immediate : ℕ → ℕ
j_immediate w = extended 21
    (bits w 31 1 * 2 ^ 20 + bits w 12 8 * 2 ^ 12 + bits w 20 1 * 2 ^ 11 + bits w 21 10 * 2)
