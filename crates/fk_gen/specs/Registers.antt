-- The registers of blocks, by their numbers.
use Rattle.std.specs.Prelude.{ℕ}

-- The register whose value a call stores in its frame, to return by.
abbrev pub ra : ℕ
ra = 1

-- Registers that are free in each block.
abbrev pub t0 : ℕ
t0 = 5

abbrev pub t1 : ℕ
t1 = 6

abbrev pub t2 : ℕ
t2 = 7

abbrev pub t3 : ℕ
t3 = 28

abbrev pub t4 : ℕ
t4 = 29

abbrev pub t5 : ℕ
t5 = 30

abbrev pub t6 : ℕ
t6 = 31
