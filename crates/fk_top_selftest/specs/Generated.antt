-- The text that the command `selftest` compiles and runs.
use Rattle.std.specs.Prelude.{ℕ, ◌+◌, ◌%◌, List, [], ◌∷◌, ◌++◌, ◌==◌, if◌then◌else◌, codes, map}
use Rattle.std.specs.Prelude.{flat_map}
use Rattle.std.specs.Fmt.{decimal}
use Rattle.std.specs.List.{range_with_len}

-- The statement of each kind, for the index of a word of `c`, an amount, the bound of a loop and a
-- number of parts.
abbrev pub statement_of : ℕ → (word amount bound parts : List ℕ) → List ℕ
statement_of kind word amount bound parts =
    if kind == 0 then codes "mpadd(&c[" ++ word ++ codes "], " ++ amount ++ codes ");"
    else if kind == 1 then codes "if ($ % 2 == 0) mpadd(&c[" ++ word
    ++ codes "], 1); else mpadd(&c[" ++ word ++ codes "], 2);"
    else if kind == 2 then codes "turn(" ++ word ++ codes ", " ++ bound ++ codes ");"
    else if kind == 3 then codes "fork (" ++ parts ++ codes "; @=$%" ++ parts
    ++ codes "; $=$/" ++ parts ++ codes ") mpadd(&c[" ++ word ++ codes "], groupsize());"
    else if kind == 4 then codes "farm mpadd(&c[" ++ word ++ codes "], " ++ amount ++ codes ");"
    else codes "seq c[" ++ word ++ codes "] = c[" ++ word ++ codes "] + " ++ amount ++ codes ";"

-- The statement with this number.
abbrev pub statement : ℕ → List ℕ
statement i =
    statement_of (i % 6) (decimal (i % 8)) (decimal (i % 9 + 1)) (decimal (i % 7 + 1))
    (decimal (i % 5 + 1))

-- The lines of the text with the statements of the numbers from 1 on. The loop is in `turn`, so
-- `main` has no private variables.
abbrev pub lines_of : ℕ → List (List ℕ)
lines_of statements =
    codes "sh int c[8];"
    ∷ codes "sync void turn(sh int j, int m) { int i; for (i = 0; i < $ % m; i++) mpadd(&c[j], 1); }"
    ∷ codes "void main(void) { start {" ∷ map statement (range_with_len 1 statements)
    ++ codes "} }" ∷ []

-- The text: each line ends with a newline.
abbrev pub generated : ℕ → List ℕ
generated statements = flat_map (λ line. line ++ 10 ∷ []) (lines_of statements)
