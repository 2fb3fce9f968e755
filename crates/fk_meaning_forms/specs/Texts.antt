-- The bytes that a text denotes.
use Rattle.std.specs.Prelude.{ℕ, ◌==◌, List, [], ◌∷◌, if◌then◌else◌}

-- the byte that an escape denotes: \n, \t and \0 are special, and every other byte is itself
abbrev pub escaped : (byte : ℕ) → ℕ
escaped b = if b == 110 then 10 else if b == 116 then 9 else if b == 48 then 0 else b

-- the bytes up to the last one, which is the closing quote. A backslash, 92, begins an escape
abbrev pub up_to_quote : List ℕ → List ℕ
up_to_quote [] = []
up_to_quote (b ∷ []) = []
up_to_quote (b ∷ x ∷ bytes) = if b == 92 then escaped x ∷ up_to_quote bytes
    else b ∷ up_to_quote (x ∷ bytes)

-- the bytes that the token of a text denotes; the token has its quotes
abbrev pub text_of : (token : List ℕ) → List ℕ
text_of [] = []
text_of (quote ∷ bytes) = up_to_quote bytes
