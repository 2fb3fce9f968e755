-- Bytes that a text lacks.
use Rattle.std.specs.Prelude.{◌≡◌, ◌≢◌, ℕ, List, [], ◌∷◌, ◌++◌}

-- no byte of the text is this one
abbrev pub Lacks : (byte : ℕ) → (text : List ℕ) → Type 0
Lacks byte [] = Unit {0}
Lacks byte (b ∷ bs) = (b ≢ byte) × Lacks byte bs

-- the first byte of this kind in the text, with what is before it and what is behind it
pub record IsCut (byte : ℕ) (text before behind : List ℕ) : Type 0 where
  pub parts : text ≡ before ++ (byte ∷ behind)
  pub lacks : Lacks byte before

-- the text is empty or begins with this byte
abbrev pub Stops : (byte : ℕ) → (text : List ℕ) → Type 0
Stops byte [] = Unit {0}
Stops byte (b ∷ bs) = b ≡ byte

-- the first word of a text, which ends at the first blank, and what is behind it
pub record IsWord (text word behind : List ℕ) : Type 0 where
  pub parts : text ≡ word ++ behind
  pub lacks : Lacks 32 word
  pub ends : Stops 32 behind
