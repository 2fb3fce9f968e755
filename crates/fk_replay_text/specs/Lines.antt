-- The lines of a text, and the first line with which no text of some form goes on.
use Rattle.std.specs.Prelude.{◌≡◌, ℕ, ◌-◌, ◌==◌, if◌then◌else◌, List, [], ◌∷◌, take}

abbrev pub onto_first : ℕ → List (List ℕ) → List (List ℕ)
onto_first byte [] = (byte ∷ []) ∷ []
onto_first byte (line ∷ lines) = (byte ∷ line) ∷ lines

-- Each line has the newline that ends it. What is behind the last newline is a line without one, if
-- it isn't empty.
abbrev pub lines : List ℕ → List (List ℕ)
lines [] = []
lines (byte ∷ text) =
    if byte == 10 then (byte ∷ []) ∷ lines text else onto_first byte (lines text)

module _ (HasForm : List ℕ → Type 0) where
  -- some text of the form has the same first n lines
  pub record GoesOn (n : ℕ) (text : List ℕ) : Type 0 where
    pub other : List ℕ
    pub form : HasForm other
    pub same : take n (lines other) ≡ take n (lines text)

  -- The first line, from 1, with which no text of the form goes on. It may be missing, or have no
  -- newline.
  pub record IsBadLine (line : ℕ) (text : List ℕ) : Type 0 where
    pub before : GoesOn (line - 1) text
    pub here : GoesOn line text → ⊥
