-- The answer of a reader on the tokens before it, for a language.
use Rattle.std.specs.Prelude.{◌≡◌, ℕ, ◌<◌, ◌≤◌, List, [], ◌∷◌, ◌++◌, Result, Ok, Err, All, length}
use Rattle.fk_parse_combinators.specs.declared.limits.TheConstants.{LEVELS}
use Rattle.fk_parse_combinators.specs.Languages.{Placed, Marked, Stretch, tokens_of, Language}

-- why nothing is read, with the tokens from the one at fault on
pub data Stop : Type 0 where
  -- no stretch of the language goes on with this token
  Unexpected : (rest : List Placed) → Stop
  -- the tokens end, and no stretch of the language ends there
  EndOfText : Stop
  -- this token opens a level too many
  Nesting : (rest : List Placed) → Stop

-- what was read, and the tokens after it
abbrev pub Answer : Type 0 → Type 0
Answer A = Result (A × List Placed) Stop

-- a language for each bound on the levels that its stretches open
abbrev pub Family : Type 0 → Type 1
Family A = ℕ → Language A

-- the language without a bound on the levels
abbrev pub Spells : {A : Type 0} → Family A → Language A
Spells L s a = (bound : ℕ) × L bound s a

-- these tokens spell a value
abbrev pub Spell : {A : Type 0} → Family A → List Placed → A → Type 0
Spell L tokens a = (s : Stretch) × (tokens_of s ≡ tokens) × Spells L s a

-- a stretch that becomes one of the language by adding some tokens
abbrev pub Begins : {A : Type 0} → Family A → Stretch → Type 0
Begins L s = (more : Stretch) × (a : _) × Spells L (s ++ more) a

abbrev pub Begin : {A : Type 0} → Family A → List Placed → Type 0
Begin L tokens = (s : Stretch) × (tokens_of s ≡ tokens) × Begins L s

abbrev pub IsShallow : Stretch → Type 0
IsShallow s = All (λ m. m.level ≤ LEVELS) s

-- this stretch comes first, and the stretch with the token after it begins nothing in the language
pub record IsLongest {A : Type 0} (L : Family A) (tokens : List Placed) (s : Stretch)
    (rest : List Placed) : Type 0 where
  pub first : tokens ≡ tokens_of s ++ rest
  pub begins : Begins L s
  pub longest : (t : Placed) (others : List Placed) → rest ≡ t ∷ others
      → ¬ Begin L (tokens_of s ++ t ∷ [])

-- the longest stretch spells this value, and nests within the bound
pub record ReadsValue {A : Type 0} (L : Family A) (tokens : List Placed) (a : A)
    (rest : List Placed) : Type 0 where
  pub stretch : Stretch
  pub longest : IsLongest L tokens stretch rest
  pub spelled : Spells L stretch a
  pub shallow : IsShallow stretch

-- the longest stretch spells nothing, and nests within the bound
pub record ReadsNothing {A : Type 0} (L : Family A) (tokens : List Placed)
    (rest : List Placed) : Type 0 where
  pub stretch : Stretch
  pub longest : IsLongest L tokens stretch rest
  pub unspelled : (a : A) → ¬ Spell L (tokens_of stretch) a
  pub shallow : IsShallow stretch

-- a token of the longest stretch opens a level past the bound, and none before it does
pub record ReadsDeep {A : Type 0} (L : Family A) (tokens : List Placed)
    (rest : List Placed) : Type 0 where
  pub stretch : Stretch
  pub deep : Marked
  pub others : List Placed
  pub first : tokens ≡ tokens_of stretch ++ rest
  pub next : rest ≡ deep.token ∷ others
  pub begins : Begins L (stretch ++ deep ∷ [])
  pub shallow : IsShallow stretch
  pub past : LEVELS < deep.level

abbrev pub Reads : {A : Type 0} → Family A → List Placed → Answer A → Type 0
Reads L tokens (Ok x) = ReadsValue L tokens x.0 x.1
Reads L tokens (Err (Unexpected rest)) = ReadsNothing L tokens rest × (0 < length rest)
Reads L tokens (Err EndOfText) = ReadsNothing L tokens []
Reads L tokens (Err (Nesting rest)) = ReadsDeep L tokens rest

-- a list of tokens has exactly one answer
abbrev pub HasOneAnswer : {A : Type 0} → Family A → Type 0
HasOneAnswer {A} L = (tokens : List Placed) → (answer : Answer A) × Reads L tokens answer
    × ((other : Answer A) → Reads L tokens other → other ≡ answer)
