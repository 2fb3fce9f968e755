-- Bindings at the tokens to which they belong.
use Rattle.std.specs.Prelude.{◌≡◌, ◌≢◌, ◌⊎◌, ℕ, ◌<◌, List, Option, Some, None, Contains, length}
use Rattle.std.specs.Prelude.{slice_get, slice_set}
use Rattle.fk_syntax.specs.Program.{ProgramTree}
use Rattle.fk_types_names.specs.Outline.{DeclarationTree, name_of}
use Rattle.fk_types_judgments.specs.Names.{Env}
use Rattle.fk_types_references.specs.References.{ReferenceTree}
use Rattle.fk_types_rules.specs.Bound.{Refers, token_of}
use Rattle.fk_types_bindings.specs.Bodies.{meant_by}

-- numbers with one of them set, if there is a new one
abbrev pub with_told : List ℕ → ℕ → Option ℕ → List ℕ
with_told numbers at None = numbers
with_told numbers at (Some number) = slice_set numbers at number

-- no two elements of a list have the same token
abbrev pub AreApart : {X : Type 0} → (X → ℕ) → List X → Type 0
AreApart {X} token xs = (i j : ℕ) (x y : X) → i < j → slice_get xs i ≡ Some x
    → slice_get xs j ≡ Some y → token x ≢ token y

-- one element of a list has this token and this number
pub record IsSetBy {X : Type 0} (token : X → ℕ) (Has : ℕ → X → ℕ → Type 0) (xs : List X)
    (at number : ℕ) : Type 0 where
  pub index : ℕ
  pub thing : X
  pub there : slice_get xs index ≡ Some thing
  pub here : token thing ≡ at
  pub has : Has index thing number

-- at the token of each element of a list its number is set, if it has one, and nothing else is
pub record AreSet {X : Type 0} (token : X → ℕ) (Has : ℕ → X → ℕ → Type 0) (xs : List X)
    (old new : List ℕ) : Type 0 where
  pub same_length : length new ≡ length old
  pub each : AreApart token xs → (i : ℕ) (x : X) (number : ℕ) → slice_get xs i ≡ Some x
      → token x < length old → Has i x number → slice_get new (token x) ≡ Some number
  pub others : (at : ℕ) → ((x : X) → Contains xs x → token x ≢ at)
      → slice_get new at ≡ slice_get old at
  pub only : (at number : ℕ) → slice_get new at ≡ Some number
      → (slice_get old at ≡ Some number) ⊎ IsSetBy token Has xs at number

-- the names of declarations have their bindings
abbrev pub name_token : DeclarationTree → ℕ
name_token declaration = (name_of declaration).at

abbrev pub AreDeclared : (List ℕ → Option ℕ) → List DeclarationTree → List ℕ → List ℕ → Type 0
AreDeclared bodies declared old new =
    AreSet name_token (λ i d number. number ≡ meant_by bodies i d) declared old new

-- the tokens of references have the numbers of these
abbrev pub AreReferred : Env → ProgramTree → List ReferenceTree → List ℕ → List ℕ → Type 0
AreReferred env program references old new =
    AreSet token_of (λ i r number. Refers env program r number) references old new
