-- What a name denotes.
use Rattle.std.specs.Prelude.{◌≡◌, ◌⊎◌, ℕ, ◌<◌, List, [], ◌∷◌, length, take, Some, slice_get}
use Rattle.std.specs.Prelude.{Bool, Contains, codes, IsSome, IsSomeAnd, ◌==◌, ◌||◌}
use Rattle.fk_syntax.specs.Tree.{Named}
use Rattle.fk_syntax.specs.Program.{ProgramTree}
use Rattle.fk_types_names.specs.declared.names.Meaning.{Meaning}
use Rattle.fk_types_names.specs.declared.names.Meaning.TheVariants as m
use Rattle.fk_types_names.specs.Outline.{DeclarationTree, MarkTree, Variable, Header, Opens, Closes}
use Rattle.fk_types_names.specs.Outline.{Declares, Uses, outline, declared_in}
use Rattle.fk_types_names.specs.Visible.{IsInnermost, IsHidden}

-- the predeclared names
abbrev pub predeclared : List (List ℕ)
predeclared = codes "mpadd" ∷ codes "mpmax" ∷ codes "mpand" ∷ codes "mpor"
    ∷ codes "shmalloc" ∷ codes "shalloc" ∷ codes "malloc"
    ∷ codes "putint" ∷ codes "putchar" ∷ codes "groupsize"
    ∷ codes "__PROC_NR__" ∷ codes "__STARTED_PROCS__" ∷ codes "__input" ∷ codes "__inputs" ∷ []

-- the first byte of a predeclared name
abbrev pub is_initial : ℕ → Bool
is_initial c = (c == 95) || (c == 103) || (c == 109) || (c == 112) || (c == 115)

-- the number of the declaration at an index
abbrev pub binding : List MarkTree → ℕ → ℕ
binding marks at = length (declared_in (take at marks))

-- a mark is the header of the function with this name that has the body
abbrev pub DefinesHere : List ℕ → MarkTree → Type 0
DefinesHere bytes Opens = ⊥
DefinesHere bytes Closes = ⊥
DefinesHere bytes (Declares (Variable variable)) = ⊥
DefinesHere bytes (Declares (Header function)) = (function.name.bytes ≡ bytes)
    × IsSome function.body
DefinesHere bytes (Uses name) = ⊥

-- the mark with this index is such a header
abbrev pub HasBodyAt : List MarkTree → List ℕ → ℕ → Type 0
HasBodyAt marks bytes at = IsSomeAnd (slice_get marks at) (DefinesHere bytes)

-- the mark with this index is the first such header
pub record IsDefinition (marks : List MarkTree) (bytes : List ℕ) (at : ℕ) : Type 0 where
  pub body : HasBodyAt marks bytes at
  pub first : (k : ℕ) → k < at → ¬ HasBodyAt marks bytes k

-- the declaration that a name denotes, whose innermost declaration is this one: for a function the
-- header that has the body, if there is one
abbrev pub Denotes : List MarkTree → List ℕ → ℕ → DeclarationTree → ℕ → Type 0
Denotes marks bytes at (Variable variable) meant = meant ≡ at
Denotes marks bytes at (Header function) meant = IsDefinition marks bytes meant
    ⊎ ((meant ≡ at) × ((k : ℕ) → ¬ HasBodyAt marks bytes k))

-- what a name that is used at an index denotes
abbrev pub MeansAt : List MarkTree → List ℕ → ℕ → Meaning → Type 0
MeansAt marks bytes from (m.Declared number) = (at : ℕ) × (d : DeclarationTree) × (meant : ℕ)
    × IsInnermost marks bytes from at × (slice_get marks at ≡ Some (Declares d))
    × Denotes marks bytes at d meant × (number ≡ binding marks meant)
MeansAt marks bytes from m.Predeclared = IsHidden marks bytes from × Contains predeclared bytes
MeansAt marks bytes from m.Undeclared = IsHidden marks bytes from × (¬ Contains predeclared bytes)

-- an index of the outline is a name in an expression
abbrev pub UsesAt : List MarkTree → Named → ℕ → Type 0
UsesAt marks name from = slice_get marks from ≡ Some (Uses name)

-- what the token with this index denotes, if it is a name in an expression
pub record MeansIn (marks : List MarkTree) (token : ℕ) (meaning : Meaning) : Type 0 where
  pub name : Named
  pub from : ℕ
  pub used : UsesAt marks name from
  pub here : name.at ≡ token
  pub meant : MeansAt marks name.bytes from meaning

abbrev pub Means : ProgramTree → ℕ → Meaning → Type 0
Means program token meaning = MeansIn (outline program) token meaning
