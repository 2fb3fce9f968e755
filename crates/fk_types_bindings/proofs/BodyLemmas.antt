-- Declarations by their numbers, and the marks that declare them.
use Rattle.std.proofs.Common.{◌≡◌, ◌⊎◌, inl, inr, ℕ, zero, suc, ◌<◌, ◌≤◌, List, [], ◌∷◌, length, get_or, map, Option, Some, None, refl, sym, ap, ◌∙◌, arith}
use Rattle.std.specs.Prelude.{slice_get, unwrap_or}
use Rattle.std.specs.Option.{option_map}
use Rattle.std.proofs.lemmas.Bool.{cases_lt}
use Rattle.std.proofs.lemmas.Option.{slice_get-map, slice_get_read}
use Rattle.fk_types_names.specs.declared.outline.Declaration.{Declaration}
use Rattle.fk_types_names.specs.Outline.{DeclarationTree, MarkTree, Variable, Header, Opens, Closes, Declares, Uses, declared_in, name_of}
use Rattle.fk_types_names.specs.View.{declaration_of}
use Rattle.fk_types_names.specs.Means.{HasBodyAt, IsDefinition, Denotes, binding}
use Rattle.fk_types_names.specs.Locals.{IsFirstOf}
use Rattle.fk_types_bindings.specs.Bodies.{AreBodies, meant_by}

-- a declaration as the mark that declares it
pub declares_at : (declared : List Declaration) (i : ℕ) (d : Declaration) → i < length declared → d ≡ get_or declared i d
    → slice_get (map Declares (map declaration_of declared)) i ≡ Some (Declares (declaration_of d))
declares_at declared i d within is =
    let whole = map declaration_of declared in
    slice_get-map Declares whole i ∙ ap (option_map Declares) (slice_get-map declaration_of declared i ∙ ap (option_map declaration_of) (slice_get_read declared (length declared) i d refl within is))

-- ---- from marks to numbers

pub declared_here : (marks : List MarkTree) (at : ℕ) (d : DeclarationTree) → slice_get marks at ≡ Some (Declares d) → slice_get (declared_in marks) (binding marks at) ≡ Some d
declared_here [] at d is = absurd cc
declared_here (Opens ∷ marks) zero d is = absurd cc
declared_here (Opens ∷ marks) (suc at) d is = declared_here marks at d is
declared_here (Closes ∷ marks) zero d is = absurd cc
declared_here (Closes ∷ marks) (suc at) d is = declared_here marks at d is
declared_here (Uses name ∷ marks) zero d is = absurd cc
declared_here (Uses name ∷ marks) (suc at) d is = declared_here marks at d is
declared_here (Declares e ∷ marks) zero d is = cc
declared_here (Declares e ∷ marks) (suc at) d is = declared_here marks at d is

to_number : (marks : List MarkTree) (name : List ℕ) (at : ℕ) → HasBodyAt marks name at → HasBodyAt (map Declares (declared_in marks)) name (binding marks at)
to_number [] name at h = absurd h
to_number (Opens ∷ marks) name zero h = absurd h
to_number (Opens ∷ marks) name (suc at) h = to_number marks name at h
to_number (Closes ∷ marks) name zero h = absurd h
to_number (Closes ∷ marks) name (suc at) h = to_number marks name at h
to_number (Uses used ∷ marks) name zero h = absurd h
to_number (Uses used ∷ marks) name (suc at) h = to_number marks name at h
to_number (Declares d ∷ marks) name zero h = h
to_number (Declares d ∷ marks) name (suc at) h = to_number marks name at h

binding_grows : (marks : List MarkTree) (i j : ℕ) → i ≤ j → binding marks i ≤ binding marks j
binding_grows marks zero j low = omega arith
binding_grows marks (suc i) zero low = absurd (omega arith)
binding_grows [] (suc i) (suc j) low = omega arith
binding_grows (Opens ∷ marks) (suc i) (suc j) low = binding_grows marks i j (omega arith)
binding_grows (Closes ∷ marks) (suc i) (suc j) low = binding_grows marks i j (omega arith)
binding_grows (Uses name ∷ marks) (suc i) (suc j) low = binding_grows marks i j (omega arith)
binding_grows (Declares d ∷ marks) (suc i) (suc j) low = let inner = binding_grows marks i j (omega arith) in omega (arith, inner)

-- ---- and back

abbrev IsNumbered : List MarkTree → List ℕ → ℕ → Type 0
IsNumbered marks name number = (at : ℕ) × HasBodyAt marks name at × (binding marks at ≡ number)

from_number : (marks : List MarkTree) (name : List ℕ) (number : ℕ) → HasBodyAt (map Declares (declared_in marks)) name number → IsNumbered marks name number
from_number [] name number h = absurd h
from_number (Opens ∷ marks) name number h = let mark = from_number marks name number h in (suc mark.0, mark.1, mark.2)
from_number (Closes ∷ marks) name number h = let mark = from_number marks name number h in (suc mark.0, mark.1, mark.2)
from_number (Uses used ∷ marks) name number h = let mark = from_number marks name number h in (suc mark.0, mark.1, mark.2)
from_number (Declares d ∷ marks) name zero h = (zero, h, refl)
from_number (Declares d ∷ marks) name (suc number) h = let mark = from_number marks name number h in (suc mark.0, mark.1, ap suc mark.2)

-- ---- what a declaration stands for has the number that is told

module _ (marks : List MarkTree) (name : List ℕ) (here meant : ℕ) where
  abbrev IsFirstBody : Option ℕ → Type 0
  IsFirstBody told = IsFirstOf (HasBodyAt (map Declares (declared_in marks)) name) told

  defined : (told : Option ℕ) → IsFirstBody told → IsDefinition marks name meant → unwrap_or told (binding marks here) ≡ binding marks meant
  defined None first is = absurd (first (binding marks meant) (to_number marks name meant is.body))
  defined (Some number) first is =
      let mark = from_number marks name number first.0 in
      let least : number ≤ binding marks meant = first.1 (binding marks meant) (to_number marks name meant is.body) in
      elim (cases_lt mark.0 meant) [
        | inl less ↦ absurd (is.first mark.0 less mark.1)
        | inr past ↦ (let above = binding_grows marks meant mark.0 past in omega (arith, mark.2, least, above))
      ]

  undefined : (told : Option ℕ) → IsFirstBody told → meant ≡ here → ((k : ℕ) → ¬ HasBodyAt marks name k) → unwrap_or told (binding marks here) ≡ binding marks meant
  undefined None first same none = ap (binding marks) (sym same)
  undefined (Some number) first same none = let mark = from_number marks name number first.0 in absurd (none mark.0 mark.1)

pub meant-stands : (marks : List MarkTree) (bodies : List ℕ → Option ℕ) → AreBodies (declared_in marks) bodies → (here meant : ℕ) (d : DeclarationTree) → Denotes marks (name_of d).bytes here d meant
    → meant_by bodies (binding marks here) d ≡ binding marks meant
meant-stands marks bodies are here meant (Variable v) stands = ap (binding marks) (sym stands)
meant-stands marks bodies are here meant (Header f) (inl is) = defined marks f.name.bytes here meant (bodies f.name.bytes) (are f.name.bytes) is
meant-stands marks bodies are here meant (Header f) (inr alone) = undefined marks f.name.bytes here meant (bodies f.name.bytes) (are f.name.bytes) alone.0 alone.1

-- ---- and each declaration stands for something

-- a number is that of a mark that declares
pub declared_from : (marks : List MarkTree) (i : ℕ) (d : DeclarationTree) → slice_get (declared_in marks) i ≡ Some d → (at : ℕ) × (slice_get marks at ≡ Some (Declares d))
declared_from [] i d is = absurd cc
declared_from (Opens ∷ marks) i d is = let mark = declared_from marks i d is in (suc mark.0, mark.1)
declared_from (Closes ∷ marks) i d is = let mark = declared_from marks i d is in (suc mark.0, mark.1)
declared_from (Uses used ∷ marks) i d is = let mark = declared_from marks i d is in (suc mark.0, mark.1)
declared_from (Declares e ∷ marks) zero d is = (zero, cc)
declared_from (Declares e ∷ marks) (suc i) d is = let mark = declared_from marks i d is in (suc mark.0, mark.1)

body_grows : (marks : List MarkTree) (name : List ℕ) (k j : ℕ) → HasBodyAt marks name k → k < j → binding marks k < binding marks j
body_grows [] name k j h low = absurd h
body_grows (mark ∷ marks) name k zero h low = absurd (omega arith)
body_grows (Opens ∷ marks) name zero (suc j) h low = absurd h
body_grows (Opens ∷ marks) name (suc k) (suc j) h low = body_grows marks name k j h (omega arith)
body_grows (Closes ∷ marks) name zero (suc j) h low = absurd h
body_grows (Closes ∷ marks) name (suc k) (suc j) h low = body_grows marks name k j h (omega arith)
body_grows (Uses used ∷ marks) name zero (suc j) h low = absurd h
body_grows (Uses used ∷ marks) name (suc k) (suc j) h low = body_grows marks name k j h (omega arith)
body_grows (Declares d ∷ marks) name zero (suc j) h low = omega arith
body_grows (Declares d ∷ marks) name (suc k) (suc j) h low = let inner = body_grows marks name k j h (omega arith) in omega (arith, inner)

-- the first body among the declarations is the first one of the marks
stands-first : (marks : List MarkTree) (name : List ℕ) (here : ℕ) (told : Option ℕ) → IsFirstOf (HasBodyAt (map Declares (declared_in marks)) name) told
    → (meant : ℕ) × (IsDefinition marks name meant ⊎ ((meant ≡ here) × ((k : ℕ) → ¬ HasBodyAt marks name k)))
stands-first marks name here None first = (here, inr (refl, λ k h. first (binding marks k) (to_number marks name k h)))
stands-first marks name here (Some number) first =
    let mark = from_number marks name number first.0 in
    let least : (k : ℕ) → k < mark.0 → ¬ HasBodyAt marks name k = λ k low h.
    let above : number ≤ binding marks k = first.1 (binding marks k) (to_number marks name k h) in
    let grows : binding marks k < binding marks mark.0 = body_grows marks name k mark.0 h low in
    omega (arith, above, grows, mark.2) in
    (mark.0, inl (record { body = mark.1; first = least }))

pub stands : (marks : List MarkTree) (bodies : List ℕ → Option ℕ) → AreBodies (declared_in marks) bodies → (here : ℕ) (d : DeclarationTree) → (meant : ℕ) × Denotes marks (name_of d).bytes here d meant
stands marks bodies are here (Variable v) = (here, refl)
stands marks bodies are here (Header f) = stands-first marks f.name.bytes here (bodies f.name.bytes) (are f.name.bytes)
