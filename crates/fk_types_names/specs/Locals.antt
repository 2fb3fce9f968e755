-- The declarations in open scopes, from the outer scopes to the inner ones, and what they make
-- visible.
use Rattle.std.specs.Prelude.{◌≡◌, ◌⊎◌, ℕ, ◌<◌, ◌≤◌, List, [], ◌∷◌, Option, Some, MatchOption, cond}
use Rattle.std.specs.Prelude.{nat_eq}
use Rattle.std.specs.Cmp.Lexicographic.{pointwise}
use Rattle.fk_types_names.specs.declared.reader.Local.{Local}

-- a predicate holds for each of them, and for one of them
abbrev pub Each : (Local → Type 0) → List Local → Type 0
Each P [] = Unit {0}
Each P (x ∷ xs) = P x × Each P xs

abbrev pub One : (Local → Type 0) → List Local → Type 0
One P [] = ⊥
One P (x ∷ xs) = P x ⊎ One P xs

-- what a name shows after one local declaration is visible, and after all of these are
abbrev pub shown_with : (List ℕ → Option ℕ) → Local → List ℕ → Option ℕ
shown_with shows l name = cond (pointwise nat_eq name l.name.now) (Some l.mark) (shows name)

abbrev pub shown_after : (List ℕ → Option ℕ) → List Local → List ℕ → Option ℕ
shown_after shows [] name = shows name
shown_after shows (l ∷ ls) name = shown_after (shown_with shows l) ls name

-- each declaration hides what its name showed before it
abbrev pub Hide : (List ℕ → Option ℕ) → List Local → Type 0
Hide shows [] = Unit {0}
Hide shows (l ∷ ls) = (l.hides ≡ shows l.name.now) × Hide (shown_with shows l) ls

-- later declarations are at least as deep, and deeper if they have the same name
abbrev pub IsAround : (ℕ → ℕ) → Local → Local → Type 0
IsAround depth l r = (depth l.mark ≤ depth r.mark)
    × (l.name.now ≡ r.name.now → depth l.mark < depth r.mark)

abbrev pub Nest : (ℕ → ℕ) → List Local → Type 0
Nest depth [] = Unit {0}
Nest depth (l ∷ ls) = Each (IsAround depth l) ls × Nest depth ls

-- the least number for which a predicate holds, if there is one
abbrev pub IsFirstOf : (ℕ → Type 0) → Option ℕ → Type 0
IsFirstOf P o = MatchOption o ((k : ℕ) → ¬ P k) (λ i. P i × ((k : ℕ) → P k → i ≤ k))

-- a declaration in an inner scope, one of these
abbrev pub IsLocal : (List ℕ → ℕ → Type 0) → (ℕ → ℕ) → (ℕ → Type 0) → Local → Type 0
IsLocal named depth inner l = named l.name.now l.mark × inner l.mark × (0 < depth l.mark)

-- the first declaration of the name in the scope of an index
abbrev pub IsFor : (ℕ → ℕ) → List ℕ → ℕ → Local → Type 0
IsFor depth name i l = (l.name.now ≡ name) × (depth l.mark ≡ depth i) × (l.mark ≤ i)

-- the local declarations are among these, and include all that are the first of their names
pub record Holds (named : List ℕ → ℕ → Type 0) (depth : ℕ → ℕ) (among all : ℕ → Type 0)
    (file table : List ℕ → Option ℕ) (locals : List Local) : Type 0 where
  pub shows : (name : List ℕ) → table name ≡ shown_after file locals name
  pub hides : Hide file locals
  pub sound : Each (IsLocal named depth among) locals
  pub nest : Nest depth locals
  pub complete : (name : List ℕ) (i : ℕ) → named name i → all i → 0 < depth i
      → One (IsFor depth name i) locals
