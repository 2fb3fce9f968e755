-- The order of faults, by place and then by the number of the rule.
use Rattle.std.specs.Prelude.{◌≡◌, ℕ, ◌<◌, ◌≤◌, ◌⊎◌, List, Option, Some, None, slice_get}
use Rattle.fk_syntax.specs.declared.place.Place.{Place}
use Rattle.fk_check_rules.specs.declared.rule.Rule.{Rule}
use Rattle.fk_check_rules.specs.declared.fault.Fault.{Fault}
use Rattle.fk_check_rules.specs.Rules.{number_of}

-- a fault comes no later than another one
abbrev pub IsNoLater : Fault → Fault → Type 0
IsNoLater f g =
    (f.place.line < g.place.line)
    ⊎ ((f.place.line ≡ g.place.line) × ((f.place.column < g.place.column)
    ⊎ ((f.place.column ≡ g.place.column) × (number_of f.rule ≤ number_of g.rule))))

-- the earlier of two faults, if there are any
abbrev pub IsEarlier : Option Fault → Option Fault → Option Fault → Type 0
IsEarlier None second r = r ≡ second
IsEarlier (Some f) None r = r ≡ Some f
IsEarlier (Some f) (Some g) r = ((r ≡ Some f) × IsNoLater f g) ⊎ ((r ≡ Some g) × IsNoLater g f)

-- a predicate that tells which rules are broken at which places
abbrev pub Breaks : Type 1
Breaks = Place → Rule → Type 0

-- the first of all broken rules, or `None` if none is broken
abbrev pub IsLeast : Breaks → Option Fault → Type 0
IsLeast broken None = (place : Place) (rule : Rule) → ¬ broken place rule
IsLeast broken (Some f) = broken f.place f.rule
    × ((g : Fault) → broken g.place g.rule → IsNoLater f g)

-- one rule, broken at these places
abbrev pub only : Rule → (Place → Type 0) → Breaks
only forbidden P place rule = (rule ≡ forbidden) × P place

-- one or the other predicate tells that the rule is broken
abbrev pub either : Breaks → Breaks → Breaks
either P Q place rule = P place rule ⊎ Q place rule

-- a rule is broken by one of the first `count` elements of a list
abbrev pub among_first : {X : Type 0} → ℕ → (ℕ → X → Breaks) → List X → Breaks
among_first {X} count P xs place rule = (i : ℕ) × (x : X) × (i < count) × (slice_get xs i ≡ Some x)
    × P i x place rule

-- a rule is broken by an element of a list
abbrev pub among : {X : Type 0} → (ℕ → X → Breaks) → List X → Breaks
among {X} P xs place rule = (i : ℕ) × (x : X) × (slice_get xs i ≡ Some x) × P i x place rule
