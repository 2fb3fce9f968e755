-- Laws of the definitions.
use Rattle.std.specs.Prelude.{◌≡◌, ℕ}
use Rattle.fk_syntax.specs.declared.place.Place.{Place}
use Rattle.fk_syntax.specs.declared.facts.Facts.{Facts}
use Rattle.fk_syntax.specs.Program.{ProgramTree}
use Rattle.fk_check.specs.Rules.{Keeps, BreaksFirst}
use Rattle.fk_check.specs.Known.{AreAllFacts}

-- no program keeps all rules and breaks one
abbrev pub KeepsOrBreaks : Type 0
KeepsOrBreaks = (program : ProgramTree) (place : Place) (number : ℕ) → Keeps program
    → ¬ BreaksFirst program place number

-- at most one rule at one place is the first that a program breaks
abbrev pub BreaksOneFirst : Type 0
BreaksOneFirst =
    (program : ProgramTree) (place other : Place) (m n : ℕ) → BreaksFirst program place m
    → BreaksFirst program other n → (place ≡ other) × (m ≡ n)

-- the same notes, and the same kinds
pub record AreSame (one other : Facts) : Type 0 where
  pub notes : one.notes.items ≡ other.notes.items
  pub kinds : one.kinds.items ≡ other.kinds.items

-- a program has at most one list of facts
abbrev pub HasOneFacts : Type 0
HasOneFacts = (program : ProgramTree) (one other : Facts) → AreAllFacts program one
    → AreAllFacts program other → AreSame one other
