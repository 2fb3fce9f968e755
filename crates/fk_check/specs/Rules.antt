-- Which of the forty rules a program keeps, and which one it breaks first.
use Rattle.std.specs.Prelude.{ℕ}
use Rattle.fk_syntax.specs.declared.place.Place.{Place}
use Rattle.fk_syntax.specs.declared.facts.CheckFault.{CheckFault}
use Rattle.fk_syntax.specs.declared.facts.CheckFault.TheVariants as fault
use Rattle.fk_syntax.specs.Program.{ProgramTree}
use Rattle.fk_check_rules.specs.declared.rule.Rule.{Rule}
use Rattle.fk_types_judgments.specs.Names.{Env, IsEnv}
use Rattle.fk_types_rules.specs.Broken as types
use Rattle.fk_regions.specs.Broken as regions
use Rattle.fk_sharing.specs.Broken as sharing

-- none of the rules 1 to 20 is broken, in an environment that is right about the program
pub record KeepsTypes (program : ProgramTree) : Type 0 where
  pub env : Env
  pub right : IsEnv program env
  pub none : (place : Place) (rule : Rule) → ¬ types.Broken env program place rule

-- none of the rules 21 to 32 is broken
abbrev pub KeepsRegions : ProgramTree → Type 0
KeepsRegions program = (place : Place) (rule : Rule) → ¬ regions.Broken program place rule

-- none of the rules 33 to 40 is broken
abbrev pub KeepsSharing : ProgramTree → Type 0
KeepsSharing program = (place : Place) (rule : Rule) → ¬ sharing.Broken program place rule

-- none of the forty rules is broken
pub record Keeps (program : ProgramTree) : Type 0 where
  pub types : KeepsTypes program
  pub regions : KeepsRegions program
  pub sharing : KeepsSharing program

-- the first broken rule of the family 1 to 20, by place and then by number; or the first one of 21
-- to 32, if the rules 1 to 20 are kept; or the first one of 33 to 40, if the rules 1 to 32 are kept
pub data BreaksFirst (program : ProgramTree) (place : Place) (number : ℕ) : Type 0 where
  by_types : types.IsRefusal program (fault.Rule place number) → BreaksFirst program place number
  by_regions : KeepsTypes program → regions.IsRefusal program (fault.Rule place number)
      → BreaksFirst program place number
  by_sharing : KeepsTypes program → KeepsRegions program
      → sharing.IsRefusal program (fault.Rule place number) → BreaksFirst program place number

-- why a program isn't accepted: the rule that it breaks first; if there isn't enough memory, this
-- says nothing about the program
abbrev pub IsRefusal : ProgramTree → CheckFault → Type 0
IsRefusal program (fault.Rule place number) = BreaksFirst program place number
IsRefusal program fault.Memory = Unit {0}
