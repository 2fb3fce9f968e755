-- The facts about a program that determine the numbers of references, and what follows from them.
use Rattle.std.specs.Prelude.{◌≡◌, ◌↔◌, ℕ, ◌^◌, ◌-◌, List, Option, Some, None}
use Rattle.fk_syntax.specs.Program.{ProgramTree}
use Rattle.fk_types_structs.specs.Types.{StructTree, member_named}
use Rattle.fk_types_structs.specs.Words.{capped}
use Rattle.fk_types_structs.specs.Sizes.{HasOffset}
use Rattle.fk_types_structs.specs.Whole.{structs_in}
use Rattle.fk_types_names.specs.declared.names.Meaning.{Meaning}
use Rattle.fk_types_names.specs.declared.names.Meaning.TheVariants as m
use Rattle.fk_types_names.specs.Names.{AreNames}
use Rattle.fk_types_judgments.specs.Names.{Env}
use Rattle.fk_types_references.specs.References.{ReferenceTree}
use Rattle.fk_types_rules.specs.Noted.{AreTypes}
use Rattle.fk_types_rules.specs.Bound.{Refers}
use Rattle.fk_types_bindings.specs.declared.known.TypedProgram.{TypedProgram}

-- the facts are right about a program
pub record IsKnown (env : Env) (program : ProgramTree) (known : TypedProgram) : Type 0 where
  pub structs : env.structs ≡ structs_in known.structs.now
  pub names : AreNames program known.names.now
  pub types : AreTypes env program known.types.now

-- this many words are before the member with this name in a struct; all numbers above the limit are
-- the same
pub record IsOffsetOf (structs : List StructTree) (index : ℕ) (name : List ℕ)
    (told : ℕ) : Type 0 where
  pub place : ℕ
  pub words : ℕ
  pub named : member_named structs index name ≡ Some place
  pub has : HasOffset structs index place words
  pub same : told ≡ capped words

-- the number of a reference is what it refers to, and there is none if it refers to nothing
abbrev pub IsTold : Env → ProgramTree → ReferenceTree → Option ℕ → Type 0
IsTold env program reference told = (number : ℕ)
    → (Refers env program reference number ↔ (told ≡ Some number))

-- the number of what a name denotes
abbrev pub number_meant : Option Meaning → Option ℕ
number_meant None = None
number_meant (Some (m.Declared number)) = Some number
number_meant (Some m.Predeclared) = Some (2 ^ 32 - 1)
number_meant (Some m.Undeclared) = None
