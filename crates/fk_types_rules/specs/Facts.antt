-- The facts of a program that keeps the rules about names and types.
use Rattle.std.specs.Prelude.{◌≡◌, ℕ, ◌<◌, false, List, length, slice_get, Some}
use Rattle.fk_syntax.specs.declared.place.Place.{Place}
use Rattle.fk_syntax.specs.declared.facts.Note.{Note}
use Rattle.fk_syntax.specs.declared.facts.Kind.{Kind}
use Rattle.fk_syntax.specs.declared.facts.Facts.{Facts}
use Rattle.fk_syntax.specs.Program.{ProgramTree}
use Rattle.fk_check_rules.specs.declared.rule.Rule.{Rule}
use Rattle.fk_types_operators.specs.declared.values.ExpressionType.{ExpressionType}
use Rattle.fk_types_judgments.specs.Names.{Env, IsEnv}
use Rattle.fk_types_rules.specs.Broken.{Broken}
use Rattle.fk_types_rules.specs.Kinds.{IsKind}
use Rattle.fk_types_rules.specs.Noted.{HasTypeAt}
use Rattle.fk_types_rules.specs.Bound.{IsBound}

-- a note has the kind of the type of its token and its binding, with 0 if there is none, and no
-- other facts yet
pub record IsNote (env : Env) (program : ProgramTree) (kinds : List Kind) (at : ℕ)
    (note : Note) : Type 0 where
  pub kind : (type : ExpressionType) → HasTypeAt env program at type
      → (kind : Kind) × (slice_get kinds note.kind ≡ Some kind) × IsKind env.structs type kind
  pub binding : (bound : ℕ) → IsBound env program at bound → note.binding ≡ bound
  pub untyped : ((type : ExpressionType) → ¬ HasTypeAt env program at type) → note.kind ≡ 0
  pub unbound : ((bound : ℕ) → ¬ IsBound env program at bound) → note.binding ≡ 0
  pub sync : note.sync ≡ false
  pub shared : note.shared ≡ false
  pub splits : note.splits ≡ false

-- a kind first occurs at a token: all tokens before it that have a type have lesser numbers
pub record IsMetAt (env : Env) (program : ProgramTree) (notes : List Note)
    (number at : ℕ) : Type 0 where
  pub here : (note : Note) × (type : ExpressionType) × (slice_get notes at ≡ Some note)
      × HasTypeAt env program at type × (note.kind ≡ number)
  pub first : (before : ℕ) (note : Note) (type : ExpressionType) → before < at
      → slice_get notes before ≡ Some note → HasTypeAt env program before type → note.kind < number

-- the facts of a program, in this environment
pub record AreFactsIn (env : Env) (program : ProgramTree) (facts : Facts) : Type 0 where
  pub tokens : length facts.notes.items ≡ program.tokens
  pub notes : (at : ℕ) (note : Note) → slice_get facts.notes.items at ≡ Some note
      → IsNote env program facts.kinds.items at note
  pub distinct : (i j : ℕ) (kind : Kind) → slice_get facts.kinds.items i ≡ Some kind
      → slice_get facts.kinds.items j ≡ Some kind → i ≡ j
  pub met : (number : ℕ) → number < length facts.kinds.items
      → (at : ℕ) × IsMetAt env program facts.notes.items number at

-- the facts of a program that keeps the rules
pub record AreFacts (program : ProgramTree) (facts : Facts) : Type 0 where
  pub env : Env
  pub right : IsEnv program env
  pub kept : (place : Place) (rule : Rule) → ¬ Broken env program place rule
  pub known : AreFactsIn env program facts
