-- What the members of a group in lockstep do in a round of the run of a text, and what they make of
-- a word that they alone touch.
use Rattle.std.specs.Prelude.{◌≡◌, ℕ, ◌≤◌, true, List, slice_get, Option, Some}
use Rattle.fk_syntax.specs.declared.facts.Facts.{Facts}
use Rattle.fk_syntax.specs.Program.{ProgramTree}
use Rattle.fk_tree.specs.Tree as t
use Rattle.fk_tree.specs.Tree.{is_member}
use Rattle.fk_tree.specs.declared.node.Kind.TheVariants.{Lockstep}
use Rattle.fk_meaning_operation.specs.declared.operation.Operation.{Operation}
use Rattle.fk_meaning_operation.specs.declared.operation.Operation.TheVariants as o
use Rattle.fk_meaning_store.specs.declared.request.Request.{Request}
use Rattle.fk_meaning.specs.Processor.{Setting}
use Rattle.fk_meaning.specs.Round.{Step, State, Round, Acting, asking, is_possible}
use Rattle.fk_meaning.specs.Schedule.{Schedule, run, IsLawful}
use Rattle.fk_meaning.specs.Next.{Work}
use Rattle.fk_meaning.specs.Program.{next_in, program_opening}
use Rattle.fk_meaning.specs.Touch.{operation_due, Touches, IsGroupStep, Reads, Writes, Combines}
use Rattle.fk_layout.specs.Layout.{tables_by}
use Rattle.fk_layout.specs.Refusal.{Fits}
use Rattle.fk_lex.specs.Reading.{Spelled, Tokens}
use Rattle.fk_parse.specs.Parses.{SpellsProgram}
use Rattle.fk_check_laws.specs.Correct.{IsCorrect}

module _ {W : Type 0} (next : W → Option (Step W)) (setting : Setting) (round : Round)
    (s : State W) where
  abbrev pub InLockstep : (n : ℕ) → Type 0
  InLockstep n = t.kind s.tree n ≡ Some Lockstep

  -- two members of group n, which is in lockstep, and what they come to in a round: a request, a
  -- step of the tree, or neither
  pub record Members (n g h : ℕ) (a b : Acting W) : Type 0 where
    pub lockstep : InLockstep n
    pub first : is_member g (t.members s.tree n) ≡ true
    pub second : is_member h (t.members s.tree n) ≡ true
    pub first_is : slice_get (asking next setting round s.runners) g ≡ Some a
    pub second_is : slice_get (asking next setting round s.runners) h ≡ Some b

  -- they do equally many operations, and come to the same
  pub record ActAsOne (g h : ℕ) (a b : Acting W) : Type 0 where
    pub counts : slice_get round g ≡ slice_get round h
    pub operation : operation_due a.due ≡ operation_due b.due

  -- in a round the members of group n, which is in lockstep, alone touch word x
  pub record TouchAlone (n x : ℕ) : Type 0 where
    pub lockstep : InLockstep n
    pub alone : (h : ℕ) (q : Request) → Touches next setting round s x h q
        → is_member h (t.members s.tree n) ≡ true

  -- what becomes of the word where all of them do this operation
  abbrev pub Becomes : (x : ℕ) → Operation → Type 0
  Becomes x o.Read = Reads next setting round s x
  Becomes x o.Write = Writes next setting round s x
  Becomes x (o.Combine by) = Combines next setting by round s x
  Becomes x operation = ⊥

  -- all of them read it, write it, or combine it by one multiprefix
  pub record StepAsOne (n x : ℕ) : Type 0 where
    pub operation : Operation
    pub all : IsGroupStep next setting round s n x operation
    pub becomes : Becomes x operation

-- in the possible rounds after lawful schedules of the program that a text spells
abbrev pub InRounds : ((next : Work → Option (Step Work)) → Setting → Round → State Work → Type 0)
    → Type 0
InRounds Says =
    (source : List ℕ) (tokens : List Spelled) (program : ProgramTree) (facts : Facts)
    → Tokens source tokens → SpellsProgram tokens program
    → IsCorrect program facts → Fits (tables_by program facts) program.items
    → (setting : Setting) (schedule : Schedule) (words firsts input : List ℕ) (processors : ℕ)
    → 1 ≤ processors
    → let next = next_in (tables_by program facts) program in
    let first = program_opening (tables_by program facts) program words firsts input processors in
    IsLawful next setting schedule first
    → let s = run next setting schedule first in
    (round : Round) → is_possible next setting round s ≡ true → Says next setting round s

-- the members of a group in lockstep act as one
abbrev pub TextsActAsOne : Type 0
TextsActAsOne = InRounds (λ next setting round s.
    (n g h : ℕ) (a b : Acting Work) → Members next setting round s n g h a b
    → ActAsOne next setting round s g h a b)

-- the members of a group step as one on a word that they alone touch, if any of them touches it
abbrev pub TextsStepAsOne : Type 0
TextsStepAsOne = InRounds (λ next setting round s.
    (n x : ℕ) → TouchAlone next setting round s n x
    → (h : ℕ) (q : Request) → Touches next setting round s x h q
    → StepAsOne next setting round s n x)
