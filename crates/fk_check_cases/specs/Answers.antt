-- The answers about a text.
use Rattle.std.specs.Prelude.{◌≡◌, ◌≢◌, ◌⊎◌, ◌<◌, ℕ, List, length, map}
use Rattle.fk_num.specs.Limits.{most_text_bytes}
use Rattle.fk_syntax.specs.declared.facts.Facts.{Facts}
use Rattle.fk_syntax.specs.Program.{ProgramTree}
use Rattle.fk_lex.specs.declared.token.LexFault.{LexFault}
use Rattle.fk_lex.specs.Reading.{Spelled, Tokens, Faults}
use Rattle.fk_lex.specs.View.{spelled}
use Rattle.fk_parse_combinators.specs.declared.fault.SyntaxFault.{SyntaxFault}
use Rattle.fk_parse_combinators.specs.Faults.{IsMemory}
use Rattle.fk_parse.specs.Parses.{SpellsProgram}
use Rattle.fk_parse.specs.Refusals.{RefusesTokens}
use Rattle.fk_check.specs.Rules.{Keeps, BreaksFirst}
use Rattle.fk_check.specs.Known.{AreAllFacts}
use Rattle.fk_layout.specs.declared.layout.Layout.{Layout}
use Rattle.fk_layout.specs.declared.sites.LayoutFault.{LayoutFault}
use Rattle.fk_layout.specs.declared.sites.LayoutFault.TheVariants as fault
use Rattle.fk_layout.specs.Layout.{IsLayout, tables_by}
use Rattle.fk_layout.specs.Refusal.{IsRefusal}
use Rattle.fk_check_cases.specs.declared.row.Question.{Question}
use Rattle.fk_check_cases.specs.declared.row.Question.TheVariants as question
use Rattle.fk_check_cases.specs.declared.rules.Answer.{Answer}
use Rattle.fk_check_cases.specs.declared.rules.Answer.TheVariants as answer

-- a program keeps all rules and has these facts
pub record HasFacts (tree : ProgramTree) (facts : Facts) : Type 0 where
  pub kept : Keeps tree
  pub known : AreAllFacts tree facts

-- a program has this layout, by its facts
pub record HasLayout (tree : ProgramTree) (layout : Layout) : Type 0 where
  pub facts : Facts
  pub has : HasFacts tree facts
  pub laid : IsLayout tree facts layout

-- a program has no layout because of this fault, which isn't `Memory`
pub record HasNoLayout (tree : ProgramTree) (why : LayoutFault) : Type 0 where
  pub facts : Facts
  pub has : HasFacts tree facts
  pub refused : IsRefusal (tables_by tree facts) tree.items why
  pub told : why ≢ fault.Memory

-- the question needs a layout
abbrev pub AsksLayout : Question → Type 0
AsksLayout asked = (asked ≡ question.Sites) ⊎ (asked ≡ question.Layout)

-- the answer about a program with these tokens
abbrev pub IsAnswerOf : Question → List Spelled → ProgramTree → Answer → Type 0
IsAnswerOf asked tokens tree answer.NoProgram = ⊥
IsAnswerOf asked tokens tree (answer.Broken place rule) = BreaksFirst tree place rule
IsAnswerOf asked tokens tree answer.Kept = (asked ≡ question.Rules) × Keeps tree
IsAnswerOf asked tokens tree (answer.Checked known) =
    (asked ≡ question.Facts) × (map spelled known.tokens.items ≡ tokens) × HasFacts tree known.facts
IsAnswerOf asked tokens tree (answer.Sites layout) = (asked ≡ question.Sites)
    × HasLayout tree layout
IsAnswerOf asked tokens tree (answer.Tables layout) = (asked ≡ question.Layout)
    × HasLayout tree layout
IsAnswerOf asked tokens tree (answer.TooLarge why) = AsksLayout asked × HasNoLayout tree why

-- a text is too long, or has no tokens, or its tokens aren't a program
pub data HasNoProgram (source : List ℕ) : Type 0 where
  too_long : most_text_bytes < length source → HasNoProgram source
  no_tokens : (found : LexFault) → Faults source found → HasNoProgram source
  no_tree : (tokens : List Spelled) (found : SyntaxFault) → Tokens source tokens
      → RefusesTokens tokens found → ¬ IsMemory found → HasNoProgram source

-- the answer about a text that has a program
pub record HasAnswer (asked : Question) (source : List ℕ) (given : Answer) : Type 0 where
  pub tokens : List Spelled
  pub tree : ProgramTree
  pub spelled : Tokens source tokens
  pub derived : SpellsProgram tokens tree
  pub is : IsAnswerOf asked tokens tree given

-- the answer about a text
abbrev pub IsAnswer : Question → List ℕ → Answer → Type 0
IsAnswer asked source answer.NoProgram = HasNoProgram source
IsAnswer asked source given = HasAnswer asked source given
