-- The state before the first round of a program, by its text and its facts.
use Rattle.std.specs.Prelude.{ℕ, List}
use Rattle.fk_syntax.specs.declared.facts.Facts.{Facts}
use Rattle.fk_syntax.specs.Program.{ProgramTree}
use Rattle.fk_meaning.specs.Round.{State}
use Rattle.fk_layout_globals.specs.Constants.{told}
use Rattle.fk_layout_globals.specs.Rows.{words, firsts}
use Rattle.fk_layout.specs.Layout.{tables_by}
use Rattle.fk_meaning.specs.Next.{Work}
use Rattle.fk_meaning.specs.Program.{main_work, program_opening}

module _ (program : ProgramTree) (facts : Facts) where
  -- the work of a processor at the beginning of `main`
  abbrev pub all_of_main : Work
  all_of_main = main_work (tables_by program facts) program

  -- the initial values of shared data, and of the private variables of file scope
  abbrev pub first_words : List ℕ
  first_words = words (told facts.notes.items facts.kinds.items) program.items

  abbrev pub first_privates : List ℕ
  first_privates = firsts (told facts.notes.items facts.kinds.items) program.items

  -- p processors at the beginning of `main`, with these values and the input numbers
  abbrev pub opening_of : (input : List ℕ) → (p : ℕ) → State Work
  opening_of input p =
      program_opening (tables_by program facts) program first_words first_privates input p
