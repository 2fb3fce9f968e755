-- What is known of a text with its list.
use Rattle.std.proofs.Common.{ℕ, ◌^◌, ◌<◌, ◌≤◌, true, List, length, sum_by, arith}
use Rattle.fk_num.specs.Limits.{most_data_words}
use Rattle.fk_syntax.specs.declared.facts.Facts.{Facts}
use Rattle.fk_syntax.specs.Program.{ProgramTree}
use Rattle.fk_syntax.specs.WellFormed.{IsWellFormed}
use Rattle.fk_layout_globals.specs.Constants.{told}
use Rattle.fk_layout_globals.specs.Variables.{variables_of}
use Rattle.fk_layout_globals.proofs.Lengths.{length_of_words}
use Rattle.fk_layout.specs.Layout.{tables_by}
use Rattle.fk_layout.specs.Refusal.{Fits}
use Rattle.fk_core.specs.declared.op.CoreOp.{CoreOp}
use Rattle.fk_gen_list.specs.Generable.{most_words}
use Rattle.fk_parse_laws.specs.Trim.{TextsAreTrim}
use Rattle.fk_lower_names.specs.Proper.{TextsAreProper}
use Rattle.fk_compile_text.specs.Text.{IsChecked}
use Rattle.fk_compile.specs.Faithful.{words_by}
use Rattle.fk_compile.specs.OneProgram.{IsLaidOut}
use Rattle.fk_compile.proofs.Small.{few_operations}

pub laid_out : (source : List ℕ) (program : ProgramTree) (facts : Facts) → IsChecked source program facts → IsWellFormed program → program.tokens ≤ 2 ^ 20
    → Fits (tables_by program facts) program.items → TextsAreTrim → TextsAreProper → IsLaidOut program facts
laid_out source program facts checked well_formed small fits trim proper =
    let text = checked.parsed in
    record {
      correct = record { well_formed = well_formed; small = small; known = checked.known };
      trim = trim source text.tokens program text.spelled text.derived;
      proper = proper source text.tokens program text.spelled text.derived;
      fits = fits;
    }

pub few_indices : (core : List CoreOp) → sum_by most_words core ≤ 256000 → length core < 2 ^ 32
few_indices core small = let all = few_operations core in omega (arith, all, small)

pub few_globals : (program : ProgramTree) (facts : Facts) → Fits (tables_by program facts) program.items → length (words_by program facts) ≤ most_data_words
few_globals program facts fits =
    let all = length_of_words (told facts.notes.items facts.kinds.items) (variables_of true program.items) in
    let few = fits.words in
    omega (arith, all, few)
