-- A text that keeps all rules and has a layout can be lowered.
use Rattle.std.proofs.Common.{◌≡◌, ◌≤◌, ◌^◌, ℕ, List, length, sym, subst}
use Rattle.std.specs.Prelude.{Result, Ok, Err, IfOk}
use Rattle.fk_syntax.specs.declared.facts.Facts.{Facts}
use Rattle.fk_syntax.specs.Program.{ItemTree, ProgramTree}
use Rattle.fk_syntax.specs.WellFormed.{IsWellFormed}
use Rattle.fk_meaning_forms.specs.Tables.{Tables}
use Rattle.fk_meaning_forms.specs.Program.{functions_of, bodies_of, sites_in}
use Rattle.fk_layout_walk.specs.declared.known.ProgramTables.{ProgramTables}
use Rattle.fk_layout_walk.specs.Known.{tables_of, items_in}
use Rattle.fk_layout_walk_statements.specs.Texts.{functions_in, sites_of_text}
use Rattle.fk_core.specs.declared.op.CoreOp.{CoreOp}
use Rattle.fk_core_flat.specs.Laws.{AreShaped}
use Rattle.fk_layout.specs.Layout.{tables_by}
use Rattle.fk_layout.specs.Refusal.{Fits}
use Rattle.fk_lower_text.specs.Whole.{AreWhole, AreNumbered}
use Rattle.fk_lower_text.specs.Lowered.{IsLowerable, HasSites}
use Rattle.fk_core_flat.specs.Fitting.{FormsAreShaped}
use Rattle.fk_parse_laws.specs.Trim.{TextsAreTrim}
use Rattle.fk_parse_laws.specs.Words.{TextsHaveWords}
use Rattle.fk_check_laws.specs.Correct.{IsCorrect}
use Rattle.fk_check_laws.specs.Laws.{CorrectProgramsFit}
use Rattle.fk_lower_laws.specs.LoweringLaws.{IsKnownOf}
use Rattle.fk_compile_text.specs.Text.{IsChecked}
use Rattle.fk_lower_names.specs.Proper.{TextsAreProper}
use Rattle.fk_lower_names.specs.WordLaws.{NumbersHaveRoom}
use Rattle.fk_lower.specs.Depths.{AreTold}
use Rattle.fk_lower_text.specs.Depths.{depths_of}
use Rattle.fk_lower_laws.specs.Laws.{LoweredListsCanHaveGroups, count_of_file}
use Rattle.fk_compile.specs.OneProgram.{IsLaidOut}
use Rattle.fk_compile.specs.ListLaws.{ListsHaveBlocks}
use Rattle.fk_compile.specs.Trees.{ListsAreOfTree}
use Rattle.fk_compile.proofs.Sites.{sites_are_own}
use Rattle.fk_compile.specs.Lists.{HasListOf, IsGrouped}

-- what is so of a text that has a layout, where this is known of it
pub record IsPrepared (program : ProgramTree) (facts : Facts) (known : ProgramTables) : Type 0 where
  pub of : IsKnownOf program facts known
  pub laid : IsLaidOut program facts
  pub shaped : AreShaped (bodies_of (tables_by program facts) program)
  pub whole : AreWhole known (functions_in known)
  pub numbered : AreNumbered known (functions_in known)

pub prepared : (source : List ℕ) (program : ProgramTree) (facts : Facts) (known : ProgramTables) → tables_of known ≡ tables_by program facts → items_in known ≡ program.items
    → IsChecked source program facts → IsWellFormed program → program.tokens ≤ 2 ^ 20 → Fits (tables_by program facts) program.items
    → TextsAreTrim → TextsAreProper → TextsHaveWords → NumbersHaveRoom → CorrectProgramsFit → FormsAreShaped → IsPrepared program facts known
prepared source program facts known tables items checked well_formed small fits trim proper words room fit shaped =
    let text = checked.parsed in
    let correct : IsCorrect program facts = record { well_formed = well_formed; small = small; known = checked.known } in
    let is_trim = trim source text.tokens program text.spelled text.derived in
    let is_proper = proper source text.tokens program text.spelled text.derived in
    let numbers = room program facts known correct is_proper fits (words source text.tokens program text.spelled text.derived) tables items in
    record {
      of = record { tables = tables; items = items };
      laid = record { correct = correct; trim = is_trim; proper = is_proper; fits = fits };
      shaped = shaped (tables_by program facts) program (fit program facts correct is_trim);
      whole = numbers.0;
      numbered = numbers.1;
    }

module _ (program : ProgramTree) (facts : Facts) (known : ProgramTables) (p : IsPrepared program facts known) where
  -- it can be lowered
  pub lowerable : IsLowerable known program
  lowerable = record {
    items = sym p.of.items;
    shaped = subst (λ (t : Tables). AreShaped (bodies_of t program)) (sym p.of.tables) p.shaped;
    whole = p.whole;
  }

  pub few_sites : length (sites_of_text known) ≤ 16000
  few_sites =
      subst (λ (items : List ItemTree). length (sites_in (tables_of known) (functions_of items) (functions_of items)) ≤ 16000) (sym p.of.items)
      (subst (λ (t : Tables). length (sites_in t (functions_of program.items) (functions_of program.items)) ≤ 16000) (sym p.of.tables) p.laid.fits.sites)

  -- and its list keeps its processors in the tree of groups
  pub grouped_list : LoweredListsCanHaveGroups → ListsHaveBlocks → ListsAreOfTree
      → (core : List CoreOp) (main : ℕ) → HasListOf (tables_of known) program core main → HasSites known core → AreTold (depths_of known (functions_in known)) core
      → IsGrouped core main (count_of_file program facts)
  grouped_list can_have have_blocks are_of_tree core main list sites told =
      let tables = tables_by program facts in
      let own = subst (λ (t : Tables). HasListOf t program core main) p.of.tables list in
      let can = can_have program facts known p.of p.laid.correct p.laid.trim p.laid.proper p.laid.fits core own.entry own.flat told in
      subst (λ (m : ℕ). IsGrouped core m (count_of_file program facts)) (sym own.begins)
      (record {
        can = can;
        blocks = have_blocks (bodies_of tables program) core own.entry p.shaped own.flat can.steady.within.leads;
        own = sites_are_own known core sites;
        tree = are_of_tree program facts known p.of p.laid core own.entry own.flat told sites;
      })

-- what is so of what is answered
pub answered : {A E : Type 0} (P Q : A → Type 0) (r : Result A E) → ((a : A) → P a → Q a) → IfOk r P → IfOk r Q
answered P Q (Ok a) go h = go a h
answered P Q (Err e) go h = tt

pub answered_all : {A E : Type 0} (P Q R S : A → Type 0) (r : Result A E) → ((a : A) → P a → Q a → R a → S a) → IfOk r P → IfOk r Q → IfOk r R → IfOk r S
answered_all P Q R S (Ok a) go h k l = go a h k l
answered_all P Q R S (Err e) go h k l = tt
