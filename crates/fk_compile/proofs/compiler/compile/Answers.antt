use Rattle.std.proofs.Common.{ℕ, ◌^◌, ◌<◌, ◌≤◌, List, All, length, map, sum_by, refl, ap, sym, subst, ◌∙◌, arith}
use Rattle.fk_syntax.specs.ProgramView.{program_of}
use Rattle.std.specs.Prelude.{vec_len}
use Rattle.fk_image.specs.declared.Image.{Image}
use Rattle.fk_layout.specs.declared.listed.Site.{Site}
use Rattle.fk_core.specs.declared.op.CoreOp.{CoreOp}
use Rattle.fk_compile_text.proofs.Parts.{kept as passed, passes_on}
use Rattle.fk_lower_laws.specs.Certain.{HasFrames}
use Rattle.fk_compile.specs.Lists.{IsGrouped}
use Rattle.fk_gen_list.specs.Generable.{IsGenerable, GivesWholeCode, most_words}
use Rattle.fk_gen_list.specs.Whole.{GivesGroupLaw}
use Rattle.fk_compile.specs.Faithful.{in_table}
use Rattle.fk_compile.proofs.Made.{IsPutTogether, are_levels, gives_still, is_generable, few_words, is_compiled, tells_events}
use Rattle.fk_compile.proofs.Small.{few_operations}
use Rattle.fk_compile.proofs.Theorem.{is_faithful}
use Rattle.fk_compile.proofs.compiler.compile.Goals as goal

pub returns-in_err-list-clause-refused : goal.returns-in_err-list-clause-refused
returns-in_err-list-clause-refused c =
    passes_on c.from_residual-in_err-list.result c.in_err-list.field-0.0 c.args.source.now c.from_residual-in_err-list.ensures.1
    (c.in_err-list.ensures.refused c.args.source.now)

pub returns-in_err-kept-clause-refused : goal.returns-in_err-kept-clause-refused
returns-in_err-kept-clause-refused c =
    passes_on c.from_residual-in_err-kept.result c.in_err-kept.field-0.0 c.args.source.now c.from_residual-in_err-kept.ensures.1
    (c.in_err-kept.ensures.refused c.args.source.now)

pub overflow_cast-globals : goal.overflow_cast-globals
overflow_cast-globals c =
    let text = c.in_ok-text.text in
    let few = few_words (program_of text.tree) text.facts text.layout c.in_ok-text.ensures.laid c.in_ok-text.ensures.fits in
    omega (arith, few, c.len-globals.ensures)

pub generate-requires-clause-globals : goal.generate-requires-clause-globals
generate-requires-clause-globals c =
    let text = c.in_ok-text.text in
    let few = few_words (program_of text.tree) text.facts text.layout c.in_ok-text.ensures.laid c.in_ok-text.ensures.fits in
    omega (arith, few, c.len-globals.ensures)

pub levels-requires : goal.levels-requires
levels-requires c =
    let core = c.in_ok-list.list.ops.items in
    let all = few_operations core in
    let small = c.in_ok-list.ensures.small in
    record { small = subst (λ (ops : List CoreOp). length ops < 2 ^ 31) (sym c.deref-2.ensures.value) (omega (arith, all, small)) }

pub generate-requires-clause-list : goal.generate-requires-clause-list
generate-requires-clause-list c =
    let list = c.in_ok-list.list in
    let kept = c.in_ok-kept.kept in
    let saved = c.in_ok-saved.saved in
    let layout = c.in_ok-text.text.layout in
    let leads = c.in_ok-list.ensures.list.code.leads_on in
    let are = are_levels _ list.ops.items c.deref-2.result.now c.levels.result c.map_err.result saved c.deref-2.ensures.value c.levels.ensures c.map_err.ensures.cases c.in_ok-saved.was in
    let generable =
    subst (λ (firsts : List ℕ). IsGenerable list.ops.items kept.items saved.items list.main firsts) c.deref.ensures.value
    (c.in_ok-kept.ensures.generable leads saved.items are) in
    is_generable list.ops.items c.deref-3.result.now kept.items c.deref-4.result.now saved.items c.deref-5.result.now list.main layout.firsts.items c.deref-6.result.now
    c.deref-3.ensures.value c.deref-4.ensures.value c.deref-5.ensures.value c.deref-6.ensures.value generable

pub generate-requires-clause-small : goal.generate-requires-clause-small
generate-requires-clause-small c =
    subst (λ (ops : List CoreOp). sum_by most_words ops ≤ 256000) (sym c.deref-3.ensures.value) c.in_ok-list.ensures.small

pub returns-clause-rows : goal.returns-clause-rows
returns-clause-rows c =
    let text = c.in_ok-text.text in
    record {
      laid = record { tree = program_of text.tree; facts = text.facts; checked = c.in_ok-text.ensures.checked; fits = c.in_ok-text.ensures.fits };
      are = c.in_ok-text.ensures.laid.rows;
    }

abbrev image_of : goal.After-drop-text-6 → Image
image_of c = record { code = c.in_ok-code.code.words; globals = c.in_ok-text.text.layout.words; sites = c.in_ok-sites.sites; commits = c.in_ok-code.code.commits }

-- the code and the table of sites, of which the image is put together
put_together : (c : goal.After-drop-text-6)
    → IsPutTogether (program_of c.in_ok-text.text.tree) c.in_ok-text.text.facts c.in_ok-text.text.layout c.in_ok-text.ensures.laid c.in_ok-text.ensures.fits c.in_ok-list.list.ops.items c.in_ok-kept.kept.items
    c.in_ok-saved.saved.items c.in_ok-list.list.main c.in_ok-code.code (image_of c)
put_together c =
    let layout = c.in_ok-text.text.layout in
    let list = c.in_ok-list.list in
    let code = c.in_ok-code.code in
    let kept = c.in_ok-kept.kept in
    let saved = c.in_ok-saved.saved in
    let law = passed _ _ c.generate.result c.map_err-2.result code c.generate.ensures.group_law c.map_err-2.ensures.cases c.in_ok-code.was in
    let whole = passed _ _ c.generate.result c.map_err-2.result code c.generate.ensures.whole c.map_err-2.ensures.cases c.in_ok-code.was in
    record {
      list = c.in_ok-list.ensures.list;
      grouped =
          subst (λ (firsts : List ℕ). IsGrouped list.ops.items list.main (length firsts)) (sym c.in_ok-text.ensures.laid.firsts) c.in_ok-list.ensures.grouped;
      held = subst (λ (firsts : List ℕ). HasFrames list.ops.items kept.items list.main (length firsts)) c.deref.ensures.value c.in_ok-kept.ensures.held;
      least = c.in_ok-kept.ensures.least;
      levels =
          are_levels _ list.ops.items c.deref-2.result.now c.levels.result c.map_err.result saved c.deref-2.ensures.value c.levels.ensures c.map_err.ensures.cases c.in_ok-saved.was;
      law =
          gives_still GivesGroupLaw list.ops.items c.deref-3.result.now kept.items c.deref-4.result.now saved.items c.deref-5.result.now list.main layout.firsts.items c.deref-6.result.now
          (vec_len layout.words) c.len-globals.result code c.deref-3.ensures.value c.deref-4.ensures.value c.deref-5.ensures.value c.deref-6.ensures.value
          c.len-globals.ensures law;
      whole =
          gives_still GivesWholeCode list.ops.items c.deref-3.result.now kept.items c.deref-4.result.now saved.items c.deref-5.result.now list.main layout.firsts.items c.deref-6.result.now
          (vec_len layout.words) c.len-globals.result code c.deref-3.ensures.value c.deref-4.ensures.value c.deref-5.ensures.value c.deref-6.ensures.value
          c.len-globals.ensures whole;
      table = passed _ _ c.generate.result c.map_err-2.result code c.generate.ensures.table c.map_err-2.ensures.cases c.in_ok-code.was;
      some = passed _ _ c.generate.result c.map_err-2.result code c.generate.ensures.some c.map_err-2.ensures.cases c.in_ok-code.was;
      few = passed _ _ c.generate.result c.map_err-2.result code c.generate.ensures.few c.map_err-2.ensures.cases c.in_ok-code.was;
      has_code = refl;
      has_commits = refl;
      has_globals = refl;
      has_sites =
          passed _ _ c.site_table.result c.map_err-3.result c.in_ok-sites.sites c.site_table.ensures c.map_err-3.ensures.cases c.in_ok-sites.was
          ∙ ap (λ (all : List Site). map in_table all) c.deref-7.ensures.value;
      firsts_are_words = subst (λ (ws : List ℕ). All (λ w. w < 2 ^ 32) ws) c.deref-8.ensures.value c.are_words.ensures;
      globals_are_words = subst (λ (ws : List ℕ). All (λ w. w < 2 ^ 32) ws) c.deref-9.ensures.value c.are_words-2.ensures;
    }

pub returns-clause-faithful : goal.returns-clause-faithful
returns-clause-faithful c =
    let text = c.in_ok-text.text in
    let tree = program_of text.tree in
    let list = c.in_ok-list.list in
    record {
      short = c.in_ok-text.ensures.short;
      program = tree;
      facts = text.facts;
      checked = c.in_ok-text.ensures.checked;
      fits = c.in_ok-text.ensures.fits;
      faithful =
          is_faithful tree text.facts list.ops.items list.main (image_of c) c.machines_follow_trees.ensures c.programs_are_followed.ensures
          (is_compiled tree text.facts text.layout c.in_ok-text.ensures.laid c.in_ok-text.ensures.fits list.ops.items c.in_ok-kept.kept.items c.in_ok-saved.saved.items list.main c.in_ok-code.code
          (image_of c) (put_together c) c.steps_find_values.ensures);
    }

pub returns-clause-events : goal.returns-clause-events
returns-clause-events c =
    let text = c.in_ok-text.text in
    let list = c.in_ok-list.list in
    record {
      program = program_of text.tree;
      facts = text.facts;
      checked = c.in_ok-text.ensures.checked;
      told =
          tells_events (program_of text.tree) text.facts text.layout c.in_ok-text.ensures.laid c.in_ok-text.ensures.fits list.ops.items c.in_ok-kept.kept.items c.in_ok-saved.saved.items list.main
          c.in_ok-code.code (image_of c) (put_together c);
    }

pub kept_words-requires : goal.kept_words-requires
kept_words-requires c =
    let list = c.in_ok-list.list in
    subst (λ (firsts : List ℕ). IsGrouped list.ops.items list.main (length firsts)) (sym (c.deref.ensures.value ∙ c.in_ok-text.ensures.laid.firsts))
    c.in_ok-list.ensures.grouped
