use Rattle.std.proofs.Common.{List, sym, ap, ◌∙◌}
use Rattle.fk_syntax.specs.Program.{ItemTree}
use Rattle.fk_meaning_forms.specs.Program.{functions_of, main_in}
use Rattle.fk_layout_walk.specs.Known.{tables_of}
use Rattle.fk_lower.specs.Written.{entry_of}
use Rattle.fk_compile.proofs.list.lowered.Goals as goal

pub returns-in-Ok-clause-list : goal.returns-in-Ok-clause-list
returns-in-Ok-clause-list c = λ program lowerable.
    let known = c.args.known.now in
    let entries = c.in-Ok.lowered.entries in
    record {
      entry = entry_of entries.of_bindings.items entries.end;
      flat = (c.in-Ok.ensures.program program lowerable).flat;
      code = (c.in-Ok.ensures.program program lowerable).code;
      begins =
          c.entry_of_main-main.ensures
          ∙ ap (λ (items : List ItemTree). entry_of entries.of_bindings.items entries.end (main_in (tables_of known) (functions_of items))) (sym lowerable.items);
    }
