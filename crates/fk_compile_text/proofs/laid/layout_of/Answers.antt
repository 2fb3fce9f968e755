use Rattle.std.proofs.Common.{List, map, sym, subst}
use Rattle.fk_syntax.specs.declared.program.Item.{Item}
use Rattle.fk_syntax.specs.ProgramView.{item_of, program_of}
use Rattle.fk_layout.specs.Layout.{tables_by}
use Rattle.fk_compile_text.specs.Refusal.{IsOfFunction, TellsFault}
use Rattle.fk_compile_text.proofs.Large.{of_function, refused_by}
use Rattle.fk_compile_text.proofs.laid.layout_of.Goals as goal

pub refusal_by-requires : goal.refusal_by-requires
refusal_by-requires c =
    let tree = program_of c.args.text.now.tree in
    subst (λ (items : List Item). IsOfFunction (map item_of items) c.in-Err.fault) (sym c.deref.ensures.value)
    (of_function (tables_by tree c.args.text.now.facts) tree.items c.in-Err.fault c.in-Err.ensures.refused)

pub returns-in-Err-clause-refused : goal.returns-in-Err-clause-refused
returns-in-Err-clause-refused c = λ source short checked.
    let tree = program_of c.args.text.now.tree in
    let told = subst (λ (items : List Item). TellsFault (map item_of items) c.in-Err.fault c.refusal_by.result) c.deref.ensures.value c.refusal_by.ensures in
    refused_by source tree c.args.text.now.facts short checked c.in-Err.fault c.refusal_by.result c.in-Err.ensures.refused told
