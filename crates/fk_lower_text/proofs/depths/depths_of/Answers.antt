-- With room for just the depths of a text all are told.
use Rattle.std.proofs.Common.{◌≡◌, List, map, None, refl, sym, ◌∙◌, arith}
use Rattle.std.proofs.lemmas.List.{at_drop_all}
use Rattle.fk_syntax.specs.declared.program.Item.{Item}
use Rattle.fk_syntax.specs.ProgramView.{item_of}
use Rattle.fk_meaning_forms.specs.Program.{functions_of}
use Rattle.fk_layout_walk_statements.specs.Texts.{functions_in}
use Rattle.fk_lower_text.specs.declared.depths.Depths.{Depths}
use Rattle.fk_lower_text.specs.Height.{high}
use Rattle.fk_lower_text.specs.Telling.{through_functions}
use Rattle.fk_lower_text.proofs.Deep.{each, all_told}
use Rattle.fk_lower_text.proofs.depths.depths_of.Goals as goal

pub returns-clause-depths : goal.returns-clause-depths
returns-clause-depths c w few =
    let known = c.args.known.now in
    let fs = functions_in known in
    let last = c.loop-item.depths in
    let first : Depths = record { told = c.in-Ok.told; filled = 0; height = high 0 None } in
    let e : last ≡ through_functions known first fs =
    sym (at_drop_all (λ (l : List Item). through_functions known last (functions_of (map item_of l))) known.items.now c.loop-item.item-index c.loop-item-test.false)
    ∙ c.loop-item.invariant in
    let n = c.requires.counted in
    let m = c.in-Ok.ensures.len in
    all_told known fs w (omega (arith, few, each known fs)) first last e refl (omega (arith, few, n, m, each known fs))
