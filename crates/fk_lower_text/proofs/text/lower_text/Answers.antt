-- What lowering finds of a text follows from its blocks.
use Rattle.std.proofs.Common.{◌≡◌, map, ap, sym, ◌∙◌, subst, List, arith}
use Rattle.std.proofs.lemmas.Result.{err_from_is_err_and}
use Rattle.fk_layout_walk_statements.specs.Texts.{functions_in}
use Rattle.fk_lower.specs.Written.{entry_of}
use Rattle.fk_lower.specs.declared.block.Block.{Block}
use Rattle.fk_lower.specs.View.{part_of}
use Rattle.fk_lower.specs.Lowered.{AreMeasured}
use Rattle.fk_lower.specs.Depths.{AreTold}
use Rattle.fk_lower_text.specs.Depths.{depths_of}
use Rattle.fk_lower_text.specs.Laid.{codes_of}
use Rattle.fk_lower_text.proofs.Opened.{program_opened}
use Rattle.fk_lower_text.proofs.Deep.{sites_sized}
use Rattle.fk_lower_text.proofs.Laying.{shaped_in_blocks, has_program, has_its_runs}
use Rattle.fk_lower_text.proofs.Listed.{has_sites}
use Rattle.fk_lower_text.proofs.Refused.{only_memory, text_fault}
use Rattle.fk_lower_text.proofs.text.lower_text.Goals as goal

pub returns-clause-program : goal.returns-clause-program
returns-clause-program c program lowerable =
    let bodies = c.in_ok-bodies in
    let lowered = c.in_ok-lowered in
    let blocks = c.deref-blocks.result.now in
    let same : blocks ≡ bodies.bodies.blocks.items = cc in
    has_program c.args.known.now program lowerable c.requires.laid.up blocks (ap codes_of same ∙ bodies.ensures.codes) lowered.lowered.ops.items
    (entry_of lowered.lowered.entries.of_bindings.items lowered.lowered.entries.end) lowered.ensures.flat

pub returns-clause-runs : goal.returns-clause-runs
returns-clause-runs c program lowerable =
    let bodies = c.in_ok-bodies in
    let lowered = c.in_ok-lowered in
    let blocks = c.deref-blocks.result.now in
    let same : blocks ≡ bodies.bodies.blocks.items = cc in
    has_its_runs c.args.known.now program lowerable c.requires.laid.up blocks (ap codes_of same ∙ bodies.ensures.codes) lowered.lowered.ops.items
    (entry_of lowered.lowered.entries.of_bindings.items lowered.lowered.entries.end) lowered.ensures.flat

pub returns-clause-sites : goal.returns-clause-sites
returns-clause-sites c program lowerable =
    let bodies = c.in_ok-bodies in
    let lowered = c.in_ok-lowered in
    let blocks = c.deref-blocks.result.now in
    let same : blocks ≡ bodies.bodies.blocks.items = cc in
    has_sites c.args.known.now blocks (ap codes_of same ∙ bodies.ensures.codes) lowered.lowered.ops.items
    (entry_of lowered.lowered.entries.of_bindings.items lowered.lowered.entries.end) lowered.lowered.entries.end (shaped_in_blocks c.args.known.now program lowerable c.requires.laid.up blocks (ap codes_of same ∙ bodies.ensures.codes)) lowered.ensures.order

pub returns-clause-told : goal.returns-clause-told
returns-clause-told c program lowerable =
    let known = c.args.known.now in
    let can = c.requires.laid in
    let few = can.few in
    let own = c.in_ok-depths.ensures.depths (program_opened known program lowerable can.up) (omega (arith, few, sites_sized known (functions_in known))) in
    let same : c.deref.result.now ≡ depths_of known (functions_in known) = cc in
    subst (λ depths. AreTold depths c.in_ok-lowered.lowered.ops.items) same c.in_ok-lowered.ensures.told

pub returns-in_err-bodies-clause-refused : goal.returns-in_err-bodies-clause-refused
returns-in_err-bodies-clause-refused c =
    let p = err_from_is_err_and c.from_residual.result c.from_residual.ensures.1 in
    rw (p.1, p.2) (only_memory c.args.known.now c.in_err-bodies.field-0.0 c.in_err-bodies.ensures.refused)

pub returns-in_err-depths-clause-refused : goal.returns-in_err-depths-clause-refused
returns-in_err-depths-clause-refused c =
    let p = err_from_is_err_and c.from_residual-in_err-depths.result c.from_residual-in_err-depths.ensures.1 in
    rw (p.1, p.2) (only_memory c.args.known.now c.in_err-depths.field-0.0 c.in_err-depths.ensures.refused)

pub returns-in_err-lowered-clause-refused : goal.returns-in_err-lowered-clause-refused
returns-in_err-lowered-clause-refused c =
    let known = c.args.known.now in
    let bodies = c.in_ok-bodies in
    let blocks = c.deref-blocks.result.now in
    let same : blocks ≡ bodies.bodies.blocks.items = cc in
    let p = err_from_is_err_and c.from_residual-in_err-lowered.result c.from_residual-in_err-lowered.ensures.1 in
    rw (p.1, p.2)
    (text_fault known c.requires.laid blocks (ap codes_of same ∙ bodies.ensures.codes)
    (subst (λ (blocks : List Block). AreMeasured (map part_of blocks)) (sym same) bodies.ensures.measured)
    c.in_err-lowered.field-0.0 c.in_err-lowered.ensures.refused)
