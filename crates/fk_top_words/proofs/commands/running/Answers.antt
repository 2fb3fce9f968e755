use Rattle.std.proofs.Common.{[], ◌∷◌}
use Rattle.fk_top_words.specs.Arguments.{File, Harts, Cycles}
use Rattle.fk_top_words.specs.Written.{leaf, list_parts, written}
use Rattle.fk_top_words.proofs.commands.running.Goals as goal

pub returns : goal.returns
returns c =
    let name = c.args.name.now in
    c.taking.ensures (leaf name (File ∷ Harts ∷ [])) (written Cycles) c.option-2.ensures.rule
    (c.taking-harts.ensures (leaf name list_parts) (written Harts) c.option.ensures.rule c.reading-reading.ensures)
