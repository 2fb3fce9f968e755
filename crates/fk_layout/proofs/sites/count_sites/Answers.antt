use Rattle.std.proofs.Common.{◌∙◌, ap}
use Rattle.fk_layout_walk.specs.declared.tally.Tally.{Tally}
use Rattle.fk_layout.proofs.Counted.{text_counted}
use Rattle.fk_layout.proofs.sites.count_sites.Goals as goal

pub returns : goal.returns
returns c = ap (λ (tally : Tally). tally.count) c.text.ensures ∙ text_counted c.args.known.now
