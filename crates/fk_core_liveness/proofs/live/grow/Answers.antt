use Rattle.std.proofs.Common.{◌∙◌, ap}
use Rattle.std.specs.Prelude.{◌||◌}
use Rattle.fk_core_liveness.specs.Sets.{is_in}
use Rattle.fk_core_liveness.specs.Live.{words_in}
use Rattle.fk_core_liveness.proofs.Asked.{kept_there, grown_least}
use Rattle.fk_core_liveness.proofs.live.grow.Goals as goal

pub returns-clause-least : goal.returns-clause-least
returns-clause-least c =
    let sets = c.args.live.now in
    grown_least c.args.ops.now sets c.args.index c.union-new.result c.requires
    (λ word. c.union-new.ensures.both word
    ∙ ap (λ a. a || is_in c.asked.result.mask word) (kept_there sets c.args.index _ c.requires word)
    ∙ ap (λ b. words_in sets c.args.index word || b) (c.asked.ensures word))
