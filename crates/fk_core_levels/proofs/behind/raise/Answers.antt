use Rattle.std.proofs.Common.{◌≡◌, ap, sym, ◌∙◌, arith}
use Rattle.std.specs.Prelude.{slice_set}
use Rattle.fk_gen.specs.declared.placed.Levels.{Levels}
use Rattle.fk_core_levels.specs.Levels.{behind_in}
use Rattle.fk_core_levels.proofs.Raised.{raised_low, raised_new, raised_fewer}
use Rattle.fk_core_levels.proofs.behind.raise.Goals as goal

pub returns-then-old-words-clause-raised : goal.returns-then-old-words-clause-raised
returns-then-old-words-clause-raised c =
    let same : c.levels_at-old.result.behind ≡ behind_in c.args.saved.now c.args.index = ap (λ (l : Levels). l.behind) c.levels_at-old.ensures in
    sym (raised_low c.args.saved.now c.args.index c.args.words (omega (arith, same, c.if-old-words.true)))

pub returns-clause-raised : goal.returns-clause-raised
returns-clause-raised c =
    let same : c.levels_at-old.result.behind ≡ behind_in c.args.saved.now c.args.index = ap (λ (l : Levels). l.behind) c.levels_at-old.ensures in
    ap (λ (l : Levels). slice_set c.args.saved.now c.args.index (record l { behind = c.args.words })) c.levels_at-old.ensures
    ∙ raised_new c.args.saved.now c.args.index c.args.words c.requires.inside (omega (arith, same, c.if-old-words.false))

pub returns-clause-found : goal.returns-clause-found
returns-clause-found c is =
    let same : c.levels_at-old.result.behind ≡ behind_in c.args.saved.now c.args.index = ap (λ (l : Levels). l.behind) c.levels_at-old.ensures in
    raised_fewer c.args.saved.now c.args.index c.args.words c.levels_at-old.result.count c.levels_at-old.result.nest c.levels_at-old.result.fork c.requires.inside (omega (arith, same, c.if-old-words.false)) c.requires.few
