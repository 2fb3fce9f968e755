use Rattle.std.proofs.Common.{sym, ◌∙◌, subst}
use Rattle.fk_core_levels.specs.Levels.{IsSettling}
use Rattle.fk_core_levels.proofs.Settling.{told_settles}
use Rattle.fk_core_levels.proofs.pass.levels.Goals as goal

pub settle-requires : goal.settle-requires
settle-requires c =
    record { settling = subst (IsSettling c.args.ops.now) (sym (c.deref_mut.ensures.value ∙ c.in_ok-saved.ensures)) (told_settles c.args.ops.now) }
