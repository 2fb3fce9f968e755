use Rattle.std.proofs.Common.{sym, subst, ◌∙◌}
use Rattle.std.specs.Prelude.{Contains}
use Rattle.fk_types_names.specs.Means.{predeclared}
use Rattle.fk_types_name_rules.proofs.named.is_taken.Goals as goal

pub returns-then-depth-eq0 : goal.returns-then-depth-eq0
returns-then-depth-eq0 c =
    let here = sym c.depth.ensures ∙ c.if-depth-eq0.true in (
      λ e. (here, subst (Contains predeclared) c.name.ensures (c.is_predeclared.ensures.0 e)),
      λ h. c.is_predeclared.ensures.1 (subst (Contains predeclared) (sym c.name.ensures) h.1),
    )
