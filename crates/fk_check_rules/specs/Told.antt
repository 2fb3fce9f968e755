-- A rule that is broken at one place if a fact holds.
use Rattle.std.specs.Prelude.{◌≡◌}
use Rattle.fk_syntax.specs.declared.place.Place.{Place}
use Rattle.fk_check_rules.specs.declared.rule.Rule.{Rule}
use Rattle.fk_check_rules.specs.Least.{Breaks, only}

abbrev pub told : Rule → Place → Type 0 → Breaks
told forbidden here P = only forbidden (λ place. P × (place ≡ here))
