-- A fault that is told where a test is true is told where what the test says holds.
use Rattle.std.proofs.Common.{◌↔◌, Bool, IsTrue, Option}
use Rattle.fk_syntax.specs.declared.place.Place.{Place}
use Rattle.fk_check_rules.specs.declared.rule.Rule.{Rule}
use Rattle.fk_check_rules.specs.declared.fault.Fault.{Fault}
use Rattle.fk_check_rules.specs.Least.{IsLeast}
use Rattle.fk_check_rules.specs.Told.{told}
use Rattle.fk_check_rules.proofs.LeastLemmas.{IsLeast-same}

pub told_where : (rule : Rule) (here : Place) (b : Bool) (P : Type 0) → (IsTrue b ↔ P) → (r : Option Fault) → IsLeast (told rule here (IsTrue b)) r → IsLeast (told rule here P) r
told_where rule here b P same r l = IsLeast-same (told rule here (IsTrue b)) (told rule here P)
    (λ place broken h. (h.0, (same.0 h.1.0, h.1.1))) (λ place broken h. (h.0, (same.1 h.1.0, h.1.1))) r l
