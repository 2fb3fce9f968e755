use Rattle.std.proofs.Common.{ℕ, Option, sym, ap, subst, ◌∙◌}
use Rattle.fk_types_structs.specs.Whole.{structs_in}
use Rattle.fk_types_operators.specs.declared.values.Value.{Value}
use Rattle.fk_types_operators.specs.Values.{value_held}
use Rattle.fk_types_rules.specs.Kinds.{IsPlainKind, IsStoredKind}
use Rattle.fk_types_kinds.proofs.kind.kind_of_stored.Goals as goal

pub returns-in-None : goal.returns-in-None
returns-in-None c =
    let stored = c.args.stored.now in
    let value = c.value.ensures ∙ ap (value_held stored.root stored.stars) c.in-None.is in
    subst (λ (length : Option ℕ). IsStoredKind (structs_in c.args.structs.now) c.args.stored.now length c.kind_of_plain.result) (sym c.in-None.is)
    (subst (λ (v : Option Value). IsPlainKind (structs_in c.args.structs.now) c.args.stored.now v c.kind_of_plain.result) value c.kind_of_plain.ensures)
