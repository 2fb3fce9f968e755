use Rattle.std.proofs.Common.{sym, subst}
use Rattle.fk_types_structs.specs.Whole.{structs_in}
use Rattle.fk_types_operators.specs.declared.values.Value.{Value}
use Rattle.fk_types_rules.specs.Kinds.{IsValueKind}
use Rattle.fk_types_kinds.proofs.kind.kind_of_value.Goals as goal

pub returns-in-Pointer : goal.returns-in-Pointer
returns-in-Pointer c = subst (λ (v : Value). IsValueKind (structs_in c.args.structs.now) v c.word-in-Pointer.result) (sym c.in-Pointer.is) (c.step.result, c.step.ensures, c.word-in-Pointer.ensures)
