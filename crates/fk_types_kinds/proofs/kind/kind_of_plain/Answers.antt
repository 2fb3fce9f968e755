use Rattle.std.proofs.Common.{Option, sym, subst}
use Rattle.fk_types_structs.specs.Whole.{structs_in}
use Rattle.fk_types_operators.specs.declared.values.Value.{Value}
use Rattle.fk_types_rules.specs.Kinds.{IsPlainKind}
use Rattle.fk_types_kinds.proofs.kind.kind_of_plain.Goals as goal

pub returns-in-None : goal.returns-in-None
returns-in-None c = subst (λ (v : Option Value). IsPlainKind (structs_in c.args.structs.now) c.args.stored.now v c.plain.result) (sym c.in-None.is) (c.words.result, c.words.ensures.words, c.plain.ensures)
