use Rattle.std.proofs.Common.{refl, ◌∙◌}
use Rattle.fk_types_forms.proofs.PartLemmas.{least-same, both-same, operand-of}
use Rattle.fk_types_rules.specs.Pieces.{is_not_converted}
use Rattle.fk_types_checker.proofs.values.conversion_fault.Goals as goal

pub returns : goal.returns
returns c = λ env term is. least-same _ _ _ _ _ _ c.fault_if.ensures refl
    (c.is_not_converted-is_wrong.ensures ∙ both-same is_not_converted _ _ _ _ (c.operand.ensures ∙ operand-of env term c.args.part.now is) c.scalar.ensures)
