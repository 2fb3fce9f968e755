use Rattle.fk_syntax.specs.View.{tree_of}
use Rattle.fk_syntax.specs.ProgramView.{declared_of}
use Rattle.fk_check_rules.proofs.LeastLemmas.{IsLeast-either}
use Rattle.fk_types_judgments.specs.Term.{term_of}
use Rattle.fk_types_forms.specs.Scope.{env_in}
use Rattle.fk_types_rules.specs.Constant.{ConstantBreaks}
use Rattle.fk_types_rules.specs.Pieces.{InitialBreaks}
use Rattle.fk_types_checker.proofs.values.file_initial_fault.Goals as goal

pub returns : goal.returns
returns c = λ is.
    let E = env_in c.args.scope.now in
    let term = term_of (tree_of c.args.value.now) in
    IsLeast-either (InitialBreaks E (declared_of c.args.variable.now) term) (ConstantBreaks E term) c.initial_fault-initial.result c.constant_fault.result c.first_of.result
    (c.initial_fault-initial.ensures term is) (c.constant_fault.ensures is) c.first_of.ensures
