use Rattle.fk_syntax.specs.View.{tree_of}
use Rattle.fk_types_judgments.specs.Term.{term_of}
use Rattle.fk_types_forms.specs.Scope.{env_in}
use Rattle.fk_types_checker.proofs.judge.used_fault.Goals as goal

pub returns : goal.returns
returns c =
    let read = c.expression-part.ensures in
    record {
      least = c.role_fault.ensures (env_in c.args.scope.now) (term_of (tree_of c.args.value.now)) read.is;
      types = read.types;
    }
