use Rattle.fk_types_environment.proofs.MeaningLemmas.{env_with-same}
use Rattle.fk_types_environment.proofs.environment.Environment.scope.Goals as goal

pub returns-clause-env : goal.returns-clause-env
returns-clause-env c = env_with-same c.args.structs.now c.args.names.now c.deref.result.now c.args.self.now.known.items c.deref-2.result.now c.args.self.now.members.items c.deref.ensures.value c.deref-2.ensures.value
