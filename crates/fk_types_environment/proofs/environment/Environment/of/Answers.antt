use Rattle.std.proofs.Common.{map, subst}
use Rattle.std.specs.List.{AllZip}
use Rattle.fk_types_structs.specs.Whole.{structs_in}
use Rattle.fk_types_names.specs.View.{declaration_of}
use Rattle.fk_types_environment.specs.Known.{IsKnown}
use Rattle.fk_types_environment.proofs.MeaningLemmas.{right-env}
use Rattle.fk_types_environment.proofs.environment.Environment.of.Goals as goal

pub returns : goal.returns
returns c = λ program same are.
    let known = subst (λ ds. AllZip (IsKnown (structs_in c.args.structs.now)) (map declaration_of ds) c.in_ok-known.known.items) c.deref.ensures.value c.in_ok-known.ensures in
    right-env program c.args.structs.now c.args.names.now c.in_ok-known.known.items c.in_ok-members.members.items same are known c.in_ok-members.ensures
