use Rattle.std.proofs.Common.{map, subst}
use Rattle.std.specs.List.{AllZip}
use Rattle.fk_syntax.specs.ProgramView.{declared_of, function_of}
use Rattle.fk_types_structs.specs.Whole.{structs_in}
use Rattle.fk_types_environment.specs.Types.{HasParameterType}
use Rattle.fk_types_environment.proofs.KnownLemmas.{signature-of}
use Rattle.fk_types_environment.proofs.declarations.signature.Goals as goal

pub returns : goal.returns
returns c =
    let structs = structs_in c.args.structs.now in
    let parameters = subst (λ xs. AllZip (HasParameterType (structs_in c.args.structs.now)) (map declared_of xs) c.in_ok-parameters.parameters.items) c.deref.ensures.value c.in_ok-parameters.ensures in
    record {
      type = c.result_type.result;
      right = signature-of structs (function_of c.args.function.now) c.in_ok-parameters.parameters.items c.result_type.result parameters c.result_type.ensures;
      gives = c.given-gives.ensures;
    }
