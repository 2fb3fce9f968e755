-- What functions declare.
use Rattle.std.proofs.Common.{◌≡◌, Bool, true, false, List, Option, map, codes, refl, ap, subst}
use Rattle.std.specs.Prelude.{if◌then◌else◌}
use Rattle.std.specs.Option.{option_map}
use Rattle.std.specs.List.{AllZip}
use Rattle.std.proofs.lemmas.Slice.Zip.{AllZip-long}
use Rattle.fk_syntax.specs.Program.{FunctionTree}
use Rattle.fk_types_structs.specs.declared.types.DataType.{DataType}
use Rattle.fk_types_structs.specs.Types.{StructTree}
use Rattle.fk_types_names.specs.Outline.{Header}
use Rattle.fk_types_operators.specs.Values.{result_of}
use Rattle.fk_types_judgments.specs.Names as n
use Rattle.fk_types_judgments.specs.Names.{Meant, IsSignature, is_text}
use Rattle.fk_types_forms.specs.declared.names.Signature.{Signature}
use Rattle.fk_types_forms.specs.declared.names.Entity.TheVariants as k
use Rattle.fk_types_environment.specs.Types.{HasParameterType, HasResultType}
use Rattle.fk_types_environment.specs.Known.{HasSignature, IsKnown}
use Rattle.fk_types_environment.proofs.ListLemmas.{zip-both}

-- what a function is, as its name is `main` or not
abbrev meant_if : List (Option DataType) → Option DataType → Bool → Meant
meant_if parameters type is_main = if is_main then n.Main else n.Called (map n.Typed parameters) (n.Always (option_map result_of type))

module _ (structs : List StructTree) (function : FunctionTree) where
  pub signature-of : (parameters : List (Option DataType)) (type : Option DataType) → AllZip (HasParameterType structs) function.parameters parameters → HasResultType structs function type → IsSignature structs function parameters type
  signature-of parameters type all gives = record {
    same = AllZip-long (HasParameterType structs) function.parameters parameters all;
    each = λ i p t here there. zip-both (HasParameterType structs) function.parameters parameters all i p t here there;
    gives = gives;
  }

  pub known-main : (signature : Signature) → HasSignature structs function signature → true ≡ is_text function.name.bytes (codes "main") → IsKnown structs (Header function) k.Main
  known-main signature h main = (
    signature.parameters.items,
    h.type,
    h.right,
    subst (λ b. n.Main ≡ meant_if signature.parameters.items h.type b) main refl,
  )

  pub known-other : (signature : Signature) → HasSignature structs function signature → false ≡ is_text function.name.bytes (codes "main") → IsKnown structs (Header function) (k.Function signature)
  known-other signature h other = (
    signature.parameters.items,
    h.type,
    h.right,
    subst (λ b. n.Called (map n.Typed signature.parameters.items) (n.Always signature.result) ≡ meant_if signature.parameters.items h.type b) other
        (ap (λ gives. n.Called (map n.Typed signature.parameters.items) (n.Always gives)) h.gives),
  )
