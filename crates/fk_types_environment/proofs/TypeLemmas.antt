-- What is declared has a type where its declaration isn't broken.
use Rattle.std.proofs.Common.{◌≡◌, ℕ, inl, List, Option, Some, None, refl, sym}
use Rattle.std.specs.Option.{option_map}
use Rattle.std.proofs.lemmas.Option.{none-some}
use Rattle.fk_syntax.specs.declared.place.Place.{Place}
use Rattle.fk_syntax.specs.Tree.{Named, BaseType, TypeTree}
use Rattle.fk_syntax.specs.Tree as t
use Rattle.fk_syntax.specs.Program.{DeclaredTree, FunctionTree}
use Rattle.fk_check_rules.specs.declared.rule.Rule.{Rule}
use Rattle.fk_check_rules.specs.declared.rule.Rule.TheVariants as rules
use Rattle.fk_check_rules.specs.declared.fault.Fault.{Fault}
use Rattle.fk_check_rules.specs.Least.{Breaks, IsLeast, only}
use Rattle.fk_types_structs.specs.declared.types.Root.{Root}
use Rattle.fk_types_structs.specs.declared.types.Root.TheVariants as r
use Rattle.fk_types_structs.specs.declared.types.DataType.{DataType}
use Rattle.fk_types_structs.specs.Types.{StructTree, struct_named, root_of, type_spelled, type_declared}
use Rattle.fk_types_struct_rules.specs.Declarations.{NamesNoStruct, DeclarationBreaks, ParameterBreaks, ResultBreaks}
use Rattle.fk_types_judgments.specs.Names.{HasDeclaredType}
use Rattle.fk_types_environment.specs.Types.{HasVariableType, HasParameterType, HasResultType}

-- a type that isn't there names a struct that isn't declared
map-none : {A B : Type 0} (f : A → B) (o : Option A) → option_map f o ≡ None → o ≡ None
map-none f None e = refl
map-none f (Some x) e = absurd (none-some (f x) (sym e))

module _ (structs : List StructTree) where
  no_root : (base : BaseType) → root_of structs base ≡ None → (name : Named) × (base ≡ t.Struct name) × (struct_named structs name.bytes ≡ None)
  no_root t.Int e = absurd (none-some r.Int (sym e))
  no_root t.Unsigned e = absurd (none-some r.Unsigned (sym e))
  no_root t.Void e = absurd (none-some r.Void (sym e))
  no_root (t.Struct name) e = (name, refl, map-none r.Struct (struct_named structs name.bytes) e)

  no_type : (type : TypeTree) (length : Option ℕ) → type_spelled structs type length ≡ None → (place : Place) × only rules.NoStruct (NamesNoStruct structs type) place rules.NoStruct
  no_type type length e =
      let with_root : Root → DataType = λ root. record { root = root; stars = type.stars; length = length } in
      let root : root_of structs type.base ≡ None = map-none with_root (root_of structs type.base) e in
      let found = no_root type.base root in
      (found.0.place, (refl, (found.0, found.1, found.2, refl)))

  no_variable : (declared : DeclaredTree) → type_declared structs declared ≡ None → (place : Place) × (rule : Rule) × DeclarationBreaks structs declared place rule
  no_variable declared e = let b = no_type declared.kind declared.length e in (b.0, rules.NoStruct, inl b.1)

  no_parameter : (parameter : DeclaredTree) → type_declared structs parameter ≡ None → (place : Place) × (rule : Rule) × ParameterBreaks structs parameter place rule
  no_parameter parameter e = let b = no_variable parameter e in (b.0, b.1, inl b.2)

  no_result : (function : FunctionTree) → type_spelled structs function.result None ≡ None → (place : Place) × (rule : Rule) × ResultBreaks structs function.result function.name.place place rule
  no_result function e = let b = no_type function.result None e in (b.0, rules.NoStruct, inl b.1)

  -- a broken declaration, and one that isn't
  pub type-broken : (broken : Breaks) (spelled : Option DataType) (fault : Fault) → IsLeast broken (Some fault) → HasDeclaredType structs broken spelled None
  type-broken broken spelled fault least = (fault.place, fault.rule, least.0)

  type-kept : (broken : Breaks) (spelled : Option DataType) → (spelled ≡ None → (place : Place) × (rule : Rule) × broken place rule) → IsLeast broken None → HasDeclaredType structs broken spelled spelled
  type-kept broken None none least = none refl
  type-kept broken (Some type) none least = (refl, least)

  pub variable-kept : (declared : DeclaredTree) → IsLeast (DeclarationBreaks structs declared) None → HasVariableType structs declared (type_declared structs declared)
  variable-kept declared least = type-kept (DeclarationBreaks structs declared) (type_declared structs declared) (no_variable declared) least

  pub parameter-kept : (parameter : DeclaredTree) → IsLeast (ParameterBreaks structs parameter) None → HasParameterType structs parameter (type_declared structs parameter)
  parameter-kept parameter least = type-kept (ParameterBreaks structs parameter) (type_declared structs parameter) (no_parameter parameter) least

  pub result-kept : (function : FunctionTree) → IsLeast (ResultBreaks structs function.result function.name.place) None → HasResultType structs function (type_spelled structs function.result None)
  result-kept function least = type-kept (ResultBreaks structs function.result function.name.place) (type_spelled structs function.result None) (no_result function) least
