use Rattle.std.proofs.Common.{◌≡◌, Some, sym}
use Rattle.std.proofs.lemmas.Bool.{false≢true}
use Rattle.fk_syntax.specs.ProgramView.{declared_of}
use Rattle.fk_types_structs.specs.Types.{type_declared}
use Rattle.fk_types_structs.specs.Whole.{structs_in}
use Rattle.fk_types_struct_rules.proofs.DeclarationLemmas.{HasLargeType-type}
use Rattle.fk_types_struct_rules.proofs.declarations.has_large_type.Goals as goal

pub returns-then-is_small : goal.returns-then-is_small
returns-then-is_small c = (λ e. absurd (false≢true e), λ h. absurd (c.is_small.ensures c.if-is_small.true (structs_in c.args.structs.now) h))

pub returns-in-Some : goal.returns-in-Some
returns-in-Some c =
    let structs = structs_in c.args.structs.now in
    let declared = declared_of c.args.declared.now in
    let is : type_declared structs declared ≡ Some c.in-Some.kind = sym c.in-Some.ensures in (
      λ e. (c.in-Some.kind, is, c.is_too_large.ensures.0 e),
      λ h. c.is_too_large.ensures.1 (HasLargeType-type structs declared c.in-Some.kind is h),
    )
