use Rattle.std.proofs.Common.{ap}
use Rattle.std.proofs.lemmas.Bool.Decides.{Decides-eqb}
use Rattle.fk_syntax.specs.View.{named, base_of}
use Rattle.fk_types_struct_rules.proofs.declarations.is_struct.Goals as goal

pub returns-in-Struct : goal.returns-in-Struct
returns-in-Struct c =
    let test = Decides-eqb c.args.kind.now.stars 0 in
    (λ e. (named c.in-Struct.field-0, ap base_of c.in-Struct.is, test.0 e), λ h. test.1 h.2)
