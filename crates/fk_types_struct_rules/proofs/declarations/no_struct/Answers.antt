use Rattle.std.proofs.Common.{◌≡◌, ℕ, Bool, true, not, Option, Some, None, is_some, true≢false, refl, sym, ap, ◌∙◌}
use Rattle.fk_syntax.specs.View.{named, base_of, type_of}
use Rattle.fk_types_structs.specs.Whole.{structs_in}
use Rattle.fk_types_struct_rules.proofs.DeclarationLemmas.{NamesNoStruct-so}
use Rattle.fk_types_struct_rules.proofs.declarations.no_struct.Goals as goal

is_None : (o : Option ℕ) (b : Bool) → is_some o ≡ not b → b ≡ true → o ≡ None
is_None None b e t = refl
is_None (Some x) b e t = absurd (true≢false (e ∙ ap not t))

pub returns-in-Struct : goal.returns-in-Struct
returns-in-Struct c =
    NamesNoStruct-so (structs_in c.args.structs.now) (type_of c.args.kind.now) (named c.in-Struct.name) (ap base_of c.in-Struct.is)
    (sym c.find.ensures ∙ is_None c.find.result c.is_none.result c.is_none.ensures c.if-is_none.true)
