use Rattle.std.proofs.Common.{sym, subst}
use Rattle.fk_types_references.specs.View.{reference_of}
use Rattle.fk_types_bindings.specs.Known.{IsTold}
use Rattle.fk_types_bindings.proofs.known.TypedProgram.number.Goals as goal

pub returns-in-Name : goal.returns-in-Name
returns-in-Name c = λ env program known. subst (λ r. IsTold env program (reference_of r) c.meant.result) (sym c.in-Name.is) (c.meant.ensures env program known)

pub returns-in-Member : goal.returns-in-Member
returns-in-Member c = λ env program known. subst (λ r. IsTold env program (reference_of r) c.words_before.result) (sym c.in-Member.is) (c.words_before.ensures env program known)

pub returns-in-Size : goal.returns-in-Size
returns-in-Size c = λ env program known. subst (λ r. IsTold env program (reference_of r) c.size.result) (sym c.in-Size.is) (c.size.ensures env program c.in-Size.field-0 known)
