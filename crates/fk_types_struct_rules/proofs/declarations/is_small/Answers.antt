use Rattle.std.proofs.Common.{Bool, true, false, not, IsTrue}
use Rattle.std.proofs.lemmas.Bool.{false≢true}
use Rattle.fk_syntax.specs.ProgramView.{declared_of}
use Rattle.fk_types_struct_rules.proofs.DeclarationLemmas.{HasLargeType-small}
use Rattle.fk_types_struct_rules.proofs.declarations.is_small.Goals as goal

not_both : (b : Bool) → IsTrue (not b) → IsTrue b → ⊥
not_both true e t = false≢true e
not_both false e t = false≢true t

pub returns-in-Some : goal.returns-in-Some
returns-in-Some c = λ e. absurd (false≢true e)

pub returns-in-None : goal.returns-in-None
returns-in-None c = λ e structs.
    HasLargeType-small structs (declared_of c.args.declared.now) c.in-None.is (λ s. not_both c.is_struct.result e (c.is_struct.ensures.1 s))
