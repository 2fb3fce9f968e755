use Rattle.std.proofs.Common.{refl}
use Rattle.std.proofs.lemmas.Bool.{ltb-true, lt-ltb, false≢true}
use Rattle.fk_types_structs.specs.Whole.{structs_in}
use Rattle.fk_types_struct_rules.proofs.DeclarationLemmas.{IsTooLarge-words, IsTooLarge-so}
use Rattle.fk_types_struct_rules.proofs.declarations.is_too_large.Goals as goal

pub returns-in-Some : goal.returns-in-Some
returns-in-Some c =
    let structs = structs_in c.args.structs.now in
    let x = c.in-Some.ensures.some in (
      λ e. IsTooLarge-so structs c.args.kind.now c.in-Some.words x.0 x.1 x.2 (ltb-true 524288 c.in-Some.words e),
      λ h. lt-ltb 524288 c.in-Some.words (IsTooLarge-words structs c.args.kind.now c.in-Some.words x.0 x.1 x.2 h),
    )

pub returns-in-None : goal.returns-in-None
returns-in-None c = (λ e. absurd (false≢true e), λ h. absurd (c.in-None.ensures.none refl h.0 h.1))
