use Rattle.std.proofs.Common.{◌≡◌, Option, None, length, map, replicate, inl, inr, sym, ap, subst, refl, ◌∙◌, arith}
use Rattle.std.specs.Vec.{with_items}
use Rattle.std.proofs.lemmas.List.{with_items_is, length-replicate}
use Rattle.fk_syntax.specs.ProgramView.{item_of, program_of}
use Rattle.fk_check_rules.specs.declared.fault.Fault.{Fault}
use Rattle.fk_check_rules.specs.Least.{IsLeast}
use Rattle.fk_types_judgments.specs.Names.{Env}
use Rattle.fk_types_obligations.specs.Pieces.{items_pieces}
use Rattle.fk_types_forms.specs.Scope.{env_in}
use Rattle.fk_types_environment.specs.Environment.{env_of}
use Rattle.fk_types_rules.specs.Broken.{Broken}
use Rattle.fk_types_rules.specs.Noted.{AreTypes}
use Rattle.fk_types.proofs.CheckLemmas.{none_or, typed, refused, accepted}
use Rattle.fk_types.proofs.check.checked.Goals as goal
use Rattle.fk_types.proofs.check.checked.Goals.{After-program_fault}

-- the table before and after the check
empty : (c : After-program_fault) → c.deref_mut.result.now ≡ replicate c.args.program.now.tokens None
empty c = c.deref_mut.ensures.value ∙ c.in_ok-types.ensures.items_if_clones_equal (λ y h. elim (none_or y) [ inl e ↦ e | inr s ↦ absurd (rw s.1 at h) ])

filled : (c : After-program_fault) → (with_items c.in_ok-types.types c.program_fault.new.types).items ≡ c.program_fault.new.types
filled c =
    let size : length c.program_fault.new.types ≡ c.in_ok-types.types.len = omega (arith, c.program_fault.auto.types, c.deref_mut.ensures.len) in
    with_items_is c.in_ok-types.types c.program_fault.new.types size

pub program_fault-requires-clause-pieces : goal.program_fault-requires-clause-pieces
program_fault-requires-clause-pieces c = c.in_ok-pieces.ensures ∙ ap (λ items. items_pieces (map item_of items)) c.deref.ensures.value

pub facts-requires-clause-pieces : goal.facts-requires-clause-pieces
facts-requires-clause-pieces c = c.in_ok-pieces.ensures ∙ ap (λ items. items_pieces (map item_of items)) c.deref.ensures.value

pub facts-requires-clause-tokens : goal.facts-requires-clause-tokens
facts-requires-clause-tokens c =
    let d = (goal.at.facts-requires-clause-tokens c).After-program_fault in
    let before : length c.deref_mut.result.now ≡ c.args.program.now.tokens = ap length (empty d) ∙ length-replicate c.args.program.now.tokens None in
    omega (arith, ap length (c.deref-in-None.ensures.value ∙ filled d), c.program_fault.auto.types, before)

pub returns-in-Some-clause-answer : goal.returns-in-Some-clause-answer
returns-in-Some-clause-answer c =
    let program = program_of c.args.program.now in
    let env = env_of c.args.structs.now c.args.names.now c.in_ok-environment.environment in
    let right = c.in_ok-environment.ensures program c.requires.structs c.requires.names in
    let least = subst (λ (f : Option Fault). IsLeast (Broken env program) f) c.in-Some.is
    (subst (λ (e : Env). IsLeast (Broken e (program_of c.args.program.now)) c.in_ok-fault.fault) c.scope-scope.ensures.env c.in_ok-fault.ensures.least) in
    refused program env right c.in-Some.fault c.number.result least c.number.ensures

pub returns-clause-answer : goal.returns-clause-answer
returns-clause-answer c =
    let program = program_of c.args.program.now in
    let env = env_of c.args.structs.now c.args.names.now c.in_ok-environment.environment in
    let right = c.in_ok-environment.ensures program c.requires.structs c.requires.names in
    let least = subst (λ (f : Option Fault). IsLeast (Broken env program) f) c.in-None.is
    (subst (λ (e : Env). IsLeast (Broken e (program_of c.args.program.now)) c.in_ok-fault.fault) c.scope-scope.ensures.env c.in_ok-fault.ensures.least) in
    let told = subst (λ (e : Env). AreTypes e (program_of c.args.program.now) c.program_fault.new.types) c.scope-scope.ensures.env
    (typed program (env_in c.scope-scope.result) c.requires.well_formed c.deref_mut.result.now c.program_fault.new.types (empty (goal.at.returns-clause-answer c).After-program_fault) c.in_ok-fault.ensures.types) in
    accepted program env right c.in_ok-facts-in-None.facts least
    (c.in_ok-facts-in-None.ensures env refl (subst (AreTypes env program) (sym (c.deref-in-None.ensures.value ∙ filled (goal.at.returns-clause-answer c).After-program_fault)) told))
