use Rattle.std.proofs.Common.{◌⊎◌, inl, inr, Some, None, IsTrue, subst, ap, ◌∙◌}
use Rattle.fk_syntax.specs.View.{named}
use Rattle.fk_syntax.specs.declared.place.Place.{Place}
use Rattle.fk_check_rules.specs.declared.rule.Rule.TheVariants as r
use Rattle.fk_check_rules.specs.Least.{IsLeast}
use Rattle.fk_check_rules.specs.Told.{told}
use Rattle.fk_check_rules.proofs.ToldLemmas.{told_where}
use Rattle.fk_types_names.specs.declared.names.Meaning.TheVariants.{Undeclared}
use Rattle.fk_types_names.specs.Outline.{Opens, Closes, Declares, Uses, name_of}
use Rattle.fk_types_names.specs.View.{declaration_of, mark_of}
use Rattle.fk_types_names.specs.Means.{MeansAt}
use Rattle.fk_types_names.specs.Scoped.{all_marks}
use Rattle.fk_types_names.proofs.ScopedLemmas.{use_named}
use Rattle.fk_types_name_rules.specs.Named.{IsAgain, IsTaken}
use Rattle.fk_types_name_rules.proofs.ListLemmas.{mark_told}
use Rattle.fk_types_name_rules.proofs.named.mark_fault.Goals as goal

pub is_undeclared-broken-requires-clause-named : goal.is_undeclared-broken-requires-clause-named
is_undeclared-broken-requires-clause-named c =
    use_named (all_marks c.args.scoped.now) c.args.at (named c.in-Uses.name) (c.mark.ensures ∙ ap (λ m. Some (mark_of m)) c.in-Uses.is)

pub is_twice-broken-requires-clause-declared : goal.is_twice-broken-requires-clause-declared
is_twice-broken-requires-clause-declared c = c.mark.ensures ∙ ap (λ m. Some (mark_of m)) c.in-Declares.is

pub returns-in-Uses : goal.returns-in-Uses
returns-in-Uses c = λ mark e.
    let marks = all_marks c.args.scoped.now in
    let at = c.args.at in
    let name = named c.in-Uses.name in
    let here = c.mark.ensures ∙ ap (λ m. Some (mark_of m)) c.in-Uses.is in
    mark_told marks at (Uses name) mark here e c.fault_if.result
    (told_where r.Undeclared name.place c.is_undeclared-broken.result (MeansAt marks name.bytes at Undeclared) c.is_undeclared-broken.ensures c.fault_if.result c.fault_if.ensures)

pub returns-in-Declares : goal.returns-in-Declares
returns-in-Declares c = λ mark e.
    let marks = all_marks c.args.scoped.now in
    let at = c.args.at in
    let d = declaration_of c.in-Declares.declaration in
    let here = c.mark.ensures ∙ ap (λ m. Some (mark_of m)) c.in-Declares.is in
    let found = c.fault_if-in-Declares.result in
    let there = subst (λ (place : Place). IsLeast (told r.DeclaredTwice place (IsTrue c.is_twice-broken.result)) found) c.name_place.ensures c.fault_if-in-Declares.ensures in
    mark_told marks at (Declares d) mark here e found
    (told_where r.DeclaredTwice (name_of d).place c.is_twice-broken.result (IsAgain marks at d ⊎ IsTaken marks at d) c.is_twice-broken.ensures found there)

pub returns-in-Opens : goal.returns-in-Opens
returns-in-Opens c = λ mark e.
    let marks = all_marks c.args.scoped.now in
    elim c.in-Opens.is [
      | inl opens ↦ mark_told marks c.args.at Opens mark (c.mark.ensures ∙ ap (λ m. Some (mark_of m)) opens) e None (λ place rule b. b)
      | inr closes ↦ mark_told marks c.args.at Closes mark (c.mark.ensures ∙ ap (λ m. Some (mark_of m)) closes) e None (λ place rule b. b)
    ]
