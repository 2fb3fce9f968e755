use Rattle.std.proofs.Common.{◌≡◌, Some, sym, ap, ◌∙◌}
use Rattle.std.proofs.lemmas.Option.{same_Some}
use Rattle.fk_types_names.specs.View.{declaration_of}
use Rattle.fk_types_names.specs.TableView.{shown}
use Rattle.fk_types_bindings.specs.Bound.{name_token}
use Rattle.fk_types_bindings.specs.Bodies.{meant_by}
use Rattle.fk_types_bindings.proofs.SetLemmas.{set-none, set-more, set-whole}
use Rattle.fk_types_bindings.proofs.bound.set_declared.Goals as goal

pub loop-number-init : goal.loop-number-init
loop-number-init c = set-none name_token (λ i d number. number ≡ meant_by (shown c.args.bodies.now) i d) c.args.numbers.now

pub loop-number-preserved : goal.loop-number-preserved
loop-number-preserved c =
    let i = c.loop-number.number in
    let d = c.index-declared-number.result in
    let told = c.meant-meant.ensures ∙ ap (λ x. meant_by (shown c.args.bodies.now) i (declaration_of x)) c.index-declared-number.is in
    set-more name_token (λ i d number. number ≡ meant_by (shown c.args.bodies.now) i d) declaration_of c.args.declared.now i d c.args.numbers.now c.loop-number.numbers c.set.new.numbers c.name_token.result (Some c.meant-meant.result)
    c.loop-number-test.true (c.name_token.ensures ∙ ap (λ x. name_token (declaration_of x)) c.index-declared-number.is) c.set.ensures
    (λ number. (λ is. ap Some (told ∙ sym is), λ is. sym (same_Some c.meant-meant.result number is) ∙ told)) c.loop-number.invariant

pub returns : goal.returns
returns c = set-whole name_token (λ i d number. number ≡ meant_by (shown c.args.bodies.now) i d) declaration_of c.args.declared.now c.loop-number.number c.args.numbers.now c.loop-number.numbers c.loop-number-test.false c.loop-number.invariant
