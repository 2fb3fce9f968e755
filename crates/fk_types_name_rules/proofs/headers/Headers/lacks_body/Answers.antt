use Rattle.std.proofs.Common.{map, sym, subst}
use Rattle.std.proofs.lemmas.Bool.Decides.{Decides-eqb}
use Rattle.fk_syntax.specs.ProgramView.{function_of, item_of}
use Rattle.fk_types_names.specs.Locals.{IsFirstOf}
use Rattle.fk_types_name_rules.specs.Headers.{HasBodyAt, HasLaterAt}
use Rattle.fk_types_name_rules.proofs.HeaderLemmas.{lacks_second, second_lacks}
use Rattle.fk_types_name_rules.proofs.headers.Headers.lacks_body.Goals as goal

pub returns-in-Some-get : goal.returns-in-Some-get
returns-in-Some-get c =
    let items = map item_of c.args.items.now in
    let function = function_of c.args.function.now in
    let name = function.name.bytes in
    let second = c.in-Some-get.second in
    let test = Decides-eqb second c.args.at in
    let none = subst (IsFirstOf (HasBodyAt items name)) c.in-None.is c.requires.body in
    let is = subst (IsFirstOf (HasLaterAt items name)) (sym c.in-Some-get.ensures) (c.requires.known.seconds name) in
    (λ e. lacks_second items function c.args.at second none is (test.0 e), λ h. test.1 (second_lacks items function c.args.at second is h))
