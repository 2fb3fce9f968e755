use Rattle.std.proofs.lemmas.Bool.{false≢true}
use Rattle.fk_types_name_rules.proofs.NamedLemmas.{not_iff}
use Rattle.fk_types_name_rules.proofs.named.is_undeclared.Goals as goal

pub returns-in-Some : goal.returns-in-Some
returns-in-Some c =
    let innermost = c.in-Some.ensures c.args.name.now c.requires.named in
    (λ e. absurd (false≢true e), λ h. absurd (h.0 c.in-Some.field-0 innermost.declares innermost.visible))

pub returns-in-None : goal.returns-in-None
returns-in-None c =
    let hidden = c.in-None.ensures c.args.name.now c.requires.named in
    let unknown = not_iff c.is_predeclared.result c.is_predeclared.ensures in
    (λ e. (hidden, unknown.0 e), λ h. unknown.1 h.1)
