use Rattle.std.proofs.Common.{◌≡◌, ℕ, List, Some, IfSome, unwrap_or, sym, subst, ap, ◌∙◌}
use Rattle.fk_types_names.specs.TableView.{shown, first_set}
use Rattle.fk_types_names.proofs.TableLemmas.{first_stays}
use Rattle.fk_types_names.proofs.table.Table.set_first.Goals as goal

pub returns-in_ok-replace-in-Some-2-clause-some : goal.returns-in_ok-replace-in-Some-2-clause-some
returns-in_ok-replace-in-Some-2-clause-some c =
    let old = shown c.args.self.now in
    let new = shown c.replace-in-Some-2.new.self in
    let put = c.in_ok-replace-in-Some-2.ensures in
    let had = sym c.in_ok-first.ensures.old ∙ c.in-Some-2.is in
    subst (λ o. IfSome o (λ n. (q : List ℕ) → new q ≡ first_set n.now c.args.mark q (old q))) (sym c.in-Some.is)
    (first_stays c.in-Some.name.now c.args.mark old new (put.same ∙ ap (λ o. Some (unwrap_or o c.args.mark)) (sym had)) (λ other apart. put.others other apart ∙ c.in_ok-first.ensures.others other apart))
