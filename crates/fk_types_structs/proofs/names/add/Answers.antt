use Rattle.std.proofs.Common.{ℕ, List, [], ◌∷◌, ◌++◌, Bor, nat_eq, sym, ap, subst, ◌∙◌}
use Rattle.std.specs.Map.{lookup}
use Rattle.std.specs.Cmp.Lexicographic.{pointwise}
use Rattle.indexmap.proofs.CallerLemmas.{insert_entry-new}
use Rattle.fk_types_structs.specs.View.{Finds}
use Rattle.fk_types_structs.proofs.NameLemmas.{Finds-new, Finds-old, looked-some, looked-none}
use Rattle.fk_types_structs.proofs.names.add.Goals as goal

pub returns-then-is_some : goal.returns-then-is_some
returns-then-is_some c = λ names e h.
    let there = looked-some c.get.result (lookup (λ (n : Bor (List ℕ)). pointwise nat_eq c.args.name.now n.now) c.args.places.now.entries) c.get.ensures.value (sym c.is_some.ensures ∙ c.if-is_some.true) in
    Finds-old c.args.places.now.entries names c.args.name.now there.0 there.1 h

pub returns : goal.returns
returns c = λ names e h.
    let none = looked-none c.get.result (lookup (λ (n : Bor (List ℕ)). pointwise nat_eq c.args.name.now n.now) c.args.places.now.entries) c.get.ensures.value (sym c.is_some.ensures ∙ c.if-is_some.false) in
    let entries = c.in_ok-insert.ensures.entries ∙ insert_entry-new (λ (x y : Bor (List ℕ)). pointwise nat_eq x.now y.now) c.args.places.now c.args.name c.in_ok-word.word none ∙ ap (λ p. c.args.places.now.entries ++ (c.args.name, p) ∷ []) (c.in_ok-word.ensures ∙ e) in
    subst (λ es. Finds es (names ++ c.args.name.now ∷ [])) (sym entries) (Finds-new c.args.places.now.entries names c.args.name h)
