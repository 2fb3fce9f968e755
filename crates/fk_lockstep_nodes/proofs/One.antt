-- A round in which no step changes the tree, or those of one node alone.
use Rattle.std.proofs.Common.{◌≡◌, ◌≢◌, ⊎_elim, ℕ, suc, ◌+◌, ◌<◌, ◌≤◌, ◌==◌, Bool, true, false, List, [], ◌∷◌, length, Option, Some, None, refl, sym, ap, ◌∙◌, subst, arith, eq-eqb, if◌then◌else◌}
use Rattle.std.proofs.lemmas.Bool.{cases_eq, ne_eqb}
use Rattle.fk_tree.specs.Tree.{Tree, members}
use Rattle.fk_tree.specs.Sound.{Has, IsSound}
use Rattle.fk_meaning_operation.specs.declared.operation.Operation.{Operation}
use Rattle.fk_meaning.specs.Group.{changes}
use Rattle.fk_meaning.specs.Round.{Step, Acting, lowest, who, agreed, change_by, all_changes}
use Rattle.fk_lockstep.proofs.Round.{lowest_member}
use Rattle.fk_lockstep_nodes.specs.Steps.{Keeps, Does, KeepsOrDoes, StepsBy, only}
use Rattle.fk_lockstep_nodes.proofs.Local.{step_keeps}

-- what the step of one node says of a processor there, and of another one
pub only_there : {W : Type 0} (old : Tree) (g : ℕ) (operation : Operation) (k : ℕ) (due : Option (Step W)) → KeepsOrDoes (only g operation (old.places k)) due → old.places k ≡ g → Does operation due
only_there old g operation k due step e = subst (λ (x : Option Operation). KeepsOrDoes x due) (ap (λ (b : Bool). if b then Some operation else None) (eq-eqb (old.places k) g e)) step

pub only_elsewhere : {W : Type 0} (old : Tree) (g : ℕ) (operation : Operation) (k : ℕ) (due : Option (Step W)) → KeepsOrDoes (only g operation (old.places k)) due → old.places k ≢ g → Keeps due
only_elsewhere old g operation k due step ne =
    subst (λ (x : Option Operation). KeepsOrDoes x due) (ap (λ (b : Bool). if b then Some operation else None) (ne_eqb (old.places k) g ne)) step

either_tree : (b : Bool) (x y : Tree) → x ≡ y → (if b then x else y) ≡ y
either_tree true x y e = e
either_tree false x y e = refl

module _ {W : Type 0} (actors : List (Acting W)) (old : Tree) where
  pub change_keeps : (h : ℕ) (due : Option (Step W)) (tree : Tree) → Keeps due → change_by actors old h due tree ≡ tree
  change_keeps h None tree keeps = refl
  change_keeps h (Some step) tree keeps =
      let n = old.places h in
      let ms = members old n in
      either_tree (h == lowest ms) (changes step.operation n (who actors) (agreed actors ms) h tree) tree (step_keeps n (who actors) (agreed actors ms) h step.operation tree keeps)

  pub none_changes : (number : ℕ) (others : List (Acting W)) (tree : Tree) → StepsBy old (λ g. None) number others → all_changes actors old others tree ≡ tree
  none_changes number [] tree keeps = refl
  none_changes number (a ∷ others) tree keeps =
      ap (λ (x : Tree). all_changes actors old others x) (change_keeps a.runner.has.number a.due tree keeps.1) ∙ none_changes (suc number) others tree keeps.2

  module _ (g : ℕ) (operation : Operation) (h : ℕ) (low : h ≡ lowest (members old g)) (at : old.places h ≡ g) where
    -- what the lowest member brings to the tree
    abbrev changed : Tree → Tree
    changed tree = changes operation g (who actors) (agreed actors (members old g)) h tree

    -- a member that is not the lowest, and one of another node
    not_lowest : (k : ℕ) (due : Option (Step W)) (tree : Tree) → (k ≡ h → ⊥) → KeepsOrDoes (only g operation (old.places k)) due → change_by actors old k due tree ≡ tree
    not_lowest k None tree ne step = refl
    not_lowest k (Some due) tree ne step =
        ⊎_elim
        (λ e.
        let same : members old (old.places k) ≡ members old g = ap (members old) e in
        ap (λ (b : Bool). if b then changes due.operation (old.places k) (who actors) (agreed actors (members old (old.places k))) k tree else tree)
        (ne_eqb k (lowest (members old (old.places k))) (λ is. ne (is ∙ ap lowest same ∙ sym low))))
        (λ away. change_keeps k (Some due) tree (only_elsewhere old g operation k (Some due) step away)) (cases_eq (old.places k) g)

    is_lowest : (due : Option (Step W)) (tree : Tree) → Does operation due → change_by actors old h due tree ≡ changed tree
    is_lowest None tree does = absurd does
    is_lowest (Some step) tree does =
        let same : members old (old.places h) ≡ members old g = ap (members old) at in
        ap (λ (b : Bool). if b then changes step.operation (old.places h) (who actors) (agreed actors (members old (old.places h))) h tree else tree)
        (eq-eqb h (lowest (members old (old.places h))) (low ∙ sym (ap lowest same)))
        ∙ ap (λ (x : Operation). changes x (old.places h) (who actors) (agreed actors (members old (old.places h))) h tree) does
        ∙ ap (λ (n : ℕ). changes operation n (who actors) (agreed actors (members old n)) h tree) at

    past : (number : ℕ) (others : List (Acting W)) (tree : Tree) → StepsBy old (only g operation) number others → h < number → all_changes actors old others tree ≡ tree
    past number [] tree steps lt = refl
    past number (a ∷ others) tree steps lt =
        let same = steps.0 in
        ap (λ (x : Tree). all_changes actors old others x)
        (ap (λ (k : ℕ). change_by actors old k a.due tree) same ∙ not_lowest number a.due tree (λ e. omega (arith, e, lt)) steps.1)
        ∙ past (suc number) others tree steps.2 (omega (arith, lt))

    one_changes : (number : ℕ) (others : List (Acting W)) (tree : Tree) → StepsBy old (only g operation) number others → number ≤ h → h < number + length others
        → all_changes actors old others tree ≡ changed tree
    one_changes number [] tree steps le lt = absurd (omega (arith, le, lt))
    one_changes number (a ∷ others) tree steps le lt =
        let same = steps.0 in
        ⊎_elim
        (λ e.
        ap (λ (x : Tree). all_changes actors old others x)
        (ap (λ (k : ℕ). change_by actors old k a.due tree) (same ∙ e) ∙ is_lowest a.due tree (only_there old g operation number a.due steps.1 (ap old.places e ∙ at)))
        ∙ past (suc number) others (changed tree) steps.2 (omega (arith, e)))
        (λ ne.
        ap (λ (x : Tree). all_changes actors old others x)
        (ap (λ (k : ℕ). change_by actors old k a.due tree) same ∙ not_lowest number a.due tree (λ e. ne e) steps.1)
        ∙ one_changes (suc number) others tree steps.2 (omega (arith, le, ne)) (omega (arith, lt))) (cases_eq number h)

-- the lowest of those who stand at a node brings its step to the tree
pub step_is_brought : {W : Type 0} (p : ℕ) (old : Tree) → IsSound p old → (g : ℕ) (operation : Operation) (actors : List (Acting W)) → ((h : ℕ) → Has old g h → old.places h ≡ g) → length actors ≡ p
    → (h : ℕ) → Has old g h → StepsBy old (only g operation) 0 actors
    → all_changes actors old actors old ≡ changes operation g (who actors) (agreed actors (members old g)) (lowest (members old g)) old
step_is_brought p old sound g operation actors stand many h has steps =
    let low = lowest (members old g) in
    let in_low = lowest_member h (members old g) has in
    let lt = sound.within g low in_low in
    one_changes actors old g operation low refl (stand low in_low) 0 actors old steps (omega arith) (omega (arith, lt, many))
