-- Steps by which nobody moves to another node.
use Rattle.std.proofs.Common.{◌≡◌, ℕ, Option, Some, None, Bool, true, false, sym, ap, subst, ◌∙◌, refl, ⊎_elim}
use Rattle.std.proofs.lemmas.Bool.{false≢true}
use Rattle.fk_tree.specs.Tree.{Tree}
use Rattle.fk_meaning_operation.specs.declared.operation.Operation.{Operation}
use Rattle.fk_meaning_operation.specs.declared.operation.Operation.TheVariants as o
use Rattle.fk_meaning.specs.Round.{Step}
use Rattle.fk_core.specs.Next.{Position}
use Rattle.fk_lockstep.specs.Untouched.{changes_tree}
use Rattle.fk_lockstep_nodes.specs.Steps.{KeepsOrDoes}
use Rattle.fk_sim_rounds.specs.After.{Keeps, DoesStep}
use Rattle.fk_sim_rounds.specs.Rounds.{StepIsKnown}
use Rattle.fk_sim_rounds.proofs.TreeAfter.{none_or_some, moves_some, some_move}

abbrev pub stays_put : Operation → Bool
stays_put o.Begin = false
stays_put (o.Split by) = false
stays_put o.Shrink = false
stays_put o.End = false
stays_put operation = true

keeps_put : (operation : Operation) → changes_tree operation ≡ false → stays_put operation ≡ true
keeps_put o.Begin e = absurd (cc)
keeps_put (o.Split by) e = absurd (cc)
keeps_put o.Shrink e = absurd (cc)
keeps_put o.End e = absurd (cc)
keeps_put operation e = refl

abbrev pub Stays : Option (Step Position) → Type 0
Stays None = Unit {0}
Stays (Some step) = stays_put step.operation ≡ true

keeps_stay : (due : Option (Step Position)) → Keeps due → Stays due
keeps_stay None keeps = tt
keeps_stay (Some step) keeps = keeps_put step.operation keeps

does_stay : (operation : Operation) (due : Option (Step Position)) → stays_put operation ≡ true → DoesStep operation due → Stays due
does_stay operation None put does = tt
does_stay operation (Some step) put does = ap stays_put does ∙ put

-- of the known steps only splits, shrinks and ends take members elsewhere
known_put : (tree : Tree) (g : ℕ) (operation : Operation) → StepIsKnown tree g operation → moves_some operation ≡ false → stays_put operation ≡ true
known_put tree g o.Resume known ne = refl
known_put tree g (o.Meet true) known ne = refl
known_put tree g o.Farm known ne = refl
known_put tree g o.Seq known ne = refl
known_put tree g o.End known ne = absurd (false≢true (sym ne))
known_put tree g (o.Split by) known ne = absurd (false≢true (sym ne))
known_put tree g o.Shrink known ne = absurd (false≢true (sym ne))
known_put tree g operation known ne = absurd known

pub known_stays : (tree : Tree) (does : ℕ → Option Operation) (g : ℕ) (due : Option (Step Position)) → ((operation : Operation) → does g ≡ Some operation → StepIsKnown tree g operation) → some_move (does g) ≡ false
    → KeepsOrDoes (does g) due → Stays due
known_stays tree does g due known ne step =
    ⊎_elim (λ none. keeps_stay due (subst (λ x. KeepsOrDoes x due) none step))
    (λ some.
    does_stay some.0 due (known_put tree g some.0 (known some.0 some.1) (ap some_move (sym some.1) ∙ ne)) (subst (λ x. KeepsOrDoes x due) some.1 step))
    (none_or_some (does g))
