-- The plan of a state, made once: one processor in the root, whose hart is at a distance from its commit.
use Rattle.std.proofs.Common.{◌≡◌, ◌≢◌, ℕ, zero, suc, ◌-◌, List, [], ◌∷◌, length, Bool, true, false, Some, None, sym, ap, subst, ◌∙◌, refl, arith, ◌⊎◌, inl, inr, ⊎_elim}
use Rattle.std.specs.Prelude.{◌==◌, ◌&&◌, is_some}
use Rattle.std.proofs.lemmas.Bool.{cases_Bool, cond-true, cond-false, ne_eqb, false≢true}
use Rattle.fk_space.specs.Space.{Space}
use Rattle.fk_tree.specs.declared.node.Kind.TheVariants.{Asynchronous}
use Rattle.fk_tree.specs.Tree.{kind_of, node_of, below, root, is_member, is_from}
use Rattle.fk_tree.proofs.Shapes.{with_other}
use Rattle.fk_meaning.specs.Processor.{Setting}
use Rattle.fk_core.specs.declared.op.CoreOp.{CoreOp}
use Rattle.fk_image.specs.declared.Image.{Image}
use Rattle.fk_machine.specs.Hart.{Hart, Setting as MachineSetting}
use Rattle.fk_sim_nodes.specs.Node.{numbered, of_node, add}
use Rattle.fk_sim_nodes.specs.Phase.{Settled}
use Rattle.fk_sim_match.specs.Stage.{Acts, absent}
use Rattle.fk_sim_match.specs.Plan.{Plan, StandsAt, Binds, Counts, IsBound}
use Rattle.fk_sim_block.specs.Owner.{Owner, core_source}
use Rattle.fk_sim_block.specs.Stands.{Places}
use Rattle.fk_sim_block.specs.Node.{Nestings, root_words}
use Rattle.fk_sim_match.specs.Nodes.{first_of, own_words, owns, meeters_at, meeters_by, meeters, HaveSpaces, is_lockstep, plan_of}
use Rattle.fk_sim_match.specs.Behind.{blocks_of}

module _ (core : List CoreOp) (image : Image) (places : Places) (nestings : Nestings) (setting : Setting) (spaces : ℕ → Space) where
  abbrev plan : Plan
  plan = plan_of (root 1) spaces (0 ∷ [])

  -- the root alone is there
  gone : (g : ℕ) → (root 1).nodes (suc g) ≡ None
  gone g = with_other 0 (node_of (below 1 []) 0 (Asynchronous false)) (λ i. None) (suc g) (λ e. omega (arith, e))

  none : (g : ℕ) → g ≢ 0 → is_some ((root 1).nodes g) ≡ true → ⊥
  none zero ne some = ne refl
  none (suc g) ne some = false≢true (subst (λ o. is_some o ≡ true) (gone g) some)

  pub spaced : HaveSpaces (root 1) spaces
  spaced = record {
    header = λ g ne some. absurd (none g ne some);
    within = λ g ne some. absurd (none g ne some);
    waits = λ g ne some. absurd (none g ne some);
    nested = λ g ne some up. absurd (none g ne some);
    apart = λ g k ne ne' differ some some' same. absurd (none g ne some);
  }

  -- at most the one processor meets at a word
  who_meets : (w : ℕ) → (meeters (root 1) spaces w ≡ []) ⊎ (meeters (root 1) spaces w ≡ 0 ∷ [])
  who_meets w =
      ⊎_elim
      (λ own. ⊎_elim (λ e. inl (ap (meeters_by (root 1) spaces w) (cond-true _ (Some 0) None own) ∙ e)) (λ e. inr (ap (meeters_by (root 1) spaces w) (cond-true _ (Some 0) None own) ∙ e)) (by_offset (w - root_words)))
      (λ not. inl (ap (meeters_by (root 1) spaces w) (cond-false _ (Some 0) None not)))
      (cases_Bool (owns (root 1) spaces 0 w))
    where
      by_offset : (o : ℕ) → (meeters_at (root 1) 0 o ≡ []) ⊎ (meeters_at (root 1) 0 o ≡ 0 ∷ [])
      by_offset zero = inr refl
      by_offset (suc zero) = inr refl
      by_offset (suc (suc o)) = inl refl

  -- where it has not arrived, and so nobody has
  counted : (t d : ℕ) (ms : List ℕ) → ((ms ≡ []) ⊎ (ms ≡ 0 ∷ [])) → Settled t (length ms) 0 (absent (is_member 0 ms) ∷ [])
  counted t d ms (inl e) = subst (λ l. Settled t (length l) 0 (absent (is_member 0 l) ∷ [])) (sym e) (record { size = refl; count = refl; in_step = (tt, tt); together = inl (tt, tt) })
  counted t d ms (inr e) = subst (λ l. Settled t (length l) 0 (absent (is_member 0 l) ∷ [])) (sym e) (record { size = refl; count = refl; in_step = (tt, tt); together = inl (tt, tt) })

  module _ (t : MachineSetting) (d : ℕ) (h : Hart) (p : Owner) (stands : StandsAt (core_source core setting) image plan (blocks_of core image places nestings setting plan (first_of spaces)) t 0 (Acts d 0) (record { number = 0; hart = h }) p) where
    nobody_elsewhere : (g : ℕ) (b lock : Bool) → b ≡ false → lock ≡ false
        → Binds (core_source core setting) image plan (blocks_of core image places nestings setting plan (first_of spaces)) lock t (suc g) (add b (Acts d 0) []) (add b (record { number = 0; hart = h }) [])
        (add b p []) (λ i. 0)
    nobody_elsewhere g false false e f = tt
    nobody_elsewhere g true lock e f = absurd (false≢true (sym e))
    nobody_elsewhere g false true e f = absurd (false≢true (sym f))

    binds : (g : ℕ) → Binds (core_source core setting) image plan (blocks_of core image places nestings setting plan (first_of spaces)) (plan.in_lockstep g) t g
        (of_node g (0 ∷ []) (Acts d 0 ∷ [])) (of_node g (0 ∷ []) (numbered 0 (h ∷ []))) (of_node g (0 ∷ []) (p ∷ [])) (λ i. 0)
    binds zero = (stands, tt)
    binds (suc g) =
        nobody_elsewhere g (0 == suc g) (plan.in_lockstep (suc g)) (ne_eqb 0 (suc g) (λ e. omega (arith, e))) (ap (λ o. is_lockstep (kind_of o)) (gone g))

    counts : (g w : ℕ) → Counts (core_source core setting) image plan (blocks_of core image places nestings setting plan (first_of spaces)) t g w (Acts d 0 ∷ []) (λ i. 0)
    counts zero w free is_open = counted t.finished d (meeters (root 1) spaces w) (who_meets w)
    counts (suc g) w free is_open = absurd (false≢true (subst (λ o. (is_some o && is_from (first_of spaces (suc g)) (own_words spaces (suc g) (kind_of o)) w) ≡ true) (gone g) is_open.0))

    pub one_is_bound : IsBound (core_source core setting) image plan (blocks_of core image places nestings setting plan (first_of spaces)) t (Acts d 0 ∷ []) (h ∷ []) (p ∷ []) (λ g i. 0)
    one_is_bound = record { as_many = tt; stages_as_many = tt; binds = binds; counts = counts }
