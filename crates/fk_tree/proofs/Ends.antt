-- A part that ends is one less that its parent counts.
use Rattle.std.proofs.Common.{◌≡◌, ◌≢◌, ⊎_elim, ℕ, suc, ◌-◌, ◌≤◌, ◌==◌, true, false, cond, Option, Some, None, is_none, refl, sym, ap, ◌∙◌, arith}
use Rattle.std.proofs.lemmas.Bool.{cases_eq, cond-true, cond-false, eq-eqb, ne_eqb, false≢true}
use Rattle.fk_tree.specs.declared.node.Kind.{Kind}
use Rattle.fk_tree.specs.declared.node.Kind.TheVariants.{Lockstep, Waiting, Asynchronous}
use Rattle.fk_tree.specs.Tree.{Node, Tree, kind_of, kind, parent, with_node}
use Rattle.fk_tree.specs.Sound.{awaits, IsSound}
use Rattle.fk_tree.specs.Seen.{count_of, AreCounted}
use Rattle.fk_tree.proofs.Shapes.{from_parts, with_same, with_other}
use Rattle.fk_tree.proofs.Counts.{living_added, count_along}
use Rattle.fk_tree.proofs.ShrinkSound.{CanShrink}

count_less : (f g : ℕ → Option Node) (o : Option Kind) (m : ℕ) → awaits o m ≡ true → is_none (f m) ≡ true → is_none (g m) ≡ false
    → ((i : ℕ) → i ≢ m → is_none (f i) ≡ is_none (g i)) → count_of g o ≡ suc (count_of f o)
count_less f g None m w none some same = absurd (false≢true w)
count_less f g (Some Lockstep) m w none some same = absurd (false≢true w)
count_less f g (Some (Waiting first k)) m w none some same =
    let parts = from_parts first k m w in living_added f g first k m none some same parts.0 parts.1
count_less f g (Some (Asynchronous alone)) m w none some same = absurd (false≢true w)

some_is : (o : Option Node) → o ≢ None → is_none o ≡ false
some_is None some = absurd (some refl)
some_is (Some a) some = refl

module _ (p n : ℕ) (t : Tree) (s : IsSound p t) (c : CanShrink n t) (counts : ℕ → ℕ) (counted : AreCounted t.nodes counts)
    (after : ℕ → Option Node) (ended : (i : ℕ) → after i ≡ with_node n None t.nodes i) where
  abbrev up : ℕ
  up = parent t n

  awaited : awaits (kind t up) n ≡ true
  awaited = s.awaited n c.lower c.there

  others : (i : ℕ) → i ≢ n → is_none (after i) ≡ is_none (t.nodes i)
  others i ne = ap is_none (ended i ∙ with_other n None t.nodes i ne)

  here : is_none (after n) ≡ true
  here = ap is_none (ended n ∙ with_same n None t.nodes n refl)

  up_less : count_of t.nodes (kind t up) ≡ suc (count_of after (kind t up))
  up_less = count_less after t.nodes (kind t up) n awaited here (some_is (t.nodes n) c.there) others

  -- so the parent counts one at least
  pub up_counts : 1 ≤ counts up
  up_counts = omega (arith, counted up, up_less)

  up-other : up ≢ n
  up-other e = c.leaf n c.lower c.there e

  pub ended_counted : (counts' : ℕ → ℕ) → ((i : ℕ) → counts' i ≡ cond (i == up) (counts up - 1) (cond (i == n) 0 (counts i))) → AreCounted after counts'
  ended_counted counts' changed i =
      ⊎_elim
      (λ e.
      let less : counts up - 1 ≡ count_of after (kind t up) = omega (arith, counted up, up_less) in
      let same : kind_of (after i) ≡ kind t up = ap kind_of (ended i ∙ with_other n None t.nodes i (λ e'. up-other (sym e ∙ e'))) ∙ ap (kind t) e in
      changed i ∙ cond-true (i == up) (counts up - 1) (cond (i == n) 0 (counts i)) (eq-eqb i up e) ∙ less ∙ ap (count_of after) (sym same))
      (λ ne.
      changed i ∙ cond-false (i == up) (counts up - 1) (cond (i == n) 0 (counts i)) (ne_eqb i up ne)
      ∙ ⊎_elim
      (λ e.
      cond-true (i == n) 0 (counts i) (eq-eqb i n e)
      ∙ sym (ap (λ (o : Option Node). count_of after (kind_of o)) (ended i ∙ with_same n None t.nodes i e)))
      (λ ne'.
      cond-false (i == n) 0 (counts i) (ne_eqb i n ne') ∙ counted i
      ∙ count_along t.nodes after (kind t i) (λ m w. sym (others m (λ e. ne (sym (s.children i n (ap (awaits (kind t i)) (sym e) ∙ w) c.there)))))
      ∙ ap (λ (o : Option Node). count_of after (kind_of o)) (sym (ended i ∙ with_other n None t.nodes i ne')))
      (cases_eq i n))
      (cases_eq i up)
