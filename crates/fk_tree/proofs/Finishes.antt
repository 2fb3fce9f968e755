-- A part is removed, its members wait at its parent, and the parent counts one part less.
use Rattle.std.proofs.Common.{◌≡◌, ◌≢◌, ⊎_elim, ℕ, ◌-◌, ◌≤◌, ◌==◌, ◌&&◌, nat_eq, Bool, true, false, cond, List, [], ◌∷◌, Option, Some, None, slice_index, refl, sym, ap, ◌∙◌, subst, arith, filter, if◌then◌else◌}
use Rattle.std.specs.HashMap.{get}
use Rattle.std.proofs.lemmas.Bool.{cases_eq, cond-true, cond-false, eq-eqb, ne_eqb}
use Rattle.fk_tree.specs.declared.node.Kind.TheVariants.{Lockstep}
use Rattle.fk_tree.specs.declared.node.LiveNode.{LiveNode}
use Rattle.fk_tree.specs.Tree.{Node, Tree, members_of, parent_of, members, parent, kind, is_member, node_of, with_node, left_by, finish}
use Rattle.fk_tree.specs.Sound.{IsSound}
use Rattle.fk_tree.specs.Seen.{Held, node_seen, nodes_seen, count_seen, living_seen, tree_seen, AreCounted}
use Rattle.fk_tree.proofs.Shapes.{with_same, with_other, awaits-some}
use Rattle.fk_tree.proofs.Trees.{tree_same}
use Rattle.fk_tree.proofs.Turns.{idle-lockstep, leaf_by, there_by}
use Rattle.fk_tree.proofs.ShrinkSound.{CanShrink, shrink_sound}
use Rattle.fk_tree.proofs.Ends.{up_counts, ended_counted}

filter-none : (xs : List ℕ) → filter (λ h. false) xs ≡ []
filter-none [] = refl
filter-none (x ∷ xs) = filter-none xs

none_left : (o : Option Node) → left_by (λ h. false) o ≡ None
none_left None = refl
none_left (Some a) = ap (λ (ms : List ℕ). node_of ms a.parent a.kind) (filter-none a.members)

and-true : (b : Bool) → (b && true) ≡ b
and-true true = refl
and-true false = refl

pub can_shrink : (p n : ℕ) (t : Tree) → IsSound p t → kind t n ≡ Some Lockstep → CanShrink n t
can_shrink p n t s e = record {
  lower = λ zero. s.free (sym (ap (kind t) zero) ∙ e);
  there = there_by t n Lockstep e;
  leaf = leaf_by p n Lockstep t s idle-lockstep e;
}

module _ (p n given : ℕ) (places : List ℕ) (old mid : Held) (part : LiveNode)
    (s : IsSound p (tree_seen given places old)) (counted : AreCounted (nodes_seen old) (living_seen old))
    (c : CanShrink n (tree_seen given places old))
    (held : Some part ≡ get nat_eq old n)
    (removed : (i : ℕ) → get nat_eq mid i ≡ cond (nat_eq n i) None (get nat_eq old i)) where
  abbrev before : Tree
  before = tree_seen given places old

  pub part_members : members before n ≡ part.members.items
  part_members = ap (λ (o : Option LiveNode). members_of (node_seen o)) (sym held)

  pub part_parent : parent before n ≡ part.parent
  part_parent = ap (λ (o : Option LiveNode). parent_of (node_seen o)) (sym held)

  mid_same : get nat_eq mid n ≡ None
  mid_same = removed n ∙ cond-true (nat_eq n n) None (get nat_eq old n) (eq-eqb n n refl)

  mid_other : (i : ℕ) → i ≢ n → get nat_eq mid i ≡ get nat_eq old i
  mid_other i ne = let ne' : n ≢ i = λ e. ne (sym e) in removed i ∙ cond-false (nat_eq n i) None (get nat_eq old i) (ne_eqb n i ne')

  pub mid_ended : (i : ℕ) → nodes_seen mid i ≡ with_node n None (nodes_seen old) i
  mid_ended i =
      ⊎_elim
      (λ e. ap (nodes_seen mid) e ∙ ap node_seen mid_same ∙ sym (with_same n None (nodes_seen old) i e))
      (λ ne. ap node_seen (mid_other i ne) ∙ sym (with_other n None (nodes_seen old) i ne))
      (cases_eq i n)

  mid_living : (i : ℕ) → living_seen mid i ≡ cond (i == n) 0 (living_seen old i)
  mid_living i =
      ⊎_elim
      (λ e. ap (living_seen mid) e ∙ ap count_seen mid_same ∙ sym (cond-true (i == n) 0 (living_seen old i) (eq-eqb i n e)))
      (λ ne. ap count_seen (mid_other i ne) ∙ sym (cond-false (i == n) 0 (living_seen old i) (ne_eqb i n ne)))
      (cases_eq i n)

  up-other : part.parent ≢ n
  up-other e = c.leaf n c.lower c.there (part_parent ∙ e)

  up-living : living_seen mid part.parent ≡ living_seen old (parent before n)
  up-living = ap count_seen (mid_other part.parent up-other) ∙ ap (living_seen old) (sym part_parent)

  pub up_there : nodes_seen mid part.parent ≢ None
  up_there none =
      awaits-some before (parent before n) n (s.awaited n c.lower c.there)
      (ap (nodes_seen old) part_parent ∙ sym (ap node_seen (mid_other part.parent up-other)) ∙ none)

  pub up_counted : 1 ≤ living_seen mid part.parent
  up_counted = omega (arith, up-living, up_counts p n before s c (living_seen old) counted (nodes_seen mid) mid_ended)

  module _ (new : Held) (same : (i : ℕ) → nodes_seen new i ≡ nodes_seen mid i)
      (living : (i : ℕ) → living_seen new i ≡ (if i == part.parent then living_seen mid part.parent - 1 else living_seen mid i)) where
    pub new_ended : (i : ℕ) → nodes_seen new i ≡ with_node n None (nodes_seen old) i
    new_ended i = same i ∙ mid_ended i

    pub new_counted : AreCounted (nodes_seen new) (living_seen new)
    new_counted =
        ended_counted p n before s c (living_seen old) counted (nodes_seen new) new_ended (living_seen new)
        (λ i. living i
        ∙ ap (λ (u : ℕ). cond (i == u) (living_seen mid part.parent - 1) (living_seen mid i)) (sym part_parent)
        ∙ ap (λ (v : ℕ). cond (i == parent before n) (v - 1) (living_seen mid i)) up-living
        ∙ ap (λ (v : ℕ). cond (i == parent before n) (living_seen old (parent before n) - 1) v) (mid_living i))

    module _ (places' : List ℕ) (settled : (h : ℕ) → slice_index places' h ≡ (if is_member h part.members.items then part.parent else slice_index places h)) where
      placed : (h : ℕ) → slice_index places' h ≡ (finish n before).places h
      placed h =
          settled h
          ∙ ap (λ (ms : List ℕ). cond (is_member h ms) part.parent (slice_index places h)) (sym part_members)
          ∙ ap (λ (u : ℕ). cond (is_member h (members before n)) u (slice_index places h)) (sym part_parent)
          ∙ ap (λ (b : Bool). cond b (parent before n) (slice_index places h)) (sym (and-true (is_member h (members before n))))

      nodes : (i : ℕ) → nodes_seen new i ≡ (finish n before).nodes i
      nodes i = new_ended i ∙ ap (λ (o : Option Node). with_node n o (nodes_seen old) i) (sym (none_left (nodes_seen old n)))

      pub finish_tree : tree_seen given places' new ≡ finish n before
      finish_tree = tree_same (tree_seen given places' new) (finish n before) nodes refl placed

      pub finish_sound : (q : ℕ) → q ≡ p → IsSound q (tree_seen given places' new)
      finish_sound q e =
          let done : IsSound p (tree_seen given places' new) = subst (λ (t : Tree). IsSound p t) (sym finish_tree) (shrink_sound p n (λ h. false) before s c) in
          subst (λ (m : ℕ). IsSound m (tree_seen given places' new)) (sym e) done
