-- The tree after members have left a part.
use Rattle.std.proofs.Common.{◌≡◌, ◌≢◌, ⊎_elim, ℕ, ◌-◌, ◌≤◌, ◌==◌, nat_eq, Bool, cond, List, [], ◌∷◌, Option, Some, None, is_none, slice_index, refl, sym, ap, ◌∙◌, subst, arith, filter, if◌then◌else◌}
use Rattle.std.specs.HashMap.{get}
use Rattle.std.proofs.lemmas.Bool.{cases_eq, cond-true, cond-false, eq-eqb, ne_eqb}
use Rattle.fk_tree.specs.declared.node.Kind.{Kind}
use Rattle.fk_tree.specs.declared.node.LiveNode.{LiveNode}
use Rattle.fk_tree.specs.Tree.{Node, Tree, members_of, parent_of, kind_of, members, parent, kind, node_of, with_node, left_by, shrink}
use Rattle.fk_tree.specs.Sound.{IsSound}
use Rattle.fk_tree.specs.Seen.{Held, node_seen, nodes_seen, count_seen, living_seen, tree_seen, count_of, AreCounted, left_to}
use Rattle.fk_tree.proofs.Shapes.{with_same, with_other, awaits-some}
use Rattle.fk_tree.proofs.Trees.{tree_same}
use Rattle.fk_tree.proofs.Counts.{count_along}
use Rattle.fk_tree.proofs.ShrinkSound.{CanShrink, shrink_sound, left_by-none}
use Rattle.fk_tree.proofs.Ends.{up_counts, ended_counted}

node-some : (ms : List ℕ) (q : ℕ) (k : Kind) → ms ≢ [] → Some (record { members = ms; parent = q; kind = k }) ≡ node_of ms q k
node-some [] q k ne = absurd (ne refl)
node-some (m ∷ ms) q k ne = refl

left_same : (stays : ℕ → Bool) (a b : Option Node) → members_of a ≡ filter stays (members_of b) → parent_of a ≡ parent_of b → kind_of a ≡ kind_of b
    → members_of a ≢ [] → a ≡ left_by stays b
left_same stays None b ms q k ne = absurd (ne refl)
left_same stays (Some a) None ms q k ne = absurd (ne ms)
left_same stays (Some a) (Some b) ms q k ne =
    let kind : a.kind ≡ b.kind = cc in
    let same : Some a ≡ Some (record { members = filter stays b.members; parent = b.parent; kind = b.kind }) =
    λ i. Some (record { members = ms i; parent = q i; kind = kind i }) in
    same ∙ node-some (filter stays b.members) b.parent b.kind (λ e. ne (ms ∙ e))

pub empty_from : (xs : List ℕ) → (xs ≢ [] → ⊥) → xs ≡ []
empty_from [] some = refl
empty_from (x ∷ xs) some = absurd (some (λ e. cc))

some_same : (a b : Option Node) → kind_of a ≡ kind_of b → is_none a ≡ is_none b
some_same None None e = refl
some_same None (Some b) e = cc
some_same (Some a) None e = cc
some_same (Some a) (Some b) e = refl

module _ (p n given : ℕ) (places places' out lent : List ℕ) (old mid : Held) (stays : ℕ → Bool)
    (s : IsSound p (tree_seen given places old)) (counted : AreCounted (nodes_seen old) (living_seen old))
    (c : CanShrink n (tree_seen given places old))
    (lent_is : lent ≡ places) (out_is : places' ≡ out)
    (ms : members_of (nodes_seen mid n) ≡ filter stays (members (tree_seen given places old) n))
    (up : parent_of (nodes_seen mid n) ≡ parent (tree_seen given places old) n)
    (kind_same : kind_of (nodes_seen mid n) ≡ kind (tree_seen given places old) n)
    (others : (i : ℕ) → i ≢ n → nodes_seen mid i ≡ nodes_seen old i)
    (living : (i : ℕ) → living_seen mid i ≡ living_seen old i)
    (left : (h : ℕ) → slice_index out h ≡ left_to (parent (tree_seen given places old) n) stays (members (tree_seen given places old) n) (slice_index lent) h) where
  abbrev before : Tree
  before = tree_seen given places old

  placed : (h : ℕ) → slice_index places' h ≡ (shrink n stays before).places h
  placed h =
      ap (λ (xs : List ℕ). slice_index xs h) out_is ∙ left h
      ∙ ap (λ (xs : List ℕ). left_to (parent before n) stays (members before n) (slice_index xs) h) lent_is

  made : (new : Held) → ((i : ℕ) → nodes_seen new i ≡ (shrink n stays before).nodes i) → tree_seen given places' new ≡ shrink n stays before
  made new nodes = tree_same (tree_seen given places' new) (shrink n stays before) nodes refl placed

  sound : (q : ℕ) (new : Held) → q ≡ p → tree_seen given places' new ≡ shrink n stays before → IsSound q (tree_seen given places' new)
  sound q new e same =
      let done : IsSound p (tree_seen given places' new) = subst (λ (t : Tree). IsSound p t) (sym same) (shrink_sound p n stays before s c) in
      subst (λ (m : ℕ). IsSound m (tree_seen given places' new)) (sym e) done

  -- where some stay
  module _ (some : members_of (nodes_seen mid n) ≢ []) where
    kept_nodes : (i : ℕ) → nodes_seen mid i ≡ (shrink n stays before).nodes i
    kept_nodes i =
        ⊎_elim
        (λ e.
        ap (nodes_seen mid) e ∙ left_same stays (nodes_seen mid n) (nodes_seen old n) ms up kind_same some
        ∙ sym (with_same n (left_by stays (nodes_seen old n)) (nodes_seen old) i e))
        (λ ne. others i ne ∙ sym (with_other n (left_by stays (nodes_seen old n)) (nodes_seen old) i ne))
        (cases_eq i n)

    pub kept_tree : tree_seen given places' mid ≡ shrink n stays before
    kept_tree = made mid kept_nodes

    pub kept_sound : (q : ℕ) → q ≡ p → IsSound q (tree_seen given places' mid)
    kept_sound q e = sound q mid e kept_tree

    same_kind : (i : ℕ) → kind_of (nodes_seen mid i) ≡ kind_of (nodes_seen old i)
    same_kind i = ⊎_elim (λ e. ap (λ (j : ℕ). kind_of (nodes_seen mid j)) e ∙ kind_same ∙ ap (λ (j : ℕ). kind_of (nodes_seen old j)) (sym e)) (λ ne. ap kind_of (others i ne)) (cases_eq i n)

    pub kept_counted : AreCounted (nodes_seen mid) (living_seen mid)
    kept_counted i =
        living i ∙ counted i
        ∙ count_along (nodes_seen old) (nodes_seen mid) (kind_of (nodes_seen old i)) (λ m w. sym (some_same (nodes_seen mid m) (nodes_seen old m) (same_kind m)))
        ∙ ap (count_of (nodes_seen mid)) (sym (same_kind i))

  -- where nobody stays, and the part is removed
  module _ (gone : Held) (part : LiveNode) (none : members_of (nodes_seen mid n) ≡ []) (held : Some part ≡ get nat_eq mid n)
      (removed : (i : ℕ) → get nat_eq gone i ≡ cond (nat_eq n i) None (get nat_eq mid i)) where
    part_up : part.parent ≡ parent before n
    part_up = ap (λ (o : Option LiveNode). parent_of (node_seen o)) held ∙ up

    gone_same : get nat_eq gone n ≡ None
    gone_same = removed n ∙ cond-true (nat_eq n n) None (get nat_eq mid n) (eq-eqb n n refl)

    gone_other : (i : ℕ) → i ≢ n → get nat_eq gone i ≡ get nat_eq mid i
    gone_other i ne = let ne' : n ≢ i = λ e. ne (sym e) in removed i ∙ cond-false (nat_eq n i) None (get nat_eq mid i) (ne_eqb n i ne')

    gone_ended : (i : ℕ) → nodes_seen gone i ≡ with_node n None (nodes_seen old) i
    gone_ended i =
        ⊎_elim
        (λ e. ap (nodes_seen gone) e ∙ ap node_seen gone_same ∙ sym (with_same n None (nodes_seen old) i e))
        (λ ne. ap node_seen (gone_other i ne) ∙ others i ne ∙ sym (with_other n None (nodes_seen old) i ne))
        (cases_eq i n)

    gone_living : (i : ℕ) → living_seen gone i ≡ cond (i == n) 0 (living_seen old i)
    gone_living i =
        ⊎_elim
        (λ e. ap (living_seen gone) e ∙ ap count_seen gone_same ∙ sym (cond-true (i == n) 0 (living_seen old i) (eq-eqb i n e)))
        (λ ne. ap count_seen (gone_other i ne) ∙ living i ∙ sym (cond-false (i == n) 0 (living_seen old i) (ne_eqb i n ne)))
        (cases_eq i n)

    up-other : part.parent ≢ n
    up-other e = c.leaf n c.lower c.there (sym part_up ∙ e)

    up-living : living_seen gone part.parent ≡ living_seen old (parent before n)
    up-living = ap count_seen (gone_other part.parent up-other) ∙ living part.parent ∙ ap (living_seen old) part_up

    pub up_there : nodes_seen gone part.parent ≢ None
    up_there is_gone =
        awaits-some before (parent before n) n (s.awaited n c.lower c.there)
        (ap (nodes_seen old) (sym part_up) ∙ sym (others part.parent up-other) ∙ sym (ap node_seen (gone_other part.parent up-other)) ∙ is_gone)

    pub up_counted : 1 ≤ living_seen gone part.parent
    up_counted = omega (arith, up-living, up_counts p n before s c (living_seen old) counted (nodes_seen gone) gone_ended)

    module _ (new : Held) (same : (i : ℕ) → nodes_seen new i ≡ nodes_seen gone i)
        (lost : (i : ℕ) → living_seen new i ≡ (if i == part.parent then living_seen gone part.parent - 1 else living_seen gone i)) where
      new_ended : (i : ℕ) → nodes_seen new i ≡ with_node n None (nodes_seen old) i
      new_ended i = same i ∙ gone_ended i

      pub ended_tree : tree_seen given places' new ≡ shrink n stays before
      ended_tree =
          made new (λ i. new_ended i ∙ ap (λ (o : Option Node). with_node n o (nodes_seen old) i) (sym (left_by-none stays (nodes_seen old n) (sym ms ∙ none))))

      pub ended_sound : (q : ℕ) → q ≡ p → IsSound q (tree_seen given places' new)
      ended_sound q e = sound q new e ended_tree

      pub new_counted : AreCounted (nodes_seen new) (living_seen new)
      new_counted =
          ended_counted p n before s c (living_seen old) counted (nodes_seen new) new_ended (living_seen new)
          (λ i. lost i
          ∙ ap (λ (u : ℕ). cond (i == u) (living_seen gone part.parent - 1) (living_seen gone i)) part_up
          ∙ ap (λ (v : ℕ). cond (i == parent before n) (v - 1) (living_seen gone i)) up-living
          ∙ ap (λ (v : ℕ). cond (i == parent before n) (living_seen old (parent before n) - 1) v) (gone_living i))
