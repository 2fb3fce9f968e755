-- The tree that `root` makes.
use Rattle.std.proofs.Common.{◌≡◌, ℕ, zero, suc, ◌≤◌, false, List, [], ◌∷◌, Option, None, replicate, slice_index, refl, sym, ap, ◌∙◌, subst, ⊎_elim}
use Rattle.std.proofs.lemmas.Bool.{cases_eq}
use Rattle.fk_tree.specs.declared.node.Kind.TheVariants.{Asynchronous}
use Rattle.fk_tree.specs.Tree.{Node, Tree, kind_of, node_of, below, root}
use Rattle.fk_tree.specs.Sound.{IsSound}
use Rattle.fk_tree.specs.Seen.{Held, nodes_seen, living_seen, tree_seen, count_of, AreCounted}
use Rattle.fk_tree.proofs.Shapes.{with_same, with_other}
use Rattle.fk_tree.proofs.Trees.{tree_same}
use Rattle.fk_tree.proofs.RootSound.{root_sound}

zeros : (p h : ℕ) → slice_index (replicate p 0) h ≡ 0
zeros zero h = refl
zeros (suc p) zero = refl
zeros (suc p) (suc h) = zeros p h

count-alone : (nodes : ℕ → Option Node) (ms : List ℕ) (q : ℕ) → count_of nodes (kind_of (node_of ms q (Asynchronous false))) ≡ 0
count-alone nodes [] q = refl
count-alone nodes (m ∷ ms) q = refl

module _ (p : ℕ) (places : List ℕ) (held : Held) (zero_places : places ≡ replicate p 0) (nodes : (i : ℕ) → nodes_seen held i ≡ (root p).nodes i) where
  pub root_tree : tree_seen 1 places held ≡ root p
  root_tree = tree_same (tree_seen 1 places held) (root p) nodes refl (λ h. ap (λ (xs : List ℕ). slice_index xs h) zero_places ∙ zeros p h)

  pub root_tree_sound : (n : ℕ) → n ≡ p → 1 ≤ p → IsSound n (tree_seen 1 places held)
  root_tree_sound n e some =
      let s : IsSound p (tree_seen 1 places held) = subst (λ (t : Tree). IsSound p t) (sym root_tree) (root_sound p some) in
      subst (λ (m : ℕ). IsSound m (tree_seen 1 places held)) (sym e) s

  idle : (n : ℕ) → count_of (nodes_seen held) (kind_of ((root p).nodes n)) ≡ 0
  idle n =
      ⊎_elim
      (λ e. ap (λ (o : Option Node). count_of (nodes_seen held) (kind_of o)) (with_same 0 (node_of (below p []) 0 (Asynchronous false)) (λ j. None) n e) ∙ count-alone (nodes_seen held) (below p []) 0)
      (λ ne. ap (λ (o : Option Node). count_of (nodes_seen held) (kind_of o)) (with_other 0 (node_of (below p []) 0 (Asynchronous false)) (λ j. None) n ne))
      (cases_eq n 0)

  pub root_counted : ((i : ℕ) → living_seen held i ≡ 0) → AreCounted (nodes_seen held) (living_seen held)
  root_counted living n = living n ∙ sym (ap (λ (o : Option Node). count_of (nodes_seen held) (kind_of o)) (nodes n) ∙ idle n)
