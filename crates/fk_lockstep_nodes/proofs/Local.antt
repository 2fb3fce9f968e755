-- A step looks at its own node alone, and changes nothing but it, its parts, and where its members are.
use Rattle.std.proofs.Common.{◌≡◌, ◌≢◌, ℕ, ◌+◌, ◌<◌, ◌≤◌, true, false, true≢false, length, Option, refl, sym, ap, ◌∙◌, subst, arith}
use Rattle.std.specs.Prelude.{min}
use Rattle.fk_tree.specs.declared.node.Kind.TheVariants.{Lockstep, Waiting, Asynchronous}
use Rattle.fk_tree.specs.Tree as t
use Rattle.fk_tree.specs.Tree.{Node, Tree, members_of, node_of, is_in, is_from, is_member, first_part, left_by, kind_after}
use Rattle.fk_tree.proofs.Shapes.{with_other, from_within, from_above}
use Rattle.fk_meaning_operation.specs.declared.operation.Operation.{Operation}
use Rattle.fk_meaning_operation.specs.declared.operation.Operation.TheVariants as o
use Rattle.fk_meaning.specs.Processor.{Processor, values}
use Rattle.fk_meaning.specs.Group.{not_negative, parts, part, stays, changes}
use Rattle.fk_lockstep.specs.Untouched.{changes_tree}
use Rattle.fk_lockstep.proofs.Nodes.{Frame, kind_frame, shrink_frame, split_frame, new_nodes, old_nodes}

-- the tree that has one node at each number, and all at one place
abbrev pub lone : Option Node → (given place : ℕ) → Tree
lone node given place = record { nodes = λ k. node; given = given; places = λ h. place }

-- a step at node n
module _ (n : ℕ) (whose : ℕ → Processor) (highest low : ℕ) where
  abbrev stepped : Operation → Tree → Tree
  stepped op tree = changes op n whose highest low tree

  abbrev Begins : Operation → Type 0
  Begins op = op ≡ o.Begin → n ≡ 0

  -- ---- it looks at its own node

  node_by : (op : Operation) → Begins op → (tree : Tree) → (stepped op tree).nodes n ≡ (stepped op (lone (tree.nodes n) tree.given 0)).nodes n
  node_by o.Begin root tree =
      subst
      (λ m. (changes o.Begin m whose highest low tree).nodes m ≡ (changes o.Begin m whose highest low (lone (tree.nodes m) tree.given 0)).nodes m)
      (sym (root refl)) refl
  node_by (o.Split by) root tree = refl
  node_by o.Shrink root tree = refl
  node_by o.End root tree = refl
  node_by o.Farm root tree = refl
  node_by o.Seq root tree = refl
  node_by (o.Meet true) root tree = refl
  node_by (o.Meet false) root tree = refl
  node_by o.Resume root tree = refl
  node_by op root tree = refl

  place_by : (op : Operation) → Begins op → (tree : Tree) (h : ℕ) → (stepped op tree).places h ≡ (stepped op (lone (tree.nodes n) tree.given (tree.places h))).places h
  place_by o.Begin root tree h =
      subst
      (λ m. (changes o.Begin m whose highest low tree).places h ≡ (changes o.Begin m whose highest low (lone (tree.nodes m) tree.given (tree.places h))).places h)
      (sym (root refl)) refl
  place_by (o.Split by) root tree h = refl
  place_by o.Shrink root tree h = refl
  place_by o.End root tree h = refl
  place_by (o.Meet true) root tree h = refl
  place_by op root tree h = refl

  given_by : (op : Operation) (tree : Tree) → (stepped op tree).given ≡ (stepped op (lone (tree.nodes n) tree.given 0)).given
  given_by o.Begin tree = refl
  given_by (o.Split by) tree = refl
  given_by (o.Meet true) tree = refl
  given_by op tree = refl

  -- where a part has a number it is told by the node that was divided
  part_by : (op : Operation) → Begins op → (tree : Tree) (m : ℕ) → tree.given ≤ m → m < (stepped op tree).given
      → (stepped op tree).nodes m ≡ (stepped op (lone (tree.nodes n) tree.given 0)).nodes m
  part_by o.Begin root tree m from below =
      let one = lone (tree.nodes n) tree.given 0 in
      let new = from_within tree.given 1 m from below in
      subst
      (λ q. (changes o.Begin q whose highest low tree).nodes m ≡ (changes o.Begin q whose highest low (lone (tree.nodes q) tree.given 0)).nodes m)
      (sym (root refl))
      (new_nodes 0 1 (first_part (min (not_negative highest) (length (t.members tree 0)))) tree m new
      ∙ sym (new_nodes 0 1 (first_part (min (not_negative highest) (length (t.members tree 0)))) (lone (tree.nodes 0) tree.given 0) m new))
  part_by (o.Split by) root tree m from below =
      let k = parts by (values (whose low)) in
      let new = from_within tree.given k m from below in
      new_nodes n k (λ h. part by (values (whose h))) tree m new ∙ sym (new_nodes n k (λ h. part by (values (whose h))) (lone (tree.nodes n) tree.given 0) m new)
  part_by (o.Meet true) root tree m from below = absurd (omega (arith, from, below))
  part_by op root tree m from below = absurd (omega (arith, from, below))

  -- it does the same in all trees that have this node
  module _ (a b : Tree) (node : a.nodes n ≡ b.nodes n) (given : a.given ≡ b.given) (op : Operation) (root : Begins op) where
    lone_same : (place : ℕ) → lone (a.nodes n) a.given place ≡ lone (b.nodes n) b.given place
    lone_same place = λ i. lone (node i) (given i) place

    pub same_node : (stepped op a).nodes n ≡ (stepped op b).nodes n
    same_node = node_by op root a ∙ ap (λ x. (stepped op x).nodes n) (lone_same 0) ∙ sym (node_by op root b)

    pub same_given : (stepped op a).given ≡ (stepped op b).given
    same_given = given_by op a ∙ ap (λ x. (stepped op x).given) (lone_same 0) ∙ sym (given_by op b)

    pub same_part : (m : ℕ) → a.given ≤ m → m < (stepped op a).given → (stepped op a).nodes m ≡ (stepped op b).nodes m
    same_part m from below =
        part_by op root a m from below ∙ ap (λ x. (stepped op x).nodes m) (lone_same 0)
        ∙ sym (part_by op root b m (subst (λ g. g ≤ m) given from) (subst (λ g. m < g) same_given below))

    pub same_place : (h : ℕ) → a.places h ≡ b.places h → (stepped op a).places h ≡ (stepped op b).places h
    same_place h place = place_by op root a h ∙ (λ i. (stepped op (lone (node i) (given i) (place i))).places h) ∙ sym (place_by op root b h)

  -- ---- it changes nothing else

  pub step_frame : (op : Operation) → Begins op → (tree : Tree) → Frame n tree (stepped op tree)
  step_frame o.Begin root tree =
      subst (λ m. Frame m tree (changes o.Begin m whose highest low tree)) (sym (root refl)) (split_frame 0 1 (first_part (min (not_negative highest) (length (t.members tree 0)))) tree)
  step_frame (o.Split by) root tree = split_frame n (parts by (values (whose low))) (λ h. part by (values (whose h))) tree
  step_frame o.Shrink root tree = shrink_frame n (λ h. stays (whose h)) tree
  step_frame o.End root tree = shrink_frame n (λ h. false) tree
  step_frame o.Farm root tree = kind_frame n (Asynchronous false) tree
  step_frame o.Seq root tree = kind_frame n (Asynchronous true) tree
  step_frame (o.Meet true) root tree = kind_frame n Lockstep tree
  step_frame o.Resume root tree = kind_frame n (kind_after n) tree
  step_frame op root tree = record { given = let g = tree.given in let le : g ≤ g = omega arith in le; nodes = λ i lt ne. refl; places = λ h out. refl }

  split_beyond : (q k : ℕ) (into : ℕ → Option ℕ) (tree : Tree) (m : ℕ) → m ≢ q → tree.given + k ≤ m → (t.split q k into tree).nodes m ≡ tree.nodes m
  split_beyond q k into tree m ne beyond = old_nodes q k into tree m (from_above tree.given k m beyond) ∙ with_other q (t.turned (Waiting tree.given k) (tree.nodes q)) tree.nodes m ne

  -- behind all numbers that are given
  pub step_beyond : (op : Operation) → Begins op → (tree : Tree) (m : ℕ) → m ≢ n → (stepped op tree).given ≤ m → (stepped op tree).nodes m ≡ tree.nodes m
  step_beyond o.Begin root tree m ne beyond =
      split_beyond 0 1 (first_part (min (not_negative highest) (length (t.members tree n)))) tree m (λ e. ne (e ∙ sym (root refl))) beyond
  step_beyond (o.Split by) root tree m ne beyond = split_beyond n (parts by (values (whose low))) (λ h. part by (values (whose h))) tree m ne beyond
  step_beyond o.Shrink root tree m ne beyond = with_other n (left_by (λ h. stays (whose h)) (tree.nodes n)) tree.nodes m ne
  step_beyond o.End root tree m ne beyond = with_other n (left_by (λ h. false) (tree.nodes n)) tree.nodes m ne
  step_beyond o.Farm root tree m ne beyond = with_other n (t.turned (Asynchronous false) (tree.nodes n)) tree.nodes m ne
  step_beyond o.Seq root tree m ne beyond = with_other n (t.turned (Asynchronous true) (tree.nodes n)) tree.nodes m ne
  step_beyond (o.Meet true) root tree m ne beyond = with_other n (t.turned Lockstep (tree.nodes n)) tree.nodes m ne
  step_beyond o.Resume root tree m ne beyond = with_other n (t.turned (kind_after n) (tree.nodes n)) tree.nodes m ne
  step_beyond op root tree m ne beyond = refl

  -- an operation that changes no tree keeps this one
  pub step_keeps : (op : Operation) (tree : Tree) → changes_tree op ≡ false → stepped op tree ≡ tree
  step_keeps o.Begin tree e = absurd (true≢false e)
  step_keeps (o.Split by) tree e = absurd (true≢false e)
  step_keeps o.Shrink tree e = absurd (true≢false e)
  step_keeps o.End tree e = absurd (true≢false e)
  step_keeps o.Farm tree e = absurd (true≢false e)
  step_keeps o.Seq tree e = absurd (true≢false e)
  step_keeps (o.Meet true) tree e = absurd (true≢false e)
  step_keeps (o.Meet false) tree e = refl
  step_keeps o.Resume tree e = absurd (true≢false e)
  step_keeps op tree e = refl
