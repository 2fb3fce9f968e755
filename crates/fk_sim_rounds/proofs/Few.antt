-- No step of the tree makes a group of more members than there were in one.
use Rattle.std.proofs.Common.{◌≡◌, ℕ, ◌-◌, ◌≤◌, Bool, true, false, List, [], ◌∷◌, length, Option, Some, None, refl, arith}
use Rattle.std.specs.Prelude.{◌==◌, min, not, filter, if◌then◌else◌}
use Rattle.std.proofs.lemmas.List.Filters.{length-filter_both}
use Rattle.fk_tree.specs.declared.node.Kind.{Kind}
use Rattle.fk_tree.specs.declared.node.Kind.TheVariants.{Lockstep, Waiting, Asynchronous}
use Rattle.fk_tree.specs.Tree as t
use Rattle.fk_tree.specs.Tree.{Node, Tree}
use Rattle.fk_tree.proofs.Lists.{length-below}
use Rattle.fk_meaning_operation.specs.declared.operation.Operation.{Operation}
use Rattle.fk_meaning_operation.specs.declared.operation.Operation.TheVariants as o
use Rattle.fk_meaning.specs.Processor.{Processor, values}
use Rattle.fk_meaning.specs.Group.{not_negative, parts, part, stays, changes}
use Rattle.fk_meaning.specs.Round.{Step, Acting, lowest, who, agreed, change_by, all_changes}

-- each node has so many members at most
abbrev pub IsFew : (most : ℕ) → Tree → Type 0
IsFew most tree = (n : ℕ) → length (t.members tree n) ≤ most

filtered : (p : ℕ → Bool) (xs : List ℕ) → length (filter p xs) ≤ length xs
filtered p xs = let e = length-filter_both p (λ x. not (p x)) (λ x. refl) xs in omega (arith, e)

node_members : (ms : List ℕ) (parent : ℕ) (kind : Kind) → length (t.members_of (t.node_of ms parent kind)) ≡ length ms
node_members [] parent kind = refl
node_members (m ∷ ms) parent kind = refl

turned_members : (kind : Kind) (node : Option Node) → length (t.members_of (t.turned kind node)) ≡ length (t.members_of node)
turned_members kind None = refl
turned_members kind (Some node) = refl

module _ (most : ℕ) where
  either : (b : Bool) (x y : Option Node) → length (t.members_of x) ≤ most → length (t.members_of y) ≤ most → length (t.members_of (if b then x else y)) ≤ most
  either true x y p q = p
  either false x y p q = q

  with_kind_few : (n : ℕ) (kind : Kind) (tree : Tree) → IsFew most tree → IsFew most (t.with_kind n kind tree)
  with_kind_few n kind tree few i =
      let e = turned_members kind (tree.nodes n) in
      let f = few n in
      either (i == n) (t.turned kind (tree.nodes n)) (tree.nodes i) (omega (arith, e, f)) (few i)

  split_few : (n k : ℕ) (part : ℕ → Option ℕ) (tree : Tree) → IsFew most tree → IsFew most (t.split n k part tree)
  split_few n k part tree few i =
      let own = filter (λ h. t.is_in (i - tree.given) (part h)) (t.members tree n) in
      let e = node_members own n Lockstep in
      let f = filtered (λ h. t.is_in (i - tree.given) (part h)) (t.members tree n) in
      let g = few n in
      either (t.is_from tree.given k i) (t.node_of own n Lockstep) ((t.with_kind n (Waiting tree.given k) tree).nodes i) (omega (arith, e, f, g))
      (with_kind_few n (Waiting tree.given k) tree few i)

  left_few : (stays : ℕ → Bool) (node : Option Node) → length (t.members_of node) ≤ most → length (t.members_of (t.left_by stays node)) ≤ most
  left_few stays None few = few
  left_few stays (Some node) few =
      let e = node_members (filter stays node.members) node.parent node.kind in
      let f = filtered stays node.members in
      omega (arith, e, f, few)

  shrink_few : (n : ℕ) (stays : ℕ → Bool) (tree : Tree) → IsFew most tree → IsFew most (t.shrink n stays tree)
  shrink_few n stays tree few i = either (i == n) (t.left_by stays (tree.nodes n)) (tree.nodes i) (left_few stays (tree.nodes n) (few n)) (few i)

  changes_few : (operation : Operation) (n : ℕ) (of : ℕ → Processor) (highest lowest' : ℕ) (tree : Tree) → IsFew most tree
      → IsFew most (changes operation n of highest lowest' tree)
  changes_few o.Begin n of highest lowest' tree few = split_few 0 1 (t.first_part (min (not_negative highest) (length (t.members tree n)))) tree few
  changes_few (o.Split by) n of highest lowest' tree few = split_few n (parts by (values (of lowest'))) (λ h. part by (values (of h))) tree few
  changes_few o.Shrink n of highest lowest' tree few = shrink_few n (λ h. stays (of h)) tree few
  changes_few o.End n of highest lowest' tree few = shrink_few n (λ h. false) tree few
  changes_few o.Farm n of highest lowest' tree few = with_kind_few n _ tree few
  changes_few o.Seq n of highest lowest' tree few = with_kind_few n _ tree few
  changes_few (o.Meet true) n of highest lowest' tree few = with_kind_few n _ tree few
  changes_few o.Resume n of highest lowest' tree few = with_kind_few n _ tree few
  changes_few operation n of highest lowest' tree few = few

  module _ {W : Type 0} (actings : List (Acting W)) (old : Tree) where
    change_few : (h : ℕ) (due : Option (Step W)) (tree : Tree) → IsFew most tree → IsFew most (change_by actings old h due tree)
    change_few h None tree few = few
    change_few h (Some step) tree few = by (h == lowest members)
      where
        members : List ℕ
        members = t.members old (old.places h)

        new : Tree
        new = changes step.operation (old.places h) (who actings) (agreed actings members) h tree

        by : (b : Bool) → IsFew most (if b then new else tree)
        by true = changes_few step.operation (old.places h) (who actings) (agreed actings members) h tree few
        by false = few

    pub all_few : (others : List (Acting W)) (tree : Tree) → IsFew most tree → IsFew most (all_changes actings old others tree)
    all_few [] tree few = few
    all_few (a ∷ others) tree few = all_few others (change_by actings old a.runner.has.number a.due tree) (change_few a.runner.has.number a.due tree few)

pub root_few : (p : ℕ) → IsFew p (t.root p)
root_few p i =
    let e = node_members (t.below p []) 0 (Asynchronous false) in
    let f = length-below p [] in
    either p (i == 0) (t.node_of (t.below p []) 0 (Asynchronous false)) None (omega (arith, e, f)) (omega arith)
