-- The tree after a split.
use Rattle.std.proofs.Common.{◌≡◌, ◌≢◌, ⊎_elim, ℕ, ◌+◌, ◌-◌, ◌≤◌, ◌<◌, ◌==◌, nat_lt, true, false, List, [], ◌∷◌, Option, Some, None, is_none, slice_index, refl, sym, ap, ◌∙◌, subst, arith, filter, if◌then◌else◌}
use Rattle.std.proofs.lemmas.Bool.{cases_Bool, cases_eq, cases_lt, cond-true, cond-false, ltb-true, eq-eqb, ne_eqb}
use Rattle.fk_tree.specs.declared.node.Kind.TheVariants.{Lockstep, Waiting}
use Rattle.fk_tree.specs.Tree.{Node, Tree, kind_of, members, node_of, with_node, turned, with_kind, is_from, is_in, split, told, part_of, parts_by}
use Rattle.fk_tree.specs.Sound.{IsSound}
use Rattle.fk_tree.specs.Seen.{Held, nodes_seen, living_seen, tree_seen, living_parts, count_of, AreCounted, divided, placed_by}
use Rattle.fk_tree.proofs.Shapes.{with_same, with_other, from_below, from_parts, kind-turned}
use Rattle.fk_tree.proofs.Trees.{tree_same}
use Rattle.fk_tree.proofs.Counts.{count_along, kind_is_none}
use Rattle.fk_tree.proofs.Turns.{IsLeaf}
use Rattle.fk_tree.proofs.SplitSound.{CanSplit, split_sound}

part-below : (k i j : ℕ) → part_of k i ≡ Some j → j < k
part-below k i j e =
    ⊎_elim
    (λ in_part.
    let same : Some i ≡ Some j = sym (cond-true (nat_lt i k) (Some i) None in_part) ∙ e in
    let equal : i ≡ j = cc in
    let lt = ltb-true i k in_part in
    omega arith)
    (λ out. let none : None ≡ Some j = sym (cond-false (nat_lt i k) (Some i) None out) ∙ e in absurd (cc))
    (cases_Bool (nat_lt i k))

pub can_split : (n k : ℕ) (ms of : List ℕ) (t : Tree) → t.nodes n ≢ None → IsLeaf t n → CanSplit n k (parts_by k ms of) t
can_split n k ms of t there leaf = record { there = there; leaf = leaf; few = λ h j e. part-below k (told k ms of h) j e }

count-new : (nodes : ℕ → Option Node) (ms : List ℕ) (q : ℕ) → count_of nodes (kind_of (node_of ms q Lockstep)) ≡ 0
count-new nodes [] q = refl
count-new nodes (m ∷ ms) q = refl

module _ (n k : ℕ) (part : ℕ → Option ℕ) (given given' : ℕ) (places places' : List ℕ) (old mid new : Held)
    (lower : n < given)
    (more : given' ≡ given + k)
    (parted : (i : ℕ) → nodes_seen mid i ≡ divided given n k part (members (tree_seen given places old) n) (nodes_seen old) i)
    (turn : (i : ℕ) → nodes_seen new i ≡ with_node n (turned (Waiting given k) (nodes_seen mid n)) (nodes_seen mid) i)
    (placed : (h : ℕ) → slice_index places' h ≡ placed_by given part (members (tree_seen given places old) n) (slice_index places) h) where
  abbrev pub before : Tree
  before = tree_seen given places old

  abbrev group : ℕ → List ℕ
  group i = filter (λ h. is_in (i - given) (part h)) (members before n)

  mid_old : (i : ℕ) → is_from given k i ≡ false → nodes_seen mid i ≡ nodes_seen old i
  mid_old i out = parted i ∙ cond-false (is_from given k i) (node_of (group i) n Lockstep) (nodes_seen old i) out

  mid_new : (i : ℕ) → is_from given k i ≡ true → nodes_seen mid i ≡ node_of (group i) n Lockstep
  mid_new i e = parted i ∙ cond-true (is_from given k i) (node_of (group i) n Lockstep) (nodes_seen old i) e

  n-old : nodes_seen mid n ≡ nodes_seen old n
  n-old = mid_old n (from_below given k n lower)

  nodes : (i : ℕ) → nodes_seen new i ≡ (split n k part before).nodes i
  nodes i =
      ⊎_elim
      (λ is_new.
      let ne : i ≢ n = let low = (from_parts given k i is_new).0 in omega arith in
      turn i ∙ with_other n (turned (Waiting given k) (nodes_seen mid n)) (nodes_seen mid) i ne ∙ mid_new i is_new
      ∙ sym (cond-true (is_from given k i) (node_of (group i) n Lockstep) ((with_kind n (Waiting given k) before).nodes i) is_new))
      (λ is_old.
      ⊎_elim
      (λ e.
      turn i ∙ with_same n (turned (Waiting given k) (nodes_seen mid n)) (nodes_seen mid) i e
      ∙ ap (turned (Waiting given k)) n-old
      ∙ sym (with_same n (turned (Waiting given k) (nodes_seen old n)) (nodes_seen old) i e)
      ∙ sym (cond-false (is_from given k i) (node_of (group i) n Lockstep) ((with_kind n (Waiting given k) before).nodes i) is_old))
      (λ ne.
      turn i ∙ with_other n (turned (Waiting given k) (nodes_seen mid n)) (nodes_seen mid) i ne ∙ mid_old i is_old
      ∙ sym (with_other n (turned (Waiting given k) (nodes_seen old n)) (nodes_seen old) i ne)
      ∙ sym (cond-false (is_from given k i) (node_of (group i) n Lockstep) ((with_kind n (Waiting given k) before).nodes i) is_old))
      (cases_eq i n))
      (cases_Bool (is_from given k i))

  pub split_tree : tree_seen given' places' new ≡ split n k part before
  split_tree = tree_same (tree_seen given' places' new) (split n k part before) nodes more placed

  pub split_tree_sound : (p q : ℕ) → p ≡ q → IsSound q before → CanSplit n k part before → IsSound p (tree_seen given' places' new)
  split_tree_sound p q e s c =
      let s' : IsSound q (tree_seen given' places' new) = subst (λ (t : Tree). IsSound q t) (sym split_tree) (split_sound q n k part before s c) in
      subst (λ (m : ℕ). IsSound m (tree_seen given' places' new)) (sym e) s'

  -- the counts
  is_none_new : (i : ℕ) → is_none (nodes_seen new i) ≡ is_none (nodes_seen mid i)
  is_none_new i =
      ap is_none (turn i) ∙ kind_is_none n (Waiting given k) (tree_seen given places mid) i

  old_is_none : (i : ℕ) → i < given → is_none (nodes_seen old i) ≡ is_none (nodes_seen new i)
  old_is_none i lt = ap is_none (sym (mid_old i (from_below given k i lt))) ∙ sym (is_none_new i)

  pub split_counted : (p living : ℕ) → IsSound p before → before.nodes n ≢ None → AreCounted (nodes_seen old) (living_seen old)
      → living ≡ living_parts (nodes_seen mid) given k
      → ((i : ℕ) → living_seen mid i ≡ living_seen old i)
      → ((i : ℕ) → living_seen new i ≡ (if i == n then living else living_seen mid i))
      → AreCounted (nodes_seen new) (living_seen new)
  split_counted p living s there counted count kept changed i =
      ⊎_elim
      (λ e.
      changed i ∙ cond-true (i == n) living (living_seen mid i) (eq-eqb i n e) ∙ count
      ∙ count_along (nodes_seen mid) (nodes_seen new) (Some (Waiting given k)) (λ m w. sym (is_none_new m))
      ∙ ap (count_of (nodes_seen new)) (sym (ap kind_of (turn i ∙ with_same n (turned (Waiting given k) (nodes_seen mid n)) (nodes_seen mid) i e)
      ∙ kind-turned (Waiting given k) (nodes_seen mid n) (λ none. there (sym n-old ∙ none)))))
      (λ ne.
      let here = changed i ∙ cond-false (i == n) living (living_seen mid i) (ne_eqb i n ne) ∙ kept i ∙ counted i in
      let now : nodes_seen new i ≡ nodes_seen mid i = turn i ∙ with_other n (turned (Waiting given k) (nodes_seen mid n)) (nodes_seen mid) i ne in
      ⊎_elim
      (λ is_new.
      here
      ∙ ap (λ (o : Option Node). count_of (nodes_seen old) (kind_of o)) (s.numbered i (from_parts given k i is_new).0)
      ∙ sym (ap (λ (o : Option Node). count_of (nodes_seen new) (kind_of o)) (now ∙ mid_new i is_new) ∙ count-new (nodes_seen new) (group i) n))
      (λ is_old.
      here
      ∙ count_along (nodes_seen old) (nodes_seen new) (kind_of (nodes_seen old i)) (λ m w. old_is_none m (s.former i m w))
      ∙ ap (λ (o : Option Node). count_of (nodes_seen new) (kind_of o)) (sym (now ∙ mid_old i is_old)))
      (cases_Bool (is_from given k i)))
      (cases_eq i n)

-- where a split had no memory
module _ (given : ℕ) (places : List ℕ) (old mid new : Held)
    (parted : (i : ℕ) → i < given → nodes_seen mid i ≡ nodes_seen old i)
    (before : (i : ℕ) → i < given → nodes_seen new i ≡ nodes_seen mid i)
    (gone : (i : ℕ) → given ≤ i → nodes_seen new i ≡ None) where
  same_nodes : (p : ℕ) → IsSound p (tree_seen given places old) → (i : ℕ) → nodes_seen new i ≡ nodes_seen old i
  same_nodes p s i = ⊎_elim (λ lt. before i lt ∙ parted i lt) (λ le. gone i le ∙ sym (s.numbered i le)) (cases_lt i given)

  pub unsplit_tree : (p : ℕ) → IsSound p (tree_seen given places old) → tree_seen given places new ≡ tree_seen given places old
  unsplit_tree p s = tree_same (tree_seen given places new) (tree_seen given places old) (same_nodes p s) refl (λ h. refl)

  pub unsplit_sound : (p : ℕ) → IsSound p (tree_seen given places old) → IsSound p (tree_seen given places new)
  unsplit_sound p s = subst (λ (t : Tree). IsSound p t) (sym (unsplit_tree p s)) s

  unsplit_living : (p : ℕ) → IsSound p (tree_seen given places old) → AreCounted (nodes_seen old) (living_seen old)
      → ((i : ℕ) → living_seen mid i ≡ living_seen old i) → ((i : ℕ) → i < given → living_seen new i ≡ living_seen mid i)
      → ((i : ℕ) → given ≤ i → living_seen new i ≡ 0) → (i : ℕ) → living_seen new i ≡ living_seen old i
  unsplit_living p s counted kept before' gone' i =
      ⊎_elim
      (λ lt. before' i lt ∙ kept i)
      (λ le. gone' i le ∙ sym (counted i ∙ ap (λ (o : Option Node). count_of (nodes_seen old) (kind_of o)) (s.numbered i le)))
      (cases_lt i given)

  pub unsplit_counted : (p : ℕ) → IsSound p (tree_seen given places old) → AreCounted (nodes_seen old) (living_seen old)
      → ((i : ℕ) → living_seen mid i ≡ living_seen old i) → ((i : ℕ) → i < given → living_seen new i ≡ living_seen mid i)
      → ((i : ℕ) → given ≤ i → living_seen new i ≡ 0) → AreCounted (nodes_seen new) (living_seen new)
  unsplit_counted p s counted kept before' gone' i =
      unsplit_living p s counted kept before' gone' i ∙ counted i
      ∙ count_along (nodes_seen old) (nodes_seen new) (kind_of (nodes_seen old i)) (λ m w. ap is_none (sym (same_nodes p s m)))
      ∙ ap (λ (o : Option Node). count_of (nodes_seen new) (kind_of o)) (sym (same_nodes p s i))
