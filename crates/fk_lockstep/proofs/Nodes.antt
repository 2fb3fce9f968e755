-- What a step at one node makes of the nodes and of the places of the processors.
use Rattle.std.proofs.Common.{◌≡◌, ◌≢◌, ⊎_elim, ℕ, ◌+◌, ◌-◌, ◌<◌, ◌≤◌, ◌&&◌, Bool, true, false, not, List, filter, Option, Some, None, refl, sym, ap, ◌∙◌, arith}
use Rattle.std.proofs.lemmas.Bool.{cases_Bool, cond-true, cond-false, and_from, and_left, and_right, not_from_true, not_from_false}
use Rattle.fk_tree.specs.declared.node.Kind.{Kind}
use Rattle.fk_tree.specs.declared.node.Kind.TheVariants.{Lockstep, Waiting}
use Rattle.fk_tree.specs.Tree as t
use Rattle.fk_tree.specs.Tree.{Node, Tree, members, members_of, parent, parent_of, is_member, node_of, with_kind, is_from, is_in, place_in, left_by}
use Rattle.fk_tree.specs.Sound.{Has}
use Rattle.fk_tree.proofs.Shapes.{with_same, with_other, parent-node_of, kind_members, kind_parent, kind_none, from_below}

-- what it leaves of the others
pub record Frame (n : ℕ) (tree tree' : Tree) : Type 0 where
  pub given : tree.given ≤ tree'.given
  pub nodes : (i : ℕ) → i < tree.given → i ≢ n → tree'.nodes i ≡ tree.nodes i
  pub places : (h : ℕ) → is_member h (members tree n) ≡ false → tree'.places h ≡ tree.places h

-- and whose parts the nodes are
pub record Turn (n : ℕ) (tree tree' : Tree) : Type 0 where
  pub frame : Frame n tree tree'
  pub up : tree'.nodes n ≢ None → parent tree' n ≡ parent tree n
  pub new_up : (m : ℕ) → tree.given ≤ m → tree'.nodes m ≢ None → parent tree' m ≡ n

abbrev pub Numbered : Tree → Type 0
Numbered tree = (m : ℕ) → tree.given ≤ m → tree.nodes m ≡ None

le_same : (n : ℕ) → n ≤ n
le_same n = omega arith

le_more : (n k : ℕ) → n ≤ n + k
le_more n k = omega arith

-- another kind
pub kind_frame : (n : ℕ) (k : Kind) (tree : Tree) → Frame n tree (with_kind n k tree)
kind_frame n k tree = record { given = le_same tree.given; nodes = λ i lt ne. with_other n (t.turned k (tree.nodes n)) tree.nodes i ne; places = λ h out. refl }

pub kind_turn : (n : ℕ) (k : Kind) (tree : Tree) → Numbered tree → Turn n tree (with_kind n k tree)
kind_turn n k tree numbered = record {
  frame = kind_frame n k tree;
  up = λ some. kind_parent n k tree n;
  new_up = λ m le some. absurd (some (kind_none n k tree m (numbered m le)));
}

-- some of its members leave it
module _ (n : ℕ) (keep : ℕ → Bool) (tree : Tree) where
  abbrev smaller : Tree
  smaller = t.shrink n keep tree

  pub n_nodes : smaller.nodes n ≡ left_by keep (tree.nodes n)
  n_nodes = with_same n (left_by keep (tree.nodes n)) tree.nodes n refl

  pub other_nodes : (i : ℕ) → i ≢ n → smaller.nodes i ≡ tree.nodes i
  other_nodes i ne = with_other n (left_by keep (tree.nodes n)) tree.nodes i ne

  left_parent : (o' : Option Node) → left_by keep o' ≢ None → parent_of (left_by keep o') ≡ parent_of o'
  left_parent None some = refl
  left_parent (Some a) some = parent-node_of (filter keep a.members) a.parent a.kind some

  pub smaller_parent : smaller.nodes n ≢ None → parent smaller n ≡ parent tree n
  smaller_parent some = ap parent_of n_nodes ∙ left_parent (tree.nodes n) (λ none. some (n_nodes ∙ none))

  abbrev goes : ℕ → Bool
  goes h = is_member h (members tree n) && not (keep h)

  pub gone : (h : ℕ) → Has tree n h → keep h ≡ false → smaller.places h ≡ parent tree n
  gone h is stay = cond-true (goes h) (parent tree n) (tree.places h) (and_from (is_member h (members tree n)) (not (keep h)) is (not_from_false (keep h) stay))

  pub still : (h : ℕ) → keep h ≡ true → smaller.places h ≡ tree.places h
  still h stay = cond-false (goes h) (parent tree n) (tree.places h) (and_right (is_member h (members tree n)) (not (keep h)) (not_from_true (keep h) stay))

  pub away : (h : ℕ) → is_member h (members tree n) ≡ false → smaller.places h ≡ tree.places h
  away h out = cond-false (goes h) (parent tree n) (tree.places h) (and_left (is_member h (members tree n)) (not (keep h)) out)

  pub shrink_frame : Frame n tree smaller
  shrink_frame = record { given = le_same tree.given; nodes = λ i lt ne. other_nodes i ne; places = away }

  pub shrink_turn : Numbered tree → n < tree.given → Turn n tree smaller
  shrink_turn numbered given = record {
    frame = shrink_frame;
    up = smaller_parent;
    new_up = λ m le some.
        let ne : m ≢ n = λ e. let same : n ≡ m = sym e in absurd (omega (arith, le, given, same)) in
        absurd (some (other_nodes m ne ∙ numbered m le));
  }

-- it is parted
module _ (n k : ℕ) (into : ℕ → Option ℕ) (tree : Tree) where
  abbrev larger : Tree
  larger = t.split n k into tree

  abbrev is_new : ℕ → Bool
  is_new i = is_from tree.given k i

  abbrev group : ℕ → List ℕ
  group i = filter (λ h. is_in (i - tree.given) (into h)) (members tree n)

  pub new_nodes : (i : ℕ) → is_new i ≡ true → larger.nodes i ≡ node_of (group i) n Lockstep
  new_nodes i e = cond-true (is_new i) (node_of (group i) n Lockstep) ((with_kind n (Waiting tree.given k) tree).nodes i) e

  pub old_nodes : (i : ℕ) → is_new i ≡ false → larger.nodes i ≡ (with_kind n (Waiting tree.given k) tree).nodes i
  old_nodes i e = cond-false (is_new i) (node_of (group i) n Lockstep) ((with_kind n (Waiting tree.given k) tree).nodes i) e

  pub split_members : n < tree.given → members larger n ≡ members tree n
  split_members given = ap members_of (old_nodes n (from_below tree.given k n given)) ∙ kind_members n (Waiting tree.given k) tree n

  pub split_places : (h : ℕ) → Has tree n h → larger.places h ≡ place_in (tree.places h) tree.given (into h)
  split_places h is = cond-true (is_member h (members tree n)) (place_in (tree.places h) tree.given (into h)) (tree.places h) is

  pub split_away : (h : ℕ) → is_member h (members tree n) ≡ false → larger.places h ≡ tree.places h
  split_away h out = cond-false (is_member h (members tree n)) (place_in (tree.places h) tree.given (into h)) (tree.places h) out

  pub new_parent : (m : ℕ) → is_new m ≡ true → larger.nodes m ≢ None → parent larger m ≡ n
  new_parent m e some =
      let some' : node_of (group m) n Lockstep ≢ None = λ none. some (new_nodes m e ∙ none) in
      ap parent_of (new_nodes m e) ∙ parent-node_of (group m) n Lockstep some'

  pub split_frame : Frame n tree larger
  split_frame = record {
    given = le_more tree.given k;
    nodes = λ i lt ne. old_nodes i (from_below tree.given k i lt) ∙ with_other n (t.turned (Waiting tree.given k) (tree.nodes n)) tree.nodes i ne;
    places = split_away;
  }

  pub split_turn : Numbered tree → n < tree.given → Turn n tree larger
  split_turn numbered given = record {
    frame = split_frame;
    up = λ some. ap parent_of (old_nodes n (from_below tree.given k n given)) ∙ kind_parent n (Waiting tree.given k) tree n;
    new_up = λ m le some.
        ⊎_elim (λ e. new_parent m e some)
        (λ e. absurd (some (old_nodes m e ∙ kind_none n (Waiting tree.given k) tree m (numbered m le))))
        (cases_Bool (is_new m));
  }
