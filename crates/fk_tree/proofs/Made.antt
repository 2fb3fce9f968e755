-- The parts that are made of a copy of the members are those of the split.
use Rattle.std.proofs.Common.{◌≡◌, ◌≢◌, ℕ, ◌+◌, ◌<◌, ◌==◌, List, Option, None, slice_index, ap, ◌∙◌, if◌then◌else◌}
use Rattle.fk_tree.specs.declared.node.Kind.TheVariants.{Waiting}
use Rattle.fk_tree.specs.Tree.{Tree, members, with_node, turned, split, parts_by}
use Rattle.fk_tree.specs.Sound.{IsSound}
use Rattle.fk_tree.specs.Seen.{Held, nodes_seen, living_seen, tree_seen, living_parts, AreCounted, divided, placed_by}
use Rattle.fk_tree.proofs.Shapes.{some-given}
use Rattle.fk_tree.proofs.Turns.{IsLeaf}
use Rattle.fk_tree.proofs.Splits.{can_split, split_tree, split_tree_sound, split_counted}

module _ (p n k given given' : ℕ) (places places' lent out : List ℕ) (old mid new : Held) (ms of : List ℕ)
    (s : IsSound p (tree_seen given places old)) (there : (tree_seen given places old).nodes n ≢ None) (leaf : IsLeaf (tree_seen given places old) n)
    (more : given' ≡ given + k)
    (copy : ms ≡ members (tree_seen given places old) n)
    (lent_is : lent ≡ places) (out_is : places' ≡ out)
    (parted : (i : ℕ) → nodes_seen mid i ≡ divided given n k (parts_by k ms of) ms (nodes_seen old) i)
    (turn : (i : ℕ) → nodes_seen new i ≡ with_node n (turned (Waiting given k) (nodes_seen mid n)) (nodes_seen mid) i)
    (placed : (h : ℕ) → slice_index out h ≡ placed_by given (parts_by k ms of) ms (slice_index lent) h) where
  abbrev before : Tree
  before = tree_seen given places old

  abbrev part : ℕ → Option ℕ
  part = parts_by k (members before n) of

  lower : n < given
  lower = some-given p before s n there

  parted' : (i : ℕ) → nodes_seen mid i ≡ divided given n k part (members before n) (nodes_seen old) i
  parted' i = parted i ∙ ap (λ (xs : List ℕ). divided given n k (parts_by k xs of) xs (nodes_seen old) i) copy

  placed' : (h : ℕ) → slice_index places' h ≡ placed_by given part (members before n) (slice_index places) h
  placed' h =
      ap (λ (xs : List ℕ). slice_index xs h) out_is ∙ placed h
      ∙ ap (λ (xs : List ℕ). placed_by given (parts_by k xs of) xs (slice_index lent) h) copy
      ∙ ap (λ (xs : List ℕ). placed_by given part (members before n) (slice_index xs) h) lent_is

  pub made_tree : tree_seen given' places' new ≡ split n k part before
  made_tree = split_tree n k part given given' places places' old mid new lower more parted' turn placed'

  pub made_sound : (q : ℕ) → q ≡ p → IsSound q (tree_seen given' places' new)
  made_sound q e = split_tree_sound n k part given given' places places' old mid new lower more parted' turn placed' q p e s (can_split n k (members before n) of before there leaf)

  pub made_counted : (living : ℕ) → AreCounted (nodes_seen old) (living_seen old) → living ≡ living_parts (nodes_seen mid) given k
      → ((i : ℕ) → living_seen mid i ≡ living_seen old i)
      → ((i : ℕ) → living_seen new i ≡ (if i == n then living else living_seen mid i))
      → AreCounted (nodes_seen new) (living_seen new)
  made_counted living counted count kept changed =
      split_counted n k part given given' places places' old mid new lower more parted' turn placed' p living s there counted count kept changed
