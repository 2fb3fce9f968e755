-- A node that a round leaves as it was is the same in both plans.
use Rattle.std.proofs.Common.{◌≡◌, ℕ, zero, suc, ◌+◌, ◌<◌, List, length, true, Some, None, sym, ap, subst, ◌∙◌, refl, arith}
use Rattle.std.specs.Prelude.{is_some, if◌then◌else◌}
use Rattle.std.proofs.lemmas.Bool.{and_parts}
use Rattle.fk_space.specs.Space.{Space}
use Rattle.fk_tree.specs.Tree as trees
use Rattle.fk_tree.specs.Tree.{Tree, Node, kind_of, members_of, is_from, is_member}
use Rattle.fk_sim_match.specs.Plan.{IsOpen}
use Rattle.fk_sim_block.specs.Node.{barrier_word}
use Rattle.fk_sim_match.specs.Nodes.{first_of, own_words, owns, HaveSpaces, body_at, meeters_at, plan_of}
use Rattle.fk_sim_match.specs.Behind.{runs_of}
use Rattle.fk_sim_match.proofs.Nodes.{tells, open_at}

-- at a node that is there the same members meet at its words
pub record SameWords (old tree : Tree) (spaces : ℕ → Space) (g : ℕ) : Type 0 where
  pub spaced : HaveSpaces old spaces
  pub spaced' : HaveSpaces tree spaces
  pub there : is_some (old.nodes g) ≡ true
  pub there' : is_some (tree.nodes g) ≡ true
  pub given : g < old.given
  pub given' : g < tree.given
  pub meet : (offset : ℕ) → meeters_at tree g offset ≡ meeters_at old g offset

-- all of it is the same
pub record SameNode (old tree : Tree) (spaces : ℕ → Space) (g : ℕ) : Type 0 where
  pub words : SameWords old tree spaces g
  pub node : tree.nodes g ≡ old.nodes g
  pub kind : trees.kind tree g ≡ trees.kind old g

at_by : (old tree : Tree) (g offset : ℕ) → tree.nodes g ≡ old.nodes g → meeters_at tree g offset ≡ meeters_at old g offset
at_by old tree g zero e = ap (λ x. body_at (kind_of x) g (members_of x)) e
at_by old tree g (suc zero) e = ap members_of e
at_by old tree g (suc (suc o)) e = refl

pub same_node : (old tree : Tree) (spaces : ℕ → Space) (g : ℕ) → HaveSpaces old spaces → HaveSpaces tree spaces → is_some (old.nodes g) ≡ true → g < old.given → g < tree.given
    → tree.nodes g ≡ old.nodes g → SameNode old tree spaces g
same_node old tree spaces g spaced spaced' there given given' node = record {
  words = record {
    spaced = spaced;
    spaced' = spaced';
    there = there;
    there' = ap is_some node ∙ there;
    given = given;
    given' = given';
    meet = λ offset. at_by old tree g offset node;
  };
  node = node;
  kind = ap kind_of node;
}

pub own_there : (tree : Tree) (spaces : ℕ → Space) (g w : ℕ) → owns tree spaces g w ≡ true → is_some (tree.nodes g) ≡ true
own_there tree spaces g w own = (and_parts (is_some (tree.nodes g)) (is_from (first_of spaces g) (own_words spaces g (trees.kind tree g)) w) own).0

module _ (old tree : Tree) (spaces : ℕ → Space) (nodes nodes' : List ℕ) (g : ℕ) (same : SameWords old tree spaces g) where
  -- a word of its header, in both plans
  record Words (w : ℕ) : Type 0 where
    own : (plan_of old spaces nodes).words g w ≡ true
    own' : (plan_of tree spaces nodes').words g w ≡ true
    arrivals : (plan_of tree spaces nodes').arrivals w ≡ (plan_of old spaces nodes).arrivals w
    size : (plan_of old spaces nodes).size w ≡ (plan_of tree spaces nodes').size w
    member : (h : ℕ) → (plan_of tree spaces nodes').member w h ≡ (plan_of old spaces nodes).member w h

  words_at : (offset : ℕ) → offset < 8 → Words (first_of spaces g + offset)
  words_at offset few =
      let a = tells old spaces same.spaced nodes g offset same.there same.given few in
      let b = tells tree spaces same.spaced' nodes' g offset same.there' same.given' few in
      record {
        own = a.own;
        own' = b.own;
        arrivals = b.arrival ∙ sym a.arrival;
        size = a.size ∙ ap (λ l. length l) (sym (same.meet offset)) ∙ sym b.size;
        member = λ h. b.member h ∙ ap (λ l. is_member h l) (same.meet offset) ∙ sym (a.member h);
      }

  pub runs_same : (number : ℕ) → runs_of (plan_of old spaces nodes) (first_of spaces g) number ≡ runs_of (plan_of tree spaces nodes') (first_of spaces g) number
  runs_same number =
      let first = words_at 0 (omega arith) in
      let w = first_of spaces g + barrier_word in
      ap (λ b. if b then Some ((plan_of old spaces nodes).size w) else None) (sym (first.member number))
      ∙ ap (λ n. if (plan_of tree spaces nodes').member w number then Some n else None) first.size

  was_open : (w : ℕ) → IsOpen (plan_of old spaces nodes) g w → Words w
  was_open w is_open = let x = open_at old spaces same.spaced nodes g w same.given is_open in subst Words x.word (words_at x.offset x.few)

  is_open_now : (w : ℕ) → IsOpen (plan_of tree spaces nodes') g w → Words w
  is_open_now w is_open = let x = open_at tree spaces same.spaced' nodes' g w same.given' is_open in subst Words x.word (words_at x.offset x.few)

  pub opens_still : (w : ℕ) → IsOpen (plan_of old spaces nodes) g w → IsOpen (plan_of tree spaces nodes') g w
  opens_still w is_open = let x = was_open w is_open in (x.own', x.arrivals ∙ is_open.1)

  pub opened_before : (w : ℕ) → IsOpen (plan_of tree spaces nodes') g w → IsOpen (plan_of old spaces nodes) g w
  opened_before w is_open = let x = is_open_now w is_open in (x.own, sym x.arrivals ∙ is_open.1)

  pub member_still : (w number : ℕ) → IsOpen (plan_of old spaces nodes) g w → (plan_of tree spaces nodes').member w number ≡ (plan_of old spaces nodes).member w number
  member_still w number is_open = (was_open w is_open).member number

  pub size_still : (w : ℕ) → IsOpen (plan_of tree spaces nodes') g w → (plan_of old spaces nodes).size w ≡ (plan_of tree spaces nodes').size w
  size_still w is_open = (is_open_now w is_open).size
