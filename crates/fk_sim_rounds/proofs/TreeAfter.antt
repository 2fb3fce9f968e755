-- What a known round leaves of the tree: each node turns, ends, shrinks, divides or stays, and who was in one that ends, or leaves a loop, comes to its parent.
use Rattle.std.proofs.Common.{◌≡◌, ◌≢◌, ℕ, zero, suc, ◌+◌, ◌-◌, ◌≤◌, ◌<◌, List, [], ◌∷◌, length, Option, Some, None, Bool, true, false, sym, ap, subst, ◌∙◌, refl, arith, ◌⊎◌, inl, inr, ⊎_elim, filter, eq-eqb}
use Rattle.std.specs.Prelude.{◌&&◌, ◌||◌, not, nat_le, is_some, if◌then◌else◌}
use Rattle.std.proofs.lemmas.Bool.{cases_lt, cases_eq, ne_eqb, lt-leb, leb-false, or_parts, or_from, cond-true, cond-false, false≢true}
use Rattle.std.proofs.lemmas.List.{length-map}
use Rattle.fk_tree.specs.declared.node.Kind.{Kind}
use Rattle.fk_tree.specs.declared.node.Kind.TheVariants.{Lockstep, Waiting, Asynchronous}
use Rattle.fk_tree.specs.Tree as trees
use Rattle.fk_tree.specs.Tree.{Tree, Node, kind_of, members_of, parent_of, node_of, with_node, turned, left_by, kind_after, is_in, is_from, is_member, place_in}
use Rattle.fk_tree.specs.Sound.{Has, awaits, IsSound}
use Rattle.fk_tree.proofs.Lists.{member_kept}
use Rattle.fk_tree.proofs.Shapes.{with_same, some-given, has_some, awaits-some, members-turned, parent-turned, kind-turned, members-node_of, parent-node_of, kind-node_of, from_below, from_within}
use Rattle.fk_meaning_operation.specs.declared.operation.SplitKind.{SplitKind}
use Rattle.fk_meaning_operation.specs.declared.operation.Operation.{Operation}
use Rattle.fk_meaning_operation.specs.declared.operation.Operation.TheVariants as o
use Rattle.fk_meaning.specs.Processor.{Processor, values}
use Rattle.fk_meaning.specs.Group.{part, parts, stays}
use Rattle.fk_meaning.specs.Round.{lowest, who}
use Rattle.fk_lockstep_nodes.specs.Steps.{MayStep, tree_by, NodesStep}
use Rattle.fk_lockstep_nodes.proofs.Nodes.{nodes_step}
use Rattle.fk_sim_match.specs.Change.{HasSame}
use Rattle.fk_sim_match.proofs.Rounds.{not_none, leaf_place, lockstep_kind}
use Rattle.fk_sim_block.specs.Owner.{Doing}
use Rattle.fk_lockstep.proofs.Changes.{few}
use Rattle.fk_sim_rounds.specs.After.{actings, tree_after, ArePlaces}
use Rattle.fk_sim_rounds.specs.Rounds.{StepIsKnown, IsKnownRound}
use Rattle.fk_sim_rounds.proofs.Moved.{TreeMoves, has_same, kind_there, lowest_there}

-- ---- one step

filter_none : (xs : List ℕ) → filter (λ h. false) xs ≡ []
filter_none [] = refl
filter_none (x ∷ xs) = filter_none xs

nobody_left : (x : Option Node) → left_by (λ h. false) x ≡ None
nobody_left None = refl
nobody_left (Some node) = ap (λ ms. node_of ms node.parent node.kind) (filter_none node.members)

left_members : (stays : ℕ → Bool) (x : Option Node) → members_of (left_by stays x) ≡ filter stays (members_of x)
left_members stays None = refl
left_members stays (Some node) = members-node_of (filter stays node.members) node.parent node.kind

left_parent : (stays : ℕ → Bool) (x : Option Node) → left_by stays x ≢ None → parent_of (left_by stays x) ≡ parent_of x
left_parent stays None some = refl
left_parent stays (Some node) some = parent-node_of (filter stays node.members) node.parent node.kind some

left_kind : (stays : ℕ → Bool) (x : Option Node) → left_by stays x ≢ None → kind_of (left_by stays x) ≡ kind_of x
left_kind stays None some = refl
left_kind stays (Some node) some = kind-node_of (filter stays node.members) node.parent node.kind some

-- a node does nothing, or a step
pub none_or_some : (x : Option Operation) → (x ≡ None) ⊎ ((operation : Operation) × (x ≡ Some operation))
none_or_some None = inl refl
none_or_some (Some operation) = inr (operation, refl)

-- it ends, or not
pub ends_or : (x : Option Operation) → (x ≡ Some o.End) ⊎ (x ≢ Some o.End)
ends_or None = inr (λ e. absurd (cc))
ends_or (Some o.End) = inl refl
ends_or (Some operation) = inr (λ e. absurd (cc))

-- steps by which some of those who stand at a node come to another one
abbrev pub moves_some : Operation → Bool
moves_some o.End = true
moves_some o.Shrink = true
moves_some (o.Split by) = true
moves_some operation = false

abbrev pub some_move : Option Operation → Bool
some_move None = false
some_move (Some operation) = moves_some operation

-- steps by which a node loses members
abbrev pub loses_some : Operation → Bool
loses_some o.End = true
loses_some o.Shrink = true
loses_some operation = false

abbrev pub some_leave : Option Operation → Bool
some_leave None = false
some_leave (Some operation) = loses_some operation

pub no_leave : (x : Option Operation) → some_move x ≡ false → some_leave x ≡ false
no_leave None ne = refl
no_leave (Some o.End) ne = absurd (false≢true (sym ne))
no_leave (Some o.Shrink) ne = absurd (false≢true (sym ne))
no_leave (Some operation) ne = refl

-- by which step some move, or that nobody does
pub data Moving (x : Option Operation) : Type 0 where
  ByEnd : x ≡ Some o.End → Moving x
  ByShrink : x ≡ Some o.Shrink → Moving x
  BySplit : (by : SplitKind) → x ≡ Some (o.Split by) → Moving x
  ByNone : some_move x ≡ false → Moving x

pub moving : (x : Option Operation) → Moving x
moving None = ByNone refl
moving (Some o.End) = ByEnd refl
moving (Some o.Shrink) = ByShrink refl
moving (Some (o.Split by)) = BySplit by refl
moving (Some operation) = ByNone refl

pub some_not_none : (operation : Operation) (x : Option Operation) → x ≡ Some operation → x ≡ None → ⊥
some_not_none operation x is none = let e : Some operation ≡ None = sym is ∙ none in absurd (cc)

none_by : (x : Option Operation) → is_some x ≡ false → x ≡ None
none_by None e = refl
none_by (Some operation) e = absurd (cc)

is_there : (x : Option Node) (k : Kind) → kind_of x ≡ Some k → x ≢ None
is_there x k kind = not_none x (kind_there x k kind)

-- ---- parts

-- one waits, or enters a part
pub waits_or : (x : Option ℕ) → (x ≡ None) ⊎ ((i : ℕ) × (x ≡ Some i))
waits_or None = inl refl
waits_or (Some i) = inr (i, refl)

module _ (p : ℕ) (old : Tree) (sound : IsSound p old) where
  group_steps : (g : ℕ) (operation : Operation) → trees.kind old g ≡ Some Lockstep → (operation ≡ o.Begin → ⊥) → MayStep old g operation
  group_steps g operation kind ne = record {
    there = is_there (old.nodes g) Lockstep kind;
    stand = λ h has. leaf_place p old sound g h kind has;
    root = λ e. absurd (ne e);
  }

  -- all who are of the node stand there
  may_step : (g : ℕ) (operation : Operation) → StepIsKnown old g operation → MayStep old g operation
  may_step g o.Resume known = record { there = is_there (old.nodes g) (Waiting known.0.0 known.0.1) known.0.2; stand = known.1; root = λ e. absurd (cc) }
  may_step g (o.Meet true) known = record { there = is_there (old.nodes g) (Asynchronous known.0.0) known.0.1; stand = known.1; root = λ e. absurd (cc) }
  may_step g o.Farm known = group_steps g o.Farm known (λ e. cc)
  may_step g o.Seq known = group_steps g o.Seq known (λ e. cc)
  may_step g o.End known = group_steps g o.End known (λ e. cc)
  may_step g (o.Split by) known = group_steps g (o.Split by) known (λ e. cc)
  may_step g o.Shrink known = group_steps g o.Shrink known.0 (λ e. cc)
  may_step g operation known = absurd known

  -- some come to another node only from a group
  pub moving_group : (g : ℕ) (operation : Operation) → moves_some operation ≡ true → StepIsKnown old g operation → trees.kind old g ≡ Some Lockstep
  moving_group g o.End moves known = known
  moving_group g o.Shrink moves known = known.0
  moving_group g (o.Split by) moves known = known
  moving_group g operation moves known = absurd (false≢true moves)

  -- ---- a group that ends

  module _ (g : ℕ) (kind : trees.kind old g ≡ Some Lockstep) where
    pub not_root : g ≢ 0
    not_root e = sound.free (ap (trees.kind old) (sym e) ∙ kind)

    pub parent_waits : awaits (trees.kind old (trees.parent old g)) g ≡ true
    parent_waits = sound.awaited g not_root (is_there (old.nodes g) Lockstep kind)

    pub parent_given : trees.parent old g < old.given
    parent_given = some-given p old sound (trees.parent old g) (awaits-some old (trees.parent old g) g parent_waits)

    pub no_group_waits : (k : ℕ) → trees.kind old k ≡ Some Lockstep → trees.parent old g ≢ k
    no_group_waits k lock e = false≢true (sym (ap (λ x. awaits x g) (ap (trees.kind old) e ∙ lock)) ∙ parent_waits)

    -- somebody is in it, and not at its parent
    away_from : ((h : ℕ) → Has old (trees.parent old g) h → old.places h ≡ trees.parent old g) → ⊥
    away_from stand =
        let there = is_there (old.nodes g) Lockstep kind in
        let h = lowest (trees.members old g) in
        let member = lowest_there (trees.members old g) (λ empty. there (sound.living g empty)) in
        no_group_waits g kind (sym (stand h (sound.among g h not_root member)) ∙ leaf_place p old sound g h kind member)

    waiting_stays : (operation : Operation) → StepIsKnown old (trees.parent old g) operation → ⊥
    waiting_stays o.Resume known = away_from known.1
    waiting_stays (o.Meet true) known = false≢true (sym (ap (λ x. awaits x g) known.0.1) ∙ parent_waits)
    waiting_stays o.Farm known = no_group_waits (trees.parent old g) known refl
    waiting_stays o.Seq known = no_group_waits (trees.parent old g) known refl
    waiting_stays o.End known = no_group_waits (trees.parent old g) known refl
    waiting_stays (o.Split by) known = no_group_waits (trees.parent old g) known refl
    waiting_stays o.Shrink known = no_group_waits (trees.parent old g) known.0 refl
    waiting_stays operation known = absurd known

-- ---- all of them

module _ (p : ℕ) (old : Tree) (sound : IsSound p old) (ds : List Doing) (round : IsKnownRound old ds) (many : length ds ≡ p) where
  abbrev new : Tree
  new = tree_after old ds

  abbrev pub whose : ℕ → Processor
  whose = who (actings ds)

  pub step : NodesStep old (tree_after old ds) (who (actings ds)) round.does
  step = nodes_step (actings ds) old p sound round.does (λ g operation is. may_step p old sound g operation (round.known g operation is)) (length-map ds (λ d. d.acting) ∙ many) round.steps

  -- the tree that one node's step makes
  abbrev by : (k : ℕ) → Option Operation → Tree
  by k does = tree_by old (who (actings ds)) (step.first k) k does

  pub known_there : (k : ℕ) (operation : Operation) → StepIsKnown old k operation → old.nodes k ≢ None
  known_there k operation known = (may_step p old sound k operation known).there

  pub known_given : (k : ℕ) (operation : Operation) → round.does k ≡ Some operation → k < old.given
  known_given k operation is = some-given p old sound k (known_there k operation (round.known k operation is))

  node_by : (k : ℕ) (operation : Operation) → round.does k ≡ Some operation → (tree_after old ds).nodes k ≡ (by k (Some operation)).nodes k
  node_by k operation is = step.nodes k (known_given k operation is) ∙ ap (λ x. (by k x).nodes k) is

  -- a node that nobody divides gives no parts
  no_part : (k : ℕ) (operation : Operation) → ((kind : SplitKind) → operation ≡ o.Split kind → ⊥) → StepIsKnown old k operation → (by k (Some operation)).given ≡ step.first k
  no_part k o.Resume ne known = refl
  no_part k (o.Meet true) ne known = refl
  no_part k o.Farm ne known = refl
  no_part k o.Seq ne known = refl
  no_part k o.End ne known = refl
  no_part k o.Shrink ne known = refl
  no_part k (o.Split kind) ne known = absurd (ne kind refl)
  no_part k operation ne known = absurd known

  -- ---- nodes

  pub same : (k : ℕ) → k < old.given → round.does k ≡ None → (tree_after old ds).nodes k ≡ old.nodes k
  same k lt none = step.nodes k lt ∙ ap (λ x. (by k x).nodes k) none

  pub resumes : (k : ℕ) → round.does k ≡ Some o.Resume → (tree_after old ds).nodes k ≡ turned (kind_after k) (old.nodes k)
  resumes k is = node_by k o.Resume is ∙ with_same k (turned (kind_after k) (old.nodes k)) old.nodes k refl

  pub closes : (k : ℕ) → round.does k ≡ Some (o.Meet true) → (tree_after old ds).nodes k ≡ turned Lockstep (old.nodes k)
  closes k is = node_by k (o.Meet true) is ∙ with_same k (turned Lockstep (old.nodes k)) old.nodes k refl

  pub sets_free : (k : ℕ) → round.does k ≡ Some o.Farm → (tree_after old ds).nodes k ≡ turned (Asynchronous false) (old.nodes k)
  sets_free k is = node_by k o.Farm is ∙ with_same k (turned (Asynchronous false) (old.nodes k)) old.nodes k refl

  pub sends_one : (k : ℕ) → round.does k ≡ Some o.Seq → (tree_after old ds).nodes k ≡ turned (Asynchronous true) (old.nodes k)
  sends_one k is = node_by k o.Seq is ∙ with_same k (turned (Asynchronous true) (old.nodes k)) old.nodes k refl

  pub ends : (k : ℕ) → round.does k ≡ Some o.End → (tree_after old ds).nodes k ≡ None
  ends k is = node_by k o.End is ∙ with_same k (left_by (λ h. false) (old.nodes k)) old.nodes k refl ∙ nobody_left (old.nodes k)

  pub shrinks : (k : ℕ) → round.does k ≡ Some o.Shrink → (tree_after old ds).nodes k ≡ left_by (λ h. stays (who (actings ds) h)) (old.nodes k)
  shrinks k is = node_by k o.Shrink is ∙ with_same k (left_by (λ h. stays (who (actings ds) h)) (old.nodes k)) old.nodes k refl

  -- how many parts a split has
  abbrev pub count_at : (k : ℕ) → SplitKind → ℕ
  count_at k kind = parts kind (values (who (actings ds) (lowest (trees.members old k))))

  pub divides : (k : ℕ) (kind : SplitKind) → round.does k ≡ Some (o.Split kind) → (tree_after old ds).nodes k ≡ turned (Waiting (step.first k) (count_at k kind)) (old.nodes k)
  divides k kind is =
      let lt = known_given k (o.Split kind) is in
      let from = (step.within k).0 in
      node_by k (o.Split kind) is
      ∙ cond-false (is_from (step.first k) (count_at k kind) k)
      (node_of (filter (λ h. is_in (k - step.first k) (part kind (values (who (actings ds) h)))) (trees.members old k)) k Lockstep)
      (with_node k (turned (Waiting (step.first k) (count_at k kind)) (old.nodes k)) old.nodes k)
      (from_below (step.first k) (count_at k kind) k (omega (arith, lt, from)))
      ∙ with_same k (turned (Waiting (step.first k) (count_at k kind)) (old.nodes k)) old.nodes k refl

  -- ---- parts

  -- a part that a split has made
  pub record IsPart (m : ℕ) : Type 0 where
    pub group : ℕ
    pub kind : SplitKind
    pub number : ℕ
    pub does : round.does group ≡ Some (o.Split kind)
    pub below : number < count_at group kind
    pub is : m ≡ step.first group + number
    pub node : (tree_after old ds).nodes m ≡ node_of (filter (λ h. is_in number (part kind (values (who (actings ds) h)))) (trees.members old group)) group Lockstep

  abbrev part_at : (m g : ℕ) (kind : SplitKind) → round.does g ≡ Some (o.Split kind) → step.first g ≤ m → m < step.first g + count_at g kind → IsPart m
  part_at m g kind is from below =
      let number = m - step.first g in
      record {
        group = g;
        kind = kind;
        number = number;
        does = is;
        below = omega (arith, from, below);
        is = omega (arith, from);
        node = step.parts g m from (subst (λ x. m < (by g x).given) (sym is) below) ∙ ap (λ x. (by g x).nodes m) is
            ∙ cond-true (is_from (step.first g) (count_at g kind) m)
            (node_of (filter (λ h. is_in number (part kind (values (who (actings ds) h)))) (trees.members old g)) g Lockstep)
            (with_node g (turned (Waiting (step.first g) (count_at g kind)) (old.nodes g)) old.nodes m)
            (from_within (step.first g) (count_at g kind) m from below);
      }

  -- the number of the first part of a node
  abbrev pub first_of_parts : ℕ → ℕ
  first_of_parts g = step.first g

  pub parts_above : (g : ℕ) → old.given ≤ first_of_parts g
  parts_above g = (step.within g).0

  -- part i of a split: it is a part, of this group, and who has chosen it has chosen its number
  pub part_of_split : (g : ℕ) (kind : SplitKind) (i : ℕ) → round.does g ≡ Some (o.Split kind) → i < count_at g kind
      → (x : IsPart (first_of_parts g + i)) × (x.group ≡ g) × ((h : ℕ) → part kind (values (who (actings ds) h)) ≡ Some i → part x.kind (values (who (actings ds) h)) ≡ Some x.number)
  part_of_split g kind i is below =
      let number : step.first g + i - step.first g ≡ i = omega arith in (
        part_at (step.first g + i) g kind is (omega arith) (omega (arith, below)),
        refl,
        λ h e. e ∙ ap (λ j. Some j) (sym number),
      )

  -- a group that divides waits for its parts
  pub split_kind : (g : ℕ) (kind : SplitKind) → round.does g ≡ Some (o.Split kind) → trees.kind (tree_after old ds) g ≡ Some (Waiting (step.first g) (count_at g kind))
  split_kind g kind is = ap kind_of (divides g kind is) ∙ kind-turned (Waiting (step.first g) (count_at g kind)) (old.nodes g) (known_there g (o.Split kind) (round.known g (o.Split kind) is))

  -- whose parts have a number among them
  abbrev Gives : (m g : ℕ) → Type 0
  Gives m g = (step.first g ≤ m) × (m < (by g (round.does g)).given)

  gives_or : (m g : ℕ) → Gives m g ⊎ (Gives m g → ⊥)
  gives_or m g =
      ⊎_elim (λ before. inr (λ x. let from = x.0 in omega (arith, from, before)))
      (λ from. ⊎_elim (λ below. inl (from, below)) (λ past. inr (λ x. let below = x.1 in omega (arith, below, past))) (cases_lt m (by g (round.does g)).given)) (cases_lt m (step.first g))

  some_gives : (m n : ℕ) → ((g : ℕ) × Gives m g) ⊎ ((g : ℕ) → g < n → Gives m g → ⊥)
  some_gives m zero = inr (λ g lt x. absurd (omega (arith, lt)))
  some_gives m (suc n) =
      ⊎_elim (λ yes. inl (n, yes))
      (λ no.
      ⊎_elim (λ one. inl one)
      (λ none.
      inr
      (λ g lt x. ⊎_elim (λ e. no (subst (Gives m) e x)) (λ ne. none g (omega (arith, lt, ne)) x) (cases_eq g n)))
      (some_gives m n))
      (gives_or m n)

  gives_part : (m g : ℕ) (x : Option Operation) → round.does g ≡ x → Gives m g → IsPart m
  gives_part m g None is x = let far = subst (λ y. m < (by g y).given) is x.1 in let near = x.0 in absurd (omega (arith, far, near))
  gives_part m g (Some (o.Split kind)) is x = part_at m g kind is x.0 (subst (λ y. m < (by g y).given) is x.1)
  gives_part m g (Some operation) is x =
      let far = subst (λ y. m < (by g y).given) is x.1 in
      let near = x.0 in
      let e = no_part g operation (λ kind e. absurd (cc)) (round.known g operation is) in
      absurd (omega (arith, far, near, e))

  -- a node with a new number is a part
  pub part_or_none : (m : ℕ) → old.given ≤ m → IsPart m ⊎ ((tree_after old ds).nodes m ≡ None)
  part_or_none m le =
      ⊎_elim (λ one. inl (gives_part m one.0 (round.does one.0) refl one.1))
      (λ none.
      inr
      (step.others m le
      (λ g from below.
      ⊎_elim (λ no. let far = subst (λ y. m < (by g y).given) no below in absurd (omega (arith, far, from)))
      (λ some. none g (known_given g some.0 some.1) (from, below)) (none_or_some (round.does g)))))
      (some_gives m old.given)

  pub part_members : (m : ℕ) (x : IsPart m) → trees.members (tree_after old ds) m ≡ filter (λ h. is_in x.number (part x.kind (values (who (actings ds) h)))) (trees.members old x.group)
  part_members m x =
      ap members_of x.node ∙ members-node_of (filter (λ h. is_in x.number (part x.kind (values (who (actings ds) h)))) (trees.members old x.group)) x.group Lockstep

  pub split_members : (g : ℕ) (kind : SplitKind) (i : ℕ) → round.does g ≡ Some (o.Split kind) → i < count_at g kind
      → trees.members (tree_after old ds) (first_of_parts g + i) ≡ filter (λ h. is_in i (part kind (values (who (actings ds) h)))) (trees.members old g)
  split_members g kind i is below =
      let number : step.first g + i - step.first g ≡ i = omega arith in
      part_members (first_of_parts g + i) (part_at (step.first g + i) g kind is (omega arith) (omega (arith, below)))
      ∙ ap (λ j. filter (λ h. is_in j (part kind (values (who (actings ds) h)))) (trees.members old g)) number

  -- who enters a part is a member of it, and then it is there
  pub in_part : (m h : ℕ) (x : IsPart m) → Has old x.group h → part x.kind (values (who (actings ds) h)) ≡ Some x.number → Has (tree_after old ds) m h
  in_part m h x has enters' =
      ap (is_member h) (part_members m x)
      ∙ member_kept (λ k. is_in x.number (part x.kind (values (who (actings ds) k)))) (trees.members old x.group) h has (ap (is_in x.number) enters' ∙ eq-eqb x.number x.number refl)

  pub part_kind : (m : ℕ) (x : IsPart m) → (tree_after old ds).nodes m ≢ None → trees.kind (tree_after old ds) m ≡ Some Lockstep
  part_kind m x some =
      let ms = filter (λ h. is_in x.number (part x.kind (values (who (actings ds) h)))) (trees.members old x.group) in
      ap kind_of x.node ∙ kind-node_of ms x.group Lockstep (λ none. some (x.node ∙ none))

  pub part_parent : (m : ℕ) (x : IsPart m) → (tree_after old ds).nodes m ≢ None → trees.parent (tree_after old ds) m ≡ x.group
  part_parent m x some =
      let ms = filter (λ h. is_in x.number (part x.kind (values (who (actings ds) h)))) (trees.members old x.group) in
      ap parent_of x.node ∙ parent-node_of ms x.group Lockstep (λ none. some (x.node ∙ none))

  -- who stays in a loop is in its part still
  pub loop_members : (g : ℕ) → round.does g ≡ Some o.Shrink → trees.members (tree_after old ds) g ≡ filter (λ h. stays (who (actings ds) h)) (trees.members old g)
  loop_members g is = ap members_of (shrinks g is) ∙ left_members (λ h. stays (who (actings ds) h)) (old.nodes g)

  pub in_loop : (g h : ℕ) → round.does g ≡ Some o.Shrink → Has old g h → stays (who (actings ds) h) ≡ true → Has (tree_after old ds) g h
  in_loop g h is has stay = ap (is_member h) (loop_members g is) ∙ member_kept (λ k. stays (who (actings ds) k)) (trees.members old g) h has stay

  pub loop_parent : (g : ℕ) → round.does g ≡ Some o.Shrink → (tree_after old ds).nodes g ≢ None → trees.parent (tree_after old ds) g ≡ trees.parent old g
  loop_parent g is some =
      ap parent_of (shrinks g is) ∙ left_parent (λ h. stays (who (actings ds) h)) (old.nodes g) (λ none. some (shrinks g is ∙ none))

  pub loop_kind : (g : ℕ) → round.does g ≡ Some o.Shrink → (tree_after old ds).nodes g ≢ None → trees.kind (tree_after old ds) g ≡ trees.kind old g
  loop_kind g is some =
      ap kind_of (shrinks g is) ∙ left_kind (λ h. stays (who (actings ds) h)) (old.nodes g) (λ none. some (shrinks g is ∙ none))

  -- a node that loses nobody has the members and the parent that it had
  pub record SameIn (k : ℕ) : Type 0 where
    pub members : trees.members (tree_after old ds) k ≡ trees.members old k
    pub parent : trees.parent (tree_after old ds) k ≡ trees.parent old k

  turns : (k : ℕ) (kind : Kind) → (tree_after old ds).nodes k ≡ turned kind (old.nodes k) → SameIn k
  turns k kind e = record { members = ap members_of e ∙ members-turned kind (old.nodes k); parent = ap parent_of e ∙ parent-turned kind (old.nodes k) }

  same_by : (k : ℕ) (operation : Operation) → round.does k ≡ Some operation → loses_some operation ≡ false → StepIsKnown old k operation → SameIn k
  same_by k o.Resume is ne known = turns k (kind_after k) (resumes k is)
  same_by k (o.Meet true) is ne known = turns k Lockstep (closes k is)
  same_by k o.Farm is ne known = turns k (Asynchronous false) (sets_free k is)
  same_by k o.Seq is ne known = turns k (Asynchronous true) (sends_one k is)
  same_by k (o.Split kind) is ne known = turns k (Waiting (step.first k) (count_at k kind)) (divides k kind is)
  same_by k o.End is ne known = absurd (false≢true (sym ne))
  same_by k o.Shrink is ne known = absurd (false≢true (sym ne))
  same_by k operation is ne known = absurd known

  pub same_in : (k : ℕ) → k < old.given → some_leave (round.does k) ≡ false → SameIn k
  same_in k lt ne =
      ⊎_elim (λ none. let e = same k lt none in record { members = ap members_of e; parent = ap parent_of e })
      (λ some. same_by k some.0 some.1 (ap some_leave (sym some.1) ∙ ne) (round.known k some.0 some.1)) (none_or_some (round.does k))

  pub kept : (k : ℕ) → k < old.given → some_leave (round.does k) ≡ false → (tree_after old ds).nodes k ≡ None → old.nodes k ≡ None
  kept k lt ne none = sound.living k (sym (same_in k lt ne).members ∙ ap members_of none)

  -- ---- places

  stay_by : (k h : ℕ) (operation : Operation) → moves_some operation ≡ false → StepIsKnown old k operation → (by k (Some operation)).places h ≡ old.places h
  stay_by k h o.Resume ne known = refl
  stay_by k h (o.Meet true) ne known = refl
  stay_by k h o.Farm ne known = refl
  stay_by k h o.Seq ne known = refl
  stay_by k h o.End ne known = absurd (false≢true (sym ne))
  stay_by k h o.Shrink ne known = absurd (false≢true (sym ne))
  stay_by k h (o.Split kind) ne known = absurd (false≢true (sym ne))
  stay_by k h operation ne known = absurd known

  -- nobody leaves a node whose step moves nobody
  pub stays_there : (h : ℕ) → some_move (round.does (old.places h)) ≡ false → (tree_after old ds).places h ≡ old.places h
  stays_there h ne =
      let k = old.places h in
      step.places h
      ∙ ⊎_elim (λ none. ap (λ x. (by k x).places h) none)
      (λ some. ap (λ x. (by k x).places h) some.1 ∙ stay_by k h some.0 (ap some_move (sym some.1) ∙ ne) (round.known k some.0 some.1)) (none_or_some (round.does k))

  -- all leave one that ends
  pub leaves : (h : ℕ) → h < p → round.does (old.places h) ≡ Some o.End → (tree_after old ds).places h ≡ trees.parent old (old.places h)
  leaves h lt is =
      let k = old.places h in
      step.places h ∙ ap (λ x. (by k x).places h) is ∙ ap (λ b. if b && true then trees.parent old k else old.places h) (sound.placed h lt).member

  -- and those who don't stay leave one that shrinks
  pub leaves_loop : (h : ℕ) → h < p → round.does (old.places h) ≡ Some o.Shrink
      → (tree_after old ds).places h ≡ (if not (stays (who (actings ds) h)) then trees.parent old (old.places h) else old.places h)
  leaves_loop h lt is =
      let k = old.places h in
      step.places h ∙ ap (λ x. (by k x).places h) is
      ∙ ap (λ b. if b && not (stays (who (actings ds) h)) then trees.parent old k else old.places h) (sound.placed h lt).member

  -- who stands at one that divides comes to its part, if it enters one
  pub enters : (h : ℕ) (kind : SplitKind) → h < p → round.does (old.places h) ≡ Some (o.Split kind)
      → (tree_after old ds).places h ≡ place_in (old.places h) (step.first (old.places h)) (part kind (values (who (actings ds) h)))
  enters h kind lt is =
      let k = old.places h in
      step.places h ∙ ap (λ x. (by k x).places h) is
      ∙ ap (λ b. if b then place_in (old.places h) (step.first k) (part kind (values (who (actings ds) h))) else old.places h) (sound.placed h lt).member

  -- ---- who stands at a node, when it divides or shrinks

  pub part_place : (h g : ℕ) (kind : SplitKind) (i : ℕ) → h < p → old.places h ≡ g → round.does g ≡ Some (o.Split kind) → part kind (values (who (actings ds) h)) ≡ Some i
      → (tree_after old ds).places h ≡ step.first g + i
  part_place h g kind i lt at is e =
      enters h kind lt (ap round.does at ∙ is) ∙ ap (place_in (old.places h) (step.first (old.places h))) e ∙ ap (λ k. step.first k + i) at

  pub wait_place : (h g : ℕ) (kind : SplitKind) → h < p → old.places h ≡ g → round.does g ≡ Some (o.Split kind) → part kind (values (who (actings ds) h)) ≡ None
      → (tree_after old ds).places h ≡ g
  wait_place h g kind lt at is e = enters h kind lt (ap round.does at ∙ is) ∙ ap (place_in (old.places h) (step.first (old.places h))) e ∙ at

  pub stay_place : (h g : ℕ) → h < p → old.places h ≡ g → round.does g ≡ Some o.Shrink → stays (who (actings ds) h) ≡ true → (tree_after old ds).places h ≡ g
  stay_place h g lt at is e = leaves_loop h lt (ap round.does at ∙ is) ∙ ap (λ b. if not b then trees.parent old (old.places h) else old.places h) e ∙ at

  pub leave_place : (h g : ℕ) → h < p → old.places h ≡ g → round.does g ≡ Some o.Shrink → stays (who (actings ds) h) ≡ false → (tree_after old ds).places h ≡ trees.parent old g
  leave_place h g lt at is e = leaves_loop h lt (ap round.does at ∙ is) ∙ ap (λ b. if not b then trees.parent old (old.places h) else old.places h) e ∙ ap (trees.parent old) at

  place_given : (h : ℕ) → h < p → old.places h < old.given
  place_given h lt = some-given p old sound (old.places h) (has_some old (old.places h) h (sound.placed h lt).member)

  -- the parent of a node that moves somebody waits, and stays as it is
  pub parent_stays : (g : ℕ) (operation : Operation) → round.does g ≡ Some operation → moves_some operation ≡ true → round.does (trees.parent old g) ≡ None
  parent_stays g operation is moves =
      let kind = moving_group p old sound g operation moves (round.known g operation is) in
      ⊎_elim (λ none. none) (λ some. absurd (waiting_stays p old sound g kind some.0 (round.known (trees.parent old g) some.0 some.1)))
      (none_or_some (round.does (trees.parent old g)))

  pub parent_same : (g : ℕ) (operation : Operation) → round.does g ≡ Some operation → moves_some operation ≡ true
      → (tree_after old ds).nodes (trees.parent old g) ≡ old.nodes (trees.parent old g)
  parent_same g operation is moves =
      let kind = moving_group p old sound g operation moves (round.known g operation is) in
      same (trees.parent old g) (parent_given p old sound g kind) (parent_stays g operation is moves)

  -- where one comes whose node steps: nowhere else, to the parent, or to a new number
  abbrev pub Way : ℕ → Type 0
  Way h =
      ((tree_after old ds).places h ≡ old.places h)
      ⊎ (((some_leave (round.does (old.places h)) ≡ true) × ((tree_after old ds).places h ≡ trees.parent old (old.places h)))
      ⊎ ((some_move (round.does (old.places h)) ≡ true) × (old.given ≤ (tree_after old ds).places h)))

  pub way_of : (h : ℕ) → h < p → Way h
  way_of h lt = by_move (moving (round.does (old.places h)))
    where
      loop : round.does (old.places h) ≡ Some o.Shrink → (b : Bool) → stays (who (actings ds) h) ≡ b → Way h
      loop is true e = inl (leaves_loop h lt is ∙ ap (λ b. if not b then trees.parent old (old.places h) else old.places h) e)
      loop is false e = inr (inl (ap some_leave is, leaves_loop h lt is ∙ ap (λ b. if not b then trees.parent old (old.places h) else old.places h) e))

      by_move : Moving (round.does (old.places h)) → Way h
      by_move (ByNone e) = inl (stays_there h e)
      by_move (ByEnd is) = inr (inl (ap some_leave is, leaves h lt is))
      by_move (ByShrink is) = loop is (stays (who (actings ds) h)) refl
      by_move (BySplit kind is) =
          ⊎_elim (λ none. inl (enters h kind lt is ∙ ap (place_in (old.places h) (step.first (old.places h))) none))
          (λ some.
          let here : (tree_after old ds).places h ≡ step.first (old.places h) + some.0 = enters h kind lt is ∙ ap (place_in (old.places h) (step.first (old.places h))) some.1 in
          let from = (step.within (old.places h)).0 in
          inr (inr (ap some_move is, omega (arith, here, from))))
          (waits_or (part kind (values (who (actings ds) h))))

  -- who is in a part has entered it, from its group
  pub entered : (m h : ℕ) (x : IsPart m) → h < p → (tree_after old ds).places h ≡ m → (old.places h ≡ x.group) × (part x.kind (values (who (actings ds) h)) ≡ Some x.number)
  entered m h x lt at = by_move (moving (round.does (old.places h)))
    where
      new_number : old.given ≤ m
      new_number = let from = (step.within x.group).0 in let is = x.is in omega (arith, from, is)

      away : (k : ℕ) → k < old.given → (tree_after old ds).places h ≡ k → ⊥
      away k below e = let le = new_number in omega (arith, below, e, at, le)

      loop : round.does (old.places h) ≡ Some o.Shrink → (b : Bool) → stays (who (actings ds) h) ≡ b → ⊥
      loop is true e = away (old.places h) (place_given h lt) (leaves_loop h lt is ∙ ap (λ b. if not b then trees.parent old (old.places h) else old.places h) e)
      loop is false e =
          away (trees.parent old (old.places h)) (parent_given p old sound (old.places h) (round.known (old.places h) o.Shrink is).0)
          (leaves_loop h lt is ∙ ap (λ b. if not b then trees.parent old (old.places h) else old.places h) e)

      -- the numbers of two nodes' parts are apart
      from_group : (kind : SplitKind) (i : ℕ) → round.does (old.places h) ≡ Some (o.Split kind) → part kind (values (who (actings ds) h)) ≡ Some i → m ≡ step.first (old.places h) + i
          → old.places h ≡ x.group
      from_group kind i is enters' here =
          let g = old.places h in
          let below : i < count_at g kind = few kind (values (who (actings ds) h)) (values (who (actings ds) (lowest (trees.members old g)))) i (round.divide g h kind is (sound.placed h lt).member) enters' in
          let bound : m < step.first g + count_at g kind = omega (arith, below, here) in
          let mine : m < (by g (round.does g)).given = subst (λ y. m < (by g y).given) (sym is) bound in
          let its = x.below in
          let is_its = x.is in
          let its_bound : m < step.first x.group + count_at x.group x.kind = omega (arith, its, is_its) in
          let other : m < (by x.group (round.does x.group)).given = subst (λ y. m < (by x.group y).given) (sym x.does) its_bound in
          ⊎_elim (λ e. e)
          (λ ne. absurd (⊎_elim (λ le. omega (arith, le, mine, is_its)) (λ le. omega (arith, le, other, here)) (step.apart g x.group ne)))
          (cases_eq g x.group)

      from_split : (kind : SplitKind) (i : ℕ) → round.does (old.places h) ≡ Some (o.Split kind) → part kind (values (who (actings ds) h)) ≡ Some i → m ≡ step.first (old.places h) + i
          → (old.places h ≡ x.group) × (part x.kind (values (who (actings ds) h)) ≡ Some x.number)
      from_split kind i is enters' here =
          let e = from_group kind i is enters' here in
          let same_kind : kind ≡ x.kind = let f : Some (o.Split kind) ≡ Some (o.Split x.kind) = sym is ∙ ap round.does e ∙ x.does in cc in
          let is_its = x.is in
          let first_same : step.first (old.places h) ≡ step.first x.group = ap step.first e in
          let same_number : i ≡ x.number = omega (arith, here, is_its, first_same) in
          (e, ap (λ k. part k (values (who (actings ds) h))) (sym same_kind) ∙ enters' ∙ ap (λ j. Some j) same_number)

      by_move : Moving (round.does (old.places h)) → (old.places h ≡ x.group) × (part x.kind (values (who (actings ds) h)) ≡ Some x.number)
      by_move (ByNone e) = absurd (away (old.places h) (place_given h lt) (stays_there h e))
      by_move (ByEnd is) = absurd (away (trees.parent old (old.places h)) (parent_given p old sound (old.places h) (round.known (old.places h) o.End is)) (leaves h lt is))
      by_move (ByShrink is) = absurd (loop is (stays (who (actings ds) h)) refl)
      by_move (BySplit kind is) =
          ⊎_elim (λ none. absurd (away (old.places h) (place_given h lt) (enters h kind lt is ∙ ap (place_in (old.places h) (step.first (old.places h))) none)))
          (λ some. from_split kind some.0 is some.1 (sym at ∙ enters h kind lt is ∙ ap (place_in (old.places h) (step.first (old.places h))) some.1))
          (waits_or (part kind (values (who (actings ds) h))))

  -- who is in a node of before was there, if the node is no parent of one that loses some
  pub was_there : (k h : ℕ) → k < old.given → h < p → ((g : ℕ) → some_leave (round.does g) ≡ true → trees.parent old g ≢ k) → (tree_after old ds).places h ≡ k → old.places h ≡ k
  was_there k h lt below no_parent at =
      ⊎_elim (λ e. sym e ∙ at) (λ other. ⊎_elim (λ up. absurd (no_parent (old.places h) up.0 (sym up.1 ∙ at))) (λ far. let le = far.1 in absurd (omega (arith, le, at, lt))) other) (way_of h below)

  -- a group is no parent
  pub no_child : (k g : ℕ) → trees.kind old k ≡ Some Lockstep → some_leave (round.does g) ≡ true → trees.parent old g ≢ k
  no_child k g lock loses = by_does (round.does g) refl loses
    where
      by_does : (x : Option Operation) → round.does g ≡ x → some_leave x ≡ true → trees.parent old g ≢ k
      by_does None is leaves' = absurd (false≢true leaves')
      by_does (Some o.End) is leaves' = no_group_waits p old sound g (round.known g o.End is) k lock
      by_does (Some o.Shrink) is leaves' = no_group_waits p old sound g (round.known g o.Shrink is).0 k lock
      by_does (Some operation) is leaves' = absurd (false≢true leaves')

  -- nor is a node that steps
  pub no_stepping_parent : (k g : ℕ) (operation : Operation) → round.does k ≡ Some operation → some_leave (round.does g) ≡ true → trees.parent old g ≢ k
  no_stepping_parent k g operation is loses e = by_does (round.does g) refl loses
    where
      steps_not : (leaving : Operation) → round.does g ≡ Some leaving → moves_some leaving ≡ true → ⊥
      steps_not leaving at moves = some_not_none operation (round.does k) is (ap round.does (sym e) ∙ parent_stays g leaving at moves)

      by_does : (x : Option Operation) → round.does g ≡ x → some_leave x ≡ true → ⊥
      by_does None at leaves' = false≢true leaves'
      by_does (Some o.End) at leaves' = steps_not o.End at refl
      by_does (Some o.Shrink) at leaves' = steps_not o.Shrink at refl
      by_does (Some operation') at leaves' = false≢true leaves'

  module _ (nodes nodes' : List ℕ) (stand : ArePlaces old 0 nodes) (there : ArePlaces (tree_after old ds) 0 nodes') (as_many : length nodes ≡ p) (many' : length nodes' ≡ length nodes) where
    -- a node of before whose step moves nobody, and to which nobody comes
    alike_by : (k : ℕ) → k < old.given → some_move (round.does k) ≡ false → ((g : ℕ) → some_leave (round.does g) ≡ true → trees.parent old g ≢ k) → HasSame k nodes nodes'
    alike_by k below ne no_parent =
        has_same old (tree_after old ds) k 0 nodes nodes' stand there many'
        (λ h le lt.
        let lt' : h < p = omega (arith, lt, as_many) in
        ⊎_elim (λ e. eq-eqb (old.places h) k e ∙ sym (eq-eqb ((tree_after old ds).places h) k (stays_there h (ap (λ j. some_move (round.does j)) e ∙ ne) ∙ e)))
        (λ other. ne_eqb (old.places h) k other ∙ sym (ne_eqb ((tree_after old ds).places h) k (λ at. other (was_there k h below lt' no_parent at))))
        (cases_eq (old.places h) k))

    -- a node that turns has the same members before and after
    pub alike : (k : ℕ) (operation : Operation) → round.does k ≡ Some operation → moves_some operation ≡ false → HasSame k nodes nodes'
    alike k operation is ne =
        alike_by k (known_given k operation is) (ap some_move is ∙ ne) (λ g loses. no_stepping_parent k g operation is loses)

    -- all nodes that step change, and those with new numbers, and no others
    unchanged : (k : ℕ) → (is_some (round.does k) || nat_le old.given k) ≡ false → (round.does k ≡ None) × (k < old.given)
    unchanged k off =
        let two = or_parts (is_some (round.does k)) (nat_le old.given k) off in
        (none_by (round.does k) two.0, leb-false old.given k two.1)

    pub tree_moves : TreeMoves old (tree_after old ds) p round.does nodes nodes' (λ k. is_some (round.does k) || nat_le old.given k)
    tree_moves = record {
      here = λ k operation e. ap (λ x. is_some x || nat_le old.given k) e;
      others = λ k off. let x = unchanged k off in same k x.1 x.0;
      elsewhere = λ h lt none. or_from (is_some (round.does (old.places h))) (nat_le old.given (old.places h)) (ap (λ x. is_some x) none) (lt-leb old.given (old.places h) (place_given h lt));
      places = λ h lt none. stays_there h (ap some_move none);
      there = there;
      many = many';
      alike = λ k off lock.
          let x = unchanged k off in
          alike_by k x.1 (ap some_move x.0) (λ g loses. no_child k g (lockstep_kind (trees.kind old k) lock) loses);
    }
