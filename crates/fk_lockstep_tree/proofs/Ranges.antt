-- The words of nodes behind a round, and those that the lowest members tell.
use Rattle.std.proofs.Common.{◌≡◌, ◌≢◌, ◌⊎◌, inl, inr, ⊎_elim, ℕ, zero, suc, ◌+◌, ◌-◌, ◌*◌, ◌^◌, ◌<◌, ◌≤◌, ◌==◌, ◌||◌, Bool, true, false, List, [], ◌∷◌, length, filter, Option, Some, None, refl, sym, ap, ◌∙◌, subst, arith, eq-eqb}
use Rattle.std.specs.Prelude.{slice_get, is_some, min}
use Rattle.std.proofs.Math.Nat.{mul-le-mul_right}
use Rattle.std.proofs.lemmas.Bool.{cases_Bool, cases_eq, cases_lt, cond-true, cond-false, ne_eqb, false≢true}
use Rattle.fk_space.specs.Space.{Space, IsSpace, equal_part, share, child}
use Rattle.fk_space.proofs.Parts.{roomy_of, part_ends}
use Rattle.fk_meaning_operation.specs.declared.operation.SplitKind.{SplitKind}
use Rattle.fk_meaning_operation.specs.declared.operation.Operation.{Operation}
use Rattle.fk_meaning_operation.specs.declared.operation.Operation.TheVariants as o
use Rattle.fk_tree.specs.declared.node.Kind.{Kind}
use Rattle.fk_tree.specs.declared.node.Kind.TheVariants.{Lockstep, Waiting, Asynchronous}
use Rattle.fk_tree.specs.Tree as t
use Rattle.fk_tree.specs.Tree.{Tree, members, parent, kind, is_member, node_of, is_in, left_by, kind_after, first_part}
use Rattle.fk_tree.specs.Sound.{Has, IsSound}
use Rattle.fk_tree.proofs.Shapes.{with_same, parent-turned, parent-node_of, from_within, from_below, has_some, some-given, awaits-some}
use Rattle.fk_meaning.specs.Processor.{Level, Processor, Setting, values, group_space}
use Rattle.fk_meaning.specs.Schedule.{first_level}
use Rattle.fk_meaning.specs.Group.{not_negative, parts, part, stays, has_parts, has_room}
use Rattle.fk_meaning.specs.Round.{Step, Runner, State, Round, Acting, lowest, agreed, result}
use Rattle.fk_lockstep.proofs.Nodes.{new_nodes, old_nodes}
use Rattle.fk_lockstep.proofs.Round.{lowest_member, at_below, some_at}
use Rattle.fk_lockstep_nodes.specs.Steps.{Does}
use Rattle.fk_lockstep_tree.specs.Ranges.{range_of, level_at, level_of, has_of, ranges_of, HaveRanges}
use Rattle.fk_lockstep_tree.specs.Placed.{AreLevels, IsInTree, HasTree}
use Rattle.fk_lockstep_tree.specs.Steps.{StepFits}
use Rattle.fk_lockstep_tree.specs.Rounds.{IsRound, IsRoundInSpaces, RoundsKeepTrees, RangesStay}
use Rattle.fk_lockstep_tree.proofs.Acts.{result_is}
use Rattle.fk_lockstep_tree.proofs.Known.{act, placed}
use Rattle.fk_lockstep_tree.proofs.Paths.{root_first, node_range}
use Rattle.fk_lockstep_tree.proofs.Stepped as trees
use Rattle.fk_lockstep_tree.proofs.After as after
use Rattle.fk_lockstep_tree.proofs.After.{left_same}

-- ---- the part of a split

-- it is a space between the frames and the blocks of its group
record IsWithin (s part : Space) : Type 0 where
  header : part.low + 8 ≤ part.high
  above : s.frames ≤ part.low
  below : part.high ≤ s.blocks

child_within : (s : Space) (k i : ℕ) → is_some (share s k) ≡ true → i < k → s.frames ≤ s.blocks → IsWithin s (child s k i)
child_within s k i some few ordered =
    let roomy = roomy_of s k some in
    let ends = part_ends s k i some few in
    let large = roomy.large in
    record { header = omega (arith, large); above = omega arith; below = omega (arith, ends, ordered) }

-- two parts have no word in common
children_apart : (s : Space) (k i j : ℕ) → i < j → (child s k i).high ≤ (child s k j).low
children_apart s k i j lt = let e : suc i * equal_part s k ≤ j * equal_part s k = mul-le-mul_right (equal_part s k) lt in omega (arith, e)

there_are_parts : (s : Space) (k i : ℕ) → i < k → has_parts s k ≡ true → is_some (share s k) ≡ true
there_are_parts s zero i few room = absurd (omega (arith, few))
there_are_parts s (suc k) i few room = room

-- ---- the words that members tell

module _ {W : Type 0} (next : W → Option (Step W)) (set : Setting) (s : State W) (sound : IsSound set.processors s.tree) (spaces : ℕ → Space) (has : IsInTree next set spaces s) where
  abbrev tree : Tree
  tree = s.tree

  -- a node is on the way up from another one, over as many levels at most
  abbrev OnWay : (g at : ℕ) → List Level → Type 0
  OnWay g at [] = at ≡ g
  OnWay g at (l ∷ outer) = (at ≡ g) ⊎ OnWay g (parent tree at) outer

  begins_way : (g at : ℕ) (outer : List Level) → at ≡ g → OnWay g at outer
  begins_way g at [] e = e
  begins_way g at (l ∷ outer) e = inl e

  module _ (h : ℕ) where
    -- then the level is found that is the node's
    level_found : (g at : ℕ) (l : Level) (outer : List Level) → AreLevels set tree spaces h at l outer → OnWay g at outer → g ≢ 0 → range_of (level_at tree g at l outer).space ≡ spaces g
    level_found g at l [] levels way ne = absurd (ne (sym way ∙ levels.0))
    level_found g at l (up ∷ outer) levels way ne =
        ⊎_elim
        (λ e.
        ap (λ (x : Level). range_of x.space) (cond-true (at == g) l (level_at tree g (parent tree at) up outer) (eq-eqb at g e)) ∙ levels.1.range ∙ ap spaces e)
        (λ off.
        ap (λ (x : Level). range_of x.space) (cond-false (at == g) l (level_at tree g (parent tree at) up outer) (ne_eqb at g off))
        ∙ level_found g (parent tree at) up outer levels.2 (⊎_elim (λ e. absurd (off e)) (λ on. on) way) ne)
        (cases_eq at g)

    -- and so is the root's
    root_found : (at : ℕ) (l : Level) (outer : List Level) → AreLevels set tree spaces h at l outer → level_at tree 0 at l outer ≡ first_level set h
    root_found at l [] levels = levels.1
    root_found at l (up ∷ outer) levels = cond-false (at == 0) l (level_at tree 0 (parent tree at) up outer) (ne_eqb at 0 levels.0) ∙ root_found (parent tree at) up outer levels.2

    -- a node's parent is on the way where the node is
    one_up : (m at : ℕ) (l : Level) (outer : List Level) → AreLevels set tree spaces h at l outer → OnWay m at outer → m ≢ 0 → OnWay (parent tree m) at outer
    one_up m at l [] levels way ne = absurd (ne (sym way ∙ levels.0))
    one_up m at l (up ∷ outer) levels way ne =
        ⊎_elim (λ e. inr (begins_way (parent tree m) (parent tree at) outer (ap (parent tree) e)))
        (λ on. inr (one_up m (parent tree at) up outer levels.2 on ne)) way

    -- who is a member of a node is at it, or a member of one below it
    abbrev Child : (g : ℕ) → Type 0
    Child g = (m : ℕ) × (m ≢ 0) × (parent tree m ≡ g) × Has tree m h

    child_below : (g n : ℕ) → Child g ⊎ ((m : ℕ) → m < n → m ≢ 0 → parent tree m ≡ g → Has tree m h → ⊥)
    child_below g zero = inr (λ m lt ne up has'. omega (arith, lt))
    child_below g (suc n) =
        ⊎_elim (λ found. inl found)
        (λ none.
        ⊎_elim
        (λ zero_is. inr (λ m lt ne up has'. off m lt none ne up has' (λ e. ne (e ∙ zero_is))))
        (λ ne'.
        ⊎_elim
        (λ up'. ⊎_elim (λ in_n. inl (n, ne', up', in_n)) (λ out. inr (λ m lt ne up has'. off m lt none ne up has' (λ e. false≢true (sym out ∙ subst (λ (k : ℕ). Has tree k h) e has'))))
        (cases_Bool (is_member h (members tree n))))
        (λ other. inr (λ m lt ne up has'. off m lt none ne up has' (λ e. other (ap (parent tree) (sym e) ∙ up))))
        (cases_eq (parent tree n) g))
        (cases_eq n 0))
        (child_below g n)
      where
        off : (m : ℕ) → m < suc n → ((k : ℕ) → k < n → k ≢ 0 → parent tree k ≡ g → Has tree k h → ⊥) → m ≢ 0 → parent tree m ≡ g → Has tree m h → (m ≡ n → ⊥) → ⊥
        off m lt none ne up has' differ = ⊎_elim (λ e. differ e) (λ ne''. none m (omega (arith, lt, ne'')) ne up has') (cases_eq m n)

    module _ (l : Level) (outer : List Level) (levels : AreLevels set tree spaces h (tree.places h) l outer) where
      on_way_for : (fuel g : ℕ) → tree.given ≤ g + fuel → Has tree g h → OnWay g (tree.places h) outer
      on_way_for zero g much has' =
          let there = some-given set.processors tree sound g (has_some tree g h has') in
          absurd (omega (arith, much, there))
      on_way_for (suc fuel) g much has' = by (λ m le in_m. on_way_for fuel m le in_m) (child_below g tree.given)
        where
          by : ((m : ℕ) → tree.given ≤ m + fuel → Has tree m h → OnWay m (tree.places h) outer) → Child g ⊎ ((m : ℕ) → m < tree.given → m ≢ 0 → parent tree m ≡ g → Has tree m h → ⊥) → OnWay g (tree.places h) outer
          by further (inl found) =
              let m = found.0 in
              let up = found.2 in
              let lower = has.upward m found.1 (has_some tree m h found.3) in
              let below = further m (omega (arith, much, lower, up)) found.3 in
              subst (λ (k : ℕ). OnWay k (tree.places h) outer) up (one_up m (tree.places h) l outer levels below found.1)
          by further (inr none) =
              begins_way g (tree.places h) outer
              (sym (sound.only h g (record {
                member = has';
                own = λ m ne up in_m. none m (some-given set.processors tree sound m (has_some tree m h in_m)) ne up in_m;
              })))

      pub on_way : (g : ℕ) → Has tree g h → OnWay g (tree.places h) outer
      on_way g has' = on_way_for tree.given g (omega arith) has'

  -- the lowest member of a node
  record Lowest (g : ℕ) : Type 0 where
    runner : Runner W
    at : slice_get s.runners (lowest (members tree g)) ≡ Some runner
    member : Has tree g (lowest (members tree g))

  lowest_of : (g h : ℕ) → Has tree g h → Lowest g
  lowest_of g h has' =
      let in_low = lowest_member h (members tree g) has' in
      let lt = sound.within g (lowest (members tree g)) in_low in
      let many = has.many in
      let r = some_at s.runners (lowest (members tree g)) (omega (arith, lt, many)) in
      record { runner = r.0; at = r.1; member = in_low }

  range_is : (g : ℕ) (low : Lowest g) → ranges_of s g ≡ range_of (level_at tree g (tree.places (lowest (members tree g))) low.runner.has.level low.runner.has.outer).space
  range_is g low =
      ap (λ (r : Option (Runner W)). range_of (level_of tree g (has_of r)).space) low.at
      ∙ ap (λ (n : ℕ). range_of (level_at tree g (tree.places n) low.runner.has.level low.runner.has.outer).space) (has.placed (lowest (members tree g)) low.runner low.at).number_is

  -- they are those of the node
  pub read_off : (g h : ℕ) → g ≢ 0 → Has tree g h → ranges_of s g ≡ spaces g
  read_off g h ne has' =
      let low = lowest_of g h has' in
      let k = lowest (members tree g) in
      let p = has.placed k low.runner low.at in
      range_is g low
      ∙ level_found k g (tree.places k) low.runner.has.level low.runner.has.outer p.levels (on_way k low.runner.has.level low.runner.has.outer p.levels g low.member) ne

  -- of a node that is there
  member_of : (g : ℕ) → tree.nodes g ≢ None → (h : ℕ) × Has tree g h
  member_of g there = by (members tree g) refl
    where
      by : (ms : List ℕ) → members tree g ≡ ms → (h : ℕ) × Has tree g h
      by [] e = absurd (there (sound.living g e))
      by (m ∷ ms) e = (m, subst (λ (l : List ℕ). is_member m l ≡ true) (sym e) (lowest_member m (m ∷ ms) (ap (λ (b : Bool). b || is_member m ms) (eq-eqb m m refl))))

  pub read_there : (g : ℕ) → g ≢ 0 → tree.nodes g ≢ None → ranges_of s g ≡ spaces g
  read_there g ne there = let m = member_of g there in read_off g m.0 ne m.1

  -- the root has the whole group space
  pub read_root : (h : ℕ) → Has tree 0 h → ranges_of s 0 ≡ range_of (group_space set)
  read_root h has' =
      let low = lowest_of 0 h has' in
      let k = lowest (members tree 0) in
      let p = has.placed k low.runner low.at in
      range_is 0 low ∙ ap (λ (l : Level). range_of l.space) (root_found k (tree.places k) low.runner.has.level low.runner.has.outer p.levels)

  -- so the state is in the tree also with the words that the members tell
  levels_read : (h n : ℕ) (l : Level) (outer : List Level) → Has tree n h → AreLevels set tree spaces h n l outer → AreLevels set tree (ranges_of s) h n l outer
  levels_read h n l [] has' levels = levels
  levels_read h n l (up ∷ outer) has' levels =
      let ne = levels.0 in (
        ne,
        record { range = levels.1.range ∙ sym (read_off n h ne has'); size = levels.1.size },
        levels_read h (parent tree n) up outer (sound.among n h ne has') levels.2,
      )

  parent_lives : (g : ℕ) → g ≢ 0 → tree.nodes g ≢ None → tree.nodes (parent tree g) ≢ None
  parent_lives g ne there = awaits-some tree (parent tree g) g (sound.awaited g ne there)

  pub has_tree : HasTree next set s
  has_tree = record {
    many = has.many;
    upward = has.upward;
    placed = λ h r at.
        let p = has.placed h r at in
        let below = below_many h r at in
        record {
          number_is = p.number_is;
          place = p.place;
          there = p.there;
          goes = p.goes;
          levels = levels_read h (tree.places h) r.has.level r.has.outer (sound.placed h below).member p.levels;
        };
    ranges = record {
      header = λ g ne there. subst (λ (x : Space). x.low + 8 ≤ x.high) (sym (read_there g ne there)) (has.ranges.header g ne there);
      within = λ g ne there. subst (λ (x : Space). x.high ≤ 2 ^ 20) (sym (read_there g ne there)) (has.ranges.within g ne there);
      whole = λ g ne there up. read_there g ne there ∙ has.ranges.whole g ne there up;
      nested = λ g ne there up.
          let p = parent tree g in
          subst (λ (x : Space). (x.low + 8 ≤ (ranges_of s g).low) × ((ranges_of s g).high ≤ x.high)) (sym (read_there p up (parent_lives g ne there)))
          (subst (λ (x : Space). ((spaces p).low + 8 ≤ x.low) × (x.high ≤ (spaces p).high)) (sym (read_there g ne there)) (has.ranges.nested g ne there up));
      apart = λ g k ne ne' differ there there' up.
          subst (λ (x : Space). (x.high ≤ (ranges_of s k).low) ⊎ ((ranges_of s k).high ≤ x.low)) (sym (read_there g ne there))
          (subst (λ (x : Space). ((spaces g).high ≤ x.low) ⊎ (x.high ≤ (spaces g).low)) (sym (read_there k ne' there')) (has.ranges.apart g k ne ne' differ there there' up));
    };
  }
    where
      below_many : (h : ℕ) (r : Runner W) → slice_get s.runners h ≡ Some r → h < set.processors
      below_many h r at = let lt = at_below s.runners h r at in let many = has.many in omega (arith, lt, many)

-- ---- behind a round

module _ {W : Type 0} (next : W → Option (Step W)) (set : Setting) (round : Round) (s : State W) (is : IsRoundInSpaces next set round s) where
  abbrev base : IsRound next set round s
  base = is.base

  abbrev old : Tree
  old = s.tree

  abbrev new : Tree
  new = after.new next set round s is

  abbrev whose : ℕ → Processor
  whose = after.whose next set round s is

  abbrev does : ℕ → Option Operation
  does = after.does_by next set round s is

  abbrev first : ℕ → ℕ
  first = after.first next set round s is

  abbrev spaces : ℕ → Space
  spaces = ranges_of s

  abbrev spaces' : ℕ → Space
  spaces' = after.spaces' next set round s is

  abbrev low : ℕ → ℕ
  low g = lowest (members old g)

  abbrev begun_of : ℕ → Tree
  begun_of g = record old { given = first g }

  abbrev All : (g : ℕ) → Operation → Type 0
  All g op = trees.AllDo next set round s base g op

  all_do : (g : ℕ) (op : Operation) → does g ≡ Some op → All g op
  all_do g op e = trees.all_do next set round s base g op e

  old_space : (m : ℕ) → m < old.given → spaces' m ≡ spaces m
  old_space m lt = after.old_space next set round s is m lt

  given_of : (g : ℕ) → old.nodes g ≢ None → g < old.given
  given_of g there = some-given set.processors old base.sound g there

  first_ge : (g : ℕ) → old.given ≤ first g
  first_ge g = trees.first_given next set round s base g

  node_steps : (g : ℕ) (op : Operation) → does g ≡ Some op → new.nodes g ≡ (trees.own next set round s base g op).nodes g
  node_steps g op e = trees.node_steps next set round s base g op e

  -- ---- the nodes of before

  turned_parent : (m : ℕ) (k : Kind) → new.nodes m ≡ t.turned k (old.nodes m) → parent new m ≡ parent old m
  turned_parent m k node = ap t.parent_of node ∙ parent-turned k (old.nodes m)

  left_parent : (m : ℕ) (keep : ℕ → Bool) → new.nodes m ≢ None → new.nodes m ≡ left_by keep (old.nodes m) → parent new m ≡ parent old m
  left_parent m keep there node = ap t.parent_of node ∙ (left_same keep (old.nodes m) (λ none. there (node ∙ none))).1

  stepped_parent : (m : ℕ) (op : Operation) → does m ≡ Some op → StepFits old m op → new.nodes m ≢ None → m < old.given → parent new m ≡ parent old m
  stepped_parent m o.Begin e fits there lt =
      let ge = first_ge m in
      let k = Waiting (first m) 1 in
      let count = min (not_negative (agreed (after.acting next set round s is) (members old m))) (length (members old m)) in
      ap t.parent_of
      (node_steps m o.Begin e ∙ old_nodes 0 1 (first_part count) (begun_of m) m (from_below (first m) 1 m (omega (arith, ge, lt)))
      ∙ with_same 0 (t.turned k (old.nodes 0)) old.nodes m fits.0)
      ∙ parent-turned k (old.nodes 0) ∙ ap (parent old) (sym fits.0)
  stepped_parent m (o.Split by) e fits there lt =
      let ge = first_ge m in
      let many = parts by (values (whose (low m))) in
      let k = Waiting (first m) many in
      turned_parent m k
      (node_steps m (o.Split by) e ∙ old_nodes m many (λ j. part by (values (whose j))) (begun_of m) m (from_below (first m) many m (omega (arith, ge, lt)))
      ∙ with_same m (t.turned k (old.nodes m)) old.nodes m refl)
  stepped_parent m o.Shrink e fits there lt =
      left_parent m (λ j. stays (whose j)) there (node_steps m o.Shrink e ∙ with_same m (left_by (λ j. stays (whose j)) (old.nodes m)) old.nodes m refl)
  stepped_parent m o.End e fits there lt = left_parent m (λ j. false) there (node_steps m o.End e ∙ with_same m (left_by (λ j. false) (old.nodes m)) old.nodes m refl)
  stepped_parent m o.Farm e fits there lt =
      turned_parent m (Asynchronous false) (node_steps m o.Farm e ∙ with_same m (t.turned (Asynchronous false) (old.nodes m)) old.nodes m refl)
  stepped_parent m o.Seq e fits there lt =
      turned_parent m (Asynchronous true) (node_steps m o.Seq e ∙ with_same m (t.turned (Asynchronous true) (old.nodes m)) old.nodes m refl)
  stepped_parent m o.Resume e fits there lt =
      turned_parent m (kind_after m) (node_steps m o.Resume e ∙ with_same m (t.turned (kind_after m) (old.nodes m)) old.nodes m refl)
  stepped_parent m (o.Meet true) e fits there lt =
      turned_parent m Lockstep (node_steps m (o.Meet true) e ∙ with_same m (t.turned Lockstep (old.nodes m)) old.nodes m refl)
  stepped_parent m (o.Meet false) e fits there lt = absurd fits
  stepped_parent m op e fits there lt = absurd fits

  old_parent : (m : ℕ) → m < old.given → new.nodes m ≢ None → parent new m ≡ parent old m
  old_parent m lt there =
      trees.by_does next set round s base (does m)
      (λ none. ap t.parent_of (trees.node_keeps next set round s base m none (trees.was_there next set round s base m lt there)))
      (λ op e. let all = all_do m op e in stepped_parent m op e all.fits there lt)

  parent_there : (m : ℕ) → m ≢ 0 → old.nodes m ≢ None → old.nodes (parent old m) ≢ None
  parent_there m ne there = awaits-some old (parent old m) m (base.sound.awaited m ne there)

  -- a node that steps has no parts yet
  no_part : (g : ℕ) (op : Operation) → does g ≡ Some op → (m : ℕ) → m ≢ 0 → old.nodes m ≢ None → parent old m ≡ g → ⊥
  no_part g op e m ne there up =
      let all = all_do g op e in
      let one = some_member in
      let in_g : Has old g one.0 = subst (λ (k : ℕ). Has old k one.0) up (base.sound.among m one.0 ne one.1) in
      let lt = base.sound.within m one.0 one.1 in
      (base.sound.placed one.0 lt).own m ne (up ∙ sym (all.stand one.0 in_g)) one.1
    where
      by : (ms : List ℕ) → members old m ≡ ms → (h : ℕ) × Has old m h
      by [] f = absurd (there (base.sound.living m f))
      by (k ∷ ms) f = (k, subst (λ (l : List ℕ). is_member k l ≡ true) (sym f) (lowest_member k (k ∷ ms) (ap (λ (b : Bool). b || is_member k ms) (eq-eqb k k refl))))

      some_member : (h : ℕ) × Has old m h
      some_member = by (members old m) refl

  -- ---- the nodes that are new

  record BeginsAt (m : ℕ) : Type 0 where
    does_is : does 0 ≡ Some o.Begin
    up : parent new m ≡ 0
    number : m ≡ first 0

  record SplitsAt (m : ℕ) : Type 0 where
    node : ℕ
    by : SplitKind
    does_is : does node ≡ Some (o.Split by)
    up : parent new m ≡ node
    from : first node ≤ m
    to : m < first node + parts by (values (whose (low node)))

  begins_at : (m g : ℕ) → g ≡ 0 → does g ≡ Some o.Begin → first g ≤ m → m < first g + 1 → new.nodes m ≢ None → BeginsAt m
  begins_at m g is_zero e from to there =
      let count = min (not_negative (agreed (after.acting next set round s is) (members old g))) (length (members old g)) in
      let ms = filter (λ j. is_in (m - first g) (first_part count j)) (members old 0) in
      let node : new.nodes m ≡ node_of ms 0 Lockstep
      = trees.part_steps next set round s base g o.Begin e m from to ∙ new_nodes 0 1 (first_part count) (begun_of g) m (from_within (first g) 1 m from to) in
      record {
        does_is = subst (λ (k : ℕ). does k ≡ Some o.Begin) is_zero e;
        up = ap t.parent_of node ∙ parent-node_of ms 0 Lockstep (λ none. there (node ∙ none));
        number = (let same : m ≡ first g = omega (arith, from, to) in same) ∙ ap first is_zero;
      }

  splits_at : (m g : ℕ) (by : SplitKind) → does g ≡ Some (o.Split by) → first g ≤ m → m < first g + parts by (values (whose (low g))) → new.nodes m ≢ None → SplitsAt m
  splits_at m g by e from to there =
      let many = parts by (values (whose (low g))) in
      let ms = filter (λ j. is_in (m - first g) (part by (values (whose j)))) (members old g) in
      let node : new.nodes m ≡ node_of ms g Lockstep
      = trees.part_steps next set round s base g (o.Split by) e m from to
      ∙ new_nodes g many (λ j. part by (values (whose j))) (begun_of g) m (from_within (first g) many m from to) in
      record {
        node = g;
        by = by;
        does_is = e;
        up = ap t.parent_of node ∙ parent-node_of ms g Lockstep (λ none. there (node ∙ none));
        from = from;
        to = to;
      }

  nothing_given : {A : Type 0} (m g : ℕ) → first g ≤ m → m < first g → A
  nothing_given m g from to = absurd (let no : ⊥ = omega (arith, from, to) in no)

  given_so : (m g : ℕ) (op : Operation) → does g ≡ Some op → StepFits old g op → first g ≤ m → m < (trees.own next set round s base g op).given → new.nodes m ≢ None → BeginsAt m ⊎ SplitsAt m
  given_so m g o.Begin e fits from to there = inl (begins_at m g fits.0 e from to there)
  given_so m g (o.Split by) e fits from to there = inr (splits_at m g by e from to there)
  given_so m g o.Shrink e fits from to there = nothing_given m g from to
  given_so m g o.End e fits from to there = nothing_given m g from to
  given_so m g o.Farm e fits from to there = nothing_given m g from to
  given_so m g o.Seq e fits from to there = nothing_given m g from to
  given_so m g o.Resume e fits from to there = nothing_given m g from to
  given_so m g (o.Meet true) e fits from to there = nothing_given m g from to
  given_so m g (o.Meet false) e fits from to there = absurd fits
  given_so m g op e fits from to there = absurd fits

  new_part : (m : ℕ) → old.given ≤ m → new.nodes m ≢ None → BeginsAt m ⊎ SplitsAt m
  new_part m ge there =
      let found = trees.new_given next set round s base m ge there in
      let all = all_do found.node found.operation found.does_is in
      given_so m found.node found.operation found.does_is all.fits found.low found.high there

  -- ---- who divides its group

  record Divider (g : ℕ) : Type 0 where
    runner : Runner W
    is_there : slice_get s.runners (low g) ≡ Some runner
    known : whose (low g) ≡ runner.has
    levels : AreLevels set old spaces (low g) g runner.has.level runner.has.outer

  divider : (g : ℕ) (op : Operation) → does g ≡ Some op → Divider g
  divider g op e =
      let all = all_do g op e in
      let in_low = lowest_member all.one (members old g) all.member in
      let lt = base.sound.within g (low g) in_low in
      let a = act next set round s base (low g) lt in
      let at = all.stand (low g) in_low in
      record {
        runner = a.runner;
        is_there = a.is;
        known = after.known_has next set round s is (low g) a lt g at op e all;
        levels = subst (λ (n : ℕ). AreLevels set old spaces (low g) n a.runner.has.level a.runner.has.outer) at (placed next set round s base (low g) a).levels;
      }

  space_is : (g : ℕ) (d : Divider g) → IsSpace (whose (low g)).level.space
  space_is g d = subst (λ (q : Processor). IsSpace q.level.space) (sym d.known) (is.spaces (low g) d.runner d.is_there)

  -- there is room for the parts
  room_for : (g : ℕ) (by : SplitKind) → does g ≡ Some (o.Split by) → has_parts (whose (low g)).level.space (parts by (values (whose (low g)))) ≡ true
  room_for g by e =
      let all = all_do g (o.Split by) e in
      let in_low = lowest_member all.one (members old g) all.member in
      let lt = base.sound.within g (low g) in_low in
      let a = act next set round s base (low g) lt in
      let at = all.stand (low g) in_low in
      let due = after.due next set round s is (low g) a lt g at (o.Split by) e all in
      let d = due.0 in
      let op_is : d.step.operation ≡ o.Split by = subst (λ (x : Option (Step W)). Does (o.Split by) x) (ap (λ (x : Acting W). x.due) d.is) due.1 in
      let known = after.known_has next set round s is (low g) a lt g at (o.Split by) e all in
      subst (λ (q : Processor). has_room (o.Split by) q ≡ true) (sym known) (subst (λ (x : Operation). has_room x a.runner.has ≡ true) op_is d.room)

  not_zero : (g : ℕ) (by : SplitKind) → does g ≡ Some (o.Split by) → g ≢ 0
  not_zero g by e is_zero = let all = all_do g (o.Split by) e in base.sound.free (sym (ap (kind old) is_zero) ∙ all.fits)

  begins_space : (m : ℕ) → old.given ≤ m → BeginsAt m → spaces' m ≡ range_of (group_space set)
  begins_space m ge b =
      let d = divider 0 o.Begin b.does_is in
      after.new_space next set round s is m 0 o.Begin ge b.up b.does_is
      ∙ ap (λ (q : Processor). range_of q.level.space) d.known
      ∙ ap (λ (l : Level). range_of l.space) (root_first set old spaces (low 0) 0 d.runner.has.level d.runner.has.outer d.levels refl)

  begins_is_space : (m : ℕ) → BeginsAt m → IsSpace (group_space set)
  begins_is_space m b =
      let d = divider 0 o.Begin b.does_is in
      subst (λ (l : Level). IsSpace l.space) (root_first set old spaces (low 0) 0 d.runner.has.level d.runner.has.outer d.levels refl) (is.spaces (low 0) d.runner d.is_there)

  -- the words of a part
  abbrev part_of : (m : ℕ) → SplitsAt m → Space
  part_of m x = child (whose (low x.node)).level.space (parts x.by (values (whose (low x.node)))) (m - first x.node)

  splits_space : (m : ℕ) → old.given ≤ m → (x : SplitsAt m) → spaces' m ≡ range_of (part_of m x)
  splits_space m ge x = after.new_space next set round s is m x.node (o.Split x.by) ge x.up x.does_is

  parent_space : (m : ℕ) (x : SplitsAt m) → spaces' x.node ≡ range_of (whose (low x.node)).level.space
  parent_space m x =
      let d = divider x.node (o.Split x.by) x.does_is in
      let all = all_do x.node (o.Split x.by) x.does_is in
      old_space x.node (given_of x.node (has_some old x.node all.one all.member))
      ∙ sym (node_range set old spaces (low x.node) x.node d.runner.has.level d.runner.has.outer d.levels (not_zero x.node x.by x.does_is))
      ∙ ap (λ (q : Processor). range_of q.level.space) (sym d.known)

  part_within : (m : ℕ) (x : SplitsAt m) → IsWithin (whose (low x.node)).level.space (part_of m x)
  part_within m x =
      let q = whose (low x.node) in
      let k = parts x.by (values q) in
      let i = m - first x.node in
      let from = x.from in
      let to = x.to in
      let few : i < k = omega (arith, from, to) in
      child_within q.level.space k i (there_are_parts q.level.space k i few (room_for x.node x.by x.does_is)) few (space_is x.node (divider x.node (o.Split x.by) x.does_is)).ordered

  -- ---- all of them

  header_of : (m : ℕ) → m ≢ 0 → new.nodes m ≢ None → (spaces' m).low + 8 ≤ (spaces' m).high
  header_of m ne there =
      ⊎_elim
      (λ lt. subst (λ (x : Space). x.low + 8 ≤ x.high) (sym (old_space m lt)) (base.tree.ranges.header m ne (trees.was_there next set round s base m lt there)))
      (λ ge.
      ⊎_elim
      (λ b.
      subst (λ (x : Space). x.low + 8 ≤ x.high) (sym (begins_space m ge b))
      (let space = begins_is_space m b in let header = space.header in let ordered = space.ordered in let within = space.within in omega (arith, header, ordered, within)))
      (λ x. subst (λ (y : Space). y.low + 8 ≤ y.high) (sym (splits_space m ge x)) (part_within m x).header)
      (new_part m ge there))
      (cases_lt m old.given)

  within_of : (m : ℕ) → m ≢ 0 → new.nodes m ≢ None → (spaces' m).high ≤ 2 ^ 20
  within_of m ne there =
      ⊎_elim
      (λ lt. subst (λ (x : Space). x.high ≤ 2 ^ 20) (sym (old_space m lt)) (base.tree.ranges.within m ne (trees.was_there next set round s base m lt there)))
      (λ ge.
      ⊎_elim
      (λ b. subst (λ (x : Space). x.high ≤ 2 ^ 20) (sym (begins_space m ge b)) (begins_is_space m b).shared)
      (λ x.
      subst (λ (y : Space). y.high ≤ 2 ^ 20) (sym (splits_space m ge x))
      (let space = space_is x.node (divider x.node (o.Split x.by) x.does_is) in
      let below = (part_within m x).below in
      let within = space.within in
      let shared = space.shared in
      omega (arith, below, within, shared)))
      (new_part m ge there))
      (cases_lt m old.given)

  whole_of : (m : ℕ) → m ≢ 0 → new.nodes m ≢ None → parent new m ≡ 0 → spaces' m ≡ range_of (group_space set)
  whole_of m ne there up =
      ⊎_elim
      (λ lt. old_space m lt ∙ base.tree.ranges.whole m ne (trees.was_there next set round s base m lt there) (sym (old_parent m lt there) ∙ up))
      (λ ge. ⊎_elim (λ b. begins_space m ge b) (λ x. absurd (not_zero x.node x.by x.does_is (sym x.up ∙ up))) (new_part m ge there))
      (cases_lt m old.given)

  abbrev Nested : (m p : ℕ) → Type 0
  Nested m p = ((spaces' p).low + 8 ≤ (spaces' m).low) × ((spaces' m).high ≤ (spaces' p).high)

  nested_of : (m : ℕ) → m ≢ 0 → new.nodes m ≢ None → parent new m ≢ 0 → Nested m (parent new m)
  nested_of m ne there up =
      ⊎_elim
      (λ lt.
      let was = trees.was_there next set round s base m lt there in
      let same = old_parent m lt there in
      let p = parent old m in
      let before = base.tree.ranges.nested m ne was (λ zero. up (same ∙ zero)) in
      subst (Nested m) (sym same)
      (subst (λ (x : Space). (x.low + 8 ≤ (spaces' m).low) × ((spaces' m).high ≤ x.high)) (sym (old_space p (given_of p (parent_there m ne was))))
      (subst (λ (x : Space). ((spaces p).low + 8 ≤ x.low) × (x.high ≤ (spaces p).high)) (sym (old_space m lt)) before)))
      (λ ge.
      ⊎_elim
      (λ b. absurd (up b.up))
      (λ x.
      let q = whose (low x.node) in
      let space = space_is x.node (divider x.node (o.Split x.by) x.does_is) in
      let w = part_within m x in
      let lies : (q.level.space.low + 8 ≤ (part_of m x).low) × ((part_of m x).high ≤ q.level.space.high)
      = (let header = space.header in let above = w.above in let within = space.within in let below = w.below in (omega (arith, header, above), omega (arith, below, within))) in
      subst (Nested m) (sym x.up)
      (subst (λ (y : Space). (y.low + 8 ≤ (spaces' m).low) × ((spaces' m).high ≤ y.high)) (sym (parent_space m x))
      (subst (λ (y : Space). (q.level.space.low + 8 ≤ y.low) × (y.high ≤ q.level.space.high)) (sym (splits_space m ge x)) lies)))
      (new_part m ge there))
      (cases_lt m old.given)

  abbrev Apart : (m j : ℕ) → Type 0
  Apart m j = ((spaces' m).high ≤ (spaces' j).low) ⊎ ((spaces' j).high ≤ (spaces' m).low)

  -- parts of one node
  parts_apart : (m j : ℕ) → old.given ≤ m → old.given ≤ j → m ≢ j → (x : SplitsAt m) (y : SplitsAt j) → x.node ≡ y.node → Apart m j
  parts_apart m j ge ge' differ x y same =
      subst (λ (u : Space). (u.high ≤ (spaces' j).low) ⊎ ((spaces' j).high ≤ u.low)) (sym (splits_space m ge x))
      (subst (λ (v : Space). ((part_of m x).high ≤ v.low) ⊎ (v.high ≤ (part_of m x).low)) (sym in_x) apart)
    where
      one_kind : (g k : ℕ) (by by' : SplitKind) → g ≡ k → does g ≡ Some (o.Split by) → does k ≡ Some (o.Split by') → by' ≡ by
      one_kind g k by by' is' e e' = let both : Some (o.Split by') ≡ Some (o.Split by) = sym e' ∙ sym (ap does is') ∙ e in cc

      kinds : y.by ≡ x.by
      kinds = one_kind x.node y.node x.by y.by same x.does_is y.does_is

      in_x : spaces' j ≡ range_of (child (whose (low x.node)).level.space (parts x.by (values (whose (low x.node)))) (j - first x.node))
      in_x =
          splits_space j ge' y
          ∙ ap (λ (k : ℕ). range_of (child (whose (low k)).level.space (parts y.by (values (whose (low k)))) (j - first k))) (sym same)
          ∙ ap (λ (by : SplitKind). range_of (child (whose (low x.node)).level.space (parts by (values (whose (low x.node)))) (j - first x.node))) kinds

      apart : ((part_of m x).high ≤ (child (whose (low x.node)).level.space (parts x.by (values (whose (low x.node)))) (j - first x.node)).low)
          ⊎ ((child (whose (low x.node)).level.space (parts x.by (values (whose (low x.node)))) (j - first x.node)).high ≤ (part_of m x).low)
      apart =
          let from = x.from in
          let from' : first x.node ≤ j = subst (λ (k : ℕ). first k ≤ j) (sym same) y.from in
          let space = (whose (low x.node)).level.space in
          let k = parts x.by (values (whose (low x.node))) in
          ⊎_elim
          (λ lt. inl (children_apart space k (m - first x.node) (j - first x.node) (omega (arith, lt, from, from'))))
          (λ le. let lt = differ_lt le in inr (children_apart space k (j - first x.node) (m - first x.node) (omega (arith, lt, from, from'))))
          (cases_lt m j)
        where
          differ_lt : j ≤ m → j < m
          differ_lt le = ⊎_elim (λ e. absurd (differ e)) (λ ne. omega (arith, le, ne)) (cases_eq m j)

  one_old : (m j : ℕ) → m ≢ 0 → m < old.given → new.nodes m ≢ None → old.given ≤ j → new.nodes j ≢ None → parent new m ≡ parent new j → ⊥
  one_old m j ne lt there ge there' up =
      let was = trees.was_there next set round s base m lt there in
      let same = sym (old_parent m lt there) ∙ up in
      ⊎_elim (λ b. no_part 0 o.Begin b.does_is m ne was (same ∙ b.up)) (λ x. no_part x.node (o.Split x.by) x.does_is m ne was (same ∙ x.up)) (new_part j ge there')

  apart_of : (m j : ℕ) → m ≢ 0 → j ≢ 0 → m ≢ j → new.nodes m ≢ None → new.nodes j ≢ None → parent new m ≡ parent new j → Apart m j
  apart_of m j ne ne' differ there there' up =
      ⊎_elim
      (λ lt.
      ⊎_elim
      (λ lt'.
      subst (λ (u : Space). (u.high ≤ (spaces' j).low) ⊎ ((spaces' j).high ≤ u.low)) (sym (old_space m lt))
      (subst (λ (v : Space). ((spaces m).high ≤ v.low) ⊎ (v.high ≤ (spaces m).low)) (sym (old_space j lt'))
      (base.tree.ranges.apart m j ne ne' differ (trees.was_there next set round s base m lt there) (trees.was_there next set round s base j lt' there')
      (sym (old_parent m lt there) ∙ up ∙ old_parent j lt' there'))))
      (λ ge'. absurd (one_old m j ne lt there ge' there' up))
      (cases_lt j old.given))
      (λ ge.
      ⊎_elim
      (λ lt'. absurd (one_old j m ne' lt' there' ge there (sym up)))
      (λ ge'. both ge ge' (new_part m ge there) (new_part j ge' there'))
      (cases_lt j old.given))
      (cases_lt m old.given)
    where
      both : old.given ≤ m → old.given ≤ j → BeginsAt m ⊎ SplitsAt m → BeginsAt j ⊎ SplitsAt j → Apart m j
      both ge ge' (inl b) (inl c) = absurd (differ (b.number ∙ sym c.number))
      both ge ge' (inl b) (inr y) = absurd (not_zero y.node y.by y.does_is (sym y.up ∙ sym up ∙ b.up))
      both ge ge' (inr x) (inl c) = absurd (not_zero x.node x.by x.does_is (sym x.up ∙ up ∙ c.up))
      both ge ge' (inr x) (inr y) = parts_apart m j ge ge' differ x y (sym x.up ∙ up ∙ y.up)

  lower_of : (m : ℕ) → m ≢ 0 → new.nodes m ≢ None → parent new m < m
  lower_of m ne there =
      ⊎_elim
      (λ lt.
      let same = old_parent m lt there in
      let before = base.tree.upward m ne (trees.was_there next set round s base m lt there) in
      omega (arith, same, before))
      (λ ge.
      ⊎_elim
      (λ b. let up = b.up in omega (arith, up, ne))
      (λ x.
      let all = all_do x.node (o.Split x.by) x.does_is in
      let given = given_of x.node (has_some old x.node all.one all.member) in
      let up = x.up in
      omega (arith, up, given, ge))
      (new_part m ge there))
      (cases_lt m old.given)

  ranges_of_new : HaveRanges set new spaces'
  ranges_of_new = record { header = header_of; within = within_of; whole = whole_of; nested = nested_of; apart = apart_of }

  pub behind_in_tree : IsInTree next set spaces' (result next set round s)
  behind_in_tree =
      subst (IsInTree next set spaces') (sym (result_is next set round s base.single base.possible))
      (record {
        many = after.long next set round s is;
        upward = lower_of;
        placed = λ h r at. after.runner_stands next set round s is h r at;
        ranges = ranges_of_new;
      })

pub rounds_keep_trees : (W : Type 0) → RoundsKeepTrees W
rounds_keep_trees W next set round s is =
    has_tree next set (result next set round s) is.behind (after.spaces' next set round s is) (behind_in_tree next set round s is)

pub ranges_stay : (W : Type 0) → RangesStay W
ranges_stay W next set round s g is lt there =
    ⊎_elim
    (λ zero_is. ap (λ (k : ℕ). ranges_of behind k) zero_is ∙ root_stays (λ none. there (ap behind.tree.nodes zero_is ∙ none)) ∙ ap (λ (k : ℕ). ranges_of s k) (sym zero_is))
    (λ ne. read_there next set behind is.behind words (behind_in_tree next set round s is) g ne there ∙ after.old_space next set round s is g lt)
    (cases_eq g 0)
  where
    behind : State W
    behind = result next set round s

    words : ℕ → Space
    words = after.spaces' next set round s is

    root_stays : behind.tree.nodes 0 ≢ None → ranges_of behind 0 ≡ ranges_of s 0
    root_stays there' =
        let m = member_of next set behind is.behind words (behind_in_tree next set round s is) 0 there' in
        let same : members behind.tree 0 ≡ members s.tree 0 = is.behind.root ∙ sym is.base.sound.root in
        let was : Has s.tree 0 m.0 = subst (λ (ms : List ℕ). is_member m.0 ms ≡ true) same m.1 in
        read_root next set behind is.behind words (behind_in_tree next set round s is) m.0 m.1
        ∙ sym (read_root next set s is.base.sound (ranges_of s) is.base.tree m.0 was)
