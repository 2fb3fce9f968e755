-- The steps of a round that change the tree, one node after the other, and what nodes keep of spaces and frames.
use Rattle.std.proofs.Common.{◌≡◌, ◌≢◌, ℕ, zero, suc, ◌<◌, ◌==◌, nat_lt, min, Bool, true, false, true≢false, List, [], ◌∷◌, length, slice_get, Option, Some, None, is_some, refl, sym, ap, ◌∙◌, subst, subst₂, arith, if◌then◌else◌}
use Rattle.std.specs.Prelude.{option_map}
use Rattle.std.proofs.lemmas.Bool.{cond-true}
use Rattle.fk_meaning_operation.specs.declared.operation.Operation.{Operation}
use Rattle.fk_meaning_operation.specs.declared.operation.Operation.TheVariants as o
use Rattle.fk_meaning_operation.specs.declared.operation.SplitKind.{SplitKind}
use Rattle.fk_meaning_operation.specs.declared.operation.SplitKind.TheVariants as split_by
use Rattle.fk_tree.specs.declared.node.Kind.{Kind}
use Rattle.fk_tree.specs.declared.node.Kind.TheVariants.{Lockstep, Waiting, Asynchronous}
use Rattle.fk_tree.specs.Tree as t
use Rattle.fk_tree.specs.Tree.{Tree, members, parent, kind, is_member, first_part, kind_after}
use Rattle.fk_tree.specs.Sound.{Has}
use Rattle.fk_tree.proofs.Shapes.{has_some}
use Rattle.fk_tree.proofs.Turns.{IsLeaf, IsIdle, idle-lockstep, idle-asynchronous, idle-after, free-asynchronous, free-after}
use Rattle.fk_tree.proofs.SplitSound.{CanSplit}
use Rattle.fk_tree.proofs.ShrinkSound.{CanShrink}
use Rattle.fk_tree.proofs.Begins.{length-root, split_same}
use Rattle.fk_meaning.specs.Processor.{Processor, Setting, values, last, drop_last, enter_level, leave_level}
use Rattle.fk_meaning.specs.Group.{not_negative, parts, part, enters, divided, stays, start_level, with_size, does, goes_onward, changes}
use Rattle.fk_meaning.specs.Round.{Step, Runner, State, Round, Acting, lowest, agreed, who, change_by, all_changes, is_possible}
use Rattle.fk_lockstep.specs.Untouched.{changes_tree}
use Rattle.fk_lockstep.specs.Counts.{Counts, ArePending, CountsGoOn}
use Rattle.fk_lockstep.specs.Course.{InGroup, Waits, ByItself, Parts, Does, FollowsFor}
use Rattle.fk_lockstep.proofs.Acting.{untrue, Here, Out, told, within, is_changing, Is, Grouped, Parted, Apart, AtNode, ahead_of, parts_same, does_so, counts_so, going_on}
use Rattle.fk_lockstep.proofs.Trees.{NodeIs, IsThere, ThereAt, inv_same, turned_here, turned_inv, shrunk_here, shrunk_inv, parted_here, parted_behind, parted_inv}
use Rattle.fk_lockstep.proofs.Round.{all_keep, has_at, Sound, Ordered}
use Rattle.fk_lockstep.proofs.Changes.{Stage, low, mid, mids, there, first_mid, first_stage, still, same_stage, Moved as MovedIn, moved as moved_in, others as others_in, in_i, had, has, place_of, leaf as leaf_of, Allowed, allowed, brought, by_step, first_same, one_of_none}
use Rattle.fk_lockstep.specs.Frames.{is_none_round, AsDeep}
use Rattle.fk_lockstep.proofs.Tiers.{Tier}
use Rattle.fk_lockstep.proofs.Stands.{Tiers, all_of, At, InIt, Alone, GoOn, framed_so}
use Rattle.fk_lockstep.proofs.SpaceSteps.{never_none, part_of, start_of, enters_part, enters_none, stays_in, leaves_part, opens_body, resumes_in, meets_in, starts_in, starts_out}
use Rattle.fk_lockstep.proofs.Quiet.{head_of, RoundIs, Ordinary, Outer, Single, Levelled, actings as actings_of, now_keeps, now_has, now_levelled}

-- behind the parts of a split there is where the others wait
module _ {W : Type 0} (next : W → Option (Step W)) (outs : W → List W) where
  record Splitting (by : SplitKind) (here : W) (rest : Bool → W) : Type 0 where
    waiter : W
    waiter_outs : outs waiter ≡ outs here
    outs_in : (j : ℕ) → outs (rest (enters by (Some j))) ≡ waiter ∷ outs here
    aside : (vs : List ℕ) → part by vs ≡ None → rest (enters by None) ≡ waiter
    first : outs (rest true) ≡ waiter ∷ outs here

  splitting : (by : SplitKind) (here : W) (rest : Bool → W) (os : List W) → outs (rest true) ≡ os → Parts next outs (FollowsFor next outs 0) by here rest os → Splitting by here rest
  splitting by here rest [] e h = absurd h
  splitting split_by.IfElse here rest (w ∷ ws) e h = record {
    waiter = w;
    waiter_outs = h.1;
    outs_in = λ j. first_outs (j == 0);
    aside = λ vs none. never_none (last vs == 0) none;
    first = first_outs true;
  }
    where
      first_outs : (b : Bool) → outs (rest b) ≡ w ∷ outs here
      first_outs true = e ∙ ap (λ (bs : List W). w ∷ bs) h.0
      first_outs false = h.5 ∙ ap (λ (bs : List W). w ∷ bs) h.0
  splitting by here rest (w ∷ ws) e h = record {
    waiter = w;
    waiter_outs = h.1;
    outs_in = λ j. e ∙ ap (λ (bs : List W). w ∷ bs) h.0;
    aside = λ vs none. h.4;
    first = e ∙ ap (λ (bs : List W). w ∷ bs) h.0;
  }

module _ {W : Type 0} (next : W → Option (Step W)) (outs : W → List W) (counts : Counts W) (depth : W → ℕ) (set : Setting) (round : Round) (s : State W)
    (p : ℕ) (here0 : ℕ → Here W) (behind0 : ℕ → List (Out W)) (inv0 : Sound next outs counts set round s p s.tree (has_at next outs counts set round s) here0 behind0)
    (ordered : Ordered next outs counts set round s p) (possible : is_possible next set round s ≡ true)
    (keeps0 : ℕ → Tiers) (round0 : ℕ → List (List Tier))
    (levelled0 : Levelled next outs counts depth set round s p here0 behind0 inv0 ordered possible s.tree (has_at next outs counts set round s) keeps0 round0) where
  abbrev actings : List (Acting W)
  actings = actings_of next outs counts depth set round s p here0 behind0 inv0 ordered possible

  abbrev lows : ℕ → ℕ
  lows h = low next outs counts set round s p here0 behind0 inv0 ordered possible h

  abbrev middle : (gone : Bool) → Acting W → Runner W
  middle gone b = mid next outs counts set round s p here0 behind0 inv0 ordered possible gone b

  abbrev pub middles : ℕ → ℕ → Option (Runner W)
  middles i h = mids next outs counts set round s p here0 behind0 inv0 ordered possible i h

  abbrev Stages : ℕ → Tree → Type 0
  Stages i tree = Stage next outs counts set round s p here0 behind0 inv0 ordered possible i tree

  abbrev pub Holds : (tree : Tree) (has' : ℕ → Option (Runner W)) (keeps : ℕ → Tiers) (round_it : ℕ → List (List Tier)) → Type 0
  Holds tree has' keeps round_it = Levelled next outs counts depth set round s p here0 behind0 inv0 ordered possible tree has' keeps round_it

  pub record Tiered (i : ℕ) (tree : Tree) : Type 0 where
    pub stage : Stages i tree
    pub keeps : ℕ → Tiers
    pub round_it : ℕ → List (List Tier)
    pub levelled : Holds tree (middles i) keeps round_it

  same_has : (tree : Tree) (has' now : ℕ → Option (Runner W)) (keeps : ℕ → Tiers) (round_it : ℕ → List (List Tier)) → ((h : ℕ) → h < p → now h ≡ has' h) → Holds tree has' keeps round_it → Holds tree now keeps round_it
  same_has tree has' now keeps round_it same l =
      inv_same all_of (Ordinary next outs counts depth set) (Outer next outs counts depth set) (Single next outs counts depth set) (InIt next outs depth) p tree has' now keeps round_it same l

  there_is : (h : ℕ) → h < p → (b : Acting W) × (slice_get actings h ≡ Some b)
  there_is h lt = there next outs counts set round s p here0 behind0 inv0 ordered possible h lt

  first_tiered : Tiered 0 s.tree
  first_tiered = record {
    stage = first_stage next outs counts set round s p here0 behind0 inv0 ordered possible;
    keeps = now_keeps next outs counts depth set round s p here0 behind0 inv0 ordered possible keeps0 round0 levelled0;
    round_it = round0;
    levelled = same_has s.tree (now_has next outs counts depth set round s p here0 behind0 inv0 ordered possible keeps0 round0 levelled0) (middles 0)
        (now_keeps next outs counts depth set round s p here0 behind0 inv0 ordered possible keeps0 round0 levelled0) round0
        (first_mid next outs counts set round s p here0 behind0 inv0 ordered possible)
        (now_levelled next outs counts depth set round s p here0 behind0 inv0 ordered possible keeps0 round0 levelled0);
  }

  -- nobody brings a change
  same_tiered : (i : ℕ) (a : Acting W) → slice_get actings i ≡ Some a → (is_changing a.due ≡ true → lowest (members s.tree (s.tree.places i)) ≢ i) → (tree : Tree) → Tiered i tree → Tiered (suc i) tree
  same_tiered i a at quiet tree k = record {
    stage = same_stage next outs counts set round s p here0 behind0 inv0 ordered possible i a at quiet tree k.stage;
    keeps = k.keeps;
    round_it = k.round_it;
    levelled = same_has tree (middles i) (middles (suc i)) k.keeps k.round_it (still next outs counts set round s p here0 behind0 inv0 ordered possible i a at quiet) k.levelled;
  }

  -- the lowest member of a node brings a change of it
  module _ (i : ℕ) (lt : i < p) (a : Acting W) (at : slice_get actings i ≡ Some a) (step : Step W) (due : a.due ≡ Some step) (changing : changes_tree step.operation ≡ true)
      (n : ℕ) (place : s.tree.places i ≡ n) (is_low : lowest (members s.tree n) ≡ i) (tree : Tree) (k : Tiered i tree) where
    abbrev op : Operation
    op = step.operation

    abbrev value : ℕ
    value = agreed actings (members s.tree n)

    abbrev st : Stages i tree
    st = k.stage

    abbrev tree' : Tree
    tree' = changes op n (who actings) value i tree

    abbrev x : Here W
    x = st.here n

    abbrev y : Tiers
    y = k.keeps n

    has_n : (h : ℕ) → Has s.tree n h → Has tree n h
    has_n h is = has next outs counts set round s p here0 behind0 inv0 ordered possible i lt a at step due changing n place is_low tree st h is

    had_n : (h : ℕ) → Has tree n h → Has s.tree n h
    had_n h is = had next outs counts set round s p here0 behind0 inv0 ordered possible i lt a at step due changing n place is_low tree st h is

    place_n : (h : ℕ) → Has s.tree n h → tree.places h ≡ n
    place_n h is = place_of next outs counts set round s p here0 behind0 inv0 ordered possible i lt a at step due changing n place is_low tree st h is

    leaf : IsLeaf tree n
    leaf = leaf_of next outs counts set round s p here0 behind0 inv0 ordered possible i lt a at step due changing n place is_low tree st

    allows : Allowed next outs counts set round s p here0 behind0 inv0 ordered possible i lt a at step due changing n place is_low tree st
    allows = allowed next outs counts set round s p here0 behind0 inv0 ordered possible i lt a at step due changing n place is_low tree st

    in_n : Has tree n i
    in_n = has_n i (in_i next outs counts set round s p here0 behind0 inv0 ordered possible i lt a at step due changing n place is_low tree st)

    some_n : tree.nodes n ≢ None
    some_n = has_some tree n i in_n

    within_p : (h : ℕ) → Has tree n h → h < p
    within_p h is = inv0.sound.within n h (had_n h is)

    -- a member before and after
    abbrev Moved : (h : ℕ) (r' : Runner W) → Type 0
    Moved h r' = MovedIn next outs counts set round s p here0 behind0 inv0 ordered possible i lt a at step due changing n place is_low tree st h r'

    moved : (h : ℕ) (r' : Runner W) → Has tree n h → middles (suc i) h ≡ Some r' → Moved h r'
    moved h r' is e = moved_in next outs counts set round s p here0 behind0 inv0 ordered possible i lt a at step due changing n place is_low tree st h r' is e

    others : (h : ℕ) → h < p → is_member h (members tree n) ≡ false → middles (suc i) h ≡ middles i h
    others h lt' out = others_in next outs counts set round s p here0 behind0 inv0 ordered possible i lt a at step due changing n place is_low tree st h lt' out

    -- what was so of the node and of its members
    abbrev WasKind : Option Kind → Type 0
    WasKind k' = NodeIs (told {W = W}) (Grouped next outs counts) (Parted next outs counts) (Apart next outs counts) (Is next outs counts) p n k' (st.behind n) x

    abbrev WasThere : Option Kind → Runner W → Type 0
    WasThere k' r = IsThere (told {W = W}) (Grouped next outs counts) (Parted next outs counts) (Apart next outs counts) (Is next outs counts) p n k' (st.behind n) x r

    was_there : (k' : Option Kind) → kind tree n ≡ k' → (h : ℕ) → Has tree n h → (r : Runner W) → middles i h ≡ Some r → WasThere k' r
    was_there k' e h is r was =
        subst (λ (k'' : Option Kind). WasThere k'' r) e
        (subst (λ (q : ℕ). ThereAt (told {W = W}) (Grouped next outs counts) (Parted next outs counts) (Apart next outs counts) (Is next outs counts) p tree st.here st.behind q r) (place_n h (had_n h is))
        (st.inv.there h r (within_p h is) was))

    abbrev KeepsKind : Option Kind → Tiers → Type 0
    KeepsKind k' z = NodeIs all_of (Ordinary next outs counts depth set) (Outer next outs counts depth set) (Single next outs counts depth set) (InIt next outs depth) p n k' (k.round_it n) z

    abbrev HasKind : Option Kind → Tiers → Runner W → Type 0
    HasKind k' z r = IsThere all_of (Ordinary next outs counts depth set) (Outer next outs counts depth set) (Single next outs counts depth set) (InIt next outs depth) p n k' (k.round_it n) z r

    kept_there : (k' : Option Kind) → kind tree n ≡ k' → (h : ℕ) → Has tree n h → (r : Runner W) → middles i h ≡ Some r → HasKind k' y r
    kept_there k' e h is r was =
        subst (λ (k'' : Option Kind). HasKind k'' y r) e
        (subst (λ (q : ℕ). ThereAt all_of (Ordinary next outs counts depth set) (Outer next outs counts depth set) (Single next outs counts depth set) (InIt next outs depth) p tree k.keeps k.round_it q r) (place_n h (had_n h is))
        (k.levelled.there h r (within_p h is) was))

    record After (made : Tree) : Type 0 where
      keeps' : ℕ → Tiers
      round' : ℕ → List (List Tier)
      levelled' : Holds made (middles (suc i)) keeps' round'

    tiered_after : (made : Tree) → Stages (suc i) made → After made → Tiered (suc i) made
    tiered_after made stage after = record { stage = stage; keeps = after.keeps'; round_it = after.round'; levelled = after.levelled' }

    -- another kind
    turned : (kind' : Kind) → IsIdle kind' → (n ≡ 0 → kind' ≢ Lockstep) → KeepsKind (Some kind') y
        → ((h : ℕ) (r' : Runner W) → Has tree n h → middles (suc i) h ≡ Some r' → HasKind (Some kind') y r') → After (t.with_kind n kind' tree)
    turned kind' idle free fits inside = record {
      keeps' = turned_here all_of (Ordinary next outs counts depth set) (Outer next outs counts depth set) (Single next outs counts depth set) (InIt next outs depth) p tree (middles i) k.keeps k.round_it k.levelled n kind' y (middles (suc i)) leaf idle free some_n fits inside others;
      round' = k.round_it;
      levelled' = turned_inv all_of (Ordinary next outs counts depth set) (Outer next outs counts depth set) (Single next outs counts depth set) (InIt next outs depth) p tree (middles i) k.keeps k.round_it k.levelled n kind' y (middles (suc i)) leaf idle free some_n fits inside others;
    }

    -- some leave
    shrunk : (keep : ℕ → Bool) → n ≢ 0 → kind tree n ≡ Some Lockstep → Ordinary next outs counts depth set (k.round_it n) y
        → ((h : ℕ) (r' : Runner W) → Has tree n h → keep h ≡ true → middles (suc i) h ≡ Some r' → InIt next outs depth y r')
        → ((h : ℕ) (r' : Runner W) → Has tree n h → keep h ≡ false → middles (suc i) h ≡ Some r' → InIt next outs depth (k.keeps (parent tree n)) r')
        → After (t.shrink n keep tree)
    shrunk keep lower locked fits stayers leavers = record {
      keeps' = shrunk_here all_of (Ordinary next outs counts depth set) (Outer next outs counts depth set) (Single next outs counts depth set) (InIt next outs depth) p tree (middles i) k.keeps k.round_it k.levelled n keep can y (middles (suc i)) locked fits stayers leavers others;
      round' = k.round_it;
      levelled' = shrunk_inv all_of (Ordinary next outs counts depth set) (Outer next outs counts depth set) (Single next outs counts depth set) (InIt next outs depth) p tree (middles i) k.keeps k.round_it k.levelled n keep can y (middles (suc i)) locked fits stayers leavers others;
    }
      where
        can : CanShrink n tree
        can = record { lower = lower; there = some_n; leaf = leaf }

    -- parts
    parted : (k' : ℕ) (into : ℕ → Option ℕ) → CanSplit n k' into tree → Outer next outs counts depth set n (k.round_it n) y → (inside : ℕ → Tiers) → ((j : ℕ) → (inside j).round ≡ all_of y)
        → ((h j : ℕ) (r' : Runner W) → Has tree n h → into h ≡ Some j → middles (suc i) h ≡ Some r' → InIt next outs depth (inside j) r')
        → ((h : ℕ) (r' : Runner W) → Has tree n h → into h ≡ None → middles (suc i) h ≡ Some r' → InIt next outs depth y r')
        → After (t.split n k' into tree)
    parted k' into can waits inside within_it enter stay = record {
      keeps' = parted_here all_of (Ordinary next outs counts depth set) (Outer next outs counts depth set) (Single next outs counts depth set) (InIt next outs depth) p tree (middles i) k.keeps k.round_it k.levelled n k' into can y (k.round_it n) inside (middles (suc i)) (λ ne. refl) waits within_it enter stay others;
      round' = parted_behind all_of (Ordinary next outs counts depth set) (Outer next outs counts depth set) (Single next outs counts depth set) (InIt next outs depth) p tree (middles i) k.keeps k.round_it k.levelled n k' into can y (k.round_it n) inside (middles (suc i)) (λ ne. refl) waits within_it enter stay others;
      levelled' = parted_inv all_of (Ordinary next outs counts depth set) (Outer next outs counts depth set) (Single next outs counts depth set) (InIt next outs depth) p tree (middles i) k.keeps k.round_it k.levelled n k' into can y (k.round_it n) inside (middles (suc i)) (λ ne. refl) waits within_it enter stay others;
    }

    mine : (r' : Runner W) × (middles (suc i) i ≡ Some r')
    mine = let c = there_is i lt in (middle (nat_lt (lows i) (suc i)) c.0, ap (option_map (middle (nat_lt (lows i) (suc i)))) c.1)

    round_lower : (m : ℕ) (b : List (List Tier)) → m ≢ 0 → y.round ≡ head_of b → Outer next outs counts depth set m b y
    round_lower zero b ne e = absurd (ne refl)
    round_lower (suc m) b ne e = (e, λ outside. absurd (true≢false outside))

    round_inner : (m : ℕ) (b : List (List Tier)) → within m ≡ true → RoundIs next outs counts depth set m b y → y.round ≡ head_of b
    round_inner zero b inner e = untrue inner
    round_inner (suc m) b inner e = e

    round_outer : (m : ℕ) (b : List (List Tier)) → m ≡ 0 → RoundIs next outs counts depth set m b y → y.round ≡ []
    round_outer zero b e is = is
    round_outer (suc m) b e is = absurd (omega (arith, e))

    outside_root : (m : ℕ) → within m ≡ false → m ≡ 0
    outside_root zero e = refl
    outside_root (suc m) e = absurd (true≢false e)

    inside_lower : (m : ℕ) → within m ≡ true → m ≢ 0
    inside_lower zero e same = untrue e
    inside_lower (suc m) e same = omega (arith, same)

    none_of : (o' : Option t.Node) → t.kind_of o' ≡ None → o' ≡ None
    none_of None e = refl
    none_of (Some c) e = cc

    -- a group in lockstep
    module _ (locked : kind tree n ≡ Some Lockstep) where
      abbrev way : Bool
      way = is_some x.agreed

      g : Grouped next outs counts (st.behind n) x
      g = subst WasKind locked (st.inv.node n)

      lower : n ≢ 0
      lower zero' = st.inv.sound.free (sym (ap (kind tree) zero') ∙ locked)

      ordinary : Ordinary next outs counts depth set (k.round_it n) y
      ordinary = subst (λ (k' : Option Kind). KeepsKind k' y) locked (k.levelled.node n)

      record Grouping (op' : Operation) (h : ℕ) (r' : Runner W) : Type 0 where
        m : Moved h r'
        in_it : InIt next outs depth y m.before
        does_op : (j : ℕ) → Does next outs (FollowsFor next outs j) (InGroup way) op' m.before.left m.step'.rest
        goes : GoOn next outs depth (length y.round) false op' m.before.left m.step'.rest
        counted_x : CountsGoOn next outs counts op' x.left m.step'.rest
        numbers : ArePending next outs counts x.left m.before.has x.numbers
        left : r'.left ≡ m.step'.rest (goes_onward op' value i m.before.has)
        has_op : r'.has ≡ does op' value m.size m.before.has

      grouping : (op' : Operation) → op ≡ op' → (h : ℕ) (r' : Runner W) → Has tree n h → middles (suc i) h ≡ Some r' → Grouping op' h r'
      grouping op' e h r' is e' =
          let m = moved h r' is e' in
          let w : Is next outs counts x m.before = was_there (Some Lockstep) locked h is m.before m.was in
          let same_op : m.step'.operation ≡ op' = m.same ∙ e in
          let stands' : next x.left ≡ Some m.step' = ap next (sym w.left) ∙ m.stands in
          let in_it : InIt next outs depth y m.before = kept_there (Some Lockstep) locked h is m.before m.was in
          let counted_x = subst (λ (o' : Operation). CountsGoOn next outs counts o' x.left m.step'.rest) same_op (counts_so next outs counts x.left m.step' w.counted stands') in
          record {
            m = m;
            in_it = in_it;
            does_op = λ j. subst₂ (λ (v : W) (o' : Operation). Does next outs (FollowsFor next outs j) (InGroup way) o' v m.step'.rest) (sym w.left) same_op
                (does_so next outs counts (InGroup way) x.left m.step' g.follows stands' j);
            goes = subst (λ (o' : Operation). GoOn next outs depth (length y.round) false o' m.before.left m.step'.rest) same_op
                (framed_so next outs depth (length y.round) false m.before.left m.step' in_it.framed m.stands);
            counted_x = counted_x;
            numbers = w.numbers;
            left = m.left ∙ ap (λ (o' : Operation). m.step'.rest (goes_onward o' value i m.before.has)) e;
            has_op = m.has ∙ ap (λ (o' : Operation). does o' value m.size m.before.has) e;
          }

      splits : (by : SplitKind) → op ≡ o.Split by → After (changes (o.Split by) n (who actings) value i tree)
      splits by e = subst After (split_same n many into' into tree same_into) (parted many into' can waits inside (λ j. refl) enter stay)
        where
          many : ℕ
          many = parts by (values (who actings i))

          into : ℕ → Option ℕ
          into h = part by (values (who actings h))

          into' : ℕ → Option ℕ
          into' h = if is_member h (members tree n) then into h else None

          same_into : (h : ℕ) → Has tree n h → into' h ≡ into h
          same_into h is = cond-true (is_member h (members tree n)) (into h) None is

          few : (h j : ℕ) (b : Bool) → is_member h (members tree n) ≡ b → (if b then into h else None) ≡ Some j → j < many
          few h j true is e' = allows.enters_one by e h j is e'
          few h j false is e' = absurd (cc)

          can : CanSplit n many into' tree
          can = record { there = some_n; leaf = leaf; few = λ h j e'. few h j (is_member h (members tree n)) refl e' }

          waits : Outer next outs counts depth set n (k.round_it n) y
          waits = round_lower n (k.round_it n) lower ordinary

          inside : ℕ → Tiers
          inside j = part_of y many j

          parting_of : (h : ℕ) (r' : Runner W) (f : Grouping (o.Split by) h r') → Splitting next outs by f.m.before.left f.m.step'.rest
          parting_of h r' f = splitting next outs by f.m.before.left f.m.step'.rest (outs (f.m.step'.rest true)) refl (f.does_op 0)

          goes_in : (h : ℕ) (r' : Runner W) (f : Grouping (o.Split by) h r') (o' : Option ℕ) → into h ≡ o' → part by (values f.m.before.has) ≡ o'
          goes_in h r' f o' e' = ap (λ (q : Processor). part by (values q)) (sym f.m.known) ∙ e'

          enter : (h j : ℕ) (r' : Runner W) → Has tree n h → into' h ≡ Some j → middles (suc i) h ≡ Some r' → InIt next outs depth (inside j) r'
          enter h j r' is e' e'' =
              let f = grouping (o.Split by) e h r' is e'' in
              let own = grouping (o.Split by) e i mine.0 in_n mine.1 in
              let d = parting_of h r' f in
              let part_is = goes_in h r' f (Some j) (sym (same_into h is) ∙ e') in
              let as_deep : AsDeep next outs depth (depth f.m.before.left) (d.waiter ∷ outs f.m.before.left)
              = subst (AsDeep next outs depth (depth f.m.before.left)) d.first ((f.goes 0).met refl) in
              enters_part next outs depth y f.m.before f.in_it f.m.step'.rest by f.goes d.waiter j f.m.size many (d.outs_in j) as_deep
              (parts_same next outs counts by x.left f.m.step'.rest f.counted_x f.m.before.has own.m.before.has x.numbers f.numbers own.numbers
              ∙ ap (λ (q : Processor). parts by (values q)) (sym own.m.known))
              r' (f.left ∙ ap (λ (o' : Option ℕ). f.m.step'.rest (enters by o')) part_is) (f.has_op ∙ ap (λ (o' : Option ℕ). divided by f.m.size f.m.before.has o') part_is)

          stay : (h : ℕ) (r' : Runner W) → Has tree n h → into' h ≡ None → middles (suc i) h ≡ Some r' → InIt next outs depth y r'
          stay h r' is e' e'' =
              let f = grouping (o.Split by) e h r' is e'' in
              let d = parting_of h r' f in
              let part_is = goes_in h r' f None (sym (same_into h is) ∙ e') in
              enters_none next outs depth y f.m.before f.in_it f.m.step'.rest by f.goes f.m.size (values f.m.before.has) part_is
              (ap outs (d.aside (values f.m.before.has) part_is) ∙ d.waiter_outs)
              r' (f.left ∙ ap (λ (o' : Option ℕ). f.m.step'.rest (enters by o')) part_is) (f.has_op ∙ ap (λ (o' : Option ℕ). divided by f.m.size f.m.before.has o') part_is)

      abbrev up : ℕ
      up = parent tree n

      whole : y.round ≡ all_of (k.keeps up)
      whole = ordinary ∙ ap head_of (k.levelled.chain n lower some_n)

      either : (c d : Bool) (q r : Processor) → c ≡ d → (if c then q else r) ≡ (if d then q else r)
      either c d q r e = ap (λ (b : Bool). if b then q else r) e

      shrinks : op ≡ o.Shrink → After (changes o.Shrink n (who actings) value i tree)
      shrinks e = shrunk (λ h. stays (who actings h)) lower locked ordinary stayers leavers
        where
          stayers : (h : ℕ) (r' : Runner W) → Has tree n h → stays (who actings h) ≡ true → middles (suc i) h ≡ Some r' → InIt next outs depth y r'
          stayers h r' is keep e'' =
              let f = grouping o.Shrink e h r' is e'' in
              let b = f.m.before in
              let keep' : stays b.has ≡ true = ap stays (sym f.m.known) ∙ keep in
              stays_in next outs depth y b f.in_it f.m.step'.rest f.goes f.m.size (f.does_op 0).0
              r' (f.left ∙ ap f.m.step'.rest keep') (f.has_op ∙ either (stays b.has) true (with_size f.m.size (drop_last 1 b.has)) (leave_level (drop_last 1 b.has)) keep')

          leavers : (h : ℕ) (r' : Runner W) → Has tree n h → stays (who actings h) ≡ false → middles (suc i) h ≡ Some r' → InIt next outs depth (k.keeps up) r'
          leavers h r' is keep e'' =
              let f = grouping o.Shrink e h r' is e'' in
              let b = f.m.before in
              let keep' : stays b.has ≡ false = ap stays (sym f.m.known) ∙ keep in
              leaves_part next outs depth y b f.in_it f.m.step'.rest (f.m.step'.rest false) (k.keeps up) (drop_last 1 b.has) whole (f.does_op 0).2 ((f.goes 0).calls false)
              (λ j. (f.goes j).goes_on false) refl refl
              r' (f.left ∙ ap f.m.step'.rest keep') (f.has_op ∙ either (stays b.has) false (with_size f.m.size (drop_last 1 b.has)) (leave_level (drop_last 1 b.has)) keep')

      finishes : op ≡ o.End → After (changes o.End n (who actings) value i tree)
      finishes e = shrunk (λ h. false) lower locked ordinary (λ h r' is keep e''. untrue keep) leavers
        where
          leavers : (h : ℕ) (r' : Runner W) → Has tree n h → false ≡ false → middles (suc i) h ≡ Some r' → InIt next outs depth (k.keeps up) r'
          leavers h r' is keep e'' =
              let f = grouping o.End e h r' is e'' in
              let b = f.m.before in
              leaves_part next outs depth y b f.in_it f.m.step'.rest (f.m.step'.rest true) (k.keeps up) b.has whole (f.does_op 0) ((f.goes 0).calls true)
              (λ j. (f.goes j).goes_on true) refl refl r' f.left f.has_op

      -- either way leads into a body
      outs_by : (here : W) (rest : Bool → W) (b : Bool) → outs (rest true) ≡ rest false ∷ outs here → outs (rest false) ≡ rest false ∷ outs here → outs (rest b) ≡ rest false ∷ outs here
      outs_by here rest true e e' = e
      outs_by here rest false e e' = e'

      sets_free : op ≡ o.Farm → After (changes o.Farm n (who actings) value i tree)
      sets_free e = turned (Asynchronous false) (idle-asynchronous false) (λ zero'. free-asynchronous false) tt inside
        where
          inside : (h : ℕ) (r' : Runner W) → Has tree n h → middles (suc i) h ≡ Some r' → HasKind (Some (Asynchronous false)) y r'
          inside h r' is e'' =
              let f = grouping o.Farm e h r' is e'' in
              let b = f.m.before in
              let onward = goes_onward o.Farm value i b.has in (
                (round_lower n (k.round_it n) lower ordinary).0,
                opens_body next outs depth y b f.in_it f.m.step'.rest o.Farm n lower onward (f.m.step'.rest false) (outs_by b.left f.m.step'.rest onward (f.does_op 0).0 (f.does_op 0).1) ((f.goes 0).calls false) ((f.goes 0).calls onward)
                    (λ j. (f.goes j).goes_on onward) r' f.left f.has_op,
              )

      sends_one : op ≡ o.Seq → After (changes o.Seq n (who actings) value i tree)
      sends_one e = turned (Asynchronous true) (idle-asynchronous true) (λ zero'. free-asynchronous true) tt inside
        where
          inside : (h : ℕ) (r' : Runner W) → Has tree n h → middles (suc i) h ≡ Some r' → HasKind (Some (Asynchronous true)) y r'
          inside h r' is e'' =
              let f = grouping o.Seq e h r' is e'' in
              let b = f.m.before in
              let onward = goes_onward o.Seq value i b.has in (
                (round_lower n (k.round_it n) lower ordinary).0,
                opens_body next outs depth y b f.in_it f.m.step'.rest o.Seq n lower onward (f.m.step'.rest false) (outs_by b.left f.m.step'.rest onward (f.does_op 0).0 (f.does_op 0).1) ((f.goes 0).calls false) ((f.goes 0).calls onward)
                    (λ j. (f.goes j).goes_on onward) r' f.left f.has_op,
              )

      in_group : (op' : Operation) → op ≡ op' → changes_tree op' ≡ true → After (changes op' n (who actings) value i tree)
      in_group (o.Split by) e c = splits by e
      in_group o.Shrink e c = shrinks e
      in_group o.End e c = finishes e
      in_group o.Farm e c = sets_free e
      in_group o.Seq e c = sends_one e
      in_group o.Begin e c = absurd ((grouping o.Begin e i mine.0 in_n mine.1).does_op 0)
      in_group o.Resume e c = absurd ((grouping o.Resume e i mine.0 in_n mine.1).does_op 0)
      in_group (o.Meet true) e c = absurd ((grouping (o.Meet true) e i mine.0 in_n mine.1).does_op 0)
      in_group (o.Meet false) e c = untrue c
      in_group op' e c = untrue c

    -- where they wait
    module _ (first parts' : ℕ) (waiting : kind tree n ≡ Some (Waiting first parts')) where
      gw : Parted next outs counts n (st.behind n) x
      gw = subst WasKind waiting (st.inv.node n)

      outer_w : Outer next outs counts depth set n (k.round_it n) y
      outer_w = subst (λ (k' : Option Kind). KeepsKind k' y) waiting (k.levelled.node n)

      record Resuming (op' : Operation) (h : ℕ) (r' : Runner W) : Type 0 where
        m : Moved h r'
        in_it : InIt next outs depth y m.before
        does_op : Does next outs (FollowsFor next outs 0) (Waits (within n)) op' m.before.left m.step'.rest
        goes : GoOn next outs depth (length y.round) false op' m.before.left m.step'.rest
        left : r'.left ≡ m.step'.rest (goes_onward op' value i m.before.has)
        has_op : r'.has ≡ does op' value m.size m.before.has

      resuming : (op' : Operation) → op ≡ op' → (h : ℕ) (r' : Runner W) → Has tree n h → middles (suc i) h ≡ Some r' → Resuming op' h r'
      resuming op' e h r' is e' =
          let m = moved h r' is e' in
          let w : Is next outs counts x m.before = was_there (Some (Waiting first parts')) waiting h is m.before m.was in
          let same_op : m.step'.operation ≡ op' = m.same ∙ e in
          let stands' : next x.left ≡ Some m.step' = ap next (sym w.left) ∙ m.stands in
          let in_it : InIt next outs depth y m.before = kept_there (Some (Waiting first parts')) waiting h is m.before m.was in
          record {
            m = m;
            in_it = in_it;
            does_op = subst₂ (λ (v : W) (o' : Operation). Does next outs (FollowsFor next outs 0) (Waits (within n)) o' v m.step'.rest) (sym w.left) same_op
                (does_so next outs counts (Waits (within n)) x.left m.step' gw.follows stands' 0);
            goes = subst (λ (o' : Operation). GoOn next outs depth (length y.round) false o' m.before.left m.step'.rest) same_op
                (framed_so next outs depth (length y.round) false m.before.left m.step' in_it.framed m.stands);
            left = m.left ∙ ap (λ (o' : Operation). m.step'.rest (goes_onward o' value i m.before.has)) e;
            has_op = m.has ∙ ap (λ (o' : Operation). does o' value m.size m.before.has) e;
          }

      fits_after : (m : ℕ) (b : List (List Tier)) → Outer next outs counts depth set m b y
          → NodeIs all_of (Ordinary next outs counts depth set) (Outer next outs counts depth set) (Single next outs counts depth set) (InIt next outs depth) p m (Some (kind_after m)) b y
      fits_after zero b e = tt
      fits_after (suc m) b e = e.0

      none_round : (ts : List Tier) → ts ≡ [] → is_none_round (length ts) ≡ true
      none_round [] e = refl
      none_round (u ∷ ts) e = absurd (cc)

      some_round : (ts : List Tier) (u : Tier) (us : List Tier) → ts ≡ u ∷ us → is_none_round (length ts) ≡ false
      some_round [] u us e = absurd (cc)
      some_round (v ∷ ts) u us e = refl

      there_after : (m : ℕ) → n ≡ m → Outer next outs counts depth set m (k.round_it n) y → (h : ℕ) (r' : Runner W) (f : Resuming o.Resume h r')
          → IsThere all_of (Ordinary next outs counts depth set) (Outer next outs counts depth set) (Single next outs counts depth set) (InIt next outs depth) p m (Some (kind_after m)) (k.round_it n) y r'
      there_after zero e outer h r' f = (
        outer.0,
        record {
          more = [];
          at = subst (λ (ts : List Tier). At next outs depth ts true [] y r') outer.0
              (resumes_in next outs depth y f.m.before f.in_it f.m.step'.rest true (none_round y.round outer.0) f.goes f.does_op.0 r' f.left f.has_op);
          least = outer.1;
        },
      )
      there_after (suc m) e outer h r' f =
          let lower : n ≢ 0 = λ zero'. let clash : suc m ≡ 0 = sym e ∙ zero' in omega (arith, clash) in
          let up = parent tree n in
          let whole : y.round ≡ all_of (k.keeps up) = outer.0 ∙ ap head_of (k.levelled.chain n lower some_n) in
          resumes_in next outs depth y f.m.before f.in_it f.m.step'.rest false (some_round y.round (k.keeps up).own (k.keeps up).round whole) f.goes f.does_op.0 r' f.left f.has_op

      in_waiting : (op' : Operation) → op ≡ op' → After (changes op' n (who actings) value i tree)
      in_waiting o.Resume e =
          turned (kind_after n) (idle-after n) (free-after n) (fits_after n (k.round_it n) outer_w)
          (λ h r' is e'. there_after n refl outer_w h r' (resuming o.Resume e h r' is e'))
      in_waiting op' e = absurd ((resuming op' e i mine.0 in_n mine.1).does_op)

    -- by themselves
    module _ (one : Bool) (body : kind tree n ≡ Some (Asynchronous one)) where
      record Coming (op' : Operation) (h : ℕ) (r' : Runner W) : Type 0 where
        m : Moved h r'
        round_is : RoundIs next outs counts depth set n (k.round_it n) y
        alone : Alone next outs depth n y m.before
        does_op : Does next outs (FollowsFor next outs 0) (ByItself (within n)) op' m.before.left m.step'.rest
        goes : GoOn next outs depth (length y.round) true op' m.before.left m.step'.rest
        left : r'.left ≡ m.step'.rest (goes_onward op' value i m.before.has)
        has_op : r'.has ≡ does op' value m.size m.before.has

      coming : (op' : Operation) → op ≡ op' → (h : ℕ) (r' : Runner W) → Has tree n h → middles (suc i) h ≡ Some r' → Coming op' h r'
      coming op' e h r' is e' =
          let m = moved h r' is e' in
          let w = going_on next outs counts (within n) (ahead_of next outs counts n (st.behind n) x) x.numbers (AtNode next outs counts (st.behind n) x) m.before
          (was_there (Some (Asynchronous one)) body h is m.before m.was) m.step' m.stands in
          let kept = kept_there (Some (Asynchronous one)) body h is m.before m.was in
          let same_op : m.step'.operation ≡ op' = m.same ∙ e in
          record {
            m = m;
            round_is = kept.0;
            alone = kept.1;
            does_op = subst (λ (o' : Operation). Does next outs (FollowsFor next outs 0) (ByItself (within n)) o' m.before.left m.step'.rest) same_op
                (does_so next outs counts (ByItself (within n)) m.before.left m.step' w.follows m.stands 0);
            goes = subst (λ (o' : Operation). GoOn next outs depth (length y.round) true o' m.before.left m.step'.rest) same_op
                (framed_so next outs depth (length y.round) true m.before.left m.step' kept.1.at.framed m.stands);
            left = m.left ∙ ap (λ (o' : Operation). m.step'.rest (goes_onward o' value i m.before.has)) e;
            has_op = m.has ∙ ap (λ (o' : Operation). does o' value m.size m.before.has) e;
          }

      mine_comes : (op' : Operation) → op ≡ op' → Coming op' i mine.0
      mine_comes op' e = coming op' e i mine.0 in_n mine.1

      meets : within n ≡ true → op ≡ o.Meet true → After (changes (o.Meet true) n (who actings) value i tree)
      meets inner e =
          turned Lockstep idle-lockstep (λ zero'. absurd (inside_lower n inner zero')) (round_inner n (k.round_it n) inner (mine_comes (o.Meet true) e).round_is)
          (λ h r' is e'.
          let f = coming (o.Meet true) e h r' is e' in
          let met = subst (λ (b : Bool). Does next outs (FollowsFor next outs 0) (ByItself b) (o.Meet true) f.m.before.left f.m.step'.rest) inner f.does_op in
          meets_in next outs depth n y f.m.before f.alone f.m.step'.rest inner f.goes met.0 r' f.left f.has_op)

      begins : within n ≡ false → op ≡ o.Begin → After (changes o.Begin n (who actings) value i tree)
      begins outer e = subst (λ (q : ℕ). After (t.split q 1 (first_part count) tree)) root (parted 1 (first_part count) can waits (λ j. start_of y) (λ j. refl) enter stay)
        where
          root : n ≡ 0
          root = outside_root n outer

          count : ℕ
          count = min (not_negative value) (length (members tree n))

          size : length (members tree n) ≡ p
          size = ap (λ (q : ℕ). length (members tree q)) root ∙ length-root p tree st.inv.sound

          can : CanSplit n 1 (first_part count) tree
          can = record { there = some_n; leaf = leaf; few = λ h j e'. one_of_none (nat_lt h count) j e' }

          waits : Outer next outs counts depth set n (k.round_it n) y
          waits = let c = mine_comes o.Begin e in (c.round_is, c.alone.least)

          first_in' : (h j : ℕ) → first_part count h ≡ Some j → nat_lt h count ≡ true
          first_in' h j e' = by (nat_lt h count) e'
            where
              by : (c : Bool) → (if c then Some 0 else None) ≡ Some j → c ≡ true
              by true e'' = refl
              by false e'' = absurd (cc)

          first_out : (h : ℕ) → first_part count h ≡ None → nat_lt h count ≡ false
          first_out h e' = by (nat_lt h count) e'
            where
              by : (c : Bool) → ◌≡◌ {A = Option ℕ} (if c then Some 0 else None) None → c ≡ false
              by true e'' = absurd (cc)
              by false e'' = refl

          taken_is : (h : ℕ) (c : Bool) (r' : Runner W) (is : Has tree n h) (f : Coming o.Begin h r') → nat_lt h count ≡ c → goes_onward o.Begin value i f.m.before.has ≡ c
          taken_is h c r' is f e' =
              let small : h < length (members tree n) = let lt' = within_p h is in omega (arith, lt', size) in
              ap (λ (q : ℕ). nat_lt q (not_negative value)) f.m.number ∙ sym (first_same h (length (members tree n)) (not_negative value) small) ∙ e'

          alone_at_root : (r : Runner W) → Alone next outs depth n y r → Alone next outs depth 0 y r
          alone_at_root r a' = subst (λ (m : ℕ). Alone next outs depth m y r) root a'

          start_does : (h : ℕ) (r' : Runner W) (f : Coming o.Begin h r') → Does next outs (FollowsFor next outs 0) (ByItself false) o.Begin f.m.before.left f.m.step'.rest
          start_does h r' f = subst (λ (b : Bool). Does next outs (FollowsFor next outs 0) (ByItself b) o.Begin f.m.before.left f.m.step'.rest) outer f.does_op

          outermost : (h : ℕ) (r' : Runner W) (f : Coming o.Begin h r') → y.round ≡ []
          outermost h r' f = round_outer n (k.round_it n) root f.round_is

          enter : (h j : ℕ) (r' : Runner W) → Has tree n h → first_part count h ≡ Some j → middles (suc i) h ≡ Some r' → InIt next outs depth (start_of y) r'
          enter h j r' is e' e'' =
              let f = coming o.Begin e h r' is e'' in
              let taken = taken_is h true r' is f (first_in' h j e') in
              starts_in next outs depth y f.m.before (alone_at_root f.m.before f.alone) f.m.step'.rest f.goes (outermost h r' f) f.m.size (start_does h r' f).2
              r' (f.left ∙ ap f.m.step'.rest taken)
              (f.has_op ∙ ap (λ (b : Bool). if b then enter_level (start_level f.m.before.has f.m.size) (drop_last 1 f.m.before.has) else drop_last 1 f.m.before.has) taken)

          stay : (h : ℕ) (r' : Runner W) → Has tree n h → first_part count h ≡ None → middles (suc i) h ≡ Some r' → InIt next outs depth y r'
          stay h r' is e' e'' =
              let f = coming o.Begin e h r' is e'' in
              let taken = taken_is h false r' is f (first_out h e') in
              starts_out next outs depth y f.m.before (alone_at_root f.m.before f.alone) f.m.step'.rest f.goes (outermost h r' f)
              r' (f.left ∙ ap f.m.step'.rest taken)
              (f.has_op ∙ ap (λ (b : Bool). if b then enter_level (start_level f.m.before.has f.m.size) (drop_last 1 f.m.before.has) else drop_last 1 f.m.before.has) taken)

      alone_none : (op' : Operation) (w : Bool) (here : W) (rest : Bool → W) → changes_tree op' ≡ true → (op' ≡ o.Begin → ⊥) → (op' ≡ o.Meet true → ⊥)
          → Does next outs (FollowsFor next outs 0) (ByItself w) op' here rest → ⊥
      alone_none o.Begin w here rest c ne ne' d = ne refl
      alone_none (o.Meet true) w here rest c ne ne' d = ne' refl
      alone_none (o.Meet false) w here rest c ne ne' d = untrue c
      alone_none (o.Split by) true here rest c ne ne' d = d
      alone_none o.Shrink true here rest c ne ne' d = d
      alone_none o.End true here rest c ne ne' d = d
      alone_none o.Farm true here rest c ne ne' d = d
      alone_none o.Seq true here rest c ne ne' d = d
      alone_none o.Resume true here rest c ne ne' d = d
      alone_none (o.Split by) false here rest c ne ne' d = d
      alone_none o.Shrink false here rest c ne ne' d = d
      alone_none o.End false here rest c ne ne' d = d
      alone_none o.Farm false here rest c ne ne' d = d
      alone_none o.Seq false here rest c ne ne' d = d
      alone_none o.Resume false here rest c ne ne' d = d
      alone_none op' w here rest c ne ne' d = untrue c

      begin_outside : (w : Bool) (here : W) (rest : Bool → W) → Does next outs (FollowsFor next outs 0) (ByItself w) o.Begin here rest → w ≡ false
      begin_outside true here rest d = absurd d
      begin_outside false here rest d = refl

      meet_inside : (w : Bool) (here : W) (rest : Bool → W) → Does next outs (FollowsFor next outs 0) (ByItself w) (o.Meet true) here rest → w ≡ true
      meet_inside true here rest d = refl
      meet_inside false here rest d = absurd d

      in_body : (op' : Operation) → op ≡ op' → changes_tree op' ≡ true → After (changes op' n (who actings) value i tree)
      in_body o.Begin e c = let f = mine_comes o.Begin e in begins (begin_outside (within n) f.m.before.left f.m.step'.rest f.does_op) e
      in_body (o.Meet true) e c = let f = mine_comes (o.Meet true) e in meets (meet_inside (within n) f.m.before.left f.m.step'.rest f.does_op) e
      in_body (o.Meet false) e c = untrue c
      in_body op' e c = let f = mine_comes op' e in absurd (alone_none op' (within n) f.m.before.left f.m.step'.rest c (λ e'. cc) (λ e'. cc) f.does_op)

    changed : Tiered (suc i) tree'
    changed = tiered_after tree' (brought next outs counts set round s p here0 behind0 inv0 ordered possible i lt a at step due changing n place is_low tree st) (by (kind tree n) refl)
      where
        by : (k' : Option Kind) → kind tree n ≡ k' → After tree'
        by None e = absurd (some_n (none_of (tree.nodes n) e))
        by (Some Lockstep) e = in_group e op refl changing
        by (Some (Waiting first parts')) e = in_waiting first parts' e op refl
        by (Some (Asynchronous one)) e = in_body one e op refl changing

  -- one processor's step, whoever it is
  tiered_then : (i : ℕ) → i < p → (a : Acting W) → slice_get actings i ≡ Some a → (tree : Tree) → Tiered i tree → Tiered (suc i) (change_by actings s.tree i a.due tree)
  tiered_then i lt a at tree k =
      by_step next outs counts set round s p here0 behind0 inv0 ordered possible (Tiered (suc i)) i a tree (λ quiet. same_tiered i a at quiet tree k)
      (λ step due changing low_i. changed i lt a at step due changing (s.tree.places i) refl low_i tree k)

  pub last_tiered : Tiered p (all_changes actings s.tree actings s.tree)
  last_tiered = all_keep next outs counts set round s p here0 behind0 inv0 ordered possible Tiered tiered_then first_tiered
