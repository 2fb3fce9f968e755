-- How a round moves processors in the tree, and what becomes of the numbers and the sizes of their groups.
use Rattle.std.proofs.Common.{◌≡◌, ◌≢◌, ◌⊎◌, inl, inr, ⊎_elim, ℕ, suc, ◌+◌, ◌-◌, ◌<◌, ◌≤◌, ◌==◌, ◌||◌, nat_lt, min, Bool, true, false, true≢false, List, [], ◌∷◌, length, filter, slice_get, Option, Some, None, refl, sym, ap, ap₂, ◌∙◌, subst, subst₂, arith, if◌then◌else◌}
use Rattle.std.proofs.lemmas.Bool.{cases_Bool, cases_eq, cases_lt, eq-eqb, ne_eqb, lt-ltb, le-ltb, cond-true, cond-false, false≢true}
use Rattle.fk_meaning_operation.specs.declared.operation.Operation.{Operation}
use Rattle.fk_meaning_operation.specs.declared.operation.Operation.TheVariants as o
use Rattle.fk_meaning_operation.specs.declared.operation.SplitKind.{SplitKind}
use Rattle.fk_tree.specs.declared.node.Kind.{Kind}
use Rattle.fk_tree.specs.declared.node.Kind.TheVariants.{Lockstep, Asynchronous}
use Rattle.fk_tree.specs.Tree as t
use Rattle.fk_tree.specs.Tree.{Tree, members, members_of, parent, parent_of, is_member, node_of, with_kind, is_from, is_in, place_in, first_part, kind_after}
use Rattle.fk_tree.specs.Sound.{Has}
use Rattle.fk_tree.proofs.Lists.{member_kept, below-has}
use Rattle.fk_tree.proofs.Shapes.{kind_members, from_within, has_some, some-given, awaits-some}
use Rattle.fk_tree.proofs.Begins.{length-root}
use Rattle.fk_meaning.specs.Processor.{Level, Processor, Setting, values, drop_last, enter_level, to_outer, leave_level}
use Rattle.fk_meaning.specs.Group.{not_negative, parts, part, part_number, divided, does, start_level, is_taken, stays, with_size, changes}
use Rattle.fk_meaning.specs.Round.{Step, Runner, State, Round, Acting, lowest, agreed, who, change_by, is_possible}
use Rattle.fk_lockstep.specs.Untouched.{changes_tree}
use Rattle.fk_lockstep.specs.Counts.{Counts}
use Rattle.fk_lockstep.specs.OneProgram.{groups_of}
use Rattle.fk_lockstep.proofs.Acting.{untrue, Here, Out, is_changing}
use Rattle.fk_lockstep.proofs.Nodes.{Turn, Numbered, kind_turn, still, gone, shrink_turn, new_nodes, new_parent, split_places, split_members, split_turn}
use Rattle.fk_lockstep.proofs.Round.{all_keep, first_is, who_is, lowest_member, actings as actings_of, settle as settle_of, new as new_of, has_at, Sound, Ordered, Moving, all_move, number_at}
use Rattle.fk_lockstep.proofs.Changes.{Stage, low, clash, moves, in_i, n_given, nodes_n, had, has, low_of, place_of, Allowed, allowed, brought, by_step, first_stage, same_stage, first_same, one_of_none}
use Rattle.fk_lockstep.proofs.Sizes.{round_it, left_groups, plain_groups}

-- the number and the size of each node, and of those round it
pub record Sized (p : ℕ) (tree : Tree) (sizes : ℕ → List (ℕ × ℕ)) : Type 0 where
  pub root : sizes 0 ≡ (0, p) ∷ []
  pub number : ℕ → ℕ
  pub chain : (m : ℕ) → m ≢ 0 → tree.nodes m ≢ None → sizes m ≡ (number m, length (members tree m)) ∷ sizes (parent tree m)

abbrev first_of : List (ℕ × ℕ) → ℕ
first_of [] = 0
first_of (g ∷ gs) = g.0

module _ {W : Type 0} (next : W → Option (Step W)) (outs : W → List W) (counts : Counts W) (set : Setting) (round : Round) (s : State W) (p : ℕ) (here0 : ℕ → Here W) (behind0 : ℕ → List (Out W))
    (inv0 : Sound next outs counts set round s p s.tree (has_at next outs counts set round s) here0 behind0) (ordered : Ordered next outs counts set round s p) (possible : is_possible next set round s ≡ true)
    (sizes : ℕ → List (ℕ × ℕ)) (sized : Sized p s.tree sizes)
    (sizes_are : (h : ℕ) (b : Acting W) → slice_get (actings_of next outs counts set round s) h ≡ Some b → h < p → groups_of b.runner.has ≡ sizes (s.tree.places h)) where
  abbrev actings : List (Acting W)
  actings = actings_of next outs counts set round s

  abbrev new : Tree
  new = new_of next outs counts set round s

  abbrev settle : Runner W → Option (Step W) → Runner W
  settle r due = settle_of next outs counts set round s r due

  abbrev lows : ℕ → ℕ
  lows h = low next outs counts set round s p here0 behind0 inv0 ordered possible h

  abbrev Stages : ℕ → Tree → Type 0
  Stages i tree = Stage next outs counts set round s p here0 behind0 inv0 ordered possible i tree

  -- where who has changed the tree goes, in a tree
  abbrev size_after : ℕ → ℕ
  size_after h = length (members new (new.places h))

  record Stays (tree : Tree) (h n : ℕ) (gs : List (ℕ × ℕ)) : Type 0 where
    place : tree.places h ≡ n
    same : members tree n ≡ members s.tree n
    groups : gs ≡ sizes n

  record Enters (number : ℕ → ℕ) (tree : Tree) (h n : ℕ) (gs : List (ℕ × ℕ)) : Type 0 where
    part : ℕ
    place : tree.places h ≡ part
    is_new : s.tree.given ≤ part
    given : part < tree.given
    up : parent tree part ≡ n
    same : members tree n ≡ members s.tree n
    groups : gs ≡ (number part, size_after h) ∷ sizes n

  record Remains (tree : Tree) (h n : ℕ) (gs : List (ℕ × ℕ)) : Type 0 where
    place : tree.places h ≡ n
    lower : n ≢ 0
    groups : gs ≡ (first_of (sizes n), size_after h) ∷ round_it (sizes n)

  record Leaves (tree : Tree) (h n : ℕ) (gs : List (ℕ × ℕ)) : Type 0 where
    place : tree.places h ≡ parent s.tree n
    lower : n ≢ 0
    groups : gs ≡ round_it (sizes n)

  abbrev Goes : (number : ℕ → ℕ) (tree : Tree) (h n : ℕ) (gs : List (ℕ × ℕ)) → Type 0
  Goes number tree h n gs = (Stays tree h n gs ⊎ Enters number tree h n gs) ⊎ (Remains tree h n gs ⊎ Leaves tree h n gs)

  record Unmoved (tree : Tree) (h : ℕ) : Type 0 where
    place : tree.places h ≡ s.tree.places h
    same : members tree (s.tree.places h) ≡ members s.tree (s.tree.places h)

  pub record Kept (i : ℕ) (tree : Tree) : Type 0 where
    stage : Stages i tree
    pub number : ℕ → ℕ
    up : (m : ℕ) → m < s.tree.given → tree.nodes m ≢ None → (s.tree.nodes m ≢ None) × (parent tree m ≡ parent s.tree m)
    new_up : (m : ℕ) → s.tree.given ≤ m → tree.nodes m ≢ None → parent tree m < s.tree.given
    parents : (m : ℕ) → m ≢ 0 → s.tree.nodes m ≢ None → members tree (parent s.tree m) ≡ members s.tree (parent s.tree m)
    unmoved : (h : ℕ) → h < p → (b : Acting W) → slice_get actings h ≡ Some b → (is_changing b.due ≡ false) ⊎ (i ≤ lows h) → Unmoved tree h
    moved : (h : ℕ) → h < p → (b : Acting W) → slice_get actings h ≡ Some b → is_changing b.due ≡ true → lows h < i
        → Goes number tree h (s.tree.places h) (groups_of (settle b.runner b.due).has)

  first_kept : Kept 0 s.tree
  first_kept = record {
    stage = first_stage next outs counts set round s p here0 behind0 inv0 ordered possible;
    number = λ m. 0;
    up = λ m lt some. (some, refl);
    new_up = λ m le some. absurd (some (inv0.sound.numbered m le));
    parents = λ m ne some. refl;
    unmoved = λ h lt b at which. record { place = refl; same = refl };
    moved = λ h lt b at changing lt'. absurd (omega (arith, lt'));
  }

  -- nobody brings a change
  module _ (i : ℕ) (a : Acting W) (at : slice_get actings i ≡ Some a) (quiet : is_changing a.due ≡ true → lowest (members s.tree (s.tree.places i)) ≢ i) (tree : Tree) (k : Kept i tree) where
    same_kept : Kept (suc i) tree
    same_kept = record {
      stage = same_stage next outs counts set round s p here0 behind0 inv0 ordered possible i a at quiet tree k.stage;
      number = k.number;
      up = k.up;
      new_up = k.new_up;
      parents = k.parents;
      unmoved = λ h lt b at' which. k.unmoved h lt b at' (⊎_elim (λ still. inl still) (λ le. inr (omega (arith, le))) which);
      moved = λ h lt b at' changing lt'.
          ⊎_elim
          (λ same. clash next outs counts set round s p here0 behind0 inv0 ordered possible i a at quiet h lt b at' same b.due refl changing)
          (λ ne. k.moved h lt b at' changing (omega (arith, lt', ne)))
          (cases_eq (lows h) i);
    }

  module _ (i : ℕ) (lt : i < p) (a : Acting W) (at : slice_get actings i ≡ Some a) (step : Step W) (due : a.due ≡ Some step) (changing : changes_tree step.operation ≡ true)
      (n : ℕ) (place : s.tree.places i ≡ n) (is_low : lowest (members s.tree n) ≡ i) (tree : Tree) (k : Kept i tree) where
    abbrev op : Operation
    op = step.operation

    abbrev value : ℕ
    value = agreed actings (members s.tree n)

    abbrev st : Stages i tree
    st = k.stage

    abbrev tree' : Tree
    tree' = changes op n (who actings) value i tree

    stage' : Stages (suc i) tree'
    stage' = brought next outs counts set round s p here0 behind0 inv0 ordered possible i lt a at step due changing n place is_low tree st

    moves_of : (g : ℕ) → Has s.tree n g → Moving next outs counts set round s p here0 behind0 inv0 ordered possible g op n
    moves_of g in_g = moves next outs counts set round s p here0 behind0 inv0 ordered possible i lt a at step due changing n place is_low tree st g in_g

    has_n : (h : ℕ) → Has s.tree n h → Has tree n h
    has_n h is = has next outs counts set round s p here0 behind0 inv0 ordered possible i lt a at step due changing n place is_low tree st h is

    had_n : (h : ℕ) → Has tree n h → Has s.tree n h
    had_n h is = had next outs counts set round s p here0 behind0 inv0 ordered possible i lt a at step due changing n place is_low tree st h is

    same_nodes : tree.nodes n ≡ s.tree.nodes n
    same_nodes = nodes_n next outs counts set round s p here0 behind0 inv0 ordered possible i lt a at step due changing n place is_low tree st

    given_n : n < s.tree.given
    given_n = n_given next outs counts set round s p here0 behind0 inv0 ordered possible i lt a at step due changing n place is_low tree st

    given_now : n < tree.given
    given_now = let more = st.given in let lt' = given_n in omega (arith, more, lt')

    place_n : (h : ℕ) → Has s.tree n h → tree.places h ≡ n
    place_n h is = place_of next outs counts set round s p here0 behind0 inv0 ordered possible i lt a at step due changing n place is_low tree st h is

    low_n : (h : ℕ) → Has s.tree n h → lows h ≡ i
    low_n h is = low_of next outs counts set round s p here0 behind0 inv0 ordered possible i lt a at step due changing n place is_low tree st h is

    allows : Allowed next outs counts set round s p here0 behind0 inv0 ordered possible i lt a at step due changing n place is_low tree st
    allows = allowed next outs counts set round s p here0 behind0 inv0 ordered possible i lt a at step due changing n place is_low tree st

    numbered : Numbered tree
    numbered m le = st.inv.sound.numbered m le

    some_n : s.tree.nodes n ≢ None
    some_n = has_some s.tree n i (in_i next outs counts set round s p here0 behind0 inv0 ordered possible i lt a at step due changing n place is_low tree st)

    members_n : members tree n ≡ members s.tree n
    members_n = ap members_of same_nodes

    -- a node with a part that was there is not the one that is changed
    no_part : (m : ℕ) → m ≢ 0 → s.tree.nodes m ≢ None → parent s.tree m ≢ n
    no_part m ne some up =
        let low_m = lowest (members s.tree m) in
        let in_m : Has s.tree m low_m = some_member (members s.tree m) (λ empty. some (inv0.sound.living m empty)) in
        let in_n : Has s.tree n low_m = subst (λ (q : ℕ). Has s.tree q low_m) up (inv0.sound.among m low_m ne in_m) in
        (inv0.sound.placed low_m (inv0.sound.within m low_m in_m)).own m ne (up ∙ sym (moves_of low_m in_n).place) in_m
      where
        some_member : (ms : List ℕ) → ms ≢ [] → is_member (lowest ms) ms ≡ true
        some_member [] ne' = absurd (ne' refl)
        some_member (h ∷ ms) ne' = ap (λ (c : Bool). c || is_member h ms) (eq-eqb h h refl)

    out_of : (h : ℕ) → h < p → s.tree.places h ≢ n → is_member h (members tree n) ≡ false
    out_of h lt' ne = ⊎_elim (λ is. absurd (ne (moves_of h (had_n h is)).place)) (λ isnt. isnt) (cases_Bool (is_member h (members tree n)))

    given_place : (h : ℕ) → h < p → s.tree.places h < s.tree.given
    given_place h lt' = some-given p s.tree inv0.sound (s.tree.places h) (has_some s.tree (s.tree.places h) h (inv0.sound.placed h lt').member)

    -- the other nodes, and who is elsewhere
    module _ (turn : Turn n tree tree') (number : ℕ → ℕ) (same_number : (m : ℕ) → m < tree.given → number m ≡ k.number m)
        (goes : (h : ℕ) → Has s.tree n h → (b : Acting W) → slice_get actings h ≡ Some b → (u : Step W) → b.due ≡ Some u → u.operation ≡ op
        → Goes number tree' h n (groups_of (settle b.runner (Some u)).has)) where
      frame_nodes : (m : ℕ) → m < tree.given → m ≢ n → tree'.nodes m ≡ tree.nodes m
      frame_nodes m lt' ne = turn.frame.nodes m lt' ne

      more_given : (m : ℕ) → m < s.tree.given → m < tree.given
      more_given m lt' = let more = st.given in omega (arith, more, lt')

      up' : (m : ℕ) → m < s.tree.given → tree'.nodes m ≢ None → (s.tree.nodes m ≢ None) × (parent tree' m ≡ parent s.tree m)
      up' m lt' some =
          ⊎_elim
          (λ e.
          let some' : tree'.nodes n ≢ None = subst (λ (q : ℕ). tree'.nodes q ≢ None) e some in (
            subst (λ (q : ℕ). s.tree.nodes q ≢ None) (sym e) some_n,
            subst (λ (q : ℕ). parent tree' q ≡ parent s.tree q) (sym e) (turn.up some' ∙ ap parent_of same_nodes),
          ))
          (λ ne.
          let same = frame_nodes m (more_given m lt') ne in
          let before = k.up m lt' (λ none. some (same ∙ none)) in
          (before.0, ap parent_of same ∙ before.1))
          (cases_eq m n)

      new_up' : (m : ℕ) → s.tree.given ≤ m → tree'.nodes m ≢ None → parent tree' m < s.tree.given
      new_up' m le some =
          ⊎_elim
          (λ lt'.
          let lt_n = given_n in
          let ne : m ≢ n = λ e. let same : m ≡ n = e in absurd (omega (arith, le, lt_n, same)) in
          let same = frame_nodes m lt' ne in
          let before = k.new_up m le (λ none. some (same ∙ none)) in
          subst (λ (q : ℕ). q < s.tree.given) (sym (ap parent_of same)) before)
          (λ le'. subst (λ (q : ℕ). q < s.tree.given) (sym (turn.new_up m le' some)) given_n)
          (cases_lt m tree.given)

      parents' : (m : ℕ) → m ≢ 0 → s.tree.nodes m ≢ None → members tree' (parent s.tree m) ≡ members s.tree (parent s.tree m)
      parents' m ne some =
          let q = parent s.tree m in
          let up_there = has_some s.tree q (lowest (members s.tree m)) (inv0.sound.among m (lowest (members s.tree m)) ne (some_low (members s.tree m) (λ empty. some (inv0.sound.living m empty)))) in
          ap members_of (frame_nodes q (more_given q (some-given p s.tree inv0.sound q up_there)) (no_part m ne some)) ∙ k.parents m ne some
        where
          some_low : (ms : List ℕ) → ms ≢ [] → is_member (lowest ms) ms ≡ true
          some_low [] ne' = absurd (ne' refl)
          some_low (h ∷ ms) ne' = ap (λ (c : Bool). c || is_member h ms) (eq-eqb h h refl)

      unmoved' : (h : ℕ) → h < p → (b : Acting W) → slice_get actings h ≡ Some b → (is_changing b.due ≡ false) ⊎ (suc i ≤ lows h) → Unmoved tree' h
      unmoved' h lt' b at' which =
          let ne : s.tree.places h ≢ n = λ e. ⊎_elim
          (λ still.
          let in_n : Has s.tree n h = subst (λ (q : ℕ). Has s.tree q h) e (inv0.sound.placed h lt').member in
          let m = moves_of h in_n in
          let same : m.acting ≡ b = first_is m.acting b (sym m.at ∙ at') in
          true≢false (sym (ap (λ (x : Acting W). is_changing x.due) (sym same) ∙ ap is_changing m.due ∙ ap changes_tree m.same ∙ changing) ∙ still))
          (λ le.
          let in_n : Has s.tree n h = subst (λ (q : ℕ). Has s.tree q h) e (inv0.sound.placed h lt').member in
          let low_is = low_n h in_n in
          absurd (omega (arith, le, low_is)))
          which in
          let before = k.unmoved h lt' b at' (⊎_elim (λ still. inl still) (λ le. inr (omega (arith, le))) which) in
          record {
            place = turn.frame.places h (out_of h lt' ne) ∙ before.place;
            same = ap members_of (frame_nodes (s.tree.places h) (more_given (s.tree.places h) (given_place h lt')) ne) ∙ before.same;
          }

      -- who has moved before
      goes_on : (h q : ℕ) (gs : List (ℕ × ℕ)) → h < p → s.tree.places h ≡ q → q ≢ n → Goes k.number tree h q gs → Goes number tree' h q gs
      goes_on h q gs lt' is ne (inl (inl g)) =
          let q_given : q < s.tree.given = subst (λ (j : ℕ). j < s.tree.given) is (given_place h lt') in
          inl (inl (record {
            place = turn.frame.places h (out_of h lt' (λ e. ne (sym is ∙ e))) ∙ g.place;
            same = ap members_of (frame_nodes q (more_given q q_given) ne) ∙ g.same;
            groups = g.groups;
          }))
      goes_on h q gs lt' is ne (inl (inr g)) =
          let q_given : q < s.tree.given = subst (λ (j : ℕ). j < s.tree.given) is (given_place h lt') in
          let new_part = g.is_new in
          let lt_n = given_n in
          let other : g.part ≢ n = λ e. let same : g.part ≡ n = e in absurd (omega (arith, new_part, lt_n, same)) in
          let more = turn.frame.given in
          let less = g.given in
          inl (inr (record {
            part = g.part;
            place = turn.frame.places h (out_of h lt' (λ e. ne (sym is ∙ e))) ∙ g.place;
            is_new = g.is_new;
            given = omega (arith, more, less);
            up = ap parent_of (frame_nodes g.part less other) ∙ g.up;
            same = ap members_of (frame_nodes q (more_given q q_given) ne) ∙ g.same;
            groups = g.groups ∙ ap (λ (j : ℕ). (j, size_after h) ∷ sizes q) (sym (same_number g.part less));
          }))
      goes_on h q gs lt' is ne (inr (inl g)) = inr (inl (record { place = turn.frame.places h (out_of h lt' (λ e. ne (sym is ∙ e))) ∙ g.place; lower = g.lower; groups = g.groups }))
      goes_on h q gs lt' is ne (inr (inr g)) = inr (inr (record { place = turn.frame.places h (out_of h lt' (λ e. ne (sym is ∙ e))) ∙ g.place; lower = g.lower; groups = g.groups }))

      moved' : (h : ℕ) → h < p → (b : Acting W) → slice_get actings h ≡ Some b → is_changing b.due ≡ true → lows h < suc i
          → Goes number tree' h (s.tree.places h) (groups_of (settle b.runner b.due).has)
      moved' h lt' b at' changes' lt'' =
          ⊎_elim
          (λ e.
          let in_n : Has s.tree n h = subst (λ (q : ℕ). Has s.tree q h) e (inv0.sound.placed h lt').member in
          let m = moves_of h in_n in
          let same : m.acting ≡ b = first_is m.acting b (sym m.at ∙ at') in
          let due' : b.due ≡ Some m.step = ap (λ (x : Acting W). x.due) (sym same) ∙ m.due in
          subst₂ (λ (q : ℕ) (d : Option (Step W)). Goes number tree' h q (groups_of (settle b.runner d).has)) (sym e) (sym due') (goes h in_n b at' m.step due' m.same))
          (λ ne.
          let earlier : lows h ≢ i = λ low_i. ne (at_low h lt' b at' b.due refl changes' low_i) in
          goes_on h (s.tree.places h) (groups_of (settle b.runner b.due).has) lt' refl ne (k.moved h lt' b at' changes' (omega (arith, lt'', earlier))))
          (cases_eq (s.tree.places h) n)
        where
          at_low : (h' : ℕ) → h' < p → (b' : Acting W) → slice_get actings h' ≡ Some b' → (due' : Option (Step W)) → b'.due ≡ due' → is_changing due' ≡ true → lows h' ≡ i → s.tree.places h' ≡ n
          at_low h' lt3 b' at3 None e3 c3 low_i = untrue c3
          at_low h' lt3 b' at3 (Some u) e3 c3 low_i =
              let q = s.tree.places h' in
              let m = all_move next outs counts set round s p here0 behind0 inv0 ordered possible h' lt3 b' at3 u e3 c3 (lows h') (lowest_member h' (members s.tree q) (inv0.sound.placed h' lt3).member) in
              sym m.place ∙ ap s.tree.places low_i ∙ place

      changed_kept : Kept (suc i) tree'
      changed_kept = record { stage = stage'; number = number; up = up'; new_up = new_up'; parents = parents'; unmoved = unmoved'; moved = moved' }

    -- what each operation makes of the tree, and of the groups of a member
    record Made (op' : Operation) (made : Tree) : Type 0 where
      turn : Turn n tree made
      number : ℕ → ℕ
      same_number : (m : ℕ) → m < tree.given → number m ≡ k.number m
      goes : (h : ℕ) → Has s.tree n h → (b : Acting W) → slice_get actings h ≡ Some b → Goes number made h n (groups_of (does op' value (size_after h) b.runner.has))

    groups_n : (h : ℕ) → Has s.tree n h → (b : Acting W) → slice_get actings h ≡ Some b → groups_of b.runner.has ≡ sizes n
    groups_n h is b at' = sizes_are h b at' (inv0.sound.within n h is) ∙ ap sizes (moves_of h is).place

    own_number : (h : ℕ) → Has s.tree n h → (b : Acting W) → slice_get actings h ≡ Some b → b.runner.has.level.number ≡ first_of (sizes n)
    own_number h is b at' = ap first_of (groups_n h is b at')

    stays_there : (number : ℕ → ℕ) (made : Tree) (h : ℕ) (gs : List (ℕ × ℕ)) → made.places h ≡ n → members made n ≡ members s.tree n → gs ≡ sizes n → Goes number made h n gs
    stays_there number made h gs place' same groups = inl (inl (record { place = place'; same = same; groups = groups }))

    -- another kind
    turned_made : (kind' : Kind) (op' : Operation) → ((h : ℕ) (q : Processor) → does op' value (size_after h) q ≡ q) → Made op' (with_kind n kind' tree)
    turned_made kind' op' same = record {
      turn = kind_turn n kind' tree numbered;
      number = k.number;
      same_number = λ m lt'. refl;
      goes = λ h is b at'. stays_there k.number (with_kind n kind' tree) h (groups_of (does op' value (size_after h) b.runner.has)) (place_n h is) (kind_members n kind' tree n ∙ members_n)
          (ap groups_of (same h b.runner.has) ∙ groups_n h is b at');
    }

    cases_into : (o' : Option ℕ) → (o' ≡ None) ⊎ ((j : ℕ) × (o' ≡ Some j))
    cases_into None = inl refl
    cases_into (Some j) = inr (j, refl)

    -- parts
    split_made : (op' : Operation) (k' : ℕ) (into : ℕ → Option ℕ) (named : ℕ → ℕ) → ((h j : ℕ) → Has s.tree n h → into h ≡ Some j → j < k')
        → ((h : ℕ) → Has s.tree n h → (b : Acting W) → slice_get actings h ≡ Some b → into h ≡ None → groups_of (does op' value (size_after h) b.runner.has) ≡ groups_of b.runner.has)
        → ((h j : ℕ) → Has s.tree n h → (b : Acting W) → slice_get actings h ≡ Some b → into h ≡ Some j → groups_of (does op' value (size_after h) b.runner.has) ≡ (named j, size_after h) ∷ groups_of b.runner.has)
        → Made op' (t.split n k' into tree)
    split_made op' k' into named few' outside inside = record {
      turn = split_turn n k' into tree numbered given_now;
      number = number;
      same_number = λ m lt'. cond-true (nat_lt m tree.given) (k.number m) (named (m - tree.given)) (lt-ltb m tree.given lt');
      goes = λ h is b at'.
          ⊎_elim
          (λ none. stays_there number (t.split n k' into tree) h (groups_of (does op' value (size_after h) b.runner.has))
          (split_places n k' into tree h (has_n h is) ∙ ap (place_in (tree.places h) tree.given) none ∙ place_n h is)
          (split_members n k' into tree given_now ∙ members_n) (outside h is b at' none ∙ groups_n h is b at'))
          (λ j. inl (inr (record {
            part = tree.given + j.0;
            place = split_places n k' into tree h (has_n h is) ∙ ap (place_in (tree.places h) tree.given) j.1;
            is_new = let more = st.given in omega (arith, more);
            given = let less = few' h j.0 is j.1 in omega (arith, less);
            up = new_parent n k' into tree (tree.given + j.0) (is_part h j.0 is j.1) (there_is h j.0 is j.1);
            same = split_members n k' into tree given_now ∙ members_n;
            groups = inside h j.0 is b at' j.1 ∙ ap₂ (λ (i' : ℕ) (gs : List (ℕ × ℕ)). (i', size_after h) ∷ gs) (sym (number_new j.0)) (groups_n h is b at');
          })))
          (cases_into (into h));
    }
      where
        number : ℕ → ℕ
        number m = if nat_lt m tree.given then k.number m else named (m - tree.given)

        number_new : (j : ℕ) → number (tree.given + j) ≡ named j
        number_new j =
            let which : tree.given + j - tree.given ≡ j = omega arith in
            cond-false (nat_lt (tree.given + j) tree.given) (k.number (tree.given + j)) (named (tree.given + j - tree.given)) (le-ltb (tree.given + j) tree.given (omega arith)) ∙ ap named which

        is_part : (h j : ℕ) → Has s.tree n h → into h ≡ Some j → is_from tree.given k' (tree.given + j) ≡ true
        is_part h j is e = from_within tree.given k' (tree.given + j) (omega arith) (omega (arith, few' h j is e))

        in_it : (i' : ℕ) (o' : Option ℕ) (j : ℕ) → o' ≡ Some j → i' ≡ j → is_in i' o' ≡ true
        in_it i' None j e e' = absurd (cc)
        in_it i' (Some j') j e e' = let same : j' ≡ j = first_is j' j e in eq-eqb i' j' (e' ∙ sym same)

        empty_node : (ms : List ℕ) (h : ℕ) → is_member h ms ≡ true → node_of ms n Lockstep ≡ None → ⊥
        empty_node [] h is e = false≢true is
        empty_node (m ∷ ms) h is e = cc

        there_is : (h j : ℕ) → Has s.tree n h → into h ≡ Some j → (t.split n k' into tree).nodes (tree.given + j) ≢ None
        there_is h j is e none =
            let i' = tree.given + j in
            let which : tree.given + j - tree.given ≡ j = omega arith in
            let inside' : is_member h (filter (λ g. is_in (tree.given + j - tree.given) (into g)) (members tree n)) ≡ true
            = member_kept (λ g. is_in (tree.given + j - tree.given) (into g)) (members tree n) h (has_n h is) (in_it (tree.given + j - tree.given) (into h) j e which) in
            empty_node (filter (λ g. is_in (tree.given + j - tree.given) (into g)) (members tree n)) h inside'
            (sym (new_nodes n k' into tree (tree.given + j) (is_part h j is e)) ∙ none)

    -- who leaves
    shrink_made : (op' : Operation) (keep : ℕ → Bool) → n ≢ 0
        → ((h : ℕ) → Has s.tree n h → (b : Acting W) → slice_get actings h ≡ Some b → keep h ≡ true → groups_of (does op' value (size_after h) b.runner.has) ≡ (b.runner.has.level.number, size_after h) ∷ round_it (groups_of b.runner.has))
        → ((h : ℕ) → Has s.tree n h → (b : Acting W) → slice_get actings h ≡ Some b → keep h ≡ false → groups_of (does op' value (size_after h) b.runner.has) ≡ groups_of (leave_level b.runner.has))
        → Made op' (t.shrink n keep tree)
    shrink_made op' keep lower stayers leavers = record {
      turn = shrink_turn n keep tree numbered given_now;
      number = k.number;
      same_number = λ m lt'. refl;
      goes = λ h is b at'.
          ⊎_elim
          (λ stay. inr (inl (record {
            place = still n keep tree h stay ∙ place_n h is;
            lower = lower;
            groups = stayers h is b at' stay ∙ ap₂ (λ (number : ℕ) (gs : List (ℕ × ℕ)). (number, size_after h) ∷ round_it gs) (own_number h is b at') (groups_n h is b at');
          })))
          (λ go. inr (inr (record {
            place = gone n keep tree h (has_n h is) go ∙ ap parent_of same_nodes;
            lower = lower;
            groups = leavers h is b at' go ∙ left_to b.runner.has (groups_n h is b at');
          })))
          (cases_Bool (keep h));
    }
      where
        up_headed : (g : ℕ × ℕ) × (gs : List (ℕ × ℕ)) × (sizes (parent s.tree n) ≡ g ∷ gs)
        up_headed =
            let q = parent s.tree n in
            let in_up = inv0.sound.among n i lower (in_i next outs counts set round s p here0 behind0 inv0 ordered possible i lt a at step due changing n place is_low tree st) in
            ⊎_elim
            (λ e. ((0, p), [], ap sizes e ∙ sized.root))
            (λ ne. ((sized.number q, length (members s.tree q)), sizes (parent s.tree q), sized.chain q ne (has_some s.tree q i in_up)))
            (cases_eq q 0)

        first_group : {g g' : ℕ × ℕ} {gs gs' : List (ℕ × ℕ)} → g ∷ gs ≡ g' ∷ gs' → g ≡ g'
        first_group e = cc

        left_to : (q : Processor) → groups_of q ≡ sizes n → groups_of (leave_level q) ≡ round_it (sizes n)
        left_to q e =
            let up = sized.chain n lower some_n in
            let whole : groups_of q ≡ (sized.number n, length (members s.tree n)) ∷ up_headed.0 ∷ up_headed.1 = e ∙ up ∙ ap (λ (gs : List (ℕ × ℕ)). (sized.number n, length (members s.tree n)) ∷ gs) up_headed.2 in
            let own : (q.level.number, q.level.size) ≡ (sized.number n, length (members s.tree n)) = first_group whole in
            left_groups q up_headed.0 up_headed.1 (whole ∙ ap (λ (g : ℕ × ℕ). g ∷ up_headed.0 ∷ up_headed.1) (sym own))
            ∙ sym up_headed.2 ∙ sym (ap round_it up)

    divided_in : (by : SplitKind) (size : ℕ) (q : Processor) (o' : Option ℕ) (j : ℕ) → q.level.number ≡ first_of (sizes n) → o' ≡ Some j
        → groups_of (divided by size q o') ≡ (part_number by (first_of (sizes n)) j, size) ∷ groups_of q
    divided_in by size q None j own e = absurd (cc)
    divided_in by size q (Some j') j own e =
        ap₂ (λ (i' number : ℕ). (part_number by number i', size) ∷ groups_of q) (first_is j' j e) own

    divided_out : (by : SplitKind) (size : ℕ) (q : Processor) (o' : Option ℕ) → o' ≡ None → groups_of (divided by size q o') ≡ groups_of q
    divided_out by size q None e = refl
    divided_out by size q (Some j) e = absurd (cc)

    either_is : (c d : Bool) (q r : Processor) → c ≡ d → groups_of (if c then q else r) ≡ (if d then groups_of q else groups_of r)
    either_is true d q r e = ap (λ (d' : Bool). if d' then groups_of q else groups_of r) e
    either_is false d q r e = ap (λ (d' : Bool). if d' then groups_of q else groups_of r) e

    begin_made : n ≡ 0 → Made o.Begin (changes o.Begin n (who actings) value i tree)
    begin_made root = subst (λ (q : ℕ). Made o.Begin (t.split q 1 (first_part count) tree)) root
        (split_made o.Begin 1 (first_part count) (λ j. 0) (λ h j is e. one_of_none (nat_lt h count) j e)
        (λ h is b at' none. either_is (is_taken value b.runner.has) false (entering h b.runner.has) (drop_last 1 b.runner.has) (taken_is h is b at' false (out_first h none)))
        (λ h j is b at' into. either_is (is_taken value b.runner.has) true (entering h b.runner.has) (drop_last 1 b.runner.has) (taken_is h is b at' true (in_first h j into))))
      where
        count : ℕ
        count = min (not_negative value) (length (members tree n))

        entering : ℕ → Processor → Processor
        entering h q = enter_level (start_level q (size_after h)) (drop_last 1 q)

        in_first : (h j : ℕ) → first_part count h ≡ Some j → nat_lt h count ≡ true
        in_first h j e = by (nat_lt h count) e
          where
            by : (c : Bool) → (if c then Some 0 else None) ≡ Some j → c ≡ true
            by true e' = refl
            by false e' = absurd (cc)

        out_first : (h : ℕ) → first_part count h ≡ None → nat_lt h count ≡ false
        out_first h e = by (nat_lt h count) e
          where
            by : (c : Bool) → ◌≡◌ {A = Option ℕ} (if c then Some 0 else None) None → c ≡ false
            by true e' = absurd (cc)
            by false e' = refl

        size : length (members tree n) ≡ p
        size = ap (λ (q : ℕ). length (members tree q)) root ∙ length-root p tree st.inv.sound

        taken_is : (h : ℕ) → Has s.tree n h → (b : Acting W) → slice_get actings h ≡ Some b → (c : Bool) → nat_lt h count ≡ c → is_taken value b.runner.has ≡ c
        taken_is h is b at' c e =
            let number = number_at next outs counts set round s p here0 behind0 inv0 ordered possible h b at' in
            let small : h < length (members tree n) = let lt' = inv0.sound.within n h is in omega (arith, lt', size) in
            ap (λ (q : ℕ). nat_lt q (not_negative value)) number ∙ sym (first_same h (length (members tree n)) (not_negative value) small) ∙ e

    made_by : (op' : Operation) → op ≡ op' → changes_tree op' ≡ true → Made op' (changes op' n (who actings) value i tree)
    made_by o.Begin e c = begin_made (allows.root e)
    made_by (o.Split by) e c =
        let vs = values (who actings i) in
        split_made (o.Split by) (parts by vs) (λ h. part by (values (who actings h))) (λ j. part_number by (first_of (sizes n)) j) (λ h j is e'. allows.enters_one by e h j (has_n h is) e')
        (λ h is b at' none. divided_out by (size_after h) b.runner.has (part by (values b.runner.has)) (ap (λ (q : Processor). part by (values q)) (sym (who_is actings h b at')) ∙ none))
        (λ h j is b at' into. divided_in by (size_after h) b.runner.has (part by (values b.runner.has)) j (own_number h is b at') (ap (λ (q : Processor). part by (values q)) (sym (who_is actings h b at')) ∙ into))
    made_by o.Shrink e c =
        shrink_made o.Shrink (λ h. stays (who actings h)) (allows.shrunk e)
        (λ h is b at' keep.
        either_is (stays b.runner.has) true (with_size (size_after h) (drop_last 1 b.runner.has)) (leave_level (drop_last 1 b.runner.has)) (ap stays (sym (who_is actings h b at')) ∙ keep))
        (λ h is b at' keep.
        either_is (stays b.runner.has) false (with_size (size_after h) (drop_last 1 b.runner.has)) (leave_level (drop_last 1 b.runner.has)) (ap stays (sym (who_is actings h b at')) ∙ keep)
        ∙ left_same b.runner.has)
      where
        left_same : (q : Processor) → groups_of (leave_level (drop_last 1 q)) ≡ groups_of (leave_level q)
        left_same q = by q.outer
          where
            by : (ls : List Level) → groups_of (to_outer (drop_last 1 q) ls) ≡ groups_of (to_outer q ls)
            by [] = refl
            by (l ∷ ls) = refl
    made_by o.End e c =
        shrink_made o.End (λ h. false) (allows.ended e) (λ h is b at' keep. untrue keep) (λ h is b at' keep. refl)
    made_by o.Farm e c = turned_made (Asynchronous false) o.Farm (λ h q. refl)
    made_by o.Seq e c = turned_made (Asynchronous true) o.Seq (λ h q. refl)
    made_by o.Resume e c = turned_made (kind_after n) o.Resume (λ h q. refl)
    made_by (o.Meet true) e c = turned_made Lockstep (o.Meet true) (λ h q. refl)
    made_by (o.Meet false) e c = untrue c
    made_by op' e c = untrue c

    kept' : Kept (suc i) tree'
    kept' =
        let m = made_by op refl changing in
        changed_kept m.turn m.number m.same_number
        (λ h is b at' u due' same. subst (λ (gs : List (ℕ × ℕ)). Goes m.number tree' h n gs) (sym (settled_groups h is b at' u same)) (m.goes h is b at'))
      where
        settled_groups : (h : ℕ) → Has s.tree n h → (b : Acting W) → slice_get actings h ≡ Some b → (u : Step W) → u.operation ≡ op
            → groups_of (settle b.runner (Some u)).has ≡ groups_of (does op value (size_after h) b.runner.has)
        settled_groups h is b at' u same =
            let number = number_at next outs counts set round s p here0 behind0 inv0 ordered possible h b at' in
            ap (λ (q : ℕ). groups_of (does u.operation (agreed actings (members s.tree (s.tree.places q))) (size_after q) b.runner.has)) number
            ∙ ap (λ (q : ℕ). groups_of (does u.operation (agreed actings (members s.tree q)) (size_after h) b.runner.has)) (moves_of h is).place
            ∙ ap (λ (op' : Operation). groups_of (does op' value (size_after h) b.runner.has)) same

  -- one processor's step, whoever it is
  kept_after : (i : ℕ) → i < p → (a : Acting W) → slice_get actings i ≡ Some a → (tree : Tree) → Kept i tree → Kept (suc i) (change_by actings s.tree i a.due tree)
  kept_after i lt a at tree k =
      by_step next outs counts set round s p here0 behind0 inv0 ordered possible (Kept (suc i)) i a tree (λ quiet. same_kept i a at quiet tree k)
      (λ step due changing low_i. kept' i lt a at step due changing (s.tree.places i) refl low_i tree k)

  pub last_kept : Kept p new
  last_kept = all_keep next outs counts set round s p here0 behind0 inv0 ordered possible Kept kept_after first_kept

  -- the numbers and sizes after the round
  abbrev kept_sizes : ℕ → List (ℕ × ℕ)
  kept_sizes q = if q == 0 then sizes 0 else (first_of (sizes q), length (members new q)) ∷ round_it (sizes q)

  abbrev pub new_sizes : ℕ → List (ℕ × ℕ)
  new_sizes m = if nat_lt m s.tree.given then kept_sizes m else (last_kept.number m, length (members new m)) ∷ kept_sizes (parent new m)

  old_size : (m : ℕ) → m < s.tree.given → new_sizes m ≡ kept_sizes m
  old_size m lt = cond-true (nat_lt m s.tree.given) (kept_sizes m) ((last_kept.number m, length (members new m)) ∷ kept_sizes (parent new m)) (lt-ltb m s.tree.given lt)

  new_size : (m : ℕ) → s.tree.given ≤ m → new_sizes m ≡ (last_kept.number m, length (members new m)) ∷ kept_sizes (parent new m)
  new_size m le = cond-false (nat_lt m s.tree.given) (kept_sizes m) ((last_kept.number m, length (members new m)) ∷ kept_sizes (parent new m)) (le-ltb m s.tree.given le)

  lower_size : (m : ℕ) → m ≢ 0 → kept_sizes m ≡ (first_of (sizes m), length (members new m)) ∷ round_it (sizes m)
  lower_size m ne = cond-false (m == 0) (sizes 0) ((first_of (sizes m), length (members new m)) ∷ round_it (sizes m)) (ne_eqb m 0 ne)

  same_size : (q : ℕ) → s.tree.nodes q ≢ None → members new q ≡ members s.tree q → kept_sizes q ≡ sizes q
  same_size q some same =
      ⊎_elim
      (λ e. cond-true (q == 0) (sizes 0) ((first_of (sizes q), length (members new q)) ∷ round_it (sizes q)) (eq-eqb q 0 e) ∙ ap sizes (sym e))
      (λ ne.
      let chain = sized.chain q ne some in
      lower_size q ne ∙ ap₂ (λ (ms : List ℕ) (gs : List (ℕ × ℕ)). (first_of gs, length ms) ∷ round_it gs) same chain ∙ sym chain)
      (cases_eq q 0)

  root_given : 0 < s.tree.given
  root_given = some-given p s.tree inv0.sound 0 (has_some s.tree 0 0 (root_has (inv0.sound.some)))
    where
      root_has : 1 ≤ p → Has s.tree 0 0
      root_has le = subst (λ (ms : List ℕ). is_member 0 ms ≡ true) (sym inv0.sound.root) (below-has p 0 [] (omega (arith, le)))

  parent_there : (m : ℕ) → m ≢ 0 → s.tree.nodes m ≢ None → s.tree.nodes (parent s.tree m) ≢ None
  parent_there m ne some = awaits-some s.tree (parent s.tree m) m (inv0.sound.awaited m ne some)

  pub new_sized : Sized p new new_sizes
  new_sized = record {
    root = old_size 0 root_given ∙ sized.root;
    number = number;
    chain = λ m ne some. by_number m ne some (cases_lt m s.tree.given);
  }
    where
      number : ℕ → ℕ
      number m = if nat_lt m s.tree.given then first_of (sizes m) else last_kept.number m

      by_number : (m : ℕ) → m ≢ 0 → new.nodes m ≢ None → (m < s.tree.given) ⊎ (s.tree.given ≤ m) → new_sizes m ≡ (number m, length (members new m)) ∷ new_sizes (parent new m)
      by_number m ne some (inl lt) =
          let before = last_kept.up m lt some in
          let q = parent s.tree m in
          let q_some = parent_there m ne before.0 in
          let q_size : new_sizes q ≡ sizes q = old_size q (some-given p s.tree inv0.sound q q_some) ∙ same_size q q_some (last_kept.parents m ne before.0) in
          old_size m lt ∙ lower_size m ne
          ∙ ap₂ (λ (i' : ℕ) (gs : List (ℕ × ℕ)). (i', length (members new m)) ∷ gs) (sym (cond-true (nat_lt m s.tree.given) (first_of (sizes m)) (last_kept.number m) (lt-ltb m s.tree.given lt)))
          (ap round_it (sized.chain m ne before.0) ∙ sym q_size ∙ ap new_sizes (sym before.1))
      by_number m ne some (inr le) =
          let up = last_kept.new_up m le some in
          new_size m le
          ∙ ap₂ (λ (i' : ℕ) (gs : List (ℕ × ℕ)). (i', length (members new m)) ∷ gs) (sym (cond-false (nat_lt m s.tree.given) (first_of (sizes m)) (last_kept.number m) (le-ltb m s.tree.given le)))
          (sym (old_size (parent new m) up))

  there_before : (h : ℕ) → h < p → s.tree.nodes (s.tree.places h) ≢ None
  there_before h lt = has_some s.tree (s.tree.places h) h (inv0.sound.placed h lt).member

  pub new_groups : (h : ℕ) → h < p → (b : Acting W) → slice_get actings h ≡ Some b → groups_of (settle b.runner b.due).has ≡ new_sizes (new.places h)
  new_groups h lt b at =
      ⊎_elim
      (λ changing. by_goes (last_kept.moved h lt b at changing (low_below h lt)))
      (λ still.
      let u = last_kept.unmoved h lt b at (inl still) in
      quiet_groups b.runner b.due still ∙ sizes_are h b at lt
      ∙ sym (old_size n (given_n') ∙ same_size n (there_before h lt) u.same) ∙ ap new_sizes (sym u.place))
      (cases_Bool (is_changing b.due))
    where
      n : ℕ
      n = s.tree.places h

      given_n' : n < s.tree.given
      given_n' = some-given p s.tree inv0.sound n (there_before h lt)

      low_below : (h' : ℕ) → h' < p → lows h' < p
      low_below h' lt' = inv0.sound.within (s.tree.places h') (lows h') (lowest_member h' (members s.tree (s.tree.places h')) (inv0.sound.placed h' lt').member)

      quiet_groups : (r : Runner W) (due : Option (Step W)) → is_changing due ≡ false → groups_of (settle r due).has ≡ groups_of r.has
      quiet_groups r None e = refl
      quiet_groups r (Some u) e = plain_groups u.operation (agreed actings (members s.tree (s.tree.places r.has.number))) (size_after r.has.number) r.has e

      by_goes : {gs : List (ℕ × ℕ)} → Goes last_kept.number new h n gs → gs ≡ new_sizes (new.places h)
      by_goes (inl (inl g)) = g.groups ∙ sym (old_size n given_n' ∙ same_size n (there_before h lt) g.same) ∙ ap new_sizes (sym g.place)
      by_goes (inl (inr g)) =
          g.groups ∙ ap₂ (λ (q : ℕ) (gs : List (ℕ × ℕ)). (last_kept.number g.part, length (members new q)) ∷ gs) g.place (sym (same_size n (there_before h lt) g.same) ∙ ap kept_sizes (sym g.up))
          ∙ sym (new_size g.part g.is_new) ∙ ap new_sizes (sym g.place)
      by_goes (inr (inl g)) =
          g.groups ∙ ap (λ (q : ℕ). (first_of (sizes n), length (members new q)) ∷ round_it (sizes n)) g.place
          ∙ sym (old_size n given_n' ∙ lower_size n g.lower) ∙ ap new_sizes (sym g.place)
      by_goes (inr (inr g)) =
          let q = parent s.tree n in
          let q_some = parent_there n g.lower (there_before h lt) in
          g.groups ∙ ap round_it (sized.chain n g.lower (there_before h lt))
          ∙ sym (old_size q (some-given p s.tree inv0.sound q q_some) ∙ same_size q q_some (last_kept.parents n g.lower (there_before h lt)))
          ∙ ap new_sizes (sym g.place)
