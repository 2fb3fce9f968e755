-- What is known of the steps of a possible round allows the changes of the tree, and tells the modes
-- after it.
use Rattle.std.proofs.Common.{◌≡◌, ◌≢◌, ℕ, zero, suc, ◌+◌, ◌-◌, ◌^◌, ◌<◌, ◌≤◌, min, Bool, true, false, ◌&&◌, ◌||◌, not, ◌⊎◌, inl, inr, List, [], ◌∷◌, length, Option, Some, None, ap, refl, sym, ◌∙◌, subst, arith}
use Rattle.std.specs.Prelude.{◌==◌, nat_lt, nat_le, slice_get, filter, if◌then◌else◌, option_map}
use Rattle.fk_tree.specs.Tree as t
use Rattle.fk_tree.specs.Tree.{Tree, Node, is_member, is_from, is_in, node_of, with_node, with_kind, turned, left_by, place_in, first_part}
use Rattle.fk_tree.specs.Sound.{IsSound, Has, awaits}
use Rattle.fk_tree.specs.declared.node.Kind.{Kind}
use Rattle.fk_tree.specs.declared.node.Kind.TheVariants.{Lockstep, Waiting, Asynchronous}
use Rattle.fk_meaning_operation.specs.declared.operation.Operation.{Operation}
use Rattle.fk_meaning_operation.specs.declared.operation.Operation.TheVariants as o
use Rattle.fk_meaning_operation.specs.declared.operation.SplitKind.{SplitKind}
use Rattle.fk_meaning_operation.specs.declared.operation.SplitKind.TheVariants as by
use Rattle.fk_meaning.specs.Processor.{Processor, values, last, before}
use Rattle.fk_meaning.specs.Group.{parts, part, stays, is_taken, not_negative, goes_onward, enters}
use Rattle.fk_meaning.specs.Round.{Acting, lowest, highest, who}
use Rattle.fk_core.specs.declared.op.CoreOp.{CoreOp}
use Rattle.fk_lockstep.specs.Untouched.{changes_tree}
use Rattle.fk_lockstep_nodes.specs.Steps.{Does, KeepsOrDoes, StepsBy, tree_by, NodesStep}
use Rattle.fk_lockstep_tree.specs.Steps.{StepFits, AreKnown}
use Rattle.fk_meaning_state.specs.View.{processor_of}
use Rattle.fk_replay_rounds.specs.declared.mode.Mode.{Mode}
use Rattle.fk_replay_rounds.specs.declared.mode.Mode.TheVariants.{Group, Apart}
use Rattle.fk_replay_rounds.specs.Modes.{mode_of}
use Rattle.fk_replay_steps.specs.Steps.{step_at, callers_of}
use Rattle.fk_replay_steps.specs.declared.list.Due.{Due}
use Rattle.fk_replay_phases.specs.Actors.{acting_of, actings_of, due_of, AreReady}
use Rattle.fk_replay_phases.specs.Modes.{HaveModes}
use Rattle.fk_replay_phases.specs.declared.actor.Actor.{Actor}
use Rattle.fk_replay_trees.specs.Changes.{has_of, has_by, Needs, CanStep, CanChange, entered_mode, resumed_mode, mode_after, mode_as, agreed_by, settled_mode, ModesFollow}
use Rattle.fk_replay_trees.proofs.Loop.{who_is, get_map}

eq_true : (a b : ℕ) → a ≡ b → (a == b) ≡ true
eq_true a b e = grind arith

diff : (f i : ℕ) → (f + i - f == i) ≡ true
diff f i = eq_true (f + i - f) i (omega arith)

not_zero : (g : ℕ) → (suc g == 0) ≡ false
not_zero g = grind arith

-- ---- what a processor does

steps_at : {W : Type 0} (old : Tree) (does : ℕ → Option Operation) (n : ℕ) (A : List (Acting W)) (k : ℕ) (x : Acting W) → StepsBy old does n A → slice_get A k ≡ Some x
    → (x.runner.has.number ≡ n + k) × KeepsOrDoes (does (old.places (n + k))) x.due
steps_at old does n [] k x steps is = absurd (let bad : None ≡ Some x = is in cc)
steps_at old does n (y ∷ A) zero x steps is =
    let same : y ≡ x = cc in
    let here : n ≡ n + 0 = omega arith in
    subst (λ z. (z.runner.has.number ≡ n + 0) × KeepsOrDoes (does (old.places (n + 0))) z.due) same
    (steps.0 ∙ here, subst (λ (m : ℕ). KeepsOrDoes (does (old.places m)) y.due) here steps.1)
steps_at old does n (y ∷ A) (suc k) x steps is =
    let here : suc n + k ≡ n + suc k = omega arith in
    subst (λ (m : ℕ). (x.runner.has.number ≡ m) × KeepsOrDoes (does (old.places m)) x.due) here (steps_at old does (suc n) A k x steps.2 is)

keeps_no : (operation : Operation) → changes_tree operation ≡ false → (tree : Tree) (g : ℕ) → Needs tree g operation
keeps_no o.Begin e tree g = absurd (let bad : true ≡ false = e in cc)
keeps_no (o.Split by) e tree g = absurd (let bad : true ≡ false = e in cc)
keeps_no o.Shrink e tree g = absurd (let bad : true ≡ false = e in cc)
keeps_no o.End e tree g = absurd (let bad : true ≡ false = e in cc)
keeps_no o.Farm e tree g = absurd (let bad : true ≡ false = e in cc)
keeps_no o.Seq e tree g = absurd (let bad : true ≡ false = e in cc)
keeps_no (o.Meet true) e tree g = absurd (let bad : true ≡ false = e in cc)
keeps_no o.Resume e tree g = absurd (let bad : true ≡ false = e in cc)
keeps_no operation e tree g = tt

keeps_mode : (operation : Operation) → changes_tree operation ≡ false → (onward is_root : Bool) (mode : Mode) → mode_after operation onward is_root mode ≡ mode
keeps_mode o.Begin e onward is_root mode = absurd (let bad : true ≡ false = e in cc)
keeps_mode (o.Split by) e onward is_root mode = absurd (let bad : true ≡ false = e in cc)
keeps_mode o.Shrink e onward is_root mode = absurd (let bad : true ≡ false = e in cc)
keeps_mode o.End e onward is_root mode = absurd (let bad : true ≡ false = e in cc)
keeps_mode o.Farm e onward is_root mode = absurd (let bad : true ≡ false = e in cc)
keeps_mode o.Seq e onward is_root mode = absurd (let bad : true ≡ false = e in cc)
keeps_mode (o.Meet true) e onward is_root mode = absurd (let bad : true ≡ false = e in cc)
keeps_mode o.Resume e onward is_root mode = absurd (let bad : true ≡ false = e in cc)
keeps_mode operation e onward is_root mode = refl

fits_needs : (operation : Operation) (tree : Tree) (g : ℕ) → StepFits tree g operation → (operation ≡ o.Resume → t.ready tree g ≡ true) → Needs tree g operation
fits_needs o.Begin tree g fits ready = (fits.0, ap (λ (n : ℕ). t.is_waiting (t.kind tree n)) (sym fits.0) ∙ ap t.is_waiting fits.1)
fits_needs (o.Split by) tree g fits ready = fits
fits_needs o.Shrink tree g fits ready = fits.0
fits_needs o.End tree g fits ready = fits
fits_needs o.Farm tree g fits ready = fits
fits_needs o.Seq tree g fits ready = fits
fits_needs (o.Meet true) tree g fits ready = record { alone = fits.1.0; part = fits.0; body = fits.1.1 }
fits_needs o.Resume tree g fits ready = ready refl
fits_needs operation tree g fits ready = absurd fits

module _ (core : List CoreOp) (tree : Tree) (actors : List Actor) (p : ℕ) (sound : IsSound p tree) (many : length actors ≡ p) (known : AreKnown tree (actings_of core actors)) where
  due_at : (a : Actor) (due : Due) → a.taken ≡ Some due → due_of core a ≡ Some (step_at core (callers_of a.runner) due)
  due_at a due e = ap (option_map (step_at core (callers_of a.runner))) e

  pub tells : (h : ℕ) (a : Actor) → slice_get actors h ≡ Some a → KeepsOrDoes (known.does (tree.places h)) (due_of core a)
  tells h a is = subst (λ (m : ℕ). KeepsOrDoes (known.does (tree.places m)) (due_of core a)) (let e : 0 + h ≡ h = omega arith in e)
      (steps_at tree known.does 0 (actings_of core actors) h (acting_of core a) known.steps (get_map (acting_of core) actors h a is)).1

  within : (h : ℕ) (a : Actor) → slice_get actors h ≡ Some a → h < p
  within h a is = let lt = within_of actors h a is in omega arith
    where
      within_of : (xs : List Actor) (h : ℕ) (a : Actor) → slice_get xs h ≡ Some a → h < length xs
      within_of [] h a e = absurd (let bad : None ≡ Some a = e in cc)
      within_of (x ∷ xs) zero a e = omega arith
      within_of (x ∷ xs) (suc h) a e = let lt = within_of xs h a e in omega arith

  pub can_change : AreReady core actors → ((h : ℕ) (a : Actor) (due : Due) → slice_get actors h ≡ Some a → a.taken ≡ Some due → due.operation ≡ o.Resume → t.ready tree (tree.places h) ≡ true)
      → CanChange tree actors
  can_change ready resumes = record { each = one }
    where
      one : (h : ℕ) (a : Actor) (due : Due) → slice_get actors h ≡ Some a → a.taken ≡ Some due → h ≡ lowest (t.members tree (tree.places h)) → CanStep tree actors (tree.places h) due.operation
      one h a due is taken low = by_does (known.does (tree.places h)) refl (subst (λ d. KeepsOrDoes (known.does (tree.places h)) d) (due_at a due taken) (tells h a is))
        where
          few_of : (by : SplitKind) → due.operation ≡ o.Split by → parts by (values (has_of actors (lowest (t.members tree (tree.places h))))) ≤ 2 ^ 18
          few_of by e =
              let few = (ready.each h a is).few due by taken e in
              let who_low : has_of actors (lowest (t.members tree (tree.places h))) ≡ processor_of a.runner.processor = ap (has_of actors) (sym low) ∙ ap has_by is in
              subst (λ (q : Processor). parts by (values q) ≤ 2 ^ 18) (sym who_low) few

          by_does : (d : Option Operation) → known.does (tree.places h) ≡ d → KeepsOrDoes (known.does (tree.places h)) (Some (step_at core (callers_of a.runner) due)) → CanStep tree actors (tree.places h) due.operation
          by_does None e tells_it =
              let keeps : changes_tree due.operation ≡ false = subst (λ d. KeepsOrDoes d (Some (step_at core (callers_of a.runner) due))) e tells_it in
              record {
                needs = keeps_no due.operation keeps tree (tree.places h);
                divide = λ by is_split. absurd (let bad : true ≡ false = sym (ap changes_tree is_split) ∙ keeps in cc);
                few = few_of;
              }
          by_does (Some operation) e tells_it =
              let same : due.operation ≡ operation = subst (λ d. KeepsOrDoes d (Some (step_at core (callers_of a.runner) due))) e tells_it in
              let fits = subst (StepFits tree (tree.places h)) (sym same) (known.fits (tree.places h) operation e) in
              record {
                needs = fits_needs due.operation tree (tree.places h) fits (resumes h a due is taken);
                divide = λ by is_split. record {
                  same = λ k has.
                      ap (λ (q : Processor). parts by (values q)) (sym (who_is core actors k))
                      ∙ known.divide (tree.places h) k by (e ∙ ap Some (sym same ∙ is_split)) has
                      ∙ ap (λ (q : Processor). parts by (values q)) (who_is core actors (lowest (t.members tree (tree.places h))));
                };
                few = few_of;
              }

  -- ---- modes

  module _ (new : Tree) (steps : NodesStep tree new (who (actings_of core actors)) known.does) where
    first : ℕ → ℕ
    first g = steps.first g

    living : (h : ℕ) → h < p → tree.places h < tree.given
    living h lt = by_le (le_or tree.given (tree.places h))
      where
        le_or : (a b : ℕ) → (a ≤ b) ⊎ (b < a)
        le_or a b = grind arith

        by_le : (tree.given ≤ tree.places h) ⊎ (tree.places h < tree.given) → tree.places h < tree.given
        by_le (inr is) = is
        by_le (inl le) =
            let none : tree.nodes (tree.places h) ≡ None = sound.numbered (tree.places h) le in
            let has = (sound.placed h lt).member in
            absurd (let bad : false ≡ true = sym (ap (λ node. is_member h (t.members_of node)) none) ∙ has in cc)

    -- the place and the nodes, by the step of the node
    place_by : (h : ℕ) (d : Option Operation) → known.does (tree.places h) ≡ d → new.places h ≡ (tree_by tree (who (actings_of core actors)) (steps.first (tree.places h)) (tree.places h) d).places h
    place_by h d e = steps.places h ∙ ap (λ x. (tree_by tree (who (actings_of core actors)) (steps.first (tree.places h)) (tree.places h) x).places h) e

    node_by : (g : ℕ) (d : Option Operation) → known.does g ≡ d → g < tree.given → new.nodes g ≡ (tree_by tree (who (actings_of core actors)) (steps.first g) g d).nodes g
    node_by g d e lt = steps.nodes g lt ∙ ap (λ x. (tree_by tree (who (actings_of core actors)) (steps.first g) g x).nodes g) e

    part_by : (g m : ℕ) (d : Option Operation) → known.does g ≡ d → steps.first g ≤ m → m < (tree_by tree (who (actings_of core actors)) (steps.first g) g d).given
        → new.nodes m ≡ (tree_by tree (who (actings_of core actors)) (steps.first g) g d).nodes m
    part_by g m d e le lt = steps.parts g m le (subst (λ x. m < (tree_by tree (who (actings_of core actors)) (steps.first g) g x).given) (sym e) lt)
        ∙ ap (λ x. (tree_by tree (who (actings_of core actors)) (steps.first g) g x).nodes m) e

    kind_at : (h : ℕ) (m : ℕ) (found : Option Node) → new.places h ≡ m → new.nodes m ≡ found → mode_of (t.kind new (new.places h)) ≡ mode_of (t.kind_of found)
    kind_at h m found place is = ap (λ (k : ℕ). mode_of (t.kind_of (new.nodes k))) place ∙ ap (λ n. mode_of (t.kind_of n)) is

    -- a node where nobody changes the tree
    quiet : (h : ℕ) → h < p → known.does (tree.places h) ≡ None → mode_of (t.kind new (new.places h)) ≡ mode_of (t.kind tree (tree.places h))
    quiet h lt e = kind_at h (tree.places h) (tree.nodes (tree.places h)) (place_by h None e) (node_by (tree.places h) None e (living h lt))

    -- ---- lists of members

    filter_some : (P : ℕ → Bool) (ms : List ℕ) (h : ℕ) → is_member h ms ≡ true → P h ≡ true → (m : ℕ) × (rest : List ℕ) × (filter P ms ≡ m ∷ rest)
    filter_some P [] h is passes = absurd (let bad : false ≡ true = is in cc)
    filter_some P (m ∷ ms) h is passes = by_test (P m) refl (λ later. filter_some P ms h later passes)
      where
        by_test : (b : Bool) → P m ≡ b → (is_member h ms ≡ true → (n : ℕ) × (rest : List ℕ) × (filter P ms ≡ n ∷ rest)) → (n : ℕ) × (rest : List ℕ) × (filter P (m ∷ ms) ≡ n ∷ rest)
        by_test true e more_of = (m, filter P ms, ap (λ (c : Bool). if c then m ∷ filter P ms else filter P ms) e)
        by_test false e more_of =
            let other : (h == m) ≡ false = not_same (h == m) refl in
            let more = more_of (sym (ap (λ (c : Bool). c || is_member h ms) other) ∙ is) in
            (more.0, more.1, ap (λ (c : Bool). if c then m ∷ filter P ms else filter P ms) e ∙ more.2)
          where
            not_same : (c : Bool) → (h == m) ≡ c → c ≡ false
            not_same false e' = refl
            not_same true e' =
                let same : h ≡ m = grind arith in
                absurd (let bad : true ≡ false = sym passes ∙ ap P same ∙ e in cc)

    kept_kind : (P : ℕ → Bool) (ms : List ℕ) (h parent : ℕ) (kind : Kind) → is_member h ms ≡ true → P h ≡ true → t.kind_of (node_of (filter P ms) parent kind) ≡ Some kind
    kept_kind P ms h parent kind is passes =
        let some = filter_some P ms h is passes in
        ap (λ xs. t.kind_of (node_of xs parent kind)) some.2

    with_true : {A : Type 0} (b : Bool) (x y : A) → b ≡ true → (if b then x else y) ≡ x
    with_true true x y e = refl
    with_true false x y e = absurd (let bad : false ≡ true = e in cc)

    with_false : {A : Type 0} (b : Bool) (x y : A) → b ≡ false → (if b then x else y) ≡ y
    with_false false x y e = refl
    with_false true x y e = absurd (let bad : true ≡ false = e in cc)

    same_eq : (a : ℕ) → (a == a) ≡ true
    same_eq a = grind arith

    from_first : (first k i : ℕ) → i < k → is_from first k (first + i) ≡ true
    from_first first k i lt =
        ap (λ (b : Bool). b && nat_lt (first + i) (first + k)) (let e : nat_le first (first + i) ≡ true = grind arith in e) ∙ (let e : nat_lt (first + i) (first + k) ≡ true = grind arith in e)

    not_from : (first k m : ℕ) → m < first → is_from first k m ≡ false
    not_from first k m lt = ap (λ (b : Bool). b && nat_lt m (first + k)) (let e : nat_le first m ≡ false = grind arith in e)

    turned_kind : (n : ℕ) (kind : Kind) (h : ℕ) → is_member h (t.members tree n) ≡ true → t.kind_of (turned kind (tree.nodes n)) ≡ Some kind
    turned_kind n kind h is = by_node (tree.nodes n) is
      where
        by_node : (node : Option Node) → is_member h (t.members_of node) ≡ true → t.kind_of (turned kind node) ≡ Some kind
        by_node None e = absurd (let bad : false ≡ true = e in cc)
        by_node (Some node) e = refl

    -- ---- the parent of a node in lockstep waits, and goes on waiting

    waits_kind : (k : Option Kind) (m : ℕ) → awaits k m ≡ true → mode_of k ≡ Apart
    waits_kind None m e = absurd (let bad : false ≡ true = e in cc)
    waits_kind (Some Lockstep) m e = absurd (let bad : false ≡ true = e in cc)
    waits_kind (Some (Waiting first parts)) m e = refl
    waits_kind (Some (Asynchronous alone)) m e = absurd (let bad : false ≡ true = e in cc)

    has_node : (g h : ℕ) → Has tree g h → tree.nodes g ≢ None
    has_node g h has none = absurd (let bad : false ≡ true = sym (ap (λ node. is_member h (t.members_of node)) none) ∙ has in cc)

    parent_waits : (h g : ℕ) → h < p → tree.places h ≡ g → t.kind tree g ≡ Some Lockstep → new.places h ≡ t.parent tree g → mode_of (t.kind new (new.places h)) ≡ Apart
    parent_waits h g lt at lockstep place =
        let has : Has tree g h = subst (λ (n : ℕ). Has tree n h) at (sound.placed h lt).member in
        let part : g ≢ 0 = λ e. sound.free (ap (t.kind tree) (sym e) ∙ lockstep) in
        let above = sound.awaited g part (has_node g h has) in
        let has_above = sound.among g h part has in
        let low : t.parent tree g < tree.given = living_node (t.parent tree g) h has_above in
        by_does h g lt at lockstep place has_above above low (known.does (t.parent tree g)) refl
      where
        living_node : (n h : ℕ) → Has tree n h → n < tree.given
        living_node n h has = by_le (le_or tree.given n)
          where
            le_or : (a b : ℕ) → (a ≤ b) ⊎ (b < a)
            le_or a b = grind arith

            by_le : (tree.given ≤ n) ⊎ (n < tree.given) → n < tree.given
            by_le (inr is) = is
            by_le (inl le) = absurd (has_node n h has (sound.numbered n le))

        by_does : (h g : ℕ) → h < p → tree.places h ≡ g → t.kind tree g ≡ Some Lockstep → new.places h ≡ t.parent tree g → Has tree (t.parent tree g) h → awaits (t.kind tree (t.parent tree g)) g ≡ true → t.parent tree g < tree.given
            → (d : Option Operation) → known.does (t.parent tree g) ≡ d → mode_of (t.kind new (new.places h)) ≡ Apart
        by_does h g lt at lockstep place has_above above low None e =
            kind_at h (t.parent tree g) (tree.nodes (t.parent tree g)) place (node_by (t.parent tree g) None e low) ∙ waits_kind (t.kind tree (t.parent tree g)) g above
        by_does h g lt at lockstep place has_above above low (Some operation) e =
            let stands : tree.places h ≡ t.parent tree g = (known.may (t.parent tree g) operation e).stand h has_above in
            let same : g ≡ t.parent tree g = sym at ∙ stands in
            absurd (let bad : false ≡ true = sym (ap (λ k. awaits k g) (ap (t.kind tree) (sym same) ∙ lockstep)) ∙ above in cc)

    -- ---- each step

    -- the mode of a processor at a node whose members do an operation
    abbrev NewMode : ℕ → Mode
    NewMode h = mode_of (t.kind new (new.places h))

    who_h : (h : ℕ) (a : Actor) → slice_get actors h ≡ Some a → who (actings_of core actors) h ≡ processor_of a.runner.processor
    who_h h a is = who_is core actors h ∙ ap has_by is

    by_begin : (h : ℕ) (a : Actor) (onward : Bool) → slice_get actors h ≡ Some a → known.does (tree.places h) ≡ Some o.Begin → tree.places h ≡ 0
        → onward ≡ nat_lt h (not_negative (last (values (who (actings_of core actors) (highest (t.members tree (tree.places h)))))))
        → entered_mode onward ≡ mode_of (t.kind new (new.places h))
    by_begin h a onward is e root on = sym (by_on onward refl)
      where
        lt : h < p
        lt = within h a is

        value : ℕ
        value = not_negative (last (values (who (actings_of core actors) (highest (t.members tree (tree.places h))))))

        count : ℕ
        count = min (not_negative (last (values (who (actings_of core actors) (highest (t.members tree (tree.places h))))))) (length (t.members tree (tree.places h)))

        all : length (t.members tree (tree.places h)) ≡ p
        all = ap (λ (n : ℕ). length (t.members tree n)) root ∙ ap length sound.root ∙ length_below p [] ∙ (let z : p + 0 ≡ p = omega arith in z)
          where
            length_below : (q : ℕ) (more : List ℕ) → length (t.below q more) ≡ q + length more
            length_below zero more = let e : length more ≡ 0 + length more = omega arith in e
            length_below (suc q) more = let ih = length_below q (q ∷ more) in omega arith

        place : new.places h ≡ (if is_member h (t.members tree 0) then place_in (tree.places h) (steps.first (tree.places h)) (first_part count h) else tree.places h)
        place = place_by h (Some o.Begin) e

        has : is_member h (t.members tree 0) ≡ true
        has = subst (λ (n : ℕ). Has tree n h) root (sound.placed h lt).member

        member_place : new.places h ≡ place_in (tree.places h) (steps.first (tree.places h)) (first_part count h)
        member_place = place ∙ with_true (is_member h (t.members tree 0)) (place_in (tree.places h) (steps.first (tree.places h)) (first_part count h)) (tree.places h) has

        same_test : nat_lt h count ≡ nat_lt h value
        same_test = let a' = all in let l' = lt in test h value (length (t.members tree (tree.places h))) (omega arith)
          where
            test : (h v m : ℕ) → h < m → nat_lt h (min v m) ≡ nat_lt h v
            test h v m lt' = grind arith

        by_on : (b : Bool) → onward ≡ b → mode_of (t.kind new (new.places h)) ≡ entered_mode onward
        by_on true o' =
            let is_in_part : nat_lt h count ≡ true = same_test ∙ sym on ∙ o' in
            let goes : first_part count h ≡ Some 0 = with_true (nat_lt h count) (Some 0) None is_in_part in
            let there : new.places h ≡ steps.first (tree.places h) + 0 = member_place ∙ ap (place_in (tree.places h) (steps.first (tree.places h))) goes in
            let node : new.nodes (steps.first (tree.places h) + 0) ≡ (tree_by tree (who (actings_of core actors)) (steps.first (tree.places h)) (tree.places h) (Some o.Begin)).nodes (steps.first (tree.places h) + 0) =
            part_by (tree.places h) (steps.first (tree.places h) + 0) (Some o.Begin) e (omega arith) (omega arith) in
            let made = with_true (is_from (steps.first (tree.places h)) 1 (steps.first (tree.places h) + 0)) (node_of (filter (λ k. is_in (steps.first (tree.places h) + 0 - steps.first (tree.places h)) (first_part count k)) (t.members tree 0)) 0 Lockstep) ((with_kind 0 (Waiting (steps.first (tree.places h)) 1) (record tree { given = steps.first (tree.places h) })).nodes (steps.first (tree.places h) + 0)) (from_first (steps.first (tree.places h)) 1 0 (omega arith)) in
            let passes : is_in (steps.first (tree.places h) + 0 - steps.first (tree.places h)) (first_part count h) ≡ true =
            ap (is_in (steps.first (tree.places h) + 0 - steps.first (tree.places h))) goes ∙ (let z : (steps.first (tree.places h) + 0 - steps.first (tree.places h) == 0) ≡ true = grind arith in z) in
            kind_at h (steps.first (tree.places h) + 0) (node_of (filter (λ k. is_in (steps.first (tree.places h) + 0 - steps.first (tree.places h)) (first_part count k)) (t.members tree 0)) 0 Lockstep) there (node ∙ made)
            ∙ ap mode_of (kept_kind (λ k. is_in (steps.first (tree.places h) + 0 - steps.first (tree.places h)) (first_part count k)) (t.members tree 0) h 0 Lockstep has passes)
            ∙ sym (ap entered_mode o')
        by_on false o' =
            let not_in_part : nat_lt h count ≡ false = same_test ∙ sym on ∙ o' in
            let stays_there : first_part count h ≡ None = with_false (nat_lt h count) (Some 0) None not_in_part in
            let there : new.places h ≡ tree.places h = member_place ∙ ap (place_in (tree.places h) (steps.first (tree.places h))) stays_there in
            let low = living h lt in
            let bound = (steps.within (tree.places h)).0 in
            let node = node_by (tree.places h) (Some o.Begin) e low in
            let not_new = with_false (is_from (steps.first (tree.places h)) 1 (tree.places h)) (node_of (filter (λ k. is_in (tree.places h - steps.first (tree.places h)) (first_part count k)) (t.members tree 0)) 0 Lockstep) ((with_kind 0 (Waiting (steps.first (tree.places h)) 1) (record tree { given = steps.first (tree.places h) })).nodes (tree.places h)) (not_from (steps.first (tree.places h)) 1 (tree.places h) (omega arith)) in
            let turned_it = with_true (tree.places h == 0) (turned (Waiting (steps.first (tree.places h)) 1) (tree.nodes 0)) (tree.nodes (tree.places h)) (let z : (tree.places h == 0) ≡ true = grind arith in z) in
            kind_at h (tree.places h) (turned (Waiting (steps.first (tree.places h)) 1) (tree.nodes 0)) there (node ∙ not_new ∙ turned_it)
            ∙ ap mode_of (turned_kind 0 (Waiting (steps.first (tree.places h)) 1) h has) ∙ sym (ap entered_mode o')

    -- a step that turns the node and moves nobody
    by_turn : (h : ℕ) (a : Actor) (operation : Operation) (kind : Kind) → slice_get actors h ≡ Some a → known.does (tree.places h) ≡ Some operation
        → tree_by tree (who (actings_of core actors)) (steps.first (tree.places h)) (tree.places h) (Some operation) ≡ with_kind (tree.places h) kind (record tree { given = steps.first (tree.places h) })
        → mode_of (t.kind new (new.places h)) ≡ mode_of (Some kind)
    by_turn h a operation kind is e turn =
        let lt = within h a is in
        let there : new.places h ≡ tree.places h = place_by h (Some operation) e ∙ ap (λ (y : Tree). y.places h) turn in
        let node = node_by (tree.places h) (Some operation) e (living h lt) ∙ ap (λ (y : Tree). y.nodes (tree.places h)) turn in
        let turned_it = with_true (tree.places h == tree.places h) (turned kind (tree.nodes (tree.places h))) (tree.nodes (tree.places h)) (same_eq (tree.places h)) in
        kind_at h (tree.places h) (turned kind (tree.nodes (tree.places h))) there (node ∙ turned_it) ∙ ap mode_of (turned_kind (tree.places h) kind h (sound.placed h lt).member)

    -- who stays in a loop, and who leaves it
    by_shrink : (h : ℕ) (a : Actor) (operation : Operation) (stay : ℕ → Bool) → slice_get actors h ≡ Some a → known.does (tree.places h) ≡ Some operation → t.kind tree (tree.places h) ≡ Some Lockstep
        → tree_by tree (who (actings_of core actors)) (steps.first (tree.places h)) (tree.places h) (Some operation) ≡ t.shrink (tree.places h) stay (record tree { given = steps.first (tree.places h) })
        → mode_of (t.kind new (new.places h)) ≡ entered_mode (stay h)
    by_shrink h a operation stay is e lockstep made = by_stay (stay h) refl
      where
        lt : h < p
        lt = within h a is

        has : is_member h (t.members tree (tree.places h)) ≡ true
        has = (sound.placed h lt).member

        place : (b : Bool) → stay h ≡ b → new.places h ≡ (if is_member h (t.members tree (tree.places h)) && not b then t.parent tree (tree.places h) else tree.places h)
        place b f = place_by h (Some operation) e ∙ ap (λ (y : Tree). y.places h) made ∙ ap (λ (c : Bool). if is_member h (t.members tree (tree.places h)) && not c then t.parent tree (tree.places h) else tree.places h) f

        left_kind : (node : Option Node) → is_member h (t.members_of node) ≡ true → t.kind_of node ≡ Some Lockstep → stay h ≡ true → t.kind_of (left_by stay node) ≡ Some Lockstep
        left_kind None m k f = absurd (let bad : false ≡ true = m in cc)
        left_kind (Some node) m k f = kept_kind stay node.members h node.parent node.kind m f ∙ k

        by_stay : (b : Bool) → stay h ≡ b → mode_of (t.kind new (new.places h)) ≡ entered_mode (stay h)
        by_stay true f =
            let there : new.places h ≡ tree.places h = place true f ∙ with_false (is_member h (t.members tree (tree.places h)) && not true) (t.parent tree (tree.places h)) (tree.places h) (and_false (is_member h (t.members tree (tree.places h)))) in
            let node = node_by (tree.places h) (Some operation) e (living h lt) ∙ ap (λ (y : Tree). y.nodes (tree.places h)) made in
            let left_it = with_true (tree.places h == tree.places h) (left_by stay (tree.nodes (tree.places h))) (tree.nodes (tree.places h)) (same_eq (tree.places h)) in
            kind_at h (tree.places h) (left_by stay (tree.nodes (tree.places h))) there (node ∙ left_it)
            ∙ ap mode_of (left_kind (tree.nodes (tree.places h)) has lockstep f) ∙ sym (ap entered_mode f)
          where
            and_false : (c : Bool) → c && false ≡ false
            and_false true = refl
            and_false false = refl
        by_stay false f =
            let there : new.places h ≡ t.parent tree (tree.places h) = place false f ∙ with_true (is_member h (t.members tree (tree.places h)) && not false) (t.parent tree (tree.places h)) (tree.places h) (ap (λ (c : Bool). c && not false) has) in
            parent_waits h (tree.places h) lt refl lockstep there ∙ sym (ap entered_mode f)

    -- ---- splits

    enters_none : (by : SplitKind) → (vs : List ℕ) → part by vs ≡ None → mode_after (o.Split by) (enters by (part by vs)) false Group ≡ Apart
    enters_none by.IfAlone vs e = ap (λ i. entered_mode (enters by.IfAlone i)) e
    enters_none by.AndThen vs e = ap (λ i. entered_mode (enters by.AndThen i)) e
    enters_none by.OrElse vs e = ap (λ i. entered_mode (enters by.OrElse i)) e
    enters_none by.Loop vs e = absurd (let bad : Some 0 ≡ None = e in cc)
    enters_none by.Fork vs e = ap (λ i. entered_mode (enters by.Fork i)) e
    enters_none by.IfElse vs e = absurd (some_of (last vs == 0) e)
      where
        some_of : (b : Bool) → (if◌then◌else◌ {A = Option ℕ} b (Some 1) (Some 0)) ≡ None → ⊥
        some_of true e = cc
        some_of false e = cc

    split_mode : (by : SplitKind) (onward is_root : Bool) (m n : Mode) → mode_after (o.Split by) onward is_root m ≡ mode_after (o.Split by) onward false n
    split_mode by.IfElse onward is_root m n = refl
    split_mode by.IfAlone onward is_root m n = refl
    split_mode by.AndThen onward is_root m n = refl
    split_mode by.OrElse onward is_root m n = refl
    split_mode by.Loop onward is_root m n = refl
    split_mode by.Fork onward is_root m n = refl

    enters_some : (by : SplitKind) (vs : List ℕ) (i : ℕ) → part by vs ≡ Some i → mode_after (o.Split by) (enters by (part by vs)) false Group ≡ Group
    enters_some by.IfElse vs i e = refl
    enters_some by.IfAlone vs i e = ap (λ j. entered_mode (enters by.IfAlone j)) e
    enters_some by.AndThen vs i e = ap (λ j. entered_mode (enters by.AndThen j)) e
    enters_some by.OrElse vs i e = ap (λ j. entered_mode (enters by.OrElse j)) e
    enters_some by.Loop vs i e = refl
    enters_some by.Fork vs i e = ap (λ j. entered_mode (enters by.Fork j)) e

    part_below : (by : SplitKind) (vs : List ℕ) (i : ℕ) → part by vs ≡ Some i → i < parts by vs
    part_below by.IfElse vs i e = two (last vs == 0) i e
      where
        two : (b : Bool) (i : ℕ) → (if b then Some 1 else Some 0) ≡ Some i → i < 2
        two true i e = let same : 1 ≡ i = cc in omega arith
        two false i e = let same : 0 ≡ i = cc in omega arith
    part_below by.IfAlone vs i e = one_of (last vs == 0) i e
      where
        one_of : (b : Bool) (i : ℕ) → (if b then None else Some 0) ≡ Some i → i < 1
        one_of true i e = absurd (let bad : None ≡ Some i = e in cc)
        one_of false i e = let same : 0 ≡ i = cc in omega arith
    part_below by.AndThen vs i e = one_of (last vs == 0) i e
      where
        one_of : (b : Bool) (i : ℕ) → (if b then None else Some 0) ≡ Some i → i < 1
        one_of true i e = absurd (let bad : None ≡ Some i = e in cc)
        one_of false i e = let same : 0 ≡ i = cc in omega arith
    part_below by.OrElse vs i e = one_of (last vs == 0) i e
      where
        one_of : (b : Bool) (i : ℕ) → (if b then Some 0 else None) ≡ Some i → i < 1
        one_of false i e = absurd (let bad : None ≡ Some i = e in cc)
        one_of true i e = let same : 0 ≡ i = cc in omega arith
    part_below by.Loop vs i e = let same : 0 ≡ i = cc in omega arith
    part_below by.Fork vs i e = below_of (last (before 1 vs)) (parts by.Fork vs) i e
      where
        below_of : (j k i : ℕ) → (if nat_lt j k then Some j else None) ≡ Some i → i < k
        below_of j k i e = by_test (nat_lt j k) refl
          where
            by_test : (b : Bool) → nat_lt j k ≡ b → i < k
            by_test true f =
                let same : Some j ≡ Some i = sym (ap (λ (b : Bool). if b then Some j else None) f) ∙ e in
                let j_is : j ≡ i = cc in
                let lt : j < k = grind arith in
                omega arith
            by_test false f = absurd (let bad : None ≡ Some i = sym (ap (λ (b : Bool). if b then Some j else None) f) ∙ e in cc)

    by_split : (h : ℕ) (a : Actor) (by : SplitKind) (is_root : Bool) → slice_get actors h ≡ Some a → known.does (tree.places h) ≡ Some (o.Split by)
        → mode_after (o.Split by) (enters by (part by (values (processor_of a.runner.processor)))) is_root a.mode ≡ mode_of (t.kind new (new.places h))
    by_split h a by is_root is e = split_mode by (enters by (part by (values (processor_of a.runner.processor)))) is_root a.mode Group ∙ by_part (part by (values (processor_of a.runner.processor))) refl
      where
        lt : h < p
        lt = within h a is

        g : ℕ
        g = tree.places h

        f : ℕ
        f = steps.first (tree.places h)

        has : is_member h (t.members tree (tree.places h)) ≡ true
        has = (sound.placed h lt).member

        count : ℕ
        count = parts by (values (who (actings_of core actors) (lowest (t.members tree (tree.places h)))))

        place : new.places h ≡ place_in (tree.places h) (steps.first (tree.places h)) (part by (values (processor_of a.runner.processor)))
        place = place_by h (Some (o.Split by)) e
            ∙ with_true (is_member h (t.members tree (tree.places h))) (place_in (tree.places h) (steps.first (tree.places h)) (part by (values (who (actings_of core actors) h)))) (tree.places h) has
            ∙ ap (λ (q : Processor). place_in (tree.places h) (steps.first (tree.places h)) (part by (values q))) (who_h h a is)

        by_part : (i : Option ℕ) → part by (values (processor_of a.runner.processor)) ≡ i → mode_after (o.Split by) (enters by (part by (values (processor_of a.runner.processor)))) false Group ≡ mode_of (t.kind new (new.places h))
        by_part None none =
            let there : new.places h ≡ tree.places h = place ∙ ap (place_in (tree.places h) (steps.first (tree.places h))) none in
            let bound = (steps.within (tree.places h)).0 in
            let low = living h lt in
            let node = node_by (tree.places h) (Some (o.Split by)) e low in
            let not_new = with_false (is_from (steps.first (tree.places h)) count (tree.places h)) (node_of (filter (λ k. is_in (tree.places h - steps.first (tree.places h)) (part by (values (who (actings_of core actors) k)))) (t.members tree (tree.places h))) (tree.places h) Lockstep) ((with_kind (tree.places h) (Waiting (steps.first (tree.places h)) count) (record tree { given = steps.first (tree.places h) })).nodes (tree.places h)) (not_from (steps.first (tree.places h)) count (tree.places h) (omega arith)) in
            let turned_it = with_true (tree.places h == tree.places h) (turned (Waiting (steps.first (tree.places h)) count) (tree.nodes (tree.places h))) (tree.nodes (tree.places h)) (same_eq (tree.places h)) in
            enters_none by (values (processor_of a.runner.processor)) none
            ∙ sym (kind_at h (tree.places h) (turned (Waiting (steps.first (tree.places h)) count) (tree.nodes (tree.places h))) there (node ∙ not_new ∙ turned_it)
            ∙ ap mode_of (turned_kind (tree.places h) (Waiting (steps.first (tree.places h)) count) h has))
        by_part (Some i) some =
            let there : new.places h ≡ steps.first (tree.places h) + i = place ∙ ap (place_in (tree.places h) (steps.first (tree.places h))) some in
            let below_own = part_below by (values (processor_of a.runner.processor)) i some in
            let same_parts : parts by (values (processor_of a.runner.processor)) ≡ count = ap (λ (q : Processor). parts by (values q)) (sym (who_h h a is)) ∙ known.divide (tree.places h) h by e has in
            let node = part_by (tree.places h) (steps.first (tree.places h) + i) (Some (o.Split by)) e (omega arith) (omega arith) in
            let made = with_true (is_from (steps.first (tree.places h)) count (steps.first (tree.places h) + i)) (node_of (filter (λ k. is_in (steps.first (tree.places h) + i - steps.first (tree.places h)) (part by (values (who (actings_of core actors) k)))) (t.members tree (tree.places h))) (tree.places h) Lockstep) ((with_kind (tree.places h) (Waiting (steps.first (tree.places h)) count) (record tree { given = steps.first (tree.places h) })).nodes (steps.first (tree.places h) + i)) (from_first (steps.first (tree.places h)) count i (omega arith)) in
            let passes : is_in (steps.first (tree.places h) + i - steps.first (tree.places h)) (part by (values (who (actings_of core actors) h))) ≡ true =
            ap (λ (q : Processor). is_in (steps.first (tree.places h) + i - steps.first (tree.places h)) (part by (values q))) (who_h h a is)
            ∙ ap (is_in (steps.first (tree.places h) + i - steps.first (tree.places h))) some ∙ diff (steps.first (tree.places h)) i in
            enters_some by (values (processor_of a.runner.processor)) i some
            ∙ sym (kind_at h (steps.first (tree.places h) + i) (node_of (filter (λ k. is_in (steps.first (tree.places h) + i - steps.first (tree.places h)) (part by (values (who (actings_of core actors) k)))) (t.members tree (tree.places h))) (tree.places h) Lockstep) there (node ∙ made)
            ∙ ap mode_of (kept_kind (λ k. is_in (steps.first (tree.places h) + i - steps.first (tree.places h)) (part by (values (who (actings_of core actors) k)))) (t.members tree (tree.places h)) h (tree.places h) Lockstep has passes))

    -- ---- all steps

    resumed : (g : ℕ) → resumed_mode (g == 0) ≡ mode_of (Some (t.kind_after g))
    resumed zero = refl
    resumed (suc g) = ap resumed_mode (not_zero g)

    -- the mode after a step, of a member
    by_step : (h : ℕ) (a : Actor) (operation : Operation) → slice_get actors h ≡ Some a → (processor_of a.runner.processor).number ≡ h → known.does (tree.places h) ≡ Some operation → StepFits tree (tree.places h) operation
        → mode_after operation (goes_onward operation (agreed_by tree actors h) (lowest (t.members tree (tree.places h))) (processor_of a.runner.processor)) (tree.places h == 0) a.mode
        ≡ mode_of (t.kind new (new.places h))
    by_step h a o.Begin is number e fits =
        by_begin h a (is_taken (agreed_by tree actors h) (processor_of a.runner.processor)) is e fits.0
        (ap (λ (k : ℕ). nat_lt k (not_negative (agreed_by tree actors h))) number
        ∙ ap (λ (q : Processor). nat_lt h (not_negative (last (values q)))) (sym (who_is core actors (highest (t.members tree (tree.places h))))))
    by_step h a (o.Split by) is number e fits = by_split h a by (tree.places h == 0) is e
    by_step h a o.Shrink is number e fits =
        ap (λ (q : Processor). entered_mode (stays q)) (sym (who_h h a is)) ∙ sym (by_shrink h a o.Shrink (λ k. stays (who (actings_of core actors) k)) is e fits.0 refl)
    by_step h a o.End is number e fits = sym (by_shrink h a o.End (λ k. false) is e fits refl)
    by_step h a o.Farm is number e fits = sym (by_turn h a o.Farm (Asynchronous false) is e refl)
    by_step h a o.Seq is number e fits = sym (by_turn h a o.Seq (Asynchronous true) is e refl)
    by_step h a (o.Meet true) is number e fits = sym (by_turn h a (o.Meet true) Lockstep is e refl)
    by_step h a o.Resume is number e fits = resumed (tree.places h) ∙ sym (by_turn h a o.Resume (t.kind_after (tree.places h)) is e refl)
    by_step h a operation is number e fits = absurd fits

    pub modes_follow : HaveModes tree actors → ((h : ℕ) (a : Actor) → slice_get actors h ≡ Some a → (processor_of a.runner.processor).number ≡ h) → ModesFollow tree new actors
    modes_follow modes numbers = record { each = λ h a is. by_taken h a is a.taken refl }
      where
        by_taken : (h : ℕ) (a : Actor) → slice_get actors h ≡ Some a → (taken : Option Due) → a.taken ≡ taken → settled_mode tree actors h a ≡ mode_of (t.kind new (new.places h))
        by_taken h a is None free =
            ap (mode_as (agreed_by tree actors h) (lowest (t.members tree (tree.places h))) (tree.places h == 0) a) free ∙ modes.each h a is
            ∙ sym (quiet h (within h a is) (nothing (known.does (tree.places h)) refl))
          where
            none_due : due_of core a ≡ None
            none_due = ap (option_map (step_at core (callers_of a.runner))) free

            nothing : (d : Option Operation) → known.does (tree.places h) ≡ d → known.does (tree.places h) ≡ None
            nothing None e = e
            nothing (Some operation) e = absurd (subst (λ due. Does operation due) none_due (subst (λ d. KeepsOrDoes d (due_of core a)) e (tells h a is)))
        by_taken h a is (Some due) taken =
            ap (mode_as (agreed_by tree actors h) (lowest (t.members tree (tree.places h))) (tree.places h == 0) a) taken
            ∙ by_does (known.does (tree.places h)) refl (subst (λ d. KeepsOrDoes (known.does (tree.places h)) d) (due_at a due taken) (tells h a is))
          where
            by_does : (d : Option Operation) → known.does (tree.places h) ≡ d → KeepsOrDoes (known.does (tree.places h)) (Some (step_at core (callers_of a.runner) due))
                → mode_as (agreed_by tree actors h) (lowest (t.members tree (tree.places h))) (tree.places h == 0) a (Some due) ≡ mode_of (t.kind new (new.places h))
            by_does None e tells_it =
                keeps_mode due.operation (subst (λ d. KeepsOrDoes d (Some (step_at core (callers_of a.runner) due))) e tells_it)
                (goes_onward due.operation (agreed_by tree actors h) (lowest (t.members tree (tree.places h))) (processor_of a.runner.processor)) (tree.places h == 0) a.mode
                ∙ modes.each h a is ∙ sym (quiet h (within h a is) e)
            by_does (Some operation) e tells_it =
                let same : due.operation ≡ operation = subst (λ d. KeepsOrDoes d (Some (step_at core (callers_of a.runner) due))) e tells_it in
                ap (λ op. mode_after op (goes_onward op (agreed_by tree actors h) (lowest (t.members tree (tree.places h))) (processor_of a.runner.processor)) (tree.places h == 0) a.mode) same
                ∙ by_step h a operation is (numbers h a is) e (known.fits (tree.places h) operation e)
