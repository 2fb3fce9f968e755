-- The lowest members bring the steps of their nodes to the tree, one after the other.
use Rattle.std.proofs.Common.{◌≡◌, ◌≢◌, ℕ, zero, suc, ◌+◌, ◌-◌, ◌*◌, ◌^◌, ◌<◌, ◌≤◌, Bool, true, false, ◌||◌, ◌⊎◌, inl, inr, List, [], ◌∷◌, length, get_or, drop, map, Option, Some, None, ap, refl, sym, ◌∙◌, subst, arith}
use Rattle.std.specs.Prelude.{◌==◌, slice_index, slice_get, if◌then◌else◌, option_map}
use Rattle.std.proofs.Math.Path.{fun_ext}
use Rattle.std.proofs.lemmas.List.{drop_all, length-map}
use Rattle.std.proofs.lemmas.Option.{get_or_from_slice_get}
use Rattle.fk_tree.specs.Tree as t
use Rattle.fk_tree.specs.Tree.{Tree, is_member}
use Rattle.fk_tree.specs.Sound.{IsSound}
use Rattle.fk_meaning_operation.specs.declared.operation.Operation.{Operation}
use Rattle.fk_meaning_operation.specs.declared.operation.Operation.TheVariants as o
use Rattle.fk_meaning.specs.Processor.{Processor, values, last}
use Rattle.fk_meaning.specs.Group.{changes, parts}
use Rattle.fk_meaning.specs.Round.{Step, Acting, lowest, highest, who, agreed, change_by, all_changes}
use Rattle.fk_core.specs.declared.op.CoreOp.{CoreOp}
use Rattle.fk_core.specs.Next.{Position}
use Rattle.fk_replay_rounds.specs.Own.{AreOwn}
use Rattle.fk_replay_steps.specs.Steps.{step_at, callers_of, runner_of}
use Rattle.fk_replay_steps.specs.declared.list.Due.{Due}
use Rattle.fk_replay_phases.specs.declared.acting.Acting as acts
use Rattle.fk_replay_phases.specs.declared.actor.Actor.{Actor}
use Rattle.fk_replay_phases.specs.Present.{present, numbers_of, acting_at}
use Rattle.fk_replay_phases.specs.Actors.{acting_of, actings_of, due_of, runners_of, AreInRound}
use Rattle.fk_replay_phases.proofs.Highest.{highest_has}
use Rattle.fk_replay_phases.proofs.Present.{next_acting, none_acting}
use Rattle.fk_replay_trees.specs.Changes.{has_of, Needs, CanStep, CanChange}
use Rattle.fk_replay_trees.proofs.Changing.{eq_false, beside, stays_ended, gives_few, needs_still, IsAsBefore}

-- the processor with a number, as the meaning finds it
pub who_is : (core : List CoreOp) (actors : List Actor) (h : ℕ) → who (actings_of core actors) h ≡ has_of actors h
who_is core [] h = refl
who_is core (a ∷ actors) zero = refl
who_is core (a ∷ actors) (suc h) = who_is core actors h

drop_get : {A : Type 0} (xs : List A) (n : ℕ) (x : A) → slice_get xs n ≡ Some x → drop n xs ≡ x ∷ drop (suc n) xs
drop_get [] n x e = absurd (let bad : None ≡ Some x = e in cc)
drop_get (y ∷ ys) zero x e = let same : y ≡ x = cc in ap (λ z. z ∷ ys) same
drop_get (y ∷ ys) (suc n) x e = drop_get ys n x e

pub there_is : {A : Type 0} (xs : List A) (n : ℕ) → n < length xs → (x : A) × (slice_get xs n ≡ Some x)
there_is [] n lt = absurd (let z : ⊥ = omega arith in z)
there_is (x ∷ xs) zero lt = (x, refl)
there_is (x ∷ xs) (suc n) lt = there_is xs n (omega arith)

pub none_of : {A : Type 0} (slot : Option A) → ((x : A) → slot ≡ Some x → ⊥) → slot ≡ None
none_of None not = refl
none_of (Some x) not = absurd (not x refl)

pub get_map : {A B : Type 0} (f : A → B) (xs : List A) (n : ℕ) (x : A) → slice_get xs n ≡ Some x → slice_get (map f xs) n ≡ Some (f x)
get_map f [] n x e = absurd (let bad : None ≡ Some x = e in cc)
get_map f (y ∷ ys) zero x e = let same : y ≡ x = cc in ap (λ z. Some (f z)) same
get_map f (y ∷ ys) (suc n) x e = get_map f ys n x e

-- an element of a list that is told by its numbers
pub element_of : (xs : List acts.Acting) (i : ℕ) (x : acts.Acting) (f : ℕ → acts.Acting) → xs ≡ map f (numbers_of xs) → i < length xs → x ≡ get_or xs i x → x ≡ f x.number
element_of [] i x f e lt is = absurd (let z : ⊥ = omega arith in z)
element_of (y ∷ ys) zero x f e lt is = let head : y ≡ f y.number = cc in is ∙ head ∙ ap (λ (z : acts.Acting). f z.number) (sym is)
element_of (y ∷ ys) (suc i) x f e lt is = let tail : ys ≡ map f (numbers_of ys) = cc in element_of ys i x f tail (omega arith) is

module _ (p : ℕ) (old : Tree) (acting : List acts.Acting) (actors : List Actor) where
  -- what is given
  pub record Given : Type 0 where
    pub few : p ≤ 1024
    pub sound : IsSound p old
    pub many : length actors ≡ p
    pub in_round : AreInRound acting actors
    pub at_old : acting ≡ map (acting_at old) (numbers_of acting)
    pub own : AreOwn (runners_of actors)
    pub can : CanChange old actors

  pub given_by : p ≤ 1024 → IsSound p old → length actors ≡ p → AreInRound acting actors → acting ≡ map (acting_at old) (numbers_of acting) → AreOwn (runners_of actors) → CanChange old actors → Given
  given_by few sound many in_round at_old own can = record {
    few = few;
    sound = sound;
    many = many;
    in_round = in_round;
    at_old = at_old;
    own = own;
    can = can;
  }

  module _ (given : Given) where
    number_is : (h : ℕ) (a : Actor) → slice_get actors h ≡ Some a → (runner_of a.runner).has.number ≡ h
    number_is h a is = (given.own.each h (runner_of a.runner) (get_map (λ (x : Actor). runner_of x.runner) actors h a is)).number

    -- the rest of the changes from one of the processors on
    abbrev from : (core : List CoreOp) → ℕ → Tree → Tree
    from core n tree = all_changes (actings_of core actors) old (drop n (actings_of core actors)) tree

    from_one : (core : List CoreOp) (n : ℕ) (a : Actor) (tree : Tree) → slice_get actors n ≡ Some a
        → all_changes (actings_of core actors) old (drop n (actings_of core actors)) tree
        ≡ all_changes (actings_of core actors) old (drop (suc n) (actings_of core actors)) (change_by (actings_of core actors) old n (due_of core a) tree)
    from_one core n a tree is =
        ap (λ (rest : List (Acting Position)). all_changes (actings_of core actors) old rest tree) (drop_get (actings_of core actors) n (acting_of core a) (get_map (acting_of core) actors n a is))
        ∙ ap (λ (h : ℕ). all_changes (actings_of core actors) old (drop (suc n) (actings_of core actors)) (change_by (actings_of core actors) old h (due_of core a) tree)) (number_is n a is)

    no_due : (core : List CoreOp) (a : Actor) → a.taken ≡ None → due_of core a ≡ None
    no_due core a e = ap (option_map (step_at core (callers_of a.runner))) e

    -- those who aren't in the round change nothing
    skip : (core : List CoreOp) (k n : ℕ) (tree : Tree) → ((g : ℕ) → n ≤ g → g < n + k → slice_index given.in_round.round g ≡ 0) → n + k ≤ p
        → all_changes (actings_of core actors) old (drop n (actings_of core actors)) tree ≡ all_changes (actings_of core actors) old (drop (n + k) (actings_of core actors)) tree
    skip core zero n tree none le = ap (λ (m : ℕ). all_changes (actings_of core actors) old (drop m (actings_of core actors)) tree) (let e : n ≡ n + 0 = omega arith in e)
    skip core (suc k) n tree none le =
        let many = given.many in
        let found = there_is actors n (omega arith) in
        let free = given.in_round.others n found.0 found.1 (none n (omega arith) (omega arith)) in
        from_one core n found.0 tree found.1
        ∙ ap (λ due. all_changes (actings_of core actors) old (drop (suc n) (actings_of core actors)) (change_by (actings_of core actors) old n due tree)) (no_due core found.0 free)
        ∙ skip core k (suc n) tree (λ g low lt. none g (omega arith) (omega arith)) (omega arith)
        ∙ ap (λ (m : ℕ). all_changes (actings_of core actors) old (drop m (actings_of core actors)) tree) (let e : suc n + k ≡ n + suc k = omega arith in e)

    skip_to : (core : List CoreOp) (n h : ℕ) (tree : Tree) → ((g : ℕ) → n ≤ g → g < h → slice_index given.in_round.round g ≡ 0) → n ≤ h → h ≤ p
        → all_changes (actings_of core actors) old (drop n (actings_of core actors)) tree ≡ all_changes (actings_of core actors) old (drop h (actings_of core actors)) tree
    skip_to core n h tree none le high =
        let is : n + (h - n) ≡ h = omega arith in
        skip core (h - n) n tree (λ g low lt. none g low (omega arith)) (omega arith)
        ∙ ap (λ (m : ℕ). all_changes (actings_of core actors) old (drop m (actings_of core actors)) tree) is

    -- after some of the members
    pub record ChangesAt (i : ℕ) (now : Tree) : Type 0 where
      pub n : ℕ
      pub ahead : present n (drop n given.in_round.round) ≡ numbers_of (drop i acting)
      pub few : i ≤ n
      pub most : n ≤ p
      pub same : (core : List CoreOp) → all_changes (actings_of core actors) old (actings_of core actors) old
          ≡ all_changes (actings_of core actors) old (drop n (actings_of core actors)) now
      pub before : (h : ℕ) → n ≤ h → h < p → h ≡ lowest (t.members old (old.places h)) → now.nodes (old.places h) ≡ old.nodes (old.places h)
      pub ended : (m : ℕ) → m < old.given → old.nodes m ≡ None → now.nodes m ≡ None
      pub low : old.given ≤ now.given
      pub high : now.given ≤ old.given + i * 2 ^ 18

    pub changes_first : ChangesAt 0 old
    changes_first = record {
      n = 0;
      ahead = sym given.in_round.numbers;
      few = omega arith;
      most = omega arith;
      same = λ core. refl;
      before = λ h low lt is. refl;
      ended = λ m lt e. e;
      low = omega arith;
      high = omega arith;
    }

    element : (i : ℕ) (x : acts.Acting) → i < length acting → x ≡ get_or acting i x → x ≡ acting_at old x.number
    element i x lt is = element_of acting i x (acting_at old) given.at_old lt is

    -- a member that comes next is a processor, and few came before it
    pub next_below : (i : ℕ) (now : Tree) (x : acts.Acting) → ChangesAt i now → i < length acting → x ≡ get_or acting i x → (x.number < length actors) × (i < 1024)
    next_below i now x at lt is =
        let ahead = next_acting given.in_round.round at.n acting i x at.ahead lt is in
        let next = ahead.next.1 in
        let high = next.high in
        let low = next.low in
        let all = given.in_round.many in
        let many = given.many in
        let before = at.few in
        let few = given.few in
        (omega (arith, high, all), omega (arith, high, low, all, many, before, few))

    -- what is taken by the actor that is there
    pub taken_at : (h : ℕ) (other a : Actor) (due : Due) → slice_get actors h ≡ Some a → (get_or actors h other).taken ≡ Some due → a.taken ≡ Some due
    taken_at h other a due here taken = sym (ap (λ (x : Actor). x.taken) (get_or_from_slice_get actors h a other here)) ∙ taken

    pub none_at : (h : ℕ) (other a : Actor) → slice_get actors h ≡ Some a → ((due : Due) → (get_or actors h other).taken ≡ Some due → ⊥) → a.taken ≡ None
    none_at h other a here not =
        let same = ap (λ (x : Actor). x.taken) (get_or_from_slice_get actors h a other here) in none_of a.taken (λ due e. not due (same ∙ e))

    pub not_lowest : (i : ℕ) (x : acts.Acting) → i < length acting → x ≡ get_or acting i x → (x.number ≡ x.lowest → ⊥) → (x.number == lowest (t.members old (old.places x.number))) ≡ false
    not_lowest i x lt is ne =
        let lowest_at : x.lowest ≡ lowest (t.members old (old.places x.number)) = ap (λ (y : acts.Acting). y.lowest) (element i x lt is) in
        eq_false x.number (lowest (t.members old (old.places x.number))) (λ e. ne (e ∙ sym lowest_at))

    -- nothing is changed by a member that isn't the lowest, or has nothing to do
    idle_by : (core : List CoreOp) (h : ℕ) (a : Actor) (tree : Tree) → (a.taken ≡ None) ⊎ ((h == lowest (t.members old (old.places h))) ≡ false)
        → change_by (actings_of core actors) old h (due_of core a) tree ≡ tree
    idle_by core h a tree (inl free) = ap (λ due. change_by (actings_of core actors) old h due tree) (no_due core a free)
    idle_by core h a tree (inr other) = by (due_of core a)
      where
        by : (due : Option (Step Position)) → change_by (actings_of core actors) old h due tree ≡ tree
        by None = refl
        by (Some step) = ap (λ (b : Bool). if b then changes step.operation (old.places h) (who (actings_of core actors)) (agreed (actings_of core actors) (t.members old (old.places h))) h tree else tree) other

    pub changes_idle : (i : ℕ) (now : Tree) (x : acts.Acting) (a : Actor) → ChangesAt i now → i < length acting → x ≡ get_or acting i x → slice_get actors x.number ≡ Some a
        → (a.taken ≡ None) ⊎ ((x.number == lowest (t.members old (old.places x.number))) ≡ false) → ChangesAt (i + 1) now
    changes_idle i now x a at lt is here idle =
        let ahead = next_acting given.in_round.round at.n acting i x at.ahead lt is in
        let next = ahead.next.1 in
        let low = next.low in
        let high = next.high in
        let many = given.many in
        let all = given.in_round.many in
        let few = at.few in
        let h_low = at.high in
        record {
          n = suc x.number;
          ahead = ahead.rest;
          few = omega arith;
          most = omega arith;
          same = λ core. at.same core ∙ skip_to core at.n x.number now next.none low (omega arith) ∙ from_one core x.number a now here
              ∙ ap (λ (tree : Tree). all_changes (actings_of core actors) old (drop (suc x.number) (actings_of core actors)) tree) (idle_by core x.number a now idle);
          before = λ h le lt' low_is. at.before h (omega arith) lt' low_is;
          ended = at.ended;
          low = at.low;
          high = omega arith;
        }

    -- what `change` is given, and what it does
    pub record Can (now : Tree) (x : acts.Acting) (operation : Operation) : Type 0 where
      pub can : CanStep now actors x.node operation
      pub lowest_is : x.lowest ≡ lowest (t.members now x.node)
      pub low : x.lowest < length actors
      pub high : x.highest < length actors

    pub can_change : (i : ℕ) (now : Tree) (x : acts.Acting) (a : Actor) (due : Due) → ChangesAt i now → i < length acting → x ≡ get_or acting i x → slice_get actors x.number ≡ Some a → a.taken ≡ Some due
        → x.number ≡ x.lowest → Can now x due.operation
    can_change i now x a due at lt is here taken lowest_it =
        let ahead = next_acting given.in_round.round at.n acting i x at.ahead lt is in
        let next = ahead.next.1 in
        let is_at = element i x lt is in
        let node : x.node ≡ old.places x.number = ap (λ (y : acts.Acting). y.node) is_at in
        let lowest_at : x.lowest ≡ lowest (t.members old (old.places x.number)) = ap (λ (y : acts.Acting). y.lowest) is_at in
        let highest_at : x.highest ≡ highest (t.members old (old.places x.number)) = ap (λ (y : acts.Acting). y.highest) is_at in
        let high = next.high in
        let many = given.many in
        let all = given.in_round.many in
        let within : x.number < p = omega arith in
        let self : x.number ≡ lowest (t.members old (old.places x.number)) = lowest_it ∙ lowest_at in
        let as_before : IsAsBefore old now (old.places x.number) = record { node = at.before x.number next.low within self; ended = at.ended } in
        let step = given.can.each x.number a due here taken self in
        let members : t.members now (old.places x.number) ≡ t.members old (old.places x.number) = ap t.members_of as_before.node in
        let has_high = highest_has (t.members old (old.places x.number)) x.number (given.sound.placed x.number within).member in
        let high_in : highest (t.members old (old.places x.number)) < p = given.sound.within (old.places x.number) (highest (t.members old (old.places x.number))) has_high in
        record {
          can = subst (λ (g : ℕ). CanStep now actors g due.operation) (sym node) (record {
            needs = needs_still due.operation p old now (old.places x.number) given.sound as_before step.needs;
            divide = λ by e. record {
              same = λ h has.
                  (step.divide by e).same h (subst (λ (ms : List ℕ). is_member h ms ≡ true) members has) ∙ ap (λ (ms : List ℕ). parts by (values (has_of actors (lowest ms)))) (sym members);
            };
            few = λ by e. subst (λ (ms : List ℕ). parts by (values (has_of actors (lowest ms))) ≤ 2 ^ 18) (sym members) (step.few by e);
          });
          lowest_is = lowest_at ∙ ap lowest (sym members) ∙ ap (λ (g : ℕ). lowest (t.members now g)) (sym node);
          low = omega arith;
          high = let e : x.highest < p = subst (λ (k : ℕ). k < p) (sym highest_at) high_in in omega arith;
        }

    pub changes_more : (i : ℕ) (now new : Tree) (x : acts.Acting) (a : Actor) (due : Due) → ChangesAt i now → i < length acting → x ≡ get_or acting i x → slice_get actors x.number ≡ Some a → a.taken ≡ Some due
        → x.number ≡ x.lowest → new ≡ changes due.operation x.node (has_of actors) (last (values (has_of actors x.highest))) x.lowest now → ChangesAt (i + 1) new
    changes_more i now new x a due at lt is here taken lowest_it made =
        let ahead = next_acting given.in_round.round at.n acting i x at.ahead lt is in
        let next = ahead.next.1 in
        let is_at = element i x lt is in
        let node : x.node ≡ old.places x.number = ap (λ (y : acts.Acting). y.node) is_at in
        let lowest_at : x.lowest ≡ lowest (t.members old (old.places x.number)) = ap (λ (y : acts.Acting). y.lowest) is_at in
        let highest_at : x.highest ≡ highest (t.members old (old.places x.number)) = ap (λ (y : acts.Acting). y.highest) is_at in
        let low = next.low in
        let high = next.high in
        let many = given.many in
        let all = given.in_round.many in
        let few = at.few in
        let within : x.number < p = omega arith in
        let self : x.number ≡ lowest (t.members old (old.places x.number)) = lowest_it ∙ lowest_at in
        let step = given.can.each x.number a due here taken self in
        let before_low = at.low in
        let before_high = at.high in
        let root : due.operation ≡ o.Begin → x.node ≡ 0 = λ e. node ∙ root_of due.operation e step.needs in
        let numbers = gives_few due.operation x.node (has_of actors) (last (values (has_of actors x.highest))) x.lowest now
        (λ by e. subst (λ (k : ℕ). parts by (values (has_of actors k)) ≤ 2 ^ 18) (sym lowest_at) (step.few by e)) in
        let given_is : new.given ≡ (changes due.operation x.node (has_of actors) (last (values (has_of actors x.highest))) x.lowest now).given = ap (λ (y : Tree). y.given) made in
        let n_low = numbers.low in
        let n_high = numbers.high in
        record {
          n = suc x.number;
          ahead = ahead.rest;
          few = omega arith;
          most = omega arith;
          same = λ core. at.same core ∙ skip_to core at.n x.number now next.none low (omega arith) ∙ from_one core x.number a now here
              ∙ ap (λ (tree : Tree). all_changes (actings_of core actors) old (drop (suc x.number) (actings_of core actors)) tree) (change_is core ∙ sym made);
          before = λ h le lt' low_is.
              let other : old.places h ≢ x.node = λ e. let k : h ≡ x.number = low_is ∙ ap (λ (g : ℕ). lowest (t.members old g)) (e ∙ node) ∙ sym self in omega arith in
              ap (λ (y : Tree). y.nodes (old.places h)) made
              ∙ beside due.operation x.node (has_of actors) (last (values (has_of actors x.highest))) x.lowest now (old.places h) root other (let l = living h lt' in omega arith)
              ∙ at.before h (omega arith) lt' low_is;
          ended = λ m lt' none. ap (λ (y : Tree). y.nodes m) made ∙ stays_ended due.operation x.node (has_of actors) (last (values (has_of actors x.highest))) x.lowest now m (omega arith) (at.ended m lt' none);
          low = omega arith;
          high = omega arith;
        }
      where
        root_of : (operation : Operation) → operation ≡ o.Begin → Needs old (old.places x.number) operation → old.places x.number ≡ 0
        root_of o.Begin e needs = needs.0
        root_of operation e needs = absurd (cc)

        living : (h : ℕ) → h < p → old.places h < old.given
        living h lt = by (le_or (old.given) (old.places h))
          where
            le_or : (a b : ℕ) → (a ≤ b) ⊎ (b < a)
            le_or a b = grind arith

            by : (old.given ≤ old.places h) ⊎ (old.places h < old.given) → old.places h < old.given
            by (inr is) = is
            by (inl le) =
                let none : old.nodes (old.places h) ≡ None = given.sound.numbered (old.places h) le in
                let has = (given.sound.placed h lt).member in
                absurd (let bad : false ≡ true = sym (ap (λ node. is_member h (t.members_of node)) none) ∙ has in cc)

        change_is : (core : List CoreOp) → change_by (actings_of core actors) old x.number (due_of core a) now ≡ changes due.operation x.node (has_of actors) (last (values (has_of actors x.highest))) x.lowest now
        change_is core =
            let is_at = element i x lt is in
            let node : old.places x.number ≡ x.node = ap (λ (y : acts.Acting). y.node) (sym is_at) in
            let lowest_at : lowest (t.members old (old.places x.number)) ≡ x.lowest = ap (λ (y : acts.Acting). y.lowest) (sym is_at) in
            let highest_at : highest (t.members old (old.places x.number)) ≡ x.highest = ap (λ (y : acts.Acting). y.highest) (sym is_at) in
            ap (λ o. change_by (actings_of core actors) old x.number (option_map (step_at core (callers_of a.runner)) o) now) taken
            ∙ ap (λ (b : Bool). if b then changes due.operation (old.places x.number) (who (actings_of core actors)) (agreed (actings_of core actors) (t.members old (old.places x.number))) x.number now else now)
            (eq_true x.number (lowest (t.members old (old.places x.number))) (lowest_it ∙ sym lowest_at))
            ∙ change_who due.operation (old.places x.number) x.number now (who (actings_of core actors)) (has_of actors) (who_is core actors) (agreed (actings_of core actors) (t.members old (old.places x.number)))
            ∙ ap (λ (k : ℕ). changes due.operation (old.places x.number) (has_of actors) k x.number now)
            (ap (λ (q : Processor). last (values q)) (who_is core actors (highest (t.members old (old.places x.number)))) ∙ ap (λ (k : ℕ). last (values (has_of actors k))) highest_at)
            ∙ ap (λ (k : ℕ). changes due.operation (old.places x.number) (has_of actors) (last (values (has_of actors x.highest))) k now) lowest_it
            ∙ ap (λ (g : ℕ). changes due.operation g (has_of actors) (last (values (has_of actors x.highest))) x.lowest now) node
          where
            eq_true : (a b : ℕ) → a ≡ b → (a == b) ≡ true
            eq_true a b e = grind arith

            change_who : (operation : Operation) (g low : ℕ) (tree : Tree) (f k : ℕ → Processor) → ((h : ℕ) → f h ≡ k h) → (value : ℕ) → changes operation g f value low tree ≡ changes operation g k value low tree
            change_who operation g low tree f k each value = ap (λ (w : ℕ → Processor). changes operation g w value low tree) (fun_ext each)

    -- after all of them
    pub changes_end : (i : ℕ) (now : Tree) → ChangesAt i now → length acting ≤ i → i ≤ length acting → (core : List CoreOp) → now ≡ all_changes (actings_of core actors) old (actings_of core actors) old
    changes_end i now at le ge core =
        sym (at.same core ∙ skip_to core at.n p now (λ g low lt. none_acting given.in_round.round at.n g acting i at.ahead le low) at.most (omega arith) ∙ rest_none)
      where
        rest_none : all_changes (actings_of core actors) old (drop p (actings_of core actors)) now ≡ now
        rest_none = ap (λ (rest : List (Acting Position)). all_changes (actings_of core actors) old rest now) (drop_past (actings_of core actors) p (let many = given.many in let long : length (actings_of core actors) ≡ length actors = length-map actors (acting_of core) in omega (arith, many, long)))
          where
            drop_past : {A : Type 0} (xs : List A) (n : ℕ) → length xs ≤ n → drop n xs ≡ []
            drop_past xs n le = drop_all n xs le
