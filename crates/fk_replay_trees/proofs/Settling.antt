-- The members of nodes do their own parts of steps, one after the other.
use Rattle.std.proofs.Common.{subst, zero, ◌≡◌, ℕ, suc, ◌+◌, ◌<◌, ◌≤◌, Bool, true, false, List, [], ◌∷◌, length, get_or, set, drop, map, Option, Some, None, ap, refl, sym, ◌∙◌, arith}
use Rattle.std.specs.Prelude.{◌==◌, nat_lt, ◌&&◌, ◌||◌, slice_index, slice_get, option_map}
use Rattle.std.proofs.lemmas.Bool.{eqb-true, eq-eqb}
use Rattle.std.proofs.lemmas.List.{length-set}
use Rattle.fk_tree.specs.Tree as t
use Rattle.fk_tree.specs.Tree.{Tree, is_member}
use Rattle.fk_tree.specs.Sound.{IsSound, is_ascending, is_below_all}
use Rattle.fk_meaning.specs.Processor.{Processor, values, last}
use Rattle.fk_meaning.specs.Round as rounds
use Rattle.fk_meaning.specs.Round.{Round, Step, Acting, lowest, highest, who, agreed, settled, settled_by}
use Rattle.fk_core.specs.declared.op.CoreOp.{CoreOp}
use Rattle.fk_core.specs.Next.{Position}
use Rattle.fk_replay_rounds.specs.Own.{AreOwn}
use Rattle.fk_replay_rounds.specs.Modes.{mode_of}
use Rattle.fk_replay_steps.specs.Steps.{step_at, callers_of, runner_of}
use Rattle.fk_replay_phases.specs.declared.acting.Acting as acts
use Rattle.fk_replay_phases.specs.declared.actor.Actor.{Actor}
use Rattle.fk_replay_phases.specs.Present.{present, numbers_of, acting_at}
use Rattle.fk_replay_phases.specs.Actors.{actings_of, due_of, runners_of, AreInRound}
use Rattle.fk_replay_phases.proofs.Present.{next_acting, none_acting}
use Rattle.fk_replay_phases.proofs.Sparse.{SoFar, begun, more, at_end, get_set_other}
use Rattle.fk_replay_trees.specs.Changes.{has_of, has_by, agreed_by, mode_as, ModesFollow}
use Rattle.fk_replay_trees.specs.Settled.{settled_as, HasSettled, HaveSettled}
use Rattle.fk_replay_trees.proofs.Loop.{who_is, get_map, element_of}

-- an element in its own place
set_there : {A : Type 0} (xs : List A) (n : ℕ) (x : A) → slice_get xs n ≡ Some x → set xs n x ≡ xs
set_there [] n x is = refl
set_there (y ∷ ys) zero x is = let same : y ≡ x = cc in ap (λ z. z ∷ ys) (sym same)
set_there (y ∷ ys) (suc n) x is = ap (λ zs. y ∷ zs) (set_there ys n x is)

-- who comes next, while all who come later are as before
module _ (acting : List acts.Acting) (before : List Actor) (in_round : AreInRound acting before) where
  pub record ComesNext (i : ℕ) (now : List Actor) : Type 0 where
    pub n : ℕ
    pub ahead : present n (drop n in_round.round) ≡ numbers_of (drop i acting)
    pub many : length now ≡ length before
    pub rest : (h : ℕ) → n ≤ h → slice_get now h ≡ slice_get before h

  pub comes_first : ComesNext 0 before
  comes_first = record { n = 0; ahead = sym in_round.numbers; many = refl; rest = λ h le. refl }

  pub next_there : (i : ℕ) (now : List Actor) (x : acts.Acting) → ComesNext i now → i < length acting → x ≡ get_or acting i x
      → (x.number < length before) × (slice_get now x.number ≡ slice_get before x.number)
  next_there i now x at lt is =
      let ahead = next_acting in_round.round at.n acting i x at.ahead lt is in
      let next = ahead.next.1 in
      let high = next.high in
      let all = in_round.many in
      (omega (arith, high, all), at.rest x.number next.low)

  pub comes_more : (i : ℕ) (now : List Actor) (x : acts.Acting) (to : Actor) → ComesNext i now → i < length acting → x ≡ get_or acting i x
      → ComesNext (i + 1) (set now x.number to)
  comes_more i now x to at lt is =
      let ahead = next_acting in_round.round at.n acting i x at.ahead lt is in
      let next = ahead.next.1 in
      let low = next.low in
      record {
        n = suc x.number;
        ahead = ahead.rest;
        many = length-set now x.number to ∙ at.many;
        rest = λ h le. get_set_other now x.number h to (λ same. absurd (omega (arith, same, le))) ∙ at.rest h (omega (arith, low, le));
      }

  pub comes_idle : (i : ℕ) (now : List Actor) (x : acts.Acting) (a : Actor) → ComesNext i now → i < length acting → x ≡ get_or acting i x → slice_get now x.number ≡ Some a
      → ComesNext (i + 1) now
  comes_idle i now x a at lt is here = subst (λ (actors : List Actor). ComesNext (i + 1) actors) (set_there now x.number a here) (comes_more i now x a at lt is)

module _ (p : ℕ) (core : List CoreOp) (old new : Tree) (acting : List acts.Acting) (before : List Actor) where
  pub record Given : Type 0 where
    pub sound : IsSound p old
    pub many : length before ≡ p
    pub in_round : AreInRound acting before
    pub at_old : acting ≡ map (acting_at old) (numbers_of acting)
    pub own : AreOwn (runners_of before)
    pub modes : ModesFollow old new before

  -- a processor has done its part
  pub record Settled (h : ℕ) (x : Actor) : Type 0 where
    pub runner : (a : Actor) → slice_get before h ≡ Some a
        → runner_of x.runner ≡ settled_by (actings_of core before) old new (runner_of a.runner) (due_of core a)
    pub free : x.taken ≡ None
    pub mode : x.mode ≡ mode_of (t.kind new (new.places h))

  module _ (given : Given) where
    number_is : (h : ℕ) (a : Actor) → slice_get before h ≡ Some a → (runner_of a.runner).has.number ≡ h
    number_is h a is = (given.own.each h (runner_of a.runner) (get_map (λ (x : Actor). runner_of x.runner) before h a is)).number

    absent : (h : ℕ) (x : Actor) → slice_get before h ≡ Some x → slice_index given.in_round.round h ≡ 0 → Settled h x
    absent h x is none =
        let free = given.in_round.others h x is none in
        record {
          runner = λ a at.
              let same : x ≡ a = cc in
              ap (λ (y : Actor). runner_of y.runner) same
              ∙ sym (ap (λ o. settled_by (actings_of core before) old new (runner_of a.runner) (option_map (step_at core (callers_of a.runner)) o)) (sym (ap (λ (y : Actor). y.taken) same) ∙ free));
          free = free;
          mode = sym (ap (mode_as (agreed_by old before h) (lowest (t.members old (old.places h))) (old.places h == 0) x) free) ∙ given.modes.each h x is;
        }

    pub record SettlesAt (i : ℕ) (now : List Actor) : Type 0 where
      pub n : ℕ
      pub ahead : present n (drop n given.in_round.round) ≡ numbers_of (drop i acting)
      pub so : SoFar Settled before n now

    pub settles_first : SettlesAt 0 before
    settles_first = record { n = 0; ahead = sym given.in_round.numbers; so = begun Settled before }

    -- the part of a member, as the meaning tells it
    as_told : (r : rounds.Runner Position) (h high low size : ℕ) (due : Option (Step Position)) → r.has.number ≡ h
        → high ≡ agreed (actings_of core before) (t.members old (old.places h)) → low ≡ lowest (t.members old (old.places h)) → size ≡ length (t.members new (new.places h))
        → settled_as high low size r due ≡ settled_by (actings_of core before) old new r due
    as_told r h high low size None number e f g = refl
    as_told r h high low size (Some step) number e f g =
        ap (λ (v : ℕ). settled_as v low size r (Some step)) e
        ∙ ap (λ (v : ℕ). settled_as (agreed (actings_of core before) (t.members old (old.places h))) v size r (Some step)) f
        ∙ ap (λ (v : ℕ). settled_as (agreed (actings_of core before) (t.members old (old.places h))) (lowest (t.members old (old.places h))) v r (Some step)) g
        ∙ ap (λ (k : ℕ). settled_as (agreed (actings_of core before) (t.members old (old.places k))) (lowest (t.members old (old.places k))) (length (t.members new (new.places k))) r (Some step)) (sym number)

    -- the highest member is not below any
    highest_above : (ms : List ℕ) (h : ℕ) → is_ascending ms ≡ true → is_member h ms ≡ true → h ≤ highest ms
    highest_above [] h up is = absurd (let bad : false ≡ true = is in cc)
    highest_above (m ∷ []) h up is = single m h is
      where
        single : (m h : ℕ) → is_member h (m ∷ []) ≡ true → h ≤ m
        single m h e = grind arith
    highest_above (m ∷ k ∷ ms) h up is = by (h == m) refl (λ g later up'. highest_above (k ∷ ms) g up' later)
      where
        and_of : (a b : Bool) → a && b ≡ true → (a ≡ true) × (b ≡ true)
        and_of true b f = (refl, f)
        and_of false b f = absurd (let bad : false ≡ true = f in cc)

        parts : (is_below_all m (k ∷ ms) ≡ true) × (is_ascending (k ∷ ms) ≡ true)
        parts = and_of (is_below_all m (k ∷ ms)) (is_ascending (k ∷ ms)) up

        less : m < k
        less = lt_of m k (and_of (nat_lt m k) (is_below_all m ms) parts.0).0
          where
            lt_of : (a b : ℕ) → nat_lt a b ≡ true → a < b
            lt_of a b e = grind arith

        self : (a : ℕ) (as' : List ℕ) → is_member a (a ∷ as') ≡ true
        self a as' = ap (λ (b : Bool). b || is_member a as') (eq-eqb a a refl)

        by : (b : Bool) → (h == m) ≡ b → ((g : ℕ) → is_member g (k ∷ ms) ≡ true → is_ascending (k ∷ ms) ≡ true → g ≤ highest (k ∷ ms)) → h ≤ highest (k ∷ ms)
        by true e more =
            let same : h ≡ m = eqb-true h m e in
            let above : k ≤ highest (k ∷ ms) = more k (self k ms) parts.1 in
            let lt = less in
            omega arith
        by false e more = more h (sym (ap (λ (b : Bool). b || is_member h (k ∷ ms)) e) ∙ is) parts.1

    pub settles_more : (i : ℕ) (now : List Actor) (x : acts.Acting) (a to : Actor) (high size : ℕ) → SettlesAt i now → i < length acting → x ≡ get_or acting i x → slice_get now x.number ≡ Some a
        → high ≡ last (values (has_of now x.highest)) → size ≡ length (t.members new (new.places x.number)) → HasSettled core high x.lowest size (x.node == 0) a to
        → SettlesAt (i + 1) (set now x.number to)
    settles_more i now x a to high size at lt is here high_is size_is has =
        let ahead = next_acting given.in_round.round at.n acting i x at.ahead lt is in
        let next = ahead.next.1 in
        let low = next.low in
        let high_lt = next.high in
        let many = given.many in
        let all = given.in_round.many in
        let so_many = at.so.many in
        let within : x.number < p = omega arith in
        let is_at = element_of acting i x (acting_at old) given.at_old lt is in
        let node : x.node ≡ old.places x.number = ap (λ (y : acts.Acting). y.node) is_at in
        let lowest_at : x.lowest ≡ lowest (t.members old (old.places x.number)) = ap (λ (y : acts.Acting). y.lowest) is_at in
        let highest_at : x.highest ≡ highest (t.members old (old.places x.number)) = ap (λ (y : acts.Acting). y.highest) is_at in
        let above : x.number ≤ highest (t.members old (old.places x.number)) =
        highest_above (t.members old (old.places x.number)) x.number (given.sound.ascending (old.places x.number)) (given.sound.placed x.number within).member in
        let same_high : slice_get now x.highest ≡ slice_get before x.highest = at.so.rest x.highest (omega arith) in
        let value : high ≡ last (values (has_of before x.highest)) = high_is ∙ ap (λ o. last (values (has_by o))) same_high in
        let agreed_is : high ≡ agreed (actings_of core before) (t.members old (old.places x.number)) =
        value ∙ ap (λ (k : ℕ). last (values (has_of before k))) highest_at
        ∙ sym (ap (λ (q : Processor). last (values q)) (who_is core before (highest (t.members old (old.places x.number))))) in
        let there : slice_get before x.number ≡ Some a = sym (at.so.rest x.number low) ∙ here in
        record {
          n = suc x.number;
          ahead = ahead.rest;
          so = more Settled before given.in_round.round absent at.n x.number to ahead.next.0 now next at.so (omega arith)
              (record {
                runner = λ b b_at.
                    let same : a ≡ b = cc in
                    has.runner ∙ as_told (runner_of a.runner) x.number high x.lowest size (due_of core a) (number_is x.number a there) agreed_is lowest_at size_is
                    ∙ ap (λ (y : Actor). settled_by (actings_of core before) old new (runner_of y.runner) (due_of core y)) same;
                free = has.free;
                mode = has.mode
                    ∙ ap (λ (v : ℕ). mode_as v x.lowest (x.node == 0) a a.taken) (value ∙ ap (λ (k : ℕ). last (values (has_of before k))) highest_at)
                    ∙ ap (λ (v : ℕ). mode_as (agreed_by old before x.number) v (x.node == 0) a a.taken) lowest_at
                    ∙ ap (λ (v : ℕ). mode_as (agreed_by old before x.number) (lowest (t.members old (old.places x.number))) (v == 0) a a.taken) node
                    ∙ given.modes.each x.number a there;
              });
        }

    -- a member that has taken nothing has no part to do
    nothing_to_do : (high low size : ℕ) (is_root : Bool) (a : Actor) → a.taken ≡ None → HasSettled core high low size is_root a a
    nothing_to_do high low size is_root a free = record {
      runner = sym (ap (λ o. settled_as high low size (runner_of a.runner) (option_map (step_at core (callers_of a.runner)) o)) free);
      free = free;
      mode = sym (ap (mode_as high low is_root a) free);
    }

    pub settles_idle : (i : ℕ) (now : List Actor) (x : acts.Acting) (a : Actor) → SettlesAt i now → i < length acting → x ≡ get_or acting i x → slice_get now x.number ≡ Some a
        → a.taken ≡ None → SettlesAt (i + 1) now
    settles_idle i now x a at lt is here free =
        let high = last (values (has_of now x.highest)) in
        let size = length (t.members new (new.places x.number)) in
        subst (λ (actors : List Actor). SettlesAt (i + 1) actors) (set_there now x.number a here)
        (settles_more i now x a a high size at lt is here refl refl (nothing_to_do high x.lowest size (x.node == 0) a free))

    all_runners : (xs now : List Actor) → length now ≡ length xs
        → ((h : ℕ) (x a : Actor) → slice_get now h ≡ Some x → slice_get xs h ≡ Some a → runner_of x.runner ≡ settled_by (actings_of core before) old new (runner_of a.runner) (due_of core a))
        → runners_of now ≡ settled (actings_of core before) old new (actings_of core xs)
    all_runners [] [] many each = refl
    all_runners [] (x ∷ now) many each = absurd (let z : ⊥ = omega arith in z)
    all_runners (a ∷ xs) [] many each = absurd (let z : ⊥ = omega arith in z)
    all_runners (a ∷ xs) (x ∷ now) many each =
        ap (λ r. r ∷ runners_of now) (each 0 x a refl refl)
        ∙ ap (λ rs. settled_by (actings_of core before) old new (runner_of a.runner) (due_of core a) ∷ rs) (all_runners xs now (omega arith) (λ h y b is at. each (suc h) y b is at))

    pub settles_end : (i : ℕ) (now : List Actor) → SettlesAt i now → length acting ≤ i → HaveSettled core old new before now
    settles_end i now at le =
        let done = at_end Settled before given.in_round.round absent at.n now at.so (λ h low. none_acting given.in_round.round at.n h acting i at.ahead le low) in
        record {
          runners = all_runners before now at.so.many (λ h x a is there. (done h x is).runner a there);
          free = record { none = λ h x is. (done h x is).free };
          modes = record { each = λ h x is. (done h x is).mode };
        }
