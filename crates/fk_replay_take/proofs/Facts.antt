-- What the calls of a round ask for.
use Rattle.std.proofs.Common.{◌≡◌, ℕ, zero, suc, ◌+◌, ◌<◌, ◌≤◌, Bool, true, false, ◌&&◌, List, [], ◌∷◌, length, map, Option, Some, None, ap, refl, sym, ◌∙◌, subst, arith}
use Rattle.std.specs.Prelude.{◌==◌, ◌||◌, nat_le, slice_index, slice_get, option_map, if◌then◌else◌}
use Rattle.fk_tree.specs.Tree as t
use Rattle.fk_tree.specs.Tree.{Tree, is_member}
use Rattle.fk_tree.specs.Sound.{IsSound}
use Rattle.fk_trace.specs.declared.column.Column.TheVariants.{Counts}
use Rattle.fk_trace.specs.Text.{Range}
use Rattle.fk_meaning_store.specs.Store.{Store}
use Rattle.fk_meaning.specs.Processor.{Setting}
use Rattle.fk_meaning.specs.Round as rounds
use Rattle.fk_meaning.specs.Round.{Acting, State, Round, taking, asking, all_requests, lowest, highest}
use Rattle.fk_core.specs.declared.op.CoreOp.{CoreOp}
use Rattle.fk_core.specs.Next.{Position, next}
use Rattle.fk_lockstep_nodes.specs.Steps.{stepping}
use Rattle.fk_replay_text.specs.Trace as trace
use Rattle.fk_replay_text.specs.Rounds.{count_in, counts_from, round_of}
use Rattle.fk_replay_rounds.specs.Own.{AreOwn}
use Rattle.fk_replay_rounds.specs.Fits.{AreThere}
use Rattle.fk_replay_rounds.proofs.Own.{keep}
use Rattle.fk_replay_rounds.proofs.Joints.{absent_asking, absent_requests}
use Rattle.fk_replay_steps.specs.Steps.{runner_of}
use Rattle.fk_replay_steps.specs.declared.list.Due.{Due}
use Rattle.fk_replay_phases.specs.declared.phases.Fault as code
use Rattle.fk_replay_phases.specs.declared.acting.Acting as acts
use Rattle.fk_replay_phases.specs.declared.actor.Actor.{Actor}
use Rattle.fk_replay_phases.specs.Present.{present, numbers_of, acting_at, all_acting, AreHighBelow}
use Rattle.fk_replay_phases.specs.Actors.{acting_of, actings_of, runners_of, due_of, AreInRound}
use Rattle.fk_replay_phases.specs.Joints.{joint_at}
use Rattle.fk_replay_phases.proofs.Highest.{highest_has}
use Rattle.fk_replay_take.specs.Ranges.{AreRanges}
use Rattle.fk_replay_run.specs.Steady.{IsSteady}
use Rattle.fk_replay_take.specs.Asked.{AreServed}
use Rattle.fk_replay_take.proofs.Composed.{stepping_is, waits}

-- ---- counts

pub round_length : (rs : List Range) (first n : ℕ) → length (counts_from rs first n) ≡ n
round_length rs first zero = refl
round_length rs first (suc n) = ap suc (round_length rs (suc first) n)

count_few : (harts : ℕ) (before : Option Range) (rs : List Range) (h : ℕ) → trace.Rise Counts harts before rs → count_in rs h ≤ 255
count_few harts before [] h rise = omega arith
count_few harts before (r ∷ rs) h rise = by_test (nat_le r.first h && nat_le h r.last) rise.0.number.1 (count_few harts (Some r) rs h rise.2)
  where
    by_test : (b : Bool) → r.number ≤ 255 → count_in rs h ≤ 255 → (if b then r.number else count_in rs h) ≤ 255
    by_test true here more = here
    by_test false here more = more

index_few : (rs : List Range) (first n h : ℕ) → ((k : ℕ) → count_in rs k ≤ 255) → slice_index (counts_from rs first n) h ≤ 255
index_few rs first zero zero few = omega arith
index_few rs first zero (suc h) few = omega arith
index_few rs first (suc n) zero few = few first
index_few rs first (suc n) (suc h) few = index_few rs (suc first) n h few

pub counts_few : (harts : ℕ) (rs : List Range) → AreRanges harts rs → (h : ℕ) → slice_index (round_of harts rs) h ≤ 255
counts_few harts rs are h = index_few rs 0 harts h (λ k. count_few harts None rs k are.1)

-- ---- those who act

pub numbers_map : (tree : Tree) (ns : List ℕ) → numbers_of (all_acting tree ns) ≡ ns
numbers_map tree [] = refl
numbers_map tree (n ∷ ns) = ap (λ ms. n ∷ ms) (numbers_map tree ns)

pub numbers_are : (tree : Tree) (acting : List acts.Acting) (counts : Round) → acting ≡ all_acting tree (present 0 counts) → numbers_of acting ≡ present 0 counts
numbers_are tree acting counts is = ap numbers_of is ∙ numbers_map tree (present 0 counts)

get_map : {A B : Type 0} (f : A → B) (xs : List A) (n : ℕ) → slice_get (map f xs) n ≡ option_map f (slice_get xs n)
get_map f [] n = refl
get_map f (x ∷ xs) zero = refl
get_map f (x ∷ xs) (suc n) = get_map f xs n

pub runners_are : (core : List CoreOp) (actors : List Actor) → map rounds.runner_of (actings_of core actors) ≡ runners_of actors
runners_are core [] = refl
runners_are core (a ∷ actors) = ap (λ rs. runner_of a.runner ∷ rs) (runners_are core actors)

length_runners : (actors : List Actor) → length (runners_of actors) ≡ length actors
length_runners [] = refl
length_runners (a ∷ actors) = ap suc (length_runners actors)

-- a processor with nothing due has taken nothing
untaken : (core : List CoreOp) (a : Actor) → due_of core a ≡ None → a.taken ≡ None
untaken core a e = by_taken a.taken refl
  where
    by_taken : (taken : Option Due) → a.taken ≡ taken → a.taken ≡ None
    by_taken None f = f
    by_taken (Some due) f = absurd (none_some (option_map_some due f))
      where
        option_map_some : (due : Due) → a.taken ≡ Some due → (x : rounds.Step Position) × (due_of core a ≡ Some x)
        option_map_some due f = (_, ap (option_map _) f)

        none_some : ((x : rounds.Step Position) × (due_of core a ≡ Some x)) → ⊥
        none_some (x, g) = let bad : None ≡ Some x = sym e ∙ g in cc

module _ (core : List CoreOp) (setting : Setting) (round : Round) (s : State Position) where
  -- those who act before and after the requests
  others_of : (xs : List Actor) (as' : List (Acting Position)) → actings_of core xs ≡ as' → (h : ℕ) (a : Actor) → slice_get xs h ≡ Some a → (r : rounds.Runner Position) → slice_get as' h ≡ Some (taking r None) → a.taken ≡ None
  others_of xs as' e h a is r there =
      let same : Some (acting_of core a) ≡ Some (taking r None) =
      ap (option_map (acting_of core)) (sym is) ∙ sym (get_map (acting_of core) xs h) ∙ ap (λ ys. slice_get ys h) e ∙ there in
      let a_is : acting_of core a ≡ taking r None = cc in
      untaken core a (ap (λ (x : Acting Position). x.due) a_is)

  runner_at : (rs : List (rounds.Runner Position)) (h : ℕ) → h < length rs → (r : rounds.Runner Position) × (slice_get rs h ≡ Some r)
  runner_at [] h lt = absurd (let z : ⊥ = omega arith in z)
  runner_at (r ∷ rs) zero lt = (r, refl)
  runner_at (r ∷ rs) (suc h) lt = runner_at rs h (omega arith)

  within_of : (xs : List Actor) (h : ℕ) (a : Actor) → slice_get xs h ≡ Some a → h < length xs
  within_of [] h a e = absurd (let bad : None ≡ Some a = e in cc)
  within_of (x ∷ xs) zero a e = omega arith
  within_of (x ∷ xs) (suc h) a e = let lt = within_of xs h a e in omega arith

  pub in_round_mid : (acting : List acts.Acting) (mid : List Actor) → numbers_of acting ≡ present 0 round → length round ≡ length s.runners → length mid ≡ length s.runners
      → actings_of core mid ≡ asking (next core) setting round s.runners → AreInRound acting mid
  in_round_mid acting mid numbers many all begun = record {
    round = round;
    many = many ∙ sym all;
    numbers = numbers;
    others = λ h a is none.
        let lt = within_of mid h a is in
        let r = runner_at s.runners h (omega arith) in
        others_of mid (asking (next core) setting round s.runners) begun h a is r.0 (absent_asking (next core) setting round s.runners h r.0 many r.1 none);
  }

  -- who isn't in the round has taken nothing
  pub free_after : (after : List Actor) (store : Store) (fault : Option code.Fault) → length round ≡ length s.runners → length after ≡ length s.runners → AreServed core setting round s after store fault
      → (h : ℕ) (a : Actor) → slice_get after h ≡ Some a → slice_index round h ≡ 0 → a.taken ≡ None
  free_after after store fault many all asks h a is none =
      let lt = within_of after h a is in
      let r = runner_at s.runners h (omega arith) in
      others_of after (stepping (next core) setting round s) (sym (stepping_is core setting round s after store fault asks)) h a is r.0
      (absent_requests 0 (asking (next core) setting round s.runners) s.store h (taking r.0 None) (absent_asking (next core) setting round s.runners h r.0 many r.1 none) refl)

  pub in_round_after : (acting : List acts.Acting) (after : List Actor) (store : Store) (fault : Option code.Fault) → numbers_of acting ≡ present 0 round → length round ≡ length s.runners → length after ≡ length s.runners
      → AreServed core setting round s after store fault → AreInRound acting after
  in_round_after acting after store fault numbers many all asks = record {
    round = round;
    many = many ∙ sym all;
    numbers = numbers;
    others = free_after after store fault many all asks;
  }

  pub own_mid : (mid : List Actor) → AreOwn s.runners → actings_of core mid ≡ asking (next core) setting round s.runners → AreOwn (runners_of mid)
  own_mid mid own begun =
      subst AreOwn (ap (map rounds.runner_of) (sym begun) ∙ runners_are core mid) (keep (next core) setting round s own).before_requests

  pub own_after : (after : List Actor) (store : Store) (fault : Option code.Fault) → AreOwn s.runners → AreServed core setting round s after store fault → AreOwn (runners_of after)
  own_after after store fault own asks =
      subst AreOwn (ap (map rounds.runner_of) (stepping_is core setting round s after store fault asks) ∙ runners_are core after) (keep (next core) setting round s own).before_steps

  -- who fits is told for these
  pub are_there : (after : List Actor) (store : Store) (fault : Option code.Fault) (last : ℕ) → IsSteady core setting s → AreServed core setting round s after store fault → length round ≡ setting.processors
      → ((h : ℕ) → 0 < slice_index round h → h ≤ last) → AreThere round last (joint_at core after last) s.tree setting.processors
  are_there after store fault last steady asks many low = record {
    sound = steady.stands.sound;
    within = λ h some. within_round round h (omega arith) some;
    low = low;
    waits = λ h first parts some kind. waits core setting round s steady after store fault asks last h first parts some (low h some) kind;
  }
    where
      within_list : (xs : Round) (h : ℕ) → 0 < slice_index xs h → h < length xs
      within_list [] zero lt = absurd (let z : ⊥ = omega arith in z)
      within_list [] (suc h) lt = absurd (let z : ⊥ = omega arith in z)
      within_list (x ∷ xs) zero lt = omega arith
      within_list (x ∷ xs) (suc h) lt = let w = within_list xs h lt in omega arith

      within_round : (xs : Round) (h : ℕ) → length xs ≤ setting.processors → 0 < slice_index xs h → h < setting.processors
      within_round xs h le some = let w = within_list xs h some in omega arith

-- ---- highest members

pub high_below : (p : ℕ) (tree : Tree) → IsSound p tree → (ns : List ℕ) → ((i n : ℕ) → slice_get ns i ≡ Some n → n < p) → AreHighBelow p (all_acting tree ns)
high_below p tree sound ns below = record { each = λ i x is. at ns below i x is }
  where
    at : (ms : List ℕ) → ((i n : ℕ) → slice_get ms i ≡ Some n → n < p) → (i : ℕ) (x : acts.Acting) → slice_get (all_acting tree ms) i ≡ Some x → x.highest < p
    at [] below i x e = absurd (let bad : None ≡ Some x = e in cc)
    at (m ∷ ms) below zero x e =
        let same : acting_at tree m ≡ x = cc in
        subst (λ (y : acts.Acting). y.highest < p) same
        (sound.within (tree.places m) (highest (t.members tree (tree.places m))) (highest_has (t.members tree (tree.places m)) m (sound.placed m (below 0 m refl)).member))
    at (m ∷ ms) below (suc i) x e = at ms (λ j n is. below (suc j) n is) i x e

pub present_below : (n : ℕ) (xs : Round) (i m : ℕ) → slice_get (present n xs) i ≡ Some m → m < n + length xs
present_below n [] i m e = absurd (let bad : None ≡ Some m = e in cc)
present_below n (zero ∷ xs) i m e = let lt = present_below (suc n) xs i m e in omega arith
present_below n (suc c ∷ xs) zero m e = let same : n ≡ m = cc in omega arith
present_below n (suc c ∷ xs) (suc i) m e = let lt = present_below (suc n) xs i m e in omega arith
