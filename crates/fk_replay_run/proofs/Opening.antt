-- Runs before their first round.
use Rattle.std.proofs.Common.{◌≡◌, ℕ, zero, suc, ◌+◌, ◌≤◌, ◌⊎◌, inl, inr, false, List, [], ◌∷◌, ◌++◌, length, replicate, Option, Some, None, refl, sym, ap, ap₂, ◌∙◌, subst, arith}
use Rattle.std.specs.Prelude.{slice_get, slice_index, option_map, vec_len}
use Rattle.std.proofs.lemmas.List.{length-replicate}
use Rattle.std.proofs.lemmas.Option.{slice_get-map}
use Rattle.fk_tree.specs.Tree as t
use Rattle.fk_tree.specs.declared.node.Kind.TheVariants.{Asynchronous}
use Rattle.fk_meaning.specs.Processor.{Processor, Setting}
use Rattle.fk_meaning.specs.Round.{Runner}
use Rattle.fk_meaning.specs.Schedule.{beginners, first_processor}
use Rattle.fk_core.specs.Next.{Position, position, list_opening}
use Rattle.fk_replay_rounds.specs.Modes.{mode_of}
use Rattle.fk_replay_rounds.specs.Own.{IsOwn, AreOwn}
use Rattle.fk_replay_rounds.specs.declared.mode.Mode.TheVariants.{Apart}
use Rattle.fk_replay_steps.specs.Steps.{runner_of}
use Rattle.fk_replay_phases.specs.Actors.{HaveNone, runners_of}
use Rattle.fk_replay_phases.specs.Modes.{HaveModes}
use Rattle.fk_replay_phases.specs.declared.actor.Actor.{Actor}
use Rattle.fk_meaning_operation.specs.declared.kinds.Joint.{Joint}
use Rattle.fk_meaning_operation.specs.declared.kinds.Joint.TheVariants.{Alone, Starting, AtBarrier, Closing, Resuming}
use Rattle.fk_replay_arrivals.specs.declared.arrived.Arrived.{Arrived}
use Rattle.fk_replay_arrivals.specs.Arrived.{number_for, arrived_in}
use Rattle.fk_replay_run.specs.Arrivals.{NoneArrived}
use Rattle.fk_tree.specs.View.{tree_of, processors}
use Rattle.fk_meaning_store.specs.Store.{Store, opening_store}
use Rattle.fk_meaning_store.specs.View.{store_of, processors_of}
use Rattle.fk_meaning_state.specs.View.{setting_of}
use Rattle.fk_meaning.specs.Processor as processor
use Rattle.fk_replay_phases.specs.Present.{AreNone}
use Rattle.fk_replay_run.specs.declared.run.Run.{Run}
use Rattle.fk_replay_run.specs.Runs.{state_of}
use Rattle.fk_replay_run.specs.Openings.{IsFirst, AreFirst, IsOpening}

module _ (set : Setting) (main : ℕ) (firsts : List ℕ) where
  is_runner : (h : ℕ) (a : Actor) → IsFirst set main firsts h a → runner_of a.runner ≡ record { left = position main []; has = first_processor set (slice_index firsts) h }
  is_runner h a x = ap₂ (λ (w : Position) (p : Processor). record { left = w; has = p }) x.left x.has

  runners_from : (h count : ℕ) (actors : List Actor) → length actors ≡ count → ((j : ℕ) (a : Actor) → slice_get actors j ≡ Some a → IsFirst set main firsts (h + j) a)
      → runners_of actors ≡ beginners set (slice_index firsts) (position main []) h count
  runners_from h zero [] many each = refl
  runners_from h (suc c) [] many each = absurd (omega (arith, many))
  runners_from h zero (a ∷ actors) many each = absurd (omega (arith, many))
  runners_from h (suc c) (a ∷ actors) many each =
      ap₂ (λ (r : Runner Position) (rs : List (Runner Position)). r ∷ rs)
      (is_runner h a (subst (λ (g : ℕ). IsFirst set main firsts g a) (omega arith) (each 0 a refl)))
      (runners_from (suc h) c actors (omega (arith, many)) (λ j b e. subst (λ (g : ℕ). IsFirst set main firsts g b) (omega arith) (each (suc j) b e)))

  pub first_runners : (count : ℕ) (actors : List Actor) → AreFirst set main firsts count actors → runners_of actors ≡ beginners set (slice_index firsts) (position main []) 0 count
  first_runners count actors x = runners_from 0 count actors x.many (λ j a e. subst (λ (g : ℕ). IsFirst set main firsts g a) (omega arith) (x.each j a e))

  pub first_free : (count : ℕ) (actors : List Actor) → AreFirst set main firsts count actors → HaveNone actors
  first_free count actors x = record { none = λ h a e. let y = x.each h a e in y.free }

  apart : (members : List ℕ) → mode_of (t.kind_of (t.node_of members 0 (Asynchronous false))) ≡ Apart
  apart [] = refl
  apart (h ∷ hs) = refl

  pub first_modes : (p count : ℕ) (actors : List Actor) → AreFirst set main firsts count actors → HaveModes (t.root p) actors
  first_modes p count actors x = record { each = λ h a e. let y = x.each h a e in y.mode ∙ sym (apart (t.below p [])) }

  pub first_own : (count : ℕ) (actors : List Actor) → AreFirst set main firsts count actors → AreOwn (runners_of actors)
  first_own count actors x = record { each = λ h r e. by h r (slice_get actors h) refl (sym (slice_get-map (λ (a : Actor). runner_of a.runner) actors h) ∙ e) }
    where
      own : (h : ℕ) (a : Actor) → IsFirst set main firsts h a → IsOwn h (runner_of a.runner).has
      own h a y = subst (λ (p : Processor). IsOwn h p) (sym y.has) (record { number = refl; calls = omega arith })

      by : (h : ℕ) (r : Runner Position) (o : Option Actor) → slice_get actors h ≡ o → option_map (λ (a : Actor). runner_of a.runner) o ≡ Some r → IsOwn h r.has
      by h r None f e = let clash : None ≡ Some r = e in absurd (cc)
      by h r (Some a) f e = let same : runner_of a.runner ≡ r = cc in subst (λ (q : Runner Position). IsOwn h q.has) same (own h a (x.each h a f))

-- one more element
get_more : {X : Type 0} (xs : List X) (x y : X) (j : ℕ) → slice_get (xs ++ x ∷ []) j ≡ Some y → (slice_get xs j ≡ Some y) ⊎ ((j ≡ length xs) × (x ≡ y))
get_more [] x y zero e = let same : x ≡ y = cc in inr (refl, same)
get_more [] x y (suc j) e = let clash : None ≡ Some y = e in absurd (cc)
get_more (z ∷ xs) x y zero e = inl e
get_more (z ∷ xs) x y (suc j) e = up (get_more xs x y j e)
  where
    up : (slice_get xs j ≡ Some y) ⊎ ((j ≡ length xs) × (x ≡ y)) → (slice_get (z ∷ xs) (suc j) ≡ Some y) ⊎ ((suc j ≡ length (z ∷ xs)) × (x ≡ y))
    up (inl f) = inl f
    up (inr f) = inr (ap suc f.0, f.1)

length_more : {X : Type 0} (xs : List X) (x : X) → length (xs ++ x ∷ []) ≡ length xs + 1
length_more [] x = refl
length_more (y ∷ xs) x = let e = length_more xs x in omega (arith, e)

module _ (set : Setting) (main : ℕ) (firsts : List ℕ) where
  pub first_none : AreFirst set main firsts 0 []
  first_none = record { many = refl; each = λ h a e. absurd (none a e) }
    where
      none : (a : Actor) → None ≡ Some a → ⊥
      none a e = cc

  pub first_more : (count : ℕ) (actors : List Actor) (a : Actor) → AreFirst set main firsts count actors → IsFirst set main firsts count a → AreFirst set main firsts (count + 1) (actors ++ a ∷ [])
  first_more count actors a x y = record {
    many = length_more actors a ∙ ap (λ (n : ℕ). n + 1) x.many;
    each = λ h b e. by h b (get_more actors a b h e);
  }
    where
      by : (h : ℕ) (b : Actor) → (slice_get actors h ≡ Some b) ⊎ ((h ≡ length actors) × (a ≡ b)) → IsFirst set main firsts h b
      by h b (inl e) = x.each h b e
      by h b (inr e) = subst (λ (g : ℕ). IsFirst set main firsts g b) (sym (e.0 ∙ x.many)) (subst (IsFirst set main firsts count) e.1 y)

pub none_more : (count : ℕ) (items : List Arrived) (a : Arrived) → NoneArrived count items → a.starting ≡ 0 → a.at_barrier ≡ 0 → a.closing ≡ 0 → NoneArrived (count + 1) (items ++ a ∷ [])
none_more count items a before s b c = record {
  many = length_more items a ∙ ap (λ (n : ℕ). n + 1) before.many;
  none = λ h joint. by h joint (slice_get (items ++ a ∷ []) h) refl;
}
  where
    zeros : (joint : Joint) → number_for joint (Some a) ≡ 0
    zeros Starting = s
    zeros AtBarrier = b
    zeros Closing = c
    zeros Alone = refl
    zeros Resuming = refl

    there : (h : ℕ) (joint : Joint) (x : Arrived) → (slice_get items h ≡ Some x) ⊎ ((h ≡ length items) × (a ≡ x)) → number_for joint (Some x) ≡ 0
    there h joint x (inl e) = ap (number_for joint) (sym e) ∙ before.none h joint
    there h joint x (inr e) = ap (λ (y : Arrived). number_for joint (Some y)) (sym e.1) ∙ zeros joint

    by : (h : ℕ) (joint : Joint) (o : Option Arrived) → slice_get (items ++ a ∷ []) h ≡ o → arrived_in (items ++ a ∷ []) h joint ≡ 0
    by h joint None e = ap (number_for joint) e
    by h joint (Some x) e = ap (number_for joint) e ∙ there h joint x (get_more items a x h e)

pub none_first : NoneArrived 0 []
none_first = record { many = refl; none = λ h joint. refl }

-- ---- the counts of the first round

zeros : (p h : ℕ) → slice_index (replicate p 0) h ≡ 0
zeros zero h = refl
zeros (suc p) zero = refl
zeros (suc p) (suc h) = zeros p h

pub none_in : (p : ℕ) (counts : List ℕ) → counts ≡ replicate p 0 → AreNone p counts
none_in p counts is = subst (AreNone p) (sym is) (record { many = length-replicate p 0; none = zeros p })

-- ---- the whole run

module _ (main : ℕ) (words firsts input : List ℕ) (p : ℕ) (r : Run) where
  abbrev set : Setting
  set = processor.setting_of p words input

  pub state_opened : store_of r.store ≡ opening_store words input → tree_of r.tree ≡ t.root p → AreFirst set main firsts p r.actors.items → state_of r ≡ list_opening main words firsts input p
  state_opened store tree first =
      ap (λ (s : Store). record { store = s; tree = tree_of r.tree; runners = runners_of r.actors.items; fault = None }) store
      ∙ ap₂ (λ (u : t.Tree) (rs : List (Runner Position)). record { store = opening_store words input; tree = u; runners = rs; fault = None }) tree
      (first_runners set main firsts p r.actors.items first)

  pub is_opening : p ≤ 1024 → store_of r.store ≡ opening_store words input → processors_of r.store ≡ p → tree_of r.tree ≡ t.root p → processors r.tree ≡ p
      → setting_of r.setting ≡ set → AreFirst set main firsts p r.actors.items → vec_len r.actors ≡ p → AreNone p r.counts.items → r.pace ≡ replicate p None → NoneArrived p r.arrived.items
      → IsOpening main words firsts input p r
  is_opening few store stored tree treed setting first many counts pace arrived = record {
    run = record {
      few = omega (arith, few, treed);
      setting = ap (λ (σ : Setting). σ.processors) setting ∙ sym treed;
      store = stored ∙ sym treed;
      actors = many ∙ sym treed;
      counts = subst (λ (n : ℕ). AreNone n r.counts.items) (sym treed) counts;
      free = first_free set main firsts p r.actors.items first;
      modes = subst (λ (u : t.Tree). HaveModes u r.actors.items) (sym tree) (first_modes set main firsts p p r.actors.items first);
      own = first_own set main firsts p r.actors.items first;
    };
    tree = treed;
    setting = setting;
    state = state_opened store tree first;
    given = subst (λ (u : t.Tree). u.given ≤ 1) (sym tree) (let one : 1 ≤ 1 = omega arith in one);
    pace = pace;
    arrived = arrived;
  }
