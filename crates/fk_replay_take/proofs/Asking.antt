-- The beginning and the requests of a round.
use Rattle.std.proofs.Common.{◌≡◌, ℕ, suc, ◌≤◌, Bool, true, false, List, [], ◌∷◌, length, Option, ap, refl, sym, ◌∙◌, subst, arith}
use Rattle.std.specs.Prelude.{slice_index, vec_len}
use Rattle.fk_trace.specs.Text.{Range}
use Rattle.fk_tree.specs.View.{tree_of, processors}
use Rattle.fk_meaning_store.specs.View.{store_of, processors_of}
use Rattle.fk_meaning_state.specs.View.{setting_of}
use Rattle.fk_meaning.specs.Processor.{Setting}
use Rattle.fk_meaning.specs.Round.{State, Round, asking}
use Rattle.fk_core.specs.declared.op.CoreOp.{CoreOp}
use Rattle.fk_core.specs.Next.{Position, next}
use Rattle.fk_replay_text.specs.Rounds.{round_of}
use Rattle.fk_replay_rounds.specs.Own.{AreOwn}
use Rattle.fk_replay_phases.specs.declared.acting.Acting.{Acting}
use Rattle.fk_replay_phases.specs.declared.actor.Actor.{Actor}
use Rattle.fk_replay_phases.specs.declared.phases.Fault.{Fault}
use Rattle.fk_replay_phases.specs.Present.{present, numbers_of, all_acting}
use Rattle.fk_replay_phases.specs.Actors.{actings_of, runners_of, HaveBegun, HaveAsked, AreInRound, CanAllBeAsked}
use Rattle.fk_replay_run.specs.declared.run.Run.{Run}
use Rattle.fk_replay_take.specs.Ranges.{AreRanges}
use Rattle.fk_replay_run.specs.Steady.{IsSteady}
use Rattle.fk_replay_run.specs.Runs.{IsRun, state_of}
use Rattle.fk_replay_take.specs.Asked.{IsAsked, IsBarred}
use Rattle.fk_replay_take.proofs.Composed.{asked_of}
use Rattle.fk_replay_take.proofs.Facts.{round_length, counts_few, numbers_are, in_round_mid, own_mid}
use Rattle.fk_replay_take.proofs.Served.{modes_many}

-- what the beginning of a round asks for
pub record BeginsRound (actors : ℕ) (acting : List Acting) (counts : List ℕ) : Type 0 where
  pub many : length counts ≡ actors
  pub counts_few : (h : ℕ) → slice_index counts h ≤ 255
  pub numbers : numbers_of acting ≡ present 0 counts

-- what the requests of a round ask for
pub record AsksAll (core : List CoreOp) (processors : ℕ) (acting : List Acting) (mid : List Actor) : Type 0 where
  pub many : length mid ≡ processors
  pub in_round : AreInRound acting mid
  pub own : AreOwn (runners_of mid)
  pub can : CanAllBeAsked core mid

module _ (core : List CoreOp) (ranges : List Range) (old : Run) (run : IsRun old) (are : AreRanges (processors old.tree) ranges) where
  abbrev p : ℕ
  p = processors old.tree

  abbrev round : Round
  round = round_of (processors old.tree) ranges

  abbrev set : Setting
  set = setting_of old.setting

  abbrev s : State Position
  s = state_of old

  many_actors : length old.actors.items ≡ processors old.tree
  many_actors = let held = old.actors.ok.0 in let e = run.actors in omega (arith, held, e)

  many_runners : length s.runners ≡ processors old.tree
  many_runners = runners_many old.actors.items ∙ many_actors
    where
      runners_many : (xs : List Actor) → length (runners_of xs) ≡ length xs
      runners_many [] = refl
      runners_many (x ∷ xs) = ap suc (runners_many xs)

  many_round : length round ≡ processors old.tree
  many_round = round_length ranges 0 (processors old.tree)

  pub begins : (acting : List Acting) (counts : List ℕ) → counts ≡ round → acting ≡ all_acting (tree_of old.tree) (present 0 counts) → BeginsRound (vec_len old.actors) acting counts
  begins acting counts e is = record {
    many = ap length e ∙ many_round ∙ sym run.actors;
    counts_few = λ h. subst (λ (cs : Round). slice_index cs h ≤ 255) (sym e) (counts_few (processors old.tree) ranges are h);
    numbers = numbers_are (tree_of old.tree) acting counts is;
  }

  -- those who have begun
  module _ (acting : List Acting) (counts : List ℕ) (mid : List Actor) (can : Bool) (counts_are : counts ≡ round) (acting_are : acting ≡ all_acting (tree_of old.tree) (present 0 counts))
      (begun : HaveBegun core (setting_of old.setting) counts old.actors.items mid can) where
    begun_round : HaveBegun core (setting_of old.setting) round old.actors.items mid can
    begun_round = subst (λ (cs : Round). HaveBegun core (setting_of old.setting) cs old.actors.items mid can) counts_are begun

    pub barred : can ≡ false → IsBarred core round old old
    barred e = sym begun_round.whether ∙ e

    module _ (going : can ≡ true) where
      begins_all : HaveBegun core (setting_of old.setting) round old.actors.items mid true
      begins_all = subst (λ (b : Bool). HaveBegun core (setting_of old.setting) round old.actors.items mid b) going begun_round

      mid_many : length mid ≡ processors old.tree
      mid_many = modes_many old.actors.items mid (begins_all.modes refl) ∙ many_actors

      mid_is : actings_of core mid ≡ asking (next core) (setting_of old.setting) round s.runners
      mid_is = begins_all.begun refl

      numbers : numbers_of acting ≡ present 0 round
      numbers = numbers_are (tree_of old.tree) acting counts acting_are ∙ ap (present 0) counts_are

      pub asks : (acting' : List Acting) → acting' ≡ acting → AsksAll core (processors_of old.store) acting' mid
      asks acting' e = record {
        many = mid_many ∙ sym run.store;
        in_round = in_round_mid core (setting_of old.setting) round s acting' mid (ap numbers_of e ∙ numbers) (many_round ∙ sym many_runners) (mid_many ∙ sym many_runners) mid_is;
        own = own_mid core (setting_of old.setting) round s mid run.own mid_is;
        can = begins_all.asks refl;
      }

      pub is_asked : IsSteady core (setting_of old.setting) (state_of old) → (new : Run) (fault : Option Fault)
          → new.setting ≡ old.setting → new.tree ≡ old.tree → new.pace ≡ old.pace → new.arrived ≡ old.arrived
          → new.counts.items ≡ counts → new.acting.items ≡ acting → processors_of new.store ≡ processors_of old.store
          → HaveAsked core (store_of old.store) (store_of new.store) mid new.actors.items fault → IsAsked core round old new fault
      is_asked steady new fault setting tree pace arrived counts_is acting_is store asks_all = record {
        run = run;
        steady = steady;
        setting = setting;
        tree = tree;
        pace = pace;
        arrived = arrived;
        store = store;
        counts = counts_is ∙ counts_are;
        acting = acting_is ∙ acting_are ∙ ap (λ (cs : Round). all_acting (tree_of old.tree) (present 0 cs)) counts_are;
        served = asked_of core (setting_of old.setting) round s old.actors.items mid new.actors.items (store_of new.store) fault refl begins_all asks_all;
        modes = asks_all.modes ∙ begins_all.modes refl;
        ready = asks_all.ready;
      }
