-- A run in memory behind the requests of a round, before the steps of the tree.
use Rattle.std.specs.Prelude.{◌≡◌, true, false, List, Option, Some, None, option_map}
use Rattle.fk_tree.specs.View.{tree_of}
use Rattle.fk_meaning_store.specs.Store.{Store}
use Rattle.fk_meaning_store.specs.View.{store_of, processors_of}
use Rattle.fk_meaning_state.specs.View.{setting_of}
use Rattle.fk_meaning.specs.Processor.{Setting}
use Rattle.fk_meaning.specs.Round.{State, Round, all_may_act, asking, all_requests}
use Rattle.fk_core.specs.declared.op.CoreOp.{CoreOp}
use Rattle.fk_core.specs.Next.{Position, next}
use Rattle.fk_replay_phases.specs.declared.actor.Actor.{Actor}
use Rattle.fk_replay_phases.specs.declared.phases.Fault.{Fault}
use Rattle.fk_replay_phases.specs.Present.{present, all_acting}
use Rattle.fk_replay_phases.specs.Actors.{actings_of, modes_of, fault_of, AreReady}
use Rattle.fk_replay_run.specs.declared.run.Run.{Run}
use Rattle.fk_replay_take.specs.declared.rounds.Outcome.{Outcome}
use Rattle.fk_replay_take.specs.declared.rounds.Outcome.TheVariants.{Possible, Stopped, NotPossible}
use Rattle.fk_replay_run.specs.Steady.{IsSteady}
use Rattle.fk_replay_run.specs.Runs.{IsRun, state_of}

module _ (core : List CoreOp) (set : Setting) (round : Round) (s : State Position) where
  -- each processor of the round may be in it, and its request was done, up to the first fault
  pub record AreServed (after : List Actor) (store : Store) (fault : Option Fault) : Type 0 where
    pub may : all_may_act (next core) set round s.runners ≡ true
    pub phase : all_requests 0 (asking (next core) set round s.runners) s.store ≡ record {
      store = store;
      acting = actings_of core after;
      fault = option_map (fault_of core) fault;
    }

module _ (core : List CoreOp) (round : Round) (old new : Run) where
  -- those who are in the round are told, and have been served; nothing else has changed
  pub record IsAsked (fault : Option Fault) : Type 0 where
    pub run : IsRun old
    pub steady : IsSteady core (setting_of old.setting) (state_of old)
    pub setting : new.setting ≡ old.setting
    pub tree : new.tree ≡ old.tree
    pub pace : new.pace ≡ old.pace
    pub arrived : new.arrived ≡ old.arrived
    pub store : processors_of new.store ≡ processors_of old.store
    pub counts : new.counts.items ≡ round
    pub acting : new.acting.items ≡ all_acting (tree_of old.tree) (present 0 round)
    pub served : AreServed core (setting_of old.setting) round (state_of old) new.actors.items
        (store_of new.store) fault
    pub modes : modes_of new.actors.items ≡ modes_of old.actors.items
    pub ready : fault ≡ None → AreReady core new.actors.items

  -- one of the processors may not be in the round
  abbrev pub IsBarred : Type 0
  IsBarred = all_may_act (next core) (setting_of old.setting) round (state_of old).runners ≡ false

  abbrev pub IsAskedAs : Outcome → Type 0
  IsAskedAs Possible = IsAsked None
  IsAskedAs (Stopped fault) = IsAsked (Some fault)
  IsAskedAs NotPossible = IsBarred

-- this holds of some round and some run before it
abbrev pub IsSomeAsked : List CoreOp → Run → Option Fault → Type 0
IsSomeAsked core now fault = (round : Round) × (old : Run) × IsAsked core round old now fault
