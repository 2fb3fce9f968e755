-- The answers of the replay of a list.
use Rattle.std.proofs.Common.{◌≡◌, ℕ, zero, suc, ◌+◌, ◌*◌, ◌≤◌, ◌^◌, List, [], length, take, replicate, Option, Some, None, Err, refl, sym, ap, ◌∙◌, subst, arith}
use Rattle.std.specs.Prelude.{option_map}
use Rattle.fk_space.specs.Space.{IsSpace}
use Rattle.fk_meaning_store.specs.Store.{group_words}
use Rattle.fk_tree.specs.View.{tree_of, processors}
use Rattle.fk_meaning_store.specs.View.{store_of}
use Rattle.fk_meaning_state.specs.View.{setting_of}
use Rattle.fk_meaning.specs.Processor.{Setting, group_space}
use Rattle.fk_meaning.specs.Round.{State}
use Rattle.fk_meaning.specs.Schedule.{Schedule, ArePossible, stand_by}
use Rattle.fk_core.specs.declared.op.CoreOp.{CoreOp}
use Rattle.fk_core.specs.Next.{Position, position, next, landing}
use Rattle.fk_replay_text.specs.declared.fault.ReplayFault.{ReplayFault}
use Rattle.fk_replay_text.specs.declared.fault.ReplayFault.TheVariants.{BadTrace, NotPossible, Pace, Memory}
use Rattle.fk_replay_counts.specs.Steady.{IsSteadyInTree}
use Rattle.fk_replay_counts.proofs.Steady.{runs_are_steady}
use Rattle.fk_replay_schedules.specs.Answers.{after}
use Rattle.fk_replay_schedules.specs.Paced.{Begins}
use Rattle.fk_replay_schedules.proofs.Paced.{paced_at_first, passed_at_first}
use Rattle.fk_replay_steps.specs.Pace.{Absences, since}
use Rattle.fk_replay_schedules.proofs.Prefixes.{first_possible}
use Rattle.fk_replay_phases.specs.Actors.{runners_of, fault_of}
use Rattle.fk_replay_phases.specs.declared.phases.Fault.{Fault}
use Rattle.fk_replay_phases.specs.declared.actor.Actor.{Actor}
use Rattle.fk_replay.specs.declared.end.Replayed.{Replayed}
use Rattle.fk_replay_run.specs.declared.run.Run.{Run}
use Rattle.fk_replay_run.specs.Steady.{IsSteady}
use Rattle.fk_replay_run.specs.Runs.{state_of}
use Rattle.fk_replay_run.specs.Told.{HasTold}
use Rattle.fk_replay.specs.Followed.{HasDone, HasFollowed, IsUnlawful, AreSteady}
use Rattle.fk_replay_run.specs.Openings.{IsOpening}
use Rattle.fk_replay.specs.Replay.{IsOrderly, IsSafe, IsReplay, IsAnswer, setting_in, first_in, stand_in}
use Rattle.fk_replay.proofs.Passing.{same_run}
use Rattle.fk_replay.proofs.Following.{lawful_done, output_done, stand_done, lawful_stopped, output_stopped, stand_stopped}

words_are_space : (globals inputs p : ℕ) → globals + inputs ≤ 2 ^ 19 → IsSpace (group_space (record { processors = p; globals = globals; inputs = inputs }))
words_are_space globals inputs p low = record { header = omega arith; ordered = header; within = omega arith; shared = shared }
  where
    taken : ℕ
    taken = globals + inputs

    header : taken + 8 ≤ taken + group_words taken
    header = omega (arith, low)

    shared : taken + group_words taken ≤ 2 ^ 20
    shared = omega (arith, low)

module _ (core : List CoreOp) (main : ℕ) (words firsts input : List ℕ) (p : ℕ) where
  abbrev set : Setting
  set = setting_in core main words firsts input p

  abbrev first : State Position
  first = first_in core main words firsts input p

  -- each state behind possible rounds is steady
  pub are_steady : (schedule : Schedule) → 1 ≤ p → length words + length input ≤ 2 ^ 19 → IsOrderly core main → IsSafe core main words firsts input p → AreSteady core set schedule first
  are_steady schedule some few orderly safe n are_possible running =
      let possible : ArePossible (next core) set (take n schedule) first = first_possible (next core) set schedule first n are_possible in
      let steady : IsSteadyInTree (next core) (λ (w : Position). landing core w.at) set (after (next core) set schedule first n) =
      runs_are_steady Position ℕ (next core) (λ (w : Position). landing core w.at) (position main []) orderly p words firsts input (take n schedule) some
      (words_are_space (length words) (length input) p few) possible running in
      record {
        running = running;
        stands = steady.stands;
        safe = safe (take n schedule) possible running;
        known = steady.known;
        together = steady.together;
      }

  -- the state before the first round is steady
  pub opened_steady : (opened : Run) → IsOpening main words firsts input p opened → 1 ≤ p → length words + length input ≤ 2 ^ 19 → IsOrderly core main → IsSafe core main words firsts input p
      → IsSteady core (setting_of opened.setting) (state_of opened)
  opened_steady opened opening some few orderly safe =
      let steady : AreSteady core set [] first = are_steady [] some few orderly safe in
      subst (λ (σ : Setting). IsSteady core σ (state_of opened)) (sym opening.setting)
      (subst (λ (s : State Position). IsSteady core set s) (sym opening.state) (steady 0 (λ m round low e. absurd (omega arith)) refl))

  module _ (schedule : Schedule) (r : Run) (replayed : Replayed) where
    pub replay_is : (fault : Option Fault) → HasFollowed core set schedule first r fault → replayed.output.items ≡ (store_of r.store).output
        → stand_in replayed.end ≡ stand_by (next core) set (option_map (fault_of core) fault) (runners_of r.actors.items) → IsReplay core main words firsts input p schedule replayed
    replay_is None done output stand = record {
      lawful = lawful_done core set schedule first r done;
      output = output ∙ output_done core set schedule first r done;
      stand = stand ∙ stand_done core set schedule first r done;
    }
    replay_is (Some fault) stopped output stand = record {
      lawful = lawful_stopped core set schedule first r fault stopped;
      output = output ∙ output_stopped core set schedule first r fault stopped;
      stand = stand ∙ stand_stopped core set schedule first r fault stopped;
    }

  pub unlawful_is : (schedule : Schedule) (fault : ReplayFault) → IsUnlawful core set schedule first fault → IsAnswer core main words firsts input p schedule (Err fault)
  unlawful_is schedule (NotPossible round) x = x
  unlawful_is schedule (Pace round h) x = x
  unlawful_is schedule (BadTrace line) x = absurd x
  unlawful_is schedule Memory x = tt

-- ---- before the first round

none_since : (p h : ℕ) → since (replicate p None) h ≡ None
none_since zero h = refl
none_since (suc p) zero = refl
none_since (suc p) (suc h) = none_since p h

module _ (core : List CoreOp) (main : ℕ) (words firsts input : List ℕ) (p : ℕ) (opened begun : Run) (opening : IsOpening main words firsts input p opened) (told : HasTold core 1 opened begun) where
  pub setting_is : setting_of begun.setting ≡ set core main words firsts input p
  setting_is = ap (λ (r : Run). setting_of r.setting) told.kept ∙ opening.setting

  pub state_is : state_of begun ≡ first core main words firsts input p
  state_is = ap state_of told.kept ∙ opening.state

  pub processors_are : processors begun.tree ≡ p
  processors_are = ap (λ (r : Run). processors r.tree) told.kept ∙ opening.tree

  same_setting : setting_of opened.setting ≡ setting_of begun.setting
  same_setting = sym (ap (λ (r : Run). setting_of r.setting) told.kept)

  same_state : state_of opened ≡ state_of begun
  same_state = sym (ap state_of told.kept)

  begins : Begins (next core) (setting_of begun.setting) (state_of begun) 1 (since opened.pace) (since begun.pace)
  begins = subst (λ (s : State Position). Begins (next core) (setting_of begun.setting) s 1 (since opened.pace) (since begun.pace)) same_state
      (subst (λ (σ : Setting). Begins (next core) σ (state_of opened) 1 (since opened.pace) (since begun.pace)) same_setting told.begins)

  none_there : (h : ℕ) → since opened.pace h ≡ None
  none_there h = ap (λ (a : Absences). since a h) opening.pace ∙ none_since p h

  pub has_done_none : (schedule : Schedule) → HasDone core (setting_of begun.setting) schedule (state_of begun) 0 begun
  has_done_none schedule = record {
    run = same_run opened begun told.kept opening.run;
    setting = refl;
    state = refl;
    given = subst (λ (r : Run). (tree_of r.tree).given ≤ 1 + 0 * 2 ^ 28) (sym told.kept) (let low = opening.given in omega arith);
    passed = passed_at_first (next core) (setting_of begun.setting) schedule (state_of begun);
    paced = λ less. paced_at_first (next core) (setting_of begun.setting) schedule (state_of begun) (since begun.pace) (λ h f e. begins.begun h f (none_there h) e) begins.could begins.cannot;
    knows = λ less. told.knows;
  }

  -- what is known by the state that the run has is known by the first state
  pub by_first : (P : Setting → State Position → Type 0) → P (setting_of begun.setting) (state_of begun) → P (set core main words firsts input p) (first core main words firsts input p)
  by_first P x = subst (λ (s : State Position). P (set core main words firsts input p) s) state_is (subst (λ (σ : Setting). P σ (state_of begun)) setting_is x)

  pub by_begun : (P : Setting → State Position → Type 0) → P (set core main words firsts input p) (first core main words firsts input p) → P (setting_of begun.setting) (state_of begun)
  by_begun P x = subst (λ (s : State Position). P (setting_of begun.setting) s) (sym state_is) (subst (λ (σ : Setting). P σ (first core main words firsts input p)) (sym setting_is) x)

  -- ---- behind the last round

  pub answered : (schedule : Schedule) (r : Run) (fault : Option Fault) (replayed : Replayed) (actors : List Actor) → HasFollowed core (setting_of begun.setting) schedule (state_of begun) r fault
      → replayed.output.items ≡ (store_of r.store).output → actors ≡ r.actors.items
      → ((σ : Setting) → stand_in replayed.end ≡ stand_by (next core) σ (option_map (fault_of core) fault) (runners_of actors))
      → IsReplay core main words firsts input p schedule replayed
  answered schedule r fault replayed actors followed output same stand =
      replay_is core main words firsts input p schedule r replayed fault (by_first (λ (σ : Setting) (s : State Position). HasFollowed core σ schedule s r fault) followed) output
      (stand (set core main words firsts input p) ∙ ap (λ (all : List Actor). stand_by (next core) (set core main words firsts input p) (option_map (fault_of core) fault) (runners_of all)) same)

  pub refused : (schedule : Schedule) (fault : ReplayFault) → IsUnlawful core (setting_of begun.setting) schedule (state_of begun) fault → IsAnswer core main words firsts input p schedule (Err fault)
  refused schedule fault x =
      unlawful_is core main words firsts input p schedule fault (by_first (λ (σ : Setting) (s : State Position). IsUnlawful core σ schedule s fault) x)

  pub begun_steady : (schedule : Schedule) → 1 ≤ p → length words + length input ≤ 2 ^ 19 → IsOrderly core main → IsSafe core main words firsts input p
      → AreSteady core (setting_of begun.setting) schedule (state_of begun)
  begun_steady schedule some few orderly safe =
      by_begun (λ (σ : Setting) (s : State Position). AreSteady core σ schedule s) (are_steady core main words firsts input p schedule some few orderly safe)
