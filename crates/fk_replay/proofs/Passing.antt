-- What a round makes of a run and its pace.
use Rattle.std.proofs.Common.{◌≡◌, ℕ, suc, Bool, true, false, true≢false, inl, inr, List, [], length, Option, Some, None, refl, sym, ap, ◌∙◌, subst}
use Rattle.std.specs.Prelude.{Result, Ok, Err, IsErrAnd, IfErr}
use Rattle.fk_meaning_state.specs.View.{setting_of}
use Rattle.fk_meaning.specs.Processor.{Setting}
use Rattle.fk_meaning.specs.Round.{State, Round}
use Rattle.fk_core.specs.declared.op.CoreOp.{CoreOp}
use Rattle.fk_core.specs.Next.{Position, next}
use Rattle.fk_replay_text.specs.declared.fault.ReplayFault.{ReplayFault}
use Rattle.fk_replay_text.specs.declared.fault.ReplayFault.TheVariants.{BadTrace, NotPossible, Pace, Memory}
use Rattle.fk_replay_schedules.specs.Paced.{Leaves}
use Rattle.fk_replay_schedules.proofs.Prefixes.{no_fault}
use Rattle.fk_replay_steps.specs.Pace.{Absences, IsLeastLate, since}
use Rattle.fk_replay_phases.specs.Present.{present, numbers_of}
use Rattle.fk_replay_phases.specs.Actors.{fault_of}
use Rattle.fk_replay_phases.specs.declared.phases.Fault.{Fault}
use Rattle.fk_replay_phases.specs.declared.acting.Acting.{Acting}
use Rattle.fk_replay_run.specs.declared.run.Run.{Run}
use Rattle.fk_replay_run.specs.Steady.{IsSteady}
use Rattle.fk_replay_run.specs.Runs.{IsRun, state_of}
use Rattle.fk_replay_take.specs.Taken.{IsDone, IsStoppedBy, IsNeither}
use Rattle.fk_replay.specs.Passed.{TellsLate, HasTaken, HasPassed, IsUntaken, IsGood, IsRefused, IsSteadyBehind}
use Rattle.fk_replay_run.specs.Told.{HasTold, KnowsAbout}
use Rattle.fk_replay_take.proofs.Knowing.{knows_about}

-- the same parts, but for the pace and for who has arrived
pub same_run : (run new : Run) → new ≡ record run { pace = new.pace; arrived = new.arrived } → IsRun run → IsRun new
same_run run new e x = subst IsRun (sym e) (record {
  few = x.few;
  setting = x.setting;
  store = x.store;
  actors = x.actors;
  counts = x.counts;
  free = x.free;
  modes = x.modes;
  own = x.own;
})

-- a reason is passed on as it is
pub passes_on : {A : Type 0} (P : ReplayFault → Type 0) (r : Result A ReplayFault) (reason : ReplayFault) → IsErrAnd r (λ z. z ≡ reason) → P reason → IfErr r P
passes_on P (Ok a) reason same x = tt
passes_on P (Err z) reason same x = subst P (sym same) x

-- the same run with another pace
pub run_with : (run : Run) (left : Absences) → IsRun run → IsRun (record run { pace = left })
run_with run left x = same_run run (record run { pace = left }) refl x

-- those who are in the round leave
abbrev LeaveTo : Run → Absences → Type 0
LeaveTo mid left = (r : Round) → numbers_of mid.acting.items ≡ present 0 r → Leaves r (since mid.pace) (since left)

pub leave_to : (mid : Run) (left : Absences) (acting : List Acting) → acting ≡ mid.acting.items
    → ((r : Round) → numbers_of acting ≡ present 0 r → Leaves r (since mid.pace) (since left)) → LeaveTo mid left
leave_to mid left acting same leaves = λ r e. leaves r (ap numbers_of same ∙ e)

module _ (core : List CoreOp) (round : Round) (number : ℕ) (is_last : Bool) (old : Run) where
  abbrev Good : Type 0
  Good = IsGood core round number is_last old

  abbrev Taken : Run → Option Fault → Type 0
  Taken mid fault = HasTaken core round number is_last old mid fault

  pub bad_neither : (mid : Run) → IsNeither core round old mid → Good → ⊥
  bad_neither mid x (inl e) = x.impossible e
  bad_neither mid x (inr e) = x.going_on e.1

  pub bad_in_the_middle : (mid : Run) (fault : Fault) → IsStoppedBy core round old mid fault → is_last ≡ false → Good → ⊥
  bad_in_the_middle mid fault x other (inl e) =
      let both : None ≡ Some (fault_of core fault) = sym (no_fault (next core) (setting_of old.setting) round (state_of old) e) ∙ x.fault in cc
  bad_in_the_middle mid fault x other (inr e) = true≢false (sym e.0 ∙ other)

  is_good : (mid : Run) (fault : Option Fault) → Taken mid fault → Good
  is_good mid None x = inl x.possible
  is_good mid (Some fault) x = inr (x.0, x.1.stopped)

  same_pace : (mid : Run) (fault : Option Fault) → Taken mid fault → mid.pace ≡ old.pace
  same_pace mid None x = x.pace
  same_pace mid (Some fault) x = x.1.pace

  numbers_are : (mid : Run) (fault : Option Fault) → Taken mid fault → numbers_of mid.acting.items ≡ present 0 round
  numbers_are mid None x = x.numbers
  numbers_are mid (Some fault) x = x.1.numbers

  pub leaves_old : (mid : Run) (fault : Option Fault) (left : Absences) → Taken mid fault → LeaveTo mid left → Leaves round (since old.pace) (since left)
  leaves_old mid fault left x leaves = subst (λ (a : Absences). Leaves round (since a) (since left)) (same_pace mid fault x) (leaves round (numbers_are mid fault x))

  pub is_passed : (mid : Run) (fault : Option Fault) (left : Absences) (new : Run) → Taken mid fault → LeaveTo mid left → IsLeastLate left number None
      → (is_last ≡ false → HasTold core (suc number) (record mid { pace = left }) new) → (is_last ≡ true → new ≡ record mid { pace = left })
      → HasPassed core round number is_last old new fault
  is_passed mid fault left new x leaves on_time told last = record {
    mid = mid;
    taken = x;
    left = left;
    leaves = leaves_old mid fault left x leaves;
    on_time = on_time;
    told = told;
    last = last;
  }

  pub is_too_late : (mid : Run) (fault : Option Fault) (left : Absences) (reason : ReplayFault) → Taken mid fault → LeaveTo mid left → TellsLate left number reason → IsRefused core round number is_last old reason
  is_too_late mid fault left (Pace at h) x leaves late =
      (late.0, record { good = is_good mid fault x; left = left; leaves = leaves_old mid fault left x leaves; late = late.1 })
  is_too_late mid fault left (BadTrace line) x leaves late = absurd late
  is_too_late mid fault left (NotPossible at) x leaves late = absurd late
  is_too_late mid fault left Memory x leaves late = absurd late

  pub is_refused : (reason : ReplayFault) → IsUntaken core round number is_last old reason → IsRefused core round number is_last old reason
  is_refused (NotPossible at) x = x
  is_refused (Pace at h) x = absurd x
  is_refused (BadTrace line) x = absurd x
  is_refused Memory x = tt

  -- unless it is the last one, the round was done
  pub is_done : (mid : Run) (fault : Option Fault) → Taken mid fault → is_last ≡ false → IsDone core round old mid
  is_done mid None x e = x
  is_done mid (Some fault) x e = absurd (true≢false (sym x.0 ∙ e))

  pub behind_steady : (mid : Run) → IsSteadyBehind core round old → IsDone core round old mid → IsSteady core (setting_of mid.setting) (state_of mid)
  behind_steady mid steady x =
      subst (λ (σ : Setting). IsSteady core σ (state_of mid)) (ap setting_of (sym x.same))
      (subst (λ (s : State Position). IsSteady core (setting_of old.setting) s) (sym x.state) (steady x.possible))

  -- who could act is known, but for those who were in the round
  pub behind_knows : (mid : Run) (left : Absences) → IsDone core round old mid → LeaveTo mid left → length left ≡ length mid.pace → IsSteady core (setting_of old.setting) (state_of old)
      → IsSteadyBehind core round old → KnowsAbout core old [] → KnowsAbout core (record mid { pace = left }) (numbers_of mid.acting.items)
  behind_knows mid left x leaves many steady behind knows =
      let same : length mid.pace ≡ length old.pace = ap length x.pace in
      knows_about core round old mid left x steady (behind x.possible) knows (leaves_old mid None left x leaves) (many ∙ same)
