-- Rounds that are late for nobody.
use Rattle.std.proofs.Common.{◌≡◌, ℕ, ◌+◌, ◌<◌, ◌≤◌, ◌⊎◌, inl, inr, Some, None, sym, ◌∙◌, subst, arith}
use Rattle.fk_replay_steps.specs.Pace.{Absences, IsLeastLate, since}
use Rattle.fk_replay_text.specs.declared.fault.ReplayFault.{ReplayFault}
use Rattle.fk_replay_text.specs.declared.fault.ReplayFault.TheVariants.{BadTrace, NotPossible, Pace, Memory}
use Rattle.fk_replay.specs.Passed.{AreOnTime, TellsLate, TellsFirstLate}

-- nobody could act
pub idle_on_time : (absences : Absences) (from last : ℕ) → ((h : ℕ) → since absences h ≡ None) → AreOnTime absences from last
idle_on_time absences from last none round low high h late =
    let clash : None ≡ Some late.first = sym (none h) ∙ late.absent in absurd (cc)

pub on_time_first : (absences : Absences) (from : ℕ) → AreOnTime absences from from
on_time_first absences from round low high h late = omega arith

pub on_time_more : (absences : Absences) (from last : ℕ) → AreOnTime absences from last → IsLeastLate absences (last + 1) None → AreOnTime absences from (last + 1)
on_time_more absences from last before now round low high = by (cases round last high)
  where
    cases : (r n : ℕ) → r ≤ n + 1 → (r ≤ n) ⊎ (n + 1 ≡ r)
    cases r n high = grind arith

    by : (round ≤ last) ⊎ (last + 1 ≡ round) → IsLeastLate absences round None
    by (inl less) = before round low less
    by (inr same) = subst (λ (r : ℕ). IsLeastLate absences r None) same now

pub on_time_none : (absences : Absences) (from at last : ℕ) → last ≤ from → AreOnTime absences from last
on_time_none absences from at last none round low high h late = omega arith

pub late_first : (absences : Absences) (from passed last : ℕ) (fault : ReplayFault) → from ≤ passed → passed < last → AreOnTime absences from passed → TellsLate absences (passed + 1) fault → TellsFirstLate absences from last fault
late_first absences from passed last (Pace at h) low high before late =
    let same = late.0 in
    record {
      low = omega (arith, same, low);
      high = omega (arith, same, high);
      late = subst (λ (r : ℕ). IsLeastLate absences r (Some h)) (sym same) late.1;
      first = λ other from' to. before other from' (omega (arith, same, to));
    }
late_first absences from passed last (BadTrace line) low high before late = absurd late
late_first absences from passed last (NotPossible at) low high before late = absurd late
late_first absences from passed last Memory low high before late = absurd late
