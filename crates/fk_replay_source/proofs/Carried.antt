-- An answer for the list of a program is one for the program.
use Rattle.std.proofs.Common.{◌≡◌, ℕ, ◌+◌, ◌&&◌, take, Option, Ok, Err, is_none, ap, ap₂, ◌∙◌, sym, inl, inr}
use Rattle.fk_meaning_store.specs.Store.{Store}
use Rattle.fk_meaning.specs.Processor.{Setting}
use Rattle.fk_meaning.specs.Round.{Step, State, Round, IsStopped, is_possible}
use Rattle.fk_meaning.specs.Schedule.{Schedule, CouldAct, run}
use Rattle.fk_core.proofs.KeepsRuns.{flat_lists_keep_runs}
use Rattle.fk_replay_text.specs.declared.fault.ReplayFault.TheVariants.{BadTrace, NotPossible, Pace, Memory}
use Rattle.fk_replay_schedules.specs.Answers.{IsBad, IsGoodBehind, IsLate, IsNotPossible, IsPassedOver}
use Rattle.fk_replay_source.specs.Alike.{AllowAlike}
use Rattle.fk_replay_source.specs.Laws.{AnswersAreCarried}
use Rattle.fk_replay_source.proofs.Forms.{lists_allow_the_same}

flipped : {V W : Type 0} (next : V → Option (Step V)) (next' : W → Option (Step W)) (setting : Setting) (s : State V) (u : State W) → AllowAlike next next' setting s u → AllowAlike next' next setting u s
flipped next next' setting s u alike = record {
  fault = λ schedule. sym (alike.fault schedule);
  allowed = λ schedule round. sym (alike.allowed schedule round);
  faults = λ schedule round. sym (alike.faults schedule round);
}

module _ {V W : Type 0} (next : V → Option (Step V)) (next' : W → Option (Step W)) (setting : Setting) (s : State V) (u : State W) (alike : AllowAlike next next' setting s u) where
  possible : (schedule : Schedule) (round : Round) → is_possible next setting round (run next setting schedule s) ≡ is_possible next' setting round (run next' setting schedule u)
  possible schedule round =
      ap₂ ◌&&◌ (ap₂ ◌&&◌ (ap is_none (alike.fault schedule)) (alike.allowed schedule round)) (ap is_none (alike.faults schedule round))

  stopped : (schedule : Schedule) (round : Round) → IsStopped next setting round (run next setting schedule s) → IsStopped next' setting round (run next' setting schedule u)
  stopped schedule round h = record {
    running = sym (alike.fault schedule) ∙ h.running;
    whole = h.whole;
    allowed = sym (alike.allowed schedule h.whole) ∙ h.allowed;
    fault = h.fault;
    faults = sym (alike.faults schedule h.whole) ∙ h.faults;
    is_cut = h.is_cut;
  }

  could : (h : ℕ) (schedule : Schedule) → CouldAct next setting h (run next setting schedule s) → CouldAct next' setting h (run next' setting schedule u)
  could h schedule c = record { round = c.round; allowed = sym (alike.allowed schedule c.round) ∙ c.allowed; within = c.within }

  module _ (schedule : Schedule) where
    good : (n : ℕ) (round : Round) → IsGoodBehind next setting schedule s n round → IsGoodBehind next' setting schedule u n round
    good n round (inl h) = inl (sym (possible (take n schedule) round) ∙ h)
    good n round (inr h) = inr (h.0, stopped (take n schedule) round h.1)

    late : (r h : ℕ) → IsLate next setting schedule s r h → IsLate next' setting schedule u r h
    late r h l = record {
      behind = l.behind;
      number = l.number;
      there = l.there;
      able = λ i low. could h (take (l.behind + i) schedule) (l.able i low);
      absent = l.absent;
    }

-- the same of bad rounds and of the answers, which are bad and late where no earlier one is
module _ {V W : Type 0} (next : V → Option (Step V)) (next' : W → Option (Step W)) (setting : Setting) (s : State V) (u : State W) (alike : AllowAlike next next' setting s u) (schedule : Schedule) where
  bad : (r : ℕ) → IsBad next setting schedule s r → IsBad next' setting schedule u r
  bad r b = record {
    behind = b.behind;
    number = b.number;
    round = b.round;
    is = b.is;
    bad = λ g. b.bad (good next' next setting u s (flipped next next' setting s u alike) schedule b.behind b.round g);
  }

module _ {V W : Type 0} (next : V → Option (Step V)) (next' : W → Option (Step W)) (setting : Setting) (s : State V) (u : State W) (alike : AllowAlike next next' setting s u) (schedule : Schedule) where
  abbrev back : AllowAlike next' next setting u s
  back = flipped next next' setting s u alike

  not_possible : (r : ℕ) → IsNotPossible next setting schedule s r → IsNotPossible next' setting schedule u r
  not_possible r n = record {
    bad = bad next next' setting s u alike schedule r n.bad;
    first = λ q less b. n.first q less (bad next' next setting u s back schedule q b);
    on_time = λ q h less l. n.on_time q h less (late next' next setting u s back schedule q h l);
  }

  passed_over : (r h : ℕ) → IsPassedOver next setting schedule s r h → IsPassedOver next' setting schedule u r h
  passed_over r h p = record {
    late = late next next' setting s u alike schedule r h p.late;
    least = λ g less l. p.least g less (late next' next setting u s back schedule r g l);
    first = λ q g less l. p.first q g less (late next' next setting u s back schedule q g l);
    good = λ q low b. p.good q low (bad next' next setting u s back schedule q b);
  }

pub answers_are_carried : AnswersAreCarried
answers_are_carried tables program core entry has words firsts input p schedule (Ok replayed) is =
    let alike = flat_lists_keep_runs tables program core entry has words firsts input p _ schedule in
    record {
      lawful = alike.back is.lawful;
      output = is.output ∙ ap (λ (store : Store). store.output) (sym alike.store);
      stand = is.stand ∙ sym alike.stand;
    }
answers_are_carried tables program core entry has words firsts input p schedule (Err (NotPossible round)) is =
    not_possible _ _ _ _ _ (flipped _ _ _ _ _ (lists_allow_the_same tables program core entry has words firsts input p _)) schedule round is
answers_are_carried tables program core entry has words firsts input p schedule (Err (Pace round processor)) is =
    passed_over _ _ _ _ _ (flipped _ _ _ _ _ (lists_allow_the_same tables program core entry has words firsts input p _)) schedule round processor is
answers_are_carried tables program core entry has words firsts input p schedule (Err (BadTrace line)) is = is
answers_are_carried tables program core entry has words firsts input p schedule (Err Memory) is = tt
