-- Runs that follow a schedule.
use Rattle.std.proofs.Common.{◌≡◌, ℕ, zero, suc, ◌+◌, ◌-◌, ◌*◌, ◌<◌, ◌≤◌, ◌^◌, Bool, true, false, ◌⊎◌, inl, inr, List, length, Option, Some, None, refl, sym, ap, ap₂, ◌∙◌, subst, arith}
use Rattle.std.specs.Prelude.{slice_get, slice_index}
use Rattle.std.proofs.lemmas.List.{take_all}
use Rattle.std.proofs.lemmas.Option.{slice_get_within}
use Rattle.fk_tree.specs.View.{tree_of, processors}
use Rattle.fk_meaning_store.specs.View.{store_of}
use Rattle.fk_meaning_state.specs.View.{setting_of}
use Rattle.fk_meaning.specs.Processor.{Setting}
use Rattle.fk_meaning.specs.Round.{State, Round, result, is_possible, IsStopped}
use Rattle.fk_meaning.specs.Schedule.{Schedule, IsIn, IsLawful, run, stand_by, stand_of}
use Rattle.fk_core.specs.declared.op.CoreOp.{CoreOp}
use Rattle.fk_core.specs.Next.{Position, next}
use Rattle.fk_replay_text.specs.declared.fault.ReplayFault.{ReplayFault}
use Rattle.fk_replay_text.specs.declared.fault.ReplayFault.TheVariants.{BadTrace, NotPossible, Pace, Memory}
use Rattle.fk_replay_schedules.specs.Answers.{after, IsGoodBehind, IsLate, IsNotPossible, IsPassedOver}
use Rattle.fk_replay_schedules.specs.Paced.{Since, Leaves, Begins, IsPaced, ArePassed}
use Rattle.fk_replay_schedules.proofs.Prefixes.{no_fault, one_more}
use Rattle.fk_replay_schedules.proofs.Idle.{AreIdle, are_idle, idle_result, idle_possible, nobody_in}
use Rattle.fk_replay_schedules.proofs.Paced.{told_is_late, late_is_told, kept, passed_next, not_possible, passed_over, all_passed, all_but_last}
use Rattle.fk_replay_steps.specs.Pace.{Absences, IsLateNow, IsLeastLate, since}
use Rattle.fk_replay_phases.specs.Actors.{runners_of, fault_of}
use Rattle.fk_replay_phases.specs.declared.phases.Fault.{Fault}
use Rattle.fk_replay_run.specs.declared.run.Run.{Run}
use Rattle.fk_replay_run.specs.Runs.{IsRun, state_of}
use Rattle.fk_replay_take.specs.Taken.{IsDone}
use Rattle.fk_replay_run.specs.Steady.{IsSteady}
use Rattle.fk_replay.specs.Passed.{AreOnTime, IsFirstLate, HasPassed, IsGood, IsRefused, IsSteadyBehind}
use Rattle.fk_replay_run.specs.Told.{HasTold}
use Rattle.fk_replay.specs.Followed.{HasDone, HasStopped, IsUnlawful, AreSteady, AreFirstPossible}
use Rattle.fk_replay.proofs.Passing.{same_run}

module _ (core : List CoreOp) (set : Setting) (schedule : Schedule) (first : State Position) where
  abbrev behind : ℕ → State Position
  behind n = after (next core) set schedule first n

  abbrev Late : (r h : ℕ) → Type 0
  Late r h = IsLate (next core) set schedule first r h

  -- ---- who is late, by the pace

  -- a round is late for those for whom the pace tells it
  module _ (n : ℕ) (round : Round) (old left : Absences) (is : slice_get schedule n ≡ Some round) (paced : IsPaced (next core) set schedule first (since old) n)
      (passed : ArePassed (next core) set schedule first n) (leaves : Leaves round (since old) (since left)) where
    now_late : (h : ℕ) → IsLateNow left (suc n) h → Late (suc n) h
    now_late h l = told_is_late (next core) set schedule first n round (since old) (since left) is paced leaves h l.first l.last l.absent

    late_now : (h : ℕ) → Late (suc n) h → IsLateNow left (suc n) h
    late_now h l = let told = late_is_told (next core) set schedule first n round (since old) (since left) is paced leaves passed h l in
        record { first = told.0; last = told.1; absent = told.2 }

    pub none_late : IsLeastLate left (suc n) None → (h : ℕ) → Late (suc n) h → ⊥
    none_late none h l = none h (late_now h l)

    pub one_late : (h : ℕ) → IsLeastLate left (suc n) (Some h) → Late (suc n) h × ((g : ℕ) → g < h → Late (suc n) g → ⊥)
    one_late h least = (now_late h least.0, λ g low l. least.1 g low (late_now g l))

  -- ---- one round

  abbrev MayFollow : ℕ → Bool → Type 0
  MayFollow n is_last = (suc n < length schedule → is_last ≡ false) × (is_last ≡ true → suc n ≡ length schedule)

  module _ (n : ℕ) (round : Round) (old : Run) (done : HasDone core set schedule first n old) (is : slice_get schedule n ≡ Some round) where
    within : n < length schedule
    within = slice_get_within schedule n round is

    result_is : result (next core) (setting_of old.setting) round (state_of old) ≡ result (next core) set round (behind n)
    result_is = ap₂ (λ (σ : Setting) (s : State Position). result (next core) σ round s) done.setting done.state

    possible_is : is_possible (next core) (setting_of old.setting) round (state_of old) ≡ true → is_possible (next core) set round (behind n) ≡ true
    possible_is e = ap₂ (λ (σ : Setting) (s : State Position). is_possible (next core) σ round s) (sym done.setting) (sym done.state) ∙ e

    is_possible_there : is_possible (next core) set round (behind n) ≡ true → is_possible (next core) (setting_of old.setting) round (state_of old) ≡ true
    is_possible_there e = ap₂ (λ (σ : Setting) (s : State Position). is_possible (next core) σ round s) done.setting done.state ∙ e

    stopped_is : IsStopped (next core) (setting_of old.setting) round (state_of old) → IsStopped (next core) set round (behind n)
    stopped_is x = subst (λ (s : State Position). IsStopped (next core) set round s) done.state (subst (λ (σ : Setting). IsStopped (next core) σ round (state_of old)) done.setting x)

    is_stopped_there : IsStopped (next core) set round (behind n) → IsStopped (next core) (setting_of old.setting) round (state_of old)
    is_stopped_there x =
        subst (λ (σ : Setting). IsStopped (next core) σ round (state_of old)) (sym done.setting)
        (subst (λ (s : State Position). IsStopped (next core) set round s) (sym done.state) x)

    -- the state that is known behind a round, whatever becomes of the pace
    record IsBehind (new : Run) : Type 0 where
      run : IsRun new
      setting : setting_of new.setting ≡ set
      state : state_of new ≡ behind (suc n)
      given : (tree_of new.tree).given ≤ 1 + suc n * 2 ^ 28

    is_behind : (mid new : Run) → IsDone core round old mid → new ≡ record mid { pace = new.pace; arrived = new.arrived } → IsBehind new
    is_behind mid new x e = record {
      run = same_run mid new e x.run;
      setting = ap (λ (r : Run). setting_of r.setting) e ∙ ap setting_of x.same ∙ done.setting;
      state = ap state_of e ∙ x.state ∙ result_is ∙ sym (one_more (next core) set schedule n round first is);
      given = subst (λ (r : Run). (tree_of r.tree).given ≤ 1 + suc n * 2 ^ 28) (sym e) (let low = x.given in let before = done.given in omega arith);
    }

    possible_more : is_possible (next core) set round (behind n) ≡ true → AreFirstPossible core set schedule first (suc n)
    possible_more there m r low e = by (cases m n low)
      where
        cases : (m n : ℕ) → m < suc n → (m < n) ⊎ (m ≡ n)
        cases m n low = grind arith

        by : (m < n) ⊎ (m ≡ n) → is_possible (next core) set r (behind m) ≡ true
        by (inl less) = done.passed.possible m r less e
        by (inr same) =
            let both : Some round ≡ Some r = sym is ∙ ap (slice_get schedule) (sym same) ∙ e in
            let one : round ≡ r = cc in
            subst (λ (x : Round). is_possible (next core) set x (behind m) ≡ true) one
            (subst (λ (k : ℕ). is_possible (next core) set round (behind k) ≡ true) (sym same) there)

    -- if the round is possible, the state behind it is steady
    pub steady_behind : AreSteady core set schedule first → IsSteadyBehind core round old
    steady_behind steady e =
        let there : is_possible (next core) set round (behind n) ≡ true = possible_is e in
        let next_is : behind (suc n) ≡ result (next core) set round (behind n) = one_more (next core) set schedule n round first is in
        let known : IsSteady core set (behind (suc n)) =
        steady (suc n) (possible_more there) (ap (λ (s : State Position). s.fault) next_is ∙ no_fault (next core) set round (behind n) there) in
        subst (λ (σ : Setting). IsSteady core σ (result (next core) σ round (state_of old))) (sym done.setting)
        (subst (λ (s : State Position). IsSteady core set (result (next core) set round s)) (sym done.state)
        (subst (λ (s : State Position). IsSteady core set s) next_is known))

    begins_is : (mid : Run) → setting_of mid.setting ≡ set → state_of mid ≡ behind (suc n) → (old' new' : Since) → Begins (next core) (setting_of mid.setting) (state_of mid) (suc (suc n)) old' new'
        → Begins (next core) set (behind (suc n)) (suc (suc n)) old' new'
    begins_is mid e s old' new' x =
        subst (λ (u : State Position). Begins (next core) set u (suc (suc n)) old' new') s
        (subst (λ (σ : Setting). Begins (next core) σ (state_of mid) (suc (suc n)) old' new') e x)

    pub round_done : (is_last : Bool) (new : Run) → MayFollow n is_last → HasPassed core round (suc n) is_last old new None → HasDone core set schedule first (suc n) new
    round_done is_last new may x = by is_last refl
      where
        passed : ArePassed (next core) set schedule first (suc n)
        passed = passed_next (next core) set schedule first n round is done.passed (possible_is x.taken.possible)
            (none_late n round old.pace x.left is (done.paced within) done.passed x.leaves x.on_time)

        mid : Run
        mid = record (x.mid) { pace = x.left }

        mid_is : IsBehind mid
        mid_is = is_behind x.mid mid x.taken refl

        by_last : new ≡ mid → suc n ≡ length schedule → HasDone core set schedule first (suc n) new
        by_last e last =
            let b = is_behind x.mid new x.taken (e ∙ ap (λ (r : Run). record (x.mid) { pace = r.pace; arrived = r.arrived }) (sym e)) in
            record { run = b.run; setting = b.setting; state = b.state; given = b.given; passed = passed; paced = λ less. absurd (omega arith); knows = λ less. absurd (omega arith) }

        by_others : HasTold core (suc (suc n)) mid new → HasDone core set schedule first (suc n) new
        by_others t =
            let b = is_behind x.mid new x.taken t.kept in
            record {
              run = b.run;
              setting = b.setting;
              state = b.state;
              given = b.given;
              passed = passed;
              paced = λ less. kept (next core) set schedule first n round (since old.pace) (since x.left) is (done.paced within) x.leaves (since new.pace)
                  (begins_is mid mid_is.setting mid_is.state (since x.left) (since new.pace) t.begins);
              knows = λ less. t.knows;
            }

        by : (b : Bool) → is_last ≡ b → HasDone core set schedule first (suc n) new
        by true e = by_last (x.last e) (may.1 e)
        by false e = by_others (x.told e)

    pub round_stopped : (is_last : Bool) (new : Run) (fault : Fault) → MayFollow n is_last → HasPassed core round (suc n) is_last old new (Some fault) → HasStopped core set schedule first new fault
    round_stopped is_last new fault may x = record {
      n = n;
      last = may.1 x.taken.0;
      round = round;
      is = is;
      passed = done.passed;
      stopped = stopped_is x.taken.1.stopped;
      on_time = none_late n round old.pace x.left is (done.paced within) done.passed x.leaves x.on_time;
      fault = ap (λ (s : State Position). s.fault) (sym result_is) ∙ x.taken.1.fault;
      store = ap (λ (r : Run). store_of r.store) (x.last x.taken.0) ∙ x.taken.1.store ∙ ap (λ (s : State Position). s.store) result_is;
    }

    good_is : (is_last : Bool) → MayFollow n is_last → IsGood core round (suc n) is_last old → IsGoodBehind (next core) set schedule first n round
    good_is is_last may (inl e) = inl (possible_is e)
    good_is is_last may (inr x) = inr (may.1 x.0, stopped_is x.1)

    is_good : (is_last : Bool) → MayFollow n is_last → (suc n ≡ length schedule → is_last ≡ true) → IsGoodBehind (next core) set schedule first n round → IsGood core round (suc n) is_last old
    is_good is_last may last (inl e) = inl (is_possible_there e)
    is_good is_last may last (inr x) = inr (last x.0, is_stopped_there x.1)

    pub round_refused : (is_last : Bool) (fault : ReplayFault) → MayFollow n is_last → (suc n ≡ length schedule → is_last ≡ true) → IsRefused core round (suc n) is_last old fault
        → IsUnlawful core set schedule first fault
    round_refused is_last (NotPossible at) may last x =
        subst (λ (r : ℕ). IsNotPossible (next core) set schedule first r) (sym x.0)
        (not_possible (next core) set schedule first n round is done.passed (λ good. x.1 (is_good is_last may last good)))
    round_refused is_last (Pace at h) may last x =
        let late = one_late n round old.pace x.1.left is (done.paced within) done.passed x.1.leaves h x.1.late in
        subst (λ (r : ℕ). IsPassedOver (next core) set schedule first r h) (sym x.0)
        (passed_over (next core) set schedule first n round h is done.passed (good_is is_last may x.1.good) late.0 late.1)
    round_refused is_last (BadTrace line) may last x = absurd x
    round_refused is_last Memory may last x = tt

  -- ---- rounds without acts

  -- nobody acts in the round behind k others
  pub record IsEmptyAt (p k : ℕ) : Type 0 where
    pub round : Round
    pub is : slice_get schedule k ≡ Some round
    pub many : length round ≡ p
    pub none : (h : ℕ) → slice_index round h ≡ 0

  module _ (steady : AreSteady core set schedule first) (n : ℕ) (run : Run) (done : HasDone core set schedule first n run) (empty : IsEmptyAt (processors run.tree) n) where
    going : (behind n).fault ≡ None
    going = ap (λ (s : State Position). s.fault) (sym done.state)

    many : set.processors ≡ length (behind n).runners
    many = let there = steady n done.passed.possible going in sym there.stands.tree.many

    harts_are : processors run.tree ≡ set.processors
    harts_are = sym done.run.setting ∙ ap (λ (σ : Setting). σ.processors) done.setting

    idle : AreIdle (next core) set empty.round (behind n).runners
    idle = are_idle (next core) set empty.round (behind n).runners (empty.many ∙ harts_are ∙ many) empty.none

    same_behind : behind (suc n) ≡ behind n
    same_behind = one_more (next core) set schedule n empty.round first empty.is ∙ idle_result (next core) set empty.round (behind n) idle going

    nobody : (h : ℕ) → IsIn h empty.round → ⊥
    nobody h w = nobody_in (next core) set empty.round (behind n).runners idle h w

    leaves : Leaves empty.round (since run.pace) (since run.pace)
    leaves = record { gone = λ h w. absurd (nobody h w); kept = λ h out. refl }

    begins : IsPaced (next core) set schedule first (since run.pace) n → Begins (next core) set (behind (suc n)) (suc (suc n)) (since run.pace) (since run.pace)
    begins paced = subst (λ (s : State Position). Begins (next core) set s (suc (suc n)) (since run.pace) (since run.pace)) (sym same_behind) (record {
      kept = λ h f e. e;
      begun = λ h f none some. absurd (clash h f none some);
      could = λ h f e. let w = paced.waited h f e in let low = w.2.begun in w.2.able n low (omega arith);
      cannot = paced.cannot;
    })
      where
        clash : (h f : ℕ) → since run.pace h ≡ None → since run.pace h ≡ Some f → ⊥
        clash h f none some = let both : None ≡ Some f = sym none ∙ some in cc

    pub empty_good : is_possible (next core) set empty.round (behind n) ≡ true
    empty_good = idle_possible (next core) set empty.round (behind n) idle going

    low : n < length schedule
    low = slice_get_within schedule n empty.round empty.is

    pub empty_done : IsLeastLate run.pace (suc n) None → HasDone core set schedule first (suc n) run
    empty_done none = record {
      run = done.run;
      setting = done.setting;
      state = done.state ∙ sym same_behind;
      given = let before = done.given in omega arith;
      passed = passed_next (next core) set schedule first n empty.round empty.is done.passed empty_good
          (none_late n empty.round run.pace run.pace empty.is (done.paced low) done.passed leaves none);
      paced = λ less. kept (next core) set schedule first n empty.round (since run.pace) (since run.pace) empty.is (done.paced low) leaves (since run.pace) (begins (done.paced low));
      knows = λ less. done.knows low;
    }

    pub empty_late : (h : ℕ) → IsLeastLate run.pace (suc n) (Some h) → IsPassedOver (next core) set schedule first (suc n) h
    empty_late h least =
        let late = one_late n empty.round run.pace run.pace empty.is (done.paced low) done.passed leaves h least in
        passed_over (next core) set schedule first n empty.round h empty.is done.passed (inl empty_good) late.0 late.1

  -- many of them
  pub empties_done : (steady : AreSteady core set schedule first) (count n : ℕ) (run : Run) → HasDone core set schedule first n run → ((k : ℕ) → n ≤ k → k < n + count → IsEmptyAt (processors run.tree) k)
      → AreOnTime run.pace n (n + count) → HasDone core set schedule first (n + count) run
  empties_done steady zero n run done empty on_time = subst (λ (m : ℕ). HasDone core set schedule first m run) (omega arith) done
  empties_done steady (suc c) n run done empty on_time =
      subst (λ (m : ℕ). HasDone core set schedule first m run) (omega arith)
      (empties_done steady c (suc n) run (empty_done steady n run done (empty n (omega arith) (omega arith)) (on_time (suc n) (omega arith) (omega arith)))
      (λ k low high. empty k (omega arith) (omega arith)) (λ r low high. on_time r (omega arith) (omega arith)))

  pub empties_late : (steady : AreSteady core set schedule first) (n last round h : ℕ) (run : Run) → HasDone core set schedule first n run → ((k : ℕ) → n ≤ k → k < last → IsEmptyAt (processors run.tree) k)
      → IsFirstLate run.pace n last round h → IsPassedOver (next core) set schedule first round h
  empties_late steady n last round h run done empty late =
      let low = late.low in let high = late.high in
      by (round - suc n) (omega arith)
    where
      by : (count : ℕ) → round ≡ suc (n + count) → IsPassedOver (next core) set schedule first round h
      by count e =
          let high = late.high in
          let before = empties_done steady count n run done (λ k from to. empty k from (omega (arith, e, high, to))) (λ r from to. late.first r from (omega (arith, e, to))) in
          subst (λ (r : ℕ). IsPassedOver (next core) set schedule first r h) (sym e)
          (empty_late steady (n + count) run before (empty (n + count) (omega arith) (omega (arith, e, high))) h (subst (λ (r : ℕ). IsLeastLate run.pace r (Some h)) e late.late))

  -- ---- the end

  whole : behind (length schedule) ≡ run (next core) set schedule first
  whole = ap (λ (xs : Schedule). run (next core) set xs first) (take_all (length schedule) schedule (omega arith))

  pub lawful_done : (r : Run) → HasDone core set schedule first (length schedule) r → IsLawful (next core) set schedule first
  lawful_done r done = all_passed (next core) set schedule first done.passed

  pub output_done : (r : Run) → HasDone core set schedule first (length schedule) r → (store_of r.store).output ≡ (run (next core) set schedule first).store.output
  output_done r done = ap (λ (s : State Position). s.store.output) (done.state ∙ whole)

  pub stand_done : (r : Run) → HasDone core set schedule first (length schedule) r → stand_by (next core) set None (runners_of r.actors.items) ≡ stand_of (next core) set (run (next core) set schedule first)
  stand_done r done = ap (λ (s : State Position). stand_of (next core) set s) (done.state ∙ whole)

  module _ (r : Run) (fault : Fault) (stopped : HasStopped core set schedule first r fault) where
    last_behind : result (next core) set stopped.round (behind stopped.n) ≡ run (next core) set schedule first
    last_behind = sym (one_more (next core) set schedule stopped.n stopped.round first stopped.is) ∙ ap behind stopped.last ∙ whole

    pub lawful_stopped : IsLawful (next core) set schedule first
    lawful_stopped = all_but_last (next core) set schedule first stopped.n stopped.round stopped.is stopped.last stopped.passed stopped.stopped stopped.on_time

    pub output_stopped : (store_of r.store).output ≡ (run (next core) set schedule first).store.output
    output_stopped = ap (λ (s : _). s.output) stopped.store ∙ ap (λ (s : State Position). s.store.output) last_behind

    pub stand_stopped : stand_by (next core) set (Some (fault_of core fault)) (runners_of r.actors.items) ≡ stand_of (next core) set (run (next core) set schedule first)
    stand_stopped = sym (ap (λ (f : Option _). stand_by (next core) set f (run (next core) set schedule first).runners)
        (ap (λ (s : State Position). s.fault) (sym last_behind) ∙ stopped.fault))
