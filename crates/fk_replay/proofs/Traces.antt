-- Runs that follow the moments of a trace.
use Rattle.std.proofs.Common.{◌≡◌, ℕ, zero, suc, ◌+◌, ◌-◌, ◌<◌, ◌≤◌, ◌^◌, ◌==◌, Bool, true, false, List, [], ◌∷◌, length, map, drop, get_or, Some, None, refl, sym, ap, ◌∙◌, subst, arith, eqb-true, ne_eqb, eq-eqb}
use Rattle.std.specs.Prelude.{slice_get}
use Rattle.std.proofs.lemmas.Option.{slice_get_within, slice_get-get_or}
use Rattle.fk_trace.specs.Text.{Range}
use Rattle.fk_tree.specs.View.{tree_of, processors}
use Rattle.fk_meaning_state.specs.View.{setting_of}
use Rattle.fk_meaning.specs.Processor.{Setting}
use Rattle.fk_meaning.specs.Round.{State, Round}
use Rattle.fk_meaning.specs.Schedule.{Schedule}
use Rattle.fk_core.specs.declared.op.CoreOp.{CoreOp}
use Rattle.fk_core.specs.Next.{Position}
use Rattle.fk_replay_text.specs.declared.fault.ReplayFault.{ReplayFault}
use Rattle.fk_replay_text.specs.declared.fault.ReplayFault.TheVariants.{BadTrace, NotPossible, Pace, Memory}
use Rattle.fk_replay_text.specs.declared.trace.Moment.{Moment}
use Rattle.fk_replay_text.specs.View.{moment_of, range_of}
use Rattle.fk_replay_text.specs.Rounds.{round_of, ranges_at, schedule_of}
use Rattle.fk_replay_schedules.specs.Moments.{Moments, AreMoments, AreToCome}
use Rattle.fk_replay_schedules.proofs.Moments.{to_come_first, later, at_most_last, ranges_are, ranges_there, empty_before, empty_behind, to_come_next, schedule_length, round_at, empty_length, nobody_acts}
use Rattle.fk_replay_phases.specs.declared.phases.Fault.{Fault}
use Rattle.fk_replay_run.specs.declared.run.Run.{Run}
use Rattle.fk_replay_take.specs.Ranges.{AreRanges}
use Rattle.fk_replay_run.specs.Runs.{state_of}
use Rattle.fk_replay_run.specs.Steady.{IsSteady}
use Rattle.fk_replay.specs.Passed.{AreOnTime, TellsFirstLate, HasPassed, IsRefused, IsSteadyBehind}
use Rattle.fk_replay_run.specs.Told.{KnowsAbout}
use Rattle.fk_replay.specs.Followed.{HasDone, HasStopped, IsUnlawful, AreSteady}
use Rattle.fk_replay.proofs.Following.{IsEmptyAt, empties_done, empties_late, steady_behind, round_done, round_stopped, round_refused}

drop_next : (items : List Moment) (i : ℕ) (m : Moment) → slice_get items i ≡ Some m → drop i (map moment_of items) ≡ moment_of m ∷ drop (suc i) (map moment_of items)
drop_next [] i m e = let clash : None ≡ Some m = e in absurd (cc)
drop_next (x ∷ items) zero m e = let same : x ≡ m = cc in ap (λ (y : Moment). moment_of y ∷ map moment_of items) same
drop_next (x ∷ items) (suc i) m e = drop_next items i m e

drop_there : (items : List Moment) (i : ℕ) (m : Moment) → slice_get items i ≡ Some m → drop i (map moment_of items) ≡ moment_of m ∷ drop (i + 1) (map moment_of items)
drop_there items i m e = drop_next items i m e ∙ ap (λ (n : ℕ). moment_of m ∷ drop n (map moment_of items)) (let one : suc i ≡ i + 1 = omega arith in one)

drop_all : (items : List Moment) → drop (length items) (map moment_of items) ≡ []
drop_all [] = refl
drop_all (x ∷ items) = drop_all items

module _ (core : List CoreOp) (set : Setting) (first : State Position) (harts cycles : ℕ) (items : List Moment) where
  -- the first moments are passed, up to a round
  pub record IsFollowing (i from : ℕ) (run : Run) : Type 0 where
    pub to_come : AreToCome harts cycles (map moment_of items) from (drop i (map moment_of items))
    pub done : HasDone core set (schedule_of harts (map moment_of items) cycles) first from run

module _ (core : List CoreOp) (set : Setting) (first : State Position) (harts cycles : ℕ) (items : List Moment) (harts_are : set.processors ≡ harts) (steady : AreSteady core set (schedule_of harts (map moment_of items) cycles) first) where
  abbrev moments : Moments
  moments = map moment_of items

  abbrev schedule : Schedule
  schedule = schedule_of harts moments cycles

  pub follows_first : (run : Run) → AreMoments harts cycles 0 moments → HasDone core set schedule first 0 run → IsFollowing core set first harts cycles items 0 0 run
  follows_first run are done = record { to_come = to_come_first harts cycles moments are; done = done }

  harts_of : (n : ℕ) (run : Run) → HasDone core set schedule first n run → processors run.tree ≡ harts
  harts_of n run done = sym done.run.setting ∙ ap (λ (σ : Setting). σ.processors) done.setting ∙ harts_are

  many : length schedule ≡ cycles
  many = schedule_length harts moments cycles

  empty_at : (run : Run) (k : ℕ) → processors run.tree ≡ harts → k < cycles → ranges_at moments (suc k) ≡ [] → IsEmptyAt core set schedule first (processors run.tree) k
  empty_at run k same low none = record {
    round = round_of harts [];
    is = round_at harts moments cycles k low ∙ ap (λ (rs : List Range). Some (round_of harts rs)) none;
    many = empty_length harts ∙ sym same;
    none = λ h. nobody_acts harts h;
  }

  module _ (i from : ℕ) (run : Run) (m : Moment) (low : i < length items) (is : m ≡ get_or items i m) (following : IsFollowing core set first harts cycles items i from run) where
    abbrev ranges : List Range
    ranges = map range_of m.acts.items

    abbrev rest : Moments
    rest = drop (i + 1) moments

    here : AreToCome harts cycles moments from ((m.cycle, ranges) ∷ rest)
    here = subst (AreToCome harts cycles moments from) (drop_there items i m (slice_get-get_or items i m low ∙ ap (λ (y : Moment). Some y) (sym is))) following.to_come

    pub is_later : from < m.cycle
    is_later = later harts cycles moments from m.cycle ranges rest here

    pub is_within : m.cycle ≤ cycles
    is_within = at_most_last harts cycles moments from m.cycle ranges rest here

    same_harts : processors run.tree ≡ harts
    same_harts = harts_of from run following.done

    empties : (k : ℕ) → from ≤ k → k < m.cycle - 1 → IsEmptyAt core set schedule first (processors run.tree) k
    empties k above high =
        let most = is_within in
        empty_at run k same_harts (omega arith)
        (empty_before harts cycles moments from m.cycle ranges rest here (suc k) (omega arith) (omega arith))

    -- the rounds before the moment
    pub before_done : AreOnTime run.pace from (m.cycle - 1) → HasDone core set schedule first (m.cycle - 1) run
    before_done on_time =
        let less = is_later in
        let count : ℕ = m.cycle - 1 - from in
        let sum : from + count ≡ m.cycle - 1 = omega arith in
        subst (λ (n : ℕ). HasDone core set schedule first n run) sum
        (empties_done core set schedule first steady count from run following.done (λ k above high. empties k above (omega (arith, sum, high)))
        (subst (λ (n : ℕ). AreOnTime run.pace from n) (sym sum) on_time))

    pub before_late : (fault : ReplayFault) → TellsFirstLate run.pace from (m.cycle - 1) fault → IsUnlawful core set schedule first fault
    before_late (Pace at h) late = empties_late core set schedule first steady from (m.cycle - 1) at h run following.done empties late
    before_late (BadTrace line) late = absurd late
    before_late (NotPossible at) late = absurd late
    before_late Memory late = absurd late

    -- the round of the moment
    abbrev round : Round
    round = round_of (processors run.tree) ranges

    round_is : slice_get schedule (m.cycle - 1) ≡ Some round
    round_is =
        let less = is_later in
        let most = is_within in
        let one : suc (m.cycle - 1) ≡ m.cycle = omega arith in
        round_at harts moments cycles (m.cycle - 1) (omega arith)
        ∙ ap (λ (c : ℕ). Some (round_of harts (ranges_at moments c))) one
        ∙ ap (λ (rs : List Range). Some (round_of harts rs)) (ranges_there harts cycles moments from m.cycle ranges rest here)
        ∙ ap (λ (p : ℕ). Some (round_of p ranges)) (sym same_harts)

    pub are_ranges : AreRanges (processors run.tree) ranges
    are_ranges = subst (λ (p : ℕ). AreRanges p ranges) (sym same_harts) (ranges_are harts cycles moments from m.cycle ranges rest here)

    number_is : suc (m.cycle - 1) ≡ m.cycle
    number_is = let less = is_later in omega arith

    last_is : (is_last : Bool) → is_last ≡ (m.cycle == cycles) → (suc (m.cycle - 1) < length schedule → is_last ≡ false) × (is_last ≡ true → suc (m.cycle - 1) ≡ length schedule)
    last_is is_last e =
        let one = number_is in
        let all = many in
        (λ less. e ∙ ne_eqb m.cycle cycles (λ f. omega (arith, f, less, one, all)), λ t. let f : m.cycle ≡ cycles = eqb-true m.cycle cycles (sym e ∙ t) in omega (arith, f, one, all))

    is_last_one : (is_last : Bool) → is_last ≡ (m.cycle == cycles) → suc (m.cycle - 1) ≡ length schedule → is_last ≡ true
    is_last_one is_last e f = let one = number_is in let all = many in e ∙ eq-eqb m.cycle cycles (omega (arith, f, one, all))

    module _ (before : HasDone core set schedule first (m.cycle - 1) run) where
      pub is_steady : IsSteady core (setting_of run.setting) (state_of run)
      is_steady =
          let there = steady (m.cycle - 1) before.passed.possible (ap (λ (s : State Position). s.fault) (sym before.state)) in
          subst (λ (σ : Setting). IsSteady core σ (state_of run)) (sym before.setting) (subst (λ (s : State Position). IsSteady core set s) (sym before.state) there)

      pub has_numbers : cycles < 2 ^ 32 → (tree_of run.tree).given + 2 ^ 28 < 2 ^ 63
      has_numbers few = let given = before.given in let most = is_within in omega (arith, given, most, few)

      pub knows_about : KnowsAbout core run []
      knows_about = before.knows (slice_get_within schedule (m.cycle - 1) round round_is)

      pub has_arrived : length run.arrived.items ≡ processors run.tree
      has_arrived = let x = knows_about in x.arrived

      pub is_steady_behind : IsSteadyBehind core round run
      is_steady_behind = steady_behind core set schedule first (m.cycle - 1) round run before round_is steady

      pub round_after : (is_last : Bool) (new : Run) → is_last ≡ (m.cycle == cycles) → HasPassed core round m.cycle is_last run new None → IsFollowing core set first harts cycles items (i + 1) m.cycle new
      round_after is_last new e x = record {
        to_come = to_come_next harts cycles moments from m.cycle ranges rest here;
        done = subst (λ (n : ℕ). HasDone core set schedule first n new) number_is
            (round_done core set schedule first (m.cycle - 1) round run before round_is is_last new (last_is is_last e)
            (subst (λ (n : ℕ). HasPassed core round n is_last run new None) (sym number_is) x));
      }

      pub round_ends : (is_last : Bool) (new : Run) (fault : Fault) → is_last ≡ (m.cycle == cycles) → HasPassed core round m.cycle is_last run new (Some fault) → HasStopped core set schedule first new fault
      round_ends is_last new fault e x =
          round_stopped core set schedule first (m.cycle - 1) round run before round_is is_last new fault (last_is is_last e)
          (subst (λ (n : ℕ). HasPassed core round n is_last run new (Some fault)) (sym number_is) x)

      pub round_fails : (is_last : Bool) (fault : ReplayFault) → is_last ≡ (m.cycle == cycles) → IsRefused core round m.cycle is_last run fault → IsUnlawful core set schedule first fault
      round_fails is_last fault e x =
          round_refused core set schedule first (m.cycle - 1) round run before round_is is_last fault (last_is is_last e) (is_last_one is_last e)
          (subst (λ (n : ℕ). IsRefused core round n is_last run fault) (sym number_is) x)

  -- behind the last moment
  module _ (from : ℕ) (run : Run) (following : IsFollowing core set first harts cycles items (length items) from run) where
    none_to_come : AreToCome harts cycles moments from []
    none_to_come = subst (AreToCome harts cycles moments from) (drop_all items) following.to_come

    from_low : from ≤ cycles
    from_low = none_to_come.ordered

    rest_empty : (k : ℕ) → from ≤ k → k < cycles → IsEmptyAt core set schedule first (processors run.tree) k
    rest_empty k above high = empty_at run k (harts_of from run following.done) high (empty_behind harts cycles moments from none_to_come (suc k) (omega arith))

    pub all_done : (from < cycles → AreOnTime run.pace from cycles) → HasDone core set schedule first (length schedule) run
    all_done on_time = by (cycles - from) (let low = from_low in omega arith)
      where
        by : (count : ℕ) → from + count ≡ cycles → HasDone core set schedule first (length schedule) run
        by zero sum = subst (λ (n : ℕ). HasDone core set schedule first n run) (let all = many in omega (arith, sum, all)) following.done
        by (suc c) sum =
            subst (λ (n : ℕ). HasDone core set schedule first n run) (sum ∙ sym many)
            (empties_done core set schedule first steady (suc c) from run following.done (λ k above high. rest_empty k above (omega (arith, sum, high)))
            (subst (λ (n : ℕ). AreOnTime run.pace from n) (sym sum) (on_time (omega (arith, sum)))))

    pub rest_late : (fault : ReplayFault) → TellsFirstLate run.pace from cycles fault → IsUnlawful core set schedule first fault
    rest_late (Pace at h) late = empties_late core set schedule first steady from cycles at h run following.done rest_empty late
    rest_late (BadTrace line) late = absurd late
    rest_late (NotPossible at) late = absurd late
    rest_late Memory late = absurd late
