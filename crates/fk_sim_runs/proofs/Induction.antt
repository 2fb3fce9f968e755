-- Whole runs, over whatever is known of a machine beside a state: each cycle is a round, and the rounds so far are lawful.
use Rattle.std.proofs.Common.{◌≡◌, ℕ, zero, suc, List, [], ◌∷◌, ◌++◌, Some, None, Bool, true, false, cond, sym, ap, subst, ◌∙◌, refl, arith, ◌⊎◌, inl, inr, ⊎_elim}
use Rattle.fk_meaning.specs.Processor.{Setting}
use Rattle.fk_meaning.specs.Round.{State, Fault, Round, result, is_possible, IsStopped}
use Rattle.fk_meaning.specs.Schedule.{Schedule, run, ArePossible, CouldAct, KeepsPace, IsLawful, all_done}
use Rattle.fk_lockstep_tree.specs.Runs.{AreSingle}
use Rattle.fk_lockstep_tree.proofs.Runs.{run-append, AllPossible, all_are}
use Rattle.fk_core.specs.declared.op.CoreOp.{CoreOp}
use Rattle.fk_core.specs.Next.{Position, next}
use Rattle.fk_image.specs.declared.Image.{Image}
use Rattle.fk_machine.specs.declared.stand.Stand.TheVariants.{Running, Finished, Faulted}
use Rattle.fk_machine.specs.Cycle.{Machine, turns_of, is_running, after_turns, cycle}
use Rattle.fk_machine.specs.Run.{machine, output_of, round_of, rounds}
use Rattle.fk_sim_match.specs.Stage.{counts_for, AllDoOne}
use Rattle.fk_sim_rounds.specs.Comes.{most_between}
use Rattle.fk_sim_runs.specs.Pace.{Sight, Turns, ActsWithin, AreWaiting}
use Rattle.fk_sim_runs.proofs.Pace.{paces_go_on, paces_are_kept}
use Rattle.fk_sim_runs.proofs.ReachedRuns.{single_then}
use Rattle.fk_sim_runs.proofs.Known.{counts_single}

module _ (core : List CoreOp) (setting : Setting) where
  -- ---- rounds one after another

  possible_then : (schedule : Schedule) (round : Round) (s : State Position) → AllPossible (next core) setting schedule s → is_possible (next core) setting round (run (next core) setting schedule s) ≡ true
      → AllPossible (next core) setting (schedule ++ round ∷ []) s
  possible_then [] round s all one = (one, tt)
  possible_then (r ∷ schedule) round s all one = (all.0, possible_then schedule round (result (next core) setting r s) all.1 one)

  stopped_then : (schedule : Schedule) (round : Round) (s : State Position) → AllPossible (next core) setting schedule s → IsStopped (next core) setting round (run (next core) setting schedule s)
      → ArePossible (next core) setting (schedule ++ round ∷ []) s
  stopped_then [] round s all one = inr one
  stopped_then (r ∷ []) round s all one = (all.0, inr one)
  stopped_then (r ∷ q ∷ schedule) round s all one = (all.0, stopped_then (q ∷ schedule) round (result (next core) setting r s) all.1 one)

  -- ---- a machine beside a state that has no fault, or that a fault has ended

  pub record IsGoing (s : State Position) (printed : List ℕ) (m : Machine) : Type 0 where
    pub going : s.fault ≡ None
    pub output : printed ≡ s.store.output
    pub words : m.shared.words ≡ s.store.words
    pub stand : m.stand ≡ cond (all_done (next core) setting s.runners) Finished Running

  pub record IsOver (s : State Position) (printed : List ℕ) (m : Machine) : Type 0 where
    pub fault : Fault
    pub faulted : s.fault ≡ Some fault
    pub output : printed ≡ s.store.output
    pub words : m.shared.words ≡ s.store.words
    pub stand : m.stand ≡ Faulted fault.site fault.processor

  -- the round of its cycle is stopped
  pub record IsBroken (image : Image) (s : State Position) (printed : List ℕ) (m : Machine) : Type 0 where
    pub stopped : IsStopped (next core) setting (round_of image m) s
    pub over : IsOver (result (next core) setting (round_of image m) s) (printed ++ (cycle m).shared.output) (cycle m)

  -- what is known of a machine beside a state, and how its harts stand by that
  module _ (image : Image) (first : State Position) (Stands : State Position → List ℕ → Machine → Type 0) (sight : (s : State Position) (printed : List ℕ) (m : Machine) → Stands s printed m → Sight) where
    -- its cycle is a possible round. Where that keeps the schedule lawful, the machine stands beside the state behind it
    pub record IsWhole (schedule : Schedule) (printed : List ℕ) (m : Machine) (x : Stands (run (next core) setting schedule first) printed m) : Type 0 where
      pub round : round_of image m ≡ counts_for (sight (run (next core) setting schedule first) printed m x).stages
      pub singles : AllDoOne (sight (run (next core) setting schedule first) printed m x).stages
      pub possible : is_possible (next core) setting (counts_for (sight (run (next core) setting schedule first) printed m x).stages) (run (next core) setting schedule first) ≡ true
      pub further : IsLawful (next core) setting (schedule ++ counts_for (sight (run (next core) setting schedule first) printed m x).stages ∷ []) first
          → (y : Stands (result (next core) setting (counts_for (sight (run (next core) setting schedule first) printed m x).stages) (run (next core) setting schedule first))
          (printed ++ (cycle m).shared.output) (cycle m))
          × Turns (sight (run (next core) setting schedule first) printed m x)
          (sight (result (next core) setting (counts_for (sight (run (next core) setting schedule first) printed m x).stages) (run (next core) setting schedule first)) (printed ++ (cycle m).shared.output)
          (cycle m) y)

    module _ (is_going : (s : State Position) (printed : List ℕ) (m : Machine) → Stands s printed m → IsGoing s printed m)
        (will : (schedule : Schedule) (printed : List ℕ) (m : Machine) (x : Stands (run (next core) setting schedule first) printed m) → IsLawful (next core) setting schedule first
        → AreSingle schedule → (h : ℕ) → CouldAct (next core) setting h (run (next core) setting schedule first) → ActsWithin (sight (run (next core) setting schedule first) printed m x) h most_between)
        (turns : (schedule : Schedule) (printed : List ℕ) (m : Machine) (x : Stands (run (next core) setting schedule first) printed m) → IsLawful (next core) setting schedule first
        → AreSingle schedule → is_running m.stand ≡ true → IsWhole schedule printed m x ⊎ IsBroken image (run (next core) setting schedule first) printed m) where
      -- after some cycles
      pub record Goes (schedule : Schedule) (printed : List ℕ) (m : Machine) : Type 0 where
        pub stands : Stands (run (next core) setting schedule first) printed m
        pub possible : AllPossible (next core) setting schedule first
        pub single : AreSingle schedule
        pub pace : KeepsPace (next core) setting schedule first
        pub waiting : AreWaiting core setting first schedule (sight (run (next core) setting schedule first) printed m stands)

      record Ended (schedule : Schedule) (printed : List ℕ) (m : Machine) : Type 0 where
        over : IsOver (run (next core) setting schedule first) printed m
        lawful : IsLawful (next core) setting schedule first

      abbrev Reached : Schedule → List ℕ → Machine → Type 0
      Reached schedule printed m = Goes schedule printed m ⊎ Ended schedule printed m

      lawful_so_far : (schedule : Schedule) (printed : List ℕ) (m : Machine) → Goes schedule printed m → IsLawful (next core) setting schedule first
      lawful_so_far schedule printed m g = record { possible = all_are (next core) setting schedule first g.possible; pace = g.pace }

      goes_whole : (schedule : Schedule) (printed : List ℕ) (m : Machine) (g : Goes schedule printed m) → IsWhole schedule printed m g.stands
          → Goes (schedule ++ round_of image m ∷ []) (printed ++ (cycle m).shared.output) (cycle m)
      goes_whole schedule printed m g w =
          let s = run (next core) setting schedule first in
          let v = sight s printed m g.stands in
          let round = counts_for v.stages in
          let printed' = printed ++ (cycle m).shared.output in
          let possible = possible_then schedule round first g.possible w.possible in
          let pace = paces_are_kept core setting first schedule v round g.pace g.waiting in
          let lawful : IsLawful (next core) setting (schedule ++ round ∷ []) first = record { possible = all_are (next core) setting (schedule ++ round ∷ []) first possible; pace = pace } in
          let y = w.further lawful in
          let single = single_then schedule round g.single (counts_single v.stages w.singles) in
          let moved : (y : Stands (run (next core) setting (schedule ++ round ∷ []) first) printed' (cycle m)) × Turns v (sight (run (next core) setting (schedule ++ round ∷ []) first) printed' (cycle m) y)
          = subst (λ z. (y : Stands z printed' (cycle m)) × Turns v (sight z printed' (cycle m) y)) (sym (run-append (next core) setting schedule (round ∷ []) first)) y in
          let v' = sight (run (next core) setting (schedule ++ round ∷ []) first) printed' (cycle m) moved.0 in
          subst (λ r. Goes (schedule ++ r ∷ []) printed' (cycle m)) (sym w.round)
          (record {
            stands = moved.0;
            possible = possible;
            single = single;
            pace = pace;
            waiting = paces_go_on core setting first schedule v v' g.waiting moved.1 (will (schedule ++ round ∷ []) printed' (cycle m) moved.0 lawful single);
          })

      goes_broken : (schedule : Schedule) (printed : List ℕ) (m : Machine) → Goes schedule printed m → IsBroken image (run (next core) setting schedule first) printed m
          → Ended (schedule ++ round_of image m ∷ []) (printed ++ (cycle m).shared.output) (cycle m)
      goes_broken schedule printed m g b = record {
        over = subst (λ z. IsOver z (printed ++ (cycle m).shared.output) (cycle m)) (sym (run-append (next core) setting schedule (round_of image m ∷ []) first)) b.over;
        lawful = record {
          possible = stopped_then schedule (round_of image m) first g.possible b.stopped;
          pace = paces_are_kept core setting first schedule (sight (run (next core) setting schedule first) printed m g.stands) (round_of image m) g.pace g.waiting;
        };
      }

      -- ---- from the opening on

      module _ (input : List ℕ) (p : ℕ) where
        abbrev After : ℕ → Type 0
        After n = Reached (rounds image input p n) (output_of image input p n) (machine image input p n)

        -- after one cycle more, by whether the machine runs
        abbrev Next : ℕ → Bool → Type 0
        Next n running =
            Reached (cond running (rounds image input p n ++ round_of image (machine image input p n) ∷ []) (rounds image input p n))
            (cond running (output_of image input p n ++ (cycle (machine image input p n)).shared.output) (output_of image input p n)) (cycle (machine image input p n))

        running_one : (n : ℕ) → After n → is_running (machine image input p n).stand ≡ true → Next n true
        running_one n (inr g) e = absurd (let f = sym e ∙ ap is_running g.over.stand in cc)
        running_one n (inl g) e =
            let m = machine image input p n in
            ⊎_elim
            (λ w. inl (goes_whole (rounds image input p n) (output_of image input p n) m g w))
            (λ b. inr (goes_broken (rounds image input p n) (output_of image input p n) m g b))
            (turns (rounds image input p n) (output_of image input p n) m g.stands (lawful_so_far (rounds image input p n) (output_of image input p n) m g) g.single e)

        over_one : (n : ℕ) → After n → is_running (machine image input p n).stand ≡ false → Next n false
        over_one n r e =
            let m = machine image input p n in
            subst (Reached (rounds image input p n) (output_of image input p n)) (sym (ap (λ b. cond b (after_turns m (turns_of m)) m) e)) r

        by_stand : (n : ℕ) (b : Bool) → After n → is_running (machine image input p n).stand ≡ b → Next n b
        by_stand n true r e = running_one n r e
        by_stand n false r e = over_one n r e

        reached : After 0 → (n : ℕ) → After n
        reached start zero = start
        reached start (suc n) = by_stand n (is_running (machine image input p n).stand) (reached start n) refl

        -- the schedule that is read off is lawful, and the machine agrees with the run by it
        agreed : (n : ℕ) → After n
            → IsLawful (next core) setting (rounds image input p n) first
            × (IsGoing (run (next core) setting (rounds image input p n) first) (output_of image input p n) (machine image input p n)
            ⊎ IsOver (run (next core) setting (rounds image input p n) first) (output_of image input p n) (machine image input p n))
        agreed n (inl g) = (
          lawful_so_far (rounds image input p n) (output_of image input p n) (machine image input p n) g,
          inl (is_going (run (next core) setting (rounds image input p n) first) (output_of image input p n) (machine image input p n) g.stands),
        )
        agreed n (inr g) = (g.lawful, inr g.over)

        -- so it is where it stands beside the first state, and who could act there will
        pub follows_from : (x : Stands first [] (machine image input p 0)) → (n : ℕ)
            → IsLawful (next core) setting (rounds image input p n) first
            × (IsGoing (run (next core) setting (rounds image input p n) first) (output_of image input p n) (machine image input p n)
            ⊎ IsOver (run (next core) setting (rounds image input p n) first) (output_of image input p n) (machine image input p n))
        follows_from x n =
            let empty : IsLawful (next core) setting [] first = record { possible = tt; pace = λ h t le able. absurd (omega (arith, le)) } in
            agreed n
            (reached
            (inl
            (record {
              stands = x;
              possible = tt;
              single = tt;
              pace = λ h t le able. absurd (omega (arith, le));
              waiting = λ h from le able.
                  inr
                  (record {
                    cycles = most_between;
                    due = omega (arith, le);
                    acts = will [] [] (machine image input p 0) x empty tt h (able 0 le (omega arith));
                  });
            })) n)
