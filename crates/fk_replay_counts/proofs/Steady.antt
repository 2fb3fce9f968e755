-- What holds after every schedule of possible rounds.
use Rattle.std.proofs.Common.{◌≡◌, ℕ, ◌≤◌, true, List, [], ◌∷◌, ◌++◌, Option, None, refl, sym, ap, ◌∙◌, subst}
use Rattle.std.specs.Prelude.{slice_index}
use Rattle.fk_space.specs.Space.{IsSpace}
use Rattle.fk_meaning_store.specs.Store.{Store}
use Rattle.fk_meaning.specs.Processor.{Setting, setting_of, group_space}
use Rattle.fk_meaning.specs.Round.{Step, State, Round, Acting, asking, all_requests, result, is_possible}
use Rattle.fk_meaning.specs.Schedule.{Schedule, opening, run}
use Rattle.fk_lockstep_nodes.specs.Steps.{stepping}
use Rattle.fk_lockstep_tree.specs.Steps.{AreKnown}
use Rattle.fk_lockstep_tree.specs.Runs.{StandsInTree, AlwaysInTree}
use Rattle.fk_lockstep_tree.proofs.Known.{rounds_are_known}
use Rattle.fk_lockstep_tree.proofs.Runs.{AllPossible, run-append, all_are, are_all, all_then, fault_none, running}
use Rattle.fk_replay_counts.specs.Counts.{earlier_in, last_in, singles}
use Rattle.fk_replay_counts.specs.Steady.{IsSteadyInTree, RunsAreSteady}
use Rattle.fk_replay_counts.proofs.Singles.{possible_append, is_split, allowed_of, as_singles, singles_single, singles_same, singles_possible}
use Rattle.fk_replay_counts.proofs.Together.{may_together}

module _ {W X : Type 0} (next : W → Option (Step W)) (place : W → X) (program : W) (always : AlwaysInTree next place program)
    (processors : ℕ) (globals firsts input : List ℕ) where
  abbrev set : Setting
  set = setting_of processors globals input

  abbrev first : State W
  first = opening processors globals input (slice_index firsts) program

  module _ (some : 1 ≤ processors) (space : IsSpace (group_space set)) where
    -- a state behind a schedule of possible rounds
    record Reached (s : State W) : Type 0 where
      schedule : Schedule
      possible : AllPossible next set schedule first
      is : run next set schedule first ≡ s
      going : s.fault ≡ None

    stands_in : (s : State W) → Reached s → StandsInTree next place set s
    stands_in s x =
        let many = singles x.schedule in
        let same = singles_same next set x.schedule first x.possible ∙ x.is in
        subst (StandsInTree next place set) same
        (always processors globals firsts input many some space (all_are next set many first (singles_possible next set x.schedule first x.possible))
        (singles_single next set x.schedule first x.possible) (ap (λ (u : State W). u.fault) same ∙ x.going))

    goes : (round : Round) (s : State W) → Reached s → is_possible next set round s ≡ true → Reached (result next set round s)
    goes round s x e = record {
      schedule = x.schedule ++ round ∷ [];
      possible = all_then next set x.schedule round first x.possible (subst (λ (u : State W). is_possible next set round u ≡ true) (sym x.is) e);
      is = run-append next set x.schedule (round ∷ []) first ∙ ap (result next set round) x.is;
      going = fault_none next set round s e;
    }

    -- before the last operations of a round
    before : (round : Round) (s : State W) → Reached s → is_possible next set round s ≡ true → Reached (run next set (earlier_in round) s)
    before round s x e =
        let y = as_singles next set round s e in
        record {
          schedule = x.schedule ++ earlier_in round;
          possible = possible_append next set x.schedule (earlier_in round) first x.possible (subst (AllPossible next set (earlier_in round)) (sym x.is) y.earlier);
          is = run-append next set x.schedule (earlier_in round) first ∙ ap (run next set (earlier_in round)) x.is;
          going = running next set (last_in round) (run next set (earlier_in round) s) y.last;
        }

    abbrev steps : Store → List (Acting W) → List (Acting W)
    steps store actings = (all_requests 0 actings store).acting

    known : (s : State W) → Reached s → (round : Round) → is_possible next set round s ≡ true → AreKnown s.tree (stepping next set round s)
    known s x round e =
        let u = run next set (earlier_in round) s in
        let y = as_singles next set round s e in
        let z = is_split next set round s (running next set round s e) (allowed_of next set round s e) in
        let stands = stands_in u (before round s x e) in
        let there = rounds_are_known W next set (last_in round) u
        (record { sound = stands.sound; one_program = stands.one_program; tree = stands.tree; single = z.last_single; possible = y.last }) in
        subst (λ (actings : List (Acting W)). AreKnown s.tree (steps s.store actings)) z.asks
        (subst (λ (v : State W). AreKnown v.tree (steps v.store (asking next set (last_in round) u.runners))) z.keeps there)

    steady : (s : State W) → Reached s → IsSteadyInTree next place set s
    steady s x = record {
      stands = stands_in s x;
      known = known s x;
      together = λ n g h count r q is first_in second_in r_is q_is e.
          may_together next set Reached goes (λ u y. y.going) (λ u y. (stands_in u y).sound) (λ u y. (stands_in u y).tree.many) (λ u y. (stands_in u y).one_program)
          count s x n g h r q (is, first_in, r_is) (is, second_in, q_is) e;
    }

pub runs_are_steady : (W X : Type 0) → RunsAreSteady W X
runs_are_steady W X next place program always processors globals firsts input schedule some space possible none =
    steady next place program always processors globals firsts input some space (run next (setting_of processors globals input) schedule
    (opening processors globals input (slice_index firsts) program))
    (record {
      schedule = schedule;
      possible = are_all next (setting_of processors globals input) schedule
          (opening processors globals input (slice_index firsts) program) possible none;
      is = refl;
      going = none;
    })
