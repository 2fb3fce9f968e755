-- Whole runs, round after round.
use Rattle.std.proofs.Common.{◌≡◌, inl, ⊎_elim, ℕ, ◌≤◌, ◌&&◌, true, false, List, [], ◌∷◌, ◌++◌, Option, Some, None, refl, sym, ap, ◌∙◌, subst, append_assoc}
use Rattle.std.specs.Prelude.{is_none, option_map}
use Rattle.std.proofs.lemmas.Bool.{and_parts, false≢true}
use Rattle.std.proofs.lemmas.List.{append-nil}
use Rattle.fk_num.specs.Word.{Memory}
use Rattle.fk_meaning.specs.Processor.{Processor, Setting, setting_of}
use Rattle.fk_meaning.specs.Round.{Step, State, Fault, Round, result, is_allowed, is_possible, IsStopped}
use Rattle.fk_meaning.specs.Schedule.{Schedule, opening, run, ArePossible}
use Rattle.fk_meaning.proofs.Natural.{step_by, state_by, results, possible_alike}
use Rattle.fk_meaning.proofs.Stopped.{stopped_faults}
use Rattle.fk_lockstep.specs.Course.{ByItself, Follows}
use Rattle.fk_tree.specs.Sound.{IsSound}
use Rattle.fk_tree.proofs.RootSound.{root_sound}
use Rattle.fk_lockstep.specs.Counts.{Counts, ArePending, IsCounted}
use Rattle.fk_lockstep.specs.Frames.{IsFramed}
use Rattle.fk_lockstep.specs.OneSpace.{KeepOneSpace}
use Rattle.fk_lockstep.specs.OneProgram.{KeepOneProgram}
use Rattle.fk_lockstep.proofs.ProgramRuns.{groups_have_one_program}
use Rattle.fk_lockstep.proofs.SpaceRuns.{groups_have_one_space}
use Rattle.fk_lockstep_tree.specs.Where.{InRoot, Goes}
use Rattle.fk_lockstep_tree.specs.Placed.{HasTree}
use Rattle.fk_lockstep_tree.specs.Rounds.{IsSingle, HaveOwnSpaces}
use Rattle.fk_lockstep_tree.specs.Runs.{AreSingle, RunsStayInTrees}
use Rattle.fk_lockstep_tree.proofs.Ranges.{rounds_keep_trees}
use Rattle.fk_lockstep_tree.proofs.Opening.{openings_are_in_root}

-- ---- possible rounds, one after another

module _ {W : Type 0} (next : W → Option (Step W)) (set : Setting) where
  pub run-append : (xs ys : Schedule) (s : State W) → run next set (xs ++ ys) s ≡ run next set ys (run next set xs s)
  run-append [] ys s = refl
  run-append (round ∷ xs) ys s = run-append xs ys (result next set round s)

  -- all rounds are possible, also the last one
  abbrev pub AllPossible : Schedule → State W → Type 0
  AllPossible [] s = Unit {0}
  AllPossible (round ∷ schedule) s = (is_possible next set round s ≡ true) × AllPossible schedule (result next set round s)

  pub all_are : (schedule : Schedule) (s : State W) → AllPossible schedule s → ArePossible next set schedule s
  all_are [] s all = tt
  all_are (r ∷ []) s all = inl all.0
  all_are (r ∷ q ∷ schedule) s all = (all.0, all_are (q ∷ schedule) (result next set r s) all.1)

  -- of a schedule behind which there is no fault
  not_stopped : {A : Type 0} (round : Round) (s : State W) → IsStopped next set round s → (result next set round s).fault ≡ None → A
  not_stopped round s stopped none = let clash : Some stopped.fault ≡ None = sym (stopped_faults next set round s stopped) ∙ none in absurd (cc)

  pub are_all : (schedule : Schedule) (s : State W) → ArePossible next set schedule s → (run next set schedule s).fault ≡ None → AllPossible schedule s
  are_all [] s possible none = tt
  are_all (r ∷ []) s possible none = (⊎_elim (λ e. e) (λ stopped. not_stopped r s stopped none) possible, tt)
  are_all (r ∷ q ∷ schedule) s possible none = (possible.0, are_all (q ∷ schedule) (result next set r s) possible.1 none)

  pub possible_before : (xs ys : Schedule) (s : State W) → AllPossible (xs ++ ys) s → AllPossible xs s
  possible_before [] ys s all = tt
  possible_before (r ∷ xs) ys s all = (all.0, possible_before xs ys (result next set r s) all.1)

  possible_then : (xs : Schedule) (round : Round) (ys : Schedule) (s : State W) → AllPossible (xs ++ round ∷ ys) s → is_possible next set round (run next set xs s) ≡ true
  possible_then [] round ys s all = all.0
  possible_then (r ∷ xs) round ys s all = possible_then xs round ys (result next set r s) all.1

  none_of : (f : Option Fault) → is_none f ≡ true → f ≡ None
  none_of None e = refl
  none_of (Some f) e = absurd (false≢true e)

  -- one more
  pub all_then : (xs : Schedule) (round : Round) (s : State W) → AllPossible xs s → is_possible next set round (run next set xs s) ≡ true → AllPossible (xs ++ round ∷ []) s
  all_then [] round s all possible = (possible, tt)
  all_then (r ∷ xs) round s all possible = (all.0, all_then xs round (result next set r s) all.1 possible)

  pub fault_none : (round : Round) (s : State W) → is_possible next set round s ≡ true → (result next set round s).fault ≡ None
  fault_none round s e = none_of (result next set round s).fault (and_parts (is_none s.fault && is_allowed next set round s) (is_none (result next set round s).fault) e).1

  pub running : (round : Round) (s : State W) → is_possible next set round s ≡ true → s.fault ≡ None
  running round s e =
      let both = and_parts (is_none s.fault && is_allowed next set round s) (is_none (result next set round s).fault) e in
      none_of s.fault (and_parts (is_none s.fault) (is_allowed next set round s) both.0).0

-- rounds are possible for work in one form exactly where they are for it in another
module _ {V W : Type 0} (next : V → Option (Step V)) (next' : W → Option (Step W)) (set : Setting) (f : V → W) (natural : (v : V) → next' (f v) ≡ option_map (step_by f) (next v)) where
  pub all_to : (schedule : Schedule) (s : State V) → AllPossible next set schedule s → AllPossible next' set schedule (state_by f s)
  all_to [] s all = tt
  all_to (round ∷ schedule) s all = (
    possible_alike next next' set f natural round s ∙ all.0,
    subst (AllPossible next' set schedule) (sym (results next next' set f natural round s)) (all_to schedule (result next set round s) all.1),
  )

  pub all_from : (schedule : Schedule) (s : State V) → AllPossible next' set schedule (state_by f s) → AllPossible next set schedule s
  all_from [] s all = tt
  all_from (round ∷ schedule) s all = (
    sym (possible_alike next next' set f natural round s) ∙ all.0,
    all_from schedule (result next set round s) (subst (AllPossible next' set schedule) (results next next' set f natural round s) all.1),
  )

-- what each round keeps is so behind all of them
pub round_by_round : {W : Type 0} (next : W → Option (Step W)) (set : Setting) (first : State W) (P : State W → Type 0)
    → ((schedule : Schedule) (round : Round) → ArePossible next set schedule first → (run next set schedule first).fault ≡ None → IsSingle round
    → is_possible next set round (run next set schedule first) ≡ true → P (run next set schedule first) → P (result next set round (run next set schedule first)))
    → (xs ys : Schedule) → AllPossible next set (xs ++ ys) first → AreSingle ys → P (run next set xs first) → P (run next set (xs ++ ys) first)
round_by_round next set first P keeps xs [] all single has = subst (λ (l : Schedule). P (run next set l first)) (sym (append-nil xs)) has
round_by_round next set first P keeps xs (round ∷ ys) all single has =
    let possible = possible_then next set xs round ys first all in
    let before : AllPossible next set xs first = possible_before next set xs (round ∷ ys) first all in
    let behind = keeps xs round (all_are next set xs first before) (running next set round (run next set xs first) possible) single.0 possible has in
    let same : (xs ++ round ∷ []) ++ ys ≡ xs ++ (round ∷ ys) = append_assoc xs (round ∷ []) ys in
    let next_has : P (run next set (xs ++ round ∷ []) first) = subst P (sym (run-append next set xs (round ∷ []) first)) behind in
    subst (λ (l : Schedule). P (run next set l first)) same
    (round_by_round next set first P keeps (xs ++ round ∷ []) ys (subst (λ (l : Schedule). AllPossible next set l first) (sym same) all) single.1 next_has)

module _ (W : Type 0) (next : W → Option (Step W)) (outs : W → List W) (counts : Counts W) (depth : W → ℕ) (program : W) (processors : ℕ) (globals input : List ℕ) (firsts : Memory)
    (follows : Follows next outs (ByItself false) program) (none_pending : (p : Processor) → ArePending next outs counts program p []) (counted : IsCounted next outs counts program)
    (goes_on : Goes next InRoot program) (shallow : depth program ≡ 0) (framed : IsFramed next outs depth 0 true program) (some : 1 ≤ processors) where
  abbrev set : Setting
  set = setting_of processors globals input

  abbrev first : State W
  first = opening processors globals input firsts program

  abbrev after : Schedule → State W
  after schedule = run next set schedule first

  one_program : (schedule : Schedule) → ArePossible next set schedule first → (after schedule).fault ≡ None → KeepOneProgram next processors (after schedule)
  one_program schedule possible none =
      groups_have_one_program W next outs program follows counts none_pending counted set schedule processors globals input firsts some possible none

  one_space : (schedule : Schedule) → ArePossible next set schedule first → (after schedule).fault ≡ None → KeepOneSpace (after schedule)
  one_space schedule possible none =
      groups_have_one_space W next outs program follows counts none_pending counted depth shallow framed set schedule processors globals input firsts some possible none

  in_tree : ((before : Schedule) → HaveOwnSpaces (after before)) → (schedule : Schedule) → ArePossible next set schedule first → AreSingle schedule → (after schedule).fault ≡ None
      → HasTree next set (after schedule)
  in_tree spaces schedule possible single none =
      (round_by_round next set first (λ s. IsSound processors s.tree × HasTree next set s)
      (λ xs round before running' one next_possible has.
      let program' = one_program xs before running' in
      let behind = behind_sound xs round before running' next_possible in (
        behind,
        rounds_keep_trees W next set round (after xs) (record {
          base = record { sound = program'.tree; one_program = program'.members; tree = has.1; single = one; possible = next_possible };
          one_space = (one_space xs before running').members;
          spaces = spaces xs;
          behind = behind;
        }),
      ))
      [] schedule (are_all next set schedule first possible none) single (root_sound processors some, openings_are_in_root W next program processors globals input firsts some goes_on)).1
    where
      -- the tree behind a round that goes on
      behind_sound : (xs : Schedule) (round : Round) → ArePossible next set xs first → (after xs).fault ≡ None → is_possible next set round (after xs) ≡ true → IsSound processors (result next set round (after xs)).tree
      behind_sound xs round before running' next_possible =
          let more = xs ++ round ∷ [] in
          let same : after more ≡ result next set round (after xs) = run-append next set xs (round ∷ []) first in
          let all = all_then next set xs round first (are_all next set xs first before running') next_possible in
          let none' = fault_none next set round (after xs) next_possible in
          subst (λ (u : State W). IsSound processors u.tree) same
          (one_program more (all_are next set more first all) (ap (λ (u : State W). u.fault) same ∙ none')).tree

pub runs_stay_in_trees : (W : Type 0) → RunsStayInTrees W
runs_stay_in_trees W next outs counts depth program processors globals input firsts schedule follows none_pending counted goes_on shallow framed spaces some possible single none = (
  one_program W next outs counts depth program processors globals input firsts follows none_pending counted goes_on shallow framed some schedule possible none,
  one_space W next outs counts depth program processors globals input firsts follows none_pending counted goes_on shallow framed some schedule possible none,
  in_tree W next outs counts depth program processors globals input firsts follows none_pending counted goes_on shallow framed some spaces schedule possible single none,
)
