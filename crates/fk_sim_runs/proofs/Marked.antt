-- A round of a state, and that of the state whose processors are at the operations that jumps lead to: both leave the same to those
-- who have gone on, and the others where they were.
use Rattle.std.proofs.Common.{◌≡◌, ◌⊎◌, inl, inr, ⊎_elim, ℕ, ◌<◌, Bool, true, List, [], ◌∷◌, length, Option, Some, None, refl, sym, ap, ◌∙◌, arith}
use Rattle.std.specs.Prelude.{map, option_map, slice_get, slice_index}
use Rattle.std.proofs.lemmas.List.{length-map}
use Rattle.fk_tree.specs.Tree as trees
use Rattle.fk_meaning.specs.Processor.{Setting}
use Rattle.fk_meaning.specs.Group.{goes_onward}
use Rattle.fk_meaning.specs.Round.{Step, Runner, State, Round, Acting, agreed, lowest, all_changes, settled_by, result, is_possible}
use Rattle.fk_meaning.proofs.Natural.{step_by, runner_by, state_by, results, possible_alike}
use Rattle.fk_lockstep.proofs.Rounds.{map_at, settled_at}
use Rattle.fk_core.specs.declared.op.CoreOp.{CoreOp}
use Rattle.fk_core.specs.Next.{Position, position, landing, next}
use Rattle.fk_lockstep.proofs.Round.{first_is}
use Rattle.fk_lockstep_nodes.specs.Steps.{stepping}
use Rattle.fk_lockstep_tree.specs.Rounds.{IsSingle}
use Rattle.fk_lockstep_tree.proofs.Acts.{Acts, acts, counts_as, result_is}
use Rattle.fk_sim_rounds.specs.Next.{JumpsLead}
use Rattle.fk_sim_rounds.specs.Beside.{landed_state}
use Rattle.fk_sim_rounds.proofs.Landed.{landing_twice, next_landed}

-- what is left before the round, and behind it
pub data Marked : Type 0 where
  Before : Position → Marked
  Behind : Position → Marked

abbrev pub here : Marked → Position
here (Before w) = w
here (Behind w) = w

module _ (core : List CoreOp) (leads : JumpsLead core) where
  abbrev pub land : Position → Position
  land w = position (landing core w.at) w.callers

  -- where the processors of the other state are
  abbrev pub there : Marked → Position
  there (Before w) = land w
  there (Behind w) = w

  pub lands_alike : (m : Marked) → land (there m) ≡ land (here m)
  lands_alike (Before w) = ap (λ (i : ℕ). position i w.callers) (landing_twice core leads w.at)
  lands_alike (Behind w) = refl

  abbrev pub marked_next : Marked → Option (Step Marked)
  marked_next m = option_map (step_by Behind) (next core (here m))

  unmarked : (f : Marked → Position) → ((w : Position) → f (Behind w) ≡ w) → (due : Option (Step Position)) → due ≡ option_map (step_by f) (option_map (step_by Behind) due)
  unmarked f same None = refl
  unmarked f same (Some step) =
      let rests : step.rest ≡ (λ onward. f (Behind (step.rest onward))) = λ i onward. sym (same (step.rest onward)) i in
      ap (λ (rest : Bool → Position). let s : Step Position = record { operation = step.operation; site = step.site; rest = rest } in Some s) rests

  next_here : (m : Marked) → next core (here m) ≡ option_map (step_by here) (marked_next m)
  next_here m = unmarked here (λ w. refl) (next core (here m))

  next_there : (m : Marked) → next core (there m) ≡ option_map (step_by there) (marked_next m)
  next_there (Before w) = next_landed core leads w ∙ unmarked there (λ v. refl) (next core w)
  next_there (Behind w) = unmarked there (λ v. refl) (next core w)

  module _ (setting : Setting) (round : Round) (s : State Position) where
    abbrev pub start : State Marked
    start = state_by Before s

    here_runners : (rs : List (Runner Position)) → map (runner_by here) (map (runner_by Before) rs) ≡ rs
    here_runners [] = refl
    here_runners (r ∷ rs) = ap (λ l. r ∷ l) (here_runners rs)

    here_start : state_by here start ≡ s
    here_start = ap (λ rs. let u : State Position = record { store = s.store; tree = s.tree; runners = rs; fault = s.fault } in u) (here_runners s.runners)

    there_runners : (rs : List (Runner Position)) → map (runner_by there) (map (runner_by Before) rs) ≡ map (runner_by land) rs
    there_runners [] = refl
    there_runners (r ∷ rs) = ap (λ l. runner_by land r ∷ l) (there_runners rs)

    there_start : state_by there start ≡ landed_state core s
    there_start = ap (λ rs. let u : State Position = record { store = s.store; tree = s.tree; runners = rs; fault = s.fault } in u) (there_runners s.runners)

    abbrev pub ended : State Marked
    ended = result marked_next setting round start

    -- both rounds are rounds of what is marked
    pub here_is : result (next core) setting round s ≡ state_by here ended
    here_is = ap (result (next core) setting round) (sym here_start) ∙ results marked_next (next core) setting here next_here round start

    pub there_is : result (next core) setting round (landed_state core s) ≡ state_by there ended
    there_is = ap (result (next core) setting round) (sym there_start) ∙ results marked_next (next core) setting there next_there round start

    module _ (single : IsSingle round) (possible : is_possible (next core) setting round s ≡ true) where
      marked_possible : is_possible marked_next setting round start ≡ true
      marked_possible =
          sym (possible_alike marked_next (next core) setting here next_here round start)
          ∙ ap (is_possible (next core) setting round) here_start ∙ possible

      -- a processor that wasn't in the round, or had nothing left to do, is where it was
      pub record Stays (h : ℕ) (r : Runner Position) (m : Runner Marked) : Type 0 where
        pub idle : (slice_index round h ≡ 0) ⊎ (next core r.left ≡ None)
        pub left : m.left ≡ Before r.left

      -- or has gone on behind its operation
      pub record Went (h : ℕ) (r : Runner Position) (m : Runner Marked) : Type 0 where
        pub one : slice_index round h ≡ 1
        pub step : Step Position
        pub onward : Bool
        pub next_is : next core r.left ≡ Some step
        pub left : m.left ≡ Behind (step.rest onward)

      abbrev pub Goes : (h : ℕ) → Runner Position → Runner Marked → Type 0
      Goes h r m = Stays h r m ⊎ Went h r m

      no_step : (due : Option (Step Position)) → option_map (step_by Behind) due ≡ None → due ≡ None
      no_step None e = refl
      no_step (Some step) e = absurd (cc)

      the_step : (due : Option (Step Position)) (step : Step Marked) → option_map (step_by Behind) due ≡ Some step → (x : Step Position) × (due ≡ Some x) × (step_by Behind x ≡ step)
      the_step None step e = absurd (cc)
      the_step (Some x) step e = (x, refl, first_is (step_by Behind x) step e)

      goes_at : (h : ℕ) (r : Runner Position) (m : Runner Marked) (a : Acts marked_next setting round start single marked_possible h) → a.runner ≡ runner_by Before r
          → m ≡ settled_by (stepping marked_next setting round start) s.tree
          (all_changes (stepping marked_next setting round start) s.tree (stepping marked_next setting round start) s.tree) a.acting.runner a.acting.due
          → Goes h r m
      goes_at h r m a runner settles =
          let actors = stepping marked_next setting round start in
          let new = all_changes actors s.tree actors s.tree in
          let count = counts_as marked_next setting round start single marked_possible h a in
          let left : a.runner.left ≡ Before r.left = ap (λ (q : Runner Marked). q.left) runner in
          ⊎_elim
          (λ idle. inl (record {
            idle = ⊎_elim (λ zero_is. inl (count ∙ zero_is)) (λ none. inr (no_step (next core r.left) (sym (ap marked_next left) ∙ none))) idle.1;
            left = ap (λ (q : Runner Marked). q.left) settles ∙ ap (λ (b : Acting Marked). (settled_by actors s.tree new b.runner b.due).left) idle.0 ∙ left;
          }))
          (λ busy. inr (⊎_elim
          (λ moved.
          let x = the_step (next core r.left) moved.step (sym (ap marked_next left) ∙ moved.next_is) in
          record {
            one = count ∙ busy.0;
            step = x.0;
            onward = moved.onward;
            next_is = x.1;
            left = ap (λ (q : Runner Marked). q.left) settles ∙ ap (λ (due : Option (Step Marked)). (settled_by actors s.tree new a.acting.runner due).left) moved.due
                ∙ moved.left ∙ sym (ap (λ (y : Step Marked). y.rest moved.onward) x.2);
          })
          (λ d.
          let x = the_step (next core r.left) d.step (sym (ap marked_next left) ∙ d.next_is) in
          let ms = trees.members s.tree (s.tree.places a.runner.has.number) in
          let onward = goes_onward d.step.operation (agreed actors ms) (lowest ms) a.runner.has in
          record {
            one = count ∙ busy.0;
            step = x.0;
            onward = onward;
            next_is = x.1;
            left = ap (λ (q : Runner Marked). q.left) settles ∙ ap (λ (b : Acting Marked). (settled_by actors s.tree new b.runner b.due).left) d.is
                ∙ sym (ap (λ (y : Step Marked). y.rest onward) x.2);
          })
          busy.1))
          a.comes

      pub goes : (h : ℕ) (r : Runner Position) → h < length s.runners → slice_get s.runners h ≡ Some r → (m : Runner Marked) × (slice_get ended.runners h ≡ Some m) × Goes h r m
      goes h r lt at =
          let actors = stepping marked_next setting round start in
          let new = all_changes actors s.tree actors s.tree in
          let long = length-map s.runners (runner_by Before) in
          let a = acts marked_next setting round start single marked_possible h (omega (arith, lt, long)) in
          let runner : a.runner ≡ runner_by Before r = first_is a.runner (runner_by Before r) (sym a.is ∙ map_at (runner_by Before) s.runners h r at) in
          let m = settled_by actors s.tree new a.acting.runner a.acting.due in (
            m,
            ap (λ (u : State Marked). slice_get u.runners h) (result_is marked_next setting round start single marked_possible) ∙ settled_at actors s.tree new actors h a.acting a.at,
            goes_at h r m a runner refl,
          )
