-- Those who begin the group of a `start`, and those who wait for it.
use Rattle.std.proofs.Common.{◌≡◌, ℕ, suc, Bool, true, false, List, [], ◌∷◌, Some, refl, sym, ap, ◌∙◌, subst}
use Rattle.std.specs.Prelude.{slice_get}
use Rattle.fk_meaning_operation.specs.Kinds.{joint_of}
use Rattle.fk_meaning_operation.specs.declared.kinds.Joint.{Joint}
use Rattle.fk_meaning_operation.specs.declared.kinds.Joint.TheVariants as joint
use Rattle.fk_meaning_operation.specs.declared.operation.Operation.{Operation}
use Rattle.fk_meaning_operation.specs.declared.operation.Operation.TheVariants as o
use Rattle.fk_tree.specs.Tree as trees
use Rattle.fk_meaning.specs.Round.{Runner}
use Rattle.fk_core.specs.declared.op.CoreOp.{CoreOp}
use Rattle.fk_core.specs.Next.{Position, landing, next}
use Rattle.fk_lockstep_tree.specs.Where.{Where, InRoot, Waits, InGroup, InBody, BehindBody, goes}
use Rattle.fk_lockstep_frames.proofs.Found.{found}
use Rattle.fk_lockstep_tree.specs.Ranges.{ranges_of}
use Rattle.fk_lockstep_tree.proofs.Moves.{goes_on}
use Rattle.fk_lockstep_tree.proofs.Waiters.{waiters_resume}
use Rattle.fk_sim_match.specs.Stage.{Unites}
use Rattle.fk_sim_match.specs.Rounds.{joint_at_word, ending_of}
use Rattle.fk_sim_rounds.proofs.Way.{no_jump}
use Rattle.fk_sim_rounds.specs.Union.{AllLandAt}
use Rattle.fk_sim_runs.specs.Begins.{UnitersBegin, ReachedBeginnersAreInRoot, ReachedBeginnersLandAtOneIndex, ReachedWaitersResume}
use Rattle.fk_sim_runs.proofs.Root.{at_node_0, in_root}

begins_there : (place : Where) (onward : Bool) (to : Where) → goes place o.Begin onward ≡ Some to → place ≡ InRoot
begins_there InRoot onward to e = refl
begins_there (Waits n) onward to e = absurd (cc)
begins_there (InGroup n) onward to e = absurd (cc)
begins_there (InBody n) onward to e = absurd (cc)
begins_there (BehindBody n) onward to e = absurd (cc)

pub reached_beginners_are_in_root : ReachedBeginnersAreInRoot
reached_beginners_are_in_root core nestings main setting s h p list is at begins =
    let placed = is.stands.tree.placed h p.runner at in
    let to = goes_on (next core) placed.place p.runner.left begins.0 placed.goes begins.1 true in
    let place = begins_there placed.place true to.0 (subst (λ (op : Operation). goes placed.place op true ≡ Some to.0) begins.2 to.1) in
    let f = found core p.runner.left begins.0 begins.1 in
    in_root core nestings setting s h p is at f.op f.operation (record { stands = f.stands; no_jump = no_jump f.op f.operation f.reads; is_read = f.reads }) (at_node_0 core nestings setting s h p is at place)

land_alike : (core : List CoreOp) (w : Position) (rs : List (Runner Position)) → ((h : ℕ) (r : Runner Position) → slice_get rs h ≡ Some r → landing core r.left.at ≡ landing core w.at) → AllLandAt core (landing core w.at) rs
land_alike core w [] each = tt
land_alike core w (r ∷ rs) each = (each 0 r refl, land_alike core w rs (λ h q at. each (suc h) q at))

unites_to_start : (j : Joint) → Unites ≡ ending_of j → j ≡ joint.Starting
unites_to_start joint.Starting e = refl
unites_to_start joint.Alone e = absurd (cc)
unites_to_start joint.AtBarrier e = absurd (cc)
unites_to_start joint.Closing e = absurd (cc)
unites_to_start joint.Resuming e = absurd (cc)

starts_by : (op : Operation) → joint_of op ≡ joint.Starting → op ≡ o.Begin
starts_by o.Begin e = refl
starts_by o.Resume e = absurd (cc)
starts_by (o.Meet true) e = absurd (cc)
starts_by (o.Meet false) e = absurd (cc)
starts_by op e = absurd (cc)

pub uniters_begin : UnitersBegin
uniters_begin core tree spaces g w f r due =
    let m = due.1 in
    (m.step, m.next_is, starts_by m.step.operation (m.joint ∙ unites_to_start (joint_at_word g (trees.kind tree g) m.offset) m.ends))

pub reached_beginners_land_at_one_index : ReachedBeginnersLandAtOneIndex
reached_beginners_land_at_one_index core nestings setting s is all = by s.runners refl
  where
    by : (rs : List (Runner Position)) → s.runners ≡ rs → (i : ℕ) × AllLandAt core i s.runners
    by [] e = (0, subst (AllLandAt core 0) (sym e) tt)
    by (q ∷ rs) e =
        let first : slice_get s.runners 0 ≡ Some q = ap (λ (l : List (Runner Position)). slice_get l 0) e in
        let b = all 0 q first in (
          landing core q.left.at,
          land_alike core q.left s.runners (λ h r at. let a = all h r at in is.stands.beginners h 0 r q a.0 b.0 at first a.1 b.1 a.2 b.2),
        )

pub reached_waiters_resume : ReachedWaitersResume
reached_waiters_resume core nestings setting s h first parts r step is kind at e =
    ap joint_of (waiters_resume Position (next core) setting (ranges_of s) s h first parts r step is.stands.tree kind at e)
