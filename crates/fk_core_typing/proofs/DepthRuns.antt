-- Runs keep the values of processors.
use Rattle.std.proofs.Common.{◌≡◌, ℕ, zero, suc, true, List, [], Some, sym, ap, ◌∙◌, subst}
use Rattle.fk_meaning_operation.specs.declared.kinds.Class.TheVariants.{Local, Request, Tree}
use Rattle.fk_meaning_operation.specs.Kinds.{class_of}
use Rattle.fk_num.specs.Word.{Memory}
use Rattle.fk_meaning_store.specs.Store.{Store}
use Rattle.fk_meaning_store.specs.Serve.{Served, serve}
use Rattle.fk_meaning.specs.Processor.{Processor, Setting, setting_of}
use Rattle.fk_meaning.specs.Local.{local, is_onward}
use Rattle.fk_meaning.specs.Request.{request, with_answer}
use Rattle.fk_meaning.specs.Group.{does, goes_onward, has_room}
use Rattle.fk_meaning.specs.Round.{Step, Runner}
use Rattle.fk_meaning.specs.Schedule.{beginners}
use Rattle.fk_core.specs.declared.op.CoreOp.{CoreOp}
use Rattle.fk_core.specs.Next.{Position, position, landing, next, list_opening}
use Rattle.fk_core_typing.specs.declared.places.Within.{Within}
use Rattle.fk_core_typing.specs.declared.places.Within.TheVariants.{Main}
use Rattle.fk_core_typing.specs.LocalDepths.{GoesOn, HasLocalDepths, LocalDepthsAreDepths}
use Rattle.fk_core_typing.proofs.DepthSteps.{Fits, Ready, by_local, by_request, by_tree}
use Rattle.fk_lockstep_frames.proofs.Found.{Found, found}
use Rattle.fk_lockstep_frames.proofs.Rounds.{AllAre, all_at, RunnerFits, runs}

module _ (core : List CoreOp) (main : ℕ) (local_depths : HasLocalDepths core main) where
  abbrev FitsAt : Position → Processor → Type 0
  FitsAt left p = Fits core local_depths.within left p

  ready : (left : Position) (step : Step Position) (f : Found core left step) (p : Processor) → FitsAt left p
      → Ready core local_depths.within f.operation (landing core left.at) f.op.target left.callers p
  ready left step f p fits =
      let here = fits.comes f.op f.stands in
      record {
        place = fits.place;
        depth = f.op.depth;
        count = here.0;
        enough = (local_depths.fits (landing core left.at) f.op f.operation f.stands f.reads).0;
        on = subst (λ (place : Within). GoesOn core local_depths.within f.operation (landing core left.at) f.op.target f.op.depth place) here.1
            (local_depths.fits (landing core left.at) f.op f.operation f.stands f.reads).1;
        waits = fits.waits;
      }

  after_local : (set : Setting) (left : Position) (p : Processor) (step : Step Position) → FitsAt left p → next core left ≡ Some step
      → class_of step.operation ≡ Local → FitsAt (step.rest (is_onward step.operation p)) (local set step.operation p)
  after_local set left p step fits due e =
      let x = found core left step due in
      subst (λ (s : Step Position). FitsAt (s.rest (is_onward s.operation p)) (local set s.operation p)) (sym x.is)
      (by_local core local_depths.within (landing core left.at) x.op.target left.callers p set x.operation (ready left step x p fits)
      (sym (ap (λ (s : Step Position). class_of s.operation) x.is) ∙ e))

  after_request : (s s' : Store) (v : ℕ) (left : Position) (p : Processor) (step : Step Position) → FitsAt left p → next core left ≡ Some step
      → class_of step.operation ≡ Request → serve (request step.operation p) s p.number ≡ Served s' v → FitsAt (step.rest true) (with_answer step.operation v p)
  after_request s s' v left p step fits due e served =
      let x = found core left step due in
      subst (λ (t : Step Position). FitsAt (t.rest true) (with_answer t.operation v p)) (sym x.is)
      (by_request core local_depths.within (landing core left.at) x.op.target left.callers p v x.operation (ready left step x p fits)
      (sym (ap (λ (t : Step Position). class_of t.operation) x.is) ∙ e))

  after_tree : (highest lowest size : ℕ) (left : Position) (p : Processor) (step : Step Position) → FitsAt left p → next core left ≡ Some step
      → class_of step.operation ≡ Tree → has_room step.operation p ≡ true → FitsAt (step.rest (goes_onward step.operation highest lowest p)) (does step.operation highest size p)
  after_tree highest lowest size left p step fits due e room =
      let x = found core left step due in
      subst (λ (s : Step Position). FitsAt (s.rest (goes_onward s.operation highest lowest p)) (does s.operation highest size p)) (sym x.is)
      (by_tree core local_depths.within (landing core left.at) x.op.target left.callers p highest lowest size x.operation (ready left step x p fits)
      (sym (ap (λ (s : Step Position). class_of s.operation) x.is) ∙ e))

  abbrev AllFit : List (Runner Position) → Type 0
  AllFit rs = AllAre (RunnerFits (next core) FitsAt after_local after_request after_tree) rs

  first : (set : Setting) (firsts : Memory) (h count : ℕ) → AllFit (beginners set firsts (position main []) h count)
  first set firsts h zero = tt
  first set firsts h (suc count) = (record { place = Main; comes = local_depths.begins; waits = tt }, first set firsts (suc h) count)

pub local_depths_are_depths : LocalDepthsAreDepths
local_depths_are_depths core main local_depths words firsts input p schedule possible fault h r op here stands =
    let set = setting_of p words input in
    let start = list_opening main words firsts input p in
    let at = FitsAt core main local_depths in
    let local' = after_local core main local_depths in
    let request' = after_request core main local_depths in
    let tree' = after_tree core main local_depths in
    let all = runs (next core) at local' request' tree' set schedule start (first core main local_depths set _ 0 p) in
    let fits = all_at (RunnerFits (next core) at local' request' tree') _ h r all here in
    let comes = fits.comes op stands in
    comes.0
