-- Knowledge is enough in every run.
use Rattle.std.proofs.Common.{◌≡◌, ℕ, zero, suc, true, List, [], Some, sym, ap, ◌∙◌, subst}
use Rattle.fk_meaning_operation.specs.declared.kinds.Class.TheVariants.{Local, Request, Tree}
use Rattle.fk_meaning_operation.specs.Kinds.{class_of}
use Rattle.fk_num.specs.Word.{Memory}
use Rattle.fk_meaning_store.specs.Store.{Store}
use Rattle.fk_meaning_store.specs.Serve.{Served, serve}
use Rattle.fk_space.specs.Space.{IsSpace}
use Rattle.fk_meaning.specs.Processor.{Processor, Setting, setting_of, group_space}
use Rattle.fk_meaning.specs.Local.{local, is_onward}
use Rattle.fk_meaning.specs.Request.{request, with_answer}
use Rattle.fk_meaning.specs.Group.{does, goes_onward, has_room}
use Rattle.fk_meaning.specs.Round.{Step, Runner}
use Rattle.fk_meaning.specs.Schedule.{beginners, first_processor}
use Rattle.fk_core.specs.declared.op.CoreOp.{CoreOp}
use Rattle.fk_core.specs.Next.{Position, position, landing, next, list_opening}
use Rattle.fk_core_liveness.specs.declared.places.FunctionKind.{FunctionKind}
use Rattle.fk_core_typing.specs.LocalAddresses.{HasKnowledge, KnowledgeIsEnough, Fits}
use Rattle.fk_core_typing.specs.AddressValues.{no_constants}
use Rattle.fk_core_typing.proofs.AddressValues.{nothing, no_constant, fewer_constants}
use Rattle.fk_core_typing.proofs.AddressSteps.{Waits, Stands, lands, by_local, by_request, by_tree, may_do}
use Rattle.fk_lockstep_frames.specs.Nests.{Nest}
use Rattle.fk_lockstep_frames.specs.Lists.{HasLocalFrames}
use Rattle.fk_lockstep_frames.proofs.Found.{Found, found}
use Rattle.fk_lockstep_frames.proofs.Rounds.{AllAre, all_at, RunnerFits, runs}
use Rattle.fk_lockstep_frames.proofs.Lists.{FitsList, list_local, list_request, list_tree, usable_at, begins_list}

module _ (core : List CoreOp) (main : ℕ) (local_frames : HasLocalFrames core main) (known : HasKnowledge core main local_frames.nests) where
  abbrev nests : ℕ → List Nest
  nests = local_frames.nests

  abbrev StandsAt : Position → Processor → Type 0
  StandsAt left p = Stands core main nests known left.at left.callers p

  fitting : (left : Position) (step : Step Position) (x : Found core left step) → Fits core nests known.within known.known known.constants (landing core left.at) x.op.target x.operation
  fitting left step x = known.fits (landing core left.at) x.op x.operation x.stands x.reads

  landed : (left : Position) (p : Processor) → StandsAt left p → Stands core main nests known (landing core left.at) left.callers p
  landed left p stands = lands core main nests known left.at left.callers p stands

  abbrev FitsAt : Position → Processor → Type 0
  FitsAt left p = StandsAt left p × FitsList core main local_frames left p

  after_local : (set : Setting) (left : Position) (p : Processor) (step : Step Position) → FitsAt left p → next core left ≡ Some step
      → class_of step.operation ≡ Local → FitsAt (step.rest (is_onward step.operation p)) (local set step.operation p)
  after_local set left p step fits due e =
      let x = found core left step due in (
        subst (λ (s : Step Position). StandsAt (s.rest (is_onward s.operation p)) (local set s.operation p)) (sym x.is)
            (by_local core main nests known (landing core left.at) x.op.target left.callers p (landed left p fits.0) set x.operation (fitting left step x)
            (sym (ap (λ (s : Step Position). class_of s.operation) x.is) ∙ e)
            (λ nesting offset has. usable_at core main local_frames set left p nesting offset fits.1 has)),
        list_local core main local_frames set left p step fits.1 due e,
      )

  after_request : (s s' : Store) (v : ℕ) (left : Position) (p : Processor) (step : Step Position) → FitsAt left p → next core left ≡ Some step
      → class_of step.operation ≡ Request → serve (request step.operation p) s p.number ≡ Served s' v → FitsAt (step.rest true) (with_answer step.operation v p)
  after_request s s' v left p step fits due e served =
      let x = found core left step due in (
        subst (λ (t : Step Position). StandsAt (t.rest true) (with_answer t.operation v p)) (sym x.is)
            (by_request core main nests known (landing core left.at) x.op.target left.callers p (landed left p fits.0) s s' v x.operation (fitting left step x)
            (sym (ap (λ (t : Step Position). class_of t.operation) x.is) ∙ e)
            (sym (ap (λ (t : Step Position). serve (request t.operation p) s p.number) x.is) ∙ served)),
        list_request core main local_frames s s' v left p step fits.1 due e served,
      )

  after_tree : (highest lowest size : ℕ) (left : Position) (p : Processor) (step : Step Position) → FitsAt left p → next core left ≡ Some step
      → class_of step.operation ≡ Tree → has_room step.operation p ≡ true → FitsAt (step.rest (goes_onward step.operation highest lowest p)) (does step.operation highest size p)
  after_tree highest lowest size left p step fits due e room =
      let x = found core left step due in (
        subst (λ (s : Step Position). StandsAt (s.rest (goes_onward s.operation highest lowest p)) (does s.operation highest size p)) (sym x.is)
            (by_tree core main nests known (landing core left.at) x.op.target left.callers p (landed left p fits.0) highest lowest size x.operation (fitting left step x)
            (sym (ap (λ (s : Step Position). class_of s.operation) x.is) ∙ e)),
        list_tree core main local_frames highest lowest size left p step fits.1 due e room,
      )

  abbrev AllStand : List (Runner Position) → Type 0
  AllStand rs = AllAre (RunnerFits (next core) FitsAt after_local after_request after_tree) rs

  first : (set : Setting) (firsts : Memory) (h count : ℕ) → IsSpace (group_space set) → AllStand (beginners set firsts (position main []) h count)
  first set firsts h zero space = tt
  first set firsts h (suc count) space = ((begins, begins_list core main local_frames set firsts h space), first set firsts (suc h) count space)
    where
      begins : Stands core main nests known main [] (first_processor set firsts h)
      begins = record {
        knows = λ shared_alone. nothing shared_alone (known.known shared_alone main) [] (let none = known.begins.nothing in none.addresses shared_alone);
        constants = fewer_constants _ (known.constants main) no_constants [] (let none = known.begins.nothing in none.same) (no_constant _ []);
        waits = subst (λ (place : FunctionKind). Waits core main nests known place [] []) (sym known.begins.inside) tt;
      }

pub knowledge_is_enough : KnowledgeIsEnough
knowledge_is_enough core main local_frames known words firsts input p schedule space h r op operation here stands reads =
    let set = setting_of p words input in
    let start = list_opening main words firsts input p in
    let at = FitsAt core main local_frames known in
    let local' = after_local core main local_frames known in
    let request' = after_request core main local_frames known in
    let tree' = after_tree core main local_frames known in
    let all = runs (next core) at local' request' tree' set schedule start (first core main local_frames known set _ 0 p space) in
    let fits = all_at (RunnerFits (next core) at local' request' tree') _ h r all here in
    may_do core main local_frames.nests known r (landing core r.left.at) op.target operation
    (landed core main local_frames known r.left r.has fits.0) fits.1.1.spaces.0.space (known.fits (landing core r.left.at) op operation stands reads)
