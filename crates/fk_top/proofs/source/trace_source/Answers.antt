use Rattle.std.proofs.Common.{ℕ, List, Result, Ok, Err, inr, ◌⊎◌}
use Rattle.std.specs.Prelude.{IfOk}
use Rattle.std.specs.declared.alloc.AllocError.{AllocError}
use Rattle.fk_image.specs.declared.Image.{Image}
use Rattle.fk_compile.specs.Faithful.{IsFaithful}
use Rattle.fk_compile.specs.Events.{TellsEvents}
use Rattle.fk_top.specs.declared.ending.Ending.{Ending}
use Rattle.fk_top.specs.Ending.{outcome_of}
use Rattle.fk_top.specs.Outcome.{Traces, EndsOn, RefusesSource, TracesSource}
use Rattle.fk_top.proofs.Refusing.{refusing}
use Rattle.fk_top.proofs.source.trace_source.Goals as goal

traces : (r : Result Ending AllocError) (source text : List ℕ) (image : Image) (p n : ℕ) → IsFaithful source image → TellsEvents source image → IfOk r (λ e. EndsOn image text p n Traces (outcome_of e))
    → IfOk r (λ e. RefusesSource source (outcome_of e) ⊎ TracesSource source text p n (outcome_of e))
traces (Ok e) source text image p n compiled events ends = inr (record { image = image; compiled = compiled; events = events; ends = ends })
traces (Err e) source text image p n compiled events ends = tt

pub run_ending-requires : goal.run_ending-requires
run_ending-requires c = record { limits = c.in-Ok.ensures.faithful.faithful.limits }

pub returns-in-Ok : goal.returns-in-Ok
returns-in-Ok c = traces c.run_ending.result c.args.source.now c.args.text.now c.in-Ok.compiled.image _ _ c.in-Ok.ensures.faithful c.in-Ok.ensures.events c.run_ending.ensures

pub returns-in-Err : goal.returns-in-Err
returns-in-Err c =
    refusing c.args.source.now c.in-Err.refusal c.last_line_of.result c.refused_source.result _ c.in-Err.ensures.refused c.last_line_of.ensures c.refused_source.ensures
