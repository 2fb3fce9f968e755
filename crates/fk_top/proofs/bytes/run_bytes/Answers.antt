use Rattle.std.proofs.Common.{ℕ, List, None, Result, Ok, Err, inr, ◌⊎◌}
use Rattle.std.specs.Prelude.{IfOk}
use Rattle.std.specs.declared.alloc.AllocError.{AllocError}
use Rattle.fk_image.specs.declared.Image.{Image}
use Rattle.fk_image.specs.Spelling.{IsImageOf}
use Rattle.fk_top.specs.declared.ending.Ending.{Ending}
use Rattle.fk_top.specs.Ending.{outcome_of}
use Rattle.fk_top.specs.Outcome.{Prints, EndsOn, RefusesImage, RunsImage}
use Rattle.fk_top.proofs.Refusing.{refusing_image}
use Rattle.fk_top.proofs.bytes.run_bytes.Goals as goal

runs : (r : Result Ending AllocError) (bytes text : List ℕ) (image : Image) (p n : ℕ) → IsImageOf bytes image → IfOk r (λ e. EndsOn image text p n (Prints None) (outcome_of e))
    → IfOk r (λ e. RefusesImage bytes (outcome_of e) ⊎ RunsImage bytes text p n (outcome_of e))
runs (Ok e) bytes text image p n spelled ends = inr (record { image = image; spelled = spelled; ends = ends })
runs (Err e) bytes text image p n spelled ends = tt

pub returns-in-Ok : goal.returns-in-Ok
returns-in-Ok c = runs _ _ _ c.in-Ok.image _ _ c.in-Ok.ensures.image c.run_ending.ensures

pub returns-in-Err : goal.returns-in-Err
returns-in-Err c =
    refusing_image c.args.bytes.now c.in-Err.fault c.image_report_of.result c.refused.result _ c.in-Err.ensures.fault c.image_report_of.ensures c.refused.ensures
