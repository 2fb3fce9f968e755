use Rattle.std.proofs.Common.{ℕ, List, Result, Ok, Err, inr, ◌⊎◌}
use Rattle.std.specs.Prelude.{IfOk}
use Rattle.std.specs.declared.alloc.AllocError.{AllocError}
use Rattle.fk_image.specs.declared.Image.{Image}
use Rattle.fk_compile.specs.Faithful.{IsFaithful}
use Rattle.fk_top.specs.declared.ending.Ending.{Ending}
use Rattle.fk_top.specs.Ending.{outcome_of}
use Rattle.fk_top.specs.Outcome.{AuditsSource, EndsAudit, RefusesSource}
use Rattle.fk_top.proofs.Refusing.{refusing}
use Rattle.fk_top.proofs.source.audit_source.Goals as goal

-- what comes of an image of a source comes of the source
audits : (r : Result Ending AllocError) (source text : List ℕ) (image : Image) (p n : ℕ) → IsFaithful source image → IfOk r (λ e. EndsAudit image text p n (outcome_of e))
    → IfOk r (λ e. RefusesSource source (outcome_of e) ⊎ AuditsSource source text p n (outcome_of e))
audits (Ok e) source text image p n compiled ends = inr (record { image = image; compiled = compiled; ends = ends })
audits (Err e) source text image p n compiled ends = tt

pub audit_ending-requires : goal.audit_ending-requires
audit_ending-requires c = record { limits = c.in-Ok.ensures.faithful.faithful.limits }

pub returns-in-Ok : goal.returns-in-Ok
returns-in-Ok c = audits c.audit_ending.result c.args.source.now c.args.text.now c.in-Ok.compiled.image _ _ c.in-Ok.ensures.faithful c.audit_ending.ensures

pub returns-in-Err : goal.returns-in-Err
returns-in-Err c =
    refusing c.args.source.now c.in-Err.refusal c.last_line_of.result c.refused_source.result _ c.in-Err.ensures.refused c.last_line_of.ensures c.refused_source.ensures
