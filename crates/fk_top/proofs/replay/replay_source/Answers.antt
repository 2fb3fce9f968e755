use Rattle.std.proofs.Common.{ℕ, ◌≤◌, List, Result, Ok, Err, inr, length, ◌⊎◌}
use Rattle.std.specs.Prelude.{IfOk}
use Rattle.std.specs.declared.alloc.AllocError.{AllocError}
use Rattle.fk_num.specs.Limits.{most_text_bytes}
use Rattle.fk_syntax.specs.declared.facts.Facts.{Facts}
use Rattle.fk_syntax.specs.Program.{ProgramTree}
use Rattle.fk_syntax.specs.ProgramView.{program_of}
use Rattle.fk_layout.specs.Layout.{tables_by}
use Rattle.fk_layout.specs.Refusal.{Fits}
use Rattle.fk_compile_text.specs.Text.{IsChecked}
use Rattle.fk_top.specs.declared.ending.Ending.{Ending}
use Rattle.fk_top.specs.Ending.{outcome_of}
use Rattle.fk_top.specs.Outcome.{EndsReplay, RefusesSource, ReplaysSource}
use Rattle.fk_top.proofs.Refusing.{refusing}
use Rattle.fk_top.proofs.replay.replay_source.Goals as goal

-- what comes of a source's program comes of the source
replays : (r : Result Ending AllocError) (source bytes text : List ℕ) (program : ProgramTree) (facts : Facts) → length source ≤ most_text_bytes → IsChecked source program facts → Fits (tables_by program facts) program.items
    → IfOk r (λ e. EndsReplay program facts bytes text (outcome_of e)) → IfOk r (λ e. RefusesSource source (outcome_of e) ⊎ ReplaysSource source bytes text (outcome_of e))
replays (Ok e) source bytes text program facts short checked fits ends =
    inr (record { short = short; program = program; facts = facts; checked = checked; fits = fits; ends = ends })
replays (Err e) source bytes text program facts short checked fits ends = tt

pub returns-in-Ok : goal.returns-in-Ok
returns-in-Ok c =
    let text = c.in-Ok.listed.text in
    replays c.replay_listed.result c.args.source.now c.args.bytes.now c.args.text.now (program_of text.tree) text.facts c.in-Ok.ensures.short c.in-Ok.ensures.checked c.in-Ok.ensures.fits c.replay_listed.ensures

pub returns-in-Err : goal.returns-in-Err
returns-in-Err c =
    refusing c.args.source.now c.in-Err.refusal c.last_line_of.result c.refused_source.result _ c.in-Err.ensures.refused c.last_line_of.ensures c.refused_source.ensures
