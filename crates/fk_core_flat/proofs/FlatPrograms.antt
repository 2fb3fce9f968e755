-- A program and its flat list have the same runs.
use Rattle.fk_core.proofs.KeepsRuns.{flat_lists_keep_runs}
use Rattle.fk_core_flat.proofs.FlatCode.{flat_lists_have_code}
use Rattle.fk_core_flat.specs.Runs.{FlatProgramsKeepRuns}
use Rattle.fk_core_flat.proofs.Programs.{forms_are_shaped}

pub flat_programs_keep_runs : FlatProgramsKeepRuns
flat_programs_keep_runs tables program core entry fits is_flat =
    flat_lists_keep_runs tables program core entry (flat_lists_have_code tables program core entry (forms_are_shaped tables program fits) is_flat)
