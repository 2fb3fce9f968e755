-- A program and a list that has its code in it have the same runs.
use Rattle.std.proofs.Common.{[]}
use Rattle.std.specs.Prelude.{slice_index}
use Rattle.fk_meaning_forms.specs.Program.{bodies_of, main_of}
use Rattle.fk_meaning.proofs.Span.{alike_from}
use Rattle.fk_meaning.specs.Next as source
use Rattle.fk_meaning.specs.Next.{going}
use Rattle.fk_core.specs.Next.{position, next}
use Rattle.fk_core.specs.KeepsRuns.{FlatListsKeepRuns}
use Rattle.fk_core.proofs.Running.{IsAt, same_next, body_at}

pub flat_lists_keep_runs : FlatListsKeepRuns
flat_lists_keep_runs tables program core entry has words firsts input p setting schedule =
    let bodies = bodies_of tables program in
    let main = main_of tables program in
    alike_from (source.next bodies) (next core) setting (IsAt core entry has.leads_on bodies has.stands)
    (same_next core entry has.leads_on bodies has.stands) schedule p words input (slice_index firsts)
    (going (bodies main) []) (position (entry main) []) (body_at core entry has.leads_on bodies has.stands main)
