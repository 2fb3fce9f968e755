use Rattle.std.proofs.Common.{[], codes}
use Rattle.clap.specs.Simple.{App, with_subcommand}
use Rattle.fk_top_words.specs.Written.{run_parts, put_parts, exec_parts, list_parts, written_command, written_replay, written_top}
use Rattle.fk_top_words.proofs.commands.commands.Goals as goal

pub returns : goal.returns
returns c =
    let top : App = record { top = written_top; subs = [] } in
    let run : App = with_subcommand top (written_command (codes "run") run_parts) in
    let build : App = with_subcommand run (written_command (codes "build") put_parts) in
    let exec : App = with_subcommand build (written_command (codes "exec") exec_parts) in
    let list : App = with_subcommand exec (written_command (codes "list") list_parts) in
    let elf : App = with_subcommand list (written_command (codes "elf") put_parts) in
    let unelf : App = with_subcommand elf (written_command (codes "unelf") put_parts) in
    let audit : App = with_subcommand unelf (written_command (codes "audit") exec_parts) in
    let trace : App = with_subcommand audit (written_command (codes "trace") exec_parts) in
    let replay : App = with_subcommand trace written_replay in
    let selftest : App = with_subcommand replay (written_command (codes "selftest") list_parts) in
    c.holding.ensures selftest (written_command (codes "locks") [])
    (c.holding-runs-4.ensures replay (written_command (codes "selftest") list_parts)
    (c.holding-runs-3.ensures trace written_replay
    (c.holding-runs-2.ensures audit (written_command (codes "trace") exec_parts)
    (c.holding-runs.ensures unelf (written_command (codes "audit") exec_parts)
    (c.holding-files-2.ensures elf (written_command (codes "unelf") put_parts)
    (c.holding-files.ensures list (written_command (codes "elf") put_parts)
    (c.holding-images-2.ensures exec (written_command (codes "list") list_parts)
    (c.holding-images.ensures build (written_command (codes "exec") exec_parts)
    (c.holding-sources-2.ensures run (written_command (codes "build") put_parts)
    (c.holding-sources.ensures top (written_command (codes "run") run_parts) c.program.ensures c.run.ensures) c.putting.ensures) c.running.ensures) c.reading.ensures) c.putting-2.ensures) c.putting-3.ensures) c.running-2.ensures) c.running-3.ensures) c.replaying.ensures) c.reading-2.ensures) c.bare.ensures
