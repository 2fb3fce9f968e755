use Rattle.std.proofs.Common.{◌∙◌, map, string_bytes, sym}
use Rattle.std.proofs.lemmas.Result.{IfOk-weaker, IfErr-weaker}
use Rattle.clap.specs.Simple.{app_of, subcommand_rows_of}
use Rattle.fk_top_words.specs.Command.{command_of}
use Rattle.fk_top_words.proofs.Whole.{are_texts, asks_read, only_memory, reads_asked}
use Rattle.fk_top_words.proofs.reading.read_words.Goals as goal

pub returns-in-Ok-clause-reads : goal.returns-in-Ok-clause-reads
returns-in-Ok-clause-reads c =
    IfOk-weaker c.asked.result _ _
    (λ x asks. reads_asked (map string_bytes c.args.words.now) (command_of x) (app_of c.in_ok-commands.field-0) (subcommand_rows_of c.in-Ok.matches) (are_texts c.args.words.now)
    c.in_ok-commands.ensures c.in-Ok.ensures.kinds (λ e. (c.in-Ok.ensures.matches e).1) asks)
    c.asked.ensures.some

pub returns-in-Ok-clause-usage : goal.returns-in-Ok-clause-usage
returns-in-Ok-clause-usage c =
    IfErr-weaker c.asked.result _ _
    (λ fault none usage command reads. none command
    (asks_read (map string_bytes c.args.words.now) command (app_of c.in_ok-commands.field-0) (subcommand_rows_of c.in-Ok.matches) c.in_ok-commands.ensures (λ e. (c.in-Ok.ensures.matches e).1) reads))
    c.asked.ensures.none

pub returns-in-Err-clause-usage : goal.returns-in-Err-clause-usage
returns-in-Err-clause-usage c =
    λ usage command reads.
    let memory = c.fault_of_kind.ensures.1
    (c.kind.ensures ∙ only_memory (map string_bytes c.args.words.now) command (app_of c.in_ok-commands.field-0) c.in-Err.error c.in_ok-commands.ensures c.in-Err.ensures.kinds reads) in
    let same = sym usage ∙ memory in
    cc
