use Rattle.std.proofs.Common.{codes}
use Rattle.fk_top_words.specs.Written.{leaf, list_parts, trace_rule}
use Rattle.fk_top_words.proofs.commands.replaying.Goals as goal

pub returns : goal.returns
returns c = c.taking.ensures (leaf (codes "replay") list_parts) trace_rule c.trace.ensures.rule c.reading.ensures
