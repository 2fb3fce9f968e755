use Rattle.std.proofs.Common.{◌-◌, length, sym, arith}
use Rattle.fk_parse.specs.Parses.{beginning}
use Rattle.fk_parse.proofs.Programs.{end_of-last, end_fits, last_fits}
use Rattle.fk_parse.proofs.parser.end.Goals as goal

pub overflow_cast-result : goal.overflow_cast-result
overflow_cast-result c =
    last_fits c.args.tokens.now (length c.args.tokens.now - 1) _ (omega arith) c.requires

pub overflow_add-result : goal.overflow_add-result
overflow_add-result c =
    end_fits c.args.tokens.now (length c.args.tokens.now - 1) _ (omega arith) c.requires

pub returns-in-len1-up : goal.returns-in-len1-up
returns-in-len1-up c = sym (end_of-last beginning c.args.tokens.now (length c.args.tokens.now - 1) _ (omega arith))
