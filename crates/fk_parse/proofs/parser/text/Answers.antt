use Rattle.std.proofs.Common.{rules, arith}
use Rattle.fk_parse.proofs.Programs.{items_tell, rest_tells}
use Rattle.fk_parse.proofs.parser.text.Goals as goal

pub returns-in_err-items-clause-refused : goal.returns-in_err-items-clause-refused
returns-in_err-items-clause-refused c =
    let r = items_tell _ _ _ c.in_err-items.ensures.read in
    search rules

pub returns-then-len-gt0-clause-refused : goal.returns-then-len-gt0-clause-refused
returns-then-len-gt0-clause-refused c =
    let r = rest_tells _ _ _ _ c.in_ok-items.ensures.read (omega arith) c.unexpected.ensures.fault in
    search rules
