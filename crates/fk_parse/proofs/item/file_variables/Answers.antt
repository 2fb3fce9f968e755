use Rattle.std.proofs.Common.{ap}
use Rattle.std.specs.Option.{option_map}
use Rattle.fk_syntax.specs.View.{tree_of}
use Rattle.fk_syntax.specs.Program.{VariablesItem}
use Rattle.fk_parse.specs.Reading.{read_variables_tail}
use Rattle.fk_parse_declarations.specs.Reading.{read_rest}
use Rattle.fk_parse.proofs.item.file_variables.Goals as goal

pub returns-clause-read : goal.returns-clause-read
unfolding read_variables_tail read_rest
returns-clause-read c =
    let r = c.in_ok-rows.ensures.read in (
      ((c.in_ok-length.length, option_map tree_of c.in_ok-first.first), r.0),
      rw (c.in_ok-length.ensures.read, c.in_ok-first.ensures.read, r.1, c.in_ok-expect.ensures.read),
      ap VariablesItem r.2,
    )
