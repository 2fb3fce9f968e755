-- The functions of the lock are read.
use Rattle.std.proofs.Common.{◌≡◌, List, Ok, refl}
use Rattle.fk_syntax.specs.Program.{FunctionItem}
use Rattle.fk_parse_combinators.specs.Languages.{Placed}
use Rattle.fk_parse_combinators.specs.Kinds.{just}
use Rattle.fk_parse_combinators.specs.Readers.{repeated}
use Rattle.fk_parse_combinators.specs.declared.limits.TheConstants.{LEVELS}
use Rattle.fk_expr.specs.Reading.{inner, read_comma, read_assignment, read_choice, read_joined, read_prefix, read_postfix, read_primary, read_suffix, read_arguments, read_signed}
use Rattle.fk_parse_declarations.specs.Reading.{read_separated, read_variables, read_variable, read_rest, read_parameters, read_parameter}
use Rattle.fk_parse_headers.specs.Reading.{read_condition, read_expression}
use Rattle.fk_parse_statements.specs.Reading.{read_block, read_while, read_statement}
use Rattle.fk_parse.specs.Reading.{read_item, read_bare, read_tail, read_function_tail, read_body}
use Rattle.fk_locks_tree.specs.Items.{lock_take, lock_give}
use Rattle.fk_locks_tree.proofs.Placed.{take_before, give_before}

pub give_read : (rest : List Placed) → read_item (inner LEVELS) read_body (give_before rest) ≡ Ok (FunctionItem lock_give, rest)
unfolding read_item read_bare read_tail read_function_tail read_parameters read_separated read_parameter repeated read_block read_statement read_expression read_comma read_assignment read_choice read_joined read_prefix read_postfix read_primary read_suffix read_arguments read_signed just
give_read rest = refl

pub take_read : (rest : List Placed) → read_item (inner LEVELS) read_body (take_before rest) ≡ Ok (FunctionItem lock_take, rest)
unfolding read_item read_bare read_tail read_function_tail read_parameters read_separated read_parameter repeated read_block read_statement read_variables read_variable read_rest read_while read_condition read_comma read_assignment read_choice read_joined read_prefix read_postfix read_primary read_suffix read_arguments read_signed just
take_read rest = refl
