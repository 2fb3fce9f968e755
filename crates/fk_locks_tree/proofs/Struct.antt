-- The struct of the lock is read.
use Rattle.std.proofs.Common.{◌≡◌, List, Option, Ok, refl}
use Rattle.fk_syntax.specs.Program.{Statements}
use Rattle.fk_parse_combinators.specs.Languages.{Placed}
use Rattle.fk_parse_combinators.specs.Kinds.{just}
use Rattle.fk_parse_combinators.specs.Readers.{Reader, repeated}
use Rattle.fk_expr.specs.Reading.{Readers}
use Rattle.fk_parse_declarations.specs.Reading.{read_member, read_separated, read_member_name}
use Rattle.fk_parse.specs.Reading.{read_item, read_struct}
use Rattle.fk_locks_tree.specs.Items.{lock_struct}
use Rattle.fk_locks_tree.proofs.Placed.{struct_before}

pub struct_read : (E : Option Readers) (B : Reader Statements) (rest : List Placed) → read_item E B (struct_before rest) ≡ Ok (lock_struct, rest)
unfolding read_item read_struct read_member read_separated read_member_name repeated just
struct_read E B rest = refl
