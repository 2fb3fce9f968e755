use Rattle.std.proofs.Common.{refl, sym, ◌∙◌}
use Rattle.fk_parse_combinators.specs.Readers.{tells, expect_told}
use Rattle.fk_parse_declarations.specs.Kinds.{sharing_told}
use Rattle.fk_parse_declarations.proofs.Optional.{optional_read}
use Rattle.fk_parse_declarations.proofs.declaration.shared.Goals as goal

pub returns-clause-read : goal.returns-clause-read
returns-clause-read c =
    (_, optional_read (tells sharing_told) (expect_told sharing_told) c.args.cursor.now _ _ (sym c.sharing_is_next.ensures.next ∙ c.if-not-sharing_is_next.false) c.in_ok-shared.ensures.read, refl)
