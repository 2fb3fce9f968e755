use Rattle.std.proofs.Common.{[], ◌∷◌, inl, inr, sym}
use Rattle.fk_lex.specs.declared.token.TokenKind.TheVariants.{OpenBrace, Semicolon}
use Rattle.fk_parse_combinators.specs.Kinds.{just}
use Rattle.fk_parse_combinators.proofs.SameKind.{just_same, just_other}
use Rattle.fk_parse_statements.proofs.OneOf.{found_before, found, not_found}
use Rattle.fk_parse_statements.proofs.kinds.begins_bare.Goals as goal

pub returns-in-OpenBrace : goal.returns-in-OpenBrace
returns-in-OpenBrace c =
    let t = c.args.kind in
    sym (elim c.in-OpenBrace.is [
      | inl e ↦ found_before (just OpenBrace t) (Semicolon ∷ []) t (just_same OpenBrace t e)
      | inr e ↦ found (just OpenBrace t) (Semicolon ∷ []) t e
    ])

pub returns-in_default : goal.returns-in_default
returns-in_default c =
    let t = c.args.kind in
    let d = c.in_default in
    sym (not_found (just OpenBrace t) (Semicolon ∷ []) t (just_other OpenBrace t d.not-OpenBrace) (d.not-Semicolon, tt))
