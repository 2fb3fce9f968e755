use Rattle.std.proofs.Common.{List, [], ◌∷◌, inl, inr, sym}
use Rattle.fk_lex.specs.declared.token.TokenKind.{TokenKind}
use Rattle.fk_lex.specs.declared.token.TokenKind.TheVariants.{If, While, Do, For, Start, Farm, Seq, Fork, Barrier, Break, Continue, Return}
use Rattle.fk_parse_combinators.specs.Kinds.{just}
use Rattle.fk_parse_combinators.proofs.SameKind.{just_same, just_other}
use Rattle.fk_parse_statements.proofs.OneOf.{found_before, found, not_found}
use Rattle.fk_parse_statements.proofs.kinds.begins_word.Goals as goal

abbrev words : List TokenKind
words = While ∷ Do ∷ For ∷ Start ∷ Farm ∷ Seq ∷ Fork ∷ Barrier ∷ Break ∷ Continue ∷ Return ∷ []

pub returns-in-If : goal.returns-in-If
returns-in-If c =
    let t = c.args.kind in
    sym (elim c.in-If.is [ inl e ↦ found_before (just If t) words t (just_same If t e) | inr others ↦ found (just If t) words t others ])

pub returns-in_default : goal.returns-in_default
returns-in_default c =
    let t = c.args.kind in
    let d = c.in_default in
    sym (not_found (just If t) words t (just_other If t d.not-If)
    (d.not-While, (d.not-Do, (d.not-For, (d.not-Start, (d.not-Farm, (d.not-Seq, (d.not-Fork, (d.not-Barrier, (d.not-Break, (d.not-Continue, (d.not-Return, tt))))))))))))
