use Rattle.std.proofs.Common.{refl, inl, inr}
use Rattle.fk_lex.specs.declared.token.TokenKind.TheVariants as kind
use Rattle.fk_parse_combinators.specs.Kinds.{just}
use Rattle.fk_parse_combinators.proofs.SameKind.{just_other}
use Rattle.fk_expr.proofs.Starts.{not_number}
use Rattle.fk_expr.proofs.kinds.begins_primary.Goals as goal

pub returns-in-Number : goal.returns-in-Number
unfolding just
returns-in-Number c = elim c.in-Number.is [ inl e ↦ rw e.2 refl | inr r6 ↦ elim r6 [ inl e ↦ rw e refl | inr r5 ↦ elim r5 [ inl e ↦ rw e refl | inr r4 ↦ elim r4 [ inl e ↦ rw e refl | inr r3 ↦ elim r3 [ inl e ↦ rw e refl | inr r2 ↦ rw r2 refl ] ] ] ] ]

pub returns-in_default : goal.returns-in_default
returns-in_default c =
    rw (
      not_number c.args.kind c.in_default.not-Number,
      just_other kind.Word c.args.kind c.in_default.not-Word,
      just_other kind.At c.args.kind c.in_default.not-At,
      just_other kind.Dollar c.args.kind c.in_default.not-Dollar,
      just_other kind.OpenParenthesis c.args.kind c.in_default.not-OpenParenthesis,
      just_other kind.Puts c.args.kind c.in_default.not-Puts,
    ) refl
