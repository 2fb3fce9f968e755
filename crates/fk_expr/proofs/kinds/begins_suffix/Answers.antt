use Rattle.std.proofs.Common.{refl, inl, inr}
use Rattle.fk_lex.specs.declared.token.TokenKind.TheVariants as kind
use Rattle.fk_parse_combinators.specs.Kinds.{just}
use Rattle.fk_parse_combinators.proofs.SameKind.{just_other}
use Rattle.fk_expr.proofs.kinds.begins_suffix.Goals as goal

pub returns-in-OpenBracket : goal.returns-in-OpenBracket
unfolding just
returns-in-OpenBracket c = elim c.in-OpenBracket.is [ inl e ↦ rw e refl | inr r6 ↦ elim r6 [ inl e ↦ rw e refl | inr r5 ↦ elim r5 [ inl e ↦ rw e refl | inr r4 ↦ elim r4 [ inl e ↦ rw e refl | inr r3 ↦ elim r3 [ inl e ↦ rw e refl | inr r2 ↦ rw r2 refl ] ] ] ] ]

pub returns-in_default : goal.returns-in_default
returns-in_default c =
    rw (
      just_other kind.OpenBracket c.args.kind c.in_default.not-OpenBracket,
      just_other kind.OpenParenthesis c.args.kind c.in_default.not-OpenParenthesis,
      just_other kind.Dot c.args.kind c.in_default.not-Dot,
      just_other kind.Arrow c.args.kind c.in_default.not-Arrow,
      just_other kind.Increment c.args.kind c.in_default.not-Increment,
      just_other kind.Decrement c.args.kind c.in_default.not-Decrement,
    ) refl
