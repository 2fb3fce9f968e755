use Rattle.std.proofs.Common.{refl, inl, inr}
use Rattle.fk_lex.specs.declared.token.TokenKind.TheVariants as kind
use Rattle.fk_parse_combinators.specs.Kinds.{just}
use Rattle.fk_parse_combinators.proofs.SameKind.{just_other}
use Rattle.fk_expr.proofs.kinds.begins_type.Goals as goal

pub returns-in-Int : goal.returns-in-Int
unfolding just
returns-in-Int c = elim c.in-Int.is [ inl e ↦ rw e refl | inr r4 ↦ elim r4 [ inl e ↦ rw e refl | inr r3 ↦ elim r3 [ inl e ↦ rw e refl | inr r2 ↦ rw r2 refl ] ] ]

pub returns-in_default : goal.returns-in_default
returns-in_default c =
    rw (
      just_other kind.Int c.args.kind c.in_default.not-Int,
      just_other kind.Unsigned c.args.kind c.in_default.not-Unsigned,
      just_other kind.Void c.args.kind c.in_default.not-Void,
      just_other kind.Struct c.args.kind c.in_default.not-Struct,
    ) refl
