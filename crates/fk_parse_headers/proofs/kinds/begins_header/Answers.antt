use Rattle.std.proofs.Common.{◌≡◌, true, refl, inl, inr, sym, subst}
use Rattle.fk_lex.specs.declared.token.TokenKind.TheVariants as kind
use Rattle.fk_lex.specs.declared.token.TokenKind.{TokenKind}
use Rattle.fk_parse_combinators.specs.Kinds.{just}
use Rattle.fk_parse_combinators.proofs.SameKind.{just_other}
use Rattle.fk_parse_headers.specs.Headers.{begins_header}
use Rattle.fk_parse_headers.proofs.kinds.begins_header.Goals as goal

begun : (t k : TokenKind) → true ≡ begins_header k → t ≡ k → true ≡ begins_header t
begun t k b e = subst (λ k. true ≡ begins_header k) (sym e) b

pub returns-in-While : goal.returns-in-While
unfolding just
returns-in-While c =
    let t = c.args.kind in
    elim c.in-While.is [
      | inl e ↦ begun t kind.While refl e
      | inr r5 ↦ elim r5 [
        | inl e ↦ begun t kind.For refl e
        | inr r4 ↦ elim r4 [
          | inl e ↦ begun t kind.Start refl e
          | inr r3 ↦ elim r3 [
            | inl e ↦ begun t kind.Farm refl e
            | inr r2 ↦ elim r2 [ inl e ↦ begun t kind.Seq refl e | inr e ↦ begun t kind.Fork refl e ]
          ]
        ]
      ]
    ]

pub returns-in_default : goal.returns-in_default
returns-in_default c =
    rw (
      just_other kind.While c.args.kind c.in_default.not-While,
      just_other kind.For c.args.kind c.in_default.not-For,
      just_other kind.Start c.args.kind c.in_default.not-Start,
      just_other kind.Farm c.args.kind c.in_default.not-Farm,
      just_other kind.Seq c.args.kind c.in_default.not-Seq,
      just_other kind.Fork c.args.kind c.in_default.not-Fork,
    ) refl
