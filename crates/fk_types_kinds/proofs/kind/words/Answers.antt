use Rattle.std.proofs.Common.{inl, inr, refl, arith}
use Rattle.fk_types_kinds.proofs.kind.words.Goals as goal

pub returns-in-Some-clause-words : goal.returns-in-Some-clause-words
returns-in-Some-clause-words c = inl c.in-Some.ensures.some

pub returns-in-Some-clause-few : goal.returns-in-Some-clause-few
returns-in-Some-clause-few c = omega (arith, c.in-Some.ensures.some.2)

pub returns-in-None-clause-words : goal.returns-in-None-clause-words
returns-in-None-clause-words c = inr (c.in-None.ensures.none refl, refl)
