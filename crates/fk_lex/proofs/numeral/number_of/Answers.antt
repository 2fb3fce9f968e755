use Rattle.std.proofs.Common.{◌<◌, ◌^◌, SomeIff, subst}
use Rattle.fk_lex.specs.Kinds.{numeral_value}
use Rattle.fk_lex.proofs.TokenSteps.{number_of_some, number_of_none}
use Rattle.fk_lex.proofs.numeral.number_of.Goals as goal

pub returns-in-Some : goal.returns-in-Some
returns-in-Some c =
    let known = subst (λ r. SomeIff r (numeral_value c.args.numeral.now < 2 ^ 32) (numeral_value c.args.numeral.now)) c.in-Some.is c.numeral_value.ensures in
    number_of_some c.args.numeral.now c.in-Some.value c.is_unsigned-unsigned.result known.1 known.0 c.is_unsigned-unsigned.ensures

pub returns-in-None : goal.returns-in-None
returns-in-None c =
    let known = subst (λ r. SomeIff r (numeral_value c.args.numeral.now < 2 ^ 32) (numeral_value c.args.numeral.now)) c.in-None.is c.numeral_value.ensures in
    number_of_none c.args.numeral.now known
