use Rattle.std.proofs.Common.{sym, ◌∙◌, arith}
use Rattle.fk_lex.proofs.Signs.{triple_found, double_found, single_found}
use Rattle.fk_lex.proofs.Words.{none_of_three}
use Rattle.fk_lex.proofs.TokenSteps.{sign_step_is, no_sign_is}
use Rattle.fk_lex.proofs.table.sign_step.Goals as goal

pub returns-in-Some : goal.returns-in-Some
returns-in-Some c =
    let three = triple_found c.args.text.now c.byte_at-second.result c.byte_at-third.result c.triple_sign.result c.triple_sign.ensures c.byte_at-second.ensures c.byte_at-third.ensures in
    sign_step_is c.args.text.now 3 c.in-Some.sign c.requires.letter c.requires.digit (omega arith) (sym c.in-Some.is ∙ three) (λ m more short. absurd (omega arith))

pub returns-in-Some-double_sign : goal.returns-in-Some-double_sign
returns-in-Some-double_sign c =
    let three = triple_found c.args.text.now c.byte_at-second.result c.byte_at-third.result c.triple_sign.result c.triple_sign.ensures c.byte_at-second.ensures c.byte_at-third.ensures in
    let two = double_found c.args.text.now c.byte_at-second.result c.double_sign.result c.double_sign.ensures c.byte_at-second.ensures in
    sign_step_is c.args.text.now 2 c.in-Some-double_sign.sign c.requires.letter c.requires.digit (omega arith) (sym c.in-Some-double_sign.is ∙ two)
    (none_of_three c.args.text.now 2 (sym c.in_default.is ∙ three) (λ above. absurd (omega arith)) (λ above. absurd (omega arith)))

pub returns-in-Some-single_sign : goal.returns-in-Some-single_sign
returns-in-Some-single_sign c =
    let three = triple_found c.args.text.now c.byte_at-second.result c.byte_at-third.result c.triple_sign.result c.triple_sign.ensures c.byte_at-second.ensures c.byte_at-third.ensures in
    let two = double_found c.args.text.now c.byte_at-second.result c.double_sign.result c.double_sign.ensures c.byte_at-second.ensures in
    let one = single_found c.args.text.now c.single_sign.result c.requires.some c.single_sign.ensures in
    sign_step_is c.args.text.now 1 c.in-Some-single_sign.sign c.requires.letter c.requires.digit (omega arith) (sym c.in-Some-single_sign.is ∙ one)
    (none_of_three c.args.text.now 1 (sym c.in_default.is ∙ three) (λ above. (sym c.in_default-double_sign.is ∙ two)) (λ above. absurd (omega arith)))

pub returns-in-None : goal.returns-in-None
returns-in-None c =
    let three = triple_found c.args.text.now c.byte_at-second.result c.byte_at-third.result c.triple_sign.result c.triple_sign.ensures c.byte_at-second.ensures c.byte_at-third.ensures in
    let two = double_found c.args.text.now c.byte_at-second.result c.double_sign.result c.double_sign.ensures c.byte_at-second.ensures in
    let one = single_found c.args.text.now c.single_sign.result c.requires.some c.single_sign.ensures in
    no_sign_is c.args.text.now c.requires.letter c.requires.digit
    (none_of_three c.args.text.now 0 (sym c.in_default.is ∙ three) (λ above. (sym c.in_default-double_sign.is ∙ two)) (λ above. sym c.in-None.is ∙ one))
