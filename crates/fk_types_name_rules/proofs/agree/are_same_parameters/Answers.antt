use Rattle.std.proofs.Common.{◌≡◌, true, map, subst, refl, arith, below_more}
use Rattle.std.proofs.lemmas.Bool.{false≢true}
use Rattle.std.proofs.lemmas.List.{length-map}
use Rattle.fk_syntax.specs.ProgramView.{declared_of}
use Rattle.fk_types_name_rules.proofs.ListLemmas.{map_at}
use Rattle.fk_types_name_rules.proofs.HeaderLemmas.{SameAt, same_length, same_each, same_at, same_here}
use Rattle.fk_types_name_rules.proofs.agree.are_same_parameters.Goals as goal

pub returns-then-parameters-others : goal.returns-then-parameters-others
returns-then-parameters-others c = (
  λ e. absurd (false≢true e),
  λ same.
      let n = same_length (map declared_of c.args.parameters.now) (map declared_of c.args.others.now) same in
      let left = length-map c.args.parameters.now declared_of in
      let right = length-map c.args.others.now declared_of in
      absurd (omega (arith, n, left, right)),
)

pub returns-then-not-is_same_parameter : goal.returns-then-not-is_same_parameter
returns-then-not-is_same_parameter c = (
  λ e. absurd (false≢true e),
  λ same.
      let i = c.loop-at.at in
      let x = map_at declared_of c.args.parameters.now i c.index-parameters-at.result (omega arith) c.index-parameters-at.is in
      let y = map_at declared_of c.args.others.now i c.index-others-at.result (omega arith) c.index-others-at.is in
      subst (λ b. b ≡ true) c.if-not-is_same_parameter.true
      (c.is_same_parameter.ensures.1 (same_at (map declared_of c.args.parameters.now) (map declared_of c.args.others.now) same i
      (declared_of c.index-parameters-at.result) (declared_of c.index-others-at.result) x y)),
)

pub loop-at-preserved : goal.loop-at-preserved
loop-at-preserved c =
    let i = c.loop-at.at in
    let xs = map declared_of c.args.parameters.now in
    let ys = map declared_of c.args.others.now in
    let x = map_at declared_of c.args.parameters.now i c.index-parameters-at.result (omega arith) c.index-parameters-at.is in
    let y = map_at declared_of c.args.others.now i c.index-others-at.result (omega arith) c.index-others-at.is in
    below_more (SameAt xs ys) i c.loop-at.invariant
    (same_here xs ys i (declared_of c.index-parameters-at.result) (declared_of c.index-others-at.result) x y (c.is_same_parameter.ensures.0 c.if-not-is_same_parameter.false))

pub returns : goal.returns
returns c =
    let xs = map declared_of c.args.parameters.now in
    let ys = map declared_of c.args.others.now in
    let left = length-map c.args.parameters.now declared_of in
    let right = length-map c.args.others.now declared_of in (
      λ e. same_each xs ys (omega (arith, left, right)) (λ k within. c.loop-at.invariant k (omega (arith, left, within))),
      λ same. refl,
    )
