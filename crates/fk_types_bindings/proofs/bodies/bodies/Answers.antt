use Rattle.std.proofs.Common.{map, arith}
use Rattle.std.proofs.lemmas.List.{length-map}
use Rattle.fk_types_names.specs.Outline.{Declares}
use Rattle.fk_types_names.specs.View.{declaration_of}
use Rattle.fk_types_names.specs.Means.{HasBodyAt, DefinesHere}
use Rattle.fk_types_names.specs.TableView.{shown}
use Rattle.fk_types_names.proofs.SurveyLemmas.{first_more, first_all, someone, here_at, at_here, at_within}
use Rattle.fk_types_names.proofs.ReadingLemmas.{defined_once}
use Rattle.fk_types_bindings.proofs.BodyLemmas.{declares_at}
use Rattle.fk_types_bindings.proofs.bodies.bodies.Goals as goal

pub loop-number-preserved : goal.loop-number-preserved
loop-number-preserved c =
    let i = c.loop-number.number in
    let marks = map Declares (map declaration_of c.args.declared.now) in
    let m = Declares (declaration_of c.index-declared-number.result) in
    let here = declares_at c.args.declared.now i c.index-declared-number.result (omega arith) c.index-declared-number.is in
    first_more (HasBodyAt marks) i c.defined_name.result
    (someone (λ name. DefinesHere name.now m) (λ name. HasBodyAt marks name.now i) (λ name p. here_at (DefinesHere name.now) marks i m here p) c.defined_name.result c.defined_name.ensures.some)
    (λ none q p. c.defined_name.ensures.none none q (at_here (DefinesHere q) marks i m here p))
    (λ q r p s. defined_once marks i r q s p)
    (shown c.loop-number.bodies) (shown c.set_first.new.self) c.in_ok-set_first.ensures.some c.in_ok-set_first.ensures.none c.loop-number.invariant

pub returns : goal.returns
returns c = λ q.
    let declared = map declaration_of c.args.declared.now in
    let marks = map Declares declared in
    first_all (HasBodyAt marks q) c.loop-number.number (shown c.loop-number.bodies q)
    (λ k p. let w = at_within (DefinesHere q) marks k p in let m = length-map declared Declares in let n = length-map c.args.declared.now declaration_of in omega (arith, w, m, n))
    (c.loop-number.invariant q)
