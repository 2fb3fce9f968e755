use Rattle.std.proofs.Common.{List, map, ap, arith}
use Rattle.fk_syntax.specs.declared.program.Declared.{Declared}
use Rattle.fk_syntax.specs.ProgramView.{declared_of, function_of}
use Rattle.fk_layout_sizes.specs.Places.{filling}
use Rattle.fk_layout_sizes.proofs.Measured.{function_measured}
use Rattle.fk_layout_sizes.proofs.extent.extent_of.Goals as goal

pub returns-clause-values : goal.returns-clause-values
returns-clause-values c h =
    let m = (function_measured c.args.known.now (function_of c.args.whole.now) c.function.new.visitor c.function.ensures h).0 in
    let f = c.filling.ensures in
    let x = c.max.ensures in
    let e = ap (λ (xs : List Declared). filling (map declared_of xs)) c.deref.ensures.value in
    omega (arith, m, f, x, e)

pub returns-clause-nesting : goal.returns-clause-nesting
returns-clause-nesting c h = (function_measured c.args.known.now (function_of c.args.whole.now) c.function.new.visitor c.function.ensures h).1
