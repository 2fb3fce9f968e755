use Rattle.std.proofs.Common.{[], sym, rules, arith}
use Rattle.std.proofs.lemmas.List.{map-append}
use Rattle.std.proofs.lemmas.Grind.{common_steps}
use Rattle.fk_parse_declarations.proofs.Commas.{commas_start, commas_more, commas_end, commas_stop}
use Rattle.fk_parse_declarations.proofs.declaration.rows.Goals as goal

pub loop-comma-init : goal.loop-comma-init
loop-comma-init c = record { others = []; same = grind (arith, common_steps); commas = commas_start _ _ }

pub loop-comma-preserved : goal.loop-comma-preserved
loop-comma-preserved c = record {
  others = _;
  same = grind (arith, common_steps, map-append);
  commas = commas_more _ _ _ _ _ _ _ _ c.in-Some.ensures.next c.in-Some.ensures.read c.in_ok-variable.ensures.read c.in-Some.ensures.shorter c.in_ok-variable.ensures.shorter c.loop-comma.invariant.commas;
}

pub returns-in_err-variable-clause-read : goal.returns-in_err-variable-clause-read
returns-in_err-variable-clause-read c =
    let r = commas_stop _ _ _ _ _ _ _ _ c.in-Some.ensures.next c.in-Some.ensures.read c.in_err-variable.ensures.read c.loop-comma.invariant.commas in
    search rules

pub returns-clause-read : goal.returns-clause-read
returns-clause-read c =
    let e = commas_end _ _ _ _ _ c.in_default.ensures.next c.in_default.ensures.same c.in_default.ensures.few.1 c.loop-comma.invariant.commas in
    (_, e.0, sym c.loop-comma.invariant.same)
