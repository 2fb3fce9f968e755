use Rattle.std.proofs.Common.{[], sym, rules, arith}
use Rattle.std.proofs.lemmas.List.{append-nil, map-append}
use Rattle.std.proofs.lemmas.Grind.{common_steps}
use Rattle.fk_parse_declarations.specs.Reading.{read_separated}
use Rattle.fk_parse_declarations.proofs.Commas.{commas_start, commas_more, commas_stop}
use Rattle.fk_parse_declarations.proofs.declaration.some_parameters.Goals as goal

pub loop-comma-init : goal.loop-comma-init
loop-comma-init c = record { others = []; same = sym (append-nil _); commas = commas_start _ _ }

pub loop-comma-preserved : goal.loop-comma-preserved
loop-comma-preserved c = record {
  others = _;
  same = grind (arith, common_steps, map-append);
  commas = commas_more _ _ _ _ _ _ _ _ c.in-Some.ensures.next c.in-Some.ensures.read c.in_ok-parameter-2.ensures.read c.in-Some.ensures.shorter c.in_ok-parameter-2.ensures.shorter c.loop-comma.invariant.commas;
}

pub returns-in_err-parameter-2-clause-read : goal.returns-in_err-parameter-2-clause-read
unfolding read_separated
returns-in_err-parameter-2-clause-read c =
    let r = commas_stop _ _ _ _ _ _ _ _ c.in-Some.ensures.next c.in-Some.ensures.read c.in_err-parameter-2.ensures.read c.loop-comma.invariant.commas in
    search rules
