use Rattle.std.proofs.Common.{[], ◌∷◌, false, map, sym, rules, arith}
use Rattle.std.proofs.lemmas.List.{append-nil, map-append}
use Rattle.std.proofs.lemmas.Grind.{common_steps}
use Rattle.fk_syntax.specs.View.{base_of}
use Rattle.fk_parse_declarations.specs.Grammar.{declared}
use Rattle.fk_parse_declarations.specs.Reading.{read_separated, read_member}
use Rattle.fk_parse_declarations.specs.View.{declarator_of}
use Rattle.fk_parse_declarations.proofs.Commas.{commas_start, commas_more, commas_end, commas_stop}
use Rattle.fk_parse_declarations.proofs.declaration.add_member.Goals as goal

pub loop-comma-init : goal.loop-comma-init
loop-comma-init c = record { others = []; same = sym (append-nil _); commas = commas_start _ _ }

pub loop-comma-preserved : goal.loop-comma-preserved
loop-comma-preserved c = record {
  others = _;
  same = grind (arith, common_steps, map-append);
  commas = commas_more _ _ _ _ _ _ _ _ c.in-Some.ensures.next c.in-Some.ensures.read c.in_ok-member_name-2.ensures.read c.in-Some.ensures.shorter c.in_ok-member_name-2.ensures.shorter c.loop-comma.invariant.commas;
}

pub returns-in_err-member_name-2-clause-read : goal.returns-in_err-member_name-2-clause-read
unfolding read_separated read_member
returns-in_err-member_name-2-clause-read c =
    let r = commas_stop _ _ _ _ _ _ _ _ c.in-Some.ensures.next c.in-Some.ensures.read c.in_err-member_name-2.ensures.read c.loop-comma.invariant.commas in
    search rules

pub returns-clause-read : goal.returns-clause-read
unfolding read_separated read_member
returns-clause-read c =
    let e = commas_end _ _ _ _ _ c.in_default.ensures.next c.in_default.ensures.same c.in_default.ensures.few.1 c.loop-comma.invariant.commas in (
      map (declared false (base_of c.in_ok-base.base)) (declarator_of c.in_ok-member_name.field-0 ∷ c.loop-comma.invariant.others),
      rw (c.in_ok-base.ensures.read, c.in_ok-member_name.ensures.read, e.0, c.in_ok-expect.ensures.read),
      grind (arith, common_steps, map-append),
    )

pub returns-in_err-expect-clause-read : goal.returns-in_err-expect-clause-read
unfolding read_separated read_member
returns-in_err-expect-clause-read c =
    let e = (commas_end _ _ _ _ _ c.in_default.ensures.next c.in_default.ensures.same c.in_default.ensures.few.1 c.loop-comma.invariant.commas).0 in
    search rules
