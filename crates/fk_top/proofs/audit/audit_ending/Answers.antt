use Rattle.std.proofs.Common.{ℕ, List, ◌++◌, cond, ◌∙◌, ap, sym, subst, length, inr, arith}
use Rattle.std.specs.Prelude.{is_ok}
use Rattle.fk_top_input.specs.Input.{input_of}
use Rattle.fk_top.specs.Outcome.{IsVerdict, most_numbers}
use Rattle.fk_top.proofs.Audited.{audited_is}
use Rattle.fk_top.proofs.Inputs.{is_input_within}
use Rattle.fk_top.proofs.audit.audit_ending.Goals as goal

pub audit_image-requires-clause-few_inputs : goal.audit_image-requires-clause-few_inputs
audit_image-requires-clause-few_inputs c =
    let input = is_input_within c.args.image.now c.args.text.now c.in-Ok.numbers.items _ _ c.requires.limits c.most_numbers-limit.ensures c.len.ensures c.in-Ok.ensures.numbers in
    omega (arith, input.few, ap length c.as_slice.ensures.value)

pub audit_image-requires-clause-room : goal.audit_image-requires-clause-room
audit_image-requires-clause-room c =
    let input = is_input_within c.args.image.now c.args.text.now c.in-Ok.numbers.items _ _ c.requires.limits c.most_numbers-limit.ensures c.len.ensures c.in-Ok.ensures.numbers in
    omega (arith, input.room, ap length c.as_slice.ensures.value)

pub returns : goal.returns
returns c =
    let limit = c.most_numbers-limit.ensures ∙ ap most_numbers c.len.ensures in
    let numbers = ap (λ (n : ℕ). input_of n c.args.text.now) (sym limit) ∙ c.in-Ok.ensures.numbers in
    let ran = c.in_ok-audited.ensures in
    let verdict = c.in_ok-audited.audited.verdict in
    let lines = c.as_slice-2.result.now in
    let output =
    c.extend_from_slice.ensures.items
    ∙ ap (λ r. cond (is_ok r) (c.in_ok-output.output.items ++ lines) c.in_ok-output.output.items) c.unwrap.ensures
    ∙ ap (λ (l : List ℕ). l ++ lines) c.in_ok-output.ensures.items
    ∙ c.as_slice-2.ensures.value
    ∙ c.verdict_text-lines.ensures in
    inr (record {
      input = c.in-Ok.numbers.items;
      numbers = numbers;
      verdict = verdict;
      is_verdict = subst (λ (i : List ℕ). IsVerdict c.args.image.now i c.args.run.harts c.args.run.cycles verdict) c.as_slice.ensures.value ran.verdict;
      is = audited_is c.args.image.now c.in-Ok.numbers.items c.as_slice.result.now c.args.run.harts c.args.run.cycles verdict _ _ _ _ _
          c.as_slice.ensures.value ran.stand ran.cycles c.status_of.ensures output c.stand_report.ensures;
    })
