use Rattle.std.proofs.Common.{ℕ, ◌≡◌, ◌∙◌, ap, sym, subst, Err, ◌⊎◌, inr, length, arith}
use Rattle.fk_top_input.specs.declared.fault.InputFault.TheVariants.{Memory}
use Rattle.fk_top_input.specs.Input.{input_of}
use Rattle.fk_top.specs.Ending.{writing_of}
use Rattle.fk_top.specs.Outcome.{most_numbers}
use Rattle.fk_top.proofs.Inputs.{is_input_within}
use Rattle.fk_top.proofs.Refusing.{refusing_input}
use Rattle.fk_top.proofs.Runs.{run_is}
use Rattle.fk_top.proofs.run.run_ending.Goals as goal

pub new-requires-clause-few_inputs : goal.new-requires-clause-few_inputs
new-requires-clause-few_inputs c =
    let input = is_input_within c.args.image c.args.text.now c.in-Ok.numbers.items _ _ c.requires.limits c.most_numbers-limit.ensures c.len.ensures c.in-Ok.ensures.numbers in
    omega (arith, input.few, ap length c.as_slice.ensures.value)

pub new-requires-clause-room : goal.new-requires-clause-room
new-requires-clause-room c =
    let input = is_input_within c.args.image c.args.text.now c.in-Ok.numbers.items _ _ c.requires.limits c.most_numbers-limit.ensures c.len.ensures c.in-Ok.ensures.numbers in
    omega (arith, input.room, ap length c.as_slice.ensures.value)

pub returns : goal.returns
returns c =
    let limit = c.most_numbers-limit.ensures ∙ ap most_numbers c.len.ensures in
    let numbers = ap (λ (n : ℕ). input_of n c.args.text.now) (sym limit) ∙ c.in-Ok.ensures.numbers in
    inr (record {
      input = c.in-Ok.numbers.items;
      numbers = numbers;
      is = run_is c.args.image c.in-Ok.numbers.items c.as_slice.result.now c.args.run.harts c.args.run.cycles (writing_of c.args.written) _ c.as_slice.ensures.value c.in_ok-machine.ensures.machine;
    })

pub returns-in-Err : goal.returns-in-Err
returns-in-Err c =
    let limit = c.most_numbers-limit.ensures ∙ ap most_numbers c.len.ensures in
    let fault = subst (λ (n : ℕ). (c.in-Err.fault ≡ Memory) ⊎ (input_of n c.args.text.now ≡ Err c.in-Err.fault)) limit c.in-Err.ensures.fault in
    refusing_input c.args.image c.args.text.now c.in-Err.fault c.input_report_of.result c.refused.result _ fault c.input_report_of.ensures c.refused.ensures
