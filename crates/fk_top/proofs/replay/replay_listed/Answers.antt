use Rattle.std.proofs.Common.{◌≡◌, ℕ, Some, Ok, Err, inr, length, refl, sym, ap, subst, ◌∙◌, ◌⊎◌, arith}
use Rattle.fk_syntax.specs.ProgramView.{program_of}
use Rattle.fk_compile.specs.Faithful.{words_by}
use Rattle.fk_replay_source.specs.Answer.{sites_by}
use Rattle.fk_top_input.specs.declared.fault.InputFault.TheVariants.{Memory}
use Rattle.fk_top_input.specs.Input.{input_of}
use Rattle.fk_top.specs.Ending.{outcome_of}
use Rattle.fk_top.specs.Outcome.{EndsReplay, Outcome, most_numbers}
use Rattle.fk_top.proofs.Inputs.{few_numbers}
use Rattle.fk_top.proofs.Refusing.{refusing_input_beside}
use Rattle.fk_top.proofs.Replaying.{answers, ends_trace, refusing_answer, refusing_trace}
use Rattle.fk_top.proofs.replay.replay_listed.Goals as goal

pub replay-requires-clause-room : goal.replay-requires-clause-room
replay-requires-clause-room c =
    let listed = c.args.listed.now in
    let globals = length (words_by (program_of listed.text.tree) listed.text.facts) in
    let limit = c.most_numbers-limit.ensures ∙ ap most_numbers c.globals.ensures in
    let few = few_numbers (most_numbers globals) c.args.text.now c.in-Ok-read_input.numbers.items (ap (λ (n : ℕ). input_of n c.args.text.now) (sym limit) ∙ c.in-Ok-read_input.ensures.numbers) in
    let small = c.requires.few in
    omega (arith, few, small, ap length c.as_slice.ensures.value)

pub replay-requires-clause-trace : goal.replay-requires-clause-trace
replay-requires-clause-trace c = record { text = c.args.bytes.now; told = c.in-Ok.ensures.trace }

pub returns-in-Err : goal.returns-in-Err
returns-in-Err c =
    refusing_trace c.args.bytes.now c.in-Err.fault c.trace_report_of.result c.refused.result _ c.in-Err.ensures.fault c.trace_report_of.ensures c.refused.ensures

pub returns-in-Err-read_input : goal.returns-in-Err-read_input
returns-in-Err-read_input c =
    let listed = c.args.listed.now in
    let program = program_of listed.text.tree in
    let globals = length (words_by program listed.text.facts) in
    let limit = c.most_numbers-limit.ensures ∙ ap most_numbers c.globals.ensures in
    let fault = subst (λ (n : ℕ). (c.in-Err-read_input.fault ≡ Memory) ⊎ (input_of n c.args.text.now ≡ Err c.in-Err-read_input.fault)) limit c.in-Err-read_input.ensures.fault in
    ends_trace program listed.text.facts c.args.bytes.now c.args.text.now c.in-Ok.trace c.in-Ok.ensures.trace c.refused-in-Err-read_input.result
    (refusing_input_beside globals c.args.text.now c.in-Err-read_input.fault c.input_report_of.result c.refused-in-Err-read_input.result _ fault c.input_report_of.ensures c.refused-in-Err-read_input.ensures)

pub returns-in-Ok-replay : goal.returns-in-Ok-replay
returns-in-Ok-replay c =
    let listed = c.args.listed.now in
    let program = program_of listed.text.tree in
    let facts = listed.text.facts in
    let limit = c.most_numbers-limit.ensures ∙ ap most_numbers c.globals.ensures in
    let numbers = ap (λ (n : ℕ). input_of n c.args.text.now) (sym limit) ∙ c.in-Ok-read_input.ensures.numbers in
    let trace = c.in-Ok.trace in
    ends_trace program facts c.args.bytes.now c.args.text.now trace c.in-Ok.ensures.trace (Ok c.accepted.result)
    (inr (answers program facts c.args.bytes.now c.args.text.now trace c.in-Ok.ensures.trace c.in-Ok-read_input.numbers.items c.as_slice.result.now (Ok c.in-Ok-replay.replayed) (outcome_of c.accepted.result) numbers c.as_slice.ensures.value
    c.in-Ok-replay.ensures (ap (λ (o : Outcome). Some o) (sym c.accepted.ensures))))

pub returns : goal.returns
returns c =
    let listed = c.args.listed.now in
    let program = program_of listed.text.tree in
    let facts = listed.text.facts in
    let limit = c.most_numbers-limit.ensures ∙ ap most_numbers c.globals.ensures in
    let numbers = ap (λ (n : ℕ). input_of n c.args.text.now) (sym limit) ∙ c.in-Ok-read_input.ensures.numbers in
    let trace = c.in-Ok.trace in
    refusing_answer (sites_by program facts) trace.cycles (Err c.in-Err-replay.fault) c.in-Err-replay.fault c.trace_report_of-in-Err-replay.result c.refused-in-Err-replay.result
    (EndsReplay program facts c.args.bytes.now c.args.text.now) refl c.trace_report_of-in-Err-replay.ensures
    c.refused-in-Err-replay.ensures
    (λ outcome written. inr (record {
      harts = trace.harts;
      cycles = trace.cycles;
      lines = c.in-Ok.ensures.trace.lines;
      told = c.in-Ok.ensures.trace.text_is;
      ends = inr (answers program facts c.args.bytes.now c.args.text.now trace c.in-Ok.ensures.trace c.in-Ok-read_input.numbers.items c.as_slice.result.now (Err c.in-Err-replay.fault) outcome numbers c.as_slice.ensures.value
          c.in-Err-replay.ensures written);
    }))
