-- The trace of a run is a lawful trace of the program.
use Rattle.std.proofs.Common.{◌≡◌, ℕ, ◌+◌, ◌^◌, ◌<◌, ◌≤◌, List, length, sym, ap, subst, ◌∙◌, arith}
use Rattle.std.proofs.lemmas.List.{length-replicate}
use Rattle.fk_syntax.specs.Program.{ProgramTree}
use Rattle.fk_meaning_forms.specs.Tables.{Tables}
use Rattle.fk_layout.specs.Layout.{tables_by}
use Rattle.fk_meaning.specs.Processor.{setting_of}
use Rattle.fk_meaning.specs.Program.{next_in, program_opening}
use Rattle.fk_meaning.specs.Schedule.{Schedule, IsLawful, run, stand_of}
use Rattle.fk_image.specs.declared.Image.{Image}
use Rattle.fk_machine.specs.Cycle.{Machine, first_hart, machine_opening}
use Rattle.fk_machine.specs.Run.{after, committed_in, machine, output_of, rounds}
use Rattle.fk_machine.proofs.Runs.{begun-after, machine-after}
use Rattle.fk_trace.specs.Early.{trace_of}
use Rattle.fk_trace.specs.Text.{Commits, trace_text}
use Rattle.fk_trace.proofs.Cycles.{begun-length}
use Rattle.fk_trace.proofs.Schedules.{counts_are}
use Rattle.fk_replay_text.specs.Rounds.{schedule_of}
use Rattle.fk_replay_text.specs.Trace.{IsTrace, moments_of}
use Rattle.fk_replay_text.specs.Written.{told_from}
use Rattle.fk_replay_text.proofs.Counted.{rounds_are_counts}
use Rattle.fk_replay_text.proofs.Written.{traces_are_texts}
use Rattle.fk_sim_rounds.specs.Follows.{Follows, StandsAgree}
use Rattle.fk_compile.specs.Faithful.{firsts_by, words_by}
use Rattle.fk_trace_laws.specs.Program.{IsLawfulFor, printed_by, stand_by}
use Rattle.fk_trace_laws.specs.Traced.{IsLawfulTrace, TraceIsLawful}
use Rattle.fk_trace_laws.proofs.Committed.{cycles_of_image}
use Rattle.fk_trace_laws.proofs.OneProgram.{moved}

-- ---- the text

module _ (image : Image) (input : List ℕ) (p n : ℕ) where
  abbrev start : Machine
  start = machine_opening image input p

  abbrev cycles : List Commits
  cycles = committed_in n start

  begun_is : (machine image input p n).begun ≡ length cycles
  begun_is =
      let same = ap (λ (m : Machine). m.begun) (machine-after image input p n) in
      let counted : (after n start).begun ≡ 0 + length cycles = begun-length start n in
      omega (arith, same, counted)

  few_cycles : n < 2 ^ 32 → length cycles < 2 ^ 32
  few_cycles bound =
      let counted : (after n start).begun ≡ 0 + length cycles = begun-length start n in
      let few : (after n start).begun ≤ 0 + n = begun-after start n in
      omega (arith, bound, counted, few)

  text_is : trace_text p cycles ≡ trace_of n start
  text_is = ap (λ (harts : ℕ). trace_text harts cycles) (sym (length-replicate p first_hart))

-- ---- the law

-- the machine follows the program under the rounds of the trace
module _ (tables : Tables) (program : ProgramTree) (words firsts : List ℕ) (image : Image) (input : List ℕ) (p n : ℕ) where
  -- the schedule is lawful, and the run under it has the machine's output and status
  record Carries (schedule : Schedule) : Type 0 where
    lawful : IsLawfulFor tables program words firsts input p schedule
    prints : printed_by tables program words firsts input p schedule ≡ output_of image input p n
    agrees : StandsAgree (machine image input p n).stand (stand_by tables program words firsts input p schedule)

  -- the same, with the globals of the image as the initial words
  record EndsBy (globals : List ℕ) : Type 0 where
    prints : (run (next_in tables program) (setting_of p globals input) (rounds image input p n) (program_opening tables program words firsts input p)).store.output ≡ output_of image input p n
    agrees : StandsAgree (machine image input p n).stand (stand_of (next_in tables program) (setting_of p globals input) (run (next_in tables program) (setting_of p globals input) (rounds image input p n) (program_opening tables program words firsts input p)))

  carries : image.globals.items ≡ words → Follows (next_in tables program) image input p n (program_opening tables program words firsts input p) → Carries (rounds image input p n)
  carries globals follows =
      let law = subst (λ (ws : List ℕ). IsLawful (next_in tables program) (setting_of p ws input) (rounds image input p n) (program_opening tables program words firsts input p)) globals follows.lawful in
      let ends = subst (λ (ws : List ℕ). EndsBy ws) globals (record { prints = sym follows.agrees.output; agrees = follows.agrees.stand }) in
      record { lawful = law; prints = ends.prints; agrees = ends.agrees }

  is_lawful : image.globals.items ≡ words → Follows (next_in tables program) image input p n (program_opening tables program words firsts input p)
      → rounds image input p n ≡ schedule_of p (moments_of (told_from 1 (cycles image input p n))) (length (cycles image input p n))
      → IsTrace p (length (cycles image input p n)) (told_from 1 (cycles image input p n)) (trace_of n (machine_opening image input p))
      → IsLawfulTrace tables program words firsts input p (trace_of n (machine_opening image input p)) (length (cycles image input p n)) (output_of image input p n) (machine image input p n).stand
  is_lawful globals follows same text =
      let c = subst (λ (s : Schedule). Carries s) same (carries globals follows) in
      record { lines = told_from 1 (cycles image input p n); trace = text; lawful = c.lawful; prints = c.prints; agrees = c.agrees }

pub trace_is_lawful : TraceIsLawful
trace_is_lawful source program facts image input p n faithful checked within some few bound =
    let to = faithful.faithful in
    let all = cycles image input p n in
    let are = cycles_of_image image input p n to.limits in
    let text = traces_are_texts p all some few (few_cycles image input p n bound) are in
    let told = subst (λ (t : List ℕ). IsTrace p (length all) (told_from 1 all) t) (text_is image input p n) text in
    let same = sym (rounds_are_counts p all are ∙ counts_are image input p n) in
    let it = is_lawful (tables_by faithful.program faithful.facts) faithful.program (words_by faithful.program faithful.facts) (firsts_by faithful.program faithful.facts) image input p n to.globals_are
    (to.follows input p n within some few bound) same told in
    moved source faithful.program program faithful.facts facts faithful.checked checked
    (λ (ts : Tables) (t : ProgramTree) (ws fs : List ℕ). IsLawfulTrace ts t ws fs input p (trace_of n (machine_opening image input p)) (machine image input p n).begun (output_of image input p n) (machine image input p n).stand)
    (subst (λ (k : ℕ). IsLawfulTrace (tables_by faithful.program faithful.facts) faithful.program (words_by faithful.program faithful.facts) (firsts_by faithful.program faithful.facts) input p
    (trace_of n (machine_opening image input p)) k (output_of image input p n) (machine image input p n).stand) (sym (begun_is image input p n)) it)
