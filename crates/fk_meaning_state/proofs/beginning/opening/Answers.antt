use Rattle.std.proofs.Common.{◌≡◌, List, ℕ, ap₂, ◌∙◌}
use Rattle.std.proofs.lemmas.Result.{IfOk-weaker}
use Rattle.std.specs.Prelude.{slice_index}
use Rattle.fk_syntax.specs.ProgramView.{program_of}
use Rattle.fk_meaning.specs.Schedule as run
use Rattle.fk_meaning.specs.Next.{Work}
use Rattle.fk_meaning_state.specs.declared.state.State.{State}
use Rattle.fk_meaning_state.specs.View.{state_of}
use Rattle.fk_meaning_state.specs.Opening.{all_of_main, first_words, first_privates, opening_of}
use Rattle.fk_meaning_state.proofs.beginning.opening.Goals as goal

pub returns-clause-opening : goal.returns-clause-opening
returns-clause-opening c =
    let program = program_of c.args.program.now in
    let facts = c.args.facts.now in
    let words = c.deref.result.now in
    let firsts = c.deref-2.result.now in
    let input = c.args.input.now in
    let main = all_of_main program facts in
    let told_words : words ≡ first_words program facts = cc in
    let told_firsts : firsts ≡ first_privates program facts = cc in
    let over = λ (ws : List ℕ) (fs : List ℕ). run.opening c.args.p ws input (slice_index fs) main in
    IfOk-weaker c.first.result
    (λ (s : State). (left : Work) → state_of left s ≡ run.opening c.args.p words input (slice_index firsts) left)
    (λ (s : State). state_of main s ≡ opening_of program facts input c.args.p)
    (λ s begins. begins main ∙ ap₂ over told_words told_firsts)
    c.first.ensures.opening
