-- What is known of the states that the runs of such a list come to, and of the machine before its first cycle.
use Rattle.std.proofs.Common.{◌≡◌, ℕ, zero, suc, ◌+◌, ◌≤◌, ◌<◌, List, [], length, Some, None, ap, ◌∙◌, refl, arith}
use Rattle.std.specs.Prelude.{slice_get, slice_index}
use Rattle.fk_num.specs.Word.{Memory}
use Rattle.fk_tree.specs.Tree.{root}
use Rattle.fk_meaning.specs.Processor.{Setting, setting_of}
use Rattle.fk_meaning.specs.Round.{Runner, State}
use Rattle.fk_meaning.specs.Schedule.{Schedule, first_processor, beginners, run, ArePossible}
use Rattle.fk_core.specs.declared.op.CoreOp.{CoreOp}
use Rattle.fk_core.specs.Next.{Position, position, next, list_opening}
use Rattle.fk_lockstep_tree.specs.Ranges.{ranges_of}
use Rattle.fk_lockstep_tree.specs.Runs.{AreSingle}
use Rattle.fk_image.specs.declared.Image.{Image}
use Rattle.fk_sim_block.specs.Stands.{Places}
use Rattle.fk_sim_block.specs.Block.{beginner}
use Rattle.fk_sim_rounds.specs.InRange.{AreGiven}
use Rattle.fk_sim_rounds.specs.Follows.{IsInput}
use Rattle.fk_sim_block.specs.Node.{Nestings}
use Rattle.fk_sim_block.specs.Law.{Cycles}
use Rattle.fk_sim_rounds.specs.Next.{landed, HasNext}
use Rattle.fk_sim_runs.specs.Reached.{IsReached, RunsReach}
use Rattle.fk_sim_runs.proofs.Nexts.{reached_processors_have_next}
use Rattle.fk_sim_runs.specs.Opening.{OpensWith}
use Rattle.fk_sim_runs.proofs.Opening.{openings_are_followed}
use Rattle.fk_sim_runs.specs.Follow.{CarriesTrees}

-- a processor before the first round
abbrev first_runner : Setting → (firsts : Memory) → (left : Position) → (number : ℕ) → Runner Position
first_runner set firsts left number = record { left = left; has = first_processor set firsts number }

beginner_at : (set : Setting) (firsts : Memory) (left : Position) (h count i : ℕ) → i < count → slice_get (beginners set firsts left h count) i ≡ Some (first_runner set firsts left (h + i))
beginner_at set firsts left h zero i lt = absurd (omega (arith, lt))
beginner_at set firsts left h (suc count) zero lt = ap (λ k. Some (first_runner set firsts left k)) (omega arith)
beginner_at set firsts left h (suc count) (suc i) lt =
    beginner_at set firsts left (suc h) count i (omega (arith, lt)) ∙ ap (λ k. Some (first_runner set firsts left k)) (omega arith)

module _ (runs_reach : RunsReach) (core : List CoreOp) (main : ℕ) (firsts : List ℕ) (places : Places) (nestings : Nestings) (cycles : Cycles) (image : Image) (carries : CarriesTrees core main firsts places nestings cycles image)
    (input : List ℕ) (p : ℕ) (is_input : IsInput image input) (some : 1 ≤ p) (few : p ≤ 1024) where
  abbrev pub setting : Setting
  setting = setting_of p image.globals.items input

  abbrev pub first : State Position
  first = list_opening main image.globals.items firsts input p

  abbrev pub state : Schedule → State Position
  state schedule = run (next core) (setting_of p image.globals.items input) schedule (list_opening main image.globals.items firsts input p)

  pub given : AreGiven image.globals.items firsts input p
  given = record { few = few; room = is_input.room; globals_are_words = carries.globals_are_words; firsts_are_words = carries.firsts_are_words; input_are_words = is_input.words }

  pub reached : (schedule : Schedule) → ArePossible (next core) setting schedule first → AreSingle schedule → (state schedule).fault ≡ None → IsReached core nestings setting (state schedule)
  reached schedule possible single none =
      runs_reach core nestings main carries.tree image.globals.items firsts input p schedule some given possible single none

  -- ---- the opening

  begins_at : (number : ℕ) → number < p → HasNext core nestings setting (root p) number (landed core (beginner setting (slice_index firsts) main number))
  begins_at number lt =
      let r = first_runner setting (slice_index firsts) (position main []) number in
      let none : 0 + number ≡ number = omega arith in
      let at : slice_get first.runners number ≡ Some r
      = beginner_at setting (slice_index firsts) (position main []) 0 p number lt ∙ ap (λ k. Some (first_runner setting (slice_index firsts) (position main []) k)) none in
      let within = carries.tree.begins in
      let heap = (beginner setting (slice_index firsts) main number).heap in
      reached_processors_have_next core nestings main setting first number r heap carries.tree (reached [] tt tt refl) at
      (λ e. let same : main ≡ length core = ap (λ w. w.at) e in omega (arith, within, same))

  pub opens : OpensWith core image places nestings (ranges_of first) firsts main input p
  opens =
      openings_are_followed core image places nestings cycles firsts main (ranges_of first) input p carries.blocks carries.tree.jumps some few is_input.few is_input.room begins_at
