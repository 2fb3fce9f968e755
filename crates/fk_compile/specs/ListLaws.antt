-- Flat lists have what code needs.
use Rattle.std.specs.Prelude.{◌≡◌, ℕ, ◌^◌, ◌<◌, ◌≤◌, List, All, length, sum_by}
use Rattle.fk_meaning_operation.specs.declared.operation.Operation.{Operation}
use Rattle.fk_meaning_forms.specs.Code.{Code}
use Rattle.fk_layout_walk.specs.declared.known.ProgramTables.{ProgramTables}
use Rattle.fk_layout_walk_statements.specs.Texts.{sites_of_text}
use Rattle.fk_core.specs.declared.op.CoreOp.{CoreOp}
use Rattle.fk_core.specs.WellFormed.{LeadsOn}
use Rattle.fk_core_flat.specs.Items.{straight, way_of}
use Rattle.fk_core_flat.specs.Laws.{AreShaped, IsFlat}
use Rattle.fk_lower_text.specs.Lowered.{HasSites}
use Rattle.fk_sim_block.specs.Next.{OpAt}
use Rattle.fk_core_levels.specs.Levels.{AreLevels}
use Rattle.fk_core_liveness.specs.declared.set.Set.{Set}
use Rattle.fk_core_liveness.specs.Live.{IsLive, IsLeast, words_in}
use Rattle.fk_core_typing.specs.Laws.{LeadsWithin}
use Rattle.fk_gen.specs.declared.placed.Levels.{Levels}
use Rattle.fk_gen_list.specs.Generable.{HasBlocks, IsGenerable, most_words}
use Rattle.fk_gen_list.specs.Laws.{StepsHaveValues}
use Rattle.fk_lower_laws.specs.Certain.{HasEnough}
use Rattle.fk_lower_laws.specs.Laws.{CanHaveGroups}

-- An operation that goes straight on has no target.
abbrev pub StraightHasNoTarget : Type 0
StraightHasNoTarget =
    (bodies : (binding : ℕ) → Code ℕ) (core : List CoreOp) (entry : (binding : ℕ) → ℕ)
    → AreShaped bodies → IsFlat bodies core entry
    → (i : ℕ) (op : CoreOp) (operation : Operation) → OpAt core i op operation
    → way_of operation ≡ straight → op.target ≡ 0

abbrev pub ListsHaveBlocks : Type 0
ListsHaveBlocks =
    (bodies : (binding : ℕ) → Code ℕ) (core : List CoreOp) (entry : (binding : ℕ) → ℕ)
    → AreShaped bodies → IsFlat bodies core entry
    → LeadsWithin core → HasBlocks core

abbrev pub StepsFindValues : Type 0
StepsFindValues = (core : List CoreOp) → HasEnough core → StepsHaveValues core

-- Code can be made of a flat list with groups. Its sites and numbers are words, as in every slice,
-- and so are the first values of private variables of file scope.
abbrev pub GroupedListsAreGenerable : Type 0
GroupedListsAreGenerable =
    (core : List CoreOp) (kept : List Set) (saved : List Levels) (main : ℕ) (firsts : List ℕ)
    → CanHaveGroups core main (length firsts) → HasBlocks core → LeadsOn core
    → IsLive core (words_in kept) → IsLeast core (words_in kept) → AreLevels core saved
    → All (λ op. (op.site < 2 ^ 32) × (op.number < 2 ^ 32)) core → All (λ v. v < 2 ^ 32) firsts
    → IsGenerable core kept saved main firsts

-- The blocks of a list have few words if its text has few operations.
abbrev pub ListsAreSmall : Type 0
ListsAreSmall = (known : ProgramTables) (core : List CoreOp) → HasSites known core
    → length (sites_of_text known) ≤ 16000 → sum_by most_words core ≤ 256000
