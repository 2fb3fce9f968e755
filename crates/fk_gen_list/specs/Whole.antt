-- The whole law.
use Rattle.std.specs.Prelude.{◌≡◌, ℕ, List, length, Option}
use Rattle.fk_core.specs.declared.op.CoreOp.{CoreOp}
use Rattle.fk_image.specs.declared.Image.{Image}
use Rattle.fk_asm.specs.declared.code.Code.{Code}
use Rattle.fk_sim_block.specs.Stands.{Frames, Places}
use Rattle.fk_sim_block.specs.Suits.{Suits}
use Rattle.fk_core_liveness.specs.declared.set.Set.{Set}
use Rattle.fk_gen.specs.declared.placed.Levels.{Levels}
use Rattle.fk_gen_flow.specs.Opening.{AreFirsts, HasOpening}
use Rattle.fk_gen_list.specs.Generable.{AreKept, HasCode, HasWholeCode, places_in}
use Rattle.fk_sim_block.specs.Node.{Gathering, Nestings, HasLevelRoom}
use Rattle.fk_sim_block.specs.Law.{GroupLaw}
use Rattle.fk_gen_group.specs.Start.{gathering_of}
use Rattle.fk_gen_list.specs.Cycles.{cycles_of}
use Rattle.fk_gen_list.specs.Laws.{AreInRange, HasLoneCode, HasGroupCode, HaveLevels}
use Rattle.fk_gen_list.specs.Laws.{HaveStepLevels, StepsHaveValues, TellsForks, nestings_of}

-- The image has all the code of a list.
pub record HasAllCode (core : List CoreOp) (kept : List Set) (saved : List Levels)
    (image : Image) (bound : ℕ → ℕ) (places : Places) (firsts : List ℕ)
    (main : ℕ) : Type 0 where
  pub opening : HasOpening image bound places firsts main
  pub alone : HasLoneCode core kept saved image bound places
  pub steps : HasGroupCode core saved image bound places

-- An image with the code that is generated for a list has all the code of that list.
abbrev pub GeneratedCodeIsWhole : Type 0
GeneratedCodeIsWhole =
    (core : List CoreOp) (kept : List Set) (saved : List Levels) (image : Image) (bound : ℕ → ℕ)
    (places : Places) (firsts : List ℕ) (main : ℕ)
    → HasWholeCode core kept saved image bound places firsts main
    → HasAllCode core kept saved image bound places firsts main

-- The levels that are told of a list have room in its frames, and go with its operations. Where
-- `main` begins there is none.
pub record HaveAllLevels (core : List CoreOp) (places : Places) (nestings : Nestings)
    (main : ℕ) : Type 0 where
  pub alone : HaveLevels core places nestings
  pub steps : HaveStepLevels core places nestings
  pub none : nestings.levels main ≡ 0
  pub room : HasLevelRoom places.frames nestings main 0

-- An image with all the code of a list has the law of blocks, if the list suits frames in which
-- calls keep no other words, and that have room for its levels.
abbrev pub CodeHasTheLaw : Type 0
CodeHasTheLaw =
    (core : List CoreOp) (kept : List Set) (saved : List Levels) (image : Image) (bound : ℕ → ℕ)
    (places : Places) (firsts : List ℕ) (main : ℕ) (forks : (index level : ℕ) → Option ℕ)
    → Suits core places.frames main → AreKept places.frames kept → AreInRange core image
    → StepsHaveValues core → AreFirsts places.frames.of_file firsts → TellsForks saved forks
    → HaveAllLevels core places (nestings_of saved forks (gathering_of core bound)) main
    → HasAllCode core kept saved image bound places firsts main
    → GroupLaw core image places (nestings_of saved forks (gathering_of core bound))
    (cycles_of core (length image.globals.items) kept saved) firsts main

-- Each image with this code has the law of blocks of groups, in all frames that suit the list, keep
-- no words except these and have room for its levels, where each step finds the value that it looks
-- at.
abbrev pub GivesGroupLaw : (core : List CoreOp) (kept : List Set) (saved : List Levels) (main : ℕ)
    (firsts : List ℕ) (globals : ℕ) → Code → Type 0
GivesGroupLaw core kept saved main firsts globals code =
    (image : Image) (frames : Frames) → HasCode code globals image → Suits core frames main
    → AreKept frames kept → frames.of_file ≡ length firsts
    → StepsHaveValues core → (forks : (index level : ℕ) → Option ℕ) → TellsForks saved forks
    → ((block : (index : ℕ) → ℕ) (start : Gathering)
    → HaveAllLevels core (places_in core block frames) (nestings_of saved forks start) main)
    → (block : (index : ℕ) → ℕ) × (start : Gathering)
    × GroupLaw core image (places_in core block frames) (nestings_of saved forks start)
    (cycles_of core globals kept saved) firsts main
