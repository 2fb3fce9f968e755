-- Cycles in which harts unite with others.
use Rattle.std.specs.Prelude.{◌≡◌, ℕ, zero, List, [], ◌∷◌, Bool, true, false, ◌⊎◌}
use Rattle.fk_num.specs.Word.{Memory}
use Rattle.fk_meaning.specs.Processor.{Setting}
use Rattle.fk_core.specs.declared.op.CoreOp.{CoreOp}
use Rattle.fk_image.specs.declared.Image.{Image}
use Rattle.fk_machine.specs.Hart.{Hart, Setting as MachineSetting}
use Rattle.fk_sim_nodes.specs.Phase.{Leaving}
use Rattle.fk_sim_match.specs.Stage.{Unites, Stage, Meets}
use Rattle.fk_sim_match.specs.Plan.{Plan}
use Rattle.fk_sim_match.specs.Cycle.{IsLeft}
use Rattle.fk_sim_block.specs.Owner.{Owner, Doing, core_source}
use Rattle.fk_sim_block.specs.Stands.{Places}
use Rattle.fk_sim_block.specs.Node.{Nestings}
use Rattle.fk_sim_match.specs.Behind.{blocks_of, joining_blocks_of}

-- A hart leaves those with whom it unites, and so has met them.
abbrev pub unites_now : Stage → Bool
unites_now (Meets Unites w (Leaving zero)) = true
unites_now s = false

abbrev pub NobodyUnites : List Stage → Type 0
NobodyUnites [] = Unit {0}
NobodyUnites (s ∷ stages) = (unites_now s ≡ false) × NobodyUnites stages

abbrev pub SomebodyUnites : List Stage → Type 0
SomebodyUnites [] = ⊥
SomebodyUnites (s ∷ stages) = (unites_now s ≡ true) ⊎ SomebodyUnites stages

-- A hart that leaves its stage in a cycle in which nobody unites has committed.
abbrev pub CyclesLeaveApart : Type 0
CyclesLeaveApart =
    (core : List CoreOp) (image : Image) (places : Places) (nestings : Nestings) (setting : Setting)
    (plan : Plan) (first : ℕ → ℕ) (t : MachineSetting) (stages : List Stage)
    (hs : List Hart) (ps : List Owner) (ds : List Doing) (own own' : ℕ → Memory)
    → NobodyUnites stages
    → IsLeft (core_source core setting) image plan
    (joining_blocks_of core image places nestings setting plan first) t stages hs ps ds own own'
    → IsLeft (core_source core setting) image plan
    (blocks_of core image places nestings setting plan first) t stages hs ps ds own own'
