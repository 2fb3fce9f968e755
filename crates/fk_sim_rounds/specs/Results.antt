-- What a cycle of the machine is in the run that it follows.
use Rattle.std.specs.Prelude.{◌≡◌, ℕ, suc, List, Option, Some}
use Rattle.fk_meaning.specs.Processor.{Setting}
use Rattle.fk_meaning.specs.Round.{State, cut, result}
use Rattle.fk_core.specs.declared.op.CoreOp.{CoreOp}
use Rattle.fk_core.specs.Next.{Position, next}
use Rattle.fk_sim_nodes.specs.Source.{AllPass, FaultsAfter}
use Rattle.fk_sim_match.specs.Stage.{Stage, Pairwise, Remains, counts_for, AllDoOne}
use Rattle.fk_sim_block.specs.Owner.{Commons, commons_of, Owner, Doing, core_source}
use Rattle.fk_sim_rounds.specs.Next.{JumpsLead, all_landed}
use Rattle.fk_sim_rounds.specs.After.{tree_after, owners_after}
use Rattle.fk_sim_rounds.specs.Beside.{IsBeside, AreInOrder}

module _ (core : List CoreOp) (setting : Setting) (stages : List Stage) (s : State Position) where
  -- The state after the round of those whose stages commit.
  abbrev pub after : State Position
  after = result (next core) setting (counts_for stages) s

  -- The state after the round has the tree after its steps, and matches its processors.
  pub record IsAfter (did : List Doing) (shared : Commons) : Type 0 where
    pub tree : after.tree ≡ tree_after s.tree did
    pub beside : IsBeside core setting after
        (all_landed core (owners_after s.tree (tree_after s.tree did) did)) shared

  -- What the round makes of the processors that match the state: they do their parts, of one
  -- operation at most, one after another, and one that doesn't commit keeps a stage.
  pub record Makes (did : List Doing) (afters : List (Option Stage)) : Type 0 where
    pub ps : List Owner
    pub shared : Commons
    pub store : Commons
    pub order : AreInOrder 0 s.runners
    pub beside : IsBeside core setting s ps shared
    pub singles : AllDoOne stages
    pub passes : AllPass (core_source core setting) (counts_for stages) ps shared did store
    pub stay : Pairwise Remains stages afters

  -- The processor of this number faults at a site, both in the round and in the round without the
  -- processors above it.
  pub record IsFault (place site : ℕ) (shared : Commons) : Type 0 where
    pub whole : after.fault ≡ Some (record { site = site; processor = place })
    pub stopped : (result (next core) setting (cut (suc place) (counts_for stages)) s).fault
        ≡ Some (record { site = site; processor = place })
    pub commons : commons_of shared.asked
        (result (next core) setting (cut (suc place) (counts_for stages)) s).store ≡ shared

abbrev pub CyclesAreResults : Type 0
CyclesAreResults =
    (core : List CoreOp) (setting : Setting) (stages : List Stage) (s : State Position)
    (ps : List Owner) (did : List Doing) (shared shared' : Commons)
    → JumpsLead core → AreInOrder 0 s.runners → IsBeside core setting s ps shared
    → AllDoOne stages → AllPass (core_source core setting) (counts_for stages) ps shared did shared'
    → IsAfter core setting stages s did shared'

abbrev pub CutsAreFaults : Type 0
CutsAreFaults =
    (core : List CoreOp) (setting : Setting) (stages : List Stage) (s : State Position)
    (ps : List Owner) (place site : ℕ) (shared shared' : Commons)
    → JumpsLead core → AreInOrder 0 s.runners → IsBeside core setting s ps shared
    → AllDoOne stages
    → FaultsAfter (core_source core setting) place site (counts_for stages) ps shared shared'
    → IsFault core setting stages s place site shared'
