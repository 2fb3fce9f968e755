-- What a hart knows of the space of its group stays as long as its registers do.
use Rattle.std.proofs.Common.{◌≡◌, List, [], ◌∷◌, ◌∙◌}
use Rattle.fk_meaning.specs.Processor.{Level}
use Rattle.fk_machine.specs.Hart.{Hart}
use Rattle.fk_sim_block.specs.Node.{KnowsSpace, space_frames, space_blocks}

pub space_kept : (level : Level) (outer : List Level) (h h' : Hart) → space_frames h' ≡ space_frames h
    → space_blocks h' ≡ space_blocks h → KnowsSpace level outer h → KnowsSpace level outer h'
space_kept level [] h h' frames blocks known = tt
space_kept level (o ∷ outer) h h' frames blocks known = (frames ∙ known.0, blocks ∙ known.1)
