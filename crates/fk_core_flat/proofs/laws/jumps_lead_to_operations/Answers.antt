use Rattle.fk_core_flat.proofs.Jumps.{jumps_lead_to_operations}
use Rattle.fk_core_flat.proofs.laws.jumps_lead_to_operations.Goals as goal

pub returns : goal.returns
returns c = jumps_lead_to_operations
