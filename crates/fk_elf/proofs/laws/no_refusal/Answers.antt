use Rattle.fk_elf.proofs.Faults as faults
use Rattle.fk_elf.proofs.laws.no_refusal.Goals as goal

pub returns : goal.returns
returns c = faults.no_refusal
