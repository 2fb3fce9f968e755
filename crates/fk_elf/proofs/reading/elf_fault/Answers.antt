use Rattle.std.proofs.Common.{subst, sym}
use Rattle.fk_image.specs.declared.fault.ImageFault.{ImageFault}
use Rattle.fk_image.specs.Refusals.{IsFault as IsImageFault}
use Rattle.fk_elf.specs.Parts.{IsImageMemory, image_bytes}
use Rattle.fk_elf.proofs.Faults.{bad_table, other-fault}
use Rattle.fk_elf.proofs.reading.elf_fault.Goals as goal

pub returns-in-BadTable-clause-fault : goal.returns-in-BadTable-clause-fault
returns-in-BadTable-clause-fault c = λ bytes has f.
    bad_table bytes c.in-BadTable.entry has (subst (λ (x : ImageFault). IsImageFault (image_bytes bytes) x) c.in-BadTable.is f)

pub returns-in-Memory-clause-memory : goal.returns-in-Memory-clause-memory
returns-in-Memory-clause-memory c = λ told. subst IsImageMemory (sym c.in-Memory.is) tt

pub returns-in_default-clause-fault : goal.returns-in_default-clause-fault
returns-in_default-clause-fault c = λ bytes has f. other-fault bytes c.args.fault has c.in_default.not-BadTable c.in_default.not-Memory f
