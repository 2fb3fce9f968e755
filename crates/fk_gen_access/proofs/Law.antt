-- The law of accesses.
use Rattle.std.proofs.Common.{refl}
use Rattle.fk_meaning_operation.specs.declared.operation.Operation.TheVariants.{Take, Check, Read, Write, Combine, PrintNumber, PrintByte, Heap}
use Rattle.fk_gen_access.specs.Law.{AccessBlocksDo, AccessBlocksKeep}
use Rattle.fk_gen.proofs.Does.{does_of}
use Rattle.fk_gen_access.proofs.Prints.{print_number_does, print_byte_does}
use Rattle.fk_gen_access.proofs.Accesses.{read_does, write_does, combine_does}
use Rattle.fk_gen_access.proofs.Refusals.{check_does}
use Rattle.fk_gen_access.proofs.Mallocs.{take_does}
use Rattle.fk_gen_access.proofs.Hire.{hire_does}

pub access_blocks_keep : AccessBlocksKeep
access_blocks_keep core image bound places i op Take at is few has shared fits = λ setting t p h en. take_does core image places i op setting t p h bound at en fits has
access_blocks_keep core image bound places i op (Check alone) at is few has shared fits =
    λ setting t p h en. check_does core image places i op setting t p h alone bound at en fits few has
access_blocks_keep core image bound places i op Read at is few has shared fits = λ setting t p h en. read_does core image places i op setting t p h bound at en fits has
access_blocks_keep core image bound places i op Write at is few has shared fits = λ setting t p h en. write_does core image places i op setting t p h bound at en fits has
access_blocks_keep core image bound places i op (Combine by) at is few has shared fits =
    λ setting t p h en. combine_does core image places i op setting t p h by bound at en fits has
access_blocks_keep core image bound places i op PrintNumber at is few has shared fits =
    λ setting t p h en. print_number_does core image places i op setting t p h bound at en fits has
access_blocks_keep core image bound places i op PrintByte at is few has shared fits =
    λ setting t p h en. print_byte_does core image places i op setting t p h bound at en fits has
access_blocks_keep core image bound places i op Heap at is few has shared fits = λ setting t p h en. hire_does core image places i op setting t p h bound at en fits has (shared refl)
access_blocks_keep core image bound places i op operation at is few has shared fits = absurd (cc)

pub access_blocks_do : AccessBlocksDo
access_blocks_do core image bound places i op operation at is few has shared fits setting t p h en =
    does_of core image places setting t p h _ _ _ (access_blocks_keep core image bound places i op operation at is few has shared fits setting t p h en)
