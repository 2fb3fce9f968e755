-- The operations of a list have sites and numbers of 32 bits.
use Rattle.std.proofs.Common.{ℕ, ◌^◌, ◌<◌, List, slice_index_or}
use Rattle.fk_core.specs.declared.op.CoreOp.{CoreOp}

-- the operation at an index has a site and a number of 32 bits
abbrev pub no_op : CoreOp
no_op = record { kind = 0; site = 0; number = 0; target = 0; depth = 0 }

abbrev pub HasWordsAt : List CoreOp → ℕ → Type 0
HasWordsAt ops k = ((slice_index_or ops k no_op).site < 2 ^ 32) × ((slice_index_or ops k no_op).number < 2 ^ 32)
