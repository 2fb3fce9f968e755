-- Where each operation of code has a number, so has each in the pieces of it.
use Rattle.std.proofs.Common.{◌≡◌, List, [], ◌∷◌, ℕ}
use Rattle.fk_lower.specs.declared.fault.LowerFault.{LowerFault}
use Rattle.fk_lower.specs.declared.fault.LowerFault.TheVariants as v
use Rattle.fk_meaning_forms.specs.Code.{Code}
use Rattle.fk_lower.specs.Tree.{PieceTree, Perform, Choose, While, Until, Quit, Break, Continue, Call, Ends, Pieces, no_pieces, piece, Part, code_of, code_before}
use Rattle.fk_lower.specs.Faults.{HaveNumbers, AreNumbered, IsNumbered, AllNumbered, AllHaveNumbers, IsListFault, IsWriteFault}

mutual
  one : (p : PieceTree) (rest : Code ℕ) → HaveNumbers (code_before p rest) → IsNumbered p × HaveNumbers rest
  one (Perform act) rest h = h
  one (Choose act x of_x y of_y) rest h = ((h.0, numbered x h.1, numbered y h.2), h.3)
  one (While test of_test body of_body step of_step) rest h = ((numbered test h.0, numbered body h.1, numbered step h.2), h.3)
  one (Until body of_body test of_test) rest h = ((numbered body h.0, numbered test h.1), h.2)
  one (Quit act) rest h = h
  one Break rest h = (tt, h)
  one Continue rest h = (tt, h)
  one (Call act function opening of_opening) rest h = ((h.0, numbered opening h.1), h.2)
  one (Ends act) rest h = h

  numbered : (pieces : Pieces) → HaveNumbers (code_of pieces) → AreNumbered pieces
  numbered no_pieces h = tt
  numbered (piece first others) h = let both = one first (code_of others) h in (both.0, numbered others both.1)

pub all_numbered : (parts : List Part) → AllHaveNumbers parts → AllNumbered parts
all_numbered [] h = tt
all_numbered (part ∷ parts) h = (numbered part.pieces h.0, all_numbered parts h.1)

pub list_fault : (parts : List Part) (fault told : LowerFault) → (AllNumbered parts → fault ≡ v.Memory) → (fault ≡ v.Memory → told ≡ v.Memory)
    → IsWriteFault told → IsListFault parts told
list_fault parts fault v.OutOfRange numbered memory is = λ numbers. let same : v.OutOfRange ≡ v.Memory = memory (numbered (all_numbered parts numbers)) in cc
list_fault parts fault v.Memory numbered memory is = tt
list_fault parts fault v.TooLong numbered memory is = absurd is
list_fault parts fault v.Misplaced numbered memory is = absurd is
