-- The shape of the blocks: few lines, none of which goes to a label.
use Rattle.std.proofs.Common.{◌≡◌, ℕ, ◌+◌, ◌-◌, ◌*◌, ◌≤◌, List, [], ◌∷◌, ◌++◌, map, length, Bool, true, false, All, arith, refl}
use Rattle.std.specs.Prelude.{◌==◌, if◌then◌else◌}
use Rattle.std.proofs.lemmas.List.{length-append, length-map}
use Rattle.std.proofs.lemmas.List.Elements.{All-nil, All-cons}
use Rattle.fk_meaning_operation.specs.declared.operation.OwnValue.TheVariants.{Value, Rank, GroupNumber, ProcessorNumber, Processors, GroupSize, InputLength, FrameAddress, InputAddress}
use Rattle.fk_meaning_operation.specs.declared.operation.Operation.{Operation}
use Rattle.fk_meaning_operation.specs.declared.operation.Operation.TheVariants.{Push, Get, Set, DropLast, CopyLast, Apply, Binary, Index}
use Rattle.fk_meaning_store.specs.Store.{address_of}
use Rattle.fk_isa.specs.declared.instruction.Instruction.{Instruction}
use Rattle.fk_isa.specs.declared.instruction.Instruction.TheVariants.{Add}
use Rattle.fk_asm.proofs.Straight.{IsUnlabeled}
use Rattle.fk_sim_block.specs.Stands.{group_frame_register}
use Rattle.fk_gen.specs.Lines.{quiet, commits, high_part, load_by, add_by, first_commits}
use Rattle.fk_gen.specs.Registers.{t0, t1}
use Rattle.fk_gen.specs.Operands.{operand, result}
use Rattle.fk_gen.specs.declared.placed.Levels.{Levels}
use Rattle.fk_gen.specs.Parts.{outward}
use Rattle.fk_gen_expr.specs.Operators.{operator_code}
use Rattle.fk_gen_expr.specs.Expressions.{IsExpression, expression_block, expression_code, load_node, past_header, own_address, part_address, times_size}
use Rattle.fk_gen_expr.proofs.Operators.{few_of_operator}

quiet_unlabeled : (is : List Instruction) → All IsUnlabeled (map quiet is)
quiet_unlabeled [] = All-nil IsUnlabeled
quiet_unlabeled (i ∷ is) = All-cons IsUnlabeled (quiet i) (map quiet is) refl (quiet_unlabeled is)

first_unlabeled : (is : List Instruction) → All IsUnlabeled (first_commits 1 is)
first_unlabeled [] = All-nil IsUnlabeled
first_unlabeled (i ∷ is) = All-cons IsUnlabeled (commits 1 i) (map quiet is) refl (quiet_unlabeled is)

pub block_unlabeled : (globals : ℕ) (levels : Levels) (d : ℕ) (operation : Operation) → All IsUnlabeled (expression_block globals levels d operation)
block_unlabeled globals levels d operation = first_unlabeled (expression_code globals levels d operation)

-- the code of an operation has 1 to 8 instructions
pub record IsShortCode (count : ℕ) : Type 0 where
  pub some : 1 ≤ count
  pub few : count ≤ 8

length_first : (is : List Instruction) → length (first_commits 1 is) ≡ length is
length_first [] = refl
length_first (i ∷ is) = let e = length-map is quiet in omega arith

-- what two loads, an operator and a store come to
joined_few : (is : List Instruction) (a b s : Instruction) → 1 ≤ length is → length is ≤ 5
    → IsShortCode (length (first_commits 1 (a ∷ b ∷ (is ++ s ∷ []))))
joined_few is a b s some few =
    let e = length_first (a ∷ b ∷ (is ++ s ∷ [])) in
    let f = length-append is (s ∷ []) in
    record { some = omega arith; few = omega arith }

number_short : (short : Bool) (n : ℕ) (s : Instruction) → IsShortCode (length (first_commits 1 (load_by short n ++ s ∷ [])))
number_short true n s = record { some = omega arith; few = omega arith }
number_short false n s = record { some = omega arith; few = omega arith }

index_short : (is_word : Bool) (size : ℕ) (a b c s : Instruction) → IsShortCode (length (first_commits 1 (a ∷ b ∷ (times_size is_word size ++ c ∷ s ∷ []))))
index_short true size a b c s = record { some = omega arith; few = omega arith }
index_short false size a b c s = record { some = omega arith; few = omega arith }

sum_short : (short : Bool) (n r : ℕ) (l s : Instruction) → IsShortCode (length (first_commits 1 (l ∷ (add_by short n r ++ s ∷ []))))
sum_short true n r l s = record { some = omega arith; few = omega arith }
sum_short false n r l s = record { some = omega arith; few = omega arith }

own_short : (short : Bool) (n r : ℕ) (s : Instruction) → IsShortCode (length (first_commits 1 (add_by short n r ++ s ∷ [])))
own_short true n r s = record { some = omega arith; few = omega arith }
own_short false n r s = record { some = omega arith; few = omega arith }

frame_short : (own : Bool) (levels : Levels) (d nesting word : ℕ) → IsShortCode (length (first_commits 1 (if own then own_address d word else part_address levels d nesting word)))
frame_short true levels d nesting word = own_short (high_part (4 * word) == 0) (4 * word) group_frame_register (result t0 (d + 1))
frame_short false levels d nesting word =
    sum_short (high_part (past_header word) == 0) (past_header word) t1 (load_node (outward levels nesting == 0) levels (outward levels nesting)) (result t0 (d + 1))

pub block_short : (globals : ℕ) (levels other : Levels) (d : ℕ) (operation : Operation) → IsExpression globals other d operation → IsShortCode (length (expression_block globals levels d operation))
block_short globals levels other d (Push n) is = number_short (high_part n == 0) n (result t0 (d + 1))
block_short globals levels other d (Get (Value variable)) is = record { some = omega arith; few = omega arith }
block_short globals levels other d (Get Rank) is = record { some = omega arith; few = omega arith }
block_short globals levels other d (Get GroupNumber) is = record { some = omega arith; few = omega arith }
block_short globals levels other d (Get GroupSize) is = record { some = omega arith; few = omega arith }
block_short globals levels other d (Get ProcessorNumber) is = record { some = omega arith; few = omega arith }
block_short globals levels other d (Get Processors) is = record { some = omega arith; few = omega arith }
block_short globals levels other d (Get InputLength) is = record { some = omega arith; few = omega arith }
block_short globals levels other d (Get InputAddress) is = number_short (high_part (address_of globals) == 0) (address_of globals) (result t0 (d + 1))
block_short globals levels other d (Get (FrameAddress nesting word)) is = frame_short (nesting == 0) levels d nesting word
block_short globals levels other d (Set variable) is = record { some = omega arith; few = omega arith }
block_short globals levels other d DropLast is = record { some = omega arith; few = omega arith }
block_short globals levels other d CopyLast is = record { some = omega arith; few = omega arith }
block_short globals levels other d (Apply sign) is = record { some = omega arith; few = omega arith }
block_short globals levels other d (Binary sign false) is = joined_few (operator_code sign) (operand t0 (d - 1)) (operand t1 d) (result t0 (d - 1)) (omega arith) (few_of_operator sign)
block_short globals levels other d (Binary sign true) is = joined_few (operator_code sign) (operand t1 (d - 1)) (operand t0 d) (result t0 (d - 1)) (omega arith) (few_of_operator sign)
block_short globals levels other d (Index size) is = index_short (size == 4) size (operand t0 (d - 1)) (operand t1 d) (Add t0 t0 t1) (result t0 (d - 1))
block_short globals levels other d operation is = absurd (assumption is)
