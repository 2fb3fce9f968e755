-- Lines that were made one by one are those of a block.
use Rattle.std.proofs.Common.{◌≡◌, List, None, true, false, [], ◌∷◌, ◌++◌, map, ap, ◌∙◌, refl}
use Rattle.fk_isa.specs.declared.instruction.Instruction.{Instruction}
use Rattle.fk_asm.specs.Assembly.{straight}
use Rattle.fk_gen.specs.declared.block_line.BlockLine.{BlockLine}
use Rattle.fk_gen.specs.Lines.{marked}
use Rattle.fk_gen_access.specs.Blocks.{Straight}

abbrev pub line_of : Instruction → BlockLine
line_of i = record { line = straight i; commits = false; event = None }

abbrev pub last_of : Instruction → BlockLine
last_of i = record { line = straight i; commits = true; event = None }

abbrev pub made : Straight → List BlockLine
made b = map line_of b.before ++ (last_of b.commit ∷ map line_of b.behind)

abbrev pub AllSame : List BlockLine → List BlockLine → Type 0
AllSame [] [] = Unit {0}
AllSame (x ∷ xs) (y ∷ ys) = (x ≡ y) × AllSame xs ys
AllSame xs ys = ⊥

pub all_same : (xs ys : List BlockLine) → AllSame xs ys → map marked xs ≡ map marked ys
all_same [] [] all = refl
all_same (x ∷ xs) (y ∷ ys) all = ap (λ z. marked z ∷ map marked xs) all.0 ∙ ap (λ zs. marked y ∷ zs) (all_same xs ys all.1)
all_same xs ys all = absurd (assumption all)
