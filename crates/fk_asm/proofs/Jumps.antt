-- A jump with its distance has its fields in range.
use Rattle.std.proofs.Common.{◌≡◌, ℕ, suc, ◌+◌, ◌-◌, ◌*◌, ◌%◌, ◌^◌, ◌<◌, ◌≤◌, ℤ, pos, negsuc, neg_ℤ, ◌≤ℤ◌, ◌⊎◌, inl, inr, Option, Some, None, IfSome, option_map, List, refl, arith}
use Rattle.std.proofs.lemmas.Int.{ints}
use Rattle.std.specs.Int.{w32, cast_unsigned}
use Rattle.std.specs.Option.{option_map_or}
use Rattle.fk_isa.specs.declared.instruction.Instruction.{Instruction}
use Rattle.fk_isa.specs.declared.instruction.Instruction.TheVariants.{Jal, Beq, Bne, Blt, Bge, Bltu, Bgeu}
use Rattle.fk_isa.specs.Fits.{Fits, IsOffset}
use Rattle.fk_num.specs.Word.{word_sum}
use Rattle.fk_asm.specs.declared.line.Line.{Line}
use Rattle.fk_asm.specs.Jump.{distance, Reaches, with_distance}
use Rattle.fk_asm.specs.Assembly.{target, distance_of, placed}

-- the word of a distance from -half on and below half
record IsOffsetOf (half w : ℕ) : Type 0 where
  short : (w < half) ⊎ ((2 ^ 32 - half ≤ w) × (w < 2 ^ 32))
  even : w % 2 ≡ 0

offset : (half from to : ℕ) (d : ℤ) → half ≤ 2 ^ 31 → 2 ≤ half → d ≡ distance from to → neg_ℤ (pos half) ≤ℤ d → d ≤ℤ pos (half - 2) → IsOffsetOf half (cast_unsigned w32 d)
offset half from to (pos n) low some e least most =
    record { short = inl (omega (arith, ints)); even = omega (arith, ints) }
offset half from to (negsuc n) low some e least most =
    record { short = inr (omega (arith, ints), omega (arith, ints)); even = omega (arith, ints) }

IsOffset-near : (from to : ℕ) → neg_ℤ (pos 4096) ≤ℤ distance from to → distance from to ≤ℤ pos 4094 → IsOffset 13 (cast_unsigned w32 (distance from to))
IsOffset-near from to least most =
    let o = offset 4096 from to (distance from to) (omega arith) (omega arith) refl least most in (o.short, o.even)

IsOffset-far : (from to : ℕ) → neg_ℤ (pos (2 ^ 20)) ≤ℤ distance from to → distance from to ≤ℤ pos (2 ^ 20 - 2) → IsOffset 21 (cast_unsigned w32 (distance from to))
IsOffset-far from to least most =
    let o = offset (2 ^ 20) from to (distance from to) (omega arith) (omega arith) refl least most in (o.short, o.even)

Fits-with_distance : (i : Instruction) (from to : ℕ) → Fits i → Reaches i (distance from to) → Fits (with_distance i (distance from to))
Fits-with_distance (Jal rd imm) from to f r = (f.0, IsOffset-far from to r.0 r.1)
Fits-with_distance (Beq rs1 rs2 imm) from to f r = (f.0, f.1, IsOffset-near from to r.0 r.1)
Fits-with_distance (Bne rs1 rs2 imm) from to f r = (f.0, f.1, IsOffset-near from to r.0 r.1)
Fits-with_distance (Blt rs1 rs2 imm) from to f r = (f.0, f.1, IsOffset-near from to r.0 r.1)
Fits-with_distance (Bge rs1 rs2 imm) from to f r = (f.0, f.1, IsOffset-near from to r.0 r.1)
Fits-with_distance (Bltu rs1 rs2 imm) from to f r = (f.0, f.1, IsOffset-near from to r.0 r.1)
Fits-with_distance (Bgeu rs1 rs2 imm) from to f r = (f.0, f.1, IsOffset-near from to r.0 r.1)
Fits-with_distance i from to f r = f

Fits-to : (i : Instruction) (from : ℕ) (t : Option ℕ) → Fits i → IfSome (option_map (distance from) t) (Reaches i) → Fits (option_map_or (with_distance i) (option_map (distance from) t) i)
Fits-to i from None f r = f
Fits-to i from (Some to) f r = Fits-with_distance i from to f r

pub Fits-placed : (bound : List (Option ℕ)) (own : ℕ) (line : Line) → Fits line.instruction → IfSome (distance_of bound own line) (Reaches line.instruction) → Fits (placed bound own line)
Fits-placed bound own line f near = Fits-to line.instruction own (target bound line) f near

-- a jump at a word, by the word of a distance, arrives at the other word
arrives : (from to : ℕ) (d : ℤ) → from < 2 ^ 30 → to < 2 ^ 30 → d ≡ distance from to → word_sum (4 * from) (cast_unsigned w32 d) ≡ 4 * to
arrives from to (pos n) low high e = let sum : 4 * from + n ≡ 4 * to = omega (arith, ints) in rw sum (omega arith)
arrives from to (negsuc n) low high e = let sum : 4 * from + (2 ^ 32 - suc n) ≡ 4 * to + 2 ^ 32 = omega (arith, ints) in rw sum (omega arith)

pub word_sum-distance : (from to : ℕ) → from < 2 ^ 30 → to < 2 ^ 30 → word_sum (4 * from) (cast_unsigned w32 (distance from to)) ≡ 4 * to
word_sum-distance from to low high = arrives from to (distance from to) low high refl
