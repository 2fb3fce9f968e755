-- What code on registers gives.
use Rattle.std.proofs.Common.{◌≡◌, ℕ, ◌-◌, ◌^◌, ◌<◌, ◌≤◌, [], ◌∷◌, ◌++◌, length, refl, sym, ap, subst, ◌∙◌, arith}
use Rattle.std.specs.Prelude.{bit_and}
use Rattle.fk_num.specs.Word.{word_sum}
use Rattle.fk_num.specs.Op.{applied}
use Rattle.fk_num.specs.declared.operator.Op.{Op}
use Rattle.fk_num.specs.declared.operator.Op.TheVariants as op
use Rattle.fk_meaning_operation.specs.declared.operation.Unary.{Unary}
use Rattle.fk_meaning_operation.specs.declared.operation.Unary.TheVariants.{Negate, Complement, Not}
use Rattle.fk_meaning.specs.Local.{applied_to}
use Rattle.fk_isa.specs.declared.instruction.Instruction.{Instruction}
use Rattle.fk_isa.specs.declared.instruction.Instruction.TheVariants.{Add, Sub, Sll, Slt, Sltu, Xor, Srl, Sra, Or, And, Mul, Mulh, Mulhsu, Mulhu, Div, Divu, Rem, Remu}
use Rattle.fk_machine.specs.Hart.{Hart}
use Rattle.fk_machine.proofs.Performs.{writes}
use Rattle.fk_gen.proofs.Walk.{Told, Quiets, Plain, after, CanRun, walk, CanWalk}
use Rattle.fk_sim_block.specs.Stands.{zero_register, frame_register, end_register, number_register, rank_register, size_register, top_register, local_register, shared_register, heap_register, shared_mask_register, device_register, heap_mask_register, group_frame_register}
use Rattle.fk_sim_block.specs.Node.{node_register, body_register, frames_register, blocks_register}
use Rattle.fk_gen.specs.Registers.{t0, t1, t2}
use Rattle.fk_gen_expr.specs.Operators.{operator_code, sign_instruction, keep_first, take_second}
use Rattle.fk_gen_expr.proofs.Words.{chosen, not_less-signed, not_less-unsigned, equal, other, zero_alone, least-signed, greatest-signed, least-unsigned, greatest-unsigned}
use Rattle.fk_gen_expr.proofs.Local.{on_registers, walk-append, can_walk-append}

-- the registers that stand for something
abbrev pub HasSame : Hart → Hart → Type 0
HasSame h h' =
    (h'.registers zero_register ≡ h.registers zero_register) × (h'.registers frame_register ≡ h.registers frame_register) × (h'.registers end_register ≡ h.registers end_register)
    × (h'.registers number_register ≡ h.registers number_register) × (h'.registers rank_register ≡ h.registers rank_register) × (h'.registers size_register ≡ h.registers size_register)
    × (h'.registers local_register ≡ h.registers local_register) × (h'.registers shared_register ≡ h.registers shared_register) × (h'.registers heap_register ≡ h.registers heap_register)
    × (h'.registers top_register ≡ h.registers top_register) × (h'.registers shared_mask_register ≡ h.registers shared_mask_register) × (h'.registers device_register ≡ h.registers device_register) × (h'.registers heap_mask_register ≡ h.registers heap_mask_register)
    × (h'.registers node_register ≡ h.registers node_register) × (h'.registers body_register ≡ h.registers body_register) × (h'.registers frames_register ≡ h.registers frames_register) × (h'.registers blocks_register ≡ h.registers blocks_register)
    × (h'.registers group_frame_register ≡ h.registers group_frame_register)

-- code leaves a value in a register, and all that stands for something as it was
pub record Gives (told : Told) (code : Quiets) (h : Hart) (register v : ℕ) : Type 0 where
  pub can : CanWalk told code h
  pub same : HasSame h (walk told code h)
  pub local : (walk told code h).local ≡ h.local
  pub result : (walk told code h).registers register ≡ v

pub itself : (h : Hart) → HasSame h h
itself h = (refl, refl, refl, refl, refl, refl, refl, refl, refl, refl, refl, refl, refl, refl, refl, refl, refl, refl)

in_turn : (h h1 h2 : Hart) → HasSame h h1 → HasSame h1 h2 → HasSame h h2
in_turn h h1 h2 a b =
    (b.0 ∙ a.0, b.1 ∙ a.1, b.2 ∙ a.2, b.3 ∙ a.3, b.4 ∙ a.4, b.5 ∙ a.5, b.6 ∙ a.6, b.7 ∙ a.7, b.8 ∙ a.8, b.9 ∙ a.9, b.10 ∙ a.10, b.11 ∙ a.11, b.12 ∙ a.12, b.13 ∙ a.13, b.14 ∙ a.14, b.15 ∙ a.15, b.16 ∙ a.16, b.17 ∙ a.17)

-- code behind code that only prepares it
pub gives_behind : (told : Told) (xs ys : Quiets) (h : Hart) (register v : ℕ) → CanWalk told xs h → HasSame h (walk told xs h)
    → (walk told xs h).local ≡ h.local
    → Gives told ys (walk told xs h) register v → Gives told (xs ++ ys) h register v
gives_behind told xs ys h register v can same locals gives =
    let e = sym (walk-append told xs ys h) in
    record {
      can = can_walk-append told xs ys h can gives.can;
      same = subst (HasSame h) e (in_turn h (walk told xs h) (walk told ys (walk told xs h)) same gives.same);
      local = subst (λ g. g.local ≡ h.local) e (gives.local ∙ locals);
      result = subst (λ g. g.registers register ≡ v) e gives.result;
    }

-- one instruction that gives t0 a value
alone : (told : Told) (i : Instruction) (h : Hart) (v : ℕ) → CanRun i Plain h → after told i Plain h ≡ writes h t0 v
    → Gives told (on_registers (i ∷ [])) h t0 v
alone told i h v can e =
    let back = sym e in
    record {
      can = (can, tt);
      same = subst (HasSame h) back (itself h);
      local = subst (λ g. g.local ≡ h.local) back refl;
      result = subst (λ g. g.registers t0 ≡ v) back refl;
    }

-- t0 and t1 have words
pub record HasOperands (h : Hart) (a b : ℕ) : Type 0 where
  pub nought : h.registers zero_register ≡ 0
  pub first : h.registers t0 ≡ a
  pub second : h.registers t1 ≡ b
  pub first_word : h.registers t0 < 2 ^ 32
  pub second_word : h.registers t1 < 2 ^ 32

-- a test in t2 chooses one of the two
least_on : (told : Told) (i : Instruction) (h : Hart) (test v : ℕ) → CanRun i Plain h → after told i Plain h ≡ writes h t2 test → h.registers zero_register ≡ 0
    → chosen test (h.registers t1) (h.registers t0) ≡ v → Gives told (on_registers (i ∷ take_second)) h t0 v
least_on told i h test v can e nought result = record {
  can = subst (λ g. CanRun i Plain h × CanWalk told (on_registers take_second) g) (sym e) (can, (tt, (tt, (tt, (tt, tt)))));
  same = subst (λ g. HasSame h (walk told (on_registers take_second) g)) (sym e) (itself h);
  local = subst (λ g. (walk told (on_registers take_second) g).local ≡ h.local) (sym e) refl;
  result = subst (λ g. (walk told (on_registers take_second) g).registers t0 ≡ v) (sym e)
      (ap (λ z. word_sum (bit_and (applied op.Sub (h.registers t1) (h.registers t0)) (applied op.Sub z test)) (h.registers t0)) nought ∙ result);
}

greatest_on : (told : Told) (i : Instruction) (h : Hart) (test v : ℕ) → CanRun i Plain h → after told i Plain h ≡ writes h t2 test → h.registers zero_register ≡ 0
    → chosen test (h.registers t0) (h.registers t1) ≡ v → Gives told (on_registers (i ∷ keep_first)) h t0 v
greatest_on told i h test v can e nought result = record {
  can = subst (λ g. CanRun i Plain h × CanWalk told (on_registers keep_first) g) (sym e) (can, (tt, (tt, (tt, (tt, tt)))));
  same = subst (λ g. HasSame h (walk told (on_registers keep_first) g)) (sym e) (itself h);
  local = subst (λ g. (walk told (on_registers keep_first) g).local ≡ h.local) (sym e) refl;
  result = subst (λ g. (walk told (on_registers keep_first) g).registers t0 ≡ v) (sym e)
      (ap (λ z. word_sum (bit_and (applied op.Sub (h.registers t0) (h.registers t1)) (applied op.Sub z test)) (h.registers t1)) nought ∙ result);
}

operator_on : (told : Told) (o : Op) (h : Hart) (a b : ℕ) → HasOperands h a b
    → Gives told (on_registers (operator_code o)) h t0 (applied o (h.registers t0) (h.registers t1))
operator_on told op.Add h a b has = alone told (Add t0 t0 t1) h _ tt refl
operator_on told op.Sub h a b has = alone told (Sub t0 t0 t1) h _ tt refl
operator_on told op.Mul h a b has = alone told (Mul t0 t0 t1) h _ tt refl
operator_on told op.MulHS h a b has = alone told (Mulh t0 t0 t1) h _ tt refl
operator_on told op.MulHSU h a b has = alone told (Mulhsu t0 t0 t1) h _ tt refl
operator_on told op.MulHU h a b has = alone told (Mulhu t0 t0 t1) h _ tt refl
operator_on told op.DivS h a b has = alone told (Div t0 t0 t1) h _ tt refl
operator_on told op.DivU h a b has = alone told (Divu t0 t0 t1) h _ tt refl
operator_on told op.RemS h a b has = alone told (Rem t0 t0 t1) h _ tt refl
operator_on told op.RemU h a b has = alone told (Remu t0 t0 t1) h _ tt refl
operator_on told op.And h a b has = alone told (And t0 t0 t1) h _ tt refl
operator_on told op.Or h a b has = alone told (Or t0 t0 t1) h _ tt refl
operator_on told op.Xor h a b has = alone told (Xor t0 t0 t1) h _ tt refl
operator_on told op.Shl h a b has = alone told (Sll t0 t0 t1) h _ tt refl
operator_on told op.ShrS h a b has = alone told (Sra t0 t0 t1) h _ tt refl
operator_on told op.ShrU h a b has = alone told (Srl t0 t0 t1) h _ tt refl
operator_on told op.LtS h a b has = alone told (Slt t0 t0 t1) h _ tt refl
operator_on told op.LtU h a b has = alone told (Sltu t0 t0 t1) h _ tt refl
operator_on told op.LeS h a b has = record {
  can = (tt, (tt, tt));
  same = itself h;
  local = refl;
  result = not_less-signed (h.registers t0) (h.registers t1);
}
operator_on told op.LeU h a b has = record {
  can = (tt, (tt, tt));
  same = itself h;
  local = refl;
  result = not_less-unsigned (h.registers t0) (h.registers t1);
}
operator_on told op.Eq h a b has = record {
  can = (tt, (tt, tt));
  same = itself h;
  local = refl;
  result = equal (h.registers t0) (h.registers t1) has.first_word has.second_word;
}
operator_on told op.Ne h a b has = record {
  can = (tt, (tt, tt));
  same = itself h;
  local = refl;
  result =
      ap (λ z. applied op.LtU z (applied op.Sub (h.registers t0) (h.registers t1))) has.nought
      ∙ other (h.registers t0) (h.registers t1) has.first_word has.second_word;
}
operator_on told op.MinS h a b has = least_on told (Slt t2 t1 t0) h _ _ tt refl has.nought (least-signed (h.registers t0) (h.registers t1) has.first_word has.second_word)
operator_on told op.MaxS h a b has = greatest_on told (Slt t2 t1 t0) h _ _ tt refl has.nought (greatest-signed (h.registers t0) (h.registers t1) has.first_word has.second_word)
operator_on told op.MinU h a b has = least_on told (Sltu t2 t1 t0) h _ _ tt refl has.nought (least-unsigned (h.registers t0) (h.registers t1) has.first_word has.second_word)
operator_on told op.MaxU h a b has = greatest_on told (Sltu t2 t1 t0) h _ _ tt refl has.nought (greatest-unsigned (h.registers t0) (h.registers t1) has.first_word has.second_word)

-- the code of an operator gives in t0 what it gives of the words in t0 and t1
pub operator_gives : (told : Told) (o : Op) (h : Hart) (a b : ℕ) → HasOperands h a b
    → Gives told (on_registers (operator_code o)) h t0 (applied o a b)
operator_gives told o h a b has =
    subst (λ v. Gives told (on_registers (operator_code o)) h t0 v)
    (ap (λ x. applied o x (h.registers t1)) has.first ∙ ap (applied o a) has.second)
    (operator_on told o h a b has)

-- and that of a sign what it gives of the word in t0
pub sign_gives : (told : Told) (sign : Unary) (h : Hart) (a : ℕ) → h.registers zero_register ≡ 0 → h.registers t0 ≡ a
    → Gives told (on_registers (sign_instruction sign ∷ [])) h t0 (applied_to sign a)
sign_gives told Negate h a nought e = record {
  can = (tt, tt);
  same = itself h;
  local = refl;
  result = ap (λ z. applied op.Sub z (h.registers t0)) nought ∙ ap (applied op.Sub 0) e;
}
sign_gives told Complement h a nought e = record {
  can = (tt, tt);
  same = itself h;
  local = refl;
  result = ap (λ v. applied op.Xor v (2 ^ 32 - 1)) e;
}
sign_gives told Not h a nought e = record {
  can = (tt, tt);
  same = itself h;
  local = refl;
  result = ap (λ v. applied op.LtU v 1) e ∙ zero_alone a;
}

-- an operator has at most five instructions
pub few_of_operator : (o : Op) → length (operator_code o) ≤ 5
few_of_operator op.Add = omega arith
few_of_operator op.Sub = omega arith
few_of_operator op.Mul = omega arith
few_of_operator op.MulHS = omega arith
few_of_operator op.MulHSU = omega arith
few_of_operator op.MulHU = omega arith
few_of_operator op.DivS = omega arith
few_of_operator op.DivU = omega arith
few_of_operator op.RemS = omega arith
few_of_operator op.RemU = omega arith
few_of_operator op.And = omega arith
few_of_operator op.Or = omega arith
few_of_operator op.Xor = omega arith
few_of_operator op.Shl = omega arith
few_of_operator op.ShrS = omega arith
few_of_operator op.ShrU = omega arith
few_of_operator op.LtS = omega arith
few_of_operator op.LtU = omega arith
few_of_operator op.LeS = omega arith
few_of_operator op.LeU = omega arith
few_of_operator op.Eq = omega arith
few_of_operator op.Ne = omega arith
few_of_operator op.MinS = omega arith
few_of_operator op.MaxS = omega arith
few_of_operator op.MinU = omega arith
few_of_operator op.MaxU = omega arith
