-- The lines of a split up to the code that splits share.
use Rattle.std.proofs.Common.{◌≡◌, ◌≢◌, ℕ, zero, suc, ◌+◌, ◌*◌, ◌<◌, ◌≤◌, List, [], ◌∷◌, ◌++◌, length, Bool, true, false, Some, None, sym, ap, subst, ◌∙◌, arith, refl, inl, inr, Option}
use Rattle.std.specs.Prelude.{◌==◌, nat_lt, is_some, if◌then◌else◌}
use Rattle.std.specs.Int.{from_bool}
use Rattle.std.proofs.lemmas.Bool.{ne_eqb, lt-ltb, le-ltb, cases_lt}
use Rattle.fk_num.specs.Word.{Memory, put, word_sum}
use Rattle.fk_num.specs.Op.{applied}
use Rattle.fk_num.specs.declared.operator.Op.TheVariants as num
use Rattle.fk_space.specs.Space.{Space, free, share, equal_part}
use Rattle.fk_meaning_operation.specs.declared.operation.SplitKind.{SplitKind}
use Rattle.fk_meaning_operation.specs.declared.operation.SplitKind.TheVariants.{IfAlone, IfElse, AndThen, OrElse, Loop, Fork}
use Rattle.fk_meaning_operation.specs.declared.operation.Operation.TheVariants.{Split}
use Rattle.fk_meaning.specs.Processor.{Setting, values, last}
use Rattle.fk_meaning.specs.Group.{part, has_parts}
use Rattle.fk_core.specs.declared.op.CoreOp.{CoreOp}
use Rattle.fk_image.specs.declared.Image.{Image}
use Rattle.fk_isa.specs.declared.instruction.Instruction.TheVariants.{Jal, Addi, Sltiu, Sltu}
use Rattle.fk_asm.specs.Block.{MarkedLine}
use Rattle.fk_machine.specs.Hart.{Hart, Setting as MachineSetting}
use Rattle.fk_sim_nodes.specs.Node.{Member}
use Rattle.fk_sim_nodes.specs.Alone.{RunsPrivately, in_cycles}
use Rattle.fk_sim_block.specs.Owner.{Owner}
use Rattle.fk_sim_block.specs.Stands.{Places, zero_register, frame_register}
use Rattle.fk_sim_block.specs.Block.{Enters}
use Rattle.fk_sim_block.specs.Node.{Nestings}
use Rattle.fk_gen.specs.Registers.{ra, t0, t2, t3}
use Rattle.fk_gen.specs.Lines.{goes_to, at_private, label_of}
use Rattle.fk_gen.specs.Operands.{operand, result}
use Rattle.fk_gen.specs.InPlace.{LinesAt}
use Rattle.fk_gen.proofs.Walk.{Quiets, Plain, LocalAt, CanWalk, quiet_lines, walk, told_of, walked, lines_split, runs_join}
use Rattle.fk_gen.proofs.Jumps.{jumps, jal_private}
use Rattle.fk_gen.proofs.Does.{quiet_length, holds_in_cycles}
use Rattle.fk_gen_group.specs.Splits.{no_parts, part_lines, parts_label}
use Rattle.fk_gen_group.specs.Laws.{IsInPlace, LeavesBy}
use Rattle.fk_gen_group.proofs.Last.{value_word, is_value, is_last}

-- all splits but a `fork` leave `@` and `$` as they are
abbrev pub is_implicit : SplitKind → Bool
is_implicit Fork = false
is_implicit by = true

pub plain_of : (by : SplitKind) (told : Option ℕ) → is_implicit by ≡ true → LeavesBy by told → told ≡ None
plain_of IfAlone told is left = left
plain_of IfElse told is left = left
plain_of AndThen told is left = left
plain_of OrElse told is left = left
plain_of Loop told is left = left
plain_of by told is left = absurd (cc)

-- ---- room for parts

pub no_words : (s : Space) (k : ℕ) → free s < 4 * k → is_some (share s k) ≡ false
no_words s k lt = ap (λ b. is_some (if b then None else (if nat_lt (equal_part s k) 16 then None else Some (equal_part s k)))) (lt-ltb (free s) (4 * k) lt)

pub small_parts : (s : Space) (k : ℕ) → equal_part s k < 16 → is_some (share s k) ≡ false
small_parts s k lt = elim (cases_lt (free s) (4 * k)) [
  | inl less ↦ no_words s k less
  | inr le ↦
      ap (λ b. is_some (if b then None else (if nat_lt (equal_part s k) 16 then None else Some (equal_part s k)))) (le-ltb (free s) (4 * k) le)
      ∙ ap (λ b. is_some (if b then None else Some (equal_part s k))) (lt-ltb (equal_part s k) 16 lt)
]

pub enough : (s : Space) (k : ℕ) → 4 * k ≤ free s → 16 ≤ equal_part s k → is_some (share s k) ≡ true
enough s k le many =
    ap (λ b. is_some (if b then None else (if nat_lt (equal_part s k) 16 then None else Some (equal_part s k)))) (le-ltb (free s) (4 * k) le)
    ∙ ap (λ b. is_some (if b then None else Some (equal_part s k))) (le-ltb (equal_part s k) 16 many)

pub both_ways : (b : Bool) → b ≡ true → b ≡ false → ⊥
both_ways b e f = absurd (cc)

-- one part needs 20 words, and two need 40
pub room_of_one : (s : Space) → has_parts s 1 ≡ true → 20 ≤ free s
room_of_one s e = elim (cases_lt (free s) 20) [
  | inl lt ↦ absurd (both_ways (has_parts s 1) e (elim (cases_lt (free s) (4 * 1)) [
    | inl less ↦ no_words s 1 less
    | inr le ↦ small_parts s 1 (omega arith)
  ]))
  | inr le ↦ le
]

pub full_of_one : (s : Space) → has_parts s 1 ≡ false → free s < 20
full_of_one s e = elim (cases_lt (free s) 20) [
  | inl lt ↦ lt
  | inr le ↦ absurd (both_ways (has_parts s 1) (enough s 1 (omega arith) (omega arith)) e)
]

pub room_of_two : (s : Space) → has_parts s 2 ≡ true → 40 ≤ free s
room_of_two s e = elim (cases_lt (free s) 40) [
  | inl lt ↦ absurd (both_ways (has_parts s 2) e (elim (cases_lt (free s) (4 * 2)) [
    | inl less ↦ no_words s 2 less
    | inr le ↦ small_parts s 2 (omega arith)
  ]))
  | inr le ↦ le
]

pub full_of_two : (s : Space) → has_parts s 2 ≡ false → free s < 40
full_of_two s e = elim (cases_lt (free s) 40) [
  | inl lt ↦ lt
  | inr le ↦ absurd (both_ways (has_parts s 2) (enough s 2 (omega arith) (omega arith)) e)
]

-- ---- which part

-- what a split into one part has of who enters it, and a split into two of the second part
abbrev pub flag_by : SplitKind → List ℕ → ℕ
flag_by IfElse vs = from_bool (last vs == 0)
flag_by by vs = from_bool (is_some (part by vs))

not_nought : (v : ℕ) → from_bool (nat_lt 0 v) ≡ from_bool (is_some {T = ℕ} (if v == 0 then None else Some 0))
not_nought zero = refl
not_nought (suc v) =
    ap from_bool (lt-ltb 0 (suc v) (omega arith)) ∙ sym (ap (λ b. from_bool (is_some {T = ℕ} (if b then None else Some 0))) (ne_eqb (suc v) 0 (λ e. omega arith)))

nought_or : (v : ℕ) → from_bool (nat_lt v 1) ≡ from_bool (is_some {T = ℕ} (if v == 0 then Some 0 else None))
nought_or zero = refl
nought_or (suc v) =
    ap from_bool (le-ltb (suc v) 1 (omega arith)) ∙ sym (ap (λ b. from_bool (is_some {T = ℕ} (if b then Some 0 else None))) (ne_eqb (suc v) 0 (λ e. omega arith)))

nought_is : (v : ℕ) → from_bool (nat_lt v 1) ≡ from_bool (v == 0)
nought_is zero = refl
nought_is (suc v) = ap from_bool (le-ltb (suc v) 1 (omega arith)) ∙ sym (ap from_bool (ne_eqb (suc v) 0 (λ e. omega arith)))

-- ---- the lines

-- who waits at an `||` has 1 in place of its value
abbrev pub memory_by : SplitKind → (depth : ℕ) → Hart → Memory
memory_by OrElse depth h = put h.local (value_word depth h) (applied num.LtU (h.registers zero_register) (h.local (value_word depth h)))
memory_by by depth h = h.local

module _ (core : List CoreOp) (image : Image) (bound : ℕ → ℕ) (places : Places) (nestings : Nestings) (i : ℕ) (op : CoreOp) (by : SplitKind)
    (place : IsInPlace core image bound places nestings i op (Split by)) (setting : Setting) (t : MachineSetting) (m : Member) (p : Owner)
    (en : Enters core image places setting t i op (Split by) p m.hart) where
  -- the word behind the jump to that code
  abbrev pub link_at : ℕ
  link_at = places.block i + length (part_lines by op.depth) + 2

  -- the hart at that code
  pub record Fronted : Type 0 where
    pub hart : Hart
    pub runs : RunsPrivately image t m.number (length (part_lines by op.depth) + 2) m.hart hart
    pub at : hart.pc ≡ 4 * bound (parts_label by)
    pub live : hart.ended ≡ false
    pub flag : hart.registers t3 ≡ flag_by by (values p.runner.has)
    pub slot : hart.registers t2 ≡ word_sum (m.hart.registers frame_register) (at_private (nestings.behind i + 4 * nestings.levels i))
    pub link : hart.registers ra ≡ 4 * link_at
    pub local : hart.local ≡ memory_by by op.depth m.hart
    pub others : (r : ℕ) → r ≢ 1 → r ≢ 5 → r ≢ 7 → r ≢ 28 → hart.registers r ≡ m.hart.registers r
    pub back : LinesAt image bound link_at (goes_to (Jal zero_register 0) (label_of op.target) ∷ no_parts op.site)
    pub next : places.block (suc i) ≡ link_at + 4

  abbrev w : ℕ
  w = value_word op.depth m.hart

  abbrev rest : List MarkedLine
  rest = goes_to (Jal ra 0) (parts_label by) ∷ goes_to (Jal zero_register 0) (label_of op.target) ∷ no_parts op.site

  -- after the lines of the part
  fronted_with : (quiets : Quiets) → length quiets ≡ length (part_lines by op.depth) + 1 → LinesAt image bound (places.block i) (quiet_lines quiets ++ rest)
      → CanWalk (told_of t m.number) quiets m.hart → places.block (suc i) ≡ places.block i + length (part_lines by op.depth) + 6
      → (walk (told_of t m.number) quiets m.hart).registers t3 ≡ flag_by by (values p.runner.has)
      → (walk (told_of t m.number) quiets m.hart).registers t2 ≡ word_sum (m.hart.registers frame_register) (at_private (nestings.behind i + 4 * nestings.levels i))
      → (walk (told_of t m.number) quiets m.hart).local ≡ memory_by by op.depth m.hart
      → ((r : ℕ) → r ≢ 5 → r ≢ 7 → r ≢ 28 → (walk (told_of t m.number) quiets m.hart).registers r ≡ m.hart.registers r) → Fronted
  fronted_with quiets many lines can next flag slot local others =
      let k = places.block i in
      let told = told_of t m.number in
      let pc : m.hart.pc ≡ 4 * k = en.at.at ∙ ap (λ j. 4 * places.block j) en.index in
      let split = lines_split image bound k (quiet_lines quiets) rest lines in
      let same = quiet_length quiets in
      let there : k + length (quiet_lines quiets) ≡ k + length quiets = omega arith in
      let behind = subst (λ j. LinesAt image bound j rest) there split.1 in
      let v = walked image bound t m.number en.running.code quiets k m.hart split.0 pc en.at.live can in
      let h = walk told quiets m.hart in
      let target = 4 * bound (parts_label by) in
      let within = behind.0.within in
      let at = v.pc in
      let count : length quiets + 1 ≡ length (part_lines by op.depth) + 2 = omega arith in
      let back : suc (k + length quiets) ≡ link_at = omega arith in
      record {
        hart = jumps h 1 target;
        runs = subst (λ c. RunsPrivately image t m.number c m.hart (jumps h 1 target)) count
            (runs_join image t m.number (length quiets) 1 m.hart h (jumps h 1 target) v.runs (
              jumps h 1 target,
              jal_private image bound (in_cycles (length quiets) t) m.number (k + length quiets) 1 (parts_label by) h (holds_in_cycles image (length quiets) t en.running.code) behind.0
                  (place.block.labels.within (parts_label by)) at v.live,
              refl,
            ));
        at = refl;
        live = v.live;
        flag = flag;
        slot = slot;
        link = omega arith;
        local = local;
        others = λ r a b c d. rw (ne_eqb r 1 a) (others r b c d);
        back = subst (λ j. LinesAt image bound j (goes_to (Jal zero_register 0) (label_of op.target) ∷ no_parts op.site)) back behind.1;
        next = omega arith;
      }

-- by the kind of the split
pub fronted : (core : List CoreOp) (image : Image) (bound : ℕ → ℕ) (places : Places) (nestings : Nestings) (i : ℕ) (op : CoreOp) (by : SplitKind)
    (place : IsInPlace core image bound places nestings i op (Split by)) (setting : Setting) (t : MachineSetting) (m : Member) (p : Owner)
    (en : Enters core image places setting t i op (Split by) p m.hart) → is_implicit by ≡ true
    → Fronted core image bound places nestings i op by place setting t m p en
fronted core image bound places nestings i op IfAlone place setting t m p en is =
    let filled = place.values in
    let positive : 0 < op.depth = omega arith in
    let v = is_value core image bound places nestings i op (Split IfAlone) place setting t p m.hart m.hart positive en refl in
    let value = is_last core image bound places nestings i op (Split IfAlone) place setting t p m.hart positive en in
    let d = op.depth in
    let w = value_word d m.hart in
    let quiets : Quiets =
    (operand t3 d, LocalAt w) ∷ (Sltu t3 zero_register t3, Plain) ∷ (Addi t2 frame_register (at_private (nestings.behind i + 4 * nestings.levels i)), Plain) ∷ [] in
    let next = place.block.next in
    fronted_with core image bound places nestings i op IfAlone place setting t m p en quiets refl place.block.lines ((v.within, v.address), (tt, (tt, tt))) (omega arith)
    (ap (λ z. from_bool (nat_lt z (m.hart.local w))) en.at.stands.nought ∙ ap (λ x. from_bool (nat_lt 0 x)) value ∙ not_nought (last (values p.runner.has)))
    refl refl (λ r a b c. rw (ne_eqb r 28 c, ne_eqb r 7 b))
fronted core image bound places nestings i op AndThen place setting t m p en is =
    let filled = place.values in
    let positive : 0 < op.depth = omega arith in
    let v = is_value core image bound places nestings i op (Split AndThen) place setting t p m.hart m.hart positive en refl in
    let value = is_last core image bound places nestings i op (Split AndThen) place setting t p m.hart positive en in
    let d = op.depth in
    let w = value_word d m.hart in
    let quiets : Quiets =
    (operand t3 d, LocalAt w) ∷ (Sltu t3 zero_register t3, Plain) ∷ (Addi t2 frame_register (at_private (nestings.behind i + 4 * nestings.levels i)), Plain) ∷ [] in
    let next = place.block.next in
    fronted_with core image bound places nestings i op AndThen place setting t m p en quiets refl place.block.lines ((v.within, v.address), (tt, (tt, tt))) (omega arith)
    (ap (λ z. from_bool (nat_lt z (m.hart.local w))) en.at.stands.nought ∙ ap (λ x. from_bool (nat_lt 0 x)) value ∙ not_nought (last (values p.runner.has)))
    refl refl (λ r a b c. rw (ne_eqb r 28 c, ne_eqb r 7 b))
fronted core image bound places nestings i op IfElse place setting t m p en is =
    let filled = place.values in
    let positive : 0 < op.depth = omega arith in
    let v = is_value core image bound places nestings i op (Split IfElse) place setting t p m.hart m.hart positive en refl in
    let value = is_last core image bound places nestings i op (Split IfElse) place setting t p m.hart positive en in
    let d = op.depth in
    let w = value_word d m.hart in
    let quiets : Quiets =
    (operand t3 d, LocalAt w) ∷ (Sltiu t3 t3 1, Plain) ∷ (Addi t2 frame_register (at_private (nestings.behind i + 4 * nestings.levels i)), Plain) ∷ [] in
    let next = place.block.next in
    fronted_with core image bound places nestings i op IfElse place setting t m p en quiets refl place.block.lines ((v.within, v.address), (tt, (tt, tt))) (omega arith)
    (ap (λ x. from_bool (nat_lt x 1)) value ∙ nought_is (last (values p.runner.has)))
    refl refl (λ r a b c. rw (ne_eqb r 28 c, ne_eqb r 7 b))
fronted core image bound places nestings i op OrElse place setting t m p en is =
    let filled = place.values in
    let positive : 0 < op.depth = omega arith in
    let v = is_value core image bound places nestings i op (Split OrElse) place setting t p m.hart m.hart positive en refl in
    let value = is_last core image bound places nestings i op (Split OrElse) place setting t p m.hart positive en in
    let d = op.depth in
    let w = value_word d m.hart in
    let quiets : Quiets =
    (operand t3 d, LocalAt w) ∷ (Sltu t0 zero_register t3, Plain) ∷ (result t0 d, LocalAt w) ∷ (Sltiu t3 t3 1, Plain)
    ∷ (Addi t2 frame_register (at_private (nestings.behind i + 4 * nestings.levels i)), Plain) ∷ [] in
    let next = place.block.next in
    fronted_with core image bound places nestings i op OrElse place setting t m p en quiets refl place.block.lines
    ((v.within, v.address), (tt, ((v.within, v.address), (tt, (tt, tt))))) (omega arith)
    (ap (λ x. from_bool (nat_lt x 1)) value ∙ nought_or (last (values p.runner.has)))
    refl refl (λ r a b c. rw (ne_eqb r 28 c, ne_eqb r 7 b, ne_eqb r 5 a))
fronted core image bound places nestings i op Loop place setting t m p en is =
    let quiets : Quiets = (Addi t3 zero_register 1, Plain) ∷ (Addi t2 frame_register (at_private (nestings.behind i + 4 * nestings.levels i)), Plain) ∷ [] in
    let next = place.block.next in
    fronted_with core image bound places nestings i op Loop place setting t m p en quiets refl place.block.lines (tt, (tt, tt)) (omega arith)
    (ap (λ z. word_sum z 1) en.at.stands.nought)
    refl refl (λ r a b c. rw (ne_eqb r 28 c, ne_eqb r 7 b))
fronted core image bound places nestings i op by place setting t m p en is = absurd (cc)
