-- Code by what each of its instructions reaches, and blocks of such code.
use Rattle.std.proofs.Common.{◌≡◌, ℕ, suc, ◌<◌, ◌≤◌, List, [], ◌∷◌, ◌++◌, map, length, ap, subst, sym, ◌∙◌, arith, refl}
use Rattle.fk_meaning_operation.specs.Kinds.{class_of}
use Rattle.fk_meaning_operation.specs.declared.kinds.Class.TheVariants.{Local}
use Rattle.fk_meaning_operation.specs.declared.operation.Operation.{Operation}
use Rattle.fk_meaning.specs.Processor.{Setting}
use Rattle.fk_meaning.specs.Local.{is_onward}
use Rattle.fk_core.specs.declared.op.CoreOp.{CoreOp}
use Rattle.fk_core.specs.Next.{position, follows}
use Rattle.fk_image.specs.declared.Image.{Image}
use Rattle.fk_isa.specs.declared.instruction.Instruction.{Instruction}
use Rattle.fk_machine.specs.Hart.{Hart, Setting as MachineSetting}
use Rattle.fk_sim_block.specs.Owner.{Owner, number_of, owner_of}
use Rattle.fk_sim_block.specs.Stands.{Places, StandsFor}
use Rattle.fk_sim_block.specs.Next.{OpAt}
use Rattle.fk_sim_block.specs.Block.{Enters}
use Rattle.fk_gen.specs.Lines.{quiet, commits}
use Rattle.fk_gen.specs.InPlace.{HasBlock}
use Rattle.fk_gen.specs.Keeps.{DoesAnd, past_first}
use Rattle.fk_gen.proofs.Walk.{Told, Quiets, Reached, Plain, quiet_lines, walk, CanWalk, told_of, after}
use Rattle.fk_gen.proofs.Does.{quiet_length, local_does, local_doing}
use Rattle.fk_gen.specs.Lines.{first_commits}

abbrev pub instructions_of : Quiets → List Instruction
instructions_of [] = []
instructions_of (l ∷ ls) = l.0 ∷ instructions_of ls

-- instructions on registers alone
abbrev pub on_registers : List Instruction → Quiets
on_registers [] = []
on_registers (i ∷ is) = (i, Plain) ∷ on_registers is

pub length-on_registers : (is : List Instruction) → length (on_registers is) ≡ length is
length-on_registers [] = refl
length-on_registers (i ∷ is) = ap suc (length-on_registers is)

pub instructions_of-append : (is : List Instruction) (ls : Quiets) → instructions_of (on_registers is ++ ls) ≡ is ++ instructions_of ls
instructions_of-append [] ls = refl
instructions_of-append (i ∷ is) ls = ap (λ rest. i ∷ rest) (instructions_of-append is ls)

quiet_lines-instructions : (ls : Quiets) → map quiet (instructions_of ls) ≡ quiet_lines ls
quiet_lines-instructions [] = refl
quiet_lines-instructions (l ∷ ls) = ap (λ rest. quiet l.0 ∷ rest) (quiet_lines-instructions ls)

pub walk-append : (told : Told) (xs ys : Quiets) (h : Hart) → walk told (xs ++ ys) h ≡ walk told ys (walk told xs h)
walk-append told [] ys h = refl
walk-append told (x ∷ xs) ys h = walk-append told xs ys (after told x.0 x.1 h)

pub can_walk-append : (told : Told) (xs ys : Quiets) (h : Hart) → CanWalk told xs h → CanWalk told ys (walk told xs h) → CanWalk told (xs ++ ys) h
can_walk-append told [] ys h can then = then
can_walk-append told (x ∷ xs) ys h can then = (can.0, can_walk-append told xs ys (after told x.0 x.1 h) can.1 then)

-- a local operation that goes on at the next index
pub record IsLocal (core : List CoreOp) (i : ℕ) (op : CoreOp) (operation : Operation) (p : Owner) : Type 0 where
  pub kind : class_of operation ≡ Local
  pub onward : follows core operation i op.target p.runner.left.callers (is_onward operation p.runner.has) ≡ position (suc i) p.runner.left.callers

lines_behind : (l : Instruction × Reached) (ls : Quiets) → length ls ≡ past_first (first_commits 1 (instructions_of (l ∷ ls)))
lines_behind l ls = sym (ap length (quiet_lines-instructions ls) ∙ quiet_length ls)

-- such code stands at the index, its first instruction commits, and behind it the hart stands for the processor that has done
-- its operation, and something more holds
pub code_does : (core : List CoreOp) (image : Image) (places : Places) (bound : ℕ → ℕ) (i : ℕ) (op : CoreOp) (operation : Operation)
    (setting : Setting) (t : MachineSetting) (p : Owner) (h : Hart) (code : Quiets) (Also : Hart → Type 0)
    → OpAt core i op operation → Enters core image places setting t i op operation p h
    → HasBlock image bound places i (first_commits 1 (instructions_of code))
    → 0 < length code → length code ≤ 100
    → IsLocal core i op operation p
    → CanWalk (told_of t (number_of p)) code h
    → StandsFor places (owner_of (local_doing core image places setting i op operation p)) (walk (told_of t (number_of p)) code h)
    → Also (walk (told_of t (number_of p)) code h)
    → DoesAnd core image places setting t 1 p h 0 (past_first (first_commits 1 (instructions_of code))) Also
code_does core image places bound i op operation setting t p h [] Also op_at en has some few is_local can stands also = absurd (omega arith)
code_does core image places bound i op operation setting t p h (l ∷ ls) Also op_at en has some few is_local can stands also =
    subst (λ n. DoesAnd core image places setting t 1 p h 0 n Also) (lines_behind l ls)
    (local_does core image places bound setting t i op operation p h op_at is_local.kind en l.0 l.1 ls
    (subst (λ rest. HasBlock image bound places i (commits 1 l.0 ∷ rest)) (quiet_lines-instructions ls) has)
    (omega arith) can (ap (λ w. w.at) is_local.onward) stands Also also)
