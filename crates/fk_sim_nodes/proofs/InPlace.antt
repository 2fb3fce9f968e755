-- One instruction that stands in its place, and what an atomic addition comes to.
use Rattle.std.proofs.Common.{◌≡◌, ℕ, ◌*◌, ◌/◌, ◌%◌, false, ap, ◌∙◌, arith, refl, eq-eqb}
use Rattle.std.specs.Prelude.{slice_get}
use Rattle.fk_num.specs.Word.{put, word_sum}
use Rattle.fk_image.specs.declared.Image.{Image}
use Rattle.fk_isa.specs.declared.instruction.Instruction.{Instruction}
use Rattle.fk_isa.specs.declared.instruction.Instruction.TheVariants.{AmoAddW}
use Rattle.fk_isa.specs.Atomic.{combined}
use Rattle.fk_machine.specs.declared.place.Location.TheVariants.{ControlWord}
use Rattle.fk_machine.specs.Place.{place_of}
use Rattle.fk_machine.specs.Hart.{Hart, Shared, Setting, Goes}
use Rattle.fk_machine.specs.Reach.{cleared}
use Rattle.fk_machine.specs.Step.{perform, on_fetch, step}
use Rattle.fk_machine.proofs.Performs.{writes}
use Rattle.fk_sim_nodes.specs.Alone.{Holds, IsAt}

pub step_at : (image : Image) (k count : ℕ) (i : Instruction) → IsAt image k i count → (t : Setting) → Holds image t
    → (number : ℕ) (h : Hart) (s : Shared) → h.pc ≡ 4 * k → step t number h s ≡ perform t number i h s
step_at image k count i at t holds number h s e =
    let place : h.pc / 4 ≡ k = omega arith in
    ap (λ a. on_fetch t number (slice_get t.code a) h s) place
    ∙ ap (λ code. on_fetch t number (slice_get code k) h s) holds
    ∙ ap (λ r. on_fetch t number r h s) at.fetched

combined-add : (old v : ℕ) → combined 0b00000 old v ≡ word_sum old v
unfolding combined
combined-add old v = refl

amoadd-combined : (t : Setting) (number rd rs rv i : ℕ) (h : Hart) (s : Shared) → h.registers rs % 4 ≡ 0
    → place_of (h.registers rs) ≡ ControlWord i
    → perform t number (AmoAddW rd rs rv false false) h s
    ≡ Goes (writes h rd (s.control i)) (record s { control = put s.control i (combined 0b00000 (s.control i) (h.registers rv)); reserved = cleared s.reserved (h.registers rs) })
amoadd-combined t number rd rs rv i h s e f = let aligned = eq-eqb _ 0 e in rw (aligned, f) refl

-- amoadd.w at a control word gives it, and adds to it
pub amoadd-control : (t : Setting) (number rd rs rv i : ℕ) (h : Hart) (s : Shared) → h.registers rs % 4 ≡ 0
    → place_of (h.registers rs) ≡ ControlWord i
    → perform t number (AmoAddW rd rs rv false false) h s
    ≡ Goes (writes h rd (s.control i)) (record s { control = put s.control i (word_sum (s.control i) (h.registers rv)); reserved = cleared s.reserved (h.registers rs) })
amoadd-control t number rd rs rv i h s e f =
    amoadd-combined t number rd rs rv i h s e f
    ∙ ap (λ v. Goes (writes h rd (s.control i)) (record s { control = put s.control i v; reserved = cleared s.reserved (h.registers rs) })) (combined-add (s.control i) (h.registers rv))
