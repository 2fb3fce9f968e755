-- The view of harts.
use Rattle.std.proofs.Common.{◌≡◌, ℕ, zero, suc, List, [], ◌∷◌, None, false, ◌&&◌, length, map, ap, ◌∙◌, refl}
use Rattle.std.specs.Prelude.{replicate, slice_index}
use Rattle.std.proofs.Math.Path.{fun_ext}
use Rattle.std.specs.List.{list_all}
use Rattle.fk_num.specs.Word.{Memory}
use Rattle.fk_isa.specs.Step.{hart_of as state}
use Rattle.fk_machine.specs.declared.hart.TrackedHart.{TrackedHart}
use Rattle.fk_machine.specs.Cycle.{all_ended, first_hart}
use Rattle.fk_machine.specs.Step.{state_of}
use Rattle.fk_machine.specs.View.{hart_of, harts_of, ran_of}
use Rattle.fk_machine.proofs.IndexZeros.{index_zeros}

pub harts_length : (n : ℕ) (hs : List TrackedHart) (w : ℕ → Memory) → length (harts_of n hs w) ≡ length hs
harts_length n [] w = refl
harts_length n (h ∷ hs) w = ap suc (harts_length (suc n) hs w)

-- the harts without their local memories
pub harts_states : (n : ℕ) (hs : List TrackedHart) (w : ℕ → Memory) → map state_of (harts_of n hs w) ≡ map (λ h. state h.state) hs
harts_states n [] w = refl
harts_states n (h ∷ hs) w = ap (λ states. state h.state ∷ states) (harts_states (suc n) hs w)

pub all_ended-harts_of : (n : ℕ) (hs : List TrackedHart) (w : ℕ → Memory) → all_ended (harts_of n hs w) ≡ list_all (λ h. h.state.ended) hs
all_ended-harts_of n [] w = refl
all_ended-harts_of n (h ∷ hs) w = ap (λ b. h.state.ended && b) (all_ended-harts_of (suc n) hs w)

-- a hart of the code before its first instruction
abbrev pub fresh : TrackedHart
fresh = record { state = record { registers = replicate 32 0; pc = 0; ended = false }; ran = None }

hart_of-fresh : (m : Memory) → m ≡ (λ i. 0) → hart_of fresh.state m ≡ first_hart
hart_of-fresh m e =
    let registers : slice_index (replicate 32 0) ≡ (λ r. 0) = fun_ext (index_zeros 32) in
    ap (hart_of fresh.state) e ∙ ap (λ r. record first_hart { registers = r }) registers

pub harts_of-fresh : (number n : ℕ) (w : ℕ → Memory) → ((k : ℕ) → w k ≡ (λ i. 0)) → harts_of number (replicate n fresh) w ≡ replicate n first_hart
harts_of-fresh number zero w zeros = refl
harts_of-fresh number (suc n) w zeros =
    ap (λ h. h ∷ harts_of (suc number) (replicate n fresh) w) (hart_of-fresh (w number) (zeros number))
    ∙ ap (λ hs. first_hart ∷ hs) (harts_of-fresh (suc number) n w zeros)

pub ran_of-fresh : (n : ℕ) → ran_of (replicate n fresh) ≡ replicate n None
ran_of-fresh zero = refl
ran_of-fresh (suc n) = ap (λ l. None ∷ l) (ran_of-fresh n)
