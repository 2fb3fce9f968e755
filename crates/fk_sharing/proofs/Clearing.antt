-- Single writes to notes, and those of a loop over them.
use Rattle.std.proofs.Common.{◌≡◌, ℕ, zero, suc, ◌+◌, ◌<◌, ◌≤◌, Bool, List, [], ◌∷◌, map, length, set, get_or, refl, ap, arith, add-one}
use Rattle.fk_syntax.specs.declared.facts.Note.{Note}
use Rattle.fk_sharing.specs.Marked.{cleared, joined, joined_at}

pub set-joined : (notes : List Note) (at : ℕ) (d : Note) (shared splits : Bool) → at < length notes → set notes at (joined (get_or notes at d) shared splits) ≡ joined_at notes at shared splits
unfolding joined_at
set-joined [] at d shared splits h = absurd (omega (arith, h))
set-joined (x ∷ notes) zero d shared splits h = refl
set-joined (x ∷ notes) (suc at) d shared splits h = ap (λ l. x ∷ l) (set-joined notes at d shared splits (omega (arith, h)))

pub joined-past : (notes : List Note) (at : ℕ) (shared splits : Bool) → length notes ≤ at → notes ≡ joined_at notes at shared splits
unfolding joined_at
joined-past [] at shared splits h = refl
joined-past (x ∷ notes) zero shared splits h = absurd (omega (arith, h))
joined-past (x ∷ notes) (suc at) shared splits h = ap (λ l. x ∷ l) (joined-past notes at shared splits (omega (arith, h)))

-- the first of some notes cleared
abbrev pub cleared_first : ℕ → List Note → List Note
cleared_first zero notes = notes
cleared_first (suc n) [] = []
cleared_first (suc n) (x ∷ notes) = cleared x ∷ cleared_first n notes

clear-suc : (notes : List Note) (n : ℕ) (d : Note) → n < length notes → set (cleared_first n notes) n (cleared (get_or (cleared_first n notes) n d)) ≡ cleared_first (suc n) notes
clear-suc [] n d h = absurd (omega (arith, h))
clear-suc (x ∷ notes) zero d h = refl
clear-suc (x ∷ notes) (suc n) d h = ap (λ l. cleared x ∷ l) (clear-suc notes n d (omega (arith, h)))

pub clear-one : (notes now : List Note) (n : ℕ) (d : Note) → now ≡ cleared_first n notes → n < length notes → set now n (cleared (get_or now n d)) ≡ cleared_first (n + 1) notes
clear-one notes now n d e h = rw (e, add-one) (clear-suc notes n d h)

pub clear-all : (notes : List Note) → cleared_first (length notes) notes ≡ map cleared notes
clear-all [] = refl
clear-all (x ∷ notes) = ap (λ l. cleared x ∷ l) (clear-all notes)
