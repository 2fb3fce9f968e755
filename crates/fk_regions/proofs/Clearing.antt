-- Single writes to notes, and those of a loop over them.
use Rattle.std.proofs.Common.{◌≡◌, ℕ, zero, suc, ◌+◌, ◌<◌, ◌≤◌, List, [], ◌∷◌, map, length, set, get_or, refl, ap, arith, add-one}
use Rattle.fk_syntax.specs.declared.facts.Note.{Note}
use Rattle.fk_regions.specs.Marked.{cleared, marked, synchronous_at}

pub set-marked : (notes : List Note) (at : ℕ) (d : Note) → at < length notes → set notes at (marked (get_or notes at d)) ≡ synchronous_at notes at
unfolding synchronous_at
set-marked [] at d h = absurd (omega (arith, h))
set-marked (x ∷ notes) zero d h = refl
set-marked (x ∷ notes) (suc at) d h = ap (λ l. x ∷ l) (set-marked notes at d (omega (arith, h)))

pub marked-past : (notes : List Note) (at : ℕ) → length notes ≤ at → notes ≡ synchronous_at notes at
unfolding synchronous_at
marked-past [] at h = refl
marked-past (x ∷ notes) zero h = absurd (omega (arith, h))
marked-past (x ∷ notes) (suc at) h = ap (λ l. x ∷ l) (marked-past notes at (omega (arith, h)))

-- the first of some notes cleared
abbrev pub cleared_first : ℕ → List Note → List Note
cleared_first zero notes = notes
cleared_first (suc n) [] = []
cleared_first (suc n) (x ∷ notes) = cleared x ∷ cleared_first n notes

clear-suc : (notes : List Note) (n : ℕ) (d : Note) → n < length notes → set (cleared_first n notes) n (cleared (get_or (cleared_first n notes) n d)) ≡ cleared_first (suc n) notes
clear-suc [] n d h = absurd (omega (arith, h))
clear-suc (x ∷ notes) zero d h = refl
clear-suc (x ∷ notes) (suc n) d h = ap (λ l. cleared x ∷ l) (clear-suc notes n d (omega (arith, h)))

pub clear-one : (notes now : List Note) (n : ℕ) (d : Note) → now ≡ cleared_first n notes → n < length notes → set now n (cleared (get_or now n d)) ≡ cleared_first (n + 1) notes
clear-one notes now n d e h = rw (e, add-one) (clear-suc notes n d h)

pub clear-all : (notes : List Note) → cleared_first (length notes) notes ≡ map cleared notes
clear-all [] = refl
clear-all (x ∷ notes) = ap (λ l. cleared x ∷ l) (clear-all notes)
