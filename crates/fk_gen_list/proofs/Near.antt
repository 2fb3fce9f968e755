-- Jumps of a code reach all of it.
use Rattle.std.proofs.Common.{◌≡◌, ℕ, zero, suc, ◌<◌, ◌≤◌, ℤ, List, [], ◌∷◌, length, Option, Some, None, IsSome, IsSomeAnd, IfSome, All, sym, subst, refl, arith}
use Rattle.std.specs.Prelude.{slice_get, slice_index_or, option_map}
use Rattle.std.proofs.lemmas.Int.{ints}
use Rattle.std.proofs.lemmas.List.Elements.{All-nil, All-cons, All-head, All-tail}
use Rattle.fk_isa.specs.declared.instruction.Instruction.{Instruction}
use Rattle.fk_isa.specs.declared.instruction.Instruction.TheVariants.{Jal}
use Rattle.fk_asm.specs.Jump.{Reaches, distance}
use Rattle.fk_asm.specs.Assembly.{IsBound, distance_of, IsTooFar, IsFirstTooFar}
use Rattle.fk_asm.specs.Block.{MarkedLine, lines_of}

-- a `jal`, whose distance is still to come
abbrev pub IsFar : Instruction → Type 0
IsFar i = (rd : ℕ) × (i ≡ Jal rd 0)

-- a line goes to no label, or far, to one that is bound to a word of the code or right behind it
abbrev pub GoesFar : (bound : List (Option ℕ)) → (end : ℕ) → MarkedLine → Type 0
GoesFar bound end m =
    IfSome m.line.label (λ label. IsSomeAnd (slice_index_or bound label None) (λ word. word ≤ end) × IsFar m.line.instruction)

-- ---- they are bound

bound_to : (end : ℕ) (to : Option ℕ) → IsSomeAnd to (λ word. word ≤ end) → IsSome to
bound_to end None is = absurd is
bound_to end (Some word) is = refl

bound_line : (bound : List (Option ℕ)) (end : ℕ) (i : Instruction) (label : Option ℕ)
    → GoesFar bound end (record { line = record { instruction = i; label = label }; commit = None })
    → IsBound bound (record { instruction = i; label = label })
bound_line bound end i None goes = tt
bound_line bound end i (Some label) goes = bound_to end (slice_index_or bound label None) goes.0

pub are_bound : (bound : List (Option ℕ)) (end : ℕ) (all : List MarkedLine) → All (GoesFar bound end) all → All (IsBound bound) (lines_of all)
are_bound bound end [] go = All-nil (IsBound bound)
are_bound bound end (m ∷ all) go =
    All-cons (IsBound bound) m.line (lines_of all)
    (bound_line bound end m.line.instruction m.line.label (All-head (GoesFar bound end) m all go))
    (are_bound bound end all (All-tail (GoesFar bound end) m all go))

-- ---- and none is too far

near_to : (end own : ℕ) (i : Instruction) (to : Option ℕ) (d : ℤ) → end < 262144 → own < 262144
    → IsSomeAnd to (λ word. word ≤ end) → IsFar i → option_map (distance own) to ≡ Some d → Reaches i d
near_to end own i None d few in' is far e = absurd is
near_to end own i (Some word) d few in' is far e =
    let at : distance own word ≡ d = cc in
    let jal : Reaches (Jal far.0 0) (distance own word) = (omega (arith, ints), omega (arith, ints)) in
    subst (Reaches i) at (subst (λ j. Reaches j (distance own word)) (sym far.1) jal)

near_line : (bound : List (Option ℕ)) (end own : ℕ) (i : Instruction) (label : Option ℕ) (d : ℤ) → end < 262144 → own < 262144
    → GoesFar bound end (record { line = record { instruction = i; label = label }; commit = None })
    → distance_of bound own (record { instruction = i; label = label }) ≡ Some d → Reaches i d
near_line bound end own i None d few in' goes e = absurd (cc)
near_line bound end own i (Some label) d few in' goes e = near_to end own i (slice_index_or bound label None) d few in' goes.0 goes.1 e

not_at : (bound : List (Option ℕ)) (end own : ℕ) (all : List MarkedLine) (k : ℕ) (d : ℤ) → end < 262144 → own < 262144
    → All (GoesFar bound end) all → IsSomeAnd (slice_get (lines_of all) k) (λ line. IsTooFar bound own line d) → ⊥
not_at bound end own [] k d few in' go far = far
not_at bound end own (m ∷ all) zero d few in' go far =
    far.1 (near_line bound end own m.line.instruction m.line.label d few in' (All-head (GoesFar bound end) m all go) far.0)
not_at bound end own (m ∷ all) (suc k) d few in' go far = not_at bound end own all k d few in' (All-tail (GoesFar bound end) m all go) far

within : (bound : List (Option ℕ)) (own : ℕ) (all : List MarkedLine) (k : ℕ) (d : ℤ)
    → IsSomeAnd (slice_get (lines_of all) k) (λ line. IsTooFar bound own line d) → k < length all
within bound own [] k d far = absurd far
within bound own (m ∷ all) zero d far = omega arith
within bound own (m ∷ all) (suc k) d far = let lt = within bound own all k d far in omega arith

pub none_too_far : (bound : List (Option ℕ)) (all : List MarkedLine) (k : ℕ) (d : ℤ) → length all < 262144
    → All (GoesFar bound (length all)) all → IsFirstTooFar bound (lines_of all) k d → ⊥
none_too_far bound all k d few go first =
    let lt = within bound k all k d first.far in
    not_at bound (length all) k all k d few (omega arith) go first.far
