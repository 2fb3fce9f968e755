-- The operations of a list with what their blocks are made for.
use Rattle.std.proofs.Common.{◌≡◌, ℕ, zero, suc, ◌+◌, ◌<◌, List, [], ◌∷◌, length, Option, Some, All, IfSome, ap, sym, subst, refl, ◌∙◌, arith}
use Rattle.std.specs.Prelude.{slice_get, get_or}
use Rattle.std.proofs.lemmas.List.Elements.{All-nil, All-cons}
use Rattle.std.proofs.lemmas.Option.{slice_get-get_or}
use Rattle.fk_asm.specs.Block.{MarkedLine, GoesToMade}
use Rattle.fk_core.specs.declared.op.CoreOp.{CoreOp}
use Rattle.fk_gen.specs.declared.placed.Levels.{Levels}
use Rattle.fk_gen.specs.declared.placed.Placed.{Placed}
use Rattle.fk_core_liveness.specs.declared.set.Set.{Set}
use Rattle.fk_gen_list.specs.Layout.{placed, placed_from}

-- ---- one after another

pub length-placed : (core : List CoreOp) (globals : ℕ) (kept : List Set) (saved : List Levels) (k : ℕ) (ops : List CoreOp) → length (placed_from core globals kept saved k ops) ≡ length ops
length-placed core globals kept saved k [] = refl
length-placed core globals kept saved k (op ∷ ops) = ap suc (length-placed core globals kept saved (suc k) ops)

pub placed_get : (core : List CoreOp) (globals : ℕ) (kept : List Set) (saved : List Levels) (k i j : ℕ) (op : CoreOp) (ops : List CoreOp) → slice_get ops i ≡ Some op → j ≡ k + i
    → slice_get (placed_from core globals kept saved k ops) i ≡ Some (placed core globals kept saved j op)
placed_get core globals kept saved k i j op [] e same = absurd (cc)
placed_get core globals kept saved k zero j op (o ∷ ops) e same =
    let one : o ≡ op = cc in
    let at : k ≡ j = omega arith in
    ap (λ x. Some (placed core globals kept saved k x)) one ∙ ap (λ n. Some (placed core globals kept saved n op)) at
placed_get core globals kept saved k (suc i) j op (o ∷ ops) e same = placed_get core globals kept saved (suc k) i j op ops e (omega arith)

some_same : {A : Type 0} {x y : A} → Some x ≡ Some y → x ≡ y
some_same e = cc

-- what is so of each is so of all
pub all_from : (P : Placed → Type 0) (core : List CoreOp) (globals : ℕ) (kept : List Set) (saved : List Levels) (k : ℕ) (ops : List CoreOp)
    → ((i j : ℕ) (op : CoreOp) → slice_get ops i ≡ Some op → j ≡ k + i → P (placed core globals kept saved j op)) → All P (placed_from core globals kept saved k ops)
all_from P core globals kept saved k [] each = All-nil P
all_from P core globals kept saved k (op ∷ ops) each =
    All-cons P (placed core globals kept saved k op) (placed_from core globals kept saved (suc k) ops) (each 0 k op refl (omega arith))
    (all_from P core globals kept saved (suc k) ops (λ i j o e same. each (suc i) j o e (omega arith)))

-- the one at an index
pub placed_here : (core : List CoreOp) (globals : ℕ) (kept : List Set) (saved : List Levels) (ops : List CoreOp) (i : ℕ) (none : CoreOp) (p d : Placed) → i < length ops
    → p ≡ placed core globals kept saved i (get_or ops i none) → get_or (placed_from core globals kept saved 0 ops) i d ≡ p
placed_here core globals kept saved ops i none p d lt e =
    let there = placed_get core globals kept saved 0 i i (get_or ops i none) ops (slice_get-get_or ops i none lt) (omega arith) in
    let within = length-placed core globals kept saved 0 ops in
    let own = slice_get-get_or (placed_from core globals kept saved 0 ops) i d (omega (arith, within, lt)) in
    some_same (sym own ∙ there) ∙ sym e

-- labels that are made are made where there are as many
pub goes_still : (xs ys : List (Option ℕ)) (ms : List MarkedLine) → length xs ≡ length ys → All (GoesToMade xs) ms → All (GoesToMade ys) ms
goes_still xs ys ms e all = subst (λ n. All (λ m. IfSome m.line.label (λ label. label < n)) ms) e all
