-- What the counts of a list tell at each index: the fold goes on from what it has come to.
use Rattle.std.proofs.Common.{◌≡◌, ℕ, zero, suc, ◌<◌, Bool, true, false, List, [], ◌∷◌, length, slice_get, Option, Some, None, refl, sym, ap, ◌∙◌, arith}
use Rattle.std.specs.Prelude.{if◌then◌else◌}
use Rattle.std.proofs.lemmas.Bool.{eqb-true}
use Rattle.fk_meaning_operation.specs.declared.operation.Operation.{Operation}
use Rattle.fk_meaning_operation.specs.declared.operation.Operation.TheVariants as o
use Rattle.fk_core.specs.declared.op.CoreOp.{CoreOp}
use Rattle.fk_core.specs.Numbers.{operation_of}
use Rattle.fk_core.specs.Next.{is_jump}
use Rattle.fk_core_levels.specs.Count.{read, here, after, inside, enters, opens, counts_from, nests_from}
use Rattle.fk_core_levels.specs.Forks.{Parts as OpenParts, no_part, come_to, leave, open_from}

-- how many levels are open, how many parts with the group of `start` among them, and how groups were left
pub record Parts : Type 0 where
  pub levels : ℕ
  pub around : ℕ
  pub forks : OpenParts

abbrev pub parts : (levels around : ℕ) → OpenParts → Parts
parts levels around forks = record { levels = levels; around = around; forks = forks }

abbrev pub none : Parts
none = parts 0 0 no_part

abbrev pub at : Option Operation → Parts → Parts
at op k = parts (here k.levels op) (here k.around op) (come_to op k.forks)

abbrev pub past : Option Operation → Parts → Parts
past op k = parts (after k.levels op) (inside k.around op) (leave op k.forks)

-- with so many words in the frame of the innermost part
abbrev pub worded : (words : ℕ) → Parts → Parts
worded words k = parts k.levels k.around (record { parts = k.forks.parts; words = words })

-- these, and whether the opening of a call is written
pub record Fold : Type 0 where
  pub parts : Parts
  pub opening : Bool

abbrev pub fold : Parts → (opening : Bool) → Fold
fold k opening = record { parts = k; opening = opening }

abbrev pub step : Option CoreOp → Fold → Fold
step None f = f
step (Some op) f = fold (past (read op) (at (read op) f.parts)) (opens f.opening op)

-- what is told at an entry
abbrev pub told_by : Option CoreOp → Fold → Parts
told_by None f = none
told_by (Some op) f = if f.opening then none else at (read op) f.parts

abbrev pub folded : Parts → (opening : Bool) → List CoreOp → (i : ℕ) → Fold
folded k b ops zero = fold k b
folded k b [] (suc i) = fold k b
folded k b (op ∷ ops) (suc i) = folded (past (read op) (at (read op) k)) (opens b op) ops i

pub stepped : (k : Parts) (b : Bool) (ops : List CoreOp) (i : ℕ) → folded k b ops (suc i) ≡ step (slice_get ops i) (folded k b ops i)
stepped k b [] zero = refl
stepped k b [] (suc i) = refl
stepped k b (op ∷ ops) zero = refl
stepped k b (op ∷ ops) (suc i) = stepped (past (read op) (at (read op) k)) (opens b op) ops i

levels_if : (b : Bool) (k : Parts) → (if b then none else k).levels ≡ (if b then 0 else k.levels)
levels_if true k = refl
levels_if false k = refl

around_if : (b : Bool) (k : Parts) → (if b then none else k).around ≡ (if b then 0 else k.around)
around_if true k = refl
around_if false k = refl

open_if : (b : Bool) (k : Parts) → (if b then none else k).forks.parts ≡ (if b then [] else k.forks.parts)
open_if true k = refl
open_if false k = refl

pub counted : (k : Parts) (b : Bool) (ops : List CoreOp) (i : ℕ) → i < length ops → slice_get (counts_from k.levels b ops) i ≡ Some (told_by (slice_get ops i) (folded k b ops i)).levels
counted k b [] i lt = absurd (let z : ⊥ = omega arith in z)
counted k b (op ∷ ops) zero lt = ap Some (sym (levels_if b (at (read op) k)))
counted k b (op ∷ ops) (suc i) lt = counted (past (read op) (at (read op) k)) (opens b op) ops i (omega (arith, lt))

pub nested : (k : Parts) (b : Bool) (ops : List CoreOp) (i : ℕ) → i < length ops → slice_get (nests_from k.around b ops) i ≡ Some (told_by (slice_get ops i) (folded k b ops i)).around
nested k b [] i lt = absurd (let z : ⊥ = omega arith in z)
nested k b (op ∷ ops) zero lt = ap Some (sym (around_if b (at (read op) k)))
nested k b (op ∷ ops) (suc i) lt = nested (past (read op) (at (read op) k)) (opens b op) ops i (omega (arith, lt))

pub opened : (k : Parts) (b : Bool) (ops : List CoreOp) (i : ℕ) → i < length ops → slice_get (open_from k.forks b ops) i ≡ Some (told_by (slice_get ops i) (folded k b ops i)).forks.parts
opened k b [] i lt = absurd (let z : ⊥ = omega arith in z)
opened k b (op ∷ ops) zero lt = ap Some (sym (open_if b (at (read op) k)))
opened k b (op ∷ ops) (suc i) lt = opened (past (read op) (at (read op) k)) (opens b op) ops i (omega (arith, lt))

-- ---- one entry

no_jump : (op : CoreOp) (operation : Operation) (b : Bool) → read op ≡ Some operation → is_jump op ≡ b → b ≡ false
no_jump op operation true e is = absurd (let jumps = ap (λ k. operation_of k op.number) (eqb-true op.kind 0 is) in let clash = sym jumps ∙ e in cc)
no_jump op operation false e is = refl

pub after_operation : (op : CoreOp) (operation : Operation) → read op ≡ Some operation → (k : Parts) (b : Bool)
    → step (Some op) (fold k b) ≡ fold (past (Some operation) (at (Some operation) k)) (enters b (Some operation))
after_operation op operation e k b =
    ap (λ r. fold (past r (at r k)) (if is_jump op then false else enters b r)) e
    ∙ ap (λ j. fold (past (Some operation) (at (Some operation) k)) (if j then false else enters b (Some operation))) (no_jump op operation (is_jump op) e refl)

pub told_of_operation : (op : CoreOp) (operation : Operation) → read op ≡ Some operation → (k : Parts) → told_by (Some op) (fold k false) ≡ at (Some operation) k
told_of_operation op operation e k = ap (λ r. at r k) e

pub none_read : (op : CoreOp) → is_jump op ≡ true → read op ≡ None
none_read op is = ap (λ k. operation_of k op.number) (eqb-true op.kind 0 is)

pub after_jump : (op : CoreOp) → is_jump op ≡ true → (k : Parts) (b : Bool) → step (Some op) (fold k b) ≡ fold k false
after_jump op is k b =
    ap (λ r. fold (past r (at r k)) (if is_jump op then false else enters b r)) (none_read op is) ∙ ap (λ j. fold k (if j then false else enters b None)) is

pub told_of_jump : (op : CoreOp) → is_jump op ≡ true → (k : Parts) → told_by (Some op) (fold k false) ≡ k
told_of_jump op is k = ap (λ r. at r k) (none_read op is)

-- in the opening of a call nothing is told, up to the jump to the function
pub opening_goes_on : (operation : Operation) → enters true (Some operation) ≡ true
opening_goes_on (o.Enter arguments) = refl
opening_goes_on operation = refl
