-- How many values operations leave.
use Rattle.std.proofs.Common.{◌≡◌, ℕ, zero, suc, ◌+◌, ◌-◌, ◌≤◌, ◌==◌, nat_lt, Bool, true, false, if◌then◌else◌, List, [], ◌∷◌, length, Option, Some, None, refl, arith}
use Rattle.fk_space.specs.Space.{Space, block}
use Rattle.fk_meaning_store.specs.Store.{private_words, private_address}
use Rattle.fk_meaning_operation.specs.declared.operation.SplitKind.{SplitKind}
use Rattle.fk_meaning_operation.specs.declared.operation.SplitKind.TheVariants as s
use Rattle.fk_meaning_operation.specs.declared.operation.Operation.TheVariants as o
use Rattle.fk_meaning.specs.Processor.{Level, Processor, values, before, with_values, drop_last, in_place, push, to_outer}
use Rattle.fk_meaning.specs.Local.{joined, stored, taken}
use Rattle.fk_meaning.specs.Group.{divided, enters, framed, allotted, with_block}
use Rattle.fk_meaning_operation.specs.declared.operation.Variable.{Variable}
use Rattle.fk_meaning_operation.specs.declared.operation.Variable.TheVariants as v
use Rattle.fk_layout_sizes.specs.Operations.{takes}
use Rattle.fk_core_typing.specs.LocalDepths.{leaves}

-- a processor has so many values less and so many more than before, and the same calls wait
pub record Leaves (less more : ℕ) (p q : Processor) : Type 0 where
  pub count : length (values q) ≡ length (values p) - less + more
  pub callers : q.callers ≡ p.callers

pub length_before : (n : ℕ) (vs : List ℕ) → length (before n vs) ≡ length vs - n
length_before zero vs = omega arith
length_before (suc n) [] = omega arith
length_before (suc n) (v ∷ vs) = let e = length_before n vs in omega (arith, e)

pub stays : (p q : Processor) → length (values q) ≡ length (values p) → q.callers ≡ p.callers → Leaves 0 0 p q
stays p q e f = record { count = omega (arith, e); callers = f }

pub pushed : (v : ℕ) (p : Processor) → Leaves 0 1 p (push v p)
pushed v p = record { count = omega arith; callers = refl }

pub dropped : (n : ℕ) (p : Processor) → Leaves n 0 p (drop_last n p)
dropped n p = let e = length_before n (values p) in record { count = omega (arith, e); callers = refl }

pub replaced : (v : ℕ) (p : Processor) → Leaves 1 1 p (in_place v p)
replaced v p = let e = length_before 1 (values p) in record { count = omega (arith, e); callers = refl }

pub replaced_two : (v : ℕ) (p : Processor) → Leaves 2 1 p (in_place v (drop_last 1 p))
replaced_two v p =
    let e = length_before 1 (values p) in
    let f = length_before 1 (before 1 (values p)) in
    record { count = omega (arith, e, f); callers = refl }

pub kept_last : (v : ℕ) (p : Processor) → 1 ≤ length (values p) → Leaves 0 0 p (in_place v p)
kept_last v p h = let e = length_before 1 (values p) in record { count = omega (arith, e, h); callers = refl }

pub stored_in : (x : ℕ) (variable : Variable) (p : Processor) → Leaves 0 0 p (stored x variable p)
stored_in x (v.Private i) p = stays p (stored x (v.Private i) p) refl refl
stored_in x (v.OfFile i) p = stays p (stored x (v.OfFile i) p) refl refl

joined_length : (f : ℕ → ℕ → ℕ) (vs : List ℕ) → 2 ≤ length vs → length (joined f vs) ≡ length vs - 2 + 1
joined_length f [] h = absurd (omega arith)
joined_length f (b ∷ []) h = absurd (omega arith)
joined_length f (b ∷ a ∷ vs) h = omega arith

pub joins : (f : ℕ → ℕ → ℕ) (p : Processor) → 2 ≤ length (values p) → Leaves 2 1 p (with_values p (joined f (values p)))
joins f p h = record { count = joined_length f (values p) h; callers = refl }

pub takes_words : (words : ℕ) (p : Processor) → Leaves 1 1 p (taken words p)
takes_words words p = by (words == 0) (nat_lt (private_words - p.top) words)
  where
    by : (none large : Bool) → Leaves 1 1 p (if none then in_place 0 p else if large then in_place 0 p else in_place (private_address p.top) (record p { top = p.top + words }))
    by true large = replaced 0 p
    by false true = replaced 0 p
    by false false = let e = length_before 1 (values p) in record { count = omega (arith, e); callers = refl }

pub frames : (nesting : ℕ) (p : Processor) (space : Option Space) → Leaves 0 0 p (framed nesting p space)
frames nesting p None = stays p (framed nesting p None) refl refl
frames nesting p (Some s) = stays p (framed nesting p (Some s)) refl refl

allots : (p : Processor) (b : Option (ℕ × Space)) → Leaves 1 1 p (allotted p b)
allots p None = replaced 0 p
allots p (Some b) = let e = length_before 1 (values p) in record { count = omega (arith, e); callers = refl }

pub blocks : (words : ℕ) (p : Processor) → Leaves 1 1 p (with_block words p)
blocks words p = by (words == 0)
  where
    by : (none : Bool) → Leaves 1 1 p (if none then in_place 0 p else allotted p (block p.level.space words))
    by true = replaced 0 p
    by false = allots p (block p.level.space words)

-- a level left for the one round it
pub outer : {less more : ℕ} {p : Processor} (q : Processor) (levels : List Level) → Leaves less more p q → Leaves less more p (to_outer q levels)
outer q [] x = x
outer q (l ∷ ls) x = record { count = x.count; callers = x.callers }

pub divides : (by : SplitKind) (size : ℕ) (p : Processor) (part : Option ℕ) → Leaves (takes (o.Split by)) (leaves (o.Split by) (enters by part)) p (divided by size p part)
divides s.IfAlone size p None = dropped 1 p
divides s.IfElse size p None = dropped 1 p
divides s.AndThen size p None = let e = length_before 1 (values p) in record { count = omega (arith, e); callers = refl }
divides s.OrElse size p None = let e = length_before 1 (values p) in record { count = omega (arith, e); callers = refl }
divides s.Loop size p None = dropped 0 p
divides s.Fork size p None = dropped 3 p
divides s.IfAlone size p (Some i) = let x = dropped 1 p in record { count = x.count; callers = x.callers }
divides s.IfElse size p (Some i) = let x = dropped 1 p in record { count = x.count; callers = x.callers }
divides s.AndThen size p (Some i) = let x = dropped 1 p in record { count = x.count; callers = x.callers }
divides s.OrElse size p (Some i) = let x = dropped 1 p in record { count = x.count; callers = x.callers }
divides s.Loop size p (Some i) = let x = dropped 0 p in record { count = x.count; callers = x.callers }
divides s.Fork size p (Some i) = let x = dropped 3 p in record { count = x.count; callers = x.callers }
