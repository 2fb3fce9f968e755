-- Code and its lists.
use Rattle.std.proofs.Common.{◌≡◌, ℕ, ◌+◌, true, false, List, [], ◌∷◌, length, None, refl}
use Rattle.fk_meaning_operation.specs.declared.operation.OwnValue.TheVariants as k
use Rattle.fk_meaning_operation.specs.declared.operation.SplitKind.TheVariants as s
use Rattle.fk_meaning_operation.specs.declared.operation.Operation.{Operation}
use Rattle.fk_meaning_operation.specs.declared.operation.Operation.TheVariants as o
use Rattle.fk_meaning_forms.specs.Code.{Code, done, perform, choose, while, until, quit, break, continue, call, ends}
use Rattle.fk_core_flat.specs.Items.{Item, jump, act, acts, jumps, calls}
use Rattle.fk_core_flat.specs.Flat.{flat}

-- each function begins at 100
abbrev entry : ℕ → ℕ
entry f = 100

-- a function's code, written at the beginning, with the function ending at an index
abbrev list : (end : ℕ) → Code ℕ → List Item
list end code = flat entry false None 0 end code

abbrev get : Operation
get = o.Get k.Rank

abbrev branch : Operation
branch = o.Branch true

-- if ($) $; else { $; $; } return;
if_else : list 7 (perform 0 get (choose 1 branch (perform 2 get done) (perform 3 get (perform 4 get done)) (ends 5 o.Halt done)))
    ≡ act 0 get 0 ∷ act 1 branch 4 ∷ act 2 get 0 ∷ jump 6 ∷ act 3 get 0 ∷ act 4 get 0 ∷ act 5 o.Halt 0 ∷ []
if_else = refl

-- if ($) $; return;
if_alone : list 4 (perform 0 get (choose 1 branch (perform 2 get done) done (ends 3 o.Halt done)))
    ≡ act 0 get 0 ∷ act 1 branch 3 ∷ act 2 get 0 ∷ act 3 o.Halt 0 ∷ []
if_alone = refl

-- while ($) { if ($) continue; if ($) break; $; } return;
while_left : list 13 (while
    (perform 0 get (quit 1 branch done))
    (perform 2 get (choose 3 branch (continue done) done
    (perform 4 get (choose 5 branch (break done) done (perform 6 get done)))))
    done
    (ends 7 o.Halt done))
    ≡ act 0 get 0 ∷ act 1 branch 10 ∷ act 2 get 0 ∷ act 3 branch 5 ∷ jump 0 ∷ act 4 get 0 ∷ act 5 branch 8 ∷ jump 10
    ∷ act 6 get 0 ∷ jump 0 ∷ act 7 o.Halt 0 ∷ []
while_left = refl

-- for ($; $; $) { if ($) continue; } return;
for_continued : list 9 (perform 0 get (while
    (perform 1 get (quit 2 branch done))
    (perform 3 get (choose 4 branch (continue done) done done))
    (perform 5 get done)
    (ends 6 o.Halt done)))
    ≡ act 0 get 0 ∷ act 1 get 0 ∷ act 2 branch 8 ∷ act 3 get 0 ∷ act 4 branch 6 ∷ jump 6 ∷ act 5 get 0 ∷ jump 1 ∷ act 6 o.Halt 0 ∷ []
for_continued = refl

-- do { if ($) break; } while ($); return;
until_left : list 7 (until
    (perform 0 get (choose 1 branch (break done) done done))
    (perform 2 get (quit 3 branch done))
    (ends 4 o.Halt done))
    ≡ act 0 get 0 ∷ act 1 branch 3 ∷ jump 6 ∷ act 2 get 0 ∷ act 3 branch 6 ∷ jump 0 ∷ act 4 o.Halt 0 ∷ []
until_left = refl

-- $; do { break; $; } while ($); return;
left_at_once : list 9 (perform 0 get (until (break (perform 1 get done)) (perform 2 get (quit 3 branch done)) (ends 4 o.Halt done)))
    ≡ act 0 get 0 ∷ jump 6 ∷ act 1 get 0 ∷ act 2 get 0 ∷ act 3 branch 6 ∷ jump 6 ∷ act 4 o.Halt 0 ∷ []
left_at_once = refl

-- while ($) { if ($) { if ($) $; else $; } else $; } return: no jump leads to a jump
nested : list 14 (while
    (perform 0 get (quit 1 branch done))
    (perform 2 get (choose 3 branch
    (perform 4 get (choose 5 branch (perform 6 get done) (perform 7 get done) done))
    (perform 8 get done)
    done))
    done
    (ends 9 o.Halt done))
    ≡ act 0 get 0 ∷ act 1 branch 12 ∷ act 2 get 0 ∷ act 3 branch 10 ∷ act 4 get 0 ∷ act 5 branch 8 ∷ act 6 get 0 ∷ jump 0
    ∷ act 7 get 0 ∷ jump 0 ∷ act 8 get 0 ∷ jump 0 ∷ act 9 o.Halt 0 ∷ []
nested = refl

-- a call that has a frame and writes an `sh` parameter into it, in a choice
called : list 12 (perform 0 get (choose 1 branch
    (perform 2 get (call 3 (o.Enter 1) 5 (perform 4 (o.Frame 0 1) (perform 5 o.Write done)) done))
    (perform 6 get done)
    (ends 7 o.Halt done)))
    ≡ act 0 get 0 ∷ act 1 branch 8 ∷ act 2 get 0 ∷ act 3 (o.Enter 1) 100 ∷ act 4 (o.Frame 0 1) 0 ∷ act 5 o.Write 0 ∷ jump 100 ∷ jump 9
    ∷ act 6 get 0 ∷ act 7 o.Halt 0 ∷ []
called = refl

-- parts of a group end at the resume
parts : list 8 (perform 0 get (choose 1 (o.Split s.IfElse)
    (perform 2 get (perform 3 o.End done))
    (perform 4 get (perform 5 o.End done))
    (perform 6 o.Resume (ends 7 o.Halt done))))
    ≡ act 0 get 0 ∷ act 1 (o.Split s.IfElse) 4 ∷ act 2 get 0 ∷ act 3 o.End 6 ∷ act 4 get 0 ∷ act 5 o.End 6 ∷ act 6 o.Resume 0 ∷ act 7 o.Halt 0 ∷ []
parts = refl

-- return; $; return: what can't be reached is written too
unreachable : list 3 (ends 0 o.Halt (perform 1 get (ends 2 o.Halt done))) ≡ act 0 o.Halt 0 ∷ act 1 get 0 ∷ act 2 o.Halt 0 ∷ []
unreachable = refl

-- while (h()) { if (h()) f(); else { f(); break; } .. } with three such choices has more jumps than operations: each call has
-- one of its own, and behind each call of `f` there is one more
abbrev calls_at : ℕ → Code ℕ → Code ℕ
calls_at n rest = call n (o.Enter 0) 5 done rest

abbrev left_or_not : ℕ → Code ℕ → Code ℕ
left_or_not n rest = calls_at n (choose (1 + n) branch (calls_at (2 + n) done) (calls_at (3 + n) (break done)) rest)

abbrev crowded : List Item
crowded = list 31 (while (calls_at 0 (quit 1 branch done)) (left_or_not 2 (left_or_not 6 (left_or_not 10 done))) done (ends 14 o.Halt done))

crowded_jumps : jumps crowded ≡ 16
crowded_jumps = refl

crowded_operations : length (acts crowded) ≡ 15
crowded_operations = refl

crowded_calls : calls crowded ≡ 10
crowded_calls = refl
