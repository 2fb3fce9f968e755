-- The work that is left after the ends of the parts, and at the ends of the bodies, that a
-- processor is in.
use Rattle.std.specs.Prelude.{◌≡◌, ℕ, Bool, true, false, List, [], ◌∷◌, ◌++◌, map, if◌then◌else◌}
use Rattle.fk_meaning_operation.specs.declared.operation.Operation.{Operation}
use Rattle.fk_meaning_operation.specs.declared.operation.Operation.TheVariants as o
use Rattle.fk_meaning_operation.specs.declared.operation.SplitKind.TheVariants.{IfElse}
use Rattle.fk_meaning.specs.Round.{Step}
use Rattle.fk_meaning_forms.specs.Code.{Code, done, perform, choose, while, until, turn, again}
use Rattle.fk_meaning_forms.specs.Code.{quit, break, continue, call, ends}
use Rattle.fk_meaning.specs.Left.{settled}
use Rattle.fk_meaning.specs.Next.{Work}

-- `farm` and `seq` open a body that members run by themselves. A closing meet ends it
abbrev pub opens_body : Operation → Bool
opens_body o.Farm = true
opens_body o.Seq = true
opens_body op = false

abbrev pub is_shrink : Operation → Bool
is_shrink o.Shrink = true
is_shrink op = false

-- a loop that members leave one by one is recognized by the operation that ends its test
abbrev pub shrinks : {A : Type 0} → Code A → Bool
shrinks done = false
shrinks (perform t op rest) = shrinks rest
shrinks (choose t op a b rest) = shrinks rest
shrinks (while test body step rest) = shrinks rest
shrinks (until body test rest) = shrinks rest
shrinks (turn test body step rest) = shrinks rest
shrinks (again test body step rest) = shrinks rest
shrinks (quit t op rest) = is_shrink op
shrinks (break rest) = shrinks rest
shrinks (continue rest) = shrinks rest
shrinks (call t op f opening rest) = shrinks rest
shrinks (ends t op rest) = shrinks rest

abbrev pub tail : {X : Type 0} → List X → List X
tail [] = []
tail (x ∷ xs) = xs

-- a list with one more element in front, or with one less
abbrev pub grown : {X : Type 0} → Bool → X → List X → List X
grown b x xs = if b then x ∷ xs else xs

abbrev pub fallen : {X : Type 0} → Bool → List X → List X
fallen b xs = if b then tail xs else xs

-- an end leads to the code after its part, and a closing meet is at the end of its body
abbrev pub marked : {A : Type 0} → Operation → (here behind : Code A)
    → List (Code A) → List (Code A)
marked o.End here behind codes = behind ∷ codes
marked (o.Meet true) here behind codes = here ∷ codes
marked op here behind codes = codes

-- the code after the innermost part, or from the end of the innermost body on; then that of the
-- next outer part or body, and so on
abbrev pub past : {A : Type 0} → Code A → List (Code A)
past done = []
past (perform t op rest) = marked op (perform t op rest) (settled rest) (past rest)
past (choose t op a b rest) = fallen (opens_body op) (past rest)
past (while test body step rest) = grown (shrinks test) (settled rest) (past rest)
past (until body test rest) = grown (shrinks test) (settled rest) (past rest)
past (turn test body step rest) = grown (shrinks test) (settled rest) (past rest)
past (again test body step rest) = grown (shrinks test) (settled rest) (past rest)
past (quit t op rest) = past rest
past (break rest) = past rest
past (continue rest) = past rest
past (call t op f opening rest) = past rest
past (ends t op rest) = past rest

-- the work of a processor: first that of the running function, then that of the functions that wait
-- for a call
abbrev pub works : List (Code ℕ) → List (Code ℕ) → List Work
works callers codes =
    map (λ code. let work : Work = record { left = code; callers = callers } in work) codes

abbrev pub waiting : List (Code ℕ) → List Work
waiting [] = []
waiting (code ∷ callers) = works callers (past code) ++ waiting callers

abbrev pub outs : Work → List Work
outs work = works work.callers (past work.left) ++ waiting work.callers

-- how an operation goes on. It may enter a part, after which comes the work of the processors that
-- wait for it; or enter a body, at whose end is the work of the processors that wait there; or go
-- on after a part, or from the end of a body on; or leave these as they are
abbrev pub GoesOn : Operation → (here : Work) → (behind : List Work) → (rest : Bool → Work) → Type 0
GoesOn (o.Split IfElse) here behind rest =
    (parent : Work) × (outs parent ≡ behind) × (outs (rest true) ≡ parent ∷ behind)
    × (outs (rest false) ≡ parent ∷ behind)
GoesOn (o.Split by) here behind rest = (outs (rest false) ≡ behind)
    × (outs (rest true) ≡ rest false ∷ behind)
GoesOn o.Begin here behind rest = (outs (rest false) ≡ behind)
    × (outs (rest true) ≡ rest false ∷ behind)
GoesOn o.Shrink here behind rest = (outs (rest true) ≡ behind)
    × (behind ≡ rest false ∷ outs (rest false))
GoesOn o.End here behind rest = behind ≡ rest true ∷ outs (rest true)
GoesOn o.Farm here behind rest = (outs (rest false) ≡ rest false ∷ behind)
    × (outs (rest true) ≡ rest false ∷ behind)
GoesOn o.Seq here behind rest = (outs (rest false) ≡ rest false ∷ behind)
    × (outs (rest true) ≡ rest false ∷ behind)
GoesOn (o.Meet true) here behind rest = behind ≡ here ∷ outs (rest true)
GoesOn op here behind rest = (onward : Bool) → outs (rest onward) ≡ behind

-- how a processor with this work goes on at its next operation
abbrev pub GoesOnFrom : Work → Step Work → Type 0
GoesOnFrom work step = GoesOn step.operation work (outs work) step.rest
