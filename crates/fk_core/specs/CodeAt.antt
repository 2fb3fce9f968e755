-- Where the code of functions is in a flat list.
use Rattle.std.specs.Prelude.{◌≡◌, ℕ, Bool, true, false, List, ◌∷◌, slice_get, Option, Some, None}
use Rattle.fk_meaning_operation.specs.declared.operation.Operation.{Operation}
use Rattle.fk_meaning_forms.specs.Code.{Code, done, perform, choose, while, until}
use Rattle.fk_meaning_forms.specs.Code.{quit, break, continue, call, ends}
use Rattle.fk_core.specs.declared.op.CoreOp.{CoreOp}
use Rattle.fk_core.specs.Numbers.{operation_of}
use Rattle.fk_core.specs.Next.{position, is_jump, follows, returned}

-- A loop around a place: the index after the loop, and the one where a `continue` goes on.
pub record Loop : Type 0 where
  pub behind : ℕ
  pub onward : ℕ

-- The innermost loop around a place, if there is one.
abbrev pub Around : Type 0
Around = Option Loop

-- Code that begins with an operation; and code that begins with one or is empty.
abbrev pub is_first : Code ℕ → Bool
is_first (perform n op rest) = true
is_first (choose n op a b rest) = true
is_first (quit n op rest) = true
is_first (call n op f opening rest) = true
is_first (ends n op rest) = true
is_first code = false

abbrev pub is_start : Code ℕ → Bool
is_start done = true
is_start (perform n op rest) = true
is_start (choose n op a b rest) = true
is_start (quit n op rest) = true
is_start (call n op f opening rest) = true
is_start (ends n op rest) = true
is_start code = false

-- For a list, and the index where the function of each binding begins.
module _ (core : List CoreOp) (entry : (binding : ℕ) → ℕ) where
  -- Jumps lead from one index to another, or the indices are equal.
  pub data Leads : ℕ → ℕ → Type 0 where
    Stay : {i : ℕ} → Leads i i
    Go : {i : ℕ} (op : CoreOp) {k : ℕ} → slice_get core i ≡ Some op → is_jump op ≡ true
        → Leads op.target k → Leads i k

  -- An operation with a site is where jumps from an index lead.
  pub record OpFrom (i site : ℕ) (operation : Operation) : Type 0 where
    pub at : ℕ
    pub op : CoreOp
    pub leads : Leads i at
    pub stands : slice_get core at ≡ Some op
    pub is_read : operation_of op.kind op.number ≡ Some operation
    pub has_site : op.site ≡ site

  -- An operation goes on at an index on one of its branches; it enters a function, and will return
  -- to an index; or it ends the function.
  abbrev pub GoesOn : {i site : ℕ} {operation : Operation} → OpFrom i site operation
      → Bool → ℕ → Type 0
  GoesOn {operation = operation} o onward a =
      (callers : List ℕ)
      → follows core operation o.at o.op.target callers onward ≡ position a callers

  abbrev pub Enters : {i site : ℕ} {operation : Operation} → OpFrom i site operation
      → (a back : ℕ) → Type 0
  Enters {operation = operation} o a back =
      (callers : List ℕ) (onward : Bool)
      → follows core operation o.at o.op.target callers onward ≡ position a (back ∷ callers)

  abbrev pub Returns : {i site : ℕ} {operation : Operation} → OpFrom i site operation → Type 0
  Returns {operation = operation} o =
      (callers : List ℕ) (onward : Bool)
      → follows core operation o.at o.op.target callers onward ≡ returned core callers

  -- The list has code from one index to another. The code after a `break`, a `continue` or the end
  -- of a function may be anywhere. A loop under way is in no list.
  abbrev pub CodeAt : Code ℕ → Around → (i k : ℕ) → Type 0
  CodeAt done c i k = Leads i k
  CodeAt (perform n op rest) c i k =
      (o : OpFrom i n op) × (a : ℕ) × GoesOn o true a × GoesOn o false a × CodeAt rest c a k
  CodeAt (choose n op x y rest) c i k =
      (o : OpFrom i n op) × (a b m : ℕ) × GoesOn o true a × GoesOn o false b
      × CodeAt x c a m × CodeAt y c b m × CodeAt rest c m k
  CodeAt (while test body step rest) c i k =
      (s e : ℕ) × (loop : Loop) × Leads i s × (is_first test ≡ true) × (is_start step ≡ true)
      × CodeAt test (Some loop) s e × CodeAt body (Some loop) e loop.onward
      × CodeAt step (Some loop) loop.onward s
      × CodeAt rest c loop.behind k
  CodeAt (until body test rest) c i k =
      (s e : ℕ) × (loop : Loop) × Leads i e × (is_first test ≡ true)
      × CodeAt test (Some loop) s e × CodeAt body (Some loop) e loop.onward × Leads loop.onward s
      × CodeAt rest c loop.behind k
  CodeAt (quit n op rest) c i k =
      (o : OpFrom i n op) × (a : ℕ) × (loop : Loop) × (c ≡ Some loop) × GoesOn o true a
      × GoesOn o false loop.behind
      × CodeAt rest c a k
  CodeAt (break rest) c i k = (a : ℕ) × (loop : Loop) × (c ≡ Some loop) × Leads i loop.behind
      × CodeAt rest c a k
  CodeAt (continue rest) c i k = (a : ℕ) × (loop : Loop) × (c ≡ Some loop) × Leads i loop.onward
      × CodeAt rest c a k
  CodeAt (call n op f opening rest) c i k =
      (o : OpFrom i n op) × (a e back : ℕ) × Enters o a back × CodeAt opening None a e
      × Leads e (entry f)
      × CodeAt rest c back k
  CodeAt (ends n op rest) c i k = (o : OpFrom i n op) × (a : ℕ) × Returns o × CodeAt rest c a k
  CodeAt code c i k = ⊥
