-- What stands in the flat list of code: its operations, each with its rank.
use Rattle.std.proofs.Common.{◌≡◌, ℕ, zero, suc, ◌+◌, ◌<◌, ◌≤◌, Bool, true, false, List, [], ◌∷◌, ◌++◌, length, slice_get, Some, None, inl, inr, sym, subst, arith}
use Rattle.std.specs.Prelude.{◌||◌, ◌⊎◌}
use Rattle.fk_meaning_operation.specs.declared.operation.Operation.{Operation}
use Rattle.fk_meaning_forms.specs.Code.{Code, done, perform, choose, while, until, turn, again, quit, break, continue, call, ends, size, numbered}
use Rattle.fk_meaning_forms.specs.Expressions.{Coded}
use Rattle.fk_core.specs.declared.op.CoreOp.{CoreOp}
use Rattle.fk_core.specs.Numbers.{operation_of}
use Rattle.fk_core.specs.Next.{is_jump}
use Rattle.fk_core.specs.CodeAt.{Around}
use Rattle.fk_core_flat.specs.Items.{Item, jump, act, Has, way_of, goes_away}
use Rattle.fk_core_flat.specs.Flat.{begins_here, skip, gap, label, flat}
use Rattle.fk_core_flat.proofs.Parts.{choice_at, turns_at, rounds_at, entering_at}

-- the first item is no jump
abbrev pub NoJumpFirst : List Item → Type 0
NoJumpFirst [] = Unit {0}
NoJumpFirst (jump target ∷ items) = ⊥
NoJumpFirst (act n op target ∷ items) = Unit {0}

then : (xs ys : List Item) → NoJumpFirst xs → NoJumpFirst ys → NoJumpFirst (xs ++ ys)
then [] ys a b = b
then (jump target ∷ xs) ys a b = absurd a
then (act n op target ∷ xs) ys a b = tt

pub first_act : (entry : ℕ → ℕ) (code : Code ℕ) (near : Bool) (c : Around) (i k : ℕ) → NoJumpFirst (flat entry near c i k code)
first_act entry done near c i k = tt
first_act entry (perform n op rest) near c i k = tt
first_act entry (choose n op x y rest) near c i k = tt
first_act entry (while test body step rest) near c i k =
    let q = turns_at entry test body step rest near c i k in
    then (q.tests ++ q.bodies ++ q.lasts) q.others
    (then (q.tests ++ q.bodies) q.lasts
    (then q.tests q.bodies (first_act entry test q.enters (Some q.loop) i q.enter) (first_act entry body q.steps (Some q.loop) q.body q.loop.onward))
    (first_act entry step false (Some q.loop) q.step i))
    (first_act entry rest near c q.behind k)
first_act entry (until body test rest) near c i k =
    let q = rounds_at entry body test rest near c i k in
    then (q.bodies ++ q.tests) q.others
    (then q.bodies q.tests (first_act entry body true (Some q.loop) i q.test) (first_act entry test false (Some q.loop) q.test q.enter))
    (first_act entry rest near c q.behind k)
first_act entry (turn test body step rest) near c i k = tt
first_act entry (again test body step rest) near c i k = tt
first_act entry (quit n op rest) near c i k = tt
first_act entry (break rest) near c i k = first_act entry rest near c i k
first_act entry (continue rest) near c i k = first_act entry rest near c i k
first_act entry (call n op f opening rest) near c i k = tt
first_act entry (ends n op rest) near c i k = tt

-- what is so of operations with their ranks, of all among items
module _ (P : ℕ → Operation → Type 0) where
  abbrev pub AllActs : List Item → Type 0
  AllActs [] = Unit {0}
  AllActs (jump target ∷ items) = AllActs items
  AllActs (act n op target ∷ items) = P n op × AllActs items

  both : (xs ys : List Item) → AllActs xs → AllActs ys → AllActs (xs ++ ys)
  both [] ys a b = b
  both (jump target ∷ xs) ys a b = both xs ys a b
  both (act n op target ∷ xs) ys a b = (a.0, both xs ys a.1 b)

  past_skip : (here : Bool) (target : ℕ) (ys : List Item) → AllActs ys → AllActs (skip here target ++ ys)
  past_skip true target ys a = a
  past_skip false target ys a = a

  skip_none : (here : Bool) (target : ℕ) → AllActs (skip here target)
  skip_none true target = tt
  skip_none false target = tt

  -- so it is of code that is numbered between two numbers
  module _ (entry : ℕ → ℕ) (low high : ℕ) (own : (n : ℕ) (op : Operation) → low ≤ n → n < high → P n op) where
    pub all_acts : (code : Coded) (n : ℕ) → low ≤ n → n + size code ≤ high
        → (near : Bool) (c : Around) (i k : ℕ) → AllActs (flat entry near c i k (numbered n code))
    all_acts done n l h near c i k = tt
    all_acts (perform t op rest) n l h near c i k =
        let code = numbered (suc n) rest in
        let here = goes_away (way_of op) || begins_here near code in
        let r = suc i + gap here in (
          own n op l (omega arith),
          past_skip here (label c r k code) (flat entry near c r k code) (all_acts rest (suc n) (omega arith) (omega arith) near c r k),
        )
    all_acts (choose t op x y rest) n l h near c i k =
        let m = suc n + size x in
        let q = choice_at entry (numbered (suc n) x) (numbered m y) (numbered (m + size y) rest) near c i k in (
          own n op l (omega arith),
          both (q.jumps ++ q.firsts ++ q.seconds) q.others
              (both (q.jumps ++ q.firsts) q.seconds
              (past_skip q.here (label c q.first q.next (numbered (suc n) x)) q.firsts
              (all_acts x (suc n) (omega arith) (omega arith) q.beside c q.first q.next))
              (all_acts y m (omega arith) (omega arith) q.after c q.second q.next))
              (all_acts rest (m + size y) (omega arith) (omega arith) near c q.behind k),
        )
    all_acts (while test body step rest) n l h near c i k =
        let m = n + size test in
        let s = m + size body in
        let q = turns_at entry (numbered n test) (numbered m body) (numbered s step) (numbered (s + size step) rest) near c i k in
        both (q.tests ++ q.bodies ++ q.lasts) q.others
        (both (q.tests ++ q.bodies) q.lasts
        (both q.tests q.bodies
        (all_acts test n l (omega arith) q.enters (Some q.loop) i q.enter)
        (all_acts body m (omega arith) (omega arith) q.steps (Some q.loop) q.body q.loop.onward))
        (all_acts step s (omega arith) (omega arith) false (Some q.loop) q.step i))
        (all_acts rest (s + size step) (omega arith) (omega arith) near c q.behind k)
    all_acts (until body test rest) n l h near c i k =
        let m = n + size body in
        let q = rounds_at entry (numbered n body) (numbered m test) (numbered (m + size test) rest) near c i k in
        both (q.bodies ++ q.tests) q.others
        (both q.bodies q.tests
        (all_acts body n l (omega arith) true (Some q.loop) i q.test)
        (all_acts test m (omega arith) (omega arith) false (Some q.loop) q.test q.enter))
        (all_acts rest (m + size test) (omega arith) (omega arith) near c q.behind k)
    all_acts (turn test body step rest) n l h near c i k = tt
    all_acts (again test body step rest) n l h near c i k = tt
    all_acts (quit t op rest) n l h near c i k =
        let code = numbered (suc n) rest in
        let here = begins_here near code in
        let r = suc i + gap here in (
          own n op l (omega arith),
          past_skip here (label c r k code) (flat entry near c r k code) (all_acts rest (suc n) (omega arith) (omega arith) near c r k),
        )
    all_acts (break rest) n l h near c i k = all_acts rest n l h near c i k
    all_acts (continue rest) n l h near c i k = all_acts rest n l h near c i k
    all_acts (call t op f opening rest) n l h near c i k =
        let m = suc n + size opening in
        let q = entering_at entry f (numbered (suc n) opening) (numbered m rest) near c i k in (
          own n op l (omega arith),
          both (q.openings ++ q.jumps) q.others
              (both q.openings q.jumps (all_acts opening (suc n) (omega arith) (omega arith) true None (suc i) q.back) (skip_none q.here q.next))
              (all_acts rest m (omega arith) (omega arith) near c q.behind k),
        )
    all_acts (ends t op rest) n l h near c i k =
        (own n op l (omega arith), all_acts rest (suc n) (omega arith) (omega arith) near c (suc i) k)

  -- what stands at an index of a list that has them: an operation of which that is so; or a jump, which isn't the first item
  module _ (core : List CoreOp) (entry : ℕ → ℕ) where
    pub record OperationAt (i : ℕ) : Type 0 where
      pub op : CoreOp
      pub operation : Operation
      pub stands : slice_get core i ≡ Some op
      pub is_read : operation_of op.kind op.number ≡ Some operation
      pub own : P op.site operation

    pub record JumpAt (i : ℕ) : Type 0 where
      pub op : CoreOp
      pub stands : slice_get core i ≡ Some op
      pub leads : is_jump op ≡ true

    found_any : (items : List Item) (j d : ℕ) → d < length items → Has core j items → AllActs items → OperationAt (j + d) ⊎ JumpAt (j + d)
    found_any [] j d lt h a = absurd (let z : ⊥ = omega arith in z)
    found_any (jump target ∷ items) j zero lt h a =
        let e : j ≡ j + 0 = omega arith in
        subst (λ i. OperationAt i ⊎ JumpAt i) e (inr (record { op = h.0.0; stands = h.0.1; leads = h.0.2.0 }))
    found_any (act n op target ∷ items) j zero lt h a =
        let e : j ≡ j + 0 = omega arith in
        subst (λ i. OperationAt i ⊎ JumpAt i) e
        (inl (record { op = h.0.0; operation = op; stands = h.0.1; is_read = h.0.2.0; own = subst (λ m. P m op) (sym h.0.2.1) a.0 }))
    found_any (jump target ∷ items) j (suc d) lt h a =
        let e : suc j + d ≡ j + suc d = omega arith in
        subst (λ i. OperationAt i ⊎ JumpAt i) e (found_any items (suc j) d (omega arith) h.1 a)
    found_any (act n op target ∷ items) j (suc d) lt h a =
        let e : suc j + d ≡ j + suc d = omega arith in
        subst (λ i. OperationAt i ⊎ JumpAt i) e (found_any items (suc j) d (omega arith) h.1 a.1)

    pub found : (items : List Item) (j d : ℕ) → d < length items → Has core j items → AllActs items → NoJumpFirst items
        → OperationAt (j + d) ⊎ (JumpAt (j + d) × (0 < d))
    found items j (suc d) lt h a first = by (found_any items j (suc d) lt h a)
      where
        by : OperationAt (j + suc d) ⊎ JumpAt (j + suc d) → OperationAt (j + suc d) ⊎ (JumpAt (j + suc d) × (0 < suc d))
        by (inl x) = inl x
        by (inr x) = inr (x, omega arith)
    found [] j zero lt h a first = absurd (let z : ⊥ = omega arith in z)
    found (jump target ∷ items) j zero lt h a first = absurd first
    found (act n op target ∷ items) j zero lt h a first =
        let e : j ≡ j + 0 = omega arith in
        subst (λ i. OperationAt i ⊎ (JumpAt i × (0 < 0))) e
        (inl (record { op = h.0.0; operation = op; stands = h.0.1; is_read = h.0.2.0; own = subst (λ m. P m op) (sym h.0.2.1) a.0 }))

pub weaker : (P Q : ℕ → Operation → Type 0) → ((n : ℕ) (op : Operation) → P n op → Q n op) → (items : List Item) → AllActs P items → AllActs Q items
weaker P Q f [] a = tt
weaker P Q f (jump target ∷ items) a = weaker P Q f items a
weaker P Q f (act n op target ∷ items) a = (f n op a.0, weaker P Q f items a.1)
