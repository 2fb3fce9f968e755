-- Where processors wait for others, all who come there are at the same place of a list: at an operation, and at none of the jumps
-- that lead to it.
use Rattle.std.proofs.Common.{◌≡◌, ◌⊎◌, inl, inr, ⊎_elim, ℕ, zero, suc, ◌+◌, ◌≤◌, Bool, true, false, ◌&&◌, List, [], ◌∷◌, length, Option, Some, None, is_some, ap, ◌∙◌, sym, refl, subst, arith}
use Rattle.std.specs.Prelude.{slice_get, nat_lt, ◌==◌, if◌then◌else◌}
use Rattle.std.proofs.lemmas.Bool.{cases_lt, eqb-true, eq-eqb, lt-ltb, le-ltb, false≢true}
use Rattle.fk_meaning_operation.specs.declared.operation.Operation.{Operation}
use Rattle.fk_meaning_operation.specs.declared.operation.Operation.TheVariants as o
use Rattle.fk_meaning.specs.Round.{Step}
use Rattle.fk_core.specs.declared.op.CoreOp.{CoreOp}
use Rattle.fk_core.specs.Numbers.{operation_of}
use Rattle.fk_core.specs.Next.{Position, position, landing, follows, step_by, step_of, next}
use Rattle.fk_core.specs.CodeAt.{Stay}
use Rattle.fk_core.specs.WellFormed.{LeadsOn}
use Rattle.fk_core.proofs.Leading.{op_stops, lands}
use Rattle.fk_core.proofs.Running.{IsEndOf}
use Rattle.fk_lockstep_tree.specs.Lists.{HasOwnSites}

first_of : {X : Type 0} (x y : X) → Some x ≡ Some y → x ≡ y
first_of x y e = cc

-- at these operations processors wait for others
abbrev pub is_joint : Operation → Bool
is_joint o.Begin = true
is_joint o.Resume = true
is_joint (o.Meet closes) = closes
is_joint operation = false

-- what is left has such an operation next
pub record Joins {V : Type 0} (next : V → Option (Step V)) (v : V) : Type 0 where
  pub step : Step V
  pub next_is : next v ≡ Some step
  pub is : is_joint step.operation ≡ true

-- ---- the last ones of a list

abbrev pub last_of : ℕ → List ℕ → List ℕ
last_of n [] = []
last_of n (x ∷ xs) = if nat_lt (length xs) n then x ∷ xs else last_of n xs

pub last_all : (n : ℕ) (xs : List ℕ) → length xs ≡ n → last_of n xs ≡ xs
last_all n [] e = refl
last_all n (x ∷ xs) e = ap (λ b. if b then x ∷ xs else last_of n xs) (lt-ltb (length xs) n (omega (arith, e)))

last_more : (n x : ℕ) (xs : List ℕ) → n ≤ length xs → last_of n (x ∷ xs) ≡ last_of n xs
last_more n x xs le = ap (λ b. if b then x ∷ xs else last_of n xs) (le-ltb (length xs) n le)

-- those at the end of a list are its last ones
ends_short : (cs is : List ℕ) → IsEndOf cs is → length cs ≤ length is
ends_short cs [] e = let same = ap (λ (l : List ℕ). length l) e in omega (arith, same)
ends_short cs (i ∷ is) (inl e) = let same = ap (λ (l : List ℕ). length l) e in omega (arith, same)
ends_short cs (i ∷ is) (inr below) = let le = ends_short cs is below in omega (arith, le)

pub last_end : (cs is : List ℕ) → IsEndOf cs is → last_of (length cs) is ≡ cs
last_end cs [] e = sym e
last_end cs (i ∷ is) (inl e) = ap (λ (l : List ℕ). last_of (length l) (i ∷ is)) e ∙ last_all (length (i ∷ is)) (i ∷ is) refl ∙ sym e
last_end cs (i ∷ is) (inr below) = last_more (length cs) i is (ends_short cs is below) ∙ last_end cs is below

-- and the last ones of these are as before
pub last_again : (k n : ℕ) (xs : List ℕ) → k ≤ n → last_of k (last_of n xs) ≡ last_of k xs
last_again k n [] le = refl
last_again k n (x ∷ xs) le = by (last_again k n xs le) (nat_lt (length xs) n) refl
  where
    by : last_of k (last_of n xs) ≡ last_of k xs → (b : Bool) → nat_lt (length xs) n ≡ b → last_of k (if b then x ∷ xs else last_of n xs) ≡ last_of k (x ∷ xs)
    by same true e = refl
    by same false e =
        let far : n ≤ length xs = ⊎_elim (λ lt. absurd (false≢true (sym e ∙ lt-ltb (length xs) n lt))) (λ le'. le') (cases_lt (length xs) n) in
        same ∙ sym (last_more k x xs (omega (arith, le, far)))

-- an operation leaves the calls that run, begins one, or ends the last one
abbrev Turns : List ℕ → List ℕ → Type 0
Turns cs ds = (ds ≡ cs) ⊎ (((x : ℕ) × (ds ≡ x ∷ cs)) ⊎ ((x : ℕ) × (cs ≡ x ∷ ds)))

pub last_turned : (n : ℕ) (cs ds : List ℕ) → n ≤ length cs → n ≤ length ds → Turns cs ds → last_of n ds ≡ last_of n cs
last_turned n cs ds a b t =
    ⊎_elim
    (λ same. ap (last_of n) same)
    (λ other.
    ⊎_elim
    (λ more. ap (last_of n) more.1 ∙ last_more n more.0 cs a)
    (λ less. sym (ap (last_of n) less.1 ∙ last_more n less.0 ds b))
    other)
    t

-- where the operation with a site stands
abbrev pub stands_with : (site : ℕ) → CoreOp → Bool
stands_with site op = is_some (operation_of op.kind op.number) && (op.site == site)

abbrev pub index_in : List CoreOp → (site : ℕ) → ℕ
index_in [] site = 0
index_in (op ∷ ops) site = if stands_with site op then 0 else suc (index_in ops site)

module _ (core : List CoreOp) where
  pub turned : (op : Operation) (i target : ℕ) (cs : List ℕ) (onward : Bool) → Turns cs (follows core op i target cs onward).callers
  turned (o.Leave gives framed) i target [] onward = inl refl
  turned (o.Leave gives framed) i target (c ∷ cs) onward = inr (inr (c, refl))
  turned o.Halt i target [] onward = inl refl
  turned o.Halt i target (c ∷ cs) onward = inr (inr (c, refl))
  turned (o.Enter n) i target cs onward = inr (inl (_, refl))
  turned op i target cs true = inl refl
  turned op i target cs false = inl refl

  -- the operations of groups leave them
  abbrev pub is_of_group : Operation → Bool
  is_of_group o.Begin = true
  is_of_group (o.Split by) = true
  is_of_group o.Shrink = true
  is_of_group o.End = true
  is_of_group o.Resume = true
  is_of_group o.Farm = true
  is_of_group o.Seq = true
  is_of_group (o.Meet closes) = true
  is_of_group op = false

  pub stay_called : (op : Operation) (i target : ℕ) (cs : List ℕ) (onward : Bool) → is_of_group op ≡ true → (follows core op i target cs onward).callers ≡ cs
  stay_called o.Begin i target cs true e = refl
  stay_called o.Begin i target cs false e = refl
  stay_called (o.Split by) i target cs true e = refl
  stay_called (o.Split by) i target cs false e = refl
  stay_called o.Shrink i target cs true e = refl
  stay_called o.Shrink i target cs false e = refl
  stay_called o.End i target cs onward e = refl
  stay_called o.Resume i target cs true e = refl
  stay_called o.Resume i target cs false e = refl
  stay_called o.Farm i target cs true e = refl
  stay_called o.Farm i target cs false e = refl
  stay_called o.Seq i target cs true e = refl
  stay_called o.Seq i target cs false e = refl
  stay_called (o.Meet closes) i target cs true e = refl
  stay_called (o.Meet closes) i target cs false e = refl
  stay_called op i target cs onward e = absurd (cc)

  -- ---- the operation at a position

  pub record Found (p : Position) (s : Step Position) : Type 0 where
    pub op : CoreOp
    pub stands : slice_get core (landing core p.at) ≡ Some op
    pub is_read : operation_of op.kind op.number ≡ Some s.operation
    pub site : op.site ≡ s.site
    pub rest : s.rest ≡ follows core s.operation (landing core p.at) op.target p.callers

  pub found : (p : Position) (s : Step Position) → next core p ≡ Some s → Found p s
  found p s e = by (slice_get core i) refl e
    where
      i : ℕ
      i = landing core p.at

      of_op : (op : CoreOp) → slice_get core i ≡ Some op → (x : Option Operation) → operation_of op.kind op.number ≡ x → step_by core i p.callers op x ≡ Some s → Found p s
      of_op op at None r f = absurd (cc)
      of_op op at (Some operation) r f =
          subst (Found p) (first_of (record { operation = operation; site = op.site; rest = follows core operation i op.target p.callers }) s f)
          (record { op = op; stands = at; is_read = r; site = refl; rest = refl })

      by : (x : Option CoreOp) → slice_get core i ≡ x → step_of core i p.callers x ≡ Some s → Found p s
      by None at f = absurd (cc)
      by (Some op) at f = of_op op at (operation_of op.kind op.number) refl f

  -- processors wait at the operation itself
  abbrev pub seat_by : Option (Step Position) → Position → Position
  seat_by None p = p
  seat_by (Some s) p = if is_joint s.operation then position (landing core p.at) p.callers else p

  abbrev pub seat : Position → Position
  seat p = seat_by (next core p) p

  pub seat_callers : (p : Position) → (seat p).callers ≡ p.callers
  seat_callers p = by (next core p)
    where
      choose : (b : Bool) → (if b then position (landing core p.at) p.callers else p).callers ≡ p.callers
      choose true = refl
      choose false = refl

      by : (s : Option (Step Position)) → (seat_by s p).callers ≡ p.callers
      by None = refl
      by (Some s) = choose (is_joint s.operation)

  pub seat_joint : (p : Position) (s : Step Position) → next core p ≡ Some s → is_joint s.operation ≡ true → seat p ≡ position (landing core p.at) p.callers
  seat_joint p s e j = ap (λ x. seat_by x p) e ∙ ap (λ b. if b then position (landing core p.at) p.callers else p) j

  pub seat_plain : (p : Position) (s : Step Position) → next core p ≡ Some s → is_joint s.operation ≡ false → seat p ≡ p
  seat_plain p s e j = ap (λ x. seat_by x p) e ∙ ap (λ b. if b then position (landing core p.at) p.callers else p) j

  module _ (leads_on : LeadsOn core) where
    lands_again : (p : Position) (s : Step Position) → next core p ≡ Some s → next core (position (landing core p.at) p.callers) ≡ next core p
    lands_again p s e =
        let f = found p s e in
        ap (λ k. step_of core k p.callers (slice_get core k))
        (lands core (λ b. 0) leads_on (landing core p.at) (landing core p.at) Stay (op_stops core (λ b. 0) (landing core p.at) f.op s.operation f.stands f.is_read))

    pub seat_next : (p : Position) → next core (seat p) ≡ next core p
    seat_next p = by (next core p) refl
      where
        choose : (s : Step Position) → next core p ≡ Some s → (b : Bool) → next core (if b then position (landing core p.at) p.callers else p) ≡ next core p
        choose s e true = lands_again p s e
        choose s e false = refl

        by : (s : Option (Step Position)) → next core p ≡ s → next core (seat_by s p) ≡ next core p
        by None e = refl
        by (Some s) e = choose s e (is_joint s.operation)

  module _ (own : HasOwnSites core) where
    index_of_own : (ops : List CoreOp) (first i : ℕ) (op : CoreOp) (x : Operation) → ((j : ℕ) (other : CoreOp) → slice_get ops j ≡ Some other → slice_get core (first + j) ≡ Some other)
        → slice_get ops i ≡ Some op → operation_of op.kind op.number ≡ Some x → first + index_in ops op.site ≡ first + i
    index_of_own [] first i op x within at is = absurd (cc)
    index_of_own (other ∷ ops) first zero op x within at is =
        let same : other ≡ op = first_of other op at in
        ap (λ b. first + (if b then 0 else suc (index_in ops op.site)))
        (ap (λ (k : CoreOp). stands_with op.site k) same ∙ ap (λ y. is_some y && (op.site == op.site)) is ∙ eq-eqb op.site op.site refl)
    index_of_own (other ∷ ops) first (suc i) op x within at is =
        by (stands_with op.site other) refl
        (index_of_own ops (suc first) i op x (λ j k f. subst (λ n. slice_get core n ≡ Some k) (omega arith) (within (suc j) k f)) at is)
      where
        clash : (y : Option Operation) → operation_of other.kind other.number ≡ y → (is_some y && (other.site == op.site)) ≡ true → first + 0 ≡ first + suc i
        clash None is' e = absurd (cc)
        clash (Some y) is' e = own (first + 0) (first + suc i) other op y x (within 0 other refl) (within (suc i) op at) is' is (eqb-true other.site op.site e)

        by : (b : Bool) → stands_with op.site other ≡ b → suc first + index_in ops op.site ≡ suc first + i → first + (if b then 0 else suc (index_in ops op.site)) ≡ first + suc i
        by true e more = clash (operation_of other.kind other.number) refl e
        by false e more = omega (arith, more)

    pub index_is : (i : ℕ) (op : CoreOp) (x : Operation) → slice_get core i ≡ Some op → operation_of op.kind op.number ≡ Some x → index_in core op.site ≡ i
    index_is i op x at is =
        let e = index_of_own core 0 i op x (λ j k f. subst (λ n. slice_get core n ≡ Some k) (omega arith) f) at is in
        omega (arith, e)
