-- No index of the flat list of a program lies in the code of two functions: the operations of each have ranks of their own.
use Rattle.std.proofs.Common.{◌≡◌, ℕ, zero, suc, ◌+◌, ◌-◌, ◌<◌, ◌≤◌, Bool, true, false, true≢false, List, [], ◌∷◌, length, slice_get, Option, Some, None, inl, inr, refl, sym, ◌∙◌, subst, arith}
use Rattle.std.specs.Prelude.{◌==◌, ◌⊎◌, if◌then◌else◌}
use Rattle.std.proofs.lemmas.Bool.{eqb-true}
use Rattle.fk_meaning_operation.specs.declared.operation.Operation.{Operation}
use Rattle.fk_syntax.specs.Program.{FunctionTree, ProgramTree}
use Rattle.fk_meaning_forms.specs.Code.{Code, size, numbered}
use Rattle.fk_meaning_forms.specs.Tables.{Tables}
use Rattle.fk_meaning_forms.specs.Program.{functions_of, binding_of, code_of, body_in, bodies_of}
use Rattle.fk_core.specs.declared.op.CoreOp.{CoreOp}
use Rattle.fk_core.specs.CodeAt.{Around}
use Rattle.fk_core.proofs.Leading.{op_stops}
use Rattle.fk_core_flat.specs.Flat.{flat}
use Rattle.fk_core_flat.specs.Laws.{IsFlat}
use Rattle.fk_core_flat.proofs.Lengths.{flat_length}
use Rattle.fk_lower_laws.specs.FreeLaws.{LiesIn, AreApart, FlatListsAreApart}
use Rattle.fk_lower_laws.proofs.Items.{AllActs, all_acts, weaker, first_act, OperationAt, JumpAt, found}

-- a number is one of so many from a first one on, or else something holds
abbrev pub Numbers : (is : Bool) → (first count n : ℕ) → (other : Type 0) → Type 0
Numbers true first count n other = (first ≤ n) × (n < first + count)
Numbers false first count n other = other

module _ (tables : Tables) (everyone : List FunctionTree) where
  abbrev pub count : FunctionTree → ℕ
  count f = size (code_of tables everyone f)

  -- a rank is that of an operation of a function
  abbrev pub IsRankOf : (first : ℕ) → List FunctionTree → (binding n : ℕ) → Type 0
  IsRankOf first [] b n = ⊥
  IsRankOf first (f ∷ fs) b n = Numbers (binding_of tables f == b) first (count f) n (IsRankOf (first + count f) fs b n)

  not_before : (fs : List FunctionTree) (first b n : ℕ) → IsRankOf first fs b n → first ≤ n
  not_before [] first b n h = absurd h
  not_before (f ∷ fs) first b n h = by (binding_of tables f == b) (λ k. not_before fs (first + count f) b n k) h
    where
      by : (is : Bool) → (IsRankOf (first + count f) fs b n → first + count f ≤ n)
          → Numbers is first (count f) n (IsRankOf (first + count f) fs b n) → first ≤ n
      by true more h = h.0
      by false more h = let after = more h in omega arith

  one_owner : (fs : List FunctionTree) (first a b n : ℕ) → IsRankOf first fs a n → IsRankOf first fs b n → a ≡ b
  one_owner [] first a b n h k = absurd h
  one_owner (f ∷ fs) first a b n h k =
      by (binding_of tables f == a) (binding_of tables f == b) refl refl
      (λ u v. one_owner fs (first + count f) a b n u v)
      (λ u. not_before fs (first + count f) a n u) (λ u. not_before fs (first + count f) b n u) h k
    where
      by : (x y : Bool) → (binding_of tables f == a) ≡ x → (binding_of tables f == b) ≡ y
          → (IsRankOf (first + count f) fs a n → IsRankOf (first + count f) fs b n → a ≡ b)
          → (IsRankOf (first + count f) fs a n → first + count f ≤ n) → (IsRankOf (first + count f) fs b n → first + count f ≤ n)
          → Numbers x first (count f) n (IsRankOf (first + count f) fs a n) → Numbers y first (count f) n (IsRankOf (first + count f) fs b n) → a ≡ b
      by true true e g others u v h k = sym (eqb-true (binding_of tables f) a e) ∙ eqb-true (binding_of tables f) b g
      by true false e g others u v h k = absurd (let more = v k in let less = h.1 in let z : ⊥ = omega arith in z)
      by false true e g others u v h k = absurd (let more = u h in let less = k.1 in let z : ⊥ = omega arith in z)
      by false false e g others u v h k = others h k

  -- an operation of a function, with its rank
  pub record IsOwn (first : ℕ) (fs : List FunctionTree) (binding n : ℕ) (op : Operation) : Type 0 where
    pub rank : IsRankOf first fs binding n

  pub all_own : (entry : ℕ → ℕ) (fs : List FunctionTree) (first b : ℕ)
      → (near : Bool) (c : Around) (i k : ℕ) → AllActs (IsOwn first fs b) (flat entry near c i k (body_in tables everyone first fs b))
  all_own entry [] first b near c i k = tt
  all_own entry (f ∷ fs) first b near c i k =
      by (binding_of tables f == b) refl
      (all_own entry fs (first + count f) b near c i k)
    where
      as_own : (is : Bool) → (binding_of tables f == b) ≡ is → (n : ℕ) (op : Operation)
          → Numbers is first (count f) n (IsRankOf (first + count f) fs b n) → IsOwn first (f ∷ fs) b n op
      as_own is e n op numbers =
          record { rank = subst (λ x. Numbers x first (count f) n (IsRankOf (first + count f) fs b n)) (sym e) numbers }

      by : (is : Bool) → (binding_of tables f == b) ≡ is
          → AllActs (IsOwn (first + count f) fs b) (flat entry near c i k (body_in tables everyone (first + count f) fs b))
          → AllActs (IsOwn first (f ∷ fs) b) (flat entry near c i k (if is then numbered first (code_of tables everyone f) else body_in tables everyone (first + count f) fs b))
      by true e others =
          all_acts (IsOwn first (f ∷ fs) b) entry first (first + count f) (λ n op low high. as_own true e n op (low, high))
          (code_of tables everyone f) first (omega arith) (omega arith) near c i k
      by false e others =
          weaker (IsOwn (first + count f) fs b) (IsOwn first (f ∷ fs) b) (λ n op own. as_own false e n op own.rank)
          (flat entry near c i k (body_in tables everyone (first + count f) fs b)) others

module _ (tables : Tables) (program : ProgramTree) (core : List CoreOp) (entry : ℕ → ℕ) (flat' : IsFlat (bodies_of tables program) core entry) where
  abbrev pub fs : List FunctionTree
  fs = functions_of program.items

  abbrev pub bodies : ℕ → Code ℕ
  bodies = bodies_of tables program

  abbrev pub Own : ℕ → ℕ → Operation → Type 0
  Own f = IsOwn tables fs 0 fs f

  -- what stands at an index of a function
  pub at_index : (i f : ℕ) → LiesIn bodies flat'.place i f
      → OperationAt (Own f) core entry i ⊎ (JumpAt (Own f) core entry i × (flat'.place f < i))
  at_index i f lies =
      let items = flat entry false None (flat'.place f) (length core) (bodies f) in
      let long = flat_length entry (bodies f) false None (flat'.place f) (length core) in
      let low = lies.0 in
      let high = lies.1 in
      let d = i - flat'.place f in
      let e : flat'.place f + d ≡ i = omega arith in
      let lt : d < length items = omega arith in
      by d e (found (Own f) core entry items (flat'.place f) d lt (flat'.has f)
      (all_own tables fs entry fs 0 f false None (flat'.place f) (length core))
      (first_act entry (bodies f) false None (flat'.place f) (length core)))
    where
      by : (d : ℕ) → flat'.place f + d ≡ i
          → OperationAt (Own f) core entry (flat'.place f + d) ⊎ (JumpAt (Own f) core entry (flat'.place f + d) × (0 < d))
          → OperationAt (Own f) core entry i ⊎ (JumpAt (Own f) core entry i × (flat'.place f < i))
      by d e (inl x) = inl (subst (OperationAt (Own f) core entry) e x)
      by d e (inr x) = inr (subst (JumpAt (Own f) core entry) e x.0, let inside = x.1 in omega arith)

  same_op : (a b : CoreOp) (o : Option CoreOp) → o ≡ Some a → o ≡ Some b → a ≡ b
  same_op a b o p q = cc

  apart_by : (f g i : ℕ) → OperationAt (Own f) core entry i ⊎ (JumpAt (Own f) core entry i × (flat'.place f < i))
      → OperationAt (Own g) core entry i ⊎ (JumpAt (Own g) core entry i × (flat'.place g < i))
      → LiesIn bodies flat'.place i f → LiesIn bodies flat'.place i g → f ≡ g
  apart_by f g i (inl x) (inl y) a b =
      let same : x.op ≡ y.op = same_op x.op y.op (slice_get core i) x.stands y.stands in
      one_owner tables fs fs 0 f g y.op.site (subst (λ (op : CoreOp). IsRankOf tables fs 0 fs f op.site) same x.own.rank) y.own.rank
  apart_by f g i (inl x) (inr y) a b = absurd (true≢false (sym y.0.leads ∙ op_stops core entry i x.op x.operation x.stands x.is_read y.0.op y.0.stands))
  apart_by f g i (inr x) (inl y) a b = absurd (true≢false (sym x.0.leads ∙ op_stops core entry i y.op y.operation y.stands y.is_read x.0.op x.0.stands))
  apart_by f g zero (inr x) (inr y) a b = absurd (let inside = x.1 in let z : ⊥ = omega arith in z)
  apart_by f g (suc i) (inr x) (inr y) a b =
      let before = x.1 in
      let before' = y.1 in
      let under = a.1 in
      let under' = b.1 in
      let u : LiesIn bodies flat'.place i f = (omega arith, omega arith) in
      let v : LiesIn bodies flat'.place i g = (omega arith, omega arith) in
      apart_by f g i (at_index i f u) (at_index i g v) u v

  pub apart : AreApart bodies flat'.place
  apart i f g a b = apart_by f g i (at_index i f a) (at_index i g b) a b

pub flat_lists_are_apart : FlatListsAreApart
flat_lists_are_apart tables program core entry flat' = apart tables program core entry flat'
