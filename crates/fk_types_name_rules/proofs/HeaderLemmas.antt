-- The headers of functions by what is known of them.
use Rattle.std.proofs.Common.{◌≡◌, ◌≢◌, ◌↔◌, inl, inr, ℕ, zero, suc, ◌<◌, ◌≤◌, List, [], ◌∷◌, length, Bool, true, false, not, IsTrue, Option, Some, None, refl, sym, ap, subst, ◌∙◌, arith}
use Rattle.std.specs.Prelude.{IsSomeAnd, slice_get}
use Rattle.std.proofs.lemmas.Bool.{false≢true}
use Rattle.fk_syntax.specs.Program.{DeclaredTree, FunctionTree, ItemTree, StructItem, VariablesItem, FunctionItem}
use Rattle.fk_types_names.specs.Locals.{IsFirstOf}
use Rattle.fk_types_name_rules.specs.Headers.{IsSameParameter, AreSameParameters, Agree, HeaderHere, BodyHere, HasHeaderAt, HasBodyAt, HasLaterAt, IsFirst, Differs, RepeatsBody, LacksBody}

-- ---- parameters, one by one

abbrev pub SameAt : List DeclaredTree → List DeclaredTree → ℕ → Type 0
SameAt xs ys k = (x y : DeclaredTree) → slice_get xs k ≡ Some x → slice_get ys k ≡ Some y → IsSameParameter x y

pub same_each : (xs ys : List DeclaredTree) → length xs ≡ length ys → ((k : ℕ) → k < length xs → SameAt xs ys k) → AreSameParameters xs ys
same_each [] [] size each = tt
same_each [] (y ∷ ys) size each = absurd (omega arith)
same_each (x ∷ xs) [] size each = absurd (omega arith)
same_each (x ∷ xs) (y ∷ ys) size each = (each 0 (omega arith) x y refl refl, same_each xs ys (omega arith) (λ k within. each (suc k) (omega arith)))

pub same_length : (xs ys : List DeclaredTree) → AreSameParameters xs ys → length xs ≡ length ys
same_length [] [] same = refl
same_length [] (y ∷ ys) same = absurd same
same_length (x ∷ xs) [] same = absurd same
same_length (x ∷ xs) (y ∷ ys) same = let n = same_length xs ys same.1 in omega (arith, n)

one_some : {X : Type 0} (x y : X) → Some x ≡ Some y → x ≡ y
one_some x y e = cc

pub same_at : (xs ys : List DeclaredTree) → AreSameParameters xs ys → (k : ℕ) → SameAt xs ys k
same_at [] ys same k x y e f = absurd (cc)
same_at (z ∷ xs) [] same k x y e f = absurd same
same_at (z ∷ xs) (w ∷ ys) same zero x y e f = subst (λ v. IsSameParameter v y) (one_some z x e) (subst (λ v. IsSameParameter z v) (one_some w y f) same.0)
same_at (z ∷ xs) (w ∷ ys) same (suc k) x y e f = same_at xs ys same.1 k x y e f

pub same_here : (xs ys : List DeclaredTree) (k : ℕ) (z w : DeclaredTree) → slice_get xs k ≡ Some z → slice_get ys k ≡ Some w → IsSameParameter z w → SameAt xs ys k
same_here xs ys k z w there other same x y e f = subst (λ v. IsSameParameter v y) (one_some z x (sym there ∙ e)) (subst (λ v. IsSameParameter z v) (one_some w y (sym other ∙ f)) same)

-- ---- one name stands at an index

module _ (items : List ItemTree) (at : ℕ) (name other : List ℕ) where
  pub header_once : HasHeaderAt items name at → HasHeaderAt items other at → other ≡ name
  header_once h k = by (slice_get items at) h k
    where
      by : (o : Option ItemTree) → IsSomeAnd o (HeaderHere name) → IsSomeAnd o (HeaderHere other) → other ≡ name
      by None h k = absurd h
      by (Some (StructItem n ms)) h k = absurd h
      by (Some (VariablesItem vs)) h k = absurd h
      by (Some (FunctionItem f)) h k = sym k ∙ h

  pub body_once : HasBodyAt items name at → HasBodyAt items other at → other ≡ name
  body_once h k = by (slice_get items at) h k
    where
      by : (o : Option ItemTree) → IsSomeAnd o (BodyHere name) → IsSomeAnd o (BodyHere other) → other ≡ name
      by None h k = absurd h
      by (Some (StructItem n ms)) h k = absurd h
      by (Some (VariablesItem vs)) h k = absurd h
      by (Some (FunctionItem f)) h k = sym k.0 ∙ h.0

-- ---- the first ones

first_once : (P : ℕ → Type 0) (i j : ℕ) → IsFirst P i → IsFirst P j → i ≡ j
first_once P i j p q = let a = p.1 j q.0 in let b = q.1 i p.0 in omega (arith, a, b)

-- a header that is not the first one has one before it
pub later_from : (items : List ItemTree) (name : List ℕ) (at : ℕ) (o : Option ℕ) → IsFirstOf (HasHeaderAt items name) o → HasHeaderAt items name at → o ≢ Some at → HasLaterAt items name at
later_from items name at None first here other = absurd (first at here)
later_from items name at (Some k) first here other = (here, k, less k (first.1 at here) (λ e. other (ap Some e)), first.0)
  where
    less : (i : ℕ) → i ≤ at → i ≢ at → i < at
    less i low apart = omega arith

pub later_not_first : (items : List ItemTree) (name : List ℕ) (at : ℕ) (o : Option ℕ) → IsFirstOf (HasHeaderAt items name) o → o ≡ Some at → ¬ HasLaterAt items name at
later_not_first items name at o first e later = let f = subst (IsFirstOf (HasHeaderAt items name)) e first in let low = f.1 later.1 later.3 in let less = later.2 in omega (arith, low, less)

one_function : (f g : FunctionTree) → Some (FunctionItem f) ≡ Some (FunctionItem g) → f ≡ g
one_function f g e = cc

not_true : (b : Bool) → IsTrue (not b) → ¬ IsTrue b
not_true true e f = absurd (false≢true e)
not_true false e f = absurd (false≢true f)

true_not : (b : Bool) → (¬ IsTrue b) → IsTrue (not b)
true_not true never = absurd (never refl)
true_not false never = refl

module _ (items : List ItemTree) (function : FunctionTree) where
  pub differs_first : (first : ℕ) (header : FunctionTree) (b : Bool) → IsFirst (HasHeaderAt items function.name.bytes) first → slice_get items first ≡ Some (FunctionItem header) → (IsTrue b ↔ Agree header function)
      → IsTrue (not b) ↔ Differs items function
  differs_first first header b is there agrees = (
    λ e. (first, header, is, there, λ a. not_true b e (agrees.1 a)),
    λ h. true_not b (λ e.
        let at = first_once (HasHeaderAt items function.name.bytes) h.0 first h.2 is in
        let same = one_function header h.1 (sym there ∙ subst (λ i. slice_get items i ≡ Some (FunctionItem h.1)) at h.3) in
        h.4 (subst (λ f. Agree f function) same (agrees.0 e))),
  )

  pub differs_never : ((k : ℕ) → ¬ HasHeaderAt items function.name.bytes k) → ¬ Differs items function
  differs_never none h = none h.0 h.2.0

  module _ (at : ℕ) where
    pub repeats_first : (first : ℕ) → IsFirst (HasBodyAt items function.name.bytes) first → RepeatsBody items at function → first < at
    repeats_first first is h = let low = is.1 h.1 h.3 in let less = h.2 in omega (arith, low, less)

    pub repeats_never : ((k : ℕ) → ¬ HasBodyAt items function.name.bytes k) → ¬ RepeatsBody items at function
    repeats_never none h = none h.1 h.3

    pub lacks_not : (first : ℕ) → IsFirst (HasBodyAt items function.name.bytes) first → ¬ LacksBody items at function
    lacks_not first is h = h.0 first is.0

    pub lacks_second : (second : ℕ) → ((k : ℕ) → ¬ HasBodyAt items function.name.bytes k) → IsFirst (HasLaterAt items function.name.bytes) second → second ≡ at → LacksBody items at function
    lacks_second second none is e = (none, inl (subst (IsFirst (HasLaterAt items function.name.bytes)) e is))

    pub second_lacks : (second : ℕ) → IsFirst (HasLaterAt items function.name.bytes) second → LacksBody items at function → second ≡ at
    second_lacks second is h = elim h.1 [ inl first ↦ first_once (HasLaterAt items function.name.bytes) second at is first | inr never ↦ absurd (never second is.0) ]
