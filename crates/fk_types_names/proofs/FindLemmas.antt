-- From the meanings before a mark to those before the next, and that a name has one meaning.
use Rattle.std.proofs.Common.{◌≡◌, ◌≢◌, ◌⊎◌, inl, inr, ℕ, zero, suc, ◌+◌, ◌<◌, ◌≤◌, List, [], ◌∷◌, ◌++◌, length, take, drop, get_or, replicate, Option, Some, None, refl, sym, subst, ap, ◌∙◌, arith}
use Rattle.std.specs.Prelude.{slice_get, slice_set}
use Rattle.std.specs.Option.{option_and_then}
use Rattle.std.proofs.lemmas.List.{length-set, get_or-replicate, length-replicate}
use Rattle.std.proofs.lemmas.Option.{slice_get_within, get_or_from_slice_get}
use Rattle.std.proofs.lemmas.Grind.{common_steps}
use Rattle.fk_syntax.specs.Tree.{Named}
use Rattle.fk_types_names.specs.declared.names.Meaning.{Meaning}
use Rattle.fk_types_names.specs.declared.names.Meaning.TheVariants as v
use Rattle.fk_types_names.specs.declared.outline.Mark.{Mark}
use Rattle.fk_types_names.specs.declared.outline.Mark.TheVariants as c
use Rattle.fk_types_names.specs.declared.outline.Declaration.TheVariants as e
use Rattle.fk_syntax.specs.declared.place.Name.{Name}
use Rattle.fk_types_names.specs.View.{mark_of}
use Rattle.fk_types_names.specs.Outline.{MarkTree, DeclarationTree, Variable, Header, Declares, Uses}
use Rattle.fk_types_names.specs.Visible.{depth, IsInnermost}
use Rattle.fk_types_names.specs.Means.{HasBodyAt, Denotes, MeansAt, MeansIn, UsesAt, binding}
use Rattle.fk_types_names.specs.Filling.{AreApart, AreFound}

-- ---- a list after a write

set_same : {X : Type 0} (xs : List X) (i : ℕ) (x : X) → i < length xs → slice_get (slice_set xs i x) i ≡ Some x
set_same [] i x within = absurd (omega arith)
set_same (y ∷ ys) zero x within = refl
set_same (y ∷ ys) (suc i) x within = set_same ys i x (omega arith)

set_other : {X : Type 0} (xs : List X) (i k : ℕ) (x : X) → k ≢ i → slice_get (slice_set xs i x) k ≡ slice_get xs k
set_other [] i k x apart = refl
set_other (y ∷ ys) zero zero x apart = absurd (apart refl)
set_other (y ∷ ys) zero (suc k) x apart = refl
set_other (y ∷ ys) (suc i) zero x apart = refl
set_other (y ∷ ys) (suc i) (suc k) x apart = set_other ys i k x (λ e. apart (ap suc e))

equal_or : (i k : ℕ) → (i ≡ k) ⊎ (i ≢ k)
equal_or zero zero = inl refl
equal_or zero (suc k) = inr (λ e. absurd cc)
equal_or (suc i) zero = inr (λ e. absurd cc)
equal_or (suc i) (suc k) = elim (equal_or i k) [ inl e ↦ inl (ap suc e) | inr n ↦ inr (λ e. n (omega arith)) ]

last_or : (i j : ℕ) → i < j + 1 → (i < j) ⊎ (i ≡ j)
last_or zero zero h = inr refl
last_or zero (suc j) h = inl (omega arith)
last_or (suc i) zero h = absurd (omega arith)
last_or (suc i) (suc j) h = elim (last_or i j (omega arith)) [ inl a ↦ inl (omega arith) | inr p ↦ inr (ap suc p) ]

same_use : (m n : Named) → Some (Uses m) ≡ Some (Uses n) → m ≡ n
same_use m n e = cc

same_meaning : (m n : Meaning) → Some (Some m) ≡ Some (Some n) → m ≡ n
same_meaning m n e = cc

-- ---- from mark to mark

module _ (marks : List MarkTree) (tokens at : ℕ) (meanings : List (Option Meaning)) where
  -- a name is used
  pub found_use : (name : Named) (m : Meaning) → UsesAt marks name at → AreApart marks tokens → MeansAt marks name.bytes at m → AreFound marks tokens meanings at → AreFound marks tokens (slice_set meanings name.at (Some m)) (at + 1)
  found_use name m used tokens_apart means before = record {
    size = length-set meanings name.at (Some m) ∙ before.size;
    found = λ k n low u. found k n u (last_or k at low);
    only = λ t w e. only t w (equal_or t name.at) e;
  }
    where
      within : name.at < length meanings
      within = let b = tokens_apart.below at name used in let s = before.size in omega (arith, b, s)

      found : (k : ℕ) (n : Named) → UsesAt marks n k → (k < at) ⊎ (k ≡ at) → (w : Meaning) × (slice_get (slice_set meanings name.at (Some m)) n.at ≡ Some (Some w)) × MeansAt marks n.bytes k w
      found k n u (inl less) =
          let old = before.found k n less u in
          (old.0, set_other meanings name.at n.at (Some m) (tokens_apart.apart k at n name less u used) ∙ old.1, old.2)
      found k n u (inr here) =
          let same : name ≡ n = same_use name n (sym used ∙ subst (λ i. slice_get marks i ≡ Some (Uses n)) here u) in
          (m, subst (λ x. slice_get (slice_set meanings name.at (Some m)) x.at ≡ Some (Some m)) same (set_same meanings name.at (Some m) within), subst (λ i. MeansAt marks n.bytes i m) (sym here) (subst (λ x. MeansAt marks x.bytes at m) same means))

      only : (t : ℕ) (w : Meaning) → (t ≡ name.at) ⊎ (t ≢ name.at) → slice_get (slice_set meanings name.at (Some m)) t ≡ Some (Some w) → (k : ℕ) × (n : Named) × UsesAt marks n k × (n.at ≡ t) × MeansAt marks n.bytes k w
      only t w (inl here) e =
          let same : m ≡ w = same_meaning m w (sym (set_same meanings name.at (Some m) within) ∙ subst (λ i. slice_get (slice_set meanings name.at (Some m)) i ≡ Some (Some w)) here e) in
          (at, name, used, sym here, subst (MeansAt marks name.bytes at) same means)
      only t w (inr apart) e = before.only t w (sym (set_other meanings name.at t (Some m) apart) ∙ e)

  -- no name is used
  pub found_other : ((name : Named) → ¬ UsesAt marks name at) → AreFound marks tokens meanings at → AreFound marks tokens meanings (at + 1)
  found_other none before = record {
    size = before.size;
    found = λ k n low u. elim (last_or k at low) [ inl less ↦ before.found k n less u | inr here ↦ absurd (none n (subst (λ i. UsesAt marks n i) here u)) ];
    only = before.only;
  }

pub found_none : (marks : List MarkTree) (tokens : ℕ) (meanings : List (Option Meaning)) → meanings ≡ replicate tokens None → AreFound marks tokens meanings 0
found_none marks tokens meanings e = record {
  size = ap length e ∙ length-replicate tokens None;
  found = λ k n low u. absurd (omega (arith, low));
  only = λ t m f. absurd (blank t m (subst (λ xs. slice_get xs t ≡ Some (Some m)) e f));
}
  where
    blank : (t : ℕ) (m : Meaning) → slice_get (replicate tokens None) t ≡ Some (Some m) → ⊥
    blank t m f =
        let within = slice_get_within (replicate tokens None) t (Some m) f in
        let n : length (replicate tokens None) ≡ tokens = length-replicate {A = Option Meaning} tokens None in
        let some = get_or_from_slice_get (replicate tokens None) t (Some m) None f in
        let blank : get_or (replicate tokens None) t None ≡ None = get_or-replicate {A = Option Meaning} tokens t None None (omega (arith, within, n)) in
        let clash : None ≡ Some m = sym blank ∙ some in cc

-- a mark of another kind uses no name
pub not_used : (m : Mark) → ((n : Name) → m ≡ c.Uses n → ⊥) → (name : Named) → mark_of m ≡ Uses name → ⊥
not_used c.Opens other name e = absurd cc
not_used c.Closes other name e = absurd cc
not_used (c.Declares (e.Variable d)) other name e = absurd cc
not_used (c.Declares (e.Function d)) other name e = absurd cc
not_used (c.Uses n) other name e = other n refl

-- ---- one meaning

module _ (marks : List MarkTree) (bytes : List ℕ) where
  same_declaration : (d d' : DeclarationTree) → Some (Declares d) ≡ Some (Declares d') → d ≡ d'
  same_declaration d d' e = cc

  first_once : (P : ℕ → Type 0) (i j : ℕ) → P i → P j → ((k : ℕ) → k < i → ¬ P k) → ((k : ℕ) → k < j → ¬ P k) → i ≡ j
  first_once P i j p q below_i below_j = by (equal_or i j)
    where
      less_or : (a b : ℕ) → a ≢ b → (a < b) ⊎ (b < a)
      less_or zero zero n = absurd (n refl)
      less_or zero (suc b) n = inl (omega arith)
      less_or (suc a) zero n = inr (omega arith)
      less_or (suc a) (suc b) n = elim (less_or a b (λ e. n (ap suc e))) [ inl l ↦ inl (omega arith) | inr g ↦ inr (omega arith) ]

      by : (i ≡ j) ⊎ (i ≢ j) → i ≡ j
      by (inl e) = e
      by (inr n) = elim (less_or i j n) [ inl l ↦ absurd (below_j i l p) | inr g ↦ absurd (below_i j g q) ]

  innermost_once : (from i j : ℕ) → IsInnermost marks bytes from i → IsInnermost marks bytes from j → i ≡ j
  innermost_once from i j a b = by (depth marks i) (depth marks j) (a.innermost j b.declares b.visible) (b.innermost i a.declares a.visible)
    where
      by : (m n : ℕ) → (n < m) ⊎ ((n ≡ m) × (i ≤ j)) → (m < n) ⊎ ((m ≡ n) × (j ≤ i)) → i ≡ j
      by m n (inl l) (inl g) = absurd (omega arith)
      by m n (inl l) (inr g) = let e : m ≡ n = g.0 in absurd (omega arith)
      by m n (inr l) (inl g) = let e : n ≡ m = l.0 in absurd (omega arith)
      by m n (inr l) (inr g) = let x : i ≤ j = l.1 in let y : j ≤ i = g.1 in omega arith

  stands_once : (at : ℕ) (d : DeclarationTree) (m n : ℕ) → Denotes marks bytes at d m → Denotes marks bytes at d n → m ≡ n
  stands_once at (Variable d) m n a b = a ∙ sym b
  stands_once at (Header f) m n (inl a) (inl b) = first_once (HasBodyAt marks bytes) m n a.body b.body a.first b.first
  stands_once at (Header f) m n (inl a) (inr b) = absurd (b.1 m a.body)
  stands_once at (Header f) m n (inr a) (inl b) = absurd (a.1 n b.body)
  stands_once at (Header f) m n (inr a) (inr b) = a.0 ∙ sym b.0

  pub means_once : (from : ℕ) (m n : Meaning) → MeansAt marks bytes from m → MeansAt marks bytes from n → m ≡ n
  means_once from (v.Declared m) (v.Declared n) a b =
      let at_same : a.0 ≡ b.0 = innermost_once from a.0 b.0 a.3 b.3 in
      let d_same : a.1 ≡ b.1 = same_declaration a.1 b.1 (sym a.4 ∙ subst (λ i. slice_get marks i ≡ Some (Declares b.1)) (sym at_same) b.4) in
      let other = subst (λ i. Denotes marks bytes i a.1 b.2) (sym at_same) (subst (λ d. Denotes marks bytes b.0 d b.2) (sym d_same) b.5) in
      let meant_same : a.2 ≡ b.2 = stands_once a.0 a.1 a.2 b.2 a.5 other in
      ap v.Declared (a.6 ∙ (ap (binding marks) meant_same ∙ sym b.6))
  means_once from (v.Declared m) v.Predeclared a b = absurd (b.0 a.0 a.3.declares a.3.visible)
  means_once from (v.Declared m) v.Undeclared a b = absurd (b.0 a.0 a.3.declares a.3.visible)
  means_once from v.Predeclared (v.Declared n) a b = absurd (a.0 b.0 b.3.declares b.3.visible)
  means_once from v.Predeclared v.Predeclared a b = refl
  means_once from v.Predeclared v.Undeclared a b = absurd (b.1 a.1)
  means_once from v.Undeclared (v.Declared n) a b = absurd (a.0 b.0 b.3.declares b.3.visible)
  means_once from v.Undeclared v.Predeclared a b = absurd (a.1 b.1)
  means_once from v.Undeclared v.Undeclared a b = refl

-- a token means one thing at most
pub meaning_once : (marks : List MarkTree) (tokens token : ℕ) (m n : Meaning) → AreApart marks tokens → MeansIn marks token m → MeansIn marks token n → m ≡ n
meaning_once marks tokens token m n apart a b = means_once marks a.name.bytes a.from m n a.meant (subst (λ x. MeansAt marks x.bytes a.from n) (sym names_same) (subst (λ i. MeansAt marks b.name.bytes i n) (sym from_same) b.meant))
  where
    from_same : a.from ≡ b.from
    from_same = first_once marks [] (λ i. (x : Named) × UsesAt marks x i × (x.at ≡ token)) a.from b.from (a.name, a.used, a.here) (b.name, b.used, b.here)
        (λ k less x. apart.apart k a.from x.0 a.name less x.1 a.used (x.2 ∙ sym a.here))
        (λ k less x. apart.apart k b.from x.0 b.name less x.1 b.used (x.2 ∙ sym b.here))

    names_same : a.name ≡ b.name
    names_same = same_use a.name b.name (sym a.used ∙ subst (λ i. slice_get marks i ≡ Some (Uses b.name)) (sym from_same) b.used)

-- the meanings that are found are those of the tokens
pub found_all : (marks : List MarkTree) (tokens upto : ℕ) (meanings : List (Option Meaning)) → AreApart marks tokens → AreFound marks tokens meanings upto → upto ≡ length marks
    → (token : ℕ) (m : Meaning) → ((slice_get meanings token ≡ Some (Some m)) → MeansIn marks token m) × (MeansIn marks token m → slice_get meanings token ≡ Some (Some m))
found_all marks tokens upto meanings apart are all token m = (
  λ e. let f = are.only token m e in record { name = f.1; from = f.0; used = f.2; here = f.3; meant = f.4 },
  λ means. let within : means.from < length marks = slice_get_within marks means.from (Uses means.name) means.used in
      let f = are.found means.from means.name (omega arith) means.used in
      subst (λ t. slice_get meanings t ≡ Some (Some m)) means.here
      (f.1 ∙ ap (λ x. Some (Some x)) (means_once marks means.name.bytes means.from f.0 m f.2 means.meant)),
)

pub same_some : (x y : MarkTree) → Some x ≡ Some y → x ≡ y
same_some x y e = cc

pub flat : (o : Option (Option Meaning)) (m : Meaning) → ((option_and_then (λ x. x) o ≡ Some m) → o ≡ Some (Some m)) × (o ≡ Some (Some m) → option_and_then (λ x. x) o ≡ Some m)
flat None m = (λ e. absurd cc, λ e. absurd cc)
flat (Some None) m = (λ e. absurd cc, λ e. absurd (let f : Some None ≡ Some (Some m) = e in cc))
flat (Some (Some x)) m = (λ e. ap (λ y. Some y) e, λ e. ap (λ y. Some y) (same_meaning x m e))

pub none_or : (o : Option Meaning) → (o ≡ None) ⊎ ((m : Meaning) × (o ≡ Some m))
none_or None = inl refl
none_or (Some m) = inr (m, refl)

-- a Vec that was lent as a slice has the slice's items
pub written : {X : Type 0} (n : ℕ) (xs ys : List X) → length ys ≡ n → length xs ≡ length ys → take n (xs ++ drop (length xs) ys) ≡ xs
written n xs ys size same = grind (arith, common_steps)
