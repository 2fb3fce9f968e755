-- From one mark of an outline to the next.
use Rattle.std.proofs.Common.{◌≡◌, ◌⊎◌, inl, inr, ℕ, zero, suc, ◌+◌, ◌<◌, Bool, true, false, cond, List, [], ◌∷◌, ◌++◌, length, get_or, take, map, Bor, Option, Some, None, Decides, nat_eq, refl, sym, subst, ap, ◌∙◌, arith, length-append, append_assoc}
use Rattle.std.specs.Prelude.{IfSome, IsNone, IsSomeAnd, count_by, slice_get, slice_index}
use Rattle.std.specs.Int.{from_bool}
use Rattle.std.specs.Option.{option_map}
use Rattle.std.specs.Cmp.Lexicographic.{pointwise}
use Rattle.std.proofs.Math.ListN.{get_or-append}
use Rattle.std.proofs.Math.Seq.{get_or-append_seam}
use Rattle.std.proofs.lemmas.Bool.{false≢true}
use Rattle.std.proofs.lemmas.List.{take_more}
use Rattle.std.proofs.lemmas.List.Sums.{count_by_more_yes, count_by_more_no}
use Rattle.std.proofs.lemmas.Option.{slice_get-map, slice_get_read, slice_get_within, get_or_from_slice_get}
use Rattle.std.proofs.lemmas.Slice.Eq.{bytes_eq-Decides}
use Rattle.fk_types_names.specs.declared.outline.Mark.{Mark}
use Rattle.fk_types_names.specs.Outline.{MarkTree, declared_by, declared_in}
use Rattle.fk_types_names.specs.View.{mark_of}
use Rattle.fk_types_names.specs.Means.{binding}
use Rattle.fk_types_names.specs.Locals.{IsFirstOf}
use Rattle.fk_types_names.specs.TableView.{first_set}

pub mark_at : (marks : List Mark) (i : ℕ) (m : Mark) → i < length marks → m ≡ get_or marks i m → slice_get (map mark_of marks) i ≡ Some (mark_of m)
mark_at marks i m within is = slice_get-map mark_of marks i ∙ ap (option_map mark_of) (slice_get_read marks (length marks) i m refl within is)

-- ---- counts and numbers

pub count_more : (p : MarkTree → Bool) (marks : List MarkTree) (i : ℕ) (m : MarkTree) → slice_get marks i ≡ Some m → count_by p (take (i + 1) marks) ≡ count_by p (take i marks) + from_bool (p m)
count_more p marks i m is = by (p m) (ap p (get_or_from_slice_get marks i m m is))
  where
    within : i < length marks
    within = slice_get_within marks i m is

    by : (b : Bool) → p (get_or marks i m) ≡ b → count_by p (take (i + 1) marks) ≡ count_by p (take i marks) + from_bool b
    by true e = count_by_more_yes p marks i m within e
    by false e = let h = count_by_more_no p marks i m within e in omega (arith, h)

declared_in-append : (xs ys : List MarkTree) → declared_in (xs ++ ys) ≡ declared_in xs ++ declared_in ys
declared_in-append [] ys = refl
declared_in-append (x ∷ xs) ys = ap (λ ds. declared_by x ++ ds) (declared_in-append xs ys) ∙ sym (append_assoc (declared_by x) (declared_in xs) (declared_in ys))

pub binding_more : (marks : List MarkTree) (i : ℕ) (m : MarkTree) → slice_get marks i ≡ Some m → binding marks (i + 1) ≡ binding marks i + length (declared_by m)
binding_more marks i m is =
    let e = take_more marks i m (slice_get_within marks i m is) in
    let g : get_or marks i m ≡ m = get_or_from_slice_get marks i m m is in
    let whole : declared_in (take (i + 1) marks) ≡ declared_in (take i marks) ++ declared_in (m ∷ []) = ap declared_in (e ∙ ap (λ x. take i marks ++ x ∷ []) g) ∙ declared_in-append (take i marks) (m ∷ []) in
    let one = length-append (declared_by m) [] in
    let both = length-append (declared_in (take i marks)) (declared_in (m ∷ [])) in
    let l = ap length whole in
    omega (arith, one, both, l)

-- a list of numbers gets one more
pub index_more : (f : ℕ → ℕ) (xs ys : List ℕ) (x n : ℕ) → ys ≡ xs ++ x ∷ [] → length xs ≡ n → x ≡ f n → ((k : ℕ) → k < n → slice_index xs k ≡ f k) → (k : ℕ) → k < n + 1 → slice_index ys k ≡ f k
index_more f xs ys x n e size new each k low = subst (λ zs. slice_index zs k ≡ f k) (sym e) (by (below_or k n low))
  where
    below_or : (i j : ℕ) → i < j + 1 → (i < j) ⊎ (i ≡ j)
    below_or zero zero h = inr refl
    below_or zero (suc j) h = inl (omega arith)
    below_or (suc i) zero h = absurd (omega arith)
    below_or (suc i) (suc j) h = elim (below_or i j (omega arith)) [ inl a ↦ inl (omega arith) | inr p ↦ inr (ap suc p) ]

    by : (k < n) ⊎ (k ≡ n) → slice_index (xs ++ x ∷ []) k ≡ f k
    by (inl less) = get_or-append xs (x ∷ []) 0 k (omega arith) ∙ each k less
    by (inr same) = (subst (λ i. get_or (xs ++ x ∷ []) i 0 ≡ x) (size ∙ sym same) (get_or-append_seam xs x [] 0)) ∙ (new ∙ ap f (sym same))

-- ---- the first of each name

module _ (P : List ℕ → ℕ → Type 0) (at : ℕ) where
  abbrev IsSoFar : ℕ → List ℕ → Option ℕ → Type 0
  IsSoFar n name o = IsFirstOf (λ k. (k < n) × P name k) o

  last_or : (k : ℕ) → k < at + 1 → (k < at) ⊎ (k ≡ at)
  last_or k h = by k at h
    where
      by : (i j : ℕ) → i < j + 1 → (i < j) ⊎ (i ≡ j)
      by zero zero h = inr refl
      by zero (suc j) h = inl (omega arith)
      by (suc i) zero h = absurd (omega arith)
      by (suc i) (suc j) h = elim (by i j (omega arith)) [ inl a ↦ inl (omega arith) | inr p ↦ inr (ap suc p) ]

  named_here : (name : List ℕ) → P name at → ((q : List ℕ) → P q at → q ≡ name) → (q : List ℕ) (o : Option ℕ) → IsSoFar at q o → IsSoFar (at + 1) q (first_set name at q o)
  named_here name here only q (Some k) first = ((let low : k < at = first.0.0 in omega arith, first.0.1), λ n p. elim (last_or n p.0) [ inl less ↦ first.1 n (less, p.1) | inr e ↦ (let low : k < at = first.0.0 in omega arith) ])
  named_here name here only q None first = by (pointwise nat_eq q name) (bytes_eq-Decides q name)
    where
      by : (b : Bool) → Decides b (q ≡ name) → IsSoFar (at + 1) q (cond b (Some at) None)
      by true d = ((omega arith, subst (λ n. P n at) (sym (d.0 refl)) here), λ n p. elim (last_or n p.0) [ inl less ↦ absurd (first n (less, p.1)) | inr e ↦ omega arith ])
      by false d = λ n p. elim (last_or n p.0) [ inl less ↦ first n (less, p.1) | inr e ↦ false≢true (d.1 (only q (subst (P q) e p.1))) ]

  none_here : ((q : List ℕ) → ¬ P q at) → (q : List ℕ) (o : Option ℕ) → IsSoFar at q o → IsSoFar (at + 1) q o
  none_here none q (Some k) first = ((let low : k < at = first.0.0 in omega arith, first.0.1), λ n p. elim (last_or n p.0) [ inl less ↦ first.1 n (less, p.1) | inr e ↦ absurd (none q (subst (P q) e p.1)) ])
  none_here none q None first = λ n p. elim (last_or n p.0) [ inl less ↦ first n (less, p.1) | inr e ↦ none q (subst (P q) e p.1) ]

  pub first_more : (found : Option (Bor (List ℕ))) → IfSome found (λ name. P name.now at) → (IsNone found → (q : List ℕ) → ¬ P q at) → ((q r : List ℕ) → P q at → P r at → q ≡ r)
      → (old new : List ℕ → Option ℕ) → IfSome found (λ name. (q : List ℕ) → new q ≡ first_set name.now at q (old q)) → (IsNone found → (q : List ℕ) → new q ≡ old q)
      → ((q : List ℕ) → IsSoFar at q (old q)) → (q : List ℕ) → IsSoFar (at + 1) q (new q)
  first_more (Some name) here none once old new set kept first q = subst (IsSoFar (at + 1) q) (sym (set q)) (named_here name.now here (λ r p. once r name.now p here) q (old q) (first q))
  first_more None here none once old new set kept first q = subst (IsSoFar (at + 1) q) (sym (kept refl q)) (none_here (none refl) q (old q) (first q))

pub first_all : (P : ℕ → Type 0) (n : ℕ) (o : Option ℕ) → ((k : ℕ) → P k → k < n) → IsFirstOf (λ k. (k < n) × P k) o → IsFirstOf P o
first_all P n (Some i) within first = (first.0.1, λ k p. first.1 k (within k p, p))
first_all P n None within first = λ k p. first k (within k p, p)

-- what holds of the mark of an index
pub someone : {X : Type 0} (P Q : X → Type 0) → ((x : X) → P x → Q x) → (o : Option X) → IfSome o P → IfSome o Q
someone P Q f (Some x) p = f x p
someone P Q f None p = tt

pub here_at : (P : MarkTree → Type 0) (marks : List MarkTree) (i : ℕ) (m : MarkTree) → slice_get marks i ≡ Some m → P m → IsSomeAnd (slice_get marks i) P
here_at P marks i m is p = subst (λ o. IsSomeAnd o P) (sym is) p

pub at_here : (P : MarkTree → Type 0) (marks : List MarkTree) (i : ℕ) (m : MarkTree) → slice_get marks i ≡ Some m → IsSomeAnd (slice_get marks i) P → P m
at_here P marks i m is p = subst (λ o. IsSomeAnd o P) is p

pub at_within : (P : MarkTree → Type 0) (marks : List MarkTree) (i : ℕ) → IsSomeAnd (slice_get marks i) P → i < length marks
at_within P marks i p = by (slice_get marks i) refl p
  where
    by : (o : Option MarkTree) → slice_get marks i ≡ o → IsSomeAnd o P → i < length marks
    by (Some m) e q = slice_get_within marks i m e
    by None e q = absurd q
