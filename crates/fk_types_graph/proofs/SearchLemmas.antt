-- Marks, and what a search has reached.
use Rattle.std.proofs.Common.{◌≡◌, ℕ, zero, suc, ◌+◌, ◌<◌, ◌≢◌, inl, inr, Bool, true, false, not, cond, List, [], ◌∷◌, ◌++◌, Some, Vec, Global, Contains, length, length-append, set, slice_get, count_by, get_or, take, refl, sym, ap, subst, ◌∙◌, arith}
use Rattle.std.specs.Prelude.{◌↔◌, IsTrue}
use Rattle.std.proofs.Math.ListN.{length-set, replicate}
use Rattle.std.proofs.lemmas.Option.{none-some, same_Some, slice_get-get_or, slice_get_within, get_or_from_slice_get}
use Rattle.std.proofs.lemmas.List.{take_more}
use Rattle.std.proofs.lemmas.List.Elements.{Contains-append_left, Contains-append_right, Contains-append_cases, Contains-push, Contains-push_cases}
use Rattle.std.proofs.lemmas.List.Sums.{sum_by-set}
use Rattle.std.proofs.lemmas.Bool.{cases_eq, false≢true}
use Rattle.fk_types_graph.specs.Graph.{HasEdge, Walk, LeadsTo, IsOnCycle}
use Rattle.fk_types_graph.specs.Marks.{IsMarked, Marks, IsDone, IsSearch}

-- walks with a step more
module _ (Step : ℕ → ℕ → Type 0) where
  Walk-snoc : (n a b c : ℕ) → Walk Step n a b → Step b c → Walk Step (suc n) a c
  Walk-snoc zero a b c w s = (c, subst (λ x. Step x c) (sym w) s, refl)
  Walk-snoc (suc n) a b c w s = (w.0, w.1, Walk-snoc n w.0 b c w.2 s)

  LeadsTo-snoc : (a b c : ℕ) → LeadsTo Step a b → Step b c → LeadsTo Step a c
  LeadsTo-snoc a b c h s = (suc h.0, Walk-snoc (suc h.0) a b c h.1 s)

  LeadsTo-one : (a b : ℕ) → Step a b → LeadsTo Step a b
  LeadsTo-one a b s = (0, (b, s, refl))

-- walks by one relation are walks by another that holds where it does
pub LeadsTo-same : (P Q : ℕ → ℕ → Type 0) → ((a b : ℕ) → P a b → Q a b) → (a b : ℕ) → LeadsTo P a b → LeadsTo Q a b
LeadsTo-same P Q to a b h = (h.0, walk (suc h.0) a h.1)
  where
    walk : (n x : ℕ) → Walk P n x b → Walk Q n x b
    walk zero x w = w
    walk (suc n) x w = (w.0, to x w.0 w.1, walk n w.0 w.2)

-- lists without and with one element
pub in_none : (v : ℕ) → Contains [] v → ⊥
in_none v h = omega (arith, h.1)

pub in_one : (v u : ℕ) → Contains (v ∷ []) u → v ≡ u
in_one v u h = elim (Contains-push_cases [] v u h) [ inl none ↦ absurd (in_none u none) | inr same ↦ same ]

-- one vertex is marked
set_same : (marks : List Bool) (i : ℕ) → i < length marks → IsMarked (set marks i true) i
set_same [] i l = absurd (omega (arith, l))
set_same (m ∷ marks) zero l = refl
set_same (m ∷ marks) (suc i) l = set_same marks i (omega (arith, l))

set_other : (marks : List Bool) (i j : ℕ) → j ≢ i → slice_get (set marks i true) j ≡ slice_get marks j
set_other [] i j ne = refl
set_other (m ∷ marks) zero zero ne = absurd (ne refl)
set_other (m ∷ marks) zero (suc j) ne = refl
set_other (m ∷ marks) (suc i) zero ne = refl
set_other (m ∷ marks) (suc i) (suc j) ne = set_other marks i j (λ e. ne (ap suc e))

pub Keeps-set : (marks : List Bool) (i v : ℕ) → i < length marks → IsMarked marks v → IsMarked (set marks i true) v
Keeps-set marks i v l m = elim (cases_eq v i) [
  | inl same ↦ subst (IsMarked (set marks i true)) (sym same) (set_same marks i l)
  | inr other ↦ set_other marks i v other ∙ m
]

pub IsMarked-set : (marks : List Bool) (i : ℕ) → i < length marks → IsMarked (set marks i true) i
IsMarked-set marks i l = set_same marks i l

-- a vertex that is marked now, and one that was marked
pub Marks-new : (marks : List Bool) (waiting : List ℕ) (v : ℕ) → slice_get marks v ≡ Some false → Marks (v ∷ []) marks (set marks v true) waiting (waiting ++ v ∷ [])
Marks-new marks waiting v e = record {
  same_length = length-set marks v true;
  kept = λ u m. Keeps-set marks v u within m;
  still = λ u w. Contains-append_left waiting (v ∷ []) u w;
  all = λ u c l. subst (IsMarked (set marks v true)) (in_one v u c) (set_same marks v within);
  only = λ u m. elim (cases_eq u v) [
    | inl same ↦ inr (subst (Contains (v ∷ [])) (sym same) (Contains-push [] v), subst (Contains (waiting ++ v ∷ [])) (sym same) (Contains-push waiting v))
    | inr other ↦ inl (sym (set_other marks v u other) ∙ m)
  ];
  marked = λ u c. elim (Contains-push_cases waiting v u c) [
    | inl w ↦ inl w
    | inr same ↦ inr (subst (IsMarked (set marks v true)) same (set_same marks v within))
  ];
  fewer = count (length (waiting ++ v ∷ [])) (length waiting) (count_by not (set marks v true)) (count_by not marks) (cond (not (get_or marks v false)) 1 0)
      (length-append waiting (v ∷ [])) (sum_by-set (λ b. cond (not b) 1 0) marks v true false within) (ap (λ b. cond (not b) 1 0) (get_or_from_slice_get marks v false false e));
}
  where
    within : v < length marks
    within = slice_get_within marks v false e

    count : (l k a b m : ℕ) → l ≡ k + 1 → a + m ≡ b + 0 → m ≡ 1 → l + a ≡ k + b
    count l k a b m p q r = omega (arith, p, q, r)

pub Marks-old : (marks : List Bool) (waiting : List ℕ) (v : ℕ) → (v < length marks → IsMarked marks v) → Marks (v ∷ []) marks marks waiting waiting
Marks-old marks waiting v is = record {
  same_length = refl;
  kept = λ u m. m;
  still = λ u w. w;
  all = λ u c l. let same = in_one v u c in subst (IsMarked marks) same (is (subst (λ x. x < length marks) (sym same) l));
  only = λ u m. inl m;
  marked = λ u w. inl w;
  fewer = refl;
}

-- no vertices, and some after others
pub Marks-none : (marks : List Bool) (waiting : List ℕ) → Marks [] marks marks waiting waiting
Marks-none marks waiting = record {
  same_length = refl;
  kept = λ u m. m;
  still = λ u w. w;
  all = λ u c l. absurd (in_none u c);
  only = λ u m. inl m;
  marked = λ u w. inl w;
  fewer = refl;
}

Marks-append : (xs ys : List ℕ) (l m n : List Bool) (u v w : List ℕ) → Marks xs l m u v → Marks ys m n v w → Marks (xs ++ ys) l n u w
Marks-append xs ys l m n u v w p q = record {
  same_length = q.same_length ∙ p.same_length;
  kept = λ x k. q.kept x (p.kept x k);
  still = λ x s. q.still x (p.still x s);
  all = λ x c less. elim (Contains-append_cases xs ys x c) [
    | inl a ↦ q.kept x (p.all x a (subst (λ k. x < k) q.same_length less))
    | inr b ↦ q.all x b less
  ];
  only = λ x k. elim (q.only x k) [
    | inl before ↦ elim (p.only x before) [
      | inl old ↦ inl old
      | inr new ↦ inr (Contains-append_left xs ys x new.0, q.still x new.1)
    ]
    | inr new ↦ inr (Contains-append_right xs ys x new.0, new.1)
  ];
  marked = λ x c. elim (q.marked x c) [
    | inl before ↦ elim (p.marked x before) [
      | inl old ↦ inl old
      | inr new ↦ inr (q.kept x new)
    ]
    | inr new ↦ inr new
  ];
  fewer = q.fewer ∙ p.fewer;
}

pub Marks-more : (vertices : List ℕ) (i x : ℕ) (l m n : List Bool) (u v w : List ℕ) → i < length vertices → get_or vertices i 0 ≡ x → Marks (take i vertices) l m u v → Marks (x ∷ []) m n v w → Marks (take (i + 1) vertices) l n u w
Marks-more vertices i x l m n u v w within is p q =
    subst (λ xs. Marks xs l n u w) (ap (λ y. take i vertices ++ y ∷ []) (sym is) ∙ sym (take_more vertices i 0 within)) (Marks-append (take i vertices) (x ∷ []) l m n u v w p q)

-- a vertex of a graph has a row
pub there : (graph : List (Vec ℕ Global)) (v : ℕ) → v < length graph → (row : Vec ℕ Global) × (slice_get graph v ≡ Some row)
there [] v l = absurd (omega (arith, l))
there (row ∷ graph) zero l = (row, refl)
there (row ∷ graph) (suc v) l = there graph v (omega (arith, l))

-- a list of no length
pub nothing : (xs : List ℕ) → length xs ≡ 0 → xs ≡ []
nothing [] e = refl
nothing (x ∷ xs) e = absurd (omega (arith, e))

-- a search from its first step to its end
module _ (graph : List (Vec ℕ Global)) (from : ℕ) where
  along : (v w : ℕ) (row : Vec ℕ Global) → slice_get graph v ≡ Some row → HasEdge graph v w → Contains row.items w
  along v w row there e = subst (λ (r : Vec ℕ Global). Contains r.items w) (same_Some e.0 row (sym e.1 ∙ there)) e.2

  pub IsSearch-begin : (row : Vec ℕ Global) (before marks : List Bool) (waiting : List ℕ) → slice_get graph from ≡ Some row → length before ≡ length graph → ((v : ℕ) → ¬ IsMarked before v)
      → Marks row.items before marks [] waiting → IsSearch graph from marks waiting
  IsSearch-begin row before marks waiting there long none m = record {
    same_length = m.same_length ∙ long;
    reached = λ v k. elim (m.only v k) [
      | inl old ↦ absurd (none v old)
      | inr new ↦ LeadsTo-one (HasEdge graph) from v (row, there, new.0)
    ];
    marked = λ v c. elim (m.marked v c) [ inl old ↦ absurd (in_none v old) | inr new ↦ new ];
    begun = λ w e l. m.all w (along from w row there e) l;
    done = λ v k. elim (m.only v k) [ inl old ↦ absurd (none v old) | inr new ↦ inl new.1 ];
  }

  pub IsSearch-next : (v : ℕ) (marks : List Bool) (waiting : List ℕ) → IsSearch graph from marks (waiting ++ v ∷ []) → (row : Vec ℕ Global) × (slice_get graph v ≡ Some row)
  IsSearch-next v marks waiting s = there graph v (subst (λ k. v < k) s.same_length (slice_get_within marks v true (s.marked v (Contains-push waiting v))))

  pub IsSearch-step : (v : ℕ) (row : Vec ℕ Global) (before after : List Bool) (waited waiting : List ℕ) → slice_get graph v ≡ Some row → IsSearch graph from before (waited ++ v ∷ [])
      → Marks row.items before after waited waiting → IsSearch graph from after waiting
  IsSearch-step v row before after waited waiting there s m = record {
    same_length = m.same_length ∙ s.same_length;
    reached = λ u k. elim (m.only u k) [
      | inl old ↦ s.reached u old
      | inr new ↦ LeadsTo-snoc (HasEdge graph) from v u (s.reached v (s.marked v (Contains-push waited v))) (row, there, new.0)
    ];
    marked = λ u c. elim (m.marked u c) [
      | inl old ↦ m.kept u (s.marked u (Contains-append_left waited (v ∷ []) u old))
      | inr new ↦ new
    ];
    begun = more from s.begun;
    done = λ u k. elim (m.only u k) [
      | inr new ↦ inl new.1
      | inl old ↦ elim (s.done u old) [
        | inr d ↦ inr (more u d)
        | inl c ↦ elim (Contains-push_cases waited v u c) [
          | inl w ↦ inl (m.still u w)
          | inr same ↦ inr (subst (IsDone graph after) same (λ w e l. m.all w (along v w row there e) l))
        ]
      ]
    ];
  }
    where
      more : (u : ℕ) → IsDone graph before u → IsDone graph after u
      more u d = λ w e l. m.kept w (d w e (subst (λ k. w < k) m.same_length l))

  module _ (marks : List Bool) (s : IsSearch graph from marks []) where
    settled : (v : ℕ) → IsMarked marks v → IsDone graph marks v
    settled v k = elim (s.done v k) [ inl c ↦ absurd (in_none v c) | inr d ↦ d ]

    finds : (n v : ℕ) → from < length marks → IsDone graph marks v → Walk (HasEdge graph) (suc n) v from → IsMarked marks from
    finds zero v l d w = subst (IsMarked marks) w.2 (d w.0 w.1 (subst (λ x. x < length marks) (sym w.2) l))
    finds (suc n) v l d w =
        let inside : w.0 < length marks = subst (λ k. w.0 < k) (sym s.same_length) (slice_get_within graph w.0 w.2.1.0 w.2.1.1) in
        finds n w.0 l (settled w.0 (d w.0 w.1 inside)) w.2

    pub IsSearch-finds : from < length marks → IsOnCycle graph from → IsMarked marks from
    IsSearch-finds l h = finds h.0 from l s.begun h.1

    pub IsSearch-tells : IsMarked marks from → IsOnCycle graph from
    IsSearch-tells k = s.reached from k

-- marks before a search
pub none_marked : (n v : ℕ) → IsMarked (replicate n false) v → ⊥
none_marked zero v m = none-some true m
none_marked (suc n) zero m = false≢true (same_Some false true m)
none_marked (suc n) (suc v) m = none_marked n v m

-- a mark that is read
pub read_mark : (marks : List Bool) (v : ℕ) (b : Bool) (P : Type 0) → v < length marks → b ≡ get_or marks v b → (IsMarked marks v ↔ P) → (IsTrue b ↔ P)
read_mark marks v b P within is h =
    let there : slice_get marks v ≡ Some b = slice_get-get_or marks v b within ∙ ap Some (sym is) in
    (λ t. h.0 (there ∙ ap Some t), λ p. same_Some b true (sym there ∙ h.1 p))
