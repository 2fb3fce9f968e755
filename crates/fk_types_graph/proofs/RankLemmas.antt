-- A walk that comes back to its beginning rises past the rank of each of its vertices, or keeps it.
use Rattle.std.proofs.Common.{◌≡◌, ℕ, zero, suc, ◌+◌, ◌<◌, ◌≤◌, ◌⊎◌, inl, inr, Bool, true, [], ◌∷◌, ◌++◌, take, get_or, Some, unwrap_or, List, Vec, Global, Contains, map, length, slice_index, slice_get, sym, ap, subst, ◌∙◌, arith}
use Rattle.std.specs.Option.{option_map}
use Rattle.std.proofs.Math.Nat.{eq-or-lt_of_le}
use Rattle.std.proofs.lemmas.Option.{same_Some, slice_get_within, slice_get-map, slice_get-get_or, slice_get_past}
use Rattle.std.proofs.lemmas.Bool.{cases_lt}
use Rattle.std.proofs.lemmas.List.{map_more, take_more}
use Rattle.std.proofs.lemmas.List.Elements.{Contains-push_cases}
use Rattle.fk_types_graph.specs.Graph.{HasEdge, Walk, IsOnCycle}
use Rattle.fk_types_graph.specs.Marks.{IsMarked}
use Rattle.fk_types_graph.specs.Ranks.{Covers, Keeps, CoversAll, CoversFirst}

module _ (graph : List (Vec ℕ Global)) (ranks : List ℕ) (marks : List Bool) (same_length : length ranks ≡ length graph) (covers : CoversFirst marks ranks graph (length graph)) where
  begins : (v w : ℕ) → HasEdge graph v w → v < length graph
  begins v w e = slice_get_within graph v e.0 e.1

  inside : (n v to : ℕ) → to < length graph → Walk (HasEdge graph) n v to → v < length ranks
  inside zero v to l w = subst (λ k. v < k) (sym same_length) (subst (λ x. x < length graph) (sym w) l)
  inside (suc n) v to l w = subst (λ k. v < k) (sym same_length) (begins v w.0 w.1)

  le_of_lt : (a b : ℕ) → a < b → a ≤ b
  le_of_lt a b l = omega (arith, l)

  climbs : (n x v : ℕ) → v < length graph → Walk (HasEdge graph) n x v → slice_index ranks x < slice_index ranks v → slice_index ranks v < length marks → IsMarked marks (slice_index ranks v)
  climbs zero x v l w less within = absurd (never (slice_index ranks x) (slice_index ranks v) (ap (slice_index ranks) w) less)
    where
      never : (a b : ℕ) → a ≡ b → a < b → ⊥
      never a b e less = omega (arith, e, less)
  climbs (suc n) x v l w less within = elim (cases_lt (slice_index ranks w.0) (slice_index ranks v)) [
    | inl lower ↦ climbs n w.0 v l w.2 lower within
    | inr high ↦ covers x w.0 (begins x w.0 w.1) w.1 (inside n w.0 v l w.2) (slice_index ranks v) (le_of_lt (slice_index ranks x) (slice_index ranks v) less) high within
  ]

  le_refl : (a : ℕ) → a ≤ a
  le_refl a = omega arith

  pub IsOnCycle-covered : (v : ℕ) → IsOnCycle graph v → slice_index ranks v < length marks → IsMarked marks (slice_index ranks v)
  IsOnCycle-covered v h within =
      let l = begins v h.1.0 h.1.1 in
      elim (cases_lt (slice_index ranks h.1.0) (slice_index ranks v)) [
        | inl lower ↦ climbs h.0 h.1.0 v l h.1.2 lower within
        | inr high ↦ covers v h.1.0 l h.1.1 (inside h.0 h.1.0 v l h.1.2) (slice_index ranks v) (le_refl (slice_index ranks v)) high within
      ]

  -- so the covered ranks tell every vertex of a cycle
  pub IsOnCycle-told : (suspects : List Bool) → suspects ≡ map (λ rank. unwrap_or (slice_get marks rank) true) ranks → (v : ℕ) → IsOnCycle graph v → IsMarked suspects v
  IsOnCycle-told suspects is v h =
      ap (λ xs. slice_get xs v) is ∙ slice_get-map (λ rank. unwrap_or (slice_get marks rank) true) ranks v
      ∙ ap (option_map (λ rank. unwrap_or (slice_get marks rank) true)) (slice_get-get_or ranks v 0 (subst (λ k. v < k) (sym same_length) (begins v h.1.0 h.1.1)))
      ∙ ap Some (by (cases_lt (slice_index ranks v) (length marks)))
    where
      by : (slice_index ranks v < length marks) ⊎ (length marks ≤ slice_index ranks v) → unwrap_or (slice_get marks (slice_index ranks v)) true ≡ true
      by (inl within) = ap (λ o. unwrap_or o true) (IsOnCycle-covered v h within)
      by (inr past) = ap (λ o. unwrap_or o true) (slice_get_past marks (slice_index ranks v) past)

-- one vertex more
pub CoversFirst-more : (marks before : List Bool) (ranks : List ℕ) (graph : List (Vec ℕ Global)) (n : ℕ) (row : Vec ℕ Global) → slice_get graph n ≡ Some row → Keeps before marks → CoversFirst before ranks graph n
    → CoversAll marks ranks (slice_index ranks n) row.items → CoversFirst marks ranks graph (n + 1)
CoversFirst-more marks before ranks graph n row there keeps all one from to l e inside = elim (eq-or-lt_of_le (le_of_lt_add_one from n l)) [
  | inl same ↦ subst (λ k. Covers marks (slice_index ranks k) (slice_index ranks to)) (sym same)
      (one to (subst (λ (r : Vec ℕ Global). Contains r.items to) (same_Some e.0 row (sym e.1 ∙ ap (slice_get graph) same ∙ there)) e.2) inside)
  | inr less ↦ λ rank low high within. keeps.kept rank (all from to less e inside rank low high (subst (λ k. rank < k) keeps.same_length within))
]
  where
    le_of_lt_add_one : (i k : ℕ) → i < k + 1 → i ≤ k
    le_of_lt_add_one i k less = omega (arith, less)

-- one vertex more of a row
pub CoversAll-more : (first before marks : List Bool) (ranks vertices : List ℕ) (low i : ℕ) → i < length vertices → Keeps first before → CoversAll before ranks low (take i vertices)
    → Keeps before marks → (get_or vertices i 0 < length ranks → Covers marks low (slice_index ranks (get_or vertices i 0)))
    → Keeps first marks × CoversAll marks ranks low (take (i + 1) vertices)
CoversAll-more first before marks ranks vertices low i within kept all keeps one = (
  record { same_length = keeps.same_length ∙ kept.same_length; kept = λ v m. keeps.kept v (kept.kept v m) },
  λ to has inside rank above below less. elim (Contains-push_cases (take i vertices) (get_or vertices i 0) to (subst (λ xs. Contains xs to) (take_more vertices i 0 within) has)) [
    | inl old ↦ keeps.kept rank (all to old inside rank above below (subst (λ k. rank < k) keeps.same_length less))
    | inr same ↦ subst (λ v. v < length ranks → Covers marks low (slice_index ranks v)) same one inside rank above below less
  ],
)

-- one rank more is told
pub told-more : (f : ℕ → Bool) (ranks : List ℕ) (n : ℕ) (before after : List Bool) (b : Bool) → n < length ranks → before ≡ map f (take n ranks) → after ≡ before ++ b ∷ [] → b ≡ f (get_or ranks n 0) → after ≡ map f (take (n + 1) ranks)
told-more f ranks n before after b within is pushed one = pushed ∙ ap (λ xs. xs ++ b ∷ []) is ∙ ap (λ x. map f (take n ranks) ++ x ∷ []) one ∙ sym (map_more f ranks n 0 within)
