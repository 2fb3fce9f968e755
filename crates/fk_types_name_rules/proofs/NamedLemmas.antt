-- The first declaration of a name in a scope is the innermost one that is visible.
use Rattle.std.proofs.Common.{◌≡◌, ◌↔◌, ◌⊎◌, inl, inr, ℕ, ◌<◌, ◌≤◌, List, Bool, true, false, not, IsTrue, Some, refl, sym, ap, ◌∙◌, arith}
use Rattle.std.specs.Prelude.{slice_get}
use Rattle.std.proofs.lemmas.Bool.{false≢true, false_from_ne_true}
use Rattle.fk_types_names.specs.Outline.{MarkTree, DeclarationTree, name_of}
use Rattle.fk_types_names.specs.Visible.{depth, IsHidden, IsVisible, IsInnermost}
use Rattle.fk_types_names.proofs.ReadingLemmas.{visible_depth}
use Rattle.fk_types_name_rules.specs.Named.{IsBefore, IsFirstBefore, are_headers, IsAgain}

module _ (marks : List MarkTree) (bytes : List ℕ) (at : ℕ) where
  before_visible : (k : ℕ) → IsBefore marks k at → IsVisible marks k at
  before_visible k b = record { before = λ above. b.before; within = b.within }

  -- where the innermost one is of the scope and stands before, it is the first one there
  pub first_before : (o : ℕ) → IsInnermost marks bytes at o → o < at → depth marks o ≡ depth marks at → IsFirstBefore marks bytes at o
  first_before o i less level = record {
    declares = i.declares;
    before = record { before = less; level = level; within = i.visible.within };
    first = λ k d b. elim (i.innermost k d (before_visible k b)) [
      | inl deeper ↦ absurd (let l = b.level in omega (arith, deeper, l, level))
      | inr same ↦ same.1
    ];
  }

  -- and where there is a first one, it is the innermost
  pub first_innermost : (o f : ℕ) → IsInnermost marks bytes at o → IsFirstBefore marks bytes at f → (o < at) × (depth marks o ≡ depth marks at) × (f ≡ o)
  first_innermost o f i first =
      let upper = visible_depth marks at o i.visible in
      let level = first.before.level in
      let low = first.before.before in
      by (i.innermost f first.declares (before_visible f first.before)) upper level low
    where
      by : (depth marks f < depth marks o) ⊎ ((depth marks f ≡ depth marks o) × (o ≤ f)) → depth marks o ≤ depth marks at → depth marks f ≡ depth marks at → f < at → (o < at) × (depth marks o ≡ depth marks at) × (f ≡ o)
      by (inl deeper) upper level low = absurd (omega arith)
      by (inr same) upper level low =
          let less : o < at = (let s = same.1 in omega (arith, s, low)) in
          let here : depth marks o ≡ depth marks at = sym same.0 ∙ level in
          let other = first.first o i.declares (record { before = less; level = here; within = i.visible.within }) in
          (less, here, (let s = same.1 in omega (arith, s, other)))

-- ---- a name that is declared again

same_mark : (m n : MarkTree) → Some m ≡ Some n → m ≡ n
same_mark m n e = cc

not_true : (b : Bool) → IsTrue (not b) → b ≡ false
not_true true e = absurd (false≢true e)
not_true false e = refl

pub not_iff : {A : Type 0} (b : Bool) → IsTrue b ↔ A → IsTrue (not b) ↔ ¬ A
not_iff b d = (λ e k. false≢true (sym (not_true b e) ∙ d.1 k), λ n. ap not (false_from_ne_true b (λ t. n (d.0 t))))

pub again_hidden : (marks : List MarkTree) (at : ℕ) (d : DeclarationTree) → IsHidden marks (name_of d).bytes at → ¬ IsAgain marks at d
again_hidden marks at d hidden h = hidden h.0 h.2.declares (before_visible marks (name_of d).bytes at h.0 h.2.before)

module _ (marks : List MarkTree) (at : ℕ) (d : DeclarationTree) (o : ℕ) (i : IsInnermost marks (name_of d).bytes at o) where
  pub again_here : (mark : MarkTree) (b : Bool) → o < at → depth marks o ≡ depth marks at → slice_get marks o ≡ Some mark → b ≡ are_headers mark d → IsTrue (not b) ↔ IsAgain marks at d
  again_here mark b less level there is = (
    λ e. (o, mark, first_before marks (name_of d).bytes at o i less level, there, sym is ∙ not_true b e),
    λ h.
        let f = first_innermost marks (name_of d).bytes at o h.0 i h.2 in
        let same = same_mark h.1 mark (sym h.3 ∙ (ap (slice_get marks) f.2 ∙ there)) in
        ap not (is ∙ (ap (λ m. are_headers m d) (sym same) ∙ h.4)),
  )

  pub again_not : ¬ ((o < at) × (depth marks o ≡ depth marks at)) → ¬ IsAgain marks at d
  again_not never h = let f = first_innermost marks (name_of d).bytes at o h.0 i h.2 in never (f.0, f.1)
