-- The first fault of all that several parts break.
use Rattle.std.proofs.Common.{◌≡◌, ℕ, ◌+◌, ◌<◌, ◌≤◌, inl, inr, List, Option, Some, None, slice_get, length, refl, sym, ap, subst, ◌∙◌, arith}
use Rattle.std.proofs.lemmas.Option.{same_Some, slice_get_within}
use Rattle.std.proofs.Math.Nat.{eq-or-lt_of_le}
use Rattle.fk_syntax.specs.declared.place.Place.{Place}
use Rattle.fk_check_rules.specs.declared.rule.Rule.{Rule}
use Rattle.fk_check_rules.specs.declared.fault.Fault.{Fault}
use Rattle.fk_check_rules.specs.Least.{IsNoLater, IsEarlier, Breaks, IsLeast, only, either, among_first, among}

pub IsNoLater-refl : (f : Fault) → IsNoLater f f
IsNoLater-refl f = inr (refl, inr (refl, omega arith))

pub IsNoLater-trans : (f g h : Fault) → IsNoLater f g → IsNoLater g h → IsNoLater f h
IsNoLater-trans f g h p q = grind arith

-- what breaks the same has the same first fault
pub IsLeast-same : (P Q : Breaks) → ((place : Place) (rule : Rule) → P place rule → Q place rule) → ((place : Place) (rule : Rule) → Q place rule → P place rule) → (r : Option Fault) → IsLeast P r → IsLeast Q r
IsLeast-same P Q to from None l = λ place rule q. l place rule (from place rule q)
IsLeast-same P Q to from (Some f) l = (to f.place f.rule l.0, λ g q. l.1 g (from g.place g.rule q))

-- the first fault of two sets of faults is the earlier of the first ones of each
module _ (P Q : Breaks) where
  least-left : (f : Fault) → IsLeast P (Some f) → IsLeast Q None → IsLeast (either P Q) (Some f)
  least-left f l none = (inl l.0, λ g b. elim b [ inl p ↦ l.1 g p | inr q ↦ absurd (none g.place g.rule q) ])

  least-right : (f : Fault) → IsLeast P None → IsLeast Q (Some f) → IsLeast (either P Q) (Some f)
  least-right f none l = (inr l.0, λ g b. elim b [ inl p ↦ absurd (none g.place g.rule p) | inr q ↦ l.1 g q ])

  pub IsLeast-either : (a b r : Option Fault) → IsLeast P a → IsLeast Q b → IsEarlier a b r → IsLeast (either P Q) r
  IsLeast-either None None r l m e = subst (IsLeast (either P Q)) (sym e) (λ place rule h. elim h [ inl p ↦ l place rule p | inr q ↦ m place rule q ])
  IsLeast-either None (Some g) r l m e = subst (IsLeast (either P Q)) (sym e) (least-right g l m)
  IsLeast-either (Some f) None r l m e = subst (IsLeast (either P Q)) (sym e) (least-left f l m)
  IsLeast-either (Some f) (Some g) r l m (inl e) = subst (IsLeast (either P Q)) (sym e.0)
      (inl l.0, λ h b. elim b [ inl p ↦ l.1 h p | inr q ↦ IsNoLater-trans f g h e.1 (m.1 h q) ])
  IsLeast-either (Some f) (Some g) r l m (inr e) = subst (IsLeast (either P Q)) (sym e.0)
      (inr m.0, λ h b. elim b [ inl p ↦ IsNoLater-trans g f h e.1 (l.1 h p) | inr q ↦ m.1 h q ])

-- one rule that is broken at one place alone, or not at all
pub IsLeast-at : (rule : Rule) (place : Place) (P : Place → Type 0) → P place → ((other : Place) → P other → other ≡ place) → IsLeast (only rule P) (Some (record { place = place; rule = rule }))
IsLeast-at rule place P holds one = (
  (refl, holds),
  λ g b. subst (λ at. IsNoLater (record { place = place; rule = rule }) (record { place = at; rule = g.rule })) (sym (one g.place b.1))
      (subst (λ n. IsNoLater (record { place = place; rule = rule }) (record { place = place; rule = n })) (sym b.0) (IsNoLater-refl (record { place = place; rule = rule }))),
)

pub IsLeast-nowhere : (rule : Rule) (P : Place → Type 0) → ((place : Place) → ¬ P place) → IsLeast (only rule P) None
IsLeast-nowhere rule P never place broken h = never place h.1

-- a list, from the front
module _ {X : Type 0} (P : ℕ → X → Breaks) (xs : List X) where
  pub IsLeast-none_first : IsLeast (among_first 0 P xs) None
  IsLeast-none_first place rule h = absurd (omega (arith, h.2))

  pub IsLeast-one_more : (n : ℕ) (x : X) → slice_get xs n ≡ Some x → (a b r : Option Fault) → IsLeast (among_first n P xs) a → IsLeast (P n x) b → IsEarlier a b r → IsLeast (among_first (n + 1) P xs) r
  IsLeast-one_more n x there a b r l m e = IsLeast-same (either (among_first n P xs) (P n x)) (among_first (n + 1) P xs) to from r (IsLeast-either (among_first n P xs) (P n x) a b r l m e)
    where
      to : (place : Place) (rule : Rule) → either (among_first n P xs) (P n x) place rule → among_first (n + 1) P xs place rule
      to place rule (inl h) = (h.0, h.1, omega (arith, h.2), h.3, h.4)
      to place rule (inr h) = (n, x, omega arith, there, h)

      from : (place : Place) (rule : Rule) → among_first (n + 1) P xs place rule → either (among_first n P xs) (P n x) place rule
      from place rule h = elim (eq-or-lt_of_le (le_of_lt_add_one h.2)) [
        | inl same ↦ inr (at same (same_Some h.1 x (sym h.3 ∙ ap (slice_get xs) same ∙ there)) h.4)
        | inr less ↦ inl (h.0, h.1, less, h.3, h.4)
      ]
        where
          le_of_lt_add_one : h.0 < n + 1 → h.0 ≤ n
          le_of_lt_add_one k = omega (arith, k)

          at : h.0 ≡ n → h.1 ≡ x → P h.0 h.1 place rule → P n x place rule
          at i y b = subst (λ v. P n v place rule) y (subst (λ k. P k h.1 place rule) i b)

  pub IsLeast-whole : (n : ℕ) → length xs ≤ n → (r : Option Fault) → IsLeast (among_first n P xs) r → IsLeast (among P xs) r
  IsLeast-whole n all r l = IsLeast-same (among_first n P xs) (among P xs) (λ place rule h. (h.0, h.1, h.3, h.4))
      (λ place rule h. let within : h.0 < length xs = slice_get_within xs h.0 h.1 h.2 in (h.0, h.1, omega (arith, within, all), h.2, h.3)) r l
