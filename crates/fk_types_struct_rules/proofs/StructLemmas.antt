-- What structs and members break, one after the other.
use Rattle.std.proofs.Common.{◌≡◌, ℕ, ◌+◌, ◌<◌, ◌≤◌, inl, inr, List, Option, Some, None, map, length, slice_get, get_or, refl, sym, ap, subst, ◌∙◌, arith}
use Rattle.std.specs.Option.{option_map}
use Rattle.std.proofs.lemmas.List.{length-map}
use Rattle.std.proofs.lemmas.Option.{same_Some, none-some, slice_get-map, slice_get_read}
use Rattle.std.proofs.Math.Nat.{eq-or-lt_of_le}
use Rattle.fk_syntax.specs.declared.place.Place.{Place}
use Rattle.fk_check_rules.specs.declared.rule.Rule.{Rule}
use Rattle.fk_check_rules.specs.declared.fault.Fault.{Fault}
use Rattle.fk_check_rules.specs.Least.{IsNoLater, IsEarlier, Breaks, IsLeast, only, either, among_first, among}
use Rattle.fk_check_rules.proofs.LeastLemmas.{IsNoLater-refl, IsNoLater-trans, IsLeast-same, IsLeast-either, IsLeast-one_more, IsLeast-whole}
use Rattle.fk_types_struct_rules.specs.Declarations.{At}
use Rattle.fk_types_struct_rules.specs.Holding.{told}
use Rattle.fk_types_struct_rules.proofs.DeclarationLemmas.{At-so}

-- a list of the code is seen as one of the definitions
module _ {X Y : Type 0} (view : X → Y) (P : ℕ → Y → Breaks) (xs : List X) where
  pub IsLeast-next : (n : ℕ) (x : X) → n < length xs → x ≡ get_or xs n x → (a b r : Option Fault) → IsLeast (among_first n P (map view xs)) a → IsLeast (P n (view x)) b → IsEarlier a b r → IsLeast (among_first (n + 1) P (map view xs)) r
  IsLeast-next n x within is a b r l m e = IsLeast-one_more P (map view xs) n (view x) (slice_get-map view xs n ∙ ap (option_map view) (slice_get_read xs (length xs) n x refl within is)) a b r l m e

  pub IsLeast-all : (n : ℕ) → length xs ≤ n → (r : Option Fault) → IsLeast (among_first n P (map view xs)) r → IsLeast (among P (map view xs)) r
  IsLeast-all n whole r l = let all : length (map view xs) ≤ n = omega (arith, whole, length-map xs view) in IsLeast-whole P (map view xs) n all r l

-- and so are its elements and its length
module _ {X Y : Type 0} (view : X → Y) (xs : List X) (ys : List Y) (seen : map view xs ≡ ys) where
  pub mapped-at : (n : ℕ) (x : X) → n < length xs → x ≡ get_or xs n x → slice_get ys n ≡ Some (view x)
  mapped-at n x within is = ap (λ zs. slice_get zs n) (sym seen) ∙ slice_get-map view xs n ∙ ap (option_map view) (slice_get_read xs (length xs) n x refl within is)

  pub mapped-length : length ys ≡ length xs
  mapped-length = ap length (sym seen) ∙ length-map xs view

-- a fault, if there is one, is the first of itself
pub told-least : (fault : Option Fault) → IsLeast (told fault) fault
told-least None = λ place rule e. none-some (record { place = place; rule = rule }) e
told-least (Some f) = (refl, λ g e. subst (IsNoLater f) (same_Some f g e) (IsNoLater-refl f))

-- what breaks first with a fault that stands for what was broken so far breaks first with all of that
module _ (P Q : Breaks) where
  pub IsLeast-told : (before r : Option Fault) → IsLeast P before → IsLeast (either (told before) Q) r → IsLeast (either P Q) r
  IsLeast-told None None l m = λ place rule h. elim h [ inl p ↦ l place rule p | inr q ↦ m place rule (inr q) ]
  IsLeast-told None (Some f) l m = (
    elim m.0 [ inl e ↦ absurd (none-some f e) | inr q ↦ inr q ],
    λ g h. elim h [ inl p ↦ absurd (l g.place g.rule p) | inr q ↦ m.1 g (inr q) ],
  )
  IsLeast-told (Some f) None l m = absurd (m f.place f.rule (inl refl))
  IsLeast-told (Some f) (Some g) l m = (
    elim m.0 [
      | inl e ↦ inl (subst (λ (x : Fault). P x.place x.rule) (same_Some f g e) l.0)
      | inr q ↦ inr q
    ],
    λ h b. elim b [
      | inl p ↦ IsNoLater-trans g f h (m.1 f (inl refl)) (l.1 h p)
      | inr q ↦ m.1 h (inr q)
    ],
  )

-- one element more, where the first fault with it is known
module _ {X : Type 0} (P : ℕ → X → Breaks) (xs : List X) (n : ℕ) (x : X) (there : slice_get xs n ≡ Some x) where
  pub IsLeast-joined : (r : Option Fault) → IsLeast (either (among_first n P xs) (P n x)) r → IsLeast (among_first (n + 1) P xs) r
  IsLeast-joined r l = IsLeast-same (either (among_first n P xs) (P n x)) (among_first (n + 1) P xs) to from r l
    where
      to : (place : Place) (rule : Rule) → either (among_first n P xs) (P n x) place rule → among_first (n + 1) P xs place rule
      to place rule (inl h) = (h.0, h.1, omega (arith, h.2), h.3, h.4)
      to place rule (inr h) = (n, x, omega arith, there, h)

      from : (place : Place) (rule : Rule) → among_first (n + 1) P xs place rule → either (among_first n P xs) (P n x) place rule
      from place rule h = elim (eq-or-lt_of_le (le_of_lt_add_one h.2)) [
        | inl same ↦ inr (at same (same_Some h.1 x (sym h.3 ∙ ap (slice_get xs) same ∙ there)) h.4)
        | inr less ↦ inl (h.0, h.1, less, h.3, h.4)
      ]
        where
          le_of_lt_add_one : h.0 < n + 1 → h.0 ≤ n
          le_of_lt_add_one k = omega (arith, k)

          at : h.0 ≡ n → h.1 ≡ x → P h.0 h.1 place rule → P n x place rule
          at i y b = subst (λ v. P n v place rule) y (subst (λ k. P k h.1 place rule) i b)

-- the first of a fault and of what is broken at a place
pub At-found : (rule : Rule) (here : Place) (C : Type 0) (fault first : Option Fault) → IsEarlier fault (Some (record { place = here; rule = rule })) first → C → IsLeast (either (told fault) (only rule (At here C))) first
At-found rule here C fault first e so = IsLeast-either (told fault) (only rule (At here C)) fault (Some (record { place = here; rule = rule })) first (told-least fault) (At-so rule here C so) e
