-- The numbers of kinds in a set.
use Rattle.std.proofs.Common.{◌≡◌, inl, inr, ℕ, zero, suc, ◌+◌, ◌≤◌, Bool, true, false, cond, not, ◌&&◌, ◌||◌, eqb, List, [], ◌∷◌, ◌++◌, map, length, Some, Decides, slice_get, option_map, refl, sym, ap, subst, ◌∙◌, arith}
use Rattle.std.proofs.Math.Bool.{beq}
use Rattle.std.specs.Cmp.{booleans_Decides}
use Rattle.std.specs.List.{list_any, position_or_len}
use Rattle.std.proofs.lemmas.Bool.{false≢true, or_parts}
use Rattle.std.proofs.lemmas.Bool.Decides.{Decides-and, Decides-like, Decides-eqb}
use Rattle.std.proofs.lemmas.List.{length-map, length_push, map_push}
use Rattle.std.proofs.lemmas.Option.{none-some, same_Some, slice_get_within, slice_get-map}
use Rattle.std.specs.Bool.{OnTrue}
use Rattle.indexmap.specs.IndexSet.{insert_key}
use Rattle.fk_syntax.specs.declared.facts.Kind.{Kind}
use Rattle.fk_types_kinds.specs.declared.numbers.Row.{Row}
use Rattle.fk_types_kinds.specs.Rows.{kind_in, kinds_in}
use Rattle.fk_types_kinds.specs.Met.{IsNumbered}

-- ---- rows are equal where their kinds are

abbrev pub is_same : Row → Row → Bool
is_same a b = eqb a.words b.words && (beq a.unsigned b.unsigned && (beq a.array b.array && eqb a.step b.step))

abbrev AreSame : Row → Row → Type 0
AreSame a b = (a.words ≡ b.words) × ((a.unsigned ≡ b.unsigned) × ((a.array ≡ b.array) × (a.step ≡ b.step)))

same_kind : (a b : Row) → AreSame a b → kind_in a ≡ kind_in b
same_kind a b h = λ i. record { words = h.0 i; unsigned = h.1.0 i; array = h.1.1.0 i; step = h.1.1.1 i }

kind_same : (a b : Row) → kind_in a ≡ kind_in b → AreSame a b
kind_same a b e = (ap (λ (k : Kind). k.words) e, (ap (λ (k : Kind). k.unsigned) e, (ap (λ (k : Kind). k.array) e, ap (λ (k : Kind). k.step) e)))

pub is_same-Decides : (a b : Row) → Decides (is_same a b) (kind_in a ≡ kind_in b)
is_same-Decides a b = Decides-like (is_same a b) (same_kind a b) (kind_same a b)
    (Decides-and _ _ (Decides-eqb a.words b.words)
    (Decides-and _ _ (booleans_Decides a.unsigned b.unsigned) (Decides-and _ _ (booleans_Decides a.array b.array) (Decides-eqb a.step b.step))))

-- ---- where a key stands

module _ {X Y : Type 0} (f : X → Y) (eq : X → X → Bool) (same : (a b : X) → Decides (eq a b) (f a ≡ f b)) where
  found : (xs : List X) (k : X) → list_any (eq k) xs ≡ true → slice_get (map f xs) (position_or_len (eq k) xs) ≡ Some (f k)
  found [] k h = absurd (false≢true h)
  found (x ∷ xs) k h = by (eq k x) refl (found xs k)
    where
      by : (b : Bool) → eq k x ≡ b → (list_any (eq k) xs ≡ true → slice_get (map f xs) (position_or_len (eq k) xs) ≡ Some (f k))
          → slice_get (map f (x ∷ xs)) (position_or_len (eq k) (x ∷ xs)) ≡ Some (f k)
      by true e rest = rw e (ap Some (sym ((same k x).0 e)))
      by false e rest =
          let next : 1 + position_or_len (eq k) xs ≡ suc (position_or_len (eq k) xs) = omega arith in
          rw e (ap (slice_get (f x ∷ map f xs)) next ∙ rest (sym (ap (λ b. b || list_any (eq k) xs) e) ∙ h))

  past : (xs : List X) (k : X) → list_any (eq k) xs ≡ false → position_or_len (eq k) xs ≡ length xs
  past [] k h = refl
  past (x ∷ xs) k h =
      let parts = or_parts (eq k x) (list_any (eq k) xs) h in
      ap (λ b. cond (not b) (1 + position_or_len (eq k) xs) 0) parts.0 ∙ ap (λ n. 1 + n) (past xs k parts.1) ∙ omega arith

  nowhere : (xs : List X) (k : X) → list_any (eq k) xs ≡ false → (i : ℕ) → slice_get (map f xs) i ≡ Some (f k) → ⊥
  nowhere [] k h i e = none-some (f k) e
  nowhere (x ∷ xs) k h zero e = false≢true (sym (or_parts (eq k x) (list_any (eq k) xs) h).0 ∙ (same k x).1 (sym (same_Some (f x) (f k) e)))
  nowhere (x ∷ xs) k h (suc i) e = nowhere xs k (or_parts (eq k x) (list_any (eq k) xs) h).1 i e

inserted : (rows : List Row) (row : Row) → IsNumbered (kinds_in rows) (kind_in row) (kinds_in (insert_key is_same rows row)) (position_or_len (is_same row) rows)
inserted rows row = by (list_any (is_same row) rows) refl
  where
    by : (b : Bool) → list_any (is_same row) rows ≡ b → IsNumbered (kinds_in rows) (kind_in row) (kinds_in (insert_key is_same rows row)) (position_or_len (is_same row) rows)
    by true e = inl (ap (λ b. kinds_in (cond b rows (rows ++ row ∷ []))) e, found kind_in is_same is_same-Decides rows row e)
    by false e = inr (
      ap (λ b. kinds_in (cond b rows (rows ++ row ∷ []))) e ∙ map_push kind_in rows row,
      past kind_in is_same is_same-Decides rows row e ∙ sym (length-map rows kind_in),
      nowhere kind_in is_same is_same-Decides rows row e,
    )

-- what an insertion does to the kinds
pub IsNumbered-insert : (before after : List Row) (row : Row) (kind : Kind) (number : ℕ) → kind_in row ≡ kind → after ≡ insert_key is_same before row → number ≡ position_or_len (is_same row) before
    → IsNumbered (kinds_in before) kind (kinds_in after) number
IsNumbered-insert before after row kind number is keys index =
    subst (λ (k : Kind). IsNumbered (kinds_in before) k (kinds_in after) number) is
    (subst (λ rows. IsNumbered (kinds_in before) (kind_in row) (kinds_in rows) number) (sym keys)
    (subst (λ n. IsNumbered (kinds_in before) (kind_in row) (kinds_in (insert_key is_same before row)) n) (sym index) (inserted before row)))

-- the number is that of a row, or the next one
pub IsNumbered-last : (before : List Row) (after : List Kind) (kind : Kind) (number : ℕ) → IsNumbered (kinds_in before) kind after number → number ≤ length before
IsNumbered-last before after kind number (inl h) = omega (arith, slice_get_within (kinds_in before) number kind h.1, length-map before kind_in)
IsNumbered-last before after kind number (inr h) = omega (arith, h.1, length-map before kind_in)

-- there is at most one row more
pub IsNumbered-few : (before after : List Row) (kind : Kind) (number : ℕ) → IsNumbered (kinds_in before) kind (kinds_in after) number → length after ≤ length before + 1
IsNumbered-few before after kind number (inl h) = omega (arith, ap length h.0, length-map before kind_in, length-map after kind_in)
IsNumbered-few before after kind number (inr h) = omega (arith, ap length h.0, length_push (kinds_in before) kind, length-map before kind_in, length-map after kind_in)

-- the kind with a number is that of an equal row
pub has_number : (rows : List Row) (number : ℕ) (known row : Row) → Some known ≡ slice_get rows number → (b : Bool) → b ≡ is_same known row
    → OnTrue b (slice_get (kinds_in rows) number ≡ Some (kind_in row))
has_number rows number known row there true same = slice_get-map kind_in rows number ∙ ap (option_map kind_in) (sym there) ∙ ap Some ((is_same-Decides known row).0 (sym same))
has_number rows number known row there false same = tt
