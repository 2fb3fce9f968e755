-- A type has one kind at most.
use Rattle.std.proofs.Common.{◌≡◌, inl, inr, ℕ, ◌*◌, true, false, List, Option, Some, None, sym, ap, ◌∙◌}
use Rattle.fk_syntax.specs.declared.facts.Kind.{Kind}
use Rattle.fk_types_structs.specs.declared.types.DataType.{DataType}
use Rattle.fk_types_structs.specs.Types.{StructTree, all_types}
use Rattle.fk_types_structs.specs.Words.{capped}
use Rattle.fk_types_structs.proofs.WordLemmas.{one-type}
use Rattle.fk_types_operators.specs.declared.values.Target.{Target}
use Rattle.fk_types_operators.specs.declared.values.Value.{Value}
use Rattle.fk_types_operators.specs.declared.values.Value.TheVariants.{Int, Unsigned, Pointer}
use Rattle.fk_types_operators.specs.declared.values.ExpressionType.{ExpressionType}
use Rattle.fk_types_operators.specs.declared.values.ExpressionType.TheVariants.{Stored, Computed, Nothing}
use Rattle.fk_types_operators.specs.Values.{target, value_under}
use Rattle.fk_types_rules.specs.Kinds.{IsWords, IsStep, IsValueKind, IsArrayKind, IsPlainKind, IsStoredKind, IsKind}

module _ (structs : List StructTree) where
  one_words : (type : DataType) (m n : ℕ) → IsWords structs type m → IsWords structs type n → m ≡ n
  one_words type m n (inl h) (inl k) = h.2 ∙ ap capped (one-type (all_types structs) type h.0 k.0 h.1 k.1) ∙ sym k.2
  one_words type m n (inl h) (inr k) = absurd (k.0 h.0 h.1)
  one_words type m n (inr h) (inl k) = absurd (h.0 k.0 k.1)
  one_words type m n (inr h) (inr k) = h.1 ∙ sym k.1

  one_step : (t : Target) (m n : ℕ) → IsStep structs t m → IsStep structs t n → m ≡ n
  one_step t m n h k = h.2 ∙ ap (λ w. 4 * w) (one_words (record { root = t.root; stars = t.stars; length = None }) h.0 k.0 h.1 k.1) ∙ sym k.2

  abbrev pointing : ℕ → Kind
  pointing step = record { words = 1; unsigned = true; array = false; step = step }

  abbrev array_of : ℕ → ℕ → Kind
  array_of words step = record { words = words; unsigned = false; array = true; step = step }

  abbrev plain_of : ℕ → Kind
  plain_of words = record { words = words; unsigned = false; array = false; step = 0 }

  one_value : (value : Value) (a b : Kind) → IsValueKind structs value a → IsValueKind structs value b → a ≡ b
  one_value Int a b h k = h ∙ sym k
  one_value Unsigned a b h k = h ∙ sym k
  one_value (Pointer t) a b h k = h.2 ∙ ap pointing (one_step t h.0 k.0 h.1 k.1) ∙ sym k.2

  one_array : (type : DataType) (a b : Kind) → IsArrayKind structs type a → IsArrayKind structs type b → a ≡ b
  one_array type a b h k =
      h.4
      ∙ ap (λ w. array_of w h.1) (one_words type h.0 k.0 h.2 k.2)
      ∙ ap (λ s. array_of k.0 s) (one_step (target type.root type.stars) h.1 k.1 h.3 k.3)
      ∙ sym k.4

  one_plain : (type : DataType) (o : Option Value) (a b : Kind) → IsPlainKind structs type o a → IsPlainKind structs type o b → a ≡ b
  one_plain type (Some value) a b h k = one_value value a b h k
  one_plain type None a b h k = h.2 ∙ ap plain_of (one_words type h.0 k.0 h.1 k.1) ∙ sym k.2

  one_stored : (type : DataType) (o : Option ℕ) (a b : Kind) → IsStoredKind structs type o a → IsStoredKind structs type o b → a ≡ b
  one_stored type (Some length) a b h k = one_array type a b h k
  one_stored type None a b h k = one_plain type (value_under type.root type.stars) a b h k

  pub one_kind : (type : ExpressionType) (a b : Kind) → IsKind structs type a → IsKind structs type b → a ≡ b
  one_kind (Stored type) a b h k = one_stored type type.length a b h k
  one_kind (Computed value) a b h k = one_value value a b h k
  one_kind Nothing a b h k = h ∙ sym k
