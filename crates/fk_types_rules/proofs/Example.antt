-- The example is well formed, and its number has a type.
use Rattle.std.proofs.Common.{◌≢◌, ℕ, ◌<◌, [], ◌∷◌, AllPairs, refl, arith}
use Rattle.std.proofs.lemmas.List.Elements.{All-nil, All-cons}
use Rattle.std.proofs.lemmas.List.Kept.{AllPairs-cons}
use Rattle.fk_syntax.specs.declared.nodes.Index.{Index}
use Rattle.fk_syntax.specs.declared.nodes.Index.TheVariants.{Node}
use Rattle.fk_syntax.specs.WellFormed.{token, IsWellFormed}
use Rattle.fk_types_operators.specs.declared.values.ExpressionType.TheVariants.{Computed}
use Rattle.fk_types_operators.specs.declared.values.Value.TheVariants.{Int}
use Rattle.fk_types_judgments.specs.Names.{Env}
use Rattle.fk_types_rules.specs.Noted.{HasTypeAt}
use Rattle.fk_types_rules.specs.Example.{example}

abbrev Low : Index → Type 0
Low index = token index < 5

abbrev Differ : ℕ → ℕ → Type 0
Differ x y = x ≢ y

no_pairs : AllPairs Differ []
no_pairs = λ i j d less within. absurd (omega (arith, within))

pub example_sound : IsWellFormed example
example_sound = record {
  below = All-cons Low (Node 1) (Node 3 ∷ []) (omega arith) (All-cons Low (Node 3) [] (omega arith) (All-nil Low));
  distinct = AllPairs-cons Differ 1 (3 ∷ []) (All-cons (Differ 1) 3 [] (omega arith) (All-nil (Differ 1)))
      (AllPairs-cons Differ 3 [] (All-nil (Differ 3)) no_pairs);
}

pub number_typed : (env : Env) → HasTypeAt env example 3 (Computed Int)
number_typed env = (1, omega arith, refl)
