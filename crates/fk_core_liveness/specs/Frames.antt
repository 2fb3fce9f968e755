-- The private words that frames keep, given by sets.
use Rattle.std.specs.Prelude.{ℕ, Bool, true, false, Option, Some, None}
use Rattle.fk_core_liveness.specs.declared.places.FunctionKind.{FunctionKind}
use Rattle.fk_core_liveness.specs.declared.places.FunctionKind.TheVariants.{Main, Called}
use Rattle.fk_core_liveness.specs.declared.set.Set.{Set}
use Rattle.fk_core_liveness.specs.Sets.{is_in}

abbrev pub is_main_place : FunctionKind → Bool
is_main_place Main = true
is_main_place (Called gives) = false

-- Whether a set, if there is one, has a word. After the end nothing is kept.
abbrev pub kept_in : Option Set → (word : ℕ) → Bool
kept_in None word = false
kept_in (Some set) word = is_in set.mask word
