-- Calls that have too few arguments, and arguments or parameters that are none.
use Rattle.std.proofs.Common.{◌≡◌, ℕ, ◌<◌, List, [], ◌∷◌, map, length, refl, arith}
use Rattle.fk_syntax.specs.declared.expression.Expr.{Expr}
use Rattle.fk_syntax.specs.Tree.{Named, trees_of}
use Rattle.fk_syntax.specs.View.{tree_of}
use Rattle.fk_meaning_operation.specs.declared.operation.Multiprefix.{Multiprefix}
use Rattle.fk_meaning_forms.specs.Tables.{Tables}
use Rattle.fk_meaning_forms.specs.Code.{done}
use Rattle.fk_meaning_forms.specs.Expressions.{Coded, ResultLocation, Signature, Evaluation, all_evaluated, multiprefix, arguments}
use Rattle.fk_syntax.specs.Program.{DeclaredTree}

pub too_few : (tables : Tables) (functions : (binding : ℕ) → Signature) (name : Named) (by : Multiprefix) (xs : List Expr) (k : ResultLocation → Coded) → length xs < 2 → multiprefix tables functions name by (all_evaluated tables functions (trees_of (map tree_of xs))) k ≡ done
too_few tables functions name by [] k h = refl
too_few tables functions name by (x ∷ []) k h = refl
too_few tables functions name by (x ∷ y ∷ zs) k h = absurd (omega arith)

pub no_arguments : (tables : Tables) (functions : (binding : ℕ) → Signature) (xs : List DeclaredTree) (rest : Coded) → arguments tables functions xs [] rest ≡ rest
no_arguments tables functions [] rest = refl
no_arguments tables functions (x ∷ xs) rest = refl

pub no_parameters : (tables : Tables) (functions : (binding : ℕ) → Signature) (es : List Evaluation) (rest : Coded) → arguments tables functions [] es rest ≡ rest
no_parameters tables functions [] rest = refl
no_parameters tables functions (e ∷ es) rest = refl
