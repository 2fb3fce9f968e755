-- What ends the test of a loop: a shrink if a group splits there, and else a branch.
use Rattle.std.proofs.Common.{◌≡◌, ℕ, Bool, true, false, true≢false, Option, Some, None, ◌∙◌, sym}
use Rattle.std.specs.Prelude.{if◌then◌else◌}
use Rattle.fk_syntax.specs.declared.place.Spot.{Spot}
use Rattle.fk_syntax.specs.Tree.{Tree}
use Rattle.fk_meaning_operation.specs.declared.operation.Operation.TheVariants as o
use Rattle.fk_meaning_forms.specs.Code.{done, choose, quit}
use Rattle.fk_meaning_forms.specs.Tables.{Tables, note}
use Rattle.fk_meaning_forms.specs.Expressions.{Coded, Signature, nowhere, agreed}
use Rattle.fk_meaning_forms.specs.Statements.{leaving, tested}
use Rattle.fk_meaning.specs.Shape.{of_test, ends_part, Shape}
use Rattle.fk_meaning.proofs.Spine.{untrue}
use Rattle.fk_lockstep.proofs.Kept as k
use Rattle.fk_lockstep.proofs.Kept.{all_agree, IsKept}
use Rattle.fk_lockstep_structure.specs.InPlace.{Splits, Calls, OptionInPlace}
use Rattle.fk_lockstep_structure.proofs.Behind.{either_no}
use Rattle.fk_compile.proofs.Wants.{no_end}

-- code that is a test ends by a shrink, or doesn't
abbrev pub EndsBy : (shrinking : Bool) → Coded → Type 0
EndsBy b code = (shrinking : Bool) → Shape false false (of_test shrinking) code → shrinking ≡ b

agreed_ends : (b sync : Bool) (rest : Coded) → EndsBy b rest → EndsBy b (agreed sync rest)
agreed_ends b true rest p = λ s shape. p s shape.2
agreed_ends b false rest p = p

leaves : (b splits sync : Bool) → splits ≡ b → EndsBy b (if splits then quit nowhere o.Shrink done else agreed sync (quit nowhere (o.Branch true) done))
leaves b true sync e = λ s shape. sym shape.4 ∙ e
leaves b false sync e = agreed_ends b sync (quit nowhere (o.Branch true) done) (λ s shape. sym shape.4 ∙ e)

module _ (tables : Tables) (functions : (binding : ℕ) → Signature) (may_call : (in_group : Bool) → (function : ℕ) → Bool) (in_group : Bool) where
  kept : IsKept tables functions Bool EndsBy (λ b. Splits tables may_call in_group) (λ b. Calls tables may_call in_group)
  kept = record {
    inner = λ b. b;
    told = λ b e h. h;
    performs = λ b t op rest e p. λ s shape. p s (either_no (ends_part op) _ _ shape.2 (no_end op e));
    allots = λ b name rest means a p. λ s shape. p s shape.2.2;
    ends = λ b. λ s shape. absurd (true≢false shape.2);
    part_ends = λ b. λ s shape. untrue shape.2.0;
    divides = λ b spot by x y rest e splits is p q r. λ s shape. r s shape.6.2;
    branches = λ b spot onward x y rest splits p q r. agreed_ends b (note tables spot.at).sync (choose nowhere (o.Branch onward) x y rest) (λ s shape. r s shape.6);
    shares = λ b name means. all_agree EndsBy b (λ rest p. λ s shape. p s shape.2) (functions (note tables name.at).binding).parameters;
    enters = λ b name rest means p. λ s shape. p s shape.3;
  }

  pub tests_end : (spot : Spot) (condition : Option Tree) → OptionInPlace tables may_call in_group condition → (b : Bool) → (note tables spot.at).splits ≡ b
      → EndsBy b (tested tables functions spot condition)
  tests_end spot None h b e = λ s shape. leaves b (note tables spot.at).splits (note tables spot.at).sync e s shape.2
  tests_end spot (Some condition) h b e =
      k.value_is_kept kept b condition h (leaving tables functions (note tables spot.at)) (leaves b (note tables spot.at).splits (note tables spot.at).sync e)
