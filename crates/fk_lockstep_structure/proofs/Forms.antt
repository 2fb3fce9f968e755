-- The code of every form that is in place keeps where the steps of the tree may stand: first expressions.
use Rattle.std.proofs.Common.{◌≡◌, ℕ, suc, Bool, true, false, List, [], ◌∷◌, Option, Some, None, sym, refl, subst}
use Rattle.std.specs.Prelude.{if◌then◌else◌}
use Rattle.fk_syntax.specs.declared.place.Place.{Place}
use Rattle.fk_syntax.specs.declared.place.Spot.{Spot}
use Rattle.fk_syntax.specs.Tree.{Named, Tree}
use Rattle.fk_syntax.specs.Program.{DeclaredTree}
use Rattle.fk_meaning_operation.specs.declared.operation.Operation.{Operation}
use Rattle.fk_meaning_operation.specs.declared.operation.Operation.TheVariants as o
use Rattle.fk_meaning_operation.specs.declared.operation.Variable.TheVariants as v
use Rattle.fk_meaning_operation.specs.declared.operation.OwnValue.TheVariants as n
use Rattle.fk_meaning_operation.specs.declared.operation.SplitKind.{SplitKind}
use Rattle.fk_meaning_operation.specs.declared.operation.SplitKind.TheVariants.{IfAlone, IfElse, AndThen, OrElse, Loop, Fork}
use Rattle.fk_meaning_forms.specs.declared.tables.Region.{Region}
use Rattle.fk_meaning_forms.specs.Code.{perform, choose}
use Rattle.fk_meaning_forms.specs.Tables.{Tables, note, slot, frame_at}
use Rattle.fk_meaning_forms.specs.Expressions.{Coded, nowhere, plain, ResultLocation, Signature, agreed, addressed, assigned, dropped, variable, framed, parameters, value}
use Rattle.fk_meaning.proofs.Spine.{untrue}
use Rattle.fk_meaning.proofs.Kept.{entered}
use Rattle.fk_lockstep.proofs.Kept as k
use Rattle.fk_lockstep.proofs.Kept.{is_quiet, is_of_value, IsKept}
use Rattle.fk_lockstep_structure.specs.Placed.{Who, OfGroup, OfBody, OfMain, is_group, inner, callee_of, Placed}
use Rattle.fk_lockstep_structure.specs.InPlace.{Splits, Calls, InPlace}

pub inner_group : (who : Who) → is_group (inner who) ≡ is_group who
inner_group OfGroup = refl
inner_group OfBody = refl
inner_group (OfMain b) = refl

module _ (tables : Tables) (functions : (binding : ℕ) → Signature) (may_call : (in_group : Bool) → (function : ℕ) → Bool) where
  abbrev pub Ok : Who → Coded → Type 0
  Ok who code = Placed may_call who false code

  pub either : (who : Who) → (b : Bool) (x y : Coded) → Ok who x → Ok who y → Ok who (if b then x else y)
  either who true x y p q = p
  either who false x y p q = q

  pub splits_to : (b : Bool) (who : Who) (x y : Coded) → (b ≡ true → Ok who x) → Ok who y → Ok who (if b then x else y)
  splits_to true who x y p q = p refl
  splits_to false who x y p q = q

  pub agrees_or : (who : Who) → (sync : Bool) (rest : Coded) → Ok who rest → Ok who (agreed sync rest)
  agrees_or who true rest p = (refl, p)
  agrees_or who false rest p = p

  pub frames : (who : Who) → (r : Option Region) (place : Place) (rest : Coded) → Ok who rest → Ok who (framed tables functions r place rest)
  frames who None place rest p = p
  frames who (Some r) place rest p = (refl, p)

  puts_in : (who : Who) → (i : ℕ) (xs : List DeclaredTree) → Ok who (parameters tables functions i xs)
  puts_in who i [] = refl
  puts_in who i (x ∷ xs) =
      let others = parameters tables functions (suc i) xs in
      let shared = plain (o.Get (n.FrameAddress 0 (slot tables (note tables x.name.at).binding).index)) (plain (o.Get (n.Value (v.Private i))) (plain o.Write (plain o.DropLast others))) in
      either who x.shared shared others (refl, (refl, (refl, (refl, puts_in who (suc i) xs)))) (puts_in who (suc i) xs)

  enters : (who : Who) (name : Named) (rest : Coded) → Calls tables may_call (is_group who) name → Ok who rest → Ok who (entered tables functions name rest)
  enters who name rest means p =
      let function = functions (note tables name.at).binding in
      let opening = parameters tables functions 0 function.parameters in
      (refl, refl, means.0, frames (callee_of who) (frame_at tables function.at 0) name.place opening (puts_in (callee_of who) 0 function.parameters), p)

  performs : (who : Who) (t : Place) (op : Operation) (rest : Coded) → is_quiet op ≡ true → Ok who rest → Ok who (perform t op rest)
  performs who t o.Resume rest e p = untrue e
  performs who t o.Halt rest e p = untrue e
  performs who t op rest e p = (refl, p)

  divides : (who : Who) (spot : Spot) (by : SplitKind) (a b rest : Coded) → is_of_value by ≡ true → Splits tables may_call (is_group who) spot.at → (note tables spot.at).splits ≡ true
      → Ok (inner who) a → Ok (inner who) b → Ok who rest → Ok who (choose spot.place (o.Split by) a b (plain o.Resume rest))
  divides who spot IfElse a b rest e splits is p q r = (refl, splits.0 is, p, q, (λ f. untrue f), (refl, r))
  divides who spot AndThen a b rest e splits is p q r = (refl, splits.0 is, p, q, (λ f. untrue f), (refl, r))
  divides who spot OrElse a b rest e splits is p q r = (refl, splits.0 is, p, q, (λ f. untrue f), (refl, r))
  divides who spot IfAlone a b rest e splits is p q r = untrue e
  divides who spot Loop a b rest e splits is p q r = untrue e
  divides who spot Fork a b rest e splits is p q r = untrue e

  pub kept : IsKept tables functions Who Ok (λ who. Splits tables may_call (is_group who)) (λ who. Calls tables may_call (is_group who))
  kept = record {
    inner = inner;
    told = λ who e h. subst (λ b. InPlace tables may_call b e) (sym (inner_group who)) h;
    performs = performs;
    allots = λ who name rest means a p. (refl, (refl, p));
    ends = λ who. refl;
    part_ends = λ who. (refl, refl);
    divides = divides;
    branches = λ who spot onward a b rest splits p q r. agrees_or who (note tables spot.at).sync (choose nowhere (o.Branch onward) a b rest) (refl, refl, p, q, (λ f. untrue f), r);
    shares = λ who name means. k.all_agree Ok who (λ rest p. (refl, p)) (functions (note tables name.at).binding).parameters;
    enters = enters;
  }

  pub addresses : (who : Who) → (s : ResultLocation) (rest : Coded) → Ok who rest → Ok who (addressed tables functions s rest)
  addresses who s rest p = k.addresses kept who s rest p

  pub assigns : (who : Who) → (s : ResultLocation) (rest : Coded) → Ok who rest → Ok who (assigned tables functions s rest)
  assigns who s rest p = k.assigns kept who s rest p

  pub drops : (who : Who) → (at : ℕ) (rest : Coded) → Ok who rest → Ok who (dropped tables functions at rest)
  drops who at rest p = k.drops kept who at rest p

  pub names : (who : Who) → (name : Named) → Calls tables may_call (is_group who) name → k.Good kept who (variable tables functions name)
  names who name means = k.names kept who name means

  pub value_in_place : (who : Who) → (e : Tree) → InPlace tables may_call (is_group who) e → (rest : Coded) → Ok who rest → Ok who (value tables functions e rest)
  value_in_place who e told rest p = k.value_is_kept kept who e told rest p
