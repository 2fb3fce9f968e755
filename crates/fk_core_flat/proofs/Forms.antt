-- The code of expressions has the shape of flat lists, before code that has it.
use Rattle.std.proofs.Common.{◌≡◌, ℕ, suc, Bool, true, false, true≢false, List, [], ◌∷◌, Option, Some, None, refl}
use Rattle.std.specs.Prelude.{if◌then◌else◌}
use Rattle.fk_syntax.specs.declared.place.Place.{Place}
use Rattle.fk_syntax.specs.Tree.{Named, Trees}
use Rattle.fk_syntax.specs.Program.{DeclaredTree}
use Rattle.fk_meaning_operation.specs.declared.operation.Operation.{Operation}
use Rattle.fk_meaning_operation.specs.declared.operation.Operation.TheVariants as o
use Rattle.fk_meaning_operation.specs.declared.operation.Variable.TheVariants as v
use Rattle.fk_meaning_operation.specs.declared.operation.OwnValue.TheVariants as n
use Rattle.fk_meaning_forms.specs.declared.tables.Region.{Region}
use Rattle.fk_meaning_forms.specs.Code.{numbered}
use Rattle.fk_meaning_forms.specs.Tables.{Tables, note, slot, frame_at}
use Rattle.fk_meaning_forms.specs.Expressions.{Coded, Signature, plain, framed, parameters}
use Rattle.fk_meaning.specs.Calls.{TakesEnough}
use Rattle.fk_meaning.proofs.Spine.{untrue}
use Rattle.fk_meaning.proofs.Kept.{is_inner, is_predeclared, entered, IsKept}
use Rattle.fk_core_flat.specs.Items.{straight, way_of}
use Rattle.fk_core_flat.specs.Shape.{IsOpening}
use Rattle.fk_core_flat.specs.Fitting.{NameFits, Takes}
use Rattle.fk_core_flat.proofs.Ok.{Want, inner, Ok, on, branch, enter, ended, end}

goes_on : (op : Operation) → is_inner op ≡ true → way_of op ≡ straight
goes_on (o.Branch onward) e = untrue e
goes_on (o.Leave gives framed') e = untrue e
goes_on (o.Enter arguments) e = untrue e
goes_on o.Begin e = untrue e
goes_on (o.Split by) e = untrue e
goes_on o.Shrink e = untrue e
goes_on o.End e = untrue e
goes_on o.Farm e = untrue e
goes_on o.Seq e = untrue e
goes_on (o.Meet closes) e = untrue e
goes_on o.Halt e = untrue e
goes_on op e = refl

module _ (tables : Tables) (functions : (binding : ℕ) → Signature) (has_body : (binding : ℕ) → Bool) where
  abbrev pub Fine : Want → Coded → Type 0
  Fine x code = Ok has_body x code

  -- the beginning of a call
  abbrev Opens : Coded → Type 0
  Opens code = (first : ℕ) → IsOpening (numbered first code)

  opens_frame : (r : Option Region) (place : Place) (code : Coded) → Opens code → Opens (framed tables functions r place code)
  opens_frame None place code h first = h first
  opens_frame (Some r) place code h first = (refl, h (suc first))

  puts_in : (i : ℕ) (xs : List DeclaredTree) → Opens (parameters tables functions i xs)
  puts_in i [] first = tt
  puts_in i (y ∷ ys) first =
      let others = parameters tables functions (suc i) ys in
      let shared = plain (o.Get (n.FrameAddress 0 (slot tables (note tables y.name.at).binding).index)) (plain (o.Get (n.Value (v.Private i))) (plain o.Write (plain o.DropLast others))) in
      by y.shared shared others (refl, (refl, (refl, (refl, puts_in (suc i) ys (suc (suc (suc (suc first)))))))) (puts_in (suc i) ys first)
    where
      by : (b : Bool) (c d : Coded) → IsOpening (numbered first c) → IsOpening (numbered first d) → IsOpening (numbered first (if b then c else d))
      by true c d p q = p
      by false c d p q = q

  -- a name that is called, and isn't predeclared, is that of a function with a body
  defined : (b : Bool) (name : Named) (given : Trees) → NameFits tables functions has_body b name given → b ≡ false → has_body (note tables name.at).binding ≡ true
  defined true name given taken e = absurd (true≢false e)
  defined false name given taken e = taken

  enough : (b : Bool) (name : Named) (given : Trees) → NameFits tables functions has_body b name given → b ≡ true → TakesEnough name given
  enough true name given taken e = taken
  enough false name given taken e = untrue e

  enters : (x : Want) (name : Named) (given : Trees) (rest : Coded) → Takes tables functions has_body name given → is_predeclared tables name ≡ false → Fine x rest
      → Fine x (entered tables functions name rest)
  enters x name given rest taken own p =
      let function = functions (note tables name.at).binding in
      let opening = parameters tables functions 0 function.parameters in
      enter refl (defined (is_predeclared tables name) name given taken own)
      (opens_frame (frame_at tables function.at 0) name.place opening (puts_in 0 function.parameters)) p

  pub kept : IsKept tables functions (Takes tables functions has_body) Want Fine
  kept = record {
    in_part = inner;
    in_way = inner;
    performs = λ x t op rest e p. on (goes_on op e) p;
    part_ends = end;
    way_ends = ended;
    divides_alone = λ x t by a rest e p q. branch refl p (ended x) (on refl q);
    divides = λ x t a b rest p q r. branch refl p q (on refl r);
    branches = λ x t onward a b rest p q r. branch refl p q r;
    enters = enters;
    takes_enough = λ name given taken is. enough (is_predeclared tables name) name given taken is;
  }
