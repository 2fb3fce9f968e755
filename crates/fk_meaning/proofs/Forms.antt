-- The code of expressions has its parts and bodies nested, before code that has them so.
use Rattle.std.proofs.Common.{◌≡◌, ℕ, suc, Bool, true, false, List, [], ◌∷◌, Option, Some, None, refl}
use Rattle.std.specs.Prelude.{if◌then◌else◌}
use Rattle.fk_syntax.specs.declared.place.Place.{Place}
use Rattle.fk_syntax.specs.Tree.{Named}
use Rattle.fk_syntax.specs.Program.{DeclaredTree}
use Rattle.fk_meaning_operation.specs.declared.operation.Operation.{Operation}
use Rattle.fk_meaning_operation.specs.declared.operation.Operation.TheVariants as o
use Rattle.fk_meaning_operation.specs.declared.operation.Variable.TheVariants as v
use Rattle.fk_meaning_operation.specs.declared.operation.OwnValue.TheVariants as n
use Rattle.fk_meaning_operation.specs.declared.operation.SplitKind.{SplitKind}
use Rattle.fk_meaning_operation.specs.declared.operation.SplitKind.TheVariants.{IfElse}
use Rattle.fk_meaning_forms.specs.declared.tables.Region.{Region}
use Rattle.fk_meaning_forms.specs.Code.{done, perform, choose}
use Rattle.fk_meaning_forms.specs.Tables.{Tables, note, slot, frame_at}
use Rattle.fk_meaning_forms.specs.Expressions.{Coded, Signature, plain, framed, parameters}
use Rattle.fk_meaning.specs.Shape.{Exits, none, of_arm, Shape}
use Rattle.fk_meaning.specs.Shaped.{Takes}
use Rattle.fk_meaning.proofs.Spine.{untrue}
use Rattle.fk_meaning.proofs.Kept.{is_inner, is_alone, entered, IsKept}

-- code of a part or of none, and what it may do to lead out
abbrev pub Nests : Bool × Exits → Coded → Type 0
Nests w code = Shape w.0 false w.1 code

performed : (op : Operation) → is_inner op ≡ true → (w : Bool × Exits) (t : Place) (rest : Coded) → Nests w rest → Nests w (perform t op rest)
performed (o.Branch onward) e w t rest p = untrue e
performed (o.Leave gives framed') e w t rest p = untrue e
performed (o.Enter arguments) e w t rest p = untrue e
performed o.Begin e w t rest p = untrue e
performed (o.Split by) e w t rest p = untrue e
performed o.Shrink e w t rest p = untrue e
performed o.End e w t rest p = untrue e
performed o.Farm e w t rest p = untrue e
performed o.Seq e w t rest p = untrue e
performed (o.Meet closes) e w t rest p = untrue e
performed o.Halt e w t rest p = untrue e
performed op e w t rest p = (refl, refl, p)

-- code that ends, by itself and by the end of a part
pub ended : (x : Exits) → x.tests ≡ false → Nests (false, x) done
ended x e = (refl, refl, e)

pub end : (x : Exits) → x.tests ≡ false → Nests (true, x) (plain o.End done)
end x e = (refl, refl, (refl, e, refl))

divided_alone : (by : SplitKind) → is_alone by ≡ true → (w : Bool × Exits) (t : Place) (a rest : Coded) → Nests (true, none) a → Nests w rest
    → Nests w (choose t (o.Split by) a done (plain o.Resume rest))
divided_alone IfElse e w t a rest p q = untrue e
divided_alone by e w t a rest p q = (refl, refl, p, ended none refl, (λ is. refl), (λ is. refl), (refl, refl, q))

module _ (tables : Tables) (functions : (binding : ℕ) → Signature) where
  puts_in : (i : ℕ) (xs : List DeclaredTree) → Nests (false, none) (parameters tables functions i xs)
  puts_in i [] = (refl, refl, refl)
  puts_in i (y ∷ ys) =
      let others = parameters tables functions (suc i) ys in
      let shared = plain (o.Get (n.FrameAddress 0 (slot tables (note tables y.name.at).binding).index)) (plain (o.Get (n.Value (v.Private i))) (plain o.Write (plain o.DropLast others))) in
      by y.shared shared others (refl, refl, (refl, refl, (refl, refl, (refl, refl, puts_in (suc i) ys)))) (puts_in (suc i) ys)
    where
      by : (b : Bool) (c d : Coded) → Nests (false, none) c → Nests (false, none) d → Nests (false, none) (if b then c else d)
      by true c d p q = p
      by false c d p q = q

  begins : (r : Option Region) (place : Place) (code : Coded) → Nests (false, none) code → Nests (false, none) (framed tables functions r place code)
  begins None place code p = p
  begins (Some r) place code p = (refl, refl, p)

  enters : (w : Bool × Exits) (name : Named) (rest : Coded) → Nests w rest → Nests w (entered tables functions name rest)
  enters w name rest p =
      let function = functions (note tables name.at).binding in
      let opening = parameters tables functions 0 function.parameters in
      (refl, refl, begins (frame_at tables function.at 0) name.place opening (puts_in 0 function.parameters), p)

  pub kept : IsKept tables functions (Takes tables) (Bool × Exits) Nests
  kept = record {
    in_part = λ w. (true, none);
    in_way = λ w. (false, of_arm w.1);
    performs = λ w t op rest e p. performed op e w t rest p;
    part_ends = λ w. end none refl;
    way_ends = λ w. (refl, refl, refl);
    divides_alone = λ w t by a rest e p q. divided_alone by e w t a rest p q;
    divides = λ w t a b rest p q r. (refl, refl, p, q, (λ e. untrue e), (λ e. refl), (refl, refl, r));
    branches = λ w t onward a b rest p q r. (refl, refl, p, q, (λ e. untrue e), (λ e. untrue e), r);
    enters = λ w name given rest taken own p. enters w name rest p;
    takes_enough = λ name given taken is. taken is;
  }
