-- The code of every form is in step, before code that is: first expressions.
use Rattle.std.proofs.Common.{◌≡◌, ℕ, suc, Bool, true, false, List, [], ◌∷◌, Option, Some, None, refl}
use Rattle.std.specs.Prelude.{if◌then◌else◌}
use Rattle.fk_syntax.specs.declared.place.Place.{Place}
use Rattle.fk_syntax.specs.Tree.{Named, Tree}
use Rattle.fk_syntax.specs.Program.{DeclaredTree}
use Rattle.fk_meaning_operation.specs.declared.operation.Operation.{Operation}
use Rattle.fk_meaning_operation.specs.declared.operation.Operation.TheVariants as o
use Rattle.fk_meaning_operation.specs.declared.operation.Variable.TheVariants as v
use Rattle.fk_meaning_operation.specs.declared.operation.OwnValue.TheVariants as n
use Rattle.fk_meaning_forms.specs.declared.tables.Region.{Region}
use Rattle.fk_meaning_forms.specs.Code.{perform, choose}
use Rattle.fk_meaning_forms.specs.Tables.{Tables, note, slot, frame_at}
use Rattle.fk_meaning_forms.specs.Expressions.{Coded, nowhere, plain, ResultLocation, Signature, agreed, addressed, assigned, dropped, variable, framed, parameters, value}
use Rattle.fk_meaning.proofs.Spine.{untrue}
use Rattle.fk_meaning.proofs.Kept.{entered}
use Rattle.fk_lockstep.specs.InStep.{InStep}
use Rattle.fk_lockstep.specs.Noted.{Decides, Means, Noted}
use Rattle.fk_lockstep.proofs.Weaken.{weaken}
use Rattle.fk_lockstep.proofs.Kept as k
use Rattle.fk_lockstep.proofs.Kept.{is_quiet, IsKept}

module _ (tables : Tables) (functions : (binding : ℕ) → Signature) (may_call : (function : ℕ) → Bool) where
  abbrev pub Ok : Coded → Type 0
  Ok code = InStep may_call false code

  pub either : (b : Bool) (x y : Coded) → Ok x → Ok y → Ok (if b then x else y)
  either true x y p q = p
  either false x y p q = q

  -- an agree, and what may stand behind it alone
  pub agrees : (sync : Bool) → sync ≡ true → (rest : Coded) → InStep may_call true rest → Ok (agreed sync rest)
  agrees true is rest p = (refl, p)
  agrees false is rest p = untrue is

  pub frames : (r : Option Region) (place : Place) (rest : Coded) → Ok rest → Ok (framed tables functions r place rest)
  frames None place rest p = p
  frames (Some r) place rest p = (refl, p)

  puts_in : (i : ℕ) (xs : List DeclaredTree) → Ok (parameters tables functions i xs)
  puts_in i [] = tt
  puts_in i (x ∷ xs) =
      let others = parameters tables functions (suc i) xs in
      let shared = plain (o.Get (n.FrameAddress 0 (slot tables (note tables x.name.at).binding).index)) (plain (o.Get (n.Value (v.Private i))) (plain o.Write (plain o.DropLast others))) in
      either x.shared shared others (refl, (refl, (refl, (refl, puts_in (suc i) xs)))) (puts_in (suc i) xs)

  enters : (name : Named) (rest : Coded) → Means tables may_call name → Ok rest → Ok (entered tables functions name rest)
  enters name rest means p =
      let function = functions (note tables name.at).binding in
      (refl, means, frames (frame_at tables function.at 0) name.place (parameters tables functions 0 function.parameters) (puts_in 0 function.parameters), p)

  performs : (t : Place) (op : Operation) (rest : Coded) → is_quiet op ≡ true → Ok rest → Ok (perform t op rest)
  performs t (o.Branch onward) rest e p = untrue e
  performs t o.Block rest e p = untrue e
  performs t o.Agree rest e p = untrue e
  performs t op rest e p = (refl, p)

  pub kept : IsKept tables functions (Unit {0}) (λ who. Ok) (λ who. Decides tables may_call) (λ who. Means tables may_call)
  kept = record {
    inner = λ who. who;
    told = λ who e h. h;
    performs = λ who. performs;
    allots = λ who name rest means a p. (refl, (refl, p));
    ends = λ who. tt;
    part_ends = λ who. (refl, tt);
    divides = λ who spot by a b rest of_value decides splits p q r. (refl, p, q, (refl, r));
    branches = λ who spot onward a b rest decides p q r. agrees (note tables spot.at).sync decides (choose nowhere (o.Branch onward) a b rest) (refl, p, q, r);
    shares = λ who name means. k.all_agree (λ (w : Unit {0}). Ok) who (λ rest p. (refl, weaken may_call true rest p)) (functions (note tables name.at).binding).parameters;
    enters = λ who. enters;
  }

  pub addresses : (s : ResultLocation) (rest : Coded) → Ok rest → Ok (addressed tables functions s rest)
  addresses s rest p = k.addresses kept tt s rest p

  pub assigns : (s : ResultLocation) (rest : Coded) → Ok rest → Ok (assigned tables functions s rest)
  assigns s rest p = k.assigns kept tt s rest p

  pub drops : (at : ℕ) (rest : Coded) → Ok rest → Ok (dropped tables functions at rest)
  drops at rest p = k.drops kept tt at rest p

  pub names : (name : Named) → Means tables may_call name → k.Good kept tt (variable tables functions name)
  names name means = k.names kept tt name means

  pub value_in_step : (e : Tree) → Noted tables may_call e → (rest : Coded) → Ok rest → Ok (value tables functions e rest)
  value_in_step e noted rest p = k.value_is_kept kept tt e noted rest p
