-- What a call does at the beginning of its function: nothing is pending in it.
use Rattle.std.proofs.Common.{◌≡◌, ℕ, suc, Bool, true, false, List, [], ◌∷◌, Option, Some, None, ap, refl, sym, subst}
use Rattle.std.specs.Prelude.{if◌then◌else◌}
use Rattle.fk_syntax.specs.declared.place.Place.{Place}
use Rattle.fk_syntax.specs.Program.{DeclaredTree}
use Rattle.fk_meaning_operation.specs.declared.operation.Operation.{Operation}
use Rattle.fk_meaning_operation.specs.declared.operation.Operation.TheVariants as o
use Rattle.fk_meaning_operation.specs.declared.operation.Variable.TheVariants as v
use Rattle.fk_meaning_operation.specs.declared.operation.OwnValue.TheVariants as n
use Rattle.fk_meaning_forms.specs.declared.tables.Region.{Region}
use Rattle.fk_meaning_forms.specs.Code.{done, perform}
use Rattle.fk_meaning_forms.specs.Tables.{Tables, note, slot}
use Rattle.fk_meaning_forms.specs.Expressions.{Coded, nowhere, plain, Signature, framed, parameters}
use Rattle.fk_lockstep_structure.specs.Pending as pending
use Rattle.fk_lockstep_structure.specs.Pending.{stands_alone, before_it, leads, MayStand}

module _ (may_call gives : (function : ℕ) → Bool) (called : Option Bool) where
  abbrev Idle : Coded → Type 0
  Idle code = pending.Idle may_call gives called code

  pub idle_done : Idle done
  idle_done = (refl, tt)

  pub goes : (t : Place) (op : Operation) (rest : Coded) → stands_alone op ≡ true → Idle rest → Idle (perform t op rest)
  goes t op rest f h = (ap (before_it op) h.0, (f, subst (λ (x : Option ℕ). MayStand op x (leads rest)) (sym h.0) tt, h.1))

  pub either : (b : Bool) (x y : Coded) → Idle x → Idle y → Idle (if b then x else y)
  either true x y p q = p
  either false x y p q = q

  module _ (tables : Tables) (functions : (binding : ℕ) → Signature) where
    pub frames : (r : Option Region) (place : Place) (rest : Coded) → Idle rest → Idle (framed tables functions r place rest)
    frames None place rest p = p
    frames (Some r) place rest p = goes place (o.Frame r.level r.words) rest refl p

    puts_in : (i : ℕ) (xs : List DeclaredTree) → Idle (parameters tables functions i xs)
    puts_in i [] = idle_done
    puts_in i (x ∷ xs) =
        let others = parameters tables functions (suc i) xs in
        let dropping = plain o.DropLast others in
        let writing = plain o.Write dropping in
        let reading = plain (o.Get (n.Value (v.Private i))) writing in
        let address = o.Get (n.FrameAddress 0 (slot tables (note tables x.name.at).binding).index) in
        let rest = puts_in (suc i) xs in
        either x.shared (plain address reading) others
        (goes nowhere address reading refl (goes nowhere (o.Get (n.Value (v.Private i))) writing refl (goes nowhere o.Write dropping refl (goes nowhere o.DropLast others refl rest)))) rest

    pub opening_idle : (r : Option Region) (place : Place) (xs : List DeclaredTree) → Idle (framed tables functions r place (parameters tables functions 0 xs))
    opening_idle r place xs = frames r place (parameters tables functions 0 xs) (puts_in 0 xs)
