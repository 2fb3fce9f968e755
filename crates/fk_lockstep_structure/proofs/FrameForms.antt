-- The code of every form that is in place is framed: first expressions.
use Rattle.std.proofs.Common.{◌≡◌, ℕ, suc, Bool, true, false, List, [], ◌∷◌, Option, Some, None, refl, subst}
use Rattle.std.specs.Prelude.{if◌then◌else◌}
use Rattle.fk_syntax.specs.declared.place.Place.{Place}
use Rattle.fk_syntax.specs.declared.place.Spot.{Spot}
use Rattle.fk_syntax.specs.Tree.{Named, Tree}
use Rattle.fk_syntax.specs.Program.{DeclaredTree}
use Rattle.fk_meaning_operation.specs.declared.operation.Operation.{Operation}
use Rattle.fk_meaning_operation.specs.declared.operation.Operation.TheVariants as o
use Rattle.fk_meaning_operation.specs.declared.operation.Variable.TheVariants as v
use Rattle.fk_meaning_operation.specs.declared.operation.OwnValue.TheVariants as n
use Rattle.fk_meaning_operation.specs.declared.operation.SplitKind.{SplitKind}
use Rattle.fk_meaning_forms.specs.declared.tables.Region.{Region}
use Rattle.fk_meaning_forms.specs.Code.{perform, choose}
use Rattle.fk_meaning_forms.specs.Tables.{Tables, note, slot, frame_at}
use Rattle.fk_meaning_forms.specs.Expressions.{Coded, nowhere, plain, ResultLocation, Signature, agreed, addressed, assigned, dropped, variable, framed, parameters, value}
use Rattle.fk_meaning.proofs.Spine.{untrue}
use Rattle.fk_meaning.proofs.Kept.{entered}
use Rattle.fk_lockstep.proofs.Kept as k
use Rattle.fk_lockstep.proofs.Kept.{is_plain, quiet_plain, is_of_value, IsKept}
use Rattle.fk_lockstep_structure.specs.Placed.{Who, OfGroup, OfBody, OfMain, is_group, callee_of}
use Rattle.fk_lockstep_structure.specs.InPlace.{Splits, Calls, InPlace}
use Rattle.fk_lockstep_structure.specs.Framed.{is_body, Stays, Chooses, Opens, Framed}

-- operations that any processor does
pub stays : (who : Who) (op : Operation) → is_plain op ≡ true → Stays who who op
stays who (o.Enter count) e = untrue e
stays who (o.Leave gives framed) e = untrue e
stays who (o.Frame nesting words) e = untrue e
stays who o.Block e = untrue e
stays who o.Resume e = untrue e
stays who (o.Meet closes) e = untrue e
stays who op e = record { remains = refl; in_group = λ i. untrue i; resumes = λ i. untrue i; closes = λ i. untrue i }

group_no_body : (who : Who) → is_group who ≡ true → is_body who ≡ false
group_no_body OfGroup e = refl
group_no_body OfBody e = untrue e
group_no_body (OfMain b) e = refl

pub resumes_in : (who : Who) → is_body who ≡ false → Stays who who o.Resume
resumes_in who e = record { remains = refl; in_group = λ i. untrue i; resumes = λ i. e; closes = λ i. untrue i }

pub resumes_in_group : (who : Who) → is_group who ≡ true → Stays who who o.Resume
resumes_in_group who e = resumes_in who (group_no_body who e)

pub ends_part : (who : Who) → Stays who who o.End
ends_part who = record { remains = refl; in_group = λ i. untrue i; resumes = λ i. untrue i; closes = λ i. untrue i }

pub frames_in : (who : Who) (level words : ℕ) → is_group who ≡ true → Stays who who (o.Frame level words)
frames_in who level words e = record { remains = refl; in_group = λ i. e; resumes = λ i. untrue i; closes = λ i. untrue i }

pub no_choice : (who : Who) (onward : Bool) → Chooses who (o.Branch onward)
no_choice who onward = record { starts = λ i. untrue i; divides = λ i. untrue i; bodies = λ i. untrue i }

pub divides_in : (who : Who) (by : SplitKind) → is_group who ≡ true → Chooses who (o.Split by)
divides_in who by e = record { starts = λ i. untrue i; divides = λ i. e; bodies = λ i. untrue i }

module _ (tables : Tables) (functions : (binding : ℕ) → Signature) (may_call : (in_group : Bool) → (function : ℕ) → Bool)
    (frameless : (binding : ℕ) → may_call false binding ≡ true → frame_at tables (functions binding).at 0 ≡ None) where
  abbrev pub Ok : Who → Coded → Type 0
  Ok who code = Framed may_call who code

  pub splits_to : (b : Bool) (who : Who) (x y : Coded) → (b ≡ true → Ok who x) → Ok who y → Ok who (if b then x else y)
  splits_to true who x y p q = p refl
  splits_to false who x y p q = q

  pub agrees_or : (who : Who) → (sync : Bool) (rest : Coded) → Ok who rest → Ok who (agreed sync rest)
  agrees_or who true rest p = (stays who o.Agree refl, refl, p)
  agrees_or who false rest p = p

  puts_in : (who : Who) → (i : ℕ) (xs : List DeclaredTree) → Opens may_call who (parameters tables functions i xs)
  puts_in who i [] = tt
  puts_in who i (x ∷ xs) = by x.shared (puts_in who (suc i) xs)
    where
      by : (b : Bool) → Opens may_call who (parameters tables functions (suc i) xs) → Opens may_call who (
          let others = parameters tables functions (suc i) xs in
          if b then plain (o.Get (n.FrameAddress 0 (slot tables (note tables x.name.at).binding).index)) (plain (o.Get (n.Value (v.Private i))) (plain o.Write (plain o.DropLast others)))
          else others)
      by true p = (
        stays who (o.Get (n.FrameAddress 0 (slot tables (note tables x.name.at).binding).index)) refl,
        (stays who (o.Get (n.Value (v.Private i))) refl, (stays who o.Write refl, (stays who o.DropLast refl, p))),
      )
      by false p = p

  opens : (who : Who) (r : Option Region) (place : Place) (rest : Coded) → (is_group who ≡ false → r ≡ None) → Opens may_call who rest → Opens may_call who (framed tables functions r place rest)
  opens who None place rest e p = p
  opens OfGroup (Some r) place rest e p = (frames_in OfGroup r.level r.words refl, p)
  opens OfBody (Some r) place rest e p = absurd (some_is_none r (e refl))
    where
      some_is_none : (r : Region) → Some r ≡ None → ⊥
      some_is_none r e = cc
  opens (OfMain b) (Some r) place rest e p = absurd (some_is_none r (e refl))
    where
      some_is_none : (r : Region) → Some r ≡ None → ⊥
      some_is_none r e = cc

  callee_alone : (who : Who) → is_group (callee_of who) ≡ false → is_group who ≡ false
  callee_alone OfGroup e = e
  callee_alone OfBody e = refl
  callee_alone (OfMain b) e = refl

  enters : (who : Who) (name : Named) (rest : Coded) → Calls tables may_call (is_group who) name → Ok who rest → Ok who (entered tables functions name rest)
  enters who name rest means p =
      let b = (note tables name.at).binding in
      let function = functions b in
      let opening = parameters tables functions 0 function.parameters in (
        refl,
        means.0,
        opens (callee_of who) (frame_at tables function.at 0) name.place opening
            (λ e. frameless b (subst (λ g. may_call g b ≡ true) (callee_alone who e) means.0)) (puts_in (callee_of who) 0 function.parameters),
        p,
      )

  plain_is_no_frame : (op : Operation) → is_plain op ≡ true → (who : Who) (t : Place) (rest : Coded) → Ok who rest → Ok who (perform t op rest)
  plain_is_no_frame (o.Frame nesting words) e who t rest p = untrue e
  plain_is_no_frame op e who t rest p = (stays who op e, refl, p)

  divides : (who : Who) (spot : Spot) (by : SplitKind) (a b rest : Coded) → is_of_value by ≡ true → Splits tables may_call (is_group who) spot.at → (note tables spot.at).splits ≡ true
      → Ok who a → Ok who b → Ok who rest → Ok who (choose spot.place (o.Split by) a b (plain o.Resume rest))
  divides who spot by a b rest e splits is p q r =
      let g = splits.0 is in (divides_in who by g, p, q, (λ i. refl), (resumes_in_group who g, refl, r))

  allots : (who : Who) (rest : Coded) → is_group who ≡ true → Ok who rest → Ok who (plain o.Agree (plain o.Block rest))
  allots who rest g p = (
    stays who o.Agree refl,
    refl,
    (record { remains = refl; in_group = λ i. g; resumes = λ i. untrue i; closes = λ i. untrue i }, refl, p),
  )

  pub kept : IsKept tables functions Who Ok (λ who. Splits tables may_call (is_group who)) (λ who. Calls tables may_call (is_group who))
  kept = record {
    inner = λ who. who;
    told = λ who e h. h;
    performs = λ who t op rest e p. plain_is_no_frame op (quiet_plain op e) who t rest p;
    allots = λ who name rest means a p. allots who rest (means.1 a) p;
    ends = λ who. tt;
    part_ends = λ who. (ends_part who, refl, tt);
    divides = divides;
    branches = λ who spot onward a b rest splits p q r. agrees_or who (note tables spot.at).sync (choose nowhere (o.Branch onward) a b rest) (no_choice who onward, p, q, (λ i. untrue i), r);
    shares = λ who name means. k.all_agree Ok who (λ rest p. (stays who o.Agree refl, refl, p)) (functions (note tables name.at).binding).parameters;
    enters = enters;
  }

  pub addresses : (who : Who) → (s : ResultLocation) (rest : Coded) → Ok who rest → Ok who (addressed tables functions s rest)
  addresses who s rest p = k.addresses kept who s rest p

  pub assigns : (who : Who) → (s : ResultLocation) (rest : Coded) → Ok who rest → Ok who (assigned tables functions s rest)
  assigns who s rest p = k.assigns kept who s rest p

  pub drops : (who : Who) → (at : ℕ) (rest : Coded) → Ok who rest → Ok who (dropped tables functions at rest)
  drops who at rest p = k.drops kept who at rest p

  pub names : (who : Who) → (name : Named) → Calls tables may_call (is_group who) name → k.Good kept who (variable tables functions name)
  names who name means = k.names kept who name means

  pub value_framed : (who : Who) → (e : Tree) → InPlace tables may_call (is_group who) e → (rest : Coded) → Ok who rest → Ok who (value tables functions e rest)
  value_framed who e told rest p = k.value_is_kept kept who e told rest p
