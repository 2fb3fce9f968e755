-- Rounds of any form of what is left to do that goes on as code in step.
use Rattle.std.proofs.Common.{◌≡◌, ℕ, zero, suc, Bool, true, false, [], Option, Some, None, ◌∙◌, sym, refl, subst}
use Rattle.fk_meaning_operation.specs.declared.operation.Operation.{Operation}
use Rattle.fk_meaning.specs.Alike.{Same}
use Rattle.fk_meaning.specs.Round.{Step}
use Rattle.fk_meaning_forms.specs.Code.{Code}
use Rattle.fk_meaning_forms.specs.Program.{bodies_of}
use Rattle.fk_meaning.specs.Next as source
use Rattle.fk_meaning.specs.Next.{Work, going}
use Rattle.fk_core.specs.Next as core
use Rattle.fk_core.specs.Next.{Position, position}
use Rattle.fk_core.proofs.Running.{IsAt, same_next, body_at}
use Rattle.fk_lockstep.specs.InStep.{is_agree, may_stand, leaves_step, InStep, WorkInStep}
use Rattle.fk_lockstep.specs.AnyForm.{GoesAlike, GoesAs, FormsGoOn, EntriesGoAsCode}
use Rattle.fk_lockstep.proofs.Steps.{Stepped, is_stepped}
use Rattle.fk_lockstep.proofs.Rounds.{StepsIn, Pair, goes_on}

module _ {W : Type 0} (next : W → Option (Step W)) (may_call : ℕ → Bool) (bodies : ℕ → Code ℕ) (all_bodies : (function : ℕ) → may_call function ≡ true → InStep may_call false (bodies function)) where
  record GoesInStep (behind : Bool) (w : W) : Type 0 where
    code : Work
    goes_as : GoesAs (source.next bodies) next code w
    in_step : WorkInStep may_call behind code

  by_steps : (behind : Bool) (d : Option (Step Work)) (d' : Option (Step W)) → ((n : ℕ) → Same (GoesAlike (source.next bodies) next n) d d')
      → Stepped may_call behind d → StepsIn GoesInStep behind d'
  by_steps behind None None h g = tt
  by_steps behind None (Some u) h g = absurd (h 0)
  by_steps behind (Some s) None h g = tt
  by_steps behind (Some s) (Some u) h g =
      let same : s.operation ≡ u.operation = (h 0).0 in
      record {
        stands = subst (λ (op : Operation). may_stand behind op ≡ true) same g.stands;
        goes_on = λ stays onward. record {
          code = s.rest onward;
          goes_as = λ n. (h n).2 onward;
          in_step = subst (λ (op : Operation). WorkInStep may_call (is_agree op) (s.rest onward)) same
              (g.goes_on (subst (λ (op : Operation). leaves_step op ≡ false) (sym same) stays) onward);
        };
      }

  all_steps : (behind : Bool) (w : W) → GoesInStep behind w → StepsIn GoesInStep behind (next w)
  all_steps behind w h =
      by_steps behind (source.next bodies h.code) (next w) (λ n. h.goes_as (suc n)) (is_stepped may_call bodies all_bodies behind h.code h.in_step)

pub forms_go_on : (W : Type 0) → FormsGoOn W
forms_go_on W next may_call bodies all_bodies set round s g h r q together behind start =
    let P : Bool → W → Type 0 = GoesInStep next may_call bodies all_bodies in
    let steps : (behind' : Bool) (w : W) → P behind' w → StepsIn P behind' (next w) = all_steps next may_call bodies all_bodies in
    let opening : Pair next set P steps r.has.number q.has.number behind r q = record {
      left = start.left;
      place = start.place;
      in_step = record { code = start.code; goes_as = start.goes_as; in_step = start.in_step };
      value = start.value;
      first = refl;
      second = refl;
    } in
    let w = goes_on next set P steps r.has.number q.has.number round s g h r q together behind opening in
    record {
      first = w.first;
      second = w.second;
      first_is = w.first_is;
      second_is = w.second_is;
      left = w.gone_on.left;
      place = w.gone_on.place;
      together = λ stays.
          let t' = w.gone_on.pair (λ step due. stays w.acting step (w.acting_is, w.due_is ∙ due)) in (
            t'.0,
            record {
              left = w.gone_on.left;
              place = w.gone_on.place;
              code = t'.1.code;
              goes_as = t'.1.goes_as;
              in_step = t'.1.in_step;
              value = t'.2;
            },
          );
    }

-- positions in a list
related : {V W : Type 0} (R Q : V → W → Type 0) → ((v : V) (w : W) → R v w → Q v w) → (d : Option (Step V)) (d' : Option (Step W)) → Same R d d' → Same Q d d'
related R Q f None None h = tt
related R Q f None (Some u) h = absurd h
related R Q f (Some s) None h = absurd h
related R Q f (Some s) (Some u) h = (h.0, h.1, λ onward. f (s.rest onward) (u.rest onward) (h.2 onward))

pub entries_go_as_code : EntriesGoAsCode
entries_go_as_code tables program ops entry has function operations =
    let bodies = bodies_of tables program in
    as_far operations (going (bodies function) []) (position (entry function) []) (body_at ops entry has.leads_on bodies has.stands function)
  where
    as_far : (n : ℕ) (w : Work) (at : Position) → IsAt ops entry has.leads_on (bodies_of tables program) has.stands w at
        → GoesAlike (source.next (bodies_of tables program)) (core.next ops) n w at
    as_far zero w at h = tt
    as_far (suc n) w at h =
        related (IsAt ops entry has.leads_on (bodies_of tables program) has.stands) (GoesAlike (source.next (bodies_of tables program)) (core.next ops) n)
        (as_far n) (source.next (bodies_of tables program) w) (core.next ops at) (same_next ops entry has.leads_on (bodies_of tables program) has.stands w at h)
