-- What the answer of a request leads to in the lock's functions.
use Rattle.std.proofs.Common.{◌≡◌, ◌<◌, ℕ, suc, Bool, true, false, not, List, [], ◌∷◌, arith, ap, ◌∙◌, refl, sym, subst}
use Rattle.std.specs.Prelude.{◌==◌, if◌then◌else◌}
use Rattle.fk_num.specs.declared.operator.Op.TheVariants.{Ne}
use Rattle.fk_num.specs.Word.{word_sum}
use Rattle.fk_num.specs.Op.{applied}
use Rattle.fk_meaning_store.specs.Store.{address_of, shared_words}
use Rattle.fk_meaning_forms.specs.Code.{Code}
use Rattle.fk_meaning.specs.Processor.{Processor, Setting, values, last, before}
use Rattle.fk_meaning.specs.Request.{arguments, entered, with_answer}
use Rattle.fk_meaning.specs.Round.{Runner, after_one}
use Rattle.fk_meaning.specs.Next.{Work, going, next}
use Rattle.fk_tickets.specs.Lock.{Stage, Outside, Waiting, Inside, looked}
use Rattle.fk_locks_calls.specs.Code.{code_of_take, code_of_give}
use Rattle.fk_locks_calls.proofs.Outer.{AllOuter, HasBodies, returns}
use Rattle.fk_locks_calls.proofs.Points.{Point, TakeChecks, TakeChecksShared, Draws, LookChecks, Looks, GiveChecks, GiveChecksShared, Adds, Idle, Free, Holds, IsOn, This, Other, Stands, Away, Within, Will, left_after, leaving, now, operation_at, soon, turning, values_at}

pub first_address : (x : ℕ) → suc x < shared_words → word_sum (address_of x) 0 ≡ address_of x
first_address x room = omega (arith, room)

pub second_address : (x : ℕ) → suc x < shared_words → word_sum (address_of x) 4 ≡ address_of (suc x)
second_address x room = omega (arith, room)

unequal : (v t : ℕ) (b : Bool) → (v == t) ≡ b → not (applied Ne v t == 0) ≡ not b
unequal v t true e = rw e refl
unequal v t false e = rw e refl

-- the address that a call is given
pub given_is : (vs : List ℕ) → arguments 1 vs 0 ≡ last vs
given_is [] = refl
given_is (v ∷ vs) = refl

module _ (take give : ℕ) (bodies : ℕ → Code ℕ) (has : HasBodies take give bodies) (set : Setting) (x : ℕ) (room : suc x < shared_words) where
  abbrev Stood : (Taken Given : Type 0) → Stage → Runner Work → Type 0
  Stood Taken Given stage r = Stands take give bodies has set x Taken Given stage r

  abbrev pub Goes : (Taken Given : Type 0) → Stage → Runner Work → Type 0
  Goes Taken Given stage r = Will take give bodies has set x Taken Given stage r

  abbrev at : Code ℕ → List (Code ℕ) → Processor → Runner Work
  at code cs p = record { left = record { left = code; callers = cs }; has = p }

  step : {Taken Given : Type 0} {stage : Stage} {r : Runner Work} → Goes Taken Given stage (after_one (next bodies) set r) → Goes Taken Given stage r
  step w = soon take give bodies has set x w

  here : {Taken Given : Type 0} {stage : Stage} {r : Runner Work} → Stood Taken Given stage r → Goes Taken Given stage r
  here s = now take give bodies has set x s

  -- ---- calls begin

  pub take_begins : {Taken Given : Type 0} {stage : Stage} (cs : List (Code ℕ)) (p : Processor) → AllOuter take give cs → last (values p) ≡ address_of x → stage ≡ Outside → Taken
      → Goes Taken Given stage (at code_of_take cs (entered 1 p))
  take_begins cs p outer given outside taken =
      let called = given_is (values p) ∙ given in
      step (step (step (here (Within TakeChecks cs outer refl (This (record {
        called = called;
        has = ap (λ a. word_sum a 0 ∷ []) called ∙ ap (λ a. a ∷ []) (first_address x room);
        stage_is = outside;
        turn_is = taken;
      }))))))

  pub give_begins : {Taken Given : Type 0} {stage : Stage} (cs : List (Code ℕ)) (p : Processor) → AllOuter take give cs → last (values p) ≡ address_of x → stage ≡ Inside → Given
      → Goes Taken Given stage (at code_of_give cs (entered 1 p))
  give_begins cs p outer given inside gave =
      let called = given_is (values p) ∙ given in
      step (step (step (here (Within GiveChecks cs outer refl (This (record {
        called = called;
        has = ap (λ a. word_sum a 4 ∷ []) called ∙ ap (λ a. a ∷ []) (second_address x room);
        stage_is = inside;
        turn_is = gave;
      }))))))

  -- with another address
  pub other_take_begins : {Taken Given : Type 0} {stage : Stage} (cs : List (Code ℕ)) (p : Processor) → AllOuter take give cs → (last (values p) ≡ address_of x → ⊥) → Idle Taken Given stage
      → Goes Taken Given stage (at code_of_take cs (entered 1 p))
  other_take_begins cs p outer other idle =
      step (step (step (here (Within TakeChecks cs outer refl (Other (λ is. other (sym (given_is (values p)) ∙ is)) idle)))))

  pub other_give_begins : {Taken Given : Type 0} {stage : Stage} (cs : List (Code ℕ)) (p : Processor) → AllOuter take give cs → (last (values p) ≡ address_of x → ⊥) → Idle Taken Given stage
      → Goes Taken Given stage (at code_of_give cs (entered 1 p))
  other_give_begins cs p outer other idle =
      step (step (step (here (Within GiveChecks cs outer refl (Other (λ is. other (sym (given_is (values p)) ∙ is)) idle)))))

  -- ---- in a call with the address of word x

  module _ (Taken Given : Type 0) (stage : Stage) (cs : List (Code ℕ)) (outer : AllOuter take give cs) (p : Processor) where
    abbrev answered : Point → ℕ → Runner Work
    answered q v = record { left = going (left_after q) cs; has = with_answer (operation_at q) v p }

    pub take_checked : (v : ℕ) → IsOn Taken Given x stage TakeChecks p → Goes Taken Given stage (answered TakeChecks v)
    take_checked v on = here (Within TakeChecksShared cs outer refl (This (record { called = on.called; has = on.has; stage_is = on.stage_is; turn_is = on.turn_is })))

    pub take_checked_shared : (v : ℕ) → IsOn Taken Given x stage TakeChecksShared p → Goes Taken Given stage (answered TakeChecksShared v)
    take_checked_shared v on =
        step (here (Within Draws cs outer refl (This (record { called = on.called; has = ap (λ vs. 1 ∷ vs) on.has; stage_is = on.stage_is; turn_is = on.turn_is }))))

    pub look_checked : (v : ℕ) → IsOn Taken Given x stage LookChecks p → Goes Taken Given stage (answered LookChecks v)
    look_checked v on = here (Within Looks cs outer refl (This (record { called = on.called; has = on.has; stage_is = on.stage_is; turn_is = on.turn_is })))

    pub give_checked : (v : ℕ) → IsOn Taken Given x stage GiveChecks p → Goes Taken Given stage (answered GiveChecks v)
    give_checked v on = here (Within GiveChecksShared cs outer refl (This (record { called = on.called; has = on.has; stage_is = on.stage_is; turn_is = on.turn_is })))

    pub give_checked_shared : (v : ℕ) → IsOn Taken Given x stage GiveChecksShared p → Goes Taken Given stage (answered GiveChecksShared v)
    give_checked_shared v on =
        step (here (Within Adds cs outer refl (This (record { called = on.called; has = ap (λ vs. 1 ∷ vs) on.has; stage_is = on.stage_is; turn_is = on.turn_is }))))

    -- after a draw
    pub drawn : (v : ℕ) → p.call.privates 0 ≡ address_of x → values p ≡ values_at x Draws → stage ≡ Waiting v → Taken → Goes Taken Given stage (answered Draws v)
    drawn v called vals waits taken =
        step (step (step (step (step (here (Within LookChecks cs outer refl (This (record {
          called = called;
          has = ap (λ a. word_sum a 4 ∷ before 1 (before 1 (values p))) called
              ∙ ap (λ vs. word_sum (address_of x) 4 ∷ before 1 (before 1 vs)) vals ∙ ap (λ a. a ∷ []) (second_address x room);
          stage_is = waits;
          turn_is = taken;
        }))))))))

    pub given : (v : ℕ) → stage ≡ Outside → Given → Goes Taken Given stage (answered Adds v)
    given v outside gave = step (step (here (Away (returns take give cs outer) (Free gave outside))))

    -- after a look: the loop goes on, or the call returns
    abbrev turned : Bool → ℕ → ℕ → Runner Work
    turned b v t = record {
      left = going (if b then turning else leaving) cs;
      has = record p { call = record (p.call) { values = before 1 (applied Ne v t ∷ before 1 (values p)) } };
    }

    leaves_loop : (v t : ℕ) → Idle Taken Given stage → Goes Taken Given stage (turned false v t)
    leaves_loop v t idle = step (here (Away (returns take give cs outer) idle))

    loops : (v t : ℕ) → IsOn Taken Given x stage Looks p → Goes Taken Given stage (turned true v t)
    loops v t on =
        step (step (step (here (Within LookChecks cs outer refl (This (record {
          called = on.called;
          has = ap (λ a. word_sum a 4 ∷ before 1 (values p)) on.called
              ∙ ap (λ vs. word_sum (address_of x) 4 ∷ before 1 vs) on.has ∙ ap (λ a. a ∷ []) (second_address x room);
          stage_is = on.stage_is;
          turn_is = on.turn_is;
        }))))))

    looks : (v : ℕ) → Goes Taken Given stage (turned (not (applied Ne v (p.call.privates 1) == 0)) v (p.call.privates 1)) → Goes Taken Given stage (answered Looks v)
    looks v w = step (step (step w))

    other_turn : (v t : ℕ) (b : Bool) → (p.call.privates 0 ≡ address_of x → ⊥) → Idle Taken Given stage → Goes Taken Given stage (turned b v t)
    other_turn v t true other idle = step (step (step (here (Within LookChecks cs outer refl (Other other idle)))))
    other_turn v t false other idle = leaves_loop v t idle

    -- in a call with another address
    pub other_answered : (q : Point) (v : ℕ) → (p.call.privates 0 ≡ address_of x → ⊥) → Idle Taken Given stage → Goes Taken Given stage (answered q v)
    other_answered TakeChecks v other idle = here (Within TakeChecksShared cs outer refl (Other other idle))
    other_answered TakeChecksShared v other idle = step (here (Within Draws cs outer refl (Other other idle)))
    other_answered Draws v other idle = step (step (step (step (step (here (Within LookChecks cs outer refl (Other other idle)))))))
    other_answered LookChecks v other idle = here (Within Looks cs outer refl (Other other idle))
    other_answered Looks v other idle = looks v (other_turn v (p.call.privates 1) (not (applied Ne v (p.call.privates 1) == 0)) other idle)
    other_answered GiveChecks v other idle = here (Within GiveChecksShared cs outer refl (Other other idle))
    other_answered GiveChecksShared v other idle = step (here (Within Adds cs outer refl (Other other idle)))
    other_answered Adds v other idle = step (step (here (Away (returns take give cs outer) idle)))

  -- after a look, in the stage that it leads to
  pub looked_on : {Taken Given : Type 0} (stage : Stage) (cs : List (Code ℕ)) → AllOuter take give cs → (p : Processor) (v : ℕ) → IsOn Taken Given x stage Looks p
      → Goes Taken Given (looked v stage) (record { left = going (left_after Looks) cs; has = with_answer (operation_at Looks) v p })
  looked_on {Taken = Taken} {Given = Given} stage cs outer p v on = subst (λ s. Goes Taken Given (looked v s) r) (sym on.stage_is) (by (v == t) refl)
    where
      t : ℕ
      t = p.call.privates 1

      r : Runner Work
      r = record { left = going (left_after Looks) cs; has = with_answer (operation_at Looks) v p }

      by : (b : Bool) → (v == t) ≡ b → Goes Taken Given (if v == t then Inside else Waiting t) r
      by true e =
          subst (λ b. Goes Taken Given (if b then Inside else Waiting t) r) (sym e)
          (looks Taken Given Inside cs outer p v
          (subst (λ b. Goes Taken Given Inside (turned Taken Given Inside cs outer p b v t)) (sym (unequal v t true e))
          (leaves_loop Taken Given Inside cs outer p v t (Holds on.turn_is refl))))
      by false e =
          let waits : IsOn Taken Given x (Waiting t) Looks p = record { called = on.called; has = on.has; stage_is = refl; turn_is = on.turn_is } in
          subst (λ b. Goes Taken Given (if b then Inside else Waiting t) r) (sym e)
          (looks Taken Given (Waiting t) cs outer p v
          (subst (λ b. Goes Taken Given (Waiting t) (turned Taken Given (Waiting t) cs outer p b v t)) (sym (unequal v t false e))
          (loops Taken Given (Waiting t) cs outer p v t waits)))
