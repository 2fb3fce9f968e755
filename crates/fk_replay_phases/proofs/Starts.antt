-- A processor begins a round, operation by operation.
use Rattle.std.proofs.Common.{◌≡◌, ◌≢◌, ℕ, zero, suc, ◌+◌, ◌-◌, ◌<◌, ◌≤◌, Bool, true, false, ◌&&◌, List, length, Some, None, ap, refl, sym, ◌∙◌, subst, arith}
use Rattle.std.specs.Prelude.{nat_lt, option_map, is_some}
use Rattle.fk_meaning_operation.specs.Kinds.{class_of}
use Rattle.fk_meaning_operation.specs.declared.kinds.Class.{Class}
use Rattle.fk_meaning_operation.specs.declared.kinds.Class.TheVariants.{Local, Request, Tree}
use Rattle.fk_meaning.specs.Processor.{Setting}
use Rattle.fk_meaning.specs.Round as rounds
use Rattle.fk_meaning.specs.Round.{Step, Acting, taking, may_act, is_local_next, are_local, after_one, after_locals, local_phase}
use Rattle.fk_core.specs.declared.op.CoreOp.{CoreOp}
use Rattle.fk_core.specs.Next.{Position, next}
use Rattle.fk_replay_steps.specs.Steps.{step_at, callers_of, runner_of, position_of}
use Rattle.fk_replay_steps.specs.Served.{CanAsk}
use Rattle.fk_meaning_state.specs.View.{processor_of}
use Rattle.fk_replay_steps.specs.declared.list.Due.{Due}
use Rattle.fk_replay_steps.specs.declared.runner.Runner.{Runner}
use Rattle.fk_replay_phases.specs.Safe.{IsSafeRunner}
use Rattle.fk_replay_phases.specs.Actors.{acting_of, asked, HasBegun, HasDoneOne, HasDoneLocals}
use Rattle.fk_replay_phases.specs.declared.actor.Actor.{Actor}
use Rattle.fk_replay_phases.proofs.Begins.{DoesLocals, does_one, does_none, does_all, does_first, safe_behind, free_asks}

and_true : (a b : Bool) → a && b ≡ true → (a ≡ true) × (b ≡ true)
and_true true b e = (refl, e)
and_true false b e = absurd (let bad : false ≡ true = e in cc)

module _ (core : List CoreOp) (setting : Setting) where
  -- ---- local operations

  pub starts : (count : ℕ) (old : Runner) → IsSafeRunner core setting (runner_of old) → DoesLocals core setting count (count - 0) old old
  starts count old safe = subst (λ (k : ℕ). DoesLocals core setting count k old old) (let e : count ≡ count - 0 = omega arith in e) (does_first core setting count old safe)

  pub goes_on : (count done : ℕ) (old now new : Runner) (did : Bool) → done < count → DoesLocals core setting count (count - done) old now → HasDoneOne core setting now new did → did ≡ true
      → DoesLocals core setting count (count - (done + 1)) old new
  goes_on count done old now new did lt does one is =
      does_one core setting count (count - (done + 1)) old now new
      (subst (λ (k : ℕ). DoesLocals core setting count k old now) (let e : count - done ≡ suc (count - (done + 1)) = omega arith in e) does)
      (subst (HasDoneOne core setting now new) is one)

  pub breaks_off : (count done : ℕ) (old now new : Runner) (did : Bool) → done < count → DoesLocals core setting count (count - done) old now → HasDoneOne core setting now new did → did ≡ false
      → HasDoneLocals core setting count old new false
  breaks_off count done old now new did lt does one is = record {
    whether = sym (does_none core setting count (count - (done + 1)) old now new
        (subst (λ (k : ℕ). DoesLocals core setting count k old now) (let e : count - done ≡ suc (count - (done + 1)) = omega arith in e) does)
        (subst (HasDoneOne core setting now new) is one));
    done = λ e. absurd (let bad : false ≡ true = e in cc);
  }

  pub ends : (count done : ℕ) (old now : Runner) → count ≤ done → DoesLocals core setting count (count - done) old now → HasDoneLocals core setting count old now true
  ends count done old now le does =
      does_all core setting count old now (subst (λ (k : ℕ). DoesLocals core setting count k old now) (let e : count - done ≡ 0 = omega arith in e) does)

  -- ---- the whole beginning

  safe_locals : (count : ℕ) (r : rounds.Runner Position) → are_local (next core) setting count r ≡ true → IsSafeRunner core setting r → IsSafeRunner core setting (after_locals (next core) setting count r)
  safe_locals zero r local safe = safe
  safe_locals (suc c) r local safe =
      let parts = and_true (is_local_next (next core) setting (next core r.left)) (are_local (next core) setting c (after_one (next core) setting r)) local in
      safe_locals c (after_one (next core) setting r) parts.1 (safe_behind core setting r parts.0 safe)

  few_of : (k : ℕ) → k < 255 → nat_lt k 255 ≡ true
  few_of k lt = grind arith

  -- the count is one more than that of the local operations
  with_count : (count k : ℕ) (old new : Actor) (can : Bool) → count ≡ suc k → HasBegun core setting (suc k) old new can → HasBegun core setting count old new can
  with_count count k old new can e has = subst (λ (c : ℕ). HasBegun core setting c old new can) (sym e) has

  -- all but the last of the operations are done
  record Behind (count k : ℕ) (old : Actor) (mid : Runner) : Type 0 where
    one_more : count ≡ suc k
    few : nat_lt k 255 ≡ true
    local : are_local (next core) setting k (runner_of old.runner) ≡ true
    is : runner_of mid ≡ after_locals (next core) setting k (runner_of old.runner)

  behind : (count : ℕ) (old : Actor) (mid : Runner) (did : Bool) → 1 ≤ count → count ≤ 255 → HasDoneLocals core setting (count - 1) old.runner mid did → did ≡ true → Behind count (count - 1) old mid
  behind count old mid did some few has e = record {
    one_more = omega arith;
    few = few_of (count - 1) (omega arith);
    local = sym has.whether ∙ e;
    is = has.done e;
  }

  may_by : (count k : ℕ) (old : Actor) (mid : Runner) → Behind count k old mid → may_act (next core) setting (suc k) (runner_of old.runner) ≡ is_some (next core (runner_of mid).left)
  may_by count k old mid b =
      ap (λ (c : Bool). (c && are_local (next core) setting k (runner_of old.runner)) && is_some (next core (after_locals (next core) setting k (runner_of old.runner)).left)) b.few
      ∙ ap (λ (c : Bool). c && is_some (next core (after_locals (next core) setting k (runner_of old.runner)).left)) b.local
      ∙ ap (λ (q : rounds.Runner Position). is_some (next core q.left)) (sym b.is)

  asked_by : (k : ℕ) (r q : rounds.Runner Position) → q ≡ after_locals (next core) setting k r → asked core setting (suc k) r ≡ local_phase (next core) setting (taking q (next core q.left)) (next core q.left)
  asked_by k r q e = ap (λ x. local_phase (next core) setting (taking x (next core x.left)) (next core x.left)) (sym e)

  pub does_last : (count : ℕ) (old new : Actor) (mid : Runner) (did last : Bool) (due : Due) → 1 ≤ count → count ≤ 255 → HasDoneLocals core setting (count - 1) old.runner mid did → did ≡ true
      → Some (step_at core (callers_of mid) due) ≡ next core (position_of mid) → class_of due.operation ≡ Local → HasDoneOne core setting mid new.runner last → new.taken ≡ None → new.mode ≡ old.mode
      → HasBegun core setting count old new last
  does_last count old new mid did last due some few has e is local one free mode =
      let b = behind count old mid did some few has e in
      let k : ℕ = count - 1 in
      let whether : last ≡ true = one.whether ∙ ap (is_local_next (next core) setting) (sym is) ∙ ap (λ (c : Class). rounds.is_local c) local in
      with_count count k old new last b.one_more (subst (HasBegun core setting (suc k) old new) (sym whether) (record {
        whether = sym (may_by count k old mid b ∙ ap is_some (sym is));
        begun = λ z.
            due_none free ∙ ap (λ (q : rounds.Runner Position). record { due = None; runner = q }) (one.done whether)
            ∙ sym (asked_by k (runner_of old.runner) (runner_of mid) b.is ∙ local_is);
        mode = λ z. mode;
        asks = λ z. free_asks core setting new free;
      }))
    where
      due_none : new.taken ≡ None → acting_of core new ≡ record { due = None; runner = runner_of new.runner }
      due_none f = ap (λ o. record { due = option_map (step_at core (callers_of new.runner)) o; runner = runner_of new.runner }) f

      local_is : local_phase (next core) setting (taking (runner_of mid) (next core (position_of mid))) (next core (position_of mid)) ≡ record { due = None; runner = after_one (next core) setting (runner_of mid) }
      local_is =
          ap (λ o. local_phase (next core) setting (taking (runner_of mid) o) o) (sym is)
          ∙ ap (λ c. rounds.do_local (next core) setting (taking (runner_of mid) (Some (step_at core (callers_of mid) due))) c (step_at core (callers_of mid) due)) local
          ∙ ap (λ (q : rounds.Runner Position). record { due = None; runner = q }) (sym (
          ap (λ o. (local_phase (next core) setting (taking (runner_of mid) o) o).runner) (sym is)
          ∙ ap (λ c. (rounds.do_local (next core) setting (taking (runner_of mid) (Some (step_at core (callers_of mid) due))) c (step_at core (callers_of mid) due)).runner) local))

  pub takes_last : (count : ℕ) (old new : Actor) (mid : Runner) (did : Bool) (due : Due) → 1 ≤ count → count ≤ 255 → HasDoneLocals core setting (count - 1) old.runner mid did → did ≡ true
      → Some (step_at core (callers_of mid) due) ≡ next core (position_of mid) → due.at < length core → class_of due.operation ≢ Local → IsSafeRunner core setting (runner_of old.runner)
      → new ≡ record { runner = mid; mode = old.mode; taken = Some due } → HasBegun core setting count old new true
  takes_last count old new mid did due some few has e is within not_local safe made =
      let b = behind count old mid did some few has e in
      let k : ℕ = count - 1 in
      let mid_safe : IsSafeRunner core setting (runner_of mid) = subst (IsSafeRunner core setting) (sym b.is) (safe_locals k (runner_of old.runner) b.local safe) in
      with_count count k old new true b.one_more (subst (λ (x : Actor). HasBegun core setting (suc k) old x true) (sym made) (record {
        whether = sym (may_by count k old mid b ∙ ap is_some (sym is));
        begun = λ z. ap (λ o. record { due = o; runner = runner_of mid }) is ∙ sym (asked_by k (runner_of old.runner) (runner_of mid) b.is ∙ local_is (class_of due.operation) refl);
        mode = λ z. refl;
        asks = λ z. record {
          due = record {
            within = λ d f. let same : due ≡ d = cc in subst (λ (x : Due). x.at < length core) same within;
            class = λ d f. let same : due ≡ d = cc in subst (λ (x : Due). class_of x.operation ≢ Local) same not_local;
          };
          known = λ d f. let same : due ≡ d = cc in
              subst (λ (x : Due). CanAsk x.operation (processor_of mid.processor)) same
              (mid_safe.asks (step_at core (callers_of mid) due) (record { count = 0; local = refl; due = sym is }));
        };
      }))
    where
      stays : (class : Class) → class ≢ Local → (a : Acting Position) (step : Step Position) → rounds.do_local (next core) setting a class step ≡ a
      stays Local ne a step = absurd (ne refl)
      stays Request ne a step = refl
      stays Tree ne a step = refl

      local_is : (class : Class) → class_of due.operation ≡ class → local_phase (next core) setting (taking (runner_of mid) (next core (position_of mid))) (next core (position_of mid)) ≡ record { due = next core (position_of mid); runner = runner_of mid }
      local_is class f =
          ap (λ o. local_phase (next core) setting (taking (runner_of mid) o) o) (sym is)
          ∙ stays (class_of due.operation) not_local (taking (runner_of mid) (Some (step_at core (callers_of mid) due))) (step_at core (callers_of mid) due)
          ∙ ap (λ o. record { due = o; runner = runner_of mid }) is

  -- a processor is still safe behind its local operations
  pub mid_safe : (count : ℕ) (old mid : Runner) (did : Bool) → HasDoneLocals core setting count old mid did → did ≡ true → IsSafeRunner core setting (runner_of old) → IsSafeRunner core setting (runner_of mid)
  mid_safe count old mid did has e safe =
      subst (IsSafeRunner core setting) (sym (has.done e)) (safe_locals count (runner_of old) (sym has.whether ∙ e) safe)
