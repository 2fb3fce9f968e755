-- Runs of programs that use a lock fairly.
use Rattle.std.proofs.Common.{◌≡◌, ◌+◌, ◌<◌, ◌≤◌, ℕ, zero, suc, true, List, [], Option, Some, None, inl, inr, arith, ap, ◌∙◌, refl, sym, subst}
use Rattle.std.specs.Prelude.{fold, slice_get, slice_index, take}
use Rattle.std.proofs.lemmas.Bool.{cases_lt}
use Rattle.fk_syntax.specs.Program.{ProgramTree}
use Rattle.fk_meaning_forms.specs.Code.{Code, perform}
use Rattle.fk_meaning_forms.specs.Tables.{Tables}
use Rattle.fk_meaning_forms.specs.Program.{binding_of, bodies_of, main_of}
use Rattle.fk_meaning.specs.Left.{settled}
use Rattle.fk_meaning.specs.Processor.{Setting, setting_of}
use Rattle.fk_meaning.specs.Program.{main_work, next_in, program_opening}
use Rattle.fk_meaning.specs.Round.{Step, Runner, State, Round, Acting, result}
use Rattle.fk_meaning.specs.Schedule.{Schedule, ArePossible, first_processor, run}
use Rattle.fk_meaning.specs.Next.{Work}
use Rattle.fk_core_flat.specs.Fitting.{ProgramFits}
use Rattle.fk_tickets.specs.Lock.{Lock, after, opening}
use Rattle.fk_locks_runs.specs.Locks.{Excludes, asked, events, history}
use Rattle.fk_locks_runs.proofs.Rounds.{runs_exclude}
use Rattle.fk_locks_calls.specs.Code.{HasLock, code_of_take, code_of_give}
use Rattle.fk_locks_calls.specs.Calls.{AsksAt, BeginsAt, Calls, IsServedAt, ProgramsExclude, UsesCallsFairly}
use Rattle.fk_locks_calls.proofs.Outer.{HasBodies, OuterWork, goes}
use Rattle.fk_locks_calls.proofs.Points.{Away, Free, now}
use Rattle.fk_locks_calls.proofs.Bodies as b
use Rattle.fk_locks_calls.proofs.Events.{is_fair}
use Rattle.fk_locks_calls.proofs.Touching.{Alone}
use Rattle.fk_locks_calls.proofs.Kept.{CallsTo, Turns}
use Rattle.fk_locks_calls.proofs.Round.{Standing, fair, of_lock, stands_then}
use Rattle.fk_locks_calls.proofs.Histories.{GoesOn, begins_at, fair_by, goes_on, history_more, run_more, used_by}

-- the two codes differ by their first sites
abbrev first_site : Code ℕ → ℕ
first_site (perform n op rest) = n
first_site code = 0

same_some : {A : Type 0} (s u : A) → Some s ≡ Some u → s ≡ u
same_some s u e = cc

module _ (tables : Tables) (program : ProgramTree) (lock : HasLock tables program) (fits : ProgramFits tables program)
    (schedule : Schedule) (words firsts input : List ℕ) (processors x : ℕ) (few : processors ≤ 1024)
    (possible : ArePossible (next_in tables program) (setting_of processors words input) schedule (program_opening tables program words firsts input processors))
    (uses : UsesCallsFairly tables program lock (setting_of processors words input) schedule (program_opening tables program words firsts input processors) x) where
  abbrev nexts : Work → Option (Step Work)
  nexts = next_in tables program

  abbrev set : Setting
  set = setting_of processors words input

  abbrev first : State Work
  first = program_opening tables program words firsts input processors

  abbrev bodies : ℕ → Code ℕ
  bodies = bodies_of tables program

  abbrev take_it : ℕ
  take_it = b.take tables program lock fits

  abbrev give_it : ℕ
  give_it = b.give tables program lock fits

  has : HasBodies take_it give_it bodies
  has = b.has_bodies tables program lock fits

  abbrev state : ℕ → State Work
  state t = run nexts set (take t schedule) first

  abbrev lock_at : ℕ → Lock
  lock_at t = fold after opening (history nexts set x (take t schedule) first)

  abbrev Takes : ℕ → ℕ → Type 0
  Takes t h = BeginsAt tables program lock set schedule first lock.takes x t h

  abbrev Gives : ℕ → ℕ → Type 0
  Gives t h = BeginsAt tables program lock set schedule first lock.gives x t h

  -- before round t the last call of processor h that has begun is a take, or it isn't
  abbrev Taken : ℕ → ℕ → Type 0
  Taken t h = (u : ℕ) × (u < t) × Takes u h × ((v : ℕ) → u < v → v < t → ¬ Gives v h)

  abbrev Given : ℕ → ℕ → Type 0
  Given t h = (u : ℕ) → u < t → Takes u h → (v : ℕ) × (u < v) × (v < t) × Gives v h

  take_body : settled (bodies (binding_of tables lock.takes)) ≡ code_of_take
  take_body = ap settled has.takes

  give_body : settled (bodies (binding_of tables lock.gives)) ≡ code_of_give
  give_body = ap settled has.gives

  -- ---- one round

  module _ (t : ℕ) (round : Round) (at : slice_get schedule t ≡ Some round) where
    abbrev actings : List (Acting Work)
    actings = asked nexts set round (state t)

    module _ (h : ℕ) (a : Acting Work) (here : slice_get actings h ≡ Some a) where
      asks_it : AsksAt tables program lock set schedule first t h a
      asks_it = record { round = round; is_round = at; is_its = here }

      alone_at : Alone x a
      alone_at touched =
          let of = uses.alone t h a asks_it touched in
          let t_size = b.take_size tables program lock fits in
          let g_size = b.give_size tables program lock fits in
          let within = of.within in
          (of.step, of.due, omega (arith, within, t_size, g_size), of.called)

      -- who asks in this round asks for this
      its : (c : Acting Work) → AsksAt tables program lock set schedule first t h c → c ≡ a
      its c asks_c =
          let same_round : asks_c.round ≡ round = same_some asks_c.round round (sym asks_c.is_round ∙ at) in
          let there : slice_get actings h ≡ Some c = ap (λ k. slice_get (asked nexts set k (state t)) h) (sym same_round) ∙ asks_c.is_its in
          same_some c a (sym there ∙ here)

      calls_take : Calls tables program lock lock.takes x a → CallsTo x code_of_take a
      calls_take c = record { step = c.step; due = c.due; enters = c.enters; given_it = c.given; goes_there = c.goes ∙ take_body }

      calls_give : Calls tables program lock lock.gives x a → CallsTo x code_of_give a
      calls_give c = record { step = c.step; due = c.due; enters = c.enters; given_it = c.given; goes_there = c.goes ∙ give_body }

      is_take : Takes t h → CallsTo x code_of_take a
      is_take g = calls_take (subst (Calls tables program lock lock.takes x) (its g.0 g.1) g.2)

      is_give : Gives t h → CallsTo x code_of_give a
      is_give g = calls_give (subst (Calls tables program lock lock.gives x) (its g.0 g.1) g.2)

      not_both : CallsTo x code_of_take a → CallsTo x code_of_give a → ⊥
      not_both c d =
          let same : c.step ≡ d.step = same_some c.step d.step (sym c.due ∙ d.due) in
          let codes : code_of_take ≡ code_of_give = sym c.goes_there ∙ ap (λ (k : Step Work). (k.rest true).left) same ∙ d.goes_there in
          let bad : 0 ≡ 18 = ap first_site codes in
          omega (arith, bad)

      module _ (no_fault : (result nexts set round (state t)).fault ≡ None) where
        is_served : IsServedAt tables program lock set schedule first t h
        is_served fault e =
            let more = ap (λ (s : State Work). s.fault) (run_more nexts set schedule first t round at) in
            let bad : None ≡ Some fault = sym no_fault ∙ sym more ∙ e in
            absurd (cc)

        takes_here : CallsTo x code_of_take a → Takes t h
        takes_here c = (a, asks_it, record { step = c.step; due = c.due; enters = c.enters; given = c.given_it; goes = c.goes_there ∙ sym take_body }, is_served)

        gives_here : CallsTo x code_of_give a → Gives t h
        gives_here c = (a, asks_it, record { step = c.step; due = c.due; enters = c.enters; given = c.given_it; goes = c.goes_there ∙ sym give_body }, is_served)

        still_taken : (CallsTo x code_of_give a → ⊥) → Taken t h → Taken (suc t) h
        still_taken differs (u, lt, begins, none) = (
          u,
          omega (arith, lt),
          begins,
          λ v low high g.
              elim (cases_lt v t) [
                | inl lower ↦ none v low lower g
                | inr upper ↦
                    let same : v ≡ t = omega (arith, upper, high) in
                    differs (is_give (subst (λ k. Gives k h) same g))
              ],
        )

        still_given : (CallsTo x code_of_take a → ⊥) → Given t h → Given (suc t) h
        still_given differs given u lt g =
            elim (cases_lt u t) [
              | inl lower ↦
                  let r = given u lower g in
                  let v_low = r.2 in
                  (r.0, r.1, omega (arith, v_low), r.3)
              | inr upper ↦
                  let same : u ≡ t = omega (arith, upper, lt) in
                  absurd (differs (is_take (subst (λ k. Takes k h) same g)))
            ]

        given_now : CallsTo x code_of_give a → Given (suc t) h
        given_now c u lt g =
            elim (cases_lt u t) [
              | inl lower ↦ (t, lower, omega arith, gives_here c)
              | inr upper ↦
                  let same : u ≡ t = omega (arith, upper, lt) in
                  absurd (not_both (is_take (subst (λ k. Takes k h) same g)) c)
            ]

        turns_at : Turns x (Taken t h) (Given t h) (Taken (suc t) h) (Given (suc t) h) a
        turns_at = record {
          both = λ taken given. let g = given taken.0 taken.1 taken.2 in taken.3 g.0 g.1 g.2 g.3;
          quiet = λ no_take no_give. (still_taken no_give, still_given no_take);
          takes = λ c. (
            λ u lt g. uses.take u t h lt g (takes_here c),
            (t, omega arith, takes_here c, λ v low high. absurd (omega (arith, low, high))),
          );
          gives = λ c. (uses.give t h (gives_here c), given_now c);
        }

  -- ---- where all processors stand before a round

  abbrev Stood : ℕ → Type 0
  Stood t = Standing take_it give_it bodies has set x uses.room processors (Taken t) (Given t) (lock_at t) (state t)

  begins : Stood 0
  begins = record {
    words = uses.first;
    runners = λ h r at.
        let f = begins_at set (slice_index firsts) (main_work tables program) 0 processors h r at in
        let low = f.low in
        let here : 0 + h ≡ h = omega arith in
        let is = f.is_first ∙ ap (λ k. record { left = main_work tables program; has = first_processor set (slice_index firsts) k }) here in
        record {
          number = ap (λ (u : Runner Work). u.has.number) is;
          low = omega (arith, low);
          runs = now take_it give_it bodies has set x
              (Away (subst (OuterWork take_it give_it) (sym (ap (λ (u : Runner Work). u.left) is))
              (goes take_it give_it (bodies (main_of tables program)) [] (has.others (main_of tables program) lock.main_is_not_take lock.main_is_not_give) tt))
              (Free (λ u lt g. absurd (omega (arith, lt))) refl));
        };
  }

  stands : (t : ℕ) → ((i : ℕ) → i < t → GoesOn nexts set schedule first i) → Stood t
  stands zero on = begins
  stands (suc t) on =
      let g = on t (omega arith) in
      let before = stands t (λ i lt. on i (omega (arith, lt))) in
      let then_ = stands_then take_it give_it bodies has set x uses.room processors g.round (state t) (lock_at t) (Taken t) (Given t) before
      (λ h a at. alone_at t g.round g.is_round h a at) g.no_fault (Taken (suc t)) (Given (suc t))
      (λ h a at. turns_at t g.round g.is_round h a at g.no_fault) in
      subst (λ l. Standing take_it give_it bodies has set x uses.room processors (Taken (suc t)) (Given (suc t)) l (state (suc t))) (sym (history_more nexts set x schedule first opening t g.round g.is_round))
      (subst (λ s. Standing take_it give_it bodies has set x uses.room processors (Taken (suc t)) (Given (suc t)) (fold after (lock_at t) (events x (asked nexts set g.round (state t)))) s)
      (sym (run_more nexts set schedule first t g.round g.is_round)) then_)

  stands_at : (t : ℕ) (round : Round) → slice_get schedule t ≡ Some round → Stood t
  stands_at t round at = stands t (λ i lt. goes_on nexts set schedule first possible t i round at lt)

  pub excludes : Excludes nexts set x schedule first
  excludes =
      runs_exclude Work nexts set processors x schedule first (omega (arith, few)) (record {
        first = uses.first;
        used = used_by nexts set x schedule first
            (λ t round at. of_lock take_it give_it bodies has set x uses.room processors round (state t) (lock_at t) (Taken t) (Given t) (stands_at t round at) (λ h a here. alone_at t round at h a here));
        in_turn = is_fair processors (history nexts set x schedule first)
            (fair_by nexts set x processors schedule first opening
            (λ t round at. fair take_it give_it bodies has set x uses.room processors round (state t) (lock_at t) (Taken t) (Given t) (stands_at t round at) (λ h a here. alone_at t round at h a here)));
      })

pub programs_exclude : ProgramsExclude
programs_exclude tables program lock fits schedule words firsts input processors x few possible uses =
    excludes tables program lock fits schedule words firsts input processors x few possible uses
