-- Rounds, and whole schedules, as rounds of single operations.
use Rattle.std.proofs.Common.{◌≡◌, ℕ, zero, suc, ◌≤◌, ◌&&◌, true, List, [], ◌∷◌, ◌++◌, Option, None, is_none, refl, sym, ap, ◌∙◌, subst, arith}
use Rattle.std.specs.Prelude.{slice_index}
use Rattle.std.proofs.lemmas.Bool.{and_parts, and_from, ltb-true}
use Rattle.fk_meaning.specs.Processor.{Setting}
use Rattle.fk_meaning.specs.Round.{Step, Runner, State, Fault, Round, Acting, begin_all, asking, all_locals, all_requests, tree_phase, all_fit, joint_at, result, may_act, all_may_act, is_allowed, is_possible}
use Rattle.fk_meaning.specs.Schedule.{Schedule, run}
use Rattle.fk_lockstep_tree.specs.Rounds.{IsSingle}
use Rattle.fk_lockstep_tree.specs.Runs.{AreSingle}
use Rattle.fk_lockstep_tree.proofs.Runs.{AllPossible, run-append, all_are, are_all, fault_none, running}
use Rattle.fk_replay_counts.specs.Counts.{first_of, others_of, firsts, others, earlier, last, earlier_in, last_in, singles, IsSplit, RoundsAreSplit, SchedulesAreSingle}
use Rattle.fk_replay_counts.proofs.Quiet.{gone_on}
use Rattle.fk_replay_counts.proofs.Parts.{first_at, others_at, may_parts, may_both, same_begins, untrue, divided}

-- single counts
first_single : (c : ℕ) → first_of c ≤ 1
first_single zero = omega arith
first_single (suc zero) = omega arith
first_single (suc (suc c)) = omega arith

fewer_others : (c n : ℕ) → c ≤ suc (suc n) → others_of c ≤ suc n
fewer_others zero n le = omega arith
fewer_others (suc zero) n le = omega arith
fewer_others (suc (suc c)) n le = omega arith

pub firsts_single : (round : Round) → IsSingle (firsts round)
firsts_single round h = subst (λ (c : ℕ). c ≤ 1) (sym (first_at round h)) (first_single (slice_index round h))

pub earlier_single : (n : ℕ) (round : Round) → AreSingle (earlier n round)
earlier_single zero round = tt
earlier_single (suc n) round = (firsts_single round, earlier_single n (others round))

last_single : (n : ℕ) (round : Round) → ((h : ℕ) → slice_index round h ≤ suc n) → IsSingle (last n round)
last_single zero round few = few
last_single (suc n) round few =
    last_single n (others round)
    (λ h. subst (λ (c : ℕ). c ≤ suc n) (sym (others_at round h)) (fewer_others (slice_index round h) n (few h)))

single_append : (xs ys : Schedule) → AreSingle xs → AreSingle ys → AreSingle (xs ++ ys)
single_append [] ys a b = b
single_append (round ∷ xs) ys a b = (a.0, single_append xs ys a.1 b)

module _ {W : Type 0} (next : W → Option (Step W)) (set : Setting) where
  few_one : (c : ℕ) (r : Runner W) → may_act next set c r ≡ true → c ≤ 255
  few_one zero r e = omega arith
  few_one (suc c) r e = let m = may_parts next set c r e in let lt = ltb-true c 255 m.few in omega arith

  few : (round : Round) (rs : List (Runner W)) → all_may_act next set round rs ≡ true → (h : ℕ) → slice_index round h ≤ 255
  few [] rs e h = omega arith
  few (c ∷ round) [] e h = untrue next set e
  few (c ∷ round) (r ∷ rs) e zero = let m = may_both next set c r round rs e in few_one c r m.one
  few (c ∷ round) (r ∷ rs) e (suc h) = let m = may_both next set c r round rs e in few round rs m.more h

  pub possible_append : (xs ys : Schedule) (s : State W) → AllPossible next set xs s → AllPossible next set ys (run next set xs s) → AllPossible next set (xs ++ ys) s
  possible_append [] ys s a b = b
  possible_append (round ∷ xs) ys s a b = (a.0, possible_append xs ys (result next set round s) a.1 b)

  -- a state that differs in its runners alone
  abbrev pub with_runners : State W → List (Runner W) → State W
  with_runners s rs = record { store = s.store; tree = s.tree; runners = rs; fault = s.fault }

  -- after so many first operations
  pub record Earlier (n : ℕ) (round : Round) (s : State W) : Type 0 where
    pub runners : List (Runner W)
    pub possible : AllPossible next set (earlier n round) s
    pub after : run next set (earlier n round) s ≡ with_runners s runners
    pub allowed : is_allowed next set (last n round) (with_runners s runners) ≡ true
    pub begins : begin_all next set (last n round) runners ≡ begin_all next set round s.runners

  pub all_earlier : (n : ℕ) (round : Round) (s : State W) → s.fault ≡ None → is_allowed next set round s ≡ true → Earlier n round s
  all_earlier zero round s none e = record { runners = s.runners; possible = tt; after = refl; allowed = e; begins = refl }
  all_earlier (suc n) round s none e =
      let d = divided next set round s none e in
      let q = gone_on next set (firsts round) s in
      let more = all_earlier n (others round) q refl d.allowed in
      record {
        runners = more.runners;
        possible = (d.possible, subst (AllPossible next set (earlier n (others round))) (sym d.after) more.possible);
        after = ap (run next set (earlier n (others round))) d.after ∙ more.after ∙ ap (λ (f : Option Fault). record { store = s.store; tree = s.tree; runners = more.runners; fault = f }) (sym none);
        allowed = more.allowed;
        begins = more.begins ∙ same_begins next set round s.runners;
      }

  -- the result of a round is told by what the processors begin
  pub same_result : (round round' : Round) (s : State W) (rs : List (Runner W)) → begin_all next set round' rs ≡ begin_all next set round s.runners
      → result next set round' (with_runners s rs) ≡ result next set round s
  same_result round round' s rs e =
      ap (λ (actings : List (Acting W)). let p = all_requests 0 (all_locals next set actings) s.store in tree_phase s.tree p.store p.acting p.fault) e

  pub is_split : (round : Round) (s : State W) → s.fault ≡ None → is_allowed next set round s ≡ true → IsSplit next set round s
  is_split round s none e =
      let x = all_earlier 254 round s none e in
      let both = and_parts (all_may_act next set round s.runners) (all_fit round (joint_at (begin_all next set round s.runners)) s.tree 0 round) e in
      let at = subst (λ (u : State W). is_allowed next set (last 254 round) u ≡ true) (sym x.after) x.allowed in
      record {
        possible = all_are next set (earlier_in round) s x.possible;
        single = earlier_single 254 round;
        keeps = x.after ∙ sym (ap (λ (u : State W). with_runners s u.runners) x.after);
        last_single = last_single 254 round (few round s.runners both.0);
        allowed = at;
        asks = ap (λ (u : State W). asking next set (last_in round) u.runners) x.after ∙ ap (all_locals next set) x.begins;
        same = ap (result next set (last_in round)) x.after ∙ same_result round (last_in round) s x.runners x.begins;
      }

  pub allowed_of : (round : Round) (s : State W) → is_possible next set round s ≡ true → is_allowed next set round s ≡ true
  allowed_of round s e =
      (and_parts (is_none s.fault) (is_allowed next set round s)
      (and_parts (is_none s.fault && is_allowed next set round s) (is_none (result next set round s).fault) e).0).1

  -- a possible round, as rounds of single operations
  pub record AsSingles (round : Round) (s : State W) : Type 0 where
    pub earlier : AllPossible next set (earlier_in round) s
    pub last : is_possible next set (last_in round) (run next set (earlier_in round) s) ≡ true
    pub same : result next set (last_in round) (run next set (earlier_in round) s) ≡ result next set round s

  pub as_singles : (round : Round) (s : State W) → is_possible next set round s ≡ true → AsSingles round s
  as_singles round s e =
      let none = running next set round s e in
      let x = is_split round s none (allowed_of round s e) in
      let u = run next set (earlier_in round) s in
      let going : u.fault ≡ None = ap (λ (v : State W). v.fault) x.keeps ∙ none in
      let ends : (result next set (last_in round) u).fault ≡ None = ap (λ (v : State W). v.fault) x.same ∙ fault_none next set round s e in
      record {
        earlier = are_all next set (earlier_in round) s x.possible going;
        last = and_from (is_none u.fault && is_allowed next set (last_in round) u) (is_none (result next set (last_in round) u).fault)
            (and_from (is_none u.fault) (is_allowed next set (last_in round) u) (ap is_none going) x.allowed) (ap is_none ends);
        same = x.same;
      }

  pub singles_single : (schedule : Schedule) (s : State W) → AllPossible next set schedule s → AreSingle (singles schedule)
  singles_single [] s all = tt
  singles_single (round ∷ schedule) s all =
      let x = is_split round s (running next set round s all.0) (allowed_of round s all.0) in
      single_append (earlier_in round) (last_in round ∷ singles schedule) x.single
      (x.last_single, singles_single schedule (result next set round s) all.1)

  pub singles_same : (schedule : Schedule) (s : State W) → AllPossible next set schedule s → run next set (singles schedule) s ≡ run next set schedule s
  singles_same [] s all = refl
  singles_same (round ∷ schedule) s all =
      let x = as_singles round s all.0 in
      run-append next set (earlier_in round) (last_in round ∷ singles schedule) s
      ∙ ap (run next set (singles schedule)) x.same ∙ singles_same schedule (result next set round s) all.1

  pub singles_possible : (schedule : Schedule) (s : State W) → AllPossible next set schedule s → AllPossible next set (singles schedule) s
  singles_possible [] s all = tt
  singles_possible (round ∷ schedule) s all =
      let x = as_singles round s all.0 in
      possible_append (earlier_in round) (last_in round ∷ singles schedule) s x.earlier
      (x.last, subst (AllPossible next set (singles schedule)) (sym x.same) (singles_possible schedule (result next set round s) all.1))

pub rounds_are_split : (W : Type 0) → RoundsAreSplit W
rounds_are_split W next set round s none e = is_split next set round s none e

pub schedules_are_single : (W : Type 0) → SchedulesAreSingle W
schedules_are_single W next set schedule s possible none =
    let all = are_all next set schedule s possible none in
    record {
      possible = all_are next set (singles schedule) s (singles_possible next set schedule s all);
      single = singles_single next set schedule s all;
      same = singles_same next set schedule s all;
    }
