-- Who is known to be able once a round has been done and its processors have left.
use Rattle.std.proofs.Common.{◌≡◌, ℕ, zero, suc, ◌+◌, ◌<◌, Bool, true, false, ◌&&◌, ◌||◌, List, [], ◌∷◌, length, is_some, ap, refl, sym, ◌∙◌, subst, arith}
use Rattle.std.specs.Prelude.{◌==◌, nat_lt, slice_index}
use Rattle.fk_tree.specs.Tree.{is_member}
use Rattle.fk_tree.specs.Sound.{is_below_all, is_ascending}
use Rattle.fk_meaning_state.specs.View.{setting_of}
use Rattle.fk_meaning.specs.Round.{State, Round, result}
use Rattle.fk_core.specs.declared.op.CoreOp.{CoreOp}
use Rattle.fk_core.specs.Next.{Position, next, landing}
use Rattle.fk_replay_counts.specs.Steady.{IsSteadyInTree}
use Rattle.fk_replay_able.specs.Known as known
use Rattle.fk_replay_able.specs.Known.{KnowsAble, AreForgotten}
use Rattle.fk_replay_able.proofs.Counted.{rounds_know_able}
use Rattle.fk_replay_schedules.specs.Paced.{Leaves}
use Rattle.fk_replay_steps.specs.Pace.{Absences, since}
use Rattle.fk_replay_phases.specs.Present.{present, numbers_of}
use Rattle.fk_replay_arrivals.specs.Arrived.{is_known, arrived_in}
use Rattle.fk_replay_run.specs.declared.run.Run.{Run}
use Rattle.fk_replay_run.specs.Steady.{IsSteady}
use Rattle.fk_replay_run.specs.Runs.{state_of}
use Rattle.fk_replay_take.specs.Taken.{IsDone}
use Rattle.fk_replay_run.specs.Told.{KnowsAbout}

-- ---- the numbers of those who are in a round

both : (a b : Bool) → a ≡ true → b ≡ true → a && b ≡ true
both true b e f = f
both false b e f = absurd (let bad : false ≡ true = e in cc)

all_above : (h first : ℕ) (round : Round) → h < first → is_below_all h (present first round) ≡ true
all_above h first [] lt = refl
all_above h first (zero ∷ round) lt = all_above h (suc first) round (omega arith)
all_above h first (suc c ∷ round) lt =
    both (nat_lt h first) (is_below_all h (present (suc first) round)) (let e : nat_lt h first ≡ true = grind arith in e) (all_above h (suc first) round (omega arith))

ascending : (first : ℕ) (round : Round) → is_ascending (present first round) ≡ true
ascending first [] = refl
ascending first (zero ∷ round) = ascending (suc first) round
ascending first (suc c ∷ round) =
    both (is_below_all first (present (suc first) round)) (is_ascending (present (suc first) round)) (all_above first (suc first) round (omega arith)) (ascending (suc first) round)

self : (m : ℕ) (ms : List ℕ) → is_member m (m ∷ ms) ≡ true
self m ms = grind arith

later : (h m : ℕ) (ms : List ℕ) → is_member h ms ≡ true → is_member h (m ∷ ms) ≡ true
later h m ms is = by (h == m)
  where
    by : (b : Bool) → b || is_member h ms ≡ true
    by true = refl
    by false = is

member_of : (first k : ℕ) (round : Round) → 0 < slice_index round k → is_member (first + k) (present first round) ≡ true
member_of first zero [] some = absurd (omega (arith, some))
member_of first (suc k) [] some = absurd (omega (arith, some))
member_of first zero (zero ∷ round) some = absurd (omega (arith, some))
member_of first (suc k) (zero ∷ round) some =
    ap (λ (h : ℕ). is_member h (present (suc first) round)) (let e : first + suc k ≡ suc first + k = omega arith in e) ∙ member_of (suc first) k round some
member_of first zero (suc c ∷ round) some =
    ap (λ (h : ℕ). is_member h (first ∷ present (suc first) round)) (let e : first + 0 ≡ first = omega arith in e) ∙ self first (present (suc first) round)
member_of first (suc k) (suc c ∷ round) some =
    ap (λ (h : ℕ). is_member h (first ∷ present (suc first) round)) (let e : first + suc k ≡ suc first + k = omega arith in e)
    ∙ later (suc first + k) first (present (suc first) round) (member_of (suc first) k round some)

-- a number of the list stands in the round
record IsThere (first h : ℕ) (round : Round) : Type 0 where
  k : ℕ
  is : h ≡ first + k
  some : 0 < slice_index round k

one_up : (first h : ℕ) (c : ℕ) (round : Round) → IsThere (suc first) h round → IsThere first h (c ∷ round)
one_up first h c round x = let e : suc first + x.k ≡ first + suc x.k = omega arith in record { k = suc x.k; is = x.is ∙ e; some = x.some }

there_of : (first h : ℕ) (round : Round) → is_member h (present first round) ≡ true → IsThere first h round
there_of first h [] e = absurd (let bad : false ≡ true = e in cc)
there_of first h (zero ∷ round) e = one_up first h 0 round (there_of (suc first) h round e)
there_of first h (suc c ∷ round) e = by_test (h == first) refl (λ is. one_up first h (suc c) round (there_of (suc first) h round is))
  where
    by_test : (b : Bool) → (h == first) ≡ b → (is_member h (present (suc first) round) ≡ true → IsThere first h (suc c ∷ round)) → IsThere first h (suc c ∷ round)
    by_test true f more = let same : h ≡ first = grind arith in record { k = 0; is = omega (arith, same); some = omega arith }
    by_test false f more = more (sym (ap (λ (b : Bool). b || is_member h (present (suc first) round)) f) ∙ e)

in_round : (round : Round) → known.AreInRound round (present 0 round)
in_round round = record {
  ascending = ascending 0 round;
  there = λ h is. let x = there_of 0 h round is in let e : x.k ≡ h = let z = x.is in omega (arith, z) in subst (λ (k : ℕ). 0 < slice_index round k) e x.some;
  back = λ h some. ap (λ (k : ℕ). is_member k (present 0 round)) (let e : h ≡ 0 + h = omega arith in e) ∙ member_of 0 h round some;
}

-- ---- a round that is done

module _ (core : List CoreOp) (round : Round) (old mid : Run) (left : Absences) (done : IsDone core round old mid) where
  forgotten : Leaves round (since old.pace) (since left)
      → AreForgotten (next core) (setting_of old.setting) round (state_of old) (is_known old.pace) (is_known left) (arrived_in old.arrived.items) (arrived_in mid.arrived.items)
  forgotten leaves = record {
    absent = λ h none. ap is_some (leaves.kept h (λ within. absurd (omega (arith, none, within))));
    present = λ h some. ap is_some (leaves.gone h some);
    forgotten = done.arrived.done;
    kept = done.arrived.kept;
  }

  steady_in : IsSteady core (setting_of old.setting) (state_of old) → IsSteadyInTree (next core) (λ (w : Position). landing core w.at) (setting_of old.setting) (state_of old)
  steady_in steady = record { stands = steady.stands; known = steady.known; together = steady.together }

  -- those who were in the round are still to come
  pub knows_about : IsSteady core (setting_of old.setting) (state_of old) → IsSteady core (setting_of old.setting) (result (next core) (setting_of old.setting) round (state_of old))
      → KnowsAbout core old [] → Leaves round (since old.pace) (since left) → length left ≡ length old.pace → KnowsAbout core (record mid { pace = left }) (numbers_of mid.acting.items)
  knows_about steady behind knows leaves many = record {
    pace = many ∙ knows.pace ∙ sym done.tree;
    arrived = done.arrived.many ∙ knows.arrived ∙ sym done.tree;
    able =
        subst (λ (ns : List ℕ). KnowsAble (next core) (state_of mid) ns (is_known left) (arrived_in mid.arrived.items)) (sym done.numbers)
        (subst (λ (s : State Position). KnowsAble (next core) s (present 0 round) (is_known left) (arrived_in mid.arrived.items)) (sym done.state)
        (rounds_know_able Position ℕ (next core) (λ (w : Position). landing core w.at) (setting_of old.setting) round (state_of old) (present 0 round)
        (is_known old.pace) (is_known left) (arrived_in old.arrived.items) (arrived_in mid.arrived.items)
        (steady_in steady) behind.stands done.possible knows.able (forgotten leaves) (in_round round)));
  }
