-- Moment after moment is passed.
use Rattle.std.proofs.Common.{◌≡◌, ℕ, ◌+◌, ◌-◌, ◌<◌, ◌≤◌, ◌==◌, ◌≢◌, ◌^◌, true≢false, eq-eqb, false, List, length, map, get_or, Some, None, refl, sym, ap, ◌∙◌, subst, arith}
use Rattle.fk_tree.specs.View.{processors}
use Rattle.fk_meaning_state.specs.View.{setting_of}
use Rattle.fk_replay_text.specs.View.{range_of}
use Rattle.fk_replay_text.specs.Rounds.{round_of}
use Rattle.fk_replay_text.specs.declared.trace.Acts.{Acts}
use Rattle.fk_replay_run.specs.Runs.{state_of}
use Rattle.fk_replay_take.specs.Ranges.{AreRanges}
use Rattle.fk_replay.specs.Passed.{HasPassed, IsRefused, IsSteadyBehind}
use Rattle.fk_replay.specs.Followed.{HasDone, IsUnlawful}
use Rattle.fk_replay.specs.Replay.{schedule_in}
use Rattle.fk_replay.proofs.Passing.{passes_on}
use Rattle.fk_replay.proofs.Traces.{IsFollowing, is_later, is_within, before_done, before_late, are_ranges, has_numbers, knows_about, is_steady_behind, round_after, round_ends, round_fails, all_done, rest_late}
use Rattle.fk_replay.proofs.replay.follow.Goals as goal

-- a cycle that isn't the last one
below : (cycle last : ℕ) → (cycle == last) ≡ false → cycle ≤ last → last < 2 ^ 32 → cycle + 1 < 2 ^ 32
below cycle last other most few = let ne : cycle ≢ last = λ e. true≢false (sym (eq-eqb cycle last e) ∙ other) in omega (arith, ne, most, few)

pub overflow_sub-moment : goal.overflow_sub-moment
overflow_sub-moment c =
    let low : c.loop-moment.moment-index < length c.args.trace.now.moments.items = rw c.deref-moment-items.ensures.value at c.loop-moment-test.true in
    let is : c.moment-item.result ≡ get_or c.args.trace.now.moments.items c.loop-moment.moment-index c.moment-item.result = rw c.deref-moment-items.ensures.value at c.moment-item.is in
    let later : c.loop-moment.behind < c.moment-item.result.cycle = is_later c.args.ops.now (setting_of c.args.run.now.setting) (state_of c.args.run.now) c.args.trace.now.harts c.args.trace.now.cycles c.args.trace.now.moments.items (c.requires.first.run.setting ∙ c.requires.harts) c.requires.steady c.loop-moment.moment-index c.loop-moment.behind c.loop-moment.run c.moment-item.result low is c.loop-moment.invariant in
    omega arith

pub returns-in_err-pass_empty-clause-unlawful : goal.returns-in_err-pass_empty-clause-unlawful
returns-in_err-pass_empty-clause-unlawful c =
    let low : c.loop-moment.moment-index < length c.args.trace.now.moments.items = rw c.deref-moment-items.ensures.value at c.loop-moment-test.true in
    let is : c.moment-item.result ≡ get_or c.args.trace.now.moments.items c.loop-moment.moment-index c.moment-item.result = rw c.deref-moment-items.ensures.value at c.moment-item.is in
    passes_on (IsUnlawful c.args.ops.now (setting_of c.args.run.now.setting) (schedule_in c.args.trace.now) (state_of c.args.run.now)) c.from_residual.result c.in_err-pass_empty.field-0.0 c.from_residual.ensures.1
    (before_late c.args.ops.now (setting_of c.args.run.now.setting) (state_of c.args.run.now) c.args.trace.now.harts c.args.trace.now.cycles c.args.trace.now.moments.items (c.requires.first.run.setting ∙ c.requires.harts) c.requires.steady c.loop-moment.moment-index c.loop-moment.behind c.loop-moment.run c.moment-item.result low is c.loop-moment.invariant c.in_err-pass_empty.field-0.0 c.in_err-pass_empty.ensures.late)

pub pass_round-requires-clause-ranges : goal.pass_round-requires-clause-ranges
pass_round-requires-clause-ranges c =
    let low : c.loop-moment.moment-index < length c.args.trace.now.moments.items = rw c.deref-moment-items.ensures.value at c.loop-moment-test.true in
    let is : c.moment-item.result ≡ get_or c.args.trace.now.moments.items c.loop-moment.moment-index c.moment-item.result = rw c.deref-moment-items.ensures.value at c.moment-item.is in
    subst (λ (acts : List Acts). AreRanges (processors c.loop-moment.run.tree) (map range_of acts)) (sym c.deref.ensures)
    (are_ranges c.args.ops.now (setting_of c.args.run.now.setting) (state_of c.args.run.now) c.args.trace.now.harts c.args.trace.now.cycles c.args.trace.now.moments.items (c.requires.first.run.setting ∙ c.requires.harts) c.requires.steady c.loop-moment.moment-index c.loop-moment.behind c.loop-moment.run c.moment-item.result low is c.loop-moment.invariant)

pub pass_round-requires-clause-behind : goal.pass_round-requires-clause-behind
pass_round-requires-clause-behind c =
    let low : c.loop-moment.moment-index < length c.args.trace.now.moments.items = rw c.deref-moment-items.ensures.value at c.loop-moment-test.true in
    let is : c.moment-item.result ≡ get_or c.args.trace.now.moments.items c.loop-moment.moment-index c.moment-item.result = rw c.deref-moment-items.ensures.value at c.moment-item.is in
    let before : HasDone c.args.ops.now (setting_of c.args.run.now.setting) (schedule_in c.args.trace.now) (state_of c.args.run.now) (c.moment-item.result.cycle - 1) c.loop-moment.run =
    before_done c.args.ops.now (setting_of c.args.run.now.setting) (state_of c.args.run.now) c.args.trace.now.harts c.args.trace.now.cycles c.args.trace.now.moments.items (c.requires.first.run.setting ∙ c.requires.harts) c.requires.steady c.loop-moment.moment-index c.loop-moment.behind c.loop-moment.run c.moment-item.result low is c.loop-moment.invariant c.in_ok-pass_empty.ensures.on_time in
    subst (λ (acts : List Acts). IsSteadyBehind c.args.ops.now (round_of (processors c.loop-moment.run.tree) (map range_of acts)) c.loop-moment.run) (sym c.deref.ensures)
    (is_steady_behind c.args.ops.now (setting_of c.args.run.now.setting) (state_of c.args.run.now) c.args.trace.now.harts c.args.trace.now.cycles c.args.trace.now.moments.items (c.requires.first.run.setting ∙ c.requires.harts) c.requires.steady c.loop-moment.moment-index c.loop-moment.behind c.loop-moment.run c.moment-item.result low is c.loop-moment.invariant before)

pub pass_round-requires-clause-given : goal.pass_round-requires-clause-given
pass_round-requires-clause-given c =
    let low : c.loop-moment.moment-index < length c.args.trace.now.moments.items = rw c.deref-moment-items.ensures.value at c.loop-moment-test.true in
    let is : c.moment-item.result ≡ get_or c.args.trace.now.moments.items c.loop-moment.moment-index c.moment-item.result = rw c.deref-moment-items.ensures.value at c.moment-item.is in
    let before : HasDone c.args.ops.now (setting_of c.args.run.now.setting) (schedule_in c.args.trace.now) (state_of c.args.run.now) (c.moment-item.result.cycle - 1) c.loop-moment.run =
    before_done c.args.ops.now (setting_of c.args.run.now.setting) (state_of c.args.run.now) c.args.trace.now.harts c.args.trace.now.cycles c.args.trace.now.moments.items (c.requires.first.run.setting ∙ c.requires.harts) c.requires.steady c.loop-moment.moment-index c.loop-moment.behind c.loop-moment.run c.moment-item.result low is c.loop-moment.invariant c.in_ok-pass_empty.ensures.on_time in
    has_numbers c.args.ops.now (setting_of c.args.run.now.setting) (state_of c.args.run.now) c.args.trace.now.harts c.args.trace.now.cycles c.args.trace.now.moments.items (c.requires.first.run.setting ∙ c.requires.harts) c.requires.steady c.loop-moment.moment-index c.loop-moment.behind c.loop-moment.run c.moment-item.result low is c.loop-moment.invariant before (omega arith)

pub pass_round-requires-clause-knows : goal.pass_round-requires-clause-knows
pass_round-requires-clause-knows c =
    let low : c.loop-moment.moment-index < length c.args.trace.now.moments.items = rw c.deref-moment-items.ensures.value at c.loop-moment-test.true in
    let is : c.moment-item.result ≡ get_or c.args.trace.now.moments.items c.loop-moment.moment-index c.moment-item.result = rw c.deref-moment-items.ensures.value at c.moment-item.is in
    let before : HasDone c.args.ops.now (setting_of c.args.run.now.setting) (schedule_in c.args.trace.now) (state_of c.args.run.now) (c.moment-item.result.cycle - 1) c.loop-moment.run =
    before_done c.args.ops.now (setting_of c.args.run.now.setting) (state_of c.args.run.now) c.args.trace.now.harts c.args.trace.now.cycles c.args.trace.now.moments.items (c.requires.first.run.setting ∙ c.requires.harts) c.requires.steady c.loop-moment.moment-index c.loop-moment.behind c.loop-moment.run c.moment-item.result low is c.loop-moment.invariant c.in_ok-pass_empty.ensures.on_time in
    knows_about c.args.ops.now (setting_of c.args.run.now.setting) (state_of c.args.run.now) c.args.trace.now.harts c.args.trace.now.cycles c.args.trace.now.moments.items (c.requires.first.run.setting ∙ c.requires.harts) c.requires.steady c.loop-moment.moment-index c.loop-moment.behind c.loop-moment.run c.moment-item.result low is c.loop-moment.invariant before

pub pass_round-requires-clause-round : goal.pass_round-requires-clause-round
pass_round-requires-clause-round c =
    let low : c.loop-moment.moment-index < length c.args.trace.now.moments.items = rw c.deref-moment-items.ensures.value at c.loop-moment-test.true in
    let is : c.moment-item.result ≡ get_or c.args.trace.now.moments.items c.loop-moment.moment-index c.moment-item.result = rw c.deref-moment-items.ensures.value at c.moment-item.is in
    let most : c.moment-item.result.cycle ≤ c.args.trace.now.cycles = is_within c.args.ops.now (setting_of c.args.run.now.setting) (state_of c.args.run.now) c.args.trace.now.harts c.args.trace.now.cycles c.args.trace.now.moments.items (c.requires.first.run.setting ∙ c.requires.harts) c.requires.steady c.loop-moment.moment-index c.loop-moment.behind c.loop-moment.run c.moment-item.result low is c.loop-moment.invariant in
    λ other. below c.moment-item.result.cycle c.args.trace.now.cycles other most (omega arith)

pub returns-in_err-fault-clause-unlawful : goal.returns-in_err-fault-clause-unlawful
returns-in_err-fault-clause-unlawful c =
    let low : c.loop-moment.moment-index < length c.args.trace.now.moments.items = rw c.deref-moment-items.ensures.value at c.loop-moment-test.true in
    let is : c.moment-item.result ≡ get_or c.args.trace.now.moments.items c.loop-moment.moment-index c.moment-item.result = rw c.deref-moment-items.ensures.value at c.moment-item.is in
    let before : HasDone c.args.ops.now (setting_of c.args.run.now.setting) (schedule_in c.args.trace.now) (state_of c.args.run.now) (c.moment-item.result.cycle - 1) c.loop-moment.run =
    before_done c.args.ops.now (setting_of c.args.run.now.setting) (state_of c.args.run.now) c.args.trace.now.harts c.args.trace.now.cycles c.args.trace.now.moments.items (c.requires.first.run.setting ∙ c.requires.harts) c.requires.steady c.loop-moment.moment-index c.loop-moment.behind c.loop-moment.run c.moment-item.result low is c.loop-moment.invariant c.in_ok-pass_empty.ensures.on_time in
    passes_on (IsUnlawful c.args.ops.now (setting_of c.args.run.now.setting) (schedule_in c.args.trace.now) (state_of c.args.run.now)) c.from_residual-in_err-fault.result c.in_err-fault.field-0.0 c.from_residual-in_err-fault.ensures.1
    (round_fails c.args.ops.now (setting_of c.args.run.now.setting) (state_of c.args.run.now) c.args.trace.now.harts c.args.trace.now.cycles c.args.trace.now.moments.items (c.requires.first.run.setting ∙ c.requires.harts) c.requires.steady c.loop-moment.moment-index c.loop-moment.behind c.loop-moment.run c.moment-item.result low is c.loop-moment.invariant before (c.moment-item.result.cycle == c.args.trace.now.cycles) c.in_err-fault.field-0.0 refl
    (subst (λ (acts : List Acts). IsRefused c.args.ops.now (round_of (processors c.loop-moment.run.tree) (map range_of acts)) c.moment-item.result.cycle (c.moment-item.result.cycle == c.args.trace.now.cycles) c.loop-moment.run c.in_err-fault.field-0.0) c.deref.ensures c.in_err-fault.ensures.refused))

pub returns-in-Some-clause-followed : goal.returns-in-Some-clause-followed
returns-in-Some-clause-followed c =
    let low : c.loop-moment.moment-index < length c.args.trace.now.moments.items = rw c.deref-moment-items.ensures.value at c.loop-moment-test.true in
    let is : c.moment-item.result ≡ get_or c.args.trace.now.moments.items c.loop-moment.moment-index c.moment-item.result = rw c.deref-moment-items.ensures.value at c.moment-item.is in
    let before : HasDone c.args.ops.now (setting_of c.args.run.now.setting) (schedule_in c.args.trace.now) (state_of c.args.run.now) (c.moment-item.result.cycle - 1) c.loop-moment.run =
    before_done c.args.ops.now (setting_of c.args.run.now.setting) (state_of c.args.run.now) c.args.trace.now.harts c.args.trace.now.cycles c.args.trace.now.moments.items (c.requires.first.run.setting ∙ c.requires.harts) c.requires.steady c.loop-moment.moment-index c.loop-moment.behind c.loop-moment.run c.moment-item.result low is c.loop-moment.invariant c.in_ok-pass_empty.ensures.on_time in
    round_ends c.args.ops.now (setting_of c.args.run.now.setting) (state_of c.args.run.now) c.args.trace.now.harts c.args.trace.now.cycles c.args.trace.now.moments.items (c.requires.first.run.setting ∙ c.requires.harts) c.requires.steady c.loop-moment.moment-index c.loop-moment.behind c.loop-moment.run c.moment-item.result low is c.loop-moment.invariant before (c.moment-item.result.cycle == c.args.trace.now.cycles) c.pass_round.new.run c.in-Some.fault refl
    (subst (λ (acts : List Acts). HasPassed c.args.ops.now (round_of (processors c.loop-moment.run.tree) (map range_of acts)) c.moment-item.result.cycle (c.moment-item.result.cycle == c.args.trace.now.cycles) c.loop-moment.run c.pass_round.new.run (Some c.in-Some.fault)) c.deref.ensures
    (rw c.in-Some.is at c.in_ok-fault.ensures.passed))

pub loop-moment-preserved : goal.loop-moment-preserved
loop-moment-preserved c =
    let low : c.loop-moment.moment-index < length c.args.trace.now.moments.items = rw c.deref-moment-items.ensures.value at c.loop-moment-test.true in
    let is : c.moment-item.result ≡ get_or c.args.trace.now.moments.items c.loop-moment.moment-index c.moment-item.result = rw c.deref-moment-items.ensures.value at c.moment-item.is in
    let before : HasDone c.args.ops.now (setting_of c.args.run.now.setting) (schedule_in c.args.trace.now) (state_of c.args.run.now) (c.moment-item.result.cycle - 1) c.loop-moment.run =
    before_done c.args.ops.now (setting_of c.args.run.now.setting) (state_of c.args.run.now) c.args.trace.now.harts c.args.trace.now.cycles c.args.trace.now.moments.items (c.requires.first.run.setting ∙ c.requires.harts) c.requires.steady c.loop-moment.moment-index c.loop-moment.behind c.loop-moment.run c.moment-item.result low is c.loop-moment.invariant c.in_ok-pass_empty.ensures.on_time in
    round_after c.args.ops.now (setting_of c.args.run.now.setting) (state_of c.args.run.now) c.args.trace.now.harts c.args.trace.now.cycles c.args.trace.now.moments.items (c.requires.first.run.setting ∙ c.requires.harts) c.requires.steady c.loop-moment.moment-index c.loop-moment.behind c.loop-moment.run c.moment-item.result low is c.loop-moment.invariant before (c.moment-item.result.cycle == c.args.trace.now.cycles) c.pass_round.new.run refl
    (subst (λ (acts : List Acts). HasPassed c.args.ops.now (round_of (processors c.loop-moment.run.tree) (map range_of acts)) c.moment-item.result.cycle (c.moment-item.result.cycle == c.args.trace.now.cycles) c.loop-moment.run c.pass_round.new.run None) c.deref.ensures
    (rw c.in_default.is at c.in_ok-fault.ensures.passed))

pub returns-in_err-pass_empty-2-clause-unlawful : goal.returns-in_err-pass_empty-2-clause-unlawful
returns-in_err-pass_empty-2-clause-unlawful c =
    let size : length c.deref-moment-items.result.now ≡ length c.args.trace.now.moments.items = ap length c.deref-moment-items.ensures.value in
    let all : c.loop-moment.moment-index ≡ length c.args.trace.now.moments.items = omega arith in
    let following : IsFollowing c.args.ops.now (setting_of c.args.run.now.setting) (state_of c.args.run.now) c.args.trace.now.harts c.args.trace.now.cycles c.args.trace.now.moments.items (length c.args.trace.now.moments.items) c.loop-moment.behind c.loop-moment.run =
    rw all at c.loop-moment.invariant in
    passes_on (IsUnlawful c.args.ops.now (setting_of c.args.run.now.setting) (schedule_in c.args.trace.now) (state_of c.args.run.now)) c.from_residual-in_err-pass_empty-2.result c.in_err-pass_empty-2.field-0.0 c.from_residual-in_err-pass_empty-2.ensures.1
    (rest_late c.args.ops.now (setting_of c.args.run.now.setting) (state_of c.args.run.now) c.args.trace.now.harts c.args.trace.now.cycles c.args.trace.now.moments.items (c.requires.first.run.setting ∙ c.requires.harts) c.requires.steady c.loop-moment.behind c.loop-moment.run following c.in_err-pass_empty-2.field-0.0 c.in_err-pass_empty-2.ensures.late)

pub returns-in_ok-pass_empty-2-clause-followed : goal.returns-in_ok-pass_empty-2-clause-followed
returns-in_ok-pass_empty-2-clause-followed c =
    let size : length c.deref-moment-items.result.now ≡ length c.args.trace.now.moments.items = ap length c.deref-moment-items.ensures.value in
    let all : c.loop-moment.moment-index ≡ length c.args.trace.now.moments.items = omega arith in
    let following : IsFollowing c.args.ops.now (setting_of c.args.run.now.setting) (state_of c.args.run.now) c.args.trace.now.harts c.args.trace.now.cycles c.args.trace.now.moments.items (length c.args.trace.now.moments.items) c.loop-moment.behind c.loop-moment.run =
    rw all at c.loop-moment.invariant in
    all_done c.args.ops.now (setting_of c.args.run.now.setting) (state_of c.args.run.now) c.args.trace.now.harts c.args.trace.now.cycles c.args.trace.now.moments.items (c.requires.first.run.setting ∙ c.requires.harts) c.requires.steady c.loop-moment.behind c.loop-moment.run following (λ less. c.in_ok-pass_empty-2.ensures.on_time)

pub returns-else-behind-trace-clause-followed : goal.returns-else-behind-trace-clause-followed
returns-else-behind-trace-clause-followed c =
    let size : length c.deref-moment-items.result.now ≡ length c.args.trace.now.moments.items = ap length c.deref-moment-items.ensures.value in
    let all : c.loop-moment.moment-index ≡ length c.args.trace.now.moments.items = omega arith in
    let following : IsFollowing c.args.ops.now (setting_of c.args.run.now.setting) (state_of c.args.run.now) c.args.trace.now.harts c.args.trace.now.cycles c.args.trace.now.moments.items (length c.args.trace.now.moments.items) c.loop-moment.behind c.loop-moment.run =
    rw all at c.loop-moment.invariant in
    all_done c.args.ops.now (setting_of c.args.run.now.setting) (state_of c.args.run.now) c.args.trace.now.harts c.args.trace.now.cycles c.args.trace.now.moments.items (c.requires.first.run.setting ∙ c.requires.harts) c.requires.steady c.loop-moment.behind c.loop-moment.run following (λ less. absurd (omega arith))
