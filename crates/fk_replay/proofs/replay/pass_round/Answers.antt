-- A round is done, its processors leave, and it is told who could act.
use Rattle.std.proofs.Common.{◌≡◌, ℕ, suc, ◌+◌, map, true≢false, refl, sym, ◌∙◌, subst, arith}
use Rattle.fk_tree.specs.View.{processors}
use Rattle.fk_replay_text.specs.View.{range_of}
use Rattle.fk_replay_text.specs.Rounds.{round_of}
use Rattle.fk_replay_run.specs.Told.{HasTold}
use Rattle.fk_replay.specs.Passed.{IsRefused}
use Rattle.fk_replay.proofs.Passing.{run_with, leave_to, is_passed, is_too_late, is_refused, is_done, behind_steady, behind_knows, passes_on}
use Rattle.fk_replay.proofs.replay.pass_round.Goals as goal

pub returns-in_err-fault-clause-refused : goal.returns-in_err-fault-clause-refused
returns-in_err-fault-clause-refused c =
    passes_on (IsRefused c.args.ops.now (round_of (processors c.args.run.now.tree) (map range_of c.args.acts.now)) c.args.round c.args.is_last c.args.run.now) c.from_residual.result c.in_err-fault.field-0.0 c.from_residual.ensures.1
    (is_refused c.args.ops.now (round_of (processors c.args.run.now.tree) (map range_of c.args.acts.now)) c.args.round c.args.is_last c.args.run.now c.in_err-fault.field-0.0 c.in_err-fault.ensures.refused)

pub returns-in_err-on_time-clause-refused : goal.returns-in_err-on_time-clause-refused
returns-in_err-on_time-clause-refused c =
    passes_on (IsRefused c.args.ops.now (round_of (processors c.args.run.now.tree) (map range_of c.args.acts.now)) c.args.round c.args.is_last c.args.run.now) c.from_residual-in_err-on_time.result c.in_err-on_time.field-0.0 c.from_residual-in_err-on_time.ensures.1
    (is_too_late c.args.ops.now (round_of (processors c.args.run.now.tree) (map range_of c.args.acts.now)) c.args.round c.args.is_last c.args.run.now c.do_round.new.run c.in_ok-fault.fault c.leave.new.pace c.in_err-on_time.field-0.0 c.in_ok-fault.ensures.taken (leave_to c.do_round.new.run c.leave.new.pace c.deref.result.now c.deref.ensures.value c.leave.ensures.leaves) c.in_err-on_time.ensures.late)

pub tell-requires-clause-run : goal.tell-requires-clause-run
tell-requires-clause-run c = let done = is_done c.args.ops.now (round_of (processors c.args.run.now.tree) (map range_of c.args.acts.now)) c.args.round c.args.is_last c.args.run.now c.do_round.new.run c.in_ok-fault.fault c.in_ok-fault.ensures.taken c.if-not-is_last.true in run_with c.do_round.new.run c.leave.new.pace done.run

pub tell-requires-clause-steady : goal.tell-requires-clause-steady
tell-requires-clause-steady c = behind_steady c.args.ops.now (round_of (processors c.args.run.now.tree) (map range_of c.args.acts.now)) c.args.round c.args.is_last c.args.run.now c.do_round.new.run c.requires.behind (is_done c.args.ops.now (round_of (processors c.args.run.now.tree) (map range_of c.args.acts.now)) c.args.round c.args.is_last c.args.run.now c.do_round.new.run c.in_ok-fault.fault c.in_ok-fault.ensures.taken c.if-not-is_last.true)

pub tell-requires-clause-knows : goal.tell-requires-clause-knows
tell-requires-clause-knows c =
    behind_knows c.args.ops.now (round_of (processors c.args.run.now.tree) (map range_of c.args.acts.now)) c.args.round c.args.is_last c.args.run.now c.do_round.new.run c.leave.new.pace (is_done c.args.ops.now (round_of (processors c.args.run.now.tree) (map range_of c.args.acts.now)) c.args.round c.args.is_last c.args.run.now c.do_round.new.run c.in_ok-fault.fault c.in_ok-fault.ensures.taken c.if-not-is_last.true) (leave_to c.do_round.new.run c.leave.new.pace c.deref.result.now c.deref.ensures.value c.leave.ensures.leaves) c.leave.ensures.many c.requires.steady c.requires.behind c.requires.knows

pub returns-then-not-is_last-clause-passed : goal.returns-then-not-is_last-clause-passed
returns-then-not-is_last-clause-passed c =
    let next : c.args.round + 1 ≡ suc c.args.round = omega arith in
    is_passed c.args.ops.now (round_of (processors c.args.run.now.tree) (map range_of c.args.acts.now)) c.args.round c.args.is_last c.args.run.now c.do_round.new.run c.in_ok-fault.fault c.leave.new.pace c.tell.new.self c.in_ok-fault.ensures.taken (leave_to c.do_round.new.run c.leave.new.pace c.deref.result.now c.deref.ensures.value c.leave.ensures.leaves) c.in_ok-on_time.ensures.on_time
    (λ other. subst (λ (n : ℕ). HasTold c.args.ops.now n (record (c.do_round.new.run) { pace = c.leave.new.pace }) c.tell.new.self) next c.tell.ensures)
    (λ last. absurd (true≢false (sym last ∙ c.if-not-is_last.true)))

pub returns-else-not-is_last-clause-passed : goal.returns-else-not-is_last-clause-passed
returns-else-not-is_last-clause-passed c =
    is_passed c.args.ops.now (round_of (processors c.args.run.now.tree) (map range_of c.args.acts.now)) c.args.round c.args.is_last c.args.run.now c.do_round.new.run c.in_ok-fault.fault c.leave.new.pace (record (c.do_round.new.run) { pace = c.leave.new.pace }) c.in_ok-fault.ensures.taken (leave_to c.do_round.new.run c.leave.new.pace c.deref.result.now c.deref.ensures.value c.leave.ensures.leaves) c.in_ok-on_time.ensures.on_time
    (λ other. absurd (true≢false (sym c.if-not-is_last.false ∙ other)))
    (λ last. refl)
