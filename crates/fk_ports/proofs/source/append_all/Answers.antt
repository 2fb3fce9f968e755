use Rattle.std.proofs.Common.{◌≡◌, ◌+◌, ◌-◌, ◌≤◌, ◌++◌, length, take, drop, length-take, refl, ap, arith, ◌∙◌}
use Rattle.std.proofs.lemmas.Grind.{common_steps}
use Rattle.std.proofs.lemmas.List.{take-append-le}
use Rattle.std.proofs.lemmas.Result.{err_from_is_err_and}
use Rattle.fk_ports.proofs.Taken.{ended, enough_moved, front_kept, more_moved, none_moved, some_moved}
use Rattle.fk_ports.proofs.source.append_all.Goals as goal

-- the piece that was taken last is lost
pub returns-in_err-extend_from_slice-clause-refused : goal.returns-in_err-extend_from_slice-clause-refused
returns-in_err-extend_from_slice-clause-refused g c =
    let p = err_from_is_err_and c.from_residual-in_err-extend_from_slice.result c.from_residual-in_err-extend_from_slice.ensures.1 in
    let piece = take c.in_ok-count.count c.take.new.into in
    let still = c.loop-missing.missing - c.in_ok-count.count in
    let count : length piece + still ≡ c.loop-missing.missing = grind (arith, common_steps, length-take c.in_ok-count.count c.take.new.into) in
    let before = g.S.Source.left c.args.source.now in
    let now = g.S.Source.left c.take.new.self in
    let old = c.args.into.now.items in
    let all = c.loop-missing.into.items ++ piece in
    rw p.1 (some_moved c.args.most still before now old all
    (more_moved c.args.most c.loop-missing.missing still before (g.S.Source.left c.loop-missing.source) now old c.loop-missing.into.items all piece
    c.loop-missing.invariant.0 c.in_ok-count.ensures.moved refl count))

pub loop-missing-init : goal.loop-missing-init
loop-missing-init g c = (none_moved c.args.most (g.S.Source.left c.args.source.now) c.args.into.now.items, refl)

pub loop-missing-preserved : goal.loop-missing-preserved
loop-missing-preserved g c =
    let piece = take c.in_ok-count.count c.take.new.into in
    let still = c.loop-missing.missing - c.in_ok-count.count in
    let count : length piece + still ≡ c.loop-missing.missing = grind (arith, common_steps, length-take c.in_ok-count.count c.take.new.into) in
    let room : c.in_ok-count.count ≤ length c.take.new.into = c.in_ok-count.ensures.room in
    let same : take c.in_ok-count.count (c.take.new.into ++ drop c.min-room.result c.loop-missing.piece) ≡ piece = rw take-append-le in
    let pushed : c.extend_from_slice.new.self.items ≡ c.loop-missing.into.items ++ piece = c.in_ok-extend_from_slice.ensures.items ∙ ap (λ l. c.loop-missing.into.items ++ l) same in (
      more_moved c.args.most c.loop-missing.missing still (g.S.Source.left c.args.source.now) (g.S.Source.left c.loop-missing.source) (g.S.Source.left c.take.new.self)
          c.args.into.now.items c.loop-missing.into.items c.extend_from_slice.new.self.items piece c.loop-missing.invariant.0 c.in_ok-count.ensures.moved pushed count,
      c.in_ok-count.ensures.steady ∙ c.loop-missing.invariant.1,
    )

pub returns-in_err-count-clause-refused : goal.returns-in_err-count-clause-refused
returns-in_err-count-clause-refused g c =
    let p = err_from_is_err_and c.from_residual.result c.from_residual.ensures.1 in
    rw (p.1, c.in_err-count.ensures.refused) (some_moved c.args.most c.loop-missing.missing (g.S.Source.left c.args.source.now) (g.S.Source.left c.loop-missing.source)
    c.args.into.now.items c.loop-missing.into.items c.loop-missing.invariant.0)

pub returns-in_err-count-clause-front : goal.returns-in_err-count-clause-front
returns-in_err-count-clause-front g c =
    front_kept c.args.most c.loop-missing.missing (g.S.Source.left c.args.source.now) (g.S.Source.left c.loop-missing.source) c.args.into.now.items c.loop-missing.into.items c.loop-missing.invariant.0

pub returns-in_err-count-clause-fault : goal.returns-in_err-count-clause-fault
returns-in_err-count-clause-fault g c = λ _. rw c.loop-missing.invariant.1 at c.in_err-count.ensures.fault

pub returns-then-count-eq0-clause-moved : goal.returns-then-count-eq0-clause-moved
returns-then-count-eq0-clause-moved g c =
    ended c.args.most c.loop-missing.missing c.in_ok-count.count (g.S.Source.left c.args.source.now) (g.S.Source.left c.loop-missing.source) (g.S.Source.left c.take.new.self)
    c.args.into.now.items c.loop-missing.into.items c.take.new.into c.loop-missing.invariant.0 c.in_ok-count.ensures.moved c.in_ok-count.ensures.end c.if-count-eq0.true

pub returns-then-count-eq0-clause-front : goal.returns-then-count-eq0-clause-front
returns-then-count-eq0-clause-front g c =
    front_kept c.args.most c.loop-missing.missing (g.S.Source.left c.args.source.now) (g.S.Source.left c.loop-missing.source) c.args.into.now.items c.loop-missing.into.items c.loop-missing.invariant.0

pub returns-then-count-eq0-clause-steady : goal.returns-then-count-eq0-clause-steady
returns-then-count-eq0-clause-steady g c = c.in_ok-count.ensures.steady ∙ c.loop-missing.invariant.1

pub returns-clause-moved : goal.returns-clause-moved
returns-clause-moved g c =
    enough_moved c.args.most c.loop-missing.missing (g.S.Source.left c.args.source.now) (g.S.Source.left c.loop-missing.source) c.args.into.now.items c.loop-missing.into.items
    c.loop-missing.invariant.0 (omega arith)

pub returns-clause-front : goal.returns-clause-front
returns-clause-front g c =
    front_kept c.args.most c.loop-missing.missing (g.S.Source.left c.args.source.now) (g.S.Source.left c.loop-missing.source) c.args.into.now.items c.loop-missing.into.items c.loop-missing.invariant.0

pub returns-clause-steady : goal.returns-clause-steady
returns-clause-steady g c = c.loop-missing.invariant.1
