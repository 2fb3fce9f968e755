use Rattle.std.proofs.Common.{IsTrue, ◌≡◌, ◌<◌, ◌^◌, inr, length, map, arith, rules}
use Rattle.fk_replay_text.specs.ColumnView.{column_of}
use Rattle.fk_replay_text.specs.LineView.{told_of}
use Rattle.fk_replay_text.specs.Trace.{Follows}
use Rattle.fk_replay_text.specs.View.{moment_of}
use Rattle.fk_replay_text.proofs.Bodies.{end_is_no_line, ends_too_early, lacks_next, no_such_line, out_of_order}
use Rattle.fk_replay_text.proofs.Progress.{finished, goes_on, no_next, too_many}
use Rattle.fk_replay_text.proofs.reading.read_body.Goals as goal

pub returns-then-cycles-place-clause-fault : goal.returns-then-cycles-place-clause-fault
returns-then-cycles-place-clause-fault c =
    let few : c.args.harts < 2 ^ 32 = omega (arith, c.requires) in
    let l = c.loop-line in
    let end = c.in-Some-read_end.ensures in
    inr (no_next c.args.harts c.args.text.now l.rest.now (map moment_of l.moments.items) l.place.cycle l.place.rank l.number few l.invariant
    (no_such_line c.args.harts l.place.cycle l.place.rank l.rest.now c.in-Some.line.now c.in-Some.behind.now c.in-Some.ensures
    (λ t is follows. end_is_no_line c.in-Some.line.now c.in-Some-read_end.cycles end.line t)
    (ends_too_early l.place.cycle c.in-Some.line.now c.in-Some-read_end.cycles end.word end.line c.if-cycles-place.true)))

pub returns-then-not-is_empty-clause-fault : goal.returns-then-not-is_empty-clause-fault
returns-then-not-is_empty-clause-fault c =
    let few : c.args.harts < 2 ^ 32 = omega (arith, c.requires) in
    let l = c.loop-line in
    let end = c.in-Some-read_end.ensures in
    let some : 0 < length c.in-Some.behind.now = first_of (omega arith, grind arith) in
    inr (too_many c.args.harts c.args.text.now l.rest.now c.in-Some.line.now c.in-Some.behind.now (map moment_of l.moments.items) l.place.cycle l.place.rank l.number c.in-Some-read_end.cycles
    few end.word l.invariant c.in-Some.ensures some end.line c.if-cycles-place.false)

pub returns-in-Some-read_end-clause-trace : goal.returns-in-Some-read_end-clause-trace
returns-in-Some-read_end-clause-trace c =
    let l = c.loop-line in
    let end = c.in-Some-read_end.ensures in
    let none : length c.in-Some.behind.now ≡ 0 = first_of (omega arith, grind arith) in
    record {
      lines = l.invariant.told;
      body = finished c.args.harts c.args.text.now l.rest.now c.in-Some.line.now c.in-Some.behind.now (map moment_of l.moments.items) l.place.cycle l.place.rank l.number c.in-Some-read_end.cycles
          end.word l.invariant c.in-Some.ensures none end.line c.if-cycles-place.false;
      moments = l.invariant.moments_are;
    }

pub returns-in_default-2-clause-fault : goal.returns-in_default-2-clause-fault
returns-in_default-2-clause-fault c =
    let few : c.args.harts < 2 ^ 32 = omega (arith, c.requires) in
    let l = c.loop-line in
    let none = rw c.in_default-2.is at c.in_ok-told.ensures in
    inr (no_next c.args.harts c.args.text.now l.rest.now (map moment_of l.moments.items) l.place.cycle l.place.rank l.number few l.invariant
    (no_such_line c.args.harts l.place.cycle l.place.rank l.rest.now c.in-Some.line.now c.in-Some.behind.now c.in-Some.ensures
    (λ t is follows. none t is) (λ last small le. c.in_default-read_end.ensures.line last small)))

pub returns-then-not-is_before-clause-fault : goal.returns-then-not-is_before-clause-fault
returns-then-not-is_before-clause-fault c =
    let few : c.args.harts < 2 ^ 32 = omega (arith, c.requires) in
    let l = c.loop-line in
    let told = rw c.in-Some-2.is at c.in_ok-told.ensures in
    inr (no_next c.args.harts c.args.text.now l.rest.now (map moment_of l.moments.items) l.place.cycle l.place.rank l.number few l.invariant
    (no_such_line c.args.harts l.place.cycle l.place.rank l.rest.now c.in-Some.line.now c.in-Some.behind.now c.in-Some.ensures
    (out_of_order c.args.harts l.place.cycle l.place.rank c.in-Some.line.now (told_of c.in-Some-2.told) told.0 told.1 (λ follows. let yes = c.is_before.ensures.1 follows in let other = c.if-not-is_before.true in first_of (cc, grind arith, search rules)))
    (λ last small le. c.in_default-read_end.ensures.line last small)))

pub loop-line-preserved : goal.loop-line-preserved
loop-line-preserved c =
    let l = c.loop-line in
    let told = rw c.in-Some-2.is at c.in_ok-told.ensures in
    let yes : IsTrue c.is_before.result = first_of (search (rules, c.if-not-is_before.false), grind (arith, c.if-not-is_before.false), search rules) in
    let follows : Follows l.place.cycle l.place.rank (column_of c.in-Some-2.told.column) c.in-Some-2.told.cycle = c.is_before.ensures.0 yes in
    rw (c.of-place.ensures.cycle, c.of-place.ensures.rank, c.in_ok-keep.ensures)
    (goes_on c.args.harts c.args.text.now l.rest.now c.in-Some.line.now c.in-Some.behind.now (map moment_of l.moments.items) l.place.cycle l.place.rank l.number (told_of c.in-Some-2.told)
    l.invariant c.in-Some.ensures told.1 told.0 follows)

pub returns-clause-fault : goal.returns-clause-fault
returns-clause-fault c =
    let few : c.args.harts < 2 ^ 32 = omega (arith, c.requires) in
    let l = c.loop-line in
    inr (no_next c.args.harts c.args.text.now l.rest.now (map moment_of l.moments.items) l.place.cycle l.place.rank l.number few l.invariant
    (lacks_next c.args.harts l.place.cycle l.place.rank l.rest.now few c.in_default.ensures))
