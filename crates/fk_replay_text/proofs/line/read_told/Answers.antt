use Rattle.std.proofs.Common.{ap, subst, sym, ◌∙◌, arith}
use Rattle.fk_trace.specs.declared.column.Column.{Column}
use Rattle.fk_replay_text.specs.ColumnView.{column_of}
use Rattle.fk_replay_text.specs.Trace.{AreRanges}
use Rattle.fk_replay_text.proofs.Ranges.{text_of}
use Rattle.fk_replay_text.proofs.Told.{line_head, line_is, stops_told}
use Rattle.fk_replay_text.proofs.line.read_told.Goals as goal

pub returns-in_default : goal.returns-in_default
returns-in_default c = λ t is e. c.in_default.ensures t.column t.cycle (text_of t.column t.ranges) is.word (stops_told c.args.harts t is) (line_is c.args.line.now t e)

pub returns-then-head-eq0 : goal.returns-then-head-eq0
returns-then-head-eq0 c = λ t is e.
    let h = c.in-Some.ensures in
    let same = line_head c.args.harts t c.args.line.now (column_of c.in-Some.head.column) c.in-Some.head.cycle c.in-Some.head.ranges.now h.word h.ends is h.spells e in
    let cycle = same.cycle in
    let begun = is.begun in
    omega (arith, c.if-head-eq0.true)

pub returns-in_default-2 : goal.returns-in_default-2
returns-in_default-2 c = λ t is e.
    let h = c.in-Some.ensures in
    let same = line_head c.args.harts t c.args.line.now (column_of c.in-Some.head.column) c.in-Some.head.cycle c.in-Some.head.ranges.now h.word h.ends is h.spells e in
    let none = rw c.in_default-2.is at c.in_ok-ranges.ensures in
    none t.ranges (subst (λ (k : Column). AreRanges k c.args.harts t.ranges) (sym same.column) is.ranges) (same.rest ∙ ap (λ (k : Column). text_of k t.ranges) (sym same.column))
