-- What is known past the mark, without scopes that end there and are left already.
use Rattle.std.proofs.Common.{◌≡◌, ◌+◌}
use Rattle.std.specs.Prelude.{vec_len}
use Rattle.fk_types_names.specs.Visible.{depth}
use Rattle.fk_types_names.specs.Reading.{marks_of, Knows}
use Rattle.fk_types_names.proofs.ReadingLemmas.{Past, Reached}
use Rattle.fk_types_names.proofs.reader.Reader.leave.Given as goal

abbrev pub invariant-loop-local : goal.invariant-loop-local
invariant-loop-local l = record {
  marks : l.self.marks.now ≡ l.fn.self.marks.now;
  level : l.depth ≡ depth (marks_of l.self) (l.at + 1);
  known : Knows l.self (Past (marks_of l.self) l.at) (Reached (marks_of l.self) l.at);
}

abbrev pub decreases-loop-local : goal.decreases-loop-local
decreases-loop-local l = vec_len l.self.locals
