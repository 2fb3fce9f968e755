-- The frames so far, and those of what is left, are those before and those of all.
use Rattle.std.proofs.Common.{◌≡◌, ◌+◌, ◌*◌, ◌++◌, map, drop}
use Rattle.std.specs.Prelude.{max}
use Rattle.fk_syntax.specs.Program.{statements_of}
use Rattle.fk_syntax.specs.ProgramView.{statement_of}
use Rattle.fk_layout_slots.specs.KnownView.{told_by}
use Rattle.fk_layout_slots.specs.Frames.{all_frames_in}
use Rattle.fk_layout_slots.proofs.frames.Frames.+statement.Given as goal

abbrev pub invariant-add_statements-loop-statement : goal.invariant-add_statements-loop-statement
invariant-add_statements-loop-statement l = l.into.list.items ++ all_frames_in (told_by l.known) l.level (statements_of (map statement_of (drop l.statement-index l.statements))) ≡ l.fn.into.list.items ++ all_frames_in (told_by l.known) l.level (statements_of (map statement_of l.statements))

-- how deep the deepest statement is; a function that is given a body passes it on
abbrev pub decreases-add_statement : goal.decreases-add_statement
decreases-add_statement l = 4 * goal.size-add_statement l

abbrev pub decreases-add_statements : goal.decreases-add_statements
decreases-add_statements l = 4 * goal.size-add_statements l + 1

abbrev pub decreases-add_framed : goal.decreases-add_framed
decreases-add_framed l = 4 * goal.size-add_framed l + 1

abbrev pub decreases-add_split : goal.decreases-add_split
decreases-add_split l = 4 * goal.size-add_split l + 2

abbrev pub decreases-add_both_framed : goal.decreases-add_both_framed
decreases-add_both_framed l = 4 * max (goal.size-add_both_framed l) (goal.size-add_both_framed (record l { first = l.second })) + 1

abbrev pub decreases-add_both : goal.decreases-add_both
decreases-add_both l = 4 * max (goal.size-add_both l) (goal.size-add_both (record l { first = l.second })) + 2
