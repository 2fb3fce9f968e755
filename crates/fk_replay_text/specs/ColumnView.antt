-- The columns of the code.
use Rattle.fk_trace.specs.declared.column.Column as trace
use Rattle.fk_trace.specs.declared.column.Column.TheVariants as t
use Rattle.fk_replay_text.specs.declared.column.Column.{Column}
use Rattle.fk_replay_text.specs.declared.column.Column.TheVariants.{Counts, Of}

-- the column of a trace
abbrev pub column_of : Column → trace.Column
column_of Counts = t.Counts
column_of (Of event) = t.Of event
