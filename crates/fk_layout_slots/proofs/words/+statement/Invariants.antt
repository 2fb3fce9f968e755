-- The words behind those that are left are the words behind all.
use Rattle.std.proofs.Common.{◌≡◌, map, drop}
use Rattle.fk_syntax.specs.Program.{statements_of}
use Rattle.fk_syntax.specs.ProgramView.{statement_of}
use Rattle.fk_layout_slots.specs.KnownView.{told_by}
use Rattle.fk_layout_slots.specs.Words as w
use Rattle.fk_layout_slots.proofs.words.+statement.Given as goal

abbrev pub invariant-statements_words-loop-statement : goal.invariant-statements_words-loop-statement
invariant-statements_words-loop-statement l = w.statements_words (told_by l.known) l.behind (statements_of (map statement_of (drop l.statement-index l.statements))) ≡ w.statements_words (told_by l.known) l.taken (statements_of (map statement_of l.statements))
