-- The words behind those that are left are the words behind all.
use Rattle.std.proofs.Common.{◌≡◌, map, drop}
use Rattle.fk_syntax.specs.ProgramView.{declared_of}
use Rattle.fk_layout_slots.specs.KnownView.{told_by}
use Rattle.fk_layout_slots.specs.Words.{variables_words}
use Rattle.fk_layout_slots.proofs.words.variables_words.Given as goal

abbrev pub invariant-loop-variable : goal.invariant-loop-variable
invariant-loop-variable l = variables_words (told_by l.known) l.behind (map declared_of (drop l.variable-index l.variables)) ≡ variables_words (told_by l.known) l.taken (map declared_of l.variables)
