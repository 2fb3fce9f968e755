use Rattle.std.proofs.Common.{◌≡◌, ◌≤◌, List, None}
use Rattle.fk_syntax.specs.Program.{ItemTree}
use Rattle.fk_meaning_forms.specs.Tables.{Tables}
use Rattle.fk_layout_globals.specs.declared.layout.GlobalsFault.{GlobalsFault}
use Rattle.fk_layout_globals.specs.declared.layout.GlobalsFault.TheVariants.{TooLarge, Memory}
use Rattle.fk_layout_globals.specs.Fault.{IsFault}
use Rattle.fk_syntax.specs.ProgramView.{program_of}
use Rattle.fk_layout.specs.Frames.{first_large}
use Rattle.fk_layout.specs.Layout.{tables_by}
use Rattle.fk_layout.specs.Refusal.{IsRefusal, count_of_sites, count_of_words, of_globals}
use Rattle.fk_layout.proofs.layout.globals_of.Goals as goal

too_large : (tables : Tables) (items : List ItemTree) (fault : GlobalsFault) → count_of_sites tables items ≤ 16000 → first_large tables items ≡ None
    → IsFault (count_of_words tables items) fault → IsRefusal tables items (of_globals fault)
too_large tables items (TooLarge words) few small is = (few, small, is.0, is.1)
too_large tables items Memory few small is = tt

pub returns-in-Err-clause-refused : goal.returns-in-Err-clause-refused
returns-in-Err-clause-refused c = rw c.of_globals.ensures (too_large (tables_by (program_of c.args.program.now) c.args.facts.now) (program_of c.args.program.now).items c.in-Err.fault c.requires.few c.requires.small (rw (c.deref.ensures.value, c.deref-2.ensures.value, c.deref-3.ensures.value) at c.in-Err.ensures.refused))
