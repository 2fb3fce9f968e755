use Rattle.std.proofs.Common.{sym, ◌∙◌, arith}
use Rattle.fk_meaning_forms.specs.Tables.{no_slot}
use Rattle.fk_meaning_forms.proofs.Lookups.{nth-get_or}
use Rattle.fk_layout_walk.proofs.known.ProgramTables.slot.Goals as goal

pub returns-in-Some : goal.returns-in-Some
returns-in-Some c = c.in-Some.ensures.lookup.3.1 no_slot ∙ sym (nth-get_or no_slot c.args.self.now.slots.now c.args.binding)

pub returns-in-None : goal.returns-in-None
returns-in-None c = c.in-None.ensures.lookup.4 (omega arith) no_slot ∙ sym (nth-get_or no_slot c.args.self.now.slots.now c.args.binding)
