use Rattle.std.proofs.Common.{sym, ◌∙◌, arith}
use Rattle.fk_meaning_forms.specs.Tables.{no_note}
use Rattle.fk_meaning_forms.proofs.Lookups.{nth-get_or}
use Rattle.fk_meaning_forms.proofs.facts.note_of.Goals as goal

pub returns-in-Some : goal.returns-in-Some
returns-in-Some c = c.in-Some.ensures.lookup.3.1 no_note ∙ sym (nth-get_or no_note c.args.notes.now c.args.at)

pub returns-in-None : goal.returns-in-None
returns-in-None c = c.in-None.ensures.lookup.4 (omega arith) no_note ∙ sym (nth-get_or no_note c.args.notes.now c.args.at)
