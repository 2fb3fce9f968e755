use Rattle.std.proofs.Common.{sym, ap, ◌∙◌, arith}
use Rattle.fk_syntax.specs.declared.facts.Note.{Note}
use Rattle.fk_meaning_forms.specs.Tables.{no_kind, nth}
use Rattle.fk_meaning_forms.proofs.Lookups.{nth-get_or}
use Rattle.fk_meaning_forms.proofs.facts.kind_of.Goals as goal

pub returns-in-Some : goal.returns-in-Some
returns-in-Some c = c.in-Some.ensures.lookup.3.1 no_kind ∙ sym (nth-get_or no_kind c.args.kinds.now c.note_of.result.kind) ∙ ap (λ (n : Note). nth no_kind c.args.kinds.now n.kind) c.note_of.ensures

pub returns-in-None : goal.returns-in-None
returns-in-None c = c.in-None.ensures.lookup.4 (omega arith) no_kind ∙ sym (nth-get_or no_kind c.args.kinds.now c.note_of.result.kind) ∙ ap (λ (n : Note). nth no_kind c.args.kinds.now n.kind) c.note_of.ensures
