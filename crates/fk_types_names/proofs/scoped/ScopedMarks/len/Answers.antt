use Rattle.std.proofs.Common.{length, sym, ap, ◌∙◌}
use Rattle.std.proofs.lemmas.List.{length-map}
use Rattle.fk_types_names.specs.View.{mark_of}
use Rattle.fk_types_names.proofs.scoped.ScopedMarks.len.Goals as goal

pub returns : goal.returns
returns c = sym (length-map c.list.result.now mark_of) ∙ ap length c.list.ensures
