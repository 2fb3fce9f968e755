use Rattle.std.proofs.Common.{◌∙◌, ap}
use Rattle.fk_lower_text.specs.Noting.{noted}
use Rattle.fk_lower_text.proofs.noting.NotingVisitor.meet.Goals as goal

pub returns : goal.returns
returns c = c.write.ensures ∙ ap (noted c.args.self.now) c.told.ensures
