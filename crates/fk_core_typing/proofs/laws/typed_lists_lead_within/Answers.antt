use Rattle.fk_core_typing.proofs.LeadingWithin.{typed_lists_lead_within}
use Rattle.fk_core_typing.proofs.laws.typed_lists_lead_within.Goals as goal

pub returns : goal.returns
returns c = typed_lists_lead_within
