use Rattle.fk_compile.proofs.ListLaws.{grouped_lists_are_generable}
use Rattle.fk_compile.proofs.laws.grouped_lists_are_generable.Goals as goal

pub returns : goal.returns
returns c = grouped_lists_are_generable
