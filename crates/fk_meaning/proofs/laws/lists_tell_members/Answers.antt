use Rattle.fk_meaning.proofs.Told as told
use Rattle.fk_meaning.proofs.laws.lists_tell_members.Goals as goal

pub returns : goal.returns
returns c = told.lists_tell_members
