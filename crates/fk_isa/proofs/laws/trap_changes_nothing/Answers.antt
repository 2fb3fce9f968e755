use Rattle.fk_isa.proofs.Trapped.{same}
use Rattle.fk_isa.proofs.laws.trap_changes_nothing.Goals as goal

pub returns : goal.returns
returns g c i n kind hart after bus left e = same g.B.Bus.tells n i hart bus kind after left e
