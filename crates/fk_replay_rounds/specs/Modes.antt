-- How the members of a node act, by its kind.
use Rattle.std.specs.Prelude.{true, Option, Some}
use Rattle.fk_tree.specs.declared.node.Kind.{Kind}
use Rattle.fk_tree.specs.declared.node.Kind.TheVariants.{Lockstep, Asynchronous}
use Rattle.fk_replay_rounds.specs.declared.mode.Mode.{Mode}
use Rattle.fk_replay_rounds.specs.declared.mode.Mode.TheVariants.{Group, Apart, Alone}

abbrev pub mode_of : Option Kind → Mode
mode_of (Some Lockstep) = Group
mode_of (Some (Asynchronous true)) = Alone
mode_of kind = Apart
