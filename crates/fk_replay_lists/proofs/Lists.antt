-- The lists of programs can be replayed.
use Rattle.std.proofs.Common.{sym, subst}
use Rattle.fk_meaning_forms.specs.Program.{main_of}
use Rattle.fk_layout.specs.Layout.{tables_by}
use Rattle.fk_lockstep_frames.specs.Lists.{HasLocalFrames}
use Rattle.fk_compile.proofs.Trees.{programs_stay_in_trees}
use Rattle.fk_replay.specs.Replay.{IsOrderly}
use Rattle.fk_replay_lists.specs.Lists.{ListsCanBeReplayed}
use Rattle.fk_replay_lists.proofs.Safe.{lists_are_safe}

pub lists_can_be_replayed : ListsCanBeReplayed
lists_can_be_replayed program facts laid core main list grouped =
    let nests = grouped.can.nests in
    let begin = list.entry (main_of (tables_by program facts) program) in
    record {
      orderly = subst (IsOrderly core) (sym list.begins)
          (programs_stay_in_trees program facts laid core list.entry list.flat grouped.own (subst (HasLocalFrames core) list.begins nests.local));
      safe = lists_are_safe core main nests.local grouped.can.steady.may;
    }
