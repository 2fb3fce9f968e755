-- Each commit in a block is the event of its operation.
use Rattle.std.proofs.Common.{ℕ, ◌+◌, ◌*◌, List, [], ◌∷◌, ◌++◌, map, Bool, true, false, Option, Some, None, refl}
use Rattle.std.specs.Prelude.{◌==◌, if◌then◌else◌}
use Rattle.std.proofs.lemmas.List.Elements.{All-nil, All-cons, All-append, All-from_recursion}
use Rattle.fk_meaning_operation.specs.declared.operation.Operation.{Operation}
use Rattle.fk_meaning_operation.specs.declared.operation.Operation.TheVariants as o
use Rattle.fk_meaning_operation.specs.declared.operation.SplitKind.{SplitKind}
use Rattle.fk_meaning_operation.specs.declared.operation.SplitKind.TheVariants as split
use Rattle.fk_image.specs.declared.event.Event.{Event}
use Rattle.fk_image.specs.declared.event.Event.TheVariants as events
use Rattle.fk_isa.specs.declared.instruction.Instruction.{Instruction}
use Rattle.fk_isa.specs.declared.instruction.Instruction.TheVariants.{Sw}
use Rattle.fk_gen.specs.declared.placed.Levels.{Levels}
use Rattle.fk_gen.specs.Events.{event_of, IsMarked, AreMarked}
use Rattle.fk_gen.specs.Lines.{quiet, add_number, at_value}
use Rattle.fk_gen.specs.Registers.{t3}
use Rattle.fk_sim_block.specs.Node.{node_register, frames_register}
use Rattle.fk_sim_block.specs.Stands.{end_register}
use Rattle.fk_gen_group.specs.Blocks as group
use Rattle.fk_gen_group.specs.Splits as splits
use Rattle.fk_gen_group.specs.Events.{BlocksAreMarked}

quiet_marked : (event : Option Event) (is : List Instruction) → AreMarked event (map quiet is)
quiet_marked event [] = All-nil (IsMarked event)
quiet_marked event (i ∷ is) = All-cons (IsMarked event) (quiet i) (map quiet is) tt (quiet_marked event is)

barrier_marked : AreMarked (Some events.Meet) group.barrier_block
barrier_marked = All-from_recursion (IsMarked (Some events.Meet)) group.barrier_block (tt, (tt, (tt, (tt, (tt, (tt, (tt, (tt, (tt, (tt, (refl, tt)))))))))))

meet_marked : AreMarked (Some events.Meet) (group.closing_block events.Meet)
meet_marked = All-from_recursion (IsMarked (Some events.Meet)) (group.closing_block events.Meet) (tt, (tt, (tt, (tt, (tt, (tt, (tt, (tt, (tt, (tt, (refl, tt)))))))))))

resume_marked : AreMarked (Some events.Resume) (group.closing_block events.Resume)
resume_marked = All-from_recursion (IsMarked (Some events.Resume)) (group.closing_block events.Resume) (tt, (tt, (tt, (tt, (tt, (tt, (tt, (tt, (tt, (tt, (refl, tt)))))))))))

-- ---- ends of parts

frames_end_marked : (event : Option Event) (count words : ℕ) → AreMarked event (splits.frames_end count words)
frames_end_marked event count words = by (count == 1)
  where
    by : (first : Bool) → AreMarked event (if first then splits.header_frames else splits.frames_sum words)
    by true = All-from_recursion (IsMarked event) splits.header_frames (tt, tt)
    by false =
        All-append (IsMarked event) (map quiet (add_number (32 + 4 * words) node_register)) splits.found_line
        (quiet_marked event (add_number (32 + 4 * words) node_register))
        (All-from_recursion (IsMarked event) splits.found_line (tt, tt))

end_marked : (fork : Option ℕ) (levels : Levels) (target : ℕ) → AreMarked (Some events.End) (splits.end_part_by fork levels target)
end_marked None levels target =
    All-from_recursion (IsMarked (Some events.End)) (splits.outward_lines true (splits.last_level levels) target) (refl, (tt, (tt, (tt, (tt, tt)))))
end_marked (Some words) levels target =
    All-append (IsMarked (Some events.End)) (splits.forked_front (splits.last_level levels)) (splits.frames_end levels.count words ++ splits.away_line target)
    (All-from_recursion (IsMarked (Some events.End)) (splits.forked_front (splits.last_level levels)) (refl, (tt, (tt, (tt, (tt, (tt, tt)))))))
    (All-append (IsMarked (Some events.End)) (splits.frames_end levels.count words) (splits.away_line target)
    (frames_end_marked (Some events.End) levels.count words)
    (All-from_recursion (IsMarked (Some events.End)) (splits.away_line target) (tt, tt)))

-- ---- splits

heading_marked : (event : Option Event) (by : SplitKind) (levels : Levels) → AreMarked event (splits.heading_lines by levels)
heading_marked event split.Fork levels = by (levels.count == 0)
  where
    by : (first : Bool) → AreMarked event (if first then quiet (Sw end_register t3 (at_value 60)) ∷ [] else [])
    by true = All-from_recursion (IsMarked event) (quiet (Sw end_register t3 (at_value 60)) ∷ []) (tt, tt)
    by false = All-nil (IsMarked event)
heading_marked event split.IfAlone levels = All-nil (IsMarked event)
heading_marked event split.IfElse levels = All-nil (IsMarked event)
heading_marked event split.AndThen levels = All-nil (IsMarked event)
heading_marked event split.OrElse levels = All-nil (IsMarked event)
heading_marked event split.Loop levels = All-nil (IsMarked event)

split_marked : (by : SplitKind) (levels : Levels) (depth target site : ℕ) → AreMarked (Some events.Split) (splits.split_block by levels depth target site)
split_marked by levels depth target site =
    let parting = splits.parting_lines (splits.parts_label by) (splits.level_word levels levels.count) target site in
    All-append (IsMarked (Some events.Split)) (map quiet (splits.part_lines by depth)) (splits.behind_part by levels target site)
    (quiet_marked (Some events.Split) (splits.part_lines by depth))
    (All-append (IsMarked (Some events.Split)) parting (splits.heading_lines by levels)
    (All-from_recursion (IsMarked (Some events.Split)) parting (tt, (tt, (tt, (tt, (tt, (refl, tt)))))))
    (heading_marked (Some events.Split) by levels))

-- ---- each operation

block_marked : (operation : Operation) (levels : Levels) (depth target site : ℕ) → AreMarked (event_of operation) (group.block_by (Some operation) levels depth target site)
block_marked o.Begin levels depth target site = All-from_recursion (IsMarked (Some events.Split)) (group.begin_block depth target) (tt, (tt, (tt, tt)))
block_marked o.Agree levels depth target site = All-from_recursion (IsMarked (Some events.Agree)) (group.agree_block depth) (tt, (tt, (refl, (tt, tt))))
block_marked o.Farm levels depth target site = All-from_recursion (IsMarked None) group.farm_block (refl, tt)
block_marked o.Seq levels depth target site = All-from_recursion (IsMarked None) (group.seq_block target) (tt, (tt, (tt, (refl, (tt, (tt, (tt, tt)))))))
block_marked o.End levels depth target site = by (levels.count == 0)
  where
    by : (start : Bool) → AreMarked (Some events.End) (if start then group.end_block target else splits.end_part_block levels target)
    by true = All-from_recursion (IsMarked (Some events.End)) (group.end_block target) (refl, (tt, (tt, (tt, (tt, (tt, (tt, tt)))))))
    by false = end_marked levels.fork levels target
block_marked o.Resume levels depth target site = resume_marked
block_marked (o.Meet false) levels depth target site = barrier_marked
block_marked (o.Meet true) levels depth target site = meet_marked
block_marked (o.Frame nesting words) levels depth target site =
    All-append (IsMarked None) (map quiet (add_number (4 * words) frames_register)) (group.frame_lines nesting site) (quiet_marked None (add_number (4 * words) frames_register))
    (All-from_recursion (IsMarked None) (group.frame_lines nesting site) (tt, (tt, (tt, (tt, (refl, (tt, (tt, (refl, tt)))))))))
block_marked o.Block levels depth target site = All-from_recursion (IsMarked None) (group.shalloc_block depth) (refl, (tt, (tt, (tt, (tt, (tt, (tt, (tt, (tt, (tt, (tt, (tt, (tt, tt)))))))))))))
block_marked (o.Split by) levels depth target site = split_marked by levels depth target site
block_marked o.Shrink levels depth target site =
    All-append (IsMarked (Some events.Shrink)) (splits.staying_lines depth) (splits.outward_lines false (splits.last_level levels) target ++ splits.size_line)
    (All-from_recursion (IsMarked (Some events.Shrink)) (splits.staying_lines depth) (tt, (tt, (tt, (tt, (refl, (tt, tt)))))))
    (All-from_recursion (IsMarked (Some events.Shrink)) (splits.outward_lines false (splits.last_level levels) target ++ splits.size_line) (tt, (tt, (tt, (tt, (tt, (tt, tt)))))))
block_marked operation levels depth target site = All-nil (IsMarked (event_of operation))

pub blocks_are_marked : BlocksAreMarked
blocks_are_marked = record {
  blocks = block_marked;
  start = λ globals. All-from_recursion (IsMarked (Some events.Split)) (group.start_lines globals) (tt, (tt, (tt, (tt, (tt, (tt, (tt, (tt, (tt, (tt, (tt, (tt, (refl, (tt, (tt, (tt, (tt, (tt, (tt, (tt, (tt, (tt, (tt, (tt, (tt, (tt, (tt, (tt, (tt, (tt, (tt, (tt, (tt, (tt, (tt, tt)))))))))))))))))))))))))))))))))));
  one_part = All-from_recursion (IsMarked (Some events.Split)) splits.one_part_lines (tt, (tt, (tt, (tt, (tt, (tt, (tt, (tt, (tt, (tt, (tt, (refl, (tt, (tt, (tt, (tt, (tt, (tt, (tt, (tt, (tt, (tt, tt))))))))))))))))))))));
  two_parts = All-from_recursion (IsMarked (Some events.Split)) splits.two_parts_lines (tt, (tt, (tt, (tt, (tt, (tt, (tt, (tt, (tt, (tt, (tt, (tt, (tt, (tt, (tt, (refl, (tt, (tt, (tt, (tt, (tt, (tt, (tt, (tt, (tt, (tt, (tt, tt)))))))))))))))))))))))))));
  fork = All-from_recursion (IsMarked (Some events.Split)) splits.fork_lines (tt, (tt, (tt, (tt, (tt, (tt, (tt, (tt, (tt, (tt, (tt, (tt, (tt, (tt, (tt, (tt, (tt, (tt, (tt, (tt, (tt, (tt, (tt, (refl, (tt, (tt, (tt, (tt, (tt, (tt, (tt, (tt, (tt, (tt, (tt, (tt, (tt, (tt, (tt, (tt, tt))))))))))))))))))))))))))))))))))))))));
}
