-- Harts that stand in nodes for their processors: in the root, in the group of `start`, and in a part of that.
use Rattle.std.proofs.Common.{ℕ, ◌+◌, ◌*◌, List, [], ◌∷◌, true, false, Some, None, refl, arith}
use Rattle.std.specs.Prelude.{◌==◌, if◌then◌else◌}
use Rattle.fk_num.specs.Word.{Memory}
use Rattle.fk_meaning.specs.Processor.{Level, Setting}
use Rattle.fk_meaning.specs.Schedule.{first_level, first_processor}
use Rattle.fk_machine.specs.Hart.{Hart}
use Rattle.fk_sim_block.specs.Owner.{Owner}
use Rattle.fk_sim_nodes.specs.Node.{Member}
use Rattle.fk_sim_block.specs.Stands.{Frames, Places, StandsAt}
use Rattle.fk_sim_block.specs.Node.{Nestings, HasLevelRoom, root_words, control_address}
use Rattle.fk_sim_block.specs.Lockstep.{IsMember}
use Rattle.fk_gen_group.specs.Start.{gathering_of}

-- no variables, and code of one block a word; at index 9 one level is saved
frames : Frames
frames = record { keeps = λ index word. false; is_main = λ index. true; group = λ index. false; of_file = 0 }

places : Places
places = record { block = λ index. index; returns = λ index. None; frames = frames }

levels_at : ℕ → ℕ
levels_at index = if index == 9 then 1 else 0

nestings : Nestings
nestings = record { levels = levels_at; behind = λ index. 0; nest = λ index. 0; forks = λ index level. None; start = gathering_of [] (λ label. 0) }

-- 4 processors, no globals and no input
setting : Setting
setting = record { processors = 4; globals = 0; inputs = 0 }

-- a memory where word 7 begins the level of the group
saved : Memory
saved i = if i == 7 then 3 else if i == 8 then 0x18000000 else if i == 9 then 0x18200000 else if i == 10 then 0x18000020 else 0

-- processor 2 in the root, in the group of `start`, and in a part of it
in_level : (index : ℕ) → Level → List Level → Owner
in_level index level outer = record {
  runner = record {
    left = record { at = index; callers = [] };
    has = record (first_processor setting (λ i. 0) 2) { level = level; outer = outer };
  };
  heap = record { words = λ i. saved (16384 + i); full = false };
}

group : Level
group = record { number = 0; rank = 2; size = 3; space = record { low = 0; high = 524288; frames = 8; blocks = 524288 } }

part : Level
part = record { number = 0; rank = 2; size = 1; space = record { low = 12; high = 524288; frames = 20; blocks = 524288 } }

in_root : Owner
in_root = in_level 0 (first_level setting 2) []

in_start : Owner
in_start = in_level 3 group (first_level setting 2 ∷ [])

in_part : Owner
in_part = in_level 9 part (group ∷ first_level setting 2 ∷ [])

-- a hart with all that it has of its processor, of its node and of those who run its body
registers : Level → (node body : ℕ) → ℕ → ℕ
registers level node body r =
    if r == 8 then 0x20000000
    else if r == 9 then 0x20000100
    else if r == 10 then node
    else if r == 11 then body
    else if r == 12 then control_address level.space.frames
    else if r == 13 then control_address level.space.blocks
    else if r == 18 then level.number
    else if r == 19 then level.rank
    else if r == 20 then level.size
    else if r == 22 then 0x20000000
    else if r == 23 then 0x10000000
    else if r == 24 then 0x20010000
    else if r == 25 then 0xffc00003
    else if r == 26 then 0x30000000
    else if r == 27 then 0xffff0003
    else 0

hart : (index : ℕ) → Level → (node body : ℕ) → Hart
hart index level node body = record { registers = registers level node body; pc = 4 * index; local = saved; ended = false }

stands : (index : ℕ) (level : Level) (outer : List Level) (node body : ℕ) → StandsAt places (in_level index level outer) (hart index level node body)
unfolding in_level hart registers places frames setting saved
stands index level outer node body = record {
  live = refl;
  at = refl;
  stands = record {
    nought = refl;
    frame = refl;
    behind = refl;
    number = refl;
    rank = refl;
    size = refl;
    top = refl;
    local = refl;
    shared_data = refl;
    private_heap = refl;
    shared_mask = refl;
    devices = refl;
    heap_mask = refl;
    running = record { home = refl; values = tt; privates = λ i e. absurd (cc) };
    waiting = tt;
    groups = (tt, tt);
    own = λ i lt. absurd (omega (arith, lt));
    heap = λ i lt. refl;
    full = refl;
  };
}

member_of : Hart → Member
member_of h = record { number = 2; hart = h }

is_in_root : IsMember places nestings setting (Some 4) root_words (member_of (hart 0 (first_level setting 2) 0x18400000 4)) in_root
unfolding in_root in_level hart registers places frames setting nestings levels_at member_of
is_in_root = record {
  number = refl;
  at = stands 0 (first_level setting 2) [] 0x18400000 4;
  node = record { node = refl; body = refl; space = tt; outer = ((omega arith, tt, tt), tt) };
  words = refl;
}

is_in_start : IsMember places nestings setting None 0 (member_of (hart 3 group 0x18000000 7)) in_start
unfolding in_start in_level group hart registers places frames setting nestings levels_at member_of
is_in_start = record {
  number = refl;
  at = stands 3 group (first_level setting 2 ∷ []) 0x18000000 7;
  node = record { node = refl; body = tt; space = (refl, refl); outer = ((omega arith, tt, record { number = refl; rank = refl; size = refl }), tt) };
  words = refl;
}

is_in_part : IsMember places nestings setting None 12 (member_of (hart 9 part 0x18000030 7)) in_part
unfolding in_part in_level part group hart registers places frames setting nestings levels_at saved member_of
is_in_part = record {
  number = refl;
  at = stands 9 part (group ∷ first_level setting 2 ∷ []) 0x18000030 7;
  node = record {
    node = refl;
    body = tt;
    space = (refl, refl);
    outer = (
      (omega arith, (record { size = refl; node = refl; blocks = refl; frames = refl }, tt), record { number = refl; rank = refl; size = refl }),
      tt,
    );
  };
  words = refl;
}

has_room : HasLevelRoom frames nestings 9 50
unfolding frames nestings levels_at
has_room = record { room = omega arith; apart = λ some word e. absurd (cc) }
