-- The opening.
use Rattle.std.proofs.Common.{◌≡◌, ℕ, ◌+◌, ◌≤◌, [], ap, subst, sym, arith}
use Rattle.fk_num.specs.Word.{Memory}
use Rattle.fk_sim_block.specs.Stands.{Places, ahead}
use Rattle.fk_gen_flow.proofs.Begins.{begins_in_root}
use Rattle.fk_sim_block.specs.Node.{Nestings, HasNestings, HasOuter, HasSaved, past_levels, saved_at, frames_word}
use Rattle.fk_gen_list.specs.Opening.{GroupsBegin}

-- no level is round a processor in the root
root_nestings : (places : Places) (nestings : Nestings) (processors number main : ℕ) (m : Memory) → nestings.levels main ≡ 0 → places.frames.of_file + 7 + nestings.behind main ≤ 64
    → HasNestings places nestings processors number m main [] [] []
root_nestings places nestings processors number main m none room = (
  (
    omega arith,
    subst (λ c. HasSaved m (nestings.forks main) (frames_word 0) (saved_at places nestings 0 main) c []) (sym none) tt,
    subst (λ c. HasOuter places nestings processors number m [] (past_levels c [])) (sym none) tt,
  ),
  tt,
)

pub groups_begin : GroupsBegin
groups_begin core image bound places nestings firsts main opening are is_main no_frame none level_room setting t number running lt =
    let of_file = places.frames.of_file in
    let begun = begins_in_root core image bound places firsts main opening are is_main no_frame setting t number running in
    let main_room : of_file + 7 + nestings.behind main ≤ 64 =
    let starts : ahead places.frames (places.frames.is_main main) ≡ of_file = ap (ahead places.frames) is_main in
    let r = level_room.room in
    omega arith in
    record {
      begins = begun.begins;
      node = record {
        node = begun.node;
        body = begun.body;
        space = tt;
        outer = root_nestings places nestings setting.processors number main begun.begins.hart.local none main_room;
      };
    }
