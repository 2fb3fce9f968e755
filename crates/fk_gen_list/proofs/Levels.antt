-- Lists in whose frames no level stands.
use Rattle.std.proofs.Common.{◌≡◌, ℕ, suc, ◌-◌, ◌≤◌, List, [], true, false, None, subst, arith, refl}
use Rattle.fk_meaning_operation.specs.declared.operation.Operation.{Operation}
use Rattle.fk_meaning_operation.specs.declared.operation.Operation.TheVariants.{Push, Get, CopyLast, Leave, Enter, Split, Shrink, End}
use Rattle.fk_core.specs.declared.op.CoreOp.{CoreOp}
use Rattle.fk_core.specs.Next.{behind_jump}
use Rattle.fk_sim_block.specs.Stands.{Frames, Places, HasRoom}
use Rattle.fk_sim_block.specs.Suits.{Fits}
use Rattle.fk_gen.specs.Keeps.{peak}
use Rattle.fk_sim_block.specs.Node.{Gathering, HasLevelRoom}
use Rattle.fk_gen_group.specs.InNode.{LevelsFit, HasLevels}
use Rattle.fk_gen_group.specs.Laws.{GoesOnWith}
use Rattle.fk_gen_list.specs.Laws.{is_parting, nestings_of, LevelsNeedNoRoom}

room_of : (frames : Frames) (start : Gathering) (index values : ℕ) → HasRoom frames index values → HasLevelRoom frames (nestings_of [] (λ index level. None) start) index values
room_of frames start index values room = let header = room.header in record { room = omega arith; apart = λ some. absurd (omega arith) }

module _ (core : List CoreOp) (places : Places) (start : Gathering) (few : places.frames.of_file ≤ 56) (i : ℕ) (op : CoreOp) where
  levels_of : (operation : Operation) (values : ℕ) → HasLevelRoom places.frames (nestings_of [] (λ index level. None) start) i values → values ≡ peak operation op.depth → HasLevels core places (nestings_of [] (λ index level. None) start) i op operation
  levels_of operation values room e = record {
    few = few;
    room = subst (HasLevelRoom places.frames (nestings_of [] (λ index level. None) start) i) e room;
    apart = λ some. absurd (omega arith);
    stay = λ onward. record { levels = refl; behind = refl; forks = λ n lt. refl };
    nest = omega arith;
  }

  fit : (operation : Operation) → Fits core places.frames i op operation → LevelsFit core places (nestings_of [] (λ index level. None) start) i op operation
  fit (Push n) fits = levels_of (Push n) (suc op.depth) (room_of places.frames start i (suc op.depth) fits.place) refl
  fit (Get known) fits = levels_of (Get known) (suc op.depth) (room_of places.frames start i (suc op.depth) fits.place.1) refl
  fit CopyLast fits = levels_of CopyLast (suc op.depth) (room_of places.frames start i (suc op.depth) fits.place) refl
  fit (Leave gives framed) fits = record { few = few; none = refl }
  fit (Enter n) fits =
      let calls = fits.goes_on in
      let inside = calls.inside in
      record {
        few = few;
        stay = record { levels = refl; behind = refl; forks = λ n lt. refl };
        room = room_of places.frames start (behind_jump core (suc i)) (suc (op.depth - n)) calls.room;
        none = refl;
        entry = record { room = rw inside (omega arith); apart = λ some. absurd (omega arith) };
      }
  fit operation fits = levels_of operation op.depth (room_of places.frames start i op.depth fits.room) refl

-- no group splits
goes_on : (core : List CoreOp) (start : Gathering) (i : ℕ) (operation : Operation) → is_parting operation ≡ false → GoesOnWith operation (nestings_of [] (λ index level. None) start) i
goes_on core start i (Split by) none = absurd (cc)
goes_on core start i End none = tt
goes_on core start i operation none = record { levels = refl; behind = refl; forks = λ n lt. refl }

pub levels_need_no_room : LevelsNeedNoRoom
levels_need_no_room core places start main suits none = (
  record {
    operations = λ i op operation stands alone. fit core places start suits.few i op operation (suits.fits i op operation stands);
    jumps = λ i op at jump. record { levels = refl; behind = refl; forks = λ n lt. refl };
  },
  record {
    room = λ i op operation stands step. room_of places.frames start i op.depth (suits.fits i op operation stands).room;
    stay = λ i op operation stands step. goes_on core start i operation (none i op operation stands);
    leads = λ i op operation stands away. record { levels = refl; behind = refl; forks = λ n lt. refl };
    ends = λ i op stands. record { start = λ e. record { levels = refl; behind = refl; forks = λ n lt. refl }; part = λ lt. absurd (omega arith) };
    shrinks = λ i op stands. absurd (true_false (none i op Shrink stands));
    opens = λ i op by stands. absurd (true_false (none i op (Split by) stands));
  },
)
  where
    true_false : true ≡ false → ⊥
    true_false e = absurd (cc)
