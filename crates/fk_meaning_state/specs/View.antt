-- The state that a `State` holds.
use Rattle.std.specs.Prelude.{List, map, reverse, slice_index, None}
use Rattle.fk_meaning_store.specs.declared.store.Store32.{Store32}
use Rattle.fk_meaning_store.specs.View.{store_of}
use Rattle.fk_tree.specs.declared.tree.Tree.{Tree}
use Rattle.fk_tree.specs.View.{tree_of}
use Rattle.fk_meaning.specs.Processor as processors
use Rattle.fk_meaning.specs.Round as rounds
use Rattle.fk_meaning_state.specs.declared.setting.Setting.{Setting}
use Rattle.fk_meaning_state.specs.declared.processor.Level.{Level}
use Rattle.fk_meaning_state.specs.declared.processor.Call.{Call}
use Rattle.fk_meaning_state.specs.declared.processor.Processor.{Processor}
use Rattle.fk_meaning_state.specs.declared.state.State.{State}

abbrev pub setting_of : Setting → processors.Setting
setting_of s = record { processors = s.processors; globals = s.globals; inputs = s.inputs }

abbrev pub level_of : Level → processors.Level
level_of l = record { number = l.number; rank = l.rank; size = l.size; space = l.space }

-- the lists of the code have the last value, the innermost level and the last call at their end
abbrev pub call_of : Call → processors.Call
call_of c = record {
  values = reverse c.values.items;
  privates = slice_index c.privates.items;
  frames = slice_index c.frames.items;
}

abbrev pub processor_of : Processor → processors.Processor
processor_of p = record {
  number = p.number;
  level = level_of p.level;
  outer = reverse (map level_of p.outer.items);
  call = call_of p.call;
  callers = reverse (map call_of p.callers.items);
  own = slice_index p.own.items;
  top = p.top;
}

-- the parts of a `State`
abbrev pub store_in : State → Store32
store_in s = s.store

abbrev pub tree_in : State → Tree
tree_in s = s.tree

abbrev pub processors_in : State → List Processor
processors_in s = s.processors.items

-- a state with another store
abbrev pub with_store : State → Store32 → State
with_store s store = record s { store = store }

-- the state of a run that hasn't faulted, in which every processor has the work `left`
module _ {W : Type 0} (left : W) where
  abbrev pub runner_of : Processor → rounds.Runner W
  runner_of p = record { left = left; has = processor_of p }

  abbrev pub state_of : State → rounds.State W
  state_of s = record {
    store = store_of (store_in s);
    tree = tree_of (tree_in s);
    runners = map runner_of (processors_in s);
    fault = None;
  }
