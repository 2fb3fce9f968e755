-- Those so far have passed.
use Rattle.std.proofs.Common.{◌≡◌}
use Rattle.fk_meaning_store.specs.View.{store_of, processors_of}
use Rattle.fk_replay_phases.proofs.Requests.{AsksAt}
use Rattle.fk_replay_phases.proofs.phases.do_requests.Given as goal

abbrev pub invariant-loop-member : goal.invariant-loop-member
invariant-loop-member l = record {
  asks : AsksAt l.ops l.acting l.fn.actors.items (store_of l.fn.store) l.member-index l.actors.items (store_of l.store);
  processors : processors_of l.store ≡ processors_of l.fn.store;
}
