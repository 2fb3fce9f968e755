-- The words from here on are not in the set.
use Rattle.std.proofs.Common.{◌≡◌, ℕ, ◌≤◌}
use Rattle.fk_gen_flow.specs.Calls.{most_privates}
use Rattle.fk_gen_list.specs.Layout.{up_to_last}
use Rattle.fk_gen_list.proofs.placing.up_to_last.Given as goal

pub record Sought (mask words : ℕ) : Type 0 where
  pub few : words ≤ most_privates
  pub same : up_to_last mask words ≡ up_to_last mask most_privates

abbrev pub invariant-down : goal.invariant-down
invariant-down l = Sought l.set.mask l.words

abbrev pub decreases-down : goal.decreases-down
decreases-down l = l.words
