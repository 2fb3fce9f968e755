-- How runs end.
use Rattle.std.proofs.Common.{◌≡◌, Bool, true, false, ◌&&◌, List, [], ◌∷◌, Option, Some, None, true≢false, refl, sym, ap}
use Rattle.std.specs.Prelude.{not, is_some, is_none, option_map}
use Rattle.std.specs.List.{list_all}
use Rattle.fk_meaning.specs.Processor.{Setting}
use Rattle.fk_meaning.specs.Schedule.{all_done}
use Rattle.fk_core.specs.declared.op.CoreOp.{CoreOp}
use Rattle.fk_core.specs.Next.{next}
use Rattle.fk_replay_steps.specs.Steps.{runner_of}
use Rattle.fk_replay_phases.specs.Actors.{runners_of}
use Rattle.fk_replay_phases.specs.declared.actor.Actor.{Actor}

module _ (core : List CoreOp) where
  -- a processor has nothing left to do
  abbrev pub has_ended : Actor → Bool
  has_ended a = is_none (next core (runner_of a.runner).left)

  pub all_ended : (set : Setting) (actors : List Actor) → list_all has_ended actors ≡ all_done (next core) set (runners_of actors)
  all_ended set [] = refl
  all_ended set (a ∷ actors) = ap (λ (b : Bool). has_ended a && b) (all_ended set actors)

pub none_of : {X Y : Type 0} (f : X → Y) (x : Option X) (y : Option Y) (none : Bool) → is_some x ≡ not none → option_map f x ≡ y → none ≡ is_none y
none_of f None y true some e = ap is_none e
none_of f None y false some e = absurd (true≢false (sym some))
none_of f (Some x) y true some e = absurd (true≢false some)
none_of f (Some x) y false some e = ap is_none e
