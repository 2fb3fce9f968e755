-- Control words that no node of a plan owns.
use Rattle.std.specs.Prelude.{◌≡◌, ℕ, List, None, false}
use Rattle.fk_num.specs.Word.{Memory}
use Rattle.fk_image.specs.declared.Image.{Image}
use Rattle.fk_machine.specs.Hart.{Hart, Shared, Setting}
use Rattle.fk_machine.specs.Cycle.{turns}
use Rattle.fk_sim_nodes.specs.Node.{Has, OwnApart}
use Rattle.fk_sim_nodes.specs.Source.{Source, Shows}
use Rattle.fk_sim_match.specs.Stage.{Stage}
use Rattle.fk_sim_match.specs.Plan.{Plan, Tests, told_by, IsIdle, JointBlocksTurn, IsBound}

-- Where the plan binds all nodes, a cycle without a fault leaves each control word that no node
-- owns as it was, except common ones.
abbrev pub WordsOfNobodyStay : (S P D : Type 0) → Type 0
WordsOfNobodyStay S P D =
    (source : Source S P D) (image : Image) (plan : Plan) (tests : Tests P D) (t : Setting)
    (earlier : List ℕ) (stages : List Stage) (hs : List Hart) (ps : List P)
    (own : ℕ → Memory) (sh : Shared) (s : S) (word : ℕ)
    → IsIdle source tests.idle → JointBlocksTurn source image plan (told_by tests)
    → OwnApart plan.words source.common
    → Shows source earlier sh s → ((g : ℕ) → Has (plan.words g) sh.control (own g))
    → IsBound source image plan (told_by tests) t stages hs ps own
    → (turns t 0 hs sh).stop ≡ None → ((g : ℕ) → plan.words g word ≡ false)
    → source.common word ≡ false
    → (turns t 0 hs sh).shared.control word ≡ sh.control word
