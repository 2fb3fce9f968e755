-- What follows from the law of blocks of groups.
use Rattle.std.specs.Prelude.{◌≡◌, ℕ, List, [], ◌∷◌, Bool, true, Option}
use Rattle.fk_num.specs.Word.{Memory}
use Rattle.fk_meaning_operation.specs.declared.operation.Operation.{Operation}
use Rattle.fk_meaning.specs.Processor.{Setting}
use Rattle.fk_core.specs.declared.op.CoreOp.{CoreOp}
use Rattle.fk_image.specs.declared.Image.{Image}
use Rattle.fk_machine.specs.Hart.{Setting as MachineSetting}
use Rattle.fk_sim_nodes.specs.Node.{Member, Words}
use Rattle.fk_sim_nodes.specs.Alone.{NodeRun, later, in_cycles}
use Rattle.fk_sim_nodes.specs.OneHart.{AllReach}
use Rattle.fk_sim_nodes.specs.Together.{Together}
use Rattle.fk_sim_block.specs.Owner.{Owner, core_source}
use Rattle.fk_sim_block.specs.Stands.{Places}
use Rattle.fk_sim_block.specs.Next.{OpAt}
use Rattle.fk_sim_block.specs.Ready.{is_alone}
use Rattle.fk_sim_block.specs.Node.{Nestings, OwnsHeader}
use Rattle.fk_sim_block.specs.Found.{FindsFrame}
use Rattle.fk_sim_block.specs.Lockstep.{AllEnter}
use Rattle.fk_sim_block.specs.Law.{Cycles, GroupLaw, way_of, HasDoneInNode}

-- All processors take the same branch, and find the frame that they ask for.
abbrev pub AllGo : Nestings → Operation → (onward : Bool) → List Owner → Type 0
AllGo nestings operation onward [] = Unit {0}
AllGo nestings operation onward (p ∷ ps) = (way_of operation p.runner.has ≡ onward)
    × FindsFrame nestings operation p.runner × AllGo nestings operation onward ps

-- Members in lockstep who come to a local operation or a request in one cycle, and take the same
-- branch, commit in one cycle and come to the next block in one cycle. Their node's words stay as
-- they are.
abbrev pub MembersDoTogether : Type 0
MembersDoTogether =
    (core : List CoreOp) (image : Image) (places : Places) (nestings : Nestings) (cycles : Cycles)
    (firsts : List ℕ) (main : ℕ)
    (i : ℕ) (op : CoreOp) (operation : Operation) (onward : Bool) (setting : Setting)
    (t : MachineSetting) (mine : Words) (runs : Option ℕ) (first : ℕ)
    (ms : List Member) (ps : List Owner) (own : Memory)
    → GroupLaw core image places nestings cycles firsts main → OpAt core i op operation
    → is_alone operation ≡ true → OwnsHeader mine first
    → AllEnter core image places nestings i op operation setting t runs first ms ps
    → AllGo nestings operation onward ps
    → Together (core_source core setting) image mine t 1 (cycles.before i) ms ps own
    (λ ms' ds own'.
    NodeRun image mine (later (in_cycles (cycles.before i) t)) (cycles.behind i onward) ms' own'
    (λ ms'' own''. (own'' ≡ own) × AllReach
    (λ number p h d. HasDoneInNode core image places nestings setting runs d h) ps ms'' ds))
