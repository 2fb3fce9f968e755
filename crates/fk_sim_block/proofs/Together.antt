-- Members of a group in lockstep do what each does by itself.
use Rattle.std.proofs.Common.{◌≡◌, ℕ, List, [], ◌∷◌, Bool, true, Option, subst}
use Rattle.fk_meaning_operation.specs.declared.operation.Operation.{Operation}
use Rattle.fk_meaning.specs.Processor.{Setting}
use Rattle.fk_core.specs.declared.op.CoreOp.{CoreOp}
use Rattle.fk_image.specs.declared.Image.{Image}
use Rattle.fk_machine.specs.Hart.{Hart, Setting as MachineSetting}
use Rattle.fk_sim_nodes.specs.Node.{Member}
use Rattle.fk_sim_nodes.specs.OneHart.{OneDoes, EachDoes}
use Rattle.fk_sim_nodes.proofs.OneHart.{each_does}
use Rattle.fk_sim_block.specs.Owner.{Owner, Doing, core_source}
use Rattle.fk_sim_block.specs.Stands.{Places}
use Rattle.fk_sim_block.specs.Next.{OpAt}
use Rattle.fk_sim_block.specs.Ready.{is_alone}
use Rattle.fk_sim_block.specs.Node.{Nestings}
use Rattle.fk_sim_block.specs.Lockstep.{AllEnter}
use Rattle.fk_sim_block.specs.Law.{Cycles, GroupLaw, HasDoneInNode}
use Rattle.fk_sim_block.specs.Laws.{AllGo, MembersDoTogether}

module _ (core : List CoreOp) (image : Image) (places : Places) (nestings : Nestings) (cycles : Cycles) (firsts : List ℕ) (main : ℕ) (law : GroupLaw core image places nestings cycles firsts main)
    (i : ℕ) (op : CoreOp) (operation : Operation) (onward : Bool) (stands : OpAt core i op operation) (alone : is_alone operation ≡ true)
    (setting : Setting) (t : MachineSetting) (runs : Option ℕ) (first : ℕ) where
  abbrev Goal : ℕ → Owner → Hart → Doing → Type 0
  Goal number p h d = HasDoneInNode core image places nestings setting runs d h

  each : (ms : List Member) (ps : List Owner) → AllEnter core image places nestings i op operation setting t runs first ms ps → AllGo nestings operation onward ps
      → EachDoes (core_source core setting) image t 1 (cycles.before i) (cycles.behind i onward) Goal ms ps
  each [] [] all go = tt
  each (m ∷ ms) (p ∷ ps) all go = (
    subst (λ way. OneDoes (core_source core setting) image t 1 (cycles.before i) (cycles.behind i way) m p (Goal m.number p)) go.0
        (law.alone i op operation stands alone setting t runs first m p all.0 all.1 go.1),
    each ms ps all.2 go.2,
  )
  each ms ps all go = absurd (assumption all)

pub members_do_together : MembersDoTogether
members_do_together core image places nestings cycles firsts main i op operation onward setting t mine runs first ms ps own law stands alone owns all go =
    each_does (core_source core setting) image mine t 1 (cycles.before i) (cycles.behind i onward)
    (Goal core image places nestings cycles firsts main law i op operation onward stands alone setting t runs first) ms ps own owns.apart
    (each core image places nestings cycles firsts main law i op operation onward stands alone setting t runs first ms ps all go)
