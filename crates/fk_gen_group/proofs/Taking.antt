-- Members that each do a step by themselves, and touch no control word, do it together.
use Rattle.std.proofs.Common.{◌≡◌, ℕ, zero, suc, List, [], ◌∷◌, map, None, ap, ◌∙◌, refl}
use Rattle.fk_num.specs.Word.{Memory}
use Rattle.fk_meaning_operation.specs.declared.operation.Operation.{Operation}
use Rattle.fk_meaning.specs.Processor.{Setting}
use Rattle.fk_core.specs.declared.op.CoreOp.{CoreOp}
use Rattle.fk_image.specs.declared.Image.{Image}
use Rattle.fk_machine.specs.Hart.{Hart, Setting as MachineSetting}
use Rattle.fk_sim_nodes.specs.Node.{Member, Words}
use Rattle.fk_sim_nodes.specs.Source.{Source}
use Rattle.fk_sim_nodes.specs.Alone.{NodeCycle, NodeRun, later, in_cycles}
use Rattle.fk_sim_nodes.specs.OneHart.{OneDoes, EachDoes, AllReach}
use Rattle.fk_sim_nodes.proofs.Runs.{run_map}
use Rattle.fk_sim_nodes.proofs.Members.{together_map}
use Rattle.fk_sim_nodes.proofs.OneHart.{each_does}
use Rattle.fk_sim_block.specs.Owner.{Owner, Doing, core_source}
use Rattle.fk_sim_block.specs.Stands.{Places}
use Rattle.fk_sim_block.specs.Block.{Enters}
use Rattle.fk_sim_block.specs.Node.{Nestings}
use Rattle.fk_sim_block.specs.Lockstep.{IsMember, AreMembers, AllEnter, StepTogether, HaveStepped, IsInGroup, AreInGroup, highest_value, stepped, is_due}

-- ---- what holds in the end

module _ {S P D : Type 0} (source : Source S P D) (image : Image) (mine : Words) where
  -- what is so of all members and words after cycles is so
  cycle_told : (A : Type 0) (t : MachineSetting) (c : ℕ) (ms : List Member) (own : Memory) (Then : List Member → Memory → Type 0)
      → ((ms' : List Member) (own' : Memory) → Then ms' own' → A) → NodeCycle image mine t c ms own Then → A
  cycle_told A t c [] own Then f x = f [] own x
  cycle_told A t c (m ∷ ms) own Then f x =
      cycle_told A t c ms x.1 (λ ms' own'. Then (record m { hart = x.0 } ∷ ms') own') (λ ms' own' y. f (record m { hart = x.0 } ∷ ms') own' y) x.3

  pub run_told : (A : Type 0) (t : MachineSetting) (d : ℕ) (ms : List Member) (own : Memory) (Then : List Member → Memory → Type 0)
      → ((ms' : List Member) (own' : Memory) → Then ms' own' → A) → NodeRun image mine t d ms own Then → A
  run_told A t zero ms own Then f x = f ms own x
  run_told A t (suc d) ms own Then f x =
      cycle_told A t 0 ms own (λ ms' own'. NodeRun image mine (later t) d ms' own' Then) (λ ms' own' y. run_told A (later t) d ms' own' Then f y) x

-- ---- a step that each does by itself

module _ (core : List CoreOp) (image : Image) (places : Places) (nestings : Nestings) (i : ℕ) (op : CoreOp) (operation : Operation) (setting : Setting) (first highest lowest size : ℕ) where
  -- it is due, and its hart is behind it
  abbrev pub Takes : (number : ℕ) → Owner → Hart → Doing → Type 0
  Takes number p h d =
      (d ≡ is_due core i op operation p)
      × IsMember places nestings setting None first (record { number = number; hart = h }) (stepped core i op operation highest lowest size p)

  all_due : (ps : List Owner) (ms : List Member) (ds : List Doing) → AllReach Takes ps ms ds → ds ≡ map (is_due core i op operation) ps
  all_due [] [] [] all = refl
  all_due (p ∷ ps) (m ∷ ms) (d ∷ ds) all = ap (λ x. x ∷ ds) all.0.0 ∙ ap (λ xs. is_due core i op operation p ∷ xs) (all_due ps ms ds all.1)
  all_due ps ms ds all = absurd (assumption all)

  all_members : (ps : List Owner) (ms : List Member) (ds : List Doing) → AllReach Takes ps ms ds
      → AreMembers places nestings setting (λ p. None) first ms (map (stepped core i op operation highest lowest size) ps)
  all_members [] [] [] all = tt
  all_members (p ∷ ps) (m ∷ ms) (d ∷ ds) all = (all.0.1, all_members ps ms ds all.1)
  all_members ps ms ds all = absurd (assumption all)

  -- the block of one member, in so many cycles
  abbrev pub OneTakes : (before behind : ℕ) → Type 0
  OneTakes before behind =
      (t : MachineSetting) (m : Member) (p : Owner) → Enters core image places setting t i op operation p m.hart
      → IsMember places nestings setting None first m p → IsInGroup p
      → OneDoes (core_source core setting) image t 1 before behind m p (Takes m.number p)

  each_takes : (before behind : ℕ) → OneTakes before behind → (t : MachineSetting) (ms : List Member) (ps : List Owner)
      → AllEnter core image places nestings i op operation setting t None first ms ps → AreInGroup ps
      → EachDoes (core_source core setting) image t 1 before behind Takes ms ps
  each_takes before behind one t [] [] all inside = tt
  each_takes before behind one t (m ∷ ms) (p ∷ ps) all inside = (one t m p all.0 all.1 inside.0, each_takes before behind one t ms ps all.2 inside.1)
  each_takes before behind one t ms ps all inside = absurd (assumption all)

pub step_together : (core : List CoreOp) (image : Image) (places : Places) (nestings : Nestings) (i : ℕ) (op : CoreOp) (operation : Operation) (before behind lowest size : ℕ)
    → ((setting : Setting) (first highest : ℕ) → OneTakes core image places nestings i op operation setting first highest lowest size before behind)
    → StepTogether core image places nestings i op operation 1 AreInGroup before behind None (λ p. None) lowest size
step_together core image places nestings i op operation before behind lowest size one setting t mine first ms ps own owns all inside =
    let source = core_source core setting in
    let highest = highest_value ps in
    let t' = later (in_cycles before t) in
    let Reach = Takes core image places nestings i op operation setting first highest lowest size in
    let Then : List Member → List Doing → Memory → Type 0 = λ ms' ds own'. NodeRun image mine t' behind ms' own' (λ ms'' own''. (own'' ≡ own) × AllReach Reach ps ms'' ds) in
    let Then' : List Member → List Doing → Memory → Type 0
    = λ ms' ds own'. (ds ≡ map (is_due core i op operation) ps)
    × NodeRun image mine t' behind ms' own' (λ ms'' own''. HaveStepped core image places nestings i op operation setting (λ p. None) first lowest size ps own ms'' own'') in
    together_map source image mine t 1 before ms ps own Then Then'
    (λ ms' ds own' x. (
      run_told source image mine (ds ≡ map (is_due core i op operation) ps) t' behind ms' own' (λ ms'' own''. (own'' ≡ own) × AllReach Reach ps ms'' ds)
          (λ ms'' own'' y. all_due core image places nestings i op operation setting first highest lowest size ps ms'' ds y.1) x,
      run_map image mine t' behind ms' own' (λ ms'' own''. (own'' ≡ own) × AllReach Reach ps ms'' ds)
          (λ ms'' own''. HaveStepped core image places nestings i op operation setting (λ p. None) first lowest size ps own ms'' own'')
          (λ ms'' own'' y. record {
            members = all_members core image places nestings i op operation setting first highest lowest size ps ms'' ds y.1;
            others = λ j ne. ap (λ o. o j) y.0;
          }) x,
    ))
    (each_does source image mine t 1 before behind Reach ms ps own owns.apart
    (each_takes core image places nestings i op operation setting first highest lowest size before behind (one setting first highest) t ms ps all inside))
