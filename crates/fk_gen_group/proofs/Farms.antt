-- All members begin to run a body.
use Rattle.std.proofs.Common.{◌≡◌, ℕ, suc, ◌*◌, ◌≤◌, List, [], ◌∷◌, map, true, Some, None, sym, ap, subst, ◌∙◌, arith, refl}
use Rattle.fk_num.specs.Word.{Memory, word_sum}
use Rattle.fk_meaning_operation.specs.declared.operation.Operation.TheVariants.{Farm}
use Rattle.fk_meaning.specs.Processor.{Setting}
use Rattle.fk_meaning.specs.Group.{has_room}
use Rattle.fk_core.specs.declared.op.CoreOp.{CoreOp}
use Rattle.fk_image.specs.declared.Image.{Image}
use Rattle.fk_isa.specs.declared.instruction.Instruction.TheVariants.{Addi}
use Rattle.fk_machine.specs.Hart.{Hart, Setting as MachineSetting}
use Rattle.fk_machine.proofs.Performs.{writes, addi}
use Rattle.fk_sim_nodes.specs.Node.{Member, Words}
use Rattle.fk_sim_nodes.specs.Alone.{Holds, NodeCycle, later}
use Rattle.fk_sim_nodes.specs.OnePlace.{on_each}
use Rattle.fk_sim_nodes.proofs.Runs.{cycle_map}
use Rattle.fk_sim_nodes.proofs.Members.{cycle_commits}
use Rattle.fk_sim_nodes.proofs.OnePlace.{private_of_all}
use Rattle.fk_sim_block.specs.Owner.{Owner, core_source}
use Rattle.fk_sim_block.specs.Stands.{Places, size_register}
use Rattle.fk_sim_block.specs.Block.{Enters}
use Rattle.fk_sim_block.specs.Node.{Nestings, body_register}
use Rattle.fk_sim_block.proofs.Spaces.{space_kept}
use Rattle.fk_sim_block.specs.Lockstep.{IsMember, AllComeAlone, AllEnter, AreOfSize, HaveParted, highest_value, stepped, is_due}
use Rattle.fk_gen_group.specs.Laws.{IsInPlace, GroupsSetFree}
use Rattle.fk_gen_group.proofs.Members.{Both, all_stand, at_block, each_standing, all_alone, all_due}
use Rattle.fk_gen_group.proofs.Behind.{goes_behind}

module _ (core : List CoreOp) (image : Image) (bound : ℕ → ℕ) (places : Places) (nestings : Nestings) (i : ℕ) (op : CoreOp) (place : IsInPlace core image bound places nestings i op Farm)
    (setting : Setting) (t : MachineSetting) (mine : Words) (first : ℕ) (highest lowest size : ℕ) (few : size ≤ 1024) where
  -- a member as it came
  record Came (m : Member) (p : Owner) : Type 0 where
    pub enters : Enters core image places setting t i op Farm p m.hart
    pub member : IsMember places nestings setting None first m p
    pub size_is : p.runner.has.level.size ≡ size

  abbrev free_hart : Member → Hart
  free_hart m = writes m.hart 11 (word_sum (m.hart.registers size_register) 0)

  -- a member that has come to the next block
  record IsNext (m : Member) (p : Owner) : Type 0 where
    pub is : IsMember places nestings setting (Some size) first m (stepped core i op Farm highest lowest size p)

  set_free : (m : Member) (p : Owner) → m.hart.pc ≡ 4 * places.block i → Came m p → IsNext (record m { hart = free_hart m }) p
  set_free m p pc came =
      let en = came.enters in
      let member = came.member in
      let within = place.block.lines.0.within in
      let next = place.block.next in
      let size_is = en.at.stands.size ∙ came.size_is in
      let behind = goes_behind core image bound places nestings i op Farm place (suc i) (place.fits.goes_on true) place.stay setting t None first m p (free_hart m) en member en.at.live refl
      (refl, refl, refl, refl, refl, refl, refl, refl, refl, refl, refl, refl, refl) refl (omega arith) in
      record {
        is = record {
          number = member.number;
          at = behind.0;
          node = record {
            node = member.node.node;
            body = omega arith;
            space = space_kept p.runner.has.level p.runner.has.outer m.hart (free_hart m) refl refl member.node.space;
            outer = behind.1;
          };
          words = member.words;
        };
      }

  came_all : (ms : List Member) (ps : List Owner) → AllEnter core image places nestings i op Farm setting t None first ms ps → AreOfSize size ps → Both Came ms ps
  came_all [] [] all sized = tt
  came_all (m ∷ ms) (p ∷ ps) all sized = (record { enters = all.0; member = all.1; size_is = sized.0 }, came_all ms ps all.2 sized.1)
  came_all ms ps all sized = absurd (assumption all)

  -- all are at the body at once
  abbrev AllFree : List Member → List Owner → Type 0
  AllFree ms ps = AllComeAlone places nestings setting image (later t) 0 (λ p. Some size) first ms (map (stepped core i op Farm highest lowest size) ps)

  all_free : (ms : List Member) (ps : List Owner) → Both IsNext ms ps → AllFree ms ps
  all_free [] [] all = tt
  all_free (m ∷ ms) (p ∷ ps) all = (record { hart = m.hart; private = refl; member = all.0.is }, all_free ms ps all.1)
  all_free ms ps all = absurd (assumption all)

  due_here : (m : Member) (p : Owner) → Came m p → (has_room Farm p.runner.has ≡ true) × (p.runner.left.at ≡ i)
  due_here m p came = (refl, came.enters.index)

  free_cycle : (ms : List Member) (ps : List Owner) (own : Memory) → Holds image t → Both Came ms ps
      → NodeCycle image mine t 1 ms own (λ ms' own'. AllFree ms' ps × (own' ≡ own))
  free_cycle ms ps own holds all =
      let stand = all_stand (places.block i) Came ms ps (λ m p came. at_block core image places nestings i op Farm setting t first m p came.enters) all in
      let Next : List Member → Memory → Type 0 = λ ms' own'. AllFree ms' ps × (own' ≡ own) in
      cycle_map image mine t 1 ms own (λ ms' own'. (ms' ≡ on_each free_hart ms) × (own' ≡ own)) Next
      (λ ms' own' x.
      (all_free ms' ps (subst (λ l. Both IsNext l ps) (sym x.0) (each_standing (places.block i) Came IsNext free_hart ms ps set_free stand all)), x.1))
      (private_of_all image mine t (places.block i) 1 (Addi body_register size_register 0) free_hart ms own holds place.block.lines.0 stand
      (all_alone Came t (Addi body_register size_register 0) free_hart ms ps (λ m p came s. (s.reserved, addi t m.number 11 20 0 m.hart s)) all))

pub groups_set_free : GroupsSetFree
groups_set_free core image bound places nestings i op lowest size few place setting t mine first [] [] own owns all sized =
    record { counted = tt; chain = (refl, record { come = tt; others = λ j ne. refl }) }
groups_set_free core image bound places nestings i op lowest size few place setting t mine first (m ∷ ms) (p ∷ ps) own owns all sized =
    let highest = highest_value (p ∷ ps) in
    let came = came_all core image bound places nestings i op place setting t mine first highest lowest size few (m ∷ ms) (p ∷ ps) all sized in
    let Next : List Member → Memory → Type 0 = λ ms' own'. HaveParted core image places nestings i op Farm setting (later t) 0 (λ p. Some size) first lowest size (p ∷ ps) own ms' own' in
    cycle_commits (core_source core setting) image mine t 1 (m ∷ ms) (p ∷ ps) (map (is_due core i op Farm) (p ∷ ps)) own Next
    owns.apart
    (all_due core setting i op Farm (Came core image bound places nestings i op place setting t mine first highest lowest size few) (m ∷ ms) (p ∷ ps) place.stands refl
    (due_here core image bound places nestings i op place setting t mine first highest lowest size few) came)
    (cycle_map image mine t 1 (m ∷ ms) own
    (λ ms' own'.
    AllComeAlone places nestings setting image (later t) 0 (λ p. Some size) first ms' (map (stepped core i op Farm highest lowest size) (p ∷ ps)) × (own' ≡ own)) Next
    (λ ms' own' x. record { come = x.0; others = λ j ne. ap (λ o. o j) x.1 })
    (free_cycle core image bound places nestings i op place setting t mine first highest lowest size few (m ∷ ms) (p ∷ ps) own all.0.running.code came))
groups_set_free core image bound places nestings i op lowest size few place setting t mine first ms ps own owns all sized = absurd (assumption all)
