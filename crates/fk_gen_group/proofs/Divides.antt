-- A group that divides.
use Rattle.std.proofs.Common.{◌≡◌, ℕ, ◌+◌, ◌≤◌, List, [], ◌∷◌, length, map, true, None, sym, ap, subst, ◌∙◌, arith, refl}
use Rattle.fk_num.specs.Word.{Memory}
use Rattle.fk_space.specs.Space.{Space, IsSpace}
use Rattle.fk_meaning_operation.specs.declared.operation.SplitKind.{SplitKind}
use Rattle.fk_meaning_operation.specs.declared.operation.SplitKind.TheVariants.{IfAlone, IfElse, AndThen, OrElse, Loop, Fork}
use Rattle.fk_meaning_operation.specs.declared.operation.Operation.TheVariants.{Split}
use Rattle.fk_meaning.specs.Processor.{Setting}
use Rattle.fk_meaning.specs.Group.{has_parts}
use Rattle.fk_core.specs.declared.op.CoreOp.{CoreOp}
use Rattle.fk_image.specs.declared.Image.{Image}
use Rattle.fk_machine.specs.Hart.{Setting as MachineSetting}
use Rattle.fk_sim_nodes.specs.Node.{Member, Words}
use Rattle.fk_sim_nodes.specs.Alone.{Holds, later, in_cycles}
use Rattle.fk_sim_nodes.specs.Together.{Together}
use Rattle.fk_sim_nodes.proofs.Members.{together_map}
use Rattle.fk_sim_block.specs.Owner.{Owner, Doing, core_source}
use Rattle.fk_sim_block.specs.Stands.{Places}
use Rattle.fk_sim_block.specs.Node.{Nestings, OwnsHeader, OwnsSpace, IsAtRest, first_word}
use Rattle.fk_sim_block.specs.Lockstep.{AllEnter, is_due}
use Rattle.fk_sim_block.specs.Parts.{IsToDivide, AllAreToDivide, AllMove, AllRest, moved}
use Rattle.fk_gen.proofs.Does.{holds_in_cycles}
use Rattle.fk_gen_group.specs.Splits.{part_lines, parts_label, one_part_label, split_takes, split_goes_on}
use Rattle.fk_gen_group.specs.Laws.{IsSplitInPlace, GroupsDivide}
use Rattle.fk_gen_group.proofs.Fronts.{is_implicit, room_of_one, room_of_two}
use Rattle.fk_gen_group.proofs.PartSizes.{counted_one, counted_two}
use Rattle.fk_gen_group.proofs.Divided.{Divided}
use Rattle.fk_gen_group.proofs.OnePart.{one_divides}
use Rattle.fk_gen_group.proofs.OnePart as one
use Rattle.fk_gen_group.proofs.TwoParts.{two_divide}
use Rattle.fk_gen_group.proofs.TwoParts as two
use Rattle.fk_gen_group.proofs.ForkDivides.{fork_divides}
use Rattle.fk_gen_group.proofs.ForkDivides as forks

-- the words of the group's node are the first of its space
low_is : (nestings : Nestings) (by : SplitKind) (space : Space) (count first : ℕ) (p : Owner) → IsToDivide nestings by space count p → first_word p.runner.has.level p.runner.has.outer ≡ first → first ≡ space.low
low_is nestings by space count first p divides words = sym words ∙ ap (first_word p.runner.has.level) divides.group.outer ∙ ap (λ (s : Space). s.low) divides.space_is

module _ (core : List CoreOp) (image : Image) (bound : ℕ → ℕ) (places : Places) (nestings : Nestings) (i : ℕ) (op : CoreOp) (setting : Setting) (t : MachineSetting) (mine : Words) (first : ℕ) (space : Space)
    (owns : OwnsHeader mine first) (all_own : OwnsSpace mine space) (is_space : IsSpace space) (own : Memory) (rest : IsAtRest first own) where
  abbrev Goal : (by : SplitKind) → List Owner → List Member → List Doing → Memory → Type 0
  Goal by ps ms' ds own' =
      (ds ≡ map (is_due core i op (Split by)) ps)
      × AllMove core image places nestings i op (Split by) setting (later (in_cycles (split_takes by) t)) (split_goes_on by (nestings.levels i)) (λ p. None) 0 ms' ps
      × IsAtRest first own' × AllRest own' (map (moved core i op (Split by) 0 ps) ps)

  abbrev Divides : (by : SplitKind) → (before : ℕ) → List Member → List Owner → Type 0
  Divides by before ms ps = Together (core_source core setting) image mine t 1 before ms ps own (Goal by ps)

  abbrev Enter : (by : SplitKind) → List Member → List Owner → Type 0
  Enter by ms ps = AllEnter core image places nestings i op (Split by) setting t None first ms ps

  -- into one part
  into_one : (by : SplitKind) → IsSplitInPlace core image bound places nestings i op by → is_implicit by ≡ true → parts_label by ≡ one_part_label → split_takes by ≡ length (part_lines by op.depth) + 2 + 6 + 4
      → has_parts space 1 ≡ true → (ms : List Member) (p : Owner) (ps : List Owner) → length (p ∷ ps) ≤ 1024 → first ≡ space.low → Holds image t → Enter by ms (p ∷ ps) → AllAreToDivide nestings by space 1 (p ∷ ps)
      → Divides by (split_takes by) ms (p ∷ ps)
  into_one by split is label takes room ms p ps few low holds all divide =
      let many = room_of_one space room in
      let are = counted_one space first is_space low by is label in
      let steps = length (part_lines by op.depth) + 2 + 6 in
      let t' = later (in_cycles (split_takes by) t) in
      let came = one.came_all core image bound places nestings i op by split is label setting space is_space many t mine first owns all_own are ms (p ∷ ps) all divide in
      subst (λ n. Divides by n ms (p ∷ ps)) (sym takes)
      (together_map (core_source core setting) image mine t 1 (steps + 4) ms (p ∷ ps) own
      (λ ms' ds own'. (ds ≡ map (is_due core i op (Split by)) (p ∷ ps)) × Divided core image places nestings i op by setting t' first (p ∷ ps) ms' own')
      (Goal by (p ∷ ps))
      (λ ms' ds own' x. (x.0, x.1.0, x.1.1, x.1.2))
      (one_divides core image bound places nestings i op by split is label setting space is_space many t mine first owns all_own are room t' holds
      (holds_in_cycles image (split_takes by) t holds) (p ∷ ps) few own rest ms came))

  -- into two
  into_two : IsSplitInPlace core image bound places nestings i op IfElse → has_parts space 2 ≡ true → (ms : List Member) (p : Owner) (ps : List Owner) → length (p ∷ ps) ≤ 1024 → first ≡ space.low → Holds image t
      → Enter IfElse ms (p ∷ ps) → AllAreToDivide nestings IfElse space 2 (p ∷ ps) → Divides IfElse (split_takes IfElse) ms (p ∷ ps)
  into_two split room ms p ps few low holds all divide =
      let many = room_of_two space room in
      let are = counted_two space first is_space low many in
      let t' = later (in_cycles (split_takes IfElse) t) in
      let came = two.came_all core image bound places nestings i op split setting space is_space many t mine first owns all_own are ms (p ∷ ps) all divide in
      together_map (core_source core setting) image mine t 1 18 ms (p ∷ ps) own
      (λ ms' ds own'. (ds ≡ map (is_due core i op (Split IfElse)) (p ∷ ps)) × Divided core image places nestings i op IfElse setting t' first (p ∷ ps) ms' own')
      (Goal IfElse (p ∷ ps))
      (λ ms' ds own' x. (x.0, x.1.0, x.1.1, x.1.2))
      (two_divide core image bound places nestings i op split setting space is_space many t mine first owns all_own are room t' holds
      (holds_in_cycles image (split_takes IfElse) t holds) (p ∷ ps) few own rest ms came)

  by_kind : (by : SplitKind) → IsSplitInPlace core image bound places nestings i op by → (count : ℕ) → has_parts space count ≡ true → (ms : List Member) (p : Owner) (ps : List Owner)
      → length (p ∷ ps) ≤ 1024 → first ≡ space.low → Holds image t → Enter by ms (p ∷ ps) → AllAreToDivide nestings by space count (p ∷ ps) → Divides by (split_takes by) ms (p ∷ ps)
  by_kind IfAlone split count room ms p ps few low holds all divide =
      into_one IfAlone split refl refl refl (subst (λ k. has_parts space k ≡ true) (sym divide.0.count_is) room) ms p ps few low holds all
      (subst (λ k. AllAreToDivide nestings IfAlone space k (p ∷ ps)) (sym divide.0.count_is) divide)
  by_kind AndThen split count room ms p ps few low holds all divide =
      into_one AndThen split refl refl refl (subst (λ k. has_parts space k ≡ true) (sym divide.0.count_is) room) ms p ps few low holds all
      (subst (λ k. AllAreToDivide nestings AndThen space k (p ∷ ps)) (sym divide.0.count_is) divide)
  by_kind OrElse split count room ms p ps few low holds all divide =
      into_one OrElse split refl refl refl (subst (λ k. has_parts space k ≡ true) (sym divide.0.count_is) room) ms p ps few low holds all
      (subst (λ k. AllAreToDivide nestings OrElse space k (p ∷ ps)) (sym divide.0.count_is) divide)
  by_kind Loop split count room ms p ps few low holds all divide =
      into_one Loop split refl refl refl (subst (λ k. has_parts space k ≡ true) (sym divide.0.count_is) room) ms p ps few low holds all
      (subst (λ k. AllAreToDivide nestings Loop space k (p ∷ ps)) (sym divide.0.count_is) divide)
  by_kind IfElse split count room ms p ps few low holds all divide =
      into_two split (subst (λ k. has_parts space k ≡ true) (sym divide.0.count_is) room) ms p ps few low holds all
      (subst (λ k. AllAreToDivide nestings IfElse space k (p ∷ ps)) (sym divide.0.count_is) divide)
  by_kind Fork split count room ms p ps few low holds all divide =
      let t' = later (in_cycles (split_takes Fork) t) in
      let came = forks.came_all core image bound places nestings i op split setting space count is_space room t mine first owns all_own low ms (p ∷ ps) all divide in
      together_map (core_source core setting) image mine t 1 27 ms (p ∷ ps) own
      (λ ms' ds own'. (ds ≡ map (is_due core i op (Split Fork)) (p ∷ ps)) × Divided core image places nestings i op Fork setting t' first (p ∷ ps) ms' own')
      (Goal Fork (p ∷ ps))
      (λ ms' ds own' x. (x.0, x.1.0, x.1.1, x.1.2))
      (fork_divides core image bound places nestings i op split setting space count is_space room t mine first owns all_own low t' holds
      (holds_in_cycles image (split_takes Fork) t holds) (p ∷ ps) few own rest ms came)

pub groups_divide : GroupsDivide
groups_divide core image bound places nestings i op by split setting t mine first space count ms [] own owns all_own all divide room rest =
    let some = divide.some in
    absurd (omega arith)
groups_divide core image bound places nestings i op by split setting t mine first space count [] (p ∷ ps) own owns all_own all divide room rest = absurd (assumption all)
groups_divide core image bound places nestings i op by split setting t mine first space count (m ∷ ms) (p ∷ ps) own owns all_own all divide room rest =
    by_kind core image bound places nestings i op setting t mine first space owns all_own divide.is_space own rest by split count room (m ∷ ms) p ps divide.few
    (low_is nestings by space count first p divide.all.0 all.1.words) all.0.running.code all divide.all
