-- Of a group in lockstep behind a round all members were in the round, or none.
use Rattle.std.proofs.Common.{◌≡◌, ◌⊎◌, inl, inr, ⊎_elim, ℕ, zero, suc, ◌-◌, ◌<◌, ◌≤◌, ◌==◌, Bool, true, false, List, length, filter, Option, Some, None, refl, sym, ap, ◌∙◌, subst, arith}
use Rattle.std.specs.Prelude.{slice_index, min}
use Rattle.std.specs.List.{list_all}
use Rattle.std.proofs.lemmas.Bool.{cases_lt, eqb-true}
use Rattle.fk_meaning_operation.specs.declared.operation.Operation.{Operation}
use Rattle.fk_meaning_operation.specs.declared.operation.Operation.TheVariants as o
use Rattle.fk_tree.specs.declared.node.Kind.{Kind}
use Rattle.fk_tree.specs.declared.node.Kind.TheVariants.{Lockstep, Waiting, Asynchronous}
use Rattle.fk_tree.specs.Tree as t
use Rattle.fk_tree.specs.Tree.{Node, Tree, members, kind, is_member, node_of, is_in, left_by, kind_after, first_part}
use Rattle.fk_tree.specs.Sound.{Has}
use Rattle.fk_tree.proofs.Lists.{kept_member}
use Rattle.fk_tree.proofs.Shapes.{with_same, members-node_of, members-turned, from_within, from_below}
use Rattle.fk_tree.proofs.Turns.{leaf_by, there_by, idle-lockstep}
use Rattle.fk_meaning.specs.Processor.{Processor, Setting, values}
use Rattle.fk_meaning.specs.Group.{not_negative, parts, part, stays}
use Rattle.fk_meaning.specs.Round.{Step, State, Round, Acting, lowest, agreed, fits_kind, result}
use Rattle.fk_lockstep.proofs.Nodes.{new_nodes, old_nodes}
use Rattle.fk_lockstep.proofs.Round.{all_at, lowest_member}
use Rattle.fk_lockstep_nodes.specs.Steps.{Does}
use Rattle.fk_lockstep_tree.specs.Steps.{StepFits}
use Rattle.fk_lockstep_tree.specs.Rounds.{IsRound, HaveCount, RoundsTakeGroups}
use Rattle.fk_lockstep_tree.proofs.Acts.{counts_as, fits_at, result_is}
use Rattle.fk_lockstep_tree.proofs.Known.{dues, act, leaf_stand}
use Rattle.fk_lockstep_tree.proofs.Stepped as trees

one_or_none : (c : ℕ) → c ≤ 1 → (c ≡ 0) ⊎ (c ≡ 1)
one_or_none zero le = inl refl
one_or_none (suc zero) le = inr refl
one_or_none (suc (suc c)) le = absurd (omega (arith, le))

-- who is left of a group was in it
left_members : (keep : ℕ → Bool) (x : Option Node) (h : ℕ) → is_member h (t.members_of (left_by keep x)) ≡ true → is_member h (t.members_of x) ≡ true
left_members keep None h has = has
left_members keep (Some node) h has =
    (kept_member keep node.members h (subst (λ (ms : List ℕ). is_member h ms ≡ true) (members-node_of (filter keep node.members) node.parent node.kind) has)).0

module _ {W : Type 0} (next : W → Option (Step W)) (set : Setting) (round : Round) (s : State W) (is : IsRound next set round s) where
  abbrev old : Tree
  old = s.tree

  abbrev new : Tree
  new = trees.new next set round s is

  abbrev whose : ℕ → Processor
  whose = trees.whose next set round s is

  abbrev does : ℕ → Option Operation
  does = trees.does next set round s is

  abbrev first : ℕ → ℕ
  first = (trees.stepped next set round s is).first

  abbrev begun_of : ℕ → Tree
  begun_of g = record old { given = first g }

  abbrev count_for : (g : ℕ) → ℕ
  count_for g = min (not_negative (agreed (trees.acting next set round s is) (members old g))) (length (members old g))

  count_of : (h : ℕ) → (slice_index round h ≡ 0) ⊎ (slice_index round h ≡ 1)
  count_of h = one_or_none (slice_index round h) (is.single h)

  -- ---- a group that was in lockstep before acts whole

  module _ (g : ℕ) (locked : kind old g ≡ Some Lockstep) where
    same_count : (h k : ℕ) → Has old g h → Has old g k → slice_index round h ≡ 1 → slice_index round k ≡ 1
    same_count h k in_h in_k one =
        let a = act next set round s is h (is.sound.within g h in_h) in
        let at = leaf_stand next set round s is g (leaf_by set.processors g Lockstep old is.sound idle-lockstep locked) h in_h in
        let fit = fits_at next set round s is.single is.possible h a (sym (counts_as next set round s is.single is.possible h a) ∙ one) in
        let here : fits_kind round (dues next set round s is) old h g (kind old g) ≡ true
        = subst (λ (m : ℕ). fits_kind round (dues next set round s is) old h m (kind old m) ≡ true) at fit in
        let all : list_all (λ m. slice_index round m == slice_index round h) (members old g) ≡ true
        = subst (λ (x : Option Kind). fits_kind round (dues next set round s is) old h g x ≡ true) locked here in
        eqb-true (slice_index round k) (slice_index round h) (all_at (λ m. slice_index round m == slice_index round h) (members old g) k all in_k) ∙ one

    whole : HaveCount round (members old g) 1 ⊎ HaveCount round (members old g) 0
    whole =
        let ms = members old g in
        let low = lowest ms in
        ⊎_elim
        (λ none. inr (λ h has. ⊎_elim (λ zero_is. zero_is)
        (λ one. let both : 0 ≡ 1 = sym none ∙ same_count h low has (lowest_member h ms has) one in absurd (omega (arith, both))) (count_of h)))
        (λ one. inl (λ h has. same_count low h (lowest_member h ms has) has one))
        (count_of low)

  -- ---- a node whose members step

  node_steps : (g : ℕ) (op : Operation) → does g ≡ Some op → new.nodes g ≡ (trees.own next set round s is g op).nodes g
  node_steps g op e = trees.node_steps next set round s is g op e

  -- all who do a step are in the round
  all_in : (g : ℕ) (op : Operation) → does g ≡ Some op → HaveCount round (members old g) 1
  all_in g op e h has =
      let all = trees.all_do next set round s is g op e in
      let a = act next set round s is h (is.sound.within g h has) in
      let does' = all.does h a has in
      counts_as next set round s is.single is.possible h a
      ∙ ⊎_elim (λ idle. absurd (subst (λ (x : Option (Step W)). Does op x) (ap (λ (x : Acting W). x.due) idle.0) does')) (λ busy. busy.0) a.comes

  turned : (g h : ℕ) (k : Kind) → new.nodes g ≡ t.turned k (old.nodes g) → Has new g h → Has old g h
  turned g h k node has = subst (λ (ms : List ℕ). is_member h ms ≡ true) (ap t.members_of node ∙ members-turned k (old.nodes g)) has

  left : (g h : ℕ) (keep : ℕ → Bool) → new.nodes g ≡ left_by keep (old.nodes g) → Has new g h → Has old g h
  left g h keep node has = left_members keep (old.nodes g) h (subst (λ (x : Option Node). is_member h (t.members_of x) ≡ true) node has)

  -- the node gets no members by it
  was_in : (g : ℕ) (op : Operation) → does g ≡ Some op → StepFits old g op → g < old.given → (h : ℕ) → Has new g h → Has old g h
  was_in g o.Begin e fits lt h has =
      let ge = trees.first_given next set round s is g in
      let k = Waiting (first g) 1 in
      let node = node_steps g o.Begin e ∙ old_nodes 0 1 (first_part (count_for g)) (begun_of g) g (from_below (first g) 1 g (omega (arith, ge, lt)))
      ∙ with_same 0 (t.turned k (old.nodes 0)) old.nodes g fits.0 ∙ ap (λ (m : ℕ). t.turned k (old.nodes m)) (sym fits.0) in
      turned g h k node has
  was_in g (o.Split by) e fits lt h has =
      let ge = trees.first_given next set round s is g in
      let many = parts by (values (whose (lowest (members old g)))) in
      let k = Waiting (first g) many in
      turned g h k
      (node_steps g (o.Split by) e ∙ old_nodes g many (λ j. part by (values (whose j))) (begun_of g) g (from_below (first g) many g (omega (arith, ge, lt)))
      ∙ with_same g (t.turned k (old.nodes g)) old.nodes g refl) has
  was_in g o.Shrink e fits lt h has =
      left g h (λ j. stays (whose j)) (node_steps g o.Shrink e ∙ with_same g (left_by (λ j. stays (whose j)) (old.nodes g)) old.nodes g refl) has
  was_in g o.End e fits lt h has = left g h (λ j. false) (node_steps g o.End e ∙ with_same g (left_by (λ j. false) (old.nodes g)) old.nodes g refl) has
  was_in g o.Farm e fits lt h has =
      turned g h (Asynchronous false) (node_steps g o.Farm e ∙ with_same g (t.turned (Asynchronous false) (old.nodes g)) old.nodes g refl) has
  was_in g o.Seq e fits lt h has = turned g h (Asynchronous true) (node_steps g o.Seq e ∙ with_same g (t.turned (Asynchronous true) (old.nodes g)) old.nodes g refl) has
  was_in g o.Resume e fits lt h has =
      turned g h (kind_after g) (node_steps g o.Resume e ∙ with_same g (t.turned (kind_after g) (old.nodes g)) old.nodes g refl) has
  was_in g (o.Meet true) e fits lt h has =
      turned g h Lockstep (node_steps g (o.Meet true) e ∙ with_same g (t.turned Lockstep (old.nodes g)) old.nodes g refl) has
  was_in g (o.Meet false) e fits lt h has = absurd fits
  was_in g op e fits lt h has = absurd fits

  -- ---- a part

  nothing_given : {A : Type 0} (m g : ℕ) → first g ≤ m → m < first g → A
  nothing_given m g from to = absurd (let no : ⊥ = omega (arith, from, to) in no)

  filtered : (m g h : ℕ) (in_part : ℕ → Bool) (ms : List ℕ) → new.nodes m ≡ node_of (filter in_part ms) g Lockstep → Has new m h → is_member h ms ≡ true
  filtered m g h in_part ms node has =
      (kept_member in_part ms h (subst (λ (l : List ℕ). is_member h l ≡ true) (ap t.members_of node ∙ members-node_of (filter in_part ms) g Lockstep) has)).0

  -- its members come from the group that is divided
  came_from : (m g : ℕ) (op : Operation) → does g ≡ Some op → StepFits old g op → first g ≤ m → m < (trees.own next set round s is g op).given → (h : ℕ) → Has new m h → Has old g h
  came_from m g o.Begin e fits from to h has =
      let node = trees.part_steps next set round s is g o.Begin e m from to ∙ new_nodes 0 1 (first_part (count_for g)) (begun_of g) m (from_within (first g) 1 m from to) in
      subst (λ (k : ℕ). Has old k h) (sym fits.0) (filtered m 0 h (λ j. is_in (m - first g) (first_part (count_for g) j)) (members old 0) node has)
  came_from m g (o.Split by) e fits from to h has =
      let many = parts by (values (whose (lowest (members old g)))) in
      let node = trees.part_steps next set round s is g (o.Split by) e m from to ∙ new_nodes g many (λ j. part by (values (whose j))) (begun_of g) m (from_within (first g) many m from to) in
      filtered m g h (λ j. is_in (m - first g) (part by (values (whose j)))) (members old g) node has
  came_from m g o.Shrink e fits from to h has = nothing_given m g from to
  came_from m g o.End e fits from to h has = nothing_given m g from to
  came_from m g o.Farm e fits from to h has = nothing_given m g from to
  came_from m g o.Seq e fits from to h has = nothing_given m g from to
  came_from m g o.Resume e fits from to h has = nothing_given m g from to
  came_from m g (o.Meet true) e fits from to h has = nothing_given m g from to
  came_from m g (o.Meet false) e fits from to h has = absurd fits
  came_from m g op e fits from to h has = absurd fits

  -- ---- all of these

  abbrev Taken : ℕ → Type 0
  Taken g = HaveCount round (members new g) 1 ⊎ HaveCount round (members new g) 0

  taken : (g : ℕ) → kind new g ≡ Some Lockstep → Taken g
  taken g locked =
      let there = there_by new g Lockstep locked in
      ⊎_elim
      (λ lt.
      let was = trees.was_there next set round s is g lt there in
      trees.by_does next set round s is (does g)
      (λ none.
      let same = trees.node_keeps next set round s is g none was in
      subst (λ (ms : List ℕ). HaveCount round ms 1 ⊎ HaveCount round ms 0) (sym (ap t.members_of same)) (whole g (sym (ap t.kind_of same) ∙ locked)))
      (λ op e. let all = trees.all_do next set round s is g op e in inl (λ h has. all_in g op e h (was_in g op e all.fits lt h has))))
      (λ ge.
      let found = trees.new_given next set round s is g ge there in
      let all = trees.all_do next set round s is found.node found.operation found.does_is in
      inl (λ h has. all_in found.node found.operation found.does_is h (came_from g found.node found.operation found.does_is all.fits found.low found.high h has)))
      (cases_lt g old.given)

  taken_behind : (g : ℕ) → let behind = (result next set round s).tree in kind behind g ≡ Some Lockstep → HaveCount round (members behind g) 1 ⊎ HaveCount round (members behind g) 0
  taken_behind g locked =
      let same : (result next set round s).tree ≡ new = ap (λ (u : State W). u.tree) (result_is next set round s is.single is.possible) in
      subst (λ (tree : Tree). HaveCount round (members tree g) 1 ⊎ HaveCount round (members tree g) 0) (sym same) (taken g (sym (ap (λ (tree : Tree). kind tree g) same) ∙ locked))

pub rounds_take_groups : (W : Type 0) → RoundsTakeGroups W
rounds_take_groups W next set round s g is locked = taken_behind next set round s is g locked
