-- Members of a group that have one program are about to do one operation, and go one way.
use Rattle.std.proofs.Common.{◌≡◌, ◌⊎◌, ℕ, zero, suc, ◌+◌, ◌≤◌, ◌<◌, List, [], ◌∷◌, length, Some, Bool, true, false, sym, ap, subst, ◌∙◌, refl, arith, inl, inr, ⊎_elim, eq-eqb}
use Rattle.std.specs.Prelude.{◌==◌, slice_get, not}
use Rattle.std.proofs.lemmas.Bool.{eqb-true, ne_eqb, false≢true}
use Rattle.fk_space.specs.Space.{Space}
use Rattle.fk_tree.specs.declared.node.Kind.TheVariants.{Lockstep}
use Rattle.fk_tree.specs.Tree as trees
use Rattle.fk_tree.specs.Sound.{IsSound}
use Rattle.fk_tree.proofs.Lists.{length-between}
use Rattle.fk_meaning_operation.specs.Kinds.{class_of}
use Rattle.fk_meaning_operation.specs.declared.kinds.Class.{Class}
use Rattle.fk_meaning_operation.specs.declared.kinds.Class.TheVariants.{Local, Request, Tree}
use Rattle.fk_meaning_operation.specs.declared.operation.Multiprefix.{Multiprefix}
use Rattle.fk_meaning_operation.specs.declared.operation.SplitKind.{SplitKind}
use Rattle.fk_meaning_operation.specs.declared.operation.Operation.{Operation}
use Rattle.fk_meaning_operation.specs.declared.operation.Operation.TheVariants as o
use Rattle.fk_meaning.specs.Processor.{Processor, values, last}
use Rattle.fk_meaning.specs.Round.{State}
use Rattle.fk_core.specs.declared.op.CoreOp.{CoreOp}
use Rattle.fk_core.specs.Next.{Position, landing, step_by, step_of, next}
use Rattle.fk_core.specs.Numbers.{operation_of}
use Rattle.fk_sim_nodes.specs.Node.{add, of_node}
use Rattle.fk_lockstep.specs.OneProgram.{HaveOneProgram, AreTogether}
use Rattle.fk_lockstep.specs.OneSpace.{MembersHaveOneSpace}
use Rattle.fk_sim_block.specs.Owner.{Owner, number_of}
use Rattle.fk_sim_block.specs.Next.{OpAt, step_at}
use Rattle.fk_sim_block.specs.Ready.{is_alone, IsReady}
use Rattle.fk_sim_block.specs.Node.{Nestings}
use Rattle.fk_sim_block.specs.Lockstep.{IsInStart, AreInStart, AreOfSize, IsInGroup, AreInGroup, NoneIs, IsLowest}
use Rattle.fk_sim_block.specs.Parts.{parts_of, IsToDivide, AllAreToDivide, IsInPart, AreInPart}
use Rattle.fk_sim_block.specs.Law.{is_shared_step, IsAskedOf, way_by, way_of}
use Rattle.fk_sim_block.specs.Found.{FindsFrame}
use Rattle.fk_sim_block.specs.Laws.{AllGo}
use Rattle.fk_sim_rounds.specs.Next.{landed, all_landed, AllAt, AllAbout, MayMove, MayInGroup, HaveNext}
use Rattle.fk_sim_rounds.specs.After.{ArePlaces, runners_of}
use Rattle.fk_sim_rounds.specs.Program.{MayMoveInStep, IsInStep, AllInStep, GroupsHaveNext}
use Rattle.fk_sim_rounds.proofs.Agreed.{place_member, some_elem}
use Rattle.fk_sim_rounds.proofs.Groups.{Stands, somebody, there_are}

-- what is so of each that stands in a node
abbrev Each : (Owner → Type 0) → List Owner → Type 0
Each P [] = Unit {0}
Each P (p ∷ ps) = P p × Each P ps

each_add : (P : Owner → Type 0) (b : Bool) (p : Owner) (ps : List Owner) → (b ≡ true → P p) → Each P ps → Each P (add b p ps)
each_add P true p ps one rest = (one refl, rest)
each_add P false p ps one rest = rest

each_of : (P : Owner → Type 0) (g : ℕ) (ns : List ℕ) (ps : List Owner) → ((i : ℕ) (p : Owner) → slice_get ns i ≡ Some g → slice_get ps i ≡ Some p → P p) → Each P (of_node g ns ps)
each_of P g [] ps f = tt
each_of P g (n ∷ ns) [] f = tt
each_of P g (n ∷ ns) (p ∷ ps) f =
    each_add P (n == g) p (of_node g ns ps) (λ e. f 0 p (ap (λ k. Some k) (eqb-true n g e)) refl) (each_of P g ns ps (λ i q at is. f (suc i) q at is))

-- ---- the lowest

none_add : (l : ℕ) (core : List CoreOp) (b : Bool) (p : Owner) (ps : List Owner) → (b ≡ true → (number_of p == l) ≡ false) → NoneIs l (all_landed core ps) → NoneIs l (all_landed core (add b p ps))
none_add l core true p ps one rest = (one refl, rest)
none_add l core false p ps one rest = rest

none_is : (core : List CoreOp) (l number g : ℕ) (ns : List ℕ) (ps : List Owner) → l < number
    → ((i : ℕ) (p : Owner) → slice_get ns i ≡ Some g → slice_get ps i ≡ Some p → number_of p ≡ number + i) → NoneIs l (all_landed core (of_node g ns ps))
none_is core l number g [] ps lt f = tt
none_is core l number g (n ∷ ns) [] lt f = tt
none_is core l number g (n ∷ ns) (p ∷ ps) lt f =
    none_add l core (n == g) p (of_node g ns ps)
    (λ e. let is = f 0 p (ap (λ k. Some k) (eqb-true n g e)) refl in ne_eqb (number_of p) l (λ same. omega (arith, is, same, lt)))
    (none_is core l (suc number) g ns ps (omega (arith, lt)) (λ i q at is. let e = f (suc i) q at is in omega (arith, e)))

lowest_add : (core : List CoreOp) (b : Bool) (p : Owner) (ps : List Owner) → (b ≡ true → NoneIs (number_of p) (all_landed core ps))
    → (b ≡ false → (l : ℕ) × IsLowest l (all_landed core ps)) → (l : ℕ) × IsLowest l (all_landed core (add b p ps))
lowest_add core true p ps here there = (number_of p, (eq-eqb (number_of p) (number_of p) refl, here refl))
lowest_add core false p ps here there = there refl

rest_some : (b : Bool) (p : Owner) (ps : List Owner) → b ≡ false → (length (add b p ps) ≡ 0 → ⊥) → length ps ≡ 0 → ⊥
rest_some true p ps e some = absurd (false≢true (sym e))
rest_some false p ps e some = some

lowest_is : (core : List CoreOp) (number g : ℕ) (ns : List ℕ) (ps : List Owner)
    → ((i : ℕ) (p : Owner) → slice_get ns i ≡ Some g → slice_get ps i ≡ Some p → number_of p ≡ number + i) → (length (of_node g ns ps) ≡ 0 → ⊥)
    → (l : ℕ) × IsLowest l (all_landed core (of_node g ns ps))
lowest_is core number g [] ps f some = absurd (some refl)
lowest_is core number g (n ∷ ns) [] f some = absurd (some refl)
lowest_is core number g (n ∷ ns) (p ∷ ps) f some =
    lowest_add core (n == g) p (of_node g ns ps)
    (λ e.
    let is = f 0 p (ap (λ k. Some k) (eqb-true n g e)) refl in
    none_is core (number_of p) (suc number) g ns ps (omega (arith, is)) (λ i q at there. let same = f (suc i) q at there in omega (arith, same)))
    (λ e. lowest_is core (suc number) g ns ps (λ i q at there. let same = f (suc i) q at there in omega (arith, same)) (rest_some (n == g) p (of_node g ns ps) e some))

-- ---- ways

way_combine : (c : Class) (by : Multiprefix) (p q : Processor) → way_by c (o.Combine by) p ≡ way_by c (o.Combine by) q
way_combine Local by p q = refl
way_combine Request by p q = refl
way_combine Tree by p q = refl

way_same : (operation : Operation) (p q : Processor) → ((onward : Bool) → operation ≡ o.Branch onward → last (values p) ≡ last (values q)) → way_of operation p ≡ way_of operation q
way_same (o.Branch true) p q same = ap (λ v. not (v == 0)) (same true refl)
way_same (o.Branch false) p q same = ap (λ v. v == 0) (same false refl)
way_same (o.Combine by) p q same = way_combine (class_of (o.Combine by)) by p q
way_same operation p q same = refl

pub runner_at : (ps : List Owner) (h : ℕ) (p : Owner) → slice_get ps h ≡ Some p → slice_get (runners_of ps) h ≡ Some p.runner
runner_at [] h p at = absurd (cc)
runner_at (q ∷ ps) zero p at = let e : q ≡ p = cc in ap (λ x. Some x.runner) e
runner_at (q ∷ ps) (suc h) p at = runner_at ps h p at

step_there : (core : List CoreOp) (nestings : Nestings) (g number : ℕ) (ns : List ℕ) (ps : List Owner) (i : ℕ) (p : Owner) → AllInStep core nestings g number ns ps → slice_get ns i ≡ Some g
    → slice_get ps i ≡ Some p → IsInStep core nestings (number + i) (landed core p)
step_there core nestings g number (n ∷ ns) (q ∷ ps) zero p all at is =
    let e : n ≡ g = cc in
    let same : q ≡ p = cc in
    let k : number ≡ number + 0 = omega arith in
    subst (λ j. IsInStep core nestings j (landed core p)) k (subst (λ x. IsInStep core nestings number (landed core x)) same (all.0 e))
step_there core nestings g number (n ∷ ns) (q ∷ ps) (suc i) p all at is =
    let k : suc number + i ≡ number + suc i = omega arith in
    subst (λ j. IsInStep core nestings j (landed core p)) k (step_there core nestings g (suc number) ns ps i p all.1 at is)
step_there core nestings g number [] [] i p all at is = absurd (cc)
step_there core nestings g number [] (q ∷ ps) i p all at is = absurd (assumption all)
step_there core nestings g number (n ∷ ns) [] i p all at is = absurd (assumption all)

in_step_length : (core : List CoreOp) (nestings : Nestings) (g number : ℕ) (ns : List ℕ) (ps : List Owner) → AllInStep core nestings g number ns ps → length ns ≡ length ps
in_step_length core nestings g number [] [] all = refl
in_step_length core nestings g number (n ∷ ns) (p ∷ ps) all = ap suc (in_step_length core nestings g (suc number) ns ps all.1)
in_step_length core nestings g number ns ps all = absurd (assumption all)

-- ---- from each to all

all_at : (i : ℕ) (ps : List Owner) → Each (λ p. p.runner.left.at ≡ i) ps → AllAt i ps
all_at i [] each = tt
all_at i (p ∷ ps) each = (each.0, all_at i ps each.1)

all_about : (core : List CoreOp) (i : ℕ) (op : CoreOp) (operation : Operation) (ps : List Owner)
    → Each (λ p. (landing core p.runner.left.at ≡ i) × IsReady op operation (landed core p).runner) ps → AllAbout i op operation (all_landed core ps)
all_about core i op operation [] each = tt
all_about core i op operation (p ∷ ps) each = (each.0.0, each.0.1, all_about core i op operation ps each.1)

all_go : (core : List CoreOp) (nestings : Nestings) (operation : Operation) (onward : Bool) (ps : List Owner)
    → Each (λ p. (way_of operation p.runner.has ≡ onward) × FindsFrame nestings operation (landed core p).runner) ps → AllGo nestings operation onward (all_landed core ps)
all_go core nestings operation onward [] each = tt
all_go core nestings operation onward (p ∷ ps) each = (each.0.0, each.0.1, all_go core nestings operation onward ps each.1)

-- a step of a group is done by nobody alone
no_step_alone : (nestings : Nestings) (operation : Operation) (p : Owner) → (is_shared_step operation ≡ true) ⊎ MayMoveInStep nestings operation p → is_alone operation ≡ true → ⊥
no_step_alone nestings o.Farm p step alone = cc
no_step_alone nestings o.Seq p step alone = cc
no_step_alone nestings o.Agree p step alone = cc
no_step_alone nestings (o.Frame number words) p step alone = cc
no_step_alone nestings o.Block p step alone = cc
no_step_alone nestings (o.Split by) p step alone = cc
no_step_alone nestings o.Shrink p step alone = cc
no_step_alone nestings o.End p step alone = cc
no_step_alone nestings operation p (inl shared) alone = cc
no_step_alone nestings operation p (inr moves) alone = moves

all_sized : (core : List CoreOp) (size : ℕ) (ps : List Owner) → Each (λ p. p.runner.has.level.size ≡ size) ps → AreOfSize size (all_landed core ps)
all_sized core size [] each = tt
all_sized core size (p ∷ ps) each = (each.0, all_sized core size ps each.1)

all_grouped : (core : List CoreOp) (ps : List Owner) → Each (λ p. IsInGroup (landed core p)) ps → AreInGroup (all_landed core ps)
all_grouped core [] each = tt
all_grouped core (p ∷ ps) each = (each.0, all_grouped core ps each.1)

all_started : (core : List CoreOp) (nestings : Nestings) (ps : List Owner) → Each (λ p. IsInStart nestings (landed core p)) ps → AreInStart nestings (all_landed core ps)
all_started core nestings [] each = tt
all_started core nestings (p ∷ ps) each = (each.0, all_started core nestings ps each.1)

all_parted : (core : List CoreOp) (nestings : Nestings) (ps : List Owner) → Each (λ p. IsInPart nestings (landed core p)) ps → AreInPart nestings (all_landed core ps)
all_parted core nestings [] each = tt
all_parted core nestings (p ∷ ps) each = (each.0, all_parted core nestings ps each.1)

all_divide : (core : List CoreOp) (nestings : Nestings) (by : SplitKind) (space : Space) (count : ℕ) (ps : List Owner) → Each (λ p. IsToDivide nestings by space count (landed core p)) ps
    → AllAreToDivide nestings by space count (all_landed core ps)
all_divide core nestings by space count [] each = tt
all_divide core nestings by space count (p ∷ ps) each = (each.0, all_divide core nestings by space count ps each.1)

length_add : (b : Bool) (p : Owner) (ps : List Owner) → length (add b p ps) ≤ suc (length ps)
length_add true p ps = omega arith
length_add false p ps = omega arith

length_of : (g : ℕ) (ns : List ℕ) (ps : List Owner) → length (of_node g ns ps) ≤ length ns
length_of g [] ps = omega arith
length_of g (n ∷ ns) [] = omega arith
length_of g (n ∷ ns) (p ∷ ps) =
    let rest = length_of g ns ps in
    let first = length_add (n == g) p (of_node g ns ps) in
    omega (arith, rest, first)

landed_length : (core : List CoreOp) (ps : List Owner) → length (all_landed core ps) ≡ length ps
landed_length core [] = refl
landed_length core (p ∷ ps) = ap suc (landed_length core ps)

-- at one index stands one operation
one_op : (core : List CoreOp) (i j : ℕ) (op op' : CoreOp) (x y : Operation) → i ≡ j → OpAt core i op x → OpAt core j op' y → op' ≡ op
one_op core i j op op' x y e a b = let same = sym b.stands ∙ ap (slice_get core) (sym e) ∙ a.stands in cc

one_operation : (op op' : CoreOp) (x y : Operation) → op' ≡ op → operation_of op.kind op.number ≡ Some x → operation_of op'.kind op'.number ≡ Some y → y ≡ x
one_operation op op' x y e a b = let same = sym b ∙ ap (λ k. operation_of k.kind k.number) e ∙ a in cc

module _ (core : List CoreOp) (nestings : Nestings) (processors : ℕ) (s : State Position) (nodes : List ℕ) (ps : List Owner) (g : ℕ) (few : processors ≤ 1024) (sound : IsSound processors s.tree)
    (places : ArePlaces s.tree 0 nodes) (many : length nodes ≡ processors) (runners : s.runners ≡ runners_of ps) (one : HaveOneProgram (next core) s) (spaces : MembersHaveOneSpace s) (kind : trees.kind s.tree g ≡ Some Lockstep)
    (all : AllInStep core nestings g 0 nodes ps) where
  stands : Stands nodes g
  stands = somebody processors s.tree sound nodes places many g kind

  abbrev first : ℕ
  first = stands.hart

  record First : Type 0 where
    is : Owner
    at : slice_get ps first ≡ Some is

  the_first : First
  the_first =
      let below = stands.below in
      let long = in_step_length core nestings g 0 nodes ps all in
      let e = some_elem ps first (omega (arith, below, long)) in
      record { is = e.is; at = e.at }

  abbrev p0 : Owner
  p0 = the_first.is

  in_step : (i : ℕ) (p : Owner) → slice_get nodes i ≡ Some g → slice_get ps i ≡ Some p → IsInStep core nestings i (landed core p)
  in_step i p at is = let k : 0 + i ≡ i = omega arith in subst (λ j. IsInStep core nestings j (landed core p)) k (step_there core nestings g 0 nodes ps i p all at is)

  step0 : IsInStep core nestings first (landed core p0)
  step0 = in_step first p0 stands.at the_first.at

  together : (i : ℕ) (p : Owner) → slice_get nodes i ≡ Some g → slice_get ps i ≡ Some p → AreTogether (next core) s g p.runner p0.runner
  together i p at is =
      one g i first p.runner p0.runner kind (place_member processors s.tree sound nodes places many g i at) (place_member processors s.tree sound nodes places many g first stands.at)
      (ap (λ l. slice_get l i) runners ∙ runner_at ps i p is) (ap (λ l. slice_get l first) runners ∙ runner_at ps first p0 the_first.at)

  same_at : (i : ℕ) (p : Owner) → slice_get nodes i ≡ Some g → slice_get ps i ≡ Some p → p.runner.left.at ≡ p0.runner.left.at
  same_at i p at is = ap (λ w. w.at) (together i p at is).left

  -- its operation is that of the first
  about : (i : ℕ) (p : Owner) → slice_get nodes i ≡ Some g → slice_get ps i ≡ Some p
      → (landing core p.runner.left.at ≡ landing core p0.runner.left.at) × IsReady step0.op step0.operation (landed core p).runner
  about i p at is =
      let x = in_step i p at is in
      let same = ap (landing core) (same_at i p at is) in
      let op = one_op core (landing core p0.runner.left.at) (landing core p.runner.left.at) step0.op x.op step0.operation x.operation (sym same) step0.stands x.stands in
      let operation = one_operation step0.op x.op step0.operation x.operation op step0.stands.is_read x.stands.is_read in
      (same, subst (λ y. IsReady step0.op y (landed core p).runner) operation (subst (λ y. IsReady y x.operation (landed core p).runner) op x.ready))

  one_space : (i : ℕ) (p : Owner) → slice_get nodes i ≡ Some g → slice_get ps i ≡ Some p → p.runner.has.level.space ≡ p0.runner.has.level.space
  one_space i p at is =
      (spaces g i first p.runner p0.runner kind (place_member processors s.tree sound nodes places many g i at) (place_member processors s.tree sound nodes places many g first stands.at)
      (ap (λ l. slice_get l i) runners ∙ runner_at ps i p is) (ap (λ l. slice_get l first) runners ∙ runner_at ps first p0 the_first.at)).0.space

  numbers : (i : ℕ) (p : Owner) → slice_get nodes i ≡ Some g → slice_get ps i ≡ Some p → number_of p ≡ 0 + i
  numbers i p at is = let x = in_step i p at is in let e = x.number_is in e ∙ (let k : i ≡ 0 + i = omega arith in k)

  -- what each may do by which it comes to another node
  moves_by : (done : Operation) → is_alone done ≡ false → is_shared_step done ≡ false → step0.operation ≡ done → (i : ℕ) (p : Owner) → slice_get nodes i ≡ Some g → slice_get ps i ≡ Some p
      → MayMoveInStep nestings done (landed core p)
  moves_by done not_alone not_shared e i p at is =
      let x = in_step i p at is in
      let same = ap (landing core) (same_at i p at is) in
      let op = one_op core (landing core p0.runner.left.at) (landing core p.runner.left.at) step0.op x.op step0.operation x.operation (sym same) step0.stands x.stands in
      let operation = one_operation step0.op x.op step0.operation x.operation op step0.stands.is_read x.stands.is_read ∙ e in
      ⊎_elim (λ may. absurd (false≢true (sym not_alone ∙ sym (ap is_alone operation) ∙ may.alone)))
      (λ other.
      ⊎_elim (λ shared. absurd (false≢true (sym not_shared ∙ sym (ap is_shared_step operation) ∙ shared))) (λ moves. subst (λ y. MayMoveInStep nestings y (landed core p)) operation moves) other)
      x.may

  -- all are in the group of `start` where one of them is
  started : step0.operation ≡ o.End → IsInStart nestings (landed core p0) → (i : ℕ) (p : Owner) → slice_get nodes i ≡ Some g → slice_get ps i ≡ Some p → IsInStart nestings (landed core p)
  started e start i p at is =
      ⊎_elim (λ yes. yes)
      (λ in_part.
      let none = start.none.0 in
      let saved = in_part.saved in
      let same = ap (λ j. nestings.levels (landing core j)) (same_at i p at is) in
      absurd (omega (arith, none, saved, same)))
      (moves_by o.End refl refl e i p at is)

  parted : step0.operation ≡ o.End → IsInPart nestings (landed core p0) → (i : ℕ) (p : Owner) → slice_get nodes i ≡ Some g → slice_get ps i ≡ Some p → IsInPart nestings (landed core p)
  parted e in_part i p at is =
      ⊎_elim
      (λ start.
      let none = start.none.0 in
      let saved = in_part.saved in
      let same = ap (λ j. nestings.levels (landing core j)) (same_at i p at is) in
      absurd (omega (arith, none, saved, same)))
      (λ yes. yes) (moves_by o.End refl refl e i p at is)

  next_at : next core p0.runner.left ≡ Some (step_at core (landing core p0.runner.left.at) step0.op step0.operation p0.runner.left.callers)
  next_at =
      ap (step_of core (landing core p0.runner.left.at) p0.runner.left.callers) step0.stands.stands
      ∙ ap (step_by core (landing core p0.runner.left.at) p0.runner.left.callers step0.op) step0.stands.is_read

  goes : (i : ℕ) (p : Owner) → slice_get nodes i ≡ Some g → slice_get ps i ≡ Some p → way_of step0.operation p.runner.has ≡ way_of step0.operation p0.runner.has
  goes i p at is =
      let x = together i p at is in
      way_same step0.operation p.runner.has p0.runner.has
      (λ onward e.
      x.branch (step_at core (landing core p0.runner.left.at) step0.op step0.operation p0.runner.left.callers) onward (ap (next core) x.left ∙ next_at) e)

  -- each finds the frame that all ask for
  finds : is_alone step0.operation ≡ true → (i : ℕ) (p : Owner) → slice_get nodes i ≡ Some g → slice_get ps i ≡ Some p → FindsFrame nestings step0.operation (landed core p).runner
  finds alone i p at is =
      let x = in_step i p at is in
      let same = ap (landing core) (same_at i p at is) in
      let op = one_op core (landing core p0.runner.left.at) (landing core p.runner.left.at) step0.op x.op step0.operation x.operation (sym same) step0.stands x.stands in
      let operation = one_operation step0.op x.op step0.operation x.operation op step0.stands.is_read x.stands.is_read in
      ⊎_elim (λ may. subst (λ y. FindsFrame nestings y (landed core p).runner) operation may.frame)
      (λ other. absurd (no_step_alone nestings x.operation (landed core p) other (ap is_alone operation ∙ alone)))
      x.may

  abbrev group : List Owner
  group = of_node g nodes ps

  some : length (of_node g nodes ps) ≡ 0 → ⊥
  some = there_are nodes g ps stands (in_step_length core nestings g 0 nodes ps all)

  grouped : AreInGroup (all_landed core (of_node g nodes ps))
  grouped = all_grouped core group (each_of (λ p. IsInGroup (landed core p)) g nodes ps (λ i p at is. (in_step i p at is).group))

  asked : (operation : Operation) → is_shared_step operation ≡ true → (lowest : ℕ) × (size : ℕ) × IsAskedOf operation lowest size (all_landed core (of_node g nodes ps))
  asked o.Agree shared = (0, 0, tt)
  asked o.Farm shared =
      let size = length (trees.members s.tree g) in
      let most = length-between 0 processors (trees.members s.tree g) (sound.ascending g) (λ h is. let lt = sound.within g h is in (omega arith, lt)) in
      (0, size, (omega (arith, most, few), all_sized core size group (each_of (λ p. p.runner.has.level.size ≡ size) g nodes ps (λ i p at is. (together i p at is).size))))
  asked o.Seq shared =
      let l = lowest_is core 0 g nodes ps numbers some in
      let long = length_of g nodes ps in
      let same = landed_length core group in
      (l.0, 0, (omega (arith, long, same, many, few), l.1))
  asked (o.Frame number words) shared = (0, 0, grouped)
  asked o.Block shared = (0, 0, grouped)
  asked operation shared = absurd (cc)

  few_members : length (all_landed core (of_node g nodes ps)) ≤ 1024
  few_members = let long = length_of g nodes ps in let same = landed_length core group in omega (arith, long, same, many, few)

  some_members : 1 ≤ length (all_landed core (of_node g nodes ps))
  some_members = at_least (length (all_landed core (of_node g nodes ps))) (λ none. some (sym (landed_length core group) ∙ none))
    where
      at_least : (n : ℕ) → (n ≡ 0 → ⊥) → 1 ≤ n
      at_least zero ne = absurd (ne refl)
      at_least (suc n) ne = omega arith

  -- they have one space, which they divide into as many parts
  divides : (by : SplitKind) → step0.operation ≡ o.Split by → (i : ℕ) (p : Owner) → slice_get nodes i ≡ Some g → slice_get ps i ≡ Some p
      → IsToDivide nestings by p0.runner.has.level.space (parts_of by p0) (landed core p)
  divides by e i p at is =
      let x = together i p at is in
      record {
        group = (in_step i p at is).group;
        space_is = one_space i p at is;
        count_is = x.divide (step_at core (landing core p0.runner.left.at) step0.op step0.operation p0.runner.left.callers) by (ap (next core) x.left ∙ next_at) e;
        asked = (moves_by (o.Split by) refl refl e i p at is).1;
      }

  may_move : (done : Operation) → is_alone done ≡ false → is_shared_step done ≡ false → step0.operation ≡ done → MayMoveInStep nestings done (landed core p0) → MayMove nestings done (all_landed core (of_node g nodes ps))
  may_move (o.Split by) not_alone not_shared e first_may = (
    p0.runner.has.level.space,
    parts_of by p0,
    record {
      some = some_members;
      few = few_members;
      is_space = first_may.0;
      all = all_divide core nestings by p0.runner.has.level.space (parts_of by p0) group
          (each_of (λ p. IsToDivide nestings by p0.runner.has.level.space (parts_of by p0) (landed core p)) g nodes ps (divides by e));
    },
  )
  may_move o.Shrink not_alone not_shared e first_may =
      (few_members, all_parted core nestings group (each_of (λ p. IsInPart nestings (landed core p)) g nodes ps (moves_by o.Shrink refl refl e)))
  may_move o.End not_alone not_shared e first_may =
      ⊎_elim (λ start. inl (all_started core nestings group (each_of (λ p. IsInStart nestings (landed core p)) g nodes ps (started e start))))
      (λ in_part. inr (all_parted core nestings group (each_of (λ p. IsInPart nestings (landed core p)) g nodes ps (parted e in_part)))) first_may
  may_move done not_alone not_shared e first_may = absurd first_may

  move_or : (done : Operation) → step0.operation ≡ done → MayMoveInStep nestings done (landed core p0) → MayMove nestings done (all_landed core (of_node g nodes ps))
  move_or (o.Split by) e first_may = may_move (o.Split by) refl refl e first_may
  move_or o.Shrink e first_may = may_move o.Shrink refl refl e first_may
  move_or o.End e first_may = may_move o.End refl refl e first_may
  move_or done e first_may = absurd first_may

  may : MayInGroup nestings step0.operation (all_landed core (of_node g nodes ps))
  may =
      ⊎_elim
      (λ first_may. inl (record {
        alone = first_may.alone;
        onward = way_of step0.operation p0.runner.has;
        go =
            all_go core nestings step0.operation (way_of step0.operation p0.runner.has) group
            (each_of (λ p. (way_of step0.operation p.runner.has ≡ way_of step0.operation p0.runner.has) × FindsFrame nestings step0.operation (landed core p).runner) g nodes ps
            (λ i p at is. (goes i p at is, finds first_may.alone i p at is)));
      }))
      (λ other.
      ⊎_elim
      (λ shared. let x = asked step0.operation shared in inr (inl (record { shared = shared; lowest = x.0; size = x.1; asked = x.2 })))
      (λ moves. inr (inr (move_or step0.operation refl moves)))
      other)
      step0.may

  pub have_next : HaveNext core nestings (of_node g nodes ps)
  have_next = record {
    at = p0.runner.left.at;
    all_at = all_at p0.runner.left.at group (each_of (λ p. p.runner.left.at ≡ p0.runner.left.at) g nodes ps same_at);
    op = step0.op;
    operation = step0.operation;
    stands = step0.stands;
    about =
        all_about core (landing core p0.runner.left.at) step0.op step0.operation group
        (each_of (λ p. (landing core p.runner.left.at ≡ landing core p0.runner.left.at) × IsReady step0.op step0.operation (landed core p).runner) g nodes ps about);
    may = may;
  }

pub groups_have_next : GroupsHaveNext
groups_have_next core nestings processors s nodes ps g few sound places many runners one spaces kind all =
    have_next core nestings processors s nodes ps g few sound places many runners one spaces kind all
