-- What processors have of their groups stays that of their nodes.
use Rattle.std.proofs.Common.{◌≡◌, ◌≢◌, ℕ, zero, suc, ◌+◌, ◌-◌, ◌<◌, List, [], ◌∷◌, length, Option, Some, None, Bool, true, false, sym, ap, subst, ◌∙◌, refl, arith}
use Rattle.std.specs.Prelude.{◌==◌, not, map, is_some, nat_lt, if◌then◌else◌}
use Rattle.std.proofs.lemmas.Bool.{false≢true}
use Rattle.fk_space.specs.Space.{Space, free}
use Rattle.fk_tree.specs.declared.node.Kind.TheVariants.{Lockstep}
use Rattle.fk_tree.specs.Tree as trees
use Rattle.fk_tree.specs.Tree.{Tree, place_in}
use Rattle.fk_tree.specs.Sound.{awaits, IsSound}
use Rattle.fk_tree.proofs.Shapes.{awaits-some, has_some, some-given}
use Rattle.fk_meaning_operation.specs.Kinds.{class_of}
use Rattle.fk_meaning_operation.specs.declared.kinds.Class.{Class}
use Rattle.fk_meaning_operation.specs.declared.kinds.Class.TheVariants.{Local, Request, Tree as TreeStep}
use Rattle.fk_meaning_operation.specs.declared.operation.SplitKind.{SplitKind}
use Rattle.fk_meaning_operation.specs.declared.operation.Operation.{Operation}
use Rattle.fk_meaning_operation.specs.declared.operation.Operation.TheVariants as o
use Rattle.fk_meaning_operation.specs.declared.operation.Variable.{Variable}
use Rattle.fk_meaning_operation.specs.declared.operation.Variable.TheVariants.{Private, OfFile}
use Rattle.fk_meaning_store.specs.Store.{Store, private_words, heap_start}
use Rattle.fk_meaning_store.specs.Serve as store
use Rattle.fk_meaning.specs.Processor.{Level, Call, Processor, Setting, values, last, drop_last, leave_level, to_outer}
use Rattle.fk_meaning.specs.Local.{stored, taken, unframed, to_caller, local}
use Rattle.fk_meaning.specs.Request.{request, with_answer}
use Rattle.fk_meaning.specs.Group.{does, has_room, framed, allotted, divided, with_size, stays, part as entered_part}
use Rattle.fk_meaning.specs.Round.{Step, Runner, Acting, Phase, Passes, Breaks, taking, lowest, who, agreed, settled_by, do_local, local_phase, do_request, answered, request_phase, begin}
use Rattle.fk_core.specs.declared.op.CoreOp.{CoreOp}
use Rattle.fk_core.specs.Next.{Position, next}
use Rattle.fk_sim_nodes.specs.Source as nodes
use Rattle.fk_sim_match.specs.Stage.{Stage, counts_for}
use Rattle.fk_sim_heap.specs.Count.{added_by, block_at}
use Rattle.fk_sim_block.specs.Owner.{Commons, Owner, Doing, found, as_part, is_hire, hires, asks, part, core_source}
use Rattle.fk_sim_rounds.proofs.Rounds.{IsUnit, AreUnits}
use Rattle.fk_sim_block.specs.Node.{Nestings, first_word}
use Rattle.fk_sim_match.specs.Nodes.{first_of}
use Rattle.fk_lockstep_nodes.specs.Steps.{KeepsOrDoes, StepsBy}
use Rattle.fk_sim_rounds.specs.After.{actings, tree_after, owner_after, DoesStep, AllGoOn}
use Rattle.fk_sim_rounds.specs.Rounds.{IsKnownRound}
use Rattle.fk_lockstep.proofs.Changes.{few}
use Rattle.fk_sim_rounds.proofs.TreeAfter as after
use Rattle.fk_sim_rounds.proofs.TreeAfter.{Moving, ByEnd, ByShrink, BySplit, ByNone, moving, some_move, some_leave, no_leave}
use Rattle.fk_sim_rounds.proofs.Moved.{AreWho, are_who}
use Rattle.fk_sim_rounds.proofs.Stays.{stays_put, Stays, known_stays}
use Rattle.fk_sim_rounds.specs.Next.{HasRange}
use Rattle.fk_sim_rounds.specs.Homes.{IsLevelOf, AllHome, AllNext, HomesGoOn, HomesStay, PartsAreTold, enters_part, enters_by}
use Rattle.fk_sim_rounds.proofs.Results.{counts_are_units}

-- ---- operations that leave the levels

abbrev SameLevels : Processor → Processor → Type 0
SameLevels p q = (q.number ≡ p.number) × (q.level.size ≡ p.level.size) × HasRange p.level.space q.level.space × (q.outer ≡ p.outer)

same_levels : (p : Processor) → SameLevels p p
same_levels p = (refl, refl, (refl, refl), refl)

levels_join : (p q r : Processor) → SameLevels p q → SameLevels q r → SameLevels p r
levels_join p q r a b = (b.0 ∙ a.0, b.1 ∙ a.1, (b.2.0 ∙ a.2.0, b.2.1 ∙ a.2.1), b.3 ∙ a.3)

either_levels : (b : Bool) (p x y : Processor) → SameLevels p x → SameLevels p y → SameLevels p (if b then x else y)
either_levels true p x y one other = one
either_levels false p x y one other = other

stored_levels : (v : ℕ) (variable : Variable) (p : Processor) → SameLevels p (stored v variable p)
stored_levels v (Private i) p = (refl, refl, (refl, refl), refl)
stored_levels v (OfFile i) p = (refl, refl, (refl, refl), refl)

taken_levels : (words : ℕ) (p : Processor) → SameLevels p (taken words p)
taken_levels words p =
    either_levels (words == 0) p _ _ (refl, refl, (refl, refl), refl)
    (either_levels (nat_lt (private_words - p.top) words) p _ _ (refl, refl, (refl, refl), refl) (refl, refl, (refl, refl), refl))

caller_levels : (gives : Bool) (v : ℕ) (p : Processor) (calls : List Call) → SameLevels p (to_caller gives v p calls)
caller_levels gives v p [] = (refl, refl, (refl, refl), refl)
caller_levels gives v p (c ∷ calls) = (refl, refl, (refl, refl), refl)

leave_levels : (gives framed : Bool) (p : Processor) → SameLevels p (to_caller gives (last (values p)) (unframed framed p) p.callers)
leave_levels gives true p = caller_levels gives (last (values p)) (unframed true p) p.callers
leave_levels gives false p = caller_levels gives (last (values p)) p p.callers

local_levels : (set : Setting) (operation : Operation) (p : Processor) → SameLevels p (local set operation p)
local_levels set (o.Set v) p = stored_levels (last (values p)) v p
local_levels set o.Take p = taken_levels (store.words_of (last (values p))) p
local_levels set (o.Leave gives framed) p = leave_levels gives framed p
local_levels set operation p = (refl, refl, (refl, refl), refl)

answer_levels : (operation : Operation) (v : ℕ) (p : Processor) → SameLevels p (with_answer operation v p)
answer_levels o.Read v p = (refl, refl, (refl, refl), refl)
answer_levels operation v p = (refl, refl, (refl, refl), refl)

frame_levels : (nesting words : ℕ) (p : Processor) (b : Bool)
    → SameLevels p (framed nesting p (if b then None else Some (record (p.level.space) { frames = p.level.space.frames + words })))
frame_levels nesting words p true = (refl, refl, (refl, refl), refl)
frame_levels nesting words p false = (refl, refl, (refl, refl), refl)

block_levels : (words : ℕ) (p : Processor) (b : Bool)
    → SameLevels p (allotted p (if b then None else Some (p.level.space.blocks - words, record (p.level.space) { blocks = p.level.space.blocks - words })))
block_levels words p true = (refl, refl, (refl, refl), refl)
block_levels words p false = (refl, refl, (refl, refl), refl)

pub does_levels : (operation : Operation) (highest size : ℕ) (p : Processor) → stays_put operation ≡ true → SameLevels p (does operation highest size p)
does_levels o.Begin highest size p put = absurd (cc)
does_levels (o.Split by) highest size p put = absurd (cc)
does_levels o.Shrink highest size p put = absurd (cc)
does_levels o.End highest size p put = absurd (cc)
does_levels (o.Frame nesting words) highest size p put = frame_levels nesting words p (nat_lt (free p.level.space) words)
does_levels o.Block highest size p put =
    let words = store.words_of (last (values p)) in
    either_levels (words == 0) p _ _ (refl, refl, (refl, refl), refl) (block_levels words p (nat_lt (free p.level.space) words))
does_levels operation highest size p put = (refl, refl, (refl, refl), refl)

-- ---- a part

abbrev did_in : Doing → nodes.Part Commons Doing → Doing
did_in other (nodes.Passes s d) = d
did_in other (nodes.Breaks site) = other

abbrev has_in : Processor → Phase Position → Processor
has_in other (Passes s a) = a.runner.has
has_in other (Breaks site) = other

module _ (core : List CoreOp) (setting : Setting) where
  phase_levels : (s s' : Store) (a b : Acting Position) (due : Option (Step Position)) → request_phase s a due ≡ Passes s' b → SameLevels a.runner.has b.runner.has
  phase_levels s s' a b None e = subst (SameLevels a.runner.has) (ap (has_in a.runner.has) e) (same_levels a.runner.has)
  phase_levels s s' a b (Some step) e = by (class_of step.operation) e
    where
      served : (answer : store.Answer) → answered step a.runner.has answer ≡ Passes s' b → SameLevels a.runner.has b.runner.has
      served (store.Served s1 v) e = subst (SameLevels a.runner.has) (ap (has_in a.runner.has) e) (answer_levels step.operation v a.runner.has)
      served (store.Faults kind) e = absurd (cc)

      roomy : (room : Bool) → (if room then Passes s a else Breaks step.site) ≡ Passes s' b → SameLevels a.runner.has b.runner.has
      roomy true e = subst (SameLevels a.runner.has) (ap (has_in a.runner.has) e) (same_levels a.runner.has)
      roomy false e = absurd (cc)

      by : (c : Class) → do_request s a c step ≡ Passes s' b → SameLevels a.runner.has b.runner.has
      by Local e = subst (SameLevels a.runner.has) (ap (has_in a.runner.has) e) (same_levels a.runner.has)
      by Request e = served (store.serve (request step.operation a.runner.has) s a.runner.has.number) e
      by TreeStep e = roomy (has_room step.operation a.runner.has) e

  due_levels : (r : Runner Position) (due : Option (Step Position)) → SameLevels r.has (local_phase (next core) setting (taking r due) due).runner.has
  due_levels r None = same_levels r.has
  due_levels r (Some step) = by (class_of step.operation)
    where
      by : (c : Class) → SameLevels r.has (do_local (next core) setting (taking r (Some step)) c step).runner.has
      by Local = local_levels setting step.operation r.has
      by Request = same_levels r.has
      by TreeStep = same_levels r.has

  abbrev acted : (count : ℕ) → Runner Position → Acting Position
  acted c r = let a = begin (next core) setting c r in local_phase (next core) setting a a.due

  acted_levels : (c : ℕ) (r : Runner Position) → IsUnit c → SameLevels r.has (acted c r).runner.has
  acted_levels zero r unit = same_levels r.has
  acted_levels (suc zero) r unit = due_levels r (next core r.left)
  acted_levels (suc (suc c)) r unit = absurd unit

  abbrev asked_of : Commons → Owner → Acting Position → Step Position → Bool → nodes.Part Commons Doing
  asked_of s p a step hire =
      if hire then hires (heap_start (setting.globals + setting.inputs)) s p a step else as_part s.asked p (request_phase (found s p.heap) a (Some step))

  -- what a processor asks for changes no levels
  asks_levels : (s s1 : Commons) (p : Owner) (a : Acting Position) (due : Option (Step Position)) (d : Doing) → asks core setting s p a due ≡ nodes.Passes s1 d
      → SameLevels a.runner.has d.acting.runner.has
  asks_levels s s1 p a None d e = subst (λ y. SameLevels a.runner.has y.runner.has) (ap (λ x. (did_in d x).acting) e) (same_levels a.runner.has)
  asks_levels s s1 p a (Some step) d e = by (is_hire step.operation) refl
    where
      served : (x : Phase Position) → request_phase (found s p.heap) a (Some step) ≡ x → as_part s.asked p x ≡ nodes.Passes s1 d → SameLevels a.runner.has d.acting.runner.has
      served (Passes s' b) phase f =
          subst (λ y. SameLevels a.runner.has y.runner.has) (ap (λ x. (did_in d x).acting) f) (phase_levels (found s p.heap) s' a b (Some step) phase)
      served (Breaks site) phase f = absurd (cc)

      by : (b : Bool) → is_hire step.operation ≡ b → SameLevels a.runner.has d.acting.runner.has
      by true hire =
          let f : hires (heap_start (setting.globals + setting.inputs)) s p a step ≡ nodes.Passes s1 d = sym (ap (asked_of s p a step) hire) ∙ e in
          subst (λ y. SameLevels a.runner.has y.runner.has) (ap (λ x. (did_in d x).acting) f)
          (answer_levels step.operation (block_at (heap_start (setting.globals + setting.inputs)) s.asked (added_by p.heap.full (store.words_of (last (values a.runner.has))))) a.runner.has)
      by false other = served (request_phase (found s p.heap) a (Some step)) refl (sym (ap (asked_of s p a step) other) ∙ e)

  part_levels : (c : ℕ) (s s1 : Commons) (p : Owner) (d : Doing) → IsUnit c → part core setting c s p ≡ nodes.Passes s1 d → SameLevels p.runner.has d.acting.runner.has
  part_levels c s s1 p d unit e =
      levels_join p.runner.has (acted c p.runner).runner.has d.acting.runner.has (acted_levels c p.runner unit)
      (asks_levels s s1 p (acted c p.runner) (acted c p.runner).due d e)

  abbrev AllSame : List Owner → List Doing → Type 0
  AllSame [] [] = Unit {0}
  AllSame (p ∷ ps) (d ∷ ds) = SameLevels p.runner.has d.acting.runner.has × AllSame ps ds
  AllSame ps ds = ⊥

  all_levels : (counts : List ℕ) (ps : List Owner) (s : Commons) (ds : List Doing) (s' : Commons) → AreUnits counts → nodes.AllPass (core_source core setting) counts ps s ds s' → AllSame ps ds
  all_levels [] [] s [] s' units all = tt
  all_levels (c ∷ counts) (p ∷ ps) s (d ∷ ds) s' units all = (part_levels c s all.0 p d units.0 all.1, all_levels counts ps all.0 ds s' units.1 all.2)
  all_levels counts ps s ds s' units all = absurd (assumption all)

-- ---- levels of nodes

level_same : (tree : Tree) (spaces : ℕ → Space) (n : ℕ) (l l' : Level) (outer : List Level) → l'.size ≡ l.size → HasRange l.space l'.space → IsLevelOf tree spaces n l outer → IsLevelOf tree spaces n l' outer
level_same tree spaces n l l' [] size range is = (is.0, size ∙ is.1)
level_same tree spaces n l l' (k ∷ outer) size range is = (is.0, (range.0 ∙ is.1.0, range.1 ∙ is.1.1), size ∙ is.2, is.3)

levels_same : (tree : Tree) (spaces : ℕ → Space) (n : ℕ) (p q : Processor) → SameLevels p q → IsLevelOf tree spaces n p.level p.outer → IsLevelOf tree spaces n q.level q.outer
levels_same tree spaces n p q same is = subst (IsLevelOf tree spaces n q.level) (sym same.3) (level_same tree spaces n p.level q.level p.outer same.1 same.2 is)

-- ---- all processors

-- what the step of one that doesn't move makes of it
settled_levels : (acting : List (Acting Position)) (old new : Tree) (r : Runner Position) (due : Option (Step Position)) → Stays due → SameLevels r.has (settled_by acting old new r due).has
settled_levels acting old new r None stay = same_levels r.has
settled_levels acting old new r (Some step) stay =
    let h = r.has.number in
    let members = trees.members old (old.places h) in
    does_levels step.operation (agreed acting members) (length (trees.members new (new.places h))) r.has stay

-- after a known round
module _ (core : List CoreOp) (setting : Setting) (spaces : ℕ → Space) (old : Tree) (sound : IsSound setting.processors old) (did : List Doing) (round : IsKnownRound old did)
    (long : length did ≡ setting.processors) where
  abbrev new : Tree
  new = tree_after old did

  -- a node that waits loses nobody
  waits_on : (k n : ℕ) → awaits (trees.kind old k) n ≡ true → some_leave (round.does k) ≡ false
  waits_on k n waits = by_does (round.does k) refl
    where
      no_group : trees.kind old k ≡ Some Lockstep → ⊥
      no_group lock = false≢true (sym (ap (λ x. awaits x n) lock) ∙ waits)

      by_does : (x : Option Operation) → round.does k ≡ x → some_leave x ≡ false
      by_does None is = refl
      by_does (Some o.End) is = absurd (no_group (round.known k o.End is))
      by_does (Some o.Shrink) is = absurd (no_group (round.known k o.Shrink is).0)
      by_does (Some operation) is = refl

  -- around a node that loses nobody all levels stay
  level_after : (n : ℕ) (l : Level) (outer : List Level) → old.nodes n ≢ None → some_leave (round.does n) ≡ false → IsLevelOf old spaces n l outer → IsLevelOf (tree_after old did) spaces n l outer
  level_after n l [] some ne is =
      (is.0, is.1 ∙ ap (λ ms. length ms) (sym (after.same_in setting.processors old sound did round long n (some-given setting.processors old sound n some) ne).members))
  level_after n l (k ∷ outer) some ne is =
      let same = after.same_in setting.processors old sound did round long n (some-given setting.processors old sound n some) ne in
      let waits : awaits (trees.kind old (trees.parent old n)) n ≡ true = sound.awaited n is.0 some in (
        is.0,
        is.1,
        is.2 ∙ ap (λ ms. length ms) (sym same.members),
        subst (λ j. IsLevelOf (tree_after old did) spaces j k outer) (sym same.parent)
            (level_after (trees.parent old n) k outer (awaits-some old (trees.parent old n) n waits) (waits_on (trees.parent old n) n waits) is.3),
      )

  -- of a member that leaves a group
  left_home : (g : ℕ) → trees.kind old g ≡ Some Lockstep → (p : Processor) (outer : List Level) → IsLevelOf old spaces g p.level outer
      → IsLevelOf (tree_after old did) spaces (trees.parent old g) (to_outer p outer).level (to_outer p outer).outer
  left_home g kind p [] is = absurd (after.not_root setting.processors old sound g kind is.0)
  left_home g kind p (k ∷ outer) is =
      let waits = after.parent_waits setting.processors old sound g kind in
      level_after (trees.parent old g) k outer (awaits-some old (trees.parent old g) g waits) (waits_on (trees.parent old g) g waits) is.3

  -- of one that stays in a loop, whose part has another size
  stayed_home : (g size : ℕ) → round.does g ≡ Some o.Shrink → (tree_after old did).nodes g ≢ None → size ≡ length (trees.members (tree_after old did) g) → (l : Level) (outer : List Level)
      → IsLevelOf old spaces g l outer → IsLevelOf (tree_after old did) spaces g (record l { size = size }) outer
  stayed_home g size is some size_is l [] level = absurd (after.not_root setting.processors old sound g (round.known g o.Shrink is).0 level.0)
  stayed_home g size is some size_is l (k ∷ outer) level =
      let waits = after.parent_waits setting.processors old sound g (round.known g o.Shrink is).0 in (
        level.0,
        level.1,
        size_is,
        subst (λ j. IsLevelOf (tree_after old did) spaces j k outer) (sym (after.loop_parent setting.processors old sound did round long g is some))
            (level_after (trees.parent old g) k outer (awaits-some old (trees.parent old g) g waits) (waits_on (trees.parent old g) g waits) level.3),
      )

  outer_number : (p : Processor) (outer : List Level) → (to_outer p outer).number ≡ p.number
  outer_number p [] = refl
  outer_number p (k ∷ outer) = refl

  -- what a step makes of one that does it
  does_it : (operation : Operation) (r : Runner Position) (due : Option (Step Position)) → DoesStep operation due
      → (settled_by (actings did) old (tree_after old did) r due).has
      ≡ does operation (agreed (actings did) (trees.members old (old.places r.has.number))) (length (trees.members (tree_after old did) ((tree_after old did).places r.has.number))) r.has
  does_it operation r None does' = absurd does'
  does_it operation r (Some step) does' =
      let h = r.has.number in
      let members = trees.members old (old.places h) in
      ap (λ op. does op (agreed (actings did) members) (length (trees.members (tree_after old did) ((tree_after old did).places h))) r.has) does'

  -- ---- one processor

  module _ (number : ℕ) (d : Doing) (lt : number < setting.processors) (number_is : d.acting.runner.has.number ≡ number) (who_is : who (actings did) number ≡ d.acting.runner.has)
      (step : KeepsOrDoes (round.does (old.places number)) d.acting.due) (was : IsLevelOf old spaces (old.places number) d.acting.runner.has.level d.acting.runner.has.outer)
      (told : enters_by d.acting.due d.acting.runner.has ≡ true
      → HasRange (spaces ((tree_after old did).places number)) (owner_after (actings did) old (tree_after old did) d).runner.has.level.space) where
    abbrev g : ℕ
    g = old.places number

    abbrev r : Runner Position
    r = d.acting.runner

    abbrev q : Processor
    q = (settled_by (actings did) old (tree_after old did) d.acting.runner d.acting.due).has

    abbrev size : ℕ
    size = length (trees.members (tree_after old did) ((tree_after old did).places d.acting.runner.has.number))

    abbrev highest : ℕ
    highest = agreed (actings did) (trees.members old (old.places d.acting.runner.has.number))

    abbrev AtHome : Processor → Type 0
    AtHome x = (x.number ≡ number) × IsLevelOf (tree_after old did) spaces ((tree_after old did).places number) x.level x.outer

    size_is : (k : ℕ) → (tree_after old did).places number ≡ k → size ≡ length (trees.members (tree_after old did) k)
    size_is k at = ap (λ h. length (trees.members (tree_after old did) ((tree_after old did).places h))) number_is ∙ ap (λ j. length (trees.members (tree_after old did) j)) at

    some_here : old.nodes g ≢ None
    some_here = has_some old g number (sound.placed number lt).member

    here : (operation : Operation) → round.does g ≡ Some operation → q ≡ does operation highest size r.has
    here operation is = does_it operation r d.acting.due (subst (λ x. KeepsOrDoes x d.acting.due) is step)

    gone_home : trees.kind old g ≡ Some Lockstep → (x : Processor) → x.number ≡ r.has.number → x.level ≡ r.has.level → x.outer ≡ r.has.outer
        → (tree_after old did).places number ≡ trees.parent old g → AtHome (to_outer x x.outer)
    gone_home kind x same_number same_level same_outer at = (
      outer_number x x.outer ∙ same_number ∙ number_is,
      subst (λ k. IsLevelOf (tree_after old did) spaces k (to_outer x x.outer).level (to_outer x x.outer).outer) (sym at)
          (left_home g kind x x.outer (subst (IsLevelOf old spaces g x.level) (sym same_outer) (subst (λ l. IsLevelOf old spaces g l r.has.outer) (sym same_level) was))),
    )

    -- a group ends
    at_end : round.does g ≡ Some o.End → AtHome q
    at_end is =
        subst AtHome (sym (here o.End is)) (gone_home (round.known g o.End is) r.has refl refl refl (after.leaves setting.processors old sound did round long number lt is))

    -- some leave a loop
    at_shrink : round.does g ≡ Some o.Shrink → (b : Bool) → stays r.has ≡ b → AtHome q
    at_shrink is true e =
        let at = after.leaves_loop setting.processors old sound did round long number lt is
        ∙ ap (λ x. if not (stays x) then trees.parent old g else g) who_is ∙ ap (λ b. if not b then trees.parent old g else g) e in
        let member = after.in_loop setting.processors old sound did round long g number is (sound.placed number lt).member (ap stays who_is ∙ e) in
        let some = has_some (tree_after old did) g number member in
        subst AtHome (sym (here o.Shrink is ∙ ap (λ b. if b then with_size size (drop_last 1 r.has) else leave_level (drop_last 1 r.has)) e))
        (number_is, subst (λ k. IsLevelOf (tree_after old did) spaces k (record (r.has.level) { size = size }) r.has.outer) (sym at) (stayed_home g size is some (size_is g at) r.has.level r.has.outer was))
    at_shrink is false e =
        let at = after.leaves_loop setting.processors old sound did round long number lt is
        ∙ ap (λ x. if not (stays x) then trees.parent old g else g) who_is ∙ ap (λ b. if not b then trees.parent old g else g) e in
        subst AtHome (sym (here o.Shrink is ∙ ap (λ b. if b then with_size size (drop_last 1 r.has) else leave_level (drop_last 1 r.has)) e))
        (gone_home (round.known g o.Shrink is).0 (drop_last 1 r.has) refl refl refl at)

    -- some enter parts
    at_split : (by : SplitKind) → round.does g ≡ Some (o.Split by) → (x : Option ℕ) → entered_part by (values r.has) ≡ x → AtHome q
    at_split by is None e =
        let at = after.enters setting.processors old sound did round long number by lt is
        ∙ ap (λ y. place_in g (after.first_of_parts setting.processors old sound did round long g) (entered_part by (values y))) who_is
        ∙ ap (place_in g (after.first_of_parts setting.processors old sound did round long g)) e in
        subst AtHome (sym (here (o.Split by) is ∙ ap (divided by size r.has) e))
        (number_is, subst (λ k. IsLevelOf (tree_after old did) spaces k r.has.level r.has.outer) (sym at) (level_after g r.has.level r.has.outer some_here (ap some_leave is) was))
    at_split by is (Some i) e =
        let first = after.first_of_parts setting.processors old sound did round long g in
        let m = first + i in
        let at : (tree_after old did).places number ≡ m
        = after.enters setting.processors old sound did round long number by lt is ∙ ap (λ y. place_in g first (entered_part by (values y))) who_is ∙ ap (place_in g first) e in
        let x = after.part_of_split setting.processors old sound did round long g by i is
        (few by (values (who (actings did) number)) (values (who (actings did) (lowest (trees.members old g)))) i (round.divide g number by is (sound.placed number lt).member)
        (ap (λ y. entered_part by (values y)) who_is ∙ e)) in
        let member = after.in_part setting.processors old sound did round long m number x.0 (subst (λ k. trees.is_member number (trees.members old k) ≡ true) (sym x.1) (sound.placed number lt).member)
        (x.2 number (ap (λ y. entered_part by (values y)) who_is ∙ e)) in
        let some = has_some (tree_after old did) m number member in
        let up : trees.parent (tree_after old did) m ≡ g = after.part_parent setting.processors old sound did round long m x.0 some ∙ x.1 in
        let given = some-given setting.processors old sound g some_here in
        let from = after.parts_above setting.processors old sound did round long g in
        let q_is : q ≡ divided by size r.has (Some i) = here (o.Split by) is ∙ ap (divided by size r.has) e in
        let enters' : enters_by d.acting.due r.has ≡ true = entering d.acting.due (subst (λ y. KeepsOrDoes y d.acting.due) is step) e in
        let range = subst (λ y. HasRange (spaces ((tree_after old did).places number)) y.level.space) q_is (told enters') in
        subst AtHome (sym q_is) (
          number_is,
          (
            λ none. omega (arith, none, at, given, from),
            range,
            size_is ((tree_after old did).places number) refl,
            subst (λ k. IsLevelOf (tree_after old did) spaces k r.has.level r.has.outer) (sym (ap (trees.parent (tree_after old did)) at ∙ up))
                (level_after g r.has.level r.has.outer some_here (ap some_leave is) was),
          ),
        )
      where
        entering : (due : Option (Step Position)) → DoesStep (o.Split by) due → entered_part by (values r.has) ≡ Some i → enters_by due r.has ≡ true
        entering None does' f = absurd does'
        entering (Some step') does' f = ap (λ op. enters_part op r.has) does' ∙ ap (λ y. is_some y) f

    -- nobody moves
    at_rest : some_move (round.does g) ≡ false → AtHome q
    at_rest ne =
        let same = settled_levels (actings did) old (tree_after old did) r d.acting.due (known_stays old round.does g d.acting.due (round.known g) ne step) in
        let past = level_after g r.has.level r.has.outer some_here (no_leave (round.does g) ne) was in (
          same.0 ∙ number_is,
          levels_same (tree_after old did) spaces ((tree_after old did).places number) r.has q same
              (subst (λ k. IsLevelOf (tree_after old did) spaces k r.has.level r.has.outer) (sym (after.stays_there setting.processors old sound did round long number ne)) past),
        )

    one_home : AtHome q
    one_home = by_move (moving (round.does g))
      where
        by_move : Moving (round.does g) → AtHome q
        by_move (ByEnd is) = at_end is
        by_move (ByShrink is) = at_shrink is (stays r.has) refl
        by_move (BySplit by is) = at_split by is (entered_part by (values r.has)) refl
        by_move (ByNone ne) = at_rest ne

  all_home : (number : ℕ) (ps : List Owner) (ds : List Doing) → number + length ds ≡ setting.processors → StepsBy old round.does number (actings ds) → AreWho (actings did) number ds
      → AllHome old spaces number ps → AllSame core setting ps ds → PartsAreTold (tree_after old did) spaces number ds (map (owner_after (actings did) old (tree_after old did)) ds)
      → AllHome (tree_after old did) spaces number (map (owner_after (actings did) old (tree_after old did)) ds)
  all_home number [] [] many steps who_are home levels told = tt
  all_home number (p ∷ ps) (d ∷ ds) many steps who_are home levels told =
      let r = d.acting.runner in
      let was : IsLevelOf old spaces (old.places number) r.has.level r.has.outer = levels_same old spaces (old.places number) p.runner.has r.has levels.0 home.1 in
      let one = one_home number d (omega (arith, many)) (levels.0.0 ∙ home.0) who_are.0 steps.1 was told.0 in
      (one.0, one.1, all_home (suc number) ps ds (omega (arith, many)) steps.2 who_are.1 home.2 levels.1 told.1)
  all_home number ps ds many steps who_are home levels told = absurd (assumption levels)

pub homes_stay : HomesStay
homes_stay core setting tree spaces stages ps did shared shared' sound long home ones all known told =
    let levels = all_levels core setting (counts_for stages) ps shared did shared' (counts_are_units stages ones) all in
    all_home core setting spaces tree sound did known long 0 ps did (omega (arith, long)) known.steps (are_who did) home levels told

-- ---- what is to be known of who goes on

home_words : (spaces : ℕ → Space) (n : ℕ) (low : ℕ) → n ≢ 0 → low ≡ (spaces n).low → low ≡ first_of spaces n
home_words spaces zero low ne e = absurd (ne refl)
home_words spaces (suc n) low ne e = e

at_home : (tree : Tree) (spaces : ℕ → Space) (n : ℕ) (l : Level) (outer : List Level) → IsLevelOf tree spaces n l outer
    → (first_word l outer ≡ first_of spaces n) × (l.size ≡ length (trees.members tree n)) × (n ≢ 0 → HasRange (spaces n) l.space)
at_home tree spaces n l [] is = (ap (first_of spaces) (sym is.0), is.1, λ ne. absurd (ne is.0))
at_home tree spaces n l (k ∷ outer) is = (home_words spaces n l.space.low is.0 is.1.0, is.2, λ ne. is.1)

all_on : (core : List CoreOp) (nestings : Nestings) (setting : Setting) (tree : Tree) (spaces : ℕ → Space) (number : ℕ) (afters : List (Option Stage)) (ds : List Doing) (ps : List Owner) → AllHome tree spaces number ps → AllNext core nestings setting tree number afters ds ps
    → AllGoOn core nestings setting tree spaces number afters ds ps
all_on core nestings setting tree spaces number [] [] [] home on = tt
all_on core nestings setting tree spaces number (a ∷ afters) (d ∷ ds) (p ∷ ps) home on =
    let at = at_home tree spaces (tree.places number) p.runner.has.level p.runner.has.outer home.1 in
    (record { number_is = home.0; words = at.0; size = at.1; range = at.2 }, on.0, all_on core nestings setting tree spaces (suc number) afters ds ps home.2 on.1)
all_on core nestings setting tree spaces number afters ds ps home on = absurd (assumption on)

pub homes_go_on : HomesGoOn
homes_go_on core nestings setting tree spaces afters ds ps home on = all_on core nestings setting tree spaces 0 afters ds ps home on
