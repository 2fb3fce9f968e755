-- Blocks that keep the words of frames keep their harts in their nodes.
use Rattle.std.proofs.Common.{◌≡◌, ℕ, zero, suc, ◌+◌, ◌-◌, ◌*◌, ◌<◌, ◌≤◌, List, [], ◌∷◌, length, Bool, true, false, Option, sym, ap, subst, ◌∙◌, arith, refl, inl, inr, ⊎_elim, Some, None}
use Rattle.std.specs.Prelude.{◌==◌, nat_lt, if◌then◌else◌, drop}
use Rattle.std.proofs.lemmas.Bool.{eqb-true}
use Rattle.fk_meaning_operation.specs.Kinds.{class_of}
use Rattle.fk_meaning_operation.specs.declared.kinds.Class.{Class}
use Rattle.fk_meaning_operation.specs.declared.kinds.Class.TheVariants.{Local, Request, Tree}
use Rattle.fk_meaning_operation.specs.declared.operation.Operation.{Operation}
use Rattle.fk_meaning_operation.specs.declared.operation.Operation.TheVariants.{Push, Get, Set, Branch, Take, Leave, Enter, Halt, End}
use Rattle.fk_meaning_operation.specs.declared.operation.Variable.TheVariants.{Private, OfFile}
use Rattle.fk_meaning_operation.specs.declared.operation.OwnValue.TheVariants.{FrameAddress}
use Rattle.fk_sim_heap.specs.Count.{added_by, block_at}
use Rattle.fk_meaning_store.specs.Store.{private_words, private_address, heap_start}
use Rattle.fk_meaning_store.specs.Serve.{Answer, Served, Faults as Refused, serve, words_of}
use Rattle.fk_meaning.specs.Processor.{Level, Processor, Setting, values, last, in_place}
use Rattle.fk_meaning.specs.Local.{local, is_onward}
use Rattle.fk_meaning.specs.Request.{request, with_answer}
use Rattle.fk_meaning.specs.Round.{answered}
use Rattle.fk_core.specs.declared.op.CoreOp.{CoreOp}
use Rattle.fk_core.specs.Next.{Position, position, follows}
use Rattle.fk_image.specs.declared.Image.{Image}
use Rattle.fk_machine.specs.Hart.{Hart, Setting as MachineSetting}
use Rattle.fk_sim_nodes.specs.Node.{Member}
use Rattle.fk_sim_nodes.specs.Source.{Part, Passes, Breaks}
use Rattle.fk_sim_nodes.specs.OneHart.{OneDoes}
use Rattle.fk_sim_block.specs.Owner.{Commons, Owner, Doing, number_of, owner_of, found, as_part, is_hire, part, core_source}
use Rattle.fk_sim_block.specs.Stands.{Places, frame_start, zero_register, FrameInHart}
use Rattle.fk_sim_block.specs.Next.{OpAt, step_at}
use Rattle.fk_sim_block.specs.Ready.{is_alone}
use Rattle.fk_sim_block.specs.Suits.{nothing, writes}
use Rattle.fk_sim_block.specs.Block.{Enters, HasDone, member_of}
use Rattle.fk_gen.specs.Parts.{node_by, FindsPart}
use Rattle.fk_gen.specs.Keeps.{Keeps, DoesAnd, peak}
use Rattle.fk_gen.specs.Lines.{label_of}
use Rattle.fk_gen.proofs.Standing.{groups_go, stands_with}
use Rattle.fk_gen.proofs.Jumps.{jumps, jal_private}
use Rattle.fk_gen.proofs.Does.{local_part, asks, hired_part}
use Rattle.fk_sim_block.specs.Node.{Nestings, StandsInNode, KnowsSpace, HasOuter, HasLevelBy, HasSaved, HasNestings, LieBelow, saved_at, first_word, control_address, node_register, body_register, frames_register, blocks_register, frames_word}
use Rattle.fk_sim_block.proofs.Spaces.{space_kept}
use Rattle.fk_sim_block.specs.Lockstep.{IsMember}
use Rattle.fk_sim_block.specs.Law.{Cycles, BlockDoesInNode, HasDoneInNode, way_by, way_of}
use Rattle.fk_sim_block.specs.Found.{FindsFrame}
use Rattle.fk_gen_group.specs.Laws.{levels_at}
use Rattle.fk_gen_group.specs.InNode.{HasLevels, JumpsStayInNode}
use Rattle.fk_gen_group.proofs.Levels.{starts_behind, lies_below, outer_by, many_callers}
use Rattle.fk_gen_group.proofs.Behind.{body_kept}

-- ---- a hart behind a block

pub record SameGroup (p q : Processor) : Type 0 where
  pub number : q.number ≡ p.number
  pub level : q.level ≡ p.level
  pub outer : q.outer ≡ p.outer

-- one that keeps a0 to a3, and finds the levels round its processor, which is in the same group
pub stands_in_node : (places : Places) (nestings : Nestings) (setting : Setting) (runs : Option ℕ) (first : ℕ) (m : Member) (p q : Owner) (h' : Hart)
    → IsMember places nestings setting runs first m p → h'.registers node_register ≡ m.hart.registers node_register → h'.registers body_register ≡ m.hart.registers body_register → h'.registers frames_register ≡ m.hart.registers frames_register
    → h'.registers blocks_register ≡ m.hart.registers blocks_register → SameGroup p.runner.has q.runner.has
    → HasNestings places nestings setting.processors (number_of p) h'.local q.runner.left.at q.runner.left.callers q.runner.has.callers p.runner.has.outer
    → StandsInNode places nestings setting runs q h'
stands_in_node places nestings setting runs first m p q h' member node body frames blocks group held = record {
  node =
      node ∙ member.node.node
      ∙ sym (ap (λ l. control_address (first_word l q.runner.has.outer)) group.level ∙ ap (λ o. control_address (first_word p.runner.has.level o)) group.outer);
  body = body_kept runs (m.hart.registers body_register) (h'.registers body_register) body member.node.body;
  space =
      subst (λ l. KnowsSpace l q.runner.has.outer h') (sym group.level)
      (subst (λ o. KnowsSpace p.runner.has.level o h') (sym group.outer) (space_kept p.runner.has.level p.runner.has.outer m.hart h' frames blocks member.node.space));
  outer =
      subst (λ k. HasNestings places nestings setting.processors k h'.local q.runner.left.at q.runner.left.callers q.runner.has.callers q.runner.has.outer) (sym group.number)
      (subst (λ o. HasNestings places nestings setting.processors (number_of p) h'.local q.runner.left.at q.runner.left.callers q.runner.has.callers o) (sym group.outer) held);
}

-- one whose processor's group has its frames end elsewhere
abbrev with_frames : (frames : ℕ) → Level → Level
with_frames frames level = record level { space = record (level.space) { frames = frames } }

word_with_frames : (frames : ℕ) (level : Level) (outer : List Level) → first_word (with_frames frames level) outer ≡ first_word level outer
word_with_frames frames level [] = refl
word_with_frames frames level (o ∷ outer) = refl

space_with_frames : (frames : ℕ) (level : Level) (outer : List Level) (h h' : Hart) → h'.registers frames_register ≡ control_address frames → h'.registers blocks_register ≡ h.registers blocks_register
    → KnowsSpace level outer h → KnowsSpace (with_frames frames level) outer h'
space_with_frames frames level [] h h' e f known = tt
space_with_frames frames level (o ∷ outer) h h' e f known = (e, f ∙ known.1)

pub stands_with_frames : (places : Places) (nestings : Nestings) (setting : Setting) (runs : Option ℕ) (first frames : ℕ) (m : Member) (p q : Owner) (h' : Hart)
    → IsMember places nestings setting runs first m p → h'.registers node_register ≡ m.hart.registers node_register → h'.registers body_register ≡ m.hart.registers body_register → h'.registers frames_register ≡ control_address frames
    → h'.registers blocks_register ≡ m.hart.registers blocks_register → q.runner.has.number ≡ p.runner.has.number → q.runner.has.level ≡ with_frames frames p.runner.has.level
    → q.runner.has.outer ≡ p.runner.has.outer
    → HasNestings places nestings setting.processors (number_of p) h'.local q.runner.left.at q.runner.left.callers q.runner.has.callers p.runner.has.outer
    → StandsInNode places nestings setting runs q h'
stands_with_frames places nestings setting runs first frames m p q h' member node body end blocks number level outer held =
    let l = with_frames frames p.runner.has.level in
    record {
      node =
          node ∙ member.node.node ∙ ap control_address (sym (word_with_frames frames p.runner.has.level p.runner.has.outer))
          ∙ sym (ap (λ x. control_address (first_word x q.runner.has.outer)) level ∙ ap (λ o. control_address (first_word l o)) outer);
      body = body_kept runs (m.hart.registers body_register) (h'.registers body_register) body member.node.body;
      space =
          subst (λ x. KnowsSpace x q.runner.has.outer h') (sym level)
          (subst (λ o. KnowsSpace l o h') (sym outer) (space_with_frames frames p.runner.has.level p.runner.has.outer m.hart h' end blocks member.node.space));
      outer =
          subst (λ k. HasNestings places nestings setting.processors k h'.local q.runner.left.at q.runner.left.callers q.runner.has.callers q.runner.has.outer) (sym number)
          (subst (λ o. HasNestings places nestings setting.processors (number_of p) h'.local q.runner.left.at q.runner.left.callers q.runner.has.callers o) (sym outer) held);
    }

module _ (core : List CoreOp) (image : Image) (places : Places) (nestings : Nestings) (setting : Setting) (p : Owner) where
  -- a block whose hart is in its node whatever its processor has done
  pub does_in_node : (t : MachineSetting) (runs : Option ℕ) (before behind : ℕ) (m : Member) (Also : Hart → Type 0) → DoesAnd core image places setting t 1 p m.hart before behind Also
      → ((h' : Hart) (d : Doing) (s s' : Commons) → part core setting 1 s p ≡ Passes s' d → HasDone core image places d h' → Also h' → StandsInNode places nestings setting runs (owner_of d) h')
      → OneDoes (core_source core setting) image t 1 before behind (member_of p m.hart) p (λ h d. HasDoneInNode core image places nestings setting runs d h)
  does_in_node t runs before behind m Also does in_node =
      let one = does.does in
      record {
        committing = one.committing;
        runs = one.runs;
        commits = record {
          live = one.commits.live;
          counted = one.commits.counted;
          does = λ s.
              ⊎_elim
              (λ v. inl (record {
                hart = v.hart;
                store = v.store;
                done = v.done;
                part = v.part;
                goes = v.goes;
                follows = (
                  v.follows.0,
                  v.follows.1,
                  record { done = v.follows.2.0; node = in_node v.follows.0 v.done s v.store v.part v.follows.2.0 v.follows.2.1 },
                );
              }))
              inr
              (one.commits.does s);
        };
      }

-- operations that make no call, and end none
abbrev pub stays_in_call : Operation → Bool
stays_in_call (Leave gives framed) = false
stays_in_call (Enter arguments) = false
stays_in_call operation = true

abbrev member_with : (number : ℕ) → Hart → Member
member_with number h = record { number = number; hart = h }

-- ---- what an operation leaves of its processor

-- one that makes no call and ends none
pub record SameCalls (p q : Processor) : Type 0 where
  pub group : SameGroup p q
  pub callers : q.callers ≡ p.callers

taken_same : (p : Processor) (none few : Bool) (words : ℕ)
    → SameCalls p (if none then in_place 0 p else if few then in_place 0 p else in_place (private_address p.top) (record p { top = p.top + words }))
taken_same p true few words = record { group = record { number = refl; level = refl; outer = refl }; callers = refl }
taken_same p false true words = record { group = record { number = refl; level = refl; outer = refl }; callers = refl }
taken_same p false false words = record { group = record { number = refl; level = refl; outer = refl }; callers = refl }

local_same : (setting : Setting) (operation : Operation) (p : Processor) → stays_in_call operation ≡ true → SameCalls p (local setting operation p)
local_same setting (Set (Private i)) p e = record { group = record { number = refl; level = refl; outer = refl }; callers = refl }
local_same setting (Set (OfFile i)) p e = record { group = record { number = refl; level = refl; outer = refl }; callers = refl }
local_same setting Take p e = let words = words_of (last (values p)) in taken_same p (words == 0) (nat_lt (private_words - p.top) words) words
local_same setting (Leave gives framed) p e = absurd (cc)
local_same setting operation p e = record { group = record { number = refl; level = refl; outer = refl }; callers = refl }

answer_same : (operation : Operation) (answer : ℕ) (p : Processor) → stays_in_call operation ≡ true → SameCalls p (with_answer operation answer p)
answer_same (Enter n) answer p e = absurd (cc)
answer_same operation answer p e = record { group = record { number = refl; level = refl; outer = refl }; callers = refl }

-- it goes on in the same call
stays_at : (core : List CoreOp) (operation : Operation) (i target : ℕ) (callers : List ℕ) (onward : Bool) → is_alone operation ≡ true → stays_in_call operation ≡ true
    → follows core operation i target callers onward ≡ position (follows core operation i target [] onward).at callers
stays_at core (Leave gives framed) i target callers onward alone e = absurd (cc)
stays_at core (Enter n) i target callers onward alone e = absurd (cc)
stays_at core Halt i target callers onward alone e = absurd (cc)
stays_at core End i target callers onward alone e = absurd (cc)
stays_at core operation i target callers true alone e = refl
stays_at core operation i target callers false alone e = refl

onward_of_request : (operation : Operation) (p : Processor) → class_of operation ≡ Request → is_onward operation p ≡ true
onward_of_request (Branch onward) p e = absurd (cc)
onward_of_request operation p e = refl

pub never_tree : (operation : Operation) → is_alone operation ≡ true → class_of operation ≡ Tree → ⊥
never_tree (Push n) alone e = cc
never_tree operation alone e = cc

pub way_is : (operation : Operation) (p : Processor) → is_alone operation ≡ true → is_onward operation p ≡ way_of operation p
way_is operation p alone = by (class_of operation) refl
  where
    by : (c : Class) → class_of operation ≡ c → is_onward operation p ≡ way_of operation p
    by Local e = sym (ap (λ c. way_by c operation p) e)
    by Request e = onward_of_request operation p e ∙ sym (ap (λ c. way_by c operation p) e)
    by Tree e = absurd (never_tree operation alone e)

-- what is done in a part, where it passes
abbrev pub done_of : Part Commons Doing → Doing → Doing
done_of (Passes s d) e = d
done_of (Breaks site) e = e

-- ---- a block

module _ (core : List CoreOp) (image : Image) (places : Places) (nestings : Nestings) (i : ℕ) (op : CoreOp) (operation : Operation) (stands : OpAt core i op operation)
    (alone : is_alone operation ≡ true) (stays : stays_in_call operation ≡ true) (levels : HasLevels core places nestings i op operation) (setting : Setting) (p : Owner) where
  -- what has become of a processor is in the same group and call
  record IsSame (d : Doing) : Type 0 where
    pub onward : Bool
    pub same : SameCalls p.runner.has (owner_of d).runner.has
    pub left : (owner_of d).runner.left ≡ position (follows core operation i op.target [] onward).at p.runner.left.callers

  by_answer : (d : Doing) (s s' : Commons) (o : Answer) → as_part s.asked p (answered (step_at core i op operation p.runner.left.callers) p.runner.has o) ≡ Passes s' d → IsSame d
  by_answer d s s' (Served store answer) e =
      let same = ap (λ y. done_of y d) e in
      subst IsSame same (record {
        onward = true;
        same = answer_same operation answer p.runner.has stays;
        left = stays_at core operation i op.target p.runner.left.callers true alone stays;
      })
  by_answer d s s' (Refused kind) e = absurd (cc)

  did : (d : Doing) (s s' : Commons) → p.runner.left.at ≡ i → part core setting 1 s p ≡ Passes s' d → IsSame d
  did d s s' at e = by (class_of operation) refl
    where
      by : (c : Class) → class_of operation ≡ c → IsSame d
      by Local kind =
          let same = ap (λ y. done_of y d) (sym (local_part core image places setting i op operation s p stands kind at) ∙ e) in
          subst IsSame same (record {
            onward = is_onward operation p.runner.has;
            same = local_same setting operation p.runner.has stays;
            left = stays_at core operation i op.target p.runner.left.callers (is_onward operation p.runner.has) alone stays;
          })
      by Request kind = ask (is_hire operation) refl
        where
          ask : (b : Bool) → is_hire operation ≡ b → IsSame d
          ask false other = by_answer d s s' (serve (request operation p.runner.has) (found s p.heap) (number_of p)) (sym (asks core image places setting i op operation s p stands kind other at) ∙ e)
          ask true hire =
              let same = ap (λ y. done_of y d) (sym (hired_part core image places setting i op operation s p stands kind hire at) ∙ e) in
              subst IsSame same (record {
                onward = true;
                same = answer_same operation (block_at (heap_start (setting.globals + setting.inputs)) s.asked (added_by p.heap.full (words_of (last (values p.runner.has))))) p.runner.has stays;
                left = stays_at core operation i op.target p.runner.left.callers true alone stays;
              })
      by Tree kind = absurd (never_tree operation alone kind)

  -- the header keeps where the frames of a level end
  header_keeps : (n : ℕ) (h h' : Hart) → Keeps places n (peak operation op.depth) (writes operation) h h' → places.frames.of_file ≤ 56 → peak operation op.depth + 7 ≤ 64
      → h'.local (frames_word n) ≡ h.local (frames_word n)
  header_keeps zero h h' keeps few room = keeps.header 4 (omega arith) (λ e. omega arith)
  header_keeps (suc n) h h' keeps few room = keeps.words (frames_word (suc n)) (omega arith) (omega arith) (λ word w e. omega arith)

  main_keeps : (n : ℕ) (h h' : Hart) → Keeps places n (peak operation op.depth) (writes operation) h h' → h'.local 4 ≡ h.local 4
  main_keeps n h h' keeps = keeps.header 4 (omega arith) (λ e. omega arith)

  -- behind the block its hart is in the node
  in_node : (t : MachineSetting) (runs : Option ℕ) (first : ℕ) (m : Member) (h' : Hart) (d : Doing) → Enters core image places setting t i op operation p m.hart
      → IsMember places nestings setting runs first m p → Keeps places (length p.runner.has.callers) (peak operation op.depth) (writes operation) m.hart h' → IsSame d
      → StandsInNode places nestings setting runs (owner_of d) h'
  in_node t runs first m h' d en member keeps same =
      let n = length p.runner.has.callers in
      let callers = p.runner.left.callers in
      let j = (follows core operation i op.target [] same.onward).at in
      let outer = member.node.outer.0 in
      let few = levels.few in
      let many = many_callers places nestings m.hart.local callers p.runner.has.callers en.at.stands.waiting in
      let home = ap places.frames.is_main (sym en.index) ∙ en.at.stands.running.home in
      let below = lies_below places nestings n i (peak operation op.depth) home levels.room in
      let header = levels.room.room in
      let on =
      outer_by places nestings setting.processors (number_of p) m.hart.local h'.local i j callers p.runner.has.outer few (levels.stay same.onward)
      (main_keeps n m.hart h' keeps)
      (subst (λ k. h'.local (frames_word k) ≡ m.hart.local (frames_word k)) (sym many) (header_keeps n m.hart h' keeps few (omega arith)))
      (λ x from lt. keeps.words x from (omega arith) (λ word w e. let start = starts n word in omega arith))
      (λ x from lt.
      let from' = subst (λ k. saved_at places nestings k i ≤ x) many from in
      let lt' = subst (λ k. x < saved_at places nestings k i + 4 * nestings.levels i) many lt in
      let start = starts_behind places nestings n i few in
      keeps.words x (omega arith) (omega arith) (λ word w e. let apart = levels.apart (omega arith) word w in omega arith))
      (subst (λ a. HasOuter places nestings setting.processors (number_of p) m.hart.local (a ∷ callers) p.runner.has.outer) en.index outer) in
      stands_in_node places nestings setting runs first m p (owner_of d) h' member keeps.node keeps.body keeps.frames keeps.blocks same.same.group
      (subst (λ (l : Position). HasNestings places nestings setting.processors (number_of p) h'.local l.at l.callers (owner_of d).runner.has.callers p.runner.has.outer) (sym same.left)
      (on, subst (LieBelow places nestings callers) (sym same.same.callers) member.node.outer.1))
    where
      starts : (n word : ℕ) → 64 * n + 7 + word ≤ frame_start places n + 7 + word
      starts zero word = omega arith
      starts (suc n) word = omega arith

-- ---- in as many cycles as are told

pub in_cycles_of : (core : List CoreOp) (image : Image) (places : Places) (nestings : Nestings) (cycles : Cycles) (setting : Setting) (t : MachineSetting) (i : ℕ) (operation : Operation) (runs : Option ℕ)
    (first : ℕ) (m : Member) (p : Owner) → is_alone operation ≡ true → IsMember places nestings setting runs first m p
    → OneDoes (core_source core setting) image t 1 (cycles.before i) (cycles.behind i (is_onward operation p.runner.has)) (member_of p m.hart) p (λ h d. HasDoneInNode core image places nestings setting runs d h)
    → OneDoes (core_source core setting) image t 1 (cycles.before i) (cycles.behind i (way_of operation p.runner.has)) m p (λ h d. HasDoneInNode core image places nestings setting runs d h)
in_cycles_of core image places nestings cycles setting t i operation runs first m p alone member one =
    let way = way_is operation p.runner.has alone in
    let same = ap (λ n. member_with n m.hart) (sym member.number) in
    subst (λ x. OneDoes (core_source core setting) image t 1 (cycles.before i) (cycles.behind i (way_of operation p.runner.has)) x p (λ h d. HasDoneInNode core image places nestings setting runs d h)) same
    (subst (λ w. OneDoes (core_source core setting) image t 1 (cycles.before i) (cycles.behind i w) (member_of p m.hart) p (λ h d. HasDoneInNode core image places nestings setting runs d h)) way one)

-- ---- the frame of a part

head_or : Level → List Level → Level
head_or x [] = x
head_or x (y ∷ ys) = y

tail_of : List Level → List Level
tail_of [] = []
tail_of (y ∷ ys) = ys

-- the node of a level, however it was left
level_node : (memory : ℕ → ℕ) (fork : Option ℕ) (header at number : ℕ) (l : Level) (outer : List Level) → HasLevelBy fork memory header at number l outer → memory (at + 1) ≡ control_address (first_word l outer)
level_node memory None header at number l outer held = held.node
level_node memory (Some words) header at number l outer held = held.node

-- the node of a level, of so many that are saved
saved_node : (memory : ℕ → ℕ) (forks : ℕ → Option ℕ) (header at count out : ℕ) (levels : List Level) (level around : Level) (further : List Level) → HasSaved memory forks header at count levels → out < count
    → drop out levels ≡ level ∷ around ∷ further → memory (at + 4 * (count - suc out) + 1) ≡ control_address level.space.low
unfolding head_or tail_of
saved_node memory forks header at zero out levels level around further saved lt there = absurd (let z : ⊥ = omega (arith, lt) in z)
saved_node memory forks header at (suc n) out [] level around further saved lt there = absurd (assumption saved)
saved_node memory forks header at (suc n) zero (l ∷ levels) level around further saved lt there =
    let first : l ≡ level = ap (head_or l) there in
    let rest : levels ≡ around ∷ further = ap tail_of there in
    let e : suc n - suc zero ≡ n = omega arith in
    ap (λ k. memory (at + 4 * k + 1)) e ∙ level_node memory (forks n) header (at + 4 * n) n l levels saved.0 ∙ ap (λ o. control_address (first_word l o)) rest ∙ ap (λ (x : Level). control_address x.space.low) first
saved_node memory forks header at (suc n) (suc out) (l ∷ levels) level around further saved lt there =
    let e : suc n - suc (suc out) ≡ n - suc out = omega arith in
    ap (λ k. memory (at + 4 * k + 1)) e ∙ saved_node memory forks header at n out levels level around further saved.1 (omega arith) there

module _ (places : Places) (nestings : Nestings) (setting : Setting) (i : ℕ) (runs : Option ℕ) (first : ℕ) (m : Member) (p : Owner) (at : p.runner.left.at ≡ i) (most : nestings.nest i ≤ suc (nestings.levels i))
    (member : IsMember places nestings setting runs first m p) where
  abbrev n : ℕ
  n = length p.runner.has.callers

  abbrev node_at : (own : Bool) (out : ℕ) → ℕ
  node_at own out = node_by own places (levels_at nestings i) out n m.hart

  -- by how many levels outward it is
  node_of : (out : ℕ) (own : Bool) → (out == 0) ≡ own → out ≤ nestings.levels i → (level around : Level) (further : List Level)
      → drop out (p.runner.has.level ∷ p.runner.has.outer) ≡ level ∷ around ∷ further → node_at own out ≡ control_address level.space.low
  unfolding head_or tail_of
  node_of zero true own le level around further there =
      let first : p.runner.has.level ≡ level = ap (head_or level) there in
      let rest : p.runner.has.outer ≡ around ∷ further = ap tail_of there in
      member.node.node ∙ ap (λ o. control_address (first_word p.runner.has.level o)) rest ∙ ap (λ (x : Level). control_address x.space.low) first
  node_of zero false own le level around further there = absurd (cc)
  node_of (suc out) true own le level around further there = absurd (let e = eqb-true (suc out) 0 own in let z : ⊥ = omega (arith, e) in z)
  node_of (suc out) false own le level around further there =
      let many = many_callers places nestings m.hart.local p.runner.left.callers p.runner.has.callers member.at.stands.waiting in
      let saved = member.node.outer.0.1 in
      let start = saved_at places nestings (length p.runner.left.callers) p.runner.left.at in
      let same : saved_at places nestings (length p.runner.left.callers) p.runner.left.at ≡ frame_start places n + 7 + nestings.behind i =
      ap (λ k. saved_at places nestings k p.runner.left.at) many ∙ ap (saved_at places nestings n) at in
      let count : nestings.levels p.runner.left.at ≡ nestings.levels i = ap nestings.levels at in
      let found : m.hart.local (start + 4 * (nestings.levels p.runner.left.at - suc out) + 1) ≡ control_address level.space.low =
      saved_node m.hart.local (nestings.forks p.runner.left.at) (frames_word (length p.runner.left.callers)) start (nestings.levels p.runner.left.at) out p.runner.has.outer level around further saved (omega arith) there in
      let place : start + 4 * (nestings.levels p.runner.left.at - suc out) + 1 ≡ frame_start places n + 7 + (nestings.behind i + 4 * (nestings.levels i - suc out) + 1) = omega arith in
      ap m.hart.local (sym place) ∙ found

  finds_part : (operation : Operation) → FindsFrame nestings operation p.runner → FindsPart places (levels_at nestings i) operation p m.hart
  finds_part (Get (FrameAddress (suc part) word)) finds =
      let begins = finds.1 in
      let out = nestings.nest i - suc part in
      let same : nestings.nest p.runner.left.at - suc part ≡ out = ap (λ j. nestings.nest j - suc part) at in
      record {
        first = begins.level.space.low;
        node = node_of out (out == 0) refl (omega (arith, most)) begins.level begins.around begins.further (ap (λ k. drop k (p.runner.has.level ∷ p.runner.has.outer)) (sym same) ∙ begins.there);
        frame = begins.first;
        within = begins.within;
      }
  finds_part operation finds = tt

pub same_call_in_node : (core : List CoreOp) (image : Image) (places : Places) (nestings : Nestings) (cycles : Cycles) (i : ℕ) (op : CoreOp) (operation : Operation)
    → OpAt core i op operation → is_alone operation ≡ true → stays_in_call operation ≡ true → HasLevels core places nestings i op operation
    → ((setting : Setting) (t : MachineSetting) (p : Owner) (h : Hart) → Enters core image places setting t i op operation p h → FindsPart places (levels_at nestings i) operation p h
    → DoesAnd core image places setting t 1 p h (cycles.before i) (cycles.behind i (is_onward operation p.runner.has)) (Keeps places (length p.runner.has.callers) (peak operation op.depth) (writes operation) h))
    → BlockDoesInNode core image places nestings cycles 1 i op operation
same_call_in_node core image places nestings cycles i op operation stands alone stays levels does setting t runs first m p en member finds =
    in_cycles_of core image places nestings cycles setting t i operation runs first m p alone member
    (does_in_node core image places nestings setting p t runs (cycles.before i) (cycles.behind i (is_onward operation p.runner.has)) m
    (Keeps places (length p.runner.has.callers) (peak operation op.depth) (writes operation) m.hart) (does setting t p m.hart en (finds_part places nestings setting i runs first m p en.index levels.nest member operation finds))
    (λ h' d s s' e done keeps.
    in_node core image places nestings i op operation stands alone stays levels setting p t runs first m h' d en member keeps
    (did core image places nestings i op operation stands alone stays levels setting p d s s' en.index e)))

pub jumps_stay_in_node : JumpsStayInNode
jumps_stay_in_node core image bound places nestings i op block flows few stay setting t runs first m p holds at member =
    let h = m.hart in
    let s = member.at.stands in
    let n = length p.runner.has.callers in
    let callers = p.runner.left.callers in
    let pc : h.pc ≡ 4 * places.block i = member.at.at ∙ ap (λ j. 4 * places.block j) at in
    let running = subst (λ a. FrameInHart places h n a p.runner.has.call) at s.running in
    record {
      hart = jumps h zero_register (4 * bound (label_of op.target));
      private = jal_private image bound t m.number (places.block i) 0 (label_of op.target) h holds block.lines.0 (block.labels.within (label_of op.target)) pc member.at.live;
      at = record {
        live = member.at.live;
        at = ap (λ k. 4 * k) (block.labels.blocks op.target);
        stands = stands_with places p _ h _ s (refl, refl, refl, refl, refl, refl, refl, refl, refl, refl, refl, refl, refl) refl refl s.top (record {
          running = record {
            home = flows.main ∙ running.home;
            values = running.values;
            privates = λ x kept. running.privates x (flows.kept x kept refl);
          };
          waiting = s.waiting;
          groups = groups_go core places nothing p h i op.target p.runner.has.call at flows refl s;
          own = s.own;
          heap = s.heap;
          full = s.full;
        });
      };
      node = record {
        node = member.node.node;
        body = member.node.body;
        space = space_kept p.runner.has.level p.runner.has.outer h (jumps h zero_register (4 * bound (label_of op.target))) refl refl member.node.space;
        outer = (
          outer_by places nestings setting.processors (number_of p) h.local h.local i op.target callers p.runner.has.outer few stay refl refl (λ x le lt. refl) (λ x le lt. refl)
              (subst (λ a. HasOuter places nestings setting.processors (number_of p) h.local (a ∷ callers) p.runner.has.outer) at member.node.outer.0),
          member.node.outer.1,
        );
      };
    }
