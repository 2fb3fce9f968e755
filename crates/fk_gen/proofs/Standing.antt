-- What a processor has in local memory stays there, but what is written.
use Rattle.std.proofs.Common.{◌≡◌, ℕ, zero, suc, ◌+◌, ◌-◌, ◌*◌, ◌^◌, ◌<◌, ◌≤◌, List, [], ◌∷◌, length, Bool, true, false, sym, ap, subst, ◌∙◌, arith, refl, eq-eqb}
use Rattle.std.specs.Prelude.{◌==◌, ◌||◌}
use Rattle.std.proofs.lemmas.Bool.{ne_eqb, eqb-true}
use Rattle.std.specs.Int.{from_bool}
use Rattle.fk_num.specs.Word.{Memory, put}
use Rattle.fk_meaning_operation.specs.declared.operation.Variable.TheVariants.{Private, OfFile}
use Rattle.fk_space.specs.Space.{Space}
use Rattle.fk_meaning_store.specs.Store.{address_of}
use Rattle.fk_meaning.specs.Processor.{Call, values, with_values, with_space}
use Rattle.fk_meaning.specs.Local.{stored}
use Rattle.fk_core.specs.declared.op.CoreOp.{CoreOp}
use Rattle.fk_core.specs.Next.{position}
use Rattle.fk_machine.specs.Hart.{Hart}
use Rattle.fk_sim_block.specs.Owner.{Owner}
use Rattle.fk_sim_block.specs.Stands.{Frames, Places, HasValues, HasRoom, FrameInMemory, HasWaiting, IsGroupFrame, TellsFrame, before_call, HaveGroupFrames, StandsFor, ahead, frame_end, frame_start, group_word, full_word, value_of}
use Rattle.fk_sim_block.specs.Stands.{zero_register, frame_register, end_register, number_register, rank_register, size_register, top_register, local_register, shared_register, heap_register, shared_mask_register, device_register, heap_mask_register, group_frame_register}
use Rattle.fk_sim_block.specs.Suits.{Flows, TakesFrame, nothing}
use Rattle.fk_gen.proofs.Values.{same_word, other_word, values_kept}

-- ---- where the words of frames lie

-- those of a frame in which so many values have room
pub record LiesIn (places : Places) (waiting at count : ℕ) : Type 0 where
  pub start : places.frames.of_file + 7 ≤ frame_start places waiting + 7
  pub values : places.frames.of_file + 7 ≤ frame_end waiting - count
  pub few : count ≤ 57
  pub kept : (word : ℕ) → places.frames.keeps at word ≡ true → frame_start places waiting + 7 + word + count < frame_end waiting

pub lies_in : (places : Places) (waiting at count : ℕ) → places.frames.of_file ≤ 56 → places.frames.is_main at ≡ (waiting == 0) → HasRoom places.frames at count
    → LiesIn places waiting at count
lies_in places zero at count few home room =
    let e : ahead places.frames (places.frames.is_main at) ≡ places.frames.of_file = ap (ahead places.frames) home in
    let header = room.header in
    record {
      start = omega arith;
      values = omega arith;
      few = omega arith;
      kept = λ word k. let r = room.kept word k in omega arith;
    }
lies_in places (suc n) at count few home room =
    let other : (suc n == 0) ≡ false = ne_eqb (suc n) 0 (λ e. omega arith) in
    let e : ahead places.frames (places.frames.is_main at) ≡ 0 = ap (ahead places.frames) (home ∙ other) in
    let header = room.header in
    record {
      start = omega arith;
      values = omega arith;
      few = omega arith;
      kept = λ word k. let r = room.kept word k in omega arith;
    }

-- ---- frames and waiting calls keep what no word of theirs is written to

pub frame_kept : (places : Places) (m m' : Memory) (waiting at count : ℕ) (call : Call) → places.frames.of_file ≤ 56 → HasRoom places.frames at count
    → length call.values ≤ count → ((j : ℕ) → places.frames.of_file + 7 ≤ j → j < frame_end waiting → m' j ≡ m j)
    → FrameInMemory places m waiting at call → FrameInMemory places m' waiting at call
frame_kept places m m' waiting at count call few room within same f =
    let l = lies_in places waiting at count few f.home room in
    let start = l.start in
    let vs = l.values in
    record {
      home = f.home;
      values = values_kept m m' waiting call.values (λ j le lt. same j (omega arith) lt) f.values;
      privates = λ i e. let k = l.kept i e in same (frame_start places waiting + 7 + i) (omega arith) (omega arith) ∙ f.privates i e;
    }

pub waiting_kept : (places : Places) (m m' : Memory) (backs : List ℕ) (calls : List Call) → places.frames.of_file ≤ 56
    → ((j : ℕ) → places.frames.of_file + 7 ≤ j → j < 64 * length calls + 3 → m' j ≡ m j) → HasWaiting places m backs calls → HasWaiting places m' backs calls
waiting_kept places m m' [] [] few same held = tt
waiting_kept places m m' (i ∷ backs) (c ∷ calls) few same held =
    let n = length calls in (
      record {
        begun_at = held.0.begun_at;
        word = held.0.word;
        point = held.0.point;
        code = same (64 * suc n) (omega arith) (omega arith) ∙ held.0.code;
        frame = same (64 * suc n + 1) (omega arith) (omega arith) ∙ held.0.frame;
        result = same (64 * suc n + 2) (omega arith) (omega arith) ∙ held.0.result;
        room = held.0.room;
      },
      frame_kept places m m' n i (suc (length c.values)) c few held.0.room (omega arith) (λ j le lt. same j le (omega arith)) held.1,
      waiting_kept places m m' backs calls few (λ j le lt. same j le (omega arith)) held.2,
    )
waiting_kept places m m' backs calls few same held = absurd (assumption held)

-- ---- group frames stay, where headers and the register do

pub groups_kept : (frames : Frames) (m m' : Memory) (address : ℕ) (indices : List ℕ) (calls : List Call)
    → ((k : ℕ) → k < length calls → m' (group_word k) ≡ m (group_word k))
    → HaveGroupFrames frames m address indices calls → HaveGroupFrames frames m' address indices calls
groups_kept frames m m' address [] calls same held = tt
groups_kept frames m m' address (i ∷ indices) [] same held = tt
groups_kept frames m m' address (i ∷ indices) (c ∷ calls) same held =
    let n = length calls in (
      held.0,
      subst (λ a. HaveGroupFrames frames m' a indices calls) (ap (before_call (frames.group i) address) (sym (same n (omega arith))))
          (groups_kept frames m m' (before_call (frames.group i) address (m (group_word n))) indices calls (λ k lt. same k (omega arith)) held.1),
    )

-- a call of the same own group frame has the address that another has
pub told_on : (own : Bool) (address : ℕ) (call call' : Call) → call'.frames 0 ≡ call.frames 0 → TellsFrame own address call → TellsFrame own address call'
told_on false address call call' same tells = tt
told_on true address call call' same tells = subst (IsGroupFrame address) (sym same) tells

-- what the register had before the call, where the header keeps it
before_on : (frames : Frames) (m m' : Memory) (address i j : ℕ) (backs : List ℕ) (calls : List Call) → frames.group j ≡ frames.group i
    → ((k : ℕ) → k ≤ length calls → m' (group_word k) ≡ m (group_word k))
    → HaveGroupFrames frames m (before_call (frames.group i) address (m (group_word (length calls)))) backs calls
    → HaveGroupFrames frames m' (before_call (frames.group j) address (m' (group_word (length calls)))) backs calls
before_on frames m m' address i j backs calls own same held =
    let w = group_word (length calls) in
    subst (λ x. HaveGroupFrames frames m' (before_call x address (m' w)) backs calls) (sym own)
    (subst (λ a. HaveGroupFrames frames m' (before_call (frames.group i) address a) backs calls) (sym (same (length calls) (omega arith)))
    (groups_kept frames m m' (before_call (frames.group i) address (m w)) backs calls (λ k lt. same k (omega arith)) held))

-- the running call goes on at another index, with the same own group frame
groups_at : (frames : Frames) (m m' : Memory) (address i j : ℕ) (call call' : Call) (backs : List ℕ) (calls : List Call)
    → frames.group j ≡ frames.group i → call'.frames 0 ≡ call.frames 0
    → ((k : ℕ) → k ≤ length calls → m' (group_word k) ≡ m (group_word k))
    → HaveGroupFrames frames m address (i ∷ backs) (call ∷ calls) → HaveGroupFrames frames m' address (j ∷ backs) (call' ∷ calls)
groups_at frames m m' address i j call call' backs calls own same_frame same held = (
  subst (λ x. TellsFrame x address call') (sym own) (told_on (frames.group i) address call call' same_frame held.0),
  before_on frames m m' address i j backs calls own same held.1,
)

-- it does so with other values and private words
pub groups_on : (core : List CoreOp) (places : Places) (written : ℕ → Bool) (m m' : Memory) (address i j : ℕ) (call call' : Call) (backs : List ℕ) (calls : List Call)
    → Flows core places.frames written i j → call'.frames ≡ call.frames
    → ((k : ℕ) → k ≤ length calls → m' (group_word k) ≡ m (group_word k))
    → HaveGroupFrames places.frames m address (i ∷ backs) (call ∷ calls) → HaveGroupFrames places.frames m' address (j ∷ backs) (call' ∷ calls)
groups_on core places written m m' address i j call call' backs calls flows frames same held =
    groups_at places.frames m m' address i j call call' backs calls flows.group (ap (λ (f : ℕ → ℕ). f 0) frames) same held

-- those of a hart that stands for a processor at an index
pub groups_go : (core : List CoreOp) (places : Places) (written : ℕ → Bool) (p : Owner) (h : Hart) (i j : ℕ) (call' : Call) → p.runner.left.at ≡ i
    → Flows core places.frames written i j → call'.frames ≡ p.runner.has.call.frames → StandsFor places p h
    → HaveGroupFrames places.frames h.local (h.registers group_frame_register) (j ∷ p.runner.left.callers) (call' ∷ p.runner.has.callers)
groups_go core places written p h i j call' at flows same stands =
    groups_on core places written h.local h.local (h.registers group_frame_register) i j p.runner.has.call call' p.runner.left.callers p.runner.has.callers flows same (λ k le. refl)
    (subst (λ k. HaveGroupFrames places.frames h.local (h.registers group_frame_register) (k ∷ p.runner.left.callers) (p.runner.has.call ∷ p.runner.has.callers)) at stands.groups)

-- what the call of a group frame that is taken has
abbrev pub taking_call : Call → (number first : ℕ) → Call
taking_call call number first = record call { frames = put call.frames number first }

-- the running call takes its own group frame, and its header keeps what the register had
pub groups_with : (core : List CoreOp) (places : Places) (m m' : Memory) (address first i j : ℕ) (call : Call) (backs : List ℕ) (calls : List Call)
    → TakesFrame core places.frames 0 i j → first ≤ 2 ^ 20 → m' (group_word (length calls)) ≡ address
    → ((k : ℕ) → k < length calls → m' (group_word k) ≡ m (group_word k))
    → HaveGroupFrames places.frames m address (i ∷ backs) (call ∷ calls)
    → HaveGroupFrames places.frames m' (address_of first) (j ∷ backs) (taking_call call 0 first ∷ calls)
groups_with core places m m' address first i j call backs calls takes small kept same held =
    let frames = places.frames in
    let w = group_word (length calls) in
    let frame : put call.frames 0 first 0 ≡ first = same_word call.frames 0 first in
    let before : HaveGroupFrames frames m address backs calls =
    subst (λ x. HaveGroupFrames frames m (before_call x address (m w)) backs calls) (takes.none refl) held.1 in (
      subst (λ x. TellsFrame x (address_of first) (taking_call call 0 first)) (sym takes.group)
          record { within = subst (λ x. x ≤ 2 ^ 20) (sym frame) small; is = ap address_of (sym frame) },
      subst (λ x. HaveGroupFrames frames m' (before_call x (address_of first) (m' w)) backs calls) (sym takes.group)
          (subst (λ a. HaveGroupFrames frames m' a backs calls) (sym kept) (groups_kept frames m m' address backs calls same before)),
    )

-- it takes one of a part, which neither the register nor headers tell
pub groups_more : (core : List CoreOp) (places : Places) (m : Memory) (address number first i j : ℕ) (call : Call) (backs : List ℕ) (calls : List Call)
    → 0 < number → TakesFrame core places.frames number i j
    → HaveGroupFrames places.frames m address (i ∷ backs) (call ∷ calls)
    → HaveGroupFrames places.frames m address (j ∷ backs) (taking_call call number first ∷ calls)
groups_more core places m address number first i j call backs calls part takes held =
    let none : (number == 0) ≡ false = ne_eqb number 0 (λ e. omega (arith, e, part)) in
    let own : places.frames.group j ≡ places.frames.group i = takes.group ∙ ap (λ b. b || places.frames.group i) none in
    groups_at places.frames m m address i j call (taking_call call number first) backs calls own (other_word call.frames number first 0 (λ e. omega (arith, e, part))) (λ k le. refl) held

-- ---- words

-- one word of many is written, in memory and in what stands there from a word on
true_false : true ≡ false → ⊥
true_false e = cc

put_other : (words : Memory) (x v y : ℕ) → (y == x) ≡ false → put words x v y ≡ words y
put_other words x v y e = rw e

word_by : (m : Memory) (base x v : ℕ) (words : Memory) (y : ℕ) (b : Bool) → (y == x) ≡ b → (b ≡ false → m (base + y) ≡ words y)
    → put m (base + x) v (base + y) ≡ put words x v y
word_by m base x v words y true e old =
    let same : y ≡ x = eqb-true y x e in
    ap (λ z. put m (base + x) v (base + z)) same ∙ same_word m (base + x) v ∙ sym (ap (put words x v) same ∙ same_word words x v)
word_by m base x v words y false e old =
    other_word m (base + x) v (base + y) (λ f. let same : y ≡ x = omega arith in true_false (sym (eq-eqb y x same) ∙ e)) ∙ old refl
    ∙ sym (put_other words x v y e)

pub word_here : (m : Memory) (base x v : ℕ) (words : Memory) (y : ℕ) → ((y == x) ≡ false → m (base + y) ≡ words y)
    → put m (base + x) v (base + y) ≡ put words x v y
word_here m base x v words y old = word_by m base x v words y (y == x) refl (λ e. old e)

-- ---- a processor in memory

-- the register with the address of a group frame has this one
pub record InMemory (places : Places) (memory : Memory) (address : ℕ) (p : Owner) : Type 0 where
  pub running : FrameInMemory places memory (length p.runner.has.callers) p.runner.left.at p.runner.has.call
  pub waiting : HasWaiting places memory p.runner.left.callers p.runner.has.callers
  pub groups : HaveGroupFrames places.frames memory address (p.runner.left.at ∷ p.runner.left.callers) (p.runner.has.call ∷ p.runner.has.callers)
  pub own : (i : ℕ) → i < places.frames.of_file → memory (7 + i) ≡ p.runner.has.own i
  pub heap : (i : ℕ) → i < 16384 → memory (16384 + i) ≡ p.heap.words i
  pub full : memory full_word ≡ from_bool p.heap.full

pub in_memory : (places : Places) (p : Owner) (h : Hart) → StandsFor places p h → InMemory places h.local (h.registers group_frame_register) p
in_memory places p h s = record { running = s.running; waiting = s.waiting; groups = s.groups; own = s.own; heap = s.heap; full = s.full }

-- the registers that blocks keep, but that of group frames. `top` is told by itself
abbrev pub SameMost : Hart → Hart → Type 0
SameMost h h' =
    (h'.registers zero_register ≡ h.registers zero_register) × (h'.registers frame_register ≡ h.registers frame_register) × (h'.registers end_register ≡ h.registers end_register)
    × (h'.registers number_register ≡ h.registers number_register) × (h'.registers rank_register ≡ h.registers rank_register) × (h'.registers size_register ≡ h.registers size_register)
    × (h'.registers local_register ≡ h.registers local_register) × (h'.registers shared_register ≡ h.registers shared_register) × (h'.registers heap_register ≡ h.registers heap_register)
    × (h'.registers shared_mask_register ≡ h.registers shared_mask_register) × (h'.registers device_register ≡ h.registers device_register) × (h'.registers heap_mask_register ≡ h.registers heap_mask_register)

-- a hart that keeps them stands for a processor of the same level, with as many calls waiting, that it has in memory and in
-- the register of group frames
pub stands_as : (places : Places) (p p' : Owner) (h h' : Hart) → StandsFor places p h → SameMost h h'
    → p'.runner.has.level ≡ p.runner.has.level → length p'.runner.has.callers ≡ length p.runner.has.callers
    → h'.registers top_register ≡ p'.runner.has.top → InMemory places h'.local (h'.registers group_frame_register) p' → StandsFor places p' h'
stands_as places p p' h h' s r level calls top m = record {
  nought = r.0 ∙ s.nought;
  frame = r.1 ∙ s.frame ∙ ap (λ n. 0x20000000 + 4 * frame_start places n) (sym calls);
  behind = r.2 ∙ s.behind ∙ ap (λ n. 0x20000000 + 4 * frame_end n) (sym calls);
  number = r.3 ∙ s.number ∙ ap (λ l. l.number) (sym level);
  rank = r.4 ∙ s.rank ∙ ap (λ l. l.rank) (sym level);
  size = r.5 ∙ s.size ∙ ap (λ l. l.size) (sym level);
  top = top;
  local = r.6 ∙ s.local;
  shared_data = r.7 ∙ s.shared_data;
  private_heap = r.8 ∙ s.private_heap;
  shared_mask = r.9 ∙ s.shared_mask;
  devices = r.10 ∙ s.devices;
  heap_mask = r.11 ∙ s.heap_mask;
  running = m.running;
  waiting = m.waiting;
  groups = m.groups;
  own = m.own;
  heap = m.heap;
  full = m.full;
}

-- one that keeps that register too
abbrev pub SameRegisters : Hart → Hart → Type 0
SameRegisters h h' =
    (h'.registers zero_register ≡ h.registers zero_register) × (h'.registers frame_register ≡ h.registers frame_register) × (h'.registers end_register ≡ h.registers end_register)
    × (h'.registers number_register ≡ h.registers number_register) × (h'.registers rank_register ≡ h.registers rank_register) × (h'.registers size_register ≡ h.registers size_register)
    × (h'.registers local_register ≡ h.registers local_register) × (h'.registers shared_register ≡ h.registers shared_register) × (h'.registers heap_register ≡ h.registers heap_register)
    × (h'.registers shared_mask_register ≡ h.registers shared_mask_register) × (h'.registers device_register ≡ h.registers device_register) × (h'.registers heap_mask_register ≡ h.registers heap_mask_register)
    × (h'.registers group_frame_register ≡ h.registers group_frame_register)

pub stands_with : (places : Places) (p p' : Owner) (h h' : Hart) → StandsFor places p h → SameRegisters h h'
    → p'.runner.has.level ≡ p.runner.has.level → length p'.runner.has.callers ≡ length p.runner.has.callers
    → h'.registers top_register ≡ p'.runner.has.top → InMemory places h'.local (h.registers group_frame_register) p' → StandsFor places p' h'
stands_with places p p' h h' s r level calls top m =
    stands_as places p p' h h' s (r.0, r.1, r.2, r.3, r.4, r.5, r.6, r.7, r.8, r.9, r.10, r.11) level calls top
    (subst (λ a. InMemory places h'.local a p') (sym r.12) m)

-- nothing tells the space of a processor's group
abbrev pub in_space : Space → Owner → Owner
in_space space p = record { runner = record { left = p.runner.left; has = with_space p.runner.has space }; heap = p.heap }

pub stands_in_space : (places : Places) (p : Owner) (h : Hart) (space : Space) → StandsFor places p h → StandsFor places (in_space space p) h
stands_in_space places p h space s = record {
  nought = s.nought;
  frame = s.frame;
  behind = s.behind;
  number = s.number;
  rank = s.rank;
  size = s.size;
  top = s.top;
  local = s.local;
  shared_data = s.shared_data;
  private_heap = s.private_heap;
  shared_mask = s.shared_mask;
  devices = s.devices;
  heap_mask = s.heap_mask;
  running = s.running;
  waiting = s.waiting;
  groups = s.groups;
  own = s.own;
  heap = s.heap;
  full = s.full;
}

-- ---- what is written

module _ (core : List CoreOp) (places : Places) where
  -- the processor at another index, with other values
  abbrev pub with_list : (i : ℕ) → List ℕ → Owner → Owner
  with_list i vs p = record {
    runner = record { left = position i p.runner.left.callers; has = with_values p.runner.has vs };
    heap = p.heap;
  }

  -- the last words of the frame, where so many values have room, are written to
  pub values_changed : (m m' : Memory) (a : ℕ) (p : Owner) (i i' count : ℕ) (vs : List ℕ) → places.frames.of_file ≤ 56 → length p.runner.has.callers < 256
      → p.runner.left.at ≡ i → HasRoom places.frames i count → Flows core places.frames nothing i i' → InMemory places m a p
      → ((j : ℕ) → j < frame_end (length p.runner.has.callers) - count → m' j ≡ m j)
      → ((j : ℕ) → frame_end (length p.runner.has.callers) ≤ j → m' j ≡ m j)
      → HasValues (value_of m' (length p.runner.has.callers)) vs
      → InMemory places m' a (with_list i' vs p)
  values_changed m m' a p i i' count vs few waiting at room flows held below above values' =
      let n = length p.runner.has.callers in
      let running = subst (λ x. FrameInMemory places m n x p.runner.has.call) at held.running in
      let groups = subst (λ x. HaveGroupFrames places.frames m a (x ∷ p.runner.left.callers) (p.runner.has.call ∷ p.runner.has.callers)) at held.groups in
      let l = lies_in places n i count few running.home room in
      let start = l.start in
      let low = l.values in
      let short = l.few in
      record {
        running = record {
          home = flows.main ∙ running.home;
          values = values';
          privates = λ x e.
              let kept = flows.kept x e refl in
              let k = l.kept x kept in
              below (frame_start places n + 7 + x) (omega arith) ∙ running.privates x kept;
        };
        waiting = waiting_kept places m m' p.runner.left.callers p.runner.has.callers few (λ j le lt. below j (omega arith)) held.waiting;
        groups = groups_on core places nothing m m' a i i' p.runner.has.call (with_list i' vs p).runner.has.call p.runner.left.callers p.runner.has.callers flows refl
            (λ k le. below (group_word k) (omega arith)) groups;
        own = λ x lt. below (7 + x) (omega arith) ∙ held.own x lt;
        heap = λ x lt. above (16384 + x) (omega arith) ∙ held.heap x lt;
        full = below 2 (omega arith) ∙ held.full;
      }

  -- the k-th value is written, so that the frame has these values
  pub value_written : (m : Memory) (a : ℕ) (p : Owner) (i i' k v : ℕ) (vs : List ℕ) → places.frames.of_file ≤ 56 → length p.runner.has.callers < 256
      → p.runner.left.at ≡ i → HasRoom places.frames i k → 0 < k → Flows core places.frames nothing i i' → InMemory places m a p
      → HasValues (value_of (put m (frame_end (length p.runner.has.callers) - k) v) (length p.runner.has.callers)) vs
      → InMemory places (put m (frame_end (length p.runner.has.callers) - k) v) a (with_list i' vs p)
  value_written m a p i i' k v vs few waiting at room some flows held values' =
      let n = length p.runner.has.callers in
      let header = room.header in
      values_changed m (put m (frame_end n - k) v) a p i i' k vs few waiting at room flows held
      (λ j lt. other_word m (frame_end n - k) v j (λ e. omega arith))
      (λ j le. other_word m (frame_end n - k) v j (λ e. omega arith))
      values'

  -- nothing is written
  pub nothing_written : (m : Memory) (a : ℕ) (p : Owner) (i i' count : ℕ) (vs : List ℕ) → places.frames.of_file ≤ 56 → length p.runner.has.callers < 256
      → p.runner.left.at ≡ i → HasRoom places.frames i count → Flows core places.frames nothing i i' → InMemory places m a p
      → HasValues (value_of m (length p.runner.has.callers)) vs → InMemory places m a (with_list i' vs p)
  nothing_written m a p i i' count vs few waiting at room flows held values' =
      values_changed m m a p i i' count vs few waiting at room flows held (λ j lt. refl) (λ j le. refl) values'

  -- a private word is written
  pub private_written : (m : Memory) (a : ℕ) (p : Owner) (i i' x v count : ℕ) → places.frames.of_file ≤ 56 → length p.runner.has.callers < 256
      → p.runner.left.at ≡ i → HasRoom places.frames i count → length (values p.runner.has) ≤ count
      → ahead places.frames (places.frames.is_main i) + 7 + x + count < 64 → Flows core places.frames (λ word. word == x) i i' → InMemory places m a p
      → InMemory places (put m (frame_start places (length p.runner.has.callers) + 7 + x) v) a
      (record { runner = record { left = position i' p.runner.left.callers; has = stored v (Private x) p.runner.has }; heap = p.heap })
  private_written m a p i i' x v count few waiting at room within place flows held =
      let n = length p.runner.has.callers in
      let w = frame_start places n + 7 + x in
      let m' = put m w v in
      let running = subst (λ x. FrameInMemory places m n x p.runner.has.call) at held.running in
      let groups = subst (λ x. HaveGroupFrames places.frames m a (x ∷ p.runner.left.callers) (p.runner.has.call ∷ p.runner.has.callers)) at held.groups in
      let l = lies_in places n i count few running.home room in
      let start = l.start in
      let low = l.values in
      let inside : w + count < frame_end n = word_inside n i x count running.home place in
      let at_least : 64 * n + 7 ≤ w + 0 = starts n x in
      record {
        running = record {
          home = flows.main ∙ running.home;
          values = values_kept m m' n (values p.runner.has) (λ j le lt. other_word m w v j (λ e. omega arith)) running.values;
          privates = λ y e. word_here m (frame_start places n + 7) x v p.runner.has.call.privates y (λ other. running.privates y (flows.kept y e other));
        };
        waiting = waiting_kept places m m' p.runner.left.callers p.runner.has.callers few (λ j le lt. other_word m w v j (λ e. omega arith)) held.waiting;
        groups = groups_on core places (λ word. word == x) m m' a i i' p.runner.has.call (stored v (Private x) p.runner.has).call p.runner.left.callers p.runner.has.callers flows refl
            (λ k le. other_word m w v (group_word k) (λ e. omega arith)) groups;
        own = λ y lt. other_word m w v (7 + y) (λ e. omega arith) ∙ held.own y lt;
        heap = λ y lt. other_word m w v (16384 + y) (λ e. omega arith) ∙ held.heap y lt;
        full = other_word m w v 2 (λ e. omega arith) ∙ held.full;
      }
    where
      word_inside : (n i x count : ℕ) → places.frames.is_main i ≡ (n == 0) → ahead places.frames (places.frames.is_main i) + 7 + x + count < 64
          → frame_start places n + 7 + x + count < frame_end n
      word_inside zero i x count home place =
          let e : ahead places.frames (places.frames.is_main i) ≡ places.frames.of_file = ap (ahead places.frames) home in
          omega arith
      word_inside (suc n) i x count home place = omega arith

      starts : (n x : ℕ) → 64 * n + 7 ≤ frame_start places n + 7 + x + 0
      starts zero x = omega arith
      starts (suc n) x = omega arith

  -- a private variable of file scope is written
  pub own_written : (m : Memory) (a : ℕ) (p : Owner) (i i' x v count : ℕ) → places.frames.of_file ≤ 56 → length p.runner.has.callers < 256
      → p.runner.left.at ≡ i → HasRoom places.frames i count → length (values p.runner.has) ≤ count
      → x < places.frames.of_file → Flows core places.frames nothing i i' → InMemory places m a p
      → InMemory places (put m (7 + x) v) a
      (record { runner = record { left = position i' p.runner.left.callers; has = stored v (OfFile x) p.runner.has }; heap = p.heap })
  own_written m a p i i' x v count few waiting at room within place flows held =
      let n = length p.runner.has.callers in
      let m' = put m (7 + x) v in
      let running = subst (λ x. FrameInMemory places m n x p.runner.has.call) at held.running in
      let groups = subst (λ x. HaveGroupFrames places.frames m a (x ∷ p.runner.left.callers) (p.runner.has.call ∷ p.runner.has.callers)) at held.groups in
      let l = lies_in places n i count few running.home room in
      let start = l.start in
      let low = l.values in
      record {
        running = record {
          home = flows.main ∙ running.home;
          values = values_kept m m' n (values p.runner.has) (λ j le lt. other_word m (7 + x) v j (λ e. omega arith)) running.values;
          privates = λ y e. other_word m (7 + x) v (frame_start places n + 7 + y) (λ f. omega arith) ∙ running.privates y (flows.kept y e refl);
        };
        waiting = waiting_kept places m m' p.runner.left.callers p.runner.has.callers few (λ j le lt. other_word m (7 + x) v j (λ e. omega arith)) held.waiting;
        groups = groups_on core places nothing m m' a i i' p.runner.has.call p.runner.has.call p.runner.left.callers p.runner.has.callers flows refl
            (λ k le. other_word m (7 + x) v (group_word k) (λ e. omega arith)) groups;
        own = λ y lt. word_here m 7 x v p.runner.has.own y (λ other. held.own y lt);
        heap = λ y lt. other_word m (7 + x) v (16384 + y) (λ e. omega arith) ∙ held.heap y lt;
        full = other_word m (7 + x) v 2 (λ e. omega arith) ∙ held.full;
      }

  -- a group frame is taken
  abbrev pub with_frame : (i number first : ℕ) → Owner → Owner
  with_frame i number first p = record {
    runner = record {
      left = position i p.runner.left.callers;
      has = record (p.runner.has) { call = record (p.runner.has.call) { frames = put p.runner.has.call.frames number first } };
    };
    heap = p.heap;
  }

  -- its own group frame is taken: the header keeps what the register had, which gets the address of the frame
  pub frame_written : (m : Memory) (a : ℕ) (p : Owner) (i i' first count : ℕ) → places.frames.of_file ≤ 56 → length p.runner.has.callers < 256
      → p.runner.left.at ≡ i → HasRoom places.frames i count → length (values p.runner.has) ≤ count → TakesFrame core places.frames 0 i i' → first ≤ 2 ^ 20
      → InMemory places m a p
      → InMemory places (put m (group_word (length p.runner.has.callers)) a) (address_of first) (with_frame i' 0 first p)
  frame_written m a p i i' first count few waiting at room within takes small held =
      let n = length p.runner.has.callers in
      let w = group_word n in
      let m' = put m w a in
      let running = subst (λ x. FrameInMemory places m n x p.runner.has.call) at held.running in
      let groups = subst (λ x. HaveGroupFrames places.frames m a (x ∷ p.runner.left.callers) (p.runner.has.call ∷ p.runner.has.callers)) at held.groups in
      let l = lies_in places n i count few running.home room in
      let short = l.few in
      record {
        running = record {
          home = takes.main ∙ running.home;
          values = values_kept m m' n (values p.runner.has) (λ j le lt. other_word m w a j (λ e. omega arith)) running.values;
          privates = λ y e.
              let above = above_group n in
              other_word m w a (frame_start places n + 7 + y) (λ f. omega arith) ∙ running.privates y (takes.kept y e);
        };
        waiting = waiting_kept places m m' p.runner.left.callers p.runner.has.callers few (λ j le lt. other_word m w a j (λ e. omega arith)) held.waiting;
        groups = groups_with core places m m' a first i i' p.runner.has.call p.runner.left.callers p.runner.has.callers takes small (same_word m w a)
            (λ k lt. other_word m w a (group_word k) (λ e. omega arith)) groups;
        own = λ y lt. other_word m w a (7 + y) (λ e. omega arith) ∙ held.own y lt;
        heap = λ y lt. other_word m w a (16384 + y) (λ e. omega arith) ∙ held.heap y lt;
        full = other_word m w a 2 (λ e. omega arith) ∙ held.full;
      }
    where
      above_group : (n : ℕ) → group_word n < frame_start places n + 7
      above_group zero = omega arith
      above_group (suc n) = omega arith

  -- one of a part is taken
  pub part_taken : (m : Memory) (a : ℕ) (p : Owner) (i i' number first : ℕ) → p.runner.left.at ≡ i → 0 < number → TakesFrame core places.frames number i i'
      → InMemory places m a p → InMemory places m a (with_frame i' number first p)
  part_taken m a p i i' number first at part takes held =
      let n = length p.runner.has.callers in
      let running = subst (λ x. FrameInMemory places m n x p.runner.has.call) at held.running in
      let groups = subst (λ x. HaveGroupFrames places.frames m a (x ∷ p.runner.left.callers) (p.runner.has.call ∷ p.runner.has.callers)) at held.groups in
      record {
        running = record { home = takes.main ∙ running.home; values = running.values; privates = λ y e. running.privates y (takes.kept y e) };
        waiting = held.waiting;
        groups = groups_more core places m a number first i i' p.runner.has.call p.runner.left.callers p.runner.has.callers part takes groups;
        own = held.own;
        heap = held.heap;
        full = held.full;
      }

  -- a word of the private heap is written
  pub heap_written : (m : Memory) (a : ℕ) (p : Owner) (i x v count : ℕ) → places.frames.of_file ≤ 56 → length p.runner.has.callers < 256
      → p.runner.left.at ≡ i → HasRoom places.frames i count → length (values p.runner.has) ≤ count → x < 16384 → InMemory places m a p
      → InMemory places (put m (16384 + x) v) a (record p { heap = record (p.heap) { words = put p.heap.words x v } })
  heap_written m a p i x v count few waiting at room within place held =
      let n = length p.runner.has.callers in
      let m' = put m (16384 + x) v in
      let room' = subst (λ x. HasRoom places.frames x count) (sym at) room in
      record {
        running = frame_kept places m m' n p.runner.left.at count p.runner.has.call few room' within (λ j le lt. other_word m (16384 + x) v j (λ e. omega arith)) held.running;
        waiting = waiting_kept places m m' p.runner.left.callers p.runner.has.callers few (λ j le lt. other_word m (16384 + x) v j (λ e. omega arith)) held.waiting;
        groups = groups_kept places.frames m m' a (p.runner.left.at ∷ p.runner.left.callers) (p.runner.has.call ∷ p.runner.has.callers)
            (λ k lt. other_word m (16384 + x) v (group_word k) (λ e. omega arith)) held.groups;
        own = λ y lt. other_word m (16384 + x) v (7 + y) (λ e. omega arith) ∙ held.own y lt;
        heap = λ y lt. word_here m 16384 x v p.heap.words y (λ other. held.heap y lt);
        full = other_word m (16384 + x) v 2 (λ e. omega arith) ∙ held.full;
      }
