-- The blocks of checks do so.
use Rattle.std.proofs.Common.{◌≡◌, ℕ, suc, ◌+◌, ◌*◌, ◌^◌, ◌<◌, ◌≤◌, List, [], ◌∷◌, ◌++◌, map, length, Bool, true, false, ap, subst, sym, ◌∙◌, arith, refl, inl, inr, All}
use Rattle.std.specs.Prelude.{◌==◌, bit_and, if◌then◌else◌}
use Rattle.std.proofs.lemmas.List.{length-append}
use Rattle.std.proofs.lemmas.List.Elements.{All-head}
use Rattle.fk_num.specs.Word.{word_sum}
use Rattle.fk_meaning_operation.specs.declared.operation.Operation.TheVariants.{Check}
use Rattle.fk_meaning_operation.specs.declared.kinds.FaultKind.TheVariants.{BadAddress}
use Rattle.fk_meaning_store.specs.Serve.{Served, Faults, serve, may_use}
use Rattle.fk_meaning.specs.Processor.{Setting, values, last}
use Rattle.fk_meaning.specs.Request.{request}
use Rattle.fk_core.specs.declared.op.CoreOp.{CoreOp}
use Rattle.fk_image.specs.declared.Image.{Image}
use Rattle.fk_isa.specs.declared.instruction.Instruction.TheVariants.{Lui, Addi, And, Beq}
use Rattle.fk_machine.specs.Place.{place_of}
use Rattle.fk_machine.specs.declared.stand.Stand.TheVariants.{Faulted}
use Rattle.fk_machine.specs.Hart.{Hart, Stops, Setting as MachineSetting}
use Rattle.fk_machine.proofs.Performs.{sw-fault}
use Rattle.fk_machine.proofs.Places.{place_of-fault}
use Rattle.fk_sim_nodes.specs.Alone.{Holds, IsAt, IsPrivateIn, RunsPrivately, in_cycles}
use Rattle.fk_asm.specs.Block.{MarkedLine}
use Rattle.fk_sim_block.specs.Owner.{Commons, Owner, number_of, found}
use Rattle.fk_sim_block.specs.Stands.{Places, local_address, zero_register, end_register, top_register, shared_register, heap_register, shared_mask_register, device_register, heap_mask_register}
use Rattle.fk_sim_block.specs.Next.{OpAt}
use Rattle.fk_sim_block.specs.Suits.{Fits, nothing}
use Rattle.fk_sim_block.specs.Block.{Enters}
use Rattle.fk_gen.specs.InPlace.{HasBlock, LinesAt}
use Rattle.fk_gen.specs.Keeps.{Keeps, DoesAnd}
use Rattle.fk_gen.specs.Lines.{quiet, commits, at_value, high_part, low_part, load_by}
use Rattle.fk_gen.proofs.Walk.{Told, told_of, Plain, LocalAt, Quiets, quiet_lines, after, walk, CanWalk, walked, lines_split, runs_join, private}
use Rattle.fk_gen.proofs.Does.{holds_in_cycles, quiet_length, request_does_by}
use Rattle.fk_gen.proofs.Jumps.{goes_to_pc, beq_taken, beq_on}
use Rattle.fk_gen.proofs.Values.{values_kept, number_of_parts, number_of_low_part}
use Rattle.fk_gen.specs.Registers.{t0, t1, t2}
use Rattle.fk_gen_access.specs.Blocks.{check_block, test_lines, idle, refuse, test_steps, before_commit}
use Rattle.fk_gen_access.proofs.Checked.{shared_bits, heap_bits, Checks, InShared, InHeap, Nowhere, checks}
use Rattle.fk_gen_access.proofs.Walk.{local_index}
use Rattle.fk_gen_access.proofs.Kept.{SameRegisters, stands_on}
use Rattle.fk_gen_access.proofs.Operands.{last_found}
use Rattle.fk_gen.specs.Operands.{operand}

pub last_is_word : (vs : List ℕ) → All (λ v. v < 2 ^ 32) vs → last vs < 2 ^ 32
last_is_word [] all = omega arith
last_is_word (v ∷ vs) all = All-head (λ v. v < 2 ^ 32) v vs all

-- ---- the lines: those that run straight, and those that choose

-- a number comes to t0
abbrev number_quiets : (short : Bool) (n : ℕ) → Quiets
number_quiets true n = (Addi t0 zero_register (low_part n), Plain) ∷ []
number_quiets false n = (Lui t0 (high_part n), Plain) ∷ (Addi t0 t0 (low_part n), Plain) ∷ []

-- the last value, which stands at a word of local memory, with the masks
abbrev masks : (alone : Bool) (d w : ℕ) → Quiets
masks true d w = (operand t1 d, LocalAt w) ∷ (And t1 t1 shared_mask_register, Plain) ∷ []
masks false d w = (operand t1 d, LocalAt w) ∷ (And t2 t1 shared_mask_register, Plain) ∷ (And t1 t1 heap_mask_register, Plain) ∷ []

abbrev straight : (short alone : Bool) (d site w : ℕ) → Quiets
straight short alone d site w = number_quiets short site ++ masks alone d w

abbrev choices : (alone : Bool) → List MarkedLine
choices true = quiet (Beq t1 shared_register 8) ∷ commits 1 refuse ∷ commits 1 idle ∷ []
choices false = quiet (Beq t2 shared_register 12) ∷ quiet (Beq t1 heap_register 12) ∷ commits 1 refuse ∷ quiet idle ∷ commits 1 idle ∷ []

-- the register that the address with the mask of shared data comes to
abbrev shared_test_register : (alone : Bool) → ℕ
shared_test_register true = 6
shared_test_register false = 7

are_lines : (short alone : Bool) (d site w : ℕ) → map quiet (load_by short site) ++ test_lines alone d ≡ quiet_lines (straight short alone d site w) ++ choices alone
are_lines true true d site w = refl
are_lines true false d site w = refl
are_lines false true d site w = refl
are_lines false false d site w = refl

-- the ways through the choices take equally many
abbrev chosen_in : (alone : Bool) → (before : ℕ) → ℕ
chosen_in true before = before + 1
chosen_in false before = before + 1 + 1

all_steps : (short alone : Bool) (d site w : ℕ) → chosen_in alone (length (straight short alone d site w)) ≡ length (load_by short site) + test_steps alone
all_steps true true d site w = refl
all_steps true false d site w = refl
all_steps false true d site w = refl
all_steps false false d site w = refl

few_straight : (short alone : Bool) (d site w : ℕ) → length (straight short alone d site w) ≤ 5
few_straight true true d site w = omega arith
few_straight true false d site w = omega arith
few_straight false true d site w = omega arith
few_straight false false d site w = omega arith

-- what the lines that run straight come to
record IsTested (places : Places) (told : Told) (quiets : Quiets) (h : Hart) (alone : Bool) (address of_site : ℕ) : Type 0 where
  pub can : CanWalk told quiets h
  pub site : (walk told quiets h).registers t0 ≡ of_site
  pub same : SameRegisters places h (walk told quiets h)
  pub top : (walk told quiets h).registers top_register ≡ h.registers top_register
  pub local : (k : ℕ) → (walk told quiets h).local k ≡ h.local k
  pub live : (walk told quiets h).ended ≡ h.ended
  pub shared : (walk told quiets h).registers (shared_test_register alone) ≡ shared_bits address
  pub heap : alone ≡ false → (walk told quiets h).registers t1 ≡ heap_bits address

masked : (v m a n : ℕ) → v ≡ a → m ≡ n → bit_and v m ≡ bit_and a n
masked v m a n e f = ap (λ x. bit_and x m) e ∙ ap (bit_and a) f

short_site : (z n : ℕ) → z ≡ 0 → (high_part n == 0) ≡ true → n < 2 ^ 32 → word_sum z (low_part n) ≡ n
short_site z n e is small = ap (λ x. word_sum x (low_part n)) e ∙ number_of_low_part n is ∙ omega arith

long_site : (n : ℕ) → n < 2 ^ 32 → word_sum (high_part n * 4096) (low_part n) ≡ n
long_site n small = number_of_parts n ∙ omega arith

is_tested : (places : Places) (told : Told) (h : Hart) (short alone : Bool) (d site w a : ℕ) → (high_part site == 0) ≡ short → site < 2 ^ 32
    → h.registers zero_register ≡ 0 → h.registers shared_mask_register ≡ 0xffc00003 → h.registers heap_mask_register ≡ 0xffff0003
    → (w < 32768) × (word_sum (h.registers end_register) (at_value d) ≡ local_address w) → h.local w ≡ a
    → IsTested places told (straight short alone d site w) h alone a site
is_tested places told h true true d site w a is small nought shared heap at v = record {
  can = (tt, (at, (tt, tt)));
  site = short_site (h.registers zero_register) site nought is small;
  same = record { nought = refl; frame = refl; behind = refl; number = refl; rank = refl; size = refl; local = refl; shared_data = refl; private_heap = refl; shared_mask = refl; devices = refl; heap_mask = refl; node = refl; body = refl; frames = refl; blocks = refl; group_frame = refl };
  top = refl;
  local = λ k. refl;
  live = refl;
  shared = masked (h.local w) (h.registers shared_mask_register) a 0xffc00003 v shared;
  heap = λ e. absurd (cc);
}
is_tested places told h true false d site w a is small nought shared heap at v = record {
  can = (tt, (at, (tt, (tt, tt))));
  site = short_site (h.registers zero_register) site nought is small;
  same = record { nought = refl; frame = refl; behind = refl; number = refl; rank = refl; size = refl; local = refl; shared_data = refl; private_heap = refl; shared_mask = refl; devices = refl; heap_mask = refl; node = refl; body = refl; frames = refl; blocks = refl; group_frame = refl };
  top = refl;
  local = λ k. refl;
  live = refl;
  shared = masked (h.local w) (h.registers shared_mask_register) a 0xffc00003 v shared;
  heap = λ e. masked (h.local w) (h.registers heap_mask_register) a 0xffff0003 v heap;
}
is_tested places told h false true d site w a is small nought shared heap at v = record {
  can = (tt, (tt, (at, (tt, tt))));
  site = long_site site small;
  same = record { nought = refl; frame = refl; behind = refl; number = refl; rank = refl; size = refl; local = refl; shared_data = refl; private_heap = refl; shared_mask = refl; devices = refl; heap_mask = refl; node = refl; body = refl; frames = refl; blocks = refl; group_frame = refl };
  top = refl;
  local = λ k. refl;
  live = refl;
  shared = masked (h.local w) (h.registers shared_mask_register) a 0xffc00003 v shared;
  heap = λ e. absurd (cc);
}
is_tested places told h false false d site w a is small nought shared heap at v = record {
  can = (tt, (tt, (at, (tt, (tt, tt)))));
  site = long_site site small;
  same = record { nought = refl; frame = refl; behind = refl; number = refl; rank = refl; size = refl; local = refl; shared_data = refl; private_heap = refl; shared_mask = refl; devices = refl; heap_mask = refl; node = refl; body = refl; frames = refl; blocks = refl; group_frame = refl };
  top = refl;
  local = λ k. refl;
  live = refl;
  shared = masked (h.local w) (h.registers shared_mask_register) a 0xffc00003 v shared;
  heap = λ e. masked (h.local w) (h.registers heap_mask_register) a 0xffff0003 v heap;
}

-- ---- the ways through the block

module _ (core : List CoreOp) (image : Image) (places : Places) (i : ℕ) (op : CoreOp) (setting : Setting) (t : MachineSetting) (p : Owner) (h : Hart) where
  abbrev number : ℕ
  number = number_of p

  abbrev told : Told
  told = told_of t number

  abbrev a : ℕ
  a = last (values p.runner.has)

  abbrev pub KeepsMost : Hart → Type 0
  KeepsMost h' = Keeps places (length p.runner.has.callers) op.depth nothing h h'

  pub record IsHere (alone : Bool) : Type 0 where
    pub at : OpAt core i op (Check alone)
    pub enters : Enters core image places setting t i op (Check alone) p h
    pub fits : Fits core places.frames i op (Check alone)

  -- a hart that comes to a commit with the site in t0, and has left alone what its block leaves alone
  record IsChecked (before kc : ℕ) (g : Hart) : Type 0 where
    pub few : before ≤ 7
    pub runs : RunsPrivately image t number before h g
    pub pc : g.pc ≡ 4 * kc
    pub site : g.registers t0 ≡ op.site
    pub same : SameRegisters places h g
    pub top : g.registers top_register ≡ h.registers top_register
    pub local : (k : ℕ) → g.local k ≡ h.local k
    pub live : g.ended ≡ false

  -- that goes on to another place by one more instruction, which changes no register that a block keeps
  more : (before kc kc' : ℕ) (g g' : Hart) → IsChecked before kc g → suc before ≤ 7 → IsPrivateIn image (in_cycles before t) number g g' → g'.pc ≡ 4 * kc'
      → g'.registers t0 ≡ g.registers t0 → SameRegisters places g g' → g'.registers top_register ≡ g.registers top_register → ((k : ℕ) → g'.local k ≡ g.local k) → g'.ended ≡ g.ended
      → IsChecked (before + 1) kc' g'
  more before kc kc' g g' c few goes pc site same top local live = record {
    few = omega arith;
    runs = runs_join image t number before 1 h g g' c.runs (g', goes, refl);
    pc = pc;
    site = site ∙ c.site;
    same = record {
      nought = same.nought ∙ c.same.nought;
      frame = same.frame ∙ c.same.frame;
      behind = same.behind ∙ c.same.behind;
      number = same.number ∙ c.same.number;
      rank = same.rank ∙ c.same.rank;
      size = same.size ∙ c.same.size;
      local = same.local ∙ c.same.local;
      shared_data = same.shared_data ∙ c.same.shared_data;
      private_heap = same.private_heap ∙ c.same.private_heap;
      shared_mask = same.shared_mask ∙ c.same.shared_mask;
      devices = same.devices ∙ c.same.devices;
      heap_mask = same.heap_mask ∙ c.same.heap_mask;
      node = same.node ∙ c.same.node;
      body = same.body ∙ c.same.body;
      frames = same.frames ∙ c.same.frames;
      blocks = same.blocks ∙ c.same.blocks;
      group_frame = same.group_frame ∙ c.same.group_frame;
    };
    top = top ∙ c.top;
    local = λ k. local k ∙ c.local k;
    live = live ∙ c.live;
  }

  branched : (before kc kc' pc : ℕ) (g : Hart) → IsChecked before kc g → suc before ≤ 7 → IsPrivateIn image (in_cycles before t) number g (goes_to_pc g pc) → pc ≡ 4 * kc'
      → IsChecked (before + 1) kc' (goes_to_pc g pc)
  branched before kc kc' pc g c few goes is =
      more before kc kc' g (goes_to_pc g pc) c few goes is refl
      (record { nought = refl; frame = refl; behind = refl; number = refl; rank = refl; size = refl; local = refl; shared_data = refl; private_heap = refl; shared_mask = refl; devices = refl; heap_mask = refl; node = refl; body = refl; frames = refl; blocks = refl; group_frame = refl })
      refl (λ k. refl) refl

  idled : (before kc : ℕ) (g : Hart) → Holds image t → IsChecked before kc g → suc before ≤ 7 → IsAt image kc idle 0 → IsChecked (before + 1) (suc kc) (after told idle Plain g)
  idled before kc g holds c few at =
      let within = at.within in
      let pc = c.pc in
      more before kc (suc kc) g (after told idle Plain g) c few
      (private image (in_cycles before t) number kc idle g (after told idle Plain g) (holds_in_cycles image before t holds) at c.pc c.live (λ s. (s.reserved, refl)))
      (omega arith) refl
      (record { nought = refl; frame = refl; behind = refl; number = refl; rank = refl; size = refl; local = refl; shared_data = refl; private_heap = refl; shared_mask = refl; devices = refl; heap_mask = refl; node = refl; body = refl; frames = refl; blocks = refl; group_frame = refl })
      refl (λ k. refl) refl

  asked : (alone : Bool) (s : Commons) (b : Bool) → may_use alone a ≡ b
      → serve (request (Check alone) p.runner.has) (found s p.heap) number ≡ (if b then Served (found s p.heap) 0 else Faults BadAddress)
  asked alone s b e = ap (λ m. if m then Served (found s p.heap) 0 else Faults BadAddress) e

  -- an address that may be used
  passes : (alone : Bool) → IsHere alone → (before kc : ℕ) (g : Hart) → IsChecked before kc g → IsAt image kc idle 1 → places.block (suc i) ≡ suc kc
      → may_use alone a ≡ true → DoesAnd core image places setting t 1 p h before 0 KeepsMost
  passes alone here before kc g c at next may =
      let en = here.enters in
      let stands = en.at.stands in
      let n = length p.runner.has.callers in
      let vs = values p.runner.has in
      let header = here.fits.room.header in
      let within = at.within in
      let few = c.few in
      let pc = c.pc in
      let e = after told idle Plain g in
      let same = c.same in
      let on =
      stands_on places p i (suc i) op.depth p.runner.has.top vs p.heap.words h e stands en.index here.fits.room (let some = here.fits.values in omega arith) core (here.fits.goes_on true)
      (record { nought = same.nought; frame = same.frame; behind = same.behind; number = same.number; rank = same.rank; size = same.size; local = same.local; shared_data = same.shared_data; private_heap = same.private_heap; shared_mask = same.shared_mask; devices = same.devices; heap_mask = same.heap_mask; node = same.node; body = same.body; frames = same.frames; blocks = same.blocks; group_frame = same.group_frame })
      (c.top ∙ stands.top)
      (record { same = λ j lt. c.local j })
      (values_kept h.local e.local n vs (λ j from lt. c.local j) stands.running.values)
      (λ k lt. c.local (16384 + k) ∙ stands.heap k lt) in
      request_does_by core image places setting t i op (Check alone) p h here.at refl refl en before 0 (omega arith) (omega arith) g c.runs kc idle at c.pc c.live KeepsMost
      (λ s. inl (record {
        hart = e;
        store = found s p.heap;
        answer = 0;
        served = asked alone s true may;
        goes = λ earlier sh shows. (sh, refl, record { words = shows.words; output = shows.output; common = shows.common }, λ j. refl);
        end = e;
        runs = refl;
        at = record {
          live = c.live;
          at = omega arith;
          stands = on.0;
        };
        also = on.1;
      }))

  -- one that may not
  refuses : (alone : Bool) → IsHere alone → (before kc : ℕ) (g : Hart) → IsChecked before kc g → IsAt image kc refuse 1 → may_use alone a ≡ false
      → DoesAnd core image places setting t 1 p h before 0 KeepsMost
  refuses alone here before kc g c at may =
      let few = c.few in
      let device : g.registers device_register ≡ 0x30000000 = c.same.devices ∙ here.enters.at.stands.devices in
      request_does_by core image places setting t i op (Check alone) p h here.at refl refl here.enters before 0 (omega arith) (omega arith) g c.runs kc refuse at c.pc c.live KeepsMost
      (λ s. inr (record {
        kind = BadAddress;
        refused = asked alone s false may;
        stops = λ earlier sh shows.
            sw-fault (in_cycles before t) number 26 5 8 g sh (omega (arith, device)) (ap (λ d. place_of (word_sum d 8)) device ∙ place_of-fault)
            ∙ ap (λ site. Stops (Faulted site number)) c.site;
      }))

  -- ---- from the lines that run straight on

  test_is : (x y b c : ℕ) (r : Bool) → x ≡ b → y ≡ c → (b == c) ≡ r → (x == y) ≡ r
  test_is x y b c r e f g = ap (λ v. v == y) e ∙ ap (λ v. b == v) f ∙ g

  chosen_alone : IsHere true → (bound : ℕ → ℕ) (before kb : ℕ) (g : Hart) → before ≤ 5 → IsChecked before kb g → LinesAt image bound kb (choices true) → places.block (suc i) ≡ kb + 3
      → g.registers t1 ≡ shared_bits a → Checks true a → DoesAnd core image places setting t 1 p h (before + 1) 0 KeepsMost
  chosen_alone here bound before kb g few c lines next test (InShared may is) =
      let cycle1 = in_cycles before t in
      let holds = holds_in_cycles image before t here.enters.running.code in
      let within = lines.1.1.0.within in
      let pc = c.pc in
      let e : (g.registers t1 == g.registers shared_register) ≡ true = test_is _ _ _ _ true test (c.same.shared_data ∙ here.enters.at.stands.shared_data) is in
      let goes = beq_taken image cycle1 number kb 6 23 8 g holds lines.0 c.pc c.live e (omega arith) in
      passes true here (before + 1) (suc (suc kb)) (goes_to_pc g (word_sum g.pc 8)) (branched before kb (suc (suc kb)) (word_sum g.pc 8) g c (omega arith) goes (omega arith)) lines.1.1.0 (omega arith) may
  chosen_alone here bound before kb g few c lines next test (InHeap alone may other is) = absurd (cc)
  chosen_alone here bound before kb g few c lines next test (Nowhere may other not_heap) =
      let cycle1 = in_cycles before t in
      let holds = holds_in_cycles image before t here.enters.running.code in
      let within = lines.1.1.0.within in
      let pc = c.pc in
      let e : (g.registers t1 == g.registers shared_register) ≡ false = test_is _ _ _ _ false test (c.same.shared_data ∙ here.enters.at.stands.shared_data) other in
      let goes = beq_on image cycle1 number kb 6 23 8 g holds lines.0 c.pc c.live e in
      refuses true here (before + 1) (suc kb) (goes_to_pc g (word_sum g.pc 4)) (branched before kb (suc kb) (word_sum g.pc 4) g c (omega arith) goes (omega arith)) lines.1.0 may

  chosen_any : IsHere false → (bound : ℕ → ℕ) (before kb : ℕ) (g : Hart) → before ≤ 5 → IsChecked before kb g → LinesAt image bound kb (choices false) → places.block (suc i) ≡ kb + 5
      → g.registers t2 ≡ shared_bits a → g.registers t1 ≡ heap_bits a → Checks false a → DoesAnd core image places setting t 1 p h (before + 1 + 1) 0 KeepsMost
  chosen_any here bound before kb g few c lines next test test' (InShared may is) =
      let code = here.enters.running.code in
      let holds = holds_in_cycles image before t code in
      let within = lines.1.1.1.1.0.within in
      let pc = c.pc in
      let e : (g.registers t2 == g.registers shared_register) ≡ true = test_is _ _ _ _ true test (c.same.shared_data ∙ here.enters.at.stands.shared_data) is in
      let goes = beq_taken image (in_cycles before t) number kb 7 23 12 g holds lines.0 c.pc c.live e (omega arith) in
      let k3 = suc (suc (suc kb)) in
      let g1 = goes_to_pc g (word_sum g.pc 12) in
      let c1 = branched before kb k3 (word_sum g.pc 12) g c (omega arith) goes (omega arith) in
      passes false here (before + 1 + 1) (suc k3) (after told idle Plain g1) (idled (before + 1) k3 g1 code c1 (omega arith) lines.1.1.1.0) lines.1.1.1.1.0 (omega arith) may
  chosen_any here bound before kb g few c lines next test test' (InHeap alone may other is) =
      let code = here.enters.running.code in
      let within = lines.1.1.1.1.0.within in
      let pc = c.pc in
      let e : (g.registers t2 == g.registers shared_register) ≡ false = test_is _ _ _ _ false test (c.same.shared_data ∙ here.enters.at.stands.shared_data) other in
      let goes = beq_on image (in_cycles before t) number kb 7 23 12 g (holds_in_cycles image before t code) lines.0 c.pc c.live e in
      let g1 = goes_to_pc g (word_sum g.pc 4) in
      let c1 = branched before kb (suc kb) (word_sum g.pc 4) g c (omega arith) goes (omega arith) in
      let pc1 = c1.pc in
      let k4 = suc (suc (suc (suc kb))) in
      let e1 : (g1.registers t1 == g1.registers heap_register) ≡ true = test_is _ _ _ _ true test' (c.same.private_heap ∙ here.enters.at.stands.private_heap) is in
      let goes1 = beq_taken image (in_cycles (before + 1) t) number (suc kb) 6 24 12 g1 (holds_in_cycles image (before + 1) t code) lines.1.0 c1.pc c1.live e1 (omega arith) in
      passes false here (before + 1 + 1) k4 (goes_to_pc g1 (word_sum g1.pc 12)) (branched (before + 1) (suc kb) k4 (word_sum g1.pc 12) g1 c1 (omega arith) goes1 (omega arith)) lines.1.1.1.1.0 (omega arith) may
  chosen_any here bound before kb g few c lines next test test' (Nowhere may other not_heap) =
      let code = here.enters.running.code in
      let within = lines.1.1.1.1.0.within in
      let pc = c.pc in
      let e : (g.registers t2 == g.registers shared_register) ≡ false = test_is _ _ _ _ false test (c.same.shared_data ∙ here.enters.at.stands.shared_data) other in
      let goes = beq_on image (in_cycles before t) number kb 7 23 12 g (holds_in_cycles image before t code) lines.0 c.pc c.live e in
      let g1 = goes_to_pc g (word_sum g.pc 4) in
      let c1 = branched before kb (suc kb) (word_sum g.pc 4) g c (omega arith) goes (omega arith) in
      let pc1 = c1.pc in
      let e1 : (g1.registers t1 == g1.registers heap_register) ≡ false = test_is _ _ _ _ false test' (c.same.private_heap ∙ here.enters.at.stands.private_heap) (not_heap refl) in
      let goes1 = beq_on image (in_cycles (before + 1) t) number (suc kb) 6 24 12 g1 (holds_in_cycles image (before + 1) t code) lines.1.0 c1.pc c1.live e1 in
      refuses false here (before + 1 + 1) (suc (suc kb)) (goes_to_pc g1 (word_sum g1.pc 4)) (branched (before + 1) (suc kb) (suc (suc kb)) (word_sum g1.pc 4) g1 c1 (omega arith) goes1 (omega arith)) lines.1.1.0 may

  chosen : (alone : Bool) → IsHere alone → (bound : ℕ → ℕ) (before kb : ℕ) (g : Hart) → before ≤ 5 → IsChecked before kb g → LinesAt image bound kb (choices alone)
      → places.block (suc i) ≡ kb + length (choices alone) → g.registers (shared_test_register alone) ≡ shared_bits a → (alone ≡ false → g.registers t1 ≡ heap_bits a)
      → Checks alone a → DoesAnd core image places setting t 1 p h (chosen_in alone before) 0 KeepsMost
  chosen true here bound before kb g few c lines next test heap finds = chosen_alone here bound before kb g few c lines next test finds
  chosen false here bound before kb g few c lines next test heap finds = chosen_any here bound before kb g few c lines next test (heap refl) finds

  check_by : (alone short : Bool) → (high_part op.site == 0) ≡ short → IsHere alone → (bound : ℕ → ℕ) → op.site < 2 ^ 32
      → HasBlock image bound places i (map quiet (load_by short op.site) ++ test_lines alone op.depth) → DoesAnd core image places setting t 1 p h (length (load_by short op.site) + test_steps alone) 0 KeepsMost
  check_by alone short is here bound small has =
      let en = here.enters in
      let stands = en.at.stands in
      let d = op.depth in
      let some = last_found core image places i op (Check alone) setting t p h en here.fits (let l = here.fits.values in omega arith) in
      let w = local_index (word_sum (h.registers end_register) (at_value d)) in
      let qs = straight short alone d op.site w in
      let stands_at = subst (HasBlock image bound places i) (are_lines short alone d op.site w) has in
      let k = places.block i in
      let entry : h.pc ≡ 4 * k = en.at.at ∙ ap (λ j. 4 * places.block j) en.index in
      let split = lines_split image bound k (quiet_lines qs) (choices alone) stands_at.lines in
      let tested = is_tested places told h short alone d op.site w a is small stands.nought stands.shared_mask stands.heap_mask some.place some.value in
      let walks = walked image bound t number en.running.code qs k h split.0 entry en.at.live tested.can in
      let count = quiet_length qs in
      let few = few_straight short alone d op.site w in
      let all = length-append (quiet_lines qs) (choices alone) in
      let next = stands_at.next in
      let kb = k + length (quiet_lines qs) in
      subst (λ steps. DoesAnd core image places setting t 1 p h steps 0 KeepsMost) (all_steps short alone d op.site w)
      (chosen alone here bound (length qs) kb (walk told qs h) few
      (record {
        few = omega arith;
        runs = walks.runs;
        pc = walks.pc ∙ ap (λ n. 4 * (k + n)) (sym count);
        site = tested.site;
        same = tested.same;
        top = tested.top;
        local = tested.local;
        live = walks.live;
      })
      split.1 (omega arith) tested.shared tested.heap
      (checks alone a (last_is_word (values p.runner.has) en.ready.in_range.values)))

  pub check_does : (alone : Bool) (bound : ℕ → ℕ) → OpAt core i op (Check alone) → Enters core image places setting t i op (Check alone) p h
      → Fits core places.frames i op (Check alone) → op.site < 2 ^ 32
      → HasBlock image bound places i (check_block alone op.depth op.site) → DoesAnd core image places setting t 1 p h (before_commit (Check alone) op.site) 0 KeepsMost
  check_does alone bound op_at en fits few has =
      check_by alone (high_part op.site == 0) refl (record { at = op_at; enters = en; fits = fits }) bound few has
