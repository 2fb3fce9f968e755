-- The law of blocks, made once: a list that pushes a number, drops it and halts, in seventeen words.
use Rattle.std.proofs.Common.{◌≡◌, ℕ, zero, suc, ◌+◌, ◌-◌, ◌*◌, ◌%◌, ◌<◌, List, [], ◌∷◌, length, Some, None, true, false, sym, ap, subst, ◌∙◌, arith, refl, inl, eq-eqb}
use Rattle.std.specs.Prelude.{◌==◌, if◌then◌else◌, slice_get}
use Rattle.std.proofs.lemmas.Bool.{ne_eqb}
use Rattle.fk_num.specs.Word.{Memory, put, word_sum}
use Rattle.fk_meaning_operation.specs.declared.operation.Operation.{Operation}
use Rattle.fk_meaning_operation.specs.declared.operation.Operation.TheVariants.{Push, DropLast, Halt}
use Rattle.fk_meaning.specs.Processor.{Call, Setting, values, push, drop_last, before}
use Rattle.fk_meaning.specs.Round.{done, taking}
use Rattle.fk_core.specs.declared.op.CoreOp.{CoreOp}
use Rattle.fk_core.specs.Next.{is_jump}
use Rattle.fk_image.specs.declared.Image.{Image}
use Rattle.fk_isa.specs.declared.instruction.Instruction.{Instruction}
use Rattle.fk_isa.specs.declared.instruction.Instruction.TheVariants.{Lui, Addi, Lw, Sw}
use Rattle.fk_machine.specs.declared.place.Device.TheVariants.{HartId, Harts}
use Rattle.fk_machine.specs.declared.place.Location.TheVariants.{LocalWord, DeviceWord}
use Rattle.fk_machine.specs.Place.{place_of, device_at}
use Rattle.fk_machine.specs.Hart.{Hart, Shared, Goes, Setting as MachineSetting}
use Rattle.fk_machine.specs.Step.{perform}
use Rattle.fk_machine.specs.Cycle.{first_hart}
use Rattle.fk_machine.specs.Run.{count_in}
use Rattle.fk_machine.proofs.Performs.{writes, moves, sw-local, sw-halt}
use Rattle.fk_machine.proofs.Places.{place_of-local, place_of-halt}
use Rattle.fk_sim_nodes.specs.Alone.{Holds, IsAt, GoesAlone, IsPrivateIn}
use Rattle.fk_sim_nodes.proofs.InPlace.{step_at}
use Rattle.fk_sim_block.specs.Owner.{number_of}
use Rattle.fk_sim_block.specs.Stands.{Places, HasValues, HasWaiting, HaveGroupFrames, frame_end, value_of, value_in}
use Rattle.fk_sim_block.specs.Stands.{zero_register, frame_register, end_register, rank_register, size_register, local_register, shared_register, heap_register, shared_mask_register, device_register, heap_mask_register, group_frame_register}
use Rattle.fk_sim_block.specs.Next.{OpAt, step_at as step_of}
use Rattle.fk_sim_block.specs.Ready.{is_alone}
use Rattle.fk_sim_block.specs.Block.{IsRunning, Begins, BlockDoes, BlockHalts, BlockLaw, beginner}
use Rattle.fk_sim_block.proofs.Standing.{operations_are_next}

abbrev pub pushes : CoreOp
pushes = record { kind = 1; site = 0; number = 5; target = 0; depth = 0 }

abbrev pub drops : CoreOp
drops = record { kind = 4; site = 1; number = 0; target = 0; depth = 1 }

abbrev pub halts : CoreOp
halts = record { kind = 34; site = 2; number = 0; target = 0; depth = 0 }

abbrev pub core : List CoreOp
core = pushes ∷ drops ∷ halts ∷ []

abbrev pub places : Places
places = record {
  block = λ i. if i == 0 then 12 else if i == 1 then 14 else 15;
  returns = λ i. None;
  frames = record { keeps = λ i word. false; is_main = λ i. true; group = λ i. false; of_file = 0 };
}

never : {A : Type 0} → false ≡ true → A
never e = absurd (cc)

pub record HasCode (image : Image) : Type 0 where
  pub at0 : IsAt image 0 (Lui frame_register 0x20000) 0
  pub at1 : IsAt image 1 (Addi end_register frame_register 256) 0
  pub at2 : IsAt image 2 (Lui local_register 0x20000) 0
  pub at3 : IsAt image 3 (Lui shared_register 0x10000) 0
  pub at4 : IsAt image 4 (Lui heap_register 0x20010) 0
  pub at5 : IsAt image 5 (Lui shared_mask_register 0xffc00) 0
  pub at6 : IsAt image 6 (Addi shared_mask_register shared_mask_register 3) 0
  pub at7 : IsAt image 7 (Lui device_register 0x30000) 0
  pub at8 : IsAt image 8 (Lui heap_mask_register 0xffff0) 0
  pub at9 : IsAt image 9 (Addi heap_mask_register heap_mask_register 3) 0
  pub at10 : IsAt image 10 (Lw rank_register device_register 20) 0
  pub at11 : IsAt image 11 (Lw size_register device_register 24) 0
  pub at12 : IsAt image 12 (Addi 6 zero_register 5) 0
  pub at13 : IsAt image 13 (Sw end_register 6 0xfffffffc) 1
  pub at14 : IsAt image 14 (Addi zero_register zero_register 0) 1
  pub at15 : IsAt image 15 (Lui 5 0x30000) 0
  pub at16 : IsAt image 16 (Sw 5 zero_register 12) 1

private : (image : Image) (t : MachineSetting) (number k : ℕ) (i : Instruction) (h h' : Hart) → Holds image t → IsAt image k i 0 → h.pc ≡ 4 * k
    → h.ended ≡ false → ((s : Shared) → GoesAlone (perform t number i h s) h' s) → IsPrivateIn image t number h h'
private image t number k i h h' holds at e live goes = record {
  live = live;
  counted = ap (count_in image.commits.items) e ∙ at.counted;
  goes = λ s. let g = goes s in (g.0, step_at image k 0 i at t holds number h s e ∙ g.1);
}

place-hart_id : place_of 0x30000014 ≡ DeviceWord HartId
unfolding place_of device_at
place-hart_id = refl

place-harts : place_of 0x30000018 ≡ DeviceWord Harts
unfolding place_of device_at
place-harts = refl

lw-hart_id : (t : MachineSetting) (number rd rs imm : ℕ) (h : Hart) (s : Shared) → word_sum (h.registers rs) imm % 4 ≡ 0
    → place_of (word_sum (h.registers rs) imm) ≡ DeviceWord HartId → perform t number (Lw rd rs imm) h s ≡ Goes (writes h rd number) s
lw-hart_id t number rd rs imm h s e f = let aligned = eq-eqb _ 0 e in rw (aligned, f)

lw-harts : (t : MachineSetting) (number rd rs imm : ℕ) (h : Hart) (s : Shared) → word_sum (h.registers rs) imm % 4 ≡ 0
    → place_of (word_sum (h.registers rs) imm) ≡ DeviceWord Harts → perform t number (Lw rd rs imm) h s ≡ Goes (writes h rd t.harts) s
lw-harts t number rd rs imm h s e f = let aligned = eq-eqb _ 0 e in rw (aligned, f)

begins : (image : Image) → HasCode image → (setting : Setting) (t : MachineSetting) (number : ℕ) → IsRunning image setting t
    → Begins core image places t (beginner setting (λ i. 0) 0 number)
begins image code setting t number running =
    let h0 = first_hart in
    let h1 = writes h0 frame_register 0x20000000 in
    let h2 = writes h1 end_register 0x20000100 in
    let h3 = writes h2 local_register 0x20000000 in
    let h4 = writes h3 shared_register 0x10000000 in
    let h5 = writes h4 heap_register 0x20010000 in
    let h6 = writes h5 shared_mask_register 0xffc00000 in
    let h7 = writes h6 shared_mask_register 0xffc00003 in
    let h8 = writes h7 device_register 0x30000000 in
    let h9 = writes h8 heap_mask_register 0xffff0000 in
    let h10 = writes h9 heap_mask_register 0xffff0003 in
    let h11 = writes h10 rank_register number in
    let h12 = writes h11 size_register t.harts in
    record {
      cycles = 12;
      few = omega arith;
      hart = h12;
      runs =
          (h1, private image t number 0 _ h0 h1 running.code code.at0 refl refl (λ s. (s.reserved, refl)), (h2, private image _ number 1 _ h1 h2 running.code code.at1 refl refl (λ s. (s.reserved, refl)), (h3, private image _ number 2 _ h2 h3 running.code code.at2 refl refl (λ s. (s.reserved, refl)), (h4, private image _ number 3 _ h3 h4 running.code code.at3 refl refl (λ s. (s.reserved, refl)), (h5, private image _ number 4 _ h4 h5 running.code code.at4 refl refl (λ s. (s.reserved, refl)), (h6, private image _ number 5 _ h5 h6 running.code code.at5 refl refl (λ s. (s.reserved, refl)), (h7, private image _ number 6 _ h6 h7 running.code code.at6 refl refl (λ s. (s.reserved, refl)), (h8, private image _ number 7 _ h7 h8 running.code code.at7 refl refl (λ s. (s.reserved, refl)), (h9, private image _ number 8 _ h8 h9 running.code code.at8 refl refl (λ s. (s.reserved, refl)), (h10, private image _ number 9 _ h9 h10 running.code code.at9 refl refl (λ s. (s.reserved, refl)), (h11, private image _ number 10 _ h10 h11 running.code code.at10 refl refl (λ s. (s.reserved, lw-hart_id _ number 19 26 20 h10 s refl place-hart_id)), (h12, private image _ number 11 _ h11 h12 running.code code.at11 refl refl (λ s. (s.reserved, lw-harts _ number 20 26 24 h11 s refl place-harts)), refl))))))))))));
      at = record {
        live = refl;
        at = refl;
        stands = record {
          nought = refl;
          frame = refl;
          behind = refl;
          number = refl;
          rank = refl;
          size = running.processors;
          top = refl;
          local = refl;
          shared_data = refl;
          private_heap = refl;
          shared_mask = refl;
          devices = refl;
          heap_mask = refl;
          running = record { home = refl; values = tt; privates = λ i e. never e };
          waiting = tt;
          groups = (tt, tt);
          own = λ i lt. absurd (omega arith);
          heap = λ i lt. refl;
          full = refl;
        };
      };
    }

-- the word behind the frame's last value
last_word : (n : ℕ) → n < 256 → (a : ℕ) → a ≡ 0x20000000 + 4 * (64 * suc n) → place_of (word_sum a 0xfffffffc) ≡ LocalWord (64 * suc n - 1)
last_word n lt a e = place_of-local (word_sum a 0xfffffffc) (64 * suc n - 1) (omega arith) (omega arith)

same_word : (m : Memory) (i v : ℕ) → put m i v i ≡ v
same_word m i v = rw (eq-eqb i i refl)

lower_word : (m : Memory) (i v j : ℕ) → (j == i) ≡ false → put m i v j ≡ m j
lower_word m i v j e = rw e

values_kept : (m m' : Memory) (n : ℕ) (vs : List ℕ) → ((j : ℕ) → j < frame_end n → m' j ≡ m j) → HasValues (value_of m n) vs → HasValues (value_of m' n) vs
values_kept m m' n [] same held = tt
values_kept m m' n (v ∷ vs) same held = (same (frame_end n - suc (length vs)) (omega arith) ∙ held.0, values_kept m m' n vs same held.1)

waiting_kept : (m m' : Memory) (backs : List ℕ) (calls : List Call) → ((j : ℕ) → j < 64 * length calls + 3 → m' j ≡ m j) → HasWaiting places m backs calls → HasWaiting places m' backs calls
waiting_kept m m' [] [] same held = tt
waiting_kept m m' (i ∷ backs) (c ∷ calls) same held = (
  record {
    begun_at = held.0.begun_at;
    word = held.0.word;
    point = held.0.point;
    code = same (64 * suc (length calls)) (omega arith) ∙ held.0.code;
    frame = same (64 * suc (length calls) + 1) (omega arith) ∙ held.0.frame;
    result = same (64 * suc (length calls) + 2) (omega arith) ∙ held.0.result;
    room = held.0.room;
  },
  record {
    home = held.1.home;
    values = values_kept m m' (length calls) c.values (λ j lt. same j (omega arith)) held.1.values;
    privates = λ w e. never e;
  },
  waiting_kept m m' backs calls (λ j lt. same j (omega arith)) held.2,
)
waiting_kept m m' backs calls same held = absurd (assumption held)

-- no call has a group frame
none_told : (m m' : Memory) (address : ℕ) (indices : List ℕ) (calls : List Call) → HaveGroupFrames places.frames m address indices calls → HaveGroupFrames places.frames m' address indices calls
none_told m m' address [] calls held = tt
none_told m m' address (i ∷ indices) [] held = tt
none_told m m' address (i ∷ indices) (c ∷ calls) held = (tt, none_told m m' address indices calls held.1)

values_before : (at : ℕ → ℕ) (vs : List ℕ) → HasValues at vs → HasValues at (before 1 vs)
values_before at [] held = tt
values_before at (v ∷ vs) held = held.1

values_pushed : (at : ℕ → ℕ) (v : ℕ) (vs : List ℕ) → length vs ≡ 0 → at 1 ≡ v → HasValues at (v ∷ vs)
values_pushed at v [] e f = (f, tt)
values_pushed at v (w ∷ vs) e f = absurd (omega arith)

push_does : (image : Image) → HasCode image → OpAt core 0 pushes (Push 5) → BlockDoes core image places 1 0 pushes (Push 5)
push_does image code at setting t p h en =
    let number = number_of p in
    let n = length p.runner.has.callers in
    let stands = en.at.stands in
    let h1 = writes h 6 (word_sum (h.registers zero_register) 5) in
    let pc : h.pc ≡ 4 * 12 = en.at.at ∙ ap (λ j. 4 * places.block j) en.index in
    let pc1 : h1.pc ≡ 4 * 13 = omega (arith, pc) in
    let word = 64 * suc n - 1 in
    let lt = en.ready.in_range.waiting in
    let address : place_of (word_sum (h1.registers end_register) 0xfffffffc) ≡ LocalWord word = last_word n lt (h.registers end_register) stands.behind in
    let aligned : word_sum (h1.registers end_register) 0xfffffffc % 4 ≡ 0 = omega (arith, stands.behind) in
    let five : word_sum (h.registers zero_register) 5 ≡ 5 = ap (λ w. word_sum w 5) stands.nought in
    let m' = put h.local word (word_sum (h.registers zero_register) 5) in
    let h2 : Hart = record (moves h1) { local = m' } in
    record {
      before = 1;
      behind = 0;
      few_before = omega arith;
      few_behind = omega arith;
      does = record {
        committing = h1;
        runs = (h1, private image t number 12 _ h h1 en.running.code code.at12 pc en.at.live (λ s. (s.reserved, refl)), refl);
        commits = record {
          live = en.at.live;
          counted = ap (count_in image.commits.items) pc1 ∙ code.at13.counted;
          does = λ s. inl (record {
            hart = h2;
            store = s;
            done = record { acting = done (step_of core 0 pushes (Push 5) p.runner.left.callers) true (push 5 p.runner.has); heap = p.heap };
            part = operations_are_next core 0 pushes (Push 5) setting 0 s p at en.index;
            goes = λ earlier sh shows. (
              _,
              step_at image 13 1 _ code.at13 _ en.running.code number h1 sh pc1 ∙ sw-local _ number 9 6 0xfffffffc word h1 sh aligned address,
              record { words = shows.words; output = shows.output; common = shows.common },
              λ j e. refl,
            );
            follows = (
              h2,
              refl,
              record {
                done = refl;
                at = record {
                  live = en.at.live;
                  at = omega (arith, pc1);
                  stands = record {
                    nought = stands.nought;
                    frame = stands.frame;
                    behind = stands.behind;
                    number = stands.number;
                    rank = stands.rank;
                    size = stands.size;
                    top = stands.top;
                    local = stands.local;
                    shared_data = stands.shared_data;
                    private_heap = stands.private_heap;
                    shared_mask = stands.shared_mask;
                    devices = stands.devices;
                    heap_mask = stands.heap_mask;
                    running = record { home = stands.running.home; values = values_pushed (value_of m' n) 5 (values p.runner.has) en.ready.depth (same_word h.local word _ ∙ five); privates = λ w e. never e };
                    waiting = waiting_kept h.local m' p.runner.left.callers p.runner.has.callers (λ j l. lower_word h.local word _ j (ne_eqb j word (λ e. omega arith))) stands.waiting;
                    groups = (tt, none_told h.local m' (h.registers group_frame_register) p.runner.left.callers p.runner.has.callers stands.groups.1);
                    own = λ j l. absurd (omega arith);
                    heap = λ j l. lower_word h.local word _ (16384 + j) (ne_eqb (16384 + j) word (λ e. omega arith)) ∙ stands.heap j l;
                    full = lower_word h.local word _ 2 (ne_eqb 2 word (λ e. omega arith)) ∙ stands.full;
                  };
                };
              },
            );
          });
        };
      };
    }

drop_does : (image : Image) → HasCode image → OpAt core 1 drops DropLast → BlockDoes core image places 1 1 drops DropLast
drop_does image code at setting t p h en =
    let number = number_of p in
    let stands = en.at.stands in
    let pc : h.pc ≡ 4 * 14 = en.at.at ∙ ap (λ j. 4 * places.block j) en.index in
    let next_pc : word_sum h.pc 4 ≡ 4 * 15 = omega (arith, pc) in
    record {
      before = 0;
      behind = 0;
      few_before = omega arith;
      few_behind = omega arith;
      does = record {
        committing = h;
        runs = refl;
        commits = record {
          live = en.at.live;
          counted = ap (count_in image.commits.items) pc ∙ code.at14.counted;
          does = λ s. inl (record {
            hart = moves h;
            store = s;
            done = record { acting = done (step_of core 1 drops DropLast p.runner.left.callers) true (drop_last 1 p.runner.has); heap = p.heap };
            part = operations_are_next core 1 drops DropLast setting 0 s p at en.index;
            goes = λ earlier sh shows. (sh, step_at image 14 1 _ code.at14 _ en.running.code number h sh pc, shows, λ j e. refl);
            follows = (
              moves h,
              refl,
              record {
                done = refl;
                at = record {
                  live = en.at.live;
                  at = next_pc;
                  stands = record {
                    nought = stands.nought;
                    frame = stands.frame;
                    behind = stands.behind;
                    number = stands.number;
                    rank = stands.rank;
                    size = stands.size;
                    top = stands.top;
                    local = stands.local;
                    shared_data = stands.shared_data;
                    private_heap = stands.private_heap;
                    shared_mask = stands.shared_mask;
                    devices = stands.devices;
                    heap_mask = stands.heap_mask;
                    running = record { home = stands.running.home; values = values_before (value_in h (length p.runner.has.callers)) (values p.runner.has) stands.running.values; privates = λ w e. never e };
                    waiting = stands.waiting;
                    groups = (tt, stands.groups.1);
                    own = stands.own;
                    heap = stands.heap;
                    full = stands.full;
                  };
                };
              },
            );
          });
        };
      };
    }

halt_does : (image : Image) → HasCode image → OpAt core 2 halts Halt → BlockHalts core image places 1 2 halts
halt_does image code at setting t p h en =
    let number = number_of p in
    let h1 = writes h 5 0x30000000 in
    let pc : h.pc ≡ 4 * 15 = en.at.at ∙ ap (λ j. 4 * places.block j) en.index in
    let pc1 : h1.pc ≡ 4 * 16 = omega (arith, pc) in
    record {
      before = 1;
      few_before = omega arith;
      does = record {
        committing = h1;
        runs = (h1, private image t number 15 _ h h1 en.running.code code.at15 pc en.at.live (λ s. (s.reserved, refl)), refl);
        commits = record {
          live = en.at.live;
          counted = ap (count_in image.commits.items) pc1 ∙ code.at16.counted;
          does = λ s. inl (record {
            hart = record (moves h1) { ended = true };
            store = s;
            done = record { acting = taking p.runner (Some (step_of core 2 halts Halt p.runner.left.callers)); heap = p.heap };
            part = operations_are_next core 2 halts Halt setting 0 s p at en.index;
            goes = λ earlier sh shows. (sh, step_at image 16 1 _ code.at16 _ en.running.code number h1 sh pc1 ∙ sw-halt _ number 5 0 12 h1 sh refl place_of-halt, shows, λ j e. refl);
            follows = (record (moves h1) { ended = true }, refl, refl);
          });
        };
      };
    }

-- ---- the law

when_push : (operation : Operation) → OpAt core 0 pushes operation → operation ≡ Push 5
when_push operation at = let e : Some (Push 5) ≡ Some operation = at.is_read in cc

when_drop : (operation : Operation) → OpAt core 1 drops operation → operation ≡ DropLast
when_drop operation at = let e : Some DropLast ≡ Some operation = at.is_read in cc

when_halt : (operation : Operation) → OpAt core 2 halts operation → operation ≡ Halt
when_halt operation at = let e : Some Halt ≡ Some operation = at.is_read in cc

alone_at : (image : Image) → HasCode image → (i : ℕ) (op : CoreOp) (operation : Operation) → OpAt core i op operation → is_alone operation ≡ true → BlockDoes core image places 1 i op operation
alone_at image code zero op operation at e =
    let same : pushes ≡ op = cc in
    let at' = subst (λ o. OpAt core 0 o operation) (sym same) at in
    let is = when_push operation at' in
    subst (λ o. BlockDoes core image places 1 0 o operation) same
    (subst (BlockDoes core image places 1 0 pushes) (sym is) (push_does image code (subst (OpAt core 0 pushes) is at')))
alone_at image code (suc zero) op operation at e =
    let same : drops ≡ op = cc in
    let at' = subst (λ o. OpAt core 1 o operation) (sym same) at in
    let is = when_drop operation at' in
    subst (λ o. BlockDoes core image places 1 1 o operation) same
    (subst (BlockDoes core image places 1 1 drops) (sym is) (drop_does image code (subst (OpAt core 1 drops) is at')))
alone_at image code (suc (suc zero)) op operation at e =
    let same : halts ≡ op = cc in
    let at' = subst (λ o. OpAt core 2 o operation) (sym same) at in
    let is = when_halt operation at' in
    never (sym (ap is_alone is) ∙ e)
alone_at image code (suc (suc (suc i))) op operation at e = absurd (let f = at.stands in cc)

halts_at : (image : Image) → HasCode image → (i : ℕ) (op : CoreOp) → OpAt core i op Halt → BlockHalts core image places 1 i op
halts_at image code zero op at = absurd (let f = at.stands in let g = at.is_read in cc)
halts_at image code (suc zero) op at = absurd (let f = at.stands in let g = at.is_read in cc)
halts_at image code (suc (suc zero)) op at =
    let same : halts ≡ op = cc in
    let at' = subst (λ o. OpAt core 2 o Halt) (sym same) at in
    subst (BlockHalts core image places 1 2) same (halt_does image code at')
halts_at image code (suc (suc (suc i))) op at = absurd (let f = at.stands in cc)

no_jump : (i : ℕ) (op : CoreOp) → slice_get core i ≡ Some op → is_jump op ≡ true → ⊥
no_jump zero op e f = let same : pushes ≡ op = cc in never (ap is_jump same ∙ f)
no_jump (suc zero) op e f = let same : drops ≡ op = cc in never (ap is_jump same ∙ f)
no_jump (suc (suc zero)) op e f = let same : halts ≡ op = cc in never (ap is_jump same ∙ f)
no_jump (suc (suc (suc i))) op e f = absurd (cc)

pub law_of : (image : Image) → HasCode image → BlockLaw core image places [] 0
law_of image code = record {
  alone = alone_at image code;
  halts = halts_at image code;
  jumps = λ i op e f. absurd (no_jump i op e f);
  begins = λ setting t number running lt. begins image code setting t number running;
}
