-- The law of blocks of groups, made once: a list that drops a value and halts, in the root, in seventeen words. Steps of groups
-- are none of it.
use Rattle.std.proofs.Common.{length, ◌≡◌, ℕ, zero, suc, ◌*◌, ◌%◌, List, [], ◌∷◌, Bool, Some, None, true, false, sym, ap, subst, ◌∙◌, arith, refl, inl, eq-eqb}
use Rattle.std.specs.Prelude.{◌==◌, if◌then◌else◌, slice_get}
use Rattle.fk_num.specs.Word.{word_sum}
use Rattle.fk_meaning_operation.specs.declared.operation.SplitKind.{SplitKind}
use Rattle.fk_meaning_operation.specs.declared.operation.Operation.{Operation}
use Rattle.fk_meaning_operation.specs.declared.operation.Operation.TheVariants.{DropLast, Begin, Halt, End, Split, Shrink}
use Rattle.fk_meaning.specs.Processor.{Setting, values, drop_last, before}
use Rattle.fk_meaning.specs.Round.{done, taking}
use Rattle.fk_core.specs.declared.op.CoreOp.{CoreOp}
use Rattle.fk_core.specs.Next.{is_jump}
use Rattle.fk_image.specs.declared.Image.{Image}
use Rattle.fk_isa.specs.declared.instruction.Instruction.{Instruction}
use Rattle.fk_isa.specs.declared.instruction.Instruction.TheVariants.{Lui, Addi, Lw, Sw}
use Rattle.fk_machine.specs.declared.place.Device.TheVariants.{HartId, Harts}
use Rattle.fk_machine.specs.declared.place.Location.TheVariants.{DeviceWord}
use Rattle.fk_machine.specs.Place.{place_of, device_at}
use Rattle.fk_machine.specs.Hart.{Hart, Shared, Goes, Setting as MachineSetting}
use Rattle.fk_machine.specs.Step.{perform}
use Rattle.fk_machine.specs.Cycle.{first_hart}
use Rattle.fk_machine.specs.Run.{count_in}
use Rattle.fk_machine.proofs.Performs.{writes, moves, sw-halt}
use Rattle.fk_machine.proofs.Places.{place_of-halt}
use Rattle.fk_sim_nodes.specs.Alone.{Holds, IsAt, GoesAlone, IsPrivateIn}
use Rattle.fk_sim_nodes.proofs.InPlace.{step_at}
use Rattle.fk_sim_block.specs.Owner.{number_of}
use Rattle.fk_sim_block.specs.Stands.{Places, HasValues, value_in}
use Rattle.fk_sim_block.specs.Stands.{zero_register, frame_register, end_register, rank_register, size_register, local_register, shared_register, heap_register, shared_mask_register, device_register, heap_mask_register}
use Rattle.fk_sim_block.specs.Next.{OpAt, step_at as step_of}
use Rattle.fk_sim_block.specs.Ready.{is_alone}
use Rattle.fk_sim_block.specs.Block.{IsRunning, BlockHalts, beginner}
use Rattle.fk_sim_block.proofs.Spaces.{space_kept}
use Rattle.fk_sim_block.proofs.Standing.{operations_are_next}
use Rattle.fk_sim_block.proofs.Example.{drops, halts}
use Rattle.fk_sim_block.specs.Node.{Nestings, node_register, body_register}
use Rattle.fk_sim_block.specs.Joint.{is_meeting}
use Rattle.fk_sim_block.specs.Law.{Cycles, GroupLaw, BeginsInNode, BlockDoesInNode, sets_apart, stays_in_step}

abbrev core : List CoreOp
core = drops ∷ halts ∷ []

abbrev places : Places
places = record {
  block = λ i. if i == 0 then 14 else 15;
  returns = λ i. None;
  frames = record { keeps = λ i word. false; is_main = λ i. true; group = λ i. false; of_file = 0 };
}

-- no levels in frames, and nobody begins a group
abbrev nestings : Nestings
nestings = record {
  levels = λ i. 0;
  behind = λ i. 0;
  nest = λ i. 0;
  forks = λ i l. None;
  start = record { there = λ i. record { at = 0; changes = λ r. false }; coming = λ i h. h };
}

abbrev cycles : Cycles
cycles = record { before = λ i. 0; behind = λ i onward. 0 }

never : {A : Type 0} → false ≡ true → A
never e = absurd (cc)

pub record HasCode (image : Image) : Type 0 where
  pub at0 : IsAt image 0 (Lui frame_register 0x20000) 0
  pub at1 : IsAt image 1 (Addi end_register frame_register 256) 0
  pub at2 : IsAt image 2 (Lui local_register 0x20000) 0
  pub at3 : IsAt image 3 (Lui shared_register 0x10000) 0
  pub at4 : IsAt image 4 (Lui heap_register 0x20010) 0
  pub at5 : IsAt image 5 (Lui shared_mask_register 0xffc00) 0
  pub at6 : IsAt image 6 (Addi shared_mask_register shared_mask_register 3) 0
  pub at7 : IsAt image 7 (Lui device_register 0x30000) 0
  pub at8 : IsAt image 8 (Lui heap_mask_register 0xffff0) 0
  pub at9 : IsAt image 9 (Addi heap_mask_register heap_mask_register 3) 0
  pub at10 : IsAt image 10 (Lw rank_register device_register 20) 0
  pub at11 : IsAt image 11 (Lw size_register device_register 24) 0
  pub at12 : IsAt image 12 (Lui node_register 0x18400) 0
  pub at13 : IsAt image 13 (Addi body_register size_register 0) 0
  pub at14 : IsAt image 14 (Addi zero_register zero_register 0) 1
  pub at15 : IsAt image 15 (Lui 5 0x30000) 0
  pub at16 : IsAt image 16 (Sw 5 zero_register 12) 1

private : (image : Image) (t : MachineSetting) (number k : ℕ) (i : Instruction) (h h' : Hart) → Holds image t → IsAt image k i 0 → h.pc ≡ 4 * k
    → h.ended ≡ false → ((s : Shared) → GoesAlone (perform t number i h s) h' s) → IsPrivateIn image t number h h'
private image t number k i h h' holds at e live goes = record {
  live = live;
  counted = ap (count_in image.commits.items) e ∙ at.counted;
  goes = λ s. let g = goes s in (g.0, step_at image k 0 i at t holds number h s e ∙ g.1);
}

place-hart_id : place_of 0x30000014 ≡ DeviceWord HartId
unfolding place_of device_at
place-hart_id = refl

place-harts : place_of 0x30000018 ≡ DeviceWord Harts
unfolding place_of device_at
place-harts = refl

lw-hart_id : (t : MachineSetting) (number rd rs imm : ℕ) (h : Hart) (s : Shared) → word_sum (h.registers rs) imm % 4 ≡ 0
    → place_of (word_sum (h.registers rs) imm) ≡ DeviceWord HartId → perform t number (Lw rd rs imm) h s ≡ Goes (writes h rd number) s
lw-hart_id t number rd rs imm h s e f = let aligned = eq-eqb _ 0 e in rw (aligned, f)

lw-harts : (t : MachineSetting) (number rd rs imm : ℕ) (h : Hart) (s : Shared) → word_sum (h.registers rs) imm % 4 ≡ 0
    → place_of (word_sum (h.registers rs) imm) ≡ DeviceWord Harts → perform t number (Lw rd rs imm) h s ≡ Goes (writes h rd t.harts) s
lw-harts t number rd rs imm h s e f = let aligned = eq-eqb _ 0 e in rw (aligned, f)

begins : (image : Image) → HasCode image → (setting : Setting) (t : MachineSetting) (number : ℕ) → IsRunning image setting t
    → BeginsInNode core image places nestings setting t (beginner setting (λ i. 0) 0 number)
begins image code setting t number running =
    let e = running.processors in
    let few = running.few in
    let h0 = first_hart in
    let h1 = writes h0 frame_register 0x20000000 in
    let h2 = writes h1 end_register 0x20000100 in
    let h3 = writes h2 local_register 0x20000000 in
    let h4 = writes h3 shared_register 0x10000000 in
    let h5 = writes h4 heap_register 0x20010000 in
    let h6 = writes h5 shared_mask_register 0xffc00000 in
    let h7 = writes h6 shared_mask_register 0xffc00003 in
    let h8 = writes h7 device_register 0x30000000 in
    let h9 = writes h8 heap_mask_register 0xffff0000 in
    let h10 = writes h9 heap_mask_register 0xffff0003 in
    let h11 = writes h10 rank_register number in
    let h12 = writes h11 size_register t.harts in
    let h13 = writes h12 node_register 0x18400000 in
    let h14 = writes h13 body_register (word_sum (h13.registers size_register) 0) in
    record {
      begins = record {
        cycles = 14;
        few = omega arith;
        hart = h14;
        runs =
            (h1, private image t number 0 _ h0 h1 running.code code.at0 refl refl (λ s. (s.reserved, refl)), (h2, private image _ number 1 _ h1 h2 running.code code.at1 refl refl (λ s. (s.reserved, refl)), (h3, private image _ number 2 _ h2 h3 running.code code.at2 refl refl (λ s. (s.reserved, refl)), (h4, private image _ number 3 _ h3 h4 running.code code.at3 refl refl (λ s. (s.reserved, refl)), (h5, private image _ number 4 _ h4 h5 running.code code.at4 refl refl (λ s. (s.reserved, refl)), (h6, private image _ number 5 _ h5 h6 running.code code.at5 refl refl (λ s. (s.reserved, refl)), (h7, private image _ number 6 _ h6 h7 running.code code.at6 refl refl (λ s. (s.reserved, refl)), (h8, private image _ number 7 _ h7 h8 running.code code.at7 refl refl (λ s. (s.reserved, refl)), (h9, private image _ number 8 _ h8 h9 running.code code.at8 refl refl (λ s. (s.reserved, refl)), (h10, private image _ number 9 _ h9 h10 running.code code.at9 refl refl (λ s. (s.reserved, refl)), (h11, private image _ number 10 _ h10 h11 running.code code.at10 refl refl (λ s. (s.reserved, lw-hart_id _ number 19 26 20 h10 s refl place-hart_id)), (h12, private image _ number 11 _ h11 h12 running.code code.at11 refl refl (λ s. (s.reserved, lw-harts _ number 20 26 24 h11 s refl place-harts)), (h13, private image _ number 12 _ h12 h13 running.code code.at12 refl refl (λ s. (s.reserved, refl)), (h14, private image _ number 13 _ h13 h14 running.code code.at13 refl refl (λ s. (s.reserved, refl)), refl))))))))))))));
        at = record {
          live = refl;
          at = refl;
          stands = record {
            nought = refl;
            frame = refl;
            behind = refl;
            number = refl;
            rank = refl;
            size = running.processors;
            top = refl;
            local = refl;
            shared_data = refl;
            private_heap = refl;
            shared_mask = refl;
            devices = refl;
            heap_mask = refl;
            running = record { home = refl; values = tt; privates = λ i e. never e };
            waiting = tt;
            groups = (tt, tt);
            own = λ i lt. absurd (omega arith);
            heap = λ i lt. refl;
            full = refl;
          };
        };
      };
      node = record { node = refl; body = omega (arith, e, few); space = tt; outer = ((omega arith, tt, tt), tt) };
    }

values_before : (at : ℕ → ℕ) (vs : List ℕ) → HasValues at vs → HasValues at (before 1 vs)
values_before at [] held = tt
values_before at (v ∷ vs) held = held.1

drop_does : (image : Image) → HasCode image → OpAt core 0 drops DropLast → BlockDoesInNode core image places nestings cycles 1 0 drops DropLast
drop_does image code at setting t runs first m p en member finds =
    let h = m.hart in
    let stands = en.at.stands in
    let pc : h.pc ≡ 4 * 14 = en.at.at ∙ ap (λ j. 4 * places.block j) en.index in
    let next_pc : word_sum h.pc 4 ≡ 4 * 15 = omega (arith, pc) in
    record {
      committing = h;
      runs = refl;
      commits = record {
        live = en.at.live;
        counted = ap (count_in image.commits.items) pc ∙ code.at14.counted;
        does = λ s. inl (record {
          hart = moves h;
          store = s;
          done = record { acting = done (step_of core 0 drops DropLast p.runner.left.callers) true (drop_last 1 p.runner.has); heap = p.heap };
          part = operations_are_next core 0 drops DropLast setting 0 s p at en.index;
          goes = λ earlier sh shows. (sh, step_at image 14 1 _ code.at14 _ en.running.code m.number h sh pc, shows, λ j e. refl);
          follows = (
            moves h,
            refl,
            record {
              done = record {
                done = refl;
                at = record {
                  live = en.at.live;
                  at = next_pc;
                  stands = record {
                    nought = stands.nought;
                    frame = stands.frame;
                    behind = stands.behind;
                    number = stands.number;
                    rank = stands.rank;
                    size = stands.size;
                    top = stands.top;
                    local = stands.local;
                    shared_data = stands.shared_data;
                    private_heap = stands.private_heap;
                    shared_mask = stands.shared_mask;
                    devices = stands.devices;
                    heap_mask = stands.heap_mask;
                    running = record { home = stands.running.home; values = values_before (value_in h (length p.runner.has.callers)) (values p.runner.has) stands.running.values; privates = λ w e. never e };
                    waiting = stands.waiting;
                    groups = (tt, stands.groups.1);
                    own = stands.own;
                    heap = stands.heap;
                    full = stands.full;
                  };
                };
              };
              node = record { node = member.node.node; body = member.node.body; space = space_kept p.runner.has.level p.runner.has.outer h (moves h) refl refl member.node.space; outer = member.node.outer };
            },
          );
        });
      };
    }

halt_does : (image : Image) → HasCode image → OpAt core 1 halts Halt → BlockHalts core image places 1 1 halts
halt_does image code at setting t p h en =
    let number = number_of p in
    let h1 = writes h 5 0x30000000 in
    let pc : h.pc ≡ 4 * 15 = en.at.at ∙ ap (λ j. 4 * places.block j) en.index in
    let pc1 : h1.pc ≡ 4 * 16 = omega (arith, pc) in
    record {
      before = 1;
      few_before = omega arith;
      does = record {
        committing = h1;
        runs = (h1, private image t number 15 _ h h1 en.running.code code.at15 pc en.at.live (λ s. (s.reserved, refl)), refl);
        commits = record {
          live = en.at.live;
          counted = ap (count_in image.commits.items) pc1 ∙ code.at16.counted;
          does = λ s. inl (record {
            hart = record (moves h1) { ended = true };
            store = s;
            done = record { acting = taking p.runner (Some (step_of core 1 halts Halt p.runner.left.callers)); heap = p.heap };
            part = operations_are_next core 1 halts Halt setting 0 s p at en.index;
            goes = λ earlier sh shows. (sh, step_at image 16 1 _ code.at16 _ en.running.code number h1 sh pc1 ∙ sw-halt _ number 5 0 12 h1 sh refl place_of-halt, shows, λ j e. refl);
            follows = (record (moves h1) { ended = true }, refl, refl);
          });
        };
      };
    }

-- ---- the law

-- the list has two operations
is_drop : (op : CoreOp) (operation : Operation) → OpAt core 0 op operation → operation ≡ DropLast
is_drop op operation at =
    let same : drops ≡ op = let f = at.stands in cc in
    let at' = subst (λ o. OpAt core 0 o operation) (sym same) at in
    let e : Some DropLast ≡ Some operation = at'.is_read in
    cc

is_halt : (op : CoreOp) (operation : Operation) → OpAt core 1 op operation → operation ≡ Halt
is_halt op operation at =
    let same : halts ≡ op = let f = at.stands in cc in
    let at' = subst (λ o. OpAt core 1 o operation) (sym same) at in
    let e : Some Halt ≡ Some operation = at'.is_read in
    cc

-- none of these is true of both
neither : (test : Operation → Bool) → test DropLast ≡ false → test Halt ≡ false → (i : ℕ) (op : CoreOp) (operation : Operation) → OpAt core i op operation → test operation ≡ true → ⊥
neither test d h zero op operation at e = never (sym d ∙ sym (ap test (is_drop op operation at)) ∙ e)
neither test d h (suc zero) op operation at e = never (sym h ∙ sym (ap test (is_halt op operation at)) ∙ e)
neither test d h (suc (suc i)) op operation at e = absurd (let f = at.stands in cc)

alone_at : (image : Image) → HasCode image → (i : ℕ) (op : CoreOp) (operation : Operation) → OpAt core i op operation → is_alone operation ≡ true
    → BlockDoesInNode core image places nestings cycles 1 i op operation
alone_at image code zero op operation at e =
    let same : drops ≡ op = let f = at.stands in cc in
    let at' = subst (λ o. OpAt core 0 o operation) (sym same) at in
    let is = is_drop op operation at in
    subst (λ o. BlockDoesInNode core image places nestings cycles 1 0 o operation) same
    (subst (BlockDoesInNode core image places nestings cycles 1 0 drops) (sym is) (drop_does image code (subst (OpAt core 0 drops) is at')))
alone_at image code (suc zero) op operation at e = never (sym (ap is_alone (is_halt op operation at)) ∙ e)
alone_at image code (suc (suc i)) op operation at e = absurd (let f = at.stands in cc)

halts_at : (image : Image) → HasCode image → (i : ℕ) (op : CoreOp) → OpAt core i op Halt → BlockHalts core image places 1 i op
halts_at image code zero op at = absurd (let f = is_drop op Halt at in cc)
halts_at image code (suc zero) op at =
    let same : halts ≡ op = let f = at.stands in cc in
    let at' = subst (λ o. OpAt core 1 o Halt) (sym same) at in
    subst (BlockHalts core image places 1 1) same (halt_does image code at')
halts_at image code (suc (suc i)) op at = absurd (let f = at.stands in cc)

no_jump : (i : ℕ) (op : CoreOp) → slice_get core i ≡ Some op → is_jump op ≡ true → ⊥
no_jump zero op e f = let same : drops ≡ op = cc in never (ap is_jump same ∙ f)
no_jump (suc zero) op e f = let same : halts ≡ op = cc in never (ap is_jump same ∙ f)
no_jump (suc (suc i)) op e f = absurd (cc)

no_end : (i : ℕ) (op : CoreOp) → OpAt core i op End → ⊥
no_end zero op at = let f = is_drop op End at in cc
no_end (suc zero) op at = let f = is_halt op End at in cc
no_end (suc (suc i)) op at = let f = at.stands in cc

no_split : (i : ℕ) (op : CoreOp) (by : SplitKind) → OpAt core i op (Split by) → ⊥
no_split zero op by at = let f = is_drop op (Split by) at in cc
no_split (suc zero) op by at = let f = is_halt op (Split by) at in cc
no_split (suc (suc i)) op by at = let f = at.stands in cc

no_shrink : (i : ℕ) (op : CoreOp) → OpAt core i op Shrink → ⊥
no_shrink zero op at = let f = is_drop op Shrink at in cc
no_shrink (suc zero) op at = let f = is_halt op Shrink at in cc
no_shrink (suc (suc i)) op at = let f = at.stands in cc

no_begin : (i : ℕ) (op : CoreOp) → OpAt core i op Begin → ⊥
no_begin zero op at = let f = is_drop op Begin at in cc
no_begin (suc zero) op at = let f = is_halt op Begin at in cc
no_begin (suc (suc i)) op at = let f = at.stands in cc

pub law_of : (image : Image) → HasCode image → GroupLaw core image places nestings cycles [] 0
law_of image code = record {
  few_before = λ i. omega arith;
  few_behind = λ i onward. omega arith;
  alone = alone_at image code;
  jumps = λ i op e f. absurd (no_jump i op e f);
  halts = halts_at image code;
  begins = λ setting t number running lt. begins image code setting t number running;
  steps = λ i op operation lowest size at e. absurd (neither stays_in_step refl refl i op operation at e);
  parts = λ i op operation lowest size at e. absurd (neither sets_apart refl refl i op operation at e);
  ends = λ i op lowest size at. absurd (no_end i op at);
  divides = λ i op by at. absurd (no_split i op by at);
  lacks = λ i op by at. absurd (no_split i op by at);
  shrinks = λ i op at. absurd (no_shrink i op at);
  ends_part = λ i op at. absurd (no_end i op at);
  meets = λ i op operation at e. absurd (neither is_meeting refl refl i op operation at e);
  few_to_begin = λ i op at. absurd (no_begin i op at);
  starts = λ i op at. absurd (no_begin i op at);
}
