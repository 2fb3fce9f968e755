-- A block that begins with its commit, a load of a local word; and blocks of jumps, branches and halts.
use Rattle.std.proofs.Common.{◌≡◌, ℕ, suc, ◌-◌, ◌*◌, ◌%◌, ◌<◌, ◌≤◌, List, ◌∷◌, length, Bool, Some, true, false, not, ap, subst, sym, ◌∙◌, arith, refl, inl, eq-eqb}
use Rattle.std.specs.Prelude.{◌==◌, if◌then◌else◌}
use Rattle.fk_num.specs.Word.{word_sum}
use Rattle.fk_meaning_operation.specs.declared.operation.Operation.TheVariants.{Branch, Halt}
use Rattle.fk_meaning.specs.Processor.{Setting, values, drop_last, last}
use Rattle.fk_meaning.specs.Local.{is_onward}
use Rattle.fk_meaning.specs.Round.{done, taking}
use Rattle.fk_core.specs.declared.op.CoreOp.{CoreOp}
use Rattle.fk_image.specs.declared.Image.{Image}
use Rattle.fk_isa.specs.declared.instruction.Instruction.{Instruction}
use Rattle.fk_isa.specs.declared.instruction.Instruction.TheVariants.{Lw}
use Rattle.fk_machine.specs.Hart.{Hart, Shared, Goes, Setting as MachineSetting}
use Rattle.fk_machine.specs.Place.{place_of}
use Rattle.fk_machine.specs.Step.{perform}
use Rattle.fk_machine.specs.Run.{count_in}
use Rattle.fk_machine.proofs.Performs.{writes, moves, lw-local, sw-halt}
use Rattle.fk_machine.proofs.Places.{place_of-local, place_of-halt}
use Rattle.fk_sim_nodes.specs.Alone.{Holds, IsAt, later}
use Rattle.fk_sim_nodes.specs.Source.{Passes}
use Rattle.fk_sim_nodes.proofs.InPlace.{step_at}
use Rattle.fk_sim_block.specs.Owner.{Commons, Owner, Doing, owner_of, number_of, part}
use Rattle.fk_sim_block.specs.Stands.{Places, StandsAt, StandsFor, FrameInHart, value_in, zero_register, end_register, device_register, HaveGroupFrames, group_frame_register}
use Rattle.fk_sim_block.specs.Next.{OpAt, step_at as step_of}
use Rattle.fk_sim_block.specs.Suits.{Fits, Flows, nothing, writes as changes}
use Rattle.fk_sim_block.specs.Block.{HasDone, BlockJumps, BlockHalts, most_behind}
use Rattle.fk_sim_block.proofs.Standing.{operations_are_next}
use Rattle.fk_gen.specs.Lines.{label_of, at_value}
use Rattle.fk_gen.specs.InPlace.{HasBlock, HasLabels}
use Rattle.fk_gen.specs.Keeps.{Keeps, DoesAnd}
use Rattle.fk_gen.proofs.Standing.{groups_go, stands_with}
use Rattle.fk_gen.proofs.Values.{values_before}
use Rattle.fk_gen.proofs.Walk.{private}
use Rattle.fk_gen.proofs.Jumps.{jumps}
use Rattle.fk_gen.specs.Registers.{t0}
use Rattle.fk_gen_flow.specs.Keeps.{BlockKeeps}
use Rattle.fk_gen_flow.specs.Flow.{jump_block, branch_block, halt_block, passes}
use Rattle.fk_gen_flow.proofs.Walk.{Comes, IsAbout, IsLocal, there, first, writing, next_word, jal_goes}
use Rattle.fk_gen.proofs.ValueLines.{place_word, operand_runs, operand_is}
use Rattle.fk_gen_flow.proofs.Frames.{flows_on}

-- an instruction that touches nothing but its hart commits
pub alone_does : (core : List CoreOp) (image : Image) (places : Places) (setting : Setting) (t : MachineSetting) (p : Owner) (h h1 : Hart) (d : Doing) (Also : Hart → Type 0) (k : ℕ) (instruction : Instruction) (behind : ℕ)
    → IsAbout image t k h → IsAt image k instruction 1 → ((sh : Shared) → perform t (number_of p) instruction h sh ≡ Goes h1 sh) → behind ≤ most_behind
    → ((s : Commons) → part core setting 1 s p ≡ Passes s d)
    → Comes image (later t) (number_of p) behind h1 (λ h'. HasDone core image places d h' × Also h')
    → DoesAnd core image places setting t 1 p h 0 behind Also
alone_does core image places setting t p h h1 d Also k instruction behind about at goes few part_is rest = record {
  few_before = omega arith;
  few_behind = few;
  does = record {
    committing = h;
    runs = refl;
    commits = record {
      live = about.live;
      counted = ap (count_in image.commits.items) about.at ∙ at.counted;
      does = λ s. inl (record {
        hart = h1;
        store = s;
        done = d;
        part = part_is s;
        goes = λ earlier sh shows. (
          sh,
          step_at image k 1 _ at t about.code (number_of p) h sh about.at ∙ goes sh,
          shows,
          λ j e. refl,
        );
        follows = (rest.hart, rest.runs, rest.goal);
      });
    };
  };
}

pub lw_does : (core : List CoreOp) (image : Image) (places : Places) (setting : Setting) (t : MachineSetting) (p : Owner) (h : Hart) (d : Doing) (Also : Hart → Type 0) (k rd rs imm w behind : ℕ)
    → IsAbout image t k h → IsAt image k (Lw rd rs imm) 1 → IsLocal (word_sum (h.registers rs) imm) w → behind ≤ most_behind
    → ((s : Commons) → part core setting 1 s p ≡ Passes s d)
    → Comes image (later t) (number_of p) behind (writes h rd (h.local w)) (λ h'. HasDone core image places d h' × Also h')
    → DoesAnd core image places setting t 1 p h 0 behind Also
lw_does core image places setting t p h d Also k rd rs imm w behind about at is few part_is rest =
    alone_does core image places setting t p h (writes h rd (h.local w)) d Also k (Lw rd rs imm) behind about at
    (λ sh. lw-local t (number_of p) rd rs imm w h sh (omega (arith, is.0)) (place_of-local _ w is.1 is.0)) few part_is rest

-- a hart at the block of an index
pub about_block : (image : Image) (bound : ℕ → ℕ) (places : Places) (t : MachineSetting) (p : Owner) (h : Hart) (i : ℕ) → Holds image t → p.runner.left.at ≡ i → StandsAt places p h
    → IsAbout image t (places.block i) h
about_block image bound places t p h i holds e at = record { code = holds; live = at.live; at = at.at ∙ ap (λ j. 4 * places.block j) e }

pub block_within : (bound : ℕ → ℕ) (places : Places) (j : ℕ) → HasLabels bound places → places.block j ≤ 262144
block_within bound places j labels = subst (λ k. k ≤ 262144) (labels.blocks j) (labels.within (label_of j))

-- ---- jumps

pub jump_goes : (core : List CoreOp) (image : Image) (bound : ℕ → ℕ) (places : Places) (i : ℕ) (op : CoreOp) → HasBlock image bound places i (jump_block op.target)
    → Flows core places.frames nothing i op.target → BlockJumps core image places i op
jump_goes core image bound places i op block flows t p h holds e at =
    let about = about_block image bound places t p h i holds e at in
    let target = bound (label_of op.target) in
    let stands = at.stands in
    let frame = subst (λ j. FrameInHart places h (length p.runner.has.callers) j p.runner.has.call) e stands.running in
    record {
      hart = jumps h zero_register (4 * target);
      private = private image t (number_of p) (places.block i) _ h (jumps h zero_register (4 * target)) about.code block.lines.0 about.at about.live
          (jal_goes t (number_of p) 0 0 (places.block i) target h about.at block.lines.0.within (block.labels.within (label_of op.target)));
      at = record {
        live = at.live;
        at = ap (λ k. 4 * k) (block.labels.blocks op.target);
        stands = stands_with places p _ h _ stands (refl, refl, refl, refl, refl, refl, refl, refl, refl, refl, refl, refl, refl) refl refl stands.top (record {
          running = flows_on places core nothing _ _ _ i op.target p.runner.has.call p.runner.has.call (λ w. refl) flows refl frame.values frame;
          waiting = stands.waiting;
          groups = groups_go core places nothing p h i op.target p.runner.has.call e flows refl stands;
          own = stands.own;
          heap = stands.heap;
          full = stands.full;
        });
      };
    }

-- ---- branches

-- whether a value goes on
abbrev pub goes_on : (onward : Bool) → (v : ℕ) → Bool
goes_on true v = not (v == 0)
goes_on false v = v == 0

is_goes_on : (onward : Bool) (p : Owner) → is_onward (Branch onward) p.runner.has ≡ goes_on onward (last (values p.runner.has))
is_goes_on true p = refl
is_goes_on false p = refl

passed : (onward : Bool) (t : MachineSetting) (number : ℕ) (h : Hart) (s : Shared) → h.registers zero_register ≡ 0 → goes_on onward (h.registers t0) ≡ true → word_sum h.pc 8 % 4 ≡ 0
    → perform t number (passes onward) h s ≡ Goes (record h { pc = word_sum h.pc 8 }) s
passed true t number h s nought e f = let g = eq-eqb _ 0 f in rw (nought, e, g)
passed false t number h s nought e f = let g = eq-eqb _ 0 f in rw (nought, e, g)

not_passed : (onward : Bool) (t : MachineSetting) (number : ℕ) (h : Hart) (s : Shared) → h.registers zero_register ≡ 0 → goes_on onward (h.registers t0) ≡ false
    → perform t number (passes onward) h s ≡ Goes (moves h) s
not_passed true t number h s nought e = rw (nought, e)
not_passed false t number h s nought e = rw (nought, e)

module _ (core : List CoreOp) (image : Image) (bound : ℕ → ℕ) (places : Places) (i : ℕ) (op : CoreOp) (onward : Bool) where
  -- what a branch has done on one way
  abbrev branched : Owner → (way : Bool) → Doing
  branched p way = record { acting = done (step_of core i op (Branch onward) p.runner.left.callers) way (drop_last 1 p.runner.has); heap = p.heap }

  -- a hart like another but for t0 and its place
  branch_stands : (p : Owner) (h : Hart) (v j pc : ℕ) → p.runner.left.at ≡ i → StandsFor places p h → Flows core places.frames nothing i j
      → (way : Bool) → (branched p way).acting.runner.left.at ≡ j → (branched p way).acting.runner.left.callers ≡ p.runner.left.callers
      → StandsFor places (owner_of (branched p way)) (record (writes h t0 v) { pc = pc })
  branch_stands p h v j pc e stands flows way f g =
      let frame = subst (λ j. FrameInHart places h (length p.runner.has.callers) j p.runner.has.call) e stands.running in
      stands_with places p (owner_of (branched p way)) h (record (writes h t0 v) { pc = pc }) stands (refl, refl, refl, refl, refl, refl, refl, refl, refl, refl, refl, refl, refl) refl refl stands.top (record {
        running = subst (λ j. FrameInHart places h (length p.runner.has.callers) j (drop_last 1 p.runner.has).call) (sym f)
            (flows_on places core nothing _ _ _ i j p.runner.has.call (drop_last 1 p.runner.has).call (λ w. refl) flows refl (values_before 1 (value_in h (length p.runner.has.callers)) (values p.runner.has) frame.values) frame);
        waiting = rw g stands.waiting;
        groups =
            subst (λ k. HaveGroupFrames places.frames h.local (h.registers group_frame_register) (k ∷ (branched p way).acting.runner.left.callers) ((drop_last 1 p.runner.has).call ∷ p.runner.has.callers)) (sym f)
            (subst (λ backs. HaveGroupFrames places.frames h.local (h.registers group_frame_register) (j ∷ backs) ((drop_last 1 p.runner.has).call ∷ p.runner.has.callers)) (sym g)
            (groups_go core places nothing p h i j (drop_last 1 p.runner.has).call e flows refl stands));
        own = stands.own;
        heap = stands.heap;
        full = stands.full;
      })

  -- it has branched, and keeps what a block keeps that makes no call
  abbrev HasBranched : Owner → (way : Bool) → (h h' : Hart) → Type 0
  HasBranched p way h h' =
      HasDone core image places (branched p way) h' × Keeps places (length p.runner.has.callers) op.depth (changes (Branch onward)) h h'

  kept : (p : Owner) (h : Hart) (v pc : ℕ) → Keeps places (length p.runner.has.callers) op.depth (changes (Branch onward)) h (record (writes h t0 v) { pc = pc })
  kept p h v pc = record { node = refl; body = refl; frames = refl; blocks = refl; header = λ j lt apart. refl; words = λ j from lt apart. refl }

  branch_way : HasBlock image bound places i (branch_block onward op.depth op.target) → OpAt core i op (Branch onward) → Fits core places.frames i op (Branch onward)
      → (setting : Setting) (t : MachineSetting) (p : Owner) (h : Hart) → Holds image t → p.runner.left.at ≡ i → length (values p.runner.has) ≡ op.depth → length p.runner.has.callers < 256
      → StandsAt places p h → (way : Bool) → is_onward (Branch onward) p.runner.has ≡ way
      → DoesAnd core image places setting t 1 p h 0 (if way then 1 else 2) (Keeps places (length p.runner.has.callers) op.depth (changes (Branch onward)) h)
  branch_way block op_at fits setting t p h holds e depth waiting at true on =
      let number = number_of p in
      let n = length p.runner.has.callers in
      let k = places.block i in
      let about = about_block image bound places t p h i holds e at in
      let l0 = block.lines.0 in
      let l1 = block.lines.1.0 in
      let few = fits.values in
      let header = fits.room.header in
      let is = operand_runs t0 n op.depth h at.stands.behind waiting (omega arith) (omega arith) in
      let value : value_in h n op.depth ≡ last (values p.runner.has) = operand_is (value_in h n) op.depth _ at.stands.running.values depth (omega arith) in
      let h1 = writes h t0 (value_in h n op.depth) in
      let about1 = writing image t k h t0 (value_in h n op.depth) about l0.within in
      let goes : goes_on onward (value_in h n op.depth) ≡ true = ap (goes_on onward) value ∙ sym (is_goes_on onward p) ∙ on in
      let here : word_sum h1.pc 8 ≡ 4 * places.block (suc i) = let a = about1.at in let b = l1.within in omega (arith, block.next) in
      lw_does core image places setting t p h (branched p true) (Keeps places n op.depth (changes (Branch onward)) h) k t0 end_register (at_value op.depth) (place_word n op.depth) 1 about l0 (is.1, is.0) (omega arith)
      (λ s. operations_are_next core i op (Branch onward) setting 0 s p op_at e ∙ ap (λ w. Passes s (branched p w)) on)
      (first image (later t) number 0 (suc k) _ h1 (record h1 { pc = word_sum h1.pc 8 }) (HasBranched p true h) about1 l1
      (λ s. (s.reserved, passed onward (later t) number h1 s at.stands.nought goes (omega (arith, here))))
      (there image _ number _ (HasBranched p true h) (
        record {
          done = refl;
          at = record {
            live = at.live;
            at = here;
            stands = branch_stands p h (value_in h n op.depth) (suc i) (word_sum h1.pc 8) e at.stands (fits.goes_on true) true refl refl;
          };
        },
        kept p h (value_in h n op.depth) (word_sum h1.pc 8),
      )))
  branch_way block op_at fits setting t p h holds e depth waiting at false on =
      let number = number_of p in
      let n = length p.runner.has.callers in
      let k = places.block i in
      let about = about_block image bound places t p h i holds e at in
      let l0 = block.lines.0 in
      let l1 = block.lines.1.0 in
      let l2 = block.lines.1.1.0 in
      let few = fits.values in
      let header = fits.room.header in
      let is = operand_runs t0 n op.depth h at.stands.behind waiting (omega arith) (omega arith) in
      let value : value_in h n op.depth ≡ last (values p.runner.has) = operand_is (value_in h n) op.depth _ at.stands.running.values depth (omega arith) in
      let h1 = writes h t0 (value_in h n op.depth) in
      let about1 = writing image t k h t0 (value_in h n op.depth) about l0.within in
      let goes : goes_on onward (value_in h n op.depth) ≡ false = ap (goes_on onward) value ∙ sym (is_goes_on onward p) ∙ on in
      let about2 : IsAbout image (later (later t)) (suc (suc k)) (moves h1) = record { code = holds; live = at.live; at = next_word h1.pc (suc k) about1.at l1.within } in
      let target = bound (label_of op.target) in
      lw_does core image places setting t p h (branched p false) (Keeps places n op.depth (changes (Branch onward)) h) k t0 end_register (at_value op.depth) (place_word n op.depth) 2 about l0 (is.1, is.0) (omega arith)
      (λ s. operations_are_next core i op (Branch onward) setting 0 s p op_at e ∙ ap (λ w. Passes s (branched p w)) on)
      (first image (later t) number 1 (suc k) _ h1 (moves h1) (HasBranched p false h) about1 l1
      (λ s. (s.reserved, not_passed onward (later t) number h1 s at.stands.nought goes))
      (first image (later (later t)) number 0 (suc (suc k)) _ (moves h1) (jumps (moves h1) 0 (4 * target)) (HasBranched p false h) about2 l2
      (jal_goes (later (later t)) number 0 0 (suc (suc k)) target (moves h1) about2.at l2.within (block.labels.within (label_of op.target)))
      (there image _ number _ (HasBranched p false h) (
        record {
          done = refl;
          at = record {
            live = at.live;
            at = ap (λ k. 4 * k) (block.labels.blocks op.target);
            stands = branch_stands p h (value_in h n op.depth) op.target (4 * target) e at.stands (fits.goes_on false) false refl refl;
          };
        },
        kept p h (value_in h n op.depth) (4 * target),
      ))))

  pub branch_keeps : HasBlock image bound places i (branch_block onward op.depth op.target) → OpAt core i op (Branch onward) → Fits core places.frames i op (Branch onward)
      → BlockKeeps core image places 1 0 (λ way. if way then 1 else 2) i op (Branch onward)
  branch_keeps block op_at fits setting t p h enters =
      branch_way block op_at fits setting t p h enters.running.code enters.index enters.ready.depth enters.ready.in_range.waiting enters.at _ refl

-- ---- halts

pub halt_does : (core : List CoreOp) (image : Image) (bound : ℕ → ℕ) (places : Places) (i : ℕ) (op : CoreOp) → HasBlock image bound places i halt_block → OpAt core i op Halt
    → BlockHalts core image places 1 i op
halt_does core image bound places i op block op_at setting t p h enters =
    let number = number_of p in
    let about = about_block image bound places t p h i enters.running.code enters.index enters.at in
    let l0 = block.lines.0 in
    let device : h.registers device_register ≡ 0x30000000 = enters.at.stands.devices in
    record {
      before = 0;
      few_before = omega arith;
      does = record {
        committing = h;
        runs = refl;
        commits = record {
          live = enters.at.live;
          counted = ap (count_in image.commits.items) about.at ∙ l0.counted;
          does = λ s. inl (record {
            hart = record (moves h) { ended = true };
            store = s;
            done = record { acting = taking p.runner (Some (step_of core i op Halt p.runner.left.callers)); heap = p.heap };
            part = operations_are_next core i op Halt setting 0 s p op_at enters.index;
            goes = λ earlier sh shows. (
              sh,
              step_at image (places.block i) 1 _ l0 t enters.running.code number h sh about.at
                  ∙ sw-halt t number 26 0 12 h sh (omega (arith, device)) (ap (λ a. place_of (word_sum a 12)) device ∙ place_of-halt),
              shows,
              λ j e. refl,
            );
            follows = (record (moves h) { ended = true }, refl, refl);
          });
        };
      };
    }
