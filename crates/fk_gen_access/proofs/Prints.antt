-- The blocks that print do so.
use Rattle.std.proofs.Common.{◌≡◌, ℕ, suc, ◌%◌, ◌<◌, List, [], ◌∷◌, ◌++◌, length, true, ap, sym, ◌∙◌, append_assoc, arith, refl, eq-eqb, inl}
use Rattle.fk_num.specs.Word.{word_sum, signed_line}
use Rattle.fk_meaning_operation.specs.declared.operation.Operation.{Operation}
use Rattle.fk_meaning_operation.specs.declared.operation.Operation.TheVariants.{PrintNumber, PrintByte}
use Rattle.fk_meaning.specs.Processor.{Setting, values, last, before}
use Rattle.fk_core.specs.declared.op.CoreOp.{CoreOp}
use Rattle.fk_image.specs.declared.Image.{Image}
use Rattle.fk_isa.specs.declared.instruction.Instruction.TheVariants.{Sw}
use Rattle.fk_machine.specs.declared.place.Device.TheVariants.{OutChar}
use Rattle.fk_machine.specs.declared.place.Location.TheVariants.{DeviceWord}
use Rattle.fk_machine.specs.Place.{place_of, device_at}
use Rattle.fk_machine.specs.Hart.{Hart, Shared, Goes, Setting as MachineSetting}
use Rattle.fk_machine.specs.Step.{perform}
use Rattle.fk_machine.proofs.Performs.{moves, sw-out_int}
use Rattle.fk_machine.proofs.Places.{place_of-out_int}
use Rattle.fk_sim_nodes.specs.Source.{Passes}
use Rattle.fk_sim_block.specs.Owner.{Commons, Owner, number_of, idle}
use Rattle.fk_sim_block.specs.Stands.{Places, device_register, value_in}
use Rattle.fk_sim_block.specs.Next.{OpAt}
use Rattle.fk_sim_block.specs.Suits.{Fits, Flows, nothing}
use Rattle.fk_sim_block.specs.Block.{Enters}
use Rattle.fk_gen_access.specs.Blocks.{lines, print_block, number_device, byte_device}
use Rattle.fk_gen.specs.InPlace.{HasBlock}
use Rattle.fk_gen.specs.Keeps.{Keeps, DoesAnd}
use Rattle.fk_gen.proofs.Walk.{told_of}
use Rattle.fk_gen.proofs.Values.{values_before}
use Rattle.fk_gen.specs.Registers.{t0}
use Rattle.fk_gen_access.proofs.Walk.{walk_straight}
use Rattle.fk_gen_access.proofs.Does.{part_of, does}
use Rattle.fk_gen_access.proofs.Kept.{went, stands_on}
use Rattle.fk_gen_access.proofs.Operands.{last_found}

place_of-out_char : place_of 0x30000004 ≡ DeviceWord OutChar
unfolding place_of device_at
place_of-out_char = refl

sw-out_char : (t : MachineSetting) (number rs rv imm : ℕ) (h : Hart) (s : Shared) → word_sum (h.registers rs) imm % 4 ≡ 0
    → place_of (word_sum (h.registers rs) imm) ≡ DeviceWord OutChar
    → perform t number (Sw rs rv imm) h s ≡ Goes (moves h) (record s { output = s.output ++ (h.registers rv % 256 ∷ []) })
sw-out_char t number rs rv imm h s e f = let aligned = eq-eqb _ 0 e in rw (aligned, f)

-- a device that takes a value, and the bytes that it prints of it
print_does : (core : List CoreOp) (image : Image) (places : Places) (i : ℕ) (op : CoreOp) (operation : Operation) (setting : Setting) (t : MachineSetting) (p : Owner) (h : Hart)
    (device : ℕ) (bytes : ℕ → List ℕ) (bound : ℕ → ℕ) → OpAt core i op operation → Enters core image places setting t i op operation p h
    → Fits core places.frames i op operation → 0 < op.depth → Flows core places.frames nothing i (suc i)
    → HasBlock image bound places i (lines (print_block device op.depth))
    → ((s : Commons) → part_of core image places i op operation setting p s
    ≡ Passes (record s { output = s.output ++ bytes (last (values p.runner.has)) }) (idle (went places p (suc i) (before 1 (values p.runner.has)) p.heap.words p.runner.has.top)))
    → ((t' : MachineSetting) (g : Hart) (sh : Shared) → g.registers device_register ≡ 0x30000000
    → perform t' (number_of p) (Sw device_register t0 device) g sh ≡ Goes (moves g) (record sh { output = sh.output ++ bytes (g.registers t0) }))
    → DoesAnd core image places setting t 1 p h 1 0 (Keeps places (length p.runner.has.callers) op.depth nothing h)
print_does core image places i op operation setting t p h device bytes bound op_at en fits some flows has part performs =
    let b = print_block device op.depth in
    let committing = walk_straight (told_of t (number_of p)) b.before h in
    let stands = en.at.stands in
    let found = last_found core image places i op operation setting t p h en fits some in
    does core image places i op operation setting p b bound t h op_at en has (omega arith) (omega arith) (found.place, tt) (λ s. inl (record {
      hart = moves committing;
      store = record s { output = s.output ++ bytes (last (values p.runner.has)) };
      owner = went places p (suc i) (before 1 (values p.runner.has)) p.heap.words p.runner.has.top;
      part = part s;
      goes = λ t' earlier sh shows. (
        record sh { output = sh.output ++ bytes (committing.registers t0) },
        performs t' committing sh stands.devices,
        record {
          words = shows.words;
          output = sym (append_assoc earlier sh.output (bytes (committing.registers t0)))
              ∙ ap (λ o. o ++ bytes (committing.registers t0)) shows.output
              ∙ ap (λ v. s.output ++ bytes v) found.value;
          common = shows.common;
        },
        refl,
      );
      pc = refl;
      live = en.at.live;
      can = λ told. tt;
      at = refl;
      stands = λ told. stands_on places p i (suc i) op.depth p.runner.has.top (before 1 (values p.runner.has)) p.heap.words h (moves committing) stands en.index fits.room some core flows
          (record { nought = refl; frame = refl; behind = refl; number = refl; rank = refl; size = refl; local = refl; shared_data = refl; private_heap = refl; shared_mask = refl; devices = refl; heap_mask = refl; node = refl; body = refl; frames = refl; blocks = refl; group_frame = refl })
          stands.top (record { same = λ j lt. refl })
          (values_before 1 (value_in h (length p.runner.has.callers)) (values p.runner.has) stands.running.values)
          stands.heap;
    }))

pub print_number_does : (core : List CoreOp) (image : Image) (places : Places) (i : ℕ) (op : CoreOp) (setting : Setting) (t : MachineSetting) (p : Owner) (h : Hart) (bound : ℕ → ℕ)
    → OpAt core i op PrintNumber → Enters core image places setting t i op PrintNumber p h → Fits core places.frames i op PrintNumber
    → HasBlock image bound places i (lines (print_block number_device op.depth)) → DoesAnd core image places setting t 1 p h 1 0 (Keeps places (length p.runner.has.callers) op.depth nothing h)
print_number_does core image places i op setting t p h bound op_at en fits has =
    print_does core image places i op PrintNumber setting t p h number_device signed_line bound op_at en fits (let l = fits.values in omega arith) (fits.goes_on true) has
    (λ s. refl) (λ t' g sh e. sw-out_int t' (number_of p) 26 5 0 g sh (omega arith) (ap (λ a. place_of (word_sum a 0)) e ∙ place_of-out_int))

pub print_byte_does : (core : List CoreOp) (image : Image) (places : Places) (i : ℕ) (op : CoreOp) (setting : Setting) (t : MachineSetting) (p : Owner) (h : Hart) (bound : ℕ → ℕ)
    → OpAt core i op PrintByte → Enters core image places setting t i op PrintByte p h → Fits core places.frames i op PrintByte
    → HasBlock image bound places i (lines (print_block byte_device op.depth)) → DoesAnd core image places setting t 1 p h 1 0 (Keeps places (length p.runner.has.callers) op.depth nothing h)
print_byte_does core image places i op setting t p h bound op_at en fits has =
    print_does core image places i op PrintByte setting t p h byte_device (λ v. v % 256 ∷ []) bound op_at en fits (let l = fits.values in omega arith) (fits.goes_on true) has
    (λ s. refl) (λ t' g sh e. sw-out_char t' (number_of p) 26 5 4 g sh (omega arith) (ap (λ a. place_of (word_sum a 4)) e ∙ place_of-out_char))
