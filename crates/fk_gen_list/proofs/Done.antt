-- A list that code is made of has blocks, and an image with its code does what the law of blocks asks.
use Rattle.std.proofs.Common.{◌≡◌, ℕ, suc, ◌^◌, ◌<◌, ◌≤◌, List, length, map, Option, Some, None, All, true, false, sym, subst, refl, arith}
use Rattle.std.specs.Prelude.{slice_get, sum_by, IsSome, Bool}
use Rattle.std.proofs.lemmas.List.Elements.{All-get_or}
use Rattle.std.proofs.lemmas.Option.{slice_get_within, get_or_from_slice_get}
use Rattle.fk_meaning_operation.specs.declared.operation.Operation.{Operation}
use Rattle.fk_meaning_operation.specs.declared.operation.Operation.TheVariants.{Branch}
use Rattle.fk_core.specs.declared.op.CoreOp.{CoreOp}
use Rattle.fk_core.specs.Next.{is_jump}
use Rattle.fk_core.specs.Numbers.{operation_of}
use Rattle.fk_isa.specs.Find.{row}
use Rattle.fk_asm.specs.declared.code.Code.{Code}
use Rattle.fk_asm.specs.Assembly.{Assembly, instructions}
use Rattle.fk_asm.specs.Block.{MarkedLine}
use Rattle.fk_sim_block.specs.Stands.{ReturnPoint}
use Rattle.fk_sim_block.specs.Next.{OpAt}
use Rattle.fk_core_liveness.specs.declared.set.Set.{Set}
use Rattle.fk_gen.specs.declared.placed.Levels.{Levels}
use Rattle.fk_gen.specs.declared.placed.Placed.{Placed}
use Rattle.fk_gen.specs.InPlace.{LinesAt, HasBlock}
use Rattle.fk_gen_access.specs.Heap.{heap_label, heap_lines}
use Rattle.fk_gen_flow.specs.Opening.{opening_lines}
use Rattle.fk_gen_group.specs.Blocks.{start_label, start_lines, is_group_step}
use Rattle.fk_gen_list.specs.Generable.{IsGenerable, DoesTheList, GivesWholeCode, places_in, return_at, has_target, most_words}
use Rattle.fk_gen_list.specs.Kinds.{HasBlockOf, block_of}
use Rattle.fk_gen_list.specs.Layout.{placed, all_placed, front, place, all_lines, IsLaid}
use Rattle.fk_gen_list.proofs.InImage.{IsAssembled, bound_in}
use Rattle.fk_gen_list.proofs.Laid.{places, has_labels, has_opening, has_shared, has_start, has_heap, has_one_part, has_two_parts, has_fork, has_block}
use Rattle.fk_gen_list.proofs.AllPlaced.{placed_get, all_from}
use Rattle.fk_gen_list.proofs.Clears.{few_clears}
use Rattle.fk_gen_list.proofs.Whole.{assembled}
use Rattle.fk_gen_list.proofs.Told.{all_told}
use Rattle.fk_gen_list.proofs.Suited.{back_within, has_block_of, has_operands, jump_has}
use Rattle.fk_gen_list.proofs.BlockLaws.{AreInRange, law_of_blocks}

never : {A : Type 0} → false ≡ true → A
never e = absurd (cc)

-- a step of a group has a target in the list
step_has_target : (operation : Operation) → is_group_step (Some operation) ≡ true → has_target operation ≡ true
step_has_target (Branch onward) step = refl
step_has_target operation step = step

-- what is so of each element is so of the one at an index
at_index : {A : Type 0} (P : A → Type 0) (xs : List A) (i : ℕ) (x : A) → All P xs → slice_get xs i ≡ Some x → P x
at_index P xs i x all e = subst P (get_or_from_slice_get xs i x x e) (All-get_or P xs i x (slice_get_within xs i x e) all)

module _ (core : List CoreOp) (kept : List Set) (saved : List Levels) (main : ℕ) (firsts : List ℕ) (globals : ℕ) (is : IsGenerable core kept saved main firsts) (few : globals ≤ 2 ^ 19) where
  pub number_few : (i : ℕ) (op : CoreOp) → slice_get core i ≡ Some op → op.number < 2 ^ 32
  number_few i op at = (at_index (λ o. (o.site < 2 ^ 32) × (o.number < 2 ^ 32)) core i op is.words at).1

  pub site_few : (i : ℕ) (op : CoreOp) → slice_get core i ≡ Some op → op.site < 2 ^ 32
  site_few i op at = (at_index (λ o. (o.site < 2 ^ 32) × (o.number < 2 ^ 32)) core i op is.words at).0

  -- ---- it has blocks

  operation_has : length core < 2 ^ 31 → (i : ℕ) (op : CoreOp) → slice_get core i ≡ Some op → is_jump op ≡ false → (o : Option Operation)
      → operation_of op.kind op.number ≡ o → IsSome o → HasBlockOf (placed core globals kept saved i op)
  operation_has short i op at no_jump None e some = never some
  operation_has short i op at no_jump (Some operation) e some =
      let stands : OpAt core i op operation = record { stands = at; no_jump = no_jump; is_read = e } in
      let fits = is.suits.fits i op operation stands in
      let here = placed core globals kept saved i op in
      let begins = is.begins in
      let back = back_within core is.blocks i op (operation_of op.kind op.number) at no_jump refl (omega arith) in
      has_block_of core is.frames i globals op operation here.clears here.back here.levels (few_clears (operation_of op.kind op.number) (slice_get kept (suc i))) stands fits is.suits.few (number_few i op at)
      (has_operands core is.frames i here.back op operation stands fits is.blocks short (omega (arith, back))) (omega arith)
      (λ step. let there : op.target < length core = is.blocks.targets i op operation stands (step_has_target operation step) in omega arith)
      (is.levels i op operation stands)
      (is.values i op operation stands)
      (is.blocks.operations i op operation stands)

  has_by : length core < 2 ^ 31 → (i : ℕ) (op : CoreOp) → slice_get core i ≡ Some op → (jump : Bool) → is_jump op ≡ jump → HasBlockOf (placed core globals kept saved i op)
  has_by short i op at true jump =
      let within = is.blocks.jumps i op at jump in
      jump_has op globals (placed core globals kept saved i op).clears (placed core globals kept saved i op).back (placed core globals kept saved i op).levels
      (few_clears (operation_of op.kind op.number) (slice_get kept (suc i))) jump (omega arith)
  has_by short i op at false jump = operation_has short i op at jump (operation_of op.kind op.number) refl (is.operations i op at jump)

  pub all_have : length core < 2 ^ 31 → All HasBlockOf (all_placed globals kept saved core)
  all_have short =
      all_from HasBlockOf core globals kept saved 0 core
      (λ i j op at same. has_by short j op (subst (λ k. slice_get core k ≡ Some op) (let e : i ≡ j = omega arith in e) at) (is_jump op) refl)

  -- ---- and an image with its code does what the law of blocks asks

  abbrev ops : List Placed
  ops = all_placed globals kept saved core

  abbrev opening : List MarkedLine
  opening = opening_lines (length firsts) firsts main

  -- all of it stands in each image with its code
  module _ (small : sum_by most_words core ≤ 256000) (a : Assembly) (laid : IsLaid block_of opening globals ops a) (code : Code)
      (rows : map row code.words.items ≡ map Some (instructions a.bound a.lines)) (entries : code.commits.items ≡ a.commits) where
    abbrev bound : (label : ℕ) → ℕ
    bound = bound_in a.bound (length (all_lines block_of opening globals ops))

    pub stands : GivesWholeCode core kept saved main firsts globals code
    stands image frames has of_file =
        let built : IsAssembled image a.bound (all_lines block_of opening globals ops) =
        assembled core kept saved main firsts globals is small a laid image code.words.items code.commits.items has.words has.commits rows entries in
        let block = place block_of (length (front opening globals)) ops in
        let returns : (index : ℕ) → Option ReturnPoint = λ index. return_at core block index (slice_get core index) in
        let there = places block_of opening globals ops a laid returns frames in (
          block,
          (
            bound,
            (
              record {
                opening = record {
                  labels = has_labels block_of opening globals ops a laid image built returns frames;
                  lines = subst (λ n. LinesAt image bound 0 (opening_lines n firsts main)) (sym of_file) (has_opening block_of opening globals ops a laid image built);
                };
                returns = λ i. refl;
                blocks = λ i op at.
                    subst (λ n. HasBlock image bound there i (block_of (placed core n kept saved i op))) (sym has.globals_of)
                    (has_block block_of opening globals ops a laid image built returns frames i (placed core globals kept saved i op) (placed_get core globals kept saved 0 i i op core at (omega arith)));
                shared = has_shared block_of opening globals ops a laid image built;
                start = record {
                  few = let e = has.globals_of in omega arith;
                  lines = subst (λ n. LinesAt image bound (bound start_label) (start_lines n)) (sym has.globals_of) (has_start block_of opening globals ops a laid image built);
                };
                heap = record {
                  few = let e = has.globals_of in omega arith;
                  lines = subst (λ n. LinesAt image bound (bound heap_label) (heap_lines n)) (sym has.globals_of) (has_heap block_of opening globals ops a laid image built);
                };
                parts = record {
                  one = has_one_part block_of opening globals ops a laid image built;
                  two = has_two_parts block_of opening globals ops a laid image built;
                  fork = has_fork block_of opening globals ops a laid image built;
                };
              },
              all_told core kept saved main firsts globals a laid image built frames has.globals_of,
            ),
          ),
        )

    pub does_the_list : DoesTheList core kept main firsts globals code
    does_the_list image frames has suits keeps of_file no_parts =
        let all = stands image frames has of_file in
        let whole = all.1.1.0 in
        let ranges : AreInRange core (length image.globals.items) = record {
          sites = site_few;
          numbers = number_few;
          globals_few = let e = has.globals_of in omega arith;
        } in (
          all.0,
          law_of_blocks core image (places_in core all.0 frames) all.1.0 kept saved firsts main suits keeps no_parts is.levels ranges
              (record { blocks = whole.blocks; returns = whole.returns; shared = whole.shared; heap = whole.heap }) whole.opening (sym of_file) is.first_words,
        )
