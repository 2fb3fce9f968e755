-- The steps that lay the code of a list.
use Rattle.std.proofs.Common.{◌≡◌, ℕ, ◌+◌, ◌*◌, ◌^◌, ◌<◌, ◌≤◌, List, length, None, Result, Ok, Err, IfOk, All, ap, sym, ◌∙◌, arith}
use Rattle.std.specs.Prelude.{flat_map, slice_index_or, replicate, sum_by}
use Rattle.std.proofs.lemmas.List.Elements.{All-weaker}
use Rattle.fk_core.specs.declared.op.CoreOp.{CoreOp}
use Rattle.fk_asm.specs.Assembly.{Assembly, empty, AreFollowed}
use Rattle.fk_asm.specs.Block.{MarkedLine, GoesToMade, with_block}
use Rattle.fk_core_liveness.specs.declared.set.Set.{Set}
use Rattle.fk_gen.specs.Lines.{clear_label, label_of}
use Rattle.fk_gen_access.specs.Heap.{heap_label, heap_lines}
use Rattle.fk_gen_flow.specs.Calls.{most_privates}
use Rattle.fk_gen.specs.declared.placed.Levels.{Levels}
use Rattle.fk_gen.specs.declared.placed.Placed.{Placed}
use Rattle.fk_gen_group.specs.Blocks.{start_label, start_lines}
use Rattle.fk_gen_group.specs.Splits.{one_part_label, two_parts_label, fork_label, one_part_lines, two_parts_lines, fork_lines}
use Rattle.fk_gen_list.specs.Generable.{IsGenerable, most_words}
use Rattle.fk_gen_list.specs.Kinds.{block_of}
use Rattle.fk_gen_list.specs.Layout.{copying_lines, clearing_lines, AddsBlocks, AddsCopying, AddsClearing, AddsStart, AddsHeap, AddsOnePart, AddsTwoParts, AddsFork, IsLaid}
use Rattle.fk_gen_list.proofs.Blocks.{length-with_block}
use Rattle.fk_gen_list.proofs.Laid.{GoesTo, length-copying, length-clearing, length-start, length-heap, length-one, length-two, length-fork, labelled_count, labelled_other, labelled_words, laid_all}
use Rattle.fk_gen_list.proofs.Laying.{few_ops, goes_to_made, labelled, opened_words, opened_labels, opened_free, opened_followed}
use Rattle.fk_gen_list.proofs.Shapes.{all_words, opening_length}
use Rattle.fk_gen_list.proofs.Whole.{ops, opening, length-ops, blocks_go, few_firsts}

-- what is so of an answer for two reasons
pub if_ok_two : {T E : Type 0} (r : Result T E) (P Q R : T → Type 0) → ((v : T) → P v → Q v → R v) → IfOk r P → IfOk r Q → IfOk r R
if_ok_two (Ok v) P Q R f p q = f v p q
if_ok_two (Err e) P Q R f p q = tt

pub short_list : (core : List CoreOp) → sum_by most_words core ≤ 256000 → length core ≤ 256000
short_list core small = let few = few_ops core in omega arith

module _ (core : List CoreOp) (kept : List Set) (saved : List Levels) (main : ℕ) (firsts : List ℕ) (globals : ℕ) (is : IsGenerable core kept saved main firsts)
    (small : sum_by most_words core ≤ 256000) (begun opened : Assembly)
    (e1 : begun ≡ record empty { bound = replicate (label_of (length core)) None })
    (e2 : opened ≡ with_block begun (opening core kept saved main firsts globals is)) where
  abbrev first : List MarkedLine
  first = opening core kept saved main firsts globals is

  made : opened ≡ with_block (labelled (length core) first) first
  made = e2 ∙ ap (λ (a : Assembly). with_block a first) e1

  words : length opened.lines ≡ 3 * length firsts + 15
  words = opened_words (length core) first opened made ∙ opening_length (length firsts) firsts main

  pub room_for_copying : length opened.lines < 2 ^ 20
  room_for_copying = let w = words in let few = few_firsts core kept saved main firsts globals is in omega arith

  pub followed : AreFollowed opened
  followed = opened_followed (length core) first opened made

  pub labels_opened : length opened.bound ≡ label_of (length core)
  labels_opened = opened_labels (length core) first opened made

  pub free_opened : (label : ℕ) → label < label_of (length core) → slice_index_or opened.bound label None ≡ None
  free_opened = opened_free (length core) first opened made

  module _ (copied : Assembly) (copies : AddsCopying opened copied) where
    pub words_copied : length copied.lines ≡ 3 * length firsts + 128
    words_copied =
        let w = words in
        let grown : length copied.lines ≡ length opened.lines + length copying_lines =
        ap (λ (a : Assembly). length a.lines) copies.made ∙ length-with_block opened copying_lines in
        let copying = length-copying in
        omega (arith, w, grown, copying)

    pub room_for_clearing : length copied.lines < 2 ^ 20
    room_for_clearing = let w = words_copied in let few = few_firsts core kept saved main firsts globals is in omega (arith, w, few)

    pub labels_copied : length copied.bound ≡ label_of (length core)
    labels_copied = copies.count ∙ labels_opened

    pub free_copied : (n : ℕ) → n ≤ most_privates → slice_index_or copied.bound (clear_label n) None ≡ None
    free_copied n le =
        copies.others (clear_label n) (λ m few e. absurd (omega arith))
        ∙ free_opened (clear_label n) (omega arith)

    module _ (cleared : Assembly) (clears : AddsClearing copied cleared) where
      words_cleared : length cleared.lines ≡ 3 * length firsts + 185
      words_cleared =
          let w = words_copied in
          let grown : length cleared.lines ≡ length copied.lines + length clearing_lines =
          ap (λ (a : Assembly). length a.lines) clears.made ∙ length-with_block copied clearing_lines in
          let clearing = length-clearing in
          omega (arith, w, grown, clearing)

      pub room_for_starting : length cleared.lines < 2 ^ 20
      room_for_starting = let w = words_cleared in let few = few_firsts core kept saved main firsts globals is in omega (arith, w, few)

      pub labels_cleared : length cleared.bound ≡ label_of (length core)
      labels_cleared = clears.count ∙ labels_copied

      -- a label that no call goes to is still free
      free_behind : (label : ℕ) → most_privates < label → label < clear_label 0 → slice_index_or cleared.bound label None ≡ None
      free_behind label from less =
          clears.others label (λ m few e. absurd (omega arith))
          ∙ copies.others label (λ m few e. absurd (omega arith))
          ∙ free_opened label (omega arith)

      pub free_cleared : slice_index_or cleared.bound start_label None ≡ None
      free_cleared = free_behind start_label (omega arith) (omega arith)

      module _ (started : Assembly) (starts : AddsStart globals cleared started) where
        words_started : length started.lines ≡ 3 * length firsts + 220
        words_started =
            let w = words_cleared in
            let grown = labelled_words start_label (start_lines globals) cleared started starts in
            let start = length-start globals in
            omega (arith, w, grown, start)

        pub room_for_hiring : length started.lines < 2 ^ 20
        room_for_hiring = let w = words_started in let few = few_firsts core kept saved main firsts globals is in omega (arith, w, few)

        pub labels_started : length started.bound ≡ label_of (length core)
        labels_started = labelled_count start_label (start_lines globals) cleared started starts ∙ labels_cleared

        pub free_started : slice_index_or started.bound heap_label None ≡ None
        free_started =
            labelled_other start_label (start_lines globals) cleared started starts heap_label (λ e. omega arith)
            ∙ free_behind heap_label (omega arith) (omega arith)

        -- a label behind that of `shmalloc` is still free
        free_past : (label : ℕ) → heap_label < label → label < clear_label 0 → slice_index_or started.bound label None ≡ None
        free_past label from less =
            labelled_other start_label (start_lines globals) cleared started starts label (λ e. omega arith)
            ∙ free_behind label (omega arith) less

        module _ (hiring : Assembly) (hires : AddsHeap globals started hiring) where
          words_hiring : length hiring.lines ≡ 3 * length firsts + 252
          words_hiring =
              let w = words_started in
              let grown = labelled_words heap_label (heap_lines globals) started hiring hires in
              let heap = length-heap globals in
              omega (arith, w, grown, heap)

          pub room_for_parting : length hiring.lines < 2 ^ 20
          room_for_parting = let w = words_hiring in let few = few_firsts core kept saved main firsts globals is in omega (arith, w, few)

          pub labels_hiring : length hiring.bound ≡ label_of (length core)
          labels_hiring = labelled_count heap_label (heap_lines globals) started hiring hires ∙ labels_started

          pub free_hiring : slice_index_or hiring.bound one_part_label None ≡ None
          free_hiring =
              labelled_other heap_label (heap_lines globals) started hiring hires one_part_label (λ e. omega arith)
              ∙ free_past one_part_label (omega arith) (omega arith)

          module _ (parting : Assembly) (parts : AddsOnePart hiring parting) where
            words_parting : length parting.lines ≡ 3 * length firsts + 274
            words_parting =
                let w = words_hiring in
                let grown = labelled_words one_part_label one_part_lines hiring parting parts in
                let one = length-one in
                omega (arith, w, grown, one)

            pub room_for_halving : length parting.lines < 2 ^ 20
            room_for_halving = let w = words_parting in let few = few_firsts core kept saved main firsts globals is in omega (arith, w, few)

            pub labels_parting : length parting.bound ≡ label_of (length core)
            labels_parting = labelled_count one_part_label one_part_lines hiring parting parts ∙ labels_hiring

            pub free_parting : slice_index_or parting.bound two_parts_label None ≡ None
            free_parting =
                labelled_other one_part_label one_part_lines hiring parting parts two_parts_label (λ e. omega arith)
                ∙ labelled_other heap_label (heap_lines globals) started hiring hires two_parts_label (λ e. omega arith)
                ∙ free_past two_parts_label (omega arith) (omega arith)

            module _ (halving : Assembly) (halves : AddsTwoParts parting halving) where
              words_halving : length halving.lines ≡ 3 * length firsts + 301
              words_halving =
                  let w = words_parting in
                  let grown = labelled_words two_parts_label two_parts_lines parting halving halves in
                  let two = length-two in
                  omega (arith, w, grown, two)

              pub room_for_forking : length halving.lines < 2 ^ 20
              room_for_forking = let w = words_halving in let few = few_firsts core kept saved main firsts globals is in omega (arith, w, few)

              pub labels_halving : length halving.bound ≡ label_of (length core)
              labels_halving = labelled_count two_parts_label two_parts_lines parting halving halves ∙ labels_parting

              pub free_halving : slice_index_or halving.bound fork_label None ≡ None
              free_halving =
                  labelled_other two_parts_label two_parts_lines parting halving halves fork_label (λ e. omega arith)
                  ∙ labelled_other one_part_label one_part_lines hiring parting parts fork_label (λ e. omega arith)
                  ∙ labelled_other heap_label (heap_lines globals) started hiring hires fork_label (λ e. omega arith)
                  ∙ free_past fork_label (omega arith) (omega arith)

              module _ (forking : Assembly) (forks : AddsFork halving forking) where
                abbrev list : List Placed
                list = ops core kept saved main firsts globals is

                labels_forking : length forking.bound ≡ label_of (length core)
                labels_forking = labelled_count fork_label fork_lines halving forking forks ∙ labels_halving

                pub blocks_made : All (λ op. All (GoesToMade forking.bound) (block_of op)) (ops core kept saved main firsts globals is)
                blocks_made =
                    let count : length forking.bound ≡ label_of (length list) = labels_forking ∙ ap label_of (sym (length-ops core kept saved main firsts globals is)) in
                    All-weaker (λ op. All (GoesTo (length list)) (block_of op))
                    (λ op. All (GoesToMade forking.bound) (block_of op))
                    (λ op go. goes_to_made (length list) forking.bound (block_of op) count go)
                    list (blocks_go core kept saved main firsts globals is)

                pub room_for_blocks : length forking.lines + length (flat_map block_of (ops core kept saved main firsts globals is)) < 2 ^ 30
                room_for_blocks =
                    let w = words_halving in
                    let few = few_firsts core kept saved main firsts globals is in
                    let grown = labelled_words fork_label fork_lines halving forking forks in
                    let two = length-fork in
                    let blocks = all_words core globals kept saved 0 core in
                    omega (arith, w, few, grown, two, blocks, small)

                pub labels_free : (i : ℕ) → i < length core → slice_index_or forking.bound (label_of i) None ≡ None
                labels_free i lt =
                    labelled_other fork_label fork_lines halving forking forks (label_of i) (λ e. omega arith)
                    ∙ labelled_other two_parts_label two_parts_lines parting halving halves (label_of i) (λ e. omega arith)
                    ∙ labelled_other one_part_label one_part_lines hiring parting parts (label_of i) (λ e. omega arith)
                    ∙ labelled_other heap_label (heap_lines globals) started hiring hires (label_of i) (λ e. omega arith)
                    ∙ labelled_other start_label (start_lines globals) cleared started starts (label_of i) (λ e. omega arith)
                    ∙ clears.others (label_of i) (λ m few e. absurd (omega arith))
                    ∙ copies.others (label_of i) (λ m few e. absurd (omega arith))
                    ∙ free_opened (label_of i) (omega arith)

                pub enough_labels : label_of (length core) ≤ length forking.bound
                enough_labels = let e = labels_forking in omega (arith, e)

                pub all_laid : (laid : Assembly) → AddsBlocks block_of (ops core kept saved main firsts globals is) forking laid
                    → IsLaid block_of first globals (ops core kept saved main firsts globals is) laid
                all_laid laid blocks =
                    let again : opened ≡ with_block (labelled (length list) first) first =
                    made ∙ ap (λ (n : ℕ). with_block (labelled n first) first) (sym (length-ops core kept saved main firsts globals is)) in
                    laid_all block_of first globals list opened copied cleared started hiring parting halving forking laid again copies clears starts hires parts halves forks blocks
