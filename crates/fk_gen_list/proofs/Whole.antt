-- The whole code of a list: its size, its labels, and what an image with it does.
use Rattle.std.proofs.Common.{◌≡◌, ℕ, ◌+◌, ◌*◌, ◌<◌, ◌≤◌, ℤ, List, [], ◌∷◌, map, length, Some, All, sym, ap, subst, ◌∙◌, arith, length-append}
use Rattle.std.specs.Prelude.{◌++◌, flat_map, slice_get, sum_by}
use Rattle.std.proofs.lemmas.List.Elements.{All-nil, All-append, All-head, All-tail}
use Rattle.std.proofs.lemmas.List.{length-map}
use Rattle.fk_core.specs.declared.op.CoreOp.{CoreOp}
use Rattle.fk_image.specs.declared.Image.{Image}
use Rattle.fk_isa.specs.Find.{row}
use Rattle.fk_asm.specs.Assembly.{Assembly, instructions, IsBound, IsFirstTooFar}
use Rattle.fk_asm.specs.Block.{MarkedLine, lines_of, entries_from}
use Rattle.fk_core_liveness.specs.declared.set.Set.{Set}
use Rattle.fk_gen.specs.declared.placed.Levels.{Levels}
use Rattle.fk_gen.specs.declared.placed.Placed.{Placed}
use Rattle.fk_gen_access.specs.Heap.{heap_lines}
use Rattle.fk_gen_group.specs.Splits.{one_part_lines, two_parts_lines, fork_lines}
use Rattle.fk_gen_flow.specs.Opening.{opening_lines}
use Rattle.fk_gen_group.specs.Blocks.{start_lines}
use Rattle.fk_gen_list.specs.Generable.{IsGenerable, most_words}
use Rattle.fk_gen_list.specs.Kinds.{block_of}
use Rattle.fk_gen_list.specs.Layout.{placed, all_placed, copying_lines, clearing_lines, calls_front, start_front, heap_front, part_front, fork_front, front, all_lines, IsLaid}
use Rattle.fk_gen_list.proofs.Chain.{copying_straight, clearing_straight}
use Rattle.fk_gen_list.proofs.InImage.{IsAssembled}
use Rattle.fk_gen_list.proofs.Laid.{GoesTo, length-front, all_go_far}
use Rattle.fk_gen_list.proofs.Near.{are_bound, none_too_far}
use Rattle.fk_gen_list.proofs.AllPlaced.{length-placed, all_from}
use Rattle.fk_gen_list.proofs.Shapes.{go_nowhere, op_goes, all_words, start_goes, heap_goes, one_part_goes, two_parts_goes, fork_goes, opening_goes, opening_length}

all_flat : (P : MarkedLine → Type 0) (block : Placed → List MarkedLine) (ops : List Placed) → All (λ op. All P (block op)) ops
    → All P (flat_map block ops)
all_flat P block [] all = All-nil P
all_flat P block (op ∷ ops) all =
    All-append P (block op) (flat_map block ops) (All-head (λ o. All P (block o)) op ops all)
    (all_flat P block ops (All-tail (λ o. All P (block o)) op ops all))

module _ (core : List CoreOp) (kept : List Set) (saved : List Levels) (main : ℕ) (firsts : List ℕ) (globals : ℕ) (is : IsGenerable core kept saved main firsts) where
  abbrev pub ops : List Placed
  ops = all_placed globals kept saved core

  abbrev pub opening : List MarkedLine
  opening = opening_lines (length firsts) firsts main

  abbrev pub whole : List MarkedLine
  whole = all_lines block_of opening globals ops

  pub length-ops : length ops ≡ length core
  length-ops = length-placed core globals kept saved 0 core

  pub blocks_go : All (λ op. All (GoesTo (length ops)) (block_of op)) ops
  blocks_go =
      all_from (λ op. All (GoesTo (length ops)) (block_of op)) core globals kept saved 0 core
      (λ i j op at same.
      subst (λ n. All (GoesTo n) (block_of (placed core globals kept saved j op))) (sym length-ops)
      (op_goes core kept saved main firsts globals j op is (subst (λ k. slice_get core k ≡ Some op) (let e : i ≡ j = omega arith in e) at)))

  pub all_go : All (GoesTo (length ops)) whole
  all_go =
      let main_there : main < length ops = let e = length-ops in let lt = is.begins in omega (arith, e, lt) in
      All-append (GoesTo (length ops)) (front opening globals) (flat_map block_of ops)
      (All-append (GoesTo (length ops)) (fork_front opening globals) fork_lines
      (All-append (GoesTo (length ops)) (part_front opening globals) two_parts_lines
      (All-append (GoesTo (length ops)) (heap_front opening globals) one_part_lines
      (All-append (GoesTo (length ops)) (start_front opening globals) (heap_lines globals)
      (All-append (GoesTo (length ops)) (calls_front opening) (start_lines globals)
      (All-append (GoesTo (length ops)) (opening ++ copying_lines) clearing_lines
      (All-append (GoesTo (length ops)) opening copying_lines
      (opening_goes (length ops) (length firsts) firsts main main_there)
      (go_nowhere (length ops) copying_lines copying_straight))
      (go_nowhere (length ops) clearing_lines clearing_straight))
      (start_goes (length ops) globals))
      (heap_goes (length ops) globals))
      (one_part_goes (length ops)))
      (two_parts_goes (length ops)))
      (fork_goes (length ops)))
      (all_flat (GoesTo (length ops)) block_of ops blocks_go)

  pub few_firsts : length firsts ≤ 56
  few_firsts = let few = is.suits.few in let same = is.of_file in omega arith

  pub length-whole : length whole ≡ 3 * length firsts + 341 + length (flat_map block_of ops)
  length-whole =
      let sum = length-append (front opening globals) (flat_map block_of ops) in
      let first = length-front block_of opening globals ops in
      let second = opening_length (length firsts) firsts main in
      omega (arith, sum, first, second)

  module _ (small : sum_by most_words core ≤ 256000) where
    pub few_words : length whole < 262144
    few_words =
        let all = length-whole in
        let firsts' = few_firsts in
        let blocks = all_words core globals kept saved 0 core in
        omega arith

    module _ (a : Assembly) (laid : IsLaid block_of opening globals ops a) where
      same_lines : a.lines ≡ lines_of whole
      same_lines = ap (λ (x : Assembly). x.lines) laid.made

      same_commits : a.commits ≡ entries_from 0 whole
      same_commits = ap (λ (x : Assembly). x.commits) laid.made

      whole_bound : All (IsBound a.bound) (lines_of whole)
      whole_bound = are_bound a.bound (length whole) whole (all_go_far block_of opening globals ops a laid all_go)

      pub lines_bound : All (IsBound a.bound) a.lines
      lines_bound = subst (All (IsBound a.bound)) (sym same_lines) whole_bound

      pub lines_near : (k : ℕ) (d : ℤ) → IsFirstTooFar a.bound a.lines k d → ⊥
      lines_near k d first =
          none_too_far a.bound whole k d few_words (all_go_far block_of opening globals ops a laid all_go)
          (subst (λ l. IsFirstTooFar a.bound l k d) same_lines first)

      pub count_lines : length a.lines ≡ length whole
      count_lines = ap length same_lines ∙ length-map whole (λ m. m.line)

      pub assembled : (image : Image) (words : List ℕ) (commits : List (ℕ × ℕ)) → image.code.items ≡ words → image.commits.items ≡ commits
          → map row words ≡ map Some (instructions a.bound a.lines) → commits ≡ a.commits → IsAssembled image a.bound whole
      assembled image words commits same same' rows entries =
          let few = few_words in
          record {
            few = omega arith;
            code = ap (map row) same ∙ rows ∙ ap (λ l. map Some (instructions a.bound l)) same_lines;
            commits = same' ∙ entries ∙ same_commits;
            are_bound = whole_bound;
          }
