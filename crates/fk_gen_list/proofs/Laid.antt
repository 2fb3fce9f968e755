-- A whole code: its labels are words of it, and each part stands at its place.
use Rattle.std.proofs.Common.{◌≡◌, ℕ, zero, suc, ◌+◌, ◌-◌, ◌<◌, ◌≤◌, List, [], ◌∷◌, ◌++◌, length, take, Option, Some, None, IsSomeAnd, IfSome, All, ◌⊎◌, inl, inr, sym, ap, subst, ◌∙◌, arith, refl, length-append}
use Rattle.std.specs.Prelude.{flat_map, slice_get, slice_index_or, slice_set, replicate}
use Rattle.std.proofs.lemmas.Bool.{cases_lt}
use Rattle.std.proofs.lemmas.List.{take_all, length-replicate, length-set, get_or-replicate, get_or_past, get_or-set_same, get_or-set_other}
use Rattle.std.proofs.lemmas.List.Elements.{All-weaker}
use Rattle.fk_gen.specs.declared.placed.Placed.{Placed}
use Rattle.fk_image.specs.declared.Image.{Image}
use Rattle.fk_asm.specs.Assembly.{Assembly, empty}
use Rattle.fk_asm.specs.Block.{MarkedLine, with_block}
use Rattle.fk_asm.proofs.Straight.{with_block-append}
use Rattle.fk_sim_block.specs.Stands.{Places, ReturnPoint, Frames}
use Rattle.fk_gen.specs.Lines.{copy_label, clear_label, label_of}
use Rattle.fk_gen.specs.InPlace.{LinesAt, HasLabels, HasBlock}
use Rattle.fk_gen_access.specs.Heap.{heap_label, heap_lines}
use Rattle.fk_gen_flow.specs.Calls.{chain_lines, copy_lines, clear_lines, back_lines, most_privates, HasChain, HasShared}
use Rattle.fk_gen_group.specs.Blocks.{start_label, start_lines}
use Rattle.fk_gen_group.specs.Splits.{one_part_label, two_parts_label, fork_label, one_part_lines, two_parts_lines, fork_lines}
use Rattle.fk_gen_list.specs.Layout.{place, copy_offset, clear_offset, copying_lines, clearing_lines, calls_front, start_front, heap_front, part_front, fork_front, front, all_lines, AddsBlocks, AddsCopying, AddsClearing, AddsLabelled, AddsStart, AddsHeap, AddsOnePart, AddsTwoParts, AddsFork, IsSpare, IsLaid}
use Rattle.fk_gen_list.proofs.Blocks.{length-with_block}
use Rattle.fk_gen_list.proofs.Chain.{IsChain, copying_chain, clearing_chain, length-chain, part_within, back_within}
use Rattle.fk_gen_list.proofs.InImage.{Within, within_self, within_front, within_back, IsAssembled, bound_in, word_or, lines_at}
use Rattle.fk_gen_list.proofs.Near.{IsFar, GoesFar}

-- The labels of so many operations. Behind those that copy arguments are those of the code that beginnings of `start`, blocks of `shmalloc` and splits share
abbrev pub IsLabel : (operations label : ℕ) → Type 0
IsLabel n label =
    (label ≤ fork_label)
    ⊎ (((clear_label 0 ≤ label) × (label ≤ clear_label most_privates)) ⊎ ((label_of 0 ≤ label) × (label < label_of n)))

-- a line goes to none, or far, to one of them
abbrev pub GoesTo : (operations : ℕ) → MarkedLine → Type 0
GoesTo n m = IfSome m.line.label (λ label. IsLabel n label × IsFar m.line.instruction)

-- ---- blocks in their list

pub within_blocks : (block : Placed → List MarkedLine) (all : List MarkedLine) (ops : List Placed) (k i : ℕ) (op : Placed)
    → Within all k (flat_map block ops) → slice_get ops i ≡ Some op → Within all (place block k ops i) (block op)
within_blocks block all [] k i op w e = absurd (cc)
within_blocks block all (o ∷ ops) k zero op w e =
    let one : o ≡ op = cc in
    let here : k ≡ k + 0 = omega arith in
    subst (λ j. Within all j (block op)) here
    (subst (λ x. Within all k (block x)) one (within_front all (block o) (flat_map block ops) k w))
within_blocks block all (o ∷ ops) k (suc i) op w e =
    let rest = within_blocks block all ops (k + length (block o)) i op (within_back all (block o) (flat_map block ops) k w) e in
    let sum = length-append (block o) (flat_map block (take i ops)) in
    let there : place block (k + length (block o)) ops i ≡ place block k (o ∷ ops) (suc i) = omega arith in
    subst (λ j. Within all j (block op)) there rest

pub place-suc : (block : Placed → List MarkedLine) (ops : List Placed) (k i : ℕ) (op : Placed) → slice_get ops i ≡ Some op
    → place block k ops (suc i) ≡ place block k ops i + length (block op)
place-suc block [] k i op e = absurd (cc)
place-suc block (o ∷ ops) k zero op e =
    let one : length (block o) ≡ length (block op) = ap (λ x. length (block x)) (cc) in
    let sum = length-append (block o) [] in
    omega arith
place-suc block (o ∷ ops) k (suc i) op e =
    let rest = place-suc block ops k i op e in
    let sum = length-append (block o) (flat_map block (take (suc i) ops)) in
    let sum' = length-append (block o) (flat_map block (take i ops)) in
    omega arith

pub place_within : (block : Placed → List MarkedLine) (ops : List Placed) (k i : ℕ) → place block k ops i ≤ k + length (flat_map block ops)
place_within block [] k zero = omega arith
place_within block [] k (suc i) = omega arith
place_within block (o ∷ ops) k zero = omega arith
place_within block (o ∷ ops) k (suc i) =
    let rest = place_within block ops k i in
    let sum = length-append (block o) (flat_map block (take i ops)) in
    let sum' = length-append (block o) (flat_map block ops) in
    omega arith

place_end : (block : Placed → List MarkedLine) (ops : List Placed) (k i : ℕ) → length ops ≤ i → place block k ops i ≡ k + length (flat_map block ops)
place_end block ops k i le = ap (λ l. k + length (flat_map block l)) (take_all i ops le)

pub length-copying : length copying_lines ≡ 113
length-copying = let e = length-chain copy_label copy_offset copy_lines 2 copying_chain in omega (arith, e)

pub length-clearing : length clearing_lines ≡ 57
length-clearing = let e = length-chain clear_label clear_offset clear_lines 1 clearing_chain in omega (arith, e)

pub length-start : (globals : ℕ) → length (start_lines globals) ≡ 35
length-start globals = refl

pub length-heap : (globals : ℕ) → length (heap_lines globals) ≡ 32
length-heap globals = refl

pub length-one : length one_part_lines ≡ 22
length-one = refl

pub length-two : length two_parts_lines ≡ 27
length-two = refl

pub length-fork : length fork_lines ≡ 40
length-fork = refl

-- a chain stands in an image where it stands among its lines
stands_chain : (label offset : ℕ → ℕ) (part : ℕ → List MarkedLine) (width : ℕ) → IsChain label offset part width
    → (image : Image) (bounds : List (Option ℕ)) (all : List MarkedLine) → IsAssembled image bounds all → (end first : ℕ)
    → Within all first (chain_lines part most_privates) → ((n : ℕ) → n ≤ most_privates → bound_in bounds end (label n) ≡ first + offset n)
    → HasChain image (bound_in bounds end) label part width
stands_chain label offset part width chain image bounds all code end first w at =
    let begins = chain.begins in
    let zero' : first ≡ first + offset most_privates = omega (arith, begins) in
    let there = subst (λ k. Within all k (chain_lines part most_privates)) zero' w in
    record {
      parts = λ k lt.
          subst (λ j. LinesAt image (bound_in bounds end) j (part k)) (sym (at (suc k) lt))
          (lines_at image bounds all code end (first + offset (suc k)) (part k)
          (part_within label offset part width chain all first most_privates k (omega arith) there lt));
      next = λ k lt.
          let e = at (suc k) lt in
          let e' = at k (omega arith) in
          let step = chain.steps k lt in
          omega (arith, e, e', step);
      back =
          subst (λ j. LinesAt image (bound_in bounds end) j back_lines) (sym (at 0 (omega arith)))
          (lines_at image bounds all code end (first + offset 0) back_lines
          (back_within label offset part width chain all first most_privates (omega arith) there));
    }

-- the label of code that has one is bound, and the lines are there
module _ (own : ℕ) (lines : List MarkedLine) (old new : Assembly) (s : AddsLabelled own lines old new) where
  own_bound : new.bound ≡ slice_set old.bound own (Some (length old.lines))
  own_bound = ap (λ (a : Assembly). a.bound) s

  pub labelled_count : length new.bound ≡ length old.bound
  labelled_count = ap length own_bound ∙ length-set old.bound own (Some (length old.lines))

  pub labelled_other : (label : ℕ) → (label ≡ own → ⊥) → slice_index_or new.bound label None ≡ slice_index_or old.bound label None
  labelled_other label ne =
      ap (λ l. slice_index_or l label None) own_bound ∙ get_or-set_other old.bound own label (Some (length old.lines)) None ne

  pub labelled_at : own < length old.bound → slice_index_or new.bound own None ≡ Some (length old.lines)
  labelled_at in' = ap (λ l. slice_index_or l own None) own_bound ∙ get_or-set_same old.bound own (Some (length old.lines)) None in'

  pub labelled_words : length new.lines ≡ length old.lines + length lines
  labelled_words =
      ap (λ (a : Assembly). length a.lines) s
      ∙ length-with_block (record old { bound = slice_set old.bound own (Some (length old.lines)) }) lines

module _ (block : Placed → List MarkedLine) (opening : List MarkedLine) (globals : ℕ) (ops : List Placed) where
  abbrev copied_front : List MarkedLine
  copied_front = opening ++ copying_lines

  length-copied : length copied_front ≡ length opening + 113
  length-copied =
      let sum = length-append opening copying_lines in
      let copying = length-copying in
      omega (arith, sum, copying)

  length-calls : length (calls_front opening) ≡ length opening + 170
  length-calls =
      let sum = length-append copied_front clearing_lines in
      let first = length-copied in
      let clearing = length-clearing in
      omega (arith, sum, first, clearing)

  length-started : length (start_front opening globals) ≡ length opening + 205
  length-started =
      let sum = length-append (calls_front opening) (start_lines globals) in
      let first = length-calls in
      let start = length-start globals in
      omega (arith, sum, first, start)

  length-heaped : length (heap_front opening globals) ≡ length opening + 237
  length-heaped =
      let sum = length-append (start_front opening globals) (heap_lines globals) in
      let first = length-started in
      let heap = length-heap globals in
      omega (arith, sum, first, heap)

  length-parted : length (part_front opening globals) ≡ length opening + 259
  length-parted =
      let sum = length-append (heap_front opening globals) one_part_lines in
      let first = length-heaped in
      let one = length-one in
      omega (arith, sum, first, one)

  length-halved : length (fork_front opening globals) ≡ length opening + 286
  length-halved =
      let sum = length-append (part_front opening globals) two_parts_lines in
      let first = length-parted in
      let two = length-two in
      omega (arith, sum, first, two)

  pub length-front : length (front opening globals) ≡ length opening + 326
  length-front =
      let sum = length-append (fork_front opening globals) fork_lines in
      let first = length-halved in
      let fork = length-fork in
      omega (arith, sum, first, fork)

  length-all : length (all_lines block opening globals ops) ≡ length (front opening globals) + length (flat_map block ops)
  length-all = length-append (front opening globals) (flat_map block ops)

  -- ---- it is laid part by part

  -- what is added behind the code of two parts, of one, of `shmalloc`, of `start`, and of calls, with the labels of the end
  abbrev behind_parts : (bound : List (Option ℕ)) → Assembly → Assembly
  behind_parts bound a = record (with_block (with_block a fork_lines) (flat_map block ops)) { bound = bound }

  abbrev behind_part : (bound : List (Option ℕ)) → Assembly → Assembly
  behind_part bound a = behind_parts bound (with_block a two_parts_lines)

  abbrev behind_heap : (bound : List (Option ℕ)) → Assembly → Assembly
  behind_heap bound a = behind_part bound (with_block a one_part_lines)

  abbrev behind_start : (bound : List (Option ℕ)) → Assembly → Assembly
  behind_start bound a = behind_heap bound (with_block a (heap_lines globals))

  abbrev behind_calls : (bound : List (Option ℕ)) → Assembly → Assembly
  behind_calls bound a = behind_start bound (with_block a (start_lines globals))

  laid_made : (bound : List (Option ℕ)) (opened copied cleared started hiring parting halving forking laid : Assembly)
      → opened ≡ with_block (record empty { bound = bound }) opening → AddsCopying opened copied → AddsClearing copied cleared → AddsStart globals cleared started
      → AddsHeap globals started hiring → AddsOnePart hiring parting → AddsTwoParts parting halving → AddsFork halving forking
      → AddsBlocks block ops forking laid → laid ≡ record (with_block empty (all_lines block opening globals ops)) { bound = laid.bound }
  laid_made bound opened copied cleared started hiring parting halving forking laid o c d s r q u f b =
      b.made
      ∙ ap (λ (a : Assembly). record (with_block a (flat_map block ops)) { bound = laid.bound }) f
      ∙ ap (λ (a : Assembly). behind_parts laid.bound a) u
      ∙ ap (λ (a : Assembly). behind_part laid.bound a) q
      ∙ ap (λ (a : Assembly). behind_heap laid.bound a) r
      ∙ ap (λ (a : Assembly). behind_start laid.bound a) s
      ∙ ap (λ (a : Assembly). behind_calls laid.bound a) d.made
      ∙ ap (λ (a : Assembly). behind_calls laid.bound (with_block a clearing_lines)) c.made
      ∙ ap (λ (a : Assembly). behind_calls laid.bound (with_block (with_block a copying_lines) clearing_lines)) o
      ∙ ap (λ (a : Assembly). behind_calls laid.bound (with_block a clearing_lines)) (with_block-append empty opening copying_lines)
      ∙ ap (λ (a : Assembly). behind_calls laid.bound a) (with_block-append empty copied_front clearing_lines)
      ∙ ap (λ (a : Assembly). behind_start laid.bound a) (with_block-append empty (calls_front opening) (start_lines globals))
      ∙ ap (λ (a : Assembly). behind_heap laid.bound a) (with_block-append empty (start_front opening globals) (heap_lines globals))
      ∙ ap (λ (a : Assembly). behind_part laid.bound a) (with_block-append empty (heap_front opening globals) one_part_lines)
      ∙ ap (λ (a : Assembly). behind_parts laid.bound a) (with_block-append empty (part_front opening globals) two_parts_lines)
      ∙ ap (λ (a : Assembly). record (with_block a (flat_map block ops)) { bound = laid.bound }) (with_block-append empty (fork_front opening globals) fork_lines)
      ∙ ap (λ (a : Assembly). record a { bound = laid.bound }) (with_block-append empty (front opening globals) (flat_map block ops))

  pub laid_all : (opened copied cleared started hiring parting halving forking laid : Assembly)
      → opened ≡ with_block (record empty { bound = replicate (label_of (length ops)) None }) opening
      → AddsCopying opened copied → AddsClearing copied cleared → AddsStart globals cleared started → AddsHeap globals started hiring
      → AddsOnePart hiring parting → AddsTwoParts parting halving → AddsFork halving forking → AddsBlocks block ops forking laid → IsLaid block opening globals ops laid
  laid_all opened copied cleared started hiring parting halving forking laid o c d s r q u f b =
      let bound : opened.bound ≡ replicate (label_of (length ops)) None = ap (λ (a : Assembly). a.bound) o in
      let count : length cleared.bound ≡ label_of (length ops) = d.count ∙ c.count ∙ ap length bound ∙ length-replicate (label_of (length ops)) None in
      let first : length opened.lines ≡ length opening =
      ap (λ (a : Assembly). length a.lines) o ∙ length-with_block (record empty { bound = replicate (label_of (length ops)) None }) opening ∙ omega arith in
      let second : length copied.lines ≡ length copied_front =
      ap (λ (a : Assembly). length a.lines) c.made ∙ length-with_block opened copying_lines
      ∙ ap (λ n. n + length copying_lines) first ∙ sym (length-append opening copying_lines) in
      let third : length cleared.lines ≡ length (calls_front opening) =
      ap (λ (a : Assembly). length a.lines) d.made ∙ length-with_block copied clearing_lines
      ∙ ap (λ n. n + length clearing_lines) second ∙ sym (length-append copied_front clearing_lines) in
      let fourth : length started.lines ≡ length (start_front opening globals) =
      labelled_words start_label (start_lines globals) cleared started s
      ∙ ap (λ n. n + length (start_lines globals)) third ∙ sym (length-append (calls_front opening) (start_lines globals)) in
      let fifth : length hiring.lines ≡ length (heap_front opening globals) =
      labelled_words heap_label (heap_lines globals) started hiring r
      ∙ ap (λ n. n + length (heap_lines globals)) fourth ∙ sym (length-append (start_front opening globals) (heap_lines globals)) in
      let sixth : length parting.lines ≡ length (part_front opening globals) =
      labelled_words one_part_label one_part_lines hiring parting q
      ∙ ap (λ n. n + length one_part_lines) fifth ∙ sym (length-append (heap_front opening globals) one_part_lines) in
      let seventh : length halving.lines ≡ length (fork_front opening globals) =
      labelled_words two_parts_label two_parts_lines parting halving u
      ∙ ap (λ n. n + length two_parts_lines) sixth ∙ sym (length-append (part_front opening globals) two_parts_lines) in
      let eighth : length forking.lines ≡ length (front opening globals) =
      labelled_words fork_label fork_lines halving forking f
      ∙ ap (λ n. n + length fork_lines) seventh ∙ sym (length-append (fork_front opening globals) fork_lines) in
      let count' : length started.bound ≡ label_of (length ops) = labelled_count start_label (start_lines globals) cleared started s ∙ count in
      let count2 : length hiring.bound ≡ label_of (length ops) = labelled_count heap_label (heap_lines globals) started hiring r ∙ count' in
      let count3 : length parting.bound ≡ label_of (length ops) = labelled_count one_part_label one_part_lines hiring parting q ∙ count2 in
      let count4 : length halving.bound ≡ label_of (length ops) = labelled_count two_parts_label two_parts_lines parting halving u ∙ count3 in
      let past : (label : ℕ) → (label ≡ fork_label → ⊥) → (label ≡ two_parts_label → ⊥) → (label ≡ one_part_label → ⊥) → slice_index_or forking.bound label None ≡ slice_index_or hiring.bound label None =
      λ label before apart apart'.
      labelled_other fork_label fork_lines halving forking f label before ∙ labelled_other two_parts_label two_parts_lines parting halving u label apart ∙ labelled_other one_part_label one_part_lines hiring parting q label apart' in
      let other : (label : ℕ) → (label ≡ heap_label → ⊥) → (label ≡ start_label → ⊥) → slice_index_or hiring.bound label None ≡ slice_index_or cleared.bound label None =
      λ label apart apart'.
      labelled_other heap_label (heap_lines globals) started hiring r label apart ∙ labelled_other start_label (start_lines globals) cleared started s label apart' in
      record {
        made = laid_made (replicate (label_of (length ops)) None) opened copied cleared started hiring parting halving forking laid o c d s r q u f b;
        count = b.count ∙ labelled_count fork_label fork_lines halving forking f ∙ count4;
        copies = λ n few.
            b.others (copy_label n) (omega arith) ∙ past (copy_label n) (λ e. omega arith) (λ e. omega arith) (λ e. omega arith) ∙ other (copy_label n) (λ e. omega arith) (λ e. omega arith)
            ∙ d.others (copy_label n) (λ m le e. absurd (omega arith)) ∙ c.entries n few ∙ ap (λ k. Some (k + copy_offset n)) first;
        clears = λ n few.
            b.others (clear_label n) (omega arith) ∙ past (clear_label n) (λ e. omega arith) (λ e. omega arith) (λ e. omega arith) ∙ other (clear_label n) (λ e. omega arith) (λ e. omega arith)
            ∙ d.entries n few ∙ ap (λ k. Some (k + clear_offset n)) second;
        starts =
            b.others start_label (omega arith) ∙ past start_label (λ e. omega arith) (λ e. omega arith) (λ e. omega arith) ∙ labelled_other heap_label (heap_lines globals) started hiring r start_label (λ e. omega arith)
            ∙ labelled_at start_label (start_lines globals) cleared started s (omega (arith, count)) ∙ ap Some third;
        hires =
            b.others heap_label (omega arith) ∙ past heap_label (λ e. omega arith) (λ e. omega arith) (λ e. omega arith)
            ∙ labelled_at heap_label (heap_lines globals) started hiring r (omega (arith, count')) ∙ ap Some fourth;
        divides =
            b.others one_part_label (omega arith) ∙ labelled_other fork_label fork_lines halving forking f one_part_label (λ e. omega arith) ∙ labelled_other two_parts_label two_parts_lines parting halving u one_part_label (λ e. omega arith)
            ∙ labelled_at one_part_label one_part_lines hiring parting q (omega (arith, count2)) ∙ ap Some fifth;
        halves =
            b.others two_parts_label (omega arith) ∙ labelled_other fork_label fork_lines halving forking f two_parts_label (λ e. omega arith)
            ∙ labelled_at two_parts_label two_parts_lines parting halving u (omega (arith, count3)) ∙ ap Some sixth;
        forks = b.others fork_label (omega arith) ∙ labelled_at fork_label fork_lines halving forking f (omega (arith, count4)) ∙ ap Some seventh;
        spare = λ label is.
            let low = is.low in
            let in' : label < label_of (length ops) = omega arith in
            b.others label is.low ∙ past label is.no_fork is.no_parts is.no_part ∙ other label is.no_heap is.no_start ∙ d.others label is.no_clear ∙ c.others label is.no_copy
            ∙ ap (λ l. slice_index_or l label None) bound ∙ get_or-replicate (label_of (length ops)) label None None in';
        labels = λ i lt. b.labels i lt ∙ ap (λ k. Some (place block k ops i)) eighth;
      }

  -- ---- labels

  module _ (a : Assembly) (is : IsLaid block opening globals ops a) where
    abbrev end : ℕ
    end = length (all_lines block opening globals ops)

    copy_end : (n : ℕ) → n ≤ most_privates → length opening + copy_offset n ≤ end
    copy_end n few =
        let whole = length-all in
        let begin = length-front in
        omega (arith, whole, begin)

    clear_end : (n : ℕ) → n ≤ most_privates → length copied_front + clear_offset n ≤ end
    clear_end n few =
        let whole = length-all in
        let begin = length-front in
        let first = length-copied in
        omega (arith, whole, begin, first)

    start_end : length (calls_front opening) ≤ end
    start_end =
        let whole = length-all in
        let begin = length-front in
        let first = length-calls in
        omega (arith, whole, begin, first)

    heap_end : length (start_front opening globals) ≤ end
    heap_end =
        let whole = length-all in
        let begin = length-front in
        let first = length-started in
        omega (arith, whole, begin, first)

    part_end : length (heap_front opening globals) ≤ end
    part_end =
        let whole = length-all in
        let begin = length-front in
        let first = length-heaped in
        omega (arith, whole, begin, first)

    forks_end : length (fork_front opening globals) ≤ end
    forks_end =
        let whole = length-all in
        let begin = length-front in
        let first = length-halved in
        omega (arith, whole, begin, first)

    parts_end : length (part_front opening globals) ≤ end
    parts_end =
        let whole = length-all in
        let begin = length-front in
        let first = length-parted in
        omega (arith, whole, begin, first)

    -- a label that is bound to a word of the code
    word_within : (label own word : ℕ) → own ≡ label → slice_index_or a.bound own None ≡ Some word → word ≤ end
        → IsSomeAnd (slice_index_or a.bound label None) (λ word. word ≤ end)
    word_within label own word same is le = subst (λ o. IsSomeAnd o (λ word. word ≤ end)) (sym (ap (λ l. slice_index_or a.bound l None) (sym same) ∙ is)) le

    label_within : (label : ℕ) → IsLabel (length ops) label → IsSomeAnd (slice_index_or a.bound label None) (λ word. word ≤ end)
    label_within label (inl low) = elim (cases_lt label start_label) [
      | inl less ↦
          let copy : label ≤ most_privates = omega arith in
          subst (λ o. IsSomeAnd o (λ word. word ≤ end)) (sym (is.copies label copy)) (copy_end label copy)
      | inr from ↦ elim (cases_lt label heap_label) [
        | inl start ↦ word_within label start_label (length (calls_front opening)) (omega arith) is.starts start_end
        | inr heap ↦ elim (cases_lt label one_part_label) [
          | inl hire ↦ word_within label heap_label (length (start_front opening globals)) (omega arith) is.hires heap_end
          | inr part ↦ elim (cases_lt label two_parts_label) [
            | inl one ↦ word_within label one_part_label (length (heap_front opening globals)) (omega arith) is.divides part_end
            | inr two ↦ elim (cases_lt label fork_label) [
              | inl both ↦ word_within label two_parts_label (length (part_front opening globals)) (omega arith) is.halves parts_end
              | inr fork ↦ word_within label fork_label (length (fork_front opening globals)) (omega arith) is.forks forks_end
            ]
          ]
        ]
      ]
    ]
    label_within label (inr (inl clear)) =
        let n = label - clear_label 0 in
        let low = clear.0 in
        let high = clear.1 in
        let same : clear_label n ≡ label = omega arith in
        let few : n ≤ most_privates = omega arith in
        subst (λ o. IsSomeAnd o (λ word. word ≤ end))
        (sym (ap (λ l. slice_index_or a.bound l None) (sym same) ∙ is.clears n few)) (clear_end n few)
    label_within label (inr (inr of_block)) =
        let i = label - label_of 0 in
        let low = of_block.0 in
        let high = of_block.1 in
        let same : label_of i ≡ label = omega arith in
        let whole = length-all in
        let in' = place_within block ops (length (front opening globals)) i in
        let here : place block (length (front opening globals)) ops i ≤ end = omega arith in
        subst (λ o. IsSomeAnd o (λ word. word ≤ end))
        (sym (ap (λ l. slice_index_or a.bound l None) (sym same) ∙ is.labels i (omega arith))) here

    goes_far : (m : MarkedLine) → GoesTo (length ops) m → GoesFar a.bound end m
    goes_far m goes = far m.line.label goes
      where
        far : (label : Option ℕ) → IfSome label (λ l. IsLabel (length ops) l × IsFar m.line.instruction)
            → IfSome label (λ l. IsSomeAnd (slice_index_or a.bound l None) (λ word. word ≤ end) × IsFar m.line.instruction)
        far None goes = tt
        far (Some l) goes = (label_within l goes.0, goes.1)

    pub all_go_far : All (GoesTo (length ops)) (all_lines block opening globals ops) → All (GoesFar a.bound end) (all_lines block opening globals ops)
    all_go_far go = All-weaker (GoesTo (length ops)) (GoesFar a.bound end) goes_far (all_lines block opening globals ops) go

    -- ---- the words of labels

    abbrev bound : (label : ℕ) → ℕ
    bound = bound_in a.bound end

    bound_block : (i : ℕ) → bound (label_of i) ≡ place block (length (front opening globals)) ops i
    bound_block i = elim (cases_lt i (length ops)) [
      | inl lt ↦ ap (word_or end) (is.labels i lt)
      | inr ge ↦
          let count = is.count in
          let past : length a.bound ≤ label_of i = omega arith in
          ap (word_or end) (get_or_past a.bound (label_of i) None past)
          ∙ length-all ∙ sym (place_end block ops (length (front opening globals)) i ge)
    ]

    bound_copy : (n : ℕ) → n ≤ most_privates → bound (copy_label n) ≡ length opening + copy_offset n
    bound_copy n few = ap (word_or end) (is.copies n few)

    bound_clear : (n : ℕ) → n ≤ most_privates → bound (clear_label n) ≡ length copied_front + clear_offset n
    bound_clear n few = ap (word_or end) (is.clears n few)

    pub bound_start : bound start_label ≡ length (calls_front opening)
    bound_start = ap (word_or end) is.starts

    pub bound_heap : bound heap_label ≡ length (start_front opening globals)
    bound_heap = ap (word_or end) is.hires

    pub bound_one : bound one_part_label ≡ length (heap_front opening globals)
    bound_one = ap (word_or end) is.divides

    pub bound_two : bound two_parts_label ≡ length (part_front opening globals)
    bound_two = ap (word_or end) is.halves

    pub bound_fork : bound fork_label ≡ length (fork_front opening globals)
    bound_fork = ap (word_or end) is.forks

    bound_spare : (label : ℕ) → IsSpare label → bound label ≤ end
    bound_spare label spare = let e : bound label ≡ end = ap (word_or end) (is.spare label spare) in omega (arith, e)

    -- one behind that of `shmalloc`
    bound_past : (label : ℕ) → heap_label < label → label < clear_label 0 → bound label ≤ end
    bound_past label from less = elim (cases_lt fork_label label) [
      | inl past ↦
          bound_spare label
          (record { low = omega arith; no_copy = λ n le e. omega arith; no_start = λ e. omega arith; no_heap = λ e. omega arith; no_part = λ e. omega arith; no_parts = λ e. omega arith; no_fork = λ e. omega arith; no_clear = λ n le e. omega arith })
      | inr here ↦ elim (cases_lt two_parts_label label) [
        | inl fork ↦
            let same : label ≡ fork_label = omega arith in
            let e : bound label ≡ length (fork_front opening globals) = ap bound same ∙ bound_fork in
            let le = forks_end in
            omega (arith, e, le)
        | inr low ↦ elim (cases_lt one_part_label label) [
          | inl two ↦
              let same : label ≡ two_parts_label = omega arith in
              let e : bound label ≡ length (part_front opening globals) = ap bound same ∙ bound_two in
              let le = parts_end in
              omega (arith, e, le)
          | inr one ↦
              let same : label ≡ one_part_label = omega arith in
              let e : bound label ≡ length (heap_front opening globals) = ap bound same ∙ bound_one in
              let le = part_end in
              omega (arith, e, le)
        ]
      ]
    ]

    -- one behind those that copy arguments, before those that clear words
    bound_between : (label : ℕ) → most_privates < label → label < clear_label 0 → bound label ≤ end
    bound_between label from less = elim (cases_lt heap_label label) [
      | inl past ↦ bound_past label past less
      | inr here ↦ elim (cases_lt start_label label) [
        | inl heap ↦
            let same : label ≡ heap_label = omega arith in
            let e : bound label ≡ length (start_front opening globals) = ap bound same ∙ bound_heap in
            let le = heap_end in
            omega (arith, e, le)
        | inr start ↦
            let same : label ≡ start_label = omega arith in
            let e : bound label ≡ length (calls_front opening) = ap bound same ∙ bound_start in
            let le = start_end in
            omega (arith, e, le)
      ]
    ]

    -- one that is no label of a block
    bound_low : (label : ℕ) → label < label_of 0 → bound label ≤ end
    bound_low label low = elim (cases_lt most_privates label) [
      | inr copy ↦
          let e = bound_copy label (omega arith) in
          let le = copy_end label (omega arith) in
          omega (arith, e, le)
      | inl more ↦ elim (cases_lt label (clear_label 0)) [
        | inl less ↦ bound_between label more less
        | inr from ↦ elim (cases_lt (clear_label most_privates) label) [
          | inl past ↦ bound_spare label (record { low = low; no_copy = λ n le e. omega arith; no_start = λ e. omega arith; no_heap = λ e. omega arith; no_part = λ e. omega arith; no_parts = λ e. omega arith; no_fork = λ e. omega arith; no_clear = λ n le e. omega arith })
          | inr clear ↦
              let n = label - clear_label 0 in
              let same : label ≡ clear_label n = omega arith in
              let few : n ≤ most_privates = omega arith in
              let e : bound label ≡ length copied_front + clear_offset n = ap bound same ∙ bound_clear n few in
              let le = clear_end n few in
              omega (arith, e, le)
        ]
      ]
    ]

    bound_within : (label : ℕ) → bound label ≤ end
    bound_within label = elim (cases_lt label (label_of 0)) [
      | inl low ↦ bound_low label low
      | inr high ↦
          let i = label - label_of 0 in
          let same : label ≡ label_of i = omega arith in
          let e : bound label ≡ place block (length (front opening globals)) ops i = ap bound same ∙ bound_block i in
          let in' = place_within block ops (length (front opening globals)) i in
          let whole = length-all in
          omega arith
    ]

    abbrev pub places : ((index : ℕ) → Option ReturnPoint) → Frames → Places
    places returns frames = record { block = place block (length (front opening globals)) ops; returns = returns; frames = frames }

    -- ---- all stands in an image

    module _ (image : Image) (code : IsAssembled image a.bound (all_lines block opening globals ops)) where
      abbrev all : List MarkedLine
      all = all_lines block opening globals ops

      pub has_labels : (returns : (index : ℕ) → Option ReturnPoint) (frames : Frames) → HasLabels bound (places returns frames)
      has_labels returns frames = record {
        blocks = bound_block;
        within = λ label. let in' = bound_within label in let few = code.few in omega arith;
      }

      behind : (xs ys : List MarkedLine) → Within all 0 (xs ++ ys) → Within all (length xs) ys
      behind xs ys w =
          let zero' : 0 + length xs ≡ length xs = omega arith in
          subst (λ k. Within all k ys) zero' (within_back all xs ys 0 w)

      in_front : Within all 0 (front opening globals)
      in_front = within_front all (front opening globals) (flat_map block ops) 0 (within_self all)

      in_halved : Within all 0 (fork_front opening globals)
      in_halved = within_front all (fork_front opening globals) fork_lines 0 in_front

      in_parted : Within all 0 (part_front opening globals)
      in_parted = within_front all (part_front opening globals) two_parts_lines 0 in_halved

      in_heaped : Within all 0 (heap_front opening globals)
      in_heaped = within_front all (heap_front opening globals) one_part_lines 0 in_parted

      in_started : Within all 0 (start_front opening globals)
      in_started = within_front all (start_front opening globals) (heap_lines globals) 0 in_heaped

      in_calls : Within all 0 (calls_front opening)
      in_calls = within_front all (calls_front opening) (start_lines globals) 0 in_started

      in_copied : Within all 0 copied_front
      in_copied = within_front all copied_front clearing_lines 0 in_calls

      in_blocks : Within all (length (front opening globals)) (flat_map block ops)
      in_blocks = behind (front opening globals) (flat_map block ops) (within_self all)

      pub has_opening : LinesAt image bound 0 opening
      has_opening = lines_at image a.bound all code end 0 opening (within_front all opening copying_lines 0 in_copied)

      pub has_shared : HasShared image bound
      has_shared = record {
        copying =
            stands_chain copy_label copy_offset copy_lines 2 copying_chain image a.bound all code end (length opening)
            (behind opening copying_lines in_copied) bound_copy;
        clearing =
            stands_chain clear_label clear_offset clear_lines 1 clearing_chain image a.bound all code end (length copied_front)
            (behind copied_front clearing_lines in_calls) bound_clear;
      }

      pub has_start : LinesAt image bound (bound start_label) (start_lines globals)
      has_start =
          subst (λ k. LinesAt image bound k (start_lines globals)) (sym bound_start)
          (lines_at image a.bound all code end (length (calls_front opening)) (start_lines globals) (behind (calls_front opening) (start_lines globals) in_started))

      pub has_heap : LinesAt image bound (bound heap_label) (heap_lines globals)
      has_heap =
          subst (λ k. LinesAt image bound k (heap_lines globals)) (sym bound_heap)
          (lines_at image a.bound all code end (length (start_front opening globals)) (heap_lines globals) (behind (start_front opening globals) (heap_lines globals) in_heaped))

      pub has_one_part : LinesAt image bound (bound one_part_label) one_part_lines
      has_one_part =
          subst (λ k. LinesAt image bound k one_part_lines) (sym bound_one)
          (lines_at image a.bound all code end (length (heap_front opening globals)) one_part_lines (behind (heap_front opening globals) one_part_lines in_parted))

      pub has_two_parts : LinesAt image bound (bound two_parts_label) two_parts_lines
      has_two_parts =
          subst (λ k. LinesAt image bound k two_parts_lines) (sym bound_two)
          (lines_at image a.bound all code end (length (part_front opening globals)) two_parts_lines (behind (part_front opening globals) two_parts_lines in_halved))

      pub has_fork : LinesAt image bound (bound fork_label) fork_lines
      has_fork =
          subst (λ k. LinesAt image bound k fork_lines) (sym bound_fork)
          (lines_at image a.bound all code end (length (fork_front opening globals)) fork_lines (behind (fork_front opening globals) fork_lines in_front))

      pub has_block : (returns : (index : ℕ) → Option ReturnPoint) (frames : Frames) (i : ℕ) (op : Placed) → slice_get ops i ≡ Some op
          → HasBlock image bound (places returns frames) i (block op)
      has_block returns frames i op e = record {
        labels = has_labels returns frames;
        lines = lines_at image a.bound all code end (place block (length (front opening globals)) ops i) (block op)
            (within_blocks block all ops (length (front opening globals)) i op in_blocks e);
        next = place-suc block ops (length (front opening globals)) i op e;
      }
