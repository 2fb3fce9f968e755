-- Each commit of a code tells the event of the operation to which it belongs.
use Rattle.std.proofs.Common.{◌≡◌, ℕ, zero, suc, ◌+◌, ◌*◌, ◌<◌, ◌≤◌, List, [], ◌∷◌, ◌++◌, length, take, Bool, true, false, Option, Some, None, IfSome, All, inl, inr, sym, ap, subst, refl, ◌∙◌, arith, length-append}
use Rattle.std.specs.Prelude.{flat_map, slice_get, slice_index_or}
use Rattle.std.proofs.lemmas.List.Elements.{All-nil, All-cons, All-append, All-head, All-tail}
use Rattle.fk_meaning_operation.specs.declared.operation.Operation.{Operation}
use Rattle.fk_meaning_operation.specs.declared.operation.Operation.TheVariants as o
use Rattle.fk_meaning_operation.specs.declared.operation.SplitKind.{SplitKind}
use Rattle.fk_meaning_operation.specs.declared.operation.SplitKind.TheVariants as split
use Rattle.fk_core.specs.declared.op.CoreOp.{CoreOp}
use Rattle.fk_core.specs.Next.{is_jump}
use Rattle.fk_core.specs.Numbers.{operation_of}
use Rattle.fk_image.specs.declared.Image.{Image}
use Rattle.fk_image.specs.declared.event.Event.{Event}
use Rattle.fk_image.specs.declared.event.Event.TheVariants as events
use Rattle.fk_image.specs.Limits.{event_of_word}
use Rattle.fk_asm.specs.Assembly.{Assembly}
use Rattle.fk_asm.specs.Block.{MarkedLine, entry_at, entries_from}
use Rattle.fk_core_liveness.specs.declared.set.Set.{Set}
use Rattle.fk_sim_block.specs.Stands.{Places, Frames}
use Rattle.fk_gen.specs.declared.placed.Levels.{Levels}
use Rattle.fk_gen.specs.declared.placed.Placed.{Placed}
use Rattle.fk_gen.specs.Events.{event_of, IsMarked, AreMarked}
use Rattle.fk_gen.specs.Lines.{number_in}
use Rattle.fk_gen_access.specs.Heap.{heap_label, heap_lines}
use Rattle.fk_gen_flow.specs.Blocks.{flow_block}
use Rattle.fk_gen_flow.specs.Flow.{jump_block}
use Rattle.fk_gen_flow.specs.Opening.{opening_lines}
use Rattle.fk_gen_group.specs.Blocks.{start_label, start_lines}
use Rattle.fk_gen_group.specs.Splits.{parts_label, parts_lines, one_part_lines, two_parts_lines, fork_lines}
use Rattle.fk_gen_group.proofs.Marked.{blocks_are_marked}
use Rattle.fk_gen_list.specs.Events.{TellsEvent, TellEvents}
use Rattle.fk_gen_list.specs.Generable.{places_in}
use Rattle.fk_gen_list.specs.declared.kind.Kind.{Kind}
use Rattle.fk_gen_list.specs.declared.kind.Kind.TheVariants.{Flow, Access, Group, Expression}
use Rattle.fk_gen_list.specs.Kinds.{kind_of, block_in, block_of}
use Rattle.fk_gen_list.specs.Layout.{placed, placed_from, all_placed, place, copying_lines, clearing_lines, calls_front, start_front, heap_front, part_front, fork_front, front, all_lines, IsLaid}
use Rattle.fk_gen_list.proofs.InImage.{IsAssembled, bound_in, word_or}
use Rattle.fk_gen_list.proofs.Laid.{place-suc}
use Rattle.fk_gen_list.proofs.AllPlaced.{placed_get}
use Rattle.fk_gen_list.proofs.Marked.{IsQuiet, heap_marked, operation_marked, opening_quiet, copying_quiet, clearing_quiet}

-- ---- the entries of lines

-- what is so of the entries of the lines from a word on
abbrev pub AreTold : (Q : ℕ × ℕ → Type 0) (word : ℕ) → List MarkedLine → Type 0
AreTold Q k [] = Unit {0}
AreTold Q k (m ∷ ms) = IfSome m.commit (λ commit. Q (4 * k, commit)) × AreTold Q (k + 1) ms

entry_told : (Q : ℕ × ℕ → Type 0) (k : ℕ) (commit : Option ℕ) → IfSome commit (λ c. Q (4 * k, c)) → All Q (entry_at k commit)
entry_told Q k None told = All-nil Q
entry_told Q k (Some commit) told = All-cons Q (4 * k, commit) [] told (All-nil Q)

entries_told : (Q : ℕ × ℕ → Type 0) (k : ℕ) (ms : List MarkedLine) → AreTold Q k ms → All Q (entries_from k ms)
entries_told Q k [] told = All-nil Q
entries_told Q k (m ∷ ms) told =
    All-append Q (entry_at k m.commit) (entries_from (k + 1) ms) (entry_told Q k m.commit told.0) (entries_told Q (k + 1) ms told.1)

both_told : (Q : ℕ × ℕ → Type 0) (k : ℕ) (xs ys : List MarkedLine) → AreTold Q k xs → AreTold Q (k + length xs) ys → AreTold Q k (xs ++ ys)
both_told Q k [] ys first second = let e : k + 0 ≡ k = omega arith in subst (λ j. AreTold Q j ys) e second
both_told Q k (m ∷ xs) ys first second =
    let e : k + suc (length xs) ≡ k + 1 + length xs = omega arith in
    (first.0, both_told Q (k + 1) xs ys first.1 (subst (λ j. AreTold Q j ys) e second))

-- lines behind those that come first
behind_told : (Q : ℕ × ℕ → Type 0) (xs ys : List MarkedLine) → AreTold Q 0 xs → AreTold Q (length xs) ys → AreTold Q 0 (xs ++ ys)
behind_told Q xs ys first second = let e : length xs ≡ 0 + length xs = omega arith in both_told Q 0 xs ys first (subst (λ j. AreTold Q j ys) e second)

-- lines without commits
quiet_told : (Q : ℕ × ℕ → Type 0) (k : ℕ) (ms : List MarkedLine) → All IsQuiet ms → AreTold Q k ms
quiet_told Q k [] quiets = tt
quiet_told Q k (m ∷ ms) quiets = (nothing m.commit (All-head IsQuiet m ms quiets), quiet_told Q (k + 1) ms (All-tail IsQuiet m ms quiets))
  where
    nothing : (commit : Option ℕ) → commit ≡ None → IfSome commit (λ c. Q (4 * k, c))
    nothing None e = tt
    nothing (Some c) e = absurd (cc)

-- lines whose commits tell an event
marked_told : (Q : ℕ × ℕ → Type 0) (event : Option Event) (k : ℕ) (ms : List MarkedLine) → AreMarked event ms
    → ((word commit : ℕ) → k ≤ word → word < k + length ms → event_of_word commit ≡ number_in event → Q (4 * word, commit)) → AreTold Q k ms
marked_told Q event k [] marked each = tt
marked_told Q event k (m ∷ ms) marked each = (
  one m.commit (All-head (IsMarked event) m ms marked),
  marked_told Q event (k + 1) ms (All-tail (IsMarked event) m ms marked) (λ word commit from below e. each word commit (omega arith) (omega arith) e),
)
  where
    one : (commit : Option ℕ) → IfSome commit (λ c. event_of_word c ≡ number_in event) → IfSome commit (λ c. Q (4 * k, c))
    one None e = tt
    one (Some c) e = each k c (omega arith) (omega arith) e

-- blocks one after another
blocks_told : (Q : ℕ × ℕ → Type 0) (block : Placed → List MarkedLine) (k : ℕ) (ops : List Placed)
    → ((i : ℕ) (p : Placed) → slice_get ops i ≡ Some p → AreTold Q (place block k ops i) (block p)) → AreTold Q k (flat_map block ops)
blocks_told Q block k [] each = tt
blocks_told Q block k (p ∷ ops) each =
    let here : k + 0 ≡ k = omega arith in
    both_told Q k (block p) (flat_map block ops)
    (subst (λ j. AreTold Q j (block p)) here (each 0 p refl))
    (blocks_told Q block (k + length (block p)) ops (λ i q at.
    let sum = length-append (block p) (flat_map block (take i ops)) in
    let there : place block k (p ∷ ops) (suc i) ≡ place block (k + length (block p)) ops i = omega (arith, sum) in
    subst (λ j. AreTold Q j (block q)) there (each (suc i) q at)))

-- ---- the operation of a block

pub record IsPlaced (core : List CoreOp) (globals : ℕ) (kept : List Set) (saved : List Levels) (ops : List CoreOp) (i j : ℕ) (p : Placed) : Type 0 where
  pub op : CoreOp
  pub at : slice_get ops i ≡ Some op
  pub is : p ≡ placed core globals kept saved j op

placed_back : (core : List CoreOp) (globals : ℕ) (kept : List Set) (saved : List Levels) (k i j : ℕ) (ops : List CoreOp) (p : Placed) → j ≡ k + i
    → slice_get (placed_from core globals kept saved k ops) i ≡ Some p → IsPlaced core globals kept saved ops i j p
placed_back core globals kept saved k i j [] p same at = absurd (cc)
placed_back core globals kept saved k zero j (op ∷ ops) p same at =
    let first : k ≡ j = omega arith in
    let is : placed core globals kept saved k op ≡ p = cc in
    record { op = op; at = refl; is = sym is ∙ ap (λ n. placed core globals kept saved n op) first }
placed_back core globals kept saved k (suc i) j (op ∷ ops) p same at =
    let rest = placed_back core globals kept saved (suc k) i j ops p (omega arith) at in
    record { op = rest.op; at = rest.at; is = rest.is }

-- the block of a jump
jump_kind : (op : CoreOp) → is_jump op ≡ true → kind_of op ≡ Flow
jump_kind op j = rw j refl

jump_lines : (clears back : ℕ) (op : CoreOp) → is_jump op ≡ true → flow_block clears back op ≡ jump_block op.target
jump_lines clears back op j = rw j refl

jump_is : (p : Placed) → is_jump p.op ≡ true → block_of p ≡ jump_block p.op.target
jump_is p j = ap (λ kind. block_in kind p) (jump_kind p.op j) ∙ jump_lines p.clears p.back p.op j

-- what is no operation has no block
no_block : (p : Placed) → is_jump p.op ≡ false → operation_of p.op.kind p.op.number ≡ None → (kind : Kind) → block_in kind p ≡ []
no_block p no_jump read Flow = rw (no_jump, read) refl
no_block p no_jump read Access = rw read refl
no_block p no_jump read Group = rw read refl
no_block p no_jump read Expression = rw read refl

-- ---- the whole code

module _ (core : List CoreOp) (kept : List Set) (saved : List Levels) (main : ℕ) (firsts : List ℕ) (globals : ℕ) where
  abbrev ops : List Placed
  ops = all_placed globals kept saved core

  abbrev opening : List MarkedLine
  opening = opening_lines (length firsts) firsts main

  abbrev whole : List MarkedLine
  whole = all_lines block_of opening globals ops

  abbrev block : (index : ℕ) → ℕ
  block = place block_of (length (front opening globals)) ops

  module _ (a : Assembly) (laid : IsLaid block_of opening globals ops a) (image : Image) (built : IsAssembled image a.bound whole) (frames : Frames) where
    abbrev bound : (label : ℕ) → ℕ
    bound = bound_in a.bound (length whole)

    abbrev there : Places
    there = places_in core block frames

    abbrev Q : ℕ × ℕ → Type 0
    Q = TellsEvent core bound globals there

    operation_told : (i : ℕ) (op : CoreOp) (operation : Operation) → slice_get core i ≡ Some op → is_jump op ≡ false → operation_of op.kind op.number ≡ Some operation
        → AreMarked (event_of operation) (block_of (placed core globals kept saved i op)) → AreTold Q (block i) (block_of (placed core globals kept saved i op))
    operation_told i op operation at no_jump read marked =
        let next = place-suc block_of ops (length (front opening globals)) i (placed core globals kept saved i op) (placed_get core globals kept saved 0 i i op core at (omega arith)) in
        marked_told Q (event_of operation) (block i) (block_of (placed core globals kept saved i op)) marked (λ word commit from below e. record {
          word = word;
          address = refl;
          operation = operation;
          code = inl (record {
            index = i;
            op = op;
            stands = record { stands = at; no_jump = no_jump; is_read = read };
            from = from;
            below = omega (arith, below, next);
          });
          event = e;
        })

    block_told : (i : ℕ) (op : CoreOp) → slice_get core i ≡ Some op → (jump : Bool) (operation : Option Operation) → is_jump op ≡ jump → operation_of op.kind op.number ≡ operation
        → AreTold Q (block i) (block_of (placed core globals kept saved i op))
    block_told i op at true operation j read =
        subst (λ lines. AreTold Q (block i) lines) (sym (jump_is (placed core globals kept saved i op) j)) (tt, tt)
    block_told i op at false None j read =
        subst (λ lines. AreTold Q (block i) lines) (sym (no_block (placed core globals kept saved i op) j read (kind_of op))) tt
    block_told i op at false (Some operation) j read =
        operation_told i op operation at j read
        (operation_marked (placed core globals kept saved i op) operation j read (kind_of op))

    each_told : (i : ℕ) (p : Placed) → slice_get ops i ≡ Some p → AreTold Q (block i) (block_of p)
    each_told i p at =
        let here = placed_back core globals kept saved 0 i i core p (omega arith) at in
        subst (λ x. AreTold Q (block i) (block_of x)) (sym here.is) (block_told i here.op here.at (is_jump here.op) (operation_of here.op.kind here.op.number) refl refl)

    -- ---- the code that blocks share

    bound_at : (label k : ℕ) → slice_index_or a.bound label None ≡ Some k → bound label ≡ k
    bound_at label k e = ap (word_or (length whole)) e

    begins_told : AreTold Q (length (calls_front opening)) (start_lines globals)
    begins_told =
        let at = bound_at start_label (length (calls_front opening)) laid.starts in
        marked_told Q (Some events.Split) (length (calls_front opening)) (start_lines globals) (blocks_are_marked.start globals) (λ word commit from below e. record {
          word = word;
          address = refl;
          operation = o.Begin;
          code = inr (omega (arith, at, from), omega (arith, at, below));
          event = e;
        })

    hires_told : AreTold Q (length (start_front opening globals)) (heap_lines globals)
    hires_told =
        let at = bound_at heap_label (length (start_front opening globals)) laid.hires in
        marked_told Q None (length (start_front opening globals)) (heap_lines globals) (heap_marked globals) (λ word commit from below e. record {
          word = word;
          address = refl;
          operation = o.Heap;
          code = inr (omega (arith, at, from), omega (arith, at, below));
          event = e;
        })

    splits_told : (by : SplitKind) (k : ℕ) → slice_index_or a.bound (parts_label by) None ≡ Some k → AreMarked (Some events.Split) (parts_lines by) → AreTold Q k (parts_lines by)
    splits_told by k e marked =
        let at = bound_at (parts_label by) k e in
        marked_told Q (Some events.Split) k (parts_lines by) marked (λ word commit from below told. record {
          word = word;
          address = refl;
          operation = o.Split by;
          code = inr (omega (arith, at, from), omega (arith, at, below));
          event = told;
        })

    calls_told : AreTold Q 0 (calls_front opening)
    calls_told =
        behind_told Q (opening ++ copying_lines) clearing_lines
        (behind_told Q opening copying_lines (quiet_told Q 0 opening (opening_quiet (length firsts) firsts main)) (quiet_told Q (length opening) copying_lines copying_quiet))
        (quiet_told Q (length (opening ++ copying_lines)) clearing_lines clearing_quiet)

    front_told : AreTold Q 0 (front opening globals)
    front_told =
        behind_told Q (fork_front opening globals) fork_lines
        (behind_told Q (part_front opening globals) two_parts_lines
        (behind_told Q (heap_front opening globals) one_part_lines
        (behind_told Q (start_front opening globals) (heap_lines globals)
        (behind_told Q (calls_front opening) (start_lines globals) calls_told begins_told)
        hires_told)
        (splits_told split.IfAlone (length (heap_front opening globals)) laid.divides blocks_are_marked.one_part))
        (splits_told split.IfElse (length (part_front opening globals)) laid.halves blocks_are_marked.two_parts))
        (splits_told split.Fork (length (fork_front opening globals)) laid.forks blocks_are_marked.fork)

    whole_told : All Q (entries_from 0 whole)
    whole_told =
        entries_told Q 0 whole
        (behind_told Q (front opening globals) (flat_map block_of ops) front_told
        (blocks_told Q block_of (length (front opening globals)) ops each_told))

    pub all_told : length image.globals.items ≡ globals → TellEvents core image bound there
    all_told count =
        subst (λ n. All (TellsEvent core bound n there) image.commits.items) (sym count)
        (subst (λ commits. All Q commits) (sym built.commits) whole_told)
