-- The commits of each block tell the event of its operation, and code that only leads on commits nothing.
use Rattle.std.proofs.Common.{◌≡◌, ℕ, zero, suc, List, [], ◌∷◌, ◌++◌, map, Bool, true, false, Some, None, All, refl}
use Rattle.std.specs.Prelude.{◌==◌, nat_le}
use Rattle.std.proofs.lemmas.List.Elements.{All-nil, All-cons, All-append, All-from_recursion}
use Rattle.fk_meaning_operation.specs.declared.operation.Operation.{Operation}
use Rattle.fk_meaning_operation.specs.declared.operation.Operation.TheVariants as o
use Rattle.fk_isa.specs.declared.instruction.Instruction.{Instruction}
use Rattle.fk_asm.specs.Block.{MarkedLine}
use Rattle.fk_core.specs.declared.op.CoreOp.{CoreOp}
use Rattle.fk_core.specs.Next.{is_jump}
use Rattle.fk_core.specs.Numbers.{operation_of}
use Rattle.fk_gen.specs.declared.placed.Levels.{Levels}
use Rattle.fk_gen.specs.declared.placed.Placed.{Placed}
use Rattle.fk_gen.specs.Events.{event_of, IsMarked, AreMarked}
use Rattle.fk_gen.specs.Lines.{quiet, commits, first_commits, load_number}
use Rattle.fk_gen_access.specs.Blocks as accesses
use Rattle.fk_gen_access.specs.Heap as heap
use Rattle.fk_gen_expr.specs.Expressions as expressions
use Rattle.fk_gen_flow.specs.Blocks as flow
use Rattle.fk_gen_flow.specs.Calls as calls
use Rattle.fk_gen_flow.specs.Flow as f
use Rattle.fk_gen_flow.specs.Opening.{register_lines, first_line, first_lines, opening_lines}
use Rattle.fk_gen_group.proofs.Marked.{blocks_are_marked}
use Rattle.fk_gen_list.specs.declared.kind.Kind.{Kind}
use Rattle.fk_gen_list.specs.declared.kind.Kind.TheVariants.{Flow, Access, Group, Expression}
use Rattle.fk_gen_list.specs.Kinds.{block_in}
use Rattle.fk_gen_list.specs.Layout.{copying_lines, clearing_lines}

quiet_marked : (is : List Instruction) → AreMarked None (map quiet is)
quiet_marked [] = All-nil (IsMarked None)
quiet_marked (i ∷ is) = All-cons (IsMarked None) (quiet i) (map quiet is) tt (quiet_marked is)

first_marked : (is : List Instruction) → AreMarked None (first_commits 1 is)
first_marked [] = All-nil (IsMarked None)
first_marked (i ∷ is) = All-cons (IsMarked None) (commits 1 i) (map quiet is) refl (quiet_marked is)

-- ---- expressions

expression_marked : (globals : ℕ) (levels : Levels) (d : ℕ) (operation : Operation)
    → AreMarked (event_of operation) (expressions.expression_block globals levels d operation)
expression_marked globals levels d (o.Push n) = first_marked (expressions.push_number d n)
expression_marked globals levels d (o.Get which) = first_marked (expressions.get_code globals levels d which)
expression_marked globals levels d (o.Set variable) = first_marked (expressions.expression_code globals levels d (o.Set variable))
expression_marked globals levels d o.DropLast = first_marked (expressions.expression_code globals levels d o.DropLast)
expression_marked globals levels d o.CopyLast = first_marked (expressions.expression_code globals levels d o.CopyLast)
expression_marked globals levels d (o.Apply sign) = first_marked (expressions.expression_code globals levels d (o.Apply sign))
expression_marked globals levels d (o.Binary sign false) = first_marked (expressions.expression_code globals levels d (o.Binary sign false))
expression_marked globals levels d (o.Binary sign true) = first_marked (expressions.expression_code globals levels d (o.Binary sign true))
expression_marked globals levels d (o.Index size) = first_marked (expressions.index_code d size)
expression_marked globals levels d operation = All-nil (IsMarked (event_of operation))

-- ---- accesses

straight_marked : (b : accesses.Straight) → AreMarked None (accesses.lines b)
straight_marked b =
    All-append (IsMarked None) (map quiet b.before) (commits 1 b.commit ∷ map quiet b.behind) (quiet_marked b.before)
    (All-cons (IsMarked None) (commits 1 b.commit) (map quiet b.behind) refl (quiet_marked b.behind))

test_marked : (alone : Bool) (d : ℕ) → AreMarked None (accesses.test_lines alone d)
test_marked true d = All-from_recursion (IsMarked None) (accesses.shared_test d) (tt, (tt, (tt, (refl, (refl, tt)))))
test_marked false d = All-from_recursion (IsMarked None) (accesses.any_test d) (tt, (tt, (tt, (tt, (tt, (refl, (tt, (refl, tt))))))))

access_marked : (d site : ℕ) (operation : Operation) → AreMarked (event_of operation) (accesses.block_of (Some operation) d site)
access_marked d site o.Take = straight_marked (accesses.take_block d)
access_marked d site (o.Check alone) =
    All-append (IsMarked None) (map quiet (load_number site)) (accesses.test_lines alone d) (quiet_marked (load_number site)) (test_marked alone d)
access_marked d site o.Read = straight_marked (accesses.read_block d)
access_marked d site o.Write = straight_marked (accesses.write_block d)
access_marked d site (o.Combine by) = straight_marked (accesses.combine_block by d)
access_marked d site o.PrintNumber = straight_marked (accesses.print_block accesses.number_device d)
access_marked d site o.PrintByte = straight_marked (accesses.print_block accesses.byte_device d)
access_marked d site o.Heap = All-from_recursion (IsMarked None) (heap.hire_block d) (tt, (tt, (tt, tt)))
access_marked d site operation = All-nil (IsMarked (event_of operation))

-- the code that blocks of `shmalloc` share
pub heap_marked : (globals : ℕ) → AreMarked None (heap.heap_lines globals)
heap_marked globals =
    let adding = map quiet heap.add_up ++ commits 1 heap.tell ∷ [] in
    let giving = map quiet heap.give ++ quiet heap.back ∷ [] in
    All-append (IsMarked None) (map quiet heap.ask) (adding ++ (map quiet (heap.find_end globals) ++ giving)) (quiet_marked heap.ask)
    (All-append (IsMarked None) adding (map quiet (heap.find_end globals) ++ giving)
    (All-append (IsMarked None) (map quiet heap.add_up) (commits 1 heap.tell ∷ []) (quiet_marked heap.add_up)
    (All-from_recursion (IsMarked None) (commits 1 heap.tell ∷ []) (refl, tt)))
    (All-append (IsMarked None) (map quiet (heap.find_end globals)) giving (quiet_marked (heap.find_end globals))
    (All-append (IsMarked None) (map quiet heap.give) (quiet heap.back ∷ []) (quiet_marked heap.give)
    (All-from_recursion (IsMarked None) (quiet heap.back ∷ []) (tt, tt)))))

-- ---- control flow

clears_marked : (none : Bool) (clears : ℕ) → AreMarked None (calls.clears_by none clears)
clears_marked true clears = All-nil (IsMarked None)
clears_marked false clears = All-from_recursion (IsMarked None) (calls.clears_by false clears) (tt, tt)

own_marked : (arguments : ℕ) → AreMarked None (calls.own_copies arguments)
own_marked zero = All-nil (IsMarked None)
own_marked (suc k) =
    All-append (IsMarked None) (calls.copy_lines k) (calls.own_copies k)
    (All-from_recursion (IsMarked None) (calls.copy_lines k) (tt, (tt, tt))) (own_marked k)

copies_marked : (few : Bool) (arguments : ℕ) → AreMarked None (calls.copies_by few arguments)
copies_marked true arguments = own_marked arguments
copies_marked false arguments = All-from_recursion (IsMarked None) (calls.copies_by false arguments) (tt, tt)

enter_marked : (clears arguments depth site back : ℕ) → AreMarked None (calls.enter_block clears arguments depth site back)
enter_marked clears arguments depth site back =
    All-append (IsMarked None) (calls.depth_lines arguments depth site) (calls.word_lines clears arguments ++ calls.frame_lines back)
    (All-from_recursion (IsMarked None) (calls.depth_lines arguments depth site) (tt, (tt, (tt, (refl, (tt, (tt, (refl, tt))))))))
    (All-append (IsMarked None) (calls.word_lines clears arguments) (calls.frame_lines back)
    (All-append (IsMarked None) (calls.clears_by (clears == 0) clears) (calls.argument_lines clears arguments)
    (clears_marked (clears == 0) clears) (copies_marked (nat_le arguments (calls.most_own (clears == 0))) arguments))
    (All-from_recursion (IsMarked None) (calls.frame_lines back) (tt, (tt, (tt, (tt, (tt, tt)))))))

flow_marked : (clears back : ℕ) (op : CoreOp) (operation : Operation) → AreMarked (event_of operation) (flow.block_by clears back op (Some operation))
flow_marked clears back op (o.Branch onward) = All-from_recursion (IsMarked None) (f.branch_block onward op.depth op.target) (refl, (tt, (tt, tt)))
flow_marked clears back op (o.Leave gives true) =
    All-append (IsMarked None) (first_commits 1 f.giving_back) (f.leaving_lines false gives op.depth) (first_marked f.giving_back) (quiet_marked (f.leaving gives op.depth))
flow_marked clears back op (o.Leave gives false) = first_marked (f.leaving gives op.depth)
flow_marked clears back op (o.Enter arguments) = enter_marked clears arguments op.depth op.site back
flow_marked clears back op o.Halt = All-from_recursion (IsMarked None) f.halt_block (refl, tt)
flow_marked clears back op operation = All-nil (IsMarked (event_of operation))

-- ---- the block of each operation

pub operation_marked : (p : Placed) (operation : Operation) → is_jump p.op ≡ false → operation_of p.op.kind p.op.number ≡ Some operation → (kind : Kind)
    → AreMarked (event_of operation) (block_in kind p)
operation_marked p operation no_jump read Flow = rw (no_jump, read) (flow_marked p.clears p.back p.op operation)
operation_marked p operation no_jump read Access = rw read (access_marked p.op.depth p.op.site operation)
operation_marked p operation no_jump read Group = rw read (blocks_are_marked.blocks operation p.levels p.op.depth p.op.target p.op.site)
operation_marked p operation no_jump read Expression = rw read (expression_marked p.globals p.levels p.op.depth operation)

-- ---- lines without commits

abbrev pub IsQuiet : MarkedLine → Type 0
IsQuiet m = m.commit ≡ None

firsts_quiet : (i : ℕ) (firsts : List ℕ) → All IsQuiet (first_lines i firsts)
firsts_quiet i [] = All-nil IsQuiet
firsts_quiet i (v ∷ firsts) =
    All-append IsQuiet (first_line i v) (first_lines (suc i) firsts)
    (All-from_recursion IsQuiet (first_line i v) (refl, (refl, (refl, tt)))) (firsts_quiet (suc i) firsts)

pub opening_quiet : (of_file : ℕ) (firsts : List ℕ) (main : ℕ) → All IsQuiet (opening_lines of_file firsts main)
opening_quiet of_file firsts main =
    All-append IsQuiet (register_lines of_file ++ first_lines 0 firsts) (f.jump_block main)
    (All-append IsQuiet (register_lines of_file) (first_lines 0 firsts)
    (All-from_recursion IsQuiet (register_lines of_file)
    (refl, (refl, (refl, (refl, (refl, (refl, (refl, (refl, (refl, (refl, (refl, (refl, (refl, (refl, tt)))))))))))))))
    (firsts_quiet 0 firsts))
    (All-from_recursion IsQuiet (f.jump_block main) (refl, tt))

chain_quiet : (part : ℕ → List MarkedLine) → ((k : ℕ) → All IsQuiet (part k)) → (n : ℕ) → All IsQuiet (calls.chain_lines part n)
unfolding calls.chain_lines
chain_quiet part quiets zero = All-from_recursion IsQuiet (calls.chain_lines part 0) (refl, tt)
chain_quiet part quiets (suc k) = All-append IsQuiet (part k) (calls.chain_lines part k) (quiets k) (chain_quiet part quiets k)

pub copying_quiet : All IsQuiet copying_lines
copying_quiet = chain_quiet calls.copy_lines (λ k. All-from_recursion IsQuiet (calls.copy_lines k) (refl, (refl, tt))) calls.most_privates

pub clearing_quiet : All IsQuiet clearing_lines
clearing_quiet = chain_quiet calls.clear_lines (λ k. All-from_recursion IsQuiet (calls.clear_lines k) (refl, tt)) calls.most_privates
