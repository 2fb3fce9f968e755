-- The labels that blocks go to, and how many words they have.
use Rattle.std.proofs.Common.{◌≡◌, ℕ, zero, suc, ◌+◌, ◌-◌, ◌*◌, ◌<◌, ◌≤◌, List, [], ◌∷◌, ◌++◌, map, length, Bool, true, false, Option, Some, None, All, inl, inr, IfSome, ap, sym, subst, refl, arith, length-append}
use Rattle.std.specs.Prelude.{◌==◌, nat_le, slice_get, flat_map, sum_by, ◌||◌, if◌then◌else◌}
use Rattle.std.specs.Option.{option_map_or}
use Rattle.std.proofs.lemmas.Bool.{leb-true}
use Rattle.std.proofs.lemmas.List.{length-map}
use Rattle.std.proofs.lemmas.List.Elements.{All-nil, All-cons, All-append, All-from_recursion, All-weaker}
use Rattle.std.proofs.lemmas.List.Sums.{sum_by-cons}
use Rattle.fk_num.specs.declared.operator.Op.{Op}
use Rattle.fk_num.specs.declared.operator.Op.TheVariants as op
use Rattle.fk_meaning_operation.specs.declared.operation.OwnValue.{OwnValue}
use Rattle.fk_meaning_operation.specs.declared.operation.OwnValue.TheVariants as known
use Rattle.fk_meaning_operation.specs.declared.operation.Operation.{Operation}
use Rattle.fk_meaning_operation.specs.declared.operation.Operation.TheVariants as o
use Rattle.fk_meaning_operation.specs.declared.operation.SplitKind.{SplitKind}
use Rattle.fk_meaning_operation.specs.declared.operation.SplitKind.TheVariants as split
use Rattle.fk_image.specs.declared.event.Event.{Event}
use Rattle.fk_image.specs.declared.event.Event.TheVariants as events
use Rattle.fk_core.specs.declared.op.CoreOp.{CoreOp}
use Rattle.fk_core.specs.Next.{is_jump}
use Rattle.fk_core.specs.Numbers.{operation_of}
use Rattle.fk_meaning_store.specs.Store.{address_of}
use Rattle.fk_isa.specs.declared.instruction.Instruction.{Instruction}
use Rattle.fk_isa.specs.declared.instruction.Instruction.TheVariants.{Add, Jal, Sw}
use Rattle.fk_asm.specs.Block.{MarkedLine}
use Rattle.fk_gen.specs.declared.placed.Levels.{Levels}
use Rattle.fk_gen.specs.declared.placed.Placed.{Placed}
use Rattle.fk_gen.specs.Lines.{quiet, commits, first_commits, high_part, load_by, load_number, add_by, add_number, goes_to, at_value, label_of}
use Rattle.fk_gen.specs.Registers.{t0, t1}
use Rattle.fk_gen.specs.Operands.{operand, result}
use Rattle.fk_core_liveness.specs.declared.set.Set.{Set}
use Rattle.fk_gen_access.specs.Blocks as accesses
use Rattle.fk_gen_access.specs.Heap as heap
use Rattle.fk_gen_expr.specs.Expressions as expressions
use Rattle.fk_gen_flow.specs.Blocks as flow
use Rattle.fk_sim_block.specs.Next.{OpAt}
use Rattle.fk_sim_block.specs.Stands.{group_frame_register}
use Rattle.fk_gen_flow.specs.Calls as calls
use Rattle.fk_gen_flow.specs.Calls.{most_privates}
use Rattle.fk_gen_flow.specs.Flow as f
use Rattle.fk_gen_group.specs.Blocks as group
use Rattle.fk_gen_group.specs.Splits as splits
use Rattle.fk_gen_flow.specs.Opening.{register_lines, first_line, first_lines, opening_lines}
use Rattle.fk_gen_list.specs.Generable.{IsGenerable, most_words, words_by}
use Rattle.fk_gen_list.specs.declared.kind.Kind.{Kind}
use Rattle.fk_gen_list.specs.declared.kind.Kind.TheVariants.{Flow, Access, Group, Expression}
use Rattle.fk_gen_list.specs.Kinds.{kind_of, kind_by, block_in, block_of}
use Rattle.fk_gen_list.specs.Layout.{back_by, placed, placed_from}
use Rattle.fk_gen_list.proofs.Chain.{IsUnlabeled}
use Rattle.fk_gen_list.proofs.Clears.{few_clears}
use Rattle.fk_gen_list.proofs.Laid.{GoesTo, IsLabel}
use Rattle.fk_gen_list.proofs.Near.{IsFar}
use Rattle.fk_gen_list.proofs.Suited.{jump_none}

-- ---- lines without labels

pub go_nowhere : (n : ℕ) (ms : List MarkedLine) → All IsUnlabeled ms → All (GoesTo n) ms
go_nowhere n ms u = All-weaker IsUnlabeled (GoesTo n) (λ m e. nowhere (λ label. IsLabel n label × IsFar m.line.instruction) m.line.label e) ms u
  where
    nowhere : (P : ℕ → Type 0) (label : Option ℕ) → label ≡ None → IfSome label P
    nowhere P None e = tt
    nowhere P (Some l) e = absurd (cc)

quiet_all : (is : List Instruction) → All IsUnlabeled (map quiet is)
quiet_all [] = All-nil IsUnlabeled
quiet_all (i ∷ is) = All-cons IsUnlabeled (quiet i) (map quiet is) refl (quiet_all is)

first_all : (is : List Instruction) → All IsUnlabeled (first_commits 1 is)
first_all [] = All-nil IsUnlabeled
first_all (i ∷ is) = All-cons IsUnlabeled (commits 1 i) (map quiet is) refl (quiet_all is)

straight_all : (b : accesses.Straight) → All IsUnlabeled (accesses.lines b)
straight_all b =
    All-append IsUnlabeled (map quiet b.before) (commits 1 b.commit ∷ map quiet b.behind) (quiet_all b.before)
    (All-cons IsUnlabeled (commits 1 b.commit) (map quiet b.behind) refl (quiet_all b.behind))

test_all : (alone : Bool) (d : ℕ) → All IsUnlabeled (accesses.test_lines alone d)
test_all true d = All-from_recursion IsUnlabeled (accesses.shared_test d) (refl, (refl, (refl, (refl, (refl, tt)))))
test_all false d = All-from_recursion IsUnlabeled (accesses.any_test d) (refl, (refl, (refl, (refl, (refl, (refl, (refl, (refl, tt))))))))

straight_goes : (n : ℕ) (b : accesses.Straight) → All (GoesTo n) (accesses.lines b)
straight_goes n b = go_nowhere n (accesses.lines b) (straight_all b)

-- that of `shmalloc` alone goes anywhere
access_all : (n : ℕ) (operation : Option Operation) (d site : ℕ) → All (GoesTo n) (accesses.block_of operation d site)
access_all n (Some o.Take) d site = straight_goes n (accesses.take_block d)
access_all n (Some (o.Check alone)) d site =
    go_nowhere n (accesses.check_block alone d site)
    (All-append IsUnlabeled (map quiet (load_number site)) (accesses.test_lines alone d) (quiet_all (load_number site)) (test_all alone d))
access_all n (Some o.Read) d site = straight_goes n (accesses.read_block d)
access_all n (Some o.Write) d site = straight_goes n (accesses.write_block d)
access_all n (Some (o.Combine by)) d site = straight_goes n (accesses.combine_block by d)
access_all n (Some o.PrintNumber) d site = straight_goes n (accesses.print_block accesses.number_device d)
access_all n (Some o.PrintByte) d site = straight_goes n (accesses.print_block accesses.byte_device d)
access_all n (Some o.Heap) d site = All-from_recursion (GoesTo n) (heap.hire_block d) (tt, ((inl (omega arith), (1, refl)), (tt, tt)))
access_all n operation d site = All-nil (GoesTo n)

expression_all : (globals : ℕ) (levels : Levels) (d : ℕ) (operation : Option Operation)
    → All IsUnlabeled (option_map_or (expressions.expression_block globals levels d) operation [])
expression_all globals levels d None = All-nil IsUnlabeled
expression_all globals levels d (Some operation) = first_all (expressions.expression_code globals levels d operation)

-- ---- lines with labels

-- what an operation goes to is there
abbrev Leads : (n back : ℕ) → CoreOp → Option Operation → Type 0
Leads n back op (Some (o.Branch onward)) = op.target < n
Leads n back op (Some (o.Enter arguments)) = (arguments ≤ most_privates) × (back < n)
Leads n back op (Some o.Begin) = op.target < n
Leads n back op (Some o.Seq) = op.target < n
Leads n back op (Some o.End) = op.target < n
Leads n back op (Some (o.Split by)) = op.target < n
Leads n back op (Some o.Shrink) = op.target < n
Leads n back op operation = Unit {0}

jump_goes : (n target : ℕ) → target < n → GoesTo n (f.jump_line target)
jump_goes n target lt = (inr (inr (omega arith, omega arith)), (0, refl))

jump_all : (n target : ℕ) → target < n → All (GoesTo n) (f.jump_block target)
jump_all n target lt = All-from_recursion (GoesTo n) (f.jump_block target) (jump_goes n target lt, tt)

arguments_all : (n : ℕ) (own : Bool) (arguments : ℕ) → arguments ≤ most_privates → All (GoesTo n) (calls.copies_by own arguments)
arguments_all n true zero le = All-nil (GoesTo n)
arguments_all n true (suc k) le =
    All-append (GoesTo n) (calls.copy_lines k) (calls.own_copies k) (All-from_recursion (GoesTo n) (calls.copy_lines k) (tt, (tt, tt)))
    (arguments_all n true k (omega arith))
arguments_all n false arguments le = All-from_recursion (GoesTo n) (calls.copies_by false arguments) ((inl (omega arith), (6, refl)), tt)

clears_all : (n : ℕ) (none : Bool) (clears : ℕ) → clears ≤ most_privates → All (GoesTo n) (calls.clears_by none clears)
clears_all n true clears few = All-nil (GoesTo n)
clears_all n false clears few = All-from_recursion (GoesTo n) (calls.clears_by false clears) ((inr (inl (omega arith, omega arith)), (6, refl)), tt)

flow_all : (n clears back : ℕ) (op : CoreOp) (operation : Option Operation) → clears ≤ most_privates → Leads n back op operation → All (GoesTo n) (flow.block_by clears back op operation)
flow_all n clears back op (Some (o.Branch onward)) few leads =
    All-from_recursion (GoesTo n) (f.branch_block onward op.depth op.target) (tt, (tt, (jump_goes n op.target leads, tt)))
flow_all n clears back op (Some (o.Leave gives true)) few leads =
    go_nowhere n (f.leave_block gives true op.depth)
    (All-append IsUnlabeled (first_commits 1 f.giving_back) (f.leaving_lines false gives op.depth) (first_all f.giving_back) (quiet_all (f.leaving gives op.depth)))
flow_all n clears back op (Some (o.Leave gives false)) few leads = go_nowhere n (f.leave_block gives false op.depth) (first_all (f.leaving gives op.depth))
flow_all n clears back op (Some (o.Enter arguments)) few leads =
    All-append (GoesTo n) (calls.depth_lines arguments op.depth op.site) (calls.word_lines clears arguments ++ calls.frame_lines back)
    (All-from_recursion (GoesTo n) (calls.depth_lines arguments op.depth op.site) (tt, (tt, (tt, (tt, (tt, (tt, (tt, tt))))))))
    (All-append (GoesTo n) (calls.word_lines clears arguments) (calls.frame_lines back)
    (All-append (GoesTo n) (calls.clears_by (clears == 0) clears) (calls.argument_lines clears arguments)
    (clears_all n (clears == 0) clears few) (arguments_all n (nat_le arguments (calls.most_own (clears == 0))) arguments leads.0))
    (All-from_recursion (GoesTo n) (calls.frame_lines back) (tt, (jump_goes n back leads.1, (tt, (tt, (tt, tt)))))))
flow_all n clears back op (Some o.Halt) few leads = All-from_recursion (GoesTo n) f.halt_block (tt, tt)
flow_all n clears back op operation few leads = All-nil (GoesTo n)

flow_block_all : (n clears back : ℕ) (op : CoreOp) → clears ≤ most_privates → (is_jump op ≡ true → op.target < n)
    → (is_jump op ≡ false → Leads n back op (operation_of op.kind op.number)) → All (GoesTo n) (flow.flow_block clears back op)
flow_block_all n clears back op few jumps leads = by (is_jump op) jumps leads
  where
    by : (jump : Bool) → (jump ≡ true → op.target < n) → (jump ≡ false → Leads n back op (operation_of op.kind op.number))
        → All (GoesTo n) (if jump then f.jump_block op.target else flow.block_by clears back op (operation_of op.kind op.number))
    by true jumps leads = jump_all n op.target (jumps refl)
    by false jumps leads = flow_all n clears back op (operation_of op.kind op.number) few (leads refl)

meet_all : (n : ℕ) (event : Event) (word size : ℕ) → All (GoesTo n) (group.meet_block event word size)
meet_all n event word size =
    go_nowhere n (group.meet_block event word size)
    (All-from_recursion IsUnlabeled (group.meet_block event word size) (refl, (refl, (refl, (refl, (refl, (refl, (refl, (refl, (refl, (refl, (refl, tt))))))))))))

-- the labels of the code that splits share
parts_low : (by : SplitKind) → splits.parts_label by ≤ splits.fork_label
parts_low split.IfElse = omega arith
parts_low split.Fork = omega arith
parts_low by = omega arith

-- where the frames of a group around a part end
frames_end_quiet : (count words : ℕ) → All IsUnlabeled (splits.frames_end count words)
frames_end_quiet count words = by (count == 1)
  where
    by : (first : Bool) → All IsUnlabeled (if first then splits.header_frames else splits.frames_sum words)
    by true = All-from_recursion IsUnlabeled splits.header_frames (refl, tt)
    by false =
        All-append IsUnlabeled (map quiet (add_number (32 + 4 * words) 10)) splits.found_line (quiet_all (add_number (32 + 4 * words) 10))
        (All-from_recursion IsUnlabeled splits.found_line (refl, tt))

end_goes : (n : ℕ) (levels : Levels) (target : ℕ) → GoesTo n (goes_to (Jal 0 0) (label_of target)) → (fork : Option ℕ) → All (GoesTo n) (splits.end_part_by fork levels target)
end_goes n levels target jump None = All-from_recursion (GoesTo n) (splits.outward_lines true (splits.last_level levels) target) (tt, (tt, (tt, (tt, (jump, tt)))))
end_goes n levels target jump (Some words) =
    All-append (GoesTo n) (splits.forked_front (splits.last_level levels)) (splits.frames_end levels.count words ++ splits.away_line target)
    (All-from_recursion (GoesTo n) (splits.forked_front (splits.last_level levels)) (tt, (tt, (tt, (tt, (tt, (tt, tt)))))))
    (All-append (GoesTo n) (splits.frames_end levels.count words) (splits.away_line target) (go_nowhere n (splits.frames_end levels.count words) (frames_end_quiet levels.count words))
    (All-from_recursion (GoesTo n) (splits.away_line target) (jump, tt)))

heading_quiet : (by : SplitKind) (levels : Levels) → All IsUnlabeled (splits.heading_lines by levels)
heading_quiet split.Fork levels = by (levels.count == 0)
  where
    by : (first : Bool) → All IsUnlabeled (if first then quiet (Sw 9 28 (at_value 60)) ∷ [] else [])
    by true = All-from_recursion IsUnlabeled (quiet (Sw 9 28 (at_value 60)) ∷ []) (refl, tt)
    by false = All-nil IsUnlabeled
heading_quiet split.IfAlone levels = All-nil IsUnlabeled
heading_quiet split.IfElse levels = All-nil IsUnlabeled
heading_quiet split.AndThen levels = All-nil IsUnlabeled
heading_quiet split.OrElse levels = All-nil IsUnlabeled
heading_quiet split.Loop levels = All-nil IsUnlabeled

group_all : (n back : ℕ) (levels : Levels) (op : CoreOp) (operation : Option Operation) → Leads n back op operation → All (GoesTo n) (group.block_by operation levels op.depth op.target op.site)
group_all n back levels op (Some o.Begin) leads =
    All-from_recursion (GoesTo n) (group.begin_block op.depth op.target) (tt, ((inl (omega arith), (1, refl)), (jump_goes n op.target leads, tt)))
group_all n back levels op (Some o.Agree) leads = All-from_recursion (GoesTo n) (group.agree_block op.depth) (tt, (tt, (tt, (tt, tt))))
group_all n back levels op (Some o.Farm) leads = All-from_recursion (GoesTo n) group.farm_block (tt, tt)
group_all n back levels op (Some o.Seq) leads =
    All-from_recursion (GoesTo n) (group.seq_block op.target) (tt, (tt, (tt, (tt, (tt, (jump_goes n op.target leads, (tt, tt)))))))
group_all n back levels op (Some o.End) leads = by (levels.count == 0)
  where
    by : (start : Bool) → All (GoesTo n) (if start then group.end_block op.target else splits.end_part_block levels op.target)
    by true = All-from_recursion (GoesTo n) (group.end_block op.target) (tt, (tt, (tt, (tt, (tt, (tt, (jump_goes n op.target leads, tt)))))))
    by false = end_goes n levels op.target (jump_goes n op.target leads) levels.fork
group_all n back levels op (Some o.Resume) leads = meet_all n events.Resume 1 20
group_all n back levels op (Some (o.Meet false)) leads = meet_all n events.Meet 0 11
group_all n back levels op (Some (o.Meet true)) leads = meet_all n events.Meet 1 20
group_all n back levels op (Some (o.Frame nesting words)) leads =
    go_nowhere n (group.frame_block nesting words op.site)
    (All-append IsUnlabeled (map quiet (add_number (4 * words) 12)) (group.frame_lines nesting op.site) (quiet_all (add_number (4 * words) 12))
    (All-from_recursion IsUnlabeled (group.frame_lines nesting op.site) (refl, (refl, (refl, (refl, (refl, (refl, (refl, (refl, tt))))))))))
group_all n back levels op (Some o.Block) leads =
    go_nowhere n (group.shalloc_block op.depth)
    (All-from_recursion IsUnlabeled (group.shalloc_block op.depth)
    (refl, (refl, (refl, (refl, (refl, (refl, (refl, (refl, (refl, (refl, (refl, (refl, (refl, tt))))))))))))))
group_all n back levels op (Some (o.Split by)) leads =
    All-append (GoesTo n) (map quiet (splits.part_lines by op.depth)) (splits.behind_part by levels op.target op.site)
    (go_nowhere n (map quiet (splits.part_lines by op.depth)) (quiet_all (splits.part_lines by op.depth)))
    (All-append (GoesTo n) (splits.parting_lines (splits.parts_label by) (splits.level_word levels levels.count) op.target op.site) (splits.heading_lines by levels)
    (All-from_recursion (GoesTo n) (splits.parting_lines (splits.parts_label by) (splits.level_word levels levels.count) op.target op.site)
    (tt, ((inl (parts_low by), (1, refl)), (jump_goes n op.target leads, (tt, (tt, (tt, tt)))))))
    (go_nowhere n (splits.heading_lines by levels) (heading_quiet by levels)))
group_all n back levels op (Some o.Shrink) leads =
    All-append (GoesTo n) (splits.staying_lines op.depth) (splits.outward_lines false (splits.last_level levels) op.target ++ splits.size_line)
    (All-from_recursion (GoesTo n) (splits.staying_lines op.depth) (tt, (tt, (tt, (tt, (tt, (tt, tt)))))))
    (All-from_recursion (GoesTo n) (splits.outward_lines false (splits.last_level levels) op.target ++ splits.size_line)
    (tt, (tt, (tt, (tt, (jump_goes n op.target leads, (tt, tt)))))))
group_all n back levels op operation leads = All-nil (GoesTo n)

-- a jump is no operation, and so none that leads anywhere
leads_all : (n back : ℕ) (op : CoreOp) (jump : Bool) → is_jump op ≡ jump → (is_jump op ≡ false → Leads n back op (operation_of op.kind op.number))
    → Leads n back op (operation_of op.kind op.number)
leads_all n back op true j leads = subst (Leads n back op) (sym (jump_none op j)) tt
leads_all n back op false j leads = leads j

block_all : (n : ℕ) (p : Placed) → p.clears ≤ most_privates → (is_jump p.op ≡ true → p.op.target < n)
    → (is_jump p.op ≡ false → Leads n p.back p.op (operation_of p.op.kind p.op.number)) → All (GoesTo n) (block_of p)
block_all n p few jumps leads = by (kind_of p.op)
  where
    by : (kind : Kind) → All (GoesTo n) (block_in kind p)
    by Flow = flow_block_all n p.clears p.back p.op few jumps leads
    by Access = access_all n (operation_of p.op.kind p.op.number) p.op.depth p.op.site
    by Group = group_all n p.back p.levels p.op (operation_of p.op.kind p.op.number) (leads_all n p.back p.op (is_jump p.op) refl leads)
    by Expression = go_nowhere n _ (expression_all p.globals p.levels p.op.depth (operation_of p.op.kind p.op.number))

-- ---- in a list

leads_by : (core : List CoreOp) (kept : List Set) (saved : List Levels) (main : ℕ) (firsts : List ℕ) (i : ℕ) (op : CoreOp) (operation : Option Operation)
    → IsGenerable core kept saved main firsts → slice_get core i ≡ Some op → is_jump op ≡ false → operation_of op.kind op.number ≡ operation
    → Leads (length core) (back_by operation core i) op operation
leads_by core kept saved main firsts i op (Some (o.Branch onward)) is e quiet' read =
    is.blocks.targets i op (o.Branch onward) (record { stands = e; no_jump = quiet'; is_read = read }) refl
leads_by core kept saved main firsts i op (Some (o.Enter arguments)) is e quiet' read =
    let stands : OpAt core i op (o.Enter arguments) = record { stands = e; no_jump = quiet'; is_read = read } in
    ((is.suits.fits i op (o.Enter arguments) stands).goes_on.few, is.blocks.returns i op arguments stands)
leads_by core kept saved main firsts i op (Some o.Begin) is e quiet' read = is.blocks.targets i op o.Begin (record { stands = e; no_jump = quiet'; is_read = read }) refl
leads_by core kept saved main firsts i op (Some o.Seq) is e quiet' read = is.blocks.targets i op o.Seq (record { stands = e; no_jump = quiet'; is_read = read }) refl
leads_by core kept saved main firsts i op (Some o.End) is e quiet' read = is.blocks.targets i op o.End (record { stands = e; no_jump = quiet'; is_read = read }) refl
leads_by core kept saved main firsts i op (Some (o.Split split.IfAlone)) is e quiet' read = is.blocks.targets i op (o.Split split.IfAlone) (record { stands = e; no_jump = quiet'; is_read = read }) refl
leads_by core kept saved main firsts i op (Some (o.Split split.IfElse)) is e quiet' read = is.blocks.targets i op (o.Split split.IfElse) (record { stands = e; no_jump = quiet'; is_read = read }) refl
leads_by core kept saved main firsts i op (Some (o.Split split.AndThen)) is e quiet' read = is.blocks.targets i op (o.Split split.AndThen) (record { stands = e; no_jump = quiet'; is_read = read }) refl
leads_by core kept saved main firsts i op (Some (o.Split split.OrElse)) is e quiet' read = is.blocks.targets i op (o.Split split.OrElse) (record { stands = e; no_jump = quiet'; is_read = read }) refl
leads_by core kept saved main firsts i op (Some (o.Split split.Loop)) is e quiet' read = is.blocks.targets i op (o.Split split.Loop) (record { stands = e; no_jump = quiet'; is_read = read }) refl
leads_by core kept saved main firsts i op (Some (o.Split split.Fork)) is e quiet' read = is.blocks.targets i op (o.Split split.Fork) (record { stands = e; no_jump = quiet'; is_read = read }) refl
leads_by core kept saved main firsts i op (Some o.Shrink) is e quiet' read = is.blocks.targets i op o.Shrink (record { stands = e; no_jump = quiet'; is_read = read }) refl
leads_by core kept saved main firsts i op operation is e quiet' read = tt

jumps_to : (core : List CoreOp) (kept : List Set) (saved : List Levels) (main : ℕ) (firsts : List ℕ) (i : ℕ) (op : CoreOp) → IsGenerable core kept saved main firsts
    → slice_get core i ≡ Some op → is_jump op ≡ true → op.target < length core
jumps_to core kept saved main firsts i op is e jump = is.blocks.jumps i op e jump

pub op_goes : (core : List CoreOp) (kept : List Set) (saved : List Levels) (main : ℕ) (firsts : List ℕ) (globals i : ℕ) (op : CoreOp) → IsGenerable core kept saved main firsts
    → slice_get core i ≡ Some op → All (GoesTo (length core)) (block_of (placed core globals kept saved i op))
op_goes core kept saved main firsts globals i op is e =
    block_all (length core) (placed core globals kept saved i op) (few_clears (operation_of op.kind op.number) (slice_get kept (suc i))) (jumps_to core kept saved main firsts i op is e)
    (λ quiet'. leads_by core kept saved main firsts i op (operation_of op.kind op.number) is e quiet' refl)

-- ---- how many words

number_few : (short : Bool) (n : ℕ) → length (load_by short n) ≤ 2
number_few true n = omega arith
number_few false n = omega arith

test_few : (alone : Bool) (d : ℕ) → length (accesses.test_lines alone d) ≤ 8
test_few true d = omega arith
test_few false d = omega arith

access_length : (operation : Option Operation) (d site : ℕ) → length (accesses.block_of operation d site) ≤ 15
access_length (Some o.Take) d site = omega arith
access_length (Some (o.Check alone)) d site =
    let all = length-append (map quiet (load_number site)) (accesses.test_lines alone d) in
    let same = length-map (load_number site) quiet in
    let number = number_few (high_part site == 0) site in
    let test = test_few alone d in
    omega arith
access_length (Some o.Read) d site = omega arith
access_length (Some o.Write) d site = omega arith
access_length (Some (o.Combine by)) d site = omega arith
access_length (Some o.PrintNumber) d site = omega arith
access_length (Some o.PrintByte) d site = omega arith
access_length (Some o.Heap) d site = omega arith
access_length operation d site = omega arith

access_words : (operation : Option Operation) (d site : ℕ) → length (accesses.block_of operation d site) ≤ words_by operation
access_words (Some (o.Enter arguments)) d site = omega arith
access_words operation d site = access_length operation d site

first_length : (is : List Instruction) → length (first_commits 1 is) ≡ length is
first_length [] = refl
first_length (i ∷ is) = ap suc (length-map is quiet)

join_length : (d : ℕ) (sign : Op) (first second : ℕ) → length (expressions.join_code d sign first second) ≤ 15
join_length d op.LeS first second = omega arith
join_length d op.LeU first second = omega arith
join_length d op.Eq first second = omega arith
join_length d op.Ne first second = omega arith
join_length d op.MinS first second = omega arith
join_length d op.MaxS first second = omega arith
join_length d op.MinU first second = omega arith
join_length d op.MaxU first second = omega arith
join_length d sign first second = omega arith

push_length : (d n : ℕ) → length (expressions.push_number d n) ≤ 15
push_length d n =
    let all = length-append (load_number n) (result t0 (d + 1) ∷ []) in
    let number = number_few (high_part n == 0) n in
    omega arith

index_length : (d size : ℕ) (is_word : Bool) (a b c s : Instruction) → length (a ∷ b ∷ (expressions.times_size is_word size ++ c ∷ s ∷ [])) ≤ 15
index_length d size true a b c s = omega arith
index_length d size false a b c s = omega arith

sum_few : (short : Bool) (n register : ℕ) → length (add_by short n register) ≤ 3
sum_few true n register = omega arith
sum_few false n register = omega arith

frame_length : (own : Bool) (levels : Levels) (d nesting word : ℕ) → length (if own then expressions.own_address d word else expressions.part_address levels d nesting word) ≤ 15
frame_length true levels d nesting word =
    let all = length-append (add_number (4 * word) group_frame_register) (result t0 (d + 1) ∷ []) in
    let sum = sum_few (high_part (4 * word) == 0) (4 * word) group_frame_register in
    omega arith
frame_length false levels d nesting word =
    let all = length-append (add_number (expressions.past_header word) t1) (result t0 (d + 1) ∷ []) in
    let sum = sum_few (high_part (expressions.past_header word) == 0) (expressions.past_header word) t1 in
    omega arith

get_length : (globals : ℕ) (levels : Levels) (d : ℕ) (which : OwnValue) → length (expressions.get_code globals levels d which) ≤ 15
get_length globals levels d (known.Value variable) = omega arith
get_length globals levels d known.Rank = omega arith
get_length globals levels d known.GroupNumber = omega arith
get_length globals levels d known.GroupSize = omega arith
get_length globals levels d known.ProcessorNumber = omega arith
get_length globals levels d known.Processors = omega arith
get_length globals levels d known.InputLength = omega arith
get_length globals levels d known.InputAddress = push_length d (address_of globals)
get_length globals levels d (known.FrameAddress nesting word) = frame_length (nesting == 0) levels d nesting word

code_length : (globals : ℕ) (levels : Levels) (d : ℕ) (operation : Operation) → length (expressions.expression_code globals levels d operation) ≤ words_by (Some operation)
code_length globals levels d (o.Push n) = push_length d n
code_length globals levels d (o.Get which) = get_length globals levels d which
code_length globals levels d (o.Set variable) = omega arith
code_length globals levels d o.DropLast = omega arith
code_length globals levels d o.CopyLast = omega arith
code_length globals levels d (o.Apply sign) = omega arith
code_length globals levels d (o.Binary sign false) = join_length d sign t0 t1
code_length globals levels d (o.Binary sign true) = join_length d sign t1 t0
code_length globals levels d (o.Index size) =
    index_length d size (size == 4) (operand t0 (d - 1)) (operand t1 d) (Add t0 t0 t1) (result t0 (d - 1))
code_length globals levels d operation = omega arith

expression_words : (globals : ℕ) (levels : Levels) (d : ℕ) (operation : Option Operation)
    → length (option_map_or (expressions.expression_block globals levels d) operation []) ≤ words_by operation
expression_words globals levels d None = omega arith
expression_words globals levels d (Some operation) =
    let same = first_length (expressions.expression_code globals levels d operation) in
    let few = code_length globals levels d operation in
    omega arith

own_length : (n : ℕ) → length (calls.own_copies n) ≡ 2 * n
own_length zero = refl
own_length (suc n) = let e = own_length n in omega arith

arguments_few : (own : Bool) (most arguments : ℕ) → most ≤ 1 → nat_le arguments most ≡ own → length (calls.copies_by own arguments) ≤ suc most
arguments_few true most arguments le e = let few = leb-true arguments most e in let all = own_length arguments in omega arith
arguments_few false most arguments le e = omega arith

-- a call that clears copies by shared code
few_words : (none : Bool) (clears arguments : ℕ) → length (calls.clears_by none clears) + length (calls.copies_by (nat_le arguments (calls.most_own none)) arguments) ≤ 2
few_words true clears arguments = let few = arguments_few (nat_le arguments 1) 1 arguments (omega arith) refl in omega arith
few_words false clears arguments = let few = arguments_few (nat_le arguments 0) 0 arguments (omega arith) refl in omega arith

flow_words : (clears back : ℕ) (op : CoreOp) (operation : Option Operation) → length (flow.block_by clears back op operation) ≤ words_by operation
flow_words clears back op (Some (o.Branch onward)) = omega arith
flow_words clears back op (Some (o.Leave true true)) = omega arith
flow_words clears back op (Some (o.Leave true false)) = omega arith
flow_words clears back op (Some (o.Leave false true)) = omega arith
flow_words clears back op (Some (o.Leave false false)) = omega arith
flow_words clears back op (Some (o.Enter arguments)) =
    let all = length-append (calls.word_lines clears arguments) (calls.frame_lines back) in
    let both = length-append (calls.clears_by (clears == 0) clears) (calls.argument_lines clears arguments) in
    let few = few_words (clears == 0) clears arguments in
    omega arith
flow_words clears back op (Some o.Halt) = omega arith
flow_words clears back op operation = omega arith

split_words : (by : SplitKind) (levels : Levels) (d target site : ℕ) → length (splits.split_block by levels d target site) ≤ 15
split_words split.IfAlone levels d target site = omega arith
split_words split.IfElse levels d target site = omega arith
split_words split.AndThen levels d target site = omega arith
split_words split.OrElse levels d target site = omega arith
split_words split.Loop levels d target site = omega arith
split_words split.Fork levels d target site = by (levels.count == 0)
  where
    by : (first : Bool) → suc (suc (suc (suc (suc (suc (suc (suc (suc (length (if first then quiet (Sw 9 28 (at_value 60)) ∷ [] else [])))))))))) ≤ 15
    by true = omega arith
    by false = omega arith

end_words : (fork : Option ℕ) (levels : Levels) (target : ℕ) → length (splits.end_part_by fork levels target) ≤ 15
end_words None levels target = omega arith
end_words (Some words) levels target =
    let all = length-append (splits.frames_end levels.count words) (splits.away_line target) in
    let few = frames_few (levels.count == 1) in
    omega arith
  where
    frames_few : (first : Bool) → length (if first then splits.header_frames else splits.frames_sum words) ≤ 4
    frames_few true = omega arith
    frames_few false =
        let both = length-append (map quiet (add_number (32 + 4 * words) 10)) splits.found_line in
        let same = length-map (add_number (32 + 4 * words) 10) quiet in
        let sum = sum_few (high_part (32 + 4 * words) == 0) (32 + 4 * words) 10 in
        omega arith

group_words : (operation : Option Operation) (levels : Levels) (d target site : ℕ) → length (group.block_by operation levels d target site) ≤ words_by operation
group_words (Some o.Begin) levels d target site = omega arith
group_words (Some o.Agree) levels d target site = omega arith
group_words (Some o.Farm) levels d target site = omega arith
group_words (Some o.Seq) levels d target site = omega arith
group_words (Some o.End) levels d target site = by (levels.count == 0)
  where
    by : (start : Bool) → length (if start then group.end_block target else splits.end_part_block levels target) ≤ 15
    by true = omega arith
    by false = end_words levels.fork levels target
group_words (Some (o.Split by)) levels d target site = split_words by levels d target site
group_words (Some o.Shrink) levels d target site = omega arith
group_words (Some o.Resume) levels d target site = omega arith
group_words (Some (o.Meet false)) levels d target site = omega arith
group_words (Some (o.Meet true)) levels d target site = omega arith
group_words (Some (o.Frame nesting words)) levels d target site =
    let all = length-append (map quiet (add_number (4 * words) 12)) (group.frame_lines nesting site) in
    let same = length-map (add_number (4 * words) 12) quiet in
    let sum = sum_few (high_part (4 * words) == 0) (4 * words) 12 in
    omega arith
group_words (Some o.Block) levels d target site = omega arith
group_words operation levels d target site = omega arith

words_of : (jump : Bool) (p : Placed) (operation : Option Operation) → is_jump p.op ≡ jump → operation_of p.op.kind p.op.number ≡ operation
    → length (block_in (kind_by (jump || flow.is_some_flow operation) (accesses.is_access operation) (group.is_group_step operation)) p)
    ≤ (if jump then 1 else words_by operation)
words_of true p operation j read = rw j (omega arith)
words_of false p operation j read = by (kind_by (flow.is_some_flow operation) (accesses.is_access operation) (group.is_group_step operation))
  where
    by : (kind : Kind) → length (block_in kind p) ≤ words_by operation
    by Flow = rw (j, read) (flow_words p.clears p.back p.op operation)
    by Access = rw read (access_words operation p.op.depth p.op.site)
    by Group = rw read (group_words operation p.levels p.op.depth p.op.target p.op.site)
    by Expression = rw read (expression_words p.globals p.levels p.op.depth operation)

block_words : (p : Placed) → length (block_of p) ≤ most_words p.op
block_words p = words_of (is_jump p.op) p (operation_of p.op.kind p.op.number) refl refl

pub all_words : (core : List CoreOp) (globals : ℕ) (kept : List Set) (saved : List Levels) (k : ℕ) (ops : List CoreOp) → length (flat_map block_of (placed_from core globals kept saved k ops)) ≤ sum_by most_words ops
all_words core globals kept saved k [] = omega arith
all_words core globals kept saved k (op ∷ ops) =
    let rest = all_words core globals kept saved (suc k) ops in
    let sum = length-append (block_of (placed core globals kept saved k op)) (flat_map block_of (placed_from core globals kept saved (suc k) ops)) in
    let most = sum_by-cons most_words op ops in
    let one = block_words (placed core globals kept saved k op) in
    omega (arith, rest, sum, most, one)

-- ---- the opening

firsts_all : (i : ℕ) (firsts : List ℕ) → All IsUnlabeled (first_lines i firsts)
firsts_all i [] = All-nil IsUnlabeled
firsts_all i (v ∷ firsts) =
    All-append IsUnlabeled (first_line i v) (first_lines (suc i) firsts)
    (All-from_recursion IsUnlabeled (first_line i v) (refl, (refl, (refl, tt)))) (firsts_all (suc i) firsts)

registers_all : (of_file : ℕ) → All IsUnlabeled (register_lines of_file)
registers_all of_file =
    All-from_recursion IsUnlabeled (register_lines of_file)
    (refl, (refl, (refl, (refl, (refl, (refl, (refl, (refl, (refl, (refl, (refl, (refl, (refl, (refl, tt))))))))))))))

pub opening_goes : (n of_file : ℕ) (firsts : List ℕ) (main : ℕ) → main < n → All (GoesTo n) (opening_lines of_file firsts main)
opening_goes n of_file firsts main lt =
    All-append (GoesTo n) (register_lines of_file ++ first_lines 0 firsts) (f.jump_block main)
    (go_nowhere n (register_lines of_file ++ first_lines 0 firsts)
    (All-append IsUnlabeled (register_lines of_file) (first_lines 0 firsts) (registers_all of_file) (firsts_all 0 firsts)))
    (jump_all n main lt)

firsts_length : (i : ℕ) (firsts : List ℕ) → length (first_lines i firsts) ≡ 3 * length firsts
firsts_length i [] = refl
firsts_length i (v ∷ firsts) = let rest = firsts_length (suc i) firsts in omega arith

pub opening_length : (of_file : ℕ) (firsts : List ℕ) (main : ℕ) → length (opening_lines of_file firsts main) ≡ 3 * length firsts + 15
opening_length of_file firsts main =
    let sum = length-append (register_lines of_file ++ first_lines 0 firsts) (f.jump_block main) in
    let sum' = length-append (register_lines of_file) (first_lines 0 firsts) in
    let firsts' = firsts_length 0 firsts in
    omega arith

-- ---- the code that beginnings of `start` share, and that of `shmalloc`

pub start_goes : (n globals : ℕ) → All (GoesTo n) (group.start_lines globals)
start_goes n globals =
    go_nowhere n (group.start_lines globals)
    (All-append IsUnlabeled group.meet_lines (group.telling_lines ++ (group.size_lines ++ group.parting_lines globals))
    (All-from_recursion IsUnlabeled group.meet_lines (refl, (refl, (refl, (refl, (refl, (refl, (refl, (refl, (refl, (refl, (refl, tt))))))))))))
    (All-append IsUnlabeled group.telling_lines (group.size_lines ++ group.parting_lines globals)
    (All-from_recursion IsUnlabeled group.telling_lines (refl, (refl, tt)))
    (All-append IsUnlabeled group.size_lines (group.parting_lines globals)
    (All-from_recursion IsUnlabeled group.size_lines (refl, (refl, (refl, (refl, (refl, (refl, (refl, (refl, tt)))))))))
    (All-from_recursion IsUnlabeled (group.parting_lines globals) (refl, (refl, (refl, (refl, (refl, (refl, (refl, (refl, (refl, (refl, (refl, (refl, (refl, (refl, tt))))))))))))))))))

pub heap_goes : (n globals : ℕ) → All (GoesTo n) (heap.heap_lines globals)
heap_goes n globals =
    let adding = map quiet heap.add_up ++ commits 1 heap.tell ∷ [] in
    let giving = map quiet heap.give ++ quiet heap.back ∷ [] in
    go_nowhere n (heap.heap_lines globals)
    (All-append IsUnlabeled (map quiet heap.ask) (adding ++ (map quiet (heap.find_end globals) ++ giving)) (quiet_all heap.ask)
    (All-append IsUnlabeled adding (map quiet (heap.find_end globals) ++ giving)
    (All-append IsUnlabeled (map quiet heap.add_up) (commits 1 heap.tell ∷ []) (quiet_all heap.add_up) (All-cons IsUnlabeled (commits 1 heap.tell) [] refl (All-nil IsUnlabeled)))
    (All-append IsUnlabeled (map quiet (heap.find_end globals)) giving (quiet_all (heap.find_end globals))
    (All-append IsUnlabeled (map quiet heap.give) (quiet heap.back ∷ []) (quiet_all heap.give) (All-cons IsUnlabeled (quiet heap.back) [] refl (All-nil IsUnlabeled))))))

-- ---- the code that splits share

pub one_part_goes : (n : ℕ) → All (GoesTo n) splits.one_part_lines
one_part_goes n =
    go_nowhere n splits.one_part_lines
    (All-from_recursion IsUnlabeled splits.one_part_lines
    (refl, (refl, (refl, (refl, (refl, (refl, (refl, (refl, (refl, (refl, (refl, (refl, (refl, (refl, (refl, (refl, (refl, (refl, (refl, (refl, (refl, (refl, tt)))))))))))))))))))))))

pub fork_goes : (n : ℕ) → All (GoesTo n) splits.fork_lines
fork_goes n =
    go_nowhere n splits.fork_lines
    (All-from_recursion IsUnlabeled splits.fork_lines
    (refl, (refl, (refl, (refl, (refl, (refl, (refl, (refl, (refl, (refl, (refl, (refl, (refl, (refl, (refl, (refl, (refl, (refl, (refl, (refl, (refl, (refl, (refl, (refl, (refl, (refl, (refl, (refl, (refl, (refl, (refl, (refl, (refl, (refl, (refl, (refl, (refl, (refl, (refl, (refl, tt)))))))))))))))))))))))))))))))))))))))))

pub two_parts_goes : (n : ℕ) → All (GoesTo n) splits.two_parts_lines
two_parts_goes n =
    go_nowhere n splits.two_parts_lines
    (All-from_recursion IsUnlabeled splits.two_parts_lines
    (refl, (refl, (refl, (refl, (refl, (refl, (refl, (refl, (refl, (refl, (refl, (refl, (refl, (refl, (refl, (refl, (refl, (refl, (refl, (refl, (refl, (refl, (refl, (refl, (refl, (refl, (refl, tt))))))))))))))))))))))))))))
