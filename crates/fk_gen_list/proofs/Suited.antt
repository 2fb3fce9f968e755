-- Lists that suit frames have blocks.
use Rattle.std.proofs.Common.{◌≡◌, ℕ, zero, suc, ◌+◌, ◌*◌, ◌^◌, ◌<◌, ◌≤◌, List, length, Bool, true, false, Option, Some, None, sym, ap, subst, ◌∙◌, arith, refl, ◌⊎◌, inl, inr, if◌then◌else◌}
use Rattle.std.specs.Prelude.{◌==◌, ◌||◌, IsSomeAnd, option_map, slice_get}
use Rattle.std.proofs.lemmas.Bool.{eqb-true}
use Rattle.fk_meaning_operation.specs.declared.operation.OwnValue.TheVariants.{Value, Rank, GroupNumber, ProcessorNumber, Processors, GroupSize, InputLength, FrameAddress, InputAddress}
use Rattle.fk_meaning_operation.specs.declared.operation.Multiprefix.{Multiprefix}
use Rattle.fk_meaning_operation.specs.declared.operation.Operation.{Operation}
use Rattle.fk_meaning_operation.specs.declared.operation.Operation.TheVariants.{Push, Get, Set, DropLast, CopyLast, Apply, Binary, Index, Branch, Enter, Leave, Combine, Halt, Begin, Agree, Farm, Seq, End, Resume, Meet, Frame, Block, Split, Shrink}
use Rattle.fk_meaning_operation.specs.declared.operation.Variable.TheVariants.{Private, OfFile}
use Rattle.fk_meaning_operation.specs.declared.kinds.Class.{Class}
use Rattle.fk_meaning_operation.specs.declared.kinds.Class.TheVariants.{Local, Request, Tree}
use Rattle.fk_meaning_operation.specs.Kinds.{class_of_kind, multiprefix_of}
use Rattle.fk_core.specs.declared.op.CoreOp.{CoreOp}
use Rattle.fk_core.specs.Next.{is_jump}
use Rattle.fk_core.specs.Numbers.{operation_of, operation_by, local_of, request_of, tree_step_of}
use Rattle.fk_sim_block.specs.Stands.{Frames, HasRoom}
use Rattle.fk_sim_block.specs.Next.{OpAt}
use Rattle.fk_sim_block.specs.Ready.{is_alone}
use Rattle.fk_sim_block.specs.Suits.{Fits, IsThere}
use Rattle.fk_gen_expr.specs.Expressions.{IsExpression}
use Rattle.fk_gen_access.specs.Blocks.{is_access}
use Rattle.fk_gen_flow.specs.Blocks.{is_flow, is_some_flow, HasOperands}
use Rattle.fk_gen.specs.declared.placed.Levels.{Levels}
use Rattle.fk_gen_flow.specs.Calls.{most_privates}
use Rattle.fk_gen_group.specs.Blocks.{is_group_step, HasWords, HasLevelWords, HasSplitValues}
use Rattle.fk_gen_list.specs.declared.kind.Kind.TheVariants.{Group}
use Rattle.fk_gen_list.specs.Kinds.{kind_of, kind_by, HasBlockIn, HasBlockOf}
use Rattle.fk_gen_list.specs.Layout.{back_by}
use Rattle.fk_gen_list.specs.Generable.{HasOwnBlock, HasBlocks}

-- ---- the size of an index is the number of its operation

-- the size of an index, and of what is none a number
abbrev pub size_or : ℕ → Option Operation → ℕ
size_or n (Some (Index m)) = m
size_or n o = n

by_test : (n : ℕ) (b : Bool) (x y : Option Operation) → size_or n x ≡ n → size_or n y ≡ n → size_or n (if b then x else y) ≡ n
by_test n true x y p q = p
by_test n false x y p q = q

by_prefix : (n : ℕ) (by : Option Multiprefix) → size_or n (option_map (λ m. Combine m) by) ≡ n
by_prefix n None = refl
by_prefix n (Some m) = refl

local_size : (kind n : ℕ) → size_or n (local_of kind n) ≡ n
local_size kind n =
    by_test n (kind == 1) _ _ refl (by_test n (kind == 2) _ _ refl (by_test n (kind == 3) _ _ refl (by_test n (kind == 4) _ _ refl (by_test n (kind == 5) _ _ refl (by_test n (kind == 6) _ _ refl (by_test n (kind == 7) _ _ refl (by_test n (kind == 8) _ _ refl (by_test n (kind == 9) _ _ refl (by_test n (kind == 10) _ _ refl (by_test n (kind == 11) _ _ refl (refl)))))))))))

request_size : (kind n : ℕ) → size_or n (request_of kind n) ≡ n
request_size kind n =
    by_test n (kind == 12) _ _ refl (by_test n (kind == 13) _ _ refl (by_test n (kind == 14) _ _ refl (by_test n (kind == 19) _ _ refl (by_test n (kind == 20) _ _ refl (by_test n (kind == 21) _ _ refl (by_test n (kind == 22) _ _ refl (by_prefix n (multiprefix_of kind))))))))

tree_size : (kind n : ℕ) → size_or n (tree_step_of kind n) ≡ n
tree_size kind n =
    by_test n (kind == 23) _ _ refl (by_test n (kind == 24) _ _ refl (by_test n (kind == 25) _ _ refl (by_test n (kind == 26) _ _ refl (by_test n (kind == 27) _ _ refl (by_test n (kind == 28) _ _ refl (by_test n (kind == 29) _ _ refl (by_test n (kind == 30) _ _ refl (by_test n (kind == 31) _ _ refl (by_test n (kind == 32) _ _ refl (by_test n (kind == 33) _ _ refl (by_test n (kind == 34) _ _ refl (refl))))))))))))

read_size : (c : Class) (kind n : ℕ) → size_or n (operation_by c kind n) ≡ n
read_size Local kind n = local_size kind n
read_size Request kind n = request_size kind n
read_size Tree kind n = tree_size kind n

size_is : (kind n m : ℕ) → operation_of kind n ≡ Some (Index m) → m ≡ n
size_is kind n m e = sym (ap (size_or n) e) ∙ read_size (class_of_kind kind) kind n

-- ---- the values of an operation

never : {A : Type 0} → false ≡ true → A
never e = absurd (cc)

pub shallow : (core : List CoreOp) (frames : Frames) (i : ℕ) (op : CoreOp) (operation : Operation) → Fits core frames i op operation → op.depth ≤ 56
shallow core frames i op operation fits = fits.few

one_more : (frames : Frames) (i depth : ℕ) → HasRoom frames i (suc depth) → depth < 64
one_more frames i depth room = let h = room.header in omega arith

at_most : (frames : Frames) (i depth : ℕ) → HasRoom frames i depth → depth ≤ 64
at_most frames i depth room = let h = room.header in omega arith

-- the words of levels that an operation reaches
abbrev pub HasNodeWords : Operation → Levels → Type 0
HasNodeWords (Get known) levels = levels.behind + 4 * levels.count ≤ 57
HasNodeWords operation levels = Unit {0}

pub node_words : (operation : Operation) (levels : Levels) → HasLevelWords (Some operation) levels → HasNodeWords operation levels
node_words (Get known) levels has = has
node_words operation levels has = tt

pub no_node_words : (operation : Operation) → HasNodeWords operation (record { count = 0; behind = 0; nest = 0; fork = None })
no_node_words (Get known) = omega arith
no_node_words operation = tt

-- a word of a group frame has a number
frame_word : (core : List CoreOp) (frames : Frames) (nesting word i : ℕ) → IsThere core frames (FrameAddress nesting word) i → word < 2 ^ 21
frame_word core frames zero word i there = there.1
frame_word core frames (suc part) word i there = there

-- the operations of expressions
pub has_expression : (core : List CoreOp) (frames : Frames) (i globals : ℕ) (levels : Levels) (op : CoreOp) (operation : Operation) → operation_of op.kind op.number ≡ Some operation
    → Fits core frames i op operation → frames.of_file ≤ 56 → op.number < 2 ^ 32 → globals ≤ 2 ^ 20 → HasNodeWords operation levels → is_alone operation ≡ true
    → is_flow operation ≡ false → is_access (Some operation) ≡ false → IsExpression globals levels op.depth operation
has_expression core frames i globals levels op (Push n) read fits few number some node alone f a = one_more frames i op.depth fits.place
has_expression core frames i globals levels op (Get (Value (Private w))) read fits few number some node alone f a =
    let k = fits.place.1.kept w fits.place.0 in
    (one_more frames i op.depth fits.place.1, omega arith)
has_expression core frames i globals levels op (Get (Value (OfFile w))) read fits few number some node alone f a =
    let lt = fits.place.0 in
    (one_more frames i op.depth fits.place.1, omega arith)
has_expression core frames i globals levels op (Get Rank) read fits few number some node alone f a = (one_more frames i op.depth fits.place.1, tt)
has_expression core frames i globals levels op (Get GroupNumber) read fits few number some node alone f a = (one_more frames i op.depth fits.place.1, tt)
has_expression core frames i globals levels op (Get ProcessorNumber) read fits few number some node alone f a = (one_more frames i op.depth fits.place.1, tt)
has_expression core frames i globals levels op (Get Processors) read fits few number some node alone f a = (one_more frames i op.depth fits.place.1, tt)
has_expression core frames i globals levels op (Get GroupSize) read fits few number some node alone f a = (one_more frames i op.depth fits.place.1, tt)
has_expression core frames i globals levels op (Get InputLength) read fits few number some node alone f a = (one_more frames i op.depth fits.place.1, tt)
has_expression core frames i globals levels op (Get InputAddress) read fits few number some node alone f a = (one_more frames i op.depth fits.place.1, some)
has_expression core frames i globals levels op (Get (FrameAddress nesting word)) read fits few number some node alone f a = (one_more frames i op.depth fits.place.1, (frame_word core frames nesting word i fits.place.0, node))
has_expression core frames i globals levels op (Set (Private w)) read fits few number some node alone f a =
    let p = fits.place in (fits.values, at_most frames i op.depth fits.room, omega arith)
has_expression core frames i globals levels op (Set (OfFile w)) read fits few number some node alone f a =
    let p = fits.place in (fits.values, at_most frames i op.depth fits.room, omega arith)
has_expression core frames i globals levels op DropLast read fits few number some node alone f a = tt
has_expression core frames i globals levels op CopyLast read fits few number some node alone f a = (fits.values, one_more frames i op.depth fits.place)
has_expression core frames i globals levels op (Apply sign) read fits few number some node alone f a = (fits.values, at_most frames i op.depth fits.room)
has_expression core frames i globals levels op (Binary sign turned) read fits few number some node alone f a = (fits.values, at_most frames i op.depth fits.room)
has_expression core frames i globals levels op (Index size) read fits few number some node alone f a =
    let e = size_is op.kind op.number size read in (fits.values, at_most frames i op.depth fits.room, omega arith)
has_expression core frames i globals levels op (Leave gives framed) read fits few number some node alone f a = never (sym f)
has_expression core frames i globals levels op operation read fits few number some node alone f a = absurd (cc)

-- the caller of a call goes on in the list
pub back_within : (core : List CoreOp) → HasBlocks core → (i : ℕ) (op : CoreOp) (o : Option Operation) → slice_get core i ≡ Some op → is_jump op ≡ false
    → operation_of op.kind op.number ≡ o → 0 < length core → back_by o core i < length core
back_within core blocks i op (Some (Enter n)) at no_jump read some = blocks.returns i op n (record { stands = at; no_jump = no_jump; is_read = read })
back_within core blocks i op o at no_jump read some = some

-- what a branch and a call ask for
pub has_operands : (core : List CoreOp) (frames : Frames) (i back : ℕ) (op : CoreOp) (operation : Operation) → OpAt core i op operation
    → Fits core frames i op operation → HasBlocks core → length core < 2 ^ 31 → back < 2 ^ 31 → HasOperands op.depth op.target back (Some operation)
has_operands core frames i back op (Branch onward) stands fits blocks short near =
    let there : op.target < length core = blocks.targets i op (Branch onward) stands refl in omega arith
has_operands core frames i back op (Enter n) stands fits blocks short near = (fits.values, near)
has_operands core frames i back op operation stands fits blocks short near = tt

-- ---- steps of groups

-- what processors do alone is none
pub alone_is_no_step : (operation : Operation) → is_alone operation ≡ true → is_group_step (Some operation) ≡ false
alone_is_no_step Begin alone = never alone
alone_is_no_step Agree alone = never alone
alone_is_no_step Farm alone = never alone
alone_is_no_step Seq alone = never alone
alone_is_no_step End alone = never alone
alone_is_no_step Resume alone = never alone
alone_is_no_step (Meet closing) alone = never alone
alone_is_no_step (Frame nesting words) alone = never alone
alone_is_no_step Block alone = never alone
alone_is_no_step (Split by) alone = never alone
alone_is_no_step Shrink alone = never alone
alone_is_no_step operation alone = refl

-- and a step has its own kind
pub step_kind : (operation : Operation) → is_group_step (Some operation) ≡ true → kind_by (is_flow operation) (is_access (Some operation)) (is_group_step (Some operation)) ≡ Group
step_kind Begin step = refl
step_kind Agree step = refl
step_kind Farm step = refl
step_kind Seq step = refl
step_kind End step = refl
step_kind Resume step = refl
step_kind (Meet closing) step = refl
step_kind (Frame nesting words) step = refl
step_kind Block step = refl
step_kind (Split by) step = refl
step_kind Shrink step = refl
step_kind operation step = never step

-- ---- all of them

pub kind_here : (core : List CoreOp) (i : ℕ) (op : CoreOp) (operation : Operation) → OpAt core i op operation
    → kind_of op ≡ kind_by (is_flow operation) (is_access (Some operation)) (is_group_step (Some operation))
kind_here core i op operation stands =
    ap (λ b. kind_by (b || is_some_flow (operation_of op.kind op.number)) (is_access (operation_of op.kind op.number)) (is_group_step (operation_of op.kind op.number))) stands.no_jump
    ∙ ap (λ o. kind_by (is_some_flow o) (is_access o) (is_group_step o)) stands.is_read

no_halt : (operation : Operation) → (is_alone operation ≡ true) ⊎ (operation ≡ Halt) → is_flow operation ≡ false → is_alone operation ≡ true
no_halt operation (inl alone) f = alone
no_halt operation (inr e) f = never (sym f ∙ ap is_flow e)

-- the words of a frame have a number
frame_words : (core : List CoreOp) (frames : Frames) (i : ℕ) (op : CoreOp) (operation : Operation) → Fits core frames i op operation → HasWords (Some operation)
frame_words core frames i op (Frame nesting words) fits = fits.place
frame_words core frames i op operation fits = tt

module _ (core : List CoreOp) (frames : Frames) (i globals : ℕ) (op : CoreOp) (operation : Operation) (clears back : ℕ) (levels : Levels) (few_clears : clears ≤ most_privates) where
  has_by : (flow access : Bool) → is_flow operation ≡ flow → is_access (Some operation) ≡ access → OpAt core i op operation
      → Fits core frames i op operation → frames.of_file ≤ 56 → op.number < 2 ^ 32 → HasOperands op.depth op.target back (Some operation)
      → globals ≤ 2 ^ 20 → HasNodeWords operation levels → (is_alone operation ≡ true) ⊎ (operation ≡ Halt) → HasBlockIn (kind_by flow access false) (record { op = op; globals = globals; clears = clears; back = back; levels = levels })
  has_by true access f a stands fits few number operands some node alone = record {
    kind = inr (ap is_some_flow stands.is_read ∙ f);
    depth = λ e. shallow core frames i op operation fits;
    jump = λ e. never (sym stands.no_jump ∙ e);
    operands = subst (HasOperands op.depth op.target back) (sym stands.is_read) operands;
    clears = few_clears;
  }
  has_by false true f a stands fits few number operands some node alone = record {
    access = ap is_access stands.is_read ∙ a;
    depth = shallow core frames i op operation fits;
  }
  has_by false false f a stands fits few number operands some node alone =
      subst (λ o. IsSomeAnd o (IsExpression globals levels op.depth)) (sym stands.is_read)
      (has_expression core frames i globals levels op operation stands.is_read fits few number some node (no_halt operation alone f) f a)

  -- the kind of one that is no step of a group
  lone_has : is_group_step (Some operation) ≡ false → OpAt core i op operation → Fits core frames i op operation → frames.of_file ≤ 56 → op.number < 2 ^ 32
      → HasOperands op.depth op.target back (Some operation) → globals ≤ 2 ^ 20 → HasNodeWords operation levels → (is_alone operation ≡ true) ⊎ (operation ≡ Halt)
      → HasBlockOf (record { op = op; globals = globals; clears = clears; back = back; levels = levels })
  lone_has no_step stands fits few number operands some node alone =
      subst (λ k. HasBlockIn k (record { op = op; globals = globals; clears = clears; back = back; levels = levels }))
      (sym (kind_here core i op operation stands ∙ ap (kind_by (is_flow operation) (is_access (Some operation))) no_step))
      (has_by (is_flow operation) (is_access (Some operation)) refl refl stands fits few number operands some node alone)

  -- an operation that suits frames has a block
  pub has_block_of : OpAt core i op operation → Fits core frames i op operation → frames.of_file ≤ 56 → op.number < 2 ^ 32 → HasOperands op.depth op.target back (Some operation)
      → globals ≤ 2 ^ 20 → (is_group_step (Some operation) ≡ true → op.target < 2 ^ 31) → HasLevelWords (Some operation) levels → HasSplitValues (Some operation) op.depth → HasOwnBlock operation
      → HasBlockOf (record { op = op; globals = globals; clears = clears; back = back; levels = levels })
  has_block_of stands fits few number operands some near room values (inl alone) =
      lone_has (alone_is_no_step operation alone) stands fits few number operands some (node_words operation levels room) (inl alone)
  has_block_of stands fits few number operands some near room values (inr (inl halt)) =
      lone_has (ap (λ o. is_group_step (Some o)) halt) stands fits few number operands some (node_words operation levels room) (inr halt)
  has_block_of stands fits few number operands some near room values (inr (inr step)) =
      subst (λ k. HasBlockIn k (record { op = op; globals = globals; clears = clears; back = back; levels = levels })) (sym (kind_here core i op operation stands ∙ step_kind operation step))
      (record {
        kind = ap is_group_step stands.is_read ∙ step;
        depth = shallow core frames i op operation fits;
        target = near step;
        words = subst HasWords (sym stands.is_read) (frame_words core frames i op operation fits);
        values = subst (λ o. HasSplitValues o op.depth) (sym stands.is_read) values;
        levels = subst (λ o. HasLevelWords o levels) (sym stands.is_read) room;
      })

-- a jump is no operation
pub jump_none : (op : CoreOp) → is_jump op ≡ true → operation_of op.kind op.number ≡ None
jump_none op jump = ap (λ k. operation_of k op.number) (eqb-true op.kind 0 jump)

-- but it has a block
pub jump_has : (op : CoreOp) (globals clears back : ℕ) (levels : Levels) → clears ≤ most_privates → is_jump op ≡ true → op.target < 2 ^ 31
    → HasBlockOf (record { op = op; globals = globals; clears = clears; back = back; levels = levels })
jump_has op globals clears back levels few jump target =
    let e = ap (λ b. kind_by (b || is_some_flow (operation_of op.kind op.number)) (is_access (operation_of op.kind op.number)) (is_group_step (operation_of op.kind op.number))) jump in
    subst (λ k. HasBlockIn k (record { op = op; globals = globals; clears = clears; back = back; levels = levels })) (sym e)
    (record {
      kind = inl jump;
      depth = λ no. never (sym no ∙ jump);
      jump = λ yes. target;
      operands = subst (HasOperands op.depth op.target back) (sym (jump_none op jump)) tt;
      clears = few;
    })
