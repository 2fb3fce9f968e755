-- The steps of the tree of groups: the effect on each member, the branch that it takes, and the
-- effect on the tree.
use Rattle.std.specs.Prelude.{ℕ, zero, suc, ◌==◌, ◌^◌, nat_lt, min, Bool, true, false, not, List}
use Rattle.std.specs.Prelude.{◌∷◌, length, Option, Some, None, is_some, if◌then◌else◌}
use Rattle.fk_num.specs.Word.{put}
use Rattle.fk_space.specs.Space.{Space, share, child, frame, block}
use Rattle.fk_tree.specs.Tree as t
use Rattle.fk_meaning_operation.specs.declared.operation.SplitKind.{SplitKind}
use Rattle.fk_meaning_operation.specs.declared.operation.SplitKind.TheVariants.{IfAlone, IfElse}
use Rattle.fk_meaning_operation.specs.declared.operation.SplitKind.TheVariants.{AndThen, OrElse}
use Rattle.fk_meaning_operation.specs.declared.operation.SplitKind.TheVariants.{Loop, Fork}
use Rattle.fk_meaning_operation.specs.declared.operation.Operation.{Operation}
use Rattle.fk_meaning_operation.specs.declared.operation.Operation.TheVariants.{Begin, Agree, Frame}
use Rattle.fk_meaning_operation.specs.declared.operation.Operation.TheVariants.{Block, Split}
use Rattle.fk_meaning_operation.specs.declared.operation.Operation.TheVariants.{Shrink, End, Resume}
use Rattle.fk_meaning_operation.specs.declared.operation.Operation.TheVariants.{Farm, Seq, Meet}
use Rattle.fk_meaning_store.specs.Store.{address_of}
use Rattle.fk_meaning_store.specs.Serve.{words_of}
use Rattle.fk_meaning.specs.Processor.{Level, Processor, values, with_values, with_space, last}
use Rattle.fk_meaning.specs.Processor.{before, drop_last, in_place, enter_level, leave_level}

-- a word read as a signed number, or 0 if that is below 0
abbrev pub not_negative : ℕ → ℕ
not_negative v = if nat_lt v (2 ^ 31) then v else 0

-- the number of parts of a split; for a `fork` it is the value before the last two
abbrev pub parts : SplitKind → (values : List ℕ) → ℕ
parts IfElse vs = 2
parts Fork vs = not_negative (last (before 2 vs))
parts by vs = 1

-- the part that a member enters, unless it waits
abbrev pub if_below : (i k : ℕ) → Option ℕ
if_below i k = if nat_lt i k then Some i else None

abbrev pub part : SplitKind → (values : List ℕ) → Option ℕ
part IfAlone vs = if last vs == 0 then None else Some 0
part IfElse vs = if last vs == 0 then Some 1 else Some 0
part AndThen vs = if last vs == 0 then None else Some 0
part OrElse vs = if last vs == 0 then Some 0 else None
part Loop vs = Some 0
part Fork vs = if_below (last (before 1 vs)) (parts Fork vs)

-- the number of values that a split takes, and the values of the members that wait: `&&` is 0 for
-- them, and `||` is 1
abbrev pub taken_by : SplitKind → ℕ
taken_by Loop = 0
taken_by Fork = 3
taken_by by = 1

abbrev pub waits_with : SplitKind → List ℕ → List ℕ
waits_with AndThen vs = 0 ∷ vs
waits_with OrElse vs = 1 ∷ vs
waits_with by vs = vs

-- inside a part of a `fork`, `@` is the part's number and `$` is the last value. In other parts
-- both stay as they were
abbrev pub part_number : SplitKind → (old i : ℕ) → ℕ
part_number Fork old i = i
part_number by old i = old

abbrev pub part_rank : SplitKind → (old v : ℕ) → ℕ
part_rank Fork old v = v
part_rank by old v = old

abbrev pub part_level : SplitKind → Processor → (size i : ℕ) → Level
part_level by p size i = record {
  number = part_number by p.level.number i;
  rank = part_rank by p.level.rank (last (values p));
  size = size;
  space = child p.level.space (parts by (values p)) i;
}

abbrev pub divided : SplitKind → (size : ℕ) → Processor → Option ℕ → Processor
divided by size p None = with_values p (waits_with by (before (taken_by by) (values p)))
divided by size p (Some i) = enter_level (part_level by p size i) (drop_last (taken_by by) p)

-- the group of `start` has the number 0 and the whole group space. It takes the `value` lowest
-- processors
abbrev pub start_level : Processor → (size : ℕ) → Level
start_level p size = record { number = 0; rank = p.number; size = size; space = p.level.space }

abbrev pub is_taken : (value : ℕ) → Processor → Bool
is_taken v p = nat_lt p.number (not_negative v)

-- a frame, whose first word the call keeps
abbrev pub framed : (nesting : ℕ) → Processor → Option Space → Processor
framed nesting p None = p
framed nesting p (Some s) =
    with_space (record p
    { call = record (p.call) { frames = put p.call.frames nesting p.level.space.frames } }) s

-- `shalloc`: a block of the group's space, or 0
abbrev pub allotted : Processor → Option (ℕ × Space) → Processor
allotted p None = in_place 0 p
allotted p (Some b) = in_place (address_of b.0) (with_space p b.1)

abbrev pub with_block : (words : ℕ) → Processor → Processor
with_block words p = if words == 0 then in_place 0 p else allotted p (block p.level.space words)

abbrev pub with_size : ℕ → Processor → Processor
with_size size p = record p { level = record (p.level) { size = size } }

abbrev pub stays : Processor → Bool
stays p = not (last (values p) == 0)

-- the effect on a member, given the last value of the highest member, and the size of the group
-- that the member is in after the step
abbrev pub does : Operation → (highest size : ℕ) → Processor → Processor
does Begin highest size p =
    if is_taken highest p then enter_level (start_level p size) (drop_last 1 p) else drop_last 1 p
does Agree highest size p = in_place highest p
does (Frame nesting words) highest size p = framed nesting p (frame p.level.space words)
does Block highest size p = with_block (words_of (last (values p))) p
does (Split by) highest size p = divided by size p (part by (values p))
does Shrink highest size p = if stays p then with_size size (drop_last 1 p)
    else leave_level (drop_last 1 p)
does End highest size p = leave_level p
does operation highest size p = p

-- whether a member takes the first branch: into the only or the first of two parts, and on in the
-- loop. In a `seq` the lowest member goes into the body
abbrev pub is_first : Option ℕ → Bool
is_first None = false
is_first (Some i) = i == 0

abbrev pub enters : SplitKind → Option ℕ → Bool
enters IfElse part = is_first part
enters by part = is_some part

abbrev pub goes_onward : Operation → (highest lowest : ℕ) → Processor → Bool
goes_onward Begin highest lowest p = is_taken highest p
goes_onward (Split by) highest lowest p = enters by (part by (values p))
goes_onward Shrink highest lowest p = stays p
goes_onward Seq highest lowest p = p.number == lowest
goes_onward operation highest lowest p = true

-- the effect on the tree of a step at node n, given the processor of each number, the last value of
-- the highest member and the lowest member
abbrev pub changes : Operation → (n : ℕ) → (ℕ → Processor) → (highest lowest : ℕ) → t.Tree → t.Tree
changes Begin n who highest lowest tree =
    t.begin (min (not_negative highest) (length (t.members tree n))) tree
changes (Split by) n who highest lowest tree =
    t.split n (parts by (values (who lowest))) (λ h. part by (values (who h))) tree
changes Shrink n who highest lowest tree = t.shrink n (λ h. stays (who h)) tree
changes End n who highest lowest tree = t.finish n tree
changes Farm n who highest lowest tree = t.farm n tree
changes Seq n who highest lowest tree = t.single n tree
changes (Meet true) n who highest lowest tree = t.meet n tree
changes Resume n who highest lowest tree = t.resume n tree
changes operation n who highest lowest tree = tree

-- whether a step finds the words that it needs in its group's space
abbrev pub has_parts : Space → (k : ℕ) → Bool
has_parts s zero = true
has_parts s (suc k) = is_some (share s (suc k))

abbrev pub has_room : Operation → Processor → Bool
has_room (Frame nesting words) p = is_some (frame p.level.space words)
has_room (Split by) p = has_parts p.level.space (parts by (values p))
has_room operation p = true
