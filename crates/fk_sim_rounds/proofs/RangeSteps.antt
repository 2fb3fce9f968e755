-- The steps of the tree keep words, and the blocks of groups in shared data.
use Rattle.std.proofs.Common.{◌≡◌, ℕ, zero, suc, ◌+◌, ◌-◌, ◌*◌, ◌<◌, ◌≤◌, List, [], ◌∷◌, Bool, true, false, Option, Some, None, IsSome, refl, subst, arith}
use Rattle.std.specs.Prelude.{◌==◌, if◌then◌else◌, nat_lt}
use Rattle.std.proofs.lemmas.Bool.{ltb-true}
use Rattle.fk_space.specs.Space.{Space, free, equal_part, share, child, frame}
use Rattle.fk_space.proofs.Parts.{roomy_of, part_ends}
use Rattle.fk_meaning_operation.specs.declared.operation.Operation.{Operation}
use Rattle.fk_meaning_operation.specs.declared.operation.Operation.TheVariants as o
use Rattle.fk_meaning_operation.specs.declared.operation.SplitKind.{SplitKind}
use Rattle.fk_meaning_operation.specs.declared.operation.SplitKind.TheVariants as sp
use Rattle.fk_meaning_store.specs.Store.{address_of, shared_words}
use Rattle.fk_meaning_store.specs.Serve.{words_of}
use Rattle.fk_meaning.specs.Processor.{Level, Processor, values, last, before, drop_last, enter_level, to_outer}
use Rattle.fk_meaning.specs.Group.{parts, part, taken_by, waits_with, part_number, part_rank, part_level, divided, start_level, is_taken, framed, allotted, with_block, with_size, stays, does, has_parts, has_room}
use Rattle.fk_sim_rounds.proofs.Words.{if_either, IsWord}
use Rattle.fk_sim_rounds.proofs.Ranges.{AreWords, IsLevel, AreLevels, IsSound, last-is, before-are, with_values-sound, in_place-sound, drop-sound}

-- ---- levels

-- a processor at another level
at_level : (l : Level) (outer : List Level) (p : Processor) → IsSound p → IsLevel l → AreLevels outer → IsSound (record p { level = l; outer = outer })
at_level l outer p s is all = record {
  number = s.number;
  level = is;
  outer = all;
  call = s.call;
  callers = s.callers;
  own = s.own;
  top = s.top;
  waiting = s.waiting;
}

in_level : (l : Level) (p : Processor) → IsSound p → IsLevel l → IsSound (enter_level l p)
in_level l p s is = at_level l (p.level ∷ p.outer) p s is (s.level, s.outer)

outside : (p : Processor) (levels : List Level) → IsSound p → AreLevels levels → IsSound (to_outer p levels)
outside p [] s all = s
outside p (l ∷ levels) s all = at_level l levels p s all.0 all.1

-- with other frames, or fewer words before its blocks
with_space-is : (l : Level) (frames blocks : ℕ) → IsLevel l → blocks ≤ l.space.blocks → IsLevel (record l { space = record (l.space) { frames = frames; blocks = blocks } })
with_space-is l frames blocks is le = let most = is.blocks in record { number = is.number; rank = is.rank; size = is.size; blocks = omega (arith, le, most) }

sized : (size : ℕ) (p : Processor) → IsSound p → IsWord size → IsSound (with_size size p)
sized size p s w = at_level (record (p.level) { size = size }) p.outer p s (record { number = s.level.number; rank = s.level.rank; size = w; blocks = s.level.blocks }) s.outer

-- ---- frames and blocks

has_frame : (nesting frames : ℕ) (p : Processor) → IsSound p → IsSound (framed nesting p (Some (record (p.level.space) { frames = frames })))
has_frame nesting frames p s = record {
  number = s.number;
  level = with_space-is p.level frames p.level.space.blocks s.level (omega arith);
  outer = s.outer;
  call = record { values = s.call.values; privates = s.call.privates };
  callers = s.callers;
  own = s.own;
  top = s.top;
  waiting = s.waiting;
}

framed-sound : (nesting words : ℕ) (p : Processor) → IsSound p → IsSound (framed nesting p (frame p.level.space words))
framed-sound nesting words p s =
    if_either {A = Option Space} (λ space. IsSound (framed nesting p space)) (nat_lt (free p.level.space) words) _ _ s (has_frame nesting (p.level.space.frames + words) p s)

has_block : (words : ℕ) (p : Processor) → IsSound p
    → IsSound (allotted p (Some (p.level.space.blocks - words, record (p.level.space) { blocks = p.level.space.blocks - words })))
has_block words p s =
    let most = s.level.blocks in
    let space = with_space-is p.level p.level.space.frames (p.level.space.blocks - words) s.level (omega arith) in
    in_place-sound (address_of (p.level.space.blocks - words)) _ (at_level _ p.outer p s space s.outer) (omega (arith, most))

allotted-sound : (words : ℕ) (p : Processor) → IsSound p → IsSound (with_block words p)
allotted-sound words p s =
    let nothing = in_place-sound 0 p s (omega arith) in
    if_either {A = Processor} IsSound (words == 0) _ _ nothing
    (if_either {A = Option (ℕ × Space)} (λ b. IsSound (allotted p b)) (nat_lt (free p.level.space) words) _ _ nothing (has_block words p s))

-- ---- splits

-- a part that one goes into, on one of two ways
on_true : (b : Bool) (a i : ℕ) → (if b then Some a else None) ≡ Some i → (a ≡ i) × (b ≡ true)
on_true true a i e = let z = e in (cc, refl)
on_true false a i e = absurd (let z = e in cc)

on_false : (b : Bool) (a i : ℕ) → (if b then None else Some a) ≡ Some i → a ≡ i
on_false true a i e = absurd (let z = e in cc)
on_false false a i e = let z = e in cc

on_both : (b : Bool) (i : ℕ) → (if b then Some 1 else Some 0) ≡ Some i → i < 2
on_both true i e = let z : 1 ≡ i = cc in omega (arith, z)
on_both false i e = let z : 0 ≡ i = cc in omega (arith, z)

part-below : (by : SplitKind) (vs : List ℕ) (i : ℕ) → part by vs ≡ Some i → i < parts by vs
part-below sp.IfAlone vs i e = let z = on_false (last vs == 0) 0 i e in omega (arith, z)
part-below sp.IfElse vs i e = on_both (last vs == 0) i e
part-below sp.AndThen vs i e = let z = on_false (last vs == 0) 0 i e in omega (arith, z)
part-below sp.OrElse vs i e = let z = (on_true (last vs == 0) 0 i e).0 in omega (arith, z)
part-below sp.Loop vs i e = let z : 0 ≡ i = cc in omega (arith, z)
part-below sp.Fork vs i e =
    let z = on_true (nat_lt (last (before 1 vs)) (parts sp.Fork vs)) (last (before 1 vs)) i e in
    subst (λ j. j < parts sp.Fork vs) z.0 (ltb-true (last (before 1 vs)) (parts sp.Fork vs) z.1)

-- the number of a part of a `fork` is a value
number-is : (by : SplitKind) (old i : ℕ) (vs : List ℕ) → IsWord old → AreWords vs → part by vs ≡ Some i → IsWord (part_number by old i)
number-is sp.Fork old i vs w all e =
    subst IsWord (on_true (nat_lt (last (before 1 vs)) (parts sp.Fork vs)) (last (before 1 vs)) i e).0 (last-is (before 1 vs) (before-are 1 vs all))
number-is by old i vs w all e = w

rank-is : (by : SplitKind) (old v : ℕ) → IsWord old → IsWord v → IsWord (part_rank by old v)
rank-is sp.Fork old v w is = is
rank-is by old v w is = w

waits-are : (by : SplitKind) (vs : List ℕ) → AreWords vs → AreWords (waits_with by vs)
waits-are sp.AndThen vs all = (omega arith, all)
waits-are sp.OrElse vs all = (omega arith, all)
waits-are by vs all = all

-- where there is room for all parts, each lies in the free words
share_is : (s : Space) (k i : ℕ) → i < k → has_parts s k ≡ true → IsSome (share s k)
share_is s zero i lt room = absurd (omega (arith, lt))
share_is s (suc k) i lt room = room

fits : (frames blocks k i a e most : ℕ) → frames + 4 * k + (a + e) ≤ frames + (blocks - frames) → 4 * k ≤ blocks - frames → i < k → blocks ≤ most → frames + 4 * k + a + e ≤ most
fits frames blocks k i a e most ends kept lt le = omega (arith, ends, kept, lt, le)

child-is : (s : Space) (k i : ℕ) → s.blocks ≤ shared_words → i < k → has_parts s k ≡ true → (child s k i).blocks ≤ shared_words
child-is s k i le lt room =
    let some = share_is s k i lt room in
    fits s.frames s.blocks k i (i * equal_part s k) (equal_part s k) shared_words (part_ends s k i some lt) (roomy_of s k some).kept lt le

divided-sound : (by : SplitKind) (size : ℕ) (p : Processor) (part' : Option ℕ) → part by (values p) ≡ part' → has_parts p.level.space (parts by (values p)) ≡ true → IsSound p → IsWord size
    → IsSound (divided by size p part')
divided-sound by size p None e room s w =
    let left = before (taken_by by) (values p) in
    with_values-sound p (waits_with by left) s (waits-are by left (before-are (taken_by by) (values p) s.call.values))
divided-sound by size p (Some i) e room s w =
    in_level (part_level by p size i) (drop_last (taken_by by) p) (drop-sound (taken_by by) p s) (record {
      number = number-is by p.level.number i (values p) s.level.number s.call.values e;
      rank = rank-is by p.level.rank (last (values p)) s.level.rank (last-is (values p) s.call.values);
      size = w;
      blocks = child-is p.level.space (parts by (values p)) i s.level.blocks (part-below by (values p) i e) room;
    })

-- ---- all of them

pub does-sound : (operation : Operation) (highest size : ℕ) (p : Processor) → has_room operation p ≡ true → IsSound p → IsWord highest → IsWord size → IsSound (does operation highest size p)
does-sound o.Begin highest size p room s h w =
    let group : IsLevel (start_level p size) = record { number = omega arith; rank = s.number; size = w; blocks = s.level.blocks } in
    if_either {A = Processor} IsSound (is_taken highest p) _ _ (in_level (start_level p size) (drop_last 1 p) (drop-sound 1 p s) group) (drop-sound 1 p s)
does-sound o.Agree highest size p room s h w = in_place-sound highest p s h
does-sound (o.Frame nesting words) highest size p room s h w = framed-sound nesting words p s
does-sound o.Block highest size p room s h w = allotted-sound (words_of (last (values p))) p s
does-sound (o.Split by) highest size p room s h w = divided-sound by size p (part by (values p)) refl room s w
does-sound o.Shrink highest size p room s h w =
    if_either {A = Processor} IsSound (stays p) _ _ (sized size (drop_last 1 p) (drop-sound 1 p s) w) (outside (drop_last 1 p) p.outer (drop-sound 1 p s) s.outer)
does-sound o.End highest size p room s h w = outside p p.outer s s.outer
does-sound operation highest size p room s h w = s
