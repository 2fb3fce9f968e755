-- Operations keep what two members of a group have alike.
use Rattle.std.proofs.Common.{◌≡◌, ℕ, ◌-◌, ◌+◌, Bool, true, false, not, true≢false, List, [], ◌∷◌, Option, Some, None, ap, ap₂, ◌∙◌, sym, refl, subst}
use Rattle.std.specs.Prelude.{◌==◌, nat_lt, if◌then◌else◌}
use Rattle.fk_space.specs.Space.{Space, child, frame, block}
use Rattle.fk_meaning_operation.specs.declared.operation.Operation.{Operation}
use Rattle.fk_meaning_operation.specs.declared.operation.Operation.TheVariants as o
use Rattle.fk_meaning_operation.specs.declared.operation.Variable.{Variable}
use Rattle.fk_meaning_operation.specs.declared.operation.Variable.TheVariants as v
use Rattle.fk_meaning_operation.specs.declared.operation.SplitKind.{SplitKind}
use Rattle.fk_meaning_store.specs.Store.{private_words, private_address}
use Rattle.fk_meaning_store.specs.Serve.{words_of}
use Rattle.fk_meaning.specs.Processor.{Level, Call, Processor, Setting, values, last, drop_last, in_place, enter_level, to_outer, leave_level}
use Rattle.fk_meaning.specs.Local.{local, taken, stored, handed, unframed, to_caller, is_onward}
use Rattle.fk_meaning.specs.Request.{with_answer}
use Rattle.fk_meaning.specs.Group.{parts, part, taken_by, part_number, part_level, divided, start_level, is_taken, framed, allotted, with_block, with_size, stays, does, enters, goes_onward}
use Rattle.fk_lockstep.specs.Together.{SameLevel, SameLevels, SameFrames, SamePlace, OneWay}
use Rattle.fk_lockstep.specs.InStep.{may_stand}
use Rattle.fk_lockstep.proofs.Weaken.{untrue}

-- a processor that keeps its number, its levels and its frames
record Unmoved (p p' : Processor) : Type 0 where
  number : p'.number ≡ p.number
  level : p'.level ≡ p.level
  outer : p'.outer ≡ p.outer
  frame : p'.call.frames 0 ≡ p.call.frames 0
  callers : p'.callers ≡ p.callers

-- two that were alike are so afterwards
both_stay : (p q p' q' : Processor) → SamePlace p q → Unmoved p p' → Unmoved q q' → SamePlace p' q'
both_stay p q p' q' h s u =
    let level : SameLevel p'.level q'.level = subst (λ (l : Level). SameLevel l q'.level) (sym s.level) (subst (λ (m : Level). SameLevel p.level m) (sym u.level) h.level) in
    let outer : SameLevels p'.outer q'.outer = subst (λ (ls : List Level). SameLevels ls q'.outer) (sym s.outer) (subst (λ (ms : List Level). SameLevels p.outer ms) (sym u.outer) h.outer) in
    let callers : SameFrames p'.callers q'.callers = subst (λ (cs : List Call). SameFrames cs q'.callers) (sym s.callers) (subst (λ (ds : List Call). SameFrames p.callers ds) (sym u.callers) h.callers) in
    record {
      level = level;
      outer = outer;
      frame = s.frame ∙ h.frame ∙ sym u.frame;
      callers = callers;
    }

-- local operations
takes : (words : ℕ) (p : Processor) → Unmoved p (taken words p)
takes words p = by (words == 0) (nat_lt (private_words - p.top) words)
  where
    by : (none full : Bool) → Unmoved p (
        if none then in_place 0 p
        else if full then in_place 0 p
        else in_place (private_address p.top) (record p { top = p.top + words }))
    by true full = record { number = refl; level = refl; outer = refl; frame = refl; callers = refl }
    by false true = record { number = refl; level = refl; outer = refl; frame = refl; callers = refl }
    by false false = record { number = refl; level = refl; outer = refl; frame = refl; callers = refl }

stores : (w : ℕ) (variable : Variable) (p : Processor) → Unmoved p (stored w variable p)
stores w (v.Private i) p = record { number = refl; level = refl; outer = refl; frame = refl; callers = refl }
stores w (v.OfFile i) p = record { number = refl; level = refl; outer = refl; frame = refl; callers = refl }

unframes : (framed : Bool) (p q : Processor) → SamePlace p q → SamePlace (unframed framed p) (unframed framed q)
unframes false p q h = h
unframes true p q h =
    let l = h.level in
    record {
      level = record { number = l.number; size = l.size; space = ap₂ (λ (s : Space) (f : ℕ). record s { frames = f }) l.space h.frame };
      outer = h.outer;
      frame = h.frame;
      callers = h.callers;
    }

hands : (gives : Bool) (w w' : ℕ) (c d : Call) → c.frames 0 ≡ d.frames 0 → (handed gives w c).frames 0 ≡ (handed gives w' d).frames 0
hands true w w' c d e = e
hands false w w' c d e = e

to_callers : (gives : Bool) (w w' : ℕ) (p q : Processor) (cs ds : List Call) → SamePlace p q → SameFrames cs ds → SamePlace (to_caller gives w p cs) (to_caller gives w' q ds)
to_callers gives w w' p q [] [] h g = h
to_callers gives w w' p q [] (d ∷ ds) h g = absurd g
to_callers gives w w' p q (c ∷ cs) [] h g = absurd g
to_callers gives w w' p q (c ∷ cs) (d ∷ ds) h g =
    record { level = h.level; outer = h.outer; frame = hands gives w w' c d g.0; callers = g.1 }

pub locally : (set : Setting) (op : Operation) (p q : Processor) → SamePlace p q → SamePlace (local set op p) (local set op q)
locally set (o.Push n) p q h = record { level = h.level; outer = h.outer; frame = h.frame; callers = h.callers }
locally set (o.Get k) p q h = record { level = h.level; outer = h.outer; frame = h.frame; callers = h.callers }
locally set (o.Set variable) p q h = both_stay p q _ _ h (stores (last (values p)) variable p) (stores (last (values q)) variable q)
locally set o.DropLast p q h = record { level = h.level; outer = h.outer; frame = h.frame; callers = h.callers }
locally set o.CopyLast p q h = record { level = h.level; outer = h.outer; frame = h.frame; callers = h.callers }
locally set (o.Apply sign) p q h = record { level = h.level; outer = h.outer; frame = h.frame; callers = h.callers }
locally set (o.Binary sign turned) p q h = record { level = h.level; outer = h.outer; frame = h.frame; callers = h.callers }
locally set (o.Index size) p q h = record { level = h.level; outer = h.outer; frame = h.frame; callers = h.callers }
locally set (o.Branch onward) p q h = record { level = h.level; outer = h.outer; frame = h.frame; callers = h.callers }
locally set o.Take p q h = both_stay p q _ _ h (takes (words_of (last (values p))) p) (takes (words_of (last (values q))) q)
locally set (o.Leave gives framed) p q h =
    to_callers gives (last (values p)) (last (values q)) (unframed framed p) (unframed framed q) p.callers q.callers (unframes framed p q h) h.callers
locally set op p q h = h

unframed_number : (framed : Bool) (p : Processor) → (unframed framed p).number ≡ p.number
unframed_number true p = refl
unframed_number false p = refl

caller_number : (gives : Bool) (w : ℕ) (p : Processor) (cs : List Call) → (to_caller gives w p cs).number ≡ p.number
caller_number gives w p [] = refl
caller_number gives w p (c ∷ cs) = refl

pub local_number : (set : Setting) (op : Operation) (p : Processor) → (local set op p).number ≡ p.number
local_number set (o.Set variable) p = (stores (last (values p)) variable p).number
local_number set o.Take p = (takes (words_of (last (values p))) p).number
local_number set (o.Leave gives framed) p = caller_number gives (last (values p)) (unframed framed p) p.callers ∙ unframed_number framed p
local_number set op p = refl

-- which way a local operation goes
pub onward_alike : (agreed : Bool) (op : Operation) (p q : Processor) → may_stand agreed op ≡ true → (agreed ≡ true → last (values p) ≡ last (values q))
    → is_onward op p ≡ is_onward op q
onward_alike agreed (o.Branch true) p q stands same = ap (λ w. not (w == 0)) (same stands)
onward_alike agreed (o.Branch false) p q stands same = ap (λ w. w == 0) (same stands)
onward_alike agreed op p q stands same = refl

-- requests, whatever they are answered
pub answers : (op : Operation) (a b : ℕ) (p q : Processor) → SamePlace p q → SamePlace (with_answer op a p) (with_answer op b q)
answers o.Read a b p q h = record { level = h.level; outer = h.outer; frame = h.frame; callers = h.callers }
answers o.Write a b p q h = record { level = h.level; outer = h.outer; frame = h.frame; callers = h.callers }
answers (o.Combine by) a b p q h = record { level = h.level; outer = h.outer; frame = h.frame; callers = h.callers }
answers o.PrintNumber a b p q h = record { level = h.level; outer = h.outer; frame = h.frame; callers = h.callers }
answers o.PrintByte a b p q h = record { level = h.level; outer = h.outer; frame = h.frame; callers = h.callers }
answers o.Heap a b p q h = record { level = h.level; outer = h.outer; frame = h.frame; callers = h.callers }
answers (o.Enter n) a b p q h = record { level = h.level; outer = h.outer; frame = refl; callers = (h.frame, h.callers) }
answers op a b p q h = h

pub answer_number : (op : Operation) (a : ℕ) (p : Processor) → (with_answer op a p).number ≡ p.number
answer_number o.Read a p = refl
answer_number op a p = refl

-- steps of the tree
same_some : {A : Type 0} (x y : A) → Some x ≡ Some y → x ≡ y
same_some x y e = cc

pub enters_alike : (l m : Level) (p q : Processor) → SameLevel l m → SamePlace p q → SamePlace (enter_level l p) (enter_level m q)
enters_alike l m p q e h = record { level = e; outer = (h.level, h.outer); frame = h.frame; callers = h.callers }

begins : (a b : Bool) (size : ℕ) (p q : Processor) → a ≡ b → SamePlace p q
    → SamePlace (if a then enter_level (start_level p size) (drop_last 1 p) else drop_last 1 p) (if b then enter_level (start_level q size) (drop_last 1 q) else drop_last 1 q)
begins true true size p q e h =
    enters_alike (start_level p size) (start_level q size) (drop_last 1 p) (drop_last 1 q)
    (record { number = refl; size = refl; space = h.level.space }) (record { level = h.level; outer = h.outer; frame = h.frame; callers = h.callers })
begins false false size p q e h = record { level = h.level; outer = h.outer; frame = h.frame; callers = h.callers }
begins true false size p q e h = absurd (true≢false e)
begins false true size p q e h = untrue e

frames_alike : (nesting : ℕ) (p q : Processor) (a b : Option Space) → a ≡ b → SamePlace p q → SamePlace (framed nesting p a) (framed nesting q b)
frames_alike nesting p q None None e h = h
frames_alike nesting p q None (Some s) e h = absurd (cc)
frames_alike nesting p q (Some s) None e h = absurd (cc)
frames_alike nesting p q (Some s) (Some u) e h = record {
  level = record { number = h.level.number; size = h.level.size; space = same_some s u e };
  outer = h.outer;
  frame = ap₂ (λ (x y : ℕ). if 0 == nesting then x else y) (ap (λ (s' : Space). s'.frames) h.level.space) h.frame;
  callers = h.callers;
}

allots_alike : (p q : Processor) (a b : Option (ℕ × Space)) → a ≡ b → SamePlace p q → SamePlace (allotted p a) (allotted q b)
allots_alike p q None None e h = record { level = h.level; outer = h.outer; frame = h.frame; callers = h.callers }
allots_alike p q None (Some s) e h = absurd (cc)
allots_alike p q (Some s) None e h = absurd (cc)
allots_alike p q (Some s) (Some u) e h = record {
  level = record { number = h.level.number; size = h.level.size; space = ap (λ (x : ℕ × Space). x.1) (same_some s u e) };
  outer = h.outer;
  frame = h.frame;
  callers = h.callers;
}

blocks_alike : (words : ℕ) (p q : Processor) → SamePlace p q → SamePlace (with_block words p) (with_block words q)
blocks_alike words p q h = by (words == 0)
  where
    by : (none : Bool) → SamePlace (if none then in_place 0 p else allotted p (block p.level.space words)) (if none then in_place 0 q else allotted q (block q.level.space words))
    by true = record { level = h.level; outer = h.outer; frame = h.frame; callers = h.callers }
    by false = allots_alike p q (block p.level.space words) (block q.level.space words) (ap (λ (s : Space). block s words) h.level.space) h

divides_alike : (by : SplitKind) (size : ℕ) (p q : Processor) (a b : Option ℕ) → a ≡ b → parts by (values p) ≡ parts by (values q) → SamePlace p q
    → SamePlace (divided by size p a) (divided by size q b)
divides_alike by size p q None None e k h = record { level = h.level; outer = h.outer; frame = h.frame; callers = h.callers }
divides_alike by size p q None (Some j) e k h = absurd (cc)
divides_alike by size p q (Some i) None e k h = absurd (cc)
divides_alike by size p q (Some i) (Some j) e k h =
    enters_alike (part_level by p size i) (part_level by q size j) (drop_last (taken_by by) p) (drop_last (taken_by by) q)
    (record {
      number = ap₂ (part_number by) h.level.number (same_some i j e);
      size = refl;
      space = ap₂ (λ (s : Space) (k' : ℕ). child s k' i) h.level.space k ∙ ap (child q.level.space (parts by (values q))) (same_some i j e);
    })
    (record { level = h.level; outer = h.outer; frame = h.frame; callers = h.callers })

outer_alike : (p q : Processor) (ls ms : List Level) → SamePlace p q → SameLevels ls ms → SamePlace (to_outer p ls) (to_outer q ms)
outer_alike p q [] [] h g = h
outer_alike p q [] (m ∷ ms) h g = absurd g
outer_alike p q (l ∷ ls) [] h g = absurd g
outer_alike p q (l ∷ ls) (m ∷ ms) h g = record { level = g.0; outer = g.1; frame = h.frame; callers = h.callers }

leaves_alike : (p q : Processor) → SamePlace p q → SamePlace (leave_level p) (leave_level q)
leaves_alike p q h = outer_alike p q p.outer q.outer h h.outer

shrinks : (a b : Bool) (size : ℕ) (p q : Processor) → a ≡ b → SamePlace p q
    → SamePlace (if a then with_size size (drop_last 1 p) else leave_level (drop_last 1 p)) (if b then with_size size (drop_last 1 q) else leave_level (drop_last 1 q))
shrinks true true size p q e h = record {
  level = record { number = h.level.number; size = refl; space = h.level.space };
  outer = h.outer;
  frame = h.frame;
  callers = h.callers;
}
shrinks false false size p q e h = leaves_alike (drop_last 1 p) (drop_last 1 q) (record { level = h.level; outer = h.outer; frame = h.frame; callers = h.callers })
shrinks true false size p q e h = absurd (true≢false e)
shrinks false true size p q e h = untrue e

pub does_alike : (agreed : Bool) (op : Operation) (highest lowest size : ℕ) (p q : Processor) → may_stand agreed op ≡ true
    → (agreed ≡ true → last (values p) ≡ last (values q)) → OneWay op highest lowest p q → SamePlace p q
    → SamePlace (does op highest size p) (does op highest size q)
does_alike agreed o.Begin highest lowest size p q stands same way h = begins (is_taken highest p) (is_taken highest q) size p q way h
does_alike agreed o.Agree highest lowest size p q stands same way h = record { level = h.level; outer = h.outer; frame = h.frame; callers = h.callers }
does_alike agreed (o.Frame nesting words) highest lowest size p q stands same way h =
    frames_alike nesting p q (frame p.level.space words) (frame q.level.space words) (ap (λ (s : Space). frame s words) h.level.space) h
does_alike agreed o.Block highest lowest size p q stands same way h =
    subst (λ words. SamePlace (with_block (words_of (last (values p))) p) (with_block words q)) (ap words_of (same stands))
    (blocks_alike (words_of (last (values p))) p q h)
does_alike agreed (o.Split by) highest lowest size p q stands same way h =
    divides_alike by size p q (part by (values p)) (part by (values q)) way.0 way.1 h
does_alike agreed o.Shrink highest lowest size p q stands same way h = shrinks (stays p) (stays q) size p q way h
does_alike agreed o.End highest lowest size p q stands same way h = leaves_alike p q h
does_alike agreed op highest lowest size p q stands same way h = h

pub way_alike : (op : Operation) (highest lowest : ℕ) (p q : Processor) → OneWay op highest lowest p q
    → goes_onward op highest lowest p ≡ goes_onward op highest lowest q
way_alike (o.Split by) highest lowest p q way = ap (enters by) way.0
way_alike op highest lowest p q way = way
