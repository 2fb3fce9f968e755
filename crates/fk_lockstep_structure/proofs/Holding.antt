-- What is pending of a processor stays so through operations.
use Rattle.std.proofs.Common.{◌≡◌, ℕ, zero, suc, ◌+◌, ◌*◌, Bool, true, false, true≢false, List, [], ◌∷◌, Option, Some, None, is_some, nat_lt, ap, ◌∙◌, sym, refl, subst, subst₂, arith}
use Rattle.std.specs.Prelude.{◌==◌, ◌-◌, ◌&&◌, ◌||◌, if◌then◌else◌}
use Rattle.std.proofs.lemmas.Bool.{and_parts, and_from, eqb-true, eq-eqb, lt-ltb, le-ltb}
use Rattle.fk_meaning_operation.specs.Kinds.{class_of}
use Rattle.fk_meaning_operation.specs.declared.operation.Operation.{Operation}
use Rattle.fk_meaning_operation.specs.declared.operation.Operation.TheVariants as o
use Rattle.fk_meaning_operation.specs.declared.operation.Multiprefix.TheVariants.{MpAdd, MpMax, MpAnd, MpOr}
use Rattle.fk_meaning_operation.specs.declared.operation.Variable.{Variable}
use Rattle.fk_meaning_operation.specs.declared.operation.Variable.TheVariants as v
use Rattle.fk_meaning_operation.specs.declared.operation.SplitKind.{SplitKind}
use Rattle.fk_meaning_operation.specs.declared.operation.SplitKind.TheVariants.{IfElse, AndThen, OrElse, Fork}
use Rattle.fk_meaning_operation.specs.declared.kinds.Class.{Class}
use Rattle.fk_meaning_operation.specs.declared.kinds.Class.TheVariants.{Local, Request, Tree}
use Rattle.fk_meaning_store.specs.Serve.{words_of}
use Rattle.fk_meaning_store.specs.Store.{private_words, private_address, address_of}
use Rattle.fk_space.specs.Space.{Space, frame, block}
use Rattle.fk_meaning.specs.Processor.{Call, Level, Processor, Setting, values, last, before, drop_last, in_place, enter_level, leave_level, to_outer}
use Rattle.fk_meaning.specs.Local.{local, applied_to, joined, in_order, stored, taken, handed, unframed, to_caller}
use Rattle.fk_num.specs.Word.{word}
use Rattle.fk_num.specs.Op.{applied}
use Rattle.fk_meaning.specs.Request.{with_answer, entered}
use Rattle.fk_meaning.specs.Group.{divided, does, part, allotted, framed, with_block, with_size, enters, is_taken, start_level, stays, goes_onward}
use Rattle.fk_meaning.specs.Round.{Step}
use Rattle.fk_meaning_forms.specs.Code.{Code}
use Rattle.fk_meaning.specs.Next.{Work}
use Rattle.fk_meaning.specs.Behind.{grown}
use Rattle.fk_meaning.specs.Shape.{is_of_call}
use Rattle.fk_meaning.proofs.Spine.{untrue}
use Rattle.fk_lockstep.specs.Counts.{AsMany, IsTaken, Leaves, LeavesAtSplit, CountsGoOn}
use Rattle.fk_lockstep_structure.specs.Ahead.{all_outs}
use Rattle.fk_lockstep_structure.specs.Pending as pending
use Rattle.fk_lockstep_structure.specs.Pending.{is_fork, is_enter, leaves, more, above_before, above_choice, before_way, before_call, MayStand, MayCall, all_leave, has_number, waits_with, one_more, of_either, are_waiting, many_waiting, fork_counts}

-- values below those that an operation takes
pub before_none : (m : ℕ) → before m [] ≡ []
before_none zero = refl
before_none (suc m) = refl

before_one : (m : ℕ) (vs : List ℕ) → before m (before 1 vs) ≡ before (suc m) vs
before_one m [] = before_none m
before_one m (x ∷ vs) = refl

in_place_below : (m v : ℕ) (vs : List ℕ) → before (suc m) (v ∷ before 1 vs) ≡ before (suc m) vs
in_place_below m v vs = before_one m vs

joined_below : (m : ℕ) (f : ℕ → ℕ → ℕ) (vs : List ℕ) → before (suc m) (joined f vs) ≡ before (suc (suc m)) vs
joined_below m f [] = refl
joined_below m f (x ∷ []) = before_none m
joined_below m f (x ∷ y ∷ vs) = refl

written_below : (m v : ℕ) (vs : List ℕ) → before (suc m) (v ∷ before 1 (before 1 vs)) ≡ before (suc (suc m)) vs
written_below m v [] = before_none m
written_below m v (x ∷ vs) = before_one m vs

stored_below : (m n : ℕ) (variable : Variable) (p : Processor) → before m (values (stored n variable p)) ≡ before m (values p)
stored_below m n (v.Private i) p = refl
stored_below m n (v.OfFile i) p = refl

taken_below : (m words : ℕ) (p : Processor) → before (suc m) (values (taken words p)) ≡ before (suc m) (values p)
taken_below m words p = by (words == 0) (nat_lt (private_words - p.top) words)
  where
    by : (a b : Bool) → before (suc m) (values (if a then in_place 0 p else (if b then in_place 0 p else in_place (private_address p.top) (record p { top = p.top + words })))) ≡ before (suc m) (values p)
    by true b = in_place_below m 0 (values p)
    by false true = in_place_below m 0 (values p)
    by false false = in_place_below m (private_address p.top) (values p)

allotted_below : (m : ℕ) (p : Processor) (b : Option (ℕ × Space)) → before (suc m) (values (allotted p b)) ≡ before (suc m) (values p)
allotted_below m p None = in_place_below m 0 (values p)
allotted_below m p (Some b) = in_place_below m (address_of b.0) (values p)

block_below : (m words : ℕ) (p : Processor) → before (suc m) (values (with_block words p)) ≡ before (suc m) (values p)
block_below m words p = by (words == 0)
  where
    by : (a : Bool) → before (suc m) (values (if a then in_place 0 p else allotted p (block p.level.space words))) ≡ before (suc m) (values p)
    by true = in_place_below m 0 (values p)
    by false = allotted_below m p (block p.level.space words)

outer_below : (m : ℕ) (p : Processor) (ls : List Level) → before m (values (to_outer p ls)) ≡ before m (values p)
outer_below m p [] = refl
outer_below m p (l ∷ ls) = refl

before_suc : (n : ℕ) (vs : List ℕ) → before (suc n) vs ≡ before 1 (before n vs)
before_suc zero vs = refl
before_suc (suc n) [] = refl
before_suc (suc n) (x ∷ vs) = before_suc n vs

before_more : (n m : ℕ) (vs : List ℕ) → before m (before n vs) ≡ before (more n m) vs
before_more zero m vs = refl
before_more (suc n) m vs = ap (before m) (before_suc n vs) ∙ before_one m (before n vs) ∙ before_more n (suc m) vs

-- ---- which numbers are pending

-- a number that stands below the values that are taken
abbrev pub Keeps : (x : Option ℕ) (vs : List ℕ) (y : Option ℕ) (us : List ℕ) → Type 0
Keeps x vs y us = (others : List ℕ → Bool) (ns : List ℕ) → has_number x vs others ns ≡ true → has_number y us others ns ≡ true

pub some_keeps : (m m' : ℕ) (vs us : List ℕ) → before m us ≡ before m' vs → Keeps (Some m') vs (Some m) us
some_keeps m m' vs us e others [] h = h
some_keeps m m' vs us e others (n ∷ ns) h = subst (λ (xs : List ℕ). ((n == last xs) && others ns) ≡ true) (sym e) h

none_keeps : (x y : Option ℕ) (vs us : List ℕ) → x ≡ None → y ≡ None → Keeps x vs y us
none_keeps x y vs us e f others ns h =
    subst (λ (z : Option ℕ). has_number z us others ns ≡ true) (sym f) (subst (λ (z : Option ℕ). has_number z vs others ns ≡ true) e h)

keeps_by : (x y : Option ℕ) (m m' : ℕ) (vs us : List ℕ) → x ≡ Some m' → y ≡ Some m → before m us ≡ before m' vs → Keeps x vs y us
keeps_by x y m m' vs us e f same others ns h =
    subst (λ (z : Option ℕ). has_number z us others ns ≡ true) (sym f)
    (some_keeps m m' vs us same others ns (subst (λ (z : Option ℕ). has_number z vs others ns ≡ true) e h))

number_others : (x : Option ℕ) (vs : List ℕ) (first second : List ℕ → Bool) → ((ms : List ℕ) → first ms ≡ true → second ms ≡ true)
    → (ns : List ℕ) → has_number x vs first ns ≡ true → has_number x vs second ns ≡ true
number_others None vs first second on ns h = on ns h
number_others (Some m) vs first second on [] h = h
number_others (Some m) vs first second on (n ∷ ns) h =
    let p = and_parts (n == last (before m vs)) (first ns) h in and_from (n == last (before m vs)) (second ns) p.0 (on ns p.1)

or_first : (a b : Bool) → a ≡ true → (a || b) ≡ true
or_first true b e = refl
or_first false b e = untrue e

or_second : (a b : Bool) → b ≡ true → (a || b) ≡ true
or_second true b e = refl
or_second false b e = e

-- the calls that wait stay through all operations but those that begin or end one
stored_callers : (n : ℕ) (variable : Variable) (p : Processor) → (stored n variable p).callers ≡ p.callers
stored_callers n (v.Private i) p = refl
stored_callers n (v.OfFile i) p = refl

taken_callers : (words : ℕ) (p : Processor) → (taken words p).callers ≡ p.callers
taken_callers words p = by (words == 0) (nat_lt (private_words - p.top) words)
  where
    by : (a b : Bool) → (if a then in_place 0 p else (if b then in_place 0 p else in_place (private_address p.top) (record p { top = p.top + words }))).callers ≡ p.callers
    by true b = refl
    by false true = refl
    by false false = refl

local_callers : (set : Setting) (op : Operation) (p : Processor) → is_of_call op ≡ false → (local set op p).callers ≡ p.callers
local_callers set (o.Leave gives framed) p e = absurd (true≢false e)
local_callers set (o.Set variable) p e = stored_callers (last (values p)) variable p
local_callers set o.Take p e = taken_callers (words_of (last (values p))) p
local_callers set op p e = refl

answer_callers : (op : Operation) (a : ℕ) (p : Processor) → is_of_call op ≡ false → (with_answer op a p).callers ≡ p.callers
answer_callers (o.Enter n) a p e = absurd (true≢false e)
answer_callers op a p e = refl

outer_callers : (p : Processor) (ls : List Level) → (to_outer p ls).callers ≡ p.callers
outer_callers p [] = refl
outer_callers p (l ∷ ls) = refl

divided_callers : (by : SplitKind) (size : ℕ) (p : Processor) (j : Option ℕ) → (divided by size p j).callers ≡ p.callers
divided_callers by size p None = refl
divided_callers by size p (Some j) = refl

either_callers : (b : Bool) (p q r : Processor) → p.callers ≡ r.callers → q.callers ≡ r.callers → (if b then p else q).callers ≡ r.callers
either_callers true p q r e f = e
either_callers false p q r e f = f

framed_callers : (nesting : ℕ) (p : Processor) (s : Option Space) → (framed nesting p s).callers ≡ p.callers
framed_callers nesting p None = refl
framed_callers nesting p (Some s) = refl

allotted_callers : (p : Processor) (b : Option (ℕ × Space)) → (allotted p b).callers ≡ p.callers
allotted_callers p None = refl
allotted_callers p (Some b) = refl

does_callers : (op : Operation) (highest size : ℕ) (p : Processor) → (does op highest size p).callers ≡ p.callers
does_callers o.Begin highest size p = either_callers (is_taken highest p) (enter_level (start_level p size) (drop_last 1 p)) (drop_last 1 p) p refl refl
does_callers (o.Frame nesting words) highest size p = framed_callers nesting p (frame p.level.space words)
does_callers o.Block highest size p =
    either_callers (words_of (last (values p)) == 0) (in_place 0 p) (allotted p (block p.level.space (words_of (last (values p))))) p refl
    (allotted_callers p (block p.level.space (words_of (last (values p)))))
does_callers (o.Split by) highest size p = divided_callers by size p (part by (values p))
does_callers o.Shrink highest size p =
    either_callers (stays p) (with_size size (drop_last 1 p)) (leave_level (drop_last 1 p)) p refl (outer_callers (drop_last 1 p) p.outer)
does_callers o.End highest size p = outer_callers p p.outer
does_callers op highest size p = refl

unframed_callers : (framed : Bool) (p : Processor) → (unframed framed p).callers ≡ p.callers
unframed_callers true p = refl
unframed_callers false p = refl

module _ (gives : (function : ℕ) → Bool) where
  abbrev above : Code ℕ → Option ℕ
  above code = pending.above gives None code

  abbrev Waiting : (running : Code ℕ) → List (Code ℕ) → List Call → (numbers : List ℕ) → Type 0
  Waiting running codes calls ns = are_waiting gives running codes calls ns ≡ true

  -- one of the two
  pub record Result (running code : Code ℕ) (codes : List (Code ℕ)) (vs : List ℕ) (calls : List Call) (ns : List ℕ) : Type 0 where
    pub result : Bool
    pub leave : all_leave result running ≡ true
    pub waits : waits_with result (above code) vs (λ ms. are_waiting gives code codes calls ms) ns ≡ true

  pub result_of : (running code : Code ℕ) (codes : List (Code ℕ)) (c : Call) (calls : List Call) (ns : List ℕ)
      → Waiting running (code ∷ codes) (c ∷ calls) ns → Result running code codes c.values calls ns
  result_of running code codes c calls ns h =
      let ways : Bool → Bool = λ g. waits_with g (above code) c.values (λ ms. are_waiting gives code codes calls ms) ns in
      of_either (all_leave true running && ways true) (all_leave false running && ways false) h (way true) (way false)
    where
      way : (g : Bool) → (all_leave g running && waits_with g (above code) c.values (λ ms. are_waiting gives code codes calls ms) ns) ≡ true
          → Result running code codes c.values calls ns
      way g e =
          let p = and_parts (all_leave g running) (waits_with g (above code) c.values (λ ms. are_waiting gives code codes calls ms) ns) e in
          record { result = g; leave = p.0; waits = p.1 }

  pub waiting_by : (running code : Code ℕ) (codes : List (Code ℕ)) (c : Call) (calls : List Call) (ns : List ℕ)
      → Result running code codes c.values calls ns → Waiting running (code ∷ codes) (c ∷ calls) ns
  waiting_by running code codes c calls ns r =
      let ways : Bool → Bool = λ g. waits_with g (above code) c.values (λ ms. are_waiting gives code codes calls ms) ns in
      by r.result (and_from (all_leave r.result running) (ways r.result) r.leave r.waits)
    where
      by : (g : Bool) → (all_leave g running && waits_with g (above code) c.values (λ ms. are_waiting gives code codes calls ms) ns) ≡ true
          → Waiting running (code ∷ codes) (c ∷ calls) ns
      by true e =
          or_first (all_leave true running && waits_with true (above code) c.values (λ ms. are_waiting gives code codes calls ms) ns)
          (all_leave false running && waits_with false (above code) c.values (λ ms. are_waiting gives code codes calls ms) ns) e
      by false e =
          or_second (all_leave true running && waits_with true (above code) c.values (λ ms. are_waiting gives code codes calls ms) ns)
          (all_leave false running && waits_with false (above code) c.values (λ ms. are_waiting gives code codes calls ms) ns) e

  runs_on : (left other : Code ℕ) → ((g : Bool) → all_leave g left ≡ true → all_leave g other ≡ true)
      → (codes : List (Code ℕ)) (calls : List Call) (ns : List ℕ) → Waiting left codes calls ns → Waiting other codes calls ns
  runs_on left other on [] calls ns h = h
  runs_on left other on (code ∷ codes) [] ns h = h
  runs_on left other on (code ∷ codes) (c ∷ calls) ns h =
      let r = result_of left code codes c calls ns h in
      waiting_by other code codes c calls ns (record { result = r.result; leave = on r.result r.leave; waits = r.waits })

  -- who has something left in the same function, behind which the same calls wait
  pub record Passes (here w : Work) : Type 0 where
    pub callers : w.callers ≡ here.callers
    pub leave : (g : Bool) → all_leave g here.left ≡ true → all_leave g w.left ≡ true

  abbrev pub Pends : Work → Processor → List ℕ → Type 0
  Pends w p ns = (fork_counts gives).are_pending w p ns ≡ true

  abbrev pub pending_of : Work → ℕ
  pending_of w = (fork_counts gives).pending w

  passes : (here w : Work) → Passes here w → (p q : Processor) → q.callers ≡ p.callers → Keeps (above here.left) (values p) (above w.left) (values q)
      → (ns : List ℕ) → Pends here p ns → Pends w q ns
  passes here w s p q e keeps ns h =
      number_others (above w.left) (values q) (λ ms. are_waiting gives here.left here.callers p.callers ms) (λ ms. are_waiting gives w.left w.callers q.callers ms)
      (λ ms r. subst₂ (λ (cs : List (Code ℕ)) (calls : List Call). Waiting w.left cs calls ms) (sym s.callers) (sym e) (runs_on here.left w.left s.leave here.callers p.callers ms r))
      ns (keeps (λ ms. are_waiting gives here.left here.callers p.callers ms) ns h)

  one_more_same : (x y : Option ℕ) (k l : ℕ) → is_some x ≡ is_some y → k ≡ l → one_more x k ≡ one_more y l
  one_more_same None None k l e f = f
  one_more_same (Some m) (Some n) k l e f = ap (λ (i : ℕ). suc i) f
  one_more_same None (Some n) k l e f = untrue e
  one_more_same (Some m) None k l e f = untrue (sym e)

  pub same_pending : (here w : Work) → w.callers ≡ here.callers → is_some (above here.left) ≡ is_some (above w.left) → pending_of w ≡ pending_of here
  same_pending here w s e = one_more_same (above w.left) (above here.left) (many_waiting gives w.callers) (many_waiting gives here.callers) (sym e) (ap (many_waiting gives) s)

  not_grown : (b : Bool) (n : ℕ) (ns : List ℕ) → b ≡ false → grown b n ns ≡ ns
  not_grown true n ns e = absurd (true≢false e)
  not_grown false n ns e = refl

  is_grown : (b : Bool) (n : ℕ) (ns : List ℕ) → b ≡ true → grown b n ns ≡ n ∷ ns
  is_grown true n ns e = refl
  is_grown false n ns e = untrue e

  module _ (next' : Work → Option (Step Work)) where
    abbrev pub GoOn : Operation → (here : Work) → (rest : Bool → Work) → Type 0
    GoOn op here rest = CountsGoOn next' all_outs (fork_counts gives) op here rest

    abbrev pub Meets : (here : Work) → (rest : Bool → Work) → Operation → Type 0
    Meets here rest (o.Split IfElse) = AsMany next' all_outs (fork_counts gives) (pending_of here) (all_outs (rest true))
    Meets here rest o.Farm = AsMany next' all_outs (fork_counts gives) (pending_of here) (all_outs (rest true))
    Meets here rest o.Begin = pending_of here ≡ 0
    Meets here rest op = Unit {0}

    module _ (here : Work) (rest : Bool → Work) (on : (onward : Bool) → Passes here (rest onward)) where
      abbrev KeepsOn : (onward : Bool) (p q : Processor) → Type 0
      KeepsOn onward p q = Keeps (above here.left) (values p) (above (rest onward).left) (values q)

      locally : (op : Operation) → is_of_call op ≡ false → ((set : Setting) (onward : Bool) (p : Processor) → KeepsOn onward p (local set op p))
          → Leaves next' all_outs (fork_counts gives) Local op here rest
      locally op e keeps = λ set onward p ns h. passes here (rest onward) (on onward) p (local set op p) (local_callers set op p e) (keeps set onward p) ns h

      asked : (op : Operation) → is_of_call op ≡ false → ((a : ℕ) (p : Processor) → KeepsOn true p (with_answer op a p))
          → Leaves next' all_outs (fork_counts gives) Request op here rest
      asked op e keeps = λ a p ns h. passes here (rest true) (on true) p (with_answer op a p) (answer_callers op a p e) (keeps a p) ns h

      grouped : (op : Operation) → ((highest lowest size : ℕ) (p : Processor) → KeepsOn (goes_onward op highest lowest p) p (does op highest size p))
          → Leaves next' all_outs (fork_counts gives) Tree op here rest
      grouped op keeps = λ highest lowest size p ns h.
          passes here (rest (goes_onward op highest lowest p)) (on (goes_onward op highest lowest p)) p (does op highest size p) (does_callers op highest size p) (keeps highest lowest size p) ns h

      parted : (by : SplitKind) → ((size : ℕ) (part : Option ℕ) (p : Processor) → KeepsOn (enters by part) p (divided by size p part))
          → LeavesAtSplit next' all_outs (fork_counts gives) by here rest
      parted by keeps = λ size part p ns h.
          passes here (rest (enters by part)) (on (enters by part)) p (divided by size p part) (divided_callers by size p part) (keeps size part p) ns h

      -- an agree that adds nothing
      agrees : is_some (above here.left) ≡ is_some (above (rest true).left) → ((v : ℕ) (p : Processor) → KeepsOn true p (in_place v p)) → GoOn o.Agree here rest
      agrees same keeps = λ v p ns h.
          let more_not : nat_lt (pending_of here) (pending_of (rest true)) ≡ false
          = let size = same_pending here (rest true) (on true).callers same in le-ltb (pending_of here) (pending_of (rest true)) (omega (arith, size)) in
          subst (Pends (rest true) (in_place v p)) (sym (not_grown (nat_lt (pending_of here) (pending_of (rest true))) v ns more_not))
          (passes here (rest true) (on true) p (in_place v p) refl (keeps v p) ns h)

      -- and one that adds a number
      agrees_on : above here.left ≡ None → above (rest true).left ≡ Some 0 → GoOn o.Agree here rest
      agrees_on e f = λ v p ns h.
          let one_size : pending_of here ≡ many_waiting gives here.callers = ap (λ (x : Option ℕ). one_more x (many_waiting gives here.callers)) e in
          let other_size : pending_of (rest true) ≡ suc (many_waiting gives here.callers)
          = ap (λ (x : Option ℕ). one_more x (many_waiting gives (rest true).callers)) f ∙ ap (λ (cs : List (Code ℕ)). suc (many_waiting gives cs)) (on true).callers in
          let is_more : nat_lt (pending_of here) (pending_of (rest true)) ≡ true = lt-ltb (pending_of here) (pending_of (rest true)) (omega (arith, one_size, other_size)) in
          let others : Waiting here.left here.callers p.callers ns
          = subst (λ (x : Option ℕ). has_number x (values p) (λ ms. are_waiting gives here.left here.callers p.callers ms) ns ≡ true) e h in
          let waits : Waiting (rest true).left (rest true).callers p.callers ns
          = subst (λ (cs : List (Code ℕ)). Waiting (rest true).left cs p.callers ns) (sym (on true).callers) (runs_on here.left (rest true).left (on true).leave here.callers p.callers ns others) in
          subst (Pends (rest true) (in_place v p)) (sym (is_grown (nat_lt (pending_of here) (pending_of (rest true))) v ns is_more))
          (subst (λ (x : Option ℕ). has_number x (values (in_place v p)) (λ ms. are_waiting gives (rest true).left (rest true).callers p.callers ms) (v ∷ ns) ≡ true) (sym f)
          (and_from (v == v) (are_waiting gives (rest true).left (rest true).callers p.callers ns) (eq-eqb v v refl) waits))

      -- where nothing is pending in the function
      module _ (e : above here.left ≡ None) (f : (onward : Bool) → above (rest onward).left ≡ None) where
        none_on : (onward : Bool) (p q : Processor) → KeepsOn onward p q
        none_on onward p q = none_keeps (above here.left) (above (rest onward).left) (values p) (values q) e (f onward)

        leaves_none : (c : Class) (op : Operation) → is_of_call op ≡ false → Leaves next' all_outs (fork_counts gives) c op here rest
        leaves_none Local op s = locally op s (λ set onward p. none_on onward p (local set op p))
        leaves_none Request op s = asked op s (λ a p. none_on true p (with_answer op a p))
        leaves_none Tree op s = grouped op (λ highest lowest size p. none_on (goes_onward op highest lowest p) p (does op highest size p))

        pub none_goes : (op : Operation) → is_fork op ≡ false → is_of_call op ≡ false → Meets here rest op → GoOn op here rest
        none_goes o.Agree g s met = agrees (ap is_some e ∙ sym (ap is_some (f true))) (λ v p. none_on true p (in_place v p))
        none_goes (o.Split Fork) g s met = absurd (true≢false g)
        none_goes (o.Split IfElse) g s met = (parted IfElse (λ size part p. none_on (enters IfElse part) p (divided IfElse size p part)), met)
        none_goes (o.Split by) g s met = (parted by (λ size part p. none_on (enters by part) p (divided by size p part)), tt)
        none_goes o.Farm g s met = (leaves_none Tree o.Farm refl, met)
        none_goes o.Begin g s met = (leaves_none Tree o.Begin refl, met)
        none_goes op g s met = leaves_none (class_of op) op s

      -- where a number is
      some_local : (op : Operation) (m m' : ℕ) → is_of_call op ≡ false → ((onward : Bool) → above (rest onward).left ≡ Some m) → above here.left ≡ Some m'
          → ((set : Setting) (p : Processor) → before m (values (local set op p)) ≡ before m' (values p)) → Leaves next' all_outs (fork_counts gives) Local op here rest
      some_local op m m' s f e h =
          locally op s (λ set onward p. keeps_by (above here.left) (above (rest onward).left) m m' (values p) (values (local set op p)) e (f onward) (h set p))

      some_asked : (op : Operation) (m m' : ℕ) → is_of_call op ≡ false → ((onward : Bool) → above (rest onward).left ≡ Some m) → above here.left ≡ Some m'
          → ((a : ℕ) (p : Processor) → before m (values (with_answer op a p)) ≡ before m' (values p)) → Leaves next' all_outs (fork_counts gives) Request op here rest
      some_asked op m m' s f e h =
          asked op s (λ a p. keeps_by (above here.left) (above (rest true).left) m m' (values p) (values (with_answer op a p)) e (f true) (h a p))

      some_grouped : (op : Operation) (m m' : ℕ) → ((onward : Bool) → above (rest onward).left ≡ Some m) → above here.left ≡ Some m'
          → ((highest size : ℕ) (p : Processor) → before m (values (does op highest size p)) ≡ before m' (values p)) → Leaves next' all_outs (fork_counts gives) Tree op here rest
      some_grouped op m m' f e h =
          grouped op (λ highest lowest size p.
          keeps_by (above here.left) (above (rest (goes_onward op highest lowest p)).left) m m' (values p) (values (does op highest size p)) e (f (goes_onward op highest lowest p)) (h highest size p))

      pub some_goes : (op : Operation) (m : ℕ) → ((onward : Bool) → above (rest onward).left ≡ Some m) → above here.left ≡ above_before op m → (to_fork : Bool)
          → MayStand op (Some m) to_fork → GoOn op here rest
      some_goes o.Agree zero f e l h = agrees_on e (f true)
      some_goes o.Agree (suc m) f e l h =
          agrees (ap is_some e ∙ sym (ap is_some (f true)))
          (λ v p. keeps_by (above here.left) (above (rest true).left) (suc m) (suc m) (values p) (values (in_place v p)) e (f true) (in_place_below m v (values p)))
      some_goes (o.Push n) (suc m) f e l h = some_local (o.Push n) (suc m) m refl f e (λ set p. refl)
      some_goes (o.Get known) (suc m) f e l h = some_local (o.Get known) (suc m) m refl f e (λ set p. refl)
      some_goes (o.Set variable) m f e l h = some_local (o.Set variable) m m refl f e (λ set p. stored_below m (last (values p)) variable p)
      some_goes o.DropLast m f e l h = some_local o.DropLast m (suc m) refl f e (λ set p. before_one m (values p))
      some_goes o.CopyLast (suc m) f e l h = some_local o.CopyLast (suc m) m refl f e (λ set p. refl)
      some_goes (o.Apply sign) (suc m) f e l h =
          some_local (o.Apply sign) (suc m) (suc m) refl f e (λ set p. in_place_below m (applied_to sign (last (values p))) (values p))
      some_goes (o.Binary operator turned) (suc m) f e l h =
          some_local (o.Binary operator turned) (suc m) (suc (suc m)) refl f e (λ set p. joined_below m (in_order turned (applied operator)) (values p))
      some_goes (o.Index bytes) (suc m) f e l h =
          some_local (o.Index bytes) (suc m) (suc (suc m)) refl f e (λ set p. joined_below m (λ address i. word (address + i * bytes)) (values p))
      some_goes o.Take (suc m) f e l h = some_local o.Take (suc m) (suc m) refl f e (λ set p. taken_below m (words_of (last (values p))) p)
      some_goes (o.Check alone) m f e l h = some_asked (o.Check alone) m m refl f e (λ a p. refl)
      some_goes o.Read (suc m) f e l h = some_asked o.Read (suc m) (suc m) refl f e (λ a p. in_place_below m a (values p))
      some_goes o.Write (suc m) f e l h = some_asked o.Write (suc m) (suc (suc m)) refl f e (λ a p. written_below m a (values p))
      some_goes (o.Combine MpAdd) (suc m) f e l h = some_asked (o.Combine MpAdd) (suc m) (suc (suc m)) refl f e (λ a p. written_below m a (values p))
      some_goes (o.Combine MpMax) (suc m) f e l h = some_asked (o.Combine MpMax) (suc m) (suc (suc m)) refl f e (λ a p. written_below m a (values p))
      some_goes (o.Combine MpAnd) (suc m) f e l h = some_asked (o.Combine MpAnd) (suc m) (suc (suc m)) refl f e (λ a p. written_below m a (values p))
      some_goes (o.Combine MpOr) (suc m) f e l h = some_asked (o.Combine MpOr) (suc m) (suc (suc m)) refl f e (λ a p. written_below m a (values p))
      some_goes o.PrintNumber m f e l h = some_asked o.PrintNumber m (suc m) refl f e (λ a p. before_one m (values p))
      some_goes o.PrintByte m f e l h = some_asked o.PrintByte m (suc m) refl f e (λ a p. before_one m (values p))
      some_goes o.Heap (suc m) f e l h = some_asked o.Heap (suc m) (suc m) refl f e (λ a p. in_place_below m a (values p))
      some_goes o.Block (suc m) f e l h = some_grouped o.Block (suc m) (suc m) f e (λ highest size p. block_below m (words_of (last (values p))) p)
      some_goes o.End m f e l h = some_grouped o.End m m f e (λ highest size p. outer_below m p p.outer)
      some_goes o.Resume m f e l h = some_grouped o.Resume m m f e (λ highest size p. refl)
      some_goes op m f e l h = untrue h

      -- on the ways of a choice
      pub record Before (op : Operation) : Type 0 where
        pub some : is_some (before_way op true (above (rest true).left)) ≡ true
        pub same_as : (onward : Bool) → above here.left ≡ before_way op onward (above (rest onward).left)

      some_by : (op : Operation) (onward : Bool) (x y : Option ℕ) (p q : Processor) → x ≡ before_way op onward y → is_some x ≡ true
          → ((m m' : ℕ) → above_choice op onward m ≡ Some m' → before m (values p) ≡ before m' (values q)) → Keeps x (values q) y (values p)
      some_by op onward None None p q e s h = λ others ns i. i
      some_by op onward (Some m') None p q e s h = absurd (cc)
      some_by op onward None (Some m) p q e s h = untrue s
      some_by op onward (Some m') (Some m) p q e s h = some_keeps m m' (values q) (values p) (h m m' (sym e))

      here_some : (op : Operation) → Before op → is_some (above here.left) ≡ true
      here_some op h = ap is_some (h.same_as true) ∙ h.some

      split_goes : (by : SplitKind) → Before (o.Split by) → ((size : ℕ) (part : Option ℕ) (p : Processor) (m m' : ℕ)
          → above_choice (o.Split by) (enters by part) m ≡ Some m' → before m (values (divided by size p part)) ≡ before m' (values p))
          → LeavesAtSplit next' all_outs (fork_counts gives) by here rest
      split_goes by h same' =
          parted by (λ size part p.
          some_by (o.Split by) (enters by part) (above here.left) (above (rest (enters by part)).left) (divided by size p part) p
          (h.same_as (enters by part)) (here_some (o.Split by) h) (same' size part p))

      less_one : (m m' : ℕ) → Some (suc m) ≡ Some m' → m' ≡ suc m
      less_one m m' e = cc

      one_below : (m m' : ℕ) (vs : List ℕ) → Some (suc m) ≡ Some m' → before m (before 1 vs) ≡ before m' vs
      one_below m m' vs e = before_one m vs ∙ ap (λ (n : ℕ). before n vs) (sym (less_one m m' e))

      waits_below : (m m' v : ℕ) (vs : List ℕ) → above_choice (o.Split AndThen) false m ≡ Some m' → before m (v ∷ before 1 vs) ≡ before m' vs
      waits_below zero m' v vs e = absurd (cc)
      waits_below (suc m) m' v vs e = one_below m m' vs e

      or_waits_below : (m m' v : ℕ) (vs : List ℕ) → above_choice (o.Split OrElse) false m ≡ Some m' → before m (v ∷ before 1 vs) ≡ before m' vs
      or_waits_below zero m' v vs e = absurd (cc)
      or_waits_below (suc m) m' v vs e = one_below m m' vs e

      no_way : (op : Operation) (y : Option ℕ) → is_some (before_way op true y) ≡ true → ((m : ℕ) → above_choice op true m ≡ None) → ⊥
      no_way op None e never = untrue e
      no_way op (Some m) e never = untrue (sym (ap is_some (never m)) ∙ e)

      pub ways_go : (op : Operation) → Before op → Meets here rest op → GoOn op here rest
      ways_go (o.Branch by) h met =
          locally (o.Branch by) refl (λ set onward p.
          some_by (o.Branch by) onward (above here.left) (above (rest onward).left) (drop_last 1 p) p (h.same_as onward) (here_some (o.Branch by) h) (λ m m' e. one_below m m' (values p) e))
      ways_go (o.Split IfElse) h met = (split_goes IfElse h by, met)
        where
          by : (size : ℕ) (part : Option ℕ) (p : Processor) (m m' : ℕ) → above_choice (o.Split IfElse) (enters IfElse part) m ≡ Some m' → before m (values (divided IfElse size p part)) ≡ before m' (values p)
          by size None p m m' e = one_below m m' (values p) e
          by size (Some i) p m m' e = one_below m m' (values p) e
      ways_go (o.Split AndThen) h met = (split_goes AndThen h by, tt)
        where
          by : (size : ℕ) (part : Option ℕ) (p : Processor) (m m' : ℕ) → above_choice (o.Split AndThen) (enters AndThen part) m ≡ Some m' → before m (values (divided AndThen size p part)) ≡ before m' (values p)
          by size None p m m' e = waits_below m m' 0 (values p) e
          by size (Some i) p m m' e = one_below m m' (values p) e
      ways_go (o.Split OrElse) h met = (split_goes OrElse h by, tt)
        where
          by : (size : ℕ) (part : Option ℕ) (p : Processor) (m m' : ℕ) → above_choice (o.Split OrElse) (enters OrElse part) m ≡ Some m' → before m (values (divided OrElse size p part)) ≡ before m' (values p)
          by size None p m m' e = or_waits_below m m' 1 (values p) e
          by size (Some i) p m m' e = one_below m m' (values p) e
      ways_go op h met = absurd (no_way op (above (rest true).left) h.some (λ m. refl))

      -- a `fork` takes the last one
      pub takes_one : above here.left ≡ Some 2 → ((onward : Bool) → above (rest onward).left ≡ None) → (size : ℕ) (part : Option ℕ) (p : Processor) (ns : List ℕ) → Pends here p ns
          → IsTaken next' all_outs (fork_counts gives) p (divided Fork size p part) (rest (is_some part)) ns
      takes_one two none size part p ns h =
          by ns (subst (λ (x : Option ℕ). has_number x (values p) (λ ms. are_waiting gives here.left here.callers p.callers ms) ns ≡ true) two h)
        where
          by : (ms : List ℕ) → has_number (Some 2) (values p) (λ us. are_waiting gives here.left here.callers p.callers us) ms ≡ true
              → IsTaken next' all_outs (fork_counts gives) p (divided Fork size p part) (rest (is_some part)) ms
          by [] h' = untrue h'
          by (n ∷ ms) h' =
              let both = and_parts (n == last (before 2 (values p))) (are_waiting gives here.left here.callers p.callers ms) h' in
              let way = is_some part in
              let waits : Waiting (rest way).left (rest way).callers (divided Fork size p part).callers ms
              = subst₂ (λ (cs : List (Code ℕ)) (calls : List Call). Waiting (rest way).left cs calls ms) (sym (on way).callers) (sym (divided_callers Fork size p part))
              (runs_on here.left (rest way).left (on way).leave here.callers p.callers ms both.1) in (
                ms,
                ap (λ (k : ℕ). k ∷ ms) (eqb-true n (last (before 2 (values p))) both.0),
                subst (λ (x : Option ℕ). has_number x (values (divided Fork size p part)) (λ us. are_waiting gives (rest way).left (rest way).callers (divided Fork size p part).callers us) ms ≡ true)
                    (sym (none way)) waits,
              )

    -- ---- calls

    enters_with : (g : Bool) (x : Option ℕ) (n : ℕ) (vs : List ℕ) (others : List ℕ → Bool) (ns : List ℕ) → MayCall g (o.Enter n) x
        → has_number (before_call g (o.Enter n) x) vs others ns ≡ true → waits_with g x (before n vs) others ns ≡ true
    enters_with true None n vs others ns may h = h
    enters_with true (Some zero) n vs others ns may h = untrue may
    enters_with true (Some (suc m)) n vs others ns may h = some_keeps m (more n m) vs (before n vs) (before_more n m vs) others ns h
    enters_with false None n vs others ns may h = h
    enters_with false (Some m) n vs others ns may h = some_keeps m (more n m) vs (before n vs) (before_more n m vs) others ns h

    gives_back : (g : Bool) (x : Option ℕ) (v : ℕ) (c : Call) (others : List ℕ → Bool) (ns : List ℕ) → waits_with g x c.values others ns ≡ true
        → has_number x (handed g v c).values others ns ≡ true
    gives_back true None v c others ns h = h
    gives_back true (Some zero) v c others ns h = untrue h
    gives_back true (Some (suc m)) v c others ns h = some_keeps (suc m) m c.values (v ∷ c.values) refl others ns h
    gives_back false None v c others ns h = h
    gives_back false (Some m) v c others ns h = h

    -- the code that is left behind a call waits
    pub enters_call : (op : Operation) (f : ℕ) (here : Work) (rest : Code ℕ) (callers : List (Code ℕ)) (w : Work) → is_enter op ≡ true
        → above here.left ≡ before_call (gives f) op (above rest) → here.callers ≡ callers → ((g : Bool) → all_leave g here.left ≡ true → all_leave g rest ≡ true)
        → MayCall (gives f) op (above rest) → w.callers ≡ rest ∷ callers → above w.left ≡ None → all_leave (gives f) w.left ≡ true
        → GoOn op here (λ onward. w)
    enters_call (o.Enter n) f here rest callers w is e same leave may waits none body = λ a p ns h.
        let others : (ms : List ℕ) → Waiting here.left here.callers p.callers ms → Waiting rest callers p.callers ms
        = λ ms r. runs_on here.left rest leave callers p.callers ms (subst (λ (cs : List (Code ℕ)). Waiting here.left cs p.callers ms) same r) in
        let first : has_number (before_call (gives f) (o.Enter n) (above rest)) (values p) (λ ms. are_waiting gives rest callers p.callers ms) ns ≡ true
        = number_others (before_call (gives f) (o.Enter n) (above rest)) (values p) (λ ms. are_waiting gives here.left here.callers p.callers ms) (λ ms. are_waiting gives rest callers p.callers ms) others ns
        (subst (λ (x : Option ℕ). has_number x (values p) (λ ms. are_waiting gives here.left here.callers p.callers ms) ns ≡ true) e h) in
        let caller : Call = record (p.call) { values = before n (values p) } in
        let all : Waiting w.left (rest ∷ callers) (caller ∷ p.callers) ns
        = waiting_by w.left rest callers caller p.callers ns (record {
          result = gives f;
          leave = body;
          waits = enters_with (gives f) (above rest) n (values p) (λ ms. are_waiting gives rest callers p.callers ms) ns may first;
        }) in
        subst (λ (x : Option ℕ). has_number x (values (entered n p)) (λ ms. are_waiting gives w.left w.callers (entered n p).callers ms) ns ≡ true) (sym none)
        (subst (λ (cs : List (Code ℕ)). Waiting w.left cs (caller ∷ p.callers) ns) (sym waits) all)
    enters_call op f here rest callers w is e same leave may waits none body = untrue is

    -- and goes on when its function leaves
    leaves_as : (g : Bool) (result framed : Bool) → leaves g (o.Leave result framed) ≡ true → g ≡ result
    leaves_as true true framed e = refl
    leaves_as false false framed e = refl
    leaves_as true false framed e = untrue e
    leaves_as false true framed e = untrue e

    leaves_call : (result framed : Bool) (here : Work) (c : Code ℕ) (cs : List (Code ℕ)) (w : Work) → above here.left ≡ None → here.callers ≡ c ∷ cs
        → ((g : Bool) → all_leave g here.left ≡ true → leaves g (o.Leave result framed) ≡ true)
        → w.callers ≡ cs → above w.left ≡ above c → ((g : Bool) → all_leave g c ≡ true → all_leave g w.left ≡ true) → GoOn (o.Leave result framed) here (λ onward. w)
    leaves_call result framed here c cs w e same ending waits above_same leave = λ set onward p ns h.
        by p.callers ns (last (values p)) (unframed framed p) (subst (λ (cs' : List (Code ℕ)). Waiting here.left cs' p.callers ns) same
        (subst (λ (x : Option ℕ). has_number x (values p) (λ ms. are_waiting gives here.left here.callers p.callers ms) ns ≡ true) e h))
      where
        by : (calls : List Call) (ns : List ℕ) (v : ℕ) (q : Processor) → Waiting here.left (c ∷ cs) calls ns → Pends w (to_caller result v q calls) ns
        by [] ns v q h = untrue h
        by (x ∷ xs) ns v q h =
            let r = result_of here.left c cs x xs ns h in
            let same_result : r.result ≡ result = leaves_as r.result result framed (ending r.result r.leave) in
            let back : has_number (above c) (handed result v x).values (λ ms. are_waiting gives c cs xs ms) ns ≡ true
            = gives_back result (above c) v x (λ ms. are_waiting gives c cs xs ms) ns
            (subst (λ (g : Bool). waits_with g (above c) x.values (λ ms. are_waiting gives c cs xs ms) ns ≡ true) same_result r.waits) in
            subst (λ (y : Option ℕ). has_number y (handed result v x).values (λ ms. are_waiting gives w.left w.callers xs ms) ns ≡ true) (sym above_same)
            (number_others (above c) (handed result v x).values (λ ms. are_waiting gives c cs xs ms) (λ ms. are_waiting gives w.left w.callers xs ms)
            (λ ms i. subst (λ (ds : List (Code ℕ)). Waiting w.left ds xs ms) (sym waits) (runs_on c w.left leave cs xs ms i)) ns back)

    -- the end of a call, or of `main`, behind which nothing is left
    last_of : (here w : Work) → above here.left ≡ None → here.callers ≡ [] → above w.left ≡ None → w.callers ≡ [] → (p q : Processor) (ns : List ℕ) → Pends here p ns → Pends w q ns
    last_of here w e same none waits p q ns h =
        subst (λ (x : Option ℕ). has_number x (values q) (λ ms. are_waiting gives w.left w.callers q.callers ms) ns ≡ true) (sym none)
        (subst (λ (cs : List (Code ℕ)). Waiting w.left cs q.callers ns) (sym waits)
        (subst (λ (cs : List (Code ℕ)). Waiting here.left cs p.callers ns) same
        (subst (λ (x : Option ℕ). has_number x (values p) (λ ms. are_waiting gives here.left here.callers p.callers ms) ns ≡ true) e h)))

    pub ends_last : (op : Operation) (here w : Work) → is_of_call op ≡ true → above here.left ≡ None → here.callers ≡ [] → above w.left ≡ None → w.callers ≡ [] → GoOn op here (λ onward. w)
    ends_last (o.Enter n) here w is e same none waits = λ a p ns h. last_of here w e same none waits p (with_answer (o.Enter n) a p) ns h
    ends_last (o.Leave result framed) here w is e same none waits = λ set onward p ns h. last_of here w e same none waits p (local set (o.Leave result framed) p) ns h
    ends_last o.Halt here w is e same none waits = λ highest lowest size p ns h. last_of here w e same none waits p (does o.Halt highest size p) ns h
    ends_last op here w is e same none waits = untrue is

    pub ends_first : (op : Operation) (g : Bool) (here : Work) (c : Code ℕ) (cs : List (Code ℕ)) (w : Work) → leaves g op ≡ true → above here.left ≡ None → here.callers ≡ c ∷ cs
        → ((h : Bool) → all_leave h here.left ≡ true → leaves h op ≡ true)
        → w.callers ≡ cs → above w.left ≡ above c → ((h : Bool) → all_leave h c ≡ true → all_leave h w.left ≡ true) → GoOn op here (λ onward. w)
    ends_first (o.Leave result framed) g here c cs w is e same ending waits above_same leave = leaves_call result framed here c cs w e same ending waits above_same leave
    ends_first op true here c cs w is e same ending waits above_same leave = untrue is
    ends_first op false here c cs w is e same ending waits above_same leave = untrue is
