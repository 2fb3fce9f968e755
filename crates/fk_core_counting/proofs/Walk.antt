-- Along code, as it is written into a list, the counts of the list are the levels of the states at its indices.
use Rattle.std.proofs.Common.{◌≡◌, ◌⊎◌, ℕ, suc, ◌+◌, ◌-◌, ◌≤◌, Bool, true, false, true≢false, List, [], ◌∷◌, ◌++◌, length, slice_get, Option, Some, None, inl, inr, refl, sym, ap, ◌∙◌, subst, arith, length-append}
use Rattle.std.specs.Prelude.{◌||◌}
use Rattle.fk_meaning_operation.specs.declared.operation.Operation.{Operation}
use Rattle.fk_meaning_operation.specs.declared.operation.Operation.TheVariants as o
use Rattle.fk_meaning_operation.specs.declared.operation.SplitKind.TheVariants as sk
use Rattle.fk_meaning_forms.specs.Code.{Code, done, perform, choose, while, until, turn, again, quit, break, continue, call, ends}
use Rattle.fk_meaning.specs.Shape as sh
use Rattle.fk_meaning.specs.Shape.{Exits, of_way, of_test, of_turn, splits, has_two_parts, waits, is_chosen, ends_part, Either, Shape}
use Rattle.fk_meaning.specs.Behind.{opens_body, is_shrink}
use Rattle.fk_meaning.proofs.Spine.{untrue}
use Rattle.fk_core.specs.declared.op.CoreOp.{CoreOp}
use Rattle.fk_core.specs.Next.{is_jump}
use Rattle.fk_core.specs.CodeAt.{Around}
use Rattle.fk_core_flat.specs.Items as w
use Rattle.fk_core_flat.specs.Items.{Item, jump, act, IsItem, Has, way_of, goes_away, aim}
use Rattle.fk_core_flat.specs.Flat.{begins_here, skip, gap, extent, behind, label, flat}
use Rattle.fk_core_flat.specs.Shape.{is_done, IsOpening, IsShaped}
use Rattle.fk_core_flat.proofs.Having.{has_front, has_back}
use Rattle.fk_core_flat.proofs.Lengths.{skips}
use Rattle.fk_core_flat.proofs.Parts.{choice_at, turns_at, rounds_at, entering_at, has_choice, has_turns, has_rounds, has_entering}
use Rattle.fk_core_flat.proofs.CodeAt.{opening_begins}
use Rattle.fk_core_liveness.specs.declared.places.FunctionKind.{FunctionKind}
use Rattle.fk_core_liveness.specs.declared.places.FunctionKind.TheVariants.{Called}
use Rattle.fk_core_typing.specs.Values.{Place, with_frame, entered, place_behind, MayBeIn}
use Rattle.fk_core_typing.proofs.Done.{by_done}
use Rattle.fk_core_typing.proofs.System.{System, Loop, Judged}
use Rattle.fk_core_typing.proofs.Marks.{skip_mark, skip_length, marks, mark_length}
use Rattle.fk_lockstep_structure.specs.Placed.{Who, OfBody, inner, who_in, callee_of, may_perform, Placed}
use Rattle.fk_core_levels.specs.Count.{read, enters}
use Rattle.fk_core_counting.specs.Laws.{under, takes_in_part, ShrinksIn, FramesIn}
use Rattle.fk_core_counting.proofs.Folding.{Parts, none, at, past, worded, Fold, fold, step, told_by, after_operation, told_of_operation, none_read, after_jump, told_of_jump, opening_goes_on}
use Rattle.fk_core_counting.proofs.Ways.{parts_at, Stand, stand_at, stand_inner, stand_begun, Enters, Says, says_straight, says_onto, says_into, says_out, straight_on, quit_on, says_quit, out_on, here_of, resume_of, after_straight, outside_parts, straight_worded, after_onto, after_quit, no_enter, either_here, out_here, into_here, ways}

-- the places of states, and how they change
pub record KeepsPlaces (sys : System) (place : sys.State → Place) (place_of : ℕ → FunctionKind) : Type 0 where
  pub grants : (s t : sys.State) → sys.Grants s t → place s ≡ place t
  pub stands : (s t : sys.State) → sys.Stands s t → place s ≡ place t
  pub behind : (op : Operation) (onward : Bool) (s : sys.State) → place (sys.behind op onward s) ≡ place_behind op onward (place s)
  pub begins : (op : Operation) (f : ℕ) (gives : Bool) → place (sys.begin op f gives) ≡ entered (Called gives)
  pub enters : (op : Operation) (f : ℕ) (gives : Bool) → (frame : Option ℕ) × (place (sys.entered op f gives) ≡ with_frame (Called gives) frame)
  pub calls : (op : Operation) (gives : Bool) (s : sys.State) → place (sys.behind_call op gives s) ≡ place s
  pub may : (op : Operation) (s : sys.State) → sys.May op s → MayBeIn op (place s)
  pub first : (f : ℕ) → (frame : Option ℕ) × (place (sys.first f) ≡ with_frame (place_of f) frame)

-- a loop that shrinks is in the only part of a split
in_either : (b : Bool) (A B G : Type 0) → Either b ((false ≡ true) × A × B) G → G
in_either true A B G e = untrue e.0
in_either false A B G e = e

shrink_is : (op : Operation) → is_shrink op ≡ true → op ≡ o.Shrink
shrink_is o.Shrink e = refl
shrink_is op e = untrue e

test_shrinks : (code : Code ℕ) (shrinking closing b : Bool) → shrinking ≡ true → Shape false closing (of_test shrinking) code → ShrinksIn b code → b ≡ true
test_shrinks done shrinking closing b e shape h = absurd (true≢false shape.2)
test_shrinks (perform t op rest) shrinking closing b e shape h = test_shrinks rest shrinking false b e (in_either (ends_part op) ((of_test shrinking).tests ≡ false) (rest ≡ done) (Shape false false (of_test shrinking) rest) shape.2) h
test_shrinks (choose t op x y rest) shrinking closing b e shape h = test_shrinks rest shrinking (opens_body op) b e shape.6 h.2
test_shrinks (while test body last rest) shrinking closing b e shape h = test_shrinks rest shrinking false b e (in_either shape.1 ((of_test shrinking).tests ≡ false) (rest ≡ done) (Shape false false (of_test shrinking) rest) shape.5) h.3
test_shrinks (until body test rest) shrinking closing b e shape h = test_shrinks rest shrinking false b e (in_either shape.1 ((of_test shrinking).tests ≡ false) (rest ≡ done) (Shape false false (of_test shrinking) rest) shape.4) h.2
test_shrinks (turn test body last rest) shrinking closing b e shape h = absurd shape
test_shrinks (again test body last rest) shrinking closing b e shape h = absurd shape
test_shrinks (quit t op rest) shrinking closing b e shape h = h.0 (shrink_is op (shape.4 ∙ e))
test_shrinks (break rest) shrinking closing b e shape h = test_shrinks rest shrinking false b e shape.2 h
test_shrinks (continue rest) shrinking closing b e shape h = test_shrinks rest shrinking false b e shape.2 h
test_shrinks (call t op f opening rest) shrinking closing b e shape h = test_shrinks rest shrinking false b e shape.3 h
test_shrinks (ends t op rest) shrinking closing b e shape h = test_shrinks rest shrinking false b e shape.3 h

module _ (core : List CoreOp) (entry : ℕ → ℕ) (may_call : (in_group : Bool) → (function : ℕ) → Bool) (has_body : ℕ → Bool) (sys : System) (place : sys.State → Place) (place_of : ℕ → FunctionKind)
    (keeps : KeepsPlaces sys place place_of) (come : ℕ → Fold) (goes : (i : ℕ) → come (suc i) ≡ step (slice_get core i) (come i)) where
  abbrev pub told : ℕ → Parts
  told i = told_by (slice_get core i) (come i)

  abbrev pub parts_of : sys.State → Parts
  parts_of s = parts_at (place s)

  abbrev Stands : Who → sys.State → Parts → Type 0
  Stands who s k = Stand who (place s) k

  -- what is said of the operation at an index
  abbrev pub SaysAt : ℕ → sys.State → Type 0
  SaysAt i s = (op : CoreOp) (operation : Operation) → slice_get core i ≡ Some op → read op ≡ Some operation → Says operation (place s)

  abbrev pub AreRight : ℕ → List sys.State → Type 0
  AreRight i [] = Unit {0}
  AreRight i (s ∷ more) = ((told i ≡ parts_of s) × SaysAt i s) × AreRight (suc i) more

  right_both : (i r : ℕ) (xs ys : List sys.State) → r ≡ i + length xs → AreRight i xs → AreRight r ys → AreRight i (xs ++ ys)
  right_both i r [] ys e a b = let f : r ≡ i = omega arith in subst (λ j. AreRight j ys) f b
  right_both i r (x ∷ xs) ys e a b = let f : r ≡ suc i + length xs = omega arith in (a.0, right_both (suc i) r xs ys f a.1 b)

  -- what is so behind code that ends before an index
  abbrev Behind : (r : ℕ) → (k : Parts) → Type 0
  Behind r k = come r ≡ fold k false

  moved : (i r : ℕ) (k : Parts) → r ≡ i → Behind i k → Behind r k
  moved i r k e h = ap come e ∙ h

  -- behind a part the frame of its last operations may be open. Of two parts the first one ends without it
  abbrev Ended : (part only : Bool) → Parts → ℕ → Type 0
  Ended false only n r = Behind r n
  Ended true only n r = (words : ℕ) × Behind r (worded words n) × (only ≡ false → words ≡ 0)

  ended_no_part : (part only : Bool) (n : Parts) (r : ℕ) → part ≡ false → Behind r n → Ended part only n r
  ended_no_part true only n r e h = absurd (true≢false e)
  ended_no_part false only n r e h = h

  ended_only : (part only : Bool) (n : Parts) (r : ℕ) → only ≡ true → Behind r n → Ended part only n r
  ended_only true only n r e h = (n.forks.words, h, λ none'. absurd (true≢false (sym e ∙ none')))
  ended_only false only n r e h = h

  ended_part : (part only : Bool) (n : Parts) (r : ℕ) → part ≡ true → Behind r (worded 0 n) → Ended part only n r
  ended_part true only n r e h = (0, h, λ none'. refl)
  ended_part false only n r e h = absurd (true≢false (sym e))

  -- a frame that is taken in a part makes no difference behind it
  ended_with : (part only : Bool) (n' n : Parts) (r : ℕ) → (part ≡ false → n' ≡ n) → ((words : ℕ) → worded words n' ≡ worded words n) → Ended part only n' r → Ended part only n r
  ended_with true only n' n r same with' h = (h.0, h.1 ∙ ap (λ z. fold z false) (with' h.0), h.2)
  ended_with false only n' n r same with' h = h ∙ ap (λ z. fold z false) (same refl)

  moved_to : (E : ℕ → Type 0) (i r : ℕ) → r ≡ i → E i → E r
  moved_to E i r e h = subst E (sym e) h

  -- ---- one item

  abbrev Stood : ℕ → Item → Type 0
  Stood i item = (c : CoreOp) × (slice_get core i ≡ Some c) × IsItem item c

  same_op : (a b : CoreOp) (x : Option CoreOp) → x ≡ Some a → x ≡ Some b → a ≡ b
  same_op a b x p q = cc

  same_operation : (a b : Operation) (x : Option Operation) → x ≡ Some a → x ≡ Some b → a ≡ b
  same_operation a b x p q = cc

  act_told : (i site : ℕ) (k : Parts) (op : Operation) (target : ℕ) → (h : Stood i (act site op target)) → Behind i k → told i ≡ at (Some op) k
  act_told i site k op target h e =
      ap (λ x. told_by x (come i)) h.1 ∙ ap (told_by (Some h.0)) e ∙ told_of_operation h.0 op h.2.0 k

  act_goes : (i site : ℕ) (k : Parts) (b : Bool) (op : Operation) (target : ℕ) → (h : Stood i (act site op target)) → come i ≡ fold k b
      → come (suc i) ≡ fold (past (Some op) (at (Some op) k)) (enters b (Some op))
  act_goes i site k b op target h e =
      goes i ∙ ap (λ x. step x (come i)) h.1 ∙ ap (step (Some h.0)) e ∙ after_operation h.0 op h.2.0 k b

  act_says : (i site : ℕ) (op : Operation) (target : ℕ) (s : sys.State) → Stood i (act site op target) → Says op (place s) → SaysAt i s
  act_says i site op target s h says = λ c operation there is.
      let same = same_op h.0 c (slice_get core i) h.1 there in
      let own = subst (λ (x : CoreOp). read x ≡ Some op) same h.2.0 in
      subst (λ (x : Operation). Says x (place s)) (same_operation op operation (read c) own is) says

  jump_told : (i : ℕ) (k : Parts) (target : ℕ) → (h : Stood i (jump target)) → Behind i k → told i ≡ k
  jump_told i k target h e = ap (λ x. told_by x (come i)) h.1 ∙ ap (told_by (Some h.0)) e ∙ told_of_jump h.0 h.2.0 k

  jump_goes : (i : ℕ) (k : Parts) (target : ℕ) (b : Bool) → (h : Stood i (jump target)) → come i ≡ fold k b → come (suc i) ≡ fold k false
  jump_goes i k target b h e = goes i ∙ ap (λ x. step x (come i)) h.1 ∙ ap (step (Some h.0)) e ∙ after_jump h.0 h.2.0 k b

  jump_says : (i target : ℕ) (s : sys.State) → Stood i (jump target) → SaysAt i s
  jump_says i target s h = λ c operation there is.
      let same = same_op h.0 c (slice_get core i) h.1 there in
      let jumps = subst (λ (x : CoreOp). is_jump x ≡ true) same h.2.0 in
      absurd (let clash = sym (none_read c jumps) ∙ is in cc)

  opening_told : (i : ℕ) (k : Parts) (item : Item) → (h : Stood i item) → come i ≡ fold k true → told i ≡ none
  opening_told i k item h e = ap (λ x. told_by x (come i)) h.1 ∙ ap (told_by (Some h.0)) e

  skipped : (b : Bool) (j target : ℕ) (s : sys.State) (k : Parts) → parts_of s ≡ k → Has core j (skip b target) → Behind j k → AreRight j (skip_mark b s) × Behind (j + gap b) k
  skipped true j target s k e h f = (tt, moved j (j + gap true) k (omega arith) f)
  skipped false j target s k e h f = (
    ((jump_told j k target h.0 f ∙ sym e, jump_says j target s h.0), tt),
    moved (suc j) (j + gap false) k (omega arith) (jump_goes j k target false h.0 f),
  )

  -- ---- the opening of a call

  abbrev IsOutside : sys.State → Type 0
  IsOutside s = Stands OfBody s none

  outside : (frame : Option ℕ) (gives : Bool) (s : sys.State) → place s ≡ with_frame (Called gives) frame → IsOutside s
  outside frame gives s e = stand_at OfBody (place s) (with_frame (Called gives) frame) none e (stand_begun OfBody (Called gives) frame (λ f. refl))

  opened : (code : Code ℕ) (l : Option (Loop sys)) (s e : sys.State) (i k : ℕ) (n : Parts) (who : Who) → IsOpening code → Placed may_call who false code → (t : Judged sys l s code e)
      → Has core i (flat entry true None i k code) → IsOutside s → come i ≡ fold n true
      → AreRight i (marks sys true l s code e t) × (come (i + extent true code) ≡ fold n true)
  opened done l s e i k n who shape placed t h stand f = (tt, ap come (let g : i + 0 ≡ i = omega arith in g) ∙ f)
  opened (perform m op rest) l s e i k n who shape placed t h stand f =
      let here' = goes_away (way_of op) || begins_here true rest in
      let g : here' ≡ true = ap (λ x. goes_away x || begins_here true rest) shape.0 ∙ opening_begins core entry rest shape.1 in
      let r = sys.behind op true s in
      let out = outside_parts op (place s) (keeps.may op s t.0) (ap (λ (x : Parts). x.around) stand.is) in
      let others = subst (λ (b : Bool). Has core (suc i) (skip b (label None (suc i + gap b) k rest) ++ flat entry true None (suc i + gap b) k rest)) g h.1 in
      let next : suc i + 0 ≡ suc i = omega arith in
      let there = subst (λ j. Has core (suc i) (flat entry true None j k rest)) next others in
      let onward = act_goes i m n true op (aim (way_of op) k) h.0 f
      ∙ ap (λ x. fold (past (Some op) x) (enters true (Some op))) (here_of op n placed.0) ∙ ap (λ x. fold x (enters true (Some op))) (after_straight op n shape.0 out) ∙ ap (fold n) (opening_goes_on op) in
      let went = subst (λ (x : Parts). Stand OfBody (place_behind op true (place s)) x) (after_straight op none shape.0 out) (straight_on OfBody op (place s) none shape.0 (keeps.may op s t.0) stand) in
      let stand' = stand_at OfBody (place r) (place_behind op true (place s)) none (keeps.behind op true s) went in
      let more = opened rest l r e (suc i) k n who shape.1 placed.1 t.1 there stand' onward in
      let far : i + suc (0 + extent true rest) ≡ suc i + extent true rest = omega arith in (
        (
          (opening_told i n (act m op (aim (way_of op) k)) h.0 f ∙ sym stand.is, act_says i m op (aim (way_of op) k) s h.0 (says_straight op (place s) shape.0)),
          subst (λ (b : Bool). AreRight (suc i) (skip_mark b r ++ marks sys true l r rest e t.1)) (sym g) more.0,
        ),
        ap (λ (b : Bool). come (i + suc (gap b + extent true rest))) g ∙ ap come far ∙ more.1,
      )
  opened (choose m op x y rest) l s e i k n who shape placed t h stand f = absurd shape
  opened (while a b c rest) l s e i k n who shape placed t h stand f = absurd shape
  opened (until a b rest) l s e i k n who shape placed t h stand f = absurd shape
  opened (turn a b c rest) l s e i k n who shape placed t h stand f = absurd shape
  opened (again a b c rest) l s e i k n who shape placed t h stand f = absurd shape
  opened (quit m op rest) l s e i k n who shape placed t h stand f = absurd shape
  opened (break rest) l s e i k n who shape placed t h stand f = absurd shape
  opened (continue rest) l s e i k n who shape placed t h stand f = absurd shape
  opened (call m op f' opening rest) l s e i k n who shape placed t h stand f = absurd shape
  opened (ends m op rest) l s e i k n who shape placed t h stand f = absurd shape

  -- ---- code

  -- what code comes to: the counts at its indices, and what is open behind it
  abbrev Counted : (near : Bool) (l : Option (Loop sys)) (s : sys.State) (code : Code ℕ) (e : sys.State) → Judged sys l s code e → (i : ℕ) (E : ℕ → Type 0) → Type 0
  Counted near l s code e t i E = AreRight i (marks sys near l s code e t) × E (i + extent near code)

  counted_done : (code : Code ℕ) → is_done code ≡ true → (near : Bool) (l : Option (Loop sys)) (s e : sys.State) (t : Judged sys l s code e) (i : ℕ) (E : ℕ → Type 0) → E i → Counted near l s code e t i E
  counted_done code is near l s e t i E f =
      by_done (λ x. (t' : Judged sys l s x e) → Counted near l s x e t' i E) code is (λ t'. (tt, moved_to E i (i + 0) (omega arith) f)) t

  -- code behind an operation, after a jump to it if that is somewhere else
  abbrev Goes : (rest : Code ℕ) (near : Bool) (c : Around) (l : Option (Loop sys)) (s e : sys.State) → Judged sys l s rest e → (k : ℕ) (n : Parts) (E : ℕ → Type 0) → Type 0
  Goes rest near c l s e t k n E = (j : ℕ) → Has core j (flat entry near c j k rest) → Behind j n → Counted near l s rest e t j E

  falls : (b : Bool) (rest : Code ℕ) (near : Bool) (c : Around) (l : Option (Loop sys)) (s e : sys.State) (t : Judged sys l s rest e) (j k : ℕ) (n : Parts) (E : ℕ → Type 0) → parts_of s ≡ n
      → Has core j (skip b (label c (j + gap b) k rest) ++ flat entry near c (j + gap b) k rest) → Behind j n → Goes rest near c l s e t k n E
      → AreRight j (skip_mark b s ++ marks sys near l s rest e t) × E (j + (gap b + extent near rest))
  falls b rest near c l s e t j k n E stand h f more =
      let target = label c (j + gap b) k rest in
      let r = j + gap b in
      let a = skips b target in
      let to : r ≡ j + length (skip b target) = ap (λ x. j + x) (sym a) in
      let first = skipped b j target s n stand (has_front core j (skip b target) (flat entry near c r k rest) h) f in
      let others = more r (has_back core j r (skip b target) (flat entry near c r k rest) to h) first.1 in
      let far : j + (gap b + extent near rest) ≡ r + extent near rest = omega arith in (
        right_both j r (skip_mark b s) (marks sys near l s rest e t) (ap (λ x. j + x) (sym (skip_length b s))) first.0 others.0,
        moved_to E (r + extent near rest) (j + (gap b + extent near rest)) far others.1,
      )

  not_into : (op : Operation) → (way_of op ≡ w.straight) ⊎ (way_of op ≡ w.onto) → way_of op ≡ w.into → ⊥
  not_into op (inl e) f = let clash = sym e ∙ f in cc
  not_into op (inr e) f = let clash = sym e ∙ f in cc

  either_into : (op : Operation) → way_of op ≡ w.either → way_of op ≡ w.into → ⊥
  either_into op e f = let clash = sym e ∙ f in cc

  out_into : (op : Operation) → way_of op ≡ w.out → way_of op ≡ w.into → ⊥
  out_into op e f = let clash = sym e ∙ f in cc

  -- an operation by itself
  one : (resuming : Bool) (op : Operation) (m n : Parts) → may_perform resuming op ≡ true → Enters resuming m n → at (Some op) m ≡ n
  one true op m n may e = subst (λ (x : Operation). at (Some x) m ≡ n) (sym (resume_of op may)) e
  one false op m n may e = here_of op m may ∙ e

  not_resuming : (resuming : Bool) (m n : Parts) → resuming ≡ false → Enters resuming m n → m ≡ n
  not_resuming true m n e f = absurd (true≢false e)
  not_resuming false m n e f = f

  -- ---- the pieces of a walk

  performs_by : (op : Operation) (rest : Code ℕ) → (way_of op ≡ w.straight) ⊎ ((way_of op ≡ w.onto) × (is_done rest ≡ true)) → (way_of op ≡ w.straight) ⊎ (way_of op ≡ w.onto)
  performs_by op rest (inl a) = inl a
  performs_by op rest (inr a) = inr a.0

  says_performed : (op : Operation) (p : Place) → (way_of op ≡ w.straight) ⊎ (way_of op ≡ w.onto) → Says op p
  says_performed op p (inl a) = says_straight op p a
  says_performed op p (inr a) = says_onto op p a

  no_end : (op : Operation) → way_of op ≡ w.straight → ends_part op ≡ false
  no_end o.End a = absurd (cc)
  no_end op a = refl

  part_ends : (op : Operation) (E G : Type 0) → way_of op ≡ w.onto → Either (ends_part op) E G → E
  part_ends o.End E G a either = either
  part_ends op E G a either = absurd (let z = a in cc)

  goes_on : (b : Bool) (E G : Type 0) → b ≡ false → Either b E G → G
  goes_on true E G a either = absurd (true≢false a)
  goes_on false E G a either = either

  performed : (op : Operation) (rest : Code ℕ) (near : Bool) (c : Around) (l : Option (Loop sys)) (s e : sys.State) (t : Judged sys l (sys.behind op true s) rest e) (i k : ℕ) (n : Parts) (who : Who)
      (part : Bool) (x : Exits) (E : ℕ → Type 0) → (way_of op ≡ w.straight) ⊎ ((way_of op ≡ w.onto) × (is_done rest ≡ true))
      → Either (ends_part op) ((part ≡ true) × (x.tests ≡ false) × (rest ≡ done)) (Shape part false x rest)
      → Has core (suc i) (skip (goes_away (way_of op) || begins_here near rest) (label c (suc i + gap (goes_away (way_of op) || begins_here near rest)) k rest)
      ++ flat entry near c (suc i + gap (goes_away (way_of op) || begins_here near rest)) k rest)
      → MayBeIn op (place s) → Stands who s n → Behind (suc i) (past (Some op) n)
      → (way_of op ≡ w.straight → Shape part false x rest → Stands who (sys.behind op true s) (past (Some op) n) → Goes rest near c l (sys.behind op true s) e t k (past (Some op) n) E)
      → (way_of op ≡ w.onto → part ≡ true → E (suc i))
      → AreRight (suc i) (skip_mark (goes_away (way_of op) || begins_here near rest) (sys.behind op true s) ++ marks sys near l (sys.behind op true s) rest e t)
      × E (suc i + (gap (goes_away (way_of op) || begins_here near rest) + extent near rest))
  performed op rest near c l s e t i k n who part x E (inl a) either h may stand g more end =
      let r = sys.behind op true s in
      let stand' = stand_at who (place r) (place_behind op true (place s)) (past (Some op) n) (keeps.behind op true s) (straight_on who op (place s) n a may stand) in
      falls (goes_away (way_of op) || begins_here near rest) rest near c l r e t (suc i) k (past (Some op) n) E stand'.is h g (more a (goes_on (ends_part op) _ _ (no_end op a) either) stand')
  performed op rest near c l s e t i k n who part x E (inr a) either h may stand g more end =
      let r = sys.behind op true s in
      let b : (goes_away (way_of op) || begins_here near rest) ≡ true = ap (λ z. goes_away z || begins_here near rest) a.0 in
      let others = counted_done rest a.1 near l r e t (suc i) E (end a.0 (part_ends op ((part ≡ true) × (x.tests ≡ false) × (rest ≡ done)) (Shape part false x rest) a.0 either).0) in
      let far : suc i + (0 + extent near rest) ≡ suc i + extent near rest = omega arith in (
        subst (λ z. AreRight (suc i) (skip_mark z r ++ marks sys near l r rest e t)) (sym b) others.0,
        subst (λ z. E (suc i + (gap z + extent near rest))) (sym b) (moved_to E (suc i + extent near rest) (suc i + (0 + extent near rest)) far others.1),
      )

  -- the second way of a choice, and what is open behind it
  abbrev Comes : Operation → Parts → ℕ → Type 0
  Comes op n r = (m : Parts) × Behind r m × Enters (splits op) m n

  second_way : (op : Operation) (y : Code ℕ) (after' : Bool) (l : Option (Loop sys)) (s u : sys.State) (t : Judged sys l (sys.behind op false s) y u) (r : ℕ) (n : Parts) (who : Who) (only : Bool) → is_chosen op ≡ true
      → Stand who (place_behind op false (place s)) (past (Some op) n) ⊎ (waits op ≡ true) → (waits op ≡ true → y ≡ done) → Enters (splits op) (past (Some op) n) n
      → Ended (splits op) (under op only) (past (Some op) n) r
      → (Stands who (sys.behind op false s) (past (Some op) n) → Behind r (past (Some op) n)
      → Counted after' l (sys.behind op false s) y u t r (Ended (has_two_parts op) (under op only) (past (Some op) n)))
      → Counted after' l (sys.behind op false s) y u t r (Comes op n)
  second_way (o.Branch onward) y after' l s u t r n who only chosen (inl a) empty fits g more =
      let op = o.Branch onward in
      let two = more (stand_at who (place (sys.behind op false s)) (place_behind op false (place s)) (past (Some op) n) (keeps.behind op false s) a) g in
      (two.0, (past (Some op) n, two.1, fits))
  second_way (o.Branch onward) y after' l s u t r n who only chosen (inr a) empty fits g more = untrue a
  second_way (o.Split sk.IfElse) y after' l s u t r n who only chosen (inl a) empty fits g more =
      let op = o.Split sk.IfElse in
      let n' = past (Some op) n in
      let two =
      more (stand_at who (place (sys.behind op false s)) (place_behind op false (place s)) n' (keeps.behind op false s) a)
      (g.1 ∙ ap (λ words. fold (worded words n') false) (g.2 refl)) in
      (two.0, (worded two.1.0 n', two.1.1, fits))
  second_way (o.Split sk.IfElse) y after' l s u t r n who only chosen (inr a) empty fits g more = untrue a
  second_way (o.Split by) y after' l s u t r n who only chosen either empty fits g more =
      let op = o.Split by in
      counted_done y (ap is_done (empty refl)) after' l (sys.behind op false s) u t r (Comes op n) (worded g.0 (past (Some op) n), g.1, fits)
  second_way o.Begin y after' l s u t r n who only chosen either empty fits g more =
      counted_done y (ap is_done (empty refl)) after' l (sys.behind o.Begin false s) u t r (Comes o.Begin n) (worded g.0 (past (Some o.Begin) n), g.1, fits)
  second_way o.Farm y after' l s u t r n who only chosen either empty fits g more =
      counted_done y (ap is_done (empty refl)) after' l (sys.behind o.Farm false s) u t r (Comes o.Farm n) (past (Some o.Farm) n, g, fits)
  second_way o.Seq y after' l s u t r n who only chosen either empty fits g more =
      counted_done y (ap is_done (empty refl)) after' l (sys.behind o.Seq false s) u t r (Comes o.Seq n) (past (Some o.Seq) n, g, fits)
  second_way op y after' l s u t r n who only chosen either empty fits g more = untrue chosen

  -- what stands behind a loop. Nothing stands behind one that shrinks
  onward_of : (b : Bool) (part : Bool) (x : Exits) (rest : Code ℕ) (only : Bool) → (b ≡ true → only ≡ true) → Either b ((part ≡ true) × (x.tests ≡ false) × (rest ≡ done)) (Shape part false x rest)
      → (Shape part false x rest) ⊎ ((is_done rest ≡ true) × (only ≡ true))
  onward_of true part x rest only shrinks a = inr (ap is_done a.2, shrinks refl)
  onward_of false part x rest only shrinks a = inl a

  no_part_behind : (part : Bool) (x : Exits) (rest : Code ℕ) → is_done rest ≡ true → Shape part false x rest → part ≡ false
  no_part_behind part x rest is shape = by_done (λ code. Shape part false x code → part ≡ false) rest is (λ shape'. shape'.1) shape

  left_behind : (round : Loop sys) (rest : Code ℕ) (near : Bool) (l : Option (Loop sys)) (s e : sys.State) (t : Judged sys l round.left rest e) (r : ℕ) (n : Parts) (who : Who) (part only : Bool) (x : Exits)
      → sys.Grants s round.turn → sys.Stands round.left round.turn ⊎ (is_done rest ≡ true) → (Shape part false x rest) ⊎ ((is_done rest ≡ true) × (only ≡ true)) → Stands who s n → Behind r n
      → (Shape part false x rest → Stands who round.left n → Counted near l round.left rest e t r (Ended part only n)) → Counted near l round.left rest e t r (Ended part only n)
  left_behind round rest near l s e t r n who part only x granted stands (inr b) stand g more = counted_done rest b.0 near l round.left e t r (Ended part only n) (ended_only part only n r b.1 g)
  left_behind round rest near l s e t r n who part only x granted (inr a) (inl b) stand g more =
      counted_done rest a near l round.left e t r (Ended part only n) (ended_no_part part only n r (no_part_behind part x rest a b) g)
  left_behind round rest near l s e t r n who part only x granted (inl a) (inl b) stand g more =
      more b (stand_at who (place round.left) (place s) n (keeps.stands round.left round.turn a ∙ sym (keeps.grants s round.turn granted)) stand)

  -- the second part of a split begins like the first one
  in_second : (op : Operation) (y : Code ℕ) → is_chosen op ≡ true → (waits op ≡ true → y ≡ done) → FramesIn (splits op) y → FramesIn (has_two_parts op) y
  in_second (o.Branch onward) y chosen empty frames = frames
  in_second (o.Split sk.IfElse) y chosen empty frames = frames
  in_second (o.Split by) y chosen empty frames = subst (λ (code : Code ℕ). FramesIn false code) (sym (empty refl)) tt
  in_second o.Begin y chosen empty frames = subst (λ (code : Code ℕ). FramesIn false code) (sym (empty refl)) tt
  in_second o.Farm y chosen empty frames = frames
  in_second o.Seq y chosen empty frames = frames
  in_second op y chosen empty frames = untrue chosen

  pub walk : (code : Code ℕ) (near : Bool) (c : Around) (l : Option (Loop sys)) (s e : sys.State) (i k : ℕ) (m n : Parts) (who : Who) (resuming in_loop part closing : Bool) (x : Exits) (in_split first : Bool)
      → IsShaped has_body in_loop code → Shape part closing x code → Placed may_call who resuming code → (t : Judged sys l s code e) → Has core i (flat entry near c i k code)
      → ShrinksIn in_split code → FramesIn first code → (first ≡ true → part ≡ true) → (in_split ≡ true → 1 ≤ n.levels) → Stands who s n → Enters resuming m n → Behind i m
      → Counted near l s code e t i (Ended part in_split n)
  walk done near c l s e i k m n who resuming in_loop part closing x in_split first shaped shape placed t h shrinks frames heads deep stand fits f =
      (tt, moved_to (Ended part in_split n) i (i + 0) (omega arith) (ended_no_part part in_split n i shape.1 (f ∙ ap (λ z. fold z false) (not_resuming resuming m n placed fits))))
  walk (perform site op rest) near c l s e i k m n who resuming in_loop part closing x in_split first shaped shape placed t h shrinks frames heads deep stand fits f =
      let here' = goes_away (way_of op) || begins_here near rest in
      let r = sys.behind op true s in
      let ways' = performs_by op rest shaped.0 in
      let mine = one resuming op m n placed.0 fits in
      let n' = past (Some op) n in
      let onward : Behind (suc i) n' = act_goes i site m false op (aim (way_of op) k) h.0 f ∙ ap (λ z. fold (past (Some op) z) (enters false (Some op))) mine
      ∙ ap (fold n') (no_enter op false (not_into op ways')) in
      let none_taken : part ≡ false → takes_in_part op ≡ true → ⊥ = λ free takes. true≢false (sym (heads (frames.0 takes)) ∙ free) in
      let both = performed op rest near c l s e t.1 i k n who part x (Ended part in_split n) shaped.0 shape.2 h.1 (keeps.may op s t.0) stand onward
      (λ straight shape' stand' j there g.
      let deep' : in_split ≡ true → 1 ≤ n'.levels = λ is. subst (λ (y : Parts). 1 ≤ y.levels) (sym (straight_worded op n 0 straight)) (deep is) in
      let more = walk rest near c l r e j k n' n' who false in_loop part false x in_split false shaped.1 shape' placed.1 t.1 there shrinks frames.1 (λ is. untrue is) deep' stand' refl g in
      (more.0, ended_with part in_split n' n (j + extent near rest) (λ free. after_straight op n straight (none_taken free)) (λ words. straight_worded op n words straight) more.1))
      (λ onto is. ended_part part in_split n (suc i) is (onward ∙ ap (λ z. fold z false) (after_onto op n onto))) in
      let far : i + suc (gap here' + extent near rest) ≡ suc i + (gap here' + extent near rest) = omega arith in (
        ((act_told i site m op (aim (way_of op) k) h.0 f ∙ mine ∙ sym stand.is, act_says i site op (aim (way_of op) k) s h.0 (says_performed op (place s) ways')), both.0),
        moved_to (Ended part in_split n) (suc i + (gap here' + extent near rest)) (i + suc (gap here' + extent near rest)) far both.1,
      )
  walk (choose site op x' y rest) near c l s e i k m n who resuming in_loop part closing x in_split first shaped shape placed t h shrinks frames heads deep stand fits f =
      let q = choice_at entry x' y rest near c i k in
      let has = has_choice entry core x' y rest near c i k h.1 in
      let u = t.1 in
      let a = sys.behind op true s in
      let b = sys.behind op false s in
      let js = skip_mark q.here a in
      let xs = marks sys q.beside l a x' u t.2 in
      let ys = marks sys q.after l b y u t.3 in
      let zs = marks sys near l u rest e t.4 in
      let lj = skip_length q.here a in
      let lx = mark_length sys q.beside l a x' u t.2 in
      let ly = mark_length sys q.after l b y u t.3 in
      let e1 = length-append js xs in
      let e2 = length-append (js ++ xs) ys in
      let m' = not_resuming resuming m n placed.0 fits in
      let mine = either_here op m shaped.0 ∙ m' in
      let n' = past (Some op) n in
      let two = ways (place s) n who op placed.1 (keeps.may op s t.0) stand in
      let onward : Behind (suc i) n' = act_goes i site m false op (label c q.second q.next y) h.0 f ∙ ap (λ z. fold (past (Some op) z) (enters false (Some op))) mine
      ∙ ap (fold n') (no_enter op false (either_into op shaped.0)) in
      let stand_a = stand_at (who_in who op) (place a) (place_behind op true (place s)) n' (keeps.behind op true s) two.first in
      let before = skipped q.here (suc i) (label c q.first q.next x') a n' stand_a.is (has_front core (suc i) q.jumps q.firsts has.begins) onward in
      let firsts = walk x' q.beside c l a u q.first q.next n' n' (who_in who op) false in_loop (splits op) false (of_way op x) (under op in_split) (splits op) shaped.1 shape.2 placed.2 t.2 has.first
      shrinks.0 frames.0 (λ is. is) (two.deep in_split deep) stand_a refl before.1 in
      let seconds = second_way op y q.after l s u t.3 q.second n (who_in who op) in_split shape.1 two.second shape.4 two.behind firsts.1
      (λ stand_b g. walk y q.after c l b u q.second q.next n' n' (who_in who op) false in_loop (has_two_parts op) false (of_way op x) (under op in_split) (has_two_parts op) shaped.2 shape.3 placed.3 t.3 has.second
      shrinks.1 (in_second op y shape.1 shape.4 frames.1) (λ is. is) (two.deep in_split deep) stand_b refl g) in
      let stand_u = stand_at who (place u) (place s) n (keeps.stands u s t.5) stand in
      let others = walk rest near c l u e q.behind k seconds.1.0 n who (splits op) in_loop part (opens_body op) x in_split false shaped.3 shape.6 placed.5 t.4 has.others shrinks.2 frames.2 (λ is. untrue is) deep
      stand_u seconds.1.2 seconds.1.1 in
      let far : i + suc (gap q.here + extent q.beside x' + extent q.after y + extent near rest) ≡ q.behind + extent near rest = omega arith in (
        (
          (act_told i site m op (label c q.second q.next y) h.0 f ∙ mine ∙ sym stand.is, act_says i site op (label c q.second q.next y) s h.0 two.says),
          right_both (suc i) q.behind ((js ++ xs) ++ ys) zs (omega arith)
              (right_both (suc i) q.second (js ++ xs) ys (omega arith) (right_both (suc i) q.first js xs (omega arith) before.0 firsts.0) seconds.0) others.0,
        ),
        moved_to (Ended part in_split n) (q.behind + extent near rest) (i + suc (gap q.here + extent q.beside x' + extent q.after y + extent near rest)) far others.1,
      )
  walk (while test body last rest) near c l s e i k m n who resuming in_loop part closing x in_split first shaped shape placed t h shrinks frames heads deep stand fits f =
      let q = turns_at entry test body last rest near c i k in
      let has = has_turns entry core test body last rest near c i k h in
      let round = t.0 in
      let b = round.turn in
      let ts = marks sys q.enters (Some round) b test b t.2 in
      let bs = marks sys q.steps (Some round) b body b t.3 in
      let ss = marks sys false (Some round) b last b t.4 in
      let rs = marks sys near l round.left rest e t.5 in
      let lt = mark_length sys q.enters (Some round) b test b t.2 in
      let lb = mark_length sys q.steps (Some round) b body b t.3 in
      let ls = mark_length sys false (Some round) b last b t.4 in
      let e1 = length-append ts bs in
      let e2 = length-append (ts ++ bs) ss in
      let g = f ∙ ap (λ z. fold z false) (not_resuming resuming m n placed.0 fits) in
      let turns = stand_at (inner who) (place b) (place s) n (sym (keeps.grants s b t.1)) (stand_inner who (place s) n stand) in
      let tests = walk test q.enters (Some q.loop) (Some round) b b i q.enter n n (inner who) false true false false (of_test shape.1) in_split false shaped.2 shape.2 placed.1 t.2 has.test shrinks.0 frames.0 (λ is. untrue is) deep turns refl g in
      let bodies = walk body q.steps (Some q.loop) (Some round) b b q.body q.loop.onward n n (inner who) false true false false (of_turn shape.1 x) in_split false shaped.3 shape.3 placed.2 t.3 has.body shrinks.1 frames.1 (λ is. untrue is) deep turns refl tests.1 in
      let lasts = walk last false (Some q.loop) (Some round) b b q.step i n n (inner who) false true false false sh.none in_split false shaped.4 shape.4 placed.3 t.4 has.step shrinks.2 frames.2 (λ is. untrue is) deep turns refl bodies.1 in
      let only : shape.1 ≡ true → in_split ≡ true = λ is. test_shrinks test shape.1 false in_split is shape.2 shrinks.0 in
      let others = left_behind round rest near l s e t.5 q.behind n who part in_split x t.1 t.6 (onward_of shape.1 part x rest in_split only shape.5) stand lasts.1
      (λ shape' there. walk rest near c l round.left e q.behind k n n who false in_loop part false x in_split false shaped.5 shape' placed.4 t.5 has.others shrinks.3 frames.3 (λ is. untrue is) deep there refl lasts.1) in
      let far : i + (extent q.enters test + extent q.steps body + extent false last + extent near rest) ≡ q.behind + extent near rest = omega arith in (
        right_both i q.behind ((ts ++ bs) ++ ss) rs (omega arith)
            (right_both i q.step (ts ++ bs) ss (omega arith) (right_both i q.body ts bs (omega arith) tests.0 bodies.0) lasts.0) others.0,
        moved_to (Ended part in_split n) (q.behind + extent near rest) (i + (extent q.enters test + extent q.steps body + extent false last + extent near rest)) far others.1,
      )
  walk (until body test rest) near c l s e i k m n who resuming in_loop part closing x in_split first shaped shape placed t h shrinks frames heads deep stand fits f =
      let q = rounds_at entry body test rest near c i k in
      let has = has_rounds entry core body test rest near c i k h in
      let round = t.0 in
      let b = round.turn in
      let bs = marks sys true (Some round) b body b t.2 in
      let ts = marks sys false (Some round) b test b t.3 in
      let rs = marks sys near l round.left rest e t.4 in
      let lb = mark_length sys true (Some round) b body b t.2 in
      let lt = mark_length sys false (Some round) b test b t.3 in
      let e1 = length-append bs ts in
      let g = f ∙ ap (λ z. fold z false) (not_resuming resuming m n placed.0 fits) in
      let turns = stand_at (inner who) (place b) (place s) n (sym (keeps.grants s b t.1)) (stand_inner who (place s) n stand) in
      let bodies = walk body true (Some q.loop) (Some round) b b i q.test n n (inner who) false true false false (of_turn shape.1 x) in_split false shaped.1 shape.3 placed.1 t.2 has.body shrinks.0 frames.0 (λ is. untrue is) deep turns refl g in
      let tests = walk test false (Some q.loop) (Some round) b b q.test q.enter n n (inner who) false true false false (of_test shape.1) in_split false shaped.2 shape.2 placed.2 t.3 has.test shrinks.1 frames.1 (λ is. untrue is) deep turns refl bodies.1 in
      let only : shape.1 ≡ true → in_split ≡ true = λ is. test_shrinks test shape.1 false in_split is shape.2 shrinks.1 in
      let others = left_behind round rest near l s e t.4 q.behind n who part in_split x t.1 t.5 (onward_of shape.1 part x rest in_split only shape.4) stand tests.1
      (λ shape' there. walk rest near c l round.left e q.behind k n n who false in_loop part false x in_split false shaped.3 shape' placed.3 t.4 has.others shrinks.2 frames.2 (λ is. untrue is) deep there refl tests.1) in
      let far : i + (extent true body + extent false test + extent near rest) ≡ q.behind + extent near rest = omega arith in (
        right_both i q.behind (bs ++ ts) rs (omega arith) (right_both i q.test bs ts (omega arith) bodies.0 tests.0) others.0,
        moved_to (Ended part in_split n) (q.behind + extent near rest) (i + (extent true body + extent false test + extent near rest)) far others.1,
      )
  walk (turn a b d rest) near c l s e i k m n who resuming in_loop part closing x in_split first shaped shape placed t h shrinks frames heads deep stand fits f = absurd shape
  walk (again a b d rest) near c l s e i k m n who resuming in_loop part closing x in_split first shaped shape placed t h shrinks frames heads deep stand fits f = absurd shape
  walk (quit site op rest) near c l s e i k m n who resuming in_loop part closing x in_split first shaped shape placed t h shrinks frames heads deep stand fits f =
      let b = begins_here near rest in
      let r = sys.behind op true s in
      let mine = either_here op m shaped.1 ∙ not_resuming resuming m n placed.0 fits in
      let onward : Behind (suc i) n = act_goes i site m false op (behind c) h.0 f ∙ ap (λ z. fold (past (Some op) z) (enters false (Some op))) mine
      ∙ ap (λ z. fold z (enters false (Some op))) (after_quit op n shape.1) ∙ ap (fold n) (no_enter op false (either_into op shaped.1)) in
      let stand' = stand_at who (place r) (place_behind op true (place s)) n (keeps.behind op true s) (quit_on who op (place s) n shape.1 stand) in
      let both = falls b rest near c l r e t.2 (suc i) k n (Ended part in_split n) stand'.is h.1 onward
      (λ j there g. counted_done rest (ap is_done shape.5) near l r e t.2 j (Ended part in_split n) (ended_no_part part in_split n j shape.2 g)) in
      let far : i + suc (gap b + extent near rest) ≡ suc i + (gap b + extent near rest) = omega arith in (
        ((act_told i site m op (behind c) h.0 f ∙ mine ∙ sym stand.is, act_says i site op (behind c) s h.0 (says_quit who op (place s) n shape.1 (λ is. deep (shrinks.0 is)) stand)), both.0),
        moved_to (Ended part in_split n) (suc i + (gap b + extent near rest)) (i + suc (gap b + extent near rest)) far both.1,
      )
  walk (break rest) near c l s e i k m n who resuming in_loop part closing x in_split first shaped shape placed t h shrinks frames heads deep stand fits f =
      walk rest near c l s e i k n n who false in_loop part false x in_split false shaped.1 shape.2 placed.1 t.1 h shrinks frames (λ is. untrue is) deep stand refl (f ∙ ap (λ z. fold z false) (not_resuming resuming m n placed.0 fits))
  walk (continue rest) near c l s e i k m n who resuming in_loop part closing x in_split first shaped shape placed t h shrinks frames heads deep stand fits f =
      walk rest near c l s e i k n n who false in_loop part false x in_split false shaped.1 shape.2 placed.1 t.1 h shrinks frames (λ is. untrue is) deep stand refl (f ∙ ap (λ z. fold z false) (not_resuming resuming m n placed.0 fits))
  walk (call site op function opening rest) near c l s e i k m n who resuming in_loop part closing x in_split first shaped shape placed t h shrinks frames heads deep stand fits f =
      let q = entering_at entry function opening rest near c i k in
      let has = has_entering entry core function opening rest near c i k h.1 in
      let begin = sys.begin op function t.1 in
      let en = sys.entered op function t.1 in
      let r = sys.behind_call op t.1 s in
      let os = marks sys true None begin opening en t.3 in
      let rs = marks sys near l r rest e t.4 in
      let lo = mark_length sys true None begin opening en t.3 in
      let mine = into_here op m true shaped.0 in
      let into = into_here op n false shaped.0 in
      let same = not_resuming resuming m n placed.0 fits in
      let onward : come (suc i) ≡ fold n true = act_goes i site m false op (entry function) h.0 f ∙ ap (λ z. fold (past (Some op) z) (enters false (Some op))) (mine.0 ∙ same)
      ∙ ap (λ z. fold z (enters false (Some op))) into.1 ∙ ap (fold n) into.2 in
      let begun = outside None t.1 begin (keeps.begins op function t.1) in
      let openings = opened opening None begin en (suc i) q.back n (callee_of who) shaped.2 placed.3 t.3 has.opening begun onward in
      let entered' = keeps.enters op function t.1 in
      let inside' = outside entered'.0 t.1 en entered'.1 in
      let jumps = jump_goes q.back n (entry function) true has.jumps.0 openings.1 in
      let stand' = stand_at who (place r) (place s) n (keeps.calls op t.1 s) stand in
      let before = skipped q.here (suc q.back) q.next r n stand'.is has.jumps.1 jumps in
      let others = walk rest near c l r e q.behind k n n who false in_loop part false x in_split false shaped.3 shape.3 placed.4 t.4 has.others shrinks frames (λ is. untrue is) deep stand' refl before.1 in
      let ls = skip_length q.here r in
      let e1 = length-append os (en ∷ skip_mark q.here r) in
      let far : i + suc (suc (extent true opening + gap q.here + extent near rest)) ≡ q.behind + extent near rest = omega arith in (
        (
          (act_told i site m op (entry function) h.0 f ∙ mine.0 ∙ same ∙ sym stand.is, act_says i site op (entry function) s h.0 (says_into op (place s) shaped.0)),
          right_both (suc i) q.behind (os ++ (en ∷ skip_mark q.here r)) rs (omega arith)
              (right_both (suc i) q.back os (en ∷ skip_mark q.here r) (omega arith) openings.0 ((opening_told q.back n (jump (entry function)) has.jumps.0 openings.1 ∙ sym inside'.is, jump_says q.back (entry function) en has.jumps.0), before.0))
              others.0,
        ),
        moved_to (Ended part in_split n) (q.behind + extent near rest) (i + suc (suc (extent true opening + gap q.here + extent near rest))) far others.1,
      )
  walk (ends site op rest) near c l s e i k m n who resuming in_loop part closing x in_split first shaped shape placed t h shrinks frames heads deep stand fits f =
      let r = sys.behind op true s in
      let first = out_here op m shaped.0 in
      let same = not_resuming resuming m n placed.0 fits in
      let mine = first.0 ∙ same in
      let onward : Behind (suc i) n = act_goes i site m false op 0 h.0 f ∙ ap (λ z. fold (past (Some op) z) (enters false (Some op))) mine
      ∙ ap (λ z. fold z (enters false (Some op))) (out_here op n shaped.0).1 ∙ ap (fold n) (no_enter op false (out_into op shaped.0)) in
      let stand' = stand_at who (place r) (place_behind op true (place s)) n (keeps.behind op true s) (out_on who op (place s) n shaped.0 stand) in
      let others = walk rest near c l r e (suc i) k n n who false in_loop part false x in_split false shaped.1 shape.3 placed.2 t.2 h.1 shrinks frames (λ is. untrue is) deep stand' refl onward in
      let far : i + suc (extent near rest) ≡ suc i + extent near rest = omega arith in (
        ((act_told i site m op 0 h.0 f ∙ mine ∙ sym stand.is, act_says i site op 0 s h.0 (says_out op (place s) shaped.0)), others.0),
        moved_to (Ended part in_split n) (suc i + extent near rest) (i + suc (extent near rest)) far others.1,
      )
