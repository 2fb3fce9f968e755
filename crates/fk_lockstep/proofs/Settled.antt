-- What a possible round leaves of each processor.
use Rattle.std.proofs.Common.{◌≡◌, ℕ, ◌<◌, ◌==◌, ◌&&◌, nat_lt, Bool, true, false, not, List, [], ◌∷◌, length, slice_get, Option, Some, None, refl, sym, ap, ◌∙◌, subst, arith, if◌then◌else◌}
use Rattle.std.specs.Prelude.{option_map}
use Rattle.std.proofs.lemmas.Bool.{lt-ltb}
use Rattle.fk_meaning_operation.specs.declared.operation.Operation.{Operation}
use Rattle.fk_meaning_operation.specs.declared.operation.Operation.TheVariants as o
use Rattle.fk_tree.specs.Tree.{members}
use Rattle.fk_space.specs.Space.{Space, frame, block}
use Rattle.fk_meaning_store.specs.Serve.{words_of}
use Rattle.fk_meaning_operation.specs.declared.operation.SplitKind.{SplitKind}
use Rattle.fk_meaning.specs.Processor.{Level, Processor, Setting, values, last, drop_last, in_place, enter_level, to_outer, leave_level}
use Rattle.fk_meaning.specs.Group.{does, with_block, with_size, allotted, framed, part, divided, start_level, is_taken, stays}
use Rattle.fk_meaning.specs.Round.{Step, Runner, Fault, State, Round, Acting, lowest, tree_phase, result, is_possible}
use Rattle.fk_lockstep.proofs.Rounds.{settled_at}
use Rattle.fk_lockstep.specs.Counts.{Counts}
use Rattle.fk_lockstep.proofs.Acting.{Here, Out, is_changing}
use Rattle.fk_lockstep.proofs.Round.{first_is, some_at, at_below, lowest_member, actings as actings_of, phases as phases_of, settle as settle_of, Sound, settled_length, Ordered, number_at, acting_length, no_fault}
use Rattle.fk_lockstep.proofs.Changes.{mids}

-- steps of the tree leave a processor its number
divided_number : (by : SplitKind) (size : ℕ) (p : Processor) (o' : Option ℕ) → (divided by size p o').number ≡ p.number
divided_number by size p None = refl
divided_number by size p (Some i) = refl

outer_number : (p : Processor) (ls : List Level) → (to_outer p ls).number ≡ p.number
outer_number p [] = refl
outer_number p (l ∷ ls) = refl

framed_number : (nesting : ℕ) (p : Processor) (o' : Option Space) → (framed nesting p o').number ≡ p.number
framed_number nesting p None = refl
framed_number nesting p (Some sp) = refl

allotted_number : (p : Processor) (o' : Option (ℕ × Space)) → (allotted p o').number ≡ p.number
allotted_number p None = refl
allotted_number p (Some sp) = refl

block_number : (words : ℕ) (p : Processor) → (with_block words p).number ≡ p.number
block_number words p = by (words == 0)
  where
    by : (none : Bool) → (if none then in_place 0 p else allotted p (block p.level.space words)).number ≡ p.number
    by true = refl
    by false = allotted_number p (block p.level.space words)

either_number : (c : Bool) (p q : Processor) (n : ℕ) → p.number ≡ n → q.number ≡ n → (if c then p else q).number ≡ n
either_number true p q n e f = e
either_number false p q n e f = f

does_number : (op : Operation) (highest size : ℕ) (p : Processor) → (does op highest size p).number ≡ p.number
does_number o.Begin highest size p = either_number (is_taken highest p) (enter_level (start_level p size) (drop_last 1 p)) (drop_last 1 p) p.number refl refl
does_number (o.Frame nesting words) highest size p = framed_number nesting p (frame p.level.space words)
does_number o.Block highest size p = block_number (words_of (last (values p))) p
does_number (o.Split by) highest size p = divided_number by size p (part by (values p))
does_number o.Shrink highest size p =
    either_number (stays p) (with_size size (drop_last 1 p)) (leave_level (drop_last 1 p)) p.number refl (outer_number (drop_last 1 p) p.outer)
does_number o.End highest size p = outer_number p p.outer
does_number op highest size p = refl

-- of a state whose tree and processors tell of each other
module _ {W : Type 0} (next : W → Option (Step W)) (outs : W → List W) (counts : Counts W) (set : Setting) (round : Round) (s : State W) (p : ℕ) (here : ℕ → Here W) (behind : ℕ → List (Out W))
    (inv : Sound next outs counts set round s p s.tree (λ h. slice_get s.runners h) here behind) (ordered : Ordered next outs counts set round s p) (possible : is_possible next set round s ≡ true) where
  abbrev actings : List (Acting W)
  actings = actings_of next outs counts set round s

  abbrev settle : Runner W → Option (Step W) → Runner W
  settle r due = settle_of next outs counts set round s r due

  abbrev pub after : State W
  after = tree_phase s.tree (phases_of next outs counts set round s).store actings None

  pub result_is : result next set round s ≡ after
  result_is = ap (λ (fault : Option Fault). tree_phase s.tree (phases_of next outs counts set round s).store actings fault) (no_fault next outs counts set round s p here behind inv ordered possible)

  many : length actings ≡ p
  many = acting_length next outs counts set round s p here behind inv ordered possible

  pub many_after : length after.runners ≡ p
  many_after = settled_length actings s.tree after.tree actings ∙ many

  abbrev low : ℕ → ℕ
  low h = lowest (members s.tree (s.tree.places h))

  settled_is : (h : ℕ) (b : Acting W) → slice_get actings h ≡ Some b → slice_get after.runners h ≡ Some (settle b.runner b.due)
  settled_is h b at = settled_at actings s.tree after.tree actings h b at

  all_gone : (b : Acting W) (changing gone : Bool) → gone ≡ true → (if changing && not gone then b.runner else settle b.runner b.due) ≡ settle b.runner b.due
  all_gone b changing gone e = subst (λ (g : Bool). (if changing && not g then b.runner else settle b.runner b.due) ≡ settle b.runner b.due) (sym e) (by changing)
    where
      by : (c : Bool) → (if c && false then b.runner else settle b.runner b.due) ≡ settle b.runner b.due
      by true = refl
      by false = refl

  pub same_has : (h : ℕ) → h < p → slice_get after.runners h ≡ mids next outs counts set round s p here behind inv ordered possible p h
  same_has h lt =
      let b = some_at actings h (omega (arith, many)) in
      let in_low = lowest_member h (members s.tree (s.tree.places h)) (inv.sound.placed h lt).member in
      let below_p = inv.sound.within (s.tree.places h) (low h) in_low in
      let gone : nat_lt (low h) p ≡ true = lt-ltb (low h) p below_p in
      settled_is h b.0 b.1
      ∙ ap (λ (r : Runner W). Some r) (sym (all_gone b.0 (is_changing b.0.due) (nat_lt (low h) p) gone))
      ∙ sym (ap (option_map (λ (c : Acting W). if is_changing c.due && not (nat_lt (low h) p) then c.runner else settle c.runner c.due)) b.1)

  -- a processor then, as it stood before the steps of the tree
  pub record SettledFrom (h : ℕ) (r : Runner W) : Type 0 where
    pub acting : Acting W
    pub at : slice_get actings h ≡ Some acting
    pub is : r ≡ settle acting.runner acting.due

  pub settled_from : (h : ℕ) (r : Runner W) → slice_get after.runners h ≡ Some r → SettledFrom h r
  settled_from h r e =
      let size = settled_length actings s.tree after.tree actings in
      let lt = at_below after.runners h r e in
      let b = some_at actings h (omega (arith, size, lt)) in
      record { acting = b.0; at = b.1; is = first_is r (settle b.0.runner b.0.due) (sym e ∙ settled_is h b.0 b.1) }

  settled_number : (r : Runner W) (due : Option (Step W)) → (settle r due).has.number ≡ r.has.number
  settled_number r None = refl
  settled_number r (Some step) = does_number step.operation _ _ r.has

  pub numbers_after : (h : ℕ) (r : Runner W) → slice_get after.runners h ≡ Some r → r.has.number ≡ h
  numbers_after h r e =
      let f = settled_from h r e in
      ap (λ (u : Runner W). u.has.number) f.is ∙ settled_number f.acting.runner f.acting.due ∙ number_at next outs counts set round s p here behind inv ordered possible h f.acting f.at
