-- Functions that are written one behind the other are flat.
use Rattle.std.proofs.Common.{◌≡◌, ℕ, zero, suc, ◌+◌, ◌≤◌, ◌<◌, Bool, true, false, List, [], ◌∷◌, ◌++◌, length, slice_get, Option, Some, None, ap, ap₂, ◌∙◌, sym, refl, subst, arith, length-append, append_assoc}
use Rattle.std.specs.Prelude.{nat_lt}
use Rattle.std.proofs.lemmas.Bool.{ltb-true, ltb-false}
use Rattle.std.proofs.lemmas.List.{length-map, map-append, append-nil}
use Rattle.std.proofs.Math.Seq.{append_snoc}
use Rattle.fk_meaning_operation.specs.declared.operation.Operation.{Operation}
use Rattle.fk_core.specs.declared.op.CoreOp.{CoreOp}
use Rattle.fk_core.specs.Numbers.{operation_of}
use Rattle.fk_core.specs.Next.{is_jump}
use Rattle.fk_core_flat.specs.Items.{Item, jump, act, Has, IsItem}
use Rattle.fk_core_flat.specs.Flat.{extent, label, flat}
use Rattle.fk_core_flat.specs.Laws.{IsFlat}
use Rattle.fk_lower.specs.declared.span.Spans.{Spans}
use Rattle.fk_lower.specs.Spans.{place}
use Rattle.fk_lower.specs.Tree.{Part, code_of, IsPartMeasured}
use Rattle.fk_lower.specs.Written.{item_by, item_of, items_of, entry_of, written}
use Rattle.fk_lower.specs.Lowered.{bodies_in, AreMeasured, total, entries_from, written_from, all_flat, IsListOf}
use Rattle.fk_lower.proofs.Starts.{starts}
use Rattle.fk_lower.proofs.Writing.{known, lists}
use Rattle.fk_core_flat.proofs.Lengths.{flat_length}

-- ---- a list shows items from an index on

-- what is shown is that item
is_item_by : (o : Option Operation) (j : Bool) (op : CoreOp) (item : Item)
    → operation_of op.kind op.number ≡ o → is_jump op ≡ j → item_by o j op ≡ Some item → IsItem item op
is_item_by (Some operation) j op (jump target) e f h = absurd (cc)
is_item_by (Some operation) j op (act site other target) e f h = (e ∙ cc, cc, cc)
is_item_by None true op (jump target) e f h = (f, cc)
is_item_by None true op (act site other target) e f h = absurd (cc)
is_item_by None false op item e f h = absurd (cc)

is_item : (op : CoreOp) (item : Item) → item_of op ≡ Some item → IsItem item op
is_item op item h = is_item_by (operation_of op.kind op.number) (is_jump op) op item refl refl h

stands_at : (core : List CoreOp) (before after : List (Option Item)) (item : Item) → items_of core ≡ before ++ Some item ∷ after
    → (op : CoreOp) × (slice_get core (length before) ≡ Some op) × IsItem item op
stands_at [] [] after item h = absurd (cc)
stands_at [] (x ∷ before) after item h = absurd (cc)
stands_at (op ∷ core) [] after item h = let e : item_of op ≡ Some item = cc in (op, refl, is_item op item e)
stands_at (op ∷ core) (x ∷ before) after item h = let e : items_of core ≡ before ++ Some item ∷ after = cc in stands_at core before after item e

has : (core : List CoreOp) (items : List Item) (before after : List (Option Item)) → items_of core ≡ before ++ (known items ++ after) → Has core (length before) items
has core [] before after h = tt
has core (item ∷ items) before after h =
    let n : length (before ++ Some item ∷ []) ≡ suc (length before) = omega (arith, length-append before (Some item ∷ [])) in (
      stands_at core before (known items ++ after) item h,
      subst (λ i. Has core i items) n (has core items (before ++ Some item ∷ []) after (h ∙ sym (append_snoc before (Some item) (known items ++ after)))),
    )

-- ---- functions one behind the other

abbrev extent_of : Part → ℕ
extent_of part = part.spans.far.extent

-- where the function of a binding is written
abbrev place_in : (at : ℕ) → List Part → (binding : ℕ) → ℕ
place_in at [] b = at
place_in at (part ∷ parts) zero = at
place_in at (part ∷ parts) (suc b) = place_in (at + extent_of part) parts b

extent_is : (part : Part) → IsPartMeasured part → extent_of part ≡ extent false (code_of part.pieces)
extent_is part m = ap (λ (s : Spans). s.far.extent) m.0

known_length : (items : List Item) → length (known items) ≡ length items
known_length items = length-map items (λ item. Some item)

module _ (entry : ℕ → ℕ) (end : ℕ) where
  abbrev flat_at : ℕ → Part → List Item
  flat_at at part = flat entry false None at end (code_of part.pieces)

  flat_extent : (at : ℕ) (part : Part) → IsPartMeasured part → length (known (flat_at at part)) ≡ extent_of part
  flat_extent at part m = known_length (flat_at at part) ∙ flat_length entry (code_of part.pieces) false None at end ∙ sym (extent_is part m)

  written_is : (at : ℕ) (part : Part) → IsPartMeasured part → written entry false None at end part.pieces ≡ known (flat_at at part)
  written_is at part m = lists entry part.pieces m.1 false None at end

  written_length : (parts : List Part) → AreMeasured parts → (at : ℕ) → length (written_from entry at end parts) ≡ total parts
  written_length [] m at = refl
  written_length (part ∷ parts) m at =
      let others = written_from entry (at + extent_of part) end parts in
      let e = length-append (written entry false None at end part.pieces) others in
      let f = ap length (written_is at part m.0) ∙ flat_extent at part m.0 in
      let g = written_length parts m.1 (at + extent_of part) in
      omega arith

  all_known : (parts : List Part) → AreMeasured parts → (at : ℕ) → written_from entry at end parts ≡ known (all_flat entry at end parts)
  all_known [] m at = refl
  all_known (part ∷ parts) m at =
      let more = all_flat entry (at + extent_of part) end parts in
      ap₂ (λ xs ys. xs ++ ys) (written_is at part m.0) (all_known parts m.1 (at + extent_of part))
      ∙ sym (map-append (λ item. Some item) (flat_at at part) more)

  all_have : (core : List CoreOp) (parts : List Part) → AreMeasured parts → (before : List (Option Item)) (at : ℕ) → length before ≡ at
      → items_of core ≡ before ++ written_from entry at end parts
      → (b : ℕ) → Has core (place_in at parts b) (flat entry false None (place_in at parts b) end (bodies_in parts b))
  all_have core [] m before at n h b = tt
  all_have core (part ∷ parts) m before at n h zero =
      let others = written_from entry (at + extent_of part) end parts in
      subst (λ i. Has core i (flat_at at part)) n
      (has core (flat_at at part) before others (h ∙ ap (λ l. before ++ (l ++ others)) (written_is at part m.0)))
  all_have core (part ∷ parts) m before at n h (suc b) =
      let others = written_from entry (at + extent_of part) end parts in
      let mine = known (flat_at at part) in
      let e = length-append before mine in
      let f = flat_extent at part m.0 in
      all_have core parts m.1 (before ++ mine) (at + extent_of part) (omega arith)
      (h ∙ ap (λ l. before ++ (l ++ others)) (written_is at part m.0) ∙ sym (append_assoc before mine others)) b

begins : (end : ℕ) (parts : List Part) → AreMeasured parts → (at b : ℕ) → entry_of (entries_from at end parts) end b ≡ label None (place_in at parts b) end (bodies_in parts b)
begins end [] m at b = refl
begins end (part ∷ parts) m at zero = ap (λ (s : Spans). place s.far.start None at end) m.0.0 ∙ starts (code_of part.pieces) None at end
begins end (part ∷ parts) m at (suc b) = begins end parts m.1 (at + extent_of part) b

abbrev Covers : (at i : ℕ) → List Part → Type 0
Covers at i parts = (b : ℕ) × (place_in at parts b ≤ i) × (i < place_in at parts b + extent false (bodies_in parts b))

first_or_more : (part : Part) (parts : List Part) (at i : ℕ) → at ≤ i → extent_of part ≡ extent false (code_of part.pieces)
    → (at + extent_of part ≤ i → Covers (at + extent_of part) i parts) → (test : Bool) → nat_lt i (at + extent_of part) ≡ test → Covers at i (part ∷ parts)
first_or_more part parts at i low f more true e =
    let a = ltb-true i (at + extent_of part) e in
    let h : i < at + extent false (code_of part.pieces) = omega arith in
    (0, low, h)
first_or_more part parts at i low f more false e =
    let a = ltb-false i (at + extent_of part) e in
    let found = more (omega arith) in
    (suc found.0, found.1, found.2)

covers : (parts : List Part) → AreMeasured parts → (at i : ℕ) → at ≤ i → i < at + total parts → Covers at i parts
covers [] m at i low high = absurd (omega arith)
covers (part ∷ parts) m at i low high =
    first_or_more part parts at i low (extent_is part m.0)
    (λ here. covers parts m.1 (at + extent_of part) i here (omega arith)) (nat_lt i (at + extent_of part)) refl

pub is_flat : (parts : List Part) → AreMeasured parts → (core : List CoreOp) (end : ℕ) → end ≡ total parts
    → items_of core ≡ written_from (entry_of (entries_from 0 end parts) end) 0 end parts
    → IsFlat (bodies_in parts) core (entry_of (entries_from 0 end parts) end)
is_flat parts m core end t h =
    let entry = entry_of (entries_from 0 end parts) end in
    let n : end ≡ length core = t ∙ sym (written_length entry end parts m 0) ∙ sym (ap length h) ∙ length-map core item_of in
    record {
      place = place_in 0 parts;
      has = λ b. subst (λ k. Has core (place_in 0 parts b) (flat entry false None (place_in 0 parts b) k (bodies_in parts b))) n (all_have entry end core parts m [] 0 refl h b);
      begins = λ b. subst (λ k. entry_of (entries_from 0 end parts) end b ≡ label None (place_in 0 parts b) k (bodies_in parts b)) n (begins end parts m 0 b);
      covers = λ i low. covers parts m 0 i (omega arith) (omega arith);
    }

pub lowered_flat : (parts : List Part) → AreMeasured parts → (core : List CoreOp) (entries : List ℕ) (end : ℕ) → end ≡ total parts
    → entries ≡ entries_from 0 end parts → items_of core ≡ written_from (entry_of entries end) 0 end parts
    → IsFlat (bodies_in parts) core (entry_of entries end)
lowered_flat parts m core entries end t e h =
    subst (λ entries. IsFlat (bodies_in parts) core (entry_of entries end)) (sym e)
    (is_flat parts m core end t (h ∙ ap (λ entries. written_from (entry_of entries end) 0 end parts) e))

pub lowered_list : (parts : List Part) → AreMeasured parts → (core : List CoreOp) (entry : ℕ → ℕ) (end : ℕ)
    → items_of core ≡ written_from entry 0 end parts → IsListOf core (all_flat entry 0 end parts)
lowered_list parts m core entry end h =
    let items = all_flat entry 0 end parts in
    let e = h ∙ all_known entry end parts m 0 in (
      has core items [] [] (e ∙ sym (append-nil (known items))),
      sym (length-map core item_of) ∙ ap length e ∙ known_length items,
    )
