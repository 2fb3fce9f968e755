-- The blocks of a list have few words, where its text has few operations.
use Rattle.std.proofs.Common.{◌≡◌, ℕ, suc, ◌+◌, ◌*◌, ◌≤◌, Bool, true, false, List, [], ◌∷◌, length, sum_by, Option, Some, refl, sym, ap, subst, arith}
use Rattle.std.specs.Prelude.{if◌then◌else◌}
use Rattle.std.proofs.lemmas.List.Sums.{sum_by-cons}
use Rattle.std.proofs.lemmas.Option.{same_Some}
use Rattle.fk_meaning_operation.specs.declared.operation.Operation.{Operation}
use Rattle.fk_meaning_operation.specs.declared.operation.Operation.TheVariants as o
use Rattle.fk_syntax.specs.declared.place.Place.{Place}
use Rattle.fk_meaning_forms.specs.Ranks.{ranked}
use Rattle.fk_core.specs.declared.op.CoreOp.{CoreOp}
use Rattle.fk_core.specs.Next.{is_jump}
use Rattle.fk_core.specs.Numbers.{operation_of}
use Rattle.fk_core_flat.specs.Items.{Item, jump, act, into, IsItem, Has, acts, jumps, calls, one_call, way_of}
use Rattle.fk_layout_walk_statements.specs.Texts.{sites_of_text}
use Rattle.fk_gen_list.specs.Generable.{words_by, most_words}
use Rattle.fk_compile.specs.ListLaws.{ListsAreSmall}

-- a list and its items, one beside the other
abbrev Beside : List CoreOp → List Item → Type 0
Beside [] [] = Unit {0}
Beside [] (item ∷ items) = ⊥
Beside (op ∷ core) [] = ⊥
Beside (op ∷ core) (item ∷ items) = IsItem item op × Beside core items

later : (op : CoreOp) (core : List CoreOp) (i : ℕ) (items : List Item) → Has (op ∷ core) (suc i) items → Has core i items
later op core i [] h = tt
later op core i (item ∷ items) h = ((h.0.0, h.0.1, h.0.2), later op core (suc i) items h.1)

beside : (core : List CoreOp) (items : List Item) → Has core 0 items → length core ≡ length items → Beside core items
beside [] [] h same = tt
beside [] (item ∷ items) h same = absurd (omega (arith, same))
beside (op ∷ core) [] h same = absurd (omega (arith, same))
beside (op ∷ core) (item ∷ items) h same =
    (subst (IsItem item) (sym (same_Some op h.0.0 h.0.1)) h.0.2, beside core items (later op core 0 items h.1) (omega (arith, same)))

most_act : (operation : Operation) → words_by (Some operation) + one_call (way_of operation) ≤ 15
most_act (o.Enter arguments) = omega arith
most_act op = omega arith

one_jump : (op : CoreOp) (target : ℕ) → IsItem (jump target) op → most_words op ≤ 1
one_jump op target is = by (is_jump op) is.0
  where
    by : (b : Bool) → b ≡ true → (if b then 1 else words_by (operation_of op.kind op.number)) ≤ 1
    by true e = omega arith
    by false e = absurd (cc)

one_act : (op : CoreOp) (site : ℕ) (operation : Operation) (target : ℕ) → IsItem (act site operation target) op → most_words op + one_call (way_of operation) ≤ 15
one_act op site operation target is = by (is_jump op)
  where
    few : one_call (way_of operation) ≤ 1
    few = calls_few (way_of operation)
      where
        calls_few : (way : _) → one_call way ≤ 1
        calls_few into = omega arith
        calls_few way = omega arith

    by : (b : Bool) → (if b then 1 else words_by (operation_of op.kind op.number)) + one_call (way_of operation) ≤ 15
    by true = omega (arith, few)
    by false = omega (arith, ap words_by is.0, most_act operation)

count : (core : List CoreOp) (items : List Item) → Beside core items → sum_by most_words core + calls items ≤ 15 * length (acts items) + jumps items
count [] [] h = omega arith
count [] (item ∷ items) h = absurd h
count (op ∷ core) [] h = absurd h
count (op ∷ core) (jump target ∷ items) h = omega (arith, sum_by-cons most_words op core, one_jump op target h.0, count core items h.1)
count (op ∷ core) (act site operation target ∷ items) h = omega (arith, sum_by-cons most_words op core, one_act op site operation target h.0, count core items h.1)

length_ranked : (n : ℕ) (xs : List (ℕ × Place)) → length (ranked n xs) ≡ length xs
length_ranked n [] = refl
length_ranked n (x ∷ xs) = ap suc (length_ranked (suc n) xs)

pub lists_are_small : ListsAreSmall
lists_are_small known core has few =
    let words = count core has.items (beside core has.items has.are.0 has.are.1) in
    let jumps_few = has.few in
    let same = ap (λ (xs : List (ℕ × ℕ)). length xs) has.sites in
    omega (arith, words, jumps_few, same, length_ranked 0 (sites_of_text known), few)

-- ---- each operation has a word

some_word : (op : CoreOp) → 1 ≤ most_words op
some_word op = by (is_jump op)
  where
    act : (operation : Option Operation) → 1 ≤ words_by operation
    act (Some (o.Enter arguments)) = omega arith
    act operation = omega arith

    by : (b : Bool) → 1 ≤ (if b then 1 else words_by (operation_of op.kind op.number))
    by true = omega arith
    by false = act (operation_of op.kind op.number)

pub few_operations : (core : List CoreOp) → length core ≤ sum_by most_words core
few_operations [] = omega arith
few_operations (op ∷ core) =
    let rest = few_operations core in
    let word = some_word op in
    let sum = sum_by-cons most_words op core in
    omega (arith, rest, word, sum)
