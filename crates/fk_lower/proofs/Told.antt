-- Each operation of a list is given the depth of its site, and stays what it is.
use Rattle.std.proofs.Common.{◌≡◌, ℕ, zero, suc, ◌+◌, ◌<◌, Bool, true, false, Option, Some, None, List, [], ◌∷◌, ◌++◌, map, take, drop, length, set, get_or, refl, ap, ap₂, ◌∙◌, arith, add-one}
use Rattle.std.proofs.lemmas.List.{length-map, take_all, take-append-le}
use Rattle.fk_meaning_operation.specs.declared.operation.Operation.{Operation}
use Rattle.fk_core.specs.declared.op.CoreOp.{CoreOp}
use Rattle.fk_core.specs.Numbers.{operation_of}
use Rattle.fk_core.specs.Next.{is_jump}
use Rattle.fk_lower.specs.Written.{item_by, items_of}
use Rattle.fk_lower.specs.Depths.{told, AreTold}

module _ (depths : List ℕ) where
  -- the first of some operations
  abbrev pub told_first : ℕ → List CoreOp → List CoreOp
  told_first zero ops = ops
  told_first (suc n) [] = []
  told_first (suc n) (x ∷ ops) = told depths x ∷ told_first n ops

  one_more : (ops : List CoreOp) (n : ℕ) (d : CoreOp) → n < length ops
      → set (told_first n ops) n (told depths (get_or (told_first n ops) n d)) ≡ told_first (suc n) ops
  one_more [] n d h = absurd (omega (arith, h))
  one_more (x ∷ ops) zero d h = refl
  one_more (x ∷ ops) (suc n) d h = ap (λ l. told depths x ∷ l) (one_more ops n d (omega (arith, h)))

  pub told_more : (ops now : List CoreOp) (n : ℕ) (d : CoreOp) → now ≡ told_first n ops → n < length ops
      → set now n (told depths (get_or now n d)) ≡ told_first (n + 1) ops
  told_more ops now n d e h = rw (e, add-one) (one_more ops n d h)

  pub all_told : (ops : List CoreOp) → told_first (length ops) ops ≡ map (told depths) ops
  all_told [] = refl
  all_told (x ∷ ops) = ap (λ l. told depths x ∷ l) (all_told ops)

  -- a list that is told in place
  pub told_back : (ops new : List CoreOp) (n : ℕ) → new ≡ map (told depths) ops → length ops ≡ n → take n (new ++ drop (length new) ops) ≡ map (told depths) ops
  told_back ops new n e h =
      let m = ap length e in
      let l = length-map ops (told depths) in
      take-append-le n new (drop (length new) ops) (omega (arith, m, l, h)) ∙ take_all n new (omega (arith, m, l, h)) ∙ e

  item_stays : (o : Option Operation) (jumps : Bool) (op : CoreOp) → item_by o jumps (told depths op) ≡ item_by o jumps op
  item_stays (Some operation) jumps op = refl
  item_stays None true op = refl
  item_stays None false op = refl

  pub items_stay : (ops : List CoreOp) → items_of (map (told depths) ops) ≡ items_of ops
  items_stay [] = refl
  items_stay (x ∷ ops) = ap₂ (λ item items. item ∷ items) (item_stays (operation_of x.kind x.number) (is_jump x) x) (items_stay ops)

  pub are_told : (ops : List CoreOp) → AreTold depths (map (told depths) ops)
  are_told [] k d h = absurd (omega (arith, h))
  are_told (x ∷ ops) zero d h = refl
  are_told (x ∷ ops) (suc k) d h = are_told ops k d (omega (arith, h))
