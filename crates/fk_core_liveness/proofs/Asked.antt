-- What is to be kept grows with what is kept, and sets that grow by it stay the least.
use Rattle.std.proofs.Common.{◌≡◌, ℕ, zero, suc, ◌-◌, ◌<◌, ◌≤◌, Bool, true, false, true≢false, List, [], ◌∷◌, length, slice_get, get_or, take, drop, ◌++◌, Option, Some, None, ap, sym, refl, ◌∙◌, arith, ◌⊎◌, inl, inr, eq-eqb}
use Rattle.std.specs.Prelude.{◌==◌, ◌||◌, ◌&&◌, not, slice_set, if◌then◌else◌}
use Rattle.std.proofs.lemmas.Bool.{eqb-true, cases_lt}
use Rattle.std.proofs.Math.Seq.{take-append_seam}
use Rattle.std.proofs.lemmas.Option.{slice_get_past, slice_get-get_or}
use Rattle.fk_meaning_operation.specs.declared.operation.Operation.{Operation}
use Rattle.fk_meaning_operation.specs.declared.operation.Operation.TheVariants.{Enter, Leave, Halt}
use Rattle.fk_core.specs.declared.op.CoreOp.{CoreOp}
use Rattle.fk_core.specs.Numbers.{operation_of}
use Rattle.fk_core.specs.Next.{is_jump, behind_jump, follows}
use Rattle.fk_sim_block.specs.Suits.{writes}
use Rattle.fk_core_liveness.specs.declared.set.Set.{Set}
use Rattle.fk_core_liveness.specs.Sets.{is_in}
use Rattle.fk_core_liveness.specs.Frames.{kept_in}
use Rattle.fk_core_liveness.specs.Live.{reads, needed, kept_behind, asked_by, asked_of, asked, IsLeast, words_in}

abbrev Words : Type 0
Words = (index word : ℕ) → Bool

or_true : (a : Bool) → (a || true) ≡ true
or_true true = refl
or_true false = refl

pub split_or : (a b : Bool) → (a || b) ≡ true → (a ≡ true) ⊎ (b ≡ true)
split_or true b e = inl refl
split_or false b e = inr e

or_more : (a b c d : Bool) → (a ≡ true → c ≡ true) → (b ≡ true → d ≡ true) → (a || b) ≡ true → (c || d) ≡ true
or_more true b c d f g e = ap (λ x. x || d) (f refl)
or_more false b c d f g e = ap (λ x. c || x) (g e) ∙ or_true c

and_more : (a b n : Bool) → (a ≡ true → b ≡ true) → (a && n) ≡ true → (b && n) ≡ true
and_more true b n f e = ap (λ x. x && n) (f refl) ∙ e
and_more false b n f e = absurd (true≢false (sym e))

module _ (core : List CoreOp) (keeps others : Words) (more : (i word : ℕ) → keeps i word ≡ true → others i word ≡ true) where
  behind_more : (operation : Operation) (i target word : ℕ)
      → kept_behind core keeps operation i target word ≡ true → kept_behind core others operation i target word ≡ true
  behind_more (Enter arguments) i target word e = more (behind_jump core (suc i)) word e
  behind_more (Leave gives framed) i target word e = e
  behind_more Halt i target word e = e
  behind_more operation i target word e =
      or_more (keeps (follows core operation i target [] true).at word) (keeps (follows core operation i target [] false).at word)
      (others (follows core operation i target [] true).at word) (others (follows core operation i target [] false).at word)
      (more (follows core operation i target [] true).at word) (more (follows core operation i target [] false).at word) e

  needed_more : (operation : Operation) (a b : Bool) (word : ℕ) → (a ≡ true → b ≡ true)
      → needed operation a word ≡ true → needed operation b word ≡ true
  needed_more operation a b word f e =
      or_more (a && not (writes operation word)) (reads operation word) (b && not (writes operation word)) (reads operation word)
      (and_more a b (not (writes operation word)) f) (λ z. z) e

  by_more : (operation : Option Operation) (i target word : ℕ)
      → asked_by core keeps operation i target word ≡ true → asked_by core others operation i target word ≡ true
  by_more None i target word e = e
  by_more (Some operation) i target word e =
      needed_more operation (kept_behind core keeps operation i target word) (kept_behind core others operation i target word) word
      (behind_more operation i target word) e

  of_more : (op : Option CoreOp) (i word : ℕ) → asked_of core keeps op i word ≡ true → asked_of core others op i word ≡ true
  of_more None i word e = e
  of_more (Some op) i word e = by (is_jump op) e
    where
      by : (b : Bool) → (if b then keeps op.target word else asked_by core keeps (operation_of op.kind op.number) i op.target word) ≡ true
          → (if b then others op.target word else asked_by core others (operation_of op.kind op.number) i op.target word) ≡ true
      by true e = more op.target word e
      by false e = by_more (operation_of op.kind op.number) i op.target word e

  pub asked_more : (i word : ℕ) → asked core keeps i word ≡ true → asked core others i word ≡ true
  asked_more i word e = of_more (slice_get core i) i word e

-- behind the end of the list nothing is to be kept
pub none_behind : (core : List CoreOp) (keeps : Words) (i word : ℕ) → length core ≤ i → asked core keeps i word ≡ true → keeps i word ≡ true
none_behind core keeps i word le e =
    let none : slice_get core i ≡ None = slice_get_past core i le in
    absurd (true≢false (sym e ∙ ap (λ op. asked_of core keeps op i word) none))

set_same : (sets : List Set) (i : ℕ) (new : Set) → i < length sets → slice_get (slice_set sets i new) i ≡ Some new
set_same [] i new lt = absurd (let z : ⊥ = omega arith in z)
set_same (s ∷ sets) zero new lt = refl
set_same (s ∷ sets) (suc i) new lt = set_same sets i new (omega arith)

set_other : (sets : List Set) (i j : ℕ) (new : Set) → (j ≡ i → ⊥) → slice_get (slice_set sets i new) j ≡ slice_get sets j
set_other [] i j new apart = refl
set_other (s ∷ sets) zero zero new apart = absurd (apart refl)
set_other (s ∷ sets) zero (suc j) new apart = refl
set_other (s ∷ sets) (suc i) zero new apart = refl
set_other (s ∷ sets) (suc i) (suc j) new apart = set_other sets i j new (λ e. apart (omega arith))

not_same : (j i : ℕ) → (j == i) ≡ false → j ≡ i → ⊥
not_same j i e same = let f = eq-eqb j i same in true≢false (sym f ∙ e)

-- sets that grow at an index by what is to be kept there
pub grown_least : (core : List CoreOp) (sets : List Set) (index : ℕ) (new : Set) → index < length sets
    → ((word : ℕ) → is_in new.mask word ≡ (words_in sets index word || asked core (words_in sets) index word))
    → IsLeast core (words_in sets) → IsLeast core (words_in (slice_set sets index new))
grown_least core sets index new lt gives least others live i word e = by (i == index) refl
  where
    within : (i word : ℕ) → words_in sets i word ≡ true → others i word ≡ true
    within = least others live

    here : (words_in sets index word ≡ true) ⊎ (asked core (words_in sets) index word ≡ true) → others index word ≡ true
    here (inl kept) = within index word kept
    here (inr is) = live index word (asked_more core (words_in sets) others within index word is)

    by : (b : Bool) → (i == index) ≡ b → others i word ≡ true
    by true f =
        let same : i ≡ index = eqb-true i index f in
        let set : words_in (slice_set sets index new) index word ≡ true = ap (λ j. words_in (slice_set sets index new) j word) (sym same) ∙ e in
        let is : is_in new.mask word ≡ true = ap (λ s. kept_in s word) (sym (set_same sets index new lt)) ∙ set in
        ap (λ j. others j word) same ∙ here (split_or (words_in sets index word) (asked core (words_in sets) index word) (sym (gives word) ∙ is))
    by false f = within i word (ap (λ s. kept_in s word) (sym (set_other sets index i new (not_same i index f))) ∙ e)

-- what a set in a list keeps
pub kept_there : (sets : List Set) (i : ℕ) (other : Set) → i < length sets → (word : ℕ) → is_in (get_or sets i other).mask word ≡ words_in sets i word
kept_there sets i other lt word = sym (ap (λ s. kept_in s word) (slice_get-get_or sets i other lt))

pub written_back : (sets new : List Set) (len : ℕ) → len ≡ length new → take len (new ++ drop (length new) sets) ≡ new
written_back sets new len e = ap (λ n. take n (new ++ drop (length new) sets)) e ∙ take-append_seam new (drop (length new) sets)

-- an index more in front
pub one_more : (core : List CoreOp) (keeps : Words) (index : ℕ)
    → ((word : ℕ) → asked core keeps (index - 1) word ≡ true → keeps (index - 1) word ≡ true)
    → ((i word : ℕ) → index ≤ i → asked core keeps i word ≡ true → keeps i word ≡ true)
    → (i word : ℕ) → index - 1 ≤ i → asked core keeps i word ≡ true → keeps i word ≡ true
one_more core keeps index here above i word le is = by (cases_lt i index)
  where
    by : ((i < index) ⊎ (index ≤ i)) → keeps i word ≡ true
    by (inl lt) =
        let same : i ≡ index - 1 = omega arith in
        ap (λ j. keeps j word) same ∙ here word (ap (λ j. asked core keeps j word) (sym same) ∙ is)
    by (inr ge) = above i word ge is
