-- How many words a call clears.
use Rattle.std.proofs.Common.{◌≡◌, ℕ, zero, suc, ◌<◌, ◌≤◌, List, Bool, true, false, Option, Some, None, ap, sym, subst, refl, ◌∙◌, arith, inl, inr}
use Rattle.std.specs.Prelude.{◌⊎◌, nat_le, slice_get, if◌then◌else◌}
use Rattle.std.proofs.lemmas.Bool.{cases_lt, leb-true}
use Rattle.fk_meaning_operation.specs.declared.operation.Operation.{Operation}
use Rattle.fk_meaning_operation.specs.declared.operation.Operation.TheVariants.{Enter}
use Rattle.fk_sim_block.specs.Stands.{Frames}
use Rattle.fk_core_liveness.specs.declared.set.Set.{Set}
use Rattle.fk_core_liveness.specs.Frames.{kept_in}
use Rattle.fk_core_liveness.specs.Sets.{is_in}
use Rattle.fk_gen_flow.specs.Calls.{most_privates}
use Rattle.fk_gen_flow.specs.Laws.{ClearsEnough}
use Rattle.fk_gen_list.specs.Generable.{AreKept}
use Rattle.fk_gen_list.specs.Layout.{up_to_last, clears_after, clears_by}

-- ---- the words up to the last one in a set

pub last-zero : (mask : ℕ) → up_to_last mask 0 ≡ 0
unfolding up_to_last
last-zero mask = refl

last-suc : (mask k : ℕ) → up_to_last mask (suc k) ≡ (if is_in mask k then suc k else up_to_last mask k)
unfolding up_to_last
last-suc mask k = refl

pub last_here : (mask k : ℕ) → is_in mask k ≡ true → up_to_last mask (suc k) ≡ suc k
last_here mask k e = last-suc mask k ∙ ap (λ b. if b then suc k else up_to_last mask k) e

pub last_on : (mask k : ℕ) → is_in mask k ≡ false → up_to_last mask (suc k) ≡ up_to_last mask k
last_on mask k e = last-suc mask k ∙ ap (λ b. if b then suc k else up_to_last mask k) e

last_few : (mask n : ℕ) → up_to_last mask n ≤ n
last_few mask zero = let e = last-zero mask in omega arith
last_few mask (suc k) = by (last_few mask k) (is_in mask k) refl
  where
    by : up_to_last mask k ≤ k → (b : Bool) → is_in mask k ≡ b → up_to_last mask (suc k) ≤ suc k
    by few true e = let here = last_here mask k e in omega arith
    by few false e = let on = last_on mask k e in omega (arith, on, few)

never : true ≡ false → ⊥
never e = absurd (cc)

last_reaches : (mask word n : ℕ) → is_in mask word ≡ true → word < n → word < up_to_last mask n
last_reaches mask word zero has lt = absurd (omega arith)
last_reaches mask word (suc k) has lt = by (λ less. last_reaches mask word k has less) (is_in mask k) refl (cases_lt word k)
  where
    by : (word < k → word < up_to_last mask k) → (b : Bool) → is_in mask k ≡ b → ((word < k) ⊎ (k ≤ word)) → word < up_to_last mask (suc k)
    by below true e c = let here = last_here mask k e in omega (arith, here, lt)
    by below false e (inl less) =
        let on = last_on mask k e in
        let reaches = below less in
        omega (arith, on, reaches)
    by below false e (inr more) =
        let last : word ≡ k = omega (arith, lt, more) in
        absurd (never (sym has ∙ ap (is_in mask) last ∙ e))

-- ---- what is cleared

few_after : (n words : ℕ) → words ≤ most_privates → clears_after n words ≤ most_privates
few_after n words le = by (nat_le words n)
  where
    by : (b : Bool) → (if b then 0 else words) ≤ most_privates
    by true = omega arith
    by false = le

reaches_after : (n words word : ℕ) → n ≤ word → word < words → word < clears_after n words
reaches_after n words word le lt = by (nat_le words n) refl
  where
    by : (b : Bool) → nat_le words n ≡ b → word < (if b then 0 else words)
    by true e = let few = leb-true words n e in absurd (omega (arith, few, le, lt))
    by false e = lt

-- no word past those of a frame
pub few_clears : (o : Option Operation) (set : Option Set) → clears_by o set ≤ most_privates
few_clears (Some (Enter n)) (Some set) = few_after n (up_to_last set.mask most_privates) (last_few set.mask most_privates)
few_clears o set = omega arith

clears_reach : (n word : ℕ) (set : Option Set) → word < most_privates → kept_in set word ≡ true → n ≤ word → word < clears_by (Some (Enter n)) set
clears_reach n word None lt e le = absurd (cc)
clears_reach n word (Some set) lt e le =
    reaches_after n (up_to_last set.mask most_privates) word le (last_reaches set.mask word most_privates e lt)

-- a call of a list clears enough
pub clears_enough : (frames : Frames) (kept : List Set) (i : ℕ) (o : Option Operation) (operation : Operation) → AreKept frames kept → o ≡ Some operation
    → ClearsEnough frames i (clears_by o (slice_get kept (suc i))) operation
clears_enough frames kept i o (Enter n) are e = (
  few_clears o (slice_get kept (suc i)),
  λ word lt keeps le.
      subst (λ x. word < clears_by x (slice_get kept (suc i))) (sym e)
      (clears_reach n word (slice_get kept (suc i)) lt (are (suc i) word keeps) le),
)
clears_enough frames kept i o operation are e = tt
