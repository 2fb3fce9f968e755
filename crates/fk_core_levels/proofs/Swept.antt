-- How far a sweep has come.
use Rattle.std.proofs.Common.{◌≡◌, ℕ, suc, ◌-◌, ◌<◌, ◌≤◌, Bool, true, false, true≢false, List, length, refl, sym, subst, arith, ◌⊎◌, inl, inr}
use Rattle.std.specs.Prelude.{if◌then◌else◌}
use Rattle.std.proofs.lemmas.Bool.{cases_lt}
use Rattle.fk_core.specs.declared.op.CoreOp.{CoreOp}
use Rattle.fk_gen.specs.declared.placed.Levels.{Levels}
use Rattle.fk_core_levels.specs.Levels.{IsSettling, StaysThere, left_over}

-- the index at a step, from the beginning or from the end
abbrev pub place : (back : Bool) → (many step : ℕ) → ℕ
place back many step = if back then many - 1 - step else step

pub record IsSwept (core : List CoreOp) (before saved : List Levels) (back : Bool) (step : ℕ) (found : Bool) : Type 0 where
  pub settling : IsSettling core saved
  pub most : left_over saved ≤ left_over before
  pub falls : found ≡ true → left_over saved < left_over before
  pub stays : found ≡ false → (k : ℕ) → k < step → StaysThere core saved (place back (length core) k)

pub begun : (core : List CoreOp) (saved : List Levels) (back : Bool) → IsSettling core saved → IsSwept core saved saved back 0 false
begun core saved back s = record {
  settling = s;
  most = omega arith;
  falls = λ e. absurd (true≢false (sym e));
  stays = λ none k lt. absurd (let z : ⊥ = omega arith in z);
}

module _ (core : List CoreOp) (before saved : List Levels) (back : Bool) (step : ℕ) (found : Bool) (swept : IsSwept core before saved back step found) where
  -- at the next step something is new, or nothing
  pub on_new : (new : List Levels) (next : ℕ) → IsSettling core new → left_over new < left_over saved → IsSwept core before new back next true
  on_new new next s fewer =
      let most = swept.most in
      record {
        settling = s;
        most = omega (arith, most, fewer);
        falls = λ e. omega (arith, most, fewer);
        stays = λ none. absurd (true≢false none);
      }

  pub on_same : (next index : ℕ) → next ≡ suc step → index ≡ place back (length core) step → StaysThere core saved index → IsSwept core before saved back next found
  on_same next index is here stay = record {
    settling = swept.settling;
    most = swept.most;
    falls = swept.falls;
    stays = λ none k lt. by none k lt (cases_lt k step);
  }
    where
      by : found ≡ false → (k : ℕ) → k < next → (k < step) ⊎ (step ≤ k) → StaysThere core saved (place back (length core) k)
      by none k lt (inl less) = swept.stays none k less
      by none k lt (inr more) =
          let same : step ≡ k = omega (arith, is, lt, more) in
          subst (λ x. StaysThere core saved (place back (length core) x)) same (subst (StaysThere core saved) here stay)

-- each index has its step
pub at_each : (core : List CoreOp) (before saved : List Levels) (back : Bool) → IsSwept core before saved back (length core) false
    → (i : ℕ) → i < length core → StaysThere core saved i
at_each core before saved false swept i lt = swept.stays refl i lt
at_each core before saved true swept i lt =
    let there : length core - 1 - (length core - 1 - i) ≡ i = omega (arith, lt) in
    subst (StaysThere core saved) there (swept.stays refl (length core - 1 - i) (omega (arith, lt)))
