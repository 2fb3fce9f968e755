-- Private words of a call that are live: those that may be read before they are written.
use Rattle.std.specs.Prelude.{◌≡◌, ℕ, suc, ◌-◌, ◌^◌, ◌==◌, ◌||◌, ◌&&◌, not, nat_lt, Bool, true}
use Rattle.std.specs.Prelude.{false, List, [], slice_get, sum_by, Option, Some, None, if◌then◌else◌}
use Rattle.fk_meaning_operation.specs.declared.operation.Operation.{Operation}
use Rattle.fk_meaning_operation.specs.declared.operation.Operation.TheVariants.{Get, Enter, Leave}
use Rattle.fk_meaning_operation.specs.declared.operation.Operation.TheVariants.{Halt}
use Rattle.fk_meaning_operation.specs.declared.operation.OwnValue.TheVariants.{Value}
use Rattle.fk_meaning_operation.specs.declared.operation.Variable.TheVariants.{Private}
use Rattle.fk_core.specs.declared.op.CoreOp.{CoreOp}
use Rattle.fk_core.specs.Numbers.{operation_of}
use Rattle.fk_core.specs.Next.{is_jump, behind_jump, follows}
use Rattle.fk_sim_block.specs.Suits.{writes}
use Rattle.fk_core_liveness.specs.declared.set.Set.{Set}
use Rattle.fk_core_liveness.specs.Frames.{kept_in}

-- The private word that an operation reads. A frame has no room for words from 64 on.
abbrev pub reads : Operation → (word : ℕ) → Bool
reads (Get (Value (Private i))) word = (word == i) && nat_lt word 64
reads operation word = false

-- A word is to be kept before an operation if the operation reads it, or if it is kept after the
-- operation, which doesn't write it.
abbrev pub needed : Operation → (behind : Bool) → (word : ℕ) → Bool
needed operation behind word = (behind && not (writes operation word)) || reads operation word

module _ (core : List CoreOp) (keeps : (index word : ℕ) → Bool) where
  -- What is kept where the running call goes on, on either branch. After a call it goes on after
  -- the first jump, which leads to the function. What stands between is of the call that begins.
  abbrev pub kept_behind : Operation → (i target word : ℕ) → Bool
  kept_behind (Enter arguments) i target word = keeps (behind_jump core (suc i)) word
  kept_behind (Leave gives framed) i target word = false
  kept_behind Halt i target word = false
  kept_behind operation i target word =
      keeps (follows core operation i target [] true).at word
      || keeps (follows core operation i target [] false).at word

  -- What is to be kept at an index. At a jump it is what is kept where the jump leads.
  abbrev pub asked_by : Option Operation → (i target word : ℕ) → Bool
  asked_by None i target word = false
  asked_by (Some operation) i target word =
      needed operation (kept_behind operation i target word) word

  abbrev pub asked_of : Option CoreOp → (i word : ℕ) → Bool
  asked_of None i word = false
  asked_of (Some op) i word = if is_jump op then keeps op.target word
      else asked_by (operation_of op.kind op.number) i op.target word

  abbrev pub asked : (i word : ℕ) → Bool
  asked i = asked_of (slice_get core i) i

-- What is to be kept is kept.
abbrev pub IsLive : List CoreOp → (keeps : (index word : ℕ) → Bool) → Type 0
IsLive core keeps = (i word : ℕ) → asked core keeps i word ≡ true → keeps i word ≡ true

-- Nothing is kept that could be left out.
abbrev pub IsLeast : List CoreOp → (keeps : (index word : ℕ) → Bool) → Type 0
IsLeast core keeps =
    (others : (index word : ℕ) → Bool) → IsLive core others → (i word : ℕ) → keeps i word ≡ true
    → others i word ≡ true

-- The words that are kept by sets, one set for each index.
abbrev pub words_in : List Set → (index word : ℕ) → Bool
words_in sets index = kept_in (slice_get sets index)

-- A number that falls with each word that is found.
abbrev pub left_over : List Set → ℕ
left_over sets = sum_by (λ (set : Set). 2 ^ 64 - set.mask) sets
