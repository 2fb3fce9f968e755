-- What harts touch, as it is collected.
use Rattle.std.proofs.Common.{◌≡◌, ℕ, zero, suc, ◌+◌, ◌/◌, ◌<◌, List, [], ◌∷◌, ◌++◌, take, length, cond, true, false, Option, Some, None, refl, sym, ap, subst, ◌∙◌, arith}
use Rattle.std.specs.Prelude.{slice_get}
use Rattle.std.specs.Option.{option_flatten}
use Rattle.std.proofs.lemmas.Option.{same_Some, slice_get-get_or}
use Rattle.fk_isa.specs.declared.instruction.Instruction.{Instruction}
use Rattle.fk_isa.specs.Step.{HartState}
use Rattle.fk_audit.specs.declared.access.Access.{Access}
use Rattle.fk_audit.specs.declared.access.AccessKind.{AccessKind}
use Rattle.fk_audit.specs.declared.touch.Touch.{Touch}
use Rattle.fk_machine.specs.declared.place.Location.{Location}
use Rattle.fk_machine.specs.declared.place.Location.TheVariants.{SharedWord, ControlWord, LocalWord, DeviceWord, Nowhere}
use Rattle.fk_audit.specs.Access.{access_by}
use Rattle.fk_audit.specs.Touch.{touch_at, touch_by, touch_of, with_touch}
use Rattle.fk_audit.specs.Mark.{next_touch, next_touches}

-- a hart that has ended touches nothing
pub ended_touch : (code : List (Option Instruction)) (number : ℕ) (h : HartState) → h.ended ≡ true → None ≡ next_touch code number h
ended_touch code number h ended = sym (ap (λ b. cond b None (touch_of code number h)) ended)

-- one that has not ended
pub live_touch : (code : List (Option Instruction)) (number : ℕ) (h : HartState) (i : Option Instruction) (access : Option Access) → h.ended ≡ false → i ≡ option_flatten (slice_get code (h.pc / 4))
    → access ≡ access_by i h → touch_by number access ≡ next_touch code number h
live_touch code number h i access live is accesses =
    ap (touch_by number) accesses
    ∙ ap (λ r. touch_by number (access_by r h)) is
    ∙ sym (ap (λ b. cond b None (touch_of code number h)) live)

-- what holds of the hart that is read holds of the hart with its number
pub of_hart : (hs : List HartState) (number : ℕ) (read : HartState) (P : HartState → Type 0) → slice_get hs number ≡ Some read → P read → (h : HartState) → slice_get hs number ≡ Some h → P h
of_hart hs number read P is holds h there = subst P (same_Some read h (sym is ∙ there)) holds

-- ---- one hart after another

with_more : (o : Option Touch) (ts us : List Touch) → with_touch o ts ++ us ≡ with_touch o (ts ++ us)
with_more None ts us = refl
with_more (Some t) ts us = refl

next_push : (code : List (Option Instruction)) (first : ℕ) (hs : List HartState) (n : ℕ) (h : HartState) → slice_get hs n ≡ Some h
    → next_touches code first (take (suc n) hs) ≡ next_touches code first (take n hs) ++ with_touch (next_touch code (first + n) h) []
next_push code first [] n h there = absurd (cc)
next_push code first (g ∷ hs) zero h there =
    let same : g ≡ h = same_Some g h there in
    let number : first + zero ≡ first = omega arith in
    ap (λ x. with_touch (next_touch code first x) []) same ∙ ap (λ k. with_touch (next_touch code k h) []) (sym number)
next_push code first (g ∷ hs) (suc n) h there =
    let number : suc first + n ≡ first + suc n = omega arith in
    let o = next_touch code first g in
    let before = next_touches code (suc first) (take n hs) in
    ap (with_touch o) (next_push code (suc first) hs n h there)
    ∙ ap (λ k. with_touch o (before ++ with_touch (next_touch code k h) [])) number
    ∙ sym (with_more o before (with_touch (next_touch code (first + suc n) h) []))

-- the touches of the harts up to one more
pub next_more : (code : List (Option Instruction)) (hs : List HartState) (n : ℕ) (h : HartState) → slice_get hs n ≡ Some h
    → next_touches code 0 (take (n + 1) hs) ≡ next_touches code 0 (take n hs) ++ with_touch (next_touch code n h) []
next_more code hs n h there =
    let one : n + 1 ≡ suc n = omega arith in
    let number : 0 + n ≡ n = omega arith in
    ap (λ k. next_touches code 0 (take k hs)) one
    ∙ next_push code 0 hs n h there
    ∙ ap (λ k. next_touches code 0 (take n hs) ++ with_touch (next_touch code k h) []) number

-- a hart that is there
abbrev pub fresh : HartState
fresh = record { registers = λ r. 0; pc = 0; ended = false }

pub some_hart : (hs : List HartState) (n : ℕ) → n < length hs → (h : HartState) × (slice_get hs n ≡ Some h)
some_hart hs n within = (_, slice_get-get_or hs n fresh within)

-- an access outside shared data is no touch
pub no_touch : (number : ℕ) (kind : AccessKind) (place : Location) → ((word : ℕ) → place ≡ SharedWord word → ⊥) → None ≡ touch_at number kind place
no_touch number kind (SharedWord word) not = absurd (not word refl)
no_touch number kind (ControlWord word) not = refl
no_touch number kind (LocalWord word) not = refl
no_touch number kind (DeviceWord device) not = refl
no_touch number kind Nowhere not = refl
