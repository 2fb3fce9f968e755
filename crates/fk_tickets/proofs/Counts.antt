-- Counts of draws and gives, which don't wrap, and how many tickets are out.
use Rattle.std.proofs.Common.{◌≡◌, ℕ, zero, suc, ◌+◌, ◌<◌, ◌≤◌, ◌==◌, List, refl, ap, ap₂, arith, inl, inr}
use Rattle.std.specs.Prelude.{if◌then◌else◌, fold, take}
use Rattle.std.proofs.lemmas.Bool.{cases_lt, eq-eqb, ne_eqb}
use Rattle.fk_tickets.specs.Lock.{Act, Draw, Look, Give, Event, Stage, Outside, Waiting, Inside, with_stage}

-- the draws and the gives so far, and for each processor the draws before its last one
pub record Count : Type 0 where
  pub draws : ℕ
  pub gives : ℕ
  pub drawn : (h : ℕ) → ℕ

abbrev pub with_drawn : (ℕ → ℕ) → (h : ℕ) → ℕ → ℕ → ℕ
with_drawn drawn h n = λ g. if g == h then n else drawn g

abbrev pub count_act : (h : ℕ) → Act → Count → Count
count_act h Draw c = record { draws = suc c.draws; gives = c.gives; drawn = with_drawn c.drawn h c.draws }
count_act h Look c = c
count_act h Give c = record c { gives = suc c.gives }

abbrev pub counted : Count → Event → Count
counted c e = count_act e.processor e.act c

abbrev pub first_count : Count
first_count = record { draws = 0; gives = 0; drawn = λ h. 0 }

abbrev pub counts : List Event → ℕ → Count
counts history k = fold counted first_count (take k history)

-- 1 for a processor that has a ticket
abbrev pub ticket_of : Stage → ℕ
ticket_of Outside = 0
ticket_of (Waiting t) = 1
ticket_of Inside = 1

-- how many of the first p processors have a ticket
abbrev pub out : (p : ℕ) → (ℕ → Stage) → ℕ
out zero s = 0
out (suc p) s = ticket_of (s p) + out p s

pub out_few : (p : ℕ) (s : ℕ → Stage) → out p s ≤ p
out_few zero s = omega arith
out_few (suc p) s =
    let rest = out_few p s in
    let one = by (s p) in
    omega (arith, rest, one)
  where
    by : (x : Stage) → ticket_of x ≤ 1
    by Outside = omega arith
    by (Waiting t) = omega arith
    by Inside = omega arith

same_out : (p : ℕ) (s s' : ℕ → Stage) → ((g : ℕ) → g < p → ticket_of (s g) ≡ ticket_of (s' g)) → out p s ≡ out p s'
same_out zero s s' same = refl
same_out (suc p) s s' same = ap₂ (λ x y. x + y) (same p (omega arith)) (same_out p s s' (λ g lt. same g (omega (arith, lt))))

-- the stage of one processor changes
pub change_out : (p h : ℕ) (s s' : ℕ → Stage) → h < p → ((g : ℕ) → (g ≡ h → ⊥) → ticket_of (s g) ≡ ticket_of (s' g))
    → out p s + ticket_of (s' h) ≡ out p s' + ticket_of (s h)
change_out zero h s s' lt other = absurd (omega (arith, lt))
change_out (suc p) h s s' lt other =
    elim (cases_lt h p) [
      | inl low ↦
          let here = other p (λ is. omega (arith, is, low)) in
          let rest = change_out p h s s' low other in
          omega (arith, here, rest)
      | inr high ↦
          let is : p ≡ h = omega (arith, high, lt) in
          let rest = same_out p s s' (λ g low. other g (λ same. omega (arith, same, low, high))) in
          let old = ap (λ q. ticket_of (s q)) is in
          let new = ap (λ q. ticket_of (s' q)) is in
          omega (arith, rest, old, new)
    ]

-- the stage of the processor that changes, and of the others
pub its_stage : (s : ℕ → Stage) (h : ℕ) (x : Stage) (g : ℕ) → g ≡ h → with_stage s h x g ≡ x
its_stage s h x g is = let e = eq-eqb g h is in rw e refl

pub other_stage : (s : ℕ → Stage) (h : ℕ) (x : Stage) (g : ℕ) → (g ≡ h → ⊥) → with_stage s h x g ≡ s g
other_stage s h x g not = let e = ne_eqb g h not in rw e refl

pub its_drawn : (drawn : ℕ → ℕ) (h n g : ℕ) → g ≡ h → with_drawn drawn h n g ≡ n
its_drawn drawn h n g is = let e = eq-eqb g h is in rw e refl

pub other_drawn : (drawn : ℕ → ℕ) (h n g : ℕ) → (g ≡ h → ⊥) → with_drawn drawn h n g ≡ drawn g
other_drawn drawn h n g not = let e = ne_eqb g h not in rw e refl
