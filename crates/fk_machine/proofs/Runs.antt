-- Whole runs.
use Rattle.std.proofs.Common.{◌≡◌, ◌≢◌, ℕ, zero, suc, ◌+◌, ◌-◌, ◌≤◌, List, [], ◌∷◌, ◌++◌, Bool, true, false, cond, refl, ap, ◌∙◌, sym, arith, append-nil, append_assoc, ◌⊎◌, inl, inr}
use Rattle.fk_image.specs.declared.Image.{Image}
use Rattle.fk_machine.specs.declared.stand.Stand.{Stand}
use Rattle.fk_machine.specs.declared.stand.Stand.TheVariants.{Running, Finished, Faulted, Trapped}
use Rattle.fk_machine.specs.Cycle.{Machine, is_running, after_turns, turns_of, unprinted, cycle, machine_opening}
use Rattle.fk_machine.specs.Run.{machine, output_of, after, output_in, committed, committed_in, rounds, round_of}

begun-cond : (b : Bool) (m m' : Machine) (n : ℕ) → m.begun ≤ n → m'.begun ≤ n → (cond b m' m).begun ≤ n
begun-cond true m m' n old new = new
begun-cond false m m' n old new = old

-- at most n more cycles are begun in n cycles
pub begun-after : (m : Machine) (n : ℕ) → (after n m).begun ≤ m.begun + n
begun-after m zero = omega arith
begun-after m (suc n) =
    let l = after n m in
    let h : l.begun ≤ m.begun + n = begun-after m n in
    begun-cond (is_running l.stand) l (after_turns l (turns_of l)) (m.begun + suc n) (omega arith) (omega arith)

last_or_before : (k n : ℕ) → k ≤ suc n → (k ≤ n) ⊎ (k ≡ suc n)
last_or_before k n le = grind arith

cycle-stopped : (m : Machine) → is_running m.stand ≡ false → cycle m ≡ m
cycle-stopped m e = ap (λ b. cond b (after_turns m (turns_of m)) m) e

-- a machine that has stopped after k cycles stays as it is
pub after-stopped : (m : Machine) (k n : ℕ) → k ≤ n → is_running (after k m).stand ≡ false → after n m ≡ after k m
after-stopped m k zero le stopped = let e : zero ≡ k = omega arith in ap (λ i. after i m) e
after-stopped m k (suc n) le stopped =
    elim (last_or_before k n le) [
      | inl before ↦ ap cycle (after-stopped m k n before stopped) ∙ cycle-stopped (after k m) stopped
      | inr e ↦ ap (λ i. after i m) (sym e)
    ]

-- what only the cycles of a machine that runs change stays as it is from there on
stays : {X : Type 0} (m : Machine) (f next : ℕ → X) → ((n : ℕ) → f (suc n) ≡ cond (is_running (after n m).stand) (next n) (f n)) → (k n : ℕ) → k ≤ n → is_running (after k m).stand ≡ false → f n ≡ f k
stays m f next grows k zero le stopped = let e : zero ≡ k = omega arith in ap f e
stays m f next grows k (suc n) le stopped =
    elim (last_or_before k n le) [
      | inl before ↦
          let still = ap (λ l. is_running l.stand) (after-stopped m k n before stopped) ∙ stopped in
          grows n ∙ ap (λ b. cond b (next n) (f n)) still ∙ stays m f next grows k n before stopped
      | inr e ↦ ap f (sym e)
    ]

-- nothing more is printed
pub output_in-stopped : (m : Machine) (k n : ℕ) → k ≤ n → is_running (after k m).stand ≡ false → output_in n m ≡ output_in k m
output_in-stopped m k n le stopped =
    stays m (λ i. output_in i m) (λ i. output_in i m ++ (after (suc i) m).shared.output) (λ i. refl) k n le stopped

-- the cycles of a run are those of its opening
pub machine-after : (image : Image) (input : List ℕ) (p n : ℕ) → machine image input p n ≡ after n (machine_opening image input p)
machine-after image input p zero = refl
machine-after image input p (suc n) = ap cycle (machine-after image input p n)

-- and so is what it prints
pub output_of-after : (image : Image) (input : List ℕ) (p n : ℕ) → output_of image input p n ≡ output_in n (machine_opening image input p)
output_of-after image input p zero = refl
output_of-after image input p (suc n) =
    let m = machine_opening image input p in
    let before = output_in n m in
    ap (λ l. cond (is_running l.stand) (output_of image input p n ++ (cycle l).shared.output) (output_of image input p n)) (machine-after image input p n)
    ∙ ap (λ o. cond (is_running (after n m).stand) (o ++ (after (suc n) m).shared.output) o) (output_of-after image input p n)

-- no more cycles are begun
pub rounds-stopped : (image : Image) (input : List ℕ) (p k n : ℕ) → k ≤ n → is_running (machine image input p k).stand ≡ false → rounds image input p n ≡ rounds image input p k
rounds-stopped image input p k n le stopped =
    let m = machine_opening image input p in
    let there = ap (λ l. is_running l.stand) (sym (machine-after image input p k)) ∙ stopped in
    let next : ℕ → List (List ℕ) = λ i. rounds image input p i ++ round_of image (machine image input p i) ∷ [] in
    let grows : (i : ℕ) → rounds image input p (suc i) ≡ cond (is_running (after i m).stand) (next i) (rounds image input p i) =
    λ i. ap (λ (l : Machine). cond (is_running l.stand) (next i) (rounds image input p i)) (machine-after image input p i) in
    stays m (rounds image input p) next grows k n le there

-- a stand other than Running
pub is_running-other : (s : Stand) → s ≢ Running → is_running s ≡ false
is_running-other Running other = absurd (other refl)
is_running-other Finished other = refl
is_running-other (Faulted site hart) other = refl
is_running-other (Trapped hart pc kind) other = refl

-- Runs in parts

either : (b : Bool) (xs ys zs : List ℕ) → cond b ((xs ++ ys) ++ zs) (xs ++ ys) ≡ xs ++ cond b (ys ++ zs) ys
either true xs ys zs = append_assoc xs ys zs
either false xs ys zs = refl

-- the cycles of k and then n
pub after-sum : (m : Machine) (k n : ℕ) → after (k + n) m ≡ after n (after k m)
after-sum m k zero = let e : k + zero ≡ k = omega arith in ap (λ i. after i m) e
after-sum m k (suc n) = let e : k + suc n ≡ suc (k + n) = omega arith in ap (λ i. after i m) e ∙ ap cycle (after-sum m k n)

-- and what they print
pub output_in-sum : (m : Machine) (k n : ℕ) → output_in (k + n) m ≡ output_in k m ++ output_in n (after k m)
output_in-sum m k zero = let e : k + zero ≡ k = omega arith in ap (λ i. output_in i m) e ∙ sym (append-nil (output_in k m))
output_in-sum m k (suc n) =
    let e : k + suc n ≡ suc (k + n) = omega arith in
    let l = after n (after k m) in
    let before = output_in n (after k m) in
    ap (λ i. output_in i m) e
    ∙ ap (λ (x : Machine). cond (is_running x.stand) (output_in (k + n) m ++ (cycle x).shared.output) (output_in (k + n) m)) (after-sum m k n)
    ∙ ap (λ o. cond (is_running l.stand) (o ++ (cycle l).shared.output) o) (output_in-sum m k n)
    ∙ either (is_running l.stand) (output_in k m) before (cycle l).shared.output

-- a machine without what its last cycle printed
abbrev pub quiet : Machine → Machine
quiet m = record m { shared = unprinted m.shared }

cycle-quiet : (m : Machine) → is_running m.stand ≡ true → cycle (quiet m) ≡ cycle m
cycle-quiet m e =
    ap (λ b. cond b (after_turns m (turns_of m)) (quiet m)) e ∙ sym (ap (λ b. cond b (after_turns m (turns_of m)) m) e)

pub after-quiet : (m : Machine) (k : ℕ) → 1 ≤ k → is_running m.stand ≡ true → after k (quiet m) ≡ after k m
after-quiet m zero some e = absurd (omega (arith, some))
after-quiet m (suc zero) some e = cycle-quiet m e
after-quiet m (suc (suc k)) some e = ap cycle (after-quiet m (suc k) (omega arith) e)

pub output_in-quiet : (m : Machine) (k : ℕ) → is_running m.stand ≡ true → output_in k (quiet m) ≡ output_in k m
output_in-quiet m zero e = refl
output_in-quiet m (suc zero) e = ap (λ (l : Machine). cond (is_running m.stand) ([] ++ l.shared.output) []) (cycle-quiet m e)
output_in-quiet m (suc (suc k)) e =
    let before = output_in (suc k) (quiet m) in
    ap (λ (l : Machine). cond (is_running l.stand) (before ++ (cycle l).shared.output) before) (after-quiet m (suc k) (omega arith) e)
    ∙ ap (λ o. cond (is_running (after (suc k) m).stand) (o ++ (after (suc (suc k)) m).shared.output) o) (output_in-quiet m (suc k) e)

-- nor does it change a stand
pub stand-quiet : (m : Machine) (k : ℕ) → is_running m.stand ≡ true → (after k (quiet m)).stand ≡ (after k m).stand
stand-quiet m zero e = refl
stand-quiet m (suc k) e = ap (λ (l : Machine). l.stand) (after-quiet m (suc k) (omega arith) e)

-- a machine that runs has run before its last cycle
pub running-before : (m : Machine) (k : ℕ) → is_running (after k m).stand ≡ true → is_running (after (k - 1) m).stand ≡ true
running-before m zero e = let z : zero - 1 ≡ zero = omega arith in ap (λ i. is_running (after i m).stand) z ∙ e
running-before m (suc k) e =
    let p : suc k - 1 ≡ k = omega arith in
    ap (λ i. is_running (after i m).stand) p ∙ ran (is_running (after k m).stand) refl
  where
    ran : (b : Bool) → is_running (after k m).stand ≡ b → is_running (after k m).stand ≡ true
    ran true is = is
    ran false is =
        let same = ap (λ (l : Machine). is_running l.stand) (cycle-stopped (after k m) is) in
        let bad : true ≡ false = sym e ∙ same ∙ is in
        cc

-- the first cycle that prints
pub output_in-first : (m : Machine) (k : ℕ) → is_running (after k m).stand ≡ true → output_in k m ≡ [] → output_in (suc k) m ≡ (cycle (after k m)).shared.output
output_in-first m k running none =
    ap (λ b. cond b (output_in k m ++ (cycle (after k m)).shared.output) (output_in k m)) running ∙ ap (λ o. o ++ (cycle (after k m)).shared.output) none

none_before : (b : Bool) (xs ys : List ℕ) → cond b (xs ++ ys) xs ≡ [] → xs ≡ []
none_before true [] ys e = refl
none_before true (x ∷ xs) ys e = absurd (cc)
none_before false xs ys e = e

-- where nothing is printed, nothing is printed in one cycle less
pub output_in-none : (m : Machine) (k : ℕ) → output_in k m ≡ [] → output_in (k - 1) m ≡ []
output_in-none m zero e = let z : zero - 1 ≡ zero = omega arith in ap (λ i. output_in i m) z ∙ e
output_in-none m (suc k) e =
    let p : suc k - 1 ≡ k = omega arith in
    ap (λ i. output_in i m) p ∙ none_before (is_running (after k m).stand) (output_in k m) (after (suc k) m).shared.output e

-- the cycles of a run of k cycles are the first ones of a longer run, and so is what they print
pub output_in-longer : (m : Machine) (k n : ℕ) → k ≤ n → output_in n m ≡ output_in k m ++ output_in (n - k) (after k m)
output_in-longer m k n le = let e : n ≡ k + (n - k) = omega (arith, le) in ap (λ i. output_in i m) e ∙ output_in-sum m k (n - k)

-- what they commit
pub committed_in-stopped : (m : Machine) (k n : ℕ) → k ≤ n → is_running (after k m).stand ≡ false → committed_in n m ≡ committed_in k m
committed_in-stopped m k n le stopped =
    stays m (λ i. committed_in i m) (λ i. committed_in i m ++ committed (after (suc i) m) ∷ []) (λ i. refl) k n le stopped

-- one more cycle commits
pub committed_in-next : (m : Machine) (k : ℕ) → is_running (after k m).stand ≡ true → committed_in (suc k) m ≡ committed_in k m ++ committed (after (suc k) m) ∷ []
committed_in-next m k running = ap (λ b. cond b (committed_in k m ++ committed (after (suc k) m) ∷ []) (committed_in k m)) running
