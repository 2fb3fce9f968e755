-- The lines of a machine's cycles.
use Rattle.std.proofs.Common.{◌≡◌, ℕ, zero, suc, ◌+◌, ◌≤◌, [], ◌∷◌, ◌++◌, Bool, true, false, List, length, refl, sym, ap, ◌∙◌, arith, length-append, append-nil, append_assoc, ◌⊎◌, inl, inr}
use Rattle.fk_machine.specs.Cycle.{Machine, is_running}
use Rattle.fk_machine.specs.Run.{after, committed, committed_in}
use Rattle.fk_machine.proofs.Runs.{committed_in-next, committed_in-stopped}
use Rattle.fk_trace.specs.Text.{cycle_lines, lines_from}
use Rattle.fk_trace.specs.Early.{lines_in}
use Rattle.fk_trace.proofs.Lines.{lines_from-next}

-- as many cycles were begun as have their commits told
pub begun-length : (m : Machine) (n : ℕ) → (after n m).begun ≡ m.begun + length (committed_in n m)
begun-length m zero = let e : m.begun ≡ m.begun + zero = omega arith in e
begun-length m (suc n) = by (is_running (after n m).stand) refl (begun-length m n)
  where
    by : (b : Bool) → is_running (after n m).stand ≡ b → (after n m).begun ≡ m.begun + length (committed_in n m) → (after (suc n) m).begun ≡ m.begun + length (committed_in (suc n) m)
    by true e before =
        let one = length-append (committed_in n m) (committed (after (suc n) m) ∷ []) in
        let more = ap length (committed_in-next m n e) in
        let begun : (after (suc n) m).begun ≡ (after n m).begun + 1 = rw e refl in
        omega (arith, before, one, more, begun)
    by false e before =
        let le : n ≤ suc n = omega arith in
        let same = ap length (committed_in-stopped m n (suc n) le e) in
        let begun : (after (suc n) m).begun ≡ (after n m).begun = rw e refl in
        omega (arith, before, same, begun)

-- one more cycle has its lines
pub lines_in-next : (m : Machine) (n : ℕ) → is_running (after n m).stand ≡ true
    → lines_in (suc n) m ≡ lines_in n m ++ cycle_lines (after (suc n) m).begun (committed (after (suc n) m))
lines_in-next m n running =
    let last = committed (after (suc n) m) in
    let begun : (after (suc n) m).begun ≡ (after n m).begun + 1 = rw running refl in
    let place : m.begun + 1 + length (committed_in n m) ≡ (after (suc n) m).begun = omega (arith, begun, begun-length m n) in
    ap (lines_from (m.begun + 1)) (committed_in-next m n running)
    ∙ lines_from-next (m.begun + 1) (committed_in n m) last
    ∙ ap (λ t. lines_in n m ++ cycle_lines t last) place

-- a machine that has stopped has no more lines
pub lines_in-stopped : (m : Machine) (k n : ℕ) → k ≤ n → is_running (after k m).stand ≡ false → lines_in n m ≡ lines_in k m
lines_in-stopped m k n le stopped = ap (lines_from (m.begun + 1)) (committed_in-stopped m k n le stopped)

-- the lines of more cycles begin with those of fewer
pub lines_in-longer : (m : Machine) (k n : ℕ) → k ≤ n → (rest : List ℕ) × (lines_in n m ≡ lines_in k m ++ rest)
lines_in-longer m k zero le = let e : zero ≡ k = omega (arith, le) in ([], ap (λ i. lines_in i m) e ∙ sym (append-nil (lines_in k m)))
lines_in-longer m k (suc n) le = elim (cases_le k n le) [
  | inl before ↦
      let shorter = lines_in-longer m k n before in
      by (is_running (after n m).stand) refl shorter
  | inr e ↦ ([], ap (λ i. lines_in i m) (sym e) ∙ sym (append-nil (lines_in k m)))
]
  where
    cases_le : (k n : ℕ) → k ≤ suc n → (k ≤ n) ⊎ (k ≡ suc n)
    cases_le k n le = grind arith

    by : (b : Bool) → is_running (after n m).stand ≡ b → (rest : List ℕ) × (lines_in n m ≡ lines_in k m ++ rest) → (rest : List ℕ) × (lines_in (suc n) m ≡ lines_in k m ++ rest)
    by true e shorter =
        let last = cycle_lines (after (suc n) m).begun (committed (after (suc n) m)) in
        (shorter.0 ++ last, lines_in-next m n e ∙ ap (λ l. l ++ last) shorter.1 ∙ append_assoc (lines_in k m) shorter.0 last)
    by false e shorter = let more : n ≤ suc n = omega arith in (shorter.0, lines_in-stopped m n (suc n) more e ∙ shorter.1)
