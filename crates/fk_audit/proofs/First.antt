-- The first clash of a run.
use Rattle.std.proofs.Common.{◌≡◌, ℕ, suc, ◌+◌, ◌≤◌, true, false, Option, Some, None, inl, inr, refl, ap, subst, ◌∙◌, arith}
use Rattle.std.proofs.lemmas.Bool.{cases_lt, cases_Bool, both_ways}
use Rattle.fk_machine.specs.Cycle.{Machine, is_running}
use Rattle.fk_machine.specs.Run.{after}
use Rattle.fk_machine.proofs.Runs.{after-stopped}
use Rattle.fk_audit.specs.declared.access.AccessKind.{AccessKind}
use Rattle.fk_audit.specs.declared.verdict.Clash.{Clash}
use Rattle.fk_audit.specs.Clash.{Clashes, IsFirstOf}
use Rattle.fk_audit.specs.Mark.{IsLeast, first_of}

-- a machine that runs has run
ran_before : (m : Machine) (k n : ℕ) → k ≤ n → is_running (after n m).stand ≡ true → is_running (after k m).stand ≡ true
ran_before m k n le running =
    elim (cases_Bool (is_running (after k m).stand)) [
      | inl ran ↦ ran
      | inr stopped ↦ absurd (both_ways _ (ap (λ (l : Machine). is_running l.stand) (after-stopped m k n le stopped) ∙ stopped) running)
    ]

-- before the first cycle there is no clash
pub first_none : (kind : AccessKind) (m : Machine) → IsFirstOf kind m 0 None
first_none kind m = λ n word lt begun clash. absurd (omega (arith, lt))

-- one cycle more
pub first_more : (kind : AccessKind) (m : Machine) (n : ℕ) (found : Option Clash) (word : Option ℕ) → is_running (after n m).stand ≡ true → IsLeast (Clashes kind (after n m)) word → IsFirstOf kind m n found
    → IsFirstOf kind m (suc n) (first_of found (n + 1) word)
first_more kind m n (Some clash) word running least f =
    record {
      before = f.before;
      word = f.word;
      cycle_is = f.cycle_is;
      address_is = f.address_is;
      within = omega (arith, f.within);
      begun = f.begun;
      clashes = f.clashes;
      earlier = f.earlier;
      less = f.less;
    }
first_more kind m n None None running least f = λ k w lt begun clash.
    elim (cases_lt k n) [
      | inl before ↦ f k w before begun clash
      | inr above ↦ let e : k ≡ n = omega (arith, lt, above) in least w (subst (λ (j : ℕ). Clashes kind (after j m) w) e clash)
    ]
first_more kind m n None (Some word) running least f =
    record {
      before = n;
      word = word;
      cycle_is = refl;
      address_is = refl;
      within = omega arith;
      begun = running;
      clashes = least.1;
      earlier = λ k other lt. f k other lt (ran_before m k n (omega (arith, lt)) running);
      less = least.2;
    }

-- a machine that has stopped has no further clash
pub first_stays : (kind : AccessKind) (m : Machine) (k n : ℕ) (found : Option Clash) → k ≤ n → is_running (after k m).stand ≡ false → IsFirstOf kind m k found → IsFirstOf kind m n found
first_stays kind m k n None le stopped f = λ j w lt begun clash.
    elim (cases_lt j k) [
      | inl before ↦ f j w before begun clash
      | inr above ↦ both_ways _ (ap (λ (l : Machine). is_running l.stand) (after-stopped m k j above stopped) ∙ stopped) begun
    ]
first_stays kind m k n (Some clash) le stopped f =
    record {
      before = f.before;
      word = f.word;
      cycle_is = f.cycle_is;
      address_is = f.address_is;
      within = omega (arith, f.within, le);
      begun = f.begun;
      clashes = f.clashes;
      earlier = f.earlier;
      less = f.less;
    }
