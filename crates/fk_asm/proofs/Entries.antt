-- Commit entries rise.
use Rattle.std.proofs.Common.{◌≡◌, ℕ, ◌+◌, ◌*◌, ◌<◌, ◌≤◌, List, [], ◌∷◌, ◌++◌, map, length, All, ⊎_elim, arith}
use Rattle.std.specs.List.Sorted.{IsStrictlyIncreasing}
use Rattle.std.proofs.lemmas.Bool.{cases_lt}
use Rattle.std.proofs.lemmas.List.{length_push, map-append, get_or_append_left, get_or_push}
use Rattle.std.proofs.lemmas.List.Elements.{All-map, All-push}
use Rattle.fk_asm.specs.declared.line.Line.{Line}
use Rattle.fk_asm.specs.Commits.{IsEntry}
use Rattle.fk_asm.specs.Sound.{IsSound}

pub IsStrictlyIncreasing-push : (xs : List ℕ) (y : ℕ) → IsStrictlyIncreasing xs → All (λ x. x < y) xs → IsStrictlyIncreasing (xs ++ y ∷ [])
IsStrictlyIncreasing-push xs y rise below k h =
    let n = length_push xs y in
    let in' : k < length xs = omega arith in
    ⊎_elim (λ lt. let a = get_or_append_left xs (y ∷ []) 0 k in' in let b = get_or_append_left xs (y ∷ []) 0 (k + 1) lt in omega (arith, rise k lt))
    (λ ge. let a = get_or_append_left xs (y ∷ []) 0 k in' in let b = get_or_push xs y 0 (k + 1) (omega arith) in omega (arith, below k 0 in'))
    (cases_lt (k + 1) (length xs))

-- one more entry, of the next word, whose index is n
pub IsSound-entry : (lines : List Line) (commits : List (ℕ × ℕ)) (n count event : ℕ) → IsSound lines commits → All (λ e. e.0 < 4 * length lines) commits → n ≡ length lines
    → 1 ≤ count → count ≤ 255 → event ≤ 6 → IsSound lines (commits ++ (4 * n, count + 256 * event) ∷ [])
IsSound-entry lines commits n count event s followed same least most up =
    record {
      few = s.few;
      fit = s.fit;
      entries = All-push IsEntry commits (4 * n, count + 256 * event) s.entries (record { aligned = omega arith; counted = omega arith; event = omega arith });
      within = All-push (λ e. e.0 ≤ 4 * length lines) commits (4 * n, count + 256 * event) s.within (omega arith);
      rise = rw (map-append, same) (IsStrictlyIncreasing-push (map (λ e. e.0) commits) (4 * length lines) s.rise (All-map (λ m. m < 4 * length lines) (λ e. e.0) commits followed));
    }
