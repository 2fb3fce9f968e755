-- Commits whose addresses rise are no more than the words of code.
use Rattle.std.proofs.Common.{ℕ, ◌+◌, ◌*◌, ◌≤◌, List, [], ◌∷◌, length, All, vec_len, arith}
use Rattle.std.specs.List.{AllByRecursion}
use Rattle.std.proofs.lemmas.List.Elements.{recursion_from_All}
use Rattle.fk_image.specs.declared.Image.{Image}
use Rattle.fk_image.specs.Limits.{IsCommit, IsWithinLimits, Rise}

-- commits from word a on
few : (words a : ℕ) (c : ℕ × ℕ) (cs : List (ℕ × ℕ)) → 4 * a ≤ c.0 → Rise (c ∷ cs) → AllByRecursion (IsCommit words) (c ∷ cs) → a + length (c ∷ cs) ≤ words
few words a c [] low rise fits = let f : IsCommit words c = fits.0 in omega (arith, f.within)
few words a c (d ∷ ds) low rise fits =
    let f : IsCommit words c = fits.0 in
    let g : IsCommit words d = fits.1.0 in
    let next : 4 * (a + 1) ≤ d.0 = omega (arith, f.aligned, g.aligned, rise.0) in
    let rest = few words (a + 1) d ds next rise.1 fits.1 in
    omega (arith, rest)

few_by_recursion : (words : ℕ) (cs : List (ℕ × ℕ)) → Rise cs → AllByRecursion (IsCommit words) cs → length cs ≤ words
few_by_recursion words [] rise fits = omega arith
few_by_recursion words (c ∷ cs) rise fits = let all = few words 0 c cs (omega arith) rise fits in omega (arith, all)

-- at most as many as words of code
few_commits : (words : ℕ) (cs : List (ℕ × ℕ)) → Rise cs → All (IsCommit words) cs → length cs ≤ words
few_commits words cs rise fits = few_by_recursion words cs rise (recursion_from_All (IsCommit words) cs fits)

pub few_of_image : (image : Image) → IsWithinLimits image → vec_len image.commits ≤ vec_len image.code
few_of_image image limits =
    let few = few_commits (vec_len image.code) image.commits.items limits.rise limits.commits in
    omega (arith, few, image.commits.ok.0)
