-- Operations and their ranks.
use Rattle.std.specs.Prelude.{◌≡◌, ℕ, suc, List, [], ◌∷◌}
use Rattle.fk_meaning_forms.specs.Code.{Code, sites, numbered}

-- the kinds of a list of operations, each with its rank, counted from `first`, in place of its tag
abbrev pub ranked : {A : Type 0} → (first : ℕ) → List (ℕ × A) → List (ℕ × ℕ)
ranked n [] = []
ranked n (site ∷ more) = (site.0, n) ∷ ranked (suc n) more

abbrev pub SitesAreRanks : (A : Type 0) → Type 0
SitesAreRanks A = (first : ℕ) (code : Code A)
    → sites (numbered first code) ≡ ranked first (sites code)
