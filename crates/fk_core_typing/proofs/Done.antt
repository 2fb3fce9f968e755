-- Code in which nothing is left.
use Rattle.std.proofs.Common.{◌≡◌, ℕ, true}
use Rattle.fk_meaning_forms.specs.Code.{Code, done, perform, choose, while, until, turn, again, quit, break, continue, call, ends}
use Rattle.fk_core_flat.specs.Shape.{is_done}

-- it is `done`
pub by_done : (P : Code ℕ → Type 0) (code : Code ℕ) → is_done code ≡ true → P done → P code
by_done P done e p = p
by_done P (perform n op rest) e p = absurd (cc)
by_done P (choose n op x y rest) e p = absurd (cc)
by_done P (while a b c rest) e p = absurd (cc)
by_done P (until a b rest) e p = absurd (cc)
by_done P (turn a b c rest) e p = absurd (cc)
by_done P (again a b c rest) e p = absurd (cc)
by_done P (quit n op rest) e p = absurd (cc)
by_done P (break rest) e p = absurd (cc)
by_done P (continue rest) e p = absurd (cc)
by_done P (call n op f opening rest) e p = absurd (cc)
by_done P (ends n op rest) e p = absurd (cc)
