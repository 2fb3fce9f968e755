-- Of the predeclared names one alone means words of a group's space.
use Rattle.std.proofs.Common.{◌≡◌, ℕ, zero, suc, ◌<◌, false, true≢false, List, [], subst, refl, ◌∙◌, arith}
use Rattle.std.specs.Prelude.{get_or, Contains}
use Rattle.std.proofs.lemmas.List.{get_or_default}
use Rattle.fk_syntax.specs.Tree.{Named}
use Rattle.fk_types_names.specs.Means.{predeclared}
use Rattle.fk_regions.specs.declared.token.Spelling.TheVariants.{Shalloc}
use Rattle.fk_regions.specs.Tokens.{spelling_of}
use Rattle.fk_lockstep.specs.Allots.{is_value_name, is_other_call}

module _ (name : Named) where
  abbrev spelt : List ℕ → Named
  spelt bytes = record name { bytes = bytes }

  abbrev Spelled : List ℕ → Type 0
  Spelled bytes = is_value_name (spelt bytes) ≡ false → is_other_call (spelt bytes) ≡ false → spelling_of bytes ≡ Shalloc

  at_number : (k : ℕ) → k < 14 → Spelled (get_or predeclared k [])
  at_number zero low v c = absurd (true≢false c)
  at_number (suc zero) low v c = absurd (true≢false c)
  at_number (suc (suc zero)) low v c = absurd (true≢false c)
  at_number (suc (suc (suc zero))) low v c = absurd (true≢false c)
  at_number (suc (suc (suc (suc zero)))) low v c = absurd (true≢false c)
  at_number (suc (suc (suc (suc (suc zero))))) low v c = refl
  at_number (suc (suc (suc (suc (suc (suc zero)))))) low v c = absurd (true≢false c)
  at_number (suc (suc (suc (suc (suc (suc (suc zero))))))) low v c = absurd (true≢false c)
  at_number (suc (suc (suc (suc (suc (suc (suc (suc zero)))))))) low v c = absurd (true≢false c)
  at_number (suc (suc (suc (suc (suc (suc (suc (suc (suc zero))))))))) low v c = absurd (true≢false c)
  at_number (suc (suc (suc (suc (suc (suc (suc (suc (suc (suc zero)))))))))) low v c = absurd (true≢false v)
  at_number (suc (suc (suc (suc (suc (suc (suc (suc (suc (suc (suc zero))))))))))) low v c = absurd (true≢false v)
  at_number (suc (suc (suc (suc (suc (suc (suc (suc (suc (suc (suc (suc zero)))))))))))) low v c = absurd (true≢false v)
  at_number (suc (suc (suc (suc (suc (suc (suc (suc (suc (suc (suc (suc (suc zero))))))))))))) low v c = absurd (true≢false v)
  at_number (suc (suc (suc (suc (suc (suc (suc (suc (suc (suc (suc (suc (suc (suc k)))))))))))))) low v c = absurd (omega (arith, low))

  pub spelled : Contains predeclared name.bytes → is_value_name name ≡ false → is_other_call name ≡ false → spelling_of name.bytes ≡ Shalloc
  spelled (k, low, is) = subst Spelled (get_or_default predeclared k [] name.bytes low ∙ is) (at_number k low)
