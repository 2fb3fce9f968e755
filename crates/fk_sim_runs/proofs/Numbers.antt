-- What the frames of a processor's calls save of `@` and `$`.
use Rattle.std.proofs.Common.{◌≡◌, ℕ, zero, suc, ◌+◌, ◌-◌, ◌^◌, ◌<◌, ◌==◌, Bool, true, false, List, [], ◌∷◌, map, length, Option, Some, None, refl, sym, ap, ◌∙◌, subst, arith, eq-eqb}
use Rattle.std.proofs.lemmas.Bool.{cond-true}
use Rattle.std.proofs.lemmas.List.Elements.{All-head}
use Rattle.std.proofs.lemmas.Option.{slice_get_within}
use Rattle.fk_space.specs.Space.{Space}
use Rattle.fk_meaning_operation.specs.declared.operation.SplitKind.TheVariants.{Fork}
use Rattle.fk_meaning_operation.specs.declared.operation.Operation.{Operation}
use Rattle.fk_meaning_operation.specs.declared.operation.Operation.TheVariants as o
use Rattle.fk_meaning.specs.Processor.{Level, Setting}
use Rattle.fk_meaning.specs.Round.{Runner}
use Rattle.fk_core.specs.declared.op.CoreOp.{CoreOp}
use Rattle.fk_core.specs.Next.{Position, landing}
use Rattle.fk_lockstep_frames.specs.Nests.{Nest, OfFunction, OfPart, nesting, levels_of, words_in_part, left_by_fork, forks_of, IsInPart}
use Rattle.fk_lockstep_frames.specs.Taken.{TakesInPart, KeepsNumbers}
use Rattle.fk_lockstep_frames.specs.Lists.{HasToldFrames}
use Rattle.fk_sim_block.specs.Next.{OpAt}
use Rattle.fk_sim_block.specs.Node.{Nestings}
use Rattle.fk_sim_block.specs.Parts.{HasFrameWords, HasNumbersBy}
use Rattle.fk_sim_runs.specs.Lists.{IsOfTree}
use Rattle.fk_sim_runs.specs.Levels.{leaves_part, SavesNumbers}
use Rattle.fk_sim_runs.proofs.Levels.{part_asked}

-- ---- where a part of a call forks

opened_more : (main : Bool) (ns : List Nest) (n : ℕ) → levels_of main ns ≡ suc n → levels_of main (OfPart true None ∷ ns) ≡ suc (suc n)
opened_more true ns n e = omega (arith, e)
opened_more false ns n e = omega (arith, e)

forked : (main : Bool) (ns : List Nest) (n : ℕ) → levels_of main ns ≡ suc n → forks_of main (OfPart true None ∷ ns) (suc n) ≡ Some (words_in_part ns)
forked main ns n e =
    cond-true (suc (suc n) == levels_of main (OfPart true None ∷ ns)) (Some (words_in_part ns)) (forks_of main ns (suc n))
    (eq-eqb (suc (suc n)) (levels_of main (OfPart true None ∷ ns)) (sym (opened_more main ns n e)))

no_level : {A : Type 0} (main : Bool) (ns : List Nest) (n : ℕ) → nesting ns ≡ 0 → levels_of main ns ≡ suc n → A
no_level true ns n none e = absurd (let z : ⊥ = omega (arith, none, e) in z)
no_level false ns n none e = absurd (let z : ⊥ = omega (arith, none, e) in z)

taken_words : (main : Bool) (ns : List Nest) (n : ℕ) (s : Space) → levels_of main ns ≡ suc n → TakesInPart ns s → s.frames ≡ s.low + 8 + words_in_part ns
taken_words main [] n s e h = no_level main [] n refl e
taken_words main (OfFunction f ∷ ns) n s e h = no_level main (OfFunction f ∷ ns) n refl e
taken_words main (OfPart b f ∷ ns) n s e h = h

-- ---- where a part is left

same_numbers : (own around : ℕ × ℕ) → own ≡ around → (around.0 ≡ own.0) × (around.1 ≡ own.1)
same_numbers own around e = (ap (λ (n : ℕ × ℕ). n.0) (sym e), ap (λ (n : ℕ × ℕ). n.1) (sym e))

numbers_by : (b : Bool) (f : Option ℕ) (ns : List Nest) (l own : Level) (further : List (ℕ × ℕ)) → KeepsNumbers (OfPart b f ∷ ns) ((own.number, own.rank) ∷ (l.number, l.rank) ∷ further)
    → HasNumbersBy (left_by_fork b ns) l own
numbers_by true f ns l own further h = tt
numbers_by false f ns l own further h = same_numbers (own.number, own.rank) (l.number, l.rank) h

left_numbers : (main : Bool) (ns : List Nest) (level : ℕ) (l own : Level) (further : List (ℕ × ℕ)) → IsInPart ns → suc level ≡ levels_of main ns
    → KeepsNumbers ns ((own.number, own.rank) ∷ (l.number, l.rank) ∷ further) → HasNumbersBy (forks_of main ns level) l own
left_numbers main [] level l own further part e h = absurd part
left_numbers main (OfFunction f ∷ ns) level l own further part e h = absurd part
left_numbers main (OfPart b f ∷ ns) level l own further part e h =
    subst (λ (told : Option ℕ). HasNumbersBy told l own)
    (sym (cond-true (suc level == levels_of main (OfPart b f ∷ ns)) (left_by_fork b ns) (forks_of main ns level) (eq-eqb (suc level) (levels_of main (OfPart b f ∷ ns)) e)))
    (numbers_by b f ns l own further h)

-- ---- a processor

module _ (core : List CoreOp) (nestings : Nestings) (main : ℕ) (list : IsOfTree core nestings main) (setting : Setting) (r : Runner Position)
    (told : HasToldFrames core main list.frames setting r) where
  abbrev i : ℕ
  i = landing core r.left.at

  abbrev ns : List Nest
  ns = list.frames.nests i

  abbrev in_main : Bool
  in_main = list.frames.in_main i

  forks : (op : CoreOp) → OpAt core i op (o.Split Fork) → HasFrameWords (nestings.levels i) (nestings.forks (suc i) (nestings.levels i)) r.has.level
  forks op at = by (nestings.levels i) (list.levels i (slice_get_within core i op at.stands))
    where
      fits : (list.frames.in_main (suc i) ≡ in_main) × (list.frames.nests (suc i) ≡ OfPart true None ∷ ns)
      fits = let on = (list.frames.fits i op (o.Split Fork) at.stands at.is_read).goes_on true in (on.main, on.nested)

      within : suc i < length core
      within = (list.within i op (o.Split Fork) at refl true).at

      levels_there : (n : ℕ) → levels_of in_main ns ≡ suc n → nestings.levels (suc i) ≡ suc (suc n)
      levels_there n e =
          list.levels (suc i) within ∙ ap (λ (b : Bool). levels_of b (list.frames.nests (suc i))) fits.0 ∙ ap (levels_of in_main) fits.1 ∙ opened_more in_main ns n e

      told_there : (n : ℕ) → levels_of in_main ns ≡ suc n → nestings.forks (suc i) (suc n) ≡ Some (words_in_part ns)
      told_there n e =
          let many = levels_there n e in
          list.forks (suc i) (suc n) within (omega (arith, many))
          ∙ ap (λ (b : Bool). forks_of b (list.frames.nests (suc i)) (suc n)) fits.0 ∙ ap (λ (ms : List Nest). forks_of in_main ms (suc n)) fits.1 ∙ forked in_main ns n e

      by : (n : ℕ) → n ≡ levels_of in_main ns → HasFrameWords n (nestings.forks (suc i) n) r.has.level
      by zero e = tt
      by (suc n) e =
          subst (λ (x : Option ℕ). HasFrameWords (suc n) x r.has.level) (sym (told_there n (sym e))) (taken_words in_main ns n r.has.level.space (sym e) told.taken)

  leaves : (op : CoreOp) (operation : Operation) (l : Level) (further : List Level) → OpAt core i op operation → leaves_part operation ≡ true → r.has.outer ≡ l ∷ further
      → 0 < nestings.levels i → HasNumbersBy (nestings.forks i (nestings.levels i - 1)) l r.has.level
  leaves op operation l further at is outer some =
      let lt = slice_get_within core i op at.stands in
      let many = list.levels i lt in
      let part = part_asked core main list.frames operation i is (list.frames.fits i op operation at.stands at.is_read).asks in
      let keeps : KeepsNumbers ns ((r.has.level.number, r.has.level.rank) ∷ (l.number, l.rank) ∷ map (λ (m : Level). (m.number, m.rank)) further)
      = subst (λ (ls : List Level). KeepsNumbers ns ((r.has.level.number, r.has.level.rank) ∷ map (λ (m : Level). (m.number, m.rank)) ls)) outer told.numbers in
      subst (λ (x : Option ℕ). HasNumbersBy x l r.has.level) (sym (list.forks i (nestings.levels i - 1) lt (omega (arith, some))))
      (left_numbers in_main ns (nestings.levels i - 1) l r.has.level (map (λ (m : Level). (m.number, m.rank)) further) part (omega (arith, some, many)) keeps)

  pub saves_numbers : SavesNumbers core nestings r
  saves_numbers = record {
    small = All-head (λ (n : ℕ × ℕ). n.0 < 2 ^ 16) (r.has.level.number, r.has.level.rank) (map (λ (l : Level). (l.number, l.rank)) r.has.outer) told.small;
    taken = forks;
    around = leaves;
  }
