-- One more processor at the beginning.
use Rattle.std.proofs.Common.{◌≡◌, ℕ, zero, suc, ◌+◌, List, [], ◌∷◌, ◌++◌, map, ap, ◌∙◌, sym, arith}
use Rattle.std.proofs.lemmas.List.{map-append}
use Rattle.fk_num.specs.Word.{Memory}
use Rattle.fk_meaning.specs.Processor as run
use Rattle.fk_meaning.specs.Round.{Runner}
use Rattle.fk_meaning.specs.Schedule.{first_processor, beginners}
use Rattle.fk_meaning_state.specs.declared.processor.Processor.{Processor}
use Rattle.fk_meaning_state.specs.View.{processor_of, runner_of}

module _ {W : Type 0} (set : run.Setting) (firsts : Memory) (left : W) where
  abbrev beginner : (h : ℕ) → Runner W
  beginner h = record { left = left; has = first_processor set firsts h }

  beginners-suc : (h n : ℕ) → beginners set firsts left h (suc n) ≡ beginners set firsts left h n ++ beginner (h + n) ∷ []
  beginners-suc h zero = let same : h ≡ h + 0 = omega arith in ap (λ (k : ℕ). beginner k ∷ []) same
  beginners-suc h (suc n) =
      let same : suc h + n ≡ h + suc n = omega arith in
      let others = beginners set firsts left (suc h) n in
      ap (λ (rs : List (Runner W)). beginner h ∷ rs) (beginners-suc (suc h) n ∙ ap (λ (k : ℕ). others ++ beginner k ∷ []) same)

  -- after the first n, the processor of number n
  pub one_more : (n : ℕ) (former new : List Processor) (q : Processor)
      → map (runner_of left) former ≡ beginners set firsts left 0 n
      → processor_of q ≡ first_processor set firsts n
      → new ≡ former ++ q ∷ []
      → map (runner_of left) new ≡ beginners set firsts left 0 (n + 1)
  one_more n former new q begun first pushed =
      let one : suc n ≡ n + 1 = omega arith in
      let none : n ≡ 0 + n = omega arith in
      let of_last : run.Processor → List (Runner W) = λ (p : run.Processor). beginners set firsts left 0 n ++ (record { left = left; has = p }) ∷ [] in
      ap (λ (ps : List Processor). map (runner_of left) ps) pushed
      ∙ map-append (runner_of left) former (q ∷ [])
      ∙ ap (λ (rs : List (Runner W)). rs ++ runner_of left q ∷ []) begun
      ∙ ap of_last first
      ∙ ap (λ (k : ℕ). beginners set firsts left 0 n ++ beginner k ∷ []) none
      ∙ sym (beginners-suc 0 n)
      ∙ ap (λ (k : ℕ). beginners set firsts left 0 k) one
