-- In the openings of calls of shaped code operations go straight on.
use Rattle.std.proofs.Common.{◌≡◌, ℕ, suc, ◌+◌, ◌-◌, Bool, false, List, [], ◌∷◌, refl, subst, arith}
use Rattle.fk_syntax.specs.Program.{FunctionTree, ProgramTree}
use Rattle.fk_meaning_forms.specs.Code.{Code, done, perform, choose, while, until, turn, again, quit, break, continue, call, ends, size, numbered}
use Rattle.fk_meaning_forms.specs.Program.{binding_of, bodies_of}
use Rattle.fk_layout_walk.specs.declared.known.ProgramTables.{ProgramTables}
use Rattle.fk_layout_walk.specs.Known.{tables_of}
use Rattle.fk_layout_walk_statements.specs.Texts.{functions_in, code_in}
use Rattle.fk_core_flat.specs.Shape.{is_closed, IsOpening, IsShaped}
use Rattle.fk_lower_text.specs.Depths.{IsStraight, HasOpenings, HaveOpenings}
use Rattle.fk_lower_text.specs.Laid.{laid, GoUp}
use Rattle.fk_lower_text.specs.Lowered.{IsLowerable}
use Rattle.fk_lower_text.proofs.Laying.{code_at, past_none, bodies_are}

straight : {A : Type 0} (code : Code A) (n : ℕ) → IsOpening (numbered n code) → IsStraight code
straight done n s = tt
straight (perform t op rest) n s = straight rest (suc n) s.1
straight code n s = absurd s

module _ (has_body : (binding : ℕ) → Bool) where
  pub opened : {A : Type 0} (code : Code A) (n : ℕ) (l : Bool) → IsShaped has_body l (numbered n code) → HasOpenings code
  opened done n l s = tt
  opened (perform t op rest) n l s = opened rest (suc n) l s.1
  opened (choose t op x y rest) n l s =
      (opened x (suc n) l s.1, opened y (suc n + size x) l s.2, opened rest (suc n + size x + size y) l s.3)
  opened (while test body step rest) n l s = (
    opened test n _ s.2,
    opened body (n + size test) _ s.3,
    opened step (n + size test + size body) _ s.4,
    opened rest (n + size test + size body + size step) l s.5,
  )
  opened (until body test rest) n l s =
      (opened body n _ s.1, opened test (n + size body) _ s.2, opened rest (n + size body + size test) l s.3)
  opened (turn test body step rest) n l s = absurd s
  opened (again test body step rest) n l s = absurd s
  opened (quit t op rest) n l s = opened rest (suc n) l s.2
  opened (break rest) n l s = opened rest n l s.1
  opened (continue rest) n l s = opened rest n l s.1
  opened (call t op f opening rest) n l s = (straight opening (suc n) s.2, opened rest (suc n + size opening) l s.3)
  opened (ends t op rest) n l s = opened rest (suc n) l s.1

  -- so of functions that are laid one behind the other
  pub all_opened : (known : ProgramTables) (fs : List FunctionTree) (count site : ℕ)
      → ((i : ℕ) → IsShaped has_body false (code_at (laid known count site fs) i)) → HaveOpenings known fs
  all_opened known [] count site shaped = tt
  all_opened known (f ∷ fs) count site shaped =
      let binding = binding_of (tables_of known) f in
      let own = numbered site (code_in known f) in
      let others = laid known (suc binding) (site + size (code_in known f)) fs in
      let skipped = binding - count in
      let here : skipped ≡ skipped + 0 = omega arith in (
        opened (code_in known f) site false (subst (λ (code : Code ℕ). IsShaped has_body false code) (past_none skipped 0 skipped (own ∷ others) here) (shaped skipped)),
        all_opened known fs (suc binding) (site + size (code_in known f))
            (λ i. subst (λ (code : Code ℕ). IsShaped has_body false code) (past_none skipped (suc i) (skipped + suc i) (own ∷ others) refl) (shaped (skipped + suc i))),
      )

-- so of a program that can be lowered
pub program_opened : (known : ProgramTables) (program : ProgramTree) → IsLowerable known program → GoUp known 0 (functions_in known) → HaveOpenings known (functions_in known)
program_opened known program lowerable up =
    let has_body : ℕ → Bool = λ f. is_closed (bodies_of (tables_of known) program f) in
    all_opened has_body known (functions_in known) 0 0
    (λ i. subst (λ (code : Code ℕ). IsShaped has_body false code) (bodies_are known program lowerable up i) (lowerable.shaped i).0)
