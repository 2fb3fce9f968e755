-- What stands at a binding is the code of its function.
use Rattle.std.proofs.Common.{◌≡◌, ℕ, zero, suc, ◌+◌, ◌-◌, ◌<◌, ◌≤◌, ◌==◌, if◌then◌else◌, List, [], ◌∷◌, ◌++◌, map, replicate, refl, ◌∙◌, sym, ap, subst, arith, eq-eqb, inl, inr}
use Rattle.std.proofs.lemmas.Bool.{ne_eqb, cases_order}
use Rattle.fk_syntax.specs.Program.{FunctionTree, ItemTree, ProgramTree}
use Rattle.fk_meaning_forms.specs.Code as c
use Rattle.fk_meaning_forms.specs.Code.{Code, done, size, numbered}
use Rattle.fk_meaning_forms.specs.Program.{functions_of, binding_of, body_in, bodies_of}
use Rattle.fk_layout_walk.specs.declared.known.ProgramTables.{ProgramTables}
use Rattle.fk_layout_walk.specs.Known.{tables_of}
use Rattle.fk_layout_walk_statements.specs.Texts.{functions_in, code_in}
use Rattle.fk_core_flat.specs.Laws.{AreShaped, IsFlat}
use Rattle.fk_core.specs.declared.op.CoreOp.{CoreOp}
use Rattle.fk_core.proofs.KeepsRuns.{flat_lists_keep_runs}
use Rattle.fk_core_flat.proofs.FlatCode.{flat_lists_have_code}
use Rattle.fk_lower.specs.declared.block.Block.{Block}
use Rattle.fk_lower.specs.View.{part_of}
use Rattle.fk_lower.specs.Lowered.{bodies_in}
use Rattle.fk_lower.specs.Building.{IsUnbegun}
use Rattle.fk_lower_text.specs.Whole.{IsWhole, AreWhole, ArePlain}
use Rattle.fk_lower_text.specs.Laid.{codes_of, laid, GoUp}
use Rattle.fk_lower_text.specs.Lowered.{IsLowerable, HasProgram, HasItsRuns}

-- the code of a binding, and none where there is none
abbrev pub code_at : List (Code ℕ) → (binding : ℕ) → Code ℕ
code_at [] b = done
code_at (code ∷ codes) zero = code
code_at (code ∷ codes) (suc b) = code_at codes b

-- before some code, and in it, behind so many bindings without any
at_none : (k b : ℕ) (codes : List (Code ℕ)) → b < k → code_at (replicate k done ++ codes) b ≡ done
at_none zero b codes h = absurd (omega arith)
at_none (suc k) zero codes h = refl
at_none (suc k) (suc b) codes h = at_none k b codes (omega arith)

pub past_none : (k j b : ℕ) (codes : List (Code ℕ)) → b ≡ k + j → code_at (replicate k done ++ codes) b ≡ code_at codes j
past_none zero j b codes e = ap (code_at codes) (let n : b ≡ j = omega arith in n)
past_none (suc k) j zero codes e = absurd (omega arith)
past_none (suc k) j (suc b) codes e = past_none k j b codes (omega arith)

-- a test of two bindings
pub same : {A : Type 0} (a b : ℕ) (x y : A) → a ≡ b → (if a == b then x else y) ≡ x
same a b x y e = ap (λ t. if t then x else y) (eq-eqb a b e)

pub other : {A : Type 0} (a b : ℕ) (x y : A) → (a ≡ b → ⊥) → (if a == b then x else y) ≡ y
other a b x y n = ap (λ t. if t then x else y) (ne_eqb a b n)

module _ (known : ProgramTables) where
  abbrev binding : FunctionTree → ℕ
  binding f = binding_of (tables_of known) f

  abbrev body : (site : ℕ) → List FunctionTree → (binding : ℕ) → Code ℕ
  body site fs b = body_in (tables_of known) (functions_in known) site fs b

  -- below the bindings of functions there is none
  pub none_below : (fs : List FunctionTree) (count site b : ℕ) → GoUp known count fs → b < count → body site fs b ≡ done
  none_below [] count site b up low = refl
  none_below (f ∷ fs) count site b up low =
      let ne : binding f ≡ b → ⊥ = λ e. (let up' = up.0 in absurd (omega (arith, e, up'))) in
      let up' = up.0 in
      other (binding f) b (numbered site (code_in known f)) (body (site + size (code_in known f)) fs b) ne
      ∙ none_below fs (suc (binding f)) (site + size (code_in known f)) b up.1 (omega (arith, up'))

  pub laid_at : (fs : List FunctionTree) (count site b i : ℕ) → GoUp known count fs → b ≡ count + i
      → code_at (laid known count site fs) i ≡ body site fs b
  laid_at [] count site b i up e = refl
  laid_at (f ∷ fs) count site b i up e =
      let low : count ≤ binding f = up.0 in
      let own = numbered site (code_in known f) in
      let behind = site + size (code_in known f) in
      let others = laid known (suc (binding f)) behind fs in
      let rest = body behind fs b in
      let Here : Type 0 = code_at (replicate (binding f - count) done ++ own ∷ others) i ≡ (if binding f == b then own else rest) in
      elim (cases_order b (binding f)) as (λ x. Here) [
        | inl h ↦ past_none (binding f - count) 0 i (own ∷ others) (omega arith) ∙ sym (same (binding f) b own rest (sym h))
        | inr more ↦ elim more as (λ x. Here) [
          | inl h ↦
              at_none (binding f - count) i (own ∷ others) (omega arith)
              ∙ sym (other (binding f) b own rest (λ x. omega (arith, x, h)) ∙ none_below fs (suc (binding f)) behind b up.1 (omega arith))
          | inr h ↦
              let j = b - suc (binding f) in
              past_none (binding f - count) (suc j) i (own ∷ others) (omega arith)
              ∙ laid_at fs (suc (binding f)) behind b j up.1 (omega arith)
              ∙ sym (other (binding f) b own rest (λ x. omega (arith, x, h)))
        ]
      ]

-- the blocks have this code
pub in_parts : (blocks : List Block) (b : ℕ) → bodies_in (map part_of blocks) b ≡ code_at (codes_of blocks) b
in_parts [] b = refl
in_parts (block ∷ blocks) zero = refl
in_parts (block ∷ blocks) (suc b) = in_parts blocks b

-- code that is whole has no loop under way
pub unbegun : {A : Type 0} (code : Code A) → IsWhole code → IsUnbegun code
unbegun c.done whole = tt
unbegun (c.perform t op rest) whole = unbegun rest whole.1
unbegun (c.choose t op x y rest) whole = (unbegun x whole.1, unbegun y whole.2, unbegun rest whole.3)
unbegun (c.while test body step rest) whole = (unbegun test whole.0, unbegun body whole.1, unbegun step whole.2, unbegun rest whole.3)
unbegun (c.until body test rest) whole = (unbegun body whole.0, unbegun test whole.1, unbegun rest whole.2)
unbegun (c.turn test body step rest) whole = absurd whole
unbegun (c.again test body step rest) whole = absurd whole
unbegun (c.quit t op rest) whole = unbegun rest whole.1
unbegun (c.break rest) whole = unbegun rest whole
unbegun (c.continue rest) whole = unbegun rest whole
unbegun (c.call t op f opening rest) whole = (unbegun opening whole.1, unbegun rest whole.2)
unbegun (c.ends t op rest) whole = unbegun rest whole.1

module _ (known : ProgramTables) where
  pub all_plain : (fs : List FunctionTree) → AreWhole known fs → ArePlain known fs
  all_plain [] whole = tt
  all_plain (f ∷ fs) whole = ((unbegun (code_in known f) whole.0, whole.0), all_plain fs whole.1)

  module _ (program : ProgramTree) (lowerable : IsLowerable known program) (up : GoUp known 0 (functions_in known)) where
    abbrev pub codes : List (Code ℕ)
    codes = laid known 0 0 (functions_in known)

    pub bodies_are : (b : ℕ) → bodies_of (tables_of known) program b ≡ code_at codes b
    bodies_are b =
        ap (λ (items : List ItemTree). body_in (tables_of known) (functions_of items) 0 (functions_of items) b) lowerable.items
        ∙ sym (laid_at known (functions_in known) 0 0 b b up (omega arith))

    module _ (blocks : List Block) (are : codes_of blocks ≡ codes) where
      -- the functions of the blocks are those of the program
      in_blocks : (b : ℕ) → bodies_in (map part_of blocks) b ≡ bodies_of (tables_of known) program b
      in_blocks b = in_parts blocks b ∙ ap (λ xs. code_at xs b) are ∙ sym (bodies_are b)

      pub shaped_in_blocks : AreShaped (bodies_in (map part_of blocks))
      shaped_in_blocks = subst (λ (bodies : ℕ → Code ℕ). AreShaped bodies) (λ i. λ b. sym (in_blocks b) i) lowerable.shaped

      pub has_program : (core : List CoreOp) (entry : ℕ → ℕ) → IsFlat (bodies_in (map part_of blocks)) core entry → HasProgram known program core entry
      has_program core entry flat =
          let is_flat = subst (λ (bodies : ℕ → Code ℕ). IsFlat bodies core entry) (λ i. λ b. in_blocks b i) flat in
          record { flat = is_flat; code = flat_lists_have_code (tables_of known) program core entry lowerable.shaped is_flat }

      pub has_its_runs : (core : List CoreOp) (entry : ℕ → ℕ) → IsFlat (bodies_in (map part_of blocks)) core entry → HasItsRuns known program core entry
      has_its_runs core entry flat =
          let has = has_program core entry flat in flat_lists_keep_runs (tables_of known) program core entry has.code
