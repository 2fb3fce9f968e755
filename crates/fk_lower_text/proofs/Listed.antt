-- The operations of a text in its flat list, and how many jumps there are.
use Rattle.std.proofs.Common.{◌≡◌, ℕ, zero, suc, ◌+◌, ◌-◌, ◌≤◌, Bool, false, List, [], ◌∷◌, ◌++◌, map, length, replicate, None, refl, ◌∙◌, ap, ap₂, subst, arith, length-append}
use Rattle.fk_syntax.specs.Program.{FunctionTree}
use Rattle.fk_meaning_forms.specs.Code.{Code, done, size, sites, numbered}
use Rattle.fk_meaning_forms.specs.Ranks.{ranked}
use Rattle.fk_meaning_forms.specs.Program.{binding_of, sites_in}
use Rattle.fk_meaning_forms.proofs.Ranks.{counted, sites_are_ranks}
use Rattle.fk_layout_walk.specs.declared.known.ProgramTables.{ProgramTables}
use Rattle.fk_layout_walk.specs.Known.{tables_of}
use Rattle.fk_layout_walk_statements.specs.Texts.{functions_in, code_in}
use Rattle.fk_core.specs.declared.op.CoreOp.{CoreOp}
use Rattle.fk_core_flat.specs.Items.{Item, acts, jumps, calls}
use Rattle.fk_core_flat.specs.Flat.{flat}
use Rattle.fk_core_flat.specs.Shape.{is_closed, IsShaped}
use Rattle.fk_core_flat.specs.Laws.{AreShaped}
use Rattle.fk_core_flat.proofs.Counts.{acts_both, jumps_both, calls_both, acts_are, jumps_are_few}
use Rattle.fk_lower.specs.declared.block.Block.{Block}
use Rattle.fk_lower.specs.View.{part_of}
use Rattle.fk_lower.specs.Lowered.{bodies_in, all_flat, IsListOf}
use Rattle.fk_lower_text.specs.Laid.{codes_of, laid}
use Rattle.fk_lower_text.specs.Lowered.{HasSites}
use Rattle.fk_lower_text.proofs.Laying.{code_at, in_parts}

-- the operations of all code
abbrev joined : List (Code ℕ) → List (ℕ × ℕ)
joined [] = []
joined (code ∷ codes) = sites code ++ joined codes

module _ (entry : ℕ → ℕ) (end : ℕ) (has_body : ℕ → Bool) where
  abbrev AllShaped : List Block → Type 0
  AllShaped blocks = (i : ℕ) → IsShaped has_body false (code_at (codes_of blocks) i)

  abbrev items : (at : ℕ) → List Block → List Item
  items at blocks = all_flat entry at end (map part_of blocks)

  acts_all : (blocks : List Block) (at : ℕ) → AllShaped blocks → acts (items at blocks) ≡ joined (codes_of blocks)
  acts_all [] at shaped = refl
  acts_all (block ∷ blocks) at shaped =
      let code = code_at (codes_of (block ∷ blocks)) 0 in
      let next = at + (part_of block).spans.far.extent in
      acts_both (flat entry false None at end code) (items next blocks)
      ∙ ap₂ (λ xs ys. xs ++ ys) (acts_are entry has_body code false (shaped 0) false None at end) (acts_all blocks next (λ i. shaped (suc i)))

  few_all : (blocks : List Block) (at : ℕ) → AllShaped blocks → jumps (items at blocks) ≤ length (acts (items at blocks)) + calls (items at blocks)
  few_all [] at shaped = omega arith
  few_all (block ∷ blocks) at shaped =
      let code = code_at (codes_of (block ∷ blocks)) 0 in
      let next = at + (part_of block).spans.far.extent in
      let xs = flat entry false None at end code in
      let ys = items next blocks in
      let x = jumps_are_few code has_body false (shaped 0) entry false None at end in
      let y = few_all blocks next (λ i. shaped (suc i)) in
      let a = ap (λ (s : List (ℕ × ℕ)). length s) (acts_both xs ys) in
      let l = length-append (acts xs) (acts ys) in
      let j = jumps_both xs ys in
      let n = calls_both xs ys in
      omega (arith, x, y, a, l, j, n)

-- bindings without code have no operations
joined_none : (k : ℕ) (codes : List (Code ℕ)) → joined (replicate k done ++ codes) ≡ joined codes
joined_none zero codes = refl
joined_none (suc k) codes = joined_none k codes

-- ranks of one list behind another
ranked_both : {A : Type 0} (n m : ℕ) (xs ys : List (ℕ × A)) → m ≡ n + length xs → ranked n xs ++ ranked m ys ≡ ranked n (xs ++ ys)
ranked_both n m [] ys e = ap (λ k. ranked k ys) (let z : m ≡ n = omega arith in z)
ranked_both n m (x ∷ xs) ys e = ap (λ more. (x.0, n) ∷ more) (ranked_both (suc n) m xs ys (omega arith))

module _ (known : ProgramTables) where
  laid_sites : (fs : List FunctionTree) (count site : ℕ) → joined (laid known count site fs) ≡ ranked site (sites_in (tables_of known) (functions_in known) fs)
  laid_sites [] count site = refl
  laid_sites (f ∷ fs) count site =
      let code = code_in known f in
      let binding = binding_of (tables_of known) f in
      let more = sites_in (tables_of known) (functions_in known) fs in
      let n = counted code in
      joined_none (binding - count) (numbered site code ∷ laid known (suc binding) (site + size code) fs)
      ∙ ap₂ (λ xs ys. xs ++ ys) (sites_are_ranks _ site code) (laid_sites fs (suc binding) (site + size code))
      ∙ ranked_both site (site + size code) (sites code) more (omega (arith, n))

  pub has_sites : (blocks : List Block) → codes_of blocks ≡ laid known 0 0 (functions_in known)
      → (core : List CoreOp) (entry : ℕ → ℕ) (end : ℕ) → AreShaped (bodies_in (map part_of blocks))
      → IsListOf core (all_flat entry 0 end (map part_of blocks)) → HasSites known core
  has_sites blocks are core entry end shape list =
      let has_body : ℕ → Bool = λ f. is_closed (bodies_in (map part_of blocks) f) in
      let all : AllShaped entry end has_body blocks = λ i. subst (λ (code : Code ℕ). IsShaped has_body false code) (in_parts blocks i) (shape i).0 in
      record {
        items = all_flat entry 0 end (map part_of blocks);
        are = list;
        sites = acts_all entry end has_body blocks 0 all ∙ ap joined are ∙ laid_sites (functions_in known) 0 0;
        few = few_all entry end has_body blocks 0 all;
      }
