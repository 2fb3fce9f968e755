-- Functions that can be laid have a list, unless an operation has no number or memory is refused.
use Rattle.std.proofs.Common.{◌≡◌, ℕ, zero, suc, ◌+◌, ◌-◌, ◌*◌, ◌≤◌, false, List, [], ◌∷◌, ◌++◌, map, replicate, refl, sym, ap, subst, arith}
use Rattle.fk_syntax.specs.Program.{FunctionTree}
use Rattle.fk_meaning_forms.specs.Code as c
use Rattle.fk_meaning_forms.specs.Code.{Code, done, size, numbered}
use Rattle.fk_meaning_forms.specs.Program.{binding_of}
use Rattle.fk_layout_walk.specs.declared.known.ProgramTables.{ProgramTables}
use Rattle.fk_layout_walk.specs.Known.{tables_of}
use Rattle.fk_layout_walk_statements.specs.Texts.{functions_in, code_in}
use Rattle.fk_lower.specs.declared.block.Block.{Block}
use Rattle.fk_lower.specs.declared.fault.LowerFault.{LowerFault}
use Rattle.fk_lower.specs.declared.fault.LowerFault.TheVariants as v
use Rattle.fk_lower.specs.declared.span.Spans.{Spans}
use Rattle.fk_lower.specs.View.{part_of}
use Rattle.fk_lower.specs.Tree.{code_of}
use Rattle.fk_lower.specs.Lowered.{AreMeasured, total}
use Rattle.fk_lower.specs.Faults.{HaveNumbers, AllHaveNumbers, IsListFault}
use Rattle.fk_lower.proofs.Room.{extent_few}
use Rattle.fk_lower_text.specs.Whole.{AreNumbered}
use Rattle.fk_lower_text.specs.Laid.{codes_of, laid, sizes, CanBeLaid}
use Rattle.fk_lower_text.specs.Lowered.{IsTextFault}

-- sites change neither how many operations code has, nor their numbers
same_size : {A : Type 0} (n : ℕ) (code : Code A) → size (numbered n code) ≡ size code
same_size n c.done = refl
same_size n (c.perform t op rest) = ap suc (same_size (suc n) rest)
same_size n (c.choose t op x y rest) = omega (arith, same_size (suc n) x, same_size (suc n + size x) y, same_size (suc n + size x + size y) rest)
same_size n (c.while test body step rest) =
    omega (arith, same_size n test, same_size (n + size test) body, same_size (n + size test + size body) step, same_size (n + size test + size body + size step) rest)
same_size n (c.until body test rest) = omega (arith, same_size n body, same_size (n + size body) test, same_size (n + size body + size test) rest)
same_size n (c.turn test body step rest) =
    omega (arith, same_size n test, same_size (n + size test) body, same_size (n + size test + size body) step, same_size (n + size test + size body + size step) rest)
same_size n (c.again test body step rest) =
    omega (arith, same_size n test, same_size (n + size test) body, same_size (n + size test + size body) step, same_size (n + size test + size body + size step) rest)
same_size n (c.quit t op rest) = ap suc (same_size (suc n) rest)
same_size n (c.break rest) = same_size n rest
same_size n (c.continue rest) = same_size n rest
same_size n (c.call t op f opening rest) = omega (arith, same_size (suc n) opening, same_size (suc n + size opening) rest)
same_size n (c.ends t op rest) = ap suc (same_size (suc n) rest)

same_numbers : {A : Type 0} (n : ℕ) (code : Code A) → HaveNumbers code → HaveNumbers (numbered n code)
same_numbers n c.done h = tt
same_numbers n (c.perform t op rest) h = (h.0, same_numbers (suc n) rest h.1)
same_numbers n (c.choose t op x y rest) h =
    (h.0, same_numbers (suc n) x h.1, same_numbers (suc n + size x) y h.2, same_numbers (suc n + size x + size y) rest h.3)
same_numbers n (c.while test body step rest) h = (
  same_numbers n test h.0,
  same_numbers (n + size test) body h.1,
  same_numbers (n + size test + size body) step h.2,
  same_numbers (n + size test + size body + size step) rest h.3,
)
same_numbers n (c.until body test rest) h =
    (same_numbers n body h.0, same_numbers (n + size body) test h.1, same_numbers (n + size body + size test) rest h.2)
same_numbers n (c.turn test body step rest) h = (
  same_numbers n test h.0,
  same_numbers (n + size test) body h.1,
  same_numbers (n + size test + size body) step h.2,
  same_numbers (n + size test + size body + size step) rest h.3,
)
same_numbers n (c.again test body step rest) h = (
  same_numbers n test h.0,
  same_numbers (n + size test) body h.1,
  same_numbers (n + size test + size body) step h.2,
  same_numbers (n + size test + size body + size step) rest h.3,
)
same_numbers n (c.quit t op rest) h = (h.0, same_numbers (suc n) rest h.1)
same_numbers n (c.break rest) h = same_numbers n rest h
same_numbers n (c.continue rest) h = same_numbers n rest h
same_numbers n (c.call t op f opening rest) h = (h.0, same_numbers (suc n) opening h.1, same_numbers (suc n + size opening) rest h.2)
same_numbers n (c.ends t op rest) h = (h.0, same_numbers (suc n) rest h.1)

-- ---- all code together

abbrev all_sizes : List (Code ℕ) → ℕ
all_sizes [] = 0
all_sizes (code ∷ codes) = size code + all_sizes codes

abbrev EachNumbered : List (Code ℕ) → Type 0
EachNumbered [] = Unit {0}
EachNumbered (code ∷ codes) = HaveNumbers code × EachNumbered codes

none_sized : (k : ℕ) (codes : List (Code ℕ)) → all_sizes (replicate k done ++ codes) ≡ all_sizes codes
none_sized zero codes = refl
none_sized (suc k) codes = omega (arith, none_sized k codes)

none_numbered : (k : ℕ) (codes : List (Code ℕ)) → EachNumbered codes → EachNumbered (replicate k done ++ codes)
none_numbered zero codes h = h
none_numbered (suc k) codes h = (tt, none_numbered k codes h)

module _ (known : ProgramTables) where
  laid_sized : (fs : List FunctionTree) (count site : ℕ) → all_sizes (laid known count site fs) ≡ sizes known fs
  laid_sized [] count site = refl
  laid_sized (f ∷ fs) count site =
      let code = code_in known f in
      let binding = binding_of (tables_of known) f in
      let others = laid known (suc binding) (site + size code) fs in
      omega (arith, none_sized (binding - count) (numbered site code ∷ others), same_size site code, laid_sized fs (suc binding) (site + size code))

  laid_numbered : (fs : List FunctionTree) (count site : ℕ) → AreNumbered known fs → EachNumbered (laid known count site fs)
  laid_numbered [] count site h = tt
  laid_numbered (f ∷ fs) count site h =
      let code = code_in known f in
      let binding = binding_of (tables_of known) f in
      let others = laid known (suc binding) (site + size code) fs in
      none_numbered (binding - count) (numbered site code ∷ others) (same_numbers site code h.0, laid_numbered fs (suc binding) (site + size code) h.1)

-- ---- blocks

parts_numbered : (blocks : List Block) → EachNumbered (codes_of blocks) → AllHaveNumbers (map part_of blocks)
parts_numbered [] h = tt
parts_numbered (block ∷ blocks) h = (h.0, parts_numbered blocks h.1)

-- each operation has three entries of a list at most
total_few : (blocks : List Block) → AreMeasured (map part_of blocks) → total (map part_of blocks) ≤ 3 * all_sizes (codes_of blocks)
total_few [] m = omega arith
total_few (block ∷ blocks) m =
    let code = code_of (part_of block).pieces in
    let own = ap (λ (spans : Spans). spans.far.extent) m.0.0 in
    omega (arith, own, extent_few code false, total_few blocks m.1)

module _ (known : ProgramTables) where
  pub only_memory : (fault : LowerFault) → fault ≡ v.Memory → IsTextFault known fault
  only_memory fault is = subst (IsTextFault known) (sym is) tt

  pub text_fault : CanBeLaid known 0 0 (functions_in known) → (blocks : List Block) → codes_of blocks ≡ laid known 0 0 (functions_in known)
      → AreMeasured (map part_of blocks) → (fault : LowerFault) → IsListFault (map part_of blocks) fault → IsTextFault known fault
  text_fault can blocks are m v.TooLong long =
      let few = can.few in
      let same = ap all_sizes are in
      omega (arith, long, few, same, total_few blocks m, laid_sized known (functions_in known) 0 0)
  text_fault can blocks are m v.OutOfRange none = λ numbers.
      none (parts_numbered blocks (subst EachNumbered (sym are) (laid_numbered known (functions_in known) 0 0 numbers)))
  text_fault can blocks are m v.Misplaced is = is
  text_fault can blocks are m v.Memory is = tt
