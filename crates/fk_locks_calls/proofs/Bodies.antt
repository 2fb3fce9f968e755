-- The bodies of the functions of a program that begins with those of the lock.
use Rattle.std.proofs.Common.{◌≡◌, ◌≤◌, ◌+◌, ◌⊎◌, ℕ, suc, Bool, true, false, List, [], ◌∷◌, length, inl, inr, arith, ap, ◌∙◌, refl, sym, subst}
use Rattle.std.specs.Prelude.{◌==◌, if◌then◌else◌}
use Rattle.std.proofs.lemmas.Bool.{eq-eqb, ne_eqb}
use Rattle.fk_syntax.specs.declared.place.Place.{Place}
use Rattle.fk_syntax.specs.Program.{FunctionTree, ProgramTree}
use Rattle.fk_meaning_forms.specs.Code.{Code, done, perform, choose, while, until, turn, again, quit, break, continue, call, ends, size, numbered}
use Rattle.fk_meaning_forms.specs.Expressions.{Signature, framed, parameters}
use Rattle.fk_meaning_forms.specs.Tables.{Tables, frame_at}
use Rattle.fk_meaning_forms.specs.Program.{binding_of, bodies_of, body_in, code_of, functions_of, signature_in, signature_of}
use Rattle.fk_core_flat.specs.Fitting.{FunctionsFit, ProgramFits, is_defined}
use Rattle.fk_locks_calls.specs.Code.{HasLock, code_of_take, code_of_give}
use Rattle.fk_locks_calls.proofs.Outer.{HasBodies, Outer}
use Rattle.fk_locks_calls.proofs.Forms.{function_fine, outer_numbered}

pub same_size : {A : Type 0} (n : ℕ) (code : Code A) → size (numbered n code) ≡ size code
same_size n done = refl
same_size n (perform t op rest) = ap (λ k. suc k) (same_size (suc n) rest)
same_size n (choose t op a b rest) =
    let x = same_size (suc n) a in
    let y = same_size (suc n + size a) b in
    let z = same_size (suc n + size a + size b) rest in
    omega (arith, x, y, z)
same_size n (while test body step rest) =
    let x = same_size n test in
    let y = same_size (n + size test) body in
    let z = same_size (n + size test + size body) step in
    let w = same_size (n + size test + size body + size step) rest in
    omega (arith, x, y, z, w)
same_size n (until body test rest) =
    let x = same_size n body in
    let y = same_size (n + size body) test in
    let z = same_size (n + size body + size test) rest in
    omega (arith, x, y, z)
same_size n (turn test body step rest) =
    let x = same_size n test in
    let y = same_size (n + size test) body in
    let z = same_size (n + size test + size body) step in
    let w = same_size (n + size test + size body + size step) rest in
    omega (arith, x, y, z, w)
same_size n (again test body step rest) =
    let x = same_size n test in
    let y = same_size (n + size test) body in
    let z = same_size (n + size test + size body) step in
    let w = same_size (n + size test + size body + size step) rest in
    omega (arith, x, y, z, w)
same_size n (quit t op rest) = ap (λ k. suc k) (same_size (suc n) rest)
same_size n (break rest) = same_size n rest
same_size n (continue rest) = same_size n rest
same_size n (call t op f opening rest) =
    let x = same_size (suc n) opening in
    let y = same_size (suc n + size opening) rest in
    omega (arith, x, y)
same_size n (ends t op rest) = ap (λ k. suc k) (same_size (suc n) rest)

module _ (tables : Tables) (program : ProgramTree) (lock : HasLock tables program) (fits : ProgramFits tables program) where
  abbrev all : List FunctionTree
  all = functions_of program.items

  abbrev pub take : ℕ
  take = binding_of tables lock.takes

  abbrev pub give : ℕ
  give = binding_of tables lock.gives

  pub take_size : size (code_of tables all lock.takes) ≡ 18
  take_size = sym (same_size 0 (code_of tables all lock.takes)) ∙ ap size lock.take_code

  pub give_size : size (code_of tables all lock.gives) ≡ 9
  give_size = sym (same_size 18 (code_of tables all lock.gives)) ∙ ap size lock.give_code

  not_give : (give == take) ≡ false
  not_give = ne_eqb give take (λ same. lock.apart (sym same))

  not_take : (take == give) ≡ false
  not_take = ne_eqb take give lock.apart

  -- a lookup that finds the first one, and one that goes past it
  here : {A : Type 0} (b : ℕ) (x y : A) → (if b == b then x else y) ≡ x
  here b x y = let e = eq-eqb b b refl in rw e refl

  past : {A : Type 0} (c b : ℕ) (x y : A) → (c ≡ b → ⊥) → (if c == b then x else y) ≡ y
  past c b x y not = let e = ne_eqb c b not in rw e refl

  -- signatures
  take_signature : signature_in tables all take ≡ signature_of lock.takes
  take_signature = ap (λ fs. signature_in tables fs take) lock.are ∙ here take (signature_of lock.takes) (signature_in tables (lock.gives ∷ lock.others) take)

  give_signature : signature_in tables all give ≡ signature_of lock.gives
  give_signature =
      ap (λ fs. signature_in tables fs give) lock.are
      ∙ past take give (signature_of lock.takes) (signature_in tables (lock.gives ∷ lock.others) give) lock.apart
      ∙ here give (signature_of lock.gives) (signature_in tables lock.others give)

  abbrev Opens : Signature → Type 0
  Opens s = (place : Place) → framed tables (signature_in tables all) (frame_at tables s.at 0) place (parameters tables (signature_in tables all) 0 s.parameters) ≡ done

  one : (f : ℕ) → (f ≡ take) ⊎ (f ≡ give) → length (signature_in tables all f).parameters ≡ 1
  one f (inl is) = ap (λ b. length (signature_in tables all b).parameters) is ∙ ap (λ (s : Signature). length s.parameters) take_signature ∙ lock.take_called.one
  one f (inr is) = ap (λ b. length (signature_in tables all b).parameters) is ∙ ap (λ (s : Signature). length s.parameters) give_signature ∙ lock.give_called.one

  opens : (f : ℕ) → (f ≡ take) ⊎ (f ≡ give) → Opens (signature_in tables all f)
  opens f (inl is) = subst (λ b. Opens (signature_in tables all b)) (sym is) (subst Opens (sym take_signature) lock.take_called.opens)
  opens f (inr is) = subst (λ b. Opens (signature_in tables all b)) (sym is) (subst Opens (sym give_signature) lock.give_called.opens)

  -- bodies
  abbrev body : ℕ → ℕ → List FunctionTree → Code ℕ
  body b n fs = body_in tables all n fs b

  abbrev coded : FunctionTree → ℕ
  coded f = size (code_of tables all f)

  sizes_of_take : 0 + coded lock.takes ≡ 18
  sizes_of_take = let t = take_size in omega (arith, t)

  takes_is : bodies_of tables program take ≡ code_of_take
  takes_is =
      ap (body take 0) lock.are
      ∙ here take (numbered 0 (code_of tables all lock.takes)) (body take (0 + coded lock.takes) (lock.gives ∷ lock.others))
      ∙ lock.take_code

  gives_is : bodies_of tables program give ≡ code_of_give
  gives_is =
      ap (body give 0) lock.are
      ∙ past take give (numbered 0 (code_of tables all lock.takes)) (body give (0 + coded lock.takes) (lock.gives ∷ lock.others)) lock.apart
      ∙ here give (numbered (0 + coded lock.takes) (code_of tables all lock.gives)) (body give (0 + coded lock.takes + coded lock.gives) lock.others)
      ∙ ap (λ n. numbered n (code_of tables all lock.gives)) sizes_of_take
      ∙ lock.give_code

  later : (fs : List FunctionTree) (n b : ℕ) → 27 ≤ n → FunctionsFit tables (signature_in tables all) (is_defined tables all) fs → Outer take give (body b n fs)
  later [] n b le fit = tt
  later (f ∷ fs) n b le fit =
      by (binding_of tables f == b) (later fs (n + coded f) b (omega (arith, le)) fit.1)
    where
      by : (is : Bool) → Outer take give (body b (n + coded f) fs) → Outer take give (if is then numbered n (code_of tables all f) else body b (n + coded f) fs)
      by true others = outer_numbered take give (code_of tables all f) n le (function_fine take give tables all (is_defined tables all) one opens f fit.0)
      by false others = others

  others_fit : FunctionsFit tables (signature_in tables all) (is_defined tables all) lock.others
  others_fit =
      let whole : FunctionsFit tables (signature_in tables all) (is_defined tables all) (lock.takes ∷ lock.gives ∷ lock.others)
      = subst (λ fs. FunctionsFit tables (signature_in tables all) (is_defined tables all) fs) lock.are fits in
      whole.1.1

  other_is : (b : ℕ) → (b ≡ take → ⊥) → (b ≡ give → ⊥) → Outer take give (bodies_of tables program b)
  other_is b not_t not_g =
      let sizes : 27 ≤ 0 + coded lock.takes + coded lock.gives = let t = take_size in let g = give_size in omega (arith, t, g) in
      let is : bodies_of tables program b ≡ body b (0 + coded lock.takes + coded lock.gives) lock.others
      = ap (body b 0) lock.are
      ∙ past take b (numbered 0 (code_of tables all lock.takes)) (body b (0 + coded lock.takes) (lock.gives ∷ lock.others)) (λ same. not_t (sym same))
      ∙ past give b (numbered (0 + coded lock.takes) (code_of tables all lock.gives)) (body b (0 + coded lock.takes + coded lock.gives) lock.others) (λ same. not_g (sym same)) in
      subst (Outer take give) (sym is) (later lock.others (0 + coded lock.takes + coded lock.gives) b sizes others_fit)

  pub has_bodies : HasBodies take give (bodies_of tables program)
  has_bodies = record { takes = takes_is; gives = gives_is; others = other_is }
