-- The marks of statements never close more scopes than they have opened.
use Rattle.std.proofs.Common.{◌≡◌, inl, inr, ℕ, zero, suc, ◌+◌, ◌-◌, ◌<◌, ◌≤◌, Bool, false, cond, List, [], ◌∷◌, ◌++◌, length, take, refl, sym, ap, subst, ◌∙◌, arith}
use Rattle.std.specs.Prelude.{count_by}
use Rattle.std.proofs.Math.Seq.{take-append-add}
use Rattle.std.proofs.lemmas.Bool.{cases_lt}
use Rattle.std.proofs.lemmas.List.{take-append-le}
use Rattle.std.proofs.lemmas.List.Sums.{sum_by-cons, sum_by-append}
use Rattle.fk_syntax.specs.Program.{FunctionTree}
use Rattle.fk_types_names.specs.Outline.{MarkTree, Header, Opens, Closes, Declares, variables_marks, scope, body_marks, function_marks}
use Rattle.fk_types_names.specs.Visible.{is_opening, is_closing}
use Rattle.fk_check_laws.proofs.Marks.{Grows, of_variables, of_body}
use Rattle.fk_check_laws.proofs.Shut.{opened, closed}

count_one : (test : MarkTree → Bool) (mark : MarkTree) (marks : List MarkTree) → count_by test (mark ∷ marks) ≡ cond (test mark) 1 0 + count_by test marks
count_one test mark marks = sum_by-cons (λ (m : MarkTree). cond (test m) 1 0) mark marks

count_both : (test : MarkTree → Bool) (xs ys : List MarkTree) → count_by test (xs ++ ys) ≡ count_by test xs + count_by test ys
count_both test xs ys = sum_by-append (λ (m : MarkTree). cond (test m) 1 0) xs ys

abbrev as_one : Bool → ℕ
as_one b = cond b 1 0

-- so it is of all of them, and of as many as one takes
pub record IsSafe (marks : List MarkTree) : Type 0 where
  pub whole : count_by is_closing marks ≤ count_by is_opening marks
  pub parts : (k : ℕ) → closed marks k ≤ opened marks k

safe_none : IsSafe []
safe_none = record { whole = (let c : count_by is_closing [] ≡ 0 = refl in omega (arith, c)); parts = λ k. none k }
  where
    none : (k : ℕ) → closed [] k ≤ opened [] k
    none zero = let c : closed [] zero ≡ 0 = refl in omega (arith, c)
    none (suc k) = let c : closed [] (suc k) ≡ 0 = refl in omega (arith, c)

safe_one : (mark : MarkTree) → is_closing mark ≡ false → (marks : List MarkTree) → IsSafe marks → IsSafe (mark ∷ marks)
safe_one mark quiet marks h = record { whole = one marks h.whole; parts = λ k. by k }
  where
    one : (ms : List MarkTree) → count_by is_closing ms ≤ count_by is_opening ms → count_by is_closing (mark ∷ ms) ≤ count_by is_opening (mark ∷ ms)
    one ms less =
        let c = count_one is_closing mark ms in
        let o = count_one is_opening mark ms in
        let q : cond (is_closing mark) 1 0 ≡ 0 = ap as_one quiet in
        omega (arith, c, o, q, less)

    by : (k : ℕ) → closed (mark ∷ marks) k ≤ opened (mark ∷ marks) k
    by zero = let c : closed (mark ∷ marks) zero ≡ 0 = refl in omega (arith, c)
    by (suc k) = one (take k marks) (h.parts k)

safe_both : (xs ys : List MarkTree) → IsSafe xs → IsSafe ys → IsSafe (xs ++ ys)
safe_both xs ys h k = record { whole = both ys k.whole; parts = λ i. by i }
  where
    both : (zs : List MarkTree) → count_by is_closing zs ≤ count_by is_opening zs → count_by is_closing (xs ++ zs) ≤ count_by is_opening (xs ++ zs)
    both zs less = let w = h.whole in omega (arith, count_both is_closing xs zs, count_both is_opening xs zs, w, less)

    by : (i : ℕ) → closed (xs ++ ys) i ≤ opened (xs ++ ys) i
    by i = elim (cases_lt i (length xs)) [
      | inl less ↦ subst (λ (ms : List MarkTree). count_by is_closing ms ≤ count_by is_opening ms) (sym (take-append-le i xs ys (omega (arith, less)))) (h.parts i)
      | inr more ↦
          let n = i - length xs in
          let sum : i ≡ length xs + n = omega (arith, more) in
          subst (λ (ms : List MarkTree). count_by is_closing ms ≤ count_by is_opening ms)
          (sym (ap (λ j. take j (xs ++ ys)) sum ∙ take-append-add xs ys n)) (both (take n ys) (k.parts n))
    ]

-- a scope closes what it has opened. Inside it one more is open
last_close : (k : ℕ) → count_by is_closing (take k (Closes ∷ [])) ≤ 1
last_close zero = let c : count_by is_closing [] ≡ 0 = refl in omega (arith, c)
last_close (suc zero) = let c : count_by is_closing (Closes ∷ []) ≡ 1 = refl in omega (arith, c)
last_close (suc (suc k)) = let c : count_by is_closing (Closes ∷ []) ≡ 1 = refl in omega (arith, c)

safe_scope : (marks : List MarkTree) → IsSafe marks → IsSafe (scope marks)
safe_scope marks h = record { whole = whole_one (Closes ∷ []) (let c : count_by is_closing (Closes ∷ []) ≡ 1 = refl in omega (arith, c)); parts = λ k. by k }
  where
    whole_one : (zs : List MarkTree) → count_by is_closing zs ≤ 1 → count_by is_closing (Opens ∷ marks ++ zs) ≤ count_by is_opening (Opens ∷ marks ++ zs)
    whole_one zs less =
        let c : count_by is_closing (Opens ∷ marks ++ zs) ≡ 0 + count_by is_closing (marks ++ zs) = count_one is_closing Opens (marks ++ zs) in
        let o : count_by is_opening (Opens ∷ marks ++ zs) ≡ 1 + count_by is_opening (marks ++ zs) = count_one is_opening Opens (marks ++ zs) in
        let w = h.whole in
        omega (arith, c, o, w, less, count_both is_closing marks zs, count_both is_opening marks zs)

    part_one : (ms : List MarkTree) → count_by is_closing ms ≤ count_by is_opening ms → count_by is_closing (Opens ∷ ms) ≤ count_by is_opening (Opens ∷ ms)
    part_one ms less =
        let c : count_by is_closing (Opens ∷ ms) ≡ 0 + count_by is_closing ms = count_one is_closing Opens ms in
        let o : count_by is_opening (Opens ∷ ms) ≡ 1 + count_by is_opening ms = count_one is_opening Opens ms in
        omega (arith, less, c, o)

    by : (k : ℕ) → closed (scope marks) k ≤ opened (scope marks) k
    by zero = let c : closed (scope marks) zero ≡ 0 = refl in omega (arith, c)
    by (suc j) = elim (cases_lt j (length marks)) [
      | inl less ↦ subst (λ (ms : List MarkTree). count_by is_closing (Opens ∷ ms) ≤ count_by is_opening (Opens ∷ ms)) (sym (take-append-le j marks (Closes ∷ []) (omega (arith, less)))) (part_one (take j marks) (h.parts j))
      | inr more ↦
          let n = j - length marks in
          let sum : j ≡ length marks + n = omega (arith, more) in
          subst (λ (ms : List MarkTree). count_by is_closing (Opens ∷ ms) ≤ count_by is_opening (Opens ∷ ms))
          (sym (ap (λ i. take i (marks ++ Closes ∷ [])) sum ∙ take-append-add marks (Closes ∷ []) n)) (whole_one (take n (Closes ∷ [])) (last_close n))
    ]

grows : Grows IsSafe
grows = record { none = safe_none; one = λ mark opens closes. safe_one mark closes; both = safe_both; scoped = safe_scope }

-- within a function a scope is open
pub in_function : (f : FunctionTree) (k : ℕ) → let inner = variables_marks f.parameters ++ body_marks f.body in
    k ≤ length inner → closed (function_marks f) (suc (suc k)) < opened (function_marks f) (suc (suc k))
in_function f k within =
    let inner = variables_marks f.parameters ++ body_marks f.body in
    let safe = safe_both (variables_marks f.parameters) (body_marks f.body) (of_variables IsSafe grows f.parameters) (of_body IsSafe grows f.body) in
    let here = safe.parts k in
    let taken = take-append-le k inner (Closes ∷ []) within in
    let rest = take k (inner ++ Closes ∷ []) in
    let o : count_by is_opening (Declares (Header f) ∷ Opens ∷ rest) ≡ 0 + count_by is_opening (Opens ∷ rest) = count_one is_opening (Declares (Header f)) (Opens ∷ rest) in
    let c : count_by is_closing (Declares (Header f) ∷ Opens ∷ rest) ≡ 0 + count_by is_closing (Opens ∷ rest) = count_one is_closing (Declares (Header f)) (Opens ∷ rest) in
    let o' : count_by is_opening (Opens ∷ rest) ≡ 1 + count_by is_opening rest = count_one is_opening Opens rest in
    let c' : count_by is_closing (Opens ∷ rest) ≡ 0 + count_by is_closing rest = count_one is_closing Opens rest in
    let so = ap (λ (ms : List MarkTree). count_by is_opening ms) taken in
    let sc = ap (λ (ms : List MarkTree). count_by is_closing ms) taken in
    omega (arith, here, o, c, o', c', so, sc)
