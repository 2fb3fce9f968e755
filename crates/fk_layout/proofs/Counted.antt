-- A tally of code counts its operations, and one of a text its sites.
use Rattle.std.proofs.Common.{◌≡◌, ℕ, suc, ◌+◌, ◌-◌, ◌^◌, ◌≤◌, min, List, [], ◌∷◌, ◌++◌, length, refl, ◌∙◌, sym, ap, arith, zero-add, length-append}
use Rattle.fk_syntax.specs.Program.{FunctionTree}
use Rattle.fk_meaning_forms.specs.Code.{done, perform, choose, while, until, turn, again, quit, break, continue, call, ends, size, sites}
use Rattle.fk_meaning_forms.specs.Expressions.{Coded, Signature}
use Rattle.fk_meaning_forms.specs.Program.{sites_in}
use Rattle.fk_meaning_forms.proofs.Ranks.{counted}
use Rattle.fk_layout_walk.specs.declared.known.ProgramTables.{ProgramTables}
use Rattle.fk_layout_walk.specs.declared.tally.Tally.{Tally}
use Rattle.fk_layout_walk.specs.Known.{tables_of, functions_of}
use Rattle.fk_layout_walk.specs.Tally.{tally_after, no_mark}
use Rattle.fk_layout_walk.specs.Through.{through}
use Rattle.fk_layout_walk_statements.specs.Texts.{functions_in, code_in, sites_of_text, through_all}

-- so many more, up to the greatest number
abbrev Adds : (from n to : ℕ) → Type 0
Adds from n to = to ≡ min (from + n) (2 ^ 64 - 1)

both : (a b c n m k : ℕ) → n + m ≡ k → Adds a n b → Adds b m c → Adds a k c
both a b c n m k e x y = omega (arith, e, x, y)

within : (a n b : ℕ) → Adds a n b → b ≤ 2 ^ 64 - 1
within a n b x = omega (arith, x)

nothing : (a : ℕ) → a ≤ 2 ^ 64 - 1 → Adds a 0 a
nothing a h = omega (arith, h)

module _ (functions : (binding : ℕ) → Signature) where
  abbrev behind : Tally → Coded → Tally
  behind tally code = through tally_after no_mark functions tally code

  abbrev IsCounted : Coded → Type 0
  IsCounted code = (tally : Tally) → tally.count ≤ 2 ^ 64 - 1 → Adds tally.count (size code) (behind tally code).count

  abbrev next : Tally → Tally
  next tally = record { count = min (tally.count + 1) (2 ^ 64 - 1) }

  one : (rest : Coded) → IsCounted rest → (tally : Tally) → Adds tally.count (suc (size rest)) (behind (next tally) rest).count
  one rest h tally =
      both tally.count (next tally).count (behind (next tally) rest).count 1 (size rest) (suc (size rest)) (omega arith) refl
      (h (next tally) (within tally.count 1 (next tally).count refl))

  two : (a b : Coded) → IsCounted a → IsCounted b → (tally : Tally) → tally.count ≤ 2 ^ 64 - 1
      → Adds tally.count (size a + size b) (behind (behind tally a) b).count
  two a b x y tally h =
      let first = x tally h in
      both tally.count (behind tally a).count (behind (behind tally a) b).count (size a) (size b) (size a + size b) refl first
      (y (behind tally a) (within tally.count (size a) (behind tally a).count first))

  three : (a b c : Coded) → IsCounted a → IsCounted b → IsCounted c → (tally : Tally) → tally.count ≤ 2 ^ 64 - 1
      → Adds tally.count (size a + size b + size c) (behind (behind (behind tally a) b) c).count
  three a b c x y z tally h =
      let first = two a b x y tally h in
      let s : Tally = behind (behind tally a) b in
      both tally.count s.count (behind s c).count (size a + size b) (size c) (size a + size b + size c) refl first
      (z s (within tally.count (size a + size b) s.count first))

  four : (a b c d : Coded) → IsCounted a → IsCounted b → IsCounted c → IsCounted d → (tally : Tally) → tally.count ≤ 2 ^ 64 - 1
      → Adds tally.count (size a + size b + size c + size d) (behind (behind (behind (behind tally a) b) c) d).count
  four a b c d x y z w tally h =
      let first = three a b c x y z tally h in
      let s : Tally = behind (behind (behind tally a) b) c in
      both tally.count s.count (behind s d).count (size a + size b + size c) (size d) (size a + size b + size c + size d) refl first
      (w s (within tally.count (size a + size b + size c) s.count first))

  one_two : (a b : Coded) → IsCounted a → IsCounted b → (tally : Tally)
      → Adds tally.count (suc (size a + size b)) (behind (behind (next tally) a) b).count
  one_two a b x y tally =
      both tally.count (next tally).count (behind (behind (next tally) a) b).count 1 (size a + size b) (suc (size a + size b)) (omega arith) refl
      (two a b x y (next tally) (within tally.count 1 (next tally).count refl))

  one_three : (a b c : Coded) → IsCounted a → IsCounted b → IsCounted c → (tally : Tally)
      → Adds tally.count (suc (size a + size b + size c)) (behind (behind (behind (next tally) a) b) c).count
  one_three a b c x y z tally =
      both tally.count (next tally).count (behind (behind (behind (next tally) a) b) c).count 1 (size a + size b + size c) (suc (size a + size b + size c)) (omega arith) refl
      (three a b c x y z (next tally) (within tally.count 1 (next tally).count refl))

  pub is_counted : (code : Coded) → IsCounted code
  is_counted done tally h = nothing tally.count h
  is_counted (perform t op rest) tally h = one rest (is_counted rest) tally
  is_counted (choose t op a b rest) tally h = one_three a b rest (is_counted a) (is_counted b) (is_counted rest) tally
  is_counted (while test body step rest) tally h = four test body step rest (is_counted test) (is_counted body) (is_counted step) (is_counted rest) tally h
  is_counted (until body test rest) tally h = three body test rest (is_counted body) (is_counted test) (is_counted rest) tally h
  is_counted (turn test body step rest) tally h = four test body step rest (is_counted test) (is_counted body) (is_counted step) (is_counted rest) tally h
  is_counted (again test body step rest) tally h = four test body step rest (is_counted test) (is_counted body) (is_counted step) (is_counted rest) tally h
  is_counted (quit t op rest) tally h = one rest (is_counted rest) tally
  is_counted (break rest) tally h = is_counted rest tally h
  is_counted (continue rest) tally h = is_counted rest tally h
  is_counted (call t op f opening rest) tally h = one_two opening rest (is_counted opening) (is_counted rest) tally
  is_counted (ends t op rest) tally h = one rest (is_counted rest) tally

functions_counted : (known : ProgramTables) (fs : List FunctionTree) (tally : Tally) → tally.count ≤ 2 ^ 64 - 1
    → Adds tally.count (length (sites_in (tables_of known) (functions_in known) fs)) (through_all tally_after no_mark known tally fs).count
functions_counted known [] tally h = nothing tally.count h
functions_counted known (f ∷ fs) tally h =
    let code = code_in known f in
    let others = sites_in (tables_of known) (functions_in known) fs in
    let s : Tally = through tally_after no_mark (functions_of known) tally code in
    let first = is_counted (functions_of known) code tally h in
    let all : size code + length others ≡ length (sites code ++ others) = sym (length-append (sites code) others ∙ ap (λ (n : ℕ). n + length others) (counted code)) in
    both tally.count s.count (through_all tally_after no_mark known s fs).count (size code) (length others) (length (sites code ++ others)) all first
    (functions_counted known fs s (within tally.count (size code) s.count first))

pub text_counted : (known : ProgramTables) → (through_all tally_after no_mark known (record { count = 0 }) (functions_in known)).count ≡ min (length (sites_of_text known)) (2 ^ 64 - 1)
text_counted known =
    functions_counted known (functions_in known) (record { count = 0 }) (omega arith)
    ∙ ap (λ (n : ℕ). min n (2 ^ 64 - 1)) (zero-add (length (sites_of_text known)))
