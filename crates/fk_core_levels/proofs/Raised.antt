-- Levels of which one begins later.
use Rattle.std.proofs.Common.{◌≡◌, ℕ, zero, suc, ◌<◌, ◌≤◌, Bool, true, false, List, [], ◌∷◌, length, map, Option, ap, sym, refl, arith, ◌⊎◌, inl, inr}
use Rattle.std.specs.Prelude.{nat_lt, slice_set, if◌then◌else◌}
use Rattle.std.proofs.lemmas.Bool.{cases_lt, lt-ltb, le-ltb}
use Rattle.fk_gen.specs.declared.placed.Levels.{Levels}
use Rattle.fk_gen.specs.Levels.{levels_in}
use Rattle.fk_core_levels.specs.Levels.{behind_in, raised_one, raised, joined, left_over}

abbrev All : Type 0
All = List Levels

-- ---- one

abbrev later : Levels → (words : ℕ) → Levels
later l words = record l { behind = words }

one_low : (l : Levels) (words : ℕ) → words ≤ l.behind → raised_one l words ≡ l
one_low l words le = ap (λ b. if b then later l words else l) (le-ltb l.behind words le)

one_new : (l : Levels) (words : ℕ) → l.behind < words → raised_one l words ≡ later l words
one_new l words lt = ap (λ b. if b then later l words else l) (lt-ltb l.behind words lt)

one_count : (l : Levels) (words : ℕ) → (raised_one l words).count ≡ l.count
one_count l words = by (nat_lt l.behind words)
  where
    by : (b : Bool) → (let r : Levels = if b then later l words else l in r.count) ≡ l.count
    by true = refl
    by false = refl

one_above : (l : Levels) (words : ℕ) → l.behind ≤ (raised_one l words).behind
one_above l words = by (cases_lt l.behind words)
  where
    by : (l.behind < words) ⊎ (words ≤ l.behind) → l.behind ≤ (raised_one l words).behind
    by (inl lt) = let e = ap (λ (r : Levels). r.behind) (one_new l words lt) in omega (arith, e, lt)
    by (inr le) = let e = ap (λ (r : Levels). r.behind) (one_low l words le) in omega (arith, e)

one_there : (l : Levels) (words : ℕ) → words ≤ (raised_one l words).behind
one_there l words = by (cases_lt l.behind words)
  where
    by : (l.behind < words) ⊎ (words ≤ l.behind) → words ≤ (raised_one l words).behind
    by (inl lt) = let e = ap (λ (r : Levels). r.behind) (one_new l words lt) in omega (arith, e)
    by (inr le) = let e = ap (λ (r : Levels). r.behind) (one_low l words le) in omega (arith, e, le)

one_below : (l : Levels) (words most : ℕ) → l.behind ≤ most → words ≤ most → (raised_one l words).behind ≤ most
one_below l words most low le = by (cases_lt l.behind words)
  where
    by : (l.behind < words) ⊎ (words ≤ l.behind) → (raised_one l words).behind ≤ most
    by (inl lt) = let e = ap (λ (r : Levels). r.behind) (one_new l words lt) in omega (arith, e, le)
    by (inr more) = let e = ap (λ (r : Levels). r.behind) (one_low l words more) in omega (arith, e, low)

one_nest : (l : Levels) (words : ℕ) → (raised_one l words).nest ≡ l.nest
one_nest l words = by (nat_lt l.behind words)
  where
    by : (b : Bool) → (let r : Levels = if b then later l words else l in r.nest) ≡ l.nest
    by true = refl
    by false = refl

one_fork : (l : Levels) (words : ℕ) → (raised_one l words).fork ≡ l.fork
one_fork l words = by (nat_lt l.behind words)
  where
    by : (b : Bool) → (let r : Levels = if b then later l words else l in r.fork) ≡ l.fork
    by true = refl
    by false = refl

-- ---- at an index

pub raised_long : (saved : All) (i words : ℕ) → length (raised saved i words) ≡ length saved
raised_long [] i words = refl
raised_long (l ∷ saved) zero words = refl
raised_long (l ∷ saved) (suc i) words = ap suc (raised_long saved i words)

pub raised_count : (saved : All) (i words : ℕ) → map (λ (l : Levels). l.count) (raised saved i words) ≡ map (λ (l : Levels). l.count) saved
raised_count [] i words = refl
raised_count (l ∷ saved) zero words = ap (λ n. n ∷ map (λ (l : Levels). l.count) saved) (one_count l words)
raised_count (l ∷ saved) (suc i) words = ap (λ ns. l.count ∷ ns) (raised_count saved i words)

pub raised_nest : (saved : All) (i words : ℕ) → map (λ (l : Levels). l.nest) (raised saved i words) ≡ map (λ (l : Levels). l.nest) saved
raised_nest [] i words = refl
raised_nest (l ∷ saved) zero words = ap (λ n. n ∷ map (λ (l : Levels). l.nest) saved) (one_nest l words)
raised_nest (l ∷ saved) (suc i) words = ap (λ ns. l.nest ∷ ns) (raised_nest saved i words)

pub raised_fork : (saved : All) (i words : ℕ) → map (λ (l : Levels). l.fork) (raised saved i words) ≡ map (λ (l : Levels). l.fork) saved
raised_fork [] i words = refl
raised_fork (l ∷ saved) zero words = ap (λ f. f ∷ map (λ (l : Levels). l.fork) saved) (one_fork l words)
raised_fork (l ∷ saved) (suc i) words = ap (λ fs. l.fork ∷ fs) (raised_fork saved i words)

pub raised_above : (saved : All) (i words k : ℕ) → behind_in saved k ≤ behind_in (raised saved i words) k
raised_above [] i words k = omega arith
raised_above (l ∷ saved) zero words zero = one_above l words
raised_above (l ∷ saved) zero words (suc k) = omega arith
raised_above (l ∷ saved) (suc i) words zero = omega arith
raised_above (l ∷ saved) (suc i) words (suc k) = raised_above saved i words k

pub raised_there : (saved : All) (i words : ℕ) → i < length saved → words ≤ behind_in (raised saved i words) i
raised_there [] i words lt = absurd (let z : ⊥ = omega arith in z)
raised_there (l ∷ saved) zero words lt = one_there l words
raised_there (l ∷ saved) (suc i) words lt = raised_there saved i words (omega arith)

pub raised_below : (saved : All) (i words : ℕ) (other : ℕ → ℕ) → ((k : ℕ) → behind_in saved k ≤ other k) → words ≤ other i → (k : ℕ) → behind_in (raised saved i words) k ≤ other k
raised_below [] i words other low le k = low k
raised_below (l ∷ saved) zero words other low le zero = one_below l words (other 0) (low 0) le
raised_below (l ∷ saved) zero words other low le (suc k) = low (suc k)
raised_below (l ∷ saved) (suc i) words other low le zero = low 0
raised_below (l ∷ saved) (suc i) words other low le (suc k) = raised_below saved i words (λ k. other (suc k)) (λ k. low (suc k)) le k

-- ---- in a slice

pub raised_low : (saved : All) (i words : ℕ) → words ≤ behind_in saved i → raised saved i words ≡ saved
raised_low [] i words le = refl
raised_low (l ∷ saved) zero words le = ap (λ x. x ∷ saved) (one_low l words le)
raised_low (l ∷ saved) (suc i) words le = ap (λ xs. l ∷ xs) (raised_low saved i words le)

pub raised_new : (saved : All) (i words : ℕ) → i < length saved → behind_in saved i < words
    → slice_set saved i (record (levels_in saved i) { behind = words }) ≡ raised saved i words
raised_new [] i words lt less = absurd (let z : ⊥ = omega arith in z)
raised_new (l ∷ saved) zero words lt less = ap (λ x. x ∷ saved) (sym (one_new l words less))
raised_new (l ∷ saved) (suc i) words lt less = ap (λ xs. l ∷ xs) (raised_new saved i words (omega arith) less)

pub raised_fewer : (saved : All) (i words count nest : ℕ) (fork : Option ℕ) → i < length saved → behind_in saved i < words → words ≤ 64
    → left_over (slice_set saved i (record { count = count; behind = words; nest = nest; fork = fork })) < left_over saved
raised_fewer [] i words count nest fork lt less few = absurd (let z : ⊥ = omega arith in z)
raised_fewer (l ∷ saved) zero words count nest fork lt less few = omega arith
raised_fewer (l ∷ saved) (suc i) words count nest fork lt less few = let fewer = raised_fewer saved i words count nest fork (omega arith) less few in omega (arith, fewer)

-- ---- at two indices

pub joined_stays : (saved : All) (i j : ℕ) → i < length saved → j < length saved → joined saved i j ≡ saved → behind_in saved j ≡ behind_in saved i
joined_stays saved i j lt lt' same =
    let first = raised saved i (behind_in saved j) in
    let there = raised_there saved i (behind_in saved j) lt in
    let above = raised_above first j (behind_in saved i) i in
    let at_i : behind_in (joined saved i j) i ≡ behind_in saved i = ap (λ s. behind_in s i) same in
    let long = raised_long saved i (behind_in saved j) in
    let back = raised_there first j (behind_in saved i) (omega (arith, long, lt')) in
    let at_j : behind_in (joined saved i j) j ≡ behind_in saved j = ap (λ s. behind_in s j) same in
    omega (arith, there, above, at_i, back, at_j)
