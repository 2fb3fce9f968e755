-- The words of structs, by a table of some of them.
use Rattle.std.proofs.Common.{◌≡◌, ℕ, zero, suc, ◌+◌, ◌*◌, ◌<◌, ◌≤◌, ◌≢◌, ◌-◌, inl, inr, List, [], ◌∷◌, ◌++◌, take, Option, Some, None, unwrap_or, slice_get, length, length-append, set, refl, sym, ap, subst, ◌∙◌, arith, Bool, true, false, is_none, count_by, cond, get_or, MatchBool}
use Rattle.std.specs.Bool.{OnTrue, OnFalse}
use Rattle.std.specs.Option.{option_map, option_and_then}
use Rattle.std.proofs.lemmas.Option.{option_and_then_some, none-some, same_Some, slice_get_within, slice_get-get_or}
use Rattle.std.proofs.lemmas.List.{take_more}
use Rattle.std.proofs.lemmas.List.Sums.{sum_by-set}
use Rattle.std.proofs.lemmas.Bool.{cases_eq, cases_lt}
use Rattle.std.proofs.Math.Nat.{eq-or-lt_of_le}
use Rattle.fk_types_structs.specs.declared.types.Root.{Root}
use Rattle.fk_types_structs.specs.declared.types.Root.TheVariants as r
use Rattle.fk_types_structs.specs.declared.types.DataType.{DataType}
use Rattle.fk_types_structs.specs.Words.{Sizes, root_words, element_words, type_words, plus, total_words, words_within, capped}
use Rattle.fk_types_structs.specs.Table.{sizes_of, AreFound, AreStuck, AreWords, AreFirstOffsets, Settles}

-- words above the limit are alike, and so are their sums and multiples
capped-plus : (a b m n : ℕ) → capped a ≡ capped m → capped b ≡ capped n → capped (a + b) ≡ capped (m + n)
capped-plus a b m n p q = omega (arith, p, q)

capped-times : (a m k : ℕ) → capped a ≡ capped m → capped (a * k) ≡ capped (m * k)
capped-times a m zero p = omega arith
capped-times a m (suc k) p = elim (cases_lt a 524289) [
  | inr large ↦ let other : 524289 ≤ m = omega (arith, p, large) in
      let left : 524289 ≤ a * suc k = omega (arith, large) in
      let right : 524289 ≤ m * suc k = omega (arith, other) in omega (arith, left, right)
  | inl small ↦ ap (λ x. capped (x * suc k)) (omega (arith, p, small))
]

le_of_lt_suc : (i n : ℕ) → i < suc n → i ≤ n
le_of_lt_suc i n l = omega (arith, l)

pub le_of_lt_add_one : (i n : ℕ) → i < n + 1 → i ≤ n
le_of_lt_add_one i n l = omega (arith, l)

-- a table after one write
sizes-set_same : (table : List (Option ℕ)) (i : ℕ) (x : Option ℕ) → i < length table → sizes_of (set table i x) i ≡ x
sizes-set_same [] i x l = absurd (omega (arith, l))
sizes-set_same (y ∷ table) zero x l = refl
sizes-set_same (y ∷ table) (suc i) x l = sizes-set_same table i x (omega (arith, l))

sizes-set_other : (table : List (Option ℕ)) (i j : ℕ) (x : Option ℕ) → j ≢ i → sizes_of (set table i x) j ≡ sizes_of table j
sizes-set_other [] i j x ne = refl
sizes-set_other (y ∷ table) zero zero x ne = absurd (ne refl)
sizes-set_other (y ∷ table) zero (suc j) x ne = refl
sizes-set_other (y ∷ table) (suc i) zero x ne = refl
sizes-set_other (y ∷ table) (suc i) (suc j) x ne = sizes-set_other table i j x (λ e. ne (ap suc e))

-- a struct that gets words is one fewer without
pub count_by-set_none : (table : List (Option ℕ)) (i x : ℕ) → i < length table → sizes_of table i ≡ None → count_by is_none (set table i (Some x)) < count_by is_none table
count_by-set_none table i x l e = by (get_or table i None) refl
  where
    less : (a b m : ℕ) → a + m ≡ b + 0 → m ≡ 1 → a < b
    less a b m p q = omega (arith, p, q)

    by : (o : Option ℕ) → get_or table i None ≡ o → count_by is_none (set table i (Some x)) < count_by is_none table
    by None g = less (count_by is_none (set table i (Some x))) (count_by is_none table) (cond (is_none (get_or table i None)) 1 0) (sum_by-set (λ o. cond (is_none o) 1 0) table i (Some x) None l) (ap (λ o. cond (is_none o) 1 0) g)
    by (Some y) g = absurd (none-some y (sym e ∙ ap (option_and_then (λ (words : Option ℕ). words)) (slice_get-get_or table i None l) ∙ g))

-- where each struct that has words by one table has words by another, and both are related, so are the words of types
module _ (R : ℕ → ℕ → Type 0) (nothing : R 0 0) (one : R 1 1) (add : (a b m n : ℕ) → R a m → R b n → R (a + b) (m + n)) (times : (a m k : ℕ) → R a m → R (a * k) (m * k))
    (f g : Sizes) (related : (i n : ℕ) → f i ≡ Some n → (m : ℕ) × (g i ≡ Some m) × R n m) where
  root-related : (root : Root) (n : ℕ) → root_words f root ≡ Some n → (m : ℕ) × (root_words g root ≡ Some m) × R n m
  root-related r.Int n e = (1, refl, subst (λ k. R k 1) (same_Some 1 n e) one)
  root-related r.Unsigned n e = (1, refl, subst (λ k. R k 1) (same_Some 1 n e) one)
  root-related r.Void n e = (0, refl, subst (λ k. R k 0) (same_Some 0 n e) nothing)
  root-related (r.Struct i) n e = related i n e

  element-related : (root : Root) (stars n : ℕ) → element_words f root stars ≡ Some n → (m : ℕ) × (element_words g root stars ≡ Some m) × R n m
  element-related root zero n e = root-related root n e
  element-related root (suc stars) n e = (1, refl, subst (λ k. R k 1) (same_Some 1 n e) one)

  map-related : (p q : Option ℕ) (k : ℕ) → ((n : ℕ) → p ≡ Some n → (m : ℕ) × (q ≡ Some m) × R n m) → (n : ℕ) → option_map (λ x. x * k) p ≡ Some n → (m : ℕ) × (option_map (λ x. x * k) q ≡ Some m) × R n m
  map-related None q k h n e = absurd (none-some n e)
  map-related (Some a) q k h n e =
      let b = h a refl in
      (b.0 * k, ap (option_map (λ x. x * k)) b.1, subst (λ x. R x (b.0 * k)) (same_Some (a * k) n e) (times a b.0 k b.2))

  type-related : (type : DataType) (n : ℕ) → type_words f type ≡ Some n → (m : ℕ) × (type_words g type ≡ Some m) × R n m
  type-related type = map-related (element_words f type.root type.stars) (element_words g type.root type.stars) (unwrap_or type.length 1) (element-related type.root type.stars)

  plus-related : (p q v w : Option ℕ) → ((n : ℕ) → p ≡ Some n → (m : ℕ) × (v ≡ Some m) × R n m) → ((n : ℕ) → q ≡ Some n → (m : ℕ) × (w ≡ Some m) × R n m) → (n : ℕ) → plus p q ≡ Some n → (m : ℕ) × (plus v w ≡ Some m) × R n m
  plus-related None q v w h k n e = absurd (none-some n e)
  plus-related (Some a) None v w h k n e = absurd (none-some n e)
  plus-related (Some a) (Some b) v w h k n e =
      let c = h a refl in
      let d = k b refl in
      (c.0 + d.0, ap (λ x. plus x w) c.1 ∙ ap (plus (Some c.0)) d.1, subst (λ x. R x (c.0 + d.0)) (same_Some (a + b) n e) (add a b c.0 d.0 c.2 d.2))

  optional-related : (type : Option DataType) (n : ℕ) → option_and_then (type_words f) type ≡ Some n → (m : ℕ) × (option_and_then (type_words g) type ≡ Some m) × R n m
  optional-related None n e = absurd (none-some n e)
  optional-related (Some type) n e = type-related type n e

  pub total-related : (types : List (Option DataType)) (n : ℕ) → total_words f types ≡ Some n → (m : ℕ) × (total_words g types ≡ Some m) × R n m
  total-related [] n e = (0, refl, subst (λ k. R k 0) (same_Some 0 n e) nothing)
  total-related (type ∷ types) n e = plus-related (option_and_then (type_words f) type) (total_words f types) (option_and_then (type_words g) type) (total_words g types)
      (optional-related type) (total-related types) n e

-- what a struct has at one depth it has at each greater one
module _ (structs : List (List (Option DataType))) where
  total-same : (f g : Sizes) → ((i n : ℕ) → f i ≡ Some n → g i ≡ Some n) → (types : List (Option DataType)) (n : ℕ) → total_words f types ≡ Some n → total_words g types ≡ Some n
  total-same f g same types n e =
      let t = total-related (λ a b. a ≡ b) refl refl (λ a b m n p q. omega (arith, p, q)) (λ a m k p. ap (λ x. x * k) p) f g (λ i n e. (n, same i n e, refl)) types n e in
      t.1 ∙ ap Some (sym t.2)

  within-suc : (depth index n : ℕ) → words_within depth structs index ≡ Some n → words_within (suc depth) structs index ≡ Some n
  within-suc zero index n e = absurd (none-some n e)
  within-suc (suc depth) index n e = option_and_then_some (total_words (words_within depth structs)) (slice_get structs index) n e
      (λ types there total. ap (option_and_then (total_words (words_within (suc depth) structs))) there ∙ total-same (words_within depth structs) (words_within (suc depth) structs) (within-suc depth) types n total)

  within-more : (more depth index n : ℕ) → words_within depth structs index ≡ Some n → words_within (more + depth) structs index ≡ Some n
  within-more zero depth index n e = let same : depth ≡ zero + depth = omega arith in subst (λ d. words_within d structs index ≡ Some n) same e
  within-more (suc more) depth index n e =
      let same : suc (more + depth) ≡ suc more + depth = omega arith in
      subst (λ d. words_within d structs index ≡ Some n) same (within-suc (more + depth) index n (within-more more depth index n e))

  pub within-≤ : (low high index n : ℕ) → low ≤ high → words_within low structs index ≡ Some n → words_within high structs index ≡ Some n
  within-≤ low high index n le e = let same : (high - low) + low ≡ high = omega (arith, le) in subst (λ d. words_within d structs index ≡ Some n) same (within-more (high - low) low index n e)

  -- and so is what a type has
  type-≤ : (low high : ℕ) (type : DataType) (n : ℕ) → low ≤ high → type_words (words_within low structs) type ≡ Some n → type_words (words_within high structs) type ≡ Some n
  type-≤ low high type n le e =
      let t = type-related (λ a b. a ≡ b) refl refl (λ a b m n p q. omega (arith, p, q)) (λ a m k p. ap (λ x. x * k) p) (words_within low structs) (words_within high structs) (λ i n e. (n, within-≤ low high i n le e, refl)) type n e in
      t.1 ∙ ap Some (sym t.2)

  pub one-type : (type : DataType) (m n : ℕ) → ((depth : ℕ) × (type_words (words_within depth structs) type ≡ Some m)) → ((depth : ℕ) × (type_words (words_within depth structs) type ≡ Some n)) → m ≡ n
  one-type type m n p q =
      let a = type-≤ p.0 (p.0 + q.0) type m (omega arith) p.1 in
      let b = type-≤ q.0 (p.0 + q.0) type n (omega arith) q.1 in
      same_Some m n (sym a ∙ b)

  -- what a table has of the first structs lies within some depth
  abbrev pub LiesWithin : List (Option ℕ) → ℕ → ℕ → Type 0
  LiesWithin table depth count = (i w : ℕ) → i < count → sizes_of table i ≡ Some w → (m : ℕ) × (words_within depth structs i ≡ Some m) × (capped w ≡ capped m)

  some_depth : (table : List (Option ℕ)) → AreFound structs table → (count : ℕ) → (depth : ℕ) × LiesWithin table depth count
  some_depth table found zero = (0, λ i w l s. absurd (omega (arith, l)))
  some_depth table found (suc count) = let d = some_depth table found count in by (sizes_of table count) refl d.0 d.1
    where
      by : (o : Option ℕ) → sizes_of table count ≡ o → (depth : ℕ) → LiesWithin table depth count → (depth : ℕ) × LiesWithin table depth (suc count)
      by None e depth h = (
        depth,
        λ i w l s. elim (eq-or-lt_of_le (le_of_lt_suc i count l)) [
          | inl same ↦ absurd (none-some w (sym e ∙ ap (sizes_of table) (sym same) ∙ s))
          | inr less ↦ h i w less s
        ],
      )
      by (Some v) e depth h = let x = found count v e in (
        depth + x.1.0,
        λ i w l s. elim (eq-or-lt_of_le (le_of_lt_suc i count l)) [
          | inl same ↦ (
            x.0,
            subst (λ k. words_within (depth + x.1.0) structs k ≡ Some x.0) (sym same) (within-≤ x.1.0 (depth + x.1.0) count x.0 (omega arith) x.1.1),
            let same_words : v ≡ w = same_Some v w (sym e ∙ ap (sizes_of table) (sym same) ∙ s) in omega (arith, same_words, x.2),
          )
          | inr less ↦ let y = h i w less s in (y.0, within-≤ depth (depth + x.1.0) i y.0 (omega arith) y.1, y.2)
        ],
      )

  table_within : (table : List (Option ℕ)) (i w : ℕ) → sizes_of table i ≡ Some w → i < length table
  table_within table i w e = option_and_then_some (λ (words : Option ℕ). words) (slice_get table i) w e (λ o there same. slice_get_within table i o there)

  -- what follows from a table of found words is right
  total_exact : (table : List (Option ℕ)) → AreFound structs table → (types : List (Option DataType)) (w : ℕ) → total_words (sizes_of table) types ≡ Some w
      → (depth exact : ℕ) × (total_words (words_within depth structs) types ≡ Some exact) × (capped w ≡ capped exact)
  total_exact table found types w e =
      let d = some_depth table found (length table) in
      let t = total-related (λ a b. capped a ≡ capped b) refl refl capped-plus capped-times (sizes_of table) (words_within d.0 structs)
      (λ i n s. d.1 i n (table_within table i n s) s) types w e in
      (d.0, t.0, t.1, t.2)

  pub AreFound-Settles : (before after : List (Option ℕ)) (index : ℕ) (types : List (Option DataType)) → index < length before → slice_get structs index ≡ Some types
      → Settles before after index types → AreFound structs before → AreFound structs after
  AreFound-Settles before after index types within there h found i w e = elim (cases_eq i index) [
    | inl same ↦ (
      x.1,
      (suc x.0, ap (words_within (suc x.0) structs) same ∙ ap (option_and_then (total_words (words_within x.0 structs))) there ∙ x.2),
      let new : Some w ≡ Some (capped h.words) = sym e ∙ ap (λ t. sizes_of t i) h.changed ∙ ap (sizes_of (set before index (Some (capped h.words)))) same ∙ sizes-set_same before index (Some (capped h.words)) within in
          let words : w ≡ capped h.words = same_Some w (capped h.words) new in
          words ∙ x.3,
    )
    | inr other ↦ found i w (sym (sizes-set_other before index i (Some (capped h.words)) other) ∙ sym (ap (λ t. sizes_of t i) h.changed) ∙ e)
  ]
    where
      x : (depth exact : ℕ) × (total_words (words_within depth structs) types ≡ Some exact) × (capped h.words ≡ capped exact)
      x = total_exact before found types h.words h.are_total

  -- whether a struct gets words or not
  pub AreFound-either : (found : Bool) (before after : List (Option ℕ)) (index : ℕ) (types : List (Option DataType)) → index < length before → slice_get structs index ≡ Some types
      → OnTrue found (Settles before after index types) → OnFalse found (after ≡ before) → AreFound structs before → AreFound structs after
  AreFound-either true before after index types within there settles same found = AreFound-Settles before after index types within there settles found
  AreFound-either false before after index types within there settles same found = subst (AreFound structs) (sym same) found

  -- a table from which nothing follows any more has the words of each struct that has any
  pub AreStuck-none : (table : List (Option ℕ)) → AreStuck structs table → (depth index : ℕ) → sizes_of table index ≡ None → words_within depth structs index ≡ None
  AreStuck-none table stuck zero index e = refl
  AreStuck-none table stuck (suc depth) index e = by (AreStuck-none table stuck depth) (words_within (suc depth) structs index) refl
    where
      held : ((i : ℕ) → sizes_of table i ≡ None → words_within depth structs i ≡ None) → (o : Option ℕ) (i n : ℕ) → sizes_of table i ≡ o → words_within depth structs i ≡ Some n → (m : ℕ) × (sizes_of table i ≡ Some m) × Unit {0}
      held none None i n s w = absurd (none-some n (sym (none i s) ∙ w))
      held none (Some m) i n s w = (m, s, tt)

      by : ((i : ℕ) → sizes_of table i ≡ None → words_within depth structs i ≡ None) → (o : Option ℕ) → words_within (suc depth) structs index ≡ o → words_within (suc depth) structs index ≡ None
      by none None w = w
      by none (Some n) w = option_and_then_some (total_words (words_within depth structs)) (slice_get structs index) n w
          (λ types there total.
          let t = total-related (λ a b. Unit {0}) tt tt (λ a b m n p q. tt) (λ a m k p. tt) (words_within depth structs) (sizes_of table) (λ i n. held none (sizes_of table i) i n refl) types n total in
          absurd (none-some t.0 (sym (stuck index (slice_get_within structs index types there) e) ∙ ap (option_and_then (total_words (sizes_of table))) there ∙ t.1)))

  -- what a pass knows before each struct: what it found is right, and as long as it found nothing, nothing follows
  abbrev pub SoFar : (initial table : List (Option ℕ)) → Bool → ℕ → Type 0
  SoFar initial table found index =
      (AreFound structs initial → AreFound structs table)
      × MatchBool found
      (count_by is_none table < count_by is_none initial)
      ((table ≡ initial) × ((i : ℕ) → i < index → sizes_of table i ≡ None → option_and_then (total_words (sizes_of table)) (slice_get structs i) ≡ None))

  no_more : (initial table : List (Option ℕ)) (found : Bool) (index : ℕ) → SoFar initial table found index → count_by is_none table ≤ count_by is_none initial
  no_more initial table true index h = omega (arith, h.1)
  no_more initial table false index h = subst (λ t. count_by is_none t ≤ count_by is_none initial) (sym h.1.0) (omega arith)

  pub SoFar-then : (initial before after : List (Option ℕ)) (found : Bool) (index : ℕ) (types : List (Option DataType)) → SoFar initial before found index → index < length before
      → slice_get structs index ≡ Some types → Settles before after index types → SoFar initial after true (index + 1)
  SoFar-then initial before after found index types h within there s = (
    λ right. AreFound-Settles before after index types within there s (h.0 right),
    less (count_by is_none after) (count_by is_none before) (count_by is_none initial)
        (subst (λ t. count_by is_none t < count_by is_none before) (sym s.changed) (count_by-set_none before index (capped s.words) within s.were_none))
        (no_more initial before found index h),
  )
    where
      less : (a b c : ℕ) → a < b → b ≤ c → a < c
      less a b c p q = omega (arith, p, q)

  pub SoFar-else : (initial before after : List (Option ℕ)) (found : Bool) (index : ℕ) (types : List (Option DataType)) → SoFar initial before found index
      → slice_get structs index ≡ Some types → after ≡ before → (sizes_of before index ≡ None → total_words (sizes_of before) types ≡ None) → SoFar initial after found (index + 1)
  SoFar-else initial before after found index types h there same none = subst (λ t. SoFar initial t found (index + 1)) (sym same) (by found h)
    where
      by : (b : Bool) → SoFar initial before b index → SoFar initial before b (index + 1)
      by true k = k
      by false k = (
        k.0,
        (
          k.1.0,
          λ i l e. elim (eq-or-lt_of_le (le_of_lt_add_one i index l)) [
            | inl now ↦ ap (λ j. option_and_then (total_words (sizes_of before)) (slice_get structs j)) now ∙ ap (option_and_then (total_words (sizes_of before))) there ∙ none (sym (ap (sizes_of before) now) ∙ e)
            | inr less ↦ k.1.1 i less e
          ],
        ),
      )

  pub AreWords-stuck : (table : List (Option ℕ)) → length table ≡ length structs → AreFound structs table → AreStuck structs table → AreWords structs table
  AreWords-stuck table same found stuck = record {
    same_length = same;
    found = found;
    none = λ index e exact h. none-some exact (sym (AreStuck-none table stuck h.0 index e) ∙ h.1);
  }

-- the words of types and of one more
total_words-push : (sizes : Sizes) (types : List (Option DataType)) (type : Option DataType) → total_words sizes (types ++ type ∷ []) ≡ plus (total_words sizes types) (option_and_then (type_words sizes) type)
total_words-push sizes [] type = by (option_and_then (type_words sizes) type)
  where
    by : (o : Option ℕ) → plus o (Some 0) ≡ plus (Some 0) o
    by None = refl
    by (Some n) = ap Some (omega arith)
total_words-push sizes (first ∷ types) type =
    ap (plus (option_and_then (type_words sizes) first)) (total_words-push sizes types type)
    ∙ assoc (option_and_then (type_words sizes) first) (total_words sizes types) (option_and_then (type_words sizes) type)
  where
    assoc : (a b c : Option ℕ) → plus a (plus b c) ≡ plus (plus a b) c
    assoc None b c = refl
    assoc (Some a) None c = refl
    assoc (Some a) (Some b) None = refl
    assoc (Some a) (Some b) (Some c) = ap Some (omega arith)

-- it is no matter when they are capped
capped-before : (a b : Option ℕ) → option_map capped (plus (option_map capped a) b) ≡ option_map capped (plus a b)
capped-before None b = refl
capped-before (Some a) None = refl
capped-before (Some a) (Some b) = ap Some (omega arith)

pub total_words-next : (sizes : Sizes) (types : List (Option DataType)) (i : ℕ) (before after : Option ℕ) → i < length types
    → before ≡ option_map capped (total_words sizes (take i types)) → after ≡ option_map capped (plus before (option_and_then (type_words sizes) (get_or types i None)))
    → after ≡ option_map capped (total_words sizes (take (i + 1) types))
total_words-next sizes types i before after within b a =
    a ∙ ap (λ o. option_map capped (plus o (option_and_then (type_words sizes) (get_or types i None)))) b
    ∙ capped-before (total_words sizes (take i types)) (option_and_then (type_words sizes) (get_or types i None))
    ∙ ap (option_map capped) (sym (total_words-push sizes (take i types) (get_or types i None)))
    ∙ ap (λ ts. option_map capped (total_words sizes ts)) (sym (take_more types i None within))

pub slice_get-last : {X : Type 0} (xs : List X) (x : X) → slice_get (xs ++ x ∷ []) (length xs) ≡ Some x
slice_get-last [] x = refl
slice_get-last (y ∷ xs) x = slice_get-last xs x

pub slice_get-front : {X : Type 0} (xs : List X) (x : X) (k : ℕ) → k < length xs → slice_get (xs ++ x ∷ []) k ≡ slice_get xs k
slice_get-front [] x k l = absurd (omega (arith, l))
slice_get-front (y ∷ xs) x zero l = refl
slice_get-front (y ∷ xs) x (suc k) l = slice_get-front xs x k (omega (arith, l))

pub AreOffsets-next : (sizes : Sizes) (types : List (Option DataType)) (i : ℕ) (offsets : List (Option ℕ)) (total : Option ℕ)
    → total ≡ option_map capped (total_words sizes (take i types)) → AreFirstOffsets sizes types i offsets → AreFirstOffsets sizes types (i + 1) (offsets ++ total ∷ [])
AreOffsets-next sizes types i offsets total is h = (
  length-append offsets (total ∷ []) ∙ ap (λ n. n + 1) h.0,
  λ place l. elim (eq-or-lt_of_le (le_of_lt_add_one place i l)) [
    | inl same ↦ ap (slice_get (offsets ++ total ∷ [])) (same ∙ sym h.0) ∙ slice_get-last offsets total ∙ ap Some (is ∙ ap (λ k. option_map capped (total_words sizes (take k types))) (sym same))
    | inr less ↦ slice_get-front offsets total place (omega (arith, less, h.0)) ∙ h.1 place less
  ],
)

-- what a type's words are by a full table, and that it has none where the table says so
module _ (structs : List (List (Option DataType))) (table : List (Option ℕ)) (full : AreWords structs table) where
  has : (depth : ℕ) (o : Option ℕ) (i n : ℕ) → sizes_of table i ≡ o → words_within depth structs i ≡ Some n → (m : ℕ) × (sizes_of table i ≡ Some m) × Unit {0}
  has depth None i n s w = absurd (full.none i s n (depth, w))
  has depth (Some m) i n s w = (m, s, tt)

  pub type_exact : (type : DataType) (w : ℕ) → type_words (sizes_of table) type ≡ Some w → (exact : ℕ) × ((depth : ℕ) × (type_words (words_within depth structs) type ≡ Some exact)) × (capped w ≡ capped exact)
  type_exact type w e =
      let d = some_depth structs table full.found (length table) in
      let t = type-related (λ a b. capped a ≡ capped b) refl refl capped-plus capped-times (sizes_of table) (words_within d.0 structs)
      (λ i n s. d.1 i n (table_within structs table i n s) s) type w e in
      (t.0, (d.0, t.1), t.2)

  pub type_none : (type : DataType) → type_words (sizes_of table) type ≡ None → (exact depth : ℕ) → type_words (words_within depth structs) type ≡ Some exact → ⊥
  type_none type e exact depth w =
      let t = type-related (λ a b. Unit {0}) tt tt (λ a b m n p q. tt) (λ a m k p. tt) (words_within depth structs) (sizes_of table) (λ i n. has depth (sizes_of table i) i n refl) type exact w in
      none-some t.0 (sym e ∙ t.1)

  pub all_exact : (types : List (Option DataType)) (w : ℕ) → total_words (sizes_of table) types ≡ Some w → (exact : ℕ) × ((depth : ℕ) × (total_words (words_within depth structs) types ≡ Some exact)) × (capped w ≡ capped exact)
  all_exact types w e = let t = total_exact structs table full.found types w e in (t.1, (t.0, t.2), t.3)

  pub all_none : (types : List (Option DataType)) → total_words (sizes_of table) types ≡ None → (exact depth : ℕ) → total_words (words_within depth structs) types ≡ Some exact → ⊥
  all_none types e exact depth w =
      let t = total-related (λ a b. Unit {0}) tt tt (λ a b m n p q. tt) (λ a m k p. tt) (words_within depth structs) (sizes_of table) (λ i n. has depth (sizes_of table i) i n refl) types exact w in
      none-some t.0 (sym e ∙ t.1)
