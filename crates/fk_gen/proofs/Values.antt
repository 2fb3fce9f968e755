-- Values in frames, the addresses of values and variables, and numbers of two parts.
use Rattle.std.proofs.Common.{◌≡◌, ℕ, zero, suc, ◌+◌, ◌-◌, ◌*◌, ◌%◌, ◌<◌, ◌≤◌, List, [], ◌∷◌, length, ap, subst, ◌∙◌, arith, refl, sym, true, ◌⊎◌, inl, inr, eq-eqb}
use Rattle.std.specs.Prelude.{◌==◌}
use Rattle.std.proofs.lemmas.Bool.{cases_lt, lt-ltb, le-ltb, ne_eqb, eqb-true}
use Rattle.fk_num.specs.Word.{Memory, put, word, word_sum}
use Rattle.fk_meaning.specs.Processor.{last, before}
use Rattle.fk_meaning.specs.Local.{joined}
use Rattle.fk_sim_block.specs.Stands.{Places, HasValues, local_address, frame_end, frame_start, value_of}
use Rattle.fk_gen.specs.Lines.{at_value, at_private, high_part, low_part}

-- ---- a word that is written

pub same_word : (m : Memory) (i v : ℕ) → put m i v i ≡ v
same_word m i v = rw (eq-eqb i i refl)

pub other_word : (m : Memory) (i v j : ℕ) → (j ≡ i → ⊥) → put m i v j ≡ m j
other_word m i v j e = let f = ne_eqb j i e in rw f

-- ---- values

pub values_same : (at at' : ℕ → ℕ) (vs : List ℕ) → ((k : ℕ) → 1 ≤ k → k ≤ length vs → at' k ≡ at k) → HasValues at vs → HasValues at' vs
values_same at at' [] same held = tt
values_same at at' (v ∷ vs) same held = (
  same (suc (length vs)) (omega arith) (omega arith) ∙ held.0,
  values_same at at' vs (λ k some le. same k some (omega arith)) held.1,
)

-- in memory
pub values_kept : (m m' : Memory) (n : ℕ) (vs : List ℕ) → ((j : ℕ) → frame_end n - length vs ≤ j → j < frame_end n → m' j ≡ m j)
    → HasValues (value_of m n) vs → HasValues (value_of m' n) vs
values_kept m m' n vs same held =
    values_same (value_of m n) (value_of m' n) vs (λ k some le. same (frame_end n - k) (omega arith) (omega arith)) held

pub values_before : (k : ℕ) (at : ℕ → ℕ) (vs : List ℕ) → HasValues at vs → HasValues at (before k vs)
values_before zero at vs held = held
values_before (suc k) at [] held = tt
values_before (suc k) at (v ∷ vs) held = values_before k at vs held.1

pub length_before : (k : ℕ) (vs : List ℕ) → length (before k vs) ≡ length vs - k
length_before zero vs = omega arith
length_before (suc k) [] = omega arith
length_before (suc k) (v ∷ vs) = let e = length_before k vs in omega arith

-- the value before which so many others come
pub value_at : (k : ℕ) (at : ℕ → ℕ) (vs : List ℕ) → k < length vs → HasValues at vs → at (length vs - k) ≡ last (before k vs)
value_at k at [] lt held = absurd (omega arith)
value_at zero at (v ∷ vs) lt held = let e : suc (length vs) - 0 ≡ suc (length vs) = omega arith in ap at e ∙ held.0
value_at (suc k) at (v ∷ vs) lt held =
    let e : suc (length vs) - suc k ≡ length vs - k = omega arith in
    ap at e ∙ value_at k at vs (omega arith) held.1

pub values_pushed : (m : Memory) (n v : ℕ) (vs : List ℕ) → length vs < frame_end n → HasValues (value_of m n) vs
    → HasValues (value_of (put m (frame_end n - suc (length vs)) v) n) (v ∷ vs)
values_pushed m n v vs lt held = (
  same_word m (frame_end n - suc (length vs)) v,
  values_kept m (put m (frame_end n - suc (length vs)) v) n vs
      (λ j le below. other_word m (frame_end n - suc (length vs)) v j (λ e. omega arith)) held,
)

-- one that stands for the last k values is written to the w-th place
pub values_put : (k w : ℕ) (m : Memory) (n v : ℕ) (vs : List ℕ) → k ≤ length vs → w ≡ suc (length vs) - k → w ≤ frame_end n → HasValues (value_of m n) vs
    → HasValues (value_of (put m (frame_end n - w) v) n) (v ∷ before k vs)
values_put k w m n v vs le e within held =
    let c = length_before k vs in
    let same : suc (length (before k vs)) ≡ w = omega arith in
    subst (λ a. HasValues (value_of (put m (frame_end n - a) v) n) (v ∷ before k vs)) same
    (values_pushed m n v (before k vs) (omega arith) (values_before k (value_of m n) vs held))

pub joined_is : (f : ℕ → ℕ → ℕ) (vs : List ℕ) → 2 ≤ length vs → joined f vs ≡ f (last (before 1 vs)) (last vs) ∷ before 2 vs
joined_is f [] le = absurd (omega arith)
joined_is f (b ∷ []) le = absurd (omega arith)
joined_is f (b ∷ a ∷ vs) le = refl

-- ---- addresses

-- the word of the k-th value of the running call
pub value_place : (a n k : ℕ) → a ≡ local_address (frame_end n) → n < 256 → 1 ≤ k → k ≤ 64
    → (frame_end n - k < 32768) × (word_sum a (at_value k) ≡ local_address (frame_end n - k))
value_place a n k e few some most = (omega arith, omega arith)

pub private_place : (places : Places) (a n x : ℕ) → a ≡ local_address (frame_start places n) → n < 256 → places.frames.of_file ≤ 56 → x < 64
    → (frame_start places n + 7 + x < 32768) × (word_sum a (at_private x) ≡ local_address (frame_start places n + 7 + x))
private_place places a zero x e few file lt = (omega arith, omega arith)
private_place places a (suc n) x e few file lt = (omega arith, omega arith)

pub own_place : (a x : ℕ) → a ≡ local_address 0 → x < 64 → (7 + x < 32768) × (word_sum a (at_private x) ≡ local_address (7 + x))
own_place a x e lt = (omega arith, omega arith)

-- ---- numbers

-- the two parts of a number make its word
pub number_of_parts : (n : ℕ) → word_sum (high_part n * 4096) (low_part n) ≡ word n
number_of_parts n = split n (cases_lt (n % 4096) 2048)
  where
    split : (n : ℕ) → ((n % 4096 < 2048) ⊎ (2048 ≤ n % 4096)) → word_sum (high_part n * 4096) (low_part n) ≡ word n
    split n (inl lt) = rw (lt-ltb (n % 4096) 2048 lt) (omega arith)
    split n (inr le) = rw (le-ltb (n % 4096) 2048 le) (omega arith)

-- one whose upper part is 0 is the lower one
pub number_of_low_part : (n : ℕ) → (high_part n == 0) ≡ true → word_sum 0 (low_part n) ≡ word n
number_of_low_part n e = ap (λ v. word_sum (v * 4096) (low_part n)) (sym (eqb-true (high_part n) 0 e)) ∙ number_of_parts n

-- a number that is added to a register in one part, or in two
pub sum_of_low : (a b n : ℕ) → word_sum 0 b ≡ word n → word_sum a b ≡ word (a + n)
sum_of_low a b n e = omega arith

pub sum_of_parts : (a c n : ℕ) → c ≡ word n → word_sum c a ≡ word (a + n)
sum_of_parts a c n e = omega arith
