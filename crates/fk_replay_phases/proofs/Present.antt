-- The numbers of those who are in a round, one after the other.
use Rattle.std.proofs.Common.{◌≡◌, ℕ, zero, suc, ◌+◌, ◌-◌, ◌<◌, ◌≤◌, List, [], ◌∷◌, length, get_or, drop, ap, refl, sym, ◌∙◌, arith}
use Rattle.std.specs.Prelude.{slice_index}
use Rattle.std.proofs.lemmas.List.{get_or-drop, length-drop, drop-drop, drop_more, drop_all}
use Rattle.fk_meaning.specs.Round.{Round}
use Rattle.fk_replay_phases.specs.Present.{present, numbers_of}
use Rattle.fk_replay_phases.specs.declared.acting.Acting.{Acting}

-- the first of the numbers of a list whose elements begin with number m
record First (m : ℕ) (xs : List ℕ) (h : ℕ) (rest : List ℕ) : Type 0 where
  k : ℕ
  at : h ≡ m + k
  high : k < length xs
  some : 0 < slice_index xs k
  none : (j : ℕ) → j < k → slice_index xs j ≡ 0
  rest_is : rest ≡ present (suc h) (drop (suc k) xs)

first : (m : ℕ) (xs : List ℕ) (h : ℕ) (rest : List ℕ) → present m xs ≡ h ∷ rest → First m xs h rest
first m [] h rest e = absurd (let bad : [] ≡ h ∷ rest = e in cc)
first m (zero ∷ xs) h rest e =
    let f = first (suc m) xs h rest e in
    record {
      k = suc f.k;
      at = let a = f.at in omega arith;
      high = let a = f.high in omega arith;
      some = f.some;
      none = none f.k f.none;
      rest_is = f.rest_is;
    }
  where
    none : (k : ℕ) → ((j : ℕ) → j < k → slice_index xs j ≡ 0) → (j : ℕ) → j < suc k → slice_index (zero ∷ xs) j ≡ 0
    none k before zero lt = refl
    none k before (suc j) lt = before j (omega arith)
first m (suc c ∷ xs) h rest e =
    let here : m ≡ h = cc in
    let behind : present (suc m) xs ≡ rest = cc in
    record {
      k = 0;
      at = omega arith;
      high = omega arith;
      some = omega arith;
      none = λ j lt. absurd (let z : ⊥ = omega arith in z);
      rest_is = sym behind ∙ ap (λ (n : ℕ). present (suc n) xs) here;
    }

-- after those below n the next one is h
pub record IsNext (round : Round) (n h : ℕ) (rest : List ℕ) : Type 0 where
  pub low : n ≤ h
  pub high : h < length round
  pub some : 0 < slice_index round h
  pub none : (g : ℕ) → n ≤ g → g < h → slice_index round g ≡ 0
  pub rest_is : rest ≡ present (suc h) (drop (suc h) round)

pub next_of : (round : Round) (n h : ℕ) (rest : List ℕ) → present n (drop n round) ≡ h ∷ rest → IsNext round n h rest
next_of round n h rest e =
    let f = first n (drop n round) h rest e in
    let at = f.at in
    let high : f.k < length round - n = let z = f.high in omega (arith, length-drop n round) in
    record {
      low = omega arith;
      high = omega arith;
      some = let same : slice_index (drop n round) f.k ≡ slice_index round (n + f.k) = get_or-drop n round f.k 0 in
          let there : slice_index round (n + f.k) ≡ slice_index round h = ap (slice_index round) (sym at) in
          let z = f.some in omega (arith, same, there);
      none = λ g low lt.
          let j : ℕ = g - n in
          let is : n + j ≡ g = omega arith in
          ap (slice_index round) (sym is) ∙ sym (get_or-drop n round j 0) ∙ f.none j (omega arith);
      rest_is = f.rest_is ∙ ap (present (suc h)) (drop-drop (suc f.k) n round ∙ ap (λ (k : ℕ). drop k round) (let k : n + suc f.k ≡ suc h = omega arith in k));
    }

all_none : (m : ℕ) (xs : List ℕ) (j : ℕ) → present m xs ≡ [] → slice_index xs j ≡ 0
all_none m [] zero e = refl
all_none m [] (suc j) e = refl
all_none m (zero ∷ xs) zero e = refl
all_none m (zero ∷ xs) (suc j) e = all_none (suc m) xs j e
all_none m (suc c ∷ xs) j e = absurd (let bad : m ∷ present (suc m) xs ≡ [] = e in cc)

-- after those below n there are none
pub none_behind : (round : Round) (n g : ℕ) → present n (drop n round) ≡ [] → n ≤ g → slice_index round g ≡ 0
none_behind round n g e le =
    let j : ℕ = g - n in
    let is : n + j ≡ g = omega arith in
    ap (slice_index round) (sym is) ∙ sym (get_or-drop n round j 0) ∙ all_none n (drop n round) j e

-- of a list of those who act
pub record IsNextActing (round : Round) (n : ℕ) (acting : List Acting) (i : ℕ) (x : Acting) : Type 0 where
  pub next : (rest : List ℕ) × IsNext round n x.number rest
  pub rest : present (suc x.number) (drop (suc x.number) round) ≡ numbers_of (drop (i + 1) acting)

pub next_acting : (round : Round) (n : ℕ) (acting : List Acting) (i : ℕ) (x : Acting) → present n (drop n round) ≡ numbers_of (drop i acting) → i < length acting
    → x ≡ get_or acting i x → IsNextActing round n acting i x
next_acting round n acting i x e lt is =
    let more = drop_more acting i x lt in
    let split : numbers_of (drop i acting) ≡ x.number ∷ numbers_of (drop (i + 1) acting) =
    ap numbers_of more ∙ ap (λ (y : Acting). y.number ∷ numbers_of (drop (i + 1) acting)) (sym is) in
    let next = next_of round n x.number (numbers_of (drop (i + 1) acting)) (e ∙ split) in
    record {
      next = (numbers_of (drop (i + 1) acting), next);
      rest = sym next.rest_is;
    }

pub none_acting : (round : Round) (n g : ℕ) (acting : List Acting) (i : ℕ) → present n (drop n round) ≡ numbers_of (drop i acting) → length acting ≤ i
    → n ≤ g → slice_index round g ≡ 0
none_acting round n g acting i e le low =
    none_behind round n g (e ∙ ap numbers_of (drop_all i acting le)) low
