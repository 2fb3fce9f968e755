-- What members give to words: 0 to each, or a count to some.
use Rattle.std.proofs.Common.{◌≡◌, ℕ, suc, ◌+◌, ◌^◌, ◌<◌, ◌≤◌, List, [], ◌∷◌, length, Bool, true, false, sym, ap, ◌∙◌, arith, refl, ◌⊎◌, inl, inr, eq-eqb}
use Rattle.std.specs.Prelude.{◌==◌, cond, filter}
use Rattle.std.proofs.lemmas.Bool.{ne_eqb}
use Rattle.fk_num.specs.Word.{word_sum}
use Rattle.fk_sim_nodes.specs.Node.{Member, add}
use Rattle.fk_sim_nodes.specs.OnePlace.{values_for, last_or, sum_from}
use Rattle.fk_sim_block.specs.Owner.{Owner}
use Rattle.fk_gen_group.proofs.Members.{Both}

-- something holds of each
abbrev pub EachOwner : (Owner → Type 0) → List Owner → Type 0
EachOwner P [] = Unit {0}
EachOwner P (p ∷ ps) = P p × EachOwner P ps

pub each_owner : (P Q : Owner → Type 0) (ps : List Owner) → ((p : Owner) → P p → Q p) → EachOwner P ps → EachOwner Q ps
each_owner P Q [] f all = tt
each_owner P Q (p ∷ ps) f all = (f p all.0, each_owner P Q ps f all.1)

pub every_owner : (P : Owner → Type 0) (ps : List Owner) → ((p : Owner) → P p) → EachOwner P ps
every_owner P [] f = tt
every_owner P (p ∷ ps) f = (f p, every_owner P ps f)

-- what the processors with this word give to it
abbrev pub shares : (word count : Owner → ℕ) → (w : ℕ) → List Owner → List ℕ
shares word count w [] = []
shares word count w (p ∷ ps) = add (w == word p) (count p) (shares word count w ps)

abbrev pub nothing_each : Owner → ℕ
nothing_each p = 0

-- it is what a register of theirs has
pub shares_are : (P : Member → Owner → Type 0) (at : Member → ℕ) (word count : Owner → ℕ) (register w : ℕ) (ms : List Member) (ps : List Owner)
    → ((m : Member) (p : Owner) → P m p → at m ≡ word p) → ((m : Member) (p : Owner) → P m p → m.hart.registers register ≡ count p) → Both P ms ps
    → values_for at register w ms ≡ shares word count w ps
shares_are P at word count register w [] [] f g all = refl
shares_are P at word count register w (m ∷ ms) (p ∷ ps) f g all =
    ap (λ x. add (w == x) (m.hart.registers register) (values_for at register w ms)) (f m p all.0)
    ∙ ap (λ v. add (w == word p) v (values_for at register w ms)) (g m p all.0)
    ∙ ap (λ vs. add (w == word p) (count p) vs) (shares_are P at word count register w ms ps f g all.1)
shares_are P at word count register w ms ps f g all = absurd (assumption all)

-- ---- words that are cleared

noughts : (b : Bool) (v : ℕ) (xs : List ℕ) → ((u : ℕ) → u ≡ 0 → last_or u xs ≡ 0) → v ≡ 0 → last_or v (add b 0 xs) ≡ 0
noughts true v xs f e = f 0 refl
noughts false v xs f e = f v e

-- a word that is 0 stays 0
pub stays_nought : (word : Owner → ℕ) (w v : ℕ) (ps : List Owner) → v ≡ 0 → last_or v (shares word nothing_each w ps) ≡ 0
stays_nought word w v [] e = e
stays_nought word w v (p ∷ ps) e = noughts (w == word p) v (shares word nothing_each w ps) (λ u z. stays_nought word w u ps z) e

-- some processor has this word
abbrev pub IsAmong : (word : Owner → ℕ) → (w : ℕ) → List Owner → Type 0
IsAmong word w [] = ⊥
IsAmong word w (p ∷ ps) = (w ≡ word p) ⊎ IsAmong word w ps

by_other : (b : Bool) (v : ℕ) (xs : List ℕ) → ((u : ℕ) → last_or u xs ≡ 0) → last_or v (add b 0 xs) ≡ 0
by_other true v xs f = f 0
by_other false v xs f = f v

-- its word is cleared
pub is_cleared : (word : Owner → ℕ) (w v : ℕ) (ps : List Owner) → IsAmong word w ps → last_or v (shares word nothing_each w ps) ≡ 0
is_cleared word w v [] among = absurd among
is_cleared word w v (p ∷ ps) (inl e) =
    ap (λ b. last_or v (add b 0 (shares word nothing_each w ps))) (eq-eqb w (word p) e) ∙ stays_nought word w 0 ps refl
is_cleared word w v (p ∷ ps) (inr among) = by_other (w == word p) v (shares word nothing_each w ps) (λ u. is_cleared word w u ps among)

-- each has its own word
among_all : (word : Owner → ℕ) (qs ps : List Owner) → ((w : ℕ) → IsAmong word w ps → IsAmong word w qs) → EachOwner (λ p. IsAmong word (word p) qs) ps
among_all word qs [] f = tt
among_all word qs (p ∷ ps) f = (f (word p) (inl refl), among_all word qs ps (λ w a. f w (inr a)))

pub all_are_among : (word : Owner → ℕ) (ps : List Owner) → EachOwner (λ p. IsAmong word (word p) ps) ps
all_are_among word ps = among_all word ps ps (λ w a. a)

-- nobody gives to another word
pub no_shares : (word count : Owner → ℕ) (w : ℕ) (ps : List Owner) → EachOwner (λ p. w ≡ word p → ⊥) ps → shares word count w ps ≡ []
no_shares word count w [] all = refl
no_shares word count w (p ∷ ps) all =
    ap (λ b. add b (count p) (shares word count w ps)) (ne_eqb w (word p) all.0) ∙ no_shares word count w ps all.1

-- ---- words that are added to

-- those who pass a test give 1 to a word, and the others nothing or 0
abbrev pub GivesOne : (word count : Owner → ℕ) → (w : ℕ) → (test : Bool) → Owner → Type 0
GivesOne word count w true p = ((w == word p) ≡ true) × (count p ≡ 1)
GivesOne word count w false p = ((w == word p) ≡ false) ⊎ (count p ≡ 0)

sum_one : (word count : Owner → ℕ) (w v : ℕ) (p : Owner) (xs : List ℕ) (n most : ℕ) → n ≤ most → GivesOne word count w true p → v + suc most < 2 ^ 32
    → ((u : ℕ) → u + most < 2 ^ 32 → sum_from u xs ≡ u + n) → sum_from v (add (w == word p) (count p) xs) ≡ v + suc n
sum_one word count w v p xs n most le gives lt f =
    let more = f (v + 1) (omega arith) in
    let few : word_sum v 1 ≡ v + 1 = omega arith in
    ap (λ b. sum_from v (add b (count p) xs)) gives.0 ∙ ap (λ c. sum_from (word_sum v c) xs) gives.1 ∙ ap (λ u. sum_from u xs) few ∙ more ∙ omega arith

add_nought : (b : Bool) (v : ℕ) (xs : List ℕ) → v < 2 ^ 32 → sum_from v (add b 0 xs) ≡ sum_from v xs
add_nought true v xs lt = let same : word_sum v 0 ≡ v = omega arith in ap (λ u. sum_from u xs) same
add_nought false v xs lt = refl

sum_none : (word count : Owner → ℕ) (w v : ℕ) (p : Owner) (xs : List ℕ) (n most : ℕ) → GivesOne word count w false p → v + most < 2 ^ 32
    → ((u : ℕ) → u + most < 2 ^ 32 → sum_from u xs ≡ u + n) → sum_from v (add (w == word p) (count p) xs) ≡ v + n
sum_none word count w v p xs n most (inl other) lt f = ap (λ b. sum_from v (add b (count p) xs)) other ∙ f v lt
sum_none word count w v p xs n most (inr none) lt f = ap (λ c. sum_from v (add (w == word p) c xs)) none ∙ add_nought (w == word p) v xs (omega arith) ∙ f v lt

-- no more pass a test than there are
pass_by : (t : Bool) (n m : ℕ) → n ≤ m → cond t (suc n) n ≤ suc m
pass_by true n m le = omega arith
pass_by false n m le = omega arith

length_cond : (t : Bool) (p : Owner) (xs : List Owner) → length (cond t (p ∷ xs) xs) ≡ cond t (suc (length xs)) (length xs)
length_cond true p xs = refl
length_cond false p xs = refl

pub few_pass : (test : Owner → Bool) (ps : List Owner) → length (filter test ps) ≤ length ps
few_pass test [] = omega arith
few_pass test (p ∷ ps) =
    let rest = few_pass test ps in
    let one = pass_by (test p) (length (filter test ps)) (length ps) rest in
    let same = length_cond (test p) p (filter test ps) in
    omega (arith, one, same)

sum_by_test : (word count : Owner → ℕ) (w v : ℕ) (p : Owner) (xs : List ℕ) (n most : ℕ) (t : Bool) → n ≤ most → GivesOne word count w t p → v + suc most < 2 ^ 32
    → ((u : ℕ) → u + most < 2 ^ 32 → sum_from u xs ≡ u + n) → sum_from v (add (w == word p) (count p) xs) ≡ v + cond t (suc n) n
sum_by_test word count w v p xs n most true le gives lt f = sum_one word count w v p xs n most le gives lt f
sum_by_test word count w v p xs n most false le gives lt f = sum_none word count w v p xs n most gives (omega arith) f

pub sum_is : (word count : Owner → ℕ) (test : Owner → Bool) (w v : ℕ) (ps : List Owner) → EachOwner (λ p. GivesOne word count w (test p) p) ps → v + length ps < 2 ^ 32
    → sum_from v (shares word count w ps) ≡ v + length (filter test ps)
sum_is word count test w v [] all lt = omega arith
sum_is word count test w v (p ∷ ps) all lt =
    let few = few_pass test ps in
    sum_by_test word count w v p (shares word count w ps) (length (filter test ps)) (length ps) (test p) few all.0 lt (λ u less. sum_is word count test w u ps all.1 less)
    ∙ ap (λ k. v + k) (sym (length_cond (test p) p (filter test ps)))
