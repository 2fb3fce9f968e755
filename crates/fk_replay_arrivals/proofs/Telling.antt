-- What is known while those who were in a round come to their next operations.
use Rattle.std.proofs.Common.{◌≡◌, ◌⊎◌, inl, inr, ℕ, zero, suc, ◌+◌, ◌<◌, ◌≤◌, List, [], ◌∷◌, length, drop, get_or, refl, sym, ap, ◌∙◌, subst, arith}
use Rattle.std.specs.Prelude.{slice_index}
use Rattle.std.proofs.lemmas.Bool.{cases_eq}
use Rattle.fk_tree.specs.Tree.{Tree, below}
use Rattle.fk_tree.proofs.Lists.{length-below}
use Rattle.fk_core.specs.declared.op.CoreOp.{CoreOp}
use Rattle.fk_replay_steps.specs.Pace.{Absences}
use Rattle.fk_replay_phases.specs.Present.{AreBelow, numbers_of}
use Rattle.fk_replay_phases.specs.declared.acting.Acting.{Acting}
use Rattle.fk_replay_phases.specs.declared.actor.Actor.{Actor}
use Rattle.fk_replay_arrivals.specs.declared.arrived.Arrived.{Arrived}
use Rattle.fk_replay_arrivals.specs.Arrived.{BecomesKnown, KnowsBehind}
use Rattle.fk_replay_arrivals.proofs.Begun.{becomes_none, becomes_both}

drop_next : (ns : List ℕ) (i : ℕ) → i < length ns → drop i ns ≡ slice_index ns i ∷ drop (suc i) ns
drop_next [] i low = absurd (omega (arith, low))
drop_next (n ∷ ns) zero low = refl
drop_next (n ∷ ns) (suc i) low = drop_next ns i (omega (arith, low))

drop_all : (ns : List ℕ) (i : ℕ) → length ns ≤ i → drop i ns ≡ []
drop_all [] zero all = refl
drop_all [] (suc i) all = refl
drop_all (n ∷ ns) zero all = absurd (omega (arith, all))
drop_all (n ∷ ns) (suc i) all = drop_all ns i (omega (arith, all))

-- the number of one of those who were in a round
pub number_there : (acting : List Acting) (i : ℕ) (d : Acting) → i < length acting → slice_index (numbers_of acting) i ≡ (get_or acting i d).number
number_there [] i d low = absurd (omega (arith, low))
number_there (x ∷ acting) zero d low = refl
number_there (x ∷ acting) (suc i) d low = number_there acting i d (omega (arith, low))

pub many_numbers : (acting : List Acting) → length (numbers_of acting) ≡ length acting
many_numbers [] = refl
many_numbers (x ∷ acting) = ap (λ (n : ℕ). suc n) (many_numbers acting)

pub number_below : (p : ℕ) (acting : List Acting) (i : ℕ) (d : Acting) → AreBelow p (numbers_of acting) → i < length acting → (get_or acting i d).number < p
number_below p acting i d below low =
    let there = number_there acting i d low in
    let many = many_numbers acting in
    let lt = below.each i (omega (arith, low, many)) in
    omega (arith, there, lt)

-- all processors, in the order of their numbers
after_below : (p k : ℕ) (more : List ℕ) → slice_index (below p more) (p + k) ≡ slice_index more k
after_below zero k more = ap (slice_index more) (omega arith)
after_below (suc p) k more = ap (slice_index (below p (p ∷ more))) (let e : suc p + k ≡ p + suc k = omega arith in e) ∙ after_below p (suc k) (p ∷ more)

at_below : (p i : ℕ) (more : List ℕ) → i < p → slice_index (below p more) i ≡ i
at_below zero i more low = absurd (omega (arith, low))
at_below (suc p) i more low = by (cases_eq i p) (λ lt. at_below p i (p ∷ more) lt)
  where
    by : (i ≡ p) ⊎ (i ≡ p → ⊥) → (i < p → slice_index (below p (p ∷ more)) i ≡ i) → slice_index (below p (p ∷ more)) i ≡ i
    by (inl e) lower = ap (slice_index (below p (p ∷ more))) (let f : i ≡ p + 0 = omega (arith, e) in f) ∙ after_below p 0 (p ∷ more) ∙ sym e
    by (inr ne) lower = lower (omega (arith, low, ne))

pub all_at : (p i : ℕ) → i < p → slice_index (below p []) i ≡ i
all_at p i low = at_below p i [] low

pub all_many : (p : ℕ) → length (below p []) ≡ p
all_many p = let e = length-below p [] in omega (arith, e)

module _ (core : List CoreOp) (tree : Tree) (actors : List Actor) (numbers : List ℕ) (round : ℕ) (old : Absences) (was : List Arrived) where
  -- so many of some processors have come
  pub record HaveCome (i : ℕ) (now : Absences) (is : List Arrived) : Type 0 where
    pub becomes : BecomesKnown round old now
    pub many : length is ≡ length was
    pub known : KnowsBehind core tree actors numbers (drop i numbers) old now was is

  pub comes_first : HaveCome 0 old was
  comes_first = record { becomes = becomes_none round old; many = refl; known = λ set s of stands knows. knows }

  pub comes_more : (i : ℕ) (now now' : Absences) (is is' : List Arrived) → i < length numbers → HaveCome i now is → BecomesKnown round now now' → length is' ≡ length is
      → ((coming : List ℕ) → KnowsBehind core tree actors (slice_index numbers i ∷ coming) coming now now' is is') → HaveCome (i + 1) now' is'
  comes_more i now now' is is' low so_far becomes many known = record {
    becomes = becomes_both round old now now' so_far.becomes becomes;
    many = many ∙ so_far.many;
    known = λ set s of stands knows.
        let one : suc i ≡ i + 1 = omega arith in
        let before = so_far.known set s of stands knows in
        subst (λ (ns : List ℕ). KnowsBehind core tree actors ns (drop (i + 1) numbers) now now' is is') (sym (drop_next numbers i low ∙ ap (λ (n : ℕ). slice_index numbers i ∷ drop n numbers) one)) (known (drop (i + 1) numbers)) set s of stands before;
  }

  pub comes_all : (i : ℕ) (now : Absences) (is : List Arrived) → length numbers ≤ i → HaveCome i now is → KnowsBehind core tree actors numbers [] old now was is
  comes_all i now is all so_far = subst (λ (ns : List ℕ). KnowsBehind core tree actors numbers ns old now was is) (drop_all numbers i all) so_far.known
