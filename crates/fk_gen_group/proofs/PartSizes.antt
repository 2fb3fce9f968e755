-- What the control words of the parts of a split have when its members have counted.
use Rattle.std.proofs.Common.{◌≡◌, ℕ, zero, suc, ◌+◌, ◌*◌, ◌<◌, ◌≤◌, List, [], ◌∷◌, length, Bool, true, false, Option, Some, None, sym, ap, subst, ◌∙◌, arith, refl, inl, inr, eq-eqb}
use Rattle.std.specs.Prelude.{◌==◌, filter, is_some, if◌then◌else◌}
use Rattle.std.specs.Int.{from_bool}
use Rattle.std.proofs.lemmas.Bool.{ne_eqb, eqb-true}
use Rattle.fk_num.specs.Word.{Memory}
use Rattle.fk_space.specs.Space.{Space, IsSpace, free, equal_part}
use Rattle.fk_tree.specs.Tree.{is_in}
use Rattle.fk_meaning_operation.specs.declared.operation.SplitKind.{SplitKind}
use Rattle.fk_meaning_operation.specs.declared.operation.SplitKind.TheVariants.{IfAlone, IfElse, AndThen, OrElse, Loop}
use Rattle.fk_meaning.specs.Processor.{values, last}
use Rattle.fk_meaning.specs.Group.{part}
use Rattle.fk_sim_nodes.specs.OnePlace.{last_or, sum_from}
use Rattle.fk_sim_block.specs.Owner.{Owner}
use Rattle.fk_sim_block.specs.Node.{IsAtRest}
use Rattle.fk_sim_block.specs.Parts.{part_of, size_of_part}
use Rattle.fk_gen_group.specs.Splits.{parts_label, one_part_label}
use Rattle.fk_gen_group.proofs.Fronts.{is_implicit, flag_by}
use Rattle.fk_gen_group.proofs.Shares.{GivesOne, EachOwner, each_owner, shares, nothing_each, IsAmong, is_cleared, stays_nought, no_shares, sum_is}

-- ---- the words at which members count

-- where a part begins, and the words of those who wait
abbrev pub word_at : (space : Space) (first count : ℕ) → Option ℕ → ℕ
word_at s first k None = first
word_at s first k (Some j) = s.frames + 4 * k + j * equal_part s k

abbrev pub Within : (count : ℕ) → Option ℕ → Type 0
Within k None = Unit {0}
Within k (Some j) = j < k

-- each of some processors that is in a part gives 1 to its word, and no word is next to another
pub record AreCounted (Good : Owner → Type 0) (by : SplitKind) (space : Space) (first k : ℕ) (count : Owner → ℕ) : Type 0 where
  pub within : (p : Owner) → Good p → Within k (part_of by p)
  pub one : (p : Owner) (j : ℕ) → Good p → part_of by p ≡ Some j → count p ≡ 1
  pub none : (p : Owner) → Good p → part_of by p ≡ None → count p ≡ 0
  pub apart : (x y : Option ℕ) → Within k x → Within k y → word_at space first k x + 1 ≡ word_at space first k y → ⊥
  pub differ : (j : ℕ) → j < k → first ≡ word_at space first k (Some j) → ⊥
  pub same : (j l : ℕ) → j < k → l < k → word_at space first k (Some j) ≡ word_at space first k (Some l) → j ≡ l

no_more : (ps : List Owner) → length (filter (λ (p : Owner). false) ps) ≡ 0
no_more [] = refl
no_more (p ∷ ps) = no_more ps

-- all processors are such
abbrev pub Each : Owner → Type 0
Each p = Unit {0}

module _ (Good : Owner → Type 0) (by : SplitKind) (space : Space) (first k : ℕ) (count : Owner → ℕ) (are : AreCounted Good by space first k count) where
  abbrev pub word : Owner → ℕ
  word p = word_at space first k (part_of by p)

  -- those of a part are counted
  gives_to : (j : ℕ) → j < k → (p : Owner) → Good p → (o : Option ℕ) → part_of by p ≡ o → GivesOne word count (word_at space first k (Some j)) (is_in j o) p
  gives_to j lt p good None e =
      inl (ne_eqb (word_at space first k (Some j)) (word p) (λ f. are.differ j lt (sym (f ∙ ap (word_at space first k) e))))
  gives_to j lt p good (Some l) e = by_same (j == l) refl
    where
      true_false : true ≡ false → ⊥
      true_false e = absurd (cc)

      inside : l < k
      inside = subst (Within k) e (are.within p good)

      by_same : (b : Bool) → (j == l) ≡ b → GivesOne word count (word_at space first k (Some j)) b p
      by_same true f =
          let same : j ≡ l = eqb-true j l f in
          (eq-eqb (word_at space first k (Some j)) (word p) (ap (λ x. word_at space first k (Some x)) same ∙ sym (ap (word_at space first k) e)), are.one p l good e)
      by_same false f =
          inl (ne_eqb (word_at space first k (Some j)) (word p)
          (λ g. true_false (sym (eq-eqb j l (are.same j l lt inside (g ∙ ap (word_at space first k) e))) ∙ f)))

  pub counted_part : (j : ℕ) → j < k → (v : ℕ) (ps : List Owner) → EachOwner Good ps → v ≡ 0 → length ps ≤ 1024
      → sum_from v (shares word count (word_at space first k (Some j)) ps) ≡ size_of_part by ps (Some j)
  counted_part j lt v ps good e few =
      let sum = sum_is word count (λ p. is_in j (part_of by p)) (word_at space first k (Some j)) v ps
      (each_owner Good (λ p. GivesOne word count (word_at space first k (Some j)) (is_in j (part_of by p)) p) ps (λ p g. gives_to j lt p g (part_of by p) refl) good) (omega arith) in
      sum ∙ omega arith

  -- nobody is counted at the words of those who wait
  gives_none : (p : Owner) → Good p → (o : Option ℕ) → part_of by p ≡ o → GivesOne word count first false p
  gives_none p good None e = inr (are.none p good e)
  gives_none p good (Some j) e = inl (ne_eqb first (word p) (λ f. are.differ j (subst (Within k) e (are.within p good)) (f ∙ ap (word_at space first k) e)))

  counted_none : (v : ℕ) (ps : List Owner) → EachOwner Good ps → v ≡ 0 → length ps ≤ 1024 → sum_from v (shares word count first ps) ≡ 0
  counted_none v ps good e few =
      let none = no_more ps in
      let sum = sum_is word count (λ p. false) first v ps (each_owner Good (λ p. GivesOne word count first false p) ps (λ p g. gives_none p g (part_of by p) refl) good) (omega arith) in
      sum ∙ omega arith

  -- nobody has the word after one
  none_next : (x : Option ℕ) → Within k x → (f : Owner → ℕ) (ps : List Owner) → EachOwner Good ps → shares word f (word_at space first k x + 1) ps ≡ []
  none_next x within f ps good =
      no_shares word f (word_at space first k x + 1) ps
      (each_owner Good (λ q. word_at space first k x + 1 ≡ word q → ⊥) ps (λ q g e. are.apart x (part_of by q) within (are.within q g) e) good)

  -- ---- what is in the words afterwards

  module _ (ps : List Owner) (good : EachOwner Good ps) (few : length ps ≤ 1024) (own own1 own2 summed own' : Memory)
      (one : (w : ℕ) → own1 w ≡ last_or (own w) (shares (λ p. word p + 1) nothing_each w ps)) (two : (w : ℕ) → own2 w ≡ last_or (own1 w) (shares (λ p. word p + 0) nothing_each w ps))
      (sum : (w : ℕ) → summed w ≡ sum_from (own2 w) (shares word count w ps)) (last : (w : ℕ) → own' w ≡ last_or (summed w) (shares (λ p. word p + 0) nothing_each w ps)) where
    closed : (x : Option ℕ) → Within k x → own1 (word_at space first k x + 1) ≡ 0 → own' (word_at space first k x + 1) ≡ 0
    closed x within e =
        let w = word_at space first k x + 1 in
        let e2 = two w ∙ stays_nought (λ p. word p + 0) w (own1 w) ps e in
        let e3 = sum w ∙ ap (sum_from (own2 w)) (none_next x within count ps good) ∙ e2 in
        last w ∙ stays_nought (λ p. word p + 0) w (summed w) ps e3

    pub waiting_rest : IsAtRest first own → IsAtRest first own'
    waiting_rest rest =
        let zero' : first + 0 ≡ first = omega arith in
        let e : own first ≡ 0 = ap own (sym zero') ∙ rest.barrier in
        let e1 = one first ∙ stays_nought (λ p. word p + 1) first (own first) ps e in
        let e2 = two first ∙ stays_nought (λ p. word p + 0) first (own1 first) ps e1 in
        let e3 = sum first ∙ counted_none (own2 first) ps good e2 few in
        let e4 = last first ∙ stays_nought (λ p. word p + 0) first (summed first) ps e3 in
        record {
          barrier = ap own' zero' ∙ e4;
          closing = closed None tt (one (first + 1) ∙ stays_nought (λ p. word p + 1) (first + 1) (own (first + 1)) ps rest.closing);
        }

    pub part_rest : (x : Option ℕ) → Within k x → IsAmong (λ p. word p + 1) (word_at space first k x + 1) ps → IsAmong (λ p. word p + 0) (word_at space first k x + 0) ps
        → IsAtRest (word_at space first k x) own'
    part_rest x within a b =
        let w = word_at space first k x in
        record {
          barrier = last (w + 0) ∙ is_cleared (λ p. word p + 0) (w + 0) (summed (w + 0)) ps b;
          closing = closed x within (one (w + 1) ∙ is_cleared (λ p. word p + 1) (w + 1) (own (w + 1)) ps a);
        }

    -- the size of a part that has a member
    pub part_size : (j : ℕ) → j < k → IsAmong (λ p. word p + 0) (word_at space first k (Some j)) ps → summed (word_at space first k (Some j)) ≡ size_of_part by ps (Some j)
    part_size j lt among =
        let w = word_at space first k (Some j) in
        sum w ∙ counted_part j lt (own2 w) ps good (two w ∙ is_cleared (λ p. word p + 0) w (own1 w) ps among) few

-- ---- one part, and two

from_some : (o : Option ℕ) (j : ℕ) → o ≡ Some j → from_bool (is_some o) ≡ 1
from_some o j e = ap (λ x. from_bool (is_some x)) e

from_none : (o : Option ℕ) → o ≡ None → from_bool (is_some o) ≡ 0
from_none o e = ap (λ x. from_bool (is_some x)) e

nought_waits : (v : ℕ) → Within 1 (if v == 0 then None else Some 0)
nought_waits zero = tt
nought_waits (suc v) = subst (λ b. Within 1 (if b then None else Some 0)) (sym (ne_eqb (suc v) 0 (λ e. omega arith))) (omega arith)

nought_enters : (v : ℕ) → Within 1 (if v == 0 then Some 0 else None)
nought_enters zero = omega arith
nought_enters (suc v) = subst (λ b. Within 1 (if b then Some 0 else None)) (sym (ne_eqb (suc v) 0 (λ e. omega arith))) tt

abbrev pub either : Bool → Option ℕ
either b = if b then Some 1 else Some 0

either_enters : (b : Bool) → Within 2 (either b)
either_enters true = omega arith
either_enters false = omega arith

pub none_waits : (b : Bool) → either b ≡ None → ⊥
none_waits true e = absurd (cc)
none_waits false e = absurd (cc)

module _ (space : Space) (first : ℕ) (is_space : IsSpace space) (low : first ≡ space.low) where
  apart_one : (x y : Option ℕ) → Within 1 x → Within 1 y → word_at space first 1 x + 1 ≡ word_at space first 1 y → ⊥
  apart_one None None a b e = omega arith
  apart_one None (Some zero) a b e = let header = is_space.header in omega arith
  apart_one (Some zero) None a b e = let header = is_space.header in omega arith
  apart_one (Some zero) (Some zero) a b e = omega arith
  apart_one (Some (suc j)) y a b e = omega arith
  apart_one x (Some (suc j)) a b e = omega arith

  differ_one : (j : ℕ) → j < 1 → first ≡ word_at space first 1 (Some j) → ⊥
  differ_one zero lt e = let header = is_space.header in omega arith
  differ_one (suc j) lt e = omega arith

  one_counted : (by : SplitKind) → ((vs : List ℕ) → Within 1 (part by vs)) → ((vs : List ℕ) → flag_by by vs ≡ from_bool (is_some (part by vs)))
      → AreCounted Each by space first 1 (λ p. flag_by by (values p.runner.has))
  one_counted by within flag = record {
    within = λ p good. within (values p.runner.has);
    one = λ p j good e. flag (values p.runner.has) ∙ from_some (part by (values p.runner.has)) j e;
    none = λ p good e. flag (values p.runner.has) ∙ from_none (part by (values p.runner.has)) e;
    apart = apart_one;
    differ = differ_one;
    same = λ j l a b e. omega arith;
  }

  pub counted_one : (by : SplitKind) → is_implicit by ≡ true → parts_label by ≡ one_part_label → AreCounted Each by space first 1 (λ p. flag_by by (values p.runner.has))
  counted_one IfAlone is label = one_counted IfAlone (λ vs. nought_waits (last vs)) (λ vs. refl)
  counted_one AndThen is label = one_counted AndThen (λ vs. nought_waits (last vs)) (λ vs. refl)
  counted_one OrElse is label = one_counted OrElse (λ vs. nought_enters (last vs)) (λ vs. refl)
  counted_one Loop is label = one_counted Loop (λ vs. omega arith) (λ vs. refl)
  counted_one IfElse is label = absurd (omega arith)
  counted_one by is label = absurd (cc)

  -- two parts that have room
  module _ (many : 40 ≤ free space) where
    apart_two : (x y : Option ℕ) → Within 2 x → Within 2 y → word_at space first 2 x + 1 ≡ word_at space first 2 y → ⊥
    apart_two None None a b e = omega arith
    apart_two None (Some zero) a b e = let header = is_space.header in omega arith
    apart_two None (Some (suc zero)) a b e = let header = is_space.header in omega arith
    apart_two (Some zero) None a b e = let header = is_space.header in omega arith
    apart_two (Some zero) (Some zero) a b e = omega arith
    apart_two (Some zero) (Some (suc zero)) a b e = omega arith
    apart_two (Some (suc zero)) None a b e = let header = is_space.header in omega arith
    apart_two (Some (suc zero)) (Some zero) a b e = omega arith
    apart_two (Some (suc zero)) (Some (suc zero)) a b e = omega arith
    apart_two (Some (suc (suc j))) y a b e = omega arith
    apart_two x (Some (suc (suc j))) a b e = omega arith

    differ_two : (j : ℕ) → j < 2 → first ≡ word_at space first 2 (Some j) → ⊥
    differ_two zero lt e = let header = is_space.header in omega arith
    differ_two (suc zero) lt e = let header = is_space.header in omega arith
    differ_two (suc (suc j)) lt e = omega arith

    same_two : (j l : ℕ) → j < 2 → l < 2 → word_at space first 2 (Some j) ≡ word_at space first 2 (Some l) → j ≡ l
    same_two zero zero a b e = refl
    same_two zero (suc zero) a b e = omega arith
    same_two (suc zero) zero a b e = omega arith
    same_two (suc zero) (suc zero) a b e = refl
    same_two (suc (suc j)) l a b e = omega arith
    same_two j (suc (suc l)) a b e = omega arith

    pub counted_two : AreCounted Each IfElse space first 2 (λ p. 1)
    counted_two = record {
      within = λ p good. either_enters (last (values p.runner.has) == 0);
      one = λ p j good e. refl;
      none = λ p good e. absurd (none_waits (last (values p.runner.has) == 0) e);
      apart = apart_two;
      differ = differ_two;
      same = same_two;
    }
