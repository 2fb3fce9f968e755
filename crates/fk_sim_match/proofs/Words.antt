-- Control words that no node owns stay as they are: one more node, without members, owns such a word.
use Rattle.std.proofs.Common.{◌≡◌, ℕ, zero, suc, List, [], ◌∷◌, None, false, true, sym, ap, subst, ◌∙◌, refl, arith, ⊎_elim, eq-eqb}
use Rattle.std.specs.Prelude.{◌==◌, map}
use Rattle.std.proofs.lemmas.Bool.{cases_eq, ne_eqb, eqb-true, false≢true}
use Rattle.fk_num.specs.Word.{Memory}
use Rattle.fk_image.specs.declared.Image.{Image}
use Rattle.fk_machine.specs.Hart.{Hart, Shared, Setting}
use Rattle.fk_machine.specs.Cycle.{turns}
use Rattle.fk_sim_nodes.specs.Node.{Member, numbered, add, of_node, AreAsMany, Words, Has, AreApart, OwnApart}
use Rattle.fk_sim_nodes.specs.Source.{Source, Shows}
use Rattle.fk_sim_nodes.specs.Chain.{Chain}
use Rattle.fk_sim_nodes.proofs.Chains.{projected}
use Rattle.fk_sim_match.specs.Stage.{Stage}
use Rattle.fk_sim_match.specs.Plan.{Plan, Blocks, told_by, IsIdle, IsBound, JointBlocksTurn}
use Rattle.fk_sim_match.specs.Cycle.{DoneIn}
use Rattle.fk_sim_match.specs.Words.{WordsOfNobodyStay}
use Rattle.fk_sim_match.proofs.Cycles.{node_chain}

-- ---- nodes with the next numbers, since the new one has number 0

abbrev moved : List ℕ → List ℕ
moved ns = map (λ n. suc n) ns

same_number : (n g : ℕ) → (suc n == suc g) ≡ (n == g)
same_number n g =
    ⊎_elim (λ e. eq-eqb (suc n) (suc g) (ap suc e) ∙ sym (eq-eqb n g e)) (λ ne. ne_eqb (suc n) (suc g) (λ e. ne (omega (arith, e))) ∙ sym (ne_eqb n g ne)) (cases_eq n g)

nobody_there : {A : Type 0} (ns : List ℕ) (xs : List A) → of_node 0 (moved ns) xs ≡ []
nobody_there [] xs = refl
nobody_there (n ∷ ns) [] = refl
nobody_there (n ∷ ns) (x ∷ xs) = ap (λ b. add b x (of_node 0 (moved ns) xs)) (ne_eqb (suc n) 0 (λ e. omega (arith, e))) ∙ nobody_there ns xs

same_there : {A : Type 0} (g : ℕ) (ns : List ℕ) (xs : List A) → of_node g ns xs ≡ of_node (suc g) (moved ns) xs
same_there g [] xs = refl
same_there g (n ∷ ns) [] = refl
same_there g (n ∷ ns) (x ∷ xs) = ap (λ l. add (n == g) x l) (same_there g ns xs) ∙ ap (λ b. add b x (of_node (suc g) (moved ns) xs)) (sym (same_number n g))

many_there : {A B : Type 0} (ns : List ℕ) (xs : List A) (ys : List B) → AreAsMany ns xs ys → AreAsMany (moved ns) xs ys
many_there [] [] [] many = tt
many_there (n ∷ ns) (x ∷ xs) (y ∷ ys) many = many_there ns xs ys many
many_there ns xs ys many = absurd (assumption many)

-- ---- the new node

module _ {S P D : Type 0} (source : Source S P D) (image : Image) (words : ℕ → Words) (t : Setting) (sh : Shared) (word : ℕ) (After : ℕ → List Member → List D → Memory → Type 0) where
  abbrev words_with : ℕ → Words
  words_with zero = λ i. i == word
  words_with (suc g) = words g

  abbrev own_with : (ℕ → Memory) → ℕ → Memory
  own_with own zero = sh.control
  own_with own (suc g) = own g

  abbrev AfterWith : ℕ → List Member → List D → Memory → Type 0
  AfterWith zero ms ds own = own word ≡ sh.control word
  AfterWith (suc g) ms ds own = After g ms ds own

  module _ (free : (g : ℕ) → words g word ≡ false) (not_common : source.common word ≡ false) where
    nodes_apart : OwnApart words source.common → (g k : ℕ) → (g ≡ k → ⊥) → AreApart (words_with g) (words_with k)
    nodes_apart apart zero zero differ i own = absurd (differ refl)
    nodes_apart apart zero (suc k) differ i own = subst (λ j. words k j ≡ false) (sym (eqb-true i word own)) (free k)
    nodes_apart apart (suc g) zero differ i own = ne_eqb i word (λ e. false≢true (sym (free g) ∙ subst (λ j. words g j ≡ true) e own))
    nodes_apart apart (suc g) (suc k) differ i own = apart.nodes g k (λ e. differ (ap suc e)) i own

    from_common : OwnApart words source.common → (g : ℕ) → AreApart (words_with g) source.common
    from_common apart zero i own = subst (λ j. source.common j ≡ false) (sym (eqb-true i word own)) not_common
    from_common apart (suc g) i own = apart.from_common g i own

    has_with : (own : ℕ → Memory) → ((g : ℕ) → Has (words g) sh.control (own g)) → (g : ℕ) → Has (words_with g) sh.control (own_with own g)
    has_with own has zero i is = refl
    has_with own has (suc g) i is = has g i is

    module _ (ns : List ℕ) (hs : List Hart) (ps : List P) (own : ℕ → Memory)
        (chains : (g : ℕ) → Chain source image (words g) t (of_node g ns (numbered 0 hs)) (of_node g ns ps) (own g) (After g)) where
      chains_with : (g : ℕ) → Chain source image (words_with g) t (of_node g (moved ns) (numbered 0 hs)) (of_node g (moved ns) ps) (own_with own g) (AfterWith g)
      chains_with zero =
          subst (λ ms. Chain source image (words_with 0) t ms (of_node 0 (moved ns) ps) sh.control (AfterWith 0)) (sym (nobody_there ns (numbered 0 hs)))
          (subst (λ qs. Chain source image (words_with 0) t [] qs sh.control (AfterWith 0)) (sym (nobody_there ns ps)) refl)
      chains_with (suc g) =
          subst (λ ms. Chain source image (words g) t ms (of_node (suc g) (moved ns) ps) (own g) (After g)) (same_there g ns (numbered 0 hs))
          (subst (λ qs. Chain source image (words g) t (of_node g ns (numbered 0 hs)) qs (own g) (After g)) (same_there g ns ps) (chains g))

      pub word_stays : (earlier : List ℕ) (s : S) → OwnApart words source.common → AreAsMany ns hs ps → Shows source earlier sh s → ((g : ℕ) → Has (words g) sh.control (own g))
          → (turns t 0 hs sh).stop ≡ None → (turns t 0 hs sh).shared.control word ≡ sh.control word
      word_stays earlier s apart many shows has going =
          ⊎_elim (λ whole. whole.has 0 word (eq-eqb word word refl) ∙ whole.after 0) (λ cut. absurd (let e = sym going ∙ cut.stops in cc))
          (projected source image words_with t AfterWith earlier 0 (moved ns) hs ps (own_with own) sh s
          (record { nodes = λ g k differ i is. nodes_apart apart g k differ i is; from_common = λ g i is. from_common apart g i is }) (many_there ns hs ps many) shows (λ g i is. has_with own has g i is)
          chains_with)

-- ---- where a plan binds all

module _ {S P D : Type 0} (source : Source S P D) (image : Image) (plan : Plan) (blocks : Blocks P D) where
  pub plan_leaves : (t : Setting) (earlier : List ℕ) (stages : List Stage) (hs : List Hart) (ps : List P) (own : ℕ → Memory) (sh : Shared) (s : S) (word : ℕ)
      → IsIdle source blocks.idle → JointBlocksTurn source image plan blocks → OwnApart plan.words source.common
      → Shows source earlier sh s → ((g : ℕ) → Has (plan.words g) sh.control (own g)) → IsBound source image plan blocks t stages hs ps own
      → (turns t 0 hs sh).stop ≡ None → ((g : ℕ) → plan.words g word ≡ false) → source.common word ≡ false
      → (turns t 0 hs sh).shared.control word ≡ sh.control word
  plan_leaves t earlier stages hs ps own sh s word idle joint apart shows has bound going free not_common =
      word_stays source image plan.words t sh word (DoneIn source image plan blocks t stages ps own) free not_common plan.nodes hs ps own
      (λ g.
      node_chain source image plan blocks (plan.in_lockstep g) t g (of_node g plan.nodes stages) (of_node g plan.nodes (numbered 0 hs)) (of_node g plan.nodes ps) (own g) idle joint (apart.from_common g)
      (bound.binds g))
      earlier s apart bound.as_many shows has going

pub words_of_nobody_stay : (S P D : Type 0) → WordsOfNobodyStay S P D
words_of_nobody_stay S P D source image plan tests t earlier stages hs ps own sh s word idle joint apart shows has bound going free not_common =
    plan_leaves source image plan (told_by tests) t earlier stages hs ps own sh s word idle joint apart shows has bound going free not_common
