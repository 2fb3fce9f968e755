-- All members of a group that divides, when they have counted.
use Rattle.std.proofs.Common.{◌≡◌, ℕ, ◌+◌, ◌*◌, ◌^◌, ◌<◌, ◌≤◌, List, [], ◌∷◌, length, map, Option, Some, None, sym, ap, subst, ◌∙◌, arith}
use Rattle.fk_num.specs.Word.{Memory}
use Rattle.fk_space.specs.Space.{Space}
use Rattle.fk_tree.specs.Tree.{is_in}
use Rattle.fk_meaning_operation.specs.declared.operation.SplitKind.{SplitKind}
use Rattle.fk_meaning_operation.specs.declared.operation.Operation.TheVariants.{Split}
use Rattle.fk_meaning.specs.Processor.{Setting}
use Rattle.fk_core.specs.declared.op.CoreOp.{CoreOp}
use Rattle.fk_image.specs.declared.Image.{Image}
use Rattle.fk_machine.specs.Hart.{Setting as MachineSetting}
use Rattle.fk_sim_nodes.specs.Node.{Member}
use Rattle.fk_sim_nodes.specs.OnePlace.{AllAreAt, last_or, sum_from}
use Rattle.fk_sim_block.specs.Owner.{Owner}
use Rattle.fk_sim_block.specs.Stands.{Places}
use Rattle.fk_sim_block.specs.Node.{Nestings, IsAtRest, first_word}
use Rattle.fk_sim_block.specs.Lockstep.{ComesByWay, AllComeByWay, highest_value}
use Rattle.fk_sim_block.specs.Parts.{IsToDivide, AllMove, AllRest, part_of, size_of_part, size_behind, moved}
use Rattle.fk_gen_group.specs.Splits.{split_goes_on}
use Rattle.fk_gen_group.proofs.Members.{Both}
use Rattle.fk_gen_group.proofs.Shares.{EachOwner, shares, nothing_each, IsAmong, all_are_among, few_pass}
use Rattle.fk_gen_group.proofs.PartSizes.{AreCounted, Within, word_at, waiting_rest, part_rest, part_size}
use Rattle.fk_gen_group.proofs.Committed.{moved_word}

small_size : (by : SplitKind) (ps : List Owner) (o : Option ℕ) → length ps ≤ 1024 → size_of_part by ps o < 2 ^ 32
small_size by ps None few = omega arith
small_size by ps (Some j) few = let le = few_pass (λ p. is_in j (part_of by p)) ps in omega arith

both_owners : (P Q R : Owner → Type 0) (ps : List Owner) → ((p : Owner) → P p → Q p → R p) → EachOwner P ps → EachOwner Q ps → EachOwner R ps
both_owners P Q R [] f a b = tt
both_owners P Q R (p ∷ ps) f a b = (f p a.0 b.0, both_owners P Q R ps f a.1 b.1)

module _ (core : List CoreOp) (image : Image) (places : Places) (nestings : Nestings) (i : ℕ) (op : CoreOp) (by : SplitKind) (setting : Setting) (t : MachineSetting) (first : ℕ) (ps : List Owner) where
  -- each comes to its part or to where it waits, and nobody is at the arrival words
  abbrev pub Divided : List Member → Memory → Type 0
  Divided ms' own' =
      AllMove core image places nestings i op (Split by) setting t (split_goes_on by (nestings.levels i)) (λ p. None) 0 ms' ps
      × IsAtRest first own' × AllRest own' (map (moved core i op (Split by) 0 ps) ps)

  abbrev pub size : Owner → ℕ
  size p = size_behind (Split by) ps p

  module _ (Good : Owner → Type 0) (space : Space) (k : ℕ) (count : Owner → ℕ) (are : AreCounted Good by space first k count) (few : length ps ≤ 1024) (at : ℕ) (P : Memory → Member → Owner → Type 0) where
    abbrev pub word : Owner → ℕ
    word p = word_at space first k (part_of by p)

    -- the word of its part has the size
    abbrev pub IsSized : Memory → Owner → Type 0
    IsSized summed p = (j : ℕ) → part_of by p ≡ Some j → summed (word p) ≡ size p

    -- one member comes by its way
    abbrev pub OneComes : Type 0
    OneComes =
        (summed : Memory) (m : Member) (p : Owner) → P summed m p → m.hart.pc ≡ 4 * at → IsSized summed p → size p < 2 ^ 32
        → ComesByWay core image places nestings i op (Split by) setting t (split_goes_on by (nestings.levels i)) (λ q. None) (highest_value ps) 0 size m p

    module _ (good_is : (v : Memory) (m : Member) (p : Owner) → P v m p → Good p) (divides : (v : Memory) (m : Member) (p : Owner) → P v m p → IsToDivide nestings by space k p)
        (words : (v : Memory) (m : Member) (p : Owner) → P v m p → first_word p.runner.has.level p.runner.has.outer ≡ first) (comes : OneComes) where
      all_moved : (summed : Memory) (ms : List Member) (qs : List Owner) → AllAreAt at ms → Both (P summed) ms qs → EachOwner (IsSized summed) qs
          → AllComeByWay core image places nestings i op (Split by) setting t (split_goes_on by (nestings.levels i)) (λ q. None) (highest_value ps) 0 size ms qs
      all_moved summed [] [] stand all sized = tt
      all_moved summed (m ∷ ms) (p ∷ qs) stand all sized =
          (comes summed m p all.0 stand.0 sized.0 (small_size by ps (part_of by p) few), all_moved summed ms qs stand.2 all.1 sized.1)
      all_moved summed ms qs stand all sized = absurd (assumption all)

      all_rest : (summed own' : Memory) (ms : List Member) (qs : List Owner) → Both (P summed) ms qs → EachOwner (λ p. IsAtRest (word p) own') qs
          → AllRest own' (map (moved core i op (Split by) 0 ps) qs)
      all_rest summed own' [] [] all rests = tt
      all_rest summed own' (m ∷ ms) (p ∷ qs) all rests = (
        subst (λ w. IsAtRest w own') (sym (moved_word nestings by space first k (size p) p (divides summed m p all.0) (words summed m p all.0) (part_of by p))) rests.0,
        all_rest summed own' ms qs all.1 rests.1,
      )
      all_rest summed own' ms qs all rests = absurd (assumption all)

      module _ (own own1 own2 summed own' : Memory) (one : (w : ℕ) → own1 w ≡ last_or (own w) (shares (λ p. word p + 1) nothing_each w ps))
          (two : (w : ℕ) → own2 w ≡ last_or (own1 w) (shares (λ p. word p + 0) nothing_each w ps)) (sum : (w : ℕ) → summed w ≡ sum_from (own2 w) (shares word count w ps))
          (cleared : (w : ℕ) → own' w ≡ last_or (summed w) (shares (λ p. word p + 0) nothing_each w ps)) where
        -- whatever is among the members is such
        good_of : (v : Memory) (ms : List Member) (qs : List Owner) → Both (P v) ms qs → EachOwner Good qs
        good_of v [] [] all = tt
        good_of v (m ∷ ms) (p ∷ qs) all = (good_is v m p all.0, good_of v ms qs all.1)
        good_of v ms qs all = absurd (assumption all)

        is_sized : EachOwner Good ps → (p : Owner) → Good p → IsAmong (λ q. word q + 0) (word p + 0) ps → IsSized summed p
        is_sized good p good_p among j e =
            let lt : j < k = subst (Within k) e (are.within p good_p) in
            let same : word p ≡ word_at space first k (Some j) = ap (word_at space first k) e in
            let plain : word p + 0 ≡ word p = omega arith in
            let inside = subst (λ x. IsAmong (λ q. word q + 0) x ps) (plain ∙ same) among in
            ap summed same ∙ part_size Good by space first k count are ps good few own own1 own2 summed own' one two sum cleared j lt inside ∙ ap (size_of_part by ps) (sym e)

        rests_of : EachOwner Good ps → (qs : List Owner) → EachOwner Good qs → EachOwner (λ p. IsAmong (λ q. word q + 1) (word p + 1) ps) qs → EachOwner (λ p. IsAmong (λ q. word q + 0) (word p + 0) ps) qs
            → EachOwner (λ p. IsAtRest (word p) own') qs
        rests_of good [] each a b = tt
        rests_of good (p ∷ qs) each a b =
            (part_rest Good by space first k count are ps good few own own1 own2 summed own' one two sum cleared (part_of by p) (are.within p each.0) a.0 b.0, rests_of good qs each.1 a.1 b.1)

        pub all_divided : (ms' : List Member) → AllAreAt at ms' → Both (P summed) ms' ps → IsAtRest first own → Divided ms' own'
        all_divided ms' stand all rest =
            let good = good_of summed ms' ps all in
            let barriers = all_are_among (λ q. word q + 0) ps in
            let closings = all_are_among (λ q. word q + 1) ps in (
              all_moved summed ms' ps stand all (both_owners Good (λ p. IsAmong (λ q. word q + 0) (word p + 0) ps) (IsSized summed) ps (is_sized good) good barriers),
              waiting_rest Good by space first k count are ps good few own own1 own2 summed own' one two sum cleared rest,
              all_rest summed own' ms' ps all (rests_of good ps good closings barriers),
            )
