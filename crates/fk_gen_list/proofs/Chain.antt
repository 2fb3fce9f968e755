-- A chain of parts, added part by part.
use Rattle.std.proofs.Common.{◌≡◌, ◌≢◌, ℕ, zero, suc, ◌+◌, ◌-◌, ◌<◌, ◌≤◌, List, ◌++◌, length, Option, Some, None, All, inl, inr, sym, ap, subst, refl, ◌∙◌, arith, length-append}
use Rattle.std.specs.Prelude.{slice_get, slice_index_or, slice_set}
use Rattle.std.proofs.lemmas.Bool.{cases_lt}
use Rattle.std.proofs.lemmas.List.{length-set, get_or-set_same, get_or-set_other}
use Rattle.std.proofs.lemmas.List.Elements.{All-append, All-from_recursion}
use Rattle.std.proofs.lemmas.Option.{slice_get-get_or}
use Rattle.fk_asm.specs.Assembly.{Assembly, AreFollowed}
use Rattle.fk_asm.specs.Block.{MarkedLine, with_block}
use Rattle.fk_asm.proofs.Straight.{with_block-append, AreFollowed-with_block}
use Rattle.fk_gen.specs.Lines.{copy_label, clear_label, label_of}
use Rattle.fk_gen_flow.specs.Calls.{copy_lines, clear_lines, back_lines, chain_lines, most_privates}
use Rattle.fk_gen_list.specs.Layout.{copy_offset, clear_offset, copying_lines, clearing_lines, AddsChain}
use Rattle.fk_gen_list.proofs.Blocks.{length-with_block}
use Rattle.fk_gen_list.proofs.InImage.{Within, within_front, within_back}

chain-suc : (part : ℕ → List MarkedLine) (k : ℕ) → chain_lines part (suc k) ≡ part k ++ chain_lines part k
unfolding chain_lines
chain-suc part k = refl

chain-zero : (part : ℕ → List MarkedLine) → chain_lines part 0 ≡ back_lines
unfolding chain_lines
chain-zero part = refl

abbrev pub IsUnlabeled : MarkedLine → Type 0
IsUnlabeled m = m.line.label ≡ None

-- none of its lines goes to a label where none of a part does
chain_straight : (part : ℕ → List MarkedLine) → ((k : ℕ) → All IsUnlabeled (part k)) → (n : ℕ) → All IsUnlabeled (chain_lines part n)
unfolding chain_lines
chain_straight part straight zero =
    All-from_recursion IsUnlabeled (chain_lines part 0) (refl, tt)
chain_straight part straight (suc k) = All-append IsUnlabeled (part k) (chain_lines part k) (straight k) (chain_straight part straight k)

pub copying_straight : All IsUnlabeled copying_lines
copying_straight = chain_straight copy_lines (λ k. All-from_recursion IsUnlabeled (copy_lines k) (refl, (refl, tt))) most_privates

pub clearing_straight : All IsUnlabeled clearing_lines
clearing_straight = chain_straight clear_lines (λ k. All-from_recursion IsUnlabeled (clear_lines k) (refl, tt)) most_privates

-- labels, parts and where they stand: so many words for each part
pub record IsChain (label offset : ℕ → ℕ) (part : ℕ → List MarkedLine) (width : ℕ) : Type 0 where
  pub wide : (k : ℕ) → length (part k) ≡ width
  pub begins : offset most_privates ≡ 0
  pub steps : (k : ℕ) → k < most_privates → offset k ≡ offset (suc k) + width
  pub apart : (n m : ℕ) → label n ≡ label m → n ≡ m
  pub low : (n : ℕ) → n ≤ most_privates → label n < label_of 0

pub copying_chain : IsChain copy_label copy_offset copy_lines 2
copying_chain = record {
  wide = λ k. refl;
  begins = omega arith;
  steps = λ k lt. omega arith;
  apart = λ n m e. e;
  low = λ n le. omega arith;
}

pub clearing_chain : IsChain clear_label clear_offset clear_lines 1
clearing_chain = record {
  wide = λ k. refl;
  begins = omega arith;
  steps = λ k lt. omega arith;
  apart = λ n m e. omega arith;
  low = λ n le. omega arith;
}

module _ (label offset : ℕ → ℕ) (part : ℕ → List MarkedLine) (width : ℕ) (chain : IsChain label offset part width) where
  length-rest : (n : ℕ) → n ≤ most_privates → length (chain_lines part n) + offset n ≡ offset 0 + 1
  length-rest zero le = let e = ap length (chain-zero part) in omega (arith, e)
  length-rest (suc k) le =
      let rest = length-rest k (omega arith) in
      let e = ap length (chain-suc part k) in
      let sum = length-append (part k) (chain_lines part k) in
      let wide = chain.wide k in
      let step = chain.steps k (omega arith) in
      omega (arith, rest, e, sum, wide, step)

  pub length-chain : length (chain_lines part most_privates) ≡ offset 0 + 1
  length-chain = let all = length-rest most_privates (omega arith) in let begins = chain.begins in omega (arith, all, begins)

  -- no entry is past its end
  pub offset_within : (n : ℕ) → n ≤ most_privates → offset n ≤ offset 0
  offset_within zero le = omega arith
  offset_within (suc k) le =
      let before = offset_within k (omega arith) in
      let step = chain.steps k (omega arith) in
      omega (arith, before, step)

  -- ---- its parts

  below : (all : List MarkedLine) (first n : ℕ) → suc n ≤ most_privates → Within all (first + offset (suc n)) (chain_lines part (suc n)) → Within all (first + offset n) (chain_lines part n)
  below all first n le w =
      let wide = chain.wide n in
      let step = chain.steps n (omega arith) in
      let here : first + offset (suc n) + length (part n) ≡ first + offset n = omega (arith, wide, step) in
      subst (λ k. Within all k (chain_lines part n)) here
      (within_back all (part n) (chain_lines part n) (first + offset (suc n)) (subst (Within all (first + offset (suc n))) (chain-suc part n) w))

  pub part_within : (all : List MarkedLine) (first n k : ℕ) → n ≤ most_privates → Within all (first + offset n) (chain_lines part n) → k < n
      → Within all (first + offset (suc k)) (part k)
  part_within all first zero k le w lt = absurd (omega arith)
  part_within all first (suc n) k le w lt = elim (cases_lt k n) [
    | inl less ↦ part_within all first n k (omega arith) (below all first n le w) less
    | inr more ↦
        let same : n ≡ k = omega arith in
        subst (λ j. Within all (first + offset (suc j)) (part j)) same
        (within_front all (part n) (chain_lines part n) (first + offset (suc n)) (subst (Within all (first + offset (suc n))) (chain-suc part n) w))
  ]

  pub back_within : (all : List MarkedLine) (first n : ℕ) → n ≤ most_privates → Within all (first + offset n) (chain_lines part n) → Within all (first + offset 0) back_lines
  back_within all first zero le w = subst (Within all (first + offset 0)) (chain-zero part) w
  back_within all first (suc n) le w = back_within all first n (omega arith) (below all first n le w)

  -- ---- one after another

  -- so many parts are still to come
  pub record IsSoFar (left : ℕ) (old now : Assembly) : Type 0 where
    pub few : left ≤ most_privates
    pub made : with_block now (chain_lines part left) ≡ record (with_block old (chain_lines part most_privates)) { bound = now.bound }
    pub here : length now.lines ≡ length old.lines + offset left
    pub count : length now.bound ≡ length old.bound
    pub entries : (n : ℕ) → left < n → n ≤ most_privates → slice_index_or now.bound (label n) None ≡ Some (length old.lines + offset n)
    pub free : (n : ℕ) → n ≤ left → slice_index_or now.bound (label n) None ≡ None
    pub others : (other : ℕ) → ((n : ℕ) → n ≤ most_privates → other ≡ label n → ⊥) → slice_index_or now.bound other None ≡ slice_index_or old.bound other None
    pub followed : AreFollowed now

  pub at_start : (old : Assembly) → AreFollowed old
      → ((n : ℕ) → n ≤ most_privates → slice_index_or old.bound (label n) None ≡ None) → IsSoFar most_privates old old
  at_start old followed free = record {
    few = omega arith;
    made = refl;
    here = let begins = chain.begins in omega (arith, begins);
    count = refl;
    entries = λ n more few. absurd (omega arith);
    free = free;
    others = λ other none'. refl;
    followed = followed;
  }

  within : (left : ℕ) (old now : Assembly) → IsSoFar left old now → label_of 0 ≤ length old.bound → label left < length now.bound
  within left old now s enough = let c = s.count in let low = chain.low left s.few in omega (arith, c, low)

  pub unbound : (left : ℕ) (old now : Assembly) → IsSoFar left old now → label_of 0 ≤ length old.bound
      → slice_get now.bound (label left) ≡ Some None
  unbound left old now s enough =
      slice_get-get_or now.bound (label left) None (within left old now s enough) ∙ ap Some (s.free left (omega arith))

  abbrev pub binding : (left : ℕ) → Assembly → List (Option ℕ)
  binding left now = slice_set now.bound (label left) (Some (length now.lines))

  bound_other : (left other : ℕ) (now : Assembly) → other ≢ label left
      → slice_index_or (binding left now) other None ≡ slice_index_or now.bound other None
  bound_other left other now ne = get_or-set_other now.bound (label left) other (Some (length now.lines)) None ne

  bound_entries : (left n : ℕ) (old now : Assembly) → label_of 0 ≤ length old.bound → IsSoFar left old now → left ≤ n → n ≤ most_privates
      → slice_index_or (binding left now) (label n) None ≡ Some (length old.lines + offset n)
  bound_entries left n old now enough s more few = elim (cases_lt left n) [
    | inl less ↦ bound_other left (label n) now (λ e. let same = chain.apart n left e in absurd (omega (arith, same))) ∙ s.entries n less few
    | inr ge ↦
        let same : left ≡ n = omega arith in
        subst (λ k. slice_index_or (binding left now) (label k) None ≡ Some (length old.lines + offset k)) same
        (get_or-set_same now.bound (label left) (Some (length now.lines)) None (within left old now s enough) ∙ ap Some s.here)
  ]

  made_more : (k : ℕ) (old now new : Assembly) → IsSoFar (suc k) old now
      → new ≡ with_block (record now { bound = binding (suc k) now }) (part k)
      → with_block new (chain_lines part k) ≡ record (with_block old (chain_lines part most_privates)) { bound = binding (suc k) now }
  made_more k old now new s added =
      let bound = binding (suc k) now in
      ap (λ a. with_block a (chain_lines part k)) added
      ∙ with_block-append (record now { bound = bound }) (part k) (chain_lines part k)
      ∙ ap (with_block (record now { bound = bound })) (sym (chain-suc part k))
      ∙ ap (λ (a : Assembly). record a { bound = bound }) s.made

  pub one_more : (k : ℕ) (old now mid new : Assembly) → label_of 0 ≤ length old.bound
      → mid ≡ record now { bound = binding (suc k) now } → new ≡ with_block mid (part k)
      → IsSoFar (suc k) old now → IsSoFar k old new
  one_more k old now mid new enough begun added s =
      let all : new ≡ with_block (record now { bound = binding (suc k) now }) (part k) = added ∙ ap (λ a. with_block a (part k)) begun in
      let bound : new.bound ≡ binding (suc k) now = ap (λ a. a.bound) all in
      let few = s.few in
      record {
        few = omega arith;
        made = made_more k old now new s all
            ∙ ap (λ (l : List (Option ℕ)). record (with_block old (chain_lines part most_privates)) { bound = l }) (sym bound);
        here =
            let grown = ap (λ a. length a.lines) all ∙ length-with_block (record now { bound = binding (suc k) now }) (part k) in
            let before = s.here in
            let wide = chain.wide k in
            let step = chain.steps k (omega arith) in
            omega (arith, grown, before, wide, step);
        count = ap length bound ∙ length-set now.bound (label (suc k)) (Some (length now.lines)) ∙ s.count;
        entries = λ n more few. ap (λ l. slice_index_or l (label n) None) bound ∙ bound_entries (suc k) n old now enough s (omega arith) few;
        free = λ n less. ap (λ l. slice_index_or l (label n) None) bound
            ∙ bound_other (suc k) (label n) now (λ e. let same = chain.apart n (suc k) e in absurd (omega (arith, same))) ∙ s.free n (omega arith);
        others = λ other none'. ap (λ l. slice_index_or l other None) bound
            ∙ bound_other (suc k) other now (λ e. none' (suc k) few e) ∙ s.others other none';
        followed = subst AreFollowed (sym all) (AreFollowed-with_block (record now { bound = binding (suc k) now }) (part k) s.followed);
      }

  -- by the number of those that were added
  pub next_added : (n k at : ℕ) (old now mid new : Assembly) → n < most_privates → k ≡ most_privates - 1 - n → at ≡ label (suc k)
      → label_of 0 ≤ length old.bound
      → mid ≡ record now { bound = slice_set now.bound at (Some (length now.lines)) } → new ≡ with_block mid (part k)
      → IsSoFar (most_privates - n) old now → IsSoFar (most_privates - (n + 1)) old new
  next_added n k at old now mid new lt same labelled enough begun added s =
      let here : most_privates - n ≡ suc k = omega arith in
      let next : k ≡ most_privates - (n + 1) = omega arith in
      subst (λ left. IsSoFar left old new) next
      (one_more k old now mid new enough
      (begun ∙ ap (λ (l : ℕ). record now { bound = slice_set now.bound l (Some (length now.lines)) }) labelled) added
      (subst (λ left. IsSoFar left old now) here s))

  -- the label of the next one
  pub next_free : (n k at : ℕ) (old now : Assembly) → n < most_privates → k ≡ most_privates - 1 - n → at ≡ label (suc k) → label_of 0 ≤ length old.bound
      → IsSoFar (most_privates - n) old now → slice_get now.bound at ≡ Some None
  next_free n k at old now lt same labelled enough s =
      let here : most_privates - n ≡ suc k = omega arith in
      subst (λ l. slice_get now.bound l ≡ Some None) (sym labelled)
      (unbound (suc k) old now (subst (λ left. IsSoFar left old now) here s) enough)

  pub none_left : (n : ℕ) (old now : Assembly) → most_privates ≤ n → IsSoFar (most_privates - n) old now → IsSoFar 0 old now
  none_left n old now le s = let zero' : most_privates - n ≡ 0 = omega arith in subst (λ left. IsSoFar left old now) zero' s

  pub at_end : (old now mid new : Assembly) → label_of 0 ≤ length old.bound
      → mid ≡ record now { bound = binding 0 now } → new ≡ with_block mid back_lines
      → IsSoFar 0 old now → AddsChain label offset part old new
  at_end old now mid new enough begun added s =
      let bound' = binding 0 now in
      let all : new ≡ with_block (record now { bound = bound' }) back_lines = added ∙ ap (λ a. with_block a back_lines) begun in
      let bound : new.bound ≡ bound' = ap (λ a. a.bound) all in
      record {
        made =
            all
            ∙ ap (with_block (record now { bound = bound' })) (sym (chain-zero part))
            ∙ ap (λ (a : Assembly). record a { bound = bound' }) s.made
            ∙ ap (λ (l : List (Option ℕ)). record (with_block old (chain_lines part most_privates)) { bound = l }) (sym bound);
        count = ap length bound ∙ length-set now.bound (label 0) (Some (length now.lines)) ∙ s.count;
        entries = λ n few. ap (λ l. slice_index_or l (label n) None) bound ∙ bound_entries 0 n old now enough s (omega arith) few;
        others = λ other none'. ap (λ l. slice_index_or l other None) bound
            ∙ bound_other 0 other now (λ e. none' 0 (omega arith) e) ∙ s.others other none';
      }
