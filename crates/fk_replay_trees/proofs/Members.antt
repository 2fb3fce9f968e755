-- The members of the root, and parts that are told by lists.
use Rattle.std.proofs.Common.{◌≡◌, ℕ, zero, suc, ◌+◌, ◌<◌, true, List, [], ◌∷◌, ◌++◌, length, map, take, get_or, Option, Some, None, nat_lt, ap, sym, ◌∙◌, refl, arith}
use Rattle.std.specs.Prelude.{unwrap_or}
use Rattle.std.proofs.lemmas.Bool.{lt-ltb}
use Rattle.std.proofs.lemmas.List.{take_more, map-append}
use Rattle.std.proofs.lemmas.Option.{slice_get_read}
use Rattle.fk_tree.specs.Tree.{Tree, members, below, is_member}
use Rattle.fk_tree.specs.Sound.{IsSound}
use Rattle.fk_meaning_operation.specs.declared.operation.SplitKind.{SplitKind}
use Rattle.fk_meaning_state.specs.View.{processor_of}
use Rattle.fk_meaning.specs.Processor.{values}
use Rattle.fk_meaning.specs.Group.{part, parts}
use Rattle.fk_meaning.specs.Told.{number_of}
use Rattle.fk_meaning.specs.Round.{lowest}
use Rattle.fk_lockstep.proofs.Changes.{few}
use Rattle.fk_replay_phases.specs.declared.actor.Actor.{Actor}
use Rattle.fk_replay_trees.specs.Changes.{has_by, has_of, HaveParts}

length_below : (p : ℕ) (more : List ℕ) → length (below p more) ≡ p + length more
length_below zero more = let e : length more ≡ 0 + length more = omega arith in e
length_below (suc p) more = let e : p + suc (length more) ≡ suc p + length more = omega arith in length_below p (p ∷ more) ∙ e

-- all processors are members of the root
pub root_members : (p : ℕ) (tree : Tree) → IsSound p tree → length (members tree 0) ≡ p
root_members p tree sound = let e : p + 0 ≡ p = omega arith in ap (λ (ms : List ℕ). length ms) sound.root ∙ length_below p [] ∙ e

-- one more element of a list that is told of each
pub push_one : {B : Type 0} (f : ℕ → B) (ms : List ℕ) (i : ℕ) (items more : List B) (v : B) → i < length ms → items ≡ map f (take i ms) → more ≡ items ++ v ∷ []
    → v ≡ f (get_or ms i 0) → more ≡ map f (take (i + 1) ms)
push_one {B} f ms i items more v lt told pushed is =
    pushed ∙ ap (λ (xs : List B). xs ++ v ∷ []) told ∙ ap (λ (w : B). map f (take i ms) ++ w ∷ []) is
    ∙ sym (ap (map f) (take_more ms i 0 lt) ∙ map-append f (take i ms) (get_or ms i 0 ∷ []))

-- the processor of an actor
pub has_read : (actors : List Actor) (h : ℕ) (a : Actor) → h < length actors → a ≡ get_or actors h a → has_of actors h ≡ processor_of a.runner.processor
has_read actors h a lt is = ap has_by (slice_get_read actors (length actors) h a refl lt is)

-- as it is read again
pub has_there : (actors : List Actor) (h : ℕ) (a : Actor) → h < length actors → a ≡ get_or actors h a → has_of actors h ≡ processor_of (get_or actors h a).runner.processor
has_there actors h a lt is = has_read actors h a lt is ∙ ap (λ (x : Actor). processor_of x.runner.processor) is

pub number_is : (count : ℕ) (part : Option ℕ) → unwrap_or part count ≡ number_of count part
number_is count None = refl
number_is count (Some i) = refl

-- the members of a group go into as many parts as there are
pub below_parts : (tree : Tree) (actors : List Actor) (g : ℕ) (by : SplitKind) (k : ℕ) → HaveParts tree actors g by
    → k ≡ parts by (values (has_of actors (lowest (members tree g)))) → (h i : ℕ) → is_member h (members tree g) ≡ true
    → part by (values (has_of actors h)) ≡ Some i → nat_lt i k ≡ true
below_parts tree actors g by k have count h i has enters =
    let lt = few by (values (has_of actors h)) (values (has_of actors (lowest (members tree g)))) i (have.same h has) enters in
    lt-ltb i k (omega (arith, lt, count))
