-- What is known of those who could act, while processors come to their next operations.
use Rattle.std.specs.Prelude.{◌≡◌, ◌≢◌, ℕ, suc, ◌+◌, ◌<◌, ◌≤◌, ◌==◌, Bool, true, false, ◌&&◌, ◌||◌, List}
use Rattle.std.specs.Prelude.{[], ◌∷◌, length, Option, Some, is_some, ◌⊎◌, slice_index}
use Rattle.std.specs.Prelude.{if◌then◌else◌}
use Rattle.fk_tree.specs.declared.node.Kind.TheVariants.{Asynchronous}
use Rattle.fk_tree.specs.Tree as t
use Rattle.fk_tree.specs.Tree.{is_member}
use Rattle.fk_tree.specs.Sound.{Has, is_ascending}
use Rattle.fk_meaning_operation.specs.declared.kinds.Joint.{Joint}
use Rattle.fk_meaning_operation.specs.declared.kinds.Joint.TheVariants.{Resuming}
use Rattle.fk_meaning.specs.Processor.{Setting}
use Rattle.fk_meaning.specs.Round.{Step, State, Round, same_joint, lowest, joint_at, begin_all}
use Rattle.fk_meaning.specs.Round.{is_possible, result}
use Rattle.fk_lockstep_tree.specs.Runs.{StandsInTree}
use Rattle.fk_replay_counts.specs.Steady.{IsSteadyInTree}
use Rattle.fk_replay_able.specs.Able.{waits_for_none, step_at, joint_before, IsAble}

-- one more processor is known to be able, or all members of its node are
abbrev pub with_one : (h : ℕ) (able : ℕ → Bool) → ℕ → Bool
with_one h able m = (m == h) || able m

abbrev pub with_all : List ℕ → (able : ℕ → Bool) → ℕ → Bool
with_all members able m = is_member m members || able m

-- how many of some processors have a property
abbrev pub number_of : (has : ℕ → Bool) → List ℕ → ℕ
number_of has [] = 0
number_of has (m ∷ ms) = (if has m then 1 else 0) + number_of has ms

module _ {W : Type 0} (next : W → Option (Step W)) (s : State W) where
  -- whether a processor waits for none
  abbrev pub is_free : (h : ℕ) → Bool
  is_free h = waits_for_none (t.kind s.tree (s.tree.places h)) (joint_before next s h)

  -- whether a processor is before an operation of this joint kind, and is still to come
  abbrev pub is_before : Joint → (h : ℕ) → Bool
  is_before joint h = same_joint joint (joint_before next s h)

  abbrev pub is_coming : (coming : List ℕ) → Joint → (h : ℕ) → Bool
  is_coming coming joint h = is_member h coming && is_before joint h

  -- those who meet at a node where each acts by itself, but not to resume, are counted by its lowest
  -- member
  pub record IsCounter (h : ℕ) (joint : Joint) : Type 0 where
    pub alone : Bool
    pub kind : t.kind s.tree (s.tree.places h) ≡ Some (Asynchronous alone)
    pub lowest : h ≡ lowest (t.members s.tree (s.tree.places h))
    pub waits : waits_for_none (Some (Asynchronous alone)) joint ≡ false
    pub other : joint ≢ Resuming

  -- of those who are still to come, the processor itself is one, or it waits for others and one of
  -- them stands at its node
  pub record IsAnnounced (coming : List ℕ) (h : ℕ) : Type 0 where
    pub by : ℕ
    pub comes : is_member by coming ≡ true
    pub concerns : (by ≡ h) ⊎ ((is_free h ≡ false) × (s.tree.places by ≡ s.tree.places h))

  -- Some processors are still to come, in ascending order, and all others have come. Who is known to
  -- be able could act. Who could act is known, or announced by those to come. Those who have come
  -- are counted, and all are known who meet at one node
  pub record KnowsAble (coming : List ℕ) (able : ℕ → Bool) (arrived : ℕ → Joint → ℕ)
      : Type 0 where
    pub ascending : is_ascending coming ≡ true
    pub placed : (h : ℕ) → is_member h coming ≡ true → Has s.tree (s.tree.places h) h
    pub true_of : (h : ℕ) → able h ≡ true → IsAble next s h
    pub whole : (h : ℕ) → IsAble next s h → (able h ≡ true) ⊎ IsAnnounced coming h
    pub together : (g h : ℕ) → able g ≡ true → is_free g ≡ false
        → Has s.tree (s.tree.places g) h → able h ≡ true
    pub counted : (h : ℕ) (joint : Joint) → IsCounter h joint
        → let members = t.members s.tree (s.tree.places h) in
        arrived h joint + number_of (is_coming coming joint) members
        ≡ number_of (is_before joint) members
    pub others : (h : ℕ) (joint : Joint) → (IsCounter h joint → ⊥) → arrived h joint ≡ 0

module _ {W : Type 0} (next : W → Option (Step W)) (set : Setting) (round : Round)
    (s : State W) where
  -- the joint kind of the operation that a processor takes in a round
  abbrev pub joint_taken : (h : ℕ) → Joint
  joint_taken h = joint_at (begin_all next set round s.runners) h

  -- the lowest members of nodes do joint operations in the round
  pub record DoesLowest (h : ℕ) (joint : Joint) : Type 0 where
    pub within : 0 < slice_index round h
    pub lowest : h ≡ lowest (t.members s.tree (s.tree.places h))
    pub taken : joint ≡ joint_taken h

  -- who is in the round isn't known to be able after it, and nobody has come who waits for a joint
  -- operation that is done
  pub record AreForgotten (able able' : ℕ → Bool) (arrived arrived' : ℕ → Joint → ℕ)
      : Type 0 where
    pub absent : (h : ℕ) → slice_index round h ≡ 0 → able' h ≡ able h
    pub present : (h : ℕ) → 0 < slice_index round h → able' h ≡ false
    pub forgotten : (h : ℕ) (joint : Joint) → DoesLowest h joint → arrived' h joint ≡ 0
    pub kept : (h : ℕ) (joint : Joint) → (DoesLowest h joint → ⊥)
        → arrived' h joint ≡ arrived h joint

-- a list has those who are in a round
pub record AreInRound (round : Round) (coming : List ℕ) : Type 0 where
  pub ascending : is_ascending coming ≡ true
  pub there : (h : ℕ) → is_member h coming ≡ true → 0 < slice_index round h
  pub back : (h : ℕ) → 0 < slice_index round h → is_member h coming ≡ true

-- if nobody has come yet, nobody is known to be able
abbrev pub OpeningsKnowAble : (W X : Type 0) → Type 0
OpeningsKnowAble W X =
    (next : W → Option (Step W)) (place : W → X) (set : Setting) (s : State W) (coming : List ℕ)
    → StandsInTree next place set s → is_ascending coming ≡ true
    → ((h : ℕ) → is_member h coming ≡ true → h < set.processors)
    → ((h : ℕ) → h < set.processors → is_member h coming ≡ true)
    → KnowsAble next s coming (λ h. false) (λ h joint. 0)

-- after a possible round those are still to come who were in it
abbrev pub RoundsKnowAble : (W X : Type 0) → Type 0
RoundsKnowAble W X =
    (next : W → Option (Step W)) (place : W → X) (set : Setting) (round : Round) (s : State W)
    (coming : List ℕ) (able able' : ℕ → Bool) (arrived arrived' : ℕ → Joint → ℕ)
    → let behind = result next set round s in
    IsSteadyInTree next place set s → StandsInTree next place set behind
    → is_possible next set round s ≡ true → KnowsAble next s [] able arrived
    → AreForgotten next set round s able able' arrived arrived' → AreInRound round coming
    → KnowsAble next behind coming able' arrived'

-- what becomes known when the first of those comes who are still to come
module _ {W : Type 0} (next : W → Option (Step W)) (s : State W) (h : ℕ) (coming : List ℕ)
    (able : ℕ → Bool) (arrived : ℕ → Joint → ℕ) where
  abbrev pub members_there : List ℕ
  members_there = t.members s.tree (s.tree.places h)

  -- one more member of its node is before its operation
  pub record CountsOne (arrived' : ℕ → Joint → ℕ) : Type 0 where
    pub one : arrived' (lowest members_there) (joint_before next s h)
        ≡ suc (arrived (lowest members_there) (joint_before next s h))
    pub same : (g : ℕ) (joint : Joint)
        → ((g ≡ lowest members_there) × (joint ≡ joint_before next s h) → ⊥)
        → arrived' g joint ≡ arrived g joint

  -- It has no operation left; or it waits for none; or it resumes, and its node is ready or not; or
  -- it is the last of those who meet, or isn't
  pub record Arrives : Type 0 where
    pub ended : is_some (step_at next s h) ≡ false → KnowsAble next s coming able arrived
    pub by_itself : is_some (step_at next s h) ≡ true → is_free next s h ≡ true
        → KnowsAble next s coming (with_one h able) arrived
    pub resumes : joint_before next s h ≡ Resuming → is_free next s h ≡ false
        → t.ready s.tree (s.tree.places h) ≡ true
        → KnowsAble next s coming (with_all members_there able) arrived
    pub resumed : joint_before next s h ≡ Resuming → is_free next s h ≡ false → able h ≡ true
        → KnowsAble next s coming able arrived
    pub awaits : joint_before next s h ≡ Resuming → is_free next s h ≡ false
        → t.ready s.tree (s.tree.places h) ≡ false → KnowsAble next s coming able arrived
    pub few : joint_before next s h ≢ Resuming → is_free next s h ≡ false
        → suc (arrived (lowest members_there) (joint_before next s h)) ≤ length members_there
    pub last : (arrived' : ℕ → Joint → ℕ) → joint_before next s h ≢ Resuming
        → is_free next s h ≡ false → CountsOne arrived'
        → arrived' (lowest members_there) (joint_before next s h) ≡ length members_there
        → KnowsAble next s coming (with_all members_there able) arrived'
    pub waits : (arrived' : ℕ → Joint → ℕ) → joint_before next s h ≢ Resuming
        → is_free next s h ≡ false → CountsOne arrived'
        → arrived' (lowest members_there) (joint_before next s h) ≢ length members_there
        → KnowsAble next s coming able arrived'

abbrev pub ArrivalsKnowAble : (W X : Type 0) → Type 0
ArrivalsKnowAble W X =
    (next : W → Option (Step W)) (place : W → X) (set : Setting) (s : State W) (h : ℕ)
    (coming : List ℕ) (able : ℕ → Bool) (arrived : ℕ → Joint → ℕ)
    → StandsInTree next place set s → KnowsAble next s (h ∷ coming) able arrived
    → Arrives next s h coming able arrived
