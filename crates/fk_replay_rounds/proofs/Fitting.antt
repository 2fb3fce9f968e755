-- If each processor of a round fits to the lowest member of its node, and the lowest member to all,
-- then all of them fit.
use Rattle.std.proofs.Common.{◌≡◌, ◌≢◌, ℕ, zero, suc, ◌+◌, ◌-◌, ◌<◌, ◌≤◌, Bool, true, false, ◌&&◌, ◌||◌, ◌⊎◌, inl, inr, List, [], ◌∷◌, Option, Some, None, ap, refl, sym, ◌∙◌, subst, arith}
use Rattle.std.specs.Prelude.{◌==◌, nat_lt, nat_le, slice_index, if◌then◌else◌, is_none}
use Rattle.std.specs.List.{list_all}
use Rattle.fk_tree.specs.Tree as t
use Rattle.fk_tree.specs.Tree.{is_member, is_from, have_ended, has_ended}
use Rattle.fk_tree.specs.Sound.{IsSound, Has, awaits, is_ascending, is_below_all}
use Rattle.fk_tree.specs.declared.node.Kind.{Kind}
use Rattle.fk_tree.specs.declared.node.Kind.TheVariants.{Lockstep, Waiting, Asynchronous}
use Rattle.fk_meaning_operation.specs.declared.kinds.Joint.{Joint}
use Rattle.fk_meaning_operation.specs.declared.kinds.Joint.TheVariants.{Alone, Starting, AtBarrier, Closing, Resuming}
use Rattle.fk_meaning.specs.Round.{Round, same_joint, lowest, body_of}
use Rattle.fk_replay_rounds.specs.declared.mode.Mode.TheVariants.{Apart}
use Rattle.fk_replay_rounds.specs.Modes.{mode_of}
use Rattle.fk_replay_rounds.specs.Fits.{one_joins, all_join, all_have, joins_below, fits_kind_below, all_fit_below, joins_lowest, joins_by, fits_by, AreThere, FitByLowest, IsFitByLowest, LowestMembersTell}

and_true : (a b : Bool) → a && b ≡ true → (a ≡ true) × (b ≡ true)
and_true true b e = (refl, e)
and_true false b e = absurd (let bad : false ≡ true = e in cc)

both : (a b : Bool) → a ≡ true → b ≡ true → a && b ≡ true
both a b e f = ap (λ x. x && b) e ∙ f

bool_cases : (b : Bool) → (b ≡ true) ⊎ (b ≡ false)
bool_cases true = inl refl
bool_cases false = inr refl

eq_of : (a b : ℕ) → (a == b) ≡ true → a ≡ b
eq_of a b e = grind arith

eq_to : (a b : ℕ) → a ≡ b → (a == b) ≡ true
eq_to a b e = grind arith

lt_false : (a b : ℕ) → b ≤ a → nat_lt a b ≡ false
lt_false a b le = grind arith

pub list_all_at : (P : ℕ → Bool) (ms : List ℕ) (h : ℕ) → list_all P ms ≡ true → is_member h ms ≡ true → P h ≡ true
list_all_at P [] h all is = absurd (let bad : false ≡ true = is in cc)
list_all_at P (m ∷ ms) h all is = by (bool_cases (h == m)) (λ later. list_all_at P ms h (and_true (P m) (list_all P ms) all).1 later)
  where
    by : ((h == m) ≡ true) ⊎ ((h == m) ≡ false) → (is_member h ms ≡ true → P h ≡ true) → P h ≡ true
    by (inl e) more = ap P (eq_of h m e) ∙ (and_true (P m) (list_all P ms) all).0
    by (inr e) more = more (sym (ap (λ (b : Bool). b || is_member h ms) e) ∙ is)

-- ---- members

pub member_lowest : (ms : List ℕ) (h : ℕ) → is_member h ms ≡ true → is_member (lowest ms) ms ≡ true
member_lowest [] h is = absurd (let bad : false ≡ true = is in cc)
member_lowest (m ∷ ms) h is = ap (λ (b : Bool). b || is_member m ms) (eq_to m m refl)

above_all : (m : ℕ) (ms : List ℕ) (h : ℕ) → is_below_all m ms ≡ true → is_member h ms ≡ true → m < h
above_all m [] h below is = absurd (let bad : false ≡ true = is in cc)
above_all m (g ∷ gs) h below is = by (bool_cases (h == g)) (λ later. above_all m gs h (and_true (nat_lt m g) (is_below_all m gs) below).1 later)
  where
    parts : (nat_lt m g ≡ true) × (is_below_all m gs ≡ true)
    parts = and_true (nat_lt m g) (is_below_all m gs) below

    less : (a b : ℕ) → nat_lt a b ≡ true → a < b
    less a b e = grind arith

    by : ((h == g) ≡ true) ⊎ ((h == g) ≡ false) → (is_member h gs ≡ true → m < h) → m < h
    by (inl e) more = let same = eq_of h g e in let l = less m g parts.0 in omega arith
    by (inr e) more = more (sym (ap (λ (b : Bool). b || is_member h gs) e) ∙ is)

pub lowest_below : (ms : List ℕ) (h : ℕ) → is_ascending ms ≡ true → is_member h ms ≡ true → lowest ms ≤ h
lowest_below [] h up is = absurd (let bad : false ≡ true = is in cc)
lowest_below (m ∷ ms) h up is = by (bool_cases (h == m))
  where
    by : ((h == m) ≡ true) ⊎ ((h == m) ≡ false) → m ≤ h
    by (inl e) = let same = eq_of h m e in omega arith
    by (inr e) = let l = above_all m ms h (and_true (is_below_all m ms) (is_ascending ms) up).0 (sym (ap (λ (b : Bool). b || is_member h ms) e) ∙ is) in omega arith

-- a node none of whose parts is left has all its members at it
pub record IsLeaf (tree : t.Tree) (n : ℕ) : Type 0 where
  pub none : (m : ℕ) → awaits (t.kind tree n) m ≡ true → tree.nodes m ≡ None

pub member_there : (p : ℕ) (tree : t.Tree) → IsSound p tree → (n g : ℕ) → IsLeaf tree n → Has tree n g → tree.places g ≡ n
member_there p tree sound n g leaf has = sym (sound.only g n (record { member = has; own = own }))
  where
    living : (m : ℕ) → Has tree m g → tree.nodes m ≢ None
    living m is none = absurd (let bad : false ≡ true = sym (ap (λ node. is_member g (t.members_of node)) none) ∙ is in cc)

    own : (m : ℕ) → m ≢ 0 → t.parent tree m ≡ n → Has tree m g → ⊥
    own m apart above is = living m is (leaf.none m (ap (λ (k : ℕ). awaits (t.kind tree k) m) (sym above) ∙ sound.awaited m apart (living m is)))

pub leaf_lockstep : (tree : t.Tree) (n : ℕ) → t.kind tree n ≡ Some Lockstep → IsLeaf tree n
leaf_lockstep tree n e = record { none = λ m is. absurd (let bad : false ≡ true = sym (ap (λ k. awaits k m) e) ∙ is in cc) }

pub leaf_alone : (tree : t.Tree) (n : ℕ) (alone : Bool) → t.kind tree n ≡ Some (Asynchronous alone) → IsLeaf tree n
leaf_alone tree n alone e = record { none = λ m is. absurd (let bad : false ≡ true = sym (ap (λ k. awaits k m) e) ∙ is in cc) }

ended_one : (tree : t.Tree) (first parts k : ℕ) → have_ended tree first parts ≡ true → k < parts → tree.nodes (first + k) ≡ None
ended_one tree first zero k e lt = absurd (let z : ⊥ = omega arith in z)
ended_one tree first (suc j) k e lt = by (or_last k j lt) (λ low. ended_one tree first j k (and_true (has_ended tree (first + j)) (have_ended tree first j) e).1 low)
  where
    parts_of : (has_ended tree (first + j) ≡ true) × (have_ended tree first j ≡ true)
    parts_of = and_true (has_ended tree (first + j)) (have_ended tree first j) e

    or_last : (k j : ℕ) → k < suc j → (k < j) ⊎ (k ≡ j)
    or_last k j lt = grind arith

    none : (o : Option t.Node) → is_none o ≡ true → o ≡ None
    none None is = refl
    none (Some node) is = absurd (let bad : false ≡ true = is in cc)

    by : (k < j) ⊎ (k ≡ j) → (k < j → tree.nodes (first + k) ≡ None) → tree.nodes (first + k) ≡ None
    by (inl low) more = more low
    by (inr same) more = ap (λ (i : ℕ). tree.nodes (first + i)) same ∙ none (tree.nodes (first + j)) parts_of.0

pub leaf_ready : (tree : t.Tree) (n : ℕ) → t.ready tree n ≡ true → IsLeaf tree n
leaf_ready tree n ready = by (t.kind tree n) refl
  where
    from_of : (first parts m : ℕ) → is_from first parts m ≡ true → (k : ℕ) × (k < parts) × (m ≡ first + k)
    from_of first parts m e =
        let both_are = and_true (nat_le first m) (nat_lt m (first + parts)) e in
        let low : first ≤ m = le first m both_are.0 in
        let high : m < first + parts = less m (first + parts) both_are.1 in
        (m - first, omega arith, omega arith)
      where
        le : (a b : ℕ) → nat_le a b ≡ true → a ≤ b
        le a b e = grind arith

        less : (a b : ℕ) → nat_lt a b ≡ true → a < b
        less a b e = grind arith

    by : (k : Option Kind) → t.kind tree n ≡ k → IsLeaf tree n
    by None e = absurd (let bad : false ≡ true = sym (ap (t.is_ready tree) e) ∙ ready in cc)
    by (Some Lockstep) e = leaf_lockstep tree n e
    by (Some (Asynchronous alone)) e = leaf_alone tree n alone e
    by (Some (Waiting first parts)) e = record {
      none = λ m is.
          let from = from_of first parts m (sym (ap (λ k. awaits k m) e) ∙ is) in
          ap tree.nodes from.2 ∙ ended_one tree first parts from.0 (sym (ap (t.is_ready tree) e) ∙ ready) from.1;
    }

-- ---- fitting

pub same_of : (i j : Joint) → same_joint i j ≡ true → j ≡ i
same_of Alone Alone e = refl
same_of Starting Starting e = refl
same_of AtBarrier AtBarrier e = refl
same_of Closing Closing e = refl
same_of Resuming Resuming e = refl
same_of i j e = absurd (let bad : false ≡ true = e in cc)

module _ (round : Round) (last : ℕ) (joint : ℕ → Joint) (tree : t.Tree) (p : ℕ) (there : AreThere round last joint tree p) where
  at_node : (h : ℕ) → 0 < slice_index round h → Has tree (tree.places h) h
  at_node h is = (there.sound.placed h (there.within h is)).member

  low : ℕ → ℕ
  low n = lowest (t.members tree n)

  low_has : (h : ℕ) → 0 < slice_index round h → Has tree (tree.places h) (lowest (t.members tree (tree.places h)))
  low_has h is = member_lowest (t.members tree (tree.places h)) h (at_node h is)

  low_below : (h : ℕ) → 0 < slice_index round h → lowest (t.members tree (tree.places h)) ≤ last
  low_below h is =
      let le = lowest_below (t.members tree (tree.places h)) h (there.sound.ascending (tree.places h)) (at_node h is) in
      let high = there.low h is in
      omega arith

  -- who is not above the last one joins with count 1
  joins_of : (j : Joint) (h : ℕ) → h ≤ last → one_joins round last joint j h ≡ true → (slice_index round h ≡ 1) × (joint h ≡ j)
  joins_of j h le e =
      let parts = and_true (nat_lt last h || (slice_index round h == 1)) (same_joint j (joint h)) e in
      (eq_of (slice_index round h) 1 (sym (ap (λ (b : Bool). b || (slice_index round h == 1)) (lt_false last h le)) ∙ parts.0), same_of j (joint h) parts.1)

  -- ---- from the lowest member to all

  -- the lowest member stands at the same node
  record IsLow (h : ℕ) : Type 0 where
    there_too : tree.places (lowest (t.members tree (tree.places h))) ≡ tree.places h

  low_at : (h : ℕ) → 0 < slice_index round h → IsLeaf tree (tree.places h) → IsLow h
  low_at h is leaf = record { there_too = member_there p tree there.sound (tree.places h) (lowest (t.members tree (tree.places h))) leaf (low_has h is) }

  -- the test of the lowest member, at this node
  at_low : (fit : FitByLowest round last joint tree) (h : ℕ) → IsLow h → 0 < slice_index round (lowest (t.members tree (tree.places h)))
      → fits_by round last joint tree (lowest (t.members tree (tree.places h))) (tree.places h) (mode_of (t.kind tree (tree.places h))) ≡ true
  at_low fit h is some =
      subst (λ (n : ℕ). fits_by round last joint tree (lowest (t.members tree (tree.places h))) n (mode_of (t.kind tree n)) ≡ true) is.there_too
      (fit.each (lowest (t.members tree (tree.places h))) some)

  group_all : (h n : ℕ) → (lowest (t.members tree n) == lowest (t.members tree n)) ≡ true → fits_by round last joint tree (lowest (t.members tree n)) n (mode_of (Some Lockstep)) ≡ true
      → all_have round last (slice_index round (lowest (t.members tree n))) (t.members tree n) ≡ true
  group_all h n self e =
      sym (ap (λ (b : Bool). if b then all_have round last (slice_index round (lowest (t.members tree n))) (t.members tree n) else (slice_index round (lowest (t.members tree n)) == slice_index round (lowest (t.members tree n)))) self) ∙ e

  group_fits : (fit : FitByLowest round last joint tree) (h : ℕ) → 0 < slice_index round h → t.kind tree (tree.places h) ≡ Some Lockstep → fits_kind_below round last joint tree h (tree.places h) (Some Lockstep) ≡ true
  group_fits fit h is kind = by (bool_cases (h == lowest members))
    where
      n : ℕ
      n = tree.places h

      members : List ℕ
      members = t.members tree (tree.places h)

      own : fits_by round last joint tree h (tree.places h) (mode_of (Some Lockstep)) ≡ true
      own = subst (λ k. fits_by round last joint tree h (tree.places h) (mode_of k) ≡ true) kind (fit.each h is)

      by : ((h == lowest (t.members tree (tree.places h))) ≡ true) ⊎ ((h == lowest (t.members tree (tree.places h))) ≡ false) → all_have round last (slice_index round h) (t.members tree (tree.places h)) ≡ true
      by (inl e) =
          sym (ap (λ (b : Bool). if b then all_have round last (slice_index round h) (t.members tree (tree.places h)) else (slice_index round (lowest (t.members tree (tree.places h))) == slice_index round h)) e) ∙ own
      by (inr e) =
          let count : slice_index round (lowest (t.members tree (tree.places h))) ≡ slice_index round h =
          eq_of _ _ (sym (ap (λ (b : Bool). if b then all_have round last (slice_index round h) (t.members tree (tree.places h)) else (slice_index round (lowest (t.members tree (tree.places h))) == slice_index round h)) e) ∙ own) in
          let at = low_at h is (leaf_lockstep tree (tree.places h) kind) in
          let lows = subst (λ k. fits_by round last joint tree (lowest (t.members tree (tree.places h))) (tree.places h) (mode_of k) ≡ true) kind (at_low fit h at (omega arith)) in
          subst (λ (c : ℕ). all_have round last c (t.members tree (tree.places h)) ≡ true) count
          (group_all h (tree.places h) (eq_to _ _ refl) lows)

  -- an operation of all members
  lowest_all : (j : Joint) (n : ℕ) → joins_lowest round last joint tree (lowest (t.members tree n)) n j ≡ true → all_join round last joint j (t.members tree n) ≡ true
  lowest_all j n e =
      sym (ap (λ (b : Bool). if b then all_join round last joint j (t.members tree n) else one_joins round last joint j (lowest (t.members tree n))) (eq_to (lowest (t.members tree n)) (lowest (t.members tree n)) refl)) ∙ e

  -- what the test of the lowest member says, once it is known to join
  LowTest : Joint → ℕ → Type 0
  LowTest j h = (slice_index round (lowest (t.members tree (tree.places h))) ≡ 1) → joint (lowest (t.members tree (tree.places h))) ≡ j → joins_lowest round last joint tree (lowest (t.members tree (tree.places h))) (tree.places h) j ≡ true

  joins_all : (j : Joint) (h : ℕ) → 0 < slice_index round h → joins_lowest round last joint tree h (tree.places h) j ≡ true
      → ((slice_index round (lowest (t.members tree (tree.places h))) ≡ 1) → joint (lowest (t.members tree (tree.places h))) ≡ j → joins_lowest round last joint tree (lowest (t.members tree (tree.places h))) (tree.places h) j ≡ true)
      → all_join round last joint j (t.members tree (tree.places h)) ≡ true
  joins_all j h is e test = by (bool_cases (h == lowest (t.members tree (tree.places h))))
    where
      by : ((h == lowest (t.members tree (tree.places h))) ≡ true) ⊎ ((h == lowest (t.members tree (tree.places h))) ≡ false) → all_join round last joint j (t.members tree (tree.places h)) ≡ true
      by (inl same) = sym (ap (λ (b : Bool). if b then all_join round last joint j (t.members tree (tree.places h)) else one_joins round last joint j (lowest (t.members tree (tree.places h)))) same) ∙ e
      by (inr other) =
          let one : one_joins round last joint j (lowest (t.members tree (tree.places h))) ≡ true = sym (ap (λ (b : Bool). if b then all_join round last joint j (t.members tree (tree.places h)) else one_joins round last joint j (lowest (t.members tree (tree.places h)))) other) ∙ e in
          let has = joins_of j (lowest (t.members tree (tree.places h))) (low_below h is) one in
          lowest_all j (tree.places h) (test has.0 has.1)

  -- the test of the lowest member at a node of these kinds, for an operation that it does
  test_at : (fit : FitByLowest round last joint tree) (h : ℕ) (is_alone : Bool) → IsLow h
      → (fits_by round last joint tree (lowest (t.members tree (tree.places h))) (tree.places h) (mode_of (t.kind tree (tree.places h))) ≡ joins_by round last joint tree (lowest (t.members tree (tree.places h))) (tree.places h) is_alone (joint (lowest (t.members tree (tree.places h)))))
      → (j : Joint) → (slice_index round (lowest (t.members tree (tree.places h))) ≡ 1) → joint (lowest (t.members tree (tree.places h))) ≡ j
      → joins_by round last joint tree (lowest (t.members tree (tree.places h))) (tree.places h) is_alone j ≡ true
  test_at fit h is_alone at shape j one does =
      ap (joins_by round last joint tree (lowest (t.members tree (tree.places h))) (tree.places h) is_alone) (sym does) ∙ sym shape ∙ at_low fit h at (omega arith)

  -- at a node whose members run by themselves or wait
  apart_fits : (fit : FitByLowest round last joint tree) (h : ℕ) (kind : Option Kind) → 0 < slice_index round h → t.kind tree (tree.places h) ≡ kind → mode_of kind ≡ Apart
      → ((j : Joint) → (j ≡ Resuming → ⊥) → joint h ≡ j → (j ≡ Alone → ⊥) → IsLeaf tree (tree.places h)) → (t.ready tree (tree.places h) ≡ true → IsLeaf tree (tree.places h))
      → body_of kind (t.members tree (tree.places h)) ≡ t.members tree (tree.places h)
      → joins_below round last joint tree (tree.places h) (joint h) ≡ true
  apart_fits fit h kind is kind_is mode leaf ready_leaf body = by (joint h) refl
    where
      own : joins_by round last joint tree h (tree.places h) false (joint h) ≡ true
      own = subst (λ m. fits_by round last joint tree h (tree.places h) m ≡ true) (ap mode_of kind_is ∙ mode) (fit.each h is)

      shape : fits_by round last joint tree (lowest (t.members tree (tree.places h))) (tree.places h) (mode_of (t.kind tree (tree.places h))) ≡ joins_by round last joint tree (lowest (t.members tree (tree.places h))) (tree.places h) false (joint (lowest (t.members tree (tree.places h))))
      shape = ap (fits_by round last joint tree (lowest (t.members tree (tree.places h))) (tree.places h)) (ap mode_of kind_is ∙ mode)

      own_at : (j : Joint) → joint h ≡ j → joins_by round last joint tree h (tree.places h) false j ≡ true
      own_at j e = ap (joins_by round last joint tree h (tree.places h) false) (sym e) ∙ own

      all_body : t.kind tree (tree.places h) ≡ kind → body_of (t.kind tree (tree.places h)) (t.members tree (tree.places h)) ≡ t.members tree (tree.places h)
      all_body e = ap (λ k. body_of k (t.members tree (tree.places h))) e ∙ body

      by : (j : Joint) → joint h ≡ j → joins_below round last joint tree (tree.places h) (joint h) ≡ true
      by Alone e = ap (joins_below round last joint tree (tree.places h)) e
      by Starting e = ap (joins_below round last joint tree (tree.places h)) e
          ∙ joins_all Starting h is (own_at Starting e) (test_at fit h false (low_at h is (leaf Starting (λ z. cc) e (λ z. cc))) shape Starting)
      by Closing e = ap (joins_below round last joint tree (tree.places h)) e
          ∙ joins_all Closing h is (own_at Closing e) (test_at fit h false (low_at h is (leaf Closing (λ z. cc) e (λ z. cc))) shape Closing)
      by AtBarrier e = ap (joins_below round last joint tree (tree.places h)) e
          ∙ ap (all_join round last joint AtBarrier) (all_body kind_is)
          ∙ joins_all AtBarrier h is (own_at AtBarrier e) (test_at fit h false (low_at h is (leaf AtBarrier (λ z. cc) e (λ z. cc))) shape AtBarrier)
      by Resuming e =
          let parts = and_true (t.ready tree (tree.places h)) (joins_lowest round last joint tree h (tree.places h) Resuming) (own_at Resuming e) in
          ap (joins_below round last joint tree (tree.places h)) e
          ∙ both (t.ready tree (tree.places h)) (all_join round last joint Resuming (t.members tree (tree.places h))) parts.0
          (joins_all Resuming h is parts.1 (λ one does. (and_true (t.ready tree (tree.places h)) (joins_lowest round last joint tree (lowest (t.members tree (tree.places h))) (tree.places h) Resuming)
          (test_at fit h false (low_at h is (ready_leaf parts.0)) shape Resuming one does)).1))

  -- in the body of a `seq`
  alone_fits : (fit : FitByLowest round last joint tree) (h : ℕ) → 0 < slice_index round h → t.kind tree (tree.places h) ≡ Some (Asynchronous true)
      → joins_below round last joint tree (tree.places h) (joint h) ≡ true
  alone_fits fit h is kind_is = by (joint h) refl
    where
      own : joins_by round last joint tree h (tree.places h) true (joint h) ≡ true
      own = subst (λ k. fits_by round last joint tree h (tree.places h) (mode_of k) ≡ true) kind_is (fit.each h is)

      shape : fits_by round last joint tree (lowest (t.members tree (tree.places h))) (tree.places h) (mode_of (t.kind tree (tree.places h))) ≡ joins_by round last joint tree (lowest (t.members tree (tree.places h))) (tree.places h) true (joint (lowest (t.members tree (tree.places h))))
      shape = ap (λ k. fits_by round last joint tree (lowest (t.members tree (tree.places h))) (tree.places h) (mode_of k)) kind_is

      own_at : (j : Joint) → joint h ≡ j → joins_by round last joint tree h (tree.places h) true j ≡ true
      own_at j e = ap (joins_by round last joint tree h (tree.places h) true) (sym e) ∙ own

      at : IsLow h
      at = low_at h is (leaf_alone tree (tree.places h) true kind_is)

      first_of : (ms : List ℕ) → is_member (lowest ms) ms ≡ true → t.runs (Asynchronous true) ms ≡ lowest ms ∷ []
      first_of [] e = absurd (let bad : false ≡ true = e in cc)
      first_of (m ∷ ms) e = refl

      body : body_of (t.kind tree (tree.places h)) (t.members tree (tree.places h)) ≡ lowest (t.members tree (tree.places h)) ∷ []
      body = ap (λ k. body_of k (t.members tree (tree.places h))) kind_is ∙ first_of (t.members tree (tree.places h)) (low_has h is)

      by : (j : Joint) → joint h ≡ j → joins_below round last joint tree (tree.places h) (joint h) ≡ true
      by Alone e = ap (joins_below round last joint tree (tree.places h)) e
      by Starting e = ap (joins_below round last joint tree (tree.places h)) e ∙ joins_all Starting h is (own_at Starting e) (test_at fit h true at shape Starting)
      by Closing e = ap (joins_below round last joint tree (tree.places h)) e ∙ joins_all Closing h is (own_at Closing e) (test_at fit h true at shape Closing)
      by AtBarrier e = ap (joins_below round last joint tree (tree.places h)) e ∙ ap (all_join round last joint AtBarrier) body
          ∙ both (one_joins round last joint AtBarrier (lowest (t.members tree (tree.places h)))) true (own_at AtBarrier e) refl
      by Resuming e =
          let ready : t.ready tree (tree.places h) ≡ false = ap (t.is_ready tree) kind_is in
          absurd (let bad : false ≡ true = sym ready ∙ (and_true (t.ready tree (tree.places h)) (joins_lowest round last joint tree h (tree.places h) Resuming) (own_at Resuming e)).0 in cc)

  each_fits : (fit : FitByLowest round last joint tree) (h : ℕ) → 0 < slice_index round h → fits_kind_below round last joint tree h (tree.places h) (t.kind tree (tree.places h)) ≡ true
  each_fits fit h is = by (t.kind tree (tree.places h)) refl
    where
      by : (k : Option Kind) → t.kind tree (tree.places h) ≡ k → fits_kind_below round last joint tree h (tree.places h) (t.kind tree (tree.places h)) ≡ true
      by None e = ap (fits_kind_below round last joint tree h (tree.places h)) e
          ∙ apart_fits fit h None is e refl (λ j z does w. absurd (none e)) (leaf_ready tree (tree.places h)) (absurd (none e))
        where
          none : t.kind tree (tree.places h) ≡ None → ⊥
          none e = no_kind (tree.nodes (tree.places h)) (at_node h is) e
            where
              no_kind : (node : Option t.Node) → is_member h (t.members_of node) ≡ true → t.kind_of node ≡ None → ⊥
              no_kind None m k = absurd (let bad : false ≡ true = m in cc)
              no_kind (Some node) m k = absurd (let bad : Some node.kind ≡ None = k in cc)
      by (Some Lockstep) e = ap (fits_kind_below round last joint tree h (tree.places h)) e ∙ group_fits fit h is e
      by (Some (Waiting first parts)) e = ap (fits_kind_below round last joint tree h (tree.places h)) e
          ∙ apart_fits fit h (Some (Waiting first parts)) is e refl (λ j z does w. absurd (z (sym does ∙ there.waits h first parts is e))) (leaf_ready tree (tree.places h)) refl
      by (Some (Asynchronous false)) e = ap (fits_kind_below round last joint tree h (tree.places h)) e
          ∙ apart_fits fit h (Some (Asynchronous false)) is e refl (λ j z does w. leaf_alone tree (tree.places h) false e) (leaf_ready tree (tree.places h)) refl
      by (Some (Asynchronous true)) e = ap (fits_kind_below round last joint tree h (tree.places h)) e ∙ alone_fits fit h is e

  -- ---- from all to the lowest member

  low_of_all : (j : Joint) (h : ℕ) → 0 < slice_index round h → all_join round last joint j (t.members tree (tree.places h)) ≡ true → joins_lowest round last joint tree h (tree.places h) j ≡ true
  low_of_all j h is all = by (bool_cases (h == lowest (t.members tree (tree.places h))))
    where
      by : ((h == lowest (t.members tree (tree.places h))) ≡ true) ⊎ ((h == lowest (t.members tree (tree.places h))) ≡ false) → joins_lowest round last joint tree h (tree.places h) j ≡ true
      by (inl e) = ap (λ (b : Bool). if b then all_join round last joint j (t.members tree (tree.places h)) else one_joins round last joint j (lowest (t.members tree (tree.places h)))) e ∙ all
      by (inr e) = ap (λ (b : Bool). if b then all_join round last joint j (t.members tree (tree.places h)) else one_joins round last joint j (lowest (t.members tree (tree.places h)))) e
          ∙ list_all_at (one_joins round last joint j) (t.members tree (tree.places h)) (lowest (t.members tree (tree.places h))) all (low_has h is)

  group_back : (h : ℕ) → 0 < slice_index round h → all_have round last (slice_index round h) (t.members tree (tree.places h)) ≡ true → fits_by round last joint tree h (tree.places h) (mode_of (Some Lockstep)) ≡ true
  group_back h is all = by (bool_cases (h == lowest (t.members tree (tree.places h))))
    where
      by : ((h == lowest (t.members tree (tree.places h))) ≡ true) ⊎ ((h == lowest (t.members tree (tree.places h))) ≡ false) → fits_by round last joint tree h (tree.places h) (mode_of (Some Lockstep)) ≡ true
      by (inl e) = ap (λ (b : Bool). if b then all_have round last (slice_index round h) (t.members tree (tree.places h)) else (slice_index round (lowest (t.members tree (tree.places h))) == slice_index round h)) e ∙ all
      by (inr e) =
          let one : (nat_lt last (lowest (t.members tree (tree.places h))) || (slice_index round (lowest (t.members tree (tree.places h))) == slice_index round h)) ≡ true =
          list_all_at (λ (m : ℕ). nat_lt last m || (slice_index round m == slice_index round h)) (t.members tree (tree.places h)) (lowest (t.members tree (tree.places h))) all (low_has h is) in
          ap (λ (b : Bool). if b then all_have round last (slice_index round h) (t.members tree (tree.places h)) else (slice_index round (lowest (t.members tree (tree.places h))) == slice_index round h)) e
          ∙ (sym (ap (λ (b : Bool). b || (slice_index round (lowest (t.members tree (tree.places h))) == slice_index round h)) (lt_false last (lowest (t.members tree (tree.places h))) (low_below h is))) ∙ one)

  joins_back : (h : ℕ) (kind : Option Kind) → 0 < slice_index round h → t.kind tree (tree.places h) ≡ kind → (is_alone : Bool)
      → (is_alone ≡ false → body_of kind (t.members tree (tree.places h)) ≡ t.members tree (tree.places h)) → (is_alone ≡ true → is_member (lowest (t.members tree (tree.places h))) (body_of kind (t.members tree (tree.places h))) ≡ true)
      → (j : Joint) → joins_below round last joint tree (tree.places h) j ≡ true → joins_by round last joint tree h (tree.places h) is_alone j ≡ true
  joins_back h kind is kind_is is_alone body low_in Alone e = refl
  joins_back h kind is kind_is is_alone body low_in Starting e = low_of_all Starting h is e
  joins_back h kind is kind_is is_alone body low_in Closing e = low_of_all Closing h is e
  joins_back h kind is kind_is is_alone body low_in Resuming e =
      let parts = and_true (t.ready tree (tree.places h)) (all_join round last joint Resuming (t.members tree (tree.places h))) e in
      both (t.ready tree (tree.places h)) (joins_lowest round last joint tree h (tree.places h) Resuming) parts.0 (low_of_all Resuming h is parts.1)
  joins_back h kind is kind_is true body low_in AtBarrier e =
      list_all_at (one_joins round last joint AtBarrier) (body_of kind (t.members tree (tree.places h))) (lowest (t.members tree (tree.places h)))
      (ap (λ k. all_join round last joint AtBarrier (body_of k (t.members tree (tree.places h)))) (sym kind_is) ∙ e) (low_in refl)
  joins_back h kind is kind_is false body low_in AtBarrier e =
      low_of_all AtBarrier h is (ap (all_join round last joint AtBarrier) (sym (body refl)) ∙ ap (λ k. all_join round last joint AtBarrier (body_of k (t.members tree (tree.places h)))) (sym kind_is) ∙ e)

  each_back : (h : ℕ) → 0 < slice_index round h → fits_kind_below round last joint tree h (tree.places h) (t.kind tree (tree.places h)) ≡ true → fits_by round last joint tree h (tree.places h) (mode_of (t.kind tree (tree.places h))) ≡ true
  each_back h is fits = by (t.kind tree (tree.places h)) refl
    where
      fits_at : (k : Option Kind) → t.kind tree (tree.places h) ≡ k → fits_kind_below round last joint tree h (tree.places h) k ≡ true
      fits_at k e = ap (fits_kind_below round last joint tree h (tree.places h)) (sym e) ∙ fits

      as_mode : (k : Option Kind) → t.kind tree (tree.places h) ≡ k → fits_by round last joint tree h (tree.places h) (mode_of k) ≡ true → fits_by round last joint tree h (tree.places h) (mode_of (t.kind tree (tree.places h))) ≡ true
      as_mode k e z = ap (λ x. fits_by round last joint tree h (tree.places h) (mode_of x)) e ∙ z

      low_first : (ms : List ℕ) → is_member (lowest ms) ms ≡ true → is_member (lowest ms) (t.runs (Asynchronous true) ms) ≡ true
      low_first [] e = absurd (let bad : false ≡ true = e in cc)
      low_first (m ∷ ms) e = ap (λ (b : Bool). b || false) (eq_to m m refl)

      by : (k : Option Kind) → t.kind tree (tree.places h) ≡ k → fits_by round last joint tree h (tree.places h) (mode_of (t.kind tree (tree.places h))) ≡ true
      by None e = absurd (no_kind (tree.nodes (tree.places h)) (at_node h is) e)
        where
          no_kind : (node : Option t.Node) → is_member h (t.members_of node) ≡ true → t.kind_of node ≡ None → ⊥
          no_kind None m k = absurd (let bad : false ≡ true = m in cc)
          no_kind (Some node) m k = absurd (let bad : Some node.kind ≡ None = k in cc)
      by (Some Lockstep) e = as_mode (Some Lockstep) e (group_back h is (fits_at (Some Lockstep) e))
      by (Some (Waiting first parts)) e = as_mode (Some (Waiting first parts)) e
          (joins_back h (Some (Waiting first parts)) is e false (λ z. refl) (λ z. absurd (let bad : false ≡ true = z in cc)) (joint h) (fits_at (Some (Waiting first parts)) e))
      by (Some (Asynchronous false)) e = as_mode (Some (Asynchronous false)) e
          (joins_back h (Some (Asynchronous false)) is e false (λ z. refl) (λ z. absurd (let bad : false ≡ true = z in cc)) (joint h) (fits_at (Some (Asynchronous false)) e))
      by (Some (Asynchronous true)) e = as_mode (Some (Asynchronous true)) e
          (joins_back h (Some (Asynchronous true)) is e true (λ z. absurd (let bad : true ≡ false = z in cc)) (λ z. low_first (t.members tree (tree.places h)) (low_has h is)) (joint h) (fits_at (Some (Asynchronous true)) e))

  -- ---- all processors

  all_from : (first : ℕ) (counts : List ℕ) → ((k : ℕ) → 0 < slice_index counts k → fits_kind_below round last joint tree (first + k) (tree.places (first + k)) (t.kind tree (tree.places (first + k))) ≡ true)
      → all_fit_below round last joint tree first counts ≡ true
  all_from first [] each = refl
  all_from first (zero ∷ counts) each = all_from (suc first) counts (λ k is. subst (λ (m : ℕ). fits_kind_below round last joint tree m (tree.places m) (t.kind tree (tree.places m)) ≡ true) (let e : first + suc k ≡ suc first + k = omega arith in e) (each (suc k) is))
  all_from first (suc c ∷ counts) each =
      both (fits_kind_below round last joint tree first (tree.places first) (t.kind tree (tree.places first))) (all_fit_below round last joint tree (suc first) counts)
      (subst (λ (m : ℕ). fits_kind_below round last joint tree m (tree.places m) (t.kind tree (tree.places m)) ≡ true) (let e : first + 0 ≡ first = omega arith in e) (each 0 (omega arith)))
      (all_from (suc first) counts (λ k is. subst (λ (m : ℕ). fits_kind_below round last joint tree m (tree.places m) (t.kind tree (tree.places m)) ≡ true) (let e : first + suc k ≡ suc first + k = omega arith in e) (each (suc k) is)))

  one_of : (first : ℕ) (counts : List ℕ) → all_fit_below round last joint tree first counts ≡ true → (k : ℕ) → 0 < slice_index counts k
      → fits_kind_below round last joint tree (first + k) (tree.places (first + k)) (t.kind tree (tree.places (first + k))) ≡ true
  one_of first [] all zero is = absurd (let z : ⊥ = omega arith in z)
  one_of first [] all (suc k) is = absurd (let z : ⊥ = omega arith in z)
  one_of first (zero ∷ counts) all zero is = absurd (let z : ⊥ = omega arith in z)
  one_of first (zero ∷ counts) all (suc k) is = subst (λ (m : ℕ). fits_kind_below round last joint tree m (tree.places m) (t.kind tree (tree.places m)) ≡ true) (let e : suc first + k ≡ first + suc k = omega arith in e) (one_of (suc first) counts all k is)
  one_of first (suc c ∷ counts) all zero is = subst (λ (m : ℕ). fits_kind_below round last joint tree m (tree.places m) (t.kind tree (tree.places m)) ≡ true) (let e : first ≡ first + 0 = omega arith in e)
      (and_true (fits_kind_below round last joint tree first (tree.places first) (t.kind tree (tree.places first))) (all_fit_below round last joint tree (suc first) counts) all).0
  one_of first (suc c ∷ counts) all (suc k) is = subst (λ (m : ℕ). fits_kind_below round last joint tree m (tree.places m) (t.kind tree (tree.places m)) ≡ true) (let e : suc first + k ≡ first + suc k = omega arith in e)
      (one_of (suc first) counts (and_true (fits_kind_below round last joint tree first (tree.places first) (t.kind tree (tree.places first))) (all_fit_below round last joint tree (suc first) counts) all).1 k is)

  pub is_fit : IsFitByLowest round last joint tree
  is_fit = record {
    there = λ fit. all_from 0 round (λ k is. subst (λ (m : ℕ). fits_kind_below round last joint tree m (tree.places m) (t.kind tree (tree.places m)) ≡ true) (let e : k ≡ 0 + k = omega arith in e) (each_fits fit k is));
    back = λ all. record { each = λ h is. each_back h is (subst (λ (m : ℕ). fits_kind_below round last joint tree m (tree.places m) (t.kind tree (tree.places m)) ≡ true) (let e : 0 + h ≡ h = omega arith in e) (one_of 0 round all h is)) };
  }

pub tell : LowestMembersTell
tell round last joint tree p there = is_fit round last joint tree p there
