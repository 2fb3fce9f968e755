-- The whole round of which a round is left that has its first fault at its last processor.
use Rattle.std.proofs.Common.{◌≡◌, ⊎_elim, ℕ, zero, suc, ◌+◌, ◌<◌, ◌≤◌, ◌==◌, ◌&&◌, ◌||◌, Bool, true, false, List, [], ◌∷◌, length, slice_get, Option, Some, None, nat_lt, is_some, refl, sym, ap, ap₂, ◌∙◌, subst, arith, if◌then◌else◌}
use Rattle.std.specs.Prelude.{slice_index}
use Rattle.std.proofs.lemmas.Bool.{cases_lt, and_parts, and_from, eqb-true, eq-eqb, lt-ltb, le-ltb, ltb-true}
use Rattle.fk_meaning_operation.specs.Kinds.{class_of, joint_of}
use Rattle.fk_meaning_operation.specs.declared.operation.Operation.{Operation}
use Rattle.fk_meaning_operation.specs.declared.operation.Operation.TheVariants.{Resume}
use Rattle.fk_meaning_operation.specs.declared.kinds.Joint.{Joint}
use Rattle.fk_meaning_operation.specs.declared.kinds.Joint.TheVariants.{Alone, Starting, AtBarrier, Closing, Resuming}
use Rattle.fk_meaning_store.specs.Store.{Store}
use Rattle.fk_tree.specs.declared.node.Kind.{Kind}
use Rattle.fk_tree.specs.declared.node.Kind.TheVariants.{Lockstep, Waiting, Asynchronous}
use Rattle.fk_tree.specs.Tree as t
use Rattle.fk_tree.specs.Tree.{is_member}
use Rattle.fk_tree.specs.Sound.{Has}
use Rattle.fk_meaning.specs.Processor.{Setting}
use Rattle.fk_meaning.specs.Round.{Step, Runner, State, Fault, Round, Acting, Phase, Passes, Breaks, cut, request_phase, after_phase, all_requests, lowest, joint_due, joint_at, same_joint, body_of, all_do, joins, fits_kind, fits, all_fit, is_local, local_phase, after_one, after_locals, begin, begin_all, all_locals, result, is_local_next, are_local, may_act, all_may_act, IsStopped}
use Rattle.fk_meaning.proofs.Stopped.{phase_fault}
use Rattle.fk_replay_rounds.specs.Fits.{all_have, one_joins, all_join, joins_below, fits_kind_below, fits_below}
use Rattle.fk_replay_rounds.specs.Stops.{joint_next, joint_up_to, IsTogether, FaultsLast, FaultsOfTheLastStop}
use Rattle.fk_replay_rounds.proofs.Fitting.{list_all_at, lowest_below, member_lowest, same_of, IsLeaf, member_there, leaf_lockstep, leaf_alone, leaf_ready}
use Rattle.fk_replay_stops.proofs.Places.{untrue, or_not, all_members, within, fit_each, below_at, may_at, may_each, same_length, joint_with, joint_is, one_is_next, up_low, up_high}
use Rattle.fk_replay_stops.proofs.Back.{back}

-- whether a joint operation of the lowest member needs all other members of a node
abbrev pub needs : Joint → Option Kind → Bool
needs Alone kind = false
needs AtBarrier (Some (Asynchronous true)) = false
needs AtBarrier kind = true
needs Starting kind = true
needs Closing kind = true
needs Resuming kind = true

abbrev pub once_if : Bool → ℕ
once_if true = 1
once_if false = 0

once_is : (b : Bool) (c : ℕ) → once_if b ≡ suc c → (b ≡ true) × (suc c ≡ 1)
once_is true c e = (refl, sym e)
once_is false c e = absurd (cc)

-- a list in which those above a last place have counts of their own
abbrev pub extend : (last : ℕ) → (extra : ℕ → ℕ) → (h : ℕ) → Round → Round
extend last extra h [] = []
extend last extra h (c ∷ round) = (if nat_lt last h then extra h else c) ∷ extend last extra (suc h) round

extended : (last : ℕ) (extra : ℕ → ℕ) (h : ℕ) (round : Round) → length (extend last extra h round) ≡ length round
extended last extra h [] = refl
extended last extra h (c ∷ round) = ap (λ (n : ℕ). suc n) (extended last extra (suc h) round)

extend_at : (last : ℕ) (extra : ℕ → ℕ) (h : ℕ) (round : Round) (j : ℕ) → j < length round
    → slice_index (extend last extra h round) j ≡ (if nat_lt last (h + j) then extra (h + j) else slice_index round j)
extend_at last extra h [] j lt = absurd (omega arith)
extend_at last extra h (c ∷ round) zero lt = let same : h ≡ h + 0 = omega arith in ap (λ (i : ℕ). if nat_lt last i then extra i else c) same
extend_at last extra h (c ∷ round) (suc j) lt =
    let same : suc h + j ≡ h + suc j = omega arith in
    extend_at last extra (suc h) round j (omega arith) ∙ ap (λ (i : ℕ). if nat_lt last i then extra i else slice_index round j) same

cut_zeros : (last : ℕ) (extra : ℕ → ℕ) (h : ℕ) (round : Round) → ((j : ℕ) → slice_index round j ≡ 0) → cut zero (extend last extra h round) ≡ round
cut_zeros last extra h [] none = refl
cut_zeros last extra h (c ∷ round) none =
    ap₂ (λ (x : ℕ) (xs : Round). x ∷ xs) (sym (none 0)) (cut_zeros last extra (suc h) round (λ j. none (suc j)))

cut_extended : (last : ℕ) (extra : ℕ → ℕ) (first h : ℕ) (round : Round) → h + first ≡ suc last → ((j : ℕ) → first ≤ j → slice_index round j ≡ 0)
    → cut first (extend last extra h round) ≡ round
cut_extended last extra zero h round e none = cut_zeros last extra h round (λ j. none j (omega arith))
cut_extended last extra (suc n) h [] e none = refl
cut_extended last extra (suc n) h (c ∷ round) e none =
    let le : h ≤ last = omega (arith, e) in
    ap₂ (λ (x : ℕ) (xs : Round). x ∷ xs) (ap (λ (b : Bool). if b then extra h else c) (le-ltb last h le))
    (cut_extended last extra n (suc h) round (omega (arith, e)) (λ j lt. none (suc j) (omega (arith, lt))))

module _ {W : Type 0} (next : W → Option (Step W)) (set : Setting) where
  -- ---- the fault of a whole round is that of what is left of it
  abbrev requests : ℕ → Round → List (Runner W) → Store → Option Fault
  requests number round rs s = (all_requests number (all_locals next set (begin_all next set round rs)) s).fault

  abbrev acted : ℕ → Runner W → Acting W
  acted c r = let b = begin next set c r in local_phase next set b b.due

  abbrev served : ℕ → Round → List (Runner W) → Store → Acting W → Phase W → Option Fault
  served number round rs s a phase =
      (after_phase number s a (all_locals next set (begin_all next set round rs)) (all_requests (suc number) (all_locals next set (begin_all next set round rs))) phase).fault

  none_asks : (first number : ℕ) (round : Round) (rs : List (Runner W)) (s : Store) → first ≡ 0 → requests number (cut first round) rs s ≡ None
  none_asks zero number [] rs s e = refl
  none_asks zero number (c ∷ round) [] s e = refl
  none_asks zero number (c ∷ round) (r ∷ rs) s e = none_asks zero (suc number) round rs s refl
  none_asks (suc n) number round rs s e = absurd (omega arith)

  fault_of : (f g : Fault) → Some f ≡ Some g → f ≡ g
  fault_of f g e = cc

  again : (above number : ℕ) (round : Round) (rs : List (Runner W)) (s : Store) (f : Fault) → f.processor ≡ number + above
      → requests number (cut (suc above) round) rs s ≡ Some f → requests number round rs s ≡ Some f
  again above number [] rs s f is e = e
  again above number (c ∷ round) [] s f is e = e
  again above number (c ∷ round) (r ∷ rs) s f is e =
      by (λ k s' is' e'. again k (suc number) round rs s' f is' e') (request_phase s (acted c r) (acted c r).due) refl
    where
      later : ((k : ℕ) (s' : Store) → f.processor ≡ suc number + k → requests (suc number) (cut (suc k) round) rs s' ≡ Some f → requests (suc number) round rs s' ≡ Some f)
          → (k : ℕ) → above ≡ k → (s' : Store) → requests (suc number) (cut k round) rs s' ≡ Some f → requests (suc number) round rs s' ≡ Some f
      later more zero same s' e' = let none = none_asks zero (suc number) round rs s' refl in absurd (let bad : Some f ≡ None = sym e' ∙ none in cc)
      later more (suc k) same s' e' =
          let processor = f.processor in
          let next_one : processor ≡ suc number + k = omega (arith, is, same) in
          more k s' next_one e'

      by : ((k : ℕ) (s' : Store) → f.processor ≡ suc number + k → requests (suc number) (cut (suc k) round) rs s' ≡ Some f → requests (suc number) round rs s' ≡ Some f)
          → (phase : Phase W) → request_phase s (acted c r) (acted c r).due ≡ phase → requests number (c ∷ round) (r ∷ rs) s ≡ Some f
      by more (Passes s' a') p =
          let behind : requests (suc number) (cut above round) rs s' ≡ Some f = sym (ap (served number (cut above round) rs s (acted c r)) p) ∙ e in
          ap (served number round rs s (acted c r)) p ∙ later more above refl s' behind
      by more (Breaks site) p = ap (served number round rs s (acted c r)) p ∙ sym (ap (served number (cut above round) rs s (acted c r)) p) ∙ e

  -- ---- the whole round
  module _ (s : State W) (round : Round) (fault : Fault) (known : IsTogether next set s) (faults : FaultsLast next set round s fault) where
    abbrev tree : t.Tree
    tree = s.tree

    abbrev last : ℕ
    last = fault.processor

    abbrev rs : List (Runner W)
    rs = s.runners

    abbrev joint : ℕ → Joint
    joint = joint_up_to next set round rs fault.processor

    abbrev ms : ℕ → List ℕ
    ms n = t.members tree n

    abbrev low : ℕ → ℕ
    low n = lowest (t.members tree n)

    -- what the lowest member of a node asks of one above the last processor
    abbrev is_needed : ℕ → Option Kind → Bool
    is_needed n kind = ((tree.places (low n) == n) && nat_lt 0 (slice_index round (low n))) && needs (joint (low n)) kind

    abbrev extra_by : ℕ → Option Kind → ℕ
    extra_by n (Some Lockstep) = slice_index round (low n)
    extra_by n kind = once_if (is_needed n kind)

    abbrev extra : ℕ → ℕ
    extra h = extra_by (tree.places h) (t.kind tree (tree.places h))

    abbrev whole : Round
    whole = extend fault.processor extra 0 round

    abbrev takes : ℕ → Joint
    takes = joint_at (begin_all next set whole rs)

    long : length round ≡ length rs
    long = same_length next set round rs faults.may

    long_whole : length whole ≡ length rs
    long_whole = extended fault.processor extra 0 round ∙ long

    there : (h : ℕ) → h < length rs → (q : Runner W) × (slice_get rs h ≡ Some q)
    there h lt = at rs h lt
      where
        at : (xs : List (Runner W)) (i : ℕ) → i < length xs → (q : Runner W) × (slice_get xs i ≡ Some q)
        at [] i lt' = absurd (omega arith)
        at (x ∷ xs) zero lt' = (x, refl)
        at (x ∷ xs) (suc i) lt' = at xs i (omega arith)

    count_low : (h : ℕ) → h < length rs → h ≤ fault.processor → slice_index whole h ≡ slice_index round h
    count_low h lt le =
        let here : 0 + h ≡ h = omega arith in
        extend_at fault.processor extra 0 round h (omega (arith, lt, long))
        ∙ ap (λ (b : Bool). if b then extra (0 + h) else slice_index round h) (le-ltb fault.processor (0 + h) (omega (arith, le)))

    count_high : (h : ℕ) → h < length rs → fault.processor < h → slice_index whole h ≡ extra h
    count_high h lt above =
        let here : 0 + h ≡ h = omega arith in
        extend_at fault.processor extra 0 round h (omega (arith, lt, long))
        ∙ ap (λ (b : Bool). if b then extra (0 + h) else slice_index round h) (lt-ltb fault.processor (0 + h) (omega (arith, above))) ∙ ap extra here

    takes_low : (h : ℕ) → h < length rs → h ≤ fault.processor → takes h ≡ joint h
    takes_low h lt le =
        joint_is next set whole rs h ∙ ap (λ (c : ℕ). joint_with next set c (slice_get rs h)) (count_low h lt le) ∙ sym (up_low next set round rs fault.processor h le)

    takes_high : (h : ℕ) → fault.processor < h → slice_index whole h ≡ 1 → takes h ≡ joint h
    takes_high h above one =
        joint_is next set whole rs h ∙ ap (λ (c : ℕ). joint_with next set c (slice_get rs h)) one ∙ one_is_next next set (slice_get rs h)
        ∙ sym (up_high next set round rs fault.processor h above)

    -- ---- members
    many : length rs ≡ set.processors
    many = known.many

    member_at : (n m : ℕ) → Has tree n m → m < length rs
    member_at n m has = let lt = known.sound.within n m has in omega (arith, lt, many)

    own_member : (h : ℕ) → h < length rs → Has tree (tree.places h) h
    own_member h lt = let p = known.sound.placed h (omega (arith, lt, many)) in p.member

    low_member : (n h : ℕ) → Has tree n h → Has tree n (low n)
    low_member n h has = member_lowest (ms n) h has

    low_under : (n h : ℕ) → Has tree n h → low n ≤ h
    low_under n h has = lowest_below (ms n) h (known.sound.ascending n) has

    placed : (n m : ℕ) → IsLeaf tree n → Has tree n m → tree.places m ≡ n
    placed n m leaf has = member_there set.processors tree known.sound n m leaf has

    -- who is in the round isn't above its last processor
    in_round : (h c : ℕ) → slice_index round h ≡ suc c → h ≤ fault.processor
    in_round h c e = ⊎_elim (λ lt. absurd (let bad : 0 ≡ suc c = sym (faults.last h lt) ∙ e in omega arith)) (λ le. le) (cases_lt fault.processor h)

    in_runners : (h c : ℕ) → slice_index round h ≡ suc c → h < length rs
    in_runners h c e = let lt = within round h c e in omega (arith, lt, long)

    some_count : (n : ℕ) → nat_lt 0 n ≡ true → (c : ℕ) × (n ≡ suc c)
    some_count zero e = absurd (let bad = ltb-true 0 0 e in omega arith)
    some_count (suc c) e = (c, refl)

    -- what fits below
    own_below : (h c : ℕ) → slice_index round h ≡ suc c
        → fits_kind_below round fault.processor joint tree h (tree.places h) (t.kind tree (tree.places h)) ≡ true
    own_below h c e =
        let here : 0 + h ≡ h = omega arith in
        subst (λ (k : ℕ). fits_below round fault.processor joint tree h k ≡ true) e
        (subst (λ (i : ℕ). fits_below round fault.processor joint tree i (slice_index round h) ≡ true) here
        (below_at round fault.processor joint tree 0 round h faults.fits))

    -- ---- a group in lockstep
    group_counts : (n h c : ℕ) → t.kind tree n ≡ Some Lockstep → tree.places h ≡ n → slice_index round h ≡ suc c → (m : ℕ) → Has tree n m
        → slice_index whole m ≡ slice_index round h
    group_counts n h c is at e m has =
        let lt = member_at n m has in
        let own : all_have round fault.processor (slice_index round h) (ms n) ≡ true
        = subst (λ (k : Option Kind). fits_kind_below round fault.processor joint tree h n k ≡ true) is
        (subst (λ (k : ℕ). fits_kind_below round fault.processor joint tree h k (t.kind tree k) ≡ true) at (own_below h c e)) in
        let same_low : (k : ℕ) → Has tree n k → k ≤ fault.processor → slice_index round k ≡ slice_index round h
        = λ k has' le. eqb-true (slice_index round k) (slice_index round h)
        (or_not (nat_lt fault.processor k) (slice_index round k == slice_index round h) (le-ltb fault.processor k le)
        (list_all_at (λ i. nat_lt fault.processor i || (slice_index round i == slice_index round h)) (ms n) k own has')) in
        ⊎_elim
        (λ above.
        let there_is = placed n m (leaf_lockstep tree n is) has in
        let has_h : Has tree n h = subst (λ (k : ℕ). Has tree k h) at (own_member h (in_runners h c e)) in
        let under = low_under n h has_h in
        let bound = in_round h c e in
        count_high m lt above ∙ ap (λ (k : ℕ). extra_by k (t.kind tree k)) there_is ∙ ap (extra_by n) is
        ∙ same_low (low n) (low_member n h has_h) (omega (arith, under, bound)))
        (λ le. count_low m lt le ∙ same_low m has le)
        (cases_lt fault.processor m)

    group_fits : (n g : ℕ) (count : ℕ) → ((m : ℕ) → Has tree n m → slice_index whole m ≡ count) → slice_index whole g ≡ count
        → fits_kind whole takes tree g n (Some Lockstep) ≡ true
    group_fits n g count each own =
        all_members (λ m. slice_index whole m == slice_index whole g) (ms n) (λ m has. eq-eqb (slice_index whole m) (slice_index whole g) (each m has ∙ sym own))

    -- ---- a joint operation
    -- one in which the lowest member takes part, at a node whose members all stand there
    record IsJoined (n : ℕ) (kind : Option Kind) (j : Joint) : Type 0 where
      is : t.kind tree n ≡ kind
      leaf : IsLeaf tree n
      plain : (h : ℕ) → extra_by h kind ≡ once_if (is_needed h kind)
      under : low n ≤ fault.processor
      has_low : Has tree n (low n)

    joins_one : (n : ℕ) (kind : Option Kind) (j : Joint) → IsJoined n kind j → (some : List ℕ) → ((m : ℕ) → is_member m some ≡ true → Has tree n m)
        → is_member (low n) some ≡ true → ((m : ℕ) → is_member m some ≡ true → fault.processor < m → needs j kind ≡ true)
        → all_join round fault.processor joint j some ≡ true → (m : ℕ) → is_member m some ≡ true → (slice_index whole m ≡ 1) × (takes m ≡ j)
    joins_one n kind j x some inside low_in asked e m has =
        let test : (k : ℕ) → is_member k some ≡ true → ((nat_lt fault.processor k || (slice_index round k == 1)) ≡ true) × (joint k ≡ j)
        = λ k in_some.
        let both = and_parts (nat_lt fault.processor k || (slice_index round k == 1)) (same_joint j (joint k)) (list_all_at (one_joins round fault.processor joint j) some k e in_some) in
        (both.0, same_of j (joint k) both.1) in
        let count : (k : ℕ) → is_member k some ≡ true → k ≤ fault.processor → slice_index round k ≡ 1
        = λ k in_some le. eqb-true (slice_index round k) 1
        (or_not (nat_lt fault.processor k) (slice_index round k == 1) (le-ltb fault.processor k le) (test k in_some).0) in
        let lt = member_at n m (inside m has) in
        ⊎_elim
        (λ above.
        let lows = count (low n) low_in x.under in
        let needed : is_needed n kind ≡ true
        = and_from ((tree.places (low n) == n) && nat_lt 0 (slice_index round (low n))) (needs (joint (low n)) kind)
        (and_from (tree.places (low n) == n) (nat_lt 0 (slice_index round (low n))) (eq-eqb (tree.places (low n)) n (placed n (low n) x.leaf x.has_low))
        (ap (nat_lt 0) lows))
        (ap (λ (i : Joint). needs i kind) (test (low n) low_in).1 ∙ asked m has above) in
        let one : slice_index whole m ≡ 1
        = count_high m lt above ∙ ap (λ (k : ℕ). extra_by k (t.kind tree k)) (placed n m x.leaf (inside m has)) ∙ ap (extra_by n) x.is ∙ x.plain n
        ∙ ap once_if needed in
        (one, takes_high m above one ∙ (test m has).1))
        (λ le. (count_low m lt le ∙ count m has le, takes_low m lt le ∙ (test m has).1))
        (cases_lt fault.processor m)

    same_itself : (j : Joint) → same_joint j j ≡ true
    same_itself Alone = refl
    same_itself Starting = refl
    same_itself AtBarrier = refl
    same_itself Closing = refl
    same_itself Resuming = refl

    joins_all : (n : ℕ) (kind : Option Kind) (j : Joint) → IsJoined n kind j → (some : List ℕ) → ((m : ℕ) → is_member m some ≡ true → Has tree n m)
        → is_member (low n) some ≡ true → ((m : ℕ) → is_member m some ≡ true → fault.processor < m → needs j kind ≡ true)
        → all_join round fault.processor joint j some ≡ true → all_do whole takes j some ≡ true
    joins_all n kind j x some inside low_in asked e =
        all_members (λ m. (slice_index whole m == 1) && same_joint j (takes m)) some
        (λ m has.
        let one = joins_one n kind j x some inside low_in asked e m has in
        and_from (slice_index whole m == 1) (same_joint j (takes m)) (eq-eqb (slice_index whole m) 1 one.0) (ap (same_joint j) one.1 ∙ same_itself j))

    -- those in the body of a node
    body_alone : (members : List ℕ) (h : ℕ) → is_member h members ≡ true → body_of (Some (Asynchronous true)) members ≡ lowest members ∷ []
    body_alone [] h is = untrue is
    body_alone (m ∷ members) h is = refl

    only_one : (a m : ℕ) → is_member m (a ∷ []) ≡ true → m ≡ a
    only_one a m is = eqb-true m a (first (m == a) is)
      where
        first : (b : Bool) → (b || false) ≡ true → b ≡ true
        first true e = refl
        first false e = e

    itself : (a : ℕ) → is_member a (a ∷ []) ≡ true
    itself a = ap (λ (b : Bool). b || false) (eq-eqb a a refl)

    -- a barrier in a body that all members run, or in one that the lowest runs
    barrier : (n : ℕ) (kind : Option Kind) → IsJoined n kind AtBarrier → all_join round fault.processor joint AtBarrier (body_of kind (ms n)) ≡ true
        → all_do whole takes AtBarrier (body_of kind (ms n)) ≡ true
    barrier n None x e = refl
    barrier n (Some Lockstep) x e = joins_all n (Some Lockstep) AtBarrier x (ms n) (λ m has. has) x.has_low (λ m has above. refl) e
    barrier n (Some (Waiting first parts)) x e = joins_all n (Some (Waiting first parts)) AtBarrier x (ms n) (λ m has. has) x.has_low (λ m has above. refl) e
    barrier n (Some (Asynchronous false)) x e = joins_all n (Some (Asynchronous false)) AtBarrier x (ms n) (λ m has. has) x.has_low (λ m has above. refl) e
    barrier n (Some (Asynchronous true)) x e =
        let body = body_alone (ms n) (low n) x.has_low in
        subst (λ (some : List ℕ). all_do whole takes AtBarrier some ≡ true) (sym body)
        (joins_all n (Some (Asynchronous true)) AtBarrier x (low n ∷ [])
        (λ m has. subst (λ (k : ℕ). Has tree n k) (sym (only_one (low n) m has)) x.has_low) (itself (low n))
        (λ m has above. let same = only_one (low n) m has in let under = x.under in absurd (omega (arith, same, under, above)))
        (subst (λ (some : List ℕ). all_join round fault.processor joint AtBarrier some ≡ true) body e))

    node_joins : (n : ℕ) (kind : Option Kind) (j : Joint) → IsJoined n kind j → joins_below round fault.processor joint tree n j ≡ true
        → joins whole takes tree n j ≡ true
    node_joins n kind Alone x e = refl
    node_joins n kind Starting x e = joins_all n kind Starting x (ms n) (λ m has. has) x.has_low (λ m has above. refl) e
    node_joins n kind AtBarrier x e =
        subst (λ (k : Option Kind). all_do whole takes AtBarrier (body_of k (ms n)) ≡ true) (sym x.is)
        (barrier n kind x (subst (λ (k : Option Kind). all_join round fault.processor joint AtBarrier (body_of k (ms n)) ≡ true) x.is e))
    node_joins n kind Closing x e = joins_all n kind Closing x (ms n) (λ m has. has) x.has_low (λ m has above. refl) e
    node_joins n kind Resuming x e =
        let both = and_parts (t.ready tree n) (all_join round fault.processor joint Resuming (ms n)) e in
        and_from (t.ready tree n) (all_do whole takes Resuming (ms n)) both.0 (joins_all n kind Resuming x (ms n) (λ m has. has) x.has_low (λ m has above. refl) both.1)

    -- ---- who waits for parts can only resume
    local_next : (due : Option (Step W)) → is_local_next next set due ≡ true → (step : Step W) × (due ≡ Some step) × (is_local (class_of step.operation) ≡ true)
    local_next None e = untrue e
    local_next (Some step) e = (step, refl, e)

    due_next : (due : Option (Step W)) → is_some due ≡ true → (step : Step W) × (due ≡ Some step)
    due_next None e = untrue e
    due_next (Some step) e = (step, refl)

    not_resume : (operation : Operation) → is_local (class_of operation) ≡ true → operation ≡ Resume → ⊥
    not_resume operation e is = let bad : false ≡ true = sym (ap (λ (o : Operation). is_local (class_of o)) is) ∙ e in cc

    -- a count is one if the next operation isn't local
    waiter_joins : (count : ℕ) (q : Runner W) → may_act next set (suc count) q ≡ true → ((step : Step W) → next q.left ≡ Some step → step.operation ≡ Resume)
        → joint_with next set (suc count) (Some q) ≡ Resuming
    waiter_joins zero q e resume =
        let due = due_next (next q.left) (and_parts (nat_lt 0 255 && true) (is_some (next q.left)) e).1 in
        ap joint_due due.1 ∙ ap joint_of (resume due.0 due.1)
    waiter_joins (suc c) q e resume =
        let both = and_parts (nat_lt (suc c) 255 && are_local next set (suc c) q) (is_some (next (after_locals next set (suc c) q).left)) e in
        let locals = (and_parts (nat_lt (suc c) 255) (are_local next set (suc c) q) both.0).1 in
        let one = local_next (next q.left) (and_parts (is_local_next next set (next q.left)) (are_local next set c (after_one next set q)) locals).0 in
        absurd (not_resume (one.0).operation one.2 (resume one.0 one.1))

    waiting_joint : (h c first parts : ℕ) → slice_index round h ≡ suc c → t.kind tree (tree.places h) ≡ Some (Waiting first parts) → joint h ≡ Resuming
    waiting_joint h c first parts e is =
        let lt = in_runners h c e in
        let q = there h lt in
        let may = subst (λ (n : ℕ). may_act next set n q.0 ≡ true) e (may_at next set round rs h q.0 faults.may q.1) in
        up_low next set round rs fault.processor h (in_round h c e)
        ∙ ap₂ (λ (n : ℕ) (o : Option (Runner W)). joint_with next set n o) e q.1
        ∙ waiter_joins c q.0 may (λ step due. known.waits h first parts q.0 step is q.1 due)

    -- ---- where nodes have no parts left
    no_node : (n h : ℕ) → Has tree n h → t.kind tree n ≡ None → ⊥
    no_node n h has none = by (tree.nodes n) has none
      where
        by : (node : Option t.Node) → is_member h (t.members_of node) ≡ true → t.kind_of node ≡ None → ⊥
        by None has' none' = untrue has'
        by (Some node) has' none' = let clash : Some node.kind ≡ None = none' in cc

    joined : (n h c : ℕ) (kind : Option Kind) → tree.places h ≡ n → slice_index round h ≡ suc c → t.kind tree n ≡ kind → IsLeaf tree n
        → ((k : ℕ) → extra_by k kind ≡ once_if (is_needed k kind)) → (j : Joint) → IsJoined n kind j
    joined n h c kind at e is leaf plain j =
        let has : Has tree n h = subst (λ (k : ℕ). Has tree k h) at (own_member h (in_runners h c e)) in
        let under = low_under n h has in
        let bound = in_round h c e in
        record { is = is; leaf = leaf; plain = plain; under = omega (arith, under, bound); has_low = low_member n h has }

    -- ---- a processor up to the last one
    own_takes : (h c : ℕ) → slice_index round h ≡ suc c → takes h ≡ joint h
    own_takes h c e = takes_low h (in_runners h c e) (in_round h c e)

    apart_joins : (n h c : ℕ) (kind : Option Kind) → IsJoined n kind (joint h) → slice_index round h ≡ suc c
        → joins_below round fault.processor joint tree n (joint h) ≡ true → joins whole takes tree n (takes h) ≡ true
    apart_joins n h c kind x e below = ap (joins whole takes tree n) (own_takes h c e) ∙ node_joins n kind (joint h) x below

    ready_of : (n : ℕ) (j : Joint) → j ≡ Resuming → joins_below round fault.processor joint tree n j ≡ true → t.ready tree n ≡ true
    ready_of n j is e =
        (and_parts (t.ready tree n) (all_join round fault.processor joint Resuming (ms n))
        (subst (λ (i : Joint). joins_below round fault.processor joint tree n i ≡ true) is e)).0

    own_fits : (h c : ℕ) (kind : Option Kind) → slice_index round h ≡ suc c → t.kind tree (tree.places h) ≡ kind
        → fits_kind_below round fault.processor joint tree h (tree.places h) kind ≡ true → fits_kind whole takes tree h (tree.places h) kind ≡ true
    own_fits h c None e is below = absurd (no_node (tree.places h) h (own_member h (in_runners h c e)) is)
    own_fits h c (Some Lockstep) e is below =
        group_fits (tree.places h) h (slice_index round h) (group_counts (tree.places h) h c is refl e) (count_low h (in_runners h c e) (in_round h c e))
    own_fits h c (Some (Waiting first parts)) e is below =
        let n = tree.places h in
        let ready = ready_of n (joint h) (waiting_joint h c first parts e is) below in
        apart_joins n h c (Some (Waiting first parts)) (joined n h c (Some (Waiting first parts)) refl e is (leaf_ready tree n ready) (λ k. refl) (joint h)) e below
    own_fits h c (Some (Asynchronous alone)) e is below =
        let n = tree.places h in
        apart_joins n h c (Some (Asynchronous alone)) (joined n h c (Some (Asynchronous alone)) refl e is (leaf_alone tree n alone is) (λ k. refl) (joint h)) e below

    own_fit : (h c : ℕ) → slice_index round h ≡ suc c → fits_kind whole takes tree h (tree.places h) (t.kind tree (tree.places h)) ≡ true
    own_fit h c e = own_fits h c (t.kind tree (tree.places h)) e refl (own_below h c e)

    -- ---- one above the last one
    -- who is asked by the lowest member of its node, which takes part in a joint operation
    record IsAsked (h : ℕ) (kind : Option Kind) : Type 0 where
      place : tree.places (low (tree.places h)) ≡ tree.places h
      count : ℕ
      low_count : slice_index round (low (tree.places h)) ≡ suc count
      needed : needs (joint (low (tree.places h))) kind ≡ true

    asked_by : (h : ℕ) (kind : Option Kind) → is_needed (tree.places h) kind ≡ true → IsAsked h kind
    asked_by h kind e =
        let n = tree.places h in
        let both = and_parts ((tree.places (low n) == n) && nat_lt 0 (slice_index round (low n))) (needs (joint (low n)) kind) e in
        let front = and_parts (tree.places (low n) == n) (nat_lt 0 (slice_index round (low n))) both.0 in
        let some = some_count (slice_index round (low n)) front.1 in
        record { place = eqb-true (tree.places (low n)) n front.0; count = some.0; low_count = some.1; needed = both.1 }

    -- then it is about to do the same
    one_asked : (j : Joint) (some : List ℕ) (h : ℕ) → is_member h some ≡ true → all_join round fault.processor joint j some ≡ true → joint h ≡ j
    one_asked j some h has e =
        same_of j (joint h)
        (and_parts (nat_lt fault.processor h || (slice_index round h == 1)) (same_joint j (joint h)) (list_all_at (one_joins round fault.processor joint j) some h e has)).1

    body_has : (kind : Option Kind) (n h : ℕ) → t.kind tree n ≡ kind → needs AtBarrier kind ≡ true → Has tree n h → is_member h (body_of kind (ms n)) ≡ true
    body_has None n h is e has = absurd (no_node n h has is)
    body_has (Some Lockstep) n h is e has = has
    body_has (Some (Waiting first parts)) n h is e has = has
    body_has (Some (Asynchronous false)) n h is e has = has
    body_has (Some (Asynchronous true)) n h is e has = untrue e

    joint_is_same : (n h : ℕ) (kind : Option Kind) (j : Joint) → t.kind tree n ≡ kind → needs j kind ≡ true → Has tree n h
        → joins_below round fault.processor joint tree n j ≡ true → joint h ≡ j
    joint_is_same n h kind Alone is e has below = untrue e
    joint_is_same n h kind Starting is e has below = one_asked Starting (ms n) h has below
    joint_is_same n h kind AtBarrier is e has below =
        one_asked AtBarrier (body_of kind (ms n)) h (body_has kind n h is e has)
        (subst (λ (k : Option Kind). all_join round fault.processor joint AtBarrier (body_of k (ms n)) ≡ true) is below)
    joint_is_same n h kind Closing is e has below = one_asked Closing (ms n) h has below
    joint_is_same n h kind Resuming is e has below =
        one_asked Resuming (ms n) h has (and_parts (t.ready tree n) (all_join round fault.processor joint Resuming (ms n)) below).1

    -- the lowest member's test, at a node that isn't in lockstep
    low_below : (h : ℕ) (kind : Option Kind) → t.kind tree (tree.places h) ≡ kind → ((g n : ℕ) → fits_kind_below round fault.processor joint tree g n kind
        ≡ joins_below round fault.processor joint tree n (joint g)) → (x : IsAsked h kind)
        → joins_below round fault.processor joint tree (tree.places h) (joint (low (tree.places h))) ≡ true
    low_below h kind is plain x =
        let n = tree.places h in
        sym (plain (low n) n)
        ∙ subst (λ (k : Option Kind). fits_kind_below round fault.processor joint tree (low n) n k ≡ true) is
        (subst (λ (m : ℕ). fits_kind_below round fault.processor joint tree (low n) m (t.kind tree m) ≡ true) x.place (own_below (low n) x.count x.low_count))

    low_whole : (h : ℕ) (kind : Option Kind) → t.kind tree (tree.places h) ≡ kind → ((g n : ℕ) → fits_kind whole takes tree g n kind ≡ joins whole takes tree n (takes g))
        → (x : IsAsked h kind) → joins whole takes tree (tree.places h) (joint (low (tree.places h))) ≡ true
    low_whole h kind is plain x =
        let n = tree.places h in
        ap (joins whole takes tree n) (sym (own_takes (low n) x.count x.low_count)) ∙ sym (plain (low n) n)
        ∙ subst (λ (k : Option Kind). fits_kind whole takes tree (low n) n k ≡ true) is
        (subst (λ (m : ℕ). fits_kind whole takes tree (low n) m (t.kind tree m) ≡ true) x.place (own_fit (low n) x.count x.low_count))

    -- what is so of a node that isn't in lockstep
    record IsApart (kind : Option Kind) : Type 0 where
      extra_is : (n : ℕ) → extra_by n kind ≡ once_if (is_needed n kind)
      below_is : (g n : ℕ) → fits_kind_below round fault.processor joint tree g n kind ≡ joins_below round fault.processor joint tree n (joint g)
      whole_is : (g n : ℕ) → fits_kind whole takes tree g n kind ≡ joins whole takes tree n (takes g)

    -- its extra count is one or none; where it is one, the lowest member asks for it
    asked_joint : (h : ℕ) (kind : Option Kind) → IsApart kind → t.kind tree (tree.places h) ≡ kind → h < length rs → IsAsked h kind
        → joint h ≡ joint (low (tree.places h))
    asked_joint h kind apart is lt x =
        joint_is_same (tree.places h) h kind (joint (low (tree.places h))) is x.needed (own_member h lt) (low_below h kind is apart.below_is x)

    apart_extra : (h : ℕ) (kind : Option Kind) (c : ℕ) → IsApart kind → t.kind tree (tree.places h) ≡ kind → extra h ≡ suc c → IsAsked h kind × (suc c ≡ 1)
    apart_extra h kind c apart is e =
        let n = tree.places h in
        let one = once_is (is_needed n kind) c (sym (apart.extra_is n) ∙ ap (extra_by n) (sym is) ∙ e) in
        (asked_by h kind one.0, one.1)

    apart_fits : (h : ℕ) (kind : Option Kind) (c : ℕ) → IsApart kind → t.kind tree (tree.places h) ≡ kind → h < length rs → fault.processor < h → slice_index whole h ≡ suc c
        → fits_kind whole takes tree h (tree.places h) kind ≡ true
    apart_fits h kind c apart is lt above e =
        let n = tree.places h in
        let x = apart_extra h kind c apart is (sym (count_high h lt above) ∙ e) in
        let same = takes_high h above (e ∙ x.1) ∙ asked_joint h kind apart is lt x.0 in
        apart.whole_is h n ∙ ap (joins whole takes tree n) same ∙ low_whole h kind is apart.whole_is x.0

    other_fits : (h : ℕ) (kind : Option Kind) (c : ℕ) → t.kind tree (tree.places h) ≡ kind → h < length rs → fault.processor < h → slice_index whole h ≡ suc c
        → fits_kind whole takes tree h (tree.places h) kind ≡ true
    other_fits h None c is lt above e = absurd (no_node (tree.places h) h (own_member h lt) is)
    other_fits h (Some Lockstep) c is lt above e =
        let n = tree.places h in
        let has_low = low_member n h (own_member h lt) in
        let at = placed n (low n) (leaf_lockstep tree n is) has_low in
        let counts : slice_index round (low n) ≡ slice_index whole h = ap (extra_by n) (sym is) ∙ sym (count_high h lt above) in
        group_fits n h (slice_index round (low n)) (group_counts n (low n) c is at (counts ∙ e)) (sym counts)
    other_fits h (Some (Waiting first parts)) c is lt above e =
        apart_fits h (Some (Waiting first parts)) c (record { extra_is = λ n. refl; below_is = λ g n. refl; whole_is = λ g n. refl }) is lt above e
    other_fits h (Some (Asynchronous alone)) c is lt above e =
        apart_fits h (Some (Asynchronous alone)) c (record { extra_is = λ n. refl; below_is = λ g n. refl; whole_is = λ g n. refl }) is lt above e

    -- ---- all of them
    in_whole : (h c : ℕ) → slice_index whole h ≡ suc c → h < length rs
    in_whole h c e = let lt = within whole h c e in omega (arith, lt, long_whole)

    fits_at : (h c : ℕ) → slice_index whole h ≡ c → fits whole takes tree h c ≡ true
    fits_at h zero e = refl
    fits_at h (suc c) e =
        let lt = in_whole h c e in
        ⊎_elim
        (λ above. other_fits h (t.kind tree (tree.places h)) c refl lt above e)
        (λ le. own_fit h c (sym (count_low h lt le) ∙ e))
        (cases_lt fault.processor h)

    all_fits : all_fit whole takes tree 0 whole ≡ true
    all_fits =
        fit_each whole takes tree 0 whole
        (λ j. let here : j ≡ 0 + j = omega arith in subst (λ (i : ℕ). fits whole takes tree i (slice_index whole j) ≡ true) here (fits_at j (slice_index whole j) refl))

    next_is : (q : Runner W) (j : Joint) (kind : Option Kind) → joint_due (next q.left) ≡ j → needs j kind ≡ true → is_some (next q.left) ≡ true
    next_is q j kind is e = by (next q.left) is
      where
        by : (due : Option (Step W)) → joint_due due ≡ j → is_some due ≡ true
        by None same = untrue (ap (λ (i : Joint). needs i kind) same ∙ e)
        by (Some step) same = refl

    may_once : (q : Runner W) → is_some (next q.left) ≡ true → may_act next set 1 q ≡ true
    may_once q e = and_from (nat_lt 0 255 && true) (is_some (next q.left)) refl e

    apart_may : (h : ℕ) (q : Runner W) (kind : Option Kind) → IsApart kind → t.kind tree (tree.places h) ≡ kind → h < length rs → fault.processor < h → slice_get rs h ≡ Some q
        → (count : ℕ) → extra h ≡ count → may_act next set count q ≡ true
    apart_may h q kind apart is lt above at zero e = refl
    apart_may h q kind apart is lt above at (suc c) e =
        let x = apart_extra h kind c apart is e in
        let j = joint (low (tree.places h)) in
        let due = ap (joint_next next set) (sym at) ∙ sym (up_high next set round rs fault.processor h above) ∙ asked_joint h kind apart is lt x.0 in
        subst (λ (n : ℕ). may_act next set n q ≡ true) (sym x.1) (may_once q (next_is q j kind due x.0.needed))

    other_may : (h : ℕ) (q : Runner W) (kind : Option Kind) → t.kind tree (tree.places h) ≡ kind → h < length rs → fault.processor < h → slice_get rs h ≡ Some q
        → may_act next set (extra h) q ≡ true
    other_may h q None is lt above at = absurd (no_node (tree.places h) h (own_member h lt) is)
    other_may h q (Some Lockstep) is lt above at =
        let n = tree.places h in
        let own = own_member h lt in
        let has_low = low_member n h own in
        let l = there (low n) (member_at n (low n) has_low) in
        subst (λ (count : ℕ). may_act next set count q ≡ true) (ap (extra_by n) (sym is))
        (known.together n (low n) h (slice_index round (low n)) l.0 q is has_low own l.1 at (may_at next set round rs (low n) l.0 faults.may l.1))
    other_may h q (Some (Waiting first parts)) is lt above at =
        apart_may h q (Some (Waiting first parts)) (record { extra_is = λ n. refl; below_is = λ g n. refl; whole_is = λ g n. refl }) is lt above at (extra h) refl
    other_may h q (Some (Asynchronous alone)) is lt above at =
        apart_may h q (Some (Asynchronous alone)) (record { extra_is = λ n. refl; below_is = λ g n. refl; whole_is = λ g n. refl }) is lt above at (extra h) refl

    at_under : (xs : List (Runner W)) (h : ℕ) (q : Runner W) → slice_get xs h ≡ Some q → h < length xs
    at_under [] h q e = absurd (cc)
    at_under (x ∷ xs) zero q e = omega arith
    at_under (x ∷ xs) (suc h) q e = let lt = at_under xs h q e in omega arith

    all_may : all_may_act next set whole rs ≡ true
    all_may =
        may_each next set whole rs long_whole
        (λ h q at.
        let lt = at_under rs h q at in
        ⊎_elim
        (λ above. subst (λ (count : ℕ). may_act next set count q ≡ true) (sym (count_high h lt above)) (other_may h q (t.kind tree (tree.places h)) refl lt above at))
        (λ le. subst (λ (count : ℕ). may_act next set count q ≡ true) (sym (count_low h lt le)) (may_at next set round rs h q faults.may at))
        (cases_lt fault.processor h))

    is_cut : cut (suc fault.processor) whole ≡ round
    is_cut = cut_extended fault.processor extra (suc fault.processor) 0 round (omega arith) (λ j le. faults.last j (omega (arith, le)))

    whole_faults : (result next set whole s).fault ≡ Some fault
    whole_faults =
        let a = all_requests 0 (all_locals next set (begin_all next set whole rs)) s.store in
        let b = all_requests 0 (all_locals next set (begin_all next set round rs)) s.store in
        let left : requests 0 round rs s.store ≡ Some fault = sym (phase_fault tree b.store b.acting b.fault) ∙ faults.faults in
        let processor = fault.processor in
        let number : processor ≡ 0 + processor = omega arith in
        phase_fault tree a.store a.acting a.fault
        ∙ again fault.processor 0 whole rs s.store fault number (subst (λ (r : Round). requests 0 r rs s.store ≡ Some fault) (sym is_cut) left)

    pub stopped : IsStopped next set round s
    stopped = record {
      running = known.running;
      whole = whole;
      allowed = and_from (all_may_act next set whole rs) (all_fit whole takes tree 0 whole) all_may all_fits;
      fault = fault;
      faults = whole_faults;
      is_cut = sym is_cut;
    }

pub faults_of_the_last_stop : (W : Type 0) → FaultsOfTheLastStop W
faults_of_the_last_stop W next set round s known = record {
  there = λ fault faults. stopped next set s round fault known faults;
  back = λ stopped'. back next set round s stopped';
}
