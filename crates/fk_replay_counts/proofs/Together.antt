-- A group in lockstep does a local operation: all its members do, and they stay together.
use Rattle.std.proofs.Common.{◌≡◌, ℕ, zero, suc, ◌+◌, ◌<◌, ◌==◌, ◌&&◌, ◌||◌, Bool, true, false, List, [], ◌∷◌, length, slice_get, Option, Some, None, is_some, is_none, refl, sym, ap, ◌∙◌, subst, arith}
use Rattle.std.specs.Prelude.{slice_index}
use Rattle.std.specs.List.{list_all}
use Rattle.std.proofs.lemmas.Bool.{and_parts, and_from, eqb-true, eq-eqb}
use Rattle.fk_tree.specs.declared.node.Kind.{Kind}
use Rattle.fk_tree.specs.declared.node.Kind.TheVariants.{Lockstep}
use Rattle.fk_tree.specs.Tree.{Tree, members, is_member, kind}
use Rattle.fk_tree.specs.Sound.{Has, IsSound}
use Rattle.fk_tree.proofs.Shapes.{has_some}
use Rattle.fk_tree.proofs.Turns.{leaf_by, idle-lockstep}
use Rattle.fk_meaning_operation.specs.declared.kinds.Joint.{Joint}
use Rattle.fk_meaning.specs.Processor.{Setting}
use Rattle.fk_meaning.specs.Round.{Step, Runner, State, Round, joint_at, fits_kind, fits, all_fit, after_one, after_locals, begin_all, result, is_local_next, are_local, may_act, all_may_act, is_allowed, is_possible}
use Rattle.fk_meaning.specs.Schedule.{Schedule, run}
use Rattle.fk_lockstep.specs.OneProgram.{HaveOneProgram}
use Rattle.fk_replay_counts.proofs.Quiet.{AreQuiet, advanced, gone_on, quiet_result}
use Rattle.fk_replay_counts.proofs.Parts.{may_parts, may_from, local_is_due}

-- all members of a lockstep group are placed there
pub group_place : (p n : ℕ) (tree : Tree) → IsSound p tree → kind tree n ≡ Some Lockstep → (h : ℕ) → Has tree n h → tree.places h ≡ n
group_place p n tree sound is h has =
    let leaf = leaf_by p n Lockstep tree sound idle-lockstep is in
    sym (sound.only h n (record { member = has; own = λ m ne up has'. leaf m ne (has_some tree m h has') up }))

-- one operation for each member, and none for others
abbrev pub turn_of : Bool → ℕ
turn_of true = 1
turn_of false = 0

abbrev pub turns : {W : Type 0} → (members : List ℕ) → (h : ℕ) → List (Runner W) → Round
turns ms h [] = []
turns ms h (r ∷ rs) = turn_of (is_member h ms) ∷ turns ms (suc h) rs

turn_at : {W : Type 0} (ms : List ℕ) (h i : ℕ) (rs : List (Runner W)) → i < length rs → slice_index (turns ms h rs) i ≡ turn_of (is_member (h + i) ms)
turn_at ms h i [] lt = absurd (omega arith)
turn_at ms h zero (r ∷ rs) lt = let same : h ≡ h + 0 = omega arith in ap (λ (j : ℕ). turn_of (is_member j ms)) same
turn_at ms h (suc i) (r ∷ rs) lt =
    let same : suc h + i ≡ h + suc i = omega arith in turn_at ms (suc h) i rs (omega arith) ∙ ap (λ (j : ℕ). turn_of (is_member j ms)) same

-- the first number is 0
from_zero : (ms : List ℕ) (h : ℕ) → is_member h ms ≡ true → is_member (0 + h) ms ≡ true
from_zero ms h is = let same : h ≡ 0 + h = omega arith in subst (λ (j : ℕ). is_member j ms ≡ true) same is

to_zero : (ms : List ℕ) (h : ℕ) → is_member (0 + h) ms ≡ true → is_member h ms ≡ true
to_zero ms h is = let same : 0 + h ≡ h = omega arith in subst (λ (j : ℕ). is_member j ms ≡ true) same is

-- the members' own test, member by member
all_members : (f : ℕ → Bool) (ms : List ℕ) → ((m : ℕ) → is_member m ms ≡ true → f m ≡ true) → list_all f ms ≡ true
all_members f [] each = refl
all_members f (m ∷ ms) each =
    and_from (f m) (list_all f ms) (each m (ap (λ (b : Bool). b || is_member m ms) (eq-eqb m m refl)))
    (all_members f ms (λ k is. each k (in_rest (k == m) (is_member k ms) is)))
  where
    in_rest : (a b : Bool) → b ≡ true → (a || b) ≡ true
    in_rest true b e = refl
    in_rest false b e = e

module _ {W : Type 0} (next : W → Option (Step W)) (set : Setting) where
  -- which processors are to do a local operation
  abbrev AllLocal : (ms : List ℕ) (h : ℕ) → List (Runner W) → Type 0
  AllLocal ms h rs = (i : ℕ) (r : Runner W) → slice_get rs i ≡ Some r → is_member (h + i) ms ≡ true → is_local_next next set (next r.left) ≡ true

  local_here : (ms : List ℕ) (h : ℕ) (r : Runner W) (rs : List (Runner W)) → AllLocal ms h (r ∷ rs) → is_member h ms ≡ true → is_local_next next set (next r.left) ≡ true
  local_here ms h r rs all is = let same : h ≡ h + 0 = omega arith in all 0 r refl (subst (λ (j : ℕ). is_member j ms ≡ true) same is)

  local_later : (ms : List ℕ) (h : ℕ) (r : Runner W) (rs : List (Runner W)) → AllLocal ms h (r ∷ rs) → AllLocal ms (suc h) rs
  local_later ms h r rs all i q at is = let same : suc h + i ≡ h + suc i = omega arith in all (suc i) q at (subst (λ (j : ℕ). is_member j ms ≡ true) same is)

  turn_local : (b : Bool) (r : Runner W) → (b ≡ true → is_local_next next set (next r.left) ≡ true) → are_local next set (turn_of b) r ≡ true
  turn_local true r is = and_from (is_local_next next set (next r.left)) true (is refl) refl
  turn_local false r is = refl

  turn_may : (b : Bool) (r : Runner W) → (b ≡ true → is_local_next next set (next r.left) ≡ true) → may_act next set (turn_of b) r ≡ true
  turn_may true r is = may_from next set 0 r (record { few = refl; locals = refl; due = local_is_due next set (next r.left) (is refl) })
  turn_may false r is = refl

  turns_quiet : (ms : List ℕ) (h : ℕ) (rs : List (Runner W)) → AllLocal ms h rs → AreQuiet next set (turns ms h rs) rs
  turns_quiet ms h [] all = tt
  turns_quiet ms h (r ∷ rs) all = (turn_local (is_member h ms) r (local_here ms h r rs all), turns_quiet ms (suc h) rs (local_later ms h r rs all))

  turns_may : (ms : List ℕ) (h : ℕ) (rs : List (Runner W)) → AllLocal ms h rs → all_may_act next set (turns ms h rs) rs ≡ true
  turns_may ms h [] all = refl
  turns_may ms h (r ∷ rs) all =
      and_from (may_act next set (turn_of (is_member h ms)) r) (all_may_act next set (turns ms (suc h) rs) rs)
      (turn_may (is_member h ms) r (local_here ms h r rs all)) (turns_may ms (suc h) rs (local_later ms h r rs all))

  -- the members act as a whole
  module _ (p n : ℕ) (tree : Tree) (sound : IsSound p tree) (is : kind tree n ≡ Some Lockstep) (all : List (Runner W)) (many : length all ≡ p) where
    abbrev ms : List ℕ
    ms = members tree n

    abbrev round : Round
    round = turns ms 0 all

    once : (h : ℕ) → Has tree n h → slice_index round h ≡ 1
    once h has =
        let lt = sound.within n h has in
        turn_at ms 0 h all (omega (arith, lt, many)) ∙ ap turn_of (from_zero ms h has)

    fits_there : (does' : ℕ → Joint) (h : ℕ) → Has tree n h → fits_kind round does' tree h n (Some Lockstep) ≡ true
    fits_there does' h has =
        all_members (λ m. slice_index round m == slice_index round h) ms (λ m in_group. eq-eqb (slice_index round m) (slice_index round h) (once m in_group ∙ sym (once h has)))

    fits_one : (does' : ℕ → Joint) (h : ℕ) (b : Bool) → is_member h ms ≡ b → fits round does' tree h (turn_of b) ≡ true
    fits_one does' h true has =
        let there = group_place p n tree sound is h has in
        subst (λ (k : ℕ). fits_kind round does' tree h k (kind tree k) ≡ true) (sym there)
        (subst (λ (k : Option Kind). fits_kind round does' tree h n k ≡ true) (sym is) (fits_there does' h has))
    fits_one does' h false has = refl

    fit_from : (does' : ℕ → Joint) (h : ℕ) (rs : List (Runner W)) → all_fit round does' tree h (turns ms h rs) ≡ true
    fit_from does' h [] = refl
    fit_from does' h (r ∷ rs) =
        and_from (fits round does' tree h (turn_of (is_member h ms))) (all_fit round does' tree (suc h) (turns ms (suc h) rs))
        (fits_one does' h (is_member h ms) refl) (fit_from does' (suc h) rs)

  -- the round in which a group does a local operation
  pub record Turn (s : State W) (n : ℕ) : Type 0 where
    pub round : Round
    pub possible : is_possible next set round s ≡ true
    pub after : result next set round s ≡ gone_on next set round s
    pub at : (h : ℕ) (r : Runner W) → Has s.tree n h → slice_get s.runners h ≡ Some r
        → slice_get (advanced next set round s.runners) h ≡ Some (after_one next set r)

  advance_at : (ms : List ℕ) (h i : ℕ) (rs : List (Runner W)) (r : Runner W) → slice_get rs i ≡ Some r → is_member (h + i) ms ≡ true
      → slice_get (advanced next set (turns ms h rs) rs) i ≡ Some (after_one next set r)
  advance_at ms h i [] r at is = absurd (cc)
  advance_at ms h zero (q ∷ rs) r at is =
      let same : q ≡ r = cc in
      let here : h + 0 ≡ h = omega arith in
      ap (λ (b : Bool). Some (after_locals next set (turn_of b) q)) (subst (λ (j : ℕ). is_member j ms ≡ true) here is) ∙ ap (λ (x : Runner W). Some (after_one next set x)) same
  advance_at ms h (suc i) (q ∷ rs) r at is =
      let same : h + suc i ≡ suc h + i = omega arith in
      advance_at ms (suc h) i rs r at (subst (λ (j : ℕ). is_member j ms ≡ true) same is)

  pub turn : (s : State W) (n : ℕ) → s.fault ≡ None → IsSound set.processors s.tree → length s.runners ≡ set.processors → kind s.tree n ≡ Some Lockstep
      → ((h : ℕ) (r : Runner W) → slice_get s.runners h ≡ Some r → Has s.tree n h → is_local_next next set (next r.left) ≡ true) → Turn s n
  turn s n none sound many is local =
      let p = set.processors in
      let ms = members s.tree n in
      let round = turns ms 0 s.runners in
      let joints = joint_at (begin_all next set round s.runners) in
      let all : AllLocal ms 0 s.runners = λ i r at has. local i r at (to_zero ms i has) in
      let after = quiet_result next set round s (turns_quiet ms 0 s.runners all) in
      record {
        round = round;
        possible = and_from (is_none s.fault && is_allowed next set round s) (is_none (result next set round s).fault)
            (and_from (is_none s.fault) (is_allowed next set round s) (ap is_none none)
            (and_from (all_may_act next set round s.runners) (all_fit round joints s.tree 0 round) (turns_may ms 0 s.runners all)
            (fit_from p n s.tree sound is s.runners many joints 0 s.runners)))
            (ap (λ (x : State W). is_none x.fault) after);
        after = after;
        at = λ h r has there. advance_at ms 0 h s.runners r there (from_zero ms h has);
      }

  -- one processor alone does local operations
  lone_local : (rs : List (Runner W)) (h : ℕ) (r : Runner W) → slice_get rs h ≡ Some r → is_local_next next set (next r.left) ≡ true → AllLocal (h ∷ []) 0 rs
  lone_local rs h r at local i q there is =
      let same : i ≡ h = eqb-true i h (or_none (i == h) (to_zero (h ∷ []) i is)) in
      let q_is : q ≡ r = some_same q r (sym there ∙ ap (slice_get rs) same ∙ at) in
      subst (λ (x : Runner W). is_local_next next set (next x.left) ≡ true) (sym q_is) local
    where
      some_same : (x y : Runner W) → Some x ≡ Some y → x ≡ y
      some_same x y e = cc

      or_none : (b : Bool) → (b || false) ≡ true → b ≡ true
      or_none true e = refl
      or_none false e = e

  pub record LoneRun (count : ℕ) (s : State W) (h : ℕ) (r : Runner W) : Type 0 where
    pub schedule : Schedule
    pub after : slice_get (run next set schedule s).runners h ≡ Some (after_locals next set count r)

  pub lone : (count : ℕ) (s : State W) (h : ℕ) (r : Runner W) → slice_get s.runners h ≡ Some r → are_local next set count r ≡ true → LoneRun count s h r
  lone zero s h r at e = record { schedule = []; after = at }
  lone (suc c) s h r at e =
      let parts = and_parts (is_local_next next set (next r.left)) (are_local next set c (after_one next set r)) e in
      let round = turns (h ∷ []) 0 s.runners in
      let goes_on = quiet_result next set round s (turns_quiet (h ∷ []) 0 s.runners (lone_local s.runners h r at parts.0)) in
      let there = advance_at (h ∷ []) 0 h s.runners r at (from_zero (h ∷ []) h (ap (λ (b : Bool). b || false) (eq-eqb h h refl))) in
      let more = lone c (result next set round s) h (after_one next set r)
      (ap (λ (u : State W). slice_get u.runners h) goes_on ∙ there) parts.1 in
      record { schedule = round ∷ more.schedule; after = more.after }

  -- what is known of the states of a run
  module _ (Reached : State W → Type 0)
      (goes : (round : Round) (s : State W) → Reached s → is_possible next set round s ≡ true → Reached (result next set round s))
      (calm : (s : State W) → Reached s → s.fault ≡ None) (sound : (s : State W) → Reached s → IsSound set.processors s.tree)
      (many : (s : State W) → Reached s → length s.runners ≡ set.processors) (one : (s : State W) → Reached s → HaveOneProgram next s) where
    pub record InStep (count : ℕ) (r q : Runner W) : Type 0 where
      pub local : are_local next set count q ≡ true
      pub left : (after_locals next set count r).left ≡ (after_locals next set count q).left

    abbrev IsGroup : State W → (n g : ℕ) → Runner W → Type 0
    IsGroup s n g r = (kind s.tree n ≡ Some Lockstep) × Has s.tree n g × (slice_get s.runners g ≡ Some r)

    same_left : (s : State W) → Reached s → (n g h : ℕ) (r q : Runner W) → IsGroup s n g r → IsGroup s n h q → r.left ≡ q.left
    same_left s reached n g h r q a b = (one s reached n g h r q a.0 a.1 b.1 a.2 b.2).left

    pub in_step : (count : ℕ) (s : State W) → Reached s → (n g h : ℕ) (r q : Runner W) → IsGroup s n g r → IsGroup s n h q
        → are_local next set count r ≡ true → InStep count r q
    in_step zero s reached n g h r q a b e = record { local = refl; left = same_left s reached n g h r q a b }
    in_step (suc c) s reached n g h r q a b e =
        let parts = and_parts (is_local_next next set (next r.left)) (are_local next set c (after_one next set r)) e in
        let same : (i : ℕ) (x : Runner W) → slice_get s.runners i ≡ Some x → Has s.tree n i → is_local_next next set (next x.left) ≡ true
        = λ i x at has. subst (λ (w : W). is_local_next next set (next w) ≡ true) (same_left s reached n g i r x a (a.0, has, at)) parts.0 in
        let x = turn s n (calm s reached) (sound s reached) (many s reached) a.0 same in
        let u = gone_on next set x.round s in
        let reached' = subst Reached x.after (goes x.round s reached x.possible) in
        let more = in_step c u reached' n g h (after_one next set r) (after_one next set q)
        (a.0, a.1, x.at g r a.1 a.2) (b.0, b.1, x.at h q b.1 b.2) parts.1 in
        record { local = and_from (is_local_next next set (next q.left)) (are_local next set c (after_one next set q)) (same h q b.2 b.1) more.local; left = more.left }

    pub may_together : (count : ℕ) (s : State W) → Reached s → (n g h : ℕ) (r q : Runner W) → IsGroup s n g r → IsGroup s n h q
        → may_act next set count r ≡ true → may_act next set count q ≡ true
    may_together zero s reached n g h r q a b e = refl
    may_together (suc c) s reached n g h r q a b e =
        let m = may_parts next set c r e in
        let x = in_step c s reached n g h r q a b m.locals in
        may_from next set c q (record { few = m.few; locals = x.local; due = subst (λ (w : W). is_some (next w) ≡ true) x.left m.due })
