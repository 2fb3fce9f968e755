-- What each processor has done in a round, before the steps of the tree.
use Rattle.std.proofs.Common.{◌≡◌, ◌≢◌, ◌⊎◌, inl, inr, ℕ, zero, suc, ◌+◌, ◌<◌, ◌≤◌, ◌&&◌, Bool, true, false, List, [], ◌∷◌, length, slice_get, Option, Some, None, refl, sym, ap, ◌∙◌, subst, subst₂, arith, if◌then◌else◌}
use Rattle.std.specs.Prelude.{slice_index, is_none}
use Rattle.std.proofs.lemmas.Bool.{and_parts, false≢true}
use Rattle.std.proofs.lemmas.List.{length-map}
use Rattle.fk_meaning_operation.specs.Kinds.{class_of}
use Rattle.fk_meaning_operation.specs.declared.kinds.Class.{Class}
use Rattle.fk_meaning_operation.specs.declared.kinds.Class.TheVariants as class
use Rattle.fk_meaning_operation.specs.declared.kinds.Joint.{Joint}
use Rattle.fk_meaning.specs.Processor.{Setting}
use Rattle.fk_meaning_store.specs.Store.{Store}
use Rattle.fk_meaning.specs.Local.{is_onward}
use Rattle.fk_meaning.specs.Group.{has_room}
use Rattle.fk_meaning.specs.Round.{Step, Runner, Fault, State, Round, Acting, Phases, Phase, Passes, Breaks, taking, joint_due, joint_at, fits, all_fit, after_phase, request_phase, do_request, all_requests, do_local, local_phase, begin, begin_all, asking, all_may_act, tree_phase, result, is_allowed, is_possible}
use Rattle.fk_meaning.proofs.Stopped.{phase_fault}
use Rattle.fk_lockstep.proofs.Rounds.{OutcomeBy, Outcome, begin_at, map_at, asked_at}
use Rattle.fk_lockstep.proofs.Round.{first_is, index_at, fit_at, requests_length, joint_is, some_at, counts_there, begin_length}
use Rattle.fk_lockstep_tree.specs.Where.{Where, goes}
use Rattle.fk_lockstep_nodes.specs.Steps.{stepping}
use Rattle.fk_lockstep_tree.specs.Rounds.{IsSingle}
use Rattle.fk_lockstep_tree.proofs.Moves.{SameLevels, local_same, answer_same}

-- a step of the tree finds the words that it needs
abbrev HasRoom : {W : Type 0} → Acting W → Type 0
HasRoom {W} a = (step : Step W) → a.due ≡ Some step → class_of step.operation ≡ class.Tree → has_room step.operation a.runner.has ≡ true

-- so it is of each who passes the requests
pub room_at : {W : Type 0} (number : ℕ) (actings : List (Acting W)) (s : Store) (g : ℕ) (a : Acting W) → (all_requests number actings s).fault ≡ None → slice_get actings g ≡ Some a → HasRoom a
room_at number [] s g a e at = absurd (cc)
room_at {W = W} number (a' ∷ actings) s zero a e at = subst (λ (x : Acting W). HasRoom x) same here
  where
    same : a' ≡ a
    same = first_is a' a at

    -- a phase that passes
    passes : (phase : Phase W) → (after_phase number s a' actings (all_requests (suc number) actings) phase).fault ≡ None → (site : ℕ) → phase ≡ Breaks site → ⊥
    passes (Passes s' b) e' site f = absurd (cc)
    passes (Breaks k) e' site f = absurd (cc)

    room_is : (step : Step W) (room : Bool) → has_room step.operation a'.runner.has ≡ room → (if room then Passes s a' else Breaks step.site) ≢ Breaks step.site → room ≡ true
    room_is step true f off = refl
    room_is step false f off = absurd (off refl)

    here : HasRoom a'
    here step due tree =
        let phase : request_phase s a' a'.due ≡ (if has_room step.operation a'.runner.has then Passes s a' else Breaks step.site)
        = ap (λ (x : Option (Step W)). request_phase s a' x) due ∙ ap (λ (c : Class). do_request s a' c step) tree in
        room_is step (has_room step.operation a'.runner.has) refl (λ broken. passes (request_phase s a' a'.due) e step.site (phase ∙ broken))
room_at {W = W} number (a' ∷ actings) s (suc g) a e at = by (λ s' e'. room_at (suc number) actings s' g a e' at) (request_phase s a' a'.due) e
  where
    by : ((s' : Store) → (all_requests (suc number) actings s').fault ≡ None → HasRoom a) → (phase : Phase W) → (after_phase number s a' actings (all_requests (suc number) actings) phase).fault ≡ None → HasRoom a
    by others (Passes s' b) e' = others s' e'
    by others (Breaks site) e' = absurd (cc)

module _ {W : Type 0} (next : W → Option (Step W)) (set : Setting) where
  -- a local operation or a request is done; or a step of the tree is due
  pub record Moved (r : Runner W) (b : Acting W) : Type 0 where
    pub step : Step W
    pub onward : Bool
    pub next_is : next r.left ≡ Some step
    pub plain : class_of step.operation ≡ class.Tree → ⊥
    pub due : b.due ≡ None
    pub left : b.runner.left ≡ step.rest onward
    pub levels : (place : Where) (way : Bool) (to : Where) → goes place step.operation way ≡ Some to → SameLevels place r.has b.runner.has

  pub record IsDue (r : Runner W) (b : Acting W) : Type 0 where
    pub step : Step W
    pub next_is : next r.left ≡ Some step
    pub tree : class_of step.operation ≡ class.Tree
    pub is : b ≡ taking r (Some step)
    pub room : has_room step.operation r.has ≡ true

  abbrev pub Comes : (count : ℕ) → Runner W → Acting W → Type 0
  Comes count r b = ((b ≡ taking r None) × ((count ≡ 0) ⊎ (next r.left ≡ None))) ⊎ ((count ≡ 1) × (Moved r b ⊎ IsDue r b))

  abbrev asked : ℕ → Runner W → Acting W
  asked count r = let a = begin next set count r in local_phase next set a a.due

  one_comes : (r : Runner W) (b : Acting W) (due : Option (Step W)) → next r.left ≡ due
      → Outcome (local_phase next set (taking r due) due) (local_phase next set (taking r due) due).due b → HasRoom (local_phase next set (taking r due) due) → Comes 1 r b
  one_comes r b None e out room = inl (out, inr e)
  one_comes r b (Some step) e out room = by (class_of step.operation) refl out room
    where
      by : (c : Class) → class_of step.operation ≡ c → Outcome (do_local next set (taking r (Some step)) c step) (do_local next set (taking r (Some step)) c step).due b
          → HasRoom (do_local next set (taking r (Some step)) c step) → Comes 1 r b
      by class.Local f o' room' =
          inr (
            refl,
            inl (record {
              step = step;
              onward = is_onward step.operation r.has;
              next_is = e;
              plain = λ t. let clash : class.Local ≡ class.Tree = sym f ∙ t in cc;
              due = ap (λ (x : Acting W). x.due) o';
              left = ap (λ (x : Acting W). x.runner.left) o';
              levels = λ place way to is.
                  subst (SameLevels place r.has) (sym (ap (λ (x : Acting W). x.runner.has) o')) (local_same set place step.operation way to r.has is);
            }),
          )
      by class.Request f o' room' =
          let x = subst (λ (c : Class). OutcomeBy c (taking r (Some step)) step b) f o' in
          inr (
            refl,
            inl (record {
              step = step;
              onward = true;
              next_is = e;
              plain = λ t. let clash : class.Request ≡ class.Tree = sym f ∙ t in cc;
              due = ap (λ (a : Acting W). a.due) x.1;
              left = ap (λ (a : Acting W). a.runner.left) x.1;
              levels = λ place way to is. subst (SameLevels place r.has) (sym (ap (λ (a : Acting W). a.runner.has) x.1)) (answer_same place step.operation x.0 r.has);
            }),
          )
      by class.Tree f o' room' =
          let x = subst (λ (c : Class). OutcomeBy c (taking r (Some step)) step b) f o' in
          inr (refl, inr (record { step = step; next_is = e; tree = f; is = x; room = room' step refl f }))

  comes : (count : ℕ) (r : Runner W) (b : Acting W) → count ≤ 1 → Outcome (asked count r) (asked count r).due b → HasRoom (asked count r) → Comes count r b
  comes zero r b le out room = inl (out, inl refl)
  comes (suc zero) r b le out room = one_comes r b (next r.left) refl out room
  comes (suc (suc c)) r b le out room = absurd (omega (arith, le))

  module _ (round : Round) (s : State W) (single : IsSingle round) (possible : is_possible next set round s ≡ true) where
    both : (is_none s.fault && is_allowed next set round s ≡ true) × (is_none (result next set round s).fault ≡ true)
    both = and_parts (is_none s.fault && is_allowed next set round s) (is_none (result next set round s).fault) possible

    allowed : is_allowed next set round s ≡ true
    allowed = (and_parts (is_none s.fault) (is_allowed next set round s) both.0).1

    none_of : (f : Option Fault) → is_none f ≡ true → f ≡ None
    none_of None e = refl
    none_of (Some f) e = absurd (false≢true e)

    abbrev pub phases : Phases W
    phases = all_requests 0 (asking next set round s.runners) s.store

    no_fault : phases.fault ≡ None
    no_fault = sym (phase_fault s.tree phases.store phases.acting phases.fault) ∙ none_of (result next set round s).fault both.1

    pub result_is : result next set round s ≡ tree_phase s.tree phases.store (stepping next set round s) None
    result_is = ap (λ (fault : Option Fault). tree_phase s.tree phases.store phases.acting fault) no_fault

    abbrev pub does_at : ℕ → Joint
    does_at = joint_at (begin_all next set round s.runners)

    parts : (all_may_act next set round s.runners ≡ true) × (all_fit round does_at s.tree 0 round ≡ true)
    parts = and_parts (all_may_act next set round s.runners) (all_fit round does_at s.tree 0 round) allowed

    counts_length : length round ≡ length s.runners
    counts_length = counts_there next set round s.runners parts.0

    pub stepping_length : length (stepping next set round s) ≡ length s.runners
    stepping_length =
        requests_length 0 (asking next set round s.runners) s.store
        ∙ length-map (begin_all next set round s.runners) (λ (a : Acting W). local_phase next set a a.due)
        ∙ begin_length next set round s.runners counts_length

    pub record Acts (h : ℕ) : Type 0 where
      pub runner : Runner W
      pub is : slice_get s.runners h ≡ Some runner
      pub count : ℕ
      pub counted : slice_get round h ≡ Some count
      pub acting : Acting W
      pub at : slice_get (stepping next set round s) h ≡ Some acting
      pub comes : Comes count runner acting

    pub acts : (h : ℕ) → h < length s.runners → Acts h
    acts h lt =
        let lt' : h < length round = omega (arith, lt, counts_length) in
        let r = some_at s.runners h lt in
        let c = some_at round h lt' in
        let there = map_at (λ (a : Acting W). local_phase next set a a.due) (begin_all next set round s.runners) h (begin next set c.0 r.0)
        (begin_at next set round s.runners h c.0 r.0 c.1 r.1) in
        let passing = asked_at 0 (asking next set round s.runners) s.store h (asked c.0 r.0) no_fault there in
        let le = single h in
        let same = index_at round h c.0 c.1 in
        record {
          runner = r.0;
          is = r.1;
          count = c.0;
          counted = c.1;
          acting = passing.acting;
          at = passing.at;
          comes = comes c.0 r.0 passing.acting (omega (arith, le, same)) passing.comes (room_at 0 (asking next set round s.runners) s.store h (asked c.0 r.0) no_fault there);
        }

    pub counts_as : (h : ℕ) (a : Acts h) → slice_index round h ≡ a.count
    counts_as h a = index_at round h a.count a.counted

    -- what those in the round are about to do together
    pub due_at : (h : ℕ) (a : Acts h) → a.count ≡ 1 → does_at h ≡ joint_due (next a.runner.left)
    due_at h a one =
        joint_is (begin_all next set round s.runners) h (begin next set a.count a.runner) (begin_at next set round s.runners h a.count a.runner a.counted a.is)
        ∙ ap (λ (c : ℕ). joint_due (begin next set c a.runner).due) one

    pub fits_at : (h : ℕ) (a : Acts h) → a.count ≡ 1 → fits round does_at s.tree h 1 ≡ true
    fits_at h a one =
        let none : 0 + h ≡ h = omega arith in
        subst₂ (λ (j c : ℕ). fits round does_at s.tree j c ≡ true) none one (fit_at round does_at s.tree round 0 h a.count parts.1 a.counted)
