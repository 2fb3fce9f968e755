-- What a round makes of two members of a group that are together.
use Rattle.std.proofs.Common.{◌≡◌, ℕ, zero, suc, Bool, true, false, List, [], ◌∷◌, length, map, slice_get, Option, Some, None, ap, ap₂, ◌∙◌, sym, refl, subst, subst₂}
use Rattle.std.specs.Prelude.{if◌then◌else◌}
use Rattle.fk_meaning_operation.specs.Kinds.{class_of}
use Rattle.fk_meaning_operation.specs.declared.operation.Operation.{Operation}
use Rattle.fk_meaning_operation.specs.declared.operation.Operation.TheVariants as o
use Rattle.fk_meaning_operation.specs.declared.kinds.Class.{Class}
use Rattle.fk_meaning_operation.specs.declared.kinds.Class.TheVariants.{Local, Request, Tree}
use Rattle.fk_meaning_store.specs.Store.{Store}
use Rattle.fk_meaning_store.specs.Serve.{Answer, Served, Faults, serve}
use Rattle.fk_tree.specs.Tree as t
use Rattle.fk_meaning.specs.Processor.{Processor, Setting, values, last}
use Rattle.fk_meaning.specs.Local.{local, is_onward}
use Rattle.fk_meaning.specs.Request.{request, with_answer}
use Rattle.fk_meaning.specs.Group.{does, goes_onward, has_room}
use Rattle.fk_meaning.specs.Round.{Step, Runner, Fault, State, Round, Acting, Phase, Passes, Breaks, Phases, taking, done, answered, do_request, request_phase, after_phase, all_requests, lowest, agreed, all_changes, settled_by, settled, tree_phase, do_local, local_phase, after_locals, begin, begin_all, asking, result}
use Rattle.fk_meaning.proofs.Stopped.{phase_fault}
use Rattle.fk_meaning_forms.specs.Code.{Code}
use Rattle.fk_meaning.specs.Next.{Work, next}
use Rattle.fk_lockstep.specs.InStep.{is_agree, may_stand, leaves_step, InStep, WorkInStep}
use Rattle.fk_lockstep.specs.Together.{SamePlace, OneWay, ActTogether, GroupsGoOn}
use Rattle.fk_lockstep.proofs.Weaken.{untrue}
use Rattle.fk_lockstep.proofs.Steps.{Stepped, is_stepped}
use Rattle.fk_lockstep.proofs.Moves.{locally, local_number, onward_alike, answers, answer_number, does_alike, way_alike}

-- local operations and requests part no group, and it agrees on nothing by them
record Plain (op : Operation) : Type 0 where
  stays : leaves_step op ≡ false
  no_agree : is_agree op ≡ false

local_is_plain : (op : Operation) → class_of op ≡ Local → Plain op
local_is_plain o.Agree e = absurd (cc)
local_is_plain o.Farm e = absurd (cc)
local_is_plain o.Seq e = absurd (cc)
local_is_plain o.End e = absurd (cc)
local_is_plain op e = record { stays = refl; no_agree = refl }

request_is_plain : (op : Operation) → class_of op ≡ Request → Plain op
request_is_plain o.Agree e = absurd (cc)
request_is_plain o.Farm e = absurd (cc)
request_is_plain o.Seq e = absurd (cc)
request_is_plain o.End e = absurd (cc)
request_is_plain op e = record { stays = refl; no_agree = refl }

-- what one processor's request comes to
abbrev pub OutcomeBy : {W : Type 0} → Class → Acting W → Step W → Acting W → Type 0
OutcomeBy Local a step b = b ≡ a
OutcomeBy Request a step b = (v : ℕ) × (b ≡ done step true (with_answer step.operation v a.runner.has))
OutcomeBy Tree a step b = b ≡ a

abbrev pub Outcome : {W : Type 0} → Acting W → Option (Step W) → Acting W → Type 0
Outcome a None b = b ≡ a
Outcome a (Some step) b = OutcomeBy (class_of step.operation) a step b

passed : {W : Type 0} (s s' : Store) (a b : Acting W) → Passes s a ≡ Passes s' b → b ≡ a
passed s s' a b e = let same : a ≡ b = cc in sym same

outcome_answered : {W : Type 0} (s' : Store) (step : Step W) (p : Processor) (b : Acting W) (answer : Answer) → answered step p answer ≡ Passes s' b
    → (v : ℕ) × (b ≡ done step true (with_answer step.operation v p))
outcome_answered s' step p b (Served s v) e = (v, passed s s' (done step true (with_answer step.operation v p)) b e)
outcome_answered s' step p b (Faults kind) e = absurd (cc)

outcome_room : {W : Type 0} (s s' : Store) (a b : Acting W) (site : ℕ) (room : Bool) → (if room then Passes s a else Breaks site) ≡ Passes s' b → b ≡ a
outcome_room s s' a b site true e = passed s s' a b e
outcome_room s s' a b site false e = absurd (cc)

outcome_by : {W : Type 0} (s s' : Store) (a b : Acting W) (c : Class) (step : Step W) → do_request s a c step ≡ Passes s' b → OutcomeBy c a step b
outcome_by s s' a b Local step e = passed s s' a b e
outcome_by s s' a b Request step e = outcome_answered s' step a.runner.has b (serve (request step.operation a.runner.has) s a.runner.has.number) e
outcome_by s s' a b Tree step e = outcome_room s s' a b step.site (has_room step.operation a.runner.has) e

has_outcome : {W : Type 0} (s s' : Store) (a b : Acting W) (due : Option (Step W)) → request_phase s a due ≡ Passes s' b → Outcome a due b
has_outcome s s' a b None e = passed s s' a b e
has_outcome s s' a b (Some step) e = outcome_by s s' a b (class_of step.operation) step e

-- the steps of a tree, with what a processor is told of it
abbrev pub gone : {W : Type 0} → Step W → (highest lowest size : ℕ) → Runner W → Runner W
gone step highest lowest size r = record {
  left = step.rest (goes_onward step.operation highest lowest r.has);
  has = does step.operation highest size r.has;
}

abbrev pub gone_by : {W : Type 0} → Option (Step W) → (highest lowest size : ℕ) → Runner W → Runner W
gone_by None highest lowest size r = r
gone_by (Some step) highest lowest size r = gone step highest lowest size r

pub settled_as : {W : Type 0} (actings : List (Acting W)) (old new : t.Tree) (r : Runner W) (due : Option (Step W)) (n m : ℕ)
    → old.places r.has.number ≡ n → new.places r.has.number ≡ m
    → settled_by actings old new r due ≡ gone_by due (agreed actings (t.members old n)) (lowest (t.members old n)) (length (t.members new m)) r
settled_as actings old new r None n m e e' = refl
settled_as actings old new r (Some step) n m e e' =
    ap₂ (λ (n' m' : ℕ). gone step (agreed actings (t.members old n')) (lowest (t.members old n')) (length (t.members new m')) r) e e'

agree_alike : (op : Operation) (highest size : ℕ) (p q : Processor) → is_agree op ≡ true → last (values (does op highest size p)) ≡ last (values (does op highest size q))
agree_alike o.Agree highest size p q e = refl
agree_alike op highest size p q e = untrue e

-- lists by their indices
pub begin_at : {W : Type 0} (next : W → Option (Step W)) (set : Setting) (round : Round) (rs : List (Runner W)) (g c : ℕ) (r : Runner W)
    → slice_get round g ≡ Some c → slice_get rs g ≡ Some r → slice_get (begin_all next set round rs) g ≡ Some (begin next set c r)
begin_at next set [] rs g c r e f = absurd (cc)
begin_at next set (x ∷ round) [] g c r e f = absurd (cc)
begin_at next set (x ∷ round) (y ∷ rs) zero c r e f =
    let same : x ≡ c = cc in
    let runner : y ≡ r = cc in
    ap₂ (λ (c' : ℕ) (r' : Runner _). Some (begin next set c' r')) same runner
begin_at next set (x ∷ round) (y ∷ rs) (suc g) c r e f = begin_at next set round rs g c r e f

pub map_at : {A B : Type 0} (f : A → B) (xs : List A) (g : ℕ) (x : A) → slice_get xs g ≡ Some x → slice_get (map f xs) g ≡ Some (f x)
map_at f [] g x e = absurd (cc)
map_at f (y ∷ xs) zero x e = let same : y ≡ x = cc in ap (λ z. Some (f z)) same
map_at f (y ∷ xs) (suc g) x e = map_at f xs g x e

pub settled_at : {W : Type 0} (actings : List (Acting W)) (old new : t.Tree) (others : List (Acting W)) (g : ℕ) (b : Acting W)
    → slice_get others g ≡ Some b → slice_get (settled actings old new others) g ≡ Some (settled_by actings old new b.runner b.due)
settled_at actings old new [] g b e = absurd (cc)
settled_at actings old new (c ∷ others) zero b e =
    let same : c ≡ b = cc in ap (λ (a : Acting _). Some (settled_by actings old new a.runner a.due)) same
settled_at actings old new (c ∷ others) (suc g) b e = settled_at actings old new others g b e

-- who passes the phase of requests
pub record Passing {W : Type 0} (actings : List (Acting W)) (g : ℕ) (a : Acting W) : Type 0 where
  pub acting : Acting W
  pub at : slice_get actings g ≡ Some acting
  pub comes : Outcome a a.due acting

pub asked_at : {W : Type 0} (number : ℕ) (actings : List (Acting W)) (s : Store) (g : ℕ) (a : Acting W)
    → (all_requests number actings s).fault ≡ None → slice_get actings g ≡ Some a → Passing (all_requests number actings s).acting g a
asked_at number [] s g a e at = absurd (cc)
asked_at {W = W} number (a' ∷ actings) s zero a e at = by (request_phase s a' a'.due) refl e
  where
    same : a' ≡ a
    same = cc

    by : (phase : Phase W) → request_phase s a' a'.due ≡ phase → (after_phase number s a' actings (all_requests (suc number) actings) phase).fault ≡ None
        → Passing (after_phase number s a' actings (all_requests (suc number) actings) phase).acting 0 a
    by (Passes s' b) f e' =
        record { acting = b; at = refl; comes = subst (λ (x : Acting W). Outcome x x.due b) same (has_outcome s s' a' b a'.due f) }
    by (Breaks site) f e' = absurd (cc)
asked_at {W = W} number (a' ∷ actings) s (suc g) a e at = by (λ s' e'. asked_at (suc number) actings s' g a e' at) (request_phase s a' a'.due) e
  where
    by : ((s' : Store) → (all_requests (suc number) actings s').fault ≡ None → Passing (all_requests (suc number) actings s').acting g a)
        → (phase : Phase W) → (after_phase number s a' actings (all_requests (suc number) actings) phase).fault ≡ None
        → Passing (after_phase number s a' actings (all_requests (suc number) actings) phase).acting (suc g) a
    by others (Passes s' b) e' = let r = others s' e' in record { acting = r.acting; at = r.at; comes = r.comes }
    by others (Breaks site) e' = absurd (cc)

-- of any form of what is left, a part of which is in step
pub record StepIn {W : Type 0} (P : Bool → W → Type 0) (behind : Bool) (step : Step W) : Type 0 where
  pub stands : may_stand behind step.operation ≡ true
  pub goes_on : leaves_step step.operation ≡ false → (onward : Bool) → P (is_agree step.operation) (step.rest onward)

abbrev pub StepsIn : {W : Type 0} → (P : Bool → W → Type 0) → (behind : Bool) → Option (Step W) → Type 0
StepsIn P behind None = Unit {0}
StepsIn P behind (Some step) = StepIn P behind step

module _ {W : Type 0} (next : W → Option (Step W)) (set : Setting) (P : Bool → W → Type 0) (steps : (behind : Bool) (w : W) → P behind w → StepsIn P behind (next w)) (n m : ℕ) where
  -- two processors with these numbers
  pub record Pair (behind : Bool) (r q : Runner W) : Type 0 where
    pub left : r.left ≡ q.left
    pub place : SamePlace r.has q.has
    pub in_step : P behind r.left
    pub value : behind ≡ true → last (values r.has) ≡ last (values q.has)
    pub first : r.has.number ≡ n
    pub second : q.has.number ≡ m

  record SomePair (r q : Runner W) : Type 0 where
    behind : Bool
    pair : Pair behind r q

  record Both (behind : Bool) (a b : Acting W) : Type 0 where
    due : a.due ≡ b.due
    pair : Pair behind a.runner b.runner
    step : StepsIn P behind a.due

  record SomeBoth (a b : Acting W) : Type 0 where
    behind : Bool
    both : Both behind a b

  -- an operation is done, on which the group has not agreed
  is_done : (behind : Bool) (step : Step W) (r q : Runner W) → Pair behind r q → StepIn P behind step → Plain step.operation
      → (onward other : Bool) → onward ≡ other → (p' q' : Processor) → SamePlace p' q' → p'.number ≡ n → q'.number ≡ m
      → Both false (done step onward p') (done step other q')
  is_done behind step r q h g plain onward other e p' q' place first second = record {
    due = refl;
    pair = record {
      left = ap step.rest e;
      place = place;
      in_step = subst (λ (b : Bool). P b (step.rest onward)) plain.no_agree (g.goes_on plain.stays onward);
      value = λ is. untrue is;
      first = first;
      second = second;
    };
    step = tt;
  }

  -- local operations
  acted : (behind : Bool) (r q : Runner W) → Pair behind r q → (due : Option (Step W)) → StepsIn P behind due
      → SomeBoth (local_phase next set (taking r due) due) (local_phase next set (taking q due) due)
  acted behind r q h None g = record { behind = behind; both = record { due = refl; pair = h; step = tt } }
  acted behind r q h (Some step) g = by (class_of step.operation) refl
    where
      by : (c : Class) → class_of step.operation ≡ c
          → SomeBoth (do_local next set (taking r (Some step)) c step) (do_local next set (taking q (Some step)) c step)
      by Local e = record {
        behind = false;
        both = is_done behind step r q h g (local_is_plain step.operation e)
            (is_onward step.operation r.has) (is_onward step.operation q.has) (onward_alike behind step.operation r.has q.has g.stands h.value)
            (local set step.operation r.has) (local set step.operation q.has) (locally set step.operation r.has q.has h.place)
            (local_number set step.operation r.has ∙ h.first) (local_number set step.operation q.has ∙ h.second);
      }
      by Request e = record { behind = behind; both = record { due = refl; pair = h; step = g } }
      by Tree e = record { behind = behind; both = record { due = refl; pair = h; step = g } }

  abbrev acting_on : Runner W → Acting W
  acting_on r = local_phase next set (taking r (next r.left)) (next r.left)

  act : (behind : Bool) (r q : Runner W) → Pair behind r q → SomeBoth (acting_on r) (acting_on q)
  act behind r q h =
      subst (λ (due : Option (Step W)). SomeBoth (acting_on r) (local_phase next set (taking q due) due)) (ap next h.left)
      (acted behind r q h (next r.left) (steps behind r.left h.in_step))

  many : (count : ℕ) (behind : Bool) (r q : Runner W) → Pair behind r q → SomePair (after_locals next set count r) (after_locals next set count q)
  many zero behind r q h = record { behind = behind; pair = h }
  many (suc c) behind r q h =
      let g = act behind r q h in many c g.behind (acting_on r).runner (acting_on q).runner g.both.pair

  abbrev asked : ℕ → Runner W → Acting W
  asked count r = let a = begin next set count r in local_phase next set a a.due

  asks : (count : ℕ) (behind : Bool) (r q : Runner W) → Pair behind r q → SomeBoth (asked count r) (asked count q)
  asks zero behind r q h = record { behind = behind; both = record { due = refl; pair = h; step = tt } }
  asks (suc c) behind r q h = let g = many c behind r q h in act g.behind (after_locals next set c r) (after_locals next set c q) g.pair

  -- requests
  unchanged : (behind : Bool) (a b a' b' : Acting W) → Both behind a b → a' ≡ a → b' ≡ b → SomeBoth a' b'
  unchanged behind a b a' b' h e f = record { behind = behind; both = subst₂ (λ (x y : Acting W). Both behind x y) (sym e) (sym f) h }

  requested : (behind : Bool) (a b a' b' : Acting W) → Both behind a b → (due : Option (Step W)) → StepsIn P behind due → Outcome a due a' → Outcome b due b' → SomeBoth a' b'
  requested behind a b a' b' h None g e f = unchanged behind a b a' b' h e f
  requested behind a b a' b' h (Some step) g e f = by (class_of step.operation) refl e f
    where
      by : (c : Class) → class_of step.operation ≡ c → OutcomeBy c a step a' → OutcomeBy c b step b' → SomeBoth a' b'
      by Local is e' f' = unchanged behind a b a' b' h e' f'
      by Request is e' f' =
          let p = a.runner.has in
          let q = b.runner.has in
          let pair = h.pair in
          unchanged false (done step true (with_answer step.operation e'.0 p)) (done step true (with_answer step.operation f'.0 q)) a' b'
          (is_done behind step a.runner b.runner pair g (request_is_plain step.operation is) true true refl
          (with_answer step.operation e'.0 p) (with_answer step.operation f'.0 q) (answers step.operation e'.0 f'.0 p q pair.place)
          (answer_number step.operation e'.0 p ∙ pair.first) (answer_number step.operation f'.0 q ∙ pair.second))
          e'.1 f'.1
      by Tree is e' f' = unchanged behind a b a' b' h e' f'

  serve_both : (behind : Bool) (a b a' b' : Acting W) → Both behind a b → Outcome a a.due a' → Outcome b b.due b' → SomeBoth a' b'
  serve_both behind a b a' b' h e f =
      requested behind a b a' b' h a.due h.step e (subst (λ (due : Option (Step W)). Outcome b due b') (sym h.due) f)

  -- steps of the tree
  pub record Afterwards (due : Option (Step W)) (r q : Runner W) : Type 0 where
    pub left : r.left ≡ q.left
    pub place : SamePlace r.has q.has
    pub pair : ((step : Step W) → due ≡ Some step → leaves_step step.operation ≡ false) → (behind : Bool) × (P behind r.left) × (behind ≡ true → last (values r.has) ≡ last (values q.has))

  go : (behind : Bool) (r q : Runner W) → Pair behind r q → (due : Option (Step W)) → StepsIn P behind due → (highest lowest size : ℕ)
      → ((step : Step W) → due ≡ Some step → OneWay step.operation highest lowest r.has q.has)
      → Afterwards due (gone_by due highest lowest size r) (gone_by due highest lowest size q)
  go behind r q h None g highest lowest size way =
      record { left = h.left; place = h.place; pair = λ stays. (behind, h.in_step, h.value) }
  go behind r q h (Some step) g highest lowest size way =
      let op = step.operation in
      let one = way step refl in
      record {
        left = ap step.rest (way_alike op highest lowest r.has q.has one);
        place = does_alike behind op highest lowest size r.has q.has g.stands h.value one h.place;
        pair = λ stays.
            (is_agree op, g.goes_on (stays step refl) (goes_onward op highest lowest r.has), agree_alike op highest size r.has q.has);
      }

  -- a round
  module _ (round : Round) (s : State W) where
    abbrev asks_all : List (Acting W)
    asks_all = asking next set round s.runners

    abbrev phases : Phases W
    phases = all_requests 0 asks_all s.store

    abbrev after : Option Fault → State W
    after fault = tree_phase s.tree phases.store phases.acting fault

    abbrev new : t.Tree
    new = all_changes phases.acting s.tree phases.acting s.tree

    ask_at : (i c : ℕ) (r : Runner W) → slice_get round i ≡ Some c → slice_get s.runners i ≡ Some r → slice_get asks_all i ≡ Some (asked c r)
    ask_at i c r e f =
        map_at (λ (a : Acting W). local_phase next set a a.due) (begin_all next set round s.runners) i (begin next set c r) (begin_at next set round s.runners i c r e f)

    -- two processors afterwards
    pub record Went (g h : ℕ) : Type 0 where
      pub due : Option (Step W)
      pub first : Runner W
      pub second : Runner W
      pub acting : Acting W
      pub acting_is : slice_get phases.acting g ≡ Some acting
      pub due_is : acting.due ≡ due
      pub first_is : slice_get (result next set round s).runners g ≡ Some first
      pub second_is : slice_get (result next set round s).runners h ≡ Some second
      pub gone_on : Afterwards due first second

    module _ (g h : ℕ) (r q : Runner W) (together : ActTogether next set round s g h r q) where
      no_fault : phases.fault ≡ None
      no_fault = sym (phase_fault s.tree phases.store phases.acting phases.fault) ∙ together.no_fault

      is : result next set round s ≡ after None
      is = ap after no_fault

      settles : (i : ℕ) (b : Acting W) → slice_get phases.acting i ≡ Some b
          → slice_get (result next set round s).runners i ≡ Some (settled_by phases.acting s.tree new b.runner b.due)
      settles i b at =
          ap (λ (u : State W). slice_get u.runners i) is ∙ settled_at phases.acting s.tree new phases.acting i b at

      finish : (first : r.has.number ≡ n) (second : q.has.number ≡ m) (behind : Bool) (a b : Acting W) → slice_get phases.acting g ≡ Some a → slice_get phases.acting h ≡ Some b
          → Both behind a b → Went g h
      finish first second behind a b at_a at_b both =
          let place = s.tree.places r.has.number in
          let new_place = new.places r.has.number in
          let highest_value = agreed phases.acting (t.members s.tree place) in
          let lowest_one = lowest (t.members s.tree place) in
          let size = length (t.members new new_place) in
          let pair = both.pair in
          let went = go behind a.runner b.runner pair a.due both.step highest_value lowest_one size
          (λ step due. together.one_way a b step (at_a, due) (at_b, sym both.due ∙ due)) in
          let new_is : (result next set round s).tree ≡ new = ap (λ (u : State W). u.tree) is in
          let still : new.places r.has.number ≡ new.places q.has.number
          = subst (λ (tree : t.Tree). tree.places r.has.number ≡ tree.places q.has.number) new_is together.still_one_node in
          let first_same : a.runner.has.number ≡ r.has.number = pair.first ∙ sym first in
          let second_same : b.runner.has.number ≡ q.has.number = pair.second ∙ sym second in
          let first_as : settled_by phases.acting s.tree new a.runner a.due ≡ gone_by a.due highest_value lowest_one size a.runner
          = settled_as phases.acting s.tree new a.runner a.due place new_place (ap s.tree.places first_same) (ap new.places first_same) in
          let second_as : settled_by phases.acting s.tree new b.runner b.due ≡ gone_by b.due highest_value lowest_one size b.runner
          = settled_as phases.acting s.tree new b.runner b.due place new_place (ap s.tree.places second_same ∙ sym together.one_node) (ap new.places second_same ∙ sym still) in
          let second_due : gone_by b.due highest_value lowest_one size b.runner ≡ gone_by a.due highest_value lowest_one size b.runner
          = ap (λ (due : Option (Step W)). gone_by due highest_value lowest_one size b.runner) (sym both.due) in
          record {
            due = a.due;
            first = gone_by a.due highest_value lowest_one size a.runner;
            second = gone_by a.due highest_value lowest_one size b.runner;
            acting = a;
            acting_is = at_a;
            due_is = refl;
            first_is = settles g a at_a ∙ ap (λ (x : Runner W). Some x) first_as;
            second_is = settles h b at_b ∙ ap (λ (x : Runner W). Some x) (second_as ∙ second_due);
            gone_on = went;
          }

      pub goes_on : (behind : Bool) → Pair behind r q → Went g h
      goes_on behind start =
          let c = together.count in
          let asking_both = asks c behind r q start in
          let first = asked_at 0 asks_all s.store g (asked c r) no_fault (ask_at g c r together.first_count together.first) in
          let second = asked_at 0 asks_all s.store h (asked c q) no_fault (ask_at h c q together.second_count together.second) in
          let served_both = serve_both asking_both.behind (asked c r) (asked c q) first.acting second.acting asking_both.both first.comes second.comes in
          finish start.first start.second served_both.behind first.acting second.acting first.at second.at served_both.both

-- a round of a program
module _ (may_call : ℕ → Bool) (bodies : ℕ → Code ℕ) (all_bodies : (function : ℕ) → may_call function ≡ true → InStep may_call false (bodies function)) where
  abbrev Goes : Bool → Work → Type 0
  Goes behind work = WorkInStep may_call behind work

  step_in : (behind : Bool) (due : Option (Step Work)) → Stepped may_call behind due → StepsIn Goes behind due
  step_in behind None g = tt
  step_in behind (Some step) g = record { stands = g.stands; goes_on = g.goes_on }

  steps_in : (behind : Bool) (work : Work) → Goes behind work → StepsIn Goes behind (next bodies work)
  steps_in behind work h = step_in behind (next bodies work) (is_stepped may_call bodies all_bodies behind work h)

pub groups_go_on : GroupsGoOn
groups_go_on may_call bodies all_bodies set round s g h r q together behind start =
    let P = Goes may_call bodies all_bodies in
    let steps = steps_in may_call bodies all_bodies in
    let opening : Pair (next bodies) set P steps r.has.number q.has.number behind r q = record {
      left = start.left;
      place = start.place;
      in_step = start.in_step;
      value = start.value;
      first = refl;
      second = refl;
    } in
    let w = goes_on (next bodies) set P steps r.has.number q.has.number round s g h r q together behind opening in
    record {
      first = w.first;
      second = w.second;
      first_is = w.first_is;
      second_is = w.second_is;
      left = w.gone_on.left;
      place = w.gone_on.place;
      together = λ stays.
          let t' = w.gone_on.pair (λ step due. stays w.acting step (w.acting_is, w.due_is ∙ due)) in
          (t'.0, record { left = w.gone_on.left; place = w.gone_on.place; in_step = t'.1; value = t'.2 });
    }
