-- How a processor goes through parts and bodies in a round.
use Rattle.std.proofs.Common.{◌≡◌, ℕ, zero, suc, Bool, true, false, List, [], ◌∷◌, ◌++◌, slice_get, Option, Some, None, ap, ◌∙◌, sym, refl, subst}
use Rattle.std.specs.Prelude.{◌==◌, ◌-◌, ◌+◌, nat_lt, if◌then◌else◌}
use Rattle.fk_meaning_operation.specs.Kinds.{class_of}
use Rattle.fk_meaning_operation.specs.declared.operation.Operation.{Operation}
use Rattle.fk_meaning_operation.specs.declared.operation.Operation.TheVariants as o
use Rattle.fk_meaning_operation.specs.declared.operation.Variable.{Variable}
use Rattle.fk_meaning_operation.specs.declared.operation.Variable.TheVariants as v
use Rattle.fk_meaning_operation.specs.declared.operation.SplitKind.TheVariants.{IfElse}
use Rattle.fk_meaning_operation.specs.declared.kinds.Class.{Class}
use Rattle.fk_meaning_operation.specs.declared.kinds.Class.TheVariants.{Local, Request, Tree}
use Rattle.fk_meaning_store.specs.Store.{private_words, private_address}
use Rattle.fk_meaning_store.specs.Serve.{words_of}
use Rattle.fk_tree.specs.Tree as t
use Rattle.fk_meaning.specs.Processor.{Call, Processor, Setting, values, last, in_place}
use Rattle.fk_meaning.specs.Local.{local, taken, stored, unframed, to_caller, is_onward}
use Rattle.fk_meaning.specs.Request.{with_answer}
use Rattle.fk_meaning.specs.Round.{Step, Runner, Fault, State, Round, Acting, Phases, taking, done, all_requests, all_changes, settled_by, tree_phase, do_local, local_phase, after_locals, begin, begin_all, asking, result}
use Rattle.fk_meaning.proofs.Stopped.{phase_fault}
use Rattle.fk_meaning_forms.specs.Code.{Code}
use Rattle.fk_meaning.specs.Next.{Work, going, next}
use Rattle.fk_meaning.specs.Sites.{rest_of, after_ways}
use Rattle.fk_meaning.specs.Behind.{outs, GoesOn, GoesOnFrom}
use Rattle.fk_meaning.specs.Shape.{of_function, Shape}
use Rattle.fk_meaning.proofs.Steps.{all_go_on}
use Rattle.fk_lockstep.specs.Parts.{IsReached, stepped_by, GoesThrough, RoundsGoThroughParts}
use Rattle.fk_lockstep.proofs.Moves.{local_number, answer_number}
use Rattle.fk_lockstep.proofs.Rounds.{Outcome, OutcomeBy, begin_at, map_at, settled_at, asked_at}

-- local operations and requests enter and leave no part
outs_stay : (op : Operation) (here : Work) (behind : List Work) (rest : Bool → Work) (c : Class) → class_of op ≡ c → (c ≡ Tree → ⊥) → GoesOn op here behind rest
    → (onward : Bool) → outs (rest onward) ≡ behind
outs_stay (o.Split IfElse) here behind rest c is isnt h = absurd (isnt (sym is))
outs_stay (o.Split by) here behind rest c is isnt h = absurd (isnt (sym is))
outs_stay o.Begin here behind rest c is isnt h = absurd (isnt (sym is))
outs_stay o.Shrink here behind rest c is isnt h = absurd (isnt (sym is))
outs_stay o.End here behind rest c is isnt h = absurd (isnt (sym is))
outs_stay o.Farm here behind rest c is isnt h = absurd (isnt (sym is))
outs_stay o.Seq here behind rest c is isnt h = absurd (isnt (sym is))
outs_stay (o.Meet true) here behind rest c is isnt h = absurd (isnt (sym is))
outs_stay (o.Meet false) here behind rest c is isnt h = h
outs_stay op here behind rest c is isnt h = h

takes_outer : (words : ℕ) (p : Processor) → (taken words p).outer ≡ p.outer
takes_outer words p = by (words == 0) (nat_lt (private_words - p.top) words)
  where
    by : (none full : Bool) → (
        if none then in_place 0 p
        else if full then in_place 0 p
        else in_place (private_address p.top) (record p { top = p.top + words })).outer ≡ p.outer
    by true full = refl
    by false true = refl
    by false false = refl

stores_outer : (w : ℕ) (variable : Variable) (p : Processor) → (stored w variable p).outer ≡ p.outer
stores_outer w (v.Private i) p = refl
stores_outer w (v.OfFile i) p = refl

unframed_outer : (framed : Bool) (p : Processor) → (unframed framed p).outer ≡ p.outer
unframed_outer true p = refl
unframed_outer false p = refl

caller_outer : (gives : Bool) (w : ℕ) (p : Processor) (cs : List Call) → (to_caller gives w p cs).outer ≡ p.outer
caller_outer gives w p [] = refl
caller_outer gives w p (c ∷ cs) = refl

local_outer : (set : Setting) (op : Operation) (p : Processor) → (local set op p).outer ≡ p.outer
local_outer set (o.Set variable) p = stores_outer (last (values p)) variable p
local_outer set o.Take p = takes_outer (words_of (last (values p))) p
local_outer set (o.Leave gives framed) p = caller_outer gives (last (values p)) (unframed framed p) p.callers ∙ unframed_outer framed p
local_outer set op p = refl

answer_outer : (op : Operation) (a : ℕ) (p : Processor) → (with_answer op a p).outer ≡ p.outer
answer_outer o.Read a p = refl
answer_outer op a p = refl

module _ (bodies : ℕ → Code ℕ) (all_bodies : (binding : ℕ) → Shape false false of_function (bodies binding)) (main : ℕ) (set : Setting) where
  abbrev Reached : Work → Type 0
  Reached work = IsReached bodies main work

  further : (ways : List Bool) (onward : Bool) (w : Work) → after_ways (next bodies) (ways ++ onward ∷ []) w ≡ rest_of (after_ways (next bodies) ways w) onward (next bodies (after_ways (next bodies) ways w))
  further [] onward w = refl
  further (way ∷ ways) onward w = further ways onward (rest_of w way (next bodies w))

  reach_rest : (work : Work) (step : Step Work) → Reached work → next bodies work ≡ Some step → (onward : Bool) → Reached (step.rest onward)
  reach_rest work step h e onward = record {
    ways = h.ways ++ onward ∷ [];
    is = sym (
        further h.ways onward (going (bodies main) [])
        ∙ ap (λ (w : Work). rest_of w onward (next bodies w)) (sym h.is)
        ∙ ap (rest_of work onward) e);
  }

  go_on : (work : Work) (step : Step Work) → Reached work → next bodies work ≡ Some step → GoesOnFrom work step
  go_on work step h e =
      subst (λ (w : Work). GoesOnFrom w step) (sym h.is)
      (all_go_on bodies all_bodies (bodies main) (all_bodies main) h.ways step (ap (next bodies) (sym h.is) ∙ e))

  -- a processor whose parts and bodies, and outer levels, are as they were
  record Kept (r : Runner Work) (a : Acting Work) : Type 0 where
    number : a.runner.has.number ≡ r.has.number
    outer : a.runner.has.outer ≡ r.has.outer
    behind : outs a.runner.left ≡ outs r.left
    reached : Reached a.runner.left
    due : (step : Step Work) → a.due ≡ Some step → next bodies a.runner.left ≡ Some step

  nothing : {A : Type 0} (step : Step Work) → ◌≡◌ {A = Option (Step Work)} None (Some step) → A
  nothing step e = absurd (cc)

  -- one more operation that is no step of the tree
  one_more : (r q : Runner Work) (step : Step Work) (c : Class) → class_of step.operation ≡ c → (c ≡ Tree → ⊥) → next bodies q.left ≡ Some step
      → q.has.number ≡ r.has.number → q.has.outer ≡ r.has.outer → outs q.left ≡ outs r.left → Reached q.left
      → (onward : Bool) (p : Processor) → p.number ≡ q.has.number → p.outer ≡ q.has.outer → Kept r (done step onward p)
  one_more r q step c is isnt e number outer behind reached onward p same same_outer = record {
    number = same ∙ number;
    outer = same_outer ∙ outer;
    behind = outs_stay step.operation q.left (outs q.left) step.rest c is isnt (go_on q.left step reached e) onward ∙ behind;
    reached = reach_rest q.left step reached e onward;
    due = λ step' e'. nothing step' e';
  }

  local_not_tree : ◌≡◌ {A = Class} Local Tree → ⊥
  local_not_tree e = cc

  request_not_tree : ◌≡◌ {A = Class} Request Tree → ⊥
  request_not_tree e = cc

  acts : (r q : Runner Work) → q.has.number ≡ r.has.number → q.has.outer ≡ r.has.outer → outs q.left ≡ outs r.left → Reached q.left
      → (due : Option (Step Work)) → next bodies q.left ≡ due → Kept r (local_phase (next bodies) set (taking q due) due)
  acts r q number outer behind reached None e =
      record { number = number; outer = outer; behind = behind; reached = reached; due = λ step e'. nothing step e' }
  acts r q number outer behind reached (Some step) e = by (class_of step.operation) refl
    where
      stays : Kept r (taking q (Some step))
      stays = record { number = number; outer = outer; behind = behind; reached = reached; due = λ step' e'. e ∙ e' }

      by : (c : Class) → class_of step.operation ≡ c → Kept r (do_local (next bodies) set (taking q (Some step)) c step)
      by Local is =
          one_more r q step Local is local_not_tree e number outer behind reached (is_onward step.operation q.has) (local set step.operation q.has)
          (local_number set step.operation q.has) (local_outer set step.operation q.has)
      by Request is = stays
      by Tree is = stays

  abbrev acting_on : Runner Work → Acting Work
  acting_on q = local_phase (next bodies) set (taking q (next bodies q.left)) (next bodies q.left)

  many : (count : ℕ) (r q : Runner Work) → q.has.number ≡ r.has.number → q.has.outer ≡ r.has.outer → outs q.left ≡ outs r.left → Reached q.left
      → Kept r (acting_on (after_locals (next bodies) set count q))
  many zero r q number outer behind reached = acts r q number outer behind reached (next bodies q.left) refl
  many (suc c) r q number outer behind reached =
      let k = acts r q number outer behind reached (next bodies q.left) refl in
      many c r (acting_on q).runner k.number k.outer k.behind k.reached

  abbrev asked : ℕ → Runner Work → Acting Work
  asked count r = let a = begin (next bodies) set count r in local_phase (next bodies) set a a.due

  asks : (count : ℕ) (r : Runner Work) → Reached r.left → Kept r (asked count r)
  asks zero r reached = record { number = refl; outer = refl; behind = refl; reached = reached; due = λ step e. nothing step e }
  asks (suc c) r reached = many c r r refl refl refl reached

  as_kept : (r : Runner Work) (a b : Acting Work) → b ≡ a → Kept r a → Kept r b
  as_kept r a b e k = subst (Kept r) (sym e) k

  serves : (r : Runner Work) (a b : Acting Work) → Kept r a → (due : Option (Step Work)) → a.due ≡ due → Outcome a due b → Kept r b
  serves r a b k None e out = as_kept r a b out k
  serves r a b k (Some step) e out = by (class_of step.operation) refl out
    where
      by : (c : Class) → class_of step.operation ≡ c → OutcomeBy c a step b → Kept r b
      by Local is out' = as_kept r a b out' k
      by Request is out' =
          let p = a.runner.has in
          as_kept r (done step true (with_answer step.operation out'.0 p)) b out'.1
          (one_more r a.runner step Request is request_not_tree (k.due step e) k.number k.outer k.behind k.reached true (with_answer step.operation out'.0 p)
          (answer_number step.operation out'.0 p) (answer_outer step.operation out'.0 p))
      by Tree is out' = as_kept r a b out' k

  module _ (round : Round) (s : State Work) where
    abbrev phases : Phases Work
    phases = all_requests 0 (asking (next bodies) set round s.runners) s.store

    abbrev new : t.Tree
    new = all_changes phases.acting s.tree phases.acting s.tree

    reached_by : (due : Option (Step Work)) (q : Runner Work) → Reached q.left → ((step : Step Work) → due ≡ Some step → next bodies q.left ≡ Some step)
        → Reached (stepped_by bodies main set round s due q).left
    reached_by None q h e = h
    reached_by (Some step) q h e = reach_rest q.left step h (e step refl) _

    goes_through : (h count : ℕ) (r : Runner Work) → (result (next bodies) set round s).fault ≡ None → slice_get s.runners h ≡ Some r → slice_get round h ≡ Some count
        → Reached r.left → GoesThrough bodies main set round s h r
    goes_through h count r fine at counts reached =
        let no_fault : phases.fault ≡ None = sym (phase_fault s.tree phases.store phases.acting phases.fault) ∙ fine in
        let is : result (next bodies) set round s ≡ tree_phase s.tree phases.store phases.acting None
        = ap (λ (fault : Option Fault). tree_phase s.tree phases.store phases.acting fault) no_fault in
        let there = map_at (λ (a : Acting Work). local_phase (next bodies) set a a.due) (begin_all (next bodies) set round s.runners) h (begin (next bodies) set count r)
        (begin_at (next bodies) set round s.runners h count r counts at) in
        let passing = asked_at 0 (asking (next bodies) set round s.runners) s.store h (asked count r) no_fault there in
        let b = passing.acting in
        let k = serves r (asked count r) b (asks count r reached) (asked count r).due refl passing.comes in
        let settled_is : slice_get (result (next bodies) set round s).runners h ≡ Some (settled_by phases.acting s.tree new b.runner b.due)
        = ap (λ (u : State Work). slice_get u.runners h) is ∙ settled_at phases.acting s.tree new phases.acting h b passing.at in
        record {
          acting = b;
          stands = passing.at;
          number = k.number;
          outer = k.outer;
          outs = k.behind;
          reached = k.reached;
          step = λ step due. go_on b.runner.left step k.reached (k.due step due);
          after = settled_is ∙ ap (λ (x : Runner Work). Some x) (stepped b.runner b.due (sym (ap (λ (u : State Work). u.tree) is)));
          reached_after = reached_by b.due b.runner k.reached k.due;
        }
      where
        stepped : (q : Runner Work) (due : Option (Step Work)) → new ≡ (result (next bodies) set round s).tree
            → settled_by phases.acting s.tree new q due ≡ stepped_by bodies main set round s due q
        stepped q None e = refl
        stepped q (Some step) e = ap (λ (tree : t.Tree). settled_by phases.acting s.tree tree q (Some step)) e

pub rounds_go_through_parts : RoundsGoThroughParts
rounds_go_through_parts bodies all_bodies main set round s h count r fine at counts reached =
    goes_through bodies all_bodies main set round s h count r fine at counts reached
