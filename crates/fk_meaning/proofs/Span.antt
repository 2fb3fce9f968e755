-- Two forms of what is left to do whose operations agree have the same runs.
use Rattle.std.proofs.Common.{◌≡◌, ℕ, zero, suc, true, List, ◌∷◌, map, Option, Some, None, ap, ap₂, ◌∙◌, sym, refl, subst}
use Rattle.std.specs.Prelude.{option_map}
use Rattle.fk_num.specs.Word.{Memory}
use Rattle.fk_meaning.specs.Processor.{Setting, setting_of}
use Rattle.fk_meaning.specs.Alike.{Same, RunAlike, FormsRunAlike}
use Rattle.fk_meaning.specs.Round.{Step, Runner, State}
use Rattle.fk_meaning.specs.Schedule.{Schedule, run, stand_of, first_processor, beginners, opening}
use Rattle.fk_tree.specs.Tree.{root}
use Rattle.fk_meaning_store.specs.Store.{opening_store}
use Rattle.fk_meaning.proofs.Natural.{step_by, runner_by, state_by, runs, stands, lawful_to, lawful_from}

module _ {V W : Type 0} (next : V → Option (Step V)) (next' : W → Option (Step W)) (set : Setting) (R : V → W → Type 0) (same : (v : V) (w : W) → R v w → Same R (next v) (next' w)) where
  abbrev Pair : Type 0
  Pair = (v : V) × (w : W) × R v w

  abbrev paired : (s : Option (Step V)) (u : Option (Step W)) → Same R s u → Option (Step Pair)
  paired None None h = None
  paired (Some s) (Some u) h = Some (record { operation = s.operation; site = s.site; rest = λ onward. (s.rest onward, u.rest onward, h.2 onward) })
  paired None (Some u) h = None
  paired (Some s) None h = None

  abbrev next_pair : Pair → Option (Step Pair)
  next_pair p = paired (next p.0) (next' p.1) (same p.0 p.1 p.2)

  abbrev left_of : Pair → V
  left_of p = p.0

  abbrev right_of : Pair → W
  right_of p = p.1

  left_natural : (p : Pair) → next (left_of p) ≡ option_map (step_by left_of) (next_pair p)
  left_natural p = by (next p.0) (next' p.1) (same p.0 p.1 p.2)
    where
      by : (s : Option (Step V)) (u : Option (Step W)) (h : Same R s u) → s ≡ option_map (step_by left_of) (paired s u h)
      by None None h = refl
      by (Some s) (Some u) h = refl
      by None (Some u) h = absurd h
      by (Some s) None h = absurd h

  right_natural : (p : Pair) → next' (right_of p) ≡ option_map (step_by right_of) (next_pair p)
  right_natural p = by (next p.0) (next' p.1) (same p.0 p.1 p.2)
    where
      by : (s : Option (Step V)) (u : Option (Step W)) (h : Same R s u) → u ≡ option_map (step_by right_of) (paired s u h)
      by None None h = refl
      by (Some s) (Some u) h = ap₂ (λ op site. Some (record { operation = op; site = site; rest = u.rest })) (sym h.0) (sym h.1)
      by None (Some u) h = absurd h
      by (Some s) None h = absurd h

  lefts : (set' : Setting) (own : Memory) (p : Pair) (h n : ℕ) → map (runner_by left_of) (beginners set' own p h n) ≡ beginners set' own p.0 h n
  lefts set' own p h zero = refl
  lefts set' own p h (suc n) = ap (λ rs. let r : Runner V = record { left = p.0; has = first_processor set' own h } in r ∷ rs) (lefts set' own p (suc h) n)

  rights : (set' : Setting) (own : Memory) (p : Pair) (h n : ℕ) → map (runner_by right_of) (beginners set' own p h n) ≡ beginners set' own p.1 h n
  rights set' own p h zero = refl
  rights set' own p h (suc n) = ap (λ rs. let r : Runner W = record { left = p.1; has = first_processor set' own h } in r ∷ rs) (rights set' own p (suc h) n)

  opens_left : (n : ℕ) (globals input : List ℕ) (own : Memory) (p : Pair) → state_by left_of (opening n globals input own p) ≡ opening n globals input own p.0
  opens_left n globals input own p =
      ap (λ rs. let s : State V = record { store = opening_store globals input; tree = root n; runners = rs; fault = None } in s) (lefts (setting_of n globals input) own p 0 n)

  opens_right : (n : ℕ) (globals input : List ℕ) (own : Memory) (p : Pair) → state_by right_of (opening n globals input own p) ≡ opening n globals input own p.1
  opens_right n globals input own p =
      ap (λ rs. let s : State W = record { store = opening_store globals input; tree = root n; runners = rs; fault = None } in s) (rights (setting_of n globals input) own p 0 n)

  pub alike : (schedule : Schedule) (s : State Pair) → RunAlike next next' set schedule (state_by left_of s) (state_by right_of s)
  alike schedule s = record {
    there = λ h. lawful_to next_pair next' set right_of right_natural schedule s (lawful_from next_pair next set left_of left_natural schedule s h);
    back = λ h. lawful_to next_pair next set left_of left_natural schedule s (lawful_from next_pair next' set right_of right_natural schedule s h);
    store = ap (λ (x : State V). x.store) (runs next_pair next set left_of left_natural schedule s)
        ∙ sym (ap (λ (x : State W). x.store) (runs next_pair next' set right_of right_natural schedule s));
    stand = ap (stand_of next set) (runs next_pair next set left_of left_natural schedule s)
        ∙ stands next_pair next set left_of left_natural (run next_pair set schedule s)
        ∙ sym (stands next_pair next' set right_of right_natural (run next_pair set schedule s))
        ∙ sym (ap (stand_of next' set) (runs next_pair next' set right_of right_natural schedule s));
  }

  pub alike_from : (schedule : Schedule) (n : ℕ) (globals input : List ℕ) (own : Memory) (v : V) (w : W) → R v w
      → RunAlike next next' set schedule (opening n globals input own v) (opening n globals input own w)
  alike_from schedule n globals input own v w r =
      let p : Pair = (v, w, r) in
      let s = opening n globals input own p in
      subst (λ u. RunAlike next next' set schedule (opening n globals input own v) u) (opens_right n globals input own p)
      (subst (λ x. RunAlike next next' set schedule x (state_by right_of s)) (opens_left n globals input own p) (alike schedule s))

pub forms_run_alike : (V W : Type 0) → FormsRunAlike V W
forms_run_alike V W next next' related same v w r set schedule n globals input firsts =
    alike_from next next' set (λ v' w'. related v' w' ≡ true) same schedule n globals input firsts v w r
