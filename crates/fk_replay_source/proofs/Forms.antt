-- Two forms of what is left to do whose operations agree allow the same rounds. Each is the image of a form of pairs.
use Rattle.std.proofs.Common.{◌≡◌, ℕ, zero, suc, List, [], ◌∷◌, map, Option, Some, None, ap, ap₂, ◌∙◌, sym, refl, subst}
use Rattle.std.specs.Prelude.{option_map, slice_index}
use Rattle.fk_num.specs.Word.{Memory}
use Rattle.fk_tree.specs.Tree.{root}
use Rattle.fk_meaning_store.specs.Store.{opening_store}
use Rattle.fk_meaning_forms.specs.Program.{bodies_of, main_of}
use Rattle.fk_meaning.specs.Alike.{Same}
use Rattle.fk_meaning.specs.Next as source
use Rattle.fk_meaning.specs.Next.{going}
use Rattle.fk_meaning.specs.Processor.{Setting, setting_of}
use Rattle.fk_meaning.specs.Round.{Step, Runner, State, Round, is_allowed, result}
use Rattle.fk_meaning.specs.Schedule.{Schedule, beginners, first_processor, opening, run}
use Rattle.fk_meaning.proofs.Natural.{allowed_alike, results, runner_by, runs, state_by, step_by}
use Rattle.fk_core.specs.Next.{position, next}
use Rattle.fk_core.proofs.Running.{IsAt, body_at, same_next}
use Rattle.fk_replay_source.specs.Alike.{AllowAlike}
use Rattle.fk_replay_source.specs.Laws.{ListsAllowTheSame}

-- the image of a form by a natural map allows the same rounds, after every schedule
module _ {V W : Type 0} (next : V → Option (Step V)) (next' : W → Option (Step W)) (setting : Setting) (f : V → W) (natural : (v : V) → next' (f v) ≡ option_map (step_by f) (next v)) where
  image_runs : (schedule : Schedule) (s : State V) → run next' setting schedule (state_by f s) ≡ state_by f (run next setting schedule s)
  image_runs = runs next next' setting f natural

  image_fault : (schedule : Schedule) (s : State V) → (run next' setting schedule (state_by f s)).fault ≡ (run next setting schedule s).fault
  image_fault schedule s = ap (λ (u : State W). u.fault) (image_runs schedule s)

  image_allows : (schedule : Schedule) (round : Round) (s : State V) → is_allowed next' setting round (run next' setting schedule (state_by f s)) ≡ is_allowed next setting round (run next setting schedule s)
  image_allows schedule round s = ap (is_allowed next' setting round) (image_runs schedule s) ∙ allowed_alike next next' setting f natural round (run next setting schedule s)

  image_faults : (schedule : Schedule) (round : Round) (s : State V) → (result next' setting round (run next' setting schedule (state_by f s))).fault ≡ (result next setting round (run next setting schedule s)).fault
  image_faults schedule round s =
      ap (λ (u : State W). (result next' setting round u).fault) (image_runs schedule s)
      ∙ ap (λ (u : State W). u.fault) (results next next' setting f natural round (run next setting schedule s))

module _ {V W : Type 0} (next : V → Option (Step V)) (next' : W → Option (Step W)) (set : Setting) (R : V → W → Type 0) (same : (v : V) (w : W) → R v w → Same R (next v) (next' w)) where
  abbrev Pair : Type 0
  Pair = (v : V) × (w : W) × R v w

  abbrev paired : (s : Option (Step V)) (u : Option (Step W)) → Same R s u → Option (Step Pair)
  paired None None h = None
  paired (Some s) (Some u) h = Some (record { operation = s.operation; site = s.site; rest = λ onward. (s.rest onward, u.rest onward, h.2 onward) })
  paired None (Some u) h = None
  paired (Some s) None h = None

  abbrev next_pair : Pair → Option (Step Pair)
  next_pair p = paired (next p.0) (next' p.1) (same p.0 p.1 p.2)

  abbrev left_of : Pair → V
  left_of p = p.0

  abbrev right_of : Pair → W
  right_of p = p.1

  left_natural : (p : Pair) → next (left_of p) ≡ option_map (step_by left_of) (next_pair p)
  left_natural p = by (next p.0) (next' p.1) (same p.0 p.1 p.2)
    where
      by : (s : Option (Step V)) (u : Option (Step W)) (h : Same R s u) → s ≡ option_map (step_by left_of) (paired s u h)
      by None None h = refl
      by (Some s) (Some u) h = refl
      by None (Some u) h = absurd h
      by (Some s) None h = absurd h

  right_natural : (p : Pair) → next' (right_of p) ≡ option_map (step_by right_of) (next_pair p)
  right_natural p = by (next p.0) (next' p.1) (same p.0 p.1 p.2)
    where
      by : (s : Option (Step V)) (u : Option (Step W)) (h : Same R s u) → u ≡ option_map (step_by right_of) (paired s u h)
      by None None h = refl
      by (Some s) (Some u) h = ap₂ (λ op site. Some (record { operation = op; site = site; rest = u.rest })) (sym h.0) (sym h.1)
      by None (Some u) h = absurd h
      by (Some s) None h = absurd h

  lefts : (set' : Setting) (own : Memory) (p : Pair) (h n : ℕ) → map (runner_by left_of) (beginners set' own p h n) ≡ beginners set' own p.0 h n
  lefts set' own p h zero = refl
  lefts set' own p h (suc n) = ap (λ rs. let r : Runner V = record { left = p.0; has = first_processor set' own h } in r ∷ rs) (lefts set' own p (suc h) n)

  rights : (set' : Setting) (own : Memory) (p : Pair) (h n : ℕ) → map (runner_by right_of) (beginners set' own p h n) ≡ beginners set' own p.1 h n
  rights set' own p h zero = refl
  rights set' own p h (suc n) = ap (λ rs. let r : Runner W = record { left = p.1; has = first_processor set' own h } in r ∷ rs) (rights set' own p (suc h) n)

  opens_left : (n : ℕ) (globals input : List ℕ) (own : Memory) (p : Pair) → state_by left_of (opening n globals input own p) ≡ opening n globals input own p.0
  opens_left n globals input own p =
      ap (λ rs. let s : State V = record { store = opening_store globals input; tree = root n; runners = rs; fault = None } in s) (lefts (setting_of n globals input) own p 0 n)

  opens_right : (n : ℕ) (globals input : List ℕ) (own : Memory) (p : Pair) → state_by right_of (opening n globals input own p) ≡ opening n globals input own p.1
  opens_right n globals input own p =
      ap (λ rs. let s : State W = record { store = opening_store globals input; tree = root n; runners = rs; fault = None } in s) (rights (setting_of n globals input) own p 0 n)

  allow_alike : (s : State Pair) → AllowAlike next next' set (state_by left_of s) (state_by right_of s)
  allow_alike s = record {
    fault = λ schedule. image_fault next_pair next set left_of left_natural schedule s ∙ sym (image_fault next_pair next' set right_of right_natural schedule s);
    allowed = λ schedule round. image_allows next_pair next set left_of left_natural schedule round s ∙ sym (image_allows next_pair next' set right_of right_natural schedule round s);
    faults = λ schedule round. image_faults next_pair next set left_of left_natural schedule round s ∙ sym (image_faults next_pair next' set right_of right_natural schedule round s);
  }

  pub allow_alike_from : (n : ℕ) (globals input : List ℕ) (own : Memory) (v : V) (w : W) → R v w → AllowAlike next next' set (opening n globals input own v) (opening n globals input own w)
  allow_alike_from n globals input own v w r =
      let p : Pair = (v, w, r) in
      let s = opening n globals input own p in
      subst (λ u. AllowAlike next next' set (opening n globals input own v) u) (opens_right n globals input own p)
      (subst (λ x. AllowAlike next next' set x (state_by right_of s)) (opens_left n globals input own p) (allow_alike s))

pub lists_allow_the_same : ListsAllowTheSame
lists_allow_the_same tables program core entry has words firsts input p setting =
    let bodies = bodies_of tables program in
    let main = main_of tables program in
    allow_alike_from (source.next bodies) (next core) setting (IsAt core entry has.leads_on bodies has.stands) (same_next core entry has.leads_on bodies has.stands) p words input (slice_index firsts)
    (going (bodies main) []) (position (entry main) []) (body_at core entry has.leads_on bodies has.stands main)
