-- What is left of a program beside a position in a list, and what is left of the list with the program beside it.
use Rattle.std.proofs.Common.{◌≡◌, ℕ, zero, suc, Bool, List, [], ◌∷◌, map, Option, Some, None, ap, ◌∙◌, refl}
use Rattle.std.specs.Prelude.{option_map, slice_get}
use Rattle.fk_num.specs.Word.{Memory}
use Rattle.fk_tree.specs.Tree.{root}
use Rattle.fk_meaning_store.specs.Store.{opening_store}
use Rattle.fk_meaning.specs.Processor.{Setting, setting_of}
use Rattle.fk_meaning.specs.Round.{Step, Runner, State}
use Rattle.fk_meaning.specs.Schedule.{beginners, first_processor, opening}
use Rattle.fk_meaning.proofs.Natural.{step_by, runner_by, state_by}
use Rattle.fk_core.specs.declared.op.CoreOp.{CoreOp}
use Rattle.fk_core.specs.Next.{Position, next}
use Rattle.fk_core.specs.WellFormed.{LeadsOn}
use Rattle.fk_lockstep_tree.proofs.Held.{seat, seat_next}

pub record Held (V : Type 0) : Type 0 where
  pub work : V
  pub at : Position

abbrev pub held : {V : Type 0} → V → Position → Held V
held v p = record { work = v; at = p }

abbrev pub rest_of : {V : Type 0} → V → Option (Step V) → Bool → V
rest_of v None onward = v
rest_of v (Some s) onward = s.rest onward

-- a step of the list, with the program beside it: at positions as they are, and with seats
abbrev pub carried : {V : Type 0} → (to : Position → Position) → V → Option (Step V) → Step Position → Step (Held V)
carried to v a u = record { operation = u.operation; site = u.site; rest = λ onward. held (rest_of v a onward) (to (u.rest onward)) }

module _ {V : Type 0} (next_in : V → Option (Step V)) (core : List CoreOp) where
  abbrev pub next_raw : Held V → Option (Step (Held V))
  next_raw x = option_map (carried (λ p. p) x.work (next_in x.work)) (next core x.at)

  abbrev pub next_held : Held V → Option (Step (Held V))
  next_held x = option_map (carried (seat core) x.work (next_in x.work)) (next core x.at)

  abbrev pub seated : Held V → Held V
  seated x = held x.work (seat core x.at)

  abbrev pub place_of : Held V → Position
  place_of x = x.at

  pub natural_place : (x : Held V) → next core (place_of x) ≡ option_map (step_by place_of) (next_raw x)
  natural_place x = by (next core x.at)
    where
      by : (b : Option (Step Position)) → b ≡ option_map (step_by place_of) (option_map (carried (λ p. p) x.work (next_in x.work)) b)
      by None = refl
      by (Some u) = refl

  pub natural_seat : LeadsOn core → (x : Held V) → next_held (seated x) ≡ option_map (step_by seated) (next_raw x)
  natural_seat leads_on x = ap (option_map (carried (seat core) x.work (next_in x.work))) (seat_next core leads_on x.at) ∙ by (next core x.at)
    where
      by : (b : Option (Step Position))
          → option_map (carried (seat core) x.work (next_in x.work)) b ≡ option_map (step_by seated) (option_map (carried (λ p. p) x.work (next_in x.work)) b)
      by None = refl
      by (Some u) = refl

-- states by a map: their beginning, and their processors
module _ {V W : Type 0} (f : V → W) where
  beginners_by : (set : Setting) (own : Memory) (v : V) (h n : ℕ) → map (runner_by f) (beginners set own v h n) ≡ beginners set own (f v) h n
  beginners_by set own v h zero = refl
  beginners_by set own v h (suc n) = ap (λ rs. let r : Runner W = record { left = f v; has = first_processor set own h } in r ∷ rs) (beginners_by set own v (suc h) n)

  pub opening_by : (n : ℕ) (globals input : List ℕ) (own : Memory) (v : V) → state_by f (opening n globals input own v) ≡ opening n globals input own (f v)
  opening_by n globals input own v =
      ap (λ rs. let s : State W = record { store = opening_store globals input; tree = root n; runners = rs; fault = None } in s) (beginners_by (setting_of n globals input) own v 0 n)

  pub record From (rs : List (Runner V)) (h : ℕ) (r : Runner W) : Type 0 where
    pub runner : Runner V
    pub at : slice_get rs h ≡ Some runner
    pub is : runner_by f runner ≡ r

  pub from : (rs : List (Runner V)) (h : ℕ) (r : Runner W) → slice_get (map (runner_by f) rs) h ≡ Some r → From rs h r
  from [] h r e = absurd (cc)
  from (x ∷ rs) zero r e = record { runner = x; at = refl; is = first_is (runner_by f x) r e }
    where
      first_is : (a b : Runner W) → Some a ≡ Some b → a ≡ b
      first_is a b g = cc
  from (x ∷ rs) (suc h) r e = let g = from rs h r e in record { runner = g.runner; at = g.at; is = g.is }

  pub there : (rs : List (Runner V)) (h : ℕ) (r : Runner V) → slice_get rs h ≡ Some r → slice_get (map (runner_by f) rs) h ≡ Some (runner_by f r)
  there [] h r e = absurd (cc)
  there (x ∷ rs) zero r e = let same : x ≡ r = cc in ap (λ y. Some (runner_by f y)) same
  there (x ∷ rs) (suc h) r e = there rs h r e
