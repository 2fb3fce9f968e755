-- Code of places that is well typed, whichever numbers it gets, in each state that grants one.
use Rattle.std.proofs.Common.{◌≡◌, ◌⊎◌, ℕ, zero, suc, ◌+◌, ◌≤◌, Bool, true, false, List, [], ◌∷◌, ◌++◌, length, drop, replicate, Option, Some, None, sym, ap, subst, ◌∙◌}
use Rattle.std.proofs.lemmas.Bool.{false≢true}
use Rattle.fk_syntax.specs.declared.place.Place as y
use Rattle.fk_meaning_operation.specs.declared.operation.Operation.{Operation}
use Rattle.fk_layout_sizes.specs.Operations.{takes}
use Rattle.fk_core_typing.specs.LocalDepths.{needs, leaves, results}
use Rattle.fk_sim_block.specs.Suits.{looks_at}
use Rattle.fk_meaning_forms.specs.Code.{done, perform, choose, while, until, quit, break, continue, call, ends, size, numbered}
use Rattle.fk_meaning_forms.specs.Expressions.{Coded}
use Rattle.fk_core_flat.specs.Shape.{is_done}
use Rattle.fk_core_liveness.specs.declared.places.FunctionKind.{FunctionKind}
use Rattle.fk_core_liveness.specs.declared.places.FunctionKind.TheVariants.{Called}
use Rattle.fk_lockstep_frames.specs.Nests.{Nest}
use Rattle.fk_core_typing.specs.declared.constants.Constant.{Constant as Address}
use Rattle.fk_core_typing.specs.declared.constants.Constants.{Constants}
use Rattle.fk_core_typing.specs.AddressValues.{constants, no_constants}
use Rattle.fk_core_typing.specs.Values.{Value, Unknown, Shared, Place, with_frame, entered, place_behind, State, bare, changed, values_behind, behind, behind_call, MayBeIn, Asks, May, IsAsGood, AreAsGood, Grants}
use Rattle.fk_core_typing.specs.Typed.{Loop, GrantsTurn, GrantsLeft, EndsIn, Typed}
use Rattle.fk_core_typing.proofs.Granting.{none_asked, as_long, grants_itself, grants_both}

-- so many values, and no constants
abbrev pub level : Place → List Value → State
level p vs = record { place = p; values = vs; constants = no_constants }

-- a known address of shared data is the last one
abbrev pub noted : Place → Address → List Value → State
noted p c vs = record { place = p; values = Shared ∷ vs; constants = constants (Some c) None }

pub record Acts (onward : Bool) (op : Operation) (t u : State) : Type 0 where
  pub acts : (s : State) → Grants s t → May op s × Grants (behind op onward s) u

pub record Ok (place_of : ℕ → FunctionKind) (frame_of : ℕ → Option ℕ) (l : Option Loop) (t : State) (code : Coded) (e : State) : Type 0 where
  pub typed : (s : State) → Grants s t → (n : ℕ) → Typed place_of frame_of l s (numbered n code) e

pub as_unknown : (v : Value) → IsAsGood v Unknown
as_unknown v shared_alone e = absurd (false≢true e)

pub dropped_good : (k : ℕ) (ws ts : List Value) → AreAsGood ws ts → AreAsGood (drop k ws) (drop k ts)
dropped_good zero ws ts h = h
dropped_good (suc k) [] [] h = tt
dropped_good (suc k) (w ∷ ws) (v ∷ ts) h = dropped_good k ws ts h.1
dropped_good (suc k) [] (v ∷ ts) h = absurd h
dropped_good (suc k) (w ∷ ws) [] h = absurd h

pub pushed_good : (k : ℕ) (ws ts : List Value) → AreAsGood ws ts → AreAsGood (replicate k Unknown ++ ws) (replicate k Unknown ++ ts)
pushed_good zero ws ts h = h
pushed_good (suc k) ws ts h = (as_unknown Unknown, pushed_good k ws ts h)

pub changed_good : (k m : ℕ) (ws ts : List Value) → AreAsGood ws ts → AreAsGood (changed k m ws) (changed k m ts)
changed_good k m ws ts h = pushed_good m (drop k ws) (drop k ts) (dropped_good k ws ts h)

-- what an operation does that takes values, and pushes some of which nothing is known
pub acts_so : (onward : Bool) (op : Operation) (t : State) → MayBeIn op t.place → needs op ≤ length t.values → looks_at op ≤ length t.values
    → ((ws : List Value) → AreAsGood ws t.values → Asks op ws)
    → ((nests : List Nest) (known : Constants) (ws : List Value) → values_behind nests op onward known ws ≡ changed (takes op) (leaves op onward) ws)
    → Acts onward op t (level (place_behind op onward t.place) (changed (takes op) (leaves op onward) t.values))
acts_so onward op t may few looks asks same = record {
  acts = λ s g.
      let long = sym (as_long s.values t.values g.values) in (
        record {
          place = subst (MayBeIn op) (sym g.place) may;
          values = subst (λ h. needs op ≤ h) long few;
          looks = subst (λ h. looks_at op ≤ h) long looks;
          asks = asks s.values g.values;
        },
        record {
          place = ap (place_behind op onward) g.place;
          values = subst (λ xs. AreAsGood xs (changed (takes op) (leaves op onward) t.values)) (sym (same s.place.nests s.constants s.values))
              (changed_good (takes op) (leaves op onward) s.values t.values g.values);
          constants = none_asked (behind op onward s).constants;
        },
      );
}

pub less : {onward : Bool} {op : Operation} {t u v : State} → Acts onward op t u → Grants u v → Acts onward op t v
less {onward = onward} {op = op} {u = u} {v = v} a g = record {
  acts = λ s h. let both = a.acts s h in (both.0, grants_both (behind op onward s) u v both.1 g);
}

-- a loop is left where its turns begin, or nothing follows it
abbrev pub GoesOn : Loop → Coded → Type 0
GoesOn c rest = (n : ℕ) → (c.left.place ≡ c.turn.place) ⊎ (is_done (numbered n rest) ≡ true)

-- where a loop is left in a state, and where its turns begin in one
abbrev pub LeftIn : Option Loop → State → Type 0
LeftIn l t = (c : Loop) × (l ≡ Some c) × (c.left ≡ t)

abbrev pub TurnsIn : Option Loop → State → Type 0
TurnsIn l t = (c : Loop) × (l ≡ Some c) × (c.turn ≡ t)

module _ {place_of : ℕ → FunctionKind} {frame_of : ℕ → Option ℕ} where
  pub weaken : {l : Option Loop} {t u e : State} {code : Coded} → Grants t u → Ok place_of frame_of l u code e → Ok place_of frame_of l t code e
  weaken {t = t} {u = u} g p = record { typed = λ s h n. p.typed s (grants_both s t u h g) n }

  pub ended : {l : Option Loop} {t : State} → Ok place_of frame_of l t done t
  ended = record { typed = λ s g n. g }

  pub on : {l : Option Loop} {t u e : State} {tag : y.Place} {op : Operation} {rest : Coded} → Acts true op t u → Ok place_of frame_of l u rest e
      → Ok place_of frame_of l t (perform tag op rest) e
  on {op = op} a p = record { typed = λ s g n. ((a.acts s g).0, p.typed (behind op true s) (a.acts s g).1 (suc n)) }

  -- both ways come together at the place where the choice was made
  pub branch : {l : Option Loop} {t u v w e : State} {tag : y.Place} {op : Operation} {x z rest : Coded} → w.place ≡ t.place
      → Acts true op t u → Acts false op t v → Ok place_of frame_of l u x w → Ok place_of frame_of l v z w → Ok place_of frame_of l w rest e
      → Ok place_of frame_of l t (choose tag op x z rest) e
  branch {w = w} {op = op} {x = x} {z = z} same a b p q r = record {
    typed = λ s g n. (
      (a.acts s g).0,
      w,
      p.typed (behind op true s) (a.acts s g).1 (suc n),
      q.typed (behind op false s) (b.acts s g).1 (suc n + size x),
      r.typed w (grants_itself w) (suc n + size x + size z),
      same ∙ sym g.place,
    );
  }

  pub looped : {l : Option Loop} {e : State} (c : Loop) {test body step rest : Coded} → GoesOn c rest → Ok place_of frame_of (Some c) c.turn test c.turn
      → Ok place_of frame_of (Some c) c.turn body c.turn → Ok place_of frame_of (Some c) c.turn step c.turn → Ok place_of frame_of l c.left rest e
      → Ok place_of frame_of l c.turn (while test body step rest) e
  looped c {test = test} {body = body} {step = step} goes x y z p = record {
    typed = λ s g n. (
      c,
      g,
      x.typed c.turn (grants_itself c.turn) n,
      y.typed c.turn (grants_itself c.turn) (n + size test),
      z.typed c.turn (grants_itself c.turn) (n + size test + size body),
      p.typed c.left (grants_itself c.left) (n + size test + size body + size step),
      goes (n + size test + size body + size step),
    );
  }

  pub looped_first : {l : Option Loop} {e : State} (c : Loop) {body test rest : Coded} → GoesOn c rest → Ok place_of frame_of (Some c) c.turn body c.turn
      → Ok place_of frame_of (Some c) c.turn test c.turn → Ok place_of frame_of l c.left rest e
      → Ok place_of frame_of l c.turn (until body test rest) e
  looped_first c {body = body} {test = test} goes x y p = record {
    typed = λ s g n. (
      c,
      g,
      x.typed c.turn (grants_itself c.turn) n,
      y.typed c.turn (grants_itself c.turn) (n + size body),
      p.typed c.left (grants_itself c.left) (n + size body + size test),
      goes (n + size body + size test),
    );
  }

  pub quits : {t : State} (c : Loop) {tag : y.Place} {op : Operation} → Acts true op t c.turn → Acts false op t c.left → Ok place_of frame_of (Some c) t (quit tag op done) c.turn
  quits c a b = record { typed = λ s g n. ((a.acts s g).0, (b.acts s g).1, (a.acts s g).1) }

  pub broken : {l : Option Loop} {t e : State} {rest : Coded} → LeftIn l t → Ok place_of frame_of l t rest e → Ok place_of frame_of l t (break rest) e
  broken is p = record { typed = λ s g n. (subst (λ loop. GrantsLeft loop s) (sym is.1) (subst (λ u. Grants s u) (sym is.2) g), p.typed s g n) }

  pub continued : {l : Option Loop} {t e : State} {rest : Coded} → TurnsIn l t → Ok place_of frame_of l t rest e → Ok place_of frame_of l t (continue rest) e
  continued is p = record { typed = λ s g n. (subst (λ loop. GrantsTurn loop s) (sym is.1) (subst (λ u. Grants s u) (sym is.2) g), p.typed s g n) }

  pub left : {l : Option Loop} {t u e : State} {tag : y.Place} {op : Operation} {rest : Coded} → Acts true op t u
      → ((s : State) → s.place ≡ t.place → EndsIn op s.place) → Ok place_of frame_of l u rest e → Ok place_of frame_of l t (ends tag op rest) e
  left {op = op} a out p = record {
    typed = λ s g n. ((a.acts s g).0, out s g.place, p.typed (behind op true s) (a.acts s g).1 (suc n));
  }

  pub enters : {l : Option Loop} {t e : State} {tag : y.Place} {op : Operation} {f : ℕ} {opening rest : Coded} (gives : Bool) → place_of f ≡ Called gives
      → ((s : State) → Grants s t → May op s)
      → Ok place_of frame_of None (bare (entered (Called gives))) opening (bare (with_frame (Called gives) (frame_of f)))
      → Ok place_of frame_of l (level t.place (changed (takes op) (results gives) t.values)) rest e
      → Ok place_of frame_of l t (call tag op f opening rest) e
  enters {t = t} {op = op} {opening = opening} gives is may o p = record {
    typed = λ s g n. (
      may s g,
      gives,
      is,
      o.typed (bare (entered (Called gives))) (grants_itself (bare (entered (Called gives)))) (suc n),
      p.typed (behind_call (takes op) gives s)
          (record {
            place = g.place;
            values = changed_good (takes op) (results gives) s.values t.values g.values;
            constants = none_asked no_constants;
          })
          (suc n + size opening),
    );
  }
