-- What is known of values, as such a system.
use Rattle.std.proofs.Common.{◌≡◌, ℕ, true, false, List, length, Option, None, Some, inl, inr, refl, sym, ◌∙◌, subst}
use Rattle.std.specs.Prelude.{◌⊎◌}
use Rattle.fk_meaning_operation.specs.declared.operation.Operation.{Operation}
use Rattle.fk_meaning_operation.specs.declared.operation.Operation.TheVariants as o
use Rattle.fk_layout_sizes.specs.Operations.{takes}
use Rattle.fk_meaning_forms.specs.Code.{Code, done, perform, choose, while, until, turn, again, quit, break, continue, call, ends}
use Rattle.fk_core_liveness.specs.declared.places.FunctionKind.{FunctionKind}
use Rattle.fk_core_liveness.specs.declared.places.FunctionKind.TheVariants.{Main, Called}
use Rattle.fk_core.specs.declared.op.CoreOp.{CoreOp}
use Rattle.fk_core_flat.specs.Items as w
use Rattle.fk_core_flat.specs.Items.{Way, way_of}
use Rattle.fk_core_typing.specs.Values.{with_frame, entered, State, bare, behind, behind_call, May, Grants}
use Rattle.fk_core_typing.specs.Typed as t
use Rattle.fk_core_typing.specs.Typed.{EndsIn, Typed}
use Rattle.fk_core_typing.specs.Laws.{IsTypedList}
use Rattle.fk_core_typing.proofs.Granting.{as_long, grants_itself, grants_both}
use Rattle.fk_core_typing.proofs.System.{System, Loop, GrantsTurn, GrantsLeft, Judged, IsLawful}
use Rattle.fk_core_typing.proofs.Rising.{rises, called_rises}
use Rattle.fk_core_typing.proofs.Listed.{state}

-- what has one way goes on alike
pub same_ways : (op : Operation) (s : State) (way : Way) → way_of op ≡ way → (way ≡ w.straight) ⊎ (way ≡ w.onto) → behind op false s ≡ behind op true s
same_ways (o.Split by) s way e (inl f) = let g : w.either ≡ w.straight = e ∙ f in absurd (cc)
same_ways (o.Split by) s way e (inr f) = let g : w.either ≡ w.onto = e ∙ f in absurd (cc)
same_ways o.Begin s way e (inl f) = let g : w.either ≡ w.straight = e ∙ f in absurd (cc)
same_ways o.Begin s way e (inr f) = let g : w.either ≡ w.onto = e ∙ f in absurd (cc)
same_ways o.Shrink s way e (inl f) = let g : w.either ≡ w.straight = e ∙ f in absurd (cc)
same_ways o.Shrink s way e (inr f) = let g : w.either ≡ w.onto = e ∙ f in absurd (cc)
same_ways op s way e f = refl

module _ (place_of : ℕ → FunctionKind) (frame_of : ℕ → Option ℕ) where
  abbrev pub values : System
  values = record {
    State = State;
    Grants = Grants;
    Stands = λ s t. s.place ≡ t.place;
    May = May;
    Ends = λ op s. EndsIn op s.place;
    behind = behind;
    Calls = λ op f gives opening. place_of f ≡ Called gives;
    begin = λ op f gives. bare (entered (Called gives));
    entered = λ op f gives. bare (with_frame (Called gives) (frame_of f));
    behind_call = λ op gives s. behind_call (takes op) gives s;
    first = λ f. bare (with_frame (place_of f) (frame_of f));
    height = λ s. length s.values;
  }

  pub values_lawful : IsLawful values place_of
  values_lawful = record {
    itself = grants_itself;
    both = grants_both;
    enters = λ op f gives opening e. subst (λ p. Grants (bare (with_frame (Called gives) (frame_of f))) (bare (with_frame p (frame_of f)))) (sym e)
        (grants_itself (bare (with_frame (Called gives) (frame_of f))));
    rises = rises;
    level = λ s t g. as_long s.values t.values g.values;
    called = λ op f gives opening s e. called_rises place_of op f gives s e;
    nought = λ op f gives. refl;
    none = λ f. refl;
  }

  abbrev pub loop_of : Option t.Loop → Option (Loop values)
  loop_of None = None
  loop_of (Some loop) = Some (record { turn = loop.turn; left = loop.left; even = loop.even })

  leaves : (l : Option t.Loop) (s : State) → t.GrantsLeft l s → GrantsLeft values (loop_of l) s
  leaves None s g = absurd g
  leaves (Some loop) s g = g

  turns : (l : Option t.Loop) (s : State) → t.GrantsTurn l s → GrantsTurn values (loop_of l) s
  turns None s g = absurd g
  turns (Some loop) s g = g

  pub judged : (code : Code ℕ) (l : Option t.Loop) (s e : State) → Typed place_of frame_of l s code e → Judged values (loop_of l) s code e
  judged done l s e h = h
  judged (perform n op rest) l s e h = (h.0, judged rest l (behind op true s) e h.1)
  judged (choose n op x y rest) l s e h =
      (h.0, h.1, judged x l (behind op true s) h.1 h.2, judged y l (behind op false s) h.1 h.3, judged rest l h.1 e h.4, h.5)
  judged (while test body step rest) l s e h =
      let c = h.0 in
      let b = c.turn in (
        record { turn = c.turn; left = c.left; even = c.even },
        h.1,
        judged test (Some c) b b h.2,
        judged body (Some c) b b h.3,
        judged step (Some c) b b h.4,
        judged rest l c.left e h.5,
        h.6,
      )
  judged (until body test rest) l s e h =
      let c = h.0 in
      let b = c.turn in
      (record { turn = c.turn; left = c.left; even = c.even }, h.1, judged body (Some c) b b h.2, judged test (Some c) b b h.3, judged rest l c.left e h.4, h.5)
  judged (turn test body step rest) l s e h = absurd h
  judged (again test body step rest) l s e h = absurd h
  judged (quit n op rest) l s e h = (h.0, leaves l (behind op false s) h.1, judged rest l (behind op true s) e h.2)
  judged (break rest) l s e h = (leaves l s h.0, judged rest l s e h.1)
  judged (continue rest) l s e h = (turns l s h.0, judged rest l s e h.1)
  judged (call n op f opening rest) l s e h =
      (h.0, h.1, h.2, judged opening None (bare (entered (Called h.1))) (bare (with_frame (Called h.1) (frame_of f))) h.3, judged rest l (behind_call (takes op) h.1 s) e h.4)
  judged (ends n op rest) l s e h = (h.0, h.1, judged rest l (behind op true s) e h.2)

-- those of a flat list
module _ (bodies : ℕ → Code ℕ) (core : List CoreOp) (entry : ℕ → ℕ) (place_of : ℕ → FunctionKind) (frame_of : ℕ → Option ℕ) (typed : IsTypedList bodies core entry place_of frame_of) where
  pub all_judged : (f : ℕ) → (end : State) × Judged (values place_of frame_of) None (bare (with_frame (place_of f) (frame_of f))) (bodies f) end
  all_judged f = ((typed.typed f).0, judged place_of frame_of (bodies f) None (bare (with_frame (place_of f) (frame_of f))) (typed.typed f).0 (typed.typed f).1)

  abbrev pub at : ℕ → State
  at = state bodies core entry place_of frame_of typed (values place_of frame_of) (values_lawful place_of frame_of) all_judged (bare (entered Main))
