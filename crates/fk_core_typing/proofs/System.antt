-- What is known along code, whatever it is: states, and how operations and calls change them.
use Rattle.std.proofs.Common.{◌≡◌, ◌⊎◌, ℕ, ◌+◌, ◌-◌, Bool, true, false, Option, None, Some}
use Rattle.fk_meaning_operation.specs.declared.operation.Operation.{Operation}
use Rattle.fk_layout_sizes.specs.Operations.{takes}
use Rattle.fk_meaning_forms.specs.Code.{Code, done, perform, choose, while, until, quit, break, continue, call, ends}
use Rattle.fk_core_flat.specs.Shape.{is_done}
use Rattle.fk_core_liveness.specs.declared.places.FunctionKind.{FunctionKind}
use Rattle.fk_core_typing.specs.Heights.{raised, results_of}

pub record System : Type 1 where
  pub State : Type 0
  -- what is asked in a state is so in another
  pub Grants : State → State → Type 0
  -- who is in a state stands where another one does
  pub Stands : State → State → Type 0
  -- an operation may be done, or ends its function
  pub May : Operation → State → Type 0
  pub Ends : Operation → State → Type 0
  pub behind : Operation → (onward : Bool) → State → State
  -- a call of a function, with a result or none: where it begins, where the function is entered, and behind the call
  pub Calls : Operation → (f : ℕ) → (gives : Bool) → (opening : Code ℕ) → Type 0
  pub begin : Operation → (f : ℕ) → (gives : Bool) → State
  pub entered : Operation → (f : ℕ) → (gives : Bool) → State
  pub behind_call : Operation → (gives : Bool) → State → State
  -- where the code of a function begins
  pub first : (f : ℕ) → State
  -- how many values there are
  pub height : State → ℕ

module _ (y : System) where
  -- a loop: where its turns begin, and where it is left
  pub record Loop : Type 0 where
    pub turn : y.State
    pub left : y.State
    pub even : y.height left ≡ y.height turn

  abbrev pub GrantsTurn : Option Loop → y.State → Type 0
  GrantsTurn None s = ⊥
  GrantsTurn (Some loop) s = y.Grants s loop.turn

  abbrev pub GrantsLeft : Option Loop → y.State → Type 0
  GrantsLeft None s = ⊥
  GrantsLeft (Some loop) s = y.Grants s loop.left

  -- code that is as such states ask it: `Typed` is so, with what is known of values
  abbrev pub Judged : Option Loop → y.State → Code ℕ → y.State → Type 0
  Judged l s done e = y.Grants s e
  Judged l s (perform n op rest) e = y.May op s × Judged l (y.behind op true s) rest e
  Judged l s (choose n op x z rest) e =
      y.May op s × (together : y.State)
      × Judged l (y.behind op true s) x together × Judged l (y.behind op false s) z together × Judged l together rest e × y.Stands together s
  Judged l s (while test body step rest) e =
      (loop : Loop) × y.Grants s loop.turn
      × Judged (Some loop) loop.turn test loop.turn × Judged (Some loop) loop.turn body loop.turn × Judged (Some loop) loop.turn step loop.turn
      × Judged l loop.left rest e × (y.Stands loop.left loop.turn ⊎ (is_done rest ≡ true))
  Judged l s (until body test rest) e =
      (loop : Loop) × y.Grants s loop.turn
      × Judged (Some loop) loop.turn body loop.turn × Judged (Some loop) loop.turn test loop.turn
      × Judged l loop.left rest e × (y.Stands loop.left loop.turn ⊎ (is_done rest ≡ true))
  Judged l s (quit n op rest) e = y.May op s × GrantsLeft l (y.behind op false s) × Judged l (y.behind op true s) rest e
  Judged l s (break rest) e = GrantsLeft l s × Judged l s rest e
  Judged l s (continue rest) e = GrantsTurn l s × Judged l s rest e
  Judged l s (call n op f opening rest) e =
      y.May op s × (gives : Bool) × y.Calls op f gives opening
      × Judged None (y.begin op f gives) opening (y.entered op f gives) × Judged l (y.behind_call op gives s) rest e
  Judged l s (ends n op rest) e = y.May op s × y.Ends op s × Judged l (y.behind op true s) rest e
  Judged l s code e = ⊥

  -- what is so of states
  pub record IsLawful (place_of : ℕ → FunctionKind) : Type 0 where
    pub itself : (s : y.State) → y.Grants s s
    pub both : (s t u : y.State) → y.Grants s t → y.Grants t u → y.Grants s u
    pub enters : (op : Operation) (f : ℕ) (gives : Bool) (opening : Code ℕ) → y.Calls op f gives opening → y.Grants (y.entered op f gives) (y.first f)
    pub rises : (op : Operation) (onward : Bool) (s : y.State) → y.height (y.behind op onward s) ≡ raised (y.height s) op onward
    pub level : (s t : y.State) → y.Grants s t → y.height s ≡ y.height t
    pub called : (op : Operation) (f : ℕ) (gives : Bool) (opening : Code ℕ) (s : y.State) → y.Calls op f gives opening
        → y.height s - takes op + results_of (place_of f) ≡ y.height (y.behind_call op gives s)
    pub nought : (op : Operation) (f : ℕ) (gives : Bool) → y.height (y.begin op f gives) ≡ 0
    pub none : (f : ℕ) → y.height (y.first f) ≡ 0
