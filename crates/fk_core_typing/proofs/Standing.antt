-- Along code there are as many values as are counted.
use Rattle.std.proofs.Common.{◌≡◌, ℕ, true, Option, Some, sym, ap, ◌∙◌}
use Rattle.fk_meaning_forms.specs.Code.{Code, done, perform, choose, while, until, turn, again, quit, break, continue, call, ends}
use Rattle.fk_core_liveness.specs.declared.places.FunctionKind.{FunctionKind}
use Rattle.fk_core_typing.specs.Heights.{height}
use Rattle.fk_core_typing.proofs.System.{System, Loop, Judged, IsLawful}

module _ (sys : System) (place_of : ℕ → FunctionKind) (lawful : IsLawful sys place_of) where
  -- so many stand behind code as are counted
  pub stands_at : (code : Code ℕ) (l : Option (Loop sys)) (s e : sys.State) → Judged sys l s code e → height place_of (sys.height s) code ≡ sys.height e
  stands_at done l s e t = lawful.level s e t
  stands_at (perform n op rest) l s e t =
      ap (λ h. height place_of h rest) (sym (lawful.rises op true s)) ∙ stands_at rest l (sys.behind op true s) e t.1
  stands_at (choose n op x y rest) l s e t =
      ap (λ h. height place_of (height place_of h x) rest) (sym (lawful.rises op true s))
      ∙ ap (λ h. height place_of h rest) (stands_at x l (sys.behind op true s) t.1 t.2)
      ∙ stands_at rest l t.1 e t.4
  stands_at (while test body step rest) l s e t =
      let c = t.0 in
      let b = c.turn in
      ap (λ h. height place_of (height place_of (height place_of (height place_of h test) body) step) rest) (lawful.level s b t.1)
      ∙ ap (λ h. height place_of (height place_of (height place_of h body) step) rest) (stands_at test (Some c) b b t.2)
      ∙ ap (λ h. height place_of (height place_of h step) rest) (stands_at body (Some c) b b t.3)
      ∙ ap (λ h. height place_of h rest) (stands_at step (Some c) b b t.4)
      ∙ ap (λ h. height place_of h rest) (sym c.even)
      ∙ stands_at rest l c.left e t.5
  stands_at (until body test rest) l s e t =
      let c = t.0 in
      let b = c.turn in
      ap (λ h. height place_of (height place_of (height place_of h body) test) rest) (lawful.level s b t.1)
      ∙ ap (λ h. height place_of (height place_of h test) rest) (stands_at body (Some c) b b t.2)
      ∙ ap (λ h. height place_of h rest) (stands_at test (Some c) b b t.3)
      ∙ ap (λ h. height place_of h rest) (sym c.even)
      ∙ stands_at rest l c.left e t.4
  stands_at (turn test body step rest) l s e t = absurd t
  stands_at (again test body step rest) l s e t = absurd t
  stands_at (quit n op rest) l s e t =
      ap (λ h. height place_of h rest) (sym (lawful.rises op true s)) ∙ stands_at rest l (sys.behind op true s) e t.2
  stands_at (break rest) l s e t = stands_at rest l s e t.1
  stands_at (continue rest) l s e t = stands_at rest l s e t.1
  stands_at (call n op f opening rest) l s e t =
      ap (λ h. height place_of h rest) (lawful.called op f t.1 opening s t.2) ∙ stands_at rest l (sys.behind_call op t.1 s) e t.4
  stands_at (ends n op rest) l s e t =
      ap (λ h. height place_of h rest) (sym (lawful.rises op true s)) ∙ stands_at rest l (sys.behind op true s) e t.2
