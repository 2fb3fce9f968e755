-- Code that is shown step by step, from its beginning.
use Rattle.std.specs.Prelude.{◌≡◌, ℕ, suc, ◌+◌, Bool, true, false, List, [], ◌∷◌, ◌++◌, fold}
use Rattle.fk_meaning_operation.specs.declared.operation.Operation.{Operation}
use Rattle.fk_syntax.specs.declared.place.Place.{Place}
use Rattle.fk_meaning_forms.specs.Code as c
use Rattle.fk_meaning_forms.specs.Code.{Code, append, size, numbered}

-- The events that show code: its operations, and where the parts of a choice, a loop and a call
-- begin and end.
pub data Event : Type 0 where
  Perform : (op : Operation) → Event
  Choose : (op : Operation) → Event
  Aside : Event
  Joined : Event
  Quit : (op : Operation) → Event
  Call : (op : Operation) (function : ℕ) → Event
  Returned : Event
  Ends : (op : Operation) → Event
  While : Event
  Until : Event
  Part : Event
  Behind : Event
  Break : Event
  Continue : Event

-- An event with a site: that of an operation.
abbrev pub has_site : Event → Bool
has_site (Perform op) = true
has_site (Choose op) = true
has_site (Quit op) = true
has_site (Call op function) = true
has_site (Ends op) = true
has_site event = false

abbrev pub events_of : {A : Type 0} → Code A → List Event
events_of c.done = []
events_of (c.perform t op rest) = Perform op ∷ events_of rest
events_of (c.choose t op x y rest) =
    Choose op ∷ events_of x ++ (Aside ∷ events_of y) ++ (Joined ∷ events_of rest)
events_of (c.while test body step rest) = While ∷ events_of test ++ (Part ∷ events_of body)
    ++ (Part ∷ events_of step) ++ (Behind ∷ events_of rest)
events_of (c.until body test rest) =
    Until ∷ events_of body ++ (Part ∷ events_of test) ++ (Behind ∷ events_of rest)
events_of (c.quit t op rest) = Quit op ∷ events_of rest
events_of (c.break rest) = Break ∷ events_of rest
events_of (c.continue rest) = Continue ∷ events_of rest
events_of (c.call t op f opening rest) =
    Call op f ∷ events_of opening ++ (Returned ∷ events_of rest)
events_of (c.ends t op rest) = Ends op ∷ events_of rest
events_of code = []

-- No loop of the code is under way.
abbrev pub IsUnbegun : {A : Type 0} → Code A → Type 0
IsUnbegun c.done = Unit {0}
IsUnbegun (c.perform t op rest) = IsUnbegun rest
IsUnbegun (c.choose t op x y rest) = IsUnbegun x × IsUnbegun y × IsUnbegun rest
IsUnbegun (c.while test body step rest) = IsUnbegun test × IsUnbegun body × IsUnbegun step
    × IsUnbegun rest
IsUnbegun (c.until body test rest) = IsUnbegun body × IsUnbegun test × IsUnbegun rest
IsUnbegun (c.quit t op rest) = IsUnbegun rest
IsUnbegun (c.break rest) = IsUnbegun rest
IsUnbegun (c.continue rest) = IsUnbegun rest
IsUnbegun (c.call t op f opening rest) = IsUnbegun opening × IsUnbegun rest
IsUnbegun (c.ends t op rest) = IsUnbegun rest
IsUnbegun code = ⊥

-- What is open around code: a branch of a choice, a part of a loop, or the opening of a call, with
-- the code before it and its closed parts.
pub data Open : Type 0 where
  OnwardWay : (before : Code ℕ) (site : ℕ) (op : Operation) → Open
  AsideWay : (before : Code ℕ) (site : ℕ) (op : Operation) (x : Code ℕ) → Open
  Test : (before : Code ℕ) → Open
  Body : (before test : Code ℕ) → Open
  Step : (before test body : Code ℕ) → Open
  FirstBody : (before : Code ℕ) → Open
  LastTest : (before body : Code ℕ) → Open
  Opening : (before : Code ℕ) (site : ℕ) (op : Operation) (function : ℕ) → Open

-- The next site, what is open (the innermost first), and the code so far in that.
pub record Building : Type 0 where
  pub site : ℕ
  pub outer : List Open
  pub code : Code ℕ

abbrev pub building : ℕ → List Open → Code ℕ → Building
building site outer code = record { site = site; outer = outer; code = code }

-- A part begins, or ends and another one begins; or code is added after what there is.
abbrev pub opened : ℕ → Open → List Open → Building
opened site part outer = building site (part ∷ outer) c.done

abbrev pub joined : ℕ → List Open → (before code : Code ℕ) → Building
joined site outer before code = building site outer (append before code)

abbrev aside_of : ℕ → List Open → Code ℕ → Building
aside_of site (OnwardWay before n op ∷ outer) code = opened site (AsideWay before n op code) outer
aside_of site outer code = building site outer code

abbrev joined_of : ℕ → List Open → Code ℕ → Building
joined_of site (AsideWay before n op x ∷ outer) code =
    joined site outer before (c.choose n op x code c.done)
joined_of site outer code = building site outer code

abbrev returned_of : ℕ → List Open → Code ℕ → Building
returned_of site (Opening before n op f ∷ outer) code =
    joined site outer before (c.call n op f code c.done)
returned_of site outer code = building site outer code

abbrev part_of : ℕ → List Open → Code ℕ → Building
part_of site (Test before ∷ outer) code = opened site (Body before code) outer
part_of site (Body before test ∷ outer) code = opened site (Step before test code) outer
part_of site (FirstBody before ∷ outer) code = opened site (LastTest before code) outer
part_of site outer code = building site outer code

abbrev behind_of : ℕ → List Open → Code ℕ → Building
behind_of site (Step before test body ∷ outer) code =
    joined site outer before (c.while test body code c.done)
behind_of site (LastTest before body ∷ outer) code =
    joined site outer before (c.until body code c.done)
behind_of site outer code = building site outer code

-- What is built after an event.
abbrev pub after : Building → Event → Building
after b (Perform op) = joined (suc b.site) b.outer b.code (c.perform b.site op c.done)
after b (Choose op) = opened (suc b.site) (OnwardWay b.code b.site op) b.outer
after b Aside = aside_of b.site b.outer b.code
after b Joined = joined_of b.site b.outer b.code
after b (Quit op) = joined (suc b.site) b.outer b.code (c.quit b.site op c.done)
after b (Call op f) = opened (suc b.site) (Opening b.code b.site op f) b.outer
after b Returned = returned_of b.site b.outer b.code
after b (Ends op) = joined (suc b.site) b.outer b.code (c.ends b.site op c.done)
after b While = opened b.site (Test b.code) b.outer
after b Until = opened b.site (FirstBody b.code) b.outer
after b Part = part_of b.site b.outer b.code
after b Behind = behind_of b.site b.outer b.code
after b Break = joined b.site b.outer b.code (c.break c.done)
after b Continue = joined b.site b.outer b.code (c.continue c.done)

-- An event that ends a part, a choice, a loop or an opening finds it open, as the innermost of what
-- is open.
abbrev pub IsPlaced : Event → List Open → Type 0
IsPlaced Aside (OnwardWay before n op ∷ outer) = Unit {0}
IsPlaced Aside outer = ⊥
IsPlaced Joined (AsideWay before n op x ∷ outer) = Unit {0}
IsPlaced Joined outer = ⊥
IsPlaced Returned (Opening before n op f ∷ outer) = Unit {0}
IsPlaced Returned outer = ⊥
IsPlaced Part (Test before ∷ outer) = Unit {0}
IsPlaced Part (Body before test ∷ outer) = Unit {0}
IsPlaced Part (FirstBody before ∷ outer) = Unit {0}
IsPlaced Part outer = ⊥
IsPlaced Behind (Step before test body ∷ outer) = Unit {0}
IsPlaced Behind (LastTest before body ∷ outer) = Unit {0}
IsPlaced Behind outer = ⊥
IsPlaced event outer = Unit {0}

-- Code that is shown is added after what is built, and its operations have the next sites.
abbrev pub CodeIsBuilt : (A : Type 0) → Type 0
CodeIsBuilt A =
    (code : Code A) → IsUnbegun code → (b : Building)
    → fold after b (events_of code)
    ≡ building (b.site + size code) b.outer (append b.code (numbered b.site code))

-- The built code is the numbered code, from a first site on, if the events are those of a text's
-- code.
abbrev pub IsShown : (site : ℕ) → List Event → Code ℕ → Type 0
IsShown site events built = (code : Code Place) → IsUnbegun code → events_of code ≡ events
    → built ≡ numbered site code
