-- The shape of the code of forms.
use Rattle.std.specs.Prelude.{◌≡◌, ℕ, ◌||◌, ◌⊎◌, Bool, true, false}
use Rattle.fk_meaning_forms.specs.Code.{Code, done, perform, choose, while, until, turn, again}
use Rattle.fk_meaning_forms.specs.Code.{quit, break, continue, call, ends}
use Rattle.fk_core.specs.CodeAt.{is_first, is_start}
use Rattle.fk_core_flat.specs.Items.{straight, either, onto, into, out, way_of}

abbrev pub is_done : Code ℕ → Bool
is_done done = true
is_done code = false

-- Code that never goes on after its end: its last operation ends the function.
abbrev pub is_closed : Code ℕ → Bool
is_closed done = false
is_closed (perform n op rest) = is_closed rest
is_closed (choose n op x y rest) = is_closed rest
is_closed (while test body step rest) = is_closed rest
is_closed (until body test rest) = is_closed rest
is_closed (turn test body step rest) = is_closed rest
is_closed (again test body step rest) = is_closed rest
is_closed (quit n op rest) = is_closed rest
is_closed (break rest) = is_closed rest
is_closed (continue rest) = is_closed rest
is_closed (call n op f opening rest) = is_closed rest
is_closed (ends n op rest) = is_done rest || is_closed rest

-- The beginning of a call: operations that go straight on.
abbrev pub IsOpening : Code ℕ → Type 0
IsOpening done = Unit {0}
IsOpening (perform n op rest) = (way_of op ≡ straight) × IsOpening rest
IsOpening code = ⊥

-- For the functions that have a body.
module _ (has_body : (binding : ℕ) → Bool) where
  -- Each operation goes on as its place requires. No code follows an operation that goes onto its
  -- target, a loop's test begins with an operation, an operation that leaves a loop is in one, and
  -- a called function has a body.
  abbrev pub IsShaped : (in_loop : Bool) → Code ℕ → Type 0
  IsShaped l done = Unit {0}
  IsShaped l (perform n op rest) =
      ((way_of op ≡ straight) ⊎ ((way_of op ≡ onto) × (is_done rest ≡ true))) × IsShaped l rest
  IsShaped l (choose n op x y rest) = (way_of op ≡ either) × IsShaped l x × IsShaped l y
      × IsShaped l rest
  IsShaped l (while test body step rest) =
      (is_first test ≡ true) × (is_start step ≡ true)
      × IsShaped true test × IsShaped true body × IsShaped true step × IsShaped l rest
  IsShaped l (until body test rest) =
      (is_first test ≡ true) × IsShaped true body × IsShaped true test × IsShaped l rest
  IsShaped l (quit n op rest) = (l ≡ true) × (way_of op ≡ either) × IsShaped l rest
  IsShaped l (break rest) = (l ≡ true) × IsShaped l rest
  IsShaped l (continue rest) = (l ≡ true) × IsShaped l rest
  IsShaped l (call n op f opening rest) = (way_of op ≡ into) × (has_body f ≡ true)
      × IsOpening opening × IsShaped l rest
  IsShaped l (ends n op rest) = (way_of op ≡ out) × IsShaped l rest
  IsShaped l code = ⊥
