-- Where frames have room, the private words and the values of functions have.
use Rattle.std.proofs.Common.{◌≡◌, ℕ, ◌+◌, ◌*◌, ◌≤◌, Bool, true, false, List, [], ◌∷◌, Option, refl, sym, ap, arith}
use Rattle.std.specs.Prelude.{◌==◌, not, if◌then◌else◌}
use Rattle.fk_syntax.specs.Program.{FunctionTree, ItemTree}
use Rattle.fk_layout_sizes.specs.Places.{beginning, places}
use Rattle.fk_meaning_forms.specs.Code.{Code, size, numbered}
use Rattle.fk_meaning_forms.specs.Tables.{Tables}
use Rattle.fk_meaning_forms.specs.Statements.{is_nothing}
use Rattle.fk_meaning_forms.specs.Program.{functions_of, binding_of, signature_of, signature_in, is_main, code_of, body_in}
use Rattle.fk_layout.specs.Frames.{file_privates, values_of, nesting_of}
use Rattle.fk_core_flat.specs.Shape.{IsShaped}
use Rattle.fk_core_liveness.specs.declared.places.FunctionKind.{FunctionKind}
use Rattle.fk_core_liveness.specs.declared.places.FunctionKind.TheVariants.{Main, Called}
use Rattle.fk_core_typing.specs.Values.{State}
use Rattle.fk_core_typing.specs.Typed.{Loop, Typed}
use Rattle.fk_lower_laws.specs.Rooms.{ahead_in}
use Rattle.fk_lower_laws.specs.Ways.{place_gives}
use Rattle.fk_lower_laws.specs.Asked.{place_by, place_in, frame_for}
use Rattle.fk_meaning.specs.Shaped.{BodyShaped, FunctionsShaped}
use Rattle.fk_lower_laws.proofs.Waiting.{function_waiting}
use Rattle.fk_lower_laws.specs.Named.{words_in}
use Rattle.fk_lower_laws.specs.Room.{HasFew, HasParts, own_words, HaveRoom}
use Rattle.fk_lower_laws.proofs.Low.{in_parts, low, counted, lows, parted}

-- what is told of a function that is called agrees with its header
pub agree_in : (tables : Tables) (fs : List FunctionTree) (b : ℕ) (gives : Bool) → place_in tables fs b ≡ Called gives → gives ≡ not (signature_in tables fs b).void
agree_in tables [] b gives is = sym (ap place_gives is)
agree_in tables (f ∷ fs) b gives is = by (binding_of tables f == b) (agree_in tables fs b gives) is
  where
    own : (main : Bool) → (if main then Main else Called (not (is_nothing f.result))) ≡ Called gives → gives ≡ not (is_nothing f.result)
    own true e = absurd (cc)
    own false e = sym (ap place_gives e)

    by : (here : Bool) → (place_in tables fs b ≡ Called gives → gives ≡ not (signature_in tables fs b).void)
        → (if here then place_by f else place_in tables fs b) ≡ Called gives
        → gives ≡ not (if here then signature_of f else signature_in tables fs b).void
    by true more e = own (is_main f) e
    by false more e = more e

module _ (tables : Tables) (items : List ItemTree) where
  abbrev everyone : List FunctionTree
  everyone = functions_of items

  -- where no frame has too many words, the private words of each function, its values and its levels have room
  pub rooms : (most : ℕ) → 8 ≤ most → (fs : List FunctionTree) (b : ℕ) → HaveRoom tables items most fs
      → ahead_in (file_privates items) (place_in tables fs b) + 8 + words_in tables (own_words tables items) fs b
      + words_in tables (values_of tables items) fs b + 4 * words_in tables (nesting_of tables items) fs b ≤ most
  rooms most enough [] b h = omega (arith, enough)
  rooms most enough (f ∷ fs) b h = by (binding_of tables f == b) (rooms most enough fs b h.1)
    where
      own : (main : Bool) (firsts words values nested : ℕ) (gives : Bool) → 8 + (words + (if main then firsts else 0)) + values + 4 * nested ≤ most
          → ahead_in firsts (if main then Main else Called gives) + 8 + words + values + 4 * nested ≤ most
      own true firsts words values nested gives few = omega (arith, few)
      own false firsts words values nested gives few = omega (arith, few)

      by : (is : Bool)
          → ahead_in (file_privates items) (place_in tables fs b) + 8 + words_in tables (own_words tables items) fs b + words_in tables (values_of tables items) fs b
          + 4 * words_in tables (nesting_of tables items) fs b ≤ most
          → ahead_in (file_privates items) (if is then place_by f else place_in tables fs b) + 8
          + (if is then own_words tables items f else words_in tables (own_words tables items) fs b)
          + (if is then values_of tables items f else words_in tables (values_of tables items) fs b)
          + 4 * (if is then nesting_of tables items f else words_in tables (nesting_of tables items) fs b) ≤ most
      by true more =
          own (is_main f) (file_privates items) (own_words tables items f) (values_of tables items f) (nesting_of tables items f) (not (is_nothing f.result)) h.0
      by false more = more

  module _ (has_body : ℕ → Bool) where
    abbrev places' : (binding : ℕ) → FunctionKind
    places' b = place_in tables everyone b

    abbrev frames' : (binding : ℕ) → Option ℕ
    frames' b = frame_for tables (signature_in tables everyone) places' b

    abbrev IsFew : FunctionTree → Code ℕ → Type 0
    IsFew f code = HasFew places' (values_of tables items f) 0 code × HasParts (nesting_of tables items f) 0 code

    function_few : (f : FunctionTree) (first : ℕ) (l : Option Loop) (s e : State) → IsShaped has_body false (numbered first (code_of tables everyone f))
        → Typed places' frames' l s (numbered first (code_of tables everyone f)) e → BodyShaped tables (signature_in tables everyone) f.body
        → IsFew f (numbered first (code_of tables everyone f))
    function_few f first l s e shaped typed all =
        let code = code_of tables everyone f in
        let functions = signature_in tables everyone in
        let most = values_of tables items f in
        let nested = nesting_of tables items f in
        let even = counted functions places' frames' (agree_in tables everyone) has_body code first false l s e shaped typed (function_waiting tables everyone f all) in (
          lows functions places' most code beginning first refl even (low most (places functions beginning code) (omega arith)),
          parted functions places' nested code beginning first 0 (omega arith) even (in_parts nested (places functions beginning code) (omega arith)),
        )

    abbrev AreFew : List FunctionTree → (b : ℕ) → Code ℕ → Type 0
    AreFew fs b code = HasFew places' (words_in tables (values_of tables items) fs b) 0 code × HasParts (words_in tables (nesting_of tables items) fs b) 0 code

    pub bodies_few : (fs : List FunctionTree) (first b : ℕ) (l : Option Loop) (s e : State) → FunctionsShaped tables (signature_in tables everyone) fs
        → IsShaped has_body false (body_in tables everyone first fs b) → Typed places' frames' l s (body_in tables everyone first fs b) e
        → HasFew places' (words_in tables (values_of tables items) fs b) 0 (body_in tables everyone first fs b)
        × HasParts (words_in tables (nesting_of tables items) fs b) 0 (body_in tables everyone first fs b)
    bodies_few [] first b l s e all shaped typed = (omega arith, omega arith)
    bodies_few (f ∷ fs) first b l s e all shaped typed =
        by (binding_of tables f == b)
        (bodies_few fs (first + size (code_of tables everyone f)) b l s e all.1)
        shaped typed
      where
        by : (is : Bool)
            → (IsShaped has_body false (body_in tables everyone (first + size (code_of tables everyone f)) fs b)
            → Typed places' frames' l s (body_in tables everyone (first + size (code_of tables everyone f)) fs b) e
            → AreFew fs b (body_in tables everyone (first + size (code_of tables everyone f)) fs b))
            → IsShaped has_body false (if is then numbered first (code_of tables everyone f) else body_in tables everyone (first + size (code_of tables everyone f)) fs b)
            → Typed places' frames' l s (if is then numbered first (code_of tables everyone f) else body_in tables everyone (first + size (code_of tables everyone f)) fs b) e
            → HasFew places' (if is then values_of tables items f else words_in tables (values_of tables items) fs b) 0
            (if is then numbered first (code_of tables everyone f) else body_in tables everyone (first + size (code_of tables everyone f)) fs b)
            × HasParts (if is then nesting_of tables items f else words_in tables (nesting_of tables items) fs b) 0
            (if is then numbered first (code_of tables everyone f) else body_in tables everyone (first + size (code_of tables everyone f)) fs b)
        by true more shaped' typed' = function_few f first l s e shaped' typed' all.0
        by false more shaped' typed' = more shaped' typed'
