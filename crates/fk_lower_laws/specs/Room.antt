-- Frames with room for the private words and the values of functions.
use Rattle.std.specs.Prelude.{◌≡◌, ℕ, ◌+◌, ◌-◌, ◌≤◌, true, false, List, [], ◌∷◌}
use Rattle.fk_syntax.specs.Program.{FunctionTree, ItemTree}
use Rattle.fk_layout_sizes.specs.Operations.{takes, nests}
use Rattle.fk_meaning_forms.specs.Code.{Code, done, perform, choose, while, until, quit, break}
use Rattle.fk_meaning_forms.specs.Code.{continue, call, ends}
use Rattle.fk_meaning_forms.specs.Tables.{Tables}
use Rattle.fk_layout_slots.specs.Slots.{own_of}
use Rattle.fk_layout.specs.Frames.{told_in, private_words}
use Rattle.fk_core_liveness.specs.declared.places.FunctionKind.{FunctionKind}
use Rattle.fk_core_flat.specs.Shape.{is_done}
use Rattle.fk_core_typing.specs.Heights.{raised, results_of, height}

-- Code with at most `most` values at each of its places, counted as in `height`. Where nothing is
-- done on the other way of a choice, nothing is asked of it.
module _ (place_of : (binding : ℕ) → FunctionKind) (most : ℕ) where
  abbrev pub HasFew : (values : ℕ) → Code ℕ → Type 0
  HasFew h done = h ≤ most
  HasFew h (perform n op rest) = (h ≤ most) × HasFew (raised h op true) rest
  HasFew h (choose n op x y rest) =
      (h ≤ most) × HasFew (raised h op true) x
      × (is_done y ≡ false → HasFew (raised h op false) y)
      × HasFew (height place_of (raised h op true) x) rest
  HasFew h (while test body step rest) =
      let b = height place_of h test in
      let s = height place_of b body in
      HasFew h test × HasFew b body × HasFew s step × HasFew (height place_of s step) rest
  HasFew h (until body test rest) =
      let t = height place_of h body in
      HasFew h body × HasFew t test × HasFew (height place_of t test) rest
  HasFew h (quit n op rest) = (h ≤ most) × HasFew (raised h op true) rest
  HasFew h (break rest) = HasFew h rest
  HasFew h (continue rest) = HasFew h rest
  HasFew h (call n op f opening rest) = (h ≤ most)
      × HasFew (h - takes op + results_of (place_of f)) rest
  HasFew h (ends n op rest) = (h ≤ most) × HasFew (raised h op true) rest
  HasFew h code = ⊥

-- Code of which each place has at most `most` parts and bodies around it, with so many around its
-- beginning.
module _ (most : ℕ) where
  abbrev pub HasParts : (around : ℕ) → Code ℕ → Type 0
  HasParts m done = m ≤ most
  HasParts m (perform n op rest) = (m ≤ most) × HasParts m rest
  HasParts m (choose n op x y rest) = (m ≤ most) × HasParts (m + nests op) x
      × HasParts (m + nests op) y × HasParts m rest
  HasParts m (while test body step rest) = HasParts m test × HasParts m body × HasParts m step
      × HasParts m rest
  HasParts m (until body test rest) = HasParts m body × HasParts m test × HasParts m rest
  HasParts m (quit n op rest) = (m ≤ most) × HasParts m rest
  HasParts m (break rest) = HasParts m rest
  HasParts m (continue rest) = HasParts m rest
  HasParts m (call n op f opening rest) = (m ≤ most) × HasParts m rest
  HasParts m (ends n op rest) = (m ≤ most) × HasParts m rest
  HasParts m code = ⊥

module _ (tables : Tables) (items : List ItemTree) where
  -- The private words of a function, without those of file scope.
  abbrev pub own_words : FunctionTree → ℕ
  own_words f = (own_of (told_in tables) f).privates

  -- The private frames of functions have at most this many words.
  abbrev pub HaveRoom : (most : ℕ) → List FunctionTree → Type 0
  HaveRoom most [] = Unit {0}
  HaveRoom most (f ∷ fs) = (private_words tables items f ≤ most) × HaveRoom most fs
