-- The slots of a function stand one behind the other: what is so of the slot of each variable, and joins, is so of them all.
use Rattle.std.proofs.Common.{◌≡◌, ℕ, Bool, true, false, List, [], ◌∷◌, ◌++◌, Some, refl, sym, subst}
use Rattle.std.specs.Prelude.{min, if◌then◌else◌}
use Rattle.fk_syntax.specs.Program as p
use Rattle.fk_syntax.specs.Program.{DeclaredTree, Statement, Statements}
use Rattle.fk_meaning_forms.specs.declared.tables.Home.TheVariants as h
use Rattle.fk_meaning_forms.specs.declared.tables.Slot.{Slot}
use Rattle.fk_layout_slots.specs.Told.{Told, splits_at, more}
use Rattle.fk_layout_slots.specs.Frames.{last_word}
use Rattle.fk_layout_slots.specs.Places.{within, outside, behind_private, slot_in, no_slot, no_slots, behind_words, behind_variable, behind_variables, behind_parameter, behind_parameters, variables_slots, parameters_slots}
use Rattle.fk_layout_slots.specs.Slots.{behind_body_frame, begun, begun_two, behind, behind_all, slots_in, all_slots_in, taken_first, at_end, body_slots}
use Rattle.fk_check_laws.proofs.Each.{Each}
use Rattle.fk_lower_names.proofs.Taken.{same_within, same_outside, same_body_frame, same_two}

-- what is said of slots that begin with so many private places before them, and end with so many
pub record Joins (Good : List Slot → (from to : ℕ) → Type 0) : Type 0 where
  pub none : (n : ℕ) → Good [] n n
  pub both : (xs ys : List Slot) (a b c : ℕ) → Good xs a b → Good ys b c → Good (xs ++ ys) a c
  pub own : (n : ℕ) → Good (record { home = h.Private; index = n } ∷ []) n (more n 1)
  -- a shared variable takes no private place, a shared parameter takes one
  pub word : (frame words n : ℕ) → Good (record { home = h.Group frame; index = min words last_word } ∷ []) n n
  pub counted : (frame words n : ℕ) → Good (record { home = h.Group frame; index = min words last_word } ∷ []) n (more n 1)

module _ (Good : List Slot → (from to : ℕ) → Type 0) (joins : Joins Good) (told : Told) where
  -- one of two ways
  either : {S T : Type 0} (slots : S → List Slot) (count : T → ℕ) (b : Bool) (x y : S) (n : ℕ) (t u : T) → Good (slots x) n (count t) → Good (slots y) n (count u)
      → Good (slots (if b then x else y)) n (count (if b then t else u))
  either slots count true x y n t u h k = h
  either slots count false x y n t u h k = k

  again : (xs : List Slot) (a b c d : ℕ) → a ≡ c → b ≡ d → Good xs a b → Good xs c d
  again xs a b c d same ends h = subst (λ n. Good xs n d) same (subst (λ n. Good xs a n) ends h)

  -- ---- variables

  one_variable : (frame : ℕ) (taken : _) (x : DeclaredTree) → Good (slot_in frame taken x ∷ []) (within taken).privates (within (behind_variable told taken x)).privates
  unfolding within slot_in behind_variable behind_words behind_private
  one_variable frame taken x =
      either (λ (s : Slot). s ∷ []) (λ t. (within t).privates) x.shared _ _ _ (behind_words told taken x) (behind_private taken)
      (joins.word frame taken.words taken.privates) (joins.own taken.privates)

  one_parameter : (frame : ℕ) (taken : _) (x : DeclaredTree) → Good (slot_in frame taken x ∷ []) (within taken).privates (within (behind_parameter told taken x)).privates
  unfolding within slot_in behind_parameter behind_words behind_private
  one_parameter frame taken x =
      either (λ (s : Slot). s ∷ []) (λ t. (within (behind_private t)).privates) x.shared _ _ _ (behind_words told taken x) taken
      (joins.counted frame taken.words taken.privates) (joins.own taken.privates)

  of_variables : (frame : ℕ) (taken : _) (xs : List DeclaredTree) → Good (variables_slots told frame taken xs) (within taken).privates (within (behind_variables told taken xs)).privates
  of_variables frame taken [] = joins.none _
  of_variables frame taken (x ∷ xs) = joins.both _ _ _ _ _ (one_variable frame taken x) (of_variables frame (behind_variable told taken x) xs)

  of_parameters : (frame : ℕ) (taken : _) (xs : List DeclaredTree) → Good (parameters_slots told frame taken xs) (within taken).privates (within (behind_parameters told taken xs)).privates
  of_parameters frame taken [] = joins.none _
  of_parameters frame taken (x ∷ xs) = joins.both _ _ _ _ _ (one_parameter frame taken x) (of_parameters frame (behind_parameter told taken x) xs)

  -- ---- statements

  -- a body with its frame
  framed : (taken : _) (x : Statement)
      → Good (slots_in told taken.frames (begun told taken x) x) (within (begun told taken x)).privates (within (behind told (begun told taken x) x)).privates
      → Good (slots_in told taken.frames (begun told taken x) x) (within taken).privates (within (outside taken (behind told (begun told taken x) x))).privates
  framed taken x h = again _ _ _ _ _ (same_body_frame told taken x) (sym (same_outside taken (behind told (begun told taken x) x))) h

  -- a body that has a frame where its statement splits
  branch : (at frame : ℕ) (taken : _) (x : Statement)
      → Good (slots_in told taken.frames (begun told taken x) x) (within (begun told taken x)).privates (within (behind told (begun told taken x) x)).privates
      → Good (slots_in told frame taken x) (within taken).privates (within (behind told taken x)).privates
      → Good (if splits_at told at then slots_in told taken.frames (begun told taken x) x else slots_in told frame taken x) (within taken).privates
      (within (if splits_at told at then outside taken (behind told (begun told taken x) x) else behind told taken x)).privates
  branch at frame taken x inner plain = either (λ (s : List Slot). s) (λ t. (within t).privates) (splits_at told at) _ _ _ _ _ (framed taken x inner) plain

  mutual
    of_statement : (frame : ℕ) (taken : _) (x : Statement) → Good (slots_in told frame taken x) (within taken).privates (within (behind told taken x)).privates
    of_statement frame taken (p.Block list) = of_statements frame taken list
    of_statement frame taken (p.Declare variables) = of_variables frame taken variables
    of_statement frame taken (p.If spot condition first) = branch spot.at frame taken first (of_statement taken.frames (begun told taken first) first) (of_statement frame taken first)
    of_statement frame taken (p.IfElse spot condition first second) = either (λ (s : List Slot). s) (λ t. (within t).privates) (splits_at told spot.at) _ _ _ _ _
        (joins.both _ _ _ _ _
        (again _ _ _ _ _ (same_two told taken first second) refl (of_statement taken.frames (begun_two told taken first second) first))
        (again _ _ _ _ _ (same_within (behind told (begun_two told taken first second) first)) (sym (same_outside taken (behind told (within (behind told (begun_two told taken first second) first)) second)))
        (of_statement (behind_body_frame told taken first).frames (within (behind told (begun_two told taken first second) first)) second)))
        (joins.both _ _ _ _ _ (of_statement frame taken first) (of_statement frame (behind told taken first) second))
    of_statement frame taken (p.While spot condition body) = branch spot.at frame taken body (of_statement taken.frames (begun told taken body) body) (of_statement frame taken body)
    of_statement frame taken (p.DoWhile spot body condition) = branch spot.at frame taken body (of_statement taken.frames (begun told taken body) body) (of_statement frame taken body)
    of_statement frame taken (p.For spot before condition after body) = branch spot.at frame taken body (of_statement taken.frames (begun told taken body) body) (of_statement frame taken body)
    of_statement frame taken (p.Start spot count body) = framed taken body (of_statement taken.frames (begun told taken body) body)
    of_statement frame taken (p.Fork spot parts part rank body) = framed taken body (of_statement taken.frames (begun told taken body) body)
    of_statement frame taken (p.Farm spot body) = of_statement frame taken body
    of_statement frame taken (p.Seq spot body) = of_statement frame taken body
    of_statement frame taken x = joins.none _

    pub of_statements : (frame : ℕ) (taken : _) (x : Statements) → Good (all_slots_in told frame taken x) (within taken).privates (within (behind_all told taken x)).privates
    of_statements frame taken p.no_statements = joins.none _
    of_statements frame taken (p.statement first others) = joins.both _ _ _ _ _ (of_statement frame taken first) (of_statements frame (behind told taken first) others)

  -- ---- functions

  from_none : (file : _) (parameters : List DeclaredTree) (body : Statements) → (within (taken_first told file parameters body)).privates ≡ 0
  unfolding within
  from_none file parameters body = refl

  pub of_body : (file : _) (parameters : List DeclaredTree) (body : Statements)
      → Good (body_slots told file parameters (Some body)) 0 (within (at_end told file parameters body)).privates
  of_body file parameters body =
      let first = taken_first told file parameters body in
      again _ _ _ _ _ (from_none file parameters body) refl
      (joins.both _ _ _ _ _ (of_parameters file.frames first parameters) (of_statements file.frames (behind_parameters told first parameters) body))

-- the parameters of a header have no word
pub of_header : (P : Slot → Type 0) → P no_slot → (xs : List DeclaredTree) → Each P (no_slots xs)
of_header P none [] = tt
of_header P none (x ∷ xs) = (none, of_header P none xs)
