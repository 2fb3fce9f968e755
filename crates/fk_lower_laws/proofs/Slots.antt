-- The private words of a function lie one behind the other: each below the number of them all.
use Rattle.std.proofs.Common.{◌≡◌, ℕ, ◌+◌, ◌<◌, ◌≤◌, Bool, true, false, List, [], ◌∷◌, ◌++◌, length, Some, subst, arith}
use Rattle.std.specs.Prelude.{if◌then◌else◌}
use Rattle.fk_syntax.specs.Program.{DeclaredTree, Statements}
use Rattle.fk_meaning_forms.specs.declared.tables.Home.{Home}
use Rattle.fk_meaning_forms.specs.declared.tables.Home.TheVariants as h
use Rattle.fk_meaning_forms.specs.declared.tables.Slot.{Slot}
use Rattle.fk_layout_slots.specs.Told.{Told}
use Rattle.fk_layout_slots.specs.Places.{none_taken, within, behind_private, behind_words, behind_parameter, behind_parameters}
use Rattle.fk_layout_slots.specs.Slots.{taken_first, at_end, body_slots}
use Rattle.fk_layout_slots.proofs.Alike.{same_privates}
use Rattle.fk_check_laws.proofs.Each.{Each, each_map}
use Rattle.fk_lower_names.proofs.Regions.{join}
use Rattle.fk_lower_names.proofs.Walk.{Joins, of_statements, of_body}

-- a word of a function is below this number. No variable of a function lies in the file's words
abbrev pub IsBelow : (count : ℕ) → Home → (index : ℕ) → Type 0
IsBelow count h.Private i = i < count
IsBelow count h.FilePrivate i = ⊥
IsBelow count home i = Unit {0}

abbrev pub Below : (count : ℕ) → Slot → Type 0
Below count s = IsBelow count s.home s.index

more : (a b : ℕ) → a ≤ b → (s : Slot) → Below a s → Below b s
more a b less s = by s.home
  where
    by : (home : Home) → IsBelow a home s.index → IsBelow b home s.index
    by h.Private below = let l : s.index < a = below in omega (arith, l, less)
    by h.FilePrivate below = below
    by h.Global below = tt
    by (h.Group r) below = tt
    by h.NoWord below = tt

-- slots that begin with so many private places before them, and end with so many
record Good (slots : List Slot) (from to : ℕ) : Type 0 where
  own : to ≤ 64 → (from ≤ to) × Each (Below to) slots

none : (n : ℕ) → Good [] n n
none n = record { own = λ few. (omega arith, tt) }

both : (xs ys : List Slot) (a b c : ℕ) → Good xs a b → Good ys b c → Good (xs ++ ys) a c
both xs ys a b c h k = record {
  own = λ few.
      let second = k.own few in
      let up = second.0 in
      let first = h.own (omega (arith, few, up)) in
      (omega (arith, first.0, up), join (Below c) xs ys (each_map (Below b) (Below c) (more b c up) xs first.1) second.1);
}

joined : Joins Good
joined = record {
  none = none;
  both = both;
  own = λ n. record { own = λ few. (omega (arith, few), (omega (arith, few), tt)) };
  word = λ frame words n. record { own = λ few. (omega arith, (tt, tt)) };
  counted = λ frame words n. record { own = λ few. (omega (arith, few), (tt, tt)) };
}

module _ (told : Told) where
  -- a parameter takes one more
  takes_or : (b : Bool) (taken : _) (x : DeclaredTree) → (within (behind_private (if b then behind_words told taken x else taken))).privates ≤ 64
      → (within taken).privates + 1 ≤ (within (behind_private (if b then behind_words told taken x else taken))).privates
  unfolding within behind_words behind_private
  takes_or true taken x few = omega (arith, few)
  takes_or false taken x few = omega (arith, few)

  takes_one : (taken : _) (x : DeclaredTree) → (within (behind_parameter told taken x)).privates ≤ 64
      → (within taken).privates + 1 ≤ (within (behind_parameter told taken x)).privates
  unfolding behind_parameter
  takes_one taken x few = takes_or x.shared taken x few

  parameters_take : (taken : _) (xs : List DeclaredTree) → (within (behind_parameters told taken xs)).privates ≤ 64
      → (within taken).privates + length xs ≤ (within (behind_parameters told taken xs)).privates
  parameters_take taken [] few = omega arith
  parameters_take taken (x ∷ xs) few =
      let rest = parameters_take (behind_parameter told taken x) xs few in
      let one = takes_one taken x (omega (arith, rest, few)) in
      omega (arith, rest, one)

  ends_so : (file : _) (parameters : List DeclaredTree) (body : Statements) → (within (at_end told file parameters body)).privates ≡ (at_end told none_taken parameters body).privates
  unfolding within
  ends_so file parameters body = same_privates told file parameters body

  -- each word of a function is below the number of its private words, and it has as many as parameters
  pub own_slots : (file : _) (parameters : List DeclaredTree) (body : Statements) → (at_end told none_taken parameters body).privates ≤ 64
      → Each (Below (at_end told none_taken parameters body).privates) (body_slots told file parameters (Some body)) × (length parameters ≤ (at_end told none_taken parameters body).privates)
  own_slots file parameters body few =
      let end = ends_so file parameters body in
      let first = taken_first told file parameters body in
      let all = subst (λ n. Good (body_slots told file parameters (Some body)) 0 n) end (of_body Good joined told file parameters body) in
      let up = ((of_statements Good joined told file.frames (behind_parameters told first parameters) body).own (omega (arith, few, end))).0 in
      let count = parameters_take first parameters (omega (arith, few, end, up)) in
      ((all.own few).1, omega (arith, count, up, end))
