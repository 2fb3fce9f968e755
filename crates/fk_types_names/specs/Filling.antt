-- Finding what names denote, from mark to mark.
use Rattle.std.specs.Prelude.{◌≡◌, ◌≢◌, ℕ, ◌<◌, List, Bool, true, false, Option, Some, length}
use Rattle.std.specs.Prelude.{slice_get, slice_index}
use Rattle.fk_syntax.specs.Tree.{Named}
use Rattle.fk_types_names.specs.declared.names.Meaning.{Meaning}
use Rattle.fk_types_names.specs.declared.names.Survey.{Survey}
use Rattle.fk_types_names.specs.Outline.{MarkTree, Variable, Header, Opens, Closes, Declares, Uses}
use Rattle.fk_types_names.specs.Means.{HasBodyAt, MeansAt, UsesAt, binding}
use Rattle.fk_types_names.specs.Locals.{IsFirstOf}
use Rattle.fk_types_names.specs.TableView.{shown}

-- each name in an expression is a token of its own
pub record AreApart (marks : List MarkTree) (tokens : ℕ) : Type 0 where
  pub below : (i : ℕ) (n : Named) → UsesAt marks n i → n.at < tokens
  pub apart : (i j : ℕ) (n m : Named) → i < j → UsesAt marks n i → UsesAt marks m j → n.at ≢ m.at

abbrev pub is_header : MarkTree → Bool
is_header Opens = false
is_header Closes = false
is_header (Declares (Variable variable)) = false
is_header (Declares (Header function)) = true
is_header (Uses name) = false

-- the tables of a survey are those of these marks
pub record IsSurvey (marks : List MarkTree) (survey : Survey) : Type 0 where
  pub size : length survey.numbers.items ≡ length marks
  pub numbers : (k : ℕ) → k < length marks → slice_index survey.numbers.items k ≡ binding marks k
  pub definitions : (name : List ℕ)
      → IsFirstOf (HasBodyAt marks name) (shown survey.definitions name)

-- the meanings of the names before an index have been found, and no others
pub record AreFound (marks : List MarkTree) (tokens : ℕ) (meanings : List (Option Meaning))
    (upto : ℕ) : Type 0 where
  pub size : length meanings ≡ tokens
  pub found : (k : ℕ) (name : Named) → k < upto → UsesAt marks name k
      → (m : Meaning) × (slice_get meanings name.at ≡ Some (Some m)) × MeansAt marks name.bytes k m
  pub only : (t : ℕ) (m : Meaning) → slice_get meanings t ≡ Some (Some m) → (k : ℕ) × (name : Named)
      × UsesAt marks name k × (name.at ≡ t) × MeansAt marks name.bytes k m
