-- The code that follows an expression of which the result's location is known: the links of a
-- chain, and suffixes.
use Rattle.std.specs.Prelude.{ℕ, Option, Some, None}
use Rattle.fk_syntax.specs.declared.sign.Sign.TheVariants.{Plus, Minus}
use Rattle.fk_syntax.specs.Tree as t
use Rattle.fk_syntax.specs.declared.place.Spot.{Spot}
use Rattle.fk_syntax.specs.declared.sign.Sign.{Sign}
use Rattle.fk_syntax.specs.Tree.{Tree, Links, Suffixes, SuffixTree}
use Rattle.fk_meaning_forms.specs.Tables.{Tables}
use Rattle.fk_meaning_forms.specs.Expressions.{ResultLocation, Signature, Evaluation, evaluated}
use Rattle.fk_meaning_forms.specs.Expressions.{token, joined}
use Rattle.fk_meaning_forms.specs.Expressions.{assignment, all_evaluated, indexed, calling, dotted}
use Rattle.fk_meaning_forms.specs.Expressions.{pointed, raised}

module _ (tables : Tables) (functions : (binding : ℕ) → Signature) where
  abbrev pub one_suffix : ResultLocation → (at : ℕ) → SuffixTree → Evaluation
  one_suffix s at (t.Index spot by) =
      indexed tables functions spot (λ j. j s) (evaluated tables functions by)
  one_suffix s at (t.Call spot arguments) =
      λ k. calling tables functions (all_evaluated tables functions arguments) k s
  one_suffix s at (t.Dot spot member) = dotted tables functions spot member.at (λ j. j s)
  one_suffix s at (t.Arrow spot member) = pointed tables functions spot member.at (λ j. j s)
  one_suffix s at (t.Up spot) = raised tables functions Plus Minus (λ j. j s) at
  one_suffix s at (t.Down spot) = raised tables functions Minus Plus (λ j. j s) at

  abbrev pub one_link : ResultLocation → (at : ℕ) → Spot → Sign → (right : Tree) → Evaluation
  one_link s at spot sign right =
      joined tables functions spot sign (λ j. j s) at (evaluated tables functions right)
      (token right)

  unfoldable pub assigned_to : ResultLocation → (at : ℕ) → Sign → (right : Tree) → Evaluation
  assigned_to s at sign right =
      assignment tables functions sign (λ j. j s) at (evaluated tables functions right)
      (token right)

  abbrev pub chained : ResultLocation → (at : ℕ) → Links → Evaluation
  chained s at t.no_links k = k s
  chained s at (t.link spot sign right others) k =
      one_link s at spot sign right (λ j. chained j spot.at others k)

  abbrev pub followed : ResultLocation → (at : ℕ) → Suffixes → Evaluation
  followed s at t.no_suffixes k = k s
  followed s at (t.index spot by others) k =
      one_suffix s at (t.Index spot by) (λ j. followed j spot.at others k)
  followed s at (t.call spot arguments others) k =
      one_suffix s at (t.Call spot arguments) (λ j. followed j spot.at others k)
  followed s at (t.dot spot member others) k =
      one_suffix s at (t.Dot spot member) (λ j. followed j spot.at others k)
  followed s at (t.arrow spot member others) k =
      one_suffix s at (t.Arrow spot member) (λ j. followed j spot.at others k)
  followed s at (t.up spot others) k =
      one_suffix s at (t.Up spot) (λ j. followed j spot.at others k)
  followed s at (t.down spot others) k =
      one_suffix s at (t.Down spot) (λ j. followed j spot.at others k)

abbrev pub suffix_at : SuffixTree → ℕ
suffix_at (t.Index spot by) = spot.at
suffix_at (t.Call spot arguments) = spot.at
suffix_at (t.Dot spot member) = spot.at
suffix_at (t.Arrow spot member) = spot.at
suffix_at (t.Up spot) = spot.at
suffix_at (t.Down spot) = spot.at

-- the token of the last link or suffix, or else the token before them
abbrev pub or_before : Option ℕ → (before : ℕ) → ℕ
or_before None before = before
or_before (Some at) before = at
