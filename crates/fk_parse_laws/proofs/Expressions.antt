-- Each expression of a text has the properties that its tokens give it.
use Rattle.std.proofs.Common.{ℕ, zero, suc, ◌+◌, List, [], ◌∷◌, Option, Some, None}
use Rattle.std.specs.Prelude.{All}
use Rattle.fk_syntax.specs.declared.sign.Sign.{Sign}
use Rattle.fk_syntax.specs.Tree as t
use Rattle.fk_syntax.specs.Tree.{Named, Tree, LinkTree, SuffixTree, links_of, trees_of, suffixes_of}
use Rattle.fk_parse_combinators.specs.Languages.{Placed, name}
use Rattle.fk_expr.specs.Grammar.{Deeper, deeper, primary, arguments, listed, suffix, suffixed, postfix, prefix, linked, chained, joined, chosen, choice, assigned, assignment, comma_linked, comma}
use Rattle.fk_parse_laws.specs.Every.{Always, Parts, TreeHas, LinksHave, TreesHave, SuffixesHave}
use Rattle.fk_parse_laws.specs.Words.{IsWord, LengthIsWord}
use Rattle.fk_parse_laws.proofs.Holding.{Holds, always, of_nothing, of_making, of_then, of_or, Each, of_many, OfOption, of_maybe, of_number, of_text}

-- properties of what is read: numbers are words, chains have a sign, and lists of suffixes aren't empty
pub record AreRead (has : Parts) : Type 0 where
  pub number : (value : ℕ) → IsWord value → has.number value
  pub text : (bytes : List ℕ) → All IsWord bytes → has.text bytes
  pub links : (x : LinkTree) (xs : List LinkTree) → has.links (links_of (x ∷ xs))
  pub suffixes : (x : SuffixTree) (xs : List SuffixTree) → has.suffixes (suffixes_of (x ∷ xs))
  pub member : (member : Named) → has.member member
  pub length : (length : Option ℕ) → LengthIsWord length → has.length length

module _ (has : Parts) (read : AreRead has) where
  abbrev LinkHas : LinkTree → Type 0
  LinkHas x = TreeHas has x.right

  abbrev SuffixHas : SuffixTree → Type 0
  SuffixHas (t.Index spot by) = TreeHas has by
  SuffixHas (t.Call spot arguments) = TreesHave has arguments
  SuffixHas (t.Dot spot member) = has.member member
  SuffixHas (t.Arrow spot member) = has.member member
  SuffixHas (t.Up spot) = Unit {0}
  SuffixHas (t.Down spot) = Unit {0}

  links_have : (xs : List LinkTree) → Each LinkHas xs → LinksHave has (links_of xs)
  links_have [] h = tt
  links_have (x ∷ xs) h = (h.0, links_have xs h.1)

  trees_have : (xs : List Tree) → Each (TreeHas has) xs → TreesHave has (trees_of xs)
  trees_have [] h = tt
  trees_have (x ∷ xs) h = (h.0, trees_have xs h.1)

  suffixes_have : (xs : List SuffixTree) → Each SuffixHas xs → SuffixesHave has (suffixes_of xs)
  suffixes_have [] h = tt
  suffixes_have (t.Index spot by ∷ xs) h = (h.0, suffixes_have xs h.1)
  suffixes_have (t.Call spot arguments ∷ xs) h = (h.0, suffixes_have xs h.1)
  suffixes_have (t.Dot spot member ∷ xs) h = (h.0, suffixes_have xs h.1)
  suffixes_have (t.Arrow spot member ∷ xs) h = (h.0, suffixes_have xs h.1)
  suffixes_have (t.Up spot ∷ xs) h = suffixes_have xs h.1
  suffixes_have (t.Down spot ∷ xs) h = suffixes_have xs h.1

  suffixed_has : (whole : Tree) → TreeHas has whole → (xs : List SuffixTree) → Each SuffixHas xs → TreeHas has (suffixed whole xs)
  suffixed_has whole w [] h = w
  suffixed_has whole w (x ∷ xs) h = (read.suffixes x xs, w, suffixes_have (x ∷ xs) h)

  chained_has : (first : Tree) → TreeHas has first → (xs : List LinkTree) → Each LinkHas xs → TreeHas has (chained first xs)
  chained_has first w [] h = w
  chained_has first w (x ∷ xs) h = (read.links x xs, w, links_have (x ∷ xs) h)

  listed_have : (x : Option (Tree × List Tree)) → OfOption (λ y. TreeHas has y.0 × Each (TreeHas has) y.1) x → TreesHave has (trees_of (listed x))
  listed_have None h = tt
  listed_have (Some (first, others)) h = trees_have (first ∷ others) h

  chosen_has : (condition : Tree) → TreeHas has condition → (x : Option (Placed × (Tree × (Placed × Tree)))) → OfOption (λ y. Unit {0} × (TreeHas has y.1.0 × (Unit {0} × TreeHas has y.1.1.1))) x
      → TreeHas has (chosen condition x)
  chosen_has condition w None h = w
  chosen_has condition w (Some (question, (first, (colon, second)))) h = (w, h.1.0, h.1.1.1)

  assigned_has : (target : Tree) → TreeHas has target → (x : Option ((Placed × Sign) × Tree)) → OfOption (λ y. Unit {0} × TreeHas has y.1) x → TreeHas has (assigned target x)
  assigned_has target w None h = w
  assigned_has target w (Some ((at, operator), value)) h = (w, h.1)

  -- what is one level deeper has the properties
  record HaveAll (D : Deeper) : Type 0 where
    comma : (l : ℕ) → Holds (D.comma l) (TreeHas has)
    assignment : (l : ℕ) → Holds (D.assignment l) (TreeHas has)
    choice : (l : ℕ) → Holds (D.choice l) (TreeHas has)
    prefix : (l : ℕ) → Holds (D.prefix l) (TreeHas has)

  module _ (D : Deeper) (d : HaveAll D) where
    primary_has : (l : ℕ) → Holds (primary D l) (TreeHas has)
    primary_has l =
        of_or (of_making _ of_number (λ x h. read.number x.1.0 h))
        (of_or (of_making Always always (λ x h. tt))
        (of_or (of_making Always always (λ x h. tt))
        (of_or (of_making Always always (λ x h. tt))
        (of_or (of_making _ (of_then always (of_then (d.comma (l + 1)) always)) (λ x h. h.1.0))
        (of_making _ (of_then always (of_then always (of_then of_text always))) (λ x h. read.text x.1.1.0.bytes h.1.1.0))))))

    suffix_has : (l : ℕ) → Holds (suffix D l) SuffixHas
    suffix_has l =
        of_or (of_making _ (of_then always (of_then (d.comma (l + 1)) always)) (λ x h. h.1.0))
        (of_or (of_making _ (of_then always (of_then (arguments_have (l + 1)) always)) (λ x h. h.1.0))
        (of_or (of_making Always always (λ x h. read.member (name x.1)))
        (of_or (of_making Always always (λ x h. read.member (name x.1)))
        (of_or (of_making Always always (λ x h. tt))
        (of_making Always always (λ x h. tt))))))
      where
        arguments_have : (m : ℕ) → Holds (arguments D m) (λ xs. TreesHave has (trees_of xs))
        arguments_have m =
            of_making _ (of_maybe (of_then (d.assignment m) (of_many (of_making _ (of_then always (d.assignment m)) (λ x h. h.1))))) (λ x h. listed_have x h)

    postfix_has : (l : ℕ) → Holds (postfix D l) (TreeHas has)
    postfix_has l = of_making _ (of_then (primary_has l) (of_many (suffix_has l))) (λ x h. suffixed_has x.0 h.0 x.1 h.1)

    prefix_has : (l : ℕ) → Holds (prefix D l) (TreeHas has)
    prefix_has l =
        of_or (of_making _ (of_then always (d.prefix (l + 1))) (λ x h. h.1))
        (of_or (of_making _ (of_then always (of_then always (of_then always (d.prefix (l + 1))))) (λ x h. h.1.1.1))
        (of_or (of_making Always always (λ x h. tt))
        (postfix_has l)))

    joined_has : (l looseness : ℕ) → Holds (joined D l looseness) (TreeHas has)
    joined_has l zero = prefix_has l
    joined_has l (suc looseness) =
        of_making _ (of_then (joined_has l looseness) (of_many (of_making _ {f = linked} (of_then always (joined_has l looseness)) (λ x h. h.1)))) (λ x h. chained_has x.0 h.0 x.1 h.1)

    choice_has : (l : ℕ) → Holds (choice D l) (TreeHas has)
    choice_has l =
        of_making _ (of_then (joined_has l 10) (of_maybe (of_then always (of_then (d.comma (l + 1)) (of_then always (d.choice (l + 1)))))))
        (λ x h. chosen_has x.0 h.0 x.1 h.1)

    assignment_has : (l : ℕ) → Holds (assignment D l) (TreeHas has)
    assignment_has l = of_making _ (of_then (choice_has l) (of_maybe (of_then always (d.assignment (l + 1))))) (λ x h. assigned_has x.0 h.0 x.1 h.1)

    comma_has : (l : ℕ) → Holds (comma D l) (TreeHas has)
    comma_has l =
        of_making _ (of_then (assignment_has l) (of_many (of_making _ {f = comma_linked} (of_then always (assignment_has l)) (λ x h. h.1)))) (λ x h. chained_has x.0 h.0 x.1 h.1)

  deeper_has : (n : ℕ) → HaveAll (deeper n)
  deeper_has zero = record { comma = λ l. of_nothing; assignment = λ l. of_nothing; choice = λ l. of_nothing; prefix = λ l. of_nothing }
  deeper_has (suc n) = record {
    comma = comma_has (deeper n) (deeper_has n);
    assignment = assignment_has (deeper n) (deeper_has n);
    choice = choice_has (deeper n) (deeper_has n);
    prefix = prefix_has (deeper n) (deeper_has n);
  }

  pub expression_has : (bound l : ℕ) → Holds (comma (deeper bound) l) (TreeHas has)
  expression_has bound l = comma_has (deeper bound) (deeper_has bound) l

  pub assignment_of : (bound l : ℕ) → Holds (assignment (deeper bound) l) (TreeHas has)
  assignment_of bound l = assignment_has (deeper bound) (deeper_has bound) l
