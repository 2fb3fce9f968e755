-- Nodes as the machine knows them: the harts of a node of the tree of groups, and the control words
-- that the node owns.
use Rattle.std.specs.Prelude.{◌≡◌, ℕ, suc, ◌==◌, List, [], ◌∷◌, Bool, true, false}
use Rattle.fk_num.specs.Word.{Memory}
use Rattle.fk_machine.specs.Hart.{Hart}

-- A hart with its number.
pub record Member : Type 0 where
  pub number : ℕ
  pub hart : Hart

-- Harts with their numbers, from `number` on.
abbrev pub numbered : (first : ℕ) → List Hart → List Member
numbered number [] = []
numbered number (h ∷ hs) = record { number = number; hart = h } ∷ numbered (suc number) hs

-- Of a list with one element for each hart, those of the harts in node g. The first list has the
-- node of each hart.
abbrev pub add : {A : Type 0} → Bool → A → List A → List A
add true x xs = x ∷ xs
add false x xs = xs

abbrev pub of_node : {A : Type 0} → (g : ℕ) → (nodes : List ℕ) → List A → List A
of_node g (n ∷ ns) (x ∷ xs) = add (n == g) x (of_node g ns xs)
of_node g [] xs = []
of_node g (n ∷ ns) [] = []

-- Three lists have one element for each hart.
abbrev pub AreAsMany : {A B C : Type 0} → List A → List B → List C → Type 0
AreAsMany [] [] [] = Unit {0}
AreAsMany (x ∷ xs) (y ∷ ys) (z ∷ zs) = AreAsMany xs ys zs
AreAsMany xs ys zs = ⊥

-- A set of control words.
abbrev pub Words : Type 0
Words = ℕ → Bool

-- Control memory has these values at these words.
abbrev pub Has : Words → (control own : Memory) → Type 0
Has words control own = (i : ℕ) → words i ≡ true → control i ≡ own i

-- Control memory is as it was at all words that are in neither of two sets.
abbrev pub KeepsOthers : (mine common : Words) → (old new : Memory) → Type 0
KeepsOthers mine common old new = (i : ℕ) → mine i ≡ false → common i ≡ false → new i ≡ old i

-- No word is in both sets.
abbrev pub AreApart : Words → Words → Type 0
AreApart words others = (i : ℕ) → words i ≡ true → others i ≡ false

-- No word is the own word of two nodes, and none is both a node's own and common to all.
pub record OwnApart (words : ℕ → Words) (common : Words) : Type 0 where
  pub nodes : (g k : ℕ) → (g ≡ k → ⊥) → AreApart (words g) (words k)
  pub from_common : (g : ℕ) → AreApart (words g) common
