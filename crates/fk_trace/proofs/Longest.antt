-- The longest ranges, taken from the first hart on.
use Rattle.std.proofs.Common.{◌≡◌, ◌≢◌, ℕ, zero, suc, ◌+◌, ◌-◌, ◌≤◌, List, [], ◌∷◌, ◌++◌, Bool, true, false, refl, sym, ap, ◌∙◌, arith, append-nil, eq-eqb}
use Rattle.std.specs.Prelude.{◌==◌, if◌then◌else◌, flat_map, replicate}
use Rattle.std.proofs.lemmas.Bool.{eqb-true}
use Rattle.fk_trace.specs.declared.column.Column.{Column}
use Rattle.fk_trace.specs.declared.hart_range.HartRange.{HartRange}
use Rattle.fk_trace.specs.Text.{Range, joined, ranges, range_text, ranges_text}
use Rattle.fk_trace.specs.Ranges.{range_of, text_from}

abbrev single : ℕ → ℕ → Range
single hart number = record { first = hart; last = hart; number = number }

-- the ranges of some harts begin with one of the first hart's number
record Starts (number : ℕ) (rs : List Range) : Type 0 where
  first : Range
  rest : List Range
  are : rs ≡ first ∷ rest
  number_is : first.number ≡ number

starts : (hart number : ℕ) (rs : List Range) → Starts number (joined hart number rs)
starts hart number [] = record { first = single hart number; rest = []; are = refl; number_is = refl }
starts hart number (r ∷ rs) = by (r.number == number) refl
  where
    by : (b : Bool) → (r.number == number) ≡ b → Starts number (joined hart number (r ∷ rs))
    by true e = record {
      first = record r { first = hart };
      rest = rs;
      are = ap (λ b. if b then record r { first = hart } ∷ rs else single hart number ∷ r ∷ rs) e;
      number_is = eqb-true r.number number e;
    }
    by false e = record {
      first = single hart number;
      rest = r ∷ rs;
      are = ap (λ b. if b then record r { first = hart } ∷ rs else single hart number ∷ r ∷ rs) e;
      number_is = refl;
    }

-- a hart before a range of another number, and before one of its own
joined-apart : (hart number : ℕ) (r : Range) (rs : List Range) → r.number ≢ number → joined hart number (r ∷ rs) ≡ single hart number ∷ r ∷ rs
joined-apart hart number r rs other = by (r.number == number) refl
  where
    by : (b : Bool) → (r.number == number) ≡ b → joined hart number (r ∷ rs) ≡ single hart number ∷ r ∷ rs
    by true e = absurd (other (eqb-true r.number number e))
    by false e = ap (λ b. if b then record r { first = hart } ∷ rs else single hart number ∷ r ∷ rs) e

same-number : (n : ℕ) → (n == n) ≡ true
same-number n = eq-eqb n n refl

joined-same : (hart number : ℕ) (first last : ℕ) (rs : List Range)
    → joined hart number (record { first = first; last = last; number = number } ∷ rs) ≡ record { first = hart; last = last; number = number } ∷ rs
joined-same hart number first last rs =
    ap (λ b. if b then record { first = hart; last = last; number = number } ∷ rs else single hart number ∷ record { first = first; last = last; number = number } ∷ rs)
    (same-number number)

-- the harts above begin with another number, or there are none
abbrev pub Other : ℕ → List ℕ → Type 0
Other number [] = Unit {0}
Other number (next ∷ above) = next ≢ number

-- one hart, and others that begin with another number
first_alone : (hart number : ℕ) (above : List ℕ) → Other number above → ranges hart (number ∷ above) ≡ single hart number ∷ ranges (suc hart) above
first_alone hart number [] other = refl
first_alone hart number (next ∷ above) other =
    let s = starts (suc hart) next (ranges (suc (suc hart)) above) in
    ap (joined hart number) s.are
    ∙ joined-apart hart number s.first s.rest (λ e. other (sym s.number_is ∙ e))
    ∙ ap (λ rs. single hart number ∷ rs) (sym s.are)

-- some harts of one number are a range
one_range : (hart more number : ℕ) (above : List ℕ) → Other number above
    → ranges hart (replicate (suc more) number ++ above) ≡ record { first = hart; last = hart + more; number = number } ∷ ranges (hart + suc more) above
one_range hart zero number above other =
    let here : hart ≡ hart + zero = omega arith in
    let next : suc hart ≡ hart + suc zero = omega arith in
    first_alone hart number above other
    ∙ ap (λ last. record { first = hart; last = last; number = number } ∷ ranges (suc hart) above) here
    ∙ ap (λ h. record { first = hart; last = hart + zero; number = number } ∷ ranges h above) next
one_range hart (suc more) number above other =
    let last : suc hart + more ≡ hart + suc more = omega arith in
    let next : suc hart + suc more ≡ hart + suc (suc more) = omega arith in
    ap (joined hart number) (one_range (suc hart) more number above other)
    ∙ joined-same hart number (suc hart) (suc hart + more) (ranges (suc hart + suc more) above)
    ∙ ap (λ l. record { first = hart; last = l; number = number } ∷ ranges (suc hart + suc more) above) last
    ∙ ap (λ h. record { first = hart; last = hart + suc more; number = number } ∷ ranges h above) next

-- the text of a range that ends, and of the harts above it
pub ends : (column : Column) (r : HartRange) (above : List ℕ) → r.first ≤ r.last → Other r.number above
    → text_from column r above ≡ range_text column (range_of r) ++ ranges_text column (suc r.last) above
ends column r above ordered other =
    let last : r.first + (r.last - r.first) ≡ r.last = omega (arith, ordered) in
    let next : r.first + suc (r.last - r.first) ≡ suc r.last = omega (arith, ordered) in
    ap (flat_map (range_text column)) (one_range r.first (r.last - r.first) r.number above other)
    ∙ ap (λ l. range_text column (record { first = r.first; last = l; number = r.number }) ++ ranges_text column (r.first + suc (r.last - r.first)) above) last
    ∙ ap (λ h. range_text column (range_of r) ++ ranges_text column h above) next

-- one hart more of the same number
replicate-end : (n x : ℕ) (xs : List ℕ) → replicate n x ++ (x ∷ xs) ≡ replicate (suc n) x ++ xs
replicate-end zero x xs = refl
replicate-end (suc n) x xs = ap (λ l. x ∷ l) (replicate-end n x xs)

pub grows : (column : Column) (r next : HartRange) (number : ℕ) (rest : List ℕ) → r.first ≤ r.last → number ≡ r.number
    → next.first ≡ r.first → next.last ≡ r.last + 1 → next.number ≡ number → text_from column r (number ∷ rest) ≡ text_from column next rest
grows column r next number rest ordered same first last is =
    let more : suc (suc (r.last - r.first)) ≡ suc (next.last - next.first) = omega (arith, ordered, first, last) in
    ap (λ n. ranges_text column r.first (replicate (suc (r.last - r.first)) r.number ++ (n ∷ rest))) same
    ∙ ap (ranges_text column r.first) (replicate-end (suc (r.last - r.first)) r.number rest)
    ∙ ap (λ k. ranges_text column r.first (replicate k r.number ++ rest)) more
    ∙ ap (λ h. ranges_text column h (replicate (suc (next.last - next.first)) r.number ++ rest)) (sym first)
    ∙ ap (λ n. ranges_text column next.first (replicate (suc (next.last - next.first)) n ++ rest)) (sym (is ∙ same))

-- a range of one hart
pub begins : (column : Column) (r : HartRange) (rest : List ℕ) → r.last ≡ r.first → ranges_text column r.first (r.number ∷ rest) ≡ text_from column r rest
begins column r rest one =
    let none : zero ≡ r.last - r.first = omega (arith, one) in
    ap (λ k. ranges_text column r.first (replicate (suc k) r.number ++ rest)) none

-- the last range
pub last_range : (column : Column) (r : HartRange) → r.first ≤ r.last → text_from column r [] ≡ range_text column (range_of r)
last_range column r ordered = ends column r [] ordered tt ∙ append-nil (range_text column (range_of r))
