-- How operations change the levels of a call, and the group frames that it has.
use Rattle.std.proofs.Common.{◌≡◌, ℕ, suc, ◌+◌, ◌≤◌, Bool, true, false, List, [], ◌∷◌, Option, Some, None, refl, sym, ap, ◌∙◌, arith, eq-eqb}
use Rattle.std.specs.Prelude.{◌==◌, ◌||◌, is_some, if◌then◌else◌}
use Rattle.std.proofs.lemmas.Bool.{false≢true, ne_eqb}
use Rattle.fk_meaning_operation.specs.declared.operation.Operation.{Operation}
use Rattle.fk_meaning_operation.specs.declared.operation.Operation.TheVariants as o
use Rattle.fk_meaning_operation.specs.declared.operation.SplitKind.TheVariants as k
use Rattle.fk_meaning.specs.Behind.{tail}
use Rattle.fk_meaning.specs.Shape.{is_quit}
use Rattle.fk_layout_sizes.specs.Operations.{nests}
use Rattle.fk_core_flat.specs.Items as w
use Rattle.fk_core_flat.specs.Items.{Way, way_of}
use Rattle.fk_core_liveness.specs.Frames.{is_main_place}
use Rattle.fk_lockstep_frames.specs.Nests.{Nest, OfFunction, OfPart, nesting, levels_of, frame_at, frame_has, has_word, take_frame, MayTake, IsInPart}
use Rattle.fk_core_typing.specs.Values.{Place, place_behind, MayBeIn}
use Rattle.fk_lower_laws.specs.Levels.{levels_in, IsInGroup}

-- ---- levels

deeper : (main numbered : Bool) (nests : List Nest) → levels_of main (OfPart numbered None ∷ nests) ≤ levels_of main nests + 1
deeper true numbered nests = omega arith
deeper false numbered nests = omega arith

out_of_part : (main : Bool) (nests : List Nest) → IsInPart nests → levels_of main (tail nests) ≤ levels_of main nests
out_of_part main [] part = absurd part
out_of_part main (OfFunction frame ∷ nests) part = absurd part
out_of_part main (OfPart numbered frame ∷ []) part = absurd part
out_of_part true (OfPart numbered frame ∷ nest ∷ nests) part = omega arith
out_of_part false (OfPart numbered frame ∷ nest ∷ nests) part = omega arith

as_deep : (words : ℕ) (nests : List Nest) → nesting (take_frame words nests) ≡ nesting nests
as_deep words [] = refl
as_deep words (OfFunction frame ∷ nests) = refl
as_deep words (OfPart numbered frame ∷ nests) = refl

-- an operation adds as many levels as a layout counts at most
pub levels_behind : (op : Operation) (onward : Bool) (p : Place) → MayBeIn op p → levels_in (place_behind op onward p) ≤ levels_in p + nests op
levels_behind (o.Frame number words) onward p may = let same = as_deep words p.nests in by (is_main_place p.function) same
  where
    by : (main : Bool) → nesting (take_frame words p.nests) ≡ nesting p.nests → levels_of main (take_frame words p.nests) ≤ levels_of main p.nests + 0
    by true same = omega (arith, same)
    by false same = omega (arith, same)
levels_behind o.Begin true p may = deeper (is_main_place p.function) true p.nests
levels_behind o.Begin false p may = omega arith
levels_behind (o.Split k.IfElse) onward p may = deeper (is_main_place p.function) false p.nests
levels_behind (o.Split k.IfAlone) true p may = deeper (is_main_place p.function) false p.nests
levels_behind (o.Split k.AndThen) true p may = deeper (is_main_place p.function) false p.nests
levels_behind (o.Split k.OrElse) true p may = deeper (is_main_place p.function) false p.nests
levels_behind (o.Split k.Loop) true p may = deeper (is_main_place p.function) false p.nests
levels_behind (o.Split k.Fork) true p may = deeper (is_main_place p.function) true p.nests
levels_behind (o.Split k.IfAlone) false p may = omega arith
levels_behind (o.Split k.AndThen) false p may = omega arith
levels_behind (o.Split k.OrElse) false p may = omega arith
levels_behind (o.Split k.Loop) false p may = omega arith
levels_behind (o.Split k.Fork) false p may = omega arith
levels_behind o.Shrink true p may = omega arith
levels_behind o.Shrink false p may = let low = out_of_part (is_main_place p.function) p.nests may.0 in omega (arith, low)
levels_behind o.End onward p may = let low = out_of_part (is_main_place p.function) p.nests may in omega (arith, low)
levels_behind op onward p may = omega arith

-- which operations add none
pub adds_none : (op : Operation) → ((way_of op ≡ w.either) → is_quit op ≡ true) → nests op ≡ 0
adds_none (o.Split by) quits = absurd (false≢true (quits refl))
adds_none o.Begin quits = absurd (false≢true (quits refl))
adds_none o.Farm quits = absurd (false≢true (quits refl))
adds_none o.Seq quits = absurd (false≢true (quits refl))
adds_none op quits = refl

pub not_either : (op : Operation) (way : Way) → way_of op ≡ way → (way ≡ w.either → ⊥) → nests op ≡ 0
not_either op way is other = adds_none op (λ e. absurd (other (sym is ∙ e)))

pub in_group : (op : Operation) (p : Place) → nests op ≡ 0 → IsInGroup op p
in_group (o.Split by) p none = absurd (cc)
in_group op p none = tt

-- ---- group frames

-- whether a call has the frame with a number
abbrev pub has_frame : List Nest → (number : ℕ) → Bool
has_frame nests number = is_some (frame_at nests number)

-- it has one of which a word is named
pub frame_named : (nests : List Nest) (number word : ℕ) → has_word nests number word ≡ true → has_frame nests number ≡ true
frame_named nests number word has = by (frame_at nests number) has
  where
    by : (frame : Option ℕ) → frame_has frame word ≡ true → is_some frame ≡ true
    by None has' = absurd (false≢true has')
    by (Some words) has' = refl

abbrev pub takes_frame : Operation → Bool
takes_frame (o.Frame number words) = true
takes_frame op = false

-- ---- the function's own group frame

-- a part has it as what is around it
own_in_part : (numbered : Bool) (frame : Option ℕ) (nests : List Nest) → has_frame (OfPart numbered frame ∷ nests) 0 ≡ has_frame nests 0
own_in_part numbered frame nests = ap (λ b. is_some (if b then frame else frame_at nests 0)) (ne_eqb 0 (suc (nesting nests)) (λ e. omega (arith, e)))

own_around : (nests : List Nest) → IsInPart nests → has_frame (tail nests) 0 ≡ has_frame nests 0
own_around [] part = absurd part
own_around (OfFunction frame ∷ nests) part = absurd part
own_around (OfPart numbered frame ∷ []) part = absurd part
own_around (OfPart numbered frame ∷ nest ∷ nests) part = sym (own_in_part numbered frame (nest ∷ nests))

-- where a frame is taken, there was none with its number
pub none_taken : (number : ℕ) (nests : List Nest) → MayTake number nests → has_frame nests number ≡ false
none_taken number [] may = absurd may
none_taken number (OfFunction frame ∷ nests) may = ap (λ b. is_some (if b then frame else None)) (eq-eqb number 0 may.0) ∙ ap is_some may.1
none_taken number (OfPart numbered frame ∷ nests) may =
    ap (λ b. is_some (if b then frame else frame_at nests number)) (eq-eqb number (suc (nesting nests)) may.0) ∙ ap is_some may.1

-- and the function has its own behind it, if it is that one or was there
pub own_taken : (number words : ℕ) (nests : List Nest) → MayTake number nests → has_frame (take_frame words nests) 0 ≡ ((number == 0) || has_frame nests 0)
own_taken number words [] may = absurd may
own_taken number words (OfFunction frame ∷ nests) may = sym (ap (λ b. b || has_frame (OfFunction frame ∷ nests) 0) (eq-eqb number 0 may.0))
own_taken number words (OfPart numbered frame ∷ nests) may =
    let part : (number == 0) ≡ false = ne_eqb number 0 (λ e. let is = may.0 in omega (arith, e, is)) in
    own_in_part numbered (Some words) nests ∙ sym (ap (λ b. b || has_frame (OfPart numbered frame ∷ nests) 0) part ∙ own_in_part numbered frame nests)

-- other operations leave it as it was
pub own_before : (op : Operation) → takes_frame op ≡ false → (onward : Bool) (p : Place) → MayBeIn op p
    → has_frame (place_behind op onward p).nests 0 ≡ has_frame p.nests 0
own_before (o.Frame own words) other onward p may = absurd (false≢true (sym other))
own_before o.Begin other true p may = own_in_part true None p.nests
own_before o.Begin other false p may = refl
own_before (o.Split k.IfElse) other onward p may = own_in_part false None p.nests
own_before (o.Split k.IfAlone) other true p may = own_in_part false None p.nests
own_before (o.Split k.AndThen) other true p may = own_in_part false None p.nests
own_before (o.Split k.OrElse) other true p may = own_in_part false None p.nests
own_before (o.Split k.Loop) other true p may = own_in_part false None p.nests
own_before (o.Split k.Fork) other true p may = own_in_part true None p.nests
own_before (o.Split k.IfAlone) other false p may = refl
own_before (o.Split k.AndThen) other false p may = refl
own_before (o.Split k.OrElse) other false p may = refl
own_before (o.Split k.Loop) other false p may = refl
own_before (o.Split k.Fork) other false p may = refl
own_before o.Shrink other true p may = refl
own_before o.Shrink other false p may = own_around p.nests may.0
own_before o.End other onward p may = own_around p.nests may
own_before op other onward p may = refl
