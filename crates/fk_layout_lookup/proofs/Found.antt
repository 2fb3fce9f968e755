-- What was found in some items or regions, and in one more before them.
use Rattle.std.proofs.Common.{◌≡◌, ◌≢◌, ℕ, zero, suc, ◌+◌, ◌<◌, ◌==◌, ◌&&◌, ◌⊎◌, Bool, true, false, not, cond, List, [], ◌∷◌, ◌++◌, map, length, set, drop, get_or, replicate, slice_get, Option, Some, None, refl, sym, ap, subst, ◌∙◌, arith, inl, inr}
use Rattle.std.specs.Option.{option_map}
use Rattle.std.proofs.lemmas.Bool.Decides.{eqb_tells}
use Rattle.std.proofs.lemmas.List.{append_assoc, replicate_more, drop-map, drop_more}
use Rattle.std.proofs.lemmas.Option.{none-some, same_Some, slice_get-map, slice_get_read}
use Rattle.fk_syntax.specs.Program.{Statements, FunctionTree, ItemTree, StructItem, VariablesItem, FunctionItem}
use Rattle.fk_meaning_forms.specs.declared.tables.Region.{Region}
use Rattle.fk_meaning_forms.specs.Tables.{Tables, frame_in}
use Rattle.fk_meaning_forms.specs.Expressions.{Signature}
use Rattle.fk_meaning_forms.specs.Program.{functions_of, with_body, binding_of, signature_of, signature_in}
use Rattle.fk_layout_walk.specs.declared.known.Framed.{Framed}
use Rattle.fk_layout_walk.specs.Known.{signature_at, function_in, called, framed_in, part_of}
use Rattle.fk_layout_lookup.specs.Lookup.{defined_by, TellsCallees, TellsFrames, with_frame}

-- an element that was written, and the others
same : {X : Type 0} (xs : List X) (k : ℕ) (v : X) → k < length xs → slice_get (set xs k v) k ≡ Some v
same [] k v h = absurd (omega arith)
same (x ∷ xs) zero v h = refl
same (x ∷ xs) (suc k) v h = same xs k v (omega arith)

other : {X : Type 0} (xs : List X) (k b : ℕ) (v : X) → k ≢ b → slice_get (set xs k v) b ≡ slice_get xs b
other [] k b v h = refl
other (x ∷ xs) zero zero v h = absurd (h refl)
other (x ∷ xs) zero (suc b) v h = refl
other (x ∷ xs) (suc k) zero v h = refl
other (x ∷ xs) (suc k) (suc b) v h = other xs k b v (λ e. h (ap suc e))

by_place : {X : Type 0} (xs : List X) (k b : ℕ) (v : X) → k < length xs → (((k == b) ≡ true) × (k ≡ b)) ⊎ (((k == b) ≡ false) × (k ≢ b)) → slice_get (set xs k v) b ≡ cond (k == b) (Some v) (slice_get xs b)
by_place xs k b v h (inl p) = subst (λ (n : ℕ). slice_get (set xs k v) n ≡ Some v) p.1 (same xs k v h) ∙ sym (ap (λ (t : Bool). cond t (Some v) (slice_get xs b)) p.0)
by_place xs k b v h (inr p) = other xs k b v p.1 ∙ sym (ap (λ (t : Bool). cond t (Some v) (slice_get xs b)) p.0)

pub written : {X : Type 0} (xs : List X) (k b : ℕ) (v : X) → k < length xs → slice_get (set xs k v) b ≡ cond (k == b) (Some v) (slice_get xs b)
written xs k b v h = by_place xs k b v h (eqb_tells k b)

-- a list that is longer by one value more
pub one_more : {X : Type 0} (xs ys zs : List X) (n : ℕ) (v : X) → ys ≡ xs ++ replicate n v → zs ≡ ys ++ v ∷ [] → zs ≡ xs ++ replicate (n + 1) v
one_more {X} xs ys zs n v e f =
    f
    ∙ ap (λ (l : List X). l ++ v ∷ []) e
    ∙ append_assoc xs (replicate n v) (v ∷ [])
    ∙ ap (λ (l : List X). xs ++ l) (replicate_more n v)

-- an element of a list that was mapped, and what stands behind it
pub more_mapped : {X Y : Type 0} (f : X → Y) (xs : List X) (i : ℕ) (x : X) → i < length xs → x ≡ get_or xs i x → drop i (map f xs) ≡ f x ∷ drop (i + 1) (map f xs)
more_mapped f xs i x h e =
    drop-map f i xs
    ∙ ap (map f) (drop_more xs i x h)
    ∙ ap (λ y. f y ∷ map f (drop (i + 1) xs)) (sym e)
    ∙ ap (λ ys. f x ∷ ys) (sym (drop-map f (i + 1) xs))

pub read_mapped : {X Y : Type 0} (f : X → Y) (xs : List X) (i : ℕ) (x : X) → i < length xs → x ≡ get_or xs i x → slice_get (map f xs) i ≡ Some (f x)
read_mapped f xs i x h e = slice_get-map f xs i ∙ ap (option_map f) (slice_get_read xs (length xs) i x refl h e)

-- a list that is longer, by what tells nothing
pub no_callee : (n b : ℕ) (all : List ItemTree) → called (slice_get (replicate n None) b) all ≡ None
no_callee zero b all = refl
no_callee (suc n) zero all = refl
no_callee (suc n) (suc b) all = no_callee n b all

pub same_callees : (callees : List (Option ℕ)) (n b : ℕ) (all : List ItemTree) → called (slice_get (callees ++ replicate n None) b) all ≡ called (slice_get callees b) all
same_callees [] n b all = no_callee n b all
same_callees (x ∷ xs) n zero all = refl
same_callees (x ∷ xs) n (suc b) all = same_callees xs n b all

-- an index that was noted in a list that was made longer
if_noted : (callees : List (Option ℕ)) (n i b : ℕ) (all : List ItemTree) (t : Bool)
    → called (cond t (Some (Some i)) (slice_get (callees ++ replicate n None) b)) all ≡ called (cond t (Some (Some i)) (slice_get callees b)) all
if_noted callees n i b all true = refl
if_noted callees n i b all false = same_callees callees n b all

pub callee_meant : (callees longer : List (Option ℕ)) (n binding i : ℕ) → longer ≡ callees ++ replicate n None → binding < length longer
    → (all : List ItemTree) (b : ℕ) → called (slice_get (set longer binding (Some i)) b) all ≡ called (cond (binding == b) (Some (Some i)) (slice_get callees b)) all
callee_meant callees longer n binding i more h all b =
    ap (λ (o : Option (Option ℕ)). called o all) (written longer binding b (Some i) h)
    ∙ ap (λ (xs : List (Option ℕ)). called (cond (binding == b) (Some (Some i)) (slice_get xs b)) all) more
    ∙ if_noted callees n i b all (binding == b)

abbrev pub unframed : Framed
unframed = record { first = None; second = None }

pub no_frame : (n at : ℕ) (part : Bool) → framed_in (slice_get (replicate n unframed) at) part ≡ None
no_frame zero at part = refl
no_frame (suc n) zero true = refl
no_frame (suc n) zero false = refl
no_frame (suc n) (suc at) part = no_frame n at part

pub same_frames : (framed : List Framed) (n at : ℕ) (part : Bool) → framed_in (slice_get (framed ++ replicate n unframed) at) part ≡ framed_in (slice_get framed at) part
same_frames [] n at part = no_frame n at part
same_frames (x ∷ xs) n zero part = refl
same_frames (x ∷ xs) n (suc at) part = same_frames xs n at part

module _ (tables : Tables) (all : List ItemTree) where
  by_test : (t : Bool) (i : ℕ) (f : FunctionTree) (others : Signature) (found : Option (Option ℕ))
      → slice_get all i ≡ Some (FunctionItem f) → others ≡ signature_at (called found all)
      → cond t (signature_of f) others ≡ signature_at (called (cond t (Some (Some i)) found) all)
  by_test true i f others found h told = sym (ap (λ (item : Option ItemTree). signature_at (function_in item)) h)
  by_test false i f others found h told = told

  -- a function with a body
  noted : (callees after : List (Option ℕ)) (i n : ℕ) (f : FunctionTree) (items : List ItemTree) (body : Option Statements)
      → slice_get all i ≡ Some (FunctionItem f) → f.body ≡ body → option_map (λ (b : Statements). binding_of tables f) body ≡ Some n
      → ((b : ℕ) → called (slice_get after b) all ≡ called (cond (n == b) (Some (Some i)) (slice_get callees b)) all)
      → TellsCallees tables all items callees → TellsCallees tables all (FunctionItem f ∷ items) after
  noted callees after i n f items None here has bound means told b = absurd (none-some n bound)
  noted callees after i n f items (Some body) here has bound means told b =
      ap (λ (o : Option Statements). signature_in tables (with_body f o (functions_of items)) b) has
      ∙ ap (λ (m : ℕ). cond (m == b) (signature_of f) (signature_in tables (functions_of items) b)) (same_Some (binding_of tables f) n bound)
      ∙ by_test (n == b) i f (signature_in tables (functions_of items) b) (slice_get callees b) here (told b)
      ∙ ap (λ (o : Option FunctionTree). signature_at o) (sym (means b))

  pub item_noted : (callees after : List (Option ℕ)) (i n : ℕ) (item : ItemTree) (items : List ItemTree)
      → slice_get all i ≡ Some item → defined_by tables item ≡ Some n
      → ((b : ℕ) → called (slice_get after b) all ≡ called (cond (n == b) (Some (Some i)) (slice_get callees b)) all)
      → TellsCallees tables all items callees → TellsCallees tables all (item ∷ items) after
  item_noted callees after i n (StructItem name members) items here bound means told = absurd (none-some n bound)
  item_noted callees after i n (VariablesItem variables) items here bound means told = absurd (none-some n bound)
  item_noted callees after i n (FunctionItem f) items here bound means told = noted callees after i n f items f.body here refl bound means told

  -- one without, and what is no function
  passed : (callees : List (Option ℕ)) (f : FunctionTree) (items : List ItemTree) (body : Option Statements)
      → f.body ≡ body → option_map (λ (b : Statements). binding_of tables f) body ≡ None
      → TellsCallees tables all items callees → TellsCallees tables all (FunctionItem f ∷ items) callees
  passed callees f items (Some body) has bound told b = absurd (none-some (binding_of tables f) (sym bound))
  passed callees f items None has bound told b = ap (λ (o : Option Statements). signature_in tables (with_body f o (functions_of items)) b) has ∙ told b

  pub item_passed : (callees : List (Option ℕ)) (item : ItemTree) (items : List ItemTree)
      → defined_by tables item ≡ None
      → TellsCallees tables all items callees → TellsCallees tables all (item ∷ items) callees
  item_passed callees (StructItem name members) items bound told = told
  item_passed callees (VariablesItem variables) items bound told = told
  item_passed callees (FunctionItem f) items bound told = passed callees f items f.body refl bound told

-- where a token has one frame more
abbrev pub if_second : Framed → Region → (second : Bool) → Framed
if_second before r true = record before { second = Some r }
if_second before r false = record before { first = Some r }

-- whether that is the frame of a part
abbrev of_part : (second part : Bool) → Bool
of_part second part = cond second part (not part)

one_part : (before : Framed) (r : Region) (second part : Bool) → framed_in (Some (if_second before r second)) part ≡ cond (of_part second part) (Some r) (framed_in (Some before) part)
one_part before r true true = refl
one_part before r true false = refl
one_part before r false true = refl
one_part before r false false = refl

-- a frame that was noted in a list that was made longer
at_place : (framed longer : List Framed) (k n : ℕ) (x : Framed) (r : Region) (second part : Bool)
    → longer ≡ framed ++ replicate k unframed → r.at < length longer → x ≡ get_or longer r.at x
    → (((r.at == n) ≡ true) × (r.at ≡ n)) ⊎ (((r.at == n) ≡ false) × (r.at ≢ n))
    → framed_in (cond (r.at == n) (Some (if_second x r second)) (slice_get longer n)) part ≡ with_frame r second n part (framed_in (slice_get framed n) part)
at_place framed longer k n x r second part more h e (inl p) =
    ap (λ (t : Bool). framed_in (cond t (Some (if_second x r second)) (slice_get longer n)) part) p.0
    ∙ one_part x r second part
    ∙ ap (λ (o : Option Framed). cond (of_part second part) (Some r) (framed_in o part)) (sym (slice_get_read longer (length longer) r.at x refl h e))
    ∙ ap (λ (m : ℕ). cond (of_part second part) (Some r) (framed_in (slice_get longer m) part)) p.1
    ∙ ap (λ (xs : List Framed). cond (of_part second part) (Some r) (framed_in (slice_get xs n) part)) more
    ∙ ap (λ (o : Option Region). cond (of_part second part) (Some r) o) (same_frames framed k n part)
    ∙ sym (ap (λ (t : Bool). cond (t && of_part second part) (Some r) (framed_in (slice_get framed n) part)) p.0)
at_place framed longer k n x r second part more h e (inr p) =
    ap (λ (t : Bool). framed_in (cond t (Some (if_second x r second)) (slice_get longer n)) part) p.0
    ∙ ap (λ (xs : List Framed). framed_in (slice_get xs n) part) more
    ∙ same_frames framed k n part
    ∙ sym (ap (λ (t : Bool). cond (t && of_part second part) (Some r) (framed_in (slice_get framed n) part)) p.0)

pub part_noted : (framed longer : List Framed) (k : ℕ) (x : Framed) (r : Region) (second : Bool)
    → longer ≡ framed ++ replicate k unframed → r.at < length longer → x ≡ get_or longer r.at x
    → (n : ℕ) (part : Bool) → framed_in (slice_get (set longer r.at (if_second x r second)) n) part ≡ with_frame r second n part (framed_in (slice_get framed n) part)
part_noted framed longer k x r second more h e n part =
    ap (λ (o : Option Framed). framed_in o part) (written longer r.at n (if_second x r second) h)
    ∙ at_place framed longer k n x r second part more h e (eqb_tells r.at n)

and_false : (t : Bool) → (t && false) ≡ false
and_false true = refl
and_false false = refl

module _ (tables : Tables) where
  -- a region of a part that a token has
  pub frame_noted : (framed after : List Framed) (r : Region) (regions : List Region) (second : Bool) → r.part ≡ part_of second
      → ((n : ℕ) (part : Bool) → framed_in (slice_get after n) part ≡ with_frame r second n part (framed_in (slice_get framed n) part))
      → TellsFrames tables regions framed → TellsFrames tables (r ∷ regions) after
  frame_noted framed after r regions second same_part means told at part =
      ap (λ (p : Bool). cond ((r.at == at) && p) (Some r) (frame_in tables regions at (part_of part))) (ap (λ (n : ℕ). n == part_of part) same_part ∙ parts second part)
      ∙ ap (λ (o : Option Region). cond ((r.at == at) && of_part second part) (Some r) o) (told at part)
      ∙ sym (means at part)
    where
      parts : (second part : Bool) → (part_of second == part_of part) ≡ of_part second part
      parts true true = refl
      parts true false = refl
      parts false true = refl
      parts false false = refl

  -- one of another part
  pub frame_passed : (framed : List Framed) (r : Region) (regions : List Region) → r.part ≢ 0 → r.part ≢ 1
      → TellsFrames tables regions framed → TellsFrames tables (r ∷ regions) framed
  frame_passed framed r regions h0 h1 told at part =
      ap (λ (p : Bool). cond ((r.at == at) && p) (Some r) (frame_in tables regions at (part_of part))) (never part)
      ∙ ap (λ (p : Bool). cond p (Some r) (frame_in tables regions at (part_of part))) (and_false (r.at == at))
      ∙ told at part
    where
      differs : (n : ℕ) → r.part ≢ n → (((r.part == n) ≡ true) × (r.part ≡ n)) ⊎ (((r.part == n) ≡ false) × (r.part ≢ n)) → (r.part == n) ≡ false
      differs n h (inl p) = absurd (h p.1)
      differs n h (inr p) = p.0

      never : (part : Bool) → (r.part == part_of part) ≡ false
      never true = differs 1 h1 (eqb_tells r.part 1)
      never false = differs 0 h0 (eqb_tells r.part 0)
