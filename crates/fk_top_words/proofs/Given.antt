-- What was given so far, as `clap` holds it between two words.
use Rattle.std.proofs.Common.{◌≡◌, ℕ, ◌+◌, ◌≤◌, Bool, true, false, not, cond, List, [], ◌∷◌, ◌++◌, map, length, filter, Option, Some, None, refl, sym, ap, ap₂, ◌∙◌, append-nil, arith}
use Rattle.std.specs.Prelude.{◌&&◌, ◌||◌, if◌then◌else◌, find, fold, slice_get}
use Rattle.std.specs.List.{list_any}
use Rattle.std.specs.Option.{option_map_or}
use Rattle.std.specs.Str.{bytes_eq}
use Rattle.std.proofs.lemmas.List.{length-append, map-append}
use Rattle.std.proofs.lemmas.List.Elements.{filter-append}
use Rattle.clap.specs.declared.builder.value_parser.Reading.TheVariants.{AsWritten}
use Rattle.clap.specs.declared.parser.matches.ValueSource.TheVariants.{CommandLine}
use Rattle.clap.specs.declared.error.kind.ErrorKind.TheVariants.{ArgumentConflict, MissingRequiredArgument}
use Rattle.clap.specs.Walk.{Held, Row, Rule, Walk, at_row, first_of, has_row, idle, more_values, option, settled, settled_rows, used, finished, with_default}
use Rattle.clap.specs.Facts.{explicit_source}
use Rattle.clap.specs.Kinds.{Kinds, or_else}
use Rattle.clap.specs.Faults.{check_fault, defaults_fault, settle_fault, use_fault}
use Rattle.clap.specs.Takes.{is_given}
use Rattle.fk_top_words.specs.Arguments.{Text, Part, File, Harts, Cycles, Show, Image, Argument, argument, is_part, values_of}
use Rattle.fk_top_words.specs.Written.{id_of, is_required}
use Rattle.fk_top_words.proofs.Rules.{IsCommand, command, is_in, rule, rules}

abbrev pub row : Argument → Row
row a = record { id = id_of a.part; values = a.value ∷ []; count = None; source = Some CommandLine; reading = AsWritten }

abbrev pub rows : List Argument → List Row
rows us = map row us

-- a part was given
abbrev pub given : Part → List Argument → Bool
given p us = list_any (λ a. is_part p a.part) us

pub same_id : (p q : Part) → bytes_eq (id_of q) (id_of p) ≡ is_part p q
same_id File q = elim q as (λ q. bytes_eq (id_of q) (id_of File) ≡ is_part File q) [ File ↦ refl | Harts ↦ refl | Cycles ↦ refl | Show ↦ refl | Image ↦ refl ]
same_id Harts q = elim q as (λ q. bytes_eq (id_of q) (id_of Harts) ≡ is_part Harts q) [ File ↦ refl | Harts ↦ refl | Cycles ↦ refl | Show ↦ refl | Image ↦ refl ]
same_id Cycles q = elim q as (λ q. bytes_eq (id_of q) (id_of Cycles) ≡ is_part Cycles q) [ File ↦ refl | Harts ↦ refl | Cycles ↦ refl | Show ↦ refl | Image ↦ refl ]
same_id Show q = elim q as (λ q. bytes_eq (id_of q) (id_of Show) ≡ is_part Show q) [ File ↦ refl | Harts ↦ refl | Cycles ↦ refl | Show ↦ refl | Image ↦ refl ]
same_id Image q = elim q as (λ q. bytes_eq (id_of q) (id_of Image) ≡ is_part Image q) [ File ↦ refl | Harts ↦ refl | Cycles ↦ refl | Show ↦ refl | Image ↦ refl ]

has_row-rows : (p : Part) (us : List Argument) → has_row (id_of p) (rows us) ≡ given p us
has_row-rows p [] = refl
has_row-rows p (u ∷ us) = ap₂ (λ x y. x || y) (same_id p u.part) (has_row-rows p us)

-- ---- one more argument

at_row-other : (id : Text) (change : Row → List Row) (missing : List Row) (r : Row) (rs : List Row) (b : Bool) → bytes_eq r.id id ≡ b
    → (has_row id rs ≡ false → at_row id change missing rs ≡ rs ++ missing) → has_row id (r ∷ rs) ≡ false
    → at_row id change missing (r ∷ rs) ≡ (r ∷ rs) ++ missing
at_row-other id change missing r rs true e rest none =
    let bad : true ≡ false = rw e at none in cc
at_row-other id change missing r rs false e rest none =
    let behind : has_row id rs ≡ false = rw e at none in rw e (ap (λ more. r ∷ more) (rest behind))

at_row-new : (id : Text) (change : Row → List Row) (missing rs : List Row) → has_row id rs ≡ false → at_row id change missing rs ≡ rs ++ missing
at_row-new id change missing [] none = refl
at_row-new id change missing (r ∷ rs) none =
    at_row-other id change missing r rs (bytes_eq r.id id) refl (at_row-new id change missing rs) none

-- an argument that is new is added at the end
pub used-new : (p : Part) (v : Text) (us : List Argument) → given p us ≡ false → used (rule p) (v ∷ []) (rows us) ≡ rows (us ++ argument p v ∷ [])
used-new p v us new =
    let none : has_row (id_of p) (rows us) ≡ false = has_row-rows p us ∙ new in
    rw (at_row-new (id_of p) (λ _. []) [] (rows us) none, append-nil (rows us))
    (at_row-new (id_of p) (more_values CommandLine (v ∷ [])) (row (argument p v) ∷ []) (rows us) none ∙ sym (map-append row us (argument p v ∷ [])))

-- the fault of a second use
abbrev pub conflict : Bool → Kinds
conflict true = ArgumentConflict ∷ []
conflict false = []

conflict-is : (b : Bool) → or_else (if b && not false then ArgumentConflict ∷ [] else []) [] ≡ conflict b
conflict-is true = refl
conflict-is false = refl

pub use-is : (p : Part) (v : Text) (us : List Argument) → use_fault false (rule p) (v ∷ []) (rows us) ≡ conflict (given p us)
use-is p v us = rw (has_row-rows p us) (conflict-is (given p us))

-- ---- where the walk stands

-- what is given, with the last argument still pending where there is one
abbrev pub joined : List Argument → Option Argument → List Argument
joined us None = us
joined us (Some a) = us ++ a ∷ []

abbrev pub pending_of : Option Argument → Option (Text × List Text)
pending_of None = None
pending_of (Some a) = Some (id_of a.part, a.value ∷ [])

abbrev pub held : List Argument → Option Argument → Held
held us last = record { rows = rows us; pending = pending_of last; skip = 0 }

-- a file's name was given, or not
abbrev pub position_of : Bool → ℕ
position_of true = 2
position_of false = 1

abbrev pub at : List Argument → Option Argument → Bool → Bool → Walk
at us last has_file is_trailing = record {
  held = held us last;
  waiting = idle;
  position = position_of has_file;
  is_trailing = is_trailing;
  stopped = None;
}

-- an option waits for its value
abbrev pub awaiting : List Argument → Part → Bool → Bool → Walk
awaiting us p has_file is_trailing = record {
  held = record { rows = rows us; pending = Some (id_of p, []); skip = 0 };
  waiting = option (id_of p);
  position = position_of has_file;
  is_trailing = is_trailing;
  stopped = None;
}

abbrev pub IsKnown : List Part → Option Argument → Type 0
IsKnown ps None = Unit {0}
IsKnown ps (Some a) = is_in a.part ps ≡ true

abbrev pub IsNew : List Argument → Option Argument → Type 0
IsNew us None = Unit {0}
IsNew us (Some a) = given a.part us ≡ false

pub no_conflict : (b : Bool) → conflict b ≡ [] → b ≡ false
no_conflict true e = cc
no_conflict false e = refl

module _ (ps : List Part) (known : IsCommand ps) where
  settle-is : (us : List Argument) (a : Argument) → is_in a.part ps ≡ true → settle_fault (rules ps) false (held us (Some a)) ≡ conflict (given a.part us)
  settle-is us a within = rw (known.by_id a.part within) (use-is a.part a.value us)

  pub settle_fine : (us : List Argument) (last : Option Argument) → IsKnown ps last → IsNew us last → settle_fault (rules ps) false (held us last) ≡ []
  settle_fine us None within new = refl
  settle_fine us (Some a) within new = settle-is us a within ∙ ap conflict new

  pub settle_new : (us : List Argument) (last : Option Argument) → IsKnown ps last → settle_fault (rules ps) false (held us last) ≡ [] → IsNew us last
  settle_new us None within fine = tt
  settle_new us (Some a) within fine = no_conflict _ (sym (settle-is us a within) ∙ fine)

  pub settled-is : (us : List Argument) (last : Option Argument) → IsKnown ps last → IsNew us last
      → settled_rows (rules ps) (pending_of last) (rows us) ≡ rows (joined us last)
  settled-is us None within new = refl
  settled-is us (Some a) within new = rw (known.by_id a.part within) (used-new a.part a.value us new)

-- ---- the end of the words

given-rows : (p : Part) (us : List Argument) → is_given (id_of p) (rows us) ≡ given p us
given-rows p [] = refl
given-rows p (u ∷ us) =
    rw (same_id p u.part) (elim (is_part p u.part) as (λ b. option_map_or (λ r. explicit_source r.source) (cond b (Some (row u)) (find (λ r. bytes_eq r.id (id_of p)) (rows us))) false ≡ (b || given p us)) [ true ↦ refl | false ↦ given-rows p us ])

-- each part that a command requires was given
abbrev pub lacks : List Part → List Argument → Bool
lacks ps us = list_any (λ p. is_required p && not (given p us)) ps

lacks-is : (ps : List Part) (us : List Argument) → list_any (λ (a : Rule). a.required && not (is_given a.id (rows us))) (rules ps) ≡ lacks ps us
lacks-is [] us = refl
lacks-is (p ∷ ps) us = ap₂ (λ x y. (is_required p && not x) || y) (given-rows p us) (lacks-is ps us)

-- ---- values

pub values-append : (p : Part) (us vs : List Argument) → values_of p (us ++ vs) ≡ values_of p us ++ values_of p vs
values-append p us vs =
    ap (map (λ (a : Argument). a.value)) (filter-append (λ a. is_part p a.part) us vs) ∙ map-append (λ (a : Argument). a.value) (filter (λ a. is_part p a.part) us) (filter (λ a. is_part p a.part) vs)

pub same_part : (p q : Part) → is_part p q ≡ true → p ≡ q
same_part File q = elim q as (λ q. is_part File q ≡ true → File ≡ q) [ File ↦ λ e. refl | Harts ↦ λ e. cc | Cycles ↦ λ e. cc | Show ↦ λ e. cc | Image ↦ λ e. cc ]
same_part Harts q = elim q as (λ q. is_part Harts q ≡ true → Harts ≡ q) [ File ↦ λ e. cc | Harts ↦ λ e. refl | Cycles ↦ λ e. cc | Show ↦ λ e. cc | Image ↦ λ e. cc ]
same_part Cycles q = elim q as (λ q. is_part Cycles q ≡ true → Cycles ≡ q) [ File ↦ λ e. cc | Harts ↦ λ e. cc | Cycles ↦ λ e. refl | Show ↦ λ e. cc | Image ↦ λ e. cc ]
same_part Show q = elim q as (λ q. is_part Show q ≡ true → Show ≡ q) [ File ↦ λ e. cc | Harts ↦ λ e. cc | Cycles ↦ λ e. cc | Show ↦ λ e. refl | Image ↦ λ e. cc ]
same_part Image q = elim q as (λ q. is_part Image q ≡ true → Image ≡ q) [ File ↦ λ e. cc | Harts ↦ λ e. cc | Cycles ↦ λ e. cc | Show ↦ λ e. cc | Image ↦ λ e. refl ]

values_cons : (p : Part) (u : Argument) (us : List Argument) (b : Bool) → is_part p u.part ≡ b
    → values_of p (u ∷ us) ≡ (if b then u.value ∷ values_of p us else values_of p us)
values_cons p u us true e = rw e refl
values_cons p u us false e = rw e refl

given_cons : (p : Part) (u : Argument) (us : List Argument) (b : Bool) → is_part p u.part ≡ b → given p (u ∷ us) ≡ (b || given p us)
given_cons p u us b e = rw e refl

-- a part was given exactly where it has a value
values_or_none : (p : Part) (u : Argument) (us : List Argument) (b : Bool) → is_part p u.part ≡ b
    → (given p us ≡ false → values_of p us ≡ []) → given p (u ∷ us) ≡ false → values_of p (u ∷ us) ≡ []
values_or_none p u us true e rest none = let bad : true ≡ false = sym (given_cons p u us true e) ∙ none in cc
values_or_none p u us false e rest none =
    values_cons p u us false e ∙ rest (sym (given_cons p u us false e) ∙ none)

pub no_values : (p : Part) (us : List Argument) → given p us ≡ false → values_of p us ≡ []
no_values p [] none = refl
no_values p (u ∷ us) none = values_or_none p u us (is_part p u.part) refl (no_values p us) none

values_or_some : (p : Part) (u : Argument) (us : List Argument) (b : Bool) → is_part p u.part ≡ b
    → (given p us ≡ true → 1 ≤ length (values_of p us)) → given p (u ∷ us) ≡ true → 1 ≤ length (values_of p (u ∷ us))
values_or_some p u us true e rest some = rw (values_cons p u us true e) (omega arith)
values_or_some p u us false e rest some =
    rw (values_cons p u us false e) (rest (sym (given_cons p u us false e) ∙ some))

pub some_values : (p : Part) (us : List Argument) → given p us ≡ true → 1 ≤ length (values_of p us)
some_values p [] some = cc
some_values p (u ∷ us) some = values_or_some p u us (is_part p u.part) refl (some_values p us) some

-- no part was given twice
abbrev pub IsOnce : List Argument → Type 0
IsOnce us = (p : Part) → length (values_of p us) ≤ 1

length-values : (p : Part) (us vs : List Argument) → length (values_of p (us ++ vs)) ≡ length (values_of p us) + length (values_of p vs)
length-values p us vs = ap length (values-append p us vs) ∙ length-append (values_of p us) (values_of p vs)

one_value : (q p : Part) (v : Text) (us : List Argument) (b : Bool) → is_part q p ≡ b → given p us ≡ false → length (values_of q us) ≤ 1
    → length (values_of q us) + length (values_of q (argument p v ∷ [])) ≤ 1
one_value q p v us true e new once =
    let none : values_of q us ≡ [] = no_values q us (ap (λ r. given r us) (same_part q p e) ∙ new) in
    rw (none, values_cons q (argument p v) [] true e) (omega arith)
one_value q p v us false e new once = rw (values_cons q (argument p v) [] false e) (omega arith)

pub once-more : (p : Part) (v : Text) (us : List Argument) → IsOnce us → given p us ≡ false → IsOnce (us ++ argument p v ∷ [])
once-more p v us once new q =
    rw (length-values q us (argument p v ∷ [])) (one_value q p v us (is_part q p) refl new (once q))

pub is_part-same : (p : Part) → is_part p p ≡ true
is_part-same p = elim p as (λ p. is_part p p ≡ true) [ File ↦ refl | Harts ↦ refl | Cycles ↦ refl | Show ↦ refl | Image ↦ refl ]

new-before : (a : Argument) (us vs : List Argument) (b : Bool) → given a.part us ≡ b → IsOnce (us ++ a ∷ vs) → b ≡ false
new-before a us vs true e once =
    let some = some_values a.part us e in
    let all = once a.part in
    let sum = length-values a.part us (a ∷ vs) in
    let here : length (values_of a.part (a ∷ vs)) ≡ length (a.value ∷ values_of a.part vs) = ap length (values_cons a.part a vs true (is_part-same a.part)) in
    absurd (omega arith)
new-before a us vs false e once = refl

-- an argument that stands once is new to those before it
pub new-in : (a : Argument) (us vs : List Argument) → IsOnce (us ++ a ∷ vs) → given a.part us ≡ false
new-in a us vs once = new-before a us vs (given a.part us) refl once

-- the first value of a part
first-cons : (p : Part) (u : Argument) (us : List Argument) (b : Bool) → is_part p u.part ≡ b
    → first_of (id_of p) (rows us) ≡ slice_get (values_of p us) 0
    → first_of (id_of p) (rows (u ∷ us)) ≡ slice_get (values_of p (u ∷ us)) 0
first-cons p u us true e rest =
    let same : bytes_eq (id_of u.part) (id_of p) ≡ true = same_id p u.part ∙ e in rw (same, values_cons p u us true e) refl
first-cons p u us false e rest =
    let other : bytes_eq (id_of u.part) (id_of p) ≡ false = same_id p u.part ∙ e in rw (other, values_cons p u us false e) rest

pub first-rows : (p : Part) (us : List Argument) → first_of (id_of p) (rows us) ≡ slice_get (values_of p us) 0
first-rows p [] = refl
first-rows p (u ∷ us) = first-cons p u us (is_part p u.part) refl (first-rows p us)

-- ---- the faults at the end, and the rows

no_defaults : (rs : List Row) (ps : List Part) → defaults_fault rs (rules ps) ≡ []
unfolding defaults_fault
no_defaults rs [] = refl
no_defaults rs (p ∷ ps) =
    elim (has_row (id_of p) rs) as (λ b. or_else (if b || true then [] else []) (defaults_fault (if b then rs else rs) (rules ps)) ≡ []) [ true ↦ no_defaults rs ps | false ↦ no_defaults rs ps ]

pub rows-finished : (rs : List Row) (ps : List Part) → fold with_default rs (rules ps) ≡ rs
rows-finished rs [] = refl
rows-finished rs (p ∷ ps) =
    elim (has_row (id_of p) rs) as (λ b. fold with_default (if b then rs else rs) (rules ps) ≡ rs) [ true ↦ rows-finished rs ps | false ↦ rows-finished rs ps ]

-- the fault of a command at the end of its words
abbrev pub end_fault : Text → List Part → Held → Kinds
end_fault name ps h = or_else (settle_fault (rules ps) false h)
    (or_else (defaults_fault (settled (rules ps) h).rows (rules ps)) (check_fault (command name ps) (finished (rules ps) h) false))

-- the first of two is empty where both are, and so is the second
pub first_empty : (a b : Kinds) → or_else a b ≡ [] → a ≡ []
first_empty [] b e = refl
first_empty (k ∷ ks) b e = cc

pub second_empty : (a b : Kinds) → or_else a b ≡ [] → b ≡ []
second_empty [] b e = e
second_empty (k ∷ ks) b e = cc

no_missing : (b : Bool) → (if b then MissingRequiredArgument ∷ [] else []) ≡ [] → b ≡ false
no_missing true e = cc
no_missing false e = refl

module _ (name : Text) (ps : List Part) (known : IsCommand ps) where
  check-is : (us : List Argument) → check_fault (command name ps) (rows us) false ≡ (if lacks ps us then MissingRequiredArgument ∷ [] else [])
  check-is us = rw (lacks-is ps us) refl

  end-is : (us : List Argument) (last : Option Argument) → IsKnown ps last → IsNew us last
      → end_fault name ps (held us last) ≡ (if lacks ps (joined us last) then MissingRequiredArgument ∷ [] else [])
  end-is us last within new =
      rw (settle_fine ps known us last within new, no_defaults _ ps, settled-is ps known us last within new, rows-finished _ ps) (check-is (joined us last))

  pub end_fine : (us : List Argument) (last : Option Argument) → IsKnown ps last → IsNew us last → lacks ps (joined us last) ≡ false
      → end_fault name ps (held us last) ≡ []
  end_fine us last within new has_all = rw (end-is us last within new, has_all) refl

  -- where nothing is at fault, nothing was given twice, and nothing lacks
  pub end_then : (us : List Argument) (last : Option Argument) → IsKnown ps last → end_fault name ps (held us last) ≡ []
      → IsNew us last × (lacks ps (joined us last) ≡ false)
  end_then us last within fine =
      let new = settle_new ps known us last within (first_empty _ _ fine) in
      (new, no_missing _ (sym (end-is us last within new) ∙ fine))

  pub rows-end : (us : List Argument) (last : Option Argument) → IsKnown ps last → IsNew us last
      → finished (rules ps) (held us last) ≡ rows (joined us last)
  rows-end us last within new = rw (settled-is ps known us last within new) (rows-finished (rows (joined us last)) ps)
