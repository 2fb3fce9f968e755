-- A text by hand: where its names are open.
use Rattle.std.proofs.Common.{◌≡◌, ℕ, ◌+◌, ◌≤◌, Bool, true, false, List, [], ◌∷◌, Option, Some, None, refl, codes, arith}
use Rattle.fk_syntax.specs.declared.facts.Note.{Note}
use Rattle.fk_syntax.specs.declared.facts.Kind.{Kind}
use Rattle.fk_syntax.specs.declared.place.Spot.{Spot}
use Rattle.fk_syntax.specs.declared.program.Mode.TheVariants.{Sync, Async}
use Rattle.fk_syntax.specs.Tree as t
use Rattle.fk_syntax.specs.Tree.{Named}
use Rattle.fk_syntax.specs.Program as p
use Rattle.fk_syntax.specs.Program.{DeclaredTree, Statement, FunctionTree, ProgramTree, statements_of}
use Rattle.fk_meaning_forms.specs.declared.tables.Home.TheVariants as h
use Rattle.fk_meaning_forms.specs.declared.tables.Slot.{Slot}
use Rattle.fk_meaning_forms.specs.declared.tables.Region.{Region}
use Rattle.fk_meaning_forms.specs.Tables.{Tables}
use Rattle.fk_types_names.specs.Outline as o
use Rattle.fk_layout_slots.specs.Told.{Told}
use Rattle.fk_layout_slots.specs.Frames.{regions_of}
use Rattle.fk_layout_slots.specs.Slots.{slots_of}
use Rattle.fk_layout_slots.specs.Places.{behind_frame, within, outside, behind_private, slot_in, file_slot, behind_words, behind_variable, behind_parameter}
use Rattle.fk_lockstep_frames.specs.Nests as n
use Rattle.fk_lockstep_frames.specs.Nests.{Nest, OfFunction, OfPart}
use Rattle.fk_lower_names.specs.OpenFrames.{IsOpen, IsOpenFor, FunctionIsOpen}

abbrev named : (at : ℕ) → Named
named at = record { bytes = at ∷ []; at = at; place = record { line = 1; column = at } }

abbrev spot : (at : ℕ) → Spot
spot at = record { at = at; place = record { line = 1; column = at } }

abbrev declared : (shared : Bool) (at : ℕ) → DeclaredTree
declared shared at = record { shared = shared; kind = record { base = t.Int; stars = 0 }; name = named at; length = None; first = None }

abbrev used : ℕ → Statement
used at = p.Expression (t.Variable (named at))

-- sync void f(sh int a, int z) { sh int b[3]; if ($) { sh struct S s; a; b; s; } else { sh int e; e; if ($) b; }  sh int c; c; }
abbrev f : FunctionTree
f = record {
  mode = Sync;
  result = record { base = t.Void; stars = 0 };
  name = named 1;
  parameters = declared true 2 ∷ declared false 3 ∷ [];
  body = Some (statements_of (
      p.Declare (declared true 4 ∷ [])
      ∷ p.IfElse (spot 5) (t.GroupRank (spot 6))
      (p.Block (statements_of (p.Declare (declared true 7 ∷ []) ∷ used 8 ∷ used 9 ∷ used 10 ∷ [])))
      (p.Block (statements_of (p.Declare (declared true 12 ∷ []) ∷ used 13 ∷ p.If (spot 14) (t.GroupRank (spot 15)) (used 16) ∷ [])))
      ∷ p.Declare (declared true 18 ∷ []) ∷ used 19 ∷ []));
}

-- void main(void) { int q; start { sh int k; k; fork (1; @ = 0) { sh int m; m; k; farm { k; m; q; } } g; } }
abbrev main : FunctionTree
main = record {
  mode = Async;
  result = record { base = t.Void; stars = 0 };
  name = record (named 20) { bytes = codes "main" };
  parameters = [];
  body = Some (statements_of (
      p.Declare (declared false 21 ∷ [])
      ∷ p.Start (spot 22) None
      (p.Block (statements_of (
      p.Declare (declared true 23 ∷ []) ∷ used 24
      ∷ p.Fork (spot 25) (t.Number (spot 26) 1 false) (t.Number (spot 27) 0 false) None
      (p.Block (statements_of (
      p.Declare (declared true 28 ∷ []) ∷ used 29 ∷ used 30
      ∷ p.Farm (spot 31) (p.Block (statements_of (used 32 ∷ used 33 ∷ used 34 ∷ []))) ∷ [])))
      ∷ used 35 ∷ [])))
      ∷ []));
}

abbrev program : ProgramTree
program = record { items = p.VariablesItem (declared true 0 ∷ []) ∷ p.FunctionItem f ∷ p.FunctionItem main ∷ []; end = record { line = 2; column = 1 }; tokens = 36 }

abbrev noted : (kind binding : ℕ) (splits : Bool) → Note
noted kind binding splits = record { kind = kind; binding = binding; sync = false; shared = false; splits = splits }

abbrev word : (binding : ℕ) → Note
word binding = noted 1 binding false

abbrev other : Note
other = noted 0 0 false

abbrev splitting : Note
splitting = noted 0 0 true

abbrev notes : List Note
notes =
    word 0 ∷ word 1 ∷ word 2 ∷ word 3 ∷ noted 2 4 false ∷ splitting ∷ other ∷ noted 3 5 false ∷ word 2 ∷ noted 2 4 false ∷ noted 3 5 false ∷ other
    ∷ word 6 ∷ word 6 ∷ splitting ∷ other ∷ noted 2 4 false ∷ other ∷ word 7 ∷ word 7
    ∷ word 8 ∷ word 9 ∷ other ∷ word 10 ∷ word 10 ∷ other ∷ other ∷ other ∷ word 11 ∷ word 11 ∷ word 10 ∷ other ∷ word 10 ∷ word 11 ∷ word 9 ∷ word 0 ∷ []

abbrev kind : ℕ → Kind
kind words = record { words = words; unsigned = false; array = false; step = 0 }

abbrev told : Told
told = record { notes = notes; kinds = kind 0 ∷ kind 1 ∷ kind 3 ∷ kind 2 ∷ [] }

abbrev part : (at part level words : ℕ) → Region
part at number level words = record { at = at; part = number; level = level; words = words }

abbrev in_frame : (number index : ℕ) → Slot
in_frame number index = record { home = h.Group number; index = index }

abbrev private : (index : ℕ) → Slot
private index = record { home = h.Private; index = index }

-- f has 1 + 3 + 1 words, its two parts have 2 and 1, and the `if` in the second has none
abbrev regions : List Region
regions = part 1 0 0 5 ∷ part 5 0 1 2 ∷ part 5 1 1 1 ∷ part 22 0 1 1 ∷ part 25 0 2 1 ∷ []

abbrev no_word : Slot
no_word = record { home = h.NoWord; index = 0 }

abbrev slots : List Slot
slots =
    record { home = h.Global; index = 0 } ∷ no_word ∷ in_frame 0 0 ∷ private 1 ∷ in_frame 0 1 ∷ in_frame 1 0 ∷ in_frame 2 0 ∷ in_frame 0 4
    ∷ no_word ∷ private 0 ∷ in_frame 3 0 ∷ in_frame 4 0 ∷ []

regions_by_hand : regions_of told program.items ≡ regions
regions_by_hand = refl

slots_by_hand : slots_of told program.items ≡ slots
unfolding behind_frame within outside behind_private slot_in file_slot behind_words behind_variable behind_parameter
slots_by_hand = refl

abbrev tables : Tables
tables = record { notes = notes; kinds = told.kinds; slots = slots; regions = regions }

-- so many words from one on are in a frame of so many
is_open : (nests : List Nest) (r : Region) (first words all : ℕ) → n.frame_at nests r.level ≡ Some r.words → r.words ≡ all → 1 ≤ words → first + words ≤ all → IsOpen nests r first words
is_open nests r first words all frame wide some few = record { frame = frame; begins = omega (arith, wide, some, few); ends = λ low. omega (arith, wide, few) }

function_open : FunctionIsOpen program tables f
function_open = (
  ((is_open _ _ 0 1 5 refl refl (omega arith) (omega arith), (λ e. refl)), ((tt, (λ e. e)), tt)),
  (
    ((is_open _ _ 1 3 5 refl refl (omega arith) (omega arith), (λ e. refl)), tt),
    (
      (
        tt,
        (((is_open _ _ 0 2 2 refl refl (omega arith) (omega arith), (λ e. refl)), tt), ((is_open _ _ 0 1 5 refl refl (omega arith) (omega arith), tt), ((is_open _ _ 1 3 5 refl refl (omega arith) (omega arith), tt), ((is_open _ _ 0 2 2 refl refl (omega arith) (omega arith), tt), tt)))),
        (((is_open _ _ 0 1 1 refl refl (omega arith) (omega arith), (λ e. refl)), tt), ((is_open _ _ 0 1 1 refl refl (omega arith) (omega arith), tt), ((tt, (is_open _ _ 1 3 5 refl refl (omega arith) (omega arith), tt)), tt))),
      ),
      (((is_open _ _ 4 1 5 refl refl (omega arith) (omega arith), (λ e. refl)), tt), ((is_open _ _ 4 1 5 refl refl (omega arith) (omega arith), tt), tt)),
    ),
  ),
)

main_open : FunctionIsOpen program tables main
main_open = (
  tt,
  (
    ((tt, (λ e. e)), tt),
    (
      (
        tt,
        (
          ((is_open _ _ 0 1 1 refl refl (omega arith) (omega arith), (λ e. refl)), tt),
          (
            (is_open _ _ 0 1 1 refl refl (omega arith) (omega arith), tt),
            (
              (
                tt,
                tt,
                tt,
                (((is_open _ _ 0 1 1 refl refl (omega arith) (omega arith), (λ e. refl)), tt), ((is_open _ _ 0 1 1 refl refl (omega arith) (omega arith), tt), ((is_open _ _ 0 1 1 refl refl (omega arith) (omega arith), tt), (((is_open _ _ 0 1 1 refl refl (omega arith) (omega arith), tt), ((is_open _ _ 0 1 1 refl refl (omega arith) (omega arith), tt), ((tt, tt), tt))), tt)))),
              ),
              ((tt, tt), tt),
            ),
          ),
        ),
      ),
      tt,
    ),
  ),
)

-- outside its part a variable isn't open: `s` behind the `if`, and `m` behind the `fork`
s_behind : IsOpenFor program tables (OfFunction (Some 5) ∷ []) (o.Uses (named 10)) → ⊥
s_behind h = absurd_frame h.frame
  where
    absurd_frame : ◌≡◌ {A = Option ℕ} None (Some 2) → ⊥
    absurd_frame e = cc

-- and in the wrong part it isn't: `e` in the first one
e_in_first : IsOpenFor program tables (OfPart false (Some 2) ∷ OfFunction (Some 5) ∷ []) (o.Uses (named 13)) → ⊥
e_in_first h = absurd_frame h.frame
  where
    absurd_frame : ◌≡◌ {A = Option ℕ} (Some 2) (Some 1) → ⊥
    absurd_frame e = cc
