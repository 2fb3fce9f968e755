-- The measures of code, from its end, given those of the blocks in it.
use Rattle.std.specs.Prelude.{ℕ, ◌+◌, ◌==◌, ◌&&◌, ◌||◌, Bool, true, false, List, [], ◌∷◌, ◌++◌}
use Rattle.fk_core_flat.specs.Items.{way_of, goes_away}
use Rattle.fk_core_flat.specs.Flat.{gap}
use Rattle.fk_lower.specs.declared.span.Start.TheVariants.{At, Next, Behind, Onward}
use Rattle.fk_lower.specs.declared.span.Span.{Span}
use Rattle.fk_lower.specs.declared.span.Spans.{Spans}
use Rattle.fk_lower.specs.Spans.{round, span_in}
use Rattle.fk_lower.specs.Tree.{PieceTree, Perform, Choose, While, Until, Quit, Break, Continue}
use Rattle.fk_lower.specs.Tree.{Call, Ends, Pieces, no_pieces, piece}

-- The measures of empty code.
abbrev pub nothing : (near : Bool) → Span
nothing near = record { here = near; extent = 0; start = Next }

-- The measures of code that begins here.
abbrev pub beginning : (extent : ℕ) → Span
beginning extent = record { here = true; extent = extent; start = At 0 }

-- The first branch of a choice goes on after the second one. That is directly after the first one's
-- list, if the second has nothing in the list and the rest begins here.
abbrev pub is_beside : Spans → (rest : Span) → Bool
is_beside of_y rest = rest.here && ((span_in of_y rest.here).extent == 0)

-- The measures of a piece and the code after it, given those of that code.
abbrev pub before : PieceTree → (rest : Span) → Span
before (Perform act) rest =
    beginning (1 + gap (goes_away (way_of act.operation) || rest.here) + rest.extent)
before (Choose act x of_x y of_y) rest =
    let first = span_in of_x (is_beside of_y rest) in
    beginning (1 + gap first.here + first.extent + (span_in of_y rest.here).extent + rest.extent)
before (While test of_test body of_body step of_step) rest =
    let turn = span_in of_body of_step.far.here in
    beginning ((span_in of_test turn.here).extent + turn.extent + of_step.far.extent + rest.extent)
before (Until body of_body test of_test) rest =
    let turn = of_body.near in
    let whole = turn.extent + of_test.far.extent in
    record {
      here = turn.here;
      extent = whole + rest.extent;
      start = round turn.start turn.extent whole rest.start;
    }
before (Quit act) rest = beginning (1 + gap rest.here + rest.extent)
before Break rest = record { here = false; extent = rest.extent; start = Behind }
before Continue rest = record { here = false; extent = rest.extent; start = Onward }
before (Call act function opening of_opening) rest =
    beginning (2 + of_opening.near.extent + gap rest.here + rest.extent)
before (Ends act) rest = beginning (1 + rest.extent)

abbrev pub measured : (near : Bool) → Pieces → Span
measured near no_pieces = nothing near
measured near (piece first others) = before first (measured near others)

-- The measures of the code after each piece, the last piece's first.
abbrev pub rests : (near : Bool) → Pieces → List Span
rests near no_pieces = []
rests near (piece first others) = rests near others ++ measured near others ∷ []
