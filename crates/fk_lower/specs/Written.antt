-- The flat list of pieces, given the measures of the blocks in them.
use Rattle.std.specs.Prelude.{ℕ, ◌+◌, ◌||◌, Bool, true, false, List, [], ◌∷◌, ◌++◌, map, slice_get}
use Rattle.std.specs.Prelude.{unwrap_or, Option, Some, None, if◌then◌else◌}
use Rattle.fk_meaning_operation.specs.declared.operation.Operation.{Operation}
use Rattle.fk_core.specs.declared.op.CoreOp.{CoreOp}
use Rattle.fk_core.specs.Numbers.{operation_of}
use Rattle.fk_core.specs.Next.{is_jump}
use Rattle.fk_core.specs.CodeAt as core
use Rattle.fk_core.specs.CodeAt.{Around}
use Rattle.fk_core_flat.specs.Items.{Item, jump, act, way_of, goes_away, aim}
use Rattle.fk_core_flat.specs.Flat.{gap, behind}
use Rattle.fk_lower.specs.declared.block.Act.{Act}
use Rattle.fk_lower.specs.declared.span.Span.{Span}
use Rattle.fk_lower.specs.declared.write.Loop.{Loop}
use Rattle.fk_lower.specs.Spans.{place, span_in}
use Rattle.fk_lower.specs.Tree.{PieceTree, Perform, Choose, While, Until, Quit, Break, Continue}
use Rattle.fk_lower.specs.Tree.{Call, Ends, Pieces, no_pieces, piece}
use Rattle.fk_lower.specs.Measures.{is_beside, measured}

-- The item of an entry of a list.
abbrev pub item_by : Option Operation → (jumps : Bool) → CoreOp → Option Item
item_by (Some operation) jumps op = Some (act op.site operation op.target)
item_by None true op = Some (jump op.target)
item_by None false op = None

abbrev pub item_of : CoreOp → Option Item
item_of op = item_by (operation_of op.kind op.number) (is_jump op) op

abbrev pub items_of : List CoreOp → List (Option Item)
items_of ops = map item_of ops

abbrev pub around_of : Option Loop → Around
around_of None = None
around_of (Some loop) = Some (record { behind = loop.behind; onward = loop.onward })

-- The entry of a function: that of its binding, or the end of the list if there is none.
abbrev pub entry_of : (entries : List ℕ) → (end binding : ℕ) → ℕ
entry_of entries end binding = unwrap_or (slice_get entries binding) end

abbrev pub an_act : Act → (target : ℕ) → List (Option Item)
an_act a target = Some (act a.site a.operation target) ∷ []

abbrev pub a_skip : (here : Bool) → (target : ℕ) → List (Option Item)
a_skip true target = []
a_skip false target = Some (jump target) ∷ []

-- The index after an operation, and after the jump that follows it, if there is one.
abbrev pub past : (here : Bool) → ℕ → ℕ
past here i = i + (1 + gap here)

-- The index where the code after a piece is written, given the measures of that code.
abbrev pub behind_of : PieceTree → (rest : Span) → ℕ → ℕ
behind_of (Perform a) rest i = past (goes_away (way_of a.operation) || rest.here) i
behind_of (Choose a x of_x y of_y) rest i =
    let first = span_in of_x (is_beside of_y rest) in
    past first.here i + first.extent + (span_in of_y rest.here).extent
behind_of (While test of_test body of_body step of_step) rest i =
    let turn = span_in of_body of_step.far.here in
    i + (span_in of_test turn.here).extent + turn.extent + of_step.far.extent
behind_of (Until body of_body test of_test) rest i = i + of_body.near.extent + of_test.far.extent
behind_of (Quit a) rest i = past rest.here i
behind_of Break rest i = i
behind_of Continue rest i = i
behind_of (Call a function opening of_opening) rest i =
    past rest.here (i + 1 + of_opening.near.extent)
behind_of (Ends a) rest i = i + 1

-- An operation that goes on; and one that may leave the loop around it.
abbrev pub perform_written : Act → (rest : Span) → Around → (i k : ℕ) → List (Option Item)
perform_written a rest c i k =
    let here = goes_away (way_of a.operation) || rest.here in
    an_act a (aim (way_of a.operation) k) ++ a_skip here (place rest.start c (past here i) k)

abbrev pub quit_written : Act → (rest : Span) → Around → (i k : ℕ) → List (Option Item)
quit_written a rest c i k =
    an_act a (behind c) ++ a_skip rest.here (place rest.start c (past rest.here i) k)

-- For functions with these entries.
module _ (entry : (binding : ℕ) → ℕ) where
  abbrev mutual
    pub written : (near : Bool) → Around → (i k : ℕ) → Pieces → List (Option Item)
    written near c i k no_pieces = []
    written near c i k (piece first others) =
        let rest = measured near others in
        piece_written first rest c i k ++ written near c (behind_of first rest i) k others

    pub piece_written : PieceTree → (rest : Span) → Around → (i k : ℕ) → List (Option Item)
    piece_written (Perform a) rest c i k = perform_written a rest c i k
    piece_written (Choose a x of_x y of_y) rest c i k =
        let beside = is_beside of_y rest in
        let first = span_in of_x beside in
        let second = span_in of_y rest.here in
        let m = past first.here i in
        let b = m + first.extent in
        let e = place rest.start c (b + second.extent) k in
        an_act a (place second.start c b e) ++ a_skip first.here (place first.start c m e)
        ++ written beside c m e x ++ written rest.here c b e y
    piece_written (While test of_test body of_body step of_step) rest c i k =
        let steps = of_step.far.here in
        let turn = span_in of_body steps in
        let b = i + (span_in of_test turn.here).extent in
        let t = b + turn.extent in
        let o : ℕ = if steps then t else i in
        let loop : core.Loop =
        record { behind = place rest.start c (t + of_step.far.extent) k; onward = o } in
        written turn.here (Some loop) i (place turn.start (Some loop) b o) test
        ++ written steps (Some loop) b o body ++ written false (Some loop) t i step
    piece_written (Until body of_body test of_test) rest c i k =
        let turn = of_body.near in
        let t = i + turn.extent in
        let loop : core.Loop =
        record { behind = place rest.start c (t + of_test.far.extent) k; onward = t } in
        written true (Some loop) i t body
        ++ written false (Some loop) t (place turn.start (Some loop) i t) test
    piece_written (Quit a) rest c i k = quit_written a rest c i k
    piece_written Break rest c i k = []
    piece_written Continue rest c i k = []
    piece_written (Call a function opening of_opening) rest c i k =
        let e = i + 1 + of_opening.near.extent in
        an_act a (entry function) ++ written true None (i + 1) e opening
        ++ Some (jump (entry function)) ∷ a_skip rest.here (place rest.start c (past rest.here e) k)
    piece_written (Ends a) rest c i k = an_act a 0
