use Rattle.std.proofs.Common.{true, ◌≡◌, ◌<◌, [], ◌∷◌, ◌++◌, length, map, take, drop, Ok, is_ok, sym, ap, subst, ◌∙◌, arith}
use Rattle.std.proofs.lemmas.Result.{err_from_is_err_and}
use Rattle.std.specs.List.{list_all}
use Rattle.std.proofs.lemmas.List.{map-append, drop_all}
use Rattle.std.proofs.ResultArms.{chosen}
use Rattle.fk_lex.specs.Moves.{after, place_of}
use Rattle.fk_lex.specs.Positions.{in_line}
use Rattle.fk_lex.specs.Sizes.{size_of}
use Rattle.fk_lex.specs.Steps.{NextStep}
use Rattle.fk_lex.specs.View.{spelled}
use Rattle.fk_lex.proofs.Lines.{token_in_line}
use Rattle.fk_lex.proofs.Reached.{Reached, reached_start, reached_gap, reached_token, reached_end, reached_on, some_left, nearer, reached_own_fault, reached_blank, reached_bounded, step_size, fault_bounded, has_place, gap_is_piece, token_is_piece, gives_none, gives_kind, gives_fault}
use Rattle.fk_lex.proofs.lex.lex.Goals as goal

pub step_at-step-requires-clause-line : goal.step_at-step-requires-clause-line
step_at-step-requires-clause-line c =
    let some = some_left c.args.source.now c.split_at.result.1.now c.loop-at.at.offset (omega arith) c.split_at.ensures.back in
    let reached = subst (Reached c.args.source.now _ c.loop-at.at) (sym c.split_at.ensures.back) c.loop-at.invariant in
    let known = reached_bounded c.args.source.now _ c.loop-at.at c.split_at.result.1.now reached in
    known.line

pub step_at-step-requires-clause-inside : goal.step_at-step-requires-clause-inside
step_at-step-requires-clause-inside c =
    let some = some_left c.args.source.now c.split_at.result.1.now c.loop-at.at.offset (omega arith) c.split_at.ensures.back in
    let reached = subst (Reached c.args.source.now _ c.loop-at.at) (sym c.split_at.ensures.back) c.loop-at.invariant in
    let known = reached_bounded c.args.source.now _ c.loop-at.at c.split_at.result.1.now reached in
    let offset = known.offset in
    omega arith

pub split_at-requires-in-loop-at : goal.split_at-requires-in-loop-at
split_at-requires-in-loop-at c =
    let some = some_left c.args.source.now c.split_at.result.1.now c.loop-at.at.offset (omega arith) c.split_at.ensures.back in
    let reached = subst (Reached c.args.source.now _ c.loop-at.at) (sym c.split_at.ensures.back) c.loop-at.invariant in
    let size = step_size reached.before c.split_at.result.1.now c.step_at-step.result some (c.step_at-step.ensures reached.before reached.split reached.here) in
    omega arith

pub past-behind-requires-clause-lines : goal.past-behind-requires-clause-lines
past-behind-requires-clause-lines c =
    let some = some_left c.args.source.now c.split_at.result.1.now c.loop-at.at.offset (omega arith) c.split_at.ensures.back in
    let reached = subst (Reached c.args.source.now _ c.loop-at.at) (sym c.split_at.ensures.back) c.loop-at.invariant in
    let size = step_size reached.before c.split_at.result.1.now c.step_at-step.result some (c.step_at-step.ensures reached.before reached.split reached.here) in
    let known = reached_bounded c.args.source.now _ c.loop-at.at c.split_at.result.1.now reached in
    let lines = known.lines in
    let offset = known.offset in
    let passed = c.split_at-in-loop-at.ensures.front_len in
    let source = c.requires in
    omega (arith, c.size.ensures)

pub past-behind-requires-clause-offset : goal.past-behind-requires-clause-offset
past-behind-requires-clause-offset c =
    let some = some_left c.args.source.now c.split_at.result.1.now c.loop-at.at.offset (omega arith) c.split_at.ensures.back in
    let reached = subst (Reached c.args.source.now _ c.loop-at.at) (sym c.split_at.ensures.back) c.loop-at.invariant in
    let size = step_size reached.before c.split_at.result.1.now c.step_at-step.result some (c.step_at-step.ensures reached.before reached.split reached.here) in
    let known = reached_bounded c.args.source.now _ c.loop-at.at c.split_at.result.1.now reached in
    let lines = known.lines in
    let offset = known.offset in
    let passed = c.split_at-in-loop-at.ensures.front_len in
    let source = c.requires in
    omega (arith, c.size.ensures)

pub past-behind-requires-clause-in_line : goal.past-behind-requires-clause-in_line
past-behind-requires-clause-in_line c = λ n kind is.
    let some = some_left c.args.source.now c.split_at.result.1.now c.loop-at.at.offset (omega arith) c.split_at.ensures.back in
    let reached = subst (Reached c.args.source.now _ c.loop-at.at) (sym c.split_at.ensures.back) c.loop-at.invariant in
    let bytes = c.split_at-in-loop-at.ensures.front ∙ ap (λ n. take n c.split_at.result.1.now) (c.size.ensures ∙ ap size_of is) in
    subst (λ bytes. list_all in_line bytes ≡ true) (sym bytes)
    (token_in_line reached.before c.split_at.result.1.now n kind some (subst (NextStep reached.before c.split_at.result.1.now) is (c.step_at-step.ensures reached.before reached.split reached.here)))

pub place-place-requires-clause-lines : goal.place-place-requires-clause-lines
place-place-requires-clause-lines c =
    let some = some_left c.args.source.now c.split_at.result.1.now c.loop-at.at.offset (omega arith) c.split_at.ensures.back in
    let reached = subst (Reached c.args.source.now _ c.loop-at.at) (sym c.split_at.ensures.back) c.loop-at.invariant in
    let known = reached_bounded c.args.source.now _ c.loop-at.at c.split_at.result.1.now reached in
    let lines = known.lines in
    let offset = known.offset in
    let source = c.requires in
    omega arith

pub place-place-requires-clause-line : goal.place-place-requires-clause-line
place-place-requires-clause-line c =
    let some = some_left c.args.source.now c.split_at.result.1.now c.loop-at.at.offset (omega arith) c.split_at.ensures.back in
    let reached = subst (Reached c.args.source.now _ c.loop-at.at) (sym c.split_at.ensures.back) c.loop-at.invariant in
    let known = reached_bounded c.args.source.now _ c.loop-at.at c.split_at.result.1.now reached in
    known.line

pub place-place-requires-clause-offset : goal.place-place-requires-clause-offset
place-place-requires-clause-offset c =
    let some = some_left c.args.source.now c.split_at.result.1.now c.loop-at.at.offset (omega arith) c.split_at.ensures.back in
    let reached = subst (Reached c.args.source.now _ c.loop-at.at) (sym c.split_at.ensures.back) c.loop-at.invariant in
    let known = reached_bounded c.args.source.now _ c.loop-at.at c.split_at.result.1.now reached in
    let lines = known.lines in
    let offset = known.offset in
    let source = c.requires in
    omega arith

pub loop-at-preserved-then-is_blank : goal.loop-at-preserved-then-is_blank
loop-at-preserved-then-is_blank c =
    let some = some_left c.args.source.now c.split_at.result.1.now c.loop-at.at.offset (omega arith) c.split_at.ensures.back in
    let reached = subst (Reached c.args.source.now _ c.loop-at.at) (sym c.split_at.ensures.back) c.loop-at.invariant in
    reached_on c.args.source.now _ c.next-at.result _
    (reached_blank c.args.source.now _ c.loop-at.at c.next-at.result c.split_at.result.1.now reached some (sym c.if-is_blank.ensures) c.next-at.ensures)

pub returns-clause-tokens : goal.returns-clause-tokens
returns-clause-tokens c =
    reached_end _ _ _ _ c.loop-at.invariant (drop_all c.loop-at.at.offset c.args.source.now (omega arith))

pub loop-at-init : goal.loop-at-init
loop-at-init c =
    let source = c.args.source.now in
    subst (λ items. Reached source (map spelled items) c.start-at.result (drop c.start-at.result.offset source)) (sym c.in-Ok.ensures.items)
    (subst (λ at. Reached source [] at (drop at.offset source)) (sym c.start-at.ensures) (reached_start source))

pub token-requires : goal.token-requires
token-requires c = λ n kind is.
    let some = some_left c.args.source.now c.split_at.result.1.now c.loop-at.at.offset (omega arith) c.split_at.ensures.back in
    let reached = subst (Reached c.args.source.now _ c.loop-at.at) (sym c.split_at.ensures.back) c.loop-at.invariant in
    let bytes = c.split_at-in-loop-at.ensures.front ∙ ap (λ n. take n c.split_at.result.1.now) c.size.ensures in
    let behind = c.past-behind.ensures ∙ ap (after c.loop-at.at) bytes in
    let stands = c.step_at-step.ensures reached.before reached.split reached.here in
    let known = fault_bounded c.args.source.now _ c.loop-at.at c.past-behind.result c.split_at.result.1.now c.step_at-step.result n kind reached is behind some stands in
    has_place c.args.source.now c.past-behind.result _ known.0 known.1 c.requires

pub returns-in_err-kind-clause-fault : goal.returns-in_err-kind-clause-fault
returns-in_err-kind-clause-fault c =
    let some = some_left c.args.source.now c.split_at.result.1.now c.loop-at.at.offset (omega arith) c.split_at.ensures.back in
    let reached = subst (Reached c.args.source.now _ c.loop-at.at) (sym c.split_at.ensures.back) c.loop-at.invariant in
    let bytes = c.split_at-in-loop-at.ensures.front ∙ ap (λ n. take n c.split_at.result.1.now) c.size.ensures in
    let behind = c.past-behind.ensures ∙ ap (after c.loop-at.at) bytes in
    let stands = c.step_at-step.ensures reached.before reached.split reached.here in
    let given = gives_fault c.step_at-step.result (place_of c.past-behind.result) c.in_err-kind.field-0.0 c.in_err-kind.ensures in
    let p = err_from_is_err_and c.from_residual.result c.from_residual.ensures.1 in
    rw (p.1, p.2) (reached_own_fault c.args.source.now _ c.loop-at.at c.past-behind.result c.split_at.result.1.now c.step_at-step.result given.0 given.1 c.in_err-kind.field-0.0
    reached given.2 behind given.3 some stands)

pub loop-at-smaller-in_ok-map_err : goal.loop-at-smaller-in_ok-map_err
loop-at-smaller-in_ok-map_err c =
    let some = some_left c.args.source.now c.split_at.result.1.now c.loop-at.at.offset (omega arith) c.split_at.ensures.back in
    let reached = subst (Reached c.args.source.now _ c.loop-at.at) (sym c.split_at.ensures.back) c.loop-at.invariant in
    let bytes = c.split_at-in-loop-at.ensures.front ∙ ap (λ n. take n c.split_at.result.1.now) c.size.ensures in
    let behind = c.past-behind.ensures ∙ ap (after c.loop-at.at) bytes in
    let stands = c.step_at-step.ensures reached.before reached.split reached.here in
    let given = gives_kind c.step_at-step.result (place_of c.past-behind.result) c.in-Some.kind (ap Ok (sym c.in-Some.is) ∙ c.in_ok-kind.ensures) in
    let piece = token_is_piece c.step_at-step.result given.0 c.in-Some.kind given.1 in
    nearer c.args.source.now reached.before c.split_at.result.1.now c.loop-at.at c.past-behind.result c.step_at-step.result some stands piece c.split_at.ensures.back behind

pub loop-at-preserved-in_ok-map_err : goal.loop-at-preserved-in_ok-map_err
loop-at-preserved-in_ok-map_err c =
    let some = some_left c.args.source.now c.split_at.result.1.now c.loop-at.at.offset (omega arith) c.split_at.ensures.back in
    let reached = subst (Reached c.args.source.now _ c.loop-at.at) (sym c.split_at.ensures.back) c.loop-at.invariant in
    let bytes = c.split_at-in-loop-at.ensures.front ∙ ap (λ n. take n c.split_at.result.1.now) c.size.ensures in
    let behind = c.past-behind.ensures ∙ ap (after c.loop-at.at) bytes in
    let stands = c.step_at-step.ensures reached.before reached.split reached.here in
    let given = gives_kind c.step_at-step.result (place_of c.past-behind.result) c.in-Some.kind (ap Ok (sym c.in-Some.is) ∙ c.in_ok-kind.ensures) in
    let pushed = chosen _ _ _ _ c.push.ensures.items (sym c.map_err.ensures.variant ∙ ap is_ok c.in_ok-map_err.was) in
    let tokens =
    ap (map spelled) pushed ∙ map-append spelled c.loop-at.tokens.items _
    ∙ ap (λ b. map spelled c.loop-at.tokens.items ++ record { kind = c.in-Some.kind; bytes = b; place = c.place-place.result } ∷ []) bytes
    ∙ ap (λ p. map spelled c.loop-at.tokens.items ++ record { kind = c.in-Some.kind; bytes = take (size_of c.step_at-step.result) c.split_at.result.1.now; place = p } ∷ []) c.place-place.ensures in
    reached_on c.args.source.now _ c.past-behind.result _
    (reached_token c.args.source.now (map spelled c.loop-at.tokens.items) _ c.loop-at.at c.past-behind.result c.split_at.result.1.now c.step_at-step.result given.0 c.in-Some.kind reached given.1 behind tokens some stands)

pub loop-at-smaller : goal.loop-at-smaller
loop-at-smaller c =
    let some = some_left c.args.source.now c.split_at.result.1.now c.loop-at.at.offset (omega arith) c.split_at.ensures.back in
    let reached = subst (Reached c.args.source.now _ c.loop-at.at) (sym c.split_at.ensures.back) c.loop-at.invariant in
    let bytes = c.split_at-in-loop-at.ensures.front ∙ ap (λ n. take n c.split_at.result.1.now) c.size.ensures in
    let behind = c.past-behind.ensures ∙ ap (after c.loop-at.at) bytes in
    let stands = c.step_at-step.ensures reached.before reached.split reached.here in
    let given = gives_none c.step_at-step.result (place_of c.past-behind.result) (ap Ok (sym c.in_default-2.is) ∙ c.in_ok-kind.ensures) in
    let piece = gap_is_piece c.step_at-step.result given.0 given.1 in
    nearer c.args.source.now reached.before c.split_at.result.1.now c.loop-at.at c.past-behind.result c.step_at-step.result some stands piece c.split_at.ensures.back behind

pub loop-at-preserved : goal.loop-at-preserved
loop-at-preserved c =
    let some = some_left c.args.source.now c.split_at.result.1.now c.loop-at.at.offset (omega arith) c.split_at.ensures.back in
    let reached = subst (Reached c.args.source.now _ c.loop-at.at) (sym c.split_at.ensures.back) c.loop-at.invariant in
    let bytes = c.split_at-in-loop-at.ensures.front ∙ ap (λ n. take n c.split_at.result.1.now) c.size.ensures in
    let behind = c.past-behind.ensures ∙ ap (after c.loop-at.at) bytes in
    let stands = c.step_at-step.ensures reached.before reached.split reached.here in
    let given = gives_none c.step_at-step.result (place_of c.past-behind.result) (ap Ok (sym c.in_default-2.is) ∙ c.in_ok-kind.ensures) in
    reached_on c.args.source.now _ c.past-behind.result _
    (reached_gap c.args.source.now _ c.loop-at.at c.past-behind.result c.split_at.result.1.now c.step_at-step.result given.0 reached given.1 behind some stands)
