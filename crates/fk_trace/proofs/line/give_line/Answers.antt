use Rattle.std.proofs.Common.{◌≡◌, ℕ, List, [], ◌∷◌, ◌++◌, Option, sym, ap, subst, ◌∙◌, refl, true, append_assoc}
use Rattle.std.specs.Prelude.{if◌then◌else◌}
use Rattle.std.specs.Io.KnownBytes.{append_known}
use Rattle.fk_ports.specs.Known.{IsGiven, TakesPrefix}
use Rattle.fk_ports.proofs.Given.{append_known-nil, all_given, none_given, part_of_given, piece_given}
use Rattle.fk_ports.proofs.Pieces.{on_err, err_then, ok_then}
use Rattle.fk_machine.specs.Cycle.{Machine}
use Rattle.fk_machine.specs.Run.{committed}
use Rattle.fk_machine.specs.View.{machine_of}
use Rattle.fk_trace.specs.declared.column.Column.{Column}
use Rattle.fk_trace.specs.Text.{head_text, line_if, line_text, occurs, ranges_text}
use Rattle.fk_trace.specs.Ranges.{numbers_of}
use Rattle.fk_trace.proofs.line.give_line.Goals as goal

-- no line is given
pub returns-then-not-occurs-clause-all : goal.returns-then-not-occurs-clause-all
returns-then-not-occurs-clause-all g c =
    let m = machine_of c.args.machine.now in
    let none = sym c.occurs.ensures ∙ c.if-not-occurs.true in
    sym (ap (λ b. append_known (g.K.Sink.taken c.args.out.now) (if b then line_text c.args.column m.begun (committed m) else [])) none ∙ append_known-nil _)

-- the whole line is still to be given
module _ (column : Column) (m : Machine) (before : Option (List ℕ)) (there : occurs column (committed m) ≡ true) where
  abbrev line : List ℕ
  line = line_if column m.begun (committed m)

  abbrev ranges : List ℕ
  ranges = ranges_text column 0 (numbers_of column (committed m))

  whole : IsGiven line (head_text column m.begun ++ (ranges ++ (10 ∷ []))) before before
  whole =
      subst (λ rest. IsGiven line rest before before)
      (ap (λ b. if b then line_text column m.begun (committed m) else []) there ∙ append_assoc (head_text column m.begun) ranges (10 ∷ []))
      (none_given line before)

pub returns-in_err-give_head-clause-prefix : goal.returns-in_err-give_head-clause-prefix
returns-in_err-give_head-clause-prefix g c =
    let m = machine_of c.args.machine.now in
    let column = c.args.column in
    let before = g.K.Sink.taken c.args.out.now in
    let there = sym c.occurs.ensures ∙ c.if-not-occurs.false in
    let part = subst (λ n. TakesPrefix before (g.K.Sink.taken c.give_head.new.out) (head_text column n)) c.cycles.ensures c.in_err-give_head.ensures.prefix in
    on_err c.from_residual.result _ (part_of_given _ (head_text column m.begun) _ before _ _ (whole column m before there) part)

pub returns-in_err-give_ranges-clause-prefix : goal.returns-in_err-give_ranges-clause-prefix
returns-in_err-give_ranges-clause-prefix g c =
    let m = machine_of c.args.machine.now in
    let column = c.args.column in
    let before = g.K.Sink.taken c.args.out.now in
    let there = sym c.occurs.ensures ∙ c.if-not-occurs.false in
    let head = piece_given _ (head_text column m.begun) _ before _ _ (whole column m before there) (c.in_ok-give_head.ensures.all ∙ ap (λ n. append_known before (head_text column n)) c.cycles.ensures) in
    on_err c.from_residual-in_err-give_ranges.result _ (part_of_given _ (ranges column m before there) _ before _ _ head c.in_err-give_ranges.ensures.prefix)

pub returns-clause-all : goal.returns-clause-all
returns-clause-all g c =
    let m = machine_of c.args.machine.now in
    let column = c.args.column in
    let before = g.K.Sink.taken c.args.out.now in
    let there = sym c.occurs.ensures ∙ c.if-not-occurs.false in
    let head = piece_given _ (head_text column m.begun) _ before _ _ (whole column m before there) (c.in_ok-give_head.ensures.all ∙ ap (λ n. append_known before (head_text column n)) c.cycles.ensures) in
    let told = piece_given _ (ranges column m before there) _ before _ _ head c.in_ok-give_ranges.ensures.all in
    ok_then c.give_all.result _ _ (λ all. all_given _ [] before _ refl (piece_given _ (10 ∷ []) [] before _ _ told all)) c.give_all.ensures.all

pub returns-clause-prefix : goal.returns-clause-prefix
returns-clause-prefix g c =
    let m = machine_of c.args.machine.now in
    let column = c.args.column in
    let before = g.K.Sink.taken c.args.out.now in
    let there = sym c.occurs.ensures ∙ c.if-not-occurs.false in
    let head = piece_given _ (head_text column m.begun) _ before _ _ (whole column m before there) (c.in_ok-give_head.ensures.all ∙ ap (λ n. append_known before (head_text column n)) c.cycles.ensures) in
    let told = piece_given _ (ranges column m before there) _ before _ _ head c.in_ok-give_ranges.ensures.all in
    err_then c.give_all.result _ _ (part_of_given _ (10 ∷ []) [] before _ _ told) c.give_all.ensures.prefix
