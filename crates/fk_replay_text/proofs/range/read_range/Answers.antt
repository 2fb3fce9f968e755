use Rattle.std.proofs.Common.{subst}
use Rattle.fk_replay_text.specs.ColumnView.{column_of}
use Rattle.fk_replay_text.specs.Fields.{SpellsRange}
use Rattle.fk_replay_text.specs.declared.column.Column.{Column}
use Rattle.fk_replay_text.proofs.Fields.{at_star, first_part, last_mark, no_dash, no_star}
use Rattle.fk_replay_text.proofs.range.read_range.Goals as goal

pub returns-in_err-first : goal.returns-in_err-first
returns-in_err-first c = rw c.from_residual.ensures (λ r s. no_dash (column_of c.args.column) r c.args.field.now c.in_err-first.ensures s)

pub returns-in_err-last-in-Counts : goal.returns-in_err-last-in-Counts
returns-in_err-last-in-Counts c = rw c.from_residual-in_err-last-in-Counts.ensures (λ r s.
    no_star r c.args.field.now _ _ c.in_ok-first.ensures c.in_err-last-in-Counts.ensures (subst (λ (k : Column). SpellsRange (column_of k) r c.args.field.now) c.in-Counts.is s))

pub returns-in_err-read_number-in-Counts : goal.returns-in_err-read_number-in-Counts
returns-in_err-read_number-in-Counts c = rw c.from_residual-in_err-read_number-in-Counts.ensures (λ r s.
    c.in_err-read_number-in-Counts.ensures.number r.first s.first (first_part (column_of c.args.column) r c.args.field.now _ _ c.in_ok-first.ensures s))

pub returns-in_err-read_number-in-Counts-2 : goal.returns-in_err-read_number-in-Counts-2
returns-in_err-read_number-in-Counts-2 c = rw c.from_residual-in_err-read_number-in-Counts-2.ensures (λ r s.
    c.in_err-read_number-in-Counts-2.ensures.number r.last s.last (at_star r c.args.field.now _ _ _ _ c.in_ok-first.ensures c.in_ok-last-in-Counts.ensures
    (subst (λ (k : Column). SpellsRange (column_of k) r c.args.field.now) c.in-Counts.is s)).0)

pub returns-in_err-read_number-in-Counts-3 : goal.returns-in_err-read_number-in-Counts-3
returns-in_err-read_number-in-Counts-3 c = rw c.from_residual-in_err-read_number-in-Counts-3.ensures (λ r s.
    c.in_err-read_number-in-Counts-3.ensures.number r.number s.number (at_star r c.args.field.now _ _ _ _ c.in_ok-first.ensures c.in_ok-last-in-Counts.ensures
    (subst (λ (k : Column). SpellsRange (column_of k) r c.args.field.now) c.in-Counts.is s)).1)

pub returns-in_err-read_number-in-Of : goal.returns-in_err-read_number-in-Of
returns-in_err-read_number-in-Of c = rw c.from_residual-in_err-read_number-in-Of.ensures (λ r s.
    c.in_err-read_number-in-Of.ensures.number r.first s.first (first_part (column_of c.args.column) r c.args.field.now _ _ c.in_ok-first.ensures s))

pub returns-in_err-read_number-in-Of-2 : goal.returns-in_err-read_number-in-Of-2
returns-in_err-read_number-in-Of-2 c = rw c.from_residual-in_err-read_number-in-Of-2.ensures (λ r s.
    c.in_err-read_number-in-Of-2.ensures.number r.last s.last (last_mark _ r c.args.field.now _ _ c.in_ok-first.ensures
    (subst (λ (k : Column). SpellsRange (column_of k) r c.args.field.now) c.in-Of.is s)))
