-- Lines that are not written, and lines of more cycles.
use Rattle.std.proofs.Common.{◌≡◌, ℕ, zero, suc, ◌+◌, List, [], ◌∷◌, ◌++◌, Some, None, Bool, true, false, not, length, refl, sym, ap, ◌∙◌, arith, append_assoc, append-nil}
use Rattle.std.specs.Prelude.{◌==◌}
use Rattle.std.proofs.lemmas.Bool.{ne_eqb}
use Rattle.fk_image.specs.declared.event.Event.{Event}
use Rattle.fk_image.specs.declared.event.Event.TheVariants.{Split, Shrink, End, Resume, Meet, Agree}
use Rattle.fk_trace.specs.declared.column.Column.TheVariants.{Counts, Of}
use Rattle.fk_image.specs.Events.{event_number}
use Rattle.fk_trace.specs.Text.{Commit, Commits, event_of, number_in, shows, occurs, line_if, event_lines, all_events, cycle_lines, lines_from}
use Rattle.fk_trace.specs.Ranges.{has_event}

-- a hart without an event has none of them
not_zero : (event : Event) (n : ℕ) → not (n == 0) ≡ false → (n == event_number event) ≡ false
not_zero Split zero none = refl
not_zero Shrink zero none = refl
not_zero End zero none = refl
not_zero Resume zero none = refl
not_zero Meet zero none = refl
not_zero Agree zero none = refl
not_zero event (suc n) none =
    let other : (suc n == 0) ≡ false = ne_eqb (suc n) 0 (λ e. omega (arith, e)) in
    let bad : true ≡ false = sym (ap not other) ∙ none in
    cc

shown_no : (event : Event) (commit : Commit) → not (event_of commit == 0) ≡ false → shows (Of event) (number_in (Of event) commit) ≡ false
shown_no event None none = not_zero event 0 refl
shown_no event (Some commit) none = not_zero event commit.1 none

no_event : (event : Event) (commits : Commits) → has_event commits ≡ false → occurs (Of event) commits ≡ false
no_event event [] none = refl
no_event event (c ∷ cs) none = by (not (event_of c == 0)) refl (no_event event cs)
  where
    by : (b : Bool) → not (event_of c == 0) ≡ b → (has_event cs ≡ false → occurs (Of event) cs ≡ false) → occurs (Of event) (c ∷ cs) ≡ false
    by true e rest = let bad : true ≡ false = rw e at none in cc
    by false e rest = rw (shown_no event c e) (rest (rw e at none))

no_lines : (cycle : ℕ) (commits : Commits) (events : List Event) → has_event commits ≡ false → event_lines cycle commits events ≡ []
no_lines cycle commits [] none = refl
no_lines cycle commits (event ∷ events) none = rw (no_event event commits none) (no_lines cycle commits events none)

-- where no hart has an event, the line of the counts is all
pub only_counts : (cycle : ℕ) (commits : Commits) → has_event commits ≡ false → line_if Counts cycle commits ≡ cycle_lines cycle commits
only_counts cycle commits none =
    sym (ap (λ l. line_if Counts cycle commits ++ l) (no_lines cycle commits all_events none) ∙ append-nil (line_if Counts cycle commits))

-- one more cycle
pub lines_from-next : (cycle : ℕ) (cycles : List Commits) (last : Commits) → lines_from cycle (cycles ++ last ∷ []) ≡ lines_from cycle cycles ++ cycle_lines (cycle + length cycles) last
lines_from-next cycle [] last =
    let here : cycle ≡ cycle + zero = omega arith in
    append-nil (cycle_lines cycle last) ∙ ap (λ n. cycle_lines n last) here
lines_from-next cycle (c ∷ cs) last =
    let here : suc cycle + length cs ≡ cycle + suc (length cs) = omega arith in
    ap (λ l. cycle_lines cycle c ++ l) (lines_from-next (suc cycle) cs last)
    ∙ ap (λ n. cycle_lines cycle c ++ (lines_from (suc cycle) cs ++ cycle_lines n last)) here
    ∙ sym (append_assoc (cycle_lines cycle c) (lines_from (suc cycle) cs) (cycle_lines (cycle + suc (length cs)) last))
