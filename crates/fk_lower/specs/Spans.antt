-- What is known of code before its place is known: whether it begins where it is written, how long
-- its list is, and where it begins.
use Rattle.std.specs.Prelude.{ℕ, ◌+◌, ◌≤◌, Bool, true, false, if◌then◌else◌}
use Rattle.fk_meaning_forms.specs.Code.{Code, done, until, break, continue}
use Rattle.fk_core.specs.CodeAt.{Around}
use Rattle.fk_core_flat.specs.Flat.{begins_here, extent, behind, onward}
use Rattle.fk_lower.specs.declared.span.Start.{Start}
use Rattle.fk_lower.specs.declared.span.Start.TheVariants as s
use Rattle.fk_lower.specs.declared.span.Span.{Span}
use Rattle.fk_lower.specs.declared.span.Spans.{Spans}

-- The index where code begins that is written at index i and goes on at index k.
abbrev pub place : Start → Around → (i k : ℕ) → ℕ
place (s.At offset) c i k = i + offset
place s.Next c i k = k
place s.Behind c i k = behind c
place s.Onward c i k = onward c

-- The beginning of code that is further on.
abbrev pub moved : (by : ℕ) → Start → Start
moved by (s.At offset) = s.At (by + offset)
moved by s.Next = s.Next
moved by s.Behind = s.Behind
moved by s.Onward = s.Onward

-- The beginning of a loop, given the beginning and the extent of its body. If the body leaves the
-- loop at once, it is the beginning of the rest.
abbrev pub round : Start → (body whole : ℕ) → (rest : Start) → Start
round (s.At offset) body whole rest = s.At offset
round s.Next body whole rest = s.At body
round s.Onward body whole rest = s.At body
round s.Behind body whole rest = moved whole rest

abbrev pub start_of : Code ℕ → Start
start_of done = s.Next
start_of (until body test rest) =
    round (start_of body) (extent true body) (extent true body + extent false test) (start_of rest)
start_of (break rest) = s.Behind
start_of (continue rest) = s.Onward
start_of code = s.At 0

abbrev pub span_of : (near : Bool) → Code ℕ → Span
span_of near code =
    record { here = begins_here near code; extent = extent near code; start = start_of code }

abbrev pub spans_of : Code ℕ → Spans
spans_of code = record { far = span_of false code; near = span_of true code }

abbrev pub span_in : Spans → (near : Bool) → Span
span_in spans near = if near then spans.near else spans.far

-- The distance of the beginning of code from the index where it is written, if it begins in its own
-- list.
abbrev pub offset : Start → ℕ
offset (s.At n) = n
offset start = 0

-- Code begins in its list, or directly after it.
abbrev pub StartsWithin : Span → Type 0
StartsWithin span = offset span.start ≤ span.extent
