-- The first line that is too far.
use Rattle.std.proofs.Common.{◌≡◌, ℕ, ◌<◌, ℤ, List, Option, IfSome, length, get_or, slice_get}
use Rattle.std.proofs.lemmas.Option.{slice_get-get_or}
use Rattle.fk_asm.specs.declared.line.Line.{Line}
use Rattle.fk_asm.specs.Assembly.{IsTooFar, AreNearBelow, IsFirstTooFar}

pub IfSome-slice_get : (P : Line → Type 0) (lines : List Line) (k : ℕ) (x : Line) → k < length lines → P (get_or lines k x) → IfSome (slice_get lines k) P
IfSome-slice_get P lines k x h p = rw (slice_get-get_or lines k x h) p

pub IsFirstTooFar-here : (bound : List (Option ℕ)) (lines : List Line) (k : ℕ) (x : Line) (d e : ℤ)
    → k < length lines → e ≡ d → IsTooFar bound k (get_or lines k x) d → AreNearBelow bound lines k → IsFirstTooFar bound lines k e
IsFirstTooFar-here bound lines k x d e h same far first =
    record { far = rw (slice_get-get_or lines k x h, same) far; first = first }
