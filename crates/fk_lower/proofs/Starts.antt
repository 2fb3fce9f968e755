-- Where code begins.
use Rattle.std.proofs.Common.{◌≡◌, ℕ, ◌+◌, true, false, Some, ap, ◌∙◌, refl, arith}
use Rattle.fk_meaning_forms.specs.Code.{Code, done, perform, choose, while, until, turn, again, quit, break, continue, call, ends}
use Rattle.fk_core.specs.CodeAt.{Around}
use Rattle.fk_core_flat.specs.Flat.{extent, label}
use Rattle.fk_lower.specs.declared.span.Start.{Start}
use Rattle.fk_lower.specs.declared.span.Start.TheVariants.{At, Next, Behind, Onward}
use Rattle.fk_lower.specs.Spans.{place, moved, round, start_of}

moved_at : (s : Start) (c : Around) (by i k : ℕ) → place (moved by s) c i k ≡ place s c (i + by) k
moved_at (At offset) c by i k = omega arith
moved_at Next c by i k = refl
moved_at Behind c by i k = refl
moved_at Onward c by i k = refl

rounds : (s rest : Start) (c : Around) (i k b e behind : ℕ) → place rest c (i + b + e) k ≡ behind
    → place (round s b (b + e) rest) c i k ≡ place s (Some (record { behind = behind; onward = i + b })) i (i + b)
rounds (At offset) rest c i k b e behind h = refl
rounds Next rest c i k b e behind h = refl
rounds Onward rest c i k b e behind h = refl
rounds Behind rest c i k b e behind h =
    let n : i + (b + e) ≡ i + b + e = omega arith in
    moved_at rest c (b + e) i k ∙ ap (λ n. place rest c n k) n ∙ h

pub starts : (code : Code ℕ) (c : Around) (i k : ℕ) → place (start_of code) c i k ≡ label c i k code
starts done c i k = refl
starts (until body test rest) c i k =
    let t = i + extent true body in
    let behind = label c (t + extent false test) k rest in
    rounds (start_of body) (start_of rest) c i k (extent true body) (extent false test) behind (starts rest c (t + extent false test) k)
    ∙ starts body (Some (record { behind = behind; onward = t })) i t
starts (break rest) c i k = refl
starts (continue rest) c i k = refl
starts (perform n op rest) c i k = omega arith
starts (choose n op x y rest) c i k = omega arith
starts (while t b s rest) c i k = omega arith
starts (turn t b s rest) c i k = omega arith
starts (again t b s rest) c i k = omega arith
starts (quit n op rest) c i k = omega arith
starts (call n op f opening rest) c i k = omega arith
starts (ends n op rest) c i k = omega arith
