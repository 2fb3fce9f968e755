-- Languages with the same stretches, and readers with the same answers.
use Rattle.std.proofs.Common.{◌≡◌, ℕ, List, ◌∷◌, Bool, true, false, Ok, refl, subst}
use mathlib.Core.Path.{fun_ext}
use Rattle.fk_parse_combinators.specs.Languages.{Placed, Language}
use Rattle.fk_parse_combinators.specs.Readers.{Reader, after, ◌and◌, either}
use Rattle.fk_parse_combinators.proofs.Sets.{Kinds}
use Rattle.fk_parse_combinators.proofs.Exact.{Starts, Example, Shape}
use Rattle.fk_parse_combinators.proofs.Or.{Includes, exact_same}
use Rattle.fk_parse_combinators.proofs.Productions.{IsRead}

-- languages with the same stretches begin alike
pub shape_same : {room : Type 0} {A : Type 0} {L : Language A} (M : Language A) {level : ℕ} {first : Kinds} → Includes L M → Includes M L
    → Shape L level first room → Shape M level first room
shape_same {L} M {level} includes included w = record {
  fronts = λ s a m. w.fronts s a (included s a m);
  starts = λ r t h. let v : Starts L level t = w.starts r t h in
      record { at = v.at; deep = v.deep; others = v.others; value = v.value; spelled = includes (record { token = t; level = v.at } ∷ v.others) v.value v.spelled };
  example = λ r. let x : Example L = w.example r in record { stretch = x.stretch; value = x.value; spelled = includes x.stretch x.value x.spelled };
}

-- the same stretches
pub reads_same : {levels : ℕ} {room : Type 0} {A : Type 0} {L : Language A} (M : Language A) {P : Reader A} {level : ℕ} {first f : Kinds} → Includes L M → Includes M L
    → IsRead levels L P level first f room → IsRead levels M P level first f room
reads_same M includes included w = record { shape = shape_same M includes included w.shape; exact = exact_same M includes included w.exact }

-- one reader may stand for another with the same answers
pub reads_like : {levels : ℕ} {room : Type 0} {A : Type 0} {L : Language A} {P : Reader A} (Q : Reader A) {level : ℕ} {first f : Kinds}
    → ((ts : List Placed) → P ts ≡ Q ts) → IsRead levels L P level first f room → IsRead levels L Q level first f room
reads_like {levels} {room} {L = L} Q {level} {first} {f} e w = subst (λ R. IsRead levels L R level first f room) (fun_ext e) w

-- what is read behind one reader or another is read behind either
pub either_and : {A B : Type 0} (b : Bool) (P Q : Reader A) (R : Reader B) (ts : List Placed)
    → either b (P and R) (Q and R) ts ≡ after {B = A × B} (either b P Q ts) (λ a rest. after (R rest) (λ v others. Ok ((a, v), others)))
either_and true P Q R ts = refl
either_and false P Q R ts = refl
