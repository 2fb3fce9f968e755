-- Pieces that are given one after the other, where each has its bytes.
use Rattle.std.proofs.Common.{◌≡◌, ℕ, zero, suc, ◌+◌, ◌<◌, List, [], ◌∷◌, ◌++◌, Option, Result, Ok, Err, flat_map, get_or, take, drop, length, refl, sym, ap, subst, ◌∙◌, append_assoc, append-nil, take-append-drop, drop-cons, arith}
use Rattle.std.specs.Prelude.{OnErr, OnOk}
use Rattle.std.specs.Io.KnownBytes.{append_known}
use Rattle.std.proofs.lemmas.List.{take_more}
use Rattle.std.proofs.lemmas.List.Concat.{flat_map-append}
use Rattle.fk_ports.specs.Known.{TakesPrefix}
use Rattle.fk_ports.proofs.Given.{append_known-append}

joined_more : {X : Type 0} (f : X → List ℕ) (pieces : List X) (k : ℕ) (piece : X) → k < length pieces → piece ≡ get_or pieces k piece → flat_map f (take (k + 1) pieces) ≡ flat_map f (take k pieces) ++ f piece
joined_more f pieces k piece lt is =
    ap (flat_map f) (take_more pieces k piece lt)
    ∙ flat_map-append f (take k pieces) (get_or pieces k piece ∷ [])
    ∙ ap (λ tail. flat_map f (take k pieces) ++ tail) (append-nil (f (get_or pieces k piece)))
    ∙ ap (λ p. flat_map f (take k pieces) ++ f p) (sym is)

-- the first pieces were given, and then one more
pub one_given : {X : Type 0} (f : X → List ℕ) (before middle now : Option (List ℕ)) (pieces : List X) (k : ℕ) (piece : X) → k < length pieces → piece ≡ get_or pieces k piece
    → middle ≡ append_known before (flat_map f (take k pieces)) → now ≡ append_known middle (f piece) → now ≡ append_known before (flat_map f (take (k + 1) pieces))
one_given f before middle now pieces k piece lt is so_far step =
    step ∙ ap (λ known. append_known known (f piece)) so_far ∙ append_known-append before (flat_map f (take k pieces)) (f piece)
    ∙ ap (append_known before) (sym (joined_more f pieces k piece lt is))

-- all pieces are the first ones, one more, and the others
joined_split : {X : Type 0} (f : X → List ℕ) (pieces : List X) (k : ℕ) (piece : X) → k < length pieces → piece ≡ get_or pieces k piece
    → flat_map f pieces ≡ flat_map f (take k pieces) ++ (f piece ++ flat_map f (drop (suc k) pieces))
joined_split f pieces k piece lt is =
    ap (flat_map f) (sym (take-append-drop k pieces))
    ∙ flat_map-append f (take k pieces) (drop k pieces)
    ∙ ap (λ rest. flat_map f (take k pieces) ++ flat_map f rest) (drop-cons pieces k piece lt)
    ∙ ap (λ p. flat_map f (take k pieces) ++ (f p ++ flat_map f (drop (suc k) pieces))) (sym is)

-- the first pieces were given, and a part of one more
pub part_given : {X : Type 0} (f : X → List ℕ) (before middle now : Option (List ℕ)) (pieces : List X) (k : ℕ) (piece : X) → k < length pieces → piece ≡ get_or pieces k piece
    → middle ≡ append_known before (flat_map f (take k pieces)) → TakesPrefix middle now (f piece) → TakesPrefix before now (flat_map f pieces)
part_given f before middle now pieces k piece lt is so_far part = record {
  front = flat_map f (take k pieces) ++ part.front;
  rest = part.rest ++ flat_map f (drop (suc k) pieces);
  parts =
      joined_split f pieces k piece lt is
      ∙ ap (λ bytes. flat_map f (take k pieces) ++ (bytes ++ flat_map f (drop (suc k) pieces))) part.parts
      ∙ ap (λ bytes. flat_map f (take k pieces) ++ bytes) (append_assoc part.front part.rest (flat_map f (drop (suc k) pieces)))
      ∙ sym (append_assoc (flat_map f (take k pieces)) part.front (part.rest ++ flat_map f (drop (suc k) pieces)));
  taken = part.taken ∙ ap (λ known. append_known known part.front) so_far ∙ append_known-append before (flat_map f (take k pieces)) part.front;
}

-- what holds anyway holds after an error
pub on_err : {A E : Type 0} (r : Result A E) (P : Type 0) → P → OnErr r P
on_err (Ok a) P p = tt
on_err (Err e) P p = p

-- within a list it is no matter what stands behind it
pub same_within : {X : Type 0} (xs : List X) (i : ℕ) (d e : X) → i < length xs → get_or xs i d ≡ get_or xs i e
same_within [] i d e lt = absurd (omega arith)
same_within (x ∷ xs) zero d e lt = refl
same_within (x ∷ xs) (suc i) d e lt = same_within xs i d e (omega arith)

-- a part of some bytes is one of the same bytes
pub part_of_same : (before now : Option (List ℕ)) (bytes other : List ℕ) → bytes ≡ other → TakesPrefix before now bytes → TakesPrefix before now other
part_of_same before now bytes other same took = subst (TakesPrefix before now) same took

-- what was given is also the same bytes by another name
pub told : {A E : Type 0} (r : Result A E) (before now : Option (List ℕ)) (bytes other : List ℕ) → bytes ≡ other → OnOk r (now ≡ append_known before bytes) → OnOk r (now ≡ append_known before other)
told r before now bytes other same taken = subst (λ (b : List ℕ). OnOk r (now ≡ append_known before b)) same taken

-- one holds after an error, and so does what follows from it
pub err_then : {A E : Type 0} (r : Result A E) (P Q : Type 0) → (P → Q) → OnErr r P → OnErr r Q
err_then (Ok a) P Q step p = tt
err_then (Err e) P Q step p = step p

pub ok_then : {A E : Type 0} (r : Result A E) (P Q : Type 0) → (P → Q) → OnOk r P → OnOk r Q
ok_then (Ok a) P Q step p = step p
ok_then (Err e) P Q step p = tt
