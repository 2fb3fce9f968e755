-- What was taken of a source so far.
use Rattle.std.proofs.Common.{◌≡◌, ℕ, ◌+◌, ◌≤◌, List, [], ◌++◌, Option, Some, None, IfSome, length, take, arith, refl, sym, ap, subst, ◌∙◌, append_assoc, append-nil, length-append}
use Rattle.std.specs.Prelude.{◌↔◌}
use Rattle.std.proofs.Math.Seq.{take-append_seam}
use Rattle.std.proofs.lemmas.List.{take_all}
use Rattle.std.specs.Io.KnownBytes.{prepend_known}
use Rattle.fk_ports.specs.Known.{GivesAtMost, MovesFirst}

pub prepend_known-nil : (known : Option (List ℕ)) → prepend_known [] known ≡ known
prepend_known-nil None = refl
prepend_known-nil (Some bytes) = refl

pub prepend_known-append : (xs ys : List ℕ) (known : Option (List ℕ)) → prepend_known xs (prepend_known ys known) ≡ prepend_known (xs ++ ys) known
prepend_known-append xs ys None = refl
prepend_known-append xs ys (Some bytes) = ap Some (sym (append_assoc xs ys bytes))

-- of a source that had `before` left, these bytes were moved behind the old ones, and some are still missing
pub record HasMoved (most missing : ℕ) (before now : Option (List ℕ)) (old new : List ℕ) : Type 0 where
  pub bytes : List ℕ
  pub count : length bytes + missing ≡ most
  pub appended : new ≡ old ++ bytes
  pub left : before ≡ prepend_known bytes now

pub none_moved : (most : ℕ) (before : Option (List ℕ)) (old : List ℕ) → HasMoved most most before before old old
none_moved most before old = record { bytes = []; count = omega arith; appended = sym (append-nil old); left = sym (prepend_known-nil before) }

pub more_moved : (most missing still : ℕ) (before between now : Option (List ℕ)) (old mid new piece : List ℕ) → HasMoved most missing before between old mid
    → between ≡ prepend_known piece now → new ≡ mid ++ piece → length piece + still ≡ missing → HasMoved most still before now old new
more_moved most missing still before between now old mid new piece moved step e count = record {
  bytes = moved.bytes ++ piece;
  count = omega (arith, moved.count, length-append moved.bytes piece);
  appended = e ∙ ap (λ l. l ++ piece) moved.appended ∙ append_assoc old moved.bytes piece;
  left = moved.left ∙ ap (prepend_known moved.bytes) step ∙ prepend_known-append moved.bytes piece now;
}

pub some_moved : (most missing : ℕ) (before now : Option (List ℕ)) (old new : List ℕ) → HasMoved most missing before now old new → GivesAtMost most before now
some_moved most missing before now old new moved = record { given = moved.bytes; few = omega (arith, moved.count); left = moved.left }

pub front_kept : (most missing : ℕ) (before now : Option (List ℕ)) (old new : List ℕ) → HasMoved most missing before now old new → take (length old) new ≡ old
front_kept most missing before now old new moved = ap (take (length old)) moved.appended ∙ take-append_seam old moved.bytes

enough : (most : ℕ) (bytes : List ℕ) (known : Option (List ℕ)) → length bytes ≡ most → IfSome (prepend_known bytes known) (λ left. bytes ≡ take most left)
enough most bytes None e = tt
enough most bytes (Some rest) e = sym (take-append_seam bytes rest) ∙ ap (λ n. take n (bytes ++ rest)) e

-- as many as were asked for
pub enough_moved : (most missing : ℕ) (before now : Option (List ℕ)) (old new : List ℕ) → HasMoved most missing before now old new → missing ≡ 0 → MovesFirst most before now old new
enough_moved most missing before now old new moved e = record {
  bytes = moved.bytes;
  few = omega (arith, moved.count);
  appended = moved.appended;
  left = moved.left;
  first = subst (λ known. IfSome known (λ left. moved.bytes ≡ take most left)) (sym moved.left) (enough most moved.bytes now (omega (arith, moved.count)));
}

at_end : (most : ℕ) (bytes : List ℕ) (known : Option (List ℕ)) → length bytes ≤ most → IfSome known (λ left. left ≡ []) → IfSome (prepend_known bytes known) (λ left. bytes ≡ take most left)
at_end most bytes None few end = tt
at_end most bytes (Some rest) few end =
    sym (take_all most bytes few) ∙ ap (take most) (sym (append-nil bytes) ∙ ap (λ l. bytes ++ l) (sym end))

-- all that was left
pub end_moved : (most missing : ℕ) (before now : Option (List ℕ)) (old new : List ℕ) → HasMoved most missing before now old new → IfSome now (λ left. left ≡ []) → MovesFirst most before now old new
end_moved most missing before now old new moved end = record {
  bytes = moved.bytes;
  few = omega (arith, moved.count);
  appended = moved.appended;
  left = moved.left;
  first = subst (λ known. IfSome known (λ left. moved.bytes ≡ take most left)) (sym moved.left) (at_end most moved.bytes now (omega (arith, moved.count)) end);
}

emptied : (n : ℕ) (known : Option (List ℕ)) → IfSome known (λ bytes. (n ≡ 0) ↔ (bytes ≡ [])) → n ≡ 0 → IfSome known (λ left. left ≡ [])
emptied n None end e = tt
emptied n (Some bytes) end e = end.0 e

-- a call that gave nothing found the end
pub ended : (most missing n : ℕ) (before between now : Option (List ℕ)) (old new piece : List ℕ) → HasMoved most missing before between old new
    → between ≡ prepend_known (take n piece) now → IfSome between (λ bytes. (n ≡ 0) ↔ (bytes ≡ [])) → n ≡ 0 → MovesFirst most before now old new
ended most missing n before between now old new piece moved step end e =
    let same : between ≡ now = step ∙ ap (λ k. prepend_known (take k piece) now) e ∙ prepend_known-nil now in
    subst (λ known. MovesFirst most before known old new) same (end_moved most missing before between old new moved (emptied n between end e))
