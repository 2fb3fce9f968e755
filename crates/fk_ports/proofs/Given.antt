-- What a sink took of a piece so far.
use Rattle.std.proofs.Common.{◌≡◌, ℕ, ◌-◌, ◌<◌, List, [], ◌∷◌, ◌++◌, Option, Some, None, length, take, drop, arith, refl, sym, ap, ◌∙◌, append_assoc, append-nil, take-append-drop, length-append, length-drop}
use Rattle.std.proofs.lemmas.List.{take_all}
use Rattle.std.specs.Io.KnownBytes.{append_known}
use Rattle.fk_ports.specs.Known.{TakesPrefix, IsGiven}

pub append_known-nil : (known : Option (List ℕ)) → append_known known [] ≡ known
append_known-nil None = refl
append_known-nil (Some bytes) = ap Some (append-nil bytes)

pub append_known-append : (known : Option (List ℕ)) (xs ys : List ℕ) → append_known (append_known known xs) ys ≡ append_known known (xs ++ ys)
append_known-append None xs ys = refl
append_known-append (Some bytes) xs ys = ap Some (append_assoc bytes xs ys)

pub none_given : (piece : List ℕ) (before : Option (List ℕ)) → IsGiven piece piece before before
none_given piece before = record { front = []; whole = refl; taken = sym (append_known-nil before) }

-- `&rest[n..]`
tail-is : (rest : List ℕ) (n : ℕ) → take (length rest - n) (drop n rest) ≡ drop n rest
tail-is rest n = take_all (length rest - n) (drop n rest) (omega (arith, length-drop n rest))

pub more_given : (piece rest : List ℕ) (before now later : Option (List ℕ)) (n : ℕ) → IsGiven piece rest before now → later ≡ append_known now (take n rest)
    → IsGiven piece (take (length rest - n) (drop n rest)) before later
more_given piece rest before now later n given step = record {
  front = given.front ++ take n rest;
  whole = given.whole ∙ ap (λ l. given.front ++ l) (sym (take-append-drop n rest) ∙ ap (λ l. take n rest ++ l) (sym (tail-is rest n)))
      ∙ sym (append_assoc given.front (take n rest) (take (length rest - n) (drop n rest)));
  taken = step ∙ ap (λ k. append_known k (take n rest)) given.taken ∙ append_known-append before given.front (take n rest);
}

no_rest : (xs : List ℕ) → length xs ≡ 0 → xs ≡ []
no_rest [] e = refl
no_rest (x ∷ xs) e = absurd (omega arith)

pub all_given : (piece rest : List ℕ) (before now : Option (List ℕ)) → length rest ≡ 0 → IsGiven piece rest before now → now ≡ append_known before piece
all_given piece rest before now e given =
    given.taken ∙ ap (append_known before) (sym (given.whole ∙ ap (λ l. given.front ++ l) (no_rest rest e) ∙ append-nil given.front))

pub part_given : (piece rest : List ℕ) (before now : Option (List ℕ)) → IsGiven piece rest before now → TakesPrefix before now piece
part_given piece rest before now given = record { front = given.front; rest = rest; parts = given.whole; taken = given.taken }

pub no_piece : (piece rest : List ℕ) (before now : Option (List ℕ)) {P : Type 0} → 0 < length rest → IsGiven piece rest before now → piece ≡ [] → P
no_piece piece rest before now h given e = absurd (omega (arith, ap length (sym given.whole ∙ e), length-append given.front rest))

-- What a caller that gives one piece after another makes of its calls.
pub TakesPrefix-none : (known : Option (List ℕ)) (bytes : List ℕ) → TakesPrefix known known bytes
TakesPrefix-none known bytes = record { front = []; rest = bytes; parts = refl; taken = sym (append_known-nil known) }

pub TakesPrefix-all : (before now : Option (List ℕ)) (bytes : List ℕ) → now ≡ append_known before bytes → TakesPrefix before now bytes
TakesPrefix-all before now bytes e = record { front = bytes; rest = []; parts = sym (append-nil bytes); taken = e }

-- what is a prefix of some bytes is one of them with more behind
pub TakesPrefix-longer : (before now : Option (List ℕ)) (bytes more : List ℕ) → TakesPrefix before now bytes → TakesPrefix before now (bytes ++ more)
TakesPrefix-longer before now bytes more took = record {
  front = took.front;
  rest = took.rest ++ more;
  parts = ap (λ l. l ++ more) took.parts ∙ append_assoc took.front took.rest more;
  taken = took.taken;
}

-- after all of the first bytes, a prefix of those behind them
pub TakesPrefix-after : (before between now : Option (List ℕ)) (bytes more : List ℕ) → between ≡ append_known before bytes → TakesPrefix between now more → TakesPrefix before now (bytes ++ more)
TakesPrefix-after before between now bytes more all took = record {
  front = bytes ++ took.front;
  rest = took.rest;
  parts = ap (λ l. bytes ++ l) took.parts ∙ sym (append_assoc bytes took.front took.rest);
  taken = took.taken ∙ ap (λ k. append_known k took.front) all ∙ append_known-append before bytes took.front;
}

-- one more piece of the bytes was given, or a part of it
pub piece_given : (bytes piece rest : List ℕ) (before now later : Option (List ℕ)) → IsGiven bytes (piece ++ rest) before now → later ≡ append_known now piece → IsGiven bytes rest before later
piece_given bytes piece rest before now later given step = record {
  front = given.front ++ piece;
  whole = given.whole ∙ sym (append_assoc given.front piece rest);
  taken = step ∙ ap (λ known. append_known known piece) given.taken ∙ append_known-append before given.front piece;
}

pub part_of_given : (bytes piece rest : List ℕ) (before now later : Option (List ℕ)) → IsGiven bytes (piece ++ rest) before now → TakesPrefix now later piece → TakesPrefix before later bytes
part_of_given bytes piece rest before now later given part = record {
  front = given.front ++ part.front;
  rest = part.rest ++ rest;
  parts = given.whole
      ∙ ap (λ l. given.front ++ (l ++ rest)) part.parts
      ∙ ap (λ l. given.front ++ l) (append_assoc part.front part.rest rest)
      ∙ sym (append_assoc given.front part.front (part.rest ++ rest));
  taken = part.taken ∙ ap (λ known. append_known known part.front) given.taken ∙ append_known-append before given.front part.front;
}
