-- Texts in quotes, part by part.
use Rattle.std.proofs.Common.{◌≡◌, ℕ, zero, suc, ◌+◌, ◌<◌, ◌≤◌, ◌==◌, ◌&&◌, ◌⊎◌, inl, inr, ⊎_elim, Bool, true, false, Option, Some, None, List, [], ◌∷◌, ◌++◌, length, drop, get_or, refl, sym, ap, subst, ◌∙◌, arith, if◌then◌else◌, append_assoc, append-nil, length-append, drop-cons, add-zero}
use Rattle.std.specs.Prelude.{IfSome, IfNone}
use Rattle.std.specs.Option.{option_or}
use Rattle.std.proofs.lemmas.Bool.{cases_lt, both_ways}
use Rattle.std.proofs.lemmas.Bool.Decides.{nat_tests}
use Rattle.std.proofs.lemmas.List.{get_or_past, get_or-drop, drop_all}
use Rattle.fk_lex.specs.declared.step.Beginning.TheVariants as begins
use Rattle.fk_lex.specs.declared.step.Step.{Step}
use Rattle.fk_lex.specs.declared.step.Step.TheVariants.{Token, Fault}
use Rattle.fk_lex.specs.declared.step.FaultKind.TheVariants.{BadByte, OpenString}
use Rattle.fk_lex.specs.declared.token.TokenKind.TheVariants.{Text}
use Rattle.fk_lex.specs.Bytes.{is_blank, is_plain}
use Rattle.fk_lex.specs.Moves.{part_size}
use Rattle.fk_lex.specs.Positions.{EndsLine}
use Rattle.fk_lex.specs.Steps.{beginning}
use Rattle.fk_lex.specs.Texts.{Part, Plain, Escape, Bad, part_bytes, bytes_of, is_escaped, go_on_escaped, IsBad, IsPart, AreParts, AreGood, FirstBad, ClosedStep, TextStep}
use Rattle.fk_lex.proofs.Tests.{same_byte, other_byte}

-- lists of parts

pub bytes-append : (ps qs : List Part) → bytes_of (ps ++ qs) ≡ bytes_of ps ++ bytes_of qs
bytes-append [] qs = refl
bytes-append (p ∷ ps) qs = ap (λ l. part_bytes p ++ l) (bytes-append ps qs) ∙ sym (append_assoc (part_bytes p) (bytes_of ps) (bytes_of qs))

bytes_more : (ps : List Part) (p : Part) (behind : List ℕ) → bytes_of (ps ++ p ∷ []) ++ behind ≡ bytes_of ps ++ (part_bytes p ++ behind)
bytes_more ps p behind =
    ap (λ l. l ++ behind) (bytes-append ps (p ∷ []) ∙ ap (λ l. bytes_of ps ++ l) (append-nil (part_bytes p)))
    ∙ append_assoc (bytes_of ps) (part_bytes p) behind

good_tail : (p : Part) (ps : List Part) → AreGood (p ∷ ps) → AreGood ps
good_tail (Plain c) ps good = good
good_tail (Escape c) ps good = good
good_tail (Bad c) ps good = absurd good

bad_not_good : (good : List Part) (c : ℕ) (more : List Part) → AreGood (good ++ Bad c ∷ more) → ⊥
bad_not_good [] c more all = all
bad_not_good (p ∷ good) c more all = bad_not_good good c more (good_tail p (good ++ Bad c ∷ more) all)

first_once : (good other : List Part) (c d : ℕ) (more less : List Part) → AreGood good → AreGood other → good ++ Bad c ∷ more ≡ other ++ Bad d ∷ less → good ≡ other
first_once [] [] c d more less a b same = refl
first_once [] (q ∷ other) c d more less a b same = absurd (let head : q ≡ Bad c = cc in subst (λ q. AreGood (q ∷ other)) head b)
first_once (p ∷ good) [] c d more less a b same = absurd (let head : p ≡ Bad d = cc in subst (λ p. AreGood (p ∷ good)) head a)
first_once (p ∷ good) (q ∷ other) c d more less a b same =
    let head : p ≡ q = cc in
    let tail : good ++ Bad c ∷ more ≡ other ++ Bad d ∷ less = cc in
    ap (λ l. p ∷ l) (first_once good other c d more less (good_tail p good a) (good_tail q other b) tail) ∙ ap (λ p. p ∷ other) head

good_or_bad : (parts : List Part) → AreGood parts ⊎ ((good : List Part) × FirstBad parts good)
good_or_bad [] = inl tt
good_or_bad (Bad c ∷ parts) = inr ([], (c, parts, tt, refl))
good_or_bad (Plain c ∷ parts) =
    ⊎_elim (λ good. inl good) (λ bad. let first = bad.1 in inr (Plain c ∷ bad.0, (first.0, first.1, first.2, ap (λ l. Plain c ∷ l) first.3))) (good_or_bad parts)
good_or_bad (Escape c ∷ parts) =
    ⊎_elim (λ good. inl good) (λ bad. let first = bad.1 in inr (Escape c ∷ bad.0, (first.0, first.1, first.2, ap (λ l. Escape c ∷ l) first.3))) (good_or_bad parts)

-- the part that bytes begin with

abbrev part_by : Bool → Bool → Bool → Bool → Bool → ℕ → ℕ → Option Part
part_by quote newline backslash escaped plain c d =
    if quote then None
    else (if newline then None
    else (if backslash && escaped then Some (Escape d)
    else (if plain then Some (Plain c) else Some (Bad c))))

abbrev head_part : List ℕ → Option Part
head_part [] = None
head_part (c ∷ cs) = part_by (c == 34) (c == 10) (c == 92) (go_on_escaped cs) (is_plain 34 c) c (get_or cs 0 0)

part_by_is : (q n b e p q' n' b' p' : Bool) (c d : ℕ) → q ≡ q' → n ≡ n' → b ≡ b' → p ≡ p' → part_by q n b e p c d ≡ part_by q' n' b' e p' c d
part_by_is q n b e p q' n' b' p' c d quote newline backslash plain =
    ap (λ q. part_by q n b e p c d) quote ∙ ap (λ n. part_by q' n b e p c d) newline ∙ ap (λ b. part_by q' n' b e p c d) backslash ∙ ap (λ p. part_by q' n' b' e p c d) plain

plain_no : (c d : ℕ) → is_plain 34 c ≡ true → is_plain 34 d ≡ false → (c == d) ≡ false
plain_no c d plain other = by (c == d) refl
  where
    by : (b : Bool) → (c == d) ≡ b → b ≡ false
    by true same = absurd (both_ways (is_plain 34 d) other (subst (λ c. is_plain 34 c ≡ true) (same_byte c d same) plain))
    by false same = refl

plain_head : (c : ℕ) (cs : List ℕ) → is_plain 34 c ≡ true → head_part (c ∷ cs) ≡ Some (Plain c)
plain_head c cs plain =
    part_by_is (c == 34) (c == 10) (c == 92) (go_on_escaped cs) (is_plain 34 c) false false false true c (get_or cs 0 0)
    (plain_no c 34 plain refl) (plain_no c 10 plain refl) (plain_no c 92 plain refl) plain

escape_head : (d : ℕ) (cs : List ℕ) → is_escaped d ≡ true → head_part (92 ∷ d ∷ cs) ≡ Some (Escape d)
escape_head d cs escaped = ap (λ e. part_by false false true e false 92 d) escaped

no_is : (c d : ℕ) → (c ≡ d → ⊥) → (c == d) ≡ false
no_is c d other = grind (arith, nat_tests)

bad_by : (c d : ℕ) (b e : Bool) → (b ≡ true → e ≡ false) → part_by false false b e false c d ≡ Some (Bad c)
bad_by c d false e never = refl
bad_by c d true e never = ap (λ e. part_by false false true e false c d) (never refl)

bad_head : (c : ℕ) (cs : List ℕ) → IsBad c cs → head_part (c ∷ cs) ≡ Some (Bad c)
bad_head c cs bad =
    part_by_is (c == 34) (c == 10) (c == 92) (go_on_escaped cs) (is_plain 34 c) false false (c == 92) false c (get_or cs 0 0)
    (no_is c 34 bad.no_quote) (no_is c 10 bad.in_line) refl bad.not_plain
    ∙ bad_by c (get_or cs 0 0) (c == 92) (go_on_escaped cs) (λ backslash. bad.no_escape (same_byte c 92 backslash))

part_head : (p : Part) (behind : List ℕ) → IsPart p behind → head_part (part_bytes p ++ behind) ≡ Some p
part_head (Plain c) behind is = plain_head c behind is
part_head (Escape c) behind is = escape_head c behind is
part_head (Bad c) behind is = bad_head c behind is

parts_head : (p : Part) (ps : List Part) (behind : List ℕ) → AreParts (p ∷ ps) behind → head_part (bytes_of (p ∷ ps) ++ behind) ≡ Some p
parts_head p ps behind are = ap head_part (append_assoc (part_bytes p) (bytes_of ps) behind) ∙ part_head p (bytes_of ps ++ behind) are.0

line_head : (rest : List ℕ) → EndsLine rest → head_part rest ≡ None
line_head [] ends = refl
line_head (c ∷ cs) ends = ap (λ c. head_part (c ∷ cs)) ends

-- bytes have their parts in one way

none_some : {P : Type 0} (p : Part) (found : Option Part) → found ≡ None → found ≡ Some p → P
none_some p found none some = absurd cc

some_once : (p q : Part) (found : Option Part) → found ≡ Some p → found ≡ Some q → p ≡ q
some_once p q found a b = cc

same_rest : (p : Part) (xs ys : List ℕ) → part_bytes p ++ xs ≡ part_bytes p ++ ys → xs ≡ ys
same_rest (Plain c) xs ys same = cc
same_rest (Escape c) xs ys same = cc
same_rest (Bad c) xs ys same = cc

parts_once : (ps qs : List Part) (e f : List ℕ) → AreParts ps e → AreParts qs f → head_part e ≡ None → head_part f ≡ None → bytes_of ps ++ e ≡ bytes_of qs ++ f → (ps ≡ qs) × (e ≡ f)
parts_once [] [] e f a b end other same = (refl, same)
parts_once [] (q ∷ qs) e f a b end other same = none_some q (head_part e) end (ap head_part same ∙ parts_head q qs f b)
parts_once (p ∷ ps) [] e f a b end other same = none_some p (head_part f) other (ap head_part (sym same) ∙ parts_head p ps e a)
parts_once (p ∷ ps) (q ∷ qs) e f a b end other same =
    let head : p ≡ q = some_once p q (head_part (bytes_of (p ∷ ps) ++ e)) (parts_head p ps e a) (ap head_part same ∙ parts_head q qs f b) in
    let whole : part_bytes p ++ (bytes_of ps ++ e) ≡ part_bytes p ++ (bytes_of qs ++ f) =
    sym (append_assoc (part_bytes p) (bytes_of ps) e) ∙ same ∙ append_assoc (part_bytes q) (bytes_of qs) f ∙ ap (λ p. part_bytes p ++ (bytes_of qs ++ f)) (sym head) in
    let rest = parts_once ps qs e f a.1 b.1 end other (same_rest p _ _ whole) in
    (ap (λ l. p ∷ l) rest.0 ∙ ap (λ p. p ∷ qs) head, rest.1)

closed_once : (parts : List Part) (s t : Step) → ClosedStep parts s → ClosedStep parts t → s ≡ t
closed_once parts s t (inl a) (inl b) = a.1 ∙ sym b.1
closed_once parts s t (inl a) (inr b) = let first = b.1 in absurd (bad_not_good b.0 first.0 first.1 (subst AreGood first.3 a.0))
closed_once parts s t (inr a) (inl b) = let first = a.1 in absurd (bad_not_good a.0 first.0 first.1 (subst AreGood first.3 b.0))
closed_once parts s t (inr a) (inr b) =
    let one = a.1 in
    let other = b.1 in
    a.2 ∙ ap (λ good. Fault (length (bytes_of good) + 1) BadByte) (first_once a.0 b.0 one.0 other.0 one.1 other.1 one.2 other.2 (sym one.3 ∙ other.3)) ∙ sym b.2

body_same : (text xs ys : List ℕ) → text ≡ 34 ∷ xs → text ≡ 34 ∷ ys → xs ≡ ys
body_same text xs ys a b = cc

open_closed : {P : Type 0} (text : List ℕ) (ps qs : List Part) (e f : List ℕ) → text ≡ 34 ∷ (bytes_of ps ++ 34 ∷ e) → AreParts ps (34 ∷ e) → text ≡ 34 ∷ (bytes_of qs ++ f) → AreParts qs f → EndsLine f → P
open_closed text ps qs e f a is b are ends =
    let quote : EndsLine (34 ∷ e) = subst EndsLine (sym (parts_once ps qs (34 ∷ e) f is are refl (line_head f ends) (body_same text _ _ a b)).1) ends in
    absurd (omega arith)

pub text_once : (text : List ℕ) (s t : Step) → TextStep text s → TextStep text t → s ≡ t
text_once text s t (ps, e, inl a) (qs, f, inl b) =
    let same = (parts_once ps qs (34 ∷ e) (34 ∷ f) a.1 b.1 refl refl (body_same text _ _ a.0 b.0)).0 in
    closed_once qs s t (subst (λ ps. ClosedStep ps s) same a.2) b.2
text_once text s t (ps, e, inl a) (qs, f, inr b) = open_closed text ps qs e f a.0 a.1 b.0 b.1 b.2
text_once text s t (ps, e, inr a) (qs, f, inl b) = open_closed text qs ps f e b.0 b.1 a.0 a.1 a.2
text_once text s t (ps, e, inr a) (qs, f, inr b) = a.3 ∙ sym b.3

-- every text has its parts

-- bytes go on with parts up to a quote or the end of the line
abbrev Divided : List ℕ → Type 0
Divided body = (parts : List Part) × (rest : List ℕ) × (body ≡ bytes_of parts ++ rest) × AreParts parts rest × (((more : List ℕ) × (rest ≡ 34 ∷ more)) ⊎ EndsLine rest)

divided_more : (p : Part) (body : List ℕ) → IsPart p body → Divided body → Divided (part_bytes p ++ body)
divided_more p body is behind = (
  p ∷ behind.0,
  behind.1,
  ap (λ l. part_bytes p ++ l) behind.2 ∙ sym (append_assoc (part_bytes p) (bytes_of behind.0) behind.1),
  (subst (IsPart p) behind.2 is, behind.3),
  behind.4,
)

divided_by : (c : ℕ) (cs : List ℕ) (quote newline plain backslash escaped : Bool) → (c == 34) ≡ quote → (c == 10) ≡ newline → is_plain 34 c ≡ plain → (c == 92) ≡ backslash → go_on_escaped cs ≡ escaped → Divided cs → Divided (drop 1 cs) → Divided (c ∷ cs)
divided_by c cs true newline plain backslash escaped q n p b e next behind = ([], c ∷ cs, refl, tt, inl (cs, ap (λ c. c ∷ cs) (same_byte c 34 q)))
divided_by c cs false true plain backslash escaped q n p b e next behind = ([], c ∷ cs, refl, tt, inr (same_byte c 10 n))
divided_by c cs false false true backslash escaped q n p b e next behind = divided_more (Plain c) cs p next
divided_by c cs false false false false escaped q n p b e next behind =
    divided_more (Bad c) cs (record { no_quote = other_byte c 34 q; in_line = other_byte c 10 n; not_plain = p; no_escape = λ is. absurd (other_byte c 92 b is) }) next
divided_by c cs false false false true false q n p b e next behind =
    divided_more (Bad c) cs (record { no_quote = other_byte c 34 q; in_line = other_byte c 10 n; not_plain = p; no_escape = λ is. e }) next
divided_by c [] false false false true true q n p b e next behind = absurd (both_ways false refl e)
divided_by c (d ∷ ds) false false false true true q n p b e next behind =
    subst (λ c. Divided (c ∷ d ∷ ds)) (sym (same_byte c 92 b)) (divided_more (Escape d) ds e behind)

divided : (size : ℕ) (body : List ℕ) → length body ≤ size → Divided body
divided size [] small = ([], [], refl, tt, inr tt)
divided zero (c ∷ cs) small = absurd (omega arith)
divided (suc size) (c ∷ cs) small =
    divided_by c cs (c == 34) (c == 10) (is_plain 34 c) (c == 92) (go_on_escaped cs) refl refl refl refl refl
    (divided size cs (omega arith)) (divided size (drop 1 cs) (shorter size cs (omega arith)))
  where
    shorter : (size : ℕ) (cs : List ℕ) → length cs ≤ size → length (drop 1 cs) ≤ size
    shorter size [] small = small
    shorter size (c ∷ cs) small = omega arith

closed_some : (parts : List Part) → (s : Step) × ClosedStep parts s
closed_some parts =
    ⊎_elim (λ good. (Token (length (bytes_of parts) + 2) Text, inl (good, refl)))
    (λ bad. (Fault (length (bytes_of bad.0) + 1) BadByte, inr (bad.0, bad.1, refl))) (good_or_bad parts)

text_by : (body : List ℕ) → Divided body → (s : Step) × TextStep (34 ∷ body) s
text_by body (parts, rest, is, are, inl quote) =
    let closed = closed_some parts in
    (closed.0, (parts, quote.0, inl (ap (λ l. 34 ∷ l) is ∙ ap (λ rest. 34 ∷ (bytes_of parts ++ rest)) quote.1, subst (AreParts parts) quote.1 are, closed.1)))
text_by body (parts, rest, is, are, inr ends) = (Fault 0 OpenString, (parts, rest, inr (ap (λ l. 34 ∷ l) is, are, ends, refl)))

pub some_text : (body : List ℕ) → (s : Step) × TextStep (34 ∷ body) s
some_text body = text_by body (divided (length body) body (omega arith))

-- how far the code has come: the parts so far, and the first bad one of them

abbrev pub BadIn : List Part → Option ℕ → Type 0
BadIn parts None = AreGood parts
BadIn parts (Some k) = (good : List Part) × FirstBad parts good × (k ≡ length (bytes_of good))

pub record Walked (body : List ℕ) (i : ℕ) (bad : Option ℕ) : Type 0 where
  pub parts : List Part
  pub whole : body ≡ bytes_of parts ++ drop i body
  pub size : length (bytes_of parts) ≡ i
  pub are : AreParts parts (drop i body)
  pub first : BadIn parts bad

pub walked_start : (body : List ℕ) → Walked body 0 None
walked_start body = record { parts = []; whole = refl; size = refl; are = tt; first = tt }

abbrev bad_behind : Option ℕ → ℕ → Part → Option ℕ
bad_behind (Some k) i p = Some k
bad_behind None i (Plain c) = None
bad_behind None i (Escape c) = None
bad_behind None i (Bad c) = Some i

good_more : (ps : List Part) (p : Part) → AreGood ps → AreGood (p ∷ []) → AreGood (ps ++ p ∷ [])
good_more [] p all good = good
good_more (Plain c ∷ ps) p all good = good_more ps p all good
good_more (Escape c ∷ ps) p all good = good_more ps p all good
good_more (Bad c ∷ ps) p all good = absurd all

bad_more : (ps : List Part) (bad : Option ℕ) (i : ℕ) (p : Part) → length (bytes_of ps) ≡ i → BadIn ps bad → BadIn (ps ++ p ∷ []) (bad_behind bad i p)
bad_more ps (Some k) i p size (good, first, place) =
    (good, (first.0, first.1 ++ p ∷ [], first.2, ap (λ l. l ++ p ∷ []) first.3 ∙ append_assoc good (Bad first.0 ∷ first.1) (p ∷ [])), place)
bad_more ps None i (Plain c) size all = good_more ps (Plain c) all tt
bad_more ps None i (Escape c) size all = good_more ps (Escape c) all tt
bad_more ps None i (Bad c) size all = (ps, (c, [], all, refl), sym size)

are_more : (ps : List Part) (p : Part) (behind : List ℕ) → AreParts ps (part_bytes p ++ behind) → IsPart p behind → AreParts (ps ++ p ∷ []) behind
are_more [] p behind are is = (is, tt)
are_more (q ∷ ps) p behind are is = (subst (IsPart q) (sym (bytes_more ps p behind)) are.0, are_more ps p behind are.1 is)

walked_more : (body : List ℕ) (i k : ℕ) (bad : Option ℕ) (p : Part) → Walked body i bad → drop i body ≡ part_bytes p ++ drop k body → i + length (part_bytes p) ≡ k → IsPart p (drop k body) → Walked body k (bad_behind bad i p)
walked_more body i k bad p so_far next size is =
    let before = so_far.size in
    record {
      parts = so_far.parts ++ p ∷ [];
      whole = so_far.whole ∙ ap (λ l. bytes_of so_far.parts ++ l) next ∙ sym (bytes_more so_far.parts p (drop k body));
      size =
          ap length (bytes-append so_far.parts (p ∷ []) ∙ ap (λ l. bytes_of so_far.parts ++ l) (append-nil (part_bytes p)))
          ∙ length-append (bytes_of so_far.parts) (part_bytes p) ∙ omega arith;
      are = are_more so_far.parts p (drop k body) (subst (AreParts so_far.parts) next so_far.are) is;
      first = bad_more so_far.parts bad i p before so_far.first;
    }

escaped_within : (body : List ℕ) (i : ℕ) → is_escaped (get_or body i 0) ≡ true → i < length body
escaped_within body i is =
    ⊎_elim (λ inside. inside) (λ past. absurd (both_ways (is_escaped 0) refl (ap is_escaped (sym (get_or_past body i 0 past)) ∙ is))) (cases_lt i (length body))

keeps : (bad : Option ℕ) (i c : ℕ) → (bad_behind bad i (Plain c) ≡ bad) × (bad_behind bad i (Escape c) ≡ bad)
keeps None i c = (refl, refl)
keeps (Some k) i c = (refl, refl)

good_by : (body : List ℕ) (i size : ℕ) (bad : Option ℕ) (backslash escaped plain : Bool) → let c = get_or body i 0 in let d = get_or body (i + 1) 0 in
    (c == 92) ≡ backslash → is_escaped d ≡ escaped → is_plain 34 c ≡ plain → Walked body i bad → i < length body →
    Some size ≡ (if backslash then (if escaped then Some 2 else None) else (if plain then Some 1 else None)) → Walked body (i + size) bad
good_by body i size bad true true plain b e p so_far inside is =
    let d = get_or body (i + 1) 0 in
    let two : size ≡ 2 = cc in
    let one : suc i ≡ i + 1 = omega arith in
    let last : suc (i + 1) ≡ i + 2 = omega arith in
    let next : drop i body ≡ 92 ∷ d ∷ drop (i + 2) body =
    drop-cons body i 0 inside ∙ ap (λ k. get_or body i 0 ∷ drop k body) one ∙ ap (λ c. c ∷ drop (i + 1) body) (same_byte (get_or body i 0) 92 b)
    ∙ ap (λ l. 92 ∷ l) (drop-cons body (i + 1) 0 (escaped_within body (i + 1) e) ∙ ap (λ k. d ∷ drop k body) last) in
    subst (λ size. Walked body (i + size) bad) (sym two)
    (subst (Walked body (i + 2)) (keeps bad i d).1 (walked_more body i (i + 2) bad (Escape d) so_far next refl e))
good_by body i size bad false escaped true b e p so_far inside is =
    let c = get_or body i 0 in
    let one : size ≡ 1 = cc in
    let last : suc i ≡ i + 1 = omega arith in
    let next : drop i body ≡ c ∷ drop (i + 1) body = drop-cons body i 0 inside ∙ ap (λ k. c ∷ drop k body) last in
    subst (λ size. Walked body (i + size) bad) (sym one)
    (subst (Walked body (i + 1)) (keeps bad i c).0 (walked_more body i (i + 1) bad (Plain c) so_far next refl p))
good_by body i size bad true false plain b e p so_far inside is = absurd cc
good_by body i size bad false escaped false b e p so_far inside is = absurd cc

pub walked_good : (body : List ℕ) (i size : ℕ) (bad : Option ℕ) → Walked body i bad → i < length body → Some size ≡ part_size (get_or body i 0) (get_or body (i + 1) 0) → Walked body (i + size) bad
walked_good body i size bad so_far inside is =
    good_by body i size bad (get_or body i 0 == 92) (is_escaped (get_or body (i + 1) 0)) (is_plain 34 (get_or body i 0)) refl refl refl so_far inside is

escaped_at : (l : List ℕ) → go_on_escaped l ≡ is_escaped (get_or l 0 0)
escaped_at [] = refl
escaped_at (c ∷ cs) = refl

bad_part : (c d : ℕ) (backslash escaped plain : Bool) → (c == 92) ≡ backslash → is_escaped d ≡ escaped → is_plain 34 c ≡ plain →
    (let none : Option ℕ = None in none ≡ (if backslash then (if escaped then Some 2 else None) else (if plain then Some 1 else None))) → (is_plain 34 c ≡ false) × (c ≡ 92 → is_escaped d ≡ false)
bad_part c d true true plain b e p is = absurd cc
bad_part c d true false plain b e p is = (ap (is_plain 34) (same_byte c 92 b), λ is. e)
bad_part c d false escaped true b e p is = absurd cc
bad_part c d false escaped false b e p is = (p, λ is. absurd (other_byte c 92 b is))

or_here : (bad : Option ℕ) (i c : ℕ) → bad_behind bad i (Bad c) ≡ option_or bad (Some i)
or_here None i c = refl
or_here (Some k) i c = refl

pub walked_bad : (body : List ℕ) (i : ℕ) (bad : Option ℕ) → Walked body i bad → i < length body → (get_or body i 0 ≡ 34 → ⊥) → (get_or body i 0 ≡ 10 → ⊥) → None ≡ part_size (get_or body i 0) (get_or body (i + 1) 0) → Walked body (i + 1) (option_or bad (Some i))
walked_bad body i bad so_far inside quote newline is =
    let c = get_or body i 0 in
    let d = get_or body (i + 1) 0 in
    let last : suc i ≡ i + 1 = omega arith in
    let next : drop i body ≡ c ∷ drop (i + 1) body = drop-cons body i 0 inside ∙ ap (λ k. c ∷ drop k body) last in
    let other = bad_part c d (c == 92) (is_escaped d) (is_plain 34 c) refl refl refl is in
    let behind : go_on_escaped (drop (i + 1) body) ≡ is_escaped d =
    escaped_at (drop (i + 1) body) ∙ ap is_escaped (get_or-drop (i + 1) body 0 0 ∙ ap (λ k. get_or body k 0) (add-zero (i + 1))) in
    subst (Walked body (i + 1)) (or_here bad i c)
    (walked_more body i (i + 1) bad (Bad c) so_far next refl (record { no_quote = quote; in_line = newline; not_plain = other.0; no_escape = λ is. behind ∙ other.1 is }))

-- where the walk ends

closed_by : (parts : List Part) (i : ℕ) (bad : Option ℕ) (s : Step) → length (bytes_of parts) ≡ i → BadIn parts bad → IfNone bad (s ≡ Token (i + 2) Text) → IfSome bad (λ n. s ≡ Fault (n + 1) BadByte) → ClosedStep parts s
closed_by parts i None s size all good first = inl (all, good ∙ ap (λ n. Token (n + 2) Text) (sym size))
closed_by parts i (Some k) s size (before, is, place) good first = inr (before, is, first ∙ ap (λ n. Fault (n + 1) BadByte) place)

begun : (text : List ℕ) → 0 < length text → get_or text 0 0 ≡ 34 → 34 ∷ drop 1 text ≡ text
begun [] some quote = absurd (omega arith)
begun (c ∷ cs) some quote = ap (λ c. c ∷ cs) (sym quote)

pub walked_closed : (text body : List ℕ) (i : ℕ) (bad : Option ℕ) (s : Step) → 0 < length text → get_or text 0 0 ≡ 34 → body ≡ drop 1 text → Walked body i bad → i < length body → get_or body i 0 ≡ 34 → IfNone bad (s ≡ Token (i + 2) Text) → IfSome bad (λ n. s ≡ Fault (n + 1) BadByte) → TextStep text s
walked_closed text body i bad s some quote back so_far inside end good first =
    let here : drop i body ≡ 34 ∷ drop (suc i) body = drop-cons body i 0 inside ∙ ap (λ c. c ∷ drop (suc i) body) end in (
      so_far.parts,
      drop (suc i) body,
      inl (
        sym (begun text some quote) ∙ ap (λ l. 34 ∷ l) (sym back ∙ so_far.whole ∙ ap (λ l. bytes_of so_far.parts ++ l) here),
        subst (AreParts so_far.parts) here so_far.are,
        closed_by so_far.parts i bad s so_far.size so_far.first good first,
      ),
    )

line_ends_at : (body : List ℕ) (i : ℕ) → (i < length body → get_or body i 0 ≡ 10) → EndsLine (drop i body)
line_ends_at body i newline =
    ⊎_elim (λ inside. subst EndsLine (sym (drop-cons body i 0 inside)) (newline inside)) (λ past. subst EndsLine (sym (drop_all i body past)) tt) (cases_lt i (length body))

pub walked_open : (text body : List ℕ) (i : ℕ) (bad : Option ℕ) → 0 < length text → get_or text 0 0 ≡ 34 → body ≡ drop 1 text → Walked body i bad → (i < length body → get_or body i 0 ≡ 10) → TextStep text (Fault 0 OpenString)
walked_open text body i bad some quote back so_far newline =
    (so_far.parts, drop i body, inr (sym (begun text some quote) ∙ ap (λ l. 34 ∷ l) (sym back ∙ so_far.whole), so_far.are, line_ends_at body i newline, refl))

-- the first bad part stands among the parts
bad_small : (parts : List Part) (i k : ℕ) → length (bytes_of parts) ≡ i → BadIn parts (Some k) → k < i
bad_small parts i k size (good, first, place) =
    let all = ap (λ l. length (bytes_of l)) first.3 ∙ ap length (bytes-append good (Bad first.0 ∷ first.1)) ∙ length-append (bytes_of good) (bytes_of (Bad first.0 ∷ first.1)) in
    omega arith

pub bad_within : (body : List ℕ) (i : ℕ) (bad : Option ℕ) → Walked body i bad → IfSome bad (λ n. n < i)
bad_within body i None so_far = tt
bad_within body i (Some k) so_far = bad_small so_far.parts i k so_far.size so_far.first

-- a quote begins a text

begins_by : (a b l d e t : Bool) → begins.Text ≡ (if a then begins.Blank else (if b then begins.Comment else (if l then begins.LineComment else (if d then begins.Directive else (if e then begins.Character else (if t then begins.Text else begins.Other)))))) → t ≡ true
begins_by true b l d e t is = absurd cc
begins_by false true l d e t is = absurd cc
begins_by false false true d e t is = absurd cc
begins_by false false false true e t is = absurd cc
begins_by false false false false true t is = absurd cc
begins_by false false false false false true is = refl
begins_by false false false false false false is = absurd cc

pub text_begins : (text : List ℕ) → begins.Text ≡ beginning text → get_or text 0 0 ≡ 34
text_begins text is =
    let c = get_or text 0 0 in
    let d = get_or text 1 0 in
    same_byte c 34 (begins_by (is_blank c) ((c == 47) && (d == 42)) ((c == 47) && (d == 47)) (c == 35) (c == 39) (c == 34) is)
