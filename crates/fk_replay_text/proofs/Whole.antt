-- Whole traces: the first two lines, and the lines behind them.
use Rattle.std.proofs.Common.{◌⊎◌, inl, inr, Bool, true, false, ◌≡◌, ◌≢◌, ℕ, suc, ◌+◌, ◌-◌, ◌^◌, ◌<◌, ◌≤◌, List, [], ◌∷◌, ◌++◌, take, refl, sym, ap, ◌∙◌, subst, arith, append_assoc}
use Rattle.std.specs.Prelude.{◌==◌, codes, decimal}
use Rattle.std.proofs.lemmas.List.{append_cancel_left, append_cancel_right}
use Rattle.std.proofs.lemmas.Fmt.{decimal_injective}
use Rattle.fk_trace.specs.Text.{first_lines, last_line}
use Rattle.fk_replay_text.specs.Texts.{Lacks, IsCut}
use Rattle.fk_replay_text.specs.Lines.{onto_first, lines, GoesOn, IsBadLine}
use Rattle.fk_replay_text.specs.BodyView.{IsBadBody}
use Rattle.fk_replay_text.specs.declared.fault.ReplayFault.{ReplayFault}
use Rattle.fk_replay_text.specs.declared.fault.ReplayFault.TheVariants.{BadTrace, Memory}
use Rattle.fk_replay_text.specs.Trace.{HasBody, IsBody, IsTrace, IsTraceText, Told}
use Rattle.fk_replay_text.proofs.Cutting.{lacks_append, lacks_by}
use Rattle.fk_replay_text.proofs.Decimals.{decimal_lacks}
use Rattle.fk_replay_text.proofs.Bodies.{full_line, lines_of_cut, no_line}

-- ---- the first two lines

abbrev title : List ℕ
title = codes "fork95 trace 1"

abbrev harts_of : ℕ → List ℕ
harts_of harts = codes "harts " ++ decimal harts

abbrev title_line : List ℕ
title_line = title ++ (10 ∷ [])

abbrev harts_line : ℕ → List ℕ
harts_line harts = harts_of harts ++ (10 ∷ [])

first_is : (harts : ℕ) (text : List ℕ) → first_lines harts ++ text ≡ title_line ++ (harts_line harts ++ text)
first_is harts text = simp append_assoc

title_lacks : Lacks 10 title
title_lacks = lacks_by 10 title refl

harts_lack : (harts : ℕ) → harts ≤ 1024 → Lacks 10 (harts_of harts)
harts_lack harts few = lacks_append 10 (codes "harts ") (decimal harts) (lacks_by 10 (codes "harts ") refl) (decimal_lacks 10 harts (omega arith) (omega arith))

trace_lines : (harts : ℕ) (text : List ℕ) → harts ≤ 1024 → lines (first_lines harts ++ text) ≡ title_line ∷ harts_line harts ∷ lines text
trace_lines harts text few =
    ap lines (first_is harts text) ∙ full_line title_line title (harts_line harts ++ text) title_lacks refl
    ∙ ap (λ l. title_line ∷ l) (full_line (harts_line harts) (harts_of harts) text (harts_lack harts few) refl)

-- ---- a text is its lines

abbrev joined : List (List ℕ) → List ℕ
joined [] = []
joined (l ∷ ls) = l ++ joined ls

onto_joined : (b : ℕ) (ls : List (List ℕ)) → joined (onto_first b ls) ≡ b ∷ joined ls
onto_joined b [] = refl
onto_joined b (l ∷ ls) = refl

lines_joined : (text : List ℕ) → joined (lines text) ≡ text
lines_joined [] = refl
lines_joined (b ∷ bs) = by (b == 10) refl (lines_joined bs)
  where
    by : (q : Bool) → (b == 10) ≡ q → joined (lines bs) ≡ bs → joined (lines (b ∷ bs)) ≡ b ∷ bs
    by true is rest = rw is (ap (λ l. b ∷ l) rest)
    by false is rest = rw is (onto_joined b (lines bs) ∙ ap (λ l. b ∷ l) rest)

record BeginsWith (line text : List ℕ) : Type 0 where
  behind : List ℕ
  are : text ≡ line ++ behind

begins_with : (line text : List ℕ) (others : List (List ℕ)) → lines text ≡ line ∷ others → BeginsWith line text
begins_with line text others e = record { behind = joined others; are = sym (lines_joined text) ∙ ap joined e }

-- ---- some trace text

some_trace : IsTraceText (first_lines 1 ++ last_line 0)
some_trace = record {
  harts = 1;
  last = 0;
  lines = [];
  is = record {
    some = omega arith;
    few = omega arith;
    behind = last_line 0;
    body = record { word = omega arith; order = omega arith; spells = refl };
    spells = refl;
  };
}

-- what a trace text has in its lines
record HasLines (text : List ℕ) : Type 0 where
  harts : ℕ
  some : 0 < harts
  few : harts ≤ 1024
  behind : List ℕ
  body : HasBody harts behind
  are : lines text ≡ title_line ∷ harts_line harts ∷ lines behind

has_lines : (text : List ℕ) → IsTraceText text → HasLines text
has_lines text t = record {
  harts = t.harts;
  some = t.is.some;
  few = t.is.few;
  behind = t.is.behind;
  body = record { last = t.last; lines = t.lines; is = t.is.body };
  are = ap lines t.is.spells ∙ trace_lines t.harts t.is.behind t.is.few;
}

-- ---- a bad first line

take_first : (x : List ℕ) (xs ys : List (List ℕ)) → take 1 (x ∷ xs) ≡ take 1 ys → (others : List (List ℕ)) × (ys ≡ x ∷ others)
take_first x xs [] e = let bad : x ∷ [] ≡ [] = e in absurd (cc)
take_first x xs (y ∷ ys) e = let same : x ∷ [] ≡ y ∷ [] = e in let here : x ≡ y = cc in (ys, ap (λ l. l ∷ ys) (sym here))

take_second : (x y z : List ℕ) (xs ys : List (List ℕ)) → take 2 (x ∷ y ∷ xs) ≡ take 2 (z ∷ ys) → (others : List (List ℕ)) × (ys ≡ y ∷ others)
take_second x y z xs [] e = let bad : x ∷ y ∷ [] ≡ z ∷ [] = e in absurd (cc)
take_second x y z xs (w ∷ ws) e = let same : x ∷ y ∷ [] ≡ z ∷ w ∷ [] = e in let here : y ≡ w = cc in (ws, ap (λ l. l ∷ ws) (sym here))

pub bad_title : (text : List ℕ) → ((rest : List ℕ) → text ≢ title_line ++ rest) → IsBadLine IsTraceText 1 text
bad_title text none = record {
  before = record { other = first_lines 1 ++ last_line 0; form = some_trace; same = refl };
  here = λ on. by on (has_lines on.other on.form);
}
  where
    by : (on : GoesOn IsTraceText 1 text) → HasLines on.other → ⊥
    by on has =
        let same : take 1 (title_line ∷ harts_line has.harts ∷ lines has.behind) ≡ take 1 (lines text) = ap (take 1) (sym has.are) ∙ on.same in
        let first = take_first title_line (harts_line has.harts ∷ lines has.behind) (lines text) same in
        let begins = begins_with title_line text first.0 first.1 in
        none begins.behind begins.are

-- ---- a bad second line

titled_lines : (text rest : List ℕ) → text ≡ title_line ++ rest → lines text ≡ title_line ∷ lines rest
titled_lines text rest e = ap lines e ∙ full_line title_line title rest title_lacks refl

bad_harts : (text rest : List ℕ) → text ≡ title_line ++ rest
    → ((harts : ℕ) (others : List (List ℕ)) → 0 < harts → harts ≤ 1024 → lines rest ≡ harts_line harts ∷ others → ⊥) → IsBadLine IsTraceText 2 text
bad_harts text rest e none = record {
  before = record {
    other = first_lines 1 ++ last_line 0;
    form = some_trace;
    same = ap (take 1) (trace_lines 1 (last_line 0) (omega arith)) ∙ ap (take 1) (sym (titled_lines text rest e));
  };
  here = λ on. by on (has_lines on.other on.form);
}
  where
    by : (on : GoesOn IsTraceText 2 text) → HasLines on.other → ⊥
    by on has =
        let same : take 2 (title_line ∷ harts_line has.harts ∷ lines has.behind) ≡ take 2 (title_line ∷ lines rest) =
        ap (take 2) (sym has.are) ∙ on.same ∙ ap (take 2) (titled_lines text rest e) in
        let second = take_second title_line (harts_line has.harts) title_line (lines has.behind) (lines rest) same in
        none has.harts second.0 has.some has.few second.1

pub no_second : (text rest : List ℕ) → text ≡ title_line ++ rest → Lacks 10 rest → IsBadLine IsTraceText 2 text
no_second text rest e lacks = bad_harts text rest e (λ harts others some few f. no_line rest (harts_of harts) others lacks f)

pub no_harts : (text rest line behind : List ℕ) → text ≡ title_line ++ rest → IsCut 10 rest line behind
    → ((harts : ℕ) → 0 < harts → harts ≤ 1024 → line ≢ harts_of harts) → IsBadLine IsTraceText 2 text
no_harts text rest line behind e cut none =
    bad_harts text rest e (λ harts others some few f. none harts some few (line_is harts others f))
  where
    line_is : (harts : ℕ) (others : List (List ℕ)) → lines rest ≡ harts_line harts ∷ others → line ≡ harts_of harts
    line_is harts others f =
        let same : (line ++ (10 ∷ [])) ∷ lines behind ≡ harts_line harts ∷ others = sym (lines_of_cut rest line behind cut) ∙ f in
        let whole : line ++ (10 ∷ []) ≡ harts_of harts ++ (10 ∷ []) = cc in
        append_cancel_right line (harts_of harts) (10 ∷ []) whole

-- ---- the lines behind

text_is : (harts : ℕ) (text rest line body : List ℕ) → text ≡ title_line ++ rest → IsCut 10 rest line body → line ≡ harts_of harts → text ≡ first_lines harts ++ body
text_is harts text rest line body e cut line_is =
    e ∙ ap (λ l. title_line ++ l) (cut.parts ∙ ap (λ l. l ++ (10 ∷ body)) line_is ∙ sym (append_assoc (harts_of harts) (10 ∷ []) body))
    ∙ sym (first_is harts body)

pub trace_is : (harts last : ℕ) (told : List Told) (text rest line body : List ℕ) → 0 < harts → harts ≤ 1024 → text ≡ title_line ++ rest → IsCut 10 rest line body
    → line ≡ harts_of harts → IsBody harts last told body → IsTrace harts last told text
trace_is harts last told text rest line body some few e cut line_is is = record {
  some = some;
  few = few;
  behind = body;
  body = is;
  spells = text_is harts text rest line body e cut line_is;
}

-- two more lines
take_two : (n : ℕ) (x y : List ℕ) (xs ys : List (List ℕ)) → take n xs ≡ take n ys → take (n + 2) (x ∷ y ∷ xs) ≡ take (n + 2) (x ∷ y ∷ ys)
take_two n x y xs ys e =
    let count : n + 2 ≡ suc (suc n) = omega arith in
    ap (λ k. take k (x ∷ y ∷ xs)) count ∙ ap (λ l. x ∷ y ∷ l) e ∙ sym (ap (λ k. take k (x ∷ y ∷ ys)) count)

drop_two : (n : ℕ) (x y z w : List ℕ) (xs ys : List (List ℕ)) → take (n + 2) (x ∷ y ∷ xs) ≡ take (n + 2) (z ∷ w ∷ ys) → (y ≡ w) × (take n xs ≡ take n ys)
drop_two n x y z w xs ys e =
    let count : n + 2 ≡ suc (suc n) = omega arith in
    let same : x ∷ y ∷ take n xs ≡ z ∷ w ∷ take n ys = sym (ap (λ k. take k (x ∷ y ∷ xs)) count) ∙ e ∙ ap (λ k. take k (z ∷ w ∷ ys)) count in
    let second : y ≡ w = cc in
    let rest : take n xs ≡ take n ys = cc in
    (second, rest)

same_harts : (m n : ℕ) → m ≤ 1024 → n ≤ 1024 → harts_line m ≡ harts_line n → m ≡ n
same_harts m n h k e =
    let whole : harts_of m ≡ harts_of n = append_cancel_right (harts_of m) (harts_of n) (10 ∷ []) e in
    decimal_injective m n (omega arith) (omega arith) (append_cancel_left (codes "harts ") (decimal m) (decimal n) whole)

went_on : (harts n : ℕ) (text body : List ℕ) → 0 < harts → harts ≤ 1024 → text ≡ first_lines harts ++ body → GoesOn (HasBody harts) n body → GoesOn IsTraceText (n + 2) text
went_on harts n text body some few e on =
    let form = on.form in
    record {
      other = first_lines harts ++ on.other;
      form = record {
        harts = harts;
        last = form.last;
        lines = form.lines;
        is = record { some = some; few = few; behind = on.other; body = form.is; spells = refl };
      };
      same =
          ap (take (n + 2)) (trace_lines harts on.other few) ∙ take_two n title_line (harts_line harts) (lines on.other) (lines body) on.same
          ∙ ap (take (n + 2)) (sym (ap lines e ∙ trace_lines harts body few));
    }

goes_back : (harts n : ℕ) (text body : List ℕ) → 0 < harts → harts ≤ 1024 → text ≡ first_lines harts ++ body → GoesOn IsTraceText (n + 2) text → GoesOn (HasBody harts) n body
goes_back harts n text body some few e on = by (has_lines on.other on.form)
  where
    by : HasLines on.other → GoesOn (HasBody harts) n body
    by has =
        let same : take (n + 2) (title_line ∷ harts_line has.harts ∷ lines has.behind) ≡ take (n + 2) (title_line ∷ harts_line harts ∷ lines body) =
        ap (take (n + 2)) (sym has.are) ∙ on.same ∙ ap (take (n + 2)) (ap lines e ∙ trace_lines harts body few) in
        let both = drop_two n title_line (harts_line has.harts) title_line (harts_line harts) (lines has.behind) (lines body) same in
        let one : has.harts ≡ harts = same_harts has.harts harts has.few few both.0 in
        record {
          other = has.behind;
          form = subst (λ (h : ℕ). HasBody h has.behind) one has.body;
          same = both.1;
        }

pub bad_body : (harts line : ℕ) (text rest first body : List ℕ) → 0 < harts → harts ≤ 1024 → text ≡ title_line ++ rest → IsCut 10 rest first body → first ≡ harts_of harts
    → 0 < line → IsBadLine (HasBody harts) line body → IsBadLine IsTraceText (line + 2) text
bad_body harts line text rest first body some few e cut first_is one bad =
    let spelled = text_is harts text rest first body e cut first_is in
    let count : line - 1 + 2 ≡ line + 2 - 1 = omega arith in
    record {
      before = subst (λ (n : ℕ). GoesOn IsTraceText n text) count (went_on harts (line - 1) text body some few spelled bad.before);
      here = λ on. bad.here (goes_back harts line text body some few spelled on);
    }

-- ---- numbers of harts that aren't allowed

number_is : (line digits : List ℕ) (number harts : ℕ) → line ≡ codes "harts " ++ digits → digits ≡ decimal number → number < 2 ^ 64 → harts ≤ 1024 → line ≡ harts_of harts → number ≡ harts
number_is line digits number harts e f small few g =
    let same : codes "harts " ++ digits ≡ codes "harts " ++ decimal harts = sym e ∙ g in
    let digits_are : digits ≡ decimal harts = append_cancel_left (codes "harts ") digits (decimal harts) same in
    decimal_injective number harts small (omega arith) (sym f ∙ digits_are)

pub no_harts_number : (line digits : List ℕ) (number : ℕ) → line ≡ codes "harts " ++ digits → digits ≡ decimal number → number ≡ 0
    → (harts : ℕ) → 0 < harts → harts ≤ 1024 → line ≡ harts_of harts → ⊥
no_harts_number line digits number e f none harts some few g =
    let same = number_is line digits number harts e f (omega arith) few g in omega arith

pub too_many_harts : (line digits : List ℕ) (number : ℕ) → line ≡ codes "harts " ++ digits → digits ≡ decimal number → number < 2 ^ 32 → 1024 < number
    → (harts : ℕ) → 0 < harts → harts ≤ 1024 → line ≡ harts_of harts → ⊥
too_many_harts line digits number e f small many harts some few g =
    let same = number_is line digits number harts e f (omega arith) few g in omega arith

-- ---- the fault of the lines behind

pub whole_fault : (text rest first body : List ℕ) (harts : ℕ) (fault : ReplayFault) → text ≡ title_line ++ rest → IsCut 10 rest first body → 0 < harts → harts ≤ 1024 → first ≡ harts_of harts
    → ((fault ≡ Memory) ⊎ IsBadBody harts body fault) → (fault ≡ Memory) ⊎ ((line : ℕ) × (fault ≡ BadTrace line) × IsBadLine IsTraceText line text)
whole_fault text rest first body harts fault e cut some few is (inl memory) = inl memory
whole_fault text rest first body harts fault e cut some few is (inr bad) =
    inr (bad.line + 2, bad.fault_is, bad_body harts bad.line text rest first body some few e cut is bad.one bad.bad)
