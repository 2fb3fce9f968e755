-- The lines behind the first two, read one by one.
use Rattle.std.proofs.Common.{◌≡◌, ◌≢◌, ℕ, zero, suc, ◌+◌, ◌-◌, ◌^◌, ◌<◌, ◌≤◌, Bool, true, false, List, [], ◌∷◌, ◌++◌, length, map, take, refl, sym, ap, ◌∙◌, subst, arith, append-nil, append_assoc}
use Rattle.std.specs.Prelude.{◌==◌}
use Rattle.std.proofs.lemmas.Bool.{ne_eqb}
use Rattle.fk_trace.specs.declared.column.Column.{Column}
use Rattle.fk_trace.specs.declared.column.Column.TheVariants.{Counts, Of}
use Rattle.fk_trace.specs.Text.{Range, last_line}
use Rattle.fk_replay_text.specs.Texts.{Lacks, IsCut}
use Rattle.fk_replay_text.specs.Lines.{onto_first, lines, GoesOn, IsBadLine}
use Rattle.fk_replay_text.specs.Trace.{AreInOrder, Follows, HasBody, IsBody, IsLine, Told, all_told_text, moments_of, rank, told_text, with_moment}
use Rattle.fk_replay_text.proofs.Cutting.{lacks_no_cut}
use Rattle.fk_replay_text.proofs.Told.{body_of, end_is, end_lacks, end_of, last_once, not_last, told_is, told_lacks, told_once}

-- ---- the lines of a text

-- the first line, with its newline, and the others
pub lines_cut : (line text : List ℕ) → Lacks 10 line → lines (line ++ (10 ∷ text)) ≡ (line ++ (10 ∷ [])) ∷ lines text
lines_cut [] text lacks = refl
lines_cut (b ∷ line) text lacks =
    let other : (b == 10) ≡ false = ne_eqb b 10 lacks.0 in
    rw (other, lines_cut line text lacks.1) refl

pub lines_of_cut : (text line behind : List ℕ) → IsCut 10 text line behind → lines text ≡ (line ++ (10 ∷ [])) ∷ lines behind
lines_of_cut text line behind cut = ap lines cut.parts ∙ lines_cut line behind cut.lacks

pub full_line : (x body text : List ℕ) → Lacks 10 body → x ≡ body ++ (10 ∷ []) → lines (x ++ text) ≡ x ∷ lines text
full_line x body text lacks e =
    ap (λ l. lines (l ++ text)) e ∙ ap lines (append_assoc body (10 ∷ []) text) ∙ lines_cut body text lacks ∙ ap (λ l. l ∷ lines text) (sym e)

abbrev whole : List ℕ → List (List ℕ)
whole [] = []
whole (b ∷ bs) = (b ∷ bs) ∷ []

onto_whole : (b : ℕ) (bs : List ℕ) → onto_first b (whole bs) ≡ (b ∷ bs) ∷ []
onto_whole b [] = refl
onto_whole b (c ∷ cs) = refl

lines_whole : (text : List ℕ) → Lacks 10 text → lines text ≡ whole text
lines_whole [] lacks = refl
lines_whole (b ∷ bs) lacks =
    let other : (b == 10) ≡ false = ne_eqb b 10 lacks.0 in
    rw (other, lines_whole bs lacks.1) (onto_whole b bs)

no_whole : (text line : List ℕ) (others : List (List ℕ)) → Lacks 10 text → whole text ≡ (line ++ (10 ∷ [])) ∷ others → ⊥
no_whole [] line others lacks e = cc
no_whole (b ∷ bs) line others lacks e =
    let same : b ∷ bs ≡ line ++ (10 ∷ []) = cc in lacks_no_cut 10 (b ∷ bs) line [] lacks same

-- a text without a newline has no whole line
pub no_line : (text line : List ℕ) (others : List (List ℕ)) → Lacks 10 text → lines text ≡ (line ++ (10 ∷ [])) ∷ others → ⊥
no_line text line others lacks e = no_whole text line others lacks (sym (lines_whole text lacks) ∙ e)

onto_some : (b : ℕ) (ls : List (List ℕ)) → onto_first b ls ≢ []
onto_some b [] e = cc
onto_some b (l ∷ ls) e = cc

pub lines_some : (b : ℕ) (bs : List ℕ) → lines (b ∷ bs) ≢ []
lines_some b bs e = by (b == 10) refl
  where
    by : (q : Bool) → (b == 10) ≡ q → ⊥
    by true is = let bad : (b ∷ []) ∷ lines bs ≡ [] = rw is at e in cc
    by false is = let bad : onto_first b (lines bs) ≡ [] = rw is at e in onto_some b (lines bs) bad

-- ---- lines that were read

-- the lines are in order from one place to another one
abbrev pub LeadTo : (harts cycle before : ℕ) → List Told → (now event : ℕ) → Type 0
LeadTo harts cycle before [] now event = (cycle ≡ now) × (before ≡ event)
LeadTo harts cycle before (t ∷ told) now event =
    IsLine harts t × Follows cycle before t.column t.cycle × LeadTo harts t.cycle (rank t.column) told now event

pub lead_on : (harts cycle before : ℕ) (told : List Told) (now event : ℕ) (t : Told) → LeadTo harts cycle before told now event → IsLine harts t
    → Follows now event t.column t.cycle → LeadTo harts cycle before (told ++ (t ∷ [])) t.cycle (rank t.column)
lead_on harts cycle before [] now event t lead line follows =
    let here : Follows cycle before t.column t.cycle =
    subst (λ (c : ℕ). Follows c before t.column t.cycle) (sym lead.0) (subst (λ (e : ℕ). Follows now e t.column t.cycle) (sym lead.1) follows) in
    (line, here, (refl, refl))
lead_on harts cycle before (u ∷ told) now event t lead line follows =
    (lead.0, lead.1, lead_on harts u.cycle (rank u.column) told now event t lead.2 line follows)

lead_end : (harts cycle before last : ℕ) (told : List Told) (now event : ℕ) → LeadTo harts cycle before told now event → now ≤ last → AreInOrder harts last cycle before told
lead_end harts cycle before last [] now event lead le = let here = lead.0 in omega arith
lead_end harts cycle before last (t ∷ told) now event lead le = (lead.0, lead.1, lead_end harts t.cycle (rank t.column) last told now event lead.2 le)

told_lines : (harts cycle before : ℕ) (told : List Told) (now event : ℕ) (rest : List ℕ) → harts < 2 ^ 32 → LeadTo harts cycle before told now event
    → lines (all_told_text told ++ rest) ≡ map told_text told ++ lines rest
told_lines harts cycle before [] now event rest few lead = refl
told_lines harts cycle before (t ∷ told) now event rest few lead =
    ap lines (append_assoc (told_text t) (all_told_text told) rest)
    ∙ full_line (told_text t) (body_of t) (all_told_text told ++ rest) (told_lacks harts t few lead.0) (told_is t)
    ∙ ap (λ l. told_text t ∷ l) (told_lines harts t.cycle (rank t.column) told now event rest few lead.2)

end_lines : (cycles : ℕ) (text : List ℕ) → cycles < 2 ^ 32 → lines (last_line cycles ++ text) ≡ last_line cycles ∷ lines text
end_lines cycles text small = full_line (last_line cycles) (end_of cycles) text (end_lacks cycles small) (end_is cycles)

last_lines : (cycles : ℕ) → cycles < 2 ^ 32 → lines (last_line cycles) ≡ last_line cycles ∷ []
last_lines cycles small = ap lines (sym (append-nil (last_line cycles))) ∙ end_lines cycles [] small

body_lines : (harts last cycle before : ℕ) (told : List Told) → harts < 2 ^ 32 → last < 2 ^ 32 → AreInOrder harts last cycle before told
    → lines (all_told_text told ++ last_line last) ≡ map told_text told ++ (last_line last ∷ [])
body_lines harts last cycle before [] few small order = last_lines last small
body_lines harts last cycle before (t ∷ told) few small order =
    ap lines (append_assoc (told_text t) (all_told_text told) (last_line last))
    ∙ full_line (told_text t) (body_of t) (all_told_text told ++ last_line last) (told_lacks harts t few order.0) (told_is t)
    ∙ ap (λ l. told_text t ∷ l) (body_lines harts last t.cycle (rank t.column) told few small order.2)

pub record IsReadTo (harts : ℕ) (text rest : List ℕ) (told : List Told) (now event : ℕ) : Type 0 where
  pub spells : text ≡ all_told_text told ++ rest
  pub lead : LeadTo harts 0 0 told now event

pub begins : (harts : ℕ) (text : List ℕ) → IsReadTo harts text text [] 0 0
begins harts text = record { spells = refl; lead = (refl, refl) }

told_push : (told : List Told) (t : Told) (rest : List ℕ) → all_told_text told ++ (told_text t ++ rest) ≡ all_told_text (told ++ (t ∷ [])) ++ rest
told_push [] t rest = sym (append_assoc (told_text t) [] rest)
told_push (u ∷ told) t rest =
    append_assoc (told_text u) (all_told_text told) (told_text t ++ rest) ∙ ap (λ l. told_text u ++ l) (told_push told t rest)
    ∙ sym (append_assoc (told_text u) (all_told_text (told ++ (t ∷ []))) rest)

pub reads_on : (harts : ℕ) (text rest line behind : List ℕ) (told : List Told) (now event : ℕ) (t : Told) → IsReadTo harts text rest told now event → IsCut 10 rest line behind
    → line ++ (10 ∷ []) ≡ told_text t → IsLine harts t → Follows now event t.column t.cycle → IsReadTo harts text behind (told ++ (t ∷ [])) t.cycle (rank t.column)
reads_on harts text rest line behind told now event t reads cut e is follows = record {
  spells =
      reads.spells ∙ ap (λ l. all_told_text told ++ l) (cut.parts ∙ sym (append_assoc line (10 ∷ []) behind) ∙ ap (λ l. l ++ behind) e)
      ∙ told_push told t behind;
  lead = lead_on harts 0 0 told now event t reads.lead is follows;
}

-- ---- other texts with the same lines

-- the first lines, and some more of them
abbrev beyond : (more : ℕ) → List Told → ℕ
beyond more [] = more
beyond more (t ∷ told) = suc (beyond more told)

beyond_is : (more : ℕ) (told : List Told) → beyond more told ≡ length told + more
beyond_is more [] = omega arith
beyond_is more (t ∷ told) = let rest = beyond_is more told in omega arith

abbrev lines_told : List Told → ℕ → List (List ℕ)
lines_told told last = map told_text told ++ (last_line last ∷ [])

-- what another text has behind the lines that were read
record IsLeft (harts last now event more : ℕ) (ys : List (List ℕ)) : Type 0 where
  later : List Told
  order : AreInOrder harts last now event later
  same : take more (lines_told later last) ≡ take more ys

left : (harts last more cycle before : ℕ) (told others : List Told) (now event : ℕ) (ys : List (List ℕ)) → LeadTo harts cycle before told now event
    → AreInOrder harts last cycle before others → take (beyond more told) (lines_told others last) ≡ take (beyond more told) (map told_text told ++ ys)
    → IsLeft harts last now event more ys
left harts last more cycle before [] others now event ys lead order e = record {
  later = others;
  order = subst (λ (c : ℕ). AreInOrder harts last c event others) lead.0 (subst (λ (b : ℕ). AreInOrder harts last cycle b others) lead.1 order);
  same = e;
}
left harts last more cycle before (t ∷ told) [] now event ys lead order e =
    let same : last_line last ≡ told_text t = cc in absurd (not_last t last (sym same))
left harts last more cycle before (t ∷ told) (u ∷ others) now event ys lead order e =
    let head : told_text u ≡ told_text t = cc in
    let tail : take (beyond more told) (lines_told others last) ≡ take (beyond more told) (map told_text told ++ ys) = cc in
    let same = told_once harts u t order.0 lead.0 head in
    let here : AreInOrder harts last t.cycle (rank t.column) others =
    subst (λ (c : ℕ). AreInOrder harts last c (rank t.column) others) same.cycle
    (subst (λ (k : Column). AreInOrder harts last u.cycle (rank k) others) same.column order.2) in
    left harts last more t.cycle (rank t.column) told others now event ys lead.2 here tail

-- what another body has there
other_left : (harts more : ℕ) (text rest : List ℕ) (told : List Told) (now event : ℕ) → harts < 2 ^ 32 → IsReadTo harts text rest told now event
    → GoesOn (HasBody harts) (length told + more) text → (last : ℕ) × (last < 2 ^ 32) × IsLeft harts last now event more (lines rest)
other_left harts more text rest told now event few reads on =
    let last = on.form.last in
    let others = on.form.lines in
    let body = on.form.is in
    let count = beyond_is more told in
    let theirs : lines on.other ≡ lines_told others last = ap lines body.spells ∙ body_lines harts last 0 0 others few body.word body.order in
    let ours : lines text ≡ map told_text told ++ lines rest = ap lines reads.spells ∙ told_lines harts 0 0 told now event rest few reads.lead in
    let same : take (beyond more told) (lines_told others last) ≡ take (beyond more told) (map told_text told ++ lines rest) =
    ap (take (beyond more told)) (sym theirs) ∙ ap (λ n. take n (lines on.other)) count ∙ on.same ∙ ap (λ n. take n (lines text)) (sym count)
    ∙ ap (take (beyond more told)) ours in
    (last, body.word, left harts last more 0 0 told others now event (lines rest) reads.lead body.order same)

-- ---- the first bad line

-- no line that may come next is the next one
pub record HasNoNext (harts now event : ℕ) (rest : List ℕ) : Type 0 where
  pub no_told : (t : Told) (others : List (List ℕ)) → IsLine harts t → Follows now event t.column t.cycle → lines rest ≡ told_text t ∷ others → ⊥
  pub no_end : (last : ℕ) (others : List (List ℕ)) → last < 2 ^ 32 → now ≤ last → lines rest ≡ last_line last ∷ others → ⊥

record HasFirst (x : List ℕ) (ys : List (List ℕ)) : Type 0 where
  others : List (List ℕ)
  are : ys ≡ x ∷ others

first_is : (x : List ℕ) (xs ys : List (List ℕ)) → take 1 (x ∷ xs) ≡ take 1 ys → HasFirst x ys
first_is x xs [] e = let bad : x ∷ [] ≡ [] = e in absurd (cc)
first_is x xs (y ∷ ys) e = let same : x ∷ [] ≡ y ∷ [] = e in let here : x ≡ y = cc in record { others = ys; are = ap (λ l. l ∷ ys) (sym here) }

stops_here : (harts : ℕ) (text rest : List ℕ) (told : List Told) (now event : ℕ) → harts < 2 ^ 32 → IsReadTo harts text rest told now event
    → HasNoNext harts now event rest → GoesOn (HasBody harts) (length told + 1) text → ⊥
stops_here harts text rest told now event few reads none on =
    let other = other_left harts 1 text rest told now event few reads on in
    by other.0 other.1 other.2.later other.2.order other.2.same
  where
    by : (last : ℕ) → last < 2 ^ 32 → (later : List Told) → AreInOrder harts last now event later → take 1 (lines_told later last) ≡ take 1 (lines rest) → ⊥
    by last small [] order same =
        let first = first_is (last_line last) [] (lines rest) same in none.no_end last first.others small order first.are
    by last small (t ∷ later) order same =
        let first = first_is (told_text t) (lines_told later last) (lines rest) same in none.no_told t first.others order.0 order.1 first.are

take_told : (n : ℕ) (told : List Told) (xs ys : List (List ℕ)) → n ≤ length told → take n (map told_text told ++ xs) ≡ take n (map told_text told ++ ys)
take_told zero told xs ys le = refl
take_told (suc n) [] xs ys le = absurd (omega arith)
take_told (suc n) (t ∷ told) xs ys le = ap (λ l. told_text t ∷ l) (take_told n told xs ys (omega arith))

take_more : (told : List Told) (x : List ℕ) (xs ys : List (List ℕ)) → take (beyond 1 told) (map told_text told ++ (x ∷ xs)) ≡ take (beyond 1 told) (map told_text told ++ (x ∷ ys))
take_more [] x xs ys = refl
take_more (t ∷ told) x xs ys = ap (λ l. told_text t ∷ l) (take_more told x xs ys)

-- the lines that were read are the first ones of some body
went_on : (harts : ℕ) (text rest : List ℕ) (told : List Told) (now event n : ℕ) → harts < 2 ^ 32 → now < 2 ^ 32 → IsReadTo harts text rest told now event
    → n ≤ length told → GoesOn (HasBody harts) n text
went_on harts text rest told now event n few small reads le =
    let order = lead_end harts 0 0 now told now event reads.lead (omega arith) in
    let theirs = body_lines harts now 0 0 told few small order in
    let ours : lines text ≡ map told_text told ++ lines rest = ap lines reads.spells ∙ told_lines harts 0 0 told now event rest few reads.lead in
    record {
      other = all_told_text told ++ last_line now;
      form = record { last = now; lines = told; is = record { word = small; order = order; spells = refl } };
      same = ap (take n) theirs ∙ take_told n told (last_line now ∷ []) (lines rest) le ∙ ap (take n) (sym ours);
    }

pub bad_line : (harts : ℕ) (text rest : List ℕ) (told : List Told) (now event : ℕ) → harts < 2 ^ 32 → now < 2 ^ 32 → IsReadTo harts text rest told now event
    → HasNoNext harts now event rest → IsBadLine (HasBody harts) (length told + 1) text
bad_line harts text rest told now event few small reads none = record {
  before = went_on harts text rest told now event (length told + 1 - 1) few small reads (omega arith);
  here = stops_here harts text rest told now event few reads none;
}

-- ---- why there is no next line

pub lacks_next : (harts now event : ℕ) (rest : List ℕ) → harts < 2 ^ 32 → Lacks 10 rest → HasNoNext harts now event rest
lacks_next harts now event rest few lacks = record {
  no_told = λ t others is follows e. no_line rest (body_of t) others lacks (e ∙ ap (λ l. l ∷ others) (told_is t));
  no_end = λ last others small le e. no_line rest (end_of last) others lacks (e ∙ ap (λ l. l ∷ others) (end_is last));
}

-- the next line
next_line : (rest line behind x : List ℕ) (others : List (List ℕ)) → IsCut 10 rest line behind → lines rest ≡ x ∷ others → line ++ (10 ∷ []) ≡ x
next_line rest line behind x others cut e =
    let same : (line ++ (10 ∷ [])) ∷ lines behind ≡ x ∷ others = sym (lines_of_cut rest line behind cut) ∙ e in cc

pub no_such_line : (harts now event : ℕ) (rest line behind : List ℕ) → IsCut 10 rest line behind
    → ((t : Told) → IsLine harts t → Follows now event t.column t.cycle → line ++ (10 ∷ []) ≢ told_text t)
    → ((last : ℕ) → last < 2 ^ 32 → now ≤ last → line ++ (10 ∷ []) ≢ last_line last) → HasNoNext harts now event rest
no_such_line harts now event rest line behind cut told last = record {
  no_told = λ t others is follows e. told t is follows (next_line rest line behind (told_text t) others cut e);
  no_end = λ cycles others small le e. last cycles small le (next_line rest line behind (last_line cycles) others cut e);
}

pub out_of_order : (harts now event : ℕ) (line : List ℕ) (t : Told) → IsLine harts t → line ++ (10 ∷ []) ≡ told_text t → (Follows now event t.column t.cycle → ⊥)
    → (u : Told) → IsLine harts u → Follows now event u.column u.cycle → line ++ (10 ∷ []) ≢ told_text u
out_of_order harts now event line t is e none u other follows f =
    let same = told_once harts u t other is (sym f ∙ e) in
    none (subst (λ (c : ℕ). Follows now event t.column c) same.cycle (subst (λ (k : Column). Follows now event k u.cycle) same.column follows))

pub end_is_no_line : (line : List ℕ) (last : ℕ) → line ++ (10 ∷ []) ≡ last_line last → (t : Told) → line ++ (10 ∷ []) ≢ told_text t
end_is_no_line line last e t f = not_last t last (sym f ∙ e)

pub ends_too_early : (now : ℕ) (line : List ℕ) (early : ℕ) → early < 2 ^ 32 → line ++ (10 ∷ []) ≡ last_line early → early < now
    → (last : ℕ) → last < 2 ^ 32 → now ≤ last → line ++ (10 ∷ []) ≢ last_line last
ends_too_early now line early small e less last fits le f =
    let same : early ≡ last = last_once early last small fits (sym e ∙ f) in omega arith

-- ---- the last line

pub body_is : (harts : ℕ) (text rest line : List ℕ) (told : List Told) (now event last : ℕ) → last < 2 ^ 32 → IsReadTo harts text rest told now event
    → IsCut 10 rest line [] → line ++ (10 ∷ []) ≡ last_line last → now ≤ last → IsBody harts last told text
body_is harts text rest line told now event last small reads cut e le = record {
  word = small;
  order = lead_end harts 0 0 last told now event reads.lead le;
  spells = reads.spells ∙ ap (λ l. all_told_text told ++ l) (cut.parts ∙ e);
}

-- something is behind the last line
pub line_too_many : (harts : ℕ) (text rest line : List ℕ) (b : ℕ) (behind : List ℕ) (told : List Told) (now event last : ℕ) → harts < 2 ^ 32 → last < 2 ^ 32
    → IsReadTo harts text rest told now event → IsCut 10 rest line (b ∷ behind) → line ++ (10 ∷ []) ≡ last_line last → now ≤ last
    → IsBadLine (HasBody harts) (length told + 2) text
line_too_many harts text rest line b behind told now event last few small reads cut e le =
    let order = lead_end harts 0 0 last told now event reads.lead le in
    let theirs = body_lines harts last 0 0 told few small order in
    let rest_is : lines rest ≡ last_line last ∷ lines (b ∷ behind) = lines_of_cut rest line (b ∷ behind) cut ∙ ap (λ l. l ∷ lines (b ∷ behind)) e in
    let ours : lines text ≡ map told_text told ++ (last_line last ∷ lines (b ∷ behind)) =
    ap lines reads.spells ∙ told_lines harts 0 0 told now event rest few reads.lead ∙ ap (λ l. map told_text told ++ l) rest_is in
    let count : length told + 2 - 1 ≡ beyond 1 told = omega (arith, beyond_is 1 told) in
    record {
      before = record {
        other = all_told_text told ++ last_line last;
        form = record { last = last; lines = told; is = record { word = small; order = order; spells = refl } };
        same =
            ap (λ n. take n (lines (all_told_text told ++ last_line last))) count ∙ ap (take (beyond 1 told)) theirs
            ∙ take_more told (last_line last) [] (lines (b ∷ behind)) ∙ ap (take (beyond 1 told)) (sym ours)
            ∙ ap (λ n. take n (lines text)) (sym count);
      };
      here = λ on. stops (other_left harts 2 text rest told now event few reads on) rest_is;
    }
  where
    by : (other : ℕ) (later : List Told) (ls : List (List ℕ)) → ls ≢ [] → take 2 (lines_told later other) ≡ take 2 (last_line last ∷ ls) → ⊥
    by other [] [] some same = some refl
    by other [] (l ∷ ls) some same = let bad : last_line other ∷ [] ≡ last_line last ∷ l ∷ [] = same in cc
    by other (t ∷ later) ls some same = let head : told_text t ≡ last_line last = cc in not_last t last head

    stops : ((other : ℕ) × (other < 2 ^ 32) × IsLeft harts other now event 2 (lines rest)) → lines rest ≡ last_line last ∷ lines (b ∷ behind) → ⊥
    stops other is = by other.0 other.2.later (lines (b ∷ behind)) (lines_some b behind) (other.2.same ∙ ap (take 2) is)

-- ---- the moments

with_moment_at : (column : Column) (cycle : ℕ) (ranges : List Range) (before behind : List (ℕ × List Range))
    → with_moment column cycle ranges (before ++ behind) ≡ with_moment column cycle ranges before ++ behind
with_moment_at Counts cycle ranges before behind = refl
with_moment_at (Of event) cycle ranges before behind = refl

pub moments_push : (told : List Told) (t : Told) → moments_of (told ++ (t ∷ [])) ≡ moments_of told ++ moments_of (t ∷ [])
moments_push [] t = refl
moments_push (u ∷ told) t =
    ap (with_moment u.column u.cycle u.ranges) (moments_push told t) ∙ with_moment_at u.column u.cycle u.ranges (moments_of told) (moments_of (t ∷ []))
