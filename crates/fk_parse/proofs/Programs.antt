-- What the code reads of a text says what the text is.
use Rattle.std.proofs.Common.{◌≡◌, ℕ, zero, suc, ◌+◌, ◌<◌, ◌^◌, List, [], ◌∷◌, Result, Ok, Err, length, map, slice_index_or, Fits, w32, refl, sym, ap, ◌∙◌, subst, arith}
use Rattle.std.proofs.lemmas.List.{length-map}
use Rattle.fk_syntax.specs.declared.place.Place.{Place}
use Rattle.fk_syntax.specs.Program.{ItemTree, ProgramTree}
use Rattle.fk_lex.specs.declared.token.Token.{Token}
use Rattle.fk_lex.specs.View.{spelled}
use Rattle.fk_parse_combinators.specs.declared.limits.TheConstants.{LEVELS}
use Rattle.fk_parse_combinators.specs.declared.fault.SyntaxFault.{SyntaxFault}
use Rattle.fk_parse_combinators.specs.declared.fault.SyntaxFault.TheVariants as fault
use Rattle.fk_parse_combinators.specs.Languages.{Placed, numbered}
use Rattle.fk_parse_combinators.specs.Reads.{Stop, Answer}
use Rattle.fk_parse_combinators.specs.Readers.{unexpected}
use Rattle.fk_parse_combinators.specs.Faults.{Tells}
use Rattle.fk_parse_combinators.specs.Gives.{Halts}
use Rattle.fk_expr.proofs.Public.{halts_tells}
use Rattle.fk_parse.specs.Parses.{ReadsText, SpellsProgram, end_of, beginning}
use Rattle.fk_parse.specs.Refusals.{RefusesTokens}
use Rattle.fk_parse.specs.Reading.{read_items, whole, ended, read_text}
use Rattle.fk_parse.specs.Parts.{read_text_within}
use Rattle.fk_parse.proofs.Texts.{reads_text}

-- ---- faults

-- where the items halt, the fault tells why the text isn't read
pub items_tell : (answer : Answer (List ItemTree)) (fault : SyntaxFault) (now : List Placed) → Halts answer fault now → Tells (λ stop. ended answer ≡ Err stop) fault
items_tell answer fault now h = halts_tells (λ stop. ended answer ≡ Err stop) answer fault now (λ s e. ap ended e) h

left_over : (items : List ItemTree) (now : List Placed) (s : Stop) → 0 < length now → unexpected {A = Placed} now ≡ Err s → whole items now ≡ Err s
left_over items [] s h e = absurd (omega arith)
left_over items (t ∷ ts) s h e = cc

-- where tokens are left behind the items, the fault of the next tells why the text isn't read
pub rest_tells : (answer : Answer (List ItemTree)) (items : List ItemTree) (now : List Placed) (fault : SyntaxFault)
    → answer ≡ Ok (items, now) → 0 < length now → Halts (unexpected {A = Placed} now) fault now → Tells (λ stop. ended answer ≡ Err stop) fault
rest_tells answer items now fault e h w =
    halts_tells (λ stop. ended answer ≡ Err stop) (unexpected {A = Placed} now) fault now (λ s d. ap ended e ∙ left_over items now s h d) w

tells_more : (why more : Stop → Type 0) (fault : SyntaxFault) → ((s : Stop) → why s → more s) → Tells why fault → Tells more fault
tells_more why more (fault.Unexpected place) f h = (h.0, h.1, h.2, f _ h.3)
tells_more why more fault.EndOfText f h = f _ h
tells_more why more (fault.Nesting place) f h = (h.0, h.1, h.2, f _ h.3)
tells_more why more (fault.Memory error) f h = tt

-- ---- texts

-- with as many levels as may be open
text_within : (tokens : List Placed) → read_text_within LEVELS tokens ≡ read_text tokens
unfolding read_items
text_within tokens = refl

reads_within : (tokens : List Placed) (answer : Result (List ItemTree) Stop) → read_text_within LEVELS tokens ≡ answer → ReadsText tokens answer
reads_within tokens answer e = subst (λ a. ReadsText tokens a) (sym (text_within tokens) ∙ e) (reads_text tokens)

pub refuses : (tokens : List Token) (fault : SyntaxFault)
    → Tells (λ stop. read_text_within LEVELS (numbered 0 (map spelled tokens)) ≡ Err stop) fault → RefusesTokens (map spelled tokens) fault
refuses tokens fault h = tells_more _ _ fault (λ s e. reads_within (numbered 0 (map spelled tokens)) (Err s) e) h

pub derives : (tokens : List Token) (p : ProgramTree) → read_text_within LEVELS (numbered 0 (map spelled tokens)) ≡ Ok p.items
    → p.end ≡ end_of beginning (map spelled tokens) → p.tokens ≡ length tokens → SpellsProgram (map spelled tokens) p
derives tokens p e d n = record {
  items = reads_within (numbered 0 (map spelled tokens)) (Ok p.items) e;
  end = d;
  count = n ∙ sym (length-map tokens spelled);
}

-- ---- the end of a text

-- the place directly behind a token
abbrev pub behind_token : Token → Place
behind_token t = record { line = t.place.line; column = t.place.column + length t.bytes.now }

pub end_of-last : (end : Place) (ts : List Token) (k : ℕ) (d : Token) → length ts ≡ suc k → end_of end (map spelled ts) ≡ behind_token (slice_index_or ts k d)
end_of-last end [] k d h = absurd (omega arith)
end_of-last end (t ∷ []) zero d h = refl
end_of-last end (t ∷ []) (suc k) d h = absurd (omega arith)
end_of-last end (t ∷ u ∷ ts) zero d h = absurd (omega arith)
end_of-last end (t ∷ u ∷ ts) (suc k) d h = end_of-last (behind_token t) (u ∷ ts) k d (omega arith)

end_within : (ts : List Token) (k : ℕ) (d : Token) → length ts ≡ suc k → (end_of beginning (map spelled ts)).column < 2 ^ 32
    → (slice_index_or ts k d).place.column + length (slice_index_or ts k d).bytes.now < 2 ^ 32
end_within ts k d h fits = let e = ap (λ (p : Place). p.column) (end_of-last beginning ts k d h) in omega arith

pub end_fits : (ts : List Token) (k : ℕ) (d : Token) → length ts ≡ suc k → (end_of beginning (map spelled ts)).column < 2 ^ 32
    → Fits w32 ((slice_index_or ts k d).place.column + length (slice_index_or ts k d).bytes.now)
end_fits ts k d h fits = let e = end_within ts k d h fits in omega arith

pub last_fits : (ts : List Token) (k : ℕ) (d : Token) → length ts ≡ suc k → (end_of beginning (map spelled ts)).column < 2 ^ 32
    → Fits w32 (length (slice_index_or ts k d).bytes.now)
last_fits ts k d h fits = let e = end_within ts k d h fits in omega arith
