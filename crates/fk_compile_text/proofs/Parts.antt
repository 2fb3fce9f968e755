-- From the answers of the parts of the front end to those of the whole.
use Rattle.std.proofs.Common.{◌≡◌, ℕ, List, Ok, Err, IfOk, IfErr, map, sym, subst, ◌∙◌}
use Rattle.std.specs.Prelude.{Result, MatchResult}
use Rattle.std.specs.Result.{IsErrAnd}
use Rattle.fk_syntax.specs.declared.facts.Facts.{Facts}
use Rattle.fk_syntax.specs.declared.program.Program as code
use Rattle.fk_syntax.specs.Program.{ItemTree, ProgramTree}
use Rattle.fk_meaning_forms.specs.Tables.{Tables}
use Rattle.fk_layout_walk.specs.Known.{tables_of, items_in}
use Rattle.fk_layout_walk.specs.declared.known.ProgramTables.{ProgramTables}
use Rattle.fk_layout_lookup.specs.Lookup.{Tells, TellsCallees, TellsFrames}
use Rattle.fk_layout_lookup.specs.declared.lookup.Lookup.{Lookup}
use Rattle.fk_layout.specs.Layout.{tables_by}
use Rattle.fk_lex.specs.Reading.{Tokens}
use Rattle.fk_lex.specs.View.{spelled}
use Rattle.fk_lex.specs.declared.token.Token.{Token}
use Rattle.fk_parse_combinators.specs.declared.fault.SyntaxFault.{SyntaxFault}
use Rattle.fk_parse.specs.Parses.{SpellsProgram}
use Rattle.fk_parse.specs.Refusals as syntax
use Rattle.fk_compile_text.specs.declared.refusal.Refusal.{Refusal}
use Rattle.fk_compile_text.specs.Refusal.{IsRefusedText}
use Rattle.fk_compile_text.specs.Text.{HasTree, HasSyntaxFault, Finds}

-- what holds of the value of a call, where its fault was made another
pub kept : {A E D : Type 0} (P : A → Type 0) (Q : E → D → Type 0) (r : Result A E) (m : Result A D) (a : A)
    → IfOk r P → MatchResult r (λ x. m ≡ Ok x) (λ e. IsErrAnd m (Q e)) → m ≡ Ok a → P a
kept P Q (Ok x) m a p same is = subst P (let e : Ok x ≡ Ok a = sym same ∙ is in cc) p
kept P Q (Err e) m a p other is = absurd (subst (λ z. IsErrAnd z (Q e)) is other)

-- a refusal is passed on as it is
pub passes_on : {A : Type 0} (r : Result A Refusal) (refusal : Refusal) (source : List ℕ) → IsErrAnd r (λ z. z ≡ refusal) → IsRefusedText source refusal → IfErr r (IsRefusedText source)
passes_on (Ok a) refusal source same h = tt
passes_on (Err z) refusal source same h = subst (IsRefusedText source) (sym same) h

-- why the tokens of a text have no tree
pub faulty : (source : List ℕ) (tokens list : List Token) (r : Result code.Program SyntaxFault) → list ≡ tokens
    → Tokens source (map spelled tokens) → IfErr r (syntax.RefusesTokens (map spelled list)) → IfErr r (HasSyntaxFault source)
faulty source tokens list (Ok tree) same lexed refused = tt
faulty source tokens list (Err fault) same lexed refused =
    record { tokens = map spelled list; spelled = subst (λ ts. Tokens source (map spelled ts)) (sym same) lexed; refused = refused }

-- the tree of the tokens of a text is its tree
pub parsed : (source : List ℕ) (tokens list : List Token) (tree : ProgramTree) → list ≡ tokens
    → Tokens source (map spelled tokens) → SpellsProgram (map spelled list) tree → HasTree source tree
parsed source tokens list tree same lexed derived =
    record { tokens = map spelled list; spelled = subst (λ ts. Tokens source (map spelled ts)) (sym same) lexed; derived = derived }

-- a lookup of what is known of a program depends on its tables and items alone
pub finds : (tree : ProgramTree) (facts : Facts) (known : ProgramTables) (lookup : Lookup) → tables_of known ≡ tables_by tree facts → items_in known ≡ tree.items
    → Tells known lookup → Finds tree facts lookup
finds tree facts known lookup tables items tells = λ other same_tables same_items.
    let ts : tables_of known ≡ tables_of other = tables ∙ sym same_tables in
    let is : items_in known ≡ items_in other = items ∙ sym same_items in
    record {
      callees = subst (λ (t : Tables). TellsCallees t (items_in other) (items_in other) lookup.callees.items) ts
          (subst (λ (all : List ItemTree). TellsCallees (tables_of known) all all lookup.callees.items) is tells.callees);
      frames = subst (λ (t : Tables). TellsFrames t t.regions lookup.framed.items) ts tells.frames;
    }
