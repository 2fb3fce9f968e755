-- A visitor with room for them writes down the operations of code.
use Rattle.std.proofs.Common.{◌≡◌, ℕ, suc, ◌+◌, ◌≤◌, ◌<◌, nat_lt, Bool, true, if◌then◌else◌, List, [], ◌∷◌, ◌++◌, Some, length, map, take, refl, ◌∙◌, sym, ap, subst, arith, length-append}
use Rattle.std.proofs.lemmas.List.{append_assoc, append-nil, length-set, map-append, take_more_set}
use Rattle.std.proofs.lemmas.Bool.{lt-ltb}
use Rattle.std.proofs.Math.Seq.{take-length}
use Rattle.fk_syntax.specs.declared.place.Place.{Place}
use Rattle.fk_meaning_operation.specs.declared.operation.Operation.{Operation}
use Rattle.fk_meaning_operation.specs.Kinds.{kind_of}
use Rattle.fk_meaning_forms.specs.Code.{done, perform, choose, while, until, turn, again, quit, break, continue, call, ends, size, sites}
use Rattle.fk_meaning_forms.specs.Expressions.{Coded, Signature}
use Rattle.fk_meaning_forms.specs.Program.{sites_in}
use Rattle.fk_meaning_forms.proofs.Ranks.{counted}
use Rattle.fk_syntax.specs.Program.{FunctionTree}
use Rattle.fk_layout_walk.specs.declared.known.ProgramTables.{ProgramTables}
use Rattle.fk_layout_walk.specs.declared.visitor.Event.TheVariants.{Perform}
use Rattle.fk_layout_walk.specs.Known.{tables_of, functions_of}
use Rattle.fk_layout_walk_statements.specs.Texts.{functions_in, code_in, sites_of_text, through_all}
use Rattle.fk_layout_walk.specs.Through.{through}
use Rattle.fk_layout_walk.specs.Shown.{shown}
use Rattle.fk_layout.specs.declared.listed.Site.{Site}
use Rattle.fk_layout.specs.declared.listed.Listing.{Listing}
use Rattle.fk_layout.specs.Listing.{site, written, with_operation, listing_after, no_mark}

append_none : (xs : List Site) → xs ++ [] ≡ xs
append_none xs = append-nil xs

-- what is written
abbrev kept : Listing → List Site
kept l = take l.filled l.sites.items

-- so many more are written, and these
record Adds (from : Listing) (ss : List (ℕ × Place)) (n : ℕ) (to : Listing) : Type 0 where
  filled : to.filled ≡ from.filled + n
  room : length to.sites.items ≡ length from.sites.items
  are : kept to ≡ kept from ++ map site ss

both : (a b c : Listing) (xs ys : List (ℕ × Place)) (n m : ℕ) → Adds a xs n b → Adds b ys m c → Adds a (xs ++ ys) (n + m) c
both a b c xs ys n m x y =
    let xf = x.filled in
    let yf = y.filled in
    record {
      filled = omega (arith, xf, yf);
      room = y.room ∙ x.room;
      are = y.are ∙ ap (λ (front : List Site). front ++ map site ys) x.are ∙ append_assoc (kept a) (map site xs) (map site ys)
          ∙ ap (λ (back : List Site). kept a ++ back) (sym (map-append site xs ys));
    }

same_kind : (op : Operation) → kind_of (shown op) ≡ kind_of op
same_kind op = grind arith

-- one operation more
next : (l : Listing) (op : Operation) (t : Place) → l.filled + 1 ≤ length l.sites.items
    → Adds l ((kind_of op, t) ∷ []) 1 (listing_after l (Perform (shown op) t))
next l op t h =
    let less : l.filled < length l.sites.items = omega (arith, h) in
    let test : nat_lt l.filled (length l.sites.items) ≡ true = lt-ltb l.filled (length l.sites.items) less in
    subst (λ (b : Bool). Adds l ((kind_of op, t) ∷ []) 1 (if b then written l (site (kind_of (shown op), t)) else l)) (sym test)
    (subst (λ (k : ℕ). Adds l ((kind_of op, t) ∷ []) 1 (written l (site (k, t)))) (sym (same_kind op))
    (record {
      filled = refl;
      room = length-set l.sites.items l.filled (site (kind_of op, t));
      are = take_more_set l.sites.items l.filled (site (kind_of op, t)) less;
    }))

one_more : (l a b : Listing) (x : ℕ × Place) (ss : List (ℕ × Place)) (n : ℕ) → Adds l (x ∷ []) 1 a → Adds a ss n b → Adds l (x ∷ ss) (suc n) b
one_more l a b x ss n f g =
    let ff = f.filled in
    let gf = g.filled in
    record {
      filled = omega (arith, ff, gf);
      room = g.room ∙ f.room;
      are = g.are ∙ ap (λ (front : List Site). front ++ map site ss) f.are ∙ append_assoc (kept l) (site x ∷ []) (map site ss);
    }

-- one that has room for it writes down what it is shown
pub writes : (l : Listing) (op : Operation) (t : Place) (kind : ℕ) → kind ≡ kind_of op → l.filled < length l.sites.items
    → written l (record { kind = kind; place = t }) ≡ with_operation l (Some (op, t))
writes l op t kind e less =
    ap (λ (k : ℕ). written l (record { kind = k; place = t })) e
    ∙ ap (λ (b : Bool). if b then written l (site (kind_of op, t)) else l) (sym (lt-ltb l.filled (length l.sites.items) less))

module _ (functions : (binding : ℕ) → Signature) where
  abbrev past : Listing → Coded → Listing
  past l code = through listing_after no_mark functions l code

  abbrev IsListed : Coded → Type 0
  IsListed code = (l : Listing) → l.filled + size code ≤ length l.sites.items → Adds l (sites code) (size code) (past l code)

  onward : (a b : Listing) (xs : List (ℕ × Place)) (n : ℕ) (code : Coded) → a.filled + (n + size code) ≤ length a.sites.items → IsListed code
      → Adds a xs n b → Adds a (xs ++ sites code) (n + size code) (past b code)
  onward a b xs n code h x y =
      let f = y.filled in
      let r = y.room in
      both a b (past b code) xs (sites code) n (size code) y (x b (omega (arith, f, r, h)))

  two : (a b : Coded) → IsListed a → IsListed b → (l : Listing) → l.filled + (size a + size b) ≤ length l.sites.items
      → Adds l (sites a ++ sites b) (size a + size b) (past (past l a) b)
  two a b x y l h = onward l (past l a) (sites a) (size a) b h y (x l (omega (arith, h)))

  three : (a b c : Coded) → IsListed a → IsListed b → IsListed c → (l : Listing) → l.filled + (size a + size b + size c) ≤ length l.sites.items
      → Adds l (sites a ++ sites b ++ sites c) (size a + size b + size c) (past (past (past l a) b) c)
  three a b c x y z l h = onward l (past (past l a) b) (sites a ++ sites b) (size a + size b) c h z (two a b x y l (omega (arith, h)))

  four : (a b c d : Coded) → IsListed a → IsListed b → IsListed c → IsListed d → (l : Listing)
      → l.filled + (size a + size b + size c + size d) ≤ length l.sites.items
      → Adds l (sites a ++ sites b ++ sites c ++ sites d) (size a + size b + size c + size d) (past (past (past (past l a) b) c) d)
  four a b c d x y z w l h =
      onward l (past (past (past l a) b) c) (sites a ++ sites b ++ sites c) (size a + size b + size c) d h w (three a b c x y z l (omega (arith, h)))

  abbrev first : Listing → Operation → Place → Listing
  first l op t = listing_after l (Perform (shown op) t)

  after_one : (op : Operation) (t : Place) (rest : Coded) → IsListed rest → (l : Listing) → l.filled + suc (size rest) ≤ length l.sites.items
      → Adds l ((kind_of op, t) ∷ sites rest) (suc (size rest)) (past (first l op t) rest)
  after_one op t rest x l h =
      let n = next l op t (omega (arith, h)) in
      let f = n.filled in
      let r = n.room in
      let m = first l op t in
      one_more l m (past m rest) (kind_of op, t) (sites rest) (size rest) n (x m (omega (arith, f, r, h)))

  is_listed : (code : Coded) → IsListed code
  is_listed done l h = record { filled = omega arith; room = refl; are = sym (append_none (kept l)) }
  is_listed (perform t op rest) l h = after_one op t rest (is_listed rest) l h
  is_listed (choose t op a b rest) l h =
      let n = next l op t (omega (arith, h)) in
      let f = n.filled in
      let r = n.room in
      let m = first l op t in
      one_more l m (past (past (past m a) b) rest) (kind_of op, t) (sites a ++ sites b ++ sites rest) (size a + size b + size rest) n
      (three a b rest (is_listed a) (is_listed b) (is_listed rest) m (omega (arith, f, r, h)))
  is_listed (while test body step rest) l h = four test body step rest (is_listed test) (is_listed body) (is_listed step) (is_listed rest) l h
  is_listed (until body test rest) l h = three body test rest (is_listed body) (is_listed test) (is_listed rest) l h
  is_listed (turn test body step rest) l h = four test body step rest (is_listed test) (is_listed body) (is_listed step) (is_listed rest) l h
  is_listed (again test body step rest) l h = four test body step rest (is_listed test) (is_listed body) (is_listed step) (is_listed rest) l h
  is_listed (quit t op rest) l h = after_one op t rest (is_listed rest) l h
  is_listed (break rest) l h = is_listed rest l h
  is_listed (continue rest) l h = is_listed rest l h
  is_listed (call t op f opening rest) l h =
      let n = next l op t (omega (arith, h)) in
      let g = n.filled in
      let r = n.room in
      let m = first l op t in
      one_more l m (past (past m opening) rest) (kind_of op, t) (sites opening ++ sites rest) (size opening + size rest) n
      (two opening rest (is_listed opening) (is_listed rest) m (omega (arith, g, r, h)))
  is_listed (ends t op rest) l h = after_one op t rest (is_listed rest) l h

functions_listed : (known : ProgramTables) (fs : List FunctionTree) (l : Listing)
    → l.filled + length (sites_in (tables_of known) (functions_in known) fs) ≤ length l.sites.items
    → Adds l (sites_in (tables_of known) (functions_in known) fs) (length (sites_in (tables_of known) (functions_in known) fs))
    (through_all listing_after no_mark known l fs)
functions_listed known [] l h = record { filled = omega arith; room = refl; are = sym (append_none (kept l)) }
functions_listed known (f ∷ fs) l h =
    let code = code_in known f in
    let others = sites_in (tables_of known) (functions_in known) fs in
    let n = counted code in
    let all = length-append (sites code) others in
    let x = is_listed (functions_of known) code l (omega (arith, n, all, h)) in
    let g = x.filled in
    let r = x.room in
    let s : Listing = through listing_after no_mark (functions_of known) l code in
    let y = functions_listed known fs s (omega (arith, g, r, n, all, h)) in
    let z = both l s (through_all listing_after no_mark known s fs) (sites code) others (size code) (length others) x y in
    let e : size code + length others ≡ length (sites code ++ others) = omega (arith, n, all) in
    subst (λ (k : ℕ). Adds l (sites code ++ others) k (through_all listing_after no_mark known s fs)) e z

-- with room for just these, they are all that is written
pub text_listed : (known : ProgramTables) (l : Listing) → l.filled ≡ 0 → length l.sites.items ≡ length (sites_of_text known)
    → (through_all listing_after no_mark known l (functions_in known)).sites.items ≡ map site (sites_of_text known)
text_listed known l e r =
    let t = through_all listing_after no_mark known l (functions_in known) in
    let x = functions_listed known (functions_in known) l (omega (arith, e, r)) in
    let f = x.filled in
    let m = x.room in
    let full : t.filled ≡ length t.sites.items = omega (arith, f, m, e, r) in
    sym (take-length t.sites.items) ∙ ap (λ (k : ℕ). take k t.sites.items) (sym full) ∙ x.are
    ∙ ap (λ (k : ℕ). take k l.sites.items ++ map site (sites_of_text known)) e
