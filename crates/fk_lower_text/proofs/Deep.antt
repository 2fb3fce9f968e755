-- A visitor with room for them tells the depths of all operations of code.
use Rattle.std.proofs.Common.{◌≡◌, ℕ, suc, ◌+◌, ◌-◌, ◌*◌, ◌^◌, ◌<◌, ◌≤◌, Bool, if◌then◌else◌, List, [], ◌∷◌, ◌++◌, length, take, Option, Some, None, refl, ◌∙◌, sym, ap, subst, arith, length-append}
use Rattle.std.proofs.lemmas.List.{append_assoc, append-nil, length-set, take_more_set}
use Rattle.std.proofs.lemmas.Bool.{lt-ltb}
use Rattle.std.proofs.Math.Seq.{take-length}
use Rattle.fk_meaning_operation.specs.declared.operation.Operation.{Operation}
use Rattle.fk_syntax.specs.Program.{FunctionTree}
use Rattle.fk_meaning_forms.specs.Code.{done, perform, choose, while, until, turn, again, quit, break, continue, call, ends, size, sites}
use Rattle.fk_meaning_forms.specs.Expressions.{Coded, Signature}
use Rattle.fk_meaning_forms.specs.Program.{sites_in}
use Rattle.fk_meaning_forms.proofs.Ranks.{counted}
use Rattle.fk_layout_walk.specs.declared.known.ProgramTables.{ProgramTables}
use Rattle.fk_layout_walk.specs.Known.{tables_of, functions_of}
use Rattle.fk_layout_walk_statements.specs.Texts.{functions_in, code_in}
use Rattle.fk_layout_walk.specs.declared.visitor.Event.TheVariants as v
use Rattle.fk_layout_walk.specs.Shown.{shown}
use Rattle.fk_layout_walk.specs.Through.{through}
use Rattle.fk_layout_sizes.specs.Operations.{takes, pushes, results}
use Rattle.fk_layout_sizes.specs.Measure.{plus}
use Rattle.fk_layout_sizes.specs.Places.{At, behind_operation, behind_call, behind, beginning}
use Rattle.fk_layout_sizes.proofs.Shown.{pushes_one, results_one, same_takes, same_pushes}
use Rattle.fk_lower_text.specs.declared.height.Height.{Height}
use Rattle.fk_lower_text.specs.declared.depths.Depths.{Depths}
use Rattle.fk_lower_text.specs.Height as h
use Rattle.fk_lower_text.specs.Height.{running, depth, high, performed}
use Rattle.fk_lower_text.specs.Laid.{sizes}
use Rattle.fk_lower_text.specs.Telling.{deeper, told_depth, depths_after, depths_mark, begun, through_functions}
use Rattle.fk_lower_text.specs.Depths.{depths_from, IsStraight, HasOpenings, depths_of, HaveOpenings}

-- what is told
abbrev kept : Depths → List ℕ
kept depths = take depths.filled depths.told.items

-- these more are told
record Adds (from : Depths) (ds : List ℕ) (to : Depths) : Type 0 where
  filled : to.filled ≡ from.filled + length ds
  room : length to.told.items ≡ length from.told.items
  are : kept to ≡ kept from ++ ds

-- where there is room for them; and so many values there are behind
record Tells (from : Depths) (ds : List ℕ) (last : Height) (to : Depths) : Type 0 where
  height : to.height ≡ last
  adds : from.filled + length ds ≤ length from.told.items → Adds from ds to

nothing : (from : Depths) (last : Height) → from.height ≡ last → Tells from [] last from
nothing from last e = record { height = e; adds = λ r. record { filled = omega arith; room = refl; are = sym (append-nil (kept from)) } }

both : {from to last : Depths} {xs ys : List ℕ} {a b : Height} → Tells from xs a to → Tells to ys b last → Tells from (xs ++ ys) b last
both {from = from} {to = to} {last = last} {xs = xs} {ys = ys} x y = record {
  height = y.height;
  adds = λ r.
      let n = length-append xs ys in
      let p = x.adds (omega (arith, r, n)) in
      let pf = p.filled in
      let pr = p.room in
      let q = y.adds (omega (arith, r, n, pf, pr)) in
      let qf = q.filled in
      record {
        filled = omega (arith, pf, qf, n);
        room = q.room ∙ p.room;
        are = q.are ∙ ap (λ (front : List ℕ). front ++ ys) p.are ∙ append_assoc (kept from) xs ys;
      };
}

-- behind what has no operation
quiet : {from to : Depths} {xs : List ℕ} {a : Height} → Tells from xs a to → (now last : Height) → now ≡ last → Tells from xs last (record to { height = now })
quiet x now last e = record { height = e; adds = λ r. (let p = x.adds r in record { filled = p.filled; room = p.room; are = p.are }) }

still : {from to : Depths} {xs : List ℕ} {a : Height} → Tells from xs a to → Tells from xs a (record to { height = to.height })
still {to = to} {a = a} x = quiet x to.height a x.height

-- behind an operation
one : (from : Depths) (values : ℕ) (now last : Height) → depth from.height ≡ values → now ≡ last
    → Tells from (values ∷ []) last (record (told_depth from) { height = now })
one from values now last is e = record {
  height = e;
  adds = λ r.
      let less : from.filled < length from.told.items = omega (arith, r) in
      let n = depth from.height in
      subst (λ (b : Bool). Adds from (values ∷ []) (record (if b then deeper from else from) { height = now }))
      (sym (lt-ltb from.filled (length from.told.items) less))
      (record {
        filled = omega arith;
        room = length-set from.told.items from.filled n;
        are = take_more_set from.told.items from.filled n less ∙ ap (λ m. kept from ++ m ∷ []) is;
      });
}

-- one that has room tells a depth
pub tells : (from : Depths) → from.filled < length from.told.items → deeper from ≡ told_depth from
tells from less = ap (λ (b : Bool). if b then deeper from else from) (sym (lt-ltb from.filled (length from.told.items) less))

-- ---- how many values there are

depth_is : (now : Height) (values : ℕ) (beginning : Option ℕ) → now ≡ high values beginning → running values beginning < 2 ^ 32
    → depth now ≡ running values beginning
depth_is now values beginning e low =
    let same : depth (high values beginning) ≡ running values beginning = omega (arith, low) in ap depth e ∙ same

performs : (values : ℕ) (op : Operation) → values + 1 < 2 ^ 32 → h.behind values (shown op) ≡ values - takes op + pushes op
performs values op low =
    let t = same_takes op values (omega (arith, low)) in
    let p = same_pushes op in
    let o = pushes_one op in
    omega (arith, t, p, o, low)

ran : (now : Height) (p : At) (op : Operation) → now ≡ high p.values None → p.values + 1 < 2 ^ 32
    → performed now (shown op) ≡ high (behind_operation p op).values None
ran now p op e low = ap (λ (now : Height). performed now (shown op)) e ∙ ap (λ n. high n None) (performs p.values op low)

-- in the opening of a call
ran_there : (now : Height) (outer : ℕ) (p : At) (op : Operation) → now ≡ high outer (Some p.values) → p.values + 1 < 2 ^ 32
    → performed now (shown op) ≡ high outer (Some (behind_operation p op).values)
ran_there now outer p op e low =
    ap (λ (now : Height). performed now (shown op)) e ∙ ap (λ n. high outer (Some n)) (performs p.values op low)

-- at the beginning of a call, and behind it
enters : (now : Height) (p : At) (op : Operation) → now ≡ high p.values None → p.values + 1 < 2 ^ 32
    → high (h.behind now.values (shown op)) (Some 0) ≡ high (behind_operation p op).values (Some 0)
enters now p op e low =
    ap (λ (now : Height). high (h.behind now.values (shown op)) (Some 0)) e ∙ ap (λ n. high n (Some 0)) (performs p.values op low)

comes_back : (entered : Height) (values : ℕ) (void : Bool) → entered ≡ high values (Some 0) → values + 1 < 2 ^ 32
    → high (plus entered.values (results void)) None ≡ high (values + results void) None
comes_back entered values void e low =
    let o = results_one void in
    let same : plus values (results void) ≡ values + results void = omega (arith, o, low) in
    ap (λ (entered : Height). high (plus entered.values (results void)) None) e ∙ ap (λ n. high n None) same

step : (from : Depths) (p : At) (op : Operation) → from.height ≡ high p.values None → p.values + 1 < 2 ^ 32
    → Tells from (p.values ∷ []) (high (behind_operation p op).values None) (record (told_depth from) { height = performed from.height (shown op) })
step from p op e low =
    one from p.values (performed from.height (shown op)) (high (behind_operation p op).values None)
    (depth_is from.height p.values None e (omega (arith, low))) (ran from.height p op e low)

module _ (functions : (binding : ℕ) → Signature) where
  abbrev past : Depths → Coded → Depths
  past depths code = through depths_after depths_mark functions depths code

  abbrev up : At → Coded → At
  up p code = behind functions p code

  abbrev all : At → Coded → List ℕ
  all p code = depths_from functions p code

  abbrev together : At → Operation → Coded → At
  together p op x = record { values = (up (behind_operation p op) x).values; nesting = p.nesting }

  -- two values more for each operation at most
  rises : (code : Coded) (p : At) → (up p code).values ≤ p.values + 2 * size code
  rises done p = omega arith
  rises (perform t op rest) p = omega (arith, pushes_one op, rises rest (behind_operation p op))
  rises (choose t op x y rest) p = omega (arith, pushes_one op, rises x (behind_operation p op), rises rest (together p op x))
  rises (while test body step rest) p =
      let b = up p test in
      let s = up b body in
      omega (arith, rises test p, rises body b, rises step s, rises rest (up s step))
  rises (until body test rest) p = let t = up p body in omega (arith, rises body p, rises test t, rises rest (up t test))
  rises (turn test body step rest) p =
      let b = up p test in
      let s = up b body in
      omega (arith, rises test p, rises body b, rises step s, rises rest (up s step))
  rises (again test body step rest) p =
      let b = up p test in
      let s = up b body in
      omega (arith, rises test p, rises body b, rises step s, rises rest (up s step))
  rises (quit t op rest) p = omega (arith, pushes_one op, rises rest (behind_operation p op))
  rises (break rest) p = rises rest p
  rises (continue rest) p = rises rest p
  rises (call t op f opening rest) p = omega (arith, pushes_one op, results_one (functions f).void, rises rest (behind_call functions p op f))
  rises (ends t op rest) p = omega (arith, pushes_one op, rises rest (behind_operation p op))

  three : (xs ys zs : List ℕ) (a b c : ℕ) → length xs ≡ a → length ys ≡ b → length zs ≡ c → length (xs ++ ys ++ zs) ≡ a + b + c
  three xs ys zs a b c e f g = omega (arith, length-append xs ys, length-append (xs ++ ys) zs, e, f, g)

  four : (xs ys zs ws : List ℕ) (a b c d : ℕ) → length xs ≡ a → length ys ≡ b → length zs ≡ c → length ws ≡ d → length (xs ++ ys ++ zs ++ ws) ≡ a + b + c + d
  four xs ys zs ws a b c d e f g h = omega (arith, length-append (xs ++ ys ++ zs) ws, three xs ys zs a b c e f g, h)

  -- one depth for each operation
  pub many : (code : Coded) (p : At) → length (all p code) ≡ size code
  many done p = refl
  many (perform t op rest) p = ap suc (many rest (behind_operation p op))
  many (choose t op x y rest) p =
      let q = behind_operation p op in
      let r = together p op x in
      ap suc (three (all q x) (all q y) (all r rest) (size x) (size y) (size rest) (many x q) (many y q) (many rest r))
  many (while test body step rest) p =
      let b = up p test in
      let s = up b body in
      let r = up s step in
      four (all p test) (all b body) (all s step) (all r rest) (size test) (size body) (size step) (size rest) (many test p) (many body b) (many step s) (many rest r)
  many (until body test rest) p =
      let t = up p body in
      let r = up t test in
      three (all p body) (all t test) (all r rest) (size body) (size test) (size rest) (many body p) (many test t) (many rest r)
  many (turn test body step rest) p =
      let b = up p test in
      let s = up b body in
      let r = up s step in
      four (all p test) (all b body) (all s step) (all r rest) (size test) (size body) (size step) (size rest) (many test p) (many body b) (many step s) (many rest r)
  many (again test body step rest) p =
      let b = up p test in
      let s = up b body in
      let r = up s step in
      four (all p test) (all b body) (all s step) (all r rest) (size test) (size body) (size step) (size rest) (many test p) (many body b) (many step s) (many rest r)
  many (quit t op rest) p = ap suc (many rest (behind_operation p op))
  many (break rest) p = many rest p
  many (continue rest) p = many rest p
  many (call t op f opening rest) p =
      let q = behind_call functions p op f in
      let c = length-append (all beginning opening) (all q rest) in
      omega (arith, c, many opening beginning, many rest q)
  many (ends t op rest) p = ap suc (many rest (behind_operation p op))

  opens : (code : Coded) → IsStraight code → (depths : Depths) (outer : ℕ) (p : At) → depths.height ≡ high outer (Some p.values)
      → p.values + 2 * size code < 2 ^ 32 → Tells depths (all p code) (high outer (Some (up p code).values)) (past depths code)
  opens done w depths outer p e low = nothing depths (high outer (Some p.values)) e
  opens (perform t op rest) w depths outer p e low =
      let q = behind_operation p op in
      let o = pushes_one op in
      let k = ran_there depths.height outer p op e (omega (arith, low)) in
      both (one depths p.values (performed depths.height (shown op)) (high outer (Some q.values))
      (depth_is depths.height outer (Some p.values) e (omega (arith, low))) k)
      (opens rest w (depths_after depths (v.Perform (shown op) t)) outer q k (omega (arith, o, low)))
  opens code w depths outer p e low = absurd w

  tells_all : (code : Coded) → HasOpenings code → (depths : Depths) (p : At) → depths.height ≡ high p.values None → p.values + 2 * size code < 2 ^ 32
      → Tells depths (all p code) (high (up p code).values None) (past depths code)
  tells_all done w depths p e low = nothing depths (high p.values None) e
  tells_all (perform t op rest) w depths p e low =
      let o = pushes_one op in
      let s = step depths p op e (omega (arith, low)) in
      both s (tells_all rest w (depths_after depths (v.Perform (shown op) t)) (behind_operation p op) s.height (omega (arith, o, low)))
  tells_all (choose t op x y rest) w depths p e low =
      let o = pushes_one op in
      let q = behind_operation p op in
      let r = together p op x in
      let first = depths_after depths (v.Choose (shown op) t) in
      let second = past first x in
      let aside = depths_after second (v.Aside (depths_mark first)) in
      let third = past aside y in
      let rx = rises x q in
      let s = step depths p op e (omega (arith, low)) in
      let a = tells_all x w.0 first q s.height (omega (arith, o, low)) in
      let b = quiet (both s a) (high first.height.values None) (high q.values None) (ap (λ (now : Height). high now.values None) s.height) in
      let c = tells_all y w.1 aside q b.height (omega (arith, o, low)) in
      let d = quiet (both b c) (high second.height.values None) (high r.values None) (ap (λ (now : Height). high now.values None) a.height) in
      both d (tells_all rest w.2 (depths_after third (v.Joined (depths_mark depths) (depths_mark second))) r d.height (omega (arith, o, rx, low)))
  tells_all (while test body step rest) w depths p e low =
      let b = up p test in
      let s = up b body in
      let r = up s step in
      let rt = rises test p in
      let rb = rises body b in
      let rs = rises step s in
      let first = depths_after depths v.While in
      let second = depths_after (past first test) v.Part in
      let third = depths_after (past second body) v.Part in
      let last = depths_after (past third step) v.Behind in
      let none = still (nothing depths (high p.values None) e) in
      let tested = still (both none (tells_all test w.0 first p e (omega (arith, low)))) in
      let turned = still (both tested (tells_all body w.1 second b tested.height (omega (arith, rt, low)))) in
      let stepped = still (both turned (tells_all step w.2 third s turned.height (omega (arith, rt, rb, low)))) in
      both stepped (tells_all rest w.3 last r stepped.height (omega (arith, rt, rb, rs, low)))
  tells_all (until body test rest) w depths p e low =
      let t = up p body in
      let r = up t test in
      let rb = rises body p in
      let rt = rises test t in
      let first = depths_after depths v.Until in
      let second = depths_after (past first body) v.Part in
      let last = depths_after (past second test) v.Behind in
      let none = still (nothing depths (high p.values None) e) in
      let turned = still (both none (tells_all body w.0 first p e (omega (arith, low)))) in
      let tested = still (both turned (tells_all test w.1 second t turned.height (omega (arith, rb, low)))) in
      both tested (tells_all rest w.2 last r tested.height (omega (arith, rb, rt, low)))
  tells_all (turn test body step rest) w depths p e low = absurd w
  tells_all (again test body step rest) w depths p e low = absurd w
  tells_all (quit t op rest) w depths p e low =
      let o = pushes_one op in
      let s = step depths p op e (omega (arith, low)) in
      both s (tells_all rest w (depths_after depths (v.Quit (shown op) t)) (behind_operation p op) s.height (omega (arith, o, low)))
  tells_all (break rest) w depths p e low =
      both (still (nothing depths (high p.values None) e)) (tells_all rest w (depths_after depths v.Break) p e low)
  tells_all (continue rest) w depths p e low =
      both (still (nothing depths (high p.values None) e)) (tells_all rest w (depths_after depths v.Continue) p e low)
  tells_all (call t op f opening rest) w depths p e low =
      let o = pushes_one op in
      let g = results_one (functions f).void in
      let q = behind_operation p op in
      let r = behind_call functions p op f in
      let entered = depths_after depths (v.Call (shown op) t f) in
      let opened = past entered opening in
      let now = depths.height in
      let s = one depths p.values (high (h.behind now.values (shown op)) (Some 0)) (high q.values (Some 0))
      (depth_is now p.values None e (omega (arith, low))) (enters now p op e (omega (arith, low))) in
      let a = opens opening w.0 entered q.values beginning s.height (omega (arith, low)) in
      let b = quiet (both s a) (high (plus entered.height.values (results (functions f).void)) None) (high r.values None)
      (comes_back entered.height q.values (functions f).void s.height (omega (arith, o, low))) in
      both b (tells_all rest w.1 (depths_after opened (v.Returned (depths_mark entered) (functions f).void)) r b.height (omega (arith, o, g, low)))
  tells_all (ends t op rest) w depths p e low =
      let o = pushes_one op in
      let s = step depths p op e (omega (arith, low)) in
      both s (tells_all rest w (depths_after depths (v.Ends (shown op) t)) (behind_operation p op) s.height (omega (arith, o, low)))

-- ---- a text

module _ (known : ProgramTables) where
  -- a depth for each site
  pub each : (fs : List FunctionTree) → length (depths_of known fs) ≡ length (sites_in (tables_of known) (functions_in known) fs)
  each [] = refl
  each (f ∷ fs) =
      let code = code_in known f in
      omega (
        arith,
        length-append (depths_from (functions_of known) beginning code) (depths_of known fs),
        length-append (sites code) (sites_in (tables_of known) (functions_in known) fs),
        many (functions_of known) code beginning,
        counted code,
        each fs,
      )

  pub sites_sized : (fs : List FunctionTree) → length (sites_in (tables_of known) (functions_in known) fs) ≡ sizes known fs
  sites_sized [] = refl
  sites_sized (f ∷ fs) =
      let code = code_in known f in
      omega (arith, length-append (sites code) (sites_in (tables_of known) (functions_in known) fs), counted code, sites_sized fs)

  tells_text : (fs : List FunctionTree) → HaveOpenings known fs → (from : Depths) → 2 * length (depths_of known fs) < 2 ^ 32
      → from.filled + length (depths_of known fs) ≤ length from.told.items → Adds from (depths_of known fs) (through_functions known from fs)
  tells_text [] w from few room = record { filled = omega arith; room = refl; are = sym (append-nil (kept from)) }
  tells_text (f ∷ fs) w from few room =
      let code = code_in known f in
      let own = depths_from (functions_of known) beginning code in
      let others = depths_of known fs in
      let n = length-append own others in
      let m = many (functions_of known) code beginning in
      let first = tells_all (functions_of known) code w.0 (begun from) beginning refl (omega (arith, few, n, m)) in
      let a = first.adds (omega (arith, room, n)) in
      let af = a.filled in
      let ar = a.room in
      let b = tells_text fs w.1 (past (functions_of known) (begun from) code) (omega (arith, few, n)) (omega (arith, room, n, af, ar)) in
      let bf = b.filled in
      record {
        filled = omega (arith, af, bf, n);
        room = b.room ∙ a.room;
        are = b.are ∙ ap (λ (front : List ℕ). front ++ others) a.are ∙ append_assoc (kept from) own others;
      }

  -- with room for just these, they are all that is told
  pub all_told : (fs : List FunctionTree) → HaveOpenings known fs → 2 * length (depths_of known fs) < 2 ^ 32 → (first last : Depths)
      → last ≡ through_functions known first fs → first.filled ≡ 0 → length first.told.items ≡ length (depths_of known fs)
      → last.told.items ≡ depths_of known fs
  all_told fs w few first last e z n =
      let end = through_functions known first fs in
      let a = tells_text fs w first few (omega (arith, z, n)) in
      let f = a.filled in
      let r = a.room in
      let full : end.filled ≡ length end.told.items = omega (arith, f, r, z, n) in
      ap (λ (depths : Depths). depths.told.items) e
      ∙ sym (take-length end.told.items) ∙ ap (λ (k : ℕ). take k end.told.items) (sym full)
      ∙ a.are ∙ ap (λ (k : ℕ). take k first.told.items ++ depths_of known fs) z
