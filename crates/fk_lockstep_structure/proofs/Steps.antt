-- An operation of framed code goes on as is asked of calls and frames.
use Rattle.std.proofs.Common.{◌≡◌, ℕ, zero, suc, Bool, true, false, true≢false, not, List, [], ◌∷◌, ◌++◌, map, length, Option, Some, None, ◌⊎◌, inl, inr, ap, ◌∙◌, sym, refl, subst, arith}
use Rattle.std.specs.Prelude.{if◌then◌else◌}
use Rattle.fk_meaning_operation.specs.declared.operation.Operation.{Operation}
use Rattle.fk_meaning_operation.specs.declared.operation.Operation.TheVariants as o
use Rattle.fk_meaning_operation.specs.declared.operation.SplitKind.{SplitKind}
use Rattle.fk_meaning_operation.specs.declared.operation.SplitKind.TheVariants.{IfElse}
use Rattle.fk_meaning.specs.Round.{Step}
use Rattle.fk_meaning_forms.specs.Code.{Code, done, perform, choose, while, until, turn, again, quit, break, continue, call, ends, append}
use Rattle.fk_meaning.specs.Left.{broken, settled}
use Rattle.fk_meaning.specs.Next.{Work, going, returned, step, step_of, next}
use Rattle.fk_meaning.specs.Behind.{opens_body, is_shrink, tail, past, works, waiting}
use Rattle.fk_meaning.specs.Shape.{Exits, none, of_function, of_arm, of_way, splits, has_two_parts, confines, waits, is_performed, is_chosen, is_quit, is_of_call, begins, meets, Shape}
use Rattle.fk_meaning.proofs.Spine.{untrue, past_append, past_none, begins_settled}
use Rattle.fk_meaning.proofs.Nested.{QuitFits, Allows, Nested, settles, nested_broken, body_nested, nested_before, nested_append, way_allows, no_exits, whole_past, whole_nested}
use Rattle.fk_lockstep.specs.Frames as f
use Rattle.fk_lockstep.specs.Frames.{Calling, Enters, Leaves, Remains, calling, takes_space, is_own_frame, is_start, is_split, one_less, is_none_round, round_after, alone_after, NoDeeper, Higher, AsDeep, FramesGoOn}
use Rattle.fk_lockstep_structure.specs.Placed.{Who, OfGroup, OfBody, OfMain, is_group, is_main, callee_of}
use Rattle.fk_lockstep_structure.specs.Ahead.{starts_in, outermost, all_outs}
use Rattle.fk_lockstep_structure.specs.Framed.{is_resume, resumes, is_body, Framed, AreFramed, depth}
use Rattle.fk_lockstep_structure.proofs.Left.{who_behind, who_in, who_of_part, resumes_begin, resumes_meet, Left, append_left, broken_left, settled_left, body_left, opening_left, whole_left}

-- ---- who calls, and how many groups are round a processor's own

abbrev pub outer_of : List (Code ℕ) → Who
outer_of [] = OfMain false
outer_of (code ∷ callers) = callee_of (who_in (outer_of callers) code)

abbrev pub is_alone : Who → Bool
is_alone who = not (is_group who)

abbrev pub rounds_in : List (Code ℕ) → (others : ℕ) → ℕ
rounds_in [] n = n
rounds_in (code ∷ codes) n = if meets code then rounds_in codes n else suc (rounds_in codes n)

abbrev pub rounds_of : (callers : List (Code ℕ)) → ℕ
rounds_of [] = 0
rounds_of (code ∷ callers) = rounds_in (past code) (rounds_of callers)

abbrev pub rounds : List (Code ℕ) → (callers : List (Code ℕ)) → ℕ
rounds codes callers = rounds_in codes (rounds_of callers)

callee_alone : (who : Who) → is_alone (callee_of who) ≡ is_alone who
callee_alone OfGroup = refl
callee_alone OfBody = refl
callee_alone (OfMain b) = refl

callee_no_main : (who : Who) → is_main (callee_of who) ≡ false
callee_no_main OfGroup = refl
callee_no_main OfBody = refl
callee_no_main (OfMain b) = refl

is_the_group : (who : Who) → is_group who ≡ true → who ≡ OfGroup
is_the_group OfGroup e = refl
is_the_group OfBody e = untrue e
is_the_group (OfMain b) e = untrue e

-- who isn't in a body is in a group, or in `main` outside of all
none_round : (codes callers : List (Code ℕ)) → is_body (who_behind (outer_of callers) codes) ≡ false
    → is_none_round (rounds codes callers) ≡ is_alone (who_behind (outer_of callers) codes)
none_round [] [] h = refl
none_round [] (code ∷ callers) h =
    let who = who_in (outer_of callers) code in
    none_round (past code) callers (as_called who h) ∙ sym (callee_alone who)
  where
    as_called : (who : Who) → is_body (callee_of who) ≡ false → is_body who ≡ false
    as_called OfGroup e = refl
    as_called OfBody e = e
    as_called (OfMain b) e = refl
none_round (code ∷ codes) callers h = by (meets code) h
  where
    by : (b : Bool) → is_body (if b then OfBody else OfGroup) ≡ false
        → is_none_round (if b then rounds codes callers else suc (rounds codes callers)) ≡ is_alone (if b then OfBody else OfGroup)
    by true e = absurd (true≢false e)
    by false e = refl

main_alone : (codes callers : List (Code ℕ)) → is_main (who_behind (outer_of callers) codes) ≡ true → length callers ≡ 0
main_alone [] [] h = refl
main_alone [] (code ∷ callers) h = absurd (true≢false (sym h ∙ callee_no_main (who_in (outer_of callers) code)))
main_alone (code ∷ codes) callers h = by (meets code) h
  where
    by : (b : Bool) → is_main (if b then OfBody else OfGroup) ≡ true → length callers ≡ 0
    by true e = untrue e
    by false e = untrue e

-- before what resumes there is one more group, and before what closes a body there is not
one_round : (code : Code ℕ) (codes callers : List (Code ℕ)) → resumes code ≡ true → rounds (code ∷ codes) callers ≡ suc (rounds codes callers)
one_round code codes callers e = ap (λ b. if b then rounds codes callers else suc (rounds codes callers)) (resumes_meet code e)

same_round : (code : Code ℕ) (codes callers : List (Code ℕ)) → meets code ≡ true → rounds (code ∷ codes) callers ≡ rounds codes callers
same_round code codes callers e = ap (λ b. if b then rounds codes callers else suc (rounds codes callers)) e

-- ---- where others are met

abbrev roots : List (Code ℕ) → List Work
roots codes = map (λ code. let at : Work = record { left = code; callers = [] } in at) codes

abbrev met : List (Code ℕ) → (callers : List (Code ℕ)) → List (Code ℕ) → List Work
met codes callers ahead = (works callers codes ++ waiting callers) ++ roots ahead

module _ (bodies : ℕ → Code ℕ) where
  abbrev Up : ℕ → List Work → Type 0
  Up = Higher (next bodies) all_outs depth

  abbrev Down : ℕ → List Work → Type 0
  Down = NoDeeper (next bodies) all_outs depth

  higher_roots : (d : ℕ) (ahead : List (Code ℕ)) → Up (suc d) (roots ahead)
  higher_roots d [] = tt
  higher_roots d (code ∷ codes) = omega arith

  higher : (codes : List (Code ℕ)) (callers ahead : List (Code ℕ)) → Up (suc (length callers)) (met codes callers ahead)
  higher [] [] ahead = higher_roots 0 ahead
  higher [] (code ∷ callers) ahead = raised (met (past code) callers ahead) (higher (past code) callers ahead)
    where
      raised : (ws : List Work) → Up (suc (length callers)) ws → Up (suc (suc (length callers))) ws
      raised [] h = tt
      raised (w ∷ ws) h = omega (arith, h)
  higher (code ∷ codes) callers ahead = omega arith

  no_deeper : (d : ℕ) (ws : List Work) → Up (suc d) ws → Down d ws
  no_deeper d [] h = tt
  no_deeper d (w ∷ ws) h = omega (arith, h)

-- ---- what is so of a processor, round whose group there are so many, and which runs by itself or not

pub record Stands (may_call : (in_group : Bool) → (function : ℕ) → Bool) (round : ℕ) (by_itself : Bool) (code : Code ℕ) (callers : List (Code ℕ)) : Type 0 where
  pub left : Left may_call (outer_of callers) code
  pub many : round ≡ rounds (past code) callers
  pub alone : (by_itself ≡ is_alone (who_in (outer_of callers) code)) ⊎ (resumes code ≡ true)

module _ (may_call : (in_group : Bool) → (function : ℕ) → Bool) where
  abbrev pub AllLeft : List (Code ℕ) → Type 0
  AllLeft [] = Unit {0}
  AllLeft (code ∷ callers) = Left may_call (outer_of callers) code × AllLeft callers

  abbrev pub AllNested : List (Code ℕ) → Type 0
  AllNested [] = Unit {0}
  AllNested (code ∷ callers) = Nested code × AllNested callers

  pub record WorkStands (round : ℕ) (alone : Bool) (work : Work) : Type 0 where
    pub nested : Nested work.left
    pub stands : Stands may_call round alone work.left work.callers
    pub callers_nested : AllNested work.callers
    pub callers_left : AllLeft work.callers

  pub goes : (round : ℕ) (alone : Bool) (code : Code ℕ) (callers : List (Code ℕ)) → Nested code → Stands may_call round alone code callers → AllNested callers → AllLeft callers
      → WorkStands round alone (going code callers)
  goes round alone code callers n h k l =
      let r = settles code n in
      record {
        nested = r.nested;
        stands = record {
          left = settled_left may_call (outer_of callers) code n h.left;
          many = h.many ∙ ap (λ cs. rounds cs callers) (sym r.same);
          alone = elim h.alone [
            | inl e ↦ inl (e ∙ ap (λ cs. is_alone (who_behind (outer_of callers) cs)) (sym r.same))
            | inr e ↦ inr (ap resumes (begins_settled code (resumes_begin code e)) ∙ e)
          ];
        };
        callers_nested = k;
        callers_left = l;
      }

  module _ (bodies : ℕ → Code ℕ) where
    abbrev GoesOn : ℕ → Bool → Operation → Work → (Bool → Work) → Type 0
    GoesOn round alone op here rest = FramesGoOn (next bodies) all_outs depth (λ r a w. WorkStands r a w) round alone op here rest

    abbrev at : Code ℕ → List (Code ℕ) → Work
    at code callers = record { left = code; callers = callers }

    -- ---- an operation of its own

    resumes_settled : (code : Code ℕ) → resumes code ≡ true → resumes (settled code) ≡ true
    resumes_settled code e = ap resumes (begins_settled code (resumes_begin code e)) ∙ e

    performed_rounds : (round : ℕ) (alone : Bool) (t : ℕ) (op : Operation) (rest : Code ℕ) (callers : List (Code ℕ)) (onward : Bool) → is_performed op ≡ true
        → Stands may_call round alone (perform t op rest) callers → round_after op onward round ≡ rounds (past rest) callers
    performed_rounds round alone t (o.Split by) rest callers onward is h = untrue is
    performed_rounds round alone t o.Begin rest callers onward is h = untrue is
    performed_rounds round alone t o.Shrink rest callers onward is h = untrue is
    performed_rounds round alone t o.End rest callers onward is h =
        ap one_less (h.many ∙ one_round (settled rest) (past rest) callers (resumes_settled rest (h.left.0.ends refl)))
    performed_rounds round alone t (o.Meet true) rest callers onward is h =
        h.many ∙ same_round (perform t (o.Meet true) rest) (past rest) callers refl
    performed_rounds round alone t op rest callers onward is h = h.many

    performed_alone : (round : ℕ) (alone : Bool) (t : ℕ) (op : Operation) (rest : Code ℕ) (callers : List (Code ℕ)) → is_performed op ≡ true
        → Stands may_call round alone (perform t op rest) callers
        → (alone_after op round alone ≡ is_alone (who_in (outer_of callers) rest)) ⊎ (resumes rest ≡ true)
    performed_alone round alone t o.Begin rest callers is h = untrue is
    performed_alone round alone t o.Farm rest callers is h = untrue is
    performed_alone round alone t o.Seq rest callers is h = untrue is
    performed_alone round alone t (o.Meet true) rest callers is h = inl (sym (ap not (h.left.0.stays.closes refl)))
    performed_alone round alone t o.Resume rest callers is h =
        inl (ap is_none_round h.many ∙ none_round (past rest) callers (h.left.0.stays.resumes refl))
    performed_alone round alone t o.End rest callers is h = inr (h.left.0.ends refl)
    performed_alone round alone t op rest callers is h = elim h.alone [ inl e ↦ inl e | inr e ↦ untrue e ]

    takes_no_resume : (op : Operation) → takes_space op ≡ true → is_resume op ≡ true → ⊥
    takes_no_resume o.Resume e g = true≢false (sym e)
    takes_no_resume op e g = true≢false (sym g)

    in_group_alone : (alone : Bool) (op : Operation) (who : Who) → ((alone ≡ is_alone who) ⊎ (is_resume op ≡ true)) → is_group who ≡ true → takes_space op ≡ true → alone ≡ false
    in_group_alone alone op who h g e = elim h [ inl a ↦ a ∙ ap not g | inr r ↦ absurd (takes_no_resume op e r) ]

    own_up : (codes callers ahead : List (Code ℕ)) → codes ≡ [] → is_main (outer_of callers) ≡ false → Up bodies (length callers) (met codes callers ahead)
    own_up codes [] ahead e m = absurd (true≢false m)
    own_up codes (code ∷ callers) ahead e m =
        subst (λ cs. Up bodies (suc (length callers)) (met cs (code ∷ callers) ahead)) (sym e) (higher bodies (past code) callers ahead)

    -- what neither begins a group nor splits one
    performed_starts : (op : Operation) → is_performed op ≡ true → is_start op ≡ false
    performed_starts o.Begin is = untrue is
    performed_starts op is = refl

    performed_splits : (op : Operation) → is_performed op ≡ true → is_split op ≡ false
    performed_splits (o.Split by) is = untrue is
    performed_splits op is = refl

    performs : (round : ℕ) (alone : Bool) (t : ℕ) (op : Operation) (rest left : Code ℕ) (callers : List (Code ℕ)) → past left ≡ past (perform t op rest) → is_performed op ≡ true
        → Nested rest → Stands may_call round alone (perform t op rest) callers → AllNested callers → AllLeft callers
        → GoesOn round alone op (at left callers) (λ onward. going rest callers)
    performs round alone t op rest left callers same is n h k l = record {
      calls = subst (λ c. f.Calls (next bodies) all_outs depth c (at left callers) (λ onward. going rest callers)) (sym h.left.0.stays.remains) (λ onward. refl);
      in_group = λ e. in_group_alone alone op (who_in (outer_of callers) (perform t op rest)) h.alone (h.left.0.stays.in_group e) e;
      own = λ e. let o = h.left.0.own e in own_up (past left) callers (starts_in (outermost left callers)) (same ∙ o.0) o.1;
      outermost = λ e. absurd (true≢false (sym e ∙ performed_starts op is));
      met = λ e. absurd (true≢false (sym e ∙ performed_splits op is));
      goes_on = λ onward. goes (round_after op onward round) (alone_after op round alone) rest callers n
          (record { left = h.left.1; many = performed_rounds round alone t op rest callers onward is h; alone = performed_alone round alone t op rest callers is h }) k l;
    }

    -- ---- a choice
    in_way : (op : Operation) (x : Exits) (part : Bool) (a rest : Code ℕ) → Shape part false (of_way op x) a → Nested rest → (confines op ≡ false → Allows x rest)
        → (part ≡ true → confines op ≡ true) → (part ≡ true → begins rest ≡ true) → Nested (append a rest)
    in_way op x part a rest s h allows quiet begin =
        nested_append part false (of_way op x) a rest s h (way_allows (confines op) x rest allows)
        (λ e. ap (λ b. if b then none else record x { tests = false; shrinking = false }) (quiet e)) begin

    splits_confine : (op : Operation) → splits op ≡ true → confines op ≡ true
    splits_confine o.Begin e = refl
    splits_confine (o.Split by) e = refl
    splits_confine op e = untrue e

    two_confine : (op : Operation) → has_two_parts op ≡ true → splits op ≡ true
    two_confine (o.Split IfElse) e = refl
    two_confine (o.Split by) e = untrue e
    two_confine op e = untrue e

    record Chosen (t : ℕ) (op : Operation) (a b rest : Code ℕ) (callers : List (Code ℕ)) : Type 0 where
      x : Exits
      first : Shape (splits op) false (of_way op x) a
      second : Shape (has_two_parts op) false (of_way op x) b
      waits : waits op ≡ true → b ≡ done
      meets : opens_body op ≡ true → meets rest ≡ true
      first_nested : Nested (append a rest)
      second_nested : Nested (append b rest)
      nested : Nested rest

    abbrev aside : (a b rest : Code ℕ) → Bool → Code ℕ
    aside a b rest onward = append (if onward then a else b) rest

    -- an arm of a branch
    arm_stands : (round : ℕ) (alone : Bool) (t : ℕ) (x : Exits) (a rest : Code ℕ) (callers : List (Code ℕ)) → Shape false false (of_arm x) a → Framed may_call (who_in (outer_of callers) rest) a
        → Left may_call (outer_of callers) rest → round ≡ rounds (past rest) callers → alone ≡ is_alone (who_in (outer_of callers) rest)
        → Stands may_call round alone (append a rest) callers
    arm_stands round alone t x a rest callers s p h r e =
        let outer = outer_of callers in
        let same = past_append false false (of_arm x) a rest s in
        record {
          left = append_left may_call outer false false (of_arm x) (who_in outer rest) a rest s p (record { in_part = λ i. untrue i; as_behind = λ i. refl; shrinking = λ i. untrue i }) h;
          many = r ∙ ap (λ cs. rounds cs callers) (sym same);
          alone = inl (e ∙ ap (λ cs. is_alone (who_behind outer cs)) (sym same));
        }

    -- a part, with one more group round it
    part_stands : (round : ℕ) (a rest : Code ℕ) (callers : List (Code ℕ)) → Shape true false none a → Framed may_call OfGroup a → resumes rest ≡ true
        → Left may_call (outer_of callers) rest → round ≡ rounds (past rest) callers
        → Stands may_call (suc round) false (append a rest) callers
    part_stands round a rest callers s p q h r =
        let outer = outer_of callers in
        let same = past_append true false none a rest s in
        record {
          left = append_left may_call outer true false none OfGroup a rest s p (record { in_part = λ i. (refl, q); as_behind = λ i. absurd (true≢false i); shrinking = λ i. untrue i }) h;
          many = ap suc r ∙ sym (one_round (settled rest) (past rest) callers (resumes_settled rest q)) ∙ ap (λ cs. rounds cs callers) (sym same);
          alone = inl (ap is_alone (sym (who_of_part outer rest (past rest) q)) ∙ ap (λ cs. is_alone (who_behind outer cs)) (sym same));
        }

    -- a body
    meets_past : (rest : Code ℕ) → meets rest ≡ true → past rest ≡ settled rest ∷ tail (past rest)
    meets_past (perform t (o.Meet true) rest) e = refl
    meets_past (perform t op rest) e = untrue e
    meets_past code e = untrue e

    meets_settled : (rest : Code ℕ) → meets rest ≡ true → settled rest ≡ rest
    meets_settled (perform t op rest) e = refl
    meets_settled code e = untrue e

    meets_who : (outer : Who) (rest : Code ℕ) → meets rest ≡ true → who_in outer rest ≡ OfBody
    meets_who outer rest e =
        ap (who_behind outer) (meets_past rest e ∙ ap (λ c. c ∷ tail (past rest)) (meets_settled rest e)) ∙ ap (λ b. if b then OfBody else OfGroup) e

    meets_rounds : (rest : Code ℕ) (callers : List (Code ℕ)) → meets rest ≡ true → rounds (past rest) callers ≡ rounds (tail (past rest)) callers
    meets_rounds rest callers e =
        ap (λ cs. rounds cs callers) (meets_past rest e ∙ ap (λ c. c ∷ tail (past rest)) (meets_settled rest e))
        ∙ same_round rest (tail (past rest)) callers e

    body_stands : (round : ℕ) (a rest : Code ℕ) (callers : List (Code ℕ)) → Shape false false none a → Framed may_call OfBody a → meets rest ≡ true
        → Left may_call (outer_of callers) rest → round ≡ rounds (tail (past rest)) callers
        → Stands may_call round true (append a rest) callers
    body_stands round a rest callers s p q h r =
        let outer = outer_of callers in
        let same = past_append false false none a rest s in
        record {
          left = append_left may_call outer false false none OfBody a rest s p (record { in_part = λ i. untrue i; as_behind = λ i. meets_who outer rest q; shrinking = λ i. untrue i }) h;
          many = r ∙ sym (meets_rounds rest callers q) ∙ ap (λ cs. rounds cs callers) (sym same);
          alone = inl (ap is_alone (sym (meets_who outer rest q)) ∙ ap (λ cs. is_alone (who_behind outer cs)) (sym same));
        }

    -- nothing is done on the second way
    nothing_stands : (round : ℕ) (alone : Bool) (b rest : Code ℕ) (callers : List (Code ℕ)) → b ≡ done → Stands may_call round alone rest callers
        → Stands may_call round alone (append b rest) callers
    nothing_stands round alone b rest callers e h = subst (λ c. Stands may_call round alone (append c rest) callers) (sym e) h

    -- where a part is entered, others are met behind it, in the same call
    part_met : (a rest : Code ℕ) (callers : List (Code ℕ)) → Shape true false none a → Nested (append a rest)
        → AsDeep (next bodies) all_outs depth (length callers) (all_outs (going (append a rest) callers))
    part_met a rest callers s n =
        subst (λ cs. AsDeep (next bodies) all_outs depth (length callers) (met cs callers (starts_in (outermost (settled (append a rest)) callers))))
        (sym ((settles (append a rest) n).same ∙ past_append true false none a rest s)) refl

    -- each choice, with who it is that chooses
    module _ (round : ℕ) (alone : Bool) (t : ℕ) (a b rest left : Code ℕ) (callers : List (Code ℕ)) (k : AllNested callers) (l : AllLeft callers) where
      abbrev here_at : Work
      here_at = at left callers

      abbrev way : Bool → Work
      way onward = going (aside a b rest onward) callers

      plain_alone : (op : Operation) → Stands may_call round alone (choose t op a b rest) callers → alone ≡ is_alone (who_in (outer_of callers) (choose t op a b rest))
      plain_alone op h = elim h.alone [ inl e ↦ e | inr e ↦ untrue e ]

      branches : (on : Bool) → Chosen t (o.Branch on) a b rest callers → Stands may_call round alone (choose t (o.Branch on) a b rest) callers → GoesOn round alone (o.Branch on) here_at way
      branches on c h = record {
        calls = λ onward. refl;
        in_group = λ e. untrue e;
        own = λ e. untrue e;
        outermost = λ e. untrue e;
        met = λ e. untrue e;
        goes_on = by;
      }
        where
          by : (onward : Bool) → WorkStands round alone (way onward)
          by true = goes round alone (append a rest) callers c.first_nested (arm_stands round alone t c.x a rest callers c.first h.left.0.1 h.left.2 h.many (plain_alone (o.Branch on) h)) k l
          by false = goes round alone (append b rest) callers c.second_nested (arm_stands round alone t c.x b rest callers c.second h.left.0.2 h.left.2 h.many (plain_alone (o.Branch on) h)) k l

      -- groups split
      group_of : (op : Operation) → Stands may_call round alone (choose t op a b rest) callers → is_group (who_in (outer_of callers) (choose t op a b rest)) ≡ true → alone ≡ false
      group_of op h g = plain_alone op h ∙ ap not g

      of_group : (who : Who) (code : Code ℕ) → is_group who ≡ true → Framed may_call who code → Framed may_call OfGroup code
      of_group who code g p = subst (λ w. Framed may_call w code) (is_the_group who g) p

      resumed : (alone' : Bool) → ((alone' ≡ is_alone (who_in (outer_of callers) rest)) ⊎ (resumes rest ≡ true)) → Left may_call (outer_of callers) rest → round ≡ rounds (past rest) callers
          → Nested rest → b ≡ done → WorkStands round alone' (way false)
      resumed alone' e h r n is =
          subst (λ c. WorkStands round alone' (going (append c rest) callers)) (sym is)
          (goes round alone' rest callers n (record { left = h; many = r; alone = e }) k l)

      divides : (by : SplitKind) → Chosen t (o.Split by) a b rest callers → Stands may_call round alone (choose t (o.Split by) a b rest) callers → GoesOn round alone (o.Split by) here_at way
      divides IfElse c h =
          let who = who_in (outer_of callers) (choose t (o.Split IfElse) a b rest) in
          let g = h.left.0.0.divides refl in
          record {
            calls = λ onward. refl;
            in_group = λ e. untrue e;
            own = λ e. untrue e;
            outermost = λ e. untrue e;
            met = λ e. part_met a rest callers c.first c.first_nested;
            goes_on = λ onward. subst (λ d. WorkStands (suc round) d (way onward)) (sym (group_of (o.Split IfElse) h g)) (each onward);
          }
        where
          each : (onward : Bool) → WorkStands (suc round) false (way onward)
          each true = goes (suc round) false (append a rest) callers c.first_nested
              (part_stands round a rest callers c.first (of_group (who_in (outer_of callers) (choose t (o.Split IfElse) a b rest)) a (h.left.0.0.divides refl) h.left.0.1) (h.left.1 refl) h.left.2 h.many) k l
          each false = goes (suc round) false (append b rest) callers c.second_nested
              (part_stands round b rest callers c.second (of_group (who_in (outer_of callers) (choose t (o.Split IfElse) a b rest)) b (h.left.0.0.divides refl) h.left.0.2) (h.left.1 refl) h.left.2 h.many) k l
      divides by c h = record {
        calls = λ onward. refl;
        in_group = λ e. untrue e;
        own = λ e. untrue e;
        outermost = λ e. untrue e;
        met = λ e. part_met a rest callers c.first c.first_nested;
        goes_on = each;
      }
        where
          each : (onward : Bool) → WorkStands (round_after (o.Split by) onward round) alone (way onward)
          each true =
              subst (λ d. WorkStands (suc round) d (way true)) (sym (group_of (o.Split by) h (h.left.0.0.divides refl)))
              (goes (suc round) false (append a rest) callers c.first_nested
              (part_stands round a rest callers c.first (of_group (who_in (outer_of callers) (choose t (o.Split by) a b rest)) a (h.left.0.0.divides refl) h.left.0.1) (h.left.1 refl) h.left.2 h.many) k l)
          each false = resumed alone (inr (h.left.1 refl)) h.left.2 h.many c.nested (c.waits refl)

      starts_one : Chosen t o.Begin a b rest callers → Stands may_call round alone (choose t o.Begin a b rest) callers → GoesOn round alone o.Begin here_at way
      starts_one c h = record {
        calls = λ onward. refl;
        in_group = λ e. untrue e;
        own = λ e. untrue e;
        outermost = λ e. main_alone (past rest) callers (h.left.0.0.starts refl);
        met = λ e. untrue e;
        goes_on = each;
      }
        where
          each : (onward : Bool) → WorkStands (round_after o.Begin onward round) false (way onward)
          each true = goes (suc round) false (append a rest) callers c.first_nested
              (part_stands round a rest callers c.first h.left.0.1 (h.left.1 refl) h.left.2 h.many) k l
          each false = resumed false (inr (h.left.1 refl)) h.left.2 h.many c.nested (c.waits refl)

      bodies_open : (op : Operation) → opens_body op ≡ true → Shape false false none a → Framed may_call OfBody a → b ≡ done → Chosen t op a b rest callers
          → Left may_call (outer_of callers) rest → round ≡ rounds (tail (past rest)) callers → (onward : Bool) → WorkStands round true (way onward)
      bodies_open op e s p is c h r true = goes round true (append a rest) callers c.first_nested (body_stands round a rest callers s p (c.meets e) h r) k l
      bodies_open op e s p is c h r false =
          resumed true (inl (ap is_alone (sym (meets_who (outer_of callers) rest (c.meets e))))) h (r ∙ sym (meets_rounds rest callers (c.meets e))) c.nested is

      chooses : (op : Operation) → is_chosen op ≡ true → Chosen t op a b rest callers → Stands may_call round alone (choose t op a b rest) callers → GoesOn round alone op here_at way
      chooses (o.Branch on) is c h = branches on c h
      chooses (o.Split by) is c h = divides by c h
      chooses o.Begin is c h = starts_one c h
      chooses o.Farm is c h = record {
        calls = λ onward. refl;
        in_group = λ e. untrue e;
        own = λ e. untrue e;
        outermost = λ e. untrue e;
        met = λ e. untrue e;
        goes_on = bodies_open o.Farm refl c.first h.left.0.1 (c.waits refl) c h.left.2 h.many;
      }
      chooses o.Seq is c h = record {
        calls = λ onward. refl;
        in_group = λ e. untrue e;
        own = λ e. untrue e;
        outermost = λ e. untrue e;
        met = λ e. untrue e;
        goes_on = bodies_open o.Seq refl c.first h.left.0.1 (c.waits refl) c h.left.2 h.many;
      }
      chooses op is c h = untrue is

    -- ---- what leaves a loop by its test
    quits : (round : ℕ) (alone : Bool) (t : ℕ) (op : Operation) (rest left : Code ℕ) (callers : List (Code ℕ)) → is_quit op ≡ true → QuitFits (is_shrink op) rest → Nested rest
        → Stands may_call round alone (quit t op rest) callers → AllNested callers → AllLeft callers
        → GoesOn round alone op (at left callers) (λ onward. going (if onward then rest else broken rest) callers)
    quits round alone t (o.Branch on) rest left callers is fits n h k l = record {
      calls = λ onward. refl;
      in_group = λ e. untrue e;
      own = λ e. untrue e;
      outermost = λ e. untrue e;
      met = λ e. untrue e;
      goes_on = by;
    }
      where
        same : alone ≡ is_alone (who_in (outer_of callers) rest)
        same = elim h.alone [ inl e ↦ e | inr e ↦ untrue e ]

        by : (onward : Bool) → WorkStands round alone (going (if onward then rest else broken rest) callers)
        by true = goes round alone rest callers n (record { left = h.left.1; many = h.many; alone = inl same }) k l
        by false = goes round alone (broken rest) callers (nested_broken rest n)
            (record {
              left = broken_left may_call (outer_of callers) rest h.left.1;
              many = h.many ∙ ap (λ cs. rounds cs callers) (sym fits);
              alone = inl (same ∙ ap (λ cs. is_alone (who_behind (outer_of callers) cs)) (sym fits));
            }) k l
    quits round alone t o.Shrink rest left callers is fits n h k l = record {
      calls = λ onward. refl;
      in_group = λ e. untrue e;
      own = λ e. untrue e;
      outermost = λ e. untrue e;
      met = λ e. untrue e;
      goes_on = by;
    }
      where
        same : alone ≡ is_alone (who_in (outer_of callers) rest)
        same = elim h.alone [ inl e ↦ e | inr e ↦ untrue e ]

        by : (onward : Bool) → WorkStands (round_after o.Shrink onward round) alone (going (if onward then rest else broken rest) callers)
        by true = goes round alone rest callers n (record { left = h.left.1; many = h.many; alone = inl same }) k l
        by false = goes (one_less round) alone (broken rest) callers (nested_broken rest n)
            (record {
              left = broken_left may_call (outer_of callers) rest h.left.1;
              many = ap one_less (h.many ∙ ap (λ cs. rounds cs callers) fits.0 ∙ one_round (broken rest) (past (broken rest)) callers (h.left.0 refl));
              alone = inr (h.left.0 refl);
            }) k l
    quits round alone t op rest left callers is fits n h k l = untrue is

    -- ---- calls
    module _ (main : ℕ) (facts : AreFramed may_call bodies main) where
      callee_framed : (who : Who) (f : ℕ) → may_call (is_group who) f ≡ true → Framed may_call (callee_of who) (bodies f)
      callee_framed OfGroup f e = facts.in_group f e
      callee_framed OfBody f e = facts.in_body f e
      callee_framed (OfMain b) f e = facts.in_body f e

      enters : (round : ℕ) (alone : Bool) (t : ℕ) (op : Operation) (f : ℕ) (opening rest left : Code ℕ) (callers : List (Code ℕ)) → Shape false false none opening → Nested rest
          → Stands may_call round alone (call t op f opening rest) callers → AllNested callers → AllLeft callers
          → GoesOn round alone op (at left callers) (λ onward. going (append opening (bodies f)) (rest ∷ callers))
      enters round alone t (o.Enter count) f opening rest left callers s n h k l = record {
        calls = refl;
        in_group = λ e. untrue e;
        own = λ e. untrue e;
        outermost = λ e. untrue e;
        met = λ e. untrue e;
        goes_on = λ onward. goes round alone (append opening body) (rest ∷ callers) whole
            (record {
              left = opening_left may_call callee opening body s none_behind (callee_no_main who) h.left.0.2
                  (body_left may_call callee of_function body refl (facts.nested f) (callee_framed who f h.left.0.1));
              many = h.many ∙ ap (λ cs. rounds cs (rest ∷ callers)) (sym nothing);
              alone = inl (same ∙ sym (callee_alone who) ∙ ap (λ cs. is_alone (who_behind callee cs)) (sym nothing));
            }) (n, k) (h.left.1, l);
      }
        where
          body : Code ℕ
          body = bodies f

          who : Who
          who = who_in (outer_of callers) rest

          callee : Who
          callee = callee_of who

          same : alone ≡ is_alone who
          same = elim h.alone [ inl e ↦ e | inr e ↦ untrue e ]

          none_behind : past body ≡ []
          none_behind = past_none of_function body (facts.nested f)

          nothing : past (append opening body) ≡ []
          nothing = past_append false false none opening body s ∙ none_behind

          whole : Nested (append opening body)
          whole = nested_before none opening body s (body_nested body (facts.nested f)) (no_exits body)
      enters round alone t op f opening rest left callers s n h k l = absurd (enters_alone op h.left.0.0)
        where
          enters_alone : (op : Operation) → calling op ≡ Enters → ⊥
          enters_alone op e = cc

      -- a function ends
      leaves : (round : ℕ) (alone : Bool) (t : ℕ) (op : Operation) (rest left : Code ℕ) (callers : List (Code ℕ)) → past left ≡ past rest → is_of_call op ≡ true → past rest ≡ []
          → Stands may_call round alone (ends t op rest) callers → AllNested callers → AllLeft callers
          → GoesOn round alone op (at left callers) (λ onward. returned callers)
      leaves round alone t o.Halt rest left [] past_left is nothing h k l = record {
        calls = λ onward. refl;
        in_group = λ e. untrue e;
        own = λ e. untrue e;
        outermost = λ e. untrue e;
        met = λ e. untrue e;
        goes_on = λ onward. record {
          nested = tt;
          stands = record {
            left = tt;
            many = h.many ∙ ap (λ cs. rounds cs []) nothing;
            alone = elim h.alone [ inl e ↦ inl (e ∙ ap (λ cs. is_alone (who_behind (OfMain false) cs)) nothing) | inr e ↦ untrue e ];
          };
          callers_nested = tt;
          callers_left = tt;
        };
      }
      leaves round alone t (o.Leave gives framed) rest left [] past_left is nothing h k l =
          absurd (no_leave (h.left.0.halts (ap (λ cs. is_main (who_behind (OfMain false) cs)) nothing)))
        where
          no_leave : Leaves ≡ Remains → ⊥
          no_leave e = cc
      leaves round alone t (o.Leave gives framed) rest left (code ∷ callers) past_left is nothing h k l =
          record {
            calls = (
              refl,
              subst (λ cs. Down bodies (length callers) (met cs (code ∷ callers) (starts_in (outermost left (code ∷ callers))))) (sym (past_left ∙ nothing))
                  (no_deeper bodies (length callers) (met (past code) callers (starts_in (outermost left (code ∷ callers))))
                  (higher bodies (past code) callers (starts_in (outermost left (code ∷ callers))))),
            );
            in_group = λ e. same ∙ ap not (h.left.0.in_group e);
            own = λ e. untrue e;
            outermost = λ e. untrue e;
            met = λ e. untrue e;
            goes_on = λ onward. goes round alone code callers k.0
                (record {
                  left = l.0;
                  many = h.many ∙ ap (λ cs. rounds cs (code ∷ callers)) nothing;
                  alone = inl (same ∙ ap (λ cs. is_alone (who_behind (outer_of (code ∷ callers)) cs)) nothing ∙ callee_alone (who_in (outer_of callers) code));
                }) k.1 l.1;
          }
        where
          same : alone ≡ is_alone (who_in (outer_of (code ∷ callers)) rest)
          same = elim h.alone [ inl e ↦ e | inr e ↦ untrue e ]
      leaves round alone t o.Halt rest left (code ∷ callers) past_left is nothing h k l =
          absurd (no_halt (h.left.0.leaves (ap (λ cs. is_main (who_behind (outer_of (code ∷ callers)) cs)) nothing ∙ callee_no_main (who_in (outer_of callers) code))))
        where
          no_halt : Remains ≡ Leaves → ⊥
          no_halt e = cc
      leaves round alone t (o.Enter count) rest left [] past_left is nothing h k l =
          absurd (no_enter (h.left.0.halts (ap (λ cs. is_main (who_behind (OfMain false) cs)) nothing)))
        where
          no_enter : Enters ≡ Remains → ⊥
          no_enter e = cc
      leaves round alone t (o.Enter count) rest left (code ∷ callers) past_left is nothing h k l =
          absurd (no_enter (h.left.0.leaves (ap (λ cs. is_main (who_behind (outer_of (code ∷ callers)) cs)) nothing ∙ callee_no_main (who_in (outer_of callers) code))))
        where
          no_enter : Enters ≡ Leaves → ⊥
          no_enter e = cc
      leaves round alone t op rest left callers past_left is nothing h k l = untrue is

      -- ---- every next operation
      abbrev Stepped : ℕ → Bool → Work → Option (Step Work) → Type 0
      Stepped round alone here None = Unit {0}
      Stepped round alone here (Some s) = GoesOn round alone s.operation here s.rest

      steps : (round : ℕ) (alone : Bool) (code left : Code ℕ) (callers : List (Code ℕ)) → past left ≡ past code → Nested code → Stands may_call round alone code callers
          → AllNested callers → AllLeft callers → Stepped round alone (at left callers) (step bodies code callers)
      steps round alone done left callers same n h k l = tt
      steps round alone (perform t op rest) left callers same n h k l = performs round alone t op rest left callers same n.0 n.1 h k l
      steps round alone (choose t op a b rest) left callers same n h k l =
          chooses round alone t a b rest left callers k l op n.0
          (record {
            x = n.1;
            first = n.2;
            second = n.3;
            waits = n.4;
            meets = n.6;
            first_nested = in_way op n.1 (splits op) a rest n.2 n.8 n.7 (splits_confine op) n.5;
            second_nested = in_way op n.1 (has_two_parts op) b rest n.3 n.8 n.7 (λ is. splits_confine op (two_confine op is)) (λ is. n.5 (two_confine op is));
            nested = n.8;
          }) h
      steps round alone (while test body after rest) left callers same n h k l = tt
      steps round alone (until body test rest) left callers same n h k l = tt
      steps round alone (turn test body after rest) left callers same n h k l = tt
      steps round alone (again test body after rest) left callers same n h k l = tt
      steps round alone (quit t op rest) left callers same n h k l = quits round alone t op rest left callers n.0 n.1 n.2 h k l
      steps round alone (break rest) left callers same n h k l = tt
      steps round alone (continue rest) left callers same n h k l = tt
      steps round alone (call t op f opening rest) left callers same n h k l = enters round alone t op f opening rest left callers n.1 n.2 h k l
      steps round alone (ends t op rest) left callers same n h k l = leaves round alone t op rest left callers same n.0 n.1 h k l

      steps_of : (round : ℕ) (alone : Bool) (code : Code ℕ) (callers : List (Code ℕ)) → Nested code → Stands may_call round alone code callers
          → AllNested callers → AllLeft callers → Stepped round alone (at code callers) (step_of bodies code callers)
      steps_of round alone (again test body after rest) callers n h k l =
          let whole = append test (append body (turn test body after rest)) in
          let same = whole_past test body after rest n.0 in
          steps round alone whole (again test body after rest) callers (sym same) (whole_nested test body after rest n.0 n.1)
          (record {
            left = whole_left may_call (outer_of callers) test body after rest n.0 h.left;
            many = h.many ∙ ap (λ cs. rounds cs callers) (sym same);
            alone = elim h.alone [ inl e ↦ inl (e ∙ ap (λ cs. is_alone (who_behind (outer_of callers) cs)) (sym same)) | inr e ↦ untrue e ];
          }) k l
      steps_of round alone code callers n h k l = steps round alone code code callers refl n h k l

      -- ---- so many operations on
      pub framed_for : (operations : ℕ) (round : ℕ) (alone : Bool) (work : Work) → WorkStands round alone work → f.FramedFor (next bodies) all_outs depth operations round alone work
      framed_for zero round alone work h = tt
      framed_for (suc n) round alone work h =
          by (λ r a w g. framed_for n r a w g) (next bodies work) (steps_of round alone work.left work.callers h.nested h.stands h.callers_nested h.callers_left)
        where
          by : ((r : ℕ) (a : Bool) (w : Work) → WorkStands r a w → f.FramedFor (next bodies) all_outs depth n r a w)
              → (s : Option (Step Work)) → Stepped round alone work s → f.FramedNext (next bodies) all_outs depth (f.FramedFor (next bodies) all_outs depth n) round alone work s
          by later None g = tt
          by later (Some s) g = record {
            calls = g.calls;
            in_group = g.in_group;
            own = g.own;
            outermost = g.outermost;
            met = g.met;
            goes_on = λ onward. later (round_after s.operation onward round) (alone_after s.operation round alone) (s.rest onward) (g.goes_on onward);
          }
