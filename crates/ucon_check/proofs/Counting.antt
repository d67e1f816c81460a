-- As many distinct places are read as there are declared ones that are read, where each place that is read is declared, and once.
use Rattle.std.proofs.Common.{◌≡◌, ◌∙◌, sym, ap, subst, refl, ℕ, suc, ◌+◌, ◌≤◌, Bool, true, false, List, [], ◌∷◌, ◌++◌, length, map, Option, None, Some, is_some, inl, inr, arith, append_assoc, append-nil}
use Rattle.std.specs.Prelude.{find, filter, fold, option_map, ◌||◌, ◌&&◌}
use Rattle.std.specs.List.{list_any}
use Rattle.std.specs.Str.{bytes_eq}
use Rattle.std.proofs.lemmas.Bool.{cases_Bool, and_parts, true≢false, false≢true}
use Rattle.std.proofs.lemmas.List.{length-append}
use Rattle.std.proofs.lemmas.List.Elements.{filter-append}
use Rattle.std.proofs.lemmas.List.Folds.{list_any-append}
use Rattle.std.proofs.lemmas.Slice.Eq.{bytes_eq-Decides}
use Rattle.ucon_base.specs.Elements.{Each, each_map}
use Rattle.ucon_base.specs.declared.value.Side.{Side}
use Rattle.ucon_base.specs.declared.value.Side.TheVariants as sides
use Rattle.ucon_model.specs.declared.formula.Ref.{Ref}
use Rattle.ucon_model.specs.declared.formula.Ref.TheVariants.{Subject, Object, Env}
use Rattle.ucon_model.specs.declared.policy.AttrDecl.{AttrDecl}
use Rattle.ucon_model.specs.declared.policy.EnvDecl.{EnvDecl}
use Rattle.ucon_model.specs.Plain.{Bytes, PlainRight, PlainPolicy}
use Rattle.ucon_model.specs.Places.{attr_place, same_place, with_place, distinct, places_read}
use Rattle.ucon_model.specs.Readings.{same_side, declared_attr, declared_env}
use Rattle.ucon_model.specs.Typing.{is_declared, undeclared}
use Rattle.ucon_check.specs.Counted.{IsOnce, attr_stands, env_stands, AreDeclaredOnce}
use Rattle.ucon_check.specs.Sought.{all_read, is_read}

-- ---- places that are the same

same_is : (p q : Ref) → same_place p q ≡ true → p ≡ q
same_is (Subject a) (Subject b) h = ap Subject ((bytes_eq-Decides a b).0 h)
same_is (Object a) (Object b) h = ap Object ((bytes_eq-Decides a b).0 h)
same_is (Env a) (Env b) h = ap Env ((bytes_eq-Decides a b).0 h)
same_is (Subject a) (Object b) h = absurd (false≢true h)
same_is (Subject a) (Env b) h = absurd (false≢true h)
same_is (Object a) (Subject b) h = absurd (false≢true h)
same_is (Object a) (Env b) h = absurd (false≢true h)
same_is (Env a) (Subject b) h = absurd (false≢true h)
same_is (Env a) (Object b) h = absurd (false≢true h)

same_itself : (p : Ref) → same_place p p ≡ true
same_itself (Subject a) = (bytes_eq-Decides a a).1 refl
same_itself (Object a) = (bytes_eq-Decides a a).1 refl
same_itself (Env a) = (bytes_eq-Decides a a).1 refl

same_back : (p q : Ref) → same_place p q ≡ true → same_place q p ≡ true
same_back p q h = subst (λ (r : Ref). same_place r p ≡ true) (same_is p q h) (same_itself p)

same_both : (p q : Ref) → same_place p q ≡ same_place q p
same_both p q =
    elim (cases_Bool (same_place p q)) [
      | inl is ↦ is ∙ sym (same_back p q is)
      | inr isnt ↦
          elim (cases_Bool (same_place q p)) [
            | inl is ↦ absurd (true≢false (sym (same_back q p is) ∙ isnt))
            | inr isnt' ↦ isnt ∙ sym isnt'
          ]
    ]

-- ---- how many pass a test

abbrev pub tally : {T : Type 0} → (T → Bool) → List T → ℕ
tally test xs = length (filter test xs)

same_tally : {T : Type 0} (f g : T → Bool) → ((x : T) → f x ≡ g x) → (xs : List T) → tally f xs ≡ tally g xs
same_tally f g h [] = refl
same_tally f g h (x ∷ xs) =
    elim (cases_Bool (g x)) [
      | inl is ↦ rw (h x, is) (ap suc (same_tally f g h xs))
      | inr isnt ↦ rw (h x, isnt) (same_tally f g h xs)
    ]

no_tally : {T : Type 0} (f : T → Bool) → ((x : T) → f x ≡ false) → (xs : List T) → tally f xs ≡ 0
no_tally f h [] = refl
no_tally f h (x ∷ xs) = rw (h x) (no_tally f h xs)

at_least_one : {T : Type 0} (f : T → Bool) (xs : List T) → is_some (find f xs) ≡ true → 1 ≤ tally f xs
at_least_one f [] h = absurd (false≢true h)
at_least_one f (x ∷ xs) h =
    elim (cases_Bool (f x)) [
      | inl is ↦ rw is (omega arith)
      | inr isnt ↦ rw isnt (at_least_one f xs (rw isnt at h))
    ]

none_found : {T : Type 0} (f g : T → Bool) → ((x : T) → f x ≡ g x) → (xs : List T) → is_some (find g xs) ≡ false → tally f xs ≡ 0
none_found f g same [] h = refl
none_found f g same (x ∷ xs) h =
    elim (cases_Bool (g x)) [
      | inl is ↦ absurd (true≢false (rw is at h))
      | inr isnt ↦ rw (same x, isnt) (none_found f g same xs (rw isnt at h))
    ]

one_more : {T : Type 0} (f : T → Bool) (alike : T → T → Bool) → ((x y : T) → f x ≡ true → f y ≡ alike x y) → (before : List T) (x : T)
    → is_some (find (alike x) before) ≡ false → tally f before ≤ 1 → tally f (before ++ x ∷ []) ≤ 1
one_more f alike h before x new few =
    let parts : tally f (before ++ x ∷ []) ≡ tally f before + tally f (x ∷ []) = ap length (filter-append f before (x ∷ [])) ∙ length-append (filter f before) (filter f (x ∷ [])) in
    elim (cases_Bool (f x)) [
      | inl is ↦
          let none : tally f before ≡ 0 = none_found f (alike x) (λ y. h x y is) before new in
          let one : tally f (x ∷ []) ≡ 1 = rw is refl in
          omega (arith, parts, none, one)
      | inr isnt ↦
          let none : tally f (x ∷ []) ≡ 0 = rw isnt refl in
          omega (arith, parts, none, few)
    ]

at_most_one : {T : Type 0} (f : T → Bool) (alike : T → T → Bool) → ((x y : T) → f x ≡ true → f y ≡ alike x y) → (before xs : List T)
    → IsOnce (λ b x. is_some (find (alike x) b)) before xs → tally f before ≤ 1 → tally f (before ++ xs) ≤ 1
at_most_one f alike h before [] once few = rw (append-nil before) few
at_most_one f alike h before (x ∷ xs) once few =
    subst (λ (l : List _). tally f l ≤ 1) (append_assoc before (x ∷ []) xs)
    (at_most_one f alike h (before ++ x ∷ []) xs once.1 (one_more f alike h before x once.0 few))

-- ---- declared places

side_is : (s t : Side) → same_side s t ≡ true → s ≡ t
side_is sides.Subject sides.Subject h = refl
side_is sides.Object sides.Object h = refl
side_is sides.Subject sides.Object h = absurd (false≢true h)
side_is sides.Object sides.Subject h = absurd (false≢true h)

abbrev is_attr : Side → Bytes → AttrDecl → Bool
is_attr side name = λ d. same_side side d.side && bytes_eq name d.name

abbrev is_env : Bytes → EnvDecl → Bool
is_env name = λ d. bytes_eq name d.name

attrs_alike : (side : Side) (name : Bytes) (d e : AttrDecl) → is_attr side name d ≡ true → is_attr side name e ≡ is_attr d.side d.name e
attrs_alike side name d e h =
    let parts = and_parts (same_side side d.side) (bytes_eq name d.name) h in
    let s : side ≡ d.side = side_is side d.side parts.0 in
    let n : name ≡ d.name = (bytes_eq-Decides name d.name).0 parts.1 in
    rw (s, n) refl

envs_alike : (name : Bytes) (d e : EnvDecl) → is_env name d ≡ true → is_env name e ≡ is_env d.name e
envs_alike name d e h = let n : name ≡ d.name = (bytes_eq-Decides name d.name).0 h in rw n refl

attr_once : (attrs : List AttrDecl) (side : Side) (name : Bytes) → IsOnce attr_stands [] attrs → is_some (declared_attr attrs side name) ≡ true
    → tally (is_attr side name) attrs ≡ 1
attr_once attrs side name once is =
    let most = at_most_one (is_attr side name) (λ d. is_attr d.side d.name) (attrs_alike side name) [] attrs once (omega arith) in
    let least = at_least_one (is_attr side name) attrs is in
    omega (arith, most, least)

env_once : (envs : List EnvDecl) (name : Bytes) → IsOnce env_stands [] envs → is_some (declared_env envs name) ≡ true → tally (is_env name) envs ≡ 1
env_once envs name once is =
    let most = at_most_one (is_env name) (λ d. is_env d.name) (envs_alike name) [] envs once (omega arith) in
    let least = at_least_one (is_env name) envs is in
    omega (arith, most, least)

abbrev declared_places : List AttrDecl → List EnvDecl → List Ref
declared_places attrs envs = map (λ d. attr_place d.side d.name) attrs ++ map (λ d. Env d.name) envs

envs_tally : (f : Ref → Bool) (envs : List EnvDecl) → tally f (map (λ d. Env d.name) envs) ≡ tally (λ d. f (Env d.name)) envs
envs_tally f [] = refl
envs_tally f (d ∷ ds) =
    elim (cases_Bool (f (Env d.name))) [
      | inl is ↦ rw is (ap suc (envs_tally f ds))
      | inr isnt ↦ rw isnt (envs_tally f ds)
    ]

declared_tally : (f : Ref → Bool) (attrs : List AttrDecl) (envs : List EnvDecl)
    → tally f (declared_places attrs envs) ≡ tally (λ d. f (attr_place d.side d.name)) attrs + tally (λ d. f (Env d.name)) envs
declared_tally f [] envs = omega (arith, envs_tally f envs)
declared_tally f (d ∷ ds) envs =
    elim (cases_Bool (f (attr_place d.side d.name))) [
      | inl is ↦ rw is (omega (arith, declared_tally f ds envs))
      | inr isnt ↦ rw isnt (declared_tally f ds envs)
    ]

at_subject : (a : Bytes) (side : Side) (name : Bytes) → same_place (Subject a) (attr_place side name) ≡ (same_side sides.Subject side && bytes_eq a name)
at_subject a sides.Subject name = refl
at_subject a sides.Object name = refl

at_object : (a : Bytes) (side : Side) (name : Bytes) → same_place (Object a) (attr_place side name) ≡ (same_side sides.Object side && bytes_eq a name)
at_object a sides.Subject name = refl
at_object a sides.Object name = refl

at_env : (a : Bytes) (side : Side) (name : Bytes) → same_place (Env a) (attr_place side name) ≡ false
at_env a sides.Subject name = refl
at_env a sides.Object name = refl

is_mapped : {T U : Type 0} (f : T → U) (o : Option T) → is_some (option_map f o) ≡ true → is_some o ≡ true
is_mapped f None h = h
is_mapped f (Some x) h = refl

-- a place that is declared is one of the declared places, once
place_once : (P : PlainPolicy) (x : Ref) → AreDeclaredOnce P → is_declared P x ≡ true → tally (same_place x) (declared_places P.attrs P.envs) ≡ 1
place_once P (Subject a) once is =
    let attrs = same_tally (λ d. same_place (Subject a) (attr_place d.side d.name)) (is_attr sides.Subject a) (λ d. at_subject a d.side d.name) P.attrs in
    let one = attr_once P.attrs sides.Subject a once.0 (is_mapped _ (declared_attr P.attrs sides.Subject a) is) in
    let none = no_tally (λ (d : EnvDecl). same_place (Subject a) (Env d.name)) (λ d. refl) P.envs in
    omega (arith, declared_tally (same_place (Subject a)) P.attrs P.envs, attrs, one, none)
place_once P (Object a) once is =
    let attrs = same_tally (λ d. same_place (Object a) (attr_place d.side d.name)) (is_attr sides.Object a) (λ d. at_object a d.side d.name) P.attrs in
    let one = attr_once P.attrs sides.Object a once.0 (is_mapped _ (declared_attr P.attrs sides.Object a) is) in
    let none = no_tally (λ (d : EnvDecl). same_place (Object a) (Env d.name)) (λ d. refl) P.envs in
    omega (arith, declared_tally (same_place (Object a)) P.attrs P.envs, attrs, one, none)
place_once P (Env a) once is =
    let none = no_tally (λ (d : AttrDecl). same_place (Env a) (attr_place d.side d.name)) (λ d. at_env a d.side d.name) P.attrs in
    let one = env_once P.envs a once.1 (is_mapped _ (declared_env P.envs a) is) in
    omega (arith, declared_tally (same_place (Env a)) P.attrs P.envs, none, one)

-- ---- distinct places

-- a test that one more passes, which did not pass before
split_tally : (f g : Ref → Bool) (x : Ref) → f x ≡ false → ((p : Ref) → g p ≡ (f p || same_place x p)) → (ps : List Ref)
    → tally g ps ≡ tally f ps + tally (same_place x) ps
split_tally f g x absent both [] = refl
split_tally f g x absent both (p ∷ ps) =
    let more = split_tally f g x absent both ps in
    elim (cases_Bool (f p)) [
      | inl is ↦
          elim (cases_Bool (same_place x p)) [
            | inl same ↦ absurd (true≢false (sym is ∙ ap f (sym (same_is x p same)) ∙ absent))
            | inr other ↦ rw (both p, is, other) (omega (arith, more))
          ]
      | inr isnt ↦
          elim (cases_Bool (same_place x p)) [
            | inl same ↦ rw (both p, isnt, same) (omega (arith, more))
            | inr other ↦ rw (both p, isnt, other) more
          ]
    ]

abbrev among : List Ref → Ref → Bool
among ps = λ p. list_any (same_place p) ps

among_more : (ps : List Ref) (x p : Ref) → among (ps ++ x ∷ []) p ≡ (among ps p || same_place x p)
among_more ps x p =
    elim (cases_Bool (same_place p x)) [
      | inl is ↦ rw (list_any-append (same_place p) ps (x ∷ []), same_both x p, is) refl
      | inr isnt ↦ rw (list_any-append (same_place p) ps (x ∷ []), same_both x p, isnt) refl
    ]

among_again : (ps xs : List Ref) (x p : Ref) → among ps x ≡ true → among (ps ++ xs) p ≡ among (ps ++ x ∷ xs) p
among_again ps xs x p there =
    elim (cases_Bool (same_place p x)) [
      | inl same ↦
          let is : among ps p ≡ true = subst (λ (q : Ref). among ps q ≡ true) (sym (same_is p x same)) there in
          rw (list_any-append (same_place p) ps xs, list_any-append (same_place p) ps (x ∷ xs), is) refl
      | inr other ↦ rw (list_any-append (same_place p) ps xs, list_any-append (same_place p) ps (x ∷ xs), other) refl
    ]

-- the distinct places of more places, each of which stands once among some
grown : (all ps xs : List Ref) → Each (λ x. tally (same_place x) all ≡ 1) xs → length ps ≡ tally (among ps) all
    → length (fold with_place ps xs) ≡ tally (among (ps ++ xs)) all
grown all ps [] once is = is ∙ ap (λ l. tally (among l) all) (sym (append-nil ps))
grown all ps (x ∷ xs) once is =
    elim (cases_Bool (list_any (same_place x) ps)) [
      | inl there ↦ rw there (grown all ps xs once.1 is ∙ same_tally (among (ps ++ xs)) (among (ps ++ x ∷ xs)) (λ p. among_again ps xs x p there) all)
      | inr new ↦
          let more : tally (among (ps ++ x ∷ [])) all ≡ tally (among ps) all + tally (same_place x) all = split_tally (among ps) (among (ps ++ x ∷ [])) x new (among_more ps x) all in
          let now : length (ps ++ x ∷ []) ≡ tally (among (ps ++ x ∷ [])) all = omega (arith, length-append ps (x ∷ []), is, more, once.0) in
          rw new (grown all (ps ++ x ∷ []) xs once.1 now ∙ ap (λ l. tally (among l) all) (append_assoc ps (x ∷ []) xs))
    ]

distinct_tally : (all xs : List Ref) → Each (λ x. tally (same_place x) all ≡ 1) xs → length (distinct xs) ≡ tally (among xs) all
distinct_tally all xs once = grown all [] xs once (sym (no_tally (among []) (λ p. refl) all))

all_declared : (P : PlainPolicy) (xs : List Ref) → undeclared P xs ≡ None → Each (λ x. is_declared P x ≡ true) xs
all_declared P [] h = tt
all_declared P (x ∷ xs) h =
    elim (cases_Bool (is_declared P x)) [
      | inl is ↦ (is, all_declared P xs (rw is at h))
      | inr isnt ↦ absurd (true≢false (ap is_some (rw isnt at h)))
    ]

pub read_tally : (P : PlainPolicy) (r : PlainRight) → AreDeclaredOnce P → undeclared P (all_read r) ≡ None
    → tally (λ d. is_read r (attr_place d.side d.name)) P.attrs + tally (λ d. is_read r (Env d.name)) P.envs ≡ length (places_read r)
read_tally P r once known =
    let xs = all_read r in
    let each = each_map (λ x. is_declared P x ≡ true) (λ x. tally (same_place x) (declared_places P.attrs P.envs) ≡ 1) (λ x is. place_once P x once is) xs (all_declared P xs known) in
    sym (distinct_tally (declared_places P.attrs P.envs) xs each ∙ declared_tally (among xs) P.attrs P.envs)
