-- Who stands at a place, and who is whose first, once a session comes into a list or leaves its own.
use Rattle.std.proofs.Common.{◌≡◌, ◌≢◌, ◌∙◌, ◌⊎◌, inl, inr, ◌↔◌, ℕ, zero, suc, ◌<◌, ◌≤◌, Bool, true, false, List, [], ◌∷◌, map, refl, sym, ap, subst, arith, ◌||◌, ◌==◌}
use Rattle.std.specs.Prelude.{Option, Some, None, IfNone, IfSome, cond, nat_eq, unwrap_or}
use Rattle.std.specs.List.{All, Contains, flat_map}
use Rattle.std.proofs.lemmas.Bool.Decides.{eqb_tells}
use Rattle.std.proofs.lemmas.List.Elements.{All-contains}
use Rattle.ucon_links.specs.Dependents.{Dependents, Place, has_session, is_there, others, place_at, stands_in}
use Rattle.ucon_links.specs.Lists.{IsAbsent}
use Rattle.ucon_collections.specs.Lists.{IsLed, IsNext, JoinsAtMost, Members, is_joined, leader_in}
use Rattle.ucon_collections.specs.Undoing.{Who, who_in}
use Rattle.ucon_readers.specs.Joining.{Joins}
use Rattle.ucon_readers.specs.Listing.{AreLed, ComesTo, StandsNowhere, StandsSomewhere, standing_by}
use Rattle.ucon_readers.specs.Lists.{first_in, led_by, members_in}
use Rattle.ucon_readers.proofs.Listed.{first_alone, first_below, first_if, first_is_low, first_or_later, first_there, flat_map_has, further, in_flat_map, is_none_if, leader_cases, leader_none, leader_some, members_alike, next_least, next_none, next_there, nothing_in, of_one, one_first, only_in, told_least, told_there}

-- a session came into the list of a leader, as it is with the leader in it
abbrev pub HasCome : (old new : Members) → (leader session : ℕ) → Type 0
HasCome old new leader session = (l n : ℕ) → Contains (led_by new l) n ↔ (((n ≡ session) × (l ≡ leader)) ⊎ Contains (led_by old l) n)

-- a session left its list
abbrev pub HasLeft : (old new : Members) → ℕ → Type 0
HasLeft old new session = (l n : ℕ) → Contains (members_in new l) n ↔ ((n ≢ session) × Contains (members_in old l) n)

-- ---- coming to places

-- a number is one of these, or none of them
pub there_or_absent : (n : ℕ) (xs : List ℕ) → Contains xs n ⊎ IsAbsent n xs
there_or_absent n [] = inr tt
there_or_absent n (x ∷ xs) = elim (eqb_tells x n) [
  | inl here ↦ inl (0, omega arith, here.1)
  | inr other ↦ elim (there_or_absent n xs) [ inl later ↦ inl (further x xs n later) | inr absent ↦ inr (other.1, absent) ]
]

-- a session that is put first at these places comes to them
pub put_first : (standing standing' : ℕ → List ℕ) (k : ℕ) (places : List ℕ) → All (λ place. standing' place ≡ k ∷ standing place) places
    → ((place : ℕ) → IsAbsent place places → standing' place ≡ standing place) → ComesTo standing standing' k places
put_first standing standing' k places first elsewhere n place = (
  λ stands. elim (there_or_absent place places) [
    | inl there ↦ elim (first_or_later k (standing place) n (subst (λ (xs : List ℕ). Contains xs n) (at there) stands)) [
      | inl here ↦ inl (here, there)
      | inr later ↦ inr later
    ]
    | inr absent ↦ inr (subst (λ (xs : List ℕ). Contains xs n) (elsewhere place absent) stands)
  ],
  λ either. elim either [
    | inl here ↦ subst (λ (xs : List ℕ). Contains xs n) (sym (at here.1)) (0, omega arith, sym here.0)
    | inr stood ↦ elim (there_or_absent place places) [
      | inl there ↦ subst (λ (xs : List ℕ). Contains xs n) (sym (at there)) (further k (standing place) n stood)
      | inr absent ↦ subst (λ (xs : List ℕ). Contains xs n) (sym (elsewhere place absent)) stood
    ]
  ],
)
  where
    at : Contains places place → standing' place ≡ k ∷ standing place
    at there = All-contains (λ p. standing' p ≡ k ∷ standing p) places place first there

-- ---- standing at places

-- who is in a list that was joined is a member
pub led_member : (v : Members) (l n : ℕ) → is_joined v l ≡ true → Contains (led_by v l) n → Contains (members_in v l) n
led_member v l n joined has = subst (λ (b : Bool). Contains (cond b (members_in v l) (l ∷ [])) n) joined has

pub joined_led : (v : Members) (l n : ℕ) → is_joined v l ≡ true → Contains (members_in v l) n → Contains (led_by v l) n
joined_led v l n joined has = subst (λ (b : Bool). Contains (cond b (members_in v l) (l ∷ [])) n) (sym joined) has

-- and else it is the leader
pub led_only : (v : Members) (l n : ℕ) → is_joined v l ≡ false → Contains (led_by v l) n → n ≡ l
led_only v l n unjoined has = only_in l n (subst (λ (b : Bool). Contains (cond b (members_in v l) (l ∷ [])) n) unjoined has)

pub alone_led : (v : Members) (l : ℕ) → is_joined v l ≡ false → Contains (led_by v l) l
alone_led v l unjoined = subst (λ (b : Bool). Contains (cond b (members_in v l) (l ∷ [])) l) (sym unjoined) (0, omega arith, refl)

pub is_or_not : (b : Bool) → (b ≡ true) ⊎ (b ≡ false)
is_or_not true = inl refl
is_or_not false = inr refl

pub never_both : {A : Type 0} (b : Bool) → b ≡ true → b ≡ false → A
never_both b is not = absurd (let both : true ≡ false = sym is ∙ not in cc)

pub stands_by : (v : Members) (i : Dependents) (place l n : ℕ) → Contains (stands_in i place) l → Contains (led_by v l) n → Contains (standing_by v i place) n
stands_by v i place l n stands led = flat_map_has (led_by v) (stands_in i place) l n stands led

pub whose_list : (v : Members) (i : Dependents) (place n : ℕ) → Contains (standing_by v i place) n
    → (l : ℕ) × Contains (stands_in i place) l × Contains (led_by v l) n
whose_list v i place n stands = in_flat_map (led_by v) (stands_in i place) n stands

listed_there : (l : ℕ) (xs : List (ℕ × ℕ)) → Contains (map (λ x. x.1) xs) l → has_session l xs ≡ true
listed_there l [] has = absurd (nothing_in l has)
listed_there l (x ∷ xs) has = by (first_or_later x.1 (map (λ y. y.1) xs) l has) (eqb_tells x.1 l) (listed_there l xs)
  where
    by : (l ≡ x.1) ⊎ Contains (map (λ y. y.1) xs) l → (((nat_eq x.1 l) ≡ true) × (x.1 ≡ l)) ⊎ (((nat_eq x.1 l) ≡ false) × (x.1 ≢ l))
        → (Contains (map (λ y. y.1) xs) l → has_session l xs ≡ true) → ((x.1 == l) || has_session l xs) ≡ true
    by either (inl here) rest = rw here.0 refl
    by (inl same) (inr other) rest = absurd (other.1 (sym same))
    by (inr later) (inr other) rest = rw other.0 (rest later)

-- who stands at a place is there
pub there_if_stands : (l : ℕ) (places : List Place) (place : ℕ) → Contains (map (λ x. x.1) (place_at places place).listed) l → is_there l places ≡ true
there_if_stands l [] place has = absurd (nothing_in l has)
there_if_stands l (p ∷ rest) zero has = rw (listed_there l p.listed has) refl
there_if_stands l (p ∷ rest) (suc place) has = by (has_session l p.listed) (there_if_stands l rest place has)
  where
    by : (b : Bool) → is_there l rest ≡ true → (b || is_there l rest) ≡ true
    by true there = refl
    by false there = there

there_listed : (l : ℕ) (xs : List (ℕ × ℕ)) → has_session l xs ≡ true → Contains (map (λ x. x.1) xs) l
there_listed l [] has = let no : ⊥ = cc in absurd no
there_listed l (x ∷ xs) has = by (eqb_tells x.1 l) has (there_listed l xs)
  where
    by : (((nat_eq x.1 l) ≡ true) × (x.1 ≡ l)) ⊎ (((nat_eq x.1 l) ≡ false) × (x.1 ≢ l)) → ((x.1 == l) || has_session l xs) ≡ true
        → (has_session l xs ≡ true → Contains (map (λ y. y.1) xs) l) → Contains (map (λ y. y.1) (x ∷ xs)) l
    by (inl here) either rest = (0, omega arith, here.1)
    by (inr other) either rest = further x.1 (map (λ y. y.1) xs) l (rest (let later : has_session l xs ≡ true = rw other.0 at either in later))

-- and who is there stands at one
pub stands_if_there : (l : ℕ) (places : List Place) → is_there l places ≡ true → (place : ℕ) × Contains (map (λ x. x.1) (place_at places place).listed) l
stands_if_there l [] there = let no : ⊥ = cc in absurd no
stands_if_there l (p ∷ rest) there = by (has_session l p.listed) refl there (stands_if_there l rest)
  where
    by : (b : Bool) → has_session l p.listed ≡ b → (b || is_there l rest) ≡ true → (is_there l rest ≡ true → (place : ℕ) × Contains (map (λ x. x.1) (place_at rest place).listed) l)
        → (place : ℕ) × Contains (map (λ x. x.1) (place_at (p ∷ rest) place).listed) l
    by true here either further_on = (0, there_listed l p.listed here)
    by false other either further_on = let later = further_on either in (suc later.0, later.1)

-- who stands in one index stands in another
pub there_like : (i j : Dependents) → ((l place : ℕ) → Contains (stands_in i place) l → Contains (stands_in j place) l) → (l : ℕ)
    → is_there l i.places ≡ true → is_there l j.places ≡ true
there_like i j stands l there = let stood = stands_if_there l i.places there in there_if_stands l j.places stood.0 (stands l stood.0 stood.1)

-- whoever stands nowhere is in no list
pub nowhere_listed : (v : Members) (i : Dependents) (n : ℕ) → AreLed v i → StandsNowhere (standing_by v i) n → leader_in v n ≡ None
nowhere_listed v i n led nowhere = is_none_if v n (λ l member.
    let is = led.there l n member in
    let stands = stands_if_there l i.places is.0 in
    nowhere stands.0 (stands_by v i stands.0 l n stands.1 (joined_led v l n is.1 member)))

-- a leader that stands, and whose list wasn't joined, stands itself
pub stands_itself : (v : Members) (i : Dependents) (l : ℕ) → is_there l i.places ≡ true → is_joined v l ≡ false → StandsSomewhere (standing_by v i) l
stands_itself v i l there unjoined =
    let stands = stands_if_there l i.places there in
    (stands.0, stands_by v i stands.0 l l stands.1 (alone_led v l unjoined))

-- members and leaders that stand are led where they were
pub led_like : (v w : Members) (i j : Dependents) → AreLed v i → ((l n : ℕ) → Contains (members_in w l) n → Contains (members_in v l) n)
    → ((l : ℕ) → is_joined w l ≡ is_joined v l) → ((l n : ℕ) → Contains (members_in w l) n → is_there l i.places ≡ true → is_there l j.places ≡ true)
    → ((l : ℕ) → is_there l j.places ≡ true → is_there l i.places ≡ true) → AreLed w j
led_like v w i j led fewer joined still were = record {
  there = λ l n member. (let was = led.there l n (fewer l n member) in (still l n member was.0, joined l ∙ was.1));
  alone = λ l there unjoined. is_none_if w l (λ k has. leader_none v l k (led.alone l (were l there) (sym (joined l) ∙ unjoined)) (fewer k l has));
}

-- ---- the same members

pub led_by_alike : (v w : Members) → who_in w ≡ who_in v → (l : ℕ) → led_by w l ≡ led_by v l
led_by_alike v w same l =
    ap (λ (b : Bool). cond b (members_in w l) (l ∷ [])) (ap (λ (who : Who). who.joined l) same)
    ∙ ap (λ (ms : List ℕ). cond (is_joined v l) ms (l ∷ [])) (members_alike v w same l)

pub standing_alike : (v w : Members) (i : Dependents) → who_in w ≡ who_in v → (place : ℕ) → standing_by w i place ≡ standing_by v i place
standing_alike v w i same place = ap (λ (f : ℕ → List ℕ). flat_map f (stands_in i place)) (λ k l. led_by_alike v w same l k)

pub are_led_alike : (v w : Members) (i : Dependents) → who_in w ≡ who_in v → AreLed v i → AreLed w i
are_led_alike v w i same led = record {
  there = λ l n has.
      let was = led.there l n (subst (λ (ms : List ℕ). Contains ms n) (members_alike v w same l) has) in
      (was.0, ap (λ (who : Who). who.joined l) same ∙ was.1);
  alone = λ l there unjoined. ap (λ (who : Who). who.leader l) same ∙ led.alone l there (ap (λ (who : Who). who.joined l) (sym same) ∙ unjoined);
}

-- ---- the first of a list, in these words

led_below : (v : Members) → (l n m : ℕ) → Contains (led_by v l) n → Contains (led_by v l) m → first_in v n ≤ m
led_below v l n m has other = elim (is_or_not (is_joined v l)) [
  | inl joined ↦ first_below v l n m (led_member v l n joined has) (led_member v l m joined other)
  | inr unjoined ↦
      let here = led_only v l n unjoined has in
      let there = led_only v l m unjoined other in
      let low = first_is_low v n in
      omega (arith, here, there, low)
]

led_first : (v : Members) → (l n m : ℕ) → (is_joined v l ≡ false → leader_in v l ≡ None) → Contains (led_by v l) n → Contains (led_by v l) m
    → ((k : ℕ) → Contains (led_by v l) k → m ≤ k) → first_in v n ≡ m
led_first v l n m alone has other least = elim (is_or_not (is_joined v l)) [
  | inl joined ↦ first_if v l n m (led_member v l n joined has) (led_member v l m joined other) (λ k member. least k (joined_led v l k joined member))
  | inr unjoined ↦
      let here = led_only v l n unjoined has in
      first_alone v n (ap (leader_in v) here ∙ alone unjoined) ∙ here ∙ sym (led_only v l m unjoined other)
]

-- ---- a session comes into a list

-- whom a session is led by, where it stands
pub led_leader : (v : Members) (i : Dependents) → AreLed v i → (l n : ℕ) → is_there l i.places ≡ true → Contains (led_by v l) n
    → unwrap_or (leader_in v n) n ≡ l
led_leader v i led l n there has = elim (is_or_not (is_joined v l)) [
  | inl joined ↦ ap (λ (o : Option ℕ). unwrap_or o n) (of_one v l n (led_member v l n joined has))
  | inr unjoined ↦
      let is = led_only v l n unjoined has in
      ap (λ (o : Option ℕ). unwrap_or o n) (ap (leader_in v) is ∙ led.alone l there unjoined) ∙ is
]

-- who may have come into a list
at_most_members : (v w : Members) (leader session : ℕ) → JoinsAtMost v w leader session → (l n : ℕ) → Contains (members_in w l) n
    → ((l ≡ leader) × (is_joined w leader ≡ true) × ((n ≡ session) ⊎ ((n ≡ leader) × (is_joined v leader ≡ false)))) ⊎ Contains (members_in v l) n
at_most_members v w leader session at_most l n has = elim (at_most.members l n (of_one w l n has)) [ inl new ↦ inl new | inr old ↦ inr (leader_some v n l old) ]

-- where a session that stood nowhere may have joined, all are led
pub joins_led : (v w : Members) (i : Dependents) (leader session : ℕ) → AreLed v i → JoinsAtMost v w leader session → is_there leader i.places ≡ true
    → StandsNowhere (standing_by v i) session → AreLed w i
joins_led v w i leader session led at_most there nowhere = record {
  there = λ l n member. elim (at_most_members v w leader session at_most l n member) [
    | inl new ↦ (ap (λ (k : ℕ). is_there k i.places) new.0 ∙ there, ap (is_joined w) new.0 ∙ new.1)
    | inr old ↦ (let was = led.there l n old in (was.0, at_most.joined l was.1))
  ];
  alone = λ l stands unjoined. elim (is_or_not (is_joined v l)) [
    | inl was ↦ never_both (is_joined w l) (at_most.joined l was) unjoined
    | inr was ↦ is_none_if w l (λ k has. elim (at_most_members v w leader session at_most k l has) [
      | inl new ↦ elim new.2 [
        | inl same ↦ (let somewhere = stands_itself v i l stands was in
            nowhere somewhere.0 (subst (Contains (standing_by v i somewhere.0)) same somewhere.1))
        | inr founder ↦ never_both (is_joined w l) (ap (is_joined w) founder.0 ∙ new.1) unjoined
      ]
      | inr old ↦ leader_none v l k (led.alone l stands was) old
    ])
  ];
}

-- a session joins the list of one that is its first and below it
module _ (v w : Members) (i : Dependents) (leader session other : ℕ) (led : AreLed v i)
    (come : HasCome v w leader session) (at_most : JoinsAtMost v w leader session) (joined : is_joined w leader ≡ true)
    (there : is_there leader i.places ≡ true) (among : Contains (led_by v leader) other) where
  least_still : first_in v other ≡ other → other < session → (m : ℕ) → Contains (members_in w leader) m → other ≤ m
  least_still itself below m has = elim ((come leader m).0 (joined_led w leader m joined has)) [
    | inl new ↦ (let is : m ≡ session = new.0 in omega (arith, below, is))
    | inr old ↦ (let low = led_below v leader other m among old in omega (arith, low, itself))
  ]

  other_there : Contains (members_in w leader) other
  other_there = led_member w leader other joined ((come leader other).1 (inr among))

  alone_still : first_in v other ≡ other → other < session → (k : ℕ) → k ≢ session → leader_in v k ≡ None → first_in w k ≡ first_in v k
  alone_still itself below k apart none = elim (leader_cases w k) [
    | inl still ↦ first_alone w k still ∙ sym (first_alone v k none)
    | inr some ↦ elim (at_most_members v w leader session at_most some.0 k some.2) [
      | inr old ↦ absurd (leader_none v k some.0 none old)
      | inl new ↦ elim new.2 [
        | inl same ↦ absurd (apart same)
        | inr founder ↦
            let member = subst (λ (l : ℕ). Contains (members_in w l) k) new.0 some.2 in
            let lone = led_only v leader other founder.1 among in
            first_if w leader k other member other_there (least_still itself below) ∙ lone ∙ sym founder.0 ∙ sym (first_alone v k none)
      ]
    ]
  ]

  pub joined_like : first_in v other ≡ other → other < session → Joins (first_in v) (first_in w) session other
  joined_like itself below = record {
    first = first_if w leader session other (led_member w leader session joined ((come leader session).1 (inl (refl, refl)))) other_there
        (least_still itself below);
    others = λ k apart. elim (leader_cases v k) [
      | inl none ↦ alone_still itself below k apart none
      | inr some ↦
          let was = (led.there some.0 k some.2).1 in
          let is = at_most.joined some.0 was in
          let stays : (n : ℕ) → Contains (members_in v some.0) n → Contains (members_in w some.0) n =
          λ n has. led_member w some.0 n is ((come some.0 n).1 (inr (joined_led v some.0 n was has))) in
          first_if w some.0 k (first_in v k) (stays k some.2) (stays (first_in v k) (first_there v some.0 k some.2))
          (λ m has. elim ((come some.0 m).0 (joined_led w some.0 m is has)) [
            | inl new ↦
                let here : is_joined v leader ≡ true = ap (is_joined v) (sym new.1) ∙ was in
                let first : first_in v k ≡ other =
                one_first v leader k other (subst (λ (l : ℕ). Contains (members_in v l) k) new.1 some.2) (led_member v leader other here among) ∙ itself in
                let same : m ≡ session = new.0 in
                omega (arith, first, below, same)
            | inr old ↦ first_below v some.0 k m some.2 (led_member v some.0 m was old)
          ])
    ];
  }

  -- it stands where the others of the list stand
  pub joined_stands : (n place : ℕ) → Contains (standing_by w i place) n
      ↔ (((n ≡ session) × Contains (standing_by v i place) other) ⊎ Contains (standing_by v i place) n)
  joined_stands n place = (
    λ has. (let at = whose_list w i place n has in elim ((come at.0 n).0 at.2) [
      | inl new ↦ inl (new.0, stands_by v i place leader other (subst (Contains (stands_in i place)) new.1 at.1) among)
      | inr old ↦ inr (stands_by v i place at.0 n at.1 old)
    ]),
    λ either. elim either [
      | inl new ↦
          let at = whose_list v i place other new.1 in
          let whose : at.0 ≡ leader =
          sym (led_leader v i led at.0 other (there_if_stands at.0 i.places place at.1) at.2) ∙ led_leader v i led leader other there among in
          stands_by w i place leader n (subst (Contains (stands_in i place)) whose at.1) ((come leader n).1 (inl (new.0, refl)))
      | inr stands ↦ (let at = whose_list v i place n stands in stands_by w i place at.0 n at.1 ((come at.0 n).1 (inr at.2)))
    ],
  )

-- one that comes alone stands where it was put
pub led_stands : (v : Members) (i j : Dependents) (session : ℕ) (places : List ℕ) → is_joined v session ≡ false
    → ComesTo (stands_in i) (stands_in j) session places → ComesTo (standing_by v i) (standing_by v j) session places
led_stands v i j session places unjoined comes n place = (
  λ has. (let at = whose_list v j place n has in elim ((comes at.0 place).0 at.1) [
    | inl new ↦ inl (led_only v session n unjoined (subst (λ (l : ℕ). Contains (led_by v l) n) new.0 at.2), new.1)
    | inr stood ↦ inr (stands_by v i place at.0 n stood at.2)
  ]),
  λ either. elim either [
    | inl new ↦ stands_by v j place session n ((comes session place).1 (inl (refl, new.1)))
        (subst (Contains (led_by v session)) (sym new.0) (alone_led v session unjoined))
    | inr stands ↦ (let at = whose_list v i place n stands in stands_by v j place at.0 n ((comes at.0 place).1 (inr at.1)) at.2)
  ],
)

-- and all are led
pub come_led : (v : Members) (i j : Dependents) (session : ℕ) (places : List ℕ) → AreLed v i → leader_in v session ≡ None
    → ComesTo (stands_in i) (stands_in j) session places → AreLed v j
come_led v i j session places led none comes = record {
  there = λ l n member. (let was = led.there l n member in (there_like i j (λ k place stood. (comes k place).1 (inr stood)) l was.0, was.1));
  alone = λ l there unjoined.
      let stands = stands_if_there l j.places there in
      elim ((comes l stands.0).0 stands.1) [
        | inl new ↦ ap (leader_in v) new.0 ∙ none
        | inr stood ↦ led.alone l (there_if_stands l i.places stands.0 stood) unjoined
      ];
}

-- ---- a session leaves its list

-- whoever isn't led by it keeps its first
pub left_same : (v w : Members) (session leader : ℕ) → HasLeft v w session → Contains (members_in v leader) session
    → (n : ℕ) → n ≢ session → first_in v n ≢ session → first_in w n ≡ first_in v n
left_same v w session leader left among n apart differs = elim (leader_cases v n) [
  | inl none ↦
      let still : leader_in w n ≡ None = is_none_if w n (λ l has. leader_none v n l none ((left l n).0 has).1) in
      first_alone w n still ∙ sym (first_alone v n none)
  | inr some ↦
      first_if w some.0 n (first_in v n) ((left some.0 n).1 (apart, some.2))
      ((left some.0 (first_in v n)).1 (differs, first_there v some.0 n some.2))
      (λ m has. first_below v some.0 n m some.2 ((left some.0 m).0 has).1)
]

-- who was led by it is of its list
pub left_list : (v : Members) (session leader : ℕ) → Contains (members_in v leader) session → (n : ℕ) → n ≢ session → first_in v n ≡ session
    → Contains (members_in v leader) n
left_list v session leader among n apart is = elim (leader_cases v n) [
  | inl none ↦ absurd (apart (sym (first_alone v n none) ∙ is))
  | inr some ↦
      let there = subst (Contains (members_in v some.0)) is (first_there v some.0 n some.2) in
      let same : Some some.0 ≡ Some leader = sym (of_one v some.0 session there) ∙ of_one v leader session among in
      let leaders : some.0 ≡ leader = cc in
      subst (λ (l : ℕ). Contains (members_in v l) n) leaders some.2
]

-- who stands where
pub left_stands : (v w : Members) (i j : Dependents) (session leader : ℕ) → AreLed v i → HasLeft v w session → leader_in v session ≡ Some leader
    → ((l : ℕ) → is_joined w l ≡ is_joined v l)
    → ((l n place : ℕ) → Contains (led_by w l) n → Contains (stands_in i place) l → Contains (stands_in j place) l)
    → ((l place : ℕ) → Contains (stands_in j place) l → Contains (stands_in i place) l)
    → (n place : ℕ) → Contains (standing_by w j place) n ↔ ((n ≢ session) × Contains (standing_by v i place) n)
left_stands v w i j session leader led left is joined still were n place = (
  λ has. (let at = whose_list w j place n has in let both = (stays at.0 (were at.0 place at.1)).0 at.2 in
      (both.0, stands_by v i place at.0 n (were at.0 place at.1) both.1)),
  λ (apart, has). (let at = whose_list v i place n has in let member = (stays at.0 at.1).1 (apart, at.2) in
      stands_by w j place at.0 n (still at.0 n place member at.1) member),
)
  where
    -- a leader that is alone isn't the session, which has a leader
    other : (l : ℕ) → Contains (stands_in i place) l → is_joined v l ≡ false → l ≢ session
    other l stands unjoined same =
        let both : None ≡ Some leader = sym (led.alone l (there_if_stands l i.places place stands) unjoined) ∙ ap (leader_in v) same ∙ is in
        cc

    stays : (l : ℕ) → Contains (stands_in i place) l → Contains (led_by w l) n ↔ ((n ≢ session) × Contains (led_by v l) n)
    stays l stands = elim (is_or_not (is_joined v l)) [
      | inl was ↦ (
        λ has. (let both = (left l n).0 (led_member w l n (joined l ∙ was) has) in (both.0, joined_led v l n was both.1)),
        λ (apart, has). joined_led w l n (joined l ∙ was) ((left l n).1 (apart, led_member v l n was has)),
      )
      | inr was ↦ (
        λ has. (let same = led_only w l n (joined l ∙ was) has in
            (λ it. other l stands was (sym same ∙ it), subst (Contains (led_by v l)) (sym same) (alone_led v l was))),
        λ (apart, has). subst (Contains (led_by w l)) (sym (led_only v l n was has)) (alone_led w l (joined l ∙ was)),
      )
    ]

-- a session that is in no list, and stood alone, stands nowhere any more
pub left_alone : (v : Members) (i j : Dependents) (session : ℕ) → leader_in v session ≡ None → (is_joined v session ≡ true → j ≡ i)
    → (is_joined v session ≡ false → (l place : ℕ) → Contains (stands_in j place) l ↔ ((l ≢ session) × Contains (stands_in i place) l))
    → (n place : ℕ) → Contains (standing_by v j place) n ↔ ((n ≢ session) × Contains (standing_by v i place) n)
left_alone v i j session none stays out n place = elim (is_or_not (is_joined v session)) [
  | inl joined ↦
      let same = stays joined in (
        λ has. (let stands = subst (λ (x : Dependents). Contains (standing_by v x place) n) same has in
            let at = whose_list v i place n stands in (
              λ it. elim (is_or_not (is_joined v at.0)) [
                | inl was ↦ leader_none v session at.0 none (subst (Contains (members_in v at.0)) it (led_member v at.0 n was at.2))
                | inr was ↦ never_both (is_joined v session) joined (ap (is_joined v) (sym it ∙ led_only v at.0 n was at.2) ∙ was)
              ],
              stands,
            )),
        λ (apart, has). subst (λ (x : Dependents). Contains (standing_by v x place) n) (sym same) has,
      )
  | inr unjoined ↦ (
    λ has. (let at = whose_list v j place n has in
        let both = (out unjoined at.0 place).0 at.1 in (
          λ it. elim (is_or_not (is_joined v at.0)) [
            | inl was ↦ leader_none v session at.0 none (subst (Contains (members_in v at.0)) it (led_member v at.0 n was at.2))
            | inr was ↦ both.0 (sym (led_only v at.0 n was at.2) ∙ it)
          ],
          stands_by v i place at.0 n both.1 at.2,
        )),
    λ (apart, has). (let at = whose_list v i place n has in
        stands_by v j place at.0 n ((out unjoined at.0 place).1 (
          λ it. apart (led_only v session n unjoined (subst (λ (l : ℕ). Contains (led_by v l) n) it at.2)),
          at.1,
        )) at.2),
  )
]

pub left_alone_led : (v : Members) (i j : Dependents) (session : ℕ) → AreLed v i → (is_joined v session ≡ true → j ≡ i)
    → (is_joined v session ≡ false → (l place : ℕ) → Contains (stands_in j place) l ↔ ((l ≢ session) × Contains (stands_in i place) l)) → AreLed v j
left_alone_led v i j session led stays out = elim (is_or_not (is_joined v session)) [
  | inl joined ↦ subst (AreLed v) (sym (stays joined)) led
  | inr unjoined ↦ record {
    there = λ l n member.
        let was = led.there l n member in
        let stood = stands_if_there l i.places was.0 in
        let apart : l ≢ session = λ it. never_both (is_joined v session) (ap (is_joined v) (sym it) ∙ was.1) unjoined in
        (there_if_stands l j.places stood.0 ((out unjoined l stood.0).1 (apart, stood.1)), was.1);
    alone = λ l there lone. led.alone l (there_like j i (λ k place stands. ((out unjoined k place).0 stands).1) l there) lone;
  }
]

-- ---- all but one

pub in_others : (k : ℕ) (xs : List ℕ) (n : ℕ) → Contains xs n → n ≢ k → Contains (others k xs) n
in_others k [] n has apart = absurd (nothing_in n has)
in_others k (x ∷ xs) n has apart = by (first_or_later x xs n has) (eqb_tells x k) (λ later. in_others k xs n later apart)
  where
    by : (n ≡ x) ⊎ Contains xs n → ((nat_eq x k ≡ true) × (x ≡ k)) ⊎ ((nat_eq x k ≡ false) × (x ≢ k)) → (Contains xs n → Contains (others k xs) n)
        → Contains (others k (x ∷ xs)) n
    by (inl here) (inl same) rest = absurd (apart (here ∙ same.1))
    by (inl here) (inr other) rest = rw other.0 (0, omega arith, sym here)
    by (inr later) (inl same) rest = rw same.0 (rest later)
    by (inr later) (inr other) rest = rw other.0 (further x (others k xs) n (rest later))

pub of_others : (k : ℕ) (xs : List ℕ) (n : ℕ) → Contains (others k xs) n → Contains xs n
of_others k [] n has = has
of_others k (x ∷ xs) n has = by (eqb_tells x k) has (of_others k xs n)
  where
    by : ((nat_eq x k ≡ true) × (x ≡ k)) ⊎ ((nat_eq x k ≡ false) × (x ≢ k)) → Contains (others k (x ∷ xs)) n → (Contains (others k xs) n → Contains xs n)
        → Contains (x ∷ xs) n
    by (inl same) inside rest = further x xs n (rest (let later : Contains (others k xs) n = rw same.0 at inside in later))
    by (inr other) inside rest =
        let listed : Contains (x ∷ others k xs) n = rw other.0 at inside in
        elim (first_or_later x (others k xs) n listed) [ inl here ↦ (0, omega arith, sym here) | inr later ↦ further x xs n (rest later) ]

pub not_in_others : (k : ℕ) (xs : List ℕ) (n : ℕ) → Contains (others k xs) n → n ≢ k
not_in_others k [] n has = absurd (nothing_in n has)
not_in_others k (x ∷ xs) n has = by (eqb_tells x k) has (not_in_others k xs n)
  where
    by : ((nat_eq x k ≡ true) × (x ≡ k)) ⊎ ((nat_eq x k ≡ false) × (x ≢ k)) → Contains (others k (x ∷ xs)) n → (Contains (others k xs) n → n ≢ k) → n ≢ k
    by (inl same) inside rest = rest (let later : Contains (others k xs) n = rw same.0 at inside in later)
    by (inr other) inside rest =
        let listed : Contains (x ∷ others k xs) n = rw other.0 at inside in
        elim (first_or_later x (others k xs) n listed) [ inl here ↦ (λ is. other.1 (sym here ∙ is)) | inr later ↦ rest later ]

-- ---- what was so before, and what is so after

-- where nobody is a member of a list, its leader needn't stand
pub without_stands : (v w : Members) (i j : Dependents) (leader : ℕ) → ((n : ℕ) → Contains (led_by w leader) n → ⊥)
    → ((place : ℕ) → stands_in j place ≡ others leader (stands_in i place)) → (l n place : ℕ) → Contains (led_by w l) n → Contains (stands_in i place) l
    → Contains (stands_in j place) l
without_stands v w i j leader empty out l n place member stands =
    subst (λ (xs : List ℕ). Contains xs l) (sym (out place))
    (in_others leader (stands_in i place) l stands (λ same. empty n (subst (λ (k : ℕ). Contains (led_by w k) n) same member)))

-- ---- who is told as the first

-- what is the least of a list, or tells that it is empty, is the first of each of its members
pub first_told : (v : Members) → (leader : ℕ) (told : Option ℕ) → IfSome told (λ m. Contains (members_in v leader) m)
    → IfSome told (λ m. (n : ℕ) → Contains (members_in v leader) n → m ≤ n) → IfNone told ((n : ℕ) → Contains (members_in v leader) n → ⊥) → (n : ℕ)
    → Contains (members_in v leader) n → told ≡ Some (first_in v n)
first_told v leader None there least none n member = absurd (none n member)
first_told v leader (Some m) there least none n member = ap (λ (k : ℕ). Some k) (sym (first_if v leader n m member there least))

-- so who is its own first
pub own_first : (v : Members) → (leader m : ℕ) → (is_joined v leader ≡ false → leader_in v leader ≡ None) → Contains (led_by v leader) m
    → ((n : ℕ) → Contains (led_by v leader) n → m ≤ n) → (n : ℕ) → (n ≡ m) ↔ (Contains (led_by v leader) n × (first_in v n ≡ n))
own_first v leader m alone there least n = (
  λ same. (subst (Contains (led_by v leader)) (sym same) there, subst (λ (k : ℕ). first_in v k ≡ k) (sym same) (led_first v leader m m alone there there least)),
  λ both. sym both.1 ∙ led_first v leader n m alone both.0 there least,
)

pub if_told : (P : ℕ → Type 0) (o : Option ℕ) → ((m : ℕ) → o ≡ Some m → P m) → IfSome o P
if_told P None holds = tt
if_told P (Some m) holds = holds m refl

pub told_if : (P : ℕ → Type 0) (o : Option ℕ) (m : ℕ) → o ≡ Some m → IfSome o P → P m
told_if P None m is p = let no : ⊥ = cc in absurd no
told_if P (Some n) m is p = let same : n ≡ m = cc in subst P same p

pub if_not_told : (Q : Type 0) (o : Option ℕ) → (o ≡ None → Q) → IfNone o Q
if_not_told Q None holds = holds refl
if_not_told Q (Some m) holds = tt

pub not_told_if : (Q : Type 0) (o : Option ℕ) → o ≡ None → IfNone o Q → Q
not_told_if Q None is q = q
not_told_if Q (Some m) is q = let no : ⊥ = cc in absurd no

-- where a session has left a leader's list, the first of it now is the first before, or the next of the session where that was itself
module _ (v w : Members) (session leader : ℕ) (left : HasLeft v w session) (among : Contains (members_in v leader) session) (first next now : Option ℕ)
    (first_is : IsNext (IsLed v leader) None first) (was : first ≡ Some (first_in v session)) (next_is : IsNext (IsLed v leader) (Some session) next)
    (itself : first ≡ Some session → now ≡ next) (another : (first ≡ Some session → ⊥) → now ≡ first) where
  there : IfSome first (λ m. Contains (members_in v leader) m)
  there = told_there v leader first first_is

  least : IfSome first (λ m. (n : ℕ) → Contains (members_in v leader) n → m ≤ n)
  least = told_least v leader first first_is

  -- the others are behind the session, where it was the first
  behind_it : first ≡ Some session → (n : ℕ) → Contains (members_in w leader) n → Contains (members_in v leader) n × (session < n)
  behind_it own n member =
      let before = (left leader n).0 member in
      let low : session ≤ n = told_if (λ m. (n : ℕ) → Contains (members_in v leader) n → m ≤ n) first session own least n before.1 in
      let apart = before.0 in
      (before.1, omega (arith, low, apart))

  not_it : (m : ℕ) → first ≡ Some m → (first ≡ Some session → ⊥) → m ≢ session
  not_it m is other same = other (is ∙ ap (λ (k : ℕ). Some k) same)

  own_or_not : (first ≡ Some session) ⊎ (first ≡ Some session → ⊥)
  own_or_not = elim (eqb_tells (first_in v session) session) [
    | inl own ↦ inl (was ∙ ap (λ (k : ℕ). Some k) own.1)
    | inr apart ↦ inr (λ own. apart.1 (let both : Some (first_in v session) ≡ Some session = sym was ∙ own in let same : first_in v session ≡ session = cc in same))
  ]

  pub now_there : IfSome now (λ m. Contains (members_in w leader) m)
  now_there = if_told (λ m. Contains (members_in w leader) m) now (λ m is. elim own_or_not [
    | inl own ↦ (
        let both = told_if (λ k. Contains (members_in v leader) k × (session < k)) next m (sym (itself own) ∙ is) (next_there v leader session next next_is) in
        let behind = both.1 in
        (left leader m).1 ((λ same. omega (arith, same, behind)), both.0))
    | inr other ↦ (
        let told : first ≡ Some m = sym (another other) ∙ is in
        (left leader m).1 (not_it m told other, told_if (λ k. Contains (members_in v leader) k) first m told there))
  ])

  pub now_least : IfSome now (λ m. (n : ℕ) → Contains (members_in w leader) n → m ≤ n)
  now_least = if_told (λ m. (n : ℕ) → Contains (members_in w leader) n → m ≤ n) now (λ m is n member. elim own_or_not [
    | inl own ↦ (
        let behind = behind_it own n member in
        told_if (λ k. (n : ℕ) → Contains (members_in v leader) n → session < n → k ≤ n) next m (sym (itself own) ∙ is) (next_least v leader session next next_is) n behind.0 behind.1)
    | inr other ↦
        told_if (λ k. (n : ℕ) → Contains (members_in v leader) n → k ≤ n) first m (sym (another other) ∙ is) least n ((left leader n).0 member).1
  ])

  pub now_none : IfNone now ((n : ℕ) → Contains (members_in w leader) n → ⊥)
  now_none = if_not_told ((n : ℕ) → Contains (members_in w leader) n → ⊥) now (λ is n member. elim own_or_not [
    | inl own ↦ (
        let behind = behind_it own n member in
        not_told_if ((n : ℕ) → Contains (members_in v leader) n → session < n → ⊥) next (sym (itself own) ∙ is) (next_none v leader session next next_is) n behind.0 behind.1)
    | inr other ↦ (let no : None ≡ Some (first_in v session) = sym is ∙ another other ∙ was in let never : ⊥ = cc in never)
  ])

-- a session has left a leader's list; the list's first before, its first now, and the one of these that is told
module _ (v w : Members) (session leader : ℕ) (left : HasLeft v w session)
    (among : Contains (members_in v leader) session) (first next result : Option ℕ) (was : first ≡ Some (first_in v session))
    (is : (n : ℕ) → Contains (members_in w leader) n → next ≡ Some (first_in w n)) (there : IfSome next (λ m. Contains (members_in w leader) m))
    (led : first ≡ Some session → result ≡ next) (other : (first ≡ Some session → ⊥) → result ≡ None) where
  pub left_next : (n : ℕ) → n ≢ session → first_in v n ≡ session → result ≡ Some (first_in w n)
  left_next n apart first_is =
      let member = left_list v session leader among n apart first_is in
      let own : first_in v session ≡ session = one_first v leader session n among member ∙ first_is in
      led (was ∙ ap (λ (k : ℕ). Some k) own) ∙ is n ((left leader n).1 (apart, member))

  -- whoever is told was led by it, and leads the others now
  told_next : (m : ℕ) → result ≡ Some m → Contains (members_in w leader) m × (first_in v session ≡ session) × (first_in w m ≡ m)
  told_next m told = elim (eqb_tells (first_in v session) session) [
    | inl own ↦ (
        let same : next ≡ Some m = sym (led (was ∙ ap (λ (k : ℕ). Some k) own.1)) ∙ told in
        let member = told_if (λ k. Contains (members_in w leader) k) next m same there in
        let both : Some m ≡ Some (first_in w m) = sym same ∙ is m member in
        (member, own.1, (let back : first_in w m ≡ m = cc in back)))
    | inr apart ↦ (
        let none : None ≡ Some m = sym (other (λ own. apart.1 (let both : Some (first_in v session) ≡ Some session = sym was ∙ own in let same : first_in v session ≡ session = cc in same))) ∙ told in
        let no : ⊥ = cc in
        absurd no)
  ]

  pub left_first : IfSome result (λ m. (m ≢ session) × (first_in v m ≡ session) × (first_in w m ≡ m))
  left_first = if_told (λ m. (m ≢ session) × (first_in v m ≡ session) × (first_in w m ≡ m)) result (λ m told.
      let of = told_next m told in
      let before = (left leader m).0 of.0 in
      (before.0, one_first v leader m session before.1 among ∙ of.1, of.2))

  pub left_where : (i : Dependents) → AreLed v i → IfSome result (λ m. (place : ℕ) × Contains (standing_by v i place) m)
  left_where i led = if_told (λ m. (place : ℕ) × Contains (standing_by v i place) m) result (λ m told.
      let before = (left leader m).0 (told_next m told).0 in
      let is = led.there leader m before.1 in
      let stands = stands_if_there leader i.places is.0 in
      (stands.0, stands_by v i stands.0 leader m stands.1 (joined_led v leader m is.1 before.1)))
