-- Who is in which list, once a session came into one or left its own.
use Rattle.std.proofs.Common.{◌≡◌, ◌≢◌, ◌∙◌, ◌⊎◌, inl, inr, ◌↔◌, ℕ, true, false, refl, sym, ap, subst}
use Rattle.std.specs.Prelude.{Some, None}
use Rattle.std.specs.List.{Contains}
use Rattle.std.proofs.lemmas.Bool.Decides.{eqb_tells}
use Rattle.ucon_collections.specs.Lists.{IsLed, Joins, Leaves, Members, is_joined, leader_in}
use Rattle.ucon_readers.specs.Lists.{led_by, members_in}
use Rattle.ucon_readers.proofs.Leading.{HasCome, HasLeft, alone_led, is_or_not, joined_led, led_member, led_only}
use Rattle.ucon_readers.proofs.Listed.{leader_some, of_one, some_of}

-- a session joins a leader's list
module _ (v w : Members) (leader session : ℕ) (joins : Joins v w leader session) (alone : leader_in v session ≡ None)
    (leads : is_joined v leader ≡ false → leader_in v leader ≡ None) (sound : (l n : ℕ) → Contains (members_in v l) n → is_joined v l ≡ true) where
  -- whoever was in a list is in it still
  stays : (l n : ℕ) → IsLed v l n → IsLed w l n
  stays l n led = elim (eqb_tells n session) [
    | inl same ↦ absurd (let no : None ≡ Some l = sym alone ∙ ap (leader_in v) (sym same.1) ∙ led in cc)
    | inr other ↦ elim (is_or_not (is_joined v leader)) [
      | inl was ↦ joins.others n other.1 (inr was) ∙ led
      | inr was ↦ elim (eqb_tells n leader) [
        | inl own ↦ absurd (let no : None ≡ Some l = sym (leads was) ∙ ap (leader_in v) (sym own.1) ∙ led in cc)
        | inr apart ↦ joins.others n other.1 (inl apart.1) ∙ led
      ]
    ]
  ]

  -- whoever is in one was so, or came
  came : (l n : ℕ) → IsLed w l n → (((n ≡ session) × (l ≡ leader)) ⊎ IsLed v l n) ⊎ ((n ≡ leader) × (l ≡ leader) × (is_joined v leader ≡ false))
  came l n led = elim (eqb_tells n session) [
    | inl same ↦ inl (inl (same.1, some_of (sym led ∙ ap (leader_in w) same.1 ∙ joins.itself)))
    | inr other ↦ elim (is_or_not (is_joined v leader)) [
      | inl was ↦ inl (inr (sym (joins.others n other.1 (inr was)) ∙ led))
      | inr was ↦ elim (eqb_tells n leader) [
        | inl own ↦ inr (own.1, some_of (sym led ∙ ap (leader_in w) own.1 ∙ joins.founder was), was)
        | inr apart ↦ inl (inr (sym (joins.others n other.1 (inl apart.1)) ∙ led))
      ]
    ]
  ]

  into_it : (n : ℕ) → Contains (led_by w leader) n ↔ ((n ≡ session) ⊎ Contains (led_by v leader) n)
  into_it n = (
    λ has. elim (came leader n (of_one w leader n (led_member w leader n joins.joined has))) [
      | inl either ↦ elim either [
        | inl new ↦ inl new.0
        | inr was ↦ inr (let member = leader_some v n leader was in joined_led v leader n (sound leader n member) member)
      ]
      | inr founder ↦ inr (subst (Contains (led_by v leader)) (sym founder.0) (alone_led v leader founder.2))
    ],
    λ either. joined_led w leader n joins.joined (leader_some w n leader (elim either [
      | inl new ↦ ap (leader_in w) new ∙ joins.itself
      | inr led ↦ elim (is_or_not (is_joined v leader)) [
        | inl was ↦ stays leader n (of_one v leader n (led_member v leader n was led))
        | inr was ↦ ap (leader_in w) (led_only v leader n was led) ∙ joins.founder was
      ]
    ])),
  )

  elsewhere : (l n : ℕ) → l ≢ leader → Contains (led_by w l) n ↔ Contains (led_by v l) n
  elsewhere l n apart = elim (is_or_not (is_joined v l)) [
    | inl was ↦ (
      λ has. elim (came l n (of_one w l n (led_member w l n (joins.lists l apart ∙ was) has))) [
        | inl either ↦ elim either [ inl new ↦ absurd (apart new.1) | inr led ↦ joined_led v l n was (leader_some v n l led) ]
        | inr founder ↦ absurd (apart founder.1)
      ],
      λ has. joined_led w l n (joins.lists l apart ∙ was) (leader_some w n l (stays l n (of_one v l n (led_member v l n was has)))),
    )
    | inr was ↦ (
      λ has. subst (Contains (led_by v l)) (sym (led_only w l n (joins.lists l apart ∙ was) has)) (alone_led v l was),
      λ has. subst (Contains (led_by w l)) (sym (led_only v l n was has)) (alone_led w l (joins.lists l apart ∙ was)),
    )
  ]

  pub has_come : HasCome v w leader session
  has_come l n = elim (eqb_tells l leader) [
    | inl here ↦ subst (λ (k : ℕ). Contains (led_by w k) n ↔ (((n ≡ session) × (k ≡ leader)) ⊎ Contains (led_by v k) n)) (sym here.1) (
      λ has. elim ((into_it n).0 has) [ inl new ↦ inl (new, refl) | inr led ↦ inr led ],
      λ either. (into_it n).1 (elim either [ inl new ↦ inl new.0 | inr led ↦ inr led ]),
    )
    | inr apart ↦ (
      λ has. inr ((elsewhere l n apart.1).0 has),
      λ either. elim either [ inl new ↦ absurd (apart.1 new.1) | inr led ↦ (elsewhere l n apart.1).1 led ],
    )
  ]

-- a session leaves its list
pub has_left : (v w : Members) (session : ℕ) → Leaves v w session → HasLeft v w session
has_left v w session leaves l n = (
  λ has. (let led = of_one w l n has in
      let apart : n ≢ session = λ same. (let no : None ≡ Some l = sym leaves.itself ∙ ap (leader_in w) (sym same) ∙ led in cc) in
      (apart, leader_some v n l (sym (leaves.others n apart) ∙ led))),
  λ both. leader_some w n l (leaves.others n both.0 ∙ of_one v l n both.1),
)
