use Rattle.std.proofs.Common.{◌≡◌, ◌≢◌, ◌↔◌, inl, inr, ℕ, List, Some, None, true, ap, sym, refl, subst, ◌≤◌, ◌∙◌}
use Rattle.std.specs.Prelude.{Option, IfNone, IfSome, is_some}
use Rattle.std.specs.List.{Contains}
use Rattle.ucon_links.specs.Dependents.{Dependents, stands_in}
use Rattle.ucon_collections.specs.Lists.{Members}
use Rattle.ucon_readers.specs.Listing.{AreLed, ChangesGive, Listing, readers_in, standing_by}
use Rattle.ucon_collections.specs.Lists.{is_joined}
use Rattle.ucon_readers.specs.Lists.{first_in, led_by, members_in}
use Rattle.ucon_readers.proofs.Founding.{has_left}
use Rattle.ucon_readers.proofs.Leading.{HasLeft, first_told, joined_led, led_like, led_member, left_alone, left_alone_led, left_first, left_next, left_same, left_stands, left_where, now_least, now_none, now_there, of_others, stands_if_there, there_if_stands, there_like, without_stands}
use Rattle.ucon_readers.proofs.Listed.{alone_leads, first_is_low, leader_some, told_least, told_none, told_there}
use Rattle.ucon_readers.proofs.Placed.{hidden_gives, listed_gives}
use Rattle.ucon_readers.proofs.standing.Standing.hide.Goals as goal

-- ---- who is in no list

pub invariant_of-self : goal.invariant_of-self
invariant_of-self c =
    left_alone_led c.self.inside.lists.members c.self.inside.index c.hide_alone.new.index c.args.session c.self.invariant c.hide_alone.ensures.stays c.hide_alone.ensures.stands

pub returns-in_default-clause-read : goal.returns-in_default-clause-read
returns-in_default-clause-read c =
    let v = c.self.inside.lists.members in
    subst (λ (s : Listing). (n place : ℕ) → Contains (standing_by v c.hide_alone.new.index place) n ↔ ((n ≢ c.args.session) × Contains (readers_in s place) n)) c.self.view_is
    (left_alone v c.self.inside.index c.hide_alone.new.index c.args.session (sym c.in_default.ensures.leader) c.hide_alone.ensures.stays c.hide_alone.ensures.stands)

pub returns-in_default-clause-same : goal.returns-in_default-clause-same
returns-in_default-clause-same c = λ n apart other. ap (λ (s : Listing). first_in s.lists.members n) c.self.view_is

pub returns-in_default-clause-next : goal.returns-in_default-clause-next
returns-in_default-clause-next c =
    let v = c.self.inside.lists.members in
    subst (λ (s : Listing). (n : ℕ) → n ≢ c.args.session → first_in s.lists.members n ≡ c.args.session → None ≡ Some (first_in v n)) c.self.view_is
    (λ n apart is. absurd (alone_leads v c.args.session (sym c.in_default.ensures.leader) n apart is))

pub returns-in_default-clause-low : goal.returns-in_default-clause-low
returns-in_default-clause-low c = first_is_low c.self.inside.lists.members

pub returns-in_default-clause-undo : goal.returns-in_default-clause-undo
returns-in_default-clause-undo c = λ standing first gives.
    let s : Listing = record { lists = c.self.inside.lists; index = c.self.inside.index; added = c.self.inside.added } in
    let t : Listing = record { lists = c.self.inside.lists; index = c.hide_alone.new.index; added = c.self.inside.added } in
    let mine = subst (λ (x : Listing). ChangesGive x standing first) (sym c.self.view_is) gives in
    elim c.hide_alone.ensures.hidden [
      | inl same ↦ listed_gives s t standing first refl same (λ before gives_it. gives_it) mine
      | inr out ↦ hidden_gives s t c.args.session standing first refl out.0 out.1 (λ before gives_it. gives_it) mine
    ]

-- ---- who leaves a list

pub next-next-requires : goal.next-next-requires
next-next-requires c = sym c.in-Some.ensures.leader

pub leave-requires : goal.leave-requires
leave-requires c = sym c.in-Some.ensures.leader

pub invariant_of-self-in_err-leave : goal.invariant_of-self-in_err-leave
invariant_of-self-in_err-leave c = subst (λ (v : Members). AreLed v c.self.inside.index) (sym c.in_err-leave.ensures.err) c.self.invariant

pub returns-in_err-leave-clause-undo : goal.returns-in_err-leave-clause-undo
returns-in_err-leave-clause-undo c = λ standing first gives.
    listed_gives (record { lists = c.self.inside.lists; index = c.self.inside.index; added = c.self.inside.added })
    (record { lists = c.leave.new.self; index = c.self.inside.index; added = c.self.inside.added }) standing first refl refl c.leave.ensures.undo
    (subst (λ (x : Listing). ChangesGive x standing first) (sym c.self.view_is) gives)

pub if_empty_hide-requires : goal.if_empty_hide-requires
if_empty_hide-requires c =
    (c.self.invariant.there c.in-Some.leader c.args.session (leader_some c.self.inside.lists.members c.args.session c.in-Some.leader (sym c.in-Some.ensures.leader))).0

left : (c : goal.After-next_first) → HasLeft c.self.inside.lists.members c.leave.new.self.members c.args.session
left c = has_left c.self.inside.lists.members c.leave.new.self.members c.args.session c.in_ok-leave.ensures.leaves

-- the list's first before, and its first now

was : (c : goal.After-next_first) → c.first-first.result ≡ Some (first_in c.self.inside.lists.members c.args.session)
was c =
    let v = c.self.inside.lists.members in
    first_told v c.in-Some.leader c.first-first.result (told_there v c.in-Some.leader c.first-first.result c.first-first.ensures)
    (told_least v c.in-Some.leader c.first-first.result c.first-first.ensures) (told_none v c.in-Some.leader c.first-first.result c.first-first.ensures) c.args.session
    (leader_some v c.args.session c.in-Some.leader (sym c.in-Some.ensures.leader))

there_now : (c : goal.After-next_first) → IfSome c.first_without.result (λ m. Contains (members_in c.leave.new.self.members c.in-Some.leader) m)
there_now c =
    let v = c.self.inside.lists.members in
    let w = c.leave.new.self.members in
    let among = leader_some v c.args.session c.in-Some.leader (sym c.in-Some.ensures.leader) in
    now_there v w c.args.session c.in-Some.leader (left c) among c.first-first.result c.next-next.result c.first_without.result c.first-first.ensures (was c)
    c.next-next.ensures c.first_without.ensures.was c.first_without.ensures.other

least_now : (c : goal.After-next_first) → IfSome c.first_without.result (λ m. (n : ℕ) → Contains (members_in c.leave.new.self.members c.in-Some.leader) n → m ≤ n)
least_now c =
    let v = c.self.inside.lists.members in
    let w = c.leave.new.self.members in
    let among = leader_some v c.args.session c.in-Some.leader (sym c.in-Some.ensures.leader) in
    now_least v w c.args.session c.in-Some.leader (left c) among c.first-first.result c.next-next.result c.first_without.result c.first-first.ensures (was c)
    c.next-next.ensures c.first_without.ensures.was c.first_without.ensures.other

none_now : (c : goal.After-next_first) → IfNone c.first_without.result ((n : ℕ) → Contains (members_in c.leave.new.self.members c.in-Some.leader) n → ⊥)
none_now c =
    let v = c.self.inside.lists.members in
    let w = c.leave.new.self.members in
    let among = leader_some v c.args.session c.in-Some.leader (sym c.in-Some.ensures.leader) in
    now_none v w c.args.session c.in-Some.leader (left c) among c.first-first.result c.next-next.result c.first_without.result c.first-first.ensures (was c)
    c.next-next.ensures c.first_without.ensures.was c.first_without.ensures.other

led_now : (c : goal.After-next_first) → c.first-first.result ≡ Some c.args.session → c.next_first.result ≡ c.first_without.result
led_now c own = c.next_first.ensures.was own ∙ sym (c.first_without.ensures.was own)

-- the leader's list was joined, and is so still
joined : (c : goal.After-next_first) → is_joined c.leave.new.self.members c.in-Some.leader ≡ true
joined c =
    let v = c.self.inside.lists.members in
    c.in_ok-leave.ensures.leaves.joined c.in-Some.leader
    ∙ (c.self.invariant.there c.in-Some.leader c.args.session (leader_some v c.args.session c.in-Some.leader (sym c.in-Some.ensures.leader))).1

-- the leaders of lists that somebody is still in stand where they stood
still : (c : goal.After-next_first) → (l n place : ℕ) → Contains (led_by c.leave.new.self.members l) n → Contains (stands_in c.self.inside.index place) l
    → Contains (stands_in c.if_empty_hide.new.index place) l
still c l n place led stands = by c.first_without.result refl (none_now c)
  where
    by : (o : Option ℕ) → c.first_without.result ≡ o → IfNone o ((n : ℕ) → Contains (members_in c.leave.new.self.members c.in-Some.leader) n → ⊥)
        → Contains (stands_in c.if_empty_hide.new.index place) l
    by None is empty =
        without_stands c.self.inside.lists.members c.leave.new.self.members c.self.inside.index c.if_empty_hide.new.index c.in-Some.leader
        (λ m has. empty m (led_member c.leave.new.self.members c.in-Some.leader m (joined c) has)) (c.if_empty_hide.ensures.stands is) l n place led stands
    by (Some m) is empty =
        subst (λ (i : Dependents). Contains (stands_in i place) l) (sym (c.if_empty_hide.ensures.led (ap is_some is))) stands

were : (c : goal.After-next_first) → (l place : ℕ) → Contains (stands_in c.if_empty_hide.new.index place) l → Contains (stands_in c.self.inside.index place) l
were c l place stands = by c.first_without.result refl
  where
    by : (o : Option ℕ) → c.first_without.result ≡ o → Contains (stands_in c.self.inside.index place) l
    by None is =
        of_others c.in-Some.leader (stands_in c.self.inside.index place) l (subst (λ (xs : List ℕ). Contains xs l) (c.if_empty_hide.ensures.stands is place) stands)
    by (Some m) is = subst (λ (i : Dependents). Contains (stands_in i place) l) (c.if_empty_hide.ensures.led (ap is_some is)) stands

pub invariant_of-self-2 : goal.invariant_of-self-2
invariant_of-self-2 c =
    let v = c.self.inside.lists.members in
    let w = c.leave.new.self.members in
    let i = c.self.inside.index in
    let j = c.if_empty_hide.new.index in
    led_like v w i j c.self.invariant (λ l n has. ((left c l n).0 has).1) c.in_ok-leave.ensures.leaves.joined
    (λ l n member there.
    let stood = stands_if_there l i.places there in
    let is = (c.self.invariant.there l n ((left c l n).0 member).1).1 in
    there_if_stands l j.places stood.0 (still c l n stood.0 (joined_led w l n (c.in_ok-leave.ensures.leaves.joined l ∙ is) member) stood.1))
    (there_like j i (were c))

pub returns-clause-read : goal.returns-clause-read
returns-clause-read c =
    let v = c.self.inside.lists.members in
    let w = c.leave.new.self.members in
    subst (λ (s : Listing). (n place : ℕ) → Contains (standing_by w c.if_empty_hide.new.index place) n ↔ ((n ≢ c.args.session) × Contains (readers_in s place) n)) c.self.view_is
    (left_stands v w c.self.inside.index c.if_empty_hide.new.index c.args.session c.in-Some.leader c.self.invariant (left c)
    (sym c.in-Some.ensures.leader) c.in_ok-leave.ensures.leaves.joined (still c) (were c))

pub returns-clause-same : goal.returns-clause-same
returns-clause-same c =
    let v = c.self.inside.lists.members in
    let w = c.leave.new.self.members in
    let among = leader_some v c.args.session c.in-Some.leader (sym c.in-Some.ensures.leader) in
    subst (λ (s : Listing). (n : ℕ) → n ≢ c.args.session → first_in s.lists.members n ≢ c.args.session → first_in w n ≡ first_in s.lists.members n) c.self.view_is
    (left_same v w c.args.session c.in-Some.leader (left c) among)

is : (c : goal.After-next_first) → (n : ℕ) → Contains (members_in c.leave.new.self.members c.in-Some.leader) n → c.first_without.result ≡ Some (first_in c.leave.new.self.members n)
is c = first_told c.leave.new.self.members c.in-Some.leader c.first_without.result (there_now c) (least_now c) (none_now c)

pub returns-clause-next : goal.returns-clause-next
returns-clause-next c =
    let v = c.self.inside.lists.members in
    let w = c.leave.new.self.members in
    let among = leader_some v c.args.session c.in-Some.leader (sym c.in-Some.ensures.leader) in
    subst (λ (s : Listing). (n : ℕ) → n ≢ c.args.session → first_in s.lists.members n ≡ c.args.session → c.next_first.result ≡ Some (first_in w n)) c.self.view_is
    (left_next v w c.args.session c.in-Some.leader (left c) among c.first-first.result c.first_without.result
    c.next_first.result (was c) (is c) (there_now c) (led_now c) c.next_first.ensures.other)

pub returns-clause-first : goal.returns-clause-first
returns-clause-first c =
    let v = c.self.inside.lists.members in
    let w = c.leave.new.self.members in
    let among = leader_some v c.args.session c.in-Some.leader (sym c.in-Some.ensures.leader) in
    subst (λ (s : Listing). IfSome c.next_first.result (λ m. (m ≢ c.args.session) × (first_in s.lists.members m ≡ c.args.session) × (first_in w m ≡ m))) c.self.view_is
    (left_first v w c.args.session c.in-Some.leader (left c) among c.first-first.result c.first_without.result
    c.next_first.result (was c) (is c) (there_now c) (led_now c) c.next_first.ensures.other)

pub returns-clause-stands : goal.returns-clause-stands
returns-clause-stands c =
    let v = c.self.inside.lists.members in
    let w = c.leave.new.self.members in
    let among = leader_some v c.args.session c.in-Some.leader (sym c.in-Some.ensures.leader) in
    subst (λ (s : Listing). IfSome c.next_first.result (λ m. (place : ℕ) × Contains (readers_in s place) m)) c.self.view_is
    (left_where v w c.args.session c.in-Some.leader (left c) among c.first-first.result c.first_without.result
    c.next_first.result (was c) (is c) (there_now c) (led_now c) c.next_first.ensures.other c.self.inside.index c.self.invariant)

pub returns-clause-low : goal.returns-clause-low
returns-clause-low c = first_is_low c.leave.new.self.members

pub returns-clause-undo : goal.returns-clause-undo
returns-clause-undo c = λ standing first gives. by standing first (subst (λ (x : Listing). ChangesGive x standing first) (sym c.self.view_is) gives) c.first_without.result refl
  where
    by : (standing : ℕ → List ℕ) (first : ℕ → ℕ)
        → ChangesGive (record { lists = c.self.inside.lists; index = c.self.inside.index; added = c.self.inside.added }) standing first
        → (o : Option ℕ) → c.first_without.result ≡ o
        → ChangesGive (record { lists = c.leave.new.self; index = c.if_empty_hide.new.index; added = c.self.inside.added }) standing first
    by standing first gives None is =
        hidden_gives (record { lists = c.self.inside.lists; index = c.self.inside.index; added = c.self.inside.added })
        (record { lists = c.leave.new.self; index = c.if_empty_hide.new.index; added = c.self.inside.added }) c.in-Some.leader standing first refl
        (c.if_empty_hide.ensures.hidden is) (c.if_empty_hide.ensures.restored is) c.leave.ensures.undo gives
    by standing first gives (Some m) is =
        listed_gives (record { lists = c.self.inside.lists; index = c.self.inside.index; added = c.self.inside.added })
        (record { lists = c.leave.new.self; index = c.if_empty_hide.new.index; added = c.self.inside.added }) standing first refl
        (c.if_empty_hide.ensures.led (ap is_some is)) c.leave.ensures.undo gives
