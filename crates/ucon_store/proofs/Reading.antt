-- What opening sees in a file that is read from its last checkpoint on.
use Rattle.std.proofs.Common.{◌≡◌, ◌≢◌, inl, inr, ℕ, ◌+◌, ◌<◌, ◌≤◌, Bool, true, false, cond, List, [], ◌∷◌, ◌++◌, length, Option, Some, None, refl, sym, ap, ◌∙◌, subst, arith}
use Rattle.std.specs.Prelude.{is_none, nat_lt, option_map, unwrap_or, IfSome}
use Rattle.std.specs.Option.{option_or}
use Rattle.ucon_journal.specs.Found as journal
use Rattle.ucon_journal.specs.Found.{counted, payloads_from}
use Rattle.ucon_model.specs.Action.{Trace}
use Rattle.ucon_model.specs.Found as model
use Rattle.ucon_model.specs.Found.{Finding, first_gate, found_behind, found_in, gate_behind, next_gate, taken}
use Rattle.ucon_model.specs.History.{History}
use Rattle.ucon_model.specs.Payload.{most_payload}
use Rattle.ucon_model.specs.Plain.{Bytes, PlainPolicy}
use Rattle.ucon_syntax.specs.Policies.{accepted}
use Rattle.ucon_store.specs.declared.walking.LastPoint.{LastPoint}
use Rattle.ucon_store.specs.Reaching.{IsTaken, IsUpTo}
use Rattle.ucon_store.specs.Walking.{IsAtParted, IsWalked}
use Rattle.ucon_store.specs.Found.{found}
use Rattle.ucon_store.specs.Loading.{IsOfNone, IsReadAs, IsReadTo, IsReadWhole, found_from}
use Rattle.ucon_store.specs.Opened as opened
use Rattle.ucon_store.specs.Opened.{IsPointOf, Parted, Seen, Sees, SeesIn, SeesPast, first_long, parted, parted_with, preceded_by, seen_after, steps_after, steps_among, steps_by}
use Rattle.ucon_store.specs.Points.{has_points, is_point, point_taken, takes_with}
use Rattle.ucon_store.specs.Starts.{BeginsAt, IsBeforeAll, IsStart}
use Rattle.ucon_store.proofs.After.{long_after}
use Rattle.ucon_store.proofs.Finding.{takes_of}
use Rattle.ucon_store.proofs.Openings.{found_counted, policy_right, step_right, step_wrong}
use Rattle.ucon_store.proofs.Seeing.Walk.{none_parts}

-- ---- without a checkpoint

-- from the empty trace on each step is the next one of a history
first_step : (text : Bytes) (P : PlainPolicy) (H : History) (payload : Bytes) → taken accepted P H payload ≡ steps_after [] text P H payload
unfolding taken steps_by
first_step text P H payload = refl

kind_step : (points : Bool) (text : Bytes) (P : PlainPolicy) (H : History) (payload : Bytes) (payloads : List Bytes) → parted_with points (payload ∷ payloads) ≡ None
    → (takes_with points text P H payload ≡ steps_after [] text P H payload) × (parted_with points payloads ≡ None)
kind_step false text P H payload payloads none = (first_step text P H payload, refl)
kind_step true text P H payload payloads none =
    let parts = none_parts payload payloads none in
    (ap (λ (b : Bool). cond b (point_taken text P H payload) (taken accepted P H payload)) parts.0 ∙ first_step text P H payload, parts.1)

either_later : (d : Finding) (f g : History → Finding) → ((later : History) → f later ≡ g later) → (o : Option History) → unwrap_or (option_map f o) d ≡ unwrap_or (option_map g o) d
either_later d f g same None = refl
either_later d f g same (Some later) = same later

takes_alike : (points : Bool) (text : Bytes) (P : PlainPolicy) (payloads : List Bytes) → parted_with points payloads ≡ None → (H : History) (number gate : ℕ)
    → found_behind (takes_with points) text P H number gate payloads ≡ found_behind (steps_after []) text P H number gate payloads
takes_alike points text P [] none H number gate = refl
takes_alike points text P (payload ∷ payloads) none H number gate =
    let step = kind_step points text P H payload payloads none in
    ap (λ (o : Option History). unwrap_or (option_map (λ later. found_behind (takes_with points) text P later (number + 1) (next_gate gate payload) payloads) o) (model.damaged number gate)) step.0
    ∙ either_later (model.damaged number gate) (λ later. found_behind (takes_with points) text P later (number + 1) (next_gate gate payload) payloads)
    (λ later. found_behind (steps_after []) text P later (number + 1) (next_gate gate payload) payloads)
    (λ later. takes_alike points text P payloads step.1 later (number + 1) (next_gate gate payload)) (steps_after [] text P H payload)

pub some_counted : (f : journal.Found) (text : Bytes) (payloads : List Bytes) → journal.payloads_found f ≡ text ∷ payloads → f ≢ journal.NotJournal
some_counted journal.Fresh text payloads is bad = cc bad
some_counted journal.NotJournal text payloads is bad = let none : [] ≡ text ∷ payloads = is in cc none
some_counted (journal.Holds ps gate) text payloads is bad = cc bad

within_if : (m n : ℕ) → nat_lt m n ≡ false → n ≤ m
within_if m n is = grind arith

text_short : (text : Bytes) (payloads : List Bytes) (number gate : ℕ) → first_long number gate (text ∷ payloads) ≡ None → nat_lt most_payload (length text) ≡ false
text_short text payloads number gate short = by (nat_lt most_payload (length text)) refl short
  where
    by : (b : Bool) → nat_lt most_payload (length text) ≡ b → cond b (Some (number, gate)) (first_long (number + 1) (next_gate gate text) payloads) ≡ None → b ≡ false
    by false is none = refl
    by true is none = absurd (let no : Some (number, gate) ≡ None = none in cc no)

rest_short : (text : Bytes) (payloads : List Bytes) (number gate : ℕ) → first_long number gate (text ∷ payloads) ≡ None → first_long (number + 1) (next_gate gate text) payloads ≡ None
rest_short text payloads number gate short =
    ap (λ (b : Bool). cond b (Some (number, gate)) (first_long (number + 1) (next_gate gate text) payloads)) (sym (text_short text payloads number gate short)) ∙ short

-- the whole file is found as what is found behind record 0
pub found_first : (file text : Bytes) (P : PlainPolicy) (payloads : List Bytes) → counted file ≡ text ∷ payloads → first_long 0 first_gate (text ∷ payloads) ≡ None → accepted text ≡ Some P
    → parted_with (has_points file) payloads ≡ None → found file ≡ found_from P [] text payloads None
found_first file text P payloads counts short accepts none =
    found_counted file (some_counted (journal.found file) text payloads counts)
    ∙ (ap (found_in accepted (takes_of file)) counts
    ∙ (policy_right (takes_of file) text P payloads (within_if most_payload (length text) (text_short text payloads 0 first_gate short)) accepts
    ∙ takes_alike (has_points file) text P payloads none [] 1 (next_gate first_gate text)))

-- ---- what is seen

-- past the policy
module _ (file text : Bytes) (P : PlainPolicy) (accepts : accepted text ≡ Some P) (payloads : List Bytes) (counts : counted file ≡ text ∷ payloads)
    (short : first_long 0 first_gate (text ∷ payloads) ≡ None) where
  sees_past : (seen : Seen) → SeesPast None text (Some P) (parted_with (has_points file) payloads) (found file) seen → Sees file seen
  sees_past seen past =
      subst (λ (l : List Bytes). SeesIn (has_points file) l (found file) seen) (sym counts)
      (subst (λ (o : Option (ℕ × ℕ)). SeesPast o text (accepted text) (parted_with (has_points file) payloads) (found file) seen) (sym short)
      (subst (λ (o : Option PlainPolicy). SeesPast None text o (parted_with (has_points file) payloads) (found file) seen) (sym accepts) past))

  module _ (point : Option Bytes) (before : ℕ) (T : Trace) (start : IsStart P point before T) (f : Finding) where
    past : (o : Option Parted) → parted_with (has_points file) payloads ≡ o → BeginsAt o point before → found_from P T text payloads o ≡ f
        → SeesPast None text (Some P) o (found file) (seen_after before T f)
    past None none begins says =
        let here : (before ≡ 0) × (T ≡ []) = subst (λ (x : Option Bytes). IsStart P x before T) begins.0 start in
        let finds : f ≡ found file = sym says ∙ (ap (λ (U : Trace). found_from P U text payloads None) here.1 ∙ sym (found_first file text P payloads counts short accepts none)) in
        λ i. seen_after (begins.1 i) (here.1 i) (finds i)
    past (Some p) at begins says =
        let here : IsPointOf (steps_among p.before) P T p.point = subst (λ (z : Option Bytes × ℕ). IsStart P z.0 z.1 T) (λ i. (begins.0 i, begins.1 i)) start in
        inr (P, T, here, λ i. seen_after (begins.1 i) T (sym says i))

pub sees_read : (text : Bytes) (P : PlainPolicy) (point : Option Bytes) (before : ℕ) (f : Trace → Finding) (file : Bytes) → accepted text ≡ Some P → IsReadAs text P point before f file
    → (T : Trace) → IsStart P point before T → Sees file (seen_after before T (f T))
sees_read text P point before f file accepts r T start =
    sees_past file text P accepts r.payloads r.counts r.short (seen_after before T (f T))
    (past file text P accepts r.payloads r.counts r.short point before T start (f T) (parted_with (has_points file) r.payloads) refl r.begins (r.says T start))

-- the policy is wrong
pub sees_no_policy : (o : Option Bytes) (text : Bytes) (next : ℕ) (last : Option LastPoint) → IfSome o (λ file. (counted file ≡ text ∷ payloads_from file next) × IsWalked (has_points file) (counted file) last)
    → accepted text ≡ None → IfSome o (λ file. Sees file (opened.damaged 0 8))
sees_no_policy None text next last h refuses = tt
sees_no_policy (Some file) text next last h refuses =
    let payloads : List Bytes = payloads_from file next in
    let walked : IsWalked (has_points file) (text ∷ payloads) last = subst (λ (l : List Bytes). IsWalked (has_points file) l last) h.0 h.1 in
    subst (λ (l : List Bytes). SeesIn (has_points file) l (found file) (opened.damaged 0 8)) (sym h.0)
    (subst (λ (o : Option (ℕ × ℕ)). SeesPast o text (accepted text) (parted_with (has_points file) payloads) (found file) (opened.damaged 0 8)) (sym walked.0)
    (subst (λ (o : Option PlainPolicy). SeesPast None text o (parted_with (has_points file) payloads) (found file) (opened.damaged 0 8)) (sym refuses) refl))

-- ---- where it begins

none_at : (text : Bytes) (o : Option Parted) → IsAtParted text o None → o ≡ None
none_at text None h = refl
none_at text (Some p) h = absurd h

-- behind record 0
pub read_first : (o : Option Bytes) (text t : Bytes) (P : PlainPolicy) (point : Option Bytes) (before : ℕ) (H : History) (records gate : ℕ)
    → IfSome o (λ file. (counted file ≡ text ∷ payloads_from file gate) × IsWalked (has_points file) (counted file) None) → gate ≡ 13 + length text → t ≡ text → IsBeforeAll point before
    → H ≡ [] → records ≡ 1 → IfSome o (IsReadTo t P point before H records gate)
read_first None text t P point before H records gate h is same first none one = tt
read_first (Some file) text t P point before H records gate h is same first none one =
    let payloads : List Bytes = payloads_from file gate in
    let walked : IsWalked (has_points file) (text ∷ payloads) None = subst (λ (l : List Bytes). IsWalked (has_points file) l None) h.0 h.1 in
    let no_point : parted_with (has_points file) payloads ≡ None = none_at text (parted_with (has_points file) payloads) walked.1 in record {
      payloads = payloads;
      counts = h.0 ∙ ap (λ (x : Bytes). x ∷ payloads) (sym same);
      short = subst (λ (x : Bytes). first_long 0 first_gate (x ∷ payloads) ≡ None) (sym same) walked.0;
      begins = subst (λ (o : Option Parted). BeginsAt o point before) (sym no_point) first;
      says = λ T start.
          let gates : next_gate first_gate t ≡ gate = ap (next_gate first_gate) same ∙ sym is in
          ap (λ (o : Option Parted). found_from P T t payloads o) no_point
          ∙ (λ i. found_behind (steps_after T) t P (sym none i) (sym one i) (gates i) payloads);
    }

parted_whole : (payloads : List Bytes) (p : Parted) → parted payloads ≡ Some p → payloads ≡ p.before ++ p.point ∷ p.behind
parted_whole [] p is = absurd (let no : None ≡ Some p = is in cc no)
parted_whole (payload ∷ payloads) p is = by (parted payloads) refl (λ q at. parted_whole payloads q at) (is_point payload) is
  where
    by : (o : Option Parted) → parted payloads ≡ o → ((q : Parted) → parted payloads ≡ Some q → payloads ≡ q.before ++ q.point ∷ q.behind) → (b : Bool)
        → option_or (option_map (preceded_by payload) o) (cond b (Some (record { before = []; point = payload; behind = payloads })) None) ≡ Some p
        → payload ∷ payloads ≡ p.before ++ p.point ∷ p.behind
    by (Some q) at whole b k =
        let same : preceded_by payload q ≡ p = ap (λ (o : Option Parted). unwrap_or o p) k in
        ap (λ (l : List Bytes). payload ∷ l) (whole q at) ∙ ap (λ (x : Parted). x.before ++ x.point ∷ x.behind) same
    by None at whole true k =
        let same : record { before = []; point = payload; behind = payloads } ≡ p = ap (λ (o : Option Parted). unwrap_or o p) k in
        ap (λ (x : Parted). x.before ++ x.point ∷ x.behind) same
    by None at whole false k = absurd (let no : None ≡ Some p = k in cc no)

with_whole : (points : Bool) (payloads : List Bytes) (p : Parted) → parted_with points payloads ≡ Some p → payloads ≡ p.before ++ p.point ∷ p.behind
with_whole true payloads p is = parted_whole payloads p is
with_whole false payloads p is = absurd (let no : None ≡ Some p = is in cc no)

-- the last checkpoint is there
pub record HasLast (text : Bytes) (o : Option Parted) (last : LastPoint) : Type 0 where
  pub p : Parted
  pub is : o ≡ Some p
  pub number : last.number ≡ length p.before + 1
  pub place : last.place ≡ gate_behind (next_gate first_gate text) p.before
  pub entries : last.entries ≡ steps_among p.before

has_last : (text : Bytes) (o : Option Parted) (last : LastPoint) → IsAtParted text o (Some last) → HasLast text o last
has_last text None last h = absurd (let no : Some last ≡ None = h in cc no)
has_last text (Some p) last h = record { p = p; is = refl; number = h.0; place = h.1; entries = h.2 }

-- a walk has come to the last checkpoint
module _ (file text : Bytes) (gate : ℕ) (last : LastPoint) (counts : counted file ≡ text ∷ payloads_from file gate) (walked : IsWalked (has_points file) (counted file) (Some last)) (is : gate ≡ 13 + length text) where
  abbrev payloads : List Bytes
  payloads = payloads_from file gate

  there : IsWalked (has_points file) (text ∷ payloads) (Some last)
  there = subst (λ (l : List Bytes). IsWalked (has_points file) l (Some last)) counts walked

  pub at : HasLast text (parted_with (has_points file) payloads) last
  at = has_last text (parted_with (has_points file) payloads) last there.1

  -- the records up to it
  pub comes_to : IsUpTo last at.p 1 gate file
  comes_to = record {
    rest = at.p.before;
    are = with_whole (has_points file) payloads at.p at.is;
    count = omega (arith, at.number);
    place = ap (λ (n : ℕ). gate_behind n at.p.before) is ∙ sym at.place;
    short = ap (λ (n : ℕ). first_long 1 n payloads) is ∙ rest_short text payloads 0 first_gate there.0;
  }

  -- and it, taken
  module _ (payload : Bytes) (next : ℕ) (taken_so : IsTaken last at.p payload next file) (P : PlainPolicy) where
    pub read_behind : IsReadTo text P (Some payload) last.entries [] (last.number + 1) next file
    read_behind = record {
      payloads = payloads;
      counts = counts;
      short = there.0;
      begins = subst (λ (o : Option Parted). BeginsAt o (Some payload) last.entries) (sym at.is) (ap (λ (x : Bytes). Some x) taken_so.is, at.entries);
      says = λ T start.
          let number : length at.p.before + 2 ≡ last.number + 1 = omega (arith, at.number) in
          let place : next_gate (gate_behind (next_gate first_gate text) at.p.before) at.p.point ≡ next =
          ap (λ (n : ℕ). next_gate n at.p.point) (sym at.place) ∙ sym taken_so.place in
          ap (λ (o : Option Parted). found_from P T text payloads o) at.is
          ∙ (λ i. found_behind (steps_after T) text P [] (number i) (place i) (sym taken_so.behind i));
    }

    pub sees_no_point : accepted text ≡ Some P → IsOfNone last.entries payload → Sees file (opened.damaged last.number last.place)
    sees_no_point accepts none =
        sees_past file text P accepts payloads counts there.0 (opened.damaged last.number last.place)
        (subst (λ (o : Option Parted). SeesPast None text (Some P) o (found file) (opened.damaged last.number last.place)) (sym at.is)
        (inl (
          λ Q U point. none Q U (subst (λ (z : ℕ × Bytes). IsPointOf z.0 Q U z.1) (λ i. (sym at.entries i, sym taken_so.is i)) point),
          λ i. opened.damaged (at.number i) (at.place i),
        )))

-- ---- record after record, where the disk tells

module _ (text : Bytes) (P : PlainPolicy) (accepts : accepted text ≡ Some P) (point : Option Bytes) (before : ℕ) (H : History) (number gate : ℕ) where
  pub read_next : (o : Option Bytes) (later : History) (next : ℕ) (payload : Bytes) → IfSome o (IsReadTo text P point before H number gate)
      → IfSome o (λ file. payloads_from file gate ≡ payload ∷ payloads_from file next) → next ≡ gate + 5 + length payload
      → ((T : Trace) → IsStart P point before T → steps_after T text P H payload ≡ Some later) → IfSome o (IsReadTo text P point before later (number + 1) next)
  read_next None later next payload r more on takes = tt
  read_next (Some file) later next payload r more on takes = record {
    payloads = r.payloads;
    counts = r.counts;
    short = r.short;
    begins = r.begins;
    says = λ T start. r.says T start ∙ (ap (found_behind (steps_after T) text P H number gate) more
        ∙ (step_right (steps_after T) text P H later number gate payload (payloads_from file next) (takes T start)
        ∙ ap (λ n. found_behind (steps_after T) text P later (number + 1) n (payloads_from file next)) (sym on)));
  }

  sees_wrong : (file : Bytes) (payload : Bytes) (payloads : List Bytes) → IsReadTo text P point before H number gate file → payloads_from file gate ≡ payload ∷ payloads
      → (T : Trace) → IsStart P point before T → steps_after T text P H payload ≡ None → Sees file (opened.damaged number gate)
  sees_wrong file payload payloads r more T start wrong =
      subst (λ (f : Finding). Sees file (seen_after before T f))
      (ap (found_behind (steps_after T) text P H number gate) more ∙ step_wrong (steps_after T) text P H number gate payload payloads wrong)
      (sees_read text P point before (λ U. found_behind (steps_after U) text P H number gate (payloads_from file gate)) file accepts r T start)

  pub read_wrong : (o : Option Bytes) (next : ℕ) (payload : Bytes) → IfSome o (IsReadTo text P point before H number gate)
      → IfSome o (λ file. payloads_from file gate ≡ payload ∷ payloads_from file next) → (T : Trace) → IsStart P point before T → steps_after T text P H payload ≡ None
      → IfSome o (λ file. Sees file (opened.damaged number gate))
  read_wrong None next payload r more T start wrong = tt
  read_wrong (Some file) next payload r more T start wrong = sees_wrong file payload (payloads_from file next) r more T start wrong

  pub read_long : (o : Option Bytes) → IfSome o (IsReadTo text P point before H number gate)
      → IfSome o (λ file. (p : Bytes) × (ps : List Bytes) × (payloads_from file gate ≡ p ∷ ps) × (most_payload < length p)) → (T : Trace) → IsStart P point before T
      → IfSome o (λ file. Sees file (opened.damaged number gate))
  read_long None r long T start = tt
  read_long (Some file) r long T start = sees_wrong file long.0 long.1 r long.2 T start (long_after T text P H long.0 long.3)

  pub read_ended : (o : Option Bytes) → IfSome o (IsReadTo text P point before H number gate) → IfSome o (λ file. payloads_from file gate ≡ []) → IfSome o (IsReadWhole text P point before H)
  read_ended None r none = tt
  read_ended (Some file) r none = (
    gate,
    record {
      payloads = r.payloads;
      counts = r.counts;
      short = r.short;
      begins = r.begins;
      says = λ T start. r.says T start ∙ ap (found_behind (steps_after T) text P H number gate) none;
    },
  )

-- the same is read where the disk, the text, the policy and the beginning are the same
pub read_moved : (o n : Option Bytes) (t t' : Bytes) (P P' : PlainPolicy) (point point' : Option Bytes) (before before' : ℕ) (H : History) (m gate : ℕ) → n ≡ o → t' ≡ t → P' ≡ P → point' ≡ point
    → before' ≡ before → IfSome o (IsReadTo t P point before H m gate) → IfSome n (IsReadTo t' P' point' before' H m gate)
read_moved o n t t' P P' point point' before before' H m gate disk text policy same_point same_before r =
    subst (λ (z : Option Bytes × Bytes × PlainPolicy × Option Bytes × ℕ). IfSome z.0 (IsReadTo z.1 z.2 z.3 z.4 H m gate))
    (λ i. (sym disk i, sym text i, sym policy i, sym same_point i, sym same_before i)) r

-- ---- at the last checkpoint, where the disk tells

pub accepted_some : {A : Type 0} (text : Bytes) (policy : A → PlainPolicy) (o : Option A) → is_none o ≡ false → accepted text ≡ option_map policy o → (P : PlainPolicy) × (accepted text ≡ Some P)
accepted_some text policy None is reads = absurd (let bad : true ≡ false = is in cc bad)
accepted_some text policy (Some a) is reads = (policy a, reads)

-- a journal of which record 0 was taken, and a walk has found the last checkpoint
abbrev pub IsWalkedTo : Bytes → ℕ → LastPoint → Bytes → Type 0
IsWalkedTo text gate last file = (counted file ≡ text ∷ payloads_from file gate) × IsWalked (has_points file) (counted file) (Some last)

module _ (text : Bytes) (gate : ℕ) (last : LastPoint) (is : gate ≡ 13 + length text) where
  pub comes_told : (o : Option Bytes) → IfSome o (IsWalkedTo text gate last) → IfSome o (λ file. (p : Parted) × IsUpTo last p 1 gate file)
  comes_told None h = tt
  comes_told (Some file) h = let to = at file text gate last h.0 h.1 is in (to.p, comes_to file text gate last h.0 h.1 is)

  module _ (payload : Bytes) (next : ℕ) (P : PlainPolicy) where
    pub behind_told : (o : Option Bytes) → IfSome o (IsWalkedTo text gate last) → IfSome o (λ file. (p : Parted) → IsUpTo last p 1 gate file → IsTaken last p payload next file)
        → IfSome o (IsReadTo text P (Some payload) last.entries [] (last.number + 1) next)
    behind_told None h taken_so = tt
    behind_told (Some file) h taken_so =
        let to = at file text gate last h.0 h.1 is in
        read_behind file text gate last h.0 h.1 is payload next (taken_so to.p (comes_to file text gate last h.0 h.1 is)) P

    pub no_point_told : accepted text ≡ Some P → IsOfNone last.entries payload → (o : Option Bytes) → IfSome o (IsWalkedTo text gate last)
        → IfSome o (λ file. (p : Parted) → IsUpTo last p 1 gate file → IsTaken last p payload next file) → IfSome o (λ file. Sees file (opened.damaged last.number last.place))
    no_point_told accepts none None h taken_so = tt
    no_point_told accepts none (Some file) h taken_so =
        let to = at file text gate last h.0 h.1 is in
        sees_no_point file text gate last h.0 h.1 is payload next (taken_so to.p (comes_to file text gate last h.0 h.1 is)) P accepts none
