-- Reading gives the policy that the tokens spell, or else the first fault.
use Rattle.std.specs.Prelude.{⊤}
use Rattle.std.proofs.Common.{◌≡◌, ◌⊎◌, inl, inr, List, [], ◌∷◌, ◌++◌, length, length-append, Option, Some, None, Result, Ok, Err, refl, sym, ap, ◌∙◌, append_assoc, subst, arith}
use Rattle.std.proofs.lemmas.List.{append-nil}
use Rattle.ucon_model.specs.Plain.{PlainPolicy}
use Rattle.ucon_base.specs.Tokens.{Token, the_end, Flaw}
use Rattle.ucon_model.specs.Forms.{Terminal, as_token, Limit, operand, item, level, Marked, bare, IsClean}
use Rattle.ucon_model.specs.Grammar.{a_policy}
use Rattle.ucon_model.specs.Spells.{Spelled, IsAlive, IsAliveWithin, Stands, Passes, TextFault, too_many, too_deep, unexpected, flaw_in, fault_of_flaw, StopsAt, Stops, FirstFault}
use Rattle.ucon_token.specs.declared.stop.Cause.{Cause}
use Rattle.ucon_token.specs.declared.stop.Cause.TheVariants.{Unexpected, TooMany, TooDeep}
use Rattle.ucon_token.specs.Tokens.{first, is_word}
use Rattle.ucon_token.specs.Reading.{Halt}
use Rattle.ucon_syntax.specs.Policies.{policy_at, ended, whole_at}
use Rattle.ucon_syntax.proofs.Marks.{not_clean, bare_append}
use Rattle.ucon_syntax.proofs.Steps.{halted, bind_ok, bind_err}
use Rattle.ucon_syntax.proofs.Keeping.{cause_of, Beyond, Over, Finds, Breaks, Outcome}
use Rattle.ucon_syntax.proofs.Local.{left, moved, is_local, leaves_tail}
use Rattle.ucon_syntax.proofs.Wholes.{policy_ends, sound_policy}
use Rattle.ucon_syntax.proofs.Firsts.{same_mark, mark_behind, length-bare, Inside, Behind, apart}

pub policy_finds : Finds a_policy policy_at
policy_finds = (sound_policy {P = ⊤}).finds tt

abbrev pub Read : Type 0
Read = Result (PlainPolicy × List Token) Halt

at_end : policy_ends the_end
unfolding is_word
at_end = (refl, refl, refl)

-- ---- what a whole policy's tokens give

record Whole (s : a_policy.Written) : Type 0 where
  pub clean : IsClean (a_policy.tokens s)
  pub gives : policy_at (bare (a_policy.tokens s)) ≡ Ok (a_policy.tree s, [])

whole_again : (s : a_policy.Written) → a_policy.IsProper s → Whole s ⊎ Breaks (a_policy.tokens s) policy_at
whole_again s proper = go ((sound_policy {P = ⊤}).again.again s proper)
  where
    go : Outcome (a_policy.tokens s) (a_policy.tree s) policy_ends policy_at → Whole s ⊎ Breaks (a_policy.tokens s) policy_at
    go (inl r) = inl (record { clean = r.clean; gives = ap policy_at (sym (append-nil (bare (a_policy.tokens s)))) ∙ r.on [] at_end })
    go (inr b) = inr b

bare_mark : (ms front : List Marked) (t : Terminal) (o : Option Limit) (behind : List Marked) → ms ≡ front ++ (t, o) ∷ behind → bare ms ≡ bare front ++ as_token t ∷ bare behind
bare_mark ms front t o behind e = ap bare e ∙ bare_append front ((t, o) ∷ behind)

breaks_at : (s : a_policy.Written) (b : Breaks (a_policy.tokens s) policy_at) → policy_at (bare (a_policy.tokens s)) ≡ Err (cause_of b.limit, as_token b.last ∷ bare b.behind)
breaks_at s b = ap policy_at (bare_mark (a_policy.tokens s) b.front b.last (Some b.limit) b.behind b.whole) ∙ b.stops (as_token b.last) (bare b.behind) (inl refl)

never_clean : {Q : Type 0} (s : a_policy.Written) (front : List Marked) (t : Terminal) (l : Limit) (behind : List Marked) → a_policy.tokens s ≡ front ++ (t, Some l) ∷ behind → IsClean (a_policy.tokens s) → Q
never_clean s front t l behind e c = absurd (not_clean front t l behind (subst IsClean e c))

-- no whole policy gives one of these
abbrev Dead : Read → Type 0
Dead (Ok (p, [])) = ⊥
Dead (Ok (p, t ∷ r)) = ⊤
Dead (Err h) = h.0 ≡ Unexpected

no_cause : (l : Limit) → cause_of l ≡ Unexpected → ⊥
no_cause operand e = cc
no_cause item e = cc
no_cause level e = cc

dead_end : (s : a_policy.Written) → a_policy.IsProper s → (x : Read) → policy_at (bare (a_policy.tokens s)) ≡ x → Dead x → ⊥
dead_end s proper x e d = elim (whole_again s proper) [
  | inl w ↦ (let c : Dead (Ok (a_policy.tree s, [])) = subst Dead (sym e ∙ w.gives) d in c)
  | inr b ↦ no_cause b.limit (let c : Dead (Err (cause_of b.limit, as_token b.last ∷ bare b.behind)) = subst Dead (sym e ∙ breaks_at s b) d in c)
]

-- ---- a policy for the tokens, and back

ended_ok : (x : PlainPolicy × List Token) (p : PlainPolicy) → ended x ≡ Ok p → x ≡ (p, [])
ended_ok (q, []) p e = let same : q ≡ p = cc in ap (λ (y : PlainPolicy). (y, [])) same
ended_ok (q, t ∷ ts) p e = absurd cc

pub all_found : (ts : List Token) (p : PlainPolicy) → whole_at ts ≡ Ok p → Spelled ts p
unfolding whole_at
all_found ts p e =
    let a = bind_ok (policy_at ts) ended p e in
    let is = ended_ok a.0 p a.2 in
    let f = policy_finds.found ts p [] (a.1 ∙ ap (λ (x : PlainPolicy × List Token). Ok x) is) in
    record { written = f.written; tokens = sym (append-nil (bare (a_policy.tokens f.written))) ∙ sym f.text; tree = f.tree; proper = f.proper; clean = f.clean }

spelled_reads : (ts : List Token) (p : PlainPolicy) → Spelled ts p → policy_at ts ≡ Ok (p, [])
spelled_reads ts p s = elim (whole_again s.written s.proper) [
  | inl w ↦ ap policy_at (sym s.tokens) ∙ w.gives ∙ ap (λ (q : PlainPolicy). Ok (q, [])) s.tree
  | inr b ↦ never_clean s.written b.front b.last b.limit b.behind b.whole s.clean
]

pub all_again : (ts : List Token) (p : PlainPolicy) → Spelled ts p → whole_at ts ≡ Ok p
unfolding whole_at
all_again ts p s = let e = spelled_reads ts p s in rw e refl

-- ---- where reading stops

-- a token that passes a limit is where reading stops
pub reads_mark : (limit : Limit) (used : List Token) (t : Token) (r : List Token) → Passes limit used t → policy_at (used ++ t ∷ r) ≡ Err (cause_of limit, t ∷ r)
reads_mark limit used t r p = elim (whole_again p.written p.proper) [
  | inl w ↦ never_clean p.written p.front p.last limit p.behind p.whole w.clean
  | inr b ↦
      let s = same_mark p.front b.front p.last b.last limit b.limit p.behind b.behind p.clean b.clean (sym p.whole ∙ b.whole) in
      let stands : Stands b.limit b.last t = (let P : Limit → Type 0 = λ l. Stands l b.last t in subst P s.limits (let Q : Terminal → Type 0 = λ u. Stands limit u t in subst Q s.terminals p.stands)) in
      let same : used ≡ bare b.front = sym p.tokens ∙ ap bare s.fronts in
      ap (λ l. policy_at (l ++ t ∷ r)) same ∙ b.stops t r stands ∙ ap (λ l. Err (cause_of l, t ∷ r)) (sym s.limits)
]

alive_goes_on : (used : List Token) (t : Token) (r : List Token) (x : Read) → policy_at (used ++ t ∷ r) ≡ x → left x ≡ t ∷ r → ((after : List Token) → Dead (moved x (t ∷ after))) → IsAlive (used ++ t ∷ []) → ⊥
alive_goes_on used t r x e l dead a =
    let text : bare (a_policy.tokens a.written) ≡ used ++ t ∷ bare a.behind = ap bare a.whole ∙ bare_append a.front a.behind ∙ ap (λ z. z ++ bare a.behind) a.tokens ∙ append_assoc used (t ∷ []) (bare a.behind) in
    let goes : policy_at (used ++ t ∷ bare a.behind) ≡ moved x (t ∷ bare a.behind) = is_local policy_at (sound_policy {P = ⊤}).runs used t r (bare a.behind) (ap left e ∙ l) ∙ ap (λ z. moved z (t ∷ bare a.behind)) e in
    dead_end a.written a.proper (moved x (t ∷ bare a.behind)) (ap policy_at text ∙ goes) (dead (bare a.behind))

-- ---- the first fault

abbrev pub fault_name : Option Flaw → Cause → TextFault
fault_name (Some flaw) c = fault_of_flaw flaw
fault_name None Unexpected = unexpected
fault_name None TooMany = too_many
fault_name None TooDeep = too_deep

-- the token at which reading stopped passes a limit
pub passes_at : (s : a_policy.Written) (front behind : List Marked) (t : Token) (r : List Token) (c : Cause) → a_policy.tokens s ≡ front ++ behind → a_policy.IsProper s → IsClean front → (b : Beyond c behind (t ∷ r)) → Passes b.limit (bare front) t
passes_at s front behind t r c whole proper clean b =
    let same : b.token ≡ t = (let h = ap first b.is_rest in sym h) in
    record {
      written = s;
      front = front;
      last = b.last;
      behind = b.more;
      whole = whole ∙ ap (λ z. front ++ z) b.is_behind;
      tokens = refl;
      proper = proper;
      clean = clean;
      stands = let P : Token → Type 0 = λ u. Stands b.limit b.last u in subst P same b.stands;
    }

many_stop : (used : List Token) (t : Token) (l : Limit) → cause_of l ≡ TooMany → Passes l used t → StopsAt too_many used t None
many_stop used t operand e p = inl p
many_stop used t item e p = inr p
many_stop used t level e p = absurd cc

deep_stop : (used : List Token) (t : Token) (l : Limit) → cause_of l ≡ TooDeep → Passes l used t → StopsAt too_deep used t None
deep_stop used t operand e p = absurd cc
deep_stop used t item e p = absurd cc
deep_stop used t level e p = p

failed : Cause → List Token → Read
failed c l = Err (c, l)

cause_same : (c d : Cause) (l r : List Token) → failed c l ≡ failed d r → c ≡ d
unfolding failed
cause_same c d l r e = let i : halted c l ≡ halted d r = cc in ap (λ (h : Halt). h.0) i

unexpected_here : (used : List Token) (t : Token) (r : List Token) → policy_at (used ++ t ∷ r) ≡ Err (Unexpected, t ∷ r) → StopsAt unexpected used t None
unfolding failed
unexpected_here used t r e = (
  alive_goes_on used t r (Err (Unexpected, t ∷ r)) e refl (λ after. refl),
  λ p. no_cause operand (cause_same (cause_of operand) Unexpected (t ∷ r) (t ∷ r) (sym (reads_mark operand used t r p) ∙ e)),
)

stop_by : (s : a_policy.Written) (front behind : List Marked) (t : Token) (r : List Token) (c : Cause) (o : Option Flaw) → a_policy.tokens s ≡ front ++ behind → a_policy.IsProper s → IsClean front → Over c behind (t ∷ r) → policy_at (bare front ++ t ∷ r) ≡ Err (c, t ∷ r) → StopsAt (fault_name o c) (bare front) t o
stop_by s front behind t r c (Some flaw) whole proper clean over e = refl
stop_by s front behind t r Unexpected None whole proper clean over e = unexpected_here (bare front) t r e
stop_by s front behind t r TooMany None whole proper clean (inl x) e = absurd cc
stop_by s front behind t r TooMany None whole proper clean (inr b) e = many_stop (bare front) t b.limit b.cause (passes_at s front behind t r TooMany whole proper clean b)
stop_by s front behind t r TooDeep None whole proper clean (inl x) e = absurd cc
stop_by s front behind t r TooDeep None whole proper clean (inr b) e = deep_stop (bare front) t b.limit b.cause (passes_at s front behind t r TooDeep whole proper clean b)

pub nil_over : (c : Cause) (behind : List Marked) → Over c behind [] → c ≡ Unexpected
nil_over c behind (inl e) = e
nil_over c behind (inr b) = absurd (omega (arith, ap length b.is_rest))

not_spelled : (used : List Token) (c : Cause) → policy_at used ≡ Err (c, []) → (p : PlainPolicy) → Spelled used p → ⊥
not_spelled used c e p s = let g = spelled_reads used p s in cc

stops_at : (s : a_policy.Written) (front behind : List Marked) (rest : List Token) (c : Cause) → a_policy.tokens s ≡ front ++ behind → a_policy.IsProper s → IsClean front → Over c behind rest → policy_at (bare front ++ rest) ≡ Err (c, rest) → Stops (fault_name (flaw_in (first rest)) c) (bare front) rest
stops_at s front behind [] c whole proper clean over e =
    let P : Cause → Type 0 = λ d. Stops (fault_name None d) (bare front) [] in
    subst P (sym (nil_over c behind over)) (not_spelled (bare front) c (ap policy_at (sym (append-nil (bare front))) ∙ e))
stops_at s front behind (t ∷ r) c whole proper clean over e = stop_by s front behind t r c (flaw_in t) whole proper clean over e

stopped_fault : (ts : List Token) (h : Halt) → policy_at ts ≡ Err h → FirstFault (fault_name (flaw_in (first h.1)) h.0) ts h.1
stopped_fault ts h e =
    let f = policy_finds.stopped ts h e in
    record {
      used = bare f.front;
      tokens = f.text;
      alive = record { written = f.written; front = f.front; behind = f.behind; whole = f.whole; tokens = refl; proper = f.proper; clean = f.clean };
      stops = stops_at f.written f.front f.behind h.1 h.0 f.whole f.proper f.clean f.over (ap policy_at (sym f.text) ∙ e);
    }

-- a token behind a whole policy
trailing_by : (used : List Token) (t : Token) (r : List Token) (p : PlainPolicy) (o : Option Flaw) → policy_at (used ++ t ∷ r) ≡ Ok (p, t ∷ r) → StopsAt (fault_name o Unexpected) used t o
trailing_by used t r p (Some flaw) e = refl
trailing_by used t r p None e = (
  alive_goes_on used t r (Ok (p, t ∷ r)) e refl (λ after. tt),
  λ q. let g = reads_mark operand used t r q in cc,
)

trailing : (ts : List Token) (p : PlainPolicy) (t : Token) (r : List Token) → policy_at ts ≡ Ok (p, t ∷ r) → FirstFault (fault_name (flaw_in t) Unexpected) ts (t ∷ r)
trailing ts p t r e =
    let f = policy_finds.found ts p (t ∷ r) e in
    let ms = a_policy.tokens f.written in
    record {
      used = bare ms;
      tokens = f.text;
      alive = record { written = f.written; front = ms; behind = []; whole = sym (append-nil ms); tokens = refl; proper = f.proper; clean = f.clean };
      stops = trailing_by (bare ms) t r p (flaw_in t) (ap policy_at (sym f.text) ∙ e);
    }

ended_fault : (ts : List Token) (x : PlainPolicy × List Token) (h : Halt) → policy_at ts ≡ Ok x → ended x ≡ Err h → FirstFault (fault_name (flaw_in (first h.1)) h.0) ts h.1
ended_fault ts (q, []) h e f = absurd cc
ended_fault ts (q, t ∷ r) h e f =
    let same : halted Unexpected (t ∷ r) ≡ h = cc in
    let P : Halt → Type 0 = λ k. FirstFault (fault_name (flaw_in (first k.1)) k.0) ts k.1 in
    subst P same (trailing ts q t r e)

pub all_fault : (ts : List Token) (h : Halt) → whole_at ts ≡ Err h → FirstFault (fault_name (flaw_in (first h.1)) h.0) ts h.1
unfolding whole_at
all_fault ts h e =
    elim (bind_err (policy_at ts) ended h e) [
      | inl x ↦ stopped_fault ts h x
      | inr (x, y, z) ↦ ended_fault ts x h y z
    ]

-- ---- and back: the first fault is where reading stops

moved_left : (x : Read) (ts : List Token) → left (moved x ts) ≡ ts
moved_left (Ok x) ts = refl
moved_left (Err h) ts = refl

-- reading goes past what begins a policy
pub goes_past : (used rest : List Token) → IsAliveWithin used → Behind rest (left (policy_at (used ++ rest)))
goes_past used rest a =
    let tail = leaves_tail policy_at (sound_policy {P = ⊤}).runs (used ++ rest) in
    elim (apart used rest tail.used (left (policy_at (used ++ rest))) tail.same) [
      | inr b ↦ b
      | inl i ↦ absurd (stuck i)
    ]
  where
    stuck : {pre : List Token} → Inside used pre rest (left (policy_at (used ++ rest))) → ⊥
    stuck {pre} i =
        let after = i.more ++ bare a.behind in
        let here : used ++ rest ≡ pre ++ i.token ∷ (i.more ++ rest) = ap (λ z. z ++ rest) i.within ∙ append_assoc pre (i.token ∷ i.more) rest in
        let lefts : left (policy_at (pre ++ i.token ∷ (i.more ++ rest))) ≡ i.token ∷ (i.more ++ rest) = ap (λ z. left (policy_at z)) (sym here) ∙ i.left_is in
        let goes : policy_at (pre ++ i.token ∷ after) ≡ moved (policy_at (pre ++ i.token ∷ (i.more ++ rest))) (i.token ∷ after) = is_local policy_at (sound_policy {P = ⊤}).runs pre i.token (i.more ++ rest) after lefts in
        let text : bare (a_policy.tokens a.written) ≡ pre ++ i.token ∷ after = ap bare a.whole ∙ bare_append a.front a.behind ∙ ap (λ z. z ++ bare a.behind) (a.tokens ∙ i.within) ∙ append_assoc pre (i.token ∷ i.more) (bare a.behind) in
        let stops : left (policy_at (bare (a_policy.tokens a.written))) ≡ i.token ∷ after = ap (λ z. left (policy_at z)) text ∙ ap left goes ∙ moved_left (policy_at (pre ++ i.token ∷ (i.more ++ rest))) (i.token ∷ after) in
        elim (whole_again a.written a.proper) [
          | inl w ↦ absurd (omega (arith, ap length (sym (ap left w.gives) ∙ stops)))
          | inr b ↦
              let shorter = mark_behind a.front a.behind b.front b.last b.limit b.behind a.clean (sym a.whole ∙ b.whole) in
              let long = ap length (sym (ap left (breaks_at a.written b)) ∙ stops) in
              absurd (omega (arith, shorter, long, length-append i.more (bare a.behind), length-bare a.behind, length-bare b.behind))
        ]
