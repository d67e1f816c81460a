-- The first fault is where reading stops.
use Rattle.std.proofs.Common.{◌≡◌, inl, inr, List, [], ◌∷◌, ◌++◌, length, drop, Option, Some, None, Ok, Err, refl, sym, ap, ◌∙◌, append_assoc, subst, arith}
use Rattle.std.proofs.lemmas.List.{append-nil, append_cancel_right}
use Rattle.ucon_model.specs.Plain.{PlainPolicy}
use Rattle.ucon_base.specs.Tokens.{Token, Flaw}
use Rattle.ucon_model.specs.Forms.{Terminal, word, number, text, symbol, as_token, Limit, operand, item, level, Marked, bare, IsClean}
use Rattle.ucon_model.specs.Grammar.{a_policy}
use Rattle.ucon_model.specs.Spells.{Spelled, IsAlive, IsAliveWithin, IsJoined, Stands, Passes, TextFault, unknown_byte, overlong, too_many, too_deep, unexpected, flaw_in, fault_of_flaw, StopsAt, Stops, FirstFault}
use Rattle.ucon_token.specs.declared.stop.Cause.{Cause}
use Rattle.ucon_token.specs.declared.stop.Cause.TheVariants.{Unexpected, TooMany, TooDeep}
use Rattle.ucon_token.specs.Tokens.{first}
use Rattle.ucon_token.specs.Reading.{Halt}
use Rattle.ucon_syntax.specs.Policies.{policy_at, whole_at}
use Rattle.ucon_syntax.proofs.Marks.{clean_front, bare_append}
use Rattle.ucon_syntax.proofs.Keeping.{Beyond, Over}
use Rattle.ucon_syntax.proofs.Local.{left}
use Rattle.ucon_syntax.proofs.Firsts.{split_bare, bare_plain, Behind}
use Rattle.ucon_syntax.proofs.Exact.{Read, policy_finds, reads_mark, fault_name, passes_at, nil_over, goes_past}

-- what reading said, for a fault of this name
pub record ReadsFault (fault : TextFault) (ts rest : List Token) : Type 0 where
  pub cause : Cause
  pub stopped : whole_at ts ≡ Err (cause, rest)
  pub named : fault_name (flaw_in (first rest)) cause ≡ fault

-- tokens that were read begin a policy, and none of them has a flaw
record Consumed (used : List Token) (t : Token) : Type 0 where
  pub plain : flaw_in t ≡ None
  pub alive : IsAlive (used ++ t ∷ [])

clean_by : (ms front behind : List Marked) → ms ≡ front ++ behind → IsClean ms → IsClean front
clean_by ms front behind e c = clean_front front behind (subst IsClean e c)

consumed_by : (s : a_policy.Written) (front behind : List Marked) (used : List Token) (t : Token) (more : List Token) → a_policy.tokens s ≡ front ++ behind → a_policy.IsProper s → bare front ≡ used ++ t ∷ more → Consumed used t
consumed_by s front behind used t more whole proper e =
    let parts = split_bare front (used ++ t ∷ []) more (e ∙ sym (append_assoc used (t ∷ []) more)) in
    record {
      plain = bare_plain front used t more e;
      alive = record { written = s; front = parts.front; behind = parts.behind ++ behind; whole = whole ∙ ap (λ l. l ++ behind) parts.whole ∙ append_assoc parts.front parts.behind behind; tokens = parts.first; proper = proper };
    }

-- behind the token there is less
shift : (used : List Token) (t : Token) (r more l front : List Token) → r ≡ more ++ l → used ++ t ∷ r ≡ front ++ l → front ≡ used ++ t ∷ more
shift used t r more l front e f = append_cancel_right front (used ++ t ∷ more) l (sym f ∙ ap (λ z. used ++ t ∷ z) e ∙ sym (append_assoc used (t ∷ more) l))

consumed : (used : List Token) (t : Token) (r more : List Token) (x : Read) → policy_at (used ++ t ∷ r) ≡ x → r ≡ more ++ left x → Consumed used t
consumed used t r more (Ok y) e behind =
    let f = policy_finds.found (used ++ t ∷ r) y.0 y.1 e in
    consumed_by f.written (a_policy.tokens f.written) [] used t more (sym (append-nil (a_policy.tokens f.written))) f.proper (shift used t r more y.1 (bare (a_policy.tokens f.written)) behind f.text)
consumed used t r more (Err h) e behind =
    let f = policy_finds.stopped (used ++ t ∷ r) h e in
    consumed_by f.written f.front f.behind used t more f.whole f.proper (shift used t r more h.1 (bare f.front) behind f.text)

-- ---- the end

end_by : (fault : TextFault) (used : List Token) (x : Read) → policy_at used ≡ x → left x ≡ [] → Stops fault used [] → (whole_at used ≡ Err (Unexpected, [])) × (fault ≡ unexpected)
unfolding whole_at
end_by fault used (Ok y) e l s = absurd (no_fault fault s)
  where
    spelled : Spelled used y.0
    spelled =
        let f = policy_finds.found used y.0 y.1 e in
        record { written = f.written; tokens = sym (append-nil (bare (a_policy.tokens f.written))) ∙ ap (λ z. bare (a_policy.tokens f.written) ++ z) (sym l) ∙ sym f.text; tree = f.tree; proper = f.proper; clean = f.clean }

    no_fault : (g : TextFault) → Stops g used [] → ⊥
    no_fault unexpected stops = stops y.0 spelled
    no_fault g stops = stops
end_by fault used (Err h) e l s =
    let f = policy_finds.stopped used h e in
    let over : Over h.0 f.behind [] = (let P : List Token → Type 0 = λ z. Over h.0 f.behind z in subst P l f.over) in
    let c : h.0 ≡ Unexpected = nil_over h.0 f.behind over in
    (let given : policy_at used ≡ Err (Unexpected, []) = e ∙ ap (λ d. Err (d, h.1)) c ∙ ap (λ z. Err (Unexpected, z)) l in rw given refl, named fault s)
  where
    named : (g : TextFault) → Stops g used [] → g ≡ unexpected
    named unexpected stops = refl
    named g stops = absurd stops

-- ---- a token

-- where reading stops at a token that no policy has there, it stops as unexpected
unexpected_by : (used : List Token) (t : Token) (r : List Token) (h : Halt) → policy_at (used ++ t ∷ r) ≡ Err h → h.1 ≡ t ∷ r → (IsAlive (used ++ t ∷ []) → ⊥) → (Passes operand used t → ⊥) → h.0 ≡ Unexpected
unexpected_by used t r h e l dead none =
    let f = policy_finds.stopped (used ++ t ∷ r) h e in
    elim f.over [
      | inl c ↦ c
      | inr b ↦
          let b' : Beyond h.0 f.behind (t ∷ r) = (let P : List Token → Type 0 = λ z. Beyond h.0 f.behind z in subst P l b) in
          let same : bare f.front ≡ used = append_cancel_right (bare f.front) used (t ∷ r) (ap (λ z. bare f.front ++ z) (sym l) ∙ sym f.text) in
          let p : Passes b'.limit used t = (let P : List Token → Type 0 = λ z. Passes b'.limit z t in subst P same (passes_at f.written f.front f.behind t r h.0 f.whole f.proper f.clean b')) in
          absurd (by_stand b'.limit p p.stands)
    ]
  where
    goes_on : (limit : Limit) (p : Passes limit used t) → t ≡ as_token p.last → IsAlive (used ++ t ∷ [])
    goes_on limit p same = record {
      written = p.written;
      front = p.front ++ (p.last, Some limit) ∷ [];
      behind = p.behind;
      whole = p.whole ∙ sym (append_assoc p.front ((p.last, Some limit) ∷ []) p.behind);
      tokens = bare_append p.front ((p.last, Some limit) ∷ []) ∙ ap (λ z. z ++ as_token p.last ∷ []) p.tokens ∙ ap (λ u. used ++ u ∷ []) (sym same);
      proper = p.proper;
    }

    by_join : (limit : Limit) (u : Terminal) → Passes limit used t → IsJoined limit u t → ⊥
    by_join operand (word w) p j = none p
    by_join operand (number n) p j = j
    by_join operand (text w) p j = j
    by_join operand (symbol s) p j = j
    by_join item u p j = j
    by_join level u p j = j

    by_stand : (limit : Limit) (p : Passes limit used t) → Stands limit p.last t → ⊥
    by_stand limit p (inl same) = dead (goes_on limit p same)
    by_stand limit p (inr joined) = by_join limit p.last p joined

abbrev StopsHere : TextFault → List Token → Token → List Token → Option Flaw → Type 0
StopsHere fault used t r o = (c : Cause) × (whole_at (used ++ t ∷ r) ≡ Err (c, t ∷ r)) × (fault_name o c ≡ fault)

whole_err : (ts : List Token) (h : Halt) → policy_at ts ≡ Err h → whole_at ts ≡ Err h
unfolding whole_at
whole_err ts h e = rw e refl

whole_trails : (ts : List Token) (p : PlainPolicy) (t : Token) (r : List Token) → policy_at ts ≡ Ok (p, t ∷ r) → whole_at ts ≡ Err (Unexpected, t ∷ r)
unfolding whole_at
whole_trails ts p t r e = rw e refl

-- with a flaw, whatever the cause
flawed_here : (fault : TextFault) (used : List Token) (t : Token) (r : List Token) (flaw : Flaw) (x : Read) → policy_at (used ++ t ∷ r) ≡ x → left x ≡ t ∷ r → fault ≡ fault_of_flaw flaw → StopsHere fault used t r (Some flaw)
flawed_here fault used t r flaw (Ok y) e l f = (Unexpected, whole_trails (used ++ t ∷ r) y.0 t r (e ∙ ap (λ z. Ok (y.0, z)) l), sym f)
flawed_here fault used t r flaw (Err h) e l f = (h.0, whole_err (used ++ t ∷ r) (h.0, t ∷ r) (e ∙ ap (λ z. Err (h.0, z)) l), sym f)

plain_here : (used : List Token) (t : Token) (r : List Token) (x : Read) → policy_at (used ++ t ∷ r) ≡ x → left x ≡ t ∷ r → (IsAlive (used ++ t ∷ []) → ⊥) → (Passes operand used t → ⊥) → StopsHere unexpected used t r None
plain_here used t r (Ok y) e l dead none = (Unexpected, whole_trails (used ++ t ∷ r) y.0 t r (e ∙ ap (λ z. Ok (y.0, z)) l), refl)
plain_here used t r (Err h) e l dead none =
    let c = unexpected_by used t r h e l dead none in
    (Unexpected, whole_err (used ++ t ∷ r) (Unexpected, t ∷ r) (e ∙ ap (λ z. Err (h.0, z)) l ∙ ap (λ d. Err (d, t ∷ r)) c), refl)

-- what was read past is no fault
at_token : (used : List Token) (t : Token) (r : List Token) → IsAliveWithin used → (Consumed used t → ⊥) → left (policy_at (used ++ t ∷ r)) ≡ t ∷ r
at_token used t r alive not_past = go (goes_past used (t ∷ r) alive)
  where
    go : Behind (t ∷ r) (left (policy_at (used ++ t ∷ r))) → left (policy_at (used ++ t ∷ r)) ≡ t ∷ r
    go b = by_between b.between b.same
      where
        by_between : (between : List Token) → t ∷ r ≡ between ++ left (policy_at (used ++ t ∷ r)) → left (policy_at (used ++ t ∷ r)) ≡ t ∷ r
        by_between [] e = sym e
        by_between (u ∷ more) e = absurd (not_past (consumed used t r more (policy_at (used ++ t ∷ r)) refl (ap (drop 1) e)))

token_by : (fault : TextFault) (used : List Token) (t : Token) (r : List Token) (o : Option Flaw) → flaw_in t ≡ o → IsAliveWithin used → StopsAt fault used t o → StopsHere fault used t r o
token_by fault used t r (Some flaw) is alive stop = flawed_here fault used t r flaw (policy_at (used ++ t ∷ r)) refl (at_token used t r alive (λ c. flaw_plain (sym is ∙ c.plain))) stop
  where
    flaw_plain : (let o : Option Flaw = Some flaw in o) ≡ None → ⊥
    flaw_plain e = cc
token_by unexpected used t r None is alive stop = plain_here used t r (policy_at (used ++ t ∷ r)) refl (at_token used t r alive (λ c. stop.0 c.alive)) stop.0 stop.1
token_by too_many used t r None is alive (inl p) = (TooMany, whole_err (used ++ t ∷ r) (TooMany, t ∷ r) (reads_mark operand used t r p), refl)
token_by too_many used t r None is alive (inr p) = (TooMany, whole_err (used ++ t ∷ r) (TooMany, t ∷ r) (reads_mark item used t r p), refl)
token_by too_deep used t r None is alive stop = (TooDeep, whole_err (used ++ t ∷ r) (TooDeep, t ∷ r) (reads_mark level used t r stop), refl)
token_by unknown_byte used t r None is alive stop = absurd stop
token_by overlong used t r None is alive stop = absurd stop

fault_by : (fault : TextFault) (used rest : List Token) → IsAliveWithin used → Stops fault used rest → ReadsFault fault (used ++ rest) rest
fault_by fault used [] alive stops =
    let l : left (policy_at used) ≡ [] = none_left (goes_past used [] alive) in
    let e = end_by fault used (policy_at used) refl l stops in
    record { cause = Unexpected; stopped = ap whole_at (append-nil used) ∙ e.0; named = sym e.1 }
  where
    nothing_behind : (between l : List Token) → [] ≡ between ++ l → l ≡ []
    nothing_behind [] l e = sym e
    nothing_behind (u ∷ between) l e = absurd (omega (arith, ap length e))

    none_left : Behind [] (left (policy_at (used ++ []))) → left (policy_at used) ≡ []
    none_left b = ap (λ z. left (policy_at z)) (sym (append-nil used)) ∙ nothing_behind b.between (left (policy_at (used ++ []))) b.same
fault_by fault used (t ∷ r) alive stops =
    let h = token_by fault used t r (flaw_in t) refl alive stops in
    record { cause = h.0; stopped = h.1; named = h.2 }

pub fault_again : (fault : TextFault) (ts rest : List Token) → FirstFault fault ts rest → ReadsFault fault ts rest
fault_again fault ts rest f =
    let P : List Token → Type 0 = λ z. ReadsFault fault z rest in
    subst P (sym f.tokens) (fault_by fault f.used rest f.alive f.stops)
